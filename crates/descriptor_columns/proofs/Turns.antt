-- The turns of the loop that fills the columns, with its levels in an array. Assumes nothing.
use Prim.Native.Nat.{ℕ, suc, ◌+◌, ◌-◌, ◌≤◌, ◌<◌}
use mathlib.Core.Path.{◌≡◌, refl, sym, ap, ◌∙◌, subst}
use mathlib.Core.List.{List, [], ◌∷◌}
use mathlib.Core.Bool.{Bool, true, false}
use lib.Dec.{eqb}
use lib.ListN.{length, set, get_or, length-set}
use native.Mathlib.Omega.{arith}
use Rattle.algebra.specs.Reader.{pick}
use Rattle.descriptor_heads.specs.Heads.{Head, member_head}
use Rattle.descriptor_heads.specs.Rows.{row_end}
use Rattle.descriptor_raw.specs.Raw.{due_of, Sees}
use Rattle.descriptor_raw.specs.declared.RawHead.{RawHead}
use Rattle.descriptor_columns.specs.Columns.{next_of}
use Rattle.descriptor_columns.specs.scaffold.Filling.{first_in, length_in, next_in, depth_in, kind_in, depths, mark, dues, opens, puts, whole, Begun, rest, Done}
use Rattle.descriptor_columns.specs.declared.Level.{Level}
use Rattle.descriptor_columns.proofs.Levels.{level, nothing, levels, levels-length, levels-push, levels-pop, dues-length}
use Rattle.descriptor_columns.proofs.Stores.{Before, before_more, length-skips, next-skips, put-head, put-none, put-open, put-shut, shut_none}
use Rattle.descriptor_columns.proofs.Walking.{Walking, Headed, walk_start, walk-close, walk_end, walk-head, row_closes}

-- at each turn: the runs at the start, a to e, and as they are; the levels that are saved, and the innermost
pub record Loop (s : List ℕ) (rows : ℕ) (hs₀ : List Head) (a b c d e a' b' c' d' e' : List ℕ) (saved : List Level) (n : ℕ) (l : Level) (k at : ℕ) : Type 0 where
  pub hs : List Head
  pub walking : Walking s rows (dues (l ∷ levels saved n)) k at hs
  pub before : Before k at (l ∷ levels saved n)
  pub firsts : puts first_in k hs a' ≡ puts first_in 1 hs₀ a
  pub lengths : whole (length_in (length s)) k hs (opens (l ∷ levels saved n)) b' ≡ whole (length_in (length s)) 1 hs₀ ((0, mark 0 0) ∷ []) b
  pub nexts : whole (next_in rows) k hs (opens (l ∷ levels saved n)) c' ≡ whole (next_in rows) 1 hs₀ ((0, mark 0 0) ∷ []) c
  pub depths : puts depth_in k hs d' ≡ puts depth_in 1 hs₀ d
  pub kinds : puts kind_in k hs e' ≡ puts kind_in 1 hs₀ e
  pub la : length a' ≡ length a
  pub lb : length b' ≡ length b
  pub lc : length c' ≡ length c
  pub ld : length d' ≡ length d
  pub le : length e' ≡ length e
  pub room : length saved ≡ 33

pub pick-most : (b : Bool) (x y n : ℕ) → x ≤ n → y ≤ n → pick b x y ≤ n
pick-most true x y n l w = l
pick-most false x y n l w = w

-- the loop begins
pub start : (s : List ℕ) (what objects left at rows : ℕ) (a b c d e : List ℕ) (saved : List Level) → length saved ≡ 33 → Begun s what objects left at rows
    → Loop s rows (rest s what objects left at) a b c d e a b c d e saved 0 (level what objects left 0 0) 1 at
start s what objects left at rows a b c d e saved r g = record {
  hs = rest s what objects left at;
  walking = walk_start s what objects left at rows g;
  before = (omega arith, omega arith, tt);
  firsts = refl;
  lengths = refl;
  nexts = refl;
  depths = refl;
  kinds = refl;
  la = refl;
  lb = refl;
  lc = refl;
  ld = refl;
  le = refl;
  room = r;
}

module _ (s : List ℕ) (rows : ℕ) (hs₀ : List Head) (a b c d e : List ℕ) where
  module _ {a' b' c' d' e' : List ℕ} {saved : List Level} {n k at : ℕ} (l : Level) (g : Loop s rows hs₀ a b c d e a' b' c' d' e' saved n l k at) where
    abbrev pub ls : List Level
    ls = levels saved n

    many : length (dues ls) ≡ n
    many = dues-length ls ∙ levels-length saved n

    pub facts : (l.row < k) × (l.first ≤ at) × (k ≤ rows) × (at ≤ 16777216) × (rows ≤ 16777216) × (n ≤ 32) × (at ≤ length s)
    facts =
        let w = g.walking in
        (g.before.0, g.before.1, omega (arith, w.count), omega (arith, w.inside, w.size), w.few, omega (arith, w.deep, many), w.inside)

    pub ahead : (r : RawHead) → (l.left ≡ 0 → ⊥) → (at ≤ 16777216 → Sees (λ d. member_head d (due_of l.what l.objects) s at) r) → Headed s rows (due_of l.what l.objects) l.left (dues ls) k at g.hs r
    ahead r z h = walk-head z g.walking r (h facts.3)

    -- what is known before the row is stored
    pub seen : (r : RawHead) → (l.left ≡ 0 → ⊥) → (at ≤ 16777216 → Sees (λ d. member_head d (due_of l.what l.objects) s at) r) → (k < rows) × (at + 5 ≤ r.end) × (r.end ≤ 16777216) × (n ≤ 31) × (r.end ≤ length s) × (r.value ≤ 16777216)
    seen r z h =
        let t = ahead r z h in
        let w : length g.hs ≡ suc (length t.more) = ap length t.is in
        (omega (arith, g.walking.count, w), t.low, omega (arith, t.high, g.walking.size), omega (arith, t.shallow, many), t.high, omega (arith, t.valued, t.high, g.walking.size))

    -- the innermost level is over, and there is one around it
    pub turn-close : {b'' c'' : List ℕ} {v : ℕ} → l.left ≡ 0 → (n ≡ 0 → ⊥) → b'' ≡ set b' l.row (at - l.first) → c'' ≡ set c' l.row v → v ≡ pick (eqb (get_or saved (n - 1) nothing).left 0) rows k
        → Loop s rows hs₀ a b c d e a' b'' c'' d' e' saved (n - 1) (get_or saved (n - 1) nothing) k at
    turn-close {b''} {c''} {v} z w x y e =
        let m : Level = get_or saved (n - 1) nothing in
        let ms : List Level = levels saved (n - 1) in
        let pop : ls ≡ m ∷ ms = levels-pop saved n w in
        let walk = subst (λ (x : List Level). Walking s rows (dues x) k at g.hs) pop (walk-close z g.walking) in
        let cl = row_closes walk in
        let sz : suc (length (dues ms)) ≡ suc (length ms) = ap suc (dues-length ms) in
        let o = mark (suc (length ms)) l.first in
        record {
          hs = g.hs;
          walking = walk;
          before = subst (λ (x : List Level). Before k at x) pop g.before.2;
          firsts = g.firsts;
          lengths = put-shut (length_in (length s)) (length-skips (length s)) (λ h j hs. refl) l.row k o g.hs (opens (m ∷ ms)) b' (ap (λ (y : ℕ). row_end y g.hs (length s) - l.first) (sym sz) ∙ ap (λ (y : ℕ). y - l.first) cl.0) x
              (ap (λ (y : List Level). whole (length_in (length s)) k g.hs (opens (l ∷ y)) b') (sym pop) ∙ g.lengths);
          nexts = put-shut (next_in rows) (next-skips rows) (λ h j hs. refl) l.row k o g.hs (opens (m ∷ ms)) c' (ap (λ (y : ℕ). next_of rows y k (depths g.hs)) (sym sz) ∙ cl.1 ∙ sym e) y
              (ap (λ (y : List Level). whole (next_in rows) k g.hs (opens (l ∷ y)) c') (sym pop) ∙ g.nexts);
          depths = g.depths;
          kinds = g.kinds;
          la = g.la;
          lb = ap length x ∙ length-set b' l.row (at - l.first) ∙ g.lb;
          lc = ap length y ∙ length-set c' l.row v ∙ g.lc;
          ld = g.ld;
          le = g.le;
          room = g.room;
        }

    -- the root's level is over
    pub turn_end : {b'' c'' : List ℕ} → l.left ≡ 0 → n ≡ 0 → b'' ≡ set b' l.row (at - l.first) → c'' ≡ set c' l.row rows → Done s rows hs₀ a b c d e a' b'' c'' d' e'
    unfolding row_end next_of
    turn_end z w x y =
        let none : ls ≡ [] = ap (levels saved) w in
        let walk = subst (λ (x : List Level). Walking s rows (dues x) k at g.hs) none (walk-close z g.walking) in
        let end = walk_end walk in
        record {
          firsts = put-none first_in k a' end.0 g.firsts;
          lengths = shut_none (length_in (length s)) k _ end.0 (put-shut (length_in (length s)) (length-skips (length s)) (λ h j hs. refl) l.row k (mark 0 l.first) g.hs [] b'
              (ap (λ (y : List Head). row_end 0 y (length s) - l.first) end.0 ∙ ap (λ (y : ℕ). y - l.first) (sym end.1)) x (ap (λ (y : List Level). whole (length_in (length s)) k g.hs (opens (l ∷ y)) b') (sym none) ∙ g.lengths));
          nexts = shut_none (next_in rows) k _ end.0 (put-shut (next_in rows) (next-skips rows) (λ h j hs. refl) l.row k (mark 0 l.first) g.hs [] c'
              (ap (λ (y : List Head). next_of rows 0 k (depths y)) end.0) y (ap (λ (y : List Level). whole (next_in rows) k g.hs (opens (l ∷ y)) c') (sym none) ∙ g.nexts));
          depths = put-none depth_in k d' end.0 g.depths;
          kinds = put-none kind_in k e' end.0 g.kinds;
        }

    -- a head
    module _ (r : RawHead) (z : l.left ≡ 0 → ⊥) (h : at ≤ 16777216 → Sees (λ d. member_head d (due_of l.what l.objects) s at) r) where
      abbrev pub less : Level
      less = level l.what l.objects (l.left - 1) l.row l.first

      tall : suc (length (dues ls)) ≡ suc (length ls)
      tall = ap suc (dues-length ls)

      deep : (ahead r z h).h.depth ≡ n + 1
      deep = let t = ahead r z h in omega (arith, t.depth, many)

      -- with no children
      pub turn-leaf : {a'' b'' c'' d'' e'' : List ℕ} {v : ℕ} → r.count ≡ 0 → a'' ≡ set a' k at → b'' ≡ set b' k (r.end - at) → c'' ≡ set c' k v → v ≡ pick (eqb (l.left - 1) 0) rows (k + 1) → d'' ≡ set d' k (n + 1) → e'' ≡ set e' k r.kind
          → Loop s rows hs₀ a b c d e a'' b'' c'' d'' e'' saved n (level l.what l.objects (l.left - 1) l.row l.first) (k + 1) r.end
      turn-leaf {v = v} zr xa xb xc e xd xe =
          let t = ahead r z h in
          let walk = walk-close zr t.next in
          let cl = row_closes walk in
          let dp : t.h.depth ≡ suc (length ls) = t.depth ∙ tall in
          let o = mark (suc (length ls)) at in
          record {
            hs = t.more;
            walking = walk;
            before = before_more k at (k + 1) r.end (omega arith) (omega (arith, t.low)) (less ∷ ls) g.before;
            firsts = put-head first_in k a' t.is t.first xa g.firsts;
            lengths = put-shut (length_in (length s)) (length-skips (length s)) (λ h j hs. refl) k (k + 1) o t.more (opens (less ∷ ls)) b' (ap (λ (y : ℕ). row_end y t.more (length s) - at) (sym tall) ∙ ap (λ (y : ℕ). y - at) cl.0) xb
                (put-open (length_in (length s)) (length-skips (length s)) (λ h j hs. refl) k (l ∷ ls) b' t.is dp t.first (omega arith) g.before g.lengths);
            nexts = put-shut (next_in rows) (next-skips rows) (λ h j hs. refl) k (k + 1) o t.more (opens (less ∷ ls)) c' (ap (λ (y : ℕ). next_of rows y (k + 1) (depths t.more)) (sym tall) ∙ cl.1 ∙ sym e) xc
                (put-open (next_in rows) (next-skips rows) (λ h j hs. refl) k (l ∷ ls) c' t.is dp t.first (omega arith) g.before g.nexts);
            depths = put-head depth_in k d' t.is deep xd g.depths;
            kinds = put-head kind_in k e' t.is t.kind xe g.kinds;
            la = ap length xa ∙ length-set a' k at ∙ g.la;
            lb = ap length xb ∙ length-set b' k (r.end - at) ∙ g.lb;
            lc = ap length xc ∙ length-set c' k v ∙ g.lc;
            ld = ap length xd ∙ length-set d' k (n + 1) ∙ g.ld;
            le = ap length xe ∙ length-set e' k r.kind ∙ g.le;
            room = g.room;
          }

      -- with children
      pub turn-open : {a'' d'' e'' : List ℕ} → a'' ≡ set a' k at → d'' ≡ set d' k (n + 1) → e'' ≡ set e' k r.kind
          → Loop s rows hs₀ a b c d e a'' b' c' d'' e'' (set saved n (level l.what l.objects (l.left - 1) l.row l.first)) (n + 1) (level r.what r.objects r.count k at) (k + 1) r.end
      turn-open xa xd xe =
          let t = ahead r z h in
          let new : Level = level r.what r.objects r.count k at in
          let push : less ∷ ls ≡ levels (set saved n less) (n + 1) = sym (levels-push saved n less (omega (arith, facts.5, g.room))) in
          let dp : t.h.depth ≡ suc (length ls) = t.depth ∙ tall in
          record {
            hs = t.more;
            walking = subst (λ (x : List Level). Walking s rows (dues (new ∷ x)) (k + 1) r.end t.more) push t.next;
            before = subst (λ (x : List Level). Before (k + 1) r.end (new ∷ x)) push (omega arith, omega (arith, t.low), before_more k at (k + 1) r.end (omega arith) (omega (arith, t.low)) (less ∷ ls) g.before);
            firsts = put-head first_in k a' t.is t.first xa g.firsts;
            lengths = ap (λ (x : List Level). whole (length_in (length s)) (k + 1) t.more (opens (new ∷ x)) b') (sym push)
                ∙ put-open (length_in (length s)) (length-skips (length s)) (λ h j hs. refl) k (l ∷ ls) b' t.is dp t.first (omega arith) g.before g.lengths;
            nexts = ap (λ (x : List Level). whole (next_in rows) (k + 1) t.more (opens (new ∷ x)) c') (sym push)
                ∙ put-open (next_in rows) (next-skips rows) (λ h j hs. refl) k (l ∷ ls) c' t.is dp t.first (omega arith) g.before g.nexts;
            depths = put-head depth_in k d' t.is deep xd g.depths;
            kinds = put-head kind_in k e' t.is t.kind xe g.kinds;
            la = ap length xa ∙ length-set a' k at ∙ g.la;
            lb = g.lb;
            lc = g.lc;
            ld = ap length xd ∙ length-set d' k (n + 1) ∙ g.ld;
            le = ap length xe ∙ length-set e' k r.kind ∙ g.le;
            room = length-set saved n less ∙ g.room;
          }
