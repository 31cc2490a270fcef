-- The turns of the loop that compares: it is the loop that fills, on runs that stay as they are. Assumes nothing.
use Prim.Native.Nat.{ℕ, ◌+◌, ◌-◌, ◌≤◌, ◌<◌}
use mathlib.Core.Path.{◌≡◌, refl, sym, ap, ◌∙◌, subst}
use mathlib.Core.List.{List, [], ◌∷◌}
use lib.Dec.{eqb}
use lib.ListN.{length, set, get_or}
use lib.Seq.{set-get_or, get_or-set_same, get_or-set_other}
use native.Mathlib.Omega.{arith}
use Rattle.algebra.specs.Reader.{pick}
use Rattle.descriptor_heads.specs.Heads.{Head, member_head}
use Rattle.descriptor_raw.specs.Raw.{due_of, Sees}
use Rattle.descriptor_raw.specs.declared.RawHead.{RawHead}
use Rattle.descriptor_columns.specs.scaffold.Filling.{Entry, opens, puts, shuts, whole, Begun, rest, Done}
use Rattle.descriptor_columns.specs.declared.Level.{Level}
use Rattle.descriptor_columns.proofs.Levels.{level, nothing, levels, levels-push, levels-pop}
use Rattle.descriptor_columns.proofs.Stores.{Before}
use Rattle.descriptor_columns.proofs.Turns as T
use Rattle.descriptor_columns.proofs.Turns.{Loop}

-- ---- what is stored later leaves a number alone

-- rows of levels, each before the one inside it
abbrev pub Below : ℕ → List Level → Type 0
Below r [] = Unit {0}
Below r (l ∷ ls) = (l.row < r) × Below r ls

abbrev pub Falls : List Level → Type 0
Falls [] = Unit {0}
Falls (l ∷ ls) = Below l.row ls × Falls ls

pub puts-keep : (g : Entry) (k j : ℕ) (hs : List Head) (c : List ℕ) → j < k → get_or (puts g k hs c) j 0 ≡ get_or c j 0
unfolding puts
puts-keep g k j [] c l = refl
puts-keep g k j (h ∷ hs) c l = puts-keep g (k + 1) j hs (set c k (g h (k + 1) hs)) (omega arith) ∙ get_or-set_other c k j (g h (k + 1) hs) 0 (λ e. absurd (omega (arith, e, l)))

shuts-keep : (g : Entry) (k j : ℕ) (hs : List Head) (ls : List Level) (c : List ℕ) → Below j ls → get_or (shuts g k hs (opens ls) c) j 0 ≡ get_or c j 0
unfolding shuts
shuts-keep g k j hs [] c b = refl
shuts-keep g k j hs (l ∷ ls) c b = shuts-keep g k j hs ls _ b.1 ∙ get_or-set_other c l.row j _ 0 (λ e. absurd (omega (arith, e, b.0)))

-- a number that is stored, and then the whole column: where that leaves the run as it was, the number stood there
stood : (g : Entry) (k j : ℕ) (hs : List Head) (ls : List Level) (c : List ℕ) (v : ℕ) {t : List ℕ} → j < k → Below j ls → j < length c → whole g k hs (opens ls) (set c j v) ≡ t → c ≡ t → get_or c j 0 ≡ v
stood g k j hs ls c v l b m e f =
    ap (λ (x : List ℕ). get_or x j 0) (f ∙ sym e) ∙ puts-keep g k j hs (shuts g k hs (opens ls) (set c j v)) l ∙ shuts-keep g k j hs ls (set c j v) b ∙ get_or-set_same c j v 0 m

stood-head : (g : Entry) (k j : ℕ) (hs : List Head) (c : List ℕ) (v : ℕ) {t : List ℕ} → j < k → j < length c → puts g k hs (set c j v) ≡ t → c ≡ t → get_or c j 0 ≡ v
stood-head g k j hs c v l m e f = ap (λ (x : List ℕ). get_or x j 0) (f ∙ sym e) ∙ puts-keep g k j hs (set c j v) l ∙ get_or-set_same c j v 0 m

-- a number that stands there is stored in vain
pub kept : (c : List ℕ) (j v : ℕ) → get_or c j 0 ≡ v → c ≡ set c j v
kept c j v e = sym (ap (set c j) (sym e) ∙ set-get_or c j 0)

below-before : (k at : ℕ) (ls : List Level) → Before k at ls → Below k ls
below-before k at [] h = tt
below-before k at (l ∷ ls) h = (h.0, below-before k at ls h.2)

-- ---- turns

-- before each turn
pub record Comparing (s : List ℕ) (rows : ℕ) (hs₀ : List Head) (a b c d e : List ℕ) (saved : List Level) (n : ℕ) (l : Level) (k at : ℕ) : Type 0 where
  pub loop : Loop s rows hs₀ a b c d e a b c d e saved n l k at
  pub falls : Falls (l ∷ levels saved n)

-- storing the rows leaves the runs as they are
abbrev pub Stays : (s : List ℕ) (rows : ℕ) (hs₀ : List Head) (a b c d e : List ℕ) → Type 0
Stays s rows hs₀ a b c d e = Done s rows hs₀ a b c d e a b c d e

pub start : (s : List ℕ) (what objects left at rows : ℕ) (a b c d e : List ℕ) (saved : List Level) → length saved ≡ 33 → Begun s what objects left at rows
    → Comparing s rows (rest s what objects left at) a b c d e saved 0 (level what objects left 0 0) 1 at
start s what objects left at rows a b c d e saved r g = record { loop = T.start s what objects left at rows a b c d e saved r g; falls = (tt, tt) }

module _ {s : List ℕ} {rows : ℕ} {hs₀ : List Head} {a b c d e : List ℕ} {saved : List Level} {n k at : ℕ} (l : Level) (g : Comparing s rows hs₀ a b c d e saved n l k at) where
  pub facts : (l.row < k) × (l.first ≤ at) × (k ≤ rows) × (at ≤ 16777216) × (rows ≤ 16777216) × (n ≤ 32) × (at ≤ length s)
  facts = T.facts s rows hs₀ a b c d e l g.loop

  pub seen : (r : RawHead) → (l.left ≡ 0 → ⊥) → (at ≤ 16777216 → Sees (λ d. member_head d (due_of l.what l.objects) s at) r) → (k < rows) × (at + 5 ≤ r.end) × (r.end ≤ 16777216) × (n ≤ 31) × (r.end ≤ length s) × (r.value ≤ 16777216)
  seen r z h = T.seen s rows hs₀ a b c d e l g.loop r z h

  -- the innermost level is over, and there is one around it
  module _ (z : l.left ≡ 0) (w : n ≡ 0 → ⊥) {v : ℕ} (e' : v ≡ pick (eqb (get_or saved (n - 1) nothing).left 0) rows k) where
    pub turn-close : (get_or b l.row 0 ≡ at - l.first) × (get_or c l.row 0 ≡ v) → Comparing s rows hs₀ a b c d e saved (n - 1) (get_or saved (n - 1) nothing) k at
    turn-close h = record {
      loop = T.turn-close s rows hs₀ a b c d e l g.loop z w (kept b l.row (at - l.first) h.0) (kept c l.row v h.1) e';
      falls = subst (λ (x : List Level). Falls x) (levels-pop saved n w) g.falls.1;
    }

    pub told-close : l.row < length b → l.row < length c → Stays s rows hs₀ a b c d e → (get_or b l.row 0 ≡ at - l.first) × (get_or c l.row 0 ≡ v)
    told-close lb lc p =
        let t = T.turn-close s rows hs₀ a b c d e l g.loop {b'' = set b l.row (at - l.first)} {c'' = set c l.row v} z w refl refl e' in
        let ms : List Level = get_or saved (n - 1) nothing ∷ levels saved (n - 1) in
        let u = subst (λ (x : List Level). Below l.row x) (levels-pop saved n w) g.falls.0 in
        (stood _ k l.row t.hs ms b (at - l.first) facts.0 u lb t.lengths p.lengths, stood _ k l.row t.hs ms c v facts.0 u lc t.nexts p.nexts)

  -- the root's level is over
  module _ (z : l.left ≡ 0) (w : n ≡ 0) where
    pub turn_end : (get_or b l.row 0 ≡ at - l.first) × (get_or c l.row 0 ≡ rows) → Stays s rows hs₀ a b c d e
    turn_end h = T.turn_end s rows hs₀ a b c d e l g.loop z w (kept b l.row (at - l.first) h.0) (kept c l.row rows h.1)

    pub told-end : l.row < length b → l.row < length c → Stays s rows hs₀ a b c d e → (get_or b l.row 0 ≡ at - l.first) × (get_or c l.row 0 ≡ rows)
    told-end lb lc p =
        let t = T.turn_end s rows hs₀ a b c d e l g.loop {b'' = set b l.row (at - l.first)} {c'' = set c l.row rows} z w refl refl in (
          ap (λ (x : List ℕ). get_or x l.row 0) (p.lengths ∙ sym t.lengths) ∙ get_or-set_same b l.row (at - l.first) 0 lb,
          ap (λ (x : List ℕ). get_or x l.row 0) (p.nexts ∙ sym t.nexts) ∙ get_or-set_same c l.row rows 0 lc,
        )

  -- a head
  module _ (r : RawHead) (z : l.left ≡ 0 → ⊥) (h : at ≤ 16777216 → Sees (λ d. member_head d (due_of l.what l.objects) s at) r) where
    pub told-head : k < length a → k < length d → k < length e → Stays s rows hs₀ a b c d e → (get_or a k 0 ≡ at) × (get_or d k 0 ≡ n + 1) × (get_or e k 0 ≡ r.kind)
    told-head la ld le p =
        let t = T.turn-open s rows hs₀ a b c d e l g.loop r z h {a'' = set a k at} {d'' = set d k (n + 1)} {e'' = set e k r.kind} refl refl refl in (
          stood-head _ (k + 1) k t.hs a at (omega arith) la t.firsts p.firsts,
          stood-head _ (k + 1) k t.hs d (n + 1) (omega arith) ld t.depths p.depths,
          stood-head _ (k + 1) k t.hs e r.kind (omega arith) le t.kinds p.kinds,
        )

    module _ (y : (get_or a k 0 ≡ at) × (get_or d k 0 ≡ n + 1) × (get_or e k 0 ≡ r.kind)) where
      -- with no children
      module _ (zr : r.count ≡ 0) {v : ℕ} (e' : v ≡ pick (eqb (l.left - 1) 0) rows (k + 1)) where
        pub turn-leaf : (get_or b k 0 ≡ r.end - at) × (get_or c k 0 ≡ v) → Comparing s rows hs₀ a b c d e saved n (level l.what l.objects (l.left - 1) l.row l.first) (k + 1) r.end
        turn-leaf i = record {
          loop = T.turn-leaf s rows hs₀ a b c d e l g.loop r z h zr (kept a k at y.0) (kept b k (r.end - at) i.0) (kept c k v i.1) e' (kept d k (n + 1) y.1) (kept e k r.kind y.2);
          falls = g.falls;
        }

        pub told-leaf : k < length b → k < length c → Stays s rows hs₀ a b c d e → (get_or b k 0 ≡ r.end - at) × (get_or c k 0 ≡ v)
        told-leaf lb lc p =
            let t = T.turn-leaf s rows hs₀ a b c d e l g.loop r z h {b'' = set b k (r.end - at)} {c'' = set c k v} zr (kept a k at y.0) refl refl e' (kept d k (n + 1) y.1) (kept e k r.kind y.2) in
            let ls : List Level = level l.what l.objects (l.left - 1) l.row l.first ∷ levels saved n in
            let u = below-before k at (l ∷ levels saved n) g.loop.before in
            (stood _ (k + 1) k t.hs ls b (r.end - at) (omega arith) u lb t.lengths p.lengths, stood _ (k + 1) k t.hs ls c v (omega arith) u lc t.nexts p.nexts)

      -- with children
      pub turn-open : Comparing s rows hs₀ a b c d e (set saved n (level l.what l.objects (l.left - 1) l.row l.first)) (n + 1) (level r.what r.objects r.count k at) (k + 1) r.end
      turn-open =
          let less : Level = level l.what l.objects (l.left - 1) l.row l.first in record {
            loop = T.turn-open s rows hs₀ a b c d e l g.loop r z h (kept a k at y.0) (kept d k (n + 1) y.1) (kept e k r.kind y.2);
            falls = subst (λ (x : List Level). Below k x × Falls x) (sym (levels-push saved n less (omega (arith, facts.5, g.loop.room)))) (below-before k at (l ∷ levels saved n) g.loop.before, g.falls);
          }
