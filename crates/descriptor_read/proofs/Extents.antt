-- The turns of the loop that looks for one row. Assumes nothing.
use Prim.Native.Nat.{ℕ, zero, suc, ◌+◌, ◌-◌, ◌≤◌, ◌<◌}
use mathlib.Core.Path.{◌≡◌, refl, sym, ap, ◌∙◌, subst}
use mathlib.Core.Bool.{Bool}
use mathlib.Core.List.{List, [], ◌∷◌}
use lib.Dec.{eqb}
use lib.ListN.{length, set, get_or, length-set}
use borrow.Author.Tests.{eq-eqb, ne_eqb}
use native.Mathlib.Omega.{arith}
use Rattle.algebra.specs.Reader.{Res, map_res}
use Rattle.descriptor.specs.Reading.{Row, descriptor}
use Rattle.descriptor_heads.specs.Heads.{Head, Opened, member_head, root_head, file_heads}
use Rattle.descriptor_heads.specs.Rows.{row_end, now_under, rows_from, rows_of, heads_of}
use Rattle.descriptor_heads.proofs.Tiles.{end-deeper}
use Rattle.descriptor_heads.proofs.Theorem.{rows_are}
use Rattle.descriptor_heads.proofs.Past.{root-past}
use Rattle.descriptor.proofs.Ends.{accepted}
use Rattle.descriptor_judge.specs.Answer as A
use Rattle.descriptor_raw.specs.Raw.{due_of, Sees}
use Rattle.descriptor_raw.specs.declared.RawHead.{RawHead}
use Rattle.descriptor_columns.specs.scaffold.Filling.{dues, rest}
use Rattle.descriptor_columns.specs.declared.Level.{Level}
use Rattle.descriptor_columns.proofs.Levels.{level, nothing, levels, levels-length, levels-push, levels-pop, dues-length}
use Rattle.descriptor_columns.proofs.Walking.{Walking, Headed, walk_start, walk-close, walk_end, walk-head, row_closes}
use Rattle.descriptor_columns.proofs.Reading as R
use Rattle.descriptor_read.specs.declared.Met.{Met}
use Rattle.descriptor_read.specs.Values.{row_at, row_in}
use Rattle.descriptor_read.specs.scaffold.Values.{Extent', is, refused, extent_of}
use Rattle.descriptor_read.specs.scaffold.Extents.{Accepted, ending, extent_at, extent_in, met_by}

-- what is due at a level
abbrev pub due : ℕ → ℕ → ℕ → Level
due what objects left = level what objects left 0 0

-- before the row k, under d levels: the row that is asked for is ahead, or stands open at a depth that is none deeper
pub data Standing (row k d : ℕ) (m : Met) (at : ℕ) (hs : List Head) (e : ℕ) (x : Extent') : Type 0 where
  ahead : k ≤ row → m.depth ≡ 34 → x ≡ extent_at (row - k) hs e → Standing row k d m at hs e x
  inside : row < k → m.depth ≤ d → (first : ℕ) → first ≤ at → m.value ≤ at → x ≡ ending m.kind first m.value (row_end m.depth hs e) → Standing row k d m at hs e x

pub record Loop (s : List ℕ) (row : ℕ) (x : Extent') (saved : List Level) (d : ℕ) (l : Level) (m : Met) (k at : ℕ) : Type 0 where
  pub rows : ℕ
  pub hs : List Head
  pub walking : Walking s rows (dues (l ∷ levels saved d)) k at hs
  pub standing : Standing row k d m at hs (length s) x
  pub room : length saved ≡ 33

-- ---- a head

here-is : (k row : ℕ) → k ≡ row → (m : Met) (d : ℕ) (r : RawHead) → met_by m (eqb k row) d r ≡ record { depth = d; kind = r.kind; value = r.value }
here-is k row h m d r = ap (λ (b : Bool). met_by m b d r) (eq-eqb k row h)

not-here : (k row : ℕ) → (k ≡ row → ⊥) → (m : Met) (d : ℕ) (r : RawHead) → met_by m (eqb k row) d r ≡ m
not-here k row h m d r = ap (λ (b : Bool). met_by m b d r) (ne_eqb k row h)

extent-next : (j i : ℕ) (h : Head) (hs : List Head) (e : ℕ) → j ≡ suc i → extent_at j (h ∷ hs) e ≡ extent_at i hs e
unfolding extent_at
extent-next j i h hs e q = ap (λ (n : ℕ). extent_at n (h ∷ hs) e) q

extent-here : (j : ℕ) (h : Head) (hs : List Head) (e : ℕ) → j ≡ 0 → extent_at j (h ∷ hs) e ≡ ending h.kind h.first h.value (row_end h.depth hs e)
unfolding extent_at
extent-here j h hs e q = ap (λ (n : ℕ). extent_at n (h ∷ hs) e) q

extent-none : (j : ℕ) (e : ℕ) → extent_at j [] e ≡ refused 12 0
unfolding extent_at
extent-none zero e = refl
extent-none (suc j) e = refl

-- the head h of the row k, at the depth d, as it was seen
module _ {row k d at : ℕ} (m : Met) {h : Head} {more : List Head} {e : ℕ} {x : Extent'} (r : RawHead) (low : at ≤ r.end) (fi : h.first ≡ at) (de : h.depth ≡ d) (ki : h.kind ≡ r.kind) (va : h.value ≡ r.value) (vd : r.value ≤ r.end) where
  -- it is asked for
  meets : k ≡ row → x ≡ extent_at (row - k) (h ∷ more) e → Standing row (k + 1) d (met_by m (eqb k row) d r) r.end more e x
  meets q w =
      let y : x ≡ ending h.kind h.first h.value (row_end h.depth more e) = w ∙ extent-here (row - k) h more e (omega (arith, q)) in
      let z : x ≡ ending r.kind h.first r.value (row_end d more e) = y ∙ ap (λ (n : ℕ). ending n h.first h.value (row_end h.depth more e)) ki
      ∙ ap (λ (n : ℕ). ending r.kind h.first n (row_end h.depth more e)) va ∙ ap (λ (n : ℕ). ending r.kind h.first r.value (row_end n more e)) de in
      subst (λ (n : Met). Standing row (k + 1) d n r.end more e x) (sym (here-is k row q m d r))
      (inside (omega (arith, q)) (omega arith) h.first (omega (arith, fi, low)) vd z)

  approaches : k ≤ row → m.depth ≡ 34 → x ≡ extent_at (row - k) (h ∷ more) e → Standing row (k + 1) d (met_by m (eqb k row) d r) r.end more e x
  approaches l n w = go (row - k) refl
    where
      go : (j : ℕ) → row - k ≡ j → Standing row (k + 1) d (met_by m (eqb k row) d r) r.end more e x
      go zero q = meets (omega (arith, q, l)) w
      go (suc j) q =
          let ne : (k ≡ row → ⊥) = λ z. absurd (omega (arith, z, q)) in
          let i : row - k ≡ suc (row - (k + 1)) = omega (arith, q) in
          subst (λ (y : Met). Standing row (k + 1) d y r.end more e x) (sym (not-here k row ne m d r))
          (ahead (omega (arith, q)) n (w ∙ extent-next (row - k) (row - (k + 1)) h more e i))

  passes : (d₀ : ℕ) → d ≡ suc d₀ → Standing row k d₀ m at (h ∷ more) e x → Standing row (k + 1) d (met_by m (eqb k row) d r) r.end more e x
  passes d₀ dd (ahead l n w) = approaches l n w
  passes d₀ dd (inside l n first u v w) =
      let ne : (k ≡ row → ⊥) = λ z. absurd (omega (arith, z, l)) in
      subst (λ (y : Met). Standing row (k + 1) d y r.end more e x) (sym (not-here k row ne m d r))
      (inside (omega (arith, l)) (omega (arith, n, dd)) first (omega (arith, u, low)) (omega (arith, v, low)) (w ∙ ap (ending m.kind first m.value) (end-deeper m.depth h more e (omega (arith, n, dd, de)))))

  -- it is another row's, and has no children
  skips : (d₀ : ℕ) → d ≡ suc d₀ → (k ≡ row → ⊥) → Standing row k d₀ m at (h ∷ more) e x → Standing row (k + 1) d₀ m r.end more e x
  skips d₀ dd ne (ahead l n w) = ahead (omega (arith, l, ne)) n (w ∙ extent-next (row - k) (row - (k + 1)) h more e (omega (arith, l, ne)))
  skips d₀ dd ne (inside l n first u v w) =
      inside (omega (arith, l)) n first (omega (arith, u, low)) (omega (arith, v, low)) (w ∙ ap (ending m.kind first m.value) (end-deeper m.depth h more e (omega (arith, n, dd, de))))

-- ---- turns

module _ (s : List ℕ) (row : ℕ) (x : Extent') where
  module _ {saved : List Level} {d k at : ℕ} {m : Met} (l : Level) (g : Loop s row x saved d l m k at) where
    abbrev ls : List Level
    ls = levels saved d

    many : length (dues ls) ≡ d
    many = dues-length ls ∙ levels-length saved d

    pub facts : (k ≤ g.rows) × (at ≤ 16777216) × (g.rows ≤ 16777216) × (d ≤ 32) × (at ≤ length s)
    facts = let w = g.walking in (omega (arith, w.count), omega (arith, w.inside, w.size), w.few, omega (arith, w.deep, many), w.inside)

    pub turn-close : l.left ≡ 0 → (d ≡ m.depth → ⊥) → (d ≡ 0 → ⊥) → Loop s row x saved (d - 1) (due (get_or saved (d - 1) nothing).what (get_or saved (d - 1) nothing).objects (get_or saved (d - 1) nothing).left) m k at
    turn-close z n w = record {
      rows = g.rows;
      hs = g.hs;
      walking = subst (λ (y : List Level). Walking s g.rows (dues y) k at g.hs) (levels-pop saved d w) (walk-close z g.walking);
      standing = less g.standing;
      room = g.room;
    }
      where
        less : Standing row k d m at g.hs (length s) x → Standing row k (d - 1) m at g.hs (length s) x
        less (ahead a b c) = ahead a b c
        less (inside a b first u v c) = inside a (omega (arith, b, n, w)) first u v c

    -- the row ends where the level of its members does
    module _ (z : l.left ≡ 0) where
      ends : row_end d g.hs (length s) ≡ at
      unfolding row_end
      ends = go saved d (walk-close z g.walking)
        where
          go : (saved : List Level) (n : ℕ) → Walking s g.rows (dues (levels saved n)) k at g.hs → row_end n g.hs (length s) ≡ at
          go saved zero w = let e = walk_end w in ap (λ (y : List Head). row_end 0 y (length s)) e.0 ∙ sym e.1
          go saved (suc n) w =
              let e = (row_closes w).0 in
              let c : suc (length (dues (levels saved n))) ≡ suc n = ap suc (dues-length (levels saved n) ∙ levels-length saved n) in
              ap (λ (y : ℕ). row_end y g.hs (length s)) (sym c) ∙ e

      pub turn-found : d ≡ m.depth → (m.value ≤ at) × (is m.kind m.value (at - m.value) ≡ x)
      turn-found q = go g.standing
        where
          go : Standing row k d m at g.hs (length s) x → (m.value ≤ at) × (is m.kind m.value (at - m.value) ≡ x)
          go (ahead a b c) = absurd (omega (arith, b, q, facts.3))
          go (inside a b first u v c) =
              let n : at - m.value ≡ first + (at - first) - m.value = omega (arith, u) in
              (v, ap (is m.kind m.value) n ∙ ap (ending m.kind first m.value) (sym (ap (λ (y : ℕ). row_end y g.hs (length s)) (sym q) ∙ ends)) ∙ sym c)

      pub turn-none : (d ≡ m.depth → ⊥) → d ≡ 0 → refused 12 0 ≡ x
      turn-none n q = go g.standing
        where
          none : g.hs ≡ []
          none = (walk_end (subst (λ (y : List Level). Walking s g.rows (dues y) k at g.hs) (ap (levels saved) q) (walk-close z g.walking))).0

          go : Standing row k d m at g.hs (length s) x → refused 12 0 ≡ x
          go (ahead a b c) = sym (c ∙ ap (λ (y : List Head). extent_at (row - k) y (length s)) none ∙ extent-none (row - k) (length s))
          go (inside a b first u v c) = absurd (n (omega (arith, q, b)))

    module _ (r : RawHead) (z : l.left ≡ 0 → ⊥) (h : at ≤ 16777216 → Sees (λ d. member_head d (due_of l.what l.objects) s at) r) where
      front : Headed s g.rows (due_of l.what l.objects) l.left (dues ls) k at g.hs r
      front = walk-head z g.walking r (h facts.1)

      pub seen : (k < g.rows) × (at + 5 ≤ r.end) × (r.end ≤ length s) × (d ≤ 31)
      seen =
          let t = front in
          let w : length g.hs ≡ suc (length t.more) = ap length t.is in
          (omega (arith, g.walking.count, w), t.low, t.high, omega (arith, t.shallow, many))

      pub turn-head : {m' : Met} → m' ≡ met_by m (eqb k row) (d + 1) r → Loop s row x (set saved d (due l.what l.objects (l.left - 1))) (d + 1) (due r.what r.objects r.count) m' (k + 1) r.end
      turn-head mq =
          let t = front in
          let old : Level = due l.what l.objects (l.left - 1) in
          let push : old ∷ ls ≡ levels (set saved d old) (d + 1) = sym (levels-push saved d old (omega (arith, facts.3, g.room))) in
          let dd : d + 1 ≡ suc d = omega arith in
          let at-depth : t.h.depth ≡ d + 1 = t.depth ∙ ap suc many ∙ sym dd in
          let low : at ≤ r.end = omega (arith, t.low) in
          record {
            rows = g.rows;
            hs = t.more;
            walking = subst (λ (y : List Level). Walking s g.rows (dues (due r.what r.objects r.count ∷ y)) (k + 1) r.end t.more) push t.next;
            standing = subst (λ (y : Met). Standing row (k + 1) (d + 1) y r.end t.more (length s) x) (sym mq) (passes m r low t.first at-depth t.kind t.value t.valued d dd (subst (λ (y : List Head). Standing row k d m at y (length s) x) t.is g.standing));
            room = length-set saved d old ∙ g.room;
          }

      -- with no children
      pub turn-leaf : r.count ≡ 0 → (k ≡ row → ⊥) → Loop s row x saved d (due l.what l.objects (l.left - 1)) m (k + 1) r.end
      turn-leaf zr ne =
          let t = front in
          let dd : suc d ≡ suc d = refl in
          let at-depth : t.h.depth ≡ suc d = t.depth ∙ ap suc many in
          record {
            rows = g.rows;
            hs = t.more;
            walking = walk-close zr t.next;
            standing = skips m r (omega (arith, t.low)) t.first at-depth t.kind t.value t.valued d dd ne (subst (λ (y : List Head). Standing row k d m at y (length s) x) t.is g.standing);
            room = g.room;
          }

  -- the row that is asked for, with no children
  pub leaf-found : {saved : List Level} {d k at : ℕ} {m : Met} (l : Level) (g : Loop s row x saved d l m k at) (r : RawHead) → (l.left ≡ 0 → ⊥)
      → (at ≤ 16777216 → Sees (λ d. member_head d (due_of l.what l.objects) s at) r) → r.count ≡ 0 → k ≡ row → (r.value ≤ r.end) × (is r.kind r.value (r.end - r.value) ≡ x)
  leaf-found {saved} {d} {k} {at} {m} l g r z h zr q = turn-found (due r.what r.objects r.count) (turn-head l g r z h (sym (here-is k row q m (d + 1) r))) zr refl

-- ---- the root, and all rows

-- before the root's head
abbrev pub nowhere : Met
nowhere = record { depth = 34; kind = 0; value = 0 }

pub start : (s : List ℕ) (a : Accepted s) (row : ℕ) (saved : List Level) → length saved ≡ 33 → (u : RawHead) → Sees (λ d. root_head s 0) u
    → {m : Met} → m ≡ met_by nowhere (eqb 0 row) 0 u → Loop s row (extent_in row (file_heads s)) saved 0 (due u.what u.objects u.count) m 1 u.end
start s a row saved room u h {m} mq =
    let r = a.rooted in
    let t = R.parts s r.all (length s) r.reads in
    let y = h.sees 0 t.o t.q t.root in
    let past = accepted (root-past s) t.o t.q t.root in
    let e : ℕ = length s in
    let hd : Head = t.o.head in
    let os : List Head = heads_of t.os in
    let fi : hd.first ≡ 0 = t.lies.first in
    let row_is : row ≡ row - 0 = omega arith in
    let x-is : extent_in row (file_heads s) ≡ extent_at (row - 0) (hd ∷ os) e = ap (extent_in row) r.reads ∙ ap (λ (l : List Opened). extent_at row (heads_of l) e) t.is ∙ ap (λ (n : ℕ). extent_at n (hd ∷ os) e) row_is in
    let vd : u.value ≤ u.end = omega (arith, y.4, y.3, t.lies.value, past.low) in
    let low : 0 ≤ u.end = omega arith in
    let st : Standing row 1 0 (met_by nowhere (eqb 0 row) 0 u) u.end os e (extent_in row (file_heads s)) =
    approaches nowhere u low fi t.lies.depth (sym y.0) (sym y.4) vd (omega arith) refl x-is in
    record {
      rows = a.rows;
      hs = rest s u.what u.objects u.count u.end;
      walking = walk_start s u.what u.objects u.count u.end a.rows (R.begun s a.rows r u h);
      standing = subst (λ (y : Met). Standing row 1 0 y u.end (rest s u.what u.objects u.count u.end) e (extent_in row (file_heads s))) (sym mq)
          (subst (λ (l : List Head). Standing row 1 0 (met_by nowhere (eqb 0 row) 0 u) u.end l e (extent_in row (file_heads s))) (sym (R.rest-is s a.rows r u h t)) st);
      room = room;
    }

row-extent : (e k : ℕ) (up : ℕ → ℕ) (hs : List Head) (j : ℕ) → extent_of (row_at j (rows_from e k up hs)) ≡ extent_at j hs e
unfolding rows_from extent_at
row-extent e k up [] zero = refl
row-extent e k up [] (suc j) = refl
row-extent e k up (h ∷ hs) zero = refl
row-extent e k up (h ∷ hs) (suc j) = row-extent e (k + 1) (now_under up (h.depth + 1) k) hs j

-- what heads give is what the rows give
pub extents-are : (s : List ℕ) (a : Accepted s) (row : ℕ) → extent_in row (file_heads s) ≡ extent_of (row_in row (descriptor s))
extents-are s a row =
    let r = a.rooted in
    ap (extent_in row) r.reads
    ∙ sym (row-extent (length s) 0 (λ j. 0) (heads_of r.all) row)
    ∙ sym (ap (λ (m : Res (List Row)). extent_of (row_in row m)) (rows_are s ∙ ap (map_res (rows_of (length s))) r.reads))

-- what judging accepts
pub judged : (s : List ℕ) (n : ℕ) → A.accepted n ≡ A.verdict (descriptor s) → Accepted s
judged s n e = record { rows = n; rooted = R.accepts s n e }
