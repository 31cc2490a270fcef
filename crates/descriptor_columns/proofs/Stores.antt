-- Columns that are stored head by head, and as levels end: each kind of store, for any column. Assumes nothing.
use Prim.Native.Nat.{ℕ, suc, ◌+◌, ◌-◌, ◌≤◌, ◌<◌}
use mathlib.Core.Path.{◌≡◌, refl, sym, ap, ◌∙◌}
use mathlib.Core.List.{List, [], ◌∷◌, ◌++◌}
use lib.ListN.{length, set, drop}
use lib.Seq.{sets, sets-eq, set_comm}
use native.Mathlib.Omega.{arith}
use Rattle.descriptor_heads.specs.Heads.{Head}
use Rattle.descriptor_heads.proofs.Tiles.{end-deeper}
use Rattle.descriptor_columns.specs.scaffold.Filling.{Entry, length_in, next_in, column, mark, opens, puts, shuts, whole}
use Rattle.descriptor_columns.specs.declared.Level.{Level}
use Rattle.descriptor_columns.proofs.Walking.{next-deeper}

-- the rows of levels stand before the row k, and begin at `at` or before it
abbrev pub Before : ℕ → ℕ → List Level → Type 0
Before k at [] = Unit {0}
Before k at (l ∷ ls) = (l.row < k) × (l.first ≤ at) × Before k at ls

pub before_more : (k at j q : ℕ) → k ≤ j → at ≤ q → (ls : List Level) → Before k at ls → Before j q ls
before_more k at j q a b [] h = tt
before_more k at j q a b (l ∷ ls) h = (omega (arith, h.0), omega (arith, h.1), before_more k at j q a b ls h.2)

-- ---- columns that a head tells

pub put-head : (g : Entry) (k : ℕ) (c : List ℕ) {h : Head} {hs more : List Head} {c' t : List ℕ} {v : ℕ} → hs ≡ h ∷ more → g h (k + 1) more ≡ v → c' ≡ set c k v → puts g k hs c ≡ t → puts g (k + 1) more c' ≡ t
unfolding puts
put-head g k c {more = more} is e x inv =
    ap (puts g (k + 1) more) (x ∙ ap (set c k) (sym e)) ∙ ap (λ (y : List Head). puts g k y c) (sym is) ∙ inv

pub put-none : (g : Entry) (k : ℕ) (c : List ℕ) {hs : List Head} {t : List ℕ} → hs ≡ [] → puts g k hs c ≡ t → c ≡ t
unfolding puts
put-none g k c is inv = ap (λ (y : List Head). puts g k y c) (sym is) ∙ inv

-- ---- columns that a row's end tells

-- an open row's number does not change by a head that is deeper than it
abbrev pub Skips : Entry → Type 0
Skips g = (o h : Head) (k : ℕ) (hs : List Head) → o.depth < h.depth → g o k (h ∷ hs) ≡ g o (k + 1) hs

-- and looks only at depth and first byte
abbrev pub Blind : Entry → Type 0
Blind g = (h : Head) (k : ℕ) (hs : List Head) → g (mark h.depth h.first) k hs ≡ g h k hs

pub length-skips : (e : ℕ) → Skips (length_in e)
length-skips e o h k hs l = ap (λ (x : ℕ). x - o.first) (end-deeper o.depth h hs e l)

pub next-skips : (n : ℕ) → Skips (next_in n)
next-skips n o h k hs l = next-deeper n o.depth h k hs l

module _ (g : Entry) (skips : Skips g) (blind : Blind g) where
  swapped : (ls : List Level) (h : Head) (k at : ℕ) (hs : List Head) (v : ℕ) (c : List ℕ) → length ls ≤ h.depth → Before k at ls
      → set (shuts g k (h ∷ hs) (opens ls) c) k v ≡ shuts g (k + 1) hs (opens ls) (set c k v)
  unfolding shuts
  swapped [] h k at hs v c l b = refl
  swapped (x ∷ ls) h k at hs v c l b =
      let o : Head = mark (length ls) x.first in
      swapped ls h k at hs v (set c x.row (g o k (h ∷ hs))) (omega (arith, l)) b.2
      ∙ ap (λ (y : List ℕ). shuts g (k + 1) hs (opens ls) y) (set_comm c x.row k (g o k (h ∷ hs)) v (λ e. absurd (omega (arith, e, b.0))))
      ∙ ap (λ (y : ℕ). shuts g (k + 1) hs (opens ls) (set (set c k v) x.row y)) (skips o h k hs (omega (arith, l)))

  -- a head's row is open
  pub put-open : (k : ℕ) (ls : List Level) (c : List ℕ) {h : Head} {at d : ℕ} {hs more : List Head} {t : List ℕ} → hs ≡ h ∷ more → h.depth ≡ d → h.first ≡ at → length ls ≤ d → Before k at ls
      → whole g k hs (opens ls) c ≡ t → whole g (k + 1) more ((k, mark d at) ∷ opens ls) c ≡ t
  unfolding puts shuts
  put-open k ls c {h} {at} {d} {more = more} is dp ft l b inv =
      let v : g (mark d at) (k + 1) more ≡ g h (k + 1) more = ap (λ (x : ℕ). g (mark x at) (k + 1) more) (sym dp) ∙ ap (λ (x : ℕ). g (mark h.depth x) (k + 1) more) (sym ft) ∙ blind h (k + 1) more in
      ap (λ (y : ℕ). puts g (k + 1) more (shuts g (k + 1) more (opens ls) (set c k y))) v
      ∙ ap (puts g (k + 1) more) (sym (swapped ls h k at more (g h (k + 1) more) c (omega (arith, l, dp)) b))
      ∙ ap (λ (y : List Head). whole g k y (opens ls) c) (sym is)
      ∙ inv

  -- the row of the innermost level ends
  pub put-shut : (row k : ℕ) (o : Head) (hs : List Head) (os : List (ℕ × Head)) (c : List ℕ) {c' t : List ℕ} {v : ℕ} → g o k hs ≡ v → c' ≡ set c row v → whole g k hs ((row, o) ∷ os) c ≡ t → whole g k hs os c' ≡ t
  unfolding shuts
  put-shut row k o hs os c e x inv = ap (whole g k hs os) (x ∙ ap (set c row) (sym e)) ∙ inv

pub shut_none : (g : Entry) (k : ℕ) (c : List ℕ) {hs : List Head} {t : List ℕ} → hs ≡ [] → whole g k hs [] c ≡ t → c ≡ t
unfolding puts shuts
shut_none g k c is inv = ap (λ (y : List Head). whole g k y [] c) (sym is) ∙ inv

-- ---- rows in their order are a column

puts-sets : (g : Entry) (k : ℕ) (hs : List Head) (c : List ℕ) → puts g k hs c ≡ sets c k (column g k hs)
unfolding puts column
puts-sets g k [] c = refl
puts-sets g k (h ∷ hs) c =
    let e : k + 1 ≡ suc k = omega arith in
    puts-sets g (k + 1) hs (set c k (g h (k + 1) hs)) ∙ ap (λ (j : ℕ). sets (set c k (g h (k + 1) hs)) j (column g (k + 1) hs)) e

pub column-length : (g : Entry) (k : ℕ) (hs : List Head) → length (column g k hs) ≡ length hs
unfolding column
column-length g k [] = refl
column-length g k (h ∷ hs) = ap suc (column-length g (k + 1) hs)

-- where the run has room
pub puts-column : (g : Entry) (hs : List Head) (c : List ℕ) → length hs ≤ length c → puts g 0 hs c ≡ column g 0 hs ++ drop (length (column g 0 hs)) c
puts-column g hs c l =
    let n : length (column g 0 hs) ≡ length hs = column-length g 0 hs in
    let z : 0 + length (column g 0 hs) ≡ length (column g 0 hs) = omega arith in
    puts-sets g 0 hs c ∙ sets-eq (column g 0 hs) c 0 (omega (arith, l, n)) ∙ ap (λ (j : ℕ). column g 0 hs ++ drop j c) z
