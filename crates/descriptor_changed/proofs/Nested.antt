-- Rows of an accepted file are nested or apart. Assumes nothing.
use Prim.Native.Nat.{ℕ, zero, suc, ◌+◌, ◌≤◌}
use mathlib.Core.Path.{◌≡◌}
use mathlib.Core.List.{List, [], ◌∷◌, ◌++◌}
use mathlib.Core.Logic.{◌⊎◌, inl, inr}
use native.Mathlib.Omega.{arith}
use Rattle.descriptor.specs.Reading.{Row}
use Rattle.descriptor.specs.Tiles.{Tiled, none, one}
use Rattle.descriptor.proofs.Tiling.{five-each}
use Rattle.descriptor_heads.specs.Changed.{OneOf, here, later}
use Rattle.descriptor_read.specs.Values.{found, row_at}

abbrev pub Each : (Row → Type 0) → List Row → Type 0
Each P [] = Unit {0}
Each P (r ∷ rs) = P r × Each P rs

pub each_append : (P : Row → Type 0) (rs qs : List Row) → Each P rs → Each P qs → Each P (rs ++ qs)
each_append P [] qs h g = g
each_append P (r ∷ rs) qs h g = (h.0, each_append P rs qs h.1 g)

pub each_map : (P Q : Row → Type 0) → ((r : Row) → P r → Q r) → (rs : List Row) → Each P rs → Each Q rs
each_map P Q f [] h = tt
each_map P Q f (r ∷ rs) h = (f r h.0, each_map P Q f rs h.1)

pub each-one : (P : Row → Type 0) {r : Row} {rs : List Row} → Each P rs → OneOf r rs → P r
each-one P {rs = q ∷ rs} h (here e) = go e h.0
  where
    go : {q r : Row} → q ≡ r → P q → P r
    go e h = rw e at h
each-one P {rs = q ∷ rs} h (later o) = each-one P h.1 o
each-one P {r = r} {rs = []} h x5 = elim x5 [ ]

-- the row of a number is one of them
pub found-one : (rs : List Row) (j : ℕ) {q : Row} → row_at j rs ≡ found q → OneOf q rs
found-one [] j e = let z : ◌≡◌ {A = ℕ} 0 1 = cc in absurd (omega arith)
found-one (r ∷ rs) zero {q} e = here (same e)
  where
    same : found r ≡ found q → r ≡ q
    same e = cc
found-one (r ∷ rs) (suc j) e = later (found-one rs j e)

-- ---- of rows that tile

-- in the bytes from lo to hi, with a value behind their first byte
abbrev pub Within : ℕ → ℕ → Row → Type 0
Within lo hi r = (lo ≤ r.first) × (r.first + r.size ≤ hi) × (r.first + 4 ≤ r.value)

wider : (lo hi a b : ℕ) → a ≤ lo → hi ≤ b → (r : Row) → Within lo hi r → Within a b r
wider lo hi a b l m r h = (omega (arith, h.0), omega (arith, h.1), h.2)

pub within : {d p k lo hi : ℕ} {rs : List Row} → Tiled d p k lo hi rs → Each (Within lo hi) rs
within none = tt
within {lo = lo} {hi = hi} (one r cs qs head a b c h v z t u) = (
  (omega (arith, c), omega (arith, c, five-each u), omega (arith, c, v)),
  each_append (Within lo hi) cs qs
      (each_map (Within (lo + head) (lo + r.size)) (Within lo hi) (wider (lo + head) (lo + r.size) lo hi (omega arith) (omega (arith, five-each u))) cs (within t))
      (each_map (Within (lo + r.size) hi) (Within lo hi) (wider (lo + r.size) hi lo hi (omega arith) (omega arith)) qs (within u)),
)

-- a row that stands behind q begins there or later, and is behind q's bytes or among them
abbrev pub Behind : Row → Row → Type 0
Behind q r = (q.first ≤ r.first) × ((q.first + q.size ≤ r.first) ⊎ (r.first + r.size ≤ q.first + q.size))

abbrev pub Nested : List Row → Type 0
Nested [] = Unit {0}
Nested (q ∷ rs) = Each (Behind q) rs × Nested rs

nested-append : (m : ℕ) (cs qs : List Row) → Each (λ r. r.first + r.size ≤ m) cs → Each (λ r. m ≤ r.first) qs → Nested cs → Nested qs → Nested (cs ++ qs)
nested-append m [] qs e f h g = g
nested-append m (c ∷ cs) qs e f h g = (
  each_append (Behind c) cs qs h.0 (each_map (λ (r : Row). m ≤ r.first) (Behind c) (λ r l. (omega (arith, e.0, l), inl (omega (arith, e.0, l)))) qs f),
  nested-append m cs qs e.1 f h.1 g,
)

pub nested : {d p k lo hi : ℕ} {rs : List Row} → Tiled d p k lo hi rs → Nested rs
nested none = tt
nested {lo = lo} {hi = hi} (one r cs qs head a b c h v z t u) =
    let x = within t in
    let y = within u in (
      each_append (Behind r) cs qs
          (each_map (Within (lo + head) (lo + r.size)) (Behind r) (λ q w. (omega (arith, w.0, c), inr (omega (arith, w.1, c)))) cs x)
          (each_map (Within (lo + r.size) hi) (Behind r) (λ q w. (omega (arith, w.0, c), inl (omega (arith, w.0, c)))) qs y),
      nested-append (lo + r.size) cs qs
          (each_map (Within (lo + head) (lo + r.size)) (λ (q : Row). q.first + q.size ≤ lo + r.size) (λ q w. w.1) cs x)
          (each_map (Within (lo + r.size) hi) (λ (q : Row). lo + r.size ≤ q.first) (λ q w. w.0) qs y)
          (nested t) (nested u),
    )
