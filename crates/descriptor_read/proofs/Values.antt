-- Where a row's value lies. Assumes nothing.
use Prim.Native.Nat.{ℕ, zero, suc, ◌+◌, ◌≤◌}
use mathlib.Core.Path.{◌≡◌, refl, sym, ap, ◌∙◌, subst}
use mathlib.Core.List.{List, [], ◌∷◌, ◌++◌}
use lib.ListN.{length}
use native.Mathlib.Omega.{arith}
use Rattle.algebra.specs.Reader.{Res, ok, refuse, limit}
use Rattle.algebra.specs.Store.{part}
use Rattle.descriptor.specs.Reading.{Row, descriptor}
use Rattle.descriptor.specs.Tiles.{Tiled, none, one}
use Rattle.descriptor.proofs.Tiling.{five-each}
use Rattle.descriptor.proofs.Rows.{of-root, rows-laid}
use Rattle.descriptor_judge.specs.Answer.{refused as refusedIn, verdict}
use Rattle.descriptor_read.specs.Values.{RowAnswer, found, missing, row_at, row_in, value_size, span, refusal, place_of, value_in}
use Rattle.descriptor_read.specs.scaffold.Values.{is, refused, extent_of}

-- ---- the verdict's case

pub refused-by : (m : Res (List Row)) (x p : ℕ) → refusedIn x p ≡ verdict m → (r : ℕ) × (f : ℕ) × (m ≡ refuse x p r f)
refused-by (ok rs q) x p e = let z : ◌≡◌ {A = ℕ} 0 1 = cc in absurd (omega arith)
refused-by (refuse y q r f) x p e = let a : y ≡ x = cc in let b : q ≡ p = cc in (r, f, cc)

-- ---- what is answered

module _ (s : List ℕ) (k : ℕ) where
  pub row-refused : (x p : ℕ) → refusedIn x p ≡ verdict (descriptor s) → row_in k (descriptor s) ≡ missing x p
  row-refused x p e = ap (row_in k) (refused-by (descriptor s) x p e).2

-- ---- a value lies in its file

abbrev AllRows : (Row → Type 0) → List Row → Type 0
AllRows P [] = Unit {0}
AllRows P (r ∷ rs) = P r × AllRows P rs

-- a row whose value ends with it, at hi or before
pub record Ends-by (hi : ℕ) (r : Row) : Type 0 where
  pub order : r.value ≤ r.first + r.size
  pub inside : r.first + r.size ≤ hi

both : (lo hi : ℕ) (cs qs : List Row) → lo ≤ hi → AllRows (Ends-by lo) cs → AllRows (Ends-by hi) qs → AllRows (Ends-by hi) (cs ++ qs)
both lo hi [] qs l a b = b
both lo hi (c ∷ cs) qs l a b = (record { order = a.0.order; inside = omega (arith, a.0.inside) }, both lo hi cs qs l a.1 b)

all-inside : {d p k lo hi : ℕ} {rs : List Row} → Tiled d p k lo hi rs → AllRows (Ends-by hi) rs
all-inside none = tt
all-inside {lo = lo} {hi = hi} (one r cs qs head a b c h v z t u) =
    let f : r.first ≡ lo = c in
    (record { order = omega (arith, five-each t); inside = omega (arith, five-each u) }, both (lo + r.size) hi cs qs (omega (arith, five-each u)) (all-inside t) (all-inside u))

row-of : (hi : ℕ) (rs : List Row) (k : ℕ) (r : Row) → AllRows (Ends-by hi) rs → row_at k rs ≡ found r → Ends-by hi r
row-of hi [] k r a e = let z : ◌≡◌ {A = ℕ} 0 1 = cc in absurd (omega arith)
row-of hi (q ∷ rs) zero r a e = let w : q ≡ r = cc in subst (Ends-by hi) w a.0
row-of hi (q ∷ rs) (suc k) r a e = row-of hi rs k r a.1 e

value-inside : (s : List ℕ) (k : ℕ) (m : Res (List Row)) → descriptor s ≡ m → (r : Row) → row_in k m ≡ found r → Ends-by (length s) r
value-inside s k (ok rs q) d r e = row-of (length s) rs k r (all-inside (rows-laid s rs q d).tiled) e
value-inside s k (refuse x p y f) d r e = let z : ◌≡◌ {A = ℕ} 0 1 = cc in absurd (omega arith)

-- a file with a row is within the limit
within-row : (s : List ℕ) (k : ℕ) (m : Res (List Row)) → descriptor s ≡ m → (r : Row) → row_in k m ≡ found r → length s ≤ limit
within-row s k (ok rs q) d r e = (of-root s rs q d).0
within-row s k (refuse x p y f) d r e = let z : ◌≡◌ {A = ℕ} 0 1 = cc in absurd (omega arith)

-- an extent that was told, as a part of the file
pub extent-is : (f : RowAnswer) (t v n : ℕ) → is t v n ≡ extent_of f → (r : Row) × (f ≡ found r) × (t ≡ r.kind) × (v ≡ r.value) × (n ≡ value_size r)
extent-is (found r) t v n e = (r, refl, cc, cc, cc)
extent-is (missing x p) t v n e = let z : ◌≡◌ {A = ℕ} 0 1 = cc in absurd (omega arith)

pub extent-no : (f : RowAnswer) (x p : ℕ) → refused x p ≡ extent_of f → f ≡ missing x p
extent-no (found r) x p e = let z : ◌≡◌ {A = ℕ} 0 1 = cc in absurd (omega arith)
extent-no (missing y q) x p e = let a : y ≡ x = cc in let b : q ≡ p = cc in cc

module _ (s : List ℕ) (k : ℕ) where
  pub place-no : (x p : ℕ) → refused x p ≡ extent_of (row_in k (descriptor s)) → refusal x p ≡ place_of (row_in k (descriptor s))
  place-no x p e = sym (ap place_of (extent-no (row_in k (descriptor s)) x p e))

  pub part_no : (x p : ℕ) → refused x p ≡ extent_of (row_in k (descriptor s)) → value_in s (row_in k (descriptor s)) ≡ []
  part_no x p e = ap (value_in s) (extent-no (row_in k (descriptor s)) x p e)

  module _ (t v n : ℕ) (e : is t v n ≡ extent_of (row_in k (descriptor s))) where
    pub place_is : span v n ≡ place_of (row_in k (descriptor s))
    place_is =
        let x = extent-is (row_in k (descriptor s)) t v n e in
        ap (λ (a : ℕ). span a n) x.3 ∙ ap (λ (a : ℕ). span x.0.value a) x.4 ∙ sym (ap place_of x.1)

    pub part-inside : v + n ≤ length s
    part-inside =
        let x = extent-is (row_in k (descriptor s)) t v n e in
        let w = value-inside s k (descriptor s) refl x.0 x.1 in
        omega (arith, x.3, x.4, w.order, w.inside)

    pub part_small : v + n ≤ limit
    part_small =
        let x = extent-is (row_in k (descriptor s)) t v n e in
        omega (arith, part-inside, within-row s k (descriptor s) refl x.0 x.1)

    pub part-is : part s v n ≡ value_in s (row_in k (descriptor s))
    part-is =
        let x = extent-is (row_in k (descriptor s)) t v n e in
        ap (λ (a : ℕ). part s a n) x.3 ∙ ap (λ (a : ℕ). part s x.0.value a) x.4 ∙ sym (ap (value_in s) x.1)
