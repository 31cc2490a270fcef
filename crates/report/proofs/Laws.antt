-- Totals added: order does not matter, and no part passes what the whole does not. Assumes nothing.
use Prim.Native.Nat.{ℕ, zero, suc, ◌+◌, ◌≤◌, ◌<◌}
use mathlib.Core.Path.{◌≡◌, refl, sym, ap, ap₂, ◌∙◌, subst}
use mathlib.Core.List.{List, [], ◌∷◌}
use mathlib.Core.Bool.{Bool, true, false, ◌&&◌, true≢false}
use lib.Dec.{leb, ltb, eqb}
use lib.ListN.{length, get_or, set, length-set, get_or-eq_default}
use lib.Seq.{ext_get_or, get_or-set_same, get_or-set_other}
use borrow.Author.Tests.{eqb-true, eqb-false, ne_eqb, le-leb, leb-true, ltb-true, ltb-false}
use native.Mathlib.Omega.{arith}
use native.Mathlib.Nat.{add_comm, add_assoc, zero-add}
use Rattle.algebra.specs.Numbers.{counted}
use Rattle.algebra.specs.Reader.{pick}
use Rattle.algebra.proofs.Counted.{length-counted, getD-counted}
use Rattle.report.specs.Report.{bound, none, many, one, plus, sum, fits, merged}
use Rattle.report.specs.scaffold.Parts.{Low, Adding}

-- ---- by their places

-- two lists of totals that are the same at every place are one
pub by-totals : (r t : List ℕ) → length r ≡ 31 → length t ≡ 31 → ((i : ℕ) → i < 31 → get_or r i 0 ≡ get_or t i 0) → r ≡ t
by-totals r t l m h = ext_get_or 0 r t (l ∙ sym m) (λ i g. h i (omega arith))

module _ (f : ℕ → ℕ) where
  at_place : (i : ℕ) → i < 31 → get_or (counted f 31 0) i 0 ≡ f i
  at_place i h = getD-counted f 0 31 0 i h ∙ ap f (zero-add i)

pub length-plus : (r t : List ℕ) → length (plus r t) ≡ 31
unfolding plus
length-plus r t = length-counted (λ i. get_or r i 0 + get_or t i 0) 31 0

pub length-many : (k n : ℕ) → length (many k n) ≡ 31
unfolding many
length-many k n = length-counted (λ i. pick (eqb i k) n 0) 31 0

pub length_none : length none ≡ 31
unfolding none
length_none = length-counted (λ (i : ℕ). 0) 31 0

pub plus-at : (r t : List ℕ) (i : ℕ) → i < 31 → get_or (plus r t) i 0 ≡ get_or r i 0 + get_or t i 0
unfolding plus
plus-at r t i h = at_place (λ i. get_or r i 0 + get_or t i 0) i h

many-at : (k n i : ℕ) → i < 31 → get_or (many k n) i 0 ≡ pick (eqb i k) n 0
unfolding many
many-at k n i h = at_place (λ i. pick (eqb i k) n 0) i h

none-at : (i : ℕ) → i < 31 → get_or none i 0 ≡ 0
unfolding none
none-at i h = at_place (λ (i : ℕ). 0) i h

-- ---- added

pub plus-turned : (r t : List ℕ) → plus r t ≡ plus t r
plus-turned r t = by-totals _ _ (length-plus r t) (length-plus t r) (λ i h. plus-at r t i h ∙ add_comm (get_or r i 0) (get_or t i 0) ∙ sym (plus-at t r i h))

pub plus-joined : (r t u : List ℕ) → plus (plus r t) u ≡ plus r (plus t u)
plus-joined r t u = by-totals _ _ (length-plus (plus r t) u) (length-plus r (plus t u)) (λ i h.
    plus-at (plus r t) u i h ∙ ap (λ (n : ℕ). n + get_or u i 0) (plus-at r t i h) ∙ add_assoc (get_or r i 0) (get_or t i 0) (get_or u i 0)
    ∙ sym (plus-at r (plus t u) i h ∙ ap (λ (n : ℕ). get_or r i 0 + n) (plus-at t u i h)))

pub none-plus : (t : List ℕ) → length t ≡ 31 → plus none t ≡ t
none-plus t l = by-totals _ _ (length-plus none t) l (λ i h. plus-at none t i h ∙ ap (λ (n : ℕ). n + get_or t i 0) (none-at i h) ∙ zero-add (get_or t i 0))

pub plus_none : (t : List ℕ) → length t ≡ 31 → plus t none ≡ t
plus_none t l = plus-turned t none ∙ none-plus t l

pub length-sum : (ts : List (List ℕ)) → length (sum ts) ≡ 31
unfolding sum
length-sum [] = length_none
length-sum (t ∷ ts) = length-plus t (sum ts)

-- two exchanged in a sum
pub plus-swap : (r t u : List ℕ) → plus r (plus t u) ≡ plus t (plus r u)
plus-swap r t u = sym (plus-joined r t u) ∙ ap (λ (w : List ℕ). plus w u) (plus-turned r t) ∙ plus-joined t r u

-- ---- one total

pub tally-past : (t : List ℕ) (k n : ℕ) → length t ≡ 31 → 31 ≤ k → t ≡ plus t (many k n)
tally-past t k n l h = by-totals _ _ l (length-plus t (many k n)) (λ i g. sym (plus-at t (many k n) i g ∙ ap (λ (m : ℕ). get_or t i 0 + m) (many-at k n i g ∙ ap (λ (b : Bool). pick b n 0) (ne_eqb i k (λ z. omega arith))) ∙ zero_right (get_or t i 0)))
  where
    zero_right : (m : ℕ) → m + 0 ≡ m
    zero_right m = omega arith

pub tally-at : (t : List ℕ) (k n : ℕ) → length t ≡ 31 → k < 31 → set t k (get_or t k 0 + n) ≡ plus t (many k n)
tally-at t k n l h = by-totals _ _ (length-set t k (get_or t k 0 + n) ∙ l) (length-plus t (many k n)) (λ i g. go i g (eqb i k) refl)
  where
    go : (i : ℕ) → i < 31 → (b : Bool) → eqb i k ≡ b → get_or (set t k (get_or t k 0 + n)) i 0 ≡ get_or (plus t (many k n)) i 0
    go i g true e =
        let z : i ≡ k = eqb-true i k e in
        ap (λ (m : ℕ). get_or (set t k (get_or t k 0 + n)) m 0) z ∙ get_or-set_same t k (get_or t k 0 + n) 0 (omega arith)
        ∙ sym (plus-at t (many k n) i g ∙ ap₂ (λ (a b : ℕ). a + b) (ap (λ (m : ℕ). get_or t m 0) z) (many-at k n i g ∙ ap (λ (b : Bool). pick b n 0) e))
    go i g false e =
        get_or-set_other t k i (get_or t k 0 + n) 0 (eqb-false i k e)
        ∙ sym (plus-at t (many k n) i g ∙ ap (λ (m : ℕ). get_or t i 0 + m) (many-at k n i g ∙ ap (λ (b : Bool). pick b n 0) e) ∙ zero_right (get_or t i 0))
      where
        zero_right : (m : ℕ) → m + 0 ≡ m
        zero_right m = omega arith

-- ---- how much a total may have grown

past-zero : (t : List ℕ) (k : ℕ) → length t ≡ 31 → 31 ≤ k → get_or t k 0 ≡ 0
past-zero t k l h = get_or-eq_default t 0 (omega arith)

many-small : (k n i : ℕ) → get_or (many k n) i 0 ≤ n
many-small k n i = go (ltb i 31) refl
  where
    some : (b : Bool) → pick b n 0 ≤ n
    some true = omega arith
    some false = omega arith

    go : (b : Bool) → ltb i 31 ≡ b → get_or (many k n) i 0 ≤ n
    go true e = let h : i < 31 = ltb-true i 31 e in omega (arith, many-at k n i h, some (eqb i k))
    go false e = let h : 31 ≤ i = ltb-false i 31 e in omega (arith, past-zero (many k n) i (length-many k n) h)

pub plus-low : (t u : List ℕ) (m n : ℕ) → Low t m → ((i : ℕ) → get_or u i 0 ≤ n) → Low (plus t u) (m + n)
plus-low t u m n l h = record { long = length-plus t u; below = λ i. go i (ltb i 31) refl }
  where
    go : (i : ℕ) (b : Bool) → ltb i 31 ≡ b → get_or (plus t u) i 0 ≤ m + n
    go i true e = let g : i < 31 = ltb-true i 31 e in omega (arith, plus-at t u i g, l.below i, h i)
    go i false e = let g : 31 ≤ i = ltb-false i 31 e in omega (arith, past-zero (plus t u) i (length-plus t u) g)

pub two-small : (a b i : ℕ) → get_or (plus (one a) (one b)) i 0 ≤ 2
two-small a b i =
    let l : Low (one a) 1 = record { long = length-many a 1; below = λ j. many-small a 1 j } in
    omega (arith, (plus-low (one a) (one b) 1 1 l (λ j. many-small b 1 j)).below i)

pub one-small : (a i : ℕ) → get_or (one a) i 0 ≤ 2
one-small a i = omega (arith, many-small a 1 i)

pub one-low : (a : ℕ) → Low (one a) 1
one-low a = record { long = length-many a 1; below = λ i. many-small a 1 i }

pub lower : {t : List ℕ} {m n : ℕ} → Low t m → m ≤ n → Low t n
lower l h = record { long = l.long; below = λ i. omega (arith, l.below i) }

-- ---- the bound

first_of : (a b : Bool) → a && b ≡ true → a ≡ true
first_of true b e = refl
first_of false b e = absurd (true≢false (sym e))

second-of : (a b : Bool) → a && b ≡ true → b ≡ true
second-of true b e = e
second-of false b e = absurd (true≢false (sym e))

pub fits-at : (l : List ℕ) → fits l ≡ true → (k : ℕ) → get_or l k 0 ≤ bound
unfolding fits
fits-at [] e k = omega arith
fits-at (x ∷ l) e zero = leb-true x bound (first_of (leb x bound) (fits l) e)
fits-at (x ∷ l) e (suc k) = fits-at l (second-of (leb x bound) (fits l) e) k

pub fits_by : (l : List ℕ) → ((k : ℕ) → k < length l → get_or l k 0 ≤ bound) → fits l ≡ true
unfolding fits
fits_by [] h = refl
fits_by (x ∷ l) h = ap₂ (λ (a b : Bool). a && b) (le-leb x bound (h 0 (omega arith))) (fits_by l (λ k g. h (suc k) (omega arith)))

pub fits_not : (l : List ℕ) (k : ℕ) → bound < get_or l k 0 → fits l ≡ false
fits_not l k h = go (fits l) refl
  where
    go : (b : Bool) → fits l ≡ b → fits l ≡ false
    go true e = absurd (omega (arith, fits-at l e k))
    go false e = e

-- where a sum fits its parts do
pub fits-part : (r t : List ℕ) → length r ≡ 31 → fits (plus r t) ≡ true → fits r ≡ true
fits-part r t l e = fits_by r (λ k h. let g : k < 31 = omega arith in omega (arith, fits-at (plus r t) e k, plus-at r t k g))

-- ---- two reports as one

module _ (r t : List ℕ) where
  pub merged-fits : fits (plus r t) ≡ true → merged r t ≡ (0, plus r t)
  merged-fits e = ap (λ (b : Bool). pick {A = ℕ × List ℕ} b (0, plus r t) (5, r)) e

  pub merged-full : fits (plus r t) ≡ false → merged r t ≡ (5, r)
  merged-full e = ap (λ (b : Bool). pick {A = ℕ × List ℕ} b (0, plus r t) (5, r)) e

-- ---- a total more

pub grown : (t t' : List ℕ) (a : ℕ) → Low t 4294967293 → t' ≡ plus t (one a) → Low t' 4294967294
grown t t' a l e = subst (λ (w : List ℕ). Low w 4294967294) (sym e) (plus-low t (one a) 4294967293 1 l (λ i. many-small a 1 i))

pub two-added : (t u w : List ℕ) (a b : ℕ) → u ≡ plus t (one a) → w ≡ plus u (one b) → w ≡ plus t (plus (one a) (one b))
two-added t u w a b e f = f ∙ ap (λ (z : List ℕ). plus z (one b)) e ∙ plus-joined t (one a) (one b)

-- ---- every total looked at

below_or : (k i : ℕ) → k < i + 1 → (k ≡ i → ⊥) → k < i
below_or k i h n = go (ltb k i) refl
  where
    go : (b : Bool) → ltb k i ≡ b → k < i
    go true e = ltb-true k i e
    go false e = let g : i ≤ k = ltb-false k i e in let z : k ≡ i = omega arith in absurd (n z)

module _ (t m : List ℕ) where
  pub sums-more : (i : ℕ) → ((k : ℕ) → k < i → get_or t k 0 + get_or m k 0 ≤ 4294967295) → get_or t i 0 + get_or m i 0 ≤ 4294967295 → (k : ℕ) → k < i + 1 → get_or t k 0 + get_or m k 0 ≤ 4294967295
  sums-more i h g k l = go (eqb k i) refl
    where
      go : (b : Bool) → eqb k i ≡ b → get_or t k 0 + get_or m k 0 ≤ 4294967295
      go true e = subst (λ (z : ℕ). get_or t z 0 + get_or m z 0 ≤ 4294967295) (sym (eqb-true k i e)) g
      go false e = h k (below_or k i l (eqb-false k i e))

  pub sum-full : (i : ℕ) → i < 31 → 4294967295 < get_or t i 0 + get_or m i 0 → fits (plus t m) ≡ false
  sum-full i h g = fits_not (plus t m) i (omega (arith, plus-at t m i h))

  pub sum_fits : ((k : ℕ) → k < 31 → get_or t k 0 + get_or m k 0 ≤ 4294967295) → fits (plus t m) ≡ true
  sum_fits h = fits_by (plus t m) (λ k g. let l : k < 31 = omega (arith, length-plus t m) in omega (arith, h k l, plus-at t m k l))

  -- ---- and then added

  pub adding-start : length t ≡ 31 → Adding t m t 0
  adding-start l = record { upto = omega arith; long = l; sums = λ k h. absurd (omega arith); kept = λ k h. refl }

  module _ (u : List ℕ) (i : ℕ) (a : Adding t m u i) where
    pub adding-small : i < 31 → fits (plus t m) ≡ true → get_or u i 0 + get_or m i 0 < 4294967296
    adding-small h e = omega (arith, fits-at (plus t m) e i, plus-at t m i h, a.kept i (omega arith))

    set-sums : (k : ℕ) → i < 31 → k < i + 1 → (b : Bool) → eqb k i ≡ b → get_or (set u i (get_or u i 0 + get_or m i 0)) k 0 ≡ get_or t k 0 + get_or m k 0
    set-sums k h g true e =
        let z : k ≡ i = eqb-true k i e in
        ap (λ (j : ℕ). get_or (set u i (get_or u i 0 + get_or m i 0)) j 0) z ∙ get_or-set_same u i (get_or u i 0 + get_or m i 0) 0 (omega (arith, a.long))
        ∙ ap (λ (n : ℕ). n + get_or m i 0) (a.kept i (omega arith)) ∙ ap (λ (j : ℕ). get_or t j 0 + get_or m j 0) (sym z)
    set-sums k h g false e = get_or-set_other u i k (get_or u i 0 + get_or m i 0) 0 (eqb-false k i e) ∙ a.sums k (below_or k i g (eqb-false k i e))

    past : (k : ℕ) → i + 1 ≤ k → k ≡ i → ⊥
    past k g e = omega arith

    pub adding-turn : i < 31 → Adding t m (set u i (get_or u i 0 + get_or m i 0)) (i + 1)
    adding-turn h = record {
      upto = omega arith;
      long = length-set u i (get_or u i 0 + get_or m i 0) ∙ a.long;
      sums = λ k g. set-sums k h g (eqb k i) refl;
      kept = λ k g. get_or-set_other u i k (get_or u i 0 + get_or m i 0) 0 (past k g) ∙ a.kept k (omega arith);
    }

    pub adding-end : 31 ≤ i → u ≡ plus t m
    adding-end h = by-totals u (plus t m) a.long (length-plus t m) (λ k g. a.sums k (omega arith) ∙ sym (plus-at t m k g))
