-- A run by its elements: what it gives, where it is refused, and a loop that fills. Assumes nothing.
use Prim.Native.Nat.{ℕ, zero, suc, ◌+◌, ◌≤◌, ◌<◌}
use mathlib.Core.Path.{◌≡◌, refl, sym, ap, ap₂, ◌∙◌, subst}
use mathlib.Core.Bool.{Bool, true, false, not}
use mathlib.Core.Logic.{◌⊎◌, inl, inr}
use mathlib.Core.List.{List, [], ◌∷◌, ◌++◌, map}
use native.Mathlib.Omega.{arith}
use native.Mathlib.Numerals.{add-one}
use native.Mathlib.Nat.{add-zero, zero-add}
use borrow.Author.Tests.{le-leb, lt-leb, ltb-true, ltb-false}
use lib.Bits.{bit_or, or_add_and, and_le_l, and_le_r}
use lib.Dec.{ltb}
use lib.ListN.{length, get_or, drop, set, drop_of_length-le}
use lib.Seq.{sets, sets-eq, drop-cons}
use Rattle.std.specs.Prelude.{Result, Option, Some, None}
use Rattle.std.specs.Option.{MatchOption}
use Rattle.std.specs.List.{AllWithin, HoldsAt}
use Rattle.std.specs.Int.{from_bool}
use Rattle.std.specs.Result.{IsErrAnd}
use Rattle.std.proofs.lemmas.Result.{err_from_is_err_and}
use Rattle.fault.specs.Fault.{number_of}
use Rattle.fault.specs.declared.Refusal.{Refusal}
use Rattle.tray.specs.Answer.{told}
use Rattle.conversion.specs.Convert.{Converted, gives, refused, and_then}
use Rattle.conversion.specs.Tray.{at_position, converted_in_order, lent}
use Rattle.tray.specs.scaffold.Parts.{Passed, First, low, results, judged}

-- ---- all pass, or one is the first to fail

module _ (f : ℕ → Converted ℕ) (g : ℕ → ℕ) (ok : ℕ → Bool) (yes : (x : ℕ) → ok x ≡ true → f x ≡ gives (g x)) where
  pub all-given : (k : ℕ) (xs : List ℕ) → Passed ok xs (length xs) → converted_in_order f k xs ≡ gives (map g xs)
  unfolding converted_in_order
  all-given k [] h = refl
  all-given k (x ∷ xs) h = rw (yes x (h 0 (omega arith)), all-given (k + 1) xs (λ j l. h (suc j) (omega arith)))

  pub one-refused : (k : ℕ) (xs : List ℕ) (i n p : ℕ) → Passed ok xs i → i < length xs → f (get_or xs i 0) ≡ refused n p → converted_in_order f k xs ≡ refused n (k + i)
  unfolding converted_in_order
  one-refused k [] i n p h l e = absurd (omega arith)
  one-refused k (x ∷ xs) zero n p h l e = rw e (ap (λ (z : ℕ). refused n z) (sym (add-zero k)))
  one-refused k (x ∷ xs) (suc i) n p h l e =
      let at : k + 1 + i ≡ k + suc i = omega arith in
      rw (yes x (h 0 (omega arith)), one-refused (k + 1) xs i n p (λ j m. h (suc j) (omega arith)) (omega arith) e) (ap (λ (z : ℕ). refused n z) at)

-- ---- into the lent run

module _ (out : List ℕ) where
  pub lent-filled : (m : Converted (List ℕ)) (out' : List ℕ) → gives tt ≡ judged m → length (results m) ≤ length out → out' ≡ sets out 0 (results m) → (gives tt, out') ≡ lent m out
  lent-filled (gives ys) out' j h e = rw (le-leb (length ys) (length out) h) (ap (λ (o : List ℕ). (gives tt, o)) (e ∙ sets-eq ys out 0 (omega arith) ∙ ap (λ (k : ℕ). ys ++ drop k out) (zero-add (length ys))))
  lent-filled (refused n k) out' j h e = let z : ◌≡◌ {A = ℕ} 0 1 = cc in absurd (omega arith)

  pub lent-short : (m : Converted (List ℕ)) → gives tt ≡ judged m → length out < length (results m) → (refused 11 0, out) ≡ lent m out
  lent-short (gives ys) j h = rw (lt-leb (length ys) (length out) h)
  lent-short (refused n k) j h = let z : ◌≡◌ {A = ℕ} 0 1 = cc in absurd (omega arith)

  pub lent-refused : (m : Converted (List ℕ)) (n k : ℕ) → refused n k ≡ judged m → (refused n k, out) ≡ lent m out
  lent-refused (gives ys) n k j = let z : ◌≡◌ {A = ℕ} 0 1 = cc in absurd (omega arith)
  lent-refused (refused m i) n k j = cc

-- ---- the results, where all are given

module _ (f : ℕ → Converted ℕ) (g : ℕ → ℕ) (Fit : ℕ → Type 0) (each : (x y : ℕ) → Fit x → f x ≡ gives y → y ≡ g x) where
  pub results-are : (k : ℕ) (xs : List ℕ) → ((j : ℕ) → Fit (get_or xs j 0)) → gives tt ≡ judged (converted_in_order f k xs) → results (converted_in_order f k xs) ≡ map g xs
  unfolding converted_in_order
  results-are k [] fit h = refl
  results-are k (x ∷ xs) fit h = go (f x) refl (converted_in_order f (k + 1) xs) (results-are (k + 1) xs (λ j. fit (suc j))) h
    where
      go : (y : Converted ℕ) → f x ≡ y → (m : Converted (List ℕ)) → (gives tt ≡ judged m → results m ≡ map g xs) → gives tt ≡ judged (and_then (at_position k y) (λ y. and_then m (λ ys. gives (y ∷ ys)))) → results (and_then (at_position k y) (λ y. and_then m (λ ys. gives (y ∷ ys)))) ≡ g x ∷ map g xs
      go (gives y) e (gives ys) h j = ap₂ (λ (z : ℕ) (zs : List ℕ). z ∷ zs) (each x y (fit 0) e) (h refl)
      go (gives y) e (refused n p) h j = let z : ◌≡◌ {A = ℕ} 0 1 = cc in absurd (omega arith)
      go (refused n p) e m h j = let z : ◌≡◌ {A = ℕ} 0 1 = cc in absurd (omega arith)

-- where every element is refused, there is none
pub none-given : (f : ℕ → Converted ℕ) → ((x : ℕ) → (n : ℕ) × (f x ≡ refused n 0)) → (k : ℕ) (xs : List ℕ) → gives tt ≡ judged (converted_in_order f k xs) → results (converted_in_order f k xs) ≡ []
unfolding converted_in_order
none-given f never k [] h = refl
none-given f never k (x ∷ xs) h = absurd (no (never x).0 (h ∙ ap judged (first-no (never x).0 (f x) (never x).1)))
  where
    first-no : (n : ℕ) (y : Converted ℕ) → y ≡ refused n 0 → and_then (at_position k y) (λ y. and_then (converted_in_order f (k + 1) xs) (λ ys. gives (y ∷ ys))) ≡ refused n k
    first-no n y e = rw e

    no : (n : ℕ) → ◌≡◌ {A = Converted (Unit {0})} (gives tt) (refused n k) → ⊥
    no n e = let z : ◌≡◌ {A = ℕ} 0 1 = cc in omega arith

-- and the first of them is refused
pub first-refused : (f : ℕ → Converted ℕ) (n k : ℕ) (xs : List ℕ) → 0 < length xs → f (get_or xs 0 0) ≡ refused n 0 → converted_in_order f k xs ≡ refused n k
unfolding converted_in_order
first-refused f n k [] h e = absurd (omega arith)
first-refused f n k (x ∷ xs) h e = rw e

-- ---- as many results as elements

pub length-results : {A : Type 0} (f : A → Converted ℕ) (k : ℕ) (xs : List A) → gives tt ≡ judged (converted_in_order f k xs) → length (results (converted_in_order f k xs)) ≡ length xs
unfolding converted_in_order
length-results f k [] h = refl
length-results f k (x ∷ xs) h = go (f x) (converted_in_order f (k + 1) xs) (length-results f (k + 1) xs) h
  where
    go : (y : Converted ℕ) (m : Converted (List ℕ)) → (gives tt ≡ judged m → length (results m) ≡ length xs) → gives tt ≡ judged (and_then (at_position k y) (λ y. and_then m (λ ys. gives (y ∷ ys)))) → length (results (and_then (at_position k y) (λ y. and_then m (λ ys. gives (y ∷ ys))))) ≡ suc (length xs)
    go (gives y) (gives ys) h e = ap suc (h refl)
    go (gives y) (refused n p) h e = let z : ◌≡◌ {A = ℕ} 0 1 = cc in absurd (omega arith)
    go (refused n p) m h e = let z : ◌≡◌ {A = ℕ} 0 1 = cc in absurd (omega arith)

-- ---- a turn of the loop that fills: what is left to store, stored over what there is, is the whole

length-map : {A B : Type 0} (g : A → B) (xs : List A) → length (map g xs) ≡ length xs
length-map g [] = refl
length-map g (x ∷ xs) = ap suc (length-map g xs)

get_d_map : {A B : Type 0} (g : A → B) (xs : List A) (i : ℕ) (d : A) → get_or (map g xs) i (g d) ≡ g (get_or xs i d)
get_d_map g [] i d = refl
get_d_map g (x ∷ xs) zero d = refl
get_d_map g (x ∷ xs) (suc i) d = get_d_map g xs i d

module _ {A B : Type 0} (g : A → B) (xs : List A) (all out : List B) (i : ℕ) (inv : all ≡ sets out i (drop i (map g xs))) where
  pub fill-turn : (x : A) (v : B) → i < length xs → x ≡ get_or xs i x → v ≡ g x → all ≡ sets (set out i v) (i + 1) (drop (i + 1) (map g xs))
  fill-turn x v h e f =
      let l : i < length (map g xs) = omega (arith, length-map g xs) in
      inv ∙ ap (λ (y : List B). sets out i y) (drop-cons (map g xs) i (g x) l)
      ∙ ap (λ (y : B). sets (set out i y) (suc i) (drop (suc i) (map g xs))) (get_d_map g xs i x ∙ ap g (sym e) ∙ sym f)
      ∙ ap (λ (k : ℕ). sets (set out i v) k (drop k (map g xs))) (sym (add-one i))

  pub fill_end : length xs ≤ i → all ≡ out
  fill_end h =
      let l : length (map g xs) ≤ i = omega (arith, length-map g xs) in
      inv ∙ ap (λ (y : List B). sets out i y) (drop_of_length-le (map g xs) l)

-- ---- what holds of the elements before i, and of that at i
pub passed-more : (ok : ℕ → Bool) (xs : List ℕ) (i : ℕ) → Passed ok xs i → ok (get_or xs i 0) ≡ true → Passed ok xs (i + 1)
passed-more ok xs i h e j l = go (native.Mathlib.Nat.eq-or-lt_of_le (below j l))
  where
    below : (j : ℕ) → j < i + 1 → j ≤ i
    below j l = omega arith

    go : (j ≡ i) ⊎ (j < i) → ok (get_or xs j 0) ≡ true
    go (inl z) = subst (λ (k : ℕ). ok (get_or xs k 0) ≡ true) (sym z) e
    go (inr z) = h j z

-- ---- numbers joined by `|`: where that is 0, each is
pub or-none : (a b : ℕ) → bit_or a b ≡ 0 → (a ≡ 0) × (b ≡ 0)
or-none a b e = (omega (arith, or_add_and a b, and_le_l a b, and_le_r a b), omega (arith, or_add_and a b, and_le_l a b, and_le_r a b))

pub marked-none : (t : Bool) → from_bool (not t) ≡ 0 → t ≡ true
marked-none true e = refl
marked-none false e = absurd (omega arith)

pub low-none : (v : ℕ) → from_bool (ltb 10000 v) ≡ 0 → low v ≡ true
low-none v e = go (ltb 10000 v) refl e
  where
    go : (b : Bool) → ltb 10000 v ≡ b → from_bool b ≡ 0 → low v ≡ true
    go true f e = absurd (omega arith)
    go false f e = le-leb v 10000 (ltb-false 10000 v f)

pub above-low : (v : ℕ) → true ≡ ltb 10000 v → low v ≡ false
above-low v e = lt-leb v 10000 (ltb-true 10000 v (sym e))

pub below-low : (v : ℕ) → false ≡ ltb 10000 v → low v ≡ true
below-low v e = le-leb v 10000 (ltb-false 10000 v (sym e))

-- ---- what `position` finds
pub first-found : (ok : ℕ → Bool) (xs : List ℕ) (r : Option ℕ)
    → MatchOption r (AllWithin (λ v. ok v ≡ true) xs 0 (length xs)) (λ i. (i < length xs) × HoldsAt (λ v. ok v ≡ false) xs i × AllWithin (λ v. ok v ≡ true) xs 0 i)
    → First ok xs r
first-found ok xs None h = λ j l. h j 0 (omega arith) l
first-found ok xs (Some i) h = (h.0, λ j l. h.2 j 0 (omega arith) l, h.1 0)

-- ---- a refusal that is handed on
pub told-exit : (r : Result Unit Refusal) (e : Refusal) → IsErrAnd r (λ y. y ≡ e) → told r ≡ refused (number_of e.0) e.1
told-exit r e h = let p = err_from_is_err_and r h in rw (p.1, p.2)
