-- Rows of one width in a run of numbers: stored one after the other, and taken back by their numbers.
use Prim.Native.Nat.{ℕ, suc, ◌+◌, ◌*◌, ◌≤◌, ◌<◌}
use mathlib.Core.Path.{◌≡◌, refl, sym, ap, ap₂, ◌∙◌}
use mathlib.Core.List.{List, [], ◌∷◌, ◌++◌, map, append_assoc}
use lib.ListN.{length, get_or, drop, length-append, drop_of_length-le}
use lib.Seq.{sets, drop-cons}
use native.Mathlib.Omega.{arith}
use native.Mathlib.Nat.{mul-suc, mul-zero}
use native.Mathlib.Numerals.{add-one}
use Rattle.algebra.specs.Numbers.{joined, counted, All}
use Rattle.algebra.proofs.Stores.{sets-append}

-- the place behind row k
next_row : (w k : ℕ) → w * k + w ≡ w * (k + 1)
next_row w k = sym (ap (λ (n : ℕ). w * n) (add-one k) ∙ mul-suc w k)

-- ---- a turn of the loop that stores rows: what is left to store, stored over what there is, is the whole

module _ {A : Type 0} (w : ℕ) (row : A → List ℕ) (es : List A) (all t : List ℕ) (i : ℕ) (inv : all ≡ sets t (w * i) (joined row (drop i es))) where
  pub fill-turn : (d : A) → i < length es → (t' xs : List ℕ) → row (get_or es i d) ≡ xs → length xs ≡ w → t' ≡ sets t (w * i) xs → all ≡ sets t' (w * (i + 1)) (joined row (drop (i + 1) es))
  unfolding joined
  fill-turn d h t' xs e l s =
      let p : w * i + length xs ≡ w * (i + 1) = ap (λ (n : ℕ). w * i + n) l ∙ next_row w i in
      inv ∙ ap (λ (y : List A). sets t (w * i) (joined row y)) (drop-cons es i d h)
      ∙ ap (λ (y : List ℕ). sets t (w * i) (y ++ joined row (drop (suc i) es))) e
      ∙ sets-append xs (joined row (drop (suc i) es)) t (w * i)
      ∙ ap₂ (λ (k m : ℕ). sets (sets t (w * i) xs) k (joined row (drop m es))) p (sym (add-one i))
      ∙ ap (λ (o : List ℕ). sets o (w * (i + 1)) (joined row (drop (i + 1) es))) (sym s)

  pub fill_end : length es ≤ i → all ≡ t
  unfolding joined
  fill_end h = inv ∙ ap (λ (y : List A). sets t (w * i) (joined row y)) (drop_of_length-le es h)

-- ---- rows taken back by `at`, which gives of row k what was stored of it

module _ {A B : Type 0} (w : ℕ) (row : A → List ℕ) (at : List ℕ → ℕ → B) (taken : A → B) (Fit : A → Type 0)
    (wide : (a : A) → Fit a → length (row a) ≡ w)
    (back : (p : List ℕ) (k : ℕ) (a : A) (more : List ℕ) → length p ≡ w * k → Fit a → at (p ++ (row a ++ more)) k ≡ taken a) where
  rows-from : (p : List ℕ) (k i : ℕ) (es : List A) → All (λ j. Fit) i es → length p ≡ w * k → counted (at (p ++ joined row es)) (length es) k ≡ map taken es
  unfolding counted joined
  rows-from p k i [] h l = refl
  rows-from p k i (a ∷ es) h l =
      let len : length (p ++ row a) ≡ w * (k + 1) = length-append p (row a) ∙ ap₂ (λ (m n : ℕ). m + n) l (wide a h.0) ∙ next_row w k in
      ap₂ (λ (x : B) (xs : List B). x ∷ xs) (back p k a (joined row es) l h.0)
      (ap (λ (r : List ℕ). counted (at r) (length es) (k + 1)) (sym (append_assoc p (row a) (joined row es))) ∙ rows-from (p ++ row a) (k + 1) (i + 1) es h.1 len)

  pub rows_back : (es : List A) → All (λ j. Fit) 0 es → counted (at (joined row es)) (length es) 0 ≡ map taken es
  rows_back es h = rows-from [] 0 0 es h (sym (mul-zero w))

  length_from : (i : ℕ) (es : List A) → All (λ j. Fit) i es → length (joined row es) ≡ w * length es
  unfolding joined
  length_from i [] h = sym (mul-zero w)
  length_from i (a ∷ es) h =
      let e : w + w * length es ≡ w * length es + w = omega arith in
      length-append (row a) (joined row es) ∙ ap₂ (λ (m n : ℕ). m + n) (wide a h.0) (length_from (i + 1) es h.1) ∙ e ∙ sym (mul-suc w (length es))

  pub length-rows : (es : List A) → All (λ j. Fit) 0 es → length (joined row es) ≡ w * length es
  length-rows es h = length_from 0 es h

-- a row that is always fit
pub all_fit : {A : Type 0} (i : ℕ) (es : List A) → All (λ j a. Unit {0}) i es
unfolding All
all_fit i [] = tt
all_fit i (a ∷ es) = (tt, all_fit (i + 1) es)
