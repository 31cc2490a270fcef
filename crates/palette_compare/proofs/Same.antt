-- Lists of numbers that are the same, and units that are the same where their bytes are. Assumes nothing.
use Prim.Native.Nat.{ℕ, ◌+◌, ◌/◌, ◌%◌, ◌*◌, ◌<◌, ◌^◌}
use mathlib.Core.Path.{◌≡◌, refl, sym, ap, ap₂, ◌∙◌}
use mathlib.Core.List.{List, [], ◌∷◌, ◌++◌}
use mathlib.Core.Bool.{Bool, true, false, ◌&&◌, true≢false}
use lib.Dec.{eqb}
use lib.ListN.{length}
use lib.Pointwise.{pointwise}
use borrow.Author.Tests.{eqb-true, eqb-false, eq-eqb, ne_eqb}
use native.Mathlib.Nat.{div-add-mod'}
use Rattle.algebra.specs.Numbers.{be, joined, All}
use Rattle.algebra.proofs.Places.{be-2}
use Rattle.palette_compare.specs.Compare.{same_numbers}

-- ---- tests joined

pub both : (a b : Bool) → a && b ≡ true → (a ≡ true) × (b ≡ true)
both true b e = (refl, e)
both false b e = absurd (true≢false (sym e))

pub and-true : {a b : Bool} → a ≡ true → b ≡ true → a && b ≡ true
and-true {a} {b} e f = ap₂ (λ (x y : Bool). x && y) e f

pub same-pairs : (xs ys : List ℕ) → pointwise eqb xs ys ≡ same_numbers xs ys
unfolding same_numbers
same-pairs [] [] = refl
same-pairs [] (y ∷ ys) = refl
same-pairs (x ∷ xs) [] = refl
same-pairs (x ∷ xs) (y ∷ ys) = ap (λ (b : Bool). eqb x y && b) (same-pairs xs ys)

pub symmetric : (x y : ℕ) → eqb x y ≡ eqb y x
symmetric x y = go (eqb x y) refl
  where
    go : (b : Bool) → eqb x y ≡ b → eqb x y ≡ eqb y x
    go true e = e ∙ sym (eq-eqb y x (sym (eqb-true x y e)))
    go false e = e ∙ sym (ne_eqb y x (λ z. eqb-false x y e (sym z)))

-- ---- the same numbers

pub same-is : (xs ys : List ℕ) → same_numbers xs ys ≡ true → xs ≡ ys
unfolding same_numbers
same-is [] [] e = refl
same-is [] (y ∷ ys) e = absurd (true≢false (sym e))
same-is (x ∷ xs) [] e = absurd (true≢false (sym e))
same-is (x ∷ xs) (y ∷ ys) e =
    let b = both (eqb x y) (same_numbers xs ys) e in
    ap₂ (λ (z : ℕ) (l : List ℕ). z ∷ l) (eqb-true x y b.0) (same-is xs ys b.1)

pub same-itself : (xs : List ℕ) → same_numbers xs xs ≡ true
unfolding same_numbers
same-itself [] = refl
same-itself (x ∷ xs) = and-true (eq-eqb x x refl) (same-itself xs)

pub same_of : {xs ys : List ℕ} → xs ≡ ys → same_numbers xs ys ≡ true
same_of {xs} e = ap (same_numbers xs) (sym e) ∙ same-itself xs

pub same-turned : (xs ys : List ℕ) → same_numbers xs ys ≡ same_numbers ys xs
unfolding same_numbers
same-turned [] [] = refl
same-turned [] (y ∷ ys) = refl
same-turned (x ∷ xs) [] = refl
same-turned (x ∷ xs) (y ∷ ys) = ap₂ (λ (a b : Bool). a && b) (symmetric x y) (same-turned xs ys)

-- of other lengths they are not
pub same-lengths : (xs ys : List ℕ) → (length xs ≡ length ys → ⊥) → same_numbers xs ys ≡ false
same-lengths xs ys h = go (same_numbers xs ys) refl
  where
    go : (b : Bool) → same_numbers xs ys ≡ b → same_numbers xs ys ≡ false
    go true e = absurd (h (ap length (same-is xs ys e)))
    go false e = e

-- ---- units by their bytes

unit-test : (u v : ℕ) (rest : Bool) → eqb (u / 256) (v / 256) && (eqb (u % 256) (v % 256) && rest) ≡ eqb u v && rest
unit-test u v rest = go (eqb u v) refl
  where
    other : (a b : Bool) → eqb (u / 256) (v / 256) ≡ a → eqb (u % 256) (v % 256) ≡ b → (u ≡ v → ⊥) → a && (b && rest) ≡ false
    other false b e f h = refl
    other true false e f h = refl
    other true true e f h = absurd (h (sym (div-add-mod' u 256) ∙ ap₂ (λ (p q : ℕ). p * 256 + q) (eqb-true _ _ e) (eqb-true _ _ f) ∙ div-add-mod' v 256))

    go : (b : Bool) → eqb u v ≡ b → eqb (u / 256) (v / 256) && (eqb (u % 256) (v % 256) && rest) ≡ eqb u v && rest
    go true e =
        let z : u ≡ v = eqb-true u v e in
        ap₂ (λ (a b : Bool). a && (b && rest)) (eq-eqb _ _ (ap (λ (x : ℕ). x / 256) z)) (eq-eqb _ _ (ap (λ (x : ℕ). x % 256) z)) ∙ ap (λ (a : Bool). a && rest) (sym e)
    go false e = other (eqb (u / 256) (v / 256)) (eqb (u % 256) (v % 256)) refl refl (eqb-false u v e) ∙ ap (λ (a : Bool). a && rest) (sym e)

pub same_units : (us vs : List ℕ) (i j : ℕ) → All (λ k u. u < 256 ^ 2) i us → All (λ k u. u < 256 ^ 2) j vs → same_numbers (joined (be 2) us) (joined (be 2) vs) ≡ same_numbers us vs
unfolding same_numbers joined
same_units [] [] i j a b = refl
same_units [] (v ∷ vs) i j a b = ap (λ (l : List ℕ). same_numbers [] (l ++ joined (be 2) vs)) (be-2 v b.0)
same_units (u ∷ us) [] i j a b = ap (λ (l : List ℕ). same_numbers (l ++ joined (be 2) us) []) (be-2 u a.0)
same_units (u ∷ us) (v ∷ vs) i j a b =
    ap₂ (λ (l m : List ℕ). same_numbers (l ++ joined (be 2) us) (m ++ joined (be 2) vs)) (be-2 u a.0) (be-2 v b.0)
    ∙ unit-test u v (same_numbers (joined (be 2) us) (joined (be 2) vs))
    ∙ ap (λ (x : Bool). eqb u v && x) (same_units us vs (i + 1) (j + 1) a.1 b.1)

-- ---- the loop over bytes: what is found so far and the rest is the whole
