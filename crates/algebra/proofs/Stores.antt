-- Laws of stores in a lent run. Assumes nothing.
use Prim.Native.Nat.{ℕ, suc, ◌+◌, ◌-◌, ◌≤◌, ◌<◌}
use mathlib.Core.Path.{◌≡◌, refl, sym, ap, ap₂, ◌∙◌}
use mathlib.Core.List.{List, [], ◌∷◌, ◌++◌}
use mathlib.Core.Bool.{Bool, true, false}
use lib.ListN.{length, get_or, drop, set, length-append, drop_of_length-le}
use lib.Seq.{sets, drop-cons, length-sets}
use lib.Dec.{leb}
use borrow.Author.Tests.{le-leb, lt-leb, leb-true, leb-false}
use native.Mathlib.Omega.{arith}
use native.Mathlib.Numerals.{add-one}
use native.Mathlib.Nat.{add-zero}
use Rattle.algebra.specs.Reader.{pick}
use Rattle.algebra.specs.Numbers.{be}
use Rattle.algebra.specs.Store.{stored}
use Rattle.algebra.specs.Text.{counted_units}
use Rattle.algebra.proofs.Places.{length-be}

pub stored-in : (out : List ℕ) (at : ℕ) (l : List ℕ) → at + length l ≤ length out → stored out at l ≡ sets out at l
unfolding stored
stored-in out at l h = simp (le-leb _ _ h)

pub stored-out : (out : List ℕ) (at : ℕ) (l : List ℕ) → length out < at + length l → stored out at l ≡ out
unfolding stored
stored-out out at l h = simp (lt-leb _ _ h)

-- stores one after the other
pub sets-append : (xs ys l : List ℕ) (i : ℕ) → sets l i (xs ++ ys) ≡ sets (sets l i xs) (i + length xs) ys
sets-append [] ys l i = ap (λ (k : ℕ). sets l k ys) (sym (add-zero i))
sets-append (x ∷ xs) ys l i = let e : suc i + length xs ≡ i + suc (length xs) = omega arith in sets-append xs ys (set l i x) (suc i) ∙ ap (λ (k : ℕ). sets (sets (set l i x) (suc i) xs) k ys) e

-- a store is two stores, where there is room for both
pub stored-append : (out : List ℕ) (at : ℕ) (a b : List ℕ) (next : ℕ) → at + length (a ++ b) ≤ length out → at + length a ≡ next → stored out at (a ++ b) ≡ stored (stored out at a) next b
stored-append out at a b next h e =
    let n : length (a ++ b) ≡ length a + length b = length-append a b in
    let k : length (sets out at a) ≡ length out = length-sets out at a in
    stored-in out at (a ++ b) h ∙ sets-append a b out at ∙ ap (λ (i : ℕ). sets (sets out at a) i b) e
    ∙ sym (ap (λ (o : List ℕ). stored o next b) (stored-in out at a (omega arith)) ∙ stored-in (sets out at a) next b (omega arith))

pub length-stored : (out : List ℕ) (at : ℕ) (l : List ℕ) → length (stored out at l) ≡ length out
unfolding stored
length-stored out at l = go (leb (at + length l) (length out))
  where
    go : (b : Bool) → length (pick b (sets out at l) out) ≡ length out
    go true = length-sets out at l
    go false = refl

-- a turn of a copy: what is left to store, stored over what there is, is the whole
module _ (all run out : List ℕ) (at i : ℕ) where
  pub copy_start : all ≡ sets out at run → all ≡ sets out (at + 0) (drop 0 run)
  copy_start e = e ∙ ap (λ (k : ℕ). sets out k run) (sym (add-zero at))

  pub copy-turn : all ≡ sets out (at + i) (drop i run) → i < length run → all ≡ sets (set out (at + i) (get_or run i 0)) (at + (i + 1)) (drop (i + 1) run)
  copy-turn e h =
      let a : suc (at + i) ≡ at + (i + 1) = omega arith in
      e ∙ ap (λ (l : List ℕ). sets out (at + i) l) (drop-cons run i 0 h) ∙ ap₂ (λ (x y : ℕ). sets (set out (at + i) (get_or run i 0)) x (drop y run)) a (sym (add-one i))

  pub copy-end : all ≡ sets out (at + i) (drop i run) → length run ≤ i → all ≡ out
  copy-end e h = e ∙ ap (λ (l : List ℕ). sets out (at + i) l) (drop_of_length-le run h)

-- room for w bytes and k, by what is left before the end
pub room-left : (n at w k : ℕ) → w + k ≤ n → leb at (n - w - k) ≡ leb (at + (w + k)) n
room-left n at w k h = go (leb (at + (w + k)) n) refl
  where
    go : (b : Bool) → leb (at + (w + k)) n ≡ b → leb at (n - w - k) ≡ b
    go true e = le-leb at (n - w - k) (omega (arith, leb-true (at + (w + k)) n e))
    go false e = lt-leb at (n - w - k) (omega (arith, leb-false (at + (w + k)) n e))

-- the bytes of the units and the closing zero, stored one after the other
pub put-closing : (out : List ℕ) (at : ℕ) (b o₁ o₂ : List ℕ) → at + (length b + 2) ≤ length out → o₁ ≡ stored out at b → o₂ ≡ stored o₁ (at + length b) (be 2 0) → o₂ ≡ stored out at (b ++ be 2 0)
put-closing out at b o₁ o₂ h e₁ e₂ =
    e₂ ∙ ap (λ (o : List ℕ). stored o (at + length b) (be 2 0)) e₁
    ∙ sym (stored-append out at b (be 2 0) (at + length b) (omega (arith, length-append b (be 2 0), length-be 2 0)) refl)

-- a count of w bytes, and then the units and the closing zero, where there is room for all
module _ (w : ℕ) (out : List ℕ) (at n : ℕ) (b : List ℕ) where
  length-counted : length (counted_units w n b) ≡ w + 2 + length b
  unfolding counted_units
  length-counted = omega (arith, length-append (be w n) (b ++ be 2 0), length-append b (be 2 0), length-be w n, length-be 2 0)

  pub no_room : leb (at + (w + 2 + length b)) (length out) ≡ false → out ≡ stored out at (counted_units w n b)
  no_room e = sym (stored-out out at (counted_units w n b) (omega (arith, length-counted, leb-false (at + (w + 2 + length b)) (length out) e)))

  pub put-counted : (o₁ o₂ : List ℕ) → leb (at + (w + 2 + length b)) (length out) ≡ true → o₁ ≡ stored out at (be w n) → o₂ ≡ stored o₁ (at + w) (b ++ be 2 0) → o₂ ≡ stored out at (counted_units w n b)
  unfolding counted_units
  put-counted o₁ o₂ r e₁ e₂ =
      let h = leb-true (at + (w + 2 + length b)) (length out) r in
      e₂ ∙ ap (λ (o : List ℕ). stored o (at + w) (b ++ be 2 0)) e₁
      ∙ sym (stored-append out at (be w n) (b ++ be 2 0) (at + w) (omega (arith, h, length-append (be w n) (b ++ be 2 0), length-append b (be 2 0), length-be w n, length-be 2 0)) (ap (λ (m : ℕ). at + m) (length-be w n)))
