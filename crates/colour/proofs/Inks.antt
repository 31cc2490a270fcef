-- Inks by their numbers. Assumes nothing.
use Prim.Native.Nat.{ℕ, ◌≤◌, ◌<◌}
use mathlib.Core.Path.{◌≡◌, refl, sym, subst}
use mathlib.Core.Bool.{Bool, true, false}
use lib.Dec.{eqb}
use borrow.Author.Tests.{eqb-true, ne_eqb}
use native.Mathlib.Omega.{arith}
use Rattle.std.specs.Prelude.{Option, Some, None}
use Rattle.algebra.specs.Reader.{pick}
use Rattle.colour.specs.declared.ink.Ink.{Ink}
use Rattle.colour.specs.declared.ink.Ink.TheVariants.{Global, Spot, Normal, Process, NotStated}
use Rattle.colour.specs.Inks.{ink_number, ink_of}

-- an ink is found by its number
pub ink-back : (i : Ink) → ink_of (ink_number i) ≡ Some i
unfolding ink_of
ink-back Global = refl
ink-back Spot = refl
ink-back Normal = refl
ink-back Process = refl
ink-back NotStated = refl

-- no number is above 4
pub ink_small : (i : Ink) → ink_number i ≤ 4
ink_small Global = omega arith
ink_small Spot = omega arith
ink_small Normal = omega arith
ink_small Process = omega arith
ink_small NotStated = omega arith

pub ink-unknown : (n : ℕ) → 4 < n → ink_of n ≡ None
unfolding ink_of
ink-unknown n h = simp (ne_eqb n 0 (λ z. omega arith), ne_eqb n 1 (λ z. omega arith), ne_eqb n 2 (λ z. omega arith), ne_eqb n 3 (λ z. omega arith), ne_eqb n 4 (λ z. omega arith))

-- ---- the number of an ink that was found by it

data Numbered (n : ℕ) : Option Ink → Type 0 where
  of : (i : Ink) → n ≡ ink_number i → Numbered n (Some i)
  none : Numbered n None

number_by : (n : ℕ) (i : Ink) (b : Bool) → eqb n (ink_number i) ≡ b → (rest : Option Ink) → Numbered n rest → Numbered n (pick b (Some i) rest)
number_by n i true e rest more = of i (eqb-true n (ink_number i) e)
number_by n i false e rest more = more

ink-numbered : (n : ℕ) → Numbered n (ink_of n)
unfolding ink_of
ink-numbered n =
    number_by n Global (eqb n 0) refl _ (number_by n Spot (eqb n 1) refl _ (number_by n Normal (eqb n 2) refl _
    (number_by n Process (eqb n 3) refl _ (number_by n NotStated (eqb n 4) refl _ none))))

pub number-back : (n : ℕ) (i : Ink) → ink_of n ≡ Some i → ink_number i ≡ n
number-back n i e = go (subst (Numbered n) e (ink-numbered n))
  where
    go : Numbered n (Some i) → ink_number i ≡ n
    go (of j g) = sym g
