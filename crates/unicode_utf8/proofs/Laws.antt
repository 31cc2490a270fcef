-- A name's bytes by units, and stores one behind the other. Assumes nothing.
use Prim.Native.Nat.{ℕ, ◌+◌, ◌*◌, ◌/◌, ◌≤◌, ◌<◌}
use mathlib.Core.Path.{◌≡◌, refl, sym, ap, ◌∙◌}
use mathlib.Core.List.{List, [], ◌∷◌}
use mathlib.Core.Bool.{Bool, true, false}
use lib.ListN.{length, get_or, set, get_or-eq_default}
use lib.Seq.{sets}
use lib.Dec.{ltb}
use borrow.Author.Tests.{ltb-true, ltb-false}
use native.Mathlib.Omega.{arith}
use native.Mathlib.Numerals.{unary_clauses}
use Rattle.algebra.specs.Reader.{field, or_zero}
use Rattle.algebra.specs.Numbers.{num, nums}
use Rattle.algebra.proofs.Laws.{field_in, field-short}
use Rattle.algebra.proofs.Places.{length-nums, getD-nums}
use Rattle.unicode_utf8.specs.scaffold.Steps.{units_within}

-- ---- a name's bytes

pub length-units : (b : List ℕ) → length (units_within b) ≡ length b / 2
unfolding units_within
length-units b = length-nums 2 (length b / 2) b 0

pub unit-is : (b : List ℕ) (i : ℕ) → or_zero (field 2 b (2 * i)) ≡ get_or (units_within b) i 0
unfolding units_within
unit-is b i = go (ltb i (length b / 2)) refl
  where
    go : (t : Bool) → ltb i (length b / 2) ≡ t → or_zero (field 2 b (2 * i)) ≡ get_or (nums 2 (length b / 2) b 0) i 0
    go true e =
        let h : i < length b / 2 = ltb-true i (length b / 2) e in
        let z : 2 * i ≡ 0 + 2 * i = omega arith in
        ap or_zero (field_in 2 b (2 * i) (omega arith)) ∙ ap (num 2 b) z ∙ sym (getD-nums 2 b (length b / 2) 0 i h)
    go false e =
        let h : length b / 2 ≤ i = ltb-false i (length b / 2) e in
        ap or_zero (field-short 2 b (2 * i) (omega arith)) ∙ sym (get_or-eq_default (nums 2 (length b / 2) b 0) 0 (omega (arith, length-nums 2 (length b / 2) b 0)))

-- ---- stores one behind the other

module _ (out : List ℕ) (at a b c d : ℕ) where
  pub set-two : set (set out at a) (at + 1) b ≡ sets out at (a ∷ b ∷ [])
  set-two = simp unary_clauses

  pub set-three : set (set (set out at a) (at + 1) b) (at + 2) c ≡ sets out at (a ∷ b ∷ c ∷ [])
  set-three = simp unary_clauses

  pub set-four : set (set (set (set out at a) (at + 1) b) (at + 2) c) (at + 3) d ≡ sets out at (a ∷ b ∷ c ∷ d ∷ [])
  set-four = simp unary_clauses
