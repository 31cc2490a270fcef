-- A row's numbers and the record taken from them. Assumes nothing.
use Prim.Native.Nat.{ℕ}
use mathlib.Core.Path.{◌≡◌, refl, sym, ap, ◌∙◌}
use mathlib.Core.List.{List, [], ◌∷◌}
use lib.ListN.{length, get_or, length-append}
use native.Mathlib.Omega.{arith}
use Rattle.aco.specs.Row.{RecordRow, width, numbers, taken}

-- a list of four by its elements
pub four : (l : List ℕ) → length l ≡ 4 → l ≡ get_or l 0 0 ∷ get_or l 1 0 ∷ get_or l 2 0 ∷ get_or l 3 0 ∷ []
four [] e = absurd (omega arith)
four (a ∷ []) e = absurd (omega arith)
four (a ∷ b ∷ []) e = absurd (omega arith)
four (a ∷ b ∷ c ∷ []) e = absurd (omega arith)
four (a ∷ b ∷ c ∷ d ∷ []) e = refl
four (a ∷ b ∷ c ∷ d ∷ x ∷ l) e = absurd (omega arith)

module _ (g : RecordRow) (h : length g.samples ≡ 4) where
  pub length-numbers : length (numbers g) ≡ width
  length-numbers = omega (arith, length-append g.samples (g.first ∷ g.units ∷ g.ink ∷ []))

  pub taken-numbers : taken (numbers g) ≡ g
  taken-numbers =
      let of : List ℕ → RecordRow = λ vs. record { space = g.space; samples = vs; first = g.first; units = g.units; ink = g.ink } in
      ap (λ (vs : List ℕ). taken (numbers (of vs))) (four g.samples h) ∙ sym (ap of (four g.samples h))
