-- A record as a row, and back. Assumes nothing.
use Prim.Native.Nat.{ℕ}
use mathlib.Core.Path.{◌≡◌, refl, ap, ◌∙◌}
use mathlib.Core.List.{List, [], ◌∷◌}
use lib.ListN.{length, get_or}
use native.Mathlib.Omega.{arith}
use Rattle.algebra.specs.Table.{whole}
use Rattle.algebra.proofs.Table.{whole_in}
use Rattle.ase.specs.Reading.{Entry, group_start_read, group_end_read, colour_read}
use Rattle.ase.specs.Row.{RecordRow, width, four_of, numbers, taken, empty_record, given_of}

pub row-wide : (g : RecordRow) → length (numbers g) ≡ width
row-wide g = refl

pub four_same : (bs : List ℕ) → length bs ≡ 4 → four_of bs ≡ bs
four_same (a ∷ b ∷ c ∷ d ∷ []) e = refl
four_same [] e = absurd (omega arith)
four_same (a ∷ []) e = absurd (omega arith)
four_same (a ∷ b ∷ []) e = absurd (omega arith)
four_same (a ∷ b ∷ c ∷ []) e = absurd (omega arith)
four_same (a ∷ b ∷ c ∷ d ∷ x ∷ bs) e = absurd (omega arith)

-- a record of four channels is the one that its row gives
pub taken_back : (g : RecordRow) → length g.channels ≡ 4 → taken (numbers g) ≡ g
taken_back g e = ap (λ (bs : List ℕ). record { block = g.block; first = g.first; units = g.units; model = g.model; channels = bs; ink = g.ink }) (four_same g.channels e)

-- and the one record of a run that is its row
pub row_back : (g : RecordRow) → length g.channels ≡ 4 → get_or (whole width taken (numbers g)) 0 empty_record ≡ g
row_back g e = whole_in width taken (numbers g) empty_record 0 (omega arith) ∙ taken_back g e

-- as a record that was read is
pub given_back : (e : Entry) → taken (numbers (given_of e)) ≡ given_of e
given_back (group_start_read nm) = refl
given_back group_end_read = refl
given_back (colour_read nm t bs k) = refl
