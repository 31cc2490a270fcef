-- The listings of P5, P6 and P7 of docs/RULES.md, as they stand in docs/LISTINGS.md. Assumes nothing.
use Prim.Native.Nat.{ℕ}
use mathlib.Core.Path.{◌≡◌, refl}
use mathlib.Core.List.{List, [], ◌∷◌, ◌++◌}
use lib.Ieee.{of_bits, le, lt, eq}
use Rattle.algebra.specs.Numbers.{num, nums, be, joined}
use Rattle.algebra.specs.Reader.{field, body, each, state_after, chain, ended}
use Rattle.algebra.specs.Text.{closed, front, name as text}
use Rattle.colour.specs.Models.{model_of, is_model, channels_of}
use Rattle.colour.specs.Channels.{in_unit, allows_bits}
use Rattle.ase.specs.Reading.{group_content, colour_content, content, block, heading, blocks, palette, ase}
use Rattle.listing.specs.Text.{ascii, digit, decimal_in, hex, name, lines}
use Rattle.ase_list.specs.Listing.{listing}

-- a heading with a block count
unfoldable pub headed : ℕ → List ℕ
headed n = 0x41 ∷ 0x53 ∷ 0x45 ∷ 0x46 ∷ 0x00 ∷ 0x01 ∷ 0x00 ∷ 0x00 ∷ 0x00 ∷ 0x00 ∷ 0x00 ∷ n ∷ []

-- P6 with x for its payload's length, and bytes behind it
unfoldable pub p6 : ℕ → List ℕ → List ℕ
p6 x more =
    headed 1 ++ (0x00 ∷ 0x01 ∷ 0x00 ∷ 0x00 ∷ 0x00 ∷ x ∷ 0x00 ∷ 0x01 ∷ 0x00 ∷ 0x00 ∷ 0x47 ∷ 0x72 ∷ 0x61 ∷ 0x79 ∷ 0x3F ∷ 0x80 ∷ 0x00 ∷ 0x00 ∷ 0x00 ∷ 0x02 ∷ more)

pub small-listed :
    (listing (headed 0) (ase (headed 0)) ≡ ascii "ASE 0\nend\n")
    × (listing (p6 0x0E []) (ase (p6 0x0E [])) ≡ ascii "ASE 1\n0 colour Gray 3F800000 normal -\nend\n")
    × (listing (p6 0x0F (0x00 ∷ [])) (ase (p6 0x0F (0x00 ∷ []))) ≡ ascii "refused 13 at 14\n")
unfolding headed p6 num nums be joined field body each state_after chain ended closed front text model_of is_model channels_of in_unit allows_bits of_bits le lt eq group_content colour_content content block heading blocks palette ase digit decimal_in hex name lines
small-listed = (refl, refl, refl)
