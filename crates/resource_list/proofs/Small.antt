-- Small listings: those of docs/LISTINGS.md, of no bytes, and of a document whose section is damaged. Assumes nothing.
use Prim.Native.Nat.{ℕ}
use mathlib.Core.Path.{◌≡◌, refl}
use mathlib.Core.List.{List, [], ◌∷◌, ◌++◌}
use Rattle.algebra.specs.Numbers.{num, nums, be, joined}
use Rattle.algebra.specs.Reader.{field, body, until}
use Rattle.resource.specs.Reading.{block_part, padded_part, block, resources}
use Rattle.resource_document.specs.Reading.{start, image, colours, resources_in, document}
use Rattle.listing.specs.Text.{ascii, digit, decimal_in, hex, name, lines}
use Rattle.resource_list.specs.Listing.{listing}

-- a block of 1005 without a name, and one of 2000 with the name A and one byte of data, with z for its pad
unfoldable pub two : ℕ → List ℕ
two z =
    0x38 ∷ 0x42 ∷ 0x49 ∷ 0x4D ∷ 0x03 ∷ 0xED ∷ 0x00 ∷ 0x00 ∷ 0x00 ∷ 0x00 ∷ 0x00 ∷ 0x02 ∷ 0x00 ∷ 0x48
    ∷ 0x38 ∷ 0x42 ∷ 0x49 ∷ 0x4D ∷ 0x07 ∷ 0xD0 ∷ 0x01 ∷ 0x41 ∷ 0x00 ∷ 0x00 ∷ 0x00 ∷ 0x01 ∷ 0xFF ∷ z ∷ []

-- a document with a section of n bytes, and what follows
unfoldable pub held : ℕ → List ℕ → List ℕ
held n more =
    0x38 ∷ 0x42 ∷ 0x50 ∷ 0x53 ∷ 0x00 ∷ 0x01 ∷ 0x00 ∷ 0x00 ∷ 0x00 ∷ 0x00 ∷ 0x00 ∷ 0x00
    ∷ 0x00 ∷ 0x03 ∷ 0x00 ∷ 0x00 ∷ 0x00 ∷ 0x01 ∷ 0x00 ∷ 0x00 ∷ 0x00 ∷ 0x01 ∷ 0x00 ∷ 0x08 ∷ 0x00 ∷ 0x03
    ∷ 0x00 ∷ 0x00 ∷ 0x00 ∷ 0x00 ∷ 0x00 ∷ 0x00 ∷ 0x00 ∷ n ∷ more

pub small-listed :
    (listing [] ≡ ascii "8BIM 0\nend\n")
    × (listing (two 0) ≡ ascii "8BIM 2\n0 1005 - 12 2\n1 2000 41 26 1\nend\n")
    × (listing (two 1) ≡ ascii "refused 5 at 27\n")
    × (listing (held 28 (two 0 ++ (0xFF ∷ []))) ≡ ascii "8BIM 2\n0 1005 - 46 2\n1 2000 41 60 1\nend\n")
    × (listing (held 28 (two 1)) ≡ ascii "refused 5 at 61\n")
    × (listing (held 29 (two 0)) ≡ ascii "refused 2 at 34\n")
unfolding two held num nums be joined field body until block_part padded_part block resources start image colours resources_in document digit decimal_in hex name lines
small-listed = (refl, refl, refl, refl, refl, refl)
