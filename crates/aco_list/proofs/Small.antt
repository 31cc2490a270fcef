-- The listings of P2, P3 and P4 of docs/RULES.md, as they stand in docs/LISTINGS.md. Assumes nothing.
use Prim.Native.Nat.{ℕ}
use mathlib.Core.Path.{◌≡◌, refl}
use mathlib.Core.List.{List, [], ◌∷◌}
use Rattle.algebra.specs.Numbers.{num, nums, be, joined}
use Rattle.algebra.specs.Reader.{field, body, each, ended}
use Rattle.algebra.specs.Text.{closed, front, name as text}
use Rattle.colour.specs.Spaces.{uses, full, known, ranged, allowed}
use Rattle.aco.specs.Reading.{samples, colour, heading, entry, second, after, lists, aco}
use Rattle.listing.specs.Text.{ascii, digit, decimal_in, hex, name, lines}
use Rattle.aco_list.specs.Listing.{listing}

unfoldable pub p2 : List ℕ
p2 = 0x00 ∷ 0x01 ∷ 0x00 ∷ 0x00 ∷ []

-- P3 with x for its byte 25
unfoldable pub p3 : ℕ → List ℕ
p3 x = 0x00 ∷ 0x01 ∷ 0x00 ∷ 0x01 ∷ 0x00 ∷ 0x00 ∷ 0xFF ∷ 0xFF ∷ 0x00 ∷ 0x00 ∷ 0x80 ∷ 0x80 ∷ 0x00 ∷ 0x00 ∷ 0x00 ∷ 0x02 ∷ 0x00 ∷ 0x01
    ∷ 0x00 ∷ 0x00 ∷ 0xFF ∷ 0xFF ∷ 0x00 ∷ 0x00 ∷ 0x80 ∷ x ∷ 0x00 ∷ 0x00 ∷ 0x00 ∷ 0x00 ∷ 0x00 ∷ 0x02 ∷ 0x00 ∷ 0x41 ∷ 0x00 ∷ 0x00 ∷ []

pub small-listed :
    (listing (aco p2) ≡ ascii "ACO 0 plain\nend\n")
    × (listing (aco (p3 0x80)) ≡ ascii "ACO 1 names\n0 0 65535 0 32896 0 0041\nend\n")
    × (listing (aco (p3 0x81)) ≡ ascii "refused 7 at 24\n")
unfolding p2 p3 num nums be joined field body each ended closed front text uses full known ranged allowed samples colour heading entry second after lists aco digit decimal_in hex name lines
small-listed = (refl, refl, refl)
