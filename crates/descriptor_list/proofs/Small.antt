-- The listings of P11 and P12 of docs/RULES.md, as they stand in docs/LISTINGS.md, and of the empty file. Assumes nothing.
use Prim.Native.Nat.{ℕ}
use mathlib.Core.Path.{◌≡◌, refl}
use mathlib.Core.List.{List, [], ◌∷◌}
use Rattle.algebra.specs.Numbers.{num, nums, be, joined}
use Rattle.algebra.specs.Reader.{field, body, each, ended}
use Rattle.descriptor.specs.Reading as d
use Rattle.descriptor.specs.Reading.{descriptor}
use Rattle.listing.specs.Text.{ascii, digit, decimal_in, lines}
use Rattle.descriptor_list.specs.Listing.{kept, listing}

-- P11 with a pair count, and pairs
unfoldable pub p11 : ℕ → List ℕ → List ℕ
p11 n pairs = 0x00 ∷ 0x00 ∷ 0x00 ∷ 0x10 ∷ 0x00 ∷ 0x00 ∷ 0x00 ∷ 0x00 ∷ 0x00 ∷ 0x00 ∷ 0x00 ∷ 0x01 ∷ 0x61 ∷ 0x00 ∷ 0x00 ∷ 0x00 ∷ n ∷ pairs

-- the pair of P12
unfoldable pub pair : List ℕ
pair =
    0x00 ∷ 0x00 ∷ 0x00 ∷ 0x01 ∷ 0x61 ∷ 0x56 ∷ 0x6C ∷ 0x4C ∷ 0x73 ∷ 0x00 ∷ 0x00 ∷ 0x00 ∷ 0x02 ∷ 0x62 ∷ 0x6F ∷ 0x6F ∷ 0x6C ∷ 0x01 ∷ 0x62 ∷ 0x6F ∷ 0x6F ∷ 0x6C ∷ 0x01
    ∷ []

pub small-listed :
    (listing (descriptor []) ≡ ascii "refused 2 at 0\n")
    × (listing (descriptor (p11 0 [])) ≡ ascii "DESC 1\n0 Objc 0 0 17 0\nend\n")
    × (listing (descriptor (p11 1 pair)) ≡ ascii "DESC 4\n0 Objc 0 0 40 0\n1 VlLs 0 17 23 1\n2 bool 1 30 5 2\n3 bool 1 35 5 2\nend\n")
unfolding p11 pair num nums be joined field body each ended d.descriptor d.whole d.root d.object_of d.children d.siblings d.class d.unicode d.shut d.id d.keyed d.item d.sort_of d.flag digit decimal_in lines kept
small-listed = (refl, refl, refl)
