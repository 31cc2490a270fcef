-- The listing of the book that stands in docs/LISTINGS.md, and of the empty file. Assumes nothing.
use Prim.Native.Nat.{ℕ}
use mathlib.Core.Path.{◌≡◌, refl}
use mathlib.Core.List.{List, [], ◌∷◌}
use Rattle.algebra.specs.Numbers.{num, nums, be, joined}
use Rattle.algebra.specs.Reader.{field, body, each, ended}
use Rattle.acb.specs.Reading as r
use Rattle.acb.specs.Reading.{acb}
use Rattle.acb_shown_values.specs.Pages.{non_dummies, numbered, sample_of}
use Rattle.acb_shown_values.specs.Texts.{behind_equals, shown_start}
use Rattle.listing.specs.Text.{ascii, digit, decimal_in, hex, name, lines}
use Rattle.acb_list.specs.Listing.{pages_from, listing}

-- two RGB colours and a dummy between them, two to a page
unfoldable pub small : List ℕ
small =
    0x38 ∷ 0x42 ∷ 0x43 ∷ 0x42 ∷ 0x00 ∷ 0x01 ∷ 0x0B ∷ 0xB8 ∷ 0x00 ∷ 0x00 ∷ 0x00 ∷ 0x01 ∷ 0x00 ∷ 0x54 ∷ 0x00 ∷ 0x00
    ∷ 0x00 ∷ 0x00 ∷ 0x00 ∷ 0x00 ∷ 0x00 ∷ 0x00 ∷ 0x00 ∷ 0x00 ∷ 0x00 ∷ 0x00 ∷ 0x00 ∷ 0x03 ∷ 0x00 ∷ 0x02 ∷ 0x00 ∷ 0x00
    ∷ 0x00 ∷ 0x00 ∷ 0x00 ∷ 0x00 ∷ 0x00 ∷ 0x01 ∷ 0x00 ∷ 0x41 ∷ 0x20 ∷ 0x20 ∷ 0x20 ∷ 0x20 ∷ 0x20 ∷ 0x31 ∷ 0xFF ∷ 0x00
    ∷ 0x00 ∷ 0x00 ∷ 0x00 ∷ 0x00 ∷ 0x00 ∷ 0x00 ∷ 0x00 ∷ 0x00 ∷ 0x00 ∷ 0x00 ∷ 0x00 ∷ 0x00 ∷ 0x00 ∷ 0x00 ∷ 0x00 ∷ 0x00
    ∷ 0x00 ∷ 0x01 ∷ 0x00 ∷ 0x42 ∷ 0x20 ∷ 0x20 ∷ 0x20 ∷ 0x20 ∷ 0x20 ∷ 0x32 ∷ 0x00 ∷ 0x00 ∷ 0xFF ∷ 0x73 ∷ 0x70 ∷ 0x66
    ∷ 0x6C ∷ 0x73 ∷ 0x70 ∷ 0x6F ∷ 0x74 ∷ []

pub small-listed :
    (listing [] (acb []) ≡ ascii "refused 2 at 0\n")
    × (listing small (acb small) ≡ ascii "ACB 3 0 2 0 3000 spot\ntitle 0054\nprefix -\nsuffix -\ndescription -\n0 202020202031 255 0 0 0041\n1 000000000000 0 0 0 -\n2 202020202032 0 0 255 0042\npage 0 0\npage 1 2\nend\n")
unfolding small num nums be joined field body each ended r.string r.colour r.opening r.strings r.numbers r.header r.closing r.book r.acb non_dummies numbered sample_of behind_equals shown_start digit decimal_in hex name lines pages_from
small-listed = (refl, refl)
