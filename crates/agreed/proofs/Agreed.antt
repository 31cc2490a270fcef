-- The small files that all agree on, as one statement over one list, computed.
use Prim.Native.Nat.{ℕ, ◌+◌}
use mathlib.Core.Path.{◌≡◌, refl}
use mathlib.Core.List.{List, [], ◌∷◌, map}
use mathlib.Core.Bool.{Bool, false}
use lib.IntN.{ℤ, pos, negsuc}
use Rattle.algebra.specs.Chars.{chars}
use Rattle.algebra.specs.Numbers.{num, nums, be}
use Rattle.algebra.specs.Reader.{Res, ok, refuse, field, body, each, state_after, chain, ended}
use Rattle.algebra.specs.Text.{any_zero, closed, front, name}
use Rattle.colour.specs.Spaces.{uses, full, known, ranged, allowed}
use Rattle.colour.specs.Models.{model_of, is_model, channels_of}
use Rattle.colour.specs.Channels.{in_unit, allows_bits}
use lib.Ieee.{of_bits, le, lt, eq}
use Rattle.ase.specs.Reading as ase
use Rattle.acb.specs.Reading as acb
use Rattle.acb_shown_values.specs.Components.{percent, shown_component}
use Rattle.acb_shown_values.specs.Pages.{non_dummies, numbered, sample_of}
use Rattle.acb_shown_values.specs.Answer.{Told, record_is, refused, page_of}
use Rattle.descriptor.specs.Reading as descriptor
use Rattle.descriptor_tree.specs.Tree.{Descriptor, bytes, root_head, file_bytes, member_heads, file_heads}
use Rattle.descriptor_tree.proofs.Examples as tree
use Rattle.aco.specs.Reading.{Contents, samples, colour, heading, entry, second, after, lists, aco}

unfoldable pub p2 : List ℕ
p2 = 0 ∷ 1 ∷ 0 ∷ 0 ∷ []

-- P3 with x for its byte 25
unfoldable pub p3 : ℕ → List ℕ
p3 x = 0x00 ∷ 0x01 ∷ 0x00 ∷ 0x01 ∷ 0x00 ∷ 0x00 ∷ 0xFF ∷ 0xFF ∷ 0x00 ∷ 0x00 ∷ 0x80 ∷ 0x80 ∷ 0x00 ∷ 0x00 ∷ 0x00 ∷ 0x02 ∷ 0x00 ∷ 0x01 ∷ 0x00 ∷ 0x00 ∷ 0xFF ∷ 0xFF ∷ 0x00 ∷ 0x00 ∷ 0x80 ∷ x ∷ 0x00 ∷ 0x00 ∷ 0x00 ∷ 0x00 ∷ 0x00 ∷ 0x02 ∷ 0x00 ∷ 0x41 ∷ 0x00 ∷ 0x00 ∷ []

-- two lists without colours
unfoldable pub a23 : List ℕ
a23 = 0 ∷ 1 ∷ 0 ∷ 0 ∷ 0 ∷ 2 ∷ 0 ∷ 0 ∷ []

unfoldable pub p5 : List ℕ
p5 = 0x41 ∷ 0x53 ∷ 0x45 ∷ 0x46 ∷ 0x00 ∷ 0x01 ∷ 0x00 ∷ 0x00 ∷ 0x00 ∷ 0x00 ∷ 0x00 ∷ 0x00 ∷ []

-- P6 with n for the last byte of its length, and what follows
unfoldable pub p6 : ℕ → List ℕ → List ℕ
p6 n more = 0x41 ∷ 0x53 ∷ 0x45 ∷ 0x46 ∷ 0x00 ∷ 0x01 ∷ 0x00 ∷ 0x00 ∷ 0x00 ∷ 0x00 ∷ 0x00 ∷ 0x01 ∷ 0x00 ∷ 0x01 ∷ 0x00 ∷ 0x00 ∷ 0x00 ∷ n ∷ 0x00 ∷ 0x01 ∷ 0x00 ∷ 0x00 ∷ 0x47 ∷ 0x72 ∷ 0x61 ∷ 0x79 ∷ 0x3F ∷ 0x80 ∷ 0x00 ∷ 0x00 ∷ 0x00 ∷ 0x02 ∷ more

-- 7 colours, none of them a dummy
abbrev seven : List Bool
seven = false ∷ false ∷ false ∷ false ∷ false ∷ false ∷ false ∷ []

-- P11 with n for the last byte of its pair count, and what follows
unfoldable pub p11 : ℕ → List ℕ → List ℕ
p11 n more = 0x00 ∷ 0x00 ∷ 0x00 ∷ 0x10 ∷ 0x00 ∷ 0x00 ∷ 0x00 ∷ 0x00 ∷ 0x00 ∷ 0x00 ∷ 0x00 ∷ 0x01 ∷ 0x61 ∷ 0x00 ∷ 0x00 ∷ 0x00 ∷ n ∷ more

-- the pair of P12
unfoldable pub p12 : List ℕ
p12 = 0x00 ∷ 0x00 ∷ 0x00 ∷ 0x01 ∷ 0x61 ∷ 0x56 ∷ 0x6C ∷ 0x4C ∷ 0x73 ∷ 0x00 ∷ 0x00 ∷ 0x00 ∷ 0x02 ∷ 0x62 ∷ 0x6F ∷ 0x6F ∷ 0x6C ∷ 0x01 ∷ 0x62 ∷ 0x6F ∷ 0x6F ∷ 0x6C ∷ 0x01 ∷ []

-- a file of a kind; the components of a record of a space; a page by its size, offset and number; the heads of a descriptor
pub data Sample : Type 0 where
  an_aco : List ℕ → Sample
  an_ase : List ℕ → Sample
  an_acb : List ℕ → Sample
  a_descriptor : List ℕ → Sample
  components : ℕ → List ℕ → Sample
  page : ℕ → ℕ → ℕ → List Bool → Sample
  heads : Descriptor → Sample

-- what reading it gives, or what it shows
pub data Reading : Type 0 where
  as_aco : Res Contents → Reading
  as_ase : Res (List ase.Entry) → Reading
  as_acb : Res acb.Contents → Reading
  as_descriptor : Res (List descriptor.Row) → Reading
  shows : List ℤ → Reading
  on_page : Told → Reading
  lengths : List ℕ → Reading

-- the components of a space from position i on
abbrev pub all_shown : ℕ → ℕ → List ℕ → List ℤ
all_shown x i [] = []
all_shown x i (b ∷ bs) = shown_component x i b ∷ all_shown x (i + 1) bs

abbrev pub reading : Sample → Reading
reading (an_aco s) = as_aco (aco s)
reading (an_ase s) = as_ase (ase.ase s)
reading (an_acb s) = as_acb (acb.acb s)
reading (a_descriptor s) = as_descriptor (descriptor.descriptor s)
reading (components x bs) = shows (all_shown x 0 bs)
reading (page z o p ds) = on_page (page_of (sample_of z o p ds))
reading (heads t) = lengths (file_heads t)

abbrev row : ℕ → ℕ → ℕ → ℕ → ℕ → ℕ → descriptor.Row
row k p f n d v = record { kind = k; parent = p; first = f; size = n; depth = d; value = v }

-- P1 of each kind; P2, P3, P4 and two lists without colours; P5, P6, P7; P8, P9; P10; P11, P12 with its heads
pub agreed : map reading (
    an_aco [] ∷ an_ase [] ∷ an_acb [] ∷ a_descriptor []
    ∷ an_aco p2 ∷ an_aco (p3 0x80) ∷ an_aco (p3 0x81) ∷ an_aco a23
    ∷ an_ase p5 ∷ an_ase (p6 0x0E []) ∷ an_ase (p6 0x0F (0 ∷ []))
    ∷ components 7 (0xF8 ∷ 0x7B ∷ 0x7B ∷ []) ∷ components 2 (0 ∷ 128 ∷ 255 ∷ [])
    ∷ page 3 2 0 seven ∷ page 3 2 2 seven ∷ page 3 2 3 seven
    ∷ a_descriptor (p11 0 []) ∷ a_descriptor (p11 1 p12) ∷ heads tree.p12 ∷ [])
    ≡ as_aco (refuse 2 0 0 0)
    ∷ as_ase (refuse 2 0 0 0)
    ∷ as_acb (refuse 2 0 0 0)
    ∷ as_descriptor (refuse 2 0 0 0)
    ∷ as_aco (ok (record { lists = 1; records = [] }) 4)
    ∷ as_aco (ok (record { lists = 2; records = record { colour = record { space = 0; samples = 65535 ∷ 0 ∷ 32896 ∷ 0 ∷ [] }; name = record { first = 32; units = 0x41 ∷ [] } } ∷ [] }) 36)
    ∷ as_aco (refuse 7 24 0 3)
    ∷ as_aco (ok (record { lists = 2; records = [] }) 8)
    ∷ as_ase (ok [] 12)
    ∷ as_ase (ok (ase.colour_read (record { first = 20; units = [] }) (chars "Gray") (0x3F80_0000 ∷ []) 2 ∷ []) 32)
    ∷ as_ase (refuse 13 14 0 0)
    ∷ shows (pos 97 ∷ negsuc 4 ∷ negsuc 4 ∷ [])
    ∷ shows (pos 100 ∷ pos 50 ∷ pos 0 ∷ [])
    ∷ on_page (record_is 2)
    ∷ on_page (record_is 6)
    ∷ on_page (refused 12 0)
    ∷ as_descriptor (ok (row (chars "Objc") 0 0 17 0 4 ∷ []) 17)
    ∷ as_descriptor (ok (row (chars "Objc") 0 0 40 0 4 ∷ row (chars "VlLs") 0 17 23 1 26 ∷ row (chars "bool") 1 30 5 2 34 ∷ row (chars "bool") 1 35 5 2 39 ∷ []) 40)
    ∷ lengths (17 ∷ 13 ∷ 5 ∷ 5 ∷ [])
    ∷ []
unfolding p2 p3 a23 p5 p6 p11 p12 num nums field body be each chain state_after ended any_zero closed front name uses full known ranged allowed samples colour heading entry second after lists aco model_of is_model channels_of in_unit allows_bits of_bits le lt eq ase.group_content ase.colour_content ase.content ase.block ase.heading ase.blocks ase.palette ase.ase acb.opening acb.header acb.book acb.acb percent shown_component non_dummies numbered sample_of descriptor.descriptor descriptor.whole descriptor.root descriptor.object_of descriptor.children descriptor.siblings descriptor.class descriptor.unicode descriptor.shut descriptor.id descriptor.keyed descriptor.item descriptor.sort_of descriptor.flag file_heads member_heads root_head
agreed = refl

-- the tree whose heads these are has the bytes of P12
pub same-file : file_bytes tree.p12 ≡ p11 1 p12
unfolding p11 p12 file_bytes root_head bytes be
same-file = refl
