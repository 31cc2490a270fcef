-- P12 as heads, and the rows of these, computed. Assumes nothing.
use Prim.Native.Nat.{ℕ}
use mathlib.Core.Path.{◌≡◌, refl}
use mathlib.Core.List.{List, [], ◌∷◌}
use Rattle.algebra.specs.Chars.{chars}
use Rattle.algebra.specs.Numbers.{num, nums}
use Rattle.algebra.specs.Reader.{ok, field, body, until, ended}
use Rattle.descriptor.specs.Reading.{id, shut, unicode, class, flag, sort_of, Row}
use Rattle.descriptor_heads.specs.Heads.{items, pairs, Opened, bare, item_head, member_head, head_at, root_head, whole_heads, file_heads}
use Rattle.descriptor_heads.specs.Rows.{row_end, rows_from, rows_of}

abbrev p12 : List ℕ
p12 =
    0 ∷ 0 ∷ 0 ∷ 16 ∷ 0 ∷ 0 ∷ 0 ∷ 0 ∷ 0 ∷ 0 ∷ 0 ∷ 1 ∷ 0x61 ∷ 0 ∷ 0 ∷ 0 ∷ 1
    ∷ 0 ∷ 0 ∷ 0 ∷ 1 ∷ 0x61 ∷ 0x56 ∷ 0x6c ∷ 0x4c ∷ 0x73 ∷ 0 ∷ 0 ∷ 0 ∷ 2
    ∷ 0x62 ∷ 0x6f ∷ 0x6f ∷ 0x6c ∷ 1 ∷ 0x62 ∷ 0x6f ∷ 0x6f ∷ 0x6c ∷ 1 ∷ []

abbrev four : List Opened
four =
    record { head = record { kind = chars "Objc"; first = 0; depth = 0; value = 4 }; below = pairs; count = 1 }
    ∷ record { head = record { kind = chars "VlLs"; first = 17; depth = 1; value = 26 }; below = items; count = 2 }
    ∷ bare (chars "bool") 30 2 34 ∷ bare (chars "bool") 35 2 39 ∷ []

pub four-heads : file_heads p12 ≡ ok four 40
unfolding file_heads whole_heads root_head until head_at member_head item_head id unicode class flag sort_of field body num nums shut ended
four-heads = refl

-- with its last `bool` turned, it has the same heads
abbrev turned : List ℕ
turned =
    0 ∷ 0 ∷ 0 ∷ 16 ∷ 0 ∷ 0 ∷ 0 ∷ 0 ∷ 0 ∷ 0 ∷ 0 ∷ 1 ∷ 0x61 ∷ 0 ∷ 0 ∷ 0 ∷ 1
    ∷ 0 ∷ 0 ∷ 0 ∷ 1 ∷ 0x61 ∷ 0x56 ∷ 0x6c ∷ 0x4c ∷ 0x73 ∷ 0 ∷ 0 ∷ 0 ∷ 2
    ∷ 0x62 ∷ 0x6f ∷ 0x6f ∷ 0x6c ∷ 1 ∷ 0x62 ∷ 0x6f ∷ 0x6f ∷ 0x6c ∷ 0 ∷ []

pub turned-heads : file_heads turned ≡ ok four 40
unfolding file_heads whole_heads root_head until head_at member_head item_head id unicode class flag sort_of field body num nums shut ended
turned-heads = refl

abbrev four_rows : List Row
four_rows =
    record { kind = chars "Objc"; parent = 0; first = 0; size = 40; depth = 0; value = 4 } ∷ record { kind = chars "VlLs"; parent = 0; first = 17; size = 23; depth = 1; value = 26 }
    ∷ record { kind = chars "bool"; parent = 1; first = 30; size = 5; depth = 2; value = 34 } ∷ record { kind = chars "bool"; parent = 1; first = 35; size = 5; depth = 2; value = 39 } ∷ []

pub rows-of-four : rows_of 40 four ≡ four_rows
unfolding row_end rows_from
rows-of-four = refl
