-- What is promised of keys, besides the contract. Assumes nothing.
use Prim.Native.Nat.{ℕ}
use mathlib.Core.Path.{◌≡◌, refl}
use mathlib.Core.List.{List, [], ◌∷◌}
use mathlib.Core.Bool.{false}
use Rattle.algebra.specs.Chars.{chars}
use Rattle.algebra.specs.Numbers.{num, nums}
use Rattle.algebra.specs.Reader.{ok, refuse, field, body, until, ended}
use Rattle.descriptor.specs.Reading.{id, shut, unicode, class, flag, sort_of, Row, siblings, children, keyed, object_of, item, root, whole, descriptor}
use Rattle.descriptor_find.specs.Find.{key, keys_of, equal_bytes, matches, look_up, row_of}

-- a key of length 0 and one of length 4 do not match, whatever bytes they have
pub zero-is-not-four : (b c : List ℕ) → (matches (0, b) (4, c) ≡ false) × (matches (4, b) (0, c) ≡ false)
zero-is-not-four b c = (refl, refl)

-- such IDs are read as two keys, of the same bytes
pub two-keys : keys_of (0 ∷ 0 ∷ 0 ∷ 0 ∷ 0x4e ∷ 0x6d ∷ 0x20 ∷ 0x20 ∷ 0 ∷ 0 ∷ 0 ∷ 4 ∷ 0x4e ∷ 0x6d ∷ 0x20 ∷ 0x20 ∷ []) ≡ ok ((0, 0x4e ∷ 0x6d ∷ 0x20 ∷ 0x20 ∷ []) ∷ (4, 0x4e ∷ 0x6d ∷ 0x20 ∷ 0x20 ∷ []) ∷ []) 16
unfolding keys_of until key field body num nums
two-keys = refl

-- a key that is cut is 2 at its length field or at its body
pub cut-length : keys_of (0 ∷ 0 ∷ 0 ∷ 1 ∷ 0x61 ∷ 0 ∷ 0 ∷ []) ≡ refuse 2 5 0 0
unfolding keys_of until key field body num nums
cut-length = refl

pub cut-body : keys_of (0 ∷ 0 ∷ 0 ∷ 1 ∷ 0x61 ∷ 0 ∷ 0 ∷ 0 ∷ 2 ∷ 0x61 ∷ []) ≡ refuse 2 9 0 0
unfolding keys_of until key field body num nums
cut-body = refl

-- ---- two pairs with the key `a`, the first of which holds the key `b`, and then one with the key `b`

abbrev row : ℕ → ℕ → ℕ → ℕ → ℕ → ℕ → Row
row k p f n d v = record { kind = k; parent = p; first = f; size = n; depth = d; value = v }

abbrev letter : ℕ → List ℕ → List ℕ
letter x l = 0 ∷ 0 ∷ 0 ∷ 1 ∷ x ∷ l

abbrev flags : List ℕ
flags =
    0 ∷ 0 ∷ 0 ∷ 16 ∷ 0 ∷ 0 ∷ 0 ∷ 0 ∷ letter 0x61 (0 ∷ 0 ∷ 0 ∷ 3
    ∷ letter 0x61 (0x4f ∷ 0x62 ∷ 0x6a ∷ 0x63 ∷ 0 ∷ 0 ∷ 0 ∷ 0 ∷ letter 0x61 (0 ∷ 0 ∷ 0 ∷ 1 ∷ letter 0x62 (0x62 ∷ 0x6f ∷ 0x6f ∷ 0x6c ∷ 1
    ∷ letter 0x61 (0x62 ∷ 0x6f ∷ 0x6f ∷ 0x6c ∷ 1 ∷ letter 0x62 (0x62 ∷ 0x6f ∷ 0x6f ∷ 0x6c ∷ 1 ∷ []))))))

abbrev five : List Row
five = row (chars "Objc") 0 0 69 0 4 ∷ row (chars "Objc") 0 17 32 1 26 ∷ row (chars "bool") 1 39 10 2 48 ∷ row (chars "bool") 0 49 10 1 58 ∷ row (chars "bool") 0 59 10 1 68 ∷ []

pub flags-read : descriptor flags ≡ ok five 69
unfolding descriptor whole root object_of children siblings keyed item id unicode class flag sort_of field body num nums shut ended
flags-read = refl

-- the first pair with the key `a`; the pair of the root with the key `b`, not the one below a member; and the number of rows for a key that none has
pub flags-found : (row_of flags five (1, 0x61 ∷ []) ≡ 1) × (row_of flags five (1, 0x62 ∷ []) ≡ 4) × (row_of flags five (1, 0x63 ∷ []) ≡ 5)
unfolding look_up key equal_bytes field body num nums
flags-found = (refl, refl, refl)
