-- The layout on small files, by running it: P11 and P12. Assumes nothing.
use Prim.Native.Nat.{ℕ}
use mathlib.Core.Path.{◌≡◌, refl}
use mathlib.Core.List.{[], ◌∷◌}
use Rattle.algebra.specs.Chars.{chars}
use Rattle.algebra.specs.Numbers.{num, nums}
use Rattle.algebra.specs.Reader.{ok, field, body, ended}
use Rattle.descriptor.specs.Reading.{Row, descriptor, whole, root, object_of, children, siblings, keyed, item, sort_of, class, unicode, shut, id, flag}

abbrev row : ℕ → ℕ → ℕ → ℕ → ℕ → ℕ → Row
row t p f n d v = record { kind = t; parent = p; first = f; size = n; depth = d; value = v }

pub p11 : descriptor (0 ∷ 0 ∷ 0 ∷ 16 ∷ 0 ∷ 0 ∷ 0 ∷ 0 ∷ 0 ∷ 0 ∷ 0 ∷ 1 ∷ 0x61 ∷ 0 ∷ 0 ∷ 0 ∷ 0 ∷ []) ≡ ok (row (chars "Objc") 0 0 17 0 4 ∷ []) 17
unfolding descriptor whole root object_of children siblings class unicode shut id field body num nums ended
p11 = refl

pub p12 : descriptor
    (0 ∷ 0 ∷ 0 ∷ 16 ∷ 0 ∷ 0 ∷ 0 ∷ 0 ∷ 0 ∷ 0 ∷ 0 ∷ 1 ∷ 0x61 ∷ 0 ∷ 0 ∷ 0 ∷ 1 ∷ 0 ∷ 0 ∷ 0 ∷ 1 ∷ 0x61 ∷ 0x56 ∷ 0x6c ∷ 0x4c ∷ 0x73
    ∷ 0 ∷ 0 ∷ 0 ∷ 2 ∷ 0x62 ∷ 0x6f ∷ 0x6f ∷ 0x6c ∷ 1 ∷ 0x62 ∷ 0x6f ∷ 0x6f ∷ 0x6c ∷ 1 ∷ [])
    ≡ ok (row (chars "Objc") 0 0 40 0 4 ∷ row (chars "VlLs") 0 17 23 1 26 ∷ row (chars "bool") 1 30 5 2 34 ∷ row (chars "bool") 1 35 5 2 39 ∷ []) 40
unfolding descriptor whole root object_of children siblings class unicode shut id field body num nums ended keyed item sort_of flag
p12 = refl
