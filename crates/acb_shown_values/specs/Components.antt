-- What the byte of a component shows.
use Rattle.std.specs.Prelude.{ℕ, ◌+◌, ◌-◌, ◌*◌, ◌/◌, ℤ, pos, ◌-ℤ◌, eqb}
use Rattle.algebra.specs.Reader.{pick}
use Rattle.colour.specs.Spaces.{cmyk, lab}

-- a byte as a percentage of 255, rounded to the nearest, halves up
unfoldable pub percent : ℕ → ℕ
percent b = (200 * b + 255) / 510

-- a byte about 0
abbrev pub centred : ℕ → ℤ
centred b = pos b -ℤ pos 128

-- by the space and the component's position: CMYK counts 0 as full ink; of Lab, lightness is a percentage and a and b are about 0; RGB shows as it is
unfoldable pub shown_component : ℕ → ℕ → ℕ → ℤ
shown_component x k b =
    pick (eqb x cmyk) (pos (percent (255 - b)))
    (pick (eqb x lab) (pick (eqb k 0) (pos (percent b)) (centred b)) (pos b))
