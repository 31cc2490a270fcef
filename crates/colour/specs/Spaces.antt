-- The colour spaces of ACO files.
use Rattle.std.specs.Prelude.{ℕ, ◌+◌, Bool, true, false, ◌&&◌, List, [], ◌∷◌, leb, ltb, eqb}
use Rattle.algebra.specs.Reader.{pick}
use Rattle.colour.specs.Models.{traits_of}
use Rattle.colour.specs.declared.model.Model.TheVariants.{Rgb, Cmyk, Lab, Gray}

abbrev pub rgb : ℕ
rgb = 0

abbrev pub hsb : ℕ
hsb = 1

abbrev pub cmyk : ℕ
cmyk = 2

abbrev pub lab : ℕ
lab = 7

abbrev pub gray : ℕ
gray = 8

-- how many of its four samples a colour of a space uses: RGB, HSB and Lab three, CMYK four, gray one; no other space is known
unfoldable pub uses : ℕ → ℕ
uses x = pick (eqb x rgb) 3 (pick (eqb x hsb) 3 (pick (eqb x cmyk) 4 (pick (eqb x lab) 3 (pick (eqb x gray) 1 0))))

-- the largest sample of a space, in Lab of its lightness: that of its model, where it has one
unfoldable pub full : ℕ → ℕ
full x =
    pick (eqb x rgb) (traits_of Rgb).full
    (pick (eqb x hsb) 65535
    (pick (eqb x cmyk) (traits_of Cmyk).full
    (pick (eqb x lab) (traits_of Lab).full
    (pick (eqb x gray) (traits_of Gray).full 0))))

unfoldable pub known : ℕ → Bool
known x = ltb 0 (uses x)

-- a chrominance of Lab is signed, from -12,800 to 12,700, and kept as an unsigned number of 16 bits
unfoldable pub chrominance : ℕ → Bool
chrominance v = pick (leb v 12700) true (pick (leb 52736 v) (leb v 65535) false)

-- the range of the sample at a position that a colour of a space uses: 0 to the largest, but for the two chrominances of Lab
unfoldable pub ranged : ℕ → ℕ → ℕ → Bool
ranged x k v = pick (eqb x lab && ltb 0 k) (chrominance v) (leb v (full x))

-- whether the sample at a position of a colour of a space may have a value: one that the space does not use is 0
unfoldable pub allowed : ℕ → ℕ → ℕ → Bool
allowed x k v = pick (ltb k (uses x)) (ranged x k v) (eqb v 0)

-- the samples of a colour of a space, from position k, are all allowed
unfoldable pub all_allowed : ℕ → ℕ → List ℕ → Bool
all_allowed x k [] = true
all_allowed x k (v ∷ vs) = pick (allowed x k v) (all_allowed x (k + 1) vs) false

-- a colour without a fault
unfoldable pub sound : ℕ → List ℕ → Bool
sound x vs = pick (known x) (all_allowed x 0 vs) false
