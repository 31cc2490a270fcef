-- ACO files as byte strings, joined from swatches: what may stand in a file. Nothing here reads.
-- The spaces and the limits are written here by themselves, from docs/RULES.md, and not taken from the reader's.
use Rattle.std.specs.Prelude.{ℕ, ◌-◌, ◌≤◌, ◌<◌, ◌≡◌, List, [], ◌∷◌, ◌++◌, length, get_or}
use Rattle.algebra.specs.Numbers.{be, joined, All}
use Rattle.algebra.specs.Text.{name_bytes, Named}

-- a swatch: the number of its space, its samples, and the units of its name, none where it has no name
pub record Swatch : Type 0 where
  pub space : ℕ
  pub samples : List ℕ
  pub name : List ℕ

-- ---- its bytes

-- ten bytes: space and four samples
unfoldable pub colour_bytes : Swatch → List ℕ
colour_bytes w = be 2 w.space ++ joined (be 2) w.samples

-- the ten bytes, and directly the name: a 32-bit count of units with the closing zero, then the units
unfoldable pub entry_bytes : Swatch → List ℕ
entry_bytes w = colour_bytes w ++ name_bytes 4 w.name

-- list 1: version 1, count, colours
unfoldable pub list_one : List Swatch → List ℕ
list_one ws = be 2 1 ++ (be 2 (length ws) ++ joined colour_bytes ws)

-- list 2: version 2, the same count, colours with names
unfoldable pub list_two : List Swatch → List ℕ
list_two ws = be 2 2 ++ (be 2 (length ws) ++ joined entry_bytes ws)

-- what a writer writes
unfoldable pub two_lists : List Swatch → List ℕ
two_lists ws = list_one ws ++ list_two ws

-- ---- which swatches are allowed

-- what a sample counts: from 0 to a largest number; a chrominance, which has a sign; or nothing, where it is not used
pub data Scale : Type 0 where
  up_to : ℕ → Scale
  chrominance : Scale
  unused : Scale

-- a chrominance, from -12,800 to 12,700, by its 16 bits: those of -n are 65,536 - n
pub data Chrominance : ℕ → Type 0 where
  plus : (n : ℕ) → n ≤ 12700 → Chrominance n
  minus : (n : ℕ) → 0 < n → n ≤ 12800 → Chrominance (65536 - n)

-- a sample that is on a scale
abbrev pub On : Scale → ℕ → Type 0
On (up_to n) v = v ≤ n
On chrominance v = Chrominance v
On unused v = v ≡ 0

-- a space by its number, and the scales of its four samples: gray and the lightness of Lab count to 10,000
pub data Space : ℕ → List Scale → Type 0 where
  rgb : Space 0 (up_to 65535 ∷ up_to 65535 ∷ up_to 65535 ∷ unused ∷ [])
  hsb : Space 1 (up_to 65535 ∷ up_to 65535 ∷ up_to 65535 ∷ unused ∷ [])
  cmyk : Space 2 (up_to 65535 ∷ up_to 65535 ∷ up_to 65535 ∷ up_to 65535 ∷ [])
  lab : Space 7 (up_to 10000 ∷ chrominance ∷ chrominance ∷ unused ∷ [])
  gray : Space 8 (up_to 10000 ∷ unused ∷ unused ∷ unused ∷ [])

-- sample k of a space with these scales
abbrev pub Sample : List Scale → ℕ → ℕ → Type 0
Sample scales k v = On (get_or scales k unused) v

pub record Allowed (w : Swatch) : Type 0 where
  pub scales : List Scale
  pub space : Space w.space scales
  pub four : length w.samples ≡ 4
  pub samples : All (Sample scales) 0 w.samples
  -- no unit is zero
  pub name : Named 4 w.name

pub record Palette (ws : List Swatch) : Type 0 where
  pub count : length ws ≤ 4096
  pub swatches : All (λ k w. Allowed w) 0 ws

-- ---- a file: one list and no names, or two lists; at most 16,777,216 bytes
pub data File : ℕ → List Swatch → List ℕ → Type 0 where
  plain : {ws : List Swatch} → Palette ws → All (λ k w. w.name ≡ []) 0 ws → length (list_one ws) ≤ 16777216 → File 1 ws (list_one ws)
  named : {ws : List Swatch} → Palette ws → length (two_lists ws) ≤ 16777216 → File 2 ws (two_lists ws)
