-- ACO files that are damaged: what stands in them, the number that refuses them, its place, and the record and field of refusal 7. Nothing here reads.
-- What is damaged is the first thing that is wrong in the order of turns; any bytes may stand behind it.
use Rattle.std.specs.Prelude.{ℕ, ◌+◌, ◌*◌, ◌^◌, ◌≤◌, ◌<◌, ◌≡◌, List, [], ◌∷◌, ◌++◌, length, get_or, take}
use Rattle.algebra.specs.Numbers.{be, joined, All}
use Rattle.algebra.specs.Text.{Named}
use Rattle.algebra.specs.Closing.{BadlyClosed}
use Rattle.aco.specs.Grammar.{Swatch, Scale, Space, Sample, Allowed, Palette, colour_bytes, entry_bytes, list_one, two_lists}

-- ---- parts of a file: the bytes from the part to the file's end, the number, the place counted from the part

-- the heading of a list whose version is v: its version, and its count of colours; which counts are wrong is said below
pub data DamagedHeading (v : ℕ) : List ℕ → ℕ → ℕ → Type 0 where
  version_cut : (l : List ℕ) → length l < 2 → DamagedHeading v l 2 0
  wrong_version : (x : ℕ) (l : List ℕ) → x < 256 ^ 2 → (x ≡ v → ⊥) → DamagedHeading v (be 2 x ++ l) 3 0
  colours_cut : (l : List ℕ) → length l < 2 → DamagedHeading v (be 2 v ++ l) 2 2

-- what stands before a wrong sample: a space of the table, and samples that are on its scales, not all four
pub record Begun (x : ℕ) (scales : List Scale) (vs : List ℕ) : Type 0 where
  pub space : Space x scales
  pub samples : All (Sample scales) 0 vs
  pub more : length vs < 4

-- a colour of list 1: its space, then its samples
pub data DamagedColour : List ℕ → ℕ → ℕ → Type 0 where
  space_cut : (l : List ℕ) → length l < 2 → DamagedColour l 2 0
  wrong_space : (x : ℕ) (l : List ℕ) → x < 256 ^ 2 → ((scales : List Scale) → Space x scales → ⊥) → DamagedColour (be 2 x ++ l) 4 0
  sample_cut : (x : ℕ) (scales : List Scale) (vs l : List ℕ) → Begun x scales vs → length l < 2 → DamagedColour (be 2 x ++ (joined (be 2) vs ++ l)) 2 (2 + 2 * length vs)
  wrong_sample : (x : ℕ) (scales : List Scale) (vs : List ℕ) (v : ℕ) (l : List ℕ) → Begun x scales vs → v < 256 ^ 2 → (Sample scales (length vs) v → ⊥) → DamagedColour (be 2 x ++ (joined (be 2) vs ++ (be 2 v ++ l))) 5 (2 + 2 * length vs)

-- a name: 8 is placed at its count, 2 at the field that is cut
pub data DamagedName : List ℕ → ℕ → ℕ → Type 0 where
  count_cut : (l : List ℕ) → length l < 4 → DamagedName l 2 0
  no-units : (l : List ℕ) → DamagedName (be 4 0 ++ l) 8 0
  -- whatever they are, closed or not
  units_cut : (n : ℕ) (l : List ℕ) → 0 < n → n < 256 ^ 4 → length l < 2 * n → DamagedName (be 4 n ++ l) 2 4
  unclosed : (us l : List ℕ) → length us < 256 ^ 4 → All (λ k u. u < 256 ^ 2) 0 us → BadlyClosed us → DamagedName (be 4 (length us) ++ (joined (be 2) us ++ l)) 8 0

-- the five fields of a colour: 0 the space, 1 to 4 the samples
abbrev pub fields_of : Swatch → List ℕ
fields_of w = w.space ∷ w.samples

-- record i of list 2, where list 1 has the colour of w: its fields, then its name; behind the place also the record and field of refusal 7
pub data DamagedRecord (i : ℕ) (w : Swatch) : List ℕ → ℕ → ℕ → ℕ → ℕ → Type 0 where
  -- field f, behind fields that are w's
  field_cut : (f : ℕ) (l : List ℕ) → f < 5 → length l < 2 → DamagedRecord i w (joined (be 2) (take f (fields_of w)) ++ l) 2 (2 * f) 0 0
  -- any other number of 16 bits than w's, allowed in list 1 or not
  difference : (f v : ℕ) (l : List ℕ) → f < 5 → v < 256 ^ 2 → (v ≡ get_or (fields_of w) f 0 → ⊥) → DamagedRecord i w (joined (be 2) (take f (fields_of w)) ++ (be 2 v ++ l)) 7 (2 * f) i f
  wrong_name : (l : List ℕ) (z p : ℕ) → DamagedName l z p → DamagedRecord i w (colour_bytes w ++ l) z (10 + p) 0 0

-- ---- the file: its bytes, the number, the place, and the record and field of refusal 7

-- list 1, which counts n colours, up to the colours `before`, and the bytes x
unfoldable pub colouring : ℕ → List Swatch → List ℕ → List ℕ
colouring n before x = be 2 1 ++ (be 2 n ++ (joined colour_bytes before ++ x))

-- list 1 of ws, list 2 with the count m, and the bytes x
unfoldable pub counting : List Swatch → ℕ → List ℕ → List ℕ
counting ws m x = list_one ws ++ (be 2 2 ++ (be 2 m ++ x))

-- list 1 of ws, list 2 with the same count up to the records `before`, and the bytes x
unfoldable pub recording : List Swatch → List Swatch → List ℕ → List ℕ
recording ws before x = counting ws (length ws) (joined entry_bytes before ++ x)

-- the place behind those records
unfoldable pub behind : List Swatch → List Swatch → ℕ
behind ws before = length (list_one ws) + 4 + length (joined entry_bytes before)

-- swatch i of a palette
abbrev pub swatch_at : List Swatch → ℕ → Swatch
swatch_at ws i = get_or ws i (record { space = 0; samples = 0 ∷ 0 ∷ 0 ∷ 0 ∷ []; name = [] })

-- fewer records than ws has swatches, with their colours and any allowed names
pub record Repeating (ws before : List Swatch) : Type 0 where
  pub more : length before < length ws
  pub same : All (λ k w. fields_of w ≡ fields_of (swatch_at ws k)) 0 before
  pub names : All (λ k w. Named 4 w.name) 0 before

pub data Damaged : List ℕ → ℕ → ℕ → ℕ → ℕ → Type 0 where
  -- in list 1
  first_heading : (x : List ℕ) (z p : ℕ) → DamagedHeading 1 x z p → Damaged x z p 0 0
  too_many : (n : ℕ) (x : List ℕ) → 4096 < n → n < 256 ^ 2 → Damaged (be 2 1 ++ (be 2 n ++ x)) 5 2 0 0
  wrong_colour : (n : ℕ) (before : List Swatch) (x : List ℕ) (z p : ℕ) → n ≤ 4096 → length before < n → All (λ k w. Allowed w) 0 before → DamagedColour x z p → Damaged (colouring n before x) z (4 + 10 * length before + p) 0 0
  -- in list 2, to which any byte behind list 1 belongs
  second_heading : (ws : List Swatch) (x : List ℕ) (z p : ℕ) → Palette ws → 0 < length x → DamagedHeading 2 x z p → Damaged (list_one ws ++ x) z (length (list_one ws) + p) 0 0
  other_count : (ws : List Swatch) (m : ℕ) (x : List ℕ) → Palette ws → m < 256 ^ 2 → (m ≡ length ws → ⊥) → Damaged (counting ws m x) 7 (length (list_one ws) + 2) 0 5
  wrong_record : (ws before : List Swatch) (x : List ℕ) (z p r f : ℕ) → Palette ws → Repeating ws before → DamagedRecord (length before) (swatch_at ws (length before)) x z p r f → Damaged (recording ws before x) z (behind ws before + p) r f
  -- behind list 2
  left_over : (ws : List Swatch) (x : List ℕ) → Palette ws → 0 < length x → Damaged (two_lists ws ++ x) 6 (length (two_lists ws)) 0 0
