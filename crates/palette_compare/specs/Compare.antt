-- Two palettes compared by position: defined over their colours, a list of values and names each, and nothing else.
use Rattle.std.specs.Prelude.{ℕ, ◌+◌, ◌*◌, List, [], ◌∷◌, ◌++◌, Bool, true, false, ◌&&◌, leb, eqb, length, drop}
use Rattle.algebra.specs.Reader.{Res, ok, refuse, pick}
use Rattle.colour.specs.Models.{traits_of}
use Rattle.colour.specs.Channels.{bits_of, model_in}
use Rattle.colour.specs.declared.channel.Channels.{Channels}
use Rattle.conversion.specs.Convert.{Converted, gives, refused, to_channels}
use Rattle.palette.specs.Palette.{Value, samples, channels, PaletteColour}

-- ---- two colours

-- the same numbers, as many in the one as in the other
unfoldable pub same_numbers : List ℕ → List ℕ → Bool
same_numbers [] [] = true
same_numbers [] (y ∷ ys) = false
same_numbers (x ∷ xs) [] = false
same_numbers (x ∷ xs) (y ∷ ys) = eqb x y && same_numbers xs ys

-- what an ACO colour converts to is the model with a tag and the very same bits; what has no counterpart differs from all
abbrev pub converts_to : Converted Channels → ℕ → List ℕ → Bool
converts_to (gives c) t bs = eqb (traits_of (model_in c)).tag t && same_numbers (bits_of c) bs
converts_to (refused n p) t bs = false

-- two ACO colours: space and samples. Two ASE colours: model and channels' bits. One of each: the ACO colour converts to the ASE colour
abbrev pub same_value : Value → Value → Bool
same_value (samples x vs) (samples y ws) = eqb x y && same_numbers vs ws
same_value (channels t bs) (channels u cs) = eqb t u && same_numbers bs cs
same_value (samples x vs) (channels u cs) = converts_to (to_channels (record { space = x; samples = vs })) u cs
same_value (channels t bs) (samples y ws) = converts_to (to_channels (record { space = y; samples = ws })) t bs

-- 0 same, 1 name differs, 2 colour differs, 3 both differ
abbrev pub kind_by : Bool → Bool → ℕ
kind_by value name = pick value (pick name 0 1) (pick name 2 3)

abbrev pub kind_of : PaletteColour → PaletteColour → ℕ
kind_of x y = kind_by (same_value x.value y.value) (same_numbers x.name y.name)

-- ---- two palettes

-- the kind of each position of the longer: 4 only in the first, 5 only in the second
unfoldable pub kinds : List PaletteColour → List PaletteColour → List ℕ
kinds [] [] = []
kinds [] (y ∷ ys) = 5 ∷ kinds [] ys
kinds (x ∷ xs) [] = 4 ∷ kinds xs []
kinds (x ∷ xs) (y ∷ ys) = kind_of x y ∷ kinds xs ys

-- how many positions differ
unfoldable pub differences : List ℕ → ℕ
differences [] = 0
differences (k ∷ ks) = pick (eqb k 0) 0 1 + differences ks

-- ---- into a lent table

-- two numbers a position: the position, from i, and the kind
unfoldable pub rows : ℕ → List ℕ → List ℕ
rows i [] = []
rows i (k ∷ ks) = i ∷ k ∷ rows (i + 1) ks

-- what the call answers: positions and differences; or a refusal: whose it is, 1 or 2 for a file's own and 0 for the table's, its number, its place,
-- and the record and field of 7
pub data Comparison : Type 0 where
  compared : ℕ → ℕ → Comparison
  refused_by : ℕ → ℕ → ℕ → ℕ → ℕ → Comparison

-- 11 exactly when the table is shorter than the rows; past them it keeps its contents
abbrev pub filled : List ℕ → List ℕ → Comparison × List ℕ
filled ks t = pick (leb (2 * length ks) (length t)) (compared (length ks) (differences ks), rows 0 ks ++ drop (2 * length ks) t) (refused_by 0 11 0 0 0, t)

-- the first file's refusal, then the second's, then 11; a refusal changes nothing
abbrev pub comparison : Res (List PaletteColour) → Res (List PaletteColour) → List ℕ → Comparison × List ℕ
comparison (refuse x p r f) second t = (refused_by 1 x p r f, t)
comparison (ok xs q) (refuse x p r f) t = (refused_by 2 x p r f, t)
comparison (ok xs q) (ok ys z) t = filled (kinds xs ys) t
