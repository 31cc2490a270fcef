-- The records of a book one after the other, each from the place behind the one before it. The space of the book says how many components a record has.
use Rattle.std.specs.Prelude.{ℕ, zero, suc, List, [], ◌∷◌}
use Rattle.algebra.specs.Reader.{Res, ok, refuse}
use Rattle.algebra.specs.Table.{Verdict, accepted, refused}
use Rattle.acb.specs.Reading.{Entry, colour, components_of}
use Rattle.acb.specs.Row.{RecordRow}
use Rattle.acb_read.specs.Answer.{RecordPlaces, record_places}

-- the record that was read at a place, and the place behind it; where none stands 5 at place 0, and the place itself
abbrev pub stepped : ℕ → Res Entry → RecordPlaces × ℕ
stepped at (ok e q) = (record_places (accepted e), q)
stepped at (refuse x p r f) = (record_places (refused 5 0 0 0), at)

unfoldable pub step : ℕ → List ℕ → ℕ → RecordPlaces × ℕ
step x s at = stepped at (colour (components_of x) s at)

-- the place behind i records
unfoldable pub passed : ℕ → List ℕ → ℕ → ℕ → ℕ
passed x s at zero = at
passed x s at (suc i) = passed x s (step x s at).1 i

-- where a name lies; at place 0 without units on a refusal
abbrev pub name_place_of : Verdict (ℕ × ℕ) → ℕ × ℕ
name_place_of (accepted l) = l
name_place_of (refused x p r f) = (0, 0)

-- a record that was told, as it is given
abbrev pub given_in : RecordPlaces → RecordRow
given_in w = record { name = name_place_of w.name; code = w.code; components = w.components; ink = w.ink }

-- n records from a place
unfoldable pub walked : ℕ → List ℕ → ℕ → ℕ → List RecordRow
walked x s at zero = []
walked x s at (suc n) = given_in (step x s at).0 ∷ walked x s (step x s at).1 n
