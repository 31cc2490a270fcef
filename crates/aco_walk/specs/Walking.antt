-- The colours of an ACO file one a call: what a call from any place of any file gives, and where a walk starts.
use Rattle.std.specs.Prelude.{ℕ, ◌+◌, ◌*◌, List, [], Bool, leb, eqb, length}
use Rattle.algebra.specs.Reader.{Res, ok, refuse, Reader, then, pick, field, ◌>>=◌, or_zero}
use Rattle.algebra.specs.Text.{Name, name}
use Rattle.colour.specs.declared.space.Colour.{Colour}
use Rattle.aco.specs.Reading.{colour, Entry, Contents, unnamed}
use Rattle.walk.specs.Walk.{Call, Step, step}
use Rattle.aco_walk.specs.declared.Walker.{Walker}

-- ---- which list is walked

-- the count of list 1, or 0 where there is none
abbrev pub count_of : List ℕ → ℕ
count_of s = or_zero (field 2 s 2)

-- the file is list 1 and no more
abbrev pub is_plain : List ℕ → Bool
is_plain s = eqb (length s) (4 + 10 * count_of s)

-- list 2 is walked, where the names are, and list 1 where it is alone; a file that is too short for either has no colour to give
unfoldable pub first_place : List ℕ → ℕ
first_place s = pick (is_plain s) 4 (pick (leb (8 + 10 * count_of s) (length s)) (8 + 10 * count_of s) (length s))

-- ---- a colour at a place

abbrev pub named_entry : Colour → Name → Entry
named_entry c nm = record { colour = c; name = nm }

-- what follows the ten bytes of a colour: nothing in list 1, its name in list 2
unfoldable pub labelled : Colour → Reader Entry
labelled c s at = pick (is_plain s) (ok (unnamed c) at) (then (name 4 s at) (λ nm q. ok (named_entry c nm) q))

-- a record as the layout allows it
unfoldable pub swatch_from : Reader Entry
swatch_from = do
  c ← colour
  labelled c

-- the rule of every walker, altered or not: done at the file's end; the colour that the layout allows at its place; else 5 at place 0
abbrev pub walk : List ℕ → Step Entry
walk s = step swatch_from s

-- ---- the start

-- a walker is lent an accepted file, and no bytes of a refused one
abbrev pub lent_of : Res Contents → List ℕ → List ℕ
lent_of (ok c q) s = s
lent_of (refuse x p r f) s = []

-- where it starts, or the file's own refusal
pub data Started : Type 0 where
  starts : ℕ → Started
  refusal : ℕ → ℕ → ℕ → ℕ → Started

abbrev pub start_of : Res Contents → List ℕ → Started
start_of (ok c q) s = starts (first_place s)
start_of (refuse x p r f) s = refusal x p r f

-- ---- the walker

-- what a call of it gives, and the place that the call leaves
abbrev pub called : Walker → Call Entry × ℕ
called w = walk w.file.now w.at

-- the walker that follows: over the same file, at that place
abbrev pub following : Walker → Walker
following w = record { file = w.file; at = (called w).1 }
