-- Writing a header, the records of a run of numbers and a tag: what is judged first, and the bytes that are made.
use Rattle.std.specs.Prelude.{ℕ, ◌+◌, ◌*◌, List, [], ◌∷◌, map, length, take, leb, eqb}
use Rattle.algebra.specs.Numbers.{nums}
use Rattle.algebra.specs.Reader.{pick, body, number_of, limit}
use Rattle.algebra.specs.Faults.{first_of, faults}
use Rattle.algebra.specs.Writing.{Outcome, needs, writes}
use Rattle.acb.specs.Grammar.{Colour, Tag, none, spot, process, Ending, tagged, other, Book, file_bytes}
use Rattle.acb.specs.Reading.{components_of}
use Rattle.colour.specs.Inks.{ink_number}
use Rattle.acb.specs.Row.{RecordRow, tag_ink}
use Rattle.acb.specs.Faults.{ending_fault}
use Rattle.acb.specs.Faults as f
use Rattle.acb_judge.specs.Answer.{HeaderPlaces}

-- ---- the book that is given: a spare component is no part of it

-- the units of a string that lies in lent bytes
abbrev pub units_within : List ℕ → ℕ × ℕ → List ℕ
units_within text l = nums 2 l.1 text l.0

-- the n components that the space has
abbrev pub components_in : ℕ → RecordRow → List ℕ
components_in n g = take n g.components

abbrev pub colour_in : List ℕ → ℕ → RecordRow → Colour
colour_in text n g = record { name = units_within text g.name; code = g.code; components = components_in n g }

abbrev pub book_in : List ℕ → HeaderPlaces → Ending → List RecordRow → Book
book_in text h t gs = record {
  identifier = h.identifier;
  texts = map (units_within text) h.texts;
  size = h.size;
  offset = h.offset;
  space = h.space;
  colours = map (colour_in text (components_of h.space)) gs;
  tag = t;
}

-- ---- how long the file is

-- the sizes of some values together
unfoldable pub sizes : {A : Type 0} → (A → ℕ) → List A → ℕ
sizes f [] = 0
sizes f (a ∷ more) = f a + sizes f more

-- a count and the units
abbrev pub string_size : ℕ × ℕ → ℕ
string_size l = 4 + 2 * l.1

-- name, code, n components
abbrev pub size_within : ℕ → RecordRow → ℕ
size_within n g = string_size g.name + (6 + n)

abbrev pub tag_size : Tag → ℕ
tag_size none = 0
tag_size spot = 8
tag_size process = 8

-- another tag has eight bytes too
abbrev pub ending_size : Ending → ℕ
ending_size (tagged t) = tag_size t
ending_size (other v) = 8

-- seven numbers, and the strings
abbrev pub head_size : HeaderPlaces → ℕ
head_size h = 16 + sizes string_size h.texts

-- an unknown space counts three components
abbrev pub size : HeaderPlaces → Ending → List RecordRow → ℕ
size h t gs = head_size h + sizes (size_within (components_of h.space)) gs + ending_size t

-- ---- which fault comes first: a number of the refusal table, 0 where there is none

-- a string that runs past the lent bytes is 2; its units are not judged
abbrev pub text_fault : List ℕ → ℕ × ℕ → ℕ
text_fault text l = number_of (body 2 l.1 text l.0)

-- the header before so many records
abbrev pub head_fault : List ℕ → HeaderPlaces → ℕ → ℕ
head_fault text h count = f.head_fault (faults (text_fault text) h.texts) count h.size h.space

-- a number that a byte cannot hold is 5
abbrev pub byte_fault : ℕ → ℕ
byte_fault v = pick (leb v 255) 0 5

-- name, code, n components
unfoldable pub colour_fault : List ℕ → ℕ → RecordRow → ℕ
colour_fault text n g = first_of (text_fault text g.name) (first_of (faults byte_fault g.code) (faults byte_fault (components_in n g)))

-- first the limit, on the whole output's length; then the header; then the records in their order; then the tag
unfoldable pub other_fault : List ℕ → HeaderPlaces → Ending → List RecordRow → ℕ
other_fault text h t gs =
    pick (leb (size h t gs) limit)
    (first_of (head_fault text h (length gs)) (first_of (faults (colour_fault text (components_of h.space)) gs) (ending_fault t)))
    1

-- an ink that is not the one with a number is 14
abbrev pub unless_ink : ℕ → RecordRow → ℕ
unless_ink k g = pick (eqb g.ink k) 0 14

-- the ink of every record is the one that the tag states; another tag is refused before
abbrev pub ink_fault : Ending → RecordRow → ℕ
ink_fault (tagged t) g = unless_ink (ink_number (tag_ink t)) g
ink_fault (other v) g = 0

-- after all these the inks
unfoldable pub fault : List ℕ → HeaderPlaces → Ending → List RecordRow → ℕ
fault text h t gs = first_of (other_fault text h t gs) (faults (ink_fault t) gs)

-- ---- the answer

-- the exact length that writing needs, or the refusal
abbrev pub needed : List ℕ → HeaderPlaces → Ending → List RecordRow → Outcome
needed text h t gs = needs (fault text h t gs) (size h t gs)

-- what writing does with the lent bytes
abbrev pub written : List ℕ → HeaderPlaces → Ending → List RecordRow → List ℕ → Outcome × List ℕ
written text h t gs out = writes (fault text h t gs) (size h t gs) (file_bytes (book_in text h t gs)) out
