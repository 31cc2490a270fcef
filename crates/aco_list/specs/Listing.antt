-- What is listed of an ACO file: docs/LISTINGS.md.
use Rattle.std.specs.Prelude.{ℕ, List, ◌++◌, length, eqb}
use Rattle.algebra.specs.Reader.{Res, ok, refuse, pick}
use Rattle.algebra.specs.Numbers.{be, joined}
use Rattle.colour.specs.declared.space.Colour.{Colour}
use Rattle.aco.specs.Reading.{Entry, Contents}
use Rattle.listing.specs.Text.{ascii, decimal, word, name, lines, refusal}

abbrev pub heading : ℕ → ℕ → List ℕ
heading count lists = ascii "ACO" ++ word count ++ pick (eqb lists 1) (ascii " plain\n") (ascii " names\n")

-- the line of a colour, whose name has the bytes b
abbrev pub colour_line : ℕ → Colour → List ℕ → List ℕ
colour_line i c b = decimal i ++ word c.space ++ joined word c.samples ++ ascii " " ++ name b ++ ascii "\n"

abbrev pub line : ℕ → Entry → List ℕ
line i e = colour_line i e.colour (joined (be 2) e.name.units)

-- the listing of a file, by what reading it gives
abbrev pub listing : Res Contents → List ℕ
listing (ok c q) = heading (length c.records) c.lists ++ lines line 0 c.records ++ ascii "end\n"
listing (refuse x p r f) = refusal x p
