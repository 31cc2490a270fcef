-- What is listed of a descriptor: docs/LISTINGS.md.
use Rattle.std.specs.Prelude.{ℕ, zero, suc, List, [], ◌∷◌, ◌++◌, length, get_or, take, eqb}
use Rattle.algebra.specs.Reader.{Res, ok, refuse, pick}
use Rattle.algebra.specs.Numbers.{be, joined}
use Rattle.descriptor.specs.Reading.{Row}
use Rattle.listing.specs.Text.{ascii, decimal, word, lines, refusal}

abbrev pub heading : ℕ → List ℕ
heading rows = ascii "DESC" ++ word rows ++ ascii "\n"

-- how many of the first k characters there are without the spaces at their end
unfoldable pub kept : List ℕ → ℕ → ℕ
kept t zero = 0
kept t (suc k) = pick (eqb (get_or t k 0) 32) (kept t k) (suc k)

-- a kind by its four characters
abbrev pub kind : ℕ → List ℕ
kind v = take (kept (be 4 v) 4) (be 4 v)

abbrev pub line : ℕ → Row → List ℕ
line i r = decimal i ++ ascii " " ++ kind r.kind ++ joined word (r.parent ∷ r.first ∷ r.size ∷ r.depth ∷ []) ++ ascii "\n"

-- the listing of a file, by what reading it gives
abbrev pub listing : Res (List Row) → List ℕ
listing (ok rs q) = heading (length rs) ++ lines line 0 rs ++ ascii "end\n"
listing (refuse x p r f) = refusal x p
