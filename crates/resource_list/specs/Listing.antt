-- What is listed of an input, a resource section or a document that has one: docs/LISTINGS.md.
use Rattle.std.specs.Prelude.{ℕ, ◌+◌, Bool, List, ◌++◌, length, leb, eqb}
use Rattle.algebra.specs.Chars.{chars}
use Rattle.algebra.specs.Reader.{Res, ok, refuse, pick, field, or_zero}
use Rattle.algebra.specs.Store.{part}
use Rattle.algebra.specs.Table.{Verdict, accepted, refused, verdict}
use Rattle.resource.specs.Reading.{Entry, resources}
use Rattle.resource_document.specs.Reading.{document}
use Rattle.listing.specs.Text.{ascii, decimal, word, name, lines, refusal}

-- ---- a section that begins at the place `first` of the input: all places are the input's

abbrev pub heading : ℕ → List ℕ
heading blocks = ascii "8BIM" ++ word blocks ++ ascii "\n"

-- a block: its number, its ID, its name, the place of its data and the data's length
abbrev pub line : ℕ → ℕ → Entry → List ℕ
line first i e =
    decimal i ++ word e.id ++ ascii " " ++ name e.name.bytes ++ word (first + e.payload.first) ++ word (length e.payload.bytes) ++ ascii "\n"

-- by what reading the section gives
abbrev pub section : ℕ → Res (List Entry) → List ℕ
section first (ok es q) = heading (length es) ++ lines (line first) 0 es ++ ascii "end\n"
section first (refuse x p r f) = refusal x (first + p)

-- ---- where the section of an input lies: its first place and its length

-- the longest section that is listed, and the last place where that of a document may end
abbrev pub most : ℕ
most = 65536

-- an input that begins with `8BPS` is a document
abbrev pub is_document : List ℕ → Bool
is_document s = eqb (or_zero (field 4 s 0)) (chars "8BPS")

-- a document of n bytes, by where its section was found: 1 where the section ends past `most`. In a longer document that is also so
-- where a field before the section's end is cut
abbrev pub reached : ℕ → Verdict (ℕ × ℕ) → Verdict (ℕ × ℕ)
reached n (accepted v) = pick (leb (v.0 + v.1) most) (accepted v) (refused 1 0 0 0)
reached n (refused x p r f) = pick (leb n most) (refused x p r f) (pick (eqb x 2) (refused 1 0 0 0) (refused x p r f))

-- that of a document, or the whole input
abbrev pub section_of : List ℕ → Verdict (ℕ × ℕ)
section_of s =
    pick (is_document s) (reached (length s) (verdict (λ v. v) (document s)))
    (pick (leb (length s) most) (accepted (0, length s)) (refused 1 0 0 0))

-- ---- the input

abbrev pub listed : List ℕ → Verdict (ℕ × ℕ) → List ℕ
listed s (accepted v) = section v.0 (resources (part s v.0 v.1))
listed s (refused x p r f) = refusal x p

-- the listing of an input
abbrev pub listing : List ℕ → List ℕ
listing s = listed s (section_of s)
