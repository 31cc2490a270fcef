-- What is listed of an ACB file: docs/LISTINGS.md.
use Rattle.std.specs.Prelude.{ℕ, zero, suc, ◌+◌, ◌-◌, List, [], ◌++◌, map, Bool, length, get_or, eqb}
use Rattle.algebra.specs.Reader.{Res, ok, refuse, pick}
use Rattle.algebra.specs.Numbers.{joined}
use Rattle.acb.specs.Reading.{Entry, Contents}
use Rattle.acb.specs.Grammar.{Tag, none, spot, process}
use Rattle.acb_judge.specs.Answer.{HeaderPlaces, header_places}
use Rattle.acb_shown_values.specs.Texts.{shown_text}
use Rattle.acb_shown_values.specs.Answer.{Told, record_is, refused, page_of}
use Rattle.acb_shown_values.specs.Pages.{sample_of}
use Rattle.acb_shown_file.specs.View.{dummy}
use Rattle.walk.specs.Names.{name_part}
use Rattle.listing.specs.Text.{ascii, decimal, word, name, lines, refusal}

abbrev pub ending : Tag → List ℕ
ending none = ascii "none\n"
ending spot = ascii "spot\n"
ending process = ascii "process\n"

abbrev pub numbers : HeaderPlaces → List ℕ
numbers h = word h.size ++ word h.offset ++ word h.identifier

abbrev pub heading : HeaderPlaces → Tag → ℕ → List ℕ
heading h t count = ascii "ACB" ++ word count ++ word h.space ++ numbers h ++ ascii " " ++ ending t

-- a header string as it is shown, behind its label: by where it lies in the file s
abbrev pub text : List ℕ → List ℕ → ℕ × ℕ → List ℕ
text s label (place, units) = label ++ name (shown_text (name_part s place units)) ++ ascii "\n"

abbrev pub texts : List ℕ → List (ℕ × ℕ) → List ℕ
texts s ts = text s (ascii "title ") (get_or ts 0 (0, 0)) ++ text s (ascii "prefix ") (get_or ts 1 (0, 0)) ++ text s (ascii "suffix ") (get_or ts 2 (0, 0)) ++ text s (ascii "description ") (get_or ts 3 (0, 0))

abbrev pub page : ℕ → Told → List ℕ
page p (record_is i) = ascii "page" ++ word p ++ word i ++ ascii "\n"
page p (refused x q) = ascii "page" ++ word p ++ ascii " -\n"

-- ---- the whole

-- a record's number, its code, its components, its name
abbrev pub line : List ℕ → ℕ → Entry → List ℕ
line s i e = decimal i ++ (ascii " " ++ name e.code ++ joined word e.components ++ ascii " " ++ name (name_part s e.name.first (length e.name.units)) ++ ascii "\n")

-- the lines of the pages from p on, where `left` records are left for them: a page for each `size` records, and one for those that are fewer; k pages at most
unfoldable pub pages_from : (ℕ → List ℕ) → ℕ → ℕ → ℕ → ℕ → List ℕ
pages_from f size zero p left = []
pages_from f size (suc k) p left = pick (eqb left 0) [] (f p ++ pages_from f size k (p + 1) (left - size))

-- the pages of `count` records, of which some are dummies
abbrev pub pages : ℕ → ℕ → ℕ → List Bool → List ℕ
pages count size offset ds = pick (eqb size 0) [] (pages_from (λ p. page p (page_of (sample_of size offset p ds))) size count 0 count)

abbrev pub book : List ℕ → HeaderPlaces → Tag → List Entry → List ℕ
book s h t es =
    heading h t (length es) ++ texts s h.texts ++ lines (line s) 0 es ++ pages (length es) h.size h.offset (map dummy es) ++ ascii "end\n"

-- the listing of a file s, by what reading it gives
abbrev pub listing : List ℕ → Res Contents → List ℕ
listing s (ok c q) = book s (header_places c.header) c.tag c.entries
listing s (refuse x p r f) = refusal x p
