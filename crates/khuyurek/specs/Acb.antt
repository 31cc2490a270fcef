-- What each exported answer about colour books says: refusal number 0 is accepted, and all that an answer does not have is 0.
use Rattle.std.specs.Prelude.{ℕ, List, [], ◌∷◌, eqb, ℤ, pos, get_or}
use Rattle.algebra.specs.Reader.{pick}
use Rattle.acb.specs.Grammar.{Tag, none, spot, process, Ending, tagged, other}
use Rattle.algebra.specs.Table.{Verdict, accepted, refused}
use Rattle.acb_judge.specs.Answer.{HeaderPlaces, Report}
use Rattle.acb_read.specs.Answer as record_of
use Rattle.acb_shown_values.specs.Pages.{sample_of}
use Rattle.acb_shown_values.specs.Answer.{Told, record_is, refused as noPage, page_of as sampled}
use Rattle.acb_shown_file.specs.View.{dummies_in, CountAnswer, counted, refusal as refusalView}
use Rattle.acb.specs.Row.{RecordRow}
use Rattle.acb_writing.specs.Writing.{needed, written}
use Rattle.khuyurek.specs.declared.books.AcbText.{AcbText}
use Rattle.khuyurek.specs.declared.books.AcbHeader.{AcbHeader}
use Rattle.khuyurek.specs.declared.books.AcbAnswer.{AcbAnswer}
use Rattle.khuyurek.specs.declared.books.AcbRecord.{AcbRecord}
use Rattle.khuyurek.specs.declared.books.AcbShown.{AcbShown}
use Rattle.khuyurek.specs.declared.books.AcbFull.{AcbFull}
use Rattle.khuyurek.specs.declared.books.AcbPage.{AcbPage}
use Rattle.khuyurek.specs.declared.Length.{Length}
use Rattle.khuyurek.specs.Written.{written_of, wrote_of as sizedOf}

-- ---- the header

-- a string by its place and number of units
abbrev pub text_of : ℕ × ℕ → AcbText
text_of l = record { place = l.0; units = l.1 }

abbrev pub number_of : Tag → ℕ
number_of none = 0
number_of spot = 1
number_of process = 2

-- title, prefix, suffix and description are the header's texts in their order
abbrev pub header_of : HeaderPlaces → Tag → AcbHeader
header_of h t = record {
  identifier = h.identifier;
  size = h.size;
  offset = h.offset;
  space = h.space;
  tag = number_of t;
  title = text_of (get_or h.texts 0 (0, 0));
  prefix = text_of (get_or h.texts 1 (0, 0));
  suffix = text_of (get_or h.texts 2 (0, 0));
  description = text_of (get_or h.texts 3 (0, 0));
}

abbrev pub no_header : AcbHeader
no_header = record {
  identifier = 0;
  size = 0;
  offset = 0;
  space = 0;
  tag = 0;
  title = text_of (0, 0);
  prefix = text_of (0, 0);
  suffix = text_of (0, 0);
  description = text_of (0, 0);
}

-- ---- judging and reading

abbrev pub answer_of : Verdict Report → AcbAnswer
answer_of (accepted r) = record { number = 0; place = 0; count = r.count; header = header_of r.header r.tag }
answer_of (refused x p r f) = record { number = x; place = p; count = 0; header = no_header }

-- an answer, and what the lent table then holds
abbrev pub read_of : Verdict Report × List ℕ → AcbAnswer × List ℕ
read_of v = (answer_of v.0, v.1)

-- a record's code, components and ink beside where its name lies, or the refusal
abbrev pub placed : List ℕ → List ℕ → ℕ → Verdict (ℕ × ℕ) → AcbRecord
placed cs ks k (accepted l) = record { number = 0; units = l.1; place = 0; name = l.0; code = cs; components = ks; ink = k }
placed cs ks k (refused x p r f) = record { number = x; units = 0; place = p; name = 0; code = cs; components = ks; ink = k }

abbrev pub to_record : record_of.RecordPlaces → AcbRecord
to_record w = placed w.code w.components w.ink w.name

-- ---- what a book shows

abbrev pub four_of : List ℤ → List ℤ
four_of vs = get_or vs 0 (pos 0) ∷ get_or vs 1 (pos 0) ∷ get_or vs 2 (pos 0) ∷ get_or vs 3 (pos 0) ∷ []

-- what the components show, and how many they are
abbrev pub showing : List ℤ → CountAnswer → AcbShown
showing vs (counted n) = record { number = 0; count = n; place = 0; values = vs }
showing vs (refusalView x p) = record { number = x; count = 0; place = p; values = vs }

abbrev pub shown_of : List ℤ × CountAnswer → AcbShown
shown_of w = showing (four_of w.0) w.1

abbrev pub full_of : CountAnswer → AcbFull
full_of (counted n) = record { number = 0; size = n; place = 0 }
full_of (refusalView x p) = record { number = x; size = 0; place = p }

-- the same, and what the lent bytes then hold
abbrev pub full_read_of : CountAnswer × List ℕ → AcbFull × List ℕ
full_read_of w = (full_of w.0, w.1)

abbrev pub page_of : Told → AcbPage
page_of (record_is i) = record { number = 0; rec = i; place = 0 }
page_of (noPage x p) = record { number = x; rec = 0; place = p }

-- the same of a table, as page size, page offset and page number say
abbrev pub page_in_of : List ℕ → ℕ → ℕ → ℕ → ℕ → AcbPage
page_in_of t count size offset p = page_of (sampled (sample_of size offset p (dummies_in t count)))

-- ---- writing

abbrev pub lie_of : AcbText → ℕ × ℕ
lie_of t = (t.place, t.units)

abbrev pub given_of : AcbHeader → HeaderPlaces
given_of h = record {
  identifier = h.identifier;
  texts = lie_of h.title ∷ lie_of h.prefix ∷ lie_of h.suffix ∷ lie_of h.description ∷ [];
  size = h.size;
  offset = h.offset;
  space = h.space;
}

-- the tag that a number is; one that is none has eight other bytes, and zeros stand for them
abbrev pub tag_of : ℕ → Ending
tag_of n = pick (eqb n 0) (tagged none) (pick (eqb n 1) (tagged spot) (pick (eqb n 2) (tagged process) (other 0)))

abbrev pub length_of : List ℕ → AcbHeader → List RecordRow → Length
length_of text h gs = written_of (needed text (given_of h) (tag_of h.tag) gs)

-- the same, and what the lent bytes then hold
abbrev pub wrote_of : List ℕ → AcbHeader → List RecordRow → List ℕ → Length × List ℕ
wrote_of text h gs out = sizedOf (written text (given_of h) (tag_of h.tag) gs out)
