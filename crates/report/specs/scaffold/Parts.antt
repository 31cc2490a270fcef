-- Scaffolding: the form in which the code goes; cited by private contracts and by proofs.
use Rattle.std.specs.Prelude.{ℕ, ◌+◌, ◌-◌, ◌*◌, ◌≤◌, ◌<◌, ◌≡◌, List, map, eqb, length, get_or, drop}
use Rattle.algebra.specs.Chars.{chars}
use Rattle.algebra.specs.Reader.{pick}
use Rattle.acb.specs.Row.{RecordRow}
use Rattle.acb_read.specs.Walked.{walked}
use Rattle.palette.specs.PaletteStep.{view_of}
use Rattle.palette.specs.scaffold.Turn.{colours_in, place_of, kind_seen}
use Rattle.palette.specs.declared.View.{View}
use Rattle.palette.specs.declared.View.TheVariants.{Samples, Counterparts, Channels as ChannelBits}
use Rattle.report.specs.Report.{one, plus, sum, colour_totals, book_place, FileReport}
use Rattle.fault.specs.Fault.{number_of}
use Rattle.aco_judge.specs.declared.Rejection.{Rejection}
use Rattle.aco_judge.specs.declared.Rejection.TheVariants as rejection
use Rattle.report.specs.Answer.{told_file}
use Rattle.report.specs.declared.FileTotals.{FileTotals}

abbrev pub told_totals : FileTotals → FileReport
told_totals f = record { number = (told_file f.file).0; place = (told_file f.file).1; totals = f.totals }

abbrev pub refused_report : ℕ → ℕ → FileReport
refused_report x p = record { number = x; place = p; totals = one x }

abbrev pub rejected_report : Rejection → FileReport
rejected_report (rejection.Refused e) = refused_report (number_of e.0) e.1
rejected_report (rejection.Differ p r f) = refused_report 7 p

-- 31 totals, each at most m
pub record Low (t : List ℕ) (m : ℕ) : Type 0 where
  pub long : length t ≡ 31
  pub below : (k : ℕ) → get_or t k 0 ≤ m

-- by the tag of a colour, as it is seen
abbrev pub aco_place : ℕ → ℕ
aco_place x = pick (eqb x 0) 15 (pick (eqb x 1) 16 (pick (eqb x 2) 17 (pick (eqb x 7) 18 19)))

abbrev pub ase_place : ℕ → ℕ
ase_place t = pick (eqb t (chars "RGB ")) 20 (pick (eqb t (chars "CMYK")) 21 (pick (eqb t (chars "LAB ")) 22 23))

abbrev pub tag_place : View → ℕ → ℕ
tag_place Samples t = aco_place t
tag_place Counterparts t = aco_place t
tag_place ChannelBits t = ase_place t

-- by the number of a name's units
abbrev pub units_place : ℕ → ℕ
units_place u = pick (eqb u 0) 28 27

abbrev pub book_row : ℕ → ℕ → List ℕ
book_row x u = pick (eqb u 0) (one 29) (plus (one (book_place x)) (one 27))

abbrev pub row_of : ℕ → RecordRow → List ℕ
row_of x g = book_row x g.name.1

-- the loop over a palette's colours before colour i
pub record Counting (v : View) (s : List ℕ) (n : ℕ) (before now : List ℕ) (p i : ℕ) : Type 0 where
  pub below : i ≤ n
  pub all : n ≡ length (colours_in (kind_seen v) s)
  pub seen : view_of (kind_seen v) (kind_seen v) ≡ v
  pub place : p ≡ place_of (kind_seen v) s i
  pub counted : plus before (sum (map colour_totals (colours_in (kind_seen v) s))) ≡ plus now (sum (map colour_totals (drop i (colours_in (kind_seen v) s))))
  pub low : Low now (2 * i + 1)

-- the loop over a book's records before record i
pub record Shelved (x : ℕ) (s : List ℕ) (n first : ℕ) (before now : List ℕ) (p i : ℕ) : Type 0 where
  pub below : i ≤ n
  pub counted : plus before (sum (map (row_of x) (walked x s first n))) ≡ plus now (sum (map (row_of x) (walked x s p (n - i))))
  pub low : Low now (2 * i + 1)

-- the loop that adds: the totals before i are sums, and the others as they were
pub record Adding (before more now : List ℕ) (i : ℕ) : Type 0 where
  pub upto : i ≤ 31
  pub long : length now ≡ 31
  pub sums : (k : ℕ) → k < i → get_or now k 0 ≡ get_or before k 0 + get_or more k 0
  pub kept : (k : ℕ) → i ≤ k → get_or now k 0 ≡ get_or before k 0
