-- Reports over lists of files: words of the theorems.
use Rattle.std.specs.Prelude.{ℕ, List, [], ◌∷◌, map}
use Rattle.report.specs.Report.{none, sum, file_report, added}
use Rattle.report.specs.declared.Kind.{Kind}

-- a file with the kind that the caller says
abbrev pub File : Type 0
File = Kind × List ℕ

abbrev pub totals_of : File → List ℕ
totals_of f = (file_report f.0 f.1).totals

-- the report after some files, one call for each, begun with a report
unfoldable pub reported : List ℕ → List File → List ℕ
reported r [] = r
reported r (f ∷ fs) = reported (added r (file_report f.0 f.1)).3 fs

-- begun at zero
abbrev pub season : List File → List ℕ
season fs = reported none fs

-- the sum of the files' own reports
abbrev pub sum_of_files : List File → List ℕ
sum_of_files fs = sum (map totals_of fs)

-- the same files in another order
pub data Rearranged : List File → List File → Type 0 where
  nothing : Rearranged [] []
  keep : {f : File} {fs gs : List File} → Rearranged fs gs → Rearranged (f ∷ fs) (f ∷ gs)
  swap : {f g : File} {fs : List File} → Rearranged (f ∷ g ∷ fs) (g ∷ f ∷ fs)
  both : {fs gs hs : List File} → Rearranged fs gs → Rearranged gs hs → Rearranged fs hs
