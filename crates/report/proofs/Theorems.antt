-- What is promised of reports. Assumes nothing.
use Prim.Native.Nat.{ℕ}
use mathlib.Core.Path.{◌≡◌, refl, sym, ap, ap₂, ◌∙◌}
use mathlib.Core.List.{List, [], ◌∷◌, ◌++◌, map}
use mathlib.Core.Bool.{true, false}
use lib.ListN.{length}
use Rattle.algebra.specs.Reader.{Res, refuse}
use Rattle.report.specs.Report.{none, one, plus, sum, FileReport, report_of, fits, merged, added}
use Rattle.report.specs.Promise.{File, totals_of, reported, season, sum_of_files, Rearranged, nothing, keep, swap, both}
use Rattle.report.proofs.Laws.{plus-joined, plus-swap, plus-turned, none-plus, plus_none, length-plus, length_none, length-sum, fits-part, merged-fits, merged-full}

-- ---- a file's own report

-- a refused file adds one to its own number, and nothing else
pub refused-alone : {A : Type 0} (inside : A → List ℕ) (m : Res A) {x p r f : ℕ} → m ≡ refuse x p r f → (report_of inside m).totals ≡ one x
refused-alone inside m e = ap (λ (n : Res _). (report_of inside n).totals) e

-- ---- a call that is refused changes nothing

pub refused-stays : (r : List ℕ) (f : FileReport) → fits (plus r f.totals) ≡ false → added r f ≡ (5, f.number, f.place, r)
refused-stays r f e = ap (λ (w : ℕ × List ℕ). (w.0, f.number, f.place, w.1)) (merged-full r f.totals e)

pub fitting-added : (r : List ℕ) (f : FileReport) → fits (plus r f.totals) ≡ true → added r f ≡ (0, f.number, f.place, plus r f.totals)
fitting-added r f e = ap (λ (w : ℕ × List ℕ). (w.0, f.number, f.place, w.1)) (merged-fits r f.totals e)

-- ---- the report after all files

from-report : (r : List ℕ) (fs : List File) → length r ≡ 31 → fits (plus r (sum_of_files fs)) ≡ true → reported r fs ≡ plus r (sum_of_files fs)
unfolding reported sum
from-report r [] l e = sym (plus_none r l)
from-report r (f ∷ fs) l e =
    let t : List ℕ = totals_of f in
    let whole : plus r (plus t (sum_of_files fs)) ≡ plus (plus r t) (sum_of_files fs) = sym (plus-joined r t (sum_of_files fs)) in
    let e' : fits (plus (plus r t) (sum_of_files fs)) ≡ true = sym (ap fits whole) ∙ e in
    let part : fits (plus r t) ≡ true = fits-part (plus r t) (sum_of_files fs) (length-plus r t) e' in
    let step : (merged r t).1 ≡ plus r t = ap (λ (w : ℕ × List ℕ). w.1) (merged-fits r t part) in
    ap (λ (w : List ℕ). reported w fs) step ∙ from-report (plus r t) fs (length-plus r t) e' ∙ sym whole

-- Z6: begun at zero, it is the sum of the files' own reports, as long as no total would pass the bound
pub report-sum : (fs : List File) → fits (sum_of_files fs) ≡ true → season fs ≡ sum_of_files fs
report-sum fs e =
    let z : plus none (sum_of_files fs) ≡ sum_of_files fs = none-plus (sum_of_files fs) (length-sum (map totals_of fs)) in
    from-report none fs length_none (ap fits z ∙ e) ∙ z

-- ---- Z6: in whatever order the files came

same_sum : {fs gs : List File} → Rearranged fs gs → sum_of_files fs ≡ sum_of_files gs
unfolding sum
same_sum nothing = refl
same_sum (keep {f} more) = ap (plus (totals_of f)) (same_sum more)
same_sum (swap {f} {g} {fs}) = plus-swap (totals_of f) (totals_of g) (sum_of_files fs)
same_sum (both x y) = same_sum x ∙ same_sum y

pub any_order : {fs gs : List File} → Rearranged fs gs → fits (sum_of_files fs) ≡ true → season fs ≡ season gs
any_order {fs} {gs} p e = report-sum fs e ∙ same_sum p ∙ sym (report-sum gs (sym (ap fits (same_sum p)) ∙ e))

-- ---- Z7: files reported in parts, and their reports merged

sum-parts : (fs gs : List File) → sum_of_files (fs ++ gs) ≡ plus (sum_of_files fs) (sum_of_files gs)
unfolding sum
sum-parts [] gs = sym (none-plus (sum_of_files gs) (length-sum (map totals_of gs)))
sum-parts (f ∷ fs) gs = ap (plus (totals_of f)) (sum-parts fs gs) ∙ sym (plus-joined (totals_of f) (sum_of_files fs) (sum_of_files gs))

pub parts-merged : (fs gs : List File) → fits (sum_of_files (fs ++ gs)) ≡ true → merged (season fs) (season gs) ≡ (0, season (fs ++ gs))
parts-merged fs gs e =
    let s : sum_of_files (fs ++ gs) ≡ plus (sum_of_files fs) (sum_of_files gs) = sum-parts fs gs in
    let e' : fits (plus (sum_of_files fs) (sum_of_files gs)) ≡ true = sym (ap fits s) ∙ e in
    let a : season fs ≡ sum_of_files fs = report-sum fs (fits-part (sum_of_files fs) (sum_of_files gs) (length-sum (map totals_of fs)) e') in
    let b : season gs ≡ sum_of_files gs = report-sum gs (fits-part (sum_of_files gs) (sum_of_files fs) (length-sum (map totals_of gs)) (ap fits (plus-turned (sum_of_files gs) (sum_of_files fs)) ∙ e')) in
    ap₂ merged a b ∙ merged-fits (sum_of_files fs) (sum_of_files gs) e' ∙ ap (λ (w : List ℕ). (0, w)) (sym (report-sum (fs ++ gs) e ∙ s))
