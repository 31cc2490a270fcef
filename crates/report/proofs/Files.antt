-- One file's report. Assumes nothing.
use Prim.Native.Nat.{ℕ, ◌≤◌, ◌<◌}
use mathlib.Core.Path.{◌≡◌, refl, sym, ap, ap₂, ◌∙◌}
use mathlib.Core.List.{List, map}
use lib.Dec.{leb}
use lib.ListN.{length}
use native.Mathlib.Omega.{arith}
use Rattle.algebra.specs.Numbers.{num, Bytes}
use Rattle.algebra.specs.Reader.{Res, ok, refuse, field, judged, each, limit}
use Rattle.algebra.specs.Table.{accepted, refused, verdict}
use Rattle.algebra.proofs.Inverse.{then-inv, pick_inv, field-inv, each-length, ok-value}
use Rattle.algebra.proofs.Places.{num-lt}
use Rattle.algebra.proofs.Table.{accepted-of, refused-of}
use Rattle.acb.specs.Reading.{Contents, Numbers, Header, opening, strings, numbers, header, page_size, space, colour, components_of, closing, book, acb}
use Rattle.acb.specs.Row.{RecordRow, given_of}
use Rattle.acb_judge.specs.Answer.{Report, report}
use Rattle.acb_read.specs.Walked.{walked}
use Rattle.acb_read.proofs.Walking.{walked_all}
use Rattle.descriptor.specs.Reading.{Row, descriptor}
use Rattle.descriptor.proofs.Rows.{of-root, rows-laid}
use Rattle.descriptor_judge.specs.Answer.{accepted as acceptedRows, refused as refusedRows, verdict as rowsVerdict}
use Rattle.palette.specs.Palette.{PaletteColour, colours}
use Rattle.palette.specs.scaffold.Turn.{list_of, colours_in}
use Rattle.aco_judge.specs.Answer.{rejected}
use Rattle.aco_judge.specs.declared.Rejection.{Rejection}
use Rattle.aco_judge.specs.declared.Rejection.TheVariants as rejection
use Rattle.palette.specs.declared.Kind.{Kind}
use Rattle.report.specs.Report.{many, one, plus, sum, record_totals, palette_totals, book_totals, row_totals, FileReport, report_of}
use Rattle.report.specs.scaffold.Parts.{row_of, refused_report, rejected_report}
use Rattle.report.proofs.Counting.{records-rows}

abbrev accepted_report : List ℕ → FileReport
accepted_report t = record { number = 0; place = 0; totals = t }

refused-report : {A B : Type 0} (report : A → B) (inside : A → List ℕ) (m : Res A) {x p r f : ℕ} → refused x p r f ≡ verdict report m → refused_report x p ≡ report_of inside m
refused-report report inside m e = sym (ap (report_of inside) (refused-of report m e))

-- ---- palettes

pub palette-refused : (k : Kind) (s : List ℕ) {x p r f : ℕ} → refused x p r f ≡ verdict length (colours k s) → refused_report x p ≡ report_of palette_totals (colours k s)
palette-refused k s e = refused-report length palette_totals (colours k s) e

pub palette-rejected : (k : Kind) (s : List ℕ) (e : Rejection) → rejected e ≡ verdict length (colours k s) → rejected_report e ≡ report_of palette_totals (colours k s)
palette-rejected k s (rejection.Refused e) h = palette-refused k s h
palette-rejected k s (rejection.Differ p r f) h = palette-refused k s h

pub palette-many : (k : Kind) (s : List ℕ) {n : ℕ} → accepted n ≡ verdict length (colours k s) → n ≡ length (colours_in k s)
palette-many k s e = let a = accepted-of length (colours k s) e in sym (ap (λ (m : Res (List PaletteColour)). length (list_of m)) a.2 ∙ a.3)

pub palette-accepted : (k : Kind) (s : List ℕ) {n : ℕ} (t u : List ℕ) → accepted n ≡ verdict length (colours k s) → t ≡ one 0 → u ≡ plus t (palette_totals (colours_in k s)) → accepted_report u ≡ report_of palette_totals (colours k s)
palette-accepted k s t u e f g =
    let a = accepted-of length (colours k s) e in
    ap accepted_report (g ∙ ap₂ (λ (w : List ℕ) (m : Res (List PaletteColour)). plus w (palette_totals (list_of m))) f a.2) ∙ sym (ap (report_of palette_totals) a.2)

-- ---- books

few-records : (s : List ℕ) → Bytes s → {c : Contents} {q : ℕ} → acb s ≡ ok c q → length c.entries < 65536
unfolding acb book header numbers
few-records s bytes {c} {q} e =
    let i = pick_inv (leb (length s) limit) (book s 0) 1 0 0 0 e in
    let h = then-inv (header s 0) _ i.1 in
    let n : ℕ = components_of h.0.numbers.space in
    let u = then-inv (each h.0.numbers.count 0 (λ i. colour n) s h.1) _ h.3 in
    let v = then-inv (closing s u.1) _ u.3 in
    let l : length u.0 ≡ h.0.numbers.count = each-length (λ i. colour n) s h.0.numbers.count 0 h.1 u.2 in
    let es : length c.entries ≡ length u.0 = ap (λ (d : Contents). length d.entries) (sym (ok-value v.3)) in
    let o = then-inv (opening s 0) _ h.2 in
    let ts = then-inv (strings s o.1) _ o.3 in
    let ns = then-inv (numbers s ts.1) _ ts.3 in
    let f = then-inv (field 2 s ts.1) _ ns.2 in
    let z = then-inv (judged 2 page_size s f.1) _ f.3 in
    let w = then-inv (field 2 s z.1) _ z.3 in
    let x = then-inv (judged 2 space s w.1) _ w.3 in
    let count : h.0.numbers.count ≡ f.0 = ap (λ (y : Header). y.numbers.count) (sym (ok-value ns.3)) ∙ ap (λ (y : Numbers). y.count) (sym (ok-value x.3)) in
    let small : num 2 s ts.1 < 65536 = num-lt s bytes 2 ts.1 in
    omega (arith, (field-inv 2 s ts.1 f.2).1)

-- what judging reports of it
pub record Judged (s : List ℕ) (b : Report) : Type 0 where
  pub contents : Contents
  pub end : ℕ
  pub read : acb s ≡ ok contents end
  pub space : b.header.space ≡ contents.header.numbers.space
  pub first : b.first ≡ contents.first
  pub count : b.count ≡ length contents.entries

pub book-judged : (s : List ℕ) {b : Report} → accepted b ≡ verdict report (acb s) → Judged s b
book-judged s e =
    let a = accepted-of report (acb s) e in record {
      contents = a.0;
      end = a.1;
      read = a.2;
      space = sym (ap (λ (r : Report). r.header.space) a.3);
      first = sym (ap (λ (r : Report). r.first) a.3);
      count = sym (ap (λ (r : Report). r.count) a.3);
    }

pub book-few : (s : List ℕ) → Bytes s → {b : Report} → Judged s b → b.count < 65536
book-few s bytes j = omega (arith, few-records s bytes j.read, j.count)

pub book-refused : (s : List ℕ) {x p r f : ℕ} → refused x p r f ≡ verdict report (acb s) → refused_report x p ≡ report_of book_totals (acb s)
book-refused s e = refused-report report book_totals (acb s) e

pub book-accepted : (s : List ℕ) {b : Report} → Judged s b → (t u : List ℕ) → t ≡ one 0 → u ≡ plus t (sum (map (row_of b.header.space) (walked b.header.space s b.first b.count))) → accepted_report u ≡ report_of book_totals (acb s)
book-accepted s {b} j t u et eu =
    let c : Contents = j.contents in
    let y : ℕ = c.header.numbers.space in
    let rows : walked b.header.space s b.first b.count ≡ map given_of c.entries =
    ap₂ (λ (a f : ℕ). walked a s f b.count) j.space j.first ∙ ap (λ (m : ℕ). walked y s c.first m) j.count ∙ walked_all s j.read in
    let all : map (row_of b.header.space) (walked b.header.space s b.first b.count) ≡ map (record_totals y) c.entries =
    ap₂ (λ (a : ℕ) (l : List RecordRow). map (row_of a) l) j.space rows ∙ records-rows y c.entries in
    ap accepted_report (eu ∙ ap₂ (λ (w : List ℕ) (l : List (List ℕ)). plus w (sum l)) et all) ∙ sym (ap (report_of book_totals) j.read)

-- ---- descriptors

row-of : (m : Res (List Row)) {x p : ℕ} → refusedRows x p ≡ rowsVerdict m → refused_report x p ≡ report_of row_totals m
row-of (ok rs q) e = let z : ◌≡◌ {A = ℕ} 0 1 = cc in absurd (omega arith)
row-of (refuse y q r f) {x} {p} e = let a : x ≡ y = cc in let b : p ≡ q = cc in ap₂ refused_report a b

pub rows-refused : (s : List ℕ) {x p : ℕ} → refusedRows x p ≡ rowsVerdict (descriptor s) → refused_report x p ≡ report_of row_totals (descriptor s)
rows-refused s e = row-of (descriptor s) e

rows_of : (m : Res (List Row)) {n : ℕ} → acceptedRows n ≡ rowsVerdict m → (rs : List Row) × (q : ℕ) × (m ≡ ok rs q) × (length rs ≡ n)
rows_of (ok rs q) {n} e = (rs, q, refl, cc)
rows_of (refuse y q r f) e = let z : ◌≡◌ {A = ℕ} 0 1 = cc in absurd (omega arith)

pub rows_few : (s : List ℕ) {n : ℕ} → acceptedRows n ≡ rowsVerdict (descriptor s) → n ≤ limit
rows_few s e =
    let a = rows_of (descriptor s) e in
    omega (arith, (rows-laid s a.0 a.1 a.2).count, (of-root s a.0 a.1 a.2).0, a.3)

pub rows-accepted : (s : List ℕ) {n : ℕ} (t u : List ℕ) → acceptedRows n ≡ rowsVerdict (descriptor s) → t ≡ one 0 → u ≡ plus t (many 30 n) → accepted_report u ≡ report_of row_totals (descriptor s)
rows-accepted s {n} t u e f g =
    let a = rows_of (descriptor s) e in
    ap accepted_report (g ∙ ap₂ (λ (w : List ℕ) (k : ℕ). plus w (many 30 k)) f (sym a.3)) ∙ sym (ap (report_of row_totals) a.2)
