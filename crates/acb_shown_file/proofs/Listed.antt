-- Listing the pages of a book by the table that it was read into gives what asking the file for each gives.
use Prim.Native.Nat.{ℕ, suc, ◌+◌, ◌*◌, ◌/◌, ◌<◌, min}
use mathlib.Core.Path.{◌≡◌, refl, ap, ap₂, ◌∙◌}
use mathlib.Core.List.{List, [], ◌∷◌, ◌++◌, map}
use mathlib.Core.Bool.{Bool, true, false}
use lib.Dec.{leb}
use lib.ListN.{length, get_or, drop, length-append}
use native.Mathlib.Omega.{arith}
use Rattle.algebra.specs.Numbers.{joined, counted}
use Rattle.algebra.specs.Reader.{Res, ok, refuse, pick}
use Rattle.algebra.specs.Table.{Verdict, accepted, refused, filled, rows}
use Rattle.algebra.proofs.Places.{length-joined, joined-map}
use Rattle.algebra.proofs.Joined.{part-joined}
use Rattle.acb.specs.Reading.{Entry, Contents}
use Rattle.colour.specs.Inks.{ink_number}
use Rattle.acb.specs.Row.{RecordRow, width, numbers, taken, given_of, tag_ink, stated, records_of}
use Rattle.acb_judge.specs.Answer.{Report, report}
use Rattle.acb_read.specs.Table.{blank}
use Rattle.acb_write_judge.specs.scaffold.Parts.{given_at}
use Rattle.acb_shown_values.specs.Pages.{sample_of}
use Rattle.acb_shown_values.specs.Answer.{page_of}
use Rattle.acb_shown_file.specs.View.{unnamed, dummy, dummies_in, page_at}
use Rattle.acb_shown_file.proofs.Walking.{same-dummies}

counted-map : (f : ℕ → RecordRow) (of : Entry → RecordRow) (es : List Entry) (k : ℕ) → ((i : ℕ) → i < length es → f (k + i) ≡ of (get_or es i blank)) → counted f (length es) k ≡ map of es
unfolding counted
counted-map f of [] k h = refl
counted-map f of (e ∷ es) k h =
    let z : k ≡ k + 0 = omega arith in
    ap₂ (λ (g : RecordRow) (gs : List RecordRow). g ∷ gs) (ap f z ∙ h 0 (omega arith)) (counted-map f of es (k + 1) (λ i l. let y : k + 1 + i ≡ k + suc i = omega arith in ap f y ∙ h (suc i) (omega arith)))

-- an ink makes no dummy
stated-dummies : (k : ℕ) (es : List Entry) → map unnamed (map (λ e. stated k (given_of e)) es) ≡ map unnamed (map given_of es)
stated-dummies k [] = refl
stated-dummies k (e ∷ es) = ap (λ (ds : List Bool). unnamed (given_of e) ∷ ds) (stated-dummies k es)

-- the table that a book was read into says of each record whether it is a dummy
pub table-dummies : (c : Contents) (t : List ℕ) → dummies_in (joined numbers (records_of c) ++ t) (length c.entries) ≡ map dummy c.entries
table-dummies c t =
    let es : List Entry = c.entries in
    let k : ℕ = ink_number (tag_ink c.tag) in
    let of : Entry → RecordRow = λ e. stated k (given_of e) in
    let row : Entry → List ℕ = λ e. numbers (of e) in
    let u : List ℕ = joined row es ++ t in
    let m : min (length es) (length u / width) ≡ length es = omega (arith, length-append (joined row es) t, length-joined row width (λ e. refl) es) in
    ap (λ (l : List ℕ). dummies_in (l ++ t) (length es)) (joined-map numbers of es)
    ∙ ap (λ (n : ℕ). map unnamed (rows width taken u n 0)) m
    ∙ ap (map unnamed) (counted-map (given_at u) of es 0 (λ i h. let z : 0 + i ≡ i = omega arith in ap (given_at u) z ∙ ap taken (part-joined row width (λ e. refl) blank es t i h))) ∙ stated-dummies k es ∙ same-dummies es

-- so `page_in`, over what `read` filled and by the header that it told, answers what `page_at` does
pub listed-as-asked : (m : Res Contents) (t t' : List ℕ) {b : Report} → ◌≡◌ {A = Verdict Report × List ℕ} (accepted b, t') (filled width numbers records_of report m t) → (page : ℕ) → page_of (sample_of b.header.size b.header.offset page (dummies_in t' b.count)) ≡ page_at page m
listed-as-asked (refuse x q r f) t t' {b} e page =
    let v : accepted b ≡ refused x q r f = ap (λ (y : Verdict Report × List ℕ). y.0) e in
    let z : ◌≡◌ {A = ℕ} 0 1 = cc in
    absurd (omega arith)
listed-as-asked (ok c q) t t' {b} e page = go (leb (width * length (records_of c)) (length t)) e
  where
    go : (x : Bool) → ◌≡◌ {A = Verdict Report × List ℕ} (accepted b, t') (pick x (accepted (report c), joined numbers (records_of c) ++ drop (width * length (records_of c)) t) (refused 11 0 0 0, t)) → page_of (sample_of b.header.size b.header.offset page (dummies_in t' b.count)) ≡ page_at page (ok c q)
    go true k =
        let v : accepted b ≡ accepted (report c) = ap (λ (x : Verdict Report × List ℕ). x.0) k in
        let w : t' ≡ joined numbers (records_of c) ++ drop (width * length (records_of c)) t = ap (λ (x : Verdict Report × List ℕ). x.1) k in
        let a : b ≡ report c = cc in
        ap₂ (λ (y : List ℕ) (r : Report). page_of (sample_of r.header.size r.header.offset page (dummies_in y r.count))) w a
        ∙ ap (λ (ds : List Bool). page_of (sample_of c.header.numbers.size c.header.numbers.offset page ds)) (table-dummies c (drop (width * length (records_of c)) t))
    go false k =
        let v : accepted b ≡ refused 11 0 0 0 = ap (λ (x : Verdict Report × List ℕ). x.0) k in
        let z : ◌≡◌ {A = ℕ} 0 1 = cc in
        absurd (omega arith)
