-- What is promised of writing and reading ACB files together. Assumes nothing.
use Prim.Native.Nat.{ℕ, ◌+◌, ◌≤◌}
use mathlib.Core.Path.{◌≡◌, refl, sym, ap, ap₂, ◌∙◌, subst}
use mathlib.Core.List.{List, [], ◌∷◌, ◌++◌, map}
use lib.Dec.{leb, eqb}
use lib.ListN.{length, get_or, take, drop, length-append, length-drop}
use lib.Seq.{take_at, drop_at}
use borrow.Author.Tests.{leb-true, eqb-true}
use native.Mathlib.Omega.{arith}
use Rattle.algebra.specs.Numbers.{be, joined, Bytes, All}
use Rattle.algebra.specs.Reader.{ok, number_of, limit}
use Rattle.algebra.specs.Writing.{bytes}
use Rattle.algebra.proofs.Exact.{length-map}
use Rattle.algebra.proofs.Tells.{pick-none}
use Rattle.algebra.proofs.Firsts.{test-holds}
use Rattle.colour.specs.Inks.{ink_number}
use Rattle.acb.specs.Grammar.{Tag, none, spot, process, Ending, tagged, other, Book, tag_bytes, file_bytes}
use Rattle.acb.specs.Reading.{Entry, Contents, colour_of, book_of, components_of, acb}
use Rattle.acb_judge.specs.Answer.{HeaderPlaces, header_places}
use Rattle.acb.specs.Faults.{EndingFits, book_fault}
use Rattle.acb.proofs.RoundTrip.{allowed-reads, written-number, written-allowed}
use Rattle.acb_writing.specs.Writing.{colour_in, book_in, size_within, size, colour_fault, ink_fault, fault, needed, written}
use Rattle.algebra.specs.Table.{whole}
use Rattle.acb.specs.Row.{RecordRow, width, numbers, taken, given_of, tag_ink, stated, records_of}
use Rattle.acb_write.proofs.Puts.{givens-shaped}
use Rattle.acb_roundtrip.specs.Tie.{Headed, inks, Holds, made, tabled, BookFitting, Alike, AllAlike}
use Rattle.acb_roundtrip.proofs.Fitting.{length-made, book-fits, fault-same, faultless-fit}
use Rattle.acb.proofs.Row.{rows-given}
use Rattle.acb_roundtrip.proofs.Back.{written-inv, needs-all, writes-all}
use Rattle.acb_roundtrip.proofs.Spare.{colour-alike, fault-alike, size-alike, needed-alike, written-alike}

-- ---- inks

-- what was given without a refused ink has the inks that reading the book gives
inks-back : (text : List ℕ) (h : HeaderPlaces) (t : Ending) (gs : List RecordRow) → All (λ k g. ink_fault t g ≡ 0) 0 gs → (c : Contents) → book_of c ≡ book_in text h t gs → inks (records_of c) ≡ inks gs
inks-back text h t gs fit c e =
    let tags : tagged c.tag ≡ t = ap (λ (b : Book). b.tag) e in
    let n : length c.entries ≡ length gs = sym (length-map colour_of c.entries) ∙ ap (λ (b : Book). length b.colours) e ∙ length-map (colour_in text (components_of h.space)) gs in
    go 0 c.entries gs n (subst (λ (y : Ending). All (λ k g. ink_fault y g ≡ 0) 0 gs) (sym tags) fit)
  where
    k : ℕ
    k = ink_number (tag_ink c.tag)

    go : (i : ℕ) (es : List Entry) (gs : List RecordRow) → length es ≡ length gs → All (λ k g. ink_fault (tagged c.tag) g ≡ 0) i gs → inks (map (λ e. stated (ink_number (tag_ink c.tag)) (given_of e)) es) ≡ inks gs
    go i [] [] n h = refl
    go i [] (g ∷ gs) n h = absurd (omega arith)
    go i (e ∷ es) [] n h = absurd (omega arith)
    go i (e ∷ es) (g ∷ gs) n h = ap₂ (λ (x : ℕ) (xs : List ℕ). x ∷ xs) (sym (eqb-true g.ink k (pick-none (eqb g.ink k) 14 (omega arith) h.0))) (go (i + 1) es gs (omega arith) h.1)

-- ---- what is written reads back

-- a header, records and a tag without a fault are made into a file that holds their book, and that is as long as the writer says
pub written-reads : (text : List ℕ) (h : HeaderPlaces) (t : Ending) (run : List ℕ) → Bytes text → Headed h → fault text h t (whole width taken run) ≡ 0
    → Holds (made text h t (whole width taken run)) (book_in text h t (whole width taken run)) (inks (whole width taken run)) × (length (made text h t (whole width taken run)) ≡ size h t (whole width taken run))
written-reads text h t run b hd e =
    let gs : List RecordRow = whole width taken run in
    let d : Book = book_in text h t gs in
    let fit = faultless-fit text h t gs hd (givens-shaped run _ 0 0) e in
    let x = test-holds (leb (length (file_bytes d)) limit) (book_fault d) 1 (omega arith) (sym (fault-same text h t gs fit) ∙ e) in
    let r = allowed-reads (written-allowed d (book-fits text h t gs fit b) x.1 (leb-true (length (file_bytes d)) limit x.0)) in
    ((r.0, r.1, r.2, inks-back text h t gs fit.inked r.0 r.2), length-made text h t gs fit)

-- where the writer says that it wrote n bytes, the first n bytes are a file that holds the book that was given, and the rest is as it was
pub written-holds : (text : List ℕ) (h : HeaderPlaces) (t : Ending) (run out out' : List ℕ) (n : ℕ) → Bytes text → Headed h → written text h t (whole width taken run) out ≡ (bytes n, out')
    → (n ≤ length out') × (length out' ≡ length out) × Holds (take n out') (book_in text h t (whole width taken run)) (inks (whole width taken run)) × (drop n out' ≡ drop n out)
written-holds text h t run out out' n b hd e =
    let file : List ℕ = made text h t (whole width taken run) in
    let i = written-inv text h t (whole width taken run) out e in
    let r = written-reads text h t run b hd i.none in
    let l : length file ≡ n = r.1 ∙ i.size_is in
    let m : length out' ≡ length out = ap length i.is ∙ length-append file (drop n out) ∙ omega (arith, length-drop n out, i.inside) in
    let k : take n out' ≡ file = ap (take n) i.is ∙ take_at file (drop n out) n l in
    (omega (arith, i.inside), m, subst (λ (f : List ℕ). Holds f (book_in text h t (whole width taken run)) (inks (whole width taken run))) (sym k) r.0, ap (drop n) i.is ∙ drop_at file (drop n out) n l)

-- ---- what is read is written back

-- the table that reading fills gives the records of the file
pub read-gives : (c : Contents) → whole width taken (joined numbers (records_of c)) ≡ tabled c
read-gives c = rows-given c

-- the header, the records and the tag of an accepted file, written back with the file itself for their strings and names, are the file, byte for byte
pub read-writes : (s : List ℕ) → Bytes s → {c : Contents} {q : ℕ} → acb s ≡ ok c q
    → (out : List ℕ) → length s ≤ length out → written s (header_places c.header) (tagged c.tag) (tabled c) out ≡ (bytes (length s), s ++ drop (length s) out)
read-writes s b e out h = writes-all s b e out h

-- and they need as many bytes as the file has
pub read-needs : (s : List ℕ) → Bytes s → {c : Contents} {q : ℕ} → acb s ≡ ok c q → needed s (header_places c.header) (tagged c.tag) (tabled c) ≡ bytes (length s)
read-needs s b e = needs-all s b e

-- ---- refusals

-- of a header and records that fit their fields the writer's refusal, 11 and 14 aside, has the number that the reader gives for the bytes made of them; 0 is none
pub refusals-agree : (text : List ℕ) → Bytes text → (h : HeaderPlaces) (t : Ending) (gs : List RecordRow) → BookFitting text h t gs → fault text h t gs ≡ number_of (acb (made text h t gs))
refusals-agree text b h t gs fit = fault-same text h t gs fit ∙ sym (written-number (book_in text h t gs) (book-fits text h t gs fit b))

-- the tag that stands for all others is none of the file's
pub other_fits : EndingFits (other 0)
unfolding be
other_fits = record {
  small = omega arith;
  no_tag = λ t. go t;
}
  where
    go : (t : Tag) → be 8 0 ≡ tag_bytes t → ⊥
    go none e = let z : ◌≡◌ {A = ℕ} 8 0 = ap length e in omega arith
    go spot e = let z : ◌≡◌ {A = ℕ} 0 0x73 = ap (λ (l : List ℕ). get_or l 0 0) e in omega arith
    go process e = let z : ◌≡◌ {A = ℕ} 0 0x73 = ap (λ (l : List ℕ). get_or l 0 0) e in omega arith

-- ---- spare places

-- records that differ only in spare places are the same colour, of the same fault and length
pub spare-ignored : (text : List ℕ) (n : ℕ) (g h : RecordRow) → Alike n g h
    → (colour_in text n g ≡ colour_in text n h) × (colour_fault text n g ≡ colour_fault text n h) × (size_within n g ≡ size_within n h)
spare-ignored text n g h x = (colour-alike text n g h x, fault-alike text n g h x, size-alike text n g h x)

-- and so they are written the same
pub spare_writes : (text : List ℕ) (h : HeaderPlaces) (t : Ending) (gs hs : List RecordRow) → AllAlike (components_of h.space) gs hs
    → (needed text h t gs ≡ needed text h t hs) × ((out : List ℕ) → written text h t gs out ≡ written text h t hs out)
spare_writes text h t gs hs x = (needed-alike text h t gs hs x, written-alike text h t gs hs x)
