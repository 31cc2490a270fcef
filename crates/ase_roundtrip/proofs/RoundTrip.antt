-- What is promised of writing and reading ASE files together. Assumes nothing.
use Prim.Native.Nat.{ℕ, ◌≤◌}
use mathlib.Core.Path.{◌≡◌, sym, ap, ◌∙◌, subst}
use mathlib.Core.List.{List, ◌++◌, map}
use lib.Dec.{leb}
use lib.ListN.{length, take, drop, length-append, length-drop}
use lib.Seq.{take_at, drop_at}
use borrow.Author.Tests.{leb-true}
use native.Mathlib.Omega.{arith}
use Rattle.algebra.specs.Table.{whole}
use Rattle.algebra.specs.Numbers.{joined, Bytes, All}
use Rattle.algebra.specs.Reader.{ok, number_of, limit}
use Rattle.algebra.specs.Writing.{bytes}
use Rattle.ase.specs.Grammar.{Block, file_bytes}
use Rattle.ase.specs.Reading.{Entry, ase}
use Rattle.ase.specs.Faults.{palette_fault}
use Rattle.ase.proofs.RoundTrip.{allowed-reads, written-number, written-allowed}
use Rattle.ase_read.specs.Table.{row}
use Rattle.ase.specs.Row.{RecordRow, width, taken}
use Rattle.ase_writing.specs.Writing.{block_by_row, size_within, size, block_fault, fault, needed, written}
use Rattle.ase_roundtrip.specs.Tie.{Words, Holds, made, tabled, Fitting, Alike, AllAlike}
use Rattle.ase_roundtrip.proofs.Fitting.{length-made, all_fit, fault-same, faultless-fit, givens-words}
use Rattle.ase_roundtrip.proofs.Records.{given-rows}
use Rattle.ase_roundtrip.proofs.Back.{written-inv, needs-all, writes-all}
use Rattle.ase_roundtrip.proofs.Spare.{block-alike, fault-alike, size-alike, needed-alike, written-alike}
use Rattle.algebra.proofs.Firsts.{test-holds}

-- ---- what is written reads back

-- records without a fault are made into a file that holds their blocks, and that is as long as the writer says
pub written-reads : (text run : List ℕ) → Bytes text → Words run → fault text (whole width taken run) ≡ 0
    → Holds (made text (whole width taken run)) (map (block_by_row text) (whole width taken run)) × (length (made text (whole width taken run)) ≡ size (whole width taken run))
written-reads text run b w e =
    let gs : List RecordRow = whole width taken run in
    let bs : List Block = map (block_by_row text) gs in
    let fit = faultless-fit text gs (givens-words run w _ 0 0) e in
    let x = test-holds (leb (length (file_bytes bs)) limit) (palette_fault bs) 1 (omega arith) (sym (fault-same text gs fit) ∙ e) in
    (allowed-reads (written-allowed bs (all_fit text gs fit b) x.1 (leb-true (length (file_bytes bs)) limit x.0)), length-made text gs fit)

-- where the writer says that it wrote n bytes, the first n bytes are a file that holds the blocks that were given, and the rest is as it was
pub written-holds : (text run out out' : List ℕ) (n : ℕ) → Bytes text → Words run → written text (whole width taken run) out ≡ (bytes n, out')
    → (n ≤ length out') × (length out' ≡ length out) × Holds (take n out') (map (block_by_row text) (whole width taken run)) × (drop n out' ≡ drop n out)
written-holds text run out out' n b w e =
    let file : List ℕ = made text (whole width taken run) in
    let i = written-inv text (whole width taken run) out e in
    let r = written-reads text run b w i.none in
    let l : length file ≡ n = r.1 ∙ i.size_is in
    let m : length out' ≡ length out = ap length i.is ∙ length-append file (drop n out) ∙ omega (arith, length-drop n out, i.inside) in
    let t : take n out' ≡ file = ap (take n) i.is ∙ take_at file (drop n out) n l in
    (omega (arith, i.inside), m, subst (λ (f : List ℕ). Holds f (map (block_by_row text) (whole width taken run))) (sym t) r.0, ap (drop n) i.is ∙ drop_at file (drop n out) n l)

-- ---- what is read is written back

-- the table that reading fills gives the records of the file
pub read-gives : (es : List Entry) → whole width taken (joined row es) ≡ tabled es
read-gives es = given-rows es

-- the records of an accepted file, written back with the file itself for their names, are the file, byte for byte
pub read-writes : (s : List ℕ) → Bytes s → {es : List Entry} {q : ℕ} → ase s ≡ ok es q
    → (out : List ℕ) → length s ≤ length out → written s (tabled es) out ≡ (bytes (length s), s ++ drop (length s) out)
read-writes s b e out h = writes-all s b e out h

-- and they need as many bytes as the file has
pub read-needs : (s : List ℕ) → Bytes s → {es : List Entry} {q : ℕ} → ase s ≡ ok es q → needed s (tabled es) ≡ bytes (length s)
read-needs s b e = needs-all s b e

-- ---- refusals

-- of records that fit their fields the writer's refusal, 11 and 14 aside, has the number that the reader gives for the bytes made of them; 0 is none
pub refusals-agree : (text : List ℕ) → Bytes text → (gs : List RecordRow) → All (λ k g. Fitting text g) 0 gs → fault text gs ≡ number_of (ase (made text gs))
refusals-agree text b gs fit = fault-same text gs fit ∙ sym (written-number (map (block_by_row text) gs) (all_fit text gs fit b))

-- ---- spare places

-- records that differ only in spare places are the same block, of the same fault and length
pub spare-ignored : (text : List ℕ) (g h : RecordRow) → Alike g h
    → (block_by_row text g ≡ block_by_row text h) × ((d : ℕ) → block_fault text d g ≡ block_fault text d h) × (size_within g ≡ size_within h)
spare-ignored text g h x = (block-alike text g h x, λ d. fault-alike text d g h x, size-alike g h x)

-- and so they are written the same
pub spare_writes : (text : List ℕ) (gs hs : List RecordRow) → AllAlike gs hs
    → (needed text gs ≡ needed text hs) × ((out : List ℕ) → written text gs out ≡ written text hs out)
spare_writes text gs hs x = (needed-alike text gs hs x, written-alike text gs hs x)
