-- What is promised of writing and reading ACO files together. Assumes nothing.
use Prim.Native.Nat.{ℕ, ◌+◌, ◌*◌, ◌≤◌, ◌<◌}
use mathlib.Core.Path.{◌≡◌, refl, sym, ap, ◌∙◌, subst}
use mathlib.Core.List.{List, [], ◌++◌, map}
use lib.Dec.{leb}
use lib.ListN.{length, take, drop, length-append, length-drop}
use lib.Seq.{take_at, drop_at, ext_get_or}
use borrow.Author.Tests.{leb-true}
use native.Mathlib.Omega.{arith}
use Rattle.algebra.specs.Numbers.{num, nums, be, joined, Bytes, All}
use Rattle.algebra.specs.Reader.{ok, number_of, limit}
use Rattle.algebra.specs.Store.{part}
use Rattle.algebra.proofs.Places.{length-nums, getD-nums, part-nums}
use Rattle.algebra.proofs.Exact.{length-map}
use Rattle.aco.specs.Grammar.{Swatch, named, list_one, two_lists}
use Rattle.aco.specs.Reading.{Entry, Contents, aco, swatch}
use Rattle.aco.specs.Faults.{palette_fault}
use Rattle.aco.specs.Places.{entry_place}
use Rattle.aco.proofs.RoundTrip.{allowed-reads, written-number, written-allowed, two-lists, lists_agree, records-place}
use Rattle.algebra.specs.Table.{whole}
use Rattle.aco.specs.Row.{RecordRow, width, taken, to_record}
use Rattle.aco_writing.specs.Writing.{swatch_in, record_in, size, fault, needed, written}
use Rattle.algebra.specs.Writing.{bytes}
use Rattle.aco_roundtrip.specs.Tie.{Holds, made, tabled, Fitting}
use Rattle.aco_roundtrip.proofs.Fitting.{length-made, all-four, all_fit, fault-same, faultless-fit, records-are, swatches-records, givens-four}
use Rattle.aco_roundtrip.proofs.Back.{written-inv, needs, writes, itself, bare, palette, length-is, short}
use Rattle.algebra.proofs.Firsts.{test-holds}

-- a file that holds the swatches of some records holds these records: a file states no ink
holds_same : (b : List ℕ) {l : ℕ} (es : List Entry) → ((c : Contents) × (aco b ≡ ok c (length b)) × (c.lists ≡ l) × (map swatch c.records ≡ map swatch es)) → Holds b l (map to_record es)
holds_same b es h = (h.0, h.1, h.2, swatches-records h.0.records es h.3)

-- ---- what is written reads back

-- records without a fault are made into a file of two lists that holds them, and that is as long as the writer says
pub written-reads : (text run : List ℕ) → Bytes text → fault text (whole width taken run) ≡ 0
    → Holds (made text (whole width taken run)) 2 (map (record_in text) (whole width taken run)) × (length (made text (whole width taken run)) ≡ size (whole width taken run))
written-reads text run b e =
    let gs : List RecordRow = whole width taken run in
    let ws : List Swatch = map (swatch_in text) gs in
    let fit = faultless-fit text gs (givens-four run _ 0 0) e in
    let x = test-holds (leb (length (two_lists ws)) limit) (palette_fault ws) 1 (omega arith) (sym (fault-same text gs fit) ∙ e) in
    let r = allowed-reads (written-allowed ws (all_fit text gs fit b) x.1 (leb-true (length (two_lists ws)) limit x.0)) in
    ((r.0, r.1, r.2, records-are text 0 gs fit r.0.records r.3), length-made text gs (all-four text gs fit))

-- where the writer says that it wrote n bytes, the first n bytes are a file of two lists that holds the records that were given, and the rest is as it was
pub written-holds : (text run out out' : List ℕ) (n : ℕ) → Bytes text → written text (whole width taken run) out ≡ (bytes n, out')
    → (n ≤ length out') × (length out' ≡ length out) × Holds (take n out') 2 (map (record_in text) (whole width taken run)) × (drop n out' ≡ drop n out)
written-holds text run out out' n b e =
    let file : List ℕ = made text (whole width taken run) in
    let i = written-inv text (whole width taken run) out e in
    let r = written-reads text run b i.none in
    let l : length file ≡ n = r.1 ∙ i.size_is in
    let m : length out' ≡ length out = ap length i.is ∙ length-append file (drop n out) ∙ omega (arith, length-drop n out, i.inside) in
    let t : take n out' ≡ file = ap (take n) i.is ∙ take_at file (drop n out) n l in
    (omega (arith, i.inside), m, subst (λ (f : List ℕ). Holds f 2 (map (record_in text) (whole width taken run))) (sym t) r.0, ap (drop n) i.is ∙ drop_at file (drop n out) n l)

-- ---- what is read is written back

-- the records of an accepted file of two lists, written back with the file itself for their names, are the file, byte for byte
pub read-writes : (s : List ℕ) → Bytes s → {c : Contents} {q : ℕ} → aco s ≡ ok c q → c.lists ≡ 2
    → (out : List ℕ) → length s ≤ length out → written s (tabled c) out ≡ (bytes (length s), s ++ drop (length s) out)
read-writes s b e two out h = let i = itself s b e two in writes s b e s i.0 i.1 out h

-- and they need as many bytes as the file has
pub read-needs : (s : List ℕ) → Bytes s → {c : Contents} {q : ℕ} → aco s ≡ ok c q → c.lists ≡ 2 → needed s (tabled c) ≡ bytes (length s)
read-needs s b e two = let i = itself s b e two in needs s b e s i.0 i.1

-- the records of an accepted file of one list are written as a file of two lists that holds the same records
pub plain-writes : (s : List ℕ) → Bytes s → {c : Contents} {q : ℕ} → aco s ≡ ok c q → c.lists ≡ 1 → (out : List ℕ) → 8 + 26 * length c.records ≤ length out
    → (file : List ℕ) × (written s (tabled c) out ≡ (bytes (length file), file ++ drop (length file) out)) × (length file ≡ 8 + 26 * length c.records) × Holds file 2 (map to_record c.records)
plain-writes s b {c} e one out h =
    let file : List ℕ = two_lists (map swatch c.records) in
    let l = length-is s b e one in
    (file, writes s b e file refl (short s b e one) out (omega arith), l, holds_same file c.records (allowed-reads (named (palette s b e one) (short s b e one))))

-- and they always need 8 bytes, and 26 for each
pub plain-needs : (s : List ℕ) → Bytes s → {c : Contents} {q : ℕ} → aco s ≡ ok c q → c.lists ≡ 1 → needed s (tabled c) ≡ bytes (8 + 26 * length c.records)
plain-needs s b {c} e one = needs s b e (two_lists (map swatch c.records)) refl (short s b e one) ∙ ap bytes (length-is s b e one)

-- ---- names and colours

-- a missing name and an empty one are the same record: a file of one list is list 1 of swatches with empty names, and the file of two lists of them holds the same
pub same-record : (s : List ℕ) → Bytes s → {c : Contents} {q : ℕ} → aco s ≡ ok c q → c.lists ≡ 1
    → (s ≡ list_one (map swatch c.records)) × All (λ k w. w.name ≡ []) 0 (map swatch c.records) × Holds (two_lists (map swatch c.records)) 2 (map to_record c.records)
same-record s b {c} e one = let x = bare s b e one in (x.1, x.0, holds_same (two_lists (map swatch c.records)) c.records (allowed-reads (named (palette s b e one) (short s b e one))))

-- in an accepted file of two lists the ten bytes of every colour of list 1 stand again in list 2
pub lists-agree-bytes : (s : List ℕ) → Bytes s → {c : Contents} {q : ℕ} → aco s ≡ ok c q → c.lists ≡ 2
    → (i : ℕ) → i < num 2 s 2 → part s (4 + 10 * i) 10 ≡ part s (entry_place s (num 2 s 2) i) 10
lists-agree-bytes s b e two i h =
    let x : ℕ = 4 + 10 * i in
    let y : ℕ = entry_place s (num 2 s 2) i in
    let same : nums 2 5 s x ≡ nums 2 5 s y =
    ext_get_or 0 (nums 2 5 s x) (nums 2 5 s y) (length-nums 2 5 s x ∙ sym (length-nums 2 5 s y)) (λ f g.
    let k : f < 5 = omega (arith, length-nums 2 5 s x) in
    getD-nums 2 s 5 x f k ∙ lists_agree s e two i f h k ∙ sym (getD-nums 2 s 5 y f k)) in
    part-nums 2 s b 5 x 10 refl (omega (arith, (two-lists s e two).0)) ∙ ap (joined (be 2)) same ∙ sym (part-nums 2 s b 5 y 10 refl (omega (arith, (records-place s e two i h).inside)))

-- ---- refusals

-- of records that fit their fields the writer's refusal, 11 and 14 aside, has the number that the reader gives for the bytes made of them; 0 is none
pub refusals-agree : (text : List ℕ) → Bytes text → (gs : List RecordRow) → length gs < 65536 → All (λ k g. Fitting text g) 0 gs → fault text gs ≡ number_of (aco (made text gs))
refusals-agree text b gs few fit =
    fault-same text gs fit ∙ sym (written-number (map (swatch_in text) gs) (omega (arith, length-map (swatch_in text) gs)) (all_fit text gs fit b))
