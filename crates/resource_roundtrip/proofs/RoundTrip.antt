-- What is promised of writing and reading image resource blocks together. Assumes nothing.
use Prim.Native.Nat.{ℕ, ◌≤◌}
use mathlib.Core.Path.{◌≡◌, refl, sym, ap, ap₂, ◌∙◌, subst}
use mathlib.Core.List.{List, ◌++◌, map}
use mathlib.Core.Bool.{Bool, true, false}
use lib.Dec.{leb}
use lib.ListN.{length, take, drop, length-append, length-drop}
use lib.Seq.{take_at, drop_at}
use borrow.Author.Tests.{leb-true, leb-false}
use native.Mathlib.Omega.{arith}
use Rattle.algebra.specs.Numbers.{joined, Bytes, All}
use Rattle.algebra.specs.Reader.{ok, pick, number_of, limit}
use Rattle.algebra.specs.Faults.{faults}
use Rattle.algebra.specs.Writing.{bytes}
use Rattle.algebra.proofs.Writing.{writes-inv, needs-all, writes-all}
use Rattle.resource.specs.Grammar.{Block, section_bytes, Section, section}
use Rattle.resource.specs.Reading.{Entry, resources}
use Rattle.resource.specs.declared.Record.{Record}
use Rattle.resource.proofs.RoundTrip.{allowed-reads, accepted-allowed}
use Rattle.resource.proofs.Refused.{long-refused}
use Rattle.resource.proofs.Tiled.{tiled}
use Rattle.resource_read.specs.Table.{entry_row}
use Rattle.resource_writing.specs.Writing.{given, block_by_row, sizes, record_fault, fault, needed, written}
use Rattle.resource_write_judge.proofs.Judging.{no-fault, fault_is}
use Rattle.resource_roundtrip.specs.Tie.{Holds, made, tabled, Fitting}
use Rattle.resource_roundtrip.proofs.Fitting.{faults-fit, fit-faults, all-allowed, made-length}
use Rattle.resource_roundtrip.proofs.Records.{given-rows, all_read, fits_all, blocks-all, sizes-all}

-- ---- what is written reads back

-- records without a fault are made into a section that holds their blocks, and that is as long as the writer says
pub written-reads : (text : List ℕ) → Bytes text → (rs : List Record) → fault text rs ≡ 0 → Holds (made text rs) (map (block_by_row text) rs) × (length (made text rs) ≡ sizes rs)
written-reads text b rs e =
    let n = no-fault text rs e in
    let fit = faults-fit text 0 rs n.1 in
    let l = made-length text rs fit in
    (allowed-reads (section (all-allowed text b rs fit n.0) (omega (arith, l, n.0))), l)

-- where the writer says that it wrote n bytes, the first n bytes are a section that holds the blocks that were given, and the rest is as it was
pub written-holds : (text run out out' : List ℕ) (n : ℕ) → Bytes text → written text (given run) out ≡ (bytes n, out')
    → (n ≤ length out') × (length out' ≡ length out) × Holds (take n out') (map (block_by_row text) (given run)) × (drop n out' ≡ drop n out)
written-holds text run out out' n b e =
    let rs : List Record = given run in
    let file : List ℕ = made text rs in
    let i = writes-inv (fault text rs) (sizes rs) file out e in
    let r = written-reads text b rs i.none in
    let l : length file ≡ n = r.1 ∙ i.size_is in
    let m : length out' ≡ length out = ap length i.is ∙ length-append file (drop n out) ∙ omega (arith, length-drop n out, i.inside) in
    let t : take n out' ≡ file = ap (take n) i.is ∙ take_at file (drop n out) n l in
    (omega (arith, i.inside), m, subst (λ (f : List ℕ). Holds f (map (block_by_row text) rs)) (sym t) r.0, ap (drop n) i.is ∙ drop_at file (drop n out) n l)

-- ---- what is read is written back

-- the table that reading fills gives the records of the section
pub read-gives : (es : List Entry) → given (joined entry_row es) ≡ tabled es
read-gives es = given-rows es

same_bytes : {bs : List Block} {s : List ℕ} → Section bs s → (section_bytes bs ≡ s) × (length s ≤ limit)
same_bytes (section fit short) = (refl, short)

module _ (s : List ℕ) (b : Bytes s) {es : List Entry} {q : ℕ} (e : resources s ≡ ok es q) where
  whole : (made s (tabled es) ≡ s) × (sizes (tabled es) ≡ length s) × (fault s (tabled es) ≡ 0)
  whole =
      let r = all_read s b e in
      let f = same_bytes (accepted-allowed b e).0 in
      let z : sizes (tabled es) ≡ length s = sizes-all es ∙ (tiled s e).1 in
      (ap section_bytes (blocks-all s 0 es r) ∙ f.0, z, fault_is s (tabled es) (omega (arith, f.1)) ∙ fit-faults s 0 (tabled es) (fits_all s 0 es r))

  -- the records of an accepted section need as many bytes as it has
  pub read-needs : needed s (tabled es) ≡ bytes (length s)
  read-needs = sym (needs-all (fault s (tabled es)) (sizes (tabled es)) (length s) whole.2 whole.1)

  -- and written back, with the section itself for their names and data, they are the section, byte for byte
  pub read-writes : (out : List ℕ) → length s ≤ length out → written s (tabled es) out ≡ (bytes (length s), s ++ drop (length s) out)
  read-writes out h =
      let o : s ++ drop (length s) out ≡ made s (tabled es) ++ drop (sizes (tabled es)) out = ap₂ (λ (x : List ℕ) (k : ℕ). x ++ drop k out) (sym whole.0) (sym whole.1) in
      sym (writes-all (fault s (tabled es)) (sizes (tabled es)) (made s (tabled es)) out (length s) (sym read-needs) h (s ++ drop (length s) out) o)

-- ---- refusals

-- of records that fit their fields the writer's refusal, 11 aside, has the number that the reader gives for the bytes made of them; 0 is none
pub refusals-agree : (text : List ℕ) → Bytes text → (rs : List Record) → All (λ k r. Fitting text r) 0 rs → fault text rs ≡ number_of (resources (made text rs))
unfolding fault
refusals-agree text b rs fit = go (leb (sizes rs) limit) refl
  where
    go : (t : Bool) → leb (sizes rs) limit ≡ t → pick t (faults (record_fault text) rs) 1 ≡ number_of (resources (made text rs))
    go true h =
        let short : sizes rs ≤ limit = leb-true _ _ h in
        let l = made-length text rs fit in
        fit-faults text 0 rs fit ∙ sym (ap number_of (allowed-reads (section (all-allowed text b rs fit short) (omega (arith, l)))).1)
    go false h = sym (ap number_of (long-refused (made text rs) (omega (arith, leb-false (sizes rs) limit h, made-length text rs fit))))
