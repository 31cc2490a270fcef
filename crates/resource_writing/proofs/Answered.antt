-- The numbers that writing blocks may be refused by, always at place 0. Assumes nothing.
-- Few imports, and first by its name: a number outside these is refused here, and by nothing before it.
use Prim.Native.Nat.{ℕ}
use mathlib.Core.Path.{◌≡◌, refl}
use mathlib.Core.List.{List, map, ◌∷◌}
use lib.Dec.{leb, ltb}
use Rattle.algebra.specs.Reader.{limit}
use Rattle.algebra.specs.Writing.{refused}
use Rattle.algebra.specs.Refusal.{Of, among}
use Rattle.algebra.proofs.Numbered.{Fault, no-fault, pick-fault, first-fault, faults-fault, body-fault, needs-refused, writes-refused}
use Rattle.resource.specs.Grammar.{section_bytes}
use Rattle.resource.specs.declared.Record.{Record}
use Rattle.resource_writing.specs.Refusals.{refusals}
use Rattle.resource_writing.specs.Writing.{block_by_row, sizes, part_fault, record_fault, fault, needed, written}

record-numbered : (text : List ℕ) (r : Record) → Fault refusals (record_fault text r)
unfolding record_fault
record-numbered text r =
    first-fault _ _ (pick-fault (ltb r.id 65536) no-fault (among refl))
    (first-fault _ _ (pick-fault (ltb r.letters 256) no-fault (among refl))
    (first-fault (part_fault text r.name r.letters) _ (body-fault (among refl) 1 r.letters text r.name) (body-fault (among refl) 1 r.size text r.payload)))

fault-numbered : (text : List ℕ) (rs : List Record) → Fault refusals (fault text rs)
unfolding fault
fault-numbered text rs = pick-fault (leb (sizes rs) limit) (faults-fault (record_fault text) (record-numbered text) rs) (among refl)

-- the length that is needed is refused by one of these numbers
pub needed-refused : (text : List ℕ) (rs : List Record) {x p : ℕ} → needed text rs ≡ refused x p → Of refusals x × (p ≡ 0)
needed-refused text rs e = needs-refused (fault text rs) (sizes rs) (fault-numbered text rs) e

-- writing by one of them or by 11, and the lent bytes are as they were
pub written-refused : (text : List ℕ) (rs : List Record) (out : List ℕ) {x p : ℕ} {out' : List ℕ} → written text rs out ≡ (refused x p, out') → Of (11 ∷ refusals) x × (p ≡ 0) × (out' ≡ out)
written-refused text rs out e = writes-refused (fault text rs) (sizes rs) (section_bytes (map (block_by_row text) rs)) out (fault-numbered text rs) e
