-- The numbers that writing blocks may be refused by, always at place 0. Assumes nothing.
-- Few imports, and first by its name: a number outside these is refused here, and by nothing before it.
use Prim.Native.Nat.{ℕ, ◌+◌}
use mathlib.Core.Path.{◌≡◌, refl}
use mathlib.Core.List.{List, map, ◌∷◌}
use lib.Dec.{leb, ltb, eqb}
use Rattle.algebra.specs.Reader.{limit, state_after}
use Rattle.algebra.specs.Text.{any_zero}
use Rattle.algebra.specs.Writing.{refused}
use Rattle.algebra.specs.Refusal.{Of, among}
use Rattle.algebra.proofs.Numbered.{Fault, no-fault, pick-fault, first-fault, from-fault, in-fault, faults-fault, body-fault, needs-refused, writes-refused}
use Rattle.colour.specs.Models.{is_model}
use Rattle.colour.specs.Inks.{ink_number}
use Rattle.colour.specs.declared.ink.Ink.TheVariants.{Process, NotStated}
use Rattle.colour.specs.Channels.{allows_bits}
use Rattle.ase.specs.Grammar.{Block, group_start, group_end, colour, other, file_bytes}
use Rattle.ase.specs.Reading.{deepest, open_after}
use Rattle.ase.specs.Faults.{name_fault, colour_fault, block_fault, blocks_fault}
use Rattle.ase_writing.specs.Refusals.{refusals}
use Rattle.ase.specs.Row.{RecordRow}
use Rattle.ase_writing.specs.Writing.{block_by_row, size, found_in, ink_fault, fault, needed, written}

found-numbered : (text : List ℕ) (g : RecordRow) → Fault refusals (found_in text g)
found-numbered text g = pick-fault (leb (g.units + 1) 65535) (body-fault (among refl) 2 g.units text g.first) (among refl)

colour-content-numbered : (t : ℕ) (bs : List ℕ) (k : ℕ) → Fault refusals (colour_fault t bs k)
unfolding colour_fault
colour-content-numbered t bs k =
    first-fault _ _ (pick-fault (is_model t) no-fault (among refl))
    (first-fault _ _ (from-fault _ (λ i b. pick-fault (allows_bits t b) no-fault (among refl)) 0 bs) (pick-fault (leb k 4) no-fault (among refl)))

module _ (x d : ℕ) (h : Fault refusals x) where
  name-numbered : (us : List ℕ) → Fault refusals (name_fault x us)
  name-numbered us = first-fault x _ h (pick-fault (any_zero us) (among refl) no-fault)

  block-numbered : (b : Block) → Fault refusals (block_fault x d b)
  unfolding block_fault
  block-numbered (group_start us) = first-fault _ (name_fault x us) (pick-fault (ltb d deepest) no-fault (among refl)) (name-numbered us)
  block-numbered group_end = pick-fault (ltb 0 d) no-fault (among refl)
  block-numbered (colour us t bs k) = first-fault (name_fault x us) _ (name-numbered us) (colour-content-numbered t bs k)
  block-numbered (other t) = among refl

ink-numbered : (g : RecordRow) → Fault refusals (ink_fault g)
ink-numbered g = pick-fault (eqb g.block 0x0001) (pick-fault (eqb g.ink (ink_number Process)) (among refl) (pick-fault (eqb g.ink (ink_number NotStated)) (among refl) no-fault)) no-fault

fault-numbered : (text : List ℕ) (gs : List RecordRow) → Fault refusals (fault text gs)
unfolding fault blocks_fault
fault-numbered text gs =
    pick-fault (leb (size gs) limit)
    (first-fault _ _
    (first-fault _ _ (in-fault _ _ (λ d g. block-numbered (found_in text g) d (found-numbered text g) (block_by_row text g)) 0 gs) (pick-fault (eqb (state_after (λ d g. open_after d (block_by_row text g)) 0 gs) 0) no-fault (among refl)))
    (faults-fault ink_fault ink-numbered gs))
    (among refl)

-- the length that is needed is refused by one of these numbers
pub needed-refused : (text : List ℕ) (gs : List RecordRow) {x p : ℕ} → needed text gs ≡ refused x p → Of refusals x × (p ≡ 0)
needed-refused text gs e = needs-refused (fault text gs) (size gs) (fault-numbered text gs) e

-- writing by one of them or by 11, and the lent bytes are as they were
pub written-refused : (text : List ℕ) (gs : List RecordRow) (out : List ℕ) {x p : ℕ} {out' : List ℕ} → written text gs out ≡ (refused x p, out') → Of (11 ∷ refusals) x × (p ≡ 0) × (out' ≡ out)
written-refused text gs out e = writes-refused (fault text gs) (size gs) (file_bytes (map (block_by_row text) gs)) out (fault-numbered text gs) e
