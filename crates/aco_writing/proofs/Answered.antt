-- The numbers that writing a palette may be refused by, always at place 0. Assumes nothing.
-- Few imports, and first by its name: a number outside these is refused here, and by nothing before it.
use Prim.Native.Nat.{ℕ}
use mathlib.Core.Path.{◌≡◌, refl}
use mathlib.Core.List.{List, map, ◌∷◌}
use lib.Dec.{leb, eqb}
use lib.ListN.{length}
use Rattle.algebra.specs.Reader.{limit}
use Rattle.algebra.specs.Text.{any_zero}
use Rattle.algebra.specs.Faults.{faults}
use Rattle.algebra.specs.Writing.{refused}
use Rattle.algebra.specs.Refusal.{Of, among}
use Rattle.algebra.proofs.Numbered.{Fault, no-fault, pick-fault, first-fault, faults-fault, from-fault, body-fault, needs-refused, writes-refused}
use Rattle.colour.specs.Spaces.{known, allowed}
use Rattle.aco.specs.Grammar.{two_lists}
use Rattle.aco.specs.Reading.{most}
use Rattle.aco_writing.specs.Refusals.{refusals}
use Rattle.aco.specs.Faults.{space_fault, sample_fault, fields_fault, name_fault, swatches_fault}
use Rattle.aco.specs.Row.{RecordRow}
use Rattle.aco_writing.specs.Writing.{swatch_in, size, found_in, ink_fault, fault, needed, written}

colour-numbered : (g : RecordRow) → Fault refusals (fields_fault g.space g.samples)
unfolding fields_fault
colour-numbered g =
    first-fault (space_fault g.space) _ (pick-fault (known g.space) no-fault (among refl))
    (from-fault (sample_fault g.space) (λ k v. pick-fault (allowed g.space k v) no-fault (among refl)) 0 g.samples)

name-numbered : (text : List ℕ) (g : RecordRow) → Fault refusals (name_fault (found_in text g) (swatch_in text g).name)
name-numbered text g = first-fault (found_in text g) _ (body-fault (among refl) 2 g.units text g.first) (pick-fault (any_zero (swatch_in text g).name) (among refl) no-fault)

fault-numbered : (text : List ℕ) (gs : List RecordRow) → Fault refusals (fault text gs)
unfolding fault swatches_fault
fault-numbered text gs =
    pick-fault (leb (size gs) limit)
    (first-fault _ _
    (first-fault _ _ (pick-fault (leb (length gs) most) no-fault (among refl))
    (first-fault (faults (λ g. fields_fault g.space g.samples) gs) _ (faults-fault _ colour-numbered gs) (faults-fault _ (name-numbered text) gs)))
    (faults-fault ink_fault (λ g. pick-fault (eqb g.ink 4) no-fault (among refl)) gs))
    (among refl)

-- the length that is needed is refused by one of these numbers
pub needed-refused : (text : List ℕ) (gs : List RecordRow) {x p : ℕ} → needed text gs ≡ refused x p → Of refusals x × (p ≡ 0)
needed-refused text gs e = needs-refused (fault text gs) (size gs) (fault-numbered text gs) e

-- writing by one of them or by 11, and the lent bytes are as they were
pub written-refused : (text : List ℕ) (gs : List RecordRow) (out : List ℕ) {x p : ℕ} {out' : List ℕ} → written text gs out ≡ (refused x p, out') → Of (11 ∷ refusals) x × (p ≡ 0) × (out' ≡ out)
written-refused text gs out e = writes-refused (fault text gs) (size gs) (two_lists (map (swatch_in text) gs)) out (fault-numbered text gs) e
