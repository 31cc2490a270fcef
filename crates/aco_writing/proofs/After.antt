-- When an ink is refused: after every other fault, before the room. Assumes nothing.
-- Few imports, and first by its name: another order is refused here, and by nothing before it.
use Prim.Native.Nat.{ℕ, ◌≤◌}
use mathlib.Core.Path.{◌≡◌, sym}
use mathlib.Core.List.{List}
use borrow.Author.Tests.{le-leb, ne_eqb}
use Rattle.algebra.specs.Reader.{limit}
use Rattle.algebra.specs.Writing.{refused}
use Rattle.algebra.proofs.Firsts.{hit}
use Rattle.aco.specs.Faults.{swatches_fault}
use Rattle.aco.specs.Row.{RecordRow}
use Rattle.aco_writing.specs.Writing.{swatch_in, size, found_in, ink_fault, fault, written}

-- any ink but not stated, whose number is 4
pub ink-stated-refused : (g : RecordRow) → (g.ink ≡ 4 → ⊥) → ink_fault g ≡ 14
ink-stated-refused g a = rw (ne_eqb g.ink 4 a)

-- a fault of any colour or name, or of their number, is given first
pub ink-after-faults : (names : List ℕ) (gs : List RecordRow) → size gs ≤ limit → (x : ℕ) → x ≡ swatches_fault (found_in names) (swatch_in names) gs → (x ≡ 0 → ⊥) → fault names gs ≡ x
unfolding fault
ink-after-faults names gs fits x e some = rw (le-leb (size gs) limit fits) (sym (hit x _ _ e some))

-- whatever room is lent
pub ink-before-room : (names : List ℕ) (gs : List RecordRow) (out : List ℕ) → fault names gs ≡ 14 → written names gs out ≡ (refused 14 0, out)
ink-before-room names gs out e = rw e
