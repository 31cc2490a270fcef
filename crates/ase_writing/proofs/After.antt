-- When an ink is refused: after every other fault, before the room. Assumes nothing.
-- Few imports, and first by its name: another order is refused here, and by nothing before it.
use Prim.Native.Nat.{ℕ, ◌≤◌}
use mathlib.Core.Path.{◌≡◌, sym}
use mathlib.Core.List.{List}
use borrow.Author.Tests.{le-leb, ne_eqb}
use Rattle.algebra.specs.Reader.{limit}
use Rattle.algebra.specs.Writing.{refused}
use Rattle.algebra.proofs.Firsts.{hit}
use Rattle.ase.specs.Faults.{blocks_fault}
use Rattle.ase.specs.Row.{RecordRow}
use Rattle.ase_writing.specs.Writing.{block_by_row, size, found_in, ink_fault, fault, written}

-- a group has no ink, and its place is not judged
pub group-ink-ignored : (g : RecordRow) → (g.block ≡ 0x0001 → ⊥) → ink_fault g ≡ 0
group-ink-ignored g a = rw (ne_eqb g.block 0x0001 a)

-- a fault of any block, or a group left open, is given first
pub ink-after-faults : (names : List ℕ) (gs : List RecordRow) → size gs ≤ limit → (x : ℕ) → x ≡ blocks_fault (found_in names) (block_by_row names) 0 gs → (x ≡ 0 → ⊥) → fault names gs ≡ x
unfolding fault
ink-after-faults names gs fits x e some = rw (le-leb (size gs) limit fits) (sym (hit x _ _ e some))

-- whatever room is lent
pub ink-before-room : (names : List ℕ) (gs : List RecordRow) (out : List ℕ) → fault names gs ≡ 14 → written names gs out ≡ (refused 14 0, out)
ink-before-room names gs out e = rw e
