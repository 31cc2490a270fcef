-- In which order the faults of a book are given: the records', then another tag's, then the inks', before the room. Assumes nothing.
-- Few imports, and first by its name: another order is refused here, and by nothing before it.
use Prim.Native.Nat.{ℕ, ◌≤◌}
use mathlib.Core.Path.{◌≡◌, refl, sym}
use mathlib.Core.List.{List}
use lib.ListN.{length}
use borrow.Author.Tests.{le-leb}
use Rattle.algebra.specs.Reader.{limit}
use Rattle.algebra.specs.Faults.{faults}
use Rattle.algebra.specs.Writing.{refused}
use Rattle.algebra.proofs.Firsts.{hit, pass}
use Rattle.acb.specs.Grammar.{Ending}
use Rattle.acb.specs.Reading.{components_of}
use Rattle.acb.specs.Row.{RecordRow}
use Rattle.acb_judge.specs.Answer.{HeaderPlaces}
use Rattle.acb_writing.specs.Writing.{size, head_fault, colour_fault, other_fault, fault, written}

module _ (text : List ℕ) (h : HeaderPlaces) (t : Ending) (gs : List RecordRow) where
  -- a fault of any record is given first, whatever the tag is
  pub tag-after-records : size h t gs ≤ limit → head_fault text h (length gs) ≡ 0 → (x : ℕ) → x ≡ faults (colour_fault text (components_of h.space)) gs → (x ≡ 0 → ⊥) → other_fault text h t gs ≡ x
  unfolding other_fault
  tag-after-records fits clear x e some = rw (le-leb (size h t gs) limit fits) (sym (pass x (head_fault text h (length gs)) _ 0 (sym clear) refl (hit x _ _ e some)))

  -- a fault of header, records or tag is given first
  pub ink-after-faults : (x : ℕ) → x ≡ other_fault text h t gs → (x ≡ 0 → ⊥) → fault text h t gs ≡ x
  unfolding fault
  ink-after-faults x e some = sym (hit x _ _ e some)

  -- whatever room is lent
  pub ink-before-room : (out : List ℕ) → fault text h t gs ≡ 14 → written text h t gs out ≡ (refused 14 0, out)
  ink-before-room out e = rw e
