-- What a record of a run counts in a book's length. Assumes nothing.
use Prim.Native.Nat.{◌+◌}
use mathlib.Core.Path.{◌≡◌}
use mathlib.Core.List.{List}
use borrow.Author.Tests.{ne_eqb}
use Rattle.acb.specs.Grammar.{Ending}
use Rattle.acb.specs.Row.{RecordRow}
use Rattle.acb_judge.specs.Answer.{HeaderPlaces}
use Rattle.acb_writing.specs.Writing.{sizes, size_within, ending_size, head_size, size}

-- three components in every space but CMYK, whose number is 2: in one that is unknown too
pub three-counted : (h : HeaderPlaces) (t : Ending) (gs : List RecordRow) → (h.space ≡ 2 → ⊥) → size h t gs ≡ head_size h + sizes (size_within 3) gs + ending_size t
three-counted h t gs a = rw (ne_eqb h.space 2 a)
