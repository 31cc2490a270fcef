use mathlib.Core.Path.{ap, ◌∙◌}
use Rattle.algebra.specs.Reader.{ok}
use Rattle.descriptor_judge.proofs.Whole.{handed}
use Rattle.descriptor_read.specs.Typed.{told_typed}
use Rattle.descriptor_read.proofs.Typing.{typed_no, row-leafed, row-value-small, typed-is}
use Rattle.descriptor_read.proofs.typed_at.Goals as goal

pub typed_of-requires : goal.typed_of-requires
typed_of-requires c =
    let a = c.args in
    let e = c.in_ok-extent.ensures in
    (row-leafed a.file.now a.row _ _ _ e, row-value-small a.file.now a.row _ _ _ e)

pub returns-in_err-extent : goal.returns-in_err-extent
returns-in_err-extent c = handed told_typed _ _ c.from_residual.ensures.1 (typed_no c.args.file.now c.args.row _ _ c.in_err-extent.ensures)

pub returns : goal.returns
returns c = let a = c.args in ap (λ t. ok t 0) c.typed_of.ensures ∙ typed-is a.file.now a.row _ _ _ c.in_ok-extent.ensures
