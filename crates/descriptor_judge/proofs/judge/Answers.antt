use mathlib.Core.Path.{sym, ap}
use borrow.Author.Tests.{eq-eqb, ne_eqb}
use Rattle.descriptor_judge.specs.Answer.{verdict, told}
use Rattle.descriptor_judge.proofs.Whole.{too_long, of-walk, handed}
use Rattle.descriptor_judge.proofs.judge.Goals as goal

pub returns-then-file-gt-LIMIT : goal.returns-then-file-gt-LIMIT
returns-then-file-gt-LIMIT c = sym (ap verdict (too_long c.args.file.now c.if-file-gt-LIMIT.true))

pub returns-in_err-rows : goal.returns-in_err-rows
returns-in_err-rows c = handed told _ _ c.from_residual.ensures.1 (of-walk c.args.file.now _ c.if-file-gt-LIMIT.false c.in_err-rows.ensures)

pub returns-then-end-file : goal.returns-then-end-file
returns-then-end-file c = rw (ne_eqb _ _ c.if-end-file.true) at (of-walk c.args.file.now _ c.if-file-gt-LIMIT.false c.in_ok-rows.ensures)

pub returns : goal.returns
returns c = rw (eq-eqb _ _ c.if-end-file.false) at (of-walk c.args.file.now _ c.if-file-gt-LIMIT.false c.in_ok-rows.ensures)
