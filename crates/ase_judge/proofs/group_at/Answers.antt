use mathlib.Core.Path.{sym, ap, ◌∙◌}
use Rattle.algebra.specs.Reader.{done}
use Rattle.fault.proofs.Exit.{told-exit}
use Rattle.ase_judge.proofs.Judging.{group-done}
use Rattle.ase_judge.proofs.group_at.Goals as goal

pub returns-in_err-next : goal.returns-in_err-next
returns-in_err-next c = told-exit _ _ _ c.from_residual.ensures.1 (ap done c.in_err-next.ensures ∙ sym (group-done c.args.file.now c.args.at))

pub returns : goal.returns
returns c = ap done c.in_ok-next.ensures ∙ sym (group-done c.args.file.now c.args.at)
