use mathlib.Core.Path.{refl}
use Rattle.fault.proofs.Exit.{written-exit}
use Rattle.acb_write_judge.proofs.Judging.{some}
use Rattle.acb_write_judge.proofs.Outcomes.{inks-refused, bad-ink, all-inked}
use Rattle.acb_write_judge.proofs.write_length.Goals as goal

pub returns-in_err-size : goal.returns-in_err-size
returns-in_err-size c =
    written-exit _ _ c.from_residual.ensures.1 (inks-refused _ _ _ _ _ c.in_err-size.ensures)

pub returns-in_err-judge_stated : goal.returns-in_err-judge_stated
returns-in_err-judge_stated c =
    let e = c.in_err-judge_stated in
    written-exit _ _ c.from_residual-in_err-judge_stated.ensures.1 (bad-ink _ _ _ _ _ e.ensures c.in_ok-size.ensures (some e.field-0.0))

pub returns : goal.returns
returns c = all-inked _ _ _ _ 0 c.in_ok-judge_stated.ensures c.in_ok-size.ensures refl
