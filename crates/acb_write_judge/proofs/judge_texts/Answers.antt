use mathlib.Core.Path.{refl}
use Rattle.acb_write_judge.proofs.Judging.{fault-here, found-next, found-last}
use Rattle.acb_writing.specs.Writing.{text_fault}
use Rattle.acb_write_judge.proofs.judge_texts.Goals as goal

pub returns-in_err-judge_text : goal.returns-in_err-judge_text
returns-in_err-judge_text c =
    fault-here (text_fault c.args.text.now) _ _ _ _ c.from_residual.ensures.1 c.in_err-judge_text.ensures

pub returns-in_err-judge_text-2 : goal.returns-in_err-judge_text-2
returns-in_err-judge_text-2 c =
    let f = text_fault c.args.text.now in
    found-next f _ _ 0 _ c.in_ok-judge_text.ensures refl (fault-here f _ _ _ _ c.from_residual-in_err-judge_text-2.ensures.1 c.in_err-judge_text-2.ensures)

pub returns-in_err-judge_text-3 : goal.returns-in_err-judge_text-3
returns-in_err-judge_text-3 c =
    let f = text_fault c.args.text.now in
    found-next f _ _ 0 _ c.in_ok-judge_text.ensures refl
    (found-next f _ _ 0 _ c.in_ok-judge_text-2.ensures refl (fault-here f _ _ _ _ c.from_residual-in_err-judge_text-3.ensures.1 c.in_err-judge_text-3.ensures))

pub returns : goal.returns
returns c =
    let f = text_fault c.args.text.now in
    found-next f _ _ 0 _ c.in_ok-judge_text.ensures refl
    (found-next f _ _ 0 _ c.in_ok-judge_text-2.ensures refl (found-next f _ _ 0 _ c.in_ok-judge_text-3.ensures refl (found-last f _ _ c.judge_text-4.ensures)))
