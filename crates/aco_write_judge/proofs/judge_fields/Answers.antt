use mathlib.Core.Path.{refl, ◌∙◌}
use native.Mathlib.Omega.{arith}
use Rattle.algebra.proofs.Firsts.{pass}
use Rattle.aco_write_judge.proofs.Judging.{first-exit, space_small, colour-faults}
use Rattle.aco_write_judge.proofs.judge_fields.Goals as goal

pub returns-in_err-judge_space : goal.returns-in_err-judge_space
returns-in_err-judge_space c =
    let g = c.args.given in
    first-exit _ _ c.from_residual.ensures.1 _ _ c.in_err-judge_space.ensures ∙ colour-faults g.space g.samples (omega arith)

pub judge_sample-requires : goal.judge_sample-requires
judge_sample-requires c = space_small _ 0 c.in_ok-judge_space.ensures refl

pub returns-in_err-judge_sample : goal.returns-in_err-judge_sample
returns-in_err-judge_sample c =
    let g = c.args.given in
    pass _ _ _ 0 c.in_ok-judge_space.ensures refl (first-exit _ _ c.from_residual-in_err-judge_sample.ensures.1 _ _ c.in_err-judge_sample.ensures) ∙ colour-faults g.space g.samples (omega arith)

pub judge_sample-requires-2 : goal.judge_sample-requires-2
judge_sample-requires-2 c = space_small _ 0 c.in_ok-judge_space.ensures refl

pub returns-in_err-judge_sample-2 : goal.returns-in_err-judge_sample-2
returns-in_err-judge_sample-2 c =
    let g = c.args.given in
    pass _ _ _ 0 c.in_ok-judge_space.ensures refl
    (pass _ _ _ 0 c.in_ok-judge_sample.ensures refl (first-exit _ _ c.from_residual-in_err-judge_sample-2.ensures.1 _ _ c.in_err-judge_sample-2.ensures))
    ∙ colour-faults g.space g.samples (omega arith)

pub judge_sample-requires-3 : goal.judge_sample-requires-3
judge_sample-requires-3 c = space_small _ 0 c.in_ok-judge_space.ensures refl

pub returns-in_err-judge_sample-3 : goal.returns-in_err-judge_sample-3
returns-in_err-judge_sample-3 c =
    let g = c.args.given in
    pass _ _ _ 0 c.in_ok-judge_space.ensures refl
    (pass _ _ _ 0 c.in_ok-judge_sample.ensures refl
    (pass _ _ _ 0 c.in_ok-judge_sample-2.ensures refl (first-exit _ _ c.from_residual-in_err-judge_sample-3.ensures.1 _ _ c.in_err-judge_sample-3.ensures)))
    ∙ colour-faults g.space g.samples (omega arith)

pub judge_sample-requires-4 : goal.judge_sample-requires-4
judge_sample-requires-4 c = space_small _ 0 c.in_ok-judge_space.ensures refl

pub returns : goal.returns
returns c =
    let g = c.args.given in
    pass _ _ _ 0 c.in_ok-judge_space.ensures refl
    (pass _ _ _ 0 c.in_ok-judge_sample.ensures refl (pass _ _ _ 0 c.in_ok-judge_sample-2.ensures refl (pass _ _ _ 0 c.in_ok-judge_sample-3.ensures refl c.judge_sample-4.ensures)))
    ∙ colour-faults g.space g.samples (omega arith)
