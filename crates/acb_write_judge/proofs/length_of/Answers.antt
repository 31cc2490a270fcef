use mathlib.Core.Path.{refl, sym, ap, ◌∙◌}
use native.Mathlib.Omega.{arith}
use Rattle.algebra.proofs.Counted.{length-counted}
use Rattle.algebra.proofs.Writing.{size_is, size-passes, size-over}
use Rattle.acb.proofs.Laws.{components-some}
use Rattle.acb.specs.Faults.{ending_fault}
use Rattle.fault.proofs.Exit.{written-exit}
use Rattle.acb_write_judge.specs.scaffold.Parts.{given_at}
use Rattle.acb_write_judge.specs.Answer.{told_ending}
use Rattle.acb_write_judge.proofs.Judging.{some}
use Rattle.acb_write_judge.proofs.Outcomes.{too_long, bad-head, bad_colour, bad-ending, all-fine}
use Rattle.acb_write_judge.proofs.length_of.Goals as goal

pub returns-in_err-size : goal.returns-in_err-size
returns-in_err-size c =
    let e = c.in_err-size.ensures in
    let k = size-passes _ _ e in
    written-exit _ _ c.from_residual.ensures.1 (e ∙ sym (size-over _ k) ∙ too_long _ _ _ _ k)

pub returns-in_err-judge_head : goal.returns-in_err-judge_head
returns-in_err-judge_head c =
    let e = c.in_err-judge_head in
    let s = size_is _ _ c.in_ok-size.ensures in
    let counts = length-counted (given_at c.args.records.now) _ 0 in
    written-exit _ _ c.from_residual-in_err-judge_head.ensures.1 (bad-head _ _ _ _ s.0 _ counts e.ensures (some e.field-0.0))

pub judge_colours-requires : goal.judge_colours-requires
judge_colours-requires c = (omega arith, omega (arith, (components-some c.args.header.space).1, c.components_of.ensures))

pub returns-in_err-judge_colours : goal.returns-in_err-judge_colours
returns-in_err-judge_colours c =
    let e = c.in_err-judge_colours in
    let s = size_is _ _ c.in_ok-size.ensures in
    let counts = length-counted (given_at c.args.records.now) _ 0 in
    written-exit _ _ c.from_residual-in_err-judge_colours.ensures.1
    (bad_colour _ _ _ _ s.0 0 counts c.in_ok-judge_head.ensures refl _ c.components_of.ensures e.ensures (some e.field-0.0))

pub returns-in-Other : goal.returns-in-Other
returns-in-Other c =
    let s = size_is _ _ c.in_ok-size.ensures in
    let counts = length-counted (given_at c.args.records.now) _ 0 in
    bad-ending _ _ _ _ s.0 0 counts c.in_ok-judge_head.ensures refl 0 c.components_of.ensures c.in_ok-judge_colours.ensures refl (ap (λ t. ending_fault (told_ending t)) c.in-Other.is)

pub returns-in-Tagged : goal.returns-in-Tagged
returns-in-Tagged c =
    let s = size_is _ _ c.in_ok-size.ensures in
    let counts = length-counted (given_at c.args.records.now) _ 0 in
    all-fine _ _ _ _ s.0 0 counts c.in_ok-judge_head.ensures refl 0 c.components_of.ensures c.in_ok-judge_colours.ensures refl _ (ap (λ t. ending_fault (told_ending t)) c.in-Tagged.is) s.1
