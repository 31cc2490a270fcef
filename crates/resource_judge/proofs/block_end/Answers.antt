use mathlib.Core.Path.{sym, ◌∙◌}
use Rattle.algebra.proofs.Sequence.{step-no, step-on}
use Rattle.fault.proofs.Exit.{told-exit}
use Rattle.resource_judge.proofs.Judging.{head-even, block-done}
use Rattle.resource_judge.proofs.block_end.Goals as goal

pub returns-in_err-parts : goal.returns-in_err-parts
returns-in_err-parts c =
    let a = c.args in
    told-exit _ _ _ c.from_residual.ensures.1 (step-no _ _ c.in_err-parts.ensures ∙ sym (block-done a.file.now a.at))

pub parts_end-requires : goal.parts_end-requires
parts_end-requires c = head-even c.args.file.now c.args.at c.in_ok-parts.ensures c.requires

pub returns : goal.returns
returns c =
    let a = c.args in
    step-on _ _ c.in_ok-parts.ensures c.parts_end.ensures ∙ sym (block-done a.file.now a.at)
