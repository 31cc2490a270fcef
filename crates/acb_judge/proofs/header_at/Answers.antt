use Rattle.acb.specs.Reading.{opening}
use Rattle.acb_judge.specs.scaffold.Parts.{header_from}
use mathlib.Core.Path.{ap, ◌∙◌}
use Rattle.algebra.specs.Reader.{map_res}
use Rattle.algebra.proofs.Sequence.{step-no, step-on}
use Rattle.fault.proofs.Exit.{told-exit}
use Rattle.acb_judge.specs.scaffold.Answer.{headed}
use Rattle.acb_judge.proofs.Judging.{map-then, header-from}
use Rattle.acb_judge.proofs.header_at.Goals as goal

pub returns-in_err-identifier : goal.returns-in_err-identifier
returns-in_err-identifier c =
    let s = c.args.file.now in
    told-exit _ _ _ c.from_residual.ensures.1
    (step-no (opening s 0) (λ i p. map_res headed (header_from i s p)) c.in_err-identifier.ensures ∙ map-then headed (opening s 0) (λ i p. header_from i s p) ∙ ap (map_res headed) (header-from s))

pub returns : goal.returns
returns c =
    let s = c.args.file.now in
    step-on (opening s 0) (λ i p. map_res headed (header_from i s p)) c.in_ok-identifier.ensures c.fields_at.ensures
    ∙ map-then headed (opening s 0) (λ i p. header_from i s p) ∙ ap (map_res headed) (header-from s)
