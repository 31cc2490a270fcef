use mathlib.Core.Path.{sym, ap, ◌∙◌}
use native.Mathlib.Omega.{arith}
use Rattle.algebra.specs.Reader.{map_res}
use Rattle.ase_judge.specs.Answer.{passed}
use Rattle.ase_judge.proofs.Judging.{content-start, content-stop, content-colour}
use Rattle.ase_judge.proofs.content_at.Goals as goal

pub returns-in-49153 : goal.returns-in-49153
returns-in-49153 c =
    let a = c.args in
    c.group_start_at.ensures ∙ sym (ap (map_res (passed a.depth)) (content-start a.depth a.file.now a.at a.kind _ a.end c.in-49153.is (omega arith)))

pub returns-in-49154 : goal.returns-in-49154
returns-in-49154 c =
    let a = c.args in
    c.group_end_at.ensures ∙ sym (ap (map_res (passed a.depth)) (content-stop a.depth a.file.now a.at a.kind _ a.end c.in-49154.is (omega arith)))

pub returns-in_default : goal.returns-in_default
returns-in_default c =
    let a = c.args in
    c.colour_at.ensures ∙ sym (ap (map_res (passed a.depth)) (content-colour a.depth a.file.now a.at a.kind _ a.end (λ e. omega arith) (λ e. omega arith) (omega arith)))
