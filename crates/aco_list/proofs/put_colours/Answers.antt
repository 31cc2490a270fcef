use borrow.Author.Rules.{rules}
use native.Mathlib.Omega.{arith}
use mathlib.Core.Path.{refl, sym, ap, ◌∙◌}
use Rattle.std.specs.Prelude.{Ok, Option}
use Rattle.aco_read.specs.declared.SwatchRecord.{SwatchRecord}
use Rattle.aco_walk.specs.Walking.{walk}
use Rattle.aco_list.proofs.Listed.{told_is, line-over, line_refused, line-turn, line-put, lines_start, lines_end}
use Rattle.aco_list.proofs.put_colours.Goals as goal

pub loop-i-init : goal.loop-i-init
loop-i-init c =
    let a = c.args in
    (omega arith, refl, lines_start (walk a.file.now) (a.out.now, a.n) a.colours c.first_at-p.ensures)

pub returns-in_default-given : goal.returns-in_default-given
returns-in_default-given c =
    let a = c.args in
    let l = c.loop-i in
    sym (line-over (walk a.file.now) _ (l.out, l.at) a.colours l.i l.p l.invariant.2 c.loop-i-test.true
    (told_is c.step_at-step.result (walk a.file.now l.p) c.step_at-step.ensures (c.in-Ok.is ∙ ap (λ (o : Option SwatchRecord). Ok o) c.in_default-given.is)))

pub returns-in_default : goal.returns-in_default
returns-in_default c =
    let a = c.args in
    let l = c.loop-i in
    sym (line_refused (walk a.file.now) _ (l.out, l.at) a.colours l.i l.p l.invariant.2 c.loop-i-test.true (told_is c.step_at-step.result (walk a.file.now l.p) c.step_at-step.ensures c.in_default.is))

pub loop-i-preserved : goal.loop-i-preserved
loop-i-preserved c =
    let a = c.args in
    let l = c.loop-i in
    let f = c.in-Ok.is ∙ ap (λ (o : Option SwatchRecord). Ok o) c.in-Some.is in
    let x = line-put a.file.now (λ k. omega (arith, c.type_inv.file k)) (l.out, l.at) l.i l.p c.step_at-step.result c.step_at-step.ensures f c.name_part-name.ensures c.put_colour-at.ensures in
    (omega arith, search rules, line-turn (walk a.file.now) _ (l.out, l.at) a.colours l.i l.p l.invariant.2 c.loop-i-test.true x.1 x.2)

pub returns : goal.returns
returns c =
    let a = c.args in
    let l = c.loop-i in
    sym (lines_end (walk a.file.now) _ (l.out, l.at) a.colours l.i l.p l.invariant.2 c.loop-i-test.false)
