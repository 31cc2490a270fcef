use mathlib.Core.Path.{refl, sym, ap, ◌∙◌}
use mathlib.Core.Bool.{Bool}
use borrow.Author.Tests.{eq-eqb, ne_eqb}
use native.Mathlib.Omega.{arith}
use Rattle.algebra.specs.Reader.{pick}
use Rattle.algebra.proofs.Counted.{faults-start, faults-found, faults-more, faults-end}
use Rattle.acb.specs.Row.{RecordRow}
use Rattle.acb_writing.specs.Writing.{unless_ink}
use Rattle.acb_write_judge.specs.scaffold.Parts.{given_at}
use Rattle.acb_write_judge.proofs.judge_inks.Goals as goal

pub loop-i-init : goal.loop-i-init
loop-i-init c = let a = c.args in (omega arith, faults-start (unless_ink a.ink) (given_at a.run.now) a.n)

pub returns-then-whole_at-ink : goal.returns-then-whole_at-ink
returns-then-whole_at-ink c =
    let l = c.loop-i in
    let a = c.args in
    let u = ap (λ (g : RecordRow). g.ink) c.whole_at.ensures in
    let e = ap (λ (b : Bool). pick b 0 14) (ne_eqb (given_at a.run.now l.i).ink a.ink (λ z. c.if-whole_at-ink.true (u ∙ z))) in
    faults-found (unless_ink a.ink) (given_at a.run.now) _ a.n l.i l.invariant.1 c.loop-i-test.true 14 (sym e) (λ z. omega arith)

pub loop-i-preserved : goal.loop-i-preserved
loop-i-preserved c =
    let l = c.loop-i in
    let a = c.args in
    let u = ap (λ (g : RecordRow). g.ink) c.whole_at.ensures in
    let e = ap (λ (b : Bool). pick b 0 14) (eq-eqb (given_at a.run.now l.i).ink a.ink (sym u ∙ c.if-whole_at-ink.false)) in
    (omega arith, faults-more (unless_ink a.ink) (given_at a.run.now) _ a.n l.i l.invariant.1 c.loop-i-test.true 0 (sym e) refl)

pub returns : goal.returns
returns c =
    let l = c.loop-i in
    let a = c.args in
    faults-end (unless_ink a.ink) (given_at a.run.now) _ a.n l.i l.invariant.1 c.loop-i-test.false
