use borrow.Author.Tests.{eq-eqb, ne_eqb}
use mathlib.Core.Path.{refl, sym, ap, ◌∙◌}
use mathlib.Core.List.{map}
use Rattle.acb_shown_values.proofs.Sampling.{sample-start, sample-dummy, sample-found, sample-on, sample-end}
use Rattle.acb_shown_file.specs.View.{unnamed}
use Rattle.algebra.proofs.Counted.{counted-turn, counted-end}
use Rattle.acb.specs.Row.{RecordRow}
use Rattle.acb_write_judge.specs.scaffold.Parts.{given_at}
use Rattle.acb_write_judge.proofs.Judging.{record-whole}
use Rattle.acb_shown_file.proofs.sample_in.Goals.{then-given-ne0+else-left-eq0, else-given-ne0}
use Rattle.acb_shown_file.proofs.sample_in.Goals as goal

pub loop-i-init : goal.loop-i-init
loop-i-init c = let a = c.args in sample-start a.first a.offset _ _ refl

pub returns-then-left-eq0 : goal.returns-then-left-eq0
returns-then-left-eq0 c =
    let t = c.args.table.now in
    let l = c.loop-i in
    let h = c.loop-i-test.true in
    let u = ap (λ (g : RecordRow). g.name.1) (c.record_at-given.ensures ∙ record-whole t c.args.end l.i c.requires h) in
    sym (sample-found _ _ _ l.i l.invariant (ap (map unnamed) (counted-turn (given_at t) c.args.end l.i h)) (ne_eqb _ _ (λ z. c.if-given-ne0.true (u ∙ z))) c.if-left-eq0.true)

pub loop-i-preserved : goal.loop-i-preserved
loop-i-preserved c =
    let t = c.args.table.now in
    let l = c.loop-i in
    let h = c.loop-i-test.true in
    let u = ap (λ (g : RecordRow). g.name.1) (c.record_at-given.ensures ∙ record-whole t c.args.end l.i c.requires h) in
    let e = ap (map unnamed) (counted-turn (given_at t) c.args.end l.i h) in
    elim c.if-given-ne0.branch [
      | then-given-ne0+else-left-eq0 v ↦ rw (v.found-is, v.left-is) (sample-on _ _ _ l.i l.invariant e (ne_eqb _ _ (λ z. v.if-given-ne0.true (u ∙ z))) v.if-left-eq0.false)
      | else-given-ne0 v ↦ rw (v.found-is, v.left-is) (sample-dummy _ _ _ l.i l.invariant e (eq-eqb _ _ (sym u ∙ v.if-given-ne0.false)))
    ]

pub returns : goal.returns
returns c =
    let l = c.loop-i in
    let a = c.args in
    sym (sample-end _ _ _ l.i l.invariant (ap (map unnamed) (counted-end (given_at a.table.now) a.end l.i c.loop-i-test.false)))
