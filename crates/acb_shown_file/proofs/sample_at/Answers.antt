use borrow.Author.Tests.{eq-eqb, ne_eqb}
use Prim.Native.Nat.{ℕ, ◌+◌, ◌-◌}
use mathlib.Core.Path.{refl, sym, ap, ◌∙◌}
use mathlib.Core.List.{◌∷◌, map}
use Rattle.acb_shown_values.proofs.Sampling.{sample-start, sample-dummy, sample-found, sample-on, sample-end}
use Rattle.acb_shown_file.specs.View.{unnamed}
use Rattle.acb_read.specs.Walked.{step, given_in, walked}
use Rattle.acb_read.proofs.Walking.{walked-turn, walked_end}
use Rattle.acb_shown_file.proofs.sample_at.Goals.{then-units-ne0+else-left-eq0, else-units-ne0}
use Rattle.acb_shown_file.proofs.sample_at.Goals as goal

pub loop-k-init : goal.loop-k-init
loop-k-init c = let a = c.args in sample-start a.i a.offset _ _ refl

pub returns-then-left-eq0 : goal.returns-then-left-eq0
returns-then-left-eq0 c =
    let a = c.args in
    let l = c.loop-k in
    let h = c.loop-k-test.true in
    let u = c.units_at-units.ensures.units in
    sym (sample-found _ _ _ l.k l.invariant (ap (map unnamed) (walked-turn a.space a.file.now l.p a.end l.k h)) (ne_eqb _ _ (λ z. c.if-units-ne0.true (u ∙ z))) c.if-left-eq0.true)

pub loop-k-preserved : goal.loop-k-preserved
loop-k-preserved c =
    let a = c.args in
    let l = c.loop-k in
    let h = c.loop-k-test.true in
    let u = c.units_at-units.ensures.units in
    let n = c.units_at-units.ensures.next in
    let e = ap (map unnamed) (walked-turn a.space a.file.now l.p a.end l.k h ∙ ap (λ (q : ℕ). given_in (step a.space a.file.now l.p).0 ∷ walked a.space a.file.now q (a.end - (l.k + 1))) (sym n)) in
    elim c.if-units-ne0.branch [
      | then-units-ne0+else-left-eq0 v ↦ rw (v.found-is, v.left-is) (sample-on _ _ _ l.k l.invariant e (ne_eqb _ _ (λ z. v.if-units-ne0.true (u ∙ z))) v.if-left-eq0.false)
      | else-units-ne0 v ↦ rw (v.found-is, v.left-is) (sample-dummy _ _ _ l.k l.invariant e (eq-eqb _ _ (sym u ∙ v.if-units-ne0.false)))
    ]

pub returns : goal.returns
returns c =
    let l = c.loop-k in
    let a = c.args in
    sym (sample-end _ _ _ l.k l.invariant (ap (map unnamed) (walked_end a.space a.file.now l.p a.end l.k c.loop-k-test.false)))
