use mathlib.Core.Path.{refl, sym, ap, ◌∙◌}
use native.Mathlib.Omega.{arith}
use Rattle.algebra.specs.Reader.{done, judged}
use Rattle.aco.specs.Reading.{samples, sample}
use Rattle.algebra.proofs.Laws.{turn-ok, turn-no, turn_end, judged-short, judged-bad, judged-ok}
use Rattle.fault.proofs.Exit.{field-exit, short}
use Rattle.aco_judge.proofs.samples_at.Goals as goal

pub loop-k-init : goal.loop-k-init
unfolding samples
loop-k-init c = (omega arith, refl)

pub returns-in_err-v : goal.returns-in_err-v
unfolding samples
returns-in_err-v c =
    let l = c.loop-k in
    let a = c.args in
    let s = a.file.now in
    field-exit 2 s l.p _ _ _ c.from_residual.ensures.1 c.in_err-v.ensures
    (sym (turn-no (λ j. judged 2 (sample a.space j)) s _ 4 l.k l.p l.invariant.1 c.loop-k-test.true (ap done (judged-short 2 _ _ (sample a.space l.k) (short 2 s l.p c.in_err-v.ensures)))))

pub returns-then-not-is_allowed : goal.returns-then-not-is_allowed
unfolding samples
returns-then-not-is_allowed c =
    let l = c.loop-k in
    let a = c.args in
    sym (turn-no (λ j. judged 2 (sample a.space j)) a.file.now _ 4 l.k l.p l.invariant.1 c.loop-k-test.true
    (ap done (judged-bad 2 _ _ (sample a.space l.k) 5 0 0 c.in_ok-v.ensures (rw (sym c.is_allowed.ensures ∙ c.if-not-is_allowed.true)))))

pub loop-k-preserved : goal.loop-k-preserved
unfolding samples
loop-k-preserved c =
    let l = c.loop-k in
    let a = c.args in (
      omega arith,
      turn-ok (λ j. judged 2 (sample a.space j)) a.file.now _ 4 l.k l.p l.invariant.1 c.loop-k-test.true _
          (ap done (judged-ok 2 _ _ (sample a.space l.k) c.in_ok-v.ensures (rw (sym c.is_allowed.ensures ∙ c.if-not-is_allowed.false)))),
    )

pub returns : goal.returns
unfolding samples
returns c =
    let l = c.loop-k in
    let a = c.args in
    sym (turn_end (λ j. judged 2 (sample a.space j)) a.file.now _ 4 l.k l.p l.invariant.1 c.loop-k-test.false)
