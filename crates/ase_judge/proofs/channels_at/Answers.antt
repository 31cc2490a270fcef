use mathlib.Core.Path.{sym, ap, ◌∙◌}
use native.Mathlib.Omega.{arith}
use Rattle.algebra.specs.Reader.{done, judged}
use Rattle.algebra.proofs.Laws.{turn-start, turn-ok, turn-no, turn_end, judged-short, judged-bad, judged-ok}
use Rattle.fault.proofs.Exit.{field-exit, short}
use Rattle.ase_judge.specs.scaffold.Parts.{channel_in}
use Rattle.ase_judge.proofs.channels_at.Goals as goal

pub loop-i-init : goal.loop-i-init
loop-i-init c = (omega arith, turn-start (λ j. judged 4 (channel_in c.args.wide)) c.args.file.now c.args.n c.args.at)

pub returns-in_err-bits : goal.returns-in_err-bits
returns-in_err-bits c =
    let l = c.loop-i in
    let a = c.args in
    field-exit 4 a.file.now l.p _ _ _ c.from_residual.ensures.1 c.in_err-bits.ensures
    (sym (turn-no (λ j. judged 4 (channel_in a.wide)) a.file.now _ a.n l._i l.p l.invariant.1 c.loop-i-test.true
    (ap done (judged-short 4 _ _ (channel_in a.wide) (short 4 a.file.now l.p c.in_err-bits.ensures)))))

pub returns-then-not-is_channel : goal.returns-then-not-is_channel
returns-then-not-is_channel c =
    let l = c.loop-i in
    let a = c.args in
    sym (turn-no (λ j. judged 4 (channel_in a.wide)) a.file.now _ a.n l._i l.p l.invariant.1 c.loop-i-test.true
    (ap done (judged-bad 4 _ _ (channel_in a.wide) 5 0 0 c.in_ok-bits.ensures (rw (sym c.is_channel.ensures ∙ c.if-not-is_channel.true)))))

pub loop-i-preserved : goal.loop-i-preserved
loop-i-preserved c =
    let l = c.loop-i in
    let a = c.args in (
      omega arith,
      turn-ok (λ j. judged 4 (channel_in a.wide)) a.file.now _ a.n l._i l.p l.invariant.1 c.loop-i-test.true _
          (ap done (judged-ok 4 _ _ (channel_in a.wide) c.in_ok-bits.ensures (rw (sym c.is_channel.ensures ∙ c.if-not-is_channel.false)))),
    )

pub returns : goal.returns
returns c =
    let l = c.loop-i in
    let a = c.args in
    sym (turn_end (λ j. judged 4 (channel_in a.wide)) a.file.now _ a.n l._i l.p l.invariant.1 c.loop-i-test.false)
