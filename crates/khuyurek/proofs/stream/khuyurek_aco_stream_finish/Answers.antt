use mathlib.Core.Path.{sym, ap, ◌∙◌, subst}
use Rattle.aco_stream.specs.declared.Stream.{Stream}
use Rattle.aco_stream.specs.Answer.{told, Finishes}
use Rattle.khuyurek.specs.declared.stream.AcoStream.{AcoStream}
use Rattle.khuyurek.proofs.Streams.{ended-before, ended-now, not-ended}
use Rattle.khuyurek.proofs.stream.khuyurek_aco_stream_finish.Goals as goal

pub returns-then-ended : goal.returns-then-ended
returns-then-ended c =
    let e = c.exported_end-answer in
    let f = c.finish-finished in
    let s = c.stream_of-before in
    let a = c.args in
    ended-before a.stream a.store.now f.result.state (told f.result.answer) e.result e.ensures (subst (λ (s : Stream). Finishes s a.store.now f.result.state (told f.result.answer)) s.ensures f.ensures) (sym (ap (λ (s : Stream). s.ended) s.ensures) ∙ c.if-ended.true)

pub returns-then-last : goal.returns-then-last
returns-then-last c =
    let e = c.exported_end-answer in
    let f = c.finish-finished in
    let s = c.stream_of-before in
    let a = c.args in
    ap (λ (y : AcoStream). record { answer = e.result; stream = y }) c.ended_numbers.ensures ∙ ended-now a.stream a.store.now f.result.state (told f.result.answer) e.result e.ensures (subst (λ (s : Stream). Finishes s a.store.now f.result.state (told f.result.answer)) s.ensures f.ensures) (sym (ap (λ (s : Stream). s.ended) s.ensures) ∙ c.if-ended.false) c.if-last.true

pub returns : goal.returns
returns c =
    let e = c.exported_end-answer in
    let f = c.finish-finished in
    let s = c.stream_of-before in
    let a = c.args in
    not-ended a.stream a.store.now f.result.state (told f.result.answer) e.result e.ensures (subst (λ (s : Stream). Finishes s a.store.now f.result.state (told f.result.answer)) s.ensures f.ensures) c.if-last.false
