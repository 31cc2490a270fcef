use mathlib.Core.Path.{sym, subst}
use Rattle.std.specs.Prelude.{ℕ}
use Rattle.aco_stream.specs.Answer.{Feeds}
use Rattle.khuyurek.proofs.Streams.{fed-taken, fed-refused}
use Rattle.khuyurek.proofs.stream.khuyurek_aco_stream_feed.Goals as goal

pub returns-then-number-eq0 : goal.returns-then-number-eq0
returns-then-number-eq0 c =
    let s = c.stream_of in
    let f = c.feed-fed in
    let a = c.args in
    let n = c.fed_number-number.result in
    let h = subst (λ (n : ℕ). Feeds s.result a.store.now a.chunk.now f.result.state n f.new.store) (sym c.fed_number-number.ensures) f.ensures in
    fed-taken a.stream s.result f.result.state n a.store.now a.chunk.now f.new.store c.numbers_of.result s.ensures c.numbers_of.ensures c.if-number-eq0.true h

pub returns : goal.returns
returns c =
    let s = c.stream_of in
    let f = c.feed-fed in
    let a = c.args in
    let n = c.fed_number-number.result in
    let h = subst (λ (n : ℕ). Feeds s.result a.store.now a.chunk.now f.result.state n f.new.store) (sym c.fed_number-number.ensures) f.ensures in
    fed-refused a.stream s.result f.result.state n a.store.now a.chunk.now f.new.store s.ensures c.if-number-eq0.false h
