use mathlib.Core.Path.{sym, subst}
use Rattle.std.specs.Prelude.{ℕ}
use Rattle.aco_stream.specs.declared.Stream.{Stream}
use Rattle.aco_stream.specs.Answer.{Starts, told_fed}
use Rattle.khuyurek.specs.Stream.{stream_of}
use Rattle.khuyurek.proofs.stream.khuyurek_aco_stream_start.Goals as goal

pub returns : goal.returns
returns c =
    subst (λ (n : ℕ). Starts c.args.store.now (stream_of c.numbers_of.result) n) (sym c.fed_number.ensures)
    (subst (λ (s : Stream). Starts c.args.store.now s (told_fed c.start-fed.result.answer)) (sym c.numbers_of.ensures) c.start-fed.ensures)
