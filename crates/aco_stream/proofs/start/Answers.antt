use mathlib.Core.Path.{refl, ap}
use lib.ListN.{take}
use Rattle.aco_stream.specs.declared.Stream.{Stream}
use Rattle.aco_stream.specs.Answer.{progress, usable, room}
use Rattle.aco_stream.proofs.Calls.{starts-11, starts-0}
use Rattle.aco_stream.proofs.start.Goals as goal

pub returns-then-store-lt-STORE : goal.returns-then-store-lt-STORE
returns-then-store-lt-STORE c = starts-11 _ c.args.store.now c.if-store-lt-STORE.true refl

pub returns : goal.returns
returns c =
    let s = c.args.store.now in
    let e = c.opened-state.ensures in
    starts-0 c.opened-state.result s c.if-store-lt-STORE.false (ap usable e) (ap (λ (x : Stream). progress x (take room s)) e)
