use Rattle.aco_stream.proofs.Calls.{admitted, feeds-not, feeds-0, some-number}
use Rattle.aco_stream.proofs.feed_in.Goals as goal

pub returns-in-Err : goal.returns-in-Err
returns-in-Err c = let a = c.args in feeds-not a.state a.store.now a.bytes.now _ c.in-Err.ensures (some-number _)

pub feed_usable-requires : goal.feed_usable-requires
feed_usable-requires c = (admitted c.args.state c.args.store.now c.in-Ok.ensures).0

pub returns-in-Ok : goal.returns-in-Ok
returns-in-Ok c =
    let a = c.args in
    let f = c.feed_usable in
    feeds-0 a.state a.store.now a.bytes.now c.in-Ok.ensures f.result f.new.store f.ensures.0 f.ensures.1 f.ensures.2
