use mathlib.Core.Path.{sym}
use lib.Seq.{length-take-le}
use Rattle.aco_stream.specs.Answer.{told_fed}
use Rattle.aco_stream.proofs.Calls.{feeds-front, least-of}
use Rattle.aco_stream.proofs.feed.Goals as goal

pub slice_bounds-feed_in-end-2 : goal.slice_bounds-feed_in-end-2
slice_bounds-feed_in-end-2 c = let m = least-of _ _ _ c.min-n.ensures in sym (length-take-le c.min-n.result c.args.store.now m.1)

pub returns : goal.returns
returns c =
    let a = c.args in
    let f = c.feed_in in
    let m = least-of _ _ _ c.min-n.ensures in
    feeds-front a.state a.store.now a.bytes.now f.result.state (told_fed f.result.answer) c.min-n.result f.new.store m.2 m.3 f.auto.store f.ensures
