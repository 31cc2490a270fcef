use Rattle.std.proofs.Common.{true, ◌∙◌}
use Rattle.order.specs.Order.{is_less}
use Rattle.acb_order.specs.scaffold.Places.{place_order}
use Rattle.acb_find.proofs.Checking.{unpicked, both-places}
use Rattle.acb_find.proofs.follows.Goals as goal

pub returns : goal.returns
returns c =
    let a = c.args in
    both-places a.file.now a.last a.at _ _ _ _ c.compare.ensures c.cmp.ensures c.then.ensures c.is_lt.ensures ∙ unpicked a.k true (is_less (place_order a.file.now a.last a.at)) c.if-k-eq0.false
