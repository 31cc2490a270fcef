use Rattle.std.proofs.Common.{ℕ, ◌≡◌, ◌+◌, ◌∙◌, sym, ap, get_or, arith}
use Rattle.order.specs.Order.{is_less}
use Rattle.acb_sort.specs.Keys.{key_order}
use Rattle.acb_sort.proofs.Inserting.{one_more, agree}
use Rattle.acb_sort.proofs.stretch.Goals as goal

pub loop-k-init : goal.loop-k-init
loop-k-init c = λ j h. let z : j ≡ 0 = omega arith in ap (λ (v : ℕ). is_less (key_order c.args.file.now (get_or c.args.run.now (v + 1) 0) (get_or c.args.run.now v 0))) z ∙ sym c.before-down.ensures

pub loop-k-preserved : goal.loop-k-preserved
loop-k-preserved c =
    let l = c.loop-k in
    let m = l.auto.k in
    λ j h. one_more (key_order c.args.file.now) c.args.run.now _ l.k (omega arith) l.invariant (sym c.before-in-loop-k.ensures ∙ agree _ _ c.if-before-down.false) j h
