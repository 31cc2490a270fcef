use Rattle.std.proofs.Common.{rules, ◌≡◌}
use Rattle.std.specs.Ordering.{is_lt}
use Rattle.std.proofs.lemmas.Fn.{always_returns_same}
use Rattle.order.specs.Order.{is_less}
use Rattle.acb_sort.specs.Keys.{key_order}
use Rattle.acb_sort.proofs.Sorting.{keys-rank, keys-test, sorted-is, rearranged}
use Rattle.acb_sort.proofs.sort.Goals as goal

pub returns : goal.returns
returns c =
    let s = c.args.file.now in
    let e = c.sort_unstable_by.ensures in
    sorted-is s _ _ e.permutation
    (e.sorted (λ x y. is_less (key_order s x y)) (keys-rank s)
    (always_returns_same _ (λ a r. is_lt r ≡ is_less (key_order s a.0.now a.1.0.now)) _ (λ a r f' k. keys-test s a.0.now a.1.0.now r (search rules))))

pub returns-then-run-le-SHORT : goal.returns-then-run-le-SHORT
returns-then-run-le-SHORT c =
    let e = c.sort_short.ensures in
    record { moved = rearranged _ _ e.0; ordered = e.1 }
