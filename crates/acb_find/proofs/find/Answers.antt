use Rattle.std.proofs.Common.{arith}
use Rattle.algebra.specs.Numbers.{Bytes}
use Rattle.acb_order.proofs.Files.{opened_of, count_most}
use Rattle.acb_find.proofs.find.Goals as goal

pub spacing-d-requires : goal.spacing-d-requires
spacing-d-requires c =
    let s = c.args.file.now in
    let bs : Bytes s = λ j. omega (arith, c.type_inv.file j) in
    count_most s bs _ _ _ (opened_of s c.in_ok-judged.ensures)
