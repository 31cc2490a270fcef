use Rattle.std.proofs.Common.{◌++◌, drop, subst, arith}
use Rattle.std.specs.List.Sorted.{IsPermutation}
use Rattle.std.proofs.lemmas.List.{take-append-drop}
use Rattle.std.proofs.lemmas.List.Sorted.{IsPermutation-trans, IsPermutation-refl, IsPermutation-append_left}
use Rattle.acb_sort.proofs.Sorting.{keys-total}
use Rattle.acb_sort.proofs.Inserting.{up-ordered, down-ordered}
use Rattle.acb_sort.proofs.sort_short.Goals.{then-down, else-down}
use Rattle.acb_sort.proofs.sort_short.Goals as goal

pub loop-i-init : goal.loop-i-init
loop-i-init c =
    let xs = c.args.run.now in
    let o = keys-total c.args.file.now in
    let n = c.stretch-down.result.1 in
    let e = c.stretch-down.ensures in
    elim c.if-down.branch [
      | then-down t ↦ let r = t.reverse.ensures in rw t.run-is (
        subst (λ l. IsPermutation l (t.reverse.new.self ++ drop n xs)) (take-append-drop n xs) (IsPermutation-append_left (drop n xs) _ _ r.permutation),
        down-ordered o xs _ n e _ r.len r.by_index t.if-down.true,
      )
      | else-down t ↦ rw t.run-is (IsPermutation-refl xs, up-ordered o xs _ n e t.if-down.false)
    ]

pub insert-requires : goal.insert-requires
insert-requires c = (omega (arith, c.loop-i-test.true, c.loop-i.auto.run), c.loop-i.invariant.1)

pub loop-i-preserved : goal.loop-i-preserved
loop-i-preserved c = (IsPermutation-trans _ _ _ c.loop-i.invariant.0 c.insert.ensures.0, c.insert.ensures.1)

pub returns : goal.returns
returns c = (c.loop-i.invariant.0, λ i j a b. c.loop-i.invariant.1 i j a (omega (arith, c.loop-i-test.false, c.if-down.auto.run)))
