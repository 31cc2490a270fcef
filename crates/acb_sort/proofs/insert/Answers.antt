use Rattle.std.proofs.Common.{rules, ◌≤◌, get_or, length, arith}
use Rattle.std.proofs.lemmas.List.Sorted.{IsPartitionPoint-from_clause, IsPermutation-put_mid, IsPermutation-trans}
use lib.Seq.{length-take-le}
use Rattle.order.specs.Order.{is_less}
use Rattle.acb_sort.specs.Keys.{key_order}
use Rattle.acb_sort.proofs.Sorting.{keys-total}
use Rattle.acb_sort.proofs.Inserting.{inserted, partitioned, point-up, point-rest, turned-low, turned-at, turned-high}
use Rattle.acb_sort.proofs.insert.Goals as goal

pub returns : goal.returns
returns c =
    let a = c.args in
    let s = a.file.now in
    let xs = a.run.now in
    let i = a.i in
    let x = get_or xs i 0 in
    let t = keys-total s in
    let k = c.partition_point-k.result in
    let e = c.partition_point-k.ensures in
    let r = c.reverse.ensures in
    let q = c.reverse-2.ensures in
    let o = c.requires.1 in
    let h = e.bound in
    let b = c.requires.0 in
    let v : i ≤ length xs = omega (arith, b) in
    let w = length-take-le i xs v in
    let z : k ≤ i = omega (arith, w, h) in
    let p = IsPartitionPoint-from_clause (λ y. is_less (key_order s y x)) _ _ e.partitioned (partitioned t xs i x v o) (λ y r f' k. search rules) in (
      IsPermutation-trans _ _ _ (IsPermutation-put_mid _ _ xs _ r.permutation) (IsPermutation-put_mid _ _ _ _ q.permutation),
      inserted t xs _ i k x o z
          (turned-low xs _ _ k i z b r.len r.by_index q.len q.by_index)
          (turned-at xs _ _ k i z b r.len r.by_index q.len q.by_index)
          (turned-high xs _ _ k i z b r.len r.by_index q.len q.by_index)
          (point-up t xs i x v o k h p) (point-rest t xs i x v o k h p),
    )
