use Rattle.std.proofs.Common.{rules, sym}
use Rattle.std.proofs.lemmas.List.Sorted.{IsPartitionPoint-from_clause}
use lib.Seq.{length-take-le}
use Rattle.acb_order.specs.scaffold.Places.{names_in}
use Rattle.acb_order.proofs.Index.{begins-right}
use Rattle.acb_order.proofs.Files.{names-count}
use Rattle.acb_find.specs.scaffold.Marks.{is_after}
use Rattle.acb_find.proofs.Bracket.{partitioned, bracket-point}
use Rattle.acb_find.proofs.Guide.lower_bound.Goals as goal

pub slice_bounds-partition_point-end : goal.slice_bounds-partition_point-end
slice_bounds-partition_point-end c =
    let r = begins-right (names_in c.args.self.now.book.file.now) c.args.index.now c.args.shown c.requires.1 c.requires.2 in
    sym (length-take-le c.args.shown c.args.index.now r.room)

pub returns : goal.returns
returns c =
    let a = c.args in
    let b = a.self.now.book in
    let s = b.file.now in
    let ns = names_in s in
    let j = c.requires.0.judged in
    let all = names-count s j.bytes b.count b.first b.components j.opened in
    let e = c.partition_point.ensures in
    bracket-point ns a.index.now a.shown c.requires.1 c.requires.2 a.name.now b.count all c.partition_point.result e.bound
    (IsPartitionPoint-from_clause (is_after ns b.count a.name.now) _ _ e.partitioned (partitioned ns a.index.now a.shown c.requires.1 c.requires.2 a.name.now b.count all) (λ x r f' k. search rules))
