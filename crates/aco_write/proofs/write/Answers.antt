use Rattle.algebra.proofs.Counted.{length-counted}
use Prim.Native.Nat.{◌/◌}
use native.Mathlib.Omega.{arith}
use lib.ListN.{length}
use Rattle.algebra.specs.Table.{rows}
use Rattle.aco.specs.Row.{width, taken}
use Rattle.aco_writing.specs.Writing.{swatch_in, size, fault}
use Rattle.aco_write_judge.proofs.Judging.{given_at}
use Rattle.aco_write.proofs.Puts.{write-exit, file-front}
use mathlib.Core.List.{map}
use Rattle.aco.specs.Grammar.{two_lists}
use Rattle.algebra.proofs.Writing.{writes-none, writes-all}
use Rattle.aco_write_judge.proofs.Outcomes.{needed-bytes, no-fault}
use Rattle.aco_write.proofs.write.Goals as goal

pub returns-then-out-size : goal.returns-then-out-size
returns-then-out-size c =
    let a = c.args in
    let n = length a.records.now / width in
    let gs = rows width taken a.records.now n 0 in
    writes-none (fault a.text.now gs) (size gs) (two_lists (map (swatch_in a.text.now) gs)) a.out.now _ c.in_ok-size.ensures c.if-out-size.true

pub put_lists-requires : goal.put_lists-requires
put_lists-requires c =
    let a = c.args in
    let n = length a.records.now / width in
    let gs = rows width taken a.records.now n 0 in
    let w = needed-bytes a.text.now gs _ c.in_ok-size.ensures in
    let f = no-fault a.text.now gs w.0 in
    let len = length-counted (given_at a.records.now) n 0 in
    (omega arith, omega (arith, len, f.1), record { inside = omega (arith, len, w.1, c.if-out-size.false); short = omega (arith, f.0); name = f.2 })

pub returns-in_err-size : goal.returns-in_err-size
returns-in_err-size c =
    let a = c.args in
    let n = length a.records.now / width in
    let gs = rows width taken a.records.now n 0 in
    write-exit (fault a.text.now gs) (size gs) (two_lists (map (swatch_in a.text.now) gs)) a.out.now _ _ c.from_residual.ensures.1 c.in_err-size.ensures

pub returns : goal.returns
returns c =
    let a = c.args in
    let n = length a.records.now / width in
    let gs = rows width taken a.records.now n 0 in
    let q = c.in_ok-size.ensures in
    let w = needed-bytes a.text.now gs _ q in
    writes-all (fault a.text.now gs) (size gs) (two_lists (map (swatch_in a.text.now) gs)) a.out.now _ q c.if-out-size.false _ (file-front a.records.now a.text.now n a.out.now _ (omega (arith, w.1, c.if-out-size.false)) c.put_lists.ensures)
