use Prim.Native.Nat.{◌/◌}
use lib.ListN.{length}
use mathlib.Core.List.{map}
use native.Mathlib.Omega.{arith}
use Rattle.algebra.specs.Table.{rows}
use Rattle.algebra.proofs.Writing.{writes-no, writes-none, writes-all}
use Rattle.ase.specs.Grammar.{file_bytes}
use Rattle.ase.specs.Row.{width, taken}
use Rattle.ase_writing.specs.Writing.{fault, size, block_by_row}
use Rattle.ase_write_judge.proofs.Outcomes.{needed-bytes, no-fault}
use Rattle.ase_write.proofs.Puts.{file-front, writes-exit}
use Rattle.ase_write.proofs.write.Goals as goal

pub returns-in_err-size : goal.returns-in_err-size
returns-in_err-size c =
    let a = c.args in
    let names = a.text.now in
    let gs = rows width taken a.records.now (length a.records.now / width) 0 in
    writes-exit _ _ _ c.from_residual.ensures.1 (writes-no (fault names gs) (size gs) (file_bytes (map (block_by_row names) gs)) a.out.now _ c.in_err-size.ensures)

pub returns-then-out-size : goal.returns-then-out-size
returns-then-out-size c =
    let a = c.args in
    let names = a.text.now in
    let gs = rows width taken a.records.now (length a.records.now / width) 0 in
    writes-none (fault names gs) (size gs) (file_bytes (map (block_by_row names) gs)) a.out.now _ c.in_ok-size.ensures c.if-out-size.true

pub put_file-requires : goal.put_file-requires
put_file-requires c =
    let a = c.args in
    let names = a.text.now in
    let gs = rows width taken a.records.now (length a.records.now / width) 0 in
    let w = needed-bytes names gs _ c.in_ok-size.ensures in
    let f = no-fault names gs w.0 in
    (omega arith, record { inside = omega (arith, w.1, c.if-out-size.false); short = omega (arith, f.0); sound = f.1 })

pub returns : goal.returns
returns c =
    let a = c.args in
    let names = a.text.now in
    let n = length a.records.now / width in
    let gs = rows width taken a.records.now n 0 in
    let w = needed-bytes names gs _ c.in_ok-size.ensures in
    let room = c.if-out-size.false in
    writes-all (fault names gs) (size gs) (file_bytes (map (block_by_row names) gs)) a.out.now _ c.in_ok-size.ensures room _
    (file-front a.records.now names n (no-fault names gs w.0).1 a.out.now _ (omega (arith, w.1, room)) c.put_file.ensures)
