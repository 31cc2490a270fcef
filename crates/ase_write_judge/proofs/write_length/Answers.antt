use mathlib.Core.Path.{refl}
use Prim.Native.Nat.{◌+◌}
use Rattle.algebra.specs.Table.{whole}
use Rattle.algebra.proofs.Writing.{size_is}
use Rattle.fault.proofs.Exit.{written-exit}
use Rattle.ase.specs.Row.{width, taken}
use Rattle.ase_writing.specs.Writing.{sizes}
use Rattle.ase_write_judge.proofs.Judging.{some-fault}
use Rattle.ase_write_judge.proofs.Outcomes.{passes, bad_block, bad-ink, all-fine}
use Rattle.ase_write_judge.proofs.write_length.Goals as goal

pub returns-in_err-size : goal.returns-in_err-size
returns-in_err-size c =
    let a = c.args in
    written-exit _ _ c.from_residual.ensures.1 (passes a.text.now (whole width taken a.records.now) _ c.in_err-size.ensures)

pub returns-in_err-blocks_fault : goal.returns-in_err-blocks_fault
returns-in_err-blocks_fault c =
    let a = c.args in
    let gs = whole width taken a.records.now in
    let s = size_is (12 + sizes gs) _ c.in_ok-size.ensures in
    written-exit _ _ c.from_residual-in_err-blocks_fault.ensures.1 (bad_block a.text.now gs s.0 _ c.in_err-blocks_fault.ensures (some-fault _))

pub returns-in_err-inks_fault : goal.returns-in_err-inks_fault
returns-in_err-inks_fault c =
    let a = c.args in
    let gs = whole width taken a.records.now in
    let s = size_is (12 + sizes gs) _ c.in_ok-size.ensures in
    written-exit _ _ c.from_residual-in_err-inks_fault.ensures.1 (bad-ink a.text.now gs s.0 _ c.in_ok-blocks_fault.ensures refl _ c.in_err-inks_fault.ensures (some-fault _))

pub returns : goal.returns
returns c =
    let a = c.args in
    let gs = whole width taken a.records.now in
    let s = size_is (12 + sizes gs) _ c.in_ok-size.ensures in
    all-fine a.text.now gs s.0 _ c.in_ok-blocks_fault.ensures refl _ c.in_ok-inks_fault.ensures _ refl s.1
