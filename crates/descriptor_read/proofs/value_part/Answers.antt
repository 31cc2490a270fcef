use Rattle.descriptor_read.proofs.Values.{part_no, part-inside, part_small, part-is}
use Rattle.descriptor_read.specs.scaffold.Values.{told_extent}
use lib.ListN.{take, drop}
use native.Mathlib.Omega.{arith}
use mathlib.Core.Path.{◌≡◌, sym, ap, ◌∙◌}
use Prim.Native.Nat.{◌+◌, ◌-◌}
use Rattle.descriptor_read.proofs.value_part.Goals as goal

pub overflow_add-end : goal.overflow_add-end
overflow_add-end c =
    let a = c.args in
    let w = part_small a.file.now a.row _ _ _ (sym (ap told_extent c.in-Ok.is) ∙ c.extent_at.ensures) in
    omega arith

pub slice_bounds-result-end-in-Ok : goal.slice_bounds-result-end-in-Ok
slice_bounds-result-end-in-Ok c =
    let a = c.args in
    part-inside a.file.now a.row _ _ _ (sym (ap told_extent c.in-Ok.is) ∙ c.extent_at.ensures)

pub returns-in-Err : goal.returns-in-Err
returns-in-Err c =
    let a = c.args in
    sym (part_no a.file.now a.row _ _ (sym (ap told_extent c.in-Err.is) ∙ c.extent_at.ensures))

pub returns-in-Ok : goal.returns-in-Ok
returns-in-Ok c =
    let a = c.args in
    let s = a.file.now in
    let v = c.in-Ok.extent.first in
    let n = c.in-Ok.extent.length in
    let e : v + n - v ≡ n = omega arith in
    ap (λ k. take k (drop v s)) e ∙ part-is s a.row _ _ _ (sym (ap told_extent c.in-Ok.is) ∙ c.extent_at.ensures)
