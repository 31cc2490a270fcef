use mathlib.Core.Path.{sym, ap}
use native.Mathlib.Omega.{arith}
use Prim.Native.Nat.{ℕ}
use Rattle.algebra.specs.Table.{Verdict}
use Rattle.colour.specs.declared.space.Colour.{Colour}
use Rattle.aco.specs.Reading.{aco}
use Rattle.aco_read.specs.Table.{record_at}
use Rattle.aco_read.proofs.Answers.{name_in, name-part, name-rejected}
use Rattle.aco_read.proofs.name_at.Goals as goal

pub overflow_add-end : goal.overflow_add-end
overflow_add-end c =
    let a = c.args in
    let h = name_in a.file.now a.i _ _ (sym (ap (λ (w : Colour × Verdict (ℕ × ℕ) × ℕ). w.1) c.in-Ok.ensures)) in omega arith

pub slice_bounds-result-end : goal.slice_bounds-result-end
slice_bounds-result-end c =
    let a = c.args in
    let h = name_in a.file.now a.i _ _ (sym (ap (λ (w : Colour × Verdict (ℕ × ℕ) × ℕ). w.1) c.in-Ok.ensures)) in omega arith

pub returns-in-Ok : goal.returns-in-Ok
returns-in-Ok c =
    let a = c.args in
    name-part a.file.now (record_at a.i (aco a.file.now)) _ _ (sym (ap (λ (w : Colour × Verdict (ℕ × ℕ) × ℕ). w.1) c.in-Ok.ensures))

pub returns-in-Err : goal.returns-in-Err
returns-in-Err c = name-rejected c.args.file.now c.args.i _ c.in-Err.ensures
