use Prim.Native.Nat.{ℕ}
use mathlib.Core.Path.{sym, ap, ◌∙◌}
use mathlib.Core.List.{List}
use lib.ListN.{length-set}
use lib.Seq.{sets}
use native.Mathlib.Omega.{arith}
use native.Mathlib.Numerals.{unary_clauses}
use Rattle.aco.specs.Row.{numbers}
use Rattle.aco.proofs.Row.{four}
use Rattle.aco_read.proofs.put_row.Goals as goal

pub bounds-table-to-2 : goal.bounds-table-to-2
bounds-table-to-2 c = simp length-set (omega arith)

pub bounds-table-to-3 : goal.bounds-table-to-3
bounds-table-to-3 c = simp length-set (omega arith)

pub bounds-table-to-4 : goal.bounds-table-to-4
bounds-table-to-4 c = simp length-set (omega arith)

pub bounds-table-to-5 : goal.bounds-table-to-5
bounds-table-to-5 c = simp length-set (omega arith)

pub bounds-table-to-6 : goal.bounds-table-to-6
bounds-table-to-6 c = simp length-set (omega arith)

pub bounds-table-to-7 : goal.bounds-table-to-7
bounds-table-to-7 c = simp length-set (omega arith)

pub bounds-table-to-8 : goal.bounds-table-to-8
bounds-table-to-8 c = simp length-set (omega arith)

pub shape_of-table : goal.shape_of-table
shape_of-table c = simp length-set

pub returns : goal.returns
returns c =
    let a = c.args in
    let vs = a.colour.samples in
    rw c.number.ensures ((simp unary_clauses)
    ∙ ap (λ (l : List ℕ). sets a.table.now a.to (numbers (record { space = a.colour.space; samples = l; first = a.place; units = a.units; ink = 4 })))
    (sym (four vs (omega arith))))
