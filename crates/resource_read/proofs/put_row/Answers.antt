use lib.ListN.{length-set}
use native.Mathlib.Omega.{arith}
use native.Mathlib.Numerals.{unary_clauses}
use Rattle.resource_read.proofs.put_row.Goals as goal

pub bounds-table-to-2 : goal.bounds-table-to-2
bounds-table-to-2 c = simp length-set (omega arith)

pub bounds-table-to-3 : goal.bounds-table-to-3
bounds-table-to-3 c = simp length-set (omega arith)

pub bounds-table-to-4 : goal.bounds-table-to-4
bounds-table-to-4 c = simp length-set (omega arith)

pub bounds-table-to-5 : goal.bounds-table-to-5
bounds-table-to-5 c = simp length-set (omega arith)

pub shape_of-table : goal.shape_of-table
shape_of-table c = simp length-set

pub returns : goal.returns
returns c = simp unary_clauses
