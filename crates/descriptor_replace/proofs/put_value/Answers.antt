use Rattle.algebra.proofs.Storing.{length-kept}
use Rattle.algebra.proofs.Places.{length-be}
use Rattle.descriptor_replace.proofs.Values as Q
use native.Mathlib.Omega.{arith}
use Rattle.descriptor_replace.proofs.put_value.Goals as goal

pub overflow_cast-out : goal.overflow_cast-out
overflow_cast-out c =
    let l = Q.bool-fits c.args.value _ c.in-Bool.is c.requires.1 in
    omega (arith, l)

pub bounds-out-at : goal.bounds-out-at
bounds-out-at c =
    let n = Q.sized _ _ 1 c.in-Bool.is (length-be 1 _) in
    let p = c.requires.0 in
    omega (arith, p, n)

pub overflow_cast-n : goal.overflow_cast-n
overflow_cast-n c =
    let l = Q.long-fits c.args.value _ c.in-Long.is c.requires.1 in
    omega (arith, l)

pub put_u64-requires : goal.put_u64-requires
put_u64-requires c =
    let n = Q.sized _ _ 8 c.in-Comp.is (length-be 8 _) in
    let p = c.requires.0 in
    omega (arith, p, n)

pub put_u64-requires-in-Double : goal.put_u64-requires-in-Double
put_u64-requires-in-Double c =
    let n = Q.sized _ _ 8 c.in-Double.is (length-be 8 _) in
    let p = c.requires.0 in
    omega (arith, p, n)

pub put_u64-requires-in-UnitDouble : goal.put_u64-requires-in-UnitDouble
put_u64-requires-in-UnitDouble c =
    let n = Q.sized _ _ 12 c.in-UnitDouble.is (Q.unit_size _ _) in
    let p = c.requires.0 in
    let k = length-kept _ _ _ _ c.put_number-in-UnitDouble.ensures in
    omega (arith, p, n, k)

pub returns-in-Bool : goal.returns-in-Bool
returns-in-Bool c =
    Q.put-bool c.args.out.now c.args.at c.args.value _ c.in-Bool.is (Q.bool-fits c.args.value _ c.in-Bool.is c.requires.1)

pub returns-in-Long : goal.returns-in-Long
returns-in-Long c =
    Q.put-long c.args.out.now c.args.at c.args.value _ c.in-Long.is c.requires.0 c.put_number.ensures

pub returns-in-Comp : goal.returns-in-Comp
returns-in-Comp c =
    Q.put_same c.args.out.now c.args.at c.args.value _ c.in-Comp.is c.put_u64.ensures

pub returns-in-Double : goal.returns-in-Double
returns-in-Double c =
    Q.put_same c.args.out.now c.args.at c.args.value _ c.in-Double.is c.put_u64-in-Double.ensures

pub returns-in-UnitDouble : goal.returns-in-UnitDouble
returns-in-UnitDouble c =
    Q.put-unit c.args.out.now c.args.at c.args.value _ _ c.in-UnitDouble.is c.requires.0 c.put_number-in-UnitDouble.ensures c.put_u64-in-UnitDouble.ensures
