use Prim.Native.Nat.{◌+◌, ◌-◌}
use mathlib.Core.Path.{ap, ◌∙◌}
use native.Mathlib.Omega.{arith}
use native.Mathlib.Nat.{add-zero}
use Rattle.algebra.specs.Numbers.{num}
use Rattle.algebra.proofs.Places.{load_part}
use Rattle.aco_read.proofs.Filling.{five}
use Rattle.aco_read.proofs.colour_in.Goals as goal

pub returns : goal.returns
returns c =
    let a = c.args in
    let s = a.file.now in
    let k = a.at + 10 - a.at in
    five s a.at _ _ _ _ _
    (load_part 2 s a.at k 0 _ (omega arith) (omega arith) c.number_or_zero-space.ensures ∙ ap (num 2 s) (add-zero a.at))
    (load_part 2 s a.at k 2 _ (omega arith) (omega arith) c.number_or_zero-a.ensures)
    (load_part 2 s a.at k 4 _ (omega arith) (omega arith) c.number_or_zero-b.ensures)
    (load_part 2 s a.at k 6 _ (omega arith) (omega arith) c.number_or_zero-c.ensures)
    (load_part 2 s a.at k 8 _ (omega arith) (omega arith) c.number_or_zero-d.ensures)
