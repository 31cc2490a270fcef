use mathlib.Core.Path.{sym, ap, ◌∙◌}
use lib.Seq.{sets, length-take-le}
use native.Mathlib.Omega.{arith}
use Rattle.ase.specs.Row.{RecordRow, numbers}
use Rattle.ase_read.proofs.put_row.Goals as goal

pub slice_bounds-numbers_in-end : goal.slice_bounds-numbers_in-end
slice_bounds-numbers_in-end c = sym (length-take-le c.args.end c.args.file.now c.requires.1)

pub numbers_in-row-requires : goal.numbers_in-row-requires
numbers_in-row-requires c =
    let l = length-take-le c.args.end c.args.file.now c.requires.1 in
    (omega (arith, c.requires.0, l), omega (arith, c.requires.1, c.requires.2, l))

pub returns : goal.returns
returns c =
    let a = c.args in
    c.put_numbers.ensures ∙ ap (λ (g : RecordRow). sets a.table.now a.to (numbers g)) c.numbers_in-row.ensures
