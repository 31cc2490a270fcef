use Rattle.ase_write_judge.proofs.Judging.{name-lies, name-inside}
use Rattle.ase_write.proofs.Puts.{put-name}
use Rattle.algebra.specs.Store.{stored, part}
use Rattle.algebra.specs.Text.{counted_units}
use Rattle.ase.specs.Row.{given_in}
use Rattle.ase_write_judge.specs.scaffold.Parts.{start}
use Prim.Native.Nat.{ℕ, ◌+◌, ◌-◌, ◌*◌}
use mathlib.Core.Path.{ap, ◌∙◌}
use native.Mathlib.Omega.{arith}
use Rattle.ase_write.proofs.put_name.Goals as goal

pub overflow_add-end : goal.overflow_add-end
overflow_add-end c =
    omega (arith, name-inside c.args.text.now (given_in c.args.given) c.requires.1, c.name_start-first.ensures)

pub overflow_add-units : goal.overflow_add-units
overflow_add-units c = omega (arith, (name-lies c.args.text.now (given_in c.args.given) c.requires.1).0)

pub overflow_cast-units : goal.overflow_cast-units
overflow_cast-units c = omega (arith, (name-lies c.args.text.now (given_in c.args.given) c.requires.1).0)

pub slice_bounds-put_name-end : goal.slice_bounds-put_name-end
slice_bounds-put_name-end c =
    omega (arith, name-inside c.args.text.now (given_in c.args.given) c.requires.1, c.name_start-first.ensures)

pub returns : goal.returns
returns c =
    let a = c.args in
    let g = given_in a.given in
    let e = c.put_name.ensures ∙ ap (λ (r : ℕ). stored a.out.now a.at (counted_units 2 (g.units + 1) (part a.text.now r (r + 2 * g.units - r)))) c.name_start-first.ensures in
    put-name a.text.now (λ i. omega (arith, c.type_inv.text i)) g (start g + 2 * g.units - start g) (omega arith) c.requires.1 a.out.now _ a.at c.requires.0 e
