use Prim.Native.Nat.{ℕ, ◌+◌, ◌*◌, ◌-◌}
use mathlib.Core.Path.{ap, ◌∙◌}
use lib.Seq.{sets}
use native.Mathlib.Omega.{arith}
use Rattle.algebra.specs.Store.{stored, part}
use Rattle.algebra.specs.Text.{counted_units}
use Rattle.aco.specs.Grammar.{colour_bytes}
use Rattle.aco_write_judge.specs.scaffold.Parts.{told_record, plain, start}
use Rattle.aco_write_judge.proofs.Judging.{name-inside}
use Rattle.aco_write.proofs.Puts.{put_record}
use Rattle.aco_write.proofs.put_entry.Goals as goal

pub overflow_add-end : goal.overflow_add-end
overflow_add-end c =
    omega (arith, name-inside c.args.text.now (told_record c.args.given) c.requires.name, c.name_start-first.ensures)

pub slice_bounds-put_name-end : goal.slice_bounds-put_name-end
slice_bounds-put_name-end c =
    omega (arith, name-inside c.args.text.now (told_record c.args.given) c.requires.name, c.name_start-first.ensures)

pub returns : goal.returns
returns c =
    let a = c.args in
    let g = told_record a.given in
    let e₁ = c.put_colour.ensures ∙ ap (λ c. sets a.out.now a.at (colour_bytes (plain c))) c.colour_of.ensures in
    let e₂ = c.put_name.ensures ∙ ap (λ (r : ℕ). stored c.put_colour.new.out (a.at + 10) (counted_units 4 (g.units + 1) (part a.text.now r (r + 2 * a.given.units - r)))) c.name_start-first.ensures in
    put_record a.text.now (λ i. omega (arith, c.type_inv.text i)) g a.out.now _ _ a.at (start g + 2 * a.given.units - start g) (omega arith) (omega arith) c.requires.name c.requires.inside c.put_colour.auto.out e₁ e₂
