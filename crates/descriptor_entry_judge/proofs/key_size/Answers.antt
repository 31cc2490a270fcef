use mathlib.Core.Path.{refl, sym, ◌∙◌}
use native.Mathlib.Omega.{arith}
use Rattle.descriptor_entry_judge.proofs.Judging as J
use Rattle.descriptor_entry_judge.proofs.key_size.Goals as goal

pub returns-then-is_keyed : goal.returns-then-is_keyed
returns-then-is_keyed c =
    let a = c.args in
    J.key-sized a.what a.row.now _ (sym c.is_keyed.ensures ∙ c.if-is_keyed.true) (J.size-id a.row.now 1 _ _ _ c.number_in.ensures c.id_length.ensures.0 refl) (omega (arith, c.id_length.ensures.1))

pub returns : goal.returns
returns c =
    let a = c.args in
    J.key-none a.what a.row.now (sym c.is_keyed.ensures ∙ c.if-is_keyed.false)
