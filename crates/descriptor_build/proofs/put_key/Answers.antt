use mathlib.Core.Path.{sym, ◌∙◌}
use Rattle.descriptor_build.proofs.Puts as P
use Rattle.descriptor_build.proofs.put_key.Goals as goal

pub put_field-requires : goal.put_field-requires
put_field-requires c =
    let a = c.args in
    P.key-ready a.text.now a.what a.row.now a.at _ (sym c.is_keyed.ensures ∙ c.if-is_keyed.true) c.requires

pub returns-then-is_keyed : goal.returns-then-is_keyed
returns-then-is_keyed c =
    let a = c.args in
    P.key-stored a.text.now a.what a.row.now a.out.now a.at _ _ (sym c.is_keyed.ensures ∙ c.if-is_keyed.true) c.put_field.ensures

pub returns : goal.returns
returns c =
    let a = c.args in
    P.key-none a.text.now a.what a.row.now a.out.now a.at (sym c.is_keyed.ensures ∙ c.if-is_keyed.false)
