use mathlib.Core.Path.{sym, ◌∙◌}
use native.Mathlib.Omega.{arith}
use Rattle.descriptor_entries_read.proofs.Stored.{due-keyed, due-plain}
use Rattle.descriptor_entries_read.proofs.put_key.Goals as goal

pub put_field-requires : goal.put_field-requires
put_field-requires c =
    let a = c.args in
    let p = c.requires in
    let k = due-keyed a.file.now a.at a.what a.entry.now (sym c.is_keyed.ensures ∙ c.if-is_keyed.true) in
    (p.0, omega (arith, p.1, k.0), p.2)

pub returns-then-is_keyed : goal.returns-then-is_keyed
returns-then-is_keyed c =
    let a = c.args in
    let k = due-keyed a.file.now a.at a.what a.entry.now (sym c.is_keyed.ensures ∙ c.if-is_keyed.true) in
    c.put_field.ensures.0 ∙ sym k.1

pub returns-else-is_keyed : goal.returns-else-is_keyed
returns-else-is_keyed c =
    let a = c.args in
    due-plain a.file.now a.at a.what a.entry.now (sym c.is_keyed.ensures ∙ c.if-is_keyed.false)
