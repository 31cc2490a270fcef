use mathlib.Core.Path.{refl, ap, ◌∙◌}
use lib.ListN.{set}
use Rattle.descriptor_entries_read.proofs.Stored.{word-is}
use Rattle.descriptor_entries_read.proofs.put_word.Goals as goal

pub returns : goal.returns
returns c =
    let a = c.args in
    let p = c.requires in
    (c.put_at.ensures ∙ ap (set a.entry.now a.i) (c.number_or_zero.ensures ∙ word-is a.file.now a.at p.1), refl)
