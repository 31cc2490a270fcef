use mathlib.Core.Path.{refl, ap, ◌∙◌}
use lib.ListN.{set}
use Rattle.descriptor_entries_read.proofs.Stored.{byte-is}
use Rattle.descriptor_entries_read.proofs.put_flag.Goals as goal

pub returns : goal.returns
returns c =
    let a = c.args in
    (c.put_at.ensures ∙ ap (set a.entry.now 13) (c.from.ensures ∙ byte-is a.file.now a.at), refl)
