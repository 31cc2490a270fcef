use Prim.Native.Nat.{ℕ, ◌≤◌}
use mathlib.Core.Path.{sym, ap, ap₂, ◌∙◌, subst}
use mathlib.Core.List.{List}
use lib.ListN.{length}
use Rattle.descriptor_raw.specs.Raw.{due_of}
use Rattle.descriptor_entry.specs.Shapes.{fields_of}
use Rattle.descriptor_entry.specs.declared.Shape.{Shape}
use Rattle.descriptor_entries.specs.Taken.{put_all, entry_of}
use Rattle.descriptor_entries.specs.scaffold.Spans.{end_of}
use Rattle.descriptor_entries_read.proofs.Stored.{key-length}
use Rattle.descriptor_entries_read.proofs.entry_at.Goals as goal

pub put_fields-requires : goal.put_fields-requires
put_fields-requires c =
    let a = c.args in
    let p = c.requires in
    let sh = c.shape_of.ensures in
    (ap length c.put_key.ensures ∙ key-length a.file.now a.at (due_of a.what 0) _, subst (λ (x : Shape). end_of a.file.now a.value (fields_of x) ≤ length a.file.now) (sym sh) p.fields, p.size)

pub returns : goal.returns
unfolding entry_of
returns c =
    let a = c.args in
    let sh = c.shape_of.ensures in
    c.put_fields.ensures ∙ ap₂ (λ (x : Shape) (e : List ℕ). put_all a.file.now a.value (fields_of x) e) sh c.put_key.ensures
