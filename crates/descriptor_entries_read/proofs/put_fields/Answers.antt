use mathlib.Core.Path.{sym, ◌∙◌}
use mathlib.Core.List.{[], ◌∷◌}
use Rattle.descriptor_entries.specs.Taken.{put_all}
use Rattle.descriptor_entries_read.proofs.Stored.{here-room, next-room, next-length, next-put}
use Rattle.descriptor_entries_read.proofs.put_fields.Goals as goal

pub put_field-q-requires : goal.put_field-q-requires
put_field-q-requires c =
    let a = c.args in
    let p = c.requires in
    let s = a.file.now in
    let sh = a.shape in
    let f1 = c.put_field-p.ensures in
    let l1 = next-length s _ sh.first (sh.second ∷ sh.third ∷ sh.fourth ∷ []) _ _ _ f1 p.0 in
    let r1 = next-room s _ sh.first (sh.second ∷ sh.third ∷ sh.fourth ∷ []) _ _ _ f1 p.1 in
    (l1, here-room s _ sh.second (sh.third ∷ sh.fourth ∷ []) r1, p.2)

pub put_field-r-requires : goal.put_field-r-requires
put_field-r-requires c =
    let a = c.args in
    let p = c.requires in
    let s = a.file.now in
    let sh = a.shape in
    let f1 = c.put_field-p.ensures in
    let f2 = c.put_field-q.ensures in
    let l1 = next-length s _ sh.first (sh.second ∷ sh.third ∷ sh.fourth ∷ []) _ _ _ f1 p.0 in
    let r1 = next-room s _ sh.first (sh.second ∷ sh.third ∷ sh.fourth ∷ []) _ _ _ f1 p.1 in
    let l2 = next-length s _ sh.second (sh.third ∷ sh.fourth ∷ []) _ _ _ f2 l1 in
    let r2 = next-room s _ sh.second (sh.third ∷ sh.fourth ∷ []) _ _ _ f2 r1 in
    (l2, here-room s _ sh.third (sh.fourth ∷ []) r2, p.2)

pub put_field-requires : goal.put_field-requires
put_field-requires c =
    let a = c.args in
    let p = c.requires in
    let s = a.file.now in
    let sh = a.shape in
    let f1 = c.put_field-p.ensures in
    let f2 = c.put_field-q.ensures in
    let f3 = c.put_field-r.ensures in
    let l1 = next-length s _ sh.first (sh.second ∷ sh.third ∷ sh.fourth ∷ []) _ _ _ f1 p.0 in
    let r1 = next-room s _ sh.first (sh.second ∷ sh.third ∷ sh.fourth ∷ []) _ _ _ f1 p.1 in
    let l2 = next-length s _ sh.second (sh.third ∷ sh.fourth ∷ []) _ _ _ f2 l1 in
    let r2 = next-room s _ sh.second (sh.third ∷ sh.fourth ∷ []) _ _ _ f2 r1 in
    let l3 = next-length s _ sh.third (sh.fourth ∷ []) _ _ _ f3 l2 in
    let r3 = next-room s _ sh.third (sh.fourth ∷ []) _ _ _ f3 r2 in
    (l3, here-room s _ sh.fourth [] r3, p.2)

pub returns : goal.returns
unfolding put_all
returns c =
    let a = c.args in
    let p = c.requires in
    let s = a.file.now in
    let sh = a.shape in
    let f1 = c.put_field-p.ensures in
    let f2 = c.put_field-q.ensures in
    let f3 = c.put_field-r.ensures in
    let f4 = c.put_field.ensures in
    let last = next-put s _ sh.fourth [] _ _ _ f4 in
    sym (next-put s _ sh.first (sh.second ∷ sh.third ∷ sh.fourth ∷ []) _ _ _ f1 ∙ next-put s _ sh.second (sh.third ∷ sh.fourth ∷ []) _ _ _ f2 ∙ next-put s _ sh.third (sh.fourth ∷ []) _ _ _ f3 ∙ last)
