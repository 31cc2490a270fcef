use mathlib.Core.Path.{sym, ◌∙◌}
use mathlib.Core.List.{[], ◌∷◌}
use Rattle.descriptor_judge.specs.Answer.{told}
use Rattle.descriptor_judge.proofs.Whole.{handed}
use Rattle.descriptor_columns.proofs.Reading as R
use Rattle.descriptor_columns.proofs.Room as M
use Rattle.descriptor_columns.proofs.read.Goals as goal

pub fill_all-requires : goal.fill_all-requires
fill_all-requires c =
    let a = c.args in
    let r = R.accepts a.file.now _ c.in_ok-rows.ensures in
    let f = sym c.if-not-is_room.false ∙ c.is_room.ensures in
    let f1 = M.room-inv _ a.first.now (a.size.now ∷ a.next.now ∷ a.depth.now ∷ a.kind.now ∷ []) f in
    let f2 = M.room-inv _ a.size.now (a.next.now ∷ a.depth.now ∷ a.kind.now ∷ []) f1.1 in
    let f3 = M.room-inv _ a.next.now (a.depth.now ∷ a.kind.now ∷ []) f2.1 in
    let f4 = M.room-inv _ a.depth.now (a.kind.now ∷ []) f3.1 in
    let f5 = M.room-inv _ a.kind.now [] f4.1 in
    (r, f1.0, f2.0, f3.0, f4.0, f5.0)

pub returns : goal.returns
returns c =
    let a = c.args in
    let r = R.accepts a.file.now _ c.in_ok-rows.ensures in
    let f = sym c.if-not-is_room.false ∙ c.is_room.ensures in
    let f1 = M.room-inv _ a.first.now (a.size.now ∷ a.next.now ∷ a.depth.now ∷ a.kind.now ∷ []) f in
    let f2 = M.room-inv _ a.size.now (a.next.now ∷ a.depth.now ∷ a.kind.now ∷ []) f1.1 in
    let f3 = M.room-inv _ a.next.now (a.depth.now ∷ a.kind.now ∷ []) f2.1 in
    let f4 = M.room-inv _ a.depth.now (a.kind.now ∷ []) f3.1 in
    let f5 = M.room-inv _ a.kind.now [] f4.1 in
    R.enough a.file.now _ r f f1.0 f2.0 f3.0 f4.0 f5.0 c.fill_all.ensures

pub returns-in_err-rows : goal.returns-in_err-rows
returns-in_err-rows c =
    let a = c.args in
    let h = R.refuses a.file.now _ _ c.in_err-rows.ensures in
    (handed told _ _ c.from_residual.ensures.1 h.0, h.1)

pub returns-then-not-is_room : goal.returns-then-not-is_room
returns-then-not-is_room c =
    let a = c.args in
    R.short a.file.now _ (R.accepts a.file.now _ c.in_ok-rows.ensures) (sym c.if-not-is_room.true ∙ c.is_room.ensures)
