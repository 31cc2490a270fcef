use Prim.Native.Nat.{ℕ, ◌≤◌}
use mathlib.Core.Path.{sym, ap, ◌∙◌, subst}
use lib.ListN.{length, length-set}
use native.Mathlib.Omega.{arith}
use Rattle.descriptor_columns.proofs.Reading as R
use Rattle.descriptor_columns.proofs.fill_all.Goals as goal

pub put_head-requires : goal.put_head-requires
put_head-requires c =
    let a = c.args in
    let p = c.requires in
    omega (arith, R.some a.file.now a.rows p.0, p.1, p.4, p.5)

pub fill-requires : goal.fill-requires
fill-requires c =
    let a = c.args in
    let p = c.requires in
    let h = c.put_head.ensures in (
      R.begun a.file.now a.rows p.0 _ c.root_head-head.ensures,
      subst (λ (x : ℕ). a.rows ≤ x) (sym (ap length h.0 ∙ length-set a.first.now 0 _)) p.1,
      p.2,
      p.3,
      subst (λ (x : ℕ). a.rows ≤ x) (sym (ap length h.1 ∙ length-set a.depth.now 0 _)) p.4,
      subst (λ (x : ℕ). a.rows ≤ x) (sym (ap length h.2 ∙ length-set a.kind.now 0 _)) p.5,
    )

pub returns : goal.returns
returns c =
    let a = c.args in
    let p = c.requires in
    let h = c.put_head.ensures in
    R.finished a.file.now a.rows p.0 _ c.root_head-head.ensures h.0 h.1 h.2 c.fill.ensures
