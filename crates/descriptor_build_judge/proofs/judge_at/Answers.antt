use Prim.Native.Nat.{ℕ, ◌+◌, ◌*◌, ◌-◌}
use lib.ListN.{take, drop}
use Rattle.descriptor_entry.specs.Shapes.{width}
use Rattle.descriptor_entry_judge.proofs.Heads.{Found}
use mathlib.Core.Path.{◌≡◌, subst}
use native.Mathlib.Omega.{arith}
use Rattle.descriptor_build_judge.proofs.judge_at.Goals as goal

pub returns : goal.returns
returns c =
    let a = c.args in
    let n : width * a.k + width - width * a.k ≡ width = omega arith in
    subst (λ (m : ℕ). Found a.text.now a.what a.objects (take m (drop (width * a.k) a.entries.now)) c.judge_head.result) n c.judge_head.ensures
