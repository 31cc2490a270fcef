use Prim.Native.Nat.{ℕ, ◌+◌, ◌-◌, ◌*◌}
use mathlib.Core.Path.{◌≡◌, sym, ap, subst}
use native.Mathlib.Omega.{arith}
use Rattle.descriptor_build.proofs.Puts as P
use lib.ListN.{length, take, drop}
use Rattle.descriptor_entry.specs.Shapes.{width}
use Rattle.descriptor_build.proofs.put_at.Goals as goal

pub put_head-requires : goal.put_head-requires
put_head-requires c =
    let a = c.args in
    let n : width * a.k + width - width * a.k ≡ width = omega arith in
    subst (λ (m : ℕ). P.AtReady a.text.now a.what (take m (drop (width * a.k) a.entries.now)) a.at (length a.out.now)) (sym n) c.requires.1

pub returns : goal.returns
returns c =
    let a = c.args in
    let n : width * a.k + width - width * a.k ≡ width = omega arith in
    P.at-put a.text.now a.what _ (take width (drop (width * a.k) a.entries.now)) a.out.now a.at _ _ (ap (λ (m : ℕ). take m (drop (width * a.k) a.entries.now)) n) c.put_head.ensures
