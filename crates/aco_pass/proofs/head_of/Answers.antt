use Prim.Native.Nat.{ℕ, ◌+◌, ◌*◌, ◌-◌}
use mathlib.Core.Path.{◌≡◌, ◌∙◌, subst}
use native.Mathlib.Omega.{arith}
use lib.ListN.{take, drop}
use Rattle.algebra.specs.Reader.{ok}
use Rattle.algebra.proofs.Places.{length_part}
use Rattle.aco_chunks.specs.Chunks.{entry_head, loaded}
use Rattle.aco_pass.proofs.Heads.{head-is}
use Rattle.aco_pass.proofs.Passing.{pos}
use Rattle.aco_pass.proofs.head_of.Goals as goal

pub returns : goal.returns
returns c =
    let a = c.args in
    let i = c.if-bytes-at-lt14.false in
    let h = pos c.if-m-eq0.false in
    let w : a.at + 14 - a.at ≡ 14 = omega arith in
    let n = length_part a.bytes.now a.at (a.at + 14 - a.at) (omega (arith, i, c.requires)) ∙ w in (
      h,
      (
        omega (arith, i, c.requires),
        subst (λ (k : ℕ). entry_head a.index (loaded a.store.now (10 * a.index)) (take k (drop a.at a.bytes.now)) 0 ≡ ok c.number_or_zero-m.result 14) w
            (head-is a.index a.store.now (take (a.at + 14 - a.at) (drop a.at a.bytes.now)) n (c.is_same.ensures c.if-not-is_same.false) c.number_or_zero-m.result c.number_or_zero-m.ensures h),
      ),
    )
