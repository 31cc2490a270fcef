use Prim.Native.Nat.{◌+◌, ◌-◌}
use mathlib.Core.Path.{sym, ap, ◌∙◌}
use mathlib.Core.Bool.{true≢false}
use native.Mathlib.Omega.{arith}
use native.Mathlib.Nat.{add-zero}
use Rattle.algebra.specs.Numbers.{num}
use Rattle.algebra.proofs.Places.{load_part}
use Rattle.aco_judge.proofs.Judging.{colour-sound}
use Rattle.aco_judge.proofs.is_sound.Goals as goal

pub returns-then-n-lt10 : goal.returns-then-n-lt10
returns-then-n-lt10 c = λ e. absurd (true≢false (sym e))

pub returns-then-n-at : goal.returns-then-n-at
returns-then-n-at c = λ e. absurd (true≢false (sym e))

pub returns : goal.returns
returns c =
    let a = c.args in
    let s = a.file.now in
    let k = a.at + 10 - a.at in
    λ e. (
      omega arith,
      colour-sound s a.at _ _ _ _ _ (omega arith)
          (load_part 2 s a.at k 0 _ (omega arith) (omega arith) c.number_or_zero-space.ensures ∙ ap (num 2 s) (add-zero a.at))
          (load_part 2 s a.at k 2 _ (omega arith) (omega arith) c.number_or_zero-a.ensures)
          (load_part 2 s a.at k 4 _ (omega arith) (omega arith) c.number_or_zero-b.ensures)
          (load_part 2 s a.at k 6 _ (omega arith) (omega arith) c.number_or_zero-c.ensures)
          (load_part 2 s a.at k 8 _ (omega arith) (omega arith) c.number_or_zero-d.ensures)
          (sym c.is_sound.ensures ∙ e),
    )
