use Prim.Native.Nat.{ℕ}
use mathlib.Core.Path.{sym, ap, ◌∙◌}
use native.Mathlib.Omega.{arith}
use Rattle.algebra.specs.Reader.{Res}
use Rattle.aco_chunks.specs.Chunks.{cut}
use Rattle.aco_chunks.proofs.Small.{item-placed, item-numbered}
use Rattle.aco_stream.specs.Answer.{known}
use Rattle.aco_stream.proofs.Calls.{known-item}
use Rattle.aco_stream.proofs.cut_of.Goals as goal

pub overflow_add-result : goal.overflow_add-result
overflow_add-result c = let a = c.args in omega (arith, c.requires.0, c.requires.1, item-placed a.store.now a.stage a.bytes.now (sym c.in-Err.ensures))

pub returns-in-Err : goal.returns-in-Err
returns-in-Err c =
    let a = c.args in
    known-item _ _ _ _ (item-numbered a.store.now a.stage a.bytes.now (sym c.in-Err.ensures)) ∙ ap (λ (m : Res ℕ). known (cut a.from m)) c.in-Err.ensures

pub returns-in-Ok : goal.returns-in-Ok
returns-in-Ok c = let a = c.args in ap (λ (m : Res ℕ). known (cut a.from m)) c.in-Ok.ensures
