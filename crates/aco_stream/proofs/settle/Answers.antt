use Prim.Native.Nat.{ℕ, ◌+◌}
use mathlib.Core.Path.{sym, ap, ◌∙◌}
use native.Mathlib.Omega.{arith}
use Rattle.aco_chunks.specs.declared.Stage.TheVariants as v
use Rattle.aco_chunks.specs.Chunks.{after}
use Rattle.aco_chunks.proofs.Small.{item-placed, item-few}
use Rattle.aco_stream.proofs.Steps.{kept_any, kept-none}
use Rattle.aco_stream.proofs.settle.Goals as goal

pub overflow_add-result : goal.overflow_add-result
overflow_add-result c = let a = c.args in omega (arith, c.requires.0, c.requires.1, item-placed a.store.now a.stage a.bytes.now (sym c.in-Err.ensures))

pub next_of-requires : goal.next_of-requires
next_of-requires c = let a = c.args in (c.requires.0, item-few a.store.now a.stage a.bytes.now (sym c.in-Ok.ensures))

pub returns-in-Err : goal.returns-in-Err
returns-in-Err c =
    let a = c.args in
    let e = c.in-Err.flaw in
    (ap (λ (x : ℕ). v.Fault x (a.from + e.place) e.rec e.field) c.number.ensures ∙ ap (after a.stage a.from) c.in-Err.ensures, kept-none a.stage _ _ _ _ _ a.bytes.now a.store.now (sym c.in-Err.ensures))

pub returns-in-Ok : goal.returns-in-Ok
returns-in-Ok c =
    let a = c.args in
    (c.next_of.ensures ∙ ap (after a.stage a.from) c.in-Ok.ensures, c.keep.ensures ∙ kept_any a.stage _ _ _ a.bytes.now a.store.now (sym c.in-Ok.ensures))
