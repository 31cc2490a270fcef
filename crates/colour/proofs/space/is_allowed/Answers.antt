use Prim.Native.Nat.{ℕ, ◌≤◌, ◌<◌}
use mathlib.Core.Path.{sym, ◌∙◌, subst}
use Rattle.colour.proofs.Laws.{allowed-unused, allowed-used}
use Rattle.colour.proofs.space.is_allowed.Goals as goal

pub returns-then-samples_used-position : goal.returns-then-samples_used-position
returns-then-samples_used-position c =
    let a = c.args in
    sym (allowed-unused a.space a.position a.sample (subst (λ (n : ℕ). n ≤ a.position) c.samples_used.ensures c.if-samples_used-position.true))

pub returns : goal.returns
returns c =
    let a = c.args in
    c.is_ranged.ensures ∙ sym (allowed-used a.space a.position a.sample (subst (λ (n : ℕ). a.position < n) c.samples_used.ensures c.if-samples_used-position.false))
