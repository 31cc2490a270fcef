use native.Mathlib.Omega.{arith}
use Rattle.aco_stream.proofs.Calls.{not-ended, not_short, is_usable, is-roomy, not-roomy, calls-5, calls-11, calls-0}
use Rattle.aco_stream.proofs.admit.Goals as goal

pub returns-then-state : goal.returns-then-state
returns-then-state c = let a = c.args in calls-5 a.state a.store.now (not-ended a.state c.if-state.true)

pub returns-then-size_of-state : goal.returns-then-size_of-state
returns-then-size_of-state c = let a = c.args in calls-5 a.state a.store.now (not_short a.state c.if-state.false (omega (arith, c.size_of.ensures, c.if-size_of-state.true)))

pub returns-then-store-lt-STORE : goal.returns-then-store-lt-STORE
returns-then-store-lt-STORE c =
    let a = c.args in
    calls-11 a.state a.store.now (is_usable a.state c.if-state.false (omega (arith, c.size_of.ensures, c.if-size_of-state.false))) (not-roomy a.store.now c.if-store-lt-STORE.true)

pub returns : goal.returns
returns c =
    let a = c.args in
    calls-0 a.state a.store.now (is_usable a.state c.if-state.false (omega (arith, c.size_of.ensures, c.if-size_of-state.false))) (is-roomy a.store.now c.if-store-lt-STORE.false)
