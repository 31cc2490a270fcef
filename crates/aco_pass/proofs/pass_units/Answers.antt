use Prim.Native.Nat.{ℕ, ◌+◌, ◌*◌, ◌-◌}
use mathlib.Core.Path.{refl, sym}
use native.Mathlib.Omega.{arith}
use Rattle.aco_pass.proofs.Passing.{passes-units, passes-name}
use Rattle.aco_pass.proofs.pass_units.Goals as goal

pub returns-then-more-ne1 : goal.returns-then-more-ne1
returns-then-more-ne1 c =
    let a = c.args in
    let z = c.zero_in-found in
    let l = c.saturating_sub in
    let m = c.min-k in
    let k : ℕ = m.result in
    λ start store fits. passes-units start a.bytes.now a.count a.index a.place a.left a.zero a.at store fits k (omega (arith, m.ensures, l.ensures)) z.result z.ensures (a.at + 2 * k) refl (a.left - k) refl (omega (arith, m.ensures, c.requires.0))

pub returns-then-bytes-end-lt2 : goal.returns-then-bytes-end-lt2
returns-then-bytes-end-lt2 c =
    let a = c.args in
    let z = c.zero_in-found in
    let l = c.saturating_sub in
    let m = c.min-k in
    let k : ℕ = m.result in
    λ start store fits. passes-units start a.bytes.now a.count a.index a.place a.left a.zero a.at store fits k (omega (arith, m.ensures, l.ensures)) z.result z.ensures (a.at + 2 * k) refl 1 (sym c.if-more-ne1.false) (omega (arith, m.ensures, c.requires.0))

pub returns : goal.returns
returns c =
    let a = c.args in
    let z = c.zero_in-found in
    let l = c.saturating_sub in
    let m = c.min-k in
    let k : ℕ = m.result in
    λ start store fits. passes-name start a.bytes.now a.count a.index a.place a.left a.zero a.at store fits k (omega (arith, m.ensures, l.ensures)) z.result z.ensures (a.at + 2 * k) refl (a.left - k) refl c.if-more-ne1.false (omega (arith, c.if-bytes-end-lt2.false, m.ensures, c.requires.0)) c.number_or_zero-u.result c.number_or_zero-u.ensures c.unit_of.result c.unit_of.ensures
