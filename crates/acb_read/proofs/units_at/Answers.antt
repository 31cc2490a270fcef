use Prim.Native.Nat.{ℕ}
use mathlib.Core.Path.{sym, ap}
use native.Mathlib.Omega.{arith}
use Rattle.acb_read.specs.Answer.{RecordPlaces}
use Rattle.acb_read.specs.Walked.{given_in}
use Rattle.acb_read.proofs.units_at.Goals as goal

pub returns-in-Some : goal.returns-in-Some
returns-in-Some c =
    let e = c.in-Some.ensures.0 in
    record { units = sym (ap (λ (w : RecordPlaces × ℕ). (given_in w.0).name.1) e); next = omega (arith, c.components_of-n.ensures, ap (λ (w : RecordPlaces × ℕ). w.1) e) }

pub returns-in-None : goal.returns-in-None
returns-in-None c = record { units = ap (λ (w : RecordPlaces × ℕ). (given_in w.0).name.1) (sym c.in-None.ensures); next = ap (λ (w : RecordPlaces × ℕ). w.1) (sym c.in-None.ensures) }
