-- Answers that decide. Assumes nothing.
use Prim.Native.Nat.{ℕ}
use mathlib.Core.Path.{◌≡◌}
use mathlib.Core.Bool.{Bool, true, false}
use native.Mathlib.Omega.{arith}
use Rattle.descriptor_check.specs.scaffold.Decided.{Decides}

-- the answer to a fact that holds exactly where another does
pub decides : {b : Bool} {P Q : Type 0} → Decides b Q → (Q → P) → (P → Q) → Decides b P
decides d f g = record { yes = λ e. f (d.yes e); no = λ e p. d.no e (g p) }

-- no, where what follows is not so
pub denied : {b : Bool} {P Q : Type 0} → Decides b Q → b ≡ false → (P → Q) → Decides false P
denied d h g = record { yes = λ e. let z : ◌≡◌ {A = ℕ} 0 1 = cc in absurd (omega arith); no = λ e p. d.no h (g p) }

pub deny : {P : Type 0} → (P → ⊥) → Decides false P
deny h = record { yes = λ e. let z : ◌≡◌ {A = ℕ} 0 1 = cc in absurd (omega arith); no = λ e p. h p }

pub grant : {P : Type 0} → P → Decides true P
grant p = record { yes = λ e. p; no = λ e q. let z : ◌≡◌ {A = ℕ} 0 1 = cc in absurd (omega arith) }
