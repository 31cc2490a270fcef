-- What is told where a `?` hands a refusal on.
use mathlib.Core.Path.{◌≡◌, ◌∙◌, ap, sym}
use Prim.Native.Nat.{◌+◌, ◌-◌}
use native.Mathlib.Omega.{arith}
use lib.Dec.{leb}
use Rattle.std.specs.Prelude.{ℕ, Result, List, Bool, true, false, length}
use Rattle.std.specs.Result.{IsErrAnd}
use Rattle.std.proofs.lemmas.Result.{err_from_is_err_and}
use Rattle.algebra.specs.Numbers.{num}
use Rattle.algebra.specs.Reader.{Res, ok, refuse, field, pick}
use Rattle.algebra.specs.Writing.{Outcome, refused}
use Rattle.fault.specs.Fault.{number_of}
use Rattle.fault.specs.Answer.{told, told_written}
use Rattle.fault.specs.declared.Fault.{Fault}
use Rattle.fault.specs.declared.Refusal.{Refusal}

pub told-exit : {A B : Type 0} (k : A → Res B) (r : Result A Refusal) (e : Refusal) {m : Res B} → IsErrAnd r (λ y. y ≡ e) → refuse (number_of e.0) e.1 0 0 ≡ m → told k r ≡ m
told-exit k r e h rest = let p = err_from_is_err_and r h in rw (p.1, p.2) rest

pub written-exit : (r : Result ℕ Fault) (f : Fault) {m : Outcome} → IsErrAnd r (λ y. y ≡ f) → refused (number_of f) 0 ≡ m → told_written r ≡ m
written-exit r f h rest = let p = err_from_is_err_and r h in rw (p.1, p.2) rest

-- a number is refused by 2, where it was looked for
pub field-refused : (w : ℕ) (s : List ℕ) (at : ℕ) {x p r f : ℕ} → refuse x p r f ≡ field w s at → ◌≡◌ {A = Res ℕ} (refuse x p r f) (refuse 2 at 0 0)
unfolding field
field-refused w s at {x = x} {p = p} {r = r} {f = f} e = go (leb w (length s - at)) e
  where
    go : (b : Bool) → refuse x p r f ≡ pick b (ok (num w s at) (at + w)) (refuse 2 at 0 0) → ◌≡◌ {A = Res ℕ} (refuse x p r f) (refuse 2 at 0 0)
    go true q = let z : ◌≡◌ {A = ℕ} 0 1 = cc in absurd (omega arith)
    go false q = q

pub short : (w : ℕ) (s : List ℕ) (at : ℕ) {x p r f : ℕ} → refuse x p r f ≡ field w s at → refuse 2 at 0 0 ≡ field w s at
short w s at e = sym (field-refused w s at e) ∙ e

-- a refusal at another type
abbrev turned : {A B : Type 0} → Res A → Res B
turned (ok a n) = refuse 0 0 0 0
turned (refuse x p r f) = refuse x p r f

-- the same where a number's refusal is handed on
pub field-exit : {A B : Type 0} (w : ℕ) (s : List ℕ) (at : ℕ) (k : A → Res B) (r : Result A Refusal) (e : Refusal) {m : Res B} → IsErrAnd r (λ y. y ≡ e) → refuse (number_of e.0) e.1 0 0 ≡ field w s at → refuse 2 at 0 0 ≡ m → told k r ≡ m
field-exit {B = B} w s at k r e h f rest = told-exit k r e h (ap (λ (z : Res ℕ). turned {B = B} z) (field-refused w s at f) ∙ rest)
