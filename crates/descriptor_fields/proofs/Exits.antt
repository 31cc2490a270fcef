-- What a `?` hands on, where another field follows. Assumes nothing.
use mathlib.Core.Path.{◌≡◌, ◌∙◌, sym}
use mathlib.Core.Bool.{Bool}
use Rattle.std.specs.Prelude.{ℕ, List, Result}
use Rattle.std.specs.Result.{IsErrAnd}
use Rattle.algebra.specs.Reader.{Res, ok, refuse, field, then, judged, unless}
use Rattle.fault.specs.Fault.{number_of}
use Rattle.fault.specs.Answer.{told}
use Rattle.fault.specs.declared.Refusal.{Refusal}
use Rattle.fault.proofs.Exit.{told-exit, field-exit, short}
use Rattle.descriptor.proofs.Fields.{then-no, then_to, tested-short}

-- a step and then another: the second's answer, and the first's refusal
pub onward : {A B : Type 0} {m : Res A} {a : A} {q : ℕ} → ok a q ≡ m → (k : A → ℕ → Res B) {r : Res B} → r ≡ k a q → r ≡ then m k
onward {m = m} e k g = g ∙ sym (then_to m k (sym e))

pub exit : {A B C : Type 0} {m : Res A} (k : A → ℕ → Res B) (g : C → Res B) (r : Result C Refusal) (e : Refusal) → IsErrAnd r (λ y. y ≡ e) → refuse (number_of e.0) e.1 0 0 ≡ m → told g r ≡ then m k
exit {m = m} k g r e h f = told-exit g r e h (sym (then-no m k (sym f)))

-- the same where a number must pass a test
pub tested-exit : {B C : Type 0} (w : ℕ) (s : List ℕ) (at : ℕ) (test : ℕ → Bool) (x : ℕ) (k : ℕ → ℕ → Res B) (g : C → Res B) (r : Result C Refusal) (e : Refusal) → IsErrAnd r (λ y. y ≡ e) → refuse (number_of e.0) e.1 0 0 ≡ field w s at → told g r ≡ then (judged w (λ v. unless (test v) x) s at) k
tested-exit w s at test x k g r e h f = field-exit w s at g r e h f (tested-short w s at test x k (short w s at f))
