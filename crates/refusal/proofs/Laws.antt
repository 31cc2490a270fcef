-- What is written of a text and of a number. Assumes nothing.
use Prim.Native.Nat.{ℕ, ◌+◌, ◌≤◌, ◌<◌}
use mathlib.Core.Path.{◌≡◌, refl, sym, ap, ◌∙◌}
use mathlib.Core.List.{List, ◌++◌}
use mathlib.Core.Bool.{Bool}
use lib.ListN.{length, drop}
use lib.Seq.{sets-eq}
use borrow.Author.Tests.{le-ltb}
use native.Mathlib.Omega.{arith}
use Rattle.algebra.specs.Reader.{pick}
use Rattle.algebra.specs.Store.{stored}
use Rattle.algebra.specs.Writing.{bytes, refused, writes}
use Rattle.algebra.proofs.Stores.{stored-in}
use Rattle.algebra.proofs.Writing.{needs-no, needs-all, writes-no, writes-none, writes-all}
use Rattle.refusal.specs.Sentences.{sentence, number_fault, written}

module _ (text out : List ℕ) where
  pub text-short : length out < length text → (refused 11 0, out) ≡ writes 0 (length text) text out
  text-short h = writes-none 0 (length text) text out (length text) (needs-all 0 (length text) (length text) refl refl) h

  pub text-stored : length text ≤ length out → (o : List ℕ) → o ≡ stored out 0 text → (bytes (length text), o) ≡ writes 0 (length text) text out
  text-stored h o e =
      let z : 0 + length text ≡ length text = omega arith in
      writes-all 0 (length text) text out (length text) (needs-all 0 (length text) (length text) refl refl) h o
      (e ∙ stored-in out 0 text (omega arith) ∙ sets-eq text out 0 (omega arith) ∙ ap (λ (n : ℕ). text ++ drop n out) z)

-- of a number that the table does not have
pub no_number : (n : ℕ) (out : List ℕ) → 15 ≤ n → (refused 12 0, out) ≡ written n out
no_number n out h =
    let e : 12 ≡ number_fault n = sym (ap (λ (b : Bool). pick b 0 12) (le-ltb n 15 h)) in
    writes-no (number_fault n) (length (sentence n)) (sentence n) out 12 (needs-no (number_fault n) (length (sentence n)) 12 e (λ z. omega arith))

-- one number more is ruled out
pub up : (n k : ℕ) → k ≤ n → (n ≡ k → ⊥) → k + 1 ≤ n
up n k h m = omega arith
