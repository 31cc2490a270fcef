use mathlib.Core.Path.{sym, ap, ◌∙◌}
use Prim.Native.Nat.{ℕ}
use native.Mathlib.Omega.{arith}
use Rattle.refusal.specs.Sentences.{written}
use Rattle.refusal.proofs.Laws.{no_number, up}
use Rattle.refusal.proofs.sentence.Goals as goal

pub returns-in-0 : goal.returns-in-0
returns-in-0 c = let a = c.args in c.put.ensures ∙ sym (ap (λ (n : ℕ). written n a.out.now) c.in-0.is)

pub returns-in-1 : goal.returns-in-1
returns-in-1 c = let a = c.args in c.put-in-1.ensures ∙ sym (ap (λ (n : ℕ). written n a.out.now) c.in-1.is)

pub returns-in-2 : goal.returns-in-2
returns-in-2 c = let a = c.args in c.put-in-2.ensures ∙ sym (ap (λ (n : ℕ). written n a.out.now) c.in-2.is)

pub returns-in-3 : goal.returns-in-3
returns-in-3 c = let a = c.args in c.put-in-3.ensures ∙ sym (ap (λ (n : ℕ). written n a.out.now) c.in-3.is)

pub returns-in-4 : goal.returns-in-4
returns-in-4 c = let a = c.args in c.put-in-4.ensures ∙ sym (ap (λ (n : ℕ). written n a.out.now) c.in-4.is)

pub returns-in-5 : goal.returns-in-5
returns-in-5 c = let a = c.args in c.put-in-5.ensures ∙ sym (ap (λ (n : ℕ). written n a.out.now) c.in-5.is)

pub returns-in-6 : goal.returns-in-6
returns-in-6 c = let a = c.args in c.put-in-6.ensures ∙ sym (ap (λ (n : ℕ). written n a.out.now) c.in-6.is)

pub returns-in-7 : goal.returns-in-7
returns-in-7 c = let a = c.args in c.put-in-7.ensures ∙ sym (ap (λ (n : ℕ). written n a.out.now) c.in-7.is)

pub returns-in-8 : goal.returns-in-8
returns-in-8 c = let a = c.args in c.put-in-8.ensures ∙ sym (ap (λ (n : ℕ). written n a.out.now) c.in-8.is)

pub returns-in-9 : goal.returns-in-9
returns-in-9 c = let a = c.args in c.put-in-9.ensures ∙ sym (ap (λ (n : ℕ). written n a.out.now) c.in-9.is)

pub returns-in-10 : goal.returns-in-10
returns-in-10 c = let a = c.args in c.put-in-10.ensures ∙ sym (ap (λ (n : ℕ). written n a.out.now) c.in-10.is)

pub returns-in-11 : goal.returns-in-11
returns-in-11 c = let a = c.args in c.put-in-11.ensures ∙ sym (ap (λ (n : ℕ). written n a.out.now) c.in-11.is)

pub returns-in-12 : goal.returns-in-12
returns-in-12 c = let a = c.args in c.put-in-12.ensures ∙ sym (ap (λ (n : ℕ). written n a.out.now) c.in-12.is)

pub returns-in-13 : goal.returns-in-13
returns-in-13 c = let a = c.args in c.put-in-13.ensures ∙ sym (ap (λ (n : ℕ). written n a.out.now) c.in-13.is)

pub returns-in-14 : goal.returns-in-14
returns-in-14 c = let a = c.args in c.put-in-14.ensures ∙ sym (ap (λ (n : ℕ). written n a.out.now) c.in-14.is)

pub returns-in_default : goal.returns-in_default
returns-in_default c = let a = c.args in let r = c.in_default.in_default-own.rest in no_number a.number a.out.now (up a.number 14 (up a.number 13 (up a.number 12 (up a.number 11 (up a.number 10 (up a.number 9 (up a.number 8 (up a.number 7 (up a.number 6 (up a.number 5 (up a.number 4 (up a.number 3 (up a.number 2 (up a.number 1 (up a.number 0 (omega arith) r.0.0.0.0.0.0.0.0.0.0.0.0.0.0.1) r.0.0.0.0.0.0.0.0.0.0.0.0.0.1) r.0.0.0.0.0.0.0.0.0.0.0.0.1) r.0.0.0.0.0.0.0.0.0.0.0.1) r.0.0.0.0.0.0.0.0.0.0.1) r.0.0.0.0.0.0.0.0.0.1) r.0.0.0.0.0.0.0.0.1) r.0.0.0.0.0.0.0.1) r.0.0.0.0.0.0.1) r.0.0.0.0.0.1) r.0.0.0.0.1) r.0.0.0.1) r.0.0.1) r.0.1) r.1)
