-- Which way the items' readers go, on plain values. Assumes nothing.
use Prim.Native.Nat.{ℕ, zero, suc, ◌+◌, ◌*◌, ◌-◌, ◌≤◌, ◌<◌}
use mathlib.Core.Path.{◌≡◌, refl, sym, ap, ◌∙◌}
use mathlib.Core.List.{List, ◌∷◌}
use mathlib.Core.Bool.{Bool}
use lib.Dec.{ltb, eqb}
use borrow.Author.Tests.{le-leb, lt-leb, lt-ltb, le-ltb, eq-eqb, ne_eqb}
use native.Mathlib.Omega.{arith}
use Rattle.algebra.specs.Reader.{Res, ok, refuse, Reader, then, pick, rule, field, fine, fault, unless, judged, each, done, or_zero}
use Rattle.algebra.proofs.Inverse.{done-inv}
use Rattle.algebra.proofs.Laws.{done-refuse, judged-short, judged-bad, judged-ok}
use Rattle.colour.specs.declared.space.Colour.{Colour}
use Rattle.aco.specs.Reading.{most, colour, heading, field_of, repeated_field}
use Rattle.aco.specs.scaffold.Raw.{headed}
use Rattle.std.specs.Prelude.{Result}
use Rattle.std.specs.Result.{IsErrAnd}
use Rattle.fault.specs.Fault.{number_of}
use Rattle.fault.specs.declared.Refusal.{Refusal}
use Rattle.fault.proofs.Exit.{field-refused}
use Rattle.aco_items.specs.declared.Flaw.{Flaw}
use Rattle.aco_items.specs.scaffold.Answer.{told_item, flawed}
use Rattle.aco_judge.proofs.Judging.{err-exit, heading-refused, heading-is}
use Rattle.aco_chunks.specs.Chunks.{loaded, entry_head, colour_item}
use Rattle.aco.specs.Reading.{first_count, second_count}

-- ---- a number's refusal that a `?` hands on

pub cut-exit : (w : ℕ) (s : List ℕ) (at : ℕ) (r : Result (ℕ × ℕ) Flaw) (e : Refusal) {m : Res ℕ} → IsErrAnd r (λ y. y ≡ flawed e) → refuse (number_of e.0) e.1 0 0 ≡ field w s at → refuse 2 at 0 0 ≡ m → told_item r ≡ m
cut-exit w s at r e h f rest = err-exit told_item r (flawed e) h (field-refused w s at f ∙ rest)

-- ---- a row of fields, and what follows it whatever they are

module _ {A B : Type 0} (p : ℕ → Reader A) (s : List ℕ) (k : ℕ → Res B) (n i at : ℕ) where
  abbrev pub rest : Res B
  rest = then (each (n - i) i p s at) (λ vs e. k e)

  cons-then : (a : A) (m : Res (List A)) → then (then m (λ more end. ok (a ∷ more) end)) (λ vs e. k e) ≡ then m (λ vs e. k e)
  cons-then a (ok vs q) = refl
  cons-then a (refuse x z r f) = refl

  pub row_on : i < n → {a : A} {q : ℕ} → p i s at ≡ ok a q → rest ≡ then (each (n - (i + 1)) (i + 1) p s q) (λ vs e. k e)
  unfolding each
  row_on l {a} {q} e = let z : n - i ≡ suc (n - (i + 1)) = omega arith in rw z (rw e (cons-then a (each (n - (i + 1)) (i + 1) p s q)))

  pub row-off : i < n → {x z r f : ℕ} → p i s at ≡ refuse x z r f → rest ≡ refuse x z r f
  unfolding each
  row-off l e = let z : n - i ≡ suc (n - (i + 1)) = omega arith in rw z (rw e)

  pub row-end : n ≤ i → rest ≡ k at
  unfolding each
  row-end l = let z : n - i ≡ 0 = omega arith in rw z

-- ---- a record up to its name's units

abbrev pub count_at : List ℕ → ℕ → Res ℕ
count_at s a = judged 4 (λ n. unless (ltb 0 n) 8) s a

-- from its field f, which stands at `at`
abbrev pub title_left : ℕ → Colour → ℕ → List ℕ → ℕ → Res ℕ
title_left i c f s at = then (each (5 - f) f (repeated_field i c) s at) (λ vs a. count_at s a)

pub loaded-field : (store : List ℕ) (at f : ℕ) → f < 5 → field_of (loaded store at) f ≡ or_zero (field 2 store (at + 2 * f))
loaded-field store at zero l = ap (λ (k : ℕ). or_zero (field 2 store k)) (omega arith)
loaded-field store at (suc zero) l = refl
loaded-field store at (suc (suc zero)) l = refl
loaded-field store at (suc (suc (suc zero))) l = refl
loaded-field store at (suc (suc (suc (suc zero)))) l = refl
loaded-field store at (suc (suc (suc (suc (suc f))))) l = absurd (omega arith)

pub entry_head-is : (i : ℕ) (c : Colour) (s : List ℕ) → entry_head i c s 0 ≡ title_left i c 0 s 0
unfolding entry_head
entry_head-is i c s = refl

module _ (all : Res ℕ) (i : ℕ) (c : Colour) (f : ℕ) (s : List ℕ) (at : ℕ) (inv : all ≡ title_left i c f s at) where
  abbrev here : ℕ → Res ℕ
  here a = count_at s a

  pub field_cut : f < 5 → refuse 2 at 0 0 ≡ field 2 s at → all ≡ refuse 2 at 0 0
  field_cut l e = inv ∙ row-off (repeated_field i c) s here 5 f at l (judged-short 2 s at (λ v. pick (eqb v (field_of c f)) fine (fault 7 i f)) e)

  pub field-differs : f < 5 → {v n : ℕ} → ok v n ≡ field 2 s at → (v ≡ field_of c f → ⊥) → all ≡ refuse 7 at i f
  field-differs l {v} e d = inv ∙ row-off (repeated_field i c) s here 5 f at l (judged-bad 2 s at (λ v. pick (eqb v (field_of c f)) fine (fault 7 i f)) 7 i f e (ap (λ (b : Bool). pick b fine (fault 7 i f)) (ne_eqb v (field_of c f) d)))

  pub field-same : f < 5 → {v n : ℕ} → ok v n ≡ field 2 s at → v ≡ field_of c f → all ≡ title_left i c (f + 1) s n
  field-same l {v} e d = inv ∙ row_on (repeated_field i c) s here 5 f at l (judged-ok 2 s at (λ v. pick (eqb v (field_of c f)) fine (fault 7 i f)) e (ap (λ (b : Bool). pick b fine (fault 7 i f)) (eq-eqb v (field_of c f) d)))

  pub count_cut : 5 ≤ f → refuse 2 at 0 0 ≡ field 4 s at → all ≡ refuse 2 at 0 0
  count_cut l e = inv ∙ row-end (repeated_field i c) s here 5 f at l ∙ judged-short 4 s at (λ n. unless (ltb 0 n) 8) e

  pub count_none : 5 ≤ f → {v n : ℕ} → ok v n ≡ field 4 s at → v ≡ 0 → all ≡ refuse 8 at 0 0
  count_none l {v} e z = inv ∙ row-end (repeated_field i c) s here 5 f at l ∙ judged-bad 4 s at (λ n. unless (ltb 0 n) 8) 8 0 0 e (ap (λ (b : Bool). unless b 8) (le-ltb 0 v (omega arith)))

  pub count-some : 5 ≤ f → {v n : ℕ} → ok v n ≡ field 4 s at → (v ≡ 0 → ⊥) → all ≡ ok v n
  count-some l {v} e z = inv ∙ row-end (repeated_field i c) s here 5 f at l ∙ judged-ok 4 s at (λ n. unless (ltb 0 n) 8) e (ap (λ (b : Bool). unless b 8) (lt-ltb 0 v (omega arith)))

-- ---- a heading, a colour

module _ (s : List ℕ) where
  pub first_off : {x p r f : ℕ} → headed 1 s 0 ≡ refuse x p r f → heading 1 first_count s 0 ≡ refuse x p r f
  first_off e = heading-refused 1 s 0 first_count e

  pub first-many : {n q : ℕ} → headed 1 s 0 ≡ ok n q → most < n → heading 1 first_count s 0 ≡ refuse 5 2 0 0
  first-many {n} {q} e l = (heading-is 1 s 0 first_count e).0 ∙ ap (λ (b : Bool). rule (unless b 5) 2 (ok n q)) (lt-leb n most l)

  pub first-is : {n q : ℕ} → headed 1 s 0 ≡ ok n q → n ≤ most → heading 1 first_count s 0 ≡ ok n q
  first-is {n} {q} e l = (heading-is 1 s 0 first_count e).0 ∙ ap (λ (b : Bool). rule (unless b 5) 2 (ok n q)) (le-leb n most l)

  pub second-off : (c : ℕ) {x p r f : ℕ} → headed 2 s 0 ≡ refuse x p r f → heading 2 (second_count c) s 0 ≡ refuse x p r f
  second-off c e = heading-refused 2 s 0 (second_count c) e

  pub second-other : (c : ℕ) {n q : ℕ} → headed 2 s 0 ≡ ok n q → (n ≡ c → ⊥) → heading 2 (second_count c) s 0 ≡ refuse 7 2 0 5
  second-other c {n} {q} e l = (heading-is 2 s 0 (second_count c) e).0 ∙ ap (λ (b : Bool). rule (pick b fine (fault 7 0 5)) 2 (ok n q)) (ne_eqb n c l)

  pub second_is : (c : ℕ) {n q : ℕ} → headed 2 s 0 ≡ ok n q → n ≡ c → heading 2 (second_count c) s 0 ≡ ok n q
  second_is c {n} {q} e l = (heading-is 2 s 0 (second_count c) e).0 ∙ ap (λ (b : Bool). rule (pick b fine (fault 7 0 5)) 2 (ok n q)) (eq-eqb n c l)

  pub colourItem-is : {q : ℕ} → done (colour s 0) ≡ ok tt q → colour_item s 0 ≡ ok 0 q
  unfolding colour_item
  colourItem-is e = rw (done-inv (colour s 0) e).1

  pub colourItem-off : {x p r f : ℕ} → done (colour s 0) ≡ refuse x p r f → colour_item s 0 ≡ refuse x p r f
  unfolding colour_item
  colourItem-off e = rw (done-refuse (colour s 0) e)

pub loaded-is : (store : List ℕ) (first at f r : ℕ) → first ≡ at → f < 5 → r ≡ or_zero (field 2 store (first + 2 * f)) → r ≡ field_of (loaded store at) f
loaded-is store first at f r e l h = h ∙ ap (λ (k : ℕ). or_zero (field 2 store (k + 2 * f))) e ∙ sym (loaded-field store at f l)
