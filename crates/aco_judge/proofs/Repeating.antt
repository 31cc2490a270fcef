-- The records of list 2 in two loops, one in the other. Assumes nothing.
use Prim.Native.Nat.{ℕ, ◌+◌, ◌-◌, ◌*◌, ◌≤◌, ◌<◌}
use mathlib.Core.Path.{◌≡◌, refl, sym, ap, ◌∙◌}
use mathlib.Core.List.{List}
use lib.ListN.{length, get_or}
use native.Mathlib.Omega.{arith}
use native.Mathlib.Nat.{add-zero}
use Rattle.algebra.specs.Numbers.{num}
use Rattle.algebra.specs.Reader.{Res, ok, refuse, then, field, done, or_zero, each}
use Rattle.algebra.specs.Text.{Name, name, place}
use Rattle.algebra.proofs.Laws.{field_in, then_ok, each_turn, inner-ok}
use Rattle.algebra.proofs.Texts.{done-place}
use Rattle.colour.specs.declared.space.Colour.{Colour}
use Rattle.aco.specs.Reading.{field_of, repeated_field, Entry, entry, zero_colour}
use Rattle.aco.specs.scaffold.Raw.{raw_colours}
use Rattle.aco_judge.proofs.Judging.{entry_of, repeat-same}
use Rattle.aco.proofs.Raw.{fields-raw}

-- ---- the records of list 2, where list 1 has the colours cs

abbrev with-name : Colour → Name → Entry
with-name c nm = record { colour = c; name = nm }

entry-done-by : {A : Type 0} (m : Res A) (nm : ℕ → Res Name) (c : Colour) (k : ℕ → Res Unit)
    → then (done (then m (λ vs a. then (nm a) (λ x q. ok (with-name c x) q)))) (λ u q. k q) ≡ then (done m) (λ u a. then (done (nm a)) (λ u q. k q))
entry-done-by (ok vs a) nm c k = ap (λ (m : Res Unit). then m (λ u q. k q)) (then_ok (λ (x : Name). with-name c x) (nm a))
entry-done-by (refuse x p r f) nm c k = refl

-- what follows the five fields of record i: its name, and the records after it
abbrev pub named : List Colour → ℕ → List ℕ → ℕ → ℕ → Res Unit
named cs n s i a = then (done (name 4 s a)) (λ u q. done (each (n - (i + 1)) (i + 1) (entry_of cs) s q))

module _ (s : List ℕ) (cs : List Colour) where
  pub entry-start : (all : Res Unit) (n i at : ℕ) → all ≡ done (each (n - i) i (entry_of cs) s at) → i < n
      → all ≡ then (done (each (5 - 0) 0 (repeated_field i (get_or cs i zero_colour)) s at)) (λ u q. named cs n s i q)
  unfolding entry
  entry-start all n i at inv h =
      inv ∙ each_turn (entry_of cs) s n i at h
      ∙ entry-done-by (each 5 0 (repeated_field i (get_or cs i zero_colour)) s at) (λ a. name 4 s a) (get_or cs i zero_colour) (λ q. done (each (n - (i + 1)) (i + 1) (entry_of cs) s q))

  pub entry_named : (all : Res Unit) (n i at : ℕ) → all ≡ named cs n s i at → {f u q : ℕ} → place (name 4 s at) ≡ ok (f, u) q → all ≡ done (each (n - (i + 1)) (i + 1) (entry_of cs) s q)
  entry_named all n i at inv e = inv ∙ rw (sym (done-place (name 4 s at)) ∙ ap done e)

  pub entry-refused : (all : Res Unit) (n i at : ℕ) → all ≡ named cs n s i at → {x q r f : ℕ} → place (name 4 s at) ≡ refuse x q r f → all ≡ refuse x q r f
  entry-refused all n i at inv e = inv ∙ rw (sym (done-place (name 4 s at)) ∙ ap done e)

-- the five fields where all are the same
module _ (s : List ℕ) (c : Colour) (i at : ℕ) (all : Res Unit) (k : ℕ → Res Unit) (h : at + 10 ≤ length s) (same : (f : ℕ) → f < 5 → num 2 s (at + 2 * f) ≡ field_of c f) where
  repeats-turn : (f : ℕ) → f < 5 → all ≡ then (done (each (5 - f) f (repeated_field i c) s (at + 2 * f))) (λ u q. k q)
      → all ≡ then (done (each (5 - (f + 1)) (f + 1) (repeated_field i c) s (at + 2 * (f + 1)))) (λ u q. k q)
  repeats-turn f l inv =
      let p : at + 2 * f + 2 ≡ at + 2 * (f + 1) = omega arith in
      inner-ok (repeated_field i c) s all k 5 f (at + 2 * f) inv l _ (repeat-same s c i f (at + 2 * f) _ _ (sym (field_in 2 s (at + 2 * f) (omega arith))) (same f l) ∙ ap (λ (n : ℕ). ok tt n) p)

  pub repeats-same : all ≡ then (done (each (5 - 0) 0 (repeated_field i c) s at)) (λ u q. k q) → all ≡ then (done (each (5 - 5) 5 (repeated_field i c) s (at + 10))) (λ u q. k q)
  repeats-same inv =
      let start = inv ∙ ap (λ (p : ℕ). then (done (each 5 0 (repeated_field i c) s p)) (λ u q. k q)) (sym (add-zero at)) in
      repeats-turn 4 (omega arith) (repeats-turn 3 (omega arith) (repeats-turn 2 (omega arith) (repeats-turn 1 (omega arith) (repeats-turn 0 (omega arith) start))))

-- field f of colour i of list 1, as it is loaded
pub raw-field : (n : ℕ) (s : List ℕ) (i f v : ℕ) → 4 + 10 * n ≤ length s → i < n → f < 5 → v ≡ or_zero (field 2 s (4 + 10 * i + 2 * f)) → v ≡ field_of (get_or (raw_colours n s 4) i zero_colour) f
raw-field n s i f v h g k e = e ∙ ap or_zero (field_in 2 s (4 + 10 * i + 2 * f) (omega arith)) ∙ sym (fields-raw n s 4 i f g k)
