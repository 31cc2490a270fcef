-- A refused ACO file has one of the numbers that ACO gives, and a place of the file. Assumes nothing.
use Prim.Native.Nat.{ℕ, ◌≤◌}
use mathlib.Core.Path.{◌≡◌, refl}
use mathlib.Core.List.{List}
use lib.ListN.{length, get_or}
use lib.Dec.{leb, eqb}
use native.Mathlib.Omega.{arith}
use Rattle.algebra.specs.Reader.{refuse, Judged, judged, each}
use Rattle.algebra.specs.Text.{name}
use Rattle.algebra.specs.Refusal.{Of, among, Placed, ends, Numbered}
use Rattle.algebra.proofs.Placed.{unless-numbered, differ-numbered, refusal-placed, placed-then, placed-pick, judged-placed, ended-placed, name-placed, each_placed, limited-placed}
use Rattle.colour.specs.declared.space.Colour.{Colour}
use Rattle.colour.specs.Spaces.{known, allowed}
use Rattle.aco.specs.Reading.{most, space, sample, samples, colour, heading, field_of, repeated_field, entry, second, after, lists, aco, zero_colour, version, first_count, compared, second_count}
use Rattle.aco.specs.Refusals.{refusals}

module _ {s : List ℕ} where
  pub colour-placed : (at : ℕ) → at ≤ length s → Placed refusals s (colour s at)
  unfolding colour samples
  colour-placed at l =
      placed-then (judged 2 space s at) _ (judged-placed (among refl) 2 space at (λ x. unless-numbered (known x) (among refl)) l)
      (λ x q h. placed-then (each 4 0 (λ k. judged 2 (sample x k)) s q) _
      (each_placed (λ k. judged 2 (sample x k)) (λ k r g. judged-placed (among refl) 2 (sample x k) r (λ v. unless-numbered (allowed x k v) (among refl)) g) 4 0 q h) (λ vs e g. ends g))

  pub heading-placed : (v : ℕ) (count : ℕ → Judged) → ((n : ℕ) → Numbered refusals (count n)) → (at : ℕ) → at ≤ length s → Placed refusals s (heading v count s at)
  unfolding heading
  heading-placed v count t at l =
      let j : ℕ → Judged = version v in
      placed-then (judged 2 j s at) _ (judged-placed (among refl) 2 j at (λ x. unless-numbered (eqb x v) (among refl)) l) (λ x q h. judged-placed (among refl) 2 count q t h)

  entry-placed : (i : ℕ) (c : Colour) (at : ℕ) → at ≤ length s → Placed refusals s (entry i c s at)
  unfolding entry
  entry-placed i c at l =
      placed-then (each 5 0 (repeated_field i c) s at) _ (each_placed (repeated_field i c) (λ f r g. judged-placed (among refl) 2 (compared i c f) r (λ v. differ-numbered (eqb v (field_of c f)) _ _ (among refl)) g) 5 0 at l)
      (λ vs q h. placed-then (name 4 s q) _ (name-placed (among refl) (among refl) 4 q h) (λ nm e g. ends g))

  second-placed : (cs : List Colour) (at : ℕ) → at ≤ length s → Placed refusals s (second cs s at)
  unfolding second
  second-placed cs at l =
      let j : ℕ → Judged = second_count (length cs) in
      placed-then (heading 2 j s at) _ (heading-placed 2 j (λ n. differ-numbered (eqb n (length cs)) _ _ (among refl)) at l)
      (λ n q h. placed-then (each (length cs) 0 (λ i. entry i (get_or cs i zero_colour)) s q) _
      (each_placed (λ i. entry i (get_or cs i zero_colour)) (λ i r g. entry-placed i (get_or cs i zero_colour) r g) (length cs) 0 q h) (λ es e g. ended-placed (among refl) (record { lists = 2; records = es }) e g))

  after-placed : (cs : List Colour) (at : ℕ) → at ≤ length s → Placed refusals s (after cs s at)
  unfolding after
  after-placed cs at l = placed-pick (eqb at (length s)) (ends l) (second-placed cs at l)

  lists-placed : (at : ℕ) → at ≤ length s → Placed refusals s (lists s at)
  unfolding lists
  lists-placed at l =
      let j : ℕ → Judged = first_count in
      placed-then (heading 1 j s at) _ (heading-placed 1 j (λ n. unless-numbered (leb n most) (among refl)) at l)
      (λ n q h. placed-then (each n 0 (λ i. colour) s q) _ (each_placed (λ i. colour) (λ i r g. colour-placed r g) n 0 q h) (λ cs e g. after-placed cs e g))

pub refused-placed : (s : List ℕ) {x p r f : ℕ} → aco s ≡ refuse x p r f → Of refusals x × (p ≤ length s)
unfolding aco
refused-placed s e = refusal-placed {s = s} (limited-placed (among refl) (lists-placed 0 (omega arith))) e
