-- A refused section has one of the numbers that resource blocks give, and a place of the section. Assumes nothing.
use Prim.Native.Nat.{ℕ, ◌+◌, ◌%◌, ◌≤◌}
use mathlib.Core.Path.{◌≡◌, refl}
use mathlib.Core.List.{List}
use lib.ListN.{length}
use lib.Dec.{eqb}
use native.Mathlib.Omega.{arith}
use Rattle.algebra.specs.Chars.{chars}
use Rattle.algebra.specs.Reader.{Res, ok, refuse, field, body, judged, map_res, at_end}
use Rattle.algebra.specs.Refusal.{Of, among, Placed, ends, fails, Places}
use Rattle.algebra.proofs.Placed.{unless-numbered, refusal-placed, placed-then, field-placed, body-placed, judged-placed, limited-placed}
use Rattle.algebra.proofs.Inverse.{clash, ok-place}
use Rattle.algebra.proofs.Until.{until-placed}
use Rattle.resource.specs.Reading.{Part, block_part, zeroed, pad, padded_part, sized_part, is_signature, block, resources}
use Rattle.resource.specs.Refusals.{refusals}

-- what was read ends inside
pub end-placed : {A : Type 0} {ns s : List ℕ} (m : Res A) → Placed ns s m → {a : A} {q : ℕ} → m ≡ ok a q → q ≤ length s
end-placed (ok b r) (ends h) e = omega (arith, ok-place e)
end-placed (refuse x p r f) (fails t h) e = clash e

run-placed : (n : ℕ) → Places refusals (block_part n)
unfolding block_part
run-placed n s at l = go (body 1 n s at) (body-placed (among refl) 1 n at l)
  where
    go : (m : Res (List ℕ)) → Placed refusals s m → Placed {A = Part} refusals s (map_res (λ b. record { first = at; bytes = b }) m)
    go (ok b q) (ends h) = ends h
    go (refuse x p r f) (fails t h) = fails t h

counted-placed : (w k : ℕ) → Places refusals (sized_part w k)
unfolding padded_part
counted-placed w k s at l =
    placed-then (field w s at) _ (field-placed (among refl) w at l)
    (λ n q h. placed-then (block_part n s q) _ (run-placed n s q h)
    (λ t e g. placed-then (pad (k + n) s e) _ (judged-placed (among refl) ((k + n) % 2) zeroed e (λ v. unless-numbered (eqb v 0) (among refl)) g) (λ z r w. ends w)))

pub block-placed : Places refusals block
unfolding block
block-placed s at l =
    placed-then (judged 4 is_signature s at) _ (judged-placed (among refl) 4 is_signature at (λ v. unless-numbered (eqb v (chars "8BIM")) (among refl)) l)
    (λ x q h. placed-then (field 2 s q) _ (field-placed (among refl) 2 q h)
    (λ i e g. placed-then (sized_part 1 1 s e) _ (counted-placed 1 1 s e g)
    (λ nm r w. placed-then (sized_part 4 0 s r) _ (counted-placed 4 0 s r w) (λ p z v. ends v))))

pub refused-placed : (s : List ℕ) {x p r f : ℕ} → resources s ≡ refuse x p r f → Of refusals x × (p ≤ length s)
unfolding resources
refused-placed s e = refusal-placed {s = s} (limited-placed (among refl) (until-placed at_end (λ u e. u) (λ u. block) s (λ u at l. block-placed s at l) _ tt 0 (omega arith))) e
