-- Numbers and places that an item gives are small. Assumes nothing.
use Prim.Native.Nat.{ℕ, zero, suc, ◌+◌, ◌*◌, ◌-◌, ◌≤◌}
use mathlib.Core.Path.{◌≡◌, refl, sym, ap, ◌∙◌, subst}
use mathlib.Core.List.{List}
use lib.Dec.{leb, ltb, eqb}
use mathlib.Core.Bool.{Bool, true, false}
use lib.ListN.{length}
use borrow.Author.Tests.{leb-true}
use native.Mathlib.Omega.{arith}
use Rattle.algebra.specs.Reader.{Res, ok, refuse, pick, unless, field, judged, each}
use Rattle.algebra.specs.Numbers.{num}
use Rattle.algebra.specs.Refusal.{Of, among, Placed, ends}
use Rattle.algebra.proofs.Placed.{unless-numbered, differ-numbered, refusal-placed, placed-then, judged-placed, each_placed}
use Rattle.aco.specs.Refusals.{refusals}
use Rattle.aco.proofs.Placed.{colour-placed, heading-placed}
use Rattle.algebra.proofs.Inverse.{then-inv, judged-inv, unless-fine, clash}
use Rattle.colour.specs.declared.space.Colour.{Colour}
use Rattle.aco.specs.Reading.{most, colour, heading, field_of, repeated_field, compared, first_count, second_count}
use Rattle.aco_chunks.specs.declared.Stage.{Stage}
use Rattle.aco_chunks.specs.declared.Stage.TheVariants as v
use Rattle.aco_chunks.specs.Chunks.{loaded, entry_head, colour_item, item}
use Rattle.aco_chunks.specs.Promise.{sound_from, sound_by, sound_in, sound_colours}

colour_item-placed : (s : List ℕ) → Placed refusals s (colour_item s 0)
unfolding colour_item
colour_item-placed s = placed-then (colour s 0) _ (colour-placed 0 (omega arith)) (λ c q h. ends h)

entry_head-placed : (s : List ℕ) (i : ℕ) (c : Colour) → Placed refusals s (entry_head i c s 0)
unfolding entry_head
entry_head-placed s i c =
    placed-then (each 5 0 (repeated_field i c) s 0) _ (each_placed (repeated_field i c) (λ f r g. judged-placed (among refl) 2 (compared i c f) r (λ v. differ-numbered (eqb v (field_of c f)) _ _ (among refl)) g) 5 0 0 (omega arith))
    (λ vs q h. judged-placed (among refl) 4 (λ n. unless (ltb 0 n) 8) q (λ n. unless-numbered (ltb 0 n) (among refl)) h)

field-placed : (s : List ℕ) (w : ℕ) {x p r f : ℕ} → field w s 0 ≡ refuse x p r f → p ≤ length s
unfolding field
field-placed s w e = go (leb w (length s - 0)) e
  where
    go : (b : Bool) → {x p r f : ℕ} → pick b (ok (num w s 0) (0 + w)) (refuse 2 0 0 0) ≡ refuse x p r f → p ≤ length s
    go true e = clash (sym e)
    go false {x} {p} e = let z : 0 ≡ p = cc in omega arith

pub item-placed : (store : List ℕ) (g : Stage) (b : List ℕ) {x p r f : ℕ} → item store g b 0 ≡ refuse x p r f → p ≤ length b
item-placed store v.First b e = (refusal-placed {s = b} (heading-placed 1 first_count (λ n. unless-numbered (leb n most) (among refl)) 0 (omega arith)) e).1
item-placed store (v.Colour n i) b e = (refusal-placed (colour_item-placed b) e).1
item-placed store (v.Second n) b e = (refusal-placed {s = b} (heading-placed 2 (second_count n) (λ m. differ-numbered (eqb m n) _ _ (among refl)) 0 (omega arith)) e).1
item-placed store (v.Entry n i) b e = (refusal-placed (entry_head-placed b i (loaded store (10 * i))) e).1
item-placed store (v.Unit n i at m z) b e = field-placed b 2 e
item-placed store (v.End n) b {p = p} e = let z : 0 ≡ p = cc in omega arith
item-placed store (v.Fault x y r f) b {p = p} e = let z : 0 ≡ p = cc in omega arith

-- and by a number that a file may have
field-numbered : (s : List ℕ) (w : ℕ) {x p r f : ℕ} → field w s 0 ≡ refuse x p r f → Of refusals x
unfolding field
field-numbered s w e = go (leb w (length s - 0)) e
  where
    go : (b : Bool) → {x p r f : ℕ} → pick b (ok (num w s 0) (0 + w)) (refuse 2 0 0 0) ≡ refuse x p r f → Of refusals x
    go true e = clash (sym e)
    go false {x} e = let z : 2 ≡ x = cc in subst (Of refusals) z (among refl)

excess-numbered : {x p r f : ℕ} → ◌≡◌ {A = Res ℕ} (refuse 6 0 0 0) (refuse x p r f) → Of refusals x
excess-numbered {x} e = let z : 6 ≡ x = cc in subst (Of refusals) z (among refl)

pub item-numbered : (store : List ℕ) (g : Stage) (b : List ℕ) {x p r f : ℕ} → item store g b 0 ≡ refuse x p r f → Of refusals x
item-numbered store v.First b e = (refusal-placed {s = b} (heading-placed 1 first_count (λ n. unless-numbered (leb n most) (among refl)) 0 (omega arith)) e).0
item-numbered store (v.Colour n i) b e = (refusal-placed (colour_item-placed b) e).0
item-numbered store (v.Second n) b e = (refusal-placed {s = b} (heading-placed 2 (second_count n) (λ m. differ-numbered (eqb m n) _ _ (among refl)) 0 (omega arith)) e).0
item-numbered store (v.Entry n i) b e = (refusal-placed (entry_head-placed b i (loaded store (10 * i))) e).0
item-numbered store (v.Unit n i at m z) b e = field-numbered b 2 e
item-numbered store (v.End n) b e = excess-numbered e
item-numbered store (v.Fault x y r f) b e = excess-numbered e

first-few : (b : List ℕ) {n q : ℕ} → heading 1 first_count b 0 ≡ ok n q → n ≤ most
unfolding heading
first-few b {n} e =
    let t = then-inv (judged 2 (λ x. unless (eqb x 1) 3) b 0) _ e in
    leb-true n most (unless-fine (leb n most) 5 (judged-inv 2 b t.1 first_count t.3).3)

pub item-few : (store : List ℕ) (g : Stage) (b : List ℕ) {n q : ℕ} → item store g b 0 ≡ ok n q → g ≡ v.First → n ≤ 65535
item-few store g b {n} {q} e z = omega (arith, first-few b (ap (λ (g : Stage). item store g b 0) (sym z) ∙ e))

-- ---- list 1 has at most 4,096 colours

sound-few : (n : ℕ) (s : List ℕ) (at : ℕ) → sound_from n s at ≤ n
unfolding sound_from
sound-few zero s at = omega arith
sound-few (suc n) s at = go (colour_item s at) (sound-few n s (at + 10))
  where
    go : (m : Res ℕ) → sound_from n s (at + 10) ≤ n → sound_by m (sound_from n s (at + 10)) ≤ suc n
    go (ok u q) h = omega arith
    go (refuse x p r f) h = omega arith

pub few-sound : (s : List ℕ) → sound_colours s ≤ 4096
unfolding sound_colours
few-sound s = go (heading 1 first_count s 0) refl
  where
    go : (m : Res ℕ) → heading 1 first_count s 0 ≡ m → sound_in m s ≤ 4096
    go (ok n q) e = omega (arith, first-few s e, sound-few n s q)
    go (refuse x p r f) e = omega arith
