-- A record of either list is read by the walker's reader. Assumes nothing.
use Prim.Native.Nat.{ℕ, zero, suc, ◌+◌, ◌*◌, ◌≤◌, ◌<◌}
use mathlib.Core.Path.{◌≡◌, refl, sym, ap, ap₂, ◌∙◌, subst}
use mathlib.Core.List.{List, [], ◌∷◌}
use mathlib.Core.Bool.{Bool, true, false, ◌&&◌}
use lib.Dec.{leb, ltb, eqb}
use lib.ListN.{length, get_or, get_or-eq_default}
use lib.Seq.{ext_get_or}
use borrow.Author.Tests.{le-leb, eq-eqb, ne_eqb, ltb-true, ltb-false}
use native.Mathlib.Omega.{arith}
use native.Mathlib.Nat.{add-zero}
use Rattle.algebra.specs.Numbers.{num, nums}
use Rattle.algebra.specs.Reader.{ok, then, pick, Judged, each}
use Rattle.algebra.specs.Text.{name}
use Rattle.algebra.proofs.Laws.{field_in}
use Rattle.algebra.proofs.Places.{length-nums, getD-nums}
use Rattle.algebra.proofs.Inverse.{then-inv, done-inv, fields-inv}
use Rattle.colour.specs.declared.space.Colour.{Colour}
use Rattle.colour.specs.Spaces.{uses, full, known, chrominance, ranged, allowed, all_allowed, sound}
use Rattle.aco.specs.Reading.{colour, field_of, repeated_field, Entry, entry, zero_colour, unnamed, compared}
use Rattle.aco.specs.scaffold.Raw.{raw_colour}
use Rattle.aco.proofs.Raw.{Good, colour-inv, colours-good, get_d-raw, field-raw}
use Rattle.aco_judge.proofs.Judging.{colour-sound}
use Rattle.aco.proofs.Inverse.{First, entry-inv}
use Rattle.aco_walk.specs.Walking.{count_of, is_plain, first_place, named_entry, labelled, swatch_from}

-- ---- colours that the layout allows

-- by the numbers of its fields
pub record Fine (c : Colour) : Type 0 where
  pub four : length c.samples ≡ 4
  pub is_known : known (field_of c 0) ≡ true
  pub are_allowed : (k : ℕ) → k < 4 → allowed (field_of c 0) k (field_of c (suc k)) ≡ true

pub fine-sound : (x a b c d : ℕ) → known x ≡ true → allowed x 0 a ≡ true → allowed x 1 b ≡ true → allowed x 2 c ≡ true → allowed x 3 d ≡ true → sound x (a ∷ b ∷ c ∷ d ∷ []) ≡ true
unfolding sound all_allowed
fine-sound x a b c d k p q r t = rw (k, p, q, r, t)

good-fine : (s : List ℕ) (at : ℕ) → Good s at → Fine (raw_colour s at)
good-fine s at g = record {
  four = length-nums 2 4 s (at + 2);
  is_known = g.is_known;
  are_allowed = λ k h.
      let p : at + 2 * suc k ≡ at + 2 + 2 * k = omega arith in
      ap (allowed (num 2 s at) k) (field-raw s at (suc k) (omega arith) ∙ ap (num 2 s) p) ∙ g.are_allowed k h;
}

zero-allowed : (x k : ℕ) → allowed x k 0 ≡ true
unfolding allowed ranged chrominance
zero-allowed x k = go (ltb k (uses x)) (eqb x 7 && ltb 0 k)
  where
    go : (b p : Bool) → pick b (pick p (chrominance 0) (leb 0 (full x))) (eqb 0 0) ≡ true
    go true true = refl
    go true false = le-leb 0 (full x) (omega arith)
    go false p = refl

fine-zero-colour : Fine zero_colour
unfolding known uses
fine-zero-colour = record { four = refl; is_known = refl; are_allowed = λ k h. ap (allowed 0 k) (zeros k) ∙ zero-allowed 0 k }
  where
    zeros : (k : ℕ) → get_or zero_colour.samples k 0 ≡ 0
    zeros zero = refl
    zeros (suc zero) = refl
    zeros (suc (suc zero)) = refl
    zeros (suc (suc (suc zero))) = refl
    zeros (suc (suc (suc (suc k)))) = refl

-- every colour of list 1, and what stands for one that it does not have
pub first_fine : (s : List ℕ) (cs : List Colour) (r : ℕ) → First s cs r → (k : ℕ) → Fine (get_or cs k zero_colour)
first_fine s cs r f k = go (ltb k (length cs)) refl
  where
    go : (b : Bool) → ltb k (length cs) ≡ b → Fine (get_or cs k zero_colour)
    go true h =
        let l : k < length cs = ltb-true k (length cs) h in
        let e : get_or cs k zero_colour ≡ raw_colour s (4 + 10 * k) = ap (λ (l : List Colour). get_or l k zero_colour) f.are ∙ get_d-raw (length cs) s 4 k l in
        subst Fine (sym e) (good-fine s (4 + 10 * k) (colours-good s (length cs) 0 4 f.list k l))
    go false h = subst Fine (sym (get_or-eq_default cs zero_colour (ltb-false k (length cs) h))) fine-zero-colour

-- such a colour is read where its fields stand
pub fine-reads : (s : List ℕ) (at : ℕ) (c : Colour) → Fine c → at + 10 ≤ length s → ((f : ℕ) → f < 5 → num 2 s (at + 2 * f) ≡ field_of c f) → colour s at ≡ ok c (at + 10)
fine-reads s at c g h same =
    let at0 : num 2 s at ≡ field_of c 0 = ap (num 2 s) (sym (add-zero at)) ∙ same 0 (omega arith) in
    let allow : (k n : ℕ) → k < 4 → n ≡ at + 2 * suc k → allowed (num 2 s at) k (num 2 s n) ≡ true =
    λ k n l e. ap₂ (λ (x v : ℕ). allowed x k v) at0 (ap (num 2 s) e ∙ same (suc k) (omega arith)) ∙ g.are_allowed k l in
    let d = done-inv (colour s at) (colour-sound s at _ _ _ _ _ h refl refl refl refl refl
    (fine-sound (num 2 s at) _ _ _ _ (ap known at0 ∙ g.is_known)
    (allow 0 (at + 2) (omega arith) (omega arith)) (allow 1 (at + 4) (omega arith) (omega arith)) (allow 2 (at + 6) (omega arith) (omega arith)) (allow 3 (at + 8) (omega arith) (omega arith)))) in
    let raw : raw_colour s at ≡ c =
    ap₂ (λ (x : ℕ) (vs : List ℕ). record { space = x; samples = vs }) at0
    (ext_get_or 0 (nums 2 4 s (at + 2)) c.samples (length-nums 2 4 s (at + 2) ∙ sym g.four) (λ k l.
    let m : k < 4 = omega (arith, length-nums 2 4 s (at + 2)) in
    let p : at + 2 + 2 * k ≡ at + 2 * suc k = omega arith in
    getD-nums 2 s 4 (at + 2) k m ∙ ap (num 2 s) p ∙ same (suc k) (omega arith))) in
    d.1 ∙ ap (λ (x : Colour). ok x (at + 10)) (sym (colour-inv s at d.1).0 ∙ raw)

-- ---- a record of list 1, where it is alone, and of list 2

pub plain-item : (s : List ℕ) → is_plain s ≡ true → (at : ℕ) (c : Colour) (q : ℕ) → colour s at ≡ ok c q → (swatch_from s at ≡ ok (unnamed c) q) × (at < length s)
unfolding swatch_from labelled
plain-item s p at c q e = (rw e (ap (λ (b : Bool). pick b (ok (unnamed c) q) (then (name 4 s q) (λ nm z. ok (named_entry c nm) z))) p), omega (arith, (colour-inv s at e).2.inside))

pub named-item : (s : List ℕ) → is_plain s ≡ false → (k : ℕ) (c : Colour) → Fine c → (at : ℕ) (e : Entry) (q : ℕ) → entry k c s at ≡ ok e q → (swatch_from s at ≡ ok e q) × (at < length s)
unfolding swatch_from labelled entry
named-item s p k c g at e q x =
    let j : ℕ → ℕ → Judged = compared k c in
    let t = then-inv (each 5 0 (repeated_field k c) s at) _ x in
    let ten : at + 10 ≡ t.1 = omega (arith, (fields-inv 2 j s 5 0 at t.2).1) in
    let i = entry-inv k c s at x in
    let le : at + 10 ≤ length s = omega (arith, i.next, i.inside) in
    let r : colour s at ≡ ok c t.1 = fine-reads s at c g le i.same ∙ ap (λ (n : ℕ). ok c n) ten in
    (rw r (ap (λ (b : Bool). pick b (ok (unnamed c) t.1) (then (name 4 s t.1) (λ nm z. ok (named_entry c nm) z))) p ∙ t.3), omega arith)

-- ---- which list it is

count_is : (s : List ℕ) → 4 ≤ length s → count_of s ≡ num 2 s 2
count_is s h = rw (field_in 2 s 2 (omega arith))

module _ (s : List ℕ) (n : ℕ) (count : num 2 s 2 ≡ n) where
  pub one_plain : length s ≡ 4 + 10 * n → (is_plain s ≡ true) × (first_place s ≡ 4)
  unfolding first_place
  one_plain e =
      let c : count_of s ≡ n = count_is s (omega arith) ∙ count in
      let p : is_plain s ≡ true = eq-eqb (length s) (4 + 10 * count_of s) (omega arith) in
      (p, rw p)

  pub two-named : 8 + 10 * n ≤ length s → (is_plain s ≡ false) × (first_place s ≡ 8 + 10 * n)
  unfolding first_place
  two-named h =
      let c : count_of s ≡ n = count_is s (omega arith) ∙ count in
      let p : is_plain s ≡ false = ne_eqb (length s) (4 + 10 * count_of s) (λ z. omega arith) in
      let le : 8 + 10 * count_of s ≤ length s = omega arith in
      let l : leb (8 + 10 * count_of s) (length s) ≡ true = le-leb _ _ le in
      (p, ap (λ (b : Bool). pick b 4 (pick (leb (8 + 10 * count_of s) (length s)) (8 + 10 * count_of s) (length s))) p ∙ ap (λ (b : Bool). pick b (8 + 10 * count_of s) (length s)) l ∙ ap (λ (k : ℕ). 8 + 10 * k) c)
