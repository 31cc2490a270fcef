-- Which way the code of a step goes, on plain values. Assumes nothing.
use Prim.Native.Nat.{ℕ, ◌+◌, ◌*◌, ◌≤◌, ◌<◌}
use mathlib.Core.Path.{◌≡◌, refl, sym, ap, ap₂, ◌∙◌}
use mathlib.Core.List.{List, [], ◌∷◌}
use mathlib.Core.Bool.{Bool, true, false, true≢false}
use lib.Dec.{leb, eqb}
use lib.ListN.{length, get_or}
use borrow.Author.Tests.{le-leb, lt-leb}
use native.Mathlib.Omega.{arith}
use Rattle.algebra.specs.Numbers.{num}
use Rattle.algebra.specs.Reader.{Res, ok, refuse, then, pick}
use Rattle.algebra.specs.Text.{Name, name, place}
use Rattle.algebra.proofs.Inverse.{clash, ok-value, ok-place, done-inv}
use Rattle.colour.specs.declared.space.Colour.{Colour}
use Rattle.colour.specs.Spaces.{known, allowed, sound}
use Rattle.aco.specs.Reading.{colour, Entry, Contents, zero_colour, unnamed, aco}
use Rattle.algebra.specs.Table.{accepted, refused, verdict}
use Rattle.std.specs.Prelude.{Err, Some, None}
use Rattle.aco_judge.specs.Answer.{report, rejected}
use Rattle.aco_judge.specs.declared.Rejection.{Rejection}
use Rattle.aco_judge.specs.declared.Rejection.TheVariants as rejection
use Rattle.aco.proofs.Raw.{Good, colour-inv}
use Rattle.aco_judge.proofs.Judging.{colour-sound, rejecting}
use Rattle.aco.specs.scaffold.Raw.{raw_colour}
use Rattle.algebra.proofs.Places.{getD-nums}
use Rattle.algebra.proofs.Table.{accepted-of, refused-of}
use Rattle.walk.specs.Walk as w
use Rattle.walk.proofs.Calls.{step-over, step-elsewhere}
use Rattle.aco_walk.specs.Walking.{count_of, is_plain, first_place, named_entry, labelled, swatch_from, walk, lent_of, starts, refusal, start_of}
use Rattle.aco_walk.specs.Answer.{call_and_place, told_start}
use Rattle.aco_walk.specs.scaffold.Answer.{tested}
use Rattle.aco_walk.proofs.Swatches.{fine-sound}

-- ---- a colour

pub tested-short : (s : List ℕ) (at : ℕ) → (at + 10 ≤ length s → ⊥) → None ≡ tested (colour s at)
tested-short s at h = go (colour s at) refl
  where
    go : (m : Res Colour) → colour s at ≡ m → None ≡ tested m
    go (ok c q) e = absurd (h (colour-inv s at e).2.inside)
    go (refuse x p r f) e = refl

-- the colour that stands there
module _ (s : List ℕ) (at : ℕ) (c : Colour) (h : at + 10 ≤ length s) (is : c ≡ raw_colour s at) where
  abbrev sample : ℕ → ℕ
  sample k = get_or c.samples k 0

  space-is : c.space ≡ num 2 s at
  space-is = ap (λ (c : Colour). c.space) is

  sample-is : (k n : ℕ) → k < 4 → at + 2 + 2 * k ≡ n → sample k ≡ num 2 s n
  sample-is k n l e = ap (λ (c : Colour). get_or c.samples k 0) is ∙ getD-nums 2 s 4 (at + 2) k l ∙ ap (num 2 s) e

  good-sound : Good s at → sound c.space (sample 0 ∷ sample 1 ∷ sample 2 ∷ sample 3 ∷ []) ≡ true
  good-sound g = fine-sound c.space (sample 0) (sample 1) (sample 2) (sample 3) (ap known space-is ∙ g.is_known) (allow 0 (omega arith)) (allow 1 (omega arith)) (allow 2 (omega arith)) (allow 3 (omega arith))
    where
      allow : (k : ℕ) → k < 4 → allowed c.space k (sample k) ≡ true
      allow k l = ap₂ (λ (y z : ℕ). allowed y k z) space-is (sample-is k _ l refl) ∙ g.are_allowed k l

  pub tested-unsound : sound c.space (sample 0 ∷ sample 1 ∷ sample 2 ∷ sample 3 ∷ []) ≡ false → None ≡ tested (colour s at)
  tested-unsound u = go (colour s at) refl
    where
      go : (m : Res Colour) → colour s at ≡ m → None ≡ tested m
      go (ok y q) e = absurd (true≢false (sym (good-sound (colour-inv s at e).2) ∙ u))
      go (refuse y p r f) e = refl

  pub tested-sound : sound c.space (sample 0 ∷ sample 1 ∷ sample 2 ∷ sample 3 ∷ []) ≡ true → Some c ≡ tested (colour s at)
  tested-sound u =
      let i =
      done-inv (colour s at) (colour-sound s at c.space (sample 0) (sample 1) (sample 2) (sample 3) h space-is
      (sample-is 0 _ (omega arith) (omega arith)) (sample-is 1 _ (omega arith) (omega arith)) (sample-is 2 _ (omega arith) (omega arith)) (sample-is 3 _ (omega arith) (omega arith)) u) in
      ap (λ (y : Colour). Some y) (is ∙ (colour-inv s at i.1).0) ∙ sym (ap tested i.1)

-- ---- what follows it

module _ (s : List ℕ) (at : ℕ) (c : Colour) where
  pub labelled_plain : is_plain s ≡ true → (c, w.gives (0, 0, 4), at) ≡ call_and_place (w.answered (length s) (labelled c s at))
  unfolding labelled
  labelled_plain p = sym (ap (λ (b : Bool). call_and_place (w.answered (length s) (pick b (ok (unnamed c) at) (then (name 4 s at) (λ nm q. ok (named_entry c nm) q))))) p)

  labelled_by : is_plain s ≡ false → labelled c s at ≡ then (name 4 s at) (λ nm q. ok (named_entry c nm) q)
  unfolding labelled
  labelled_by p = ap (λ (b : Bool). pick b (ok (unnamed c) at) (then (name 4 s at) (λ nm q. ok (named_entry c nm) q))) p

  pub labelled-named : is_plain s ≡ false → {f u q : ℕ} → ok (f, u) q ≡ place (name 4 s at) → (c, w.gives (f, u, 4), q) ≡ call_and_place (w.answered (length s) (labelled c s at))
  labelled-named p {f} {u} {q} e = go (name 4 s at) e ∙ sym (ap (λ (m : Res Entry). call_and_place (w.answered (length s) m)) (labelled_by p))
    where
      go : (m : Res Name) → ok (f, u) q ≡ place m → (c, w.gives (f, u, 4), q) ≡ call_and_place (w.answered (length s) (then m (λ nm q. ok (named_entry c nm) q)))
      go (ok nm r) z =
          let v : ◌≡◌ {A = ℕ × ℕ} (f, u) (nm.first, length nm.units) = ok-value z in
          ap₂ (λ (g : ℕ × ℕ) (n : ℕ). (c, w.gives (g.0, g.1, 4), n)) v (ok-place z)
      go (refuse x y r g) z = clash (sym z)

  pub labelled-lost : is_plain s ≡ false → {x y r g : ℕ} → refuse x y r g ≡ place (name 4 s at) → call_and_place (w.lost (length s)) ≡ call_and_place (w.answered (length s) (labelled c s at))
  labelled-lost p {x} {y} {r} {g} e = go (name 4 s at) e ∙ sym (ap (λ (m : Res Entry). call_and_place (w.answered (length s) m)) (labelled_by p))
    where
      go : (m : Res Name) → refuse x y r g ≡ place m → call_and_place (w.lost (length s)) ≡ call_and_place (w.answered (length s) (then m (λ nm q. ok (named_entry c nm) q)))
      go (ok nm r) z = clash z
      go (refuse z p h i) k = refl

-- ---- the step

module _ (s : List ℕ) (at : ℕ) where
  pub walk-over : at ≡ length s → (zero_colour, w.over, at) ≡ call_and_place (walk s at)
  walk-over e = sym (ap call_and_place (step-over swatch_from s at e))

  module _ (apart : at ≡ length s → ⊥) where
    pub walk-lost : None ≡ tested (colour s at) → call_and_place (w.lost (length s)) ≡ call_and_place (walk s at)
    unfolding swatch_from
    walk-lost t = go (colour s at) t ∙ sym (ap call_and_place (step-elsewhere swatch_from s at apart))
      where
        go : (m : Res Colour) → None ≡ tested m → call_and_place (w.lost (length s)) ≡ call_and_place (w.answered (length s) (then m (λ c q. labelled c s q)))
        go (ok x q) z = let v : ◌≡◌ {A = ℕ} 0 1 = cc in absurd (omega arith)
        go (refuse x p r f) z = refl

    -- the colour that was found
    pub tested_reads : {c : Colour} → Some c ≡ tested (colour s at) → colour s at ≡ ok c (at + 10)
    tested_reads {c} t = go (colour s at) refl t
      where
        go : (m : Res Colour) → colour s at ≡ m → Some c ≡ tested m → m ≡ ok c (at + 10)
        go (ok x q) e z =
            let v : c ≡ x = cc in
            ap₂ (λ (y : Colour) (n : ℕ). ok y n) (sym v) (sym (colour-inv s at e).1)
        go (refuse x p r f) e z = let v : ◌≡◌ {A = ℕ} 0 1 = cc in absurd (omega arith)

    pub walk-labelled : {c : Colour} → Some c ≡ tested (colour s at) → call_and_place (w.answered (length s) (labelled c s (at + 10))) ≡ call_and_place (walk s at)
    unfolding swatch_from
    walk-labelled {c} t = sym (ap call_and_place (step-elsewhere swatch_from s at apart ∙ ap (λ (m : Res Colour). w.answered (length s) (then m (λ c q. labelled c s q))) (tested_reads t)))

-- ---- the start

module _ (s : List ℕ) (n : ℕ) (e : n ≡ count_of s) where
  pub plain-is : eqb (length s) (4 + 10 * n) ≡ is_plain s
  plain-is = ap (λ (k : ℕ). eqb (length s) (4 + 10 * k)) e

  pub first-named : is_plain s ≡ false → 8 + 10 * n ≤ length s → 8 + 10 * n ≡ first_place s
  unfolding first_place
  first-named p h =
      let l : leb (8 + 10 * count_of s) (length s) ≡ true = ap (λ (k : ℕ). leb (8 + 10 * k) (length s)) (sym e) ∙ le-leb _ _ h in
      ap (λ (k : ℕ). 8 + 10 * k) e ∙ sym (rw (p, l))

  pub first-none : is_plain s ≡ false → length s < 8 + 10 * n → length s ≡ first_place s
  unfolding first_place
  first-none p h =
      let l : leb (8 + 10 * count_of s) (length s) ≡ false = ap (λ (k : ℕ). leb (8 + 10 * k) (length s)) (sym e) ∙ lt-leb _ _ h in
      sym (rw (p, l))

pub first_plain : (s : List ℕ) → is_plain s ≡ true → 4 ≡ first_place s
unfolding first_place
first_plain s p = sym (rw p)

module _ (s : List ℕ) where
  start-refused : {x p r f : ℕ} → refused x p r f ≡ verdict report (aco s) → refusal x p r f ≡ start_of (aco s) s
  start-refused e = sym (ap (λ (m : Res Contents). start_of m s) (refused-of report (aco s) e))

  pub start-rejected : (e : Rejection) → rejected e ≡ verdict report (aco s) → told_start (Err e) ≡ start_of (aco s) s
  start-rejected (rejection.Refused e) h = start-refused h
  start-rejected (rejection.Differ p r f) h = start-refused h

  pub start_is : {w : ℕ × ℕ} → accepted w ≡ verdict report (aco s) → (p : ℕ) → p ≡ first_place s → starts p ≡ start_of (aco s) s
  start_is v p e = ap starts e ∙ sym (ap (λ (m : Res Contents). start_of m s) (accepted-of report (aco s) v).2)

  pub lent-rejected : (e : Rejection) → rejected e ≡ verdict report (aco s) → [] ≡ lent_of (aco s) s
  lent-rejected e h = let z = rejecting e in sym (ap (λ (m : Res Contents). lent_of m s) (refused-of report (aco s) (sym z.judging ∙ h)))

  pub lent_is : {w : ℕ × ℕ} → accepted w ≡ verdict report (aco s) → s ≡ lent_of (aco s) s
  lent_is v = sym (ap (λ (m : Res Contents). lent_of m s) (accepted-of report (aco s) v).2)
