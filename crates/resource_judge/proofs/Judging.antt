-- The reading in the form in which the code goes. Assumes nothing.
use Prim.Native.Nat.{ℕ, suc, ◌+◌, ◌%◌, ◌≤◌, ◌<◌}
use mathlib.Core.Path.{◌≡◌, refl, sym, ap, ap₂, ◌∙◌}
use mathlib.Core.List.{List, ◌∷◌}
use lib.ListN.{length}
use borrow.Author.Tests.{le-leb, lt-leb, ne_eqb, eq-eqb}
use native.Mathlib.Omega.{arith}
use native.Mathlib.Nat.{add-zero, zero-add}
use Rattle.algebra.specs.Numbers.{num}
use Rattle.algebra.specs.Reader.{Res, ok, refuse, then, field, body, judged, done, map_res, limit}
use Rattle.algebra.specs.Table.{Verdict, accepted, refused, verdict}
use Rattle.algebra.proofs.Laws.{field_in, judged-short, judged-bad, judged-ok, then_ok, done-const, done-each, done-refuse}
use Rattle.algebra.proofs.Inverse.{clash, ok-value, ok-place, then-inv, done-inv, field-inv, judged-inv, body-inv}
use Rattle.algebra.proofs.Sequence.{step-no, step-on}
use Rattle.resource.specs.Reading.{Part, Entry, block_part, zeroed, pad, padded_part, sized_part, is_signature, block, blocks, resources}
use Rattle.resource.specs.Rows.{to_record}
use Rattle.resource.specs.declared.Record.{Record}
use Rattle.resource.proofs.Lies.{run_lies, counted-lies, block-lies}
use Rattle.resource.proofs.Whole.{block-moves, blocks-stop, blocks-no, blocks-ok}
use Rattle.fault.specs.Fault.{number_of}
use Rattle.fault.specs.declared.Refusal.{Refusal}
use Rattle.std.specs.Prelude.{Result}
use Rattle.std.specs.Result.{IsErrAnd}
use Rattle.std.proofs.lemmas.Result.{err_from_is_err_and}
use Rattle.resource_judge.specs.Answer.{told}
use Rattle.resource_judge.specs.scaffold.Answer.{part_of, parts_from}

pub map-ok : {A B : Type 0} (f : A → B) (m : Res A) {b : B} {q : ℕ} → map_res f m ≡ ok b q → (a : A) × (m ≡ ok a q) × (f a ≡ b)
map-ok f (ok a p) e = (a, ap (λ (k : ℕ). ok a k) (ok-place e), ok-value e)
map-ok f (refuse x p r g) e = clash e

pub map-refuse : {A B : Type 0} (f : A → B) (m : Res A) {x p r g : ℕ} → map_res f m ≡ refuse x p r g → m ≡ refuse x p r g
map-refuse f (ok a q) e = clash (sym e)
map-refuse f (refuse y q s t) e = cc

-- a refusal that a `?` hands on
pub told-no : {A : Type 0} (r : Result A Refusal) (e : Refusal) {v : Verdict A} → IsErrAnd r (λ y. y ≡ e) → refused (number_of e.0) e.1 0 0 ≡ v → told r ≡ v
told-no r e h rest = let p = err_from_is_err_and r h in rw (p.1, p.2) rest

-- ---- a pad

module _ (n : ℕ) (s : List ℕ) (at : ℕ) where
  pub even-pad : n % 2 ≡ 0 → ok tt at ≡ done (pad n s at)
  unfolding num
  even-pad e =
      let f : field 0 s at ≡ ok 0 (at + 0) = field_in 0 s at (omega arith) in
      let g : judged 0 zeroed s at ≡ ok 0 (at + 0) = judged-ok 0 s at zeroed (sym f) refl in
      sym (ap (λ (w : ℕ). done (judged w zeroed s at)) e ∙ ap done g ∙ ap (λ (k : ℕ). ok tt k) (add-zero at))

  odd : (n % 2 ≡ 0 → ⊥) → n % 2 ≡ 1
  odd h = omega arith

  by-odd : (n % 2 ≡ 0 → ⊥) → {m : Res ℕ} → judged 1 zeroed s at ≡ m → done m ≡ done (pad n s at)
  by-odd h {m} e = sym (ap (λ (w : ℕ). done (judged w zeroed s at)) (odd h) ∙ ap done e)

  pub pad-short : (n % 2 ≡ 0 → ⊥) → refuse 2 at 0 0 ≡ field 1 s at → refuse 2 at 0 0 ≡ done (pad n s at)
  pad-short h e = by-odd h (judged-short 1 s at zeroed e)

  pub pad-bad : (n % 2 ≡ 0 → ⊥) → {v q : ℕ} → ok v q ≡ field 1 s at → (v ≡ 0 → ⊥) → refuse 5 at 0 0 ≡ done (pad n s at)
  pad-bad h {v} e z = by-odd h (judged-bad 1 s at zeroed 5 0 0 e (rw (ne_eqb v 0 z)))

  pub pad-ok : (n % 2 ≡ 0 → ⊥) → {v q : ℕ} → ok v q ≡ field 1 s at → v ≡ 0 → ok tt q ≡ done (pad n s at)
  pad-ok h {v} e z = by-odd h (judged-ok 1 s at zeroed e (rw (eq-eqb v 0 z)))

-- ---- bytes with their pad

module _ (s : List ℕ) where
  pub followed-done : (k n at : ℕ) → done (padded_part k n s at) ≡ then (done (body 1 n s at)) (λ u q. done (pad (k + n) s q))
  unfolding padded_part block_part
  followed-done k n at = go (body 1 n s at)
    where
      last : (p : Part) (m : Res ℕ) → done (then m (λ z r. ok p r)) ≡ done m
      last p (ok v q) = refl
      last p (refuse x q r f) = refl

      go : (m : Res (List ℕ)) → done {A = Part} (then (map_res (λ b. record { first = at; bytes = b }) m) (λ t q. then (pad (k + n) s q) (λ z r. ok t r))) ≡ then (done m) (λ u q. done (pad (k + n) s q))
      go (ok b q) = last (record { first = at; bytes = b }) (pad (k + n) s q)
      go (refuse x q r f) = refl

  -- where n bytes lie
  followed-part : (k n at : ℕ) → map_res part_of (padded_part k n s at) ≡ then (done (padded_part k n s at)) (λ u r. ok (at, n) r)
  unfolding padded_part
  followed-part k n at = go (block_part n s at) (λ p q e. run_lies s n at e)
    where
      last : (p : Part) → (p.first ≡ at) → (length p.bytes ≡ n) → (m : Res ℕ) → map_res part_of (then m (λ z r. ok p r)) ≡ then (done (then m (λ z r. ok p r))) (λ u r. ok (at, n) r)
      last p a b (ok v q) = ap₂ (λ (x y : ℕ). ok (x, y) q) a b
      last p a b (refuse x q r f) = refl

      go : (m : Res Part) → ((p : Part) (q : ℕ) → m ≡ ok p q → (p.first ≡ at) × (length p.bytes ≡ n) × (at + n ≡ q))
          → map_res part_of (then m (λ t q. then (pad (k + n) s q) (λ z r. ok t r))) ≡ then (done (then m (λ t q. then (pad (k + n) s q) (λ z r. ok t r)))) (λ u r. ok (at, n) r)
      go (ok p q) h = let x = h p q refl in last p x.0 x.1 (pad (k + n) s q)
      go (refuse x q r f) h = refl

  pub counted-part : (w k at : ℕ) → map_res part_of (sized_part w k s at) ≡ then (field w s at) (λ n q. then (done (padded_part k n s q)) (λ u r. ok (q, n) r))
  counted-part w k at = go (field w s at)
    where
      go : (m : Res ℕ) → map_res part_of (then m (λ n q. padded_part k n s q)) ≡ then m (λ n q. then (done (padded_part k n s q)) (λ u r. ok (q, n) r))
      go (ok n q) = followed-part k n q
      go (refuse x q r f) = refl

  -- the same by the answers on its length, and on its bytes and their pad
  module _ (w k at : ℕ) where
    pub part-no : {x p r f : ℕ} → refuse x p r f ≡ field w s at → refuse x p r f ≡ map_res part_of (sized_part w k s at)
    part-no e = step-no _ _ e ∙ sym (counted-part w k at)

    pub part-cut : {n q x p r f : ℕ} → ok n q ≡ field w s at → refuse x p r f ≡ done (padded_part k n s q) → refuse x p r f ≡ map_res part_of (sized_part w k s at)
    part-cut e g = step-on _ _ e (step-no _ _ g) ∙ sym (counted-part w k at)

    pub part-is : {n q r : ℕ} → ok n q ≡ field w s at → ok tt r ≡ done (padded_part k n s q) → ok (q, n) r ≡ map_res part_of (sized_part w k s at)
    part-is e g = step-on _ _ e (step-on _ _ g refl) ∙ sym (counted-part w k at)

  -- ---- a block

  -- a step of two, and what follows it
  two-steps : {A B C : Type 0} (m : Res A) (f : A → ℕ → Res B) (k : B → ℕ → Res C) → then (then m f) k ≡ then m (λ a q. then (f a q) k)
  two-steps (ok a q) f k = refl
  two-steps (refuse x p r g) f k = refl

  -- signature and ID
  abbrev pub head : ℕ → Res ℕ
  head at = then (judged 4 is_signature s at) (λ x a. field 2 s a)

  abbrev made : ℕ → Part → Part → Entry
  made i nm l = record { id = i; name = nm; payload = l }

  abbrev shown : ℕ → ℕ × ℕ → ℕ × ℕ → Record
  shown i nm l = record { id = i; name = nm.0; letters = nm.1; payload = l.0; size = l.1 }

  pub block-record : (at : ℕ) → map_res to_record (block s at) ≡ then (head at) (λ i b. parts_from i s b)
  unfolding block parts_from
  block-record at = first (judged 4 is_signature s at) ∙ sym (two-steps (judged 4 is_signature s at) (λ x a. field 2 s a) (λ i b. parts_from i s b))
    where
      last : (i : ℕ) (nm : Part) (m : Res Part) → map_res to_record (then m (λ l q. ok (made i nm l) q))
          ≡ then (map_res part_of m) (λ l q. ok (shown i (part_of nm) l) q)
      last i nm (ok l q) = refl
      last i nm (refuse x q r f) = refl

      third : (i : ℕ) (m : Res Part) → map_res to_record (then m (λ nm p. then (sized_part 4 0 s p) (λ l q. ok (made i nm l) q)))
          ≡ then (map_res part_of m) (λ nm p. then (map_res part_of (sized_part 4 0 s p)) (λ l q. ok (shown i nm l) q))
      third i (ok nm p) = last i nm (sized_part 4 0 s p)
      third i (refuse x q r f) = refl

      second : (m : Res ℕ) → map_res to_record (then m (λ i b. then (sized_part 1 1 s b) (λ nm p. then (sized_part 4 0 s p) (λ l q. ok (made i nm l) q))))
          ≡ then m (λ i b. then (map_res part_of (sized_part 1 1 s b)) (λ nm p. then (map_res part_of (sized_part 4 0 s p)) (λ l q. ok (shown i nm l) q)))
      second (ok i b) = third i (sized_part 1 1 s b)
      second (refuse x q r f) = refl

      first : (m : Res ℕ) → map_res to_record (then m (λ x a. then (field 2 s a) (λ i b. then (sized_part 1 1 s b) (λ nm p. then (sized_part 4 0 s p) (λ l q. ok (made i nm l) q)))))
          ≡ then m (λ x a. then (field 2 s a) (λ i b. then (map_res part_of (sized_part 1 1 s b)) (λ nm p. then (map_res part_of (sized_part 4 0 s p)) (λ l q. ok (shown i nm l) q))))
      first (ok x a) = second (field 2 s a)
      first (refuse x q r f) = refl

-- ---- a block's end, from an even place

module _ (s : List ℕ) where
  -- only whether the number of bytes is odd counts for their pad
  followed_same : (k j n at : ℕ) → (k + n) % 2 ≡ (j + n) % 2 → padded_part k n s at ≡ padded_part j n s at
  unfolding padded_part
  followed_same k j n at e = ap (λ (w : ℕ). then (block_part n s at) (λ t q. then (judged w zeroed s q) (λ z r. ok t r))) e

  counted-done : (w k at : ℕ) → done (sized_part w k s at) ≡ then (field w s at) (λ n q. done (padded_part k n s q))
  counted-done w k at = done-each (field w s at) _ _ (λ n q. refl)

  module _ (w k at : ℕ) (even : at % 2 ≡ 0) (same : (w + k) % 2 ≡ 0) where
    pub length_cut : refuse 2 at 0 0 ≡ field w s at → refuse 2 at 0 0 ≡ done (sized_part w k s at)
    length_cut e = step-no _ _ e ∙ sym (counted-done w k at)

    -- the pad by the place where it would stand
    pub by_place : {n q : ℕ} {m : Res Unit} → ok n q ≡ field w s at → m ≡ done (padded_part q n s q) → m ≡ done (sized_part w k s at)
    by_place {n} {q} e f =
        let i = field-inv w s at (sym e) in
        let z : (q + n) % 2 ≡ (k + n) % 2 = omega (arith, i.2) in
        step-on _ _ e (f ∙ ap done (followed_same q k n q z)) ∙ sym (counted-done w k at)

    pub ends-even : {q : ℕ} → ok tt q ≡ done (sized_part w k s at) → q % 2 ≡ 0
    ends-even {q} e = let x = done-inv (sized_part w k s at) (sym e) in omega (arith, (counted-lies s w k at x.1).1)

  -- a pad by the place where n bytes from `at` end
  pub ends_at : (n at : ℕ) {q : ℕ} {m : Res Unit} → ok tt q ≡ done (body 1 n s at) → m ≡ done (pad q s q) → m ≡ done (pad (at + n) s q)
  ends_at n at {q} e f =
      let x = done-inv (body 1 n s at) (sym e) in
      let z : q ≡ at + n = omega (arith, (body-inv 1 s at n x.1).2) in
      f ∙ ap (λ (k : ℕ). done (pad k s q)) z

  -- an even head ends at an even place
  pub head-even : (at : ℕ) {v q : ℕ} → ok v q ≡ head s at → at % 2 ≡ 0 → q % 2 ≡ 0
  head-even at e even =
      let x = then-inv (judged 4 is_signature s at) (λ x a. field 2 s a) (sym e) in
      let f = judged-inv 4 s at is_signature x.2 in
      let g = field-inv 2 s x.1 x.3 in
      omega (arith, f.2, g.2)

  pub block-done : (at : ℕ) → done (block s at) ≡ then (head s at) (λ i b. then (done (sized_part 1 1 s b)) (λ u p. done (sized_part 4 0 s p)))
  unfolding block
  block-done at =
      done-each (judged 4 is_signature s at) _ _
      (λ x a. done-each (field 2 s a) _ _
      (λ i b. done-const (sized_part 1 1 s b) _ (λ p. done (sized_part 4 0 s p)) (λ nm p. then_ok (made s i nm) (sized_part 4 0 s p))))
      ∙ sym (two-steps s (judged 4 is_signature s at) (λ x a. field 2 s a) (λ i b. then (done (sized_part 1 1 s b)) (λ u p. done (sized_part 4 0 s p))))

-- ---- the section

module _ (s : List ℕ) where
  -- the verdict on all, where k blocks stand before `at` and the rest is still to be read
  abbrev pub counting : ℕ → ℕ → Verdict ℕ
  counting k at = verdict (λ es. k + length es) (blocks s at)

  pub count-start : verdict length (blocks s 0) ≡ counting 0 0
  count-start = go (blocks s 0)
    where
      go : (m : Res (List Entry)) → verdict length m ≡ verdict (λ es. 0 + length es) m
      go (ok es q) = ap accepted (sym (zero-add (length es)))
      go (refuse x p r f) = refl

  module _ (all : Verdict ℕ) (k at : ℕ) (le : at ≤ length s) (inv : all ≡ counting k at) where
    pub count-end : at ≡ length s → accepted k ≡ all
    count-end e = sym (inv ∙ ap (verdict (λ es. k + length es)) (blocks-stop s at e) ∙ ap accepted (add-zero k))

    pub count_no : (at ≡ length s → ⊥) → {x p : ℕ} → refuse x p 0 0 ≡ done (block s at) → refused x p 0 0 ≡ all
    count_no more {x} {p} h = sym (inv ∙ ap (verdict (λ es. k + length es)) (blocks-no s at le more (done-refuse (block s at) (sym h))))

    pub record Counted (q : ℕ) : Type 0 where
      pub is : all ≡ counting (k + 1) q
      pub moved : at < q
      pub inside : q ≤ length s
      pub even : at % 2 ≡ 0 → q % 2 ≡ 0

    pub count-ok : (at ≡ length s → ⊥) → {q : ℕ} → ok tt q ≡ done (block s at) → Counted q
    count-ok more {q} h =
        let x = done-inv (block s at) (sym h) in
        let w = block-moves s at x.0 q le x.1 in
        let l = block-lies s at x.1 in record {
          is = inv ∙ ap (verdict (λ es. k + length es)) (blocks-ok s at le more x.0 q x.1) ∙ one_more x.0 (blocks s q);
          moved = w.0;
          inside = w.1;
          even = λ e. omega (arith, l.1);
        }
      where
        one_more : (e : Entry) (m : Res (List Entry)) → verdict (λ es. k + length es) (then m (λ es end. ok (e ∷ es) end)) ≡ verdict (λ es. k + 1 + length es) m
        one_more e (ok es p) = let z : k + suc (length es) ≡ k + 1 + length es = omega arith in ap accepted z
        one_more e (refuse x p r f) = refl

-- the whole section
pub too_long : (s : List ℕ) → limit < length s → refused 1 0 0 0 ≡ verdict length (resources s)
unfolding resources
too_long s h = simp (lt-leb (length s) limit h)

pub not-long : (s : List ℕ) → length s ≤ limit → resources s ≡ blocks s 0
unfolding resources
not-long s h = simp (le-leb (length s) limit h)
