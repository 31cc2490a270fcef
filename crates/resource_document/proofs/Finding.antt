-- The reading in the form in which the code goes. Assumes nothing.
use Prim.Native.Nat.{ℕ, ◌+◌, ◌-◌, ◌*◌, ◌^◌, ◌≤◌, ◌<◌}
use mathlib.Core.Path.{◌≡◌, refl, sym, ap, ◌∙◌}
use mathlib.Core.List.{List}
use mathlib.Core.Bool.{Bool, true, false}
use lib.Dec.{leb}
use lib.ListN.{length}
use borrow.Author.Tests.{le-leb, lt-leb, ne_eqb, eq-eqb, leb-true, leb-false}
use native.Mathlib.Omega.{arith}
use Rattle.algebra.specs.Chars.{chars}
use Rattle.algebra.specs.Numbers.{num, nums}
use Rattle.algebra.specs.Reader.{Res, ok, refuse, then, pick, field, body, judged, rule, unless, done, or_zero, limit}
use Rattle.algebra.proofs.Laws.{field_in, field-short, judged-short, judged-bad, judged-ok, num-split, done-each, then-done}
use Rattle.std.specs.Prelude.{Result}
use Rattle.std.specs.Result.{IsErrAnd}
use Rattle.std.proofs.lemmas.Result.{err_from_is_err_and}
use Rattle.algebra.specs.Table.{Verdict, refused}
use Rattle.fault.specs.Fault.{number_of}
use Rattle.fault.specs.declared.Refusal.{Refusal}
use Rattle.resource_document.specs.declared.Section.{Section}
use Rattle.resource_document.specs.Answer.{told}
use Rattle.resource_document.specs.Reading.{fixed_number, reserved, start, image, colours, resources_in, document}

-- ---- a refusal that a `?` hands on

pub told-no : (r : Result Section Refusal) (e : Refusal) {v : Verdict (ℕ × ℕ)} → IsErrAnd r (λ y. y ≡ e) → refused (number_of e.0) e.1 0 0 ≡ v → told r ≡ v
told-no r e h rest = let p = err_from_is_err_and r h in rw (p.1, p.2) rest

-- ---- a field, by whether it is there

pub field-run : (w : ℕ) (s : List ℕ) (at : ℕ) → done (field w s at) ≡ done (body 1 w s at)
unfolding field body
field-run w s at = let e : w ≡ w * 1 = omega arith in go (leb w (length s - at)) (leb (w * 1) (length s - at)) (ap (λ (k : ℕ). leb k (length s - at)) e)
  where
    go : (a b : Bool) → a ≡ b → done (pick a (ok (num w s at) (at + w)) (refuse 2 at 0 0)) ≡ done (pick b (ok (nums 1 w s at) (at + w * 1)) (refuse 2 at 0 0))
    go true true e = let z : at + w ≡ at + w * 1 = omega arith in ap (λ (k : ℕ). ok tt k) z
    go false false e = refl
    go true false e = let z : ◌≡◌ {A = ℕ} 0 1 = cc in absurd (omega arith)
    go false true e = let z : ◌≡◌ {A = ℕ} 0 1 = cc in absurd (omega arith)

-- the same and then what does not depend on its value
pub field-then : {B : Type 0} (w : ℕ) (s : List ℕ) (at : ℕ) (k : ℕ → Res B) → then (field w s at) (λ v q. k q) ≡ then (done (body 1 w s at)) (λ u q. k q)
field-then w s at k = then-done (field w s at) k ∙ ap (λ (m : Res Unit). then m (λ u q. k q)) (field-run w s at)

-- ---- the reserved bytes

module _ (s : List ℕ) (at : ℕ) where
  six : num 6 s at ≡ num 4 s at * 256 ^ 2 + num 2 s (at + 4)
  six = num-split 4 2 s at

  run-there : {q : ℕ} → ok tt q ≡ done (body 1 6 s at) → (6 ≤ length s - at) × (at + 6 ≡ q)
  unfolding body
  run-there {q} e = go (leb (6 * 1) (length s - at)) refl e
    where
      go : (b : Bool) → leb (6 * 1) (length s - at) ≡ b → ok tt q ≡ done (pick b (ok (nums 1 6 s at) (at + 6 * 1)) (refuse 2 at 0 0)) → (6 ≤ length s - at) × (at + 6 ≡ q)
      go true h x = let z : at + 6 ≡ q = cc in (leb-true 6 (length s - at) h, z)
      go false h x = let z : ◌≡◌ {A = ℕ} 0 1 = cc in absurd (omega arith)

  -- where the six bytes are, they end inside
  pub run_small : {q : ℕ} → ok tt q ≡ done (body 1 6 s at) → at + 6 ≤ length s
  run_small e = omega (arith, (run-there e).0)

  pub reserved-cut : {x p : ℕ} → refuse x p 0 0 ≡ done (body 1 6 s at) → refuse x p 0 0 ≡ done (judged 6 reserved s at)
  unfolding body
  reserved-cut {x} {p} e = go (leb (6 * 1) (length s - at)) refl e
    where
      go : (b : Bool) → leb (6 * 1) (length s - at) ≡ b → refuse x p 0 0 ≡ done (pick b (ok (nums 1 6 s at) (at + 6 * 1)) (refuse 2 at 0 0)) → refuse x p 0 0 ≡ done (judged 6 reserved s at)
      go true h y = let z : ◌≡◌ {A = ℕ} 0 1 = cc in absurd (omega arith)
      go false h y = y ∙ sym (ap done (judged-short 6 s at reserved (sym (field-short 6 s at (leb-false 6 (length s - at) h)))))

  module _ {q : ℕ} (e : ok tt q ≡ done (body 1 6 s at)) where
    there : field 6 s at ≡ ok (num 6 s at) (at + 6)
    there = field_in 6 s at (run-there e).0

    high : or_zero (field 4 s at) ≡ num 4 s at
    high = ap or_zero (field_in 4 s at (omega (arith, (run-there e).0)))

    low : or_zero (field 2 s (at + 4)) ≡ num 2 s (at + 4)
    low = ap or_zero (field_in 2 s (at + 4) (omega (arith, (run-there e).0)))

    bad : (num 6 s at ≡ 0 → ⊥) → refuse 5 at 0 0 ≡ done (judged 6 reserved s at)
    bad z = sym (ap done (judged-bad 6 s at reserved 5 0 0 (sym there) (rw (ne_eqb (num 6 s at) 0 z))))

    pub reserved-high : (v : ℕ) → v ≡ or_zero (field 4 s at) → (v ≡ 0 → ⊥) → refuse 5 at 0 0 ≡ done (judged 6 reserved s at)
    reserved-high v h z = bad (λ n. z (omega (arith, h, high, six)))

    pub reserved-low : (v : ℕ) → v ≡ or_zero (field 2 s (at + 4)) → (v ≡ 0 → ⊥) → refuse 5 at 0 0 ≡ done (judged 6 reserved s at)
    reserved-low v h z = bad (λ n. z (omega (arith, h, low, six)))

    pub reserved-zero : (v w : ℕ) → v ≡ or_zero (field 4 s at) → v ≡ 0 → w ≡ or_zero (field 2 s (at + 4)) → w ≡ 0 → ok tt q ≡ done (judged 6 reserved s at)
    reserved-zero v w h z g y =
        let n : num 6 s at ≡ 0 = omega (arith, h, g, high, low, six) in
        sym (ap done (judged-ok 6 s at reserved (sym there) (rw (eq-eqb (num 6 s at) 0 n))) ∙ ap (λ (k : ℕ). ok tt k) (run-there e).1)

-- ---- the parts one after the other

pub start-done : (s : List ℕ) → done (start s 0) ≡ then (judged 4 (fixed_number (chars "8BPS")) s 0) (λ x a. then (done (judged 2 (fixed_number 1) s a)) (λ u b. done (judged 6 reserved s b)))
unfolding start
start-done s = done-each (judged 4 (fixed_number (chars "8BPS")) s 0) _ _ (λ x a. done-each (judged 2 (fixed_number 1) s a) _ _ (λ v b. refl) ∙ then-done (judged 2 (fixed_number 1) s a) (λ b. done (judged 6 reserved s b)))

pub image-done : (s : List ℕ) (at : ℕ) → done (image s at) ≡ then (done (body 1 2 s at)) (λ u a. then (done (body 1 4 s a)) (λ u b. then (done (body 1 4 s b)) (λ u c. then (done (body 1 2 s c)) (λ u d. done (body 1 2 s d)))))
unfolding image
image-done s at =
    done-each (field 2 s at) _ (λ v a. then (done (body 1 4 s a)) (λ u b. then (done (body 1 4 s b)) (λ u c. then (done (body 1 2 s c)) (λ u d. done (body 1 2 s d)))))
    (λ v a. done-each (field 4 s a) _ (λ v b. then (done (body 1 4 s b)) (λ u c. then (done (body 1 2 s c)) (λ u d. done (body 1 2 s d))))
    (λ v b. done-each (field 4 s b) _ (λ v c. then (done (body 1 2 s c)) (λ u d. done (body 1 2 s d)))
    (λ v c. done-each (field 2 s c) _ (λ v d. done (body 1 2 s d)) (λ v d. field-run 2 s d) ∙ field-then 2 s c (λ d. done (body 1 2 s d)))
    ∙ field-then 4 s b (λ c. then (done (body 1 2 s c)) (λ u d. done (body 1 2 s d))))
    ∙ field-then 4 s a (λ b. then (done (body 1 4 s b)) (λ u c. then (done (body 1 2 s c)) (λ u d. done (body 1 2 s d)))))
    ∙ field-then 2 s at (λ a. then (done (body 1 4 s a)) (λ u b. then (done (body 1 4 s b)) (λ u c. then (done (body 1 2 s c)) (λ u d. done (body 1 2 s d)))))

pub colours-done : (s : List ℕ) (at : ℕ) → done (colours s at) ≡ then (field 4 s at) (λ n q. done (body 1 n s q))
unfolding colours
colours-done s at = done-each (field 4 s at) _ _ (λ n q. refl)

-- where n bytes from q lie
abbrev at_place : ℕ → ℕ → ℕ → Res (ℕ × ℕ)
at_place q n r = ok (q, n) r

abbrev lying_in : List ℕ → ℕ → ℕ → Res (ℕ × ℕ)
lying_in s n q = then (body 1 n s q) (λ l r. at_place q n r)

abbrev pub lying : List ℕ → ℕ → ℕ → Res (ℕ × ℕ)
lying s n q = then (done (body 1 n s q)) (λ u r. at_place q n r)

pub resources-are : (s : List ℕ) (at : ℕ) → resources_in s at ≡ then (field 4 s at) (λ n q. rule (unless (leb n limit) 1) 0 (lying s n q))
unfolding resources_in
resources-are s at = go (field 4 s at)
  where
    go : (m : Res ℕ) → then m (λ n q. rule (unless (leb n limit) 1) 0 (lying_in s n q)) ≡ then m (λ n q. rule (unless (leb n limit) 1) 0 (lying s n q))
    go (ok n q) = ap (rule (unless (leb n limit) 1) 0) (then-done (body 1 n s q) (at_place q n))
    go (refuse x p r f) = refl

pub document-is : (s : List ℕ) → document s ≡ then (done (start s 0)) (λ u p. then (done (image s p)) (λ u q. then (done (colours s q)) (λ u r. resources_in s r)))
unfolding document
document-is s = first (start s 0)
  where
    third : (m : Res (List ℕ)) → then m (λ z r. resources_in s r) ≡ then (done m) (λ u r. resources_in s r)
    third m = then-done m (λ r. resources_in s r)

    second : (m : Res ℕ) → then m (λ y q. then (colours s q) (λ z r. resources_in s r)) ≡ then (done m) (λ u q. then (done (colours s q)) (λ u r. resources_in s r))
    second (ok y q) = third (colours s q)
    second (refuse x p r f) = refl

    first : (m : Res ℕ) → then m (λ x p. then (image s p) (λ y q. then (colours s q) (λ z r. resources_in s r))) ≡ then (done m) (λ u p. then (done (image s p)) (λ u q. then (done (colours s q)) (λ u r. resources_in s r)))
    first (ok x p) = second (image s p)
    first (refuse x p r f) = refl

-- ---- the section's length

module _ (s : List ℕ) (n q : ℕ) where
  pub past-limit : limit < n → refuse 1 0 0 0 ≡ rule (unless (leb n limit) 1) 0 (lying s n q)
  past-limit h = sym (simp (lt-leb n limit h))

  pub within-limit : n ≤ limit → rule (unless (leb n limit) 1) 0 (lying s n q) ≡ lying s n q
  within-limit h = simp (le-leb n limit h)
