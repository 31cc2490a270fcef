-- Each field's reader accepts exactly the field's byte strings. Assumes nothing.
use Prim.Native.Nat.{ℕ, zero, suc, ◌+◌, ◌*◌, ◌%◌, ◌≤◌, ◌<◌}
use mathlib.Core.Path.{◌≡◌, refl, sym, ap, ◌∙◌, subst}
use mathlib.Core.List.{List, [], ◌∷◌, ◌++◌}
use mathlib.Core.Bool.{Bool, true, false}
use lib.Dec.{leb, eqb}
use lib.ListN.{length, length-append}
use lib.Ieee.{binary64, of_bits}
use lib.Ieee.Scale.{finite}
use borrow.Author.Tests.{leb-true, le-leb, ltb-true, lt-ltb, eqb-true, eq-eqb, ne_eqb}
use native.Mathlib.Omega.{arith}
use Rattle.algebra.specs.Numbers.{num, nums, At, Bytes}
use Rattle.algebra.specs.Reader.{Reader, ok, then, pick, rule, body}
use Rattle.algebra.specs.Store.{part}
use Rattle.algebra.proofs.Laws.{body-in, num-2}
use Rattle.algebra.proofs.Places.{at_in, at_right, at_next, at_part, length_part}
use Rattle.algebra.proofs.Inverse.{then-inv, rule-inv, unless-fine, body-inv, ok-place}
use Rattle.algebra.proofs.Floats.{finite-bits}
use Rattle.algebra.specs.Refusal.{among}
use Rattle.algebra.proofs.Placed.{all_one, of-all}
use Rattle.descriptor.specs.Reading.{is, beside, skip, id, shut, closing, unicode, class, flag, double, enumerated, raw_bytes, units, array_units, is_unit, is_array_unit, unit_double, column}
use Rattle.algebra.specs.Sets.{Size}
use Rattle.descriptor_tree.specs.Grammar.{IdBody, Id, Units, Text, Class, Enumerated, Raw, Boolean, Double, measures, Measure, UnitDouble, array_measures, ArrayMeasure, UnitDoubles}
use Rattle.descriptor_tree.specs.Grammar.IdBody.{char, string}
use Rattle.descriptor_tree.specs.Grammar.Units.{none, closed}
use Rattle.algebra.proofs.Sets.{Reads, same_reads, done-reads, size-reads, tested-numbers, tag-numbers, number-reads, when-reads, counted-reads, seq-reads, run-reads}
use Rattle.descriptor.proofs.Fields.{shut-nums}

-- ---- tables by a tag

-- what holds of each row of a table holds of what stands beside a tag
abbrev pub Each : {A : Type 0} → (ℕ → A → Type 0) → List (ℕ × A) → Type 0
Each P [] = Unit
Each P (c ∷ cs) = P c.0 c.1 × Each P cs

pub beside-each : {A : Type 0} (P : ℕ → A → Type 0) (cs : List (ℕ × A)) → Each P cs → (t : ℕ) (a : A) → beside cs t ≡ is a → P t a
beside-each P [] h t a e = let z : ◌≡◌ {A = ℕ} 0 1 = cc in absurd (omega arith)
beside-each P (c ∷ cs) h t a e = go (eqb t c.0) refl e (beside-each P cs h.1 t a)
  where
    go : (b : Bool) → eqb t c.0 ≡ b → pick b (is c.1) (beside cs t) ≡ is a → (beside cs t ≡ is a → P t a) → P t a
    go true q x rec = let y : c.1 ≡ a = cc in subst (λ (v : _). P t v) y (subst (λ (k : ℕ). P k c.1) (sym (eqb-true t c.0 q)) h.0)
    go false q x rec = rec x

pub measure-known : {u : ℕ} → Measure u → is_unit u ≡ true
unfolding is_unit
measure-known h = of-all measures units refl h

pub known-measure : (u : ℕ) → is_unit u ≡ true → Measure u
unfolding is_unit
known-measure u e = among (all_one units measures refl u e)

pub array_known : {u : ℕ} → ArrayMeasure u → is_array_unit u ≡ true
unfolding is_array_unit
array_known h = of-all array_measures array_units refl h

pub known-array : (u : ℕ) → is_array_unit u ≡ true → ArrayMeasure u
unfolding is_array_unit
known-array u e = among (all_one array_units array_measures refl u e)

-- ---- primitives

pub skip-reads : (s : List ℕ) (n : ℕ) → Reads (Size n) s (skip n)
skip-reads s n = done-reads (size-reads s n)

id-body : (s : List ℕ) (n : ℕ) → Reads (IdBody n) s (skip (pick (eqb n 0) 4 n))
id-body s zero = same_reads (skip-reads s 4) (IdBody 0) (λ b l. char l) only
  where
    only : (b : List ℕ) → IdBody 0 b → Size 4 b
    only b (char l) = l
    only b (string h l) = absurd (omega arith)
id-body s (suc n) = subst (λ (z : Bool). Reads (IdBody (suc n)) s (skip (pick z 4 (suc n)))) (sym (ne_eqb (suc n) 0 (λ e. omega arith))) (same_reads (skip-reads s (suc n)) (IdBody (suc n)) (λ b l. string (omega arith) l) (only (suc n) (omega arith)))
  where
    only : (m : ℕ) → 0 < m → (b : List ℕ) → IdBody m b → Size m b
    only m h b (char l) = absurd (omega arith)
    only m h b (string g l) = l

-- the units behind a count at the place p
abbrev units_held : ℕ → ℕ → Reader Unit
units_held p n s at = then (body 2 n s at) (λ us end. rule (closing (shut us)) p (ok tt end))

zeros : (s : List ℕ) (at : ℕ) → at + 2 ≤ length s → num 2 s at ≡ 0 → At s at (0 ∷ 0 ∷ [])
unfolding At
zeros s at h e = (omega arith, omega (arith, num-2 s at), (omega arith, omega (arith, num-2 s at), omega arith))

zero-there : (s : List ℕ) (at : ℕ) → At s at (0 ∷ 0 ∷ []) → num 2 s at ≡ 0
unfolding At
zero-there s at h = omega (arith, num-2 s at, h.1, h.2.1)

units-whole : (s : List ℕ) (p n at : ℕ) (b : List ℕ) → Units n b → At s at b → units_held p n s at ≡ ok tt (at + length b)
unfolding shut nums
units-whole s p n at b none h = rw (body-in 2 s at 0 (omega arith)) refl
units-whole s p n at b (closed m c l) h =
    let z : List ℕ = 0 ∷ 0 ∷ [] in
    let r : at + length (c ++ z) ≤ length s = at_in s at (c ++ z) h in
    let e : at + suc m * 2 ≡ at + length (c ++ z) = omega (arith, length-append c z) in
    let x : num 2 s (at + m * 2) ≡ 0 = ap (λ (k : ℕ). num 2 s (at + k)) (sym l) ∙ zero-there s (at + length c) (at_right s at c z h) in
    let y : shut (nums 2 (suc m) s at) ≡ true = shut-nums m s at ∙ eq-eqb (num 2 s (at + m * 2)) 0 x in
    rw (body-in 2 s at (suc m) (omega arith)) (rw y (ap (λ (k : ℕ). ok tt k) e))

units-back : (s : List ℕ) (p n at q : ℕ) → at ≤ length s → units_held p n s at ≡ ok tt q → (b : List ℕ) × Units n b × At s at b × (at + length b ≡ q)
unfolding At
units-back s p zero at q le e =
    let t = then-inv (body 2 0 s at) _ e in
    let i = body-inv 2 s at 0 t.2 in
    let r = rule-inv (closing (shut t.0)) p (ok tt t.1) t.3 in
    ([], none, le, omega (arith, i.2, ok-place r.1))
units-back s p (suc m) at q le e =
    let t = then-inv (body 2 (suc m) s at) _ e in
    let i = body-inv 2 s at (suc m) t.2 in
    let r = rule-inv (closing (shut t.0)) p (ok tt t.1) t.3 in
    let z : List ℕ = 0 ∷ 0 ∷ [] in
    let c : List ℕ = part s at (m * 2) in
    let l : length c ≡ m * 2 = length_part s at (m * 2) (omega (arith, i.0)) in
    let last : num 2 s (at + m * 2) ≡ 0 = eqb-true (num 2 s (at + m * 2)) 0 (sym (shut-nums m s at) ∙ ap shut i.1 ∙ unless-fine (shut t.0) _ r.0) in
    (c ++ z, closed m c l, at_next s at c z (at + m * 2) (omega arith) (at_part s at (m * 2) (omega (arith, i.0))) (zeros s (at + m * 2) (omega (arith, i.0)) last), omega (arith, length-append c z, i.2, ok-place r.1))

units-reads : (s : List ℕ) (p n : ℕ) → Reads (Units n) s (units_held p n)
units-reads s p n = record { complete = λ at b x h. (tt, units-whole s p n at b x h); sound = λ at le a q e. units-back s p n at q le e }

module _ (s : List ℕ) (bytes : Bytes s) where
  pub id-reads : Reads Id s id
  unfolding id
  id-reads = counted-reads bytes (id-body s)

  pub text-reads : Reads Text s unicode
  unfolding unicode
  text-reads = record {
    complete = λ at b x h. (counted-reads bytes (units-reads s at)).complete at b x h;
    sound = λ at le a q e. (counted-reads bytes (units-reads s at)).sound at le a q e;
  }

  pub class-reads : Reads Class s class
  unfolding class
  class-reads = seq-reads text-reads (λ u. id-reads)

  pub enumerated-reads : Reads Enumerated s enumerated
  unfolding enumerated
  enumerated-reads = seq-reads id-reads (λ u. id-reads)

  pub raw-reads : Reads Raw s raw_bytes
  unfolding raw_bytes
  raw-reads = counted-reads bytes (skip-reads s)

  pub boolean-reads : Reads Boolean s flag
  unfolding flag
  boolean-reads = done-reads (number-reads 1 (tested-numbers s bytes 1 (λ b. leb b 1) _ (λ n. n ≤ 1) (λ n h. le-leb n 1 h) (λ n h. leb-true n 1 h)))

  pub double-reads : Reads Double s double
  unfolding double
  double-reads = done-reads (number-reads 8 (tested-numbers s bytes 8 (λ b. finite (of_bits binary64 b)) _ (λ n. n % 0x8000_0000_0000_0000 < 0x7FF0_0000_0000_0000)
      (λ n h. finite-bits binary64 n ∙ lt-ltb (n % 0x8000_0000_0000_0000) 0x7FF0_0000_0000_0000 h)
      (λ n h. ltb-true (n % 0x8000_0000_0000_0000) 0x7FF0_0000_0000_0000 (sym (finite-bits binary64 n) ∙ h))))

  pub unit-reads : Reads UnitDouble s unit_double
  unfolding unit_double
  unit-reads = when-reads (tested-numbers s bytes 4 is_unit _ Measure (λ u h. measure-known h) known-measure) (λ u. double-reads)

  -- ---- object arrays

  pub column-reads : (m : ℕ) → Reads (UnitDoubles m) s (column m)
  unfolding column
  column-reads m =
      when-reads (tested-numbers s bytes 4 is_array_unit _ ArrayMeasure (λ u h. array_known h) known-array)
      (λ u. when-reads (tag-numbers s bytes 4 m _) (λ n. done-reads (run-reads double-reads n 0)))
