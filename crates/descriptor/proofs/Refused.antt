-- A field that has its size and holds what it may not: the refusal's number and its place, said once more. Assumes nothing.
use Prim.Native.Nat.{ℕ, suc, ◌+◌, ◌*◌, ◌^◌, ◌%◌, ◌≤◌, ◌<◌}
use mathlib.Core.Path.{◌≡◌, refl, sym, ap, ◌∙◌}
use mathlib.Core.List.{List}
use mathlib.Core.Bool.{Bool, true, false}
use lib.ListN.{length}
use lib.Ieee.{binary64}
use borrow.Author.Tests.{lt-leb, le-ltb, ne_eqb}
use native.Mathlib.Omega.{arith}
use Rattle.algebra.specs.Chars.{chars}
use Rattle.algebra.specs.Numbers.{num, nums, be, At}
use Rattle.algebra.specs.Reader.{Reader, ok, refuse, field, Judged, fault, unless, judged}
use Rattle.algebra.proofs.Laws.{field_in, body-in, judged-bad, judged-ok}
use Rattle.algebra.proofs.Places.{length-be, at_in, num-be}
use Rattle.algebra.proofs.Floats.{finite-bits}
use Rattle.descriptor.specs.Reading.{unknown, id, shut, unicode, boolean, flag, bits, double, is_unit, is_array_unit, unit, array_unit, unit_double, sort_of, form_of, Row, ref_item, doubles, column, column_type, array_pair, keyed, item, version, root}
use Rattle.descriptor.proofs.Fields.{shut-nums}

module _ (s : List ℕ) (at : ℕ) where
  -- a number of w bytes that stands there
  number-stands : (w : ℕ) {v : ℕ} → v < 256 ^ w → At s at (be w v) → field w s at ≡ ok v (at + w)
  number-stands w {v} small h = field_in w s at (omega (arith, at_in s at (be w v) h, length-be w v)) ∙ ap (λ (k : ℕ). ok k (at + w)) (num-be s w at v small h)

  number-refused : (w : ℕ) (j : ℕ → Judged) {v x : ℕ} → v < 256 ^ w → At s at (be w v) → j v ≡ fault x 0 0 → judged w j s at ≡ refuse x at 0 0
  number-refused w j {x = x} small h bad = judged-bad w s at j x 0 0 (sym (number-stands w small h)) bad

-- ---- values

module _ (s : List ℕ) (at : ℕ) where
  -- a `bool` above 1: 5
  pub bool-refused : {b : ℕ} → b < 256 ^ 1 → 1 < b → At s at (be 1 b) → flag s at ≡ refuse 5 at 0 0
  unfolding flag
  bool-refused {b} small large h = rw (number-refused s at 1 boolean small h (ap (λ (z : Bool). unless z 5) (lt-leb b 1 large)))

  -- a double that is not finite, the bits of its exponent being all ones: 5
  pub double-refused : {b : ℕ} → b < 256 ^ 8 → 0x7FF0_0000_0000_0000 ≤ b % 0x8000_0000_0000_0000 → At s at (be 8 b) → double s at ≡ refuse 5 at 0 0
  unfolding double
  double-refused {b} small large h =
      rw (number-refused s at 8 bits small h (ap (λ (z : Bool). unless z 5) (finite-bits binary64 b ∙ le-ltb (b % 0x8000_0000_0000_0000) 0x7FF0_0000_0000_0000 large)))

  -- an unknown unit: 4, before the double is looked for
  pub unit-refused : {u : ℕ} → u < 256 ^ 4 → is_unit u ≡ false → At s at (be 4 u) → unit_double s at ≡ refuse 4 at 0 0
  unfolding unit_double
  unit-refused small none h = rw (number-refused s at 4 unit small h (ap (λ (z : Bool). unless z 4) none))

  -- a Unicode string of n units and then u, which is not zero: 8 at the count
  pub text-refused : {n u : ℕ} → suc n < 256 ^ 4 → u < 256 ^ 2 → 0 < u → At s at (be 4 (suc n)) → At s (at + 4 + n * 2) (be 2 u) → unicode s at ≡ refuse 8 at 0 0
  unfolding unicode
  text-refused {n} {u} few small some h g =
      let l : at + 4 + n * 2 + 2 ≤ length s = omega (arith, at_in s (at + 4 + n * 2) (be 2 u) g, length-be 2 u) in
      let z : shut (nums 2 (suc n) s (at + 4)) ≡ false = shut-nums n s (at + 4) ∙ ne_eqb (num 2 s (at + 4 + n * 2)) 0 (λ e. omega (arith, num-be s 2 (at + 4 + n * 2) u small g)) in
      rw (number-stands s at 4 few h) (rw (body-in 2 s (at + 4) (suc n) (omega arith)) (rw z))

  -- ---- types and forms: 4, before anything behind them is looked for

  pub type-refused : {t : ℕ} (d p k first : ℕ) → t < 256 ^ 4 → sort_of t ≡ unknown → At s at (be 4 t) → item (suc d) p k first s at ≡ refuse 4 at 0 0
  unfolding item
  type-refused d p k first small none h = rw (number-stands s at 4 small h) (rw none)

  pub form-refused : {t : ℕ} (d p k : ℕ) → t < 256 ^ 4 → form_of t ≡ unknown → At s at (be 4 t) → ref_item (suc d) p k s at ≡ refuse 4 at 0 0
  unfolding ref_item
  form-refused d p k small none h = rw (number-stands s at 4 small h) (rw none)

  -- ---- object arrays

  -- an unknown unit: 4
  pub array-unit-refused : {u : ℕ} (m : ℕ) → u < 256 ^ 4 → is_array_unit u ≡ false → At s at (be 4 u) → column m s at ≡ refuse 4 at 0 0
  unfolding column
  array-unit-refused m small none h = rw (number-refused s at 4 array_unit small h (ap (λ (z : Bool). unless z 4) none))

  -- behind the unit, a count of doubles other than the number m of objects: 5, before any double is looked for
  pub count-refused : {u n : ℕ} (m : ℕ) → u < 256 ^ 4 → is_array_unit u ≡ true → At s at (be 4 u) → n < 256 ^ 4 → (n ≡ m → ⊥) → At s (at + 4) (be 4 n) → column m s at ≡ refuse 5 (at + 4) 0 0
  unfolding column
  count-refused {u} {n} m small is h few other g =
      rw (judged-ok 4 s at array_unit (sym (number-stands s at 4 small h)) (ap (λ (z : Bool). unless z 4) is)) (rw (number-refused s (at + 4) 4 (doubles m) few g (ap (λ (z : Bool). unless z 5) (ne_eqb n m other))))

  -- behind the key, which ends at e, a type other than `UnFl`: 4 at the type
  pub column-type-refused : {t e : ℕ} (m d p k : ℕ) → id s at ≡ ok tt e → t < 256 ^ 4 → (t ≡ chars "UnFl" → ⊥) → At s e (be 4 t) → array_pair m (suc d) p k s at ≡ refuse 4 e 0 0
  unfolding array_pair
  column-type-refused {t} {e} m d p k key small other h = rw key (rw (number-refused s e 4 column_type small h (ap (λ (z : Bool). unless z 4) (ne_eqb t (chars "UnFl") other))))

  -- ---- a member with no level left: 10 at its first byte, whatever stands there, and where nothing does

  pub deep-item-refused : (p k first : ℕ) → item 0 p k first s at ≡ refuse 10 first 0 0
  unfolding item
  deep-item-refused p k first = refl

  pub deep-pair-refused : (f : ℕ → ℕ → ℕ → Reader (List Row)) (p k : ℕ) → keyed f 0 p k s at ≡ refuse 10 at 0 0
  unfolding keyed
  deep-pair-refused f p k = refl

  pub deep-form-refused : (p k : ℕ) → ref_item 0 p k s at ≡ refuse 10 at 0 0
  unfolding ref_item
  deep-form-refused p k = refl

  pub deep-column-refused : (m p k : ℕ) → array_pair m 0 p k s at ≡ refuse 10 at 0 0
  unfolding array_pair
  deep-column-refused m p k = refl

  -- ---- the file

  -- a version other than 16: 3
  pub version-refused : {v : ℕ} → v < 256 ^ 4 → (v ≡ 16 → ⊥) → At s at (be 4 v) → root s at ≡ refuse 3 at 0 0
  unfolding root
  version-refused {v} small other h = rw (number-refused s at 4 version small h (ap (λ (z : Bool). unless z 3) (ne_eqb v 16 other)))
