-- The shown text of a header string is a part of it: all after the first `=`, and no other, where it begins with `$$$/` and holds one; else all of it.
use Prim.Native.Nat.{ℕ, zero, suc, ◌+◌, ◌*◌, ◌/◌, ◌≤◌, ◌<◌}
use mathlib.Core.Path.{◌≡◌, refl, sym, ap, ◌∙◌}
use mathlib.Core.List.{List, ◌++◌}
use mathlib.Core.Bool.{Bool, true, false}
use mathlib.Core.Logic.{◌⊎◌, inl, inr}
use lib.Dec.{leb, eqb}
use lib.ListN.{length, take, drop, take-append-drop}
use borrow.Author.Count.{below_more}
use borrow.Author.Tests.{le-leb, leb-true, eq-eqb, ne_eqb, eqb-true, eqb-false}
use native.Mathlib.Omega.{arith}
use Rattle.algebra.specs.Reader.{pick}
use Rattle.algebra.specs.Numbers.{num, Bytes}
use Rattle.algebra.proofs.Laws.{num-split}
use Rattle.algebra.proofs.Places.{num-lt}
use Rattle.acb_shown_values.specs.Texts.{has_key, behind_equals, shown_start, shown_text}
use Rattle.acb_shown_values.specs.Promise.{EqualsAt, First, Without}

-- ---- the search

first-behind : (n : ℕ) (s : List ℕ) (i k : ℕ) → k < n → EqualsAt s (i + k) → ((j : ℕ) → j < k → EqualsAt s (i + j) → ⊥) → behind_equals n s (2 * i) ≡ 2 * (i + k) + 2
unfolding behind_equals
first-behind zero s i k h e b = absurd (omega arith)
first-behind (suc n) s i zero h e b =
    let a : 2 * (i + 0) ≡ 2 * i = omega arith in
    rw (eq-eqb (num 2 s (2 * i)) 0x003D (sym (ap (λ (p : ℕ). num 2 s p) a) ∙ e)) (omega arith)
first-behind (suc n) s i (suc k) h e b =
    let a : 2 * (i + 0) ≡ 2 * i = omega arith in
    let next : 2 * i + 2 ≡ 2 * (i + 1) = omega arith in
    let on : (j : ℕ) → i + 1 + j ≡ i + suc j = λ (j : ℕ). omega arith in
    let ne = ne_eqb (num 2 s (2 * i)) 0x003D (λ (w : num 2 s (2 * i) ≡ 0x003D). b 0 (omega arith) (ap (λ (p : ℕ). num 2 s p) a ∙ w)) in
    let ih = first-behind n s (i + 1) k (omega arith) (ap (λ (p : ℕ). num 2 s (2 * p)) (on k) ∙ e) (λ j l w. b (suc j) (omega arith) (sym (ap (λ (p : ℕ). num 2 s (2 * p)) (on j)) ∙ w)) in
    ap (λ (x : Bool). pick x (2 * i + 2) (behind_equals n s (2 * i + 2))) ne ∙ ap (λ (p : ℕ). behind_equals n s p) next ∙ ih ∙ ap (λ (p : ℕ). 2 * p + 2) (on k)

none-behind : (n : ℕ) (s : List ℕ) (i : ℕ) → ((j : ℕ) → j < n → EqualsAt s (i + j) → ⊥) → behind_equals n s (2 * i) ≡ 0
unfolding behind_equals
none-behind zero s i b = refl
none-behind (suc n) s i b =
    let a : 2 * (i + 0) ≡ 2 * i = omega arith in
    let next : 2 * i + 2 ≡ 2 * (i + 1) = omega arith in
    let on : (j : ℕ) → i + 1 + j ≡ i + suc j = λ (j : ℕ). omega arith in
    let ne = ne_eqb (num 2 s (2 * i)) 0x003D (λ (w : num 2 s (2 * i) ≡ 0x003D). b 0 (omega arith) (ap (λ (p : ℕ). num 2 s p) a ∙ w)) in
    let ih = none-behind n s (i + 1) (λ j l w. b (suc j) (omega arith) (sym (ap (λ (p : ℕ). num 2 s (2 * p)) (on j)) ∙ w)) in
    ap (λ (x : Bool). pick x (2 * i + 2) (behind_equals n s (2 * i + 2))) ne ∙ ap (λ (p : ℕ). behind_equals n s p) next ∙ ih

behind-inside : (n : ℕ) (s : List ℕ) (at : ℕ) → behind_equals n s at ≤ at + 2 * n
unfolding behind_equals
behind-inside zero s at = omega arith
behind-inside (suc n) s at = go (eqb (num 2 s at) 0x003D) (behind-inside n s (at + 2))
  where
    go : (b : Bool) → behind_equals n s (at + 2) ≤ at + 2 + 2 * n → pick b (at + 2) (behind_equals n s (at + 2)) ≤ at + 2 * suc n
    go true h = omega arith
    go false h = omega arith

-- ---- what is shown

module _ (s : List ℕ) where
  -- it begins in the string, and so is a part of it
  pub shown-inside : shown_start s ≤ length s
  unfolding shown_start
  shown-inside = go (has_key s)
    where
      go : (b : Bool) → pick b (behind_equals (length s / 2) s 0) 0 ≤ length s
      go true = let h = behind-inside (length s / 2) s 0 in omega arith
      go false = omega arith

  pub shown-part : take (shown_start s) s ++ shown_text s ≡ s
  shown-part = take-append-drop (shown_start s) s

  -- all after the first `=`, and after no other
  pub shown-after-first : has_key s ≡ true → (k : ℕ) → First s k → shown_text s ≡ drop (2 * k + 2) s
  unfolding shown_start
  shown-after-first m k f =
      let zero-on : (j : ℕ) → 0 + j ≡ j = λ (j : ℕ). omega arith in
      let e = first-behind (length s / 2) s 0 k (omega (arith, f.inside)) (ap (λ (p : ℕ). num 2 s (2 * p)) (zero-on k) ∙ f.here)
      (λ j l w. f.before j l (sym (ap (λ (p : ℕ). num 2 s (2 * p)) (zero-on j)) ∙ w)) in
      rw m (ap (λ (p : ℕ). drop p s) (e ∙ ap (λ (p : ℕ). 2 * p + 2) (zero-on k)))

  -- all of a string that does not begin with `$$$/`, or that holds no `=`
  pub shown-whole : (has_key s ≡ false) ⊎ Without s → shown_text s ≡ s
  unfolding shown_start
  shown-whole (inl m) = rw m
  shown-whole (inr w) = go (has_key s)
    where
      none : behind_equals (length s / 2) s 0 ≡ 0
      none = none-behind (length s / 2) s 0 (λ j l e. w.nowhere j (omega arith) (let z : j ≡ 0 + j = omega arith in ap (λ (p : ℕ). num 2 s (2 * p)) z ∙ e))

      go : (b : Bool) → drop (pick b (behind_equals (length s / 2) s 0) 0) s ≡ s
      go true = rw none
      go false = refl

-- a string holds a first `=`, or none: so one of the two theorems says what is shown
first-from : (n : ℕ) (s : List ℕ) (i : ℕ) → 2 * (i + n) ≤ length s → length s < 2 * (i + n) + 2 → ((j : ℕ) → j < i → EqualsAt s j → ⊥) → ((k : ℕ) × First s k) ⊎ Without s
first-from zero s i h l b = inr (record { nowhere = λ j w. b j (omega arith) })
first-from (suc n) s i h l b = go (eqb (num 2 s (2 * i)) 0x003D) refl (λ f. first-from n s (i + 1) (omega arith) (omega arith) f)
  where
    go : (x : Bool) → eqb (num 2 s (2 * i)) 0x003D ≡ x → (((j : ℕ) → j < i + 1 → EqualsAt s j → ⊥) → ((k : ℕ) × First s k) ⊎ Without s) → ((k : ℕ) × First s k) ⊎ Without s
    go true e on = inl (i, record { inside = omega arith; here = eqb-true _ _ e; before = b })
    go false e on = on (below_more (λ (j : ℕ). EqualsAt s j → ⊥) i b (eqb-false _ _ e))

pub first_or_none : (s : List ℕ) → ((k : ℕ) × First s k) ⊎ Without s
first_or_none s = first-from (length s / 2) s 0 (omega arith) (omega arith) (λ j l. absurd (omega arith))

-- ---- a string begins with `$$$/` exactly where its first four units are these

-- four units as one number
four-units : (s : List ℕ) → num 8 s 0 ≡ ((num 2 s 0 * 65536 + num 2 s 2) * 65536 + num 2 s 4) * 65536 + num 2 s 6
four-units s =
    let a : num 8 s 0 ≡ num 6 s 0 * 65536 + num 2 s 6 = num-split 6 2 s 0 in
    let b : num 6 s 0 ≡ num 4 s 0 * 65536 + num 2 s 4 = num-split 4 2 s 0 in
    let c : num 4 s 0 ≡ num 2 s 0 * 65536 + num 2 s 2 = num-split 2 2 s 0 in
    omega arith

pub marked-units : (s : List ℕ) → Bytes s → has_key s ≡ true → (8 ≤ length s) × (num 2 s 0 ≡ 0x0024) × (num 2 s 2 ≡ 0x0024) × (num 2 s 4 ≡ 0x0024) × (num 2 s 6 ≡ 0x002F)
marked-units s bytes m = go (leb 8 (length s)) refl m
  where
    go : (b : Bool) → leb 8 (length s) ≡ b → pick b (eqb (num 8 s 0) 0x0024_0024_0024_002F) false ≡ true → (8 ≤ length s) × (num 2 s 0 ≡ 0x0024) × (num 2 s 2 ≡ 0x0024) × (num 2 s 4 ≡ 0x0024) × (num 2 s 6 ≡ 0x002F)
    go true h k =
        let e : num 8 s 0 ≡ 0x0024_0024_0024_002F = eqb-true _ _ k in
        let f = four-units s in
        let w : num 2 s 0 < 65536 = num-lt s bytes 2 0 in
        let x : num 2 s 2 < 65536 = num-lt s bytes 2 2 in
        let y : num 2 s 4 < 65536 = num-lt s bytes 2 4 in
        let z : num 2 s 6 < 65536 = num-lt s bytes 2 6 in
        (leb-true _ _ h, omega arith, omega arith, omega arith, omega arith)
    go false h k = let z : ◌≡◌ {A = ℕ} 0 1 = cc in absurd (omega arith)

pub units-marked : (s : List ℕ) → 8 ≤ length s → num 2 s 0 ≡ 0x0024 → num 2 s 2 ≡ 0x0024 → num 2 s 4 ≡ 0x0024 → num 2 s 6 ≡ 0x002F → has_key s ≡ true
units-marked s h a b c d =
    let f = four-units s in
    let e : num 8 s 0 ≡ 0x0024_0024_0024_002F = omega arith in
    rw (le-leb 8 (length s) h) (eq-eqb _ _ e)
