-- Laws of text units and names that the proofs of the code cite. Assumes nothing.
use Prim.Native.Nat.{ℕ, zero, suc, ◌+◌, ◌*◌, ◌-◌, ◌/◌, ◌%◌, ◌≤◌, ◌<◌}
use mathlib.Core.Path.{◌≡◌, refl, sym, ap, ap₂, ◌∙◌}
use mathlib.Core.List.{List, [], ◌∷◌}
use mathlib.Core.Bool.{Bool, true, false, not}
use lib.Dec.{eqb}
use lib.ListN.{length}
use borrow.Author.Tests.{eq-eqb, ne_eqb, lt-ltb}
use native.Mathlib.Omega.{arith}
use native.Mathlib.Decide.{ℕ_discrete, dec_le}
use native.Mathlib.Nat.{add-zero, sub-zero, lt_of_not-le}
use Rattle.algebra.specs.Numbers.{num, nums}
use Rattle.algebra.specs.Reader.{Res, ok, refuse, pick, field, done, rule, unless, body, number_of}
use Rattle.algebra.specs.Faults.{first_of}
use Rattle.algebra.specs.Text.{any_zero, closed, front, Name, closed_units, name, text, place}
use Rattle.algebra.proofs.Laws.{body-in, body-short}
use Rattle.algebra.proofs.Places.{length-nums}

-- to take a name's place alone changes neither the next place nor a refusal
pub done-place : (m : Res Name) → done (place m) ≡ done m
done-place (ok nm q) = refl
done-place (refuse x p r f) = refl

-- a number of two bytes is zero where it is with its bytes swapped
pub swapped-zero : (x u : ℕ) → 256 * (x % 256) + x / 256 ≡ u → eqb x 0 ≡ eqb u 0
swapped-zero x u e = elim (ℕ_discrete u 0) [
  | yes h ↦ let k : x ≡ 0 = omega arith in eq-eqb _ _ k ∙ sym (eq-eqb _ _ h)
  | no h ↦ let k : x ≡ 0 → ⊥ = λ z. h (omega arith) in ne_eqb _ _ k ∙ sym (ne_eqb _ _ h)
]

-- ---- a loop that looks for a zero unit: what was found before, or what is left to look at

module _ (s : List ℕ) (at n : ℕ) where
  any_step : (i : ℕ) → i < n → any_zero (nums 2 (n - i) s (at + 2 * i)) ≡ pick (eqb (num 2 s (at + 2 * i)) 0) true (any_zero (nums 2 (n - (i + 1)) s (at + 2 * (i + 1))))
  unfolding nums any_zero
  any_step i h =
      let m : n - i ≡ suc (n - (i + 1)) = omega arith in
      let p : at + 2 * i + 2 ≡ at + 2 * (i + 1) = omega arith in
      ap (λ (k : ℕ). any_zero (nums 2 k s (at + 2 * i))) m ∙ ap (λ (k : ℕ). pick (eqb (num 2 s (at + 2 * i)) 0) true (any_zero (nums 2 (n - (i + 1)) s k))) p

  pub any-start : any_zero (nums 2 n s at) ≡ any_zero (nums 2 (n - 0) s (at + 0))
  any-start = rw (sub-zero, add-zero)

  module _ (all found : Bool) (i : ℕ) (inv : all ≡ pick found true (any_zero (nums 2 (n - i) s (at + 2 * i)))) where
    pub any_found : i < n → eqb (num 2 s (at + 2 * i)) 0 ≡ true → all ≡ true
    any_found h e = inv ∙ go found
      where
        go : (f : Bool) → pick f true (any_zero (nums 2 (n - i) s (at + 2 * i))) ≡ true
        go true = refl
        go false = any_step i h ∙ rw e

    pub any-on : i < n → eqb (num 2 s (at + 2 * i)) 0 ≡ false → all ≡ pick found true (any_zero (nums 2 (n - (i + 1)) s (at + 2 * (i + 1))))
    any-on h e = inv ∙ ap (λ (b : Bool). pick found true b) (any_step i h ∙ rw e)

    pub any-end : n ≤ i → all ≡ found
    unfolding nums any_zero
    any-end h = inv ∙ ap (λ (k : ℕ). pick found true (any_zero (nums 2 k s (at + 2 * i)))) (let m : n - i ≡ 0 = omega arith in m) ∙ go found
      where
        go : (f : Bool) → pick f true false ≡ f
        go true = refl
        go false = refl

-- ---- the closing zero

-- units are closed where the last is zero and none before it
pub closed-last : (n : ℕ) (s : List ℕ) (at : ℕ) → closed (nums 2 (suc n) s at) ≡ pick (any_zero (nums 2 n s at)) false (eqb (num 2 s (at + 2 * n)) 0)
unfolding closed nums any_zero
closed-last zero s at = rw add-zero (go (eqb (num 2 s at) 0))
  where
    go : (b : Bool) → pick b true false ≡ b
    go true = refl
    go false = refl
closed-last (suc n) s at =
    let p : at + 2 + 2 * n ≡ at + 2 * suc n = omega arith in
    let ih = closed-last n s (at + 2) ∙ ap (λ (k : ℕ). pick (any_zero (nums 2 n s (at + 2))) false (eqb (num 2 s k) 0)) p in
    go (eqb (num 2 s at) 0) _ (any_zero (nums 2 n s (at + 2))) (eqb (num 2 s (at + 2 * suc n)) 0) ih
  where
    go : (b x a y : Bool) → x ≡ pick a false y → pick b false x ≡ pick (pick b true a) false y
    go true x a y e = refl
    go false x a y e = e

module _ (n : ℕ) (s : List ℕ) (at : ℕ) where
  pub closed_none : n ≡ 0 → closed (nums 2 n s at) ≡ false
  unfolding closed nums
  closed_none e = rw e

  closed-pos : 0 < n → closed (nums 2 n s at) ≡ pick (any_zero (nums 2 (n - 1) s at)) false (eqb (num 2 s (at + 2 * (n - 1))) 0)
  closed-pos h = let e : n ≡ suc (n - 1) = omega arith in ap (λ (k : ℕ). closed (nums 2 k s at)) e ∙ closed-last (n - 1) s at

  pub closed-open : 0 < n → eqb (num 2 s (at + 2 * (n - 1))) 0 ≡ false → closed (nums 2 n s at) ≡ false
  closed-open h e = closed-pos h ∙ rw e (go (any_zero (nums 2 (n - 1) s at)))
    where
      go : (b : Bool) → pick b false false ≡ false
      go true = refl
      go false = refl

  pub closed_is : 0 < n → eqb (num 2 s (at + 2 * (n - 1))) 0 ≡ true → closed (nums 2 n s at) ≡ not (any_zero (nums 2 (n - 1) s at))
  closed_is h e = closed-pos h ∙ rw e (go (any_zero (nums 2 (n - 1) s at)))
    where
      go : (b : Bool) → pick b false true ≡ not b
      go true = refl
      go false = refl

-- ---- units with no zero

module _ (n : ℕ) (s : List ℕ) (at : ℕ) where
  pub text-short : length s - at < n * 2 → done (text n s at) ≡ refuse 2 at 0 0
  unfolding text
  text-short h = rw (body-short 2 s at n h)

  pub text-zero : n * 2 ≤ length s - at → any_zero (nums 2 n s at) ≡ true → done (text n s at) ≡ refuse 8 at 0 0
  unfolding text
  text-zero h e = rw (body-in 2 s at n h) (rw e)

  pub text-fine : (q : ℕ) → n * 2 ≤ length s - at → any_zero (nums 2 n s at) ≡ false → at + n * 2 ≡ q → done (text n s at) ≡ ok tt q
  unfolding text
  text-fine q h e f = rw (body-in 2 s at n h) (rw e (ap (λ (k : ℕ). ok tt k) f))

pub text-none : (n : ℕ) (s : List ℕ) (at : ℕ) → n ≡ 0 → done (text n s at) ≡ ok tt at
unfolding nums any_zero
text-none n s at e = ap (λ (k : ℕ). done (text k s at)) e ∙ text-fine 0 s at at (omega arith) refl (omega arith)

-- ---- names

pub length_front : (l : List ℕ) → length (front l) ≡ length l - 1
unfolding front
length_front [] = refl
length_front (u ∷ []) = refl
length_front (u ∷ v ∷ us) = let h = length_front (v ∷ us) in omega arith

-- a name's units: cut, badly closed, or fine
module _ (at n : ℕ) (s : List ℕ) (first : ℕ) where
  pub units_cut : length s - first < n * 2 → place (closed_units at n s first) ≡ refuse 2 first 0 0
  units_cut k = rw (body-short 2 s first n k)

  pub units_open : n * 2 ≤ length s - first → closed (nums 2 n s first) ≡ false → place (closed_units at n s first) ≡ refuse 8 at 0 0
  units_open k z = rw (body-in 2 s first n k, z)

  pub units-is : (q : ℕ) → n * 2 ≤ length s - first → closed (nums 2 n s first) ≡ true → first + n * 2 ≡ q → place (closed_units at n s first) ≡ ok (first, n - 1) q
  units-is q k z f =
      let l : length (front (nums 2 n s first)) ≡ n - 1 = length_front (nums 2 n s first) ∙ ap (λ (i : ℕ). i - 1) (length-nums 2 n s first) in
      rw (body-in 2 s first n k, z) (ap₂ (λ (i j : ℕ). ok (first, i) j) l f)

-- a name by its count: none is there, or its units are what they are behind it
module _ (w : ℕ) (s : List ℕ) (at : ℕ) where
  pub name-short : refuse 2 at 0 0 ≡ field w s at → place (name w s at) ≡ refuse 2 at 0 0
  unfolding name
  name-short e = rw (← e)

  pub name-counted : (n first : ℕ) → ok n first ≡ field w s at → place (name w s at) ≡ place (closed_units at n s first)
  unfolding name
  name-counted zero first e = rw (← e) (sym (units_open at 0 s first (omega arith) (closed_none 0 s first refl)))
  name-counted (suc n) first e = rw (← e) (rw (lt-ltb 0 (suc n) (omega arith)))

-- units of which none is zero: the number by how they are found and what they are
pub text-number : (n : ℕ) (s : List ℕ) (at : ℕ) → number_of (text n s at) ≡ first_of (number_of (body 2 n s at)) (pick (any_zero (nums 2 n s at)) 8 0)
unfolding text
text-number n s at = elim (dec_le (n * 2) (length s - at)) [
  | yes h ↦ rw (body-in 2 s at n h) (closing (any_zero (nums 2 n s at)))
  | no h ↦ rw (body-short 2 s at n (lt_of_not-le h))
]
  where
    closing : (c : Bool) → number_of (rule (unless (not c) 8) at (ok (nums 2 n s at) (at + n * 2))) ≡ pick c 8 0
    closing true = refl
    closing false = refl
