-- Laws of samples, which the proofs of the code cite. Assumes nothing.
use Prim.Native.Nat.{ℕ, zero, suc, ◌+◌, ◌-◌, ◌*◌, ◌/◌, ◌≤◌, ◌<◌, min}
use mathlib.Core.Path.{◌≡◌, refl, sym, ap, ap₂, ◌∙◌}
use mathlib.Core.List.{List, [], ◌∷◌}
use mathlib.Core.Bool.{Bool, true, false}
use lib.Dec.{ltb}
use lib.ListN.{length, get_or, take, drop, length-drop}
use borrow.Author.Tests.{lt-ltb, le-ltb, ltb-true}
use native.Mathlib.Omega.{arith}
use native.Mathlib.Nat.{mul-le-mul_right, div-mul-le_self, lt-div-mul-add}
use Rattle.algebra.specs.Reader.{pick}
use Rattle.acb_shown_values.specs.Pages.{none, non_dummies, numbered, sample_from, sample_of, records, absent, page_range}
use Rattle.acb_shown_values.specs.Answer.{Told, record_is, refused, page_of}

-- ---- of some records the one numbered k, or the last, or x where there is none

unfoldable pub or_last : Told → ℕ → List ℕ → Told
or_last x k [] = x
or_last x zero (i ∷ more) = record_is i
or_last x (suc k) (i ∷ more) = or_last (record_is i) k more

some-numbered : (x : Told) (k i : ℕ) (more : List ℕ) → or_last x k (i ∷ more) ≡ record_is (get_or (i ∷ more) (min k (length more)) 0)
unfolding or_last
some-numbered x zero i more = let e : min 0 (length more) ≡ 0 = omega arith in rw e
some-numbered x (suc k) i [] = let e : min (suc k) 0 ≡ 0 = omega arith in rw e
some-numbered x (suc k) i (j ∷ more) = let e : min (suc k) (suc (length more)) ≡ suc (min k (length more)) = omega arith in rw e (some-numbered (record_is i) k j more)

pub numbered-or-last : (k : ℕ) (l : List ℕ) → page_of (numbered k l) ≡ or_last (refused 12 0) k l
unfolding numbered or_last
numbered-or-last k [] = refl
numbered-or-last k (i ∷ more) = sym (some-numbered (refused 12 0) k i more)

-- ---- a loop over records, of which the first is numbered i, by whether each is a dummy:
-- `all` is what the whole page shows, x what it shows so far, and k more records are to pass

pub sample-start : (first k : ℕ) (ds : List Bool) (x : Told) → x ≡ refused 12 0 → page_of (sample_from first k ds) ≡ or_last x k (non_dummies first ds)
sample-start first k ds x e = numbered-or-last k _ ∙ ap (λ (y : Told). or_last y k (non_dummies first ds)) (sym e)

module _ (all x : Told) (k i : ℕ) {ds : List Bool} (inv : all ≡ or_last x k (non_dummies i ds)) where
  module _ {d : Bool} {more : List Bool} (is : ds ≡ d ∷ more) where
    by : Bool → Told
    by b = or_last x k (pick b (non_dummies (i + 1) more) (i ∷ non_dummies (i + 1) more))

    turn : all ≡ by d
    unfolding non_dummies by
    turn = inv ∙ ap (λ (l : List Bool). or_last x k (non_dummies i l)) is

    -- a dummy is passed over
    pub sample-dummy : d ≡ true → all ≡ or_last x k (non_dummies (i + 1) more)
    unfolding by
    sample-dummy h = turn ∙ ap by h

    pub sample-found : d ≡ false → k ≡ 0 → all ≡ record_is i
    unfolding or_last by
    sample-found h e = turn ∙ ap by h ∙ rw e

    pub sample-on : d ≡ false → (k ≡ 0 → ⊥) → all ≡ or_last (record_is i) (k - 1) (non_dummies (i + 1) more)
    unfolding or_last by
    sample-on h e = let n : k ≡ suc (k - 1) = omega arith in turn ∙ ap by h ∙ ap (λ (m : ℕ). or_last x m (i ∷ non_dummies (i + 1) more)) n

  pub sample-end : ds ≡ [] → all ≡ x
  unfolding or_last non_dummies
  sample-end h = inv ∙ ap (λ (l : List Bool). or_last x k (non_dummies i l)) h

-- ---- which records a page has

-- p × size by division, which cannot pass the largest number
pub page-far : (n size p : ℕ) → (size ≡ 0 → ⊥) → n / size < p → n ≤ p * size
page-far n size p z h = let m : suc (n / size) * size ≤ p * size = mul-le-mul_right size h in omega (arith, lt-div-mul-add {a = n} {b = size} (omega arith))

pub page-near : (n size p : ℕ) → p ≤ n / size → p * size ≤ n
page-near n size p h = let m : p * size ≤ n / size * size = mul-le-mul_right size h in omega (arith, div-mul-le_self n size)

module _ (n size p : ℕ) where
  pub range-absent : n ≤ p * size → page_range n size p ≡ absent
  range-absent h = rw (le-ltb (p * size) n h)

  pub range-there : p * size < n → page_range n size p ≡ records (p * size) (p * size + min size (n - p * size))
  range-there h = rw (lt-ltb (p * size) n h)

  pub range-inv : {first end : ℕ} → page_range n size p ≡ records first end → (first ≤ end) × (end ≤ n) × (first < n)
  range-inv {first} {end} e = go (ltb (p * size) n) refl e
    where
      go : (b : Bool) → ltb (p * size) n ≡ b → pick b (records (p * size) (p * size + min size (n - p * size))) absent ≡ records first end → (first ≤ end) × (end ≤ n) × (first < n)
      go true h k =
          let l : p * size < n = ltb-true _ _ h in
          let f : p * size ≡ first = cc in
          let g : p * size + min size (n - p * size) ≡ end = cc in
          (omega arith, omega arith, omega arith)
      go false h k = let z : ◌≡◌ {A = ℕ} 0 1 = cc in absurd (omega arith)

-- ---- the sample of a page, from its records

take-most : {A : Type 0} (k : ℕ) (l : List A) → take k l ≡ take (min k (length l)) l
take-most zero l = let e : min 0 (length l) ≡ 0 = omega arith in rw e
take-most (suc k) [] = let e : min (suc k) 0 ≡ 0 = omega arith in rw e
take-most (suc k) (a ∷ l) = let e : min (suc k) (suc (length l)) ≡ suc (min k (length l)) = omega arith in rw e (ap (λ m. a ∷ m) (take-most k l))

module _ (n size offset p : ℕ) (ds : List Bool) (counts : length ds ≡ n) where
  abbrev end : ℕ
  end = p * size + min size (n - p * size)

  sample-by : (b : Bool) → ltb (p * size) n ≡ b → sample_of size offset p ds ≡ pick b (sample_from (p * size) offset (take (min size (n - p * size)) (drop (p * size) ds))) none
  unfolding sample_of
  sample-by b e =
      let l : length (drop (p * size) ds) ≡ n - p * size = length-drop (p * size) ds ∙ ap (λ (k : ℕ). k - p * size) counts in
      let t : take size (drop (p * size) ds) ≡ take (min size (n - p * size)) (drop (p * size) ds) = take-most size (drop (p * size) ds) ∙ ap (λ (k : ℕ). take (min size k) (drop (p * size) ds)) l in
      ap₂ (λ (x : Bool) (y : List Bool). pick x (sample_from (p * size) offset y) none) (ap (ltb (p * size)) counts ∙ e) t

  -- no such page, or a page of the records from `first` to before `end`
  pub page-absent : page_range n size p ≡ absent → sample_of size offset p ds ≡ none
  page-absent e = go (ltb (p * size) n) refl e
    where
      go : (b : Bool) → ltb (p * size) n ≡ b → pick b (records (p * size) end) absent ≡ absent → sample_of size offset p ds ≡ none
      go true h k = let z : ◌≡◌ {A = ℕ} 0 1 = cc in absurd (omega arith)
      go false h k = sample-by false h

  pub page-there : {first stop : ℕ} → page_range n size p ≡ records first stop → sample_of size offset p ds ≡ sample_from first offset (take (stop - first) (drop first ds))
  page-there {first} {stop} e = go (ltb (p * size) n) refl e
    where
      go : (b : Bool) → ltb (p * size) n ≡ b → pick b (records (p * size) end) absent ≡ records first stop → sample_of size offset p ds ≡ sample_from first offset (take (stop - first) (drop first ds))
      go true h k =
          let f : p * size ≡ first = cc in
          let g : end ≡ stop = cc in
          let m : min size (n - p * size) ≡ stop - p * size = omega arith in
          sample-by true h ∙ ap (λ (x : ℕ). sample_from (p * size) offset (take x (drop (p * size) ds))) m ∙ ap (λ (x : ℕ). sample_from x offset (take (stop - x) (drop x ds))) f
      go false h k = let z : ◌≡◌ {A = ℕ} 0 1 = cc in absurd (omega arith)
