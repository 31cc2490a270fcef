-- The page rule: the sample of a page is the record of the page, no dummy, that has before it exactly as many records of the page that are no dummies
-- as the offset says, or, if there are fewer, all the others; and a page has no sample exactly where it has no such record.
use Prim.Native.Nat.{ℕ, zero, suc, ◌+◌, ◌-◌, ◌*◌, ◌≤◌, ◌<◌, min}
use mathlib.Core.Path.{◌≡◌, refl, sym, ap, ◌∙◌}
use mathlib.Core.List.{List, [], ◌∷◌}
use mathlib.Core.Bool.{Bool, true, false}
use lib.Dec.{ltb}
use lib.ListN.{length, get_or, take, drop, length-take, length-drop}
use lib.Seq.{get_or-take, get_or-drop, take-take}
use borrow.Author.Tests.{lt-ltb, ltb-true}
use native.Mathlib.Omega.{arith}
use Rattle.algebra.specs.Reader.{pick}
use Rattle.acb_shown_values.specs.Pages.{is, none, non_dummies, numbered, sample_from, sample_of}
use Rattle.acb_shown_values.specs.Answer.{record_is, refused, page_of}
use Rattle.acb_shown_values.specs.Promise.{count_shown, from_page, Shows}

-- ---- the records that are no dummies

length-shown : (i : ℕ) (ds : List Bool) → length (non_dummies i ds) ≡ count_shown ds
unfolding non_dummies count_shown
length-shown i [] = refl
length-shown i (true ∷ ds) = length-shown (i + 1) ds
length-shown i (false ∷ ds) = ap suc (length-shown (i + 1) ds)

-- the one numbered k among them stands at m, with k before it
record Placed (i : ℕ) (ds : List Bool) (k j : ℕ) : Type 0 where
  m : ℕ
  stands : j ≡ i + m
  inside : m < length ds
  real : get_or ds m true ≡ false
  earlier : count_shown (take m ds) ≡ k

placed : (i : ℕ) (ds : List Bool) (k : ℕ) → k < count_shown ds → Placed i ds k (get_or (non_dummies i ds) k 0)
unfolding non_dummies count_shown
placed i [] k h = absurd (omega arith)
placed i (true ∷ ds) k h =
    let r = placed (i + 1) ds k h in
    let e : i + 1 + r.m ≡ i + suc r.m = omega arith in
    record { m = suc r.m; stands = r.stands ∙ e; inside = omega (arith, r.inside); real = r.real; earlier = r.earlier }
placed i (false ∷ ds) zero h = record { m = 0; stands = omega arith; inside = omega arith; real = refl; earlier = refl }
placed i (false ∷ ds) (suc k) h =
    let r = placed (i + 1) ds k (omega arith) in
    let e : i + 1 + r.m ≡ i + suc r.m = omega arith in
    record { m = suc r.m; stands = r.stands ∙ e; inside = omega (arith, r.inside); real = r.real; earlier = ap suc r.earlier }

-- and the one that stands at m is numbered by those before it
numbered-at : (i : ℕ) (ds : List Bool) (m : ℕ) → m < length ds → get_or ds m true ≡ false → get_or (non_dummies i ds) (count_shown (take m ds)) 0 ≡ i + m
unfolding non_dummies count_shown
numbered-at i [] m h e = absurd (omega arith)
numbered-at i (true ∷ ds) zero h e = let z : ◌≡◌ {A = ℕ} 0 1 = cc in absurd (omega arith)
numbered-at i (true ∷ ds) (suc m) h e = let a : i + 1 + m ≡ i + suc m = omega arith in numbered-at (i + 1) ds m (omega arith) e ∙ a
numbered-at i (false ∷ ds) zero h e = omega arith
numbered-at i (false ∷ ds) (suc m) h e = let a : i + 1 + m ≡ i + suc m = omega arith in numbered-at (i + 1) ds m (omega arith) e ∙ a

some-shown : (ds : List Bool) (m : ℕ) → m < length ds → get_or ds m true ≡ false → 0 < count_shown ds
unfolding count_shown
some-shown [] m h e = absurd (omega arith)
some-shown (true ∷ ds) zero h e = let z : ◌≡◌ {A = ℕ} 0 1 = cc in absurd (omega arith)
some-shown (true ∷ ds) (suc m) h e = some-shown ds m (omega arith) e
some-shown (false ∷ ds) m h e = omega arith

-- the sample among some records: none, or the one numbered by the offset or the last
numbered-some : (k : ℕ) (l : List ℕ) → 0 < length l → numbered k l ≡ is (get_or l (min k (length l - 1)) 0)
unfolding numbered
numbered-some k [] h = absurd (omega arith)
numbered-some k (i ∷ more) h = let e : length more ≡ suc (length more) - 1 = omega arith in ap (λ (n : ℕ). is (get_or (i ∷ more) (min k n) 0)) e

numbered_is : (k : ℕ) (l : List ℕ) {i : ℕ} → numbered k l ≡ is i → 0 < length l
unfolding numbered
numbered_is k [] e = let z : ◌≡◌ {A = ℕ} 0 1 = cc in absurd (omega arith)
numbered_is k (i ∷ more) e = omega arith

-- ---- the page rule

module _ (size offset p : ℕ) (ds : List Bool) where
  abbrev page : List Bool
  page = from_page size p size ds

  length-page : length page ≡ min size (length ds - p * size)
  length-page = length-take size (drop (p * size) ds) ∙ ap (min size) (length-drop (p * size) ds)

  real-in : (m : ℕ) → m < size → get_or page m true ≡ get_or ds (p * size + m) true
  real-in m h = get_or-take size (drop (p * size) ds) m true h ∙ get_or-drop (p * size) ds m true

  -- what a page with a record to show shows
  sample-some : 0 < count_shown page → p * size < length ds → sample_of size offset p ds ≡ is (get_or (non_dummies (p * size) page) (min offset (count_shown page - 1)) 0)
  unfolding sample_of
  sample-some h l =
      let n = length-shown (p * size) page in
      rw (lt-ltb (p * size) (length ds) l) (numbered-some offset (non_dummies (p * size) page) (omega (arith, n)) ∙ ap (λ (k : ℕ). is (get_or (non_dummies (p * size) page) (min offset (k - 1)) 0)) n)

  sample-is : {i : ℕ} → sample_of size offset p ds ≡ is i → (p * size < length ds) × (0 < count_shown page)
  unfolding sample_of
  sample-is {i} e = go (ltb (p * size) (length ds)) refl e
    where
      go : (b : Bool) → ltb (p * size) (length ds) ≡ b → pick b (sample_from (p * size) offset page) none ≡ is i → (p * size < length ds) × (0 < count_shown page)
      go true h k = (ltb-true _ _ h, omega (arith, numbered_is offset (non_dummies (p * size) page) k, length-shown (p * size) page))
      go false h k = let z : ◌≡◌ {A = ℕ} 0 1 = cc in absurd (omega arith)

  -- a page that shows a record shows that one
  pub sample-shows : (i : ℕ) → sample_of size offset p ds ≡ is i → Shows size offset p ds i
  sample-shows i e =
      let h = sample-is e in
      let r = placed (p * size) page (min offset (count_shown page - 1)) (omega (arith, h.1)) in
      let j : is i ≡ is (get_or (non_dummies (p * size) page) (min offset (count_shown page - 1)) 0) = sym e ∙ sample-some h.1 h.0 in
      let k : i ≡ get_or (non_dummies (p * size) page) (min offset (count_shown page - 1)) 0 = cc in
      let at : i ≡ p * size + r.m = k ∙ r.stands in
      let n = length-page in
      let small : r.m < size = omega (arith, r.inside) in
      let back : i - p * size ≡ r.m = omega arith in record {
        from = omega arith;
        to = omega arith;
        there = omega (arith, r.inside);
        real = ap (λ (x : ℕ). get_or ds x true) at ∙ sym (real-in r.m small) ∙ r.real;
        before = ap (λ (x : ℕ). count_shown (from_page size p x ds)) back ∙ ap count_shown (sym (take-take r.m size (drop (p * size) ds) (omega arith))) ∙ r.earlier;
      }

  module _ (i : ℕ) (from : p * size ≤ i) (to : i < p * size + size) (there : i < length ds) (real : get_or ds i true ≡ false) where
    in-page : (i - p * size < length page) × (get_or page (i - p * size) true ≡ false)
    in-page =
        let n = length-page in
        let back : p * size + (i - p * size) ≡ i = omega arith in
        (omega arith, real-in (i - p * size) (omega arith) ∙ ap (λ (x : ℕ). get_or ds x true) back ∙ real)

    page-some : 0 < count_shown page
    page-some = some-shown page (i - p * size) in-page.0 in-page.1

  -- and the record that is that one is shown: there is one at most
  pub shows-sample : (i : ℕ) → Shows size offset p ds i → sample_of size offset p ds ≡ is i
  shows-sample i w =
      let h = in-page i w.from w.to w.there w.real in
      let back : p * size + (i - p * size) ≡ i = omega (arith, w.from) in
      let t = take-take (i - p * size) size (drop (p * size) ds) (omega (arith, w.from, w.to)) in
      sample-some (page-some i w.from w.to w.there w.real) (omega (arith, w.from, w.there))
      ∙ ap (λ (k : ℕ). is (get_or (non_dummies (p * size) page) k 0)) (sym (ap count_shown t ∙ w.before))
      ∙ ap is (numbered-at (p * size) page (i - p * size) h.0 h.1 ∙ back)

  -- a page without a sample has dummies alone, or no record
  pub none-shows : sample_of size offset p ds ≡ none → (i : ℕ) → p * size ≤ i → i < p * size + size → i < length ds → get_or ds i true ≡ true
  none-shows e i from to there = go (get_or ds i true) refl
    where
      go : (b : Bool) → get_or ds i true ≡ b → get_or ds i true ≡ true
      go true h = h
      go false h =
          let some = sample-some (page-some i from to there h) (omega arith) in
          let z : ◌≡◌ {A = ℕ} 0 1 = cc in
          absurd (omega arith)

-- ---- P10: 7 colours, size 3, offset 2, no dummies

abbrev pub seven : List Bool
seven = false ∷ false ∷ false ∷ false ∷ false ∷ false ∷ false ∷ []

pub pages-of-seven :
    page_of (sample_of 3 2 0 seven) ∷ page_of (sample_of 3 2 2 seven) ∷ page_of (sample_of 3 2 3 seven) ∷ []
    ≡ record_is 2 ∷ record_is 6 ∷ refused 12 0 ∷ []
unfolding sample_of non_dummies numbered
pages-of-seven = refl
