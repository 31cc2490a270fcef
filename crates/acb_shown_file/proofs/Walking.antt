-- Which records of a file or of a table are dummies, and what a page then shows. Assumes nothing.
use Prim.Native.Nat.{ℕ, zero, suc, ◌+◌, ◌-◌, ◌/◌, ◌≤◌, min}
use mathlib.Core.Path.{◌≡◌, refl, sym, ap, ap₂, ◌∙◌, subst}
use mathlib.Core.List.{List, [], ◌∷◌, map}
use mathlib.Core.Bool.{Bool}
use lib.ListN.{length, take, drop}
use lib.Dec.{eqb, eqb-suc-zero}
use native.Mathlib.Omega.{arith}
use native.Mathlib.Nat.{add-zero}
use Rattle.algebra.specs.Numbers.{counted}
use Rattle.algebra.specs.Table.{rows}
use Rattle.algebra.specs.Filling.{Accepted}
use Rattle.algebra.specs.Text.{is_empty}
use Rattle.algebra.proofs.Counted.{length-counted}
use Rattle.algebra.proofs.Exact.{length-map}
use Rattle.acb.specs.Reading.{Entry, acb}
use Rattle.acb.specs.Row.{width, taken, given_of}
use Rattle.acb_judge.specs.Answer.{Report, report}
use Rattle.acb_read.specs.Walked.{passed, walked}
use Rattle.acb_read.proofs.Walking.{walked_from}
use Rattle.acb_write_judge.specs.scaffold.Parts.{given_at}
use Rattle.acb_shown_values.specs.Pages.{sample_from, sample_of, page_range, records, absent}
use Rattle.acb_shown_values.specs.Answer.{refused as page-refused, page_of}
use Rattle.acb_shown_values.proofs.Sampling.{range-inv, page-absent, page-there}
use Rattle.acb_shown_file.specs.View.{dummy, unnamed, dummies_in, page_at}

-- ---- parts of lists

take-map : {A B : Type 0} (f : A → B) (n : ℕ) (l : List A) → take n (map f l) ≡ map f (take n l)
take-map f zero l = refl
take-map f (suc n) [] = refl
take-map f (suc n) (a ∷ l) = ap (λ m. f a ∷ m) (take-map f n l)

part-map : {A B : Type 0} (f : A → B) (k n : ℕ) (l : List A) → take n (drop k (map f l)) ≡ map f (take n (drop k l))
part-map f zero n l = take-map f n l
part-map f (suc k) n [] = take-map f n []
part-map f (suc k) n (a ∷ l) = part-map f k n l

module _ {A : Type 0} (f : ℕ → A) where
  take_counted : (m n i : ℕ) → m ≤ n → take m (counted f n i) ≡ counted f m i
  unfolding counted
  take_counted zero n i h = refl
  take_counted (suc m) zero i h = absurd (omega arith)
  take_counted (suc m) (suc n) i h = ap (λ l. f i ∷ l) (take_counted m n (i + 1) (omega arith))

  part-counted : (k m n i : ℕ) → k + m ≤ n → take m (drop k (counted f n i)) ≡ counted f m (i + k)
  unfolding counted
  part-counted zero m n i h = take_counted m n i (omega arith) ∙ ap (counted f m) (sym (add-zero i))
  part-counted (suc k) m zero i h = absurd (omega arith)
  part-counted (suc k) m (suc n) i h = let e : i + 1 + k ≡ i + suc k = omega arith in part-counted k m n (i + 1) (omega arith) ∙ ap (counted f m) e

-- ---- dummies

few-units : (us : List ℕ) → eqb (length us) 0 ≡ is_empty us
few-units [] = refl
few-units (u ∷ us) = eqb-suc-zero (length us)

pub same-dummies : (es : List Entry) → map unnamed (map given_of es) ≡ map dummy es
same-dummies [] = refl
same-dummies (e ∷ es) = ap₂ (λ (d : Bool) (ds : List Bool). d ∷ ds) (few-units e.name.units) (same-dummies es)

-- ---- what a page of a file shows

module _ (s : List ℕ) (page : ℕ) {b : Report} (a : Accepted report (acb s) b) where
  abbrev ds : List Bool
  ds = map dummy a.0.entries

  counts : length ds ≡ b.count
  counts = length-map dummy a.0.entries ∙ ap (λ (r : Report). r.count) a.3

  shows : page_of (sample_of b.header.size b.header.offset page ds) ≡ page_at page (acb s)
  shows = ap (λ (r : Report). page_of (sample_of r.header.size r.header.offset page ds)) (sym a.3) ∙ sym (ap (page_at page) a.2)

  pub page-none : page_range b.count b.header.size page ≡ absent → page-refused 12 0 ≡ page_at page (acb s)
  page-none e = sym (ap page_of (page-absent b.count b.header.size b.header.offset page ds counts e)) ∙ shows

  pub page-shows : {i end : ℕ} → page_range b.count b.header.size page ≡ records i end
      → page_of (sample_from i b.header.offset (map unnamed (walked b.header.space s (passed b.header.space s b.first i) (end - i)))) ≡ page_at page (acb s)
  page-shows {i} {end} e =
      let v = range-inv b.count b.header.size page e in
      let es : List Entry = a.0.entries in
      let n : length es ≡ b.count = ap (λ (r : Report). r.count) a.3 in
      let w : walked a.0.header.numbers.space s (passed a.0.header.numbers.space s a.0.first i) (end - i) ≡ map given_of (take (end - i) (drop i es)) = walked_from s a.2 i (end - i) (omega arith) in
      let x : walked b.header.space s (passed b.header.space s b.first i) (end - i) ≡ map given_of (take (end - i) (drop i es)) =
      subst (λ (r : Report). walked r.header.space s (passed r.header.space s r.first i) (end - i) ≡ map given_of (take (end - i) (drop i es))) a.3 w in
      ap (λ (l : List Bool). page_of (sample_from i b.header.offset l)) (ap (map unnamed) x ∙ same-dummies (take (end - i) (drop i es)) ∙ sym (part-map dummy i (end - i) es))
      ∙ sym (ap page_of (page-there b.count b.header.size b.header.offset page ds counts e)) ∙ shows

-- ---- what a page of a table shows

module _ (t : List ℕ) (n count size offset page : ℕ) (is : n ≡ min count (length t / width)) where
  at : ℕ → List Bool
  at k = map unnamed (rows width taken t k 0)

  sized : length (at n) ≡ n
  unfolding at
  sized = length-map unnamed (rows width taken t n 0) ∙ length-counted (given_at t) n 0

  told : page_of (sample_of size offset page (at n)) ≡ page_of (sample_of size offset page (dummies_in t count))
  unfolding at
  told = ap (λ (k : ℕ). page_of (sample_of size offset page (map unnamed (rows width taken t k 0)))) is

  pub table_none : page_range n size page ≡ absent → page-refused 12 0 ≡ page_of (sample_of size offset page (dummies_in t count))
  table_none e = sym (ap page_of (page-absent n size offset page (at n) sized e)) ∙ told

  pub table-shows : {first end : ℕ} → page_range n size page ≡ records first end → page_of (sample_from first offset (map unnamed (rows width taken t (end - first) first))) ≡ page_of (sample_of size offset page (dummies_in t count))
  unfolding at
  table-shows {first} {end} e =
      let v = range-inv n size page e in
      let z : 0 + first ≡ first = omega arith in
      let p = part-map unnamed first (end - first) (rows width taken t n 0) ∙ ap (map unnamed) (part-counted (given_at t) first (end - first) n 0 (omega arith) ∙ ap (counted (given_at t) (end - first)) z) in
      ap (λ (l : List Bool). page_of (sample_from first offset l)) (sym p) ∙ sym (ap page_of (page-there n size offset page (at n) sized e)) ∙ told
