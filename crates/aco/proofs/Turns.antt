-- What is refused in each turn of a heading, a colour and a record: a damaged one, by its number and at its place. Assumes nothing.
use Prim.Native.Nat.{ℕ, ◌+◌, ◌*◌, ◌^◌, ◌<◌}
use mathlib.Core.Path.{◌≡◌, refl, sym, ap, ◌∙◌, subst, subst₂}
use mathlib.Core.List.{List, ◌++◌, append_assoc}
use mathlib.Core.Bool.{Bool, true, false}
use lib.ListN.{length}
use borrow.Author.Tests.{ne_eqb}
use native.Mathlib.Omega.{arith}
use native.Mathlib.Nat.{add-zero, zero-add}
use Rattle.algebra.specs.Numbers.{be, joined, Bytes, All}
use Rattle.algebra.specs.Reader.{ok, refuse, Judged, fine, fault, judged, each}
use Rattle.algebra.specs.Text.{name}
use Rattle.algebra.proofs.Places.{length-be, length-bes}
use Rattle.algebra.proofs.Exact.{all_map, all_from, judged-exact}
use Rattle.algebra.proofs.Stops.{judged-refuses, each-stops}
use Rattle.algebra.proofs.Tails.{Tail, tail-left, tail-after, judged-there, judged-wrong, judged-cut, name_cut, name-none, name-units-cut, name-open}
use Rattle.colour.specs.declared.space.Colour.{Colour}
use Rattle.colour.specs.Spaces.{known, allowed}
use Rattle.aco.specs.Grammar.{Swatch, Scale, Space, Sample, colour_bytes}
use Rattle.aco.specs.Reading.{space, sample, samples, colour, version, heading, entry}
use Rattle.aco.specs.Damaged.{DamagedHeading, version_cut, wrong_version, colours_cut, Begun, DamagedColour, space_cut, wrong_space, sample_cut, wrong_sample, DamagedName, count_cut, no-units, units_cut, unclosed, fields_of, DamagedRecord, field_cut, difference, wrong_name}
use Rattle.aco.proofs.Fine.{space-fine, sample-fine, version-fine}
use Rattle.aco.proofs.Answers.{unknown-space-first, field-cut-first, difference-first}
use Rattle.aco.proofs.Laws.{hue, sample_bytes, Sized, space-known, space_small, known-space, allowed-sample, sample-allowed, sample-small, repeats-exact}
use Rattle.aco.proofs.Whole.{length-colour}

-- ---- a heading

module _ (s : List ℕ) (v : ℕ) (small : v < 256 ^ 2) (count : ℕ → Judged) (at : ℕ) where
  version-there : (l : List ℕ) → Tail s at (be 2 v ++ l) → (judged 2 (version v) s at ≡ ok v (at + 2)) × Tail s (at + 2) l
  version-there l t = (judged-there s 2 at (version v) v small (version-fine v) (tail-left s at (be 2 v) l t), tail-after s at (be 2 v) l (at + 2) (ap (λ (k : ℕ). at + k) (length-be 2 v)) t)

  pub heading-stops : {l : List ℕ} {z p : ℕ} → DamagedHeading v l z p → Tail s at l → heading v count s at ≡ refuse z (at + p) 0 0
  unfolding heading
  heading-stops (version_cut l few) t = rw (judged-cut s 2 at (version v) few t) (ap (λ (k : ℕ). refuse 2 k 0 0) (sym (add-zero at)))
  heading-stops (wrong_version x l fits ne) t = rw (judged-wrong s 2 at (version v) 3 x fits (rw (ne_eqb x v ne)) (tail-left s at (be 2 x) l t)) (ap (λ (k : ℕ). refuse 3 k 0 0) (sym (add-zero at)))
  heading-stops (colours_cut l few) t = let a = version-there l t in rw a.0 (judged-cut s 2 (at + 2) count few a.1)

  -- a count that is judged wrong
  pub count-stops : (n : ℕ) (l : List ℕ) → n < 256 ^ 2 → (z r f : ℕ) → count n ≡ fault z r f → Bytes s → Tail s at (be 2 v ++ (be 2 n ++ l)) → heading v count s at ≡ refuse z (at + 2) r f
  unfolding heading
  count-stops n l fits z r f e bytes t = let a = version-there (be 2 n ++ l) t in rw a.0 (judged-refuses s bytes 2 count (at + 2) n z r f fits (tail-left s (at + 2) (be 2 n) l a.1) e)

-- ---- a colour of list 1

no-space : (v : ℕ) → ((scales : List Scale) → Space v scales → ⊥) → known v ≡ false
no-space v h = go (known v) refl
  where
    go : (b : Bool) → known v ≡ b → b ≡ false
    go true e = let x = known-space v e in absurd (h x.0 x.1)
    go false e = refl

no-sample : (x : ℕ) (scales : List Scale) (k v : ℕ) → Space x scales → (Sample scales k v → ⊥) → allowed x k v ≡ false
no-sample x scales k v of h = go (allowed x k v) refl
  where
    go : (b : Bool) → allowed x k v ≡ b → b ≡ false
    go true e = absurd (h (allowed-sample of k v e))
    go false e = refl

module _ (s : List ℕ) (bytes : Bytes s) (at : ℕ) where
  -- a right space and right samples, and then one that is refused
  samples-stop : (x : ℕ) (scales : List Scale) (vs l : List ℕ) → Begun x scales vs → Tail s at (be 2 x ++ (joined (be 2) vs ++ l)) → (z : ℕ)
      → (Tail s (at + (2 + 2 * length vs)) l → judged 2 (sample x (length vs)) s (at + (2 + 2 * length vs)) ≡ refuse z (at + (2 + 2 * length vs)) 0 0) → colour s at ≡ refuse z (at + (2 + 2 * length vs)) 0 0
  unfolding colour samples
  samples-stop x scales vs l b t z stop =
      let y : List ℕ = joined (be 2) vs in
      let q : ℕ = at + (2 + 2 * length vs) in
      let one : judged 2 space s at ≡ ok x (at + 2) = judged-there s 2 at space x (space_small b.space) (space-fine x (space-known b.space)) (tail-left s at (be 2 x) (y ++ l) t) in
      let t2 : Tail s (at + 2) (y ++ l) = tail-after s at (be 2 x) (y ++ l) (at + 2) (ap (λ (k : ℕ). at + k) (length-be 2 x)) t in
      let e : at + 2 + length y ≡ q = omega (arith, length-bes 2 vs) in
      let Ok : ℕ → ℕ → Type 0 = λ k v. (v < 256 ^ 2) × (sample x k v ≡ fine) in
      let good : All Ok 0 vs = all_map (Sample scales) Ok (λ k v h. (sample-small b.space k v h, sample-fine x k v (sample-allowed b.space k v h))) 0 vs b.samples in
      let two : each 4 0 (λ k. judged 2 (sample x k)) s (at + 2) ≡ refuse z q 0 0 =
      each-stops {p = λ k. judged 2 (sample x k)} {Ok = Ok} (λ k. judged-exact s bytes 2 (sample x k)) 4 0 (at + 2) vs b.more good (tail-left s (at + 2) y l t2)
      (subst₂ (λ (m n : ℕ). judged 2 (sample x m) s n ≡ refuse z q 0 0) (sym (zero-add (length vs))) (sym e) (stop (tail-after s (at + 2) y l q e t2))) in
      rw one (rw two)

  pub colour-stops : {l : List ℕ} {z p : ℕ} → DamagedColour l z p → Tail s at l → colour s at ≡ refuse z (at + p) 0 0
  unfolding colour
  colour-stops (space_cut l few) t = rw (judged-cut s 2 at space few t) (ap (λ (k : ℕ). refuse 2 k 0 0) (sym (add-zero at)))
  colour-stops (wrong_space x l small none) t = unknown-space-first s at x small (no-space x none) (tail-left s at (be 2 x) l t) ∙ ap (λ (k : ℕ). refuse 4 k 0 0) (sym (add-zero at))
  colour-stops (sample_cut x scales vs l b few) t = samples-stop x scales vs l b t 2 (judged-cut s 2 (at + (2 + 2 * length vs)) (sample x (length vs)) few)
  colour-stops (wrong_sample x scales vs v l b small bad) t =
      samples-stop x scales vs (be 2 v ++ l) b t 5 (λ u. judged-wrong s 2 (at + (2 + 2 * length vs)) (sample x (length vs)) 5 v small (rw (no-sample x scales (length vs) v b.space bad)) (tail-left s (at + (2 + 2 * length vs)) (be 2 v) l u))

-- ---- a record of list 2

name-stops : (s : List ℕ) (at : ℕ) {l : List ℕ} {z p : ℕ} → DamagedName l z p → Tail s at l → name 4 s at ≡ refuse z (at + p) 0 0
name-stops s at (count_cut l few) t = name_cut s 4 at few t ∙ ap (λ (k : ℕ). refuse 2 k 0 0) (sym (add-zero at))
name-stops s at (no-units l) t = name-none s 4 at (omega arith) (tail-left s at (be 4 0) l t) ∙ ap (λ (k : ℕ). refuse 8 k 0 0) (sym (add-zero at))
name-stops s at (units_cut n l some small few) t = name-units-cut s 4 at n l some small (omega arith) t
name-stops s at (unclosed us l small fit o) t =
    let y : List ℕ = be 4 (length us) in
    name-open s 4 at us small fit o (tail-left s at (y ++ joined (be 2) us) l (subst (λ (x : List ℕ). Tail s at x) (sym (append_assoc y (joined (be 2) us) l)) t)) ∙ ap (λ (k : ℕ). refuse 8 k 0 0) (sym (add-zero at))

module _ (s : List ℕ) (bytes : Bytes s) (i : ℕ) (w : Swatch) (sized : Sized (hue w)) (at : ℕ) where
  five : length (fields_of w) ≡ 5
  five = omega (arith, sized.four)

  small : All (λ k v. v < 256 ^ 2) 0 (fields_of w)
  small = (sized.small, all_from (λ v. v < 256 ^ 2) 0 1 w.samples sized.each_small)

  pub record-stops : {l : List ℕ} {z p r f : ℕ} → DamagedRecord i w l z p r f → Tail s at l → entry i (hue w) s at ≡ refuse z (at + p) r f
  unfolding entry colour_bytes
  record-stops (field_cut f l h few) t = field-cut-first s bytes i (hue w) five small at f l h few t
  record-stops (difference f v l h fits ne) t = difference-first s bytes i (hue w) five small at f v l h fits ne t
  record-stops (wrong_name l z p d) t =
      let c : Colour = hue w in
      let ten : at + length (sample_bytes c) ≡ at + 10 = ap (λ (k : ℕ). at + k) (length-colour w sized.four) in
      let one = (repeats-exact s bytes i c sized).reads at tt tt (tail-left s at (sample_bytes c) l t) in
      let two : name 4 s (at + 10) ≡ refuse z (at + 10 + p) 0 0 = name-stops s (at + 10) d (tail-after s at (sample_bytes c) l (at + 10) ten t) in
      let e : at + 10 + p ≡ at + (10 + p) = omega arith in
      rw (one.1 ∙ ap (λ (k : ℕ). ok one.0 k) ten) (rw two (ap (λ (k : ℕ). refuse z k 0 0) e))
