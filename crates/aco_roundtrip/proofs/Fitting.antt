-- Given records that fit: their length and their first fault are those of the swatches that are written. Assumes nothing.
use Prim.Native.Nat.{ℕ, zero, suc, ◌+◌, ◌*◌, ◌^◌, ◌≤◌, ◌<◌}
use mathlib.Core.Path.{◌≡◌, refl, sym, ap, ap₂, ◌∙◌}
use mathlib.Core.List.{List, [], ◌∷◌, map}
use lib.Dec.{leb, eqb}
use lib.ListN.{length, length-append}
use borrow.Author.Tests.{leb-true, eqb-true, ne_eqb}
use native.Mathlib.Omega.{arith}
use native.Mathlib.Nat.{lt_of_not-le}
use native.Mathlib.Decide.{ℕ_discrete, dec_le}
use Rattle.algebra.specs.Numbers.{counted, joined, Bytes, All}
use Rattle.algebra.specs.Reader.{pick, number_of, limit}
use Rattle.algebra.specs.Faults.{first_of, faults, faults_from}
use Rattle.algebra.proofs.Places.{length-nums, nums-lt}
use Rattle.algebra.proofs.Exact.{all_map, all_both, length-map}
use Rattle.algebra.proofs.Tells.{first-zero, first-inv, pick-none, faults-inv, faults-none, faults-map, faults-from}
use Rattle.algebra.proofs.Laws.{body-in}
use Rattle.aco.specs.Grammar.{Swatch, entry_bytes, list_one, list_two, two_lists}
use Rattle.aco.specs.Reading.{Entry, most, swatch}
use Rattle.aco.specs.Faults.{space_fault, sample_fault, fields_fault, palette_fault, Fits}
use Rattle.aco.specs.Faults as a
use Rattle.aco.proofs.Written.{own_name}
use Rattle.aco.proofs.Whole.{length-one, length_two}
use Rattle.algebra.specs.Table.{rows}
use Rattle.aco.specs.Row.{RecordRow, width, taken, Record, to_record}
use Rattle.aco_writing.specs.Writing.{swatch_in, record_in, sizes, size, found_in, ink_fault, fault}
use Rattle.aco_write_judge.specs.scaffold.Parts.{colour_fault, name_fault}
use Rattle.aco_write_judge.proofs.Judging.{space_small, sample-large, name-inside}
use Rattle.aco_write.proofs.Puts.{length-entry}
use Rattle.aco_roundtrip.specs.Tie.{made, Fitting}
use Rattle.algebra.proofs.Firsts.{all-image, faults-same, test-holds}

-- ---- how long the file is

module _ (names : List ℕ) where
  length-entries : (i : ℕ) (gs : List RecordRow) → All (λ k g. length g.samples ≡ 4) i gs → length (joined entry_bytes (map (swatch_in names) gs)) + 10 * length gs ≡ sizes gs
  unfolding joined sizes
  length-entries i [] h = refl
  length-entries i (g ∷ gs) h =
      omega (arith, length-append (entry_bytes (swatch_in names g)) (joined entry_bytes (map (swatch_in names) gs)), length-entry names g h.0, length-entries (i + 1) gs h.1)

  -- what is made is as long as the writer says
  pub length-made : (gs : List RecordRow) → All (λ k g. length g.samples ≡ 4) 0 gs → length (made names gs) ≡ size gs
  unfolding two_lists
  length-made gs h =
      let ws : List Swatch = map (swatch_in names) gs in
      omega (arith, length-append (list_one ws) (list_two ws), length-one ws (all-image (swatch_in names) (λ k w. length w.samples ≡ 4) 0 gs h), length_two ws, length-entries 0 gs h, length-map (swatch_in names) gs)

  -- ---- a record that fits has the faults of its swatch

  module _ (g : RecordRow) (f : Fitting names g) where
    found_none : found_in names g ≡ 0
    found_none = ap number_of (body-in 2 names g.first g.units (elim (ℕ_discrete g.units 0) [
      | yes z ↦ omega arith
      | no z ↦ omega (arith, f.inside (omega arith))
    ]))

    -- the swatch fits its fields
    pub swatch-fits : Bytes names → Fits (swatch_in names g)
    swatch-fits bytes = record {
      small = omega (arith, f.small);
      four = f.four;
      each_small = all_map (λ k v. v < 65536) (λ k v. v < 256 ^ 2) (λ k v h. omega arith) 0 g.samples f.each_small;
      counted = omega (arith, f.counted, length-nums 2 g.units names g.first);
      units = nums-lt 2 names bytes g.units g.first 0;
    }

  module _ (gs : List RecordRow) (fit : All (λ k g. Fitting names g) 0 gs) where
    pub all-four : All (λ k g. length g.samples ≡ 4) 0 gs
    all-four = all_map (λ k g. Fitting names g) (λ k g. length g.samples ≡ 4) (λ k g f. f.four) 0 gs fit

    pub all_fit : Bytes names → All (λ k w. Fits w) 0 (map (swatch_in names) gs)
    all_fit bytes = all-image (swatch_in names) (λ k w. Fits w) 0 gs (all_map (λ k g. Fitting names g) (λ k g. Fits (swatch_in names g)) (λ k g f. swatch-fits g f bytes) 0 gs fit)

    -- no ink is refused
    inks-none : faults ink_fault gs ≡ 0
    inks-none = sym (faults-from ink_fault 0 gs) ∙ faults-none (λ k. ink_fault) 0 gs (all_map (λ k g. Fitting names g) (λ k g. ink_fault g ≡ 0) (λ k g f. rw f.unstated) 0 gs fit)

    -- the writer's first fault is that of the swatches
    pub fault-same : fault names gs ≡ pick (leb (length (made names gs)) limit) (palette_fault (map (swatch_in names) gs)) 1
    unfolding fault a.swatches_fault
    fault-same =
        let ws : List Swatch = map (swatch_in names) gs in
        let cs : faults colour_fault gs ≡ faults a.colour_fault ws = sym (faults-map a.colour_fault (swatch_in names) gs) in
        let ns : faults (name_fault names) gs ≡ faults own_name ws =
        faults-same (name_fault names) (λ g. own_name (swatch_in names g)) 0 gs
        (all_map (λ k g. Fitting names g) (λ k g. name_fault names g ≡ own_name (swatch_in names g)) (λ k g f. ap (λ (x : ℕ). a.name_fault x (swatch_in names g).name) (found_none g f)) 0 gs fit)
        ∙ sym (faults-map own_name (swatch_in names) gs) in
        let own : ℕ = first_of (pick (leb (length gs) 4096) 0 5) (first_of (faults colour_fault gs) (faults (name_fault names) gs)) in
        ap₂ (λ (m n : ℕ). pick (leb m limit) n 1) (sym (length-made gs all-four))
        (ap (first_of own) inks-none ∙ first-zero own ∙ ap₂ (λ (m n : ℕ). first_of (pick (leb m 4096) 0 5) n) (sym (length-map (swatch_in names) gs)) (ap₂ (λ (m n : ℕ). first_of m n) cs ns))

  -- ---- records without a fault fit

  sample-small : (x k v : ℕ) → sample_fault x k v ≡ 0 → v < 65536
  sample-small x k v e = elim (dec_le v 65535) [
    | yes h ↦ omega arith
    | no h ↦ absurd (omega (arith, sample-large x k v (lt_of_not-le h)))
  ]

  faultless-fits : (g : RecordRow) → length g.samples ≡ 4 → 2 * g.units ≤ limit → colour_fault g ≡ 0 → name_fault names g ≡ 0 → ink_fault g ≡ 0 → Fitting names g
  unfolding fields_fault
  faultless-fits g four short cf nf inf =
      let x : ℕ = g.space in
      let i = first-inv (space_fault x) (faults_from (sample_fault x) 0 g.samples) cf in record {
        small = omega (arith, space_small x (space_fault x) refl i.0);
        four = four;
        each_small = all_map (λ k v. sample_fault x k v ≡ 0) (λ k v. v < 65536) (λ k v e. sample-small x k v e) 0 g.samples (faults-inv (sample_fault x) 0 g.samples i.1);
        counted = omega arith;
        unstated = eqb-true g.ink 4 (pick-none (eqb g.ink 4) 14 (omega arith) inf);
        inside = λ h. omega (arith, rw (ne_eqb g.units 0 (λ z. omega arith)) at (name-inside names g nf));
      }

  units_short : (i : ℕ) (gs : List RecordRow) → sizes gs ≤ limit → All (λ k g. 2 * g.units ≤ limit) i gs
  unfolding sizes
  units_short i [] h = tt
  units_short i (g ∷ gs) h = (omega arith, units_short (i + 1) gs (omega arith))

  pub faultless-fit : (gs : List RecordRow) → All (λ k g. length g.samples ≡ 4) 0 gs → fault names gs ≡ 0 → All (λ k g. Fitting names g) 0 gs
  unfolding fault a.swatches_fault
  faultless-fit gs four e =
      let x = test-holds (leb (size gs) limit) _ 1 (omega arith) e in
      let v = first-inv (a.swatches_fault (found_in names) (swatch_in names) gs) (faults ink_fault gs) x.1 in
      let is = faults-inv (λ k. ink_fault) 0 gs (faults-from ink_fault 0 gs ∙ v.1) in
      let y = first-inv (pick (leb (length gs) most) 0 5) (first_of (faults colour_fault gs) (faults (name_fault names) gs)) v.0 in
      let z = first-inv (faults colour_fault gs) (faults (name_fault names) gs) y.1 in
      let cs = faults-inv (λ k. colour_fault) 0 gs (faults-from colour_fault 0 gs ∙ z.0) in
      let ns = faults-inv (λ k. name_fault names) 0 gs (faults-from (name_fault names) 0 gs ∙ z.1) in
      let us = units_short 0 gs (omega (arith, leb-true (size gs) limit x.0)) in
      let A : ℕ → RecordRow → Type 0 = λ k g. (length g.samples ≡ 4) × (2 * g.units ≤ limit) in
      let B : ℕ → RecordRow → Type 0 = λ k g. (colour_fault g ≡ 0) × (name_fault names g ≡ 0) in
      let C : ℕ → RecordRow → Type 0 = λ k g. B k g × (ink_fault g ≡ 0) in
      all_map (λ k g. A k g × C k g) (λ k g. Fitting names g) (λ k g h. faultless-fits g h.0.0 h.0.1 h.1.0.0 h.1.0.1 h.1.1) 0 gs
      (all_both A C 0 gs (all_both (λ k g. length g.samples ≡ 4) (λ k g. 2 * g.units ≤ limit) 0 gs four us) (all_both B (λ k g. ink_fault g ≡ 0) 0 gs (all_both (λ k g. colour_fault g ≡ 0) (λ k g. name_fault names g ≡ 0) 0 gs cs ns) is))

-- records are their swatches, with the ink that reading gives
abbrev unstated : Swatch → Record
unstated w = record { swatch = w; ink = 4 }

records-by : (es : List Entry) → map to_record es ≡ map unstated (map swatch es)
records-by [] = refl
records-by (e ∷ es) = ap (λ (rs : List Record). to_record e ∷ rs) (records-by es)

pub swatches-records : (ds es : List Entry) → map swatch ds ≡ map swatch es → map to_record ds ≡ map to_record es
swatches-records ds es e = records-by ds ∙ ap (map unstated) e ∙ sym (records-by es)

module _ (names : List ℕ) where
  inked : (i : ℕ) (gs : List RecordRow) → All (λ k g. Fitting names g) i gs → map unstated (map (swatch_in names) gs) ≡ map (record_in names) gs
  inked i [] h = refl
  inked i (g ∷ gs) h = ap₂ (λ (k : ℕ) (rs : List Record). record { swatch = swatch_in names g; ink = k } ∷ rs) (sym h.0.unstated) (inked (i + 1) gs h.1)

  pub records-are : (i : ℕ) (gs : List RecordRow) → All (λ k g. Fitting names g) i gs → (es : List Entry) → map swatch es ≡ map (swatch_in names) gs → map to_record es ≡ map (record_in names) gs
  records-are i gs fit es e = records-by es ∙ ap (map unstated) e ∙ inked i gs fit

-- a record of a run has four samples
pub givens-four : (run : List ℕ) (n k i : ℕ) → All (λ k g. length g.samples ≡ 4) i (rows width taken run n k)
unfolding counted
givens-four run zero k i = tt
givens-four run (suc n) k i = (refl, givens-four run n (k + 1) (i + 1))
