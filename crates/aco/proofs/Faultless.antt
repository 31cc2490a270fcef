-- Swatches that fit their fields have no fault exactly where the grammar allows them. Assumes nothing.
use Prim.Native.Nat.{ℕ, ◌^◌, ◌<◌}
use mathlib.Core.Path.{◌≡◌, sym, ap, ◌∙◌}
use mathlib.Core.List.{List}
use mathlib.Core.Bool.{Bool}
use lib.Dec.{leb}
use lib.ListN.{length}
use borrow.Author.Tests.{leb-true, le-leb}
use native.Mathlib.Omega.{arith}
use Rattle.algebra.specs.Numbers.{All}
use Rattle.algebra.specs.Reader.{pick}
use Rattle.algebra.specs.Text.{any_zero, Named}
use Rattle.algebra.specs.Faults.{first_of, faults, faults_from}
use Rattle.algebra.proofs.Exact.{all_map, all_both, any_none, none_any}
use Rattle.algebra.proofs.Tells.{first-none, first-inv, pick-none, pick_some, faults-inv, faults-none, faults-from}
use Rattle.colour.specs.Spaces.{known, allowed}
use Rattle.aco.specs.Grammar.{Swatch, Sample, Allowed, Palette}
use Rattle.aco.specs.Faults.{space_fault, sample_fault, fields_fault, colour_fault, swatches_fault, palette_fault, Fits}
use Rattle.aco.proofs.Written.{own_name}
use Rattle.aco.proofs.Laws.{hue, AllowedColour, allowed-colour-sized, allowed-allowed-colour, allowed-colour-allowed, space-known, known-space, allowed-sample, sample-allowed}

-- ---- no fault, so allowed

colour-sound : (w : Swatch) → Fits w → colour_fault w ≡ 0 → AllowedColour (hue w)
unfolding fields_fault
colour-sound w f e =
    let x : ℕ = w.space in
    let i = first-inv (space_fault x) (faults_from (sample_fault x) 0 w.samples) e in
    let y = known-space x (pick-none (known x) 4 (omega arith) i.0) in record {
      scales = y.0;
      of = y.1;
      four = f.four;
      fit = all_map (λ k v. sample_fault x k v ≡ 0) (Sample y.0) (λ k v h. allowed-sample y.1 k v (pick-none (allowed x k v) 5 (omega arith) h)) 0 w.samples (faults-inv (sample_fault x) 0 w.samples i.1);
    }

name-sound : (w : Swatch) → Fits w → own_name w ≡ 0 → Named 4 w.name
name-sound w f e = record {
  counted = f.counted;
  units = all_both (λ k u. 0 < u) (λ k u. u < 256 ^ 2) 0 w.name (any_none w.name 0 (pick_some (any_zero w.name) 8 (omega arith) e)) f.units;
}

pub faultless-allowed : (ws : List Swatch) → All (λ k w. Fits w) 0 ws → palette_fault ws ≡ 0 → Palette ws
unfolding swatches_fault
faultless-allowed ws fits e =
    let i = first-inv (pick (leb (length ws) 4096) 0 5) (first_of (faults colour_fault ws) (faults own_name ws)) e in
    let j = first-inv (faults colour_fault ws) (faults own_name ws) i.1 in
    let cs = faults-inv (λ k. colour_fault) 0 ws (faults-from colour_fault 0 ws ∙ j.0) in
    let ns = faults-inv (λ k. own_name) 0 ws (faults-from own_name 0 ws ∙ j.1) in record {
      count = leb-true (length ws) 4096 (pick-none (leb (length ws) 4096) 5 (omega arith) i.0);
      swatches = all_map (λ k w. Fits w × ((colour_fault w ≡ 0) × (own_name w ≡ 0))) (λ k w. Allowed w) (λ k w h. allowed-colour-allowed w (colour-sound w h.0 h.1.0) (name-sound w h.0 h.1.1)) 0 ws
          (all_both (λ k w. Fits w) (λ k w. (colour_fault w ≡ 0) × (own_name w ≡ 0)) 0 ws fits (all_both (λ k w. colour_fault w ≡ 0) (λ k w. own_name w ≡ 0) 0 ws cs ns));
    }

-- ---- allowed, so no fault

colour-complete : (w : Swatch) → Allowed w → colour_fault w ≡ 0
unfolding fields_fault
colour-complete w a =
    let x : ℕ = w.space in
    let f : All (λ k v. sample_fault x k v ≡ 0) 0 w.samples =
    all_map (Sample a.scales) (λ k v. sample_fault x k v ≡ 0) (λ k v h. ap (λ (b : Bool). pick b 0 5) (sample-allowed a.space k v h)) 0 w.samples a.samples in
    first-none (space_fault x) (faults_from (sample_fault x) 0 w.samples) (ap (λ (b : Bool). pick b 0 4) (space-known a.space)) ∙ faults-none (sample_fault x) 0 w.samples f

name-complete : (w : Swatch) → Allowed w → own_name w ≡ 0
name-complete w a = ap (λ (b : Bool). pick b 8 0) (none_any w.name 0 (all_map (λ k u. (0 < u) × (u < 256 ^ 2)) (λ k u. 0 < u) (λ k u h. h.0) 0 w.name a.name.units))

pub allowed-faultless : (ws : List Swatch) → Palette ws → palette_fault ws ≡ 0
unfolding swatches_fault
allowed-faultless ws pal =
    let c : faults colour_fault ws ≡ 0 = sym (faults-from colour_fault 0 ws) ∙ faults-none (λ k. colour_fault) 0 ws (all_map (λ k w. Allowed w) (λ k w. colour_fault w ≡ 0) (λ k w a. colour-complete w a) 0 ws pal.swatches) in
    let n : faults own_name ws ≡ 0 = sym (faults-from own_name 0 ws) ∙ faults-none (λ k. own_name) 0 ws (all_map (λ k w. Allowed w) (λ k w. own_name w ≡ 0) (λ k w a. name-complete w a) 0 ws pal.swatches) in
    first-none (pick (leb (length ws) 4096) 0 5) (first_of (faults colour_fault ws) (faults own_name ws)) (ap (λ (b : Bool). pick b 0 5) (le-leb (length ws) 4096 pal.count))
    ∙ first-none (faults colour_fault ws) (faults own_name ws) c ∙ n

-- what the grammar allows fits its fields
pub allowed-fits : (w : Swatch) → Allowed w → Fits w
allowed-fits w a =
    let z = allowed-colour-sized (hue w) (allowed-allowed-colour w a) in record {
      small = z.small;
      four = z.four;
      each_small = z.each_small;
      counted = a.name.counted;
      units = all_map (λ k u. (0 < u) × (u < 256 ^ 2)) (λ k u. u < 256 ^ 2) (λ k u h. h.1) 0 w.name a.name.units;
    }
