-- Runs of channels, by their model. Assumes nothing.
use Prim.Native.Nat.{ℕ, ◌-◌, ◌^◌, ◌<◌}
use mathlib.Core.Path.{◌≡◌, refl, sym, ap, ◌∙◌, subst}
use mathlib.Core.Bool.{Bool, true, false, ◌||◌}
use mathlib.Core.List.{List, [], ◌∷◌, map}
use native.Mathlib.Omega.{arith}
use native.Mathlib.Nat.{zero-add}
use borrow.Author.Tests.{eqb-true, ne_eqb}
use lib.ListN.{length, get_or}
use lib.Dec.{eqb}
use lib.Ieee.{binary32, of_bits}
use lib.Ieee.Scale.{finite}
use Rattle.algebra.specs.Chars.{chars}
use Rattle.std.specs.Prelude.{Some, None}
use Rattle.algebra.specs.Reader.{pick}
use Rattle.colour.specs.Models.{model_of}
use Rattle.colour.specs.Channels.{in_unit}
use Rattle.colour.specs.declared.model.Model.TheVariants as model
use Rattle.conversion.specs.Scale.{sample_of, sample_of_bits}
use Rattle.conversion.specs.Convert.{Converted, gives, refused, and_then, sample_by, sample_found, to_sample}
use Rattle.conversion.specs.Refusals.{Tagged, rgb, cmyk, gray}
use Rattle.convert.proofs.Converting.{unit-sample}
use Rattle.conversion.specs.Tray.{converted_in_order}
use Rattle.tray.specs.scaffold.Parts.{First, unit, inked, converted, results, judged}
use Rattle.tray.proofs.Laws.{all-given, one-refused, results-are, none-given, first-refused}

-- ---- one channel

by-test : (b : Bool) (s y : ℕ) → pick b (gives s) (refused 5 0) ≡ gives y → (b ≡ true) × (y ≡ s)
by-test true s y e = (refl, cc)
by-test false s y e = let z : ◌≡◌ {A = ℕ} 0 1 = cc in absurd (omega arith)

rgb-each : (b y : ℕ) → b < 2 ^ 32 → to_sample (chars "RGB ") b ≡ gives y → y ≡ sample_of_bits 65535 b
unfolding model_of
rgb-each b y small e = let t = by-test (in_unit (of_bits binary32 b)) (sample_of 65535 (of_bits binary32 b)) y e in t.1 ∙ sym (unit-sample 65535 b small t.0)

cmyk-each : (b y : ℕ) → b < 2 ^ 32 → to_sample (chars "CMYK") b ≡ gives y → y ≡ inked b
unfolding model_of
cmyk-each b y small e =
    let t = by-test (in_unit (of_bits binary32 b)) (65535 - sample_of 65535 (of_bits binary32 b)) y e in
    t.1 ∙ ap (λ (s : ℕ). 65535 - s) (sym (unit-sample 65535 b small t.0))

gray-each : (b y : ℕ) → b < 2 ^ 32 → to_sample (chars "Gray") b ≡ gives y → y ≡ sample_of_bits 10000 b
unfolding model_of
gray-each b y small e = let t = by-test (in_unit (of_bits binary32 b)) (sample_of 10000 (of_bits binary32 b)) y e in t.1 ∙ sym (unit-sample 10000 b small t.0)

-- what a channel from 0 to 1 gives
abbrev shown : {t : ℕ} → Tagged t → ℕ → ℕ
shown rgb b = sample_of 65535 (of_bits binary32 b)
shown cmyk b = 65535 - sample_of 65535 (of_bits binary32 b)
shown gray b = sample_of 10000 (of_bits binary32 b)

unit-yes : {t : ℕ} (k : Tagged t) (b : ℕ) → unit b ≡ true → to_sample t b ≡ gives (shown k b)
unfolding model_of
unit-yes rgb b e = ap (λ (z : Bool). sample_by z model.Rgb (of_bits binary32 b)) e
unit-yes cmyk b e = ap (λ (z : Bool). sample_by z model.Cmyk (of_bits binary32 b)) e
unit-yes gray b e = ap (λ (z : Bool). sample_by z model.Gray (of_bits binary32 b)) e

unit-no : {t : ℕ} → Tagged t → (b : ℕ) → unit b ≡ false → to_sample t b ≡ refused 5 0
unfolding model_of
unit-no rgb b e = ap (λ (z : Bool). sample_by z model.Rgb (of_bits binary32 b)) e
unit-no cmyk b e = ap (λ (z : Bool). sample_by z model.Cmyk (of_bits binary32 b)) e
unit-no gray b e = ap (λ (z : Bool). sample_by z model.Gray (of_bits binary32 b)) e

tagged : (t : ℕ) → converted t ≡ true → Tagged t
tagged t h = go (eqb t (chars "RGB ")) refl (eqb t (chars "CMYK")) refl (eqb t (chars "Gray")) refl h
  where
    go : (p : Bool) → eqb t (chars "RGB ") ≡ p → (q : Bool) → eqb t (chars "CMYK") ≡ q → (r : Bool) → eqb t (chars "Gray") ≡ r → ((p || q) || r) ≡ true → Tagged t
    go true e q f r g h = subst Tagged (sym (eqb-true t (chars "RGB ") e)) rgb
    go false e true f r g h = subst Tagged (sym (eqb-true t (chars "CMYK") f)) cmyk
    go false e false f true g h = subst Tagged (sym (eqb-true t (chars "Gray") g)) gray
    go false e false f false g h = let z : ◌≡◌ {A = ℕ} 0 1 = cc in absurd (omega arith)

-- a model that has no space refuses every channel
never : (t b : ℕ) → converted t ≡ false → (n : ℕ) × (to_sample t b ≡ refused n 0)
unfolding model_of
never t b h = go (eqb t (chars "RGB ")) (eqb t (chars "CMYK")) (eqb t (chars "LAB ")) (eqb t (chars "Gray")) h
  where
    by-finite : (z : Bool) → (n : ℕ) × (sample_by z model.Lab (of_bits binary32 b) ≡ refused n 0)
    by-finite true = (14, refl)
    by-finite false = (5, refl)

    go : (p q l r : Bool) → ((p || q) || r) ≡ false → (n : ℕ) × (sample_found (pick p (Some model.Rgb) (pick q (Some model.Cmyk) (pick l (Some model.Lab) (pick r (Some model.Gray) None)))) (of_bits binary32 b) ≡ refused n 0)
    go true q l r h = let z : ◌≡◌ {A = ℕ} 0 1 = cc in absurd (omega arith)
    go false true l r h = let z : ◌≡◌ {A = ℕ} 0 1 = cc in absurd (omega arith)
    go false false true r h = by-finite (finite (of_bits binary32 b))
    go false false false true h = let z : ◌≡◌ {A = ℕ} 0 1 = cc in absurd (omega arith)
    go false false false false h = (4, refl)

-- ---- a run

module _ (t : ℕ) (bs : List ℕ) where
  pub none-judged : length bs ≡ 0 → gives tt ≡ judged (converted_in_order (to_sample t) 0 bs)
  unfolding converted_in_order
  none-judged h = go bs h
    where
      go : (bs : List ℕ) → length bs ≡ 0 → gives tt ≡ judged (converted_in_order (to_sample t) 0 bs)
      go [] h = refl
      go (b ∷ bs) h = absurd (omega arith)

  pub unit-judged : converted t ≡ true → First unit bs None → gives tt ≡ judged (converted_in_order (to_sample t) 0 bs)
  unit-judged k f = ap judged (sym (all-given (to_sample t) (shown (tagged t k)) unit (unit-yes (tagged t k)) 0 bs f))

  pub unit-stopped : converted t ≡ true → (i : ℕ) → First unit bs (Some i) → refused 5 i ≡ judged (converted_in_order (to_sample t) 0 bs)
  unit-stopped k i f =
      ap (λ (z : ℕ). refused 5 z) (sym (zero-add i)) ∙ ap judged (sym (one-refused (to_sample t) (shown (tagged t k)) unit (unit-yes (tagged t k)) 0 bs i 5 0 f.1 f.0 (unit-no (tagged t k) (get_or bs i 0) f.2)))

  pub other-judged : converted t ≡ false → 0 < length bs → (r : Converted Unit) → r ≡ and_then (to_sample t (get_or bs 0 0)) (λ s. gives tt) → r ≡ judged (converted_in_order (to_sample t) 0 bs)
  other-judged k h r e =
      let n = never t (get_or bs 0 0) k in
      e ∙ ap (λ (c : Converted ℕ). and_then {B = Unit} c (λ c. gives tt)) n.1 ∙ ap judged (sym (first-refused (to_sample t) n.0 0 bs h n.1))

  module _ (small : (j : ℕ) → get_or bs j 0 < 2 ^ 32) where
    same : (u : ℕ) (P : Converted (List ℕ) → Type 0) → t ≡ u → P (converted_in_order (to_sample u) 0 bs) → P (converted_in_order (to_sample t) 0 bs)
    same u P e p = subst (λ (z : ℕ). P (converted_in_order (to_sample z) 0 bs)) (sym e) p

    pub rgb-results : t ≡ chars "RGB " → gives tt ≡ judged (converted_in_order (to_sample t) 0 bs) → results (converted_in_order (to_sample t) 0 bs) ≡ map (sample_of_bits 65535) bs
    rgb-results k = same (chars "RGB ") (λ m. gives tt ≡ judged m → results m ≡ map (sample_of_bits 65535) bs) k (results-are (to_sample (chars "RGB ")) (sample_of_bits 65535) (λ b. b < 2 ^ 32) rgb-each 0 bs small)

    pub cmyk-results : t ≡ chars "CMYK" → gives tt ≡ judged (converted_in_order (to_sample t) 0 bs) → results (converted_in_order (to_sample t) 0 bs) ≡ map inked bs
    cmyk-results k = same (chars "CMYK") (λ m. gives tt ≡ judged m → results m ≡ map inked bs) k (results-are (to_sample (chars "CMYK")) inked (λ b. b < 2 ^ 32) cmyk-each 0 bs small)

    pub gray-results : t ≡ chars "Gray" → gives tt ≡ judged (converted_in_order (to_sample t) 0 bs) → results (converted_in_order (to_sample t) 0 bs) ≡ map (sample_of_bits 10000) bs
    gray-results k = same (chars "Gray") (λ m. gives tt ≡ judged m → results m ≡ map (sample_of_bits 10000) bs) k (results-are (to_sample (chars "Gray")) (sample_of_bits 10000) (λ b. b < 2 ^ 32) gray-each 0 bs small)

  pub other-results : (t ≡ chars "RGB " → ⊥) → (t ≡ chars "CMYK" → ⊥) → (t ≡ chars "Gray" → ⊥) → gives tt ≡ judged (converted_in_order (to_sample t) 0 bs) → results (converted_in_order (to_sample t) 0 bs) ≡ []
  other-results r c g = none-given (to_sample t) (λ b. never t b (unlike r c g)) 0 bs
    where
      unlike : (t ≡ chars "RGB " → ⊥) → (t ≡ chars "CMYK" → ⊥) → (t ≡ chars "Gray" → ⊥) → converted t ≡ false
      unlike r c g = rw (ne_eqb t (chars "RGB ") r, ne_eqb t (chars "CMYK") c, ne_eqb t (chars "Gray") g)
