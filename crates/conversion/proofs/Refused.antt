-- Which refusal a conversion gives, by the account of specs/Refusals. Assumes nothing.
use Prim.Native.Nat.{ℕ, ◌%◌, ◌^◌, ◌≤◌, ◌<◌}
use mathlib.Core.Path.{◌≡◌, refl, sym, ap, ◌∙◌, subst}
use mathlib.Core.Logic.{◌⊎◌, inl, inr}
use mathlib.Core.Bool.{Bool, true, false}
use borrow.Author.Tests.{lt-ltb, le-ltb, lt-leb, le-leb, ne_eqb}
use native.Mathlib.Omega.{arith}
use native.Mathlib.Decide.{ℕ_discrete, dec_le}
use native.Mathlib.Nat.{lt_of_not-le}
use lib.Dec.{leb}
use lib.Ieee.{Float, binary32, of_bits}
use lib.Ieee.Scale.{finite}
use Rattle.algebra.specs.Chars.{chars}
use Rattle.algebra.specs.Reader.{pick}
use Rattle.algebra.proofs.Floats.{finite-bits}
use Rattle.colour.specs.declared.model.Model.TheVariants as model
use Rattle.colour.specs.Models.{model_of}
use Rattle.colour.specs.Spaces.{uses, full, known, ranged, allowed}
use Rattle.colour.specs.Channels.{in_unit}
use Rattle.conversion.specs.Convert.{gives, refused, to_channel, to_sample, sample_by}
use Rattle.conversion.specs.Refusals.{SampleGiven, rgb, cmyk, gray, SampleRefused, unknown, above, hsb, lab, Tagged, ChannelRefused, outside, endless, ChannelGiven, unit, minus}
use Rattle.colour.proofs.Unit.{unit-minus, unit-leb}

-- ---- samples

given : (b : Bool) (c : Float) → b ≡ true → (d : Float) × (pick b (gives c) (refused 5 0) ≡ gives d)
given b c e = (c, rw e)

-- every sample of RGB and CMYK, and one of gray up to 10,000, has a channel
pub sample-given : {x v : ℕ} → SampleGiven x v → (c : Float) × (to_channel x v ≡ gives c)
unfolding to_channel allowed ranged uses full
sample-given (rgb {v} h) = given (leb v 65535) _ (le-leb v 65535 h)
sample-given (cmyk {v} h) = given (leb v 65535) _ (le-leb v 65535 h)
sample-given (gray {v} h) = given (leb v 10000) _ (le-leb v 10000 h)

-- one of gray above 10,000 is 5, every sample of HSB and of Lab is 14, and of any other space 4, at place 0
pub sample-refused : {x v n : ℕ} → SampleRefused x v n → to_channel x v ≡ refused n 0
unfolding to_channel allowed ranged known uses full
sample-refused hsb = refl
sample-refused lab = refl
sample-refused (above {v} h) = rw (lt-leb v 10000 h)
sample-refused (unknown {x} {v} u) =
    rw (ne_eqb x 0 u.no_rgb, ne_eqb x 1 u.no_hsb, ne_eqb x 2 u.no_cmyk, ne_eqb x 7 u.no_lab, ne_eqb x 8 u.no_gray) refl

-- ---- channels

unit-yes : (b : ℕ) → b ≤ 0x3F80_0000 → in_unit (of_bits binary32 b) ≡ true
unit-yes b h = sym (unit-leb b (omega arith) (λ z. omega arith)) ∙ le-leb b 0x3F80_0000 h

unit-no : (b : ℕ) → b < 2 ^ 32 → 0x3F80_0000 < b → (b ≡ 0x8000_0000 → ⊥) → in_unit (of_bits binary32 b) ≡ false
unit-no b small h other = sym (unit-leb b small other) ∙ lt-leb b 0x3F80_0000 h

-- from 0 to 1, and minus zero: every model but Lab has a sample for it
tagged-given : {t : ℕ} → Tagged t → (b : ℕ) → in_unit (of_bits binary32 b) ≡ true → (s : ℕ) × (to_sample t b ≡ gives s)
unfolding model_of
tagged-given rgb b e = (_, ap (λ (z : Bool). sample_by z model.Rgb (of_bits binary32 b)) e)
tagged-given cmyk b e = (_, ap (λ (z : Bool). sample_by z model.Cmyk (of_bits binary32 b)) e)
tagged-given gray b e = (_, ap (λ (z : Bool). sample_by z model.Gray (of_bits binary32 b)) e)

pub channel-given : {t b : ℕ} → ChannelGiven t b → (s : ℕ) × (to_sample t b ≡ gives s)
channel-given (unit {t} {b} k h) = tagged-given k b (unit-yes b h)
channel-given (minus {t} k) = tagged-given k 0x8000_0000 unit-minus

tagged-refused : {t : ℕ} → Tagged t → (b : ℕ) → in_unit (of_bits binary32 b) ≡ false → to_sample t b ≡ refused 5 0
unfolding model_of
tagged-refused rgb b e = ap (λ (z : Bool). sample_by z model.Rgb (of_bits binary32 b)) e
tagged-refused cmyk b e = ap (λ (z : Bool). sample_by z model.Cmyk (of_bits binary32 b)) e
tagged-refused gray b e = ap (λ (z : Bool). sample_by z model.Gray (of_bits binary32 b)) e

lab-by : (b : ℕ) (z : Bool) → finite (of_bits binary32 b) ≡ z → to_sample (chars "LAB ") b ≡ sample_by z model.Lab (of_bits binary32 b)
unfolding model_of
lab-by b z e = ap (λ (k : Bool). sample_by k model.Lab (of_bits binary32 b)) e

-- an unknown model is 4 whatever the bits; then a channel that is not finite, or outside 0 to 1 save in Lab, is 5; then Lab is 14; all at place 0
pub channel-refused : {t b n : ℕ} → b < 2 ^ 32 → ChannelRefused t b n → to_sample t b ≡ refused n 0
unfolding model_of
channel-refused small (unknown {t} {b} u) =
    rw (ne_eqb t (chars "RGB ") u.no_rgb, ne_eqb t (chars "CMYK") u.no_cmyk, ne_eqb t (chars "LAB ") u.no_lab, ne_eqb t (chars "Gray") u.no_gray) refl
channel-refused small (outside {t} {b} k h other) = tagged-refused k b (unit-no b small h other)
channel-refused small (endless {b} h) = lab-by b false (finite-bits binary32 b ∙ le-ltb (b % 0x8000_0000) 0x7F80_0000 h)
channel-refused small (lab {b} h) = lab-by b true (finite-bits binary32 b ∙ lt-ltb (b % 0x8000_0000) 0x7F80_0000 h)

-- ---- the account leaves nothing out

-- a sample has a channel or a refusal
abbrev Told : ℕ → ℕ → Type 0
Told x v = SampleGiven x v ⊎ ((n : ℕ) × SampleRefused x v n)

gray-told : (v : ℕ) → Told 8 v
gray-told v = elim (dec_le v 10000) [ yes h ↦ inl (gray h) | no h ↦ inr (5, above (lt_of_not-le h)) ]

pub every-sample : (x v : ℕ) → v < 2 ^ 16 → SampleGiven x v ⊎ ((n : ℕ) × SampleRefused x v n)
every-sample x v small = elim (ℕ_discrete x 0) [
  | yes e ↦ subst (λ (z : ℕ). Told z v) (sym e) (inl (rgb (omega arith)))
  | no a ↦ elim (ℕ_discrete x 1) [
    | yes e ↦ subst (λ (z : ℕ). Told z v) (sym e) (inr (14, hsb))
    | no b ↦ elim (ℕ_discrete x 2) [
      | yes e ↦ subst (λ (z : ℕ). Told z v) (sym e) (inl (cmyk (omega arith)))
      | no c ↦ elim (ℕ_discrete x 7) [
        | yes e ↦ subst (λ (z : ℕ). Told z v) (sym e) (inr (14, lab))
        | no d ↦ elim (ℕ_discrete x 8) [
          | yes e ↦ subst (λ (z : ℕ). Told z v) (sym e) (gray-told v)
          | no f ↦ inr (4, unknown (record { no_rgb = a; no_hsb = b; no_cmyk = c; no_lab = d; no_gray = f }))
        ]
      ]
    ]
  ]
]

-- a channel has a sample or a refusal
abbrev Said : ℕ → ℕ → Type 0
Said t b = ChannelGiven t b ⊎ ((n : ℕ) × ChannelRefused t b n)

tagged-said : {t : ℕ} → Tagged t → (b : ℕ) → Said t b
tagged-said {t} k b = elim (dec_le b 0x3F80_0000) [
  | yes h ↦ inl (unit k h)
  | no h ↦ elim (ℕ_discrete b 0x8000_0000) [
    | yes e ↦ inl (subst (ChannelGiven t) (sym e) (minus k))
    | no o ↦ inr (5, outside k (lt_of_not-le h) o)
  ]
]

lab-said : (b : ℕ) → Said (chars "LAB ") b
lab-said b = elim (dec_le 0x7F80_0000 (b % 0x8000_0000)) [ yes h ↦ inr (5, endless h) | no h ↦ inr (14, lab (lt_of_not-le h)) ]

pub every-channel : (t b : ℕ) → ChannelGiven t b ⊎ ((n : ℕ) × ChannelRefused t b n)
every-channel t b = elim (ℕ_discrete t (chars "RGB ")) [
  | yes e ↦ subst (λ (z : ℕ). Said z b) (sym e) (tagged-said rgb b)
  | no r ↦ elim (ℕ_discrete t (chars "CMYK")) [
    | yes e ↦ subst (λ (z : ℕ). Said z b) (sym e) (tagged-said cmyk b)
    | no c ↦ elim (ℕ_discrete t (chars "LAB ")) [
      | yes e ↦ subst (λ (z : ℕ). Said z b) (sym e) (lab-said b)
      | no l ↦ elim (ℕ_discrete t (chars "Gray")) [
        | yes e ↦ subst (λ (z : ℕ). Said z b) (sym e) (tagged-said gray b)
        | no g ↦ inr (4, unknown (record { no_rgb = r; no_cmyk = c; no_lab = l; no_gray = g }))
      ]
    ]
  ]
]
