-- Models by their tags, and which bits of a channel they allow. Assumes nothing.
use Prim.Native.Nat.{ℕ, ◌%◌, ◌^◌, ◌≤◌, ◌<◌}
use mathlib.Core.Path.{◌≡◌, refl, sym, ◌∙◌, subst}
use mathlib.Core.Logic.{◌⊎◌, inl, inr}
use mathlib.Core.Bool.{Bool, true, false, true≢false}
use native.Mathlib.Omega.{arith}
use native.Mathlib.Decide.{ℕ_discrete}
use lib.Dec.{eqb}
use lib.Ieee.{binary32, of_bits}
use lib.Ieee.Scale.{finite}
use borrow.Author.Tests.{lt-ltb, le-leb, ltb-true, leb-true, eqb-true}
use Rattle.std.specs.Prelude.{Option, Some, None}
use Rattle.algebra.specs.Chars.{chars}
use Rattle.algebra.specs.Reader.{pick}
use Rattle.algebra.proofs.Floats.{finite-bits}
use Rattle.colour.specs.declared.model.Model.{Model}
use Rattle.colour.specs.declared.model.Model.TheVariants.{Rgb, Cmyk, Lab, Gray}
use Rattle.colour.specs.Models.{traits_of, model_of, is_known_model, is_model, channels_of}
use Rattle.colour.specs.Channels.{in_unit, allows, allows_in, allows_bits}
use Rattle.colour.proofs.Unit.{unit-minus, unit-finite, unit-leb}

-- ---- the model with a tag

pub data Tagged (t : ℕ) : Option Model → Type 0 where
  of : (m : Model) → t ≡ (traits_of m).tag → Tagged t (Some m)
  none : Tagged t None

tag-by : (t : ℕ) (m : Model) (b : Bool) → eqb t (traits_of m).tag ≡ b → (rest : Option Model) → Tagged t rest → Tagged t (pick b (Some m) rest)
tag-by t m true e rest more = of m (eqb-true t (traits_of m).tag e)
tag-by t m false e rest more = more

pub model-tagged : (t : ℕ) → Tagged t (model_of t)
unfolding model_of
model-tagged t =
    tag-by t Rgb (eqb t (traits_of Rgb).tag) refl _ (tag-by t Cmyk (eqb t (traits_of Cmyk).tag) refl _
    (tag-by t Lab (eqb t (traits_of Lab).tag) refl _ (tag-by t Gray (eqb t (traits_of Gray).tag) refl _ none)))

-- the tag of a model that was found by it
pub tag-known : (t : ℕ) (m : Model) → model_of t ≡ Some m → (traits_of m).tag ≡ t
tag-known t m e = go (subst (Tagged t) e (model-tagged t))
  where
    go : Tagged t (Some m) → (traits_of m).tag ≡ t
    go (of n g) = sym g

pub tag-allows : (m : Model) (b : ℕ) → allows_bits (traits_of m).tag b ≡ allows m (of_bits binary32 b)
unfolding allows_bits model_of
tag-allows Rgb b = refl
tag-allows Cmyk b = refl
tag-allows Lab b = refl
tag-allows Gray b = refl

pub tag-channels : (m : Model) → channels_of (traits_of m).tag ≡ (traits_of m).channels
unfolding channels_of model_of
tag-channels Rgb = refl
tag-channels Cmyk = refl
tag-channels Lab = refl
tag-channels Gray = refl

pub model-bad : (t : ℕ) → model_of t ≡ None → is_model t ≡ false
unfolding is_model
model-bad t e = rw e

pub model-good : (t : ℕ) (m : Model) → model_of t ≡ Some m → is_model t ≡ true
unfolding is_model
model-good t m e = rw e

-- ---- the bits of its channels

-- from 0 to 1 by the bits
unit-by : (b : ℕ) → b < 2 ^ 32 → in_unit (of_bits binary32 b) ≡ true → (b ≤ 0x3f80_0000) ⊎ (b ≡ 0x8000_0000)
unit-by b h e = elim (ℕ_discrete b 0x8000_0000) [
  | yes z ↦ inr z
  | no z ↦ inl (leb-true b 0x3f80_0000 (unit-leb b h z ∙ e))
]

unit-of : (b : ℕ) → b ≤ 0x3f80_0000 → in_unit (of_bits binary32 b) ≡ true
unit-of b h = sym (unit-leb b (omega arith) (λ z. omega arith)) ∙ le-leb b 0x3f80_0000 h

-- what every model allows
every : (m : Model) (b : ℕ) → in_unit (of_bits binary32 b) ≡ true → allows m (of_bits binary32 b) ≡ true
every Rgb b e = e
every Cmyk b e = e
every Lab b e = unit-finite (of_bits binary32 b) e
every Gray b e = e

known-allows : (k : Option Model) (b : ℕ) → is_known_model k ≡ true → in_unit (of_bits binary32 b) ≡ true → allows_in k b ≡ true
known-allows (Some m) b h e = every m b e
known-allows None b h e = absurd (true≢false (sym h))

module _ (t : ℕ) where
  pub allows-unit : (b : ℕ) → is_model t ≡ true → b ≤ 0x3f80_0000 → allows_bits t b ≡ true
  unfolding is_model allows_bits
  allows-unit b h l = known-allows (model_of t) b h (unit-of b l)

  pub allows-minus : is_model t ≡ true → allows_bits t 0x8000_0000 ≡ true
  unfolding is_model allows_bits
  allows-minus h = known-allows (model_of t) 0x8000_0000 h unit-minus

-- in Lab any finite float
pub allows-lab : (b : ℕ) → b % 0x8000_0000 < 0x7f80_0000 → allows_bits (chars "LAB ") b ≡ true
unfolding model_of allows_bits
allows-lab b h = finite-bits binary32 b ∙ lt-ltb (b % 0x8000_0000) 0x7f80_0000 h

lab-finite : (b : ℕ) → finite (of_bits binary32 b) ≡ true → b % 0x8000_0000 < 0x7f80_0000
lab-finite b e = ltb-true (b % 0x8000_0000) 0x7f80_0000 (sym (finite-bits binary32 b) ∙ e)

-- what is allowed is from 0 to 1, minus zero, or in Lab finite
abbrev pub ByBits : ℕ → ℕ → Type 0
ByBits t b = (b ≤ 0x3f80_0000) ⊎ ((b ≡ 0x8000_0000) ⊎ ((t ≡ chars "LAB ") × (b % 0x8000_0000 < 0x7f80_0000)))

pub allows-inv : (t b : ℕ) → b < 2 ^ 32 → allows_bits t b ≡ true → ByBits t b
unfolding allows_bits
allows-inv t b h e = go (model_of t) (model-tagged t) e
  where
    unit : in_unit (of_bits binary32 b) ≡ true → ByBits t b
    unit x = elim (unit-by b h x) [ inl y ↦ inl y | inr y ↦ inr (inl y) ]

    go : (k : Option Model) → Tagged t k → allows_in k b ≡ true → ByBits t b
    go (Some Rgb) (of Rgb g) x = unit x
    go (Some Cmyk) (of Cmyk g) x = unit x
    go (Some Lab) (of Lab g) x = inr (inr (g, lab-finite b x))
    go (Some Gray) (of Gray g) x = unit x
    go None none x = absurd (true≢false (sym x))
