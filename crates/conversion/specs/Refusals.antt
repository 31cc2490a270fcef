-- Which refusal a conversion gives, by spaces, tags and bits alone: nothing here converts, and the tables are its own.
use Rattle.std.specs.Prelude.{ℕ, ◌%◌, ◌≤◌, ◌<◌, ◌≡◌}
use Rattle.algebra.specs.Chars.{chars}

-- ---- a sample of a space

-- a space with a model, and a sample of it that has a channel: RGB and CMYK to 65,535, gray to 10,000
pub data SampleGiven : ℕ → ℕ → Type 0 where
  rgb : {v : ℕ} → v ≤ 65535 → SampleGiven 0 v
  cmyk : {v : ℕ} → v ≤ 65535 → SampleGiven 2 v
  gray : {v : ℕ} → v ≤ 10000 → SampleGiven 8 v

-- a space that is none of the five
pub record UnknownSpace (x : ℕ) : Type 0 where
  pub no_rgb : x ≡ 0 → ⊥
  pub no_hsb : x ≡ 1 → ⊥
  pub no_cmyk : x ≡ 2 → ⊥
  pub no_lab : x ≡ 7 → ⊥
  pub no_gray : x ≡ 8 → ⊥

-- a space, a sample and its refusal; in HSB and Lab whatever the sample
pub data SampleRefused : ℕ → ℕ → ℕ → Type 0 where
  unknown : {x v : ℕ} → UnknownSpace x → SampleRefused x v 4
  above : {v : ℕ} → 10000 < v → SampleRefused 8 v 5
  hsb : {v : ℕ} → SampleRefused 1 v 14
  lab : {v : ℕ} → SampleRefused 7 v 14

-- ---- a channel of a model, by its bits

-- the models that have a space: `RGB `, `CMYK`, `Gray`
pub data Tagged : ℕ → Type 0 where
  rgb : Tagged (chars "RGB ")
  cmyk : Tagged (chars "CMYK")
  gray : Tagged (chars "Gray")

-- a tag that is none of these and not `LAB `
pub record UnknownModel (t : ℕ) : Type 0 where
  pub no_rgb : t ≡ chars "RGB " → ⊥
  pub no_cmyk : t ≡ chars "CMYK" → ⊥
  pub no_lab : t ≡ chars "LAB " → ⊥
  pub no_gray : t ≡ chars "Gray" → ⊥

-- a tag, the bits of a channel, and its refusal. Above 3F800000, which is 1, stand the floats above 1, the infinities, the NaNs and all that have a sign;
-- of these only minus zero is from 0 to 1. Without the sign, an infinity and the NaNs stand from 7F800000 on
pub data ChannelRefused : ℕ → ℕ → ℕ → Type 0 where
  unknown : {t b : ℕ} → UnknownModel t → ChannelRefused t b 4
  outside : {t b : ℕ} → Tagged t → 0x3F80_0000 < b → (b ≡ 0x8000_0000 → ⊥) → ChannelRefused t b 5
  endless : {b : ℕ} → 0x7F80_0000 ≤ b % 0x8000_0000 → ChannelRefused (chars "LAB ") b 5
  lab : {b : ℕ} → b % 0x8000_0000 < 0x7F80_0000 → ChannelRefused (chars "LAB ") b 14

-- a tag and the bits of a channel that has a sample
pub data ChannelGiven : ℕ → ℕ → Type 0 where
  unit : {t b : ℕ} → Tagged t → b ≤ 0x3F80_0000 → ChannelGiven t b
  minus : {t : ℕ} → Tagged t → ChannelGiven t 0x8000_0000
