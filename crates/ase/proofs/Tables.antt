-- The grammar's tables of types, models and channels, and the reader's. Assumes nothing.
use Prim.Native.Nat.{ℕ, ◌^◌, ◌<◌}
use mathlib.Core.Path.{◌≡◌, refl, sym, subst}
use mathlib.Core.Logic.{inl, inr}
use mathlib.Core.List.{List}
use mathlib.Core.Bool.{Bool, true, false, true≢false}
use lib.Dec.{eqb}
use borrow.Author.Tests.{ne_eqb}
use native.Mathlib.Omega.{arith}
use Rattle.std.specs.Prelude.{Some, None}
use Rattle.colour.specs.declared.model.Model.TheVariants as vm
use Rattle.colour.specs.Models.{model_of, is_known_model, count_in, is_model, channels_of}
use Rattle.colour.specs.Channels.{allows_bits}
use Rattle.colour.proofs.Models.{Tagged, of, none, model-tagged, allows-unit, allows-minus, allows-lab, allows-inv}
use Rattle.algebra.specs.Numbers.{All}
use Rattle.algebra.specs.Reader.{fine}
use Rattle.algebra.proofs.Exact.{all_map}
use Rattle.ase.specs.Reading.{channel, is_block_type}
use Rattle.ase.specs.Grammar.{Known, starts, stops, colours, Unknown, Model, rgb, cmyk, lab, gray, Channel, unit, minus, finite}

-- ---- types of a block

pub known-type : {t : ℕ} → Known t → is_block_type t ≡ true
known-type starts = refl
known-type stops = refl
known-type colours = refl

pub known_small : {t : ℕ} → Known t → t < 256 ^ 2
known_small starts = omega arith
known_small stops = omega arith
known_small colours = omega arith

module _ (t : ℕ) (u : Unknown t) where
  pub no_start : eqb t 0xC001 ≡ false
  no_start = ne_eqb t 0xC001 (λ e. u.none (subst Known (sym e) starts))

  pub no_stop : eqb t 0xC002 ≡ false
  no_stop = ne_eqb t 0xC002 (λ e. u.none (subst Known (sym e) stops))

  pub no-colour : eqb t 0x0001 ≡ false
  no-colour = ne_eqb t 0x0001 (λ e. u.none (subst Known (sym e) colours))

  pub unknown-type : is_block_type t ≡ false
  unknown-type = simp (no_start, no_stop, no-colour)

-- ---- models

pub model-known : {t n : ℕ} → Model t n → is_model t ≡ true
unfolding model_of is_model
model-known rgb = refl
model-known cmyk = refl
model-known lab = refl
model-known gray = refl

pub model-count : {t n : ℕ} → Model t n → channels_of t ≡ n
unfolding model_of channels_of
model-count rgb = refl
model-count cmyk = refl
model-count lab = refl
model-count gray = refl

pub known-model : (t : ℕ) → is_model t ≡ true → Model t (channels_of t)
unfolding is_model channels_of
known-model t e = go (model_of t) (model-tagged t) e
  where
    go : (k : _) → Tagged t k → is_known_model k ≡ true → Model t (count_in k)
    go (Some vm.Rgb) (of vm.Rgb g) x = subst (λ (y : ℕ). Model y 3) (sym g) rgb
    go (Some vm.Cmyk) (of vm.Cmyk g) x = subst (λ (y : ℕ). Model y 4) (sym g) cmyk
    go (Some vm.Lab) (of vm.Lab g) x = subst (λ (y : ℕ). Model y 3) (sym g) lab
    go (Some vm.Gray) (of vm.Gray g) x = subst (λ (y : ℕ). Model y 1) (sym g) gray
    go None none x = absurd (true≢false (sym x))

-- a tag that is no model's
pub unknown-model : (t : ℕ) → ((n : ℕ) → Model t n → ⊥) → is_model t ≡ false
unknown-model t h = go (is_model t) refl
  where
    go : (b : Bool) → is_model t ≡ b → b ≡ false
    go true e = absurd (h (channels_of t) (known-model t e))
    go false e = refl

pub model_small : {t n : ℕ} → Model t n → t < 256 ^ 4
model_small rgb = omega arith
model_small cmyk = omega arith
model_small lab = omega arith
model_small gray = omega arith

-- ---- the bits of a channel

pub channel-allowed : {t b : ℕ} → is_model t ≡ true → Channel t b → allows_bits t b ≡ true
channel-allowed {t} {b} k (unit h) = allows-unit t b k h
channel-allowed {t} {b} k minus = allows-minus t k
channel-allowed {t} {b} k (finite l h) = allows-lab b h

pub allowed-channel : (t b : ℕ) → b < 256 ^ 4 → allows_bits t b ≡ true → Channel t b
allowed-channel t b l e = elim (allows-inv t b (omega arith) e) [
  | inl h ↦ unit h
  | inr (inl h) ↦ subst (λ (x : ℕ). Channel t x) (sym h) minus
  | inr (inr h) ↦ subst (λ (x : ℕ). Channel x b) (sym h.0) (finite (omega arith) h.1)
]

pub channel-small : {t b : ℕ} → Channel t b → b < 256 ^ 4
channel-small {t} {b} (unit h) = omega arith
channel-small {t} {b} minus = omega arith
channel-small {t} {b} (finite l h) = omega arith

-- bits that the model's channels do not have
pub channel-refused : (t b : ℕ) → b < 256 ^ 4 → (Channel t b → ⊥) → allows_bits t b ≡ false
channel-refused t b l h = go (allows_bits t b) refl
  where
    go : (x : Bool) → allows_bits t b ≡ x → x ≡ false
    go true e = absurd (h (allowed-channel t b l e))
    go false e = refl

pub channel-fine : {t b : ℕ} → is_model t ≡ true → Channel t b → channel t b ≡ fine
channel-fine k c = rw (channel-allowed k c)

-- those of a colour by the reader's test
pub channels-fine : (t : ℕ) (bs : List ℕ) → is_model t ≡ true → All (λ i b. Channel t b) 0 bs → All (λ i b. (b < 256 ^ 4) × (channel t b ≡ fine)) 0 bs
channels-fine t bs k h = all_map (λ i b. Channel t b) (λ i b. (b < 256 ^ 4) × (channel t b ≡ fine)) (λ i b c. (channel-small c, channel-fine k c)) 0 bs h
