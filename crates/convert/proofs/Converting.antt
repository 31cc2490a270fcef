-- The steps of the conversions on plain values. Assumes nothing.
use Prim.Native.Nat.{ℕ, ◌+◌, ◌-◌, ◌*◌, ◌/◌, ◌^◌, ◌<◌}
use mathlib.Core.Path.{◌≡◌, refl, sym, ap, ◌∙◌, subst}
use mathlib.Core.Bool.{Bool, true, false}
use native.Mathlib.Omega.{arith}
use native.Mathlib.Decide.{ℕ_discrete}
use native.Mathlib.Nat.{mul-zero}
use borrow.Author.Tests.{ne_eqb}
use lib.Ieee.{Float, binary32, of_bits}
use Rattle.std.specs.Prelude.{Result, Ok, Err, None}
use Rattle.std.specs.Result.{IsErrAnd}
use Rattle.std.proofs.lemmas.Result.{err_from_is_err_and}
use Rattle.algebra.specs.Chars.{chars}
use Rattle.algebra.specs.Reader.{pick}
use Rattle.fault.specs.Fault.{number_of}
use Rattle.fault.specs.declared.Fault.{Fault}
use Rattle.fault.specs.declared.Fault.TheVariants.{OutOfRange}
use Rattle.convert.specs.Answer.{told}
use Rattle.colour.specs.Models.{model_of}
use Rattle.colour.specs.Spaces.{uses, full, known, ranged, allowed}
use Rattle.colour.specs.Channels.{in_unit, allows}
use Rattle.conversion.specs.Scale.{channel_of, sample_of, sample_of_bits}
use Rattle.conversion.specs.Convert.{Converted, gives, refused, unmatched, channel_by, to_channel, sample_on, sample_by, sample_in, sample_found, to_sample}
use Rattle.colour.specs.declared.model.Model.{Model}
use Rattle.colour.proofs.Laws.{small-leb}
use Rattle.colour.proofs.Unit.{unit-leb}

-- ---- a refusal that is handed on

pub told-exit : {A : Type 0} (r : Result A Fault) (f : Fault) {m : Converted A} → IsErrAnd r (λ y. y ≡ f) → refused (number_of f) 0 ≡ m → told r ≡ m
told-exit r f h rest = let p = err_from_is_err_and r h in rw (p.1, p.2) rest

-- ---- a sample to a channel

given_by : (x v n : ℕ) (q : Float) → allowed x 0 v ≡ true → q ≡ channel_of (full x) n → gives q ≡ channel_by x v n
given_by x v n q a h = rw a (ap gives h)

-- 16 bits hold only samples that RGB and CMYK allow
pub rgb-given : (v : ℕ) (q : Float) → v < 65536 → q ≡ channel_of 65535 v → gives q ≡ to_channel 0 v
unfolding to_channel full allowed ranged uses
rgb-given v q small h = given_by 0 v v q (small-leb v small) h

pub cmyk-given : (v : ℕ) (q : Float) → v < 65536 → q ≡ channel_of 65535 (65535 - v) → gives q ≡ to_channel 2 v
unfolding to_channel full allowed ranged uses
cmyk-given v q small h = given_by 2 v (65535 - v) q (small-leb v small) h

-- the same of a space that is known to be that
pub same-space : (x y v : ℕ) (c : Converted Float) → x ≡ y → c ≡ to_channel y v → c ≡ to_channel x v
same-space x y v c e h = h ∙ ap (λ (z : ℕ). to_channel z v) (sym e)

pub gray-channel : (x v : ℕ) (q : Float) → x ≡ 8 → allowed x 0 v ≡ true → q ≡ channel_of 10000 v → gives q ≡ to_channel x v
unfolding to_channel full
gray-channel x v q k a h = rw (k) (given_by 8 v v q (subst (λ (z : ℕ). allowed z 0 v ≡ true) k a) h)

pub gray-refused : (x v : ℕ) → x ≡ 8 → allowed x 0 v ≡ false → refused 5 0 ≡ to_channel x v
unfolding to_channel
gray-refused x v k a = rw k (by (subst (λ (z : ℕ). allowed z 0 v ≡ false) k a))
  where
    by : allowed 8 0 v ≡ false → refused 5 0 ≡ channel_by 8 v v
    by e = rw e

pub other-channel : (x v n : ℕ) → (x ≡ 0 → ⊥) → (x ≡ 2 → ⊥) → (x ≡ 8 → ⊥) → n ≡ unmatched (known x) → refused n 0 ≡ to_channel x v
unfolding to_channel
other-channel x v n p q r e = rw (ne_eqb x 0 p, ne_eqb x 2 q, ne_eqb x 8 r, e)

-- ---- a channel to a sample

-- what judging a channel answers, by whether its model allows it
abbrev judged : Bool → Result (Unit {0}) Fault
judged b = pick b (Ok tt) (Err OutOfRange)

-- a channel that its model does not allow is refused by 5
pub judged-no : (m : Model) (x : Float) (f : Fault) → Err f ≡ judged (allows m x) → refused (number_of f) 0 ≡ sample_in m x
judged-no m x f e = go (allows m x) e
  where
    go : (b : Bool) → Err f ≡ judged b → refused (number_of f) 0 ≡ sample_by b m x
    go true e = let z : ◌≡◌ {A = ℕ} 0 1 = cc in absurd (omega arith)
    go false e = let z : f ≡ OutOfRange = cc in ap (λ (y : Fault). refused (number_of y) 0) z

pub judged-yes : (m : Model) (x : Float) → Ok tt ≡ judged (allows m x) → allows m x ≡ true
judged-yes m x e = go (allows m x) e
  where
    go : (b : Bool) → Ok tt ≡ judged b → b ≡ true
    go true e = refl
    go false e = let z : ◌≡◌ {A = ℕ} 0 1 = cc in absurd (omega arith)

pub given-in : (m : Model) (x : Float) (s : Converted ℕ) → allows m x ≡ true → s ≡ sample_on m x → s ≡ sample_in m x
given-in m x s e h = h ∙ ap (λ (t : Bool). sample_by t m x) (sym e)

-- a model that is known by its tag, and a tag that is no model's
pub same_tag : (t u b : ℕ) (s : Converted ℕ) → t ≡ u → s ≡ to_sample u b → s ≡ to_sample t b
same_tag t u b s e h = h ∙ ap (λ (z : ℕ). to_sample z b) (sym e)

pub no_tag : (t b : ℕ) → (t ≡ chars "RGB " → ⊥) → (t ≡ chars "CMYK" → ⊥) → (t ≡ chars "LAB " → ⊥) → (t ≡ chars "Gray" → ⊥) → sample_found None (of_bits binary32 b) ≡ to_sample t b
unfolding model_of
no_tag t b p q r s = rw (ne_eqb t (chars "RGB ") p, ne_eqb t (chars "CMYK") q, ne_eqb t (chars "LAB ") r, ne_eqb t (chars "Gray") s)

-- a channel from 0 to 1 by its bits: those of 1 or below, or minus zero's
pub unit-sample : (n b : ℕ) → b < 2 ^ 32 → in_unit (of_bits binary32 b) ≡ true → sample_of_bits n b ≡ sample_of n (of_bits binary32 b)
unfolding sample_of of_bits
unit-sample n b small e = elim (ℕ_discrete b 0x8000_0000) [
  | yes m ↦ subst (λ (z : ℕ). sample_of_bits n z ≡ sample_of n (of_bits binary32 z)) (sym m) (minus n)
  | no o ↦ rw (unit-leb b small o ∙ e)
]
  where
    minus : (n : ℕ) → 0 ≡ (2 * (n * 0) + 1) / 2
    minus n = rw (mul-zero n)
