-- Runs of samples, by their space. Assumes nothing.
use Prim.Native.Nat.{ℕ, ◌-◌, ◌<◌}
use mathlib.Core.Path.{◌≡◌, refl, sym, ap, ◌∙◌, subst}
use mathlib.Core.Bool.{Bool, true, false}
use mathlib.Core.List.{List, [], ◌∷◌, map}
use native.Mathlib.Omega.{arith}
use native.Mathlib.Nat.{zero-add}
use borrow.Author.Tests.{le-leb}
use lib.ListN.{length, get_or}
use lib.Dec.{leb}
use lib.Ieee.{Float, binary32, to_bits}
use Rattle.std.specs.Prelude.{Some, None}
use Rattle.algebra.specs.Reader.{pick}
use Rattle.colour.specs.Spaces.{uses, full, known, ranged, allowed}
use Rattle.conversion.specs.Scale.{channel_of}
use Rattle.conversion.specs.Convert.{Converted, gives, refused, and_then, unmatched, to_channel}
use Rattle.convert.proofs.Converting.{other-channel}
use Rattle.conversion.specs.Tray.{converted_in_order, to_bits_of}
use Rattle.tray.specs.scaffold.Parts.{First, low, plain, turned, results, judged}
use Rattle.tray.proofs.Laws.{all-given, one-refused, results-are, none-given, first-refused}

-- ---- one sample

by-pick : (b : Bool) (c : Float) (y : ℕ) → and_then (pick b (gives c) (refused 5 0)) (λ c. gives (to_bits binary32 c)) ≡ gives y → y ≡ to_bits binary32 c
by-pick true c y e = cc
by-pick false c y e = let z : ◌≡◌ {A = ℕ} 0 1 = cc in absurd (omega arith)

rgb-each : (v y : ℕ) → to_bits_of 0 v ≡ gives y → y ≡ plain 65535 v
unfolding to_channel full
rgb-each v y e = by-pick (allowed 0 0 v) (channel_of 65535 v) y e

cmyk-each : (v y : ℕ) → to_bits_of 2 v ≡ gives y → y ≡ turned v
unfolding to_channel full
cmyk-each v y e = by-pick (allowed 2 0 v) (channel_of 65535 (65535 - v)) y e

gray-each : (v y : ℕ) → to_bits_of 8 v ≡ gives y → y ≡ plain 10000 v
unfolding to_channel full
gray-each v y e = by-pick (allowed 8 0 v) (channel_of 10000 v) y e

-- a number of 16 bits
short : ℕ → Bool
short v = leb v 65535

rgb-yes : (v : ℕ) → short v ≡ true → to_bits_of 0 v ≡ gives (plain 65535 v)
unfolding to_channel full allowed ranged uses short
rgb-yes v e = rw e

cmyk-yes : (v : ℕ) → short v ≡ true → to_bits_of 2 v ≡ gives (turned v)
unfolding to_channel full allowed ranged uses short
cmyk-yes v e = rw e

gray-yes : (v : ℕ) → low v ≡ true → to_bits_of 8 v ≡ gives (plain 10000 v)
unfolding to_channel full allowed ranged uses
gray-yes v e = rw e

gray-no : (v : ℕ) → low v ≡ false → to_bits_of 8 v ≡ refused 5 0
unfolding to_channel full allowed ranged uses
gray-no v e = rw e

-- ---- a run

module _ (x : ℕ) (xs : List ℕ) where
  same : (y : ℕ) (P : Converted (List ℕ) → Type 0) → x ≡ y → P (converted_in_order (to_bits_of y) 0 xs) → P (converted_in_order (to_bits_of x) 0 xs)
  same y P e p = subst (λ (z : ℕ). P (converted_in_order (to_bits_of z) 0 xs)) (sym e) p

  pub rgb-judged : x ≡ 0 → ((j : ℕ) → get_or xs j 0 < 65536) → gives tt ≡ judged (converted_in_order (to_bits_of x) 0 xs)
  unfolding short
  rgb-judged k w = same 0 (λ m. gives tt ≡ judged m) k (ap judged (sym (all-given (to_bits_of 0) (plain 65535) short rgb-yes 0 xs (λ j h. le-leb (get_or xs j 0) 65535 (omega (arith, w j))))))

  pub cmyk-judged : x ≡ 2 → ((j : ℕ) → get_or xs j 0 < 65536) → gives tt ≡ judged (converted_in_order (to_bits_of x) 0 xs)
  unfolding short
  cmyk-judged k w = same 2 (λ m. gives tt ≡ judged m) k (ap judged (sym (all-given (to_bits_of 2) turned short cmyk-yes 0 xs (λ j h. le-leb (get_or xs j 0) 65535 (omega (arith, w j))))))

  pub gray-judged : x ≡ 8 → First low xs None → gives tt ≡ judged (converted_in_order (to_bits_of x) 0 xs)
  gray-judged k f = same 8 (λ m. gives tt ≡ judged m) k (ap judged (sym (all-given (to_bits_of 8) (plain 10000) low gray-yes 0 xs f)))

  pub gray-stopped : x ≡ 8 → (i : ℕ) → First low xs (Some i) → refused 5 i ≡ judged (converted_in_order (to_bits_of x) 0 xs)
  gray-stopped k i f = same 8 (λ m. refused 5 i ≡ judged m) k
      (ap (λ (z : ℕ). refused 5 z) (sym (zero-add i)) ∙ ap judged (sym (one-refused (to_bits_of 8) (plain 10000) low gray-yes 0 xs i 5 0 f.1 f.0 (gray-no (get_or xs i 0) f.2))))

  pub rgb-results : x ≡ 0 → gives tt ≡ judged (converted_in_order (to_bits_of x) 0 xs) → results (converted_in_order (to_bits_of x) 0 xs) ≡ map (plain 65535) xs
  rgb-results k = same 0 (λ m. gives tt ≡ judged m → results m ≡ map (plain 65535) xs) k (results-are (to_bits_of 0) (plain 65535) (λ x. Unit {0}) (λ x y u. rgb-each x y) 0 xs (λ j. tt))

  pub cmyk-results : x ≡ 2 → gives tt ≡ judged (converted_in_order (to_bits_of x) 0 xs) → results (converted_in_order (to_bits_of x) 0 xs) ≡ map turned xs
  cmyk-results k = same 2 (λ m. gives tt ≡ judged m → results m ≡ map turned xs) k (results-are (to_bits_of 2) turned (λ x. Unit {0}) (λ x y u. cmyk-each x y) 0 xs (λ j. tt))

  pub gray-results : x ≡ 8 → gives tt ≡ judged (converted_in_order (to_bits_of x) 0 xs) → results (converted_in_order (to_bits_of x) 0 xs) ≡ map (plain 10000) xs
  gray-results k = same 8 (λ m. gives tt ≡ judged m → results m ≡ map (plain 10000) xs) k (results-are (to_bits_of 8) (plain 10000) (λ x. Unit {0}) (λ x y u. gray-each x y) 0 xs (λ j. tt))

  -- a space that has no model
  module _ (no_rgb : x ≡ 0 → ⊥) (no_cmyk : x ≡ 2 → ⊥) (no_gray : x ≡ 8 → ⊥) where
    never : (v : ℕ) → to_bits_of x v ≡ refused (unmatched (known x)) 0
    never v = ap (λ (c : Converted Float). and_then c (λ c. gives (to_bits binary32 c))) (sym (other-channel x v (unmatched (known x)) no_rgb no_cmyk no_gray refl))

    pub other-judged : 0 < length xs → (r : Converted Unit) → r ≡ and_then (to_channel x (get_or xs 0 0)) (λ c. gives tt) → r ≡ judged (converted_in_order (to_bits_of x) 0 xs)
    other-judged h r e =
        e ∙ ap (λ (c : Converted Float). and_then {B = Unit} c (λ c. gives tt)) (sym (other-channel x (get_or xs 0 0) (unmatched (known x)) no_rgb no_cmyk no_gray refl))
        ∙ ap judged (sym (first-refused (to_bits_of x) (unmatched (known x)) 0 xs h (never (get_or xs 0 0))))

    pub other-results : gives tt ≡ judged (converted_in_order (to_bits_of x) 0 xs) → results (converted_in_order (to_bits_of x) 0 xs) ≡ []
    other-results = none-given (to_bits_of x) (λ v. (unmatched (known x), never v)) 0 xs

pub none-judged : (x : ℕ) (xs : List ℕ) → length xs ≡ 0 → gives tt ≡ judged (converted_in_order (to_bits_of x) 0 xs)
unfolding converted_in_order
none-judged x [] h = refl
none-judged x (v ∷ vs) h = absurd (omega arith)
