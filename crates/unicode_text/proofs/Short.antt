-- How long units are in UTF-8. Assumes nothing.
use Prim.Native.Nat.{ℕ, suc, ◌+◌, ◌*◌, ◌≤◌, ◌<◌}
use mathlib.Core.Path.{◌≡◌, refl, ap}
use mathlib.Core.List.{List, [], ◌∷◌}
use mathlib.Core.Bool.{Bool, true, false, ◌&&◌}
use lib.ListN.{length, length-append}
use lib.Dec.{leb, ltb}
use borrow.Author.Tests.{ltb-true, ltb-false}
use native.Mathlib.Omega.{arith}
use Rattle.algebra.specs.Reader.{pick}
use Rattle.algebra.specs.Numbers.{joined}
use Rattle.unicode_text.specs.Grammar.{Units}
use Rattle.unicode_text.specs.Reading.{paired, single, scalars, scalar_bytes, utf8}
use Rattle.unicode_text.specs.scaffold.Steps.{is_pair}
use Rattle.unicode_text.proofs.Laws.{ascii-bytes, bytes-two, bytes-three, bytes-four}

-- a scalar value has one to four bytes, and below 0x10000 at most three
pub record Widths (c : ℕ) : Type 0 where
  pub some : 0 < length (scalar_bytes c)
  pub most : length (scalar_bytes c) ≤ 4
  pub three : (c < 0x10000 → length (scalar_bytes c) ≤ 3)

pub widths : (c : ℕ) → Widths c
widths c = go (ltb c 0x80) (ltb c 0x800) (ltb c 0x10000) refl refl refl
  where
    by : (n : ℕ) → length (scalar_bytes c) ≡ n → 0 < n → n ≤ 4 → (c < 0x10000 → n ≤ 3) → Widths c
    by n e a b d = record { some = omega arith; most = omega arith; three = λ h. omega (arith, d h) }

    go : (x y z : Bool) → ltb c 0x80 ≡ x → ltb c 0x800 ≡ y → ltb c 0x10000 ≡ z → Widths c
    go true y z e f g = by 1 (ap length (ascii-bytes c (ltb-true c 0x80 e))) (omega arith) (omega arith) (λ h. omega arith)
    go false true z e f g = by 2 (ap length (bytes-two c (ltb-false c 0x80 e) (ltb-true c 0x800 f))) (omega arith) (omega arith) (λ h. omega arith)
    go false false true e f g = by 3 (ap length (bytes-three c (ltb-false c 0x800 f) (ltb-true c 0x10000 g))) (omega arith) (omega arith) (λ h. omega arith)
    go false false false e f g = let l = ltb-false c 0x10000 g in by 4 (ap length (bytes-four c l)) (omega arith) (omega arith) (λ h. absurd (omega arith))

pub single-lt : (u : ℕ) → u < 0x10000 → single u < 0x10000
single-lt u h = go (leb 0xD800 u && leb u 0xDFFF)
  where
    go : (b : Bool) → pick b 0xFFFD u < 0x10000
    go true = omega arith
    go false = h

one_more : (c : ℕ) (cs : List ℕ) → length (joined scalar_bytes (c ∷ cs)) ≡ length (scalar_bytes c) + length (joined scalar_bytes cs)
unfolding joined
one_more c cs = length-append (scalar_bytes c) (joined scalar_bytes cs)

short-step : (u v : ℕ) (us : List ℕ) → u < 0x10000 → length (utf8 us) ≤ 3 * length us → length (utf8 (v ∷ us)) ≤ 3 * length (v ∷ us) → length (utf8 (u ∷ v ∷ us)) ≤ 3 * length (u ∷ v ∷ us)
unfolding scalars
short-step u v us h two one = go (is_pair u v)
  where
    go : (b : Bool) → length (joined scalar_bytes (pick b (paired u v ∷ scalars us) (single u ∷ scalars (v ∷ us)))) ≤ 3 * suc (suc (length us))
    go true = let w = widths (paired u v) in omega (arith, one_more (paired u v) (scalars us), w.most)
    go false = let w = widths (single u) in omega (arith, one_more (single u) (scalars (v ∷ us)), w.three (single-lt u h))

-- at most three bytes a unit
pub short : (us : List ℕ) → Units us → length (utf8 us) ≤ 3 * length us
unfolding scalars joined
short [] h = omega arith
short (u ∷ []) h = let w = widths (single u) in omega (arith, one_more (single u) [], w.three (single-lt u (h 0)))
short (u ∷ v ∷ us) h = short-step u v us (h 0) (short us (λ k. h (suc (suc k)))) (short (v ∷ us) (λ k. h (suc k)))
