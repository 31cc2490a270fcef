-- The scalar value at the front of units, by the tests of the code. Assumes nothing.
use Prim.Native.Nat.{ℕ, ◌-◌, ◌*◌, ◌/◌, ◌≤◌, ◌<◌}
use mathlib.Core.Path.{◌≡◌, refl, sym, ap, ap₂, ◌∙◌}
use mathlib.Core.Bool.{Bool, true, false, ◌&&◌}
use lib.Dec.{leb, ltb, eqb}
use borrow.Author.Tests.{ltb-true, ltb-false, eqb-true, eqb-false, le-leb}
use native.Mathlib.Omega.{arith}
use Rattle.algebra.specs.Reader.{pick, limit}
use mathlib.Core.List.{List}
use lib.ListN.{length}
use Rattle.unicode_text.specs.Reading.{is_high, is_low, paired, single}
use Rattle.unicode_utf8.specs.Answer.{name_fault}
use Rattle.unicode_text.specs.scaffold.Steps.{is_pair, scalar_at, taken}
use Rattle.unicode_text.proofs.Laws.{within, below, past, bounds, and-true}

-- a number that is not from low to high
outside : (low high u : ℕ) → ((low ≤ u) × (u ≤ high) → ⊥) → (leb low u && leb u high) ≡ false
outside low high u n = go (ltb u low) refl
  where
    go : (b : Bool) → ltb u low ≡ b → (leb low u && leb u high) ≡ false
    go true e = below low high u (ltb-true u low e)
    go false e = past low high u (more (ltb high u) refl)
      where
        more : (b : Bool) → ltb high u ≡ b → high < u
        more true f = ltb-true high u f
        more false f = absurd (n (ltb-false u low e, ltb-false high u f))

pub no-pair : (u v : ℕ) → (u / 1024 ≡ 54 → ⊥) → false ≡ is_pair u v
no-pair u v n = sym (ap (λ (b : Bool). b && is_low v) (outside 0xD800 0xDBFF u (λ h. n (omega (arith, h.0, h.1)))))

pub pair-low : (u v : ℕ) → u / 1024 ≡ 54 → eqb (v / 1024) 55 ≡ is_pair u v
pair-low u v e = go (eqb (v / 1024) 55) refl ∙ sym (ap (λ (b : Bool). b && is_low v) (within 0xD800 0xDBFF u (omega arith) (omega arith)))
  where
    go : (b : Bool) → eqb (v / 1024) 55 ≡ b → eqb (v / 1024) 55 ≡ is_low v
    go true f = let h = eqb-true (v / 1024) 55 f in f ∙ sym (within 0xDC00 0xDFFF v (omega arith) (omega arith))
    go false f = f ∙ sym (outside 0xDC00 0xDFFF v (λ h. eqb-false (v / 1024) 55 f (omega (arith, h.0, h.1))))

pub record Pair (u v : ℕ) : Type 0 where
  pub low_u : 0xD800 ≤ u
  pub high_u : u ≤ 0xDBFF
  pub low_v : 0xDC00 ≤ v
  pub high_v : v ≤ 0xDFFF

pub pair_is : (u v : ℕ) → true ≡ is_pair u v → Pair u v
pair_is u v e =
    let t = and-true (is_high u) (is_low v) (sym e) in
    let a = bounds 0xD800 0xDBFF u t.0 in
    let b = bounds 0xDC00 0xDFFF v t.1 in
    record { low_u = a.0; high_u = a.1; low_v = b.0; high_v = b.1 }

pub scalar-pair : (u v : ℕ) → true ≡ is_pair u v → paired u v ≡ scalar_at u v
unfolding scalar_at
scalar-pair u v e = ap (λ (b : Bool). pick b (paired u v) (single u)) e

pub scalar-lone : (u v : ℕ) → false ≡ is_pair u v → u / 2048 ≡ 27 → 0xFFFD ≡ scalar_at u v
unfolding scalar_at
scalar-lone u v e h = sym (ap (λ (b : Bool). pick b 0xFFFD u) (within 0xD800 0xDFFF u (omega arith) (omega arith))) ∙ ap (λ (b : Bool). pick b (paired u v) (single u)) e

pub scalar-own : (u v : ℕ) → false ≡ is_pair u v → (u / 2048 ≡ 27 → ⊥) → u ≡ scalar_at u v
unfolding scalar_at
scalar-own u v e n = sym (ap (λ (b : Bool). pick b 0xFFFD u) (outside 0xD800 0xDFFF u (λ h. n (omega (arith, h.0, h.1))))) ∙ ap (λ (b : Bool). pick b (paired u v) (single u)) e

pub taken_is : (u v : ℕ) (b : Bool) → b ≡ is_pair u v → pick b 2 1 ≡ taken u v
unfolding taken
taken_is u v b e = ap (λ (t : Bool). pick t 2 1) e

-- ---- units of a file

module _ (s : List ℕ) (at n : ℕ) where
  pub fault-none : length s ≤ limit → 2 * n ≤ length s - at → 0 ≡ name_fault s at n
  fault-none h k = sym (ap₂ (λ (a b : Bool). pick a (pick b 0 2) 1) (le-leb (length s) limit h) (le-leb (2 * n) (length s - at) k))
