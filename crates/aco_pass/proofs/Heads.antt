-- A head whose ten bytes are those of a store. Assumes nothing.
use Prim.Native.Nat.{ℕ, zero, suc, ◌+◌, ◌*◌, ◌<◌}
use mathlib.Core.Path.{◌≡◌, refl, sym, ap, ap₂, ◌∙◌}
use mathlib.Core.List.{List}
use lib.ListN.{length, get_or}
use native.Mathlib.Omega.{arith}
use native.Mathlib.Decide.{ℕ_discrete}
use Rattle.algebra.specs.Reader.{ok, field, or_zero}
use Rattle.algebra.proofs.Laws.{field_in}
use Rattle.algebra.specs.Numbers.{num, Bytes}
use Rattle.aco.specs.Reading.{field_of}
use Rattle.aco_chunks.specs.Chunks.{loaded, entry_head}
use Rattle.aco_items.proofs.Fields.{title_left, entry_head-is, field-same, count-some, loaded-is}
use Rattle.aco_pass.specs.scaffold.Parts.{SameAs}

-- the same number in two lists has the same bytes
num-bytes : (s t : List ℕ) → Bytes s → Bytes t → (w p q : ℕ) → num w s p ≡ num w t q → (k : ℕ) → k < w → get_or s (p + k) 0 ≡ get_or t (q + k) 0
unfolding num
num-bytes s t b c zero p q e k h = absurd (omega arith)
num-bytes s t b c (suc w) p q e k h =
    let x : num w s p ≡ num w t q = omega (arith, e, b (p + w), c (q + w)) in
    let y : get_or s (p + w) 0 ≡ get_or t (q + w) 0 = omega (arith, e, b (p + w), c (q + w)) in
    elim (ℕ_discrete k w) [
      | yes z ↦ rw z y
      | no z ↦ num-bytes s t b c w p q x k (omega arith)
    ]

num-same : (s t : List ℕ) (w p q : ℕ) → ((k : ℕ) → k < w → get_or s (p + k) 0 ≡ get_or t (q + k) 0) → num w s p ≡ num w t q
unfolding num
num-same s t zero p q h = refl
num-same s t (suc w) p q h = ap₂ (λ (x y : ℕ). x * 256 + y) (num-same s t w p q (λ k l. h k (omega arith))) (h w (omega arith))

-- the first eight bytes as one number, and the last two
pub ten-same : (s t : List ℕ) → Bytes s → Bytes t → (q : ℕ) → num 8 s 0 ≡ num 8 t q → num 2 s 8 ≡ num 2 t (q + 8) → (f : ℕ) → f < 5 → num 2 s (2 * f) ≡ num 2 t (q + 2 * f)
ten-same s t b c q e g f h = elim (ℕ_discrete f 4) [
  | yes z ↦ rw z g
  | no z ↦ num-same s t 2 (2 * f) (q + 2 * f) (λ k l.
      let y : q + (2 * f + k) ≡ q + 2 * f + k = omega arith in
      let x : 0 + (2 * f + k) ≡ 2 * f + k = omega arith in
      sym (ap (λ (i : ℕ). get_or s i 0) x) ∙ num-bytes s t b c 8 0 q e (2 * f + k) (omega arith) ∙ ap (λ (i : ℕ). get_or t i 0) y)
]

module _ (i : ℕ) (store s : List ℕ) (whole : length s ≡ 14) (same : SameAs s store (10 * i)) where
  head-field : (f : ℕ) → f < 5 → title_left i (loaded store (10 * i)) f s (2 * f) ≡ title_left i (loaded store (10 * i)) (f + 1) s (2 * (f + 1))
  head-field f l =
      let e : ok (num 2 s (2 * f)) (2 * f + 2) ≡ field 2 s (2 * f) = sym (field_in 2 s (2 * f) (omega arith)) in
      let d : num 2 s (2 * f) ≡ field_of (loaded store (10 * i)) f = same.1 f l ∙ loaded-is store (10 * i) (10 * i) f (num 2 store (10 * i + 2 * f)) refl l (sym (ap or_zero (field_in 2 store (10 * i + 2 * f) (omega (arith, same.0))))) in
      let q : 2 * f + 2 ≡ 2 * (f + 1) = omega arith in
      field-same (title_left i (loaded store (10 * i)) f s (2 * f)) i (loaded store (10 * i)) f s (2 * f) refl l e d
      ∙ ap (title_left i (loaded store (10 * i)) (f + 1) s) q

  pub head-is : (m : ℕ) → m ≡ or_zero (field 4 s 10) → 0 < m → entry_head i (loaded store (10 * i)) s 0 ≡ ok m 14
  head-is m e h =
      let n : field 4 s 10 ≡ ok (num 4 s 10) 14 = field_in 4 s 10 (omega arith) in
      let o : m ≡ num 4 s 10 = e ∙ ap or_zero n in
      entry_head-is i (loaded store (10 * i)) s ∙ head-field 0 (omega arith) ∙ head-field 1 (omega arith) ∙ head-field 2 (omega arith) ∙ head-field 3 (omega arith) ∙ head-field 4 (omega arith)
      ∙ count-some (title_left i (loaded store (10 * i)) 5 s 10) i (loaded store (10 * i)) 5 s 10 refl (omega arith) (ap (λ (x : ℕ). ok x 14) o ∙ sym n) (λ z. omega (arith, z, h))
