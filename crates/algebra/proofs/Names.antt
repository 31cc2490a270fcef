-- A byte string by the name that it begins with: cut, badly closed, or whole. Nothing here reads. Assumes nothing.
use Prim.Native.Nat.{ℕ, ◌+◌, ◌*◌, ◌^◌, ◌<◌}
use mathlib.Core.Path.{◌≡◌, sym, subst}
use mathlib.Core.List.{List, [], ◌∷◌, ◌++◌, append_assoc}
use mathlib.Core.Logic.{inl, inr}
use lib.ListN.{length, length-append}
use native.Mathlib.Omega.{arith}
use native.Mathlib.Decide.{ℕ_discrete}
use Rattle.algebra.specs.Numbers.{be, joined, Bytes, All}
use Rattle.algebra.specs.Text.{name_bytes, Named}
use Rattle.algebra.specs.Closing.{BadlyClosed}
use Rattle.algebra.proofs.Exact.{all_both, all_left, joined_snoc}
use Rattle.algebra.proofs.Begins.{First, fewer, number, first, Row, shorter, numbers, row, Closed, closes, closed-or-open}

-- a name with a count of w bytes
pub data NameFirst (w : ℕ) : List ℕ → Type 0 where
  count_short : (l : List ℕ) → length l < w → NameFirst w l
  count-zero : (l : List ℕ) → NameFirst w (be w 0 ++ l)
  units_short : (n : ℕ) (l : List ℕ) → 0 < n → n < 256 ^ w → length l < n * 2 → NameFirst w (be w n ++ l)
  units_open : (us l : List ℕ) → length us < 256 ^ w → All (λ k u. u < 256 ^ 2) 0 us → BadlyClosed us → NameFirst w (be w (length us) ++ (joined (be 2) us ++ l))
  name_whole : (us l : List ℕ) → Named w us → Bytes l → NameFirst w (name_bytes w us ++ l)

module _ (w : ℕ) where
  closed-name : (us l : List ℕ) → length us < 256 ^ w → All (λ k u. u < 256 ^ 2) 0 us → Bytes l → Closed us → NameFirst w (be w (length us) ++ (joined (be 2) us ++ l))
  unfolding name_bytes
  closed-name us l small fit b (closes vs some) =
      let n : length (vs ++ (0 ∷ [])) ≡ length vs + 1 = length-append vs (0 ∷ []) in
      let m : name_bytes w vs ++ l ≡ be w (length (vs ++ (0 ∷ []))) ++ (joined (be 2) (vs ++ (0 ∷ [])) ++ l) = rw n (rw (joined_snoc vs) (simp append_assoc)) in
      subst (NameFirst w) m (name_whole vs l (record { counted = subst (λ (k : ℕ). k < 256 ^ w) n small; units = all_both (λ k u. 0 < u) (λ k u. u < 256 ^ 2) 0 vs some (all_left (λ u. u < 256 ^ 2) 0 vs (0 ∷ []) fit) }) b)

  units-by : (n : ℕ) {l : List ℕ} → n < 256 ^ w → 0 < n → Row 2 n l → NameFirst w (be w n ++ l)
  units-by n small some (shorter l few) = units_short n l some small few
  units-by n small some (numbers [] x e fit b) = absurd (omega arith)
  units-by n small some (numbers (u ∷ us) x e fit b) =
      let fits : length (u ∷ us) < 256 ^ w = subst (λ (k : ℕ). k < 256 ^ w) (sym e) small in
      subst (λ (k : ℕ). NameFirst w (be w k ++ (joined (be 2) (u ∷ us) ++ x))) e (elim (closed-or-open u us) [
        | inl c ↦ closed-name (u ∷ us) x fits fit b c
        | inr o ↦ units_open (u ∷ us) x fits fit o
      ])

  name_by : {l : List ℕ} → First w l → NameFirst w l
  name_by (fewer l h) = count_short l h
  name_by (number n l small b) = elim (ℕ_discrete n 0) [
    | yes e ↦ subst (λ (k : ℕ). NameFirst w (be w k ++ l)) (sym e) (count-zero l)
    | no e ↦ units-by n small (omega arith) (row 2 n l b)
  ]

  pub name-first : (l : List ℕ) → Bytes l → NameFirst w l
  name-first l b = name_by (first w l b)
