-- The columns of heads are the columns of their rows. Assumes nothing.
use Prim.Native.Nat.{ℕ, suc, ◌+◌}
use mathlib.Core.Path.{◌≡◌, refl, sym, ap, ◌∙◌}
use mathlib.Core.List.{List, [], ◌∷◌, map}
use lib.ListN.{length}
use Rattle.descriptor.specs.Reading.{Row}
use Rattle.descriptor_heads.specs.Heads.{Head}
use Rattle.descriptor_heads.specs.Rows.{now_under, rows_from}
use Rattle.descriptor_columns.specs.Columns.{nexts_from, depths_of, values_of}
use Rattle.descriptor_columns.specs.scaffold.Filling.{first_in, length_in, next_in, depth_in, kind_in, value_in, depths, column}

module _ (e : ℕ) where
  pub count-given : (k : ℕ) (up : ℕ → ℕ) (hs : List Head) → length (rows_from e k up hs) ≡ length hs
  unfolding rows_from
  count-given k up [] = refl
  count-given k up (h ∷ hs) = ap suc (count-given (k + 1) (now_under up (h.depth + 1) k) hs)

  pub firsts-given : (k : ℕ) (up : ℕ → ℕ) (hs : List Head) → column first_in k hs ≡ map (λ (r : Row). r.first) (rows_from e k up hs)
  unfolding rows_from column
  firsts-given k up [] = refl
  firsts-given k up (h ∷ hs) = ap (λ (l : List ℕ). h.first ∷ l) (firsts-given (k + 1) (now_under up (h.depth + 1) k) hs)

  pub lengths-given : (k : ℕ) (up : ℕ → ℕ) (hs : List Head) → column (length_in e) k hs ≡ map (λ (r : Row). r.size) (rows_from e k up hs)
  unfolding rows_from column
  lengths-given k up [] = refl
  lengths-given k up (h ∷ hs) = ap (λ (l : List ℕ). length_in e h (k + 1) hs ∷ l) (lengths-given (k + 1) (now_under up (h.depth + 1) k) hs)

  pub depths-given : (k : ℕ) (up : ℕ → ℕ) (hs : List Head) → column depth_in k hs ≡ depths_of (rows_from e k up hs)
  unfolding rows_from column
  depths-given k up [] = refl
  depths-given k up (h ∷ hs) = ap (λ (l : List ℕ). h.depth ∷ l) (depths-given (k + 1) (now_under up (h.depth + 1) k) hs)

  pub kinds-given : (k : ℕ) (up : ℕ → ℕ) (hs : List Head) → column kind_in k hs ≡ map (λ (r : Row). r.kind) (rows_from e k up hs)
  unfolding rows_from column
  kinds-given k up [] = refl
  kinds-given k up (h ∷ hs) = ap (λ (l : List ℕ). h.kind ∷ l) (kinds-given (k + 1) (now_under up (h.depth + 1) k) hs)

  pub values-given : (k : ℕ) (up : ℕ → ℕ) (hs : List Head) → column value_in k hs ≡ values_of (rows_from e k up hs)
  unfolding rows_from column
  values-given k up [] = refl
  values-given k up (h ∷ hs) = ap (λ (l : List ℕ). h.value ∷ l) (values-given (k + 1) (now_under up (h.depth + 1) k) hs)

  same_depths : (k : ℕ) (hs : List Head) → column depth_in k hs ≡ depths hs
  unfolding column
  same_depths k [] = refl
  same_depths k (h ∷ hs) = ap (λ (l : List ℕ). h.depth ∷ l) (same_depths (k + 1) hs)

  nexts-of : (n k : ℕ) (hs : List Head) → column (next_in n) k hs ≡ nexts_from n k (depths hs)
  unfolding column nexts_from
  nexts-of n k [] = refl
  nexts-of n k (h ∷ hs) = ap (λ (l : List ℕ). next_in n h (k + 1) hs ∷ l) (nexts-of n (k + 1) hs)

  pub nexts-given : (n k : ℕ) (up : ℕ → ℕ) (hs : List Head) → column (next_in n) k hs ≡ nexts_from n k (depths_of (rows_from e k up hs))
  nexts-given n k up hs = nexts-of n k hs ∙ ap (nexts_from n k) (sym (same_depths k hs) ∙ depths-given k up hs)
