-- Files that are cut: the fields of a grammar by their widths, and what a reader says of a file that ends inside them.
use Rattle.std.specs.Prelude.{ℕ, ◌+◌, ◌*◌, ◌-◌, ◌≤◌, ◌<◌, ◌≡◌, List, [], ◌∷◌, leb, length, take}
use Rattle.algebra.specs.Numbers.{At}
use Rattle.algebra.specs.Reader.{refuse, Reader, pick}

-- how many bytes fields of these widths take
unfoldable pub total : List ℕ → ℕ
total [] = 0
total (w ∷ ws) = w + total ws

-- of fields of these widths, one after the other from `at`, the place of the first that is not whole in a file of c bytes
unfoldable pub not_whole : List ℕ → ℕ → ℕ → ℕ
not_whole [] at c = at
not_whole (w ∷ ws) at c = pick (leb (at + w) c) (not_whole ws (at + w) c) at

-- the file s ends inside the bytes l, whose first stand in it from `at`
pub record Stub (s : List ℕ) (at : ℕ) (l : List ℕ) : Type 0 where
  pub inside : at ≤ length s
  pub short : length s < at + length l
  pub begun : At s at (take (length s - at) l)

-- in the file s, where it ends inside the bytes of an allowed value, the reader refuses by 2 at the first of the value's fields that is not whole
pub record Cuts {A B : Type 0} (s : List ℕ) (p : Reader A) (Ok : B → Type 0) (ser widths : B → List ℕ) : Type 0 where
  pub cut : (at : ℕ) (b : B) → Ok b → Stub s at (ser b) → p s at ≡ refuse 2 (not_whole (widths b) at (length s)) 0 0

-- the fields of every allowed value are its bytes
pub record Spans {B : Type 0} (Ok : B → Type 0) (ser widths : B → List ℕ) : Type 0 where
  pub span : (b : B) → Ok b → total (widths b) ≡ length (ser b)

-- a name is two fields: its count of w bytes, and its units with the closing zero
abbrev pub name_widths : ℕ → List ℕ → List ℕ
name_widths w us = w ∷ 2 * (length us + 1) ∷ []
