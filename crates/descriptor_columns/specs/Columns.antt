-- Columns: how a table holds the rows of a file, in five runs of numbers; and the rows that columns give.
use Rattle.std.specs.Prelude.{ℕ, zero, suc, ◌+◌, List, [], ◌∷◌, map, leb, ltb, eqb, length, get_or}
use Rattle.algebra.specs.Reader.{pick}
use Rattle.descriptor.specs.Reading.{Row}

pub record Columns : Type 0 where
  pub firsts : List ℕ
  pub lengths : List ℕ
  pub nexts : List ℕ
  pub depths : List ℕ
  pub kinds : List ℕ

-- ---- columns of rows

-- the next sibling of a row at this depth among n rows, where rows of these depths stand behind it, the first with the number k:
-- the first that is no deeper, if it is as deep; else the row is a last child, or the root, and n stands for none
unfoldable pub next_of : (n depth k : ℕ) → List ℕ → ℕ
next_of n depth k [] = n
next_of n depth k (d ∷ ds) = pick (leb d depth) (pick (eqb d depth) k n) (next_of n depth (k + 1) ds)

-- of rows of these depths, with the numbers from k on
unfoldable pub nexts_from : (n k : ℕ) → List ℕ → List ℕ
nexts_from n k [] = []
nexts_from n k (d ∷ ds) = next_of n d (k + 1) ds ∷ nexts_from n (k + 1) ds

abbrev pub depths_of : List Row → List ℕ
depths_of rs = map (λ (r : Row). r.depth) rs

abbrev pub columns_of : List Row → Columns
columns_of rs = record {
  firsts = map (λ (r : Row). r.first) rs;
  lengths = map (λ (r : Row). r.size) rs;
  nexts = nexts_from (length rs) 0 (depths_of rs);
  depths = depths_of rs;
  kinds = map (λ (r : Row). r.kind) rs;
}

-- where the rows' values begin: no column, and a call of its own
abbrev pub values_of : List Row → List ℕ
values_of rs = map (λ (r : Row). r.value) rs

-- ---- rows of columns

-- the parent of a row at this depth, by the depths of the rows before it, the last first: the last row that is less deep, else 0
unfoldable pub parent_of : (depth : ℕ) (before : List ℕ) → ℕ
parent_of depth [] = 0
parent_of depth (d ∷ ds) = pick (ltb d depth) (length ds) (parent_of depth ds)

unfoldable pub parents_from : (before depths : List ℕ) → List ℕ
parents_from before [] = []
parents_from before (d ∷ ds) = parent_of d before ∷ parents_from (d ∷ before) ds

-- from the depths alone
abbrev pub parents_of : List ℕ → List ℕ
parents_of ds = parents_from [] ds

-- the row i that columns and values give
abbrev pub row_of : Columns → (values : List ℕ) → ℕ → Row
row_of c values i = record {
  kind = get_or c.kinds i 0;
  parent = get_or (parents_of c.depths) i 0;
  first = get_or c.firsts i 0;
  size = get_or c.lengths i 0;
  depth = get_or c.depths i 0;
  value = get_or values i 0;
}

-- n rows from i on
unfoldable pub rows_from : Columns → (values : List ℕ) (n i : ℕ) → List Row
rows_from c values zero i = []
rows_from c values (suc n) i = row_of c values i ∷ rows_from c values n (i + 1)

abbrev pub rows_of : Columns → (values : List ℕ) → List Row
rows_of c values = rows_from c values (length c.depths) 0
