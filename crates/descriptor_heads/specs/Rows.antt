-- Rows from heads: depths and first bytes say all.
use Rattle.std.specs.Prelude.{ℕ, ◌+◌, ◌-◌, List, [], ◌∷◌, map, leb, eqb}
use Rattle.algebra.specs.Reader.{pick}
use Rattle.descriptor.specs.Reading.{Row}
use Rattle.descriptor_heads.specs.Heads.{Head, Opened}

-- where a row of some depth ends, if these heads follow its own in a file that ends at e: at the next head that is no deeper
unfoldable pub row_end : (depth : ℕ) → List Head → (e : ℕ) → ℕ
row_end depth [] e = e
row_end depth (h ∷ hs) e = pick (leb h.depth depth) h.first (row_end depth hs e)

-- the parent of a row by its depth, once the row with number k stands before it, whose children have this depth
abbrev pub now_under : (parents : ℕ → ℕ) (depth k : ℕ) → ℕ → ℕ
now_under parents depth k j = pick (eqb j depth) k (parents j)

-- rows with the numbers from k on: a row's parent is the last row before it of one depth less
unfoldable pub rows_from : (e k : ℕ) → (parents : ℕ → ℕ) → List Head → List Row
rows_from e k parents [] = []
rows_from e k parents (h ∷ hs) =
    record { kind = h.kind; parent = parents h.depth; first = h.first; size = row_end h.depth hs e - h.first; depth = h.depth; value = h.value }
    ∷ rows_from e (k + 1) (now_under parents (h.depth + 1) k) hs

-- a row's head
abbrev pub head_of : Row → Head
head_of r = record { kind = r.kind; first = r.first; depth = r.depth; value = r.value }

abbrev pub heads_of : List Opened → List Head
heads_of os = map (λ (o : Opened). o.head) os

-- the rows of a file that ends at e; the root's parent is 0
abbrev pub rows_of : (e : ℕ) → List Opened → List Row
rows_of e os = rows_from e 0 (λ j. 0) (heads_of os)
