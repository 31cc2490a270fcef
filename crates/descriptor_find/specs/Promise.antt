-- The words of the theorems: the children of the root, by depth and by next sibling.
use Rattle.std.specs.Prelude.{ℕ, zero, suc, ◌+◌, Bool, true, false, List, [], ◌∷◌, ltb, eqb, get_or}
use Rattle.algebra.specs.Reader.{pick}
use Rattle.descriptor.specs.Reading.{Row}

-- x before some numbers, where the test holds
abbrev pub where_true : Bool → ℕ → List ℕ → List ℕ
where_true true x xs = x ∷ xs
where_true false x xs = xs

-- the numbers of the rows of depth 1, in their order, where the first row has the number i
unfoldable pub members : (i : ℕ) → List Row → List ℕ
members i [] = []
members i (r ∷ rs) = where_true (eqb r.depth 1) i (members (i + 1) rs)

-- the rows from j on by next sibling, in a file of n rows, as many as `most`
unfoldable pub walk : (most n : ℕ) (nexts : List ℕ) (j : ℕ) → List ℕ
walk zero n nexts j = []
walk (suc m) n nexts j = pick (ltb j n) (j ∷ walk m n nexts (get_or nexts j 0)) []
