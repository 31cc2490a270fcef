-- How rows lie in a file: children stand one after the other, from the end of their parent's head to their parent's end.
use Rattle.std.specs.Prelude.{ℕ, ◌+◌, ◌/◌, ◌≤◌, ◌≡◌, List, [], ◌∷◌, ◌++◌, length}
use Rattle.descriptor.specs.Reading.{Row}

-- rows of siblings at the depth d under the row p, the first with number k, each with the rows below it; they fill the bytes from lo up to hi.
-- A row r begins where the one before it ends. Its head takes five bytes at least; its children, of rows cs, begin where its head ends, and the last ends where r ends.
-- With no child the head is all of it. Its value begins after four bytes at least, and not behind its end.
pub data Tiled : ℕ → ℕ → ℕ → ℕ → ℕ → List Row → Type 0 where
  none : {d p k lo : ℕ} → Tiled d p k lo lo []
  one : {d p k lo hi : ℕ} (r : Row) (cs qs : List Row) (head : ℕ) → r.parent ≡ p → r.depth ≡ d → r.first ≡ lo → 5 ≤ head
      → lo + 4 ≤ r.value → r.value ≤ lo + head
      → Tiled (d + 1) k (k + 1) (lo + head) (lo + r.size) cs → Tiled d p (k + 1 + length cs) (lo + r.size) hi qs → Tiled d p k lo hi (r ∷ (cs ++ qs))

-- the heads of the rows, in their order
unfoldable pub heads : {d p k lo hi : ℕ} {rs : List Row} → Tiled d p k lo hi rs → List ℕ
heads none = []
heads (one r cs qs head a b c h v z t u) = head ∷ (heads t ++ heads u)

unfoldable pub sum : List ℕ → ℕ
sum [] = 0
sum (x ∷ xs) = x + sum xs

-- each takes five bytes at least
abbrev pub Fives : List ℕ → Type 0
Fives [] = Unit
Fives (h ∷ hs) = (5 ≤ h) × Fives hs

-- each row begins behind the first byte of the one before it
abbrev pub Ascending : ℕ → List Row → Type 0
Ascending lo [] = Unit
Ascending lo (r ∷ rs) = (lo ≤ r.first) × Ascending (r.first + 1) rs

-- the rows of a file: they tile it from its first byte to its last, from the root at depth 0, and stand in file order;
-- each has a head of five bytes at least, the heads add up to the file's length, and so there is at most a row for every five bytes
pub record Laid (s : List ℕ) (rs : List Row) : Type 0 where
  pub tiled : Tiled 0 0 0 0 (length s) rs
  pub order : Ascending 0 rs
  pub all : length (heads tiled) ≡ length rs
  pub five : Fives (heads tiled)
  pub filled : sum (heads tiled) ≡ length s
  pub count : length rs ≤ length s / 5
