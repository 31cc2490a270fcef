-- What a book shows, said without a search: the words of the theorems in proofs/Texts and proofs/Pages.
use Rattle.std.specs.Prelude.{ℕ, suc, ◌+◌, ◌-◌, ◌*◌, ◌≤◌, ◌<◌, min, ◌≡◌, List, [], ◌∷◌, Bool, true, false, length, get_or, take, drop}
use Rattle.algebra.specs.Chars.{wide_chars}
use Rattle.algebra.specs.Numbers.{num}
use Rattle.algebra.specs.Reader.{pick}

-- ---- the text of a header string (B11)

-- unit k of a string is `=`
abbrev pub EqualsAt : List ℕ → ℕ → Type 0
EqualsAt s k = num 2 s (2 * k) ≡ wide_chars "="

-- unit k of a string is there, is `=`, and no unit before it is
pub record First (s : List ℕ) (k : ℕ) : Type 0 where
  pub inside : 2 * k + 2 ≤ length s
  pub here : EqualsAt s k
  pub before : (j : ℕ) → j < k → EqualsAt s j → ⊥

-- no unit of a string is `=`
pub record Without (s : List ℕ) : Type 0 where
  pub nowhere : (j : ℕ) → 2 * j + 2 ≤ length s → EqualsAt s j → ⊥

-- ---- the sample of a page (B16, B17)

-- how many of some records are no dummies
unfoldable pub count_shown : List Bool → ℕ
count_shown [] = 0
count_shown (d ∷ ds) = pick d (count_shown ds) (suc (count_shown ds))

-- n records from the first of page p on
abbrev pub from_page : ℕ → ℕ → ℕ → List Bool → List Bool
from_page size p n ds = take n (drop (p * size) ds)

-- record i is the one that page p shows
pub record Shows (size offset p : ℕ) (ds : List Bool) (i : ℕ) : Type 0 where
  -- a record of the page
  pub from : p * size ≤ i
  pub to : i < p * size + size
  pub there : i < length ds
  -- and no dummy
  pub real : get_or ds i true ≡ false
  -- with `offset` records of the page before it that are no dummies, or all the others if there are fewer
  pub before : count_shown (from_page size p (i - p * size) ds) ≡ min offset (count_shown (from_page size p size ds) - 1)
