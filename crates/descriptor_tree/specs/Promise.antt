-- What is promised of the rows of a descriptor file, over its tree: of the rows that its columns give.
use Rattle.std.specs.Prelude.{ℕ, ◌/◌, ◌≤◌, ◌<◌, ◌≡◌, true, false, List, [], ◌∷◌, length, get_or, take, drop}
use Rattle.algebra.specs.Reader.{ok}
use Rattle.descriptor.specs.Reading.{Row, descriptor}
use Rattle.descriptor.specs.Tiles.{heads, sum, Laid}
use Rattle.descriptor_judge.specs.Answer.{Verdict, accepted, refused}
use Rattle.descriptor_columns.specs.Columns.{parents_of}
use Rattle.descriptor_columns.specs.Filled.{fits}
use Rattle.descriptor_tree.specs.Tree.{Descriptor, file_heads, file_rows, row_count, file_nexts}

-- there is room for the rows of t in each of five runs
abbrev pub Room : Descriptor → (a b c d e : List ℕ) → Type 0
Room t a b c d e = fits (row_count t) (a ∷ b ∷ c ∷ d ∷ e ∷ []) ≡ true

-- of a file s that is the bytes of the tree t, and five lent runs, a to e, for which `read` answers v and which it leaves as a' to e'
pub record Promise (t : Descriptor) (s a b c d e : List ℕ) (v : Verdict) (a' b' c' d' e' : List ℕ) : Type 0 where
  -- the file is read to its end as the tree's rows
  pub reads : descriptor s ≡ ok (file_rows t) (length s)
  -- where one of the runs is shorter than the rows they are refused for room, and keep their contents
  pub short : fits (row_count t) (a ∷ b ∷ c ∷ d ∷ e ∷ []) ≡ false → (v ≡ refused 11 0) × (a' ≡ a) × (b' ≡ b) × (c' ≡ c) × (d' ≡ d) × (e' ≡ e)
  -- else they are not: the number of the rows is reported
  pub room : Room t a b c d e → v ≡ accepted (row_count t)
  -- and the row i has its number in each run: its first byte,
  pub first : Room t a b c d e → (i : ℕ) → i < row_count t → (r : Row) → get_or a' i 0 ≡ (get_or (file_rows t) i r).first
  -- its length,
  pub size : Room t a b c d e → (i : ℕ) → i < row_count t → (r : Row) → get_or b' i 0 ≡ (get_or (file_rows t) i r).size
  -- its next sibling,
  pub next : Room t a b c d e → (i : ℕ) → i < row_count t → get_or c' i 0 ≡ get_or (file_nexts t) i 0
  -- its depth,
  pub depth : Room t a b c d e → (i : ℕ) → i < row_count t → (r : Row) → get_or d' i 0 ≡ (get_or (file_rows t) i r).depth
  -- its kind;
  pub kind : Room t a b c d e → (i : ℕ) → i < row_count t → (r : Row) → get_or e' i 0 ≡ (get_or (file_rows t) i r).kind
  -- and its parent is what the depths give
  pub parent : Room t a b c d e → (i : ℕ) → i < row_count t → (r : Row) → get_or (parents_of (take (row_count t) d')) i 0 ≡ (get_or (file_rows t) i r).parent
  -- past the rows every run is as it was
  pub past : Room t a b c d e → (drop (row_count t) a' ≡ drop (row_count t) a) × (drop (row_count t) b' ≡ drop (row_count t) b) × (drop (row_count t) c' ≡ drop (row_count t) c)
      × (drop (row_count t) d' ≡ drop (row_count t) d) × (drop (row_count t) e' ≡ drop (row_count t) e)
  -- the rows tile the file: children from their parent's head to its end, with no gap and no shared byte; they stand in file order;
  -- each has a head of five bytes at least
  pub laid : Laid s (file_rows t)
  -- these are the heads of the tree's members, and they add up to the file
  pub heads_are : heads laid.tiled ≡ file_heads t
  pub filled : sum (file_heads t) ≡ length s
  -- so there are at most a fifth as many rows as bytes, and runs of so many numbers are never refused for room
  pub few : row_count t ≤ length s / 5
  pub enough : length s / 5 ≤ length a → length s / 5 ≤ length b → length s / 5 ≤ length c → length s / 5 ≤ length d → length s / 5 ≤ length e → v ≡ accepted (row_count t)
