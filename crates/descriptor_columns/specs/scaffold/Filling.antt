-- Scaffolding: how the columns are filled, head by head, and open rows as their levels end.
use Rattle.std.specs.Prelude.{ℕ, suc, ◌+◌, ◌-◌, ◌≤◌, ◌≡◌, List, [], ◌∷◌, map, length, set}
use Rattle.algebra.specs.Reader.{Res, ok, refuse, until, map_res}
use Rattle.descriptor_heads.specs.Heads.{Head, Opened, Stack, over, next_head, settled, after, file_heads}
use Rattle.descriptor_heads.specs.Rows.{row_end, heads_of}
use Rattle.descriptor_raw.specs.Raw.{due_of}
use Rattle.descriptor_columns.specs.Columns.{next_of}
use Rattle.descriptor_columns.specs.declared.Level.{Level}

-- a row's number in a column, by its head, the number of the row behind it, and the heads behind it
abbrev pub Entry : Type 0
Entry = Head → ℕ → List Head → ℕ

abbrev pub first_in : Entry
first_in h k hs = h.first

abbrev pub depth_in : Entry
depth_in h k hs = h.depth

abbrev pub kind_in : Entry
kind_in h k hs = h.kind

abbrev pub value_in : Entry
value_in h k hs = h.value

-- in a file that ends at e
abbrev pub length_in : ℕ → Entry
length_in e h k hs = row_end h.depth hs e - h.first

abbrev pub depths : List Head → List ℕ
depths hs = map (λ (h : Head). h.depth) hs

-- in a file of n rows
abbrev pub next_in : ℕ → Entry
next_in n h k hs = next_of n h.depth k (depths hs)

-- a column of the rows with the numbers from k on
unfoldable pub column : Entry → ℕ → List Head → List ℕ
column g k [] = []
column g k (h ∷ hs) = g h (k + 1) hs ∷ column g (k + 1) hs

-- the head of a row, as far as its length and its next sibling go
abbrev pub mark : (depth first : ℕ) → Head
mark d first = record { kind = 0; first = first; depth = d; value = 0 }

-- levels, the innermost first: what is due
abbrev pub dues : List Level → Stack
dues [] = []
dues (l ∷ ls) = (due_of l.what l.objects, l.left) ∷ dues ls

-- and the rows that are open, each with its head
abbrev pub opens : List Level → List (ℕ × Head)
opens [] = []
opens (l ∷ ls) = (l.row, mark (length ls) l.first) ∷ opens ls

-- rows from k on, in their order
unfoldable pub puts : Entry → ℕ → List Head → List ℕ → List ℕ
puts g k [] c = c
puts g k (h ∷ hs) c = puts g (k + 1) hs (set c k (g h (k + 1) hs))

-- open rows, where the row k is next
unfoldable pub shuts : Entry → ℕ → List Head → List (ℕ × Head) → List ℕ → List ℕ
shuts g k hs [] c = c
shuts g k hs (o ∷ os) c = shuts g k hs os (set c o.0 (g o.1 k hs))

-- a column when all is filled
abbrev pub whole : Entry → ℕ → List Head → List (ℕ × Head) → List ℕ → List ℕ
whole g k hs os c = puts g k hs (shuts g k hs os c)

-- the heads of the members that are due, as many as `fuel` at most
abbrev pub heads_in : (fuel : ℕ) → Stack → List ℕ → ℕ → Res (List Head)
heads_in fuel st s at = map_res heads_of (until over after next_head fuel st s at)

-- the file's heads behind the root's, which ends at `at` and of which these members are due
pub record Begun (s : List ℕ) (what objects left at rows : ℕ) : Type 0 where
  pub hs : List Head
  pub reads : heads_in (suc (length s)) (settled ((due_of what objects, left) ∷ [])) s at ≡ ok hs (length s)
  pub size : length s ≤ 16777216
  pub inside : at ≤ length s
  pub count : 1 + length hs ≡ rows
  pub few : rows ≤ 16777216

abbrev pub behind : Res (List Head) → List Head
behind (ok hs e) = hs
behind (refuse x p r f) = []

-- those heads
abbrev pub rest : (s : List ℕ) (what objects left at : ℕ) → List Head
rest s what objects left at = behind (heads_in (suc (length s)) (settled ((due_of what objects, left) ∷ [])) s at)

-- the columns first byte, length, next sibling, depth and kind, from which the root's head is behind, and as they are filled: all rows behind the root's, and the root's end
pub record Done (s : List ℕ) (rows : ℕ) (hs : List Head) (a b c d e a' b' c' d' e' : List ℕ) : Type 0 where
  pub firsts : a' ≡ puts first_in 1 hs a
  pub lengths : b' ≡ whole (length_in (length s)) 1 hs ((0, mark 0 0) ∷ []) b
  pub nexts : c' ≡ whole (next_in rows) 1 hs ((0, mark 0 0) ∷ []) c
  pub depths : d' ≡ puts depth_in 1 hs d
  pub kinds : e' ≡ puts kind_in 1 hs e

-- a file that is accepted, of so many rows, with these heads
pub record Rooted (s : List ℕ) (rows : ℕ) : Type 0 where
  pub all : List Opened
  pub reads : file_heads s ≡ ok all (length s)
  pub count : length all ≡ rows
  pub few : rows ≤ 16777216

-- a column of the heads of an accepted file, stored in a run
abbrev pub stored : (ℕ → ℕ → Entry) → (s : List ℕ) → Res (List Opened) → List ℕ → List ℕ
stored g s (ok os e) c = puts (g (length s) (length os)) 0 (heads_of os) c
stored g s (refuse x p r f) c = c

-- the five of an accepted file
pub record Whole (s : List ℕ) (a b c d e a' b' c' d' e' : List ℕ) : Type 0 where
  pub firsts : a' ≡ stored (λ e n. first_in) s (file_heads s) a
  pub lengths : b' ≡ stored (λ e n. length_in e) s (file_heads s) b
  pub nexts : c' ≡ stored (λ e n. next_in n) s (file_heads s) c
  pub depths : d' ≡ stored (λ e n. depth_in) s (file_heads s) d
  pub kinds : e' ≡ stored (λ e n. kind_in) s (file_heads s) e
