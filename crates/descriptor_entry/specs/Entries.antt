-- A descriptor from entries: the root, then its members in file order. An entry belongs to the innermost container that still wants members.
use Rattle.std.specs.Prelude.{ℕ, suc, ◌+◌, ◌^◌, ◌<◌, ◌≡◌, List, [], ◌∷◌, ◌++◌, Bool, true, false, leb, eqb, length, get_or}
use Rattle.std.specs.Option.{unwrap_or}
use Rattle.algebra.specs.Chars.{chars}
use Rattle.algebra.specs.Reader.{pick, limit}
use Rattle.algebra.specs.Faults.{first_of}
use Rattle.algebra.specs.Table.{whole}
use Rattle.algebra.specs.Writing.{Outcome, needs, writes}
use Rattle.descriptor_heads.specs.Heads.{Due, items, pairs, forms, columns, Opened, Stack, settled, after, deepest}
use Rattle.descriptor_raw.specs.Raw.{due_of}
use Rattle.descriptor_entry.specs.Pieces.{Piece, number, size, bytes, fault}
use Rattle.descriptor_entry.specs.Shapes.{width, Entry, kind_of, count_of, objects_of, pieces_of, object, wanted, shape_of}
use Rattle.descriptor_entry.specs.declared.Field.TheVariants as f
use Rattle.descriptor_entry.specs.declared.Shape.{Shape}

-- as many entries as fit whole in a run
abbrev pub given : List ℕ → List Entry
given run = whole width (λ row. row) run

-- ---- one head

-- a pair is due, which has a key
abbrev pub keyed : Due → Bool
keyed items = false
keyed pairs = true
keyed forms = false
keyed (columns m) = true

-- a key, where a pair is due
abbrev pub key_pieces : Due → Entry → List Piece
key_pieces items e = []
key_pieces pairs e = pieces_of 0 e (f.Id 1)
key_pieces forms e = []
key_pieces (columns m) e = pieces_of 0 e (f.Id 1)

-- how many objects the array has whose pair is due
abbrev pub objects_due : Due → ℕ
objects_due items = 0
objects_due pairs = 0
objects_due forms = 0
objects_due (columns m) = m

unfoldable pub field_pieces : (m : ℕ) → Shape → Entry → List Piece
field_pieces m sh e = pieces_of m e sh.first ++ (pieces_of m e sh.second ++ (pieces_of m e sh.third ++ pieces_of m e sh.fourth))

-- a member's head: the key, the kind, 4 where it may not stand there, and its fields
unfoldable pub head_pieces : Due → Entry → List Piece
head_pieces c e = key_pieces c e ++ (number 4 (kind_of e) (pick (shape_of c (kind_of e)).known 0 4) ∷ field_pieces (objects_due c) (shape_of c (kind_of e)) e)

-- the root's: the version, in whose turn a kind that is not `Objc` is 4, a class and the pair count
unfoldable pub root_pieces : Entry → List Piece
root_pieces e = number 4 16 (pick (eqb (kind_of e) (chars "Objc")) 0 4) ∷ field_pieces 0 object e

-- what an entry asks for as a head at a depth and a place, whose value begins at v: its kind, what its children are, and how many
abbrev pub asks : Shape → (depth first v : ℕ) → Entry → Opened
asks sh depth first v e = record {
  head = record { kind = kind_of e; first = first; depth = depth; value = v };
  below = due_of (unwrap_or sh.below 0) (objects_of e);
  count = wanted sh.below (count_of e);
}

-- ---- the members in their order

-- the stack behind an entry
abbrev pub next : Stack → Entry → Stack
next [] e = []
next (x ∷ st) e = after (x ∷ st) (asks (shape_of x.0 (kind_of e)) 0 0 0 e)

-- the pieces of the members that are due, up to the first that would stand too deep
unfoldable pub member_pieces : List Entry → Stack → List Piece
member_pieces [] st = []
member_pieces (e ∷ es) [] = []
member_pieces (e ∷ es) (x ∷ st) = pick (leb (suc (length st)) deepest) (head_pieces x.0 e ++ member_pieces es (next (x ∷ st) e)) []

-- what is found behind them: a member that is due too deep is 10, one for which no entry is left 2, an entry left over 6
unfoldable pub ending : List Entry → Stack → ℕ
ending [] [] = 0
ending [] (x ∷ st) = pick (leb (suc (length st)) deepest) 2 10
ending (e ∷ es) [] = 6
ending (e ∷ es) (x ∷ st) = pick (leb (suc (length st)) deepest) (ending es (next (x ∷ st) e)) 10

-- the heads that the entries ask for, from the place `at` on
unfoldable pub asked : List Entry → Stack → (at : ℕ) → List Opened
asked [] st at = []
asked (e ∷ es) [] at = []
asked (e ∷ es) (x ∷ st) at =
    asks (shape_of x.0 (kind_of e)) (suc (length st)) at (at + size (key_pieces x.0 e) + 4) e ∷ asked es (next (x ∷ st) e) (at + size (head_pieces x.0 e))

-- ---- the file

-- the members that the root wants
abbrev pub root_stack : Entry → Stack
root_stack e = settled ((pairs, count_of e) ∷ [])

unfoldable pub pieces : List Entry → List Piece
pieces [] = []
pieces (e ∷ es) = root_pieces e ++ member_pieces es (root_stack e)

unfoldable pub asked_heads : List Entry → List Opened
asked_heads [] = []
asked_heads (e ∷ es) = asks object 0 0 4 e ∷ asked es (root_stack e) (size (root_pieces e))

-- no entry at all is 2
unfoldable pub ended : List Entry → ℕ
ended [] = 2
ended (e ∷ es) = ending es (root_stack e)

-- the first fault, a number of the refusal table: the limit, on the whole output's length; then the pieces in their order, and what is behind them
unfoldable pub build_fault : (text : List ℕ) → List Entry → ℕ
build_fault text es = pick (leb (size (pieces es)) limit) (first_of (fault text (pieces es)) (ended es)) 1

-- the bytes made
abbrev pub made : (text : List ℕ) → List Entry → List ℕ
made text es = bytes text (pieces es)

-- the exact length that building needs, or the refusal
abbrev pub needed : (text : List ℕ) → List Entry → Outcome
needed text es = needs (build_fault text es) (size (pieces es))

-- what building does with the lent bytes
abbrev pub built : (text : List ℕ) → List Entry → (out : List ℕ) → Outcome × List ℕ
built text es out = writes (build_fault text es) (size (pieces es)) (made text es) out

-- ---- words that theorems use

-- every number of a run has 32 bits, as in a lent `&[u32]`
abbrev pub Words : List ℕ → Type 0
Words run = (k : ℕ) → get_or run k 0 < 256 ^ 4

-- the root of entries, where there is one, is `Objc`
abbrev pub Rooted : List Entry → Type 0
Rooted [] = Unit {0}
Rooted (e ∷ es) = kind_of e ≡ chars "Objc"
