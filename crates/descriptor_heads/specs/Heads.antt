-- A descriptor file as heads one after the other, nested by the counts that they carry. A head is the fields that a row has besides its children,
-- which in every kind stand before the first child.
use Rattle.std.specs.Prelude.{ℕ, zero, suc, ◌-◌, List, [], ◌∷◌, true, false, leb, length}
use Rattle.algebra.specs.Chars.{chars}
use Rattle.algebra.specs.Reader.{Res, ok, refuse, Reader, then, pick, field, judged, give, ◌>>=◌, Test, many, ended, limit}
use Rattle.descriptor.specs.Reading.{known, id, class, Sort, leaf, list, object, reference, array, sort_of, form_of, ref_value, column, column_type, version}

-- ---- one head

-- what a row's children are: list items, pairs, reference items, the pairs of an object array of m objects
pub data Due : Type 0 where
  items pairs forms : Due
  columns : (m : ℕ) → Due

-- a row's kind, its first byte, its depth, and the place at which its value begins
pub record Head : Type 0 where
  pub kind : ℕ
  pub first : ℕ
  pub depth : ℕ
  pub value : ℕ

-- a head that was read: what the row's children are, and how many; the first of them stands directly behind it
pub record Opened : Type 0 where
  pub head : Head
  pub below : Due
  pub count : ℕ

-- the head of a row that has no child
abbrev pub bare : (kind first depth value : ℕ) → Opened
bare kind first depth value = record { head = record { kind = kind; first = first; depth = depth; value = value }; below = items; count = 0 }

-- what stands behind an item's type, up to its first child: what the children are, and their count; fields alone have none
abbrev pub opens : Sort → Reader (Due × ℕ)
opens (leaf p) = do
  u ← p
  give (items, 0)
opens list = do
  n ← field 4
  give (items, n)
opens object = do
  c ← class
  n ← field 4
  give (pairs, n)
opens reference = do
  n ← field 4
  give (forms, n)
opens array = do
  m ← field 4
  c ← class
  n ← field 4
  give (columns m, n)

-- an item's head, from its type on; the row's first byte is its key's where it has one
unfoldable pub item_head : (depth first : ℕ) → Reader Opened
item_head depth first s at =
    then (field 4 s at) (λ t v.
    known (sort_of t) at (λ sort.
    then (opens sort s v) (λ o q.
    ok (record { head = record { kind = t; first = first; depth = depth; value = v }; below = o.0; count = o.1 }) q)))

-- the head of a list item, a pair, a reference item, an object array's pair
unfoldable pub member_head : (depth : ℕ) → Due → Reader Opened
member_head depth items s at = item_head depth at s at
member_head depth pairs s at = then (id s at) (λ u e. item_head depth at s e)
member_head depth forms s at = then (field 4 s at) (λ t v. known (form_of t) at (λ r. then (ref_value r s v) (λ u q. ok (bare t at depth v) q)))
member_head depth (columns m) s at =
    then (id s at) (λ u e.
    then (judged 4 column_type s e) (λ t v.
    then (column m s v) (λ u q. ok (bare t at depth v) q)))

-- the greatest depth
abbrev pub deepest : ℕ
deepest = 32

-- a child that is deeper is 10 at its first byte, before any of it is read
unfoldable pub head_at : (depth : ℕ) → Due → Reader Opened
head_at depth c s at = pick (leb depth deepest) (member_head depth c s at) (refuse 10 at 0 0)

-- ---- heads one after the other

-- the members that are due: what they are, and how many are left; the innermost level first. As many levels as there are, so deep do members of the innermost stand
abbrev pub Stack : Type 0
Stack = List (Due × ℕ)

-- no member is due
abbrev pub over : Test Stack
over [] s at = true
over (x ∷ st) s at = false

-- the head of the member that is due next
abbrev pub next_head : Stack → Reader Opened
next_head [] s at = refuse 10 at 0 0
next_head (x ∷ st) s at = head_at (suc (length st)) x.0 s at

-- levels with no member left are over
abbrev pub settled : Stack → Stack
settled [] = []
settled ((c, zero) ∷ st) = settled st
settled ((c, suc n) ∷ st) = (c, suc n) ∷ st

-- after a head one member fewer is due at its level, and before that its own children
abbrev pub after : Stack → Opened → Stack
after [] o = []
after (x ∷ st) o = settled ((o.below, o.count) ∷ (x.0, x.1 - 1) ∷ st)

-- ---- the file

-- the root's head: version 16, else 3, a class and the pair count; the row's kind is `Objc`
unfoldable pub root_head : Reader Opened
root_head s at =
    then (judged 4 version s at) (λ u e.
    then (class s e) (λ c p.
    then (field 4 s p) (λ n q.
    ok (record { head = record { kind = chars "Objc"; first = at; depth = 0; value = e }; below = pairs; count = n }) q)))

-- the root's head, and heads until no member is due, to the file's end
unfoldable pub whole_heads : Reader (List Opened)
whole_heads s at = then (root_head s at) (λ o q. then (many over after next_head (settled ((o.below, o.count) ∷ [])) s q) (λ os e. ended (o ∷ os) s e))

-- a whole file; 1 where it is longer than the limit
unfoldable pub file_heads : List ℕ → Res (List Opened)
file_heads s = pick (leb (length s) limit) (whole_heads s 0) (refuse 1 0 0 0)
