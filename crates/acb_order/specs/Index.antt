-- The index of a book: the numbers of its shown records by their names.
use Rattle.std.specs.Prelude.{ℕ, ◌+◌, List, [], ◌∷◌, ◌++◌, map, leb, length, get_or, drop}
use Rattle.algebra.specs.Reader.{Res, ok, refuse, pick}
use Rattle.algebra.specs.Table.{Verdict, accepted, refused}
use Rattle.algebra.specs.Text.{is_empty}
use Rattle.acb.specs.Reading.{Entry, Contents}
use Rattle.order.specs.Order.{Order, or_else, compare}
use Rattle.order.specs.Sorted.{sorted}
use Rattle.acb_order.specs.Names.{compare_names}

-- a shown record: its number in the book, and its own name, with no prefix and no suffix
pub record Shown : Type 0 where
  pub number : ℕ
  pub name : List ℕ

abbrev pub shown_as : ℕ → List ℕ → Shown
shown_as i us = record { number = i; name = us }

-- of records by their names, the first of them numbered i, those that are no dummies: a dummy has no name
unfoldable pub shown_from : ℕ → List (List ℕ) → List Shown
shown_from i [] = []
shown_from i (us ∷ more) = pick (is_empty us) (shown_from (i + 1) more) (shown_as i us ∷ shown_from (i + 1) more)

-- record i of a book whose records have these names
abbrev pub shown_at : List (List ℕ) → ℕ → Shown
shown_at names i = shown_as i (get_or names i [])

-- by name; those of equal names by number
abbrev pub by_name : Shown → Shown → Order
by_name a b = or_else (compare_names a.name b.name) (compare a.number b.number)

-- the numbers of the shown records, in the order of their names
unfoldable pub index_of : List (List ℕ) → List ℕ
index_of names = map (λ (a : Shown). a.number) (sorted by_name (shown_from 0 names))

-- the names of a file's records
abbrev pub names_of : Contents → List (List ℕ)
names_of c = map (λ (e : Entry). e.name.units) c.entries

-- building in a lent run: the file's own refusal; 11 where the run is shorter than one entry a shown record; past the entries it keeps what it has.
-- What is reported is the number of entries
abbrev pub indexed : Res Contents → List ℕ → Verdict ℕ × List ℕ
indexed (refuse x p r f) t = (refused x p r f, t)
indexed (ok c q) t =
    pick (leb (length (index_of (names_of c))) (length t))
    (accepted (length (index_of (names_of c))), index_of (names_of c) ++ drop (length (index_of (names_of c))) t)
    (refused 11 0 0 0, t)
