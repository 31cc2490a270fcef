-- Scaffolding: what the functions put for a part of a listing. No rule stands here.
use Rattle.std.specs.Prelude.{ℕ, ◌+◌, ◌≤◌, List, ◌++◌, length}
use Rattle.algebra.specs.Store.{part}
use Rattle.resource.specs.declared.Record.{Record}
use Rattle.listing.specs.Text.{ascii, decimal, word, name}
use Rattle.resource_list.specs.Listing.{most}

-- a block's line by its record, whose name lies in the section s
abbrev pub shown : List ℕ → ℕ → ℕ → Record → List ℕ
shown s first i r =
    decimal i ++ word r.id ++ ascii " " ++ name (part s r.name r.letters) ++ word (first + r.payload) ++ word r.size ++ ascii "\n"

-- a record whose name and data lie in the section s, which begins at `first` and ends within what is listed
pub record Lying (s : List ℕ) (first : ℕ) (r : Record) : Type 0 where
  pub name : r.name + r.letters ≤ length s
  pub payload : first + r.payload ≤ most
