-- Scaffolding: the form in which the code goes; cited by private contracts and by proofs.
use Rattle.std.specs.Prelude.{ℕ, suc, ◌+◌, ◌≤◌, ◌≡◌, List, [], ◌∷◌, length}
use Rattle.algebra.specs.Reader.{Res, ok, refuse, until}
use Rattle.descriptor_heads.specs.Heads.{Due, Head, Opened, over, next_head, settled, after}
use Rattle.descriptor_raw.specs.Raw.{due_of}
use Rattle.descriptor_entry.specs.Shapes.{Entry, shape_of, fields_of}
use Rattle.descriptor_entries.specs.Taken.{members_of}
use Rattle.descriptor_entries.specs.scaffold.Spans.{end_of, key_span}

-- a head whose key and fields lie in the file
pub record Inside (s : List ℕ) (c : Due) (at kind value : ℕ) : Type 0 where
  pub key : at + key_span s at c ≤ length s
  pub fields : end_of s value (fields_of (shape_of c kind)) ≤ length s
  pub size : length s ≤ 16777216

abbrev pub head_with : (kind at value : ℕ) → Head
head_with kind at value = record { kind = kind; first = at; depth = 0; value = value }

-- the heads of the members that are due behind the root's head, which ends at `at`
abbrev pub waiting : (s : List ℕ) (what objects left at : ℕ) → Res (List Opened)
waiting s what objects left at = until over after next_head (suc (length s)) (settled ((due_of what objects, left) ∷ [])) s at

abbrev pub behind : Res (List Opened) → List Opened
behind (ok os e) = os
behind (refuse x p r f) = []

pub record Begun (s : List ℕ) (what objects left at rows : ℕ) : Type 0 where
  pub os : List Opened
  pub reads : waiting s what objects left at ≡ ok os (length s)
  pub size : length s ≤ 16777216
  pub inside : at ≤ length s
  pub count : 1 + length os ≡ rows
  pub few : rows ≤ 16777216

-- their entries
abbrev pub rest : (s : List ℕ) (what objects left at : ℕ) → List Entry
rest s what objects left at = members_of s (settled ((due_of what objects, left) ∷ [])) (behind (waiting s what objects left at))
