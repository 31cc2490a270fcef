-- Scaffolding: the form in which the code goes; cited by private contracts and by proofs.
use Rattle.std.specs.Prelude.{ℕ, ◌+◌, ◌-◌, ◌*◌, ◌≤◌, ◌≡◌, List, [], ◌∷◌, length}
use Rattle.std.proofs.lemmas.List.Edits.{sets}
use Rattle.algebra.specs.Table.{rows}
use Rattle.descriptor_heads.specs.Heads.{Opened, pairs, settled}
use Rattle.descriptor_raw.specs.Raw.{due_of}
use Rattle.descriptor_entry.specs.Pieces.{Piece, size, bytes, Fits}
use Rattle.descriptor_entry.specs.Shapes.{width}
use Rattle.descriptor_entry.specs.Entries.{given, member_pieces, ending, pieces, ended}
use Rattle.descriptor_build.specs.declared.Put.{Put}

-- what storing pieces asks: they fit their fields, and there is room from `at`
pub record Ready (text : List ℕ) (ps : List Piece) (at room : ℕ) : Type 0 where
  pub fits : Fits text ps
  pub inside : at + size ps ≤ room

-- the bytes of pieces are stored from `at`, and r is the place behind them
pub record Stored (text : List ℕ) (ps : List Piece) (out : List ℕ) (at : ℕ) (out' : List ℕ) (r : ℕ) : Type 0 where
  pub is : out' ≡ sets out at (bytes text ps)
  pub end : r ≡ at + size ps

-- a head that asks for o is stored
pub record PutHead (text : List ℕ) (ps : List Piece) (o : Opened) (out : List ℕ) (at : ℕ) (out' : List ℕ) (r : Put) : Type 0 where
  pub stored : Stored text ps out at out' r.end
  pub below_is : due_of r.what r.objects ≡ o.below
  pub count_is : r.count ≡ o.count

-- n entries, of which the root's head is stored up to `start` and wants so many members: without a fault, and room for the rest
pub record Begun (text run : List ℕ) (n start count room : ℕ) : Type 0 where
  pub inside : width * n ≤ length run
  pub some : 1 ≤ n
  pub ready : Ready text (member_pieces (rows width (λ row. row) run (n - 1) 1) (settled ((pairs, count) ∷ []))) start room
  pub whole : ending (rows width (λ row. row) run (n - 1) 1) (settled ((pairs, count) ∷ [])) ≡ 0

-- a run of entries without a fault, and room for what it makes
pub record Whole (text run : List ℕ) (room : ℕ) : Type 0 where
  pub some : width ≤ length run
  pub ready : Ready text (pieces (given run)) 0 room
  pub whole : ended (given run) ≡ 0
