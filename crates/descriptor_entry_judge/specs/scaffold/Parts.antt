-- Scaffolding: the form in which the code goes; cited by private contracts and by proofs.
use Rattle.std.specs.Prelude.{ℕ, ◌<◌, ◌≡◌, List}
use Rattle.algebra.specs.Reader.{pick}
use Rattle.algebra.specs.Faults.{first_of}
use Rattle.descriptor_heads.specs.Heads.{Due}
use Rattle.descriptor_entry.specs.Pieces.{fault}
use Rattle.descriptor_entry.specs.Shapes.{Entry}
use Rattle.descriptor_entry.specs.Entries.{key_pieces, field_pieces}
use Rattle.descriptor_entry.specs.declared.Shape.{Shape}

-- lengths far below 64 bits: of a field, and of four
pub record Sized (n r : ℕ) : Type 0 where
  pub is : r ≡ n
  pub small : r < 68719476736

pub record FourSized (n r : ℕ) : Type 0 where
  pub is : r ≡ n
  pub small : r < 274877906944

-- a head's fault by its parts, in an object array of m objects
abbrev pub head_fault : (text : List ℕ) → Entry → Due → (m : ℕ) → Shape → ℕ
head_fault text e c m sh = first_of (fault text (key_pieces c e)) (first_of (pick sh.known 0 4) (fault text (field_pieces m sh e)))
