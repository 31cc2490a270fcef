-- Scaffolding: the form in which the code goes; cited by private contracts and by proofs.
-- Parts of the reading that a cycle of readers goes by: one reader serves lists and objects, and one their members.
use Rattle.std.specs.Prelude.{ℕ, List, Bool, true, false}
use Rattle.algebra.specs.Reader.{ok, Reader}
use Rattle.descriptor.specs.Reading.{Row, item, pair, list_of, object_of, reference_of, array_of}

-- a field that is there, or none
abbrev pub optional : (there : Bool) → Reader Unit → Reader Unit
optional true p = p
optional false p = λ s at. ok tt at

-- a member: in an object a pair, in a list an item
abbrev pub member_of : (keyed : Bool) (left parent row : ℕ) → Reader (List Row)
member_of true left parent row = pair left parent row
member_of false left parent row = λ s at. item left parent row at s at

-- the members of the row `row`: an object's from its class on, a list's from its count on
abbrev pub holder_of : (keyed : Bool) (left row : ℕ) → Reader (List Row)
holder_of true left row = object_of (item left) left row
holder_of false left row = list_of (item left) row

-- the members of the row `row` that hold no items: an object array's, or a reference's
abbrev pub held_of : (columns : Bool) (left row : ℕ) → Reader (List Row)
held_of true left row = array_of left row
held_of false left row = reference_of left row
