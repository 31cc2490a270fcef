-- Scaffolding: the form in which the code goes; cited by private contracts and by proofs.
use Rattle.std.specs.Prelude.{ℕ, List, [], ◌++◌, take}
use Rattle.algebra.specs.Numbers.{joined}
use Rattle.colour.specs.Models.{traits_of}
use Rattle.colour.specs.Channels.{bits_of, model_in}
use Rattle.colour.specs.declared.channel.Channels.{Channels}
use Rattle.ase.specs.Row.{RecordRow}
use Rattle.ase_walk.specs.Walking.{block_walk}
use Rattle.ase_walk.specs.Answer.{call_and_place}
use Rattle.walk.specs.Walk.{Call, gives, over, refused, Step}
use Rattle.listing.specs.Text.{ascii, decimal, name}
use Rattle.ase_list.specs.Listing.{model, channel, type, block}

-- a colour by value, whose name has the bytes b
abbrev pub colour_text : Channels → ℕ → List ℕ → List ℕ
colour_text c k b = model (model_in c) ++ joined channel (take (traits_of (model_in c)).channels (bits_of c)) ++ type k ++ name b

abbrev pub answer : List ℕ → Call RecordRow → List ℕ
answer s (gives b) = block s b
answer s over = []
answer s (refused x p) = []

abbrev pub answer_line : List ℕ → ℕ → Call RecordRow → List ℕ
answer_line s i a = decimal i ++ answer s a ++ ascii "\n"

-- a block as it is handed out, one a call
abbrev pub shown_walk : List ℕ → Step RecordRow
shown_walk s at = call_and_place (block_walk s at)
