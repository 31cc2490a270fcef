-- An ACO palette's records as the blocks of an ASE palette: words of the theorem.
use Rattle.std.specs.Prelude.{◌≡◌, List, [], ◌∷◌, take}
use Rattle.colour.specs.Models.{traits_of}
use Rattle.colour.specs.Channels.{bits_of, model_in}
use Rattle.colour.specs.declared.channel.Channels.{Channels}
use Rattle.conversion.specs.Convert.{gives, to_channels}
use Rattle.aco.specs.Reading.{Entry}
use Rattle.ase.specs.Grammar.{Block, colour}

-- the block of a record whose colour converts to c: its name, the model and its channels, ink normal
abbrev pub block_for : Entry → Channels → Block
block_for e c = colour e.name.units (traits_of (model_in c)).tag (take (traits_of (model_in c)).channels (bits_of c)) 2

-- every record has a counterpart, and the blocks are those, one by one
abbrev pub ConvertedTo : List Entry → List Block → Type 0
ConvertedTo [] [] = Unit
ConvertedTo [] (b ∷ bs) = ⊥
ConvertedTo (e ∷ es) [] = ⊥
ConvertedTo (e ∷ es) (b ∷ bs) = ((c : Channels) × (to_channels e.colour ≡ gives c) × (b ≡ block_for e c)) × ConvertedTo es bs
