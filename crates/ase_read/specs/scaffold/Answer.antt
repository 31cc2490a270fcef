-- Scaffolding: the form in which the code goes; cited by private contracts and by proofs.
use Rattle.std.specs.Prelude.{ℕ, ◌≡◌, [], ◌∷◌, Some, Ok}
use Rattle.colour.specs.Models.{model_of}
use Rattle.colour.specs.Channels.{made, used}
use Rattle.colour.specs.declared.model.Model.{Model}
use Rattle.colour.specs.declared.channel.Channels.{Channels}

-- a model has the tag and allows the channels with these bits, and those that it does not use are 0
abbrev pub IsColour : ℕ → ℕ → ℕ → ℕ → ℕ → Type 0
IsColour t a b c d = (m : Model) × (x : Channels) × (model_of t ≡ Some m) × (made m a b c d ≡ Ok x) × (used m a b c d ≡ a ∷ b ∷ c ∷ d ∷ [])
