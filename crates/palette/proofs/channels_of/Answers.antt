use Prim.Native.Nat.{ℕ}
use mathlib.Core.Path.{◌≡◌, refl, ap, ap₂, ◌∙◌}
use mathlib.Core.List.{List, ◌∷◌}
use Rattle.colour.specs.Models.{traits_of}
use Rattle.colour.specs.Channels.{bits_of, model_in}
use Rattle.colour.specs.declared.channel.Channels.{Channels}
use Rattle.colour.specs.declared.channel.Channels.TheVariants as of
use Rattle.colour.specs.declared.model.Traits.{Traits}
use Rattle.palette.specs.PaletteStep.{channel_numbers}
use Rattle.palette.proofs.channels_of.Goals as goal

four : (c : Channels) → (traits_of (model_in c)).tag ∷ bits_of c ≡ channel_numbers c
four (of.Rgb x y z) = refl
four (of.Cmyk x y z w) = refl
four (of.Lab x y z) = refl
four (of.Gray x) = refl

pub returns : goal.returns
returns c =
    ap₂ (λ (t : Traits) (bs : List ℕ). t.tag ∷ bs) (c.traits-traits.ensures ∙ ap traits_of c.model.ensures) c.bits-numbers.ensures ∙ four c.args.colour
