-- The colour models of ASE files.
use Rattle.std.specs.Prelude.{ℕ, Bool, true, false, eqb, Option, Some, None}
use Rattle.algebra.specs.Chars.{chars}
use Rattle.algebra.specs.Reader.{pick}
use Rattle.colour.specs.declared.model.Traits.{Traits}
use Rattle.colour.specs.declared.model.Model.{Model}
use Rattle.colour.specs.declared.model.Model.TheVariants.{Rgb, Cmyk, Lab, Gray}

-- each model has its tag, its channel count and its full scale: `RGB `, `CMYK`, `LAB `, `Gray`. the full scale of Lab is that of its lightness (A8)
abbrev pub traits_of : Model → Traits
traits_of Rgb = record { tag = chars "RGB "; channels = 3; full = 65535 }
traits_of Cmyk = record { tag = chars "CMYK"; channels = 4; full = 65535 }
traits_of Lab = record { tag = chars "LAB "; channels = 3; full = 10000 }
traits_of Gray = record { tag = chars "Gray"; channels = 1; full = 10000 }

-- the model with a tag
unfoldable pub model_of : ℕ → Option Model
model_of t =
    pick (eqb t (traits_of Rgb).tag) (Some Rgb)
    (pick (eqb t (traits_of Cmyk).tag) (Some Cmyk)
    (pick (eqb t (traits_of Lab).tag) (Some Lab)
    (pick (eqb t (traits_of Gray).tag) (Some Gray) None)))

abbrev pub is_known_model : Option Model → Bool
is_known_model (Some m) = true
is_known_model None = false

abbrev pub count_in : Option Model → ℕ
count_in (Some m) = (traits_of m).channels
count_in None = 0

-- some model has the tag
unfoldable pub is_model : ℕ → Bool
is_model t = is_known_model (model_of t)

-- how many channels the model with a tag has; none where no model has it
unfoldable pub channels_of : ℕ → ℕ
channels_of t = count_in (model_of t)
