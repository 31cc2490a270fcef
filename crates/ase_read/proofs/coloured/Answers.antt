use mathlib.Core.Path.{sym, ap, ◌∙◌}
use Prim.Native.Nat.{ℕ}
use mathlib.Core.List.{[], ◌∷◌}
use native.Mathlib.Omega.{arith}
use Rattle.ase.specs.Row.{colour_row}
use Rattle.ase_read.proofs.Answers.{is_made, colour-is, ink-is}
use Rattle.ase_read.proofs.coloured.Goals as goal

pub unwrap-colour-requires : goal.unwrap-colour-requires
unwrap-colour-requires c =
    let r = c.args.row in
    is_made r.model r.channel0 r.channel1 r.channel2 r.channel3 c.requires.0 _ c.from_tag.ensures

pub returns : goal.returns
returns c =
    let r = c.args.row in
    colour-is r.model r.channel0 r.channel1 r.channel2 r.channel3 c.requires.0 _ (sym c.from_tag.ensures ∙ c.unwrap-colour.ensures) (omega arith) (omega arith) (omega arith) (omega arith) _ _ _
    ∙ ap (λ (k : ℕ). colour_row r.first r.units r.model (r.channel0 ∷ r.channel1 ∷ r.channel2 ∷ r.channel3 ∷ []) k) (ink-is r.ink _ c.ink_of.ensures c.requires.1)
