use Prim.Native.Nat.{ℕ}
use mathlib.Core.List.{List}
use mathlib.Core.Path.{ap, ◌∙◌}
use Rattle.algebra.specs.Numbers.{be, joined}
use Rattle.algebra.proofs.Places.{length-be}
use Rattle.listing.specs.Buffer.{put_all}
use Rattle.listing.specs.Text.{hex}
use Rattle.listing.proofs.Wording.{stored-whole}
use Rattle.listing.proofs.put_bits.Goals as goal

pub returns : goal.returns
returns c =
    let a = c.args in
    c.put_bytes.ensures ∙ ap (λ (l : List ℕ). put_all (a.out.now, a.n) (joined hex l)) (c.put_number.ensures ∙ stored-whole _ (be 4 a.v) (length-be 4 a.v))
