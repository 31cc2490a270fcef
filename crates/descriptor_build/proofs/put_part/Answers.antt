use Prim.Native.Nat.{ℕ}
use mathlib.Core.Path.{◌≡◌, sym, ap₂, ◌∙◌, subst}
use mathlib.Core.List.{◌++◌}
use lib.ListN.{length}
use lib.Seq.{sets}
use Rattle.algebra.specs.Numbers.{be}
use Rattle.algebra.specs.Store.{part}
use Rattle.descriptor_build.proofs.put_part.Goals as goal

pub put_counted-requires : goal.put_counted-requires
put_counted-requires c =
    let a = c.args in
    (c.requires.0, subst (λ (z : ℕ). length (part a.text.now z a.n) ≡ a.n) (sym c.place_in.ensures.0) c.requires.1)

pub returns : goal.returns
returns c =
    let a = c.args in
    let e = c.put_counted.ensures in
    (e.0 ∙ ap₂ (λ (v q : ℕ). sets a.out.now a.at (be 4 v ++ part a.text.now q a.n)) c.number_in.ensures c.place_in.ensures.0, e.1)
