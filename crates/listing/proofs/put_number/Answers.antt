use Prim.Native.Nat.{◌<◌}
use mathlib.Core.Path.{ap, ◌∙◌}
use native.Mathlib.Omega.{arith}
use Rattle.listing.specs.Buffer.{put_all}
use Rattle.listing.proofs.Wording.{fewest-decimal}
use Rattle.listing.proofs.put_number.Goals as goal

pub returns : goal.returns
returns c =
    let d = c.decimal-k in
    let a = c.args in
    let small : a.v < 100000000000000000000 = omega arith in
    c.put_text.ensures ∙ ap (put_all (a.out.now, a.n)) (d.ensures.digits ∙ fewest-decimal 19 a.v d.result small d.ensures.len)
