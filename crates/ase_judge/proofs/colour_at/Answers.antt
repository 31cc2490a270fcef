use lib.Seq.{length-take-le}
use mathlib.Core.Path.{sym, ap, ◌∙◌}
use Prim.Native.Nat.{◌+◌}
use Rattle.algebra.specs.Reader.{map_res}
use Rattle.fault.proofs.Exit.{told-exit}
use Rattle.ase.specs.Reading.{inside}
use Rattle.ase_judge.proofs.Judging.{colour-map}
use Rattle.ase_judge.proofs.colour_at.Goals as goal

pub slice_bounds-colour_content_at-end : goal.slice_bounds-colour_content_at-end
slice_bounds-colour_content_at-end c = sym (length-take-le c.args.end c.args.file.now c.requires.1)

pub returns-in_err-next : goal.returns-in_err-next
returns-in_err-next c =
    let a = c.args in
    told-exit _ _ _ c.from_residual.ensures.1
    (ap (map_res (λ u. (a.depth, 1))) (c.in_err-next.ensures ∙ ap (inside (a.at + 2) a.end) c.colour_content_at.ensures) ∙ sym (colour-map a.depth a.end a.file.now a.at))

pub returns : goal.returns
returns c =
    let a = c.args in
    ap (map_res (λ u. (a.depth, 1))) (c.in_ok-next.ensures ∙ ap (inside (a.at + 2) a.end) c.colour_content_at.ensures) ∙ sym (colour-map a.depth a.end a.file.now a.at)
