use Prim.Native.Nat.{◌+◌}
use native.Mathlib.Omega.{arith}
use Rattle.aco.specs.Grammar.{colour_bytes}
use Rattle.aco.proofs.Whole.{length-colour}
use Rattle.aco_write_judge.specs.scaffold.Parts.{plain}
use Rattle.aco_write.proofs.Puts.{put-part}
use Rattle.aco_write.proofs.put_colour.Goals as goal

pub returns : goal.returns
returns c =
    let a = c.args in
    let n = length-colour (plain a.colour) (omega arith) in
    put-part a.out.now _ a.at (a.at + 10) (colour_bytes (plain a.colour)) (omega arith) c.requires (omega arith) c.put_fields.ensures
