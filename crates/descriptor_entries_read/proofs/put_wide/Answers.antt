use Prim.Native.Nat.{ℕ}
use mathlib.Core.Path.{ap, ap₂, ◌∙◌}
use mathlib.Core.List.{List}
use lib.ListN.{length, set, length-set}
use Rattle.algebra.specs.Numbers.{num}
use native.Mathlib.Omega.{arith}
use Rattle.descriptor_entries_read.proofs.put_wide.Goals as goal

pub put_word-requires : goal.put_word-requires
put_word-requires c =
    let a = c.args in
    let p = c.requires in
    let w = c.put_word-low.ensures in
    (ap length w.0 ∙ length-set a.entry.now 12 _ ∙ p.0, omega (arith, w.1, p.1))

pub returns : goal.returns
returns c =
    let a = c.args in
    let w = c.put_word-low.ensures in
    let v = c.put_word.ensures in
    (v.0 ∙ ap₂ (λ (e : List ℕ) (n : ℕ). set e 13 (num 4 a.file.now n)) w.0 w.1, omega (arith, v.1, w.1))
