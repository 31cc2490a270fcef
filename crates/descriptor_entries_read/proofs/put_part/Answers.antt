use Prim.Native.Nat.{ℕ, ◌+◌}
use mathlib.Core.Path.{ap, ◌∙◌}
use mathlib.Core.List.{List}
use lib.ListN.{length, set, length-set}
use native.Mathlib.Omega.{arith}
use Rattle.descriptor_entries_read.proofs.Stored.{word-is, both_out}
use Rattle.descriptor_entries_read.proofs.put_part.Goals as goal

pub put_at-requires-then-i-lt-WIDTH : goal.put_at-requires-then-i-lt-WIDTH
put_at-requires-then-i-lt-WIDTH c =
    let a = c.args in
    let p = c.requires in
    ap length c.put_at.ensures ∙ length-set a.entry.now a.i _ ∙ p.0

pub returns-then-i-lt-WIDTH : goal.returns-then-i-lt-WIDTH
returns-then-i-lt-WIDTH c =
    let a = c.args in
    let p = c.requires in
    let n = c.number_or_zero-n.ensures ∙ word-is a.file.now a.at p.1 in
    (c.put_at-then-i-lt-WIDTH.ensures ∙ ap (λ (e : List ℕ). set e (a.i + 1) (a.at + 4)) (c.put_at.ensures ∙ ap (set a.entry.now a.i) n), n)

pub returns-else-i-lt-WIDTH : goal.returns-else-i-lt-WIDTH
returns-else-i-lt-WIDTH c =
    let a = c.args in
    let p = c.requires in
    (both_out a.entry.now a.i _ _ (omega (arith, c.if-i-lt-WIDTH.false, p.0)), c.number_or_zero-n.ensures ∙ word-is a.file.now a.at p.1)
