use native.Mathlib.Omega.{arith}
use mathlib.Core.Path.{sym, ap, ◌∙◌}
use Rattle.algebra.specs.Reader.{map_res}
use Rattle.fault.proofs.Exit.{field-exit, short}
use Rattle.ase_judge.specs.Answer.{passed}
use Rattle.ase_judge.proofs.Judging.{block-short, block-short-length, block-unknown, after-length, block_cut, room, block_held}
use Rattle.ase_judge.proofs.block_at.Goals as goal

pub returns-in_err-kind : goal.returns-in_err-kind
returns-in_err-kind c =
    let a = c.args in
    field-exit 2 a.file.now a.at _ _ _ c.from_residual.ensures.1 c.in_err-kind.ensures
    (sym (ap (map_res (passed a.depth)) (block-short a.depth a.file.now a.at (short 2 a.file.now a.at c.in_err-kind.ensures))))

pub returns-in_err-n : goal.returns-in_err-n
returns-in_err-n c =
    let a = c.args in
    let s = a.file.now in
    field-exit 4 s c.in_ok-kind.a _ _ _ c.from_residual-in_err-n.ensures.1 c.in_err-n.ensures
    (sym (ap (map_res (passed a.depth)) (block-short-length a.depth s a.at _ _ c.in_ok-kind.ensures (short 4 s c.in_ok-kind.a c.in_err-n.ensures))))

pub returns-then-not-is_block_type : goal.returns-then-not-is_block_type
returns-then-not-is_block_type c =
    let a = c.args in
    sym (ap (map_res (passed a.depth)) (block-unknown a.depth a.file.now a.at _ _ c.in_ok-kind.ensures _ _ c.in_ok-n.ensures (sym c.is_block_type.ensures ∙ c.if-not-is_block_type.true)))

pub overflow_sub-file : goal.overflow_sub-file
overflow_sub-file c = let a = c.args in (after-length a.depth a.file.now a.at _ _ c.in_ok-kind.ensures _ _ c.in_ok-n.ensures).1

pub returns-then-file-b : goal.returns-then-file-b
returns-then-file-b c =
    let a = c.args in
    sym (ap (map_res (passed a.depth)) (block_cut a.depth a.file.now a.at _ _ c.in_ok-kind.ensures _ _ c.in_ok-n.ensures (sym c.is_block_type.ensures ∙ c.if-not-is_block_type.false) c.if-file-b.true))

pub overflow_add-b : goal.overflow_add-b
overflow_add-b c =
    let a = c.args in
    let x = after-length a.depth a.file.now a.at _ _ c.in_ok-kind.ensures _ _ c.in_ok-n.ensures in
    omega (arith, x.0, x.1)

pub content_at-requires : goal.content_at-requires
content_at-requires c =
    let a = c.args in
    room a.depth a.file.now a.at _ _ c.in_ok-kind.ensures _ _ c.in_ok-n.ensures (sym c.is_block_type.ensures ∙ c.if-not-is_block_type.false) c.if-file-b.false

pub returns : goal.returns
returns c =
    let a = c.args in
    c.content_at.ensures ∙ sym (ap (map_res (passed a.depth)) (block_held a.depth a.file.now a.at _ _ c.in_ok-kind.ensures _ _ c.in_ok-n.ensures (sym c.is_block_type.ensures ∙ c.if-not-is_block_type.false) c.if-file-b.false))
