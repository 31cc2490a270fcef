use Prim.Native.Nat.{ℕ}
use mathlib.Core.Path.{◌≡◌, sym, ap, ◌∙◌}
use mathlib.Core.List.{List}
use lib.ListN.{take}
use lib.Seq.{length-take-le}
use native.Mathlib.Omega.{arith}
use Rattle.ase.specs.Row.{given_in, given_of}
use Rattle.ase.specs.declared.RowNumbers.{RowNumbers}
use Rattle.ase_read.specs.scaffold.Raw.{next_block, loaded}
use Rattle.ase_read.proofs.Filling.{entry_at, Here, here}
use Rattle.ase_read.proofs.Answers.{is-group, is-close, is-colour, record_is}
use Rattle.ase_read.proofs.found.Goals as goal

-- the record that was loaded is the block's
given : (s : List ℕ) (i at : ℕ) → Here s i at → (end : ℕ) → end ≡ next_block s at → (r : RowNumbers) → given_in r ≡ loaded (take end s) at → given_in r ≡ given_of (entry_at s i)
given s i at h end e r g = g ∙ ap (λ (q : ℕ). loaded (take q s) at) e ∙ sym h.is_row

pub block_end-end-requires : goal.block_end-end-requires
block_end-end-requires c = let h = here c.args.file.now c.args.n c.requires.0 c.args.i c.requires.1 _ c.block_place-at.ensures in (h.inside, h.short)

pub slice_bounds-numbers_in-end : goal.slice_bounds-numbers_in-end
slice_bounds-numbers_in-end c =
    let h = here c.args.file.now c.args.n c.requires.0 c.args.i c.requires.1 _ c.block_place-at.ensures in
    sym (length-take-le _ c.args.file.now (omega (arith, c.block_end-end.ensures, h.inside)))

pub numbers_in-row-requires : goal.numbers_in-row-requires
numbers_in-row-requires c =
    let b = c.block_end-end in
    let h = here c.args.file.now c.args.n c.requires.0 c.args.i c.requires.1 _ c.block_place-at.ensures in
    let l = length-take-le b.result c.args.file.now (omega (arith, b.ensures, h.inside)) in
    (omega (arith, b.ensures, l), omega (arith, b.ensures, h.inside, h.short, l))

pub coloured-requires : goal.coloured-requires
coloured-requires c =
    let a = c.args in
    let k = here a.file.now a.n c.requires.0 a.i c.requires.1 _ c.block_place-at.ensures in
    let h = is-colour _ k.sound _ (given a.file.now a.i _ k _ c.block_end-end.ensures _ c.numbers_in-row.ensures) (λ e. omega arith) (λ e. omega arith) in
    (h.is, h.ink)

pub returns-in-49153 : goal.returns-in-49153
returns-in-49153 c =
    let a = c.args in
    let k = here a.file.now a.n c.requires.0 a.i c.requires.1 _ c.block_place-at.ensures in
    let h = given a.file.now a.i _ k _ c.block_end-end.ensures _ c.numbers_in-row.ensures in
    record_is _ _ a.i c.requires.0 c.requires.1 _ (is-group c.numbers_in-row.result (entry_at a.file.now a.i) h c.in-49153.is)

pub returns-in-49154 : goal.returns-in-49154
returns-in-49154 c =
    let a = c.args in
    let k = here a.file.now a.n c.requires.0 a.i c.requires.1 _ c.block_place-at.ensures in
    let h = given a.file.now a.i _ k _ c.block_end-end.ensures _ c.numbers_in-row.ensures in
    record_is _ _ a.i c.requires.0 c.requires.1 _ (is-close c.numbers_in-row.result (entry_at a.file.now a.i) h c.in-49154.is)

pub returns-in_default : goal.returns-in_default
returns-in_default c =
    let a = c.args in
    let k = here a.file.now a.n c.requires.0 a.i c.requires.1 _ c.block_place-at.ensures in
    let h = is-colour _ k.sound _ (given a.file.now a.i _ k _ c.block_end-end.ensures _ c.numbers_in-row.ensures) (λ e. omega arith) (λ e. omega arith) in
    record_is _ _ a.i c.requires.0 c.requires.1 _ (c.coloured.ensures ∙ h.shows)
