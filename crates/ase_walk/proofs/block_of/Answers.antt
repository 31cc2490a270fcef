use Prim.Native.Nat.{ℕ, ◌+◌, ◌*◌, ◌-◌, ◌≤◌}
use mathlib.Core.Path.{◌≡◌, sym, ap, ◌∙◌}
use mathlib.Core.List.{List}
use lib.Dec.{leb, eqb}
use lib.ListN.{length, take}
use lib.Seq.{length-take-le}
use native.Mathlib.Omega.{arith}
use Rattle.algebra.specs.Reader.{pick}
use Rattle.ase.specs.Row.{RecordRow, colour_row, given_of, given_in}
use Rattle.ase.specs.declared.RowNumbers.{RowNumbers}
use Rattle.ase_read.specs.scaffold.Raw.{load, count_at}
use Rattle.ase_read.proofs.Filling.{numbers-loaded, placed}
use Rattle.ase_read.proofs.Answers.{is-group, is-close, is-colour, is_made, colour-is, ink-is}
use Rattle.walk.specs.Walk.{gives}
use Rattle.ase_walk.specs.scaffold.Walking.{Stands}
use Rattle.ase_walk.proofs.Stepping.{stands-given, stands-sound, stands-shown}
use Rattle.ase_walk.proofs.block_of.Goals as goal

abbrev row : ℕ → ℕ → ℕ → ℕ → ℕ → ℕ → ℕ → ℕ → ℕ → RowNumbers
row kind place units tag a b c d last = record { block = kind; first = place; units = units; model = tag; channel0 = a; channel1 = b; channel2 = c; channel3 = d; ink = last }

-- the numbers that were loaded are the block's
module _ (s : List ℕ) (at end : ℕ) (stands : Stands s at end) where
  given : (kind count place units tag a b c d last : ℕ) → kind ≡ load 2 (take end s) at → count ≡ count_at (take end s) at → place ≡ pick (eqb count 0) 0 (at + 8) → units ≡ count - 1
      → tag ≡ load 4 (take end s) (at + 8 + 2 * count) → a ≡ load 4 (take end s) (at + 8 + 2 * count + 4) → b ≡ load 4 (take end s) (at + 8 + 2 * count + 8)
      → c ≡ load 4 (take end s) (at + 8 + 2 * count + 12) → d ≡ load 4 (take end s) (at + 8 + 2 * count + 16) → last ≡ load 2 (take end s) (length (take end s) - 2)
      → given_in (row kind place units tag a b c d last) ≡ given_of stands.0
  given kind count place units tag a b c d last h0 h1 h2 h3 h4 h5 h6 h7 h8 h9 =
      stands-given s at end stands _ (numbers-loaded (take end s) at kind count place units tag a b c d last h0 h1 h2 h3 h4 h5 h6 h7 h8 h9)

inked : (p u t : ℕ) (bs : List ℕ) (k v : ℕ) → v ≡ pick (leb k 4) k 4 → k ≤ 2 → colour_row p u t bs v ≡ colour_row p u t bs k
inked p u t bs k v e h = ap (λ (x : ℕ). colour_row p u t bs x) (ink-is k v e h)

pub slice_bounds-part-end : goal.slice_bounds-part-end
slice_bounds-part-end c = sym (length-take-le c.args.end c.args.file.now c.requires.1)

pub overflow_sub-part : goal.overflow_sub-part
overflow_sub-part c = omega (arith, c.requires.0, length-take-le c.args.end c.args.file.now c.requires.1)

pub unwrap-requires : goal.unwrap-requires
unwrap-requires c =
    let a = c.args in
    let s = a.file.now in
    let l = given s a.at a.end c.requires.2 _ _ _ _ _ _ _ _ _ _ c.number_or_zero-kind.ensures c.number_or_zero-count.ensures (placed a.at _ _ (omega (arith, c.requires.0, c.requires.1)) c.name_place-place.ensures.0) c.saturating_sub-units.ensures
    c.number_or_zero-tag.ensures c.number_or_zero-a.ensures c.number_or_zero-b.ensures c.number_or_zero-c.ensures c.number_or_zero-d.ensures c.number_or_zero-last.ensures in
    let h = is-colour _ (stands-sound s a.at a.end c.requires.2) _ l (λ e. omega arith) (λ e. omega arith) in
    is_made _ _ _ _ _ h.is _ c.from_tag.ensures

pub returns-in-49153 : goal.returns-in-49153
returns-in-49153 c =
    let a = c.args in
    let s = a.file.now in
    let l = given s a.at a.end c.requires.2 _ _ _ _ _ _ _ _ _ _ c.number_or_zero-kind.ensures c.number_or_zero-count.ensures (placed a.at _ _ (omega (arith, c.requires.0, c.requires.1)) c.name_place-place.ensures.0) c.saturating_sub-units.ensures
    c.number_or_zero-tag.ensures c.number_or_zero-a.ensures c.number_or_zero-b.ensures c.number_or_zero-c.ensures c.number_or_zero-d.ensures c.number_or_zero-last.ensures in
    stands-shown s a.at a.end c.requires.2 _ (ap (λ (v : RecordRow). gives v) (is-group _ _ l c.in-49153.is))

pub returns-in-49154 : goal.returns-in-49154
returns-in-49154 c =
    let a = c.args in
    let s = a.file.now in
    let l = given s a.at a.end c.requires.2 _ _ _ _ _ _ _ _ _ _ c.number_or_zero-kind.ensures c.number_or_zero-count.ensures (placed a.at _ _ (omega (arith, c.requires.0, c.requires.1)) c.name_place-place.ensures.0) c.saturating_sub-units.ensures
    c.number_or_zero-tag.ensures c.number_or_zero-a.ensures c.number_or_zero-b.ensures c.number_or_zero-c.ensures c.number_or_zero-d.ensures c.number_or_zero-last.ensures in
    stands-shown s a.at a.end c.requires.2 _ (ap (λ (v : RecordRow). gives v) (is-close _ _ l c.in-49154.is))

pub returns-in_default : goal.returns-in_default
returns-in_default c =
    let a = c.args in
    let s = a.file.now in
    let l = given s a.at a.end c.requires.2 _ _ _ _ _ _ _ _ _ _ c.number_or_zero-kind.ensures c.number_or_zero-count.ensures (placed a.at _ _ (omega (arith, c.requires.0, c.requires.1)) c.name_place-place.ensures.0) c.saturating_sub-units.ensures
    c.number_or_zero-tag.ensures c.number_or_zero-a.ensures c.number_or_zero-b.ensures c.number_or_zero-c.ensures c.number_or_zero-d.ensures c.number_or_zero-last.ensures in
    let h = is-colour _ (stands-sound s a.at a.end c.requires.2) _ l (λ e. omega arith) (λ e. omega arith) in
    stands-shown s a.at a.end c.requires.2 _
    (ap (λ (v : RecordRow). gives v)
    (colour-is _ _ _ _ _ h.is _ (sym c.from_tag.ensures ∙ c.unwrap.ensures) (omega arith) (omega arith) (omega arith) (omega arith) _ _ _
    ∙ inked _ _ _ _ _ _ c.ink_of.ensures h.ink ∙ h.shows))
