-- An ACO palette whose colours all have counterparts, converted and written as ASE, shows no difference to what was written. Assumes nothing.
use Prim.Native.Nat.{ℕ}
use mathlib.Core.Path.{◌≡◌, refl, sym, ap, ◌∙◌, subst}
use mathlib.Core.List.{List, [], ◌∷◌, map}
use lib.ListN.{length, take}
use native.Mathlib.Omega.{arith}
use Rattle.algebra.specs.Numbers.{Bytes}
use Rattle.algebra.specs.Reader.{ok, map_res}
use Rattle.algebra.specs.Table.{whole}
use Rattle.algebra.specs.Writing.{bytes}
use Rattle.colour.specs.Models.{traits_of}
use Rattle.colour.specs.Channels.{bits_of, model_in}
use Rattle.colour.specs.declared.channel.Channels.{Channels}
use Rattle.colour.specs.declared.channel.Channels.TheVariants as vc
use Rattle.aco.specs.Reading.{Entry, Contents, aco}
use Rattle.ase.specs.Grammar.{colour}
use Rattle.ase.specs.Reading.{Entry as AseEntry, group_start_read, group_end_read, colour_read, block_of}
use Rattle.ase.specs.Row.{width, taken, four_of}
use Rattle.ase_writing.specs.Writing.{block_by_row, written}
use Rattle.ase_roundtrip.specs.Tie.{Words}
use Rattle.ase_roundtrip.proofs.RoundTrip.{written-holds}
use Rattle.palette.specs.Palette.{samples, channels, PaletteColour, aco_colour, aco_colours, ase_colours, colours}
use Rattle.palette.specs.declared.Kind.TheVariants.{Ase}
use Rattle.palette_compare.specs.Compare.{kinds, differences}
use Rattle.palette_compare.specs.Promise.{SamePalette, none, one, first_converts}
use Rattle.palette_compare.proofs.Theorems.{none-differ-where-same}
use Rattle.palette_roundtrip.specs.Promise.{ConvertedTo}

-- the four places of a record have the bits of its channels
four-bits : (c : Channels) → four_of (take (traits_of (model_in c)).channels (bits_of c)) ≡ bits_of c
four-bits (vc.Rgb x y z) = refl
four-bits (vc.Cmyk x y z w) = refl
four-bits (vc.Lab x y z) = refl
four-bits (vc.Gray x) = refl

module _ {us vs : List ℕ} {t u : ℕ} {bs cs : List ℕ} {k l : ℕ} (e : colour us t bs k ≡ colour vs u cs l) where
  same_name : us ≡ vs
  same_name = cc

  same_tag : t ≡ u
  same_tag = cc

  same_bits : bs ≡ cs
  same_bits = cc

blocks-same : (es : List Entry) (rs : List AseEntry) → ConvertedTo es (map block_of rs) → SamePalette (map aco_colour es) (ase_colours rs)
unfolding ase_colours
blocks-same [] [] h = none
blocks-same [] (r ∷ rs) h = absurd h
blocks-same (e ∷ es) [] h = absurd h
blocks-same (e ∷ es) (group_start_read nm ∷ rs) h = let x = h.0.2 in let z : ◌≡◌ {A = ℕ} 0 1 = cc in absurd (omega arith)
blocks-same (e ∷ es) (group_end_read ∷ rs) h = let x = h.0.2 in let z : ◌≡◌ {A = ℕ} 0 1 = cc in absurd (omega arith)
blocks-same (e ∷ es) (colour_read nm t bs k ∷ rs) h =
    let c : Channels = h.0.0 in
    let x = h.0.2 in
    one (first_converts {v = samples e.colour.space e.colour.samples} {w = channels t (four_of bs)} (c, h.0.1, sym (same_tag x), sym (ap four_of (same_bits x) ∙ four-bits c))) (sym (same_name x)) (blocks-same es rs h.1)

-- V9: where the ASE writer accepts the converted records and says that it wrote n bytes, these are a palette that shows no difference to the first
pub converted-same : (s : List ℕ) {c : Contents} {q : ℕ} → aco s ≡ ok c q → (text run out out' : List ℕ) (n : ℕ) → Bytes text → Words run → ConvertedTo c.records (map (block_by_row text) (whole width taken run))
    → written text (whole width taken run) out ≡ (bytes n, out') → (ys : List PaletteColour) × (z : ℕ) × (colours Ase (take n out') ≡ ok ys z) × (differences (kinds (aco_colours c) ys) ≡ 0)
converted-same s {c} e text run out out' n b w conv wrote =
    let h = (written-holds text run out out' n b w wrote).2 in
    let same = blocks-same c.records h.0 (subst (ConvertedTo c.records) (sym h.2) conv) in
    (ase_colours h.0, length (take n out'), ap (map_res ase_colours) h.1, none-differ-where-same (aco_colours c) (ase_colours h.0) same)
