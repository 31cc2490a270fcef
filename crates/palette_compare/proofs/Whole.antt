-- The call as a whole. Assumes nothing.
use Prim.Native.Nat.{ℕ, ◌≤◌}
use mathlib.Core.Path.{◌≡◌, sym, ap, ap₂, ◌∙◌}
use mathlib.Core.List.{List}
use lib.ListN.{length}
use native.Mathlib.Omega.{arith}
use Rattle.algebra.specs.Numbers.{Bytes}
use Rattle.algebra.specs.Reader.{Res, limit}
use Rattle.algebra.specs.Filling.{Accepted}
use Rattle.algebra.specs.Table.{refused, verdict}
use Rattle.algebra.proofs.Table.{refused-of}
use Rattle.palette.specs.Palette.{PaletteColour, colours}
use Rattle.palette.specs.scaffold.Turn.{list_of, colours_in}
use Rattle.palette.specs.declared.Kind.{Kind}
use Rattle.palette.proofs.Turns.{few}
use Rattle.palette_compare.specs.Compare.{kinds, refused_by, filled, comparison}
use Rattle.palette_compare.specs.scaffold.Parts.{kinds_in}

pub many : (k : Kind) (s : List ℕ) {n : ℕ} → Accepted length (colours k s) n → length (colours_in k s) ≡ n
many k s a = ap (λ (m : Res (List PaletteColour)). length (list_of m)) a.2 ∙ a.3

pub many-few : (k : Kind) (s : List ℕ) {n : ℕ} → Bytes s → Accepted length (colours k s) n → n ≤ limit
many-few k s bytes a = omega (arith, many k s a, few k s bytes)

pub both-accepted : (k : Kind) (s : List ℕ) (j : Kind) (t : List ℕ) (table : List ℕ) {n m : ℕ} → Accepted length (colours k s) n → Accepted length (colours j t) m → filled (kinds_in k s j t) table ≡ comparison (colours k s) (colours j t) table
both-accepted k s j t table a b =
    ap₂ (λ (x y : Res (List PaletteColour)). filled (kinds (list_of x) (list_of y)) table) a.2 b.2 ∙ sym (ap₂ (λ (x y : Res (List PaletteColour)). comparison x y table) a.2 b.2)

pub first-refused : (one other : Res (List PaletteColour)) (table : List ℕ) {x p r f : ℕ} → refused x p r f ≡ verdict length one → (refused_by 1 x p r f, table) ≡ comparison one other table
first-refused one other table e = sym (ap (λ (m : Res (List PaletteColour)). comparison m other table) (refused-of length one e))

pub second-refused : (one other : Res (List PaletteColour)) (table : List ℕ) {n x p r f : ℕ} → Accepted length one n → refused x p r f ≡ verdict length other → (refused_by 2 x p r f, table) ≡ comparison one other table
second-refused one other table a e = sym (ap₂ (λ (l m : Res (List PaletteColour)). comparison l m table) a.2 (refused-of length other e))
