-- Scaffolding: the form in which the code goes; cited by private contracts and by proofs.
use Rattle.std.specs.Prelude.{ℕ, ◌+◌, ◌*◌, ◌-◌, ◌≤◌, ◌≡◌, List, length, drop, replicate}
use Rattle.std.proofs.lemmas.List.Edits.{sets}
use Rattle.algebra.specs.Reader.{limit}
use Rattle.walk.specs.Names.{name_part}
use Rattle.palette.specs.PaletteStep.{view_of, told_numbers}
use Rattle.palette.specs.scaffold.Turn.{colours_in, place_of, kind_seen}
use Rattle.palette.specs.declared.Kind.{Kind}
use Rattle.palette.specs.declared.View.{View}
use Rattle.palette.specs.declared.PaletteStep.{PaletteStep}
use Rattle.palette_compare.specs.Compare.{same_numbers, kind_by, kinds, differences, rows}

-- the kinds of all positions of two files
abbrev pub kinds_in : Kind → List ℕ → Kind → List ℕ → List ℕ
kinds_in k s j t = kinds (colours_in k s) (colours_in j t)

-- the kind of two colours that were stepped over, by their numbers and the bytes of their names
abbrev pub kind_at : List ℕ → PaletteStep → List ℕ → PaletteStep → ℕ
kind_at s x t y = kind_by (same_numbers (told_numbers x.numbers) (told_numbers y.numbers)) (same_numbers (name_part s x.place x.units) (name_part t y.place y.units))

-- the shorter palette has n colours and the longer m, and past n the kind is k
pub record Positions (one : Kind) (s : List ℕ) (other : Kind) (t : List ℕ) (n m k : ℕ) : Type 0 where
  pub first : n ≤ length (colours_in one s)
  pub second : n ≤ length (colours_in other t)
  pub long : length (kinds_in one s other t) ≡ m
  pub rest : drop n (kinds_in one s other t) ≡ replicate (m - n) k
  pub differ : k ≡ 0 → ⊥
  pub below : n ≤ m
  pub few : m ≤ limit

-- of all rows those before n are stored, and d of them differ
pub record StoredTo (ks before now : List ℕ) (n d : ℕ) : Type 0 where
  pub stored : sets before 0 (rows 0 ks) ≡ sets now (2 * n) (rows n (drop n ks))
  pub counted : differences ks ≡ d + differences (drop n ks)
  pub kept : length now ≡ length before

-- the loop over both palettes, seen by v and w, before position i: p and q are the places of their colours i
pub record Both (v w : View) (s t : List ℕ) (n : ℕ) (before now : List ℕ) (p q d i : ℕ) : Type 0 where
  pub below : i ≤ n
  pub first : n ≤ length (colours_in (kind_seen v) s)
  pub second : n ≤ length (colours_in (kind_seen w) t)
  pub room : 2 * n ≤ length before
  pub seen : view_of (kind_seen v) (kind_seen w) ≡ v
  pub beside : view_of (kind_seen w) (kind_seen v) ≡ w
  pub place : p ≡ place_of (kind_seen v) s i
  pub other : q ≡ place_of (kind_seen w) t i
  pub stored : StoredTo (kinds_in (kind_seen v) s (kind_seen w) t) before now i d
  pub few : d ≤ i
