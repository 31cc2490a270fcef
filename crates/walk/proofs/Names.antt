-- Where the units of a name lie. Assumes nothing.
use Prim.Native.Nat.{ℕ, ◌+◌, ◌*◌, ◌-◌, ◌≤◌, ◌<◌}
use mathlib.Core.Path.{◌≡◌, ap, ◌∙◌}
use mathlib.Core.List.{List, []}
use lib.ListN.{length, take, drop}
use borrow.Author.Tests.{le-leb, lt-leb}
use native.Mathlib.Omega.{arith}
use Rattle.algebra.specs.Store.{part}
use Rattle.walk.specs.Names.{name_part}

module _ (s : List ℕ) (place units : ℕ) where
  pub part_none : length s < place + 2 * units → [] ≡ name_part s place units
  part_none h = simp (lt-leb _ _ h)

  -- units that lie inside the file are its part
  pub part-is : place + 2 * units ≤ length s → part s place (2 * units) ≡ name_part s place units
  part-is h = simp (le-leb _ _ h)

  pub part-from : place + 2 * units ≤ length s → take (place + 2 * units - place) (drop place s) ≡ name_part s place units
  part-from h = let k : place + 2 * units - place ≡ 2 * units = omega arith in ap (λ (n : ℕ). take n (drop place s)) k ∙ part-is h
