-- The rows of an accepted file lie as the rules say. Assumes nothing.
use Prim.Native.Nat.{ℕ, ◌≤◌}
use mathlib.Core.Path.{◌≡◌, sym, ap₂, ◌∙◌, subst}
use mathlib.Core.List.{List}
use lib.Dec.{leb}
use lib.ListN.{length}
use borrow.Author.Tests.{leb-true}
use native.Mathlib.Omega.{arith}
use Rattle.algebra.specs.Reader.{ok, limit}
use Rattle.algebra.proofs.Inverse.{then-inv, pick_inv, ended-inv}
use Rattle.descriptor.specs.Reading.{Row, root, whole, descriptor}
use Rattle.descriptor.specs.Tiles.{Tiled, Laid}
use Rattle.descriptor.proofs.Ends.{accepted}
use Rattle.descriptor.proofs.Tiling.{heads-sum, heads-length, five-each, five-heads, in_order, root-rows}

-- an accepted file is not longer than the limit, its root is read from its first byte, and that is all of it
pub of-root : (s : List ℕ) (rs : List Row) (q : ℕ) → descriptor s ≡ ok rs q → (length s ≤ limit) × (root s 0 ≡ ok rs q) × (q ≡ length s)
unfolding descriptor whole
of-root s rs q e =
    let i = pick_inv (leb (length s) limit) (whole s 0) 1 0 0 0 e in
    let t = then-inv (root s 0) _ i.1 in
    let u = ended-inv t.0 s t.1 t.3 in
    (leb-true _ _ i.0, t.2 ∙ ap₂ (λ (x : List Row) (y : ℕ). ok x y) u.1 u.2, sym u.2 ∙ u.0)

laid : (s : List ℕ) (rs : List Row) → Tiled 0 0 0 0 (length s) rs → Laid s rs
laid s rs t = record {
  tiled = t;
  order = in_order t;
  all = heads-length t;
  five = five-heads t;
  filled = omega (arith, heads-sum t);
  count = omega (arith, five-each t);
}

pub rows-laid : (s : List ℕ) (rs : List Row) (q : ℕ) → descriptor s ≡ ok rs q → Laid s rs
rows-laid s rs q e =
    let o = of-root s rs q e in
    laid s rs (subst (λ (n : ℕ). Tiled 0 0 0 0 n rs) o.2 (accepted (root-rows s) rs q o.1).tiled)
