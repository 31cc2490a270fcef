-- The blocks of an accepted section lie one after the other, with nothing between them. Assumes nothing.
use Prim.Native.Nat.{ℕ, zero, suc, ◌+◌, ◌≤◌}
use mathlib.Core.Path.{◌≡◌, sym, ap, ◌∙◌, subst}
use mathlib.Core.List.{List}
use lib.Dec.{leb}
use lib.ListN.{length}
use native.Mathlib.Omega.{arith}
use native.Mathlib.Nat.{add-zero, zero-add}
use Rattle.algebra.specs.Reader.{ok, at_end, until}
use Rattle.algebra.proofs.Inverse.{pick_inv}
use Rattle.algebra.proofs.Until.{Went, stopped, spent, went, until-inv}
use Rattle.resource.specs.Reading.{Entry, block, blocks, resources}
use Rattle.resource.specs.Tiling.{sizes, Tiled}
use Rattle.resource.proofs.Lies.{block-lies}
use Rattle.resource.proofs.Whole.{same, block-moves, blocks_end}

-- ---- the section

module _ (s : List ℕ) where
  abbrev Tiles : ℕ → List Entry → Type 0
  Tiles at es = Tiled at es (length s) × (at + sizes es ≡ length s)

  abbrev Left : ℕ → ℕ → List Entry → Type 0
  Left n at es = until at_end same (λ u. block) n tt s at ≡ ok es (length s)

  tiled-from : (n at : ℕ) → at ≤ length s → (es : List Entry) → Left n at es → Tiles at es
  unfolding sizes
  tiled-from zero at le es e = none (until-inv at_end same (λ u. block) s zero tt at e)
    where
      none : Went at_end same (λ u. block) s zero tt at es (length s) → Tiles at es
      none (stopped t x y) = subst (Tiles at) x (y, add-zero at ∙ y)
      none (spent z x y) = subst (Tiles at) x (y, add-zero at ∙ y)
      none (went m a r more small t x y z) = absurd (omega arith)
  tiled-from (suc n) at le es e = go (until-inv at_end same (λ u. block) s (suc n) tt at e) (λ r w more x. tiled-from n r w more x)
    where
      go : Went at_end same (λ u. block) s (suc n) tt at es (length s) → ((r : ℕ) → r ≤ length s → (more : List Entry) → Left n r more → Tiles r more) → Tiles at es
      go (stopped t x y) rec = subst (Tiles at) x (y, add-zero at ∙ y)
      go (spent z x y) rec = absurd (omega arith)
      go (went m a r more small t x y z) rec =
          let k : m ≡ n = omega arith in
          let l = block-lies s at x in
          let v = rec r (block-moves s at a r le x).1 more (subst (λ (j : ℕ). Left j r more) k y) in
          subst (Tiles at) z ((l.0, subst (λ (j : ℕ). Tiled j more (length s)) l.1 v.0), omega (arith, l.1, v.1))

-- the first block begins at 0, each next one where the one before it ends, the last ends at the section's end, and their lengths add up to the section's
pub tiled : (s : List ℕ) → {es : List Entry} {q : ℕ} → resources s ≡ ok es q → Tiled 0 es (length s) × (sizes es ≡ length s)
unfolding resources
tiled s {es} {q} e =
    let i = pick_inv (leb (length s) 16777216) (blocks s 0) 1 0 0 0 e in
    let end : q ≡ length s = blocks_end s 0 (omega arith) es q i.1 in
    let x = tiled-from s (suc (length s)) 0 (omega arith) es (i.1 ∙ ap (λ (k : ℕ). ok es k) end) in
    (x.0, sym (zero-add (sizes es)) ∙ x.1)
