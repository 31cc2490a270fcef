-- What the writer answers, on plain values. Assumes nothing.
use Prim.Native.Nat.{ℕ, ◌≤◌, ◌<◌}
use mathlib.Core.Path.{◌≡◌, refl, sym, ◌∙◌}
use mathlib.Core.Bool.{Bool, true, false}
use mathlib.Core.List.{List}
use lib.Dec.{leb, eqb}
use borrow.Author.Tests.{le-leb, lt-leb, leb-true, leb-false}
use native.Mathlib.Omega.{arith}
use Rattle.algebra.specs.Reader.{pick, state_after, limit}
use Rattle.algebra.specs.Faults.{first_of, faults, faults_in}
use Rattle.algebra.specs.Writing.{bytes, refused}
use Rattle.algebra.proofs.Tells.{first-none, first-inv}
use Rattle.algebra.proofs.Writing.{needs-no, needs-all, needs-inv}
use Rattle.ase.specs.Faults.{blocks_fault}
use Rattle.ase.specs.Row.{RecordRow}
use Rattle.ase_writing.specs.Writing.{block_by_row, size, found_in, block_fault, ink_fault, fault, needed}
use Rattle.ase_write_judge.specs.scaffold.Parts.{standing_in, own_fault}
use Rattle.ase_write_judge.proofs.Judging.{all_own}
use Rattle.algebra.proofs.Firsts.{hit, test-holds}

-- ---- the length that is needed, or the refusal

module _ (names : List ℕ) (gs : List RecordRow) where
  pub too_long : limit < size gs → refused 1 0 ≡ needed names gs
  unfolding fault
  too_long h = needs-no (fault names gs) (size gs) 1 (simp (lt-leb _ _ h)) (λ z. omega arith)

  -- the same from what is told of the length
  pub passes : (x : ℕ) → refused x 0 ≡ pick (leb (size gs) limit) (bytes (size gs)) (refused 1 0) → refused x 0 ≡ needed names gs
  passes x e = go (leb (size gs) limit) refl e
    where
      go : (b : Bool) → leb (size gs) limit ≡ b → refused x 0 ≡ pick b (bytes (size gs)) (refused 1 0) → refused x 0 ≡ needed names gs
      go true h f = let z : ◌≡◌ {A = ℕ} 0 1 = cc in absurd (omega arith)
      go false h f = f ∙ too_long (leb-false _ _ h)

  module _ (fits : size gs ≤ limit) where
    rest : fault names gs ≡ first_of (blocks_fault (found_in names) (block_by_row names) 0 gs) (faults ink_fault gs)
    unfolding fault
    rest = simp (le-leb _ _ fits)

    module _ (x : ℕ) (e : x ≡ blocks_fault (found_in names) (block_by_row names) 0 gs) where
      pub bad_block : (x ≡ 0 → ⊥) → refused x 0 ≡ needed names gs
      bad_block h = needs-no (fault names gs) (size gs) x (hit x _ _ e h ∙ sym rest) h

      -- no block has a fault, so that the inks are what is left
      module _ (h : x ≡ 0) (y : ℕ) (i : y ≡ faults ink_fault gs) where
        last : fault names gs ≡ y
        last = rest ∙ first-none _ _ (sym e ∙ h) ∙ sym i

        pub bad-ink : (y ≡ 0 → ⊥) → refused y 0 ≡ needed names gs
        bad-ink g = needs-no (fault names gs) (size gs) y (sym last) g

        pub all-fine : (k : ℕ) → y ≡ 0 → size gs ≡ k → bytes k ≡ needed names gs
        all-fine k g s = needs-all (fault names gs) (size gs) k (last ∙ g) s

  -- what the answer says of the records
  pub needed-bytes : (k : ℕ) → bytes k ≡ needed names gs → (fault names gs ≡ 0) × (size gs ≡ k)
  needed-bytes k e = needs-inv (fault names gs) (size gs) k e

  pub no-fault : fault names gs ≡ 0 → (size gs ≤ limit) × (faults (own_fault names) gs ≡ 0)
  unfolding fault blocks_fault
  no-fault e =
      let a = test-holds (leb (size gs) limit) _ 1 (omega arith) e in
      let i = first-inv (blocks_fault (found_in names) (block_by_row names) 0 gs) (faults ink_fault gs) a.1 in
      let b = first-inv (faults_in (standing_in names) (block_fault names) 0 gs) (pick (eqb (state_after (standing_in names) 0 gs) 0) 0 9) i.0 in
      (leb-true _ _ a.0, all_own names 0 gs b.0)
