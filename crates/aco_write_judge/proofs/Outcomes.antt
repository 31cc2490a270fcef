-- What the writer answers, on plain values. Assumes nothing.
use Prim.Native.Nat.{ℕ, ◌≤◌, ◌<◌}
use mathlib.Core.Path.{◌≡◌, refl, sym, ◌∙◌}
use mathlib.Core.List.{List}
use lib.ListN.{length}
use lib.Dec.{leb}
use borrow.Author.Tests.{le-leb, lt-leb, leb-true}
use native.Mathlib.Omega.{arith}
use Rattle.algebra.specs.Reader.{pick, limit}
use Rattle.algebra.specs.Faults.{first_of, faults}
use Rattle.aco.specs.Reading.{most}
use Rattle.aco.specs.Faults.{swatches_fault}
use Rattle.aco.specs.Row.{RecordRow}
use Rattle.aco_writing.specs.Writing.{swatch_in, size, found_in, ink_fault, fault, needed}
use Rattle.std.specs.Prelude.{Result}
use Rattle.std.specs.Result.{IsErrAnd}
use Rattle.fault.specs.Fault as table
use Rattle.fault.specs.Answer.{told_written}
use Rattle.fault.specs.declared.Fault.{Fault}
use Rattle.fault.proofs.Exit.{written-exit}
use Rattle.aco_write_judge.specs.scaffold.Parts.{colour_fault, name_fault}
use Rattle.aco_write_judge.proofs.Judging.{some-fault}
use Rattle.algebra.specs.Writing.{bytes, refused}
use Rattle.algebra.proofs.Tells.{first-none, first-inv}
use Rattle.algebra.proofs.Writing.{needs-no, needs-all, needs-inv, size-over, size-passes}
use Rattle.algebra.proofs.Firsts.{hit, pass, test-holds}

-- ---- the length that is needed, or the refusal

module _ (names : List ℕ) (gs : List RecordRow) where
  refusal : (x : ℕ) → x ≡ fault names gs → (x ≡ 0 → ⊥) → refused x 0 ≡ needed names gs
  refusal x e h = needs-no (fault names gs) (size gs) x e h

  too_long : limit < size gs → refused 1 0 ≡ needed names gs
  unfolding fault
  too_long h = refusal 1 (simp (lt-leb _ _ h)) (λ z. omega arith)

  module _ (r : Result ℕ Fault) (x : Fault) (h : IsErrAnd r (λ y. y ≡ x)) where
    exit : table.number_of x ≡ fault names gs → told_written r ≡ needed names gs
    exit e = written-exit r x h (refusal (table.number_of x) e (some-fault x))

    pub long-exit : refused (table.number_of x) 0 ≡ pick (leb (size gs) limit) (bytes (size gs)) (refused 1 0) → told_written r ≡ needed names gs
    long-exit e = let l = size-passes (size gs) (table.number_of x) e in written-exit r x h (e ∙ sym (size-over (size gs) l) ∙ too_long l)

  module _ (fits : size gs ≤ limit) where
    pub too_many : most < length gs → refused 5 0 ≡ needed names gs
    unfolding fault swatches_fault
    too_many h = refusal 5 (simp (le-leb _ _ fits, lt-leb _ _ h)) (λ z. omega arith)

    module _ (few : length gs ≤ most) where
      rest : fault names gs ≡ first_of (first_of (faults colour_fault gs) (faults (name_fault names) gs)) (faults ink_fault gs)
      unfolding fault swatches_fault
      rest = simp (le-leb _ _ fits, le-leb _ _ few)

      pub colour-exit : (r : Result ℕ Fault) (x : Fault) → IsErrAnd r (λ y. y ≡ x) → table.number_of x ≡ faults colour_fault gs → told_written r ≡ needed names gs
      colour-exit r x h e = exit r x h (hit (table.number_of x) _ _ (hit (table.number_of x) _ _ e (some-fault x)) (some-fault x) ∙ sym rest)

      module _ (colours : 0 ≡ faults colour_fault gs) where
        pub name-exit : (r : Result ℕ Fault) (x : Fault) → IsErrAnd r (λ y. y ≡ x) → table.number_of x ≡ faults (name_fault names) gs → told_written r ≡ needed names gs
        name-exit r x h e = exit r x h (hit (table.number_of x) _ _ (pass (table.number_of x) _ _ 0 colours refl e) (some-fault x) ∙ sym rest)

        -- colours and names have no fault, so that the inks are what is left
        module _ (named : 0 ≡ faults (name_fault names) gs) where
          last : fault names gs ≡ faults ink_fault gs
          last = rest ∙ first-none _ _ (sym (pass 0 _ _ 0 colours refl named))

          pub ink-exit : (r : Result ℕ Fault) (x : Fault) → IsErrAnd r (λ y. y ≡ x) → table.number_of x ≡ faults ink_fault gs → told_written r ≡ needed names gs
          ink-exit r x h e = exit r x h (e ∙ sym last)

          pub all-fine : 0 ≡ faults ink_fault gs → (k : ℕ) → size gs ≡ k → bytes k ≡ needed names gs
          all-fine inks k s = needs-all (fault names gs) (size gs) k (last ∙ sym inks) s

  -- ---- what the answer says of the records

  pub needed-bytes : (k : ℕ) → bytes k ≡ needed names gs → (fault names gs ≡ 0) × (size gs ≡ k)
  needed-bytes k e = needs-inv (fault names gs) (size gs) k e

  pub no-fault : fault names gs ≡ 0 → (size gs ≤ limit) × (length gs ≤ most) × (faults (name_fault names) gs ≡ 0)
  unfolding fault swatches_fault
  no-fault e =
      let a = test-holds (leb (size gs) limit) _ 1 (omega arith) e in
      let i = first-inv (swatches_fault (found_in names) (swatch_in names) gs) (faults ink_fault gs) a.1 in
      let b = first-inv (pick (leb (length gs) most) 0 5) (first_of (faults colour_fault gs) (faults (name_fault names) gs)) i.0 in
      let d = test-holds (leb (length gs) most) 0 5 (omega arith) b.0 in
      (leb-true _ _ a.0, leb-true _ _ d.0, (first-inv (faults colour_fault gs) (faults (name_fault names) gs) b.1).1)
