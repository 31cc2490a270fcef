-- A number at a place, or zero where it is not whole there.
use Prim.Native.Nat.{ℕ, ◌+◌, ◌<◌, ◌-◌}
use mathlib.Core.Path.{◌≡◌, sym, ap, ◌∙◌}
use mathlib.Core.List.{List}
use mathlib.Core.Bool.{true, false}
use lib.ListN.{length}
use lib.Dec.{leb}
use native.Mathlib.Omega.{arith}
use borrow.Author.Tests.{leb-true, leb-false}
use Rattle.algebra.specs.Numbers.{num}
use Rattle.algebra.specs.Reader.{field, or_zero}
use Rattle.algebra.proofs.Laws.{field_in, field-short}

module _ (w : ℕ) (s : List ℕ) (at : ℕ) where
  pub missing : 0 < w → leb (at + w) (length s) ≡ false → 0 ≡ or_zero (field w s at)
  missing h e = sym (ap or_zero (field-short w s at (omega (arith, leb-false _ _ e))))

  pub there : {v : ℕ} → leb (at + w) (length s) ≡ true → v ≡ num w s at → v ≡ or_zero (field w s at)
  there f e = e ∙ sym (ap or_zero (field_in w s at (omega (arith, leb-true _ _ f))))
