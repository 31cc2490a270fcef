-- A value's bytes say what is read of it, by its kind. Assumes nothing.
-- Few imports, and first by its name: a kind that is read otherwise is refused here, and by nothing before it.
use Prim.Native.Nat.{ℕ, ◌+◌}
use mathlib.Core.Path.{◌≡◌, refl, ap, ap₂}
use mathlib.Core.List.{List, [], ◌∷◌}
use mathlib.Core.Bool.{Bool, true, false, true≢false}
use lib.Dec.{eqb}
use lib.Ieee.{binary64, of_bits}
use native.Mathlib.Omega.{arith}
use Rattle.algebra.specs.Chars.{chars}
use Rattle.algebra.specs.Numbers.{be, At}
use Rattle.algebra.specs.Reader.{pick}
use Rattle.algebra.specs.Refusal.{one_of}
use Rattle.algebra.proofs.Places.{length-be, at_left, at_after, num-be}
use Rattle.descriptor_read.specs.declared.Typed.{Typed}
use Rattle.descriptor_read.specs.declared.Typed.TheVariants as vt
use Rattle.descriptor_read.specs.Typed.{typed_in}
use Rattle.descriptor_read.specs.Kinds.{Says}

-- where a test or others hold in no case, neither does
neither : (a o : Bool) → pick a true o ≡ false → (a ≡ false) × (o ≡ false)
neither true o e = absurd (true≢false e)
neither false o e = (refl, e)

-- wherever they stand, bytes that say a value of a kind are read as that value
pub typed-said : (s : List ℕ) (v : ℕ) {kind : ℕ} {b : List ℕ} {x : Typed} → Says kind b x → At s v b → typed_in s kind v ≡ x
unfolding typed_in be
typed-said s v Says.no h = ap (λ (k : ℕ). vt.Bool (eqb k 1)) (num-be s 1 v 0 (omega arith) h)
typed-said s v Says.yes h = ap (λ (k : ℕ). vt.Bool (eqb k 1)) (num-be s 1 v 1 (omega arith) h)
typed-said s v (Says.long n small) h = ap (λ (k : ℕ). vt.Long k) (num-be s 4 v n small h)
typed-said s v (Says.comp n small) h = ap (λ (k : ℕ). vt.Comp k) (num-be s 8 v n small h)
typed-said s v (Says.double n small) h = ap (λ (k : ℕ). vt.Double (of_bits binary64 k)) (num-be s 8 v n small h)
typed-said s v (Says.unit_double u n few small) h =
    ap₂ (λ (k m : ℕ). vt.UnitDouble k (of_bits binary64 m)) (num-be s 4 v u few (at_left s v (be 4 u) (be 8 n) h))
    (num-be s 8 (v + 4) n small (at_after s v (be 4 u) (be 8 n) (v + 4) (ap (λ (k : ℕ). v + k) (length-be 4 u)) h))
typed-said s v (Says.other {kind} none) h =
    let a = neither (eqb kind (chars "bool")) (one_of (chars "long" ∷ chars "comp" ∷ chars "doub" ∷ chars "UntF" ∷ []) kind) none in
    let b = neither (eqb kind (chars "long")) (one_of (chars "comp" ∷ chars "doub" ∷ chars "UntF" ∷ []) kind) a.1 in
    let c = neither (eqb kind (chars "comp")) (one_of (chars "doub" ∷ chars "UntF" ∷ []) kind) b.1 in
    let d = neither (eqb kind (chars "doub")) (one_of (chars "UntF" ∷ []) kind) c.1 in
    let e = neither (eqb kind (chars "UntF")) false d.1 in
    rw a.0 (rw b.0 (rw c.0 (rw d.0 (rw e.0))))
