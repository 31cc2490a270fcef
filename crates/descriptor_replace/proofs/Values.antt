-- Replacements: how many bytes they have, and how these are stored. Assumes nothing.
use Prim.Native.Nat.{ℕ, ◌+◌, ◌/◌, ◌%◌, ◌≤◌}
use mathlib.Core.Path.{◌≡◌, refl, sym, ap, ◌∙◌, subst}
use mathlib.Core.List.{List, ◌++◌}
use mathlib.Core.Bool.{Bool, true, false}
use lib.Dec.{leb}
use lib.ListN.{length, set, length-append}
use lib.Seq.{sets}
use lib.Ieee.{binary64, of_bits}
use lib.Ieee.Scale.{finite}
use borrow.Author.Tests.{leb-true, eqb-true}
use native.Mathlib.Omega.{arith}
use Rattle.algebra.specs.Chars.{chars}
use Rattle.algebra.specs.Numbers.{be}
use Rattle.algebra.specs.Reader.{pick}
use Rattle.algebra.specs.Refusal.{Of, among}
use Rattle.algebra.specs.Store.{stored}
use Rattle.algebra.proofs.Places.{length-be, be-1}
use Rattle.algebra.proofs.Storing.{as-sets, peel-be, length-kept}
use Rattle.descriptor.specs.Reading.{is_unit}
use Rattle.descriptor_heads.specs.Changed.{scalars}
use Rattle.descriptor_changed.proofs.Singles.{width_of}
use Rattle.fault.specs.Fault.{number_of}
use Rattle.fault.specs.declared.Fault.{Fault}
use Rattle.fault.specs.declared.Fault.TheVariants as vf
use Rattle.descriptor_replace.specs.Replace.{is_kind, fault_of, bytes_of}
use Rattle.descriptor_replace.specs.declared.Replacement.{Replacement}
use Rattle.descriptor_replace.specs.declared.Replacement.TheVariants as vr

-- ---- sizes

pub unit_size : (u n : ℕ) → length (be 4 u ++ be 8 n) ≡ 12
unit_size u n = omega (arith, length-append (be 4 u) (be 8 n), length-be 4 u, length-be 8 n)

pub sized : (v w : Replacement) (n : ℕ) → v ≡ w → length (bytes_of w) ≡ n → length (bytes_of v) ≡ n
sized v w n e f = ap (λ (x : Replacement). length (bytes_of x)) e ∙ f

-- a kind that is the value's has values of one length, as many bytes as it has
pub kind-scalar : (k : ℕ) (v : Replacement) → is_kind k v ≡ true → Of scalars k × (width_of k ≡ length (bytes_of v))
kind-scalar k (vr.Bool b) e = let i = eqb-true k (chars "bool") e in (subst (Of scalars) (sym i) (among refl), ap width_of i ∙ sym (length-be 1 b))
kind-scalar k (vr.Long n) e = let i = eqb-true k (chars "long") e in (subst (Of scalars) (sym i) (among refl), ap width_of i ∙ sym (length-be 4 n))
kind-scalar k (vr.Comp n) e = let i = eqb-true k (chars "comp") e in (subst (Of scalars) (sym i) (among refl), ap width_of i ∙ sym (length-be 8 n))
kind-scalar k (vr.Double n) e = let i = eqb-true k (chars "doub") e in (subst (Of scalars) (sym i) (among refl), ap width_of i ∙ sym (length-be 8 n))
kind-scalar k (vr.UnitDouble u n) e = let i = eqb-true k (chars "UntF") e in (subst (Of scalars) (sym i) (among refl), ap width_of i ∙ sym (unit_size u n))
kind-scalar k vr.Other e = let z : ◌≡◌ {A = ℕ} 0 1 = cc in absurd (omega arith)

-- ---- values that are sound

pub most : (m n : ℕ) → ◌≡◌ {A = ℕ} (pick (leb n m) 0 5) 0 → n ≤ m
most m n e = go (leb n m) refl e
  where
    go : (b : Bool) → leb n m ≡ b → ◌≡◌ {A = ℕ} (pick b 0 5) 0 → n ≤ m
    go true x y = leb-true n m x
    go false x y = absurd (omega (arith, y))

pub bool-fits : (v : Replacement) (b : ℕ) → v ≡ vr.Bool b → fault_of v ≡ 0 → b ≤ 1
bool-fits v b e f = most 1 b (ap fault_of (sym e) ∙ f)

pub long-fits : (v : Replacement) (n : ℕ) → v ≡ vr.Long n → fault_of v ≡ 0 → n ≤ 4294967295
long-fits v n e f = most 4294967295 n (ap fault_of (sym e) ∙ f)

-- ---- stores

-- no fault has the number 0
pub numbered : (f : Fault) → number_of f ≡ 0 → ⊥
numbered vf.TooLong e = omega arith
numbered vf.Short e = omega arith
numbered vf.WrongTag e = omega arith
numbered vf.Unknown e = omega arith
numbered vf.OutOfRange e = omega arith
numbered vf.LeftOver e = omega arith
numbered vf.ListsDiffer e = omega arith
numbered vf.BadlyClosed e = omega arith
numbered vf.Unbalanced e = omega arith
numbered vf.TooDeep e = omega arith
numbered vf.NoRoom e = omega arith
numbered vf.NoRecord e = omega arith
numbered vf.WrongLength e = omega arith
numbered vf.NoCounterpart e = omega arith

low : (v : ℕ) → be 4 (v % 4294967296) ≡ be 4 v
unfolding be
low v =
    let a : v % 4294967296 / 256 / 256 / 256 % 256 ≡ v / 256 / 256 / 256 % 256 = omega arith in
    let b : v % 4294967296 / 256 / 256 % 256 ≡ v / 256 / 256 % 256 = omega arith in
    let c : v % 4294967296 / 256 % 256 ≡ v / 256 % 256 = omega arith in
    let d : v % 4294967296 % 256 ≡ v % 256 = omega arith in
    rw (a, b, c, d)

high : (v : ℕ) → be 8 v ≡ be 4 (v / 256 / 256 / 256 / 256) ++ be 4 v
unfolding be
high v = refl

pub put-8 : (v : ℕ) (out o p : List ℕ) (at : ℕ) → at + 8 ≤ length out → o ≡ stored out at (be 4 (v / 256 / 256 / 256 / 256)) → p ≡ stored o (at + 4) (be 4 (v % 4294967296)) → p ≡ sets out at (be 8 v)
put-8 v out o p at l e f =
    let n = length-kept o out at (be 4 (v / 256 / 256 / 256 / 256)) e in
    as-sets p o (at + 4) (be 4 (v % 4294967296)) 4 f (length-be 4 (v % 4294967296)) (omega (arith, l, n))
    ∙ ap (sets o (at + 4)) (low v)
    ∙ sym (ap (sets out at) (high v) ∙ peel-be 4 (v / 256 / 256 / 256 / 256) out o (be 4 v) at (at + 4) refl (omega (arith, l)) e)

module _ (out : List ℕ) (at : ℕ) (v : Replacement) where
  pub put-bool : (b : ℕ) → v ≡ vr.Bool b → b ≤ 1 → set out at b ≡ sets out at (bytes_of v)
  put-bool b e l = sym (ap (λ (x : Replacement). sets out at (bytes_of x)) e ∙ ap (sets out at) (be-1 b (omega (arith, l))))

  pub put-long : (n : ℕ) {o : List ℕ} → v ≡ vr.Long n → at + length (bytes_of v) ≤ length out → o ≡ stored out at (be 4 n) → o ≡ sets out at (bytes_of v)
  put-long n {o} e l f = as-sets o out at (be 4 n) 4 f (length-be 4 n) (omega (arith, l, sized v (vr.Long n) 4 e (length-be 4 n))) ∙ ap (λ (x : Replacement). sets out at (bytes_of x)) (sym e)

  pub put_same : (w : Replacement) {o : List ℕ} → v ≡ w → o ≡ sets out at (bytes_of w) → o ≡ sets out at (bytes_of v)
  put_same w e f = f ∙ ap (λ (x : Replacement). sets out at (bytes_of x)) (sym e)

  pub put-unit : (u n : ℕ) {o p : List ℕ} → v ≡ vr.UnitDouble u n → at + length (bytes_of v) ≤ length out → o ≡ stored out at (be 4 u) → p ≡ sets o (at + 4) (be 8 n) → p ≡ sets out at (bytes_of v)
  put-unit u n {o} e l f g =
      g ∙ sym (ap (λ (x : Replacement). sets out at (bytes_of x)) e ∙ peel-be 4 u out o (be 8 n) at (at + 4) refl (omega (arith, l, sized v (vr.UnitDouble u n) 12 e (unit_size u n))) f)

-- ---- units before doubles

module _ (v : Replacement) (u n : ℕ) (e : v ≡ vr.UnitDouble u n) where
  pub unit-known : (y : Bool) → true ≡ is_unit u → y ≡ finite (of_bits binary64 n) → ◌≡◌ {A = ℕ} (pick y 0 5) (fault_of v)
  unit-known y f g =
      ap (λ (x : Bool). pick {A = ℕ} x 0 5) g ∙ ap (λ (x : Bool). pick {A = ℕ} x (pick (finite (of_bits binary64 n)) 0 5) 4) f ∙ ap fault_of (sym e)

  pub unit-unknown : false ≡ is_unit u → ◌≡◌ {A = ℕ} 4 (fault_of v)
  unit-unknown f = ap (λ (x : Bool). pick {A = ℕ} x (pick (finite (of_bits binary64 n)) 0 5) 4) f ∙ ap fault_of (sym e)
