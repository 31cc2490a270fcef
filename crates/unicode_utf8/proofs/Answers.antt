-- What the calls answer, on plain values. Assumes nothing.
use Prim.Native.Nat.{ℕ, zero, suc, ◌+◌, ◌-◌, ◌*◌, ◌/◌, ◌≤◌, ◌<◌}
use mathlib.Core.Path.{◌≡◌, refl, sym, ap, ap₂, ◌∙◌}
use mathlib.Core.List.{List, [], ◌∷◌, ◌++◌}
use mathlib.Core.Bool.{Bool, true, false}
use lib.ListN.{length, get_or, drop, get_or-eq_default}
use lib.Seq.{sets, sets-eq, get_or-take, get_or-drop}
use lib.Dec.{ltb}
use borrow.Author.Tests.{le-leb, lt-leb, ltb-true, ltb-false}
use native.Mathlib.Omega.{arith}
use Rattle.fault.specs.Fault.{number_of}
use Rattle.fault.specs.declared.Fault.{Fault}
use Rattle.fault.specs.declared.Fault.TheVariants as fault
use Rattle.algebra.specs.Reader.{pick, limit}
use Rattle.algebra.specs.Numbers.{nums, Bytes}
use Rattle.algebra.specs.Store.{part}
use Rattle.algebra.specs.Writing.{bytes, refused, writes}
use Rattle.algebra.proofs.Laws.{num-2}
use Rattle.algebra.proofs.Places.{length-nums, getD-nums, length_part}
use Rattle.algebra.proofs.Writing.{needs-no, needs-all, writes-no, writes-none, writes-all}
use Rattle.unicode_text.specs.Grammar.{Units}
use Rattle.unicode_utf8.specs.Answer.{units_fault}
use Rattle.unicode_utf8.specs.scaffold.Steps.{units_within}

-- ---- what is written, by the fault x and the bytes b

module _ (x : ℕ) (b out : List ℕ) where
  pub gives_none : (y : ℕ) → y ≡ x → (y ≡ 0 → ⊥) → (refused y 0, out) ≡ writes x (length b) b out
  gives_none y e h = writes-no x (length b) b out y (needs-no x (length b) y e h)

  pub gives-short : x ≡ 0 → length out < length b → (refused 11 0, out) ≡ writes x (length b) b out
  gives-short e h = writes-none x (length b) b out (length b) (needs-all x (length b) (length b) e refl) h

  pub gives_all : x ≡ 0 → length b ≤ length out → (k : ℕ) (o : List ℕ) → k ≡ length b → o ≡ sets out 0 b → (bytes k, o) ≡ writes x (length b) b out
  gives_all e h k o f g =
      let z : 0 + length b ≡ length b = omega arith in
      writes-all x (length b) b out k (needs-all x (length b) k e (sym f)) (omega arith) o (g ∙ sets-eq b out 0 (omega arith) ∙ ap (λ (n : ℕ). b ++ drop n out) z)

-- ---- units

pub units-long : (us : List ℕ) → 8388608 < length us → 1 ≡ units_fault us
units-long us h = sym (ap (λ (b : Bool). pick b 0 1) (lt-leb (2 * length us) limit (omega arith)))

pub units-fine : (us : List ℕ) → length us ≤ 8388608 → units_fault us ≡ 0
units-fine us h = ap (λ (b : Bool). pick b 0 1) (le-leb (2 * length us) limit (omega arith))

-- ---- a name's bytes

pub units_in : (b : List ℕ) → Bytes b → Units (units_within b)
unfolding units_within
units_in b h k = go (ltb k (length b / 2)) refl
  where
    go : (t : Bool) → ltb k (length b / 2) ≡ t → get_or (nums 2 (length b / 2) b 0) k 0 < 0x10000
    go true e =
        let f = getD-nums 2 b (length b / 2) 0 k (ltb-true k (length b / 2) e) ∙ num-2 b (0 + 2 * k) in
        omega (arith, f, h (0 + 2 * k), h (0 + 2 * k + 1))
    go false e =
        let l = ltb-false k (length b / 2) e in
        omega (arith, get_or-eq_default (nums 2 (length b / 2) b 0) 0 {n = k} (omega (arith, l, length-nums 2 (length b / 2) b 0)))

module _ (s p : List ℕ) (at : ℕ) (h : (k : ℕ) → k < length p → get_or p k 0 ≡ get_or s (at + k) 0) where
  window : (m j : ℕ) → j + 2 * m ≤ length p → nums 2 m p j ≡ nums 2 m s (at + j)
  unfolding nums
  window zero j l = refl
  window (suc m) j l =
      let a : at + (j + 1) ≡ at + j + 1 = omega arith in
      let q : at + (j + 2) ≡ at + j + 2 = omega arith in
      ap₂ (λ (x : ℕ) (xs : List ℕ). x ∷ xs)
      (num-2 p j ∙ ap₂ (λ (x y : ℕ). x * 256 + y) (h j (omega arith)) (h (j + 1) (omega arith) ∙ ap (λ (n : ℕ). get_or s n 0) a) ∙ sym (num-2 s (at + j)))
      (window m (j + 2) (omega arith) ∙ ap (λ (n : ℕ). nums 2 m s n) q)

pub part-units : (s : List ℕ) (at n : ℕ) → at + 2 * n ≤ length s → units_within (part s at (at + 2 * n - at)) ≡ nums 2 n s at
unfolding units_within
part-units s at n l =
    let k : at + 2 * n - at ≡ 2 * n = omega arith in
    ap (λ (m : ℕ). units_within (part s at m)) k ∙ whole
  where
    whole : nums 2 (length (part s at (2 * n)) / 2) (part s at (2 * n)) 0 ≡ nums 2 n s at
    whole =
        let e : length (part s at (2 * n)) ≡ 2 * n = length_part s at (2 * n) l in
        let f : length (part s at (2 * n)) / 2 ≡ n = omega arith in
        let z : at + 0 ≡ at = omega arith in
        ap (λ (m : ℕ). nums 2 m (part s at (2 * n)) 0) f
        ∙ window s (part s at (2 * n)) at (λ j h. get_or-take (2 * n) (drop at s) j 0 (omega (arith, h, e)) ∙ get_or-drop at s j 0) n 0 (omega arith)
        ∙ ap (λ (m : ℕ). nums 2 n s m) z

-- none
pub no-units : (s : List ℕ) (at n : ℕ) → n ≡ 0 → units_within [] ≡ nums 2 n s at
unfolding units_within nums
no-units s at n e = sym (ap (λ (m : ℕ). nums 2 m s at) e)

-- ---- no fault has the number 0

positive : (f : Fault) → 0 < number_of f
positive fault.TooLong = omega arith
positive fault.Short = omega arith
positive fault.WrongTag = omega arith
positive fault.Unknown = omega arith
positive fault.OutOfRange = omega arith
positive fault.LeftOver = omega arith
positive fault.ListsDiffer = omega arith
positive fault.BadlyClosed = omega arith
positive fault.Unbalanced = omega arith
positive fault.TooDeep = omega arith
positive fault.NoRoom = omega arith
positive fault.NoRecord = omega arith
positive fault.WrongLength = omega arith
positive fault.NoCounterpart = omega arith

pub some-number : (f : Fault) → number_of f ≡ 0 → ⊥
some-number f e = omega (arith, positive f)
