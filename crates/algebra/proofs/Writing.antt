-- What a writer answers by its fault and its length, and what it does with the lent bytes. Assumes nothing.
use Prim.Native.Nat.{ℕ, ◌≤◌, ◌<◌}
use mathlib.Core.Path.{◌≡◌, refl, sym, ap, ap₂, ◌∙◌}
use mathlib.Core.List.{List, ◌++◌}
use mathlib.Core.Bool.{Bool, true, false}
use lib.ListN.{length, drop}
use lib.Dec.{leb, eqb}
use borrow.Author.Tests.{ne_eqb, le-leb, lt-leb, leb-true, leb-false, eqb-true}
use native.Mathlib.Omega.{arith}
use Rattle.algebra.specs.Reader.{pick, limit}
use Rattle.algebra.specs.Writing.{Outcome, bytes, refused, needs, writes}

-- ---- the length, or that it is over the limit

pub size_fits : (m k : ℕ) → m ≡ k → k ≤ limit → bytes k ≡ pick (leb m limit) (bytes m) (refused 1 0)
size_fits m k e h = sym (simp (le-leb m limit (omega arith)) (ap bytes e))

pub size-over : (m : ℕ) → limit < m → refused 1 0 ≡ pick (leb m limit) (bytes m) (refused 1 0)
size-over m h = simp (lt-leb m limit h)

pub size_is : (m k : ℕ) → bytes k ≡ pick (leb m limit) (bytes m) (refused 1 0) → (m ≤ limit) × (m ≡ k)
size_is m k e = go (leb m limit) refl e
  where
    go : (b : Bool) → leb m limit ≡ b → bytes k ≡ pick b (bytes m) (refused 1 0) → (m ≤ limit) × (m ≡ k)
    go true h f = (leb-true _ _ h, cc)
    go false h f = let z : ◌≡◌ {A = ℕ} 0 1 = cc in absurd (omega arith)

pub size-passes : (m x : ℕ) → refused x 0 ≡ pick (leb m limit) (bytes m) (refused 1 0) → limit < m
size-passes m x e = go (leb m limit) refl e
  where
    go : (b : Bool) → leb m limit ≡ b → refused x 0 ≡ pick b (bytes m) (refused 1 0) → limit < m
    go true h f = let z : ◌≡◌ {A = ℕ} 0 1 = cc in absurd (omega arith)
    go false h f = leb-false _ _ h

-- ---- an answer by its fault x and the length n

module _ (x n : ℕ) where
  pub needs-no : (y : ℕ) → y ≡ x → (y ≡ 0 → ⊥) → refused y 0 ≡ needs x n
  needs-no y e h = sym (ap (λ (k : ℕ). needs k n) (sym e) ∙ simp (ne_eqb y 0 h))

  pub needs-all : (k : ℕ) → x ≡ 0 → n ≡ k → bytes k ≡ needs x n
  needs-all k e s = sym (ap (λ (z : ℕ). needs z n) e ∙ ap bytes s)

  pub needs-inv : (k : ℕ) → bytes k ≡ needs x n → (x ≡ 0) × (n ≡ k)
  needs-inv k e = go (eqb x 0) refl e
    where
      go : (b : Bool) → eqb x 0 ≡ b → bytes k ≡ pick b (bytes n) (refused x 0) → (x ≡ 0) × (n ≡ k)
      go true h f = (eqb-true _ _ h, cc)
      go false h f = let z : ◌≡◌ {A = ℕ} 0 1 = cc in absurd (omega arith)

  module _ (file out : List ℕ) where
    pub writes-no : (y : ℕ) → refused y 0 ≡ needs x n → (refused y 0, out) ≡ writes x n file out
    writes-no y e = go (eqb x 0) e
      where
        go : (b : Bool) → refused y 0 ≡ pick b (bytes n) (refused x 0)
            → ◌≡◌ {A = Outcome × List ℕ} (refused y 0, out) (pick b (pick (leb n (length out)) (bytes n, file ++ drop n out) (refused 11 0, out)) (refused x 0, out))
        go true f = let z : ◌≡◌ {A = ℕ} 0 1 = cc in absurd (omega arith)
        go false f = ap (λ (o : Outcome). (o, out)) f

    module _ (k : ℕ) (e : bytes k ≡ needs x n) where
      by-room : writes x n file out ≡ pick (leb n (length out)) (bytes n, file ++ drop n out) (refused 11 0, out)
      by-room = ap (λ (z : ℕ). writes z n file out) (needs-inv k e).0

      pub writes-none : length out < k → (refused 11 0, out) ≡ writes x n file out
      writes-none h = let s = (needs-inv k e).1 in sym (by-room ∙ simp (lt-leb n (length out) (omega arith)))

      pub writes-all : k ≤ length out → (o : List ℕ) → o ≡ file ++ drop n out → (bytes k, o) ≡ writes x n file out
      writes-all h o w =
          let s = (needs-inv k e).1 in
          ap₂ (λ (x : ℕ) (y : List ℕ). (bytes x, y)) (sym s) w ∙ sym (by-room ∙ simp (le-leb n (length out) (omega arith)))

-- what is known where a writer wrote k bytes
pub record Wrote (x n : ℕ) (file out : List ℕ) (k : ℕ) (out' : List ℕ) : Type 0 where
  pub none : x ≡ 0
  pub size_is : n ≡ k
  pub inside : k ≤ length out
  pub is : out' ≡ file ++ drop k out

pub writes-inv : (x n : ℕ) (file out : List ℕ) {k : ℕ} {out' : List ℕ} → writes x n file out ≡ (bytes k, out') → Wrote x n file out k out'
writes-inv x n file out {k} {out'} e = go (eqb x 0) (leb n (length out)) refl refl (ap (λ (w : Outcome × List ℕ). w.0) e) (ap (λ (w : Outcome × List ℕ). w.1) e)
  where
    answer : Bool → Bool → Outcome × List ℕ
    answer t u = pick t (pick u (bytes n, file ++ drop n out) (refused 11 0, out)) (refused x 0, out)

    go : (t u : Bool) → eqb x 0 ≡ t → leb n (length out) ≡ u → (answer t u).0 ≡ bytes k → (answer t u).1 ≡ out' → Wrote x n file out k out'
    go true true h j f g =
        let z : n ≡ k = cc in
        record { none = eqb-true _ _ h; size_is = z; inside = omega (arith, leb-true n (length out) j); is = sym g ∙ ap (λ (m : ℕ). file ++ drop m out) z }
    go true false h j f g = let z : ◌≡◌ {A = ℕ} 0 1 = cc in absurd (omega arith)
    go false u h j f g = let z : ◌≡◌ {A = ℕ} 0 1 = cc in absurd (omega arith)
