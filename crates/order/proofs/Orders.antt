-- Laws of comparisons. Assumes nothing.
use Prim.Native.Nat.{ℕ, ◌<◌}
use mathlib.Core.Path.{◌≡◌, refl, sym, ap, ap₂, ◌∙◌}
use mathlib.Core.Bool.{Bool, true, false}
use mathlib.Core.Logic.{◌⊎◌, inl, inr}
use lib.Dec.{ltb}
use borrow.Author.Tests.{ltb-true, ltb-false, lt-ltb, le-ltb}
use native.Mathlib.Omega.{arith}
use Rattle.algebra.specs.Reader.{pick}
use Rattle.order.specs.Order.{Order, less, same, greater, or_else, compare}
use Rattle.order.specs.scaffold.Total.{turn, Total}

-- ---- numbers

pub compare-less : (a b : ℕ) → a < b → compare a b ≡ less
unfolding compare
compare-less a b h = rw (lt-ltb a b h)

pub compare-more : (a b : ℕ) → b < a → compare a b ≡ greater
unfolding compare
compare-more a b h = rw (le-ltb a b (omega arith), lt-ltb b a h)

pub compare_same : (a b : ℕ) → a ≡ b → compare a b ≡ same
unfolding compare
compare_same a b h = rw (le-ltb a b (omega arith), le-ltb b a (omega arith))

-- the three cases
pub data Three (a b : ℕ) : Order → Type 0 where
  lower : a < b → Three a b less
  equal : a ≡ b → Three a b same
  higher : b < a → Three a b greater

pub three : (a b : ℕ) → Three a b (compare a b)
unfolding compare
three a b = go (ltb a b) (ltb b a) refl refl
  where
    go : (x y : Bool) → ltb a b ≡ x → ltb b a ≡ y → Three a b (pick x less (pick y greater same))
    go true y p q = lower (ltb-true a b p)
    go false true p q = higher (ltb-true b a q)
    go false false p q = equal (omega (arith, ltb-false a b p, ltb-false b a q))

pub less-is : (a b : ℕ) → compare a b ≡ less → a < b
less-is a b e = go (compare a b) (three a b) e
  where
    go : (o : Order) → Three a b o → o ≡ less → a < b
    go less (lower h) k = h
    go same (equal h) k = let z : ◌≡◌ {A = ℕ} 0 1 = cc in absurd (omega arith)
    go greater (higher h) k = let z : ◌≡◌ {A = ℕ} 0 1 = cc in absurd (omega arith)

pub same-is : (a b : ℕ) → compare a b ≡ same → a ≡ b
same-is a b e = go (compare a b) (three a b) e
  where
    go : (o : Order) → Three a b o → o ≡ same → a ≡ b
    go less (lower h) k = let z : ◌≡◌ {A = ℕ} 0 1 = cc in absurd (omega arith)
    go same (equal h) k = h
    go greater (higher h) k = let z : ◌≡◌ {A = ℕ} 0 1 = cc in absurd (omega arith)

pub turned-is : (a b : ℕ) → compare b a ≡ turn (compare a b)
turned-is a b = go (compare a b) (three a b) refl
  where
    go : (o : Order) → Three a b o → compare a b ≡ o → compare b a ≡ turn o
    go less (lower h) k = compare-more b a h
    go same (equal h) k = compare_same b a (sym h)
    go greater (higher h) k = compare-less b a h

pub numbers-total : Total compare
numbers-total = record {
  itself = λ a. compare_same a a refl;
  equal = same-is;
  turned = turned-is;
  onward = λ a b c p q. compare-less a c (omega (arith, less-is a b p, less-is b c q));
}

-- ---- one comparison after another

pub turn-else : (o p : Order) → turn (or_else o p) ≡ or_else (turn o) (turn p)
turn-else less p = refl
turn-else same p = refl
turn-else greater p = refl

pub else_same : (o p : Order) → or_else o p ≡ same → (o ≡ same) × (p ≡ same)
else_same less p e = let z : ◌≡◌ {A = ℕ} 0 1 = cc in absurd (omega arith)
else_same same p e = (refl, e)
else_same greater p e = let z : ◌≡◌ {A = ℕ} 0 1 = cc in absurd (omega arith)

pub else-less : (o p : Order) → or_else o p ≡ less → (o ≡ less) ⊎ ((o ≡ same) × (p ≡ less))
else-less less p e = inl refl
else-less same p e = inr (refl, e)
else-less greater p e = let z : ◌≡◌ {A = ℕ} 0 1 = cc in absurd (omega arith)

module _ {A B C : Type 0} (f : A → B) (g : A → C) (by : B → B → Order) (then : C → C → Order) (tb : Total by) (tc : Total then) (joint : (a b : A) → f a ≡ f b → g a ≡ g b → a ≡ b) where
  -- by one thing, and where that is the same by another
  pub both-total : Total (λ (a b : A). or_else (by (f a) (f b)) (then (g a) (g b)))
  both-total = record {
    itself = λ a. ap₂ or_else (tb.itself (f a)) (tc.itself (g a));
    equal = λ a b e.
        let z = else_same (by (f a) (f b)) (then (g a) (g b)) e in
        joint a b (tb.equal (f a) (f b) z.0) (tc.equal (g a) (g b) z.1);
    turned = λ a b. ap₂ or_else (tb.turned (f a) (f b)) (tc.turned (g a) (g b)) ∙ sym (turn-else (by (f a) (f b)) (then (g a) (g b)));
    onward = λ a b c p q. go a b c (else-less _ _ p) (else-less _ _ q);
  }
    where
      go : (a b c : A) → (by (f a) (f b) ≡ less) ⊎ ((by (f a) (f b) ≡ same) × (then (g a) (g b) ≡ less))
          → (by (f b) (f c) ≡ less) ⊎ ((by (f b) (f c) ≡ same) × (then (g b) (g c) ≡ less))
          → or_else (by (f a) (f c)) (then (g a) (g c)) ≡ less
      go a b c (inl p) (inl q) = ap (λ (o : Order). or_else o (then (g a) (g c))) (tb.onward (f a) (f b) (f c) p q)
      go a b c (inl p) (inr q) = ap (λ (o : Order). or_else o (then (g a) (g c))) (ap (by (f a)) (sym (tb.equal (f b) (f c) q.0)) ∙ p)
      go a b c (inr p) (inl q) = ap (λ (o : Order). or_else o (then (g a) (g c))) (ap (λ (x : B). by x (f c)) (tb.equal (f a) (f b) p.0) ∙ q)
      go a b c (inr p) (inr q) = ap₂ or_else (ap (λ (x : B). by x (f c)) (tb.equal (f a) (f b) p.0) ∙ q.0) (tc.onward (g a) (g b) (g c) p.1 q.1)
