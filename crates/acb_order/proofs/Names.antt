-- Laws of the order of names. Assumes nothing.
use Prim.Native.Nat.{ℕ}
use mathlib.Core.Path.{◌≡◌, refl, sym, ap, ap₂, ◌∙◌}
use mathlib.Core.List.{List, [], ◌∷◌}
use mathlib.Core.Logic.{◌⊎◌, inl, inr}
use native.Mathlib.Omega.{arith}
use Rattle.order.specs.Order.{Order, less, same, or_else, compare}
use Rattle.order.specs.scaffold.Total.{turn, Total}
use Rattle.order.proofs.Orders.{compare-less, compare_same, less-is, same-is, turned-is, turn-else, else_same, else-less}
use Rattle.acb_order.specs.Names.{compare_names}

names-itself : (us : List ℕ) → compare_names us us ≡ same
unfolding compare_names
names-itself [] = refl
names-itself (u ∷ us) = ap₂ or_else (compare_same u u refl) (names-itself us)

names-equal : (us vs : List ℕ) → compare_names us vs ≡ same → us ≡ vs
unfolding compare_names
names-equal [] [] e = refl
names-equal [] (v ∷ vs) e = let z : ◌≡◌ {A = ℕ} 0 1 = cc in absurd (omega arith)
names-equal (u ∷ us) [] e = let z : ◌≡◌ {A = ℕ} 0 1 = cc in absurd (omega arith)
names-equal (u ∷ us) (v ∷ vs) e =
    let z = else_same (compare u v) (compare_names us vs) e in
    ap₂ (λ (x : ℕ) (l : List ℕ). x ∷ l) (same-is u v z.0) (names-equal us vs z.1)

names-turned : (us vs : List ℕ) → compare_names vs us ≡ turn (compare_names us vs)
unfolding compare_names
names-turned [] [] = refl
names-turned [] (v ∷ vs) = refl
names-turned (u ∷ us) [] = refl
names-turned (u ∷ us) (v ∷ vs) = ap₂ or_else (turned-is u v) (names-turned us vs) ∙ sym (turn-else (compare u v) (compare_names us vs))

names-onward : (us vs ws : List ℕ) → compare_names us vs ≡ less → compare_names vs ws ≡ less → compare_names us ws ≡ less
unfolding compare_names
names-onward [] [] ws p q = let z : ◌≡◌ {A = ℕ} 0 1 = cc in absurd (omega arith)
names-onward [] (v ∷ vs) [] p q = let z : ◌≡◌ {A = ℕ} 0 1 = cc in absurd (omega arith)
names-onward [] (v ∷ vs) (w ∷ ws) p q = refl
names-onward (u ∷ us) [] ws p q = let z : ◌≡◌ {A = ℕ} 0 1 = cc in absurd (omega arith)
names-onward (u ∷ us) (v ∷ vs) [] p q = let z : ◌≡◌ {A = ℕ} 0 1 = cc in absurd (omega arith)
names-onward (u ∷ us) (v ∷ vs) (w ∷ ws) p q =
    go (names-onward us vs ws) (else-less (compare u v) (compare_names us vs) p) (else-less (compare v w) (compare_names vs ws) q)
  where
    go : (compare_names us vs ≡ less → compare_names vs ws ≡ less → compare_names us ws ≡ less)
        → (compare u v ≡ less) ⊎ ((compare u v ≡ same) × (compare_names us vs ≡ less))
        → (compare v w ≡ less) ⊎ ((compare v w ≡ same) × (compare_names vs ws ≡ less))
        → or_else (compare u w) (compare_names us ws) ≡ less
    go ih (inl p) (inl q) = ap (λ (o : Order). or_else o (compare_names us ws)) (compare-less u w (omega (arith, less-is u v p, less-is v w q)))
    go ih (inl p) (inr q) = ap (λ (o : Order). or_else o (compare_names us ws)) (compare-less u w (omega (arith, less-is u v p, same-is v w q.0)))
    go ih (inr p) (inl q) = ap (λ (o : Order). or_else o (compare_names us ws)) (compare-less u w (omega (arith, same-is u v p.0, less-is v w q)))
    go ih (inr p) (inr q) = ap₂ or_else (compare_same u w (omega (arith, same-is u v p.0, same-is v w q.0))) (ih p.1 q.1)

pub names-total : Total compare_names
names-total = record { itself = names-itself; equal = names-equal; turned = names-turned; onward = names-onward }
