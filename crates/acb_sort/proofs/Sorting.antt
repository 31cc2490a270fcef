-- The order of keys, and what a sort by it gives. Assumes nothing.
use Prim.Native.Nat.{ℕ, ◌/◌, ◌<◌}
use mathlib.Core.Path.{◌≡◌, refl, ap, ap₂, ◌∙◌}
use mathlib.Core.List.{List, [], ◌∷◌}
use lib.ListN.{length, set}
use native.Mathlib.Omega.{arith}
use Rattle.std.specs.Cmp.{IsStrictWeakOrder}
use Rattle.std.specs.List.{swap}
use Rattle.std.specs.List.Sorted.{IsPermutation, IsSortedBy}
use Rattle.std.specs.declared.cmp.Ordering.{Ordering}
use Rattle.std.specs.declared.cmp.Ordering.TheVariants.{Less, Equal, Greater}
use Rattle.std.specs.Ordering.{is_lt, nat_cmp, ordering_then}
use Rattle.std.proofs.lemmas.List.{get_or_default}
use Rattle.std.proofs.lemmas.List.Sorted.{IsPermutation-keeps, sorted_far}
use Rattle.order.specs.Run.{Rearranged}
use Rattle.order.specs.scaffold.Heap.{swapped}
use Rattle.order.proofs.Runs.{unmoved, moved_on, swap-moves, not-both, not_on}
use Rattle.order.specs.Order.{is_less, or_else, compare}
use Rattle.order.specs.scaffold.Total.{Total}
use Rattle.order.proofs.Orders.{both-total, numbers-total}
use Rattle.acb_order.specs.Names.{compare_names}
use Rattle.acb_order.specs.Places.{name_at}
use Rattle.acb_order.proofs.Names.{names-total}
use Rattle.acb_names.specs.Answer.{told}
use Rattle.acb_names.proofs.Units.{told_compare}
use Rattle.acb_sort.specs.Keys.{key_order, SortedKeys}

pub keys-total : (s : List ℕ) → Total (key_order s)
keys-total s = both-total (λ (x : ℕ). name_at s (x / 256)) (λ (x : ℕ). x) compare_names compare names-total numbers-total (λ a b e f. f)

-- keys as the library compares them
then-told : (o p : Ordering) → told (ordering_then o p) ≡ or_else (told o) (told p)
then-told Less p = refl
then-told Equal p = refl
then-told Greater p = refl

pub both-told : (s : List ℕ) (x y : ℕ) (o p r : Ordering) → told o ≡ compare_names (name_at s (x / 256)) (name_at s (y / 256)) → p ≡ nat_cmp x y → r ≡ ordering_then o p → told r ≡ key_order s x y
both-told s x y o p r e f g = ap told g ∙ then-told o p ∙ ap₂ or_else e (told_compare x y p f)

pub less-told : (o : Ordering) → is_lt o ≡ is_less (told o)
less-told Less = refl
less-told Equal = refl
less-told Greater = refl

-- the same of a call that leaves the closure as it was
pub keys-test : {F : Type 0} {f f' : F} (s : List ℕ) (x y : ℕ) (r : Ordering) → (told r ≡ key_order s x y) × (f' ≡ f) → (is_lt r ≡ is_less (key_order s x y)) × (f' ≡ f)
keys-test s x y r e = (less-told r ∙ ap is_less e.0, e.1)

pub keys-rank : (s : List ℕ) → IsStrictWeakOrder (λ x y. is_less (key_order s x y))
keys-rank s = record { one_way = not-both (keys-total s); chain = not_on (keys-total s) }

-- the library's permutation
swap_is : (l : List ℕ) (i j : ℕ) → i < length l → j < length l → swap l i j ≡ swapped l i j
swap_is [] i j hi hj = absurd (omega arith)
swap_is (d ∷ ys) i j hi hj = ap₂ (λ (a b : ℕ). set (set (d ∷ ys) i a) j b) (get_or_default (d ∷ ys) j d 0 hj) (get_or_default (d ∷ ys) i d 0 hi)

pub rearranged : (xs ys : List ℕ) → IsPermutation xs ys → Rearranged (length xs) xs ys
rearranged xs ys p = IsPermutation-keeps xs (Rearranged (length xs) xs) (unmoved _ xs) step ys p
  where
    step : (l : List ℕ) (i j : ℕ) → i < length l → j < length l → Rearranged (length xs) xs l → Rearranged (length xs) xs (swap l i j)
    step l i j hi hj r = let c = r.count in rw (swap_is l i j hi hj) (moved_on r (swap-moves (length xs) l i j (omega arith) (omega arith) (omega arith)))

pub sorted-is : (s xs ys : List ℕ) → IsPermutation xs ys → IsSortedBy (λ x y. is_less (key_order s x y)) ys → SortedKeys s (length xs) xs ys
sorted-is s xs ys p o =
    let r = rearranged xs ys p in
    let c = r.count in
    record { moved = r; ordered = λ i j a b. sorted_far _ (keys-rank s) ys o i j 0 (omega arith) (omega arith) }
