-- The first n numbers of a run as a heap.
use Rattle.std.specs.Prelude.{ℕ, ◌+◌, ◌*◌, ◌≤◌, ◌<◌, ◌≡◌, List, get_or, set}
use Rattle.order.specs.Order.{Order}
use Rattle.order.specs.Run.{Rearranged, NotBefore}

-- two places exchanged
abbrev pub swapped : List ℕ → ℕ → ℕ → List ℕ
swapped xs i j = set (set xs i (get_or xs j 0)) j (get_or xs i 0)

-- a heap of n from place lo on: no child, at 2 k + 1 and 2 k + 2, comes after its parent at k
abbrev pub Heap : (ℕ → ℕ → Order) → ℕ → ℕ → List ℕ → Type 0
Heap by lo n xs = (k c : ℕ) → lo ≤ k → 2 * k < c → c ≤ 2 * k + 2 → c < n → NotBefore by xs k c

-- a heap of n from place lo on, but for what stands at place h: the children of h do not come after the parent of h
pub record Loose (by : ℕ → ℕ → Order) (lo n h : ℕ) (xs : List ℕ) : Type 0 where
  pub edges : (k c : ℕ) → lo ≤ k → (k ≡ h → ⊥) → (c ≡ h → ⊥) → 2 * k < c → c ≤ 2 * k + 2 → c < n → NotBefore by xs k c
  pub grand : (k c : ℕ) → lo ≤ k → 2 * k < h → h ≤ 2 * k + 2 → 2 * h < c → c ≤ 2 * h + 2 → c < n → NotBefore by xs k c

-- no child of h comes after it
abbrev pub Above : (ℕ → ℕ → Order) → ℕ → ℕ → List ℕ → Type 0
Above by n h xs = (c : ℕ) → 2 * h < c → c ≤ 2 * h + 2 → c < n → NotBefore by xs h c

-- c is a child of h that comes before no other
pub record Child (by : ℕ → ℕ → Order) (n h : ℕ) (xs : List ℕ) (c : ℕ) : Type 0 where
  pub low : 2 * h < c
  pub high : c ≤ 2 * h + 2
  pub inside : c < n
  pub best : (d : ℕ) → 2 * h < d → d ≤ 2 * h + 2 → d < n → NotBefore by xs c d

-- in order from place m on, and nothing there comes before what stands earlier
abbrev pub Tail : (ℕ → ℕ → Order) → ℕ → ℕ → List ℕ → Type 0
Tail by m n xs = (i j : ℕ) → i < j → m ≤ j → j < n → NotBefore by xs j i

-- a number x that is carried, to be set down at place h or another: set down at h, it is a rearrangement of xs and a heap from lo on but for h
pub record Held (by : ℕ → ℕ → Order) (lo n : ℕ) (xs : List ℕ) (h x : ℕ) (ys : List ℕ) : Type 0 where
  pub moved : Rearranged n xs (set ys h x)
  pub loose : Loose by lo n h (set ys h x)
