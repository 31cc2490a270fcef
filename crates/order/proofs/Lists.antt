-- Laws of sorted lists. Assumes nothing.
use Prim.Native.Nat.{ℕ, suc, ◌+◌, ◌≤◌}
use mathlib.Core.Path.{◌≡◌, refl, sym, ap, ap₂, ◌∙◌, subst}
use mathlib.Core.List.Permᴰ
use mathlib.Core.List.{List, [], ◌∷◌, Permᴰ}
use mathlib.Core.Bool.{Bool, true, false}
use mathlib.Core.Logic.{◌⊎◌, inl, inr}
use lib.ListN.{length}
use native.Mathlib.Omega.{arith}
use Rattle.algebra.specs.Reader.{pick}
use Rattle.order.specs.Order.{Order, less, same, greater, is_less}
use Rattle.order.specs.scaffold.Total.{turn, Total}
use Rattle.order.specs.Sorted.{Before, Increasing, In, first, later, Distinct, insert, sorted}

pub in-none : {A : Type 0} {a : A} → In a [] → ⊥
in-none = elim [ ]

pub less-never : {A : Type 0} {by : A → A → Order} → Total by → (a b : A) → by a b ≡ less → a ≡ b → ⊥
less-never {by = by} t a b h e = let z : same ≡ less = sym (t.itself a) ∙ ap (by a) e ∙ h in let y : ◌≡◌ {A = ℕ} 0 1 = cc in omega arith

pub is-less : (o : Order) → is_less o ≡ true → o ≡ less
is-less less e = refl
is-less same e = let z : ◌≡◌ {A = ℕ} 0 1 = cc in absurd (omega arith)
is-less greater e = let z : ◌≡◌ {A = ℕ} 0 1 = cc in absurd (omega arith)

-- what is in a list is in it rearranged, and nothing is lost
pub in-arranged : {A : Type 0} {l m : List A} → Permᴰ l m → (x : A) → In x l → In x m
in-arranged Permᴰ.nil x i = i
in-arranged (Permᴰ.cons e d) x (first k) = first (k ∙ e)
in-arranged (Permᴰ.cons e d) x (later i) = later (in-arranged d x i)
in-arranged (Permᴰ.swap e f) x (first k) = later (first (k ∙ e))
in-arranged (Permᴰ.swap e f) x (later (first k)) = first (k ∙ f)
in-arranged (Permᴰ.swap e f) x (later (later i)) = later (later i)
in-arranged (Permᴰ.trans d g) x i = in-arranged g x (in-arranged d x i)

pub length-arranged : {A : Type 0} {l m : List A} → Permᴰ l m → length l ≡ length m
length-arranged Permᴰ.nil = refl
length-arranged (Permᴰ.cons e d) = ap suc (length-arranged d)
length-arranged (Permᴰ.swap e f) = refl
length-arranged (Permᴰ.trans d g) = length-arranged d ∙ length-arranged g

module _ {A : Type 0} {by : A → A → Order} (t : Total by) where
  pub before-in : (a x : A) (l : List A) → Before by a l → In x l → by a x ≡ less
  before-in a x (b ∷ more) h (first e) = ap (by a) e ∙ h.0
  before-in a x (b ∷ more) h (later i) = before-in a x more h.1 i
  before-in a x [] h x3 = elim x3 [ ]

  pub in-before : (a : A) (l : List A) → ((x : A) → In x l → by a x ≡ less) → Before by a l
  in-before a [] h = tt
  in-before a (b ∷ more) h = (h b (first refl), in-before a more (λ x i. h x (later i)))

  -- of two increasing lists that one whose elements are all in the other is not longer, and if not shorter the same
  pub subset-same : (zs ws : List A) → Increasing by zs → Increasing by ws → ((x : A) → In x zs → In x ws) → (length zs ≤ length ws) × (length zs ≡ length ws → zs ≡ ws)
  subset-same [] [] p q h = (omega arith, λ e. refl)
  subset-same [] (w ∷ ws) p q h = (omega arith, λ e. absurd (omega arith))
  subset-same (z ∷ zs) [] p q h = absurd (in-none (h z (first refl)))
  subset-same (z ∷ zs) (w ∷ ws) p q h = go (h z (first refl)) (subset-same zs ws p.1 q.1) (subset-same (z ∷ zs) ws p q.1)
    where
      go : In z (w ∷ ws)
          → (((x : A) → In x zs → In x ws) → (length zs ≤ length ws) × (length zs ≡ length ws → zs ≡ ws))
          → (((x : A) → In x (z ∷ zs) → In x ws) → (length (z ∷ zs) ≤ length ws) × (length (z ∷ zs) ≡ length ws → (z ∷ zs) ≡ ws))
          → (length (z ∷ zs) ≤ length (w ∷ ws)) × (length (z ∷ zs) ≡ length (w ∷ ws) → (z ∷ zs) ≡ (w ∷ ws))
      go (first e) ih jh =
          let s : (x : A) → In x zs → In x ws = λ x i. keep x i (h x (later i)) in
          let r = ih s in
          (omega (arith, r.0), λ k. ap₂ (λ (y : A) (l : List A). y ∷ l) e (r.1 (omega arith)))
        where
          keep : (x : A) → In x zs → In x (w ∷ ws) → In x ws
          keep x i (first k) = absurd (less-never t z x (before-in z x zs p.0 i) (e ∙ sym k))
          keep x i (later j) = j
      go (later j) ih jh =
          let s : (x : A) → In x (z ∷ zs) → In x ws = λ x i. keep x i (h x i) in
          let r = jh s in
          (omega (arith, r.0), λ k. absurd (omega (arith, r.0)))
        where
          up : (x : A) → In x (z ∷ zs) → by w x ≡ less
          up x (first e) = ap (by w) e ∙ before-in w z ws q.0 j
          up x (later i) = t.onward w z x (before-in w z ws q.0 j) (before-in z x zs p.0 i)

          keep : (x : A) → In x (z ∷ zs) → In x (w ∷ ws) → In x ws
          keep x i (first k) = absurd (less-never t w x (up x i) (sym k))
          keep x i (later y) = y

  -- ---- sorting

  pub in_insert : (a x : A) (l : List A) → In x (insert by a l) → (x ≡ a) ⊎ In x l
  unfolding insert
  in_insert a x [] (first e) = inl e
  in_insert a x (b ∷ more) i = go (is_less (by b a)) i (in_insert a x more)
    where
      go : (o : Bool) → In x (pick o (b ∷ insert by a more) (a ∷ b ∷ more)) → (In x (insert by a more) → (x ≡ a) ⊎ In x more) → (x ≡ a) ⊎ In x (b ∷ more)
      go true (first e) ih = inr (first e)
      go true (later j) ih = out (ih j)
        where
          out : (x ≡ a) ⊎ In x more → (x ≡ a) ⊎ In x (b ∷ more)
          out (inl e) = inl e
          out (inr k) = inr (later k)
      go false (first e) ih = inl e
      go false (later j) ih = inr j
  in_insert a x [] (later x5) = elim x5 [ ]

  pub insert-self : (a : A) (l : List A) → In a (insert by a l)
  unfolding insert
  insert-self a [] = first refl
  insert-self a (b ∷ more) = go (is_less (by b a)) (insert-self a more)
    where
      go : (o : Bool) → In a (insert by a more) → In a (pick o (b ∷ insert by a more) (a ∷ b ∷ more))
      go true ih = later ih
      go false ih = first refl

  pub insert-keeps : (a x : A) (l : List A) → In x l → In x (insert by a l)
  unfolding insert
  insert-keeps a x (b ∷ more) i = go (is_less (by b a)) i (insert-keeps a x more)
    where
      go : (o : Bool) → In x (b ∷ more) → (In x more → In x (insert by a more)) → In x (pick o (b ∷ insert by a more) (a ∷ b ∷ more))
      go true (first e) ih = first e
      go true (later j) ih = later (ih j)
      go false i ih = later i
  insert-keeps a x [] i = elim i [ ]

  pub insert-length : (a : A) (l : List A) → length (insert by a l) ≡ length l + 1
  unfolding insert
  insert-length a [] = omega arith
  insert-length a (b ∷ more) = go (is_less (by b a)) (insert-length a more)
    where
      go : (o : Bool) → length (insert by a more) ≡ length more + 1 → length (pick o (b ∷ insert by a more) (a ∷ b ∷ more)) ≡ length (b ∷ more) + 1
      go true ih = omega arith
      go false ih = omega arith

  -- what is not less and not equal is more
  pub turned-less : (a b : A) → is_less (by b a) ≡ false → (a ≡ b → ⊥) → by a b ≡ less
  turned-less a b h ne = go (by b a) refl h
    where
      go : (o : Order) → by b a ≡ o → is_less o ≡ false → by a b ≡ less
      go less e k = let z : ◌≡◌ {A = ℕ} 0 1 = cc in absurd (omega arith)
      go same e k = absurd (ne (sym (t.equal b a e)))
      go greater e k = t.turned b a ∙ ap turn e

  pub insert-increasing : (a : A) (l : List A) → Increasing by l → (In a l → ⊥) → Increasing by (insert by a l)
  unfolding insert
  insert-increasing a [] p h = (tt, tt)
  insert-increasing a (b ∷ more) p h = go (is_less (by b a)) refl (insert-increasing a more p.1 (λ i. h (later i)))
    where
      go : (o : Bool) → is_less (by b a) ≡ o → Increasing by (insert by a more) → Increasing by (pick o (b ∷ insert by a more) (a ∷ b ∷ more))
      go true e ih = (in-before b (insert by a more) (λ x i. up x (in_insert a x more i)), ih)
        where
          up : (x : A) → (x ≡ a) ⊎ In x more → by b x ≡ less
          up x (inl k) = ap (by b) k ∙ is-less (by b a) e
          up x (inr j) = before-in b x more p.0 j
      go false e ih =
          let ab : by a b ≡ less = turned-less a b e (λ k. h (first k)) in
          ((ab, in-before a more (λ x i. t.onward a b x ab (before-in b x more p.0 i))), p)

  pub sorted-in : (x : A) (l : List A) → In x (sorted by l) → In x l
  unfolding sorted
  sorted-in x (a ∷ more) i = go (in_insert a x (sorted by more) i) (sorted-in x more)
    where
      go : (x ≡ a) ⊎ In x (sorted by more) → (In x (sorted by more) → In x more) → In x (a ∷ more)
      go (inl e) ih = first e
      go (inr j) ih = later (ih j)
  sorted-in x [] i = elim i [ ]

  pub in-sorted : (x : A) (l : List A) → In x l → In x (sorted by l)
  unfolding sorted
  in-sorted x (a ∷ more) (first e) = subst (λ (y : A). In y (insert by a (sorted by more))) (sym e) (insert-self a (sorted by more))
  in-sorted x (a ∷ more) (later i) = insert-keeps a x (sorted by more) (in-sorted x more i)
  in-sorted x [] x'' = elim x'' [ ]

  pub sorted-length : (l : List A) → length (sorted by l) ≡ length l
  unfolding sorted
  sorted-length [] = refl
  sorted-length (a ∷ more) = omega (arith, insert-length a (sorted by more), sorted-length more)

  pub sorted-increasing : (l : List A) → Distinct l → Increasing by (sorted by l)
  unfolding sorted
  sorted-increasing [] d = tt
  sorted-increasing (a ∷ more) d = insert-increasing a (sorted by more) (sorted-increasing more d.1) (λ i. d.0 (sorted-in a more i))

  -- the one increasing list of n elements, all of them of a list of n distinct ones
  pub sorted-only : (zs l : List A) → Distinct l → Increasing by zs → ((x : A) → In x zs → In x l) → length zs ≡ length l → zs ≡ sorted by l
  sorted-only zs l d p h e = (subset-same zs (sorted by l) p (sorted-increasing l d) (λ x i. in-sorted x l (h x i))).1 (e ∙ sym (sorted-length l))

  -- ---- the same elements in another order

  insert-arranges : (a : A) (l : List A) → Permᴰ (a ∷ l) (insert by a l)
  unfolding insert
  insert-arranges a [] = Permᴰ.cons refl Permᴰ.nil
  insert-arranges a (b ∷ more) = go (is_less (by b a)) (insert-arranges a more)
    where
      go : (o : Bool) → Permᴰ (a ∷ more) (insert by a more) → Permᴰ (a ∷ b ∷ more) (pick o (b ∷ insert by a more) (a ∷ b ∷ more))
      go true ih = Permᴰ.trans (Permᴰ.swap refl refl) (Permᴰ.cons refl ih)
      go false ih = Permᴰ.refl (a ∷ b ∷ more)

  pub sorted-arranges : (l : List A) → Permᴰ l (sorted by l)
  unfolding sorted
  sorted-arranges [] = Permᴰ.nil
  sorted-arranges (a ∷ more) = Permᴰ.trans (Permᴰ.cons refl (sorted-arranges more)) (insert-arranges a (sorted by more))

  -- the one increasing list of the elements of another
  pub arranged-only : (l zs : List A) → Distinct l → Permᴰ l zs → Increasing by zs → zs ≡ sorted by l
  arranged-only l zs d p i = sorted-only zs l d i (λ x k. in-arranged (Permᴰ.symm p) x k) (sym (length-arranged p))
