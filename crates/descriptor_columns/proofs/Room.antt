-- Room in several runs. Assumes nothing.
use Prim.Native.Nat.{ℕ, ◌≤◌, ◌<◌}
use mathlib.Core.Path.{◌≡◌, refl, sym, ap, ◌∙◌}
use mathlib.Core.List.{List, ◌∷◌}
use mathlib.Core.Bool.{Bool, true, false}
use lib.Dec.{leb}
use lib.ListN.{length}
use borrow.Author.Tests.{leb-true, le-leb, lt-leb}
use native.Mathlib.Omega.{arith}
use Rattle.algebra.specs.Reader.{pick}
use Rattle.descriptor_columns.specs.Filled.{fits}

pub room-no : (n : ℕ) (c : List ℕ) (cs : List (List ℕ)) → length c < n → false ≡ fits n (c ∷ cs)
room-no n c cs l = sym (ap (λ (b : Bool). pick b (fits n cs) false) (lt-leb n (length c) l))

pub room-on : (n : ℕ) (c : List ℕ) (cs : List (List ℕ)) (b : Bool) → n ≤ length c → b ≡ fits n cs → b ≡ fits n (c ∷ cs)
room-on n c cs b l e = e ∙ sym (ap (λ (b : Bool). pick b (fits n cs) false) (le-leb n (length c) l))

pub room-inv : (n : ℕ) (c : List ℕ) (cs : List (List ℕ)) → true ≡ fits n (c ∷ cs) → (n ≤ length c) × (true ≡ fits n cs)
room-inv n c cs e = go (leb n (length c)) refl e
  where
    go : (b : Bool) → leb n (length c) ≡ b → true ≡ pick b (fits n cs) false → (n ≤ length c) × (true ≡ fits n cs)
    go true x y = (leb-true n (length c) x, y)
    go false x y = let z : ◌≡◌ {A = ℕ} 0 1 = cc in absurd (omega (arith, z))
