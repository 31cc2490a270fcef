-- A `match` on a tag, held to a table: proved once for every such function. Assumes nothing.
use Prim.Native.Nat.{ℕ}
use mathlib.Core.Path.{◌≡◌, refl, sym, ap, ◌∙◌, subst}
use mathlib.Core.List.{List, [], ◌∷◌}
use mathlib.Core.Bool.{Bool, true, false}
use mathlib.Core.Logic.{inl, inr, ⊎_elim}
use lib.Dec.{T, leb, eqb}
use borrow.Author.Tests.{eq-eqb, eqb-true, ne_eqb}
use types.Run.{OneOf}
use Rattle.algebra.specs.Reader.{pick}
use Rattle.algebra.specs.Refusal.{one_of}
use Rattle.algebra.proofs.Placed.{all_of, all_one}
use Rattle.descriptor.specs.Reading.{unknown, beside}

-- `g` has the value v at each of the keys
abbrev pub Each : {A : Type 0} → (ℕ → A) → A → List ℕ → Type 0
Each g v [] = Unit {0}
Each g v (k ∷ ks) = (g k ≡ v) × Each g v ks

-- so it has it at a number that is one of them
pub at-keys : {A : Type 0} (g : ℕ → A) (v : A) (ks : List ℕ) (x : ℕ) → Each g v ks → OneOf ks x → g x ≡ v
at-keys g v [] x e h = absurd h
at-keys g v (k ∷ []) x e h = ap g h ∙ e.0
at-keys g v (k ∷ (j ∷ ks)) x e h = ⊎_elim (λ q. ap g q ∙ e.0) (λ q. at-keys g v (j ∷ ks) x e.1 q) h

one-of : (ks : List ℕ) (x : ℕ) → one_of ks x ≡ true → OneOf ks x
one-of [] x h = absurd (subst T (sym h) tt)
one-of (k ∷ []) x h = go (eqb x k) refl
  where
    go : (b : Bool) → eqb x k ≡ b → x ≡ k
    go true e = eqb-true x k e
    go false e = absurd (subst T (sym (rw e at h)) tt)
one-of (k ∷ (j ∷ ks)) x h = go (eqb x k) refl (one-of (j ∷ ks) x)
  where
    go : (b : Bool) → eqb x k ≡ b → (one_of (j ∷ ks) x ≡ true → OneOf (j ∷ ks) x) → OneOf (k ∷ (j ∷ ks)) x
    go true e ih = inl (eqb-true x k e)
    go false e ih = inr (ih (rw e at h))

-- a test that is one arm of all keys of a list, and one arm for all else
is_key : (ks : List ℕ) (x : ℕ) → OneOf ks x → one_of ks x ≡ true
is_key [] x h = absurd h
is_key (k ∷ []) x h = rw (eq-eqb x k h)
is_key (k ∷ (j ∷ ks)) x h = ⊎_elim (λ q. ap (λ (b : Bool). pick b true (one_of (j ∷ ks) x)) (eq-eqb x k q)) (λ q. either (eqb x k) (is_key (j ∷ ks) x q)) h
  where
    either : (b : Bool) → one_of (j ∷ ks) x ≡ true → pick b true (one_of (j ∷ ks) x) ≡ true
    either true e = refl
    either false e = e

-- the keys of an arm are in ascending order
abbrev put : ℕ → List ℕ → List ℕ
put k [] = k ∷ []
put k (j ∷ ks) = pick (leb k j) (k ∷ j ∷ ks) (j ∷ put k ks)

abbrev pub ascending : List ℕ → List ℕ
ascending [] = []
ascending (k ∷ ks) = put k (ascending ks)

-- so it is the test of a table that has the same keys, in whatever order
pub key_in : (ks ms : List ℕ) → all_of ks ms ≡ true → (x : ℕ) → OneOf ks x → one_of ms x ≡ true
key_in ks ms h x o = all_one ks ms h x (is_key ks x o)

pub key-out : (ks ms : List ℕ) → all_of ms ks ≡ true → (x : ℕ) → (OneOf ks x → ⊥) → one_of ms x ≡ false
key-out ks ms h x n = go (one_of ms x) refl
  where
    go : (b : Bool) → one_of ms x ≡ b → b ≡ false
    go true e = absurd (n (one-of ks x (all_one ms ks h x e)))
    go false e = refl

-- x is in none of the lists
abbrev pub None : List (List ℕ) → ℕ → Type 0
None [] x = Unit {0}
None (ks ∷ kss) x = (OneOf ks x → ⊥) × None kss x

abbrev pub in_some : List (List ℕ) → ℕ → Bool
in_some [] k = false
in_some (ks ∷ kss) k = pick (one_of ks k) true (in_some kss k)

not_key : (kss : List (List ℕ)) (x : ℕ) → None kss x → T (in_some kss x) → ⊥
not_key [] x n h = h
not_key (ks ∷ kss) x n h = go (one_of ks x) refl (not_key kss x n.1)
  where
    go : (b : Bool) → one_of ks x ≡ b → (T (in_some kss x) → ⊥) → ⊥
    go true e ih = n.0 (one-of ks x e)
    go false e ih = ih (rw e at h)

abbrev pub covered : {A : Type 0} → List (List ℕ) → List (ℕ × A) → Bool
covered kss [] = true
covered kss (c ∷ cs) = pick (in_some kss c.0) (covered kss cs) false

-- a tag that is none of the keys of a table that the lists cover is unknown
pub past-keys : {A : Type 0} (kss : List (List ℕ)) (cs : List (ℕ × A)) (x : ℕ) → T (covered kss cs) → None kss x → beside cs x ≡ unknown
past-keys kss [] x t n = refl
past-keys kss (c ∷ cs) x t n = go (in_some kss c.0) refl t (past-keys kss cs x)
  where
    go : (b : Bool) → in_some kss c.0 ≡ b → T (pick b (covered kss cs) false) → (T (covered kss cs) → None kss x → beside cs x ≡ unknown) → beside (c ∷ cs) x ≡ unknown
    go true e u ih =
        let ne : eqb x c.0 ≡ false = ne_eqb x c.0 (λ q. not_key kss x n (subst T (sym (ap (in_some kss) q ∙ e)) tt)) in
        rw ne (ih u n)
    go false e u ih = absurd u
