-- A row whose kind has fields alone was read from where its value begins to its end. Assumes nothing.
use Prim.Native.Nat.{ℕ, zero, suc, ◌+◌, ◌-◌}
use mathlib.Core.Path.{◌≡◌, refl, sym, ap, ◌∙◌}
use mathlib.Core.List.{List, [], ◌∷◌, ◌++◌}
use mathlib.Core.Bool.{Bool, true, false}
use lib.Dec.{eqb}
use lib.ListN.{length}
use borrow.Author.Tests.{eqb-true}
use native.Mathlib.Omega.{arith}
use Rattle.algebra.specs.Chars.{chars}
use Rattle.algebra.specs.Reader.{Res, ok, refuse, Reader, then, pick, field, judged}
use Rattle.algebra.proofs.Inverse.{then-inv, judged-inv, unless-fine}
use Rattle.descriptor.specs.Reading.{Known, is, unknown, known, beside, Sort, leaf, list, object, reference, array, sort_of, forms, form_of, id, class, Row, headed, plain, siblings, children, ref_value, ref_item, column, column_type, array_pair, array_of, keyed, list_of, object_of, value_of, item, version, root, descriptor}
use Rattle.descriptor.specs.scaffold.Leaves.{Leafed}
use Rattle.descriptor.proofs.Ends.{Accepts, yes, no, accepted, accepts, accepts-then}
use Rattle.descriptor.proofs.Rows.{of-root}

abbrev pub AllLeafed : List ℕ → List Row → Type 0
AllLeafed s [] = Unit {0}
AllLeafed s (r ∷ rs) = Leafed s r.kind r.value × AllLeafed s rs

both : (s : List ℕ) (rs qs : List Row) → AllLeafed s rs → AllLeafed s qs → AllLeafed s (rs ++ qs)
both s [] qs a b = b
both s (r ∷ rs) qs a b = (a.0, both s rs qs a.1 b)

-- ---- kinds

no-leaf : {p : Reader Unit} → unknown ≡ is (leaf p) → ⊥
no-leaf e = let z : ◌≡◌ {A = ℕ} 0 1 = cc in omega arith

same-sort : {x y : Sort} → is x ≡ is y → x ≡ y
same-sort e = cc

-- the forms of reference items are no types
form_type : (t : ℕ) (r : Reader Unit) → form_of t ≡ is r → sort_of t ≡ unknown
unfolding form_of sort_of
form_type t r e = go forms e (refl, (refl, (refl, (refl, (refl, (refl, (refl, tt)))))))
  where
    Alien : List (ℕ × Reader Unit) → Type 0
    Alien [] = Unit {0}
    Alien (c ∷ cs) = (sort_of c.0 ≡ unknown) × Alien cs

    go : (cs : List (ℕ × Reader Unit)) → beside cs t ≡ is r → Alien cs → sort_of t ≡ unknown
    go [] x a = let z : ◌≡◌ {A = ℕ} 0 1 = cc in absurd (omega arith)
    go (c ∷ cs) x a = at_key (eqb t c.0) refl x (λ y. go cs y a.1)
      where
        at_key : (b : Bool) → eqb t c.0 ≡ b → pick b (is c.1) (beside cs t) ≡ is r → (beside cs t ≡ is r → sort_of t ≡ unknown) → sort_of t ≡ unknown
        at_key true f y ih = ap sort_of (eqb-true t c.0 f) ∙ a.0
        at_key false f y ih = ih y

-- a kind that is no type
alien : (s : List ℕ) (t v : ℕ) → sort_of t ≡ unknown → Leafed s t v
alien s t v e = record { reads = λ p f. absurd (no-leaf (sym e ∙ f)) }

-- a kind with members
holder : (s : List ℕ) (t v : ℕ) (x : Sort) → sort_of t ≡ is x → ((p : Reader Unit) → x ≡ leaf p → ⊥) → Leafed s t v
holder s t v x e n = record { reads = λ p f. absurd (n p (same-sort (sym e ∙ f))) }

list-leaf : {p : Reader Unit} → list ≡ leaf p → ⊥
list-leaf e = let z : ◌≡◌ {A = ℕ} 0 1 = cc in omega arith

object-leaf : {p : Reader Unit} → object ≡ leaf p → ⊥
object-leaf e = let z : ◌≡◌ {A = ℕ} 0 1 = cc in omega arith

reference-leaf : {p : Reader Unit} → reference ≡ leaf p → ⊥
reference-leaf e = let z : ◌≡◌ {A = ℕ} 0 1 = cc in omega arith

array-leaf : {p : Reader Unit} → array ≡ leaf p → ⊥
array-leaf e = let z : ◌≡◌ {A = ℕ} 0 1 = cc in omega arith

-- a kind with fields alone, which were read
fields_read : (s : List ℕ) (t v q : ℕ) (p : Reader Unit) (rs : List Row) → sort_of t ≡ is (leaf p) → plain p s v ≡ ok rs q → Leafed s t v
fields_read s t v q p rs e h = record {
  reads = λ p' f.
      let i = then-inv (p s v) _ h in
      let z : leaf p ≡ leaf p' = same-sort (sym e ∙ f) in
      let w : p ≡ p' = inner z in
      (i.1, ap (λ (r : Reader Unit). r s v) (sym w) ∙ i.2);
}
  where
    inner : {a b : Reader Unit} → leaf a ≡ leaf b → a ≡ b
    inner e = cc

-- ---- readers of members

module _ (s : List ℕ) where
  abbrev All : List Row → ℕ → Type 0
  All rs q = AllLeafed s rs

  headed-all : (t d p first v : ℕ) (m : Res (List Row)) → ((rs : List Row) (q : ℕ) → m ≡ ok rs q → Leafed s t v) → Accepts All m → Accepts All (headed t d p first v m)
  headed-all t d p first v (ok rs q) own (yes b r h) =
      let all : AllLeafed s (record { kind = t; parent = p; first = first; size = q - first; depth = 32 - d; value = v } ∷ rs) = (own rs q refl, h) in
      yes (record { kind = t; parent = p; first = first; size = q - first; depth = 32 - d; value = v } ∷ rs) q all
  headed-all t d p first v (refuse x y r f) own h = no

  plain-all : (p : Reader Unit) (v : ℕ) → Accepts All (plain p s v)
  plain-all p v = go (p s v)
    where
      go : (m : Res Unit) → Accepts All (then m (λ u q. ok [] q))
      go (ok u q) = yes [] q tt
      go (refuse x y r f) = no

  siblings-all : (f : ℕ → Reader (List Row)) → ((j q : ℕ) → Accepts All (f j s q)) → (n k at : ℕ) → Accepts All (siblings f n k s at)
  unfolding siblings
  siblings-all f g zero k at = yes [] at tt
  siblings-all f g (suc n) k at =
      accepts-then (f k s at) _ (g k at) (λ rs q h. accepts-then (siblings f n (k + length rs) s q) _ (siblings-all f g n (k + length rs) q) (λ qs e w. yes (rs ++ qs) e (both s rs qs h w)))

  any : {A : Type 0} (m : Res A) → Accepts (λ a q. Unit {0}) m
  any m = accepts m (λ a q e. tt)

  children-all : (f : ℕ → Reader (List Row)) → ((j q : ℕ) → Accepts All (f j s q)) → (k at : ℕ) → Accepts All (children f k s at)
  unfolding children
  children-all f g k at = accepts-then (field 4 s at) _ (any (field 4 s at)) (λ n q h. siblings-all f g n (k + 1) q)

  ref-all : (left p k at : ℕ) → Accepts All (ref_item left p k s at)
  unfolding ref_item
  ref-all zero p k at = no
  ref-all (suc d) p k at = accepts-then (field 4 s at) _ (any (field 4 s at)) (λ t v h. form t v (form_of t) refl)
    where
      form : (t v : ℕ) (f : Known (Reader Unit)) → form_of t ≡ f → Accepts All (known f at (λ r. headed t d p at v (plain (ref_value r) s v)))
      form t v (is r) x = headed-all t d p at v (plain (ref_value r) s v) (λ rs q e. alien s t v (form_type t r x)) (plain-all (ref_value r) v)
      form t v unknown x = no

  column-alien : sort_of (chars "UnFl") ≡ unknown
  unfolding sort_of
  column-alien = refl

  array-all : (m left p k at : ℕ) → Accepts All (array_pair m left p k s at)
  unfolding array_pair
  array-all m zero p k at = no
  array-all m (suc d) p k at =
      accepts-then (id s at) _ (any (id s at))
      (λ u e h. accepts-then (judged 4 column_type s e) _ (accepts (judged 4 column_type s e) (λ t v x. eqb-true t (chars "UnFl") (unless-fine (eqb t (chars "UnFl")) _ (judged-inv 4 s e column_type x).3)))
      (λ t v x. headed-all t d p at v (plain (column m) s v) (λ rs q y. alien s t v (ap sort_of x ∙ column-alien)) (plain-all (column m) v)))

  keyed-all : (f : ℕ → ℕ → ℕ → Reader (List Row)) → ((p k first at : ℕ) → Accepts All (f p k first s at)) → (d p k at : ℕ) → Accepts All (keyed f d p k s at)
  unfolding keyed
  keyed-all f g zero p k at = no
  keyed-all f g (suc d) p k at = accepts-then (id s at) _ (any (id s at)) (λ u e h. g p k at e)

  object-all : (f : ℕ → ℕ → ℕ → Reader (List Row)) → ((p k first at : ℕ) → Accepts All (f p k first s at)) → (d k at : ℕ) → Accepts All (object_of f d k s at)
  unfolding object_of
  object-all f g d k at = accepts-then (class s at) _ (any (class s at)) (λ u e h. children-all (keyed f d k) (keyed-all f g d k) k e)

  arrays-all : (d k at : ℕ) → Accepts All (array_of d k s at)
  unfolding array_of
  arrays-all d k at = accepts-then (field 4 s at) _ (any (field 4 s at)) (λ m q h. accepts-then (class s q) _ (any (class s q)) (λ u e w. children-all (array_pair m d k) (array-all m d k) k e))

  value-all : (f : ℕ → ℕ → ℕ → Reader (List Row)) → ((p k first at : ℕ) → Accepts All (f p k first s at)) → (d t p k first v : ℕ) (x : Sort) → sort_of t ≡ is x
      → Accepts All (headed t d p first v (value_of f d k x s v))
  value-all f g d t p k first v (leaf r) e = headed-all t d p first v (plain r s v) (λ rs q h. fields_read s t v q r rs e h) (plain-all r v)
  value-all f g d t p k first v list e = headed-all t d p first v (list_of f k s v) (λ rs q h. holder s t v list e (λ p. list-leaf)) (children-all (λ j s q. f k j q s q) (λ j q. g k j q q) k v)
  value-all f g d t p k first v object e = headed-all t d p first v (object_of f d k s v) (λ rs q h. holder s t v object e (λ p. object-leaf)) (object-all f g d k v)
  value-all f g d t p k first v reference e = headed-all t d p first v (children (ref_item d k) k s v) (λ rs q h. holder s t v reference e (λ p. reference-leaf)) (children-all (ref_item d k) (ref-all d k) k v)
  value-all f g d t p k first v array e = headed-all t d p first v (array_of d k s v) (λ rs q h. holder s t v array e (λ p. array-leaf)) (arrays-all d k v)

  item-all : (left p k first at : ℕ) → Accepts All (item left p k first s at)
  unfolding item
  item-all zero p k first at = no
  item-all (suc d) p k first at =
      let ih : (p k first at : ℕ) → Accepts All (item d p k first s at) = item-all d in
      accepts-then (field 4 s at) _ (any (field 4 s at)) (λ t v h. sorted ih t v (sort_of t) refl)
    where
      sorted : ((p k first at : ℕ) → Accepts All (item d p k first s at)) → (t v : ℕ) (x : Known Sort) → sort_of t ≡ x
          → Accepts All (known x at (λ sort. headed t d p first v (value_of (item d) d k sort s v)))
      sorted ih t v (is x) e = value-all (item d) ih d t p k first v x e
      sorted ih t v unknown e = no

  object-sorted : sort_of (chars "Objc") ≡ is object
  unfolding sort_of
  object-sorted = refl

  root-all : Accepts All (root s 0)
  unfolding root
  root-all =
      accepts-then (judged 4 version s 0) _ (any (judged 4 version s 0))
      (λ v e h. headed-all (chars "Objc") 32 0 0 e (object_of (item 32) 32 0 s e) (λ rs q x. holder s (chars "Objc") e object object-sorted (λ p. object-leaf)) (object-all (item 32) (item-all 32) 32 0 e))

  pub rows-leafed : (rs : List Row) (q : ℕ) → descriptor s ≡ ok rs q → AllLeafed s rs
  rows-leafed rs q e = accepted root-all rs q (of-root s rs q e).1
