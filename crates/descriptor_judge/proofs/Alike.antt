-- The parent's row number and the row's own change no count of rows. Assumes nothing.
use Prim.Native.Nat.{ℕ, zero, suc, ◌+◌}
use mathlib.Core.Path.{◌≡◌, refl, ap}
use mathlib.Core.List.{List, [], ◌++◌}
use mathlib.Core.Bool.{Bool, true, false}
use native.Mathlib.Omega.{arith}
use lib.ListN.{length, length-append}
use Rattle.algebra.specs.Reader.{Res, ok, refuse, Reader, then, field, judged}
use Rattle.descriptor.specs.Reading.{Known, is, unknown, known, Sort, leaf, list, object, reference, array, sort_of, form_of, id, class, Row, headed, plain, siblings, children, ref_value, ref_item, column, column_type, array_pair, array_of, Items, keyed, object_of, value_of, item}
use Rattle.descriptor_judge.specs.scaffold.Cycle.{member_of}
use Rattle.descriptor_judge.specs.scaffold.Counting.{walked}

-- as many rows up to the same place, or the same refusal
pub data Alike : Res (List Row) → Res (List Row) → Type 0 where
  rows : (rs qs : List Row) (q : ℕ) → length rs ≡ length qs → Alike (ok rs q) (ok qs q)
  refusal : {x p r f : ℕ} → Alike (refuse x p r f) (refuse x p r f)

pub alike-walked : {m n : Res (List Row)} → Alike m n → walked m ≡ walked n
alike-walked (rows rs qs q e) = ap (λ (k : ℕ). ok k q) e
alike-walked refusal = refl

alike_self : (m : Res (List Row)) → Alike m m
alike_self (ok rs q) = rows rs rs q refl
alike_self (refuse x p r f) = refusal

alike-after : {A : Type 0} (m : Res A) (f g : A → ℕ → Res (List Row)) → ((a : A) (q : ℕ) → Alike (f a q) (g a q)) → Alike (then m f) (then m g)
alike-after (ok a q) f g h = h a q
alike-after (refuse x p r c) f g h = refusal

alike_then : {m n : Res (List Row)} (f g : List Row → ℕ → Res (List Row)) → Alike m n → ((rs qs : List Row) (q : ℕ) → length rs ≡ length qs → Alike (f rs q) (g qs q)) → Alike (then m f) (then n g)
alike_then f g (rows rs qs q e) h = h rs qs q e
alike_then f g refusal h = refusal

alike-headed : (t d p p' first v : ℕ) {m n : Res (List Row)} → Alike m n → Alike (headed t d p first v m) (headed t d p' first v n)
alike-headed t d p p' first v h = alike_then _ _ h (λ rs qs q e. rows _ _ q (ap suc e))

module _ (s : List ℕ) where
  -- readers of a member to which its row number is nothing
  abbrev pub Free : (ℕ → Reader (List Row)) → (ℕ → Reader (List Row)) → Type 0
  Free f g = (j k q : ℕ) → Alike (f j s q) (g k s q)

  pub alike-siblings : (f g : ℕ → Reader (List Row)) → Free f g → (n j k at : ℕ) → Alike (siblings f n j s at) (siblings g n k s at)
  unfolding siblings
  alike-siblings f g h zero j k at = alike_self (ok [] at)
  alike-siblings f g h (suc n) j k at =
      alike_then _ _ (h j k at) (λ rs qs q e.
      alike_then _ _ (alike-siblings f g h n (j + length rs) (k + length qs) q) (λ us vs r i.
      rows (rs ++ us) (qs ++ vs) r (omega (arith, length-append rs us, length-append qs vs, e, i))))

  alike-children : (f g : ℕ → Reader (List Row)) → Free f g → (j k at : ℕ) → Alike (children f j s at) (children g k s at)
  unfolding children
  alike-children f g h j k at = alike-after (field 4 s at) _ _ (λ n q. alike-siblings f g h n (j + 1) (k + 1) q)

  pub alike-ref : (d p p' : ℕ) → Free (ref_item d p) (ref_item d p')
  unfolding ref_item
  alike-ref zero p p' j k q = refusal
  alike-ref (suc d) p p' j k q = alike-after (field 4 s q) _ _ (λ t v. go t v (form_of t))
    where
      go : (t v : ℕ) (x : Known (Reader Unit)) → Alike (known x q (λ r. headed t d p q v (plain (ref_value r) s v))) (known x q (λ r. headed t d p' q v (plain (ref_value r) s v)))
      go t v (is r) = alike-headed t d p p' q v (alike_self (plain (ref_value r) s v))
      go t v unknown = refusal

  pub alike-array : (m d p p' : ℕ) → Free (array_pair m d p) (array_pair m d p')
  unfolding array_pair
  alike-array m zero p p' j k q = refusal
  alike-array m (suc d) p p' j k q = alike-after (id s q) _ _ (λ u e. alike-after (judged 4 column_type s e) _ _ (λ t v. alike-headed t d p p' q v (alike_self (plain (column m) s v))))

  -- the same of a reader of items
  abbrev pub FreeItems : Items → Type 0
  FreeItems f = (p p' j k first q : ℕ) → Alike (f p j first s q) (f p' k first s q)

  pub alike-keyed : (f : Items) → FreeItems f → (d p p' : ℕ) → Free (keyed f d p) (keyed f d p')
  unfolding keyed
  alike-keyed f h zero p p' j k q = refusal
  alike-keyed f h (suc d) p p' j k q = alike-after (id s q) _ _ (λ u e. h p p' j k q e)

  alike-value : (f : Items) → FreeItems f → (d j k at : ℕ) (sort : Sort) → Alike (value_of f d j sort s at) (value_of f d k sort s at)
  unfolding object_of array_of
  alike-value f h d j k at (leaf p) = alike_self (plain p s at)
  alike-value f h d j k at list = alike-children _ _ (λ i l q. h j k i l q q) j k at
  alike-value f h d j k at object = alike-after (class s at) _ _ (λ c q. alike-children (keyed f d j) (keyed f d k) (alike-keyed f h d j k) j k q)
  alike-value f h d j k at reference = alike-children (ref_item d j) (ref_item d k) (alike-ref d j k) j k at
  alike-value f h d j k at array = alike-after (field 4 s at) _ _ (λ m r. alike-after (class s r) _ _ (λ c q. alike-children (array_pair m d j) (array_pair m d k) (alike-array m d j k) j k q))

  pub alike-item : (d : ℕ) → FreeItems (item d)
  unfolding item
  alike-item zero p p' j k first q = refusal
  alike-item (suc d) p p' j k first q = alike-after (field 4 s q) _ _ (λ t v. go (alike-item d) t v (sort_of t))
    where
      go : FreeItems (item d) → (t v : ℕ) (x : Known Sort)
          → Alike (known x q (λ sort. headed t d p first v (value_of (item d) d j sort s v))) (known x q (λ sort. headed t d p' first v (value_of (item d) d k sort s v)))
      go ih t v (is sort) = alike-headed t d p p' first v (alike-value (item d) ih d j k v sort)
      go ih t v unknown = refusal

  -- members of a list or an object
  pub alike-member : (b : Bool) (d p : ℕ) → Free (member_of b d p) (member_of b d p)
  alike-member true d p = alike-keyed (item d) (alike-item d) d p p
  alike-member false d p = λ j k q. alike-item d p p j k q q
