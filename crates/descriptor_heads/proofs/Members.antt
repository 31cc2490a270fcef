-- The recursive reader of one member reads its head, and then its children. Assumes nothing.
use Prim.Native.Nat.{ℕ, suc, ◌+◌, ◌-◌}
use mathlib.Core.Path.{◌≡◌, refl, ap}
use mathlib.Core.List.{List, [], ◌∷◌}
use Rattle.algebra.specs.Reader.{Res, ok, refuse, Reader, then, field, judged}
use Rattle.descriptor.specs.Reading.{Known, is, unknown, known, id, class, Sort, leaf, list, object, reference, array, sort_of, form_of, Row, headed, plain, siblings, children, ref_value, ref_item, column, column_type, array_pair, array_of, keyed, object_of, value_of, item, pair}
use Rattle.descriptor_heads.specs.Heads.{Due, items, pairs, forms, columns, Head, Opened, opens, item_head, bare, member_head}

-- the recursive reader of one member, with `left` levels left
abbrev pub member : Due → ℕ → ℕ → ℕ → Reader (List Row)
member items left p k s at = item left p k at s at
member pairs left p k s at = pair left p k s at
member forms left p k s at = ref_item left p k s at
member (columns m) left p k s at = array_pair m left p k s at

-- the row of a head that ends at e
abbrev pub row_at : Head → ℕ → ℕ → Row
row_at h p e = record { kind = h.kind; parent = p; first = h.first; size = e - h.first; depth = h.depth; value = h.value }

-- a head's row with those of its children, which begin at q
abbrev pub filled_out : List ℕ → ℕ → ℕ → ℕ → Opened → ℕ → Res (List Row)
filled_out s d p k h q = then (siblings (member h.below d k) h.count (k + 1) s q) (λ rs e. ok (row_at h.head p e ∷ rs) e)

-- a head, from what opens its value
abbrev made : ℕ → ℕ → ℕ → ℕ → (Due × ℕ) → ℕ → Res Opened
made t first d v o q = ok (record { head = record { kind = t; first = first; depth = d; value = v }; below = o.0; count = o.1 }) q

module _ (s : List ℕ) (d p k : ℕ) where
  -- what was read of a value before its count of children
  counted : (t first v : ℕ) (c : Due) (f : ℕ → Reader (List Row)) (m : Res ℕ) → f ≡ member c d k
      → headed t d p first v (then m (λ n q. siblings f n (k + 1) s q)) ≡ then (then (then {B = Due × ℕ} m (λ n q. ok (c, n) q)) (made t first (32 - d) v)) (filled_out s d p k)
  counted t first v c f (ok n q) e = ap (λ (g : ℕ → Reader (List Row)). headed t d p first v (siblings g n (k + 1) s q)) e
  counted t first v c f (refuse x y r g) e = refl

  bared : (t first v : ℕ) (m : Res Unit) → headed t d p first v (then m (λ u q. ok [] q)) ≡ then (then (then {B = Due × ℕ} m (λ u q. ok (items, 0) q)) (made t first (32 - d) v)) (filled_out s d p k)
  unfolding siblings
  bared t first v (ok u q) = refl
  bared t first v (refuse x y r f) = refl

  -- an item's value: what opens it, and its children
  sorted : (t first v : ℕ) (sort : Sort) → headed t d p first v (value_of (item d) d k sort s v) ≡ then (then (opens sort s v) (made t first (32 - d) v)) (filled_out s d p k)
  unfolding children object_of array_of
  sorted t first v (leaf r) = bared t first v (r s v)
  sorted t first v list = counted t first v items (λ j s q. item d k j q s q) (field 4 s v) refl
  sorted t first v object = go (class s v)
    where
      go : (m : Res Unit) → headed t d p first v (then m (λ c q. then (field 4 s q) (λ n e. siblings (keyed (item d) d k) n (k + 1) s e)))
          ≡ then (then (then {B = Due × ℕ} m (λ c q. then {B = Due × ℕ} (field 4 s q) (λ n e. ok (pairs, n) e))) (made t first (32 - d) v)) (filled_out s d p k)
      go (ok c q) = counted t first v pairs (keyed (item d) d k) (field 4 s q) refl
      go (refuse x y r f) = refl
  sorted t first v reference = counted t first v forms (ref_item d k) (field 4 s v) refl
  sorted t first v array = go (field 4 s v)
    where
      inner : (m : ℕ) (u : Res Unit) → headed t d p first v (then u (λ c q. then (field 4 s q) (λ n e. siblings (array_pair m d k) n (k + 1) s e)))
          ≡ then (then (then {B = Due × ℕ} u (λ c q. then {B = Due × ℕ} (field 4 s q) (λ n e. ok (columns m, n) e))) (made t first (32 - d) v)) (filled_out s d p k)
      inner m (ok c q) = counted t first v (columns m) (array_pair m d k) (field 4 s q) refl
      inner m (refuse x y r f) = refl

      go : (w : Res ℕ) → headed t d p first v (then w (λ m r. then (class s r) (λ c q. then (field 4 s q) (λ n e. siblings (array_pair m d k) n (k + 1) s e))))
          ≡ then (then (then {B = Due × ℕ} w (λ m r. then {B = Due × ℕ} (class s r) (λ c q. then {B = Due × ℕ} (field 4 s q) (λ n e. ok (columns m, n) e)))) (made t first (32 - d) v)) (filled_out s d p k)
      go (ok m q) = inner m (class s q)
      go (refuse x y r f) = refl

  -- an item, from its type on
  itemed : (first at : ℕ) → item (suc d) p k first s at ≡ then (item_head (32 - d) first s at) (filled_out s d p k)
  unfolding item item_head
  itemed first at = go (field 4 s at)
    where
      kept : (t v : ℕ) (x : Known Sort) → known x at (λ sort. headed t d p first v (value_of (item d) d k sort s v))
          ≡ then (known x at (λ sort. then (opens sort s v) (made t first (32 - d) v))) (filled_out s d p k)
      kept t v (is sort) = sorted t first v sort
      kept t v unknown = refl

      go : (m : Res ℕ) → then m (λ t v. known (sort_of t) at (λ sort. headed t d p first v (value_of (item d) d k sort s v)))
          ≡ then (then m (λ t v. known (sort_of t) at (λ sort. then (opens sort s v) (made t first (32 - d) v)))) (filled_out s d p k)
      go (ok t v) = kept t v (sort_of t)
      go (refuse x y r f) = refl

  -- a row with no child
  plainly : (t first v : ℕ) (m : Res Unit) → headed t d p first v (then m (λ u q. ok [] q)) ≡ then (then m (λ u q. ok (bare t first (32 - d) v) q)) (filled_out s d p k)
  unfolding siblings
  plainly t first v (ok u q) = refl
  plainly t first v (refuse x y r f) = refl

  -- any member
  pub headed-then : (c : Due) (at : ℕ) → member c (suc d) p k s at ≡ then (member_head (32 - d) c s at) (filled_out s d p k)
  unfolding member_head keyed ref_item array_pair
  headed-then items at = itemed at at
  headed-then pairs at = go (id s at)
    where
      go : (m : Res Unit) → then m (λ u e. item (suc d) p k at s e) ≡ then (then m (λ u e. item_head (32 - d) at s e)) (filled_out s d p k)
      go (ok u e) = itemed at e
      go (refuse x y r f) = refl
  headed-then forms at = go (field 4 s at)
    where
      kept : (t v : ℕ) (x : Known (Reader Unit)) → known x at (λ r. headed t d p at v (plain (ref_value r) s v)) ≡ then (known x at (λ r. then (ref_value r s v) (λ u q. ok (bare t at (32 - d) v) q))) (filled_out s d p k)
      kept t v (is r) = plainly t at v (ref_value r s v)
      kept t v unknown = refl

      go : (m : Res ℕ) → then m (λ t v. known (form_of t) at (λ r. headed t d p at v (plain (ref_value r) s v)))
          ≡ then (then m (λ t v. known (form_of t) at (λ r. then (ref_value r s v) (λ u q. ok (bare t at (32 - d) v) q)))) (filled_out s d p k)
      go (ok t v) = kept t v (form_of t)
      go (refuse x y r f) = refl
  headed-then (columns m) at = go (id s at)
    where
      inner : (w : Res ℕ) → then w (λ t v. headed t d p at v (plain (column m) s v)) ≡ then (then w (λ t v. then (column m s v) (λ u q. ok (bare t at (32 - d) v) q))) (filled_out s d p k)
      inner (ok t v) = plainly t at v (column m s v)
      inner (refuse x y r f) = refl

      go : (w : Res Unit) → then w (λ u e. then (judged 4 column_type s e) (λ t v. headed t d p at v (plain (column m) s v)))
          ≡ then (then w (λ u e. then (judged 4 column_type s e) (λ t v. then (column m s v) (λ u q. ok (bare t at (32 - d) v) q)))) (filled_out s d p k)
      go (ok u e) = inner (judged 4 column_type s e)
      go (refuse x y r f) = refl
