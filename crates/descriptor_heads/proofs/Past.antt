-- A head takes five bytes at least, and ends inside the file. Assumes nothing.
use Prim.Native.Nat.{ℕ, ◌+◌, ◌≤◌}
use mathlib.Core.Path.{◌≡◌, refl}
use mathlib.Core.List.{List}
use mathlib.Core.Bool.{Bool, true, false}
use lib.Dec.{leb}
use lib.ListN.{length}
use borrow.Author.Tests.{leb-true}
use native.Mathlib.Omega.{arith}
use Rattle.algebra.proofs.Inverse.{pick_inv}
use Rattle.algebra.specs.Reader.{Res, ok, refuse, Reader, then, pick, field, Judged, judged}
use Rattle.descriptor.specs.Reading.{Known, is, unknown, known, id, class, Sort, leaf, list, object, reference, array, sort_of, form_of, ref_value, column, column_type, version}
use Rattle.descriptor.proofs.Ends.{Accepts, yes, no, accepted, accepts-then, Past, lower, field_past, judged-past, id-past, class-past, column-past, leaf-takes, form-takes, ref-past}
use Rattle.descriptor_heads.specs.Heads.{Due, items, pairs, forms, columns, Opened, opens, item_head, bare, member_head, deepest, head_at, root_head}

module _ (s : List ℕ) where
  ended_at : {A : Type 0} (lo q : ℕ) (a : A) → lo ≤ q → q ≤ length s → Accepts (Past s lo) (ok a q)
  ended_at lo q a l h = yes a q (record { low = l; high = h })

  opens-past : (t v : ℕ) (sort : Sort) → sort_of t ≡ is sort → v ≤ length s → Accepts (Past s (v + 1)) (opens sort s v)
  opens-past t v (leaf p) e l = accepts-then (p s v) _ (leaf-takes t p e s v l) (λ u q h. ended_at (v + 1) q _ h.low h.high)
  opens-past t v list e l = accepts-then (field 4 s v) _ (field_past s 4 v l) (λ n q h. ended_at (v + 1) q _ (omega (arith, h.low)) h.high)
  opens-past t v object e l =
      accepts-then (class s v) _ (class-past s v l)
      (λ u q h. accepts-then (field 4 s q) _ (field_past s 4 q h.high) (λ n r w. ended_at (v + 1) r _ (omega (arith, h.low, w.low)) w.high))
  opens-past t v reference e l = accepts-then (field 4 s v) _ (field_past s 4 v l) (λ n q h. ended_at (v + 1) q _ (omega (arith, h.low)) h.high)
  opens-past t v array e l =
      accepts-then (field 4 s v) _ (field_past s 4 v l)
      (λ m p g. accepts-then (class s p) _ (class-past s p g.high)
      (λ u q h. accepts-then (field 4 s q) _ (field_past s 4 q h.high) (λ n r w. ended_at (v + 1) r _ (omega (arith, g.low, h.low, w.low)) w.high)))

  item-past : (d first at : ℕ) → at ≤ length s → Accepts (Past s (at + 5)) (item_head d first s at)
  unfolding item_head
  item-past d first at l = accepts-then (field 4 s at) _ (field_past s 4 at l) (λ t v h. go t v h _ (sort_of t) refl)
    where
      go : (t v : ℕ) → Past s (at + 4) t v → (g : (Due × ℕ) → ℕ → Opened) (x : Known Sort) → sort_of t ≡ x → Accepts (Past s (at + 5)) (known x at (λ sort. then {B = Opened} (opens sort s v) (λ o q. ok (g o q) q)))
      go t v h g (is sort) e = accepts-then (opens sort s v) _ (opens-past t v sort e h.high) (λ o q w. ended_at (at + 5) q _ (omega (arith, h.low, w.low)) w.high)
      go t v h g unknown e = no

  at-past : (d : ℕ) (c : Due) (at : ℕ) → at ≤ length s → Accepts (Past s (at + 5)) (member_head d c s at)
  unfolding member_head
  at-past d items at l = item-past d at at l
  at-past d pairs at l = accepts-then (id s at) _ (id-past s at l) (λ u q h. lower (at + 5) (q + 5) (omega (arith, h.low)) (item-past d at q h.high))
  at-past d forms at l = accepts-then (field 4 s at) _ (field_past s 4 at l) (λ t v h. go t v h (bare t at d v) (form_of t) refl)
    where
      go : (t v : ℕ) → Past s (at + 4) t v → (o : Opened) (x : Known (Reader Unit)) → form_of t ≡ x → Accepts (Past s (at + 5)) (known x at (λ r. then {B = Opened} (ref_value r s v) (λ u q. ok o q)))
      go t v h o (is r) e = accepts-then (ref_value r s v) _ (ref-past r (form-takes t r e) s v h.high) (λ u q w. ended_at (at + 5) q _ (omega (arith, h.low, w.low)) w.high)
      go t v h o unknown e = no
  at-past d (columns m) at l =
      let j : ℕ → Judged = column_type in
      accepts-then (id s at) _ (id-past s at l)
      (λ u q h. accepts-then (judged 4 j s q) _ (judged-past s 4 j q h.high)
      (λ t v x. accepts-then (column m s v) _ (column-past s m v x.high) (λ u r w. ended_at (at + 5) r _ (omega (arith, h.low, x.low, w.low)) w.high)))

  pub head-past : (d : ℕ) (c : Due) (at : ℕ) → at ≤ length s → Accepts (Past s (at + 5)) (head_at d c s at)
  unfolding head_at
  head-past d c at l = go (leb d deepest)
    where
      go : (b : Bool) → Accepts (Past s (at + 5)) (pick b (member_head d c s at) (refuse 10 at 0 0))
      go true = at-past d c at l
      go false = no

  pub root-past : Accepts (Past s 17) (root_head s 0)
  unfolding root_head
  root-past =
      let j : ℕ → Judged = version in
      accepts-then (judged 4 j s 0) _ (judged-past s 4 j 0 (omega arith))
      (λ v e g. accepts-then (class s e) _ (class-past s e g.high)
      (λ u q h. accepts-then (field 4 s q) _ (field_past s 4 q h.high) (λ n r w. ended_at 17 r _ (omega (arith, g.low, h.low, w.low)) w.high)))

-- ---- a head begins where it is read, at the depth that is said

abbrev pub Lies : ℕ → ℕ → Opened → ℕ → Type 0
Lies first d o q = (o.head.first ≡ first) × (o.head.depth ≡ d)

module _ (s : List ℕ) where
  item-lies : (d first at : ℕ) → Accepts (Lies first d) (item_head d first s at)
  unfolding item_head
  item-lies d first at = go (field 4 s at)
    where
      inner : (t v : ℕ) (m : Res (Due × ℕ)) → Accepts (Lies first d) (then m (λ o q. ok (record { head = record { kind = t; first = first; depth = d; value = v }; below = o.0; count = o.1 }) q))
      inner t v (ok o q) = yes _ q (refl, refl)
      inner t v (refuse x p r f) = no

      kept : (t v : ℕ) (x : Known Sort) → Accepts (Lies first d) (known x at (λ sort. then (opens sort s v) (λ o q. ok (record { head = record { kind = t; first = first; depth = d; value = v }; below = o.0; count = o.1 }) q)))
      kept t v (is sort) = inner t v (opens sort s v)
      kept t v unknown = no

      go : (m : Res ℕ) → Accepts (Lies first d) (then m (λ t v. known (sort_of t) at (λ sort. then (opens sort s v) (λ o q. ok (record { head = record { kind = t; first = first; depth = d; value = v }; below = o.0; count = o.1 }) q))))
      go (ok t v) = kept t v (sort_of t)
      go (refuse x p r f) = no

  bare-lies : (t v at d : ℕ) (m : Res Unit) → Accepts (Lies at d) (then m (λ u q. ok (bare t at d v) q))
  bare-lies t v at d (ok u q) = yes _ q (refl, refl)
  bare-lies t v at d (refuse x p r f) = no

  at_lies : (d : ℕ) (c : Due) (at : ℕ) → Accepts (Lies at d) (member_head d c s at)
  unfolding member_head
  at_lies d items at = item-lies d at at
  at_lies d pairs at = go (id s at)
    where
      go : (w : Res Unit) → Accepts (Lies at d) (then w (λ u e. item_head d at s e))
      go (ok u e) = item-lies d at e
      go (refuse x p r f) = no
  at_lies d forms at = go (field 4 s at)
    where
      kept : (t v : ℕ) (x : Known (Reader Unit)) → Accepts (Lies at d) (known x at (λ r. then (ref_value r s v) (λ u q. ok (bare t at d v) q)))
      kept t v (is r) = bare-lies t v at d (ref_value r s v)
      kept t v unknown = no

      go : (m : Res ℕ) → Accepts (Lies at d) (then m (λ t v. known (form_of t) at (λ r. then (ref_value r s v) (λ u q. ok (bare t at d v) q))))
      go (ok t v) = kept t v (form_of t)
      go (refuse x p r f) = no
  at_lies d (columns m) at = go (id s at)
    where
      kept : (w : Res ℕ) → Accepts (Lies at d) (then w (λ t v. then (column m s v) (λ u q. ok (bare t at d v) q)))
      kept (ok t v) = bare-lies t v at d (column m s v)
      kept (refuse x p r f) = no

      go : (w : Res Unit) → Accepts (Lies at d) (then w (λ u e. then (judged 4 column_type s e) (λ t v. then (column m s v) (λ u q. ok (bare t at d v) q))))
      go (ok u e) = kept (judged 4 column_type s e)
      go (refuse x p r f) = no

  -- a head that is accepted is not too deep
  pub head-inv : (d : ℕ) (c : Due) (at : ℕ) (o : Opened) (q : ℕ) → head_at d c s at ≡ ok o q → (d ≤ deepest) × (member_head d c s at ≡ ok o q) × (o.head.first ≡ at) × (o.head.depth ≡ d)
  unfolding head_at
  head-inv d c at o q e =
      let i = pick_inv (leb d deepest) (member_head d c s at) 10 at 0 0 e in
      let l = accepted (at_lies d c at) o q i.1 in
      (leb-true d deepest i.0, i.1, l.0, l.1)

-- ---- a head's value begins before its end

abbrev Valued : Opened → ℕ → Type 0
Valued o q = o.head.value ≤ q

module _ (s : List ℕ) where
  item-valued : (d first at : ℕ) → at ≤ length s → Accepts Valued (item_head d first s at)
  unfolding item_head
  item-valued d first at l = accepts-then (field 4 s at) _ (field_past s 4 at l) (λ t v h. go t v h (sort_of t) refl)
    where
      go : (t v : ℕ) → Past s (at + 4) t v → (x : Known Sort) → sort_of t ≡ x
          → Accepts Valued (known x at (λ sort. then (opens sort s v) (λ o q. ok (record { head = record { kind = t; first = first; depth = d; value = v }; below = o.0; count = o.1 }) q)))
      go t v h (is sort) e = accepts-then (opens sort s v) _ (opens-past s t v sort e h.high) (λ o q w. yes _ q (omega (arith, w.low)))
      go t v h unknown e = no

  at-valued : (d : ℕ) (c : Due) (at : ℕ) → at ≤ length s → Accepts Valued (member_head d c s at)
  unfolding member_head
  at-valued d items at l = item-valued d at at l
  at-valued d pairs at l = accepts-then (id s at) _ (id-past s at l) (λ u q h. item-valued d at q h.high)
  at-valued d forms at l = accepts-then (field 4 s at) _ (field_past s 4 at l) (λ t v h. go t v h (form_of t) refl)
    where
      go : (t v : ℕ) → Past s (at + 4) t v → (x : Known (Reader Unit)) → form_of t ≡ x → Accepts Valued (known x at (λ r. then (ref_value r s v) (λ u q. ok (bare t at d v) q)))
      go t v h (is r) e = accepts-then (ref_value r s v) _ (ref-past r (form-takes t r e) s v h.high) (λ u q w. yes _ q (omega (arith, w.low)))
      go t v h unknown e = no
  at-valued d (columns m) at l =
      let j : ℕ → Judged = column_type in
      accepts-then (id s at) _ (id-past s at l)
      (λ u q h. accepts-then (judged 4 j s q) _ (judged-past s 4 j q h.high) (λ t v x. accepts-then (column m s v) _ (column-past s m v x.high) (λ u r w. yes _ r (omega (arith, w.low)))))

  pub head-valued : (d : ℕ) (c : Due) (at : ℕ) → at ≤ length s → (o : Opened) (q : ℕ) → member_head d c s at ≡ ok o q → o.head.value ≤ q
  head-valued d c at l o q e = accepted (at-valued d c at l) o q e
