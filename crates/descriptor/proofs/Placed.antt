-- A refused descriptor has one of the numbers that descriptors give, and a place of the file. Assumes nothing.
use Prim.Native.Nat.{ℕ, zero, suc, ◌+◌, ◌≤◌}
use mathlib.Core.Path.{◌≡◌, refl}
use mathlib.Core.List.{List}
use lib.ListN.{length}
use lib.Dec.{leb, eqb}
use lib.Ieee.{binary64, of_bits}
use lib.Ieee.Scale.{finite}
use native.Mathlib.Omega.{arith}
use Rattle.algebra.specs.Chars.{chars}
use Rattle.algebra.specs.Reader.{Res, Reader, refuse, pick, field, body, judged, each}
use Rattle.algebra.specs.Refusal.{Of, among, Placed, ends, fails, Places}
use Rattle.algebra.proofs.Placed.{unless-numbered, refusal-placed, placed-then, placed-rule, placed-done, field-placed, body-placed, judged-placed, ended-placed, each_placed, limited-placed}
use Rattle.descriptor.specs.Reading.{Known, is, unknown, known, skip, id, shut, closing, unicode, class, boolean, flag, bits, double, enumerated, raw_bytes, is_unit, is_array_unit, unit, array_unit, unit_double, Sort, leaf, list, object, reference, array, types, sort_of, forms, form_of, Row, headed, plain, siblings, children, ref_value, ref_item, doubles, column, column_type, array_pair, array_of, keyed, object_of, value_of, item, version, root, whole, descriptor}
use Rattle.descriptor.specs.Refusals.{refusals}
use Rattle.descriptor.proofs.Ends.{of-table as in_table}

-- ---- fields

skip-placed : (n : ℕ) → Places refusals (skip n)
skip-placed n s at l = placed-done (body 1 n s at) (body-placed (among refl) 1 n at l)

id-placed : Places refusals id
unfolding id
id-placed s at l = placed-then (field 4 s at) _ (field-placed (among refl) 4 at l) (λ n q h. skip-placed (pick (eqb n 0) 4 n) s q h)

unicode-placed : Places refusals unicode
unfolding unicode
unicode-placed s at l =
    placed-then (field 4 s at) _ (field-placed (among refl) 4 at l)
    (λ n q h. placed-then (body 2 n s q) _ (body-placed (among refl) 2 n q h) (λ us e g. placed-rule (closing (shut us)) (unless-numbered (shut us) (among refl)) l (ends g)))

class-placed : Places refusals class
unfolding class
class-placed s at l = placed-then (unicode s at) _ (unicode-placed s at l) (λ u q h. id-placed s q h)

flag-placed : Places refusals flag
unfolding flag
flag-placed s at l = placed-done (judged 1 boolean s at) (judged-placed (among refl) 1 boolean at (λ b. unless-numbered (leb b 1) (among refl)) l)

double-placed : Places refusals double
unfolding double
double-placed s at l = placed-done (judged 8 bits s at) (judged-placed (among refl) 8 bits at (λ b. unless-numbered (finite (of_bits binary64 b)) (among refl)) l)

enumerated-placed : Places refusals enumerated
unfolding enumerated
enumerated-placed s at l = placed-then (id s at) _ (id-placed s at l) (λ u q h. id-placed s q h)

run-placed : Places refusals raw_bytes
unfolding raw_bytes
run-placed s at l = placed-then (field 4 s at) _ (field-placed (among refl) 4 at l) (λ n q h. skip-placed n s q h)

unit-placed : Places refusals unit_double
unfolding unit_double
unit-placed s at l =
    placed-then (judged 4 unit s at) _ (judged-placed (among refl) 4 unit at (λ u. unless-numbered (is_unit u) (among refl)) l) (λ u q h. double-placed s q h)

column-placed : (m : ℕ) → Places refusals (column m)
unfolding column
column-placed m s at l =
    placed-then (judged 4 array_unit s at) _ (judged-placed (among refl) 4 array_unit at (λ u. unless-numbered (is_array_unit u) (among refl)) l)
    (λ u q h. placed-then (judged 4 (doubles m) s q) _ (judged-placed (among refl) 4 (doubles m) q (λ n. unless-numbered (eqb n m) (among refl)) h)
    (λ n e g. placed-done (each n 0 (λ i. double) s e) (each_placed (λ i. double) (λ i r w. double-placed s r w) n 0 e g)))

-- ---- by type and by form

abbrev Leafy : Sort → Type 0
Leafy (leaf p) = Places refusals p
Leafy list = Unit {0}
Leafy object = Unit {0}
Leafy reference = Unit {0}
Leafy array = Unit {0}

leaf-placed : (t : ℕ) (p : Reader Unit) → sort_of t ≡ is (leaf p) → Places refusals p
unfolding sort_of
leaf-placed t p e =
    in_table Leafy types (flag-placed, (class-placed, (class-placed, (double-placed, (enumerated-placed, (run-placed, (run-placed, (run-placed, (skip-placed 4, (skip-placed 8, (unicode-placed, (unit-placed, (tt, (tt, (tt, (tt, (tt, tt))))))))))))))))) t (leaf p) e

form-placed : (t : ℕ) (p : Reader Unit) → form_of t ≡ is p → Places refusals p
unfolding form_of
form-placed t p e =
    in_table (Places refusals) forms (skip-placed 0, (enumerated-placed, (id-placed, (unicode-placed, (skip-placed 4, (skip-placed 4, (skip-placed 4, tt))))))) t p e

-- ---- members

-- a reader of members, given a row's number
abbrev Members : List ℕ → (ℕ → Reader (List Row)) → Type 0
Members s f = (k at : ℕ) → at ≤ length s → Placed refusals s (f k s at)

-- a reader of items, given the parent's row number, the row's own and the row's first byte
abbrev Items : List ℕ → (ℕ → ℕ → ℕ → Reader (List Row)) → Type 0
Items s f = (p k first at : ℕ) → first ≤ length s → at ≤ length s → Placed refusals s (f p k first s at)

module _ {s : List ℕ} where
  known-placed : {A B : Type 0} (x : Known A) (p : ℕ) (k : A → Res B) → p ≤ length s → ((a : A) → x ≡ is a → Placed refusals s (k a)) → Placed refusals s (known x p k)
  known-placed (is a) p k l g = g a refl
  known-placed unknown p k l g = fails (among refl) l

  headed-placed : (t d p first v : ℕ) (m : Res (List Row)) → Placed refusals s m → Placed refusals s (headed t d p first v m)
  headed-placed t d p first v m h = placed-then m _ h (λ rs q w. ends w)

  plain-placed : (p : Reader Unit) → Places refusals p → (at : ℕ) → at ≤ length s → Placed refusals s (plain p s at)
  plain-placed p g at l = placed-then (p s at) _ (g s at l) (λ u q w. ends w)

  siblings-placed : (f : ℕ → Reader (List Row)) → Members s f → (n k at : ℕ) → at ≤ length s → Placed refusals s (siblings f n k s at)
  unfolding siblings
  siblings-placed f g zero k at l = ends l
  siblings-placed f g (suc n) k at l = placed-then (f k s at) _ (g k at l) (λ rs q h. placed-then (siblings f n (k + length rs) s q) _ (siblings-placed f g n (k + length rs) q h) (λ qs e w. ends w))

  pub children-placed : (f : ℕ → Reader (List Row)) → Members s f → (k at : ℕ) → at ≤ length s → Placed refusals s (children f k s at)
  unfolding children
  children-placed f g k at l = placed-then (field 4 s at) _ (field-placed (among refl) 4 at l) (λ n q h. siblings-placed f g n (k + 1) q h)

  pub ref-placed : (d p : ℕ) → Members s (ref_item d p)
  unfolding ref_item ref_value
  ref-placed zero p k at l = fails (among refl) l
  ref-placed (suc d) p k at l =
      placed-then (field 4 s at) _ (field-placed (among refl) 4 at l)
      (λ t v h. known-placed (form_of t) at _ l (λ r e. headed-placed t d p at v (plain (ref_value r) s v)
      (plain-placed (ref_value r) (λ z q w. placed-then (class z q) _ (class-placed z q w) (λ u i y. form-placed t r e z i y)) v h)))

  column-pairs : (m d p : ℕ) → Members s (array_pair m d p)
  unfolding array_pair
  column-pairs m zero p k at l = fails (among refl) l
  column-pairs m (suc d) p k at l =
      placed-then (id s at) _ (id-placed s at l)
      (λ u e h. placed-then (judged 4 column_type s e) _ (judged-placed (among refl) 4 column_type e (λ t. unless-numbered (eqb t (chars "UnFl")) (among refl)) h)
      (λ t v g. headed-placed t d p at v (plain (column m) s v) (plain-placed (column m) (column-placed m) v g)))

  pub array_placed : (d k at : ℕ) → at ≤ length s → Placed refusals s (array_of d k s at)
  unfolding array_of
  array_placed d k at l =
      placed-then (field 4 s at) _ (field-placed (among refl) 4 at l)
      (λ m q h. placed-then (class s q) _ (class-placed s q h) (λ c e g. children-placed (array_pair m d k) (column-pairs m d k) k e g))

  keyed-placed : (f : ℕ → ℕ → ℕ → Reader (List Row)) → Items s f → (d p : ℕ) → Members s (keyed f d p)
  unfolding keyed
  keyed-placed f g zero p k at l = fails (among refl) l
  keyed-placed f g (suc d) p k at l = placed-then (id s at) _ (id-placed s at l) (λ u e h. g p k at e l h)

  pub object-placed : (f : ℕ → ℕ → ℕ → Reader (List Row)) → Items s f → (d k at : ℕ) → at ≤ length s → Placed refusals s (object_of f d k s at)
  unfolding object_of
  object-placed f g d k at l = placed-then (class s at) _ (class-placed s at l) (λ c e h. children-placed (keyed f d k) (keyed-placed f g d k) k e h)

  value-placed : (f : ℕ → ℕ → ℕ → Reader (List Row)) → Items s f → (d k t : ℕ) (sort : Sort) → sort_of t ≡ is sort → (at : ℕ) → at ≤ length s → Placed refusals s (value_of f d k sort s at)
  value-placed f g d k t (leaf p) e at l = plain-placed p (leaf-placed t p e) at l
  value-placed f g d k t list e at l = children-placed (λ j s q. f k j q s q) (λ j q w. g k j q q w w) k at l
  value-placed f g d k t object e at l = object-placed f g d k at l
  value-placed f g d k t reference e at l = children-placed (ref_item d k) (ref-placed d k) k at l
  value-placed f g d k t array e at l = array_placed d k at l

  pub item-placed : (d : ℕ) → Items s (item d)
  unfolding item
  item-placed zero p k first at o l = fails (among refl) o
  item-placed (suc d) p k first at o l =
      placed-then (field 4 s at) _ (field-placed (among refl) 4 at l)
      (λ t v h. known-placed (sort_of t) at _ l (λ sort e. headed-placed t d p first v (value_of (item d) d k sort s v) (value-placed (item d) (item-placed d) d k t sort e v h)))

  -- ---- the file

  whole-placed : (at : ℕ) → at ≤ length s → Placed refusals s (whole s at)
  unfolding whole root
  whole-placed at l =
      placed-then (root s at) _
      (placed-then (judged 4 version s at) _ (judged-placed (among refl) 4 version at (λ v. unless-numbered (eqb v 16) (among refl)) l)
      (λ v e h. headed-placed (chars "Objc") 32 0 at e (object_of (item 32) 32 0 s e) (object-placed (item 32) (item-placed 32) 32 0 e h)))
      (λ rs q g. ended-placed (among refl) rs q g)

pub refused-placed : (s : List ℕ) {x p r f : ℕ} → descriptor s ≡ refuse x p r f → Of refusals x × (p ≤ length s)
unfolding descriptor
refused-placed s e = refusal-placed {s = s} (limited-placed (among refl) (whole-placed 0 (omega arith))) e
