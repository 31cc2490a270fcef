-- A head depends only on its own bytes. Assumes nothing.
use Prim.Native.Nat.{ℕ, suc}
use mathlib.Core.Path.{◌≡◌, refl, sym, ap, ◌∙◌}
use mathlib.Core.List.{List, [], ◌∷◌}
use mathlib.Core.Bool.{Bool, true, false}
use lib.Dec.{leb, eqb}
use lib.ListN.{length}
use Rattle.algebra.specs.Chars.{chars}
use Rattle.algebra.specs.Reader.{Res, ok, refuse, Reader, then, pick, field, body, rule, Judged, fine, fault, judged, give, ◌>>=◌, each, done}
use Rattle.algebra.specs.Algebra.{Lawful}
use Rattle.algebra.proofs.Inverse.{clash, then-inv, done-inv, ok-place}
use Rattle.algebra.proofs.Lawful.{judged-lawful, body-lawful, give-lawful, bind-lawful, each-lawful}
use Rattle.descriptor.specs.Reading.{Known, is, unknown, known, passing, skip, id, shut, closing, unicode, class, boolean, flag, bits, double, enumerated, raw_bytes, unit, array_unit, unit_double, Sort, leaf, list, object, reference, array, types, sort_of, forms, form_of, ref_value, doubles, column, column_type, version}
use Rattle.descriptor.proofs.Ends.{of-table}
use Rattle.descriptor_heads.specs.Heads.{Due, items, pairs, forms as formsDue, columns, Opened, bare, opens, item_head, member_head, deepest, head_at, Stack, next_head, root_head}

-- ---- laws of combinators

lawful-eq : {A : Type 0} (p r : Reader A) → ((s : List ℕ) (at : ℕ) → r s at ≡ p s at) → Lawful p → Lawful r
lawful-eq p r h l = record {
  moves = λ s at le a q e. l.moves s at le a q (sym (h s at) ∙ e);
  local = λ s at le a q e t same. h t at ∙ l.local s at le a q (sym (h s at) ∙ e) t same;
}

-- a reader that is told its own place
lawful-at : {A : Type 0} (p : ℕ → Reader A) → ((first : ℕ) → Lawful (p first)) → Lawful (λ s at. p at s at)
lawful-at p l = record { moves = λ s at. (l at).moves s at; local = λ s at. (l at).local s at }

pub field-lawful : (w : ℕ) → Lawful (field w)
field-lawful w = lawful-eq (judged w (λ v. fine)) (field w) (λ s at. go (field w s at)) (judged-lawful w (λ v. fine))
  where
    go : (m : Res ℕ) → m ≡ then m (λ v n. ok v n)
    go (ok v n) = refl
    go (refuse x p r f) = refl

passing-lawful : {A : Type 0} (p : Reader A) → Lawful p → Lawful (passing p)
passing-lawful p l = record {
  moves = λ s at le a q e. let i = done-inv (p s at) e in l.moves s at le i.0 q i.1;
  local = λ s at le a q e t same. let i = done-inv (p s at) e in ap done (l.local s at le i.0 q i.1 t same);
}

-- a judgement of what was read, at its first byte
ruled-lawful : {A : Type 0} (p : Reader A) (j : A → Judged) → Lawful p → Lawful (λ s at. then (p s at) (λ a q. rule (j a) at (ok (tt {0}) q)))
ruled-lawful p j l = record {
  moves = λ s at le a q e. let t = then-inv (p s at) _ e in let i = fine_end (j t.0) at t.1 q t.3 in l.moves s at le t.0 q (t.2 ∙ ap (λ (z : ℕ). ok t.0 z) i);
  local = λ s at le a q e u same.
      let t = then-inv (p s at) _ e in
      let i = fine_end (j t.0) at t.1 q t.3 in
      let h = l.local s at le t.0 q (t.2 ∙ ap (λ (z : ℕ). ok t.0 z) i) u same in
      rw h (ap (λ (z : ℕ). rule (j t.0) at (ok tt z)) (sym i) ∙ t.3);
}
  where
    fine_end : (d : Judged) (at r q : ℕ) → rule d at (ok (tt {0}) r) ≡ ok tt q → r ≡ q
    fine_end fine at r q e = ok-place e
    fine_end (fault n x f) at r q e = clash e

known-lawful : {A B : Type 0} (k : Known A) (place : ℕ) (f : A → Reader B) → ((a : A) → k ≡ is a → Lawful (f a)) → Lawful (λ s at. known k place (λ a. f a s at))
known-lawful (is a) place f l = l a refl
known-lawful unknown place f l = record { moves = λ s at le b q e. clash e; local = λ s at le b q e t same. clash e }

-- ---- fields

skip-lawful : (n : ℕ) → Lawful (skip n)
skip-lawful n = passing-lawful (body 1 n) (body-lawful 1 n)

pub id-lawful : Lawful id
unfolding id
id-lawful = bind-lawful (field 4) _ (field-lawful 4) (λ n. skip-lawful (pick (eqb n 0) 4 n))

unicode-lawful : Lawful unicode
unfolding unicode
unicode-lawful = lawful-eq (λ s at. then ((field 4 >>= body 2) s at) (λ us e. rule (closing (shut us)) at (ok tt e))) _ (λ s at. go (field 4 s at) s at)
    (ruled-lawful (field 4 >>= body 2) (λ us. closing (shut us)) (bind-lawful (field 4) (body 2) (field-lawful 4) (body-lawful 2)))
  where
    go : (m : Res ℕ) (s : List ℕ) (at : ℕ) → then m (λ n first. then (body 2 n s first) (λ us end. rule (closing (shut us)) at (ok (tt {0}) end))) ≡ then (then m (λ n first. body 2 n s first)) (λ us e. rule (closing (shut us)) at (ok tt e))
    go (ok n q) s at = refl
    go (refuse x p r f) s at = refl

class-lawful : Lawful class
unfolding class
class-lawful = bind-lawful unicode _ unicode-lawful (λ u. id-lawful)

flag-lawful : Lawful flag
unfolding flag
flag-lawful = passing-lawful (judged 1 boolean) (judged-lawful 1 boolean)

double-lawful : Lawful double
unfolding double
double-lawful = passing-lawful (judged 8 bits) (judged-lawful 8 bits)

enum_lawful : Lawful enumerated
unfolding enumerated
enum_lawful = bind-lawful id _ id-lawful (λ u. id-lawful)

run-lawful : Lawful raw_bytes
unfolding raw_bytes
run-lawful = bind-lawful (field 4) _ (field-lawful 4) skip-lawful

unit_lawful : Lawful unit_double
unfolding unit_double
unit_lawful = bind-lawful (judged 4 unit) _ (judged-lawful 4 unit) (λ u. double-lawful)

column-lawful : (m : ℕ) → Lawful (column m)
unfolding column
column-lawful m = bind-lawful (judged 4 array_unit) _ (judged-lawful 4 array_unit) (λ u. bind-lawful (judged 4 (doubles m)) _ (judged-lawful 4 (doubles m)) (λ n. passing-lawful (each n 0 (λ i. double)) (each-lawful (λ i. double) (λ i. double-lawful) n 0)))

abbrev Leafy : Sort → Type 0
Leafy (leaf p) = Lawful p
Leafy list = Unit {0}
Leafy object = Unit {0}
Leafy reference = Unit {0}
Leafy array = Unit {0}

leaf-lawful : (t : ℕ) (p : Reader Unit) → sort_of t ≡ is (leaf p) → Lawful p
unfolding sort_of
leaf-lawful t p e =
    of-table Leafy types (flag-lawful, (class-lawful, (class-lawful, (double-lawful, (enum_lawful, (run-lawful, (run-lawful, (run-lawful, (skip-lawful 4, (skip-lawful 8, (unicode-lawful, (unit_lawful, (tt, (tt, (tt, (tt, (tt, tt)))))))))))))))))
    t (leaf p) e

form-lawful : (t : ℕ) (p : Reader Unit) → form_of t ≡ is p → Lawful p
unfolding form_of
form-lawful t p e = of-table Lawful forms (skip-lawful 0, (enum_lawful, (id-lawful, (unicode-lawful, (skip-lawful 4, (skip-lawful 4, (skip-lawful 4, tt))))))) t p e

ref-lawful : (r : Reader Unit) → Lawful r → Lawful (ref_value r)
unfolding ref_value
ref-lawful r l = bind-lawful class _ class-lawful (λ c. l)

-- ---- heads

opens-lawful : (t : ℕ) (sort : Sort) → sort_of t ≡ is sort → Lawful (opens sort)
opens-lawful t (leaf p) e = bind-lawful p _ (leaf-lawful t p e) (λ u. give-lawful (items, 0))
opens-lawful t list e = bind-lawful (field 4) _ (field-lawful 4) (λ n. give-lawful (items, n))
opens-lawful t object e = bind-lawful class _ class-lawful (λ c. bind-lawful (field 4) _ (field-lawful 4) (λ n. give-lawful (pairs, n)))
opens-lawful t reference e = bind-lawful (field 4) _ (field-lawful 4) (λ n. give-lawful (formsDue, n))
opens-lawful t array e = bind-lawful (field 4) _ (field-lawful 4) (λ m. bind-lawful class _ class-lawful (λ c. bind-lawful (field 4) _ (field-lawful 4) (λ n. give-lawful (columns m, n))))

-- a head, from what opens its value
abbrev opened : (t first d v : ℕ) → Due × ℕ → Opened
opened t first d v o = record { head = record { kind = t; first = first; depth = d; value = v }; below = o.0; count = o.1 }

-- the place of the type is named by a refusal alone
abbrev placed : (d first place t v : ℕ) → Reader Opened
placed d first place t v s at = known (sort_of t) place (λ sort. then (opens sort s at) (λ o q. ok (opened t first d v o) q))

placed-lawful : (d first place t v : ℕ) → Lawful (placed d first place t v)
placed-lawful d first place t v =
    known-lawful (sort_of t) place (λ sort s at. then (opens sort s at) (λ o q. ok (opened t first d v o) q))
    (λ sort e. bind-lawful (opens sort) (λ o. give (opened t first d v o)) (opens-lawful t sort e) (λ o. give-lawful (opened t first d v o)))

item-lawful : (d first : ℕ) → Lawful (item_head d first)
unfolding item_head
item-lawful d first =
    lawful-at (λ place s at. then (field 4 s at) (λ t v. placed d first place t v s v))
    (λ place. bind-lawful (field 4) (λ t s v. placed d first place t v s v) (field-lawful 4) (λ t. lawful-at (placed d first place t) (placed-lawful d first place t)))

bare-lawful : (p : Reader Unit) (t d first : ℕ) → Lawful p → Lawful (λ s v. then (p s v) (λ u q. ok (bare t first d v) q))
bare-lawful p t d first l = lawful-at (λ v s at. then (p s at) (λ u q. ok (bare t first d v) q)) (λ v. bind-lawful p (λ u. give (bare t first d v)) l (λ u. give-lawful (bare t first d v)))

member-lawful : (d : ℕ) (c : Due) → Lawful (member_head d c)
unfolding member_head
member-lawful d items = lawful-at (item_head d) (item-lawful d)
member-lawful d pairs = lawful-at (λ first s at. then (id s at) (λ u e. item_head d first s e)) (λ first. bind-lawful id (λ u. item_head d first) id-lawful (λ u. item-lawful d first))
member-lawful d formsDue =
    lawful-at (λ first s at. then (field 4 s at) (λ t v. known (form_of t) first (λ r. then (ref_value r s v) (λ u q. ok (bare t first d v) q))))
    (λ first. bind-lawful (field 4) (λ t s v. known (form_of t) first (λ r. then (ref_value r s v) (λ u q. ok (bare t first d v) q))) (field-lawful 4)
    (λ t. known-lawful (form_of t) first (λ r s v. then (ref_value r s v) (λ u q. ok (bare t first d v) q)) (λ r e. bare-lawful (ref_value r) t d first (ref-lawful r (form-lawful t r e)))))
member-lawful d (columns m) =
    lawful-at (λ first s at. then (id s at) (λ u e. then (judged 4 column_type s e) (λ t v. then (column m s v) (λ u q. ok (bare t first d v) q))))
    (λ first. bind-lawful id (λ u s e. then (judged 4 column_type s e) (λ t v. then (column m s v) (λ u q. ok (bare t first d v) q))) id-lawful
    (λ u. bind-lawful (judged 4 column_type) (λ t s v. then (column m s v) (λ u q. ok (bare t first d v) q)) (judged-lawful 4 column_type) (λ t. bare-lawful (column m) t d first (column-lawful m))))

head-lawful : (d : ℕ) (c : Due) → Lawful (head_at d c)
unfolding head_at
head-lawful d c = go (leb d deepest)
  where
    go : (b : Bool) → Lawful (λ s at. pick b (member_head d c s at) (refuse 10 at 0 0))
    go true = member-lawful d c
    go false = record { moves = λ s at le b q e. clash e; local = λ s at le b q e t same. clash e }

pub next-lawful : (st : Stack) → Lawful (next_head st)
next-lawful [] = record { moves = λ s at le b q e. clash e; local = λ s at le b q e t same. clash e }
next-lawful (x ∷ st) = head-lawful (suc (length st)) x.0

abbrev rooted : (first v : ℕ) → Reader Opened
rooted first v s at = then (class s at) (λ c p. then (field 4 s p) (λ n q. ok (opened (chars "Objc") first 0 v (pairs, n)) q))

rooted-lawful : (first v : ℕ) → Lawful (rooted first v)
rooted-lawful first v =
    bind-lawful class (λ c s p. then (field 4 s p) (λ n q. ok (opened (chars "Objc") first 0 v (pairs, n)) q)) class-lawful
    (λ c. bind-lawful (field 4) (λ n. give (opened (chars "Objc") first 0 v (pairs, n))) (field-lawful 4) (λ n. give-lawful (opened (chars "Objc") first 0 v (pairs, n))))

pub root-lawful : Lawful root_head
unfolding root_head
root-lawful =
    lawful-at (λ first s at. then (judged 4 version s at) (λ u e. rooted first e s e))
    (λ first. bind-lawful (judged 4 version) (λ u s e. rooted first e s e) (judged-lawful 4 version) (λ u. lawful-at (rooted first) (rooted-lawful first)))
