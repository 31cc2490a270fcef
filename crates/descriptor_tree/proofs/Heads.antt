-- The reader of one member accepts exactly the heads that may stand in its place, and then the member's children. Assumes nothing.
use Prim.Native.Nat.{ℕ, ◌+◌, ◌-◌, ◌^◌, ◌≤◌, ◌<◌}
use mathlib.Core.Path.{◌≡◌, refl, sym, ap, ◌∙◌, subst}
use mathlib.Core.List.{List, [], ◌∷◌, ◌++◌}
use mathlib.Core.Logic.{◌⊎◌, inl, inr}
use lib.ListN.{length, length-append}
use native.Mathlib.Omega.{arith}
use Rattle.algebra.specs.Chars.{chars}
use Rattle.algebra.specs.Numbers.{be, At, Bytes}
use Rattle.algebra.specs.Reader.{Res, Reader, ok, refuse, then, field, ◌>>=◌}
use Rattle.algebra.proofs.Places.{length-be, at_in, at_left, at_right, at_next}
use Rattle.algebra.proofs.Inverse.{clash, then-inv, ok-value, ok-place}
use Rattle.descriptor.specs.Reading.{Known, is, unknown, known, id, class, flag, double, enumerated, raw_bytes, unicode, unit_double, skip, Sort, leaf, list, object, reference, array, types, sort_of, forms, form_of, Row, headed, plain, siblings, children, ref_value, ref_item, array_pair, item, pair, beside}
use Rattle.algebra.specs.Refusal.{among}
use Rattle.algebra.specs.Sets.{Size, Seq, number, prefixed}
use Rattle.descriptor_tree.specs.Grammar.{Class, Leaf, Form, IdBody, Id, Units, Text, Raw, Double}
use Rattle.algebra.specs.Sets.Seq.{seq}
use Rattle.descriptor_tree.specs.Tree.{Place, Item}
use Rattle.algebra.proofs.Sets.{Sound, sound-in, Stands, field-numbers, number-whole, number-sound}
use Rattle.descriptor_tree.proofs.Fields.{beside-each, skip-reads, id-reads, text-reads, class-reads, enumerated-reads, raw-reads, boolean-reads, double-reads, unit-reads, Each}
use Rattle.descriptor_tree.specs.Damaged.{ItemType, ItemForm}

-- the reader of one member of a place
abbrev pub reader : Place → ℕ → ℕ → ℕ → Reader (List Row)
reader Place.items left p k s at = item left p k at s at
reader Place.pairs left p k s at = pair left p k s at
reader Place.forms left p k s at = ref_item left p k s at
reader Place.nowhere left p k s at = refuse 10 at 0 0
reader (Place.columns m) left p k s at = array_pair m left p k s at

-- the row of a member that ends at q
abbrev pub row_of : ℕ → ℕ → ℕ → ℕ → ℕ → ℕ → Row
row_of t d p first v q = record { kind = t; parent = p; first = first; size = q - first; depth = 32 - d; value = v }

-- ---- the tables of types and forms

leaf-small : {kind : ℕ} {b : List ℕ} → Leaf kind b → kind < 256 ^ 4
leaf-small (Leaf.boolean h) = omega arith
leaf-small (Leaf.class h) = omega arith
leaf-small (Leaf.global_class h) = omega arith
leaf-small (Leaf.double h) = omega arith
leaf-small (Leaf.enumerated h) = omega arith
leaf-small (Leaf.alias h) = omega arith
leaf-small (Leaf.path h) = omega arith
leaf-small (Leaf.integer h) = omega arith
leaf-small (Leaf.large h) = omega arith
leaf-small (Leaf.raw h) = omega arith
leaf-small (Leaf.text h) = omega arith
leaf-small (Leaf.unit_double h) = omega arith

pub item-small : {kind n : ℕ} {c : Place} {b : List ℕ} → Item kind c n b → kind < 256 ^ 4
item-small (Item.leaf l) = leaf-small l
item-small (Item.list n l) = omega arith
item-small (Item.object n l c) = omega arith
item-small (Item.global n l c) = omega arith
item-small (Item.reference n l) = omega arith
item-small (Item.array m n l g c) = omega arith

pub form_small : {kind : ℕ} {b : List ℕ} → Form kind b → kind < 256 ^ 4
form_small Form.class = omega arith
form_small (Form.enumerated h) = omega arith
form_small (Form.identifier h) = omega arith
form_small (Form.index h) = omega arith
form_small (Form.name h) = omega arith
form_small (Form.offset h) = omega arith
form_small (Form.property h) = omega arith

pub ref-small : {kind : ℕ} {b : List ℕ} → Seq Class (Form kind) b → kind < 256 ^ 4
ref-small (seq c f) = form_small f

module _ (s : List ℕ) (bytes : Bytes s) where
  -- where the value of a type stands, the type's reader ends behind it
  pub leaf-whole : {kind : ℕ} {b : List ℕ} → Leaf kind b → (at : ℕ) → At s at b → (p : Reader Unit) × (sort_of kind ≡ is (leaf p)) × (p s at ≡ ok tt (at + length b))
  unfolding sort_of
  leaf-whole {b = b} (Leaf.boolean x) at h = (flag, refl, ((boolean-reads s bytes).complete at b x h).1)
  leaf-whole {b = b} (Leaf.class x) at h = (class, refl, ((class-reads s bytes).complete at b x h).1)
  leaf-whole {b = b} (Leaf.global_class x) at h = (class, refl, ((class-reads s bytes).complete at b x h).1)
  leaf-whole {b = b} (Leaf.double x) at h = (double, refl, ((double-reads s bytes).complete at b x h).1)
  leaf-whole {b = b} (Leaf.enumerated x) at h = (enumerated, refl, ((enumerated-reads s bytes).complete at b x h).1)
  leaf-whole {b = b} (Leaf.alias x) at h = (raw_bytes, refl, ((raw-reads s bytes).complete at b x h).1)
  leaf-whole {b = b} (Leaf.path x) at h = (raw_bytes, refl, ((raw-reads s bytes).complete at b x h).1)
  leaf-whole {b = b} (Leaf.integer x) at h = (skip 4, refl, ((skip-reads s 4).complete at b x h).1)
  leaf-whole {b = b} (Leaf.large x) at h = (skip 8, refl, ((skip-reads s 8).complete at b x h).1)
  leaf-whole {b = b} (Leaf.raw x) at h = (raw_bytes, refl, ((raw-reads s bytes).complete at b x h).1)
  leaf-whole {b = b} (Leaf.text x) at h = (unicode, refl, ((text-reads s bytes).complete at b x h).1)
  leaf-whole {b = b} (Leaf.unit_double x) at h = (unit_double, refl, ((unit-reads s bytes).complete at b x h).1)

  -- the types of each sort
  abbrev pub Sorted : ℕ → Sort → Type 0
  Sorted t (leaf p) = Sound (Leaf t) s p
  Sorted t list = t ≡ chars "VlLs"
  Sorted t object = (t ≡ chars "Objc") ⊎ (t ≡ chars "GlbO")
  Sorted t reference = t ≡ chars "obj "
  Sorted t array = t ≡ chars "ObAr"

  pub sorted : (t : ℕ) (sort : Sort) → sort_of t ≡ is sort → Sorted t sort
  unfolding sort_of
  sorted = beside-each Sorted types (
    sound-in (boolean-reads s bytes) (Leaf (chars "bool")) (λ b x. Leaf.boolean x),
    (
      sound-in (class-reads s bytes) (Leaf (chars "type")) (λ b x. Leaf.class x),
      (
        sound-in (class-reads s bytes) (Leaf (chars "GlbC")) (λ b x. Leaf.global_class x),
        (
          sound-in (double-reads s bytes) (Leaf (chars "doub")) (λ b x. Leaf.double x),
          (
            sound-in (enumerated-reads s bytes) (Leaf (chars "enum")) (λ b x. Leaf.enumerated x),
            (
              sound-in (raw-reads s bytes) (Leaf (chars "alis")) (λ b x. Leaf.alias x),
              (
                sound-in (raw-reads s bytes) (Leaf (chars "Pth ")) (λ b x. Leaf.path x),
                (
                  sound-in (raw-reads s bytes) (Leaf (chars "tdta")) (λ b x. Leaf.raw x),
                  (
                    sound-in (skip-reads s 4) (Leaf (chars "long")) (λ b x. Leaf.integer x),
                    (
                      sound-in (skip-reads s 8) (Leaf (chars "comp")) (λ b x. Leaf.large x),
                      (
                        sound-in (text-reads s bytes) (Leaf (chars "TEXT")) (λ b x. Leaf.text x),
                        (
                          sound-in (unit-reads s bytes) (Leaf (chars "UntF")) (λ b x. Leaf.unit_double x),
                          (refl, (inl refl, (inr refl, (refl, (refl, tt))))),
                        ),
                      ),
                    ),
                  ),
                ),
              ),
            ),
          ),
        ),
      ),
    ),
  )

  form-whole : {kind : ℕ} {b : List ℕ} → Form kind b → (at : ℕ) → At s at b → (p : Reader Unit) × (form_of kind ≡ is p) × (p s at ≡ ok tt (at + length b))
  unfolding form_of
  form-whole {b = b} Form.class at h = (skip 0, refl, ((skip-reads s 0).complete at [] refl h).1)
  form-whole {b = b} (Form.enumerated x) at h = (enumerated, refl, ((enumerated-reads s bytes).complete at b x h).1)
  form-whole {b = b} (Form.identifier x) at h = (skip 4, refl, ((skip-reads s 4).complete at b x h).1)
  form-whole {b = b} (Form.index x) at h = (skip 4, refl, ((skip-reads s 4).complete at b x h).1)
  form-whole {b = b} (Form.name x) at h = (unicode, refl, ((text-reads s bytes).complete at b x h).1)
  form-whole {b = b} (Form.offset x) at h = (skip 4, refl, ((skip-reads s 4).complete at b x h).1)
  form-whole {b = b} (Form.property x) at h = (id, refl, ((id-reads s bytes).complete at b x h).1)

  form-sound : (t : ℕ) (p : Reader Unit) → form_of t ≡ is p → Sound (Form t) s p
  unfolding form_of
  form-sound = beside-each (λ t p. Sound (Form t) s p) forms (
    sound-in (skip-reads s 0) (Form (chars "Clss")) nothing,
    (
      sound-in (enumerated-reads s bytes) (Form (chars "Enmr")) (λ b x. Form.enumerated x),
      (
        sound-in (id-reads s bytes) (Form (chars "prop")) (λ b x. Form.property x),
        (
          sound-in (text-reads s bytes) (Form (chars "name")) (λ b x. Form.name x),
          (
            sound-in (skip-reads s 4) (Form (chars "Idnt")) (λ b x. Form.identifier x),
            (
              sound-in (skip-reads s 4) (Form (chars "indx")) (λ b x. Form.index x),
              (sound-in (skip-reads s 4) (Form (chars "rele")) (λ b x. Form.offset x), tt),
            ),
          ),
        ),
      ),
    ),
  )
    where
      nothing : (b : List ℕ) → Size 0 b → Form (chars "Clss") b
      nothing [] l = Form.class
      nothing (x ∷ b) l = absurd (omega arith)

  -- a class, and the form's value
  pub ref-whole : (kind : ℕ) (b : List ℕ) → Seq Class (Form kind) b → (at : ℕ) → At s at b → (p : Reader Unit) × (form_of kind ≡ is p) × (ref_value p s at ≡ ok tt (at + length b))
  unfolding ref_value
  ref-whole kind b (seq {x = x} {y = y} c f) at h =
      let u = (class-reads s bytes).complete at x c (at_left s at x y h) in
      let v = form-whole f (at + length x) (at_right s at x y h) in
      let e : at + length x + length y ≡ at + length (x ++ y) = omega (arith, length-append x y) in
      (v.0, v.1, ap (λ (r : Res Unit). then r (λ a n. v.0 s n)) u.1 ∙ v.2 ∙ ap (λ (z : ℕ). ok tt z) e)

  pub ref-sound : (t : ℕ) (p : Reader Unit) → form_of t ≡ is p → Sound (Seq Class (Form t)) s (ref_value p)
  unfolding ref_value
  ref-sound t p g at le a q e =
      let w = then-inv (class s at) _ e in
      let u = (class-reads s bytes).sound at le w.0 w.1 w.2 in
      let v = form-sound t p g w.1 (omega (arith, at_in s at u.0 u.2, u.3)) a q w.3 in
      (u.0 ++ v.0, seq u.1 v.1, at_next s at u.0 v.0 w.1 u.3 u.2 v.2, omega (arith, length-append u.0 v.0, u.3, v.3))

-- ---- a count, and that many children

pub known-inv : {A B : Type 0} (m : Known A) (p : ℕ) (f : A → Res B) {b : B} {q : ℕ} → known m p f ≡ ok b q → (a : A) × (m ≡ is a) × (f a ≡ ok b q)
known-inv (is a) p f e = (a, refl, e)
known-inv unknown p f e = clash e

pub headed-inv : (t d p first v : ℕ) (m : Res (List Row)) {rs : List Row} {q : ℕ} → headed t d p first v m ≡ ok rs q → (kids : List Row) × (m ≡ ok kids q) × (row_of t d p first v q ∷ kids ≡ rs)
headed-inv t d p first v m e =
    let w = then-inv m _ e in
    let z = ok-place w.3 in
    (w.0, w.2 ∙ ap (λ (n : ℕ). ok w.0 n) z, ap (λ (n : ℕ). row_of t d p first v n ∷ w.0) (sym z) ∙ ok-value w.3)

pub plain-inv : (p : Reader Unit) (s : List ℕ) (at : ℕ) {rs : List Row} {q : ℕ} → plain p s at ≡ ok rs q → (p s at ≡ ok tt q) × ([] ≡ rs)
plain-inv p s at e =
    let w = then-inv (p s at) _ e in
    (w.2 ∙ ap (λ (n : ℕ). ok tt n) (ok-place w.3), ok-value w.3)

module _ (s : List ℕ) (bytes : Bytes s) (f : ℕ → Reader (List Row)) (k : ℕ) where
  pub children-at : (at n : ℕ) → n < 256 ^ 4 → At s at (be 4 n) → children f k s at ≡ siblings f n (k + 1) s (at + 4)
  unfolding children
  children-at at n small h = ap (λ (r : Res ℕ). then r (λ a n. siblings f a (k + 1) s n)) (number-whole 4 (field-numbers s bytes 4) at n small tt h)

  -- behind a class
  pub class-at : (at n : ℕ) (b : List ℕ) → n < 256 ^ 4 → Class b → At s at (b ++ be 4 n) → (class >>= (λ c. children f k)) s at ≡ siblings f n (k + 1) s (at + length (b ++ be 4 n))
  class-at at n b small c h =
      let u = (class-reads s bytes).complete at b c (at_left s at b (be 4 n) h) in
      let e : at + length b + 4 ≡ at + length (b ++ be 4 n) = omega (arith, length-append b (be 4 n), length-be 4 n) in
      ap (λ (r : Res Unit). then r (λ a n. children f k s n)) u.1 ∙ children-at (at + length b) n small (at_right s at b (be 4 n) h) ∙ ap (λ (z : ℕ). siblings f n (k + 1) s z) e

  pub children-inv : (at : ℕ) → at ≤ length s → {rs : List Row} {q : ℕ} → children f k s at ≡ ok rs q → (n : ℕ) × Stands s 4 (λ v. Unit) at n (at + 4) × (siblings f n (k + 1) s (at + 4) ≡ ok rs q)
  unfolding children
  children-inv at le e =
      let w = then-inv (field 4 s at) _ e in
      let i = number-sound 4 (field-numbers s bytes 4) at w.0 w.1 le w.2 in
      (w.0, subst (λ (z : ℕ). Stands s 4 (λ v. Unit) at w.0 z) (sym i.next) i, ap (λ (z : ℕ). siblings f w.0 (k + 1) s z) i.next ∙ w.3)

  pub class-inv : (at : ℕ) → at ≤ length s → {rs : List Row} {q : ℕ} → (class >>= (λ c. children f k)) s at ≡ ok rs q
      → (b : List ℕ) × (n : ℕ) × Class b × (n < 256 ^ 4) × At s at (b ++ be 4 n) × (siblings f n (k + 1) s (at + length (b ++ be 4 n)) ≡ ok rs q)
  class-inv at le e =
      let w = then-inv (class s at) _ e in
      let u = (class-reads s bytes).sound at le w.0 w.1 w.2 in
      let i = children-inv w.1 (omega (arith, at_in s at u.0 u.2, u.3)) w.3 in
      let n : ℕ = i.0 in
      let z : w.1 + 4 ≡ at + length (u.0 ++ be 4 n) = omega (arith, length-append u.0 (be 4 n), length-be 4 n, u.3) in
      (u.0, n, u.1, i.1.small, at_next s at u.0 (be 4 n) w.1 u.3 u.2 i.1.stands, ap (λ (z : ℕ). siblings f n (k + 1) s z) (sym z) ∙ i.2)

-- ---- a tag that is in no row of a table

beside_none : {A : Type 0} (P : ℕ → Type 0) (cs : List (ℕ × A)) → Each (λ t a. P t) cs → (t : ℕ) → (P t → ⊥) → beside cs t ≡ unknown
beside_none P cs h t never = go (beside cs t) refl
  where
    go : (k : Known _) → beside cs t ≡ k → k ≡ unknown
    go unknown e = refl
    go (is a) e = absurd (never (beside-each (λ t a. P t) cs h t a e))

-- a value of each type and form
some_id : Id (be 4 0 ++ (0 ∷ 0 ∷ 0 ∷ 0 ∷ []))
some_id = prefixed 0 (omega arith) (IdBody.char refl)

some-text : Text (be 4 0 ++ [])
some-text = prefixed 0 (omega arith) Units.none

some-class : Class ((be 4 0 ++ []) ++ (be 4 0 ++ (0 ∷ 0 ∷ 0 ∷ 0 ∷ [])))
some-class = seq some-text some_id

some-double : Double (be 8 0)
some-double = number 0 (omega arith) (omega arith)

some-raw : Raw (be 4 0 ++ [])
some-raw = prefixed 0 (omega arith) refl

abbrev four : List ℕ
four = 0 ∷ 0 ∷ 0 ∷ 0 ∷ []

leafy : {kind : ℕ} {b : List ℕ} → Leaf kind b → ItemType kind
leafy x = ItemType.type (Item.leaf x)

pub no-type : (t : ℕ) → (ItemType t → ⊥) → sort_of t ≡ unknown
unfolding sort_of
no-type = beside_none ItemType types (
  leafy (Leaf.boolean (number 0 (omega arith) (omega arith))),
  (
    leafy (Leaf.class some-class),
    (
      leafy (Leaf.global_class some-class),
      (
        leafy (Leaf.double some-double),
        (
          leafy (Leaf.enumerated (seq some_id some_id)),
          (
            leafy (Leaf.alias some-raw),
            (
              leafy (Leaf.path some-raw),
              (
                leafy (Leaf.raw some-raw),
                (
                  leafy (Leaf.integer {b = four} refl),
                  (
                    leafy (Leaf.large {b = 0 ∷ 0 ∷ 0 ∷ 0 ∷ 0 ∷ 0 ∷ 0 ∷ 0 ∷ []} refl),
                    (
                      leafy (Leaf.text some-text),
                      (
                        leafy (Leaf.unit_double (prefixed (chars "#Ang") (omega arith) (among refl, some-double))),
                        (
                          ItemType.type (Item.list 0 (omega arith)),
                          (
                            ItemType.type (Item.object 0 (omega arith) some-class),
                            (
                              ItemType.type (Item.global 0 (omega arith) some-class),
                              (ItemType.type (Item.reference 0 (omega arith)), (ItemType.type (Item.array 0 0 (omega arith) (omega arith) some-class), tt)),
                            ),
                          ),
                        ),
                      ),
                    ),
                  ),
                ),
              ),
            ),
          ),
        ),
      ),
    ),
  ),
)

-- a value of each form
pub some-forms : Each (λ t (p : Reader Unit). ItemForm t) forms
some-forms = (
  ItemForm.form Form.class,
  (
    ItemForm.form (Form.enumerated (seq some_id some_id)),
    (
      ItemForm.form (Form.property some_id),
      (
        ItemForm.form (Form.name some-text),
        (ItemForm.form (Form.identifier {b = four} refl), (ItemForm.form (Form.index {b = four} refl), (ItemForm.form (Form.offset {b = four} refl), tt))),
      ),
    ),
  ),
)

pub no-form : (t : ℕ) → (ItemForm t → ⊥) → form_of t ≡ unknown
unfolding form_of
no-form = beside_none ItemForm forms some-forms
