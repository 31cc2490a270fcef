-- What the readers of members and of the file refuse is damaged, by the refusal's number and at its place. Assumes nothing.
use Prim.Native.Nat.{ℕ, zero, suc, ◌+◌, ◌^◌, ◌≤◌, ◌<◌}
use mathlib.Core.Path.{◌≡◌, refl, sym, ap, ◌∙◌, subst, subst₂}
use mathlib.Core.List.{List, [], ◌++◌, append_assoc}
use mathlib.Core.Logic.{inl, inr}
use mathlib.Core.Bool.{Bool, true, false}
use lib.Dec.{eqb}
use lib.ListN.{length, length-append}
use borrow.Author.Tests.{eq-eqb}
use native.Mathlib.Omega.{arith}
use native.Mathlib.Nat.{add-zero}
use Rattle.algebra.specs.Chars.{chars}
use Rattle.algebra.specs.Numbers.{be, At, Bytes}
use Rattle.algebra.specs.Reader.{Res, Reader, ok, refuse, then, field, judged, ◌>>=◌}
use Rattle.algebra.specs.Sets.{Number}
use Rattle.algebra.proofs.Places.{length-be, at_in, at_next}
use Rattle.algebra.proofs.Inverse.{clash}
use Rattle.algebra.proofs.Sets.{number-sound}
use Rattle.descriptor.specs.Reading.{Known, is, unknown, known, id, class, Sort, leaf, list, object, reference, array, sort_of, forms, form_of, Row, headed, plain, siblings, children, ref_value, ref_item, column, column_type, array_pair, array_of, keyed, object_of, value_of, item, version, root}
use Rattle.descriptor_tree.specs.Grammar.{Id, Class, Leaf, Form}
use Rattle.descriptor_tree.specs.Tree.{count, head, Place, Item, Member}
use Rattle.descriptor_tree.specs.Tree as tree
use Rattle.descriptor_tree.specs.Damaged.{Cut, cut, Wrong, WrongObject, ItemType, ItemForm, WrongItem, WrongMember, Damaged, DamagedFile}
use Rattle.descriptor_tree.proofs.Fields.{beside-each, id-reads, class-reads}
use Rattle.descriptor_tree.proofs.Heads.{reader, some-forms}
use Rattle.descriptor_tree.proofs.Stopped.{column-number, version-number}
use Rattle.descriptor_tree.proofs.Member.{one-sound}
use Rattle.descriptor_tree.proofs.Trees.{forest-sound, too_deep}
use Rattle.descriptor_tree.proofs.Causes.{Why, first, later, why, refusal_is, Cause, also, after, field-cause, Counted, count-read, behind-count, outside-here, wrong-cause, id-cause, class-cause, column-cause, Sorts, sort-cause, form-cause}

-- ---- types and forms that are known

abbrev knows : {A : Type 0} → Known A → Bool
knows (is a) = true
knows unknown = false

leaf-known : {t : ℕ} {b : List ℕ} → Leaf t b → knows (sort_of t) ≡ true
unfolding sort_of
leaf-known (Leaf.boolean x) = refl
leaf-known (Leaf.class x) = refl
leaf-known (Leaf.global_class x) = refl
leaf-known (Leaf.double x) = refl
leaf-known (Leaf.enumerated x) = refl
leaf-known (Leaf.alias x) = refl
leaf-known (Leaf.path x) = refl
leaf-known (Leaf.integer x) = refl
leaf-known (Leaf.large x) = refl
leaf-known (Leaf.raw x) = refl
leaf-known (Leaf.text x) = refl
leaf-known (Leaf.unit_double x) = refl

item-known : {t n : ℕ} {c : Place} {b : List ℕ} → Item t c n b → knows (sort_of t) ≡ true
unfolding sort_of
item-known (Item.leaf x) = leaf-known x
item-known (Item.list n l) = refl
item-known (Item.object n l c) = refl
item-known (Item.global n l c) = refl
item-known (Item.reference n l) = refl
item-known (Item.array m n i l c) = refl

type-known : (t : ℕ) → ItemType t → knows (sort_of t) ≡ true
type-known t (ItemType.type i) = item-known i

form-known : (t : ℕ) → ItemForm t → knows (form_of t) ≡ true
unfolding form_of
form-known t (ItemForm.form Form.class) = refl
form-known t (ItemForm.form (Form.enumerated x)) = refl
form-known t (ItemForm.form (Form.identifier x)) = refl
form-known t (ItemForm.form (Form.index x)) = refl
form-known t (ItemForm.form (Form.name x)) = refl
form-known t (ItemForm.form (Form.offset x)) = refl
form-known t (ItemForm.form (Form.property x)) = refl

-- the forms that are known have a value
known-form : (t : ℕ) (p : Reader Unit) → form_of t ≡ is p → ItemForm t
unfolding form_of
known-form = beside-each (λ t p. ItemForm t) forms some-forms

headed-why : (t d p lo v : ℕ) (m : Res (List Row)) {x q r f : ℕ} → headed t d p lo v m ≡ refuse x q r f → m ≡ refuse x q r f
headed-why t d p lo v (ok rs n) e = clash (sym e)
headed-why t d p lo v (refuse y q t' g) e = e

plain-why : (m : Res Unit) {x q r f : ℕ} → then {B = List Row} m (λ u n. ok [] n) ≡ refuse x q r f → m ≡ refuse x q r f
plain-why m {x} {q} {r} {f} e = go (why m _ e)
  where
    go : Why {B = List Row} m (λ u n. ok [] n) x q r f → m ≡ refuse x q r f
    go (first g) = g
    go (later u n g h) = clash (sym h)

module _ (s : List ℕ) (bytes : Bytes s) where
  -- ---- a count, or a class and a count, and the members that are counted

  pub data Children (f : ℕ → Reader (List Row)) (k v x q r g : ℕ) : Type 0 where
    short : Cause s bytes (Cut 4) v x q → Children f k v x q r g
    counted : (n : ℕ) → n < 256 ^ 4 → At s v (be 4 n) → siblings f n (k + 1) s (v + 4) ≡ refuse x q r g → Children f k v x q r g

  children-cause : (f : ℕ → Reader (List Row)) (k v : ℕ) → v ≤ length s → (x q r g : ℕ) → children f k s v ≡ refuse x q r g → Children f k v x q r g
  unfolding children
  children-cause f k v le x q r g e = go (why (field 4 s v) _ e)
    where
      go : Why (field 4 s v) (λ n m. siblings f n (k + 1) s m) x q r g → Children f k v x q r g
      go (first h) = short (field-cause s bytes v le x q r g h)
      go (later n m h u) = let z = count-read s bytes v n m le h in counted n z.small z.stands (ap (λ (i : ℕ). siblings f n (k + 1) s i) z.next ∙ u)

  data Object (f : ℕ → Reader (List Row)) (k v x q r g : ℕ) : Type 0 where
    wrong : Cause s bytes WrongObject v x q → Object f k v x q r g
    counted : (b : List ℕ) (n : ℕ) → Class b → n < 256 ^ 4 → At s v (b ++ be 4 n) → siblings f n (k + 1) s (v + length (b ++ be 4 n)) ≡ refuse x q r g → Object f k v x q r g

  object-cause : (f : ℕ → Reader (List Row)) (k v : ℕ) → v ≤ length s → (x q r g : ℕ) → (class >>= (λ c. children f k)) s v ≡ refuse x q r g → Object f k v x q r g
  object-cause f k v le x q r g e = go (why (class s v) _ e)
    where
      more : (b : List ℕ) (m : ℕ) → Class b → At s v b → v + length b ≡ m → Children f k m x q r g → Object f k v x q r g
      more b m c h z (short w) = wrong (after s bytes b (length b) m refl h z w (λ l y o u. WrongObject.pairs c u))
      more b m c h z (counted n small a u) =
          let e : m + 4 ≡ v + length (b ++ be 4 n) = omega (arith, length-append b (be 4 n), length-be 4 n) in
          counted b n c small (at_next s v b (be 4 n) m z h a) (ap (λ (i : ℕ). siblings f n (k + 1) s i) (sym e) ∙ u)

      go : Why (class s v) (λ c m. children f k s m) x q r g → Object f k v x q r g
      go (first h) = wrong (also s bytes (class-cause s bytes v le x q r g h) (λ l y o u. WrongObject.class u))
      go (later u m h t) =
          let z = (class-reads s bytes).sound v le u m h in
          more z.0 m z.1 z.2 z.3 (children-cause f k m (omega (arith, at_in s v z.0 z.2, z.3)) x q r g t)

  -- ---- an item

  -- it is wrong up to its members, or one of these is refused
  data ItemCause (d k at x q r g : ℕ) : Type 0 where
    wrong : Cause s bytes WrongItem at x q → ItemCause d k at x q r g
    below : (kind n : ℕ) (c : Place) (b : List ℕ) → Item kind c n b → At s at (be 4 kind ++ b) → siblings (reader c d k) n (k + 1) s (at + length (be 4 kind ++ b)) ≡ refuse x q r g → ItemCause d k at x q r g

  module _ (d k at v kind : ℕ) (z : Counted s bytes at kind v) (x q r g : ℕ) where
    -- behind the type
    typed : (c : Place) (n : ℕ) (b : List ℕ) → Item kind c n b → At s v b → siblings (reader c d k) n (k + 1) s (v + length b) ≡ refuse x q r g → ItemCause d k at x q r g
    typed c n b i h u =
        let e : v + length b ≡ at + length (be 4 kind ++ b) = omega (arith, length-append (be 4 kind) b, length-be 4 kind, z.next) in
        below kind n c b i (at_next s at (be 4 kind) b v (omega (arith, length-be 4 kind, z.next)) z.stands h) (ap (λ (j : ℕ). siblings (reader c d k) n (k + 1) s j) (sym e) ∙ u)

    counted-cause : (c : Place) → ((n : ℕ) → n < 256 ^ 4 → Item kind c n (be 4 n)) → ((b : List ℕ) (y o : ℕ) → Cut 4 b y o → WrongItem (be 4 kind ++ b) y (4 + o)) → Children (reader c d k) k v x q r g → ItemCause d k at x q r g
    counted-cause c may to (short w) = wrong (behind-count s bytes z w to)
    counted-cause c may to (counted n small h u) =
        let e : v + 4 ≡ v + length (be 4 n) = ap (λ (j : ℕ). v + j) (sym (length-be 4 n)) in
        typed c n (be 4 n) (may n small) h (ap (λ (j : ℕ). siblings (reader c d k) n (k + 1) s j) (sym e) ∙ u)

    classed-cause : ((b : List ℕ) (n : ℕ) → n < 256 ^ 4 → Class b → Item kind Place.pairs n (b ++ be 4 n)) → ((b : List ℕ) (y o : ℕ) → WrongObject b y o → WrongItem (be 4 kind ++ b) y (4 + o))
        → Object (reader Place.pairs d k) k v x q r g → ItemCause d k at x q r g
    classed-cause may to (wrong w) = wrong (behind-count s bytes z w to)
    classed-cause may to (counted b n c small h u) = typed Place.pairs n (b ++ be 4 n) (may b n small c) h u

    array-cause : kind ≡ chars "ObAr" → array_of d k s v ≡ refuse x q r g → ItemCause d k at x q r g
    unfolding array_of
    array-cause t e = go (why (field 4 s v) _ e)
      where
        more : (m n : ℕ) → Counted s bytes v m n → Object (reader (Place.columns m) d k) k n x q r g → ItemCause d k at x q r g
        more m n y (wrong w) =
            let a : List ℕ = be 4 kind ++ be 4 m in
            let size : length a ≡ 8 = omega (arith, length-append (be 4 kind) (be 4 m), length-be 4 kind, length-be 4 m) in
            let st : At s at a = at_next s at (be 4 kind) (be 4 m) v (omega (arith, length-be 4 kind, z.next)) z.stands y.stands in
            wrong (after s bytes a 8 n size st (omega (arith, z.next, y.next)) w (λ b i o u.
            subst (λ (l : List ℕ). WrongItem l i (8 + o)) (sym (append_assoc (be 4 kind) (be 4 m) b)) (subst (λ (j : ℕ). WrongItem (be 4 j ++ (be 4 m ++ b)) i (8 + o)) (sym t) (WrongItem.array m y.small u))))
        more m n y (counted b i c small h u) =
            let l : List ℕ = be 4 m ++ (b ++ be 4 i) in
            let e : n + length (b ++ be 4 i) ≡ v + length l = omega (arith, length-append (be 4 m) (b ++ be 4 i), length-be 4 m, y.next) in
            typed (Place.columns m) i l (subst (λ (j : ℕ). Item j (Place.columns m) i l) (sym t) (Item.array m i y.small small c)) (at_next s v (be 4 m) (b ++ be 4 i) n (omega (arith, length-be 4 m, y.next)) y.stands h)
            (ap (λ (j : ℕ). siblings (reader (Place.columns m) d k) i (k + 1) s j) (sym e) ∙ u)

        go : Why (field 4 s v) (λ m n. (class >>= (λ c. children (array_pair m d k) k)) s n) x q r g → ItemCause d k at x q r g
        go (first h) = wrong (behind-count s bytes z (field-cause s bytes v z.inside x q r g h) (λ b y o u. subst (λ (j : ℕ). WrongItem (be 4 j ++ b) y (4 + o)) (sym t) (WrongItem.objects u)))
        go (later m n h u) = let y = count-read s bytes v m n z.inside h in more m n y (object-cause (array_pair m d k) k n y.inside x q r g u)

    value-cause : (sort : Sort) → Sorts s bytes kind sort → value_of (item d) d k sort s v ≡ refuse x q r g → ItemCause d k at x q r g
    unfolding object_of
    value-cause (leaf p) t e = wrong (behind-count s bytes z (t v z.inside x q r g (plain-why (p s v) e)) (λ b y o w. WrongItem.leaf w))
    value-cause list t e =
        counted-cause Place.items (λ n l. subst (λ (j : ℕ). Item j Place.items n (be 4 n)) (sym t) (Item.list n l))
        (λ b y o w. subst (λ (j : ℕ). WrongItem (be 4 j ++ b) y (4 + o)) (sym t) (WrongItem.list w)) (children-cause (reader Place.items d k) k v z.inside x q r g e)
    value-cause object (inl t) e =
        classed-cause (λ b n l c. subst (λ (j : ℕ). Item j Place.pairs n (b ++ be 4 n)) (sym t) (Item.object n l c))
        (λ b y o w. subst (λ (j : ℕ). WrongItem (be 4 j ++ b) y (4 + o)) (sym t) (WrongItem.object w)) (object-cause (reader Place.pairs d k) k v z.inside x q r g e)
    value-cause object (inr t) e =
        classed-cause (λ b n l c. subst (λ (j : ℕ). Item j Place.pairs n (b ++ be 4 n)) (sym t) (Item.global n l c))
        (λ b y o w. subst (λ (j : ℕ). WrongItem (be 4 j ++ b) y (4 + o)) (sym t) (WrongItem.global w)) (object-cause (reader Place.pairs d k) k v z.inside x q r g e)
    value-cause reference t e =
        counted-cause Place.forms (λ n l. subst (λ (j : ℕ). Item j Place.forms n (be 4 n)) (sym t) (Item.reference n l))
        (λ b y o w. subst (λ (j : ℕ). WrongItem (be 4 j ++ b) y (4 + o)) (sym t) (WrongItem.reference w)) (children-cause (reader Place.forms d k) k v z.inside x q r g e)
    value-cause array t e = array-cause t e

  item-cause : (d p k lo at : ℕ) → at ≤ length s → (x q r g : ℕ) → item (suc d) p k lo s at ≡ refuse x q r g → ItemCause d k at x q r g
  unfolding item
  item-cause d p k lo at le x q r g e = go (why (field 4 s at) _ e)
    where
      tag_cut : (b : List ℕ) (y o : ℕ) → Cut 4 b y o → WrongItem b y o
      tag_cut b y o (cut l) = WrongItem.type (Wrong.cut l)

      sorted : (t v : ℕ) → field 4 s at ≡ ok t v → (m : Known Sort) → sort_of t ≡ m → known m at (λ sort. headed t d p lo v (value_of (item d) d k sort s v)) ≡ refuse x q r g → ItemCause d k at x q r g
      sorted t v h (is sort) u w = value-cause d k at v t (count-read s bytes at t v le h) x q r g sort (sort-cause s bytes t sort u) (headed-why t d p lo v (value_of (item d) d k sort s v) w)
      sorted t v h unknown u w =
          let z = refusal_is w in
          let c = outside-here s bytes 4 (λ t. knows (sort_of t)) 4 ItemType type-known (λ e. omega arith) at t v le h (ap knows u) in
          wrong (also s bytes (subst₂ (λ (a b : ℕ). Cause s bytes (Wrong 4 (Number 4 ItemType) 4) at a b) z.0 z.1 c) (λ b y o i. WrongItem.type i))

      go : Why (field 4 s at) (λ t v. known (sort_of t) at (λ sort. headed t d p lo v (value_of (item d) d k sort s v))) x q r g → ItemCause d k at x q r g
      go (first h) = wrong (also s bytes (field-cause s bytes at le x q r g h) tag_cut)
      go (later t v h u) = sorted t v h (sort_of t) refl u

  -- ---- a member

  -- of nowhere there is no member, and an object array's number of objects has 32 bits
  abbrev Fits : Place → ℕ → Type 0
  Fits Place.items n = Unit
  Fits Place.pairs n = Unit
  Fits Place.forms n = Unit
  Fits Place.nowhere n = n ≡ 0
  Fits (Place.columns m) n = m < 256 ^ 4

  item-fits : {kind n : ℕ} {c : Place} {b : List ℕ} → Item kind c n b → Fits c n
  item-fits (Item.leaf x) = refl
  item-fits (Item.list n l) = tt
  item-fits (Item.object n l c) = tt
  item-fits (Item.global n l c) = tt
  item-fits (Item.reference n l) = tt
  item-fits (Item.array m n i l c) = i

  member-fits : {c kids : Place} {key b : List ℕ} {kind n : ℕ} → Member c key kind kids n b → Fits kids n
  member-fits (Member.item i) = item-fits i
  member-fits (Member.pair y i) = item-fits i
  member-fits (Member.form x) = refl
  member-fits (Member.column y x) = refl

  fewer : (c : Place) (n : ℕ) → Fits c (suc n) → Fits c n
  fewer Place.items n h = tt
  fewer Place.pairs n h = tt
  fewer Place.forms n h = tt
  fewer Place.nowhere n h = absurd (omega arith)
  fewer (Place.columns m) n h = h

  data MemberCause (c : Place) (d k lo x q r g : ℕ) : Type 0 where
    wrong : Cause s bytes (WrongMember c) lo x q → MemberCause c d k lo x q r g
    below : (key : List ℕ) (kind n : ℕ) (kids : Place) (b : List ℕ) → Member c key kind kids n b → At s lo (head key kind b) → siblings (reader kids d k) n (k + 1) s (lo + length (head key kind b)) ≡ refuse x q r g → MemberCause c d k lo x q r g

  module _ (d p k lo : ℕ) (le : lo ≤ length s) (x q r g : ℕ) where
    from-item : ItemCause d k lo x q r g → MemberCause Place.items d k lo x q r g
    from-item (wrong w) = wrong (also s bytes w (λ b y o i. WrongMember.item i))
    from-item (below kind n c b i h u) = below [] kind n c b (Member.item i) h u

    from-pair : (key : List ℕ) (e : ℕ) → Id key → At s lo key → lo + length key ≡ e → ItemCause d k e x q r g → MemberCause Place.pairs d k lo x q r g
    from-pair key e y h z (wrong w) = wrong (after s bytes key (length key) e refl h z w (λ b i o u. WrongMember.pair y u))
    from-pair key e y h z (below kind n c b i st u) =
        let l : List ℕ = be 4 kind ++ b in
        let w : e + length l ≡ lo + length (key ++ l) = omega (arith, length-append key l) in
        below key kind n c b (Member.pair y i) (at_next s lo key l e z h st) (ap (λ (j : ℕ). siblings (reader c d k) n (k + 1) s j) (sym w) ∙ u)

    pair-cause : keyed (item (suc d)) (suc d) p k s lo ≡ refuse x q r g → MemberCause Place.pairs d k lo x q r g
    unfolding keyed
    pair-cause e = go (why (id s lo) _ e)
      where
        go : Why (id s lo) (λ u n. item (suc d) p k lo s n) x q r g → MemberCause Place.pairs d k lo x q r g
        go (first h) = wrong (also s bytes (id-cause s bytes lo le x q r g h) (λ b y o u. WrongMember.key u))
        go (later a n h u) =
            let y = (id-reads s bytes).sound lo le a n h in
            from-pair y.0 n y.1 y.2 y.3 (item-cause d p k lo n (omega (arith, at_in s lo y.0 y.2, y.3)) x q r g u)

    -- behind a form
    ref-cause : (t v : ℕ) (f : Reader Unit) → Counted s bytes lo t v → form_of t ≡ is f → ref_value f s v ≡ refuse x q r g → MemberCause Place.forms d k lo x q r g
    unfolding ref_value
    ref-cause t v f z e h = go (why (class s v) _ h)
      where
        go : Why (class s v) (λ c n. f s n) x q r g → MemberCause Place.forms d k lo x q r g
        go (first u) = wrong (behind-count s bytes z (class-cause s bytes v z.inside x q r g u) (λ b y o w. WrongMember.class (known-form t f e) w))
        go (later c n u w) =
            let y = (class-reads s bytes).sound v z.inside c n u in
            let a : List ℕ = be 4 t ++ y.0 in
            let size : length a ≡ 4 + length y.0 = omega (arith, length-append (be 4 t) y.0, length-be 4 t) in
            let st : At s lo a = at_next s lo (be 4 t) y.0 v (omega (arith, length-be 4 t, z.next)) z.stands y.2 in
            wrong (after s bytes a (4 + length y.0) n size st (omega (arith, z.next, y.3)) (form-cause s bytes t f e n (omega (arith, at_in s v y.0 y.2, y.3)) x q r g w)
            (λ b i o j. subst (λ (l : List ℕ). WrongMember Place.forms l i (4 + length y.0 + o)) (sym (append_assoc (be 4 t) y.0 b)) (WrongMember.value y.1 j)))

    form-member : ref_item (suc d) p k s lo ≡ refuse x q r g → MemberCause Place.forms d k lo x q r g
    unfolding ref_item
    form-member e = go (why (field 4 s lo) _ e)
      where
        tag_cut : (b : List ℕ) (y o : ℕ) → Cut 4 b y o → WrongMember Place.forms b y o
        tag_cut b y o (cut l) = WrongMember.form (Wrong.cut l)

        formed : (t v : ℕ) → field 4 s lo ≡ ok t v → (m : Known (Reader Unit)) → form_of t ≡ m → known m lo (λ f. headed t d p lo v (plain (ref_value f) s v)) ≡ refuse x q r g → MemberCause Place.forms d k lo x q r g
        formed t v h (is f) u w = ref-cause t v f (count-read s bytes lo t v le h) u (plain-why (ref_value f s v) (headed-why t d p lo v (plain (ref_value f) s v) w))
        formed t v h unknown u w =
            let z = refusal_is w in
            let c = outside-here s bytes 4 (λ t. knows (form_of t)) 4 ItemForm form-known (λ e. omega arith) lo t v le h (ap knows u) in
            wrong (also s bytes (subst₂ (λ (a b : ℕ). Cause s bytes (Wrong 4 (Number 4 ItemForm) 4) lo a b) z.0 z.1 c) (λ b y o i. WrongMember.form i))

        go : Why (field 4 s lo) (λ t v. known (form_of t) lo (λ f. headed t d p lo v (plain (ref_value f) s v))) x q r g → MemberCause Place.forms d k lo x q r g
        go (first h) = wrong (also s bytes (field-cause s bytes lo le x q r g h) tag_cut)
        go (later t v h u) = formed t v h (form_of t) refl u

    array-member : (m : ℕ) → m < 256 ^ 4 → array_pair m (suc d) p k s lo ≡ refuse x q r g → MemberCause (Place.columns m) d k lo x q r g
    unfolding array_pair
    array-member m few e = go (why (id s lo) _ e)
      where
        more : (key : List ℕ) (n : ℕ) → Id key → At s lo key → lo + length key ≡ n → n ≤ length s → Why (judged 4 column_type s n) (λ t v. headed t d p lo v (plain (column m) s v)) x q r g → MemberCause (Place.columns m) d k lo x q r g
        more key n y h z inside (first u) =
            wrong (after s bytes key (length key) n refl h z (wrong-cause s bytes 4 (λ t. eqb t (chars "UnFl")) 4 (λ t. t ≡ chars "UnFl") (λ v p. eq-eqb v (chars "UnFl") p) (λ e. omega arith) n inside x q r g u) (λ b i o w. WrongMember.column_type y w))
        more key n y h z inside (later t v u w) =
            let c = number-sound 4 (column-number s bytes) n t v inside u in
            let a : List ℕ = key ++ be 4 (chars "UnFl") in
            let size : length a ≡ length key + 4 = omega (arith, length-append key (be 4 (chars "UnFl")), length-be 4 (chars "UnFl")) in
            let st : At s lo a = at_next s lo key (be 4 (chars "UnFl")) n z h (subst (λ (j : ℕ). At s n (be 4 j)) c.holds c.stands) in
            wrong (after s bytes a (length key + 4) v size st (omega (arith, c.next)) (column-cause s bytes m few v c.inside x q r g (plain-why (column m s v) (headed-why t d p lo v (plain (column m) s v) w)))
            (λ b i o j. subst (λ (l : List ℕ). WrongMember (Place.columns m) l i (length key + 4 + o)) (sym (append_assoc key (be 4 (chars "UnFl")) b)) (WrongMember.column y j)))

        go : Why (id s lo) (λ u e. then (judged 4 column_type s e) (λ t v. headed t d p lo v (plain (column m) s v))) x q r g → MemberCause (Place.columns m) d k lo x q r g
        go (first h) = wrong (also s bytes (id-cause s bytes lo le x q r g h) (λ b y o u. WrongMember.column_key u))
        go (later a n h u) =
            let y = (id-reads s bytes).sound lo le a n h in
            more y.0 n y.1 y.2 y.3 (omega (arith, at_in s lo y.0 y.2, y.3)) (why (judged 4 column_type s n) _ u)

    member-cause : (c : Place) (n : ℕ) → Fits c (suc n) → reader c (suc d) p k s lo ≡ refuse x q r g → MemberCause c d k lo x q r g
    member-cause Place.items n h e = from-item (item-cause d p k lo lo le x q r g e)
    member-cause Place.pairs n h e = pair-cause e
    member-cause Place.forms n h e = form-member e
    member-cause Place.nowhere n h e = absurd (omega arith)
    member-cause (Place.columns m) n h e = array-member m h e

  -- ---- members, one after the other

  abbrev Damages : ℕ → Type 0
  Damages left = (c : Place) (d p n k lo : ℕ) → Fits c n → left + d ≡ 33 → lo ≤ length s → (x q r g : ℕ) → siblings (reader c left p) n k s lo ≡ refuse x q r g → Cause s bytes (Damaged c d n) lo x q

  none-refused : (f : ℕ → Reader (List Row)) (k lo : ℕ) {x q r g : ℕ} {X : Type 0} → siblings f 0 k s lo ≡ refuse x q r g → X
  unfolding siblings
  none-refused f k lo e = clash (sym e)

  -- the first is refused, or those after it
  data Sibling (f : ℕ → Reader (List Row)) (n k lo x q r g : ℕ) : Type 0 where
    refused : f k s lo ≡ refuse x q r g → Sibling f n k lo x q r g
    passed : (rs : List Row) (m : ℕ) → f k s lo ≡ ok rs m → siblings f n (k + length rs) s m ≡ refuse x q r g → Sibling f n k lo x q r g

  sibling-why : (f : ℕ → Reader (List Row)) (n k lo : ℕ) {x q r g : ℕ} → siblings f (suc n) k s lo ≡ refuse x q r g → Sibling f n k lo x q r g
  unfolding siblings
  sibling-why f n k lo {x} {q} {r} {g} e = go (why (f k s lo) _ e)
    where
      more : (rs : List Row) (m : ℕ) → f k s lo ≡ ok rs m → Why (siblings f n (k + length rs) s m) (λ qs e. ok (rs ++ qs) e) x q r g → Sibling f n k lo x q r g
      more rs m h (Why.first u) = passed rs m h u
      more rs m h (Why.later qs end u w) = clash (sym w)

      go : Why (f k s lo) (λ rs m. then (siblings f n (k + length rs) s m) (λ qs e. ok (rs ++ qs) e)) x q r g → Sibling f n k lo x q r g
      go (Why.first h) = refused h
      go (Why.later rs m h u) = more rs m h (why (siblings f n (k + length rs) s m) _ u)

  deep-cause : (c : Place) (d n p k lo : ℕ) → 0 + d ≡ 33 → lo ≤ length s → (x q r g : ℕ) → Sibling (reader c 0 p) n k lo x q r g → Cause s bytes (Damaged c d (suc n)) lo x q
  unfolding At
  deep-cause c d n p k lo z le x q r g (passed rs m h u) = clash (sym (too_deep s c p k lo) ∙ h)
  deep-cause c d n p k lo z le x q r g (refused h) =
      let y = refusal_is (sym (too_deep s c p k lo) ∙ h) in
      let e : 33 ≡ d = omega arith in
      let c10 : Cause s bytes (Damaged c 33 (suc n)) lo 10 lo = record { span = []; from = 0; is = Damaged.deep; there = record { stands = le; ends = λ w. absurd (omega arith) }; place = add-zero lo } in
      subst (λ (j : ℕ). Cause s bytes (Damaged c j (suc n)) lo x q) e (subst₂ (λ (a b : ℕ). Cause s bytes (Damaged c 33 (suc n)) lo a b) y.0 y.1 c10)

  module _ (left : ℕ) (deeper : Damages left) (c : Place) (d p : ℕ) (level : suc left + d ≡ 33) where
    shallow : d ≤ 32
    shallow = omega (arith, level)

    first-cause : (n k lo : ℕ) → (x q r g : ℕ) → MemberCause c left k lo x q r g → Cause s bytes (Damaged c d (suc n)) lo x q
    first-cause n k lo x q r g (wrong w) = also s bytes w (λ b y o u. Damaged.here shallow u)
    first-cause n k lo x q r g (below key kind m kids b may st u) =
        let hd : List ℕ = head key kind b in
        let z = deeper kids (d + 1) k m (k + 1) (lo + length hd) (member-fits may) (omega (arith, level)) (at_in s lo hd st) x q r g u in
        after s bytes hd (length hd) (lo + length hd) refl st refl z (λ l y o w. Damaged.under shallow may w)

    later-cause : (n k lo m : ℕ) (rs : List Row) → lo ≤ length s → (x q : ℕ) → reader c (suc left) p k s lo ≡ ok rs m → (m ≤ length s → Cause s bytes (Damaged c d n) m x q) → Cause s bytes (Damaged c d (suc n)) lo x q
    later-cause n k lo m rs le x q h more =
        let r = one-sound s bytes left k p lo c m rs le h in
        let hd : List ℕ = head r.key r.kind r.fields in
        let y = forest-sound s bytes left r.below (d + 1) k r.number (k + 1) (lo + length hd) m r.kids (omega (arith, level)) (at_in s lo hd r.stands) r.children in
        let kb : List ℕ = tree.bytes y.tree in
        let a : List ℕ = hd ++ kb in
        let st : At s lo a = at_next s lo hd kb (lo + length hd) refl r.stands y.stands in
        let may : Member c r.key r.kind r.below (count y.tree) r.fields = subst (λ (i : ℕ). Member c r.key r.kind r.below i r.fields) (sym y.number) r.may in
        let inside : m ≤ length s = omega (arith, at_in s (lo + length hd) kb y.stands, y.ends) in
        after s bytes a (length hd + length kb) m (length-append hd kb) st (omega (arith, y.ends)) (more inside) (λ b i o w.
        subst (λ (l : List ℕ). Damaged c d (suc n) l i (length hd + length kb + o)) (sym (append_assoc hd kb b)) (Damaged.behind y.tree shallow may y.allowed w))

    level-cause : (n k lo : ℕ) → Fits c n → lo ≤ length s → (x q r g : ℕ) → siblings (reader c (suc left) p) n k s lo ≡ refuse x q r g → Cause s bytes (Damaged c d n) lo x q
    level-cause zero k lo fits le x q r g e = none-refused (reader c (suc left) p) k lo e
    level-cause (suc n) k lo fits le x q r g e = go (λ rs m inside u. level-cause n (k + length rs) m (fewer c n fits) inside x q r g u) (sibling-why (reader c (suc left) p) n k lo e)
      where
        go : ((rs : List Row) (m : ℕ) → m ≤ length s → siblings (reader c (suc left) p) n (k + length rs) s m ≡ refuse x q r g → Cause s bytes (Damaged c d n) m x q) → Sibling (reader c (suc left) p) n k lo x q r g → Cause s bytes (Damaged c d (suc n)) lo x q
        go rec (refused h) = first-cause n k lo x q r g (member-cause left p k lo le x q r g c n fits h)
        go rec (passed rs m h u) = later-cause n k lo m rs le x q h (λ inside. rec rs m inside u)

  damages : (left : ℕ) → Damages left
  damages zero c d p zero k lo fits z le x q r g e = none-refused (reader c 0 p) k lo e
  damages zero c d p (suc n) k lo fits z le x q r g e = deep-cause c d n p k lo z le x q r g (sibling-why (reader c 0 p) n k lo e)
  damages (suc left) c d p n k lo fits z le x q r g e = level-cause left (damages left) c d p z n k lo fits le x q r g e

  -- ---- the file

  pub root-cause : (x q r g : ℕ) → root s 0 ≡ refuse x q r g → Cause s bytes DamagedFile 0 x q
  unfolding root object_of
  root-cause x q r g e = go (why (judged 4 version s 0) _ e)
    where
      le : 0 ≤ length s
      le = omega arith

      more : (v n : ℕ) → judged 4 version s 0 ≡ ok v n → Object (reader Place.pairs 32 0) 0 n x q r g → Cause s bytes DamagedFile 0 x q
      more v n h (wrong w) =
          let z = number-sound 4 (version-number s bytes) 0 v n le h in
          after s bytes (be 4 16) 4 n (length-be 4 16) (subst (λ (j : ℕ). At s 0 (be 4 j)) z.holds z.stands) z.next w (λ b y o u. DamagedFile.root u)
      more v n h (counted c i of few st u) =
          let z = number-sound 4 (version-number s bytes) 0 v n le h in
          let hd : List ℕ = c ++ be 4 i in
          let a : List ℕ = be 4 16 ++ hd in
          let size : length a ≡ 8 + length c = omega (arith, length-append (be 4 16) hd, length-append c (be 4 i), length-be 4 16, length-be 4 i) in
          let sa : At s 0 a = at_next s 0 (be 4 16) hd n (omega (arith, length-be 4 16, z.next)) (subst (λ (j : ℕ). At s 0 (be 4 j)) z.holds z.stands) st in
          let y = damages 32 Place.pairs 1 0 i 1 (n + length hd) tt refl (at_in s n hd st) x q r g u in
          after s bytes a (8 + length c) (n + length hd) size sa (omega (arith, z.next, length-append c (be 4 i), length-be 4 i)) y (λ b j o w.
          subst (λ (l : List ℕ). DamagedFile l j (8 + length c + o)) (ap (λ (l : List ℕ). be 4 16 ++ l) (sym (append_assoc c (be 4 i) b)) ∙ sym (append_assoc (be 4 16) hd b)) (DamagedFile.pairs i of few w))

      go : Why (judged 4 version s 0) (λ v n. headed (chars "Objc") 32 0 0 n (object_of (item 32) 32 0 s n)) x q r g → Cause s bytes DamagedFile 0 x q
      go (Why.first h) = also s bytes (wrong-cause s bytes 4 (λ v. eqb v 16) 3 (λ v. v ≡ 16) (λ v p. eq-eqb v 16 p) (λ e. omega arith) 0 le x q r g h) (λ b y o w. DamagedFile.version w)
      go (Why.later v n h u) =
          let z = number-sound 4 (version-number s bytes) 0 v n le h in
          more v n h (object-cause (reader Place.pairs 32 0) 0 n z.inside x q r g (headed-why (chars "Objc") 32 0 0 n (object_of (item 32) 32 0 s n) u))
