-- The reader of one member accepts exactly the heads that may stand in its place, and then the member's children. Assumes nothing.
use Prim.Native.Nat.{ℕ, suc, ◌+◌, ◌^◌, ◌≤◌, ◌<◌}
use mathlib.Core.Path.{◌≡◌, refl, sym, ap, ap₂, ◌∙◌, subst}
use mathlib.Core.List.{List, [], ◌∷◌, ◌++◌}
use mathlib.Core.Logic.{⊎_elim}
use lib.ListN.{length, length-append}
use native.Mathlib.Omega.{arith}
use Rattle.algebra.specs.Chars.{chars}
use Rattle.algebra.specs.Numbers.{be, At, Bytes}
use Rattle.algebra.specs.Reader.{Res, Reader, ok, then, field, judged, ◌>>=◌}
use Rattle.algebra.proofs.Places.{length-be, at_in, at_left, at_right, at_after, at_next}
use Rattle.algebra.proofs.Inverse.{clash, then-inv}
use Rattle.descriptor.specs.Reading.{is, id, class, Sort, leaf, list, object, reference, array, sort_of, form_of, Row, headed, plain, siblings, children, ref_value, ref_item, column, column_type, array_pair, array_of, keyed, object_of, value_of, item}
use Rattle.descriptor_tree.specs.Tree.{Place, Item, Member, head}
use Rattle.algebra.proofs.Sets.{field-numbers, tag-numbers, number-whole, number-sound}
use Rattle.descriptor_tree.proofs.Fields.{id-reads, column-reads}
use Rattle.descriptor_tree.proofs.Sizes.{length-head}
use Rattle.descriptor_tree.proofs.Heads.{reader, row_of, item-small, ref-small, leaf-whole, Sorted, sorted, ref-whole, ref-sound, known-inv, headed-inv, plain-inv, children-at, class-at, children-inv, class-inv}

module _ (s : List ℕ) (bytes : Bytes s) (d k : ℕ) where
  -- ---- what follows an item's type

  pub value-whole : {kind n : ℕ} {c : Place} {b : List ℕ} → Item kind c n b → (v : ℕ) (out : Res (List Row)) → At s v b → siblings (reader c d k) n (k + 1) s (v + length b) ≡ out
      → (sort : Sort) × (sort_of kind ≡ is sort) × (value_of (item d) d k sort s v ≡ out)
  unfolding sort_of siblings object_of array_of
  value-whole {b = b} (Item.leaf x) v out h g =
      let u = leaf-whole s bytes x v h in
      (leaf u.0, u.1, ap (λ (r : Res Unit). then r (λ a q. ok [] q)) u.2 ∙ g)
  value-whole (Item.list n l) v out h g =
      let z : v + 4 ≡ v + length (be 4 n) = omega (arith, length-be 4 n) in
      (list, refl, children-at s bytes (reader Place.items d k) k v n l h ∙ ap (λ (i : ℕ). siblings (reader Place.items d k) n (k + 1) s i) z ∙ g)
  value-whole (Item.object n {b = b} l c) v out h g = (object, refl, class-at s bytes (reader Place.pairs d k) k v n b l c h ∙ g)
  value-whole (Item.global n {b = b} l c) v out h g = (object, refl, class-at s bytes (reader Place.pairs d k) k v n b l c h ∙ g)
  value-whole (Item.reference n l) v out h g =
      let z : v + 4 ≡ v + length (be 4 n) = omega (arith, length-be 4 n) in
      (reference, refl, children-at s bytes (reader Place.forms d k) k v n l h ∙ ap (λ (i : ℕ). siblings (reader Place.forms d k) n (k + 1) s i) z ∙ g)
  value-whole (Item.array m n {b = b} i l c) v out h g =
      let f : ℕ → Reader (List Row) = reader (Place.columns m) d k in
      let w : v + length (be 4 m) ≡ v + 4 = ap (λ (z : ℕ). v + z) (length-be 4 m) in
      let hb : At s (v + 4) (b ++ be 4 n) = at_after s v (be 4 m) (b ++ be 4 n) (v + 4) w h in
      let z : v + 4 + length (b ++ be 4 n) ≡ v + length (be 4 m ++ (b ++ be 4 n)) = omega (arith, length-append (be 4 m) (b ++ be 4 n)) in
      let a : field 4 s v ≡ ok m (v + 4) = number-whole 4 (field-numbers s bytes 4) v m i tt (at_left s v (be 4 m) (b ++ be 4 n) h) in
      (array, refl, ap (λ (r : Res ℕ). then r (λ m q. (class >>= (λ c. children (array_pair m d k) k)) s q)) a ∙ class-at s bytes f k (v + 4) n b l c hb ∙ ap (λ (i : ℕ). siblings f n (k + 1) s i) z ∙ g)

  -- what was read of an item of a type behind it
  pub record Behind (kind v : ℕ) (kids : List Row) (e : ℕ) : Type 0 where
    pub below : Place
    pub number : ℕ
    pub fields : List ℕ
    pub may : Item kind below number fields
    pub stands : At s v fields
    pub children : siblings (reader below d k) number (k + 1) s (v + length fields) ≡ ok kids e

  -- a count and the members that it counts
  counted-behind : {kind v e : ℕ} {kids : List Row} (below : Place) → v ≤ length s → ((n : ℕ) → n < 256 ^ 4 → Item kind below n (be 4 n)) → children (reader below d k) k s v ≡ ok kids e → Behind kind v kids e
  counted-behind {v = v} below le may h =
      let u = children-inv s bytes (reader below d k) k v le h in
      let n : ℕ = u.0 in
      let z : v + 4 ≡ v + length (be 4 n) = omega (arith, length-be 4 n) in
      record {
        below = below;
        number = n;
        fields = be 4 n;
        may = may n u.1.small;
        stands = u.1.stands;
        children = ap (λ (i : ℕ). siblings (reader below d k) n (k + 1) s i) (sym z) ∙ u.2;
      }

  pub value-sound : (kind v e : ℕ) (kids : List Row) (sort : Sort) → v ≤ length s → Sorted s bytes kind sort → value_of (item d) d k sort s v ≡ ok kids e → Behind kind v kids e
  unfolding siblings object_of array_of
  value-sound kind v e kids (leaf p) le t h =
      let u = plain-inv p s v h in
      let x = t v le tt e u.0 in
      record { below = Place.nowhere; number = 0; fields = x.0; may = Item.leaf x.1; stands = x.2; children = ap₂ (λ (i : ℕ) (l : List Row). ok l i) x.3 u.1 }
  value-sound kind v e kids list le t h = counted-behind Place.items le (λ n l. subst (λ (i : ℕ). Item i Place.items n (be 4 n)) (sym t) (Item.list n l)) h
  value-sound kind v e kids object le t h =
      let u = class-inv s bytes (reader Place.pairs d k) k v le h in
      let b : List ℕ = u.0 in
      let n : ℕ = u.1 in
      let i : Item kind Place.pairs n (b ++ be 4 n) = ⊎_elim
      (λ z. subst (λ (i : ℕ). Item i Place.pairs n (b ++ be 4 n)) (sym z) (Item.object n u.3 u.2))
      (λ z. subst (λ (i : ℕ). Item i Place.pairs n (b ++ be 4 n)) (sym z) (Item.global n u.3 u.2)) t in
      record { below = Place.pairs; number = n; fields = b ++ be 4 n; may = i; stands = u.4; children = u.5 }
  value-sound kind v e kids reference le t h = counted-behind Place.forms le (λ n l. subst (λ (i : ℕ). Item i Place.forms n (be 4 n)) (sym t) (Item.reference n l)) h
  value-sound kind v e kids array le t h =
      let w = then-inv (field 4 s v) _ h in
      let m : ℕ = w.0 in
      let a = number-sound 4 (field-numbers s bytes 4) v m w.1 le w.2 in
      let u = class-inv s bytes (reader (Place.columns m) d k) k w.1 a.inside w.3 in
      let b : List ℕ = u.0 in
      let n : ℕ = u.1 in
      let l : List ℕ = be 4 m ++ (b ++ be 4 n) in
      let q : v + length (be 4 m) ≡ w.1 = omega (arith, length-be 4 m, a.next) in
      let z : w.1 + length (b ++ be 4 n) ≡ v + length l = omega (arith, length-append (be 4 m) (b ++ be 4 n)) in
      record {
        below = Place.columns m;
        number = n;
        fields = l;
        may = subst (λ (i : ℕ). Item i (Place.columns m) n l) (sym t) (Item.array m n a.small u.3 u.2);
        stands = at_next s v (be 4 m) (b ++ be 4 n) w.1 q a.stands u.4;
        children = ap (λ (i : ℕ). siblings (reader (Place.columns m) d k) n (k + 1) s i) (sym z) ∙ u.5;
      }

  -- ---- an item, whose row starts at lo

  module _ (p lo : ℕ) where
    item-whole : (at : ℕ) {kind n : ℕ} {c : Place} {b : List ℕ} (out : Res (List Row)) → Item kind c n b → At s at (be 4 kind ++ b) → siblings (reader c d k) n (k + 1) s (at + length (be 4 kind ++ b)) ≡ out
        → item (suc d) p k lo s at ≡ headed kind d p lo (at + 4) out
    unfolding item
    item-whole at {kind} {n} {c} {b} out i h g =
        let w : at + length (be 4 kind) ≡ at + 4 = ap (λ (z : ℕ). at + z) (length-be 4 kind) in
        let z : at + 4 + length b ≡ at + length (be 4 kind ++ b) = omega (arith, length-append (be 4 kind) b) in
        let u = value-whole i (at + 4) out (at_after s at (be 4 kind) b (at + 4) w h) (ap (λ (q : ℕ). siblings (reader c d k) n (k + 1) s q) z ∙ g) in
        rw (number-whole 4 (field-numbers s bytes 4) at kind (item-small i) tt (at_left s at (be 4 kind) b h)) (rw u.1 (ap (headed kind d p lo (at + 4)) u.2))

    pub record Read-item (at : ℕ) (rs : List Row) (e : ℕ) : Type 0 where
      pub kind : ℕ
      pub below : Place
      pub number : ℕ
      pub fields : List ℕ
      pub kids : List Row
      pub may : Item kind below number fields
      pub stands : At s at (be 4 kind ++ fields)
      pub children : siblings (reader below d k) number (k + 1) s (at + length (be 4 kind ++ fields)) ≡ ok kids e
      pub rows : row_of kind d p lo (at + 4) e ∷ kids ≡ rs

    item-sound : (at e : ℕ) (rs : List Row) → at ≤ length s → item (suc d) p k lo s at ≡ ok rs e → Read-item at rs e
    unfolding item
    item-sound at e rs le h =
        let w = then-inv (field 4 s at) _ h in
        let kind : ℕ = w.0 in
        let a = number-sound 4 (field-numbers s bytes 4) at kind w.1 le w.2 in
        let x = known-inv (sort_of kind) at _ w.3 in
        let y = headed-inv kind d p lo w.1 (value_of (item d) d k x.0 s w.1) x.2 in
        let r = value-sound kind w.1 e y.0 x.0 a.inside (sorted s bytes kind x.0 x.1) y.1 in
        let q : at + length (be 4 kind) ≡ w.1 = omega (arith, length-be 4 kind, a.next) in
        let z : w.1 + length r.fields ≡ at + length (be 4 kind ++ r.fields) = omega (arith, length-append (be 4 kind) r.fields) in
        record {
          kind = kind;
          below = r.below;
          number = r.number;
          fields = r.fields;
          kids = y.0;
          may = r.may;
          stands = at_next s at (be 4 kind) r.fields w.1 q a.stands r.stands;
          children = ap (λ (i : ℕ). siblings (reader r.below d k) r.number (k + 1) s i) (sym z) ∙ r.children;
          rows = ap (λ (i : ℕ). row_of kind d p lo i e ∷ y.0) a.next ∙ y.2;
        }

    -- ---- a member

    pub one-whole : {c below : Place} {key b : List ℕ} {kind n : ℕ} → Member c key kind below n b → (out : Res (List Row)) → At s lo (head key kind b)
        → siblings (reader below d k) n (k + 1) s (lo + length (head key kind b)) ≡ out → reader c (suc d) p k s lo ≡ headed kind d p lo (lo + length key + 4) out
    unfolding keyed ref_item array_pair siblings
    one-whole (Member.item {kind = kind} i) out h g =
        let z : lo + 4 ≡ lo + 0 + 4 = omega arith in
        item-whole lo out i h g ∙ ap (λ (v : ℕ). headed kind d p lo v out) z
    one-whole (Member.pair {key = key} {kind = kind} {n = n} {c = c} {b = b} y i) out h g =
        let u = (id-reads s bytes).complete lo key y (at_left s lo key (be 4 kind ++ b) h) in
        let z : lo + length key + length (be 4 kind ++ b) ≡ lo + length (head key kind b) = omega (arith, length-append key (be 4 kind ++ b)) in
        let x = item-whole (lo + length key) out i (at_right s lo key (be 4 kind ++ b) h) (ap (λ (q : ℕ). siblings (reader c d k) n (k + 1) s q) z ∙ g) in
        ap (λ (r : Res Unit). then r (λ a q. item (suc d) p k lo s q)) u.1 ∙ x
    one-whole (Member.form {kind = kind} {b = b} x) out h g =
        let w : lo + length (be 4 kind) ≡ lo + 4 = ap (λ (z : ℕ). lo + z) (length-be 4 kind) in
        let u = ref-whole s bytes kind b x (lo + 4) (at_after s lo (be 4 kind) b (lo + 4) w h) in
        let z : lo + 4 + length b ≡ lo + length (be 4 kind ++ b) = omega (arith, length-append (be 4 kind) b) in
        let v : lo + 4 ≡ lo + 0 + 4 = omega arith in
        let o : plain (ref_value u.0) s (lo + 4) ≡ out = ap (λ (r : Res Unit). then r (λ a q. ok [] q)) u.2 ∙ ap (λ (i : ℕ). ok [] i) z ∙ g in
        rw (number-whole 4 (field-numbers s bytes 4) lo kind (ref-small x) tt (at_left s lo (be 4 kind) b h)) (rw u.1 (ap (headed kind d p lo (lo + 4)) o ∙ ap (λ (i : ℕ). headed kind d p lo i out) v))
    one-whole (Member.column {m = m} {key = key} {b = b} y x) out h g =
        let t : ℕ = (chars "UnFl") in
        let u = (id-reads s bytes).complete lo key y (at_left s lo key (be 4 t ++ b) h) in
        let at : ℕ = lo + length key in
        let ht = at_right s lo key (be 4 t ++ b) h in
        let w : at + length (be 4 t) ≡ at + 4 = ap (λ (z : ℕ). at + z) (length-be 4 t) in
        let a = number-whole 4 (tag-numbers s bytes 4 t _) at t (omega arith) refl (at_left s at (be 4 t) b ht) in
        let v = (column-reads s bytes m).complete (at + 4) b x (at_after s at (be 4 t) b (at + 4) w ht) in
        let z : at + 4 + length b ≡ lo + length (head key t b) = omega (arith, length-head key t b) in
        let o : plain (column m) s (at + 4) ≡ out = ap (λ (r : Res Unit). then r (λ a q. ok [] q)) v.1 ∙ ap (λ (i : ℕ). ok [] i) z ∙ g in
        ap (λ (r : Res Unit). then r (λ u e. then (judged 4 column_type s e) (λ t v. headed t d p lo v (plain (column m) s v)))) u.1
        ∙ ap (λ (r : Res ℕ). then r (λ t v. headed t d p lo v (plain (column m) s v))) a ∙ ap (headed t d p lo (at + 4)) o

    pub record Read-one (c : Place) (rs : List Row) (e : ℕ) : Type 0 where
      pub key : List ℕ
      pub kind : ℕ
      pub below : Place
      pub number : ℕ
      pub fields : List ℕ
      pub kids : List Row
      pub may : Member c key kind below number fields
      pub stands : At s lo (head key kind fields)
      pub children : siblings (reader below d k) number (k + 1) s (lo + length (head key kind fields)) ≡ ok kids e
      pub rows : row_of kind d p lo (lo + length key + 4) e ∷ kids ≡ rs

    pub one-sound : (c : Place) (e : ℕ) (rs : List Row) → lo ≤ length s → reader c (suc d) p k s lo ≡ ok rs e → Read-one c rs e
    unfolding keyed ref_item array_pair siblings
    one-sound Place.items e rs le h =
        let r = item-sound lo e rs le h in
        let z : lo + 0 + 4 ≡ lo + 4 = omega arith in
        record {
          key = [];
          kind = r.kind;
          below = r.below;
          number = r.number;
          fields = r.fields;
          kids = r.kids;
          may = Member.item r.may;
          stands = r.stands;
          children = r.children;
          rows = ap (λ (i : ℕ). row_of r.kind d p lo i e ∷ r.kids) z ∙ r.rows;
        }
    one-sound Place.pairs e rs le h =
        let w = then-inv (id s lo) _ h in
        let y = (id-reads s bytes).sound lo le w.0 w.1 w.2 in
        let key : List ℕ = y.0 in
        let r = item-sound (lo + length key) e rs (omega (arith, at_in s lo key y.2)) (ap (λ (i : ℕ). item (suc d) p k lo s i) y.3 ∙ w.3) in
        let l : List ℕ = be 4 r.kind ++ r.fields in
        let z : lo + length key + length l ≡ lo + length (key ++ l) = omega (arith, length-append key l) in
        record {
          key = key;
          kind = r.kind;
          below = r.below;
          number = r.number;
          fields = r.fields;
          kids = r.kids;
          may = Member.pair y.1 r.may;
          stands = at_next s lo key l (lo + length key) refl y.2 r.stands;
          children = ap (λ (i : ℕ). siblings (reader r.below d k) r.number (k + 1) s i) (sym z) ∙ r.children;
          rows = r.rows;
        }
    one-sound Place.forms e rs le h =
        let w = then-inv (field 4 s lo) _ h in
        let kind : ℕ = w.0 in
        let a = number-sound 4 (field-numbers s bytes 4) lo kind w.1 le w.2 in
        let x = known-inv (form_of kind) lo _ w.3 in
        let y = headed-inv kind d p lo w.1 (plain (ref_value x.0) s w.1) x.2 in
        let u = plain-inv (ref_value x.0) s w.1 y.1 in
        let r = ref-sound s bytes kind x.0 x.1 w.1 a.inside tt e u.0 in
        let q : lo + length (be 4 kind) ≡ w.1 = omega (arith, length-be 4 kind, a.next) in
        let z : lo + length (be 4 kind ++ r.0) ≡ e = omega (arith, length-append (be 4 kind) r.0, r.3) in
        let v : lo + 0 + 4 ≡ w.1 = omega (arith, a.next) in
        record {
          key = [];
          kind = kind;
          below = Place.nowhere;
          number = 0;
          fields = r.0;
          kids = y.0;
          may = Member.form r.1;
          stands = at_next s lo (be 4 kind) r.0 w.1 q a.stands r.2;
          children = ap₂ (λ (i : ℕ) (l : List Row). ok l i) z u.1;
          rows = ap (λ (i : ℕ). row_of kind d p lo i e ∷ y.0) v ∙ y.2;
        }
    one-sound Place.nowhere e rs le h = clash h
    one-sound (Place.columns m) e rs le h =
        let t : ℕ = (chars "UnFl") in
        let f = then-inv (id s lo) _ h in
        let i = (id-reads s bytes).sound lo le f.0 f.1 f.2 in
        let key : List ℕ = i.0 in
        let g = then-inv (judged 4 column_type s f.1) _ f.3 in
        let w = number-sound 4 (tag-numbers s bytes 4 t _) f.1 g.0 g.1 (omega (arith, at_in s lo key i.2, i.3)) g.2 in
        let y = headed-inv g.0 d p lo g.1 (plain (column m) s g.1) g.3 in
        let u = plain-inv (column m) s g.1 y.1 in
        let r = (column-reads s bytes m).sound g.1 w.inside tt e u.0 in
        let b : List ℕ = r.0 in
        let q : f.1 + length (be 4 t) ≡ g.1 = omega (arith, length-be 4 t, w.next) in
        let z : lo + length (head key t b) ≡ e = omega (arith, length-head key t b, i.3, w.next, r.3) in
        let v : lo + length key + 4 ≡ g.1 = omega (arith, i.3, w.next) in
        record {
          key = key;
          kind = t;
          below = Place.nowhere;
          number = 0;
          fields = b;
          kids = y.0;
          may = Member.column i.1 r.1;
          stands = at_next s lo key (be 4 t ++ b) f.1 i.3 i.2 (at_next s f.1 (be 4 t) b g.1 q (subst (λ (z : ℕ). At s f.1 (be 4 z)) w.holds w.stands) r.2);
          children = ap₂ (λ (i : ℕ) (l : List Row). ok l i) z u.1;
          rows = ap₂ (λ (n i : ℕ). row_of n d p lo i e ∷ y.0) (sym w.holds) v ∙ y.2;
        }
