-- A head that is accepted, and the entry taken from it: its pieces stand where the head was read, and ask for that head. Assumes nothing.
use Prim.Native.Nat.{ℕ, ◌+◌, ◌^◌, ◌≤◌, ◌<◌}
use mathlib.Core.Path.{◌≡◌, refl, sym, ap, ◌∙◌, subst, subst₂}
use mathlib.Core.List.{List, [], ◌∷◌}
use mathlib.Core.Bool.{Bool, true}
use lib.Dec.{eqb}
use lib.ListN.{length}
use native.Mathlib.Omega.{arith}
use native.Mathlib.Nat.{add-zero}
use Rattle.algebra.specs.Chars.{chars}
use Rattle.algebra.specs.Numbers.{num, Bytes}
use Rattle.algebra.proofs.Places.{num-lt}
use Rattle.algebra.specs.Reader.{ok, Reader, then, pick, field, judged}
use Rattle.algebra.proofs.Inverse.{clash, ok-value, ok-place, then-inv, unless-fine, field-inv, judged-inv}
use Rattle.descriptor.specs.Reading.{Known, is, unknown, beside, known, id, Sort, sort_of, form_of, ref_value, column, column_type}
use Rattle.descriptor_heads.specs.Heads as h
use Rattle.descriptor_heads.specs.Heads.{Due, items, pairs, columns, Head, Opened, Stack, after, opens, item_head, member_head, bare, root_head}
use Rattle.descriptor_entry.specs.Pieces.{Piece, number, size}
use Rattle.descriptor_entry.specs.Shapes.{Entry, number_in, kind_of, item_shapes, form_shapes, shape_in, item_shape, form_shape, column_shape, shape_of, both, fields_of}
use Rattle.descriptor_entry.specs.Entries.{key_pieces, objects_due, field_pieces, head_pieces, next, Words}
use Rattle.descriptor_entry.specs.declared.Field.{Field}
use Rattle.descriptor_entry.specs.declared.Field.TheVariants as f
use Rattle.descriptor_entry.specs.declared.Shape.{Shape}
use Rattle.descriptor_entry.proofs.Laws.{size-append}
use Rattle.descriptor_entry.proofs.Meeting as m
use Rattle.descriptor_entry.proofs.Meeting.{Meets}
use Rattle.descriptor_entry.proofs.Suited.{Both, each, neither, paired}
use Rattle.descriptor_entry.proofs.Headed.{head_meets}
use Rattle.descriptor_entries.specs.Taken.{put_all, put_key, blank, entry_of}
use Rattle.descriptor_entries.specs.scaffold.Spans.{end_of, key_span}
use Rattle.descriptor_entries.proofs.Held.{HoldsAll, end_later, Stands, stands-none, stands-append, number-stands, field-size, field-stands, fields-size, fields-stand}
use Rattle.descriptor_entries.proofs.Filled.{all_words, all-length, keyed-words}
use Rattle.descriptor_entries.proofs.Shaped.{keyed, Made, Kind, Form, id-end, column-end, item-kinds, form-kinds, column-made}

-- ---- what was read

-- a head at a place: its kind behind the key, at k, and the fields of the kind
pub record Read (s : List ℕ) (c : Due) (at : ℕ) (x : Head) (q : ℕ) : Type 0 where
  pub k : ℕ
  pub key : at + key_span s at c ≡ k
  pub kind : x.kind ≡ num 4 s k
  pub first : x.first ≡ at
  pub value : x.value ≡ k + 4
  pub made : Made (fields_of (shape_of c x.kind))
  pub end : end_of s x.value (fields_of (shape_of c x.kind)) ≡ q

-- an item's, from its type on
record Item (s : List ℕ) (from at : ℕ) (x : Head) (q : ℕ) : Type 0 where
  pub kind : x.kind ≡ num 4 s at
  pub first : x.first ≡ from
  pub value : x.value ≡ at + 4
  pub made : Made (fields_of (item_shape x.kind))
  pub end : end_of s x.value (fields_of (item_shape x.kind)) ≡ q

module _ (s : List ℕ) where
  item-read : (depth first at : ℕ) (o : Opened) (q : ℕ) → item_head depth first s at ≡ ok o q → Item s first at o.head q
  unfolding item_head sort_of item_shape
  item-read depth first at o q e =
      let t = then-inv (field 4 s at) _ e in
      let i = field-inv 4 s at t.2 in
      go t.0 t.1 i.1 i.2 (sort_of t.0) (beside item_shapes t.0) refl (paired item-kinds t.0) t.3
    where
      go : (t v : ℕ) → num 4 s at ≡ t → at + 4 ≡ v → (u : Known Sort) (w : Known Shape) → beside item_shapes t ≡ w → Both Kind u w
          → known u at (λ sort. then (opens sort s v) (λ o q. ok (record { head = record { kind = t; first = first; depth = depth; value = v }; below = o.0; count = o.1 }) q)) ≡ ok o q → Item s first at o.head q
      go t v n l u w is' (each {a = sort} {b = sh} p) e =
          let y = then-inv (opens sort s v) _ e in
          let z : _ ≡ o.head = ap (λ (x : Opened). x.head) (ok-value y.3) in
          let k : shape_in w ≡ item_shape t = ap shape_in (sym is') in
          subst (λ (x : Head). Item s first at x q) z (record {
            kind = sym n;
            first = refl;
            value = sym l;
            made = subst (λ (x : Shape). Made (fields_of x)) k p.made;
            end = subst (λ (x : Shape). end_of s v (fields_of x) ≡ q) k (p.ends s v y.0 y.1 y.2 ∙ ok-place y.3);
          })
      go t v n l u w is' neither e = clash e

  form-read : (depth at : ℕ) (o : Opened) (q : ℕ) → member_head depth h.forms s at ≡ ok o q → Read s h.forms at o.head q
  unfolding member_head form_of form_shape
  form-read depth at o q e =
      let t = then-inv (field 4 s at) _ e in
      let i = field-inv 4 s at t.2 in
      go t.0 t.1 i.1 i.2 (form_of t.0) (beside form_shapes t.0) refl (paired form-kinds t.0) t.3
    where
      go : (t v : ℕ) → num 4 s at ≡ t → at + 4 ≡ v → (u : Known (Reader Unit)) (w : Known Shape) → beside form_shapes t ≡ w → Both Form u w
          → known u at (λ r. then (ref_value r s v) (λ u q. ok (bare t at depth v) q)) ≡ ok o q → Read s h.forms at o.head q
      go t v n l u w is' (each {a = r} {b = sh} p) e =
          let y = then-inv (ref_value r s v) _ e in
          let z : _ ≡ o.head = ap (λ (x : Opened). x.head) (ok-value y.3) in
          let k : shape_in w ≡ form_shape t = ap shape_in (sym is') in
          subst (λ (x : Head). Read s h.forms at x q) z (record {
            k = at;
            key = add-zero at;
            kind = sym n;
            first = refl;
            value = sym l;
            made = subst (λ (x : Shape). Made (fields_of x)) k p.made;
            end = subst (λ (x : Shape). end_of s v (fields_of x) ≡ q) k (p.ends s v y.1 y.2 ∙ ok-place y.3);
          })
      go t v n l u w is' neither e = clash e

  column-read : (m depth at : ℕ) (o : Opened) (q : ℕ) → member_head depth (columns m) s at ≡ ok o q → Read s (columns m) at o.head q
  unfolding member_head column_shape
  column-read m depth at o q e =
      let i = then-inv (id s at) _ e in
      let x = id-end s at i.1 i.2 in
      let t = then-inv (judged 4 column_type s i.1) _ i.3 in
      let j = judged-inv 4 s i.1 column_type t.2 in
      let y = then-inv (column m s t.1) _ t.3 in
      let z : _ ≡ o.head = ap (λ (x : Opened). x.head) (ok-value y.3) in
      let u : eqb t.0 (chars "UnFl") ≡ true = unless-fine (eqb t.0 (chars "UnFl")) 4 j.3 in
      let k : both f.ArrayMeasure (f.Doubles 7) ≡ column_shape t.0 = sym (ap (λ (b : Bool). shape_in (pick b (is (both f.ArrayMeasure (f.Doubles 7))) unknown)) u) in
      subst (λ (x : Head). Read s (columns m) at x q) z (record {
        k = i.1;
        key = x;
        kind = sym j.1;
        first = refl;
        value = sym j.2;
        made = subst (λ (x : Shape). Made (fields_of x)) k column-made;
        end = subst (λ (x : Shape). end_of s t.1 (fields_of x) ≡ q) k (column-end s m t.1 y.1 y.2 ∙ ok-place y.3);
      })

  pub head_read : (c : Due) (depth at : ℕ) (o : Opened) (q : ℕ) → member_head depth c s at ≡ ok o q → Read s c at o.head q
  unfolding member_head
  head_read items depth at o q e =
      let i = item-read depth at at o q e in
      record { k = at; key = add-zero at; kind = i.kind; first = i.first; value = i.value; made = i.made; end = i.end }
  head_read pairs depth at o q e =
      let t = then-inv (id s at) _ e in
      let i = item-read depth at t.1 o q t.3 in
      record { k = t.1; key = id-end s at t.1 t.2; kind = i.kind; first = i.first; value = i.value; made = i.made; end = i.end }
  head_read h.forms depth at o q e = form-read depth at o q e
  head_read (columns m) depth at o q e = column-read m depth at o q e

-- ---- the entry taken from it

abbrev key_length : (s : List ℕ) (at : ℕ) → Due → ℕ
key_length s at items = 0
key_length s at pairs = num 4 s at
key_length s at h.forms = 0
key_length s at (columns m) = num 4 s at

abbrev key_place : (at : ℕ) → Due → ℕ
key_place at items = 0
key_place at pairs = at + 4
key_place at h.forms = 0
key_place at (columns m) = at + 4

pub key-put : (s : List ℕ) (at : ℕ) (c : Due) (kind : ℕ) → put_key s at c (blank kind) ≡ keyed kind (key_length s at c) (key_place at c)
key-put s at items kind = refl
key-put s at pairs kind = refl
key-put s at h.forms kind = refl
key-put s at (columns m) kind = refl

module _ (s : List ℕ) (b : Bytes s) where
  key-length-small : (at : ℕ) (c : Due) → key_length s at c < 256 ^ 4
  key-length-small at items = omega arith
  key-length-small at pairs = num-lt s b 4 at
  key-length-small at h.forms = omega arith
  key-length-small at (columns m) = num-lt s b 4 at

  key-place-small : (at : ℕ) (c : Due) → at ≤ 16777216 → key_place at c < 256 ^ 4
  key-place-small at items l = omega arith
  key-place-small at pairs l = omega (arith, l)
  key-place-small at h.forms l = omega arith
  key-place-small at (columns m) l = omega (arith, l)

  key-stands : (c : Due) (e : Entry) (at : ℕ) → number_in e 1 ≡ key_length s at c → number_in e 2 ≡ key_place at c → at + key_span s at c ≤ length s → Stands s at (key_pieces c e) × (size (key_pieces c e) ≡ key_span s at c)
  unfolding size
  key-stands items e at n p l = (stands-none s at (omega (arith, l)), refl)
  key-stands pairs e at n p l = (field-stands s 0 e at b (f.Id 1) (n, p) l, field-size s 0 e at (f.Id 1) (n, p))
  key-stands h.forms e at n p l = (stands-none s at (omega (arith, l)), refl)
  key-stands (columns m) e at n p l = (field-stands s 0 e at b (f.Id 1) (n, p) l, field-size s 0 e at (f.Id 1) (n, p))

  -- a number, and fields behind it
  pub begun : (m : ℕ) (sh : Shape) (e : Entry) (k v x : ℕ) → v ≡ num 4 s k → HoldsAll s (k + 4) e (fields_of sh) → end_of s (k + 4) (fields_of sh) ≤ length s
      → Stands s k (number 4 v x ∷ field_pieces m sh e) × (k + size (number 4 v x ∷ field_pieces m sh e) ≡ end_of s (k + 4) (fields_of sh))
  unfolding size
  begun m sh e k v x n h l =
      let later = end_later s (fields_of sh) (k + 4) in
      let y = fields-size s m sh e (k + 4) h in
      (stands-append s k (number 4 v x ∷ []) (field_pieces m sh e) (number-stands s b k 4 v x n (omega (arith, later, l))) (fields-stand s m sh e (k + 4) h b l), omega (arith, y))

  held : (c : Due) (e : Entry) (at k q : ℕ) → number_in e 1 ≡ key_length s at c → number_in e 2 ≡ key_place at c → at + key_span s at c ≡ k → kind_of e ≡ num 4 s k
      → HoldsAll s (k + 4) e (fields_of (shape_of c (kind_of e))) → end_of s (k + 4) (fields_of (shape_of c (kind_of e))) ≡ q → q ≤ length s
      → Stands s at (head_pieces c e) × (at + size (head_pieces c e) ≡ q)
  unfolding head_pieces
  held c e at k q n p d t h z l =
      let later = end_later s (fields_of (shape_of c (kind_of e))) (k + 4) in
      let key = key-stands c e at n p (omega (arith, d, later, z, l)) in
      let x : ℕ = pick (shape_of c (kind_of e)).known 0 4 in
      let rest = begun (objects_due c) (shape_of c (kind_of e)) e k (kind_of e) x t h (omega (arith, z, l)) in
      let ps : List Piece = number 4 (kind_of e) x ∷ field_pieces (objects_due c) (shape_of c (kind_of e)) e in
      let g : k ≡ at + size (key_pieces c e) = omega (arith, key.1, d) in
      (stands-append s at (key_pieces c e) ps key.0 (subst (λ (y : ℕ). Stands s y ps) g rest.0), omega (arith, size-append (key_pieces c e) ps, g, rest.1, z))

  -- its pieces stand at the head, and end with it
  pub record Taken (c : Due) (at : ℕ) (x : Head) (q : ℕ) : Type 0 where
    pub kind : kind_of (entry_of s c x) ≡ x.kind
    pub stands : Stands s at (head_pieces c (entry_of s c x))
    pub end : at + size (head_pieces c (entry_of s c x)) ≡ q
    pub words : length s ≤ 16777216 → Words (entry_of s c x)
    pub wide : length (entry_of s c x) ≡ 16

  pub taken : (c : Due) (at : ℕ) (x : Head) (q : ℕ) → q ≤ length s → Read s c at x q → Taken c at x q
  unfolding entry_of
  taken c at x q l g =
      let xs : List Field = fields_of (shape_of c x.kind) in
      let n : ℕ = key_length s at c in
      let p : ℕ = key_place at c in
      let e : Entry = put_all s x.value xs (keyed x.kind n p) in
      let same : entry_of s c x ≡ e = ap (put_all s x.value xs) (ap (λ (y : ℕ). put_key s y c (blank x.kind)) g.first ∙ key-put s at c x.kind) in
      let k : kind_of e ≡ x.kind = g.made.kind s x.value x.kind n p in
      let xs-is : xs ≡ fields_of (shape_of c (kind_of e)) = ap (λ (y : ℕ). fields_of (shape_of c y)) (sym k) in
      let holds : HoldsAll s (g.k + 4) e (fields_of (shape_of c (kind_of e))) =
      subst₂ (λ (v : ℕ) (ys : List Field). HoldsAll s v e ys) g.value xs-is (g.made.holds s x.value x.kind n p) in
      let end : end_of s (g.k + 4) (fields_of (shape_of c (kind_of e))) ≡ q = subst₂ (λ (v : ℕ) (ys : List Field). end_of s v ys ≡ q) g.value xs-is g.end in
      let both = held c e at g.k q (g.made.key s x.value x.kind n p) (g.made.place s x.value x.kind n p) g.key (k ∙ g.kind) holds end l in
      let later = end_later s (fields_of (shape_of c (kind_of e))) (g.k + 4) in
      record {
        kind = ap kind_of same ∙ k;
        stands = subst (λ (y : Entry). Stands s at (head_pieces c y)) (sym same) both.0;
        end = subst (λ (y : Entry). at + size (head_pieces c y) ≡ q) (sym same) both.1;
        words = λ few. subst (λ (y : Entry). Words y) (sym same) (all_words s b xs x.value (keyed x.kind n p) (omega (arith, g.end, l, few))
            (keyed-words x.kind n p (subst (λ (y : ℕ). y < 256 ^ 4) (sym g.kind) (num-lt s b 4 g.k)) (key-length-small at c) (key-place-small at c (omega (arith, g.key, later, end, l, few)))));
        wide = ap length same ∙ all-length s xs x.value (keyed x.kind n p);
      }

  -- ---- and asks for that head

  pub asks-same : (c : Due) (depth at : ℕ) (o : Opened) (q : ℕ) → member_head depth c s at ≡ ok o q → Taken c at o.head q
      → (st : Stack) (n : ℕ) → next ((c, n) ∷ st) (entry_of s c o.head) ≡ after ((c, n) ∷ st) o
  asks-same c depth at o q e g st n = go (head_meets s s b c (entry_of s c o.head) depth at g.stands.fits g.stands.stands)
    where
      go : {x end : ℕ} {a : Opened} → Meets (member_head depth c s at) x end a → after ((c, n) ∷ st) a ≡ after ((c, n) ∷ st) o
      go (m.good u z) = ap (λ (y : Opened). after ((c, n) ∷ st) y) (ok-value (sym u ∙ e))
      go (m.bad p r k u z) = clash (sym u ∙ e)
