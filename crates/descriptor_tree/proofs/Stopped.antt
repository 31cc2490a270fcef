-- Members and the file, where one field is wrong: what is before it is read, and there it stops. Assumes nothing.
use Prim.Native.Nat.{ℕ, zero, suc, ◌+◌}
use mathlib.Core.Path.{◌≡◌, refl, sym, ap, ◌∙◌, subst}
use mathlib.Core.List.{List, [], ◌∷◌, ◌++◌, append_assoc}
use lib.ListN.{length, length-append}
use native.Mathlib.Omega.{arith}
use native.Mathlib.Nat.{zero-add}
use Rattle.algebra.specs.Chars.{chars}
use Rattle.algebra.specs.Numbers.{be, Bytes}
use Rattle.algebra.specs.Reader.{Res, Reader, ok, refuse, then, judged, ◌>>=◌}
use Rattle.algebra.proofs.Places.{length-be, at_left}
use Rattle.algebra.proofs.Sets.{Numbers, tag-numbers}
use Rattle.descriptor.specs.Reading.{id, class, sort_of, Row, headed, siblings, children, ref_value, ref_item, column_type, array_pair, array_of, keyed, object_of, item, version, root}
use Rattle.descriptor.proofs.Fields.{then_to}
use Rattle.descriptor.proofs.Refused.{type-refused, form-refused, column-type-refused, version-refused}
use Rattle.descriptor_tree.specs.Grammar.{Id}
use Rattle.descriptor_tree.specs.Tree.{head, rows, Place}
use Rattle.descriptor_tree.specs.Tree as tree
use Rattle.descriptor_tree.specs.Damaged.{cut, Wrong, WrongId, WrongObject, ItemForm, WrongItem, WrongMember, Damaged, DamagedFile}
use Rattle.descriptor_tree.proofs.Fields.{id-reads, class-reads}
use Rattle.descriptor_tree.proofs.Heads.{reader, row_of, form_small, class-at, no-type, no-form}
use Rattle.descriptor_tree.proofs.Member.{one-whole}
use Rattle.descriptor_tree.proofs.Trees.{forest-whole, too_deep}
use Rattle.descriptor_tree.proofs.Cut.{form-cut}
use Rattle.descriptor_tree.proofs.WrongFields.{There, Refuses, at_place, here, beyond, behind, tagged, field_cut, other-number, wrong, id_wrong, class-wrong, counted-wrong, leaf-wrong, form-wrong, column-wrong}

module _ (s : List ℕ) (bytes : Bytes s) where
  -- the class of an object, or its pair count
  object-wrong : (f : ℕ → Reader (List Row)) (k : ℕ) → Refuses s bytes WrongObject (class >>= (λ c. children f k))
  unfolding children
  object-wrong f k at b x o (WrongObject.class w) h = rw (class-wrong s bytes at b x o w h)
  object-wrong f k at l x o (WrongObject.pairs {c = c} {b = b} {o = i} y w) h =
      behind s bytes (class s at) _ at c b i ((class-reads s bytes).complete at c y (at_left s at c b h.stands)).1 h (λ g. rw (field_cut s bytes (at + length c) b x i w g))

  pub column-number : Numbers s 4 (λ t. t ≡ chars "UnFl") (judged 4 column_type)
  column-number = tag-numbers s bytes 4 (chars "UnFl") _

  module _ (d p k : ℕ) where
    item-wrong : (first : ℕ) → Refuses s bytes WrongItem (item (suc d) p k first)
    unfolding item sort_of object_of array_of children
    item-wrong first at b x o (WrongItem.type (Wrong.cut l)) h = rw (field_cut s bytes at b 2 0 (cut l) h)
    item-wrong first at b x o (WrongItem.type (Wrong.outside l never)) h =
        let z = other-number s bytes 4 at l never h in
        here s bytes (type-refused s at d p k first z.small (no-type z.value z.other) z.stands)
    item-wrong first at l x o (WrongItem.leaf {kind = kind} {b = b} {o = i} w) h =
        let v = leaf-wrong s bytes kind b x i w in
        tagged s bytes _ at kind b i v.small h (λ g. rw v.sort (rw (v.refuses (at + 4) g)))
    item-wrong first at l x o (WrongItem.list {b = b} {o = i} w) h = tagged s bytes _ at (chars "VlLs") b i (omega arith) h (λ g. rw (field_cut s bytes (at + 4) b x i w g))
    item-wrong first at l x o (WrongItem.object {b = b} {o = i} w) h = tagged s bytes _ at (chars "Objc") b i (omega arith) h (λ g. ap (headed (chars "Objc") d p first (at + 4)) (object-wrong (reader Place.pairs d k) k (at + 4) b x i w g))
    item-wrong first at l x o (WrongItem.global {b = b} {o = i} w) h = tagged s bytes _ at (chars "GlbO") b i (omega arith) h (λ g. ap (headed (chars "GlbO") d p first (at + 4)) (object-wrong (reader Place.pairs d k) k (at + 4) b x i w g))
    item-wrong first at l x o (WrongItem.reference {b = b} {o = i} w) h = tagged s bytes _ at (chars "obj ") b i (omega arith) h (λ g. rw (field_cut s bytes (at + 4) b x i w g))
    item-wrong first at l x o (WrongItem.objects {b = b} {o = i} w) h = tagged s bytes _ at (chars "ObAr") b i (omega arith) h (λ g. rw (field_cut s bytes (at + 4) b x i w g))
    item-wrong first at l x o (WrongItem.array m {b = b} {o = i} small w) h =
        at_place s bytes (at + (4 + (4 + i))) (at + (8 + i)) (omega arith)
        (tagged s bytes _ at (chars "ObAr") (be 4 m ++ b) (4 + i) (omega arith) h (λ g.
        ap (headed (chars "ObAr") d p first (at + 4)) (tagged s bytes _ (at + 4) m b i small g (λ f. object-wrong (reader (Place.columns m) d k) k (at + 4 + 4) b x i w f))))

    -- ---- a member

    key-wrong : {A : Type 0} (n : Unit → ℕ → Res A) → Refuses s bytes WrongId (λ s at. then (id s at) n)
    key-wrong n at b x o w h = rw (id_wrong s bytes at b x o w h)

    keyed-on : {A : Type 0} (n : Unit → ℕ → Res A) (lo : ℕ) (key b : List ℕ) {x : ℕ} (o : ℕ) → Id key → There s bytes lo (key ++ b) x → (There s bytes (lo + length key) b x → n tt (lo + length key) ≡ refuse x (lo + length key + o) 0 0)
        → then (id s lo) n ≡ refuse x (lo + (length key + o)) 0 0
    keyed-on n lo key b o y h more = behind s bytes (id s lo) n lo key b o ((id-reads s bytes).complete lo key y (at_left s lo key b h.stands)).1 h more

    member-wrong : (c : Place) → Refuses s bytes (WrongMember c) (reader c (suc d) p k)
    unfolding keyed array_pair ref_item ref_value
    member-wrong c lo b x o (WrongMember.item w) h = item-wrong lo lo b x o w h
    member-wrong c lo b x o (WrongMember.key w) h = key-wrong _ lo b x o w h
    member-wrong c lo l x o (WrongMember.pair {key = key} {b = b} {o = i} y w) h = keyed-on _ lo key b i y h (λ g. item-wrong lo (lo + length key) b x i w g)
    member-wrong c lo b x o (WrongMember.form (Wrong.cut l)) h = rw (field_cut s bytes lo b 2 0 (cut l) h)
    member-wrong c lo b x o (WrongMember.form (Wrong.outside l never)) h =
        let z = other-number s bytes 4 lo l never h in
        here s bytes (form-refused s lo d p k z.small (no-form z.value z.other) z.stands)
    member-wrong c lo l x o (WrongMember.class {kind = kind} {b = b} {o = i} (ItemForm.form f) w) h =
        tagged s bytes _ lo kind b i (form_small f) h (λ g. rw (form-cut s bytes f).1 (rw (class-wrong s bytes (lo + 4) b x i w g)))
    member-wrong c lo l x o (WrongMember.value {kind = kind} {c = a} {b = b} {o = i} y w) h =
        let v = form-wrong s bytes kind b x i w in
        at_place s bytes (lo + (4 + (length a + i))) (lo + (4 + length a + i)) (omega arith)
        (tagged s bytes _ lo kind (a ++ b) (length a + i) v.small h (λ g. rw v.form (ap (λ (m : Res Unit). headed kind d p lo (lo + 4) (then m (λ u q. ok [] q)))
        (behind s bytes (class s (lo + 4)) _ (lo + 4) a b i ((class-reads s bytes).complete (lo + 4) a y (at_left s (lo + 4) a b g.stands)).1 g (λ f. v.refuses (lo + 4 + length a) f)))))
    member-wrong c lo b x o (WrongMember.column_key w) h = key-wrong _ lo b x o w h
    member-wrong c lo l x o (WrongMember.column_type {m = m} {key = key} {b = b} {o = i} y w) h =
        keyed-on _ lo key b i y h (λ g. wrong s bytes 4 column_type _ 4 (lo + length key) b x i (λ v small never f.
        let u = ((id-reads s bytes).complete lo key y (at_left s lo key b h.stands)).1 in
        sym (then_to (id s lo) _ u) ∙ column-type-refused s lo m d p k u small never f) w g)
    member-wrong c lo l x o (WrongMember.column {m = m} {key = key} {b = b} {o = i} y w) h =
        let t : ℕ = (chars "UnFl") in
        at_place s bytes (lo + (length key + (4 + i))) (lo + (length key + 4 + i)) (omega arith)
        (keyed-on _ lo key (be 4 t ++ b) (4 + i) y h (λ g.
        counted-wrong s bytes column-number _ (lo + length key) t b i (omega arith) refl g (λ f. ap (λ (m : Res Unit). headed t d p lo (lo + length key + 4) (then m (λ u q. ok [] q))) (column-wrong s bytes m (lo + length key + 4) b x i w f))))

  -- ---- members, one after the other

  -- the first is refused
  stops_first : (f : ℕ → Reader (List Row)) (n k lo : ℕ) {x q : ℕ} → f k s lo ≡ refuse x q 0 0 → siblings f (suc n) k s lo ≡ refuse x q 0 0
  unfolding siblings
  stops_first f n k lo e = rw e

  -- the first is read, and those after it are refused
  stops-later : (f : ℕ → Reader (List Row)) (n k lo e : ℕ) (rs : List Row) {x q : ℕ} → f k s lo ≡ ok rs e → siblings f n (k + length rs) s e ≡ refuse x q 0 0 → siblings f (suc n) k s lo ≡ refuse x q 0 0
  unfolding siblings
  stops-later f n k lo e rs h g = rw h (rw g)

  stops : (c : Place) (d n : ℕ) (b : List ℕ) (x o : ℕ) → Damaged c d n b x o → (left p k lo : ℕ) → left + d ≡ 33 → There s bytes lo b x → siblings (reader c left p) n k s lo ≡ refuse x (lo + o) 0 0
  stops c d n b x o Damaged.deep zero p k lo e h = stops_first (reader c 0 p) _ k lo (here s bytes (too_deep s c p k lo))
  stops c d n b x o Damaged.deep (suc left) p k lo e h = absurd (omega arith)
  stops c d n b x o (Damaged.here l w) zero p k lo e h = absurd (omega arith)
  stops c d n b x o (Damaged.here l w) (suc left) p k lo e h = stops_first (reader c (suc left) p) _ k lo (member-wrong left p k c lo b x o w h)
  stops c d n b x o (Damaged.under l m w) zero p k lo e h = absurd (omega arith)
  stops c d n l x o (Damaged.under {kids = kids} {m = m} {kind = kind} {key = key} {fields = fields} {b = b} {o = i} less may w) (suc left) p k lo e h =
      let hd : List ℕ = head key kind fields in
      let y = stops kids (d + 1) m b x i w left k (k + 1) (lo + length hd) (omega arith) (beyond s bytes lo hd b (lo + length hd) refl h) in
      let z = one-whole s bytes left k p lo may (refuse x (lo + length hd + i) 0 0) (at_left s lo hd b h.stands) y in
      stops_first (reader c (suc left) p) _ k lo (at_place s bytes (lo + length hd + i) (lo + (length hd + i)) (omega arith) z)
  stops c d n b x o (Damaged.behind ms l m a w) zero p k lo e h = absurd (omega arith)
  stops c d n l x o (Damaged.behind {kids = kids} {n = more} {kind = kind} {key = key} {fields = fields} {b = b} {o = i} ms less may a w) (suc left) p k lo e h =
      let hd : List ℕ = head key kind fields in
      let cs : List ℕ = tree.bytes ms in
      let mid : ℕ = lo + length hd in
      let q : ℕ = mid + length cs in
      let g : There s bytes mid (cs ++ b) x = beyond s bytes lo hd (cs ++ b) mid refl h in
      let below : List Row = rows (d + 1) k (k + 1) mid ms in
      let v : ℕ = lo + length key + 4 in
      let row : Row = row_of kind left p lo v q in
      let y = forest-whole s bytes ms kids left (d + 1) k (k + 1) mid (omega arith) a (at_left s mid cs b g.stands) in
      let z = one-whole s bytes left k p lo may (ok below q) (at_left s lo hd (cs ++ b) h.stands) y in
      let r = stops c d more b x i w (suc left) p (k + length (row ∷ below)) q e (beyond s bytes mid cs b q refl g) in
      at_place s bytes (q + i) (lo + (length hd + length cs + i)) (omega arith) (stops-later (reader c (suc left) p) more k lo q (row ∷ below) z r)

  -- ---- the file

  pub version-number : Numbers s 4 (λ v. v ≡ 16) (judged 4 version)
  version-number = tag-numbers s bytes 4 16 _

  pub root-wrong : (b : List ℕ) (x o : ℕ) → DamagedFile b x o → There s bytes 0 b x → root s 0 ≡ refuse x o 0 0
  unfolding root object_of
  root-wrong b x o (DamagedFile.version w) h =
      at_place s bytes (0 + o) o (zero-add o) (wrong s bytes 4 version _ 3 0 b x o (λ v small never g. version-refused s 0 small never g) w h)
  root-wrong l x o (DamagedFile.root {b = b} {o = i} w) h =
      at_place s bytes (0 + (4 + i)) (4 + i) (zero-add (4 + i))
      (counted-wrong s bytes version-number _ 0 16 b i (omega arith) refl h (λ g. ap (headed (chars "Objc") 32 0 0 4) (object-wrong (reader Place.pairs 32 0) 0 4 b x i w g)))
  root-wrong l x o (DamagedFile.pairs n {c = c} {b = b} {o = i} is few w) h =
      let y : List ℕ = c ++ (be 4 n ++ b) in
      let hd : List ℕ = c ++ be 4 n in
      let e : 4 + length hd + i ≡ 0 + 4 + (4 + length c + i) = omega (arith, length-append c (be 4 n), length-be 4 n) in
      at_place s bytes (0 + (4 + (4 + length c + i))) (8 + length c + i) (omega arith)
      (counted-wrong s bytes version-number _ 0 16 y (4 + length c + i) (omega arith) refl h (λ g.
      let f : There s bytes 4 (hd ++ b) x = subst (λ (z : List ℕ). There s bytes 4 z x) (sym (append_assoc c (be 4 n) b)) g in
      let a = class-at s bytes (reader Place.pairs 32 0) 0 4 n c few is (at_left s 4 hd b f.stands) in
      let z = stops Place.pairs 1 n b x i w 32 0 1 (4 + length hd) refl (beyond s bytes 4 hd b (4 + length hd) refl f) in
      ap (headed (chars "Objc") 32 0 0 4) (a ∙ at_place s bytes (4 + length hd + i) (0 + 4 + (4 + length c + i)) e z)))
