-- The typed value of a row is what its kind and its value's bytes say. Assumes nothing.
use Prim.Native.Nat.{ℕ, zero, suc, ◌+◌, ◌≤◌, ◌<◌}
use mathlib.Core.Path.{◌≡◌, refl, sym, ap, ◌∙◌, subst}
use mathlib.Core.List.{List, [], ◌∷◌, ◌++◌, append-nil}
use lib.Dec.{eqb}
use lib.ListN.{length, get_or}
use lib.Ieee.{binary64, of_bits}
use native.Mathlib.Omega.{arith}
use Rattle.algebra.specs.Chars.{chars}
use Rattle.algebra.specs.Numbers.{num, be, At, Bytes}
use Rattle.algebra.specs.Reader.{Res}
use Rattle.algebra.specs.Sets.{Size, number, seq, prefixed}
use Rattle.algebra.proofs.Places.{length-be, at_in, at_left, at_after, at_same, num-lt, be-num, num-be}
use Rattle.descriptor.specs.Reading.{Row, descriptor}
use Rattle.descriptor_read.specs.declared.Typed.TheVariants as vt
use Rattle.descriptor_read.specs.Values.{row_at, row_in}
use Rattle.descriptor_read.specs.Typed.{typed_in, typed_of}
use Rattle.descriptor_read.specs.Kinds.{Says, Answers}
use Rattle.descriptor_tree.specs.Grammar.{Leaf, Form}
use Rattle.descriptor_tree.specs.Tree.{Members, none, one, Descriptor, count, head, bytes, rows, member_values, root_head, file_rows, row_count, file_values, Place, Item, Member, Allowed, File}
use Rattle.descriptor_tree.proofs.Whole.{file-inv}
use Rattle.descriptor_tree.proofs.RoundTrip.{allowed-reads}
use Rattle.descriptor_tree.proofs.Values.{Paired, paired-append, Lies, file-values}

module _ (s : List ℕ) (octets : Bytes s) where
  -- w bytes are a number
  a-number : (w at : ℕ) (b : List ℕ) → Size w b → At s at b → b ≡ be w (num w s at)
  a-number w at b l h = at_same s at b (be w (num w s at)) h (be-num s octets w at (omega (arith, at_in s at b h, l))) (omega (arith, length-be w (num w s at), l))

  bool-says : (n v : ℕ) → n ≤ 1 → At s v (be 1 n) → Says (chars "bool") (be 1 n) (vt.Bool (eqb (num 1 s v) 1))
  unfolding be
  bool-says zero v l h = subst (λ (k : ℕ). Says (chars "bool") (0 ∷ []) (vt.Bool (eqb k 1))) (sym (num-be s 1 v 0 (omega arith) h)) Says.no
  bool-says (suc zero) v l h = subst (λ (k : ℕ). Says (chars "bool") (1 ∷ []) (vt.Bool (eqb k 1))) (sym (num-be s 1 v 1 (omega arith) h)) Says.yes
  bool-says (suc (suc n)) v l h = absurd (omega arith)

  leaf-says : {kind : ℕ} {b : List ℕ} → Leaf kind b → (v : ℕ) → At s v b → Says kind b (typed_in s kind v)
  unfolding typed_in
  leaf-says (Leaf.boolean (number n small l)) v h = bool-says n v l h
  leaf-says {b = b} (Leaf.class x) v h = Says.other refl
  leaf-says {b = b} (Leaf.global_class x) v h = Says.other refl
  leaf-says (Leaf.double (number n small l)) v h = subst (λ (k : ℕ). Says (chars "doub") (be 8 n) (vt.Double (of_bits binary64 k))) (sym (num-be s 8 v n small h)) (Says.double n small)
  leaf-says {b = b} (Leaf.enumerated x) v h = Says.other refl
  leaf-says {b = b} (Leaf.alias x) v h = Says.other refl
  leaf-says {b = b} (Leaf.path x) v h = Says.other refl
  leaf-says {b = b} (Leaf.integer l) v h = subst (λ (c : List ℕ). Says (chars "long") c (vt.Long (num 4 s v))) (sym (a-number 4 v b l h)) (Says.long (num 4 s v) (num-lt s octets 4 v))
  leaf-says {b = b} (Leaf.large l) v h = subst (λ (c : List ℕ). Says (chars "comp") c (vt.Comp (num 8 s v))) (sym (a-number 8 v b l h)) (Says.comp (num 8 s v) (num-lt s octets 8 v))
  leaf-says {b = b} (Leaf.raw x) v h = Says.other refl
  leaf-says {b = b} (Leaf.text x) v h = Says.other refl
  leaf-says (Leaf.unit_double (prefixed u {y = y} few (of, number n small l))) v h =
      let e : v + length (be 4 u) ≡ v + 4 = ap (λ (k : ℕ). v + k) (length-be 4 u) in
      let a : num 4 s v ≡ u = num-be s 4 v u few (at_left s v (be 4 u) (be 8 n) h) in
      let d : num 8 s (v + 4) ≡ n = num-be s 8 (v + 4) n small (at_after s v (be 4 u) (be 8 n) (v + 4) e h) in
      subst (λ (k : ℕ). Says (chars "UntF") (be 4 u ++ be 8 n) (vt.UnitDouble k (of_bits binary64 (num 8 s (v + 4))))) (sym a)
      (subst (λ (k : ℕ). Says (chars "UntF") (be 4 u ++ be 8 n) (vt.UnitDouble u (of_bits binary64 k))) (sym d) (Says.unit_double u n few small))

  form-says : {kind : ℕ} {b c : List ℕ} → Form kind b → (v : ℕ) → Says kind c (typed_in s kind v)
  unfolding typed_in
  form-says Form.class v = Says.other refl
  form-says (Form.enumerated x) v = Says.other refl
  form-says (Form.identifier x) v = Says.other refl
  form-says (Form.index x) v = Says.other refl
  form-says (Form.name x) v = Says.other refl
  form-says (Form.offset x) v = Says.other refl
  form-says (Form.property x) v = Says.other refl

  -- an item's fields, with the bytes cs of its children; a value without items has none
  item-says : {kind n : ℕ} {c : Place} {b : List ℕ} → Item kind c n b → (cs : List ℕ) → (n ≡ 0 → cs ≡ []) → (v : ℕ) → At s v (b ++ cs) → Says kind (b ++ cs) (typed_in s kind v)
  unfolding typed_in
  item-says {kind} {b = b} (Item.leaf x) cs lone v h =
      let e : b ++ cs ≡ b = ap (λ (l : List ℕ). b ++ l) (lone refl) ∙ append-nil b in
      subst (λ (l : List ℕ). Says kind l (typed_in s kind v)) (sym e) (leaf-says x v (at_left s v b cs h))
  item-says (Item.list n l) cs lone v h = Says.other refl
  item-says (Item.object n l c) cs lone v h = Says.other refl
  item-says (Item.global n l c) cs lone v h = Says.other refl
  item-says (Item.reference n l) cs lone v h = Says.other refl
  item-says (Item.array m n i l c) cs lone v h = Says.other refl

  member-says : {c below : Place} {key b : List ℕ} {kind n : ℕ} → Member c key kind below n b → (cs : List ℕ) → (n ≡ 0 → cs ≡ []) → (v : ℕ) → At s v (b ++ cs) → Says kind (b ++ cs) (typed_in s kind v)
  unfolding typed_in
  member-says (Member.item i) cs lone v h = item-says i cs lone v h
  member-says (Member.pair y i) cs lone v h = item-says i cs lone v h
  member-says (Member.form (seq x f)) cs lone v h = form-says f v
  member-says (Member.column y x) cs lone v h = Says.other refl

no-children : (ms : Members) → count ms ≡ 0 → bytes ms ≡ []
unfolding bytes
no-children none e = refl
no-children (one key kind fields kids rest) e = absurd (omega arith)

-- ---- row by row

module _ (s : List ℕ) (octets : Bytes s) where
  -- wherever the value stands, its kind and its bytes say what is read there
  abbrev Spoken : Row → List ℕ → Type 0
  Spoken r b = (v : ℕ) → At s v b → Says r.kind b (typed_in s r.kind v)

  forest-says : (m : Members) (c : Place) (depth : ℕ) → Allowed c depth m → (d p k lo : ℕ) → Paired Spoken (rows d p k lo m) (member_values m)
  unfolding rows member_values
  forest-says none c depth a d p k lo = tt
  forest-says (one key kind fields kids rest) c depth a d p k lo =
      let hd : ℕ = length (head key kind fields) in
      let n : ℕ = hd + length (bytes kids) in
      let below : List Row = rows (d + 1) k (k + 1) (lo + hd) kids in (
        (λ v h. member-says s octets a.2 (bytes kids) (no-children kids) v h),
        paired-append Spoken below (rows d p (k + 1 + length below) (lo + n) rest) (member_values kids) (member_values rest)
            (forest-says kids a.0 (depth + 1) a.3 (d + 1) k (k + 1) (lo + hd))
            (forest-says rest c depth a.4 d p (k + 1 + length below) (lo + n)),
      )

  file-says : (t : Descriptor) → Allowed Place.pairs 1 t.pairs → Paired Spoken (file_rows t) (file_values t)
  unfolding file_rows file_values typed_in
  file-says t a = ((λ v h. Says.other refl), forest-says t.pairs Place.pairs 1 a 1 0 1 (length (root_head t)))

  says_at : (rs : List Row) (vs : List (List ℕ)) → Paired (Lies s) rs vs → Paired Spoken rs vs → (i : ℕ) → i < length rs → (d : Row) → Answers (get_or rs i d).kind (get_or vs i []) (typed_of s (row_at i rs))
  says_at [] vs h g i l d = absurd (omega arith)
  says_at (r ∷ rs) [] h g i l d = absurd h
  says_at (r ∷ rs) (v ∷ vs) h g zero l d = g.0 r.value h.0.0
  says_at (r ∷ rs) (v ∷ vs) h g (suc i) l d = says_at rs vs h.1 g.1 i (omega arith) d

-- the typed value of row i of a file is what the tree's kind and value say
pub typed-promised : {t : Descriptor} {s : List ℕ} → File t s → (i : ℕ) → i < row_count t → (d : Row) → Answers (get_or (file_rows t) i d).kind (get_or (file_values t) i []) (typed_of s (row_in i (descriptor s)))
typed-promised {t} {s} f i h d =
    let g = file-inv f in
    subst (λ (m : Res (List Row)). Answers (get_or (file_rows t) i d).kind (get_or (file_values t) i []) (typed_of s (row_in i m))) (sym (allowed-reads f))
    (says_at s g.octets (file_rows t) (file_values t) (file-values t s g.is) (file-says s g.octets t g.allowed) i h d)
