-- A file is the bytes of one tree at most. Assumes nothing.
use Prim.Native.Nat.{ℕ, ◌+◌, ◌-◌, ◌^◌, ◌<◌}
use mathlib.Core.Path.{◌≡◌, refl, sym, ap, ap₂, ◌∙◌, subst}
use mathlib.Core.List.{List, [], ◌++◌}
use lib.ListN.{length, length-append}
use native.Mathlib.Omega.{arith}
use Rattle.algebra.specs.Chars.{chars}
use Rattle.algebra.specs.Numbers.{be, At, Bytes}
use Rattle.algebra.specs.Reader.{Res, Reader, ok, refuse, field, or_zero}
use Rattle.algebra.proofs.Places.{length-be, at_left, at_right, at_after, at_same, num-be}
use Rattle.algebra.proofs.Inverse.{ok-place}
use Rattle.descriptor.specs.Reading.{Known, is, unknown, class, Sort, leaf, list, object, reference, array, sort_of, ref_value}
use Rattle.algebra.specs.Sets.{Seq}
use Rattle.descriptor_tree.specs.Grammar.{Class, Form}
use Rattle.descriptor_tree.specs.Tree.{Members, none, one, Descriptor, head, bytes, count, root_head, Place, Item, Member, Allowed}
use Rattle.algebra.proofs.Sets.{reads_same, field-numbers, number-whole}
use Rattle.descriptor_tree.proofs.Fields.{id-reads, class-reads, column-reads}
use Rattle.descriptor_tree.proofs.Heads.{item-small, ref-small, leaf-whole, ref-whole}
use Rattle.descriptor_tree.proofs.Whole.{Is-file, file-parts, length-root}

word_same : (s : List ℕ) (at n m : ℕ) → n < 256 ^ 4 → m < 256 ^ 4 → At s at (be 4 n) → At s at (be 4 m) → n ≡ m
word_same s at n m x y h g = sym (num-be s 4 at n x h) ∙ num-be s 4 at m y g

-- ---- an item: the length of its fields and what its children are, as a function of the file

record Shape : Type 0 where
  size : ℕ
  below : Place
  number : ℕ

abbrev end : {A : Type 0} → Res A → ℕ
end (ok a q) = q
end (refuse x p r f) = 0

abbrev shape : List ℕ → ℕ → Known Sort → Shape
shape s at (is (leaf p)) = record { size = end (p s at) - at; below = Place.nowhere; number = 0 }
shape s at (is list) = record { size = 4; below = Place.items; number = or_zero (field 4 s at) }
shape s at (is object) = record { size = end (class s at) + 4 - at; below = Place.pairs; number = or_zero (field 4 s (end (class s at))) }
shape s at (is reference) = record { size = 4; below = Place.forms; number = or_zero (field 4 s at) }
shape s at (is array) = record { size = end (class s (at + 4)) + 4 - at; below = Place.columns (or_zero (field 4 s at)); number = or_zero (field 4 s (end (class s (at + 4)))) }
shape s at unknown = record { size = 0; below = Place.nowhere; number = 0 }

module _ (s : List ℕ) (octets : Bytes s) where
  -- behind a class
  class-shape : (at n : ℕ) (b : List ℕ) → n < 256 ^ 4 → Class b → At s at (b ++ be 4 n) → (end (class s at) ≡ at + length b) × (or_zero (field 4 s (end (class s at))) ≡ n)
  class-shape at n b l c h =
      let u : end (class s at) ≡ at + length b = ap end ((class-reads s octets).complete at b c (at_left s at b (be 4 n) h)).1 in
      (u, ap (λ (z : ℕ). or_zero (field 4 s z)) u ∙ ap or_zero (number-whole 4 (field-numbers s octets 4) (at + length b) n l tt (at_right s at b (be 4 n) h)))

  pub shape_is : {kind n : ℕ} {c : Place} {b : List ℕ} → Item kind c n b → (at : ℕ) → At s at b → shape s at (sort_of kind) ≡ record { size = length b; below = c; number = n }
  unfolding sort_of
  shape_is {b = b} (Item.leaf x) at h =
      let u = leaf-whole s octets x at h in
      let z : at + length b - at ≡ length b = omega arith in
      rw u.1 (rw (u.2, z))
  shape_is (Item.list n l) at h = rw (number-whole 4 (field-numbers s octets 4) at n l tt h, length-be 4 n)
  shape_is (Item.object n {b = b} l c) at h =
      let u = class-shape at n b l c h in
      let z : end (class s at) + 4 - at ≡ length (b ++ be 4 n) = omega (arith, u.0, length-append b (be 4 n), length-be 4 n) in
      rw (z, u.1)
  shape_is (Item.global n {b = b} l c) at h =
      let u = class-shape at n b l c h in
      let z : end (class s at) + 4 - at ≡ length (b ++ be 4 n) = omega (arith, u.0, length-append b (be 4 n), length-be 4 n) in
      rw (z, u.1)
  shape_is (Item.reference n l) at h = rw (number-whole 4 (field-numbers s octets 4) at n l tt h, length-be 4 n)
  shape_is (Item.array m n {b = b} i l c) at h =
      let w : at + length (be 4 m) ≡ at + 4 = ap (λ (z : ℕ). at + z) (length-be 4 m) in
      let u = class-shape (at + 4) n b l c (at_after s at (be 4 m) (b ++ be 4 n) (at + 4) w h) in
      let z : end (class s (at + 4)) + 4 - at ≡ length (be 4 m ++ (b ++ be 4 n)) = omega (arith, u.0, length-append (be 4 m) (b ++ be 4 n), length-append b (be 4 n), length-be 4 n, length-be 4 m) in
      rw (z, u.1, number-whole 4 (field-numbers s octets 4) at m i tt (at_left s at (be 4 m) (b ++ be 4 n) h))

  -- ---- a member

  record Same (y y' : List ℕ) (k k' : ℕ) (c c' : Place) (n n' : ℕ) (b b' : List ℕ) : Type 0 where
    key : y ≡ y'
    kind : k ≡ k'
    below : c ≡ c'
    number : n ≡ n'
    fields : b ≡ b'

  item-same : (at kind kind' n n' : ℕ) (c c' : Place) (b b' : List ℕ) → Item kind c n b → Item kind' c' n' b' → At s at (be 4 kind ++ b) → At s at (be 4 kind' ++ b') → Same [] [] kind kind' c c' n n' b b'
  item-same at kind kind' n n' c c' b b' i j t u =
      let k : kind ≡ kind' = word_same s at kind kind' (item-small i) (item-small j) (at_left s at (be 4 kind) b t) (at_left s at (be 4 kind') b' u) in
      let x : At s (at + 4) b = at_after s at (be 4 kind) b (at + 4) (ap (λ (z : ℕ). at + z) (length-be 4 kind)) t in
      let y : At s (at + 4) b' = at_after s at (be 4 kind') b' (at + 4) (ap (λ (z : ℕ). at + z) (length-be 4 kind')) u in
      let q : ◌≡◌ {A = Shape} (record { size = length b; below = c; number = n }) (record { size = length b'; below = c'; number = n' }) =
      sym (shape_is i (at + 4) x) ∙ ap (λ (m : ℕ). shape s (at + 4) (sort_of m)) k ∙ shape_is j (at + 4) y in
      record { key = refl; kind = k; below = ap (λ (w : Shape). w.below) q; number = ap (λ (w : Shape). w.number) q; fields = at_same s (at + 4) b b' x y (ap (λ (w : Shape). w.size) q) }

  ref-same : (kind at : ℕ) (b b' : List ℕ) → Seq Class (Form kind) b → Seq Class (Form kind) b' → At s at b → At s at b' → b ≡ b'
  ref-same kind at b b' x y h g =
      let u = ref-whole s octets kind b x at h in
      let v = ref-whole s octets kind b' y at g in
      let p : u.0 ≡ v.0 = let z : is u.0 ≡ is v.0 = sym u.1 ∙ v.1 in cc in
      let e : at + length b ≡ at + length b' = ok-place (sym u.2 ∙ ap (λ (r : Reader Unit). ref_value r s at) p ∙ v.2) in
      at_same s at b b' h g (omega arith)

  member-same : (lo : ℕ) {c c₁ c₂ : Place} {key key' b b' : List ℕ} {kind kind' n n' : ℕ} → Member c key kind c₁ n b → Member c key' kind' c₂ n' b'
      → At s lo (head key kind b) → At s lo (head key' kind' b') → Same key key' kind kind' c₁ c₂ n n' b b'
  member-same lo (Member.item {kind = kind} {n = n} {c = c} {b = b} i) (Member.item {kind = kind'} {n = n'} {c = c'} {b = b'} j) t u = item-same lo kind kind' n n' c c' b b' i j t u
  member-same lo (Member.pair {key = key} {kind = kind} {n = n} {c = c} {b = b} y i) (Member.pair {key = key'} {kind = kind'} {n = n'} {c = c'} {b = b'} z j) t u =
      let k : key ≡ key' = reads_same (id-reads s octets) lo key key' y z (at_left s lo key (be 4 kind ++ b) t) (at_left s lo key' (be 4 kind' ++ b') u) in
      let r = item-same (lo + length key) kind kind' n n' c c' b b' i j (at_right s lo key (be 4 kind ++ b) t) (at_after s lo key' (be 4 kind' ++ b') (lo + length key) (ap (λ (l : List ℕ). lo + length l) (sym k)) u) in
      record { key = k; kind = r.kind; below = r.below; number = r.number; fields = r.fields }
  member-same lo (Member.form {kind = kind} {b = b} x) (Member.form {kind = kind'} {b = b'} y) t u =
      let k : kind ≡ kind' = word_same s lo kind kind' (ref-small x) (ref-small y) (at_left s lo (be 4 kind) b t) (at_left s lo (be 4 kind') b' u) in
      let v : At s (lo + 4) b = at_after s lo (be 4 kind) b (lo + 4) (ap (λ (z : ℕ). lo + z) (length-be 4 kind)) t in
      let w : At s (lo + 4) b' = at_after s lo (be 4 kind') b' (lo + 4) (ap (λ (z : ℕ). lo + z) (length-be 4 kind')) u in
      record { key = refl; kind = k; below = refl; number = refl; fields = ref-same kind (lo + 4) b b' x (subst (λ (m : ℕ). Seq Class (Form m) b') (sym k) y) v w }
  member-same lo (Member.column {m = m} {key = key} {b = b} y x) (Member.column {key = key'} {b = b'} z x') t u =
      let w : List ℕ = be 4 (chars "UnFl") in
      let k : key ≡ key' = reads_same (id-reads s octets) lo key key' y z (at_left s lo key (w ++ b) t) (at_left s lo key' (w ++ b') u) in
      let at : ℕ = lo + length key in
      let e : at + length w ≡ at + 4 = ap (λ (z : ℕ). at + z) (length-be 4 (chars "UnFl")) in
      let v = at_after s at w b (at + 4) e (at_right s lo key (w ++ b) t) in
      let v' = at_after s at w b' (at + 4) e (at_after s lo key' (w ++ b') at (ap (λ (l : List ℕ). lo + length l) (sym k)) u) in
      record { key = k; kind = refl; below = refl; number = refl; fields = reads_same (column-reads s octets m) (at + 4) b b' x x' v v' }

  -- ---- members

  forest-same : (m m' : Members) (c : Place) (d lo : ℕ) → Allowed c d m → Allowed c d m' → count m ≡ count m' → At s lo (bytes m) → At s lo (bytes m') → m ≡ m'
  unfolding bytes
  forest-same none none c d lo a a' n t u = refl
  forest-same none (one key kind fields kids rest) c d lo a a' n t u = absurd (omega arith)
  forest-same (one key kind fields kids rest) none c d lo a a' n t u = absurd (omega arith)
  forest-same (one key kind fields kids rest) (one key' kind' fields' kids' rest') c d lo a a' n t u =
      let hd : List ℕ = head key kind fields in
      let hd' : List ℕ = head key' kind' fields' in
      let r = member-same lo a.2 a'.2 (at_left s lo hd (bytes kids ++ bytes rest) t) (at_left s lo hd' (bytes kids' ++ bytes rest') u) in
      let e : hd' ≡ hd = rw (r.key, r.kind, r.fields) in
      let mid : ℕ = lo + length hd in
      let x = at_right s lo hd (bytes kids ++ bytes rest) t in
      let y = at_after s lo hd' (bytes kids' ++ bytes rest') mid (ap (λ (l : List ℕ). lo + length l) e) u in
      let k : kids ≡ kids' = forest-same kids kids' a.0 (d + 1) mid a.3 (subst (λ (p : Place). Allowed p (d + 1) kids') (sym r.below) a'.3) r.number (at_left s mid (bytes kids) (bytes rest) x) (at_left s mid (bytes kids') (bytes rest') y) in
      let z : mid + length (bytes kids') ≡ mid + length (bytes kids) = ap (λ (l : Members). mid + length (bytes l)) (sym k) in
      let q : rest ≡ rest' = forest-same rest rest' c d (mid + length (bytes kids)) a.4 a'.4 (omega arith) (at_right s mid (bytes kids) (bytes rest) x) (at_after s mid (bytes kids') (bytes rest') (mid + length (bytes kids)) z y) in
      cc (r.key, r.kind, r.fields, k, q)

-- a file is the bytes of one tree at most
pub file-same : (t u : Descriptor) (s : List ℕ) → Is-file t s → Is-file u s → t ≡ u
file-same t u s f g =
    let x = file-parts t s f.is in
    let y = file-parts u s g.is in
    let n : ℕ = count t.pairs in
    let m : ℕ = count u.pairs in
    let c : t.class ≡ u.class = reads_same (class-reads s f.octets) 4 t.class u.class f.class g.class (at_left s 4 t.class (be 4 n) x.head) (at_left s 4 u.class (be 4 m) y.head) in
    let e : n ≡ m = word_same s (4 + length t.class) n m f.fits g.fits (at_right s 4 t.class (be 4 n) x.head) (at_after s 4 u.class (be 4 m) (4 + length t.class) (ap (λ (l : List ℕ). 4 + length l) (sym c)) y.head) in
    let l : length (root_head u) ≡ length (root_head t) = length-root u ∙ ap₂ (λ (a : List ℕ) (k : ℕ). 4 + length (a ++ be 4 k)) (sym c) (sym e) ∙ sym (length-root t) in
    let p : t.pairs ≡ u.pairs = forest-same s f.octets t.pairs u.pairs Place.pairs 1 (length (root_head t)) f.allowed g.allowed e x.pairs (subst (λ (z : ℕ). At s z (bytes u.pairs)) l y.pairs) in
    λ i. record { class = c i; pairs = p i }
