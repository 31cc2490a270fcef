-- A whole file is read as the rows of a tree exactly where it is the bytes of the tree. Assumes nothing.
use Prim.Native.Nat.{ℕ, ◌+◌, ◌-◌, ◌^◌, ◌≤◌, ◌<◌}
use mathlib.Core.Path.{◌≡◌, refl, sym, ap, ap₂, ◌∙◌, subst}
use mathlib.Core.List.{List, ◌∷◌, ◌++◌}
use lib.Dec.{leb}
use lib.ListN.{length, length-append}
use borrow.Author.Tests.{leb-true, le-leb, eq-eqb}
use native.Mathlib.Omega.{arith}
use native.Mathlib.Nat.{zero-add}
use Rattle.algebra.specs.Chars.{chars}
use Rattle.algebra.specs.Numbers.{be, At, Bytes}
use Rattle.algebra.specs.Reader.{Res, ok, then, judged, ended, limit}
use Rattle.algebra.proofs.Places.{length-be, at_in, at_left, at_after, at_next, at_all, at-whole}
use Rattle.algebra.proofs.Inverse.{then-inv, pick_inv, ended-inv}
use Rattle.algebra.proofs.Sets.{tag-numbers, number-whole, number-sound}
use Rattle.descriptor.specs.Reading.{Row, headed, siblings, object_of, item, version, root, whole, descriptor}
use Rattle.descriptor_tree.specs.Grammar.{Class}
use Rattle.descriptor_tree.specs.Tree.{Descriptor, count, bytes, rows, root_head, file_bytes, file_rows, Place, Allowed, File, file}
use Rattle.descriptor_tree.proofs.Tiling.{length-file}
use Rattle.descriptor_tree.proofs.Heads.{reader, row_of, headed-inv, class-at, class-inv}
use Rattle.descriptor_tree.proofs.Trees.{forest-whole, forest-sound}

-- what a file of the grammar has
pub record Is-file (t : Descriptor) (s : List ℕ) : Type 0 where
  pub is : s ≡ file_bytes t
  pub class : Class t.class
  pub fits : count t.pairs < 256 ^ 4
  pub allowed : Allowed Place.pairs 1 t.pairs
  pub octets : Bytes s
  pub short : length s ≤ limit

pub file-inv : {t : Descriptor} {s : List ℕ} → File t s → Is-file t s
file-inv (file c n a o l) = record { is = refl; class = c; fits = n; allowed = a; octets = o; short = omega arith }

pub is_file : {t : Descriptor} {s : List ℕ} → Is-file t s → File t s
is_file {t} {s} h = subst (λ (b : List ℕ). File t b) (sym h.is) (file h.class h.fits h.allowed (subst Bytes h.is h.octets) (subst (λ (b : List ℕ). length b ≤ limit) h.is h.short))

module _ (t : Descriptor) where
  pub length-root : length (root_head t) ≡ 4 + length (t.class ++ be 4 (count t.pairs))
  unfolding root_head
  length-root = omega (arith, length-append (be 4 16) (t.class ++ be 4 (count t.pairs)), length-be 4 16)

-- the root's row as it is read, and as the tree has it
root-same : (v e n : ℕ) → v ≡ 4 → e ≡ n → row_of (chars "Objc") 32 0 0 v e ≡ record { kind = chars "Objc"; parent = 0; first = 0; size = n; depth = 0; value = 4 }
root-same v e n h g = let z : e - 0 ≡ n = omega arith in rw (h, z)

-- a file's parts stand where they should
pub record Parts (t : Descriptor) (s : List ℕ) : Type 0 where
  pub version : At s 0 (be 4 16)
  pub head : At s 4 (t.class ++ be 4 (count t.pairs))
  pub pairs : At s (length (root_head t)) (bytes t.pairs)

pub file-parts : (t : Descriptor) (s : List ℕ) → s ≡ file_bytes t → Parts t s
unfolding file_bytes root_head
file-parts t s e =
    let c : List ℕ = t.class ++ be 4 (count t.pairs) in
    let h : At s 0 (root_head t ++ bytes t.pairs) = subst (λ (b : List ℕ). At s 0 b) e (at-whole s) in
    let hr : At s 0 (be 4 16 ++ c) = at_left s 0 (root_head t) (bytes t.pairs) h in
    record {
      version = at_left s 0 (be 4 16) c hr;
      head = at_after s 0 (be 4 16) c 4 (omega (arith, length-be 4 16)) hr;
      pairs = at_after s 0 (root_head t) (bytes t.pairs) (length (root_head t)) (zero-add (length (root_head t))) h;
    }

-- the bytes of a tree are read as its rows, to the end
pub file-reads : (t : Descriptor) (s : List ℕ) → Is-file t s → descriptor s ≡ ok (file_rows t) (length s)
unfolding descriptor whole root object_of ended file_rows
file-reads t s f =
    let g = file-parts t s f.is in
    let n : ℕ = count t.pairs in
    let c : List ℕ = t.class ++ be 4 n in
    let kids : List Row = rows 1 0 1 (length (root_head t)) t.pairs in
    let size : length s ≡ length (root_head t) + length (bytes t.pairs) = ap length f.is ∙ length-file t in
    let x = forest-whole s f.octets t.pairs Place.pairs 32 1 0 1 (length (root_head t)) (omega arith) f.allowed g.pairs in
    let y : object_of (item 32) 32 0 s 4 ≡ ok kids (length s) =
    class-at s f.octets (reader Place.pairs 32 0) 0 4 n t.class f.fits f.class g.head
    ∙ ap (λ (z : ℕ). siblings (reader Place.pairs 32 0) n 1 s z) (sym (length-root t)) ∙ x ∙ ap (λ (z : ℕ). ok kids z) (sym size) in
    let r : root s 0 ≡ ok (row_of (chars "Objc") 32 0 0 4 (length s) ∷ kids) (length s) =
    ap (λ (m : Res ℕ). then m (λ v e. headed (chars "Objc") 32 0 0 e (object_of (item 32) 32 0 s e))) (number-whole 4 (tag-numbers s f.octets 4 16 _) 0 16 (omega arith) refl g.version)
    ∙ ap (headed (chars "Objc") 32 0 0 4) y in
    let z : length s ≡ length (file_bytes t) = ap length f.is in
    rw (le-leb (length s) limit f.short) (rw r (rw (eq-eqb (length s) (length s) refl) (ap (λ (b : Row). ok (b ∷ kids) (length s)) (root-same 4 (length s) (length (file_bytes t)) refl z))))

-- what the root's reader accepted is the bytes of a tree that is allowed, and its rows are the tree's
pub record Read-root (s : List ℕ) (rs : List Row) (q : ℕ) : Type 0 where
  pub tree : Descriptor
  pub class : Class tree.class
  pub fits : count tree.pairs < 256 ^ 4
  pub allowed : Allowed Place.pairs 1 tree.pairs
  pub stands : At s 0 (file_bytes tree)
  pub ends : length (file_bytes tree) ≡ q
  pub reads : file_rows tree ≡ rs

pub root-sound : (s : List ℕ) → Bytes s → (rs : List Row) (q : ℕ) → root s 0 ≡ ok rs q → Read-root s rs q
unfolding root object_of file_rows file_bytes root_head
root-sound s octets rs q h =
    let v = then-inv (judged 4 version s 0) _ h in
    let a = number-sound 4 (tag-numbers s octets 4 16 _) 0 v.0 v.1 (omega arith) v.2 in
    let y = headed-inv (chars "Objc") 32 0 0 v.1 (object_of (item 32) 32 0 s v.1) v.3 in
    let u = class-inv s octets (reader Place.pairs 32 0) 0 v.1 a.inside y.1 in
    let b : List ℕ = u.0 in
    let n : ℕ = u.1 in
    let c : List ℕ = b ++ be 4 n in
    let x = forest-sound s octets 32 Place.pairs 1 0 n 1 (v.1 + length c) q y.0 (omega arith) (at_in s v.1 c u.4) u.5 in
    let t : Descriptor = record { class = b; pairs = x.tree } in
    let m : List ℕ = bytes x.tree in
    let hd : List ℕ = be 4 16 ++ c in
    let ev : be 4 16 ++ (b ++ be 4 (count x.tree)) ≡ hd = ap (λ (k : ℕ). be 4 16 ++ (b ++ be 4 k)) x.number in
    let lh : length hd ≡ v.1 + length c = omega (arith, length-append (be 4 16) c, length-be 4 16, a.next) in
    let st : At s 0 (hd ++ m) = at_next s 0 hd m (v.1 + length c) (omega arith) (at_next s 0 (be 4 16) c v.1 (omega (arith, length-be 4 16, a.next)) (subst (λ (k : ℕ). At s 0 (be 4 k)) a.holds a.stands) u.4) x.stands in
    let e : hd ++ m ≡ file_bytes t = ap (λ (r : List ℕ). r ++ m) (sym ev) in
    let lr : length (root_head t) ≡ v.1 + length c = ap length ev ∙ lh in
    let le : q ≡ length (file_bytes t) = omega (arith, length-append hd m, x.ends, ap length e) in
    let top : Row = record { kind = chars "Objc"; parent = 0; first = 0; size = length (file_bytes t); depth = 0; value = 4 } in
    let r : top ≡ row_of (chars "Objc") 32 0 0 v.1 q = sym (root-same v.1 q (length (file_bytes t)) (sym a.next) le) in
    record {
      tree = t;
      class = u.2;
      fits = subst (λ (k : ℕ). k < 256 ^ 4) (sym x.number) u.3;
      allowed = x.allowed;
      stands = subst (λ (l : List ℕ). At s 0 l) e st;
      ends = sym le;
      reads = ap₂ (λ (z : ℕ) (k : Row). k ∷ rows 1 0 1 z x.tree) lr r ∙ ap (λ (k : List Row). row_of (chars "Objc") 32 0 0 v.1 q ∷ k) x.reads ∙ y.2;
    }

-- what is accepted is the bytes of a tree that is allowed, and its rows are the tree's
pub file-sound : (s : List ℕ) → Bytes s → (rs : List Row) (q : ℕ) → descriptor s ≡ ok rs q → (t : Descriptor) × Is-file t s × (file_rows t ≡ rs) × (q ≡ length s)
unfolding descriptor whole
file-sound s octets rs q h =
    let l = pick_inv (leb (length s) limit) (whole s 0) 1 0 0 0 h in
    let w = then-inv (root s 0) _ l.1 in
    let i = ended-inv w.0 s w.1 w.3 in
    let r = root-sound s octets w.0 w.1 w.2 in
    let e : s ≡ file_bytes r.tree = at_all s (file_bytes r.tree) r.stands (omega (arith, r.ends, i.0)) in (
      r.tree,
      record { is = e; class = r.class; fits = r.fits; allowed = r.allowed; octets = octets; short = leb-true (length s) limit l.0 },
      r.reads ∙ i.1,
      sym i.2 ∙ i.0,
    )
