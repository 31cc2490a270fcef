-- The rows of a tree tile its bytes, by the heads of its members. Assumes nothing.
use Prim.Native.Nat.{ℕ, ◌+◌, ◌≤◌}
use mathlib.Core.Path.{◌≡◌, refl, sym, ap₂, subst}
use mathlib.Core.List.{List, [], ◌∷◌, ◌++◌, append-nil}
use lib.ListN.{length, length-append}
use native.Mathlib.Omega.{arith}
use native.Mathlib.Nat.{add-zero, zero-add}
use Rattle.algebra.specs.Chars.{chars}
use Rattle.descriptor.specs.Reading.{Row}
use Rattle.descriptor.specs.Tiles.{Tiled, heads}
use Rattle.descriptor_tree.specs.Tree.{Members, none, one, Descriptor, head, bytes, rows, member_heads, root_head, file_bytes, file_heads, file_rows, Place, Allowed}
use Rattle.descriptor_tree.proofs.Sizes.{length-head, head-size}

-- ---- lengths

pub length-file : (t : Descriptor) → length (file_bytes t) ≡ length (root_head t) + length (bytes t.pairs)
unfolding file_bytes
length-file t = length-append (root_head t) (bytes t.pairs)

pub bytes_one : (key : List ℕ) (kind : ℕ) (fields : List ℕ) (children rest : Members)
    → length (bytes (one key kind fields children rest)) ≡ length (head key kind fields) + length (bytes children) + length (bytes rest)
unfolding bytes
bytes_one key kind fields children rest = omega (arith, length-append (head key kind fields) (bytes children ++ bytes rest), length-append (bytes children) (bytes rest))

-- ---- trees

-- rows that tile, with heads of these lengths
abbrev pub By : ℕ → ℕ → ℕ → ℕ → ℕ → List Row → List ℕ → Type 0
By d p k lo hi rs hs = (t : Tiled d p k lo hi rs) × (heads t ≡ hs)

-- a row with the rows below it, and those after it
by_one : {d p k lo hi : ℕ} (r : Row) (h : ℕ) (below after : List Row) (hs gs : List ℕ) → r.parent ≡ p → r.depth ≡ d → r.first ≡ lo → 5 ≤ h → lo + 4 ≤ r.value → r.value ≤ lo + h
    → By (d + 1) k (k + 1) (lo + h) (lo + r.size) below hs → By d p (k + 1 + length below) (lo + r.size) hi after gs → By d p k lo hi (r ∷ (below ++ after)) (h ∷ (hs ++ gs))
unfolding heads
by_one r h below after hs gs a b c f v w t u = (Tiled.one r below after h a b c f v w t.0 u.0, ap₂ (λ (x y : List ℕ). h ∷ (x ++ y)) t.1 u.1)

by-none : (d p k lo hi : ℕ) → lo ≡ hi → By d p k lo hi [] []
unfolding heads
by-none d p k lo hi e = subst (λ (n : ℕ). By d p k lo n [] []) e (Tiled.none, refl)

pub tree-tiled : (m : Members) (c : Place) (d p k lo : ℕ) → Allowed c d m → By d p k lo (lo + length (bytes m)) (rows d p k lo m) (member_heads m)
unfolding rows member_heads bytes
tree-tiled none c d p k lo a = by-none d p k lo (lo + 0) (sym (add-zero lo))
tree-tiled (one key kind fields children rest) c d p k lo a =
    let h : ℕ = length (head key kind fields) in
    let n : ℕ = h + length (bytes children) in
    let below : List Row = rows (d + 1) k (k + 1) (lo + h) children in
    let after : List Row = rows d p (k + 1 + length below) (lo + n) rest in
    let mid : lo + h + length (bytes children) ≡ lo + n = omega arith in
    let end : lo + n + length (bytes rest) ≡ lo + length (bytes (one key kind fields children rest)) = omega (arith, bytes_one key kind fields children rest) in
    by_one (record { kind = kind; parent = p; first = lo; size = n; depth = d; value = lo + length key + 4 }) h below after (member_heads children) (member_heads rest)
    refl refl refl (head-size a.2) (omega arith) (omega (arith, length-head key kind fields))
    (subst (λ (e : ℕ). By (d + 1) k (k + 1) (lo + h) e below (member_heads children)) mid (tree-tiled children a.0 (d + 1) k (k + 1) (lo + h) a.3))
    (subst (λ (e : ℕ). By d p (k + 1 + length below) (lo + n) e after (member_heads rest)) end (tree-tiled rest c d p (k + 1 + length below) (lo + n) a.4))

-- ---- a file: the root and all below it

pub file-tiled : (t : Descriptor) → 5 ≤ length (root_head t) → Allowed Place.pairs 1 t.pairs → By 0 0 0 0 (length (file_bytes t)) (file_rows t) (file_heads t)
unfolding file_rows file_heads
file-tiled t five a =
    let n : ℕ = length (file_bytes t) in
    let h : ℕ = length (root_head t) in
    let kids : List Row = rows 1 0 1 h t.pairs in
    let hs : List ℕ = member_heads t.pairs in
    let root : Row = record { kind = chars "Objc"; parent = 0; first = 0; size = n; depth = 0; value = 4 } in
    let end : h + length (bytes t.pairs) ≡ 0 + n = omega (arith, length-file t) in
    let below : By 1 0 1 (0 + h) (0 + n) kids hs = subst (λ (e : ℕ). By 1 0 1 (0 + h) e kids hs) end (subst (λ (z : ℕ). By 1 0 1 z (h + length (bytes t.pairs)) kids hs) (sym (zero-add h)) (tree-tiled t.pairs Place.pairs 1 0 1 h a)) in
    let whole : By 0 0 0 0 n (root ∷ (kids ++ [])) (h ∷ (hs ++ [])) = by_one root h kids [] hs [] refl refl refl five (omega arith) (omega arith) below (by-none 0 0 (0 + 1 + length kids) (0 + n) n (zero-add n)) in
    subst (λ (l : List Row). By 0 0 0 0 n (root ∷ l) (h ∷ hs)) (append-nil kids) (subst (λ (l : List ℕ). By 0 0 0 0 n (root ∷ (kids ++ [])) (h ∷ l)) (append-nil hs) whole)
