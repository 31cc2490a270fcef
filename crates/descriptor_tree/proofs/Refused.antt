-- What is refused of descriptor files, over the trees. Assumes nothing.
use Prim.Native.Nat.{ℕ, suc, ◌+◌, ◌≤◌, ◌<◌}
use mathlib.Core.Path.{◌≡◌, refl, sym, ap, ◌∙◌, subst, subst₂}
use mathlib.Core.Bool.{Bool, true, false}
use lib.Dec.{leb, eqb}
use mathlib.Core.List.{List, [], ◌∷◌, ◌++◌, append-nil, append_assoc}
use lib.ListN.{length, take, drop, length-append}
use lib.Seq.{length-take-le, take-append_seam}
use borrow.Author.Tests.{le-leb, lt-leb, leb-true, leb-false, eqb-false}
use native.Mathlib.Omega.{arith}
use native.Mathlib.Nat.{zero-add}
use Rattle.algebra.specs.Numbers.{be, At, Bytes}
use Rattle.algebra.specs.Reader.{ok, refuse, pick, ended}
use Rattle.algebra.specs.Cut.{not_whole, Stub}
use Rattle.algebra.proofs.Places.{at_left, at-whole, at_drop, bytes-append}
use Rattle.algebra.proofs.Inverse.{clash}
use Rattle.algebra.proofs.Cuts.{stub-take, bytes_take}
use Rattle.descriptor.proofs.Answers.{left-over-last}
use Rattle.descriptor.specs.Reading.{Row, root, whole, descriptor}
use Rattle.descriptor_tree.specs.Tree.{Descriptor, count, root_head, file_bytes, Place, File, file}
use Rattle.descriptor_tree.specs.Tree as tree
use Rattle.descriptor_tree.specs.Widths.{class_wide, members_wide, file_wide}
use Rattle.descriptor_tree.specs.Damaged.{DamagedFile, Refusal}
use Rattle.descriptor_tree.proofs.Whole.{Read-root, root-sound}
use Rattle.descriptor_tree.proofs.Causes.{Why, first, later, why, refusal_is, Cause}
use Rattle.descriptor_tree.proofs.CausesTree.{root-cause}
use Rattle.descriptor_tree.proofs.CutTree.{root-cut, root-reads}
use Rattle.descriptor_tree.proofs.Stopped.{root-wrong}
use Rattle.descriptor_tree.proofs.WrongFields.{There}

-- every file, cut, is refused by 2 at the first field that is not whole
pub cut-refused : {t : Descriptor} {b : List ℕ} (f : File t b) (n : ℕ) → n < length b → descriptor (take n b) ≡ refuse 2 (not_whole (file_wide f) 0 n) 0 0
unfolding descriptor whole file_bytes root_head
cut-refused (file {t} c few a octets short) n h =
    let b : List ℕ = file_bytes t in
    let s : List ℕ = take n b in
    let l : length s ≡ n = length-take-le n b (omega arith) in
    let st : Stub s 0 (be 4 16 ++ ((t.class ++ be 4 (count t.pairs)) ++ tree.bytes t.pairs)) = subst (λ (z : List ℕ). Stub s 0 z) (append_assoc (be 4 16) (t.class ++ be 4 (count t.pairs)) (tree.bytes t.pairs)) (stub-take b n h) in
    simp (le-leb (length s) 16777216 (omega arith)) (rw (root-cut s (bytes_take n b octets) t c few a st) (ap (λ (k : ℕ). refuse 2 (not_whole (4 ∷ ((class_wide t.class c ++ (4 ∷ [])) ++ members_wide Place.pairs 1 t.pairs a)) 0 k) 0 0) l))

-- bytes behind a file are 6 where they begin
pub left-over-refused : {t : Descriptor} {b : List ℕ} → File t b → (x : List ℕ) → Bytes x → 0 < length x → length (b ++ x) ≤ 16777216 → descriptor (b ++ x) ≡ refuse 6 (length b) 0 0
unfolding descriptor file_bytes root_head
left-over-refused (file {t} c few a octets short) x bytes some fits =
    let b : List ℕ = file_bytes t in
    let s : List ℕ = b ++ x in
    let e = append_assoc (be 4 16) (t.class ++ be 4 (count t.pairs)) (tree.bytes t.pairs) in
    let h : At s 0 (be 4 16 ++ ((t.class ++ be 4 (count t.pairs)) ++ tree.bytes t.pairs)) = subst (λ (z : List ℕ). At s 0 z) e (at_left s 0 b x (at-whole s)) in
    let r = root-reads s (bytes-append b x octets bytes) t c few a h in
    simp (le-leb (length s) 16777216 fits) (left-over-last s 0 r.0 (length b) (r.1 ∙ ap (λ (z : List ℕ). ok r.0 (length z)) (sym e)) (omega (arith, length-append b x)))

-- a damaged field, behind what is allowed and before any bytes, or where the file ends if it is cut: its number, where it stands
pub damaged-refused : {b : List ℕ} {x p : ℕ} → DamagedFile b x p → (more : List ℕ) → (x ≡ 2 → more ≡ []) → Bytes (b ++ more) → length (b ++ more) ≤ 16777216 → descriptor (b ++ more) ≡ refuse x p 0 0
unfolding descriptor whole
damaged-refused {b} {x} {p} w more last octets short =
    let s : List ℕ = b ++ more in
    let h : There s octets 0 b x = record { stands = at_left s 0 b more (at-whole s); ends = λ z. ap (λ (l : List ℕ). length (b ++ l)) (last z) ∙ ap length (append-nil b) ∙ sym (zero-add (length b)) } in
    simp (le-leb (length s) 16777216 short) (rw (root-wrong s octets b x p w h))

-- ---- each of these refusals is given, and no other

bytes_left : (x y : List ℕ) → Bytes (x ++ y) → Bytes x
bytes_left x y h = subst Bytes (take-append_seam x y) (bytes_take (length x) (x ++ y) h)

bytes-right : (x y : List ℕ) → Bytes (x ++ y) → Bytes y
bytes-right [] y h = h
bytes-right (a ∷ x) y h = bytes-right x y (λ k. h (suc k))

pub refusals-given : {s : List ℕ} {x p : ℕ} → Refusal s x p → Bytes s → descriptor s ≡ refuse x p 0 0
unfolding descriptor
refusals-given {s} (Refusal.long l) octets = simp (lt-leb (length s) 16777216 l)
refusals-given (Refusal.damaged more w last short) octets = damaged-refused w more last octets short
refusals-given (Refusal.left {b = b} more f some short) octets = left-over-refused f more (bytes-right b more octets) some short

no_length : (l : List ℕ) → length l ≡ 0 → l ≡ []
no_length [] e = refl
no_length (x ∷ l) e = absurd (omega arith)

module _ (s : List ℕ) (octets : Bytes s) (fits : length s ≤ 16777216) where
  -- a damaged field, and the rest of the file
  damaged-file : (x p : ℕ) → Cause s octets DamagedFile 0 x p → Refusal s x p
  damaged-file x p c =
      let b : List ℕ = c.span in
      let more : List ℕ = drop (0 + length b) s in
      let e : s ≡ b ++ more = at_drop s 0 b c.there.stands in
      let size : length s ≡ length b + length more = ap length e ∙ length-append b more in
      let place : c.from ≡ p = omega (arith, c.place) in
      let last : x ≡ 2 → more ≡ [] = λ z. no_length more (omega (arith, c.there.ends z)) in
      subst (λ (l : List ℕ). Refusal l x p) (sym e) (Refusal.damaged more (subst (λ (k : ℕ). DamagedFile b x k) place c.is) last (subst (λ (l : List ℕ). length l ≤ 16777216) e fits))

  -- a file, and bytes left over
  file-left : (rs : List Row) (q : ℕ) → Read-root s rs q → (q ≡ length s → ⊥) → Refusal s 6 q
  file-left rs q z other =
      let b : List ℕ = file_bytes z.tree in
      let more : List ℕ = drop (0 + length b) s in
      let e : s ≡ b ++ more = at_drop s 0 b z.stands in
      let size : length s ≡ length b + length more = ap length e ∙ length-append b more in
      let some : 0 < length more = rest (length more) (λ n. other (omega (arith, z.ends))) in
      let f : File z.tree b = file z.class z.fits z.allowed (bytes_left b more (subst Bytes e octets)) (omega arith) in
      subst₂ (λ (l : List ℕ) (k : ℕ). Refusal l 6 k) (sym e) z.ends (Refusal.left more f some (subst (λ (l : List ℕ). length l ≤ 16777216) e fits))
    where
      rest : (n : ℕ) → (n ≡ 0 → ⊥) → 0 < n
      rest n h = omega arith

  ended-cause : (rs : List Row) (q x p r g : ℕ) → root s 0 ≡ ok rs q → ended rs s q ≡ refuse x p r g → Refusal s x p
  unfolding ended
  ended-cause rs q x p r g h e = go (eqb q (length s)) refl e
    where
      go : (b : Bool) → eqb q (length s) ≡ b → pick b (ok rs q) (refuse 6 q 0 0) ≡ refuse x p r g → Refusal s x p
      go true z u = clash (sym u)
      go false z u = let y = refusal_is u in subst₂ (Refusal s) y.0 y.1 (file-left rs q (root-sound s octets rs q h) (eqb-false q (length s) z))

  whole-cause : (x p r g : ℕ) → Why (root s 0) (λ rs q. ended rs s q) x p r g → Refusal s x p
  whole-cause x p r g (first h) = damaged-file x p (root-cause s octets x p r g h)
  whole-cause x p r g (later rs q h u) = ended-cause rs q x p r g h u

limited-cause : (s : List ℕ) → Bytes s → (x p r g : ℕ) (b : Bool) → leb (length s) 16777216 ≡ b → pick b (whole s 0) (refuse 1 0 0 0) ≡ refuse x p r g → Refusal s x p
unfolding whole
limited-cause s octets x p r g true h e = whole-cause s octets (leb-true (length s) 16777216 h) x p r g (why (root s 0) _ e)
limited-cause s octets x p r g false h e = let z = refusal_is e in subst₂ (Refusal s) z.0 z.1 (Refusal.long (leb-false (length s) 16777216 h))

pub refusals-only : {s : List ℕ} → Bytes s → {x p r g : ℕ} → descriptor s ≡ refuse x p r g → Refusal s x p
unfolding descriptor
refusals-only {s} octets {x} {p} {r} {g} e = limited-cause s octets x p r g (leb (length s) 16777216) refl e
