-- Members one after the other, where the bytes of entries stand up to a file's end; and the file. Assumes nothing.
use Prim.Native.Nat.{ℕ, zero, suc, ◌+◌, ◌-◌, ◌≤◌, ◌<◌}
use mathlib.Core.Path.{◌≡◌, refl, sym, ap, ◌∙◌, subst, subst₂}
use mathlib.Core.List.{List, [], ◌∷◌, ◌++◌}
use mathlib.Core.Bool.{Bool, true, false}
use lib.Dec.{leb}
use lib.ListN.{length, length-append}
use native.Mathlib.Omega.{arith}
use native.Mathlib.Nat.{add-zero}
use Rattle.algebra.specs.Numbers.{At, Bytes, joined}
use Rattle.algebra.specs.Reader.{Res, ok, refuse, then, pick, until}
use Rattle.algebra.specs.Faults.{first_of, faults}
use Rattle.algebra.proofs.Places.{at_left, at_right}
use Rattle.descriptor_heads.specs.Heads.{Due, Opened, Stack, over, next_head, after, deepest, head_at, member_head}
use Rattle.descriptor_entry.specs.Pieces.{Piece, number, size, bytes, fault, fault_of, Fits}
use Rattle.descriptor_entry.specs.Shapes.{Entry, kind_of, shape_of}
use Rattle.descriptor_entry.specs.Entries.{key_pieces, objects_due, field_pieces, head_pieces, asks, next, member_pieces, ending, asked}
use Rattle.descriptor_entry.proofs.Laws.{first-assoc, bytes-append, faults-append, size-append, fits-left, fits-right, bytes-length}
use Rattle.descriptor_entry.proofs.Meeting.{Meets, good, bad, meets-then}
use Rattle.descriptor_entry.proofs.Headed.{meets-made, head_meets, head-short}

pub head-four : (c : Due) (e : Entry) → 4 ≤ size (head_pieces c e)
unfolding head_pieces size
head-four c e =
    let ps : List Piece = field_pieces (objects_due c) (shape_of c (kind_of e)) e in
    let n : Piece = number 4 (kind_of e) (pick (shape_of c (kind_of e)).known 0 4) in
    omega (arith, size-append (key_pieces c e) (n ∷ ps))

module _ (s text : List ℕ) (b : Bytes text) where
  -- what is promised of the members es under a stack
  abbrev Promised : List Entry → Type 0
  Promised es = (fuel : ℕ) (st : Stack) (at : ℕ) → Fits text (member_pieces es st) → At s at (bytes text (member_pieces es st)) → at + length (bytes text (member_pieces es st)) ≡ length s
      → length s - at < fuel → (ending es st ≡ 6 → ⊥) → Meets (until over after next_head fuel st s at) (first_of (fault text (member_pieces es st)) (ending es st)) (length s) (asked es st at)

  -- the heads behind one
  abbrev rest : ℕ → Due × ℕ → Stack → Opened → ℕ → Res (List Opened)
  rest f x st a q = then (until over after next_head f (after (x ∷ st) a) s q) (λ more end. ok (a ∷ more) end)

  -- a member for which no entry is left
  short : (f : ℕ) (x : Due × ℕ) (st : Stack) (at : ℕ) → at ≡ length s → (t : Bool) → (v : List Opened)
      → Meets (then (pick t (member_head (suc (length st)) x.0 s at) (refuse 10 at 0 0)) (rest f x st)) (first_of 0 (pick t 2 10)) (length s) v
  short f x st at last true v = bad at 0 0 (ap (λ (w : Res Opened). then w (rest f x st)) (head-short s at last (suc (length st)) x.0)) (omega arith)
  short f x st at last false v = bad at 0 0 refl (omega arith)

  -- a member with its entry, and those behind it
  step : (es : List Entry) → Promised es → (e : Entry) (f : ℕ) (x : Due × ℕ) (st : Stack) (at : ℕ) (t : Bool)
      → Fits text (pick t (head_pieces x.0 e ++ member_pieces es (next (x ∷ st) e)) []) → At s at (bytes text (pick t (head_pieces x.0 e ++ member_pieces es (next (x ∷ st) e)) []))
      → at + length (bytes text (pick t (head_pieces x.0 e ++ member_pieces es (next (x ∷ st) e)) [])) ≡ length s → length s - at < suc f → (pick t (ending es (next (x ∷ st) e)) 10 ≡ 6 → ⊥)
      → Meets (then (pick t (member_head (suc (length st)) x.0 s at) (refuse 10 at 0 0)) (rest f x st))
      (first_of (fault text (pick t (head_pieces x.0 e ++ member_pieces es (next (x ∷ st) e)) [])) (pick t (ending es (next (x ∷ st) e)) 10)) (length s)
      (asks (shape_of x.0 (kind_of e)) (suc (length st)) at (at + size (key_pieces x.0 e) + 4) e ∷ asked es (next (x ∷ st) e) (at + size (head_pieces x.0 e)))
  unfolding faults
  step es ih e f x st at true fit stands last enough over6 =
      let hp : List Piece = head_pieces x.0 e in
      let mp : List Piece = member_pieces es (next (x ∷ st) e) in
      let o : Opened = asks (shape_of x.0 (kind_of e)) (suc (length st)) at (at + size (key_pieces x.0 e) + 4) e in
      let j = bytes-append text hp mp in
      let g : At s at (bytes text hp ++ bytes text mp) = subst (λ (l : List ℕ). At s at l) j stands in
      let n : length (bytes text hp) ≡ size hp = bytes-length text hp (fits-left text hp mp fit) in
      let w : length (bytes text (hp ++ mp)) ≡ length (bytes text hp) + length (bytes text mp) = ap length j ∙ length-append (bytes text hp) (bytes text mp) in
      let one = head_meets s text b x.0 e (suc (length st)) at (fits-left text hp mp fit) (at_left s at (bytes text hp) (bytes text mp) g) in
      let q : ℕ = at + length (bytes text hp) in
      let two = ih f (next (x ∷ st) e) q (fits-right text hp mp fit) (at_right s at (bytes text hp) (bytes text mp) g) (omega (arith, w, last)) (omega (arith, enough, n, head-four x.0 e, w, last)) over6 in
      let all = meets-then one (rest f x st) (meets-made two (λ more. o ∷ more)) in
      let a : first_of (fault text hp) (first_of (fault text mp) (ending es (next (x ∷ st) e))) ≡ first_of (fault text (hp ++ mp)) (ending es (next (x ∷ st) e)) =
      first-assoc (fault text hp) (fault text mp) (ending es (next (x ∷ st) e)) ∙ ap (λ (k : ℕ). first_of k (ending es (next (x ∷ st) e))) (sym (faults-append (fault_of text) hp mp)) in
      subst₂ (λ (y : ℕ) (k : ℕ). Meets (then (member_head (suc (length st)) x.0 s at) (rest f x st)) y (length s) (o ∷ asked es (next (x ∷ st) e) k)) a (ap (λ (k : ℕ). at + k) n) all
  step es ih e f x st at false fit stands last enough over6 = bad at 0 0 refl (omega arith)

  pub members-meet : (es : List Entry) → Promised es
  unfolding until head_at member_pieces ending asked faults joined
  members-meet [] zero st at fit stands last enough over6 = absurd (omega (arith, enough))
  members-meet [] (suc f) [] at fit stands last enough over6 = good (ap (λ (k : ℕ). ok [] k) (sym (add-zero at) ∙ last)) refl
  members-meet [] (suc f) (x ∷ st) at fit stands last enough over6 = short f x st at (sym (add-zero at) ∙ last) (leb (suc (length st)) deepest) []
  members-meet (e ∷ es) zero st at fit stands last enough over6 = absurd (omega (arith, enough))
  members-meet (e ∷ es) (suc f) [] at fit stands last enough over6 = absurd (over6 refl)
  members-meet (e ∷ es) (suc f) (x ∷ st) at fit stands last enough over6 = step es (members-meet es) e f x st at (leb (suc (length st)) deepest) fit stands last enough over6
