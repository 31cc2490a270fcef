-- What is promised of descriptors that are built. Assumes nothing.
use Prim.Native.Nat.{ℕ, ◌≤◌}
use mathlib.Core.Path.{◌≡◌, refl, sym, ap, ◌∙◌, subst}
use mathlib.Core.List.{List, [], ◌∷◌}
use mathlib.Core.Bool.{Bool, true, false}
use lib.Dec.{leb, eqb}
use lib.ListN.{length}
use borrow.Author.Tests.{leb-true, eqb-true}
use native.Mathlib.Omega.{arith}
use Rattle.algebra.specs.Chars.{chars}
use Rattle.algebra.specs.Numbers.{Bytes}
use Rattle.algebra.specs.Reader.{Res, ok, refuse, pick, map_res, number_of, limit}
use Rattle.algebra.specs.Faults.{first_of, faults}
use Rattle.algebra.proofs.Tells.{first-inv, pick-none}
use Rattle.descriptor.specs.Reading.{descriptor}
use Rattle.descriptor_heads.specs.Heads.{Opened, file_heads}
use Rattle.descriptor_heads.specs.Rows.{rows_of}
use Rattle.descriptor_heads.proofs.Theorem.{rows_are}
use Rattle.descriptor_entry.specs.Pieces.{size, fault, fault_of, Fits}
use Rattle.descriptor_entry.specs.Shapes.{Entry, kind_of, object}
use Rattle.descriptor_entry.specs.Entries.{given, field_pieces, root_pieces, member_pieces, root_stack, pieces, asked_heads, ended, build_fault, made, Words, Rooted}
use Rattle.descriptor_entry.proofs.Laws.{faults-append, bytes-length}
use Rattle.descriptor_entry.proofs.Meeting.{meets-number, meets-ok}
use Rattle.descriptor_entry.proofs.Whole.{file-meets}
use Rattle.descriptor_entry.specs.Promise.{FileCarried}
use Rattle.descriptor_entry.proofs.Faultless.{pieces-fit, given-words}
use Rattle.descriptor_entry.proofs.Carried.{file-carried}

mapped-number : {A B : Type 0} (g : A → B) (m : Res A) → number_of (map_res g m) ≡ number_of m
mapped-number g (ok a q) = refl
mapped-number g (refuse x p r f) = refl

-- of entries whose root is `Objc`, of which none is left over, and whose numbers fit their fields and parts lie in the text, the refusal of building, 11 aside, has the number that the reader gives
-- for the bytes made of them; 0 is none
pub refusals-agree : (text : List ℕ) → Bytes text → (es : List Entry) → Rooted es → Fits text (pieces es) → (ended es ≡ 6 → ⊥) → build_fault text es ≡ number_of (descriptor (made text es))
refusals-agree text b es root fit over6 =
    sym (meets-number (file-meets text b es root fit over6)) ∙ sym (mapped-number (rows_of (length (made text es))) (file_heads (made text es))) ∙ ap number_of (sym (rows_are (made text es)))

-- ---- what is written reads back

pub record Sound (text : List ℕ) (es : List Entry) : Type 0 where
  pub within : size (pieces es) ≤ limit
  pub none : fault text (pieces es) ≡ 0
  pub whole : ended es ≡ 0

pub sound : (text : List ℕ) (es : List Entry) → build_fault text es ≡ 0 → Sound text es
unfolding build_fault
sound text es e = go (leb (size (pieces es)) limit) refl e
  where
    go : (t : Bool) → leb (size (pieces es)) limit ≡ t → pick t (first_of (fault text (pieces es)) (ended es)) 1 ≡ 0 → Sound text es
    go true h z = let i = first-inv (fault text (pieces es)) (ended es) z in record { within = leb-true _ _ h; none = i.0; whole = i.1 }
    go false h z = absurd (omega (arith, z))

rooted : (text : List ℕ) (es : List Entry) → Sound text es → Rooted es
unfolding pieces root_pieces faults
rooted text [] s = tt
rooted text (e ∷ es) s =
    let a = first-inv (fault text (root_pieces e)) (fault text (member_pieces es (root_stack e))) (sym (faults-append (fault_of text) (root_pieces e) (member_pieces es (root_stack e))) ∙ s.none) in
    let x = first-inv (pick (eqb (kind_of e) (chars "Objc")) 0 4) (fault text (field_pieces 0 object e)) a.0 in
    eqb-true _ _ (pick-none (eqb (kind_of e) (chars "Objc")) 4 (omega arith) x.0)

-- entries without a fault are made into a file that is accepted, as long as is said, and whose heads are those that were asked for: kinds, depths, what the children are and how many
pub written-reads : (text run : List ℕ) → Bytes text → Words run → build_fault text (given run) ≡ 0
    → (file_heads (made text (given run)) ≡ ok (asked_heads (given run)) (length (made text (given run)))) × (length (made text (given run)) ≡ size (pieces (given run)))
written-reads text run b w e =
    let es : List Entry = given run in
    let s = sound text es e in
    let fit = pieces-fit text es (given-words run w) s.none in
    (meets-ok (file-meets text b es (rooted text es s) fit (λ z. absurd (omega (arith, z, s.whole)))) e, bytes-length text (pieces es) fit)

-- and whose rows are those of these heads
pub written-rows : (text run : List ℕ) → Bytes text → Words run → build_fault text (given run) ≡ 0
    → descriptor (made text (given run)) ≡ ok (rows_of (length (made text (given run))) (asked_heads (given run))) (length (made text (given run)))
written-rows text run b w e = rows_are (made text (given run)) ∙ ap (map_res (rows_of (length (made text (given run))))) (written-reads text run b w e).0

same-heads : {os ps : List Opened} {p q : ℕ} → ok os p ≡ ok ps q → os ≡ ps
same-heads e = cc

-- and whose heads, as they are read, carry the entries: keys, classes, strings and IDs in the form given, values and counts
pub written-carried : (text run : List ℕ) → Bytes text → Words run → build_fault text (given run) ≡ 0 → (os : List Opened) (q : ℕ) → file_heads (made text (given run)) ≡ ok os q → FileCarried text (made text (given run)) (given run) os
written-carried text run b w e os q reads =
    let es : List Entry = given run in
    let s = sound text es e in
    let fit = pieces-fit text es (given-words run w) s.none in
    subst (λ (os : List Opened). FileCarried text (made text es) es os) (same-heads (sym (written-reads text run b w e).0 ∙ reads)) (file-carried text b es fit s.none s.whole)
