-- The numbers that writing a book may be refused by, always at place 0. Assumes nothing.
-- Few imports, and first by its name: a number outside these is refused here, and by nothing before it.
use Prim.Native.Nat.{ℕ}
use mathlib.Core.Path.{◌≡◌, refl}
use mathlib.Core.List.{List, ◌∷◌}
use lib.Dec.{leb, ltb, eqb}
use lib.ListN.{length}
use Rattle.algebra.specs.Reader.{limit}
use Rattle.algebra.specs.Faults.{faults}
use Rattle.algebra.specs.Writing.{refused}
use Rattle.algebra.specs.Refusal.{Of, among}
use Rattle.algebra.proofs.Numbered.{Fault, no-fault, pick-fault, first-fault, faults-fault, body-fault, needs-refused, writes-refused}
use Rattle.acb.specs.Grammar.{Ending, tagged, other, file_bytes}
use Rattle.acb.specs.Reading.{is_space, components_of}
use Rattle.acb.specs.Faults.{ending_fault}
use Rattle.acb.specs.Faults as f
use Rattle.acb_judge.specs.Answer.{HeaderPlaces}
use Rattle.acb_writing.specs.Refusals.{refusals}
use Rattle.acb_writing.specs.Writing.{components_in, book_in, size, text_fault, head_fault, byte_fault, colour_fault, other_fault, ink_fault, fault, needed, written}
use Rattle.colour.specs.Inks.{ink_number}
use Rattle.acb.specs.Row.{RecordRow, tag_ink}

text-numbered : (text : List ℕ) (l : ℕ × ℕ) → Fault refusals (text_fault text l)
text-numbered text l = body-fault (among refl) 2 l.1 text l.0

head-numbered : (text : List ℕ) (h : HeaderPlaces) (count : ℕ) → Fault refusals (head_fault text h count)
unfolding f.head_fault
head-numbered text h count =
    first-fault (faults (text_fault text) h.texts) _ (faults-fault (text_fault text) (text-numbered text) h.texts)
    (first-fault _ _ (pick-fault (leb count 65535) no-fault (among refl))
    (first-fault _ _ (pick-fault (ltb 0 h.size) no-fault (among refl)) (pick-fault (is_space h.space) no-fault (among refl))))

byte-numbered : (v : ℕ) → Fault refusals (byte_fault v)
byte-numbered v = pick-fault (leb v 255) no-fault (among refl)

colour-numbered : (text : List ℕ) (n : ℕ) (g : RecordRow) → Fault refusals (colour_fault text n g)
unfolding colour_fault
colour-numbered text n g =
    first-fault (text_fault text g.name) _ (text-numbered text g.name)
    (first-fault (faults byte_fault g.code) _ (faults-fault byte_fault byte-numbered g.code) (faults-fault byte_fault byte-numbered (components_in n g)))

ending-numbered : (t : Ending) → Fault refusals (ending_fault t)
ending-numbered (tagged t) = among refl
ending-numbered (other v) = among refl

other-numbered : (text : List ℕ) (h : HeaderPlaces) (t : Ending) (gs : List RecordRow) → Fault refusals (other_fault text h t gs)
unfolding other_fault
other-numbered text h t gs =
    pick-fault (leb (size h t gs) limit)
    (first-fault (head_fault text h (length gs)) _ (head-numbered text h (length gs))
    (first-fault (faults (colour_fault text (components_of h.space)) gs) _ (faults-fault (colour_fault text (components_of h.space)) (colour-numbered text (components_of h.space)) gs) (ending-numbered t)))
    (among refl)

ink-numbered : (t : Ending) (g : RecordRow) → Fault refusals (ink_fault t g)
ink-numbered (tagged t) g = pick-fault (eqb g.ink (ink_number (tag_ink t))) no-fault (among refl)
ink-numbered (other v) g = no-fault

fault-numbered : (text : List ℕ) (h : HeaderPlaces) (t : Ending) (gs : List RecordRow) → Fault refusals (fault text h t gs)
unfolding fault
fault-numbered text h t gs = first-fault (other_fault text h t gs) _ (other-numbered text h t gs) (faults-fault (ink_fault t) (ink-numbered t) gs)

-- the length that is needed is refused by one of these numbers
pub needed-refused : (text : List ℕ) (h : HeaderPlaces) (t : Ending) (gs : List RecordRow) {x p : ℕ} → needed text h t gs ≡ refused x p → Of refusals x × (p ≡ 0)
needed-refused text h t gs e = needs-refused (fault text h t gs) (size h t gs) (fault-numbered text h t gs) e

-- writing by one of them or by 11, and the lent bytes are as they were
pub written-refused : (text : List ℕ) (h : HeaderPlaces) (t : Ending) (gs : List RecordRow) (out : List ℕ) {x p : ℕ} {out' : List ℕ} → written text h t gs out ≡ (refused x p, out') → Of (11 ∷ refusals) x × (p ≡ 0) × (out' ≡ out)
written-refused text h t gs out e = writes-refused (fault text h t gs) (size h t gs) (file_bytes (book_in text h t gs)) out (fault-numbered text h t gs) e
