-- What writing answers, and what it makes of the book of an accepted file. Assumes nothing.
use Prim.Native.Nat.{ℕ, ◌≤◌}
use mathlib.Core.Path.{◌≡◌, sym, ap, ap₂, ◌∙◌}
use mathlib.Core.List.{List, ◌++◌}
use mathlib.Core.Bool.{Bool}
use lib.Dec.{leb}
use lib.ListN.{length, drop}
use borrow.Author.Tests.{le-leb}
use Rattle.algebra.specs.Numbers.{Bytes}
use Rattle.algebra.specs.Reader.{ok, pick, limit}
use Rattle.algebra.specs.Writing.{bytes, refused, needs, writes}
use Rattle.algebra.proofs.Writing.{Wrote, writes-inv}
use Rattle.acb.specs.Grammar.{Ending, tagged, Book, file_bytes, File, file}
use Rattle.acb.specs.Reading.{Contents, book_of, acb}
use Rattle.acb_judge.specs.Answer.{HeaderPlaces, header_places}
use Rattle.acb.specs.Faults.{book_fault}
use Rattle.acb.proofs.RoundTrip.{accepted-allowed, allowed-written}
use Rattle.acb_writing.specs.Writing.{size, fault, needed, written}
use Rattle.acb.specs.Row.{RecordRow}
use Rattle.acb_roundtrip.specs.Tie.{made, tabled}
use Rattle.acb_roundtrip.proofs.Fitting.{length-made, fault-same}
use Rattle.acb_roundtrip.proofs.Records.{given-book, given-fit}

-- what is known where a writer wrote n bytes
abbrev pub Written : (text : List ℕ) (h : HeaderPlaces) (t : Ending) (gs : List RecordRow) (out : List ℕ) (n : ℕ) (out' : List ℕ) → Type 0
Written text h t gs out n out' = Wrote (fault text h t gs) (size h t gs) (made text h t gs) out n out'

pub written-inv : (text : List ℕ) (h : HeaderPlaces) (t : Ending) (gs : List RecordRow) (out : List ℕ) {n : ℕ} {out' : List ℕ} → written text h t gs out ≡ (bytes n, out') → Written text h t gs out n out'
written-inv text h t gs out e = writes-inv (fault text h t gs) (size h t gs) (made text h t gs) out e

-- a file of the grammar is within the limit
short-file : {b : Book} {s : List ℕ} → File b s → length s ≤ limit
short-file (file allowed short) = short

module _ (s : List ℕ) (b : Bytes s) {c : Contents} {q : ℕ} (e : acb s ≡ ok c q) where
  abbrev h : HeaderPlaces
  h = header_places c.header

  abbrev gs : List RecordRow
  gs = tabled c

  -- what is made of the book of an accepted file is the file
  made-is : made s h (tagged c.tag) gs ≡ s
  made-is = ap file_bytes (given-book s b e) ∙ sym (allowed-written (accepted-allowed b e).0).1

  size_same : size h (tagged c.tag) gs ≡ length s
  size_same = sym (length-made s h (tagged c.tag) gs (given-fit s b e)) ∙ ap length made-is

  faultless : fault s h (tagged c.tag) gs ≡ 0
  faultless =
      let f : File (book_of c) s = (accepted-allowed b e).0 in
      fault-same s h (tagged c.tag) gs (given-fit s b e) ∙ ap₂ (λ (m : List ℕ) (x : Book). pick (leb (length m) limit) (book_fault x) 1) made-is (given-book s b e)
      ∙ ap (λ (t : Bool). pick t (book_fault (book_of c)) 1) (le-leb (length s) limit (short-file f)) ∙ (allowed-written f).0

  pub needs-all : needed s (header_places c.header) (tagged c.tag) (tabled c) ≡ bytes (length s)
  needs-all = ap₂ (λ (x n : ℕ). needs x n) faultless size_same

  pub writes-all : (out : List ℕ) → length s ≤ length out → written s (header_places c.header) (tagged c.tag) (tabled c) out ≡ (bytes (length s), s ++ drop (length s) out)
  writes-all out k =
      ap₂ (λ (x n : ℕ). writes x n (made s h (tagged c.tag) gs) out) faultless size_same ∙ ap (λ (f : List ℕ). writes 0 (length s) f out) made-is
      ∙ ap (λ (t : Bool). pick t (bytes (length s), s ++ drop (length s) out) (refused 11 0, out)) (le-leb (length s) (length out) k)
