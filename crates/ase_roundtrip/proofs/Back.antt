-- What writing answers, and what it makes of the records of an accepted file. Assumes nothing.
use Prim.Native.Nat.{ℕ, ◌≤◌}
use mathlib.Core.Path.{◌≡◌, sym, ap, ap₂, ◌∙◌}
use mathlib.Core.List.{List, ◌++◌, map}
use mathlib.Core.Bool.{Bool}
use lib.Dec.{leb}
use lib.ListN.{length, drop}
use borrow.Author.Tests.{le-leb}
use Rattle.algebra.specs.Numbers.{Bytes}
use Rattle.algebra.specs.Reader.{ok, pick, limit}
use Rattle.algebra.specs.Writing.{bytes, refused, needs, writes}
use Rattle.ase.specs.Grammar.{Block, file_bytes, File, file}
use Rattle.ase.specs.Reading.{Entry, block_of, ase}
use Rattle.ase.specs.Faults.{palette_fault}
use Rattle.ase.proofs.RoundTrip.{accepted-allowed, allowed-written}
use Rattle.algebra.proofs.Writing.{Wrote, writes-inv}
use Rattle.ase.specs.Row.{RecordRow}
use Rattle.ase_writing.specs.Writing.{size, fault, needed, written}
use Rattle.ase_roundtrip.specs.Tie.{made, tabled}
use Rattle.ase_roundtrip.proofs.Fitting.{length-made, fault-same}
use Rattle.ase_roundtrip.proofs.Records.{given-blocks, given-fit}

-- what is known where a writer wrote n bytes
abbrev pub Written : (text : List ℕ) (gs : List RecordRow) (out : List ℕ) (n : ℕ) (out' : List ℕ) → Type 0
Written text gs out n out' = Wrote (fault text gs) (size gs) (made text gs) out n out'

pub written-inv : (text : List ℕ) (gs : List RecordRow) (out : List ℕ) {n : ℕ} {out' : List ℕ} → written text gs out ≡ (bytes n, out') → Written text gs out n out'
written-inv text gs out e = writes-inv (fault text gs) (size gs) (made text gs) out e

-- a file of the grammar is within the limit
short-file : {bs : List Block} {b : List ℕ} → File bs b → length b ≤ limit
short-file (file allowed nested short) = short

module _ (s : List ℕ) (b : Bytes s) {es : List Entry} {q : ℕ} (e : ase s ≡ ok es q) where
  -- what is made of the records of an accepted file is the file
  made-is : made s (tabled es) ≡ s
  made-is = ap file_bytes (given-blocks s b e) ∙ sym (allowed-written (accepted-allowed b e).0).1

  size_same : size (tabled es) ≡ length s
  size_same = sym (length-made s (tabled es) (given-fit s b e)) ∙ ap length made-is

  faultless : fault s (tabled es) ≡ 0
  faultless =
      let bs : List Block = map block_of es in
      let f : File bs s = (accepted-allowed b e).0 in
      fault-same s (tabled es) (given-fit s b e) ∙ ap₂ (λ (m : List ℕ) (l : List Block). pick (leb (length m) limit) (palette_fault l) 1) made-is (given-blocks s b e)
      ∙ ap (λ (t : Bool). pick t (palette_fault bs) 1) (le-leb (length s) limit (short-file f)) ∙ (allowed-written f).0

  pub needs-all : needed s (tabled es) ≡ bytes (length s)
  needs-all = ap₂ (λ (x n : ℕ). needs x n) faultless size_same

  pub writes-all : (out : List ℕ) → length s ≤ length out → written s (tabled es) out ≡ (bytes (length s), s ++ drop (length s) out)
  writes-all out h =
      ap₂ (λ (x n : ℕ). writes x n (made s (tabled es)) out) faultless size_same ∙ ap (λ (f : List ℕ). writes 0 (length s) f out) made-is
      ∙ ap (λ (t : Bool). pick t (bytes (length s), s ++ drop (length s) out) (refused 11 0, out)) (le-leb (length s) (length out) h)
