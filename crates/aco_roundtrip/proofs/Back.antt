-- What writing answers, and what it makes of the records of an accepted file. Assumes nothing.
use Prim.Native.Nat.{ℕ, ◌+◌, ◌*◌, ◌≤◌}
use mathlib.Core.Path.{◌≡◌, sym, ap, ap₂, ◌∙◌, subst}
use mathlib.Core.List.{List, [], ◌++◌, map}
use mathlib.Core.Bool.{Bool}
use lib.Dec.{leb, eqb}
use lib.ListN.{length, drop}
use borrow.Author.Tests.{le-leb}
use native.Mathlib.Omega.{arith}
use Rattle.algebra.specs.Numbers.{Bytes, All}
use Rattle.algebra.specs.Reader.{ok, pick, limit}
use Rattle.algebra.proofs.Exact.{length-map}
use Rattle.aco.specs.Grammar.{Swatch, Palette, File, list_one, two_lists}
use Rattle.aco.specs.Reading.{Contents, aco, swatch}
use Rattle.aco.specs.Faults.{palette_fault}
use Rattle.aco.proofs.Inverse.{aco-inv}
use Rattle.aco.proofs.Faultless.{allowed-faultless}
use Rattle.aco.proofs.RoundTrip.{accepted-allowed, allowed-written}
use Rattle.aco.specs.Row.{RecordRow}
use Rattle.aco_writing.specs.Writing.{size, fault, needed, written}
use Rattle.algebra.specs.Writing.{bytes, refused}
use Rattle.algebra.proofs.Writing.{Wrote, writes-inv, writes-all}
use Rattle.aco_roundtrip.specs.Tie.{made, tabled}
use Rattle.aco_roundtrip.proofs.Fitting.{length-made, all-four, fault-same}
use Rattle.aco_roundtrip.proofs.Records.{palette-of, bare_of, length-bare, given-swatches, given-fit}

-- what is known where a writer wrote n bytes
abbrev pub Written : (text : List ℕ) (gs : List RecordRow) (out : List ℕ) (n : ℕ) (out' : List ℕ) → Type 0
Written text gs out n out' = Wrote (fault text gs) (size gs) (made text gs) out n out'

pub written-inv : (text : List ℕ) (gs : List RecordRow) (out : List ℕ) {n : ℕ} {out' : List ℕ} → written text gs out ≡ (bytes n, out') → Written text gs out n out'
written-inv text gs out e = writes-inv (fault text gs) (size gs) (made text gs) out e

module _ (s : List ℕ) (b : Bytes s) {c : Contents} {q : ℕ} (e : aco s ≡ ok c q) where
  -- the records of an accepted file as a file of two lists, where that is not too long
  module _ (file : List ℕ) (is : file ≡ two_lists (map swatch c.records)) (short : length file ≤ limit) where
    made-is : made s (tabled c) ≡ file
    made-is = ap two_lists (given-swatches s b e) ∙ sym is

    file-size : size (tabled c) ≡ length file
    file-size = sym (length-made s (tabled c) (all-four s (tabled c) (given-fit s b e))) ∙ ap length made-is

    pub needs : needed s (tabled c) ≡ bytes (length file)
    needs =
        let ws : List Swatch = map swatch c.records in
        let none : fault s (tabled c) ≡ 0 =
        fault-same s (tabled c) (given-fit s b e) ∙ ap₂ (λ (f : List ℕ) (l : List Swatch). pick (leb (length f) limit) (palette_fault l) 1) made-is (given-swatches s b e)
        ∙ ap (λ (t : Bool). pick t (palette_fault ws) 1) (le-leb (length file) limit short) ∙ allowed-faultless ws (palette-of (accepted-allowed b e).0) in
        ap (λ (k : ℕ). pick (eqb k 0) (bytes (size (tabled c))) (refused k 0)) none ∙ ap bytes file-size

    pub writes : (out : List ℕ) → length file ≤ length out → written s (tabled c) out ≡ (bytes (length file), file ++ drop (length file) out)
    writes out h = sym (writes-all (fault s (tabled c)) (size (tabled c)) (made s (tabled c)) out (length file) (sym needs) h _ (sym (ap₂ (λ (f : List ℕ) (k : ℕ). f ++ drop k out) made-is file-size)))

  -- two lists: it is the file itself
  pub itself : c.lists ≡ 2 → (s ≡ two_lists (map swatch c.records)) × (length s ≤ limit)
  itself two = ((allowed-written (subst (λ (l : ℕ). File l (map swatch c.records) s) two (accepted-allowed b e).0)).1, (aco-inv s e).2.short)

  -- one list: it has no names, and is short
  module _ (one : c.lists ≡ 1) where
    pub bare : All (λ k w. w.name ≡ []) 0 (map swatch c.records) × (s ≡ list_one (map swatch c.records))
    bare = bare_of (accepted-allowed b e).0 one

    pub palette : Palette (map swatch c.records)
    palette = palette-of (accepted-allowed b e).0

    pub length-is : length (two_lists (map swatch c.records)) ≡ 8 + 26 * length c.records
    length-is = length-bare (map swatch c.records) palette.swatches bare.0 ∙ ap (λ (n : ℕ). 8 + 26 * n) (length-map swatch c.records)

    pub short : length (two_lists (map swatch c.records)) ≤ limit
    short = omega (arith, length-is, palette.count, length-map swatch c.records)
