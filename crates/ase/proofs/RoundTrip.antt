-- What is promised of ASE files: reading and the grammar agree, and what a writer may write. Assumes nothing.
use Prim.Native.Nat.{ℕ, ◌^◌, ◌≤◌, ◌<◌}
use mathlib.Core.Path.{◌≡◌, refl, sym, ap, ◌∙◌, subst, subst₂}
use mathlib.Core.List.{List, map}
use mathlib.Core.Logic.{◌⊎◌, inl, inr}
use mathlib.Core.Bool.{Bool, true, false}
use lib.Dec.{leb}
use lib.ListN.{length}
use borrow.Author.Tests.{leb-true}
use Rattle.algebra.specs.Numbers.{At, Bytes, All}
use Rattle.algebra.specs.Reader.{ok, refuse, pick, number_of, limit}
use Rattle.algebra.proofs.Places.{at-whole}
use Rattle.algebra.proofs.Inverse.{clash, refuse-same, ok-value}
use Rattle.algebra.proofs.Exact.{all_both}
use Rattle.algebra.proofs.Tells.{outcome-number}
use Rattle.ase.specs.Grammar.{Block, payload, file_bytes, File, file}
use Rattle.ase.specs.Reading.{Entry, block_of, palette, ase}
use Rattle.ase.specs.Faults.{palette_fault, BlockFits}
use Rattle.ase.specs.Damaged.{Damaged}
use Rattle.ase.proofs.Blocks.{file-parts, length-file, file-short, few-blocks, small-payloads, bytes-file}
use Rattle.ase.proofs.Whole.{file-reads, file-writes}
use Rattle.ase.proofs.Refused.{damaged-refused}
use Rattle.ase.proofs.Total.{FileOr, is_file, is_damaged, file-or}
use Rattle.ase.proofs.Written.{palette-outcome}
use Rattle.ase.proofs.Faultless.{faultless-allowed, allowed-faultless}

-- ---- the grammar and the reader

-- every file of the grammar is accepted to its end, and read as the blocks that it was made of
pub allowed-reads : {bs : List Block} {b : List ℕ} → File bs b → (es : List Entry) × (ase b ≡ ok es (length b)) × (map block_of es ≡ bs)
allowed-reads (file {bs} allowed nested short) = file-reads bs allowed nested short

-- every accepted file is a file of the grammar, made of the blocks that were read, and is read to its end
pub accepted-allowed : {s : List ℕ} → Bytes s → {es : List Entry} {q : ℕ} → ase s ≡ ok es q → File (map block_of es) s × (q ≡ length s)
accepted-allowed {s} bytes {es} {q} e = file-writes s bytes es q e

-- no file is made of two rows of blocks
pub allowed-unique : {bs cs : List Block} {b : List ℕ} → File bs b → File cs b → bs ≡ cs
allowed-unique f g =
    let x = allowed-reads f in
    let y = allowed-reads g in
    sym x.2 ∙ ap (map block_of) (ok-value (sym x.1 ∙ y.1)) ∙ y.2

-- ---- refusals

-- every file within the limit is one of the grammar or a damaged one
pub allowed-or-damaged : (s : List ℕ) → Bytes s → length s ≤ 16777216 → ((bs : List Block) × File bs s) ⊎ ((z p : ℕ) × Damaged s z p)
allowed-or-damaged s bytes short = elim (file-or s bytes short) [
  | is_file bs f ↦ inl (bs, f)
  | is_damaged z p d ↦ inr (z, p, d)
]

-- what is refused within the limit is damaged, and the refusal's number and place are those of the damage; no refusal names a record or a field
pub refused-damaged : {s : List ℕ} → Bytes s → length s ≤ 16777216 → {z p r f : ℕ} → ase s ≡ refuse z p r f → Damaged s z p × (r ≡ 0) × (f ≡ 0)
refused-damaged {s} bytes short {z} {p} {r} {f} e = go (file-or s bytes short)
  where
    go : FileOr s → Damaged s z p × (r ≡ 0) × (f ≡ 0)
    go (is_file bs g) = clash (sym e ∙ (allowed-reads g).1)
    go (is_damaged y q d) =
        let x = refuse-same (damaged-refused d bytes short) e in
        (subst₂ (λ (n m : ℕ). Damaged s n m) x.0 x.1 d, sym x.2, sym x.3)

-- a file is damaged in one way only
pub damaged-unique : {s : List ℕ} → Bytes s → length s ≤ 16777216 → {z p y q : ℕ} → Damaged s z p → Damaged s y q → (z ≡ y) × (p ≡ q)
damaged-unique bytes short d e = let x = refuse-same (damaged-refused d bytes short) (damaged-refused e bytes short) in (x.0, x.1)

-- no file of the grammar is damaged
pub allowed-undamaged : {bs : List Block} {s : List ℕ} → File bs s → {z p : ℕ} → Damaged s z p → ⊥
allowed-undamaged (file {bs} allowed nested short) d = clash (sym (damaged-refused d (bytes-file bs) short) ∙ (file-reads bs allowed nested short).1)

-- ---- what a writer may write

-- of blocks that fit their fields, the reader refuses what was written by the number of their first fault, and accepts it where they have none
pub written-number : (bs : List Block) → All (λ i b. BlockFits b) 0 bs → number_of (ase (file_bytes bs)) ≡ pick (leb (length (file_bytes bs)) limit) (palette_fault bs) 1
unfolding ase
written-number bs fits = go (leb (length (file_bytes bs)) limit) refl
  where
    stands : At (file_bytes bs) 0 (file_bytes bs)
    stands = at-whole (file_bytes bs)

    go : (b : Bool) → leb (length (file_bytes bs)) limit ≡ b → number_of (pick b (palette (file_bytes bs) 0) (refuse 1 0 0 0)) ≡ pick b (palette_fault bs) 1
    go true e =
        let short : length (file_bytes bs) ≤ limit = leb-true (length (file_bytes bs)) limit e in
        outcome-number (palette (file_bytes bs) 0) (palette_fault bs) (length (file_bytes bs))
        (palette-outcome (file_bytes bs) (bytes-file bs) bs (few-blocks bs (file-short bs short)) (all_both (λ i b. BlockFits b) (λ i b. length (payload b) < 256 ^ 4) 0 bs fits (small-payloads bs (file-short bs short)))
        (subst (λ (l : List ℕ). At (file_bytes bs) 0 l) (file-parts bs) stands) (sym (length-file bs)))
    go false e = refl

-- blocks that fit their fields and have no fault are written as a file of the grammar, so that they read back
pub written-allowed : (bs : List Block) → All (λ i b. BlockFits b) 0 bs → palette_fault bs ≡ 0 → length (file_bytes bs) ≤ limit → File bs (file_bytes bs)
written-allowed bs fits none short = let x = faultless-allowed bs fits none in file x.0 x.1 short

-- no row of blocks of the grammar has a fault: what is refused is not allowed
pub allowed-written : {bs : List Block} {b : List ℕ} → File bs b → (palette_fault bs ≡ 0) × (b ≡ file_bytes bs)
allowed-written (file {bs} allowed nested short) = (allowed-faultless bs allowed nested, refl)
