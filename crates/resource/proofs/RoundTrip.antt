-- What is promised of image resource sections: reading and the grammar agree, and what a writer may write. Assumes nothing.
use Prim.Native.Nat.{ℕ, ◌≤◌}
use mathlib.Core.Path.{◌≡◌, refl, sym, ap, ◌∙◌, subst₂}
use mathlib.Core.List.{List, map}
use mathlib.Core.Logic.{◌⊎◌, inl, inr}
use mathlib.Core.Bool.{Bool, true, false}
use lib.Dec.{leb}
use lib.ListN.{length}
use borrow.Author.Tests.{leb-true, leb-false}
use Rattle.algebra.specs.Numbers.{Bytes, All}
use Rattle.algebra.specs.Reader.{ok, refuse, pick, number_of, limit}
use Rattle.algebra.proofs.Inverse.{clash, ok-value}
use Rattle.resource.specs.Grammar.{Block, section_bytes, Allowed, Section, section}
use Rattle.resource.specs.Reading.{Entry, block_of, resources}
use Rattle.resource.specs.Damaged.{Damaged}
use Rattle.resource.proofs.Whole.{resources-read, resources-write}
use Rattle.resource.proofs.Refused.{long-refused, damaged-refused}
use Rattle.resource.proofs.Total.{SectionOr, is_section, is_damaged, section-or}

-- ---- the grammar and the reader

-- every section of the grammar is accepted to its end, and read as the blocks that it was made of
pub allowed-reads : {bs : List Block} {b : List ℕ} → Section bs b → (es : List Entry) × (resources b ≡ ok es (length b)) × (map block_of es ≡ bs)
allowed-reads (section {bs} allowed short) = resources-read bs allowed short

-- every accepted section is one of the grammar, made of the blocks that were read, and is read to its end
pub accepted-allowed : {s : List ℕ} → Bytes s → {es : List Entry} {q : ℕ} → resources s ≡ ok es q → Section (map block_of es) s × (q ≡ length s)
accepted-allowed {s} bytes {es} {q} e = resources-write s bytes es q e

-- no section is made of two rows of blocks
pub allowed-unique : {bs cs : List Block} {b : List ℕ} → Section bs b → Section cs b → bs ≡ cs
allowed-unique f g =
    let x = allowed-reads f in
    let y = allowed-reads g in
    sym x.2 ∙ ap (map block_of) (ok-value (sym x.1 ∙ y.1)) ∙ y.2

-- ---- refusals

-- every byte string within the limit is a section of the grammar or a damaged one
pub allowed-or-damaged : (s : List ℕ) → Bytes s → length s ≤ 16777216 → ((bs : List Block) × Section bs s) ⊎ ((z p : ℕ) × Damaged s z p)
allowed-or-damaged s bytes short = elim (section-or s bytes short) [
  | is_section bs f ↦ inl (bs, f)
  | is_damaged z p d ↦ inr (z, p, d)
]

-- what is refused within the limit is damaged, and the refusal's number and place are those of the damage; no refusal names a record or a field
pub refused-damaged : {s : List ℕ} → Bytes s → length s ≤ 16777216 → {z p r f : ℕ} → resources s ≡ refuse z p r f → Damaged s z p × (r ≡ 0) × (f ≡ 0)
refused-damaged {s} bytes short {z} {p} {r} {f} e = go (section-or s bytes short)
  where
    go : SectionOr s → Damaged s z p × (r ≡ 0) × (f ≡ 0)
    go (is_section bs g) = clash (sym e ∙ (allowed-reads g).1)
    go (is_damaged y q d) =
        let same : refuse y q 0 0 ≡ refuse z p r f = sym (damaged-refused d bytes short) ∙ e in
        let a : y ≡ z = cc in
        let b : q ≡ p = cc in
        (subst₂ (λ (n m : ℕ). Damaged s n m) a b d, cc, cc)

-- one damage alone, and none of a section of the grammar
pub damaged-unique : {s : List ℕ} → Bytes s → length s ≤ 16777216 → {z p y q : ℕ} → Damaged s z p → Damaged s y q → (z ≡ y) × (p ≡ q)
damaged-unique bytes short {z} {p} {y} {q} d e = let same : refuse z p 0 0 ≡ refuse y q 0 0 = sym (damaged-refused d bytes short) ∙ damaged-refused e bytes short in (cc, cc)

pub allowed-undamaged : {bs : List Block} {s : List ℕ} → Section bs s → Bytes s → length s ≤ 16777216 → {z p : ℕ} → Damaged s z p → ⊥
allowed-undamaged f bytes short d = clash (sym (damaged-refused d bytes short) ∙ (allowed-reads f).1)

-- ---- what a writer may write

-- of blocks that fit their fields the reader refuses only what is longer than the limit: they have no fault of their own
pub written-number : (bs : List Block) → All (λ i b. Allowed b) 0 bs → number_of (resources (section_bytes bs)) ≡ pick (leb (length (section_bytes bs)) limit) 0 1
written-number bs fit = go (leb (length (section_bytes bs)) limit) refl
  where
    go : (b : Bool) → leb (length (section_bytes bs)) limit ≡ b → number_of (resources (section_bytes bs)) ≡ pick b 0 1
    go true e = ap number_of (allowed-reads (section fit (leb-true _ _ e))).1
    go false e = ap number_of (long-refused (section_bytes bs) (leb-false _ _ e))
