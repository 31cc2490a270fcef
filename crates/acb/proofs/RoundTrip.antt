-- What is promised of ACB files: reading and the grammar agree, and what a writer may write. Assumes nothing.
use Prim.Native.Nat.{ℕ, ◌+◌, ◌*◌, ◌≤◌, ◌<◌}
use mathlib.Core.Path.{◌≡◌, refl, sym, ap, ◌∙◌, subst, subst₂}
use mathlib.Core.List.{List, [], ◌∷◌, ◌++◌, append_assoc, append-nil}
use mathlib.Core.Logic.{◌⊎◌, inl, inr}
use mathlib.Core.Bool.{Bool, true, false, true≢false}
use lib.Dec.{leb, ltb}
use lib.ListN.{length, length-append}
use borrow.Author.Tests.{leb-true, le-leb, ltb-true, ltb-false}
use native.Mathlib.Omega.{arith}
use Rattle.algebra.specs.Numbers.{be, joined, Bytes, All}
use Rattle.algebra.specs.Reader.{ok, refuse, pick, number_of, limit}
use Rattle.algebra.specs.Faults.{first_of}
use Rattle.algebra.proofs.Places.{length-be, length-bes}
use Rattle.algebra.proofs.Inverse.{clash, refuse-same, ok-value}
use Rattle.acb.specs.Grammar.{Colour, none, Ending, tagged, other, Unknown, Book, Space, AllowedRecord, bytes_of_string, colour_bytes, ending_bytes, head_bytes, file_bytes, File, file}
use Rattle.acb.specs.Reading.{is_space, Contents, book, acb, book_of}
use Rattle.acb.specs.Faults.{ending_fault, head_fault, EndingFits, book_fault, BookFits}
use Rattle.acb.specs.Damaged.{DamagedNumbers, size-zero, wrong_space, wrong_tag, opened, ending, Damaged, wrong_numbers, wrong_end, untagged}
use Rattle.acb.proofs.Laws.{space-is, space-components, components-some}
use Rattle.acb.proofs.Whole.{bytes-file, file-reads, file-writes}
use Rattle.acb.proofs.Refused.{damaged-refused}
use Rattle.acb.proofs.Total.{FileOr, is_file, is_damaged, file-or}
use Rattle.acb.proofs.Faultless.{tested-allowed, faultless-allowed, allowed-faultless}

-- ---- the grammar and the reader

-- every file of the grammar is accepted to its end, and read as the book that it was made of
pub allowed-reads : {b : Book} {s : List ℕ} → File b s → (c : Contents) × (acb s ≡ ok c (length s)) × (book_of c ≡ b)
allowed-reads (file {b} allowed short) = file-reads b allowed short

-- every accepted file is a file of the grammar, made of the book that was read, and is read to its end
pub accepted-allowed : {s : List ℕ} → Bytes s → {c : Contents} {q : ℕ} → acb s ≡ ok c q → File (book_of c) s × (q ≡ length s)
accepted-allowed {s} bytes {c} {q} e = file-writes s bytes c q e

-- no file is made of two books
pub allowed-unique : {b d : Book} {s : List ℕ} → File b s → File d s → b ≡ d
allowed-unique f g =
    let x = allowed-reads f in
    let y = allowed-reads g in
    sym x.2 ∙ ap book_of (ok-value (sym x.1 ∙ y.1)) ∙ y.2

-- ---- refusals

-- every file within the limit is one of the grammar or a damaged one
pub allowed-or-damaged : (s : List ℕ) → Bytes s → length s ≤ 16777216 → ((b : Book) × File b s) ⊎ ((z p : ℕ) × Damaged s z p)
allowed-or-damaged s bytes short = elim (file-or s bytes short) [
  | is_file b g ↦ inl (b, g)
  | is_damaged z p d ↦ inr (z, p, d)
]

-- what is refused within the limit is damaged, and the refusal's number and place are those of the damage
pub refused-damaged : {s : List ℕ} → Bytes s → length s ≤ 16777216 → {z p r f : ℕ} → acb s ≡ refuse z p r f → Damaged s z p × (r ≡ 0) × (f ≡ 0)
refused-damaged {s} bytes short {z} {p} {r} {f} e = go (file-or s bytes short)
  where
    go : FileOr s → Damaged s z p × (r ≡ 0) × (f ≡ 0)
    go (is_file b g) = clash (sym e ∙ (allowed-reads g).1)
    go (is_damaged y q d) =
        let x = refuse-same (damaged-refused d bytes short) e in
        (subst₂ (λ (n m : ℕ). Damaged s n m) x.0 x.1 d, sym x.2, sym x.3)

-- no file is damaged in two ways: it has one number and one place
pub damaged-unique : {s : List ℕ} → Bytes s → length s ≤ 16777216 → {z p y q : ℕ} → Damaged s z p → Damaged s y q → (z ≡ y) × (p ≡ q)
damaged-unique bytes short d e = let x = refuse-same (damaged-refused d bytes short) (damaged-refused e bytes short) in (x.0, x.1)

-- no file of the grammar is damaged
pub allowed-undamaged : {b : Book} {s : List ℕ} → File b s → {z p : ℕ} → Damaged s z p → ⊥
allowed-undamaged (file {b} a short) d = clash (sym (damaged-refused d (bytes-file b) short) ∙ (file-reads b a short).1)

-- ---- how many records a file can hold

colour-least : (n : ℕ) → 3 ≤ n → (c : Colour) → AllowedRecord n c → 13 ≤ length (colour_bytes c)
unfolding colour_bytes bytes_of_string
colour-least n some c fit =
    let a : List ℕ = be 4 (length c.name) in
    let us : List ℕ = joined (be 2) c.name in
    let cs : List ℕ = joined (be 1) c.code in
    let ks : List ℕ = joined (be 1) c.components in
    omega (arith, length-append (a ++ us) (cs ++ ks), length-append a us, length-append cs ks, length-be 4 (length c.name), length-bes 1 c.code, length-bes 1 c.components, fit.code.count, fit.components.count)

colours-least : (n : ℕ) → 3 ≤ n → (i : ℕ) (cs : List Colour) → All (λ k c. AllowedRecord n c) i cs → 13 * length cs ≤ length (joined colour_bytes cs)
unfolding joined
colours-least n some i [] h = omega arith
colours-least n some i (c ∷ cs) h = omega (arith, length-append (colour_bytes c) (joined colour_bytes cs), colour-least n some c h.0, colours-least n some (i + 1) cs h.1)

-- a record has at least 13 bytes
pub thirteen-each : {b : Book} {s : List ℕ} → File b s → 13 * length b.colours ≤ length s
unfolding file_bytes
thirteen-each (file {b} a short) =
    let l : List ℕ = joined colour_bytes b.colours in
    omega (arith, length-append (head_bytes b) (l ++ ending_bytes b.tag), length-append l (ending_bytes b.tag), colours-least a.components (omega (arith, (components-some b.space).0, space-components a.space)) 0 b.colours a.colours)

-- ---- what a writer may write

whole : (s : List ℕ) → length s ≤ limit → book s 0 ≡ acb s
unfolding acb
whole s short = sym (rw (le-leb (length s) limit short))

-- a book by its fields, and without its tag
file-opened : (b : Book) → file_bytes b ≡ opened b.identifier b.texts (be 2 (length b.colours) ++ (be 2 b.size ++ (be 2 b.offset ++ (be 2 b.space ++ (joined colour_bytes b.colours ++ ending_bytes b.tag)))))
unfolding file_bytes head_bytes opened
file-opened b = simp append_assoc

file-ending : (b : Book) (v : ℕ) → b.tag ≡ other v → file_bytes b ≡ ending (untagged b) (be 8 v ++ [])
unfolding file_bytes head_bytes ending
file-ending b v e = ap (λ (g : Ending). head_bytes b ++ (joined colour_bytes b.colours ++ ending_bytes g)) e ∙ ap (λ (l : List ℕ). head_bytes b ++ (joined colour_bytes b.colours ++ l)) (sym (append-nil (be 8 v)))

unknown-space : (x : ℕ) → is_space x ≡ false → (n : ℕ) → Space x n → ⊥
unknown-space x e n h = true≢false (sym (space-is h) ∙ e)

module _ (b : Book) (f : BookFits b) (short : length (file_bytes b) ≤ limit) where
  abbrev s : List ℕ
  s = file_bytes b

  abbrev rest : List ℕ
  rest = joined colour_bytes b.colours ++ ending_bytes b.tag

  damaged-number : {x : List ℕ} {z p : ℕ} → s ≡ x → Damaged x z p → number_of (acb s) ≡ z
  damaged-number {x} {z} {p} e d = ap number_of (damaged-refused (subst (λ (y : List ℕ). Damaged y z p) (sym e) d) (bytes-file b) short)

  -- the first fault of each kind
  numbers-number : {z p : ℕ} → DamagedNumbers (be 2 (length b.colours) ++ (be 2 b.size ++ (be 2 b.offset ++ (be 2 b.space ++ rest)))) z p → number_of (acb s) ≡ z
  numbers-number {z} {p} d = damaged-number (file-opened b) (wrong_numbers b.identifier b.texts _ z p f.identifier f.four f.texts d)

  size_number : b.size ≡ 0 → number_of (acb s) ≡ 5
  size_number e =
      let n : ℕ = length b.colours in
      let l : List ℕ = be 2 b.offset ++ (be 2 b.space ++ rest) in
      numbers-number (subst (λ (k : ℕ). DamagedNumbers (be 2 n ++ (be 2 k ++ l)) 5 2) (sym e) (size-zero n l f.count))

  space-number : 0 < b.size → is_space b.space ≡ false → number_of (acb s) ≡ 4
  space-number some unknown = numbers-number (wrong_space (length b.colours) b.size b.offset b.space rest (record { count = f.count; some = some; size = f.size }) f.offset f.space (unknown-space b.space unknown))

  other-number : (v : ℕ) → b.tag ≡ other v → Unknown v → ltb 0 b.size ≡ true → is_space b.space ≡ true → number_of (acb s) ≡ 3
  other-number v e u z x =
      let g : BookFits (untagged b) = record { identifier = f.identifier; four = f.four; texts = f.texts; count = f.count; size = f.size; offset = f.offset; space = f.space; colours = f.colours; tag = tt } in
      damaged-number (file-ending b v e) (wrong_end (untagged b) (be 8 v ++ []) 3 0 (tested-allowed (untagged b) g z x none refl) (wrong_tag v [] u))

  -- size, space and tag in this order
  number_is : (t u : Bool) (e : Ending) → ltb 0 b.size ≡ t → is_space b.space ≡ u → b.tag ≡ e → EndingFits e → number_of (acb s) ≡ first_of (first_of (pick t 0 5) (pick u 0 4)) (ending_fault e)
  number_is true true (tagged t) z x e g = ap number_of (file-reads b (tested-allowed b f z x t e) short).1
  number_is true true (other v) z x e g = other-number v e g z x
  number_is true false e z x i g = space-number (ltb-true 0 b.size z) x
  number_is false u e z x i g = let n = ltb-false 0 b.size z in size_number (omega arith)

-- of a book that fits its fields, the reader refuses what was written by the number of its first fault, and accepts it where it has none
pub written-number : (b : Book) → BookFits b → number_of (acb (file_bytes b)) ≡ pick (leb (length (file_bytes b)) limit) (book_fault b) 1
unfolding acb book_fault head_fault
written-number b fits = go (leb (length (file_bytes b)) limit) refl
  where
    s : List ℕ
    s = file_bytes b

    go : (t : Bool) → leb (length s) limit ≡ t → number_of (pick t (book s 0) (refuse 1 0 0 0)) ≡ pick t (book_fault b) 1
    go true e = let short : length s ≤ limit = leb-true (length s) limit e in ap number_of (whole s short) ∙ number_is b fits short (ltb 0 b.size) (is_space b.space) b.tag refl refl refl fits.tag ∙ sym (rw (le-leb (length b.colours) 65535 (omega (arith, fits.count))))
    go false e = refl

-- a book that fits its fields and has no fault is written as a file of the grammar, so that it reads back
pub written-allowed : (b : Book) → BookFits b → book_fault b ≡ 0 → length (file_bytes b) ≤ limit → File b (file_bytes b)
written-allowed b fits sound short = file (faultless-allowed b fits sound) short

-- no book of the grammar has a fault: what is refused is not allowed
pub allowed-written : {b : Book} {s : List ℕ} → File b s → (book_fault b ≡ 0) × (s ≡ file_bytes b)
allowed-written (file {b} allowed short) = (allowed-faultless b allowed, refl)
