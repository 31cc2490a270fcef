-- Records that fit their fields, and records without a fault. Assumes nothing.
use Prim.Native.Nat.{ℕ, ◌+◌, ◌≤◌, ◌<◌}
use mathlib.Core.Path.{◌≡◌, refl, sym, ap, ◌∙◌, subst}
use mathlib.Core.List.{List, [], ◌∷◌, map}
use mathlib.Core.Bool.{Bool}
use lib.ListN.{length, drop}
use lib.Seq.{get_or-drop}
use borrow.Author.Tests.{lt-ltb, ltb-true}
use native.Mathlib.Omega.{arith}
use native.Mathlib.Decide.{ℕ_discrete}
use Rattle.algebra.specs.Numbers.{Bytes, All}
use Rattle.algebra.specs.Reader.{pick, number_of, limit}
use Rattle.algebra.specs.Store.{part}
use Rattle.algebra.specs.Faults.{faults}
use Rattle.algebra.proofs.Cuts.{bytes_take}
use Rattle.algebra.proofs.Laws.{body-in}
use Rattle.algebra.proofs.Tells.{first-none, first-inv, pick-none}
use Rattle.resource.specs.Grammar.{Allowed}
use Rattle.resource.specs.declared.Record.{Record}
use Rattle.resource_writing.specs.Writing.{block_by_row, sizes, part_fault, record_fault}
use Rattle.resource_write.proofs.Puts.{length-lent, length-made, part-place}
use Rattle.resource_roundtrip.specs.Tie.{made, Fitting}

-- ---- parts

bytes-part : (text : List ℕ) (first n : ℕ) → Bytes text → Bytes (part text first n)
bytes-part text first n b = bytes_take n (drop first text) (λ k. subst (λ (x : ℕ). x < 256) (sym (get_or-drop first text k 0)) (b (first + k)))

part-fine : (text : List ℕ) (first n : ℕ) → (0 < n → first + n ≤ length text) → part_fault text first n ≡ 0
part-fine text first n h = ap number_of (body-in 1 text first n (elim (ℕ_discrete n 0) [
  | yes z ↦ omega arith
  | no z ↦ omega (arith, h (omega arith))
]))

-- ---- no fault, and fitting, are the same

pub fine-fits : (text : List ℕ) (r : Record) → record_fault text r ≡ 0 → Fitting text r
unfolding record_fault
fine-fits text r e =
    let a = first-inv _ _ e in
    let b = first-inv _ _ a.1 in
    let c = first-inv _ _ b.1 in record {
      id = ltb-true _ _ (pick-none _ 5 (omega arith) a.0);
      letters = ltb-true _ _ (pick-none _ 5 (omega arith) b.0);
      name = λ h. part-place text r.name r.letters c.0 (λ z. omega arith);
      payload = λ h. part-place text r.payload r.size c.1 (λ z. omega arith);
    }

pub fits-fine : (text : List ℕ) (r : Record) → Fitting text r → record_fault text r ≡ 0
unfolding record_fault
fits-fine text r f =
    first-none _ _ (ap (λ (b : Bool). pick b 0 5) (lt-ltb r.id 65536 f.id))
    ∙ first-none _ _ (ap (λ (b : Bool). pick b 0 5) (lt-ltb r.letters 256 f.letters))
    ∙ first-none _ _ (part-fine text r.name r.letters f.name) ∙ part-fine text r.payload r.size f.payload

pub faults-fit : (text : List ℕ) (i : ℕ) (rs : List Record) → faults (record_fault text) rs ≡ 0 → All (λ k r. Fitting text r) i rs
unfolding faults
faults-fit text i [] e = tt
faults-fit text i (r ∷ rs) e = let x = first-inv _ _ e in (fine-fits text r x.0, faults-fit text (i + 1) rs x.1)

pub fit-faults : (text : List ℕ) (i : ℕ) (rs : List Record) → All (λ k r. Fitting text r) i rs → faults (record_fault text) rs ≡ 0
unfolding faults
fit-faults text i [] h = refl
fit-faults text i (r ∷ rs) h = first-none _ _ (fits-fine text r h.0) ∙ fit-faults text (i + 1) rs h.1

-- ---- and then the blocks are allowed, in a section within the limit

size_in : (rs : List Record) (n : ℕ) → sizes rs ≤ n → (i : ℕ) → All (λ k r. r.size ≤ n) i rs
unfolding sizes
size_in [] n h i = tt
size_in (r ∷ rs) n h i = (omega arith, size_in rs n (omega arith) (i + 1))

block-allowed : (text : List ℕ) → Bytes text → (r : Record) → Fitting text r → r.size ≤ limit → Allowed (block_by_row text r)
block-allowed text b r f small =
    let n = length-lent text r.name r.letters (part-fine text r.name r.letters f.name) in
    let m = length-lent text r.payload r.size (part-fine text r.payload r.size f.payload) in
    record { id = f.id; letters = omega (arith, n, f.letters); name = bytes-part text r.name r.letters b; size = omega (arith, m); payload = bytes-part text r.payload r.size b }

pub blocks-allowed : (text : List ℕ) → Bytes text → (rs : List Record) (i j : ℕ) → All (λ k r. Fitting text r) i rs → All (λ k r. r.size ≤ limit) j rs → All (λ k b. Allowed b) i (map (block_by_row text) rs)
blocks-allowed text b [] i j f s = tt
blocks-allowed text b (r ∷ rs) i j f s = (block-allowed text b r f.0 s.0, blocks-allowed text b rs (i + 1) (j + 1) f.1 s.1)

pub all-allowed : (text : List ℕ) → Bytes text → (rs : List Record) → All (λ k r. Fitting text r) 0 rs → sizes rs ≤ limit → All (λ k b. Allowed b) 0 (map (block_by_row text) rs)
all-allowed text b rs f short = blocks-allowed text b rs 0 0 f (size_in rs limit short 0)

pub made-length : (text : List ℕ) (rs : List Record) → All (λ k r. Fitting text r) 0 rs → length (made text rs) ≡ sizes rs
made-length text rs f = length-made text rs (fit-faults text 0 rs f)
