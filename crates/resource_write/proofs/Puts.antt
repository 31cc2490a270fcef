-- Stores one after the other, on plain values. Assumes nothing.
use Prim.Native.Nat.{ℕ, ◌+◌, ◌-◌, ◌*◌, ◌%◌, ◌≤◌, ◌<◌}
use mathlib.Core.Path.{◌≡◌, refl, sym, ap, ap₂, ◌∙◌, subst}
use mathlib.Core.List.{List, [], ◌∷◌, ◌++◌, map, append_assoc, append-nil}
use mathlib.Core.Bool.{Bool, true, false}
use lib.Dec.{leb}
use lib.ListN.{length, take, drop, set, length-append}
use lib.Seq.{sets, sets-eq}
use borrow.Author.Tests.{leb-true}
use native.Mathlib.Omega.{arith}
use native.Mathlib.Nat.{zero-add}
use native.Mathlib.Decide.{ℕ_discrete}
use Rattle.algebra.specs.Chars.{chars}
use Rattle.algebra.specs.Numbers.{be, nums, joined}
use Rattle.algebra.specs.Reader.{ok, refuse, pick, body, number_of, limit}
use Rattle.algebra.specs.Store.{stored, part}
use Rattle.algebra.specs.Faults.{faults}
use Rattle.algebra.proofs.Places.{length-be, length_part, be-1}
use Rattle.algebra.proofs.Stores.{sets-append}
use Rattle.algebra.proofs.Storing.{as-sets, peel, peel-be, length-kept}
use Rattle.algebra.proofs.Tells.{first-inv, pick-none}
use Rattle.algebra.proofs.Counted.{counted_start, counted-turn, counted-end}
use borrow.Author.Tests.{ltb-true}
use Rattle.resource.specs.Grammar.{block_bytes, section_bytes}
use Rattle.resource.specs.declared.Record.{Record}
use Rattle.resource.proofs.Laws.{counted_bytes, block-parts, length-block}
use Rattle.resource_writing.specs.Writing.{block_by_row, size_within, sizes, part_fault, record_fault}
use Rattle.resource_write_judge.specs.scaffold.Writing.{givens}
use Rattle.resource_write_judge.specs.scaffold.Parts.{RecordFits, RecordsFit}
use Rattle.resource_write_judge.proofs.Judging.{record_at}

-- ---- a part of the lent bytes

pub part-place : (text : List ℕ) (first n : ℕ) → part_fault text first n ≡ 0 → (n ≡ 0 → ⊥) → first + n ≤ length text
unfolding body
part-place text first n e z = go (leb (n * 1) (length text - first)) refl e
  where
    go : (b : Bool) → leb (n * 1) (length text - first) ≡ b → number_of (pick b (ok (nums 1 n text first) (first + n * 1)) (refuse 2 first 0 0)) ≡ 0 → first + n ≤ length text
    go true h f = omega (arith, leb-true (n * 1) (length text - first) h)
    go false h f = absurd (omega arith)

pub part-lent : (text : List ℕ) (first n : ℕ) → take (first + n - first) (drop first text) ≡ part text first n
part-lent text first n = let e : first + n - first ≡ n = omega arith in ap (λ (k : ℕ). take k (drop first text)) e

pub part_none : (text : List ℕ) (first n : ℕ) → n ≡ 0 → [] ≡ part text first n
part_none text first n e = sym (ap (λ (k : ℕ). take k (drop first text)) e)

pub length-lent : (text : List ℕ) (first n : ℕ) → part_fault text first n ≡ 0 → length (part text first n) ≡ n
length-lent text first n e = elim (ℕ_discrete n 0) [
  | yes z ↦ sym (ap length (part_none text first n z)) ∙ sym z
  | no z ↦ length_part text first n (part-place text first n e z)
]

-- ---- bytes and their pad

module _ (out run : List ℕ) (at k : ℕ) (room : at + (length run + (k + length run) % 2) ≤ length out) (o : List ℕ) (e : o ≡ stored out at run) where
  stored-run : o ≡ sets out at run
  stored-run = as-sets o out at run (length run) e refl (omega arith)

  pub pad-none : (k + length run) % 2 ≡ 0 → o ≡ sets out at (run ++ be ((k + length run) % 2) 0)
  unfolding be
  pad-none z = stored-run ∙ ap (λ (l : List ℕ). sets out at l) (sym (append-nil run) ∙ ap (λ (n : ℕ). run ++ be n 0) (sym z))

  pub pad-one : ((k + length run) % 2 ≡ 0 → ⊥) → set o (at + length run) 0 ≡ sets out at (run ++ be ((k + length run) % 2) 0)
  unfolding be
  pad-one z =
      let odd : 1 ≡ (k + length run) % 2 = omega arith in
      ap (λ (l : List ℕ). set l (at + length run) 0) stored-run ∙ sym (sets-append run (0 ∷ []) out at) ∙ ap (λ (n : ℕ). sets out at (run ++ be n 0)) odd

-- ---- a block

pub head-put : (out o₁ o₂ : List ℕ) (at id n : ℕ) → at + 7 ≤ length out → n < 256 → o₁ ≡ stored out at (be 4 (chars "8BIM")) → o₂ ≡ stored o₁ (at + 4) (be 2 id)
    → set o₂ (at + 6) n ≡ sets out at (be 4 (chars "8BIM") ++ (be 2 id ++ be 1 n))
head-put out o₁ o₂ at id n h few e₁ e₂ =
    let l₁ = length-kept o₁ out at (be 4 (chars "8BIM")) e₁ in
    let six : at + 4 + 2 ≡ at + 6 = omega arith in
    sym (peel-be 4 (chars "8BIM") out o₁ (be 2 id ++ be 1 n) at (at + 4) refl (omega arith) e₁ ∙ peel-be 2 id o₁ o₂ (be 1 n) (at + 4) (at + 6) six (omega arith) e₂ ∙ ap (λ (l : List ℕ). sets o₂ (at + 6) l) (be-1 n few))

module _ (text : List ℕ) (r : Record) (sound : record_fault text r ≡ 0) where
  record Sound : Type 0 where
    id : r.id < 65536
    few : r.letters < 256
    name : part_fault text r.name r.letters ≡ 0
    payload : part_fault text r.payload r.size ≡ 0

  sound-parts : Sound
  unfolding record_fault
  sound-parts =
      let a = first-inv _ _ sound in
      let b = first-inv _ _ a.1 in
      let c = first-inv _ _ b.1 in
      record { id = ltb-true _ _ (pick-none _ 5 (omega arith) a.0); few = ltb-true _ _ (pick-none _ 5 (omega arith) b.0); name = c.0; payload = c.1 }

  pub sound-id : (r.id < 65536) × (r.letters < 256)
  sound-id = (sound-parts.id, sound-parts.few)

  pub sound-name : part_fault text r.name r.letters ≡ 0
  sound-name = sound-parts.name

  pub sound-payload : part_fault text r.payload r.size ≡ 0
  sound-payload = sound-parts.payload

  name-length : length (part text r.name r.letters) ≡ r.letters
  name-length = length-lent text r.name r.letters sound-name

  payload-length : length (part text r.payload r.size) ≡ r.size
  payload-length = length-lent text r.payload r.size sound-payload

  pub block-length : length (block_bytes (block_by_row text r)) ≡ size_within r
  block-length =
      let n : (1 + length (part text r.name r.letters)) % 2 ≡ (1 + r.letters) % 2 = ap (λ (k : ℕ). (1 + k) % 2) name-length in
      let m : length (part text r.payload r.size) % 2 ≡ r.size % 2 = ap (λ (k : ℕ). k % 2) payload-length in
      length-block (block_by_row text r) ∙ omega (arith, name-length, payload-length, n, m)

  -- the two parts, as they are lent
  module _ (us ds : List ℕ) (eu : us ≡ part text r.name r.letters) (ed : ds ≡ part text r.payload r.size) where
    pub lent-lengths : (length us ≡ r.letters) × (length ds ≡ r.size)
    lent-lengths = (ap length eu ∙ name-length, ap length ed ∙ payload-length)

    pub name-fits : (at room : ℕ) → at + size_within r ≤ room → at + 7 + (length us + (1 + length us) % 2) ≤ room
    name-fits at room h = let z : (1 + length us) % 2 ≡ (1 + r.letters) % 2 = ap (λ (k : ℕ). (1 + k) % 2) lent-lengths.0 in omega (arith, lent-lengths.0)

    pub block-ends : (at p q : ℕ) → p ≡ at + 7 + (length us + (1 + length us) % 2) → q ≡ p + 4 + (length ds + (0 + length ds) % 2) → q ≡ at + size_within r
    block-ends at p q e f =
        let z : (1 + length us) % 2 ≡ (1 + r.letters) % 2 = ap (λ (k : ℕ). (1 + k) % 2) lent-lengths.0 in
        let w : (0 + length ds) % 2 ≡ r.size % 2 = ap (λ (k : ℕ). k % 2) (zero-add (length ds) ∙ lent-lengths.1) in
        omega (arith, lent-lengths.0, lent-lengths.1)

    pub payload-fits : (at p room : ℕ) → at + size_within r ≤ room → p ≡ at + 7 + (length us + (1 + length us) % 2) → p + 4 + (length ds + (0 + length ds) % 2) ≤ room
    payload-fits at p room h e = omega (arith, block-ends at p (p + 4 + (length ds + (0 + length ds) % 2)) e refl)

    pub block-put : (out o₁ o₂ o₃ o₄ : List ℕ) (at p : ℕ) → at + size_within r ≤ length out → p ≡ at + 7 + (length us + (1 + length us) % 2) → length o₂ ≡ length out
        → o₁ ≡ sets out at (be 4 (chars "8BIM") ++ (be 2 r.id ++ be 1 r.letters))
        → o₂ ≡ sets o₁ (at + 7) (us ++ be ((1 + length us) % 2) 0)
        → o₃ ≡ stored o₂ p (be 4 r.size)
        → o₄ ≡ sets o₃ (p + 4) (ds ++ be ((0 + length ds) % 2) 0)
        → o₄ ≡ sets out at (block_bytes (block_by_row text r))
    block-put out o₁ o₂ o₃ o₄ at p h e kept e₁ e₂ e₃ e₄ =
        let nm : List ℕ = be 4 (chars "8BIM") ++ (be 2 r.id ++ be 1 r.letters) in
        let x : List ℕ = us ++ be ((1 + length us) % 2) 0 in
        let y : List ℕ = ds ++ be ((0 + length ds) % 2) 0 in
        let ln : length nm ≡ 7 = omega (arith, length-append (be 4 (chars "8BIM")) (be 2 r.id ++ be 1 r.letters), length-append (be 2 r.id) (be 1 r.letters), length-be 4 (chars "8BIM"), length-be 2 r.id, length-be 1 r.letters) in
        let lx : length x ≡ length us + (1 + length us) % 2 = length-append us (be ((1 + length us) % 2) 0) ∙ ap (λ (k : ℕ). length us + k) (length-be ((1 + length us) % 2) 0) in
        let fits = payload-fits at p (length out) h e in
        let pl : at + 7 + (length us + (1 + length us) % 2) ≡ p = sym e in
        let parts : block_bytes (block_by_row text r) ≡ nm ++ (x ++ (be 4 r.size ++ y)) = block-parts (block_by_row text r) ∙ shape in
        e₄ ∙ sym (ap (λ (l : List ℕ). sets out at l) parts ∙ peel out o₁ nm (x ++ (be 4 r.size ++ y)) at 7 (at + 7) ln refl e₁ ∙ peel o₁ o₂ x (be 4 r.size ++ y) (at + 7) (length us + (1 + length us) % 2) p lx pl e₂ ∙ peel-be 4 r.size o₂ o₃ y p (p + 4) refl (omega (arith, fits, kept)) e₃)
      where
        shape : be 4 (chars "8BIM") ++ (be 2 r.id ++ (counted_bytes 1 1 (part text r.name r.letters) ++ counted_bytes 4 0 (part text r.payload r.size)))
            ≡ (be 4 (chars "8BIM") ++ (be 2 r.id ++ be 1 r.letters)) ++ ((us ++ be ((1 + length us) % 2) 0) ++ (be 4 r.size ++ (ds ++ be ((0 + length ds) % 2) 0)))
        shape =
            ap₂ (λ (a b : List ℕ). be 4 (chars "8BIM") ++ (be 2 r.id ++ (a ++ b))) (ap (counted_bytes 1 1) (sym eu) ∙ ap (λ (k : ℕ). be 1 k ++ (us ++ be ((1 + length us) % 2) 0)) lent-lengths.0) (ap (counted_bytes 4 0) (sym ed) ∙ ap (λ (k : ℕ). be 4 k ++ (ds ++ be ((0 + length ds) % 2) 0)) lent-lengths.1)
            ∙ simp append_assoc

-- ---- a loop over the records

-- `all` is what the bytes will be, where the records from i are still to be stored from p
pub record Putting (text run : List ℕ) (n i p room : ℕ) (all out : List ℕ) : Type 0 where
  pub kept : length out ≡ room
  pub is : all ≡ sets out p (section_bytes (map (block_by_row text) (givens run (n - i) i)))
  pub inside : p + sizes (givens run (n - i) i) ≤ room
  pub short : sizes (givens run (n - i) i) ≤ limit
  pub sound : faults (record_fault text) (givens run (n - i) i) ≡ 0

pub put-start : (text run : List ℕ) (n : ℕ) (out : List ℕ) → RecordsFit text (givens run n 0) 0 (length out) → Putting text run n 0 0 (length out) (sets out 0 (section_bytes (map (block_by_row text) (givens run n 0)))) out
put-start text run n out f =
    let e = counted_start (record_at run) n in record {
      kept = refl;
      is = ap (λ (l : List Record). sets out 0 (section_bytes (map (block_by_row text) l))) e;
      inside = subst (λ (l : List Record). 0 + sizes l ≤ length out) e f.inside;
      short = subst (λ (l : List Record). sizes l ≤ limit) e f.short;
      sound = subst (λ (l : List Record). faults (record_fault text) l ≡ 0) e f.sound;
    }

module _ (text run : List ℕ) (n i p room : ℕ) (all out : List ℕ) (f : Putting text run n i p room all out) where
  pub put-end : n ≤ i → out ≡ all
  unfolding joined
  put-end h = sym (f.is ∙ ap (λ (l : List Record). sets out p (section_bytes (map (block_by_row text) l))) (counted-end (record_at run) n i h))

  module _ (h : i < n) where
    next : givens run (n - i) i ≡ record_at run i ∷ givens run (n - (i + 1)) (i + 1)
    next = counted-turn (record_at run) n i h

    sizes-next : sizes (givens run (n - i) i) ≡ size_within (record_at run i) + sizes (givens run (n - (i + 1)) (i + 1))
    unfolding sizes
    sizes-next = ap sizes next

    faults-next : (record_fault text (record_at run i) ≡ 0) × (faults (record_fault text) (givens run (n - (i + 1)) (i + 1)) ≡ 0)
    unfolding faults
    faults-next = first-inv _ _ (sym (ap (faults (record_fault text)) next) ∙ f.sound)

    pub put-fits : (r : Record) → r ≡ record_at run i → RecordFits text r p (length out)
    put-fits r e = subst (λ (x : Record). RecordFits text x p (length out)) (sym e) (record { inside = omega (arith, f.inside, f.kept, sizes-next); short = omega (arith, f.short, sizes-next); sound = faults-next.0 })

    pub put_next : (r : Record) → r ≡ record_at run i → (o : List ℕ) (q : ℕ) → length o ≡ length out → o ≡ sets out p (block_bytes (block_by_row text r)) → q ≡ p + size_within r → Putting text run n (i + 1) q room all o
    unfolding joined
    put_next r e o q k w z =
        let x : Record = record_at run i in
        let b : List ℕ = block_bytes (block_by_row text x) in
        let m : List ℕ = section_bytes (map (block_by_row text) (givens run (n - (i + 1)) (i + 1))) in
        let zq : q ≡ p + size_within x = z ∙ ap (λ (y : Record). p + size_within y) e in
        let l : length b ≡ size_within x = block-length text x faults-next.0 in record {
          kept = k ∙ f.kept;
          is = f.is ∙ ap (λ (l : List Record). sets out p (section_bytes (map (block_by_row text) l))) next ∙ peel out o b m p (size_within x) q l (sym zq) (w ∙ ap (λ (y : Record). sets out p (block_bytes (block_by_row text y))) e);
          inside = omega (arith, f.inside, sizes-next);
          short = omega (arith, f.short, sizes-next);
          sound = faults-next.1;
        }

-- ---- a section stored in front of what was there

pub length-made : (text : List ℕ) (rs : List Record) → faults (record_fault text) rs ≡ 0 → length (section_bytes (map (block_by_row text) rs)) ≡ sizes rs
unfolding joined sizes faults
length-made text [] e = refl
length-made text (r ∷ rs) e =
    let x = first-inv _ _ e in
    length-append (block_bytes (block_by_row text r)) (section_bytes (map (block_by_row text) rs)) ∙ ap₂ (λ (a b : ℕ). a + b) (block-length text r x.0) (length-made text rs x.1)

pub made-front : (text : List ℕ) (rs : List Record) → faults (record_fault text) rs ≡ 0 → (out o : List ℕ) → sizes rs ≤ length out → o ≡ sets out 0 (section_bytes (map (block_by_row text) rs))
    → o ≡ section_bytes (map (block_by_row text) rs) ++ drop (sizes rs) out
made-front text rs f out o h e =
    let l : List ℕ = section_bytes (map (block_by_row text) rs) in
    let m : length l ≡ sizes rs = length-made text rs f in
    let z : 0 + length l ≡ sizes rs = omega arith in
    e ∙ sets-eq l out 0 (omega arith) ∙ ap (λ (k : ℕ). l ++ drop k out) z
