-- Sizes and faults of the records of a run, as the code goes over them. Assumes nothing.
use Prim.Native.Nat.{ℕ, ◌+◌, ◌-◌, ◌*◌, ◌/◌, ◌≤◌, ◌<◌}
use mathlib.Core.Path.{◌≡◌, refl, sym, ap, ap₂, ◌∙◌}
use mathlib.Core.List.{List, []}
use mathlib.Core.Bool.{Bool, true, false}
use lib.Dec.{leb, ltb}
use lib.ListN.{length, get_or, drop}
use lib.Seq.{get_or-drop, get_or-take}
use borrow.Author.Tests.{le-leb, lt-leb, lt-ltb, le-ltb, leb-true}
use native.Mathlib.Omega.{arith}
use native.Mathlib.Nat.{add-zero}
use Rattle.algebra.specs.Reader.{Res, ok, refuse, pick, body, done, number_of, limit}
use Rattle.algebra.specs.Table.{row_at}
use Rattle.algebra.specs.Faults.{first_of, faults}
use Rattle.algebra.specs.Writing.{bytes, refused}
use Rattle.algebra.proofs.Counted.{counted-turn, counted-end, counted_start}
use Rattle.algebra.proofs.Tells.{first-none, first_some}
use Rattle.algebra.proofs.Writing.{needs-no, needs-all, size-passes}
use Rattle.resource.specs.Rows.{width, taken}
use Rattle.resource.specs.declared.Record.{Record}
use Rattle.resource_write_judge.specs.Parts.{record_in}
use Rattle.resource_writing.specs.Writing.{size_within, sizes, part_fault, record_fault, fault, needed}
use Rattle.std.specs.Prelude.{Result}
use Rattle.std.specs.Result.{IsErrAnd}
use Rattle.std.proofs.lemmas.Result.{err_from_is_err_and}
use Rattle.fault.specs.Fault.{number_of as fault_number}
use Rattle.fault.specs.declared.Fault.{Fault}
use Rattle.fault.specs.declared.Fault.TheVariants as kind
use Rattle.resource_write_judge.specs.scaffold.Parts.{told_judged}
use Rattle.resource_write_judge.specs.scaffold.Writing.{givens}

-- the records of a run, one by one
abbrev pub record_at : List ℕ → ℕ → Record
record_at run k = taken (row_at width run k)

-- number j of row k
pub row_number : (run : List ℕ) (k j : ℕ) → j < width → get_or (row_at width run k) j 0 ≡ get_or run (width * k + j) 0
row_number run k j h = get_or-take width (drop (width * k) run) j 0 h ∙ get_or-drop (width * k) run j 0

-- ---- a fault that a `?` hands on

pub judged-exit : (r : Result Unit Fault) (f : Fault) {n : ℕ} → IsErrAnd r (λ y. y ≡ f) → fault_number f ≡ n → told_judged r ≡ n
judged-exit r f h rest = let p = err_from_is_err_and r h in rw (p.1, p.2) rest

pub some-number : (f : Fault) → fault_number f ≡ 0 → ⊥
some-number kind.TooLong e = omega arith
some-number kind.Short e = omega arith
some-number kind.WrongTag e = omega arith
some-number kind.Unknown e = omega arith
some-number kind.OutOfRange e = omega arith
some-number kind.LeftOver e = omega arith
some-number kind.ListsDiffer e = omega arith
some-number kind.BadlyClosed e = omega arith
some-number kind.Unbalanced e = omega arith
some-number kind.TooDeep e = omega arith
some-number kind.NoRoom e = omega arith
some-number kind.NoRecord e = omega arith
some-number kind.WrongLength e = omega arith
some-number kind.NoCounterpart e = omega arith

-- ---- sizes

pub sizes-turn : (run : List ℕ) (n i : ℕ) → i < n → sizes (givens run (n - i) i) ≡ size_within (record_at run i) + sizes (givens run (n - (i + 1)) (i + 1))
unfolding sizes
sizes-turn run n i h = ap sizes (counted-turn (record_at run) n i h)

pub sizes-end : (run : List ℕ) (n i : ℕ) → n ≤ i → sizes (givens run (n - i) i) ≡ 0
unfolding sizes
sizes-end run n i h = ap sizes (counted-end (record_at run) n i h)

pub sizes-start : (run : List ℕ) (n : ℕ) → sizes (givens run n 0) ≡ sizes (givens run (n - 0) 0)
sizes-start run n = ap sizes (counted_start (record_at run) n)

-- ---- faults

-- the number of a step that says only whether it is refused
pub part-number : (n : ℕ) (text : List ℕ) (first : ℕ) → number_of (done (body 1 n text first)) ≡ part_fault text first n
part-number n text first = go (body 1 n text first)
  where
    go : (m : Res (List ℕ)) → number_of (done m) ≡ number_of m
    go (ok l q) = refl
    go (refuse x p r f) = refl

module _ (text : List ℕ) (r : Record) where
  pub id-fault : 65535 < r.id → 5 ≡ record_fault text r
  unfolding record_fault
  id-fault h = sym (simp (le-ltb r.id 65536 (omega arith)))

  module _ (small : r.id ≤ 65535) where
    after-id : record_fault text r ≡ first_of (pick (ltb r.letters 256) 0 5) (first_of (part_fault text r.name r.letters) (part_fault text r.payload r.size))
    unfolding record_fault
    after-id = simp (lt-ltb r.id 65536 (omega arith))

    pub letters-fault : 255 < r.letters → 5 ≡ record_fault text r
    letters-fault h = sym (after-id ∙ simp (le-ltb r.letters 256 (omega arith)))

    module _ (few : r.letters ≤ 255) where
      after_letters : record_fault text r ≡ first_of (part_fault text r.name r.letters) (part_fault text r.payload r.size)
      after_letters = after-id ∙ simp (lt-ltb r.letters 256 (omega arith))

      pub name-fault : (x : ℕ) → x ≡ part_fault text r.name r.letters → (x ≡ 0 → ⊥) → x ≡ record_fault text r
      name-fault x e z = e ∙ sym (after_letters ∙ first_some _ _ (omega (arith, e, z)))

      pub payload-fault : (x y : ℕ) → x ≡ part_fault text r.name r.letters → x ≡ 0 → y ≡ part_fault text r.payload r.size → y ≡ record_fault text r
      payload-fault x y e z f = f ∙ sym (after_letters ∙ first-none _ _ (sym e ∙ z))

-- ---- the answer

module _ (text : List ℕ) (rs : List Record) where
  pub too_long : limit < sizes rs → refused 1 0 ≡ needed text rs
  unfolding fault
  too_long h = needs-no (fault text rs) (sizes rs) 1 (sym (simp (lt-leb (sizes rs) limit h))) (λ z. omega arith)

  -- what counting refuses is 1
  pub size-fault : {x : ℕ} → refused x 0 ≡ pick (leb (sizes rs) limit) (bytes (sizes rs)) (refused 1 0) → refused x 0 ≡ needed text rs
  size-fault {x} e = let h = size-passes (sizes rs) x e in e ∙ simp (lt-leb (sizes rs) limit h) (too_long h)

  module _ (short : sizes rs ≤ limit) where
    pub fault_is : fault text rs ≡ faults (record_fault text) rs
    unfolding fault
    fault_is = simp (le-leb (sizes rs) limit short)

    pub bad_record : (x : ℕ) → x ≡ faults (record_fault text) rs → (x ≡ 0 → ⊥) → refused x 0 ≡ needed text rs
    bad_record x e z = needs-no (fault text rs) (sizes rs) x (e ∙ sym fault_is) z

    pub all-fine : (x k : ℕ) → x ≡ faults (record_fault text) rs → x ≡ 0 → sizes rs ≡ k → bytes k ≡ needed text rs
    all-fine x k e z s = needs-all (fault text rs) (sizes rs) k (fault_is ∙ sym e ∙ z) s

-- what a fault of none tells
pub no-fault : (text : List ℕ) (rs : List Record) → fault text rs ≡ 0 → (sizes rs ≤ limit) × (faults (record_fault text) rs ≡ 0)
unfolding fault
no-fault text rs e = go (leb (sizes rs) limit) refl e
  where
    go : (b : Bool) → leb (sizes rs) limit ≡ b → pick b (faults (record_fault text) rs) 1 ≡ 0 → (sizes rs ≤ limit) × (faults (record_fault text) rs ≡ 0)
    go true h f = (leb-true _ _ h, f)
    go false h f = absurd (omega arith)

-- ---- a record of a row

abbrev of : ℕ → ℕ → ℕ → ℕ → ℕ → Record
of a b c d e = record { id = a; name = b; letters = c; payload = d; size = e }

pub row-taken : (run : List ℕ) (k a b c d e : ℕ) → a ≡ get_or run (width * k) 0 → b ≡ get_or run (width * k + 1) 0 → c ≡ get_or run (width * k + 2) 0 → d ≡ get_or run (width * k + 3) 0 → e ≡ get_or run (width * k + 4) 0
    → of a b c d e ≡ record_at run k
row-taken run k a b c d e p q r s t =
    let n : (j : ℕ) → j < width → get_or run (width * k + j) 0 ≡ get_or (row_at width run k) j 0 = λ j h. sym (row_number run k j h) in
    let z : get_or run (width * k) 0 ≡ get_or (row_at width run k) 0 0 = ap (λ (m : ℕ). get_or run m 0) (sym (add-zero (width * k))) ∙ n 0 (omega arith) in
    ap (λ (x : ℕ). of x b c d e) (p ∙ z)
    ∙ ap (λ (x : ℕ). of (get_or (row_at width run k) 0 0) x c d e) (q ∙ n 1 (omega arith))
    ∙ ap₂ (λ (x y : ℕ). of (get_or (row_at width run k) 0 0) (get_or (row_at width run k) 1 0) x y e) (r ∙ n 2 (omega arith)) (s ∙ n 3 (omega arith))
    ∙ ap (λ (x : ℕ). of (get_or (row_at width run k) 0 0) (get_or (row_at width run k) 1 0) (get_or (row_at width run k) 2 0) (get_or (row_at width run k) 3 0) x) (t ∙ n 4 (omega arith))

pub record-none : (run : List ℕ) (k : ℕ) → length run / width ≤ k → taken [] ≡ record_in run k
record-none run k h = sym (simp (le-ltb k (length run / width) h))

pub record-whole : (run : List ℕ) (k : ℕ) → k < length run / width → record_in run k ≡ record_at run k
record-whole run k h = simp (lt-ltb k (length run / width) h)
