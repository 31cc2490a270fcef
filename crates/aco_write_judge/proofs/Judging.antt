-- Which fault is found first, and how long the file is, on plain values. Assumes nothing.
use Rattle.algebra.proofs.Counted.{counted-end, counted_start, counted-turn, length-counted, faults-clear, faults-found}
use Rattle.algebra.specs.Numbers.{counted}
use Prim.Native.Nat.{ℕ, zero, suc, ◌+◌, ◌*◌, ◌-◌, ◌≤◌, ◌<◌}
use mathlib.Core.Path.{◌≡◌, refl, sym, ap, ◌∙◌, subst}
use mathlib.Core.List.{List, [], ◌∷◌}
use mathlib.Core.Bool.{Bool, true, false}
use lib.ListN.{length, get_or}
use borrow.Author.Tests.{eq-eqb, ne_eqb}
use native.Mathlib.Omega.{arith}
use native.Mathlib.Nat.{lt_of_not-le}
use native.Mathlib.Decide.{ℕ_discrete, dec_le}
use Rattle.algebra.specs.Reader.{Res, pick, done, number_of}
use Rattle.algebra.specs.Text.{text}
use Rattle.algebra.specs.Faults.{first_of, faults, faults_from}
use Rattle.algebra.proofs.Tells.{first-zero, first-inv}
use Rattle.algebra.proofs.Laws.{body-short}
use Rattle.algebra.proofs.Texts.{text-number}
use Rattle.colour.specs.Spaces.{uses, known, allowed, sound}
use Rattle.colour.proofs.Laws.{allowed-small, sound-inv}
use Rattle.algebra.specs.Table.{row_at, rows}
use Rattle.aco.specs.Faults.{space_fault, sample_fault, fields_fault}
use Rattle.aco.specs.Row.{RecordRow, width, taken}
use Rattle.aco_writing.specs.Writing.{sizes, found_in}
use Rattle.std.specs.Prelude.{Result}
use Rattle.std.specs.Result.{IsErrAnd}
use Rattle.std.proofs.lemmas.Result.{err_from_is_err_and}
use Rattle.fault.specs.Fault as table
use Rattle.fault.specs.declared.Fault.{Fault}
use Rattle.fault.specs.declared.Fault.TheVariants as fault
use Rattle.aco.proofs.Row.{four}
use Rattle.aco_write_judge.specs.scaffold.Parts.{told_fault, name_fault, start, EntryFits, EntriesFit}
use Rattle.algebra.proofs.Firsts.{hit, name-number}

-- ---- faults that a `?` hands on

pub some-fault : (x : Fault) → table.number_of x ≡ 0 → ⊥
some-fault fault.TooLong e = omega arith
some-fault fault.Short e = omega arith
some-fault fault.WrongTag e = omega arith
some-fault fault.Unknown e = omega arith
some-fault fault.OutOfRange e = omega arith
some-fault fault.LeftOver e = omega arith
some-fault fault.ListsDiffer e = omega arith
some-fault fault.BadlyClosed e = omega arith
some-fault fault.Unbalanced e = omega arith
some-fault fault.TooDeep e = omega arith
some-fault fault.NoRoom e = omega arith
some-fault fault.NoRecord e = omega arith
some-fault fault.WrongLength e = omega arith
some-fault fault.NoCounterpart e = omega arith

module _ (r : Result Unit Fault) (x : Fault) (h : IsErrAnd r (λ y. y ≡ x)) where
  fault-exit : {m : ℕ} → table.number_of x ≡ m → told_fault r ≡ m
  fault-exit e = let p = err_from_is_err_and r h in rw (p.1, p.2) e

  -- the first of two
  pub first-exit : (a b : ℕ) → table.number_of x ≡ a → told_fault r ≡ first_of a b
  first-exit a b e = fault-exit (hit (table.number_of x) a b e (some-fault x))

  -- the first of a loop's, where all of them are those that are left
  pub turn-exit : {A : Type 0} (f : A → ℕ) (item : ℕ → A) (all n i : ℕ) → all ≡ faults f (counted item (n - i) i) → i < n → table.number_of x ≡ f (item i) → told_fault r ≡ all
  turn-exit f item all n i inv t e = fault-exit (faults-found f item all n i inv t (table.number_of x) e (some-fault x))

-- ---- a colour

pub space-is : (x : ℕ) (b : Bool) → b ≡ known x → space_fault x ≡ pick b 0 4
space-is x b e = ap (λ (t : Bool). pick t 0 4) (sym e)

-- no large number is a space
pub space-large : (x : ℕ) → 65535 < x → space_fault x ≡ 4
unfolding known uses
space-large x h = simp (ne_eqb x 0 (omega arith), ne_eqb x 1 (omega arith), ne_eqb x 2 (omega arith), ne_eqb x 7 (omega arith), ne_eqb x 8 (omega arith))

pub space_small : (x z : ℕ) → z ≡ space_fault x → z ≡ 0 → x ≤ 65535
space_small x z e h = elim (dec_le x 65535) [
  | yes k ↦ k
  | no k ↦ absurd (omega (arith, space-large x (lt_of_not-le k)))
]

pub sample-is : (x k v : ℕ) (b : Bool) → b ≡ allowed x k v → sample_fault x k v ≡ pick b 0 5
sample-is x k v b e = ap (λ (t : Bool). pick t 0 5) (sym e)

-- no large number is a sample
pub sample-large : (x k v : ℕ) → 65535 < v → sample_fault x k v ≡ 5
sample-large x k v h = go (allowed x k v) refl
  where
    go : (b : Bool) → allowed x k v ≡ b → ◌≡◌ {A = ℕ} (pick b 0 5) 5
    go true e = absurd (omega (arith, allowed-small x k v e))
    go false e = refl

-- the four samples of a colour
module _ (x : ℕ) (vs : List ℕ) (l : length vs ≡ 4) where
  -- a sound colour
  pub colour-none : sound x (get_or vs 0 0 ∷ get_or vs 1 0 ∷ get_or vs 2 0 ∷ get_or vs 3 0 ∷ []) ≡ true → fields_fault x vs ≡ 0
  unfolding fields_fault faults_from
  colour-none e =
      let g = sound-inv x (get_or vs 0 0) (get_or vs 1 0) (get_or vs 2 0) (get_or vs 3 0) e in
      let none : fields_fault x (get_or vs 0 0 ∷ get_or vs 1 0 ∷ get_or vs 2 0 ∷ get_or vs 3 0 ∷ []) ≡ 0 = rw (g.is_known, g.first, g.second, g.third, g.fourth) in
      ap (fields_fault x) (four vs l) ∙ none

  -- a colour's faults in order
  pub colour-faults : first_of (space_fault x) (first_of (sample_fault x 0 (get_or vs 0 0)) (first_of (sample_fault x 1 (get_or vs 1 0)) (first_of (sample_fault x 2 (get_or vs 2 0)) (sample_fault x 3 (get_or vs 3 0))))) ≡ fields_fault x vs
  unfolding fields_fault faults_from
  colour-faults =
      ap (λ (k : ℕ). first_of (space_fault x) (first_of (sample_fault x 0 (get_or vs 0 0)) (first_of (sample_fault x 1 (get_or vs 1 0)) (first_of (sample_fault x 2 (get_or vs 2 0)) k)))) (sym (first-zero (sample_fault x 3 (get_or vs 3 0))))
      ∙ ap (fields_fault x) (sym (four vs l))

-- ---- a name

module _ (names : List ℕ) (g : RecordRow) where
  pub name-is : (at : ℕ) (r : Res Unit) → at ≡ g.first → r ≡ done (text g.units names at) → number_of r ≡ name_fault names g
  name-is at r a e = name-number (text g.units names g.first) r (e ∙ ap (λ (k : ℕ). done (text g.units names k)) a) ∙ text-number g.units names g.first

  -- a name without a fault lies in the lent bytes, from where its copy starts
  pub name-inside : name_fault names g ≡ 0 → start g + 2 * g.units ≤ length names
  name-inside e = elim (ℕ_discrete g.units 0) [
    | yes z ↦ rw (eq-eqb g.units 0 z) (omega arith)
    | no z ↦ rw (ne_eqb g.units 0 z) (let h = fits in omega arith)
  ]
    where
      fits : g.units * 2 ≤ length names - g.first
      fits = elim (dec_le (g.units * 2) (length names - g.first)) [
        | yes h ↦ h
        | no h ↦ absurd (omega (arith, (first-inv (found_in names g) _ e).0, ap number_of (body-short 2 names g.first g.units (lt_of_not-le h))))
      ]

-- ---- a loop over the records of a run

-- record i of a run
abbrev pub given_at : List ℕ → ℕ → RecordRow
given_at run i = taken (row_at width run i)

module _ (run : List ℕ) where
  pub sizes-turn : (n i : ℕ) → i < n → sizes (rows width taken run (n - i) i) ≡ 26 + 2 * (given_at run i).units + sizes (rows width taken run (n - (i + 1)) (i + 1))
  unfolding sizes
  sizes-turn n i h = ap sizes (counted-turn (given_at run) n i h)

  pub sizes-end : (n i : ℕ) → n ≤ i → sizes (rows width taken run (n - i) i) ≡ 0
  unfolding sizes
  sizes-end n i h = ap sizes (counted-end (given_at run) n i h)

  pub sizes-all : (n k : ℕ) → 26 * n ≤ sizes (rows width taken run n k)
  unfolding sizes counted
  sizes-all zero k = omega arith
  sizes-all (suc n) k = let h = sizes-all n (k + 1) in omega arith

-- ---- what storing list 2 asks

module _ (names run : List ℕ) where
  pub fit-start : (n at room : ℕ) → EntriesFit names (rows width taken run n 0) at room → EntriesFit names (rows width taken run (n - 0) 0) at room
  fit-start n at room e = subst (λ (gs : List RecordRow). EntriesFit names gs at room) (counted_start (given_at run) n) e

  module _ (n i at room : ℕ) (h : i < n) (e : EntriesFit names (rows width taken run (n - i) i) at room) where
    none : (name_fault names (given_at run i) ≡ 0) × (faults (name_fault names) (rows width taken run (n - (i + 1)) (i + 1)) ≡ 0)
    none = faults-clear (name_fault names) (given_at run) n i h e.name

    pub fit_next : EntryFits names (given_at run i) at room
    fit_next =
        let t = sizes-turn run n i h in
        let l = length-counted (given_at run) (n - i) i in
        let m = sizes-all run (n - (i + 1)) (i + 1) in
        record { inside = omega (arith, e.inside); short = omega (arith, e.short); name = none.0 }

    pub fit-rest : (k : ℕ) → 16 + 2 * (given_at run i).units ≡ k → EntriesFit names (rows width taken run (n - (i + 1)) (i + 1)) (at + k) room
    fit-rest k w =
        let t = sizes-turn run n i h in
        let l = length-counted (given_at run) (n - i) i in
        let m = length-counted (given_at run) (n - (i + 1)) (i + 1) in
        record { inside = omega (arith, e.inside); short = omega (arith, e.short); name = none.1 }
