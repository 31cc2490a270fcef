-- Which fault is found first, and how long the file is, on plain values. Assumes nothing.
use Rattle.algebra.proofs.Counted.{counted-end, counted_start, counted-turn}
use Prim.Native.Nat.{ℕ, zero, suc, ◌+◌, ◌*◌, ◌-◌, ◌≤◌, ◌<◌}
use mathlib.Core.Path.{◌≡◌, refl, sym, ap, ◌∙◌, subst}
use mathlib.Core.List.{List, [], ◌∷◌}
use mathlib.Core.Bool.{Bool, true, false, not, ◌&&◌}
use lib.Dec.{leb, ltb, eqb}
use lib.ListN.{length}
use lib.Ieee.{binary32, of_bits}
use borrow.Author.Tests.{eq-eqb, ne_eqb, le-leb, lt-leb, leb-true, ltb-true}
use native.Mathlib.Omega.{arith}
use native.Mathlib.Nat.{lt_of_not-le}
use native.Mathlib.Decide.{ℕ_discrete, dec_le}
use Rattle.algebra.specs.Reader.{Res, pick, body, done, number_of, state_after}
use Rattle.algebra.specs.Text.{text}
use Rattle.algebra.specs.Numbers.{counted}
use Rattle.algebra.specs.Faults.{first_of, faults, faults_from, faults_in}
use Rattle.algebra.proofs.Tells.{first-none, first-zero, first-inv, pick-none}
use Rattle.algebra.proofs.Laws.{body-short}
use Rattle.algebra.proofs.Texts.{text-number}
use Rattle.colour.specs.Models.{model_of, count_in, is_model, channels_of}
use Rattle.colour.specs.Channels.{allows, allows_bits, allows_all}
use Rattle.std.specs.Prelude.{Option, Some, None, Result}
use Rattle.std.specs.Result.{IsErrAnd}
use Rattle.std.proofs.lemmas.Result.{err_from_is_err_and}
use Rattle.fault.specs.Fault.{number_of as Fault·number}
use Rattle.fault.specs.declared.Fault.{Fault}
use Rattle.fault.specs.declared.Fault.TheVariants as fault
use Rattle.colour.specs.declared.model.Model.{Model}
use Rattle.colour.specs.declared.model.Model.TheVariants.{Rgb, Cmyk, Lab, Gray}
use Rattle.ase.specs.Reading.{deepest}
use Rattle.ase.specs.Faults as f
use Rattle.ase.specs.Row.{RecordRow}
use Rattle.ase_writing.specs.Writing.{channels_in, block_by_row, size_within, sizes, found_in, block_fault, ink_fault}
use Rattle.ase_writing.proofs.After.{group-ink-ignored}
use Rattle.ase_write_judge.specs.scaffold.Parts.{told_fault, type_fault, name_fault, standing_in, open_after_type, channels_fault, after_name_fault, start, own_fault, RecordFits, RecordsFit}
use Rattle.algebra.proofs.Firsts.{first_found, hit, pass, test-holds, name-number}

-- ---- faults that a `?` hands on

pub some-fault : (f : Fault) → Fault·number f ≡ 0 → ⊥
some-fault fault.TooLong e = omega arith
some-fault fault.Short e = omega arith
some-fault fault.WrongTag e = omega arith
some-fault fault.Unknown e = omega arith
some-fault fault.OutOfRange e = omega arith
some-fault fault.LeftOver e = omega arith
some-fault fault.ListsDiffer e = omega arith
some-fault fault.BadlyClosed e = omega arith
some-fault fault.Unbalanced e = omega arith
some-fault fault.TooDeep e = omega arith
some-fault fault.NoRoom e = omega arith
some-fault fault.NoRecord e = omega arith
some-fault fault.WrongLength e = omega arith
some-fault fault.NoCounterpart e = omega arith

pub fault-exit : (r : Result Unit Fault) (f : Fault) {m : ℕ} → IsErrAnd r (λ y. y ≡ f) → Fault·number f ≡ m → told_fault r ≡ m
fault-exit r f h rest = let p = err_from_is_err_and r h in rw (p.1, p.2) rest

-- the first of two
pub first-exit : (r : Result Unit Fault) (f : Fault) (a b : ℕ) {m : ℕ} → IsErrAnd r (λ y. y ≡ f) → Fault·number f ≡ a → first_of a b ≡ m → told_fault r ≡ m
first-exit r f a b h e rest = fault-exit r f h (hit (Fault·number f) a b e (some-fault f) ∙ rest)

-- ---- the first of two faults

first-assoc : (a b c : ℕ) → first_of (first_of a b) c ≡ first_of a (first_of b c)
first-assoc zero b c = refl
first-assoc (suc a) b c = let h = first_found (suc a) b (λ z. omega arith) in ap (λ (x : ℕ). first_of x c) h ∙ first_found (suc a) c (λ z. omega arith) ∙ sym (first_found (suc a) (first_of b c) (λ z. omega arith))

-- ---- a record's length

few : (k : Option Model) → count_in k ≤ 4
few (Some Rgb) = omega arith
few (Some Cmyk) = omega arith
few (Some Lab) = omega arith
few (Some Gray) = omega arith
few None = omega arith

-- no model has more than four channels
pub channels-few : (t : ℕ) → channels_of t ≤ 4
unfolding channels_of
channels-few t = few (model_of t)

pub channels-is : (t : ℕ) (k : Option Model) → k ≡ model_of t → count_in k ≡ channels_of t
unfolding channels_of
channels-is t k e = ap count_in e

module _ (g : RecordRow) where
  pub size-start : g.block ≡ 0xC001 → size_within g ≡ 10 + 2 * g.units
  size-start e = rw e (omega arith)

  pub size-stop : g.block ≡ 0xC002 → size_within g ≡ 6
  size-stop e = rw e

  pub size-colour : g.block ≡ 0x0001 → size_within g ≡ 16 + 2 * g.units + 4 * channels_of g.model
  size-colour e = rw e (omega arith)

  pub size-other : (g.block ≡ 0xC001 → ⊥) → (g.block ≡ 0x0001 → ⊥) → size_within g ≡ 6
  size-other a b = simp (ne_eqb _ _ a, ne_eqb _ _ b) (go (eqb g.block 0xC002))
    where
      go : (c : Bool) → ◌≡◌ {A = ℕ} (pick c 6 6) 6
      go true = refl
      go false = refl

-- ---- a name

module _ (names : List ℕ) (g : RecordRow) where
  pub name-large : 65534 < g.units → name_fault names g ≡ 5
  name-large h = simp (lt-leb (g.units + 1) 65535 (omega arith))

  pub name-is : g.units ≤ 65534 → (at : ℕ) (r : Res Unit) → at ≡ g.first → r ≡ done (text g.units names at) → number_of r ≡ name_fault names g
  name-is h at r a e =
      name-number (text g.units names g.first) r (e ∙ ap (λ (k : ℕ). done (text g.units names k)) a)
      ∙ text-number g.units names g.first ∙ sym (simp (le-leb (g.units + 1) 65535 (omega arith)))

  -- a name without a fault fits its count, and lies in the lent bytes
  pub name-lies : name_fault names g ≡ 0 → (g.units ≤ 65534) × (g.units * 2 ≤ length names - g.first)
  name-lies e =
      let x = test-holds (leb (g.units + 1) 65535) (number_of (body 2 g.units names g.first)) 5 (omega arith) (first-inv (found_in names g) _ e).0 in (
        omega (arith, leb-true (g.units + 1) 65535 x.0),
        elim (dec_le (g.units * 2) (length names - g.first)) [
          | yes h ↦ h
          | no h ↦ absurd (omega (arith, x.1, ap number_of (body-short 2 names g.first g.units (lt_of_not-le h))))
        ],
      )

  -- from where its copy starts
  pub name-inside : name_fault names g ≡ 0 → start g + 2 * g.units ≤ length names
  name-inside e = elim (ℕ_discrete g.units 0) [
    | yes z ↦ rw (eq-eqb g.units 0 z) (omega arith)
    | no z ↦ rw (ne_eqb g.units 0 z) (let h = name-lies e in omega (arith, h.1))
  ]

-- ---- a colour's model, channels and type

-- as many channels as the model has: one, three or four
one-fault : (x : Bool) → pick x 0 5 ≡ first_of (pick x 0 5) 0
one-fault true = refl
one-fault false = refl

three-faults : (x y z : Bool) → pick (x && y && z) 0 5 ≡ first_of (pick x 0 5) (first_of (pick y 0 5) (first_of (pick z 0 5) 0))
three-faults true true z = one-fault z
three-faults true false z = refl
three-faults false y z = refl

four-faults : (x y z w : Bool) → pick (x && y && z && w) 0 5 ≡ first_of (pick x 0 5) (first_of (pick y 0 5) (first_of (pick z 0 5) (first_of (pick w 0 5) 0)))
four-faults true y z w = three-faults y z w
four-faults false y z w = refl

channels-all : (m : Model) (a b c d : ℕ) → pick (allows_all m a b c d) 0 5 ≡ channels_fault m (a ∷ b ∷ c ∷ d ∷ [])
unfolding channels_fault faults_from
channels-all Rgb a b c d = three-faults (allows Rgb (of_bits binary32 a)) (allows Rgb (of_bits binary32 b)) (allows Rgb (of_bits binary32 c))
channels-all Cmyk a b c d = four-faults (allows Cmyk (of_bits binary32 a)) (allows Cmyk (of_bits binary32 b)) (allows Cmyk (of_bits binary32 c)) (allows Cmyk (of_bits binary32 d))
channels-all Lab a b c d = three-faults (allows Lab (of_bits binary32 a)) (allows Lab (of_bits binary32 b)) (allows Lab (of_bits binary32 c))
channels-all Gray a b c d = one-fault (allows Gray (of_bits binary32 a))

pub channels-by : (m : Model) (a b c d : ℕ) (x : Bool) → x ≡ allows_all m a b c d → pick x 0 5 ≡ channels_fault m (a ∷ b ∷ c ∷ d ∷ [])
channels-by m a b c d x e = ap (λ (t : Bool). pick t 0 5) e ∙ channels-all m a b c d

-- as the code tests it
failed : (t : Bool) → not t ≡ true → t ≡ false
failed true e = sym e
failed false e = refl

held : (t : Bool) → not t ≡ false → t ≡ true
held true e = refl
held false e = sym e

-- the fault of a colour of an unknown model, and of a known one
module _ (g : RecordRow) where
  pub colour-content-unknown : None ≡ model_of g.model → 4 ≡ after_name_fault g
  unfolding f.colour_fault is_model
  colour-content-unknown e = rw (← e)

  module _ (m : Model) (e : Some m ≡ model_of g.model) where
    colour-content-known : after_name_fault g ≡ first_of (channels_fault m g.channels) (pick (leb g.ink 4) 0 5)
    unfolding f.colour_fault is_model channels_of allows_bits channels_fault
    colour-content-known = rw (← e)

    module _ (x : Bool) (h : pick x 0 5 ≡ channels_fault m g.channels) where
      pub colour-content-bad : not x ≡ true → 5 ≡ after_name_fault g
      colour-content-bad z = hit 5 _ _ (sym (rw (failed x z)) ∙ h) (λ y. omega arith) ∙ sym colour-content-known

      pub colour-content-typed : not x ≡ false → (v : ℕ) → v ≡ pick (leb g.ink 4) 0 5 → v ≡ after_name_fault g
      colour-content-typed z v w = pass v _ _ 0 (sym (rw (held x z)) ∙ h) refl w ∙ sym colour-content-known

-- a colour without a fault has a known model, and its ink is one
pub colour-content-fine : (g : RecordRow) → after_name_fault g ≡ 0 → (is_model g.model ≡ true) × (g.ink ≤ 4)
unfolding f.colour_fault
colour-content-fine g e =
    let f : ℕ = faults_from (λ i b. pick (allows_bits g.model b) 0 5) 0 (channels_in g) in
    let a = first-inv (pick (is_model g.model) 0 4) (first_of f (pick (leb g.ink 4) 0 5)) e in
    let b = first-inv f (pick (leb g.ink 4) 0 5) a.1 in
    (pick-none (is_model g.model) 4 (omega arith) a.0, leb-true g.ink 4 (pick-none (leb g.ink 4) 5 (omega arith) b.1))

-- ---- a block's type

module _ (d t : ℕ) where
  pub depth-start : t ≡ 0xC001 → open_after_type d t ≡ d + 1
  depth-start e = rw e

  pub depth-stop : t ≡ 0xC002 → open_after_type d t ≡ d - 1
  depth-stop e = rw e

  pub depth-colour : (t ≡ 0xC001 → ⊥) → (t ≡ 0xC002 → ⊥) → open_after_type d t ≡ d
  depth-colour a b = rw (ne_eqb t _ a, ne_eqb t _ b)

-- ---- a record

-- what is known of one without a fault, where d groups stand open
pub data Sound (names : List ℕ) (d : ℕ) (g : RecordRow) : Type 0 where
  is_group_start : g.block ≡ 0xC001 → d < deepest → name_fault names g ≡ 0 → Sound names d g
  is_group_end : g.block ≡ 0xC002 → 0 < d → Sound names d g
  is-colour : g.block ≡ 0x0001 → name_fault names g ≡ 0 → after_name_fault g ≡ 0 → Sound names d g

module _ (names : List ℕ) (d : ℕ) (g : RecordRow) where
  pub block_start : g.block ≡ 0xC001 → block_fault names d g ≡ first_of (pick (ltb d deepest) 0 10) (name_fault names g)
  unfolding f.block_fault
  block_start e = rw e

  pub block-stop : g.block ≡ 0xC002 → block_fault names d g ≡ pick (ltb 0 d) 0 9
  unfolding f.block_fault
  block-stop e = rw e

  pub block-colour : g.block ≡ 0x0001 → block_fault names d g ≡ first_of (name_fault names g) (after_name_fault g)
  unfolding f.block_fault
  block-colour e = rw e

  pub block-other : (g.block ≡ 0xC001 → ⊥) → (g.block ≡ 0xC002 → ⊥) → (g.block ≡ 0x0001 → ⊥) → block_fault names d g ≡ 4
  unfolding f.block_fault
  block-other a b c = simp (ne_eqb g.block 0xC001 a, ne_eqb g.block 0xC002 b, ne_eqb g.block 0x0001 c)

  -- in the order in which the code finds them
  pub block-parts : block_fault names d g ≡ first_of (type_fault d g.block) (pick (eqb g.block 0xC002) 0 (first_of (name_fault names g) (pick (eqb g.block 0xC001) 0 (after_name_fault g))))
  block-parts = elim (ℕ_discrete g.block 0xC001) [
    | yes a ↦ block_start a ∙ rw a (ap (first_of (pick (ltb d deepest) 0 10)) (sym (first-zero (name_fault names g))))
    | no a ↦ elim (ℕ_discrete g.block 0xC002) [
      | yes b ↦ block-stop b ∙ rw b (sym (first-zero (pick (ltb 0 d) 0 9)))
      | no b ↦ elim (ℕ_discrete g.block 0x0001) [
        | yes c ↦ block-colour c ∙ rw c
        | no c ↦ block-other a b c ∙ simp (ne_eqb g.block 0xC001 a, ne_eqb g.block 0xC002 b, ne_eqb g.block 0x0001 c)
      ]
    ]
  ]

  -- no group end, and its type without a fault: its name, and what stands behind a colour's
  pub block-named : 0 ≡ type_fault d g.block → (g.block ≡ 0xC002 → ⊥) → first_of (name_fault names g) (pick (eqb g.block 0xC001) 0 (after_name_fault g)) ≡ block_fault names d g
  block-named e h =
      let m : ℕ = first_of (name_fault names g) (pick (eqb g.block 0xC001) 0 (after_name_fault g)) in
      pass m (type_fault d g.block) (pick (eqb g.block 0xC002) 0 m) 0 e refl (sym (rw (ne_eqb g.block 0xC002 h))) ∙ sym block-parts

  pub sound : block_fault names d g ≡ 0 → Sound names d g
  sound e = elim (ℕ_discrete g.block 0xC001) [
    | yes a ↦ let x = first-inv (pick (ltb d deepest) 0 10) (name_fault names g) (sym (block_start a) ∙ e) in is_group_start a (ltb-true d deepest (pick-none (ltb d deepest) 10 (omega arith) x.0)) x.1
    | no a ↦ elim (ℕ_discrete g.block 0xC002) [
      | yes b ↦ is_group_end b (ltb-true 0 d (pick-none (ltb 0 d) 9 (omega arith) (sym (block-stop b) ∙ e)))
      | no b ↦ elim (ℕ_discrete g.block 0x0001) [
        | yes c ↦ let x = first-inv (name_fault names g) (after_name_fault g) (sym (block-colour c) ∙ e) in is-colour c x.0 x.1
        | no c ↦ absurd (omega (arith, block-other a b c))
      ]
    ]
  ]

  pub standing-is : standing_in names d g ≡ open_after_type d g.block
  standing-is = elim (ℕ_discrete g.block 0xC001) [
    | yes a ↦ rw a
    | no a ↦ elim (ℕ_discrete g.block 0xC002) [
      | yes b ↦ rw b
      | no b ↦ elim (ℕ_discrete g.block 0x0001) [
        | yes c ↦ rw c
        | no c ↦ simp (ne_eqb g.block 0xC001 a, ne_eqb g.block 0xC002 b, ne_eqb g.block 0x0001 c)
      ]
    ]
  ]

  -- no more groups stand open after it than may
  pub depth-few : Sound names d g → d ≤ deepest → open_after_type d g.block ≤ deepest
  depth-few (is_group_start a k n) h = omega (arith, depth-start d g.block a)
  depth-few (is_group_end a k) h = omega (arith, depth-stop d g.block a)
  depth-few (is-colour a n s) h = rw a h

-- it has no fault apart from the nesting either
block-own : (names : List ℕ) (d : ℕ) (g : RecordRow) → Sound names d g → own_fault names g ≡ 0
block-own names d g (is_group_start a k n) = block_start names 1 g a ∙ n
block-own names d g (is_group_end a k) = block-stop names 1 g a
block-own names d g (is-colour a n s) = block-colour names 1 g a ∙ first-none (name_fault names g) (after_name_fault g) n ∙ s

-- ---- an ink

module _ (g : RecordRow) where
  pub ink-of-group : (g.block ≡ 0x0001 → ⊥) → 0 ≡ ink_fault g
  ink-of-group a = sym (group-ink-ignored g a)

  module _ (a : g.block ≡ 0x0001) where
    pub ink-process : g.ink ≡ 3 → 14 ≡ ink_fault g
    ink-process e = sym (rw (a, e))

    pub ink-unstated : g.ink ≡ 4 → 14 ≡ ink_fault g
    ink-unstated e = sym (rw (a, e))

    pub ink-stated : (g.ink ≡ 3 → ⊥) → (g.ink ≡ 4 → ⊥) → 0 ≡ ink_fault g
    ink-stated e h = sym (rw (a, ne_eqb g.ink 3 e, ne_eqb g.ink 4 h))

-- ---- a loop over the records of a run

module _ (item : ℕ → RecordRow) where
  pub sizes-turn : (n i : ℕ) → i < n → sizes (counted item (n - i) i) ≡ size_within (item i) + sizes (counted item (n - (i + 1)) (i + 1))
  unfolding sizes
  sizes-turn n i h = ap sizes (counted-turn item n i h)

  pub sizes-end : (n i : ℕ) → n ≤ i → sizes (counted item (n - i) i) ≡ 0
  unfolding sizes
  sizes-end n i h = ap sizes (counted-end item n i h)

-- every record takes six bytes or more
pub size-least : (g : RecordRow) → 6 ≤ size_within g
size-least g = go (eqb g.block 0xC001) (eqb g.block 0xC002) (eqb g.block 0x0001)
  where
    go : (a b c : Bool) → 6 ≤ pick a (6 + (4 + 2 * g.units)) (pick b 6 (pick c (12 + (4 + 2 * g.units) + 4 * channels_of g.model) 6))
    go true b c = omega arith
    go false true c = omega arith
    go false false true = omega arith
    go false false false = omega arith

pub sizes-all : (gs : List RecordRow) → 6 * length gs ≤ sizes gs
unfolding sizes
sizes-all [] = omega arith
sizes-all (g ∷ gs) = let h = sizes-all gs in let k = size-least g in omega arith

-- what is left has the first fault of all
module _ (names : List ℕ) (item : ℕ → RecordRow) where
  abbrev left : ℕ → List RecordRow → ℕ
  left d gs = f.blocks_fault (found_in names) (block_by_row names) d gs

  blocks-turn : (d n i : ℕ) → i < n
      → left d (counted item (n - i) i) ≡ first_of (block_fault names d (item i)) (left (standing_in names d (item i)) (counted item (n - (i + 1)) (i + 1)))
  unfolding f.blocks_fault faults_in state_after
  blocks-turn d n i h =
      ap (left d) (counted-turn item n i h)
      ∙ first-assoc (block_fault names d (item i)) (faults_in (standing_in names) (block_fault names) (standing_in names d (item i)) (counted item (n - (i + 1)) (i + 1))) _

  pub blocks_start : (n : ℕ) → left 0 (counted item n 0) ≡ left 0 (counted item (n - 0) 0)
  blocks_start n = ap (left 0) (counted_start item n)

  module _ (all d n i : ℕ) (inv : all ≡ left d (counted item (n - i) i)) where
    module _ (h : i < n) (r : ℕ) (g : RecordRow) (at : g ≡ item i) (e : r ≡ block_fault names d g) where
      next : r ≡ block_fault names d (item i)
      next = e ∙ ap (block_fault names d) at

      pub blocks-found : (r ≡ 0 → ⊥) → r ≡ all
      blocks-found z = hit r _ _ next z ∙ sym (inv ∙ blocks-turn d n i h)

      pub blocks_more : r ≡ 0 → (k : ℕ) → k ≡ open_after_type d g.block → all ≡ left k (counted item (n - (i + 1)) (i + 1))
      blocks_more z k w =
          let s : standing_in names d (item i) ≡ k = sym (w ∙ sym (standing-is names d g) ∙ ap (standing_in names d) at) in
          inv ∙ blocks-turn d n i h ∙ first-none _ _ (sym next ∙ z) ∙ ap (λ (x : ℕ). left x (counted item (n - (i + 1)) (i + 1))) s

    module _ (h : n ≤ i) where
      last : all ≡ pick (eqb d 0) 0 9
      unfolding f.blocks_fault faults_in state_after
      last = inv ∙ ap (left d) (counted-end item n i h)

      pub blocks-open : (d ≡ 0 → ⊥) → 9 ≡ all
      blocks-open z = sym (last ∙ rw (ne_eqb d 0 z))

      pub blocks-closed : d ≡ 0 → 0 ≡ all
      blocks-closed z = sym (last ∙ rw (eq-eqb d 0 z))

-- ---- what storing asks

-- no fault in their order, so none of their own
pub all_own : (names : List ℕ) (d : ℕ) (gs : List RecordRow) → faults_in (standing_in names) (block_fault names) d gs ≡ 0 → faults (own_fault names) gs ≡ 0
unfolding faults_in faults
all_own names d [] e = refl
all_own names d (g ∷ gs) e =
    let x = first-inv (block_fault names d g) (faults_in (standing_in names) (block_fault names) (standing_in names d g) gs) e in
    first-none (own_fault names g) (faults (own_fault names) gs) (block-own names d g (sound names d g x.0)) ∙ all_own names (standing_in names d g) gs x.1

module _ (names : List ℕ) (item : ℕ → RecordRow) where
  pub fit-start : (n at room : ℕ) → RecordsFit names (counted item n 0) at room → RecordsFit names (counted item (n - 0) 0) at room
  fit-start n at room e = subst (λ (gs : List RecordRow). RecordsFit names gs at room) (counted_start item n) e

  module _ (n i at room : ℕ) (h : i < n) (e : RecordsFit names (counted item (n - i) i) at room) where
    none : (own_fault names (item i) ≡ 0) × (faults (own_fault names) (counted item (n - (i + 1)) (i + 1)) ≡ 0)
    unfolding faults
    none = first-inv _ _ (sym (ap (faults (own_fault names)) (counted-turn item n i h)) ∙ e.sound)

    pub fit_next : RecordFits names (item i) at room
    fit_next =
        let t = sizes-turn item n i h in
        record { inside = omega (arith, e.inside); short = omega (arith, e.short); sound = none.0 }

    pub fit-rest : (k : ℕ) → k ≡ size_within (item i) → RecordsFit names (counted item (n - (i + 1)) (i + 1)) (at + k) room
    fit-rest k w =
        let t = sizes-turn item n i h in
        record { inside = omega (arith, e.inside); short = omega (arith, e.short); sound = none.1 }
