-- Parents from depths, going from parent to parent. Assumes nothing.
use Prim.Native.Nat.{ℕ, zero, suc, ◌+◌, ◌-◌, ◌≤◌, ◌<◌}
use mathlib.Core.Path.{◌≡◌, refl, sym, ap, ◌∙◌, subst}
use mathlib.Core.List.{List, [], ◌∷◌, ◌++◌}
use mathlib.Core.Bool.{Bool, true, false}
use lib.Dec.{ltb}
use lib.ListN.{length, get_or, set, drop}
use lib.Seq.{sets, sets-eq, get_or-set_same, get_or-set_other}
use borrow.Author.Tests.{lt-ltb, le-ltb, le-leb, lt-leb, ltb-true, ltb-false}
use native.Mathlib.Omega.{arith}
use Rattle.algebra.specs.Reader.{pick}
use Rattle.descriptor_columns.specs.Columns.{parent_of, parents_from, parents_of}
use Rattle.descriptor_judge.specs.Answer.{Verdict, accepted, refused}
use Rattle.descriptor_columns.specs.Filled.{fits, onto, parented}
use Rattle.descriptor_columns.specs.scaffold.Parents.{back, parent_at, Parented}
use Rattle.descriptor_columns.proofs.Room.{room-no, room-on}

pub back-length : (ds : List ℕ) (i : ℕ) → length (back ds i) ≡ i
back-length ds zero = refl
back-length ds (suc i) = ap suc (back-length ds i)

module _ (ds : List ℕ) where
  abbrev under : ℕ → ℕ → ℕ
  under d i = parent_of d (back ds i)

  -- the row i is less deep
  pub less-deep : (d i : ℕ) → get_or ds i 0 < d → under d (suc i) ≡ i
  unfolding parent_of
  less-deep d i l = ap (λ (b : Bool). pick b (length (back ds i)) (under d i)) (lt-ltb (get_or ds i 0) d l) ∙ back-length ds i

  -- or not
  as-deep : (d i : ℕ) → d ≤ get_or ds i 0 → under d (suc i) ≡ under d i
  unfolding parent_of
  as-deep d i l = ap (λ (b : Bool). pick b (length (back ds i)) (under d i)) (le-ltb (get_or ds i 0) d l)

  -- the first row is the parent, or there is none: both are 0
  pub at_first : (d : ℕ) → under d 1 ≡ 0
  unfolding parent_of
  at_first d = go (ltb (get_or ds 0 0) d)
    where
      go : (b : Bool) → ◌≡◌ {A = ℕ} (pick b 0 0) 0
      go true = refl
      go false = refl

  pub under-most : (d i : ℕ) → under d i ≤ i
  unfolding parent_of
  under-most d zero = omega arith
  under-most d (suc i) = go (ltb (get_or ds i 0) d) (under-most d i) (back-length ds i)
    where
      go : (b : Bool) → under d i ≤ i → length (back ds i) ≡ i → pick b (length (back ds i)) (under d i) ≤ suc i
      go true h e = omega (arith, e)
      go false h e = omega (arith, h)

  pub under-less : (d i : ℕ) → 0 < i → under d i < i
  unfolding parent_of
  under-less d zero l = absurd (omega arith)
  under-less d (suc i) l = go (ltb (get_or ds i 0) d) (under-most d i) (back-length ds i)
    where
      go : (b : Bool) → under d i ≤ i → length (back ds i) ≡ i → pick b (length (back ds i)) (under d i) < suc i
      go true h e = omega (arith, e)
      go false h e = omega (arith, h)

  none_before : (d e : ℕ) → under d 0 ≡ under d (suc (under e 0))
  unfolding parent_of
  none_before d e = sym (at_first d)

  -- the rows behind the parent of a row that is as deep are passed by
  hop : (d e j : ℕ) → d ≤ e → 0 < j → under d j ≡ under d (suc (under e j))
  hop d e zero l p = absurd (omega arith)
  hop d e (suc j) l p = go (ltb (get_or ds j 0) e) refl (on j refl (λ h. hop d e j l h))
    where
      on : (i : ℕ) → j ≡ i → (0 < j → under d j ≡ under d (suc (under e j))) → under d j ≡ under d (suc (under e j))
      on zero z h = subst (λ (x : ℕ). under d x ≡ under d (suc (under e x))) (sym z) (none_before d e)
      on (suc i) z h = h (omega (arith, z))

      go : (b : Bool) → ltb (get_or ds j 0) e ≡ b → under d j ≡ under d (suc (under e j)) → under d (suc j) ≡ under d (suc (under e (suc j)))
      go true x h = ap (λ (y : ℕ). under d (suc y)) (sym (less-deep e j (ltb-true (get_or ds j 0) e x)))
      go false x h =
          let w = ltb-false (get_or ds j 0) e x in
          as-deep d j (omega (arith, l, w)) ∙ h ∙ ap (λ (y : ℕ). under d (suc y)) (sym (as-deep e j w))

  -- one step up: from the row j, which is as deep, to its parent
  pub step-up : (d j p : ℕ) → 0 < j → d ≤ get_or ds j 0 → p ≡ parent_at ds j → under d (j + 1) ≡ under d (p + 1)
  step-up d j p l h e =
      let x : j + 1 ≡ suc j = omega arith in
      let y : suc p ≡ p + 1 = omega arith in
      ap (under d) x ∙ as-deep d j h ∙ hop d (get_or ds j 0) j h l ∙ ap (λ (z : ℕ). under d (suc z)) (sym e) ∙ ap (under d) y

-- ---- the run

module _ (ds : List ℕ) where
  more : (i : ℕ) (l : List ℕ) → i < length l → drop i l ≡ get_or l i 0 ∷ drop (suc i) l
  more i [] h = absurd (omega arith)
  more zero (x ∷ l) h = refl
  more (suc i) (x ∷ l) h = more i l (omega arith)

  -- what is left to store
  abbrev pub left : ℕ → List ℕ
  left i = parents_from (back ds i) (drop i ds)

  -- at each turn
  pub record Storing (i : ℕ) (run₀ run : List ℕ) : Type 0 where
    pub inside : i ≤ length ds
    pub stands : Parented ds run i
    pub all : sets run i (left i) ≡ sets run₀ 0 (parents_of ds)
    pub size : length run ≡ length run₀

  pub storing-start : (run : List ℕ) → Storing 0 run run
  storing-start run = record { inside = omega arith; stands = record { stands = λ j l. absurd (omega arith) }; all = refl; size = refl }

  pub storing-turn : {i : ℕ} {run₀ run : List ℕ} (v : ℕ) → i < length ds → i < length run → v ≡ parent_at ds i → Storing i run₀ run → length (set run i v) ≡ length run₀ → Storing (i + 1) run₀ (set run i v)
  unfolding parents_from
  storing-turn {i} {run₀} {run} v l m e g z =
      let n : suc i ≡ i + 1 = omega arith in
      let x : left i ≡ parent_at ds i ∷ left (suc i) = ap (parents_from (back ds i)) (more i ds l) in
      subst (λ (k : ℕ). Storing k run₀ (set run i v)) n (record {
        inside = omega (arith, l);
        stands = record { stands = λ j h. near j h (ltb j i) refl };
        all = ap (λ (y : ℕ). sets (set run i y) (suc i) (left (suc i))) e ∙ ap (sets run i) (sym x) ∙ g.all;
        size = z;
      })
    where
      near : (j : ℕ) → j < suc i → (b : Bool) → ltb j i ≡ b → get_or (set run i v) j 0 ≡ parent_at ds j
      near j h true y = let w = ltb-true j i y in get_or-set_other run i j v 0 (λ z. absurd (omega (arith, z, w))) ∙ g.stands.stands j w
      near j h false y =
          let w : j ≡ i = omega (arith, ltb-false j i y, h) in
          ap (λ (z : ℕ). get_or (set run i v) z 0) w ∙ get_or-set_same run i v 0 m ∙ e ∙ ap (parent_at ds) (sym w)

  from-length : (before ds : List ℕ) → length (parents_from before ds) ≡ length ds
  unfolding parents_from
  from-length before [] = refl
  from-length before (d ∷ ds) = ap suc (from-length (d ∷ before) ds)

  drop_all : (l : List ℕ) (i : ℕ) → length l ≤ i → drop i l ≡ []
  drop_all [] zero h = refl
  drop_all [] (suc i) h = refl
  drop_all (x ∷ l) zero h = absurd (omega arith)
  drop_all (x ∷ l) (suc i) h = drop_all l i (omega arith)

  pub storing-end : {i : ℕ} {run₀ run : List ℕ} → length ds ≤ i → length ds ≤ length run₀ → Storing i run₀ run → run ≡ onto (parents_of ds) run₀
  unfolding parents_from
  storing-end {i} {run₀} {run} l m g =
      let n : length (parents_of ds) ≡ length ds = from-length [] ds in
      let z : 0 + length (parents_of ds) ≡ length (parents_of ds) = omega arith in
      let e : left i ≡ [] = ap (parents_from (back ds i)) (drop_all ds i l) in
      ap (sets run i) (sym e) ∙ g.all ∙ sets-eq (parents_of ds) run₀ 0 (omega (arith, n, m)) ∙ ap (λ (j : ℕ). parents_of ds ++ drop j run₀) z

-- ---- going up

-- the row j stands before the row i, and the parent of i is j or stands before it
pub record Rising (ds : List ℕ) (i own j : ℕ) : Type 0 where
  pub below : j < i
  pub depth : own ≡ get_or ds i 0
  pub same : parent_of own (back ds (j + 1)) ≡ parent_at ds i

module _ (ds : List ℕ) {i : ℕ} where
  pub rising-start : (i ≡ 0 → ⊥) → Rising ds i (get_or ds i 0) (i - 1)
  rising-start z = let e : i - 1 + 1 ≡ i = omega (arith, z) in record { below = omega (arith, z); depth = refl; same = ap (λ (x : ℕ). parent_of (get_or ds i 0) (back ds x)) e }

  module _ {own j : ℕ} (g : Rising ds i own j) where
    pub rising-first : j ≡ 0 → 0 ≡ parent_at ds i
    rising-first z = sym (at_first ds own) ∙ ap (λ (x : ℕ). parent_of own (back ds (x + 1))) (sym z) ∙ g.same

    pub rising-found : get_or ds j 0 < own → j ≡ parent_at ds i
    rising-found l = let e : j + 1 ≡ suc j = omega arith in sym (less-deep ds own j l) ∙ ap (λ (x : ℕ). parent_of own (back ds x)) (sym e) ∙ g.same

    pub rising-up : {run : List ℕ} {p : ℕ} → (j ≡ 0 → ⊥) → own ≤ get_or ds j 0 → Parented ds run i → p ≡ get_or run j 0 → (p < j) × Rising ds i own p
    rising-up {run} {p} z l h e =
        let x : p ≡ parent_at ds j = e ∙ h.stands j g.below in
        let w = under-less ds (get_or ds j 0) j (omega (arith, z)) in
        (omega (arith, x, w), record { below = omega (arith, x, w, g.below); depth = g.depth; same = sym (step-up ds own j p (omega (arith, z)) l x) ∙ g.same })

-- the first row has none
pub first-parent : (ds : List ℕ) (i : ℕ) → i ≡ 0 → 0 ≡ parent_at ds i
unfolding parent_of
first-parent ds i z = ap (λ (x : ℕ). parent_of (get_or ds i 0) (back ds x)) (sym z)

-- ---- what the call answers

module _ (ds run : List ℕ) where
  abbrev counted : Verdict × List ℕ
  counted = pick (fits (length ds) (run ∷ [])) (accepted (length ds), onto (parents_of ds) run) (refused 11 0, run)

  pub too_many : 4294967295 < length ds → ◌≡◌ {A = Verdict × List ℕ} (refused 1 0, run) (parented ds run)
  too_many l = sym (ap (λ (b : Bool). pick {A = Verdict × List ℕ} b counted (refused 1 0, run)) (lt-leb (length ds) 4294967295 l))

  within : length ds ≤ 4294967295 → counted ≡ parented ds run
  within l = sym (ap (λ (b : Bool). pick {A = Verdict × List ℕ} b counted (refused 1 0, run)) (le-leb (length ds) 4294967295 l))

  pub too_short : length ds ≤ 4294967295 → length run < length ds → ◌≡◌ {A = Verdict × List ℕ} (refused 11 0, run) (parented ds run)
  too_short l m = ap (λ (b : Bool). pick {A = Verdict × List ℕ} b (accepted (length ds), onto (parents_of ds) run) (refused 11 0, run)) (room-no (length ds) run [] m) ∙ within l

  pub all-parents : {run' : List ℕ} → length ds ≤ 4294967295 → length ds ≤ length run → run' ≡ onto (parents_of ds) run → ◌≡◌ {A = Verdict × List ℕ} (accepted (length ds), run') (parented ds run)
  all-parents l m e =
      ap (λ (x : List ℕ). (accepted (length ds), x)) e
      ∙ ap (λ (b : Bool). pick {A = Verdict × List ℕ} b (accepted (length ds), onto (parents_of ds) run) (refused 11 0, run)) (room-on (length ds) run [] true m refl) ∙ within l
