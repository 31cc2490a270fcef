-- What reading into a table answers and leaves, a record by its number, and the records of a run, for rows of any width. Assumes nothing.
use Prim.Native.Nat.{ℕ, ◌+◌, ◌*◌, ◌/◌, ◌≤◌, ◌<◌}
use mathlib.Core.Path.{◌≡◌, refl, sym, ap, ap₂, ◌∙◌, subst}
use mathlib.Core.List.{List, ◌++◌, map}
use lib.ListN.{length, get_or, take, drop, get_or-eq_default}
use lib.Seq.{sets, sets-eq, get_or-take, get_or-drop, take_at, drop_at}
use borrow.Author.Tests.{le-leb, lt-leb, lt-ltb, le-ltb}
use native.Mathlib.Omega.{arith}
use native.Mathlib.Nat.{zero-add, mul-div_cancel_left}
use Rattle.algebra.specs.Numbers.{joined, All}
use Rattle.algebra.specs.Reader.{Res, ok, refuse}
use Rattle.algebra.specs.Table.{Verdict, accepted, refused, verdict, filled, record_at, row_at, rows, whole}
use Rattle.algebra.specs.Filling.{Accepted, records_in}
use Rattle.algebra.proofs.Places.{length_part}
use Rattle.algebra.proofs.Counted.{length-counted, getD-counted}
use Rattle.algebra.proofs.Rows.{rows_back, length-rows}

-- ---- from the verdict to what the file holds

module _ {A B : Type 0} (report : A → B) where
  pub accepted-of : (m : Res A) {b : B} → accepted b ≡ verdict report m → Accepted report m b
  accepted-of (ok a q) e = (a, q, refl, cc)
  accepted-of (refuse x p r f) e = let z : ◌≡◌ {A = ℕ} 0 1 = cc in absurd (omega arith)

  pub refused-of : (m : Res A) {x p r f : ℕ} → refused x p r f ≡ verdict report m → m ≡ refuse x p r f
  refused-of (ok a q) e = let z : ◌≡◌ {A = ℕ} 0 1 = cc in absurd (omega arith)
  refused-of (refuse x p r f) e = cc

  -- a part of what is reported
  pub accepted-by : {C : Type 0} (view : B → C) (m : Res A) {b : B} → Accepted report m b → Accepted (λ a. view (report a)) m (view b)
  accepted-by view m a = (a.0, a.1, a.2, ap view a.3)

-- the records of an accepted file
pub records-are : {A B E : Type 0} (records : A → List E) (report : A → B) (m : Res A) {b : B} (a : Accepted report m b) → records_in records m ≡ records a.0
records-are records report m a = ap (records_in records) a.2

module _ {A B E : Type 0} (records : A → List E) (report : A → B) (count : B → ℕ) (counts : (a : A) → count (report a) ≡ length (records a)) (m : Res A) where
  -- as many as are reported
  pub count_is : {b : B} (a : Accepted report m b) → count b ≡ length (records a.0)
  count_is a = ap count (sym a.3) ∙ counts a.0

  -- ---- the table

  module _ (w : ℕ) (row : E → List ℕ) (t : List ℕ) where
    pub filled-refused : {x p r f : ℕ} → refused x p r f ≡ verdict report m → (refused x p r f, t) ≡ filled w row records report m t
    filled-refused v = sym (ap (λ (k : Res A). filled w row records report k t) (refused-of report m v))

    module _ {b : B} (v : accepted b ≡ verdict report m) where
      is : Accepted report m b
      is = accepted-of report m v

      pub filled-short : length t < w * count b → (refused 11 0 0 0, t) ≡ filled w row records report m t
      filled-short h =
          let l : length t < w * length (records is.0) = subst (λ (n : ℕ). length t < w * n) (count_is is) h in
          sym (ap (λ (k : Res A). filled w row records report k t) is.2 ∙ simp (lt-leb _ _ l))

      pub filled_is : w * count b ≤ length t → length (joined row (records_in records m)) ≡ w * length (records_in records m)
          → (t' : List ℕ) → t' ≡ sets t 0 (joined row (records_in records m)) → (accepted b, t') ≡ filled w row records report m t
      filled_is h len t' e =
          let es : List E = records is.0 in
          let z : records_in records m ≡ es = records-are records report m is in
          let l : w * length es ≤ length t = subst (λ (n : ℕ). w * n ≤ length t) (count_is is) h in
          let n : length (joined row es) ≡ w * length es = subst (λ (x : List E). length (joined row x) ≡ w * length x) z len in
          let room : 0 + length (joined row es) ≤ length t = omega arith in
          let end : 0 + length (joined row es) ≡ w * length es = omega arith in
          let s : t' ≡ joined row es ++ drop (w * length es) t = e ∙ ap (λ (x : List E). sets t 0 (joined row x)) z ∙ sets-eq (joined row es) t 0 room ∙ ap (λ (i : ℕ). joined row es ++ drop i t) end in
          ap₂ (λ (x : Verdict B) (y : List ℕ). (x, y)) (v ∙ ap (verdict report) is.2) s
          ∙ sym (ap (λ (k : Res A). filled w row records report k t) is.2 ∙ simp (le-leb _ _ l))

  -- ---- a record by its number

  module _ (none : E) (i : ℕ) where
    pub record-refused : {x p r f : ℕ} → refused x p r f ≡ verdict report m → refused x p r f ≡ record_at records none i m
    record-refused v = sym (ap (record_at records none i) (refused-of report m v))

    module _ {b : B} (a : Accepted report m b) where
      pub record-none : count b ≤ i → refused 12 0 0 0 ≡ record_at records none i m
      record-none h = let l : length (records a.0) ≤ i = omega (arith, count_is a) in sym (ap (record_at records none i) a.2 ∙ simp (le-ltb _ _ l))

      pub record-found : i < count b → accepted (get_or (records_in records m) i none) ≡ record_at records none i m
      record-found h =
          let l : i < length (records a.0) = omega (arith, count_is a) in
          ap (λ (k : Res A). accepted (get_or (records_in records k) i none)) a.2 ∙ sym (ap (record_at records none i) a.2 ∙ simp (lt-ltb _ _ l))

-- ---- a row of a run

module _ (w : ℕ) (run : List ℕ) (k : ℕ) where
  pub row-at : (j : ℕ) → j < w → get_or (row_at w run k) j 0 ≡ get_or run (w * k + j) 0
  row-at j h = get_or-take w (drop (w * k) run) j 0 h ∙ get_or-drop (w * k) run j 0

  pub length-row : w * k + w ≤ length run → length (row_at w run k) ≡ w
  length-row h = length_part run (w * k) w h

-- record k of a run, or none where the run does not have it whole
module _ {A : Type 0} (w : ℕ) (taken : List ℕ → A) (run : List ℕ) (none : A) (k : ℕ) where
  pub whole_in : k < length run / w → get_or (whole w taken run) k none ≡ taken (row_at w run k)
  whole_in h = getD-counted (λ i. taken (row_at w run i)) none (length run / w) 0 k h ∙ ap (λ (i : ℕ). taken (row_at w run i)) (zero-add k)

  pub whole_out : length run / w ≤ k → get_or (whole w taken run) k none ≡ none
  whole_out h = get_or-eq_default (whole w taken run) none (omega (arith, length-counted (λ i. taken (row_at w run i)) (length run / w) 0))

-- row k of a run that has it behind k rows
pub row-behind : (w : ℕ) (p xs more : List ℕ) (k : ℕ) → length p ≡ w * k → length xs ≡ w → row_at w (p ++ (xs ++ more)) k ≡ xs
row-behind w p xs more k l h = ap (take w) (drop_at p (xs ++ more) (w * k) l) ∙ take_at xs more w h

-- ---- rows stored one after the other, taken back: `view` is what is stored of an element

module _ {A B : Type 0} (w : ℕ) (row : A → List ℕ) (taken : List ℕ → B) (view : A → B) (Fit : A → Type 0)
    (some : 0 < w) (wide : (a : A) → Fit a → length (row a) ≡ w) (back : (a : A) → Fit a → taken (row a) ≡ view a) where
  pub whole_back : (es : List A) → All (λ j. Fit) 0 es → whole w taken (joined row es) ≡ map view es
  whole_back es h =
      let at : List ℕ → ℕ → B = λ run k. taken (row_at w run k) in
      let one : (p : List ℕ) (k : ℕ) (a : A) (more : List ℕ) → length p ≡ w * k → Fit a → taken (row_at w (p ++ (row a ++ more)) k) ≡ view a =
      λ p k a more l f. ap taken (row-behind w p (row a) more k l (wide a f)) ∙ back a f in
      let n : length (joined row es) / w ≡ length es =
      ap (λ (x : ℕ). x / w) (length-rows w row at view Fit wide one es h) ∙ mul-div_cancel_left (length es) some in
      ap (λ (x : ℕ). rows w taken (joined row es) x 0) n ∙ rows_back w row at view Fit wide one es h
