-- A file that ends inside the bytes of a grammar is refused by 2 at the first field that is not whole: each combinator. Assumes nothing.
use Prim.Native.Nat.{ℕ, zero, suc, ◌+◌, ◌*◌, ◌-◌, ◌^◌, ◌≤◌, ◌<◌}
use mathlib.Core.Path.{◌≡◌, refl, sym, ap, ap₂, ◌∙◌, subst}
use mathlib.Core.List.{List, [], ◌∷◌, ◌++◌}
use mathlib.Core.Bool.{Bool}
use lib.Dec.{ltb, eqb}
use lib.ListN.{length, take, length-append}
use lib.Seq.{length-take-le, take-append-le, take-append-add}
use borrow.Author.Tests.{le-leb, lt-leb, lt-ltb, eq-eqb}
use native.Mathlib.Omega.{arith}
use native.Mathlib.Nat.{add-zero, zero-add, sub-zero, lt_of_not-le}
use native.Mathlib.Decide.{dec_le}
use Rattle.algebra.specs.Numbers.{be, joined, At, Bytes, All, AllIn}
use Rattle.algebra.specs.Reader.{Res, ok, refuse, Reader, then, field, body, Judged, fine, unless, judged, ◌>>=◌, each, chain}
use Rattle.algebra.specs.Text.{name, name_bytes, Named}
use Rattle.algebra.specs.Algebra.{Exact}
use Rattle.algebra.proofs.Laws.{field_in, field-short, body-short, judged-short, judged-ok}
use Rattle.algebra.proofs.Places.{length-be, length-bes, at_in, at_left, at_right, at-whole, num-be}
use Rattle.algebra.proofs.Exact.{length-nameBytes, judged-exact}
use Rattle.algebra.specs.Cut.{total, not_whole, Stub, Cuts, Spans, name_widths}

-- ---- the first field that is not whole

pub total-append : (xs ys : List ℕ) → total (xs ++ ys) ≡ total xs + total ys
unfolding total
total-append [] ys = sym (zero-add (total ys))
total-append (w ∷ xs) ys = omega (arith, total-append xs ys)

pub whole_here : (w : ℕ) (ws : List ℕ) (at c : ℕ) → c < at + w → not_whole (w ∷ ws) at c ≡ at
unfolding not_whole
whole_here w ws at c h = simp (lt-leb _ _ h)

pub whole-next : (w : ℕ) (ws : List ℕ) (at c : ℕ) → at + w ≤ c → not_whole (w ∷ ws) at c ≡ not_whole ws (at + w) c
unfolding not_whole
whole-next w ws at c h = simp (le-leb _ _ h)

-- among the first fields, or behind them
pub whole-left : (xs ys : List ℕ) (at c : ℕ) → at ≤ c → c < at + total xs → not_whole (xs ++ ys) at c ≡ not_whole xs at c
unfolding total
whole-left [] ys at c l h = absurd (omega arith)
whole-left (w ∷ xs) ys at c l h = elim (dec_le (at + w) c) [
  | yes k ↦ whole-next w (xs ++ ys) at c k ∙ whole-left xs ys (at + w) c k (omega arith) ∙ sym (whole-next w xs at c k)
  | no k ↦ whole_here w (xs ++ ys) at c (lt_of_not-le k) ∙ sym (whole_here w xs at c (lt_of_not-le k))
]

pub whole-right : (xs ys : List ℕ) (at c : ℕ) → at + total xs ≤ c → not_whole (xs ++ ys) at c ≡ not_whole ys (at + total xs) c
unfolding total
whole-right [] ys at c h = ap (λ (k : ℕ). not_whole ys k c) (sym (add-zero at))
whole-right (w ∷ xs) ys at c h =
    let e : at + w + total xs ≡ at + (w + total xs) = omega arith in
    whole-next w (xs ++ ys) at c (omega arith) ∙ whole-right xs ys (at + w) c (omega arith) ∙ ap (λ (k : ℕ). not_whole ys k c) e

-- ---- a file that ends inside some bytes

-- a file of the bytes b, cut
pub stub-take : (b : List ℕ) (c : ℕ) → c < length b → Stub (take c b) 0 b
stub-take b c h =
    let l : length (take c b) ≡ c = length-take-le c b (omega arith) in
    let e : take c b ≡ take (length (take c b) - 0) b = ap (λ (k : ℕ). take k b) (sym l ∙ sym (sub-zero (length (take c b)))) in record {
      inside = omega arith;
      short = omega arith;
      begun = subst (λ (x : List ℕ). At (take c b) 0 x) e (at-whole (take c b));
    }

pub bytes_take : (c : ℕ) (b : List ℕ) → Bytes b → Bytes (take c b)
bytes_take zero b h k = omega arith
bytes_take (suc c) [] h k = h k
bytes_take (suc c) (x ∷ b) h zero = h 0
bytes_take (suc c) (x ∷ b) h (suc k) = bytes_take c b (λ i. h (suc i)) k

-- it ends inside the first of two, or has the first and ends inside the second
pub data Split (s : List ℕ) (at : ℕ) (x y : List ℕ) : Type 0 where
  first : Stub s at x → Split s at x y
  second : At s at x → Stub s (at + length x) y → Split s at x y

pub stub-split : (s : List ℕ) (at : ℕ) (x y : List ℕ) → Stub s at (x ++ y) → Split s at x y
stub-split s at x y h = elim (dec_le (at + length x) (length s)) [
  | yes k ↦
      let n : ℕ = length s - (at + length x) in
      let e : length s - at ≡ length x + n = omega (arith, h.inside) in
      let g : At s at (x ++ take n y) = subst (λ (l : List ℕ). At s at l) (ap (λ (m : ℕ). take m (x ++ y)) e ∙ take-append-add x y n) h.begun in
      second (at_left s at x (take n y) g) (record { inside = k; short = omega (arith, h.short, length-append x y); begun = at_right s at x (take n y) g })
  | no k ↦
      let m : length s < at + length x = lt_of_not-le k in
      first (record { inside = h.inside; short = m; begun = subst (λ (l : List ℕ). At s at l) (take-append-le (length s - at) x y (omega arith)) h.begun })
]

-- ---- a number's field is its bytes

pub number-spans : (w : ℕ) {Ok : ℕ → Type 0} → Spans Ok (be w) (λ v. w ∷ [])
unfolding total
number-spans w = record { span = λ v fit. omega (arith, length-be w v) }

-- ---- the allowed values, the bytes and the widths by other names

pub same-cuts : {A B : Type 0} {s : List ℕ} {p : Reader A} {Ok : B → Type 0} {ser w : B → List ℕ} → Cuts s p Ok ser w
    → (Ok' : B → Type 0) (ser' w' : B → List ℕ) → ((b : B) → Ok' b → Ok b) → ((b : B) → Ok' b → ser b ≡ ser' b) → ((b : B) → Ok' b → w b ≡ w' b) → Cuts s p Ok' ser' w'
same-cuts {A} {B} {s} x Ok' ser' w' from same wide = record {
  cut = λ at b fit h.
      x.cut at b (from b fit) (subst (λ (l : List ℕ). Stub s at l) (sym (same b fit)) h) ∙ ap (λ (l : List ℕ). refuse 2 (not_whole l at (length s)) 0 0) (wide b fit);
}

-- values of another kind, each with one of these
pub of-cuts : {A B D : Type 0} {s : List ℕ} {p : Reader A} {Ok : B → Type 0} {ser w : B → List ℕ} (part : D → B) → Cuts s p Ok ser w → Cuts s p (λ d. Ok (part d)) (λ d. ser (part d)) (λ d. w (part d))
of-cuts part x = record { cut = λ at d fit h. x.cut at (part d) fit h }

-- ---- fields

module _ (s : List ℕ) (w : ℕ) where
  pub judged-cuts : {Ok : ℕ → Type 0} (j : ℕ → Judged) → Cuts s (judged w j) Ok (be w) (λ v. w ∷ [])
  judged-cuts j = record {
    cut = λ at v fit h.
        let l : length s < at + w = omega (arith, h.short, length-be w v) in
        judged-short w s at j (sym (field-short w s at (omega (arith, h.inside)))) ∙ ap (λ (k : ℕ). refuse 2 k 0 0) (sym (whole_here w [] at (length s) l));
  }

  pub field-cuts : {Ok : ℕ → Type 0} → Cuts s (field w) Ok (be w) (λ v. w ∷ [])
  field-cuts = record {
    cut = λ at v fit h.
        let l : length s < at + w = omega (arith, h.short, length-be w v) in
        field-short w s at (omega (arith, h.inside)) ∙ ap (λ (k : ℕ). refuse 2 k 0 0) (sym (whole_here w [] at (length s) l));
  }

  -- n numbers of w bytes are one field
  pub body-cuts : (n : ℕ) → Cuts s (body w n) (λ vs. length vs ≡ n) (joined (be w)) (λ vs. n * w ∷ [])
  body-cuts n = record {
    cut = λ at vs fit h.
        let e : length (joined (be w) vs) ≡ n * w = length-bes w vs ∙ ap (λ (k : ℕ). k * w) fit in
        let l : length s < at + n * w = omega (arith, h.short) in
        body-short w s at n (omega (arith, h.inside)) ∙ ap (λ (k : ℕ). refuse 2 k 0 0) (sym (whole_here (n * w) [] at (length s) l));
  }

-- a field that stands in the file
pub field-reads : (s : List ℕ) (w at v : ℕ) → v < 256 ^ w → At s at (be w v) → field w s at ≡ ok v (at + length (be w v))
field-reads s w at v small h =
    let l : at + w ≡ at + length (be w v) = omega (arith, length-be w v) in
    field_in w s at (omega (arith, at_in s at (be w v) h, length-be w v)) ∙ ap₂ (λ (x y : ℕ). ok x y) (num-be s w at v small h) l

-- one that is judged
pub judged-reads : (s : List ℕ) → Bytes s → (w : ℕ) (j : ℕ → Judged) (at v : ℕ) → v < 256 ^ w → j v ≡ fine → At s at (be w v) → judged w j s at ≡ ok v (at + length (be w v))
judged-reads s bytes w j at v small good h =
    let r = (judged-exact s bytes w j).reads at v (small, good) h in
    r.1 ∙ ap (λ (k : ℕ). ok k (at + length (be w v))) r.2

-- a name
module _ (s : List ℕ) (w : ℕ) where
  name_cut : (at : ℕ) (us : List ℕ) → length us + 1 < 256 ^ w → Stub s at (name_bytes w us) → name w s at ≡ refuse 2 (not_whole (name_widths w us) at (length s)) 0 0
  unfolding name name_bytes
  name_cut at us small h = go (stub-split s at (be w (length us + 1)) (joined (be 2) us ++ be 2 0) h)
    where
      n : ℕ
      n = length us + 1

      go : Split s at (be w n) (joined (be 2) us ++ be 2 0) → name w s at ≡ refuse 2 (not_whole (w ∷ 2 * n ∷ []) at (length s)) 0 0
      go (first x) =
          let l : length s < at + w = omega (arith, x.short, length-be w n) in
          let e : judged w (λ n. unless (ltb 0 n) 8) s at ≡ refuse 2 at 0 0 = judged-short w s at (λ n. unless (ltb 0 n) 8) (sym (field-short w s at (omega (arith, x.inside)))) in
          rw e (ap (λ (k : ℕ). refuse 2 k 0 0) (sym (whole_here w (2 * n ∷ []) at (length s) l)))
      go (second x y) =
          let lw : length (be w n) ≡ w = length-be w n in
          let l : at + w ≤ length s = omega (arith, y.inside) in
          let m : length s < at + w + 2 * n = omega (arith, y.short, length-append (joined (be 2) us) (be 2 0), length-bes 2 us, length-be 2 0) in
          let e : judged w (λ n. unless (ltb 0 n) 8) s at ≡ ok n (at + w) =
          judged-ok w s at (λ n. unless (ltb 0 n) 8) (sym (field_in w s at (omega arith) ∙ ap (λ (k : ℕ). ok k (at + w)) (num-be s w at n small x))) (ap (λ (b : Bool). unless b 8) (lt-ltb 0 n (omega arith))) in
          let f : body 2 n s (at + w) ≡ refuse 2 (at + w) 0 0 = body-short 2 s (at + w) n (omega arith) in
          rw e (rw f (ap (λ (k : ℕ). refuse 2 k 0 0) (sym (whole-next w (2 * n ∷ []) at (length s) l ∙ whole_here (2 * n) [] (at + w) (length s) m))))

  pub name-cuts : Cuts s (name w) (Named w) (name_bytes w) (name_widths w)
  name-cuts = record { cut = λ at us fit h. name_cut at us fit.counted h }

-- ---- sequence

-- no file ends inside no bytes
pub none-cuts : {A B : Type 0} (s : List ℕ) (p : Reader A) (Ok : B → Type 0) → Cuts s p Ok (λ b. []) (λ b. [])
none-cuts s p Ok = record { cut = λ at b fit h. absurd (omega (arith, h.inside, h.short)) }

-- two parts: the file ends inside the bytes x of the one, or has them and ends inside the bytes y of the other
pub join-cut : {A : Type 0} (s : List ℕ) (at : ℕ) (m : Res A) (x y v w : List ℕ) → total v ≡ length x
    → (Stub s at x → m ≡ refuse 2 (not_whole v at (length s)) 0 0)
    → (At s at x → Stub s (at + length x) y → m ≡ refuse 2 (not_whole w (at + length x) (length s)) 0 0)
    → Stub s at (x ++ y) → m ≡ refuse 2 (not_whole (v ++ w) at (length s)) 0 0
join-cut s at m x y v w e one two h = go (stub-split s at x y h)
  where
    go : Split s at x y → m ≡ refuse 2 (not_whole (v ++ w) at (length s)) 0 0
    go (first f) =
        let l : length s < at + total v = omega (arith, f.short) in
        one f ∙ ap (λ (n : ℕ). refuse 2 n 0 0) (sym (whole-left v w at (length s) f.inside l))
    go (second f g) =
        let z : at + length x ≡ at + total v = ap (λ (n : ℕ). at + n) (sym e) in
        let l : at + total v ≤ length s = omega (arith, g.inside) in
        two f g ∙ ap (λ (n : ℕ). refuse 2 (not_whole w n (length s)) 0 0) z ∙ ap (λ (n : ℕ). refuse 2 n 0 0) (sym (whole-right v w at (length s) l))

-- the same of a step, and then another
pub step_cut : {A B : Type 0} (s : List ℕ) (at : ℕ) (m : Res A) (k : A → ℕ → Res B) (x y v w : List ℕ) → total v ≡ length x
    → (Stub s at x → m ≡ refuse 2 (not_whole v at (length s)) 0 0)
    → (At s at x → Stub s (at + length x) y → then m k ≡ refuse 2 (not_whole w (at + length x) (length s)) 0 0)
    → Stub s at (x ++ y) → then m k ≡ refuse 2 (not_whole (v ++ w) at (length s)) 0 0
step_cut s at m k x y v w e one two h = join-cut s at (then m k) x y v w e (λ f. ap (λ (r : Res _). then r k) (one f)) two h

-- the same of a field that is n, and then of more
module _ {A : Type 0} (s : List ℕ) (bytes : Bytes s) (w : ℕ) (k : ℕ → ℕ → Res A) (at n : ℕ) (y v : List ℕ) (small : n < 256 ^ w)
    (more : Stub s (at + length (be w n)) y → k n (at + length (be w n)) ≡ refuse 2 (not_whole v (at + length (be w n)) (length s)) 0 0) where
  pub field-then-cut : Stub s at (be w n ++ y) → then (field w s at) k ≡ refuse 2 (not_whole (w ∷ v) at (length s)) 0 0
  field-then-cut h =
      step_cut s at (field w s at) k (be w n) y (w ∷ []) v ((number-spans w {Ok = λ v. Unit}).span n tt) ((field-cuts s w {Ok = λ v. Unit}).cut at n tt) (λ f g. rw (field-reads s w at n small f) (more g)) h

  pub judged-then-cut : (j : ℕ → Judged) → j n ≡ fine → Stub s at (be w n ++ y) → then (judged w j s at) k ≡ refuse 2 (not_whole (w ∷ v) at (length s)) 0 0
  judged-then-cut j good h =
      step_cut s at (judged w j s at) k (be w n) y (w ∷ []) v ((number-spans w {Ok = λ v. Unit}).span n tt) ((judged-cuts s w {Ok = λ v. Unit} j).cut at n tt) (λ f g. rw (judged-reads s bytes w j at n small good f) (more g)) h

-- a step, then what depends on its value: `part` is the step's value in the whole
module _ {A B C D : Type 0} {s : List ℕ} {m : Reader A} {k : A → Reader C} {view : A → B} {OkA : B → Type 0} {serA wA : B → List ℕ}
    {OkD : D → Type 0} {rest wD : D → List ℕ} (part : D → B) (one : Exact s m view OkA serA) (cutA : Cuts s m OkA serA wA) (size : Spans OkA serA wA)
    (two : (a : A) → Cuts s (k a) (λ d. OkD d × (part d ≡ view a)) rest wD) where
  pub bind-cuts : Cuts s (m >>= k) (λ d. OkA (part d) × OkD d) (λ d. serA (part d) ++ rest d) (λ d. wA (part d) ++ wD d)
  bind-cuts = record {
    cut = λ at d fit h.
        step_cut s at (m s at) (λ a n. k a s n) (serA (part d)) (rest d) (wA (part d)) (wD d) (size.span (part d) fit.0) (cutA.cut at (part d) fit.0)
        (λ x y. let r = one.reads at (part d) fit.0 x in rw r.1 ((two r.0).cut (at + length (serA (part d))) d (fit.1, sym r.2) y)) h;
  }

-- a field that is v, else 3, and then more
pub mark-cuts : {A B : Type 0} (s : List ℕ) → Bytes s → {m : Reader A} {Ok : B → Type 0} {rest more : B → List ℕ} (w v : ℕ) → v < 256 ^ w → Cuts s m Ok rest more
    → Cuts s (judged w (λ x. unless (eqb x v) 3) >>= (λ x. m)) Ok (λ b. be w v ++ rest b) (λ b. w ∷ more b)
mark-cuts s bytes w v small x = record {
  cut = λ at b fit h. judged-then-cut s bytes w _ at v _ _ small (x.cut (at + length (be w v)) b fit) (λ x. unless (eqb x v) 3) (ap (λ (b : Bool). unless b 3) (eq-eqb v v refl)) h;
}

-- ---- counted repetition

module _ {A B : Type 0} {s : List ℕ} {p : ℕ → Reader A} {view : A → B} {Ok : ℕ → B → Type 0} {ser w : B → List ℕ}
    (item : (i : ℕ) → Exact s (p i) view (Ok i) ser) (cutA : (i : ℕ) → Cuts s (p i) (Ok i) ser w) (size : (i : ℕ) → Spans (Ok i) ser w) where
  each-cut : (n i at : ℕ) (bs : List B) → (length bs ≡ n) × All Ok i bs → Stub s at (joined ser bs) → each n i p s at ≡ refuse 2 (not_whole (joined w bs) at (length s)) 0 0
  unfolding each joined
  each-cut n i at [] fit h = absurd (omega (arith, h.inside, h.short))
  each-cut zero i at (b ∷ bs) fit h = absurd (omega (arith, fit.0))
  each-cut (suc n) i at (b ∷ bs) fit h =
      step_cut s at (p i s at) _ (ser b) (joined ser bs) (w b) (joined w bs) ((size i).span b fit.1.0) ((cutA i).cut at b fit.1.0)
      (λ x y. let r = (item i).reads at b fit.1.0 x in rw r.1 (rw (each-cut n (i + 1) (at + length (ser b)) bs (omega (arith, fit.0), fit.1.1) y))) h

  pub each_cuts : (n i : ℕ) → Cuts s (each n i p) (λ bs. (length bs ≡ n) × All Ok i bs) (joined ser) (joined w)
  each_cuts n i = record { cut = each-cut n i }

-- the same, where an item depends on the state that those before it left
module _ {A B S : Type 0} (next : S → A → S) (next' : S → B → S) (view : A → B) (tie : (d : S) (a : A) → next d a ≡ next' d (view a))
    {s : List ℕ} {p : S → Reader A} {Ok : S → B → Type 0} {ser w : B → List ℕ}
    (item : (d : S) → Exact s (p d) view (Ok d) ser) (cutA : (d : S) → Cuts s (p d) (Ok d) ser w) (size : (d : S) → Spans (Ok d) ser w) where
  chain-cut : (n : ℕ) (d : S) (at : ℕ) (bs : List B) → (length bs ≡ n) × AllIn next' Ok d bs → Stub s at (joined ser bs) → chain next p n d s at ≡ refuse 2 (not_whole (joined w bs) at (length s)) 0 0
  unfolding chain joined
  chain-cut n d at [] fit h = absurd (omega (arith, h.inside, h.short))
  chain-cut zero d at (b ∷ bs) fit h = absurd (omega (arith, fit.0))
  chain-cut (suc n) d at (b ∷ bs) fit h =
      step_cut s at (p d s at) _ (ser b) (joined ser bs) (w b) (joined w bs) ((size d).span b fit.1.0) ((cutA d).cut at b fit.1.0)
      (λ x y.
      let r = (item d).reads at b fit.1.0 x in
      let st : next' d b ≡ next d r.0 = sym (tie d r.0 ∙ ap (next' d) r.2) in
      rw r.1 (rw (chain-cut n (next d r.0) (at + length (ser b)) bs (omega (arith, fit.0), subst (λ (e : S). AllIn next' Ok e bs) st fit.1.1) y))) h

  pub chain-cuts : (n : ℕ) (d : S) → Cuts s (chain next p n d) (λ bs. (length bs ≡ n) × AllIn next' Ok d bs) (joined ser) (joined w)
  chain-cuts n d = record { cut = chain-cut n d }

-- ---- the fields are the bytes

pub name-spans : (w : ℕ) → Spans (Named w) (name_bytes w) (name_widths w)
unfolding total
name-spans w = record { span = λ us fit. omega (arith, length-nameBytes w us) }

pub seq-spans : (x y v w : List ℕ) → total v ≡ length x → total w ≡ length y → total (v ++ w) ≡ length (x ++ y)
seq-spans x y v w e f = omega (arith, total-append v w, length-append x y)

joined-spans : {B : Type 0} {Ok : ℕ → B → Type 0} {ser w : B → List ℕ} → ((i : ℕ) → Spans (Ok i) ser w) → (i : ℕ) (bs : List B) → All Ok i bs → total (joined w bs) ≡ length (joined ser bs)
unfolding total joined
joined-spans size i [] h = refl
joined-spans {B} {Ok} {ser} {w} size i (b ∷ bs) h = seq-spans (ser b) (joined ser bs) (w b) (joined w bs) ((size i).span b h.0) (joined-spans size (i + 1) bs h.1)

pub each-spans : {B : Type 0} {Ok : ℕ → B → Type 0} {ser w : B → List ℕ} → ((i : ℕ) → Spans (Ok i) ser w) → (n i : ℕ) → Spans (λ bs. (length bs ≡ n) × All Ok i bs) (joined ser) (joined w)
each-spans size n i = record { span = λ bs fit. joined-spans size i bs fit.1 }
