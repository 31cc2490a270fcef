-- Of bytes that were written, a reader's number is the value's own fault: each combinator. Assumes nothing.
use Prim.Native.Nat.{ℕ, zero, suc, ◌+◌, ◌^◌, ◌<◌}
use mathlib.Core.Path.{◌≡◌, refl, sym, ap, ap₂, ◌∙◌, subst}
use mathlib.Core.List.{List, [], ◌∷◌, ◌++◌, map}
use mathlib.Core.Bool.{Bool, true, false, not}
use lib.Dec.{eqb}
use lib.ListN.{length, length-append}
use borrow.Author.Tests.{eq-eqb, ne_eqb}
use native.Mathlib.Omega.{arith}
use native.Mathlib.Nat.{add-zero}
use Rattle.algebra.specs.Numbers.{be, joined, At, All}
use Rattle.algebra.specs.Reader.{Res, Reader, ok, refuse, then, pick, rule, Judged, fine, fault, unless, judged, give, ◌>>=◌, each, number_of}
use Rattle.algebra.specs.Text.{Name, name, closed, any_zero, is_empty, name_bytes}
use Rattle.algebra.specs.Faults.{first_of, faults, faults_from, found}
use Rattle.algebra.specs.Algebra.{Exact, Tells}
use Rattle.algebra.proofs.Laws.{field_in}
use Rattle.algebra.proofs.Places.{length-be, at_in, at_left, at_right, num-be}
use Rattle.algebra.proofs.Inverse.{clash, ok-value, ok-place, judged-inv, rule-inv, each_none, each-inv}
use Rattle.algebra.proofs.Exact.{name-passes}

-- ---- the first of two faults

pub first-none : (a b : ℕ) → a ≡ 0 → first_of a b ≡ b
first-none a b e = rw (eq-eqb a 0 e)

pub first_some : (a b : ℕ) → 0 < a → first_of a b ≡ a
first_some a b h = rw (ne_eqb a 0 (λ z. omega arith))

pub first-zero : (a : ℕ) → first_of a 0 ≡ a
first-zero zero = refl
first-zero (suc a) = first_some (suc a) 0 (omega arith)

-- there is none where neither has one, or no value of a list
pub first-inv : (a b : ℕ) → first_of a b ≡ 0 → (a ≡ 0) × (b ≡ 0)
first-inv zero b e = (refl, e)
first-inv (suc a) b e = absurd (omega (arith, first_some (suc a) b (omega arith)))

pub pick-none : (b : Bool) (n : ℕ) → 0 < n → pick b 0 n ≡ 0 → b ≡ true
pick-none true n h e = refl
pick-none false n h e = absurd (omega arith)

pub pick_some : (b : Bool) (n : ℕ) → 0 < n → pick b n 0 ≡ 0 → b ≡ false
pick_some true n h e = absurd (omega arith)
pick_some false n h e = refl

pub faults-inv : {A : Type 0} (f : ℕ → A → ℕ) (i : ℕ) (l : List A) → faults_from f i l ≡ 0 → All (λ k a. f k a ≡ 0) i l
unfolding faults_from
faults-inv f i [] e = tt
faults-inv f i (a ∷ l) e = let x = first-inv (f i a) (faults_from f (i + 1) l) e in (x.0, faults-inv f (i + 1) l x.1)

pub faults-none : {A : Type 0} (f : ℕ → A → ℕ) (i : ℕ) (l : List A) → All (λ k a. f k a ≡ 0) i l → faults_from f i l ≡ 0
unfolding faults_from
faults-none f i [] h = refl
faults-none f i (a ∷ l) h = first-none (f i a) (faults_from f (i + 1) l) h.0 ∙ faults-none f (i + 1) l h.1

pub faults-map : {A B : Type 0} (f : B → ℕ) (g : A → B) (l : List A) → faults f (map g l) ≡ faults (λ a. f (g a)) l
unfolding faults
faults-map f g [] = refl
faults-map f g (a ∷ l) = ap (λ (x : ℕ). first_of (f (g a)) x) (faults-map f g l)

-- a list's first fault, with and without numbers
pub faults-from : {A : Type 0} (f : A → ℕ) (i : ℕ) (l : List A) → faults_from (λ k. f) i l ≡ faults f l
unfolding faults faults_from
faults-from f i [] = refl
faults-from f i (a ∷ l) = ap (λ (x : ℕ). first_of (f a) x) (faults-from f (i + 1) l)

-- ---- an answer by a fault's number: it ends at `end`, or is refused by that number

pub data Outcome {A : Type 0} (m : Res A) (f end : ℕ) : Type 0 where
  good : (a : A) → m ≡ ok a end → f ≡ 0 → Outcome m f end
  bad : (p r g : ℕ) → m ≡ refuse f p r g → 0 < f → Outcome m f end

pub outcome-number : {A : Type 0} (m : Res A) (f end : ℕ) → Outcome m f end → number_of m ≡ f
outcome-number m f end (good a e z) = ap number_of e ∙ sym z
outcome-number m f end (bad p r g e h) = ap number_of e

outcome-ends : {A : Type 0} (m : Res A) (f end : ℕ) → Outcome m f end → f ≡ 0 → (a : A) × (m ≡ ok a end)
outcome-ends m f end (good a e z) y = (a, e)
outcome-ends m f end (bad p r g e h) y = absurd (omega arith)

pub outcome-fault : {A : Type 0} (m : Res A) (f g end : ℕ) → f ≡ g → Outcome m f end → Outcome m g end
outcome-fault m f g end e o = subst (λ (x : ℕ). Outcome m x end) e o

pub outcome-then : {A B : Type 0} (m : Res A) (k : A → ℕ → Res B) (f g mid end : ℕ) → Outcome m f mid → ((a : A) → m ≡ ok a mid → Outcome (k a mid) g end) → Outcome (then m k) (first_of f g) end
outcome-then m k f g mid end (good a e z) h =
    rw e (subst (λ (x : ℕ). Outcome (k a mid) x end) (sym (first-none f g z)) (h a e))
outcome-then m k f g mid end (bad p r x e l) h =
    let z : first_of f g ≡ f = first_some f g l in
    subst (λ (y : ℕ). Outcome (then m k) y end) (sym z) (bad p r x (ap (λ (y : Res _). then y k) e) l)

-- a judgement, where its number is 0 only if it is fine
pub outcome-rule : {A : Type 0} (j : Judged) (at : ℕ) (a : A) (end : ℕ) → (found j ≡ 0 → j ≡ fine) → Outcome (rule j at (ok a end)) (found j) end
outcome-rule fine at a end h = good a refl refl
outcome-rule (fault zero r f) at a end h = let z : fault zero r f ≡ fine = h refl in let y : ◌≡◌ {A = ℕ} 0 1 = cc in absurd (omega arith)
outcome-rule (fault (suc n) r f) at a end h = bad at r f refl (omega arith)

pub unless-found : (b : Bool) (n : ℕ) → found (unless b n) ≡ pick b 0 n
unless-found true n = refl
unless-found false n = refl

pub unless-sure : (b : Bool) (n : ℕ) → 0 < n → found (unless b n) ≡ 0 → unless b n ≡ fine
unless-sure true n h e = refl
unless-sure false n h e = absurd (omega arith)

-- ---- a reader that tells, by its outcome

outcome-by : {A : Type 0} (m : Res A) (x end : ℕ) → number_of m ≡ x → (x ≡ 0 → (a : A) × (m ≡ ok a end)) → Outcome m x end
outcome-by (ok a q) x end n e = let y = e (sym n) in good y.0 y.1 (sym n)
outcome-by (refuse zero q r g) x end n e = clash (e (sym n)).1
outcome-by (refuse (suc y) q r g) x end n e = bad q r g (ap (λ (z : ℕ). refuse z q r g) n) (omega arith)

module _ {A B : Type 0} {s : List ℕ} {p : Reader A} {Fits : B → Type 0} {ser : B → List ℕ} {f : B → ℕ} where
  pub tells : ((at : ℕ) (b : B) → Fits b → At s at (ser b) → Outcome (p s at) (f b) (at + length (ser b))) → Tells s p Fits ser f
  tells o = record {
    number = λ at b fit h. outcome-number (p s at) (f b) (at + length (ser b)) (o at b fit h);
    ends = λ at b fit h z. outcome-ends (p s at) (f b) (at + length (ser b)) (o at b fit h) z;
  }

  pub outcome : Tells s p Fits ser f → (at : ℕ) (b : B) → Fits b → At s at (ser b) → Outcome (p s at) (f b) (at + length (ser b))
  outcome t at b fit h = outcome-by (p s at) (f b) (at + length (ser b)) (t.number at b fit h) (t.ends at b fit h)

  -- the same with the fitting values, the bytes and the fault by other names
  pub same-tells : Tells s p Fits ser f → (Fits' : B → Type 0) (ser' : B → List ℕ) (f' : B → ℕ) → ((b : B) → Fits' b → Fits b) → ((b : B) → Fits' b → ser b ≡ ser' b) → ((b : B) → Fits' b → f b ≡ f' b) → Tells s p Fits' ser' f'
  same-tells t Fits' ser' f' fits bytes same = record {
    number = λ at b fit h. t.number at b (fits b fit) (subst (λ (l : List ℕ). At s at l) (sym (bytes b fit)) h) ∙ same b fit;
    ends = λ at b fit h z. subst (λ (l : List ℕ). (a : A) × (p s at ≡ ok a (at + length l))) (bytes b fit) (t.ends at b (fits b fit) (subst (λ (l : List ℕ). At s at l) (sym (bytes b fit)) h) (same b fit ∙ z));
  }

-- where the bytes of a value stand, what is read is the value, and the reader ends behind them
pub record Gives {A B : Type 0} (s : List ℕ) (p : Reader A) (view : A → B) (Fits : B → Type 0) (ser : B → List ℕ) : Type 0 where
  pub gives : (at : ℕ) (b : B) → Fits b → At s at (ser b) → (a : A) (q : ℕ) → p s at ≡ ok a q → (view a ≡ b) × (at + length (ser b) ≡ q)

-- a reader that is exact has no fault to tell
module _ {A B : Type 0} {s : List ℕ} {p : Reader A} {view : A → B} {Ok : B → Type 0} {ser : B → List ℕ} (x : Exact s p view Ok ser) where
  pub exact-tells : Tells s p Ok ser (λ b. 0)
  exact-tells = record {
    number = λ at b fit h. ap number_of (x.reads at b fit h).1;
    ends = λ at b fit h z. let r = x.reads at b fit h in (r.0, r.1);
  }

  pub exact-gives : Gives s p view Ok ser
  exact-gives = record {
    gives = λ at b fit h a q e.
        let r = x.reads at b fit h in
        let same = sym r.1 ∙ e in
        (ap view (sym (ok-value same)) ∙ r.2, ok-place same);
  }

-- ---- fields

module _ (s : List ℕ) (w : ℕ) (j : ℕ → Judged) where
  pub judged-tells : ((v : ℕ) → found (j v) ≡ 0 → j v ≡ fine) → Tells s (judged w j) (λ v. v < 256 ^ w) (be w) (λ v. found (j v))
  judged-tells sure = tells (λ at v fit h.
      let l : length (be w v) ≡ w = length-be w v in
      let e : at + w ≡ at + length (be w v) = omega arith in
      rw (field_in w s at (omega (arith, at_in s at (be w v) h))) (rw (num-be s w at v fit h) (rw e (outcome-rule (j v) at v (at + length (be w v)) (sure v)))))

  pub judged-gives : Gives s (judged w j) (λ v. v) (λ v. v < 256 ^ w) (be w)
  judged-gives = record {
    gives = λ at v fit h a q e.
        let i = judged-inv w s at j e in
        (sym i.1 ∙ num-be s w at v fit h, ap (λ (k : ℕ). at + k) (length-be w v) ∙ i.2);
  }

-- a test of a field
pub unless-tells : (s : List ℕ) (w : ℕ) (test : ℕ → Bool) (n : ℕ) → 0 < n → Tells s (judged w (λ v. unless (test v) n)) (λ v. v < 256 ^ w) (be w) (λ v. pick (test v) 0 n)
unless-tells s w test n h =
    same-tells (judged-tells s w (λ v. unless (test v) n) (λ v. unless-sure (test v) n h)) (λ v. v < 256 ^ w) (be w) (λ v. pick (test v) 0 n) (λ v g. g) (λ v g. refl) (λ v g. unless-found (test v) n)

-- ---- sequence

pub give-tells : {C D : Type 0} (s : List ℕ) (c : C) → Tells s (give c) (λ (d : D). Unit {0}) (λ d. []) (λ d. 0)
give-tells s c = tells (λ at d fit h. good c (ap (λ (k : ℕ). ok c k) (sym (add-zero at))) refl)

module _ {A B C D : Type 0} {s : List ℕ} {m : Reader A} {k : A → Reader C} {view : A → B} {FitsA : B → Type 0} {serA : B → List ℕ} {f : B → ℕ}
    {FitsD : D → Type 0} {rest : D → List ℕ} {g : D → ℕ} (part : D → B) where
  -- a step, then what depends on its value: `part` is the step's value in the whole
  pub bind-tells : Tells s m FitsA serA f → Gives s m view FitsA serA → ((a : A) → Tells s (k a) (λ d. FitsD d × (part d ≡ view a)) rest g)
      → Tells s (m >>= k) (λ d. FitsA (part d) × FitsD d) (λ d. serA (part d) ++ rest d) (λ d. first_of (f (part d)) (g d))
  bind-tells one gives two = tells (λ at d fit h.
      let x : List ℕ = serA (part d) in
      let hx = at_left s at x (rest d) h in
      let mid : ℕ = at + length x in
      let l : mid + length (rest d) ≡ at + length (x ++ rest d) = omega (arith, length-append x (rest d)) in
      outcome-then (m s at) (λ a n. k a s n) (f (part d)) (g d) mid (at + length (x ++ rest d)) (outcome one at (part d) fit.0 hx) (λ a e.
      subst (λ (z : ℕ). Outcome (k a s mid) (g d) z) l (outcome (two a) mid d (fit.1, sym (gives.gives at (part d) fit.0 hx a mid e).0) (at_right s at x (rest d) h))))

-- ---- counted repetition

module _ {A B : Type 0} {s : List ℕ} {p : ℕ → Reader A} {Fits : ℕ → B → Type 0} {ser : B → List ℕ} where
  module _ {f : ℕ → B → ℕ} (item : (i : ℕ) → Tells s (p i) (Fits i) ser (f i)) where
    each-outcome : (n i at : ℕ) (bs : List B) → (length bs ≡ n) × All Fits i bs → At s at (joined ser bs) → Outcome (each n i p s at) (faults_from f i bs) (at + length (joined ser bs))
    unfolding each joined faults_from
    each-outcome zero i at [] fit h = good [] (ap (λ (k : ℕ). ok [] k) (sym (add-zero at))) refl
    each-outcome zero i at (b ∷ bs) fit h = absurd (omega (arith, fit.0))
    each-outcome (suc n) i at [] fit h = absurd (omega (arith, fit.0))
    each-outcome (suc n) i at (b ∷ bs) fit h =
        let mid : ℕ = at + length (ser b) in
        let end : ℕ = mid + length (joined ser bs) in
        let l : end ≡ at + length (ser b ++ joined ser bs) = omega (arith, length-append (ser b) (joined ser bs)) in
        let rest = each-outcome n (i + 1) mid bs (omega (arith, fit.0), fit.1.1) (at_right s at (ser b) (joined ser bs) h) in
        subst (λ (z : ℕ). Outcome (each (suc n) i p s at) (first_of (f i b) (faults_from f (i + 1) bs)) z) l
        (outcome-then (p i s at) (λ a next. then (each n (i + 1) p s next) (λ more e. ok (a ∷ more) e)) (f i b) (faults_from f (i + 1) bs) mid end
        (outcome (item i) at b fit.1.0 (at_left s at (ser b) (joined ser bs) h))
        (λ a e. outcome-fault _ _ _ end (first-zero (faults_from f (i + 1) bs)) (outcome-then (each n (i + 1) p s mid) (λ more e. ok (a ∷ more) e) (faults_from f (i + 1) bs) 0 end end rest (λ more e2. good (a ∷ more) refl refl))))

    pub each_tells : (n i : ℕ) → Tells s (each n i p) (λ bs. (length bs ≡ n) × All Fits i bs) (joined ser) (faults_from f i)
    each_tells n i = tells (each-outcome n i)

  module _ {view : A → B} (item : (i : ℕ) → Gives s (p i) view (Fits i) ser) where
    each-gives-at : (n i at : ℕ) (bs : List B) → (length bs ≡ n) × All Fits i bs → At s at (joined ser bs) → (l : List A) (q : ℕ) → each n i p s at ≡ ok l q → (map view l ≡ bs) × (at + length (joined ser bs) ≡ q)
    unfolding joined
    each-gives-at zero i at [] fit h l q e = let z = each_none p s i at e in (sym (ap (map view) z.0), add-zero at ∙ z.1)
    each-gives-at zero i at (b ∷ bs) fit h l q e = absurd (omega (arith, fit.0))
    each-gives-at (suc n) i at [] fit h l q e = absurd (omega (arith, fit.0))
    each-gives-at (suc n) i at (b ∷ bs) fit h l q e =
        let t = each-inv p s n i at e in
        let x = (item i).gives at b fit.1.0 (at_left s at (ser b) (joined ser bs) h) t.0 t.1 t.3 in
        let hy = subst (λ (z : ℕ). At s z (joined ser bs)) x.1 (at_right s at (ser b) (joined ser bs) h) in
        let y = each-gives-at n (i + 1) t.1 bs (omega (arith, fit.0), fit.1.1) hy t.2 q t.4 in
        (sym (ap (map view) t.5) ∙ ap₂ (λ (c : B) (r : List B). c ∷ r) x.0 y.0, omega (arith, length-append (ser b) (joined ser bs), x.1, y.1))

    pub each-gives : (n i : ℕ) → Gives s (each n i p) (map view) (λ bs. (length bs ≡ n) × All Fits i bs) (joined ser)
    each-gives n i = record { gives = each-gives-at n i }

-- ---- names

empty-snoc : (us : List ℕ) → is_empty (us ++ (0 ∷ [])) ≡ false
empty-snoc [] = refl
empty-snoc (u ∷ us) = refl

pick-not : (b c d e : Bool) → c ≡ false → d ≡ not e → pick b c d ≡ not (pick b true e)
pick-not true c d e x y = x
pick-not false c d e x y = y

pub closed-any : (us : List ℕ) → closed (us ++ (0 ∷ [])) ≡ not (any_zero us)
unfolding closed any_zero
closed-any [] = refl
closed-any (u ∷ us) = pick-not (eqb u 0) (is_empty (us ++ (0 ∷ []))) (closed (us ++ (0 ∷ []))) (any_zero us) (empty-snoc us) (closed-any us)

name-found : (b c : Bool) → c ≡ not b → found (unless c 8) ≡ pick b 8 0
name-found true c e = rw e
name-found false c e = rw e

-- a name whose count and units fit: 8 where a unit is zero
pub name-tells : (s : List ℕ) (w : ℕ) → Tells s (name w) (λ us. (length us + 1 < 256 ^ w) × All (λ k u. u < 256 ^ 2) 0 us) (name_bytes w) (λ us. pick (any_zero us) 8 0)
name-tells s w = tells (λ at us fit h.
    let c : Bool = closed (us ++ (0 ∷ [])) in
    let end : ℕ = at + length (name_bytes w us) in
    rw (name-passes s w at us fit.0 fit.1 h)
    (outcome-fault _ _ _ end (name-found (any_zero us) c (closed-any us)) (outcome-rule (unless c 8) at (record { first = at + w; units = us }) end (unless-sure c 8 (omega arith)))))

pub name-gives : (s : List ℕ) (w : ℕ) → Gives s (name w) (λ nm. nm.units) (λ us. (length us + 1 < 256 ^ w) × All (λ k u. u < 256 ^ 2) 0 us) (name_bytes w)
name-gives s w = record {
  gives = λ at us fit h a q e.
      let c : Bool = closed (us ++ (0 ∷ [])) in
      let r = rule-inv (unless c 8) at (ok (record { first = at + w; units = us }) (at + length (name_bytes w us))) (sym (name-passes s w at us fit.0 fit.1 h) ∙ e) in
      (ap (λ (x : Name). x.units) (sym (ok-value r.1)), ok-place r.1);
}
