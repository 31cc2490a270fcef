-- What is known where a reader accepts. Assumes nothing.
use Prim.Native.Nat.{ℕ, zero, suc, ◌+◌, ◌*◌, ◌-◌, ◌≤◌, ◌<◌}
use mathlib.Core.Path.{◌≡◌, refl, sym, ap, ap₂, ◌∙◌}
use mathlib.Core.List.{List, [], ◌∷◌}
use mathlib.Core.Bool.{Bool, true, false, not}
use lib.Dec.{leb, ltb, eqb}
use lib.ListN.{length, get_or}
use borrow.Author.Tests.{leb-true, ltb-true, eqb-true, not-true}
use native.Mathlib.Omega.{arith}
use native.Mathlib.Nat.{add-zero, zero-mul, suc-mul, mul-suc, mul-zero}
use Rattle.algebra.specs.Numbers.{num, nums}
use Rattle.algebra.specs.Reader.{Res, Reader, ok, refuse, then, pick, field, body, rule, Judged, fine, fault, unless, judged, each, ended, done}
use Rattle.algebra.specs.Text.{Name, name, text, any_zero, closed, front}

-- a refusal accepts nothing
pub clash : {A : Type 0} {X : Type 0} {a : A} {q x p r f : ℕ} → refuse x p r f ≡ ok a q → X
clash e = let z : ◌≡◌ {A = ℕ} 0 1 = cc in absurd (omega arith)

pub ok-value : {A : Type 0} {a b : A} {q r : ℕ} → ok a q ≡ ok b r → a ≡ b
ok-value e = cc

pub ok-place : {A : Type 0} {a b : A} {q r : ℕ} → ok a q ≡ ok b r → q ≡ r
ok-place e = cc

-- an answer is refused in one way
pub refuse-same : {A : Type 0} {m : Res A} {y q i g z p r f : ℕ} → m ≡ refuse y q i g → m ≡ refuse z p r f → (y ≡ z) × (q ≡ p) × (i ≡ r) × (g ≡ f)
refuse-same {A} {m} {y} {q} {i} {g} {z} {p} {r} {f} a b = let same : ◌≡◌ {A = Res A} (refuse y q i g) (refuse z p r f) = sym a ∙ b in (cc, cc, cc, cc)

-- ---- routing

-- both steps accept
pub then-inv : {A B : Type 0} (m : Res A) (k : A → ℕ → Res B) {b : B} {q : ℕ} → then m k ≡ ok b q → (a : A) × (r : ℕ) × (m ≡ ok a r) × (k a r ≡ ok b q)
then-inv (ok a r) k e = (a, r, refl, e)
then-inv (refuse x p r f) k e = clash e

pub rule-inv : {A : Type 0} (j : Judged) (p : ℕ) (m : Res A) {a : A} {q : ℕ} → rule j p m ≡ ok a q → (j ≡ fine) × (m ≡ ok a q)
rule-inv fine p m e = (refl, e)
rule-inv (fault n r f) p m e = clash e

pub pick_inv : {A : Type 0} (b : Bool) (m : Res A) (x p r f : ℕ) {a : A} {q : ℕ} → pick b m (refuse x p r f) ≡ ok a q → (b ≡ true) × (m ≡ ok a q)
pick_inv true m x p r f e = (refl, e)
pick_inv false m x p r f e = clash e

pub pick-fine : (b : Bool) (x r f : ℕ) → pick b fine (fault x r f) ≡ fine → b ≡ true
pick-fine true x r f e = refl
pick-fine false x r f e = let z : ◌≡◌ {A = ℕ} 0 1 = cc in absurd (omega arith)

pub unless-fine : (b : Bool) (n : ℕ) → unless b n ≡ fine → b ≡ true
unless-fine true n e = refl
unless-fine false n e = let z : ◌≡◌ {A = ℕ} 0 1 = cc in absurd (omega arith)

pub done-inv : {A : Type 0} (m : Res A) {q : ℕ} → done m ≡ ok tt q → (a : A) × (m ≡ ok a q)
done-inv (ok a r) e = let f : r ≡ _ = ok-place e in (a, ap (λ (z : ℕ). ok a z) f)
done-inv (refuse x p r f) e = clash e

-- ---- fields

module _ (w : ℕ) (s : List ℕ) (at : ℕ) where
  pub field-inv : {v q : ℕ} → field w s at ≡ ok v q → (w ≤ length s - at) × (num w s at ≡ v) × (at + w ≡ q)
  unfolding field
  field-inv e = let i = pick_inv (leb w (length s - at)) (ok (num w s at) (at + w)) _ _ _ _ e in (leb-true _ _ i.0, ok-value i.1, ok-place i.1)

  pub body-inv : (n : ℕ) {vs : List ℕ} {q : ℕ} → body w n s at ≡ ok vs q → (n * w ≤ length s - at) × (nums w n s at ≡ vs) × (at + n * w ≡ q)
  unfolding body
  body-inv n e = let i = pick_inv (leb (n * w) (length s - at)) (ok (nums w n s at) (at + n * w)) _ _ _ _ e in (leb-true _ _ i.0, ok-value i.1, ok-place i.1)

  pub judged-inv : (j : ℕ → Judged) {v q : ℕ} → judged w j s at ≡ ok v q → (w ≤ length s - at) × (num w s at ≡ v) × (at + w ≡ q) × (j v ≡ fine)
  judged-inv j e =
      let t = then-inv (field w s at) _ e in
      let f = field-inv t.2 in
      let r = rule-inv (j t.0) at (ok t.0 t.1) t.3 in
      let a = ok-value r.1 in
      (f.0, f.1 ∙ a, f.2 ∙ ok-place r.1, ap j (sym a) ∙ r.0)

-- a name: its count n is not 0, its units are inside the file, and the last is the only zero
pub record Name-read (w : ℕ) (s : List ℕ) (at n : ℕ) (nm : Name) (q : ℕ) : Type 0 where
  pub room : w ≤ length s - at
  pub count : num w s at ≡ n
  pub some : 0 < n
  pub inside : n * 2 ≤ length s - (at + w)
  pub shut : closed (nums 2 n s (at + w)) ≡ true
  pub is : record { first = at + w; units = front (nums 2 n s (at + w)) } ≡ nm
  pub end : at + w + n * 2 ≡ q

name-parts : (w : ℕ) (s : List ℕ) (at n : ℕ) (nm : Name) (q r z : ℕ) (us : List ℕ)
    → (w ≤ length s - at) × (num w s at ≡ n) × (at + w ≡ r) × (unless (ltb 0 n) 8 ≡ fine)
    → (n * 2 ≤ length s - r) × (nums 2 n s r ≡ us) × (r + n * 2 ≡ z)
    → (unless (closed us) 8 ≡ fine) × (ok (record { first = r; units = front us }) z ≡ ok nm q) → Name-read w s at n nm q
name-parts w s at n nm q r z us f b c =
    let eu : nums 2 n s (at + w) ≡ us = ap (λ (k : ℕ). nums 2 n s k) f.2 ∙ b.1 in record {
      room = f.0;
      count = f.1;
      some = ltb-true 0 n (unless-fine (ltb 0 n) 8 f.3);
      inside = omega arith;
      shut = ap closed eu ∙ unless-fine (closed us) 8 c.0;
      is = ap₂ (λ (k : ℕ) (l : List ℕ). record { first = k; units = front l }) f.2 eu ∙ ok-value c.1;
      end = ap (λ (k : ℕ). k + n * 2) f.2 ∙ b.2 ∙ ok-place c.1;
    }

pub name-inv : (w : ℕ) (s : List ℕ) (at : ℕ) {nm : Name} {q : ℕ} → name w s at ≡ ok nm q → (n : ℕ) × Name-read w s at n nm q
unfolding name
name-inv w s at {nm} {q} e =
    let t = then-inv (judged w (λ n. unless (ltb 0 n) 8) s at) _ e in
    let f = judged-inv w s at (λ n. unless (ltb 0 n) 8) t.2 in
    let u = then-inv (body 2 t.0 s t.1) _ t.3 in
    let b = body-inv 2 s t.1 t.0 u.2 in
    (t.0, name-parts w s at t.0 nm q t.1 u.1 u.0 f b (rule-inv (unless (closed u.0) 8) at _ u.3))

-- units without a count: they are there, and none of them is zero
pub text-inv : (n : ℕ) (s : List ℕ) (at : ℕ) {us : List ℕ} {q : ℕ} → text n s at ≡ ok us q → (body 2 n s at ≡ ok us q) × (any_zero us ≡ false)
unfolding text
text-inv n s at e =
    let t = then-inv (body 2 n s at) _ e in
    let r = rule-inv (unless (not (any_zero t.0)) 8) at (ok t.0 t.1) t.3 in
    (t.2 ∙ r.1, ap any_zero (sym (ok-value r.1)) ∙ not-true (any_zero t.0) (unless-fine (not (any_zero t.0)) 8 r.0))

-- all but the last of a row of numbers
pub front-nums : (w n : ℕ) (s : List ℕ) (at : ℕ) → front (nums w (suc n) s at) ≡ nums w n s at
unfolding nums front
front-nums w zero s at = refl
front-nums w (suc n) s at = ap (λ (l : List ℕ). num w s at ∷ l) (front-nums w n s (at + w))

-- ---- the file's end

pub ended-inv : {A : Type 0} (a : A) (s : List ℕ) (at : ℕ) {b : A} {q : ℕ} → ended a s at ≡ ok b q → (at ≡ length s) × (a ≡ b) × (at ≡ q)
unfolding ended
ended-inv a s at e = let i = pick_inv (eqb at (length s)) (ok a at) _ _ _ _ e in (eqb-true _ _ i.0, ok-value i.1, ok-place i.1)

-- ---- counted repetition

module _ {A : Type 0} (p : ℕ → Reader A) (s : List ℕ) where
  pub each_none : (i at : ℕ) {vs : List A} {q : ℕ} → each 0 i p s at ≡ ok vs q → ([] ≡ vs) × (at ≡ q)
  unfolding each
  each_none i at e = (ok-value e, ok-place e)

  -- the first item, and the others
  pub each-inv : (n i at : ℕ) {vs : List A} {q : ℕ} → each (suc n) i p s at ≡ ok vs q → (a : A) × (r : ℕ) × (more : List A) × (p i s at ≡ ok a r) × (each n (i + 1) p s r ≡ ok more q) × (a ∷ more ≡ vs)
  unfolding each
  each-inv n i at e =
      let t = then-inv (p i s at) _ e in
      let u = then-inv (each n (i + 1) p s t.1) _ t.3 in
      (t.0, t.1, u.0, t.2, u.2 ∙ ap (λ (k : ℕ). ok u.0 k) (ok-place u.3), ok-value u.3)

  pub each-length : (n i at : ℕ) {vs : List A} {q : ℕ} → each n i p s at ≡ ok vs q → length vs ≡ n
  each-length zero i at e = sym (ap length (each_none i at e).0)
  each-length (suc n) i at e =
      let t = each-inv n i at e in
      sym (ap length t.5) ∙ ap suc (each-length n (i + 1) t.1 t.4)

  -- item k of those that were read, its place and the next
  pub each_item : (d : A) (n i at : ℕ) {vs : List A} {q : ℕ} → each n i p s at ≡ ok vs q → (k : ℕ) → k < n → (from to : ℕ) × (p (i + k) s from ≡ ok (get_or vs k d) to)
  each_item d zero i at e k h = absurd (omega arith)
  each_item d (suc n) i at e zero h =
      let t = each-inv n i at e in
      (at, t.1, ap (λ (z : ℕ). p z s at) (add-zero i) ∙ t.3 ∙ ap (λ (l : List A). ok (get_or l 0 d) t.1) t.5)
  each_item d (suc n) i at e (suc k) h =
      let t = each-inv n i at e in
      let r = each_item d n (i + 1) t.1 t.4 k (omega arith) in
      let z : i + suc k ≡ i + 1 + k = omega arith in
      (r.0, r.1, ap (λ (x : ℕ). p x s r.0) z ∙ r.2 ∙ ap (λ (l : List A). ok (get_or l (suc k) d) r.1) t.5)

  -- items of one width: the list ends behind them all, inside the file
  pub each-moves : (w : ℕ) → ((i at : ℕ) → at ≤ length s → (a : A) (q : ℕ) → p i s at ≡ ok a q → (q ≡ at + w) × (q ≤ length s))
      → (n i at : ℕ) → at ≤ length s → {vs : List A} {q : ℕ} → each n i p s at ≡ ok vs q → (q ≡ at + n * w) × (q ≤ length s)
  each-moves w item zero i at h e = (omega (arith, (each_none i at e).1, zero-mul w), omega (arith, (each_none i at e).1))
  each-moves w item (suc n) i at h e =
      let t = each-inv n i at e in
      let x = item i at h t.0 t.1 t.3 in
      let r = each-moves w item n (i + 1) t.1 x.1 t.4 in
      (omega (arith, suc-mul n w), r.1)

-- a row of fields of one width: they are the numbers that stand there
module _ (w : ℕ) (j : ℕ → ℕ → Judged) (s : List ℕ) where
  pub fields-inv : (n i at : ℕ) {vs : List ℕ} {q : ℕ} → each n i (λ k. judged w (j k)) s at ≡ ok vs q → (nums w n s at ≡ vs) × (at + n * w ≡ q)
  unfolding nums
  fields-inv zero i at e = let z = each_none (λ k. judged w (j k)) s i at e in (z.0, omega (arith, z.1, zero-mul w))
  fields-inv (suc n) i at e =
      let t = each-inv (λ k. judged w (j k)) s n i at e in
      let x = judged-inv w s at (j i) t.3 in
      let r = fields-inv n (i + 1) t.1 t.4 in
      (ap₂ (λ (v : ℕ) (l : List ℕ). v ∷ l) x.1 (ap (λ (k : ℕ). nums w n s k) x.2 ∙ r.0) ∙ t.5, omega (arith, x.2, r.1, suc-mul n w))

  -- field k of them was found fine
  pub fields-fine : (n i at : ℕ) {vs : List ℕ} {q : ℕ} → each n i (λ k. judged w (j k)) s at ≡ ok vs q → (k : ℕ) → k < n → j (i + k) (num w s (at + w * k)) ≡ fine
  fields-fine zero i at e k h = absurd (omega arith)
  fields-fine (suc n) i at e zero h =
      let t = each-inv (λ k. judged w (j k)) s n i at e in
      let x = judged-inv w s at (j i) t.3 in
      let z : at + w * 0 ≡ at = omega (arith, mul-zero w) in
      ap₂ (λ (k p : ℕ). j k (num w s p)) (add-zero i) z ∙ ap (j i) x.1 ∙ x.3
  fields-fine (suc n) i at e (suc k) h =
      let t = each-inv (λ k. judged w (j k)) s n i at e in
      let x = judged-inv w s at (j i) t.3 in
      let y : i + suc k ≡ i + 1 + k = omega arith in
      let z : at + w * suc k ≡ t.1 + w * k = omega (arith, mul-suc w k, x.2) in
      ap₂ (λ (k p : ℕ). j k (num w s p)) y z ∙ fields-fine n (i + 1) t.1 t.4 k (omega arith)

  -- they are inside the file
  pub fields-inside : (n i at : ℕ) → at ≤ length s → {vs : List ℕ} {q : ℕ} → each n i (λ k. judged w (j k)) s at ≡ ok vs q → q ≤ length s
  fields-inside n i at h e = (each-moves (λ k. judged w (j k)) s w (λ k p l v q x. let y = judged-inv w s p (j k) x in (omega arith, omega arith)) n i at h e).1
