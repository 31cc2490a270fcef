-- Laws of the fields that the proofs of the code cite. Assumes nothing.
use Prim.Native.Nat.{ℕ, zero, suc, ◌+◌, ◌-◌, ◌*◌, ◌≤◌, ◌<◌}
use mathlib.Core.Path.{◌≡◌, refl, sym, ap, ◌∙◌}
use mathlib.Core.List.{List, []}
use mathlib.Core.Bool.{Bool, true, false}
use lib.Dec.{eqb}
use lib.ListN.{length}
use borrow.Author.Tests.{eq-eqb, ne_eqb}
use native.Mathlib.Omega.{arith}
use native.Mathlib.Nat.{add-zero}
use Rattle.algebra.specs.Numbers.{num, nums}
use Rattle.algebra.specs.Reader.{Res, ok, refuse, field, body, then, pick, rule, unless, judged, done, or_zero}
use Rattle.algebra.proofs.Laws.{field_in, body-in, body-short, judged-short, judged-bad, judged-ok}
use Rattle.descriptor.specs.Reading.{skip, shut, closing, unicode, boolean, flag, bits, double}

-- ---- a step and then another

pub then-no : {A B : Type 0} (m : Res A) (k : A → ℕ → Res B) {x p r f : ℕ} → m ≡ refuse x p r f → then m k ≡ refuse x p r f
then-no m k e = rw e

pub then_to : {A B : Type 0} (m : Res A) (k : A → ℕ → Res B) {a : A} {q : ℕ} → m ≡ ok a q → then m k ≡ k a q
then_to m k e = rw e

-- only the next place
then-end : {A : Type 0} (m : Res A) → then m (λ a q. ok tt q) ≡ done m
then-end (ok a q) = refl
then-end (refuse x p r f) = refl

-- what the code answers after a callee's answer t, by its case u; `told` is what an answer says
module _ {T A : Type 0} (told : T → Res A) {t u : T} {m : Res A} (e : told t ≡ m) (f : t ≡ u) where
  pub heard : told u ≡ m
  heard = sym (ap told f) ∙ e

  pub after : {B : Type 0} (k : A → ℕ → Res B) {r : Res B} → r ≡ then (told u) k → r ≡ then m k
  after k g = g ∙ ap (λ (x : Res A). then x k) heard

-- the same after a field whose number must pass a test, else it is the refusal x
module _ {B : Type 0} (w : ℕ) (s : List ℕ) (at : ℕ) (test : ℕ → Bool) (x : ℕ) (k : ℕ → ℕ → Res B) where
  pub tested-short : refuse 2 at 0 0 ≡ field w s at → refuse 2 at 0 0 ≡ then (judged w (λ v. unless (test v) x) s at) k
  tested-short e = sym (then-no (judged w (λ v. unless (test v) x) s at) k (judged-short w s at (λ v. unless (test v) x) e))

  pub tested-bad : {v q : ℕ} → ok v q ≡ field w s at → test v ≡ false → refuse x at 0 0 ≡ then (judged w (λ v. unless (test v) x) s at) k
  tested-bad e h = sym (then-no (judged w (λ v. unless (test v) x) s at) k (judged-bad w s at (λ v. unless (test v) x) x 0 0 e (ap (λ (b : Bool). unless b x) h)))

  pub tested-to : {v q : ℕ} → ok v q ≡ field w s at → test v ≡ true → {r : Res B} → r ≡ k v q → r ≡ then (judged w (λ v. unless (test v) x) s at) k
  tested-to e h g = g ∙ sym (then_to (judged w (λ v. unless (test v) x) s at) k (judged-ok w s at (λ v. unless (test v) x) e (ap (λ (b : Bool). unless b x) h)))

-- ---- an ID

module _ (n : ℕ) (s : List ℕ) (q : ℕ) where
  pub id-zero : n ≡ 0 → skip 4 s q ≡ skip (pick (eqb n 0) 4 n) s q
  id-zero z = rw (eq-eqb n 0 z)

  pub id-some : (n ≡ 0 → ⊥) → skip n s q ≡ skip (pick (eqb n 0) 4 n) s q
  id-some z = rw (ne_eqb n 0 z)

-- ---- a Unicode string

-- of units, only the last is looked at
pub shut-nums : (n : ℕ) (s : List ℕ) (at : ℕ) → shut (nums 2 (suc n) s at) ≡ eqb (num 2 s (at + n * 2)) 0
unfolding nums shut
shut-nums zero s at = rw add-zero
shut-nums (suc n) s at = let e : at + 2 + n * 2 ≡ at + suc n * 2 = omega arith in shut-nums n s (at + 2) ∙ ap (λ (k : ℕ). eqb (num 2 s k) 0) e

shut-last : (n : ℕ) (s : List ℕ) (at : ℕ) → 0 < n → n * 2 ≤ length s - at → (v : ℕ) → v ≡ or_zero (field 2 s (at + 2 * n - 2)) → shut (nums 2 n s at) ≡ eqb v 0
shut-last zero s at h l v e = absurd (omega arith)
shut-last (suc n) s at h l v e =
    let p : at + n * 2 ≡ at + 2 * suc n - 2 = omega arith in
    let f : v ≡ num 2 s (at + 2 * suc n - 2) = e ∙ ap or_zero (field_in 2 s (at + 2 * suc n - 2) (omega arith)) in
    shut-nums n s at ∙ ap (λ (k : ℕ). eqb (num 2 s k) 0) p ∙ ap (λ (k : ℕ). eqb k 0) (sym f)

module _ (s : List ℕ) (at : ℕ) where
  pub unicode-none : (n q : ℕ) → ok n q ≡ field 4 s at → n ≡ 0 → unicode s at ≡ ok tt q
  unfolding unicode nums shut
  unicode-none n q e z =
      let b : body 2 n s q ≡ ok [] q = ap (λ (k : ℕ). body 2 k s q) z ∙ body-in 2 s q 0 (omega arith) ∙ ap (λ (k : ℕ). ok [] k) (add-zero q) in
      rw (← e) (rw b)

  module _ (n q : ℕ) (e : ok n q ≡ field 4 s at) (nz : 0 < n) where
    pub unicode-cut : length s - q < 2 * n → unicode s at ≡ refuse 2 q 0 0
    unfolding unicode
    unicode-cut h = rw (← e) (rw (body-short 2 s q n (omega arith)))

    module _ (h : 2 * n ≤ length s - q) (v : ℕ) (l : v ≡ or_zero (field 2 s (q + 2 * n - 2))) where
      parts : (b : Bool) → eqb v 0 ≡ b → unicode s at ≡ rule (closing b) at (ok tt (q + n * 2))
      unfolding unicode
      parts b f = rw (← e) (rw (body-in 2 s q n (omega arith)) (rw (shut-last n s q nz (omega arith) v l ∙ f)))

      pub unicode-open : (v ≡ 0 → ⊥) → unicode s at ≡ rule (closing false) at (ok tt (q + n * 2))
      unicode-open z = parts false (ne_eqb v 0 z)

      pub unicode-is : v ≡ 0 → (p : ℕ) → p ≡ q + 2 * n → unicode s at ≡ ok tt p
      unicode-is z p g = let x : q + n * 2 ≡ p = omega arith in parts true (eq-eqb v 0 z) ∙ ap (λ (k : ℕ). ok tt k) x

-- ---- one judged field

module _ (s : List ℕ) (at : ℕ) where
  pub flag-tested : then (judged 1 boolean s at) (λ v q. ok tt q) ≡ flag s at
  unfolding flag
  flag-tested = then-end (judged 1 boolean s at)

  pub double-tested : then (judged 8 bits s at) (λ v q. ok tt q) ≡ double s at
  unfolding double
  double-tested = then-end (judged 8 bits s at)

-- a reader without a value is not changed by leaving its value out
pub done-unit : (m : Res Unit) → done m ≡ m
done-unit (ok u q) = refl
done-unit (refuse x p r f) = refl
