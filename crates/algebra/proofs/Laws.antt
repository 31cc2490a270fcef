-- Laws of readers that the proofs of the code cite. Assumes nothing.
use Prim.Native.Nat.{ℕ, zero, suc, ◌+◌, ◌*◌, ◌-◌, ◌^◌, ◌≤◌, ◌<◌}
use mathlib.Core.Path.{◌≡◌, refl, sym, ap, ◌∙◌}
use mathlib.Core.List.{List, ◌∷◌}
use mathlib.Core.Bool.{Bool, true, false}
use lib.Dec.{leb, eqb}
use lib.ListN.{length, get_or}
use borrow.Author.Tests.{le-leb, lt-leb, leb-true, ne_eqb}
use native.Mathlib.Omega.{arith}
use native.Mathlib.Nat.{add-zero, add-suc, sub-zero, mul_assoc, pow-suc}
use Rattle.algebra.specs.Numbers.{num, nums}
use Rattle.algebra.specs.Reader.{Res, Reader, ok, refuse, field, body, pick, then, done, each, ended, Judged, fine, fault, judged}

-- ---- one field: it is there, or too short

module _ (w : ℕ) (s : List ℕ) (at : ℕ) where
  pub field_in : w ≤ length s - at → field w s at ≡ ok (num w s at) (at + w)
  unfolding field
  field_in h = simp (le-leb _ _ h)

  pub field-short : length s - at < w → field w s at ≡ refuse 2 at 0 0
  unfolding field
  field-short h = simp (lt-leb _ _ h)

  pub body-in : (n : ℕ) → n * w ≤ length s - at → body w n s at ≡ ok (nums w n s at) (at + n * w)
  unfolding body
  body-in n h = simp (le-leb _ _ h)

  pub body-done : (n q : ℕ) → n * w ≤ length s - at → at + n * w ≡ q → done (body w n s at) ≡ ok tt q
  body-done n q h e = ap done (body-in n h) ∙ ap (λ (k : ℕ). ok tt k) e

  pub body-short : (n : ℕ) → length s - at < n * w → body w n s at ≡ refuse 2 at 0 0
  unfolding body
  body-short n h = simp (lt-leb _ _ h)

-- the place after a field that is there
pub field_next : (w : ℕ) (s : List ℕ) (at v next : ℕ) → ok v next ≡ field w s at → (w ≤ length s - at) × (at + w ≡ next) × (num w s at ≡ v)
unfolding field
field_next w s at v next e = go (leb w (length s - at)) refl e
  where
    go : (b : Bool) → leb w (length s - at) ≡ b → ok v next ≡ pick b (ok (num w s at) (at + w)) (refuse 2 at 0 0) → (w ≤ length s - at) × (at + w ≡ next) × (num w s at ≡ v)
    go true h k = (leb-true _ _ h, cc, cc)
    go false h k = let z : ◌≡◌ {A = ℕ} 0 1 = cc in absurd (omega arith)

-- ---- numbers by their bytes

pub num-1 : (s : List ℕ) (at : ℕ) → num 1 s at ≡ get_or s at 0
unfolding num
num-1 s at = simp add-zero (omega arith)

pub num-2 : (s : List ℕ) (at : ℕ) → num 2 s at ≡ get_or s at 0 * 256 + get_or s (at + 1) 0
unfolding num
num-2 s at = simp add-zero (omega arith)

pub num-4 : (s : List ℕ) (at : ℕ) → num 4 s at ≡ ((get_or s at 0 * 256 + get_or s (at + 1) 0) * 256 + get_or s (at + 2) 0) * 256 + get_or s (at + 3) 0
unfolding num
num-4 s at = simp add-zero (omega arith)

-- a number of w + v bytes is its first w bytes, and its last v
pub num-split : (w v : ℕ) (s : List ℕ) (at : ℕ) → num (w + v) s at ≡ num w s at * 256 ^ v + num v s (at + w)
unfolding num
num-split w zero s at = rw add-zero (omega arith)
num-split w (suc v) s at =
    let p : at + (w + v) ≡ at + w + v = omega arith in
    let q : num w s at * 256 ^ suc v ≡ num w s at * 256 ^ v * 256 = ap (λ (k : ℕ). num w s at * k) (pow-suc 256 v) ∙ sym (mul_assoc (num w s at) (256 ^ v) 256) in
    rw (add-suc w v) (omega (arith, num-split w v s at, q, ap (λ (k : ℕ). get_or s k 0) p))

-- ---- sequence

-- what is done after a step does not look at the step's value
pub done-then : {A B : Type 0} (m : Res A) (k : A → ℕ → Res B) → done (then m k) ≡ then m (λ a n. done (k a n))
done-then (ok a n) k = refl
done-then (refuse x p r f) k = refl

pub then-done : {A B : Type 0} (m : Res A) (k : ℕ → Res B) → then m (λ a n. k n) ≡ then (done m) (λ a n. k n)
then-done (ok a n) k = refl
then-done (refuse x p r f) k = refl

pub then_ok : {A B : Type 0} (f : A → B) (m : Res A) → done (then m (λ a n. ok (f a) n)) ≡ done m
then_ok f (ok a n) = refl
then_ok f (refuse x p r g) = refl

-- where what follows is done the same for every value
pub done-const : {A B : Type 0} (m : Res A) (k : A → ℕ → Res B) (K : ℕ → Res Unit) → ((a : A) (q : ℕ) → done (k a q) ≡ K q) → done (then m k) ≡ then (done m) (λ u q. K q)
done-const (ok a q) k K h = h a q
done-const (refuse x p r f) k K h = refl

pub done-each : {A B : Type 0} (m : Res A) (k : A → ℕ → Res B) (K : A → ℕ → Res Unit) → ((a : A) (q : ℕ) → done (k a q) ≡ K a q) → done (then m k) ≡ then m K
done-each (ok a q) k K h = h a q
done-each (refuse x p r f) k K h = refl

pub then-then : {A B C : Type 0} (m : Res A) (k : A → ℕ → Res B) (l : B → ℕ → Res C) → then (then m k) l ≡ then m (λ a q. then (k a q) l)
then-then (ok a q) k l = refl
then-then (refuse x p r f) k l = refl

-- bytes behind the end are 6 where they begin
pub ended-left : {A : Type 0} (a : A) (s : List ℕ) (at : ℕ) → at < length s → ended a s at ≡ refuse 6 at 0 0
unfolding ended
ended-left a s at h = simp (ne_eqb at (length s) (λ z. omega arith))

ended_by : {A : Type 0} (b : Bool) (a : A) (q : ℕ) → done (pick b (ok a q) (refuse 6 q 0 0)) ≡ pick b (ok tt q) (refuse 6 q 0 0)
ended_by true a q = refl
ended_by false a q = refl

pub ended-done : {A : Type 0} (a : A) (s : List ℕ) (q : ℕ) → done (ended a s q) ≡ pick (eqb q (length s)) (ok tt q) (refuse 6 q 0 0)
unfolding ended
ended-done a s q = ended_by (eqb q (length s)) a q

step-done : {A : Type 0} (m : Res A) (k : ℕ → Res (List A)) → done (then m (λ a next. then (k next) (λ more end. ok (a ∷ more) end))) ≡ then (done m) (λ a next. done (k next))
step-done (ok a n) k = then_ok (λ more. a ∷ more) (k n)
step-done (refuse x p r f) k = refl

-- a refusal is the same before `done` and after it
pub done-refuse : {A : Type 0} (m : Res A) {x q r f : ℕ} → done m ≡ refuse x q r f → m ≡ refuse x q r f
done-refuse (ok a n) e = let z : ◌≡◌ {A = ℕ} 0 1 = cc in absurd (omega arith)
done-refuse (refuse x p r f) e = cc

sub-suc : (n i : ℕ) → i < n → n - i ≡ suc (n - (i + 1))
sub-suc n i h = omega arith

sub-none : (n i : ℕ) → n ≤ i → n - i ≡ 0
sub-none n i h = omega arith

-- ---- a judged field

-- too short, at fault, or fine
module _ (w : ℕ) (s : List ℕ) (at : ℕ) (j : ℕ → Judged) where
  pub judged-short : refuse 2 at 0 0 ≡ field w s at → judged w j s at ≡ refuse 2 at 0 0
  judged-short e = rw (← e)

  pub judged-bad : (x r f : ℕ) {v n : ℕ} → ok v n ≡ field w s at → j v ≡ fault x r f → judged w j s at ≡ refuse x at r f
  judged-bad x r f e b = rw (← e) (rw b)

  pub judged-ok : {v n : ℕ} → ok v n ≡ field w s at → j v ≡ fine → judged w j s at ≡ ok v n
  judged-ok e b = rw (← e) (rw b)

-- ---- counted repetition

-- a turn of a loop over n items, and its end
module _ {A : Type 0} (p : ℕ → Reader A) (s : List ℕ) where
  each-suc : (n i at : ℕ) → done (each (suc n) i p s at) ≡ then (done (p i s at)) (λ a next. done (each n (i + 1) p s next))
  unfolding each
  each-suc n i at = step-done (p i s at) (λ next. each n (i + 1) p s next)

  pub each_turn : (n i at : ℕ) → i < n → done (each (n - i) i p s at) ≡ then (done (p i s at)) (λ a next. done (each (n - (i + 1)) (i + 1) p s next))
  each_turn n i at h = rw (sub-suc n i h) (each-suc (n - (i + 1)) i at)

  pub each-end : (n i at : ℕ) → n ≤ i → done (each (n - i) i p s at) ≡ ok tt at
  unfolding each
  each-end n i at h = rw (sub-none n i h)

  pub turn-start : (n at : ℕ) → done (each n 0 p s at) ≡ done (each (n - 0) 0 p s at)
  turn-start n at = rw (sub-zero)

  -- the same, of a loop's invariant: `all` is what the whole loop comes to
  module _ (all : Res Unit) (n i at : ℕ) (inv : all ≡ done (each (n - i) i p s at)) where
    pub turn-ok : i < n → (next : ℕ) → done (p i s at) ≡ ok tt next → all ≡ done (each (n - (i + 1)) (i + 1) p s next)
    turn-ok h next e = inv ∙ each_turn n i at h ∙ ap (λ (m : Res Unit). then m (λ a q. done (each (n - (i + 1)) (i + 1) p s q))) e

    pub turn-no : i < n → {x q r f : ℕ} → done (p i s at) ≡ refuse x q r f → all ≡ refuse x q r f
    turn-no h e = inv ∙ each_turn n i at h ∙ ap (λ (m : Res Unit). then m (λ a q. done (each (n - (i + 1)) (i + 1) p s q))) e

    pub turn_end : n ≤ i → all ≡ ok tt at
    turn_end h = inv ∙ each-end n i at h

  -- the same again, of an inner loop, where k is what follows it
  module _ (all : Res Unit) (k : ℕ → Res Unit) (n i at : ℕ) (inv : all ≡ then (done (each (n - i) i p s at)) (λ a q. k q)) where
    at_turn : i < n → (m : Res Unit) → done (p i s at) ≡ m → all ≡ then (then m (λ a next. done (each (n - (i + 1)) (i + 1) p s next))) (λ a q. k q)
    at_turn h m e = inv ∙ ap (λ (x : Res Unit). then x (λ a q. k q)) (each_turn n i at h ∙ ap (λ (x : Res Unit). then x (λ a q. done (each (n - (i + 1)) (i + 1) p s q))) e)

    pub inner-ok : i < n → (next : ℕ) → done (p i s at) ≡ ok tt next → all ≡ then (done (each (n - (i + 1)) (i + 1) p s next)) (λ a q. k q)
    inner-ok h next e = at_turn h _ e

    pub inner-no : i < n → {x q r f : ℕ} → done (p i s at) ≡ refuse x q r f → all ≡ refuse x q r f
    inner-no h e = at_turn h _ e

    pub inner-end : n ≤ i → all ≡ k at
    inner-end h = inv ∙ ap (λ (x : Res Unit). then x (λ a q. k q)) (each-end n i at h)
