-- Bytes up to the end of a file: fields that are whole there, a field that is cut, a name that is cut or badly closed. Assumes nothing.
use Prim.Native.Nat.{ℕ, ◌+◌, ◌*◌, ◌^◌, ◌<◌}
use mathlib.Core.Path.{◌≡◌, refl, sym, ap, ◌∙◌}
use mathlib.Core.List.{List, [], ◌∷◌, ◌++◌}
use mathlib.Core.Bool.{Bool, true, false}
use lib.Dec.{ltb, eqb}
use lib.ListN.{length, length-append}
use borrow.Author.Tests.{lt-ltb, ne_eqb}
use native.Mathlib.Omega.{arith}
use native.Mathlib.Nat.{zero-add}
use Rattle.algebra.specs.Numbers.{be, joined, At, All}
use Rattle.algebra.specs.Reader.{ok, refuse, pick, field, body, Judged, fine, fault, unless, judged}
use Rattle.algebra.specs.Text.{is_empty, closed, name}
use Rattle.algebra.specs.Closing.{BadlyClosed, last, early}
use Rattle.algebra.proofs.Laws.{field_in, field-short, body-in, body-short, judged-short, judged-bad, judged-ok}
use Rattle.algebra.proofs.Places.{length-be, length-bes, at_in, at_left, at_after, at-whole, num-be, nums-bes}

-- the file s ends with the bytes l, which stand from `at`
pub record Tail (s : List ℕ) (at : ℕ) (l : List ℕ) : Type 0 where
  pub stands : At s at l
  pub ends : length s ≡ at + length l

pub tail-left : (s : List ℕ) (at : ℕ) (a b : List ℕ) → Tail s at (a ++ b) → At s at a
tail-left s at a b t = at_left s at a b t.stands

pub tail-after : (s : List ℕ) (at : ℕ) (a b : List ℕ) (next : ℕ) → at + length a ≡ next → Tail s at (a ++ b) → Tail s next b
tail-after s at a b next e t = record { stands = at_after s at a b next e t.stands; ends = omega (arith, t.ends, length-append a b) }

-- a whole file
pub whole-tail : (s : List ℕ) → Tail s 0 s
whole-tail s = record { stands = at-whole s; ends = sym (zero-add (length s)) }

-- ---- one field

module _ (s : List ℕ) (w at : ℕ) where
  pub field-there : (v : ℕ) → v < 256 ^ w → At s at (be w v) → field w s at ≡ ok v (at + w)
  field-there v small h = field_in w s at (omega (arith, at_in s at (be w v) h, length-be w v)) ∙ ap (λ (k : ℕ). ok k (at + w)) (num-be s w at v small h)

  pub field_cut : {l : List ℕ} → length l < w → Tail s at l → field w s at ≡ refuse 2 at 0 0
  field_cut {l} few t = field-short w s at (omega (arith, t.ends))

  module _ (j : ℕ → Judged) where
    pub judged-there : (v : ℕ) → v < 256 ^ w → j v ≡ fine → At s at (be w v) → judged w j s at ≡ ok v (at + w)
    judged-there v small e h = judged-ok w s at j (sym (field-there v small h)) e

    pub judged-wrong : (x v : ℕ) → v < 256 ^ w → j v ≡ fault x 0 0 → At s at (be w v) → judged w j s at ≡ refuse x at 0 0
    judged-wrong x v small e h = judged-bad w s at j x 0 0 (sym (field-there v small h)) e

    pub judged-cut : {l : List ℕ} → length l < w → Tail s at l → judged w j s at ≡ refuse 2 at 0 0
    judged-cut few t = judged-short w s at j (sym (field_cut few t))

-- ---- a name

empty-more : (us : List ℕ) (v : ℕ) (vs : List ℕ) → is_empty (us ++ (v ∷ vs)) ≡ false
empty-more [] v vs = refl
empty-more (u ∷ us) v vs = refl

pick-false : (b : Bool) {c d : Bool} → c ≡ false → d ≡ false → pick b c d ≡ false
pick-false true e f = e
pick-false false e f = f

last-open : (us : List ℕ) (u : ℕ) → 0 < u → closed (us ++ (u ∷ [])) ≡ false
unfolding closed
last-open [] u h = simp (ne_eqb u 0 (λ z. omega arith))
last-open (a ∷ us) u h = pick-false (eqb a 0) (empty-more us u []) (last-open us u h)

early-open : (us : List ℕ) (v : ℕ) (vs : List ℕ) → closed (us ++ (0 ∷ v ∷ vs)) ≡ false
unfolding closed
early-open [] v vs = refl
early-open (a ∷ us) v vs = pick-false (eqb a 0) (empty-more us 0 (v ∷ vs)) (early-open us v vs)

pub open-unclosed : {us : List ℕ} → BadlyClosed us → closed us ≡ false
open-unclosed (last us u h) = last-open us u h
open-unclosed (early us vs v) = early-open us v vs

open-some : {us : List ℕ} → BadlyClosed us → 0 < length us
open-some (last us u h) = omega (arith, length-append us (u ∷ []))
open-some (early us vs v) = omega (arith, length-append us (0 ∷ v ∷ vs))

module _ (s : List ℕ) (w at : ℕ) where
  -- the count is cut
  pub name_cut : {l : List ℕ} → length l < w → Tail s at l → name w s at ≡ refuse 2 at 0 0
  unfolding name
  name_cut few t = rw (judged-cut s w at (λ n. unless (ltb 0 n) 8) few t)

  -- the count is 0: 8 at the count
  pub name-none : 0 < 256 ^ w → At s at (be w 0) → name w s at ≡ refuse 8 at 0 0
  unfolding name
  name-none small h = rw (judged-wrong s w at (λ n. unless (ltb 0 n) 8) 8 0 small refl h)

  count-there : (n : ℕ) → 0 < n → n < 256 ^ w → At s at (be w n) → judged w (λ n. unless (ltb 0 n) 8) s at ≡ ok n (at + w)
  count-there n some small h = judged-there s w at (λ n. unless (ltb 0 n) 8) n small (rw (lt-ltb 0 n some)) h

  -- the units are cut: 2 at the first
  pub name-units-cut : (n : ℕ) (l : List ℕ) → 0 < n → n < 256 ^ w → length l < n * 2 → Tail s at (be w n ++ l) → name w s at ≡ refuse 2 (at + w) 0 0
  unfolding name
  name-units-cut n l some small few t =
      let u : Tail s (at + w) l = tail-after s at (be w n) l (at + w) (ap (λ (k : ℕ). at + k) (length-be w n)) t in
      rw (count-there n some small (tail-left s at (be w n) l t)) (rw (body-short 2 s (at + w) n (omega (arith, u.ends))))

  -- the units are badly closed: 8 at the count
  pub name-open : (us : List ℕ) → length us < 256 ^ w → All (λ k u. u < 256 ^ 2) 0 us → BadlyClosed us → At s at (be w (length us) ++ joined (be 2) us) → name w s at ≡ refuse 8 at 0 0
  unfolding name
  name-open us small fit o h =
      let n : ℕ = length us in
      let x : At s (at + w) (joined (be 2) us) = at_after s at (be w n) (joined (be 2) us) (at + w) (ap (λ (k : ℕ). at + k) (length-be w n)) h in
      let b : body 2 n s (at + w) ≡ ok us (at + w + n * 2) =
      body-in 2 s (at + w) n (omega (arith, at_in s (at + w) (joined (be 2) us) x, length-bes 2 us)) ∙ ap (λ (vs : List ℕ). ok vs (at + w + n * 2)) (nums-bes 2 s us (at + w) 0 fit x) in
      rw (count-there n (open-some o) small (at_left s at (be w n) (joined (be 2) us) h)) (rw b (rw (open-unclosed o)))
