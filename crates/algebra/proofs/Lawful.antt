-- A reader that accepts moves forward and stays inside, and depends only on the bytes that it passed: each combinator. Assumes nothing.
use Prim.Native.Nat.{ℕ, zero, suc, ◌+◌, ◌*◌, ◌≤◌}
use mathlib.Core.Path.{◌≡◌, sym, ap, ap₂, ◌∙◌}
use mathlib.Core.List.{List}
use mathlib.Core.Bool.{Bool}
use lib.Dec.{ltb}
use lib.ListN.{length}
use borrow.Author.Tests.{lt-ltb}
use native.Mathlib.Omega.{arith}
use Rattle.algebra.specs.Numbers.{num, nums}
use Rattle.algebra.specs.Reader.{Reader, ok, body, Judged, unless, judged, give, ◌>>=◌, each, ended}
use Rattle.algebra.specs.Text.{Name, name, text}
use Rattle.algebra.specs.Algebra.{Same, Lawful}
use Rattle.algebra.proofs.Laws.{field_in, body-in, judged-ok}
use Rattle.algebra.proofs.Places.{num-cong, nums-cong}
use Rattle.algebra.proofs.Inverse.{then-inv, judged-inv, body-inv, name-inv, text-inv, ended-inv, each_none, each-inv, ok-place}

-- ---- a part of what is the same

module _ {s t : List ℕ} {at q : ℕ} (h : Same s t at q) where
  pub same_left : (r : ℕ) → r ≤ q → Same s t at r
  same_left r l = record { inside = omega arith; bytes = λ k a b. h.bytes k a (omega arith) }

  pub same-right : (r : ℕ) → at ≤ r → Same s t r q
  same-right r l = record { inside = h.inside; bytes = λ k a b. h.bytes k (omega arith) b }

  pub same-num : (w p : ℕ) → at ≤ p → p + w ≤ q → num w t p ≡ num w s p
  same-num w p a b = num-cong s t w p (λ k l. h.bytes (p + k) (omega arith) (omega arith))

  pub same-nums : (w n p : ℕ) → at ≤ p → p + n * w ≤ q → nums w n t p ≡ nums w n s p
  same-nums w n p a b = nums-cong w s t n p (λ k l. h.bytes (p + k) (omega arith) (omega arith))

-- ---- fields

pub judged-lawful : (w : ℕ) (j : ℕ → Judged) → Lawful (judged w j)
judged-lawful w j = record {
  moves = λ s at le a q e. let i = judged-inv w s at j e in (omega arith, omega arith);
  local = λ s at le a q e t same.
      let i = judged-inv w s at j e in
      let m : num w t at ≡ a = same-num same w at (omega arith) (omega arith) ∙ i.1 in
      judged-ok w t at j (sym (field_in w t at (omega (arith, same.inside)) ∙ ap₂ (λ (x y : ℕ). ok x y) m i.2)) i.3;
}

pub body-lawful : (w n : ℕ) → Lawful (body w n)
body-lawful w n = record {
  moves = λ s at le a q e. let i = body-inv w s at n e in (omega arith, omega arith);
  local = λ s at le a q e t same.
      let i = body-inv w s at n e in
      let m : nums w n t at ≡ a = same-nums same w n at (omega arith) (omega arith) ∙ i.1 in
      body-in w t at n (omega (arith, same.inside)) ∙ ap₂ (λ (x : List ℕ) (y : ℕ). ok x y) m i.2;
}

name-local : (w : ℕ) (s : List ℕ) (at : ℕ) → at ≤ length s → (a : Name) (q : ℕ) → name w s at ≡ ok a q → (t : List ℕ) → Same s t at q → name w t at ≡ ok a q
unfolding name
name-local w s at le a q e t same =
    let i = name-inv w s at e in
    let n : ℕ = i.0 in
    let r = i.1 in
    let c : num w t at ≡ n = same-num same w at (omega arith) (omega (arith, r.end)) ∙ r.count in
    let us : nums 2 n t (at + w) ≡ nums 2 n s (at + w) = same-nums same 2 n (at + w) (omega arith) (omega (arith, r.end)) in
    let f : judged w (λ n. unless (ltb 0 n) 8) t at ≡ ok n (at + w) =
    judged-ok w t at (λ n. unless (ltb 0 n) 8) (sym (field_in w t at (omega (arith, same.inside, r.end)) ∙ ap (λ (x : ℕ). ok x (at + w)) c)) (ap (λ (b : Bool). unless b 8) (lt-ltb 0 n r.some)) in
    let b : body 2 n t (at + w) ≡ ok (nums 2 n s (at + w)) q = body-in 2 t (at + w) n (omega (arith, same.inside, r.end)) ∙ ap₂ (λ (x : List ℕ) (y : ℕ). ok x y) us r.end in
    rw f (rw b (rw r.shut (ap (λ (x : Name). ok x q) r.is)))

pub name-lawful : (w : ℕ) → Lawful (name w)
name-lawful w = record {
  moves = λ s at le a q e. let i = name-inv w s at e in (omega (arith, i.1.end), omega (arith, i.1.end, i.1.inside, i.1.room));
  local = name-local w;
}

text-local : (n : ℕ) (s : List ℕ) (at : ℕ) → at ≤ length s → (us : List ℕ) (q : ℕ) → text n s at ≡ ok us q → (t : List ℕ) → Same s t at q → text n t at ≡ ok us q
unfolding text
text-local n s at le us q e t same =
    let i = text-inv n s at e in
    rw ((body-lawful 2 n).local s at le us q i.0 t same) (rw i.1)

pub text-lawful : (n : ℕ) → Lawful (text n)
text-lawful n = record {
  moves = λ s at le a q e. (body-lawful 2 n).moves s at le a q (text-inv n s at e).0;
  local = text-local n;
}

-- ---- sequence

pub give-lawful : {A : Type 0} (a : A) → Lawful (give a)
give-lawful a = record {
  moves = λ s at le b q e. (omega (arith, ok-place e), omega (arith, ok-place e));
  local = λ s at le b q e t same. e;
}

module _ {A B : Type 0} (m : Reader A) (k : A → Reader B) (one : Lawful m) (two : (a : A) → Lawful (k a)) where
  bind-moves : (s : List ℕ) (at : ℕ) → at ≤ length s → (b : B) (q : ℕ) → (m >>= k) s at ≡ ok b q → (at ≤ q) × (q ≤ length s)
  bind-moves s at le b q e =
      let t = then-inv (m s at) _ e in
      let x = one.moves s at le t.0 t.1 t.2 in
      let y = (two t.0).moves s t.1 x.1 b q t.3 in
      (omega arith, y.1)

  bind-local : (s : List ℕ) (at : ℕ) → at ≤ length s → (b : B) (q : ℕ) → (m >>= k) s at ≡ ok b q → (u : List ℕ) → Same s u at q → (m >>= k) u at ≡ ok b q
  bind-local s at le b q e u same =
      let t = then-inv (m s at) _ e in
      let x = one.moves s at le t.0 t.1 t.2 in
      let y = (two t.0).moves s t.1 x.1 b q t.3 in
      let v : m u at ≡ ok t.0 t.1 = one.local s at le t.0 t.1 t.2 u (same_left same t.1 y.0) in
      let w : k t.0 u t.1 ≡ ok b q = (two t.0).local s t.1 x.1 b q t.3 u (same-right same t.1 x.0) in
      rw v w

  pub bind-lawful : Lawful (m >>= k)
  bind-lawful = record { moves = bind-moves; local = bind-local }

-- ---- counted repetition

module _ {A : Type 0} (p : ℕ → Reader A) (item : (i : ℕ) → Lawful (p i)) where
  each-moves : (n i : ℕ) (s : List ℕ) (at : ℕ) → at ≤ length s → (vs : List A) (q : ℕ) → each n i p s at ≡ ok vs q → (at ≤ q) × (q ≤ length s)
  each-moves zero i s at le vs q e = let z = each_none p s i at e in (omega arith, omega arith)
  each-moves (suc n) i s at le vs q e =
      let t = each-inv p s n i at e in
      let x = (item i).moves s at le t.0 t.1 t.3 in
      let y = each-moves n (i + 1) s t.1 x.1 t.2 q t.4 in
      (omega arith, y.1)

  each_local : (n i : ℕ) (s : List ℕ) (at : ℕ) → at ≤ length s → (vs : List A) (q : ℕ) → each n i p s at ≡ ok vs q → (u : List ℕ) → Same s u at q → each n i p u at ≡ ok vs q
  unfolding each
  each_local zero i s at le vs q e u same = e
  each_local (suc n) i s at le vs q e u same =
      let t = each-inv p s n i at e in
      let x = (item i).moves s at le t.0 t.1 t.3 in
      let y = each-moves n (i + 1) s t.1 x.1 t.2 q t.4 in
      let v : p i u at ≡ ok t.0 t.1 = (item i).local s at le t.0 t.1 t.3 u (same_left same t.1 y.0) in
      let w : each n (i + 1) p u t.1 ≡ ok t.2 q = each_local n (i + 1) s t.1 x.1 t.2 q t.4 u (same-right same t.1 x.0) in
      rw v (rw w (ap (λ (l : List A). ok l q) t.5))

  pub each-lawful : (n i : ℕ) → Lawful (each n i p)
  each-lawful n i = record { moves = each-moves n i; local = each_local n i }

-- ---- the file's end: it only moves, since where a file ends is no byte of it

pub ended-moves : {A : Type 0} (a : A) (s : List ℕ) (at : ℕ) {b : A} {q : ℕ} → ended a s at ≡ ok b q → (at ≤ q) × (q ≤ length s)
ended-moves a s at e = let i = ended-inv a s at e in (omega arith, omega arith)
