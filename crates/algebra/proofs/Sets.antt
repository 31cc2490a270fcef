-- A reader that accepts exactly a set of byte strings: each combinator. Assumes nothing.
use Prim.Native.Nat.{ℕ, zero, suc, ◌+◌, ◌*◌, ◌^◌, ◌≤◌, ◌<◌}
use mathlib.Core.Path.{◌≡◌, refl, sym, ap, ap₂, ◌∙◌, subst}
use mathlib.Core.List.{List, [], ◌∷◌, ◌++◌}
use mathlib.Core.Bool.{Bool}
use lib.Dec.{eqb}
use lib.ListN.{length, length-append}
use borrow.Author.Tests.{eqb-true, eq-eqb}
use native.Mathlib.Omega.{arith}
use native.Mathlib.Nat.{mul-one}
use Rattle.algebra.specs.Numbers.{nums, be, At, Bytes}
use Rattle.algebra.specs.Reader.{Res, Reader, ok, then, field, body, Judged, fine, unless, judged, ◌>>=◌, each, done}
use Rattle.algebra.specs.Store.{part}
use Rattle.algebra.specs.Algebra.{Exact}
use Rattle.algebra.specs.Sets.{Field, Size, Number, number, Seq, seq, Prefixed, prefixed, When, Run}
use Rattle.algebra.proofs.Laws.{field_in, body-in}
use Rattle.algebra.proofs.Places.{length-be, at_in, at_next, at_left, at_right, at_part, length_part, at_same, num-lt, num-be, be-num}
use Rattle.algebra.proofs.Inverse.{then-inv, unless-fine, field-inv, body-inv, each_none, each-inv, done-inv, ok-place}
use Rattle.algebra.proofs.Exact.{judged-exact, same-exact}

-- what a reader accepted in the file s is of X
abbrev pub Sound : {A : Type 0} → Field → List ℕ → Reader A → Type 0
Sound {A} X s p = (at : ℕ) → at ≤ length s → (a : A) (q : ℕ) → p s at ≡ ok a q → (b : List ℕ) × X b × At s at b × (at + length b ≡ q)

-- in the file s, the reader p accepts exactly the byte strings of X
pub record Reads {A : Type 0} (X : Field) (s : List ℕ) (p : Reader A) : Type 0 where
  -- where one stands, it ends behind it
  pub complete : (at : ℕ) (b : List ℕ) → X b → At s at b → (a : A) × (p s at ≡ ok a (at + length b))
  pub sound : Sound X s p

module _ {A : Type 0} {X : Field} {s : List ℕ} {p : Reader A} (r : Reads X s p) where
  -- two that stand at one place are the same
  pub reads_same : (at : ℕ) (b c : List ℕ) → X b → X c → At s at b → At s at c → b ≡ c
  reads_same at b c x y h g =
      let u = r.complete at b x h in
      let v = r.complete at c y g in
      let e : at + length b ≡ at + length c = ok-place (sym u.1 ∙ v.1) in
      at_same s at b c h g (omega arith)

  -- a larger set, and the set by another name
  pub sound-in : (Y : Field) → ((b : List ℕ) → X b → Y b) → Sound Y s p
  sound-in Y to at le a q e = let x = r.sound at le a q e in (x.0, to x.0 x.1, x.2, x.3)

  pub same_reads : (Y : Field) → ((b : List ℕ) → X b → Y b) → ((b : List ℕ) → Y b → X b) → Reads Y s p
  same_reads Y to from = record { complete = λ at b y h. r.complete at b (from b y) h; sound = sound-in Y to }

  -- only where it ends
  pub done-reads : Reads X s (λ s at. done (p s at))
  done-reads = record {
    complete = λ at b x h. let u = r.complete at b x h in (tt, ap done u.1);
    sound = λ at le a q e. let t = done-inv (p s at) e in r.sound at le t.0 q t.1;
  }

-- ---- bytes

-- n of them, whatever they are
pub size-reads : (s : List ℕ) (n : ℕ) → Reads (Size n) s (body 1 n)
size-reads s n = record {
  complete = λ at b l h.
      let e : n * 1 ≡ n = mul-one n in
      (nums 1 n s at, body-in 1 s at n (omega (arith, at_in s at b h)) ∙ ap (λ (k : ℕ). ok (nums 1 n s at) (at + k)) (e ∙ sym l));
  sound = λ at le a q e.
      let i = body-inv 1 s at n e in
      let m : n * 1 ≡ n = mul-one n in
      let l : length (part s at n) ≡ n = length_part s at n (omega arith) in
      (part s at n, l, at_part s at n (omega arith), omega arith);
}

-- ---- numbers

-- the reader m accepts exactly the numbers of w bytes of which P holds
abbrev pub Numbers : List ℕ → ℕ → (ℕ → Type 0) → Reader ℕ → Type 0
Numbers s w P m = Exact s m (λ v. v) (λ v. (v < 256 ^ w) × P v) (be w)

pub field-numbers : (s : List ℕ) → Bytes s → (w : ℕ) → Numbers s w (λ v. Unit) (field w)
field-numbers s bytes w = record {
  reads = λ at v fit h.
      let l : w ≡ length (be w v) = sym (length-be w v) in
      (v, field_in w s at (omega (arith, at_in s at (be w v) h)) ∙ ap₂ (λ (x y : ℕ). ok x (at + y)) (num-be s w at v fit.0 h) l, refl);
  writes = λ at le v q e.
      let i = field-inv w s at e in
      let l : length (be w v) ≡ w = length-be w v in
      ((subst (λ (x : ℕ). x < 256 ^ w) i.1 (num-lt s bytes w at), tt), subst (λ (x : ℕ). At s at (be w x)) i.1 (be-num s bytes w at (omega arith)), omega arith);
}

-- where the judgement is fine exactly of those
pub judged-numbers : (s : List ℕ) → Bytes s → (w : ℕ) (j : ℕ → Judged) (P : ℕ → Type 0) → ((v : ℕ) → P v → j v ≡ fine) → ((v : ℕ) → j v ≡ fine → P v) → Numbers s w P (judged w j)
judged-numbers s bytes w j P to from = same-exact (judged-exact s bytes w j) (λ v. (v < 256 ^ w) × P v) (be w) (λ v h. (h.0, from v h.1)) (λ v h. (h.0, to v h.1)) (λ v h. refl)

-- where a test decides it
pub tested-numbers : (s : List ℕ) → Bytes s → (w : ℕ) (test : ℕ → Bool) (x : ℕ) (P : ℕ → Type 0) → ((v : ℕ) → P v → test v ≡ Bool.true) → ((v : ℕ) → test v ≡ Bool.true → P v)
    → Numbers s w P (judged w (λ v. unless (test v) x))
tested-numbers s bytes w test x P to from = judged-numbers s bytes w (λ v. unless (test v) x) P (λ v h. ap (λ (b : Bool). unless b x) (to v h)) (λ v h. from v (unless-fine (test v) x h))

-- one number alone
pub tag-numbers : (s : List ℕ) → Bytes s → (w t x : ℕ) → Numbers s w (λ v. v ≡ t) (judged w (λ v. unless (eqb v t) x))
tag-numbers s bytes w t x = tested-numbers s bytes w (λ v. eqb v t) x (λ v. v ≡ t) (λ v h. eq-eqb v t h) (λ v h. eqb-true v t h)

-- the bytes of the number n, of which P holds, stand from `at` to q
pub record Stands (s : List ℕ) (w : ℕ) (P : ℕ → Type 0) (at n q : ℕ) : Type 0 where
  pub small : n < 256 ^ w
  pub holds : P n
  pub stands : At s at (be w n)
  pub next : at + w ≡ q
  pub inside : q ≤ length s

module _ {s : List ℕ} (w : ℕ) {P : ℕ → Type 0} {m : Reader ℕ} (number_is : Numbers s w P m) where
  -- where it stands it is read, and what was read stands there
  pub number-whole : (at n : ℕ) → n < 256 ^ w → P n → At s at (be w n) → m s at ≡ ok n (at + w)
  number-whole at n small p h = let x = number_is.reads at n (small, p) h in x.1 ∙ ap₂ (λ (v k : ℕ). ok v (at + k)) x.2 (length-be w n)

  pub number-sound : (at n q : ℕ) → at ≤ length s → m s at ≡ ok n q → Stands s w P at n q
  number-sound at n q le e =
      let x = number_is.writes at le n q e in
      let l : length (be w n) ≡ w = length-be w n in
      record { small = x.0.0; holds = x.0.1; stands = x.1; next = omega (arith, x.2); inside = omega (arith, at_in s at (be w n) x.1, x.2) }

  number-ends : (at : ℕ) (b : List ℕ) → Number w P b → At s at b → (a : ℕ) × (m s at ≡ ok a (at + length b))
  number-ends at b (number n small p) h = let x = number_is.reads at n (small, p) h in (x.0, x.1)

  pub number-reads : Reads (Number w P) s m
  number-reads = record {
    complete = number-ends;
    sound = λ at le n q e. let x = number_is.writes at le n q e in (be w n, number n x.0.0 x.0.1, x.1, x.2);
  }

-- a number of 32 bits, and then what it says
module _ {A : Type 0} {s : List ℕ} {P : ℕ → Type 0} {m : Reader ℕ} (number_is : Numbers s 4 P m) {Y : ℕ → Field} {k : ℕ → Reader A} (rest : (n : ℕ) → Reads (Y n) s (k n)) where
  counted-ends : (at : ℕ) (b : List ℕ) → Prefixed (λ n. When (P n) (Y n)) b → At s at b → (a : A) × ((m >>= k) s at ≡ ok a (at + length b))
  counted-ends at b (prefixed n {y = y} small p) h =
      let f = number-whole 4 number_is at n small p.0 (at_left s at (be 4 n) y h) in
      let l : length (be 4 n) ≡ 4 = length-be 4 n in
      let r = (rest n).complete (at + length (be 4 n)) y p.1 (at_right s at (be 4 n) y h) in
      let e : at + length (be 4 n) + length y ≡ at + length (be 4 n ++ y) = omega (arith, length-append (be 4 n) y) in
      (r.0, ap (λ (x : Res ℕ). then x (λ a n. k a s n)) (f ∙ ap (λ (z : ℕ). ok n (at + z)) (sym l)) ∙ r.1 ∙ ap (λ (z : ℕ). ok r.0 z) e)

  counted_back : Sound (Prefixed (λ n. When (P n) (Y n))) s (m >>= k)
  counted_back at le a q e =
      let t = then-inv (m s at) _ e in
      let i = number-sound 4 number_is at t.0 t.1 le t.2 in
      let n : ℕ = t.0 in
      let l : length (be 4 n) ≡ 4 = length-be 4 n in
      let r = (rest n).sound t.1 i.inside a q t.3 in
      (be 4 n ++ r.0, prefixed n i.small (i.holds, r.1), at_next s at (be 4 n) r.0 t.1 (omega (arith, i.next)) i.stands r.2, omega (arith, length-append (be 4 n) r.0, r.3, i.next))

  pub when-reads : Reads (Prefixed (λ n. When (P n) (Y n))) s (m >>= k)
  when-reads = record { complete = counted-ends; sound = counted_back }

-- the same, whatever the number is
pub counted-reads : {A : Type 0} {s : List ℕ} → Bytes s → {Y : ℕ → Field} {k : ℕ → Reader A} → ((n : ℕ) → Reads (Y n) s (k n)) → Reads (Prefixed Y) s (field 4 >>= k)
counted-reads {s = s} bytes {Y} rest = same_reads (when-reads (field-numbers s bytes 4) rest) (Prefixed Y) to from
  where
    to : (b : List ℕ) → Prefixed (λ n. When Unit (Y n)) b → Prefixed Y b
    to b (prefixed n l h) = prefixed n l h.1

    from : (b : List ℕ) → Prefixed Y b → Prefixed (λ n. When Unit (Y n)) b
    from b (prefixed n l h) = prefixed n l (tt, h)

-- ---- sequence

module _ {A B : Type 0} {X Y : Field} {s : List ℕ} {m : Reader A} {k : A → Reader B} (one : Reads X s m) (two : (a : A) → Reads Y s (k a)) where
  seq-ends : (at : ℕ) (b : List ℕ) → Seq X Y b → At s at b → (c : B) × ((m >>= k) s at ≡ ok c (at + length b))
  seq-ends at b (seq {x = x} {y = y} hx hy) h =
      let u = one.complete at x hx (at_left s at x y h) in
      let v = (two u.0).complete (at + length x) y hy (at_right s at x y h) in
      let e : at + length x + length y ≡ at + length (x ++ y) = omega (arith, length-append x y) in
      (v.0, ap (λ (r : Res A). then r (λ a n. k a s n)) u.1 ∙ v.1 ∙ ap (λ (z : ℕ). ok v.0 z) e)

  seq-back : Sound (Seq X Y) s (m >>= k)
  seq-back at le c q e =
      let t = then-inv (m s at) _ e in
      let u = one.sound at le t.0 t.1 t.2 in
      let v = (two t.0).sound t.1 (omega (arith, at_in s at u.0 u.2, u.3)) c q t.3 in
      (u.0 ++ v.0, seq u.1 v.1, at_next s at u.0 v.0 t.1 u.3 u.2 v.2, omega (arith, length-append u.0 v.0, u.3, v.3))

  pub seq-reads : Reads (Seq X Y) s (m >>= k)
  seq-reads = record { complete = seq-ends; sound = seq-back }

-- n of X, one after the other
module _ {A : Type 0} {X : Field} {s : List ℕ} {p : Reader A} (item : Reads X s p) where
  run_ends : (n i at : ℕ) (b : List ℕ) → Run X n b → At s at b → (l : List A) × (each n i (λ k. p) s at ≡ ok l (at + length b))
  unfolding each
  run_ends zero i at b l h = let e : at ≡ at + length b = omega arith in ([], ap (λ (z : ℕ). ok [] z) e)
  run_ends (suc n) i at b (seq {x = x} {y = y} hx hy) h =
      let u = item.complete at x hx (at_left s at x y h) in
      let v = run_ends n (i + 1) (at + length x) y hy (at_right s at x y h) in
      let e : at + length x + length y ≡ at + length (x ++ y) = omega (arith, length-append x y) in
      (u.0 ∷ v.0, rw u.1 (rw v.1 (ap (λ (z : ℕ). ok (u.0 ∷ v.0) z) e)))

  run-back : (n i : ℕ) → Sound (Run X n) s (each n i (λ k. p))
  unfolding At
  run-back zero i at le l q e = let z = each_none (λ k. p) s i at e in ([], refl, le, omega (arith, z.1))
  run-back (suc n) i at le l q e =
      let t = each-inv (λ k. p) s n i at e in
      let u = item.sound at le t.0 t.1 t.3 in
      let v = run-back n (i + 1) t.1 (omega (arith, at_in s at u.0 u.2, u.3)) t.2 q t.4 in
      (u.0 ++ v.0, seq u.1 v.1, at_next s at u.0 v.0 t.1 u.3 u.2 v.2, omega (arith, length-append u.0 v.0, u.3, v.3))

  pub run-reads : (n i : ℕ) → Reads (Run X n) s (each n i (λ k. p))
  run-reads n i = record { complete = run_ends n i; sound = run-back n i }
