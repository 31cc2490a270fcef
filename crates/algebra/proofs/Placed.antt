-- Refusals have one of some numbers and a place of the file: each combinator. Assumes nothing.
use Prim.Native.Nat.{ℕ, zero, suc, ◌+◌, ◌-◌, ◌*◌, ◌≤◌}
use mathlib.Core.Path.{◌≡◌, refl, sym, ap, ◌∙◌, subst}
use mathlib.Core.List.{List, [], ◌∷◌}
use mathlib.Core.Bool.{Bool, true, false}
use lib.ListN.{length}
use lib.Dec.{leb, ltb, eqb}
use borrow.Author.Tests.{leb-true, eqb-true}
use native.Mathlib.Omega.{arith}
use Rattle.algebra.specs.Numbers.{num, nums, All}
use Rattle.algebra.specs.Reader.{Res, Reader, ok, refuse, then, pick, field, body, Judged, fine, fault, unless, rule, judged, each, chain, ended, done, limit}
use Rattle.algebra.specs.Text.{closed, name}
use Rattle.algebra.specs.Refusal.{one_of, Of, among, Placed, ends, fails, Numbered}

-- ---- numbers

module _ {ns : List ℕ} where
  pub unless-numbered : (b : Bool) {n : ℕ} → Of ns n → Numbered ns (unless b n)
  unless-numbered true h = tt
  unless-numbered false h = h

  pub differ-numbered : (b : Bool) {n : ℕ} (i f : ℕ) → Of ns n → Numbered ns (pick b fine (fault n i f))
  differ-numbered true i f h = tt
  differ-numbered false i f h = h

-- what holds of each of the numbers
one_each : (P : ℕ → Type 0) (ns : List ℕ) (i : ℕ) → All (λ k n. P n) i ns → (x : ℕ) → one_of ns x ≡ true → P x
one_each P [] i h x o = let z : ◌≡◌ {A = ℕ} 0 1 = cc in absurd (omega arith)
one_each P (n ∷ ns) i h x o = go (eqb x n) refl (one_each P ns (i + 1) h.1 x)
  where
    go : (b : Bool) → eqb x n ≡ b → (one_of ns x ≡ true → P x) → P x
    go true e more = subst P (sym (eqb-true x n e)) h.0
    go false e more = more (subst (λ (b : Bool). pick b true (one_of ns x) ≡ true) e o)

pub of-each : (P : ℕ → Type 0) (ns : List ℕ) → All (λ k n. P n) 0 ns → {x : ℕ} → Of ns x → P x
of-each P ns h {x} (among o) = one_each P ns 0 h x o

-- numbers that are all among others
abbrev pub all_of : List ℕ → List ℕ → Bool
all_of [] ms = true
all_of (n ∷ ns) ms = pick (one_of ms n) (all_of ns ms) false

pub all_one : (ns ms : List ℕ) → all_of ns ms ≡ true → (x : ℕ) → one_of ns x ≡ true → one_of ms x ≡ true
all_one [] ms h x o = let z : ◌≡◌ {A = ℕ} 0 1 = cc in absurd (omega arith)
all_one (n ∷ ns) ms h x o = go (one_of ms n) refl (eqb x n) refl (all_one ns ms)
  where
    go : (a : Bool) → one_of ms n ≡ a → (b : Bool) → eqb x n ≡ b → (all_of ns ms ≡ true → (x : ℕ) → one_of ns x ≡ true → one_of ms x ≡ true) → one_of ms x ≡ true
    go true e true f more = ap (one_of ms) (eqb-true x n f) ∙ e
    go true e false f more = more (subst (λ (a : Bool). pick a (all_of ns ms) false ≡ true) e h) x (subst (λ (b : Bool). pick b true (one_of ns x) ≡ true) f o)
    go false e b f more = let z : pick false (all_of ns ms) false ≡ true = subst (λ (a : Bool). pick a (all_of ns ms) false ≡ true) e h in let y : ◌≡◌ {A = ℕ} 0 1 = cc in absurd (omega arith)

pub of-all : (ns ms : List ℕ) → all_of ns ms ≡ true → {x : ℕ} → Of ns x → one_of ms x ≡ true
of-all ns ms h {x} (among o) = all_one ns ms h x o

-- ---- answers

module _ {ns s : List ℕ} where
  -- a refusal has one of the numbers, and is in the file
  pub refusal-placed : {A : Type 0} {m : Res A} {x p r f : ℕ} → Placed ns s m → m ≡ refuse x p r f → Of ns x × (p ≤ length s)
  refusal-placed {x = x} {p = p} (fails {x = y} {p = q} h l) e =
      let a : y ≡ x = cc in
      let b : q ≡ p = cc in
      (subst (Of ns) a h, subst (λ (z : ℕ). z ≤ length s) b l)
  refusal-placed (ends l) e = let z : ◌≡◌ {A = ℕ} 0 1 = cc in absurd (omega arith)

  pub placed-then : {A B : Type 0} (m : Res A) (k : A → ℕ → Res B) → Placed ns s m → ((a : A) (q : ℕ) → q ≤ length s → Placed ns s (k a q)) → Placed ns s (then m k)
  placed-then (ok a q) k (ends h) g = g a q h
  placed-then (refuse x p r f) k (fails h l) g = fails h l

  -- the same with what was read
  pub placed-from : {A B : Type 0} (m : Res A) (k : A → ℕ → Res B) → Placed ns s m → ((a : A) (q : ℕ) → m ≡ ok a q → q ≤ length s → Placed ns s (k a q)) → Placed ns s (then m k)
  placed-from (ok a q) k (ends h) g = g a q refl h
  placed-from (refuse x p r f) k (fails h l) g = fails h l

  pub placed-pick : {A : Type 0} (b : Bool) {m n : Res A} → Placed ns s m → Placed ns s n → Placed ns s (pick b m n)
  placed-pick true g h = g
  placed-pick false g h = h

  pub placed-rule : {A : Type 0} (j : Judged) {p : ℕ} {m : Res A} → Numbered ns j → p ≤ length s → Placed ns s m → Placed ns s (rule j p m)
  placed-rule fine t l h = h
  placed-rule (fault x r f) t l h = fails t l

  pub placed-done : {A : Type 0} (m : Res A) → Placed ns s m → Placed ns s (done m)
  placed-done (ok a q) (ends h) = ends h
  placed-done (refuse x p r f) (fails h l) = fails h l

  -- ---- repetition

  pub each_placed : {A : Type 0} (p : ℕ → Reader A) → ((i at : ℕ) → at ≤ length s → Placed ns s (p i s at)) → (n i at : ℕ) → at ≤ length s → Placed ns s (each n i p s at)
  unfolding each
  each_placed p g zero i at l = ends l
  each_placed p g (suc n) i at l = placed-then (p i s at) _ (g i at l) (λ a q h. placed-then (each n (i + 1) p s q) _ (each_placed p g n (i + 1) q h) (λ more e w. ends w))

  pub chain-placed : {A S : Type 0} (next : S → A → S) (p : S → Reader A) → ((d : S) (at : ℕ) → at ≤ length s → Placed ns s (p d s at)) → (n : ℕ) (d : S) (at : ℕ) → at ≤ length s → Placed ns s (chain next p n d s at)
  unfolding chain
  chain-placed next p g zero d at l = ends l
  chain-placed next p g (suc n) d at l = placed-then (p d s at) _ (g d at l) (λ a q h. placed-then (chain next p n (next d a) s q) _ (chain-placed next p g n (next d a) q h) (λ more e w. ends w))

  -- ---- the file's end, and where it is longer than the limit

  pub ended-placed : {A : Type 0} → Of ns 6 → (a : A) (at : ℕ) → at ≤ length s → Placed ns s (ended a s at)
  unfolding ended
  ended-placed six a at l = placed-pick (eqb at (length s)) (ends l) (fails six l)

  pub limited-placed : {A : Type 0} {m : Res A} {n : ℕ} → Of ns n → Placed ns s m → Placed ns s (pick (leb (length s) limit) m (refuse n 0 0 0))
  limited-placed one h = let i : 0 ≤ length s = omega arith in placed-pick (leb (length s) limit) h (fails one i)

-- ---- fields, which give 2

module _ {ns s : List ℕ} (two : Of ns 2) where
  pub field-placed : (w at : ℕ) → at ≤ length s → Placed ns s (field w s at)
  unfolding field
  field-placed w at l = go (leb w (length s - at)) refl
    where
      go : (b : Bool) → leb w (length s - at) ≡ b → Placed ns s (pick b (ok (num w s at) (at + w)) (refuse 2 at 0 0))
      go true e = let h : w ≤ length s - at = leb-true _ _ e in let i : at + w ≤ length s = omega arith in ends i
      go false e = fails two l

  pub body-placed : (w n at : ℕ) → at ≤ length s → Placed ns s (body w n s at)
  unfolding body
  body-placed w n at l = go (leb (n * w) (length s - at)) refl
    where
      go : (b : Bool) → leb (n * w) (length s - at) ≡ b → Placed ns s (pick b (ok (nums w n s at) (at + n * w)) (refuse 2 at 0 0))
      go true e = let h : n * w ≤ length s - at = leb-true _ _ e in let i : at + n * w ≤ length s = omega arith in ends i
      go false e = fails two l

  pub judged-placed : (w : ℕ) (j : ℕ → Judged) (at : ℕ) → ((v : ℕ) → Numbered ns (j v)) → at ≤ length s → Placed ns s (judged w j s at)
  judged-placed w j at t l = placed-then (field w s at) _ (field-placed w at l) (λ v q h. placed-rule (j v) (t v) l (ends h))

  pub name-placed : Of ns 8 → (w at : ℕ) → at ≤ length s → Placed ns s (name w s at)
  unfolding name
  name-placed eight w at l =
      let j : ℕ → Judged = λ n. unless (ltb 0 n) 8 in
      placed-then (judged w j s at) _ (judged-placed w j at (λ n. unless-numbered (ltb 0 n) eight) l)
      (λ n first h. placed-then (body 2 n s first) _ (body-placed 2 n first h) (λ us e g. placed-rule (unless (closed us) 8) (unless-numbered (closed us) eight) l (ends g)))
