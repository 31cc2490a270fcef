-- Which samples are allowed and which colours have no fault, on plain values. Assumes nothing.
use Prim.Native.Nat.{ℕ, zero, suc, ◌≤◌, ◌<◌}
use mathlib.Core.Path.{◌≡◌, refl, sym}
use mathlib.Core.List.{[], ◌∷◌}
use mathlib.Core.Bool.{Bool, true, false, ◌&&◌, ◌||◌, true≢false}
use native.Mathlib.Omega.{arith}
use lib.Dec.{leb, ltb, eqb}
use borrow.Author.Tests.{lt-ltb, le-ltb, lt-leb, le-leb, leb-true, ne_eqb, eqb-true}
use Rattle.algebra.specs.Reader.{pick}
use Rattle.colour.specs.Spaces.{uses, full, known, chrominance, ranged, allowed, all_allowed, sound}

pub pick_same : (b : Bool) → pick b true false ≡ b
pick_same true = refl
pick_same false = refl

-- 16 bits hold no number past 65,535
pub small-leb : (v : ℕ) → v < 65536 → leb v 65535 ≡ true
small-leb v h = le-leb v 65535 (omega arith)

pub chrominance-plus : (v : ℕ) → v ≤ 12700 → chrominance v ≡ true
unfolding chrominance
chrominance-plus v h = rw (le-leb v 12700 h)

pub chrominance-minus : (v : ℕ) → v < 65536 → 12700 < v → chrominance v ≡ leb 52736 v
unfolding chrominance
chrominance-minus v small h = rw (lt-leb v 12700 h, small-leb v small) (pick_same _)

pub chrominance-is : (v : ℕ) → v < 65536 → chrominance v ≡ (leb v 12700 || leb 52736 v)
unfolding chrominance
chrominance-is v small = rw (small-leb v small) (go (leb v 12700) (leb 52736 v))
  where
    go : (p q : Bool) → pick p true (pick q true false) ≡ (p || q)
    go true q = refl
    go false true = refl
    go false false = refl

-- ---- the range of a sample

pub ranged-full : (x k v : ℕ) → (x ≡ 7 → ⊥) → ranged x k v ≡ leb v (full x)
unfolding ranged
ranged-full x k v h = rw (ne_eqb x 7 h)

pub ranged-light : (x k v : ℕ) → k ≡ 0 → ranged x k v ≡ leb v (full x)
unfolding ranged
ranged-light x k v h = rw h (go (eqb x 7))
  where
    go : (b : Bool) → pick (b && false) (chrominance v) (leb v (full x)) ≡ leb v (full x)
    go true = refl
    go false = refl

pub ranged-chrominance : (x k v : ℕ) → x ≡ 7 → (k ≡ 0 → ⊥) → ranged x k v ≡ chrominance v
unfolding ranged
ranged-chrominance x k v e h = rw (e, lt-ltb 0 k (omega (arith, h)))

pub allowed-unused : (x k v : ℕ) → uses x ≤ k → allowed x k v ≡ eqb v 0
unfolding allowed
allowed-unused x k v h = rw (le-ltb k (uses x) h)

pub allowed-used : (x k v : ℕ) → k < uses x → allowed x k v ≡ ranged x k v
unfolding allowed
allowed-used x k v h = rw (lt-ltb k (uses x) h)

-- ---- every sample that is allowed has 16 bits

full-most : (x : ℕ) → full x ≤ 65535
unfolding full
full-most x = go (eqb x 0) (eqb x 1) (eqb x 2) (eqb x 7) (eqb x 8)
  where
    go : (a b c d e : Bool) → pick a 65535 (pick b 65535 (pick c 65535 (pick d 10000 (pick e 10000 0)))) ≤ 65535
    go true b c d e = omega arith
    go false true c d e = omega arith
    go false false true d e = omega arith
    go false false false true e = omega arith
    go false false false false true = omega arith
    go false false false false false = omega arith

chrominance-small : (v : ℕ) → chrominance v ≡ true → v ≤ 65535
unfolding chrominance
chrominance-small v e = go (leb v 12700) (leb 52736 v) refl e
  where
    go : (p q : Bool) → leb v 12700 ≡ p → pick p true (pick q (leb v 65535) false) ≡ true → v ≤ 65535
    go true q f g = omega (arith, leb-true v 12700 f)
    go false true f g = leb-true v 65535 g
    go false false f g = absurd (true≢false (sym g))

pub allowed-small : (x k v : ℕ) → allowed x k v ≡ true → v ≤ 65535
unfolding allowed ranged
allowed-small x k v e = go (ltb k (uses x)) (eqb x 7 && ltb 0 k) e
  where
    go : (p q : Bool) → pick p (pick q (chrominance v) (leb v (full x))) (eqb v 0) ≡ true → v ≤ 65535
    go true true g = chrominance-small v g
    go true false g = omega (arith, leb-true v (full x) g, full-most x)
    go false q g = omega (arith, eqb-true v 0 g)

-- ---- a colour by its space

and-picks : (p q r t : Bool) → pick p (pick q (pick r (pick t true false) false) false) false ≡ (p && q && r && t)
and-picks true true true true = refl
and-picks true true true false = refl
and-picks true true false t = refl
and-picks true false r t = refl
and-picks false q r t = refl

module _ (x a b c d : ℕ) where
  -- RGB, HSB and CMYK: 16 bits hold no sample past their scale
  pub sound-whole : x ≤ 2 → a < 65536 → b < 65536 → c < 65536 → d < 65536 → sound x (a ∷ b ∷ c ∷ d ∷ []) ≡ (eqb d 0 || eqb x 2)
  unfolding sound known all_allowed allowed ranged uses full
  sound-whole h p q r t = go x h
    where
      last : (b : Bool) → pick b true false ≡ (b || false)
      last true = refl
      last false = refl

      any : (b : Bool) → true ≡ (b || true)
      any true = refl
      any false = refl

      go : (y : ℕ) → y ≤ 2 → sound y (a ∷ b ∷ c ∷ d ∷ []) ≡ (eqb d 0 || eqb y 2)
      go zero g = rw (small-leb a p, small-leb b q, small-leb c r) (last (eqb d 0))
      go (suc zero) g = rw (small-leb a p, small-leb b q, small-leb c r) (last (eqb d 0))
      go (suc (suc zero)) g = rw (small-leb a p, small-leb b q, small-leb c r, small-leb d t) (any (eqb d 0))
      go (suc (suc (suc y))) g = absurd (omega arith)

  pub sound-lab : x ≡ 7 → sound x (a ∷ b ∷ c ∷ d ∷ []) ≡ (leb a 10000 && chrominance b && chrominance c && eqb d 0)
  unfolding sound known all_allowed allowed ranged uses full
  sound-lab e = rw e (and-picks (leb a 10000) (chrominance b) (chrominance c) (eqb d 0))

  pub sound-gray : x ≡ 8 → sound x (a ∷ b ∷ c ∷ d ∷ []) ≡ (leb a 10000 && eqb b 0 && eqb c 0 && eqb d 0)
  unfolding sound known all_allowed allowed ranged uses full
  sound-gray e = rw e (and-picks (leb a 10000) (eqb b 0) (eqb c 0) (eqb d 0))

  pub sound-unknown : 2 < x → (x ≡ 7 → ⊥) → (x ≡ 8 → ⊥) → sound x (a ∷ b ∷ c ∷ d ∷ []) ≡ false
  unfolding sound known uses
  sound-unknown h t u = rw (ne_eqb x 0 (λ e. omega arith), ne_eqb x 1 (λ e. omega arith), ne_eqb x 2 (λ e. omega arith), ne_eqb x 7 t, ne_eqb x 8 u)

pub both : (p q : Bool) → pick p q false ≡ true → (p ≡ true) × (q ≡ true)
both true q e = (refl, e)
both false q e = absurd (true≢false (sym e))

-- what a sound colour has
pub record Sound (x a b c d : ℕ) : Type 0 where
  pub is_known : known x ≡ true
  pub first : allowed x 0 a ≡ true
  pub second : allowed x 1 b ≡ true
  pub third : allowed x 2 c ≡ true
  pub fourth : allowed x 3 d ≡ true

pub sound-inv : (x a b c d : ℕ) → sound x (a ∷ b ∷ c ∷ d ∷ []) ≡ true → Sound x a b c d
unfolding sound all_allowed
sound-inv x a b c d e =
    let k = both (known x) _ e in
    let p = both (allowed x 0 a) _ k.1 in
    let q = both (allowed x 1 b) _ p.1 in
    let r = both (allowed x 2 c) _ q.1 in
    let t = both (allowed x 3 d) _ r.1 in
    record { is_known = k.0; first = p.0; second = q.0; third = r.0; fourth = t.0 }
