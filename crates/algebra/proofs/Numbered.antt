-- A writer's fault is none, or one of some numbers: each combinator of faults; and so is what it answers. Assumes nothing.
use Prim.Native.Nat.{ℕ, ◌+◌, ◌-◌, ◌*◌}
use mathlib.Core.Path.{◌≡◌, refl, sym, ap, subst}
use mathlib.Core.List.{List, [], ◌∷◌, ◌++◌}
use mathlib.Core.Bool.{Bool, true, false, not}
use lib.Dec.{leb, eqb}
use lib.ListN.{length, drop}
use native.Mathlib.Omega.{arith}
use Rattle.algebra.specs.Numbers.{nums}
use Rattle.algebra.specs.Reader.{ok, refuse, then, pick, body, unless, rule, number_of}
use Rattle.algebra.specs.Text.{any_zero, text}
use Rattle.algebra.specs.Faults.{first_of, faults, faults_from, faults_in}
use Rattle.algebra.specs.Writing.{Outcome, bytes, refused, needs, writes}
use Rattle.algebra.specs.Refusal.{one_of, Of, among}

-- none, or one of the numbers
abbrev pub Fault : List ℕ → ℕ → Type 0
Fault ns x = Of (0 ∷ ns) x

module _ {ns : List ℕ} where
  pub no-fault : Fault ns 0
  no-fault = among refl

  pub pick-fault : (b : Bool) {x y : ℕ} → Fault ns x → Fault ns y → Fault ns (pick b x y)
  pick-fault true h g = h
  pick-fault false h g = g

  pub first-fault : (a b : ℕ) → Fault ns a → Fault ns b → Fault ns (first_of a b)
  first-fault a b h g = pick-fault (eqb a 0) g h

  pub faults-fault : {A : Type 0} (f : A → ℕ) → ((a : A) → Fault ns (f a)) → (l : List A) → Fault ns (faults f l)
  unfolding faults
  faults-fault f h [] = no-fault
  faults-fault f h (a ∷ l) = first-fault (f a) (faults f l) (h a) (faults-fault f h l)

  pub from-fault : {A : Type 0} (f : ℕ → A → ℕ) → ((i : ℕ) (a : A) → Fault ns (f i a)) → (i : ℕ) (l : List A) → Fault ns (faults_from f i l)
  unfolding faults_from
  from-fault f h i [] = no-fault
  from-fault f h i (a ∷ l) = first-fault (f i a) (faults_from f (i + 1) l) (h i a) (from-fault f h (i + 1) l)

  pub in-fault : {A S : Type 0} (next : S → A → S) (f : S → A → ℕ) → ((d : S) (a : A) → Fault ns (f d a)) → (d : S) (l : List A) → Fault ns (faults_in next f d l)
  unfolding faults_in
  in-fault next f h d [] = no-fault
  in-fault next f h d (a ∷ l) = first-fault (f d a) (faults_in next f (next d a) l) (h d a) (in-fault next f h (next d a) l)

  -- units in lent bytes: 2 or 8
  pub text-fault : Fault ns 2 → Fault ns 8 → (n : ℕ) (s : List ℕ) (at : ℕ) → Fault ns (number_of (text n s at))
  unfolding text body
  text-fault two eight n s at = go (leb (n * 2) (length s - at))
    where
      closing : (b : Bool) (us : List ℕ) (q : ℕ) → Fault ns (number_of (rule (unless b 8) at (ok us q)))
      closing true us q = no-fault
      closing false us q = eight

      go : (b : Bool) → Fault ns (number_of (then (pick b (ok (nums 2 n s at) (at + n * 2)) (refuse 2 at 0 0)) (λ us end. rule (unless (not (any_zero us)) 8) at (ok us end))))
      go true = closing (not (any_zero (nums 2 n s at))) (nums 2 n s at) (at + n * 2)
      go false = two

  -- a body in lent bytes: 2
  pub body-fault : Fault ns 2 → (w n : ℕ) (s : List ℕ) (at : ℕ) → Fault ns (number_of (body w n s at))
  unfolding body
  body-fault two w n s at = go (leb (n * w) (length s - at))
    where
      go : (b : Bool) → Fault ns (number_of (pick b (ok (nums w n s at) (at + n * w)) (refuse 2 at 0 0)))
      go true = no-fault
      go false = two

-- a fault that is not 0 is one of the numbers
fault-some : (ns : List ℕ) (x : ℕ) → eqb x 0 ≡ false → Fault ns x → Of ns x
fault-some ns x e (among h) = among (subst (λ (b : Bool). pick b true (one_of ns x) ≡ true) e h)

-- ---- what a writer answers

same-refusal : {x y p q : ℕ} → refused x q ≡ refused y p → (x ≡ y) × (p ≡ q)
same-refusal e = (cc, cc)

not-bytes : {n y p : ℕ} → bytes n ≡ refused y p → ⊥
not-bytes e = let z : ◌≡◌ {A = ℕ} 0 1 = cc in absurd (omega arith)

-- a refusal of one that says how much it needs: its number is one of these, and its place 0
pub needs-refused : {ns : List ℕ} (x n : ℕ) → Fault ns x → {y p : ℕ} → needs x n ≡ refused y p → Of ns y × (p ≡ 0)
needs-refused {ns} x n h {y} {p} e = go (eqb x 0) refl e
  where
    go : (b : Bool) → eqb x 0 ≡ b → pick b (bytes n) (refused x 0) ≡ refused y p → Of ns y × (p ≡ 0)
    go true t e = absurd (not-bytes e)
    go false t e = let i = same-refusal e in (subst (Of ns) i.0 (fault-some ns x t h), i.1)

-- of one that writes: that, or 11; and the lent bytes are as they were
pub writes-refused : {ns : List ℕ} (x n : ℕ) (file out : List ℕ) → Fault ns x → {y p : ℕ} {out' : List ℕ} → writes x n file out ≡ (refused y p, out') → Of (11 ∷ ns) y × (p ≡ 0) × (out' ≡ out)
writes-refused {ns} x n file out h {y} {p} {out'} e = go (eqb x 0) refl (leb n (length out)) e
  where
    more : (b : Bool) → one_of ns x ≡ true → pick b true (one_of ns x) ≡ true
    more true o = refl
    more false o = o

    wider : Of ns x → Of (11 ∷ ns) x
    wider (among o) = among (more (eqb x 11) o)

    left : {z : ℕ} → Of (11 ∷ ns) z → ◌≡◌ {A = Outcome × List ℕ} (refused z 0, out) (refused y p, out') → Of (11 ∷ ns) y × (p ≡ 0) × (out' ≡ out)
    left o e = let i = same-refusal (ap (λ (w : Outcome × List ℕ). w.0) e) in (subst (Of (11 ∷ ns)) i.0 o, i.1, sym (ap (λ (w : Outcome × List ℕ). w.1) e))

    go : (b : Bool) → eqb x 0 ≡ b → (c : Bool) → ◌≡◌ {A = Outcome × List ℕ} (pick b (pick c (bytes n, file ++ drop n out) (refused 11 0, out)) (refused x 0, out)) (refused y p, out') → Of (11 ∷ ns) y × (p ≡ 0) × (out' ≡ out)
    go true t true e = absurd (not-bytes (ap (λ (w : Outcome × List ℕ). w.0) e))
    go true t false e = left (among refl) e
    go false t c e = left (wider (fault-some ns x t h)) e
