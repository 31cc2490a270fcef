-- Counted repetition with a state: what is known where it accepts, and that it accepts exactly what is written. Assumes nothing.
use Prim.Native.Nat.{ℕ, zero, suc, ◌+◌, ◌≤◌}
use mathlib.Core.Path.{◌≡◌, refl, sym, ap, ap₂, ◌∙◌, subst}
use mathlib.Core.List.{List, [], ◌∷◌, ◌++◌, map}
use lib.ListN.{length, length-append}
use native.Mathlib.Omega.{arith}
use native.Mathlib.Nat.{add-zero}
use Rattle.algebra.specs.Numbers.{joined, At, All, AllIn}
use Rattle.algebra.specs.Reader.{Reader, ok, then, state_after, chain}
use Rattle.algebra.specs.Faults.{first_of, faults_in}
use Rattle.algebra.specs.Algebra.{Same, Lawful, Exact, Tells}
use Rattle.algebra.proofs.Places.{at_in, at_next, at_left, at_right}
use Rattle.algebra.proofs.Inverse.{then-inv, ok-value, ok-place}
use Rattle.algebra.proofs.Lawful.{same_left, same-right}
use Rattle.algebra.proofs.Tells.{Outcome, good, outcome-fault, outcome-then, tells, outcome, Gives, first-zero, first-none, first-inv}

-- ---- values of a list, each in the state that those before it left

pub in_map : {A S : Type 0} (next : S → A → S) (P Q : S → A → Type 0) → ((d : S) (a : A) → P d a → Q d a) → (d : S) (l : List A) → AllIn next P d l → AllIn next Q d l
in_map next P Q f d [] h = tt
in_map next P Q f d (a ∷ l) h = (f d a h.0, in_map next P Q f (next d a) l h.1)

pub in_both : {A S : Type 0} (next : S → A → S) (P Q : S → A → Type 0) (d : S) (l : List A) → AllIn next P d l → AllIn next Q d l → AllIn next (λ d a. P d a × Q d a) d l
in_both next P Q d [] h g = tt
in_both next P Q d (a ∷ l) h g = ((h.0, g.0), in_both next P Q (next d a) l h.1 g.1)

-- what does not look at the state
pub all_in : {A S : Type 0} (next : S → A → S) (P : A → Type 0) (d : S) (i : ℕ) (l : List A) → All (λ k a. P a) i l → AllIn next (λ e a. P a) d l
all_in next P d i [] h = tt
all_in next P d i (a ∷ l) h = (h.0, all_in next P (next d a) (i + 1) l h.1)

pub in_all : {A S : Type 0} (next : S → A → S) (P : A → Type 0) (d : S) (i : ℕ) (l : List A) → AllIn next (λ e a. P a) d l → All (λ k a. P a) i l
in_all next P d i [] h = tt
in_all next P d i (a ∷ l) h = (h.0, in_all next P (next d a) (i + 1) l h.1)

-- no value has a fault where the list has none
pub in-inv : {A S : Type 0} (next : S → A → S) (f : S → A → ℕ) (d : S) (l : List A) → faults_in next f d l ≡ 0 → AllIn next (λ e a. f e a ≡ 0) d l
unfolding faults_in
in-inv next f d [] e = tt
in-inv next f d (a ∷ l) e = let x = first-inv (f d a) (faults_in next f (next d a) l) e in (x.0, in-inv next f (next d a) l x.1)

pub in-none : {A S : Type 0} (next : S → A → S) (f : S → A → ℕ) (d : S) (l : List A) → AllIn next (λ e a. f e a ≡ 0) d l → faults_in next f d l ≡ 0
unfolding faults_in
in-none next f d [] h = refl
in-none next f d (a ∷ l) h = first-none (f d a) (faults_in next f (next d a) l) h.0 ∙ in-none next f (next d a) l h.1

-- ---- what is known where it accepts

module _ {A S : Type 0} (next : S → A → S) (p : S → Reader A) (s : List ℕ) where
  pub chain-none : (d : S) (at : ℕ) {vs : List A} {q : ℕ} → chain next p 0 d s at ≡ ok vs q → ([] ≡ vs) × (at ≡ q)
  unfolding chain
  chain-none d at e = (ok-value e, ok-place e)

  -- the first item, and the others in the state that it left
  pub chain-inv : (n : ℕ) (d : S) (at : ℕ) {vs : List A} {q : ℕ} → chain next p (suc n) d s at ≡ ok vs q
      → (a : A) × (r : ℕ) × (more : List A) × (p d s at ≡ ok a r) × (chain next p n (next d a) s r ≡ ok more q) × (a ∷ more ≡ vs)
  unfolding chain
  chain-inv n d at e =
      let t = then-inv (p d s at) _ e in
      let u = then-inv (chain next p n (next d t.0) s t.1) _ t.3 in
      (t.0, t.1, u.0, t.2, u.2 ∙ ap (λ (k : ℕ). ok u.0 k) (ok-place u.3), ok-value u.3)

  pub chain_length : (n : ℕ) (d : S) (at : ℕ) {vs : List A} {q : ℕ} → chain next p n d s at ≡ ok vs q → length vs ≡ n
  chain_length zero d at e = sym (ap length (chain-none d at e).0)
  chain_length (suc n) d at e =
      let t = chain-inv n d at e in
      sym (ap length t.5) ∙ ap suc (chain_length n (next d t.0) t.1 t.4)

-- ---- the state of an item that was read is that of its value

module _ {A B S : Type 0} (next : S → A → S) (next' : S → B → S) (view : A → B) (tie : (d : S) (a : A) → next d a ≡ next' d (view a)) where
  pub state-map : (d : S) (l : List A) → state_after next d l ≡ state_after next' d (map view l)
  unfolding state_after
  state-map d [] = refl
  state-map d (a ∷ l) = state-map (next d a) l ∙ ap (λ (e : S). state_after next' e (map view l)) (tie d a)

  -- ---- what is read is what was written, and back

  module _ {s : List ℕ} {p : S → Reader A} {ser : B → List ℕ} where
    module _ {Ok : S → B → Type 0} (item : (d : S) → Exact s (p d) view (Ok d) ser) where
      chain-reads : (n : ℕ) (d : S) (at : ℕ) (bs : List B) → (length bs ≡ n) × AllIn next' Ok d bs → At s at (joined ser bs) → (l : List A) × (chain next p n d s at ≡ ok l (at + length (joined ser bs))) × (map view l ≡ bs)
      unfolding chain joined
      chain-reads zero d at [] fit h = ([], ap (λ (k : ℕ). ok [] k) (sym (add-zero at)), refl)
      chain-reads zero d at (b ∷ bs) fit h = absurd (omega (arith, fit.0))
      chain-reads (suc n) d at [] fit h = absurd (omega (arith, fit.0))
      chain-reads (suc n) d at (b ∷ bs) fit h =
          let x = (item d).reads at b fit.1.0 (at_left s at (ser b) (joined ser bs) h) in
          let st : next' d b ≡ next d x.0 = sym (tie d x.0 ∙ ap (next' d) x.2) in
          let y = chain-reads n (next d x.0) (at + length (ser b)) bs (omega (arith, fit.0), subst (λ (e : S). AllIn next' Ok e bs) st fit.1.1) (at_right s at (ser b) (joined ser bs) h) in
          let l : at + length (ser b) + length (joined ser bs) ≡ at + length (ser b ++ joined ser bs) = omega (arith, length-append (ser b) (joined ser bs)) in
          (x.0 ∷ y.0, rw x.1 (rw y.1 (ap (λ (k : ℕ). ok (x.0 ∷ y.0) k) l)), ap₂ (λ (c : B) (r : List B). c ∷ r) x.2 y.2)

      chain-writes : (n : ℕ) (d : S) (at : ℕ) → at ≤ length s → (l : List A) (q : ℕ) → chain next p n d s at ≡ ok l q
          → ((length (map view l) ≡ n) × AllIn next' Ok d (map view l)) × At s at (joined ser (map view l)) × (at + length (joined ser (map view l)) ≡ q)
      unfolding joined At
      chain-writes zero d at le l q e =
          let z = chain-none next p s d at e in
          subst (λ (l : List A). ((length (map view l) ≡ zero) × AllIn next' Ok d (map view l)) × At s at (joined ser (map view l)) × (at + length (joined ser (map view l)) ≡ q)) z.0
          ((refl, tt), le, add-zero at ∙ z.1)
      chain-writes (suc n) d at le l q e =
          let t = chain-inv next p s n d at e in
          let x = (item d).writes at le t.0 t.1 t.3 in
          let b : B = view t.0 in
          let bs : List B = map view t.2 in
          let y = chain-writes n (next d t.0) t.1 (omega (arith, at_in s at (ser b) x.1, x.2)) t.2 q t.4 in
          subst (λ (l : List A). ((length (map view l) ≡ suc n) × AllIn next' Ok d (map view l)) × At s at (joined ser (map view l)) × (at + length (joined ser (map view l)) ≡ q)) t.5 (
            (ap suc y.0.0, (x.0, subst (λ (e : S). AllIn next' Ok e bs) (tie d t.0) y.0.1)),
            at_next s at (ser b) (joined ser bs) t.1 x.2 x.1 y.1,
            omega (arith, length-append (ser b) (joined ser bs), x.2, y.2),
          )

      pub chain-exact : (n : ℕ) (d : S) → Exact s (chain next p n d) (map view) (λ bs. (length bs ≡ n) × AllIn next' Ok d bs) (joined ser)
      chain-exact n d = record { reads = chain-reads n d; writes = chain-writes n d }

    module _ {Fits : S → B → Type 0} (back : (d : S) → Gives s (p d) view (Fits d) ser) where
      chain-gives-at : (n : ℕ) (d : S) (at : ℕ) (bs : List B) → (length bs ≡ n) × AllIn next' Fits d bs → At s at (joined ser bs) → (l : List A) (q : ℕ) → chain next p n d s at ≡ ok l q
          → (map view l ≡ bs) × (at + length (joined ser bs) ≡ q)
      unfolding joined
      chain-gives-at zero d at [] fit h l q e = let z = chain-none next p s d at e in (sym (ap (map view) z.0), add-zero at ∙ z.1)
      chain-gives-at zero d at (b ∷ bs) fit h l q e = absurd (omega (arith, fit.0))
      chain-gives-at (suc n) d at [] fit h l q e = absurd (omega (arith, fit.0))
      chain-gives-at (suc n) d at (b ∷ bs) fit h l q e =
          let t = chain-inv next p s n d at e in
          let x = (back d).gives at b fit.1.0 (at_left s at (ser b) (joined ser bs) h) t.0 t.1 t.3 in
          let st : next' d b ≡ next d t.0 = sym (tie d t.0 ∙ ap (next' d) x.0) in
          let hy = subst (λ (z : ℕ). At s z (joined ser bs)) x.1 (at_right s at (ser b) (joined ser bs) h) in
          let y = chain-gives-at n (next d t.0) t.1 bs (omega (arith, fit.0), subst (λ (e : S). AllIn next' Fits e bs) st fit.1.1) hy t.2 q t.4 in
          (sym (ap (map view) t.5) ∙ ap₂ (λ (c : B) (r : List B). c ∷ r) x.0 y.0, omega (arith, length-append (ser b) (joined ser bs), x.1, y.1))

      pub chain-gives : (n : ℕ) (d : S) → Gives s (chain next p n d) (map view) (λ bs. (length bs ≡ n) × AllIn next' Fits d bs) (joined ser)
      chain-gives n d = record { gives = chain-gives-at n d }

      module _ {f : S → B → ℕ} (item : (d : S) → Tells s (p d) (Fits d) ser (f d)) where
        chain-outcome : (n : ℕ) (d : S) (at : ℕ) (bs : List B) → (length bs ≡ n) × AllIn next' Fits d bs → At s at (joined ser bs) → Outcome (chain next p n d s at) (faults_in next' f d bs) (at + length (joined ser bs))
        unfolding chain joined faults_in
        chain-outcome zero d at [] fit h = good [] (ap (λ (k : ℕ). ok [] k) (sym (add-zero at))) refl
        chain-outcome zero d at (b ∷ bs) fit h = absurd (omega (arith, fit.0))
        chain-outcome (suc n) d at [] fit h = absurd (omega (arith, fit.0))
        chain-outcome (suc n) d at (b ∷ bs) fit h =
            let mid : ℕ = at + length (ser b) in
            let end : ℕ = mid + length (joined ser bs) in
            let hx = at_left s at (ser b) (joined ser bs) h in
            let l : end ≡ at + length (ser b ++ joined ser bs) = omega (arith, length-append (ser b) (joined ser bs)) in
            let rest = chain-outcome n (next' d b) mid bs (omega (arith, fit.0), fit.1.1) (at_right s at (ser b) (joined ser bs) h) in
            let g : ℕ = faults_in next' f (next' d b) bs in
            subst (λ (z : ℕ). Outcome (chain next p (suc n) d s at) (first_of (f d b) g) z) l
            (outcome-then (p d s at) (λ a q. then (chain next p n (next d a) s q) (λ more e. ok (a ∷ more) e)) (f d b) g mid end
            (outcome (item d) at b fit.1.0 hx)
            (λ a e.
            let st : next' d b ≡ next d a = sym (tie d a ∙ ap (next' d) ((back d).gives at b fit.1.0 hx a mid e).0) in
            outcome-fault _ _ _ end (first-zero g)
            (outcome-then (chain next p n (next d a) s mid) (λ more e. ok (a ∷ more) e) g 0 end end (subst (λ (z : S). Outcome (chain next p n z s mid) g end) st rest) (λ more e2. good (a ∷ more) refl refl))))

        -- the first fault of the items, each in its state
        pub chain-tells : (n : ℕ) (d : S) → Tells s (chain next p n d) (λ bs. (length bs ≡ n) × AllIn next' Fits d bs) (joined ser) (faults_in next' f d)
        chain-tells n d = tells (chain-outcome n d)

-- ---- it moves forward, stays inside and depends only on the bytes that it passed

module _ {A S : Type 0} (next : S → A → S) (p : S → Reader A) (item : (d : S) → Lawful (p d)) where
  chain-moves : (n : ℕ) (d : S) (s : List ℕ) (at : ℕ) → at ≤ length s → (vs : List A) (q : ℕ) → chain next p n d s at ≡ ok vs q → (at ≤ q) × (q ≤ length s)
  chain-moves zero d s at le vs q e = let z = chain-none next p s d at e in (omega arith, omega arith)
  chain-moves (suc n) d s at le vs q e =
      let t = chain-inv next p s n d at e in
      let x = (item d).moves s at le t.0 t.1 t.3 in
      let y = chain-moves n (next d t.0) s t.1 x.1 t.2 q t.4 in
      (omega arith, y.1)

  chain-local : (n : ℕ) (d : S) (s : List ℕ) (at : ℕ) → at ≤ length s → (vs : List A) (q : ℕ) → chain next p n d s at ≡ ok vs q → (u : List ℕ) → Same s u at q → chain next p n d u at ≡ ok vs q
  unfolding chain
  chain-local zero d s at le vs q e u same = e
  chain-local (suc n) d s at le vs q e u same =
      let t = chain-inv next p s n d at e in
      let x = (item d).moves s at le t.0 t.1 t.3 in
      let y = chain-moves n (next d t.0) s t.1 x.1 t.2 q t.4 in
      let v : p d u at ≡ ok t.0 t.1 = (item d).local s at le t.0 t.1 t.3 u (same_left same t.1 y.0) in
      let w : chain next p n (next d t.0) u t.1 ≡ ok t.2 q = chain-local n (next d t.0) s t.1 x.1 t.2 q t.4 u (same-right same t.1 x.0) in
      rw v (rw w (ap (λ (l : List A). ok l q) t.5))

  pub chain-lawful : (n : ℕ) (d : S) → Lawful (chain next p n d)
  chain-lawful n d = record { moves = chain-moves n d; local = chain-local n d }
