-- Items in a row until a test stops: what each law of counted repetition is of them. Assumes nothing.
use Prim.Native.Nat.{ℕ, zero, suc, ◌+◌, ◌-◌, ◌≤◌, ◌<◌}
use mathlib.Core.Path.{◌≡◌, refl, sym, ap, ap₂, ◌∙◌, subst, subst₂}
use mathlib.Core.List.{List, [], ◌∷◌, ◌++◌, map}
use mathlib.Core.Bool.{Bool, true, false}
use lib.ListN.{length, length-append}
use borrow.Author.Tests.{ne_eqb}
use native.Mathlib.Omega.{arith}
use native.Mathlib.Nat.{add-zero}
use Rattle.algebra.specs.Numbers.{joined, At, AllIn}
use Rattle.algebra.specs.Reader.{Res, ok, refuse, Reader, then, pick, state_after, Test, at_end, until, many, done}
use Rattle.algebra.specs.Faults.{first_of, faults_in}
use Rattle.algebra.specs.Algebra.{Same, Lawful, Exact, Tells}
use Rattle.algebra.specs.Refusal.{Placed, ends}
use Rattle.algebra.specs.Cut.{not_whole, Stub, Cuts, Spans}
use Rattle.algebra.proofs.Places.{at_in, at_next, at_left, at_right}
use Rattle.algebra.proofs.Inverse.{then-inv, ok-value, ok-place}
use Rattle.algebra.proofs.Lawful.{same_left, same-right}
use Rattle.algebra.proofs.Placed.{placed-then, placed-pick}
use Rattle.algebra.proofs.Cuts.{step_cut}
use Rattle.algebra.proofs.Tells.{Outcome, good, outcome-fault, outcome-then, outcome, Gives, first-zero}

-- the test does not stop before any of the values bs, whose bytes stand from `at`
abbrev pub Going : {B S : Type 0} → Test S → (S → B → S) → (B → List ℕ) → List ℕ → S → ℕ → List B → Type 0
Going stop next ser s d at [] = Unit {0}
Going stop next ser s d at (b ∷ bs) = (stop d s at ≡ false) × Going stop next ser s (next d b) (at + length (ser b)) bs

module _ {A S : Type 0} (stop : Test S) (next : S → A → S) (p : S → Reader A) (s : List ℕ) where
  abbrev run : ℕ → S → ℕ → Res (List A)
  run n d at = until stop next p n d s at

  -- ---- one turn

  pub until_stop : (n : ℕ) (d : S) (at : ℕ) → stop d s at ≡ true → run n d at ≡ ok [] at
  unfolding until
  until_stop zero d at e = refl
  until_stop (suc n) d at e = rw e

  pub until-turn : (n : ℕ) (d : S) (at : ℕ) → stop d s at ≡ false → run (suc n) d at ≡ then (p d s at) (λ a q. then (run n (next d a) q) (λ more end. ok (a ∷ more) end))
  unfolding until
  until-turn n d at e = rw e

  -- ---- what is known where it accepts

  -- it stopped, ran out, or read an item and went on
  pub data Went (n : ℕ) (d : S) (at : ℕ) (vs : List A) (q : ℕ) : Type 0 where
    stopped : stop d s at ≡ true → [] ≡ vs → at ≡ q → Went n d at vs q
    spent : n ≡ 0 → [] ≡ vs → at ≡ q → Went n d at vs q
    went : (m : ℕ) (a : A) (r : ℕ) (more : List A) → n ≡ suc m → stop d s at ≡ false → p d s at ≡ ok a r → run m (next d a) r ≡ ok more q → a ∷ more ≡ vs → Went n d at vs q

  pub until-inv : (n : ℕ) (d : S) (at : ℕ) {vs : List A} {q : ℕ} → run n d at ≡ ok vs q → Went n d at vs q
  unfolding until
  until-inv zero d at e = spent refl (ok-value e) (ok-place e)
  until-inv (suc n) d at {vs} {q} e = go (stop d s at) refl e
    where
      go : (b : Bool) → stop d s at ≡ b → pick b (ok [] at) (then (p d s at) (λ a q. then (run n (next d a) q) (λ more end. ok (a ∷ more) end))) ≡ ok vs q → Went (suc n) d at vs q
      go true h e = stopped h (ok-value e) (ok-place e)
      go false h e =
          let t = then-inv (p d s at) _ e in
          let u = then-inv (run n (next d t.0) t.1) _ t.3 in
          went n t.0 t.1 u.0 refl h t.2 (u.2 ∙ ap (λ (k : ℕ). ok u.0 k) (ok-place u.3)) (ok-value u.3)

  -- ---- items of a byte at least: any number that is past the bytes left will do

  module _ (some : (d : S) (at : ℕ) (a : A) (q : ℕ) → at ≤ length s → p d s at ≡ ok a q → (at < q) × (q ≤ length s)) where
    then_same : {B : Type 0} (m : Res A) (f g : A → ℕ → Res B) → ((a : A) (q : ℕ) → m ≡ ok a q → f a q ≡ g a q) → then m f ≡ then m g
    then_same (ok a q) f g h = h a q refl
    then_same (refuse x q r y) f g h = refl

    pub until-enough : (n m : ℕ) (d : S) (at : ℕ) → at ≤ length s → length s - at < n → length s - at < m → run n d at ≡ run m d at
    until-enough zero m d at le h k = absurd (omega arith)
    until-enough (suc n) zero d at le h k = absurd (omega arith)
    until-enough (suc n) (suc m) d at le h k = go (stop d s at) refl (λ a q x. until-enough n m (next d a) q (some d at a q le x).1 (omega (arith, (some d at a q le x).0, (some d at a q le x).1)) (omega (arith, (some d at a q le x).0, (some d at a q le x).1)))
      where
        go : (b : Bool) → stop d s at ≡ b → ((a : A) (q : ℕ) → p d s at ≡ ok a q → run n (next d a) q ≡ run m (next d a) q) → run (suc n) d at ≡ run (suc m) d at
        go true e more = until_stop (suc n) d at e ∙ sym (until_stop (suc m) d at e)
        go false e more =
            until-turn n d at e
            ∙ then_same (p d s at) _ _ (λ a q x. ap (λ (y : Res (List A)). then y (λ more end. ok (a ∷ more) end)) (more a q x))
            ∙ sym (until-turn m d at e)

    -- the turns of a loop over the items, where `all` is the whole and equals what is left
    module _ (all : Res Unit) (d : S) (at : ℕ) (le : at ≤ length s) (inv : all ≡ done (many stop next p d s at)) where
      pub many-end : stop d s at ≡ true → all ≡ ok tt at
      many-end e = inv ∙ ap done (until_stop (suc (length s)) d at e)

      one_more : stop d s at ≡ false → all ≡ done (then (p d s at) (λ a q. then (run (length s) (next d a) q) (λ more end. ok (a ∷ more) end)))
      one_more e = inv ∙ ap done (until-turn (length s) d at e)

      pub many-no : stop d s at ≡ false → {x q r f : ℕ} → p d s at ≡ refuse x q r f → all ≡ refuse x q r f
      many-no e h = one_more e ∙ rw h

      forget : (a : A) (m : Res (List A)) → done (then m (λ more end. ok (a ∷ more) end)) ≡ done m
      forget a (ok v q) = refl
      forget a (refuse x q r f) = refl

      pub many-ok : stop d s at ≡ false → (a : A) (q : ℕ) → p d s at ≡ ok a q → all ≡ done (many stop next p (next d a) s q)
      many-ok e a q h =
          let w = some d at a q le h in
          one_more e ∙ rw h (forget a (run (length s) (next d a) q) ∙ ap done (until-enough (length s) (suc (length s)) (next d a) q w.1 (omega (arith, w.0, w.1)) (omega (arith, w.0, w.1))))

  -- ---- refusals have one of the numbers, and a place of the file

  pub until-placed : {ns : List ℕ} → ((d : S) (at : ℕ) → at ≤ length s → Placed ns s (p d s at)) → (n : ℕ) (d : S) (at : ℕ) → at ≤ length s → Placed ns s (run n d at)
  unfolding until
  until-placed g zero d at l = ends l
  until-placed g (suc n) d at l = placed-pick (stop d s at) (ends l) (placed-then (p d s at) _ (g d at l) (λ a q h. placed-then (run n (next d a) q) _ (until-placed g n (next d a) q h) (λ more e w. ends w)))

-- ---- what is read is what was written, and back

module _ {A B S : Type 0} (stop : Test S) (next : S → A → S) (next' : S → B → S) (view : A → B) (tie : (d : S) (a : A) → next d a ≡ next' d (view a)) {s : List ℕ} {p : S → Reader A} {ser : B → List ℕ} where
  module _ {Ok : S → B → Type 0} (item : (d : S) → Exact s (p d) view (Ok d) ser) where
    -- a read item leaves the state that its value leaves
    left : (d : S) (a : A) (b : B) → view a ≡ b → next' d b ≡ next d a
    left d a b e = sym (tie d a ∙ ap (next' d) e)

    -- values before which it goes on, and behind which it stops
    pub until-reads : (n : ℕ) (d : S) (at : ℕ) (bs : List B) → length bs < n → AllIn next' Ok d bs → Going stop next' ser s d at bs → stop (state_after next' d bs) s (at + length (joined ser bs)) ≡ true → At s at (joined ser bs)
        → (l : List A) × (until stop next p n d s at ≡ ok l (at + length (joined ser bs))) × (map view l ≡ bs)
    unfolding joined state_after
    until-reads zero d at bs few fit go end h = absurd (omega arith)
    until-reads (suc n) d at [] few fit go end h =
        let e : stop d s at ≡ true = subst (λ (k : ℕ). stop d s k ≡ true) (add-zero at) end in
        ([], until_stop stop next p s (suc n) d at e ∙ ap (λ (k : ℕ). ok [] k) (sym (add-zero at)), refl)
    until-reads (suc n) d at (b ∷ bs) few fit go end h =
        let x = (item d).reads at b fit.0 (at_left s at (ser b) (joined ser bs) h) in
        let st : next' d b ≡ next d x.0 = left d x.0 b x.2 in
        let l : at + length (ser b ++ joined ser bs) ≡ at + length (ser b) + length (joined ser bs) = omega (arith, length-append (ser b) (joined ser bs)) in
        let y = until-reads n (next d x.0) (at + length (ser b)) bs (omega arith) (subst (λ (e : S). AllIn next' Ok e bs) st fit.1) (subst (λ (e : S). Going stop next' ser s e (at + length (ser b)) bs) st go.1)
        (subst₂ (λ (e : S) (k : ℕ). stop (state_after next' e bs) s k ≡ true) st l end) (at_right s at (ser b) (joined ser bs) h) in
        (x.0 ∷ y.0, until-turn stop next p s n d at go.0 ∙ rw x.1 (rw y.1 (ap (λ (k : ℕ). ok (x.0 ∷ y.0) k) (sym l))), ap₂ (λ (c : B) (r : List B). c ∷ r) x.2 y.2)

    -- what was read, written, is the bytes that were read; it went on before each, and stopped or ran out behind the last
    pub until-writes : (n : ℕ) (d : S) (at : ℕ) → at ≤ length s → (l : List A) (q : ℕ) → until stop next p n d s at ≡ ok l q
        → AllIn next' Ok d (map view l) × Going stop next' ser s d at (map view l) × At s at (joined ser (map view l)) × (at + length (joined ser (map view l)) ≡ q)
    unfolding until joined At
    until-writes zero d at le l q e = let z = spent-inv e in subst (λ (l : List A). AllIn next' Ok d (map view l) × Going stop next' ser s d at (map view l) × At s at (joined ser (map view l)) × (at + length (joined ser (map view l)) ≡ q)) z.0 (tt, tt, le, add-zero at ∙ z.1)
      where
        spent-inv : until stop next p zero d s at ≡ ok l q → ([] ≡ l) × (at ≡ q)
        spent-inv e = (ok-value e, ok-place e)
    until-writes (suc n) d at le l q e = go (until-inv stop next p s (suc n) d at e) (λ a r more x y. until-writes n (next d a) r (let w = (item d).writes at le a r x in omega (arith, at_in s at (ser (view a)) w.1, w.2)) more q y)
      where
        Wrote : List A → Type 0
        Wrote l = AllIn next' Ok d (map view l) × Going stop next' ser s d at (map view l) × At s at (joined ser (map view l)) × (at + length (joined ser (map view l)) ≡ q)

        none : [] ≡ l → at ≡ q → Wrote l
        none e z = subst Wrote e (tt, tt, le, add-zero at ∙ z)

        go : Went stop next p s (suc n) d at l q
            → ((a : A) (r : ℕ) (more : List A) → p d s at ≡ ok a r → until stop next p n (next d a) s r ≡ ok more q
            → AllIn next' Ok (next d a) (map view more) × Going stop next' ser s (next d a) r (map view more) × At s r (joined ser (map view more)) × (r + length (joined ser (map view more)) ≡ q)) → Wrote l
        go (stopped h e z) rec = none e z
        go (spent h e z) rec = none e z
        go (went m a r more small h x y e) rec =
            let w = (item d).writes at le a r x in
            let b : B = view a in
            let bs : List B = map view more in
            let same : m ≡ n = omega arith in
            let v = rec a r more x (subst (λ (k : ℕ). until stop next p k (next d a) s r ≡ ok more q) same y) in
            subst Wrote e (
              (w.0, subst (λ (e : S). AllIn next' Ok e bs) (tie d a) v.0),
              (h, subst₂ (λ (e : S) (k : ℕ). Going stop next' ser s e k bs) (tie d a) (sym w.2) v.1),
              at_next s at (ser b) (joined ser bs) r w.2 w.1 v.2,
              omega (arith, length-append (ser b) (joined ser bs), w.2, v.3),
            )

    -- values before which it goes on, and then an item that is refused
    pub until-stops : {x q r f : ℕ} (n : ℕ) (d : S) (at : ℕ) (bs : List B) → length bs < n → AllIn next' Ok d bs → Going stop next' ser s d at bs → stop (state_after next' d bs) s (at + length (joined ser bs)) ≡ false → At s at (joined ser bs)
        → p (state_after next' d bs) s (at + length (joined ser bs)) ≡ refuse x q r f → until stop next p n d s at ≡ refuse x q r f
    unfolding joined state_after
    until-stops zero d at bs few fit go more h e = absurd (omega arith)
    until-stops {x = x} {q = q} {r = r} {f = f} (suc n) d at [] few fit go more h e =
        let m : stop d s at ≡ false = subst (λ (k : ℕ). stop d s k ≡ false) (add-zero at) more in
        let z : p d s at ≡ refuse x q r f = subst (λ (k : ℕ). p d s k ≡ refuse x q r f) (add-zero at) e in
        until-turn stop next p s n d at m ∙ rw z
    until-stops {x = x} {q = q} {r = r} {f = f} (suc n) d at (b ∷ bs) few fit go more h e =
        let y = (item d).reads at b fit.0 (at_left s at (ser b) (joined ser bs) h) in
        let st : next' d b ≡ next d y.0 = left d y.0 b y.2 in
        let l : at + length (ser b ++ joined ser bs) ≡ at + length (ser b) + length (joined ser bs) = omega (arith, length-append (ser b) (joined ser bs)) in
        let w = until-stops {x = x} {q = q} {r = r} {f = f} n (next d y.0) (at + length (ser b)) bs (omega arith) (subst (λ (e : S). AllIn next' Ok e bs) st fit.1) (subst (λ (e : S). Going stop next' ser s e (at + length (ser b)) bs) st go.1)
        (subst₂ (λ (e : S) (k : ℕ). stop (state_after next' e bs) s k ≡ false) st l more) (at_right s at (ser b) (joined ser bs) h)
        (subst₂ (λ (e : S) (k : ℕ). p (state_after next' e bs) s k ≡ refuse x q r f) st l e) in
        until-turn stop next p s n d at go.0 ∙ rw y.1 (rw w)

    -- a file that ends inside the values' bytes, and in which it goes on before each that is begun
    module _ {w : B → List ℕ} (cutA : (d : S) → Cuts s (p d) (Ok d) ser w) (size : (d : S) → Spans (Ok d) ser w) where
      pub until-cut : (n : ℕ) (d : S) (at : ℕ) (bs : List B) → length bs ≤ n → AllIn next' Ok d bs → Going stop next' ser s d at bs → Stub s at (joined ser bs) → until stop next p n d s at ≡ refuse 2 (not_whole (joined w bs) at (length s)) 0 0
      unfolding joined
      until-cut n d at [] few fit go h = absurd (omega (arith, h.inside, h.short))
      until-cut zero d at (b ∷ bs) few fit go h = absurd (omega arith)
      until-cut (suc n) d at (b ∷ bs) few fit go h =
          until-turn stop next p s n d at go.0
          ∙ step_cut s at (p d s at) _ (ser b) (joined ser bs) (w b) (joined w bs) ((size d).span b fit.0) ((cutA d).cut at b fit.0)
          (λ x y.
          let r = (item d).reads at b fit.0 x in
          let st : next' d b ≡ next d r.0 = left d r.0 b r.2 in
          rw r.1 (rw (until-cut n (next d r.0) (at + length (ser b)) bs (omega arith) (subst (λ (e : S). AllIn next' Ok e bs) st fit.1) (subst (λ (e : S). Going stop next' ser s e (at + length (ser b)) bs) st go.1) y))) h

  -- ---- the first fault of the values, each in its state

  module _ {Fits : S → B → Type 0} (back : (d : S) → Gives s (p d) view (Fits d) ser) {f : S → B → ℕ} (item : (d : S) → Tells s (p d) (Fits d) ser (f d)) where
    pub until-outcome : (n : ℕ) (d : S) (at : ℕ) (bs : List B) → length bs < n → AllIn next' Fits d bs → Going stop next' ser s d at bs → stop (state_after next' d bs) s (at + length (joined ser bs)) ≡ true → At s at (joined ser bs)
        → Outcome (until stop next p n d s at) (faults_in next' f d bs) (at + length (joined ser bs))
    unfolding joined state_after faults_in
    until-outcome zero d at bs few fit go end h = absurd (omega arith)
    until-outcome (suc n) d at [] few fit go end h =
        let e : stop d s at ≡ true = subst (λ (k : ℕ). stop d s k ≡ true) (add-zero at) end in
        good [] (until_stop stop next p s (suc n) d at e ∙ ap (λ (k : ℕ). ok [] k) (sym (add-zero at))) refl
    until-outcome (suc n) d at (b ∷ bs) few fit go end h =
        let mid : ℕ = at + length (ser b) in
        let last : ℕ = mid + length (joined ser bs) in
        let hx = at_left s at (ser b) (joined ser bs) h in
        let l : at + length (ser b ++ joined ser bs) ≡ last = omega (arith, length-append (ser b) (joined ser bs)) in
        let g : ℕ = faults_in next' f (next' d b) bs in
        let rest = until-outcome n (next' d b) mid bs (omega arith) fit.1 go.1 (subst (λ (k : ℕ). stop (state_after next' (next' d b) bs) s k ≡ true) l end) (at_right s at (ser b) (joined ser bs) h) in
        subst₂ (λ (m : Res (List A)) (z : ℕ). Outcome m (first_of (f d b) g) z) (sym (until-turn stop next p s n d at go.0)) (sym l)
        (outcome-then (p d s at) (λ a q. then (until stop next p n (next d a) s q) (λ more e. ok (a ∷ more) e)) (f d b) g mid last
        (outcome (item d) at b fit.0 hx)
        (λ a e.
        let st : next' d b ≡ next d a = sym (tie d a ∙ ap (next' d) ((back d).gives at b fit.0 hx a mid e).0) in
        outcome-fault _ _ _ last (first-zero g)
        (outcome-then (until stop next p n (next d a) s mid) (λ more e. ok (a ∷ more) e) g 0 last last (subst (λ (z : S). Outcome (until stop next p n z s mid) g last) st rest) (λ more e2. good (a ∷ more) refl refl))))

-- ---- it moves forward, stays inside, and, where the test does not look at the file, depends only on the bytes that it passed

module _ {A S : Type 0} (stop : Test S) (next : S → A → S) (p : S → Reader A) (item : (d : S) → Lawful (p d)) where
  pub until-moves : (n : ℕ) (d : S) (s : List ℕ) (at : ℕ) → at ≤ length s → (vs : List A) (q : ℕ) → until stop next p n d s at ≡ ok vs q → (at ≤ q) × (q ≤ length s)
  unfolding until
  until-moves zero d s at le vs q e = (omega (arith, ok-place e), omega (arith, ok-place e))
  until-moves (suc n) d s at le vs q e = go (until-inv stop next p s (suc n) d at e) (λ a r more h y. until-moves n (next d a) s r h more q y)
    where
      go : Went stop next p s (suc n) d at vs q → ((a : A) (r : ℕ) (more : List A) → r ≤ length s → until stop next p n (next d a) s r ≡ ok more q → (r ≤ q) × (q ≤ length s)) → (at ≤ q) × (q ≤ length s)
      go (stopped h e z) rec = (omega arith, omega arith)
      go (spent h e z) rec = (omega arith, omega arith)
      go (went m a r more small h x y e) rec =
          let w = (item d).moves s at le a r x in
          let same : m ≡ n = omega arith in
          let v = rec a r more w.1 (subst (λ (k : ℕ). until stop next p k (next d a) s r ≡ ok more q) same y) in
          (omega (arith, w.0, v.0), v.1)

  module _ (blind : (d : S) (s u : List ℕ) (at : ℕ) → stop d s at ≡ stop d u at) where
    until-local : (n : ℕ) (d : S) (s : List ℕ) (at : ℕ) → at ≤ length s → (vs : List A) (q : ℕ) → until stop next p n d s at ≡ ok vs q → (u : List ℕ) → Same s u at q → until stop next p n d u at ≡ ok vs q
    unfolding until
    until-local zero d s at le vs q e u same = e
    until-local (suc n) d s at le vs q e u same = go (until-inv stop next p s (suc n) d at e) (λ a r more h y g. until-local n (next d a) s r h more q y u g)
      where
        none : stop d s at ≡ true → [] ≡ vs → at ≡ q → until stop next p (suc n) d u at ≡ ok vs q
        none h e z = until_stop stop next p u (suc n) d at (sym (blind d s u at) ∙ h) ∙ ap₂ (λ (l : List A) (k : ℕ). ok l k) e z

        go : Went stop next p s (suc n) d at vs q → ((a : A) (r : ℕ) (more : List A) → r ≤ length s → until stop next p n (next d a) s r ≡ ok more q → Same s u r q → until stop next p n (next d a) u r ≡ ok more q)
            → until stop next p (suc n) d u at ≡ ok vs q
        go (stopped h e z) rec = none h e z
        go (spent h e z) rec = absurd (omega arith)
        go (went m a r more small h x y e) rec =
            let w = (item d).moves s at le a r x in
            let k : m ≡ n = omega arith in
            let y2 : until stop next p n (next d a) s r ≡ ok more q = subst (λ (k : ℕ). until stop next p k (next d a) s r ≡ ok more q) k y in
            let z = until-moves n (next d a) s r w.1 more q y2 in
            let v : p d u at ≡ ok a r = (item d).local s at le a r x u (same_left same r z.0) in
            let f : until stop next p n (next d a) u r ≡ ok more q = rec a r more w.1 y2 (same-right same r w.0) in
            until-turn stop next p u n d at (sym (blind d s u at) ∙ h) ∙ rw v (rw f (ap (λ (l : List A). ok l q) e))

    pub until-lawful : (n : ℕ) (d : S) → Lawful (until stop next p n d)
    until-lawful n d = record { moves = until-moves n d; local = until-local n d }

-- ---- to the file's end

-- items of a byte at least, whose bytes stand inside the file, are gone through
pub end-going : {B S : Type 0} (next : S → B → S) (ser : B → List ℕ) (Ok : S → B → Type 0) → ((d : S) (b : B) → Ok d b → 0 < length (ser b)) → (s : List ℕ) (d : S) (at : ℕ) (bs : List B) → AllIn next Ok d bs
    → at + length (joined ser bs) ≤ length s → Going at_end next ser s d at bs
unfolding joined
end-going next ser Ok some s d at [] fit le = tt
end-going next ser Ok some s d at (b ∷ bs) fit le =
    let l = length-append (ser b) (joined ser bs) in
    let z = some d b fit.0 in
    (ne_eqb at (length s) (λ e. omega (arith, l)), end-going next ser Ok some s (next d b) (at + length (ser b)) bs fit.1 (omega (arith, l)))
