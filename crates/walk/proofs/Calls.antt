-- What is promised of a walk: its calls give the items of a list in turn, and then say done. Assumes nothing.
use Prim.Native.Nat.{ℕ, zero, suc, ◌+◌, ◌-◌, ◌≤◌, ◌<◌}
use mathlib.Core.Path.{◌≡◌, refl, sym, ap, ◌∙◌, subst}
use mathlib.Core.List.{List, [], ◌∷◌, map}
use mathlib.Core.Bool.{Bool, true, false}
use lib.Dec.{ltb, eqb}
use lib.ListN.{length, get_or}
use borrow.Author.Tests.{eq-eqb, ne_eqb, lt-ltb, le-ltb, ltb-true, ltb-false}
use native.Mathlib.Omega.{arith}
use Rattle.algebra.specs.Reader.{Res, ok, refuse, Reader, pick, each, chain}
use Rattle.algebra.proofs.Inverse.{each_none, each-inv}
use Rattle.algebra.proofs.Chain.{chain-none, chain-inv}
use Rattle.walk.specs.Walk.{Call, gives, over, refused, Step, place_after, after, call, in_turn, Walks, lost, answered, step, sought, seek, only}

-- ---- calls in turn

module _ {A : Type 0} (f : Step A) where
  answer : (at : ℕ) {a : Call A} {q : ℕ} → f at ≡ (a, q) → (f at).0 ≡ a
  answer at e = ap (λ (w : Call A × ℕ). w.0) e

  left : (at : ℕ) {a : Call A} {q : ℕ} → f at ≡ (a, q) → (f at).1 ≡ q
  left at e = ap (λ (w : Call A × ℕ). w.1) e

  -- a call after the first is a call from the place that the first left
  call_next : (at i : ℕ) {a : Call A} {q : ℕ} → f at ≡ (a, q) → call f at (suc i) ≡ call f q i
  unfolding place_after
  call_next at i e = ap (λ (p : ℕ). call f p i) (left at e)

  -- a step that stays where it is answers the same ever after
  pub call_stays : (at : ℕ) {a : Call A} → f at ≡ (a, at) → (i : ℕ) → call f at i ≡ a
  unfolding place_after
  call_stays at e zero = answer at e
  call_stays at e (suc i) = call_next at i e ∙ call_stays at e i

  -- the law of every walk: call i gives item i, and every call after the last item says done
  pub calls_are : (xs : List A) (at : ℕ) → Walks f at xs → (i : ℕ) → call f at i ≡ in_turn xs i
  unfolding place_after in_turn
  calls_are [] at w zero = answer at w.1
  calls_are [] at w (suc i) = call_next at i w.1 ∙ call_stays w.0 w.2 i
  calls_are (a ∷ more) at w zero = answer at w.1
  calls_are (a ∷ more) at w (suc i) = call_next at i w.1 ∙ calls_are more w.0 w.2 i

  -- a walk from a place goes by what the first call from it answers
  walks_same : (xs : List A) (at p : ℕ) → f at ≡ f p → Walks f p xs → Walks f at xs
  walks_same [] at p e w = (w.0, e ∙ w.1, w.2)
  walks_same (a ∷ more) at p e w = (w.0, e ∙ w.1, w.2)

-- the same by numbers: with n items the first n calls give them, and every later call says done
pub in-turn-is : {A : Type 0} (d : A) (xs : List A) (i : ℕ) → in_turn xs i ≡ pick (ltb i (length xs)) (gives (get_or xs i d)) over
unfolding in_turn
in-turn-is d [] i = sym (ap (λ (b : Bool). pick b (gives d) over) (le-ltb i 0 (omega arith)))
in-turn-is d (a ∷ more) zero = sym (ap (λ (b : Bool). pick b (gives a) over) (lt-ltb 0 (suc (length more)) (omega arith)))
in-turn-is d (a ∷ more) (suc i) = in-turn-is d more i ∙ ap (λ (b : Bool). pick b (gives (get_or more i d)) over) (go (ltb i (length more)) refl)
  where
    go : (b : Bool) → ltb i (length more) ≡ b → ltb i (length more) ≡ ltb (suc i) (suc (length more))
    go true e = let h : i < length more = ltb-true i (length more) e in let g : suc i < suc (length more) = omega arith in e ∙ sym (lt-ltb _ _ g)
    go false e = let h : length more ≤ i = ltb-false i (length more) e in let g : suc (length more) ≤ suc i = omega arith in e ∙ sym (le-ltb _ _ g)

-- ---- walkers that are handed on

-- over one file, each from the place that the call before it left: what the walker after i calls answers is what call i answers
pub after-calls : {A W : Type 0} (rule : W → Step A) (place : W → ℕ) (follows : W → W) → ((w : W) → rule (follows w) ≡ rule w) → ((w : W) → place (follows w) ≡ (rule w (place w)).1)
    → (w : W) (i : ℕ) → (rule (after follows w i) (place (after follows w i))).0 ≡ call (rule w) (place w) i
unfolding after place_after
after-calls rule place follows same moves w zero = refl
after-calls {A} rule place follows same moves w (suc i) =
    after-calls rule place follows same moves (follows w) i ∙ ap (λ (f : Step A). call f (place (follows w)) i) (same w) ∙ ap (λ (p : ℕ). call (rule w) p i) (moves w)

-- ---- a step by what a reader reads

module _ {A : Type 0} (p : Reader A) (s : List ℕ) (at : ℕ) where
  pub step-over : at ≡ length s → step p s at ≡ (over, at)
  unfolding step
  step-over e = simp (eq-eqb at (length s) e)

  pub step-elsewhere : (at ≡ length s → ⊥) → step p s at ≡ answered (length s) (p s at)
  unfolding step
  step-elsewhere h = simp (ne_eqb at (length s) h)

  -- an item that was read
  pub step_gives : at < length s → {a : A} {q : ℕ} → p s at ≡ ok a q → step p s at ≡ (gives a, q)
  step_gives h e = step-elsewhere (λ z. omega arith) ∙ ap (answered (length s)) e

  -- a step that gives an item read it
  pub step-read : {a : A} {q : ℕ} → step p s at ≡ (gives a, q) → p s at ≡ ok a q
  unfolding step
  step-read {a} {q} e = go (eqb at (length s)) (p s at) e
    where
      go : (b : Bool) (m : Res A) → pick b (over, at) (answered (length s) m) ≡ (gives a, q) → m ≡ ok a q
      go true m z = let w : ◌≡◌ {A = Call A} over (gives a) = ap (λ (x : Call A × ℕ). x.0) z in let y : ◌≡◌ {A = ℕ} 0 1 = cc in absurd (omega arith)
      go false (ok b r) z =
          let w : gives b ≡ gives a = ap (λ (x : Call A × ℕ). x.0) z in
          let v : r ≡ q = ap (λ (x : Call A × ℕ). x.1) z in
          let u : b ≡ a = cc in ap (λ (x : A). ok x r) u ∙ ap (λ (n : ℕ). ok a n) v
      go false (refuse x n r f) z = let w : ◌≡◌ {A = Call A} (refused 5 0) (gives a) = ap (λ (x : Call A × ℕ). x.0) z in let y : ◌≡◌ {A = ℕ} 0 1 = cc in absurd (omega arith)

  -- a step refuses by 5 at place 0, and by nothing else
  pub step-five : {x y q : ℕ} → step p s at ≡ (refused x y, q) → (x ≡ 5) × (y ≡ 0)
  unfolding step
  step-five {x} {y} {q} e = go (eqb at (length s)) (p s at) (ap (λ (w : Call A × ℕ). w.0) e)
    where
      go : (b : Bool) (m : Res A) → (pick {A = Call A × ℕ} b (over, at) (answered (length s) m)).0 ≡ refused x y → (x ≡ 5) × (y ≡ 0)
      go true m z = let w : ◌≡◌ {A = ℕ} 0 1 = cc in absurd (omega arith)
      go false (ok a r) z = let w : ◌≡◌ {A = ℕ} 0 1 = cc in absurd (omega arith)
      go false (refuse a n r f) z = (cc, cc)

  -- past the end nothing is read, and the walk is lost
  pub step_past : length s < at → ((a : A) (q : ℕ) → p s at ≡ ok a q → at ≤ length s) → step p s at ≡ lost (length s)
  step_past h no_item = step-elsewhere (λ z. omega arith) ∙ go (p s at) refl
    where
      go : (m : Res A) → p s at ≡ m → answered (length s) m ≡ lost (length s)
      go (ok a q) e = absurd (omega (arith, no_item a q e))
      go (refuse x n r f) e = refl

-- a walk that is lost stays so
pub lost-stays : {A : Type 0} (p : Reader A) (s : List ℕ) → ((a : A) (q : ℕ) → p s (length s + 1) ≡ ok a q → length s + 1 ≤ length s) → (i : ℕ) → call (step p s) (length s + 1) i ≡ refused 5 0
lost-stays p s no_item i = call_stays (step p s) (length s + 1) (step_past p s (length s + 1) (omega arith) no_item) i

-- ---- items that were read one behind the other, to the file's end

module _ {A B : Type 0} (r : Reader B) (view : A → B) (s : List ℕ) where
  -- each in the state that those before it left, where r reads every one of them as p does
  pub chain-walks : {S : Type 0} (next : S → A → S) (p : S → Reader A) → ((d : S) (at : ℕ) (a : A) (q : ℕ) → p d s at ≡ ok a q → (r s at ≡ ok (view a) q) × (at < length s))
      → (n : ℕ) (d : S) (at : ℕ) {xs : List A} {q : ℕ} → chain next p n d s at ≡ ok xs q → q ≡ length s → Walks (step r s) at (map view xs)
  chain-walks next p item zero d at {xs} e end =
      let z = chain-none next p s d at e in
      let o = step-over r s at (z.1 ∙ end) in
      subst (λ (l : List A). Walks (step r s) at (map view l)) z.0 (at, o, o)
  chain-walks next p item (suc n) d at {xs} e end =
      let t = chain-inv next p s n d at e in
      let i = item d at t.0 t.1 t.3 in
      subst (λ (l : List A). Walks (step r s) at (map view l)) t.5 (t.1, step_gives r s at i.1 i.0, chain-walks next p item n (next d t.0) t.1 t.4 end)

  -- the same of items that are numbered
  pub each-walks : (p : ℕ → Reader A) → ((k at : ℕ) (a : A) (q : ℕ) → p k s at ≡ ok a q → (r s at ≡ ok (view a) q) × (at < length s))
      → (n i at : ℕ) {xs : List A} {q : ℕ} → each n i p s at ≡ ok xs q → q ≡ length s → Walks (step r s) at (map view xs)
  each-walks p item zero i at e end =
      let z = each_none p s i at e in
      let o = step-over r s at (z.1 ∙ end) in
      subst (λ (l : List A). Walks (step r s) at (map view l)) z.0 (at, o, o)
  each-walks p item (suc n) i at e end =
      let t = each-inv p s n i at e in
      let x = item i at t.0 t.1 t.3 in
      subst (λ (l : List A). Walks (step r s) at (map view l)) t.5 (t.1, step_gives r s at x.1 x.0, each-walks p item n (i + 1) t.1 t.4 end)

-- ---- passing over items

module _ {A : Type 0} (wanted : A → Bool) (f : Step A) (n : ℕ) (moves : (at : ℕ) (a : A) (q : ℕ) → f at ≡ (gives a, q) → (at < q) × (q ≤ n)) where
  -- as many items may be passed over as there are bytes left
  abbrev pub from : Step A
  from at = seek wanted f (n - at) at

  found : (at : ℕ) (g h : ℕ → Call A × ℕ) → ((q : ℕ) → at < q → q ≤ n → g q ≡ h q) → sought wanted (f at).0 (f at).1 g ≡ sought wanted (f at).0 (f at).1 h
  found at g h same = go (f at).0 (f at).1 refl
    where
      go : (c : Call A) (q : ℕ) → f at ≡ (c, q) → sought wanted c q g ≡ sought wanted c q h
      go (gives a) q e = let m = moves at a q e in ap (λ (w : Call A × ℕ). pick (wanted a) (gives a, q) w) (same q m.0 m.1)
      go over q e = refl
      go (refused x p) q e = refl

  -- no item stands where no byte is left
  last : (at : ℕ) (g : ℕ → Call A × ℕ) → n - at ≤ 0 → f at ≡ sought wanted (f at).0 (f at).1 g
  last at g h = go (f at).0 (f at).1 refl
    where
      go : (c : Call A) (q : ℕ) → f at ≡ (c, q) → (c, q) ≡ sought wanted c q g
      go (gives a) q e = let m = moves at a q e in absurd (omega arith)
      go over q e = refl
      go (refused x p) q e = refl

  -- more than that changes nothing
  enough : (k j at : ℕ) → n - at ≤ k → n - at ≤ j → seek wanted f k at ≡ seek wanted f j at
  unfolding seek
  enough zero zero at h g = refl
  enough zero (suc j) at h g = last at (λ q. seek wanted f j q) h
  enough (suc k) zero at h g = sym (last at (λ q. seek wanted f k q) g)
  enough (suc k) (suc j) at h g = found at (λ q. seek wanted f k q) (λ q. seek wanted f j q) (λ q l m. enough k j q (omega arith) (omega arith))

  -- one call, and from there on
  pub from-turn : (at : ℕ) → from at ≡ sought wanted (f at).0 (f at).1 from
  unfolding seek
  from-turn at = enough (n - at) (suc (n - at)) at (omega arith) (omega arith) ∙ found at (λ q. seek wanted f (n - at) q) from (λ q l m. enough (n - at) (n - q) q (omega arith) (omega arith))

  from-by : (at : ℕ) {c : Call A} {q : ℕ} → f at ≡ (c, q) → from at ≡ sought wanted c q from
  from-by at e = from-turn at ∙ ap (λ (w : Call A × ℕ). sought wanted w.0 w.1 from) e

  -- of a walk, those that are wanted
  pub only-walks : (xs : List A) (at : ℕ) → Walks f at xs → Walks from at (only wanted xs)
  unfolding only
  only-walks [] at w = (w.0, from-by at w.1, from-by w.0 w.2)
  only-walks (a ∷ more) at w = go (only wanted more) (only-walks more w.0 w.2) (wanted a) (from-by at w.1)
    where
      go : (l : List A) → Walks from w.0 l → (b : Bool) → from at ≡ pick b (gives a, w.0) (from w.0) → Walks from at (pick b (a ∷ l) l)
      go l v true e = (w.0, e, v)
      go l v false e = walks_same from l at w.0 e v

-- where f refuses by 5 at place 0 alone, so does a step that passes over items
pub seek-five : {A : Type 0} (wanted : A → Bool) (f : Step A) → ((at x y q : ℕ) → f at ≡ (refused x y, q) → (x ≡ 5) × (y ≡ 0)) → (k at : ℕ) {x y q : ℕ} → seek wanted f k at ≡ (refused x y, q) → (x ≡ 5) × (y ≡ 0)
unfolding seek
seek-five wanted f five zero at {x} {y} {q} e = five at x y q e
seek-five {A} wanted f five (suc k) at {x} {y} {q} e = go (f at).0 (f at).1 refl (λ n z. seek-five wanted f five k n z) e
  where
    go : (c : Call A) (n : ℕ) → f at ≡ (c, n) → ((m : ℕ) → seek wanted f k m ≡ (refused x y, q) → (x ≡ 5) × (y ≡ 0)) → sought wanted c n (λ m. seek wanted f k m) ≡ (refused x y, q) → (x ≡ 5) × (y ≡ 0)
    go (gives a) n h more z = pass (wanted a) z
      where
        pass : (b : Bool) → pick b (gives a, n) (seek wanted f k n) ≡ (refused x y, q) → (x ≡ 5) × (y ≡ 0)
        pass true v = let u : ◌≡◌ {A = Call A} (gives a) (refused x y) = ap (λ (w : Call A × ℕ). w.0) v in let w : ◌≡◌ {A = ℕ} 0 1 = cc in absurd (omega arith)
        pass false v = more n v
    go over n h more z = let u : ◌≡◌ {A = Call A} over (refused x y) = ap (λ (w : Call A × ℕ). w.0) z in let w : ◌≡◌ {A = ℕ} 0 1 = cc in absurd (omega arith)
    go (refused a c) n h more z = five at x y q (h ∙ z)
