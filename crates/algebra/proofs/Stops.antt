-- A reader goes through what is sound and stops at the first item that it refuses: each combinator. Assumes nothing.
use Prim.Native.Nat.{ℕ, zero, suc, ◌+◌, ◌^◌, ◌<◌}
use mathlib.Core.Path.{◌≡◌, sym, ap, ◌∙◌, subst, subst₂}
use mathlib.Core.List.{List, [], ◌∷◌, ◌++◌}
use lib.ListN.{length, length-append}
use native.Mathlib.Omega.{arith}
use native.Mathlib.Nat.{add-zero}
use Rattle.algebra.specs.Numbers.{be, joined, At, Bytes, All, AllIn}
use Rattle.algebra.specs.Reader.{ok, refuse, Reader, Judged, fault, judged, each, chain, state_after}
use Rattle.algebra.specs.Algebra.{Exact}
use Rattle.algebra.proofs.Laws.{field_in, judged-bad}
use Rattle.algebra.proofs.Places.{length-be, at_in, at_left, at_right, num-be}

-- ---- one field

module _ (s : List ℕ) (bytes : Bytes s) where
  -- a wrong number in a field that is there
  pub judged-refuses : (w : ℕ) (j : ℕ → Judged) (at v x r f : ℕ) → v < 256 ^ w → At s at (be w v) → j v ≡ fault x r f → judged w j s at ≡ refuse x at r f
  judged-refuses w j at v x r f small h b =
      let l : length (be w v) ≡ w = length-be w v in
      judged-bad w s at j x r f (sym (field_in w s at (omega (arith, at_in s at (be w v) h)) ∙ ap (λ (k : ℕ). ok k (at + w)) (num-be s w at v small h))) b

-- items that are sound, and then one that is refused
module _ {A B : Type 0} {s : List ℕ} {p : ℕ → Reader A} {view : A → B} {Ok : ℕ → B → Type 0} {ser : B → List ℕ} (item : (i : ℕ) → Exact s (p i) view (Ok i) ser) {x q r f : ℕ} where
  pub each-stops : (n i at : ℕ) (bs : List B) → length bs < n → All Ok i bs → At s at (joined ser bs) → p (i + length bs) s (at + length (joined ser bs)) ≡ refuse x q r f → each n i p s at ≡ refuse x q r f
  unfolding each joined
  each-stops zero i at bs few fit h e = absurd (omega arith)
  each-stops (suc n) i at [] few fit h e = let z : p i s at ≡ refuse x q r f = subst₂ (λ (k m : ℕ). p k s m ≡ refuse x q r f) (add-zero i) (add-zero at) e in rw z
  each-stops (suc n) i at (b ∷ bs) few fit h e =
      let y = (item i).reads at b fit.0 (at_left s at (ser b) (joined ser bs) h) in
      let k : i + suc (length bs) ≡ i + 1 + length bs = omega arith in
      let l : at + length (ser b ++ joined ser bs) ≡ at + length (ser b) + length (joined ser bs) = omega (arith, length-append (ser b) (joined ser bs)) in
      rw y.1 (rw (each-stops n (i + 1) (at + length (ser b)) bs (omega arith) fit.1 (at_right s at (ser b) (joined ser bs) h) (subst₂ (λ (k m : ℕ). p k s m ≡ refuse x q r f) k l e)))

-- the same, where an item depends on the state that those before it left
module _ {A B S : Type 0} (next : S → A → S) (next' : S → B → S) (view : A → B) (tie : (d : S) (a : A) → next d a ≡ next' d (view a))
    {s : List ℕ} {p : S → Reader A} {Ok : S → B → Type 0} {ser : B → List ℕ} (item : (d : S) → Exact s (p d) view (Ok d) ser) {x q r f : ℕ} where
  pub chain-stops : (n : ℕ) (d : S) (at : ℕ) (bs : List B) → length bs < n → AllIn next' Ok d bs → At s at (joined ser bs) → p (state_after next' d bs) s (at + length (joined ser bs)) ≡ refuse x q r f → chain next p n d s at ≡ refuse x q r f
  unfolding chain joined state_after
  chain-stops zero d at bs few fit h e = absurd (omega arith)
  chain-stops (suc n) d at [] few fit h e = let z : p d s at ≡ refuse x q r f = subst (λ (m : ℕ). p d s m ≡ refuse x q r f) (add-zero at) e in rw z
  chain-stops (suc n) d at (b ∷ bs) few fit h e =
      let y = (item d).reads at b fit.0 (at_left s at (ser b) (joined ser bs) h) in
      let st : next' d b ≡ next d y.0 = sym (tie d y.0 ∙ ap (next' d) y.2) in
      let l : at + length (ser b ++ joined ser bs) ≡ at + length (ser b) + length (joined ser bs) = omega (arith, length-append (ser b) (joined ser bs)) in
      rw y.1 (rw (chain-stops n (next d y.0) (at + length (ser b)) bs (omega arith) (subst (λ (z : S). AllIn next' Ok z bs) st fit.1) (at_right s at (ser b) (joined ser bs) h)
      (subst₂ (λ (z : S) (m : ℕ). p (state_after next' z bs) s m ≡ refuse x q r f) st l e)))
