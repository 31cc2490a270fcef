-- A payload: the file cut at its end, and what is read inside. Assumes nothing.
use Prim.Native.Nat.{ℕ, ◌+◌, ◌≤◌}
use mathlib.Core.Path.{◌≡◌, refl, sym, ap, ◌∙◌}
use mathlib.Core.List.{List, [], ◌∷◌}
use mathlib.Core.Bool.{Bool, true, false}
use lib.Dec.{eqb}
use lib.ListN.{length, take}
use lib.Seq.{length-take-le, get_or-take}
use borrow.Author.Tests.{eq-eqb, eqb-true}
use native.Mathlib.Omega.{arith}
use Rattle.algebra.specs.Numbers.{At}
use Rattle.algebra.specs.Reader.{Res, Reader, ok, refuse, pick}
use Rattle.algebra.specs.Algebra.{Same, Lawful, Exact}
use Rattle.algebra.proofs.Inverse.{clash, pick_inv, ok-place}
use Rattle.ase.specs.Reading.{inside, within}

-- ---- a file that is cut

module _ (s : List ℕ) (e : ℕ) (room : e ≤ length s) where
  pub at_cut : (at : ℕ) (l : List ℕ) → at + length l ≤ e → At s at l → At (take e s) at l
  unfolding At
  at_cut at [] h a = omega (arith, length-take-le e s room)
  at_cut at (x ∷ l) h a = (omega (arith, length-take-le e s room), get_or-take e s at 0 (omega arith) ∙ a.1, at_cut (at + 1) l (omega arith) a.2)

  pub at-uncut : (at : ℕ) (l : List ℕ) → At (take e s) at l → At s at l
  unfolding At
  at-uncut at [] a = omega (arith, length-take-le e s room)
  at-uncut at (x ∷ l) a = (omega (arith, length-take-le e s room, a.0), sym (get_or-take e s at 0 (omega (arith, length-take-le e s room, a.0))) ∙ a.1, at-uncut (at + 1) l a.2)

-- ---- what is read inside

pub inside-inv : {A : Type 0} (p end : ℕ) (m : Res A) {a : A} {q : ℕ} → inside p end m ≡ ok a q → (m ≡ ok a q) × (q ≡ end)
inside-inv p end (ok b r) e = let i = pick_inv (eqb r end) (ok b r) _ _ _ _ e in (i.1, sym (ok-place i.1) ∙ eqb-true r end i.0)
inside-inv {A} p end (refuse x r f g) e = go (eqb x 2) _ _ _ _ _ _ _ _ e
  where
    go : (b : Bool) (x p r f y q i j : ℕ) {a : A} {z : ℕ} {X : Type 0} → pick b (refuse x p r f) (refuse y q i j) ≡ ok a z → X
    go true x p r f y q i j h = clash h
    go false x p r f y q i j h = clash h

pub inside-ok : {A : Type 0} (p end : ℕ) (m : Res A) {a : A} → m ≡ ok a end → inside p end m ≡ ok a end
inside-ok p end m e = rw e (simp (eq-eqb end end refl))

module _ {A B : Type 0} (s : List ℕ) (n at : ℕ) (room : at + 6 + n ≤ length s) (p : Reader A) {view : A → B} {Ok : B → Type 0} {ser : B → List ℕ} (x : Exact (take (at + 6 + n) s) p view Ok ser) where
  pub within-reads : (b : B) → Ok b → length (ser b) ≡ n → At s (at + 6) (ser b) → (a : A) × (within p n s at ≡ ok a (at + 6 + n)) × (view a ≡ b)
  within-reads b fit l h =
      let r = x.reads (at + 6) b fit (at_cut s (at + 6 + n) room (at + 6) (ser b) (omega arith) h) in
      (r.0, inside-ok (at + 2) (at + 6 + n) (p (take (at + 6 + n) s) (at + 6)) (r.1 ∙ ap (λ (k : ℕ). ok r.0 (at + 6 + k)) l), r.2)

  pub within-writes : (a : A) (q : ℕ) → within p n s at ≡ ok a q → Ok (view a) × At s (at + 6) (ser (view a)) × (length (ser (view a)) ≡ n) × (q ≡ at + 6 + n)
  within-writes a q e =
      let i = inside-inv (at + 2) (at + 6 + n) (p (take (at + 6 + n) s) (at + 6)) e in
      let w = x.writes (at + 6) (omega (arith, length-take-le (at + 6 + n) s room)) a q i.0 in
      (w.0, at-uncut s (at + 6 + n) room (at + 6) (ser (view a)) w.1, omega (arith, w.2, i.1), i.1)

-- it ends behind the payload, and depends only on the bytes up to there
pub within-ends : {A : Type 0} (s : List ℕ) (n at : ℕ) → at + 6 + n ≤ length s → (p : Reader A) → Lawful p → (a : A) (q : ℕ) (u : List ℕ) → within p n s at ≡ ok a q → (q ≡ at + 6 + n) × (Same s u at q → within p n u at ≡ ok a q)
within-ends s n at room p law a q u e =
    let end : ℕ = at + 6 + n in
    let i = inside-inv (at + 2) end (p (take end s) (at + 6)) e in
    let z : q ≡ end = i.1 in (
      z,
      λ same.
          let cut : Same (take end s) (take end u) (at + 6) q = record {
            inside = omega (arith, length-take-le end u (omega (arith, same.inside)));
            bytes = λ k b c. get_or-take end u k 0 (omega arith) ∙ same.bytes k (omega arith) c ∙ sym (get_or-take end s k 0 (omega arith));
          } in
          let r : p (take end u) (at + 6) ≡ ok a q = law.local (take end s) (at + 6) (omega (arith, length-take-le end s room)) a q i.0 (take end u) cut in
          inside-ok (at + 2) end (p (take end u) (at + 6)) (r ∙ ap (λ (k : ℕ). ok a k) z) ∙ ap (λ (k : ℕ). ok a k) (sym z),
    )
