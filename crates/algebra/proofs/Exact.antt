-- A reader accepts exactly the bytes that are written: each combinator. Assumes nothing.
use Prim.Native.Nat.{ℕ, zero, suc, ◌+◌, ◌*◌, ◌^◌, ◌≤◌, ◌<◌}
use mathlib.Core.Path.{◌≡◌, refl, sym, ap, ap₂, ◌∙◌, subst}
use mathlib.Core.List.{List, [], ◌∷◌, ◌++◌, map, append-nil}
use mathlib.Core.Bool.{Bool, true, false}
use lib.Dec.{ltb, eqb}
use lib.ListN.{length, get_or, length-append}
use borrow.Author.Tests.{lt-ltb, ne_eqb, eqb-true, eqb-false}
use native.Mathlib.Omega.{arith}
use native.Mathlib.Nat.{add-zero}
use Rattle.algebra.specs.Numbers.{num, nums, be, joined, At, Bytes, All}
use Rattle.algebra.specs.Reader.{Res, Reader, ok, then, pick, rule, body, Judged, fine, unless, judged, give, ◌>>=◌, each}
use Rattle.algebra.specs.Text.{any_zero, text, Name, name, closed, front, name_bytes, Named}
use Rattle.algebra.specs.Algebra.{Exact}
use Rattle.algebra.proofs.Laws.{field_in, body-in, judged-ok}
use Rattle.algebra.proofs.Places.{length-be, length-nums, length-bes, joined-append, at_in, at_next, at_left, at_right, at_after, num-lt, num-be, be-num, nums-lt, nums-bes, bes-nums}
use Rattle.algebra.proofs.Inverse.{then-inv, judged-inv, body-inv, name-inv, text-inv, each_none, each-inv, ok-value, ok-place}

-- ---- values of a list

-- each value of a list keeps what follows from what it has
pub all_map : {A : Type 0} (P Q : ℕ → A → Type 0) → ((k : ℕ) (a : A) → P k a → Q k a) → (i : ℕ) (l : List A) → All P i l → All Q i l
all_map P Q f i [] h = tt
all_map P Q f i (a ∷ l) h = (f i a h.0, all_map P Q f (i + 1) l h.1)

-- the same, where the numbers do not matter
pub all_from : {A : Type 0} (P : A → Type 0) (i j : ℕ) (l : List A) → All (λ k a. P a) i l → All (λ k a. P a) j l
all_from P i j [] h = tt
all_from P i j (a ∷ l) h = (h.0, all_from P (i + 1) (j + 1) l h.1)

pub all_both : {A : Type 0} (P Q : ℕ → A → Type 0) (i : ℕ) (l : List A) → All P i l → All Q i l → All (λ k a. P k a × Q k a) i l
all_both P Q i [] h g = tt
all_both P Q i (a ∷ l) h g = ((h.0, g.0), all_both P Q (i + 1) l h.1 g.1)

pub all_append : {A : Type 0} (P : A → Type 0) (i : ℕ) (x y : List A) → All (λ k a. P a) i x → ((j : ℕ) → All (λ k a. P a) j y) → All (λ k a. P a) i (x ++ y)
all_append P i [] y h g = g i
all_append P i (a ∷ x) y h g = (h.0, all_append P (i + 1) x y h.1 g)

pub all_left : {A : Type 0} (P : A → Type 0) (i : ℕ) (x y : List A) → All (λ k a. P a) i (x ++ y) → All (λ k a. P a) i x
all_left P i [] y h = tt
all_left P i (a ∷ x) y h = (h.0, all_left P (i + 1) x y h.1)

-- value k of the list, and the list from its values
pub all-at : {A : Type 0} (P : ℕ → A → Type 0) (d : A) (i : ℕ) (l : List A) → All P i l → (k : ℕ) → k < length l → P (i + k) (get_or l k d)
all-at P d i [] h k g = absurd (omega arith)
all-at P d i (a ∷ l) h zero g = subst (λ (n : ℕ). P n a) (sym (add-zero i)) h.0
all-at P d i (a ∷ l) h (suc k) g = let e : i + 1 + k ≡ i + suc k = omega arith in subst (λ (n : ℕ). P n (get_or l k d)) e (all-at P d (i + 1) l h.1 k (omega arith))

pub all-by : {A : Type 0} (P : ℕ → A → Type 0) (d : A) (i : ℕ) (l : List A) → ((k : ℕ) → k < length l → P (i + k) (get_or l k d)) → All P i l
all-by P d i [] h = tt
all-by P d i (a ∷ l) h = (
  subst (λ (n : ℕ). P n a) (add-zero i) (h 0 (omega arith)),
  all-by P d (i + 1) l (λ k g. let e : i + suc k ≡ i + 1 + k = omega arith in subst (λ (n : ℕ). P n (get_or l k d)) e (h (suc k) (omega arith))),
)

pub length-map : {A B : Type 0} (f : A → B) (l : List A) → length (map f l) ≡ length l
length-map f [] = refl
length-map f (a ∷ l) = ap suc (length-map f l)

pub map-id : {A : Type 0} (l : List A) → map (λ (a : A). a) l ≡ l
map-id [] = refl
map-id (a ∷ l) = ap (λ (r : List _). a ∷ r) (map-id l)

-- ---- fields

-- a field of w bytes whose content is judged
pub judged-exact : (s : List ℕ) → Bytes s → (w : ℕ) (j : ℕ → Judged) → Exact s (judged w j) (λ v. v) (λ v. (v < 256 ^ w) × (j v ≡ fine)) (be w)
judged-exact s bytes w j = record {
  reads = λ at v fit h.
      let n : num w s at ≡ v = num-be s w at v fit.0 h in
      let l : length (be w v) ≡ w = length-be w v in
      let e : at + w ≡ at + length (be w v) = omega arith in
      (v, judged-ok w s at j (sym (field_in w s at (omega (arith, at_in s at (be w v) h)) ∙ ap₂ (λ (x y : ℕ). ok x y) n e)) fit.1, refl);
  writes = λ at le v q e.
      let i = judged-inv w s at j e in
      let l : length (be w v) ≡ w = length-be w v in
      ((subst (λ (x : ℕ). x < 256 ^ w) i.1 (num-lt s bytes w at), i.3), subst (λ (x : ℕ). At s at (be w x)) i.1 (be-num s bytes w at (omega arith)), omega arith);
}

-- n numbers of w bytes
pub body-exact : (s : List ℕ) → Bytes s → (w n : ℕ) → Exact s (body w n) (λ vs. vs) (λ vs. (length vs ≡ n) × All (λ k v. v < 256 ^ w) 0 vs) (joined (be w))
body-exact s bytes w n = record {
  reads = λ at vs fit h.
      let e : nums w n s at ≡ vs = ap (λ (k : ℕ). nums w k s at) (sym fit.0) ∙ nums-bes w s vs at 0 fit.1 h in
      let l : n * w ≡ length (joined (be w) vs) = ap (λ (k : ℕ). k * w) (sym fit.0) ∙ sym (length-bes w vs) in
      (vs, body-in w s at n (omega (arith, at_in s at (joined (be w) vs) h)) ∙ ap₂ (λ (x : List ℕ) (y : ℕ). ok x (at + y)) e l, refl);
  writes = λ at le vs q e.
      let i = body-inv w s at n e in
      let c : length vs ≡ n = sym (ap length i.1) ∙ length-nums w n s at in
      let l : length (joined (be w) vs) ≡ n * w = length-bes w vs ∙ ap (λ (k : ℕ). k * w) c in (
        (c, subst (λ (x : List ℕ). All (λ k v. v < 256 ^ w) 0 x) i.1 (nums-lt w s bytes n at 0)),
        subst (λ (x : List ℕ). At s at (joined (be w) x)) i.1 (bes-nums w s bytes n at (omega arith)),
        omega arith,
      );
}

-- ---- the allowed values and the bytes by other names

pub same-exact : {A B : Type 0} {s : List ℕ} {p : Reader A} {view : A → B} {Ok : B → Type 0} {ser : B → List ℕ} → Exact s p view Ok ser
    → (Ok' : B → Type 0) (ser' : B → List ℕ) → ((b : B) → Ok b → Ok' b) → ((b : B) → Ok' b → Ok b) → ((b : B) → Ok' b → ser b ≡ ser' b) → Exact s p view Ok' ser'
same-exact {A} {B} {s} {p} {view} {Ok} {ser} x Ok' ser' to from same = record {
  reads = λ at b fit h.
      let r = x.reads at b (from b fit) (subst (λ (l : List ℕ). At s at l) (sym (same b fit)) h) in
      (r.0, r.1 ∙ ap (λ (l : List ℕ). ok r.0 (at + length l)) (same b fit), r.2);
  writes = λ at le a q e.
      let r = x.writes at le a q e in
      let f = to (view a) r.0 in
      let g = same (view a) f in
      (f, subst (λ (l : List ℕ). At s at l) g r.1, ap (λ (l : List ℕ). at + length l) (sym g) ∙ r.2);
}

-- a reader that allows one value alone
pub one-exact : {A B : Type 0} {s : List ℕ} {p : Reader A} {view : A → B} {Ok : B → Type 0} {ser : B → List ℕ} → Exact s p view Ok ser
    → (b : B) → Ok b → ((x : B) → Ok x → x ≡ b) → Exact s p (λ a. tt {0}) (λ u. Unit {0}) (λ u. ser b)
one-exact {A} {B} {s} {p} {view} {Ok} {ser} x b fit only = record {
  reads = λ at u f h. let r = x.reads at b fit h in (r.0, r.1, refl);
  writes = λ at le a q e.
      let r = x.writes at le a q e in
      let z : view a ≡ b = only (view a) r.0 in
      (tt, subst (λ (y : B). At s at (ser y)) z r.1, subst (λ (y : B). at + length (ser y) ≡ q) z r.2);
}

-- ---- sequence

-- nothing is read, and the value is known
pub give-exact : {C D : Type 0} (s : List ℕ) (c : C) (view : C → D) → Exact s (give c) view (λ d. view c ≡ d) (λ d. [])
unfolding At
give-exact s c view = record {
  reads = λ at d fit h. (c, ap (λ (k : ℕ). ok c k) (sym (add-zero at)), fit);
  writes = λ at le a q e. (ap view (ok-value e), le, add-zero at ∙ ok-place e);
}

-- a step, then what depends on its value: `part` is the step's value in the whole
module _ {A B C D : Type 0} {s : List ℕ} {m : Reader A} {k : A → Reader C} {viewA : A → B} {OkA : B → Type 0} {serA : B → List ℕ}
    {viewD : C → D} {OkD : D → Type 0} {rest : D → List ℕ} (part : D → B) (one : Exact s m viewA OkA serA)
    (two : (a : A) → Exact s (k a) viewD (λ d. OkD d × (part d ≡ viewA a)) rest) where
  bind-reads : (at : ℕ) (d : D) → OkA (part d) × OkD d → At s at (serA (part d) ++ rest d) → (c : C) × ((m >>= k) s at ≡ ok c (at + length (serA (part d) ++ rest d))) × (viewD c ≡ d)
  bind-reads at d fit h =
      let x = one.reads at (part d) fit.0 (at_left s at (serA (part d)) (rest d) h) in
      let y = (two x.0).reads (at + length (serA (part d))) d (fit.1, sym x.2) (at_right s at (serA (part d)) (rest d) h) in
      let l : at + length (serA (part d)) + length (rest d) ≡ at + length (serA (part d) ++ rest d) = omega (arith, length-append (serA (part d)) (rest d)) in
      (y.0, ap (λ (r : Res A). then r (λ a n. k a s n)) x.1 ∙ y.1 ∙ ap (λ (n : ℕ). ok y.0 n) l, y.2)

  bind-writes : (at : ℕ) → at ≤ length s → (c : C) (q : ℕ) → (m >>= k) s at ≡ ok c q
      → (OkA (part (viewD c)) × OkD (viewD c)) × At s at (serA (part (viewD c)) ++ rest (viewD c)) × (at + length (serA (part (viewD c)) ++ rest (viewD c)) ≡ q)
  bind-writes at le c q e =
      let t = then-inv (m s at) _ e in
      let x = one.writes at le t.0 t.1 t.2 in
      let r : t.1 ≤ length s = omega (arith, at_in s at (serA (viewA t.0)) x.1, x.2) in
      let y = (two t.0).writes t.1 r c q t.3 in
      let d : D = viewD c in
      let p : viewA t.0 ≡ part d = sym y.0.1 in
      let l : at + length (serA (part d)) ≡ t.1 = ap (λ (b : B). at + length (serA b)) (sym p) ∙ x.2 in (
        (subst OkA p x.0, y.0.0),
        at_next s at (serA (part d)) (rest d) t.1 l (subst (λ (b : B). At s at (serA b)) p x.1) y.1,
        omega (arith, length-append (serA (part d)) (rest d), y.2),
      )

  pub bind-exact : Exact s (m >>= k) viewD (λ d. OkA (part d) × OkD d) (λ d. serA (part d) ++ rest d)
  bind-exact = record { reads = bind-reads; writes = bind-writes }

-- ---- counted repetition

module _ {A B : Type 0} {s : List ℕ} {p : ℕ → Reader A} {view : A → B} {Ok : ℕ → B → Type 0} {ser : B → List ℕ} (item : (i : ℕ) → Exact s (p i) view (Ok i) ser) where
  each-reads : (n i at : ℕ) (bs : List B) → (length bs ≡ n) × All Ok i bs → At s at (joined ser bs) → (l : List A) × (each n i p s at ≡ ok l (at + length (joined ser bs))) × (map view l ≡ bs)
  unfolding each joined
  each-reads zero i at [] fit h = ([], ap (λ (k : ℕ). ok [] k) (sym (add-zero at)), refl)
  each-reads zero i at (b ∷ bs) fit h = absurd (omega (arith, fit.0))
  each-reads (suc n) i at [] fit h = absurd (omega (arith, fit.0))
  each-reads (suc n) i at (b ∷ bs) fit h =
      let x = (item i).reads at b fit.1.0 (at_left s at (ser b) (joined ser bs) h) in
      let y = each-reads n (i + 1) (at + length (ser b)) bs (omega (arith, fit.0), fit.1.1) (at_right s at (ser b) (joined ser bs) h) in
      let l : at + length (ser b) + length (joined ser bs) ≡ at + length (ser b ++ joined ser bs) = omega (arith, length-append (ser b) (joined ser bs)) in
      (x.0 ∷ y.0, rw x.1 (rw y.1 (ap (λ (k : ℕ). ok (x.0 ∷ y.0) k) l)), ap₂ (λ (c : B) (r : List B). c ∷ r) x.2 y.2)

  each-writes : (n i at : ℕ) → at ≤ length s → (l : List A) (q : ℕ) → each n i p s at ≡ ok l q
      → ((length (map view l) ≡ n) × All Ok i (map view l)) × At s at (joined ser (map view l)) × (at + length (joined ser (map view l)) ≡ q)
  unfolding joined At
  each-writes zero i at le l q e =
      let z = each_none p s i at e in
      subst (λ (l : List A). ((length (map view l) ≡ zero) × All Ok i (map view l)) × At s at (joined ser (map view l)) × (at + length (joined ser (map view l)) ≡ q)) z.0
      ((refl, tt), le, add-zero at ∙ z.1)
  each-writes (suc n) i at le l q e =
      let t = each-inv p s n i at e in
      let x = (item i).writes at le t.0 t.1 t.3 in
      let b : B = view t.0 in
      let bs : List B = map view t.2 in
      let y = each-writes n (i + 1) t.1 (omega (arith, at_in s at (ser b) x.1, x.2)) t.2 q t.4 in
      subst (λ (l : List A). ((length (map view l) ≡ suc n) × All Ok i (map view l)) × At s at (joined ser (map view l)) × (at + length (joined ser (map view l)) ≡ q)) t.5 (
        (ap suc y.0.0, (x.0, y.0.1)),
        at_next s at (ser b) (joined ser bs) t.1 x.2 x.1 y.1,
        omega (arith, length-append (ser b) (joined ser bs), x.2, y.2),
      )

  pub each-exact : (n i : ℕ) → Exact s (each n i p) (map view) (λ bs. (length bs ≡ n) × All Ok i bs) (joined ser)
  each-exact n i = record { reads = each-reads n i; writes = each-writes n i }

-- ---- names

-- no unit is zero
pub any_none : (us : List ℕ) (i : ℕ) → any_zero us ≡ false → All (λ k u. 0 < u) i us
unfolding any_zero
any_none [] i e = tt
any_none (u ∷ us) i e = let x = either (eqb u 0) (any_zero us) e in let ne = eqb-false u 0 x.0 in (omega arith, any_none us (i + 1) x.1)
  where
    either : (b c : Bool) → pick b true c ≡ false → (b ≡ false) × (c ≡ false)
    either true c z = let y : ◌≡◌ {A = ℕ} 0 1 = cc in absurd (omega arith)
    either false c z = (refl, z)

pub none_any : (us : List ℕ) (i : ℕ) → All (λ k u. 0 < u) i us → any_zero us ≡ false
unfolding any_zero
none_any [] i h = refl
none_any (u ∷ us) i h = simp (ne_eqb u 0 (λ z. omega (arith, h.0))) (none_any us (i + 1) h.1)

-- units none of which is zero, and then a zero
pub closed-snoc : (us : List ℕ) (i : ℕ) → All (λ k u. 0 < u) i us → closed (us ++ (0 ∷ [])) ≡ true
unfolding closed
closed-snoc [] i h = refl
closed-snoc (u ∷ us) i h = simp (ne_eqb u 0 (λ z. omega (arith, h.0))) (closed-snoc us (i + 1) h.1)

pub front-snoc : (us : List ℕ) (z : ℕ) → front (us ++ (z ∷ [])) ≡ us
unfolding front
front-snoc [] z = refl
front-snoc (u ∷ []) z = refl
front-snoc (u ∷ v ∷ us) z = ap (λ (l : List ℕ). u ∷ l) (front-snoc (v ∷ us) z)

-- a closed run is its front and a zero, and no unit of its front is zero
pub closed-inv : (us : List ℕ) (i : ℕ) → closed us ≡ true → (us ≡ front us ++ (0 ∷ [])) × All (λ k u. 0 < u) i (front us)
unfolding closed front
closed-inv [] i e = let z : ◌≡◌ {A = ℕ} 0 1 = cc in absurd (omega arith)
closed-inv (u ∷ []) i e = go (eqb u 0) refl e
  where
    go : (b : Bool) → eqb u 0 ≡ b → pick b true false ≡ true → (u ∷ [] ≡ 0 ∷ []) × All (λ k u. 0 < u) i []
    go true q x = (ap (λ (k : ℕ). k ∷ []) (eqb-true u 0 q), tt)
    go false q x = let z : ◌≡◌ {A = ℕ} 0 1 = cc in absurd (omega arith)
closed-inv (u ∷ v ∷ us) i e = go (eqb u 0) refl e (λ x. closed-inv (v ∷ us) (i + 1) x)
  where
    go : (b : Bool) → eqb u 0 ≡ b → pick b false (closed (v ∷ us)) ≡ true → (closed (v ∷ us) ≡ true → (v ∷ us ≡ front (v ∷ us) ++ (0 ∷ [])) × All (λ k u. 0 < u) (i + 1) (front (v ∷ us)))
        → (u ∷ v ∷ us ≡ u ∷ front (v ∷ us) ++ (0 ∷ [])) × ((0 < u) × All (λ k u. 0 < u) (i + 1) (front (v ∷ us)))
    go true q x rec = let z : ◌≡◌ {A = ℕ} 0 1 = cc in absurd (omega arith)
    go false q x rec =
        let r = rec x in
        let ne = eqb-false u 0 q in
        (ap (λ (l : List ℕ). u ∷ l) r.0, (omega arith, r.1))

-- the units' bytes with the closing zero's
pub joined_snoc : (us : List ℕ) → joined (be 2) (us ++ (0 ∷ [])) ≡ joined (be 2) us ++ be 2 0
unfolding joined
joined_snoc us = joined-append (be 2) us (0 ∷ []) ∙ ap (λ (l : List ℕ). joined (be 2) us ++ l) (append-nil (be 2 0))

module _ (w : ℕ) (us : List ℕ) where
  pub length-nameBytes : length (name_bytes w us) ≡ w + (length us * 2 + 2)
  unfolding name_bytes
  length-nameBytes =
      omega (arith, length-append (be w (length us + 1)) (joined (be 2) us ++ be 2 0), length-append (joined (be 2) us) (be 2 0), length-be w (length us + 1), length-be 2 0, length-bes 2 us)

  -- where a name's bytes stand: its count, and its units with the closing zero
  pub name-stands : (s : List ℕ) (at : ℕ) → length us + 1 < 256 ^ w → All (λ k u. u < 256 ^ 2) 0 us → At s at (name_bytes w us)
      → (at + (w + (length us * 2 + 2)) ≤ length s) × (num w s at ≡ length us + 1) × (nums 2 (length us + 1) s (at + w) ≡ us ++ (0 ∷ []))
  unfolding name_bytes
  name-stands s at c fit h =
      let count : List ℕ = be w (length us + 1) in
      let rest : List ℕ = joined (be 2) us ++ be 2 0 in
      let b : At s (at + w) (joined (be 2) (us ++ (0 ∷ []))) = subst (λ (l : List ℕ). At s (at + w) l) (sym (joined_snoc us)) (at_after s at count rest (at + w) (ap (λ (k : ℕ). at + k) (length-be w (length us + 1))) h) in
      let l : length (us ++ (0 ∷ [])) ≡ length us + 1 = length-append us (0 ∷ []) in (
        subst (λ (k : ℕ). at + k ≤ length s) length-nameBytes (at_in s at (count ++ rest) h),
        num-be s w at (length us + 1) c (at_left s at count rest h),
        ap (λ (k : ℕ). nums 2 k s (at + w)) (sym l) ∙ nums-bes 2 s (us ++ (0 ∷ [])) (at + w) 0 (all_append (λ u. u < 256 ^ 2) 0 us (0 ∷ []) fit (λ j. (omega arith, tt))) b,
      )

module _ (s : List ℕ) (w : ℕ) where
  -- a name's count and its units are read, whether or not a unit is zero
  pub name-passes : (at : ℕ) (us : List ℕ) → length us + 1 < 256 ^ w → All (λ k u. u < 256 ^ 2) 0 us → At s at (name_bytes w us)
      → name w s at ≡ rule (unless (closed (us ++ (0 ∷ []))) 8) at (ok (record { first = at + w; units = us }) (at + length (name_bytes w us)))
  unfolding name
  name-passes at us c fit h =
      let x = name-stands w us s at c fit h in
      let n : ℕ = length us + 1 in
      let f : judged w (λ n. unless (ltb 0 n) 8) s at ≡ ok n (at + w) =
      judged-ok w s at (λ n. unless (ltb 0 n) 8) (sym (field_in w s at (omega arith) ∙ ap (λ (k : ℕ). ok k (at + w)) x.1)) (ap (λ (b : Bool). unless b 8) (lt-ltb 0 n (omega arith))) in
      let b : body 2 n s (at + w) ≡ ok (us ++ (0 ∷ [])) (at + w + n * 2) = body-in 2 s (at + w) n (omega arith) ∙ ap (λ (l : List ℕ). ok l (at + w + n * 2)) x.2 in
      let l : at + w + n * 2 ≡ at + length (name_bytes w us) = omega (arith, length-nameBytes w us) in
      rw f (rw b (rw (l, front-snoc us 0)))

  name-reads : (at : ℕ) (us : List ℕ) → Named w us → At s at (name_bytes w us) → (a : Name) × (name w s at ≡ ok a (at + length (name_bytes w us))) × (a.units ≡ us)
  name-reads at us fit h =
      let small : All (λ k u. u < 256 ^ 2) 0 us = all_map (λ k u. (0 < u) × (u < 256 ^ 2)) (λ k u. u < 256 ^ 2) (λ k u g. g.1) 0 us fit.units in
      let big : All (λ k u. 0 < u) 0 us = all_map (λ k u. (0 < u) × (u < 256 ^ 2)) (λ k u. 0 < u) (λ k u g. g.0) 0 us fit.units in
      (record { first = at + w; units = us }, name-passes at us fit.counted small h ∙ ap (λ (b : Bool). rule (unless b 8) at (ok (record { first = at + w; units = us }) (at + length (name_bytes w us)))) (closed-snoc us 0 big), refl)

  module _ (bytes : Bytes s) where
    name-writes : (at : ℕ) → at ≤ length s → (a : Name) (q : ℕ) → name w s at ≡ ok a q → Named w a.units × At s at (name_bytes w a.units) × (at + length (name_bytes w a.units) ≡ q)
    unfolding name_bytes
    name-writes at le a q e =
        let i = name-inv w s at e in
        let n : ℕ = i.0 in
        let r = i.1 in
        let all : List ℕ = nums 2 n s (at + w) in
        let c = closed-inv all 0 r.shut in
        let us : List ℕ = front all in
        let len : length us + 1 ≡ n = sym (length-append us (0 ∷ [])) ∙ sym (ap length c.0) ∙ length-nums 2 n s (at + w) in
        let eu : us ≡ a.units = ap (λ (x : Name). x.units) r.is in
        let small : All (λ k u. u < 256 ^ 2) 0 us = all_left (λ u. u < 256 ^ 2) 0 us (0 ∷ []) (subst (λ (l : List ℕ). All (λ k u. u < 256 ^ 2) 0 l) c.0 (nums-lt 2 s bytes n (at + w) 0)) in
        let cnt : At s at (be w (length us + 1)) = subst (λ (k : ℕ). At s at (be w k)) (r.count ∙ sym len) (be-num s bytes w at (omega (arith, r.room))) in
        let bod : At s (at + w) (joined (be 2) us ++ be 2 0) =
        subst (λ (l : List ℕ). At s (at + w) l) (ap (joined (be 2)) c.0 ∙ joined_snoc us) (bes-nums 2 s bytes n (at + w) (omega (arith, r.room, r.inside))) in
        subst (λ (l : List ℕ). Named w l × At s at (be w (length l + 1) ++ (joined (be 2) l ++ be 2 0)) × (at + length (be w (length l + 1) ++ (joined (be 2) l ++ be 2 0)) ≡ q)) eu (
          record {
            counted = subst (λ (k : ℕ). k < 256 ^ w) (r.count ∙ sym len) (num-lt s bytes w at);
            units = all_both (λ k u. 0 < u) (λ k u. u < 256 ^ 2) 0 us c.1 small;
          },
          at_next s at (be w (length us + 1)) (joined (be 2) us ++ be 2 0) (at + w) (ap (λ (k : ℕ). at + k) (length-be w (length us + 1))) cnt bod,
          omega (arith, r.end, length-nameBytes w us),
        )

    -- a name with a count of w bytes
    pub name-exact : Exact s (name w) (λ nm. nm.units) (Named w) (name_bytes w)
    name-exact = record { reads = name-reads; writes = name-writes }

-- ---- units without a count

module _ (s : List ℕ) (bytes : Bytes s) (n : ℕ) where
  text-reads : (at : ℕ) (us : List ℕ) → (length us ≡ n) × All (λ k u. (0 < u) × (u < 256 ^ 2)) 0 us → At s at (joined (be 2) us) → (a : List ℕ) × (text n s at ≡ ok a (at + length (joined (be 2) us))) × (a ≡ us)
  unfolding text
  text-reads at us fit h =
      let small : All (λ k u. u < 256 ^ 2) 0 us = all_map (λ k u. (0 < u) × (u < 256 ^ 2)) (λ k u. u < 256 ^ 2) (λ k u g. g.1) 0 us fit.1 in
      let big : All (λ k u. 0 < u) 0 us = all_map (λ k u. (0 < u) × (u < 256 ^ 2)) (λ k u. 0 < u) (λ k u g. g.0) 0 us fit.1 in
      let x = (body-exact s bytes 2 n).reads at us (fit.0, small) h in
      (us, rw x.1 (rw x.2 (rw (none_any us 0 big))), refl)

  text-writes : (at : ℕ) → at ≤ length s → (us : List ℕ) (q : ℕ) → text n s at ≡ ok us q → ((length us ≡ n) × All (λ k u. (0 < u) × (u < 256 ^ 2)) 0 us) × At s at (joined (be 2) us) × (at + length (joined (be 2) us) ≡ q)
  text-writes at le us q e =
      let i = text-inv n s at e in
      let x = (body-exact s bytes 2 n).writes at le us q i.0 in
      ((x.0.0, all_both (λ k u. 0 < u) (λ k u. u < 256 ^ 2) 0 us (any_none us 0 i.1) x.0.1), x.1, x.2)

  -- n units, none of them zero
  pub text-exact : Exact s (text n) (λ us. us) (λ us. (length us ≡ n) × All (λ k u. (0 < u) × (u < 256 ^ 2)) 0 us) (joined (be 2))
  text-exact = record { reads = text-reads; writes = text-writes }
