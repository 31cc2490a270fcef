-- Where the fields end that are accepted: behind their least length, and inside the file. Assumes nothing.
use Prim.Native.Nat.{ℕ, zero, suc, ◌+◌, ◌*◌, ◌≤◌}
use mathlib.Core.Path.{◌≡◌, refl, subst}
use mathlib.Core.List.{List, [], ◌∷◌}
use mathlib.Core.Bool.{Bool, true, false}
use lib.Dec.{eqb}
use lib.ListN.{length}
use borrow.Author.Tests.{eqb-false}
use native.Mathlib.Omega.{arith}
use Rattle.algebra.specs.Reader.{Res, ok, refuse, Reader, then, pick, field, body, rule, Judged, fine, fault, judged, each, done}
use Rattle.algebra.proofs.Inverse.{field-inv, body-inv, judged-inv, clash, ok-value, ok-place, each_none, each-inv}
use Rattle.descriptor.specs.Reading.{is, unknown, beside, skip, id, shut, closing, unicode, class, boolean, flag, bits, double, enumerated, raw_bytes, unit, array_unit, unit_double, Sort, leaf, list, object, reference, array, types, sort_of, forms, form_of, ref_value, doubles, column}

-- what an answer that accepts says
pub data Accepts {A : Type 0} (P : A → ℕ → Type 0) : Res A → Type 0 where
  yes : (a : A) (q : ℕ) → P a q → Accepts P (ok a q)
  no : {x p r f : ℕ} → Accepts P (refuse x p r f)

pub accepted : {A : Type 0} {P : A → ℕ → Type 0} {m : Res A} → Accepts P m → (a : A) (q : ℕ) → m ≡ ok a q → P a q
accepted {P = P} (yes a r h) b q e = subst (λ (z : ℕ). P b z) (ok-place e) (subst (λ z. P z r) (ok-value e) h)
accepted no b q e = clash e

pub accepts : {A : Type 0} {P : A → ℕ → Type 0} (m : Res A) → ((a : A) (q : ℕ) → m ≡ ok a q → P a q) → Accepts P m
accepts (ok a q) h = yes a q (h a q refl)
accepts (refuse x p r f) h = no

pub accepts-then : {A B : Type 0} {P : A → ℕ → Type 0} {Q : B → ℕ → Type 0} (m : Res A) (k : A → ℕ → Res B) → Accepts P m
    → ((a : A) (q : ℕ) → P a q → Accepts Q (k a q)) → Accepts Q (then m k)
accepts-then (ok a q) k (yes b r h) g = g a q h
accepts-then (refuse x p r f) k h g = no

pub weaker : {A : Type 0} {P Q : A → ℕ → Type 0} {m : Res A} → ((a : A) (q : ℕ) → P a q → Q a q) → Accepts P m → Accepts Q m
weaker g (yes a q h) = yes a q (g a q h)
weaker g no = no

-- it ends at lo or behind it, and inside the file
pub record Past {A : Type 0} (s : List ℕ) (lo : ℕ) (a : A) (q : ℕ) : Type 0 where
  pub low : lo ≤ q
  pub high : q ≤ length s

pub lower : {A : Type 0} {s : List ℕ} {m : Res A} (lo hi : ℕ) → lo ≤ hi → Accepts (Past s hi) m → Accepts (Past s lo) m
lower lo hi l h = weaker (λ a q w. record { low = omega (arith, w.low); high = w.high }) h

module _ (s : List ℕ) where
  pub field_past : (w at : ℕ) → at ≤ length s → Accepts (Past s (at + w)) (field w s at)
  field_past w at l = accepts (field w s at) (λ v q e. let i = field-inv w s at e in record { low = omega arith; high = omega arith })

  pub judged-past : (w : ℕ) (j : ℕ → Judged) (at : ℕ) → at ≤ length s → Accepts (Past s (at + w)) (judged w j s at)
  judged-past w j at l = accepts (judged w j s at) (λ v q e. let i = judged-inv w s at j e in record { low = omega arith; high = omega arith })

  pub body-past : (w n at : ℕ) → at ≤ length s → Accepts (Past s (at + n * w)) (body w n s at)
  body-past w n at l = accepts (body w n s at) (λ v q e. let i = body-inv w s at n e in record { low = omega arith; high = omega arith })

  pub done-past : {A : Type 0} (m : Res A) (lo : ℕ) → Accepts (Past s lo) m → Accepts (Past s lo) (done m)
  done-past (ok a q) lo (yes b r h) = yes tt q (record { low = h.low; high = h.high })
  done-past (refuse x p r f) lo h = no

  pub skip-past : (n at : ℕ) → at ≤ length s → Accepts (Past s (at + n)) (skip n s at)
  skip-past n at l = lower (at + n) (at + n * 1) (omega arith) (done-past (body 1 n s at) (at + n * 1) (body-past 1 n at l))

  id-size : (n : ℕ) → 1 ≤ pick (eqb n 0) 4 n
  id-size n = go (eqb n 0) refl
    where
      go : (b : Bool) → eqb n 0 ≡ b → 1 ≤ pick b 4 n
      go true e = omega arith
      go false e = let z : n ≡ 0 → ⊥ = eqb-false n 0 e in omega arith

  pub id-past : (at : ℕ) → at ≤ length s → Accepts (Past s (at + 5)) (id s at)
  unfolding id
  id-past at l = accepts-then (field 4 s at) _ (field_past 4 at l) (λ n q h. lower (at + 5) (q + pick (eqb n 0) 4 n) (omega (arith, id-size n, h.low)) (skip-past (pick (eqb n 0) 4 n) q h.high))

  rule-past : (j : Judged) (p q lo : ℕ) → lo ≤ q → q ≤ length s → Accepts (Past s lo) (rule j p (ok (tt {0}) q))
  rule-past fine p q lo l w = yes tt q (record { low = l; high = w })
  rule-past (fault n r f) p q lo l w = no

  pub unicode-past : (at : ℕ) → at ≤ length s → Accepts (Past s (at + 4)) (unicode s at)
  unfolding unicode
  unicode-past at l =
      accepts-then (field 4 s at) _ (field_past 4 at l)
      (λ n q h. accepts-then (body 2 n s q) _ (body-past 2 n q h.high) (λ us e w. rule-past (closing (shut us)) at e (at + 4) (omega (arith, h.low, w.low)) w.high))

  pub class-past : (at : ℕ) → at ≤ length s → Accepts (Past s (at + 9)) (class s at)
  unfolding class
  class-past at l = accepts-then (unicode s at) _ (unicode-past at l) (λ u q h. lower (at + 9) (q + 5) (omega (arith, h.low)) (id-past q h.high))

  pub flag-past : (at : ℕ) → at ≤ length s → Accepts (Past s (at + 1)) (flag s at)
  unfolding flag
  flag-past at l = done-past (judged 1 boolean s at) (at + 1) (judged-past 1 boolean at l)

  pub double-past : (at : ℕ) → at ≤ length s → Accepts (Past s (at + 8)) (double s at)
  unfolding double
  double-past at l = done-past (judged 8 bits s at) (at + 8) (judged-past 8 bits at l)

  pub enum-past : (at : ℕ) → at ≤ length s → Accepts (Past s (at + 10)) (enumerated s at)
  unfolding enumerated
  enum-past at l = accepts-then (id s at) _ (id-past at l) (λ u q h. lower (at + 10) (q + 5) (omega (arith, h.low)) (id-past q h.high))

  pub run_past : (at : ℕ) → at ≤ length s → Accepts (Past s (at + 4)) (raw_bytes s at)
  unfolding raw_bytes
  run_past at l = accepts-then (field 4 s at) _ (field_past 4 at l) (λ n q h. lower (at + 4) (q + n) (omega (arith, h.low)) (skip-past n q h.high))

  pub unit-past : (at : ℕ) → at ≤ length s → Accepts (Past s (at + 12)) (unit_double s at)
  unfolding unit_double
  unit-past at l = accepts-then (judged 4 unit s at) _ (judged-past 4 unit at l) (λ u q h. lower (at + 12) (q + 8) (omega (arith, h.low)) (double-past q h.high))

  each-past : (n i at : ℕ) → at ≤ length s → (us : List Unit) (q : ℕ) → each n i (λ j. double) s at ≡ ok us q → (at ≤ q) × (q ≤ length s)
  each-past zero i at l us q e = let z = each_none (λ j. double) s i at e in (omega arith, omega arith)
  each-past (suc n) i at l us q e =
      let t = each-inv (λ j. double) s n i at e in
      let x = accepted (double-past at l) t.0 t.1 t.3 in
      let y = each-past n (i + 1) t.1 x.high t.2 q t.4 in
      (omega (arith, x.low, y.0), y.1)

  pub column-past : (m at : ℕ) → at ≤ length s → Accepts (Past s (at + 8)) (column m s at)
  unfolding column
  column-past m at l =
      accepts-then (judged 4 array_unit s at) _ (judged-past 4 array_unit at l)
      (λ u q h. accepts-then (judged 4 (doubles m) s q) _ (judged-past 4 (doubles m) q h.high)
      (λ n e w. done-past (each n 0 (λ i. double) s e) (at + 8) (accepts (each n 0 (λ i. double) s e) (λ us r x. let y = each-past n 0 e w.high us r x in record { low = omega (arith, h.low, w.low, y.0); high = y.1 }))))

-- ---- by type and by form

-- what holds of all that stands in a table
abbrev pub Holds : {A : Type 0} → (A → Type 0) → List (ℕ × A) → Type 0
Holds P [] = Unit {0}
Holds P (c ∷ cs) = P c.1 × Holds P cs

pub of-table : {A : Type 0} (P : A → Type 0) (cs : List (ℕ × A)) → Holds P cs → (t : ℕ) (a : A) → beside cs t ≡ is a → P a
of-table P [] h t a e = absurd (none e)
  where
    none : {A : Type 0} {a : A} → unknown ≡ is a → ⊥
    none e = let z : ◌≡◌ {A = ℕ} 0 1 = cc in omega arith
of-table P (c ∷ cs) h t a e = go (eqb t c.0) (of-table P cs h.1 t a) e
  where
    value : {A : Type 0} {a b : A} → is a ≡ is b → a ≡ b
    value e = cc

    go : (b : Bool) → (beside cs t ≡ is a → P a) → pick b (is c.1) (beside cs t) ≡ is a → P a
    go true ih x = subst P (value x) h.0
    go false ih x = ih x

-- fields that take n bytes at least
abbrev pub Takes : ℕ → Reader Unit → Type 0
Takes n p = (s : List ℕ) (at : ℕ) → at ≤ length s → Accepts (Past s (at + n)) (p s at)

abbrev Leafy : Sort → Type 0
Leafy (leaf p) = Takes 1 p
Leafy list = Unit {0}
Leafy object = Unit {0}
Leafy reference = Unit {0}
Leafy array = Unit {0}

takes-less : (n : ℕ) (p : Reader Unit) → 1 ≤ n → Takes n p → Takes 1 p
takes-less n p l h s at w = lower (at + 1) (at + n) (omega arith) (h s at w)

pub leaf-takes : (t : ℕ) (p : Reader Unit) → sort_of t ≡ is (leaf p) → Takes 1 p
unfolding sort_of
leaf-takes t p e =
    of-table Leafy types (
      flag-past,
      (
        takes-less 9 class (omega arith) class-past,
        (
          takes-less 9 class (omega arith) class-past,
          (
            takes-less 8 double (omega arith) double-past,
            (
              takes-less 10 enumerated (omega arith) enum-past,
              (
                takes-less 4 raw_bytes (omega arith) run_past,
                (
                  takes-less 4 raw_bytes (omega arith) run_past,
                  (
                    takes-less 4 raw_bytes (omega arith) run_past,
                    (
                      takes-less 4 (skip 4) (omega arith) (λ s. skip-past s 4),
                      (
                        takes-less 8 (skip 8) (omega arith) (λ s. skip-past s 8),
                        (
                          takes-less 4 unicode (omega arith) unicode-past,
                          (takes-less 12 unit_double (omega arith) unit-past, (tt, (tt, (tt, (tt, (tt, tt)))))),
                        ),
                      ),
                    ),
                  ),
                ),
              ),
            ),
          ),
        ),
      ),
    )
    t (leaf p) e

takes_none : (n : ℕ) (p : Reader Unit) → Takes n p → Takes 0 p
takes_none n p h s at w = lower (at + 0) (at + n) (omega arith) (h s at w)

pub form-takes : (t : ℕ) (p : Reader Unit) → form_of t ≡ is p → Takes 0 p
unfolding form_of
form-takes t p e =
    of-table (Takes 0) forms (
      (λ s. skip-past s 0),
      (
        takes_none 10 enumerated enum-past,
        (
          takes_none 5 id id-past,
          (
            takes_none 4 unicode unicode-past,
            (takes_none 4 (skip 4) (λ s. skip-past s 4), (takes_none 4 (skip 4) (λ s. skip-past s 4), (takes_none 4 (skip 4) (λ s. skip-past s 4), tt))),
          ),
        ),
      ),
    )
    t p e

pub ref-past : (r : Reader Unit) → Takes 0 r → Takes 9 (ref_value r)
unfolding ref_value
ref-past r h s at l = accepts-then (class s at) _ (class-past s at l) (λ u q w. lower (at + 9) (q + 0) (omega (arith, w.low)) (h s q w.high))
