-- Each reader of a field or of a member, where one field is wrong. Assumes nothing.
use Prim.Native.Nat.{ℕ, zero, suc, ◌+◌, ◌-◌, ◌*◌, ◌^◌, ◌%◌, ◌≤◌, ◌<◌}
use mathlib.Core.Path.{◌≡◌, refl, sym, ap, ◌∙◌, subst}
use mathlib.Core.List.{List, ◌++◌}
use mathlib.Core.Bool.{Bool, true, false}
use lib.Dec.{eqb}
use lib.ListN.{length, length-append}
use borrow.Author.Tests.{ne_eqb}
use native.Mathlib.Omega.{arith}
use native.Mathlib.Nat.{add-zero, mul-one, lt_of_not-le}
use Rattle.algebra.specs.Numbers.{num, be, At, Bytes}
use Rattle.algebra.specs.Reader.{Res, Reader, ok, refuse, then, pick, field, Judged, judged, each, done}
use Rattle.algebra.specs.Sets.{Field, Size, Number, number, seq, Run}
use Rattle.algebra.proofs.Laws.{field-short, body-short, judged-short}
use Rattle.algebra.proofs.Places.{length-be, at_in, at_left, at_right, at_after, at_same, num-lt, be-num}
use Rattle.algebra.proofs.Sets.{Reads, Numbers, field-numbers, tested-numbers, tag-numbers, number-whole}
use Rattle.descriptor.specs.Reading.{is, passing, skip, id, unicode, class, boolean, flag, bits, double, enumerated, raw_bytes, is_unit, is_array_unit, unit, array_unit, unit_double, leaf, sort_of, form_of, doubles, column}
use Rattle.descriptor.proofs.Fields.{then_to}
use Rattle.descriptor.proofs.Refused.{bool-refused, double-refused, unit-refused, text-refused, array-unit-refused, count-refused}
use Rattle.descriptor_tree.specs.Grammar.{Boolean, Double, Measure, ArrayMeasure}
use Rattle.descriptor_tree.specs.Damaged.{Cut, cut, Wrong, WrongId, WrongText, WrongClass, WrongEnumerated, WrongRaw, WrongLeaf, WrongForm, WrongDoubles}
use Rattle.descriptor_tree.proofs.Fields.{known-measure, known-array, array_known, measure-known, id-reads, text-reads, double-reads}

-- a number that passes no test
not-true : (b : Bool) → (b ≡ true → ⊥) → b ≡ false
not-true true never = absurd (never refl)
not-true false never = refl

-- ---- fields

module _ (s : List ℕ) (bytes : Bytes s) where
  -- b stands in the file from `at`; where the refusal is 2, the file ends behind it
  pub record There (at : ℕ) (b : List ℕ) (x : ℕ) : Type 0 where
    pub stands : At s at b
    pub ends : x ≡ 2 → length s ≡ at + length b

  -- in the file s, the reader p says of what is of W what W says
  abbrev pub Refuses : {A : Type 0} → (List ℕ → ℕ → ℕ → Type 0) → Reader A → Type 0
  Refuses W p = (at : ℕ) (b : List ℕ) (x o : ℕ) → W b x o → There at b x → p s at ≡ refuse x (at + o) 0 0

  -- at the same place, counted from another
  pub at_place : {A : Type 0} {m : Res A} {x : ℕ} (p q : ℕ) → p ≡ q → m ≡ refuse x p 0 0 → m ≡ refuse x q 0 0
  at_place {x = x} p q e h = h ∙ ap (λ (k : ℕ). refuse x k 0 0) e

  pub here : {A : Type 0} {m : Res A} {at x : ℕ} → m ≡ refuse x at 0 0 → m ≡ refuse x (at + 0) 0 0
  here {at = at} e = at_place at (at + 0) (sym (add-zero at)) e

  -- the second of two parts
  pub beyond : {x : ℕ} (at : ℕ) (a b : List ℕ) (q : ℕ) → at + length a ≡ q → There at (a ++ b) x → There q b x
  beyond at a b q e h = record { stands = at_after s at a b q e h.stands; ends = λ z. h.ends z ∙ same }
    where
      same : at + length (a ++ b) ≡ q + length b
      same = omega (arith, length-append a b)

  -- a part that is read, and then more
  pub behind : {A B : Type 0} (m : Res A) (k : A → ℕ → Res B) (at : ℕ) (a b : List ℕ) {v : A} {x : ℕ} (o : ℕ) → m ≡ ok v (at + length a) → There at (a ++ b) x
      → (There (at + length a) b x → k v (at + length a) ≡ refuse x (at + length a + o) 0 0) → then m k ≡ refuse x (at + (length a + o)) 0 0
  behind m k at a b o e h more = rw e (at_place (at + length a + o) (at + (length a + o)) (omega arith) (more (beyond at a b (at + length a) refl h)))

  -- the same of a number of 32 bits
  pub tagged : {A : Type 0} (k : ℕ → ℕ → Res A) (at t : ℕ) (b : List ℕ) {x : ℕ} (o : ℕ) → t < 256 ^ 4 → There at (be 4 t ++ b) x
      → (There (at + 4) b x → k t (at + 4) ≡ refuse x (at + 4 + o) 0 0) → then (field 4 s at) k ≡ refuse x (at + (4 + o)) 0 0
  tagged k at t b o small h more =
      let e : at + length (be 4 t) ≡ at + 4 = ap (λ (k : ℕ). at + k) (length-be 4 t) in
      rw (number-whole 4 (field-numbers s bytes 4) at t small tt (at_left s at (be 4 t) b h.stands))
      (at_place (at + 4 + o) (at + (4 + o)) (omega arith) (more (beyond at (be 4 t) b (at + 4) e h)))

  -- ---- a field that is cut

  room : (w at : ℕ) {b : List ℕ} → length b < w → There at b 2 → length s - at < w
  room w at l h = omega (arith, h.ends refl, l)

  pub field_cut : Refuses (Cut 4) (field 4)
  field_cut at b x o (cut l) h = here (field-short 4 s at (room 4 at l h))

  pub skip-cut : (n : ℕ) → Refuses (Cut n) (skip n)
  skip-cut n at b x o (cut l) h = here (ap done (body-short 1 s at n (omega (arith, room n at l h, mul-one n))))

  judged-cut : (w : ℕ) (j : ℕ → Judged) (at : ℕ) {b : List ℕ} → length b < w → There at b 2 → judged w j s at ≡ refuse 2 at 0 0
  judged-cut w j at l h = judged-short w s at j (sym (field-short w s at (room w at l h)))

  -- ---- a field that is whole, and outside the numbers of which P holds

  pub record Other (w : ℕ) (P : ℕ → Type 0) (at : ℕ) : Type 0 where
    pub value : ℕ
    pub small : value < 256 ^ w
    pub other : P value → ⊥
    pub stands : At s at (be w value)

  pub other-number : (w : ℕ) {P : ℕ → Type 0} (at : ℕ) {b : List ℕ} {x : ℕ} → Size w b → (Number w P b → ⊥) → There at b x → Other w P at
  other-number w {P} at {b} l never h =
      let n : ℕ = num w s at in
      let small : n < 256 ^ w = num-lt s bytes w at in
      let g : At s at (be w n) = be-num s bytes w at (omega (arith, at_in s at b h.stands, l)) in
      let e : be w n ≡ b = at_same s at (be w n) b g h.stands (omega (arith, length-be w n, l)) in
      record { value = n; small = small; other = λ p. never (subst (Number w P) e (number n small p)); stands = g }

  -- a judged field, and what goes on behind it
  pub wrong : {A : Type 0} {P : ℕ → Type 0} (w : ℕ) (j : ℕ → Judged) (k : ℕ → ℕ → Res A) (y at : ℕ) (b : List ℕ) (x o : ℕ)
      → ((v : ℕ) → v < 256 ^ w → (P v → ⊥) → At s at (be w v) → then (judged w j s at) k ≡ refuse y at 0 0)
      → Wrong w (Number w P) y b x o → There at b x → then (judged w j s at) k ≡ refuse x (at + o) 0 0
  wrong w j k y at b x o says (Wrong.cut l) h = rw (judged-cut w j at l h) (here refl)
  wrong w j k y at b x o says (Wrong.outside l never) h = let z = other-number w at l never h in here (says z.value z.small z.other z.stands)

  -- ---- IDs, strings, classes, runs of bytes

  pub id_wrong : Refuses WrongId id
  unfolding id
  id_wrong at b x o (WrongId.size w) h = rw (field_cut at b x o w h)
  id_wrong at l x o (WrongId.char {b = b} {o = i} w) h = tagged (λ n q. skip (pick (eqb n 0) 4 n) s q) at 0 b i (omega arith) h (λ g. skip-cut 4 (at + 4) b x i w g)
  id_wrong at l x o (WrongId.string n {b = b} {o = i} some small w) h =
      tagged (λ n q. skip (pick (eqb n 0) 4 n) s q) at n b i small h (λ g. rw (ne_eqb n 0 (λ e. omega arith)) (skip-cut n (at + 4) b x i w g))

  unicode-wrong : Refuses WrongText unicode
  unfolding unicode
  unicode-wrong at b x o (WrongText.size w) h = rw (field_cut at b x o w h)
  unicode-wrong at l x o (WrongText.units n {b = b} small (cut few)) h = tagged _ at n b 0 (omega arith) h (λ g. rw (body-short 2 s (at + 4) n (room (n * 2) (at + 4) few g)) (here refl))
  unicode-wrong at l x o (WrongText.unclosed n u b few size some small) h =
      let c : List ℕ = be 4 (suc n) in
      let e : at + length c ≡ at + 4 = ap (λ (k : ℕ). at + k) (length-be 4 (suc n)) in
      let g : At s (at + 4) (b ++ be 2 u) = at_after s at c (b ++ be 2 u) (at + 4) e h.stands in
      here (text-refused s at few small some (at_left s at c (b ++ be 2 u) h.stands) (at_after s (at + 4) b (be 2 u) (at + 4 + n * 2) (ap (λ (k : ℕ). at + 4 + k) size) g))

  pub class-wrong : Refuses WrongClass class
  unfolding class
  class-wrong at b x o (WrongClass.name w) h = rw (unicode-wrong at b x o w h)
  class-wrong at l x o (WrongClass.id {t = t} {b = b} {o = i} y w) h =
      behind (unicode s at) _ at t b i ((text-reads s bytes).complete at t y (at_left s at t b h.stands)).1 h (λ g. id_wrong (at + length t) b x i w g)

  enumerated-wrong : Refuses WrongEnumerated enumerated
  unfolding enumerated
  enumerated-wrong at b x o (WrongEnumerated.type w) h = rw (id_wrong at b x o w h)
  enumerated-wrong at l x o (WrongEnumerated.value {t = t} {b = b} {o = i} y w) h =
      behind (id s at) _ at t b i ((id-reads s bytes).complete at t y (at_left s at t b h.stands)).1 h (λ g. id_wrong (at + length t) b x i w g)

  raw-wrong : Refuses WrongRaw raw_bytes
  unfolding raw_bytes
  raw-wrong at b x o (WrongRaw.size w) h = rw (field_cut at b x o w h)
  raw-wrong at l x o (WrongRaw.body n {b = b} {o = i} small w) h = tagged (λ n q. skip n s q) at n b i small h (λ g. skip-cut n (at + 4) b x i w g)

  -- ---- values

  -- only where a field ends
  passed : (m : Res ℕ) → done m ≡ then m (λ v q. ok tt q)
  passed (ok v q) = refl
  passed (refuse x p r f) = refl

  flag-wrong : Refuses (Wrong 1 Boolean 5) flag
  unfolding flag
  flag-wrong at b x o w h =
      passed (judged 1 boolean s at)
      ∙ wrong 1 boolean (λ v q. ok tt q) 5 at b x o (λ v small never g. sym (passed (judged 1 boolean s at)) ∙ bool-refused s at small (lt_of_not-le never) g) w h

  not-less : (a b : ℕ) → (a < b → ⊥) → b ≤ a
  not-less a b never = omega (arith, lt_of_not-le (λ (l : suc a ≤ b). never l))

  double-wrong : Refuses (Wrong 8 Double 5) double
  unfolding double
  double-wrong at b x o w h =
      passed (judged 8 bits s at)
      ∙ wrong 8 bits (λ v q. ok tt q) 5 at b x o (λ v small never g. sym (passed (judged 8 bits s at)) ∙ double-refused s at small (not-less (v % 0x8000_0000_0000_0000) 0x7FF0_0000_0000_0000 never) g) w h

  pub unit-number : Numbers s 4 Measure (judged 4 unit)
  unit-number = tested-numbers s bytes 4 is_unit _ Measure (λ u h. measure-known h) known-measure

  pub array-number : Numbers s 4 ArrayMeasure (judged 4 array_unit)
  array-number = tested-numbers s bytes 4 is_array_unit _ ArrayMeasure (λ u h. array_known h) known-array

  pub count-number : (m : ℕ) → Numbers s 4 (λ n. n ≡ m) (judged 4 (doubles m))
  count-number m = tag-numbers s bytes 4 m _

  unit-wrong : Refuses (Wrong 4 (Number 4 Measure) 4) unit_double
  unfolding unit_double
  unit-wrong at b x o w h = wrong 4 unit _ 4 at b x o (λ v small never g. unit-refused s at small (not-true (is_unit v) (λ e. never (known-measure v e))) g) w h

  -- a number of a set that is read, and then more
  pub counted-wrong : {A : Type 0} {P : ℕ → Type 0} {m : Reader ℕ} (number_is : Numbers s 4 P m) (k : ℕ → ℕ → Res A) (at n : ℕ) (b : List ℕ) {x : ℕ} (o : ℕ) → n < 256 ^ 4 → P n → There at (be 4 n ++ b) x
      → (There (at + 4) b x → k n (at + 4) ≡ refuse x (at + 4 + o) 0 0) → then (m s at) k ≡ refuse x (at + (4 + o)) 0 0
  counted-wrong number_is k at n b o small of h more =
      let e : at + length (be 4 n) ≡ at + 4 = ap (λ (k : ℕ). at + k) (length-be 4 n) in
      rw (number-whole 4 number_is at n small of (at_left s at (be 4 n) b h.stands))
      (at_place (at + 4 + o) (at + (4 + o)) (omega arith) (more (beyond at (be 4 n) b (at + 4) e h)))

  unit-double-wrong : (at : ℕ) (u b : List ℕ) (x o : ℕ) → Number 4 Measure u → Wrong 8 Double 5 b x o → There at (u ++ b) x → unit_double s at ≡ refuse x (at + (4 + o)) 0 0
  unfolding unit_double
  unit-double-wrong at l b x o (number u small of) w h = counted-wrong unit-number (λ u q. double s q) at u b o small of h (λ g. double-wrong (at + 4) b x o w g)

  -- the reader of a type, and what it says
  pub record Value (kind : ℕ) (b : List ℕ) (x o : ℕ) : Type 0 where
    pub small : kind < 256 ^ 4
    pub reads : Reader Unit
    pub sort : sort_of kind ≡ is (leaf reads)
    pub refuses : (at : ℕ) → There at b x → reads s at ≡ refuse x (at + o) 0 0

  pub leaf-wrong : (kind : ℕ) (b : List ℕ) (x o : ℕ) → WrongLeaf kind b x o → Value kind b x o
  unfolding sort_of
  leaf-wrong kind b x o (WrongLeaf.boolean w) = record { small = omega arith; reads = flag; sort = refl; refuses = λ at h. flag-wrong at b x o w h }
  leaf-wrong kind b x o (WrongLeaf.class w) = record { small = omega arith; reads = class; sort = refl; refuses = λ at h. class-wrong at b x o w h }
  leaf-wrong kind b x o (WrongLeaf.global_class w) = record { small = omega arith; reads = class; sort = refl; refuses = λ at h. class-wrong at b x o w h }
  leaf-wrong kind b x o (WrongLeaf.double w) = record { small = omega arith; reads = double; sort = refl; refuses = λ at h. double-wrong at b x o w h }
  leaf-wrong kind b x o (WrongLeaf.enumerated w) = record { small = omega arith; reads = enumerated; sort = refl; refuses = λ at h. enumerated-wrong at b x o w h }
  leaf-wrong kind b x o (WrongLeaf.alias w) = record { small = omega arith; reads = raw_bytes; sort = refl; refuses = λ at h. raw-wrong at b x o w h }
  leaf-wrong kind b x o (WrongLeaf.path w) = record { small = omega arith; reads = raw_bytes; sort = refl; refuses = λ at h. raw-wrong at b x o w h }
  leaf-wrong kind b x o (WrongLeaf.integer w) = record { small = omega arith; reads = skip 4; sort = refl; refuses = λ at h. skip-cut 4 at b x o w h }
  leaf-wrong kind b x o (WrongLeaf.large w) = record { small = omega arith; reads = skip 8; sort = refl; refuses = λ at h. skip-cut 8 at b x o w h }
  leaf-wrong kind b x o (WrongLeaf.raw w) = record { small = omega arith; reads = raw_bytes; sort = refl; refuses = λ at h. raw-wrong at b x o w h }
  leaf-wrong kind b x o (WrongLeaf.text w) = record { small = omega arith; reads = unicode; sort = refl; refuses = λ at h. unicode-wrong at b x o w h }
  leaf-wrong kind b x o (WrongLeaf.unit w) = record { small = omega arith; reads = unit_double; sort = refl; refuses = λ at h. unit-wrong at b x o w h }
  leaf-wrong kind l x o (WrongLeaf.unit_double {u = u} {b = b} {o = i} y w) = record { small = omega arith; reads = unit_double; sort = refl; refuses = λ at h. unit-double-wrong at u b x i y w h }

  -- the same of a form
  pub record Behind (kind : ℕ) (b : List ℕ) (x o : ℕ) : Type 0 where
    pub small : kind < 256 ^ 4
    pub reads : Reader Unit
    pub form : form_of kind ≡ is reads
    pub refuses : (at : ℕ) → There at b x → reads s at ≡ refuse x (at + o) 0 0

  pub form-wrong : (kind : ℕ) (b : List ℕ) (x o : ℕ) → WrongForm kind b x o → Behind kind b x o
  unfolding form_of
  form-wrong kind b x o (WrongForm.enumerated w) = record { small = omega arith; reads = enumerated; form = refl; refuses = λ at h. enumerated-wrong at b x o w h }
  form-wrong kind b x o (WrongForm.identifier w) = record { small = omega arith; reads = skip 4; form = refl; refuses = λ at h. skip-cut 4 at b x o w h }
  form-wrong kind b x o (WrongForm.index w) = record { small = omega arith; reads = skip 4; form = refl; refuses = λ at h. skip-cut 4 at b x o w h }
  form-wrong kind b x o (WrongForm.name w) = record { small = omega arith; reads = unicode; form = refl; refuses = λ at h. unicode-wrong at b x o w h }
  form-wrong kind b x o (WrongForm.offset w) = record { small = omega arith; reads = skip 4; form = refl; refuses = λ at h. skip-cut 4 at b x o w h }
  form-wrong kind b x o (WrongForm.property w) = record { small = omega arith; reads = id; form = refl; refuses = λ at h. id_wrong at b x o w h }

  -- ---- object arrays

  -- some of X, and then one that is refused
  run-stops : {A : Type 0} {X : Field} {p : Reader A} → Reads X s p → {x q r f : ℕ} (k n i at : ℕ) (c : List ℕ) → Run X k c → k < n → At s at c → p s (at + length c) ≡ refuse x q r f → each n i (λ i. p) s at ≡ refuse x q r f
  unfolding each
  run-stops reads zero zero i at c l h g e = absurd (omega arith)
  run-stops {p = p} reads {x} {q} {r} {f} zero (suc n) i at c l h g e =
      let z : at + length c ≡ at = omega (arith, l) in
      let y : p s at ≡ refuse x q r f = subst (λ (k : ℕ). p s k ≡ refuse x q r f) z e in
      rw y
  run-stops reads (suc k) zero i at c l h g e = absurd (omega arith)
  run-stops {p = p} reads {x} {q} {r} {f} (suc k) (suc n) i at c (seq {x = a} {y = b} one more) h g e =
      let u = reads.complete at a one (at_left s at a b g) in
      let z : at + length (a ++ b) ≡ at + length a + length b = omega (arith, length-append a b) in
      rw u.1 (rw (run-stops reads k n (i + 1) (at + length a) b more (omega arith) (at_right s at a b g) (subst (λ (k : ℕ). p s k ≡ refuse x q r f) z e)))

  doubles-wrong : (m k at : ℕ) (c b : List ℕ) (x o : ℕ) → k < m → Run Double k c → Wrong 8 Double 5 b x o → There at (c ++ b) x → passing (each m 0 (λ i. double)) s at ≡ refuse x (at + (length c + o)) 0 0
  doubles-wrong m k at c b x o less raw_bytes w h =
      let g = beyond at c b (at + length c) refl h in
      let d = run-stops (double-reads s bytes) k m 0 at c raw_bytes less (at_left s at c b h.stands) (double-wrong (at + length c) b x o w g) in
      at_place (at + length c + o) (at + (length c + o)) (omega arith) (ap done d)

  pub column-wrong : (m : ℕ) → Refuses (WrongDoubles m) (column m)
  unfolding column
  column-wrong m at b x o (WrongDoubles.unit w) h = wrong 4 array_unit _ 4 at b x o (λ v small never g. array-unit-refused s at m small (not-true (is_array_unit v) (λ e. never (known-array v e))) g) w h
  column-wrong m at l x o (WrongDoubles.number {b = b} {o = i} (number u small of) w) h =
      counted-wrong array-number _ at u b i small of h (λ g. wrong 4 (doubles m) _ 5 (at + 4) b x i (λ v few never f.
      let z = count-refused s at m small (array_known of) (at_left s at (be 4 u) b h.stands) few never f in
      sym (then_to (judged 4 array_unit s at) _ (number-whole 4 array-number at u small of (at_left s at (be 4 u) b h.stands))) ∙ z) w g)
  column-wrong m at l x o (WrongDoubles.double k c {b = b} {o = i} (number u small of) few less raw_bytes w) h =
      let z : at + (4 + (4 + (length c + i))) ≡ at + (8 + length c + i) = omega arith in
      at_place (at + (4 + (4 + (length c + i)))) (at + (8 + length c + i)) z
      (counted-wrong array-number _ at u (be 4 m ++ (c ++ b)) (4 + (length c + i)) small of h (λ g.
      counted-wrong (count-number m) _ (at + 4) m (c ++ b) (length c + i) few refl g (λ f. doubles-wrong m k (at + 4 + 4) c b x i less raw_bytes w f)))
