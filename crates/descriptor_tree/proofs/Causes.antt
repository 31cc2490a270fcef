-- What each reader refuses is damaged, by the refusal's number and at its place: the fields. Assumes nothing.
use Prim.Native.Nat.{ℕ, zero, suc, ◌+◌, ◌-◌, ◌*◌, ◌^◌, ◌%◌, ◌≤◌, ◌<◌}
use mathlib.Core.Path.{◌≡◌, refl, sym, ap, ◌∙◌, subst, subst₂}
use mathlib.Core.List.{List, [], ◌∷◌, ◌++◌, append_assoc}
use mathlib.Core.Logic.{◌⊎◌, inl, inr}
use mathlib.Core.Bool.{Bool, true, false}
use lib.Dec.{leb, eqb}
use lib.ListN.{length, length-append}
use lib.Ieee.{binary64, of_bits}
use lib.Ieee.Scale.{finite}
use borrow.Author.Tests.{leb-false, le-leb, lt-ltb, eq-eqb, eqb-false, ne_eqb}
use native.Mathlib.Omega.{arith}
use native.Mathlib.Nat.{add-zero, mul-one}
use Rattle.algebra.specs.Chars.{chars}
use Rattle.algebra.specs.Numbers.{num, nums, be, At, Bytes}
use Rattle.algebra.specs.Reader.{Res, Reader, ok, refuse, then, pick, field, body, rule, unless, judged, ◌>>=◌, each, done}
use Rattle.algebra.specs.Store.{part}
use Rattle.algebra.specs.Sets.{Field, Number, number, seq, Run}
use Rattle.algebra.proofs.Places.{length-be, at_in, at_next, at_part, length_part, num-lt, num-be, be-num}
use Rattle.algebra.proofs.Floats.{finite-bits}
use Rattle.algebra.proofs.Inverse.{clash, body-inv}
use Rattle.algebra.proofs.Sets.{Reads, Stands, field-numbers, number-sound}
use Rattle.descriptor.specs.Reading.{passing, skip, id, shut, closing, unicode, class, boolean, flag, bits, double, enumerated, raw_bytes, is_unit, is_array_unit, unit, array_unit, unit_double, is, Sort, leaf, list, object, reference, array, types, sort_of, forms, form_of, doubles, column}
use Rattle.descriptor.proofs.Fields.{shut-nums}
use Rattle.descriptor_tree.specs.Grammar.{Boolean, Double, Measure, ArrayMeasure}
use Rattle.descriptor_tree.specs.Damaged.{Cut, cut, Wrong, WrongId, WrongText, WrongClass, WrongEnumerated, WrongRaw, WrongLeaf, WrongForm, WrongDoubles}
use Rattle.descriptor_tree.proofs.Fields.{beside-each, measure-known, array_known, id-reads, text-reads, double-reads}
use Rattle.descriptor_tree.proofs.WrongFields.{There, unit-number, array-number, count-number}

-- ---- a refusal of two steps is the first's, or the second's behind what the first read

pub data Why {A B : Type 0} (m : Res A) (k : A → ℕ → Res B) (x q r f : ℕ) : Type 0 where
  first : m ≡ refuse x q r f → Why m k x q r f
  later : (a : A) (n : ℕ) → m ≡ ok a n → k a n ≡ refuse x q r f → Why m k x q r f

same-refusal : {A B : Type 0} {x p r f y q t g : ℕ} → ◌≡◌ {A = Res A} (refuse x p r f) (refuse y q t g) → ◌≡◌ {A = Res B} (refuse x p r f) (refuse y q t g)
same-refusal {A} {B} {x} {p} {r} {f} {y} {q} {t} {g} e =
    let a : x ≡ y = cc in
    let b : p ≡ q = cc in
    let c : r ≡ t = cc in
    let d : f ≡ g = cc in
    rw (a, b, c, d)

pub why : {A B : Type 0} (m : Res A) (k : A → ℕ → Res B) {x q r f : ℕ} → then m k ≡ refuse x q r f → Why m k x q r f
why (ok a n) k e = later a n refl e
why (refuse y p t g) k e = first (same-refusal e)

pub done-why : {A : Type 0} (m : Res A) {x q r f : ℕ} → done m ≡ refuse x q r f → m ≡ refuse x q r f
done-why (ok a n) e = clash (sym e)
done-why (refuse y p t g) e = same-refusal e

pub refusal_is : {A : Type 0} {x p r f y q t g : ℕ} → ◌≡◌ {A = Res A} (refuse x p r f) (refuse y q t g) → (x ≡ y) × (p ≡ q)
refusal_is {A} {x} {p} {r} {f} {y} {q} e =
    let a : x ≡ y = cc in
    let b : p ≡ q = cc in
    (a, b)

module _ (s : List ℕ) (bytes : Bytes s) where
  -- what stands from `at` is of W, with the number x and the place q
  pub record Cause (W : List ℕ → ℕ → ℕ → Type 0) (at x q : ℕ) : Type 0 where
    pub span : List ℕ
    pub from : ℕ
    pub is : W span x from
    pub there : There s bytes at span x
    pub place : at + from ≡ q

  abbrev pub Causes : {A : Type 0} → (List ℕ → ℕ → ℕ → Type 0) → Reader A → Type 0
  Causes W p = (at : ℕ) → at ≤ length s → (x q r f : ℕ) → p s at ≡ refuse x q r f → Cause W at x q

  pub also : {U W : List ℕ → ℕ → ℕ → Type 0} {at x q : ℕ} → Cause U at x q → ((b : List ℕ) (y o : ℕ) → U b y o → W b y o) → Cause W at x q
  also {x = x} c to = record { span = c.span; from = c.from; is = to c.span x c.from c.is; there = c.there; place = c.place }

  -- behind l bytes that stand there
  pub after : {U W : List ℕ → ℕ → ℕ → Type 0} {at x q : ℕ} (a : List ℕ) (l n : ℕ) → length a ≡ l → At s at a → at + l ≡ n → Cause U n x q → ((b : List ℕ) (y o : ℕ) → U b y o → W (a ++ b) y (l + o)) → Cause W at x q
  after {at = at} {x = x} {q = q} a l n size h e c to = record {
    span = a ++ c.span;
    from = l + c.from;
    is = to c.span x c.from c.is;
    there = record { stands = at_next s at a c.span n (omega arith) h c.there.stands; ends = λ z. c.there.ends z ∙ same };
    place = omega (arith, c.place);
  }
    where
      same : n + length c.span ≡ at + length (a ++ c.span)
      same = omega (arith, length-append a c.span)

  -- ---- one field

  pub field-why : (w at : ℕ) {x q r f : ℕ} → field w s at ≡ refuse x q r f → (x ≡ 2) × (q ≡ at) × (length s - at < w)
  unfolding field
  field-why w at {x} {q} {r} {f} e = go (leb w (length s - at)) refl e
    where
      go : (b : Bool) → leb w (length s - at) ≡ b → pick b (ok (num w s at) (at + w)) (refuse 2 at 0 0) ≡ refuse x q r f → (x ≡ 2) × (q ≡ at) × (length s - at < w)
      go true h g = clash (sym g)
      go false h g = let z = refusal_is g in (sym z.0, sym z.1, leb-false w (length s - at) h)

  body-why : (w n at : ℕ) {x q r f : ℕ} → body w n s at ≡ refuse x q r f → (x ≡ 2) × (q ≡ at) × (length s - at < n * w)
  unfolding body
  body-why w n at {x} {q} {r} {f} e = go (leb (n * w) (length s - at)) refl e
    where
      go : (b : Bool) → leb (n * w) (length s - at) ≡ b → pick b (ok (nums w n s at) (at + n * w)) (refuse 2 at 0 0) ≡ refuse x q r f → (x ≡ 2) × (q ≡ at) × (length s - at < n * w)
      go true h g = clash (sym g)
      go false h g = let z = refusal_is g in (sym z.0, sym z.1, leb-false (n * w) (length s - at) h)

  -- the rest of the file, which is too short
  rest-there : (at : ℕ) → at ≤ length s → There s bytes at (part s at (length s - at)) 2
  rest-there at le = record { stands = at_part s at (length s - at) (omega arith); ends = λ z. omega (arith, length_part s at (length s - at) (omega arith)) }

  cut-here : (w at : ℕ) → at ≤ length s → length s - at < w → Cause (Cut w) at 2 at
  cut-here w at le l = record {
    span = part s at (length s - at);
    from = 0;
    is = cut {b = part s at (length s - at)} (omega (arith, length_part s at (length s - at) (omega arith)));
    there = rest-there at le;
    place = add-zero at;
  }

  pub cut_at : (w at : ℕ) → at ≤ length s → {x q : ℕ} → (x ≡ 2) × (q ≡ at) × (length s - at < w) → Cause (Cut w) at x q
  cut_at w at le h = subst₂ (λ (y p : ℕ). Cause (Cut w) at y p) (sym h.0) (sym h.1) (cut-here w at le h.2)

  pub field-cause : Causes (Cut 4) (field 4)
  field-cause at le x q r f e = cut_at 4 at le (field-why 4 at e)

  pub body-cause : (w n : ℕ) → Causes (Cut (n * w)) (body w n)
  body-cause w n at le x q r f e = cut_at (n * w) at le (body-why w n at e)

  -- a judged field
  module _ (w : ℕ) (test : ℕ → Bool) (y : ℕ) (P : ℕ → Type 0) (to : (v : ℕ) → P v → test v ≡ true) (other : y ≡ 2 → ⊥) where
    never-number : (at n : ℕ) (b : List ℕ) → n < 256 ^ w → At s at (be w n) → b ≡ be w n → Number w P b → test n ≡ true
    never-number at n b small h e (number m less p) =
        let same : m ≡ n = sym (num-be s w at m less (subst (λ (l : List ℕ). At s at l) (sym e) h)) ∙ num-be s w at n small h in
        subst (λ (k : ℕ). test k ≡ true) same (to m p)

    pub outside-here : (at n e : ℕ) → at ≤ length s → field w s at ≡ ok n e → test n ≡ false → Cause (Wrong w (Number w P) y) at y at
    outside-here at n e le g bad =
        let z = number-sound w (field-numbers s bytes w) at n e le g in record {
          span = be w n;
          from = 0;
          is = Wrong.outside (length-be w n) (λ m. absurd (no_both (test n) (never-number at n (be w n) z.small z.stands refl m) bad));
          there = record { stands = z.stands; ends = λ p. absurd (other p) };
          place = add-zero at;
        }
      where
        no_both : (b : Bool) → b ≡ true → b ≡ false → ⊥
        no_both true p q = let z : ◌≡◌ {A = ℕ} 0 1 = cc in omega arith
        no_both false p q = let z : ◌≡◌ {A = ℕ} 0 1 = cc in omega arith

    pub wrong-cause : Causes (Wrong w (Number w P) y) (judged w (λ v. unless (test v) y))
    wrong-cause at le x q r f e = go (why (field w s at) _ e)
      where
        bad : (n m : ℕ) → field w s at ≡ ok n m → (b : Bool) → test n ≡ b → rule (unless b y) at (ok n m) ≡ refuse x q r f → Cause (Wrong w (Number w P) y) at x q
        bad n m g true h u = clash (sym u)
        bad n m g false h u = let z = refusal_is u in subst₂ (λ (a b : ℕ). Cause (Wrong w (Number w P) y) at a b) z.0 z.1 (outside-here at n m le g h)

        go : Why (field w s at) (λ v n. rule (unless (test v) y) at (ok v n)) x q r f → Cause (Wrong w (Number w P) y) at x q
        go (first g) = also (cut_at w at le (field-why w at g)) (λ b z o c. whole b z o c)
          where
            whole : (b : List ℕ) (z o : ℕ) → Cut w b z o → Wrong w (Number w P) y b z o
            whole b z o (cut l) = Wrong.cut l
        go (later n m g h) = bad n m g (test n) refl h

  -- ---- IDs, strings, classes, runs of bytes

  pub skip-cause : (n : ℕ) → Causes (Cut n) (skip n)
  skip-cause n at le x q r f e = subst (λ (k : ℕ). Cause (Cut k) at x q) (mul-one n) (body-cause 1 n at le x q r f (done-why (body 1 n s at) e))

  -- a count of 32 bits that was read
  pub record Counted (at n e : ℕ) : Type 0 where
    pub small : n < 256 ^ 4
    pub stands : At s at (be 4 n)
    pub next : at + 4 ≡ e
    pub inside : e ≤ length s

  pub count-read : (at n e : ℕ) → at ≤ length s → field 4 s at ≡ ok n e → Counted at n e
  count-read at n e le h = let z = number-sound 4 (field-numbers s bytes 4) at n e le h in record { small = z.small; stands = z.stands; next = z.next; inside = z.inside }

  -- behind it
  pub behind-count : {U W : List ℕ → ℕ → ℕ → Type 0} {at n e x q : ℕ} → Counted at n e → Cause U e x q → ((b : List ℕ) (y o : ℕ) → U b y o → W (be 4 n ++ b) y (4 + o)) → Cause W at x q
  behind-count {n = n} {e = e} z c to = after (be 4 n) 4 e (length-be 4 n) z.stands z.next c to

  pub id-cause : Causes WrongId id
  unfolding id
  id-cause at le x q r f e = go (why (field 4 s at) _ e)
    where
      body_of : (n m : ℕ) → Counted at n m → skip (pick (eqb n 0) 4 n) s m ≡ refuse x q r f → Cause WrongId at x q
      body_of zero m z h = behind-count z (skip-cause 4 m z.inside x q r f h) (λ b y o w. WrongId.char w)
      body_of (suc n) m z h =
          let g : skip (suc n) s m ≡ refuse x q r f = subst (λ (t : Bool). skip (pick t 4 (suc n)) s m ≡ refuse x q r f) (ne_eqb (suc n) 0 (λ e. omega arith)) h in
          behind-count z (skip-cause (suc n) m z.inside x q r f g) (λ b y o w. WrongId.string (suc n) (omega arith) z.small w)

      go : Why (field 4 s at) (λ n q. skip (pick (eqb n 0) 4 n) s q) x q r f → Cause WrongId at x q
      go (first g) = also (field-cause at le x q r f g) (λ b y o w. WrongId.size w)
      go (later n m g h) = body_of n m (count-read at n m le g) h

  -- the units of a string whose last is not zero
  open-here : (at n m : ℕ) → Counted at n m → n * 2 ≤ length s - m → shut (nums 2 n s m) ≡ false → Cause WrongText at 8 at
  unfolding shut nums
  open-here at zero m z room h = let y : ◌≡◌ {A = ℕ} 0 1 = cc in absurd (omega arith)
  open-here at (suc n) m z room h =
      let b : List ℕ = part s m (n * 2) in
      let u : ℕ = num 2 s (m + n * 2) in
      let l : length b ≡ n * 2 = length_part s m (n * 2) (omega (arith, z.inside)) in
      let c : List ℕ = be 4 (suc n) in
      let g : At s m (b ++ be 2 u) = at_next s m b (be 2 u) (m + n * 2) (omega arith) (at_part s m (n * 2) (omega (arith, z.inside))) (be-num s bytes 2 (m + n * 2) (omega (arith, z.inside))) in
      let some : u ≡ 0 → ⊥ = eqb-false u 0 (sym (shut-nums n s m) ∙ h) in
      record {
        span = c ++ (b ++ be 2 u);
        from = 0;
        is = WrongText.unclosed n u b z.small l (omega arith) (num-lt s bytes 2 (m + n * 2));
        there = record { stands = at_next s at c (b ++ be 2 u) m (omega (arith, length-be 4 (suc n), z.next)) z.stands g; ends = λ p. absurd (omega arith) };
        place = add-zero at;
      }

  unicode-cause : Causes WrongText unicode
  unfolding unicode
  unicode-cause at le x q r f e = go (why (field 4 s at) _ e)
    where
      judge : (n m end : ℕ) (us : List ℕ) → Counted at n m → body 2 n s m ≡ ok us end → (b : Bool) → shut us ≡ b → rule (closing b) at (ok (tt {0}) end) ≡ refuse x q r f → Cause WrongText at x q
      judge n m end us z g true h u = clash (sym u)
      judge n m end us z g false h u =
          let i = body-inv 2 s m n g in
          let y = refusal_is u in
          subst₂ (λ (a b : ℕ). Cause WrongText at a b) y.0 y.1 (open-here at n m z i.0 (ap shut i.1 ∙ h))

      units_of : (n m : ℕ) → Counted at n m → Why (body 2 n s m) (λ us end. rule (closing (shut us)) at (ok (tt {0}) end)) x q r f → Cause WrongText at x q
      units_of n m z (first g) = behind-count z (body-cause 2 n m z.inside x q r f g) (λ b y o w. WrongText.units n z.small w)
      units_of n m z (later us end g h) = judge n m end us z g (shut us) refl h

      go : Why (field 4 s at) (λ n first. then (body 2 n s first) (λ us end. rule (closing (shut us)) at (ok (tt {0}) end))) x q r f → Cause WrongText at x q
      go (first g) = also (field-cause at le x q r f g) (λ b y o w. WrongText.size w)
      go (later n m g h) = units_of n m (count-read at n m le g) (why (body 2 n s m) _ h)

  -- a part that was read, and then one that is refused
  pub two-cause : {A B : Type 0} {X : Field} {U W Y : List ℕ → ℕ → ℕ → Type 0} {m : Reader A} (k : Reader B) → Reads X s m → Causes U m → Causes W k
      → ((b : List ℕ) (y o : ℕ) → U b y o → Y b y o) → ((a : List ℕ) → X a → (b : List ℕ) (y o : ℕ) → W b y o → Y (a ++ b) y (length a + o)) → Causes Y (m >>= (λ a. k))
  two-cause {A} {B} {X} {U} {W} {Y} {m} k reads one two left right at le x q r f e = go (why (m s at) _ e)
    where
      go : Why (m s at) (λ a n. k s n) x q r f → Cause Y at x q
      go (first g) = also (one at le x q r f g) left
      go (later a n g h) =
          let z = reads.sound at le a n g in
          after z.0 (length z.0) n refl z.2 z.3 (two n (omega (arith, at_in s at z.0 z.2, z.3)) x q r f h) (right z.0 z.1)

  pub class-cause : Causes WrongClass class
  unfolding class
  class-cause = two-cause id (text-reads s bytes) unicode-cause id-cause (λ b y o w. WrongClass.name w) (λ a t b y o w. WrongClass.id t w)

  enumerated-cause : Causes WrongEnumerated enumerated
  unfolding enumerated
  enumerated-cause = two-cause id (id-reads s bytes) id-cause id-cause (λ b y o w. WrongEnumerated.type w) (λ a t b y o w. WrongEnumerated.value t w)

  raw-cause : Causes WrongRaw raw_bytes
  unfolding raw_bytes
  raw-cause at le x q r f e = go (why (field 4 s at) _ e)
    where
      go : Why (field 4 s at) (λ n q. skip n s q) x q r f → Cause WrongRaw at x q
      go (first g) = also (field-cause at le x q r f g) (λ b y o w. WrongRaw.size w)
      go (later n m g h) = let z = count-read at n m le g in behind-count z (skip-cause n m z.inside x q r f h) (λ b y o w. WrongRaw.body n z.small w)

  -- ---- values

  passed-cause : {W : List ℕ → ℕ → ℕ → Type 0} (m : Reader ℕ) → Causes W m → Causes W (passing m)
  passed-cause m c at le x q r f e = c at le x q r f (done-why (m s at) e)

  flag-cause : Causes (Wrong 1 Boolean 5) flag
  unfolding flag
  flag-cause = passed-cause (judged 1 boolean) (wrong-cause 1 (λ b. leb b 1) 5 (λ n. n ≤ 1) (λ v p. le-leb v 1 p) (λ e. omega arith))

  double-cause : Causes (Wrong 8 Double 5) double
  unfolding double
  double-cause = passed-cause (judged 8 bits) (wrong-cause 8 (λ b. finite (of_bits binary64 b)) 5 (λ n. n % 0x8000_0000_0000_0000 < 0x7FF0_0000_0000_0000)
      (λ v p. finite-bits binary64 v ∙ lt-ltb (v % 0x8000_0000_0000_0000) 0x7FF0_0000_0000_0000 p) (λ e. omega arith))

  unit-cause : Causes (WrongLeaf (chars "UntF")) unit_double
  unfolding unit_double
  unit-cause at le x q r f e = go (why (judged 4 unit s at) _ e)
    where
      go : Why (judged 4 unit s at) (λ u n. double s n) x q r f → Cause (WrongLeaf (chars "UntF")) at x q
      go (first g) = also (wrong-cause 4 is_unit 4 Measure (λ v p. measure-known p) (λ e. omega arith) at le x q r f g) (λ b y o w. WrongLeaf.unit w)
      go (later u n g h) =
          let z = number-sound 4 (unit-number s bytes) at u n le g in
          after (be 4 u) 4 n (length-be 4 u) z.stands z.next (double-cause n z.inside x q r f h) (λ b y o w. WrongLeaf.unit_double (number u z.small z.holds) w)

  -- doubles: some that are read, and one that is refused
  record Double-at (n at x q : ℕ) : Type 0 where
    pub before : ℕ
    pub span : List ℕ
    pub less : before < n
    pub raw_bytes : Run Double before span
    pub stands : At s at span
    pub cause : Cause (Wrong 8 Double 5) (at + length span) x q

  doubles-cause : (n i at : ℕ) → at ≤ length s → (x q r f : ℕ) → each n i (λ i. double) s at ≡ refuse x q r f → Double-at n at x q
  unfolding each At
  doubles-cause zero i at le x q r f e = clash (sym e)
  doubles-cause (suc n) i at le x q r f e = go (λ m g h. doubles-cause n (i + 1) m g x q r f h) (why (double s at) _ e)
    where
      more : ((m : ℕ) → m ≤ length s → each n (i + 1) (λ i. double) s m ≡ refuse x q r f → Double-at n m x q) → (a : Unit) (m : ℕ) → double s at ≡ ok a m → Why (each n (i + 1) (λ i. double) s m) (λ us end. ok (a ∷ us) end) x q r f → Double-at (suc n) at x q
      more rec a m g (later us end h u) = clash (sym u)
      more rec a m g (first h) =
          let z = (double-reads s bytes).sound at le a m g in
          let c = rec m (omega (arith, at_in s at z.0 z.2, z.3)) h in
          let k : m + length c.span ≡ at + length (z.0 ++ c.span) = omega (arith, length-append z.0 c.span, z.3) in
          record {
            before = suc c.before;
            span = z.0 ++ c.span;
            less = omega (arith, c.less);
            raw_bytes = seq z.1 c.raw_bytes;
            stands = at_next s at z.0 c.span m z.3 z.2 c.stands;
            cause = subst (λ (p : ℕ). Cause (Wrong 8 Double 5) p x q) k c.cause;
          }

      go : ((m : ℕ) → m ≤ length s → each n (i + 1) (λ i. double) s m ≡ refuse x q r f → Double-at n m x q) → Why (double s at) (λ a m. then (each n (i + 1) (λ i. double) s m) (λ us end. ok (a ∷ us) end)) x q r f → Double-at (suc n) at x q
      go rec (first g) = record {
        before = 0;
        span = [];
        less = omega arith;
        raw_bytes = refl;
        stands = le;
        cause = subst (λ (p : ℕ). Cause (Wrong 8 Double 5) p x q) (sym (add-zero at)) (double-cause at le x q r f g);
      }
      go rec (later a m g h) = more rec a m g (why (each n (i + 1) (λ i. double) s m) _ h)

  pub column-cause : (m : ℕ) → m < 256 ^ 4 → Causes (WrongDoubles m) (column m)
  unfolding column
  column-cause m few at le x q r f e = go (why (judged 4 array_unit s at) _ e)
    where
      third : (u n c e : ℕ) → Stands s 4 ArrayMeasure at u n → judged 4 (doubles m) s n ≡ ok c e → done (each c 0 (λ i. double) s e) ≡ refuse x q r f → Cause (WrongDoubles m) at x q
      third u n c e z g h =
          let y = number-sound 4 (count-number s bytes m) n c e z.inside g in
          let d = doubles-cause c 0 e y.inside x q r f (done-why (each c 0 (λ i. double) s e) h) in
          let a : List ℕ = be 4 u ++ (be 4 m ++ d.span) in
          let st : At s at a = at_next s at (be 4 u) (be 4 m ++ d.span) n (omega (arith, length-be 4 u, z.next)) z.stands
          (at_next s n (be 4 m) d.span e (omega (arith, length-be 4 m, y.next)) (subst (λ (k : ℕ). At s n (be 4 k)) y.holds y.stands) d.stands) in
          let size : length a ≡ 8 + length d.span = omega (arith, length-append (be 4 u) (be 4 m ++ d.span), length-append (be 4 m) d.span, length-be 4 u, length-be 4 m) in
          after a (8 + length d.span) (e + length d.span) size st (omega (arith, z.next, y.next)) d.cause (λ b y' o w.
          subst (λ (l : List ℕ). WrongDoubles m l y' (8 + length d.span + o)) (sym (append_assoc (be 4 u) (be 4 m ++ d.span) b) ∙ refl)
          (subst (λ (l : List ℕ). WrongDoubles m (be 4 u ++ l) y' (8 + length d.span + o)) (sym (append_assoc (be 4 m) d.span b))
          (WrongDoubles.double d.before d.span (number u z.small z.holds) few (omega (arith, d.less, y.holds)) d.raw_bytes w)))

      second : (u n : ℕ) → Stands s 4 ArrayMeasure at u n → Why (judged 4 (doubles m) s n) (λ c e. done (each c 0 (λ i. double) s e)) x q r f → Cause (WrongDoubles m) at x q
      second u n z (first g) =
          after (be 4 u) 4 n (length-be 4 u) z.stands z.next (wrong-cause 4 (λ c. eqb c m) 5 (λ c. c ≡ m) (λ v p. eq-eqb v m p) (λ e. omega arith) n z.inside x q r f g)
          (λ b y o w. WrongDoubles.number (number u z.small z.holds) w)
      second u n z (later c e g h) = third u n c e z g h

      go : Why (judged 4 array_unit s at) (λ u n. (judged 4 (doubles m) >>= (λ c. passing (each c 0 (λ i. double)))) s n) x q r f → Cause (WrongDoubles m) at x q
      go (first g) = also (wrong-cause 4 is_array_unit 4 ArrayMeasure (λ v p. array_known p) (λ e. omega arith) at le x q r f g) (λ b y o w. WrongDoubles.unit w)
      go (later u n g h) = second u n (number-sound 4 (array-number s bytes) at u n le g) (why (judged 4 (doubles m) s n) _ h)

  -- ---- by type and form

  abbrev pub Sorts : ℕ → Sort → Type 0
  Sorts t (leaf p) = Causes (WrongLeaf t) p
  Sorts t list = t ≡ chars "VlLs"
  Sorts t object = (t ≡ chars "Objc") ⊎ (t ≡ chars "GlbO")
  Sorts t reference = t ≡ chars "obj "
  Sorts t array = t ≡ chars "ObAr"

  within : {U W : List ℕ → ℕ → ℕ → Type 0} (p : Reader Unit) → Causes U p → ((b : List ℕ) (y o : ℕ) → U b y o → W b y o) → Causes W p
  within p c to at le x q r f e = also (c at le x q r f e) to

  pub sort-cause : (t : ℕ) (sort : Sort) → sort_of t ≡ is sort → Sorts t sort
  unfolding sort_of
  sort-cause = beside-each Sorts types (
    within flag flag-cause (λ b y o w. WrongLeaf.boolean w),
    (
      within class class-cause (λ b y o w. WrongLeaf.class w),
      (
        within class class-cause (λ b y o w. WrongLeaf.global_class w),
        (
          within double double-cause (λ b y o w. WrongLeaf.double w),
          (
            within enumerated enumerated-cause (λ b y o w. WrongLeaf.enumerated w),
            (
              within raw_bytes raw-cause (λ b y o w. WrongLeaf.alias w),
              (
                within raw_bytes raw-cause (λ b y o w. WrongLeaf.path w),
                (
                  within raw_bytes raw-cause (λ b y o w. WrongLeaf.raw w),
                  (
                    within (skip 4) (skip-cause 4) (λ b y o w. WrongLeaf.integer w),
                    (
                      within (skip 8) (skip-cause 8) (λ b y o w. WrongLeaf.large w),
                      (
                        within unicode unicode-cause (λ b y o w. WrongLeaf.text w),
                        (unit-cause, (refl, (inl refl, (inr refl, (refl, (refl, tt)))))),
                      ),
                    ),
                  ),
                ),
              ),
            ),
          ),
        ),
      ),
    ),
  )

  -- no bytes are never refused
  nothing-cause : Causes (WrongForm (chars "Clss")) (skip 0)
  nothing-cause at le x q r f e = let z = body-why 1 0 at (done-why (body 1 0 s at) e) in absurd (omega (arith, z.2))

  pub form-cause : (t : ℕ) (p : Reader Unit) → form_of t ≡ is p → Causes (WrongForm t) p
  unfolding form_of
  form-cause = beside-each (λ t p. Causes (WrongForm t) p) forms (
    nothing-cause,
    (
      within enumerated enumerated-cause (λ b y o w. WrongForm.enumerated w),
      (
        within id id-cause (λ b y o w. WrongForm.property w),
        (
          within unicode unicode-cause (λ b y o w. WrongForm.name w),
          (within (skip 4) (skip-cause 4) (λ b y o w. WrongForm.identifier w), (within (skip 4) (skip-cause 4) (λ b y o w. WrongForm.index w), (within (skip 4) (skip-cause 4) (λ b y o w. WrongForm.offset w), tt))),
        ),
      ),
    ),
  )
