-- Which way the readers of Reading go, on plain values. Assumes nothing.
use Prim.Native.Nat.{ℕ, ◌+◌, ◌*◌, ◌≤◌, ◌<◌}
use mathlib.Core.Path.{◌≡◌, refl, sym, ap, ◌∙◌}
use mathlib.Core.List.{List, [], ◌∷◌}
use mathlib.Core.Bool.{true, false}
use lib.ListN.{length, get_or, length-map}
use lib.Dec.{eqb}
use borrow.Author.Tests.{le-leb, lt-leb, eq-eqb, ne_eqb}
use native.Mathlib.Omega.{arith}
use Rattle.algebra.specs.Numbers.{num}
use Rattle.algebra.specs.Reader.{Res, ok, refuse, Reader, then, pick, rule, field, done, each, judged, Judged, fine, fault, limit}
use Rattle.algebra.proofs.Laws.{field_in, judged-short, judged-bad, judged-ok, then_ok, done-refuse, done-const, ended-done, turn-ok, turn_end}
use Rattle.algebra.proofs.Inverse.{then-inv, field-inv, judged-inv, ended-inv, done-inv, each-length}
use Rattle.colour.specs.declared.space.Colour.{Colour}
use Rattle.colour.specs.Spaces.{known, allowed, sound}
use Rattle.colour.proofs.Laws.{sound-inv}
use Rattle.aco.specs.Reading.{most, space, sample, samples, colour, heading, field_of, repeated_field, Entry, entry, Contents, zero_colour, second, unnamed, after, lists, aco, version, first_count}
use Rattle.aco.specs.scaffold.Raw.{raw_colours, headed, after_heading}
use Rattle.algebra.specs.Table.{Verdict, accepted, refused, verdict}
use Rattle.fault.specs.Fault.{number_of}
use Rattle.aco_judge.specs.Answer.{report, rejected, told}
use Rattle.aco_judge.specs.scaffold.Answer.{refused_as, told_repeated}
use Rattle.aco_judge.specs.declared.Counts.{Counts}
use Rattle.aco_judge.specs.declared.Rejection.{Rejection}
use Rattle.aco_judge.specs.declared.Rejection.TheVariants as rejection
use Rattle.aco.proofs.Raw.{colours-raw, colours-inside, length-raw}
use Rattle.std.specs.Prelude.{Result, Err}
use Rattle.std.specs.Result.{IsErrAnd}
use Rattle.std.proofs.lemmas.Result.{err_from_is_err_and}

-- ---- a colour

module _ (s : List ℕ) (at : ℕ) where
  pub colour-short : refuse 2 at 0 0 ≡ field 2 s at → done (colour s at) ≡ refuse 2 at 0 0
  unfolding colour
  colour-short e = rw (judged-short 2 s at space e)

  module _ (x n : ℕ) (e : ok x n ≡ field 2 s at) where
    pub colour-unknown : known x ≡ false → done (colour s at) ≡ refuse 4 at 0 0
    unfolding colour
    colour-unknown u = rw (judged-bad 2 s at space 4 0 0 e (rw u))

    pub colour-known : known x ≡ true → done (colour s at) ≡ done (samples x s n)
    unfolding colour
    colour-known u = rw (judged-ok 2 s at space e (rw u)) (then_ok _ (samples x s n))

-- a colour without a fault
module _ (s : List ℕ) (x : ℕ) where
  sample-turn : (k p q : ℕ) → p + 2 ≡ q → q ≤ length s → allowed x k (num 2 s p) ≡ true → done (judged 2 (sample x k) s p) ≡ ok tt q
  sample-turn k p q e h a = ap done (judged-ok 2 s p (sample x k) (sym (field_in 2 s p (omega arith))) (rw a)) ∙ ap (λ (n : ℕ). ok tt n) e

  samples-sound : (p q r t u : ℕ) → p + 2 ≡ q → q + 2 ≡ r → r + 2 ≡ t → t + 2 ≡ u → u ≤ length s → allowed x 0 (num 2 s p) ≡ true → allowed x 1 (num 2 s q) ≡ true → allowed x 2 (num 2 s r) ≡ true → allowed x 3 (num 2 s t) ≡ true
      → done (samples x s p) ≡ ok tt u
  unfolding samples
  samples-sound p q r t u eq er et eu h a b c d =
      let first = turn-ok (λ j. judged 2 (sample x j)) s _ 4 0 p refl (omega arith) q (sample-turn 0 p q eq (omega arith) a) in
      let second = turn-ok (λ j. judged 2 (sample x j)) s _ 4 1 q first (omega arith) r (sample-turn 1 q r er (omega arith) b) in
      let third = turn-ok (λ j. judged 2 (sample x j)) s _ 4 2 r second (omega arith) t (sample-turn 2 r t et (omega arith) c) in
      let fourth = turn-ok (λ j. judged 2 (sample x j)) s _ 4 3 t third (omega arith) u (sample-turn 3 t u eu (omega arith) d) in
      turn_end (λ j. judged 2 (sample x j)) s _ 4 4 u fourth (omega arith)

pub colour-sound : (s : List ℕ) (at x a b c d : ℕ) → at + 10 ≤ length s → x ≡ num 2 s at → a ≡ num 2 s (at + 2) → b ≡ num 2 s (at + 4) → c ≡ num 2 s (at + 6) → d ≡ num 2 s (at + 8)
    → sound x (a ∷ b ∷ c ∷ d ∷ []) ≡ true → done (colour s at) ≡ ok tt (at + 10)
colour-sound s at x a b c d h ex ea eb ec ed e =
    let g = sound-inv x a b c d e in
    colour-known s at x (at + 2) (ap (λ (v : ℕ). ok v (at + 2)) ex ∙ sym (field_in 2 s at (omega arith))) g.is_known
    ∙ samples-sound s x (at + 2) (at + 4) (at + 6) (at + 8) (at + 10) (omega arith) (omega arith) (omega arith) (omega arith) h
    (ap (allowed x 0) (sym ea) ∙ g.first) (ap (allowed x 1) (sym eb) ∙ g.second) (ap (allowed x 2) (sym ec) ∙ g.third) (ap (allowed x 3) (sym ed) ∙ g.fourth)

-- ---- a rejection

pub record Rejecting (e : Rejection) : Type 0 where
  pub number : ℕ
  pub place : ℕ
  pub which : ℕ
  pub field : ℕ
  pub reading : refused_as {A = Unit} e ≡ refuse number place which field
  pub judging : rejected {A = ℕ × ℕ} e ≡ refused number place which field

pub rejecting : (e : Rejection) → Rejecting e
rejecting (rejection.Refused e) = record { number = number_of e.0; place = e.1; which = 0; field = 0; reading = refl; judging = refl }
rejecting (rejection.Differ p r f) = record { number = 7; place = p; which = r; field = f; reading = refl; judging = refl }

-- where a `?` hands an error on
pub err-exit : {A E B : Type 0} (f : Result A E → B) (r : Result A E) (e : E) {m : B} → IsErrAnd r (λ y. y ≡ e) → f (Err e) ≡ m → f r ≡ m
err-exit f r e h rest = let p = err_from_is_err_and r h in ap f (p.1 ∙ ap Err p.2) ∙ rest

-- the same of a rejection, where what refuses it is what refuses the whole
pub repeated-exit : (r : Result ℕ Rejection) (e : Rejection) {m all : Res Unit} → IsErrAnd r (λ y. y ≡ e) → refused_as e ≡ m → ((x p r f : ℕ) → m ≡ refuse x p r f → all ≡ refuse x p r f) → told_repeated r ≡ all
repeated-exit r e h is go = let z = rejecting e in err-exit told_repeated r e h (z.reading ∙ sym (go _ _ _ _ (sym is ∙ z.reading)))

pub judged-exit : (r : Result Counts Rejection) (e : Rejection) {m : Res Unit} {all : Verdict (ℕ × ℕ)} → IsErrAnd r (λ y. y ≡ e) → refused_as e ≡ m → ((x p r f : ℕ) → m ≡ refuse x p r f → all ≡ refused x p r f) → told r ≡ all
judged-exit r e h is go = let z = rejecting e in err-exit told r e h (z.judging ∙ sym (go _ _ _ _ (sym is ∙ z.reading)))

-- ---- a field of list 2, where list 1 has the colour c

module _ (s : List ℕ) (c : Colour) (i f at : ℕ) where
  pub repeat-refused : {x p r g : ℕ} → refuse x p r g ≡ field 2 s at → done (repeated_field i c f s at) ≡ refuse x p r g
  repeat-refused e = rw (← e)

  pub repeat-differs : (v n : ℕ) → ok v n ≡ field 2 s at → (v ≡ field_of c f → ⊥) → done (repeated_field i c f s at) ≡ refuse 7 at i f
  repeat-differs v n e h = rw (← e) (simp (ne_eqb _ _ h))

  pub repeat-same : (v n : ℕ) → ok v n ≡ field 2 s at → v ≡ field_of c f → done (repeated_field i c f s at) ≡ ok tt n
  repeat-same v n e h = rw (← e) (simp (eq-eqb _ _ h))

-- ---- the records of list 2, where list 1 has the colours cs

abbrev pub entry_of : List Colour → ℕ → Reader Entry
entry_of cs i = entry i (get_or cs i zero_colour)

-- ---- a heading

refused-by : {A B C : Type 0} (m : Res A) (k : ℕ → Res B) (l : B → ℕ → ℕ → Res C) {x p r f : ℕ} → then m (λ a b. k b) ≡ refuse x p r f → then m (λ a b. then (k b) (λ v n. l v b n)) ≡ refuse x p r f
refused-by (ok a b) k l e = rw e
refused-by (refuse y q t g) k l e = cc

module _ (v : ℕ) (s : List ℕ) (at : ℕ) where
  pub headed-refused : {x p r f : ℕ} → done (judged 2 (version v) s at) ≡ refuse x p r f → headed v s at ≡ refuse x p r f
  unfolding headed
  headed-refused e = rw (done-refuse (judged 2 (version v) s at) e)

  pub headed-is : {b : ℕ} → done (judged 2 (version v) s at) ≡ ok tt b → headed v s at ≡ field 2 s b
  unfolding headed
  headed-is e = rw (done-inv (judged 2 (version v) s at) e).1

module _ (v : ℕ) (s : List ℕ) (at : ℕ) (j : ℕ → Judged) where
  pub heading-refused : {x p r f : ℕ} → headed v s at ≡ refuse x p r f → heading v j s at ≡ refuse x p r f
  unfolding headed heading
  heading-refused e = refused-by (judged 2 (version v) s at) (λ b. field 2 s b) (λ n b next. rule (j n) b (ok n next)) e

  pub heading-is : {n next : ℕ} → headed v s at ≡ ok n next → (heading v j s at ≡ rule (j n) (at + 2) (ok n next)) × (next ≡ at + 4) × (next ≤ length s)
  unfolding headed heading
  heading-is {n} {next} e =
      let t = then-inv (judged 2 (version v) s at) (λ x a. field 2 s a) e in
      let x = judged-inv 2 s at (version v) t.2 in
      let y = field-inv 2 s t.1 t.3 in
      (rw t.2 (rw t.3 (ap (λ (b : ℕ). rule (j n) b (ok n next)) (sym x.2))), omega arith, omega arith)

-- ---- list 2

module _ (s : List ℕ) (at : ℕ) (cs : List Colour) where
  abbrev counted : ℕ → Judged
  counted m = pick (eqb m (length cs)) fine (fault 7 0 5)

  pub second-refused : {x p r f : ℕ} → headed 2 s at ≡ refuse x p r f → done (second cs s at) ≡ refuse x p r f
  unfolding second
  second-refused e = rw (heading-refused 2 s at counted e)

  pub second-count : {m next : ℕ} → headed 2 s at ≡ ok m next → (m ≡ length cs → ⊥) → done (second cs s at) ≡ refuse 7 (at + 2) 0 5
  unfolding second
  second-count e h = rw (heading-is 2 s at counted e).0 (simp (ne_eqb _ _ h))

  -- the records, and the file's end
  pub second-entries : {m next : ℕ} → headed 2 s at ≡ ok m next → m ≡ length cs
      → done (second cs s at) ≡ then (done (each (length cs) 0 (entry_of cs) s next)) (λ u q. pick (eqb q (length s)) (ok tt q) (refuse 6 q 0 0))
  unfolding second
  second-entries {m} {next} e h =
      rw (heading-is 2 s at counted e).0 (rw (eq-eqb _ _ h) (done-const (each (length cs) 0 (entry_of cs) s next) _ _ (λ es q. ended-done (record { lists = 2; records = es }) s q)))

-- the same for the colours that stand at their places in list 1
module _ (s : List ℕ) (at n m next : ℕ) (e : headed 2 s at ≡ ok m next) where
  pub second-differs : (m ≡ n → ⊥) → done (second (raw_colours n s 4) s at) ≡ refuse 7 (at + 2) 0 5
  second-differs h = second-count s at (raw_colours n s 4) e (λ z. h (z ∙ length-raw n s 4))

  pub second_from : m ≡ n → (w : Res Unit) → w ≡ done (each n 0 (entry_of (raw_colours n s 4)) s next)
      → done (second (raw_colours n s 4) s at) ≡ then w (λ u q. pick (eqb q (length s)) (ok tt q) (refuse 6 q 0 0))
  second_from h w x =
      second-entries s at (raw_colours n s 4) e (h ∙ sym (length-raw n s 4))
      ∙ ap (λ (k : ℕ). then (done (each k 0 (entry_of (raw_colours n s 4)) s next)) (λ u q. pick (eqb q (length s)) (ok tt q) (refuse 6 q 0 0))) (length-raw n s 4)
      ∙ ap (λ (r : Res Unit). then r (λ u q. pick (eqb q (length s)) (ok tt q) (refuse 6 q 0 0))) (sym x)

-- ---- what an accepted list 2 gives

pub second-lists : (s : List ℕ) (at : ℕ) (cs : List Colour) {c : Contents} {q : ℕ} → second cs s at ≡ ok c q → verdict report (ok c q) ≡ accepted (length cs, 2)
unfolding second
second-lists s at cs {c} {q} e =
    let t = then-inv (heading 2 (counted s at cs) s at) _ e in
    let u = then-inv (each (length cs) 0 (entry_of cs) s t.1) _ t.3 in
    let z = ended-inv (record { lists = 2; records = u.0 }) s u.1 u.3 in
    sym (ap (λ (k : Contents). accepted (report k)) z.1) ∙ ap (λ (n : ℕ). accepted (n, 2)) (each-length (entry_of cs) s (length cs) 0 t.1 u.2)

-- ---- after the first heading: n colours, and what follows them

module _ (s : List ℕ) (n : ℕ) where
  pub colours-refused : {x p r f : ℕ} → done (each n 0 (λ i. colour) s 4) ≡ refuse x p r f → verdict report (after_heading n s 4) ≡ refused x p r f
  unfolding after_heading
  colours-refused e = rw (done-refuse (each n 0 (λ i. colour) s 4) e)

  module _ (end : ℕ) (e : done (each n 0 (λ i. colour) s 4) ≡ ok tt end) where
    colours-are : each n 0 (λ i. colour) s 4 ≡ ok (raw_colours n s 4) end
    colours-are = let t = done-inv (each n 0 (λ i. colour) s 4) e in t.1 ∙ ap (λ (cs : List Colour). ok cs end) (colours-raw s n 0 4 t.1).0

    -- where list 1 ends
    pub colours-end : end ≡ 4 + 10 * n
    colours-end = (colours-raw s n 0 4 colours-are).1

    pub colours-within : 4 ≤ length s → end ≤ length s
    colours-within h = colours-inside s n 0 4 h colours-are

    pub lists-one : end ≡ length s → verdict report (after_heading n s 4) ≡ accepted (n, 1)
    unfolding after_heading after
    lists-one h = rw colours-are (rw (eq-eqb _ _ h) (ap (λ (k : ℕ). accepted (k, 1)) (length-map (raw_colours n s 4) unnamed ∙ length-raw n s 4)))

    lists-more : (end ≡ length s → ⊥) → after_heading n s 4 ≡ second (raw_colours n s 4) s end
    unfolding after_heading after
    lists-more h = rw colours-are (rw (ne_eqb _ _ h))

    pub lists-two : (end ≡ length s → ⊥) → {q : ℕ} → done (second (raw_colours n s 4) s end) ≡ ok tt q → verdict report (after_heading n s 4) ≡ accepted (n, 2)
    lists-two h d =
        let t = done-inv (second (raw_colours n s 4) s end) d in
        ap (verdict report) (lists-more h ∙ t.1) ∙ second-lists s end (raw_colours n s 4) t.1 ∙ ap (λ (k : ℕ). accepted (k, 2)) (length-raw n s 4)

    pub lists-refused : (end ≡ length s → ⊥) → {x p r f : ℕ} → done (second (raw_colours n s 4) s end) ≡ refuse x p r f → verdict report (after_heading n s 4) ≡ refused x p r f
    lists-refused h d = ap (verdict report) (lists-more h ∙ done-refuse (second (raw_colours n s 4) s end) d)

-- ---- the whole file

module _ (s : List ℕ) where
  pub aco-long : limit < length s → aco s ≡ refuse 1 0 0 0
  unfolding aco
  aco-long h = simp (lt-leb _ _ h)

  pub aco-heading : length s ≤ limit → {x p r f : ℕ} → headed 1 s 0 ≡ refuse x p r f → aco s ≡ refuse x p r f
  unfolding aco lists
  aco-heading h e = simp (le-leb _ _ h) (rw (heading-refused 1 s 0 first_count e))

  pub aco-count : length s ≤ limit → {n next : ℕ} → headed 1 s 0 ≡ ok n next → most < n → aco s ≡ refuse 5 2 0 0
  unfolding aco lists
  aco-count h e l = simp (le-leb _ _ h) (rw (heading-is 1 s 0 first_count e).0 (simp (lt-leb _ _ l)))

  pub aco-lists : length s ≤ limit → {n next : ℕ} → headed 1 s 0 ≡ ok n next → n ≤ most → aco s ≡ after_heading n s 4
  unfolding aco lists after_heading
  aco-lists h {n} e l =
      let i = heading-is 1 s 0 first_count e in
      simp (le-leb _ _ h) (rw i.0 (simp (le-leb _ _ l) (rw i.1)))
