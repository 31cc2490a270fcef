-- A line for each record that a walk gives, and all of them for an accepted file. Assumes nothing.
use Prim.Native.Nat.{ℕ, zero, suc, ◌+◌, ◌-◌, ◌*◌, ◌≤◌, ◌<◌}
use mathlib.Core.Path.{◌≡◌, refl, sym, ap, ap₂, ◌∙◌, subst}
use mathlib.Core.List.{List, ◌++◌}
use mathlib.Core.Bool.{Bool, true, false}
use lib.ListN.{length}
use native.Mathlib.Omega.{arith}
use Rattle.algebra.specs.Numbers.{be, joined, nums, Bytes}
use Rattle.algebra.specs.Reader.{Res, ok, then, pick}
use Rattle.algebra.specs.Store.{part}
use Rattle.algebra.specs.Text.{Name, name, front}
use Rattle.algebra.proofs.Inverse.{then-inv, name-inv, front-nums, ok-value}
use Rattle.algebra.proofs.Places.{at_take, bes-nums, length-bes, length-nums}
use Rattle.colour.specs.declared.space.Colour.{Colour}
use Rattle.aco.specs.Reading.{colour, Entry, Contents, unnamed, aco}
use Rattle.algebra.specs.Table.{accepted, refused as refusedFile, verdict}
use Rattle.algebra.proofs.Table.{accepted-of, refused-of}
use Rattle.aco_judge.specs.Answer.{report}
use Rattle.walk.specs.Walk.{Call, gives, over, refused, Step}
use Rattle.walk.specs.scaffold.Walk.{given}
use Rattle.walk.specs.Names.{name_part}
use Rattle.walk.proofs.Calls.{step-read}
use Rattle.walk.proofs.Turns.{given-all, given-start, given-none, given-next, given-over, given-refused}
use Rattle.aco_walk.specs.Walking.{is_plain, first_place, named_entry, labelled, swatch_from, walk}
use Rattle.aco_walk.specs.Answer.{told_given, told_colour_step, call_and_place}
use Rattle.std.specs.Prelude.{Result, Ok, Option, Some}
use Rattle.fault.specs.declared.Refusal.{Refusal}
use Rattle.aco_read.specs.declared.SwatchRecord.{SwatchRecord}
use Rattle.aco_walk.specs.declared.ColourStep.{ColourStep as Answered}
use Rattle.aco_walk.proofs.Walked.{colours-in-turn, given-name}
use Rattle.listing.specs.Buffer.{Buffer, put_all}
use Rattle.listing.specs.Text.{ascii, lines, refusal}
use Rattle.listing.proofs.Putting.{lines-turn, lines_none}
use Rattle.aco_list.specs.Listing.{heading, colour_line, line, listing}

-- ---- what the calls give

pub accepted-given : (s : List ℕ) {c : Contents} {q : ℕ} → aco s ≡ ok c q → given (walk s) (length c.records) (first_place s) ≡ c.records
accepted-given s {c} e = given-all (walk s) c.records (first_place s) (colours-in-turn s e)

-- ---- what a call answered

abbrev Handed : Type 0
Handed = Colour × Call (ℕ × ℕ × ℕ) × ℕ

-- by the variant that the code found
pub told_is : (r : Answered) (w : Call Entry × ℕ) {g : Result (Option SwatchRecord) Refusal} → told_colour_step r ≡ call_and_place w → r.given ≡ g → call_and_place w ≡ ((told_given g).0, (told_given g).1, r.next)
told_is r w e f = sym e ∙ ap (λ (g : Result (Option SwatchRecord) Refusal). ((told_given g).0, (told_given g).1, r.next)) f

answer-is : {x y : Handed} → x ≡ y → x.1 ≡ y.1
answer-is e = ap (λ (h : Handed). h.1) e

gives-value : {A : Type 0} {a b : A} → gives a ≡ gives b → a ≡ b
gives-value e = cc

told-gives : (w : Call Entry × ℕ) {c : Colour} {p u k q : ℕ} → call_and_place w ≡ (c, gives (p, u, k), q) → (e : Entry) × (w ≡ (gives e, q)) × (c ≡ e.colour) × (p ≡ e.name.first) × (u ≡ length e.name.units)
told-gives w {c} {p} {u} {k} {q} h = go w.0 w.1 h
  where
    go : (a : Call Entry) (r : ℕ) → call_and_place (a, r) ≡ (c, gives (p, u, k), q) → (e : Entry) × (◌≡◌ {A = Call Entry × ℕ} (a, r) (gives e, q)) × (c ≡ e.colour) × (p ≡ e.name.first) × (u ≡ length e.name.units)
    go (gives e) r x =
        let y = gives-value (answer-is x) in
        (e, ap (λ (h : Handed). (gives e, h.2)) x, ap (λ (h : Handed). h.0) (sym x), ap (λ (l : ℕ × ℕ × ℕ). l.0) (sym y), ap (λ (l : ℕ × ℕ × ℕ). l.1) (sym y))
    go over r x = let y = answer-is x in let z : ◌≡◌ {A = ℕ} 0 1 = cc in absurd (omega arith)
    go (refused j n) r x = let y = answer-is x in let z : ◌≡◌ {A = ℕ} 0 1 = cc in absurd (omega arith)

told_over : (w : Call Entry × ℕ) {c : Colour} {q : ℕ} → call_and_place w ≡ (c, over, q) → w.0 ≡ over
told_over w {c} {q} h = go w.0 w.1 h
  where
    go : (a : Call Entry) (r : ℕ) → call_and_place (a, r) ≡ (c, over, q) → a ≡ over
    go (gives e) r x = let y = answer-is x in let z : ◌≡◌ {A = ℕ} 0 1 = cc in absurd (omega arith)
    go over r x = refl
    go (refused k n) r x = let y = answer-is x in let z : ◌≡◌ {A = ℕ} 0 1 = cc in absurd (omega arith)

told-refused : (w : Call Entry × ℕ) {c : Colour} {y n q : ℕ} → call_and_place w ≡ (c, refused y n, q) → w.0 ≡ refused y n
told-refused w {c} {y} {n} {q} h = go w.0 w.1 h
  where
    go : (a : Call Entry) (r : ℕ) → call_and_place (a, r) ≡ (c, refused y n, q) → a ≡ refused y n
    go (gives e) r x = let y = answer-is x in let z : ◌≡◌ {A = ℕ} 0 1 = cc in absurd (omega arith)
    go over r x = let y = answer-is x in let z : ◌≡◌ {A = ℕ} 0 1 = cc in absurd (omega arith)
    go (refused a b) r x = let y = answer-is x in cc

-- ---- the loop

pub lines_start : (f : Step Entry) (o : Buffer) (n : ℕ) {p at : ℕ} → p ≡ at → put_all o (lines line 0 (given f n at)) ≡ put_all o (lines line 0 (given f (n - 0) p))
lines_start f o n e = ap (λ (l : List Entry). put_all o (lines line 0 l)) (given-start f n e)

module _ (f : Step Entry) (all o : Buffer) (n i at : ℕ) (all-is : all ≡ put_all o (lines line i (given f (n - i) at))) where
  by : {l : List Entry} → given f (n - i) at ≡ l → all ≡ put_all o (lines line i l)
  by e = all-is ∙ ap (λ (l : List Entry). put_all o (lines line i l)) e

  pub lines_end : n ≤ i → all ≡ o
  lines_end h = lines_none line all o i (by (given-none f n i at h))

  module _ (h : i < n) where
    pub line-turn : {p : Buffer} {e : Entry} {q : ℕ} → f at ≡ (gives e, q) → p ≡ put_all o (line i e) → all ≡ put_all p (lines line (i + 1) (given f (n - (i + 1)) q))
    line-turn {e = e} {q = q} g x = lines-turn line all o i e (given f (n - (i + 1)) q) (by (given-next f n i at h g)) x

    pub line-over : {c : Colour} {q : ℕ} → call_and_place (f at) ≡ (c, over, q) → all ≡ o
    line-over e = lines_none line all o i (by (given-over f n i at h (told_over (f at) e)))

    pub line_refused : {c : Colour} {x y q : ℕ} → call_and_place (f at) ≡ (c, refused x y, q) → all ≡ o
    line_refused e = lines_none line all o i (by (given-refused f n i at h (told-refused (f at) e)))

-- ---- a name's bytes are those of its units

module _ (s : List ℕ) (bytes : Bytes s) where
  units-part : (n at : ℕ) → at + n * 2 ≤ length s → part s at (2 * n) ≡ joined (be 2) (nums 2 n s at)
  units-part n at h =
      let k : 2 * n ≡ length (joined (be 2) (nums 2 n s at)) = omega (arith, length-bes 2 (nums 2 n s at), length-nums 2 n s at) in
      ap (part s at) k ∙ at_take s at (joined (be 2) (nums 2 n s at)) (bes-nums 2 s bytes n at h)

  pub given-units : (at : ℕ) {e : Entry} {q : ℕ} → walk s at ≡ (gives e, q) → name_part s e.name.first (length e.name.units) ≡ joined (be 2) e.name.units
  unfolding swatch_from labelled joined
  given-units at {e} {q} w =
      let t = then-inv (colour s at) _ (step-read swatch_from s at w) in
      sym (given-name s at w) ∙ go t.0 t.1 (is_plain s) t.3
    where
      Spelt : Name → Type 0
      Spelt nm = part s nm.first (2 * length nm.units) ≡ joined (be 2) nm.units

      read : (n r : ℕ) → 0 < n → r + n * 2 ≤ length s → Spelt (record { first = r; units = front (nums 2 n s r) })
      read zero r some h = absurd (omega arith)
      read (suc n) r some h =
          subst (λ (us : List ℕ). part s r (2 * length us) ≡ joined (be 2) us) (sym (front-nums 2 n s r)) (ap (λ (k : ℕ). part s r (2 * k)) (length-nums 2 n s r) ∙ units-part n r (omega arith))

      go : (c : Colour) (n : ℕ) (b : Bool) → pick b (ok (unnamed c) n) (then (name 4 s n) (λ nm z. ok (named_entry c nm) z)) ≡ ok e q → Spelt e.name
      go c n true x = subst (λ (y : Entry). Spelt y.name) (ok-value x) refl
      go c n false x =
          let t = then-inv (name 4 s n) _ x in
          let i = name-inv 4 s n t.2 in
          subst (λ (y : Entry). Spelt y.name) (ok-value t.3) (subst Spelt i.1.is (read i.0 (n + 4) i.1.some (omega (arith, i.1.inside, i.1.room, i.1.some))))

  -- the line of the record that a call gave
  pub line-put : (o : Buffer) (i at : ℕ) (r : Answered) {v : SwatchRecord} {b : List ℕ} {p : Buffer} → told_colour_step r ≡ call_and_place (walk s at) → r.given ≡ Ok (Some v) → b ≡ name_part s v.name.first v.name.units → p ≡ put_all o (colour_line i v.colour b)
      → (e : Entry) × (walk s at ≡ (gives e, r.next)) × (p ≡ put_all o (line i e))
  line-put o i at r e f g h =
      let t = told-gives (walk s at) (told_is r (walk s at) e f) in
      let units-are = g ∙ ap₂ (name_part s) t.3 t.4 ∙ given-units at t.1 in
      (t.0, t.1, h ∙ ap₂ (λ (c : Colour) (b : List ℕ). put_all o (colour_line i c b)) t.2 units-are)

-- ---- the whole listing

pub listed-refused : (m : Res Contents) {x p r f : ℕ} → refusedFile x p r f ≡ verdict report m → refusal x p ≡ listing m
listed-refused m e = sym (ap listing (refused-of report m e))

pub listed-accepted : (s : List ℕ) {n l : ℕ} → accepted (n, l) ≡ verdict report (aco s) → heading n l ++ lines line 0 (given (walk s) n (first_place s)) ++ ascii "end\n" ≡ listing (aco s)
listed-accepted s {n} {l} e =
    let a = accepted-of report (aco s) e in
    let c : Contents = a.0 in
    ap (λ (w : ℕ × ℕ). heading w.0 w.1 ++ lines line 0 (given (walk s) w.0 (first_place s)) ++ ascii "end\n") (sym a.3)
    ∙ ap (λ (es : List Entry). heading (length c.records) c.lists ++ lines line 0 es ++ ascii "end\n") (accepted-given s a.2)
    ∙ sym (ap listing a.2)
