-- What `read` and `record_at` answer, on plain values. Assumes nothing.
use Prim.Native.Nat.{ℕ, suc, ◌+◌, ◌*◌, ◌-◌, ◌≤◌, ◌<◌}
use mathlib.Core.Path.{◌≡◌, refl, sym, ap, ap₂, ◌∙◌}
use mathlib.Core.List.{List, [], ◌∷◌}
use mathlib.Core.Bool.{Bool, true, false}
use lib.ListN.{length, get_or, take, drop, length-append}
use lib.Dec.{ltb}
use borrow.Author.Tests.{ltb-true}
use native.Mathlib.Omega.{arith}
use native.Mathlib.Decide.{ℕ_discrete}
use Rattle.algebra.specs.Numbers.{joined}
use Rattle.algebra.specs.Reader.{Res, ok, refuse, pick}
use Rattle.algebra.specs.Table.{Verdict, accepted, refused, verdict, seen}
use Rattle.algebra.specs.Filling.{Accepted}
use Rattle.algebra.proofs.Places.{length-nums}
use Rattle.algebra.proofs.Table.{record-found, record-refused, filled-refused}
use Rattle.colour.specs.declared.space.Colour.{Colour}
use Rattle.aco.specs.Reading.{Entry, Contents, zero_colour, unnamed, aco}
use Rattle.aco.specs.Row.{RecordRow, width, numbers, named_with, given_of, row}
use Rattle.aco.specs.scaffold.Raw.{raw_colour}
use Rattle.aco.proofs.Row.{length-numbers}
use Rattle.aco.proofs.RoundTrip.{lists-are}
use Rattle.std.specs.Prelude.{Err}
use Rattle.aco_judge.specs.Answer.{report, rejected}
use Rattle.aco_judge.specs.declared.Rejection.{Rejection}
use Rattle.aco_judge.proofs.Judging.{rejecting}
use Rattle.aco_read.specs.Answer.{told_record}
use Rattle.aco_read.specs.Table.{records, filled, record_at, by_value, name_bytes_in, records_of}
use Rattle.aco_read.proofs.Filling.{listed, length-records, nth, plain_in, plain-is, named_in, named-colour, named-is}

-- the number of colours is that of the records
abbrev pub count : ℕ × ℕ → ℕ
count w = w.0

pub counts : (c : Contents) → count (report c) ≡ length c.records
counts c = refl

-- a file has one list or two
pub not-one : (s : List ℕ) (n l : ℕ) → Accepted report (aco s) (n, l) → (l ≡ 1 → ⊥) → l ≡ 2
not-one s n l a h = let i = lists-are s a.2 in go (ℕ_discrete l 1) (omega (arith, i.0, listed s n l a)) (omega (arith, i.1, listed s n l a))
  where
    go : Dec (l ≡ 1) → 1 ≤ l → l ≤ 2 → l ≡ 2
    go (yes e) x y = absurd (h e)
    go (no k) x y = omega arith

-- a colour of list 1 lies inside the file
pub colour-in : (s : List ℕ) (n l : ℕ) → Accepted report (aco s) (n, l) → (i : ℕ) → i < n → 4 + 10 * i + 10 ≤ length s
colour-in s n l a i h = go (ℕ_discrete l 1)
  where
    go : Dec (l ≡ 1) → 4 + 10 * i + 10 ≤ length s
    go (yes e) = plain_in s n l a e i h
    go (no k) = named-colour s n l a (not-one s n l a k) i h

-- ---- the table

-- the numbers of a colour that was loaded, and its name
pub row-wide : (s : List ℕ) (at p u : ℕ) → length (numbers (named_with (raw_colour s at) p u)) ≡ width
row-wide s at p u = length-numbers (named_with (raw_colour s at) p u) (length-nums 2 4 s (at + 2))

joined-wide : (d : Entry) (rs : List Entry) → ((i : ℕ) → i < length rs → length (row (get_or rs i d)) ≡ width) → length (joined row rs) ≡ width * length rs
unfolding joined
joined-wide d [] h = refl
joined-wide d (e ∷ rs) h = omega (arith, length-append (row e) (joined row rs), h 0 (omega arith), joined-wide d rs (λ i k. h (suc i) (omega arith)))

pub rows-wide : (s : List ℕ) (n l : ℕ) → Accepted report (aco s) (n, l) → length (joined row (records_of (aco s))) ≡ width * length (records_of (aco s))
rows-wide s n l a = joined-wide (unnamed zero_colour) (records_of (aco s)) (λ i h. go i (omega (arith, length-records s n l a)) (ℕ_discrete l 1))
  where
    go : (i : ℕ) → i < n → Dec (l ≡ 1) → length (row (nth s i)) ≡ width
    go i h (yes e) = ap (λ (g : RecordRow). length (numbers g)) (plain-is s n l a e i h) ∙ row-wide s (4 + 10 * i) _ _
    go i h (no k) = ap (λ (g : RecordRow). length (numbers g)) (named-is s n l a (not-one s n l a k) i h) ∙ row-wide s (4 + 10 * i) _ _

-- ---- a record by its number

pub found-is : (s : List ℕ) (n l : ℕ) → Accepted report (aco s) (n, l) → (i : ℕ) → i < n → (g : RecordRow) → given_of (nth s i) ≡ g → by_value (accepted g) ≡ by_value (record_at i (aco s))
found-is s n l a i h g e =
    ap (λ (x : RecordRow). by_value (accepted x)) (sym e) ∙ ap (λ (v : Verdict Entry). by_value (seen given_of v)) (record-found records report count counts (aco s) (unnamed zero_colour) i a h)

-- where two accounts of a name agree
reported : Verdict (ℕ × ℕ) → ℕ × ℕ
reported (accepted w) = w
reported (refused x p r f) = (0, 0)

same_name : {a b p u : ℕ} → ◌≡◌ {A = Verdict (ℕ × ℕ)} (accepted (a, b)) (accepted (p, u)) → (a ≡ p) × (b ≡ u)
unfolding reported
same_name e = (ap (λ (v : Verdict (ℕ × ℕ)). (reported v).0) e, ap (λ (v : Verdict (ℕ × ℕ)). (reported v).1) e)

-- a name that a record gives lies inside the file
pub name_in : (s : List ℕ) (i p u : ℕ) → (by_value (record_at i (aco s))).1 ≡ accepted (p, u) → p + 2 * u ≤ length s
name_in s i p u e = go (aco s) refl e
  where
    found : (n l : ℕ) → Accepted report (aco s) (n, l) → i < n → (by_value (accepted (given_of (nth s i)))).1 ≡ accepted (p, u) → Dec (l ≡ 1) → p + 2 * u ≤ length s
    found n l a h z (yes one) = let k = same_name (sym (ap (λ (g : RecordRow). (by_value (accepted g)).1) (plain-is s n l a one i h)) ∙ z) in omega arith
    found n l a h z (no k) =
        let two = not-one s n l a k in
        let j = same_name (sym (ap (λ (g : RecordRow). (by_value (accepted g)).1) (named-is s n l a two i h)) ∙ z) in
        omega (arith, named_in s n l a two i h)

    test : (c : Contents) (q : ℕ) → aco s ≡ ok c q → (b : Bool) → ltb i (length c.records) ≡ b
        → (by_value (seen given_of (pick b (accepted (get_or c.records i (unnamed zero_colour))) (refused 12 0 0 0)))).1 ≡ accepted (p, u) → p + 2 * u ≤ length s
    test c q x true h z =
        found (length c.records) c.lists (c, q, x, refl) (ltb-true _ _ h)
        (ap (λ (m : Res Contents). (by_value (accepted (given_of (get_or (records_of m) i (unnamed zero_colour))))).1) x ∙ z) (ℕ_discrete c.lists 1)
    test c q x false h z = let w : ◌≡◌ {A = ℕ} 0 1 = cc in absurd (omega arith)

    go : (m : Res Contents) → aco s ≡ m → (by_value (record_at i m)).1 ≡ accepted (p, u) → p + 2 * u ≤ length s
    go (ok c q) x z = test c q x (ltb i (length c.records)) refl z
    go (refuse y r f g) x z = let w : ◌≡◌ {A = ℕ} 0 1 = cc in absurd (omega arith)

-- the part of the file that a name is
pub name-part : (s : List ℕ) (v : Verdict RecordRow) (p u : ℕ) → (by_value v).1 ≡ accepted (p, u) → take (p + 2 * u - p) (drop p s) ≡ name_bytes_in s v
name-part s (accepted g) p u e =
    let j = same_name e in
    let k : p + 2 * u - p ≡ 2 * g.units = omega arith in
    ap₂ (λ (m n : ℕ). take m (drop n s)) k (sym j.0)
name-part s (refused x q r f) p u e = let w : ◌≡◌ {A = ℕ} 0 1 = cc in absurd (omega arith)

name-none : (s : List ℕ) (v : Verdict RecordRow) {x p r f : ℕ} → (by_value v).1 ≡ refused x p r f → [] ≡ name_bytes_in s v
name-none s (accepted g) e = let w : ◌≡◌ {A = ℕ} 0 1 = cc in absurd (omega arith)
name-none s (refused x p r f) e = refl

-- ---- where the file is rejected

pub filled-rejected : (s t : List ℕ) (e : Rejection) → rejected e ≡ verdict report (aco s) → (rejected e, t) ≡ filled (aco s) t
filled-rejected s t e h =
    let z = rejecting e in
    ap (λ (v : Verdict (ℕ × ℕ)). (v, t)) z.judging ∙ filled-refused records report count counts (aco s) width row t (sym z.judging ∙ h)

pub record-rejected : (s : List ℕ) (i : ℕ) (e : Rejection) → rejected e ≡ verdict report (aco s) → told_record (Err e) ≡ by_value (record_at i (aco s))
record-rejected s i e h =
    let z = rejecting e in
    ap (λ (v : Verdict (ℕ × ℕ)). (zero_colour, v, 0)) z.judging ∙ ap (λ (v : Verdict Entry). by_value (seen given_of v)) (record-refused records report count counts (aco s) (unnamed zero_colour) i (sym z.judging ∙ h))

pub name-rejected : (s : List ℕ) (i : ℕ) (e : Rejection) → told_record (Err e) ≡ by_value (record_at i (aco s)) → [] ≡ name_bytes_in s (record_at i (aco s))
name-rejected s i e h = let z = rejecting e in name-none s (record_at i (aco s)) (ap (λ (w : Colour × Verdict (ℕ × ℕ) × ℕ). w.1) (sym h) ∙ z.judging)
