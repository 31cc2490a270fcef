-- Filling a table with the records of an accepted file, on plain values. Assumes nothing.
use Prim.Native.Nat.{ℕ, zero, suc, ◌+◌, ◌*◌, ◌-◌, ◌≤◌, ◌<◌}
use mathlib.Core.Path.{◌≡◌, refl, sym, ap, ap₂, ◌∙◌, subst}
use mathlib.Core.List.{List, [], ◌∷◌}
use mathlib.Core.Bool.{Bool, false}
use lib.Dec.{leb}
use lib.ListN.{length, get_or}
use borrow.Author.Tests.{le-leb}
use native.Mathlib.Omega.{arith}
use native.Mathlib.Numerals.{add-one}
use Rattle.algebra.specs.Numbers.{num, nums}
use Rattle.algebra.specs.Reader.{pick, field, or_zero, limit}
use Rattle.algebra.specs.Filling.{Accepted}
use Rattle.algebra.proofs.Laws.{field_in}
use Rattle.algebra.proofs.Table.{records-are}
use Rattle.colour.specs.declared.space.Colour.{Colour}
use Rattle.aco.specs.Reading.{Entry, zero_colour, unnamed, aco}
use Rattle.aco.specs.scaffold.Raw.{raw_colour}
use Rattle.aco.specs.Places.{entry_place}
use Rattle.aco.specs.Row.{named_with, given_of}
use Rattle.aco.proofs.Inverse.{aco-inv}
use Rattle.aco.proofs.RoundTrip.{records-count, one_list, one-record, Placed, records-place}
use Rattle.aco_judge.specs.Answer.{report}
use Rattle.aco_read.specs.Table.{records, records_of, colour_or_zero}

-- ---- a number and a colour as they are loaded

pub load : (w : ℕ) (s : List ℕ) (at v : ℕ) → at + w ≤ length s → 0 < w → v ≡ or_zero (field w s at) → v ≡ num w s at
load w s at v h z e = e ∙ ap or_zero (field_in w s at (omega arith))

pub five : (s : List ℕ) (at x a b c d : ℕ) → x ≡ num 2 s at → a ≡ num 2 s (at + 2) → b ≡ num 2 s (at + 4) → c ≡ num 2 s (at + 6) → d ≡ num 2 s (at + 8)
    → record { space = x; samples = a ∷ b ∷ c ∷ d ∷ [] } ≡ raw_colour s at
unfolding nums
five s at x a b c d ex ea eb ec ed =
    let p4 : at + 4 ≡ at + 2 + 2 = omega arith in
    let p6 : at + 6 ≡ at + 2 + 2 + 2 = omega arith in
    let p8 : at + 8 ≡ at + 2 + 2 + 2 + 2 = omega arith in
    rw (ex, ea, eb ∙ ap (num 2 s) p4, ec ∙ ap (num 2 s) p6, ed ∙ ap (num 2 s) p8)

-- a colour that is there, and one that is not
pub colour_there : (s : List ℕ) (at : ℕ) → at + 10 ≤ length s → raw_colour s at ≡ colour_or_zero s at
colour_there s at h = ap (λ (b : Bool). pick b (raw_colour s at) zero_colour) (sym (le-leb _ _ h))

pub zero_there : (s : List ℕ) (at : ℕ) → leb (at + 10) (length s) ≡ false → zero_colour ≡ colour_or_zero s at
zero_there s at h = ap (λ (b : Bool). pick b (raw_colour s at) zero_colour) (sym h)

-- ---- the records of an accepted file

-- no record of list 2 stands before its heading's end
entry-low : (s : List ℕ) (n i : ℕ) → 8 + 10 * n ≤ entry_place s n i
unfolding entry_place
entry-low s n zero = omega arith
entry-low s n (suc i) = omega (arith, entry-low s n i)

pub entry_next : (s : List ℕ) (n i : ℕ) → entry_place s n (i + 1) ≡ entry_place s n i + 14 + 2 * num 4 s (entry_place s n i + 10)
unfolding entry_place
entry_next s n i = ap (entry_place s n) (add-one i)

pub entry_first : (s : List ℕ) (n : ℕ) → entry_place s n 0 ≡ 8 + 10 * n
unfolding entry_place
entry_first s n = refl

abbrev pub nth : List ℕ → ℕ → Entry
nth s i = get_or (records_of (aco s)) i (unnamed zero_colour)

module _ (s : List ℕ) (n l : ℕ) (a : Accepted report (aco s) (n, l)) where
  pub many : length a.0.records ≡ n
  many = ap (λ (w : ℕ × ℕ). w.0) a.3

  pub listed : a.0.lists ≡ l
  listed = ap (λ (w : ℕ × ℕ). w.1) a.3

  count_is : n ≡ num 2 s 2
  count_is = sym many ∙ records-count s a.2

  pub small : length s ≤ limit
  small = (aco-inv s a.2).2.short

  pub count_small : n ≤ 4096
  count_small = let f = (aco-inv s a.2).2 in omega (arith, count_is, f.count, f.few)

  pub length-records : length (records_of (aco s)) ≡ n
  length-records = ap length (records-are records report (aco s) a) ∙ many

  nth-is : (i : ℕ) → nth s i ≡ get_or a.0.records i (unnamed zero_colour)
  nth-is i = ap (λ (rs : List Entry). get_or rs i (unnamed zero_colour)) (records-are records report (aco s) a)

  -- a file of one list
  module _ (one : l ≡ 1) (i : ℕ) (h : i < n) where
    pub plain_in : 4 + 10 * i + 10 ≤ length s
    plain_in = omega (arith, (one_list s a.2 (listed ∙ one)).1, count_is)

    pub plain-is : given_of (nth s i) ≡ named_with (raw_colour s (4 + 10 * i)) 0 0
    plain-is = ap given_of (nth-is i ∙ one-record s a.2 (listed ∙ one) i (omega (arith, count_is)))

  -- a file of two lists
  module _ (two : l ≡ 2) (i : ℕ) (h : i < n) where
    placed : Placed s i (get_or a.0.records i (unnamed zero_colour))
    placed = records-place s a.2 (listed ∙ two) i (omega (arith, count_is))

    at_place : entry_place s (num 2 s 2) i ≡ entry_place s n i
    at_place = ap (λ (k : ℕ). entry_place s k i) (sym count_is)

    pub named_in : entry_place s n i + 14 + 2 * num 4 s (entry_place s n i + 10) ≤ length s
    named_in = subst (λ (p : ℕ). p + 14 + 2 * num 4 s (p + 10) ≤ length s) at_place placed.inside

    pub named_some : 0 < num 4 s (entry_place s n i + 10)
    named_some = subst (λ (p : ℕ). 0 < num 4 s (p + 10)) at_place placed.some

    pub named-colour : 4 + 10 * i + 10 ≤ length s
    named-colour = omega (arith, entry-low s n i, named_in)

    pub named-is : given_of (nth s i) ≡ named_with (raw_colour s (4 + 10 * i)) (entry_place s n i + 14) (num 4 s (entry_place s n i + 10) - 1)
    named-is =
        let e : Entry = get_or a.0.records i (unnamed zero_colour) in
        ap given_of (nth-is i) ∙ ap (λ (c : Colour). named_with c e.name.first (length e.name.units)) placed.is
        ∙ ap₂ (named_with (raw_colour s (4 + 10 * i))) (placed.first ∙ ap (λ (p : ℕ). p + 14) at_place) (placed.count ∙ ap (λ (p : ℕ). num 4 s (p + 10) - 1) at_place)

-- record i of a file of two lists, where p is its place and c the count of its name as it is loaded
pub record Counted (s : List ℕ) (n i p c : ℕ) : Type 0 where
  pub short : length s ≤ limit
  pub some : 0 < c
  pub inside : p + 14 + 2 * c ≤ length s
  pub next : p + (14 + 2 * c) ≡ entry_place s n (i + 1)
  pub is : given_of (nth s i) ≡ named_with (raw_colour s (4 + 10 * i)) (p + 14) (c - 1)

module _ (s : List ℕ) (n l : ℕ) (a : Accepted report (aco s) (n, l)) (two : l ≡ 2) (i : ℕ) (h : i < n) (p : ℕ) (e : p ≡ entry_place s n i) where
  -- the count itself is inside
  pub counted-in : (p + 14 ≤ length s) × (length s ≤ limit)
  counted-in = (omega (arith, named_in s n l a two i h), small s n l a)

  pub counted : (c : ℕ) → c ≡ or_zero (field 4 s (p + 10)) → Counted s n i p c
  counted c f =
      let inside = named_in s n l a two i h in
      let k : c ≡ num 4 s (entry_place s n i + 10) = load 4 s (entry_place s n i + 10) c (omega arith) (omega arith) (f ∙ ap (λ (q : ℕ). or_zero (field 4 s (q + 10))) e) in record {
        short = small s n l a;
        some = omega (arith, named_some s n l a two i h);
        inside = omega arith;
        next = omega (arith, entry_next s n i);
        is = named-is s n l a two i h ∙ sym (ap₂ (λ (q u : ℕ). named_with (raw_colour s (4 + 10 * i)) (q + 14) (u - 1)) e k);
      }
