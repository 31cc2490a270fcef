-- What the loops over a file count. Assumes nothing.
use Prim.Native.Nat.{ℕ, suc, ◌+◌, ◌-◌, ◌*◌, ◌≤◌, ◌<◌}
use mathlib.Core.Path.{◌≡◌, refl, sym, ap, ap₂, ◌∙◌, subst}
use mathlib.Core.List.{List, [], ◌∷◌, map}
use mathlib.Core.Bool.{Bool, true, false}
use lib.Dec.{eqb, ltb}
use lib.ListN.{length, get_or, drop, replicate, get_or-replicate, drop_of_length-le, get_or-eq_default}
use lib.Seq.{drop-cons}
use borrow.Author.Tests.{ne_eqb, ltb-true, ltb-false}
use native.Mathlib.Numerals.{add-one}
use native.Mathlib.Omega.{arith}
use Rattle.algebra.specs.Numbers.{Bytes}
use Rattle.algebra.specs.Reader.{pick, limit}
use Rattle.algebra.specs.Text.{is_empty}
use Rattle.acb.specs.Reading.{Entry}
use Rattle.acb.specs.Row.{RecordRow, given_of}
use Rattle.acb_read.specs.Walked.{step, given_in, walked}
use Rattle.acb_read.proofs.Walking.{walked_start, walked-turn, walked_end}
use Rattle.palette.specs.Palette.{Value, samples, channels, PaletteColour}
use Rattle.palette.specs.PaletteStep.{first_at, view_of, step_of, told_palette_step}
use Rattle.palette.specs.scaffold.Turn.{colours_in, no_colour_at, place_of, kind_seen, value_numbers, SoundValue}
use Rattle.palette.specs.declared.Kind.{Kind}
use Rattle.palette.specs.declared.Kind.TheVariants.{Aco, Ase}
use Rattle.palette.specs.declared.View.{View}
use Rattle.palette.specs.declared.PaletteStep.{PaletteStep}
use Rattle.palette.proofs.Turns.{in-turn, few, seen-kind, first-place}
use Rattle.report.specs.Report.{many, one, plus, sum, book_place, value_place, name_place, colour_totals, record_totals, palette_totals}
use Rattle.report.specs.scaffold.Parts.{Low, tag_place, units_place, book_row, row_of, Counting, Shelved}
use Rattle.report.proofs.Laws.{plus-joined, plus_none, plus-low, two-small, one-small, one-low, lower, by-totals, plus-at, length-plus, length-many}

-- ---- a total begun at zero

pub zeros-at : (i : ℕ) → ◌≡◌ {A = ℕ} (get_or (replicate 31 0) i 0) 0
zeros-at i = go (ltb i 31) refl
  where
    go : (b : Bool) → ltb i 31 ≡ b → ◌≡◌ {A = ℕ} (get_or (replicate 31 0) i 0) 0
    go true e = get_or-replicate 31 i 0 0 (ltb-true i 31 e)
    go false e = let h : 31 ≤ i = ltb-false i 31 e in get_or-eq_default (replicate 31 0) 0 h

from-zeros : (t : List ℕ) → length t ≡ 31 → plus (replicate 31 0) t ≡ t
from-zeros t l = by-totals _ _ (length-plus (replicate 31 0) t) l (λ i h. plus-at (replicate 31 0) t i h ∙ ap (λ (n : ℕ). n + get_or t i 0) (zeros-at i) ∙ zero_left (get_or t i 0))
  where
    zero_left : (m : ℕ) → 0 + m ≡ m
    zero_left m = omega arith

pub begun : (t : List ℕ) (k : ℕ) → t ≡ plus (replicate 31 0) (many k 1) → t ≡ one k
begun t k e = e ∙ from-zeros (one k) (length-many k 1)

pub begun-low : (t : List ℕ) (k : ℕ) → t ≡ plus (replicate 31 0) (many k 1) → Low t 1
begun-low t k e = subst (λ (w : List ℕ). Low w 1) (sym (begun t k e)) (one-low k)

-- ---- a palette's colours

tag-value : (k : Kind) (w : Value) → SoundValue k w → tag_place (view_of k k) (get_or (value_numbers (view_of k k) w) 0 0) ≡ value_place w
tag-value Aco (samples x vs) h = refl
tag-value Aco (channels t bs) h = absurd h
tag-value Ase (samples x vs) h = absurd h
tag-value Ase (channels t bs) h = refl

pub units-name : (us : List ℕ) → units_place (length us) ≡ name_place us
units-name [] = refl
units-name (u ∷ us) = ap (λ (b : Bool). pick b 28 27) (ne_eqb (suc (length us)) 0 (λ z. omega arith))

abbrev Stepped : Type 0
Stepped = List ℕ × ℕ × ℕ × ℕ

module _ (k : Kind) (s : List ℕ) (n : ℕ) (t₀ : List ℕ) where
  start : (p : ℕ) → n ≡ length (colours_in k s) → Low t₀ 1 → p ≡ first_at k s → Counting (view_of k k) s n t₀ t₀ p 0
  start p a l e =
      let x : kind_seen (view_of k k) ≡ k = seen-kind k k in record {
        below = omega arith;
        all = a ∙ ap (λ (z : Kind). length (colours_in z s)) (sym x);
        seen = ap₂ view_of x x;
        place = e ∙ first-place k s ∙ ap (λ (z : Kind). place_of z s 0) (sym x);
        counted = refl;
        low = lower l (omega arith);
      }

  pub count-start : {v : View} (p : ℕ) → v ≡ view_of k k → n ≡ length (colours_in k s) → Low t₀ 1 → p ≡ first_at k s → Counting v s n t₀ t₀ p 0
  count-start p ev a l e = subst (λ (v : View). Counting v s n t₀ t₀ p 0) (sym ev) (start p a l e)

  pub count-end : (v : View) (t : List ℕ) (p i : ℕ) → v ≡ view_of k k → n ≤ i → Counting v s n t₀ t p i → t ≡ plus t₀ (palette_totals (colours_in k s))
  unfolding sum
  count-end v t p i ev h c =
      let x : kind_seen v ≡ k = ap kind_seen ev ∙ seen-kind k k in
      let past : length (colours_in (kind_seen v) s) ≤ i = omega (arith, c.all) in
      sym (ap (λ (z : Kind). plus t₀ (palette_totals (colours_in z s))) (sym x) ∙ c.counted ∙ ap (λ (l : List PaletteColour). plus t (sum (map colour_totals l))) (drop_of_length-le (colours_in (kind_seen v) s) past) ∙ plus_none t c.low.long)

module _ (v : View) (s : List ℕ) (bytes : Bytes s) (n : ℕ) (t₀ t : List ℕ) (p i : ℕ) (c : Counting v s n t₀ t p i) (h : i < n) where
  pub few-colours : i < limit
  few-colours = omega (arith, few (kind_seen v) s bytes, c.all)

  pub colours-low : Low t 4294967293
  colours-low = lower c.low (omega (arith, few-colours))

  pub count_turn : (x : PaletteStep) (a b : ℕ) (t' : List ℕ) → told_palette_step x ≡ step_of v s p → a ≡ tag_place v x.numbers.tag → b ≡ units_place x.units → t' ≡ plus t (plus (one a) (one b)) → Counting v s n t₀ t' x.next (i + 1)
  unfolding sum
  count_turn x a b t' ex ea eb et =
      let k : Kind = kind_seen v in
      let cs : List PaletteColour = colours_in k s in
      let inside : i < length cs = omega (arith, c.all) in
      let d : PaletteColour = get_or cs i no_colour_at in
      let u = in-turn k k s bytes i inside in
      let g = ex ∙ ap₂ (λ (w : View) (z : ℕ). step_of w s z) (sym c.seen) c.place ∙ u.step in
      let ta : a ≡ value_place d.value = ea ∙ ap₂ tag_place (sym c.seen) (ap (λ (w : Stepped). get_or w.0 0 0) g) ∙ tag-value k d.value u.sound in
      let tb : b ≡ name_place d.name = eb ∙ ap units_place (ap (λ (w : Stepped). w.2) g ∙ u.many) ∙ units-name d.name in
      let both : plus (one a) (one b) ≡ colour_totals d = ap₂ (λ (y z : ℕ). plus (one y) (one z)) ta tb in
      let split : drop i cs ≡ d ∷ drop (i + 1) cs = drop-cons cs i no_colour_at inside ∙ ap (λ (z : ℕ). d ∷ drop z cs) (sym (add-one i)) in
      let rest : List ℕ = sum (map colour_totals (drop (i + 1) cs)) in
      record {
        below = omega arith;
        all = c.all;
        seen = c.seen;
        place = ap (λ (w : Stepped). w.3) g;
        counted =
            c.counted ∙ ap (λ (l : List PaletteColour). plus t (sum (map colour_totals l))) split ∙ sym (plus-joined t (colour_totals d) rest) ∙ ap (λ (w : List ℕ). plus w rest) (sym (et ∙ ap (plus t) both));
        low = subst (λ (w : List ℕ). Low w (2 * (i + 1) + 1)) (sym et) (lower (plus-low t (plus (one a) (one b)) (2 * i + 1) 2 c.low (two-small a b)) (omega arith));
      }

-- ---- a book's records

row_small : (x u i : ℕ) → get_or (book_row x u) i 0 ≤ 2
row_small x u i = go (eqb u 0)
  where
    go : (b : Bool) → get_or (pick b (one 29) (plus (one (book_place x)) (one 27))) i 0 ≤ 2
    go true = one-small 29 i
    go false = two-small (book_place x) 27 i

module _ (x : ℕ) (s : List ℕ) (n first : ℕ) (t₀ : List ℕ) where
  pub shelf-start : Low t₀ 1 → Shelved x s n first t₀ t₀ first 0
  shelf-start l = record {
    below = omega arith;
    counted = ap (λ (w : List RecordRow). plus t₀ (sum (map (row_of x) w))) (walked_start x s first n);
    low = lower l (omega arith);
  }

  module _ (t : List ℕ) (p i : ℕ) (c : Shelved x s n first t₀ t p i) where
    pub shelf-end : n ≤ i → t ≡ plus t₀ (sum (map (row_of x) (walked x s first n)))
    unfolding sum
    shelf-end h = sym (c.counted ∙ ap (λ (w : List RecordRow). plus t (sum (map (row_of x) w))) (walked_end x s p n i h) ∙ plus_none t c.low.long)

    pub shelf-low : i < n → n < 65536 → Low t 4294967293
    shelf-low h g = lower c.low (omega arith)

    pub shelf-turn : i < n → (u q : ℕ) (t' : List ℕ) → u ≡ (given_in (step x s p).0).name.1 → q ≡ (step x s p).1 → t' ≡ plus t (book_row x u) → Shelved x s n first t₀ t' q (i + 1)
    unfolding sum
    shelf-turn h u q t' eu eq et =
        let rest : List ℕ = sum (map (row_of x) (walked x s q (n - (i + 1)))) in
        record {
          below = omega arith;
          counted =
              c.counted ∙ ap (λ (w : List RecordRow). plus t (sum (map (row_of x) w))) (walked-turn x s p n i h)
              ∙ ap (λ (z : ℕ). plus t (plus (book_row x (given_in (step x s p).0).name.1) (sum (map (row_of x) (walked x s z (n - (i + 1))))))) (sym eq)
              ∙ ap (λ (z : ℕ). plus t (plus (book_row x z) rest)) (sym eu)
              ∙ sym (plus-joined t (book_row x u) rest) ∙ ap (λ (w : List ℕ). plus w rest) (sym et);
          low = subst (λ (w : List ℕ). Low w (2 * (i + 1) + 1)) (sym et) (lower (plus-low t (book_row x u) (2 * i + 1) 2 c.low (row_small x u)) (omega arith));
        }

record-row : (x : ℕ) (e : Entry) → row_of x (given_of e) ≡ record_totals x e
record-row x e = go e.name.units
  where
    go : (us : List ℕ) → book_row x (length us) ≡ pick (is_empty us) (one 29) (plus (one (book_place x)) (one 27))
    go [] = refl
    go (u ∷ us) = ap (λ (b : Bool). pick b (one 29) (plus (one (book_place x)) (one 27))) (ne_eqb (suc (length us)) 0 (λ z. omega arith))

pub records-rows : (x : ℕ) (es : List Entry) → map (row_of x) (map given_of es) ≡ map (record_totals x) es
records-rows x [] = refl
records-rows x (e ∷ es) = ap₂ (λ (a : List ℕ) (l : List (List ℕ)). a ∷ l) (record-row x e) (records-rows x es)
