-- What stands between two items of a file, and that a whole item, or the file's end, keeps it. Assumes nothing.
use Prim.Native.Nat.{ℕ, ◌+◌, ◌*◌, ◌-◌, ◌≤◌, ◌<◌}
use mathlib.Core.Path.{◌≡◌, refl, sym, ap, ap₂, ◌∙◌, subst}
use mathlib.Core.List.{List, [], ◌∷◌}
use mathlib.Core.Bool.{Bool, true, false}
use lib.Dec.{leb, ltb, eqb}
use lib.ListN.{length, get_or}
use borrow.Author.Tests.{leb-true, ltb-true, ltb-false, eqb-true, eqb-false}
use native.Mathlib.Omega.{arith}
use native.Mathlib.Nat.{add-zero}
use Rattle.algebra.specs.Numbers.{num}
use Rattle.algebra.specs.Reader.{Res, ok, refuse, Reader, then, pick, rule, field, Judged, fine, fault, unless, judged, each}
use Rattle.algebra.specs.Store.{stored}
use Rattle.algebra.proofs.Laws.{field_in}
use Rattle.algebra.proofs.Inverse.{then-inv, judged-inv, field-inv, unless-fine, clash}
use Rattle.colour.specs.declared.space.Colour.{Colour}
use Rattle.aco.specs.Reading.{most, first_count, second_count, space, sample, samples, colour, heading, field_of, repeated_field, zero_colour, lists}
use Rattle.aco.specs.Reading as R
use Rattle.algebra.specs.Table.{refused, verdict}
use Rattle.aco_judge.specs.Answer.{report}
use Rattle.aco_chunks.specs.declared.Stage.{Stage}
use Rattle.aco_chunks.specs.declared.Stage.TheVariants as v
use Rattle.aco_chunks.specs.Chunks.{FileVerdict, loaded, entry_head, colour_item, size, item, colours, entries, unit_done, after, kept, is_fault, cut, ending}
use Rattle.aco_chunks.specs.Promise.{sound_from, sound_in, sound_colours, held}
use Rattle.algebra.specs.Reader.{shift}
use Rattle.algebra.proofs.Alone.{Window, Alone, judged-alone, give-alone, bind-alone, each-alone, field-alone}
use Rattle.aco_chunks.proofs.Turns.{raw, colours_left, end_at, entries_left, sealed, units_left, first-refused, first-turn, colour-turn, colour-stop, soundFrom-turn, soundFrom-stop, colours-over, soundFrom-over, colourItem-ok, colourItem-no, after-end, second-stop, second-turn, entryHead-turn, entryHead-stop, entries_over, end-here, end_more, units_short, units-turn, units-last}
use Rattle.aco_chunks.proofs.Held.{held_more, colour-held}

-- ---- each item is read alone

module _ (w : ℕ) (s : List ℕ) (from : ℕ) (b : List ℕ) (h : Window w s from b) where
  at-start : {A : Type 0} (x : ℕ) (p : Reader A) → Alone w s from b h x p → x ≤ w → p s from ≡ shift from (p b 0)
  at-start x p a l = ap (λ (k : ℕ). p s k) (sym (add-zero from)) ∙ a.same 0 (omega arith) (omega arith)

  heading-alone : (x : ℕ) (j : ℕ → Judged) → Alone w s from b h 4 (heading x j)
  unfolding heading
  heading-alone x j = bind-alone w s from b h 2 2 (judged 2 (λ y. unless (eqb y x) 3)) (λ y. judged 2 j) (judged-alone w s from b h 2 (λ y. unless (eqb y x) 3)) (λ y. judged-alone w s from b h 2 j)

  colourItem-alone : Alone w s from b h 10 colour_item
  unfolding colour_item colour samples
  colourItem-alone =
      bind-alone w s from b h 10 0 colour _
      (bind-alone w s from b h 2 8 (judged 2 space) _ (judged-alone w s from b h 2 space)
      (λ x. bind-alone w s from b h 8 0 (each 4 0 (λ k. judged 2 (sample x k))) _ (each-alone w s from b h 2 (λ k. judged 2 (sample x k)) (λ k. judged-alone w s from b h 2 (sample x k)) 4 0) (λ vs. give-alone w s from b h _)))
      (λ c. give-alone w s from b h 0)

  entryHead-alone : (i : ℕ) (c : Colour) → Alone w s from b h 14 (entry_head i c)
  unfolding entry_head
  entryHead-alone i c =
      bind-alone w s from b h 10 4 (each 5 0 (repeated_field i c)) _ (each-alone w s from b h 2 (repeated_field i c) (λ f. judged-alone w s from b h 2 (λ u. pick (eqb u (field_of c f)) fine (fault 7 i f))) 5 0) (λ vs. judged-alone w s from b h 4 (λ n. unless (ltb 0 n) 8))

-- ---- what stands before an item that begins at `from`

module _ (s st : List ℕ) (room : 40960 ≤ length st) where
  abbrev pub all : FileVerdict
  all = verdict report (lists s 0)

  -- i colours of n are in the store
  pub record Rows (n i from : ℕ) (store : List ℕ) : Type 0 where
    pub few : n ≤ most
    pub here : from ≡ 4 + 10 * i
    pub inside : from ≤ length s
    pub holds : store ≡ held i s st
    pub comes : all ≡ verdict report (colours_left n i s from)
    pub count : sound_colours s ≡ i + sound_from (n - i) s from

  -- all of them are
  pub record Passed (n : ℕ) (store : List ℕ) : Type 0 where
    pub few : n ≤ most
    pub inside : 4 + 10 * n ≤ length s
    pub holds : store ≡ held n s st
    pub count : sound_colours s ≡ n

  abbrev pub Left : Stage → ℕ → List ℕ → Type 0
  Left v.First from store = (from ≡ 0) × (store ≡ st)
  Left (v.Colour n i) from store = Rows n i from store × (i < n)
  Left (v.Second n) from store = Passed n store × (all ≡ verdict report (R.after (raw n s) s from))
  Left (v.Entry n i) from store = Passed n store × (i < n) × (all ≡ sealed n (entries_left n i s from))
  Left (v.Unit n i at m z) from store = Passed n store × (i < n) × (0 < m) × (all ≡ sealed n (then (units_left at m z s from) (λ u q. entries_left n (i + 1) s q)))
  Left (v.End n) from store = Passed n store × (all ≡ sealed n (end_at s from))
  Left (v.Fault x p r f) from store = (store ≡ held (sound_colours s) s st) × (all ≡ refused x p r f)

  enter-colours : (n i from : ℕ) (store : List ℕ) → i ≤ n → Rows n i from store → Left (colours n i) from store
  enter-colours n i from store l r = go (ltb i n) refl
    where
      go : (b : Bool) → ltb i n ≡ b → Left (pick b (v.Colour n i) (v.Second n)) from store
      go true e = (r, ltb-true i n e)
      go false e =
          let k : n ≡ i = omega (arith, ltb-false i n e) in
          let r' : Rows n n from store = subst (λ (j : ℕ). Rows n j from store) (sym k) r in
          (record { few = r'.few; inside = omega (arith, r'.inside, r'.here); holds = r'.holds; count = r'.count ∙ omega (arith, soundFrom-over s n from) }, r'.comes ∙ ap (verdict report) (colours-over s n from))

  enter-entries : (n i from : ℕ) (store : List ℕ) → i ≤ n → Passed n store → all ≡ sealed n (entries_left n i s from) → Left (entries n i) from store
  enter-entries n i from store l p e = go (ltb i n) refl
    where
      go : (b : Bool) → ltb i n ≡ b → Left (pick b (v.Entry n i) (v.End n)) from store
      go true h = (p, ltb-true i n h, e)
      go false h =
          let k : i ≡ n = omega (arith, ltb-false i n h) in
          (p, e ∙ ap (λ (j : ℕ). sealed n (entries_left n j s from)) k ∙ ap (sealed n) (entries_over s n from))

  passed-soundColours : {n : ℕ} {store : List ℕ} → Passed n store → store ≡ held (sound_colours s) s st
  passed-soundColours p = p.holds ∙ ap (λ (k : ℕ). held k s st) (sym p.count)

  first-few : (n q : ℕ) → heading 1 first_count s 0 ≡ ok n q → n ≤ most
  unfolding heading
  first-few n q y =
      let t = then-inv (judged 2 (λ x. unless (eqb x 1) 3) s 0) _ y in
      leb-true n most (unless-fine (leb n most) 5 (judged-inv 2 s t.1 first_count t.3).3)

  soundColours-first : (m : Res ℕ) → heading 1 first_count s 0 ≡ m → sound_colours s ≡ sound_in m s
  unfolding sound_colours
  soundColours-first m e = ap (λ (m : Res ℕ). sound_in m s) e

  -- ---- a whole item

  module _ (from : ℕ) (b store : List ℕ) where
    -- list 1's heading
    module _ (w : ℕ) (four : 4 ≤ w) (h : Window w s from b) (z : from ≡ 0) (e : store ≡ st) where
      first-here : heading 1 first_count s 0 ≡ shift from (heading 1 first_count b 0)
      first-here = ap (λ (x : ℕ). heading 1 first_count s x) (sym z) ∙ at-start w s from b h 4 (heading 1 first_count) (heading-alone w s from b h 1 first_count) four

      first-ok : (n q : ℕ) → heading 1 first_count b 0 ≡ ok n q → (4 ≤ length b) × Left (colours n 0) (from + 4) store
      first-ok n q k =
          let m = (heading-alone w s from b h 1 first_count).moves 0 (omega arith) n q k in
          let q4 : from + q ≡ 4 = omega arith in
          let f4 : 4 ≡ from + 4 = omega arith in
          let n0 : n ≡ n - 0 = omega arith in
          let y : heading 1 first_count s 0 ≡ ok n 4 = first-here ∙ ap (shift from) k ∙ ap (λ (x : ℕ). ok n x) q4 in
          let c : sound_colours s ≡ sound_from (n - 0) s (from + 4) = soundColours-first (ok n 4) y ∙ ap₂ (λ (x y : ℕ). sound_from x s y) n0 f4 in (
            omega arith,
            enter-colours n 0 (from + 4) store (omega arith) (record {
              few = first-few n 4 y;
              here = omega arith;
              inside = omega (arith, h.inside);
              holds = e;
              comes = ap (verdict report) (first-turn s n y) ∙ ap (λ (x : ℕ). verdict report (colours_left n 0 s x)) f4;
              count = omega arith;
            }),
          )

      first-no : (x p r f : ℕ) → heading 1 first_count b 0 ≡ refuse x p r f → Left (v.Fault x (from + p) r f) (from + 4) store
      first-no x p r f k =
          let y : heading 1 first_count s 0 ≡ refuse x (from + p) r f = first-here ∙ ap (shift from) k in
          (e ∙ ap (λ (k : ℕ). held k s st) (sym (soundColours-first (refuse x (from + p) r f) y)), first-refused s y)

    -- a colour
    module _ (w : ℕ) (ten : 10 ≤ w) (h : Window w s from b) (n i : ℕ) (rows : Rows n i from store) (l : i < n) where
      colourItem-here : colour_item s from ≡ shift from (colour_item b 0)
      colourItem-here = at-start w s from b h 10 colour_item (colourItem-alone w s from b h) ten

      colour-no : (x p r f : ℕ) → colour_item b 0 ≡ refuse x p r f → Left (v.Fault x (from + p) r f) (from + 10) store
      colour-no x p r f k =
          let y : colour_item s from ≡ refuse x (from + p) r f = colourItem-here ∙ ap (shift from) k in
          let c : sound_colours s ≡ i = omega (arith, rows.count, soundFrom-stop s n i from l y) in
          (rows.holds ∙ ap (λ (k : ℕ). held k s st) (sym c), rows.comes ∙ ap (verdict report) (colour-stop s n i from l (colourItem-no s from y)))

      colour-moves : (u q : ℕ) → colour_item b 0 ≡ ok u q → (q ≡ 10) × (10 ≤ length b)
      colour-moves u q k = let m = (colourItem-alone w s from b h).moves 0 (omega arith) u q k in (omega arith, omega arith)

      colour-ok : length b ≡ 10 → (u q : ℕ) → colour_item b 0 ≡ ok u q → Left (colours n (i + 1)) (from + 10) (stored store (10 * i) b)
      colour-ok lb u q k =
          let m = colour-moves u q k in
          let q10 : from + q ≡ from + 10 = omega arith in
          let y : colour_item s from ≡ ok u (from + 10) = colourItem-here ∙ ap (shift from) k ∙ ap (λ (x : ℕ). ok u x) q10 in
          enter-colours n (i + 1) (from + 10) (stored store (10 * i) b) (omega arith) (record {
            few = rows.few;
            here = omega (arith, rows.here);
            inside = omega (arith, h.inside);
            holds = ap (λ (o : List ℕ). stored o (10 * i) b) rows.holds ∙ held_more s st i from b rows.here (omega (arith, h.inside)) (omega (arith, rows.few)) lb h.bytes;
            comes = rows.comes ∙ ap (verdict report) (colour-turn s n i from l (colourItem-ok s from y).1);
            count = omega (arith, rows.count, soundFrom-turn s n i from l y);
          })

    -- list 2's heading, which has begun
    module _ (w : ℕ) (four : 4 ≤ w) (h : Window w s from b) (n : ℕ) (p : Passed n store) (e : all ≡ verdict report (R.after (raw n s) s from)) (some : 0 < length b) where
      second-here : heading 2 (second_count n) s from ≡ shift from (heading 2 (second_count n) b 0)
      second-here = at-start w s from b h 4 (heading 2 (second_count n)) (heading-alone w s from b h 2 (second_count n)) four

      more : from ≡ length s → ⊥
      more x = omega (arith, h.inside)

      second-no : (x q r f : ℕ) → heading 2 (second_count n) b 0 ≡ refuse x q r f → Left (v.Fault x (from + q) r f) (from + 4) store
      second-no x q r f k = (passed-soundColours p, e ∙ second-stop s n from more (second-here ∙ ap (shift from) k))

      second-ok : (u q : ℕ) → heading 2 (second_count n) b 0 ≡ ok u q → (4 ≤ length b) × Left (entries n 0) (from + 4) store
      second-ok u q k =
          let m = (heading-alone w s from b h 2 (second_count n)).moves 0 (omega arith) u q k in
          let q4 : from + q ≡ from + 4 = omega arith in
          (omega arith, enter-entries n 0 (from + 4) store (omega arith) p (e ∙ second-turn s n from more (second-here ∙ ap (shift from) k ∙ ap (λ (x : ℕ). ok u x) q4)))

    -- a record up to its name's units
    module _ (w : ℕ) (fourteen : 14 ≤ w) (h : Window w s from b) (n i : ℕ) (p : Passed n store) (l : i < n) (e : all ≡ sealed n (entries_left n i s from)) where
      same-colour : loaded store (10 * i) ≡ get_or (raw n s) i zero_colour
      same-colour = ap (λ (o : List ℕ). loaded o (10 * i)) p.holds ∙ colour-held s st n p.inside (omega (arith, p.few)) i l

      entryHead-here : entry_head i (get_or (raw n s) i zero_colour) s from ≡ shift from (entry_head i (loaded store (10 * i)) b 0)
      entryHead-here = ap (λ (c : Colour). entry_head i c s from) (sym same-colour) ∙ at-start w s from b h 14 (entry_head i (loaded store (10 * i))) (entryHead-alone w s from b h i (loaded store (10 * i))) fourteen

      entryHead-no : (x q r f : ℕ) → entry_head i (loaded store (10 * i)) b 0 ≡ refuse x q r f → Left (v.Fault x (from + q) r f) (from + 14) store
      entryHead-no x q r f k = (passed-soundColours p, e ∙ ap (sealed n) (entryHead-stop s n i from l (entryHead-here ∙ ap (shift from) k)))

      entryHead-ok : (u q : ℕ) → entry_head i (loaded store (10 * i)) b 0 ≡ ok u q → (14 ≤ length b) × Left (v.Unit n i (from + 10) u false) (from + 14) store
      entryHead-ok u q k =
          let m = (entryHead-alone w s from b h i (loaded store (10 * i))).moves 0 (omega arith) u q k in
          let q14 : from + q ≡ from + 14 = omega arith in
          let t = entryHead-turn s n i from l (entryHead-here ∙ ap (shift from) k ∙ ap (λ (x : ℕ). ok u x) q14) in
          (omega arith, (p, l, t.0, e ∙ ap (sealed n) t.1))

    -- a unit
    module _ (h : Window 2 s from b) (lb : length b ≡ 2) (n i at m : ℕ) (z : Bool) (p : Passed n store) (l : i < n) (some : 0 < m)
        (e : all ≡ sealed n (then (units_left at m z s from) (λ u q. entries_left n (i + 1) s q))) where
      more-units : (t : Bool) → eqb (num 2 s from) 0 ≡ t → 1 < m → Left (v.Unit n i at (m - 1) (pick t true z)) (from + 2) store
      more-units t f g =
          (p, l, omega arith, e ∙ ap (λ (y : Res Unit). sealed n (then y (λ u q. entries_left n (i + 1) s q))) (units-turn s at m z from t g (omega (arith, h.inside)) f))

      last-unit : m ≡ 1 → (t : Bool) → eqb (num 2 s from) 0 ≡ t → all ≡ sealed n (then (rule (unless (pick z false t) 8) at (ok (tt {0}) (from + 2))) (λ u q. entries_left n (i + 1) s q))
      last-unit one t f =
          e ∙ ap (λ (k : ℕ). sealed n (then (units_left at k z s from) (λ u q. entries_left n (i + 1) s q))) one
          ∙ ap (λ (y : Res Unit). sealed n (then y (λ u q. entries_left n (i + 1) s q))) (units-last s at m z from t (omega (arith, h.inside)) f)

      bad : (y t : Bool) → z ≡ y → eqb (num 2 s from) 0 ≡ t → m ≡ 1 → pick y false t ≡ false → Left (v.Fault 8 at 0 0) (from + 2) store
      bad y t ez f one g =
          (passed-soundColours p, last-unit one t f ∙ ap (λ (x : Bool). sealed n (then (rule (unless x 8) at (ok (tt {0}) (from + 2))) (λ u q. entries_left n (i + 1) s q))) (ap (λ (x : Bool). pick x false t) ez ∙ g))

      several : eqb m 1 ≡ false → 1 < m
      several h = omega (arith, eqb-false m 1 h)

      zero-unit : eqb (num 2 s from) 0 ≡ true → (o y : Bool) → eqb m 1 ≡ o → z ≡ y → Left (pick o (pick y (v.Fault 8 at 0 0) (entries n (i + 1))) (v.Unit n i at (m - 1) true)) (from + 2) store
      zero-unit f true true h ez = bad true true ez f (eqb-true m 1 h) refl
      zero-unit f true false h ez =
          enter-entries n (i + 1) (from + 2) store (omega arith) p
          (last-unit (eqb-true m 1 h) true f ∙ ap (λ (x : Bool). sealed n (then (rule (unless (pick x false true) 8) at (ok (tt {0}) (from + 2))) (λ u q. entries_left n (i + 1) s q))) ez)
      zero-unit f false true h ez = more-units true f (several h)
      zero-unit f false false h ez = more-units true f (several h)

      other-unit : eqb (num 2 s from) 0 ≡ false → (o y : Bool) → eqb m 1 ≡ o → z ≡ y → Left (pick o (v.Fault 8 at 0 0) (v.Unit n i at (m - 1) z)) (from + 2) store
      other-unit f true true h ez = bad true false ez f (eqb-true m 1 h) refl
      other-unit f true false h ez = bad false false ez f (eqb-true m 1 h) refl
      other-unit f false true h ez = more-units false f (several h)
      other-unit f false false h ez = more-units false f (several h)

      unit_ok : (t : Bool) → eqb (num 2 s from) 0 ≡ t → Left (unit_done n i at m z t) (from + 2) store
      unit_ok true f = zero-unit f (eqb m 1) z refl refl
      unit_ok false f = other-unit f (eqb m 1) z refl refl

      unit-item : (r : Res ℕ) → field 2 b 0 ≡ r → Left (after (v.Unit n i at m z) from r) (from + 2) store
      unit-item (ok u q) k =
          let y : field 2 s from ≡ ok u (from + q) = ap (λ (x : ℕ). field 2 s x) (sym (add-zero from)) ∙ field-alone 2 s from b h 2 0 (omega arith) (omega arith) ∙ ap (shift from) k in
          unit_ok (eqb u 0) (ap (λ (x : ℕ). eqb x 0) (field-inv 2 s from y).1)
      unit-item (refuse x q r f) k = clash (sym k ∙ field_in 2 b 0 (omega arith))

  -- every stage's item, whole
  pub item-whole : (g : Stage) (from : ℕ) (b store : List ℕ) → is_fault g ≡ false → Left g from store → length b ≡ size g → Window (size g) s from b
      → Left (after g from (item store g b 0)) (from + length b) (kept g (item store g b 0) b store)
  item-whole v.First from b store n f l h = subst (λ (k : ℕ). Left (after v.First from (heading 1 first_count b 0)) (from + k) store) (sym l) (go (heading 1 first_count b 0) refl)
    where
      go : (m : Res ℕ) → heading 1 first_count b 0 ≡ m → Left (after v.First from m) (from + 4) store
      go (ok u q) k = (first-ok from b store 4 (omega arith) h f.0 f.1 u q k).1
      go (refuse x p r y) k = first-no from b store 4 (omega arith) h f.0 f.1 x p r y k
  item-whole (v.Colour n i) from b store z f l h =
      subst (λ (k : ℕ). Left (after (v.Colour n i) from (colour_item b 0)) (from + k) (kept (v.Colour n i) (colour_item b 0) b store)) (sym l) (go (colour_item b 0) refl)
    where
      go : (m : Res ℕ) → colour_item b 0 ≡ m → Left (after (v.Colour n i) from m) (from + 10) (kept (v.Colour n i) m b store)
      go (ok u q) k = colour-ok from b store 10 (omega arith) h n i f.0 f.1 l u q k
      go (refuse x p r y) k = colour-no from b store 10 (omega arith) h n i f.0 f.1 x p r y k
  item-whole (v.Second n) from b store z f l h = subst (λ (k : ℕ). Left (after (v.Second n) from (heading 2 (second_count n) b 0)) (from + k) store) (sym l) (go (heading 2 (second_count n) b 0) refl)
    where
      go : (m : Res ℕ) → heading 2 (second_count n) b 0 ≡ m → Left (after (v.Second n) from m) (from + 4) store
      go (ok u q) k = (second-ok from b store 4 (omega arith) h n f.0 f.1 (omega arith) u q k).1
      go (refuse x p r y) k = second-no from b store 4 (omega arith) h n f.0 f.1 (omega arith) x p r y k
  item-whole (v.Entry n i) from b store z f l h =
      subst (λ (k : ℕ). Left (after (v.Entry n i) from (entry_head i (loaded store (10 * i)) b 0)) (from + k) store) (sym l) (go (entry_head i (loaded store (10 * i)) b 0) refl)
    where
      go : (m : Res ℕ) → entry_head i (loaded store (10 * i)) b 0 ≡ m → Left (after (v.Entry n i) from m) (from + 14) store
      go (ok u q) k = (entryHead-ok from b store 14 (omega arith) h n i f.0 f.1 f.2 u q k).1
      go (refuse x p r y) k = entryHead-no from b store 14 (omega arith) h n i f.0 f.1 f.2 x p r y k
  item-whole (v.Unit n i at m y) from b store z f l h =
      subst (λ (k : ℕ). Left (after (v.Unit n i at m y) from (field 2 b 0)) (from + k) store) (sym l) (unit-item from b store h l n i at m y f.0 f.1 f.2 f.3 (field 2 b 0) refl)
  item-whole (v.End n) from b store z f l h =
      (passed-soundColours f.0, f.1 ∙ ap (sealed n) (end_more s from (λ x. omega (arith, h.inside)) ∙ ap (λ (k : ℕ). refuse 6 k 0 0) (sym (add-zero from))))
  item-whole (v.Fault x p r y) from b store z f l h = let w : ◌≡◌ {A = ℕ} 0 1 = cc in absurd (omega arith)

  -- the file ends in a stage's item, or before it
  pub item-cut : (g : Stage) (from : ℕ) (b store : List ℕ) → Left g from store → from + length b ≡ length s → length b < size g → Window (size g) s from b
      → (all ≡ ending g from b store) × (store ≡ held (sound_colours s) s st)
  unfolding ending
  item-cut v.First from b store f e l h = go (heading 1 first_count b 0) refl
    where
      go : (m : Res ℕ) → heading 1 first_count b 0 ≡ m → (all ≡ cut from m) × (store ≡ held (sound_colours s) s st)
      go (ok u q) k = absurd (omega (arith, (first-ok from b store 4 (omega arith) h f.0 f.1 u q k).0))
      go (refuse x p r y) k = let w = first-no from b store 4 (omega arith) h f.0 f.1 x p r y k in (w.1, w.0)
  item-cut (v.Colour n i) from b store f e l h = go (colour_item b 0) refl
    where
      go : (m : Res ℕ) → colour_item b 0 ≡ m → (all ≡ cut from m) × (store ≡ held (sound_colours s) s st)
      go (ok u q) k = absurd (omega (arith, colour-moves from b store 10 (omega arith) h n i f.0 f.1 u q k))
      go (refuse x p r y) k = let w = colour-no from b store 10 (omega arith) h n i f.0 f.1 x p r y k in (w.1, w.0)
  item-cut (v.Second n) from [] store f e l h = (f.1 ∙ after-end s n from (omega arith), passed-soundColours f.0)
  item-cut (v.Second n) from (a ∷ b) store f e l h = go (heading 2 (second_count n) (a ∷ b) 0) refl
    where
      go : (m : Res ℕ) → heading 2 (second_count n) (a ∷ b) 0 ≡ m → (all ≡ cut from m) × (store ≡ held (sound_colours s) s st)
      go (ok u q) k = absurd (omega (arith, (second-ok from (a ∷ b) store 4 (omega arith) h n f.0 f.1 (omega arith) u q k).0))
      go (refuse x p r y) k = let w = second-no from (a ∷ b) store 4 (omega arith) h n f.0 f.1 (omega arith) x p r y k in (w.1, w.0)
  item-cut (v.Entry n i) from b store f e l h = go (entry_head i (loaded store (10 * i)) b 0) refl
    where
      go : (m : Res ℕ) → entry_head i (loaded store (10 * i)) b 0 ≡ m → (all ≡ cut from m) × (store ≡ held (sound_colours s) s st)
      go (ok u q) k = absurd (omega (arith, (entryHead-ok from b store 14 (omega arith) h n i f.0 f.1 f.2 u q k).0))
      go (refuse x p r y) k = let w = entryHead-no from b store 14 (omega arith) h n i f.0 f.1 f.2 x p r y k in (w.1, w.0)
  item-cut (v.Unit n i at m y) from b store f e l h =
      (f.3 ∙ ap (λ (y : Res Unit). sealed n (then y (λ u q. entries_left n (i + 1) s q))) (units_short s at m y from (omega arith) f.2), passed-soundColours f.0)
  item-cut (v.End n) from b store f e l h = (f.1 ∙ ap (sealed n) (end-here s from (omega arith)), passed-soundColours f.0)
  item-cut (v.Fault x p r y) from b store f e l h = (f.1, f.0)

  -- where the limit is reached, list 1 is over
  pub item-limit : (g : Stage) (from k : ℕ) (store : List ℕ) → Left g from store → k < size g → 100000 < from + k → store ≡ held (sound_colours s) s st
  item-limit v.First from k store f l h = absurd (omega (arith, f.0))
  item-limit (v.Colour n i) from k store f l h = absurd (omega (arith, f.0.here, f.0.few, f.1))
  item-limit (v.Second n) from k store f l h = passed-soundColours f.0
  item-limit (v.Entry n i) from k store f l h = passed-soundColours f.0
  item-limit (v.Unit n i at m z) from k store f l h = passed-soundColours f.0
  item-limit (v.End n) from k store f l h = passed-soundColours f.0
  item-limit (v.Fault x p r y) from k store f l h = f.0
