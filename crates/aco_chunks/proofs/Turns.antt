-- The whole-file reading in tail form: what the whole comes to is what is still to be read from an item, and each item moves it on. Assumes nothing.
use Prim.Native.Nat.{ℕ, suc, ◌+◌, ◌*◌, ◌-◌, ◌≤◌, ◌<◌}
use mathlib.Core.Path.{◌≡◌, refl, sym, ap, ap₂, ◌∙◌}
use mathlib.Core.List.{List, ◌∷◌}
use mathlib.Core.Bool.{Bool, true, false}
use lib.Dec.{leb, ltb, eqb}
use lib.ListN.{length, get_or, length-map}
use borrow.Author.Tests.{le-leb, lt-leb, leb-true, leb-false, ltb-true, eq-eqb, ne_eqb}
use native.Mathlib.Omega.{arith}
use native.Mathlib.Nat.{sub-zero}
use Rattle.algebra.specs.Numbers.{num, nums}
use Rattle.algebra.specs.Reader.{Res, ok, refuse, then, pick, rule, body, fine, fault, unless, judged, each, done}
use Rattle.algebra.specs.Text.{Name, name, closed_units, closed, is_empty, front}
use Rattle.algebra.proofs.Laws.{done-const, ended-done, each_turn, each-end}
use Rattle.algebra.proofs.Inverse.{then-inv, judged-inv, clash, ok-place, unless-fine}
use Rattle.colour.specs.declared.space.Colour.{Colour}
use Rattle.aco.specs.Reading.{colour, heading, first_count, second_count, repeated_field, entry, Entry, Contents, zero_colour, second, unnamed, after, lists}
use Rattle.aco.specs.scaffold.Raw.{raw_colours}
use Rattle.aco.proofs.Raw.{colours-raw, length-raw}
use Rattle.algebra.specs.Table.{accepted, refused, verdict}
use Rattle.aco_judge.specs.Answer.{report}
use Rattle.aco_judge.proofs.Judging.{entry_of, second-lists}
use Rattle.aco_chunks.specs.Chunks.{FileVerdict, entry_head, colour_item}
use Rattle.aco_chunks.specs.Promise.{sound_from}

-- ---- what is left

abbrev pub raw : ℕ → List ℕ → List Colour
raw n s = raw_colours n s 4

-- colours of list 1 from colour i, and what follows them
abbrev pub colours_left : ℕ → ℕ → List ℕ → ℕ → Res Contents
colours_left n i s at = then (each (n - i) i (λ k. colour) s at) (λ cs q. after (raw n s) s q)

abbrev pub end_at : List ℕ → ℕ → Res Unit
end_at s q = pick (eqb q (length s)) (ok tt q) (refuse 6 q 0 0)

-- records of list 2 from record i, and the file's end
abbrev pub entries_left : ℕ → ℕ → List ℕ → ℕ → Res Unit
entries_left n i s at = then (done (each (n - i) i (entry_of (raw n s)) s at)) (λ u q. end_at s q)

-- what list 2 comes to
abbrev pub sealed : ℕ → Res Unit → FileVerdict
sealed n (ok u q) = accepted (n, 2)
sealed n (refuse x p r f) = refused x p r f

-- closed, where z says that a unit before these was zero
abbrev pub closed_after : Bool → List ℕ → Bool
closed_after true us = false
closed_after false us = closed us

-- m units of a name whose count stands at `at`
abbrev pub units_left : ℕ → ℕ → Bool → List ℕ → ℕ → Res Unit
units_left at m z s from = pick (leb (m * 2) (length s - from)) (rule (unless (closed_after z (nums 2 m s from)) 8) at (ok tt (from + m * 2))) (refuse 2 (at + 4) 0 0)

-- ---- list 1

module _ (s : List ℕ) where
  pub first-refused : {x p r f : ℕ} → heading 1 first_count s 0 ≡ refuse x p r f → verdict report (lists s 0) ≡ refused x p r f
  unfolding lists
  first-refused e = rw e

  raw-after : (n at : ℕ) (m : Res (List Colour)) → each n 0 (λ k. colour) s 4 ≡ m → then m (λ cs q. after cs s q) ≡ then m (λ cs q. after (raw n s) s q)
  raw-after n at (ok cs q) e = ap (λ (l : List Colour). after l s q) (colours-raw s n 0 4 e).0
  raw-after n at (refuse x p r f) e = refl

  pub first-turn : (n : ℕ) → heading 1 first_count s 0 ≡ ok n 4 → lists s 0 ≡ colours_left n 0 s 4
  unfolding lists
  first-turn n e = rw e (raw-after n 4 (each n 0 (λ k. colour) s 4) refl ∙ ap (λ (k : ℕ). then (each k 0 (λ k. colour) s 4) (λ cs q. after (raw n s) s q)) (sym (sub-zero n)))

  module _ (n i at : ℕ) (l : i < n) where
    less : n - i ≡ suc (n - (i + 1))
    less = omega arith

    cons-then : {A B : Type 0} (a : A) (m : Res (List A)) (k : ℕ → Res B) → then (then m (λ more end. ok (a ∷ more) end)) (λ cs q. k q) ≡ then m (λ cs q. k q)
    cons-then a (ok vs q) k = refl
    cons-then a (refuse x p r f) k = refl

    pub colour-turn : {c : Colour} {q : ℕ} → colour s at ≡ ok c q → colours_left n i s at ≡ colours_left n (i + 1) s q
    unfolding each
    colour-turn {c} {q} e = rw less (rw e (cons-then c (each (n - (i + 1)) (i + 1) (λ k. colour) s q) (λ p. after (raw n s) s p)))

    pub colour-stop : {x p r f : ℕ} → colour s at ≡ refuse x p r f → colours_left n i s at ≡ refuse x p r f
    unfolding each
    colour-stop e = rw less (rw e)

    pub soundFrom-turn : {u q : ℕ} → colour_item s at ≡ ok u q → sound_from (n - i) s at ≡ sound_from (n - (i + 1)) s (at + 10) + 1
    unfolding sound_from
    soundFrom-turn e = rw less (rw e)

    pub soundFrom-stop : {x p r f : ℕ} → colour_item s at ≡ refuse x p r f → sound_from (n - i) s at ≡ 0
    unfolding sound_from
    soundFrom-stop e = rw less (rw e)

  pub colours-over : (n at : ℕ) → colours_left n n s at ≡ after (raw n s) s at
  unfolding each
  colours-over n at = let z : n - n ≡ 0 = omega arith in rw z

  pub soundFrom-over : (n at : ℕ) → sound_from (n - n) s at ≡ 0
  unfolding sound_from
  soundFrom-over n at = let z : n - n ≡ 0 = omega arith in rw z

  colourItem-by : (m : Res Colour) {u q : ℕ} → then m (λ c n. ok 0 n) ≡ ok u q → (c : Colour) × (m ≡ ok c q)
  colourItem-by (ok c n) e = let z : n ≡ _ = ok-place e in (c, ap (λ (k : ℕ). ok c k) z)
  colourItem-by (refuse x p r f) e = clash e

  pub colourItem-ok : (at : ℕ) {u q : ℕ} → colour_item s at ≡ ok u q → (c : Colour) × (colour s at ≡ ok c q)
  unfolding colour_item
  colourItem-ok at e = colourItem-by (colour s at) e

  colourItem-off : (m : Res Colour) {x p r f : ℕ} → ◌≡◌ {A = Res ℕ} (then m (λ c n. ok 0 n)) (refuse x p r f) → m ≡ refuse x p r f
  colourItem-off (ok c n) e = clash (sym e)
  colourItem-off (refuse x p r f) e = cc

  pub colourItem-no : (at : ℕ) {x p r f : ℕ} → colour_item s at ≡ refuse x p r f → colour s at ≡ refuse x p r f
  unfolding colour_item
  colourItem-no at e = colourItem-off (colour s at) e

  -- ---- list 2

  -- the file ends after list 1
  pub after-end : (n at : ℕ) → at ≡ length s → verdict report (after (raw n s) s at) ≡ accepted (n, 1)
  unfolding after
  after-end n at e = rw (eq-eqb _ _ e) (ap (λ (k : ℕ). accepted (k, 1)) (length-map (raw n s) unnamed ∙ length-raw n s 4))

  after_more : (n at : ℕ) → (at ≡ length s → ⊥) → after (raw n s) s at ≡ second (raw n s) s at
  unfolding after
  after_more n at e = rw (ne_eqb _ _ e)

  sealed-by : (n at : ℕ) (m : Res Contents) → second (raw n s) s at ≡ m → verdict report m ≡ sealed n (done m)
  sealed-by n at (ok c q) e = second-lists s at (raw n s) e ∙ ap (λ (k : ℕ). accepted (k, 2)) (length-raw n s 4)
  sealed-by n at (refuse x p r f) e = refl

  module _ (n at : ℕ) (more : at ≡ length s → ⊥) where
    same_count : heading 2 (λ m. pick (eqb m (length (raw n s))) fine (fault 7 0 5)) s at ≡ heading 2 (second_count n) s at
    same_count = ap (λ (k : ℕ). heading 2 (second_count k) s at) (length-raw n s 4)

    second-no : {x p r f : ℕ} → heading 2 (λ m. pick (eqb m (length (raw n s))) fine (fault 7 0 5)) s at ≡ refuse x p r f → verdict report (second (raw n s) s at) ≡ refused x p r f
    unfolding second
    second-no h = rw h

    pub second-stop : {x p r f : ℕ} → heading 2 (second_count n) s at ≡ refuse x p r f → verdict report (after (raw n s) s at) ≡ refused x p r f
    second-stop e = ap (verdict report) (after_more n at more) ∙ second-no (same_count ∙ e)

    second-done : {m q : ℕ} → heading 2 (λ m. pick (eqb m (length (raw n s))) fine (fault 7 0 5)) s at ≡ ok m q
        → done (second (raw n s) s at) ≡ then (done (each (length (raw n s)) 0 (entry_of (raw n s)) s q)) (λ u p. end_at s p)
    unfolding second
    second-done {m} {q} e = rw e (done-const (each (length (raw n s)) 0 (entry_of (raw n s)) s q) _ _ (λ es p. ended-done (record { lists = 2; records = es }) s p))

    pub second-turn : {m q : ℕ} → heading 2 (second_count n) s at ≡ ok m q → verdict report (after (raw n s) s at) ≡ sealed n (entries_left n 0 s q)
    second-turn {m} {q} e =
        let k : length (raw n s) ≡ n - 0 = length-raw n s 4 ∙ sym (sub-zero n) in
        ap (verdict report) (after_more n at more) ∙ sealed-by n at (second (raw n s) s at) refl
        ∙ ap (sealed n) (second-done (same_count ∙ e) ∙ ap (λ (j : ℕ). then (done (each j 0 (entry_of (raw n s)) s q)) (λ u p. end_at s p)) k)

  -- ---- a record of list 2

  module _ (n i at : ℕ) (l : i < n) where
    abbrev col : Colour
    col = get_or (raw n s) i zero_colour

    entries_by : entries_left n i s at ≡ then (done (entry i col s at)) (λ u q. entries_left n (i + 1) s q)
    entries_by = ap (λ (m : Res Unit). then m (λ u q. end_at s q)) (each_turn (entry_of (raw n s)) s n i at l) ∙ go (done (entry i col s at))
      where
        go : (m : Res Unit) → then (then m (λ u q. done (each (n - (i + 1)) (i + 1) (entry_of (raw n s)) s q))) (λ u q. end_at s q) ≡ then m (λ u q. entries_left n (i + 1) s q)
        go (ok u q) = refl
        go (refuse x p r f) = refl

    -- the units, behind a count that is fine
    units-by : (b : Bool) (us : List ℕ) (a q e : ℕ) → q ≡ a + 4 → (c : Colour)
        → done {A = Entry} (then (then (pick b (ok us e) (refuse 2 q 0 0)) (λ us end. rule (unless (closed us) 8) a (ok (record { first = q; units = front us }) end))) (λ (nm : Name) end. ok (record { colour = c; name = nm }) end))
        ≡ pick b (rule (unless (closed_after false us) 8) a (ok tt e)) (refuse 2 (a + 4) 0 0)
    units-by true us a q e h c = go (closed us)
      where
        go : (t : Bool) → done {A = Entry} (then (rule (unless t 8) a (ok (record { first = q; units = front us }) e)) (λ (nm : Name) end. ok (record { colour = c; name = nm }) end)) ≡ rule (unless t 8) a (ok tt e)
        go true = refl
        go false = refl
    units-by false us a q e h c = ap (λ (k : ℕ). refuse 2 k 0 0) h

    entry-from : (vs : List ℕ) (a m q : ℕ) → each 5 0 (repeated_field i col) s at ≡ ok vs a → judged 4 (λ n. unless (ltb 0 n) 8) s a ≡ ok m q → q ≡ a + 4 → done (entry i col s at) ≡ units_left a m false s q
    unfolding entry name body
    entry-from vs a m q e f h = rw e (rw f (units-by (leb (m * 2) (length s - q)) (nums 2 m s q) a q (q + m * 2) h col))

    pub entryHead-turn : {m : ℕ} → entry_head i col s at ≡ ok m (at + 14) → (0 < m) × (entries_left n i s at ≡ then (units_left (at + 10) m false s (at + 14)) (λ u q. entries_left n (i + 1) s q))
    unfolding entry_head
    entryHead-turn {m} e =
        let t = then-inv (each 5 0 (repeated_field i col) s at) _ e in
        let j = judged-inv 4 s t.1 (λ n. unless (ltb 0 n) 8) t.3 in
        let a : t.1 ≡ at + 10 = omega arith in (
          ltb-true 0 m (unless-fine (ltb 0 m) 8 j.3),
          entries_by
              ∙ ap (λ (y : Res Unit). then y (λ u q. entries_left n (i + 1) s q)) (entry-from t.0 t.1 m (at + 14) t.2 t.3 (omega arith) ∙ ap (λ (k : ℕ). units_left k m false s (at + 14)) a),
        )

    entryHead-off : (m : Res (List ℕ)) (k : ℕ → Res ℕ) (l : ℕ → ℕ → ℕ → Res Name) {x p r f : ℕ} → then m (λ vs a. k a) ≡ refuse x p r f
        → done {A = Entry} (then m (λ vs a. then (then (k a) (λ n q. l a n q)) (λ nm end. ok (record { colour = col; name = nm }) end))) ≡ refuse x p r f
    entryHead-off (ok vs a) k l e = rw e
    entryHead-off (refuse x p r f) k l e = cc

    entry-off : {x p r f : ℕ} → entry_head i col s at ≡ refuse x p r f → done (entry i col s at) ≡ refuse x p r f
    unfolding entry_head entry name
    entry-off e = entryHead-off (each 5 0 (repeated_field i col) s at) (λ a. judged 4 (λ n. unless (ltb 0 n) 8) s a) (λ a n q. closed_units a n s q) e

    pub entryHead-stop : {x p r f : ℕ} → entry_head i col s at ≡ refuse x p r f → entries_left n i s at ≡ refuse x p r f
    entryHead-stop e = entries_by ∙ ap (λ (y : Res Unit). then y (λ u q. entries_left n (i + 1) s q)) (entry-off e)

  pub entries_over : (n at : ℕ) → entries_left n n s at ≡ end_at s at
  entries_over n at = ap (λ (y : Res Unit). then y (λ u q. end_at s q)) (each-end (entry_of (raw n s)) s n n at (omega arith))

  pub end-here : (at : ℕ) → at ≡ length s → end_at s at ≡ ok tt at
  end-here at e = rw (eq-eqb _ _ e)

  pub end_more : (at : ℕ) → (at ≡ length s → ⊥) → end_at s at ≡ refuse 6 at 0 0
  end_more at e = rw (ne_eqb _ _ e)

  -- ---- a unit of a name

  closed-more : (b : Bool) (z : Bool) (u : ℕ) (us : List ℕ) → eqb u 0 ≡ b → is_empty us ≡ false → closed_after z (u ∷ us) ≡ closed_after (pick b true z) us
  unfolding closed
  closed-more true true u us e h = refl
  closed-more false true u us e h = refl
  closed-more true false u us e h = rw e h
  closed-more false false u us e h = rw e

  empty-nums : (k at : ℕ) → is_empty (nums 2 (suc k) s at) ≡ false
  unfolding nums
  empty-nums k at = refl

  module _ (at m : ℕ) (z : Bool) (from : ℕ) where
    pub units_short : length s - from < 2 → 0 < m → units_left at m z s from ≡ refuse 2 (at + 4) 0 0
    units_short h l = rw (lt-leb (m * 2) (length s - from) (omega arith))

    pub units-turn : (b : Bool) → 1 < m → 2 ≤ length s - from → eqb (num 2 s from) 0 ≡ b → units_left at m z s from ≡ units_left at (m - 1) (pick b true z) s (from + 2)
    unfolding nums
    units-turn b l h e = ap (λ (k : ℕ). units_left at k z s from) y ∙ go (leb (suc (suc k) * 2) (length s - from)) refl ∙ ap (λ (k : ℕ). units_left at k (pick b true z) s (from + 2)) (sym y1)
      where
        k : ℕ
        k = m - 2

        y : m ≡ suc (suc k)
        y = omega arith

        y1 : m - 1 ≡ suc k
        y1 = omega arith

        open_up : closed_after z (nums 2 (suc (suc k)) s from) ≡ closed_after (pick b true z) (nums 2 (suc k) s (from + 2))
        open_up = closed-more b z (num 2 s from) (nums 2 (suc k) s (from + 2)) e (empty-nums k (from + 2))

        go : (t : Bool) → leb (suc (suc k) * 2) (length s - from) ≡ t → units_left at (suc (suc k)) z s from ≡ units_left at (suc k) (pick b true z) s (from + 2)
        go true f =
            let g = leb-true (suc (suc k) * 2) (length s - from) f in
            let q : from + suc (suc k) * 2 ≡ from + 2 + suc k * 2 = omega arith in
            ap (λ (t : Bool). pick t (rule (unless (closed_after z (nums 2 (suc (suc k)) s from)) 8) at (ok tt (from + suc (suc k) * 2))) (refuse 2 (at + 4) 0 0)) f
            ∙ ap₂ (λ (c : Bool) (p : ℕ). rule (unless c 8) at (ok tt p)) open_up q
            ∙ sym (ap (λ (t : Bool). pick t (rule (unless (closed_after (pick b true z) (nums 2 (suc k) s (from + 2))) 8) at (ok tt (from + 2 + suc k * 2))) (refuse 2 (at + 4) 0 0)) (le-leb (suc k * 2) (length s - (from + 2)) (omega arith)))
        go false f =
            let g = leb-false (suc (suc k) * 2) (length s - from) f in
            ap (λ (t : Bool). pick t (rule (unless (closed_after z (nums 2 (suc (suc k)) s from)) 8) at (ok tt (from + suc (suc k) * 2))) (refuse 2 (at + 4) 0 0)) f
            ∙ sym (ap (λ (t : Bool). pick t (rule (unless (closed_after (pick b true z) (nums 2 (suc k) s (from + 2))) 8) at (ok tt (from + 2 + suc k * 2))) (refuse 2 (at + 4) 0 0)) (lt-leb (suc k * 2) (length s - (from + 2)) (omega arith)))

    last-closed : (b : Bool) (y : Bool) → eqb (num 2 s from) 0 ≡ b → closed_after y (nums 2 1 s from) ≡ pick y false b
    unfolding nums closed
    last-closed true true e = refl
    last-closed false true e = refl
    last-closed true false e = rw e
    last-closed false false e = rw e

    pub units-last : (b : Bool) → 2 ≤ length s - from → eqb (num 2 s from) 0 ≡ b → units_left at 1 z s from ≡ rule (unless (pick z false b) 8) at (ok tt (from + 2))
    units-last b h e = rw (le-leb (1 * 2) (length s - from) (omega arith)) (ap (λ (c : Bool). rule (unless c 8) at (ok tt (from + 2))) (last-closed b z e))
