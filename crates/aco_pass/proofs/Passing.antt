-- Colours, records and units taken at once are the same taken one after the other. Assumes nothing.
use Prim.Native.Nat.{ℕ, zero, suc, ◌+◌, ◌*◌, ◌-◌, ◌≤◌, ◌<◌}
use mathlib.Core.Path.{◌≡◌, refl, sym, ap, ap₂, ◌∙◌, subst}
use mathlib.Core.List.{List, [], ◌++◌}
use mathlib.Core.Bool.{Bool, true, false, not}
use lib.Dec.{eqb}
use lib.ListN.{length, take, drop, length-append}
use lib.Seq.{drop-drop, take-add}
use borrow.Author.Tests.{lt-ltb}
use native.Mathlib.Omega.{arith}
use native.Mathlib.Numerals.{add-one}
use Rattle.algebra.specs.Numbers.{num, nums}
use Rattle.algebra.specs.Text.{text, any_zero}
use Rattle.algebra.specs.Reader.{Res, pick, rule, unless, done, ok, refuse, field, or_zero, limit}
use Rattle.algebra.proofs.Inverse.{clash}
use Rattle.algebra.proofs.Laws.{field_in, body-in}
use Rattle.algebra.specs.Store.{part, stored}
use Rattle.algebra.proofs.Stores.{length-stored, stored-append}
use Rattle.algebra.proofs.Places.{length_part}
use Rattle.aco_chunks.specs.declared.Stage.{Stage}
use Rattle.aco_chunks.specs.declared.Stage.TheVariants as v
use Rattle.aco_chunks.specs.Chunks.{colour_item, colours, entries, after, kept, unit_done}
use Rattle.aco_pass.specs.scaffold.Parts.{Rest, Passes, Sounds, is_accepted, Closed, Headed}
use Rattle.aco_items.proofs.Steps.{entries-left, entries_over, last-closes}
use Rattle.aco_pass.proofs.Turns.{turn-item, one-turn, units-turn}

-- ---- colours without a fault

pub is_ok : (m : Res ℕ) {u q : ℕ} → m ≡ ok u q → is_accepted m ≡ true
is_ok m e = ap is_accepted e

pub sounds-more : (k : ℕ) (bytes : List ℕ) (at p : ℕ) → p ≡ at + 10 * k → Sounds k bytes at → is_accepted (colour_item (part bytes p 10) 0) ≡ true → Sounds (k + 1) bytes at
sounds-more k bytes at p e h o = subst (λ (n : ℕ). Sounds n bytes at) (sym (add-one k)) (go k at e h)
  where
    go : (k at : ℕ) → p ≡ at + 10 * k → Sounds k bytes at → Sounds (suc k) bytes at
    go zero at e h = let q : p ≡ at = omega arith in (subst (λ (x : ℕ). is_accepted (colour_item (part bytes x 10) 0) ≡ true) q o, tt)
    go (suc k) at e h = (h.0, go k (at + 10) (omega arith) h.1)

-- ---- the turn of one, and of several

part_join : (bytes : List ℕ) (at a b : ℕ) → at + a + b ≤ length bytes → part bytes at a ++ part bytes (at + a) b ≡ part bytes at (a + b)
part_join bytes at a b l = ap (λ (x : List ℕ). take a (drop at bytes) ++ take b x) (sym (drop-drop a at bytes)) ∙ sym (take-add a b (drop at bytes))

module _ (start : ℕ) (bytes : List ℕ) (fits : start + length bytes ≤ limit) (n : ℕ) where
  colour-turn : (i at : ℕ) (store : List ℕ) → at + 10 ≤ length bytes → is_accepted (colour_item (part bytes at 10) 0) ≡ true
      → Rest (v.Colour n i) (start + at) [] store at bytes ≡ Rest (colours n (i + 1)) (start + (at + 10)) [] (stored store (10 * i) (part bytes at 10)) (at + 10) bytes
  colour-turn i at store h o =
      turn-item (Rest (v.Colour n i) (start + at) [] store at bytes) (v.Colour n i) start [] store at bytes refl fits (omega arith) refl refl (at + 10) refl h (omega arith) (part bytes at 10) refl
      ∙ go (colour_item (part bytes at 10) 0) o
    where
      go : (m : Res ℕ) → is_accepted m ≡ true → Rest (after (v.Colour n i) (start + at) m) (start + (at + 10)) [] (kept (v.Colour n i) m (part bytes at 10) store) (at + 10) bytes ≡ Rest (colours n (i + 1)) (start + (at + 10)) [] (stored store (10 * i) (part bytes at 10)) (at + 10) bytes
      go (ok u q) o = refl
      go (refuse x p r f) o = let z : ◌≡◌ {A = ℕ} 0 1 = cc in absurd (omega arith)

  colours-turn : (k i at : ℕ) (store : List ℕ) → i + suc k ≤ n → Sounds (suc k) bytes at → at + 10 * suc k ≤ length bytes → 10 * i + 10 * suc k ≤ length store
      → Rest (v.Colour n i) (start + at) [] store at bytes ≡ Rest (colours n (i + suc k)) (start + (at + 10 * suc k)) [] (stored store (10 * i) (part bytes at (10 * suc k))) (at + 10 * suc k) bytes
  colours-turn zero i at store l s h r = colour-turn i at store (omega arith) s.0
  colours-turn (suc k) i at store l s h r =
      let b = part bytes at 10 in
      let d = part bytes (at + 10) (10 * suc k) in
      let nb : length (part bytes at 10) ≡ 10 = length_part bytes at 10 (omega arith) in
      let nd : length (part bytes (at + 10) (10 * suc k)) ≡ 10 * suc k = length_part bytes (at + 10) (10 * suc k) (omega arith) in
      let nj = length-append (part bytes at 10) (part bytes (at + 10) (10 * suc k)) in
      let j = part_join bytes at 10 (10 * suc k) (omega arith) in
      let t : 10 + 10 * suc k ≡ 10 * suc (suc k) = omega arith in
      let w : at + 10 + 10 * suc k ≡ at + 10 * suc (suc k) = omega arith in
      let x : i + 1 + suc k ≡ i + suc (suc k) = omega arith in
      let y : 10 * i + length (part bytes at 10) ≡ 10 * (i + 1) = omega arith in
      let st : stored (stored store (10 * i) b) (10 * (i + 1)) d ≡ stored store (10 * i) (part bytes at (10 * suc (suc k))) = sym (stored-append store (10 * i) (part bytes at 10) (part bytes (at + 10) (10 * suc k)) (10 * (i + 1)) (omega arith) y) ∙ ap (stored store (10 * i)) (j ∙ ap (part bytes at) t) in
      colour-turn i at store (omega arith) s.0
      ∙ ap (λ (c : Bool). Rest (pick c (v.Colour n (i + 1)) (v.Second n)) (start + (at + 10)) [] (stored store (10 * i) b) (at + 10) bytes) (lt-ltb (i + 1) n (omega arith))
      ∙ colours-turn k (i + 1) (at + 10) (stored store (10 * i) b) (omega arith) s.1 (omega arith) (let z = length-stored store (10 * i) (part bytes at 10) in omega arith)
      ∙ ap₂ (λ (g : ℕ) (e : ℕ). Rest (colours n g) (start + e) [] (stored (stored store (10 * i) b) (10 * (i + 1)) d) e bytes) x w
      ∙ ap (λ (o : List ℕ). Rest (colours n (i + suc (suc k))) (start + (at + 10 * suc (suc k))) [] o (at + 10 * suc (suc k)) bytes) st

-- as they are passed
pub passes-colours : (start : ℕ) (bytes : List ℕ) (n i at : ℕ) (store : List ℕ) → start + length bytes ≤ limit → (k : ℕ) → 0 < k → Sounds k bytes at → i + k ≤ n → 10 * i + 10 * k ≤ length store → (e : ℕ) → e ≡ at + 10 * k → e ≤ length bytes
    → (h : Stage) → h ≡ colours n (i + k) → (after : List ℕ) → after ≡ stored store (10 * i) (part bytes at (10 * k)) → Passes start bytes (v.Colour n i) at store h e after
passes-colours start bytes n i at store fits (suc k) s o l r e q w h p after u = record {
  behind = omega arith;
  inside = w;
  keeps = ap length u ∙ length-stored store (10 * i) (part bytes at (10 * suc k));
  sound = λ x. absurd (omega arith);
  comes =
      colours-turn start bytes fits n k i at store l o (omega arith) r
      ∙ ap (λ (y : ℕ). Rest (colours n (i + suc k)) (start + y) [] (stored store (10 * i) (part bytes at (10 * suc k))) y bytes) (sym q)
      ∙ ap₂ (λ (g : Stage) (o : List ℕ). Rest g (start + e) [] o e bytes) (sym p) (sym u);
}
passes-colours start bytes n i at store fits zero s o l r e q w h p after u = absurd (omega arith)

-- ---- a record of list 2

pub pos : {m : ℕ} → (m ≡ 0 → ⊥) → 0 < m
pos h = omega arith

pub closes : (m : ℕ) (bytes : List ℕ) (at q : ℕ) → 0 < m → q ≡ at + m * 2 → at + m * 2 ≤ length bytes → any_zero (nums 2 (m - 1) bytes at) ≡ false → or_zero (field 2 bytes (at + (m - 1) * 2)) ≡ 0 → Closed m bytes at q
closes m bytes at q o e w n l =
    let f : field 2 bytes (at + (m - 1) * 2) ≡ ok (num 2 bytes (at + (m - 1) * 2)) (at + (m - 1) * 2 + 2) = field_in 2 bytes (at + (m - 1) * 2) (omega (arith, o, w)) in
    record { some = o; ends = e; inside = omega (arith, e, w); none = n; last = sym (ap or_zero f) ∙ l }

module _ (start : ℕ) (store bytes : List ℕ) (fits : start + length bytes ≤ limit) (n i : ℕ) where
  -- its name's last unit
  last_turn : (p at : ℕ) (z : Bool) → z ≡ false → at + 2 ≤ length bytes → num 2 bytes at ≡ 0 → Rest (v.Unit n i p 1 z) (start + at) [] store at bytes ≡ Rest (entries n (i + 1)) (start + (at + 2)) [] store (at + 2) bytes
  last_turn p at z y h o =
      one-turn start store bytes fits n i p 1 z at (num 2 bytes at) refl h
      ∙ ap (λ (g : Stage). Rest g (start + (at + 2)) [] store (at + 2) bytes) (sym (last-closes n i p 1 z (num 2 bytes at) refl o y))

  -- its name
  name-turn : (p m at q : ℕ) → Closed m bytes at q → Rest (v.Unit n i p m false) (start + at) [] store at bytes ≡ Rest (entries n (i + 1)) (start + q) [] store q bytes
  name-turn p m at q k =
      let o = k.some in
      let e = k.ends in
      let w = k.inside in
      let z = any_zero (nums 2 (m - 1) bytes at) in
      let j : m - (m - 1) ≡ 1 = omega (arith, o) in
      let t : at + (m - 1) * 2 + 2 ≡ q = omega (arith, o, e) in
      units-turn start store bytes fits n i p (m - 1) m false at (omega arith) (omega (arith, o, e, w))
      ∙ ap (λ (x : ℕ). Rest (v.Unit n i p x (pick (any_zero (nums 2 (m - 1) bytes at)) true false)) (start + (at + (m - 1) * 2)) [] store (at + (m - 1) * 2) bytes) j
      ∙ last_turn p (at + (m - 1) * 2) (pick (any_zero (nums 2 (m - 1) bytes at)) true false) (ap (λ (b : Bool). pick b true false) k.none) (omega (arith, o, e, w)) k.last
      ∙ ap (λ (x : ℕ). Rest (entries n (i + 1)) (start + x) [] store x bytes) t

  -- its head
  head-turn : (m at : ℕ) → Headed i store bytes at m → Rest (v.Entry n i) (start + at) [] store at bytes ≡ Rest (v.Unit n i (start + at + 10) m false) (start + (at + 14)) [] store (at + 14) bytes
  head-turn m at r =
      turn-item (Rest (v.Entry n i) (start + at) [] store at bytes) (v.Entry n i) start [] store at bytes refl fits (omega (arith, r.0)) refl refl (at + 14) refl r.0 (omega arith) (part bytes at 14) refl
      ∙ ap (λ (x : Res ℕ). Rest (after (v.Entry n i) (start + at) x) (start + (at + 14)) [] store (at + 14) bytes) r.1

  record-turn : (m at q : ℕ) → Headed i store bytes at m → Closed m bytes (at + 14) q → Rest (v.Entry n i) (start + at) [] store at bytes ≡ Rest (entries n (i + 1)) (start + q) [] store q bytes
  record-turn m at q r k = head-turn m at r ∙ name-turn (start + at + 10) m (at + 14) q k

-- records before the i-th are passed
pub record Recorded (start : ℕ) (bytes : List ℕ) (n i₀ at : ℕ) (store : List ℕ) (i p : ℕ) : Type 0 where
  pub below : i₀ < n
  pub some : i ≤ n
  pub behind : at ≤ p
  pub inside : p ≤ length bytes
  pub comes : Rest (v.Entry n i₀) (start + at) [] store at bytes ≡ Rest (entries n i) (start + p) [] store p bytes

pub recorded-none : (start : ℕ) (bytes : List ℕ) (n i at : ℕ) (store : List ℕ) → i < n → at ≤ length bytes → Recorded start bytes n i at store i at
recorded-none start bytes n i at store l h = record { below = l; some = omega arith; behind = omega arith; inside = h; comes = ap (λ (g : Stage). Rest g (start + at) [] store at bytes) (entries-left n i l) }

module _ {start : ℕ} {bytes : List ℕ} {n i₀ at : ℕ} {store : List ℕ} {i p : ℕ} (fits : start + length bytes ≤ limit) (r : Recorded start bytes n i₀ at store i p) where
  here : i < n → Rest (v.Entry n i₀) (start + at) [] store at bytes ≡ Rest (v.Entry n i) (start + p) [] store p bytes
  here l = r.comes ∙ sym (ap (λ (g : Stage). Rest g (start + p) [] store p bytes) (entries-left n i l))

  pub recorded_more : (m q : ℕ) → i < n → Headed i store bytes p m → Closed m bytes (p + 14) q → Recorded start bytes n i₀ at store (i + 1) q
  recorded_more m q l h k = record { below = r.below; some = omega arith; behind = omega (arith, r.behind, k.ends); inside = k.inside; comes = here l ∙ record-turn start store bytes fits n i m p q h k }

  -- up to a record that is not passed
  pub passes-records : i < n → Passes start bytes (v.Entry n i₀) at store (v.Entry n i) p store
  passes-records l = record { behind = r.behind; inside = r.inside; keeps = refl; sound = λ e. refl; comes = here l }

  -- up to a name that is not passed
  pub passes-head : (m place body : ℕ) → i < n → Headed i store bytes p m → place ≡ start + p + 10 → body ≡ p + 14 → Passes start bytes (v.Entry n i₀) at store (v.Unit n i place m false) body store
  passes-head m place body l h e b = record {
    behind = omega (arith, r.behind, b);
    inside = omega (arith, h.0, b);
    keeps = refl;
    sound = λ e. refl;
    comes =
        here l ∙ head-turn start store bytes fits n i m p h
        ∙ ap₂ (λ (x y : ℕ). Rest (v.Unit n i x m false) (start + y) [] store y bytes) (sym e) (sym b);
  }

  -- all of them
  pub passes-all : n ≤ i → Passes start bytes (v.Entry n i₀) at store (v.End n) p store
  passes-all l = record { behind = r.behind; inside = r.inside; keeps = refl; sound = λ e. refl; comes = r.comes ∙ sym (ap (λ (g : Stage). Rest g (start + p) [] store p bytes) (entries_over n i l)) }

-- ---- units

-- without a zero, or with one
module _ (s : List ℕ) (at k : ℕ) (inside : at + k * 2 ≤ length s) where
  text-by : done (text k s at) ≡ done (rule (unless (not (any_zero (nums 2 k s at))) 8) at (ok (nums 2 k s at) (at + k * 2)))
  unfolding text
  text-by = rw (body-in 2 s at k (omega arith))

  pub none-zero : {q : ℕ} → ok tt q ≡ done (text k s at) → false ≡ any_zero (nums 2 k s at)
  none-zero {q} e = go (any_zero (nums 2 k s at)) (e ∙ text-by)
    where
      go : (b : Bool) → ok tt q ≡ done (rule (unless (not b) 8) at (ok (nums 2 k s at) (at + k * 2))) → false ≡ b
      go true h = clash (sym h)
      go false h = refl

  pub some-zero : {x p r f : ℕ} → refuse x p r f ≡ done (text k s at) → true ≡ any_zero (nums 2 k s at)
  some-zero {x} {p} {r} {f} e = go (any_zero (nums 2 k s at)) (e ∙ text-by)
    where
      go : (b : Bool) → refuse x p r f ≡ done (rule (unless (not b) 8) at (ok (nums 2 k s at) (at + k * 2))) → true ≡ b
      go true h = refl
      go false h = clash h

module _ (start : ℕ) (bytes : List ℕ) (n i p m : ℕ) (z : Bool) (at : ℕ) (store : List ℕ) (fits : start + length bytes ≤ limit) (k : ℕ) (few : k ≤ m - 1) (f : Bool) (found : f ≡ pick (any_zero (nums 2 k bytes at)) true z) (e : ℕ) (ends : e ≡ at + 2 * k) (more : ℕ) (left : more ≡ m - k) where
  units-so-far : e ≤ length bytes → Rest (v.Unit n i p m z) (start + at) [] store at bytes ≡ Rest (v.Unit n i p more f) (start + e) [] store e bytes
  units-so-far l =
      let q : at + k * 2 ≡ e = omega (arith, ends) in
      units-turn start store bytes fits n i p k m z at few (omega (arith, ends, l))
      ∙ ap₂ (λ (x : ℕ) (b : Bool). Rest (v.Unit n i p x b) (start + (at + k * 2)) [] store (at + k * 2) bytes) (sym left) (sym found)
      ∙ ap (λ (y : ℕ). Rest (v.Unit n i p more f) (start + y) [] store y bytes) q

  -- all but the last, or as many as there are
  pub passes-units : e ≤ length bytes → Passes start bytes (v.Unit n i p m z) at store (v.Unit n i p more f) e store
  passes-units l = record { behind = omega (arith, ends); inside = l; keeps = refl; sound = λ e. refl; comes = units-so-far l }

  -- with the last
  pub passes-name : more ≡ 1 → e + 2 ≤ length bytes → (u : ℕ) → u ≡ or_zero (field 2 bytes e) → (h : Stage) → h ≡ unit_done n i p 1 f (eqb u 0) → Passes start bytes (v.Unit n i p m z) at store h (e + 2) store
  passes-name o l u y h w =
      let q : u ≡ num 2 bytes e = y ∙ ap or_zero (field_in 2 bytes e (omega arith)) in
      record {
        behind = omega (arith, ends);
        inside = l;
        keeps = refl;
        sound = λ x. absurd (omega (arith, ends, x));
        comes =
            units-so-far (omega arith)
            ∙ ap (λ (x : ℕ). Rest (v.Unit n i p x f) (start + e) [] store e bytes) o
            ∙ one-turn start store bytes fits n i p 1 f e u q l
            ∙ ap (λ (g : Stage). Rest g (start + (e + 2)) [] store (e + 2) bytes) (sym w);
      }
