-- What reading answers in single turns, whatever stands behind them: a number and a place. Assumes nothing.
-- Few imports, and first by its name: a turn that is changed in the reading is refused here, and by nothing before it.
use Prim.Native.Nat.{ℕ, ◌+◌, ◌*◌, ◌^◌, ◌<◌}
use mathlib.Core.Path.{◌≡◌, refl, sym, ap, ◌∙◌, subst, subst₂}
use mathlib.Core.List.{List, [], ◌∷◌, ◌++◌, map}
use mathlib.Core.Bool.{false}
use lib.ListN.{length, get_or, take}
use lib.Seq.{length-take-le, get_or-take}
use borrow.Author.Tests.{eq-eqb, ne_eqb}
use native.Mathlib.Omega.{arith}
use native.Mathlib.Nat.{zero-add}
use Rattle.algebra.specs.Numbers.{be, joined, At, Bytes, All}
use Rattle.algebra.specs.Reader.{ok, refuse, Judged, fine, each}
use Rattle.algebra.specs.Cut.{not_whole, Stub}
use Rattle.algebra.proofs.Laws.{ended-left}
use Rattle.algebra.proofs.Places.{length-bes}
use Rattle.algebra.proofs.Exact.{all-at, all-by, judged-exact}
use Rattle.algebra.proofs.Cuts.{judged-then-cut, judged-cuts}
use Rattle.algebra.proofs.Stops.{judged-refuses, each-stops}
use Rattle.algebra.proofs.Tails.{Tail, tail-left, tail-after, judged-wrong, judged-cut}
use Rattle.colour.specs.declared.space.Colour.{Colour}
use Rattle.colour.specs.Spaces.{known}
use Rattle.aco.specs.Reading.{space, colour, version, heading, field_of, compared, repeated_field, Entry, entry, zero_colour, second_count, second, unnamed, after}
use Rattle.aco.proofs.Fine.{version-fine, compared-fine}

-- a heading that is cut: 2 at the version, or at the count
pub heading-cut : (s : List ℕ) → Bytes s → (v : ℕ) → v < 256 ^ 2 → (count : ℕ → Judged) (at n : ℕ) → Stub s at (be 2 v ++ be 2 n) → heading v count s at ≡ refuse 2 (not_whole (2 ∷ 2 ∷ []) at (length s)) 0 0
unfolding heading
heading-cut s bytes v small count at n h = judged-then-cut s bytes 2 _ at v (be 2 n) (2 ∷ []) small ((judged-cuts s 2 {Ok = λ v. Unit} count).cut (at + length (be 2 v)) n tt) (version v) (version-fine v) h

-- an unknown space: 4, before its samples are looked for
pub unknown-space-first : (s : List ℕ) (at x : ℕ) → x < 256 ^ 2 → known x ≡ false → At s at (be 2 x) → colour s at ≡ refuse 4 at 0 0
unfolding colour
unknown-space-first s at x small none h = rw (judged-wrong s 2 at space 4 x small (rw none) h)

-- record i, where list 1's colour is c
module _ (s : List ℕ) (bytes : Bytes s) (i : ℕ) (c : Colour) (five : length (c.space ∷ c.samples) ≡ 5) (small : All (λ k v. v < 256 ^ 2) 0 (c.space ∷ c.samples)) (at : ℕ) where
  abbrev fields : List ℕ
  fields = c.space ∷ c.samples

  -- f fields that are c's, and then one that is refused
  fields-stop : (f : ℕ) (l : List ℕ) → f < 5 → Tail s at (joined (be 2) (take f fields) ++ l) → (z r g : ℕ)
      → (Tail s (at + 2 * f) l → repeated_field i c f s (at + 2 * f) ≡ refuse z (at + 2 * f) r g) → entry i c s at ≡ refuse z (at + 2 * f) r g
  unfolding entry
  fields-stop f l h t z r g stop =
      let y : List ℕ = take f fields in
      let ly : length y ≡ f = length-take-le f fields (omega arith) in
      let Twin : ℕ → ℕ → Type 0 = λ f v. (v < 256 ^ 2) × (compared i c f v ≡ fine) in
      let fit : All Twin 0 y =
      all-by Twin 0 0 y (λ k b.
      let e : get_or y k 0 ≡ get_or fields k 0 = get_or-take f fields k 0 (omega arith) in
      let sm : get_or fields k 0 < 256 ^ 2 = all-at (λ k v. v < 256 ^ 2) 0 0 fields small k (omega arith) in
      (subst (λ (n : ℕ). n < 256 ^ 2) (sym e) sm, compared-fine i c (0 + k) (get_or y k 0) (e ∙ ap (λ (n : ℕ). get_or fields n 0) (sym (zero-add k))))) in
      let len : at + length (joined (be 2) y) ≡ at + 2 * f = omega (arith, length-bes 2 y) in
      let e : each 5 0 (repeated_field i c) s at ≡ refuse z (at + 2 * f) r g =
      each-stops {p = repeated_field i c} {Ok = Twin} (λ f. judged-exact s bytes 2 (compared i c f)) 5 0 at y (omega arith) fit (tail-left s at (joined (be 2) y) l t)
      (subst₂ (λ (k m : ℕ). repeated_field i c k s m ≡ refuse z (at + 2 * f) r g) (sym (zero-add (length y) ∙ ly)) (sym len) (stop (tail-after s at (joined (be 2) y) l (at + 2 * f) len t))) in
      rw e

  pub field-cut-first : (f : ℕ) (l : List ℕ) → f < 5 → length l < 2 → Tail s at (joined (be 2) (take f fields) ++ l) → entry i c s at ≡ refuse 2 (at + 2 * f) 0 0
  field-cut-first f l h few t = fields-stop f l h t 2 0 0 (judged-cut s 2 (at + 2 * f) (compared i c f) few)

  -- any other number than c's: 7, before anything behind it is looked for
  pub difference-first : (f v : ℕ) (l : List ℕ) → f < 5 → v < 256 ^ 2 → (v ≡ field_of c f → ⊥) → Tail s at (joined (be 2) (take f fields) ++ (be 2 v ++ l)) → entry i c s at ≡ refuse 7 (at + 2 * f) i f
  difference-first f v l h fits ne t =
      fields-stop f (be 2 v ++ l) h t 7 i f (λ u. judged-refuses s bytes 2 (compared i c f) (at + 2 * f) v 7 i f fits (tail-left s (at + 2 * f) (be 2 v) l u) (rw (ne_eqb v (field_of c f) ne)))

-- a file that ends behind list 1: one list, whose colours have no names
pub one-list-ends : (s : List ℕ) (cs : List Colour) → after cs s (length s) ≡ ok (record { lists = 1; records = map unnamed cs }) (length s)
unfolding after
one-list-ends s cs = simp (eq-eqb (length s) (length s) refl)

-- list 2 behind its heading
module _ (s : List ℕ) (cs : List Colour) (at n r : ℕ) (head : heading 2 (second_count (length cs)) s at ≡ ok n r) where
  -- its records in turn, each with its name: what the first that is refused gets
  pub record-first : {z p i f : ℕ} → each (length cs) 0 (λ i. entry i (get_or cs i zero_colour)) s r ≡ refuse z p i f → second cs s at ≡ refuse z p i f
  unfolding second
  record-first e = rw head (rw e)

  -- bytes behind them: 6 where they begin
  pub left-over-last : (es : List Entry) (q : ℕ) → each (length cs) 0 (λ i. entry i (get_or cs i zero_colour)) s r ≡ ok es q → q < length s → second cs s at ≡ refuse 6 q 0 0
  unfolding second
  left-over-last es q e more = rw head (rw e (ended-left (record { lists = 2; records = es }) s q more))
