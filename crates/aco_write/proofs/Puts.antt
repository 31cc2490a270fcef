-- Stores one after the other, on plain values. Assumes nothing.
use Rattle.algebra.proofs.Counted.{counted-end, counted_start, counted-turn, length-counted}
use Prim.Native.Nat.{ℕ, zero, suc, ◌+◌, ◌*◌, ◌-◌, ◌/◌, ◌%◌, ◌≤◌, ◌<◌}
use mathlib.Core.Path.{◌≡◌, refl, sym, ap, ap₂, ◌∙◌}
use mathlib.Core.List.{List, [], ◌∷◌, ◌++◌, map, append_assoc, append-nil}
use lib.ListN.{length, get_or, take, drop, length-append, drop_of_length-le}
use lib.Seq.{sets, sets-eq}
use borrow.Author.Tests.{ne_eqb}
use borrow.Rule.Slice.PartMut.{put_mid, Post-is}
use native.Mathlib.Omega.{arith}
use native.Mathlib.Decide.{ℕ_discrete}
use native.Mathlib.Numerals.{unary_clauses}
use Rattle.algebra.specs.Numbers.{counted, be, nums, joined, Bytes}
use Rattle.algebra.specs.Store.{stored, part}
use Rattle.algebra.specs.Text.{name_bytes, counted_units}
use Rattle.algebra.proofs.Stores.{length-stored}
use Rattle.algebra.proofs.Places.{length-be, length-nums, length_part, part-nums}
use Rattle.algebra.proofs.Exact.{length-map, length-nameBytes}
use Rattle.colour.specs.declared.space.Colour.{Colour}
use Rattle.aco.specs.Grammar.{Swatch, colour_bytes, entry_bytes, list_one, list_two, two_lists}
use Rattle.aco.proofs.Whole.{length-colour}
use Rattle.algebra.specs.Table.{rows}
use Rattle.aco.specs.Row.{RecordRow, width, taken}
use Rattle.aco.proofs.Row.{four}
use Rattle.aco_writing.specs.Writing.{swatch_in, sizes, size}
use Rattle.aco_write_judge.specs.scaffold.Parts.{name_fault, colour_in, plain, start}
use Rattle.aco_write_judge.proofs.Judging.{given_at, name-inside}
use Rattle.algebra.proofs.Storing.{as-sets, peel}
use Rattle.algebra.specs.Writing.{Outcome, refused, needs, writes}
use Rattle.algebra.proofs.Writing.{writes-no}
use Rattle.std.specs.Prelude.{Result}
use Rattle.std.specs.Result.{IsErrAnd}
use Rattle.fault.specs.Fault.{number_of}
use Rattle.fault.specs.Answer.{told_written}
use Rattle.fault.specs.declared.Fault.{Fault}
use Rattle.fault.proofs.Exit.{written-exit}

-- ---- one store

-- a store over the whole of a part, when the part is back
pub put-part : (out o : List ℕ) (at e : ℕ) (l : List ℕ) → at ≤ e → e ≤ length out → length l ≡ e - at → o ≡ sets (part out at (e - at)) 0 l → put_mid at (e - at) out o ≡ sets out at l
put-part out o at e l h k n w =
    let m : length (part out at (e - at)) ≡ e - at = length_part out at (e - at) (omega arith) in
    let z : length (part out at (e - at)) ≤ 0 + length l = omega arith in
    let i : o ≡ l = w ∙ sets-eq l (part out at (e - at)) 0 (omega arith) ∙ ap (λ (r : List ℕ). l ++ r) (drop_of_length-le (part out at (e - at)) z) ∙ append-nil l in
    let q : e ≡ at + length l = omega arith in
    ap₂ (λ (x y : List ℕ). take at out ++ (x ++ y)) i (Post-is at e out h) ∙ ap (λ (j : ℕ). take at out ++ (l ++ drop j out)) q
    ∙ sym (append_assoc (take at out) l (drop (at + length l) out)) ∙ sym (sets-eq l out at (omega arith))

-- ---- a colour

five : (o₀ o₁ o₂ o₃ o₄ o₅ : List ℕ) (at a b c d e : ℕ) → o₁ ≡ sets o₀ at (be 2 a) → o₂ ≡ sets o₁ (at + 2) (be 2 b) → o₃ ≡ sets o₂ (at + 4) (be 2 c)
    → o₄ ≡ sets o₃ (at + 6) (be 2 d) → o₅ ≡ sets o₄ (at + 8) (be 2 e) → o₅ ≡ sets o₀ at (be 2 a ++ joined (be 2) (b ∷ c ∷ d ∷ e ∷ []))
unfolding be joined
five o₀ o₁ o₂ o₃ o₄ o₅ at a b c d e e₁ e₂ e₃ e₄ e₅ = rw (e₅, e₄, e₃, e₂, e₁) (simp unary_clauses)

-- five numbers of two bytes
pub put_five : (o₀ o₁ o₂ o₃ o₄ o₅ : List ℕ) (at : ℕ) (c : Colour) → length c.samples ≡ 4 → at + 10 ≤ length o₀ → o₁ ≡ stored o₀ at (be 2 c.space)
    → o₂ ≡ stored o₁ (at + 2) (be 2 (get_or c.samples 0 0)) → o₃ ≡ stored o₂ (at + 4) (be 2 (get_or c.samples 1 0))
    → o₄ ≡ stored o₃ (at + 6) (be 2 (get_or c.samples 2 0)) → o₅ ≡ stored o₄ (at + 8) (be 2 (get_or c.samples 3 0)) → o₅ ≡ sets o₀ at (colour_bytes (plain c))
unfolding colour_bytes
put_five o₀ o₁ o₂ o₃ o₄ o₅ at c l h e₁ e₂ e₃ e₄ e₅ =
    let l₁ : length o₁ ≡ length o₀ = ap length e₁ ∙ length-stored o₀ at _ in
    let l₂ : length o₂ ≡ length o₁ = ap length e₂ ∙ length-stored o₁ (at + 2) _ in
    let l₃ : length o₃ ≡ length o₂ = ap length e₃ ∙ length-stored o₂ (at + 4) _ in
    let l₄ : length o₄ ≡ length o₃ = ap length e₄ ∙ length-stored o₃ (at + 6) _ in
    five o₀ o₁ o₂ o₃ o₄ o₅ at _ _ _ _ _ (as-sets o₁ o₀ at _ 2 e₁ (length-be 2 _) (omega arith)) (as-sets o₂ o₁ (at + 2) _ 2 e₂ (length-be 2 _) (omega arith))
    (as-sets o₃ o₂ (at + 4) _ 2 e₃ (length-be 2 _) (omega arith)) (as-sets o₄ o₃ (at + 6) _ 2 e₄ (length-be 2 _) (omega arith))
    (as-sets o₅ o₄ (at + 8) _ 2 e₅ (length-be 2 _) (omega arith))
    ∙ ap (λ (s : List ℕ). sets o₀ at (be 2 c.space ++ joined (be 2) s)) (sym (four c.samples l))

-- two bytes have only the low 16 bits of a number
low-be : (v : ℕ) → be 2 (v % 65536) ≡ be 2 v
unfolding be
low-be v =
    let p : v % 65536 / 256 % 256 ≡ v / 256 % 256 = omega arith in
    let q : v % 65536 % 256 ≡ v % 256 = omega arith in
    ap₂ (λ (x y : ℕ). x ∷ y ∷ []) p q

low-bes : (l : List ℕ) → joined (be 2) (map (λ v. v % 65536) l) ≡ joined (be 2) l
unfolding joined
low-bes [] = refl
low-bes (v ∷ l) = ap₂ ◌++◌ (low-be v) (low-bes l)

-- the bytes of a record's colour
pub colour-bytes : (names : List ℕ) (g : RecordRow) → colour_bytes (plain (colour_in g)) ≡ colour_bytes (swatch_in names g)
unfolding colour_bytes
colour-bytes names g = ap₂ ◌++◌ (low-be g.space) (low-bes g.samples)

-- ---- a record of list 2

-- the bytes of its name, from where its copy starts
name-part : (names : List ℕ) → Bytes names → (g : RecordRow) (k : ℕ) → k ≡ 2 * g.units → name_fault names g ≡ 0 → part names (start g) k ≡ joined (be 2) (nums 2 g.units names g.first)
unfolding nums joined
name-part names b g k e f = elim (ℕ_discrete g.units 0) [
  | yes z ↦ let k0 : k ≡ 0 = omega arith in rw (k0, z)
  | no z ↦ let i = inside z in rw (ne_eqb g.units 0 z) (part-nums 2 names b g.units g.first k (omega arith) (omega arith))
]
  where
    inside : (g.units ≡ 0 → ⊥) → g.first + 2 * g.units ≤ length names
    inside z = rw (ne_eqb g.units 0 z) at (name-inside names g f)

pub name-bytes : (names : List ℕ) → Bytes names → (g : RecordRow) (k : ℕ) → k ≡ 2 * g.units → name_fault names g ≡ 0
    → counted_units 4 (g.units + 1) (part names (start g) k) ≡ name_bytes 4 (nums 2 g.units names g.first)
unfolding counted_units name_bytes
name-bytes names b g k e f =
    ap₂ (λ (x : ℕ) (l : List ℕ). be 4 (x + 1) ++ (l ++ be 2 0)) (sym (length-nums 2 g.units names g.first)) (name-part names b g k e f)

pub length-entry : (names : List ℕ) (g : RecordRow) → length g.samples ≡ 4 → length (entry_bytes (swatch_in names g)) ≡ 16 + 2 * g.units
unfolding entry_bytes
length-entry names g l =
    let w : Swatch = swatch_in names g in
    let a = length-append (colour_bytes w) (name_bytes 4 w.name) in
    omega (arith, a, length-colour w l, length-nameBytes 4 w.name, length-nums 2 g.units names g.first)

pub put_record : (names : List ℕ) → Bytes names → (g : RecordRow) (o₀ o₁ o₂ : List ℕ) (at k : ℕ) → length g.samples ≡ 4 → k ≡ 2 * g.units → name_fault names g ≡ 0 → at + (16 + 2 * g.units) ≤ length o₀
    → length o₁ ≡ length o₀ → o₁ ≡ sets o₀ at (colour_bytes (plain (colour_in g))) → o₂ ≡ stored o₁ (at + 10) (counted_units 4 (g.units + 1) (part names (start g) k))
    → o₂ ≡ sets o₀ at (entry_bytes (swatch_in names g))
unfolding entry_bytes
put_record names b g o₀ o₁ o₂ at k l e f h m e₁ e₂ =
    let w : Swatch = swatch_in names g in
    let n : length (name_bytes 4 w.name) ≡ 6 + 2 * g.units = omega (arith, length-nameBytes 4 w.name, length-nums 2 g.units names g.first) in
    let s : o₂ ≡ stored o₁ (at + 10) (name_bytes 4 w.name) = e₂ ∙ ap (stored o₁ (at + 10)) (name-bytes names b g k e f) in
    as-sets o₂ o₁ (at + 10) (name_bytes 4 w.name) _ s n (omega arith)
    ∙ sym (peel o₀ o₁ (colour_bytes w) (name_bytes 4 w.name) at 10 (at + 10) (length-colour w l) refl (e₁ ∙ ap (sets o₀ at) (colour-bytes names g)))

-- ---- a loop that stores the bytes of the records of a run

module _ (run : List ℕ) (f : RecordRow → Swatch) (ser : Swatch → List ℕ) (all out : List ℕ) (n i at : ℕ) where
  pub puts-start : all ≡ sets out at (joined ser (map f (rows width taken run n 0))) → all ≡ sets out at (joined ser (map f (rows width taken run (n - 0) 0)))
  puts-start e = e ∙ ap (λ (gs : List RecordRow). sets out at (joined ser (map f gs))) (counted_start (given_at run) n)

  pub puts-turn : all ≡ sets out at (joined ser (map f (rows width taken run (n - i) i))) → i < n → (o : List ℕ) (k : ℕ) → length (ser (f (given_at run i))) ≡ k → o ≡ sets out at (ser (f (given_at run i)))
      → all ≡ sets o (at + k) (joined ser (map f (rows width taken run (n - (i + 1)) (i + 1))))
  unfolding joined
  puts-turn e h o k l s =
      e ∙ ap (λ (gs : List RecordRow). sets out at (joined ser (map f gs))) (counted-turn (given_at run) n i h)
      ∙ peel out o (ser (f (given_at run i))) (joined ser (map f (rows width taken run (n - (i + 1)) (i + 1)))) at k (at + k) l refl s

  pub puts-end : all ≡ sets out at (joined ser (map f (rows width taken run (n - i) i))) → n ≤ i → out ≡ all
  unfolding joined
  puts-end e h = sym (e ∙ ap (λ (gs : List RecordRow). sets out at (joined ser (map f gs))) (counted-end (given_at run) n i h))

-- ---- the whole file

-- list 1 has no names
same-colours : (names : List ℕ) (gs : List RecordRow) → joined colour_bytes (map (swatch_in []) gs) ≡ joined colour_bytes (map (swatch_in names) gs)
unfolding joined colour_bytes
same-colours names [] = refl
same-colours names (g ∷ gs) = ap (λ (l : List ℕ). (be 2 g.space ++ joined (be 2) g.samples) ++ l) (same-colours names gs)

module _ (run names : List ℕ) where
  length-colours : (n k : ℕ) → length (joined colour_bytes (map (swatch_in names) (rows width taken run n k))) ≡ 10 * n
  unfolding joined counted
  length-colours zero k = refl
  length-colours (suc n) k =
      let w : Swatch = swatch_in names (given_at run k) in
      length-append (colour_bytes w) (joined colour_bytes (map (swatch_in names) (rows width taken run n (k + 1)))) ∙ omega (arith, length-colour w refl, length-colours n (k + 1))

  length-entries : (n k : ℕ) → length (joined entry_bytes (map (swatch_in names) (rows width taken run n k))) + 10 * n ≡ sizes (rows width taken run n k)
  unfolding joined counted sizes
  length-entries zero k = refl
  length-entries (suc n) k =
      let g : RecordRow = given_at run k in
      let a = length-append (entry_bytes (swatch_in names g)) (joined entry_bytes (map (swatch_in names) (rows width taken run n (k + 1)))) in
      omega (arith, a, length-entry names g refl, length-entries n (k + 1))

  module _ (n : ℕ) where
    length-swatches : length (map (swatch_in names) (rows width taken run n 0)) ≡ n
    length-swatches = length-map (swatch_in names) (rows width taken run n 0) ∙ length-counted (given_at run) n 0

    -- the six stores of a file, one after the other
    file : List ℕ
    file = be 2 1 ++ (be 2 n ++ (joined colour_bytes (map (swatch_in names) (rows width taken run n 0)) ++ (be 2 2 ++ (be 2 n ++ joined entry_bytes (map (swatch_in names) (rows width taken run n 0))))))

    file-is : file ≡ two_lists (map (swatch_in names) (rows width taken run n 0))
    unfolding file two_lists list_one list_two
    file-is =
        let ws : List Swatch = map (swatch_in names) (rows width taken run n 0) in
        sym (ap (λ (k : ℕ). (be 2 1 ++ (be 2 k ++ joined colour_bytes ws)) ++ (be 2 2 ++ (be 2 k ++ joined entry_bytes ws))) length-swatches ∙ simp append_assoc)

    pub length-file : length (two_lists (map (swatch_in names) (rows width taken run n 0))) ≡ size (rows width taken run n 0)
    unfolding two_lists list_one list_two
    length-file =
        let ws : List Swatch = map (swatch_in names) (rows width taken run n 0) in
        let a = length-append (list_one ws) (list_two ws) in
        let b = length-append (be 2 1) (be 2 (length ws) ++ joined colour_bytes ws) in
        let c = length-append (be 2 (length ws)) (joined colour_bytes ws) in
        let d = length-append (be 2 2) (be 2 (length ws) ++ joined entry_bytes ws) in
        let e = length-append (be 2 (length ws)) (joined entry_bytes ws) in
        omega (arith, a, b, c, d, e, length-be 2 1, length-be 2 2, length-be 2 (length ws), length-colours n 0, length-entries n 0)

    module _ (o₀ o₁ o₂ o₃ o₄ o₅ o₆ : List ℕ) (h : 8 + 10 * n ≤ length o₀) where
      pub put-file : o₁ ≡ stored o₀ 0 (be 2 1) → o₂ ≡ stored o₁ 2 (be 2 n) → o₃ ≡ sets o₂ 4 (joined colour_bytes (map (swatch_in []) (rows width taken run n 0))) → length o₃ ≡ length o₂
          → o₄ ≡ stored o₃ (4 + 10 * n) (be 2 2) → o₅ ≡ stored o₄ (6 + 10 * n) (be 2 n) → o₆ ≡ sets o₅ (8 + 10 * n) (joined entry_bytes (map (swatch_in names) (rows width taken run n 0)))
          → o₆ ≡ sets o₀ 0 (two_lists (map (swatch_in names) (rows width taken run n 0)))
      unfolding file
      put-file e₁ e₂ e₃ l₃ e₄ e₅ e₆ =
          let ws : List Swatch = map (swatch_in names) (rows width taken run n 0) in
          let l₁ : length o₁ ≡ length o₀ = ap length e₁ ∙ length-stored o₀ 0 (be 2 1) in
          let l₂ : length o₂ ≡ length o₁ = ap length e₂ ∙ length-stored o₁ 2 (be 2 n) in
          let l₄ : length o₄ ≡ length o₃ = ap length e₄ ∙ length-stored o₃ (4 + 10 * n) (be 2 2) in
          let p : 4 + 10 * n + 2 ≡ 6 + 10 * n = omega arith in
          let q : 6 + 10 * n + 2 ≡ 8 + 10 * n = omega arith in
          e₆ ∙ sym (
          ap (sets o₀ 0) (sym file-is)
          ∙ peel o₀ o₁ (be 2 1) _ 0 2 2 (length-be 2 1) refl (as-sets o₁ o₀ 0 (be 2 1) 2 e₁ (length-be 2 1) (omega arith))
          ∙ peel o₁ o₂ (be 2 n) _ 2 2 4 (length-be 2 n) refl (as-sets o₂ o₁ 2 (be 2 n) 2 e₂ (length-be 2 n) (omega arith))
          ∙ peel o₂ o₃ (joined colour_bytes ws) _ 4 (10 * n) (4 + 10 * n) (length-colours n 0) refl (e₃ ∙ ap (sets o₂ 4) (same-colours names (rows width taken run n 0)))
          ∙ peel o₃ o₄ (be 2 2) _ (4 + 10 * n) 2 (6 + 10 * n) (length-be 2 2) p (as-sets o₄ o₃ (4 + 10 * n) (be 2 2) 2 e₄ (length-be 2 2) (omega arith))
          ∙ peel o₄ o₅ (be 2 n) _ (6 + 10 * n) 2 (8 + 10 * n) (length-be 2 n) q (as-sets o₅ o₄ (6 + 10 * n) (be 2 n) 2 e₅ (length-be 2 n) (omega arith)))

    -- a file stored in front of what was there
    pub file-front : (out o : List ℕ) → size (rows width taken run n 0) ≤ length out → o ≡ sets out 0 (two_lists (map (swatch_in names) (rows width taken run n 0)))
        → o ≡ two_lists (map (swatch_in names) (rows width taken run n 0)) ++ drop (size (rows width taken run n 0)) out
    file-front out o h e =
        let l : List ℕ = two_lists (map (swatch_in names) (rows width taken run n 0)) in
        let m : length l ≡ size (rows width taken run n 0) = length-file in
        let z : 0 + length l ≡ size (rows width taken run n 0) = omega arith in
        e ∙ sets-eq l out 0 (omega arith) ∙ ap (λ (k : ℕ). l ++ drop k out) z

-- ---- a refusal that a `?` hands on

pub write-exit : (x n : ℕ) (file out : List ℕ) (r : Result ℕ Fault) (f : Fault) → IsErrAnd r (λ y. y ≡ f) → refused (number_of f) 0 ≡ needs x n → (told_written r, out) ≡ writes x n file out
write-exit x n file out r f h e = ap (λ (o : Outcome). (o, out)) (written-exit r f h refl) ∙ writes-no x n file out (number_of f) e
