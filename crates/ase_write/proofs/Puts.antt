-- Stores one after the other, on plain values. Assumes nothing.
use Rattle.algebra.specs.Chars.{chars}
use Rattle.algebra.proofs.Counted.{counted-end, counted_start, counted-turn, length-counted}
use Prim.Native.Nat.{ℕ, zero, suc, ◌+◌, ◌*◌, ◌-◌, ◌≤◌, ◌<◌}
use mathlib.Core.Path.{◌≡◌, refl, sym, ap, ap₂, ◌∙◌}
use mathlib.Core.List.{List, [], ◌∷◌, ◌++◌, map}
use mathlib.Core.Bool.{true, true≢false}
use lib.ListN.{length, take, drop, length-append}
use lib.Seq.{sets, sets-eq}
use borrow.Author.Tests.{ne_eqb}
use native.Mathlib.Omega.{arith}
use native.Mathlib.Decide.{ℕ_discrete}
use Rattle.algebra.specs.Numbers.{counted, be, nums, joined, Bytes}
use Rattle.algebra.specs.Store.{stored, part}
use Rattle.algebra.specs.Table.{row_at, rows}
use Rattle.algebra.specs.Text.{name_bytes, counted_units}
use Rattle.algebra.specs.Faults.{faults}
use Rattle.algebra.proofs.Places.{length-be, length-bes, length-nums, part-nums}
use Rattle.algebra.proofs.Exact.{length-map, length-nameBytes}
use Rattle.algebra.proofs.Tells.{first-inv}
use Rattle.colour.specs.Models.{model_of, is_known_model, count_in, is_model, channels_of}
use Rattle.std.specs.Prelude.{Option, Some, None, Result}
use Rattle.std.specs.Result.{IsErrAnd}
use Rattle.std.proofs.lemmas.Result.{err_from_is_err_and}
use Rattle.algebra.specs.Writing.{Outcome, refused}
use Rattle.fault.specs.Fault.{number_of as Fault·number}
use Rattle.fault.specs.Answer.{told_written}
use Rattle.fault.specs.declared.Fault.{Fault}
use Rattle.colour.specs.declared.model.Model.{Model}
use Rattle.colour.specs.declared.model.Model.TheVariants.{Rgb, Cmyk, Lab, Gray}
use Rattle.ase.specs.Grammar.{Block, group_start, group_end, colour, type_of, payload, block_bytes, file_bytes}
use Rattle.ase.specs.Row.{RecordRow, width, taken}
use Rattle.ase_writing.specs.Writing.{units_within, channels_in, block_by_row, name_size, size_within, sizes, size}
use Rattle.ase_write_judge.specs.scaffold.Parts.{name_fault, after_name_bytes, own_fault}
use Rattle.ase_write_judge.specs.scaffold.Parts as parts
use Rattle.ase_write_judge.proofs.Judging.{Sound, is_group_start, is_group_end, is-colour, sound, channels-few, size-start, size-stop, size-colour, name-inside}
use Rattle.algebra.proofs.Storing.{as-sets, peel, peel-be, length-kept}

-- what is told where a `?` hands a refusal on
pub writes-exit : (r : Result ℕ Fault) (f : Fault) (o : List ℕ) {m : Outcome × List ℕ} → IsErrAnd r (λ y. y ≡ f) → (refused (Fault·number f) 0, o) ≡ m → (told_written r, o) ≡ m
writes-exit r f o h rest = let p = err_from_is_err_and r h in rw (p.1, p.2) rest

-- ---- a name

module _ (names : List ℕ) (b : Bytes names) (g : RecordRow) (k : ℕ) (e : k ≡ 2 * g.units) (f : name_fault names g ≡ 0) where
  -- the bytes of its units, from where its copy starts
  name-part : part names (parts.start g) k ≡ joined (be 2) (units_within names g)
  unfolding nums joined
  name-part = elim (ℕ_discrete g.units 0) [
    | yes z ↦ let k0 : k ≡ 0 = omega arith in rw (k0, z)
    | no z ↦ let i = inside z in rw (ne_eqb g.units 0 z) (part-nums 2 names b g.units g.first k (omega arith) (omega arith))
  ]
    where
      inside : (g.units ≡ 0 → ⊥) → g.first + 2 * g.units ≤ length names
      inside z = rw (ne_eqb g.units 0 z) at (name-inside names g f)

  name-bytes : counted_units 2 (g.units + 1) (part names (parts.start g) k) ≡ name_bytes 2 (units_within names g)
  unfolding counted_units name_bytes
  name-bytes = ap₂ (λ (x : ℕ) (l : List ℕ). be 2 (x + 1) ++ (l ++ be 2 0)) (sym (length-nums 2 g.units names g.first)) name-part

length-name : (names : List ℕ) (g : RecordRow) → length (name_bytes 2 (units_within names g)) ≡ name_size g
length-name names g = omega (arith, length-nameBytes 2 (units_within names g), length-nums 2 g.units names g.first)

pub put-name : (names : List ℕ) → Bytes names → (g : RecordRow) (k : ℕ) → k ≡ 2 * g.units → name_fault names g ≡ 0 → (out o : List ℕ) (at : ℕ) → at + name_size g ≤ length out
    → o ≡ stored out at (counted_units 2 (g.units + 1) (part names (parts.start g) k)) → o ≡ sets out at (name_bytes 2 (units_within names g))
put-name names b g k e f out o at h w = as-sets o out at _ (name_size g) (w ∙ ap (stored out at) (name-bytes names b g k e f)) (length-name names g) h

-- ---- a colour's channels

some : (k : Option Model) → is_known_model k ≡ true → (count_in k ≡ 1 → ⊥) → (count_in k ≡ 3 → ⊥) → count_in k ≡ 4
some (Some Rgb) e a b = absurd (b refl)
some (Some Cmyk) e a b = refl
some (Some Lab) e a b = absurd (b refl)
some (Some Gray) e a b = absurd (a refl)
some None e a b = absurd (true≢false (sym e))

-- a known model has one channel, three or four
channels-four : (t : ℕ) → is_model t ≡ true → (channels_of t ≡ 1 → ⊥) → (channels_of t ≡ 3 → ⊥) → channels_of t ≡ 4
unfolding is_model channels_of
channels-four t e a b = some (model_of t) e a b

module _ (a b c d : ℕ) (o₀ o₁ : List ℕ) (at : ℕ) (e₁ : o₁ ≡ stored o₀ at (be 4 a)) where
  one : at + 4 ≤ length o₀ → o₁ ≡ sets o₀ at (joined (be 4) (take 1 (a ∷ b ∷ c ∷ d ∷ [])))
  unfolding joined
  one h = sym (peel-be 4 a o₀ o₁ [] at (at + 4) refl h e₁)

  module _ (o₂ o₃ : List ℕ) (e₂ : o₂ ≡ stored o₁ (at + 4) (be 4 b)) (e₃ : o₃ ≡ stored o₂ (at + 8) (be 4 c)) where
    three-by : at + 12 ≤ length o₀ → (l : List ℕ) → sets o₀ at (be 4 a ++ (be 4 b ++ (be 4 c ++ l))) ≡ sets o₃ (at + 12) l
    three-by h l =
        let l₁ = length-kept o₁ o₀ at (be 4 a) e₁ in
        let l₂ = length-kept o₂ o₁ (at + 4) (be 4 b) e₂ in
        peel-be 4 a o₀ o₁ _ at (at + 4) refl (omega arith) e₁ ∙ peel-be 4 b o₁ o₂ _ (at + 4) (at + 8) (omega arith) (omega arith) e₂ ∙ peel-be 4 c o₂ o₃ l (at + 8) (at + 12) (omega arith) (omega arith) e₃

    three : at + 12 ≤ length o₀ → o₃ ≡ sets o₀ at (joined (be 4) (take 3 (a ∷ b ∷ c ∷ d ∷ [])))
    unfolding joined
    three h = sym (three-by h [])

    four : at + 16 ≤ length o₀ → (o₄ : List ℕ) → o₄ ≡ stored o₃ (at + 12) (be 4 d) → o₄ ≡ sets o₀ at (joined (be 4) (take 4 (a ∷ b ∷ c ∷ d ∷ [])))
    unfolding joined
    four h o₄ e₄ =
        let l₁ = length-kept o₁ o₀ at (be 4 a) e₁ in
        let l₂ = length-kept o₂ o₁ (at + 4) (be 4 b) e₂ in
        let l₃ = length-kept o₃ o₂ (at + 8) (be 4 c) e₃ in
        sym (three-by (omega arith) (be 4 d ++ []) ∙ peel-be 4 d o₃ o₄ [] (at + 12) (at + 16) (omega arith) (omega arith) e₄)

-- as many as the model has
module _ (t n a b c d : ℕ) (o₀ o₁ : List ℕ) (at : ℕ) (count : n ≡ channels_of t) (room : at + 4 * n ≤ length o₀) (e₁ : o₁ ≡ stored o₀ at (be 4 a)) where
  used : (k : ℕ) → n ≡ k → (o : List ℕ) → o ≡ sets o₀ at (joined (be 4) (take k (a ∷ b ∷ c ∷ d ∷ []))) → o ≡ sets o₀ at (joined (be 4) (take (channels_of t) (a ∷ b ∷ c ∷ d ∷ [])))
  used k z o e = e ∙ ap (λ (x : ℕ). sets o₀ at (joined (be 4) (take x (a ∷ b ∷ c ∷ d ∷ [])))) (sym z ∙ count)

  pub put_one : n ≡ 1 → o₁ ≡ sets o₀ at (joined (be 4) (take (channels_of t) (a ∷ b ∷ c ∷ d ∷ [])))
  put_one z = used 1 z o₁ (one a b c d o₀ o₁ at e₁ (omega arith))

  module _ (o₂ o₃ : List ℕ) (e₂ : o₂ ≡ stored o₁ (at + 4) (be 4 b)) (e₃ : o₃ ≡ stored o₂ (at + 8) (be 4 c)) where
    pub put_three : n ≡ 3 → o₃ ≡ sets o₀ at (joined (be 4) (take (channels_of t) (a ∷ b ∷ c ∷ d ∷ [])))
    put_three z = used 3 z o₃ (three a b c d o₀ o₁ at e₁ o₂ o₃ e₂ e₃ (omega arith))

    pub put_four : is_model t ≡ true → (n ≡ 1 → ⊥) → (n ≡ 3 → ⊥) → (o₄ : List ℕ) → o₄ ≡ stored o₃ (at + 12) (be 4 d) → o₄ ≡ sets o₀ at (joined (be 4) (take (channels_of t) (a ∷ b ∷ c ∷ d ∷ [])))
    put_four known x y o₄ e₄ =
        let z : n ≡ 4 = count ∙ channels-four t known (λ k. x (count ∙ k)) (λ k. y (count ∙ k)) in
        used 4 z o₄ (four a b c d o₀ o₁ at e₁ o₂ o₃ e₂ e₃ (omega arith) o₄ e₄)

length-take-in : (n : ℕ) (l : List ℕ) → n ≤ length l → length (take n l) ≡ n
length-take-in zero l h = refl
length-take-in (suc n) [] h = absurd (omega arith)
length-take-in (suc n) (x ∷ l) h = ap suc (length-take-in n l (omega arith))

module _ (g : RecordRow) (l : length g.channels ≡ 4) where
  length-channels : length (joined (be 4) (channels_in g)) ≡ 4 * channels_of g.model
  length-channels = omega (arith, length-bes 4 (channels_in g), length-take-in (channels_of g.model) g.channels (omega (arith, channels-few g.model)))

  length-colour-content : length (after_name_bytes g) ≡ 6 + 4 * channels_of g.model
  length-colour-content =
      let x = length-append (be 4 g.model) (joined (be 4) (channels_in g) ++ be 2 g.ink) in
      let y = length-append (joined (be 4) (channels_in g)) (be 2 g.ink) in
      omega (arith, x, y, length-be 4 g.model, length-be 2 g.ink, length-channels)

  pub put-after-name : (o₀ o₁ o₂ o₃ : List ℕ) (at n : ℕ) → n ≡ channels_of g.model → at + 6 + 4 * channels_of g.model ≤ length o₀ → o₁ ≡ stored o₀ at (be 4 g.model)
      → o₂ ≡ sets o₁ (at + 4) (joined (be 4) (channels_in g)) → length o₂ ≡ length o₁ → o₃ ≡ stored o₂ (at + 4 + 4 * n) (be 2 g.ink) → o₃ ≡ sets o₀ at (after_name_bytes g)
  put-after-name o₀ o₁ o₂ o₃ at n m h e₁ e₂ l₂ e₃ =
      let l₁ = length-kept o₁ o₀ at (be 4 g.model) e₁ in
      let p : at + 4 + 4 * channels_of g.model ≡ at + 4 + 4 * n = omega arith in
      sym (
      peel-be 4 g.model o₀ o₁ _ at (at + 4) refl (omega arith) e₁ ∙ peel o₁ o₂ (joined (be 4) (channels_in g)) (be 2 g.ink) (at + 4) (4 * channels_of g.model) (at + 4 + 4 * n) length-channels p e₂
      ∙ sym (as-sets o₃ o₂ (at + 4 + 4 * n) (be 2 g.ink) 2 e₃ (length-be 2 g.ink) (omega arith)))

-- ---- a record

module _ (names : List ℕ) (g : RecordRow) where
  block_start : g.block ≡ 0xC001 → block_by_row names g ≡ group_start (units_within names g)
  block_start e = rw e

  block-stop : g.block ≡ 0xC002 → block_by_row names g ≡ group_end
  block-stop e = rw e

  block-colour : g.block ≡ 0x0001 → block_by_row names g ≡ colour (units_within names g) g.model (channels_in g) g.ink
  block-colour e = rw e

  type-is : Sound names 1 g → type_of (block_by_row names g) ≡ g.block
  type-is (is_group_start e k n) = ap type_of (block_start e) ∙ sym e
  type-is (is_group_end e k) = ap type_of (block-stop e) ∙ sym e
  type-is (is-colour e n s) = ap type_of (block-colour e) ∙ sym e

  pub type-small : Sound names 1 g → g.block < 65536
  type-small (is_group_start e k n) = omega arith
  type-small (is_group_end e k) = omega arith
  type-small (is-colour e n s) = omega arith

  -- a record that does not end a group has a name
  pub size-name : Sound names 1 g → (g.block ≡ 0xC002 → ⊥) → 6 + name_size g ≤ size_within g
  size-name (is_group_start e k n) x = omega (arith, size-start g e)
  size-name (is_group_end e k) x = absurd (x e)
  size-name (is-colour e n s) x = omega (arith, size-colour g e)

  pub sound-name : Sound names 1 g → (g.block ≡ 0xC002 → ⊥) → name_fault names g ≡ 0
  sound-name (is_group_start e k n) x = n
  sound-name (is_group_end e k) x = absurd (x e)
  sound-name (is-colour e n s) x = n

  -- and one that starts none either is a colour
  pub sound-colour : Sound names 1 g → (g.block ≡ 0xC002 → ⊥) → (g.block ≡ 0xC001 → ⊥) → (g.block ≡ 0x0001) × (parts.after_name_fault g ≡ 0)
  sound-colour (is_group_start e k n) x y = absurd (y e)
  sound-colour (is_group_end e k) x y = absurd (x e)
  sound-colour (is-colour e n s) x y = (e, s)

  module _ (l : length g.channels ≡ 4) where
    length-payload : Sound names 1 g → 6 + length (payload (block_by_row names g)) ≡ size_within g
    length-payload (is_group_start e k n) = omega (arith, ap (λ (b : Block). length (payload b)) (block_start e), length-name names g, size-start g e)
    length-payload (is_group_end e k) = omega (arith, ap (λ (b : Block). length (payload b)) (block-stop e), size-stop g e)
    length-payload (is-colour e n s) =
        let a = length-append (name_bytes 2 (units_within names g)) (after_name_bytes g) in
        omega (arith, ap (λ (b : Block). length (payload b)) (block-colour e), a, length-name names g, length-colour-content g l, size-colour g e)

    length-block : Sound names 1 g → length (block_bytes (block_by_row names g)) ≡ size_within g
    unfolding block_bytes
    length-block s =
        let b : Block = block_by_row names g in
        let x = length-append (be 2 (type_of b)) (be 4 (length (payload b)) ++ payload b) in
        let y = length-append (be 4 (length (payload b))) (payload b) in
        omega (arith, x, y, length-be 2 (type_of b), length-be 4 (length (payload b)), length-payload s)

    module _ (s : Sound names 1 g) (o₀ o₁ o₂ : List ℕ) (at n : ℕ) (m : n ≡ size_within g) (room : at + size_within g ≤ length o₀)
        (e₁ : o₁ ≡ stored o₀ at (be 2 g.block)) (e₂ : o₂ ≡ stored o₁ (at + 2) (be 4 (n - 6))) where
      -- the six bytes before the payload
      head : sets o₀ at (block_bytes (block_by_row names g)) ≡ sets o₂ (at + 6) (payload (block_by_row names g))
      unfolding block_bytes
      head =
          let b : Block = block_by_row names g in
          let w : n - 6 ≡ length (payload b) = omega (arith, length-payload s) in
          let l₁ = length-kept o₁ o₀ at (be 2 g.block) e₁ in
          let h = length-payload s in
          peel-be 2 (type_of b) o₀ o₁ _ at (at + 2) refl (omega arith) (e₁ ∙ ap (λ (t : ℕ). stored o₀ at (be 2 t)) (sym (type-is s)))
          ∙ peel-be 4 (length (payload b)) o₁ o₂ (payload b) (at + 2) (at + 6) (omega arith) (omega arith) (e₂ ∙ ap (λ (v : ℕ). stored o₁ (at + 2) (be 4 v)) w)

      pub put-stop : g.block ≡ 0xC002 → o₂ ≡ sets o₀ at (block_bytes (block_by_row names g))
      put-stop e = sym (head ∙ ap (λ (b : Block). sets o₂ (at + 6) (payload b)) (block-stop e))

      module _ (o₃ : List ℕ) (e₃ : o₃ ≡ sets o₂ (at + 6) (name_bytes 2 (units_within names g))) where
        pub put-start : g.block ≡ 0xC001 → o₃ ≡ sets o₀ at (block_bytes (block_by_row names g))
        put-start e = e₃ ∙ sym (head ∙ ap (λ (b : Block). sets o₂ (at + 6) (payload b)) (block_start e))

        pub put-colour : (g.block ≡ 0xC002 → ⊥) → (g.block ≡ 0xC001 → ⊥) → (o₄ : List ℕ) → o₄ ≡ sets o₃ (at + 10 + 2 * g.units) (after_name_bytes g) → o₄ ≡ sets o₀ at (block_bytes (block_by_row names g))
        put-colour x y o₄ e₄ =
            let p : at + 6 + name_size g ≡ at + 10 + 2 * g.units = omega arith in
            e₄ ∙ sym (
            head ∙ ap (λ (b : Block). sets o₂ (at + 6) (payload b)) (block-colour (sound-colour s x y).0)
            ∙ peel o₂ o₃ (name_bytes 2 (units_within names g)) (after_name_bytes g) (at + 6) (name_size g) (at + 10 + 2 * g.units) (length-name names g) p e₃)

-- ---- a loop that stores the records of a run

module _ (run names all out : List ℕ) (n i at : ℕ) where
  pub puts-start : all ≡ sets out at (joined block_bytes (map (block_by_row names) (rows width taken run n 0))) → all ≡ sets out at (joined block_bytes (map (block_by_row names) (rows width taken run (n - 0) 0)))
  puts-start e = e ∙ ap (λ (gs : List RecordRow). sets out at (joined block_bytes (map (block_by_row names) gs))) (counted_start (λ i. taken (row_at width run i)) n)

  module _ (inv : all ≡ sets out at (joined block_bytes (map (block_by_row names) (rows width taken run (n - i) i)))) where
    pub puts-turn : i < n → (o : List ℕ) (k : ℕ) → k ≡ size_within (taken (row_at width run i)) → own_fault names (taken (row_at width run i)) ≡ 0 → (g : RecordRow) → g ≡ taken (row_at width run i) → o ≡ sets out at (block_bytes (block_by_row names g))
        → all ≡ sets o (at + k) (joined block_bytes (map (block_by_row names) (rows width taken run (n - (i + 1)) (i + 1))))
    unfolding joined
    puts-turn h o k w f g z s =
        let b : List ℕ = block_bytes (block_by_row names (taken (row_at width run i))) in
        let l : length b ≡ k = length-block names (taken (row_at width run i)) refl (sound names 1 (taken (row_at width run i)) f) ∙ sym w in
        inv ∙ ap (λ (gs : List RecordRow). sets out at (joined block_bytes (map (block_by_row names) gs))) (counted-turn (λ i. taken (row_at width run i)) n i h)
        ∙ peel out o b (joined block_bytes (map (block_by_row names) (rows width taken run (n - (i + 1)) (i + 1)))) at k (at + k) l refl (s ∙ ap (λ (x : RecordRow). sets out at (block_bytes (block_by_row names x))) z)

    pub puts-end : n ≤ i → out ≡ all
    unfolding joined
    puts-end h = sym (inv ∙ ap (λ (gs : List RecordRow). sets out at (joined block_bytes (map (block_by_row names) gs))) (counted-end (λ i. taken (row_at width run i)) n i h))

-- ---- the whole file

module _ (run names : List ℕ) where
  length-blocks : (n k : ℕ) → faults (own_fault names) (rows width taken run n k) ≡ 0 → length (joined block_bytes (map (block_by_row names) (rows width taken run n k))) ≡ sizes (rows width taken run n k)
  unfolding joined counted sizes faults
  length-blocks zero k e = refl
  length-blocks (suc n) k e =
      let g : RecordRow = taken (row_at width run k) in
      let x = first-inv (own_fault names g) (faults (own_fault names) (rows width taken run n (k + 1))) e in
      let a = length-append (block_bytes (block_by_row names g)) (joined block_bytes (map (block_by_row names) (rows width taken run n (k + 1)))) in
      omega (arith, a, length-block names g refl (sound names 1 g x.0), length-blocks n (k + 1) x.1)

  module _ (n : ℕ) where
    length-all : length (map (block_by_row names) (rows width taken run n 0)) ≡ n
    length-all = length-map (block_by_row names) (rows width taken run n 0) ∙ length-counted (λ i. taken (row_at width run i)) n 0

    length-file : faults (own_fault names) (rows width taken run n 0) ≡ 0 → length (file_bytes (map (block_by_row names) (rows width taken run n 0))) ≡ size (rows width taken run n 0)
    unfolding file_bytes
    length-file e =
        let bs : List Block = map (block_by_row names) (rows width taken run n 0) in
        let a = length-append (be 4 (chars "ASEF")) (be 2 1 ++ (be 2 0 ++ (be 4 (length bs) ++ joined block_bytes bs))) in
        let b = length-append (be 2 1) (be 2 0 ++ (be 4 (length bs) ++ joined block_bytes bs)) in
        let c = length-append (be 2 0) (be 4 (length bs) ++ joined block_bytes bs) in
        let d = length-append (be 4 (length bs)) (joined block_bytes bs) in
        omega (arith, a, b, c, d, length-be 4 (chars "ASEF"), length-be 2 1, length-be 2 0, length-be 4 (length bs), length-blocks n 0 e)

    pub put-file : (o₀ o₁ o₂ o₃ o₄ o₅ : List ℕ) → 12 ≤ length o₀ → o₁ ≡ stored o₀ 0 (be 4 (chars "ASEF")) → o₂ ≡ stored o₁ 4 (be 2 1) → o₃ ≡ stored o₂ 6 (be 2 0)
        → o₄ ≡ stored o₃ 8 (be 4 n) → o₅ ≡ sets o₄ 12 (joined block_bytes (map (block_by_row names) (rows width taken run n 0))) → o₅ ≡ sets o₀ 0 (file_bytes (map (block_by_row names) (rows width taken run n 0)))
    unfolding file_bytes
    put-file o₀ o₁ o₂ o₃ o₄ o₅ h e₁ e₂ e₃ e₄ e₅ =
        let bs : List Block = map (block_by_row names) (rows width taken run n 0) in
        let l₁ = length-kept o₁ o₀ 0 (be 4 (chars "ASEF")) e₁ in
        let l₂ = length-kept o₂ o₁ 4 (be 2 1) e₂ in
        let l₃ = length-kept o₃ o₂ 6 (be 2 0) e₃ in
        e₅ ∙ sym (
        peel-be 4 (chars "ASEF") o₀ o₁ _ 0 4 refl (omega arith) e₁
        ∙ peel-be 2 1 o₁ o₂ _ 4 6 refl (omega arith) e₂
        ∙ peel-be 2 0 o₂ o₃ _ 6 8 refl (omega arith) e₃
        ∙ peel-be 4 (length bs) o₃ o₄ _ 8 12 refl (omega arith) (e₄ ∙ ap (λ (k : ℕ). stored o₃ 8 (be 4 k)) (sym length-all)))

    -- a file stored in front of what was there
    pub file-front : faults (own_fault names) (rows width taken run n 0) ≡ 0 → (out o : List ℕ) → size (rows width taken run n 0) ≤ length out → o ≡ sets out 0 (file_bytes (map (block_by_row names) (rows width taken run n 0)))
        → o ≡ file_bytes (map (block_by_row names) (rows width taken run n 0)) ++ drop (size (rows width taken run n 0)) out
    file-front f out o h e =
        let l : List ℕ = file_bytes (map (block_by_row names) (rows width taken run n 0)) in
        let m : length l ≡ size (rows width taken run n 0) = length-file f in
        let z : 0 + length l ≡ size (rows width taken run n 0) = omega arith in
        e ∙ sets-eq l out 0 (omega arith) ∙ ap (λ (k : ℕ). l ++ drop k out) z
