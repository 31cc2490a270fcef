-- What single stores leave. Assumes nothing.
use Prim.Native.Nat.{ℕ, zero, suc, ◌+◌, ◌*◌, ◌≤◌}
use mathlib.Core.Path.{◌≡◌, refl, sym, ap, ap₂, ◌∙◌, subst}
use mathlib.Core.List.{List, [], ◌∷◌, ◌++◌}
use lib.ListN.{length, get_or, set, length-set, take, drop}
use lib.Seq.{set_out}
use native.Mathlib.Omega.{arith}
use native.Mathlib.Nat.{add-zero}
use borrow.Rule.Slice.PartMut.{put_mid}
use lib.Seq.{sets, sets-eq}
use Rattle.std.proofs.lemmas.Slice.{put_mid-paste}
use Rattle.algebra.specs.Numbers.{num}
use Rattle.algebra.specs.Reader.{field, or_zero}
use Rattle.algebra.proofs.Laws.{field_in}
use Rattle.descriptor_raw.specs.Raw.{due_of}
use Rattle.descriptor_heads.specs.Heads.{Due, items, pairs, forms, columns}
use Rattle.descriptor_entry.specs.Shapes.{Entry}
use mathlib.Core.Bool.{true, false}
use Rattle.descriptor_entry.specs.Entries.{keyed}
use Rattle.descriptor_entry.specs.declared.Field.{Field}
use Rattle.descriptor_entry.specs.declared.Field.TheVariants as f
use Rattle.descriptor_entries.specs.Taken.{put, span, put_all, put_key}
use Rattle.descriptor_entries.specs.scaffold.Spans.{end_of, key_span}
use Rattle.descriptor_entries.proofs.Held.{end_later}
use Rattle.descriptor_entries.proofs.Filled.{put-length}

-- a number that lies in the file
pub word-is : (s : List ℕ) (at : ℕ) → at + 4 ≤ length s → or_zero (field 4 s at) ≡ num 4 s at
word-is s at l = ap or_zero (field_in 4 s at (omega (arith, l)))

pub byte-is : (s : List ℕ) (at : ℕ) → get_or s at 0 ≡ num 1 s at
unfolding num
byte-is s at = ap (λ (k : ℕ). get_or s k 0) (sym (add-zero at)) ∙ zero-times (get_or s (at + 0) 0)
  where
    zero-times : (v : ℕ) → v ≡ 0 * 256 + v
    zero-times v = omega arith

-- two numbers past an entry's end
pub both_out : (e : Entry) (i a b : ℕ) → length e ≤ i → e ≡ set (set e i a) (i + 1) b
both_out e i a b l = sym (set_out (set e i a) (i + 1) b (omega (arith, l, length-set e i a)) ∙ set_out e i a l)

-- a row that is copied over a part of a run
pub part-stored : (run row : List ℕ) (to k : ℕ) (new : List ℕ) → new ≡ row → k ≡ length row → to + length row ≤ length run → put_mid to k run new ≡ sets run to row
part-stored run row to k new is n room =
    subst (λ (m : ℕ). put_mid to m run new ≡ sets run to row) (sym n)
    (put_mid-paste to (length row) run new row (length row) is refl refl ∙ ap (λ (l : List ℕ). take to run ++ l ++ drop (to + length row) run) (take-whole row) ∙ sym (sets-eq row run to room))
  where
    take-whole : (l : List ℕ) → take (length l) l ≡ l
    take-whole [] = refl
    take-whole (x ∷ l) = ap (λ (m : List ℕ). x ∷ m) (take-whole l)

-- ---- a field by its variant

module _ (s : List ℕ) (at : ℕ) (x y : Field) (same : x ≡ y) where
  pub room_as : at + span s at x ≤ length s → at + span s at y ≤ length s
  room_as l = subst (λ (z : Field). at + span s at z ≤ length s) same l

  pub put_as : (e e' : Entry) (r : ℕ) → e' ≡ put s at y e → r ≡ at + span s at y → (e' ≡ put s at x e) × (r ≡ at + span s at x)
  put_as e e' r h l = subst (λ (z : Field). (e' ≡ put s at z e) × (r ≡ at + span s at z)) (sym same) (h, l)

-- ---- a key

pub due-keyed : (s : List ℕ) (at what : ℕ) (e : Entry) → keyed (due_of what 0) ≡ true → (key_span s at (due_of what 0) ≡ span s at (f.Id 1)) × (put_key s at (due_of what 0) e ≡ put s at (f.Id 1) e)
due-keyed s at zero e h = let z : ◌≡◌ {A = ℕ} 0 1 = cc in absurd (omega arith)
due-keyed s at (suc zero) e h = (refl, refl)
due-keyed s at (suc (suc zero)) e h = let z : ◌≡◌ {A = ℕ} 0 1 = cc in absurd (omega arith)
due-keyed s at (suc (suc (suc n))) e h = (refl, refl)

pub due-plain : (s : List ℕ) (at what : ℕ) (e : Entry) → keyed (due_of what 0) ≡ false → e ≡ put_key s at (due_of what 0) e
due-plain s at zero e h = refl
due-plain s at (suc zero) e h = let z : ◌≡◌ {A = ℕ} 0 1 = cc in absurd (omega arith)
due-plain s at (suc (suc zero)) e h = refl
due-plain s at (suc (suc (suc n))) e h = let z : ◌≡◌ {A = ℕ} 0 1 = cc in absurd (omega arith)

pub key-length : (s : List ℕ) (at : ℕ) (c : Due) (e : Entry) → length (put_key s at c e) ≡ length e
key-length s at items e = refl
key-length s at pairs e = put-length s at (f.Id 1) e
key-length s at forms e = refl
key-length s at (columns m) e = put-length s at (f.Id 1) e

-- ---- fields one after the other

module _ (s : List ℕ) (at : ℕ) (x : Field) (xs : List Field) where
  pub here-room : end_of s at (x ∷ xs) ≤ length s → at + span s at x ≤ length s
  here-room l = omega (arith, l, end_later s xs (at + span s at x))

  -- behind a field that was put
  module _ (e e' : Entry) (r : ℕ) (is : (e' ≡ put s at x e) × (r ≡ at + span s at x)) where
    pub next-room : end_of s at (x ∷ xs) ≤ length s → end_of s r xs ≤ length s
    next-room l = subst (λ (k : ℕ). end_of s k xs ≤ length s) (sym is.1) l

    pub next-length : length e ≡ 16 → length e' ≡ 16
    next-length l = ap length is.0 ∙ put-length s at x e ∙ l

    pub next-put : put_all s at (x ∷ xs) e ≡ put_all s r xs e'
    unfolding put_all
    next-put = ap₂ (λ (k : ℕ) (y : Entry). put_all s k xs y) (sym is.1) (sym is.0)
