-- Laws of the search for the first `=`, which the proofs of the code cite. Assumes nothing.
use Prim.Native.Nat.{ℕ, suc, ◌+◌, ◌-◌, ◌/◌, ◌≤◌, ◌<◌}
use mathlib.Core.Path.{◌≡◌, refl, sym, ap, ◌∙◌}
use mathlib.Core.List.{List}
use mathlib.Core.Bool.{Bool, true, false}
use lib.Dec.{leb, eqb}
use lib.ListN.{length}
use borrow.Author.Tests.{le-leb, lt-leb, leb-false, eq-eqb, ne_eqb}
use native.Mathlib.Omega.{arith}
use native.Mathlib.Nat.{sub-zero}
use Rattle.algebra.specs.Reader.{ok, refuse, pick, field}
use Rattle.algebra.specs.Numbers.{num}
use Rattle.algebra.proofs.Laws.{field_next}
use Rattle.acb_shown_values.specs.Texts.{behind_equals, shown_start}

-- a field that is refused needs more bytes than remain
too_short : (w : ℕ) (s : List ℕ) (at : ℕ) → refuse 2 at 0 0 ≡ field w s at → length s - at < w
unfolding field
too_short w s at e = go (leb w (length s - at)) refl e
  where
    go : (b : Bool) → leb w (length s - at) ≡ b → refuse 2 at 0 0 ≡ pick b (ok (num w s at) (at + w)) (refuse 2 at 0 0) → length s - at < w
    go true h k = let z : ◌≡◌ {A = ℕ} 0 1 = cc in absurd (omega arith)
    go false h k = leb-false _ _ h

-- ---- a loop over the units: `all` is what the whole search comes to

pub search-start : (s : List ℕ) → behind_equals (length s / 2) s 0 ≡ behind_equals ((length s - 0) / 2) s 0
search-start s = rw sub-zero

module _ (all : ℕ) (s : List ℕ) (at : ℕ) (inv : all ≡ behind_equals ((length s - at) / 2) s at) where
  turn : 2 ≤ length s - at → all ≡ pick (eqb (num 2 s at) 0x003D) (at + 2) (behind_equals ((length s - (at + 2)) / 2) s (at + 2))
  unfolding behind_equals
  turn h = let e : (length s - at) / 2 ≡ suc ((length s - (at + 2)) / 2) = omega arith in inv ∙ ap (λ (n : ℕ). behind_equals n s at) e

  pub search-found : {v q : ℕ} → ok v q ≡ field 2 s at → v ≡ 0x003D → all ≡ q
  search-found {v} {q} e u =
      let f = field_next 2 s at v q e in
      turn f.0 ∙ ap (λ (b : Bool). pick b (at + 2) (behind_equals ((length s - (at + 2)) / 2) s (at + 2))) (eq-eqb _ _ (f.2 ∙ u)) ∙ f.1

  pub search-on : {v q : ℕ} → ok v q ≡ field 2 s at → (v ≡ 0x003D → ⊥) → all ≡ behind_equals ((length s - q) / 2) s q
  search-on {v} {q} e u =
      let f = field_next 2 s at v q e in
      turn f.0 ∙ ap (λ (b : Bool). pick b (at + 2) (behind_equals ((length s - (at + 2)) / 2) s (at + 2))) (ne_eqb _ _ (λ (w : num 2 s at ≡ 0x003D). u (sym f.2 ∙ w)))
      ∙ ap (λ (k : ℕ). behind_equals ((length s - k) / 2) s k) f.1

  pub search-end : refuse 2 at 0 0 ≡ field 2 s at → all ≡ 0
  unfolding behind_equals
  search-end e = let h = too_short 2 s at e in let n : (length s - at) / 2 ≡ 0 = omega arith in inv ∙ ap (λ (k : ℕ). behind_equals k s at) n

-- ---- where the shown text begins

module _ (s : List ℕ) where
  pub start-short : refuse 2 0 0 0 ≡ field 8 s 0 → shown_start s ≡ 0
  unfolding shown_start
  start-short e = let h = too_short 8 s 0 e in rw (lt-leb 8 (length s) (omega arith))

  pub start-unmarked : {v q : ℕ} → ok v q ≡ field 8 s 0 → (v ≡ 0x0024_0024_0024_002F → ⊥) → shown_start s ≡ 0
  unfolding shown_start
  start-unmarked {v} {q} e u =
      let f = field_next 8 s 0 v q e in
      rw (le-leb 8 (length s) (omega arith)) (rw (ne_eqb (num 8 s 0) 0x0024_0024_0024_002F (λ (w : num 8 s 0 ≡ 0x0024_0024_0024_002F). u (sym f.2 ∙ w))))

  pub start-marked : {v q : ℕ} → ok v q ≡ field 8 s 0 → v ≡ 0x0024_0024_0024_002F → shown_start s ≡ behind_equals (length s / 2) s 0
  unfolding shown_start
  start-marked {v} {q} e u =
      let f = field_next 8 s 0 v q e in
      rw (le-leb 8 (length s) (omega arith)) (rw (eq-eqb (num 8 s 0) 0x0024_0024_0024_002F (f.2 ∙ u)))
