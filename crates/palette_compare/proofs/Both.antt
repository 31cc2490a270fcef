-- The loop over both palettes. Assumes nothing.
use Prim.Native.Nat.{ℕ, ◌+◌, ◌*◌, ◌≤◌, ◌<◌}
use mathlib.Core.Path.{◌≡◌, sym, ap, ap₂, ◌∙◌, subst, subst₂}
use mathlib.Core.List.{List, [], ◌∷◌}
use mathlib.Core.Bool.{Bool, true, false}
use lib.Dec.{eqb}
use lib.ListN.{length, get_or}
use lib.Seq.{sets}
use native.Mathlib.Omega.{arith}
use Rattle.algebra.specs.Numbers.{Bytes}
use Rattle.algebra.specs.Reader.{pick, limit}
use Rattle.palette.specs.PaletteStep.{first_at, view_of, step_of, told_palette_step}
use Rattle.palette.specs.scaffold.Turn.{colours_in, place_of, kind_seen}
use Rattle.palette.specs.declared.Kind.{Kind}
use Rattle.palette.specs.declared.View.{View}
use Rattle.palette.specs.declared.PaletteStep.{PaletteStep}
use Rattle.palette.proofs.Turns.{in-turn, few, seen-kind, first-place}
use Rattle.palette_compare.specs.Compare.{rows}
use Rattle.palette_compare.specs.scaffold.Parts.{kinds_in, kind_at, StoredTo, Both}
use Rattle.palette_compare.proofs.Laws.{kind-turn, kinds-at, kinds-below, stored-start, stored-turn}

pub marked-one : (b : Bool) → pick b 0 1 ≤ 1
marked-one true = omega arith
marked-one false = omega arith

module _ (k j : Kind) (s t : List ℕ) (n : ℕ) (t₀ : List ℕ) where
  start : (p q : ℕ) → p ≡ first_at k s → q ≡ first_at j t → n ≤ length (colours_in k s) → n ≤ length (colours_in j t) → 2 * n ≤ length t₀ → Both (view_of k j) (view_of j k) s t n t₀ t₀ p q 0 0
  start p q e f a b room =
      let x : kind_seen (view_of k j) ≡ k = seen-kind k j in
      let y : kind_seen (view_of j k) ≡ j = seen-kind j k in record {
        below = omega arith;
        first = subst (λ (z : Kind). n ≤ length (colours_in z s)) (sym x) a;
        second = subst (λ (z : Kind). n ≤ length (colours_in z t)) (sym y) b;
        room = room;
        seen = ap₂ view_of x y;
        beside = ap₂ view_of y x;
        place = e ∙ first-place k s ∙ ap (λ (z : Kind). place_of z s 0) (sym x);
        other = f ∙ first-place j t ∙ ap (λ (z : Kind). place_of z t 0) (sym y);
        stored = stored-start _ t₀;
        few = omega arith;
      }

  pub both-start : {v w : View} (p q : ℕ) → v ≡ view_of k j → w ≡ view_of j k → p ≡ first_at k s → q ≡ first_at j t → n ≤ length (colours_in k s) → n ≤ length (colours_in j t) → 2 * n ≤ length t₀ → Both v w s t n t₀ t₀ p q 0 0
  both-start p q ev ew e f a b room = subst₂ (λ (v w : View). Both v w s t n t₀ t₀ p q 0 0) (sym ev) (sym ew) (start p q e f a b room)

  pub both_end : (v w : View) (t₁ : List ℕ) (p q d i : ℕ) → v ≡ view_of k j → w ≡ view_of j k → n ≤ i → Both v w s t n t₀ t₁ p q d i → StoredTo (kinds_in k s j t) t₀ t₁ n d
  both_end v w t₁ p q d i ev ew h b =
      let x : kind_seen v ≡ k = ap kind_seen ev ∙ seen-kind k j in
      let y : kind_seen w ≡ j = ap kind_seen ew ∙ seen-kind j k in
      let z : i ≡ n = omega (arith, b.below) in
      subst (λ (m : ℕ). StoredTo (kinds_in k s j t) t₀ t₁ m d) z (subst₂ (λ (a b : Kind). StoredTo (kinds_in a s b t) t₀ t₁ i d) x y b.stored)

module _ (v w : View) (s t : List ℕ) (bs : Bytes s) (bt : Bytes t) (n : ℕ) (t₀ t₁ : List ℕ) (p q d i : ℕ) (b : Both v w s t n t₀ t₁ p q d i) (h : i < n) where
  pub few-positions : i < limit
  few-positions = omega (arith, few (kind_seen v) s bs, b.first)

  pub both-turn : (x y : PaletteStep) (kind c : ℕ) (t₂ : List ℕ) → told_palette_step x ≡ step_of v s p → told_palette_step y ≡ step_of w t q → kind ≡ kind_at s x t y → t₂ ≡ sets t₁ (2 * i) (rows i (kind ∷ [])) → c ≡ pick (eqb kind 0) 0 1
      → Both v w s t n t₀ t₂ x.next y.next (d + c) (i + 1)
  both-turn x y kind c t₂ ex ey ek et ec =
      let k : Kind = kind_seen v in
      let j : Kind = kind_seen w in
      let u = in-turn k j s bs i (omega (arith, b.first)) in
      let r = in-turn j k t bt i (omega (arith, b.second)) in
      let fx : told_palette_step x ≡ step_of (view_of k j) s (place_of k s i) = ex ∙ ap₂ (λ (a : View) (z : ℕ). step_of a s z) (sym b.seen) b.place in
      let fy : told_palette_step y ≡ step_of (view_of j k) t (place_of j t i) = ey ∙ ap₂ (λ (a : View) (z : ℕ). step_of a t z) (sym b.beside) b.other in
      let m = kind-turn k j s t u r x y fx fy in
      let at : kind ≡ get_or (kinds_in k s j t) i 0 = ek ∙ m.0 ∙ sym (kinds-at (colours_in k s) (colours_in j t) i (omega (arith, b.first)) (omega (arith, b.second))) in
      let inside : i < length (kinds_in k s j t) = kinds-below (colours_in k s) (colours_in j t) i (omega (arith, b.first)) in record {
        below = omega arith;
        first = b.first;
        second = b.second;
        room = b.room;
        seen = b.seen;
        beside = b.beside;
        place = m.1;
        other = m.2;
        stored = stored-turn (kinds_in k s j t) t₀ t₁ t₂ i d kind c b.stored inside et at ec;
        few = omega (arith, b.few, ec, marked-one (eqb kind 0));
      }
