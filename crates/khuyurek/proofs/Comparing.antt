-- What the exported answer about two palettes comes to. Assumes nothing.
use Prim.Native.Nat.{ℕ}
use mathlib.Core.Path.{◌≡◌, sym, ap, ap₂, ◌∙◌}
use mathlib.Core.List.{List}
use Rattle.std.specs.Prelude.{Option, Some, None}
use Rattle.palette.specs.Palette.{colours}
use Rattle.palette.specs.declared.Kind.{Kind}
use Rattle.palette_compare.specs.Compare.{Comparison, comparison}
use Rattle.khuyurek.specs.Seasons.{comparison_of, unknown_kind, compared_of, compared_by}
use Rattle.khuyurek.specs.declared.seasons.ComparedAnswer.{ComparedAnswer}

module _ (k j : Option Kind) (s t table : List ℕ) where
  pub first-unknown : {r : ComparedAnswer} → r ≡ unknown_kind → k ≡ None → (r, table) ≡ compared_by k s j t table
  first-unknown e f = ap (λ (r : ComparedAnswer). (r, table)) e ∙ sym (ap (λ (k : Option Kind). compared_by k s j t table) f)

  pub second-unknown : {r : ComparedAnswer} {a : Kind} → r ≡ unknown_kind → k ≡ Some a → j ≡ None → (r, table) ≡ compared_by k s j t table
  second-unknown e f g = ap (λ (r : ComparedAnswer). (r, table)) e ∙ sym (ap₂ (λ (k j : Option Kind). compared_by k s j t table) f g)

  pub both-known : {r : ComparedAnswer} {v : Comparison} {a b : Kind} {after : List ℕ} → r ≡ comparison_of v → k ≡ Some a → j ≡ Some b → (v, after) ≡ comparison (colours a s) (colours b t) table → (r, after) ≡ compared_by k s j t table
  both-known {v = v} {after = after} e f g h = ap (λ (r : ComparedAnswer). (r, after)) e ∙ ap compared_of h ∙ sym (ap₂ (λ (k j : Option Kind). compared_by k s j t table) f g)
