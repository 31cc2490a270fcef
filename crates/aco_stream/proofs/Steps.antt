-- What is kept of an item, and what the end answers, on plain values. Assumes nothing.
use Prim.Native.Nat.{ℕ}
use mathlib.Core.Path.{◌≡◌, refl, sym, ap, ◌∙◌}
use mathlib.Core.List.{List, [], ◌∷◌}
use lib.ListN.{length}
use native.Mathlib.Omega.{arith}
use Rattle.algebra.specs.Reader.{Res, ok, refuse}
use Rattle.algebra.specs.Table.{accepted}
use Rattle.aco_chunks.specs.declared.Stage.{Stage}
use Rattle.aco_chunks.specs.declared.Stage.TheVariants as v
use Rattle.aco_chunks.specs.Chunks.{FileVerdict, kept, second, cut, item, ending}

-- what is kept does not depend on what the item gave
pub kept_any : (g : Stage) (m : Res ℕ) (u q : ℕ) (b store : List ℕ) → m ≡ ok u q → kept g (ok 0 0) b store ≡ kept g m b store
kept_any g m u q b store e = go g ∙ sym (ap (λ (m : Res ℕ). kept g m b store) e)
  where
    go : (g : Stage) → kept g (ok 0 0) b store ≡ kept g (ok u q) b store
    go v.First = refl
    go (v.Colour n i) = refl
    go (v.Second n) = refl
    go (v.Entry n i) = refl
    go (v.Unit n i at k z) = refl
    go (v.End n) = refl
    go (v.Fault x p r f) = refl

pub kept-none : (g : Stage) (m : Res ℕ) (x p r f : ℕ) (b store : List ℕ) → m ≡ refuse x p r f → store ≡ kept g m b store
kept-none g m x p r f b store e = go g ∙ sym (ap (λ (m : Res ℕ). kept g m b store) e)
  where
    go : (g : Stage) → store ≡ kept g (refuse x p r f) b store
    go v.First = refl
    go (v.Colour n i) = refl
    go (v.Second n) = refl
    go (v.Entry n i) = refl
    go (v.Unit n i at k z) = refl
    go (v.End n) = refl
    go (v.Fault y q s h) = refl

-- the file ends after list 1, or list 2 has begun
pub second_none : (n : ℕ) (b : List ℕ) → length b ≡ 0 → (w : FileVerdict) → accepted (n, 1) ≡ second n b w
second_none n [] e w = refl
second_none n (x ∷ b) e w = absurd (omega arith)

pub second-some : (n : ℕ) (b : List ℕ) → (length b ≡ 0 → ⊥) → (w : FileVerdict) → w ≡ second n b w
second-some n [] e w = absurd (e refl)
second-some n (x ∷ b) e w = refl

pub ending-none : {g : Stage} {n : ℕ} (from : ℕ) (b store : List ℕ) → g ≡ v.Second n → length b ≡ 0 → accepted (n, 1) ≡ ending g from b store
unfolding ending
ending-none {g} {n} from b store e l = second_none n b l (cut from (item store (v.Second n) b 0)) ∙ sym (ap (λ (g : Stage). ending g from b store) e)

pub ending-some : {g : Stage} {n : ℕ} (from : ℕ) (b store : List ℕ) (w : FileVerdict) → g ≡ v.Second n → (length b ≡ 0 → ⊥) → w ≡ cut from (item store (v.Second n) b 0) → w ≡ ending g from b store
unfolding ending
ending-some {g} {n} from b store w e l h =
    h ∙ second-some n b l (cut from (item store (v.Second n) b 0)) ∙ sym (ap (λ (g : Stage). ending g from b store) e)
