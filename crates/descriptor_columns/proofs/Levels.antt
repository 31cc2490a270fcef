-- Levels in an array. Assumes nothing.
use Prim.Native.Nat.{ℕ, zero, suc, ◌+◌, ◌-◌, ◌≤◌, ◌<◌}
use mathlib.Core.Path.{◌≡◌, refl, ap, ◌∙◌}
use mathlib.Core.List.{List, [], ◌∷◌}
use lib.ListN.{length, set, get_or}
use lib.Seq.{get_or-set_same, get_or-set_other}
use native.Mathlib.Omega.{arith}
use Rattle.descriptor_columns.specs.scaffold.Filling.{dues}
use Rattle.descriptor_columns.specs.declared.Level.{Level}

abbrev pub level : ℕ → ℕ → ℕ → ℕ → ℕ → Level
level what objects left row first = record { what = what; objects = objects; left = left; row = row; first = first }

-- an element that no level has
abbrev pub nothing : Level
nothing = record { what = 0; objects = 0; left = 0; row = 0; first = 0 }

-- the first d of an array, the last first
abbrev pub levels : List Level → ℕ → List Level
levels saved zero = []
levels saved (suc d) = get_or saved d nothing ∷ levels saved d

pub levels-length : (saved : List Level) (d : ℕ) → length (levels saved d) ≡ d
levels-length saved zero = refl
levels-length saved (suc d) = ap suc (levels-length saved d)

pub levels-set : (saved : List Level) (d : ℕ) (l : Level) (n : ℕ) → n ≤ d → levels (set saved d l) n ≡ levels saved n
levels-set saved d l zero w = refl
levels-set saved d l (suc n) w =
    ap (λ (x : Level). x ∷ levels (set saved d l) n) (get_or-set_other saved d n l nothing (λ e. absurd (omega (arith, e, w))))
    ∙ ap (λ (x : List Level). get_or saved n nothing ∷ x) (levels-set saved d l n (omega arith))

pub levels-push : (saved : List Level) (d : ℕ) (l : Level) → d < length saved → levels (set saved d l) (d + 1) ≡ l ∷ levels saved d
levels-push saved d l w =
    let e : d + 1 ≡ suc d = omega arith in
    ap (levels (set saved d l)) e
    ∙ ap (λ (x : Level). x ∷ levels (set saved d l) d) (get_or-set_same saved d l nothing w)
    ∙ ap (λ (x : List Level). l ∷ x) (levels-set saved d l d (omega arith))

pub levels-pop : (saved : List Level) (d : ℕ) → (d ≡ 0 → ⊥) → levels saved d ≡ get_or saved (d - 1) nothing ∷ levels saved (d - 1)
levels-pop saved zero z = absurd (z refl)
levels-pop saved (suc d) z = let e : d ≡ suc d - 1 = omega arith in ap (λ (x : ℕ). get_or saved x nothing ∷ levels saved x) e

pub dues-length : (ls : List Level) → length (dues ls) ≡ length ls
dues-length [] = refl
dues-length (l ∷ ls) = ap suc (dues-length ls)
