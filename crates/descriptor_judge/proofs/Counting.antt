-- Rows are counted: siblings in a loop, one row or more each. Assumes nothing.
use Prim.Native.Nat.{ℕ, suc, ◌+◌, ◌*◌, ◌-◌, ◌≤◌, ◌<◌}
use mathlib.Core.Path.{◌≡◌, refl, sym, ap, ap₂, subst, ◌∙◌}
use mathlib.Core.List.{List, [], ◌++◌}
use mathlib.Core.Bool.{Bool, true, false}
use lib.ListN.{length, length-append}
use native.Mathlib.Omega.{arith}
use native.Mathlib.Nat.{add-zero}
use Rattle.algebra.specs.Reader.{Res, ok, refuse, Reader, then}
use Rattle.std.specs.Prelude.{Result, Ok, Err}
use Rattle.fault.specs.Answer.{told_end}
use Rattle.fault.specs.declared.Refusal.{Refusal}
use Rattle.descriptor.specs.Reading.{Row, headed, siblings}
use Rattle.descriptor.proofs.Ends.{Accepts, yes, accepted}
use Rattle.descriptor.proofs.Tiling.{Reach, list-reach, object-reach, reference-reach, array-reach}
use Rattle.descriptor_judge.specs.scaffold.Cycle.{holder_of, held_of}
use Rattle.descriptor_judge.specs.scaffold.Counting.{told_row, walked, single, own_too, Small, Within}
use Rattle.descriptor_judge.proofs.Alike.{alike-walked, Free, alike-siblings}

-- ---- answers

-- an answer that accepts tells the layout's case
pub walked_next : (m : Res (List Row)) (q j : ℕ) → ok j q ≡ walked m → (rs : List Row) × (m ≡ ok rs q) × (j ≡ length rs)
walked_next (ok rs r) q j h = (rs, let z : r ≡ q = cc in ap (λ (x : ℕ). ok rs x) z, cc)
walked_next (refuse x p r f) q j h = let z : ◌≡◌ {A = ℕ} 0 1 = cc in absurd (omega arith)

-- a refusal by the layout's
pub walked-no : {m : Res (List Row)} {x p r f : ℕ} → m ≡ refuse x p r f → refuse x p 0 0 ≡ walked m
walked-no e = sym (ap walked e)

-- a row counts for one
pub walked-headed : (t d p first v : ℕ) (m : Res (List Row)) → own_too (walked m) ≡ walked (headed t d p first v m)
walked-headed t d p first v (ok rs q) = let z : length rs + 1 ≡ suc (length rs) = omega arith in ap (λ (k : ℕ). ok k q) z
walked-headed t d p first v (refuse x y r f) = refl

-- a row that has no member
pub walked-plain : (t d p first v : ℕ) (m : Res Unit) → single m ≡ walked (headed t d p first v (then m (λ u q. ok [] q)))
walked-plain t d p first v (ok u q) = refl
walked-plain t d p first v (refuse x y r f) = refl

pub told-row : (r : Result ℕ Refusal) → told_row r ≡ single (told_end r)
told-row (Ok n) = refl
told-row (Err e) = refl

-- counts in a file within the limit are small
walked-small : (s : List ℕ) (lo : ℕ) (m : Res (List Row)) → length s ≤ 16777216 → Accepts (Reach s lo) m → Small (walked m)
walked-small s lo (ok rs q) l (yes b r w) = omega (arith, w.low, w.high)
walked-small s lo (refuse x p r f) l w = tt

module _ {s : List ℕ} {d at : ℕ} (here : Within s d at at) {w : Res ℕ} where
  pub holder-small : (b : Bool) → w ≡ walked (holder_of b d 0 s at) → Small w
  holder-small true e = subst Small (sym e) (walked-small s at _ here.size (object-reach s d 0 at here.levels here.inside))
  holder-small false e = subst Small (sym e) (walked-small s at _ here.size (list-reach s d 0 at here.levels here.inside))

  pub held_small : (b : Bool) → w ≡ walked (held_of b d 0 s at) → Small w
  held_small true e = subst Small (sym e) (walked-small s at _ here.size (array-reach s d 0 at here.levels here.inside))
  held_small false e = subst Small (sym e) (walked-small s at _ here.size (reference-reach s d 0 at here.levels here.inside))

-- ---- siblings

-- rows, and those of an answer
abbrev pub add : ℕ → Res ℕ → Res ℕ
add n (ok k q) = ok (n + k) q
add n (refuse x p r f) = refuse x p r f

add_none : (w : Res ℕ) → w ≡ add 0 w
add_none (ok k q) = let z : k ≡ 0 + k = omega arith in ap (λ (n : ℕ). ok n q) z
add_none (refuse x p r f) = refl

add-add : (n m : ℕ) (w : Res ℕ) → add n (add m w) ≡ add (n + m) w
add-add n m (ok k q) = let z : n + (m + k) ≡ n + m + k = omega arith in ap (λ (n : ℕ). ok n q) z
add-add n m (refuse x p r f) = refl

add-walked : (rs : List Row) (m : Res (List Row)) → walked (then m (λ qs e. ok (rs ++ qs) e)) ≡ add (length rs) (walked m)
add-walked rs (ok qs q) = ap (λ (n : ℕ). ok n q) (length-append rs qs)
add-walked rs (refuse x p r f) = refl

module _ (f : ℕ → Reader (List Row)) (s : List ℕ) (n at₀ : ℕ) where
  -- after i of n siblings, which have so many rows: the rest goes on at `next`
  pub record Going (next rows i : ℕ) : Type 0 where
    pub rest : walked (siblings f n 1 s at₀) ≡ add rows (walked (siblings f (n - i) 1 s next))
    pub turns : i ≤ n
    pub reach : at₀ + 5 * rows ≤ next
    pub inside : next ≤ length s

  pub going_start : at₀ ≤ length s → Going at₀ 0 0
  going_start w = record {
    rest = let z : n ≡ n - 0 = omega arith in add_none (walked (siblings f n 1 s at₀)) ∙ ap (λ (m : ℕ). add 0 (walked (siblings f m 1 s at₀))) z;
    turns = omega arith;
    reach = omega arith;
    inside = w;
  }

  one_more : (i at : ℕ) → i < n → siblings f (n - i) 1 s at ≡ then (f 1 s at) (λ rs q. then (siblings f (n - (i + 1)) (1 + length rs) s q) (λ qs e. ok (rs ++ qs) e))
  unfolding siblings
  one_more i at h = let e : n - i ≡ suc (n - (i + 1)) = omega arith in ap (λ (m : ℕ). siblings f m 1 s at) e

  no_more : (i at : ℕ) → n ≤ i → siblings f (n - i) 1 s at ≡ ok [] at
  unfolding siblings
  no_more i at h = let e : n - i ≡ 0 = omega arith in ap (λ (m : ℕ). siblings f m 1 s at) e

  module _ {next rows i : ℕ} (g : Going next rows i) where
    -- all of them were read
    pub all_read : n ≤ i → ok rows next ≡ walked (siblings f n 1 s at₀)
    all_read h = sym (g.rest ∙ ap (λ (m : Res (List Row)). add rows (walked m)) (no_more i next h) ∙ ap (λ (k : ℕ). ok k next) (add-zero rows))

    module _ (free : Free s f f) (h : i < n) {w : Res ℕ} (e : w ≡ walked (f 0 s next)) where
      -- what the sibling is, by any row number
      sibling : walked (f 1 s next) ≡ w
      sibling = alike-walked (free 1 0 next) ∙ sym e

      -- how far a sibling reaches that was read
      pub turn-reach : Accepts (Reach s next) (f 0 s next) → (q j : ℕ) → w ≡ ok j q → (next + 5 * j ≤ q) × (q ≤ length s)
      turn-reach b q j x =
          let y = walked_next (f 0 s next) q j (sym x ∙ e) in
          let z = accepted b y.0 q y.1 in
          (omega (arith, y.2, z.low), z.high)

      -- a turn whose sibling was read
      pub turn : Accepts (Reach s next) (f 0 s next) → (q j : ℕ) → w ≡ ok j q → Going q (rows + j) (i + 1)
      turn b q j x =
          let y = walked_next (f 1 s next) q j (sym x ∙ sym sibling) in
          let z = turn-reach b q j x in
          let m : ℕ = n - (i + 1) in record {
            rest = g.rest ∙ ap (λ (r : Res (List Row)). add rows (walked r)) (one_more i next h ∙ ap (λ (r : Res (List Row)). then r (λ rs q. then (siblings f m (1 + length rs) s q) (λ qs e. ok (rs ++ qs) e))) y.1)
                ∙ ap (add rows) (add-walked y.0 (siblings f m (1 + length y.0) s q) ∙ ap₂ add (sym y.2) (alike-walked (alike-siblings s f f free m (1 + length y.0) 1 q)))
                ∙ add-add rows j (walked (siblings f m 1 s q));
            turns = omega arith;
            reach = omega (arith, g.reach, z.0);
            inside = z.1;
          }

      -- a turn whose sibling is refused: so is all
      pub turn-no : (x p : ℕ) → w ≡ refuse x p 0 0 → refuse x p 0 0 ≡ walked (siblings f n 1 s at₀)
      turn-no x p y = sym (g.rest ∙ ap (add rows) (ap walked (one_more i next h) ∙ go (f 1 s next) (sibling ∙ y)))
        where
          go : (m : Res (List Row)) → walked m ≡ refuse x p 0 0 → walked (then m (λ rs q. then (siblings f (n - (i + 1)) (1 + length rs) s q) (λ qs e. ok (rs ++ qs) e))) ≡ refuse x p 0 0
          go (ok rs q) z = let z : ◌≡◌ {A = ℕ} 0 1 = cc in absurd (omega arith)
          go (refuse a b r f) z = z

  -- the same of members that are one row each
  pub all-single : {next i : ℕ} → Going next i i → n ≤ i → ok n next ≡ walked (siblings f n 1 s at₀)
  all-single {next} {i} g h = let z : n ≡ i = omega (arith, g.turns) in ap (λ (k : ℕ). ok k next) z ∙ all_read g h
