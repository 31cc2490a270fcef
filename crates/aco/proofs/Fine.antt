-- A field's content is fine exactly where it is right, whatever it would be refused by. Assumes nothing.
use Prim.Native.Nat.{ℕ, ◌≤◌}
use mathlib.Core.Path.{◌≡◌, refl}
use mathlib.Core.Bool.{true}
use lib.Dec.{leb, eqb}
use borrow.Author.Tests.{le-leb, leb-true, eq-eqb, eqb-true}
use Rattle.algebra.specs.Reader.{fine}
use Rattle.algebra.proofs.Inverse.{unless-fine, pick-fine}
use Rattle.colour.specs.declared.space.Colour.{Colour}
use Rattle.colour.specs.Spaces.{known, allowed}
use Rattle.aco.specs.Reading.{space, sample, version, first_count, field_of, compared, second_count}

pub space-fine : (x : ℕ) → known x ≡ true → space x ≡ fine
space-fine x e = simp e

pub sample-fine : (x k v : ℕ) → allowed x k v ≡ true → sample x k v ≡ fine
sample-fine x k v e = simp e

pub version-fine : (v : ℕ) → version v v ≡ fine
version-fine v = simp (eq-eqb v v refl)

pub first_fine : (n : ℕ) → n ≤ 4096 → first_count n ≡ fine
first_fine n h = simp (le-leb n 4096 h)

pub second-fine : (n m : ℕ) → m ≡ n → second_count n m ≡ fine
second-fine n m e = simp (eq-eqb m n e)

pub compared-fine : (i : ℕ) (c : Colour) (f v : ℕ) → v ≡ field_of c f → compared i c f v ≡ fine
compared-fine i c f v e = simp (eq-eqb v (field_of c f) e)

-- ---- the other way

pub fine-space : (x : ℕ) → space x ≡ fine → known x ≡ true
fine-space x e = unless-fine (known x) _ e

pub fine-sample : (x k v : ℕ) → sample x k v ≡ fine → allowed x k v ≡ true
fine-sample x k v e = unless-fine (allowed x k v) _ e

pub fine-version : (v x : ℕ) → version v x ≡ fine → x ≡ v
fine-version v x e = eqb-true x v (unless-fine (eqb x v) _ e)

pub fine-first : (n : ℕ) → first_count n ≡ fine → n ≤ 4096
fine-first n e = leb-true n 4096 (unless-fine (leb n 4096) _ e)

pub fine-second : (n m : ℕ) → second_count n m ≡ fine → m ≡ n
fine-second n m e = eqb-true m n (pick-fine (eqb m n) _ _ _ e)

pub fine-compared : (i : ℕ) (c : Colour) (f v : ℕ) → compared i c f v ≡ fine → v ≡ field_of c f
fine-compared i c f v e = eqb-true v (field_of c f) (pick-fine (eqb v (field_of c f)) _ _ _ e)
