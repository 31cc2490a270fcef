-- The units of a name are the numbers that stand where it lies. Assumes nothing.
use Prim.Native.Nat.{ℕ, zero, suc, ◌+◌, ◌*◌, ◌-◌, ◌≤◌, ◌<◌, ◌^◌}
use mathlib.Core.Path.{◌≡◌, refl, sym, ap, ◌∙◌, subst}
use mathlib.Core.List.{List, []}
use lib.ListN.{length, take, length-take}
use lib.Seq.{get_or-take}
use native.Mathlib.Omega.{arith}
use Rattle.algebra.specs.Numbers.{be, joined, nums, Bytes, All}
use Rattle.algebra.specs.Reader.{ok}
use Rattle.algebra.specs.Text.{Name, name, front}
use Rattle.algebra.proofs.Inverse.{name-inv, front-nums}
use Rattle.algebra.proofs.Places.{length-nums, nums-cong, nums-lt, part-nums}
use Rattle.walk.specs.Names.{name_part}
use Rattle.walk.proofs.Names.{part-is}

pub record Spelt (s : List ℕ) (nm : Name) : Type 0 where
  pub units : nm.units ≡ nums 2 (length nm.units) s nm.first
  pub inside : nm.first + 2 * length nm.units ≤ length s

pub no-name-spelt : (s : List ℕ) → Spelt s (record { first = 0; units = [] })
unfolding nums
no-name-spelt s = record { units = refl; inside = omega arith }

pub name-spelt : (w : ℕ) (s : List ℕ) (at : ℕ) {nm : Name} {q : ℕ} → name w s at ≡ ok nm q → Spelt s nm
name-spelt w s at {nm} {q} e = let i = name-inv w s at e in go i.0 i.1.some i.1.inside i.1.room i.1.is
  where
    go : (n : ℕ) → 0 < n → n * 2 ≤ length s - (at + w) → w ≤ length s - at → record { first = at + w; units = front (nums 2 n s (at + w)) } ≡ nm → Spelt s nm
    go zero h ins room is = absurd (omega arith)
    go (suc n) h ins room is =
        let us : front (nums 2 (suc n) s (at + w)) ≡ nums 2 n s (at + w) = front-nums 2 n s (at + w) in
        let l : length (front (nums 2 (suc n) s (at + w))) ≡ n = ap length us ∙ length-nums 2 n s (at + w) in
        subst (Spelt s) is (record { units = us ∙ ap (λ (k : ℕ). nums 2 k s (at + w)) (sym l); inside = omega arith })

-- a name in a file that was cut behind it stands in the file
pub cut-spelt : (s : List ℕ) (k : ℕ) {nm : Name} → Spelt (take k s) nm → Spelt s nm
cut-spelt s k {nm} p =
    let n : ℕ = length nm.units in
    let l : length (take k s) ≤ k = omega (arith, length-take k s) in
    let m : length (take k s) ≤ length s = omega (arith, length-take k s) in record {
      units = p.units ∙ nums-cong 2 s (take k s) n nm.first (λ j h. get_or-take k s (nm.first + j) 0 (omega (arith, p.inside)));
      inside = omega (arith, p.inside);
    }

module _ (s : List ℕ) (bytes : Bytes s) (nm : Name) (p : Spelt s nm) where
  pub spelt-bytes : name_part s nm.first (length nm.units) ≡ joined (be 2) nm.units
  spelt-bytes =
      let n : ℕ = length nm.units in
      let k : 2 * n ≡ n * 2 = omega arith in
      sym (part-is s nm.first n p.inside) ∙ part-nums 2 s bytes n nm.first (2 * n) k (omega (arith, p.inside)) ∙ ap (joined (be 2)) (sym p.units)

  pub spelt-fit : All (λ k u. u < 256 ^ 2) 0 nm.units
  spelt-fit = subst (All (λ k u. u < 256 ^ 2) 0) (sym p.units) (nums-lt 2 s bytes (length nm.units) nm.first 0)
