-- What a refused file answers. Assumes nothing.
use Prim.Native.Nat.{ℕ}
use mathlib.Core.Path.{◌≡◌, ap, ◌∙◌}
use mathlib.Core.List.{List}
use lib.ListN.{length}
use native.Mathlib.Omega.{arith}
use Rattle.algebra.specs.Reader.{Res, ok, refuse, map_res}
use Rattle.descriptor.specs.Reading.{descriptor}
use Rattle.descriptor_judge.specs.Answer.{Verdict, verdict}
use Rattle.descriptor_judge.specs.Answer as A
use Rattle.descriptor_heads.specs.Heads.{Opened, file_heads}
use Rattle.descriptor_heads.specs.Rows.{rows_of}
use Rattle.descriptor_heads.proofs.Theorem.{rows_are}
use Rattle.descriptor_entries.specs.Answered.{answered, entered}

-- what judging refuses is refused
pub refuses : (s : List ℕ) (x p : ℕ) → A.refused x p ≡ verdict (descriptor s) → (run : List ℕ) → ◌≡◌ {A = Verdict × List ℕ} (A.refused x p, run) (entered s run)
refuses s x p v run = go (file_heads s) (v ∙ ap verdict (rows_are s))
  where
    go : (m : Res (List Opened)) → A.refused x p ≡ verdict (map_res (rows_of (length s)) m) → ◌≡◌ {A = Verdict × List ℕ} (A.refused x p, run) (answered s m run)
    go (ok os q) e = let z : ◌≡◌ {A = ℕ} 0 1 = cc in absurd (omega (arith, z))
    go (refuse y q r f) e = ap (λ (w : Verdict). (w, run)) e
