use Rattle.std.proofs.Common.{arith, ◌≡◌, ◌<◌, ℕ, slice_index_or}
use Rattle.algebra.proofs.Lanes.{four-loaded}
use Rattle.names.proofs.four_at.Goals as goal

pub returns : goal.returns
returns c =
    let s = c.args.s.now in
    let byte : (i x : ℕ) → x ≡ slice_index_or s i 0 → (x ≡ slice_index_or s i 0) × (x < 256) = λ i x e. let h = c.type_inv.s i in (e, omega arith) in
    let a = c.args.at in
    four-loaded s a _ _ _ _ _ _ _ _
    (byte _ _ c.from.ensures)
    (byte _ _ c.from-2.ensures)
    (byte _ _ c.from-3.ensures)
    (byte _ _ c.from-4.ensures)
    (byte _ _ c.from-5.ensures)
    (byte _ _ c.from-6.ensures)
    (byte _ _ c.from-7.ensures)
    (byte _ _ c.from-8.ensures)
