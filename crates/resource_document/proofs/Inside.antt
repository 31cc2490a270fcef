-- The section that is answered lies inside what was lent. Assumes nothing.
use Prim.Native.Nat.{ℕ, ◌+◌, ◌≤◌}
use mathlib.Core.Path.{◌≡◌, ap}
use mathlib.Core.List.{List}
use lib.Dec.{leb}
use lib.ListN.{length}
use borrow.Author.Tests.{leb-true}
use native.Mathlib.Omega.{arith}
use Rattle.algebra.specs.Reader.{ok, field, body, unless, limit}
use Rattle.algebra.proofs.Inverse.{then-inv, rule-inv, unless-fine, field-inv, body-inv, ok-value}
use Rattle.resource_document.specs.Reading.{start, image, colours, resources_in, document}

-- a section of some bytes begins and ends inside the lent bytes, and is within the limit; of an empty one the place does not pass the end
pub section-inside : (s : List ℕ) {p n q : ℕ} → document s ≡ ok (p, n) q → (p + n ≤ length s) × (n ≤ limit)
unfolding document resources_in
section-inside s {p} {n} {q} e =
    let a = then-inv (start s 0) _ e in
    let b = then-inv (image s a.1) _ a.3 in
    let c = then-inv (colours s b.1) _ b.3 in
    let d = then-inv (field 4 s c.1) _ c.3 in
    let f = rule-inv (unless (leb d.0 limit) 1) 0 _ d.3 in
    let g = then-inv (body 1 d.0 s d.1) _ f.1 in
    let i = field-inv 4 s c.1 d.2 in
    let j = body-inv 1 s d.1 d.0 g.2 in
    let v = ok-value g.3 in
    let x : d.1 ≡ p = ap (λ (y : ℕ × ℕ). y.0) v in
    let y : d.0 ≡ n = ap (λ (y : ℕ × ℕ). y.1) v in
    (omega (arith, i.0, i.2, j.0), omega (arith, leb-true d.0 limit (unless-fine (leb d.0 limit) 1 f.0)))
