-- What a walk knows of a block. Assumes nothing.
use Prim.Native.Nat.{ℕ, ◌+◌, ◌≤◌, ◌<◌}
use mathlib.Core.Path.{◌≡◌, sym, ap, ◌∙◌}
use mathlib.Core.List.{List}
use mathlib.Core.Bool.{Bool, true, false}
use lib.Dec.{leb, ltb, eqb}
use lib.ListN.{length}
use native.Mathlib.Omega.{arith}
use Rattle.algebra.specs.Numbers.{num}
use Rattle.algebra.specs.Reader.{Res, ok, pick, rule, unless, chain, state_after, limit}
use Rattle.algebra.proofs.Inverse.{then-inv, rule-inv, pick_inv, ended-inv}
use Rattle.ase.proofs.Whole.{heading-inv}
use Rattle.ase.specs.Reading.{Entry, group_end_read, group_content, colour_content, within, deepest, content, block, open_after_entry, heading, blocks, palette, ase}
use Rattle.ase.proofs.Laws.{block_in, block-inv}
use Rattle.ase_read.proofs.Blocks.{blocked}
use Rattle.walk.specs.Walk.{gives}
use Rattle.walk.proofs.Calls.{step-read}
use Rattle.ase_walk.specs.Walking.{block_from, block_walk}

-- ---- groups are not counted

content-one : (t d n : ℕ) (s : List ℕ) (at : ℕ) {e : Entry} {q : ℕ} → content t d n s at ≡ ok e q → content t 1 n s at ≡ ok e q
unfolding content
content-one t d n s at {e} {q} x = go (eqb t 0xC001) (eqb t 0xC002) x
  where
    of : ℕ → Bool → Bool → Res Entry
    of d a b = pick a (rule (unless (ltb d deepest) 10) at (within group_content n s at)) (pick b (rule (unless (eqb n 0) 13) (at + 2) (rule (unless (ltb 0 d) 9) at (ok group_end_read (at + 6)))) (within colour_content n s at))

    go : (a b : Bool) → of d a b ≡ ok e q → of 1 a b ≡ ok e q
    go true b y = (rule-inv (unless (ltb d deepest) 10) at (within group_content n s at) y).1
    go false true y =
        let i = rule-inv (unless (eqb n 0) 13) (at + 2) (rule (unless (ltb 0 d) 9) at (ok group_end_read (at + 6))) y in
        let j = rule-inv (unless (ltb 0 d) 9) at (ok group_end_read (at + 6)) i.1 in
        ap (λ k. rule k (at + 2) (ok group_end_read (at + 6))) i.0 ∙ j.1
    go false false y = y

-- a block that was read where some groups stand open is read by a walk
pub block-item : (s : List ℕ) (d at : ℕ) (e : Entry) (q : ℕ) → block d s at ≡ ok e q → (block_from s at ≡ ok e q) × (at < length s)
block-item s d at e q x =
    let i = block-inv s d at x in
    (block_in s 1 at i.0 i.1 ∙ content-one (num 2 s at) d (num 4 s (at + 2)) s at i.2, omega (arith, i.0))

-- ---- a block takes six bytes at least, inside the file

pub block-moves : (s : List ℕ) (at : ℕ) {e : Entry} {q : ℕ} → block_from s at ≡ ok e q → (at + 6 ≤ q) × (q ≤ length s)
block-moves s at x = let b = blocked 1 s at x in (omega (arith, b.next), b.inside)

pub walk-moves : (s : List ℕ) (at : ℕ) (e : Entry) (q : ℕ) → block_walk s at ≡ (gives e, q) → (at < q) × (q ≤ length s)
walk-moves s at e q x = let m = block-moves s at (step-read block_from s at x) in (omega arith, m.1)

-- ---- an accepted file

-- its blocks stand one behind the other from the heading to the file's end
pub accepted-chain : (s : List ℕ) {es : List Entry} {q : ℕ} → ase s ≡ ok es q → (12 ≤ length s) × (n : ℕ) × (chain open_after_entry block n 0 s 12 ≡ ok es (length s))
unfolding ase palette blocks
accepted-chain s {es} {q} e =
    let i = pick_inv (leb (length s) limit) (palette s 0) 1 0 0 0 e in
    let h = then-inv (heading s 0) _ i.1 in
    let b = then-inv (blocks h.0 s h.1) _ h.3 in
    let c = then-inv (chain open_after_entry block h.0 0 s h.1) _ b.2 in
    let r = rule-inv (unless (eqb (state_after open_after_entry 0 c.0) 0) 9) c.1 (ok c.0 c.1) c.3 in
    let z = ended-inv b.0 s b.1 b.3 in
    let p = heading-inv s h.2 in
    (p.1, h.0, ap (λ (k : ℕ). chain open_after_entry block h.0 0 s k) (sym p.0) ∙ c.2 ∙ r.1 ∙ ap (λ (l : List Entry). ok l b.1) z.1 ∙ ap (λ (k : ℕ). ok es k) z.0)
