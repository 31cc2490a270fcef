-- A whole section: the grammar's bytes are read as the blocks that they were made of, and what was read is the grammar's bytes. Assumes nothing.
use Prim.Native.Nat.{ℕ, zero, suc, ◌+◌, ◌≤◌, ◌<◌}
use mathlib.Core.Path.{◌≡◌, refl, sym, ap, ◌∙◌, subst}
use mathlib.Core.List.{List, [], ◌∷◌, map}
use lib.Dec.{leb}
use lib.ListN.{length, length-append}
use borrow.Author.Tests.{le-leb, eq-eqb, ne_eqb, eqb-true, leb-true}
use native.Mathlib.Omega.{arith}
use native.Mathlib.Nat.{zero-add}
use Rattle.algebra.specs.Numbers.{joined, At, Bytes, All, AllIn}
use Rattle.algebra.specs.Reader.{Res, ok, refuse, then, at_end, until}
use Rattle.algebra.specs.Algebra.{Exact}
use Rattle.algebra.proofs.Places.{at-whole, at_all}
use Rattle.algebra.proofs.Inverse.{pick_inv}
use Rattle.algebra.proofs.Chain.{all_in, in_all}
use Rattle.algebra.proofs.Until.{Went, stopped, spent, went, until-inv, until_stop, until-turn, until-enough, until-reads, until-writes, end-going}
use Rattle.resource.specs.Grammar.{Block, block_bytes, section_bytes, Allowed, Section, section}
use Rattle.resource.specs.Reading.{Entry, block_of, block, blocks, resources}
use Rattle.resource.proofs.Lies.{block-lies}
use Rattle.resource.proofs.Placed.{block-placed, end-placed}
use Rattle.resource.proofs.Laws.{length-block, bytes-section, block-exact}

-- blocks have no state
abbrev pub same : {A : Type 0} → Unit {0} → A → Unit {0}
same u a = u

abbrev pub AllAllowed : List Block → Type 0
AllAllowed bs = AllIn same (λ u. Allowed) (tt {0}) bs

pub in-allowed : (i : ℕ) (bs : List Block) → All (λ k b. Allowed b) i bs → AllAllowed bs
in-allowed i bs h = all_in same Allowed tt i bs h

pub block-some : (u : Unit {0}) (b : Block) → Allowed b → 0 < length (block_bytes b)
block-some u b fit = omega (arith, length-block b)

-- no section has more blocks than bytes
pub few-blocks : (bs : List Block) → length bs ≤ length (section_bytes bs)
unfolding joined
few-blocks [] = omega arith
few-blocks (b ∷ bs) = omega (arith, length-append (block_bytes b) (section_bytes bs), length-block b, few-blocks bs)

-- ---- one block after the other

module _ (s : List ℕ) where
  -- a block takes a byte at least, and ends inside
  pub block-moves : (at : ℕ) (e : Entry) (q : ℕ) → at ≤ length s → block s at ≡ ok e q → (at < q) × (q ≤ length s)
  block-moves at e q le h = (omega (arith, (block-lies s at h).1), end-placed (block s at) (block-placed s at le) h)

  -- it goes on to the section's end
  ends_there : (n at : ℕ) → at ≤ length s → length s < at + n → (es : List Entry) (q : ℕ) → until at_end same (λ u. block) n tt s at ≡ ok es q → q ≡ length s
  ends_there zero at le h es q e = absurd (omega arith)
  ends_there (suc n) at le h es q e = go (until-inv at_end same (λ u. block) s (suc n) tt at e) (λ r more w k x. ends_there n r w k more q x)
    where
      go : Went at_end same (λ u. block) s (suc n) tt at es q → ((r : ℕ) (more : List Entry) → r ≤ length s → length s < r + n → until at_end same (λ u. block) n tt s r ≡ ok more q → q ≡ length s) → q ≡ length s
      go (stopped t x y) rec = sym y ∙ eqb-true at (length s) t
      go (spent z x y) rec = absurd (omega arith)
      go (went m a r more small t x y z) rec =
          let w = block-moves at a r le x in
          let k : m ≡ n = omega arith in
          rec r more w.1 (omega (arith, w.0)) (subst (λ (j : ℕ). until at_end same (λ u. block) j tt s r ≡ ok more q) k y)

  pub blocks_end : (at : ℕ) → at ≤ length s → (es : List Entry) (q : ℕ) → blocks s at ≡ ok es q → q ≡ length s
  blocks_end at le es q e = ends_there (suc (length s)) at le (omega arith) es q e

  -- the turns of a loop over the blocks
  pub blocks-stop : (at : ℕ) → at ≡ length s → blocks s at ≡ ok [] at
  blocks-stop at e = until_stop at_end same (λ u. block) s (suc (length s)) tt at (eq-eqb at (length s) e)

  module _ (at : ℕ) (le : at ≤ length s) (more : at ≡ length s → ⊥) where
    turn : blocks s at ≡ then (block s at) (λ e q. then (until at_end same (λ u. block) (length s) tt s q) (λ es end. ok (e ∷ es) end))
    turn = until-turn at_end same (λ u. block) s (length s) tt at (ne_eqb at (length s) more)

    pub blocks-no : {x q r f : ℕ} → block s at ≡ refuse x q r f → blocks s at ≡ refuse x q r f
    blocks-no h = turn ∙ rw h

    pub blocks-ok : (e : Entry) (q : ℕ) → block s at ≡ ok e q → blocks s at ≡ then (blocks s q) (λ es end. ok (e ∷ es) end)
    blocks-ok e q h =
        let w = block-moves at e q le h in
        let same_left : until at_end same (λ u. block) (length s) tt s q ≡ blocks s q = until-enough at_end same (λ u. block) s (λ u p a r l x. block-moves p a r l x) (length s) (suc (length s)) tt q w.1 (omega (arith, w.0)) (omega (arith, w.0)) in
        turn ∙ rw h (ap (λ (m : Res (List Entry)). then m (λ es end. ok (e ∷ es) end)) same_left)

-- ---- the grammar's bytes are read

module _ (s : List ℕ) (bytes : Bytes s) where
  abbrev pub item : (u : Unit {0}) → Exact s block block_of Allowed block_bytes
  item u = block-exact s bytes

  -- allowed blocks up to the section's end
  pub blocks-read : (at : ℕ) (bs : List Block) → AllAllowed bs → At s at (section_bytes bs) → at + length (section_bytes bs) ≡ length s → (es : List Entry) × (blocks s at ≡ ok es (length s)) × (map block_of es ≡ bs)
  blocks-read at bs fit h end =
      let x = until-reads at_end same same block_of (λ u e. refl) {p = λ u. block} {Ok = λ u. Allowed} item (suc (length s)) tt at bs (omega (arith, few-blocks bs)) fit
      (end-going same block_bytes (λ u. Allowed) block-some s tt at bs fit (omega arith)) (eq-eqb (at + length (section_bytes bs)) (length s) end) h in
      (x.0, x.1 ∙ ap (λ (k : ℕ). ok x.0 k) end, x.2)

-- ---- what was read is the grammar's bytes

module _ (s : List ℕ) (bytes : Bytes s) where
  section-writes : length s ≤ 16777216 → (es : List Entry) (q : ℕ) → blocks s 0 ≡ ok es q → Section (map block_of es) s × (q ≡ length s)
  section-writes short es q e =
      let x = until-writes at_end same same block_of (λ u e. refl) {p = λ u. block} {Ok = λ u. Allowed} (item s bytes) (suc (length s)) tt 0 (omega arith) es q e in
      let bs : List Block = map block_of es in
      let end : q ≡ length s = blocks_end s 0 (omega arith) es q e in
      let len : length (section_bytes bs) ≡ length s = omega (arith, x.3) in
      let is : s ≡ section_bytes bs = at_all s (section_bytes bs) x.2 len in
      (subst (λ (b : List ℕ). Section bs b) (sym is) (section (in_all same Allowed tt 0 bs x.0) (omega arith)), end)

  pub resources-write : (es : List Entry) (q : ℕ) → resources s ≡ ok es q → Section (map block_of es) s × (q ≡ length s)
  unfolding resources
  resources-write es q e = let i = pick_inv (leb (length s) 16777216) (blocks s 0) 1 0 0 0 e in section-writes (leb-true (length s) 16777216 i.0) es q i.1

pub resources-read : (bs : List Block) → All (λ i b. Allowed b) 0 bs → length (section_bytes bs) ≤ 16777216 → (es : List Entry) × (resources (section_bytes bs) ≡ ok es (length (section_bytes bs))) × (map block_of es ≡ bs)
unfolding resources
resources-read bs fit short =
    let s : List ℕ = section_bytes bs in
    let x = blocks-read s (bytes-section 0 bs fit) 0 bs (in-allowed 0 bs fit) (at-whole s) (zero-add (length s)) in
    (x.0, simp (le-leb (length s) 16777216 short) x.1, x.2)
