-- Filling a table with the records of an accepted file, on plain values. Assumes nothing.
use Prim.Native.Nat.{ℕ, zero, suc, ◌+◌, ◌*◌, ◌-◌, ◌^◌, ◌≤◌, ◌<◌, min}
use mathlib.Core.Path.{◌≡◌, refl, sym, ap, ap₂, ◌∙◌, subst}
use mathlib.Core.List.{List, [], ◌∷◌}
use lib.ListN.{length, get_or, take}
use lib.Seq.{length-take-le}
use lib.Dec.{leb, eqb}
use borrow.Author.Tests.{leb-true}
use native.Mathlib.Omega.{arith}
use native.Mathlib.Numerals.{add-one}
use native.Mathlib.Nat.{add-zero}
use Rattle.algebra.specs.Reader.{ok, pick, unless, chain, state_after, limit}
use Rattle.algebra.proofs.Inverse.{ok-value, then-inv, rule-inv, pick_inv, ended-inv}
use Rattle.algebra.proofs.Chain.{chain-inv, chain_length}
use Rattle.ase.proofs.Whole.{heading-inv}
use Rattle.ase.specs.Reading.{Entry, group_end_read, block, open_after_entry, heading, blocks, palette, ase}
use Rattle.ase.specs.Row.{given_of}
use Rattle.ase_read.specs.Table.{entries_of}
use Rattle.ase_read.specs.scaffold.Raw.{load, count_at, model_at, loaded, next_block, block_place, Accepted}
use Rattle.ase_read.proofs.Blocks.{same, Sound, NameIn, Blocked, blocked}

-- ---- a block's numbers as they are loaded

pub numbers-loaded : (u : List ℕ) (p kind count place units tag a b c d last : ℕ) → kind ≡ load 2 u p → count ≡ count_at u p → place ≡ pick (eqb count 0) 0 (p + 8) → units ≡ count - 1
    → tag ≡ load 4 u (p + 8 + 2 * count) → a ≡ load 4 u (p + 8 + 2 * count + 4) → b ≡ load 4 u (p + 8 + 2 * count + 8) → c ≡ load 4 u (p + 8 + 2 * count + 12) → d ≡ load 4 u (p + 8 + 2 * count + 16) → last ≡ load 2 u (length u - 2)
    → record { block = kind; first = place; units = units; model = tag; channels = a ∷ b ∷ c ∷ d ∷ []; ink = last } ≡ loaded u p
numbers-loaded u p kind count place units tag a b c d last ek en ep eu et ea eb ec ed el =
    let four : (k v : ℕ) → v ≡ load 4 u (p + 8 + 2 * count + k) → v ≡ load 4 u (model_at u p + k) = λ k v e. e ∙ ap (λ (n : ℕ). load 4 u (p + 8 + 2 * n + k)) en in
    same ek (ep ∙ ap (λ (n : ℕ). pick (eqb n 0) 0 (p + 8)) en) (eu ∙ ap (λ (n : ℕ). n - 1) en) (et ∙ ap (λ (n : ℕ). load 4 u (p + 8 + 2 * n)) en) (four 4 a ea) (four 8 b eb) (four 12 c ec) (four 16 d ed) el

-- the place of a name that the largest number does not cut
pub placed : (p count place : ℕ) → p + 8 < 2 ^ 64 → place ≡ pick (eqb count 0) 0 (min (p + 8) (2 ^ 64 - 1)) → place ≡ pick (eqb count 0) 0 (p + 8)
placed p count place h e =
    let m : min (p + 8) (2 ^ 64 - 1) ≡ p + 8 = omega arith in
    e ∙ ap (λ (n : ℕ). pick (eqb count 0) 0 n) m

-- ---- places of blocks

pub place-first : (s : List ℕ) → block_place s 0 ≡ 12
unfolding block_place
place-first s = refl

pub place-next : (s : List ℕ) (i : ℕ) → block_place s (i + 1) ≡ next_block s (block_place s i)
unfolding block_place
place-next s i = ap (block_place s) (add-one i)

place-low : (s : List ℕ) (i : ℕ) → 12 + 6 * i ≤ block_place s i
unfolding block_place
place-low s zero = omega arith
place-low s (suc i) = omega (arith, place-low s i)

-- block k of those that were read from block i on
blocks-place : (s : List ℕ) (m i d : ℕ) {es : List Entry} {q : ℕ} → chain open_after_entry block m d s (block_place s i) ≡ ok es q
    → (k : ℕ) → k < m → (to : ℕ) × Blocked s (block_place s (i + k)) (get_or es k group_end_read) to
blocks-place s zero i d e k h = absurd (omega arith)
blocks-place s (suc m) i d e zero h =
    let t = chain-inv open_after_entry block s m d (block_place s i) e in
    (t.1, rw (add-zero i) (subst (λ (l : List Entry). Blocked s (block_place s i) (get_or l 0 group_end_read) t.1) t.5 (blocked d s (block_place s i) t.3)))
blocks-place s (suc m) i d {es} {q} e (suc k) h =
    let t = chain-inv open_after_entry block s m d (block_place s i) e in
    let b = blocked d s (block_place s i) t.3 in
    let p : t.1 ≡ block_place s (i + 1) = sym b.next ∙ sym (place-next s i) in
    let r = blocks-place s m (i + 1) (open_after_entry d t.0) {es = t.2} {q = q} (subst (λ (z : ℕ). chain open_after_entry block m (open_after_entry d t.0) s z ≡ ok t.2 q) p t.4) k (omega arith) in
    let y : i + 1 + k ≡ i + suc k = omega arith in (
      r.0,
      subst (λ (l : List Entry). Blocked s (block_place s (i + suc k)) (get_or l (suc k) group_end_read) r.0) t.5
          (subst (λ (z : ℕ). Blocked s (block_place s z) (get_or t.2 k group_end_read) r.0) y r.1),
    )

-- ---- the file

-- an accepted file is not too long, and its blocks stand behind the heading
ase-inv : (s : List ℕ) {es : List Entry} {q : ℕ} → ase s ≡ ok es q → (length s ≤ limit) × (to : ℕ) × (chain open_after_entry block (length es) 0 s (block_place s 0) ≡ ok es to)
unfolding ase palette blocks
ase-inv s {es} {q} e =
    let i = pick_inv (leb (length s) limit) (palette s 0) 1 0 0 0 e in
    let h = then-inv (heading s 0) _ i.1 in
    let b = then-inv (blocks h.0 s h.1) _ h.3 in
    let c = then-inv (chain open_after_entry block h.0 0 s h.1) _ b.2 in
    let r = rule-inv (unless (eqb (state_after open_after_entry 0 c.0) 0) 9) c.1 (ok c.0 c.1) c.3 in
    let z = ended-inv b.0 s b.1 b.3 in
    let same : c.0 ≡ es = ok-value r.1 ∙ z.1 in
    let n : h.0 ≡ length es = sym (chain_length open_after_entry block s h.0 0 h.1 c.2) ∙ ap length same in
    let p : h.1 ≡ block_place s 0 = (heading-inv s h.2).0 ∙ sym (place-first s) in
    (leb-true (length s) limit i.0, c.1, ap₂ (λ (k a : ℕ). chain open_after_entry block k 0 s a) (sym n) (sym p) ∙ c.2 ∙ ap (λ (l : List Entry). ok l c.1) same)

module _ (s : List ℕ) (n : ℕ) (a : Accepted (ase s) n) where
  pub entries-are : entries_of (ase s) ≡ a.0
  entries-are = ap entries_of a.2

  pub length-entries : length (entries_of (ase s)) ≡ n
  length-entries = ap length entries-are ∙ a.3

  pub small : length s ≤ limit
  small = (ase-inv s a.2).0

  -- block i, with the entry that was read
  pub block-is : (i : ℕ) → i < n → Blocked s (block_place s i) (get_or a.0 i group_end_read) (next_block s (block_place s i))
  block-is i h =
      let b = blocks-place s (length a.0) 0 0 (ase-inv s a.2).2 i (omega (arith, a.3)) in
      let z : 0 + i ≡ i = omega arith in
      go (subst (λ (k : ℕ). Blocked s (block_place s k) (get_or a.0 i group_end_read) b.0) z b.1)
    where
      go : {q : ℕ} → Blocked s (block_place s i) (get_or a.0 i group_end_read) q → Blocked s (block_place s i) (get_or a.0 i group_end_read) (next_block s (block_place s i))
      go b = subst (λ (k : ℕ). Blocked s (block_place s i) (get_or a.0 i group_end_read) k) (sym b.next) b

  -- the place of a block is not past the file's end, and the file is at least as long as it has blocks
  pub count_small : n ≤ limit
  count_small = go n refl
    where
      go : (k : ℕ) → n ≡ k → n ≤ limit
      go zero e = omega arith
      go (suc k) e = let b = block-is k (omega arith) in omega (arith, b.inside, place-low s k, small)

-- record i of a file
abbrev pub entry_at : List ℕ → ℕ → Entry
entry_at s i = get_or (entries_of (ase s)) i group_end_read

-- block i where p is its place
pub record Here (s : List ℕ) (i p : ℕ) : Type 0 where
  pub short : length s ≤ limit
  pub inside : next_block s p ≤ length s
  pub next : next_block s p ≡ block_place s (i + 1)
  pub is_row : given_of (entry_at s i) ≡ loaded (take (next_block s p) s) p
  pub sound : Sound (entry_at s i)
  pub named : NameIn (next_block s p) (entry_at s i)

pub here : (s : List ℕ) (n : ℕ) (a : Accepted (ase s) n) (i : ℕ) → i < n → (p : ℕ) → p ≡ block_place s i → Here s i p
here s n a i h p e = subst (Here s i) (sym e) (go (block-is s n a i h))
  where
    go : Blocked s (block_place s i) (get_or a.0 i group_end_read) (next_block s (block_place s i)) → Here s i (block_place s i)
    go b =
        let l = length-take-le (next_block s (block_place s i)) s b.inside in
        let e : entry_at s i ≡ get_or a.0 i group_end_read = ap (λ (es : List Entry). get_or es i group_end_read) (entries-are s n a) in record {
          short = small s n a;
          inside = b.inside;
          next = sym (place-next s i);
          is_row = ap given_of e ∙ b.ended.is_row;
          sound = subst Sound (sym e) b.ended.sound;
          named = subst (NameIn (next_block s (block_place s i))) (sym e) (subst (λ (q : ℕ). NameIn q (get_or a.0 i group_end_read)) l b.ended.named);
        }
