-- The heading and the row of blocks: read exactly, their lengths, their bytes and the groups that stand open. Assumes nothing.
use Prim.Native.Nat.{ℕ, ◌+◌, ◌-◌, ◌^◌, ◌≤◌, ◌<◌}
use mathlib.Core.Path.{◌≡◌, refl, sym, ap, ◌∙◌}
use mathlib.Core.List.{List, [], ◌∷◌, ◌++◌, map, append_assoc}
use lib.ListN.{length, length-append}
use native.Mathlib.Omega.{arith}
use Rattle.algebra.specs.Chars.{chars}
use Rattle.algebra.specs.Numbers.{be, joined, Bytes, All, AllIn}
use Rattle.algebra.specs.Reader.{state_after, chain}
use Rattle.algebra.specs.Text.{name_bytes}
use Rattle.algebra.specs.Algebra.{Exact}
use Rattle.algebra.proofs.Places.{length-be, bytes-nil, bytes-append, bytes-be, bytes-joined}
use Rattle.algebra.proofs.Exact.{all_map}
use Rattle.algebra.proofs.Sequence.{field-exact, mark-exact}
use Rattle.algebra.proofs.Chain.{in_both, all_in, chain-exact}
use Rattle.ase.specs.Grammar.{Block, group_start, group_end, colour, other, type_of, payload, block_bytes, file_bytes, Allowed, Nested}
use Rattle.ase.specs.Reading.{block_of, block, open_after, open_after_entry, heading}
use Rattle.ase.proofs.Laws.{Steps, Sound, length-block, block-exact}

-- ---- the heading

-- its bytes for a count
abbrev pub head_bytes : ℕ → List ℕ
head_bytes n = be 4 (chars "ASEF") ++ (be 2 1 ++ (be 2 0 ++ be 4 n))

pub length-head : (n : ℕ) → length (head_bytes n) ≡ 12
length-head n =
    omega (arith, length-append (be 4 (chars "ASEF")) (be 2 1 ++ (be 2 0 ++ be 4 n)), length-append (be 2 1) (be 2 0 ++ be 4 n), length-append (be 2 0) (be 4 n), length-be 4 (chars "ASEF"), length-be 2 1, length-be 2 0, length-be 4 n)

-- a file is its heading and its blocks
pub file-parts : (bs : List Block) → file_bytes bs ≡ head_bytes (length bs) ++ joined block_bytes bs
unfolding file_bytes
file-parts bs =
    let l : List ℕ = joined block_bytes bs in
    let n : List ℕ = be 4 (length bs) in
    sym (append_assoc (be 4 (chars "ASEF")) (be 2 1 ++ (be 2 0 ++ n)) l
    ∙ ap (λ (x : List ℕ). be 4 (chars "ASEF") ++ x) (append_assoc (be 2 1) (be 2 0 ++ n) l ∙ ap (λ (x : List ℕ). be 2 1 ++ x) (append_assoc (be 2 0) n l)))

module _ (s : List ℕ) (bytes : Bytes s) where
  pub heading-exact : Exact s heading (λ n. n) (λ n. n < 256 ^ 4) head_bytes
  unfolding heading
  heading-exact = mark-exact s bytes 4 (chars "ASEF") (omega arith) (mark-exact s bytes 2 1 (omega arith) (mark-exact s bytes 2 0 (omega arith) (field-exact s bytes 4)))

  -- ---- the blocks

  pub chain-blocks : (n : ℕ) → Exact s (chain open_after_entry block n 0) (map block_of) (λ bs. (length bs ≡ n) × AllIn open_after Sound 0 bs) (joined block_bytes)
  chain-blocks n = chain-exact open_after_entry open_after block_of (λ d e. refl) {p = block} {Ok = Sound} (block-exact s bytes) n 0

-- groups by what each block finds open, and by what is left open
pub nested-steps : (d : ℕ) (bs : List Block) {e : ℕ} → Nested d bs e → AllIn open_after Steps d bs × (state_after open_after d bs ≡ e)
unfolding state_after
nested-steps d [] h = (tt, h)
nested-steps d (group_start us ∷ bs) h = let r = nested-steps (d + 1) bs h.1 in ((h.0, r.0), r.1)
nested-steps d (group_end ∷ bs) h = let r = nested-steps (d - 1) bs h.1 in ((h.0, r.0), r.1)
nested-steps d (colour us t cs k ∷ bs) h = let r = nested-steps d bs h in ((tt, r.0), r.1)
nested-steps d (other t ∷ bs) h = let r = nested-steps d bs h in ((tt, r.0), r.1)

pub steps-nested : (d : ℕ) (bs : List Block) {e : ℕ} → AllIn open_after Steps d bs → state_after open_after d bs ≡ e → Nested d bs e
unfolding state_after
steps-nested d [] h e = e
steps-nested d (group_start us ∷ bs) h e = (h.0, steps-nested (d + 1) bs h.1 e)
steps-nested d (group_end ∷ bs) h e = (h.0, steps-nested (d - 1) bs h.1 e)
steps-nested d (colour us t cs k ∷ bs) h e = steps-nested d bs h.1 e
steps-nested d (other t ∷ bs) h e = steps-nested d bs h.1 e

-- a block's bytes are at least six, and its payload is part of them
blocks-length : (bs : List Block) → length bs ≤ length (joined block_bytes bs)
unfolding joined
blocks-length [] = omega arith
blocks-length (b ∷ bs) = omega (arith, length-append (block_bytes b) (joined block_bytes bs), length-block b, blocks-length bs)

payloads-length : (m i : ℕ) (bs : List Block) → length (joined block_bytes bs) ≤ m → All (λ k b. length (payload b) ≤ m) i bs
unfolding joined
payloads-length m i [] h = tt
payloads-length m i (b ∷ bs) h =
    (omega (arith, length-append (block_bytes b) (joined block_bytes bs), length-block b), payloads-length m (i + 1) bs (omega (arith, length-append (block_bytes b) (joined block_bytes bs))))

pub length-file : (bs : List Block) → length (file_bytes bs) ≡ 12 + length (joined block_bytes bs)
length-file bs = ap length (file-parts bs) ∙ omega (arith, length-append (head_bytes (length bs)) (joined block_bytes bs), length-head (length bs))

-- blocks within the limit, and their payloads, have numbers that fit four bytes
module _ (bs : List Block) (short : length (joined block_bytes bs) ≤ 16777216) where
  pub few-blocks : length bs < 256 ^ 4
  few-blocks = omega (arith, blocks-length bs)

  pub small-payloads : All (λ i b. length (payload b) < 256 ^ 4) 0 bs
  small-payloads =
      let m : ℕ = length (joined block_bytes bs) in
      all_map (λ i b. length (payload b) ≤ m) (λ i b. length (payload b) < 256 ^ 4) (λ i b h. omega arith) 0 bs (payloads-length m 0 bs (omega arith))

-- those of a file
pub file-short : (bs : List Block) → length (file_bytes bs) ≤ 16777216 → length (joined block_bytes bs) ≤ 16777216
file-short bs h = omega (arith, length-file bs)

-- ---- what is written is bytes

bytes-name : (us : List ℕ) → Bytes (name_bytes 2 us)
unfolding name_bytes
bytes-name us =
    let u : List ℕ = joined (be 2) us in
    bytes-append (be 2 (length us + 1)) (u ++ be 2 0) (bytes-be 2 (length us + 1)) (bytes-append u (be 2 0) (bytes-joined (be 2) (bytes-be 2) us) (bytes-be 2 0))

bytes-payload : (b : Block) → Bytes (payload b)
bytes-payload (group_start us) = bytes-name us
bytes-payload group_end = bytes-nil
bytes-payload (other t) = bytes-nil
bytes-payload (colour us t bs k) =
    let c : List ℕ = joined (be 4) bs in
    bytes-append (name_bytes 2 us) (be 4 t ++ (c ++ be 2 k)) (bytes-name us) (bytes-append (be 4 t) (c ++ be 2 k) (bytes-be 4 t) (bytes-append c (be 2 k) (bytes-joined (be 4) (bytes-be 4) bs) (bytes-be 2 k)))

pub bytes-block : (b : Block) → Bytes (block_bytes b)
unfolding block_bytes
bytes-block b =
    let n : List ℕ = be 4 (length (payload b)) in
    bytes-append (be 2 (type_of b)) (n ++ payload b) (bytes-be 2 (type_of b)) (bytes-append n (payload b) (bytes-be 4 (length (payload b))) (bytes-payload b))

pub bytes-file : (bs : List Block) → Bytes (file_bytes bs)
unfolding file_bytes
bytes-file bs =
    let l : List ℕ = joined block_bytes bs in
    let n : List ℕ = be 4 (length bs) in
    bytes-append (be 4 (chars "ASEF")) (be 2 1 ++ (be 2 0 ++ (n ++ l))) (bytes-be 4 (chars "ASEF"))
    (bytes-append (be 2 1) (be 2 0 ++ (n ++ l)) (bytes-be 2 1) (bytes-append (be 2 0) (n ++ l) (bytes-be 2 0) (bytes-append n l (bytes-be 4 (length bs)) (bytes-joined block_bytes bytes-block bs))))

-- ---- the states of a row of blocks

-- allowed blocks, each in the state that those before it left
pub sound : (bs : List Block) (e : ℕ) → All (λ i b. Allowed b) 0 bs → Nested 0 bs e → length (joined block_bytes bs) ≤ 16777216 → AllIn open_after Sound 0 bs
sound bs e allowed nested short =
    in_both open_after (λ d b. Allowed b × Steps d b) (λ d b. length (payload b) < 256 ^ 4) 0 bs
    (in_both open_after (λ d b. Allowed b) Steps 0 bs (all_in open_after Allowed 0 0 bs allowed) (nested-steps 0 bs nested).0)
    (all_in open_after (λ b. length (payload b) < 256 ^ 4) 0 0 bs (small-payloads bs short))
