-- Every byte string within the limit is a file of the grammar or a damaged one. Nothing here reads. Assumes nothing.
use Prim.Native.Nat.{ℕ, zero, suc, ◌+◌, ◌^◌, ◌≤◌, ◌<◌}
use mathlib.Core.Path.{◌≡◌, refl, sym, ap, subst}
use mathlib.Core.List.{List, [], ◌∷◌, ◌++◌, append_assoc, append-nil}
use mathlib.Core.Logic.{◌⊎◌, inl, inr}
use lib.ListN.{length}
use native.Mathlib.Omega.{arith}
use native.Mathlib.Nat.{lt_of_not-le}
use native.Mathlib.Decide.{ℕ_discrete, dec_le}
use Rattle.algebra.specs.Chars.{chars}
use Rattle.algebra.specs.Numbers.{be, joined, Bytes, All}
use Rattle.algebra.specs.Text.{name_bytes}
use Rattle.algebra.proofs.Exact.{all_from}
use Rattle.ase.specs.Grammar.{Block, group_start, group_end, colour, other, type_of, payload, block_bytes, file_bytes, Known, starts, stops, colours, Unknown, Allowed, Nested, File, file}
use Rattle.ase.specs.Damaged.{signature_cut, wrong_signature, major_cut, wrong_major, minor_cut, wrong_minor, blocks_cut, block_head, block_frame, DamagedBlock, block_cut, length_cut, unknown, payload_cut, too_deep, wrong_group, end_with_payload, end_without_group, wrong_colour, headed_blocks, end_of_blocks, Damaged, wrong_heading, wrong_block, left_open, left_over}
use Rattle.ase.specs.Reading.{open_after}
use Rattle.ase.proofs.Laws.{Steps}
use Rattle.algebra.proofs.Begins.{First, fewer, number, first, Split, short, split, part-first}
use Rattle.ase.proofs.Contents.{name-or, GroupOr, bad_group, good_group, group-by, ColourOr, bad_colour, good_colour, colour-by}

-- ---- a block, where d groups stand open

data BlockOr (d : ℕ) : List ℕ → Type 0 where
  bad_block : {l : List ℕ} (z p : ℕ) → DamagedBlock d l z p → BlockOr d l
  good_block : (b : Block) (l : List ℕ) → Allowed b → Steps d b → Bytes l → BlockOr d (block_bytes b ++ l)

no_other : {t : ℕ} → (t ≡ 0xC001 → ⊥) → (t ≡ 0xC002 → ⊥) → (t ≡ 0x0001 → ⊥) → Known t → ⊥
no_other a b c starts = a refl
no_other a b c stops = b refl
no_other a b c colours = c refl

type-or : (t : ℕ) → t < 256 ^ 2 → Known t ⊎ Unknown t
type-or t small = elim (ℕ_discrete t 0xC001) [
  | yes a ↦ inl (subst Known (sym a) starts)
  | no a ↦ elim (ℕ_discrete t 0xC002) [
    | yes b ↦ inl (subst Known (sym b) stops)
    | no b ↦ elim (ℕ_discrete t 0x0001) [
      | yes c ↦ inl (subst Known (sym c) colours)
      | no c ↦ inr (record { small = small; none = no_other a b c })
    ]
  ]
]

module _ (d : ℕ) where
  -- an allowed block, in parts
  block-parts : (b : Block) (l : List ℕ) → Allowed b → Steps d b → Bytes l → BlockOr d (block_frame (type_of b) (payload b) l)
  unfolding block_bytes
  block-parts b l a st bl = let e : block_bytes b ++ l ≡ block_frame (type_of b) (payload b) l = simp append_assoc in subst (BlockOr d) e (good_block b l a st bl)

  start-by : (x : List ℕ) → Bytes x → {l : List ℕ} → GroupOr l → BlockOr d (block_frame 0xC001 l x)
  start-by x b (bad_group {l} z p g) = elim (dec_le 16 d) [
    | yes h ↦ bad_block 10 0 (too_deep l x h)
    | no h ↦ bad_block z p (wrong_group l x z p (lt_of_not-le h) g)
  ]
  start-by x b (good_group us nm) = elim (dec_le 16 d) [
    | yes h ↦ bad_block 10 0 (too_deep (name_bytes 2 us) x h)
    | no h ↦ block-parts (group_start us) x nm (lt_of_not-le h) b
  ]

  stop-by : (l x : List ℕ) → Bytes x → BlockOr d (block_frame 0xC002 l x)
  stop-by [] x b = elim (ℕ_discrete d 0) [
    | yes e ↦ bad_block 9 0 (end_without_group x e)
    | no e ↦ block-parts group_end x tt (omega arith) b
  ]
  stop-by (y ∷ l) x b = bad_block 13 2 (end_with_payload (y ∷ l) x (omega arith))

  colour-block : (x : List ℕ) → Bytes x → {l : List ℕ} → ColourOr l → BlockOr d (block_frame 0x0001 l x)
  colour-block x b (bad_colour {l} z p c) = bad_block z p (wrong_colour l x z p c)
  colour-block x b (good_colour us t bs k c) = block-parts (colour us t bs k) x c tt b

  content-by : {t : ℕ} → Known t → (l x : List ℕ) → Bytes l → Bytes x → BlockOr d (block_frame t l x)
  content-by starts l x bl bx = start-by x bx (group-by (name-or l bl))
  content-by stops l x bl bx = stop-by l x bx
  content-by colours l x bl bx = colour-block x bx (colour-by (name-or l bl))

  payload-by : (t m : ℕ) → Known t → m < 256 ^ 4 → {l : List ℕ} → Split m l → BlockOr d (block_head t m l)
  payload-by t m known few (short l h) = bad_block 2 6 (payload_cut t m l known few h)
  payload-by t m known few (split a l e ba bl) = subst (λ (k : ℕ). BlockOr d (block_head t k (a ++ l))) e (content-by known a l ba bl)

  length-by : (t : ℕ) → t < 256 ^ 2 → {l : List ℕ} → First 4 l → BlockOr d (be 2 t ++ l)
  length-by t small (fewer l h) = bad_block 2 2 (length_cut t l small h)
  length-by t small (number m l few b) = elim (type-or t small) [
    | inl k ↦ payload-by t m k few (part-first m l b)
    | inr u ↦ bad_block 4 0 (unknown t m l u few)
  ]

  block-by : {l : List ℕ} → First 2 l → BlockOr d l
  block-by (fewer l h) = bad_block 2 0 (block_cut l h)
  block-by (number t l small b) = length-by t small (first 4 l b)

-- ---- n blocks, where d groups stand open

data RowOr (n d : ℕ) : List ℕ → Type 0 where
  bad_row : (bs : List Block) (e : ℕ) (l : List ℕ) (z p : ℕ) → length bs < n → All (λ i b. Allowed b) 0 bs → Nested d bs e → DamagedBlock e l z p → RowOr n d (joined block_bytes bs ++ l)
  good_row : (bs : List Block) (e : ℕ) (l : List ℕ) → length bs ≡ n → All (λ i b. Allowed b) 0 bs → Nested d bs e → RowOr n d (joined block_bytes bs ++ l)

nested-more : (d e : ℕ) (b : Block) (bs : List Block) → Steps d b → Nested (open_after d b) bs e → Nested d (b ∷ bs) e
nested-more d e (group_start us) bs st h = (st, h)
nested-more d e group_end bs st h = (st, h)
nested-more d e (colour us t cs k) bs st h = h
nested-more d e (other t) bs st h = h

block_more : (n d : ℕ) (b : Block) → Allowed b → Steps d b → {l : List ℕ} → RowOr n (open_after d b) l → RowOr (suc n) d (block_bytes b ++ l)
unfolding joined
block_more n d b a st (bad_row bs e l z p less ok h g) =
    subst (RowOr (suc n) d) (append_assoc (block_bytes b) (joined block_bytes bs) l) (bad_row (b ∷ bs) e l z p (omega arith) (a, all_from Allowed 0 1 bs ok) (nested-more d e b bs st h) g)
block_more n d b a st (good_row bs e l all ok h) =
    subst (RowOr (suc n) d) (append_assoc (block_bytes b) (joined block_bytes bs) l) (good_row (b ∷ bs) e l (ap suc all) (a, all_from Allowed 0 1 bs ok) (nested-more d e b bs st h))

row-or : (n d : ℕ) (l : List ℕ) → Bytes l → RowOr n d l
unfolding joined
row-or zero d l b = good_row [] d l refl tt refl
row-or (suc n) d l b = go (λ e k x. row-or n e k x) (block-by d (first 2 l b))
  where
    go : ((e : ℕ) (l : List ℕ) → Bytes l → RowOr n e l) → {l : List ℕ} → BlockOr d l → RowOr (suc n) d l
    go more (bad_block {l} z p g) = bad_row [] d l z p (omega arith) tt refl g
    go more (good_block b l a st x) = block_more n d b a st (more (open_after d b) l x)

-- ---- the file

pub data FileOr (s : List ℕ) : Type 0 where
  is_file : (bs : List Block) → File bs s → FileOr s
  is_damaged : (z p : ℕ) → Damaged s z p → FileOr s

abbrev headed : ℕ → List ℕ → List ℕ
headed n l = be 4 (chars "ASEF") ++ (be 2 1 ++ (be 2 0 ++ (be 4 n ++ l)))

abbrev Short : List ℕ → Type 0
Short l = length l ≤ 16777216

-- all blocks are there, and leave no group open
ended_by : (bs : List Block) (l : List ℕ) → All (λ i b. Allowed b) 0 bs → Nested 0 bs 0 → Short (headed (length bs) (joined block_bytes bs ++ l)) → FileOr (headed (length bs) (joined block_bytes bs ++ l))
unfolding file_bytes headed_blocks
ended_by bs [] ok h fits =
    let e : file_bytes bs ≡ headed (length bs) (joined block_bytes bs ++ []) = ap (headed (length bs)) (sym (append-nil (joined block_bytes bs))) in
    subst FileOr e (is_file bs (file ok h (subst Short (sym e) fits)))
ended_by bs (x ∷ l) ok h fits = is_damaged 6 (end_of_blocks bs) (left_over bs (x ∷ l) (record { allowed = ok; nested = h }) (omega arith))

-- all blocks are there
all-by : (bs : List Block) (e : ℕ) (l : List ℕ) → All (λ i b. Allowed b) 0 bs → Nested 0 bs e → Short (headed (length bs) (joined block_bytes bs ++ l)) → FileOr (headed (length bs) (joined block_bytes bs ++ l))
unfolding headed_blocks
all-by bs e l ok h fits = elim (ℕ_discrete e 0) [
  | yes z ↦ ended_by bs l ok (subst (Nested 0 bs) z h) fits
  | no z ↦ is_damaged 9 (end_of_blocks bs) (left_open bs e l (record { allowed = ok; nested = h }) (omega arith))
]

blocks-by : (n : ℕ) → n < 256 ^ 4 → {l : List ℕ} → RowOr n 0 l → Short (headed n l) → FileOr (headed n l)
unfolding headed_blocks
blocks-by n few (bad_row bs e l z p less ok h g) fits = is_damaged z (end_of_blocks bs + p) (wrong_block n bs e l z p few less (record { allowed = ok; nested = h }) g)
blocks-by n few (good_row bs e l all ok h) fits = subst (λ (k : ℕ). Short (headed k (joined block_bytes bs ++ l)) → FileOr (headed k (joined block_bytes bs ++ l))) all (all-by bs e l ok h) fits

count_by : {l : List ℕ} → First 4 l → Short (be 4 (chars "ASEF") ++ (be 2 1 ++ (be 2 0 ++ l))) → FileOr (be 4 (chars "ASEF") ++ (be 2 1 ++ (be 2 0 ++ l)))
count_by (fewer l h) fits = is_damaged 2 8 (wrong_heading (blocks_cut l h))
count_by (number n l few b) fits = blocks-by n few (row-or n 0 l b) fits

minor-by : {l : List ℕ} → First 2 l → Short (be 4 (chars "ASEF") ++ (be 2 1 ++ l)) → FileOr (be 4 (chars "ASEF") ++ (be 2 1 ++ l))
minor-by (fewer l h) fits = is_damaged 2 6 (wrong_heading (minor_cut l h))
minor-by (number v l small b) fits = elim (ℕ_discrete v 0) [
  | yes e ↦ subst (λ (k : ℕ). Short (be 4 (chars "ASEF") ++ (be 2 1 ++ (be 2 k ++ l))) → FileOr (be 4 (chars "ASEF") ++ (be 2 1 ++ (be 2 k ++ l)))) (sym e) (count_by (first 4 l b)) fits
  | no e ↦ is_damaged 3 6 (wrong_heading (wrong_minor v l small e))
]

major-by : {l : List ℕ} → First 2 l → Short (be 4 (chars "ASEF") ++ l) → FileOr (be 4 (chars "ASEF") ++ l)
major-by (fewer l h) fits = is_damaged 2 4 (wrong_heading (major_cut l h))
major-by (number v l small b) fits = elim (ℕ_discrete v 1) [
  | yes e ↦ subst (λ (k : ℕ). Short (be 4 (chars "ASEF") ++ (be 2 k ++ l)) → FileOr (be 4 (chars "ASEF") ++ (be 2 k ++ l))) (sym e) (minor-by (first 2 l b)) fits
  | no e ↦ is_damaged 3 4 (wrong_heading (wrong_major v l small e))
]

signature-by : {l : List ℕ} → First 4 l → Short l → FileOr l
signature-by (fewer l h) fits = is_damaged 2 0 (wrong_heading (signature_cut l h))
signature-by (number v l small b) fits = elim (ℕ_discrete v (chars "ASEF")) [
  | yes e ↦ subst (λ (k : ℕ). Short (be 4 k ++ l) → FileOr (be 4 k ++ l)) (sym e) (major-by (first 2 l b)) fits
  | no e ↦ is_damaged 3 0 (wrong_heading (wrong_signature v l small e))
]

pub file-or : (s : List ℕ) → Bytes s → length s ≤ 16777216 → FileOr s
file-or s b fits = signature-by (first 4 s b) fits
