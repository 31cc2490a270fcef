-- Every byte string within the limit is a section of the grammar or a damaged one. Nothing here reads. Assumes nothing.
use Prim.Native.Nat.{ℕ, zero, suc, ◌+◌, ◌%◌, ◌^◌, ◌≤◌, ◌<◌}
use mathlib.Core.Path.{◌≡◌, refl, sym, ap, ◌∙◌, subst}
use mathlib.Core.List.{List, [], ◌∷◌, ◌++◌, append_assoc, append-nil}
use lib.ListN.{length, length-append}
use native.Mathlib.Omega.{arith}
use native.Mathlib.Decide.{ℕ_discrete}
use Rattle.algebra.specs.Chars.{chars}
use Rattle.algebra.specs.Numbers.{be, joined, Bytes, All}
use Rattle.algebra.proofs.Places.{be-1}
use Rattle.algebra.proofs.Exact.{all_from}
use Rattle.algebra.proofs.Begins.{First, fewer, number, first, Split, short, split, part-first}
use Rattle.resource.specs.Grammar.{Block, name_bytes, block_bytes, section_bytes, Allowed, Section, section}
use Rattle.resource.specs.Damaged.{DamagedRun, length_cut, bytes_cut, pad_cut, wrong_pad, DamagedBlock, signature_cut, wrong_signature, id_cut, wrong_name, wrong_payload, Damaged, wrong_block}
use Rattle.resource.proofs.Laws.{Counted, counted_bytes, name-parts, block-parts, length-block}

empty : (l : List ℕ) → length l < 1 → [] ≡ l
empty [] h = refl
empty (x ∷ l) h = absurd (omega arith)

-- ---- a length, that many bytes, and their pad

data RunOr (w k : ℕ) : List ℕ → Type 0 where
  bad_run : {l : List ℕ} (z p : ℕ) → DamagedRun w k l z p → RunOr w k l
  good_run : (us l : List ℕ) → Counted w us → Bytes l → RunOr w k (counted_bytes w k us ++ l)

module _ (w k : ℕ) where
  abbrev led : List ℕ → List ℕ → List ℕ
  led us l = be w (length us) ++ (us ++ l)

  -- with its pad
  whole_run : (us l pads : List ℕ) → pads ≡ be ((k + length us) % 2) 0 → Counted w us → Bytes l → RunOr w k (led us (pads ++ l))
  whole_run us l pads e fit b =
      let z : List ℕ = be ((k + length us) % 2) 0 in
      let parts : counted_bytes w k us ++ l ≡ led us (z ++ l) = simp append_assoc in
      subst (λ (y : List ℕ). RunOr w k (led us (y ++ l))) (sym e) (subst (RunOr w k) parts (good_run us l fit b))

  pad-by : (us : List ℕ) → Counted w us → (k + length us) % 2 ≡ 1 → {l : List ℕ} → First 1 l → RunOr w k (led us l)
  pad-by us fit odd (fewer l h) = subst (λ (y : List ℕ). RunOr w k (be w (length us) ++ y)) (sym (append-nil us) ∙ ap (λ (y : List ℕ). us ++ y) (empty l h)) (bad_run 2 (w + length us) (pad_cut us fit.0 fit.1 odd))
  pad-by us fit odd (number v l small b) = elim (ℕ_discrete v 0) [
    | yes e ↦ whole_run us l (be 1 v) (ap (be 1) e ∙ ap (λ (n : ℕ). be n 0) (sym odd)) fit b
    | no e ↦ subst (λ (y : List ℕ). RunOr w k (led us (y ++ l))) (sym (be-1 v small)) (bad_run 5 (w + length us) (wrong_pad us v l fit.0 fit.1 odd (omega arith) small))
  ]

  bytes-by : (n : ℕ) → n < 256 ^ w → {l : List ℕ} → Split n l → RunOr w k (be w n ++ l)
  unfolding be
  bytes-by n small (short l h) = bad_run 2 w (bytes_cut n l small h)
  bytes-by n small (split us l e bu bl) =
      let fit : Counted w us = (omega arith, bu) in
      subst (λ (m : ℕ). RunOr w k (be w m ++ (us ++ l))) e (elim (ℕ_discrete ((k + length us) % 2) 0) [
        | yes z ↦ whole_run us l [] (ap (λ (n : ℕ). be n 0) (sym z)) fit bl
        | no z ↦ pad-by us fit (omega arith) (first 1 l bl)
      ])

  run_by : {l : List ℕ} → First w l → RunOr w k l
  run_by (fewer l h) = bad_run 2 0 (length_cut l h)
  run_by (number n l small b) = bytes-by n small (part-first n l b)

-- ---- a block

data BlockOr : List ℕ → Type 0 where
  bad_block : {l : List ℕ} (z p : ℕ) → DamagedBlock l z p → BlockOr l
  good_block : (b : Block) (l : List ℕ) → Allowed b → Bytes l → BlockOr (block_bytes b ++ l)

abbrev headed : ℕ → List ℕ → List ℕ
headed i l = be 4 (chars "8BIM") ++ (be 2 i ++ l)

payload-by : (i : ℕ) (us : List ℕ) → i < 256 ^ 2 → Counted 1 us → {l : List ℕ} → RunOr 4 0 l → BlockOr (headed i (counted_bytes 1 1 us ++ l))
payload-by i us small fit (bad_run {l} z p d) = subst (λ (y : List ℕ). BlockOr (headed i (y ++ l))) (name-parts us) (bad_block z (6 + length (name_bytes us) + p) (wrong_payload i us l z p small fit.0 fit.1 d))
payload-by i us small fit (good_run ds l g b) =
    let x : Block = record { id = i; name = us; payload = ds } in
    let parts : block_bytes x ++ l ≡ headed i (counted_bytes 1 1 us ++ (counted_bytes 4 0 ds ++ l)) = ap (λ (y : List ℕ). y ++ l) (block-parts x) ∙ go (counted_bytes 1 1 us) (counted_bytes 4 0 ds) in
    subst BlockOr parts (good_block x l (record { id = small; letters = fit.0; name = fit.1; size = g.0; payload = g.1 }) b)
  where
    go : (y z : List ℕ) → (be 4 (chars "8BIM") ++ (be 2 i ++ (y ++ z))) ++ l ≡ headed i (y ++ (z ++ l))
    go y z = append_assoc (be 4 (chars "8BIM")) (be 2 i ++ (y ++ z)) l ∙ ap (λ (v : List ℕ). be 4 (chars "8BIM") ++ v) (append_assoc (be 2 i) (y ++ z) l ∙ ap (λ (v : List ℕ). be 2 i ++ v) (append_assoc y z l))

name_by : (i : ℕ) → i < 256 ^ 2 → {l : List ℕ} → RunOr 1 1 l → BlockOr (headed i l)
name_by i small (bad_run {l} z p d) = bad_block z (6 + p) (wrong_name i l z p small d)
name_by i small (good_run us l fit b) = payload-by i us small fit (run_by 4 0 (first 4 l b))

id-by : {l : List ℕ} → First 2 l → BlockOr (be 4 (chars "8BIM") ++ l)
id-by (fewer l h) = bad_block 2 4 (id_cut l h)
id-by (number i l small b) = name_by i small (run_by 1 1 (first 1 l b))

block-by : {l : List ℕ} → 0 < length l → First 4 l → BlockOr l
block-by some (fewer l h) = bad_block 2 0 (signature_cut l some h)
block-by some (number v l small b) = elim (ℕ_discrete v (chars "8BIM")) [
  | yes e ↦ subst (λ (k : ℕ). BlockOr (be 4 k ++ l)) (sym e) (id-by (first 2 l b))
  | no e ↦ bad_block 3 0 (wrong_signature v l small e)
]

-- ---- the section

data BlocksOr : List ℕ → Type 0 where
  all_good : (bs : List Block) → All (λ i b. Allowed b) 0 bs → BlocksOr (section_bytes bs)
  one_bad : (bs : List Block) (l : List ℕ) (z p : ℕ) → All (λ i b. Allowed b) 0 bs → DamagedBlock l z p → BlocksOr (section_bytes bs ++ l)

block_more : (b : Block) → Allowed b → {l : List ℕ} → BlocksOr l → BlocksOr (block_bytes b ++ l)
unfolding joined
block_more b a (all_good bs fit) = all_good (b ∷ bs) (a, all_from Allowed 0 1 bs fit)
block_more b a (one_bad bs l z p fit d) = subst BlocksOr (append_assoc (block_bytes b) (section_bytes bs) l) (one_bad (b ∷ bs) l z p (a, all_from Allowed 0 1 bs fit) d)

-- a block more, where what is left behind it is known
one_more : (n : ℕ) → ((l : List ℕ) → length l ≤ n → Bytes l → BlocksOr l) → {l : List ℕ} → length l ≤ suc n → BlockOr l → BlocksOr l
unfolding joined
one_more n more h (bad_block {l} z p d) = one_bad [] l z p tt d
one_more n more h (good_block b l a c) = block_more b a (more l (omega (arith, length-append (block_bytes b) l, length-block b)) c)

by_length : (n : ℕ) → ((l : List ℕ) → length l ≤ n → Bytes l → BlocksOr l) → (l : List ℕ) → length l ≤ suc n → Bytes l → BlocksOr l
unfolding joined
by_length n more [] h b = all_good [] tt
by_length n more (x ∷ l) h b = one_more n more h (block-by (omega arith) (first 4 (x ∷ l) b))

blocks-or : (n : ℕ) (l : List ℕ) → length l ≤ n → Bytes l → BlocksOr l
unfolding joined
blocks-or zero l h b = subst BlocksOr (empty l (omega arith)) (all_good [] tt)
blocks-or (suc n) l h b = by_length n (λ m g c. blocks-or n m g c) l h b

pub data SectionOr (s : List ℕ) : Type 0 where
  is_section : (bs : List Block) → Section bs s → SectionOr s
  is_damaged : (z p : ℕ) → Damaged s z p → SectionOr s

pub section-or : (s : List ℕ) → Bytes s → length s ≤ 16777216 → SectionOr s
section-or s b fits = go (blocks-or (length s) s (omega arith) b) fits
  where
    go : {l : List ℕ} → BlocksOr l → length l ≤ 16777216 → SectionOr l
    go (all_good bs fit) h = is_section bs (section fit h)
    go (one_bad bs l z p fit d) h = is_damaged z (length (section_bytes bs) + p) (wrong_block bs l z p fit d)
