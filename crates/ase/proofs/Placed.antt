-- A refused ASE file has one of the numbers that ASE gives, and a place of the file. Assumes nothing.
use Prim.Native.Nat.{ℕ, ◌+◌, ◌-◌, ◌≤◌}
use mathlib.Core.Path.{◌≡◌, refl}
use mathlib.Core.List.{List}
use mathlib.Core.Bool.{Bool, true, false}
use lib.ListN.{length, take}
use lib.Seq.{length-take-le}
use lib.Dec.{leb, ltb, eqb}
use borrow.Author.Tests.{leb-true}
use native.Mathlib.Omega.{arith}
use Rattle.algebra.specs.Chars.{chars}
use Rattle.algebra.specs.Reader.{Res, Reader, ok, refuse, pick, field, Judged, unless, judged, each, state_after, chain}
use Rattle.algebra.specs.Text.{name}
use Rattle.algebra.specs.Refusal.{Of, among, Placed, ends, fails, Places}
use Rattle.algebra.proofs.Inverse.{field-inv}
use Rattle.algebra.proofs.Placed.{unless-numbered, refusal-placed, placed-then, placed-from, placed-pick, placed-rule, field-placed, judged-placed, ended-placed, name-placed, each_placed, chain-placed, limited-placed}
use Rattle.colour.specs.Models.{is_model, channels_of}
use Rattle.colour.specs.Channels.{allows_bits}
use Rattle.ase.specs.Reading.{group_content, model, channel, type, colour_content, inside, within, deepest, is_block_type, content, block, open_after_entry, heading, blocks, palette, ase}
use Rattle.ase.specs.Refusals.{refusals}

three : Of refusals 3
three = among refl

nine : Of refusals 9
nine = among refl

thirteen : Of refusals 13
thirteen = among refl

-- ---- a payload's content

group-placed : Places refusals group_content
unfolding group_content
group-placed s at l = placed-then (name 2 s at) _ (name-placed (among refl) (among refl) 2 at l) (λ nm q h. ends h)

colour-content-placed : Places refusals colour_content
unfolding colour_content
colour-content-placed s at l =
    let five : Of refusals 5 = among refl in
    placed-then (name 2 s at) _ (name-placed (among refl) (among refl) 2 at l)
    (λ nm q h. placed-then (judged 4 model s q) _ (judged-placed (among refl) 4 model q (λ t. unless-numbered (is_model t) (among refl)) h)
    (λ t e g. placed-then (each (channels_of t) 0 (λ i. judged 4 (channel t)) s e) _
    (each_placed (λ i. judged 4 (channel t)) (λ i r w. judged-placed (among refl) 4 (channel t) r (λ b. unless-numbered (allows_bits t b) five) w) (channels_of t) 0 e g)
    (λ bs r w. placed-then (judged 2 type s r) _ (judged-placed (among refl) 2 type r (λ k. unless-numbered (leb k 2) five) w) (λ k z v. ends v))))

module _ {s : List ℕ} where
  -- a part of the file is no longer
  inside-placed : {A : Type 0} {t : List ℕ} (p end : ℕ) (m : Res A) → length t ≤ length s → p ≤ length s → Placed refusals t m → Placed refusals s (inside p end m)
  inside-placed p end (ok a q) le l (ends h) = let g : q ≤ length s = omega arith in placed-pick (eqb q end) (ends g) (fails thirteen l)
  inside-placed p end (refuse x q r f) le l (fails t h) = let g : q ≤ length s = omega arith in placed-pick (eqb x 2) (fails thirteen l) (fails t g)

  within-placed : {A : Type 0} (p : Reader A) → Places refusals p → (n at : ℕ) → at + 6 + n ≤ length s → Placed refusals s (within p n s at)
  within-placed p g n at l =
      let e : length (take (at + 6 + n) s) ≡ at + 6 + n = length-take-le (at + 6 + n) s l in
      let i : at + 6 ≤ length (take (at + 6 + n) s) = omega arith in
      inside-placed (at + 2) (at + 6 + n) (p (take (at + 6 + n) s) (at + 6)) (omega arith) (omega arith) (g (take (at + 6 + n) s) (at + 6) i)

  -- ---- a block

  content-placed : (t d n at : ℕ) → at + 6 + n ≤ length s → Placed refusals s (content t d n s at)
  unfolding content
  content-placed t d n at l =
      let a : at ≤ length s = omega arith in
      let b : at + 2 ≤ length s = omega arith in
      let c : at + 6 ≤ length s = omega arith in
      placed-pick (eqb t 0xC001) (placed-rule (unless (ltb d deepest) 10) (unless-numbered (ltb d deepest) (among refl)) a (within-placed group_content group-placed n at l))
      (placed-pick (eqb t 0xC002) (placed-rule (unless (eqb n 0) 13) (unless-numbered (eqb n 0) thirteen) b (placed-rule (unless (ltb 0 d) 9) (unless-numbered (ltb 0 d) nine) a (ends c)))
      (within-placed colour_content colour-content-placed n at l))

  block-placed : (d at : ℕ) → at ≤ length s → Placed refusals s (block d s at)
  unfolding block
  block-placed d at l =
      placed-from (field 2 s at) _ (field-placed (among refl) 2 at l)
      (λ t a e h. placed-from (field 4 s a) _ (field-placed (among refl) 4 a h)
      (λ n b f g. placed-rule (unless (is_block_type t) 4) (unless-numbered (is_block_type t) (among refl)) l
      (let i = field-inv 2 s at e in let j = field-inv 4 s a f in let z : b ≡ at + 6 = omega arith in payload t n b z g (leb n (length s - b)) refl)))
    where
      payload : (t n b : ℕ) → b ≡ at + 6 → b ≤ length s → (c : Bool) → leb n (length s - b) ≡ c → Placed refusals s (pick c (content t d n s at) (refuse 2 b 0 0))
      payload t n b z g true e = let w : n ≤ length s - b = leb-true _ _ e in content-placed t d n at (omega arith)
      payload t n b z g false e = fails (among refl) g

  -- ---- the file

  heading-placed : (at : ℕ) → at ≤ length s → Placed refusals s (heading s at)
  unfolding heading
  heading-placed at l =
      let i : ℕ → Judged = λ x. unless (eqb x (chars "ASEF")) 3 in
      let j : ℕ → Judged = λ v. unless (eqb v 1) 3 in
      let k : ℕ → Judged = λ w. unless (eqb w 0) 3 in
      placed-then (judged 4 i s at) _ (judged-placed (among refl) 4 i at (λ x. unless-numbered (eqb x (chars "ASEF")) three) l)
      (λ x q h. placed-then (judged 2 j s q) _ (judged-placed (among refl) 2 j q (λ v. unless-numbered (eqb v 1) three) h)
      (λ v e g. placed-then (judged 2 k s e) _ (judged-placed (among refl) 2 k e (λ w. unless-numbered (eqb w 0) three) g) (λ w r y. field-placed (among refl) 4 r y)))

  blocks-placed : (n at : ℕ) → at ≤ length s → Placed refusals s (blocks n s at)
  unfolding blocks
  blocks-placed n at l =
      placed-then (chain open_after_entry block n 0 s at) _ (chain-placed open_after_entry block block-placed n 0 at l)
      (λ es q h. placed-rule (unless (eqb (state_after open_after_entry 0 es) 0) 9) (unless-numbered (eqb (state_after open_after_entry 0 es) 0) nine) h (ends h))

  palette-placed : (at : ℕ) → at ≤ length s → Placed refusals s (palette s at)
  unfolding palette
  palette-placed at l =
      placed-then (heading s at) _ (heading-placed at l)
      (λ n q h. placed-then (blocks n s q) _ (blocks-placed n q h) (λ es e g. ended-placed (among refl) es e g))

pub refused-placed : (s : List ℕ) {x p r f : ℕ} → ase s ≡ refuse x p r f → Of refusals x × (p ≤ length s)
unfolding ase
refused-placed s e = refusal-placed {s = s} (limited-placed (among refl) (palette-placed 0 (omega arith))) e
