-- The reader's parts, where what stands there is damaged. Assumes nothing.
use Prim.Native.Nat.{ℕ, ◌+◌, ◌%◌, ◌^◌, ◌<◌}
use mathlib.Core.Path.{◌≡◌, refl, sym, ap, ◌∙◌, subst}
use mathlib.Core.List.{List, [], ◌∷◌, ◌++◌}
use lib.ListN.{length}
use borrow.Author.Tests.{ne_eqb}
use native.Mathlib.Omega.{arith}
use native.Mathlib.Nat.{add-zero}
use Rattle.algebra.specs.Chars.{chars}
use Rattle.algebra.specs.Numbers.{be, At, Bytes}
use Rattle.algebra.specs.Reader.{ok, refuse, field, judged}
use Rattle.algebra.proofs.Places.{length-be, be-1, at_left}
use Rattle.algebra.proofs.Laws.{field-short, body-short, judged-short}
use Rattle.algebra.proofs.Tails.{Tail, tail-left, tail-after, field-there, field_cut, judged-there, judged-wrong, judged-cut}
use Rattle.resource.specs.Grammar.{name_bytes}
use Rattle.resource.specs.Reading.{block_part, zeroed, pad, padded_part, sized_part, is_signature, block}
use Rattle.resource.specs.Damaged.{DamagedRun, length_cut, bytes_cut, pad_cut, wrong_pad, DamagedBlock, signature_cut, wrong_signature, id_cut, wrong_name, wrong_payload}
use Rattle.resource.proofs.Laws.{counted_bytes, name-parts, run-exact, counted-exact}

module _ (s : List ℕ) (bytes : Bytes s) where
  -- fewer bytes than a length says
  run-cut : (n at : ℕ) {x : List ℕ} → length x < n → Tail s at x → block_part n s at ≡ refuse 2 at 0 0
  unfolding block_part
  run-cut n at few t = rw (body-short 1 s at n (omega (arith, t.ends)))

  -- the bytes are there, and the pad behind them is refused
  pad-stops : (k at : ℕ) (l : List ℕ) {z p : ℕ} → Bytes l → At s at l → pad (k + length l) s (at + length l) ≡ refuse z p 0 0 → padded_part k (length l) s at ≡ refuse z p 0 0
  unfolding padded_part
  pad-stops k at l b h e = let r = (run-exact s bytes (length l)).reads at l (refl, b) h in rw r.1 (rw e)

  odd-pad : (n at : ℕ) {z p : ℕ} → n % 2 ≡ 1 → judged 1 zeroed s at ≡ refuse z p 0 0 → pad n s at ≡ refuse z p 0 0
  odd-pad n at {z} {p} e h = subst (λ (w : ℕ). judged w zeroed s at ≡ refuse z p 0 0) (sym e) h

  -- a length that is there, and what follows it
  length-there : (w k n at : ℕ) (x : List ℕ) → n < 256 ^ w → Tail s at (be w n ++ x) → (sized_part w k s at ≡ padded_part k n s (at + w)) × Tail s (at + w) x
  length-there w k n at x small t = (rw (field-there s w at n small (tail-left s at (be w n) x t)), tail-after s at (be w n) x (at + w) (ap (λ (m : ℕ). at + m) (length-be w n)) t)

  pub run-stops : (w k at : ℕ) {x : List ℕ} {z p : ℕ} → DamagedRun w k x z p → Tail s at x → sized_part w k s at ≡ refuse z (at + p) 0 0
  unfolding padded_part
  run-stops w k at (length_cut x few) t = rw (field_cut s w at few t) (ap (λ (m : ℕ). refuse 2 m 0 0) (sym (add-zero at)))
  run-stops w k at (bytes_cut n x small few) t =
      let y = length-there w k n at x small t in
      y.0 ∙ rw (run-cut n (at + w) few y.1)
  run-stops w k at (pad_cut l small b odd) t =
      let y = length-there w k (length l) at l small t in
      let q : ℕ = at + w + length l in
      let c : judged 1 zeroed s q ≡ refuse 2 q 0 0 = judged-short 1 s q zeroed (sym (field-short 1 s q (omega (arith, y.1.ends)))) in
      let e : q ≡ at + (w + length l) = omega arith in
      y.0 ∙ pad-stops k (at + w) l b y.1.stands (odd-pad (k + length l) q odd c) ∙ ap (λ (m : ℕ). refuse 2 m 0 0) e
  run-stops w k at (wrong_pad l v x small b odd some few) t =
      let y = length-there w k (length l) at (l ++ (v ∷ x)) small t in
      let q : ℕ = at + w + length l in
      let r : Tail s q (v ∷ x) = tail-after s (at + w) l (v ∷ x) q refl y.1 in
      let h : At s q (be 1 v) = subst (λ (m : List ℕ). At s q m) (sym (be-1 v few)) (at_left s q (v ∷ []) x r.stands) in
      let c : judged 1 zeroed s q ≡ refuse 5 q 0 0 = judged-wrong s 1 q zeroed 5 v (omega arith) (rw (ne_eqb v 0 (λ z. omega arith))) h in
      let e : q ≡ at + (w + length l) = omega arith in
      y.0 ∙ pad-stops k (at + w) l b (tail-left s (at + w) l (v ∷ x) y.1) (odd-pad (k + length l) q odd c) ∙ ap (λ (m : ℕ). refuse 5 m 0 0) e

  -- a signature and an ID that are there
  head-there : (i at : ℕ) (x : List ℕ) → i < 256 ^ 2 → Tail s at (be 4 (chars "8BIM") ++ (be 2 i ++ x)) → (judged 4 is_signature s at ≡ ok (chars "8BIM") (at + 4)) × (field 2 s (at + 4) ≡ ok i (at + 6)) × Tail s (at + 6) x
  head-there i at x small t =
      let y : Tail s (at + 4) (be 2 i ++ x) = tail-after s at (be 4 (chars "8BIM")) (be 2 i ++ x) (at + 4) (ap (λ (m : ℕ). at + m) (length-be 4 (chars "8BIM"))) t in
      let six : at + 4 + 2 ≡ at + 6 = omega arith in (
        judged-there s 4 at is_signature (chars "8BIM") (omega arith) refl (tail-left s at (be 4 (chars "8BIM")) (be 2 i ++ x) t),
        field-there s 2 (at + 4) i small (tail-left s (at + 4) (be 2 i) x y) ∙ ap (λ (m : ℕ). ok i m) six,
        tail-after s (at + 4) (be 2 i) x (at + 6) (ap (λ (m : ℕ). at + 4 + m) (length-be 2 i) ∙ six) y,
      )

  pub block-stops : (at : ℕ) {x : List ℕ} {z p : ℕ} → DamagedBlock x z p → Tail s at x → block s at ≡ refuse z (at + p) 0 0
  unfolding block
  block-stops at (signature_cut x some few) t = rw (judged-cut s 4 at is_signature few t) (ap (λ (m : ℕ). refuse 2 m 0 0) (sym (add-zero at)))
  block-stops at (wrong_signature v x small other) t =
      rw (judged-wrong s 4 at is_signature 3 v small (rw (ne_eqb v (chars "8BIM") other)) (tail-left s at (be 4 v) x t)) (ap (λ (m : ℕ). refuse 3 m 0 0) (sym (add-zero at)))
  block-stops at (id_cut x few) t =
      let y : Tail s (at + 4) x = tail-after s at (be 4 (chars "8BIM")) x (at + 4) (ap (λ (m : ℕ). at + m) (length-be 4 (chars "8BIM"))) t in
      rw (judged-there s 4 at is_signature (chars "8BIM") (omega arith) refl (tail-left s at (be 4 (chars "8BIM")) x t)) (rw (field_cut s 2 (at + 4) few y))
  block-stops at (wrong_name i x z p small d) t =
      let y = head-there i at x small t in
      let e : at + 6 + p ≡ at + (6 + p) = omega arith in
      rw y.0 (rw y.1 (rw (run-stops 1 1 (at + 6) d y.2) (ap (λ (m : ℕ). refuse z m 0 0) e)))
  block-stops at (wrong_payload i us x z p small letters b d) t =
      let y = head-there i at (name_bytes us ++ x) small t in
      let q : ℕ = at + 6 + length (name_bytes us) in
      let h : At s (at + 6) (counted_bytes 1 1 us) = subst (λ (m : List ℕ). At s (at + 6) m) (name-parts us) (tail-left s (at + 6) (name_bytes us) x y.2) in
      let r = (counted-exact s bytes 1 1).reads (at + 6) us (letters, b) h in
      let n : sized_part 1 1 s (at + 6) ≡ ok r.0 q = r.1 ∙ ap (λ (m : List ℕ). ok r.0 (at + 6 + length m)) (sym (name-parts us)) in
      let e : q + p ≡ at + (6 + length (name_bytes us) + p) = omega arith in
      rw y.0 (rw y.1 (rw n (rw (run-stops 4 0 q d (tail-after s (at + 6) (name_bytes us) x q refl y.2)) (ap (λ (m : ℕ). refuse z m 0 0) e))))
