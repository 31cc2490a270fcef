-- A whole file: the grammar's bytes are read, and what was read is the grammar's bytes. Assumes nothing.
use Prim.Native.Nat.{ℕ, ◌+◌, ◌≤◌}
use mathlib.Core.Path.{◌≡◌, refl, sym, ap, ap₂, ◌∙◌, subst}
use mathlib.Core.List.{List, ◌++◌, map}
use lib.Dec.{leb, eqb}
use lib.ListN.{length, length-append}
use borrow.Author.Tests.{eqb-true, eq-eqb, le-leb, leb-true}
use native.Mathlib.Omega.{arith}
use Rattle.algebra.specs.Chars.{chars}
use Rattle.algebra.specs.Numbers.{joined, At, Bytes, All}
use Rattle.algebra.specs.Reader.{ok, unless, judged, state_after, chain, ended}
use Rattle.algebra.proofs.Places.{at_in, at_next, at_left, at_after, at_all, at-whole}
use Rattle.algebra.proofs.Inverse.{then-inv, rule-inv, pick_inv, unless-fine, field-inv, judged-inv, ended-inv, ok-value, ok-place}
use Rattle.algebra.proofs.Chain.{in_map, in_all, state-map}
use Rattle.ase.specs.Grammar.{Block, block_bytes, file_bytes, Allowed, Nested, File, file}
use Rattle.ase.specs.Reading.{Entry, block_of, block, open_after, open_after_entry, fixed_number, heading, blocks, palette, ase}
use Rattle.ase.proofs.Laws.{Steps, Sound}
use Rattle.ase.proofs.Blocks.{head_bytes, length-head, file-parts, heading-exact, chain-blocks, nested-steps, steps-nested, length-file, few-blocks, file-short, bytes-file, sound}

-- ---- the grammar's bytes are read

module _ (bs : List Block) (allowed : All (λ i b. Allowed b) 0 bs) (nested : Nested 0 bs 0) (short : length (file_bytes bs) ≤ 16777216) where
  palette-reads : (s : List ℕ) → Bytes s → At s 0 (head_bytes (length bs) ++ joined block_bytes bs) → 12 + length (joined block_bytes bs) ≡ length s → (es : List Entry) × (palette s 0 ≡ ok es (length s)) × (map block_of es ≡ bs)
  unfolding palette blocks ended
  palette-reads s bytes h len =
      let n : ℕ = length bs in
      let l : List ℕ = joined block_bytes bs in
      let x = (heading-exact s bytes).reads 0 n (few-blocks bs (file-short bs short)) (at_left s 0 (head_bytes n) l h) in
      let twelve : 0 + length (head_bytes n) ≡ 12 = omega (arith, length-head n) in
      let hd : heading s 0 ≡ ok n 12 = x.1 ∙ ap₂ (λ (a b : ℕ). ok a b) x.2 twelve in
      let y = (chain-blocks s bytes n).reads 12 bs (refl, sound bs 0 allowed nested (file-short bs short)) (at_after s 0 (head_bytes n) l 12 twelve h) in
      let es : List Entry = y.0 in
      let none : state_after open_after_entry 0 es ≡ 0 = state-map open_after_entry open_after block_of (λ d e. refl) 0 es ∙ ap (state_after open_after 0) y.2 ∙ (nested-steps 0 bs nested).1 in
      (es, rw hd (rw y.1 (rw none (rw len (simp (eq-eqb (length s) (length s) refl))))), y.2)

  pub file-reads : (es : List Entry) × (ase (file_bytes bs) ≡ ok es (length (file_bytes bs))) × (map block_of es ≡ bs)
  unfolding ase
  file-reads =
      let s : List ℕ = file_bytes bs in
      let x = palette-reads s (bytes-file bs) (subst (λ (l : List ℕ). At s 0 l) (file-parts bs) (at-whole s)) (sym (length-file bs)) in
      (x.0, simp (le-leb (length s) 16777216 short) x.1, x.2)

-- ---- what was read is the grammar's bytes

module _ (s : List ℕ) (bytes : Bytes s) where
  palette-writes : length s ≤ 16777216 → (es : List Entry) (q : ℕ) → palette s 0 ≡ ok es q → File (map block_of es) s × (q ≡ length s)
  unfolding palette blocks
  palette-writes short es q e =
      let t = then-inv (heading s 0) _ e in
      let n : ℕ = t.0 in
      let x = (heading-exact s bytes).writes 0 (omega arith) n t.1 t.2 in
      let u = then-inv (blocks n s t.1) _ t.3 in
      let v = then-inv (chain open_after_entry block n 0 s t.1) _ u.2 in
      let r = rule-inv (unless (eqb (state_after open_after_entry 0 v.0) 0) 9) v.1 (ok v.0 v.1) v.3 in
      let z = ended-inv u.0 s u.1 u.3 in
      let same : v.0 ≡ es = ok-value r.1 ∙ z.1 in
      let y = (chain-blocks s bytes n).writes t.1 (omega (arith, at_in s 0 (head_bytes n) x.1, x.2)) v.0 v.1 v.2 in
      let bs : List Block = map block_of v.0 in
      let l : List ℕ = joined block_bytes bs in
      let none : state_after open_after 0 bs ≡ 0 = sym (state-map open_after_entry open_after block_of (λ d e. refl) 0 v.0) ∙ eqb-true (state_after open_after_entry 0 v.0) 0 (unless-fine (eqb (state_after open_after_entry 0 v.0) 0) 9 r.0) in
      let hd : At s 0 (head_bytes (length bs)) = subst (λ (k : ℕ). At s 0 (head_bytes k)) (sym y.0.0) x.1 in
      let next : 0 + length (head_bytes (length bs)) ≡ t.1 = ap (λ (k : ℕ). 0 + length (head_bytes k)) y.0.0 ∙ x.2 in
      let whole : At s 0 (head_bytes (length bs) ++ l) = at_next s 0 (head_bytes (length bs)) l t.1 next hd y.1 in
      let end : v.1 ≡ length s = ok-place r.1 ∙ z.0 in
      let len : length (head_bytes (length bs) ++ l) ≡ length s = omega (arith, length-append (head_bytes (length bs)) l, next, y.2, end) in
      let is : s ≡ file_bytes bs = at_all s (head_bytes (length bs) ++ l) whole len ∙ sym (file-parts bs) in
      let allowed : All (λ i b. Allowed b) 0 bs = in_all open_after Allowed 0 0 bs (in_map open_after Sound (λ d b. Allowed b) (λ d b h. h.0.0) 0 bs y.0.1) in
      let nested : Nested 0 bs 0 = steps-nested 0 bs (in_map open_after Sound Steps (λ d b h. h.0.1) 0 bs y.0.1) none in
      let f : File bs s = subst (λ (b : List ℕ). File bs b) (sym is) (file allowed nested (omega (arith, short, ap length is))) in
      (subst (λ (k : List Entry). File (map block_of k) s) same f, sym z.2 ∙ z.0)

  pub file-writes : (es : List Entry) (q : ℕ) → ase s ≡ ok es q → File (map block_of es) s × (q ≡ length s)
  unfolding ase
  file-writes es q e = let i = pick_inv (leb (length s) 16777216) (palette s 0) _ _ _ _ e in palette-writes (leb-true (length s) 16777216 i.0) es q i.1

-- the heading ends at 12
pub heading-inv : (s : List ℕ) {n q : ℕ} → heading s 0 ≡ ok n q → (q ≡ 12) × (12 ≤ length s)
unfolding heading
heading-inv s e =
    let x = then-inv (judged 4 (fixed_number (chars "ASEF")) s 0) _ e in
    let v = then-inv (judged 2 (fixed_number 1) s x.1) _ x.3 in
    let w = then-inv (judged 2 (fixed_number 0) s v.1) _ v.3 in
    let a = judged-inv 4 s 0 (fixed_number (chars "ASEF")) x.2 in
    let b = judged-inv 2 s x.1 (fixed_number 1) v.2 in
    let c = judged-inv 2 s v.1 (fixed_number 0) w.2 in
    let d = field-inv 4 s w.1 w.3 in
    (omega arith, omega arith)
