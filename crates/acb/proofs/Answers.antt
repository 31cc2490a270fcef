-- What reading answers in single turns, whatever stands behind them: a number and a place. Assumes nothing.
-- Few imports, and first by its name: a turn that is changed in the reading is refused here, and by nothing before it.
use Prim.Native.Nat.{ℕ, ◌+◌, ◌*◌, ◌-◌, ◌^◌, ◌<◌}
use mathlib.Core.Path.{◌≡◌, refl, sym, ap}
use mathlib.Core.List.{List, [], ◌∷◌, ◌++◌}
use mathlib.Core.Bool.{true}
use lib.ListN.{length}
use borrow.Author.Tests.{ne_eqb}
use native.Mathlib.Omega.{arith}
use Rattle.algebra.specs.Numbers.{be, joined, At, Bytes}
use Rattle.algebra.specs.Reader.{ok, refuse}
use Rattle.algebra.specs.Text.{Name}
use Rattle.algebra.specs.Cut.{not_whole, Stub}
use Rattle.algebra.proofs.Laws.{field-short, body-short, judged-short, ended-left}
use Rattle.algebra.proofs.Places.{length-be, length-bes}
use Rattle.algebra.proofs.Cuts.{whole_here, field-then-cut}
use Rattle.algebra.proofs.Tails.{Tail, tail-left, tail-after, field-there, judged-there, judged-wrong}
use Rattle.acb.specs.Grammar.{String, bytes_of_string}
use Rattle.acb.specs.Reading.{string, colour, page_size, numbers, is_tag, tag_of, tag, closing}
use Rattle.acb.specs.Widths.{string_widths}

module _ (s : List ℕ) (at : ℕ) where
  -- a string that is cut: 2 at its count, or at its units
  pub string_cut : Bytes s → (us : List ℕ) → String us → Stub s at (bytes_of_string us) → string s at ≡ refuse 2 (not_whole (string_widths us) at (length s)) 0 0
  unfolding string bytes_of_string
  string_cut bytes us fit h =
      let n : ℕ = length us in
      field-then-cut s bytes 4 _ at n (joined (be 2) us) (2 * n ∷ []) fit.counted (λ g.
      let p : ℕ = at + length (be 4 n) in
      let l : length s < p + 2 * n = omega (arith, g.short, length-bes 2 us) in
      rw (body-short 2 s p n (omega (arith, g.inside))) (ap (λ (k : ℕ). refuse 2 k 0 0) (sym (whole_here (2 * n) [] p (length s) l)))) h

  -- a code that is cut, behind a name that ends at q: 2 at its first byte
  pub code-cut-first : (n : ℕ) (nm : Name) (q : ℕ) → string s at ≡ ok nm q → length s - q < 6 → colour n s at ≡ refuse 2 q 0 0
  unfolding colour
  code-cut-first n nm q name few = rw name (rw (body-short 1 s q 6 (omega arith)))

  -- a page size of 0: 5, before the space is looked for
  pub no-page-first : (n : ℕ) (l : List ℕ) → n < 256 ^ 2 → Tail s at (be 2 n ++ (be 2 0 ++ l)) → numbers s at ≡ refuse 5 (at + 2) 0 0
  unfolding numbers
  no-page-first n l small t =
      let u : Tail s (at + 2) (be 2 0 ++ l) = tail-after s at (be 2 n) (be 2 0 ++ l) (at + 2) (ap (λ (k : ℕ). at + k) (length-be 2 n)) t in
      rw (field-there s 2 at n small (tail-left s at (be 2 n) (be 2 0 ++ l) t)) (rw (judged-wrong s 2 (at + 2) page_size 5 0 (omega arith) refl (tail-left s (at + 2) (be 2 0) l u)))

  -- ---- behind the records

  -- one to seven bytes, whatever they are: 2 there
  pub tag-cut-first : at < length s → length s < at + 8 → closing s at ≡ refuse 2 at 0 0
  unfolding closing
  tag-cut-first more less = rw (ne_eqb at (length s) (λ z. omega arith)) (rw (judged-short 8 s at tag (sym (field-short 8 s at (omega arith)))))

  -- a tag and more: 6 behind it
  pub left-over-last : (v : ℕ) → v < 256 ^ 8 → is_tag v ≡ true → At s at (be 8 v) → at + 8 < length s → closing s at ≡ refuse 6 (at + 8) 0 0
  unfolding closing
  left-over-last v small known h more = rw (ne_eqb at (length s) (λ z. omega arith)) (rw (judged-there s 8 at tag v small (rw known) h) (ended-left (tag_of v) s (at + 8) more))
