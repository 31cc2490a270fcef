-- A refused ACB file has one of the numbers that ACB gives, and a place of the file. Assumes nothing.
use Prim.Native.Nat.{ℕ, ◌≤◌}
use mathlib.Core.Path.{◌≡◌, refl}
use mathlib.Core.List.{List}
use lib.ListN.{length}
use lib.Dec.{leb, ltb, eqb}
use native.Mathlib.Omega.{arith}
use Rattle.algebra.specs.Chars.{chars}
use Rattle.algebra.specs.Reader.{refuse, field, body, judged, each, limit}
use Rattle.algebra.specs.Refusal.{Of, among, Placed, ends, fails}
use Rattle.algebra.proofs.Placed.{unless-numbered, refusal-placed, placed-then, placed-pick, field-placed, body-placed, judged-placed, ended-placed, each_placed}
use Rattle.acb.specs.Reading.{string, colour, is_space, components_of, page_size, space, signature, version, opening, strings, numbers, header, is_tag, tag_of, tag, closing, book, acb}
use Rattle.acb.specs.Refusals.{refusals}

module _ {s : List ℕ} where
  string-placed : (at : ℕ) → at ≤ length s → Placed refusals s (string s at)
  unfolding string
  string-placed at l = placed-then (field 4 s at) _ (field-placed (among refl) 4 at l) (λ n q h. placed-then (body 2 n s q) _ (body-placed (among refl) 2 n q h) (λ us e g. ends g))

  colour-placed : (n at : ℕ) → at ≤ length s → Placed refusals s (colour n s at)
  unfolding colour
  colour-placed n at l =
      placed-then (string s at) _ (string-placed at l)
      (λ nm q h. placed-then (body 1 6 s q) _ (body-placed (among refl) 1 6 q h)
      (λ cs e g. placed-then (each n 0 (λ i. field 1) s e) _ (each_placed (λ i. field 1) (λ i r w. field-placed (among refl) 1 r w) n 0 e g) (λ ks z w. ends w)))

  opening-placed : (at : ℕ) → at ≤ length s → Placed refusals s (opening s at)
  unfolding opening
  opening-placed at l =
      placed-then (judged 4 signature s at) _ (judged-placed (among refl) 4 signature at (λ x. unless-numbered (eqb x (chars "8BCB")) (among refl)) l)
      (λ x q h. placed-then (judged 2 version s q) _ (judged-placed (among refl) 2 version q (λ v. unless-numbered (eqb v 1) (among refl)) h) (λ v e g. field-placed (among refl) 2 e g))

  numbers-placed : (at : ℕ) → at ≤ length s → Placed refusals s (numbers s at)
  unfolding numbers
  numbers-placed at l =
      placed-then (field 2 s at) _ (field-placed (among refl) 2 at l)
      (λ n q h. placed-then (judged 2 page_size s q) _ (judged-placed (among refl) 2 page_size q (λ z. unless-numbered (ltb 0 z) (among refl)) h)
      (λ z e g. placed-then (field 2 s e) _ (field-placed (among refl) 2 e g)
      (λ o r w. placed-then (judged 2 space s r) _ (judged-placed (among refl) 2 space r (λ x. unless-numbered (is_space x) (among refl)) w) (λ x y v. ends v))))

  header-placed : (at : ℕ) → at ≤ length s → Placed refusals s (header s at)
  unfolding header strings
  header-placed at l =
      placed-then (opening s at) _ (opening-placed at l)
      (λ i q h. placed-then (each 4 0 (λ k. string) s q) _ (each_placed (λ k. string) (λ k r w. string-placed r w) 4 0 q h)
      (λ ts e g. placed-then (numbers s e) _ (numbers-placed e g) (λ ns z w. ends w)))

  closing-placed : (at : ℕ) → at ≤ length s → Placed refusals s (closing s at)
  unfolding closing
  closing-placed at l =
      placed-pick (eqb at (length s)) (ends l)
      (placed-then (judged 8 tag s at) _ (judged-placed (among refl) 8 tag at (λ t. unless-numbered (is_tag t) (among refl)) l) (λ t q h. ended-placed (among refl) (tag_of t) q h))

  book-placed : (at : ℕ) → at ≤ length s → Placed refusals s (book s at)
  unfolding book
  book-placed at l =
      placed-then (header s at) _ (header-placed at l)
      (λ h q w. placed-then (each h.numbers.count 0 (λ i. colour (components_of h.numbers.space)) s q) _
      (each_placed (λ i. colour (components_of h.numbers.space)) (λ i r v. colour-placed (components_of h.numbers.space) r v) h.numbers.count 0 q w)
      (λ es e g. placed-then (closing s e) _ (closing-placed e g) (λ t z v. ends v)))

pub refused-placed : (s : List ℕ) {x p r f : ℕ} → acb s ≡ refuse x p r f → Of refusals x × (p ≤ length s)
unfolding acb
refused-placed s e = refusal-placed {s = s} (placed-pick (leb (length s) limit) (book-placed 0 (omega arith)) (fails (among refl) (omega arith))) e
