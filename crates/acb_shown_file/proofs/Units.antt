-- A full name by units: the bytes of the prefix's text, of the record's name and of the suffix's text, wherever in the file they lie.
use Prim.Native.Nat.{ℕ, ◌+◌, ◌*◌, ◌≤◌, ◌<◌}
use mathlib.Core.Path.{◌≡◌, sym, ap, ap₂, ◌∙◌, subst}
use mathlib.Core.List.{List, ◌++◌}
use lib.ListN.{length, get_or}
use lib.Dec.{leb}
use native.Mathlib.Omega.{arith}
use Rattle.algebra.specs.Numbers.{be, joined, nums, At, Bytes}
use Rattle.algebra.specs.Reader.{ok, each, body, field, limit}
use Rattle.algebra.specs.Text.{Name}
use Rattle.algebra.specs.Store.{part}
use Rattle.algebra.proofs.Inverse.{ok-value, then-inv, pick_inv, field-inv, body-inv, each-length}
use Rattle.algebra.proofs.Places.{at_take, bes-nums, length-bes, length-nums}
use Rattle.acb.specs.Reading.{string, Entry, components_of, header, closing, colour, Contents, book, acb}
use Rattle.acb_read.specs.Table.{blank}
use Rattle.acb_shown_values.specs.Texts.{shown_text}
use Rattle.acb_shown_file.specs.View.{bytes_of, unit_bytes, prefix_of, suffix_of, full_name}
use Rattle.acb_shown_file.proofs.Naming.{each-has, texts-have}

module _ (s : List ℕ) (bytes : Bytes s) where
  string_bytes : (at : ℕ) (nm : Name) (q : ℕ) → string s at ≡ ok nm q → bytes_of s nm ≡ unit_bytes nm
  unfolding string
  string_bytes at nm q e =
      let t = then-inv (field 4 s at) _ e in
      let x = field-inv 4 s at t.2 in
      let u = then-inv (body 2 t.0 s t.1) _ t.3 in
      let y = body-inv 2 s t.1 t.0 u.2 in
      let z = ok-value u.3 in
      subst (λ (k : Name). bytes_of s k ≡ unit_bytes k) z (go t.0 t.1 u.0 y.1 (omega (arith, x.0, x.2, y.0)))
    where
      go : (n p : ℕ) (us : List ℕ) → nums 2 n s p ≡ us → p + n * 2 ≤ length s → part s p (2 * length us) ≡ joined (be 2) us
      go n p us e le =
          let l : length us ≡ n = ap length (sym e) ∙ length-nums 2 n s p in
          let k : 2 * length us ≡ length (joined (be 2) us) = omega (arith, length-bes 2 us) in
          ap (part s p) k ∙ at_take s p (joined (be 2) us) (subst (λ (vs : List ℕ). At s p (joined (be 2) vs)) e (bes-nums 2 s bytes n p le))

  name-bytes : (n at : ℕ) (e : Entry) (q : ℕ) → colour n s at ≡ ok e q → bytes_of s e.name ≡ unit_bytes e.name
  unfolding colour
  name-bytes n at e q h =
      let a = then-inv (string s at) _ h in
      let b = then-inv (body 1 6 s a.1) _ a.3 in
      let c = then-inv (each n 0 (λ i. field 1) s b.1) _ b.3 in
      subst (λ (y : Entry). bytes_of s y.name ≡ unit_bytes y.name) (ok-value c.3) (string_bytes at a.0 a.1 a.2)

  -- the name of each record
  names-are : {c : Contents} {q : ℕ} → acb s ≡ ok c q → (i : ℕ) → i < length c.entries → bytes_of s (get_or c.entries i blank).name ≡ unit_bytes (get_or c.entries i blank).name
  unfolding acb book
  names-are {c} {q} e i h =
      let j = pick_inv (leb (length s) limit) (book s 0) 1 0 0 0 e in
      let t = then-inv (header s 0) _ j.1 in
      let n : ℕ = components_of t.0.numbers.space in
      let u = then-inv (each t.0.numbers.count 0 (λ i. colour n) s t.1) _ t.3 in
      let v = then-inv (closing s u.1) _ u.3 in
      let l : length u.0 ≡ t.0.numbers.count = each-length (λ i. colour n) s t.0.numbers.count 0 t.1 u.2 in
      let y : u.0 ≡ c.entries = ap (λ (c : Contents). c.entries) (ok-value v.3) in
      subst (λ (es : List Entry). bytes_of s (get_or es i blank).name ≡ unit_bytes (get_or es i blank).name) y
      (each-has (colour n) s blank (λ (x : Entry). bytes_of s x.name ≡ unit_bytes x.name) (name-bytes n) t.0.numbers.count 0 t.1 u.2 i (omega (arith, ap length y)))

  pub full-name-units : {c : Contents} {q : ℕ} → acb s ≡ ok c q → (i : ℕ) → i < length c.entries
      → full_name s c (get_or c.entries i blank) ≡ shown_text (unit_bytes (prefix_of c)) ++ (unit_bytes (get_or c.entries i blank).name ++ shown_text (unit_bytes (suffix_of c)))
  unfolding full_name
  full-name-units e i h =
      ap₂ (λ (x y : List ℕ). x ++ y) (ap shown_text (texts-have s (λ (nm : Name). bytes_of s nm ≡ unit_bytes nm) string_bytes e 1 (omega arith))) (ap₂ (λ (x y : List ℕ). x ++ y) (names-are e i h) (ap shown_text (texts-have s (λ (nm : Name). bytes_of s nm ≡ unit_bytes nm) string_bytes e 2 (omega arith))))
