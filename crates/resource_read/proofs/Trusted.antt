-- A block of an accepted section by its lengths alone. Assumes nothing.
use Prim.Native.Nat.{ℕ, ◌+◌, ◌*◌, ◌/◌, ◌%◌, ◌≤◌, ◌<◌}
use mathlib.Core.Path.{◌≡◌, refl, sym, ap, ◌∙◌}
use mathlib.Core.List.{List}
use lib.ListN.{length, get_or}
use native.Mathlib.Omega.{arith}
use Rattle.algebra.specs.Numbers.{num}
use Rattle.algebra.specs.Reader.{Res, ok, refuse, field, judged, map_res, or_zero}
use Rattle.algebra.proofs.Laws.{num-1, field_in}
use Rattle.algebra.proofs.Inverse.{clash, ok-value, then-inv, field-inv, judged-inv}
use Rattle.resource.specs.Reading.{Part, Entry, block_part, pad, padded_part, sized_part, is_signature, block}
use Rattle.resource.specs.Rows.{to_record}
use Rattle.resource.specs.Tiling.{even}
use Rattle.resource.specs.declared.Record.{Record}
use Rattle.resource.proofs.Lies.{run_lies, counted-lies, block-lies}
use Rattle.resource.proofs.Whole.{block-moves, blocks-no}
use Rattle.resource_read.specs.scaffold.Parts.{Sound}

module _ (s : List ℕ) where
  -- a length is the number of the bytes behind it
  counted-length : (w k at : ℕ) {p : Part} {q : ℕ} → sized_part w k s at ≡ ok p q → length p.bytes ≡ num w s at
  unfolding padded_part
  counted-length w k at e =
      let a = then-inv (field w s at) _ e in
      let i = field-inv w s at a.2 in
      let b = then-inv (block_part a.0 s a.1) _ a.3 in
      let j = run_lies s a.0 a.1 b.2 in
      let c = then-inv (pad (k + a.0) s b.1) _ b.3 in
      sym (ap (λ (x : Part). length x.bytes) (ok-value c.3)) ∙ j.1 ∙ sym i.1

  -- the numbers of a block that was read
  record Numbers (at : ℕ) (e : Entry) : Type 0 where
    pub id : e.id ≡ num 2 s (at + 4)
    pub letters : length e.name.bytes ≡ num 1 s (at + 6)
    pub size : length e.payload.bytes ≡ num 4 s (at + 6 + even (1 + length e.name.bytes))

  block-numbers : (at : ℕ) {e : Entry} {q : ℕ} → block s at ≡ ok e q → Numbers at e
  unfolding block
  block-numbers at {e} {q} h =
      let a = then-inv (judged 4 is_signature s at) _ h in
      let i = judged-inv 4 s at is_signature a.2 in
      let b = then-inv (field 2 s a.1) _ a.3 in
      let j = field-inv 2 s a.1 b.2 in
      let c = then-inv (sized_part 1 1 s b.1) _ b.3 in
      let d = then-inv (sized_part 4 0 s c.1) _ c.3 in
      let v = ok-value d.3 in
      let n = counted-length 1 1 b.1 c.2 in
      let m = counted-length 4 0 c.1 d.2 in
      let six : b.1 ≡ at + 6 = omega (arith, i.2, j.2) in record {
        id = sym (ap (λ (x : Entry). x.id) v) ∙ sym j.1 ∙ ap (num 2 s) (sym i.2);
        letters = sym (ap (λ (x : Entry). length x.name.bytes) v) ∙ n ∙ ap (num 1 s) six;
        size = sym (ap (λ (x : Entry). length x.payload.bytes) v) ∙ m ∙ ap (num 4 s) (name-end b.1 c.1 six c.2 (ap (λ (x : Entry). x.name) v));
      }
    where
      name-end : (p q : ℕ) {nm : Part} → p ≡ at + 6 → sized_part 1 1 s p ≡ ok nm q → nm ≡ e.name → q ≡ at + 6 + even (1 + length e.name.bytes)
      name-end p q z c is =
          let l = counted-lies s 1 1 p c in
          let n = ap (λ (x : Part). length x.bytes) is in
          omega (arith, l.1)

-- where bytes from an even place end, made even
rounded : (e z : ℕ) → e % 2 ≡ 0 → e + (z + z % 2) ≡ (e + z + 1) / 2 * 2
rounded e z h = omega arith

even-size : (at l : ℕ) → at % 2 ≡ 0 → (at + 8 + l / 2 * 2 + 4) % 2 ≡ 0
even-size at l h = omega arith

module _ (s : List ℕ) (at : ℕ) (fit : Sound s at) (more : at < length s) where
  -- before the end a block is read
  there : (e : Entry) × (q : ℕ) × (block s at ≡ ok e q)
  there = go (block s at) refl
    where
      go : (m : Res Entry) → block s at ≡ m → (e : Entry) × (q : ℕ) × (block s at ≡ ok e q)
      go (ok e q) h = (e, q, h)
      go (refuse x p r f) h = clash (sym (blocks-no s at fit.inside (λ z. omega (arith, z)) h) ∙ fit.reads)

  -- its fields are there
  pub given-room : at + 12 ≤ length s
  given-room = let t = there in omega (arith, (block-lies s at t.2).1, (block-moves s at t.0 t.1 fit.inside t.2).1)

  module _ {l : ℕ} (el : l ≡ get_or s (at + 6) 0) where
    -- where the data's length stands
    abbrev size_at : ℕ
    size_at = at + 8 + l / 2 * 2

    letters-are : length there.0.name.bytes ≡ l
    letters-are = (block-numbers s at there.2).letters ∙ num-1 s (at + 6) ∙ sym el

    pub given-end : size_at + 4 ≤ length s
    given-end = let t = there in omega (arith, letters-are, (block-lies s at t.2).1, (block-moves s at t.0 t.1 fit.inside t.2).1)

    pub given_is : {i z : ℕ} → i ≡ or_zero (field 2 s (at + 4)) → z ≡ or_zero (field 4 s size_at)
        → ok (record { id = i; name = at + 7; letters = l; payload = size_at + 4; size = z }) ((size_at + 4 + z + 1) / 2 * 2) ≡ map_res to_record (block s at)
    given_is {i} {z} ei ez =
        let t = there in
        let e : Entry = t.0 in
        let n = block-numbers s at t.2 in
        let b = block-lies s at t.2 in
        let len = letters-are in
        let p : at + 6 + even (1 + length e.name.bytes) ≡ size_at = omega (arith, len) in
        let id : e.id ≡ i = n.id ∙ sym (ap or_zero (field_in 2 s (at + 4) (omega (arith, given-room)))) ∙ sym ei in
        let size : length e.payload.bytes ≡ z = n.size ∙ ap (num 4 s) p ∙ sym (ap or_zero (field_in 4 s size_at (omega (arith, given-end)))) ∙ sym ez in
        let first : e.payload.first ≡ size_at + 4 = b.0.payload ∙ ap (λ (k : ℕ). k + 4) p in
        let far : t.1 ≡ size_at + 4 + (z + z % 2) = omega (arith, b.1, size, p) in
        let end : t.1 ≡ (size_at + 4 + z + 1) / 2 * 2 = far ∙ rounded (size_at + 4) z (even-size at l fit.even) in
        sym (ap (map_res to_record) t.2 ∙ same id b.0.name len first size end)
      where
        same : {a b c d f g a' b' c' d' f' g' : ℕ} → a ≡ a' → b ≡ b' → c ≡ c' → d ≡ d' → f ≡ f' → g ≡ g'
            → ◌≡◌ {A = Res Record} (ok (record { id = a; name = b; letters = c; payload = d; size = f }) g) (ok (record { id = a'; name = b'; letters = c'; payload = d'; size = f' }) g')
        same x y z u v w = cc
