-- Where the parts of a block lie that was read, and where it ends. Assumes nothing.
use Prim.Native.Nat.{ℕ, ◌+◌, ◌%◌}
use mathlib.Core.Path.{◌≡◌, refl, sym, ap, ◌∙◌, subst}
use mathlib.Core.List.{List}
use lib.ListN.{length}
use native.Mathlib.Omega.{arith}
use native.Mathlib.Nat.{zero-add}
use Rattle.algebra.specs.Reader.{Res, ok, refuse, field, body, judged, map_res}
use Rattle.algebra.proofs.Places.{length-nums}
use Rattle.algebra.proofs.Inverse.{clash, ok-value, ok-place, then-inv, field-inv, body-inv, judged-inv}
use Rattle.resource.specs.Reading.{Part, Entry, block_part, zeroed, pad, padded_part, sized_part, is_signature, block}
use Rattle.resource.specs.Tiling.{size_of, Lies}

module _ (s : List ℕ) where
  pub run_lies : (n at : ℕ) {p : Part} {q : ℕ} → block_part n s at ≡ ok p q → (p.first ≡ at) × (length p.bytes ≡ n) × (at + n ≡ q)
  unfolding block_part
  run_lies n at {p} {q} e = go (body 1 n s at) refl e
    where
      go : (m : Res (List ℕ)) → body 1 n s at ≡ m → map_res (λ b. record { first = at; bytes = b }) m ≡ ok p q → (p.first ≡ at) × (length p.bytes ≡ n) × (at + n ≡ q)
      go (ok l r) h g =
          let i = body-inv 1 s at n h in
          let v = ok-value g in
          (sym (ap (λ (x : Part). x.first) v), sym (ap (λ (x : Part). length x.bytes) v) ∙ sym (ap length i.1) ∙ length-nums 1 n s at, omega (arith, i.2, ok-place g))
      go (refuse x y r f) h g = clash g

  pub counted-lies : (w k at : ℕ) {p : Part} {q : ℕ} → sized_part w k s at ≡ ok p q → (p.first ≡ at + w) × (q ≡ at + w + (length p.bytes + (k + length p.bytes) % 2))
  unfolding padded_part
  counted-lies w k at {p} {q} e =
      let a = then-inv (field w s at) _ e in
      let i = field-inv w s at a.2 in
      let b = then-inv (block_part a.0 s a.1) _ a.3 in
      let j = run_lies a.0 a.1 b.2 in
      let c = then-inv (pad (k + a.0) s b.1) _ b.3 in
      let l = judged-inv ((k + a.0) % 2) s b.1 zeroed c.2 in
      let v : b.0 ≡ p = ok-value c.3 in
      let n : length p.bytes ≡ a.0 = sym (ap (λ (x : Part). length x.bytes) v) ∙ j.1 in
      let z : (k + a.0) % 2 ≡ (k + length p.bytes) % 2 = ap (λ (m : ℕ). (k + m) % 2) (sym n) in
      (sym (ap (λ (x : Part). x.first) v) ∙ j.0 ∙ sym i.2, omega (arith, i.2, j.2, l.2, ok-place c.3))

  pub block-lies : (at : ℕ) {e : Entry} {q : ℕ} → block s at ≡ ok e q → Lies at e × (q ≡ at + size_of e)
  unfolding block
  block-lies at {e} {q} h =
      let a = then-inv (judged 4 is_signature s at) _ h in
      let i = judged-inv 4 s at is_signature a.2 in
      let b = then-inv (field 2 s a.1) _ a.3 in
      let j = field-inv 2 s a.1 b.2 in
      let c = then-inv (sized_part 1 1 s b.1) _ b.3 in
      let k = counted-lies 1 1 b.1 c.2 in
      let d = then-inv (sized_part 4 0 s c.1) _ c.3 in
      let l = counted-lies 4 0 c.1 d.2 in
      let v = ok-value d.3 in
      let nm : c.0 ≡ e.name = ap (λ (x : Entry). x.name) v in
      let pl : d.0 ≡ e.payload = ap (λ (x : Entry). x.payload) v in
      let n : ℕ = length e.name.bytes in
      let m : ℕ = length e.payload.bytes in
      let fn : e.name.first ≡ b.1 + 1 = subst (λ (x : Part). x.first ≡ b.1 + 1) nm k.0 in
      let en : c.1 ≡ b.1 + 1 + (n + (1 + n) % 2) = subst (λ (x : Part). c.1 ≡ b.1 + 1 + (length x.bytes + (1 + length x.bytes) % 2)) nm k.1 in
      let fp : e.payload.first ≡ c.1 + 4 = subst (λ (x : Part). x.first ≡ c.1 + 4) pl l.0 in
      let ep : d.1 ≡ c.1 + 4 + (m + (0 + m) % 2) = subst (λ (x : Part). d.1 ≡ c.1 + 4 + (length x.bytes + (0 + length x.bytes) % 2)) pl l.1 in
      let z : (0 + m) % 2 ≡ m % 2 = ap (λ (y : ℕ). y % 2) (zero-add m) in
      (record { name = omega (arith, i.2, j.2); payload = omega (arith, i.2, j.2) }, omega (arith, i.2, j.2, ok-place d.3))
