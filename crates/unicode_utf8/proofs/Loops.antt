-- The loops over units: what is left, and what was stored. Assumes nothing.
use Prim.Native.Nat.{ℕ, ◌+◌, ◌*◌, ◌≤◌, ◌<◌}
use mathlib.Core.Path.{◌≡◌, refl, sym, ap, ap₂, ◌∙◌}
use mathlib.Core.List.{List, ◌++◌}
use lib.ListN.{length, get_or, drop, set, length-append, length-set}
use lib.Seq.{sets, length-sets}
use native.Mathlib.Omega.{arith}
use native.Mathlib.Numerals.{add-one}
use Rattle.algebra.proofs.Stores.{sets-append}
use Rattle.unicode_text.specs.Reading.{scalar_bytes, utf8}
use Rattle.unicode_text.specs.scaffold.Steps.{scalar_at, taken}
use Rattle.unicode_text.proofs.Laws.{utf8-next, utf8-ascii, utf8-past, taken-some}

-- n bytes are counted for the units before i
pub record Counting (us : List ℕ) (n i : ℕ) : Type 0 where
  pub few : n ≤ 4 * i
  pub left : n + length (utf8 (drop i us)) ≡ length (utf8 us)

pub count-start : (us : List ℕ) → Counting us 0 0
count-start us = record { few = omega arith; left = omega arith }

module _ (us : List ℕ) (n i : ℕ) (k : Counting us n i) where
  pub count-end : length us ≤ i → n ≡ length (utf8 us)
  count-end h = let e = ap length (utf8-past us i h) in omega (arith, e, k.left)

  module _ (h : i < length us) (u : ℕ) (e : u ≡ get_or us i 0) where
    pub count-ascii : u < 0x80 → Counting us (n + 1) (i + 1)
    count-ascii l = let f = ap length (utf8-ascii us i h u e l) in record { few = omega (arith, k.few); left = omega (arith, f, k.left) }

    pub count_next : (v c w t : ℕ) → v ≡ get_or us (i + 1) 0 → c ≡ scalar_at u v → w ≡ length (scalar_bytes c) → w ≤ 4 → t ≡ taken u v → Counting us (n + w) (i + t)
    count_next v c w t f g p q r =
        let x : utf8 (drop i us) ≡ scalar_bytes c ++ utf8 (drop (i + t) us) =
        utf8-next us i h u v e f ∙ ap₂ (λ (a b : ℕ). scalar_bytes a ++ utf8 (drop (i + b) us)) (sym g) (sym r) in
        let y : length (utf8 (drop i us)) ≡ length (scalar_bytes c) + length (utf8 (drop (i + t) us)) = ap length x ∙ length-append (scalar_bytes c) (utf8 (drop (i + t) us)) in
        let z = taken-some u v in
        record { few = omega (arith, k.few); left = omega (arith, y, k.left) }

-- the bytes of the units before i are stored in the n first of out, which was old
pub record Filling (us old out : List ℕ) (n i : ℕ) : Type 0 where
  pub same : length out ≡ length old
  pub room : n + length (utf8 (drop i us)) ≤ length old
  pub left : n + length (utf8 (drop i us)) ≡ length (utf8 us)
  pub all : sets old 0 (utf8 us) ≡ sets out n (utf8 (drop i us))

pub fill_start : (us old : List ℕ) → length (utf8 us) ≤ length old → Filling us old old 0 0
fill_start us old h = record { same = refl; room = omega arith; left = omega arith; all = refl }

module _ (us old out : List ℕ) (n i : ℕ) (k : Filling us old out n i) where
  pub fill_end : length us ≤ i → (n ≡ length (utf8 us)) × (out ≡ sets old 0 (utf8 us))
  fill_end h =
      let e = utf8-past us i h in
      let f = ap length e in
      (omega (arith, f, k.left), sym (k.all ∙ ap (λ (l : List ℕ). sets out n l) e))

  module _ (h : i < length us) (u : ℕ) (e : u ≡ get_or us i 0) where
    pub fill_one : u < 0x80 → n < length out
    fill_one l = let f = ap length (utf8-ascii us i h u e l) in omega (arith, f, k.room, k.same)

    pub fill-ascii : u < 0x80 → Filling us old (set out n u) (n + 1) (i + 1)
    fill-ascii l =
        let x = utf8-ascii us i h u e l in
        let f = ap length x in
        record {
          same = length-set out n u ∙ k.same;
          room = omega (arith, f, k.room);
          left = omega (arith, f, k.left);
          all = k.all ∙ ap (λ (b : List ℕ). sets out n b) x ∙ ap (λ (m : ℕ). sets (set out n u) m (utf8 (drop (i + 1) us))) (sym (add-one n));
        }

    module _ (v c : ℕ) (f : v ≡ get_or us (i + 1) 0) (g : c ≡ scalar_at u v) where
      rest : utf8 (drop i us) ≡ scalar_bytes c ++ utf8 (drop (i + taken u v) us)
      rest = utf8-next us i h u v e f ∙ ap (λ (a : ℕ). scalar_bytes a ++ utf8 (drop (i + taken u v) us)) (sym g)

      sum : length (utf8 (drop i us)) ≡ length (scalar_bytes c) + length (utf8 (drop (i + taken u v) us))
      sum = ap length rest ∙ length-append (scalar_bytes c) (utf8 (drop (i + taken u v) us))

      pub fill-room : n + length (scalar_bytes c) ≤ length out
      fill-room = omega (arith, sum, k.room, k.same)

      pub fill-next : (o : List ℕ) (m t : ℕ) → t ≡ taken u v → m ≡ n + length (scalar_bytes c) → o ≡ sets out n (scalar_bytes c) → Filling us old o m (i + t)
      fill-next o m t r p q =
          let s = sum in
          let w : length (utf8 (drop (i + t) us)) ≡ length (utf8 (drop (i + taken u v) us)) = ap (λ (a : ℕ). length (utf8 (drop (i + a) us))) r in
          record {
            same = ap length q ∙ length-sets out n (scalar_bytes c) ∙ k.same;
            room = omega (arith, s, w, k.room);
            left = omega (arith, s, w, k.left);
            all = k.all ∙ ap (λ (b : List ℕ). sets out n b) rest ∙ sets-append (scalar_bytes c) (utf8 (drop (i + taken u v) us)) out n
                ∙ ap₂ (λ (l : List ℕ) (a : ℕ). sets l a (utf8 (drop (i + taken u v) us))) (sym q) (sym p)
                ∙ ap (λ (a : ℕ). sets o m (utf8 (drop (i + a) us))) (sym r);
          }
