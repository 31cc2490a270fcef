-- What is refused in each turn of a header, a record and an end: a damaged one, by its number and at its place. Assumes nothing.
use Prim.Native.Nat.{ℕ, ◌+◌, ◌^◌, ◌<◌}
use mathlib.Core.Path.{◌≡◌, refl, sym, ap, ◌∙◌, subst}
use mathlib.Core.List.{List, ◌++◌}
use mathlib.Core.Bool.{Bool, true, false}
use lib.ListN.{length}
use borrow.Author.Tests.{ne_eqb}
use native.Mathlib.Omega.{arith}
use native.Mathlib.Nat.{add-zero}
use Rattle.algebra.specs.Chars.{chars}
use Rattle.algebra.specs.Numbers.{nums, be, joined, Bytes}
use Rattle.algebra.specs.Reader.{Res, ok, refuse, field, fault, judged, each}
use Rattle.algebra.proofs.Laws.{field-short, body-short}
use Rattle.algebra.proofs.Places.{length-be, length-bes, length-nums, nums-lt, bes-nums}
use Rattle.algebra.proofs.Exact.{all_map, body-exact}
use Rattle.algebra.proofs.Sequence.{field-exact}
use Rattle.algebra.proofs.Stops.{each-stops}
use Rattle.algebra.proofs.Tails.{Tail, tail-left, tail-after, field-there, field_cut, judged-there, judged-wrong, judged-cut}
use Rattle.acb.specs.Grammar.{none, spot, process, Unknown, Space, bytes_of_string}
use Rattle.acb.specs.Reading.{string, colour, is_space, components_of, page_size, space, signature, version, opening, numbers, is_tag, tag_of, tag, closing}
use Rattle.acb.specs.Damaged.{DamagedOpening, signature_cut, wrong_signature, version_cut, wrong_version, identifier_cut, CutString, count_cut, units_cut, DamagedNumbers, colours_cut, size_cut, size-zero, offset_cut, space_cut, wrong_space, CutColour, name_cut, code_cut, component_cut, DamagedEnd, tag_cut, wrong_tag, left_over}
use Rattle.acb.proofs.Answers.{code-cut-first, no-page-first, tag-cut-first, left-over-last}
use Rattle.acb.proofs.Laws.{is-space, size-fine, string-exact}
use Rattle.acb.proofs.Whole.{tag_is}

-- what is no space of the grammar is none of the reader's
no-space : (v : ℕ) → ((n : ℕ) → Space v n → ⊥) → is_space v ≡ false
no-space v out = go (is_space v) refl
  where
    go : (b : Bool) → is_space v ≡ b → is_space v ≡ false
    go true e = absurd (out (components_of v) (is-space v e))
    go false e = e

-- and what is no tag
no_tag : (v : ℕ) → Unknown v → is_tag v ≡ false
no_tag v u = go (is_tag v) refl
  where
    go : (b : Bool) → is_tag v ≡ b → is_tag v ≡ false
    go true e = absurd (u.no_tag (tag_of v) (sym (tag_is v e)))
    go false e = e

-- each number, and what is right
other-signature : (v : ℕ) → (v ≡ chars "8BCB" → ⊥) → signature v ≡ fault 3 0 0
other-signature v ne = rw (ne_eqb v (chars "8BCB") ne)

other-version : (v : ℕ) → (v ≡ 1 → ⊥) → version v ≡ fault 3 0 0
other-version v ne = rw (ne_eqb v 1 ne)

other-space : (v : ℕ) → ((n : ℕ) → Space v n → ⊥) → space v ≡ fault 4 0 0
other-space v out = rw (no-space v out)

other_tag : (v : ℕ) → Unknown v → tag v ≡ fault 3 0 0
other_tag v u = rw (no_tag v u)

module _ (s : List ℕ) where
  behind : (w v at : ℕ) (x : List ℕ) → Tail s at (be w v ++ x) → Tail s (at + w) x
  behind w v at x t = tail-after s at (be w v) x (at + w) (ap (λ (k : ℕ). at + k) (length-be w v)) t

  here : {A : Type 0} (z at : ℕ) → ◌≡◌ {A = Res A} (refuse z at 0 0) (refuse z (at + 0) 0 0)
  here z at = ap (λ (k : ℕ). refuse z k 0 0) (sym (add-zero at))

  -- ---- signature, version, identifier

  signed : (x : List ℕ) → Tail s 0 (be 4 (chars "8BCB") ++ x) → (judged 4 signature s 0 ≡ ok (chars "8BCB") 4) × Tail s 4 x
  signed x t = (judged-there s 4 0 signature (chars "8BCB") (omega arith) refl (tail-left s 0 (be 4 (chars "8BCB")) x t), behind 4 (chars "8BCB") 0 x t)

  versioned : (x : List ℕ) → Tail s 4 (be 2 1 ++ x) → (judged 2 version s 4 ≡ ok 1 6) × Tail s 6 x
  versioned x t = (judged-there s 2 4 version 1 (omega arith) refl (tail-left s 4 (be 2 1) x t), behind 2 1 4 x t)

  pub opening-stops : {l : List ℕ} {z p : ℕ} → DamagedOpening l z p → Tail s 0 l → opening s 0 ≡ refuse z p 0 0
  unfolding opening
  opening-stops (signature_cut l few) t = rw (judged-cut s 4 0 signature few t)
  opening-stops (wrong_signature v l small ne) t = rw (judged-wrong s 4 0 signature 3 v small (other-signature v ne) (tail-left s 0 (be 4 v) l t))
  opening-stops (version_cut l few) t = let a = signed l t in rw a.0 (rw (judged-cut s 2 4 version few a.1))
  opening-stops (wrong_version v l small ne) t = let a = signed (be 2 v ++ l) t in rw a.0 (rw (judged-wrong s 2 4 version 3 v small (other-version v ne) (tail-left s 4 (be 2 v) l a.1)))
  opening-stops (identifier_cut l few) t =
      let a = signed (be 2 1 ++ l) t in
      let b = versioned l a.1 in
      rw a.0 (rw b.0 (field_cut s 2 6 few b.1))

  -- ---- a string

  pub string-stops : (at : ℕ) {l : List ℕ} {p : ℕ} → CutString l p → Tail s at l → string s at ≡ refuse 2 (at + p) 0 0
  unfolding string
  string-stops at (count_cut l few) t = rw (field_cut s 4 at few t) (here 2 at)
  string-stops at (units_cut n l small few) t =
      let u : Tail s (at + 4) l = behind 4 n at l t in
      rw (field-there s 4 at n small (tail-left s at (be 4 n) l t)) (rw (body-short 2 s (at + 4) n (omega (arith, u.ends))))

  -- ---- colour count, page size, page offset, space

  module _ (at : ℕ) where
    counted : (n : ℕ) (x : List ℕ) → n < 256 ^ 2 → Tail s at (be 2 n ++ x) → (field 2 s at ≡ ok n (at + 2)) × Tail s (at + 2) x
    counted n x small t = (field-there s 2 at n small (tail-left s at (be 2 n) x t), behind 2 n at x t)

    sized : (z : ℕ) (x : List ℕ) → 0 < z → z < 256 ^ 2 → Tail s (at + 2) (be 2 z ++ x) → (judged 2 page_size s (at + 2) ≡ ok z (at + 4)) × Tail s (at + 4) x
    sized z x some small t =
        let e : at + 2 + 2 ≡ at + 4 = omega arith in
        subst (λ (k : ℕ). (judged 2 page_size s (at + 2) ≡ ok z k) × Tail s k x) e (judged-there s 2 (at + 2) page_size z small (size-fine z some) (tail-left s (at + 2) (be 2 z) x t), behind 2 z (at + 2) x t)

    offset : (o : ℕ) (x : List ℕ) → o < 256 ^ 2 → Tail s (at + 4) (be 2 o ++ x) → (field 2 s (at + 4) ≡ ok o (at + 6)) × Tail s (at + 6) x
    offset o x small t =
        let e : at + 4 + 2 ≡ at + 6 = omega arith in
        subst (λ (k : ℕ). (field 2 s (at + 4) ≡ ok o k) × Tail s k x) e (field-there s 2 (at + 4) o small (tail-left s (at + 4) (be 2 o) x t), behind 2 o (at + 4) x t)

    pub numbers-stop : {l : List ℕ} {z p : ℕ} → DamagedNumbers l z p → Tail s at l → numbers s at ≡ refuse z (at + p) 0 0
    unfolding numbers
    numbers-stop (colours_cut l few) t = rw (field_cut s 2 at few t) (here 2 at)
    numbers-stop (size_cut n l fn few) t = let a = counted n l fn t in rw a.0 (rw (judged-cut s 2 (at + 2) page_size few a.1))
    numbers-stop (size-zero n l fn) t = no-page-first s at n l fn t
    numbers-stop (offset_cut n z l h few) t =
        let a = counted n (be 2 z ++ l) h.count t in
        let b = sized z l h.some h.size a.1 in
        rw a.0 (rw b.0 (rw (field_cut s 2 (at + 4) few b.1)))
    numbers-stop (space_cut n z o l h fo few) t =
        let a = counted n (be 2 z ++ (be 2 o ++ l)) h.count t in
        let b = sized z (be 2 o ++ l) h.some h.size a.1 in
        let c = offset o l fo b.1 in
        rw a.0 (rw b.0 (rw c.0 (rw (judged-cut s 2 (at + 6) space few c.1))))
    numbers-stop (wrong_space n z o v l h fo fv out) t =
        let a = counted n (be 2 z ++ (be 2 o ++ (be 2 v ++ l))) h.count t in
        let b = sized z (be 2 o ++ (be 2 v ++ l)) h.some h.size a.1 in
        let c = offset o (be 2 v ++ l) fo b.1 in
        rw a.0 (rw b.0 (rw c.0 (rw (judged-wrong s 2 (at + 6) space 4 v fv (other-space v out) (tail-left s (at + 6) (be 2 v) l c.1)))))

-- ---- a record

module _ (s : List ℕ) (bytes : Bytes s) (n at : ℕ) where
  -- as many components as bytes are there, and no more
  components-stop : (p : ℕ) (l : List ℕ) → length l < n → Tail s p l → each n 0 (λ i. field 1) s p ≡ refuse 2 (p + length l) 0 0
  components-stop p l few t =
      let m : ℕ = length l in
      let ks : List ℕ = nums 1 m s p in
      let c : length ks ≡ m = length-nums 1 m s p in
      let e : p + length (joined (be 1) ks) ≡ p + m = omega (arith, length-bes 1 ks) in
      each-stops {p = λ i. field 1} {Ok = λ i b. b < 256 ^ 1} (λ i. field-exact s bytes 1) n 0 p ks (omega arith) (nums-lt 1 s bytes m p 0) (bes-nums 1 s bytes m p (omega (arith, t.ends)))
      (subst (λ (k : ℕ). field 1 s k ≡ refuse 2 (p + m) 0 0) (sym e) (field-short 1 s (p + m) (omega (arith, t.ends))))

  pub colour-stops : {l : List ℕ} {p : ℕ} → CutColour n l p → Tail s at l → colour n s at ≡ refuse 2 (at + p) 0 0
  unfolding colour
  colour-stops (name_cut l p d) t = rw (string-stops s at d t)
  colour-stops (code_cut us l fit few) t =
      let q : ℕ = at + length (bytes_of_string us) in
      let r = (string-exact s bytes).reads at us fit (tail-left s at (bytes_of_string us) l t) in
      let u : Tail s q l = tail-after s at (bytes_of_string us) l q refl t in
      code-cut-first s at n r.0 q r.1 (omega (arith, u.ends))
  colour-stops (component_cut us cs l fit six few) t =
      let c : List ℕ = joined (be 1) cs in
      let q : ℕ = at + length (bytes_of_string us) in
      let r = (string-exact s bytes).reads at us fit (tail-left s at (bytes_of_string us) (c ++ l) t) in
      let u : Tail s q (c ++ l) = tail-after s at (bytes_of_string us) (c ++ l) q refl t in
      let b = (body-exact s bytes 1 6).reads q cs (six.count, all_map (λ k b. b < 256) (λ k b. b < 256 ^ 1) (λ k b l. omega arith) 0 cs six.each) (tail-left s q c l u) in
      let k = components-stop (q + length c) l few (tail-after s q c l (q + length c) refl u) in
      let e : q + length c + length l ≡ at + (length (bytes_of_string us) + (6 + length l)) = omega (arith, length-bes 1 cs, six.count) in
      rw r.1 (rw b.1 (rw k (ap (λ (k : ℕ). refuse 2 k 0 0) e)))

-- ---- what stands behind the records

module _ (s : List ℕ) (bytes : Bytes s) (at : ℕ) where
  left : (v : ℕ) (l : List ℕ) → v < 256 ^ 8 → is_tag v ≡ true → 0 < length l → Tail s at (be 8 v ++ l) → closing s at ≡ refuse 6 (at + 8) 0 0
  left v l small known some t =
      let u : Tail s (at + 8) l = behind s 8 v at l t in
      left-over-last s at v small known (tail-left s at (be 8 v) l t) (omega (arith, u.ends))

  pub end-stops : {l : List ℕ} {z p : ℕ} → DamagedEnd l z p → Tail s at l → closing s at ≡ refuse z (at + p) 0 0
  unfolding closing
  end-stops (tag_cut l some few) t = tag-cut-first s at (omega (arith, t.ends)) (omega (arith, t.ends)) ∙ here s 2 at
  end-stops (wrong_tag v l u) t =
      let x : Tail s (at + 8) l = behind s 8 v at l t in
      rw (ne_eqb at (length s) (λ z. omega (arith, x.ends))) (rw (judged-wrong s 8 at tag 3 v u.small (other_tag v u) (tail-left s at (be 8 v) l t)) (here s 3 at))
  end-stops (left_over none l ne some) t = absurd (ne refl)
  end-stops (left_over spot l ne some) t = left (chars "spflspot") l (omega arith) refl some t
  end-stops (left_over process l ne some) t = left (chars "spflproc") l (omega arith) refl some t
