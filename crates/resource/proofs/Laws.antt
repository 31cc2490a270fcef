-- The reader's parts accept exactly the grammar's bytes. Assumes nothing.
use Prim.Native.Nat.{ℕ, zero, suc, ◌+◌, ◌%◌, ◌^◌, ◌<◌}
use mathlib.Core.Path.{◌≡◌, refl, sym, ap, ap₂, ◌∙◌, subst}
use mathlib.Core.List.{List, [], ◌∷◌, ◌++◌, append_assoc, append-nil}
use lib.Dec.{eqb}
use lib.ListN.{length, length-append}
use borrow.Author.Tests.{eqb-true}
use native.Mathlib.Omega.{arith}
use native.Mathlib.Nat.{zero-add}
use Rattle.algebra.specs.Chars.{chars}
use Rattle.algebra.specs.Numbers.{num, be, joined, At, Bytes, All}
use Rattle.algebra.specs.Reader.{Res, ok, refuse, body, give, ◌>>=◌, map_res}
use Rattle.algebra.specs.Algebra.{Exact}
use Rattle.algebra.proofs.Places.{length-be, num-lt, be-1, bytes-nil, bytes-be, bytes-append}
use Rattle.algebra.proofs.Inverse.{clash, ok-value, ok-place, unless-fine}
use Rattle.algebra.proofs.Exact.{judged-exact, body-exact, same-exact, one-exact, give-exact, bind-exact}
use Rattle.algebra.proofs.Sequence.{field-exact, mark-exact, then-exact}
use Rattle.resource.specs.Grammar.{Block, name_bytes, payload_bytes, block_bytes, section_bytes, Allowed}
use Rattle.resource.specs.Reading.{Part, Entry, block_of, block_part, zeroed, pad, padded_part, sized_part, block}

-- ---- bytes

pub all-octets : (i : ℕ) (l : List ℕ) → Bytes l → All (λ k v. v < 256 ^ 1) i l
all-octets i [] b = tt
all-octets i (x ∷ l) b = (b 0, all-octets (i + 1) l (λ k. b (suc k)))

octets-all : (i : ℕ) (l : List ℕ) → All (λ k v. v < 256 ^ 1) i l → Bytes l
octets-all i [] h k = bytes-nil k
octets-all i (x ∷ l) h zero = h.0
octets-all i (x ∷ l) h (suc k) = octets-all (i + 1) l h.1 k

-- the bytes of numbers of one byte are the numbers
pub joined-octets : (l : List ℕ) → Bytes l → joined (be 1) l ≡ l
unfolding joined
joined-octets [] b = refl
joined-octets (x ∷ l) b = ap₂ (λ (a c : List ℕ). a ++ c) (be-1 x (b 0)) (joined-octets l (λ k. b (suc k)))

-- ---- the bytes of a block, field by field

-- a length of w bytes, the bytes and their pad
abbrev pub counted_bytes : ℕ → ℕ → List ℕ → List ℕ
counted_bytes w k l = be w (length l) ++ (l ++ be ((k + length l) % 2) 0)

pub name-parts : (us : List ℕ) → name_bytes us ≡ counted_bytes 1 1 us
name-parts us =
    let e : length (be 1 (length us) ++ us) ≡ 1 + length us = omega (arith, length-append (be 1 (length us)) us, length-be 1 (length us)) in
    append_assoc (be 1 (length us)) us (be (length (be 1 (length us) ++ us) % 2) 0) ∙ ap (λ (n : ℕ). be 1 (length us) ++ (us ++ be (n % 2) 0)) e

pub payload-parts : (l : List ℕ) → payload_bytes l ≡ counted_bytes 4 0 l
payload-parts l = ap (λ (n : ℕ). be 4 (length l) ++ (l ++ be (n % 2) 0)) (sym (zero-add (length l)))

abbrev parts_of : Block → List ℕ
parts_of b = be 4 (chars "8BIM") ++ (be 2 b.id ++ (counted_bytes 1 1 b.name ++ counted_bytes 4 0 b.payload))

pub block-parts : (b : Block) → block_bytes b ≡ parts_of b
unfolding block_bytes
block-parts b = ap₂ (λ (x y : List ℕ). be 4 (chars "8BIM") ++ (be 2 b.id ++ (x ++ y))) (name-parts b.name) (payload-parts b.payload)

pub length-counted : (w k : ℕ) (l : List ℕ) → length (counted_bytes w k l) ≡ w + (length l + (k + length l) % 2)
length-counted w k l =
    let z : ℕ = (k + length l) % 2 in
    omega (arith, length-append (be w (length l)) (l ++ be z 0), length-be w (length l), length-append l (be z 0), length-be z 0)

pub length-block : (b : Block) → length (block_bytes b) ≡ 6 + (1 + (length b.name + (1 + length b.name) % 2)) + (4 + (length b.payload + length b.payload % 2))
length-block b =
    let x : List ℕ = counted_bytes 1 1 b.name in
    let y : List ℕ = counted_bytes 4 0 b.payload in
    let e : length b.payload + (0 + length b.payload) % 2 ≡ length b.payload + length b.payload % 2 = ap (λ (n : ℕ). length b.payload + n % 2) (zero-add (length b.payload)) in
    ap length (block-parts b) ∙ omega (arith, length-append (be 4 (chars "8BIM")) (be 2 b.id ++ (x ++ y)), length-append (be 2 b.id) (x ++ y), length-append x y, length-be 4 (chars "8BIM"), length-be 2 b.id, length-counted 1 1 b.name, length-counted 4 0 b.payload)

pub bytes-block : (b : Block) → Allowed b → Bytes (block_bytes b)
bytes-block b fit =
    let pads : (w k : ℕ) (l : List ℕ) → Bytes l → Bytes (counted_bytes w k l) = λ w k l h. bytes-append (be w (length l)) (l ++ be ((k + length l) % 2) 0) (bytes-be w (length l)) (bytes-append l (be ((k + length l) % 2) 0) h (bytes-be ((k + length l) % 2) 0)) in
    let x : List ℕ = counted_bytes 1 1 b.name in
    let y : List ℕ = counted_bytes 4 0 b.payload in
    subst Bytes (sym (block-parts b)) (bytes-append (be 4 (chars "8BIM")) (be 2 b.id ++ (x ++ y)) (bytes-be 4 (chars "8BIM")) (bytes-append (be 2 b.id) (x ++ y) (bytes-be 2 b.id) (bytes-append x y (pads 1 1 b.name fit.name) (pads 4 0 b.payload fit.payload))))

pub bytes-section : (i : ℕ) (bs : List Block) → All (λ k b. Allowed b) i bs → Bytes (section_bytes bs)
unfolding joined
bytes-section i [] h = bytes-nil
bytes-section i (b ∷ bs) h = bytes-append (block_bytes b) (section_bytes bs) (bytes-block b h.0) (bytes-section (i + 1) bs h.1)

-- ---- readers

-- a power is not 0
power : (w : ℕ) → 0 < 256 ^ w
unfolding num
power w = omega (arith, num-lt [] bytes-nil w 0)

-- bytes of a number
abbrev pub Sized : ℕ → List ℕ → Type 0
Sized n l = (length l ≡ n) × Bytes l

-- bytes whose number fits w bytes
abbrev pub Counted : ℕ → List ℕ → Type 0
Counted w l = (length l < 256 ^ w) × Bytes l

module _ (s : List ℕ) (bytes : Bytes s) where
  pub run-exact : (n : ℕ) → Exact s (block_part n) (λ p. p.bytes) (Sized n) (λ l. l)
  unfolding block_part
  run-exact n = record {
    reads = λ at l fit h.
        let x = (body-exact s bytes 1 n).reads at l (fit.0, all-octets 0 l fit.1) (subst (λ (z : List ℕ). At s at z) (sym (joined-octets l fit.1)) h) in
        (record { first = at; bytes = x.0 }, rw x.1 (ap (λ (z : List ℕ). ok (record { first = at; bytes = x.0 }) (at + length z)) (joined-octets l fit.1)), x.2);
    writes = λ at le a q e.
        let i = map-inv (body 1 n s at) at e in
        let x = (body-exact s bytes 1 n).writes at le a.bytes q i in
        let b : Bytes a.bytes = octets-all 0 a.bytes x.0.1 in
        let j = joined-octets a.bytes b in
        ((x.0.0, b), subst (λ (z : List ℕ). At s at z) j x.1, ap (λ (z : List ℕ). at + length z) (sym j) ∙ x.2);
  }
    where
      map-inv : (m : Res (List ℕ)) (at : ℕ) {a : Part} {q : ℕ} → map_res (λ b. record { first = at; bytes = b }) m ≡ ok a q → m ≡ ok a.bytes q
      map-inv (ok l r) at e = ap₂ (λ (x : List ℕ) (y : ℕ). ok x y) (ap (λ (p : Part). p.bytes) (ok-value e)) (ok-place e)
      map-inv (refuse x p r f) at e = clash e

  -- a pad is zero, and there is nothing to tell of it
  pad-exact : (n : ℕ) → Exact s (pad n) (λ a. tt {0}) (λ u. Unit {0}) (λ u. be (n % 2) 0)
  pad-exact n = one-exact (judged-exact s bytes (n % 2) zeroed) 0 (power (n % 2), refl) (λ x h. eqb-true x 0 (unless-fine (eqb x 0) 5 h.1))

  followed-exact : (k n : ℕ) → Exact s (padded_part k n) (λ p. p.bytes) (Sized n) (λ l. l ++ be ((k + n) % 2) 0)
  unfolding padded_part
  followed-exact k n =
      same-exact
      (then-exact {k = λ t. pad (k + n) >>= (λ z. give t)} {viewD = λ p. p.bytes} (λ l d. l ≡ d) (λ l d. be ((k + n) % 2) 0 ++ []) (λ d. d) (run-exact n) (λ l d e. sym e)
      (λ t. same-exact (bind-exact {k = λ z. give t} {OkD = λ d. t.bytes ≡ d} (λ d. tt {0}) (pad-exact (k + n)) (λ z. same-exact (give-exact s t (λ p. p.bytes)) (λ d. (t.bytes ≡ d) × (tt {0} ≡ tt)) (λ d. []) (λ d h. (h, refl)) (λ d h. h.0) (λ d h. refl)))
      (λ d. t.bytes ≡ d) (λ d. be ((k + n) % 2) 0 ++ []) (λ d h. h.1) (λ d h. (tt, h)) (λ d h. refl)))
      (Sized n) (λ l. l ++ be ((k + n) % 2) 0) (λ d h. h.0) (λ d h. (h, refl)) (λ d h. ap (λ (l : List ℕ). d ++ l) (append-nil (be ((k + n) % 2) 0)))

  pub counted-exact : (w k : ℕ) → Exact s (sized_part w k) (λ p. p.bytes) (Counted w) (counted_bytes w k)
  counted-exact w k =
      same-exact
      (then-exact {k = padded_part k} {viewD = λ p. p.bytes} Sized (λ n d. d ++ be ((k + n) % 2) 0) length (field-exact s bytes w) (λ n d h. h.0) (λ n. followed-exact k n))
      (Counted w) (counted_bytes w k) (λ d h. (h.0, h.1.1)) (λ d h. (h.0, (refl, h.1))) (λ d h. refl)

  abbrev made : ℕ → Part → Part → Entry
  made i nm l = record { id = i; name = nm; payload = l }

  abbrev built : ℕ → List ℕ → List ℕ → Block
  built i us l = record { id = i; name = us; payload = l }

  last : (i : ℕ) (nm : Part) → Exact s (sized_part 4 0 >>= (λ l. give (made i nm l))) block_of (λ d. Counted 4 d.payload × (built i nm.bytes d.payload ≡ d)) (λ d. counted_bytes 4 0 d.payload ++ [])
  last i nm =
      then-exact {k = λ l. give (made i nm l)} {viewD = block_of} (λ l d. built i nm.bytes l ≡ d) (λ l d. []) (λ d. d.payload) (counted-exact 4 0)
      (λ l d e. sym (ap (λ (b : Block). b.payload) e)) (λ l. give-exact s (made i nm l) block_of)

  middle : (i : ℕ) → Exact s (sized_part 1 1 >>= (λ nm. sized_part 4 0 >>= (λ l. give (made i nm l)))) block_of
      (λ d. Counted 1 d.name × (Counted 4 d.payload × (built i d.name d.payload ≡ d))) (λ d. counted_bytes 1 1 d.name ++ (counted_bytes 4 0 d.payload ++ []))
  middle i =
      then-exact {k = λ nm. sized_part 4 0 >>= (λ l. give (made i nm l))} {viewD = block_of} (λ us d. Counted 4 d.payload × (built i us d.payload ≡ d)) (λ us d. counted_bytes 4 0 d.payload ++ []) (λ d. d.name)
      (counted-exact 1 1) (λ us d h. sym (ap (λ (b : Block). b.name) h.1)) (last i)

  pub block-exact : Exact s block block_of Allowed block_bytes
  unfolding block
  block-exact =
      same-exact
      (mark-exact s bytes 4 (chars "8BIM") (omega arith)
      (then-exact {k = λ i. sized_part 1 1 >>= (λ nm. sized_part 4 0 >>= (λ l. give (made i nm l)))} {viewD = block_of} (λ i d. Counted 1 d.name × (Counted 4 d.payload × (built i d.name d.payload ≡ d)))
      (λ i d. counted_bytes 1 1 d.name ++ (counted_bytes 4 0 d.payload ++ [])) (λ d. d.id) (field-exact s bytes 2) (λ i d h. sym (ap (λ (b : Block). b.id) h.1.1)) middle))
      Allowed block_bytes
      (λ d h. record { id = h.0; letters = h.1.0.0; name = h.1.0.1; size = h.1.1.0.0; payload = h.1.1.0.1 })
      (λ d h. (h.id, ((h.letters, h.name), ((h.size, h.payload), refl))))
      (λ d h. ap (λ (l : List ℕ). be 4 (chars "8BIM") ++ (be 2 d.id ++ (counted_bytes 1 1 d.name ++ l))) (append-nil (counted_bytes 4 0 d.payload)) ∙ sym (block-parts d))
