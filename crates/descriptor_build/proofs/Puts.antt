-- Stores of an entry's fields, one after the other. Assumes nothing.
use Prim.Native.Nat.{ℕ, zero, suc, ◌+◌, ◌-◌, ◌*◌, ◌/◌, ◌%◌, ◌≤◌, ◌<◌}
use mathlib.Core.Path.{◌≡◌, refl, sym, ap, ap₂, ◌∙◌, subst}
use mathlib.Core.List.{List, [], ◌∷◌, ◌++◌, append-nil}
use mathlib.Core.Bool.{true, false}
use lib.Dec.{eqb}
use lib.ListN.{length, set, take, drop, length-take, length-drop}
use lib.Seq.{sets}
use native.Mathlib.Omega.{arith}
use native.Mathlib.Nat.{add-zero}
use Rattle.algebra.specs.Numbers.{be, joined}
use Rattle.algebra.specs.Chars.{chars}
use Rattle.algebra.specs.Reader.{pick}
use Rattle.algebra.specs.Store.{stored, part}
use Rattle.descriptor_raw.specs.Raw.{due_of}
use Rattle.algebra.proofs.Places.{length-be, be-1}
use Rattle.algebra.proofs.Storing.{as-sets, peel, peel-be, length-kept}
use Rattle.descriptor_entry.specs.declared.Field.{Field}
use Rattle.descriptor_entry.specs.declared.Field.TheVariants as f
use Rattle.descriptor_entry.specs.declared.Shape.{Shape}
use Rattle.descriptor_entry.specs.Pieces.{Piece, number, size, bytes, bytes_of, Fits}
use Rattle.std.specs.Option.{unwrap_or}
use Rattle.descriptor_entry.specs.Shapes.{Entry, number_in, kind_of, count_of, id_length, pieces_of, object, shape_of, wanted}
use Rattle.descriptor_entry.specs.Entries.{keyed, key_pieces, field_pieces, head_pieces, root_pieces, asks}
use Rattle.descriptor_entry_fields.proofs.Tables.{key-pieces, no_key}
use Rattle.descriptor_entry.proofs.Laws.{bytes-append, size-append, bytes-length, fits-left, fits-right}
use Rattle.descriptor_build.specs.declared.Put.{Put}
use Rattle.descriptor_build.specs.scaffold.Putting.{Ready, Stored, PutHead}

-- ---- parts of the text

pub part-place : (text : List ℕ) (first n : ℕ) → length (part text first n) ≡ n → (n ≡ 0 → ⊥) → first + n ≤ length text
part-place text first n h z =
    let e : length (part text first n) ≤ length text - first = simp (length-take, length-drop) (omega arith) in
    omega (arith, e, h, z)

pub part-lent : (text : List ℕ) (first n : ℕ) → take (first + n - first) (drop first text) ≡ part text first n
part-lent text first n = let e : first + n - first ≡ n = omega arith in ap (λ (k : ℕ). take k (drop first text)) e

-- ---- pieces one after the other

pub ready-left : (text : List ℕ) (ps qs : List Piece) (at room : ℕ) → Ready text (ps ++ qs) at room → Ready text ps at room
ready-left text ps qs at room r = record { fits = fits-left text ps qs r.fits; inside = omega (arith, r.inside, size-append ps qs) }

pub ready-right : (text : List ℕ) (ps qs : List Piece) (at room q room' : ℕ) → Ready text (ps ++ qs) at room → q ≡ at + size ps → room' ≡ room → Ready text qs q room'
ready-right text ps qs at room q room' r e l = record { fits = fits-right text ps qs r.fits; inside = omega (arith, r.inside, size-append ps qs, e, l) }

pub stored-join : (text : List ℕ) (ps qs : List Piece) (out : List ℕ) (at : ℕ) (o : List ℕ) (q : ℕ) (o' : List ℕ) (r : ℕ) → Fits text ps → Stored text ps out at o q → Stored text qs o q o' r → Stored text (ps ++ qs) out at o' r
stored-join text ps qs out at o q o' r fit a b = record {
  is = b.is ∙ sym (ap (λ (l : List ℕ). sets out at l) (bytes-append text ps qs) ∙ peel out o (bytes text ps) (bytes text qs) at (size ps) q (bytes-length text ps fit) (sym a.end) a.is);
  end = omega (arith, b.end, a.end, size-append ps qs);
}

pub stored-none : (text : List ℕ) (out : List ℕ) (at : ℕ) → Stored text [] out at out at
unfolding joined size
stored-none text out at = record { is = refl; end = sym (add-zero at) }

-- ---- single fields

pub stored-number : (text : List ℕ) (w v x : ℕ) (out : List ℕ) (at : ℕ) (o : List ℕ) (r : ℕ) → o ≡ sets out at (be w v) → r ≡ at + w → Stored text (number w v x ∷ []) out at o r
unfolding joined size
stored-number text w v x out at o r e h = record { is = e ∙ ap (λ (l : List ℕ). sets out at l) (sym (append-nil (be w v))); end = omega arith }

-- a number of four bytes and a part of the text
pub stored-counted : (text : List ℕ) (v x first n : ℕ) (p : Piece) (out : List ℕ) (at : ℕ) (o : List ℕ) (r : ℕ) → bytes_of text p ≡ part text first n → size (p ∷ []) ≡ n
    → o ≡ sets out at (be 4 v ++ part text first n) → r ≡ at + (4 + n) → Stored text (number 4 v x ∷ p ∷ []) out at o r
unfolding joined size
stored-counted text v x first n p out at o r b s e h = record {
  is = e ∙ ap (λ (l : List ℕ). sets out at (be 4 v ++ l)) (sym b ∙ sym (append-nil (bytes_of text p)));
  end = omega arith;
}

pub counted-put : (out o₁ o₂ : List ℕ) (at v : ℕ) (us l : List ℕ) (n : ℕ) → us ≡ l → length l ≡ n → at + (4 + n) ≤ length out → o₁ ≡ stored out at (be 4 v) → o₂ ≡ stored o₁ (at + 4) us → o₂ ≡ sets out at (be 4 v ++ l)
counted-put out o₁ o₂ at v us l n i e h a b =
    let k = length-kept o₁ out at (be 4 v) a in
    let c : o₂ ≡ sets o₁ (at + 4) l = as-sets o₂ o₁ (at + 4) l n (b ∙ ap (λ (x : List ℕ). stored o₁ (at + 4) x) i) e (omega arith) in
    c ∙ sym (peel-be 4 v out o₁ l at (at + 4) refl (omega arith) a)

pub word-put : (out o : List ℕ) (at v : ℕ) → at + 4 ≤ length out → o ≡ stored out at (be 4 v) → o ≡ sets out at (be 4 v)
word-put out o at v h e = as-sets o out at (be 4 v) 4 e (length-be 4 v) h

pub flag-put : (out : List ℕ) (at v : ℕ) → v < 256 → set out at v ≡ sets out at (be 1 v)
flag-put out at v h = sym (ap (λ (l : List ℕ). sets out at l) (be-1 v h))

-- eight bytes are four and four
shifted : (a l : ℕ) → (a * 256 + l) / 256 ≡ a + l / 256
shifted a l = omega arith

last-digit : (a l : ℕ) → (a * 256 + l) % 256 ≡ l % 256
last-digit a l = omega arith

be-split : (high low : ℕ) → low < 4294967296 → be 8 (high * 4294967296 + low) ≡ be 4 high ++ be 4 low
unfolding be
be-split high low h =
    let v : ℕ = high * 4294967296 + low in
    let l1 : ℕ = low / 256 in
    let l2 : ℕ = l1 / 256 in
    let l3 : ℕ = l2 / 256 in
    let k1 : l1 < 16777216 = omega arith in
    let k2 : l2 < 65536 = omega arith in
    let k3 : l3 < 256 = omega arith in
    let e0 : v ≡ high * 16777216 * 256 + low = omega arith in
    let e1 : high * 16777216 + l1 ≡ high * 65536 * 256 + l1 = omega arith in
    let e2 : high * 65536 + l2 ≡ high * 256 * 256 + l2 = omega arith in
    let v1 : v / 256 ≡ high * 16777216 + l1 = ap (λ (x : ℕ). x / 256) e0 ∙ shifted (high * 16777216) low in
    let v2 : v / 256 / 256 ≡ high * 65536 + l2 = ap (λ (x : ℕ). x / 256) (v1 ∙ e1) ∙ shifted (high * 65536) l1 in
    let v3 : v / 256 / 256 / 256 ≡ high * 256 + l3 = ap (λ (x : ℕ). x / 256) (v2 ∙ e2) ∙ shifted (high * 256) l2 in
    let z : l3 / 256 ≡ 0 = omega arith in
    let v4 : v / 256 / 256 / 256 / 256 ≡ high = ap (λ (x : ℕ). x / 256) v3 ∙ shifted high l3 ∙ ap (λ (x : ℕ). high + x) z ∙ add-zero high in
    let b0 : v % 256 ≡ low % 256 = ap (λ (x : ℕ). x % 256) e0 ∙ last-digit (high * 16777216) low in
    let b1 : v / 256 % 256 ≡ l1 % 256 = ap (λ (x : ℕ). x % 256) (v1 ∙ e1) ∙ last-digit (high * 65536) l1 in
    let b2 : v / 256 / 256 % 256 ≡ l2 % 256 = ap (λ (x : ℕ). x % 256) (v2 ∙ e2) ∙ last-digit (high * 256) l2 in
    let b3 : v / 256 / 256 / 256 % 256 ≡ l3 % 256 = ap (λ (x : ℕ). x % 256) v3 ∙ last-digit high l3 in
    joined-four (v / 256 / 256 / 256 / 256) high (v / 256 / 256 / 256 % 256) (l3 % 256) (v / 256 / 256 % 256) (l2 % 256) (v / 256 % 256) (l1 % 256) (v % 256) (low % 256) v4 b3 b2 b1 b0
  where
    joined-four : (x high c3 d3 c2 d2 c1 d1 c0 d0 : ℕ) → x ≡ high → c3 ≡ d3 → c2 ≡ d2 → c1 ≡ d1 → c0 ≡ d0 → be 4 x ++ (c3 ∷ c2 ∷ c1 ∷ c0 ∷ []) ≡ be 4 high ++ (d3 ∷ d2 ∷ d1 ∷ d0 ∷ [])
    joined-four x high c3 d3 c2 d2 c1 d1 c0 d0 e a b c d = cc

pub wide-put : (out o₁ o₂ : List ℕ) (at high low p : ℕ) → low < 4294967296 → o₁ ≡ sets out at (be 4 high) → p ≡ at + 4 → o₂ ≡ sets o₁ p (be 4 low) → o₂ ≡ sets out at (be 8 (high * 4294967296 + low))
wide-put out o₁ o₂ at high low p h a e b =
    b ∙ sym (ap (λ (l : List ℕ). sets out at l) (be-split high low h) ∙ peel out o₁ (be 4 high) (be 4 low) at 4 p (length-be 4 high) (sym e) a)

-- ---- a field by the numbers that the code took from the entry

module _ (text : List ℕ) (e : Entry) where
  pub ready-as : (x y : Field) (at room : ℕ) → x ≡ y → Ready text (pieces_of 0 e x) at room → Ready text (pieces_of 0 e y) at room
  ready-as x y at room i r = subst (λ (z : Field). Ready text (pieces_of 0 e z) at room) i r

  pub stored-as : (x y : Field) (out : List ℕ) (at : ℕ) (o : List ℕ) (r : ℕ) → x ≡ y → Stored text (pieces_of 0 e y) out at o r → Stored text (pieces_of 0 e x) out at o r
  stored-as x y out at o r i h = subst (λ (z : Field). Stored text (pieces_of 0 e z) out at o r) (sym i) h

  pub room-number : (w v x at room : ℕ) → Ready text (number w v x ∷ []) at room → at + w ≤ room
  unfolding size
  room-number w v x at room r = omega (arith, r.inside)

  pub room-flag : (u at room : ℕ) → u ≡ number_in e 13 → Ready text (pieces_of 0 e f.Flag) at room → (at + 1 ≤ room) × (u < 256)
  unfolding size
  room-flag u at room i r = (omega (arith, r.inside), subst (λ (z : ℕ). z < 256) (sym i) r.fits.0)

  lies : (first n k q at room : ℕ) → k ≡ n → q ≡ first → at + (4 + n) ≤ room → length (part text first n) ≡ n → (at + (4 + k) ≤ room) × (length (part text q k) ≡ k)
  lies first n k q at room a b h l = (omega arith, ap₂ (λ (y z : ℕ). length (part text y z)) b a ∙ l ∙ sym a)

  pub room-id : (i k q at room : ℕ) → k ≡ id_length (number_in e i) → q ≡ number_in e (i + 1) → Ready text (pieces_of 0 e (f.Id i)) at room → (at + (4 + k) ≤ room) × (length (part text q k) ≡ k)
  unfolding size
  room-id i k q at room a b r = lies (number_in e (i + 1)) (id_length (number_in e i)) k q at room a b (omega (arith, r.inside)) r.fits.1.0

  pub room-text : (i k q at room : ℕ) → k ≡ 2 * number_in e i → q ≡ number_in e (i + 1) → Ready text (pieces_of 0 e (f.Text i)) at room → (at + (4 + k) ≤ room) × (length (part text q k) ≡ k)
  unfolding size
  room-text i k q at room a b r = lies (number_in e (i + 1)) (2 * number_in e i) k q at room a b (omega (arith, r.inside)) r.fits.1.0

  pub room-run : (i k q at room : ℕ) → k ≡ number_in e i → q ≡ number_in e (i + 1) → Ready text (pieces_of 0 e (f.Run i)) at room → (at + (4 + k) ≤ room) × (length (part text q k) ≡ k)
  unfolding size
  room-run i k q at room a b r = lies (number_in e (i + 1)) (number_in e i) k q at room a b (omega (arith, r.inside)) r.fits.1.0

  pub room-doubles : (i k q at room : ℕ) → k ≡ 8 * number_in e i → q ≡ number_in e (i + 1) → Ready text (pieces_of 0 e (f.Doubles i)) at room → (at + (4 + k) ≤ room) × (length (part text q k) ≡ k)
  unfolding size
  room-doubles i k q at room a b r = lies (number_in e (i + 1)) (8 * number_in e i) k q at room a b (omega (arith, r.inside)) r.fits.1.0

  module _ (out : List ℕ) (at : ℕ) (o : List ℕ) (r : ℕ) where
    pub stored-word : (w v u x : ℕ) → v ≡ u → o ≡ sets out at (be w v) → r ≡ at + w → Stored text (number w u x ∷ []) out at o r
    stored-word w v u x i a b = stored-number text w u x out at o r (a ∙ ap (λ (z : ℕ). sets out at (be w z)) i) b

    pub stored-wide : (h l x : ℕ) → h ≡ number_in e 12 → l ≡ number_in e 13 → o ≡ sets out at (be 8 (h * 4294967296 + l)) → r ≡ at + 8 → Stored text (number 8 (number_in e 12 * 4294967296 + number_in e 13) x ∷ []) out at o r
    stored-wide h l x i j a b = stored-number text 8 _ x out at o r (a ∙ ap₂ (λ (y z : ℕ). sets out at (be 8 (y * 4294967296 + z))) i j) b

    counted : (v u x first n k q : ℕ) (p : Piece) → v ≡ u → k ≡ n → q ≡ first → bytes_of text p ≡ part text first n → size (p ∷ []) ≡ n → o ≡ sets out at (be 4 v ++ part text q k) → r ≡ at + (4 + k) → Stored text (number 4 u x ∷ p ∷ []) out at o r
    counted v u x first n k q p i a b c d g h =
        let l : be 4 v ++ part text q k ≡ be 4 u ++ part text first n = ap (λ (z : ℕ). be 4 z ++ part text q k) i ∙ ap₂ (λ (y z : ℕ). be 4 u ++ part text y z) b a in
        stored-counted text u x first n p out at o r c d (g ∙ ap (λ (z : List ℕ). sets out at z) l) (h ∙ ap (λ (z : ℕ). at + (4 + z)) a)

    pub stored-id : (i v k q : ℕ) → v ≡ number_in e i → k ≡ id_length (number_in e i) → q ≡ number_in e (i + 1) → o ≡ sets out at (be 4 v ++ part text q k) → r ≡ at + (4 + k) → Stored text (pieces_of 0 e (f.Id i)) out at o r
    unfolding size
    stored-id i v k q a b c g h = counted v (number_in e i) _ (number_in e (i + 1)) (id_length (number_in e i)) k q _ a b c refl (omega arith) g h

    pub stored-text : (i v k q : ℕ) → v ≡ number_in e i → k ≡ 2 * number_in e i → q ≡ number_in e (i + 1) → o ≡ sets out at (be 4 v ++ part text q k) → r ≡ at + (4 + k) → Stored text (pieces_of 0 e (f.Text i)) out at o r
    unfolding size
    stored-text i v k q a b c g h = counted v (number_in e i) _ (number_in e (i + 1)) (2 * number_in e i) k q _ a b c refl (omega arith) g h

    pub stored-run : (i v k q : ℕ) → v ≡ number_in e i → k ≡ number_in e i → q ≡ number_in e (i + 1) → o ≡ sets out at (be 4 v ++ part text q k) → r ≡ at + (4 + k) → Stored text (pieces_of 0 e (f.Run i)) out at o r
    unfolding size
    stored-run i v k q a b c g h = counted v (number_in e i) _ (number_in e (i + 1)) (number_in e i) k q _ a b c refl (omega arith) g h

    pub stored-doubles : (i v k q : ℕ) → v ≡ number_in e i → k ≡ 8 * number_in e i → q ≡ number_in e (i + 1) → o ≡ sets out at (be 4 v ++ part text q k) → r ≡ at + (4 + k) → Stored text (pieces_of 0 e (f.Doubles i)) out at o r
    unfolding size
    stored-doubles i v k q a b c g h = counted v (number_in e i) _ (number_in e (i + 1)) (8 * number_in e i) k q _ a b c refl (omega arith) g h

-- ---- the fields behind a kind

module _ (text : List ℕ) (sh : Shape) (e : Entry) where
  pa : List Piece
  pa = pieces_of 0 e sh.first

  pb : List Piece
  pb = pieces_of 0 e sh.second

  pc : List Piece
  pc = pieces_of 0 e sh.third

  pd : List Piece
  pd = pieces_of 0 e sh.fourth

  module _ (at room : ℕ) (r : Ready text (field_pieces 0 sh e) at room) where
    pub fields-first : Ready text (pieces_of 0 e sh.first) at room
    unfolding field_pieces pa pb pc pd
    fields-first = ready-left text pa (pb ++ (pc ++ pd)) at room r

    module _ (out o₁ : List ℕ) (q₁ room₁ : ℕ) (s₁ : Stored text (pieces_of 0 e sh.first) out at o₁ q₁) (l₁ : room₁ ≡ room) where
      rest-second : Ready text (pieces_of 0 e sh.second ++ (pieces_of 0 e sh.third ++ pieces_of 0 e sh.fourth)) q₁ room₁
      unfolding field_pieces pa pb pc pd
      rest-second = ready-right text pa (pb ++ (pc ++ pd)) at room q₁ room₁ r s₁.end l₁

      pub fields-second : Ready text (pieces_of 0 e sh.second) q₁ room₁
      unfolding pb pc pd
      fields-second = ready-left text pb (pc ++ pd) q₁ room₁ rest-second

      module _ (o₂ : List ℕ) (q₂ room₂ : ℕ) (s₂ : Stored text (pieces_of 0 e sh.second) o₁ q₁ o₂ q₂) (l₂ : room₂ ≡ room₁) where
        rest-third : Ready text (pieces_of 0 e sh.third ++ pieces_of 0 e sh.fourth) q₂ room₂
        unfolding pb pc pd
        rest-third = ready-right text pb (pc ++ pd) q₁ room₁ q₂ room₂ rest-second s₂.end l₂

        pub fields-third : Ready text (pieces_of 0 e sh.third) q₂ room₂
        unfolding pc pd
        fields-third = ready-left text pc pd q₂ room₂ rest-third

        module _ (o₃ : List ℕ) (q₃ room₃ : ℕ) (s₃ : Stored text (pieces_of 0 e sh.third) o₂ q₂ o₃ q₃) (l₃ : room₃ ≡ room₂) where
          pub fields-fourth : Ready text (pieces_of 0 e sh.fourth) q₃ room₃
          unfolding pc pd
          fields-fourth = ready-right text pc pd q₂ room₂ q₃ room₃ rest-third s₃.end l₃

          pub fields-stored : (o₄ : List ℕ) (q₄ : ℕ) → Stored text (pieces_of 0 e sh.fourth) o₃ q₃ o₄ q₄ → Stored text (field_pieces 0 sh e) out at o₄ q₄
          unfolding field_pieces pa pb pc pd
          fields-stored o₄ q₄ s₄ =
              stored-join text pa (pb ++ (pc ++ pd)) out at o₁ q₁ o₄ q₄ fields-first.fits s₁
              (stored-join text pb (pc ++ pd) o₁ q₁ o₂ q₂ o₄ q₄ fields-second.fits s₂
              (stored-join text pc pd o₂ q₂ o₃ q₃ o₄ q₄ fields-third.fits s₃ s₄))

-- ---- a number of four bytes, and what follows it

module _ (text : List ℕ) (v x : ℕ) (ps : List Piece) (at room : ℕ) (r : Ready text (number 4 v x ∷ ps) at room) where
  pub four-room : at + 4 ≤ room
  unfolding size
  four-room = omega (arith, r.inside)

  pub four-behind : (q room' : ℕ) → q ≡ at + 4 → room' ≡ room → Ready text ps q room'
  unfolding size
  four-behind q room' e l = record { fits = r.fits.1; inside = omega (arith, r.inside, e, l) }

  pub four-stored : (out o : List ℕ) (q : ℕ) → o ≡ sets out at (be 4 v) → q ≡ at + 4 → (o' : List ℕ) (z : ℕ) → Stored text ps o q o' z → Stored text (number 4 v x ∷ ps) out at o' z
  four-stored out o q a b o' z s = stored-join text (number 4 v x ∷ []) ps out at o q o' z (r.fits.0, tt) (stored-number text 4 v x out at o q a b) s

-- ---- a key

pub key-ready : (text : List ℕ) (what : ℕ) (e : Entry) (at room : ℕ) → keyed (due_of what 0) ≡ true → Ready text (key_pieces (due_of what 0) e) at room → Ready text (pieces_of 0 e (f.Id 1)) at room
key-ready text what e at room h r = subst (λ (ps : List Piece). Ready text ps at room) (key-pieces what e h) r

pub key-stored : (text : List ℕ) (what : ℕ) (e : Entry) (out : List ℕ) (at : ℕ) (o : List ℕ) (q : ℕ) → keyed (due_of what 0) ≡ true → Stored text (pieces_of 0 e (f.Id 1)) out at o q → Stored text (key_pieces (due_of what 0) e) out at o q
key-stored text what e out at o q h s = subst (λ (ps : List Piece). Stored text ps out at o q) (sym (key-pieces what e h)) s

pub key-none : (text : List ℕ) (what : ℕ) (e : Entry) (out : List ℕ) (at : ℕ) → keyed (due_of what 0) ≡ false → Stored text (key_pieces (due_of what 0) e) out at out at
key-none text what e out at h = subst (λ (ps : List Piece). Stored text ps out at out at) (sym (no_key what e h)) (stored-none text out at)

-- ---- a member's head

head-is : (what : ℕ) (e : Entry) → head_pieces (due_of what 0) e ≡ key_pieces (due_of what 0) e ++ (number 4 (kind_of e) (pick (shape_of (due_of what 0) (kind_of e)).known 0 4) ∷ field_pieces 0 (shape_of (due_of what 0) (kind_of e)) e)
unfolding head_pieces
head-is zero e = refl
head-is (suc zero) e = refl
head-is (suc (suc zero)) e = refl
head-is (suc (suc (suc n))) e = refl

module _ (text : List ℕ) (what : ℕ) (e : Entry) (kd : ℕ) (sh : Shape) (hk : kd ≡ number_in e 0) (hs : sh ≡ shape_of (due_of what 0) kd) where
  own : sh ≡ shape_of (due_of what 0) (kind_of e)
  own = hs ∙ ap (shape_of (due_of what 0)) hk

  key : List Piece
  key = key_pieces (due_of what 0) e

  tail : List Piece
  tail = number 4 kd (pick sh.known 0 4) ∷ field_pieces 0 sh e

  head-code : head_pieces (due_of what 0) e ≡ key ++ tail
  unfolding key tail
  head-code = head-is what e ∙ ap₂ (λ (k : ℕ) (y : Shape). key_pieces (due_of what 0) e ++ (number 4 k (pick y.known 0 4) ∷ field_pieces 0 y e)) (sym hk) (sym own)

  module _ (at room : ℕ) (r : Ready text (head_pieces (due_of what 0) e) at room) where
    whole : Ready text (key ++ tail) at room
    whole = subst (λ (ps : List Piece). Ready text ps at room) head-code r

    pub head-key : Ready text (key_pieces (due_of what 0) e) at room
    unfolding key
    head-key = ready-left text key tail at room whole

    module _ (out o₁ : List ℕ) (q₁ room₁ : ℕ) (s₁ : Stored text (key_pieces (due_of what 0) e) out at o₁ q₁) (l₁ : room₁ ≡ room) where
      behind : Ready text tail q₁ room₁
      unfolding key
      behind = ready-right text key tail at room q₁ room₁ whole s₁.end l₁

      pub head-word : q₁ + 4 ≤ room₁
      unfolding tail
      head-word = four-room text kd (pick sh.known 0 4) (field_pieces 0 sh e) q₁ room₁ behind

      module _ (o₂ : List ℕ) (q₂ room₂ : ℕ) (s₂ : o₂ ≡ sets o₁ q₁ (be 4 kd)) (e₂ : q₂ ≡ q₁ + 4) (l₂ : room₂ ≡ room₁) where
        pub head-fields : Ready text (field_pieces 0 sh e) q₂ room₂
        unfolding tail
        head-fields = four-behind text kd (pick sh.known 0 4) (field_pieces 0 sh e) q₁ room₁ behind q₂ room₂ e₂ l₂

        pub head-put : (o₃ : List ℕ) (q₃ w a n : ℕ) → Stored text (field_pieces 0 sh e) o₂ q₂ o₃ q₃ → w ≡ unwrap_or sh.below 0 → a ≡ number_in e 15 → n ≡ wanted sh.below (count_of e)
            → PutHead text (head_pieces (due_of what 0) e) (asks (shape_of (due_of what 0) (kind_of e)) 0 0 0 e) out at o₃ (record { end = q₃; what = w; objects = a; count = n })
        unfolding key tail
        head-put o₃ q₃ w a n s₃ hw ha hn = record {
          stored = subst (λ (ps : List Piece). Stored text ps out at o₃ q₃) (sym head-code)
              (stored-join text key tail out at o₁ q₁ o₃ q₃ head-key.fits s₁ (four-stored text kd (pick sh.known 0 4) (field_pieces 0 sh e) q₁ room₁ behind o₁ o₂ q₂ s₂ e₂ o₃ q₃ s₃));
          below_is = ap₂ (λ (y z : ℕ). due_of y z) (hw ∙ ap (λ (y : Shape). unwrap_or y.below 0) own) ha;
          count_is = hn ∙ ap (λ (y : Shape). wanted y.below (count_of e)) own;
        }

-- ---- the root's

module _ (text : List ℕ) (e : Entry) (sh : Shape) (hs : sh ≡ object) (room : ℕ) (r : Ready text (root_pieces e) 0 room) where
  root-code : Ready text (number 4 16 (pick (eqb (kind_of e) (chars "Objc")) 0 4) ∷ field_pieces 0 sh e) 0 room
  unfolding root_pieces
  root-code = subst (λ (y : Shape). Ready text (number 4 16 (pick (eqb (kind_of e) (chars "Objc")) 0 4) ∷ field_pieces 0 y e) 0 room) (sym hs) r

  pub root-fields : (q room' : ℕ) → q ≡ 0 + 4 → room' ≡ room → Ready text (field_pieces 0 sh e) q room'
  root-fields q room' a l = four-behind text 16 _ (field_pieces 0 sh e) 0 room root-code q room' a l

  pub root-stored : (out o : List ℕ) (q : ℕ) → o ≡ sets out 0 (be 4 16) → q ≡ 0 + 4 → (o' : List ℕ) (z : ℕ) → Stored text (field_pieces 0 sh e) o q o' z → Stored text (root_pieces e) out 0 o' z
  unfolding root_pieces
  root-stored out o q a b o' z s =
      subst (λ (y : Shape). Stored text (number 4 16 (pick (eqb (kind_of e) (chars "Objc")) 0 4) ∷ field_pieces 0 y e) out 0 o' z) hs (four-stored text 16 _ (field_pieces 0 sh e) 0 room root-code out o q a b o' z s)

pub root-word : (text : List ℕ) (e : Entry) (room : ℕ) → Ready text (root_pieces e) 0 room → 0 + 4 ≤ room
unfolding root_pieces
root-word text e room r = four-room text 16 _ (field_pieces 0 object e) 0 room r

-- ---- as the loop has them

abbrev pub AtReady : List ℕ → ℕ → Entry → ℕ → ℕ → Type 0
AtReady text what e at room = Ready text (head_pieces (due_of what 0) e) at room

abbrev pub AtPut : List ℕ → ℕ → Entry → List ℕ → ℕ → List ℕ → Put → Type 0
AtPut text what e out at o r = PutHead text (head_pieces (due_of what 0) e) (asks (shape_of (due_of what 0) (kind_of e)) 0 0 0 e) out at o r

pub at-put : (text : List ℕ) (what : ℕ) (e e' : Entry) (out : List ℕ) (at : ℕ) (o : List ℕ) (r : Put) → e ≡ e' → AtPut text what e out at o r → AtPut text what e' out at o r
at-put text what e e' out at o r i h = subst (λ (x : Entry). AtPut text what x out at o r) i h
