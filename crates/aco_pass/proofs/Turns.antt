-- Items taken whole are the same bytes taken one after the other; so is what is passed at once. Assumes nothing.
use Prim.Native.Nat.{ℕ, zero, suc, ◌+◌, ◌*◌, ◌-◌, ◌≤◌, ◌<◌}
use mathlib.Core.Path.{◌≡◌, refl, sym, ap, ap₂, ◌∙◌, subst}
use mathlib.Core.List.{List, [], ◌∷◌, ◌++◌}
use mathlib.Core.Bool.{Bool, true, false}
use lib.Dec.{ltb, eqb}
use lib.ListN.{length, get_or, drop, length-append, length-drop, take-append-drop}
use lib.Seq.{drop-drop, drop-cons, append_snoc, drop-length}
use borrow.Author.Tests.{lt-ltb, eq-eqb, ne_eqb}
use native.Mathlib.Omega.{arith}
use native.Mathlib.Numerals.{add-one}
use native.Mathlib.Nat.{add-zero, sub-zero}
use Rattle.algebra.specs.Numbers.{num, nums}
use Rattle.algebra.specs.Reader.{Res, pick, ok, field, limit}
use Rattle.algebra.specs.Store.{part}
use Rattle.algebra.specs.Text.{any_zero}
use Rattle.algebra.proofs.Laws.{field_in}
use Rattle.algebra.proofs.Places.{length_part, num-part}
use Rattle.aco_chunks.specs.declared.Stage.{Stage}
use Rattle.aco_chunks.specs.declared.Stage.TheVariants as v
use Rattle.aco_chunks.specs.Chunks.{size, item, after, kept, Progress, is_fault, whole, carried_further, unless_fault, limited, byte, chunk, unit_done}
use Rattle.aco_chunks.proofs.Cutting.{chunk-append}
use Rattle.aco_pass.specs.scaffold.Parts.{Rest, Passes, PassesWith}

abbrev pub G : Stage → ℕ → List ℕ → List ℕ → Progress
G g total carry store = record { stage = g; total = total; carry = carry; store = store }

module _ (g : Stage) (store : List ℕ) where
  fault-byte : (total : ℕ) (carry : List ℕ) (b : ℕ) → is_fault g ≡ true → total < limit → byte (G g total carry store) b ≡ G g (total + 1) carry store
  unfolding byte
  fault-byte total carry b f l =
      ap (λ (t : Bool). limited t (G g total carry store) b) (lt-ltb total limit l) ∙ ap (λ (t : Bool). unless_fault t (G g total carry store) b) f

  chunk-fault : (bs : List ℕ) (total : ℕ) (carry : List ℕ) → is_fault g ≡ true → total + length bs ≤ limit → chunk (G g total carry store) bs ≡ G g (total + length bs) carry store
  unfolding chunk
  chunk-fault [] total carry f l = ap (λ (t : ℕ). G g t carry store) (sym (add-zero total))
  chunk-fault (b ∷ bs) total carry f l =
      let e : total + 1 + length bs ≡ total + suc (length bs) = omega arith in
      ap (λ (x : Progress). chunk x bs) (fault-byte total carry b f (omega arith)) ∙ chunk-fault bs (total + 1) carry f (omega arith) ∙ ap (λ (t : ℕ). G g t carry store) e

  module _ (f : is_fault g ≡ false) where
    byte-in : (total : ℕ) (carry : List ℕ) (b : ℕ) → total < limit → byte (G g total carry store) b ≡ carried_further (eqb (length carry + 1) (size g)) g (total + 1) (carry ++ (b ∷ [])) store
    unfolding byte
    byte-in total carry b l =
        ap (λ (t : Bool). limited t (G g total carry store) b) (lt-ltb total limit l) ∙ ap (λ (t : Bool). unless_fault t (G g total carry store) b) f

    byte-push : (total : ℕ) (carry : List ℕ) (b : ℕ) → total < limit → length carry + 1 < size g → byte (G g total carry store) b ≡ G g (total + 1) (carry ++ (b ∷ [])) store
    byte-push total carry b l h = byte-in total carry b l ∙ ap (λ (t : Bool). carried_further t g (total + 1) (carry ++ (b ∷ [])) store) (ne_eqb (length carry + 1) (size g) (λ e. omega arith))

    byte_full : (total : ℕ) (carry : List ℕ) (b : ℕ) → total < limit → length carry + 1 ≡ size g → byte (G g total carry store) b ≡ whole g (total + 1) (carry ++ (b ∷ [])) store
    byte_full total carry b l h = byte-in total carry b l ∙ ap (λ (t : Bool). carried_further t g (total + 1) (carry ++ (b ∷ [])) store) (eq-eqb _ _ h)

    chunk_whole : (b : List ℕ) (total : ℕ) (carry : List ℕ) → total + length b ≤ limit → 0 < length b → length carry + length b ≡ size g → chunk (G g total carry store) b ≡ whole g (total + length b) (carry ++ b) store
    unfolding chunk
    chunk_whole [] total carry l n h = absurd (omega arith)
    chunk_whole (x ∷ []) total carry l n h = byte_full total carry x (omega arith) h
    chunk_whole (x ∷ y ∷ b) total carry l n h =
        let e : total + 1 + suc (length b) ≡ total + suc (suc (length b)) = omega arith in
        let k : length (carry ++ (x ∷ [])) ≡ length carry + 1 = length-append carry (x ∷ []) in
        ap (λ (z : Progress). chunk z (y ∷ b)) (byte-push total carry x (omega arith) (omega arith))
        ∙ chunk_whole (y ∷ b) (total + 1) (carry ++ (x ∷ [])) (omega arith) (omega arith) (omega arith)
        ∙ ap₂ (λ (t : ℕ) (c : List ℕ). whole g t c store) e (append_snoc carry x (y ∷ b))

-- ---- turns of the loop over a chunk: what the whole comes to is what is left of it

cut_at : (bytes : List ℕ) (at k : ℕ) → drop at bytes ≡ part bytes at k ++ drop (at + k) bytes
cut_at bytes at k = sym (take-append-drop k (drop at bytes)) ∙ ap (λ (l : List ℕ). part bytes at k ++ l) (drop-drop k at bytes)

module _ (all : Progress) (g : Stage) (start : ℕ) (carry store : List ℕ) (at : ℕ) (bytes : List ℕ) (inv : all ≡ Rest g (start + at) carry store at bytes) (fits : start + length bytes ≤ limit) (less : at < length bytes) where
  pub turn-fault : is_fault g ≡ true → (end : ℕ) → end ≡ length bytes → all ≡ Rest g (start + end) carry store end bytes
  unfolding chunk
  turn-fault f end e =
      let n : length (drop at bytes) ≡ length bytes - at = length-drop at bytes in
      let t : start + at + length (drop at bytes) ≡ start + end = omega arith in
      let z : drop end bytes ≡ [] = ap (λ (k : ℕ). drop k bytes) e ∙ drop-length bytes in
      inv ∙ chunk-fault g store (drop at bytes) (start + at) carry f (omega arith) ∙ ap (λ (k : ℕ). G g k carry store) t ∙ sym (ap (λ (l : List ℕ). chunk (G g (start + end) carry store) l) z)

  -- an item that stands whole in the chunk
  pub turn-item : is_fault g ≡ false → carry ≡ [] → (e : ℕ) → e ≡ at + size g → e ≤ length bytes → 0 < size g → (b : List ℕ) → b ≡ part bytes at (size g)
      → all ≡ Rest (after g (start + at) (item store g b 0)) (start + e) [] (kept g (item store g b 0) b store) e bytes
  turn-item f z e he l s b hb =
      let n : length (part bytes at (size g)) ≡ size g = length_part bytes at (size g) (omega arith) in
      let m : length b ≡ size g = ap length hb ∙ n in
      let t : start + at + length b ≡ start + e = omega arith in
      let q : start + e - length b ≡ start + at = omega arith in
      inv ∙ ap (λ (l : List ℕ). chunk (G g (start + at) carry store) l) (cut_at bytes at (size g) ∙ ap₂ (λ (x : List ℕ) (k : ℕ). x ++ drop k bytes) (sym hb) (sym he))
      ∙ chunk-append b (drop e bytes) (G g (start + at) carry store)
      ∙ ap (λ (x : Progress). chunk x (drop e bytes)) (ap (λ (c : List ℕ). chunk (G g (start + at) c store) b) z ∙ chunk_whole g store f b (start + at) [] (omega arith) (omega arith) (omega arith)
      ∙ ap (λ (k : ℕ). whole g k b store) t
      ∙ ap (λ (k : ℕ). G (after g k (item store g b 0)) (start + e) [] (kept g (item store g b 0) b store)) q)

  next-byte : drop at bytes ≡ get_or bytes at 0 ∷ drop (at + 1) bytes
  next-byte = drop-cons bytes at 0 less ∙ ap (λ (k : ℕ). get_or bytes at 0 ∷ drop k bytes) (sym (add-one at))

  -- a byte of an item that is not whole yet
  pub turn-push : is_fault g ≡ false → length carry + 1 < size g → (c : List ℕ) → c ≡ carry ++ (get_or bytes at 0 ∷ []) → all ≡ Rest g (start + (at + 1)) c store (at + 1) bytes
  unfolding chunk
  turn-push f h c e =
      let t : start + at + 1 ≡ start + (at + 1) = omega arith in
      inv ∙ ap (λ (l : List ℕ). chunk (G g (start + at) carry store) l) next-byte
      ∙ ap (λ (x : Progress). chunk x (drop (at + 1) bytes)) (byte-push g store f (start + at) carry (get_or bytes at 0) (omega arith) h ∙ ap₂ (λ (k : ℕ) (l : List ℕ). G g k l store) t (sym e))

  -- its last byte
  pub turn-full : is_fault g ≡ false → length carry + 1 ≡ size g → (c : List ℕ) → c ≡ carry ++ (get_or bytes at 0 ∷ []) → (from : ℕ) → from ≡ start + (at + 1) - length c
      → all ≡ Rest (after g from (item store g c 0)) (start + (at + 1)) [] (kept g (item store g c 0) c store) (at + 1) bytes
  unfolding chunk
  turn-full f h c e from q =
      let t : start + at + 1 ≡ start + (at + 1) = omega arith in
      inv ∙ ap (λ (l : List ℕ). chunk (G g (start + at) carry store) l) next-byte
      ∙ ap (λ (x : Progress). chunk x (drop (at + 1) bytes)) (byte_full g store f (start + at) carry (get_or bytes at 0) (omega arith) h ∙ ap₂ (λ (k : ℕ) (l : List ℕ). whole g k l store) t (sym e)
      ∙ ap (λ (k : ℕ). G (after g k (item store g c 0)) (start + (at + 1)) [] (kept g (item store g c 0) c store)) (sym q))

-- a byte that is carried
-- ---- several units at once

abbrev U : ℕ → ℕ → ℕ → ℕ → Bool → Stage
U n i p m z = v.Unit n i p m z

pub unit-more : (n i p m u : ℕ) (z t : Bool) → (m ≡ 1 → ⊥) → eqb u 0 ≡ t → unit_done n i p m z (eqb u 0) ≡ U n i p (m - 1) (pick t true z)
unit-more n i p m u z true a e = ap (λ (b : Bool). unit_done n i p m z b) e ∙ ap (λ (o : Bool). pick o (pick z (v.Fault 8 p 0 0) (pick (ltb (i + 1) n) (v.Entry n (i + 1)) (v.End n))) (U n i p (m - 1) true)) (ne_eqb m 1 a)
unit-more n i p m u z false a e = ap (λ (b : Bool). unit_done n i p m z b) e ∙ ap (λ (o : Bool). pick o (v.Fault 8 p 0 0) (U n i p (m - 1) z)) (ne_eqb m 1 a)

zero_or : (a t z : Bool) → pick a true (pick t true z) ≡ pick (pick t true a) true z
zero_or true true z = refl
zero_or true false z = refl
zero_or false true z = refl
zero_or false false z = refl

module _ (start : ℕ) (store bytes : List ℕ) (fits : start + length bytes ≤ limit) (n i p : ℕ) where
  -- one unit, whichever it is
  pub one-turn : (m : ℕ) (z : Bool) (at u : ℕ) → u ≡ num 2 bytes at → at + 2 ≤ length bytes
      → Rest (U n i p m z) (start + at) [] store at bytes ≡ Rest (unit_done n i p m z (eqb u 0)) (start + (at + 2)) [] store (at + 2) bytes
  one-turn m z at u q h =
      let len : length (part bytes at 2) ≡ 2 = length_part bytes at 2 h in
      let f : field 2 (part bytes at 2) 0 ≡ ok (num 2 (part bytes at 2) 0) 2 = field_in 2 (part bytes at 2) 0 (omega arith) in
      let y : num 2 (part bytes at 2) 0 ≡ u = num-part bytes at 2 2 0 (omega arith) ∙ ap (num 2 bytes) (add-zero at) ∙ sym q in
      turn-item (Rest (U n i p m z) (start + at) [] store at bytes) (U n i p m z) start [] store at bytes refl fits (omega arith) refl refl (at + 2) refl h (omega arith) (part bytes at 2) refl
      ∙ ap (λ (r : Res ℕ). Rest (after (U n i p m z) (start + at) r) (start + (at + 2)) [] store (at + 2) bytes) f
      ∙ ap (λ (x : ℕ). Rest (unit_done n i p m z (eqb x 0)) (start + (at + 2)) [] store (at + 2) bytes) y

  unit-turn : (m : ℕ) (z : Bool) (at : ℕ) → 1 < m → at + 2 ≤ length bytes
      → Rest (U n i p m z) (start + at) [] store at bytes ≡ Rest (U n i p (m - 1) (pick (eqb (num 2 bytes at) 0) true z)) (start + (at + 2)) [] store (at + 2) bytes
  unit-turn m z at l h =
      one-turn m z at (num 2 bytes at) refl h
      ∙ ap (λ (g : Stage). Rest g (start + (at + 2)) [] store (at + 2) bytes) (unit-more n i p m (num 2 bytes at) z (eqb (num 2 bytes at) 0) (λ e. omega arith) refl)

  pub units-turn : (k m : ℕ) (z : Bool) (at : ℕ) → k ≤ m - 1 → at + k * 2 ≤ length bytes
      → Rest (U n i p m z) (start + at) [] store at bytes ≡ Rest (U n i p (m - k) (pick (any_zero (nums 2 k bytes at)) true z)) (start + (at + k * 2)) [] store (at + k * 2) bytes
  unfolding nums any_zero
  units-turn zero m z at l h = ap₂ (λ (x y : ℕ). Rest (U n i p x z) (start + y) [] store y bytes) (sym (sub-zero m)) (let q : at ≡ at + 0 * 2 = omega arith in q)
  units-turn (suc k) m z at l h =
      let t = eqb (num 2 bytes at) 0 in
      let q : at + 2 + k * 2 ≡ at + suc k * 2 = omega arith in
      let r : m - 1 - k ≡ m - suc k = omega arith in
      unit-turn m z at (omega arith) (omega arith) ∙ units-turn k (m - 1) (pick (eqb (num 2 bytes at) 0) true z) (at + 2) (omega arith) (omega arith)
      ∙ ap₂ (λ (x y : ℕ). Rest (U n i p x (pick (any_zero (nums 2 k bytes (at + 2))) true (pick (eqb (num 2 bytes at) 0) true z))) (start + y) [] store y bytes) r q
      ∙ ap (λ (b : Bool). Rest (U n i p (m - suc k) b) (start + (at + suc k * 2)) [] store (at + suc k * 2) bytes) (zero_or (any_zero (nums 2 k bytes (at + 2))) (eqb (num 2 bytes at) 0) z)

-- ---- what is passed at once

-- with no byte carried
pub passes-with : {start : ℕ} {bytes : List ℕ} {g : Stage} {at : ℕ} {store : List ℕ} {h : Stage} {e : ℕ} {after : List ℕ} (got : ℕ) → got ≡ 0 → Passes start bytes g at store h e after → PassesWith got start bytes g at store h e after
passes-with {start} {bytes} {g} {at} {store} {h} {e} {after} got z p = record {
  behind = p.behind;
  inside = p.inside;
  keeps = p.keeps;
  sound = p.sound;
  stays = λ l. absurd (omega (arith, z, l));
  comes = λ c n. go c (omega (arith, n, z));
}
  where
    go : (c : List ℕ) → length c ≡ 0 → Rest g (start + at) c store at bytes ≡ Rest h (start + e) c after e bytes
    go [] n = p.comes
    go (x ∷ c) n = absurd (omega arith)

-- a stage that stays
pub passes_none : (start : ℕ) (bytes : List ℕ) (g : Stage) (at : ℕ) (store : List ℕ) → at ≤ length bytes → is_fault g ≡ false → Passes start bytes g at store g at store
passes_none start bytes g at store l f = record { behind = omega arith; inside = l; keeps = refl; sound = λ e. f; comes = refl }

-- after a fault, all
pub passes-fault : (start : ℕ) (bytes : List ℕ) (x p r f at : ℕ) (store : List ℕ) → at < length bytes → start + length bytes ≤ limit → Passes start bytes (v.Fault x p r f) at store (v.Fault x p r f) (length bytes) store
passes-fault start bytes x p r f at store l fits = record {
  behind = omega arith;
  inside = omega arith;
  keeps = refl;
  sound = λ e. absurd (omega arith);
  comes = turn-fault (Rest (v.Fault x p r f) (start + at) [] store at bytes) (v.Fault x p r f) start [] store at bytes refl fits l refl (length bytes) refl;
}

-- an item that has begun is no fault
pub begun : (got : ℕ) (g : Stage) → 0 < got → got < size g → is_fault g ≡ false
begun got v.First n h = refl
begun got (v.Colour m i) n h = refl
begun got (v.Second m) n h = refl
begun got (v.Entry m i) n h = refl
begun got (v.Unit c i at m z) n h = refl
begun got (v.End m) n h = refl
begun got (v.Fault x p r y) n h = absurd (omega arith)

-- an item that has begun is not passed, and is no fault
pub passes-begun : (got start : ℕ) (bytes : List ℕ) (g : Stage) (at : ℕ) (store : List ℕ) → at ≤ length bytes → 0 < got → got < size g → PassesWith got start bytes g at store g at store
passes-begun got start bytes g at store l n h = record { behind = omega arith; inside = l; keeps = refl; sound = λ e. begun got g n h; stays = λ x. refl; comes = λ c n. refl }

-- of a stage that is known
pub passes-as : {start : ℕ} {bytes : List ℕ} {g k : Stage} {at : ℕ} {store : List ℕ} {h : Stage} {e : ℕ} {after : List ℕ} → g ≡ k → Passes start bytes k at store h e after → Passes start bytes g at store h e after
passes-as {start} {bytes} {g} {k} {at} {store} {h} {e} {after} q p = subst (λ (x : Stage). Passes start bytes x at store h e after) (sym q) p
