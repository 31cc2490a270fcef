-- A chunk taken as the code goes is the chunk taken byte by byte. Assumes nothing.
use Prim.Native.Nat.{ℕ, zero, suc, ◌+◌, ◌*◌, ◌-◌, ◌≤◌, ◌<◌}
use mathlib.Core.Path.{◌≡◌, refl, sym, ap, ap₂, ◌∙◌, subst}
use mathlib.Core.List.{List, [], ◌∷◌, ◌++◌}
use mathlib.Core.Bool.{Bool, true, false}
use lib.Dec.{eqb}
use lib.ListN.{length, get_or, take, drop, set, length-set, length-drop, take-append-drop}
use lib.Seq.{take-suc-set, length-take-le, drop-length}
use borrow.Author.Tests.{lt-ltb, le-ltb}
use native.Mathlib.Omega.{arith}
use native.Mathlib.Numerals.{add-one}
use native.Mathlib.Nat.{add-zero}
use Rattle.algebra.specs.Reader.{Res, pick, ok, refuse, limit}
use Rattle.algebra.proofs.Stores.{length-stored}
use Rattle.algebra.specs.Table.{refused}
use Rattle.aco_chunks.specs.declared.Stage.{Stage}
use Rattle.aco_chunks.specs.declared.Stage.TheVariants as v
use Rattle.aco_chunks.specs.Chunks.{size, item, after, kept, Progress, is_fault, carried_further, unless_fault, limited, byte, chunk, ending, answer}
use Rattle.aco_chunks.proofs.Cutting.{chunk-append}
use Rattle.aco_pass.specs.scaffold.Parts.{Rest, PassesWith}
use Rattle.aco_pass.proofs.Turns.{G, turn-push, turn-full}

-- a byte that is carried
pub carried : (carry : List ℕ) (got b : ℕ) → got < length carry → take (got + 1) (set carry got b) ≡ take got carry ++ (b ∷ [])
carried carry got b h = ap (λ (k : ℕ). take k (set carry got b)) (add-one got) ∙ take-suc-set carry got b h

-- ---- sizes

pub size-some : (g : Stage) → 0 < size g
size-some v.First = omega arith
size-some (v.Colour n i) = omega arith
size-some (v.Second n) = omega arith
size-some (v.Entry n i) = omega arith
size-some (v.Unit n i at m z) = omega arith
size-some (v.End n) = omega arith
size-some (v.Fault x p r y) = omega arith

pub size-most : (g : Stage) → size g ≤ 14
size-most v.First = omega arith
size-most (v.Colour n i) = omega arith
size-most (v.Second n) = omega arith
size-most (v.Entry n i) = omega arith
size-most (v.Unit n i at m z) = omega arith
size-most (v.End n) = omega arith
size-most (v.Fault x p r y) = omega arith

-- what the code has is what a turn comes to
pub settled : (all : Progress) (g h : Stage) (t : ℕ) (c st s : List ℕ) (e : ℕ) (bytes : List ℕ) → all ≡ Rest h t [] st e bytes → g ≡ h → c ≡ [] → s ≡ st → all ≡ Rest g t c s e bytes
settled all g h t c st s e bytes i p q r = i ∙ sym (ap₂ (λ (g : Stage) (c : List ℕ). Rest g t c s e bytes) p q ∙ ap (λ (s : List ℕ). Rest h t [] s e bytes) r)

pub length-kept : (g : Stage) (m : Res ℕ) (b store : List ℕ) → length (kept g m b store) ≡ length store
length-kept v.First m b store = refl
length-kept (v.Colour n i) (ok u q) b store = length-stored store (10 * i) b
length-kept (v.Colour n i) (refuse x p r f) b store = refl
length-kept (v.Second n) m b store = refl
length-kept (v.Entry n i) m b store = refl
length-kept (v.Unit n i at k z) m b store = refl
length-kept (v.End n) m b store = refl
length-kept (v.Fault x p r f) m b store = refl

pub rest_over : (g : Stage) (start : ℕ) (carry store : List ℕ) (at : ℕ) (bytes : List ℕ) → at ≡ length bytes → Rest g (start + at) carry store at bytes ≡ G g (start + length bytes) carry store
unfolding chunk
rest_over g start carry store at bytes e = ap (λ (k : ℕ). Rest g (start + k) carry store k bytes) e ∙ ap (λ (l : List ℕ). chunk (G g (start + length bytes) carry store) l) (drop-length bytes)

-- ---- past the limit

byte-total : (g : Progress) (b : ℕ) → g.total < limit → (byte g b).total ≡ g.total + 1
unfolding byte
byte-total g b l = ap (λ (t : Bool). (limited t g b).total) (lt-ltb g.total limit l) ∙ go (is_fault g.stage) (eqb (length g.carry + 1) (size g.stage))
  where
    join-total : (e : Bool) → (carried_further e g.stage (g.total + 1) (g.carry ++ (b ∷ [])) g.store).total ≡ g.total + 1
    join-total true = refl
    join-total false = refl

    go : (f e : Bool) → (unless_fault f g b).total ≡ g.total + 1
    go true e = refl
    go false e = join-total (eqb (length g.carry + 1) (size g.stage))

chunk-total : (bs : List ℕ) (g : Progress) → g.total + length bs ≤ limit → (chunk g bs).total ≡ g.total + length bs
unfolding chunk
chunk-total [] g l = sym (add-zero g.total)
chunk-total (b ∷ bs) g l = let e = byte-total g b (omega arith) in let r = chunk-total bs (byte g b) (omega arith) in omega arith

byte_past : (g : Progress) (b : ℕ) → limit ≤ g.total → byte g b ≡ G g.stage (limit + 1) g.carry g.store
unfolding byte
byte_past g b l = ap (λ (t : Bool). limited t g b) (le-ltb g.total limit l)

pub chunk-past : (bs : List ℕ) (g : Progress) → limit ≤ g.total → 0 < length bs → chunk g bs ≡ G g.stage (limit + 1) g.carry g.store
unfolding chunk
chunk-past [] g l n = absurd (omega arith)
chunk-past (b ∷ []) g l n = byte_past g b l
chunk-past (b ∷ c ∷ bs) g l n = ap (λ (x : Progress). chunk x (c ∷ bs)) (byte_past g b l) ∙ chunk-past (c ∷ bs) (G g.stage (limit + 1) g.carry g.store) (omega arith) (omega arith)

-- a chunk that passes the limit: the bytes up to it, and that there are more
pub chunk-over : (g : Progress) (bytes : List ℕ) (room : ℕ) → g.total + room ≡ limit → room < length bytes → (h : Progress) → h ≡ chunk g (take room bytes) → G h.stage (limit + 1) h.carry h.store ≡ chunk g bytes
chunk-over g bytes room e l h q =
    let n : length (take room bytes) ≡ room = length-take-le room bytes (omega arith) in
    let m : length (drop room bytes) ≡ length bytes - room = length-drop room bytes in
    let t : h.total ≡ limit = ap (λ (x : Progress). x.total) q ∙ chunk-total (take room bytes) g (omega arith) ∙ omega arith in
    sym (ap (chunk g) (sym (take-append-drop room bytes)) ∙ chunk-append (take room bytes) (drop room bytes) g ∙ ap (λ (x : Progress). chunk x (drop room bytes)) (sym q) ∙ chunk-past (drop room bytes) h (omega arith) (omega arith))

pub chunk-none : (g : Progress) (bytes : List ℕ) → length bytes ≡ 0 → chunk g bytes ≡ g
unfolding chunk
chunk-none g [] e = refl
chunk-none g (b ∷ bs) e = absurd (omega arith)

-- the answer, of a total above the limit or not
pub answer-long : (g : Progress) → limit < g.total → refused 1 0 0 0 ≡ answer g
unfolding answer
answer-long g l = sym (ap (λ (b : Bool). pick b (refused 1 0 0 0) (ending g.stage (g.total - length g.carry) g.carry g.store)) (lt-ltb limit g.total l))

pub answer-within : (g : Progress) → g.total ≤ limit → (from : ℕ) → from ≡ g.total - length g.carry → ending g.stage from g.carry g.store ≡ answer g
unfolding answer
answer-within g l from e =
    ap (λ (k : ℕ). ending g.stage k g.carry g.store) e
    ∙ sym (ap (λ (b : Bool). pick b (refused 1 0 0 0) (ending g.stage (g.total - length g.carry) g.carry g.store)) (le-ltb limit g.total l))

-- ---- what is passed at once, and a byte that is not

pub room_after : (g h : Stage) (got : ℕ) → got < size g → (0 < got → h ≡ g) → got < size h
room_after g h zero l s = size-some h
room_after g h (suc k) l s = subst (λ (x : Stage). suc k < size x) (sym (s (omega arith))) l

-- nothing is passed: the next byte is carried
pub stood : {got start : ℕ} {bytes : List ℕ} {g : Stage} {at : ℕ} {store : List ℕ} {h : Stage} {e : ℕ} {after : List ℕ} (all : Progress) (carry : List ℕ) → all ≡ Rest g (start + at) carry store at bytes → length carry ≡ got → PassesWith got start bytes g at store h e after → e ≤ at → all ≡ Rest h (start + at) carry after at bytes
stood {got} {start} {bytes} {g} {at} {store} {h} {e} {after} all carry inv n p l =
    let q : e ≡ at = omega (arith, l, p.behind) in
    inv ∙ p.comes carry n ∙ ap (λ (k : ℕ). Rest h (start + k) carry after k bytes) q

module _ (all : Progress) (g : Stage) (start got : ℕ) (carry store : List ℕ) (at : ℕ) (bytes : List ℕ) (inv : all ≡ Rest g (start + at) (take got carry) store at bytes) (fits : start + length bytes ≤ limit) (less : at < length bytes) (f : is_fault g ≡ false) (room : got < length carry) where
  held : length (take got carry) ≡ got
  held = length-take-le got carry (omega arith)

  -- a byte that does not make the item whole, and one that does
  pub push-turn : got + 1 < size g → all ≡ Rest g (start + (at + 1)) (take (got + 1) (set carry got (get_or bytes at 0))) store (at + 1) bytes
  push-turn h = turn-push all g start (take got carry) store at bytes inv fits less f (omega (arith, held, h)) (take (got + 1) (set carry got (get_or bytes at 0))) (carried carry got (get_or bytes at 0) room)

  pub full-turn : got + 1 ≡ size g → {from : ℕ} → from ≡ start + (at + 1) - (got + 1) → {k : Stage} {st : List ℕ} → k ≡ after g from (item store g (take (got + 1) (set carry got (get_or bytes at 0))) 0) → st ≡ kept g (item store g (take (got + 1) (set carry got (get_or bytes at 0))) 0) (take (got + 1) (set carry got (get_or bytes at 0))) store
      → all ≡ Rest k (start + (at + 1)) [] st (at + 1) bytes
  full-turn h {from} q {k} {st} x y =
      let c = take (got + 1) (set carry got (get_or bytes at 0)) in
      let n : length (take (got + 1) (set carry got (get_or bytes at 0))) ≡ got + 1 = length-take-le (got + 1) (set carry got (get_or bytes at 0)) (omega (arith, room, length-set carry got (get_or bytes at 0))) in
      settled all k (after g from (item store g (take (got + 1) (set carry got (get_or bytes at 0))) 0)) (start + (at + 1)) [] (kept g (item store g (take (got + 1) (set carry got (get_or bytes at 0))) 0) (take (got + 1) (set carry got (get_or bytes at 0))) store) st (at + 1) bytes
      (turn-full all g start (take got carry) store at bytes inv fits less f (omega (arith, held, h)) (take (got + 1) (set carry got (get_or bytes at 0))) (carried carry got (get_or bytes at 0) room) from (omega (arith, q, n))) x refl y
