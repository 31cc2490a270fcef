-- The numbers of an accepted block are those that stand at its place. Assumes nothing.
use Prim.Native.Nat.{ℕ, suc, ◌+◌, ◌*◌, ◌-◌, ◌≤◌, ◌<◌}
use mathlib.Core.Path.{◌≡◌, refl, sym, ap, ◌∙◌, subst}
use mathlib.Core.List.{List, [], ◌∷◌}
use mathlib.Core.Bool.{Bool, true, false, true≢false}
use lib.Dec.{leb, ltb, eqb}
use lib.ListN.{length, get_or, take, get_or-eq_default}
use lib.Seq.{length-take-le, get_or-take}
use borrow.Author.Tests.{leb-true, ltb-true, ltb-false, eqb-true, ne_eqb, eq-eqb}
use native.Mathlib.Omega.{arith}
use Rattle.algebra.specs.Numbers.{num, nums}
use Rattle.algebra.specs.Reader.{Reader, ok, pick, rule, unless, fine, judged, each}
use Rattle.algebra.specs.Text.{Name, name, any_zero, closed}
use Rattle.algebra.proofs.Laws.{field_in, field-short, num-split}
use Rattle.algebra.proofs.Places.{length-nums, num-cong, getD-nums}
use Rattle.algebra.proofs.Inverse.{ok-value, ok-place, then-inv, rule-inv, unless-fine, judged-inv, Name-read, name-inv, fields-inv, fields-fine}
use Rattle.algebra.proofs.Texts.{closed-last, length_front}
use Rattle.colour.specs.Models.{is_model, channels_of}
use Rattle.colour.specs.Channels.{allows_bits}
use Rattle.ase.specs.Reading.{Entry, group_start_read, group_end_read, colour_read, group_content, model, channel, type, colour_content, within, deepest, is_block_type, content, block}
use Rattle.ase.proofs.Payload.{inside-inv}
use Rattle.ase.proofs.Laws.{block-inv}
use Rattle.ase.specs.Row.{RecordRow, given_of}
use Rattle.ase_read.specs.scaffold.Raw.{load, count_at, first_at, model_at, loaded, next_block}

-- ---- a number as it is loaded

module _ (w : ℕ) (u : List ℕ) (at : ℕ) where
  pub load-in : w ≤ length u - at → load w u at ≡ num w u at
  load-in h = rw (field_in w u at h)

  pub load-short : length u - at < w → load w u at ≡ 0
  load-short h = rw (field-short w u at h)

-- a number before the end of a part that starts with the file
pub num-take : (s : List ℕ) (k w at : ℕ) → at + w ≤ k → num w (take k s) at ≡ num w s at
num-take s k w at h = num-cong s (take k s) w at (λ i l. get_or-take k s (at + i) 0 (omega arith))

-- number i of n that stand before the last two bytes: past them nothing is left to load
load-channel : (u : List ℕ) (n at i : ℕ) → at + n * 4 + 2 ≡ length u → get_or (nums 4 n u at) i 0 ≡ load 4 u (at + 4 * i)
load-channel u n at i e = go (ltb i n) refl
  where
    go : (b : Bool) → ltb i n ≡ b → get_or (nums 4 n u at) i 0 ≡ load 4 u (at + 4 * i)
    go true h = let l : i < n = ltb-true i n h in getD-nums 4 u n at i l ∙ sym (load-in 4 u (at + 4 * i) (omega arith))
    go false h = let l : n ≤ i = ltb-false i n h in get_or-eq_default (nums 4 n u at) 0 (omega (arith, length-nums 4 n u at)) ∙ sym (load-short 4 u (at + 4 * i) (omega arith))

-- ---- what is known of an accepted block

-- a colour's model is known and allows its channels, and its type is known
abbrev pub Sound : Entry → Type 0
Sound (group_start_read nm) = Unit
Sound group_end_read = Unit
Sound (colour_read nm t bs k) = (is_model t ≡ true) × (length bs ≡ channels_of t) × ((i : ℕ) → i < length bs → allows_bits t (get_or bs i 0) ≡ true) × (k ≤ 2)

-- its name ends before q
abbrev pub NameIn : ℕ → Entry → Type 0
NameIn q (group_start_read nm) = nm.first + 2 * length nm.units ≤ q
NameIn q group_end_read = Unit
NameIn q (colour_read nm t bs k) = nm.first + 2 * length nm.units ≤ q

-- block e at a place, in the file u that ends with it
pub record Ended (u : List ℕ) (at : ℕ) (e : Entry) : Type 0 where
  pub is_row : given_of e ≡ loaded u at
  pub sound : Sound e
  pub named : NameIn (length u) e

-- block e at a place, and the next place q
pub record Blocked (s : List ℕ) (at : ℕ) (e : Entry) (q : ℕ) : Type 0 where
  pub next : next_block s at ≡ q
  pub inside : q ≤ length s
  pub ended : Ended (take q s) at e

-- ---- its name

-- the name of the block at a place, by the numbers that are loaded: it ends at q with its closing zero
record Naming (u : List ℕ) (at : ℕ) (nm : Name) (q : ℕ) : Type 0 where
  pub first : nm.first ≡ first_at u at
  pub units : length nm.units ≡ count_at u at - 1
  pub end : model_at u at ≡ q
  pub long : at + 10 ≤ q
  pub zero : num 2 u (q - 2) ≡ 0
  pub named : nm.first + 2 * length nm.units ≤ q
  pub inside : q ≤ length u

last-zero : (n : ℕ) (u : List ℕ) (at : ℕ) → 0 < n → closed (nums 2 n u at) ≡ true → num 2 u (at + 2 * (n - 1)) ≡ 0
last-zero n u at h e =
    let m : n ≡ suc (n - 1) = omega arith in
    go (any_zero (nums 2 (n - 1) u at)) (sym (ap (λ (k : ℕ). closed (nums 2 k u at)) m ∙ closed-last (n - 1) u at) ∙ e)
  where
    go : (b : Bool) → pick b false (eqb (num 2 u (at + 2 * (n - 1))) 0) ≡ true → num 2 u (at + 2 * (n - 1)) ≡ 0
    go true z = absurd (true≢false (sym z))
    go false z = eqb-true _ _ z

named-as : (u : List ℕ) (at n : ℕ) (nm : Name) (q : ℕ) → Name-read 2 u (at + 6) n nm q → Naming u at nm q
named-as u at n nm q r =
    let c : ℕ = at + 6 in
    let l : count_at u at ≡ n = load-in 2 u c r.room ∙ r.count in
    let f : c + 2 ≡ nm.first = ap (λ (z : Name). z.first) r.is in
    let eight : nm.first ≡ at + 8 = omega arith in
    let len : length nm.units ≡ n - 1 = sym (ap (λ (z : Name). length z.units) r.is) ∙ length_front (nums 2 n u (c + 2)) ∙ ap (λ (k : ℕ). k - 1) (length-nums 2 n u (c + 2)) in
    let some : count_at u at ≡ 0 → ⊥ = λ z. omega (arith, r.some) in
    let last : q - 2 ≡ c + 2 + 2 * (n - 1) = omega (arith, r.end, r.some) in record {
      first = eight ∙ sym (ap (λ (b : Bool). pick b 0 (at + 8)) (ne_eqb _ _ some));
      units = len ∙ ap (λ (k : ℕ). k - 1) (sym l);
      end = omega (arith, r.end);
      long = omega (arith, r.end, r.some);
      zero = ap (num 2 u) last ∙ last-zero n u (c + 2) r.some r.shut;
      named = omega (arith, r.end);
      inside = omega (arith, r.end, r.inside, r.room);
    }

-- ---- its row

pub same : {a b c d e f g h j a' b' c' d' e' f' g' h' j' : ℕ} → a ≡ a' → b ≡ b' → c ≡ c' → d ≡ d' → e ≡ e' → f ≡ f' → g ≡ g' → h ≡ h' → j ≡ j'
    → ◌≡◌ {A = RecordRow} (record { block = a; first = b; units = c; model = d; channels = e ∷ f ∷ g ∷ h ∷ []; ink = j }) (record { block = a'; first = b'; units = c'; model = d'; channels = e' ∷ f' ∷ g' ∷ h' ∷ []; ink = j' })
same a b c d e f g h j = λ i. record { block = a i; first = b i; units = c i; model = d i; channels = e i ∷ f i ∷ g i ∷ h i ∷ []; ink = j i }

-- a group start ends with its name, whose closing zero is the last number
group-ended : (u : List ℕ) (at : ℕ) (nm : Name) → num 2 u at ≡ 0xC001 → Naming u at nm (length u) → Ended u at (group_start_read nm)
group-ended u at nm t l =
    let past : (k : ℕ) → 0 ≡ load 4 u (model_at u at + k) = λ k. sym (load-short 4 u (model_at u at + k) (omega (arith, l.end))) in record {
      is_row =
          same (sym (load-in 2 u at (omega (arith, l.long)) ∙ t)) l.first l.units (sym (load-short 4 u (model_at u at) (omega (arith, l.end))))
          (past 4) (past 8) (past 12) (past 16)
          (sym (load-in 2 u (length u - 2) (omega (arith, l.long)) ∙ l.zero));
      sound = tt;
      named = l.named;
    }

-- a group end has no payload; the last number is the low half of its length
stop-ended : (u : List ℕ) (at : ℕ) → num 2 u at ≡ 0xC002 → num 4 u (at + 2) ≡ 0 → length u ≡ at + 6 → Ended u at group_end_read
stop-ended u at t z e =
    let none : load 2 u (at + 6) ≡ 0 = load-short 2 u (at + 6) (omega arith) in
    let past : (k : ℕ) → 0 ≡ load 4 u (model_at u at + k) = λ k. sym (load-short 4 u (model_at u at + k) (omega arith)) in
    let low : num 2 u (length u - 2) ≡ 0 = half u (at + 2) (length u - 2) (omega arith) z in record {
      is_row =
          same (sym (load-in 2 u at (omega arith) ∙ t)) (sym (ap (λ (b : Bool). pick b 0 (at + 8)) (eq-eqb _ _ none))) (ap (λ (k : ℕ). k - 1) (sym none))
          (sym (load-short 4 u (model_at u at) (omega arith)))
          (past 4) (past 8) (past 12) (past 16)
          (sym (load-in 2 u (length u - 2) (omega arith) ∙ low));
      sound = tt;
      named = tt;
    }
  where
    half : (u : List ℕ) (at q : ℕ) → q ≡ at + 2 → num 4 u at ≡ 0 → num 2 u q ≡ 0
    half u at q e z = ap (num 2 u) e ∙ omega (arith, num-split 2 2 u at, z)

-- a colour: its model and channels stand behind the name, and its type is the last number
colour-ended : (u : List ℕ) (at r n : ℕ) (nm : Name) (t : ℕ) (bs : List ℕ) (k : ℕ) → num 2 u at ≡ 0x0001 → Naming u at nm r
    → num 4 u r ≡ t → nums 4 n u (r + 4) ≡ bs → num 2 u (r + 4 + n * 4) ≡ k → r + 4 + n * 4 + 2 ≡ length u → Sound (colour_read nm t bs k) → Ended u at (colour_read nm t bs k)
colour-ended u at r n nm t bs k kind l et eb ek e snd =
    let b : model_at u at ≡ r = l.end in
    let four : (i p : ℕ) → r + 4 + 4 * i ≡ model_at u at + p → get_or bs i 0 ≡ load 4 u (model_at u at + p) =
    λ i p z. sym (ap (λ (x : List ℕ). get_or x i 0) eb) ∙ load-channel u n (r + 4) i e ∙ ap (load 4 u) z in
    let last : length u - 2 ≡ r + 4 + n * 4 = omega arith in record {
      is_row =
          same (sym (load-in 2 u at (omega (arith, l.long, l.inside)) ∙ kind)) l.first l.units
          (sym (ap (load 4 u) b ∙ load-in 4 u r (omega arith) ∙ et))
          (four 0 4 (omega arith)) (four 1 8 (omega arith)) (four 2 12 (omega arith)) (four 3 16 (omega arith))
          (sym (ap (load 2 u) last ∙ load-in 2 u (r + 4 + n * 4) (omega arith) ∙ ek));
      sound = snd;
      named = omega (arith, l.named);
    }

-- ---- from the reading definition

group-inv : (u : List ℕ) (at : ℕ) {e : Entry} {q : ℕ} → num 2 u at ≡ 0xC001 → q ≡ length u → group_content u (at + 6) ≡ ok e q → Ended u at e
unfolding group_content
group-inv u at {e} {q} t z x =
    let i = then-inv (name 2 u (at + 6)) _ x in
    let y = name-inv 2 u (at + 6) i.2 in
    let l : i.1 ≡ length u = ok-place i.3 ∙ z in
    subst (Ended u at) (ok-value i.3) (group-ended u at i.0 t (subst (Naming u at i.0) l (named-as u at y.0 i.0 i.1 y.1)))

channels-sound : (u : List ℕ) (n r t : ℕ) (bs : List ℕ) → nums 4 n u r ≡ bs → ((i : ℕ) → i < n → channel t (num 4 u (r + 4 * i)) ≡ fine) → (i : ℕ) → i < length bs → allows_bits t (get_or bs i 0) ≡ true
channels-sound u n r t bs e h i l =
    let k : i < n = omega (arith, ap length e, length-nums 4 n u r) in
    ap (allows_bits t) (sym (ap (λ (x : List ℕ). get_or x i 0) e) ∙ getD-nums 4 u n r i k) ∙ unless-fine (allows_bits t (num 4 u (r + 4 * i))) 5 (h i k)

colour-content-inv : (u : List ℕ) (at : ℕ) {e : Entry} {q : ℕ} → num 2 u at ≡ 0x0001 → q ≡ length u → colour_content u (at + 6) ≡ ok e q → Ended u at e
unfolding colour_content
colour-content-inv u at {e} {q} kind z x =
    let i = then-inv (name 2 u (at + 6)) _ x in
    let y = name-inv 2 u (at + 6) i.2 in
    let r : ℕ = i.1 in
    let m = then-inv (judged 4 model u r) _ i.3 in
    let t : ℕ = m.0 in
    let mj = judged-inv 4 u r model m.2 in
    let c = then-inv (each (channels_of t) 0 (λ i. judged 4 (channel t)) u m.1) _ m.3 in
    let cs = fields-inv 4 (λ i. channel t) u (channels_of t) 0 m.1 c.2 in
    let k = then-inv (judged 2 type u c.1) _ c.3 in
    let kj = judged-inv 2 u c.1 type k.2 in
    let at4 : m.1 ≡ r + 4 = omega arith in
    let bits : nums 4 (channels_of t) u (r + 4) ≡ c.0 = ap (λ (p : ℕ). nums 4 (channels_of t) u p) (sym at4) ∙ cs.0 in
    let end : c.1 ≡ r + 4 + channels_of t * 4 = omega arith in
    let whole : r + 4 + channels_of t * 4 + 2 ≡ length u = omega (arith, ok-place k.3) in
    let allowed : (j : ℕ) → j < channels_of t → channel t (num 4 u (r + 4 + 4 * j)) ≡ fine =
    λ j l. ap (λ (p : ℕ). channel t (num 4 u (p + 4 * j))) (sym at4) ∙ fields-fine 4 (λ i. channel t) u (channels_of t) 0 m.1 c.2 j l in
    subst (Ended u at) (ok-value k.3)
    (colour-ended u at r (channels_of t) i.0 t c.0 k.0 kind (named-as u at y.0 i.0 r y.1) mj.1 bits (ap (num 2 u) (sym end) ∙ kj.1) whole
    (unless-fine (is_model t) 4 mj.3, sym (ap length bits) ∙ length-nums 4 (channels_of t) u (r + 4), channels-sound u (channels_of t) (r + 4) t c.0 bits allowed, leb-true k.0 2 (unless-fine (leb k.0 2) 5 kj.3)))

-- the block's content, behind its type t and its length n
content-inv : (t d n : ℕ) (s : List ℕ) (at : ℕ) {e : Entry} {q : ℕ} → num 2 s at ≡ t → num 4 s (at + 2) ≡ n → is_block_type t ≡ true → at + 6 + n ≤ length s → content t d n s at ≡ ok e q → (q ≡ at + 6 + n) × Ended (take (at + 6 + n) s) at e
unfolding content
content-inv t d n s at {e} {q} et en known le x = go (eqb t 0xC001) (eqb t 0xC002) refl refl known x
  where
    end : ℕ
    end = at + 6 + n

    u : List ℕ
    u = take end s

    whole : length u ≡ end
    whole = length-take-le end s le

    kind : (v : ℕ) → t ≡ v → num 2 u at ≡ v
    kind v z = num-take s end 2 at (omega arith) ∙ et ∙ z

    payload : (p : Reader Entry) → within p n s at ≡ ok e q → ((q ≡ length u) → p u (at + 6) ≡ ok e q → Ended u at e) → (q ≡ end) × Ended u at e
    payload p w f = let i = inside-inv (at + 2) end (p u (at + 6)) w in (i.1, f (i.1 ∙ sym whole) i.0)

    go : (a b : Bool) → eqb t 0xC001 ≡ a → eqb t 0xC002 ≡ b → pick a true (pick b true (eqb t 0x0001)) ≡ true
        → pick a (rule (unless (ltb d deepest) 10) at (within group_content n s at)) (pick b (rule (unless (eqb n 0) 13) (at + 2) (rule (unless (ltb 0 d) 9) at (ok group_end_read (at + 6)))) (within colour_content n s at)) ≡ ok e q
        → (q ≡ end) × Ended u at e
    go true b ea eb k y = payload group_content (rule-inv (unless (ltb d deepest) 10) at (within group_content n s at) y).1 (λ z w. group-inv u at (kind 0xC001 (eqb-true _ _ ea)) z w)
    go false true ea eb k y =
        let i = rule-inv (unless (eqb n 0) 13) (at + 2) _ y in
        let j = rule-inv (unless (ltb 0 d) 9) at (ok group_end_read (at + 6)) i.1 in
        let none : n ≡ 0 = eqb-true n 0 (unless-fine (eqb n 0) 13 i.0) in
        (omega (arith, ok-place j.1), subst (Ended u at) (ok-value j.1) (stop-ended u at (kind 0xC002 (eqb-true _ _ eb)) (num-take s end 4 (at + 2) (omega arith) ∙ en ∙ none) (omega (arith, whole))))
    go false false ea eb k y = payload colour_content y (λ z w. colour-content-inv u at (kind 0x0001 (eqb-true _ _ k)) z w)

pub blocked : (d : ℕ) (s : List ℕ) (at : ℕ) {e : Entry} {q : ℕ} → block d s at ≡ ok e q → Blocked s at e q
blocked d s at {e} {q} x =
    let i = block-inv s d at x in
    let c = content-inv (num 2 s at) d (num 4 s (at + 2)) s at refl refl i.1 i.0 i.2 in record {
      next = sym c.0;
      inside = omega (arith, i.0, c.0);
      ended = subst (λ (p : ℕ). Ended (take p s) at e) (sym c.0) c.1;
    }
