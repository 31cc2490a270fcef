-- The reader's parts accept exactly the grammar's bytes. Assumes nothing.
use Prim.Native.Nat.{ℕ, ◌+◌, ◌-◌, ◌^◌, ◌≤◌, ◌<◌}
use mathlib.Core.Path.{◌≡◌, refl, sym, ap, ap₂, ◌∙◌, subst}
use mathlib.Core.List.{List, ◌++◌}
use mathlib.Core.Bool.{Bool, true, false}
use lib.Dec.{leb, ltb, eqb}
use lib.ListN.{length, length-append, take}
use borrow.Author.Tests.{eqb-true, ltb-true, lt-ltb, leb-true, le-leb}
use native.Mathlib.Omega.{arith}
use native.Mathlib.Nat.{add-zero}
use Rattle.algebra.specs.Numbers.{num, be, joined, At, Bytes, All}
use Rattle.algebra.specs.Reader.{Res, ok, pick, rule, field, fine, unless, judged, each}
use Rattle.algebra.specs.Text.{Name, name, name_bytes, Named}
use Rattle.algebra.specs.Algebra.{Same, Lawful, Exact}
use Rattle.algebra.proofs.Laws.{field_in}
use Rattle.algebra.proofs.Cuts.{bytes_take}
use Rattle.algebra.proofs.Places.{length-be, at_in, at_next, at_left, at_right, at_after, num-be, be-num, num-lt}
use Rattle.algebra.proofs.Inverse.{then-inv, rule-inv, pick_inv, unless-fine, field-inv, ok-value, ok-place}
use Rattle.algebra.proofs.Lawful.{same-num, judged-lawful, name-lawful, give-lawful, bind-lawful, each-lawful}
use Rattle.algebra.proofs.Exact.{all_map, map-id, judged-exact, name-exact}
use Rattle.colour.specs.Models.{is_model, channels_of}
use Rattle.colour.specs.Channels.{allows_bits}
use Rattle.ase.specs.Grammar.{Block, group_start, group_end, colour, other, type_of, payload, block_bytes, Channel, Colour, Allowed}
use Rattle.ase.specs.Reading.{Entry, group_start_read, group_end_read, colour_read, block_of, group_content, model, channel, type, colour_content, within, deepest, is_block_type, content, block}
use Rattle.ase.proofs.Tables.{channels-fine, model-known, model-count, known-model, model_small, allowed-channel}
use Rattle.ase.proofs.Turns.{channels-exact}
use Rattle.ase.proofs.Payload.{within-reads, within-writes, within-ends}

-- ---- a payload's content

-- which blocks have it
abbrev pub AllowedGroupStart : Block → Type 0
AllowedGroupStart (group_start us) = Named 2 us
AllowedGroupStart group_end = ⊥
AllowedGroupStart (colour us t bs k) = ⊥
AllowedGroupStart (other t) = ⊥

abbrev pub AllowedColour : Block → Type 0
AllowedColour (group_start us) = ⊥
AllowedColour group_end = ⊥
AllowedColour (colour us t bs k) = Colour us t bs k
AllowedColour (other t) = ⊥

fine-channels : (t : ℕ) (bs : List ℕ) → All (λ i b. (b < 256 ^ 4) × (channel t b ≡ fine)) 0 bs → All (λ i b. Channel t b) 0 bs
fine-channels t bs h = all_map (λ i b. (b < 256 ^ 4) × (channel t b ≡ fine)) (λ i b. Channel t b) (λ i b c. allowed-channel t b c.0 (unless-fine (allows_bits t b) 5 c.1)) 0 bs h

module _ (s : List ℕ) (bytes : Bytes s) where
  group_reads : (at : ℕ) (b : Block) → AllowedGroupStart b → At s at (payload b) → (e : Entry) × (group_content s at ≡ ok e (at + length (payload b))) × (block_of e ≡ b)
  unfolding group_content
  group_reads at (group_start us) fit h = let x = (name-exact s 2 bytes).reads at us fit h in (group_start_read x.0, rw x.1, ap group_start x.2)
  group_reads at group_end fit h = absurd fit
  group_reads at (colour us t bs k) fit h = absurd fit
  group_reads at (other t) fit h = absurd fit

  group-writes : (at : ℕ) → at ≤ length s → (e : Entry) (q : ℕ) → group_content s at ≡ ok e q → AllowedGroupStart (block_of e) × At s at (payload (block_of e)) × (at + length (payload (block_of e)) ≡ q)
  unfolding group_content
  group-writes at le e q h =
      let t = then-inv (name 2 s at) _ h in
      let x = (name-exact s 2 bytes).writes at le t.0 t.1 t.2 in
      subst (λ (y : Entry). AllowedGroupStart (block_of y) × At s at (payload (block_of y)) × (at + length (payload (block_of y)) ≡ q)) (ok-value t.3)
      (x.0, x.1, x.2 ∙ ok-place t.3)

  -- a group's name
  pub group-exact : Exact s group_content block_of AllowedGroupStart payload
  group-exact = record { reads = group_reads; writes = group-writes }

  colour-content-reads : (at : ℕ) (b : Block) → AllowedColour b → At s at (payload b) → (e : Entry) × (colour_content s at ≡ ok e (at + length (payload b))) × (block_of e ≡ b)
  unfolding colour_content
  colour-content-reads at (group_start us) fit h = absurd fit
  colour-content-reads at group_end fit h = absurd fit
  colour-content-reads at (other t) fit h = absurd fit
  colour-content-reads at (colour us t bs k) fit h =
      let n : List ℕ = name_bytes 2 us in
      let c : List ℕ = joined (be 4) bs in
      let known : is_model t ≡ true = model-known fit.model in
      let h1 = at_right s at n (be 4 t ++ (c ++ be 2 k)) h in
      let q1 : ℕ = at + length n in
      let h2 = at_right s q1 (be 4 t) (c ++ be 2 k) h1 in
      let q2 : ℕ = q1 + length (be 4 t) in
      let h3 = at_right s q2 c (be 2 k) h2 in
      let q3 : ℕ = q2 + length c in
      let x = (name-exact s 2 bytes).reads at us fit.name (at_left s at n (be 4 t ++ (c ++ be 2 k)) h) in
      let y = (judged-exact s bytes 4 model).reads q1 t (model_small fit.model, ap (λ (b : Bool). unless b 4) known) (at_left s q1 (be 4 t) (c ++ be 2 k) h1) in
      let y2 : judged 4 model s q1 ≡ ok t q2 = y.1 ∙ ap (λ (v : ℕ). ok v q2) y.2 in
      let z = (channels-exact s bytes t).reads q2 bs (fit.all ∙ sym (model-count fit.model), channels-fine t bs known fit.channels) (at_left s q2 c (be 2 k) h2) in
      let z2 : each (channels_of t) 0 (λ i. judged 4 (channel t)) s q2 ≡ ok bs q3 = z.1 ∙ ap (λ (v : List ℕ). ok v q3) (sym (map-id z.0) ∙ z.2) in
      let w = (judged-exact s bytes 2 type).reads q3 k (omega (arith, fit.type), ap (λ (b : Bool). unless b 5) (le-leb k 2 fit.type)) h3 in
      let w2 : judged 2 type s q3 ≡ ok k (q3 + length (be 2 k)) = w.1 ∙ ap (λ (v : ℕ). ok v (q3 + length (be 2 k))) w.2 in
      let l : q3 + length (be 2 k) ≡ at + length (n ++ (be 4 t ++ (c ++ be 2 k))) = omega (arith, length-append n (be 4 t ++ (c ++ be 2 k)), length-append (be 4 t) (c ++ be 2 k), length-append c (be 2 k)) in
      (colour_read x.0 t bs k, rw x.1 (rw y2 (rw z2 (rw w2 (rw l)))), ap (λ (v : List ℕ). colour v t bs k) x.2)

  colour-content-writes : (at : ℕ) → at ≤ length s → (e : Entry) (q : ℕ) → colour_content s at ≡ ok e q → AllowedColour (block_of e) × At s at (payload (block_of e)) × (at + length (payload (block_of e)) ≡ q)
  unfolding colour_content
  colour-content-writes at le e q h =
      let a = then-inv (name 2 s at) _ h in
      let nm : Name = a.0 in
      let x = (name-exact s 2 bytes).writes at le nm a.1 a.2 in
      let n : List ℕ = name_bytes 2 nm.units in
      let b = then-inv (judged 4 model s a.1) _ a.3 in
      let t : ℕ = b.0 in
      let y = (judged-exact s bytes 4 model).writes a.1 (omega (arith, at_in s at n x.1, x.2)) t b.1 b.2 in
      let c = then-inv (each (channels_of t) 0 (λ i. judged 4 (channel t)) s b.1) _ b.3 in
      let bs : List ℕ = c.0 in
      let z = (channels-exact s bytes t).writes b.1 (omega (arith, at_in s a.1 (be 4 t) y.1, y.2)) bs c.1 c.2 in
      let same = map-id bs in
      let zl : At s b.1 (joined (be 4) bs) = subst (λ (v : List ℕ). At s b.1 (joined (be 4) v)) same z.1 in
      let ze : b.1 + length (joined (be 4) bs) ≡ c.1 = subst (λ (v : List ℕ). b.1 + length (joined (be 4) v) ≡ c.1) same z.2 in
      let d = then-inv (judged 2 type s c.1) _ c.3 in
      let k : ℕ = d.0 in
      let w = (judged-exact s bytes 2 type).writes c.1 (omega (arith, at_in s b.1 (joined (be 4) bs) zl)) k d.1 d.2 in
      let l : List ℕ = joined (be 4) bs in
      let known : is_model t ≡ true = unless-fine (is_model t) 4 y.0.1 in
      let made : Colour nm.units t bs k = record {
        count = channels_of t;
        model = known-model t known;
        all = sym (ap length same) ∙ z.0.0;
        channels = fine-channels t bs (subst (λ (v : List ℕ). All (λ i b. (b < 256 ^ 4) × (channel t b ≡ fine)) 0 v) same z.0.1);
        type = leb-true k 2 (unless-fine (leb k 2) 5 w.0.1);
        name = x.0;
      } in
      let stands : At s at (n ++ (be 4 t ++ (l ++ be 2 k))) =
      at_next s at n (be 4 t ++ (l ++ be 2 k)) a.1 x.2 x.1 (at_next s a.1 (be 4 t) (l ++ be 2 k) b.1 y.2 y.1 (at_next s b.1 l (be 2 k) c.1 ze zl w.1)) in
      let ends : at + length (n ++ (be 4 t ++ (l ++ be 2 k))) ≡ q =
      omega (arith, length-append n (be 4 t ++ (l ++ be 2 k)), length-append (be 4 t) (l ++ be 2 k), length-append l (be 2 k), x.2, y.2, ze, w.2, ok-place d.3) in
      subst (λ (v : Entry). AllowedColour (block_of v) × At s at (payload (block_of v)) × (at + length (payload (block_of v)) ≡ q)) (ok-value d.3) (made, stands, ends)

  -- a colour's name, model, channels and type
  pub colour-content-exact : Exact s colour_content block_of AllowedColour payload
  colour-content-exact = record { reads = colour-content-reads; writes = colour-content-writes }

-- ---- a block, where d groups stand open

-- what its place among the groups asks of it
abbrev pub Steps : ℕ → Block → Type 0
Steps d (group_start us) = d < 16
Steps d group_end = 0 < d
Steps d (colour us t bs k) = Unit
Steps d (other t) = Unit

abbrev pub Sound : ℕ → Block → Type 0
Sound d b = (Allowed b × Steps d b) × (length (payload b) < 256 ^ 4)

-- one of the three types
abbrev pub Typed : Block → Type 0
Typed (group_start us) = Unit
Typed group_end = Unit
Typed (colour us t bs k) = Unit
Typed (other t) = ⊥

pub allowed-known : (b : Block) → Allowed b → Typed b
allowed-known (group_start us) a = tt
allowed-known group_end a = tt
allowed-known (colour us t bs k) a = tt
allowed-known (other t) a = a

pub type-small : (b : Block) → Typed b → type_of b < 256 ^ 2
type-small (group_start us) k = omega arith
type-small group_end k = omega arith
type-small (colour us t bs j) k = omega arith
type-small (other t) k = absurd k

pub type-is : (b : Block) → Typed b → is_block_type (type_of b) ≡ true
type-is (group_start us) k = refl
type-is group_end k = refl
type-is (colour us t bs j) k = refl
type-is (other t) k = absurd k

pub length-block : (b : Block) → length (block_bytes b) ≡ 6 + length (payload b)
unfolding block_bytes
length-block b =
    let n : List ℕ = be 4 (length (payload b)) in
    omega (arith, length-append (be 2 (type_of b)) (n ++ payload b), length-append n (payload b), length-be 2 (type_of b), length-be 4 (length (payload b)))

-- a block's type and length are there, its type is known and its payload is inside: its content is read
pub block_in : (s : List ℕ) (d at : ℕ) → at + 6 + num 4 s (at + 2) ≤ length s → is_block_type (num 2 s at) ≡ true → block d s at ≡ content (num 2 s at) d (num 4 s (at + 2)) s at
unfolding block
block_in s d at room known =
    let p : at + 2 + 4 ≡ at + 6 = omega arith in
    let y : field 4 s (at + 2) ≡ ok (num 4 s (at + 2)) (at + 6) = field_in 4 s (at + 2) (omega arith) ∙ ap (λ (q : ℕ). ok (num 4 s (at + 2)) q) p in
    rw (field_in 2 s at (omega arith)) (rw y (rw known (rw (le-leb (num 4 s (at + 2)) (length s - (at + 6)) (omega arith)))))

pub block-inv : (s : List ℕ) (d at : ℕ) {e : Entry} {q : ℕ} → block d s at ≡ ok e q
    → (at + 6 + num 4 s (at + 2) ≤ length s) × (is_block_type (num 2 s at) ≡ true) × (content (num 2 s at) d (num 4 s (at + 2)) s at ≡ ok e q)
unfolding block
block-inv s d at {e} {q} h =
    let t = then-inv (field 2 s at) _ h in
    let x = field-inv 2 s at t.2 in
    let u = then-inv (field 4 s t.1) _ t.3 in
    let y = field-inv 4 s t.1 u.2 in
    let r = rule-inv (unless (is_block_type t.0) 4) at _ u.3 in
    let v = pick_inv (leb u.0 (length s - u.1)) (content t.0 d u.0 s at) _ u.1 0 0 r.1 in
    let n : u.0 ≡ num 4 s (at + 2) = sym y.1 ∙ ap (λ (p : ℕ). num 4 s p) (sym x.2) in
    go t.0 u.0 x.1 (sym n) (omega (arith, leb-true u.0 (length s - u.1) v.0, x.0, y.0, x.2, y.2)) (unless-fine (is_block_type t.0) 4 r.0) v.1
  where
    go : (t n : ℕ) → num 2 s at ≡ t → num 4 s (at + 2) ≡ n → at + 6 + n ≤ length s → is_block_type t ≡ true → content t d n s at ≡ ok e q
        → (at + 6 + num 4 s (at + 2) ≤ length s) × (is_block_type (num 2 s at) ≡ true) × (content (num 2 s at) d (num 4 s (at + 2)) s at ≡ ok e q)
    go t n x y room known c = (omega arith, ap is_block_type x ∙ known, ap₂ (λ (a b : ℕ). content a d b s at) x y ∙ c)

-- where a block's bytes stand, its content is read
pub block-passes : (s : List ℕ) (d at : ℕ) (b : Block) → Typed b → length (payload b) < 256 ^ 4 → At s at (block_bytes b)
    → (block d s at ≡ content (type_of b) d (length (payload b)) s at) × At s (at + 6) (payload b)
unfolding block_bytes
block-passes s d at b known small h =
    let t : ℕ = type_of b in
    let l : List ℕ = payload b in
    let n : ℕ = length l in
    let h2 : At s (at + 2) (be 4 n ++ l) = at_after s at (be 2 t) (be 4 n ++ l) (at + 2) (ap (λ (k : ℕ). at + k) (length-be 2 t)) h in
    let six : at + 2 + length (be 4 n) ≡ at + 6 = omega (arith, length-be 4 n) in
    let h6 : At s (at + 6) l = at_after s (at + 2) (be 4 n) l (at + 6) six h2 in
    let x : num 2 s at ≡ t = num-be s 2 at t (type-small b known) (at_left s at (be 2 t) (be 4 n ++ l) h) in
    let y : num 4 s (at + 2) ≡ n = num-be s 4 (at + 2) n small (at_left s (at + 2) (be 4 n) l h2) in
    (block_in s d at (omega (arith, at_in s (at + 6) l h6)) (ap is_block_type x ∙ type-is b known) ∙ ap₂ (λ (a b : ℕ). content a d b s at) x y, h6)

module _ (s : List ℕ) (bytes : Bytes s) where
  content-reads : (d at : ℕ) (b : Block) → Allowed b → Steps d b → At s (at + 6) (payload b) → (e : Entry) × (content (type_of b) d (length (payload b)) s at ≡ ok e (at + 6 + length (payload b))) × (block_of e ≡ b)
  unfolding content
  content-reads d at (group_start us) fit st h =
      let l : List ℕ = name_bytes 2 us in
      let n : ℕ = length l in
      let x = within-reads s n at (at_in s (at + 6) l h) group_content (group-exact (take (at + 6 + n) s) (bytes_take (at + 6 + n) s bytes)) (group_start us) fit refl h in
      (x.0, rw (lt-ltb d 16 st) x.1, x.2)
  content-reads d at (other t) fit st h = absurd fit
  content-reads d at group_end fit st h = (group_end_read, rw (lt-ltb 0 d st) (ap (λ (k : ℕ). ok group_end_read k) (sym (add-zero (at + 6)))), refl)
  content-reads d at (colour us t bs k) fit st h =
      let l : List ℕ = payload (colour us t bs k) in
      let n : ℕ = length l in
      within-reads s n at (at_in s (at + 6) l h) colour_content (colour-content-exact (take (at + 6 + n) s) (bytes_take (at + 6 + n) s bytes)) (colour us t bs k) fit refl h

  pub block_reads : (d at : ℕ) (b : Block) → Sound d b → At s at (block_bytes b) → (e : Entry) × (block d s at ≡ ok e (at + length (block_bytes b))) × (block_of e ≡ b)
  block_reads d at b fit h =
      let x = block-passes s d at b (allowed-known b fit.0.0) fit.1 h in
      let y = content-reads d at b fit.0.0 fit.0.1 x.1 in
      let l : at + 6 + length (payload b) ≡ at + length (block_bytes b) = omega (arith, length-block b) in
      (y.0, x.0 ∙ y.1 ∙ ap (λ (k : ℕ). ok y.0 k) l, y.2)

-- what was read of a block of the type t with a payload of n bytes
pub record Held (s : List ℕ) (at t d n : ℕ) (b : Block) (q : ℕ) : Type 0 where
  pub is : type_of b ≡ t
  pub allowed : Allowed b
  pub steps : Steps d b
  pub stands : At s (at + 6) (payload b)
  pub sized : length (payload b) ≡ n
  pub end : q ≡ at + 6 + n

module _ (s : List ℕ) (at d n : ℕ) where
  group-start-held : (b : Block) (q : ℕ) → d < 16 → AllowedGroupStart b × At s (at + 6) (payload b) × (length (payload b) ≡ n) × (q ≡ at + 6 + n) → Held s at 0xC001 d n b q
  group-start-held (group_start us) q l h = record { is = refl; allowed = h.0; steps = l; stands = h.1; sized = h.2; end = h.3 }
  group-start-held group_end q l h = absurd h.0
  group-start-held (colour us t bs k) q l h = absurd h.0
  group-start-held (other t) q l h = absurd h.0

  colour-held : (b : Block) (q : ℕ) → AllowedColour b × At s (at + 6) (payload b) × (length (payload b) ≡ n) × (q ≡ at + 6 + n) → Held s at 0x0001 d n b q
  colour-held (group_start us) q h = absurd h.0
  colour-held group_end q h = absurd h.0
  colour-held (other t) q h = absurd h.0
  colour-held (colour us t bs k) q h = record { is = refl; allowed = h.0; steps = tt; stands = h.1; sized = h.2; end = h.3 }

  module _ (bytes : Bytes s) (room : at + 6 + n ≤ length s) where
    start-held : (e : Entry) (q : ℕ) → rule (unless (ltb d deepest) 10) at (within group_content n s at) ≡ ok e q → Held s at 0xC001 d n (block_of e) q
    start-held e q h =
        let i = rule-inv (unless (ltb d 16) 10) at (within group_content n s at) h in
        group-start-held (block_of e) q (ltb-true d 16 (unless-fine (ltb d 16) 10 i.0))
        (within-writes s n at room group_content (group-exact (take (at + 6 + n) s) (bytes_take (at + 6 + n) s bytes)) e q i.1)

    stop-held : (e : Entry) (q : ℕ) → rule (unless (eqb n 0) 13) (at + 2) (rule (unless (ltb 0 d) 9) at (ok group_end_read (at + 6))) ≡ ok e q → Held s at 0xC002 d n (block_of e) q
    unfolding At
    stop-held e q h =
        let i = rule-inv (unless (eqb n 0) 13) (at + 2) (rule (unless (ltb 0 d) 9) at (ok group_end_read (at + 6))) h in
        let j = rule-inv (unless (ltb 0 d) 9) at (ok group_end_read (at + 6)) i.1 in
        let z : n ≡ 0 = eqb-true n 0 (unless-fine (eqb n 0) 13 i.0) in
        subst (λ (v : Entry). Held s at 0xC002 d n (block_of v) q) (ok-value j.1) (record {
          is = refl;
          allowed = tt;
          steps = ltb-true 0 d (unless-fine (ltb 0 d) 9 j.0);
          stands = omega arith;
          sized = sym z;
          end = omega (arith, ok-place j.1);
        })

    colour-content-held : (e : Entry) (q : ℕ) → within colour_content n s at ≡ ok e q → Held s at 0x0001 d n (block_of e) q
    colour-content-held e q h = colour-held (block_of e) q (within-writes s n at room colour_content (colour-content-exact (take (at + 6 + n) s) (bytes_take (at + 6 + n) s bytes)) e q h)

    -- a type by the reader's tests
    pub content-held : (t : ℕ) (e : Entry) (q : ℕ) → is_block_type t ≡ true → content t d n s at ≡ ok e q → Held s at t d n (block_of e) q
    unfolding content
    content-held t e q k h = go (eqb t 0xC001) (eqb t 0xC002) refl refl k h
      where
        known : (v : ℕ) → t ≡ v → Held s at v d n (block_of e) q → Held s at t d n (block_of e) q
        known v z x = subst (λ (y : ℕ). Held s at y d n (block_of e) q) (sym z) x

        go : (a b : Bool) → eqb t 0xC001 ≡ a → eqb t 0xC002 ≡ b → pick a true (pick b true (eqb t 0x0001)) ≡ true
            → pick a (rule (unless (ltb d deepest) 10) at (within group_content n s at)) (pick b (rule (unless (eqb n 0) 13) (at + 2) (rule (unless (ltb 0 d) 9) at (ok group_end_read (at + 6)))) (within colour_content n s at)) ≡ ok e q
            → Held s at t d n (block_of e) q
        go true b x y z w = known 0xC001 (eqb-true t 0xC001 x) (start-held e q w)
        go false true x y z w = known 0xC002 (eqb-true t 0xC002 y) (stop-held e q w)
        go false false x y z w = known 0x0001 (eqb-true t 0x0001 z) (colour-content-held e q w)

module _ (s : List ℕ) (bytes : Bytes s) (d at : ℕ) where
  pub block_writes : at ≤ length s → (e : Entry) (q : ℕ) → block d s at ≡ ok e q → Sound d (block_of e) × At s at (block_bytes (block_of e)) × (at + length (block_bytes (block_of e)) ≡ q)
  unfolding block_bytes
  block_writes le e q h =
      let i = block-inv s d at h in
      let x = content-held s at d (num 4 s (at + 2)) bytes i.0 (num 2 s at) e q i.1 i.2 in
      let b : Block = block_of e in
      let l : List ℕ = payload b in
      let n : ℕ = length l in
      let t : At s at (be 2 (type_of b)) = subst (λ (v : ℕ). At s at (be 2 v)) (sym x.is) (be-num s bytes 2 at (omega (arith, i.0))) in
      let c : At s (at + 2) (be 4 n) = subst (λ (v : ℕ). At s (at + 2) (be 4 v)) (sym x.sized) (be-num s bytes 4 (at + 2) (omega (arith, i.0))) in
      let small : n < 256 ^ 4 = subst (λ (v : ℕ). v < 256 ^ 4) (sym x.sized) (num-lt s bytes 4 (at + 2)) in
      let six : at + 2 + length (be 4 n) ≡ at + 6 = omega (arith, length-be 4 n) in (
        ((x.allowed, x.steps), small),
        at_next s at (be 2 (type_of b)) (be 4 n ++ l) (at + 2) (ap (λ (k : ℕ). at + k) (length-be 2 (type_of b))) t (at_next s (at + 2) (be 4 n) l (at + 6) six c x.stands),
        omega (arith, length-block b, x.end, x.sized),
      )

-- a block, where d groups stand open
pub block-exact : (s : List ℕ) → Bytes s → (d : ℕ) → Exact s (block d) block_of (Sound d) block_bytes
block-exact s bytes d = record { reads = block_reads s bytes d; writes = block_writes s bytes d }

-- ---- each moves forward, stays inside and depends only on the bytes that it passed

pub group-lawful : Lawful group_content
unfolding group_content
group-lawful = bind-lawful (name 2) _ (name-lawful 2) (λ nm. give-lawful (group_start_read nm))

pub colour-content-lawful : Lawful colour_content
unfolding colour_content
colour-content-lawful =
    bind-lawful (name 2) _ (name-lawful 2) (λ nm. bind-lawful (judged 4 model) _ (judged-lawful 4 model) (λ t.
    bind-lawful (each (channels_of t) 0 (λ i. judged 4 (channel t))) _ (each-lawful (λ i. judged 4 (channel t)) (λ i. judged-lawful 4 (channel t)) (channels_of t) 0) (λ bs.
    bind-lawful (judged 2 type) _ (judged-lawful 2 type) (λ k. give-lawful (colour_read nm t bs k)))))

module _ (s : List ℕ) (d n at : ℕ) (room : at + 6 + n ≤ length s) (e : Entry) (q : ℕ) (u : List ℕ) where
  -- it ends behind its payload, and another file that is the same there has it too
  abbrev Ends : Res Entry → Res Entry → Type 0
  Ends m k = m ≡ ok e q → (q ≡ at + 6 + n) × (Same s u at q → k ≡ ok e q)

  rule-ends : (b : Bool) (x p : ℕ) (m k : Res Entry) → Ends m k → Ends (rule (unless b x) p m) (rule (unless b x) p k)
  rule-ends b x p m k f h =
      let i = rule-inv (unless b x) p m h in
      let r = f i.1 in
      (r.0, λ same. rw i.0 (r.1 same))

  content-ends : (t : ℕ) → Ends (content t d n s at) (content t d n u at)
  unfolding content
  content-ends t = go (eqb t 0xC001) (eqb t 0xC002)
    where
      stopping : Ends (rule (unless (eqb n 0) 13) (at + 2) (rule (unless (ltb 0 d) 9) at (ok group_end_read (at + 6)))) (rule (unless (eqb n 0) 13) (at + 2) (rule (unless (ltb 0 d) 9) at (ok group_end_read (at + 6))))
      stopping h =
          let i = rule-inv (unless (eqb n 0) 13) (at + 2) (rule (unless (ltb 0 d) 9) at (ok group_end_read (at + 6))) h in
          let j = rule-inv (unless (ltb 0 d) 9) at (ok group_end_read (at + 6)) i.1 in
          let z : n ≡ 0 = eqb-true n 0 (unless-fine (eqb n 0) 13 i.0) in
          (omega (arith, ok-place j.1), λ same. h)

      go : (a b : Bool) → Ends (pick a (rule (unless (ltb d deepest) 10) at (within group_content n s at)) (pick b (rule (unless (eqb n 0) 13) (at + 2) (rule (unless (ltb 0 d) 9) at (ok group_end_read (at + 6)))) (within colour_content n s at)))
          (pick a (rule (unless (ltb d deepest) 10) at (within group_content n u at)) (pick b (rule (unless (eqb n 0) 13) (at + 2) (rule (unless (ltb 0 d) 9) at (ok group_end_read (at + 6)))) (within colour_content n u at)))
      go true b = rule-ends (ltb d deepest) 10 at (within group_content n s at) (within group_content n u at) (within-ends s n at room group_content group-lawful e q u)
      go false true = stopping
      go false false = within-ends s n at room colour_content colour-content-lawful e q u

pub block-lawful : (d : ℕ) → Lawful (block d)
block-lawful d = record {
  moves = λ s at le e q h.
      let i = block-inv s d at h in
      let r = content-ends s d (num 4 s (at + 2)) at i.0 e q s (num 2 s at) i.2 in
      (omega (arith, r.0), omega (arith, r.0, i.0));
  local = λ s at le e q h u same.
      let n : ℕ = num 4 s (at + 2) in
      let i = block-inv s d at h in
      let r = content-ends s d n at i.0 e q u (num 2 s at) i.2 in
      let x : num 2 u at ≡ num 2 s at = same-num same 2 at (omega arith) (omega (arith, r.0)) in
      let y : num 4 u (at + 2) ≡ n = same-num same 4 (at + 2) (omega arith) (omega (arith, r.0)) in
      block_in u d at (omega (arith, r.0, same.inside)) (ap is_block_type x ∙ i.1) ∙ ap₂ (λ (a b : ℕ). content a d b u at) x y ∙ r.1 same;
}
