-- What is refused in each turn of a heading and of a block: a damaged one, by its number and at its place. Assumes nothing.
use Prim.Native.Nat.{ℕ, ◌+◌, ◌*◌, ◌-◌, ◌^◌, ◌≤◌, ◌<◌}
use mathlib.Core.Path.{◌≡◌, refl, sym, ap, ap₂, ◌∙◌, subst}
use mathlib.Core.List.{List, ◌++◌, map, append_assoc}
use lib.ListN.{length, take, length-append}
use lib.Seq.{length-take-le}
use borrow.Author.Tests.{le-leb, lt-leb, le-ltb, lt-ltb, eq-eqb, ne_eqb}
use native.Mathlib.Omega.{arith}
use native.Mathlib.Nat.{add-zero}
use Rattle.algebra.specs.Chars.{chars}
use Rattle.algebra.specs.Numbers.{be, joined, At, Bytes, All}
use Rattle.algebra.specs.Reader.{Res, ok, refuse, Reader, then, field, fine, judged, each, state_after, chain}
use Rattle.algebra.specs.Text.{Name, name, name_bytes, Named}
use Rattle.algebra.specs.Algebra.{Exact}
use Rattle.algebra.proofs.Cuts.{bytes_take}
use Rattle.algebra.proofs.Places.{length-be, length-bes, at_in, at_left, at_after}
use Rattle.algebra.proofs.Exact.{length-nameBytes, map-id, judged-exact, each-exact, name-exact}
use Rattle.algebra.proofs.Laws.{ended-left}
use Rattle.algebra.proofs.Stops.{each-stops}
use Rattle.algebra.proofs.Tails.{Tail, tail-left, tail-after, field-there, field_cut, judged-there, judged-wrong, judged-cut, name_cut, name-none, name-units-cut, name-open}
use Rattle.colour.specs.Models.{channels_of}
use Rattle.ase.specs.Grammar.{colour, payload, Known, starts, stops, colours, Unknown, Model, Channel}
use Rattle.ase.specs.Reading.{Entry, colour_read, group_content, model, channel, type, colour_content, inside, within, content, block, open_after_entry, fixed_number, heading, blocks, palette}
use Rattle.ase.specs.Damaged.{DamagedHeading, signature_cut, wrong_signature, major_cut, wrong_major, minor_cut, wrong_minor, blocks_cut, DamagedName, count_cut, no-units, units_cut, unclosed, DamagedGroup, group_name, group_left, Begun, DamagedColour, colour_name, model_cut, wrong_model, channel_cut, wrong_channel, type_cut, wrong_type, colour_left, model_at, channel_at, block_head, block_frame, DamagedBlock, block_cut, length_cut, unknown, payload_cut, too_deep, wrong_group, end_with_payload, end_without_group, wrong_colour}
use Rattle.ase.proofs.Answers.{length-cut-first}
use Rattle.ase.proofs.Payload.{at_cut}
use Rattle.ase.proofs.Tables.{known-type, known_small, unknown-type, model-known, model-count, model_small, unknown-model, channel-refused, channels-fine}

-- ---- the heading

module _ (s : List ℕ) where
  mark-there : (w v at : ℕ) → v < 256 ^ w → (x : List ℕ) → Tail s at (be w v ++ x) → (judged w (fixed_number v) s at ≡ ok v (at + w)) × Tail s (at + w) x
  mark-there w v at small x t = (judged-there s w at (fixed_number v) v small (rw (eq-eqb v v refl)) (tail-left s at (be w v) x t), tail-after s at (be w v) x (at + w) (ap (λ (k : ℕ). at + k) (length-be w v)) t)

  mark-wrong : (w v at u : ℕ) → u < 256 ^ w → (u ≡ v → ⊥) → (x : List ℕ) → Tail s at (be w u ++ x) → judged w (fixed_number v) s at ≡ refuse 3 at 0 0
  mark-wrong w v at u small ne x t = judged-wrong s w at (fixed_number v) 3 u small (rw (ne_eqb u v ne)) (tail-left s at (be w u) x t)

  pub heading-stops : {b : List ℕ} {z p : ℕ} → DamagedHeading b z p → Tail s 0 b → heading s 0 ≡ refuse z p 0 0
  unfolding heading
  heading-stops (signature_cut x few) t = rw (judged-cut s 4 0 (fixed_number (chars "ASEF")) few t)
  heading-stops (wrong_signature v x small ne) t = rw (mark-wrong 4 (chars "ASEF") 0 v small ne x t)
  heading-stops (major_cut x few) t = let a = mark-there 4 (chars "ASEF") 0 (omega arith) x t in rw a.0 (rw (judged-cut s 2 4 (fixed_number 1) few a.1))
  heading-stops (wrong_major v x small ne) t = let a = mark-there 4 (chars "ASEF") 0 (omega arith) _ t in rw a.0 (rw (mark-wrong 2 1 4 v small ne x a.1))
  heading-stops (minor_cut x few) t =
      let a = mark-there 4 (chars "ASEF") 0 (omega arith) _ t in
      let b = mark-there 2 1 4 (omega arith) x a.1 in
      rw a.0 (rw b.0 (rw (judged-cut s 2 6 (fixed_number 0) few b.1)))
  heading-stops (wrong_minor v x small ne) t =
      let a = mark-there 4 (chars "ASEF") 0 (omega arith) _ t in
      let b = mark-there 2 1 4 (omega arith) _ a.1 in
      rw a.0 (rw b.0 (rw (mark-wrong 2 0 6 v small ne x b.1)))
  heading-stops (blocks_cut x few) t =
      let a = mark-there 4 (chars "ASEF") 0 (omega arith) _ t in
      let b = mark-there 2 1 4 (omega arith) _ a.1 in
      let c = mark-there 2 0 6 (omega arith) x b.1 in
      rw a.0 (rw b.0 (rw c.0 (field_cut s 4 8 few c.1)))

-- ---- a payload's content

-- as many channels as the model has
pub channels-exact : (s : List ℕ) → Bytes s → (t : ℕ) → Exact s (each (channels_of t) 0 (λ i. judged 4 (channel t))) (map (λ (v : ℕ). v)) (λ bs. (length bs ≡ channels_of t) × All (λ i b. (b < 256 ^ 4) × (channel t b ≡ fine)) 0 bs) (joined (be 4))
channels-exact s bytes t = each-exact {p = λ i. judged 4 (channel t)} {Ok = λ i b. (b < 256 ^ 4) × (channel t b ≡ fine)} (λ i. judged-exact s bytes 4 (channel t)) (channels_of t) 0

-- what is read of the content of the block at `at`: a field passes the payload's end, which is told as 13 at the length, or another fault is found
data Stopped {A : Type 0} (at : ℕ) (m : Res A) : ℕ → ℕ → Type 0 where
  past : (q : ℕ) → m ≡ refuse 2 q 0 0 → Stopped at m 13 2
  wrong : (z p : ℕ) → (z ≡ 2 → ⊥) → m ≡ refuse z (at + p) 0 0 → Stopped at m z p

stopped-then : {A B : Type 0} {at z p : ℕ} (m : Res A) (k : A → ℕ → Res B) → Stopped at m z p → Stopped at (then m k) z p
stopped-then m k (past q e) = past q (rw e)
stopped-then m k (wrong z p ne e) = wrong z p ne (rw e)

stopped-after : {A B : Type 0} {at z p : ℕ} (m : Res A) (k : A → ℕ → Res B) (a : A) (q : ℕ) → m ≡ ok a q → Stopped at (k a q) z p → Stopped at (then m k) z p
stopped-after {A} {B} {at} {z} {p} m k a q e x = subst (λ (r : Res A). Stopped at (then r k) z p) (sym e) x

stopped-inside : {A : Type 0} {at z p : ℕ} (end : ℕ) (m : Res A) → Stopped at m z p → inside (at + 2) end m ≡ refuse z (at + p) 0 0
stopped-inside end m (past q e) = rw e
stopped-inside end m (wrong z p ne e) = rw e (rw (ne_eqb z 2 ne))

module _ (s : List ℕ) (bytes : Bytes s) (at : ℕ) where
  name-stops : {l : List ℕ} {z p : ℕ} → DamagedName l z p → Tail s (at + 6) l → Stopped at (name 2 s (at + 6)) z p
  name-stops (count_cut l few) t = past (at + 6) (name_cut s 2 (at + 6) few t)
  name-stops (no-units l) t = wrong 8 6 (λ z. omega arith) (name-none s 2 (at + 6) (omega arith) (tail-left s (at + 6) (be 2 0) l t))
  name-stops (units_cut n l some small few) t = past (at + 6 + 2) (name-units-cut s 2 (at + 6) n l some small (omega arith) t)
  name-stops (unclosed us l small fit o) t =
      wrong 8 6 (λ z. omega arith) (name-open s 2 (at + 6) us small fit o (at_left s (at + 6) (be 2 (length us) ++ joined (be 2) us) l (subst (λ (y : List ℕ). At s (at + 6) y) (sym (append_assoc (be 2 (length us)) (joined (be 2) us) l)) t.stands)))

  -- a name that stands there
  named-there : (us l : List ℕ) → Named 2 us → Tail s (at + 6) (name_bytes 2 us ++ l) → (nm : Name) × (name 2 s (at + 6) ≡ ok nm (at + model_at us)) × Tail s (at + model_at us) l
  named-there us l fit t =
      let x = (name-exact s 2 bytes).reads (at + 6) us fit (tail-left s (at + 6) (name_bytes 2 us) l t) in
      let e : at + 6 + length (name_bytes 2 us) ≡ at + model_at us = omega (arith, length-nameBytes 2 us) in
      (x.0, x.1 ∙ ap (λ (k : ℕ). ok x.0 k) e, tail-after s (at + 6) (name_bytes 2 us) l (at + model_at us) e t)

  -- a group start's content, where the payload ends with the file
  group-stops : {l : List ℕ} {z p : ℕ} → DamagedGroup l z p → Tail s (at + 6) l → inside (at + 2) (length s) (group_content s (at + 6)) ≡ refuse z (at + p) 0 0
  unfolding group_content
  group-stops (group_name d) t = stopped-inside (length s) _ (stopped-then (name 2 s (at + 6)) _ (name-stops d t))
  group-stops (group_left us l nm some) t =
      let x = named-there us l nm t in
      rw x.1 (rw (ne_eqb (at + model_at us) (length s) (λ z. omega (arith, x.2.ends))))

  -- an unknown model is 4, whatever follows it
  model-stops : (us : List ℕ) (t : ℕ) (l : List ℕ) → Named 2 us → t < 256 ^ 4 → ((n : ℕ) → Model t n → ⊥) → Tail s (at + 6) (name_bytes 2 us ++ (be 4 t ++ l)) → colour_content s (at + 6) ≡ refuse 4 (at + model_at us) 0 0
  unfolding colour_content
  model-stops us t l nm small none h =
      let x = named-there us (be 4 t ++ l) nm h in
      rw x.1 (rw (judged-wrong s 4 (at + model_at us) model 4 t small (rw (unknown-model t none)) (tail-left s (at + model_at us) (be 4 t) l x.2)))

  -- a model and the first channels
  model-there : (us : List ℕ) (t n : ℕ) (l : List ℕ) → Model t n → Tail s (at + model_at us) (be 4 t ++ l) → (judged 4 model s (at + model_at us) ≡ ok t (at + model_at us + 4)) × Tail s (at + model_at us + 4) l
  model-there us t n l m h =
      (judged-there s 4 (at + model_at us) model t (model_small m) (rw (model-known m)) (tail-left s (at + model_at us) (be 4 t) l h), tail-after s (at + model_at us) (be 4 t) l (at + model_at us + 4) (ap (λ (k : ℕ). at + model_at us + k) (length-be 4 t)) h)

  abbrev channels : ℕ → Reader (List ℕ)
  channels t = each (channels_of t) 0 (λ i. judged 4 (channel t))

  channels-there : (q t n : ℕ) (bs l : List ℕ) → Model t n → All (λ i b. Channel t b) 0 bs → length bs ≡ n → Tail s q (joined (be 4) bs ++ l) → (channels t s q ≡ ok bs (q + 4 * n)) × Tail s (q + 4 * n) l
  channels-there q t n bs l m fit all h =
      let x = (channels-exact s bytes t).reads q bs (all ∙ sym (model-count m), channels-fine t bs (model-known m) fit) (tail-left s q (joined (be 4) bs) l h) in
      let e : q + length (joined (be 4) bs) ≡ q + 4 * n = omega (arith, length-bes 4 bs) in
      (x.1 ∙ ap₂ (λ (v : List ℕ) (k : ℕ). ok v k) (sym (map-id x.0) ∙ x.2) e, tail-after s q (joined (be 4) bs) l (q + 4 * n) e h)

  -- after some channels, one that is refused
  channels-stop : (q t n : ℕ) (bs l : List ℕ) → Model t n → All (λ i b. Channel t b) 0 bs → length bs < n → Tail s q (joined (be 4) bs ++ l) → {x p : ℕ} → judged 4 (channel t) s (q + 4 * length bs) ≡ refuse x p 0 0 → channels t s q ≡ refuse x p 0 0
  channels-stop q t n bs l m fit few h {x} {p} e =
      let k : q + 4 * length bs ≡ q + length (joined (be 4) bs) = omega (arith, length-bes 4 bs) in
      each-stops {p = λ i. judged 4 (channel t)} {Ok = λ i b. (b < 256 ^ 4) × (channel t b ≡ fine)} (λ i. judged-exact s bytes 4 (channel t)) (channels_of t) 0 q bs (omega (arith, model-count m)) (channels-fine t bs (model-known m) fit) (tail-left s q (joined (be 4) bs) l h)
      (subst (λ (r : ℕ). judged 4 (channel t) s r ≡ refuse x p 0 0) k e)

  refused-at : {A : Type 0} (us : List ℕ) (i : ℕ) → ◌≡◌ {A = Res A} (refuse 5 (at + model_at us + 4 + 4 * i) 0 0) (refuse 5 (at + channel_at us i) 0 0)
  refused-at us i = let e : at + model_at us + 4 + 4 * i ≡ at + channel_at us i = omega arith in ap (λ (k : ℕ). refuse 5 k 0 0) e

  behind-channels : (us bs l : List ℕ) → Tail s (at + model_at us + 4) (joined (be 4) bs ++ l) → Tail s (at + model_at us + 4 + 4 * length bs) l
  behind-channels us bs l h = tail-after s (at + model_at us + 4) (joined (be 4) bs) l (at + model_at us + 4 + 4 * length bs) (omega (arith, length-bes 4 bs)) h

  -- behind a colour's name and model
  module _ (us : List ℕ) (t n : ℕ) (bs : List ℕ) (b : Begun us t n bs) where
    -- where its channels begin
    abbrev first : ℕ
    first = at + model_at us + 4

    begun-stops : (l : List ℕ) {z p : ℕ} → Tail s (at + 6) (name_bytes 2 us ++ (be 4 t ++ (joined (be 4) bs ++ l)))
        → ((mk : List ℕ → ℕ → Entry) → Tail s first (joined (be 4) bs ++ l) → Stopped at (then (channels t s first) (λ vs q. then (judged 2 type s q) (λ k r. ok (mk vs k) r))) z p) → Stopped at (colour_content s (at + 6)) z p
    unfolding colour_content
    begun-stops l h rest =
        let x = named-there us (be 4 t ++ (joined (be 4) bs ++ l)) b.named h in
        let y = model-there us t n (joined (be 4) bs ++ l) b.model x.2 in
        stopped-after (name 2 s (at + 6)) _ x.0 (at + model_at us) x.1 (stopped-after (judged 4 model s (at + model_at us)) _ t first y.0 (rest (λ vs k. colour_read x.0 t vs k) y.1))

    -- behind all channels, a type that is refused
    type-stops : (l : List ℕ) {x p : ℕ} → length bs ≡ n → (mk : List ℕ → ℕ → Entry) → Tail s first (joined (be 4) bs ++ l) → (Tail s (first + 4 * n) l → judged 2 type s (first + 4 * n) ≡ refuse x p 0 0)
        → then (channels t s first) (λ vs q. then (judged 2 type s q) (λ k r. ok (mk vs k) r)) ≡ refuse x p 0 0
    type-stops l all mk h e = let c = channels-there first t n bs l b.model b.channels all h in rw c.0 (rw (e c.1))

  -- a colour's content, where the payload ends with the file
  colour-stops : {l : List ℕ} {z p : ℕ} → DamagedColour l z p → Tail s (at + 6) l → inside (at + 2) (length s) (colour_content s (at + 6)) ≡ refuse z (at + p) 0 0
  unfolding colour_content
  colour-stops (colour_name d) h = stopped-inside (length s) _ (stopped-then (name 2 s (at + 6)) _ (name-stops d h))
  colour-stops (model_cut us l nm few) h =
      let x = named-there us l nm h in
      rw x.1 (rw (judged-cut s 4 (at + model_at us) model few x.2))
  colour-stops (wrong_model us t l nm small none) h = rw (model-stops us t l nm small none h)
  colour-stops (channel_cut us t n bs l b less few) h =
      stopped-inside (length s) _ (begun-stops us t n bs b l h (λ mk c. past (at + model_at us + 4 + 4 * length bs) (rw (channels-stop (at + model_at us + 4) t n bs l b.model b.channels less c (judged-cut s 4 (at + model_at us + 4 + 4 * length bs) (channel t) few (behind-channels us bs l c))))))
  colour-stops (wrong_channel us t n bs v l b less small none) h =
      stopped-inside (length s) _ (begun-stops us t n bs b (be 4 v ++ l) h (λ mk c. wrong 5 (channel_at us (length bs)) (λ z. omega arith)
      (rw (channels-stop (at + model_at us + 4) t n bs (be 4 v ++ l) b.model b.channels less c (judged-wrong s 4 (at + model_at us + 4 + 4 * length bs) (channel t) 5 v small (rw (channel-refused t v small none)) (tail-left s (at + model_at us + 4 + 4 * length bs) (be 4 v) l (behind-channels us bs (be 4 v ++ l) c)))) (refused-at us (length bs)))))
  colour-stops (type_cut us t n bs l b all few) h =
      stopped-inside (length s) _ (begun-stops us t n bs b l h (λ mk c. past (at + model_at us + 4 + 4 * n) (type-stops us t n bs b l all mk c (judged-cut s 2 (at + model_at us + 4 + 4 * n) type few))))
  colour-stops (wrong_type us t n bs k l b all big small) h =
      stopped-inside (length s) _ (begun-stops us t n bs b (be 2 k ++ l) h (λ mk c. wrong 5 (channel_at us n) (λ z. omega arith)
      (type-stops us t n bs b (be 2 k ++ l) all mk c (λ e. judged-wrong s 2 (at + model_at us + 4 + 4 * n) type 5 k small (rw (lt-leb k 2 big)) (tail-left s (at + model_at us + 4 + 4 * n) (be 2 k) l e)) ∙ refused-at us n)))
  colour-stops (colour_left us t bs k l fit some) h =
      let c : List ℕ = joined (be 4) bs in
      let n : ℕ = fit.count in
      let e : payload (colour us t bs k) ++ l ≡ name_bytes 2 us ++ (be 4 t ++ (c ++ (be 2 k ++ l))) = simp append_assoc in
      let x = named-there us (be 4 t ++ (c ++ (be 2 k ++ l))) fit.name (subst (λ (y : List ℕ). Tail s (at + 6) y) e h) in
      let y = model-there us t n (c ++ (be 2 k ++ l)) fit.model x.2 in
      let v = channels-there (at + model_at us + 4) t n bs (be 2 k ++ l) fit.model fit.channels fit.all y.1 in
      let q : ℕ = at + model_at us + 4 + 4 * n in
      let w : judged 2 type s q ≡ ok k (q + 2) = judged-there s 2 q type k (omega (arith, fit.type)) (rw (le-leb k 2 fit.type)) (tail-left s q (be 2 k) l v.1) in
      let r : Tail s (q + 2) l = tail-after s q (be 2 k) l (q + 2) (ap (λ (z : ℕ). q + z) (length-be 2 k)) v.1 in
      rw x.1 (rw y.0 (rw v.0 (rw w (rw (ne_eqb (q + 2) (length s) (λ z. omega (arith, r.ends)))))))

-- ---- a block, where d groups stand open

module _ (s : List ℕ) (bytes : Bytes s) (d at : ℕ) where
  -- a type and a length that stand there
  framed-there : (t m : ℕ) (x : List ℕ) → t < 256 ^ 2 → m < 256 ^ 4 → At s at (block_head t m x) → (field 2 s at ≡ ok t (at + 2)) × (field 4 s (at + 2) ≡ ok m (at + 6))
  framed-there t m x small few h =
      let r : At s (at + 2) (be 4 m ++ x) = at_after s at (be 2 t) (be 4 m ++ x) (at + 2) (ap (λ (k : ℕ). at + k) (length-be 2 t)) h in
      let e : at + 2 + 4 ≡ at + 6 = omega arith in
      (field-there s 2 at t small (at_left s at (be 2 t) (be 4 m ++ x) h), field-there s 4 (at + 2) m few (at_left s (at + 2) (be 4 m) x r) ∙ ap (λ (k : ℕ). ok m k) e)

  framed-rest : (t m : ℕ) (x : List ℕ) → Tail s at (block_head t m x) → Tail s (at + 6) x
  framed-rest t m x h =
      let e : at + length (be 2 t ++ be 4 m) ≡ at + 6 = omega (arith, length-append (be 2 t) (be 4 m), length-be 2 t, length-be 4 m) in
      tail-after s at (be 2 t ++ be 4 m) x (at + 6) e (subst (λ (y : List ℕ). Tail s at y) (sym (append_assoc (be 2 t) (be 4 m) x)) h)

  -- its payload stands there: its content is read
  pub loaded-there : (t : ℕ) (l x : List ℕ) → Known t → length s ≤ 16777216 → Tail s at (block_frame t l x) → (block d s at ≡ content t d (length l) s at) × At s (at + 6) l
  unfolding block
  loaded-there t l x known short h =
      let few : length l < 256 ^ 4 = omega (arith, h.ends, length-append (be 2 t) (be 4 (length l) ++ (l ++ x)), length-append (be 4 (length l)) (l ++ x), length-append l x) in
      let f = framed-there t (length l) (l ++ x) (known_small known) few h.stands in
      let r : Tail s (at + 6) (l ++ x) = framed-rest t (length l) (l ++ x) h in
      let k : length l ≤ length s - (at + 6) = omega (arith, r.ends, length-append l x) in
      (rw f.0 (rw f.1 (rw (known-type known) (rw (le-leb (length l) (length s - (at + 6)) k)))), tail-left s (at + 6) l x r)

  -- the file up to the payload's end
  payload-tail : (l : List ℕ) → At s (at + 6) l → Tail (take (at + 6 + length l) s) (at + 6) l
  payload-tail l h =
      let room : at + 6 + length l ≤ length s = at_in s (at + 6) l h in
      record { stands = at_cut s (at + 6 + length l) room (at + 6) l (omega arith) h; ends = length-take-le (at + 6 + length l) s room }

  within-stops : {A : Type 0} {z p : ℕ} (r : Reader A) (l : List ℕ) → At s (at + 6) l → inside (at + 2) (length (take (at + 6 + length l) s)) (r (take (at + 6 + length l) s) (at + 6)) ≡ refuse z p 0 0
      → within r (length l) s at ≡ refuse z p 0 0
  within-stops {A} {z} {p} r l h e = subst (λ (k : ℕ). inside (at + 2) k (r (take (at + 6 + length l) s) (at + 6)) ≡ refuse z p 0 0) (payload-tail l h).ends e

  -- an unknown type is 4 at the block, whatever follows its length
  pub unknown-stops : (t m : ℕ) (x : List ℕ) → Unknown t → m < 256 ^ 4 → At s at (block_head t m x) → block d s at ≡ refuse 4 at 0 0
  unfolding block
  unknown-stops t m x u few h = let f = framed-there t m x u.small few h in rw f.0 (rw f.1 (rw (unknown-type t u)))

  -- a fault at the block itself
  here : {A : Type 0} (z : ℕ) → ◌≡◌ {A = Res A} (refuse z at 0 0) (refuse z (at + 0) 0 0)
  here z = ap (λ (k : ℕ). refuse z k 0 0) (sym (add-zero at))

  pub block-stops : {x : List ℕ} {z p : ℕ} → length s ≤ 16777216 → DamagedBlock d x z p → Tail s at x → block d s at ≡ refuse z (at + p) 0 0
  unfolding block content
  block-stops short (block_cut x few) h = rw (field_cut s 2 at few h) (here 2)
  block-stops short (length_cut t x small few) h = length-cut-first s d at t x small few h
  block-stops short (unknown t m x u few) h = unknown-stops t m x u few h.stands ∙ here 4
  block-stops short (payload_cut t m x known few less) h =
      let f = framed-there t m x (known_small known) few h.stands in
      rw f.0 (rw f.1 (rw (known-type known) (rw (lt-leb m (length s - (at + 6)) (omega (arith, (framed-rest t m x h).ends))))))
  block-stops short (too_deep l x many) h = let f = loaded-there 0xC001 l x starts short h in f.0 ∙ rw (le-ltb d 16 (omega arith)) (here 10)
  block-stops short (wrong_group l x z p less g) h =
      let f = loaded-there 0xC001 l x starts short h in
      f.0 ∙ rw (lt-ltb d 16 less) (within-stops group_content l f.1 (group-stops (take (at + 6 + length l) s) (bytes_take (at + 6 + length l) s bytes) at g (payload-tail l f.1)))
  block-stops short (end_with_payload l x some) h = let f = loaded-there 0xC002 l x stops short h in f.0 ∙ rw (ne_eqb (length l) 0 (λ z. omega arith))
  block-stops short (end_without_group x none) h =
      let f = framed-there 0xC002 0 x (omega arith) (omega arith) h.stands in
      rw f.0 (rw f.1 (rw (le-leb 0 (length s - (at + 6)) (omega arith)) (rw (le-ltb 0 d (omega arith)) (here 9))))
  block-stops short (wrong_colour l x z p g) h =
      let f = loaded-there 0x0001 l x colours short h in
      f.0 ∙ within-stops colour_content l f.1 (colour-stops (take (at + 6 + length l) s) (bytes_take (at + 6 + length l) s bytes) at g (payload-tail l f.1))

-- ---- behind the last block

module _ (s : List ℕ) (n p : ℕ) (head : heading s 0 ≡ ok n p) (es : List Entry) (q : ℕ) (all : chain open_after_entry block n 0 s p ≡ ok es q) where
  -- a group that is left open is 9, whatever follows
  pub open-stops : 0 < state_after open_after_entry 0 es → palette s 0 ≡ refuse 9 q 0 0
  unfolding palette blocks
  open-stops some = rw head (rw all (rw (ne_eqb (state_after open_after_entry 0 es) 0 (λ z. omega arith))))

  -- bytes left are 6
  pub over-stops : state_after open_after_entry 0 es ≡ 0 → q < length s → palette s 0 ≡ refuse 6 q 0 0
  unfolding palette blocks
  over-stops none more = rw head (rw all (rw (eq-eqb (state_after open_after_entry 0 es) 0 none) (ended-left es s q more)))
