-- Of blocks that were written, the reader's number is their own first fault. Assumes nothing.
use Prim.Native.Nat.{ℕ, ◌+◌, ◌-◌, ◌^◌, ◌≤◌, ◌<◌}
use mathlib.Core.Path.{◌≡◌, refl, sym, ap, ap₂, ◌∙◌, subst}
use mathlib.Core.List.{List, [], ◌∷◌, ◌++◌, map}
use mathlib.Core.Bool.{Bool, true, false}
use lib.Dec.{leb, ltb, eqb}
use lib.ListN.{length, length-append, take}
use borrow.Author.Tests.{eq-eqb, ne_eqb, le-leb, lt-leb}
use native.Mathlib.Omega.{arith}
use native.Mathlib.Decide.{ℕ_discrete}
use native.Mathlib.Nat.{add-zero}
use Rattle.algebra.specs.Numbers.{be, joined, At, Bytes, All, AllIn}
use Rattle.algebra.specs.Reader.{Res, ok, refuse, then, pick, rule, unless, judged, each, number_of, state_after, chain, ended}
use Rattle.algebra.specs.Text.{any_zero, name, name_bytes}
use Rattle.algebra.specs.Faults.{first_of, faults_from, faults_in}
use Rattle.algebra.specs.Algebra.{Tells}
use Rattle.algebra.proofs.Places.{at_in, at_left, at_right, at_after}
use Rattle.algebra.proofs.Inverse.{ok-value, ok-place}
use Rattle.algebra.proofs.Tells.{Outcome, good, bad, outcome-fault, outcome-then, outcome-rule, tells, outcome, Gives, unless-tells, unless-found, unless-sure, judged-gives, each_tells, each-gives, name-tells, first-zero, first_some}
use Rattle.algebra.proofs.Chain.{state-map, all_in, chain-tells, chain-gives}
use Rattle.colour.specs.Models.{is_model, channels_of}
use Rattle.colour.specs.Channels.{allows_bits}
use Rattle.ase.specs.Grammar.{Block, group_start, group_end, colour, other, type_of, payload, block_bytes}
use Rattle.ase.specs.Reading.{Entry, group_start_read, group_end_read, colour_read, block_of, group_content, model, channel, type, colour_content, inside, within, content, block, open_after, open_after_entry, heading, blocks, palette}
use Rattle.ase.specs.Faults.{name_fault, channel_fault, type_fault, colour_fault, block_fault, blocks_fault, palette_fault, NameFits, ColourFits, BlockFits}
use Rattle.ase.proofs.Payload.{at_cut, inside-ok}
use Rattle.ase.proofs.Turns.{unknown-stops}
use Rattle.ase.proofs.Laws.{Typed, length-block, block-passes, block_reads}
use Rattle.ase.proofs.Blocks.{head_bytes, length-head, heading-exact}
use Rattle.ase.proofs.Faultless.{block-sound}

-- ---- a payload's content

module _ (s : List ℕ) where
  name-outcome : (at : ℕ) (us : List ℕ) → NameFits us → At s at (name_bytes 2 us) → Outcome (name 2 s at) (name_fault 0 us) (at + length (name_bytes 2 us))
  name-outcome at us f h = outcome (name-tells s 2) at us (f.counted, f.units) h

  pub group-outcome : (at : ℕ) (us : List ℕ) → NameFits us → At s at (name_bytes 2 us) → Outcome (group_content s at) (name_fault 0 us) (at + length (name_bytes 2 us))
  unfolding group_content
  group-outcome at us f h =
      let end : ℕ = at + length (name_bytes 2 us) in
      outcome-fault _ _ _ end (first-zero (name_fault 0 us)) (outcome-then (name 2 s at) (λ nm q. ok (group_start_read nm) q) (name_fault 0 us) 0 end end (name-outcome at us f h) (λ nm e. good (group_start_read nm) refl refl))

  channels-tells : (t : ℕ) → Tells s (each (channels_of t) 0 (λ i. judged 4 (channel t))) (λ bs. (length bs ≡ channels_of t) × All (λ i b. b < 256 ^ 4) 0 bs) (joined (be 4)) (faults_from (λ i. channel_fault t) 0)
  channels-tells t = each_tells {p = λ i. judged 4 (channel t)} {Fits = λ i b. b < 256 ^ 4} {f = λ i. channel_fault t} (λ i. unless-tells s 4 (allows_bits t) 5 (omega arith)) (channels_of t) 0

  channels-gives : (t : ℕ) → Gives s (each (channels_of t) 0 (λ i. judged 4 (channel t))) (map (λ (v : ℕ). v)) (λ bs. (length bs ≡ channels_of t) × All (λ i b. b < 256 ^ 4) 0 bs) (joined (be 4))
  channels-gives t = each-gives {p = λ i. judged 4 (channel t)} {Fits = λ i b. b < 256 ^ 4} (λ i. judged-gives s 4 (channel t)) (channels_of t) 0

  module _ (us : List ℕ) (t : ℕ) (bs : List ℕ) (k : ℕ) (f : ColourFits us t bs k) where
    -- what the reader refuses is no ink, since process and not stated are left out
    typed : leb k 2 ≡ leb k 4
    typed = elim (ℕ_discrete (k - 2) 0) [
      | yes z ↦ le-leb k 2 (omega arith) ∙ sym (le-leb k 4 (omega arith))
      | no z ↦ lt-leb k 2 (omega arith) ∙ sym (lt-leb k 4 (omega (arith, f.no_process, f.no_unstated)))
    ]

    -- the type, and the colour that is given
    type-outcome : (mk : ℕ → Entry) (at : ℕ) → At s at (be 2 k) → Outcome (then (judged 2 type s at) (λ v q. ok (mk v) q)) (type_fault k) (at + length (be 2 k))
    type-outcome mk at h =
        let end : ℕ = at + length (be 2 k) in
        subst (λ (b : Bool). Outcome (then (judged 2 type s at) (λ v q. ok (mk v) q)) (pick b 0 5) end) typed
        (outcome-fault _ _ _ end (first-zero (pick (leb k 2) 0 5))
        (outcome-then (judged 2 type s at) (λ v q. ok (mk v) q) (pick (leb k 2) 0 5) 0 end end (outcome (unless-tells s 2 (λ v. leb v 2) 5 (omega arith)) at k f.type h) (λ v e. good (mk v) refl refl)))

    -- the channels before it
    channels-outcome : (mk : List ℕ → ℕ → Entry) (at : ℕ) → At s at (joined (be 4) bs ++ be 2 k)
        → Outcome (then (each (channels_of t) 0 (λ i. judged 4 (channel t)) s at) (λ vs q. then (judged 2 type s q) (λ v r. ok (mk vs v) r))) (first_of (faults_from (λ i. channel_fault t) 0 bs) (type_fault k)) (at + length (joined (be 4) bs ++ be 2 k))
    channels-outcome mk at h =
        let c : List ℕ = joined (be 4) bs in
        let mid : ℕ = at + length c in
        let l : mid + length (be 2 k) ≡ at + length (c ++ be 2 k) = omega (arith, length-append c (be 2 k)) in
        let g : ℕ = type_fault k in
        outcome-then (each (channels_of t) 0 (λ i. judged 4 (channel t)) s at) (λ vs q. then (judged 2 type s q) (λ v r. ok (mk vs v) r)) (faults_from (λ i. channel_fault t) 0 bs) g mid (at + length (c ++ be 2 k))
        (outcome (channels-tells t) at bs (f.all, f.channels) (at_left s at c (be 2 k) h))
        (λ vs e. subst (λ (z : ℕ). Outcome (then (judged 2 type s mid) (λ v r. ok (mk vs v) r)) g z) l (type-outcome (mk vs) mid (at_right s at c (be 2 k) h)))

    -- the model before them
    model-outcome : (mk : ℕ → List ℕ → ℕ → Entry) (at : ℕ) → At s at (be 4 t ++ (joined (be 4) bs ++ be 2 k))
        → Outcome (then (judged 4 model s at) (λ x p. then (each (channels_of x) 0 (λ i. judged 4 (channel x)) s p) (λ vs q. then (judged 2 type s q) (λ v r. ok (mk x vs v) r))))
        (colour_fault t bs k) (at + length (be 4 t ++ (joined (be 4) bs ++ be 2 k)))
    unfolding colour_fault
    model-outcome mk at h =
        let c : List ℕ = joined (be 4) bs ++ be 2 k in
        let mid : ℕ = at + length (be 4 t) in
        let end : ℕ = at + length (be 4 t ++ c) in
        let l : mid + length c ≡ end = omega (arith, length-append (be 4 t) c) in
        let g : ℕ = first_of (faults_from (λ i. channel_fault t) 0 bs) (type_fault k) in
        let h1 = at_left s at (be 4 t) c h in
        outcome-then (judged 4 model s at) (λ x p. then (each (channels_of x) 0 (λ i. judged 4 (channel x)) s p) (λ vs q. then (judged 2 type s q) (λ v r. ok (mk x vs v) r))) (pick (is_model t) 0 4) g mid end
        (outcome (unless-tells s 4 is_model 4 (omega arith)) at t f.model h1)
        (λ x e.
        let same : t ≡ x = sym ((judged-gives s 4 model).gives at t f.model h1 x mid e).0 in
        subst (λ (x : ℕ). Outcome (then (each (channels_of x) 0 (λ i. judged 4 (channel x)) s mid) (λ vs q. then (judged 2 type s q) (λ v r. ok (mk x vs v) r))) g end) same
        (subst (λ (z : ℕ). Outcome (then (each (channels_of t) 0 (λ i. judged 4 (channel t)) s mid) (λ vs q. then (judged 2 type s q) (λ v r. ok (mk t vs v) r))) g z) l (channels-outcome (mk t) mid (at_right s at (be 4 t) c h))))

    pub colour-content-outcome : (at : ℕ) → At s at (payload (colour us t bs k)) → Outcome (colour_content s at) (first_of (name_fault 0 us) (colour_fault t bs k)) (at + length (payload (colour us t bs k)))
    unfolding colour_content
    colour-content-outcome at h =
        let n : List ℕ = name_bytes 2 us in
        let c : List ℕ = be 4 t ++ (joined (be 4) bs ++ be 2 k) in
        let mid : ℕ = at + length n in
        let end : ℕ = at + length (n ++ c) in
        let l : mid + length c ≡ end = omega (arith, length-append n c) in
        let g : ℕ = colour_fault t bs k in
        outcome-then (name 2 s at) (λ nm o. then (judged 4 model s o) (λ x p. then (each (channels_of x) 0 (λ i. judged 4 (channel x)) s p) (λ vs q. then (judged 2 type s q) (λ v r. ok (colour_read nm x vs v) r)))) (name_fault 0 us) g mid end
        (name-outcome at us f.name (at_left s at n c h))
        (λ nm e. subst (λ (z : ℕ). Outcome (then (judged 4 model s mid) (λ x p. then (each (channels_of x) 0 (λ i. judged 4 (channel x)) s p) (λ vs q. then (judged 2 type s q) (λ v r. ok (colour_read nm x vs v) r)))) g z) l
        (model-outcome (colour_read nm) mid (at_right s at n c h)))

-- ---- no fault of a payload's content is 2, which would be told as 13

-- a fault inside is the fault, save that a field past the end is 13
inside-outcome : {A : Type 0} (p end : ℕ) (m : Res A) (f : ℕ) → (f ≡ 2 → ⊥) → Outcome m f end → Outcome (inside p end m) f end
inside-outcome p end m f ne (good a e z) = good a (inside-ok p end m e) z
inside-outcome p end m f ne (bad q r g e h) = bad q r g (rw e (simp (ne_eqb f 2 ne))) h

pick_other : (b : Bool) (x y : ℕ) → (x ≡ 2 → ⊥) → (y ≡ 2 → ⊥) → pick b x y ≡ 2 → ⊥
pick_other true x y h g e = h e
pick_other false x y h g e = g e

first-other : (a b : ℕ) → (a ≡ 2 → ⊥) → (b ≡ 2 → ⊥) → first_of a b ≡ 2 → ⊥
first-other a b h g e = pick_other (eqb a 0) b a g h e

channels-other : (t i : ℕ) (bs : List ℕ) → faults_from (λ i. channel_fault t) i bs ≡ 2 → ⊥
unfolding faults_from
channels-other t i [] e = omega arith
channels-other t i (b ∷ bs) e = first-other (channel_fault t b) (faults_from (λ i. channel_fault t) (i + 1) bs) (pick_other (allows_bits t b) 0 5 (λ z. omega arith) (λ z. omega arith)) (channels-other t (i + 1) bs) e

name-other : (us : List ℕ) → name_fault 0 us ≡ 2 → ⊥
name-other us e = pick_other (any_zero us) 8 0 (λ z. omega arith) (λ z. omega arith) e

colour-content-other : (t : ℕ) (bs : List ℕ) (k : ℕ) → colour_fault t bs k ≡ 2 → ⊥
unfolding colour_fault
colour-content-other t bs k e =
    first-other (pick (is_model t) 0 4) (first_of (faults_from (λ i. channel_fault t) 0 bs) (type_fault k)) (pick_other (is_model t) 0 4 (λ z. omega arith) (λ z. omega arith))
    (first-other (faults_from (λ i. channel_fault t) 0 bs) (type_fault k) (channels-other t 0 bs) (pick_other (leb k 4) 0 5 (λ z. omega arith) (λ z. omega arith))) e

-- ---- a block, where d groups stand open

-- a test before what is read
unless-outcome : {A : Type 0} (b : Bool) (n at : ℕ) → 0 < n → (m : Res A) (f end : ℕ) → Outcome m f end → Outcome (rule (unless b n) at m) (first_of (pick b 0 n) f) end
unless-outcome true n at h m f end o = o
unless-outcome {A} false n at h m f end o = subst (λ (x : ℕ). Outcome {A = A} (refuse n at 0 0) x end) (sym (first_some n f h)) (bad at 0 0 refl h)

module _ (s : List ℕ) (d at : ℕ) where
  content-outcome : (b : Block) → Typed b → BlockFits b → At s (at + 6) (payload b) → Outcome (content (type_of b) d (length (payload b)) s at) (block_fault 0 d b) (at + 6 + length (payload b))
  unfolding content block_fault
  content-outcome (other t) known f h = absurd known
  content-outcome (group_start us) known f h =
      let l : List ℕ = name_bytes 2 us in
      let end : ℕ = at + 6 + length l in
      let room : end ≤ length s = at_in s (at + 6) l h in
      unless-outcome (ltb d 16) 10 at (omega arith) (within group_content (length l) s at) (name_fault 0 us) end
      (inside-outcome (at + 2) end (group_content (take end s) (at + 6)) (name_fault 0 us) (name-other us) (group-outcome (take end s) (at + 6) us f (at_cut s end room (at + 6) l (omega arith) h)))
  content-outcome group_end known f h =
      outcome-fault _ _ _ (at + 6 + 0) (first-zero (pick (ltb 0 d) 0 9)) (unless-outcome (ltb 0 d) 9 at (omega arith) (ok group_end_read (at + 6)) 0 (at + 6 + 0) (good group_end_read (ap (λ (k : ℕ). ok group_end_read k) (sym (add-zero (at + 6)))) refl))
  content-outcome (colour us t bs k) known f h =
      let l : List ℕ = payload (colour us t bs k) in
      let end : ℕ = at + 6 + length l in
      let room : end ≤ length s = at_in s (at + 6) l h in
      inside-outcome (at + 2) end (colour_content (take end s) (at + 6)) (first_of (name_fault 0 us) (colour_fault t bs k)) (first-other (name_fault 0 us) (colour_fault t bs k) (name-other us) (colour-content-other t bs k)) (colour-content-outcome (take end s) us t bs k f (at + 6) (at_cut s end room (at + 6) l (omega arith) h))

-- a block that fits its fields, its payload's length too
abbrev pub Fitting : Block → Type 0
Fitting b = BlockFits b × (length (payload b) < 256 ^ 4)

module _ (s : List ℕ) (bytes : Bytes s) where
  known-outcome : (d at : ℕ) (b : Block) → Typed b → Fitting b → At s at (block_bytes b) → Outcome (block d s at) (block_fault 0 d b) (at + length (block_bytes b))
  known-outcome d at b known fit h =
      let x = block-passes s d at b known fit.1 h in
      let l : at + 6 + length (payload b) ≡ at + length (block_bytes b) = omega (arith, length-block b) in
      rw x.0 (subst (λ (z : ℕ). Outcome (content (type_of b) d (length (payload b)) s at) (block_fault 0 d b) z) l (content-outcome s d at b known fit.0 x.1))

  block-outcome : (d at : ℕ) (b : Block) → Fitting b → At s at (block_bytes b) → Outcome (block d s at) (block_fault 0 d b) (at + length (block_bytes b))
  unfolding block_fault block_bytes
  block-outcome d at (group_start us) fit h = known-outcome d at (group_start us) tt fit h
  block-outcome d at group_end fit h = known-outcome d at group_end tt fit h
  block-outcome d at (colour us t bs k) fit h = known-outcome d at (colour us t bs k) tt fit h
  block-outcome d at (other t) fit h = bad at 0 0 (unknown-stops s bytes d at t 0 [] fit.0 (omega arith) h) (omega arith)

  pub block-tells : (d : ℕ) → Tells s (block d) Fitting block_bytes (block_fault 0 d)
  block-tells d = tells (block-outcome d)

  -- what is accepted has no fault, so that it is allowed and read as it was written
  pub block-gives : (d : ℕ) → Gives s (block d) block_of Fitting block_bytes
  block-gives d = record {
    gives = λ at b fit h a q e.
        let none : block_fault 0 d b ≡ 0 = sym ((block-tells d).number at b fit h) ∙ ap number_of e in
        let r = block_reads s bytes d at b (block-sound d b fit.0 none, fit.1) h in
        let same = sym r.1 ∙ e in
        (ap block_of (sym (ok-value same)) ∙ r.2, ok-place same);
  }

-- ---- a whole file

module _ (s : List ℕ) (bytes : Bytes s) (bs : List Block) (few : length bs < 256 ^ 4) (fits : All (λ i b. Fitting b) 0 bs) where
  fitting : AllIn open_after (λ d b. Fitting b) 0 bs
  fitting = all_in open_after Fitting 0 0 bs fits

  chain-outcome : (at : ℕ) → At s at (joined block_bytes bs) → Outcome (chain open_after_entry block (length bs) 0 s at) (faults_in open_after (block_fault 0) 0 bs) (at + length (joined block_bytes bs))
  chain-outcome at h = outcome (chain-tells open_after_entry open_after block_of (λ d e. refl) {p = block} {Fits = λ d b. Fitting b} (block-gives s bytes) {f = block_fault 0} (block-tells s bytes) (length bs) 0) at bs (refl, fitting) h

  blocks-outcome : (at : ℕ) → At s at (joined block_bytes bs) → Outcome (blocks (length bs) s at) (palette_fault bs) (at + length (joined block_bytes bs))
  unfolding blocks blocks_fault
  blocks-outcome at h =
      let end : ℕ = at + length (joined block_bytes bs) in
      let st : ℕ = state_after open_after 0 bs in
      outcome-then (chain open_after_entry block (length bs) 0 s at) (λ es q. rule (unless (eqb (state_after open_after_entry 0 es) 0) 9) q (ok es q)) (faults_in open_after (block_fault 0) 0 bs) (pick (eqb st 0) 0 9) end end (chain-outcome at h) (λ es e.
      let g = (chain-gives open_after_entry open_after block_of (λ d e. refl) {p = block} {Fits = λ d b. Fitting b} (block-gives s bytes) (length bs) 0).gives at bs (refl, fitting) h es end e in
      let same : state_after open_after_entry 0 es ≡ st = state-map open_after_entry open_after block_of (λ d e. refl) 0 es ∙ ap (state_after open_after 0) g.0 in
      rw same (outcome-fault _ _ _ end (unless-found (eqb st 0) 9) (outcome-rule (unless (eqb st 0) 9) end es end (unless-sure (eqb st 0) 9 (omega arith)))))

  -- the first fault is the blocks' in their order, then the groups left open
  pub palette-outcome : At s 0 (head_bytes (length bs) ++ joined block_bytes bs) → 12 + length (joined block_bytes bs) ≡ length s → Outcome (palette s 0) (palette_fault bs) (length s)
  unfolding palette ended
  palette-outcome h len =
      let n : ℕ = length bs in
      let l : List ℕ = joined block_bytes bs in
      let x = (heading-exact s bytes).reads 0 n few (at_left s 0 (head_bytes n) l h) in
      let twelve : 0 + length (head_bytes n) ≡ 12 = omega (arith, length-head n) in
      let hd : heading s 0 ≡ ok n 12 = x.1 ∙ ap₂ (λ (a b : ℕ). ok a b) x.2 twelve in
      let y = subst (λ (z : ℕ). Outcome (blocks n s 12) (palette_fault bs) z) len (blocks-outcome 12 (at_after s 0 (head_bytes n) l 12 twelve h)) in
      rw hd (outcome-fault _ _ _ (length s) (first-zero (palette_fault bs)) (outcome-then (blocks n s 12) _ (palette_fault bs) 0 (length s) (length s) y (λ es e. rw (eq-eqb (length s) (length s) refl) (good es refl refl))))
