-- Which way the readers of Reading go, on plain values. Assumes nothing.
use Prim.Native.Nat.{ℕ, zero, suc, ◌+◌, ◌-◌, ◌≤◌, ◌<◌}
use mathlib.Core.Path.{◌≡◌, refl, sym, ap, ap₂, ◌∙◌, subst}
use mathlib.Core.List.{List, ◌∷◌}
use mathlib.Core.Bool.{Bool, true, false}
use lib.ListN.{length, take}
use lib.Dec.{leb, ltb, eqb}
use borrow.Author.Tests.{le-leb, lt-leb, lt-ltb, le-ltb, eq-eqb, ne_eqb, eqb-true, eqb-false}
use native.Mathlib.Omega.{arith}
use native.Mathlib.Nat.{zero-add, add_assoc}
use Rattle.algebra.specs.Chars.{chars}
use Rattle.algebra.specs.Reader.{Res, ok, refuse, Reader, then, pick, rule, field, done, map_res, each, state_after, chain, ended, Judged, judged, unless, limit}
use Rattle.algebra.specs.Text.{Name, name, place}
use Rattle.algebra.proofs.Laws.{field_next, judged-short, judged-bad, judged-ok, then_ok}
use Rattle.algebra.proofs.Texts.{done-place}
use Rattle.algebra.proofs.Inverse.{then-inv, ok-value, clash}
use Rattle.colour.specs.Models.{traits_of, model_of, channels_of}
use Rattle.colour.proofs.Models.{tag-known, tag-channels, model-bad, model-good}
use Rattle.colour.specs.declared.model.Model.{Model}
use Rattle.colour.specs.declared.model.Traits.{Traits}
use Rattle.colour.specs.declared.model.Model.TheVariants as vm
use Rattle.colour.specs.Channels.{wide, allows_bits}
use Rattle.std.specs.Prelude.{Result, Some, None}
use Rattle.ase.specs.Reading.{Entry, group_start_read, group_end_read, colour_read, group_content, model, channel, type, colour_content, inside, deepest, is_block_type, content, block, open_after_entry, fixed_number, heading, blocks, palette, ase}
use Rattle.ase_judge.specs.scaffold.Parts.{channel_in, after_name, group_start_of, group_end_of, colour_of, whole}
use Rattle.std.specs.Result.{IsErrAnd}
use Rattle.std.proofs.lemmas.Result.{err_from_is_err_and}
use Rattle.fault.specs.Fault.{number_of}
use Rattle.fault.specs.declared.Refusal.{Refusal}
use Rattle.ase_judge.specs.declared.Counts.{Counts}
use Rattle.ase_judge.specs.Answer.{colour_in, colours, passed, report, told}
use Rattle.ase_judge.specs.scaffold.Answer.{tally}
use Rattle.algebra.specs.Table.{Verdict, accepted, refused, verdict}

-- what is told of a file where a `?` hands a refusal on
pub verdict-exit : (r : Result Counts Refusal) (e : Refusal) {m : Verdict (ℕ × ℕ)} → IsErrAnd r (λ y. y ≡ e) → refused (number_of e.0) e.1 0 0 ≡ m → told r ≡ m
verdict-exit r e h rest = let p = err_from_is_err_and r h in rw (p.1, p.2) rest

-- ---- answers with their value changed

pub map-inv : {A B : Type 0} (f : A → B) (m : Res A) {b : B} {q : ℕ} → map_res f m ≡ ok b q → (a : A) × (m ≡ ok a q) × (f a ≡ b)
map-inv f (ok a n) e = (a, ap (λ (m : Res _). put a m) e, ok-value e)
  where
    put : {A B : Type 0} → A → Res B → Res A
    put a (ok b n) = ok a n
    put a (refuse x p r g) = refuse x p r g
map-inv f (refuse x p r g) e = clash e

pub map-refuse : {A B : Type 0} (f : A → B) (m : Res A) {x p r g : ℕ} → map_res f m ≡ refuse x p r g → m ≡ refuse x p r g
map-refuse f (ok a n) e = clash (sym e)
map-refuse f (refuse y q s h) e = ap back e
  where
    back : {A B : Type 0} → Res B → Res A
    back (ok b n) = refuse 0 n 0 0
    back (refuse x p r g) = refuse x p r g

-- ---- what was read in a payload

module _ {A : Type 0} (p end : ℕ) where
  pub inside-ok : (a : A) (q : ℕ) → q ≡ end → ok a q ≡ inside p end (ok a q)
  inside-ok a q e = sym (ap (λ (b : Bool). pick b (ok a q) (refuse 13 p 0 0)) (eq-eqb q end e))

  pub inside-left : (a : A) (q : ℕ) → (q ≡ end → ⊥) → refuse 13 p 0 0 ≡ inside p end (ok a q)
  inside-left a q e = sym (ap (λ (b : Bool). pick b (ok a q) (refuse 13 p 0 0)) (ne_eqb q end e))

  pub inside-short : (x q r f : ℕ) → x ≡ 2 → ◌≡◌ {A = Res A} (refuse 13 p 0 0) (inside p end (refuse x q r f))
  inside-short x q r f e = sym (ap (λ (b : Bool). pick b (refuse 13 p 0 0) (refuse x q r f)) (eq-eqb x 2 e))

  pub inside-other : (x q r f : ℕ) → (x ≡ 2 → ⊥) → ◌≡◌ {A = Res A} (refuse x q r f) (inside p end (refuse x q r f))
  inside-other x q r f e = sym (ap (λ (b : Bool). pick b (refuse 13 p 0 0) (refuse x q r f)) (ne_eqb x 2 e))

-- where all that can be read tells the same
pub inside-map : {A B : Type 0} (f : A → B) (b : B) (p end : ℕ) (m : Res A) → ((a : A) (q : ℕ) → m ≡ ok a q → f a ≡ b) → map_res f (inside p end m) ≡ map_res (λ u. b) (inside p end (done m))
inside-map f b p end (ok a q) h = go (eqb q end)
  where
    go : (t : Bool) → map_res f (pick t (ok a q) (refuse 13 p 0 0)) ≡ map_res (λ (u : Unit {0}). b) (pick t (ok tt q) (refuse 13 p 0 0))
    go true = ap (λ (x : _). ok x q) (h a q refl)
    go false = refl
inside-map f b p end (refuse x q r g) h = go (eqb x 2)
  where
    go : (t : Bool) → map_res f (pick t (refuse 13 p 0 0) (refuse x q r g)) ≡ map_res (λ (u : Unit {0}). b) (pick t (refuse 13 p 0 0) (refuse x q r g))
    go true = refl
    go false = refl

-- ---- names, models, channels

pub group-done : (s : List ℕ) (at : ℕ) → done (group_content s at) ≡ done (place (name 2 s at))
unfolding group_content
group-done s at = then_ok group_start_read (name 2 s at) ∙ sym (done-place (name 2 s at))

-- what a model allows, looked at once
channel-in : (m : Model) → channel (traits_of m).tag ≡ channel_in (wide m)
unfolding allows_bits model_of
channel-in vm.Rgb = refl
channel-in vm.Cmyk = refl
channel-in vm.Lab = refl
channel-in vm.Gray = refl

-- ---- what stands behind a colour's name

module _ (s : List ℕ) (at : ℕ) where
  pub after-name-short : refuse 2 at 0 0 ≡ field 4 s at → after_name s at ≡ refuse 2 at 0 0
  unfolding after_name
  after-name-short e = rw (judged-short 4 s at model e)

  module _ (t n : ℕ) (e : ok t n ≡ field 4 s at) where
    pub after-name-unknown : model_of t ≡ None → after_name s at ≡ refuse 4 at 0 0
    unfolding after_name
    after-name-unknown u = rw (judged-bad 4 s at model 4 0 0 e (rw (model-bad t u)))

    after-name-known : (m : Model) → model_of t ≡ Some m
        → after_name s at ≡ then (done (each (traits_of m).channels 0 (λ i. judged 4 (channel (traits_of m).tag)) s n)) (λ u q. done (judged 2 type s q))
    unfolding after_name
    after-name-known m u =
        let g : (traits_of m).tag ≡ t = tag-known t m u in
        rw (judged-ok 4 s at model e (rw (model-good t m u)))
        (subst (λ (x : ℕ). then (each (channels_of x) 0 (λ i. judged 4 (channel x)) s n) (λ bs q. then (judged 2 type s q) (λ k r. ok tt r)) ≡ then (done (each (traits_of m).channels 0 (λ i. judged 4 (channel (traits_of m).tag)) s n)) (λ u q. done (judged 2 type s q))) g
        (subst (λ (c : ℕ). then (each c 0 (λ i. judged 4 (channel (traits_of m).tag)) s n) (λ bs q. then (judged 2 type s q) (λ k r. ok tt r)) ≡ then (done (each (traits_of m).channels 0 (λ i. judged 4 (channel (traits_of m).tag)) s n)) (λ u q. done (judged 2 type s q))) (sym (tag-channels m))
        (go (each (traits_of m).channels 0 (λ i. judged 4 (channel (traits_of m).tag)) s n))))
      where
        last : (r : Res ℕ) → then r (λ k q. ok tt q) ≡ done r
        last (ok k q) = refl
        last (refuse x p r f) = refl

        go : (r : Res (List ℕ)) → then r (λ bs q. then (judged 2 type s q) (λ k r. ok tt r)) ≡ then (done r) (λ u q. done (judged 2 type s q))
        go (ok bs q) = last (judged 2 type s q)
        go (refuse x p r f) = refl

    -- the same, with what the model was asked and what its channels came to
    pub after-name-channels : (m : Model) → model_of t ≡ Some m → {v : Traits} → v ≡ traits_of m → {w : Bool} → w ≡ wide m → {r : Res Unit} → r ≡ done (each v.channels 0 (λ i. judged 4 (channel_in w)) s n)
        → after_name s at ≡ then r (λ u q. done (judged 2 type s q))
    after-name-channels m u f g h =
        let k = h ∙ ap₂ (λ (v : Traits) (w : Bool). done (each v.channels 0 (λ i. judged 4 (channel_in w)) s n)) f g ∙ ap (λ (j : ℕ → Judged). done (each (traits_of m).channels 0 (λ i. judged 4 j) s n)) (sym (channel-in m)) in
        after-name-known m u ∙ ap (λ (x : Res Unit). then x (λ u q. done (judged 2 type s q))) (sym k)

pub colour-content-done : (s : List ℕ) (at : ℕ) → done (colour_content s at) ≡ then (done (place (name 2 s at))) (λ u q. after_name s q)
unfolding colour_content after_name
colour-content-done s at = go (name 2 s at)
  where
    last : (t : ℕ) (nm : Name) (bs : List ℕ) (r : Res ℕ) → done (then r (λ k q. ok (colour_read nm t bs k) q)) ≡ then r (λ k q. ok tt q)
    last t nm bs (ok k q) = refl
    last t nm bs (refuse x p r f) = refl

    third : (t : ℕ) (nm : Name) (r : Res (List ℕ)) → done (then r (λ bs q. then (judged 2 type s q) (λ k z. ok (colour_read nm t bs k) z))) ≡ then r (λ bs q. then (judged 2 type s q) (λ k z. ok tt z))
    third t nm (ok bs q) = last t nm bs (judged 2 type s q)
    third t nm (refuse x p r f) = refl

    second : (nm : Name) (r : Res ℕ)
        → done (then r (λ t p. then (each (channels_of t) 0 (λ i. judged 4 (channel t)) s p) (λ bs q. then (judged 2 type s q) (λ k z. ok (colour_read nm t bs k) z))))
        ≡ then r (λ t p. then (each (channels_of t) 0 (λ i. judged 4 (channel t)) s p) (λ bs q. then (judged 2 type s q) (λ k z. ok tt z)))
    second nm (ok t p) = third t nm (each (channels_of t) 0 (λ i. judged 4 (channel t)) s p)
    second nm (refuse x p r f) = refl

    go : (m : Res Name)
        → done (then m (λ nm a. then (judged 4 model s a) (λ t p. then (each (channels_of t) 0 (λ i. judged 4 (channel t)) s p) (λ bs q. then (judged 2 type s q) (λ k z. ok (colour_read nm t bs k) z)))))
        ≡ then (done (place m)) (λ u a. then (judged 4 model s a) (λ t p. then (each (channels_of t) 0 (λ i. judged 4 (channel t)) s p) (λ bs q. then (judged 2 type s q) (λ k z. ok tt z))))
    go (ok nm a) = second nm (judged 4 model s a)
    go (refuse x p r f) = refl

-- what each content is
pub group-passed : (s : List ℕ) (at d : ℕ) (e : Entry) (q : ℕ) → group_content s at ≡ ok e q → passed d e ≡ (d + 1, 0)
unfolding group_content
group-passed s at d e q h = let t = then-inv (name 2 s at) _ h in ap (passed d) (sym (ok-value t.3))

pub colour-content-passed : (s : List ℕ) (at d : ℕ) (e : Entry) (q : ℕ) → colour_content s at ≡ ok e q → passed d e ≡ (d, 1)
unfolding colour_content
colour-content-passed s at d e q h =
    let a = then-inv (name 2 s at) _ h in
    let b = then-inv (judged 4 model s a.1) _ a.3 in
    let c = then-inv (each (channels_of b.0) 0 (λ i. judged 4 (channel b.0)) s b.1) _ b.3 in
    let f = then-inv (judged 2 type s c.1) _ c.3 in
    ap (passed d) (sym (ok-value f.3))

-- ---- a block's content, where its payload ends at `end`

module _ (d end : ℕ) (s : List ℕ) (at : ℕ) where
  pub start-deep : 16 ≤ d → refuse 10 at 0 0 ≡ map_res (passed d) (group_start_of d end s at)
  unfolding group_start_of
  start-deep h = rw (le-ltb d 16 h)

  pub start-map : d < 16 → map_res (passed d) (group_start_of d end s at) ≡ map_res (λ u. (d + 1, 0)) (inside (at + 2) end (done (group_content (take end s) (at + 6))))
  unfolding group_start_of
  start-map h = rw (lt-ltb d 16 h) (inside-map (passed d) (d + 1, 0) (at + 2) end (group_content (take end s) (at + 6)) (λ e q g. group-passed (take end s) (at + 6) d e q g))

  pub colour-map : map_res (passed d) (colour_of end s at) ≡ map_res (λ u. (d, 1)) (inside (at + 2) end (done (colour_content (take end s) (at + 6))))
  unfolding colour_of
  colour-map = inside-map (passed d) (d, 1) (at + 2) end (colour_content (take end s) (at + 6)) (λ e q g. colour-content-passed (take end s) (at + 6) d e q g)

module _ (d end at : ℕ) where
  pub stop-long : (end ≡ at + 6 → ⊥) → refuse 13 (at + 2) 0 0 ≡ map_res (passed d) (group_end_of d end at)
  unfolding group_end_of
  stop-long h = rw (ne_eqb end (at + 6) h)

  pub stop-none : end ≡ at + 6 → d ≡ 0 → refuse 9 at 0 0 ≡ map_res (passed d) (group_end_of d end at)
  unfolding group_end_of
  stop-none h z = rw (eq-eqb end (at + 6) h, le-ltb 0 d (omega arith))

  pub stop-ok : end ≡ at + 6 → 0 < d → ok (d - 1, 0) end ≡ map_res (passed d) (group_end_of d end at)
  unfolding group_end_of
  stop-ok h z = rw (eq-eqb end (at + 6) h, lt-ltb 0 d z) (ap (λ (q : ℕ). ok (d - 1, 0) q) h)

-- ---- a block

module _ (d : ℕ) (s : List ℕ) (at : ℕ) where
  pub block-short : refuse 2 at 0 0 ≡ field 2 s at → block d s at ≡ refuse 2 at 0 0
  unfolding block
  block-short e = rw (← e)

  module _ (t a : ℕ) (e : ok t a ≡ field 2 s at) where
    pub block-short-length : refuse 2 a 0 0 ≡ field 4 s a → block d s at ≡ refuse 2 a 0 0
    unfolding block
    block-short-length f = rw (← e) (rw (← f))

    module _ (n b : ℕ) (f : ok n b ≡ field 4 s a) where
      block-by : block d s at ≡ rule (unless (is_block_type t) 4) at (pick (leb n (length s - b)) (content t d n s at) (refuse 2 b 0 0))
      unfolding block
      block-by = rw (← e) (rw (← f) refl)

      pub block-unknown : is_block_type t ≡ false → block d s at ≡ refuse 4 at 0 0
      block-unknown u = block-by ∙ ap (λ (y : Bool). rule (unless y 4) at (pick (leb n (length s - b)) (content t d n s at) (refuse 2 b 0 0))) u

      block-known : is_block_type t ≡ true → block d s at ≡ pick (leb n (length s - b)) (content t d n s at) (refuse 2 b 0 0)
      block-known u = block-by ∙ ap (λ (y : Bool). rule (unless y 4) at (pick (leb n (length s - b)) (content t d n s at) (refuse 2 b 0 0))) u

      pub block_cut : is_block_type t ≡ true → length s - b < n → block d s at ≡ refuse 2 b 0 0
      block_cut u h = block-known u ∙ ap (λ (y : Bool). pick y (content t d n s at) (refuse 2 b 0 0)) (lt-leb n (length s - b) h)

      block-content : is_block_type t ≡ true → n ≤ length s - b → block d s at ≡ content t d n s at
      block-content u h = block-known u ∙ ap (λ (y : Bool). pick y (content t d n s at) (refuse 2 b 0 0)) (le-leb n (length s - b) h)

  pub content-start : (t n end : ℕ) → t ≡ 0xC001 → at + 6 + n ≡ end → content t d n s at ≡ group_start_of d end s at
  unfolding content group_start_of
  content-start t n end e h = rw e (ap (λ (z : ℕ). rule (unless (ltb d deepest) 10) at (inside (at + 2) z (group_content (take z s) (at + 6)))) h)

  pub content-stop : (t n end : ℕ) → t ≡ 0xC002 → at + 6 + n ≡ end → content t d n s at ≡ group_end_of d end at
  unfolding content group_end_of
  content-stop t n end e h = rw e (ap (λ (z : Bool). rule (unless z 13) (at + 2) (rule (unless (ltb 0 d) 9) at (ok group_end_read (at + 6)))) (same (eqb n 0) refl))
    where
      same : (z : Bool) → eqb n 0 ≡ z → eqb n 0 ≡ eqb end (at + 6)
      same true q = q ∙ sym (eq-eqb end (at + 6) (omega (arith, eqb-true n 0 q)))
      same false q = q ∙ sym (ne_eqb end (at + 6) (λ w. eqb-false n 0 q (omega arith)))

  pub content-colour : (t n end : ℕ) → (t ≡ 0xC001 → ⊥) → (t ≡ 0xC002 → ⊥) → at + 6 + n ≡ end → content t d n s at ≡ colour_of end s at
  unfolding content colour_of
  content-colour t n end p q h = rw (ne_eqb t 0xC001 p, ne_eqb t 0xC002 q) (ap (λ (z : ℕ). inside (at + 2) z (colour_content (take z s) (at + 6))) h)

-- the same, with the end that the code works out
module _ (d : ℕ) (s : List ℕ) (at t a : ℕ) (e : ok t a ≡ field 2 s at) (n b : ℕ) (f : ok n b ≡ field 4 s a) where
  pub after-length : (at + 6 ≡ b) × (b ≤ length s)
  after-length =
      let x = field_next 2 s at t a e in
      let y = field_next 4 s a n b f in
      (omega (arith, x.1, y.1), omega (arith, x.0, y.0, x.1, y.1))

  module _ (u : is_block_type t ≡ true) (h : n ≤ length s - b) where
    pub room : (at + 6 ≤ b + n) × (b + n ≤ length s)
    room = (omega (arith, after-length.0), omega (arith, after-length.1))

    pub block_held : block d s at ≡ content t d (b + n - (at + 6)) s at
    block_held = let k : n ≡ b + n - (at + 6) = omega (arith, after-length.0) in block-content d s at t a e n b f u h ∙ ap (λ (m : ℕ). content t d m s at) k

-- ---- blocks in a row

-- what is told of the blocks that are left, where so many colours were passed
abbrev pub plus : ℕ → ℕ → List Entry → ℕ × ℕ
plus k d es = (state_after open_after_entry d es, k + colours es)

abbrev pub rest : ℕ → ℕ → Reader (List Entry)
rest n d = chain open_after_entry block n d

pub colour-one : (e : Entry) → colour_in e ≤ 1
colour-one (group_start_read nm) = omega arith
colour-one group_end_read = omega arith
colour-one (colour_read nm t bs k) = omega arith

map-plus : (k d : ℕ) (e : Entry) (m : Res (List Entry)) → map_res (plus k d) (then m (λ more end. ok (e ∷ more) end)) ≡ map_res (plus (k + colour_in e) (open_after_entry d e)) m
unfolding state_after colours
map-plus k d e (ok more q) = ap (λ (x : ℕ). ok (state_after open_after_entry (open_after_entry d e) more, x) q) (sym (add_assoc k (colour_in e) (colours more)))
map-plus k d e (refuse x p r f) = refl

pub rest-start : (n : ℕ) (s : List ℕ) (at : ℕ) → map_res (tally 0) (rest n 0 s at) ≡ map_res (plus 0 0) (rest (n - 0) 0 s at)
rest-start n s at = let z : n ≡ n - 0 = omega arith in go (rest n 0 s at) ∙ ap (λ (k : ℕ). map_res (plus 0 0) (rest k 0 s at)) z
  where
    go : (m : Res (List Entry)) → map_res (tally 0) m ≡ map_res (plus 0 0) m
    go (ok es q) = ap (λ (x : ℕ). ok (state_after open_after_entry 0 es, x) q) (sym (zero-add (colours es)))
    go (refuse x p r f) = refl

module _ (n i k d : ℕ) (s : List ℕ) (p : ℕ) (all : Res (ℕ × ℕ)) (inv : all ≡ map_res (plus k d) (rest (n - i) d s p)) where
  step : i < n → all ≡ map_res (plus k d) (then (block d s p) (λ e q. then (rest (n - (i + 1)) (open_after_entry d e) s q) (λ more end. ok (e ∷ more) end)))
  unfolding chain
  step h = let z : n - i ≡ suc (n - (i + 1)) = omega arith in inv ∙ ap (λ (m : ℕ). map_res (plus k d) (rest m d s p)) z

  pub rest_ok : i < n → (e : Entry) (q : ℕ) → block d s p ≡ ok e q → all ≡ map_res (plus (k + colour_in e) (open_after_entry d e)) (rest (n - (i + 1)) (open_after_entry d e) s q)
  rest_ok h e q g = step h ∙ ap (λ (m : Res Entry). map_res (plus k d) (then m (λ e q. then (rest (n - (i + 1)) (open_after_entry d e) s q) (λ more end. ok (e ∷ more) end)))) g ∙ map-plus k d e (rest (n - (i + 1)) (open_after_entry d e) s q)

  pub rest-no : i < n → {x q r f : ℕ} → block d s p ≡ refuse x q r f → all ≡ refuse x q r f
  rest-no h g = step h ∙ ap (λ (m : Res Entry). map_res (plus k d) (then m (λ e q. then (rest (n - (i + 1)) (open_after_entry d e) s q) (λ more end. ok (e ∷ more) end)))) g

  pub rest_end : n ≤ i → all ≡ ok (d, k) p
  unfolding chain state_after colours
  rest_end h = let z : n - i ≡ 0 = omega arith in inv ∙ ap (λ (m : ℕ). map_res (plus k d) (rest m d s p)) z ∙ ap (λ (x : ℕ). ok (d, x) p) (native.Mathlib.Nat.add-zero k)

  -- the same from what is told of the block
  pub turn-ok : i < n → (d' k' q : ℕ) → ok (d', k') q ≡ map_res (passed d) (block d s p) → k ≤ i → (k + k' ≤ i + 1) × (all ≡ map_res (plus (k + k') d') (rest (n - (i + 1)) d' s q))
  turn-ok h d' k' q e l =
      let t = map-inv (passed d) (block d s p) (sym e) in
      let g : open_after_entry d t.0 ≡ d' = ap (λ (w : ℕ × ℕ). w.0) t.2 in
      let c : colour_in t.0 ≡ k' = ap (λ (w : ℕ × ℕ). w.1) t.2 in
      (omega (arith, colour-one t.0, c), rest_ok h t.0 q t.1 ∙ ap₂ (λ (x y : ℕ). map_res (plus (k + x) y) (rest (n - (i + 1)) y s q)) c g)

  pub turn-no : i < n → (x q : ℕ) → refuse x q 0 0 ≡ map_res (passed d) (block d s p) → all ≡ refuse x q 0 0
  turn-no h x q e = rest-no h (map-refuse (passed d) (block d s p) (sym e))

-- ---- the heading

module _ (s : List ℕ) where
  pub heading-short : refuse 2 0 0 0 ≡ field 4 s 0 → heading s 0 ≡ refuse 2 0 0 0
  unfolding heading
  heading-short e = rw (judged-short 4 s 0 (fixed_number (chars "ASEF")) e)

  module _ (x a : ℕ) (e : ok x a ≡ field 4 s 0) where
    pub heading-bad : (x ≡ chars "ASEF" → ⊥) → heading s 0 ≡ refuse 3 0 0 0
    unfolding heading
    heading-bad h = rw (judged-bad 4 s 0 (fixed_number (chars "ASEF")) 3 0 0 e (rw (ne_eqb x (chars "ASEF") h)))

    pub heading-good : x ≡ chars "ASEF" → heading s 0 ≡ then (done (judged 2 (fixed_number 1) s a)) (λ u b. then (done (judged 2 (fixed_number 0) s b)) (λ u c. field 4 s c))
    unfolding heading
    heading-good h = rw (judged-ok 4 s 0 (fixed_number (chars "ASEF")) e (rw (eq-eqb x (chars "ASEF") h))) (first (judged 2 (fixed_number 1) s a))
      where
        second : (m : Res ℕ) → then m (λ v c. field 4 s c) ≡ then (done m) (λ u c. field 4 s c)
        second (ok v c) = refl
        second (refuse x p r f) = refl

        first : (m : Res ℕ) → then m (λ v b. then (judged 2 (fixed_number 0) s b) (λ w c. field 4 s c)) ≡ then (done m) (λ u b. then (done (judged 2 (fixed_number 0) s b)) (λ u c. field 4 s c))
        first (ok v b) = second (judged 2 (fixed_number 0) s b)
        first (refuse x p r f) = refl

-- ---- the file

chain_length : (n d : ℕ) (s : List ℕ) (at : ℕ) (es : List Entry) (q : ℕ) → rest n d s at ≡ ok es q → length es ≡ n
unfolding chain
chain_length zero d s at es q e = ap length (sym (ok-value e))
chain_length (suc n) d s at es q e =
    let a = then-inv (block d s at) _ e in
    let b = then-inv (rest n (open_after_entry d a.0) s a.1) _ a.3 in
    ap length (sym (ok-value b.3)) ∙ ap suc (chain_length n (open_after_entry d a.0) s a.1 b.0 b.1 b.2)

module _ (n : ℕ) (s : List ℕ) (at : ℕ) where
  pub whole-no : (x q : ℕ) → refuse x q 0 0 ≡ map_res (tally 0) (rest n 0 s at) → refused x q 0 0 ≡ verdict report (whole n s at)
  unfolding whole blocks
  whole-no x q e = rw (map-refuse (tally 0) (rest n 0 s at) (sym e))

  module _ (d k q : ℕ) (e : ok (d, k) q ≡ map_res (tally 0) (rest n 0 s at)) where
    parts : (es : List Entry) × (rest n 0 s at ≡ ok es q) × (tally 0 es ≡ (d, k))
    parts = map-inv (tally 0) (rest n 0 s at) (sym e)

    whole_by : (z : Bool) → eqb d 0 ≡ z → whole n s at ≡ then (rule (unless z 9) q (ok parts.0 q)) (λ es q. ended es s q)
    unfolding whole blocks
    whole_by z h = rw parts.1 (ap (λ (w : ℕ). then (rule (unless (eqb w 0) 9) q (ok parts.0 q)) (λ es q. ended es s q)) (ap (λ (w : ℕ × ℕ). w.0) parts.2) ∙ ap (λ (y : Bool). then (rule (unless y 9) q (ok parts.0 q)) (λ es q. ended es s q)) h)

    pub whole_open : (d ≡ 0 → ⊥) → refused 9 q 0 0 ≡ verdict report (whole n s at)
    whole_open h = sym (ap (verdict report) (whole_by false (ne_eqb d 0 h)))

    pub whole-left : d ≡ 0 → (q ≡ length s → ⊥) → refused 6 q 0 0 ≡ verdict report (whole n s at)
    unfolding ended
    whole-left h l = sym (ap (verdict report) (whole_by true (eq-eqb d 0 h)) ∙ ap (λ (y : Bool). verdict report (pick y (ok parts.0 q) (refuse 6 q 0 0))) (ne_eqb q (length s) l))

    pub whole-ok : d ≡ 0 → q ≡ length s → accepted (n, k) ≡ verdict report (whole n s at)
    unfolding ended
    whole-ok h l =
        let c : colours parts.0 ≡ k = ap (λ (w : ℕ × ℕ). w.1) parts.2 in
        ap₂ (λ (x y : ℕ). accepted (x, y)) (sym (chain_length n 0 s at parts.0 q parts.1)) (sym c)
        ∙ sym (ap (verdict report) (whole_by true (eq-eqb d 0 h)) ∙ ap (λ (y : Bool). verdict report (pick y (ok parts.0 q) (refuse 6 q 0 0))) (eq-eqb q (length s) l))

module _ (s : List ℕ) where
  pub too_long : limit < length s → refused 1 0 0 0 ≡ verdict report (ase s)
  unfolding ase
  too_long h = rw (lt-leb (length s) limit h)

  module _ (h : length s ≤ limit) where
    pub bad-heading : (x q : ℕ) → refuse x q 0 0 ≡ heading s 0 → refused x q 0 0 ≡ verdict report (ase s)
    unfolding ase palette
    bad-heading x q e = rw (le-leb (length s) limit h) (rw (← e) refl)

    pub after-heading : (n q : ℕ) → ok n q ≡ heading s 0 → verdict report (whole n s q) ≡ verdict report (ase s)
    unfolding ase palette whole
    after-heading n q e = rw (le-leb (length s) limit h) (rw (← e) refl)
