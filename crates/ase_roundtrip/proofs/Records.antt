-- The records of an accepted file, from a table to a writer. Assumes nothing.
use Prim.Native.Nat.{ℕ, zero, suc, ◌+◌, ◌*◌, ◌-◌, ◌^◌, ◌≤◌, ◌<◌}
use mathlib.Core.Path.{◌≡◌, refl, sym, ap, ap₂, ◌∙◌, subst}
use mathlib.Core.List.{List, [], ◌∷◌, map}
use mathlib.Core.Bool.{Bool, true, false}
use lib.Dec.{leb, ltb, eqb}
use lib.ListN.{length, take}
use lib.Seq.{length-take-le, get_or-take}
use native.Mathlib.Omega.{arith}
use Rattle.algebra.specs.Numbers.{nums, joined, Bytes, All}
use Rattle.algebra.specs.Reader.{ok, pick, rule, unless, judged, each, chain, state_after, limit}
use Rattle.algebra.specs.Table.{whole}
use Rattle.algebra.specs.Text.{Name, name, front}
use Rattle.algebra.proofs.Places.{length-nums, nums-cong}
use Rattle.algebra.proofs.Inverse.{then-inv, rule-inv, pick_inv, ok-value, Name-read, name-inv, front-nums, ended-inv}
use Rattle.algebra.proofs.Exact.{all_map, all_both}
use Rattle.algebra.proofs.Chain.{chain-none, chain-inv}
use Rattle.colour.specs.Models.{channels_of}
use Rattle.algebra.proofs.Rows.{all_fit}
use Rattle.algebra.proofs.Table.{whole_back}
use Rattle.ase.specs.Grammar.{Block, group_start, colour, Allowed, File, file}
use Rattle.ase.specs.Reading.{Entry, group_start_read, group_end_read, colour_read, block_of, group_content, model, channel, type, colour_content, within, deepest, content, block, open_after_entry, heading, blocks, palette, ase}
use Rattle.ase.specs.Faults.{BlockFits}
use Rattle.ase.proofs.Payload.{inside-inv}
use Rattle.ase.proofs.Laws.{block-inv}
use Rattle.ase.proofs.Faultless.{allowed-fits}
use Rattle.ase.proofs.RoundTrip.{accepted-allowed}
use Rattle.ase.specs.Row.{width, four_of, taken, given_of}
use Rattle.ase.proofs.Row.{given_back}
use Rattle.ase_read.specs.Table.{row}
use Rattle.ase_writing.specs.Writing.{block_by_row}
use Rattle.ase_roundtrip.specs.Tie.{tabled, Fitting, a_group_start, a_group_end, a_colour}
use Rattle.algebra.proofs.Firsts.{all-image, all-source}
use Rattle.ase_write_judge.proofs.Judging.{channels-few}

-- ---- a run made of rows gives the records

pub given-rows : (es : List Entry) → whole width taken (joined row es) ≡ tabled es
given-rows es = whole_back width row taken given_of (λ e. Unit {0}) (omega arith) (λ e u. refl) (λ e u. given_back e) es (all_fit 0 es)

-- ---- the names of an accepted file lie in it

pub record NameIn (s : List ℕ) (nm : Name) : Type 0 where
  pub are : nums 2 (length nm.units) s nm.first ≡ nm.units
  pub inside : nm.first + 2 * length nm.units ≤ length s

abbrev pub Lies : List ℕ → Entry → Type 0
Lies s (group_start_read nm) = NameIn s nm
Lies s group_end_read = Unit
Lies s (colour_read nm t bs k) = NameIn s nm

name-lies : (w : ℕ) (s : List ℕ) (at : ℕ) (nm : Name) (q : ℕ) → name w s at ≡ ok nm q → NameIn s nm
name-lies w s at nm q e =
    let i = name-inv w s at e in
    let n : ℕ = i.0 in
    let r : Name-read w s at n nm q = i.1 in
    let m : suc (n - 1) ≡ n = omega (arith, r.some) in
    let us : List ℕ = front (nums 2 n s (at + w)) in
    let u : us ≡ nums 2 (n - 1) s (at + w) = ap (λ (k : ℕ). front (nums 2 k s (at + w))) (sym m) ∙ front-nums 2 (n - 1) s (at + w) in
    let l : length us ≡ n - 1 = ap length u ∙ length-nums 2 (n - 1) s (at + w) in
    subst (λ (x : Name). NameIn s x) r.is (record {
      are = ap (λ (k : ℕ). nums 2 k s (at + w)) l ∙ sym u;
      inside = omega (arith, r.inside, r.some);
    })

module _ (s : List ℕ) (end : ℕ) (room : end ≤ length s) where
  name-uncut : (nm : Name) → NameIn (take end s) nm → NameIn s nm
  name-uncut nm l =
      let n : ℕ = length nm.units in
      let h : nm.first + 2 * n ≤ end = omega (arith, l.inside, length-take-le end s room) in record {
        are = sym (nums-cong 2 s (take end s) n nm.first (λ k g. get_or-take end s (nm.first + k) 0 (omega arith))) ∙ l.are;
        inside = omega arith;
      }

  lies-uncut : (e : Entry) → Lies (take end s) e → Lies s e
  lies-uncut (group_start_read nm) l = name-uncut nm l
  lies-uncut group_end_read l = tt
  lies-uncut (colour_read nm t bs k) l = name-uncut nm l

module _ (s : List ℕ) where
  group-lies : (at : ℕ) (e : Entry) (q : ℕ) → group_content s at ≡ ok e q → Lies s e
  unfolding group_content
  group-lies at e q h =
      let t = then-inv (name 2 s at) _ h in
      subst (λ (x : Entry). Lies s x) (ok-value t.3) (name-lies 2 s at t.0 t.1 t.2)

  colour-content-lies : (at : ℕ) (e : Entry) (q : ℕ) → colour_content s at ≡ ok e q → Lies s e
  unfolding colour_content
  colour-content-lies at e q h =
      let a = then-inv (name 2 s at) _ h in
      let b = then-inv (judged 4 model s a.1) _ a.3 in
      let c = then-inv (each (channels_of b.0) 0 (λ i. judged 4 (channel b.0)) s b.1) _ b.3 in
      let d = then-inv (judged 2 type s c.1) _ c.3 in
      subst (λ (x : Entry). Lies s x) (ok-value d.3) (name-lies 2 s at a.0 a.1 a.2)

module _ (s : List ℕ) (d n at : ℕ) (room : at + 6 + n ≤ length s) (e : Entry) (q : ℕ) where
  content-lies : (t : ℕ) → content t d n s at ≡ ok e q → Lies s e
  unfolding content
  content-lies t h = go (eqb t 0xC001) (eqb t 0xC002) h
    where
      go : (a b : Bool) → pick a (rule (unless (ltb d deepest) 10) at (within group_content n s at)) (pick b (rule (unless (eqb n 0) 13) (at + 2) (rule (unless (ltb 0 d) 9) at (ok group_end_read (at + 6)))) (within colour_content n s at)) ≡ ok e q → Lies s e
      go true b w =
          let r = rule-inv (unless (ltb d 16) 10) at (within group_content n s at) w in
          let i = inside-inv (at + 2) (at + 6 + n) (group_content (take (at + 6 + n) s) (at + 6)) r.1 in
          lies-uncut s (at + 6 + n) room e (group-lies (take (at + 6 + n) s) (at + 6) e q i.0)
      go false true w =
          let i = rule-inv (unless (eqb n 0) 13) (at + 2) (rule (unless (ltb 0 d) 9) at (ok group_end_read (at + 6))) w in
          let j = rule-inv (unless (ltb 0 d) 9) at (ok group_end_read (at + 6)) i.1 in
          subst (λ (x : Entry). Lies s x) (ok-value j.1) tt
      go false false w =
          let i = inside-inv (at + 2) (at + 6 + n) (colour_content (take (at + 6 + n) s) (at + 6)) w in
          lies-uncut s (at + 6 + n) room e (colour-content-lies (take (at + 6 + n) s) (at + 6) e q i.0)

module _ (s : List ℕ) where
  block-lies : (d at : ℕ) (e : Entry) (q : ℕ) → block d s at ≡ ok e q → Lies s e
  block-lies d at e q h = let i = block-inv s d at h in content-lies s d _ at i.0 e q _ i.2

  chain-lies : (n d at i : ℕ) (es : List Entry) (q : ℕ) → chain open_after_entry block n d s at ≡ ok es q → All (λ k e. Lies s e) i es
  chain-lies zero d at i es q h = subst (λ (l : List Entry). All (λ k e. Lies s e) i l) (chain-none open_after_entry block s d at h).0 tt
  chain-lies (suc n) d at i es q h =
      let t = chain-inv open_after_entry block s n d at h in
      subst (λ (l : List Entry). All (λ k e. Lies s e) i l) t.5 (block-lies d at t.0 t.1 t.3, chain-lies n (open_after_entry d t.0) t.1 (i + 1) t.2 q t.4)

  pub all_lie : {es : List Entry} {q : ℕ} → ase s ≡ ok es q → All (λ k e. Lies s e) 0 es
  unfolding ase palette blocks
  all_lie e =
      let p = pick_inv (leb (length s) limit) (palette s 0) 1 0 0 0 e in
      let t = then-inv (heading s 0) _ p.1 in
      let u = then-inv (blocks t.0 s t.1) _ t.3 in
      let v = then-inv (chain open_after_entry block t.0 0 s t.1) _ u.2 in
      let r = rule-inv (unless (eqb (state_after open_after_entry 0 v.0) 0) 9) v.1 (ok v.0 v.1) v.3 in
      let z = ended-inv u.0 s u.1 u.3 in
      subst (λ (l : List Entry). All (λ k e. Lies s e) 0 l) (ok-value r.1 ∙ z.1) (chain-lies t.0 0 t.1 0 v.0 v.1 v.2)

-- ---- the records of an accepted file, as they are given

-- four channels of a table are the model's channels, and then spare
four-take : (bs : List ℕ) → length bs ≤ 4 → take (length bs) (four_of bs) ≡ bs
four-take [] h = refl
four-take (a ∷ []) h = refl
four-take (a ∷ b ∷ []) h = refl
four-take (a ∷ b ∷ c ∷ []) h = refl
four-take (a ∷ b ∷ c ∷ d ∷ []) h = refl
four-take (a ∷ b ∷ c ∷ d ∷ e ∷ more) h = absurd (omega arith)

used-back : (t : ℕ) (bs : List ℕ) → length bs ≡ channels_of t → take (channels_of t) (four_of bs) ≡ bs
used-back t bs l = ap (λ (n : ℕ). take n (four_of bs)) (sym l) ∙ four-take bs (omega (arith, channels-few t))

block_back : (s : List ℕ) (e : Entry) → Lies s e → BlockFits (block_of e) → block_by_row s (given_of e) ≡ block_of e
block_back s (group_start_read nm) l f = ap group_start l.are
block_back s group_end_read l f = refl
block_back s (colour_read nm t bs k) l f = ap₂ (λ (us cs : List ℕ). colour us t cs k) l.are (used-back t bs f.all)

blocks-back : (s : List ℕ) (i : ℕ) (es : List Entry) → All (λ k e. Lies s e × BlockFits (block_of e)) i es → map (block_by_row s) (map given_of es) ≡ map block_of es
blocks-back s i [] h = refl
blocks-back s i (e ∷ es) h = ap₂ (λ (b : Block) (bs : List Block). b ∷ bs) (block_back s e h.0.0 h.0.1) (blocks-back s (i + 1) es h.1)

taken-fits : (s : List ℕ) (e : Entry) → Lies s e → BlockFits (block_of e) → Fitting s (given_of e)
taken-fits s (group_start_read nm) l f = a_group_start refl (record { counted = omega (arith, f.counted); inside = λ h. l.inside })
taken-fits s group_end_read l f = a_group_end refl
taken-fits s (colour_read nm t bs k) l f = a_colour refl (record { counted = omega (arith, f.name.counted); inside = λ h. l.inside }) (record {
  model_small = f.model;
  four = refl;
  each_small = subst (λ (cs : List ℕ). All (λ i b. b < 256 ^ 4) 0 cs) (sym (used-back t bs f.all)) f.channels;
  ink_small = omega (arith, f.type);
  no_process = f.no_process;
  no_unstated = f.no_unstated;
})

blocks-fit : {bs : List Block} {b : List ℕ} → File bs b → All (λ i b. BlockFits b) 0 bs
blocks-fit (file {bs} allowed nested short) = all_map (λ i b. Allowed b) (λ i b. BlockFits b) (λ i b h. allowed-fits b h) 0 bs allowed

module _ (s : List ℕ) (bytes : Bytes s) {es : List Entry} {q : ℕ} (e : ase s ≡ ok es q) where
  both : All (λ k e. Lies s e × BlockFits (block_of e)) 0 es
  both = all_both (λ k e. Lies s e) (λ k e. BlockFits (block_of e)) 0 es (all_lie s e) (all-source block_of (λ k b. BlockFits b) 0 es (blocks-fit (accepted-allowed bytes e).0))

  -- they are the blocks that were read
  pub given-blocks : map (block_by_row s) (tabled es) ≡ map block_of es
  given-blocks = blocks-back s 0 es both

  -- they fit
  pub given-fit : All (λ k g. Fitting s g) 0 (tabled es)
  given-fit = all-image given_of (λ k g. Fitting s g) 0 es (all_map (λ k e. Lies s e × BlockFits (block_of e)) (λ k e. Fitting s (given_of e)) (λ k e h. taken-fits s e h.0 h.1) 0 es both)
