-- Blocks that fit their fields have no fault exactly where the grammar allows them. Assumes nothing.
use Prim.Native.Nat.{ℕ, ◌^◌, ◌<◌}
use mathlib.Core.Path.{◌≡◌, sym, ap, ◌∙◌}
use mathlib.Core.List.{List}
use mathlib.Core.Bool.{Bool, true}
use lib.Dec.{leb, ltb, eqb}
use borrow.Author.Tests.{eqb-true, leb-true, le-leb, ltb-true, lt-ltb, eq-eqb}
use native.Mathlib.Omega.{arith}
use Rattle.algebra.specs.Numbers.{All, AllIn}
use Rattle.algebra.specs.Reader.{pick, state_after}
use Rattle.algebra.specs.Text.{any_zero, Named}
use Rattle.algebra.specs.Faults.{first_of, faults_from, faults_in}
use Rattle.algebra.proofs.Exact.{all_map, all_both, any_none, none_any}
use Rattle.algebra.proofs.Tells.{first-none, first-inv, pick-none, pick_some, faults-inv, faults-none}
use Rattle.algebra.proofs.Chain.{in_map, in_both, all_in, in_all, in-inv, in-none}
use Rattle.colour.specs.Models.{is_model, channels_of}
use Rattle.colour.specs.Channels.{allows_bits}
use Rattle.ase.specs.Grammar.{Block, group_start, group_end, colour, other, Channel, Colour, Allowed, Nested}
use Rattle.ase.specs.Reading.{deepest, open_after}
use Rattle.ase.specs.Faults.{name_fault, channel_fault, type_fault, colour_fault, block_fault, blocks_fault, palette_fault, NameFits, ColourFits, BlockFits}
use Rattle.ase.proofs.Tables.{model-known, model-count, known-model, model_small, channel-allowed, allowed-channel, channel-small}
use Rattle.ase.proofs.Laws.{Steps}
use Rattle.ase.proofs.Blocks.{nested-steps, steps-nested}

-- ---- no fault, so allowed

name-sound : (us : List ℕ) → NameFits us → name_fault 0 us ≡ 0 → Named 2 us
name-sound us f e = record {
  counted = f.counted;
  units = all_both (λ k u. 0 < u) (λ k u. u < 256 ^ 2) 0 us (any_none us 0 (pick_some (any_zero us) 8 (omega arith) e)) f.units;
}

colour-sound : (us : List ℕ) (t : ℕ) (bs : List ℕ) (k : ℕ) → ColourFits us t bs k → name_fault 0 us ≡ 0 → colour_fault t bs k ≡ 0 → Colour us t bs k
unfolding colour_fault
colour-sound us t bs k f n e =
    let g : ℕ → ℕ → ℕ = λ i. channel_fault t in
    let b = first-inv (pick (is_model t) 0 4) (first_of (faults_from g 0 bs) (type_fault k)) e in
    let c = first-inv (faults_from g 0 bs) (type_fault k) b.1 in record {
      count = channels_of t;
      model = known-model t (pick-none (is_model t) 4 (omega arith) b.0);
      all = f.all;
      channels = all_map (λ i v. (v < 256 ^ 4) × (channel_fault t v ≡ 0)) (λ i v. Channel t v) (λ i v h. allowed-channel t v h.0 (pick-none (allows_bits t v) 5 (omega arith) h.1)) 0 bs
          (all_both (λ i v. v < 256 ^ 4) (λ i v. channel_fault t v ≡ 0) 0 bs f.channels (faults-inv g 0 bs c.0));
      type = omega (arith, leb-true k 4 (pick-none (leb k 4) 5 (omega arith) c.1), f.no_process, f.no_unstated);
      name = name-sound us f.name n;
    }

-- a block, where d groups stand open
pub block-sound : (d : ℕ) (b : Block) → BlockFits b → block_fault 0 d b ≡ 0 → Allowed b × Steps d b
unfolding block_fault
block-sound d (group_start us) f e =
    let i = first-inv (pick (ltb d deepest) 0 10) (name_fault 0 us) e in
    (name-sound us f i.1, ltb-true d 16 (pick-none (ltb d 16) 10 (omega arith) i.0))
block-sound d group_end f e = (tt, ltb-true 0 d (pick-none (ltb 0 d) 9 (omega arith) e))
block-sound d (colour us t bs k) f e = let i = first-inv (name_fault 0 us) (colour_fault t bs k) e in (colour-sound us t bs k f i.0 i.1, tt)
block-sound d (other t) f e = absurd (omega arith)

pub faultless-allowed : (bs : List Block) → All (λ i b. BlockFits b) 0 bs → palette_fault bs ≡ 0 → All (λ i b. Allowed b) 0 bs × Nested 0 bs 0
unfolding blocks_fault
faultless-allowed bs fits e =
    let st : ℕ = state_after open_after 0 bs in
    let i = first-inv (faults_in open_after (block_fault 0) 0 bs) (pick (eqb st 0) 0 9) e in
    let h : AllIn open_after (λ d b. Allowed b × Steps d b) 0 bs =
    in_map open_after (λ d b. BlockFits b × (block_fault 0 d b ≡ 0)) (λ d b. Allowed b × Steps d b) (λ d b h. block-sound d b h.0 h.1) 0 bs
    (in_both open_after (λ d b. BlockFits b) (λ d b. block_fault 0 d b ≡ 0) 0 bs (all_in open_after BlockFits 0 0 bs fits) (in-inv open_after (block_fault 0) 0 bs i.0)) in (
      in_all open_after Allowed 0 0 bs (in_map open_after (λ d b. Allowed b × Steps d b) (λ d b. Allowed b) (λ d b g. g.0) 0 bs h),
      steps-nested 0 bs (in_map open_after (λ d b. Allowed b × Steps d b) Steps (λ d b g. g.1) 0 bs h) (eqb-true st 0 (pick-none (eqb st 0) 9 (omega arith) i.1)),
    )

-- ---- allowed, so no fault

name-complete : (us : List ℕ) → Named 2 us → name_fault 0 us ≡ 0
name-complete us a = ap (λ (b : Bool). pick b 8 0) (none_any us 0 (all_map (λ k u. (0 < u) × (u < 256 ^ 2)) (λ k u. 0 < u) (λ k u h. h.0) 0 us a.units))

colour-content-complete : (us : List ℕ) (t : ℕ) (bs : List ℕ) (k : ℕ) → Colour us t bs k → colour_fault t bs k ≡ 0
unfolding colour_fault
colour-content-complete us t bs k a =
    let g : ℕ → ℕ → ℕ = λ i. channel_fault t in
    let known : is_model t ≡ true = model-known a.model in
    let c : faults_from g 0 bs ≡ 0 = faults-none g 0 bs (all_map (λ i v. Channel t v) (λ i v. channel_fault t v ≡ 0) (λ i v h. ap (λ (b : Bool). pick b 0 5) (channel-allowed known h)) 0 bs a.channels) in
    first-none (pick (is_model t) 0 4) (first_of (faults_from g 0 bs) (type_fault k)) (ap (λ (b : Bool). pick b 0 4) known)
    ∙ first-none (faults_from g 0 bs) (type_fault k) c ∙ ap (λ (b : Bool). pick b 0 5) (le-leb k 4 (omega (arith, a.type)))

block-complete : (d : ℕ) (b : Block) → Allowed b → Steps d b → block_fault 0 d b ≡ 0
unfolding block_fault
block-complete d (group_start us) a st = first-none (pick (ltb d deepest) 0 10) (name_fault 0 us) (ap (λ (b : Bool). pick b 0 10) (lt-ltb d 16 st)) ∙ name-complete us a
block-complete d group_end a st = ap (λ (b : Bool). pick b 0 9) (lt-ltb 0 d st)
block-complete d (colour us t bs k) a st = first-none (name_fault 0 us) (colour_fault t bs k) (name-complete us a.name) ∙ colour-content-complete us t bs k a
block-complete d (other t) a st = absurd a

pub allowed-faultless : (bs : List Block) → All (λ i b. Allowed b) 0 bs → Nested 0 bs 0 → palette_fault bs ≡ 0
unfolding blocks_fault
allowed-faultless bs a n =
    let st : ℕ = state_after open_after 0 bs in
    let x = nested-steps 0 bs n in
    let h : AllIn open_after (λ d b. block_fault 0 d b ≡ 0) 0 bs =
    in_map open_after (λ d b. Allowed b × Steps d b) (λ d b. block_fault 0 d b ≡ 0) (λ d b g. block-complete d b g.0 g.1) 0 bs
    (in_both open_after (λ d b. Allowed b) Steps 0 bs (all_in open_after Allowed 0 0 bs a) x.0) in
    first-none (faults_in open_after (block_fault 0) 0 bs) (pick (eqb st 0) 0 9) (in-none open_after (block_fault 0) 0 bs h) ∙ ap (λ (b : Bool). pick b 0 9) (eq-eqb st 0 x.1)

-- ---- what the grammar allows fits its fields

name-fits : (us : List ℕ) → Named 2 us → NameFits us
name-fits us a = record { counted = a.counted; units = all_map (λ k u. (0 < u) × (u < 256 ^ 2)) (λ k u. u < 256 ^ 2) (λ k u h. h.1) 0 us a.units }

pub allowed-fits : (b : Block) → Allowed b → BlockFits b
allowed-fits (group_start us) a = name-fits us a
allowed-fits group_end a = tt
allowed-fits (other t) a = absurd a
allowed-fits (colour us t bs k) a = record {
  name = name-fits us a.name;
  model = model_small a.model;
  all = a.all ∙ sym (model-count a.model);
  channels = all_map (λ i v. Channel t v) (λ i v. v < 256 ^ 4) (λ i v h. channel-small h) 0 bs a.channels;
  type = omega (arith, a.type);
  no_process = λ e. omega (arith, a.type);
  no_unstated = λ e. omega (arith, a.type);
}
