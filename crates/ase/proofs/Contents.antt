-- Every payload is the content of a group start or of a colour, or a damaged one. Nothing here reads. Assumes nothing.
use Prim.Native.Nat.{ℕ, zero, suc, ◌^◌, ◌<◌}
use mathlib.Core.Path.{◌≡◌, refl, sym, ap, ◌∙◌, subst}
use mathlib.Core.List.{List, [], ◌∷◌, ◌++◌, append_assoc, append-nil}
use mathlib.Core.Logic.{◌⊎◌, inl, inr}
use mathlib.Core.Bool.{Bool, true, false, true≢false}
use lib.ListN.{length}
use native.Mathlib.Omega.{arith}
use native.Mathlib.Nat.{lt_of_not-le}
use native.Mathlib.Decide.{dec_le}
use Rattle.algebra.specs.Numbers.{be, joined, Bytes, All}
use Rattle.algebra.specs.Text.{name_bytes, Named}
use Rattle.algebra.proofs.Exact.{all_from}
use Rattle.colour.specs.Models.{is_model, channels_of}
use Rattle.colour.specs.Channels.{allows_bits}
use Rattle.ase.specs.Grammar.{colour, payload, Model, Channel, Colour}
use Rattle.ase.specs.Damaged.{DamagedName, count_cut, no-units, units_cut, unclosed, DamagedGroup, group_name, group_left, DamagedColour, colour_name, model_cut, wrong_model, channel_cut, wrong_channel, type_cut, wrong_type, colour_left, model_at, channel_at}
use Rattle.ase.proofs.Tables.{model-known, known-model, channel-allowed, allowed-channel}
use Rattle.algebra.proofs.Begins.{First, fewer, number, first}
use Rattle.algebra.proofs.Names.{NameFirst, count_short, count-zero, units_short, units_open, name_whole, name-first}

-- ---- a name

pub data NameOr : List ℕ → Type 0 where
  bad_name : {l : List ℕ} (z p : ℕ) → DamagedName l z p → NameOr l
  good_name : (us l : List ℕ) → Named 2 us → Bytes l → NameOr (name_bytes 2 us ++ l)

name_by : {l : List ℕ} → NameFirst 2 l → NameOr l
name_by (count_short l h) = bad_name 13 2 (count_cut l h)
name_by (count-zero l) = bad_name 8 6 (no-units l)
name_by (units_short n l some small few) = bad_name 13 2 (units_cut n l some small (omega arith))
name_by (units_open us l small fit o) = bad_name 8 6 (unclosed us l small fit o)
name_by (name_whole us l nm b) = good_name us l nm b

pub name-or : (l : List ℕ) → Bytes l → NameOr l
name-or l b = name_by (name-first 2 l b)

-- ---- a group start's content

pub data GroupOr : List ℕ → Type 0 where
  bad_group : {l : List ℕ} (z p : ℕ) → DamagedGroup l z p → GroupOr l
  good_group : (us : List ℕ) → Named 2 us → GroupOr (name_bytes 2 us)

pub group-by : {l : List ℕ} → NameOr l → GroupOr l
group-by (bad_name z p d) = bad_group z p (group_name d)
group-by (good_name us [] nm b) = subst GroupOr (sym (append-nil (name_bytes 2 us))) (good_group us nm)
group-by (good_name us (x ∷ l) nm b) = bad_group 13 2 (group_left us (x ∷ l) nm (omega arith))

-- ---- a colour's channels

data ChannelsOr (t n : ℕ) : List ℕ → Type 0 where
  some_cut : (bs l : List ℕ) → length bs < n → All (λ i b. Channel t b) 0 bs → length l < 4 → ChannelsOr t n (joined (be 4) bs ++ l)
  some_wrong : (bs : List ℕ) (v : ℕ) (l : List ℕ) → length bs < n → All (λ i b. Channel t b) 0 bs → v < 256 ^ 4 → (Channel t v → ⊥) → ChannelsOr t n (joined (be 4) bs ++ (be 4 v ++ l))
  all_there : (bs l : List ℕ) → length bs ≡ n → All (λ i b. Channel t b) 0 bs → Bytes l → ChannelsOr t n (joined (be 4) bs ++ l)

one_more : (t n v : ℕ) {l : List ℕ} → Channel t v → ChannelsOr t n l → ChannelsOr t (suc n) (be 4 v ++ l)
unfolding joined
one_more t n v c (some_cut bs l h a few) = subst (ChannelsOr t (suc n)) (append_assoc (be 4 v) (joined (be 4) bs) l) (some_cut (v ∷ bs) l (omega arith) (c, all_from (λ b. Channel t b) 0 1 bs a) few)
one_more t n v c (some_wrong bs u l h a small w) = subst (ChannelsOr t (suc n)) (append_assoc (be 4 v) (joined (be 4) bs) (be 4 u ++ l)) (some_wrong (v ∷ bs) u l (omega arith) (c, all_from (λ b. Channel t b) 0 1 bs a) small w)
one_more t n v c (all_there bs l e a b) = subst (ChannelsOr t (suc n)) (append_assoc (be 4 v) (joined (be 4) bs) l) (all_there (v ∷ bs) l (ap suc e) (c, all_from (λ b. Channel t b) 0 1 bs a) b)

channel-or : (t v : ℕ) → is_model t ≡ true → v < 256 ^ 4 → Channel t v ⊎ (Channel t v → ⊥)
channel-or t v known small = go (allows_bits t v) refl
  where
    go : (b : Bool) → allows_bits t v ≡ b → Channel t v ⊎ (Channel t v → ⊥)
    go true e = inl (allowed-channel t v small e)
    go false e = inr (λ c. true≢false (sym (channel-allowed known c) ∙ e))

channels-or : (t n : ℕ) (l : List ℕ) → is_model t ≡ true → Bytes l → ChannelsOr t n l
unfolding joined
channels-or t zero l known b = all_there [] l refl tt b
channels-or t (suc n) l known b = go (λ k x. channels-or t n k known x) (first 4 l b)
  where
    go : ((l : List ℕ) → Bytes l → ChannelsOr t n l) → {l : List ℕ} → First 4 l → ChannelsOr t (suc n) l
    go more (fewer l h) = some_cut [] l (omega arith) tt h
    go more (number v l small b) = elim (channel-or t v known small) [
      | inl c ↦ one_more t n v c (more l b)
      | inr w ↦ some_wrong [] v l (omega arith) tt small w
    ]

-- ---- a colour's content

pub data ColourOr : List ℕ → Type 0 where
  bad_colour : {l : List ℕ} (z p : ℕ) → DamagedColour l z p → ColourOr l
  good_colour : (us : List ℕ) (t : ℕ) (bs : List ℕ) (k : ℕ) → Colour us t bs k → ColourOr (payload (colour us t bs k))

module _ (us : List ℕ) (nm : Named 2 us) where
  whole-colour : (t : ℕ) (bs : List ℕ) (k : ℕ) (l : List ℕ) → Colour us t bs k → ColourOr (name_bytes 2 us ++ (be 4 t ++ (joined (be 4) bs ++ (be 2 k ++ l))))
  whole-colour t bs k [] c = subst ColourOr (ap (λ (y : List ℕ). name_bytes 2 us ++ (be 4 t ++ (joined (be 4) bs ++ y))) (sym (append-nil (be 2 k)))) (good_colour us t bs k c)
  whole-colour t bs k (x ∷ l) c =
      let e : payload (colour us t bs k) ++ (x ∷ l) ≡ name_bytes 2 us ++ (be 4 t ++ (joined (be 4) bs ++ (be 2 k ++ (x ∷ l)))) = simp append_assoc in
      subst ColourOr e (bad_colour 13 2 (colour_left us t bs k (x ∷ l) c (omega arith)))

  type-by : (t n : ℕ) (bs : List ℕ) → Model t n → All (λ i b. Channel t b) 0 bs → length bs ≡ n → {l : List ℕ} → First 2 l → ColourOr (name_bytes 2 us ++ (be 4 t ++ (joined (be 4) bs ++ l)))
  type-by t n bs m a e (fewer l h) = bad_colour 13 2 (type_cut us t n bs l (record { named = nm; model = m; channels = a }) e h)
  type-by t n bs m a e (number k l small b) = elim (dec_le k 2) [
    | yes h ↦ whole-colour t bs k l (record { count = n; model = m; all = e; channels = a; type = h; name = nm })
    | no h ↦ bad_colour 5 (channel_at us n) (wrong_type us t n bs k l (record { named = nm; model = m; channels = a }) e (lt_of_not-le h) small)
  ]

  channels-by : (t n : ℕ) → Model t n → {l : List ℕ} → ChannelsOr t n l → ColourOr (name_bytes 2 us ++ (be 4 t ++ l))
  channels-by t n m (some_cut bs l h a few) = bad_colour 13 2 (channel_cut us t n bs l (record { named = nm; model = m; channels = a }) h few)
  channels-by t n m (some_wrong bs v l h a small w) = bad_colour 5 (channel_at us (length bs)) (wrong_channel us t n bs v l (record { named = nm; model = m; channels = a }) h small w)
  channels-by t n m (all_there bs l e a b) = type-by t n bs m a e (first 2 l b)

  model-by : {l : List ℕ} → First 4 l → ColourOr (name_bytes 2 us ++ l)
  model-by (fewer l h) = bad_colour 13 2 (model_cut us l nm h)
  model-by (number t l small b) = go (is_model t) refl
    where
      go : (x : Bool) → is_model t ≡ x → ColourOr (name_bytes 2 us ++ (be 4 t ++ l))
      go true e = channels-by t (channels_of t) (known-model t e) (channels-or t (channels_of t) l e b)
      go false e = bad_colour 4 (model_at us) (wrong_model us t l nm small (λ n m. true≢false (sym (model-known m) ∙ e)))

pub colour-by : {l : List ℕ} → NameOr l → ColourOr l
colour-by (bad_name z p d) = bad_colour z p (colour_name d)
colour-by (good_name us l nm b) = model-by us nm (first 4 l b)
