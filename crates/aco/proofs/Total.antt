-- Every byte string within the limit is a file of the grammar or a damaged one. Nothing here reads. Assumes nothing.
use Prim.Native.Nat.{ℕ, zero, suc, ◌+◌, ◌*◌, ◌^◌, ◌≤◌, ◌<◌}
use mathlib.Core.Path.{◌≡◌, refl, sym, ap, ap₂, ◌∙◌, subst}
use mathlib.Core.List.{List, [], ◌∷◌, ◌++◌, append_assoc, append-nil}
use mathlib.Core.Logic.{◌⊎◌, inl, inr}
use mathlib.Core.Bool.{Bool, true, false, true≢false}
use lib.ListN.{length, get_or, take, length-append}
use native.Mathlib.Omega.{arith}
use native.Mathlib.Nat.{zero-add, lt_of_not-le}
use native.Mathlib.Decide.{ℕ_discrete, dec_le}
use Rattle.algebra.specs.Numbers.{be, joined, Bytes, All}
use Rattle.algebra.specs.Text.{name_bytes, Named}
use Rattle.algebra.proofs.Places.{length-be}
use Rattle.algebra.proofs.Exact.{all_from}
use Rattle.algebra.proofs.Begins.{First, fewer, number, first}
use Rattle.algebra.proofs.Names.{NameFirst, count_short, count-zero, units_short, units_open, name_whole, name-first}
use Rattle.colour.specs.Spaces.{known, allowed}
use Rattle.aco.specs.Grammar.{Swatch, Scale, Space, Sample, Allowed, Palette, colour_bytes, entry_bytes, list_one, list_two, two_lists, File, plain, named}
use Rattle.aco.specs.Damaged.{version_cut, wrong_version, colours_cut, DamagedColour, space_cut, wrong_space, sample_cut, wrong_sample, count_cut, no-units, units_cut, unclosed, fields_of, DamagedRecord, field_cut, difference, wrong_name, colouring, counting, recording, behind, swatch_at, Repeating, Damaged, first_heading, too_many, wrong_colour, second_heading, other_count, wrong_record, left_over}
use Rattle.aco.proofs.Laws.{space-known, known-space, allowed-sample, sample-allowed}

-- ---- a colour of list 1

-- sample k of a space
sample-or : {x : ℕ} {scales : List Scale} → Space x scales → (k v : ℕ) → Sample scales k v ⊎ (Sample scales k v → ⊥)
sample-or {x} {scales} of k v = go (allowed x k v) refl
  where
    go : (b : Bool) → allowed x k v ≡ b → Sample scales k v ⊎ (Sample scales k v → ⊥)
    go true e = inl (allowed-sample of k v e)
    go false e = inr (λ h. true≢false (sym (sample-allowed of k v h) ∙ e))

-- n samples from sample i
data SamplesOr (scales : List Scale) (n i : ℕ) : List ℕ → Type 0 where
  some_cut : (vs l : List ℕ) → length vs < n → All (Sample scales) i vs → length l < 2 → SamplesOr scales n i (joined (be 2) vs ++ l)
  some_wrong : (vs : List ℕ) (v : ℕ) (l : List ℕ) → length vs < n → All (Sample scales) i vs → v < 256 ^ 2 → (Sample scales (i + length vs) v → ⊥) → SamplesOr scales n i (joined (be 2) vs ++ (be 2 v ++ l))
  all_there : (vs l : List ℕ) → length vs ≡ n → All (Sample scales) i vs → Bytes l → SamplesOr scales n i (joined (be 2) vs ++ l)

one_more : (scales : List Scale) (n i v : ℕ) {l : List ℕ} → Sample scales i v → SamplesOr scales n (i + 1) l → SamplesOr scales (suc n) i (be 2 v ++ l)
unfolding joined
one_more scales n i v c (some_cut vs l h a few) = subst (SamplesOr scales (suc n) i) (append_assoc (be 2 v) (joined (be 2) vs) l) (some_cut (v ∷ vs) l (omega arith) (c, a) few)
one_more scales n i v c (some_wrong vs u l h a small w) =
    let e : i + suc (length vs) ≡ i + 1 + length vs = omega arith in
    subst (SamplesOr scales (suc n) i) (append_assoc (be 2 v) (joined (be 2) vs) (be 2 u ++ l)) (some_wrong (v ∷ vs) u l (omega arith) (c, a) small (λ x. w (subst (λ (k : ℕ). Sample scales k u) e x)))
one_more scales n i v c (all_there vs l e a b) = subst (SamplesOr scales (suc n) i) (append_assoc (be 2 v) (joined (be 2) vs) l) (all_there (v ∷ vs) l (ap suc e) (c, a) b)

samples-or : {x : ℕ} (scales : List Scale) → Space x scales → (n i : ℕ) (l : List ℕ) → Bytes l → SamplesOr scales n i l
unfolding joined
samples-or scales of zero i l b = all_there [] l refl tt b
samples-or scales of (suc n) i l b = go (λ k x. samples-or scales of n (i + 1) k x) (first 2 l b)
  where
    go : ((l : List ℕ) → Bytes l → SamplesOr scales n (i + 1) l) → {l : List ℕ} → First 2 l → SamplesOr scales (suc n) i l
    go more (fewer l h) = some_cut [] l (omega arith) tt h
    go more (number v l small b) = elim (sample-or of i v) [
      | inl c ↦ one_more scales n i v c (more l b)
      | inr w ↦ let e : i + 0 ≡ i = omega arith in some_wrong [] v l (omega arith) tt small (λ x. w (subst (λ (k : ℕ). Sample scales k v) e x))
    ]

data ColourOr : List ℕ → Type 0 where
  bad_colour : {l : List ℕ} (z p : ℕ) → DamagedColour l z p → ColourOr l
  good_colour : (w : Swatch) (l : List ℕ) → Allowed w → w.name ≡ [] → Bytes l → ColourOr (colour_bytes w ++ l)

samples-by : (x : ℕ) (scales : List Scale) → Space x scales → {l : List ℕ} → SamplesOr scales 4 0 l → ColourOr (be 2 x ++ l)
unfolding colour_bytes
samples-by x scales sp (some_cut vs l h a few) = bad_colour 2 (2 + 2 * length vs) (sample_cut x scales vs l (record { space = sp; samples = a; more = h }) few)
samples-by x scales sp (some_wrong vs v l h a small w) =
    bad_colour 5 (2 + 2 * length vs) (wrong_sample x scales vs v l (record { space = sp; samples = a; more = h }) small (λ k. w (subst (λ (n : ℕ). Sample scales n v) (sym (zero-add (length vs))) k)))
samples-by x scales sp (all_there vs l e a b) =
    subst ColourOr (append_assoc (be 2 x) (joined (be 2) vs) l)
    (good_colour (record { space = x; samples = vs; name = [] }) l (record { scales = scales; space = sp; four = e; samples = a; name = record { counted = omega arith; units = tt } }) refl b)

colour-by : {l : List ℕ} → First 2 l → ColourOr l
colour-by (fewer l h) = bad_colour 2 0 (space_cut l h)
colour-by (number x l small b) = go (known x) refl
  where
    go : (k : Bool) → known x ≡ k → ColourOr (be 2 x ++ l)
    go true e = let y = known-space x e in samples-by x y.0 y.1 (samples-or y.0 y.1 4 0 l b)
    go false e = bad_colour 4 0 (wrong_space x l small (λ scales sp. true≢false (sym (space-known sp) ∙ e)))

-- ---- n colours, without names

data ColoursOr (n : ℕ) : List ℕ → Type 0 where
  bad_colours : (before : List Swatch) (l : List ℕ) (z p : ℕ) → length before < n → All (λ k w. Allowed w) 0 before → DamagedColour l z p → ColoursOr n (joined colour_bytes before ++ l)
  good_colours : (ws : List Swatch) (l : List ℕ) → length ws ≡ n → All (λ k w. Allowed w) 0 ws → All (λ k w. w.name ≡ []) 0 ws → Bytes l → ColoursOr n (joined colour_bytes ws ++ l)

colour-more : (n : ℕ) (w : Swatch) → Allowed w → w.name ≡ [] → {l : List ℕ} → ColoursOr n l → ColoursOr (suc n) (colour_bytes w ++ l)
unfolding joined
colour-more n w a e (bad_colours before l z p less ok d) =
    subst (ColoursOr (suc n)) (append_assoc (colour_bytes w) (joined colour_bytes before) l) (bad_colours (w ∷ before) l z p (omega arith) (a, all_from Allowed 0 1 before ok) d)
colour-more n w a e (good_colours ws l all ok bare b) =
    subst (ColoursOr (suc n)) (append_assoc (colour_bytes w) (joined colour_bytes ws) l) (good_colours (w ∷ ws) l (ap suc all) (a, all_from Allowed 0 1 ws ok) (e, all_from (λ w. w.name ≡ []) 0 1 ws bare) b)

colours-or : (n : ℕ) (l : List ℕ) → Bytes l → ColoursOr n l
unfolding joined
colours-or zero l b = good_colours [] l refl tt tt b
colours-or (suc n) l b = go (λ k x. colours-or n k x) (colour-by (first 2 l b))
  where
    go : ((l : List ℕ) → Bytes l → ColoursOr n l) → {l : List ℕ} → ColourOr l → ColoursOr (suc n) l
    go more (bad_colour {l} z p d) = bad_colours [] l z p (omega arith) tt d
    go more (good_colour w l a e x) = colour-more n w a e (more l x)

-- ---- a record of list 2

-- the numbers fs, or another, or fewer bytes
data FieldsOr (fs : List ℕ) : List ℕ → Type 0 where
  short_at : (f : ℕ) (l : List ℕ) → f < length fs → length l < 2 → FieldsOr fs (joined (be 2) (take f fs) ++ l)
  other_at : (f v : ℕ) (l : List ℕ) → f < length fs → v < 256 ^ 2 → (v ≡ get_or fs f 0 → ⊥) → FieldsOr fs (joined (be 2) (take f fs) ++ (be 2 v ++ l))
  all_same : (l : List ℕ) → Bytes l → FieldsOr fs (joined (be 2) fs ++ l)

field-more : (v : ℕ) (fs : List ℕ) {l : List ℕ} → FieldsOr fs l → FieldsOr (v ∷ fs) (be 2 v ++ l)
unfolding joined
field-more v fs (short_at f l h few) = subst (FieldsOr (v ∷ fs)) (append_assoc (be 2 v) (joined (be 2) (take f fs)) l) (short_at (suc f) l (omega arith) few)
field-more v fs (other_at f u l h small ne) = subst (FieldsOr (v ∷ fs)) (append_assoc (be 2 v) (joined (be 2) (take f fs)) (be 2 u ++ l)) (other_at (suc f) u l (omega arith) small ne)
field-more v fs (all_same l b) = subst (FieldsOr (v ∷ fs)) (append_assoc (be 2 v) (joined (be 2) fs) l) (all_same l b)

fields-or : (fs l : List ℕ) → Bytes l → FieldsOr fs l
unfolding joined
fields-or [] l b = all_same l b
fields-or (x ∷ fs) l b = go (λ k c. fields-or fs k c) (first 2 l b)
  where
    go : ((l : List ℕ) → Bytes l → FieldsOr fs l) → {l : List ℕ} → First 2 l → FieldsOr (x ∷ fs) l
    go more (fewer l h) = short_at 0 l (omega arith) h
    go more (number v l small b) = elim (ℕ_discrete v x) [
      | yes e ↦ subst (λ (k : ℕ). FieldsOr (x ∷ fs) (be 2 k ++ l)) (sym e) (field-more x fs (more l b))
      | no e ↦ other_at 0 v l (omega arith) small e
    ]

abbrev renamed : Swatch → List ℕ → Swatch
renamed w us = record { space = w.space; samples = w.samples; name = us }

data RecordOr (i : ℕ) (w : Swatch) : List ℕ → Type 0 where
  bad_record : {l : List ℕ} (z p r f : ℕ) → DamagedRecord i w l z p r f → RecordOr i w l
  good_record : (us l : List ℕ) → Named 4 us → Bytes l → RecordOr i w (entry_bytes (renamed w us) ++ l)

module _ (i : ℕ) (w : Swatch) where
  name_by : {l : List ℕ} → NameFirst 4 l → RecordOr i w (colour_bytes w ++ l)
  unfolding entry_bytes colour_bytes
  name_by (count_short l h) = bad_record 2 10 0 0 (wrong_name l 2 0 (count_cut l h))
  name_by (count-zero l) = bad_record 8 10 0 0 (wrong_name (be 4 0 ++ l) 8 0 (no-units l))
  name_by (units_short n l some small few) = bad_record 2 14 0 0 (wrong_name (be 4 n ++ l) 2 4 (units_cut n l some small (omega arith)))
  name_by (units_open us l small fit o) = bad_record 8 10 0 0 (wrong_name (be 4 (length us) ++ (joined (be 2) us ++ l)) 8 0 (unclosed us l small fit o))
  name_by (name_whole us l nm b) = subst (RecordOr i w) (append_assoc (colour_bytes w) (name_bytes 4 us) l) (good_record us l nm b)

  fields-by : length w.samples ≡ 4 → {l : List ℕ} → FieldsOr (fields_of w) l → RecordOr i w l
  unfolding joined colour_bytes
  fields-by four (short_at f l h few) = bad_record 2 (2 * f) 0 0 (field_cut f l (omega arith) few)
  fields-by four (other_at f v l h small ne) = bad_record 7 (2 * f) i f (difference f v l (omega arith) small ne)
  fields-by four (all_same l b) = name_by (name-first 4 l b)

-- ---- the records of list 2 from record i, where list 1 has the colours of ws from there

abbrev Same : List Swatch → ℕ → Swatch → Type 0
Same ws k w = fields_of w ≡ fields_of (swatch_at ws k)

data RecordsOr (i : ℕ) (ws : List Swatch) : List ℕ → Type 0 where
  bad_records : (before : List Swatch) (l : List ℕ) (z p r f : ℕ) → Repeating ws before → DamagedRecord (i + length before) (swatch_at ws (length before)) l z p r f → RecordsOr i ws (joined entry_bytes before ++ l)
  good_records : (rs : List Swatch) (l : List ℕ) → length rs ≡ length ws → All (λ k w. Allowed w) 0 rs → joined colour_bytes rs ≡ joined colour_bytes ws → Bytes l → RecordsOr i ws (joined entry_bytes rs ++ l)

-- swatches of a palette by their numbers, with one more before them
same_next : (w : Swatch) (ws : List Swatch) (i : ℕ) (l : List Swatch) → All (Same ws) i l → All (Same (w ∷ ws)) (suc i) l
same_next w ws i [] h = tt
same_next w ws i (x ∷ l) h = let e : suc (i + 1) ≡ suc i + 1 = omega arith in (h.0, subst (λ (k : ℕ). All (Same (w ∷ ws)) k l) e (same_next w ws (i + 1) l h.1))

record-more : (i : ℕ) (w : Swatch) (ws : List Swatch) → Allowed w → (us : List ℕ) → Named 4 us → {l : List ℕ} → RecordsOr (i + 1) ws l → RecordsOr i (w ∷ ws) (entry_bytes (renamed w us) ++ l)
unfolding joined colour_bytes
record-more i w ws a us nm (bad_records before l z p r f rep d) =
    let e : i + 1 + length before ≡ i + suc (length before) = omega arith in
    let v : Swatch = renamed w us in
    subst (RecordsOr i (w ∷ ws)) (append_assoc (entry_bytes v) (joined entry_bytes before) l)
    (bad_records (v ∷ before) l z p r f (record { more = omega (arith, rep.more); same = (refl, same_next w ws 0 before rep.same); names = (nm, all_from (λ w. Named 4 w.name) 0 1 before rep.names) }) (subst (λ (k : ℕ). DamagedRecord k (swatch_at ws (length before)) l z p r f) e d))
record-more i w ws a us nm (good_records rs l all ok same b) =
    let v : Swatch = renamed w us in
    subst (RecordsOr i (w ∷ ws)) (append_assoc (entry_bytes v) (joined entry_bytes rs) l)
    (good_records (v ∷ rs) l (ap suc all) (record { scales = a.scales; space = a.space; four = a.four; samples = a.samples; name = nm }, all_from Allowed 0 1 rs ok) (ap (λ (y : List ℕ). colour_bytes w ++ y) same) b)

records-or : (i : ℕ) (ws : List Swatch) → All (λ k w. Allowed w) 0 ws → (l : List ℕ) → Bytes l → RecordsOr i ws l
unfolding joined
records-or i [] ok l b = good_records [] l refl tt refl b
records-or i (w ∷ ws) ok l b = go (λ k x. records-or (i + 1) ws (all_from Allowed 1 0 ws ok.1) k x) (fields-by i w ok.0.four (fields-or (fields_of w) l b))
  where
    go : ((l : List ℕ) → Bytes l → RecordsOr (i + 1) ws l) → {l : List ℕ} → RecordOr i w l → RecordsOr i (w ∷ ws) l
    go more (bad_record {l} z p r f d) =
        let e : i ≡ i + 0 = omega arith in
        bad_records [] l z p r f (record { more = omega arith; same = tt; names = tt }) (subst (λ (k : ℕ). DamagedRecord k w l z p r f) e d)
    go more (good_record us l nm x) = record-more i w ws ok.0 us nm (more l x)

-- ---- the file

pub data FileOr (s : List ℕ) : Type 0 where
  is_file : (n : ℕ) (ws : List Swatch) → File n ws s → FileOr s
  is_damaged : (z p r f : ℕ) → Damaged s z p r f → FileOr s

abbrev Short : List ℕ → Type 0
Short l = length l ≤ 16777216

-- both lists are there
ended_by : (ws : List Swatch) → Palette ws → (l : List ℕ) → Short (two_lists ws ++ l) → FileOr (two_lists ws ++ l)
ended_by ws pal [] fits = let e : two_lists ws ≡ two_lists ws ++ [] = sym (append-nil (two_lists ws)) in subst FileOr e (is_file 2 ws (named pal (subst Short (sym e) fits)))
ended_by ws pal (x ∷ l) fits = is_damaged 6 (length (two_lists ws)) 0 0 (left_over ws (x ∷ l) pal (omega arith))

module _ (ws : List Swatch) (pal : Palette ws) where
  records-by : {l : List ℕ} → RecordsOr 0 ws l → Short (counting ws (length ws) l) → FileOr (counting ws (length ws) l)
  unfolding recording counting two_lists list_one list_two
  records-by (bad_records before l z p r f rep d) fits = is_damaged z (behind ws before + p) r f (wrong_record ws before l z p r f pal rep (subst (λ (k : ℕ). DamagedRecord k (swatch_at ws (length before)) l z p r f) (zero-add (length before)) d))
  records-by (good_records rs l all ok same b) fits =
      let e : two_lists rs ++ l ≡ counting ws (length ws) (joined entry_bytes rs ++ l) =
      simp append_assoc (ap₂ (λ (n : ℕ) (y : List ℕ). be 2 1 ++ (be 2 n ++ (y ++ (be 2 2 ++ (be 2 n ++ (joined entry_bytes rs ++ l)))))) all same) in
      subst FileOr e (ended_by rs (record { count = omega (arith, pal.count); swatches = ok }) l (subst Short (sym e) fits))

  second-count-by : {l : List ℕ} → First 2 l → Short (list_one ws ++ (be 2 2 ++ l)) → FileOr (list_one ws ++ (be 2 2 ++ l))
  unfolding counting
  second-count-by (fewer l h) fits = is_damaged 2 (length (list_one ws) + 2) 0 0 (second_heading ws (be 2 2 ++ l) 2 2 pal (omega (arith, length-append (be 2 2) l, length-be 2 2)) (colours_cut l h))
  second-count-by (number m l small b) fits = elim (ℕ_discrete m (length ws)) [
    | yes e ↦ subst (λ (k : ℕ). Short (counting ws k l) → FileOr (counting ws k l)) (sym e) (records-by (records-or 0 ws pal.swatches l b)) fits
    | no e ↦ is_damaged 7 (length (list_one ws) + 2) 0 5 (other_count ws m l pal small e)
  ]

  second-by : {l : List ℕ} → 0 < length l → First 2 l → Short (list_one ws ++ l) → FileOr (list_one ws ++ l)
  second-by some (fewer l h) fits = is_damaged 2 (length (list_one ws) + 0) 0 0 (second_heading ws l 2 0 pal some (version_cut l h))
  second-by some (number v l small b) fits = elim (ℕ_discrete v 2) [
    | yes e ↦ subst (λ (k : ℕ). Short (list_one ws ++ (be 2 k ++ l)) → FileOr (list_one ws ++ (be 2 k ++ l))) (sym e) (second-count-by (first 2 l b)) fits
    | no e ↦ is_damaged 3 (length (list_one ws) + 0) 0 0 (second_heading ws (be 2 v ++ l) 3 0 pal some (wrong_version v l small e))
  ]

  -- list 1 is there
  one-by : All (λ k w. w.name ≡ []) 0 ws → (l : List ℕ) → Bytes l → Short (list_one ws ++ l) → FileOr (list_one ws ++ l)
  one-by bare [] b fits = let e : list_one ws ≡ list_one ws ++ [] = sym (append-nil (list_one ws)) in subst FileOr e (is_file 1 ws (plain pal bare (subst Short (sym e) fits)))
  one-by bare (x ∷ l) b fits = second-by (omega arith) (first 2 (x ∷ l) b) fits

abbrev headed : ℕ → List ℕ → List ℕ
headed n l = be 2 1 ++ (be 2 n ++ l)

colours-by : (n : ℕ) → n ≤ 4096 → {l : List ℕ} → ColoursOr n l → Short (headed n l) → FileOr (headed n l)
unfolding colouring list_one
colours-by n few (bad_colours before l z p less ok d) fits = is_damaged z (4 + 10 * length before + p) 0 0 (wrong_colour n before l z p few less ok d)
colours-by n few (good_colours ws l all ok bare b) fits =
    let e : list_one ws ++ l ≡ headed n (joined colour_bytes ws ++ l) = simp append_assoc (ap (λ (k : ℕ). headed k (joined colour_bytes ws ++ l)) all) in
    subst FileOr e (one-by ws (record { count = omega arith; swatches = ok }) bare l b (subst Short (sym e) fits))

count_by : {l : List ℕ} → First 2 l → Short (be 2 1 ++ l) → FileOr (be 2 1 ++ l)
count_by (fewer l h) fits = is_damaged 2 2 0 0 (first_heading (be 2 1 ++ l) 2 2 (colours_cut l h))
count_by (number n l small b) fits = elim (dec_le n 4096) [
  | yes h ↦ colours-by n h (colours-or n l b) fits
  | no h ↦ is_damaged 5 2 0 0 (too_many n l (lt_of_not-le h) small)
]

version-by : {l : List ℕ} → First 2 l → Short l → FileOr l
version-by (fewer l h) fits = is_damaged 2 0 0 0 (first_heading l 2 0 (version_cut l h))
version-by (number v l small b) fits = elim (ℕ_discrete v 1) [
  | yes e ↦ subst (λ (k : ℕ). Short (be 2 k ++ l) → FileOr (be 2 k ++ l)) (sym e) (count_by (first 2 l b)) fits
  | no e ↦ is_damaged 3 0 0 0 (first_heading (be 2 v ++ l) 3 0 (wrong_version v l small e))
]

pub file-or : (s : List ℕ) → Bytes s → length s ≤ 16777216 → FileOr s
file-or s b fits = version-by (first 2 s b) fits
