-- Every byte string within the limit is a file of the grammar or a damaged one. Nothing here reads. Assumes nothing.
use Prim.Native.Nat.{ℕ, ◌+◌, ◌^◌, ◌≤◌, ◌<◌}
use mathlib.Core.Path.{◌≡◌, refl, sym, ap, ◌∙◌, subst}
use mathlib.Core.List.{List, [], ◌∷◌, ◌++◌, append_assoc, append-nil}
use mathlib.Core.Bool.{Bool, true, false, true≢false}
use lib.ListN.{length}
use native.Mathlib.Omega.{arith}
use native.Mathlib.Decide.{ℕ_discrete}
use Rattle.algebra.specs.Chars.{chars}
use Rattle.algebra.specs.Numbers.{be, joined, Bytes, All}
use Rattle.algebra.proofs.Places.{length-be, be-same}
use Rattle.algebra.proofs.Exact.{all_map}
use Rattle.algebra.proofs.Begins.{First, fewer, number, first, Row, shorter, numbers, row, PartOr, bad_part, good_part, PartsOr, bad_parts, good_parts, parts-or}
use Rattle.acb.specs.Grammar.{Colour, Tag, none, spot, process, tagged, Unknown, Book, Space, String, Octets, AllowedRecord, Allowed, File, file, bytes_of_string, colour_bytes, tag_bytes, head_bytes, file_bytes}
use Rattle.acb.specs.Reading.{is_space, components_of}
use Rattle.acb.specs.Damaged.{Paged, signature_cut, wrong_signature, version_cut, wrong_version, identifier_cut, CutString, count_cut, units_cut, DamagedNumbers, colours_cut, size_cut, size-zero, offset_cut, space_cut, wrong_space, CutColour, name_cut, code_cut, component_cut, DamagedEnd, tag_cut, wrong_tag, left_over, opened, strings_end, counting, ending, tag_at, Damaged, wrong_opening, string_cut, wrong_numbers, record_cut, wrong_end}
use Rattle.acb.proofs.Laws.{space-is, is-space}

-- ---- a string

abbrev StringOr : List ℕ → Type 0
StringOr = PartOr String bytes_of_string CutString

units-by : (n : ℕ) → n < 256 ^ 4 → {l : List ℕ} → Row 2 n l → StringOr (be 4 n ++ l)
unfolding bytes_of_string
units-by n small (shorter l h) = bad_part (be 4 n ++ l) 4 (units_cut n l small (omega arith))
units-by n small (numbers us l e fit b) =
    subst (λ (k : ℕ). StringOr (be 4 k ++ (joined (be 2) us ++ l))) e
    (subst StringOr (append_assoc (be 4 (length us)) (joined (be 2) us) l) (good_part us l (record { counted = omega arith; units = fit }) b))

string-or : (l : List ℕ) → Bytes l → StringOr l
string-or l b = go (first 4 l b)
  where
    go : {l : List ℕ} → First 4 l → StringOr l
    go (fewer l h) = bad_part l 0 (count_cut l h)
    go (number n l small b) = units-by n small (row 2 n l b)

-- ---- a record of n components

octets : (n : ℕ) (bs : List ℕ) → length bs ≡ n → All (λ k b. b < 256 ^ 1) 0 bs → Octets n bs
octets n bs e fit = record { count = e; each = all_map (λ k b. b < 256 ^ 1) (λ k b. b < 256) (λ k b l. omega arith) 0 bs fit }

module _ (n : ℕ) where
  abbrev ColourOr : List ℕ → Type 0
  ColourOr = PartOr (AllowedRecord n) colour_bytes (CutColour n)

  components-by : (us : List ℕ) → String us → (cs : List ℕ) → Octets 6 cs → {l : List ℕ} → Row 1 n l → ColourOr (bytes_of_string us ++ (joined (be 1) cs ++ l))
  unfolding colour_bytes
  components-by us s cs o (shorter l h) = bad_part (bytes_of_string us ++ (joined (be 1) cs ++ l)) (length (bytes_of_string us) + (6 + length l)) (component_cut us cs l s o (omega arith))
  components-by us s cs o (numbers ks l e fit b) =
      let x : (bytes_of_string us ++ (joined (be 1) cs ++ joined (be 1) ks)) ++ l ≡ bytes_of_string us ++ (joined (be 1) cs ++ (joined (be 1) ks ++ l)) =
      append_assoc (bytes_of_string us) (joined (be 1) cs ++ joined (be 1) ks) l ∙ ap (λ (y : List ℕ). bytes_of_string us ++ y) (append_assoc (joined (be 1) cs) (joined (be 1) ks) l) in
      subst ColourOr x (good_part (record { name = us; code = cs; components = ks }) l (record { name = s; code = o; components = octets n ks e fit }) b)

  code_by : (us : List ℕ) → String us → {l : List ℕ} → Row 1 6 l → ColourOr (bytes_of_string us ++ l)
  code_by us s (shorter l h) = bad_part (bytes_of_string us ++ l) (length (bytes_of_string us)) (code_cut us l s (omega arith))
  code_by us s (numbers cs l e fit b) = components-by us s cs (octets 6 cs e fit) (row 1 n l b)

  colour-or : (l : List ℕ) → Bytes l → ColourOr l
  colour-or l b = go (string-or l b)
    where
      go : {l : List ℕ} → StringOr l → ColourOr l
      go (bad_part l p d) = bad_part l p (name_cut l p d)
      go (good_part us l s b) = code_by us s (row 1 6 l b)

-- ---- colour count, page size, page offset, space

data NumbersOr : List ℕ → Type 0 where
  bad_numbers : {l : List ℕ} (z p : ℕ) → DamagedNumbers l z p → NumbersOr l
  good_numbers : (n z o v m : ℕ) (l : List ℕ) → Paged n z → o < 256 ^ 2 → Space v m → Bytes l → NumbersOr (be 2 n ++ (be 2 z ++ (be 2 o ++ (be 2 v ++ l))))

module _ (n : ℕ) (fn : n < 256 ^ 2) where
  space-by : (z o : ℕ) → Paged n z → o < 256 ^ 2 → {l : List ℕ} → First 2 l → NumbersOr (be 2 n ++ (be 2 z ++ (be 2 o ++ l)))
  space-by z o paged fo (fewer l h) = bad_numbers 2 6 (space_cut n z o l paged fo h)
  space-by z o paged fo (number v l fv b) = go (is_space v) refl
    where
      go : (k : Bool) → is_space v ≡ k → NumbersOr (be 2 n ++ (be 2 z ++ (be 2 o ++ (be 2 v ++ l))))
      go true e = good_numbers n z o v (components_of v) l paged fo (is-space v e) b
      go false e = bad_numbers 4 6 (wrong_space n z o v l paged fo fv (λ m sp. true≢false (sym (space-is sp) ∙ e)))

  offset-by : (z : ℕ) → Paged n z → {l : List ℕ} → First 2 l → NumbersOr (be 2 n ++ (be 2 z ++ l))
  offset-by z paged (fewer l h) = bad_numbers 2 4 (offset_cut n z l paged h)
  offset-by z paged (number o l fo b) = space-by z o paged fo (first 2 l b)

  size-by : {l : List ℕ} → First 2 l → NumbersOr (be 2 n ++ l)
  size-by (fewer l h) = bad_numbers 2 2 (size_cut n l fn h)
  size-by (number z l fz b) = elim (ℕ_discrete z 0) [
    | yes e ↦ subst (λ (k : ℕ). NumbersOr (be 2 n ++ (be 2 k ++ l))) (sym e) (bad_numbers 5 2 (size-zero n l fn))
    | no e ↦ offset-by z (record { count = fn; some = omega arith; size = fz }) (first 2 l b)
  ]

numbers-by : {l : List ℕ} → First 2 l → NumbersOr l
numbers-by (fewer l h) = bad_numbers 2 0 (colours_cut l h)
numbers-by (number n l fn b) = size-by n fn (first 2 l b)

-- ---- what stands behind the records

unknown : (v : ℕ) → v < 256 ^ 8 → (v ≡ chars "spflspot" → ⊥) → (v ≡ chars "spflproc" → ⊥) → Unknown v
unknown v small a b = record { small = small; no_tag = λ t. go t }
  where
    go : (t : Tag) → be 8 v ≡ tag_bytes t → ⊥
    go none e = omega (arith, length-be 8 v, ap length e)
    go spot e = a (be-same 8 v (chars "spflspot") small (omega arith) e)
    go process e = b (be-same 8 v (chars "spflproc") small (omega arith) e)

data EndOr : List ℕ → Type 0 where
  bad_end : {l : List ℕ} (z p : ℕ) → DamagedEnd l z p → EndOr l
  good_end : (t : Tag) → EndOr (tag_bytes t)

-- a tag is there
tagged-by : (t : Tag) → (t ≡ none → ⊥) → (l : List ℕ) → EndOr (tag_bytes t ++ l)
tagged-by t ne [] = subst EndOr (sym (append-nil (tag_bytes t))) (good_end t)
tagged-by t ne (x ∷ l) = bad_end 6 8 (left_over t (x ∷ l) ne (omega arith))

eight-some : (t : Tag) → length (tag_bytes t) ≡ 8 → t ≡ none → ⊥
eight-some t l e = let z : length (tag_bytes t) ≡ 0 = ap (λ (t : Tag). length (tag_bytes t)) e in omega arith

tag-by : {l : List ℕ} → 0 < length l → First 8 l → EndOr l
tag-by some (fewer l h) = bad_end 2 0 (tag_cut l some h)
tag-by some (number v l small b) = elim (ℕ_discrete v (chars "spflspot")) [
  | yes e ↦ subst (λ (k : ℕ). EndOr (be 8 k ++ l)) (sym e) (tagged-by spot (eight-some spot (length-be 8 (chars "spflspot"))) l)
  | no e ↦ elim (ℕ_discrete v (chars "spflproc")) [
    | yes f ↦ subst (λ (k : ℕ). EndOr (be 8 k ++ l)) (sym f) (tagged-by process (eight-some process (length-be 8 (chars "spflproc"))) l)
    | no f ↦ bad_end 3 0 (wrong_tag v l (unknown v small e f))
  ]
]

end-or : (l : List ℕ) → Bytes l → EndOr l
end-or [] b = good_end none
end-or (x ∷ l) b = tag-by (omega arith) (first 8 (x ∷ l) b)

-- ---- the file

pub data FileOr (s : List ℕ) : Type 0 where
  is_file : (b : Book) → File b s → FileOr s
  is_damaged : (z p : ℕ) → Damaged s z p → FileOr s

abbrev Short : List ℕ → Type 0
Short l = length l ≤ 16777216

abbrev ended : Book → Tag → Book
ended b t = record { identifier = b.identifier; texts = b.texts; size = b.size; offset = b.offset; space = b.space; colours = b.colours; tag = tagged t }

-- header and records are there
end_by : (b : Book) → Allowed b → {l : List ℕ} → EndOr l → Short (ending b l) → FileOr (ending b l)
unfolding ending file_bytes head_bytes
end_by b a (bad_end {l} z p d) fits = is_damaged z (tag_at b + p) (wrong_end b l z p a d)
end_by b a (good_end t) fits = is_file (ended b t) (file (record { identifier = a.identifier; four = a.four; texts = a.texts; count = a.count; size = a.size; offset = a.offset; components = a.components; space = a.space; colours = a.colours; ends = t; tag = refl }) fits)

-- identifier and strings are there
module _ (i : ℕ) (ts : List (List ℕ)) (fi : i < 256 ^ 2) (four : length ts ≡ 4) (texts : All (λ k us. String us) 0 ts) where
  abbrev made : ℕ → ℕ → ℕ → List Colour → Book
  made z o v cs = record { identifier = i; texts = ts; size = z; offset = o; space = v; colours = cs; tag = tagged none }

  sound : (n z o v m : ℕ) (cs : List Colour) → Paged n z → o < 256 ^ 2 → Space v m → length cs ≤ n → All (λ k c. AllowedRecord m c) 0 cs → Allowed (made z o v cs)
  sound n z o v m cs h fo sp few ok = record { identifier = fi; four = four; texts = texts; count = omega (arith, h.count); size = (h.some, h.size); offset = fo; components = m; space = sp; colours = ok; ends = none; tag = refl }

  abbrev headed : ℕ → ℕ → ℕ → ℕ → List ℕ → List ℕ
  headed n z o v l = opened i ts (be 2 n ++ (be 2 z ++ (be 2 o ++ (be 2 v ++ l))))

  records-by : (n z o v m : ℕ) → Paged n z → o < 256 ^ 2 → Space v m → {l : List ℕ} → PartsOr (AllowedRecord m) colour_bytes (CutColour m) n l → Short (headed n z o v l) → FileOr (headed n z o v l)
  unfolding counting opened ending head_bytes sound
  records-by n z o v m h fo sp (bad_parts before l p few ok d) fits =
      let b : Book = made z o v before in
      is_damaged 2 (tag_at b + p) (record_cut n b l p (sound n z o v m before h fo sp (omega arith) ok) h.count few d)
  records-by n z o v m h fo sp (good_parts cs l all ok b) fits =
      let e : ending (made z o v cs) l ≡ headed n z o v (joined colour_bytes cs ++ l) = simp append_assoc (ap (λ (k : ℕ). headed k z o v (joined colour_bytes cs ++ l)) all) in
      subst FileOr e (end_by (made z o v cs) (sound n z o v m cs h fo sp (omega arith) ok) (end-or l b) (subst Short (sym e) fits))

  header-by : {l : List ℕ} → NumbersOr l → Short (opened i ts l) → FileOr (opened i ts l)
  header-by (bad_numbers {l} z p d) fits = is_damaged z (strings_end ts + p) (wrong_numbers i ts l z p fi four texts d)
  header-by (good_numbers n z o v m l h fo sp b) fits = records-by n z o v m h fo sp (parts-or (AllowedRecord m) colour_bytes (CutColour m) (colour-or m) n l b) fits

abbrev begun : ℕ → List ℕ → List ℕ
begun i l = be 4 (chars "8BCB") ++ (be 2 1 ++ (be 2 i ++ l))

strings-by : (i : ℕ) → i < 256 ^ 2 → {l : List ℕ} → PartsOr String bytes_of_string CutString 4 l → Short (begun i l) → FileOr (begun i l)
unfolding opened
strings-by i fi (bad_parts before l p few ok d) fits = is_damaged 2 (strings_end before + p) (string_cut i before l p fi few ok d)
strings-by i fi (good_parts ts l four ok b) fits = header-by i ts fi four ok (numbers-by (first 2 l b)) fits

identifier-by : {l : List ℕ} → First 2 l → Short (be 4 (chars "8BCB") ++ (be 2 1 ++ l)) → FileOr (be 4 (chars "8BCB") ++ (be 2 1 ++ l))
identifier-by (fewer l h) fits = is_damaged 2 6 (wrong_opening _ 2 6 (identifier_cut l h))
identifier-by (number i l fi b) fits = strings-by i fi (parts-or String bytes_of_string CutString string-or 4 l b) fits

version-by : {l : List ℕ} → First 2 l → Short (be 4 (chars "8BCB") ++ l) → FileOr (be 4 (chars "8BCB") ++ l)
version-by (fewer l h) fits = is_damaged 2 4 (wrong_opening _ 2 4 (version_cut l h))
version-by (number v l small b) fits = elim (ℕ_discrete v 1) [
  | yes e ↦ subst (λ (k : ℕ). Short (be 4 (chars "8BCB") ++ (be 2 k ++ l)) → FileOr (be 4 (chars "8BCB") ++ (be 2 k ++ l))) (sym e) (identifier-by (first 2 l b)) fits
  | no e ↦ is_damaged 3 4 (wrong_opening _ 3 4 (wrong_version v l small e))
]

signature-by : {l : List ℕ} → First 4 l → Short l → FileOr l
signature-by (fewer l h) fits = is_damaged 2 0 (wrong_opening l 2 0 (signature_cut l h))
signature-by (number v l small b) fits = elim (ℕ_discrete v (chars "8BCB")) [
  | yes e ↦ subst (λ (k : ℕ). Short (be 4 k ++ l) → FileOr (be 4 k ++ l)) (sym e) (version-by (first 2 l b)) fits
  | no e ↦ is_damaged 3 0 (wrong_opening (be 4 v ++ l) 3 0 (wrong_signature v l small e))
]

pub file-or : (s : List ℕ) → Bytes s → length s ≤ 16777216 → FileOr s
file-or s b fits = signature-by (first 4 s b) fits
