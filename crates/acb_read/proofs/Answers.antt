-- What `read`, `record_at` and `name_at` answer, on plain values. Assumes nothing.
use Prim.Native.Nat.{ℕ, zero, suc, ◌+◌, ◌*◌, ◌-◌, ◌≤◌, ◌<◌}
use mathlib.Core.Path.{◌≡◌, refl, sym, ap, ap₂, ◌∙◌, subst}
use mathlib.Core.List.{List, [], ◌∷◌, map, map-map}
use mathlib.Core.Bool.{Bool, true, false}
use lib.ListN.{length, get_or}
use lib.Dec.{ltb}
use borrow.Author.Tests.{ltb-true, lt-ltb}
use native.Mathlib.Omega.{arith}
use Rattle.algebra.specs.Numbers.{joined}
use Rattle.algebra.specs.Reader.{Res, ok, refuse, pick, limit}
use Rattle.algebra.specs.Store.{part}
use Rattle.algebra.specs.Table.{Verdict, accepted, refused, record_at}
use Rattle.algebra.specs.Filling.{Accepted, records_in}
use Rattle.algebra.proofs.Places.{length-joined}
use Rattle.algebra.proofs.Exact.{length-map}
use Rattle.algebra.proofs.Table.{record-found}
use Rattle.acb.specs.Reading.{Entry, Contents, acb}
use Rattle.colour.specs.Inks.{ink_number}
use Rattle.acb.specs.Row.{RecordRow, width, numbers, taken, given_of, tag_ink, stated, records_of}
use Rattle.acb_judge.specs.Answer.{Report, report}
use Rattle.acb_read.specs.Table.{entries_of, blank, name_bytes_in}
use Rattle.acb_read.specs.Answer.{RecordPlaces, record_places, places, with_ink}
use Rattle.acb_read.specs.Walked.{step, passed, walked}
use Rattle.acb_read.proofs.Walking.{short, walked_all, record-step, name-inside}

pub length-table : (gs : List RecordRow) → length (joined numbers gs) ≡ width * length gs
length-table gs = let z : length gs * width ≡ width * length gs = omega arith in length-joined numbers width (λ g. refl) gs ∙ z

-- as many records as the tag's ink is given to
pub count-records : (c : Contents) → (report c).count ≡ length (records_of c)
count-records c = sym (length-map _ c.entries)

-- record i with an ink
stated-at : (k : ℕ) (es : List Entry) (i : ℕ) → i < length es → get_or (map (λ e. stated k (given_of e)) es) i (taken []) ≡ stated k (given_of (get_or es i blank))
stated-at k [] i h = absurd (omega arith)
stated-at k (e ∷ es) zero h = refl
stated-at k (e ∷ es) (suc i) h = stated-at k es i (omega arith)

-- ---- an accepted file by what was reported of it

module _ (s : List ℕ) {b : Report} (a : Accepted report (acb s) b) where
  pub file-short : length s ≤ limit
  file-short = short s a.2

  counts : length a.0.entries ≡ b.count
  counts = ap (λ (r : Report). r.count) a.3

  -- from the first on
  at_first : (P : ℕ → ℕ → Type 0) → P a.0.header.numbers.space a.0.first → P b.header.space b.first
  at_first P p = subst (λ (r : Report). P r.header.space r.first) a.3 p

  -- the ink of the tag that was reported
  abbrev inkIn : ℕ
  inkIn = ink_number (tag_ink b.tag)

  pub rows_walked : joined numbers (map (stated inkIn) (walked b.header.space s b.first b.count)) ≡ joined numbers (records_in records_of (acb s))
  rows_walked =
      let t : inkIn ≡ ink_number (tag_ink a.0.tag) = ap (λ (r : Report). ink_number (tag_ink r.tag)) (sym a.3) in
      let k : ℕ = inkIn in
      at_first (λ x p. joined numbers (map (stated k) (walked x s p b.count)) ≡ joined numbers (records_in records_of (acb s)))
      (ap (λ (n : ℕ). joined numbers (map (stated k) (walked a.0.header.numbers.space s a.0.first n))) (sym counts)
      ∙ ap (λ (gs : List RecordRow). joined numbers (map (stated k) gs)) (walked_all s a.2) ∙ ap (joined numbers) (map-map (stated k) given_of a.0.entries)
      ∙ ap (λ (j : ℕ). joined numbers (map (λ e. stated j (given_of e)) a.0.entries)) t ∙ sym (ap (λ (m : Res Contents). joined numbers (records_in records_of m)) a.2))

  pub record-walked : (i : ℕ) → i < b.count → (step b.header.space s (passed b.header.space s b.first i)).0 ≡ record_places (record_at entries_of blank i (acb s))
  record-walked i h =
      at_first (λ x p. (step x s (passed x s p i)).0 ≡ record_places (record_at entries_of blank i (acb s)))
      (record-step s a.2 i (omega (arith, counts)) ∙ ap (λ (m : Res Contents). record_places (accepted (get_or (records_in entries_of m) i blank))) (sym a.2) ∙ ap record_places (record-found entries_of report (λ (r : Report). r.count) (λ c. refl) (acb s) blank i a h))

  -- it is no refusal
  pub record-there : (i : ℕ) → i < b.count → (n p : ℕ) → places (refused n p 0 0) ≡ record_places (record_at entries_of blank i (acb s)) → ⊥
  record-there i h n p e =
      let z = ap (λ (w : RecordPlaces). w.name) (e ∙ sym (ap record_places (record-found entries_of report (λ (r : Report). r.count) (λ c. refl) (acb s) blank i a h))) in
      cc

  -- with the tag's ink, the record of the book
  pub record-stated : (i : ℕ) → i < b.count → (k : ℕ) → k ≡ inkIn → with_ink k (record_places (record_at entries_of blank i (acb s))) ≡ places (record_at records_of (taken []) i (acb s))
  record-stated i h k w =
      let t : inkIn ≡ ink_number (tag_ink a.0.tag) = ap (λ (r : Report). ink_number (tag_ink r.tag)) (sym a.3) in
      let l : i < length a.0.entries = omega (arith, counts) in
      ap (λ (m : Res Contents). with_ink k (record_places (record_at entries_of blank i m))) a.2
      ∙ ap (λ (v : Bool). with_ink k (record_places (pick v (accepted (get_or a.0.entries i blank)) (refused 12 0 0 0)))) (lt-ltb i (length a.0.entries) l)
      ∙ ap (λ (j : ℕ). places (accepted (stated j (given_of (get_or a.0.entries i blank))))) (w ∙ t)
      ∙ ap (λ (g : RecordRow). places (accepted g)) (sym (stated-at (ink_number (tag_ink a.0.tag)) a.0.entries i l))
      ∙ sym (ap (λ (v : Bool). places (pick v (accepted (get_or (records_of a.0) i (taken []))) (refused 12 0 0 0))) (lt-ltb i (length (records_of a.0)) (omega (arith, length-map (λ e. stated (ink_number (tag_ink a.0.tag)) (given_of e)) a.0.entries))))
      ∙ sym (ap (λ (m : Res Contents). places (record_at records_of (taken []) i m)) a.2)

-- apart from its ink, a record of the book is the record by itself
pub same-places : (i : ℕ) (m : Res Contents) → ((places (record_at records_of (taken []) i m)).name ≡ (record_places (record_at entries_of blank i m)).name) × ((places (record_at records_of (taken []) i m)).components ≡ (record_places (record_at entries_of blank i m)).components)
same-places i (refuse x p r f) = (refl, refl)
same-places i (ok c q) = go (ltb i (length c.entries)) refl
  where
    k : ℕ
    k = ink_number (tag_ink c.tag)

    Same : Bool → Type 0
    Same v = ((places (pick v (accepted (get_or (records_of c) i (taken []))) (refused 12 0 0 0))).name ≡ (record_places (pick v (accepted (get_or c.entries i blank)) (refused 12 0 0 0))).name)
        × ((places (pick v (accepted (get_or (records_of c) i (taken []))) (refused 12 0 0 0))).components ≡ (record_places (pick v (accepted (get_or c.entries i blank)) (refused 12 0 0 0))).components)

    by : (v : Bool) → ltb i (length c.entries) ≡ v → Same v
    by true e =
        let w = stated-at k c.entries i (ltb-true i (length c.entries) e) in
        (ap (λ (g : RecordRow). (places (accepted g)).name) w, ap (λ (g : RecordRow). (places (accepted g)).components) w)
    by false e = (refl, refl)

    go : (v : Bool) → ltb i (length c.entries) ≡ v → ((places (record_at records_of (taken []) i (ok c q))).name ≡ (record_places (record_at entries_of blank i (ok c q))).name) × ((places (record_at records_of (taken []) i (ok c q))).components ≡ (record_places (record_at entries_of blank i (ok c q))).components)
    go v e =
        let n : ltb i (length (records_of c)) ≡ ltb i (length c.entries) = ap (ltb i) (length-map _ c.entries) in
        rw n (by (ltb i (length c.entries)) refl)

-- ---- the part of the file that a name is

module _ (s : List ℕ) (i : ℕ) where
  name_by : (v : Verdict Entry) → record_at entries_of blank i (acb s) ≡ v → (p u : ℕ) → accepted (p, u) ≡ (record_places v).name → (p + 2 * u ≤ length s) × (length s ≤ limit) × (part s p (p + 2 * u - p) ≡ name_bytes_in s v)
  name_by (accepted e) r p u k =
      let l : ◌≡◌ {A = ℕ × ℕ} (p, u) (e.name.first, length e.name.units) = cc in
      let x : p ≡ e.name.first = ap (λ (w : ℕ × ℕ). w.0) l in
      let y : u ≡ length e.name.units = ap (λ (w : ℕ × ℕ). w.1) l in
      let z = inside_of (acb s) refl r in
      (omega (arith, z.0, x, y), z.1, ap (part s p) (let j : p + 2 * u - p ≡ 2 * u = omega arith in j) ∙ ap₂ (λ (a b : ℕ). part s a (2 * b)) x y)
    where
      inside_of : (m : Res Contents) → acb s ≡ m → record_at entries_of blank i m ≡ accepted e → (e.name.first + 2 * length e.name.units ≤ length s) × (length s ≤ limit)
      inside_of (refuse y q w f) d b = let z : ◌≡◌ {A = ℕ} 0 1 = cc in absurd (omega arith)
      inside_of (ok c q) d b = pick-found (ltb i (length c.entries)) refl b
        where
          pick-found : (t : Bool) → ltb i (length c.entries) ≡ t → pick t (accepted (get_or c.entries i blank)) (refused 12 0 0 0) ≡ accepted e → (e.name.first + 2 * length e.name.units ≤ length s) × (length s ≤ limit)
          pick-found true v b =
              let w : get_or c.entries i blank ≡ e = cc in
              subst (λ (y : Entry). (y.name.first + 2 * length y.name.units ≤ length s) × (length s ≤ limit)) w (name-inside s d i (ltb-true i (length c.entries) v), short s d)
          pick-found false v b = let z : ◌≡◌ {A = ℕ} 0 1 = cc in absurd (omega arith)
  name_by (refused x q r f) w p u k = let z : ◌≡◌ {A = ℕ} 0 1 = cc in absurd (omega arith)

  module _ (p u : ℕ) (e : accepted (p, u) ≡ (record_places (record_at entries_of blank i (acb s))).name) where
    pub name_in : (p + 2 * u ≤ length s) × (length s ≤ limit)
    name_in = let k = name_by (record_at entries_of blank i (acb s)) refl p u e in (k.0, k.1)

    pub name-part : part s p (p + 2 * u - p) ≡ name_bytes_in s (record_at entries_of blank i (acb s))
    name-part = (name_by (record_at entries_of blank i (acb s)) refl p u e).2

  pub name-none : (x p r f : ℕ) → refused x p r f ≡ (record_places (record_at entries_of blank i (acb s))).name → [] ≡ name_bytes_in s (record_at entries_of blank i (acb s))
  name-none x p r f e = go (record_at entries_of blank i (acb s)) e
    where
      go : (v : Verdict Entry) → refused x p r f ≡ (record_places v).name → [] ≡ name_bytes_in s v
      go (accepted y) k = let z : ◌≡◌ {A = ℕ} 0 1 = cc in absurd (omega arith)
      go (refused y q w z) k = refl
