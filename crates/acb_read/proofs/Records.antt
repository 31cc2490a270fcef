-- What stands at a record's place, and what a step makes of it. Assumes nothing.
use Prim.Native.Nat.{ℕ, zero, suc, ◌+◌, ◌*◌, ◌-◌, ◌≤◌, ◌<◌}
use mathlib.Core.Path.{◌≡◌, refl, sym, ap, ap₂, ◌∙◌, subst}
use mathlib.Core.List.{List, [], ◌∷◌, ◌++◌}
use mathlib.Core.Bool.{Bool, true, false}
use lib.Dec.{eqb}
use lib.ListN.{length, get_or, get_or-eq_default, take, drop}
use lib.Seq.{sets, take_all}
use borrow.Rule.Slice.PartMut.{put_mid}
use Rattle.std.proofs.lemmas.Slice.{put_mid-paste}
use Rattle.std.proofs.lemmas.List.Edits.{sets-eq}
use Rattle.acb.specs.Row.{width}
use borrow.Author.Tests.{eqb-true, eqb-false}
use native.Mathlib.Omega.{arith}
use Rattle.algebra.specs.Numbers.{num, nums}
use Rattle.algebra.specs.Reader.{Res, ok, refuse, pick, field, body, each}
use Rattle.algebra.specs.Table.{accepted, refused}
use Rattle.algebra.specs.Text.{Name}
use Rattle.algebra.proofs.Laws.{field_in, num-1}
use Rattle.algebra.proofs.Places.{length-nums, getD-nums}
use Rattle.algebra.proofs.Inverse.{clash, ok-value, ok-place, done-inv, then-inv, field-inv, body-inv, each_none, each-inv}
use Rattle.acb.specs.Reading.{string, Entry, colour, components_of}
use Rattle.acb.proofs.Laws.{components-some}
use Rattle.acb_judge.proofs.Judging.{string-is, colour-in}
use Rattle.acb_read.specs.Answer.{record_places}
use Rattle.acb_read.specs.Walked.{stepped, step}
use Rattle.acb_read.specs.scaffold.Parts.{whole_at}

-- ---- bytes in a row

octets-inv : (s : List ℕ) (n i at : ℕ) {vs : List ℕ} {q : ℕ} → each n i (λ k. field 1) s at ≡ ok vs q → (nums 1 n s at ≡ vs) × (at + n ≡ q) × (n ≤ length s - at)
unfolding nums
octets-inv s zero i at e = let z = each_none (λ k. field 1) s i at e in (z.0, omega (arith, z.1), omega arith)
octets-inv s (suc n) i at e =
    let t = each-inv (λ k. field 1) s n i at e in
    let x = field-inv 1 s at t.3 in
    let r = octets-inv s n (i + 1) t.1 t.4 in
    (ap₂ (λ (v : ℕ) (l : List ℕ). v ∷ l) x.1 (ap (λ (k : ℕ). nums 1 n s k) x.2 ∙ r.0) ∙ t.5, omega (arith, x.2, r.1), omega (arith, x.0, x.2, r.2))

-- byte k of n
octet-at : (s : List ℕ) (n at k : ℕ) (vs : List ℕ) → nums 1 n s at ≡ vs → k < n → (p : ℕ) → at + k ≡ p → get_or vs k 0 ≡ get_or s p 0
octet-at s n at k vs e h p z =
    let y : at + 1 * k ≡ p = omega arith in
    ap (λ (l : List ℕ). get_or l k 0) (sym e) ∙ getD-nums 1 s n at k h ∙ num-1 s (at + 1 * k) ∙ ap (λ (i : ℕ). get_or s i 0) y

-- past n there is none
octet-past : (s : List ℕ) (n at k : ℕ) (vs : List ℕ) → nums 1 n s at ≡ vs → n ≤ k → get_or vs k 0 ≡ 0
octet-past s n at k vs e h = get_or-eq_default vs 0 (omega (arith, ap length e, length-nums 1 n s at))

-- ---- a record

-- the record e of n components at a place, and the next place q
pub record Recorded (s : List ℕ) (n at : ℕ) (e : Entry) (q : ℕ) : Type 0 where
  pub first : e.name.first ≡ at + 4
  pub units : length e.name.units ≡ num 4 s at
  pub start : 4 ≤ length s - at
  pub next : at + 4 + 2 * num 4 s at + 6 + n ≡ q
  pub inside : q ≤ length s
  pub is : (record_places (accepted e), q) ≡ whole_at n s (at + 4) (num 4 s at)

string-inv : (s : List ℕ) (at : ℕ) {nm : Name} {q : ℕ} → string s at ≡ ok nm q → (nm.first ≡ at + 4) × (length nm.units ≡ num 4 s at) × (at + 4 + 2 * num 4 s at ≡ q) × (4 ≤ length s - at) × (num 4 s at * 2 ≤ length s - (at + 4))
unfolding string
string-inv s at {nm} {q} e =
    let t = then-inv (field 4 s at) _ e in
    let x = field-inv 4 s at t.2 in
    let u = then-inv (body 2 t.0 s t.1) _ t.3 in
    let y = body-inv 2 s t.1 t.0 u.2 in
    let z = ok-value u.3 in
    let l : length u.0 ≡ t.0 = ap length (sym y.1) ∙ length-nums 2 t.0 s t.1 in
    (sym (ap (λ (k : Name). k.first) z) ∙ sym x.2, sym (ap (λ (k : Name). length k.units) z) ∙ l ∙ sym x.1, omega (arith, x.1, x.2, y.2, ok-place u.3), x.0, omega (arith, x.1, x.2, y.0))

pub recorded : (s : List ℕ) (n at : ℕ) {e : Entry} {q : ℕ} → (3 ≤ n) × (n ≤ 4) → colour n s at ≡ ok e q → Recorded s n at e q
unfolding colour
recorded s n at {e} {q} few h =
    let a = then-inv (string s at) _ h in
    let x = string-inv s at a.2 in
    let b = then-inv (body 1 6 s a.1) _ a.3 in
    let y = body-inv 1 s a.1 6 b.2 in
    let c = then-inv (each n 0 (λ i. field 1) s b.1) _ b.3 in
    let z = octets-inv s n 0 b.1 c.2 in
    let p : b.1 ≡ code + 6 = omega (arith, x.2, y.2) in
    go a.0 b.0 c.0 x.0 x.1 (ap (λ (k : ℕ). nums 1 6 s k) x.2 ∙ y.1) (ap (λ (k : ℕ). nums 1 n s k) (sym p) ∙ z.0)
    x.3 (omega (arith, p, z.1, ok-place c.3)) (omega (arith, x.2, y.0, y.2, z.1, z.2, x.3, x.4, ok-place c.3)) (ok-value c.3)
  where
    code : ℕ
    code = at + 4 + 2 * num 4 s at

    fourth : (ks : List ℕ) → nums 1 n s (code + 6) ≡ ks → (b : Bool) → eqb n 4 ≡ b → get_or ks 3 0 ≡ pick b (get_or s (code + 9) 0) 0
    fourth ks v true k = octet-at s n (code + 6) 3 ks v (omega (arith, eqb-true n 4 k)) (code + 9) (omega arith)
    fourth ks v false k = octet-past s n (code + 6) 3 ks v (let ne = eqb-false n 4 k in omega (arith, few.0, few.1))

    go : (nm : Name) (cs ks : List ℕ) → nm.first ≡ at + 4 → length nm.units ≡ num 4 s at
        → nums 1 6 s code ≡ cs → nums 1 n s (code + 6) ≡ ks → 4 ≤ length s - at → code + 6 + n ≡ q → q ≤ length s → record { name = nm; code = cs; components = ks } ≡ e → Recorded s n at e q
    go nm cs ks f l u v start next inside is =
        let byte : (k : ℕ) → k < 6 → (p : ℕ) → code + k ≡ p → get_or cs k 0 ≡ get_or s p 0 = λ k h p z. octet-at s 6 code k cs u h p z in
        let part : (k : ℕ) → k < 3 → (p : ℕ) → code + 6 + k ≡ p → get_or ks k 0 ≡ get_or s p 0 = λ k h p z. octet-at s n (code + 6) k ks v (omega (arith, few.0)) p z in
        let c0 = byte 0 (omega arith) code (omega arith) in
        let c1 = byte 1 (omega arith) (code + 1) refl in
        let c2 = byte 2 (omega arith) (code + 2) refl in
        let c3 = byte 3 (omega arith) (code + 3) refl in
        let c4 = byte 4 (omega arith) (code + 4) refl in
        let c5 = byte 5 (omega arith) (code + 5) refl in
        let k0 = part 0 (omega arith) (code + 6) (omega arith) in
        let k1 = part 1 (omega arith) (code + 7) (omega arith) in
        let k2 = part 2 (omega arith) (code + 8) (omega arith) in
        let k3 = fourth ks v (eqb n 4) refl in
        subst (λ (y : Entry). Recorded s n at y q) is (record {
          first = f;
          units = l;
          start = start;
          next = next;
          inside = inside;
          is = λ i. (record { name = accepted (f i, l i); code = c0 i ∷ c1 i ∷ c2 i ∷ c3 i ∷ c4 i ∷ c5 i ∷ []; components = k0 i ∷ k1 i ∷ k2 i ∷ k3 i ∷ []; ink = 4 }, sym next i);
        })

-- ---- a step

module _ (x : ℕ) (s : List ℕ) (at : ℕ) where
  abbrev n : ℕ
  n = components_of x

  -- no record stands there
  none : ((e : Entry) (q : ℕ) → Recorded s n at e q → ⊥) → (record_places (refused 5 0 0 0), at) ≡ step x s at
  unfolding step
  none h = go (colour n s at) refl
    where
      go : (m : Res Entry) → colour n s at ≡ m → (record_places (refused 5 0 0 0), at) ≡ stepped at m
      go (ok e q) d = absurd (h e q (recorded s n at (components-some x) d))
      go (refuse y p r f) d = refl

  pub step-short : refuse 2 at 0 0 ≡ field 4 s at → (record_places (refused 5 0 0 0), at) ≡ step x s at
  step-short e = none (λ y q r. clash (e ∙ field_in 4 s at r.start))

  module _ (u first : ℕ) (e : ok u first ≡ field 4 s at) where
    pub step_cut : length s < first + 2 * u + 6 + n → (record_places (refused 5 0 0 0), at) ≡ step x s at
    step_cut h = let f = field-inv 4 s at (sym e) in none (λ y q r. omega (arith, f.1, f.2, r.next, r.inside))

    pub step-whole : first + 2 * u + 6 + n ≤ length s → whole_at n s first u ≡ step x s at
    unfolding step
    step-whole h =
        let f = field-inv 4 s at (sym e) in
        let p : ℕ = first + u * 2 in
        let named = string-is s at u first e p (omega arith) refl in
        let d = done-inv (colour n s at) (sym (colour-in n s at first u p (sym named) (omega arith))) in
        let r = recorded s n at (components-some x) d.1 in
        ap₂ (λ (a b : ℕ). whole_at n s a b) (sym f.2) (sym f.1) ∙ sym r.is ∙ sym (ap (stepped at) d.1)

-- ---- a row as it is stored

-- a row that is copied into a table is stored in it
pub row-copied : (t ys row : List ℕ) (to : ℕ) → ys ≡ row → length row ≡ width → to + width ≤ length t → put_mid to (to + width - to) t ys ≡ sets t to row
row-copied t ys row to e l h =
    put_mid-paste to (to + width - to) t ys row width e (omega arith) (sym l)
    ∙ ap (λ (r : List ℕ). take to t ++ r ++ drop (to + width) t) (take_all width row (omega (arith, l)))
    ∙ ap (λ (n : ℕ). take to t ++ row ++ drop (to + n) t) (sym l) ∙ sym (sets-eq row t to (omega (arith, l)))
