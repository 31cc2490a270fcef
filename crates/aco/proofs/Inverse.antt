-- What is known of an accepted file, list by list and record by record. Assumes nothing.
use Prim.Native.Nat.{ℕ, zero, suc, ◌+◌, ◌*◌, ◌-◌, ◌≤◌, ◌<◌}
use mathlib.Core.Path.{◌≡◌, refl, sym, ap, ap₂, ◌∙◌, subst, subst₂}
use mathlib.Core.List.{List, map}
use mathlib.Core.Bool.{Bool, true, false}
use lib.Dec.{leb, eqb}
use lib.ListN.{length, get_or}
use borrow.Author.Tests.{leb-true, eqb-true}
use native.Mathlib.Numerals.{add-one}
use native.Mathlib.Omega.{arith}
use native.Mathlib.Nat.{add-zero}
use Rattle.algebra.specs.Numbers.{num, nums}
use Rattle.algebra.specs.Reader.{ok, pick, Judged, fine, judged, each}
use Rattle.algebra.specs.Text.{Name, name, front}
use Rattle.algebra.proofs.Inverse.{then-inv, pick_inv, judged-inv, name-inv, front-nums, ended-inv, each_none, each-inv, each-length, fields-inv, fields-fine, ok-value, ok-place}
use Rattle.colour.specs.declared.space.Colour.{Colour}
use Rattle.aco.specs.Reading.{colour, heading, field_of, repeated_field, Entry, entry, Contents, zero_colour, second, unnamed, after, lists, aco, version, first_count, compared, second_count}
use Rattle.aco.specs.scaffold.Raw.{raw_colours}
use Rattle.aco.specs.Places.{next_entry, entry_place}
use Rattle.aco.proofs.Fine.{fine-version, fine-first, fine-second, fine-compared}
use Rattle.aco.proofs.Raw.{colours-raw, colours-inside}

-- ---- headings

pub heading-inv : (v : ℕ) (count : ℕ → Judged) (s : List ℕ) (at : ℕ) {n q : ℕ} → heading v count s at ≡ ok n q → (num 2 s at ≡ v) × (num 2 s (at + 2) ≡ n) × (at + 4 ≡ q) × (at + 4 ≤ length s) × (count n ≡ fine)
unfolding heading
heading-inv v count s at e =
    let t = then-inv (judged 2 (version v) s at) _ e in
    let x = judged-inv 2 s at (version v) t.2 in
    let y = judged-inv 2 s t.1 count t.3 in
    (x.1 ∙ fine-version v t.0 x.3, ap (λ (p : ℕ). num 2 s p) x.2 ∙ y.1, omega arith, omega arith, y.3)

-- ---- records

-- record e of list 2, read at a place, where list 1's colour is c
pub record Entered (s : List ℕ) (c : Colour) (at : ℕ) (e : Entry) (q : ℕ) : Type 0 where
  pub same : (f : ℕ) → f < 5 → num 2 s (at + 2 * f) ≡ field_of c f
  pub hue : c ≡ e.colour
  pub first : e.name.first ≡ at + 14
  pub some : 0 < num 4 s (at + 10)
  pub units : e.name.units ≡ nums 2 (num 4 s (at + 10) - 1) s (at + 14)
  pub next : next_entry s at ≡ q
  pub inside : q ≤ length s

pub entry-inv : (i : ℕ) (c : Colour) (s : List ℕ) (at : ℕ) {e : Entry} {q : ℕ} → entry i c s at ≡ ok e q → Entered s c at e q
unfolding entry
entry-inv i c s at {e} {q} h =
    let j : ℕ → ℕ → Judged = compared i c in
    let t = then-inv (each 5 0 (repeated_field i c) s at) _ h in
    let x = fields-inv 2 j s 5 0 at t.2 in
    let u = then-inv (name 4 s t.1) _ t.3 in
    let ten : t.1 ≡ at + 10 = omega arith in
    let nm : name 4 s (at + 10) ≡ ok u.0 u.1 = ap (λ (p : ℕ). name 4 s p) (sym ten) ∙ u.2 in
    let y = name-inv 4 s (at + 10) nm in
    go y.0 y.1.count y.1.some (ap (λ (z : Name). z.first) y.1.is) (ap (λ (z : Name). z.units) y.1.is) y.1.inside y.1.room y.1.end u.3
    (λ f l. let z : f ≡ 0 + f = omega arith in
    ap (λ (k : ℕ). num 2 s (at + 2 * f)) z ∙ fine-compared i c (0 + f) (num 2 s (at + 2 * f)) (fields-fine 2 j s 5 0 at t.2 f l) ∙ ap (field_of c) (sym z))
  where
    go : {nm : Name} {r : ℕ} (n : ℕ) → num 4 s (at + 10) ≡ n → 0 < n → at + 10 + 4 ≡ nm.first → front (nums 2 n s (at + 10 + 4)) ≡ nm.units → n * 2 ≤ length s - (at + 10 + 4) → 4 ≤ length s - (at + 10) → at + 10 + 4 + n * 2 ≡ r
        → ok (record { colour = c; name = nm }) r ≡ ok e q → ((f : ℕ) → f < 5 → num 2 s (at + 2 * f) ≡ field_of c f) → Entered s c at e q
    go {nm} {r} n cn some fst us ins room end eq same =
        let ee : record { colour = c; name = nm } ≡ e = ok-value eq in
        let p : at + 10 + 4 ≡ at + 14 = omega arith in
        let m : n ≡ suc (num 4 s (at + 10) - 1) = omega arith in record {
          same = same;
          hue = ap (λ (z : Entry). z.colour) ee;
          first = sym (ap (λ (z : Entry). z.name.first) ee) ∙ sym fst ∙ p;
          some = omega arith;
          units = sym (ap (λ (z : Entry). z.name.units) ee) ∙ sym us ∙ ap₂ (λ (a b : ℕ). front (nums 2 a s b)) m p ∙ front-nums 2 (num 4 s (at + 10) - 1) s (at + 14);
          next = omega (arith, ok-place eq);
          inside = omega (arith, ok-place eq);
        }

-- the records of list 2 in turn: each stands at its place
module _ (s : List ℕ) (cs : List Colour) (n : ℕ) (d : Entry) where
  pub entries-inv : (m i : ℕ) {es : List Entry} {q : ℕ} → each m i (λ k. entry k (get_or cs k zero_colour)) s (entry_place s n i) ≡ ok es q
      → (k : ℕ) → k < m → (to : ℕ) × Entered s (get_or cs (i + k) zero_colour) (entry_place s n (i + k)) (get_or es k d) to
  unfolding entry_place
  entries-inv zero i e k h = absurd (omega arith)
  entries-inv (suc m) i e zero h =
      let t = each-inv (λ k. entry k (get_or cs k zero_colour)) s m i (entry_place s n i) e in
      let x = entry-inv i (get_or cs i zero_colour) s (entry_place s n i) t.3 in
      (t.1, rw (add-zero i) (subst (λ (l : List Entry). Entered s (get_or cs i zero_colour) (entry_place s n i) (get_or l 0 d) t.1) t.5 x))
  entries-inv (suc m) i {es} {q} e (suc k) h =
      let t = each-inv (λ k. entry k (get_or cs k zero_colour)) s m i (entry_place s n i) e in
      let x = entry-inv i (get_or cs i zero_colour) s (entry_place s n i) t.3 in
      let p : t.1 ≡ entry_place s n (i + 1) = sym x.next ∙ ap (entry_place s n) (sym (add-one i)) in
      let r = entries-inv m (i + 1) {es = t.2} {q = q} (subst (λ (z : ℕ). each m (i + 1) (λ k. entry k (get_or cs k zero_colour)) s z ≡ ok t.2 q) p t.4) k (omega arith) in
      let y : i + 1 + k ≡ i + suc k = omega arith in
      (r.0, subst₂ (λ (z : ℕ) (l : List Entry). Entered s (get_or cs z zero_colour) (entry_place s n z) (get_or l (suc k) d) r.0) y t.5 r.1)

  -- list 2 ends behind its last record
  pub entries-end : (m i : ℕ) {es : List Entry} {q : ℕ} → each m i (λ k. entry k (get_or cs k zero_colour)) s (entry_place s n i) ≡ ok es q → entry_place s n (i + m) ≡ q
  unfolding entry_place
  entries-end zero i e = ap (entry_place s n) (add-zero i) ∙ (each_none (λ k. entry k (get_or cs k zero_colour)) s i (entry_place s n i) e).1
  entries-end (suc m) i {es} {q} e =
      let t = each-inv (λ k. entry k (get_or cs k zero_colour)) s m i (entry_place s n i) e in
      let x = entry-inv i (get_or cs i zero_colour) s (entry_place s n i) t.3 in
      let p : t.1 ≡ entry_place s n (i + 1) = sym x.next ∙ ap (entry_place s n) (sym (add-one i)) in
      let y : i + suc m ≡ i + 1 + m = omega arith in
      ap (entry_place s n) y ∙ entries-end m (i + 1) {es = t.2} {q = q} (subst (λ (z : ℕ). each m (i + 1) (λ k. entry k (get_or cs k zero_colour)) s z ≡ ok t.2 q) p t.4)

-- ---- the file

-- list 1 of an accepted file: its colours cs end at r
pub record First (s : List ℕ) (cs : List Colour) (r : ℕ) : Type 0 where
  pub short : length s ≤ 16777216
  pub head : heading 1 first_count s 0 ≡ ok (length cs) 4
  pub list : each (length cs) 0 (λ i. colour) s 4 ≡ ok cs r
  pub count : num 2 s 2 ≡ length cs
  pub few : length cs ≤ 4096
  pub are : cs ≡ raw_colours (length cs) s 4
  pub end : r ≡ 4 + 10 * length cs
  pub inside : r ≤ length s

-- what follows it: the file's end, or list 2 with the records es
pub data Then (s : List ℕ) (cs : List Colour) (r : ℕ) (c : Contents) (q : ℕ) : Type 0 where
  one : r ≡ length s → record { lists = 1; records = map unnamed cs } ≡ c → r ≡ q → Then s cs r c q
  two : (es : List Entry) (z : ℕ) → heading 2 (second_count (length cs)) s r ≡ ok (length cs) (r + 4) → each (length cs) 0 (λ i. entry i (get_or cs i zero_colour)) s (r + 4) ≡ ok es z
      → z ≡ length s → record { lists = 2; records = es } ≡ c → z ≡ q → Then s cs r c q

first_of : (s : List ℕ) (cs : List Colour) (r n m : ℕ) → length s ≤ 16777216 → heading 1 first_count s 0 ≡ ok n m → each n 0 (λ i. colour) s m ≡ ok cs r → First s cs r
first_of s cs r n m short h e =
    let x = heading-inv 1 first_count s 0 h in
    let l : n ≡ length cs = sym (each-length (λ i. colour) s n 0 m e) in
    let four : m ≡ 4 = omega arith in
    let e4 : each (length cs) 0 (λ i. colour) s 4 ≡ ok cs r = subst₂ (λ (a b : ℕ). each a 0 (λ i. colour) s b ≡ ok cs r) l four e in
    let y = colours-raw s (length cs) 0 4 e4 in record {
      short = short;
      head = h ∙ ap₂ (λ (a b : ℕ). ok a b) l four;
      list = e4;
      count = x.1 ∙ l;
      few = fine-first (length cs) (subst (λ (a : ℕ). first_count a ≡ fine) l x.4);
      are = y.0;
      end = y.1;
      inside = colours-inside s (length cs) 0 4 (omega arith) e4;
    }

second-inv : (s : List ℕ) (cs : List Colour) (r : ℕ) (c : Contents) (q : ℕ) → second cs s r ≡ ok c q → Then s cs r c q
unfolding second
second-inv s cs r c q e =
    let j : ℕ → Judged = second_count (length cs) in
    let t = then-inv (heading 2 j s r) _ e in
    let x = heading-inv 2 j s r t.2 in
    let l : t.0 ≡ length cs = fine-second (length cs) t.0 x.4 in
    let u = then-inv (each (length cs) 0 (λ i. entry i (get_or cs i zero_colour)) s t.1) _ t.3 in
    let z = ended-inv (record { lists = 2; records = u.0 }) s u.1 u.3 in
    two u.0 u.1 (t.2 ∙ ap₂ (λ (a b : ℕ). ok a b) l (sym x.2)) (ap (λ (p : ℕ). each (length cs) 0 (λ i. entry i (get_or cs i zero_colour)) s p) x.2 ∙ u.2) z.0 z.1 z.2

after-inv : (s : List ℕ) (cs : List Colour) (r : ℕ) (c : Contents) (q : ℕ) → after cs s r ≡ ok c q → Then s cs r c q
unfolding after
after-inv s cs r c q e = go (eqb r (length s)) refl e
  where
    go : (b : Bool) → eqb r (length s) ≡ b → pick b (ok (record { lists = 1; records = map unnamed cs }) r) (second cs s r) ≡ ok c q → Then s cs r c q
    go true z x = one (eqb-true r (length s) z) (ok-value x) (ok-place x)
    go false z x = second-inv s cs r c q x

-- an accepted file is list 1 and what follows it
pub aco-inv : (s : List ℕ) {c : Contents} {q : ℕ} → aco s ≡ ok c q → (cs : List Colour) × (r : ℕ) × First s cs r × Then s cs r c q
unfolding aco lists
aco-inv s {c} {q} e =
    let i = pick_inv (leb (length s) 16777216) (lists s 0) _ _ _ _ e in
    let t = then-inv (heading 1 first_count s 0) _ i.1 in
    let u = then-inv (each t.0 0 (λ i. colour) s t.1) _ t.3 in
    (u.0, u.1, first_of s u.0 u.1 t.0 t.1 (leb-true (length s) 16777216 i.0) t.2 u.2, after-inv s u.0 u.1 c q u.3)
