-- The records of an accepted file are those that steps give, one after the other. Assumes nothing.
use Prim.Native.Nat.{ℕ, zero, suc, ◌+◌, ◌*◌, ◌-◌, ◌≤◌, ◌<◌}
use mathlib.Core.Path.{◌≡◌, refl, sym, ap, ◌∙◌, subst}
use mathlib.Core.List.{List, [], ◌∷◌, map}
use lib.ListN.{length, get_or, take, drop}
use lib.Dec.{leb}
use lib.Seq.{sets, take_all}
use borrow.Author.Tests.{leb-true}
use native.Mathlib.Omega.{arith}
use Rattle.algebra.specs.Numbers.{joined}
use Rattle.algebra.specs.Reader.{Res, ok, refuse, each, limit}
use Rattle.algebra.specs.Table.{accepted}
use Rattle.algebra.proofs.Inverse.{ok-value, then-inv, pick_inv, each-inv, each-length}
use Rattle.algebra.proofs.Stores.{sets-append}
use Rattle.acb.specs.Reading.{Entry, colour, components_of, header, Contents, closing, book, acb}
use Rattle.acb.specs.Row.{RecordRow, width, numbers, given_of}
use Rattle.acb.proofs.Laws.{components-some}
use Rattle.acb_read.specs.Table.{blank}
use Rattle.acb_read.specs.Answer.{record_places}
use Rattle.acb_read.specs.Walked.{stepped, step, passed, given_in, walked}
use Rattle.acb_read.proofs.Records.{recorded}

-- ---- a loop over steps

module _ (x : ℕ) (s : List ℕ) (at : ℕ) where
  pub passed_start : (i : ℕ) → passed x s at i ≡ passed x s at (i - 0)
  passed_start i = let z : i ≡ i - 0 = omega arith in ap (passed x s at) z

  pub passed-turn : (i k : ℕ) → k < i → passed x s at (i - k) ≡ passed x s (step x s at).1 (i - (k + 1))
  unfolding passed
  passed-turn i k h = let z : i - k ≡ suc (i - (k + 1)) = omega arith in ap (passed x s at) z

  pub passed-end : (i k : ℕ) → i ≤ k → passed x s at (i - k) ≡ at
  unfolding passed
  passed-end i k h = let z : i - k ≡ 0 = omega arith in ap (passed x s at) z

  pub walked_start : (n : ℕ) → walked x s at n ≡ walked x s at (n - 0)
  walked_start n = let z : n ≡ n - 0 = omega arith in ap (walked x s at) z

  pub walked-turn : (n i : ℕ) → i < n → walked x s at (n - i) ≡ given_in (step x s at).0 ∷ walked x s (step x s at).1 (n - (i + 1))
  unfolding walked
  walked-turn n i h = let z : n - i ≡ suc (n - (i + 1)) = omega arith in ap (walked x s at) z

  pub walked_end : (n i : ℕ) → n ≤ i → walked x s at (n - i) ≡ []
  unfolding walked
  walked_end n i h = let z : n - i ≡ 0 = omega arith in ap (walked x s at) z

  -- a name lies in the file
  pub name-small : length s ≤ limit → (given_in (step x s at).0).name.0 ≤ limit
  unfolding step
  name-small h = go (colour (components_of x) s at) refl
    where
      go : (m : Res Entry) → colour (components_of x) s at ≡ m → (given_in (stepped at m).0).name.0 ≤ limit
      go (ok e q) d = let r = recorded s (components_of x) at (components-some x) d in omega (arith, r.first, r.next, r.inside)
      go (refuse y p r f) d = omega arith

-- one row more is stored
pub row-stored : (all t t' : List ℕ) (p q : ℕ) (g : RecordRow) (gs : List RecordRow) → all ≡ sets t p (joined numbers (g ∷ gs)) → t' ≡ sets t p (numbers g) → q ≡ p + width → all ≡ sets t' q (joined numbers gs)
unfolding joined
row-stored all t t' p q g gs e h w = e ∙ sets-append (numbers g) (joined numbers gs) t p ∙ ap (λ (k : ℕ). sets (sets t p (numbers g)) k (joined numbers gs)) (sym w) ∙ ap (λ (o : List ℕ). sets o q (joined numbers gs)) (sym h)

pub rows-stored : (all t : List ℕ) (p : ℕ) (gs : List RecordRow) → all ≡ sets t p (joined numbers gs) → gs ≡ [] → all ≡ t
unfolding joined
rows-stored all t p gs e h = e ∙ ap (λ (l : List RecordRow). sets t p (joined numbers l)) h

-- ---- records that were read one after the other

module _ (x : ℕ) (s : List ℕ) where
  abbrev one : ℕ → List ℕ → ℕ → Res Entry
  one k = colour (components_of x)

  first-walked : (m i at : ℕ) {es : List Entry} {q : ℕ} → each m i one s at ≡ ok es q → (n : ℕ) → n ≤ m → walked x s at n ≡ map given_of (take n es)
  unfolding walked step
  first-walked m i at e zero h = refl
  first-walked zero i at e (suc n) h = absurd (omega arith)
  first-walked (suc m) i at {es} {q} e (suc n) h =
      let t = each-inv one s m i at e in
      ap (λ (r : Res Entry). given_in (stepped at r).0 ∷ walked x s (stepped at r).1 n) t.3
      ∙ ap (λ (l : List RecordRow). given_of t.0 ∷ l) (first-walked m (i + 1) t.1 {es = t.2} {q = q} t.4 n (omega arith)) ∙ ap (λ (l : List Entry). map given_of (take (suc n) l)) t.5

  from-walked : (m i at : ℕ) {es : List Entry} {q : ℕ} → each m i one s at ≡ ok es q → (k n : ℕ) → k + n ≤ m → walked x s (passed x s at k) n ≡ map given_of (take n (drop k es))
  unfolding passed step
  from-walked m i at e zero n h = first-walked m i at e n (omega arith)
  from-walked zero i at e (suc k) n h = absurd (omega arith)
  from-walked (suc m) i at {es} {q} e (suc k) n h =
      let t = each-inv one s m i at e in
      ap (λ (r : Res Entry). walked x s (passed x s (stepped at r).1 k) n) t.3
      ∙ from-walked m (i + 1) t.1 {es = t.2} {q = q} t.4 k n (omega arith) ∙ ap (λ (l : List Entry). map given_of (take n (drop (suc k) l))) t.5

  record-stands : (m i at : ℕ) {es : List Entry} {q : ℕ} → each m i one s at ≡ ok es q → (k : ℕ) → k < m → (to : ℕ) × (colour (components_of x) s (passed x s at k) ≡ ok (get_or es k blank) to)
  unfolding passed step
  record-stands zero i at e k h = absurd (omega arith)
  record-stands (suc m) i at {es} {q} e zero h = let t = each-inv one s m i at e in (t.1, t.3 ∙ ap (λ (l : List Entry). ok (get_or l 0 blank) t.1) t.5)
  record-stands (suc m) i at {es} {q} e (suc k) h =
      let t = each-inv one s m i at e in
      let r = record-stands m (i + 1) t.1 {es = t.2} {q = q} t.4 k (omega arith) in
      (r.0, ap (λ (y : Res Entry). colour (components_of x) s (passed x s (stepped at y).1 k)) t.3 ∙ r.1 ∙ ap (λ (l : List Entry). ok (get_or l (suc k) blank) r.0) t.5)

-- ---- an accepted file

module _ (s : List ℕ) {c : Contents} {q : ℕ} (e : acb s ≡ ok c q) where
  abbrev x : ℕ
  x = c.header.numbers.space

  read-so : (length s ≤ limit) × (to : ℕ) × (each (length c.entries) 0 (λ i. colour (components_of x)) s c.first ≡ ok c.entries to)
  unfolding acb book
  read-so =
      let i = pick_inv (leb (length s) limit) (book s 0) 1 0 0 0 e in
      let h = then-inv (header s 0) _ i.1 in
      let n : ℕ = components_of h.0.numbers.space in
      let u = then-inv (each h.0.numbers.count 0 (λ i. colour n) s h.1) _ h.3 in
      let v = then-inv (closing s u.1) _ u.3 in
      let l : h.0.numbers.count ≡ length u.0 = sym (each-length (λ i. colour n) s h.0.numbers.count 0 h.1 u.2) in
      subst (λ (d : Contents). (length s ≤ limit) × (to : ℕ) × (each (length d.entries) 0 (λ i. colour (components_of d.header.numbers.space)) s d.first ≡ ok d.entries to)) (ok-value v.3)
      (leb-true (length s) limit i.0, u.1, ap (λ (k : ℕ). each k 0 (λ i. colour n) s h.1) (sym l) ∙ u.2)

  pub short : length s ≤ limit
  short = read-so.0

  -- its records are those that steps give from the first on
  pub walked_from : (k n : ℕ) → k + n ≤ length c.entries → walked x s (passed x s c.first k) n ≡ map given_of (take n (drop k c.entries))
  walked_from k n h = from-walked x s (length c.entries) 0 c.first read-so.2 k n h

  pub walked_all : walked x s c.first (length c.entries) ≡ map given_of c.entries
  walked_all = first-walked x s (length c.entries) 0 c.first read-so.2 (length c.entries) (omega arith) ∙ ap (map given_of) (take_all (length c.entries) c.entries (omega arith))

  module _ (i : ℕ) (h : i < length c.entries) where
    pub record-step : (step x s (passed x s c.first i)).0 ≡ record_places (accepted (get_or c.entries i blank))
    unfolding step
    record-step = let r = record-stands x s (length c.entries) 0 c.first read-so.2 i h in ap (λ (m : Res Entry). (stepped (passed x s c.first i) m).0) r.1

    pub name-inside : (get_or c.entries i blank).name.first + 2 * length (get_or c.entries i blank).name.units ≤ length s
    name-inside =
        let r = record-stands x s (length c.entries) 0 c.first read-so.2 i h in
        let w = recorded s (components_of x) (passed x s c.first i) (components-some x) r.1 in
        omega (arith, w.first, w.units, w.next, w.inside)
