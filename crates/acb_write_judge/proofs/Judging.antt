-- Which fault is found first, and how long the file is, on plain values. Assumes nothing.
use Rattle.algebra.proofs.Table.{whole_in}
use Rattle.algebra.proofs.Counted.{counted-end, counted_start, counted-turn}
use Prim.Native.Nat.{ℕ, zero, suc, ◌+◌, ◌*◌, ◌-◌, ◌≤◌, ◌<◌}
use mathlib.Core.Path.{◌≡◌, refl, sym, ap, ap₂, ◌∙◌, subst}
use mathlib.Core.List.{List, [], ◌∷◌}
use lib.Dec.{leb, ltb}
use lib.ListN.{length, get_or, drop, take}
use borrow.Author.Tests.{eq-eqb, ne_eqb, le-leb, lt-leb, leb-true, lt-ltb}
use native.Mathlib.Omega.{arith}
use native.Mathlib.Nat.{add-zero, lt_of_not-le}
use native.Mathlib.Decide.{ℕ_discrete, dec_le}
use Rattle.algebra.specs.Reader.{pick}
use Rattle.algebra.specs.Reader as reader
use Rattle.algebra.specs.Faults.{first_of, faults}
use Rattle.algebra.proofs.Laws.{body-in, body-short}
use Rattle.algebra.proofs.Tells.{first-inv, pick-none}
use Rattle.algebra.proofs.Firsts.{hit, pass}
use Rattle.acb.specs.Reading.{is_space}
use Rattle.acb.specs.Faults as f
use Rattle.acb.proofs.Faultless.{page-first}
use Rattle.acb_judge.specs.Answer.{HeaderPlaces}
use Rattle.acb_writing.specs.Writing.{components_in, sizes, string_size, size_within, text_fault, byte_fault, head_fault, colour_fault}
use Rattle.algebra.specs.Table.{rows}
use Rattle.acb.specs.Row.{RecordRow, width, taken}
use Rattle.acb_write_judge.specs.Parts.{record_in}
use Rattle.acb_write_judge.specs.scaffold.Parts.{given_at, start, RecordFits, RecordsFit, told_fault}
use mathlib.Core.Bool.{true}
use Rattle.std.specs.Prelude.{Result, Ok, Err, is_ok}
use Rattle.std.specs.Result.{IsErrAnd}
use Rattle.std.proofs.lemmas.Result.{err_from_is_err_and}
use Rattle.fault.specs.Fault.{number_of}
use Rattle.fault.specs.declared.Fault.{Fault}
use Rattle.fault.specs.declared.Fault.TheVariants as fault
use Rattle.std.proofs.Math.Seq.{drop-cons}
use Rattle.std.proofs.lemmas.List.{drop_all}

-- ---- a record of a run

pub record-whole : (run : List ℕ) (n k : ℕ) → width * n ≤ length run → k < n → record_in run k ≡ given_at run k
record-whole run n k h l = whole_in width taken run (taken []) k (omega arith)

-- ---- the first fault of a list, one value after the other

module _ {A : Type 0} (f : A → ℕ) (a : A) (l : List A) where
  pub found_here : (r : ℕ) → r ≡ f a → (r ≡ 0 → ⊥) → r ≡ faults f (a ∷ l)
  unfolding faults
  found_here r e h = hit r (f a) (faults f l) e h

  pub found-next : (z r : ℕ) → z ≡ f a → z ≡ 0 → r ≡ faults f l → r ≡ faults f (a ∷ l)
  unfolding faults
  found-next z r e h k = pass r (f a) (faults f l) z e h k

pub found_none : {A : Type 0} (f : A → ℕ) → 0 ≡ faults f []
unfolding faults
found_none f = refl

pub found-last : {A : Type 0} (f : A → ℕ) (a : A) (r : ℕ) → r ≡ f a → r ≡ faults f (a ∷ [])
unfolding faults
found-last f a r e = go (f a) e
  where
    go : (x : ℕ) → r ≡ x → r ≡ first_of x 0
    go zero h = h
    go (suc x) h = hit r (suc x) 0 h (λ z. omega arith)

-- ---- bytes

-- numbers of which those before number i are bytes
module _ (l : List ℕ) (i : ℕ) (e : faults byte_fault l ≡ faults byte_fault (drop i l)) where
  module _ (h : i < length l) where
    turn : faults byte_fault l ≡ first_of (byte_fault (get_or l i 0)) (faults byte_fault (drop (i + 1) l))
    unfolding faults
    turn =
        let z : suc i ≡ i + 1 = omega arith in
        e ∙ ap (faults byte_fault) (drop-cons l i 0 h) ∙ ap (λ (k : ℕ). first_of (byte_fault (get_or l i 0)) (faults byte_fault (drop k l))) z

    pub byte-bad : 255 < get_or l i 0 → 5 ≡ faults byte_fault l
    byte-bad k = hit 5 (byte_fault (get_or l i 0)) (faults byte_fault (drop (i + 1) l)) (sym (rw (lt-leb (get_or l i 0) 255 k))) (λ z. omega arith) ∙ sym turn

    pub byte-fine : get_or l i 0 ≤ 255 → faults byte_fault l ≡ faults byte_fault (drop (i + 1) l)
    byte-fine k =
        let rest : ℕ = faults byte_fault (drop (i + 1) l) in
        turn ∙ sym (pass rest (byte_fault (get_or l i 0)) rest 0 (sym (rw (le-leb (get_or l i 0) 255 k))) refl refl)

  pub bytes-end : length l ≤ i → 0 ≡ faults byte_fault l
  unfolding faults
  bytes-end h = sym (e ∙ ap (faults byte_fault) (drop_all i l h))

-- the first n of numbers that are all bytes
pub bytes-first : (n : ℕ) (l : List ℕ) → 0 ≡ faults byte_fault l → 0 ≡ faults byte_fault (take n l)
unfolding faults
bytes-first zero l e = refl
bytes-first (suc n) [] e = refl
bytes-first (suc n) (x ∷ l) e =
    let f = first-inv (byte_fault x) (faults byte_fault l) (sym e) in
    pass 0 (byte_fault x) (faults byte_fault (take n l)) 0 (sym f.0) refl (bytes-first n l (sym f.1))

-- ---- a string

module _ (text : List ℕ) (l : ℕ × ℕ) where
  pub text_in : 2 * l.1 ≤ length text - l.0 → 0 ≡ text_fault text l
  text_in h = sym (ap reader.number_of (body-in 2 text l.0 l.1 (omega arith)))

  pub text-cut : length text - l.0 < 2 * l.1 → 2 ≡ text_fault text l
  text-cut h = sym (ap reader.number_of (body-short 2 text l.0 l.1 (omega arith)))

  -- one without a fault lies in the lent bytes, from where its copy starts
  pub text-inside : text_fault text l ≡ 0 → start l + 2 * l.1 ≤ length text
  text-inside e = elim (ℕ_discrete l.1 0) [
    | yes z ↦ rw (eq-eqb l.1 0 z) (omega arith)
    | no z ↦ rw (ne_eqb l.1 0 z) (let h = fits in omega arith)
  ]
    where
      fits : 2 * l.1 ≤ length text - l.0
      fits = elim (dec_le (2 * l.1) (length text - l.0)) [
        | yes h ↦ h
        | no h ↦ absurd (omega (arith, e, text-cut (lt_of_not-le h)))
      ]

-- ---- the header

module _ (text : List ℕ) (h : HeaderPlaces) (count x : ℕ) (e : x ≡ faults (text_fault text) h.texts) where
  pub head-text : (x ≡ 0 → ⊥) → x ≡ head_fault text h count
  unfolding f.head_fault
  head-text z = hit x _ _ e z

  module _ (z : x ≡ 0) where
    behind : (r : ℕ) → r ≡ first_of (pick (leb count 65535) 0 5) (first_of (pick (ltb 0 h.size) 0 5) (pick (is_space h.space) 0 4)) → r ≡ head_fault text h count
    unfolding f.head_fault
    behind r w = pass r (faults (text_fault text) h.texts) _ x e z w

    pub head-many : 65535 < count → 5 ≡ head_fault text h count
    head-many k = behind 5 (sym (rw (lt-leb count 65535 k)))

    module _ (few : count ≤ 65535) where
      pub head-page : h.size ≡ 0 → 5 ≡ head_fault text h count
      head-page k = sym (ap₂ (λ (y s : ℕ). f.head_fault y count s h.space) (sym e ∙ z) k ∙ page-first count h.space few)

      pub head-space : (h.size ≡ 0 → ⊥) → (r : ℕ) → r ≡ pick (is_space h.space) 0 4 → r ≡ head_fault text h count
      head-space k r w = behind r (w ∙ sym (rw (le-leb count 65535 few, lt-ltb 0 h.size (omega arith))))

-- a header without a fault: its strings have none, and its count fits
pub head-fine : (text : List ℕ) (h : HeaderPlaces) (count : ℕ) → head_fault text h count ≡ 0 → (faults (text_fault text) h.texts ≡ 0) × (count ≤ 65535)
unfolding f.head_fault
head-fine text h count e =
    let a = first-inv (faults (text_fault text) h.texts) _ e in
    let b = first-inv (pick (leb count 65535) 0 5) _ a.1 in
    (a.0, leb-true count 65535 (pick-none (leb count 65535) 5 (omega arith) b.0))

-- ---- a record

module _ (text : List ℕ) (n : ℕ) (g : RecordRow) where
  module _ (x : ℕ) (e : x ≡ text_fault text g.name) where
    pub colour-named : (x ≡ 0 → ⊥) → x ≡ colour_fault text n g
    unfolding colour_fault
    colour-named z = hit x _ _ e z

    module _ (z : x ≡ 0) (y : ℕ) (w : y ≡ faults byte_fault g.code) where
      pub colour-coded : (y ≡ 0 → ⊥) → y ≡ colour_fault text n g
      unfolding colour_fault
      colour-coded k = pass y (text_fault text g.name) _ x e z (hit y _ _ w k)

      pub colour-rest : y ≡ 0 → (r : ℕ) → r ≡ faults byte_fault (components_in n g) → r ≡ colour_fault text n g
      unfolding colour_fault
      colour-rest k r v = pass r (text_fault text g.name) _ x e z (pass r (faults byte_fault g.code) _ y w k v)

  pub colour_name : colour_fault text n g ≡ 0 → text_fault text g.name ≡ 0
  unfolding colour_fault
  colour_name e = (first-inv (text_fault text g.name) _ e).0

-- a record's size by the size of what stands behind its name
abbrev pub toned : ℕ → RecordRow → ℕ
toned t g = string_size g.name + t

-- ---- a loop over the records of a run

module _ (run : List ℕ) where
  module _ (f : RecordRow → ℕ) where
    pub sizes-start : (n : ℕ) → sizes f (rows width taken run (n - 0) 0) ≡ sizes f (rows width taken run n 0)
    sizes-start n = ap (sizes f) (sym (counted_start (given_at run) n))

    pub sizes-turn : (n i : ℕ) → i < n → sizes f (rows width taken run (n - i) i) ≡ f (given_at run i) + sizes f (rows width taken run (n - (i + 1)) (i + 1))
    unfolding sizes
    sizes-turn n i h = ap (sizes f) (counted-turn (given_at run) n i h)

    pub sizes-end : (n i : ℕ) → n ≤ i → sizes f (rows width taken run (n - i) i) ≡ 0
    unfolding sizes
    sizes-end n i h = ap (sizes f) (counted-end (given_at run) n i h)

-- ---- four values

module _ {A : Type 0} (f : A → ℕ) (a b c d : A) where
  pub sizes-four : sizes f (a ∷ b ∷ c ∷ d ∷ []) ≡ f a + (f b + (f c + f d))
  unfolding sizes
  sizes-four = ap (λ (x : ℕ). f a + (f b + (f c + x))) (add-zero (f d))

  pub four-sound : faults f (a ∷ b ∷ c ∷ d ∷ []) ≡ 0 → (f a ≡ 0) × (f b ≡ 0) × (f c ≡ 0) × (f d ≡ 0)
  unfolding faults
  four-sound e =
      let x = first-inv (f a) _ e in
      let y = first-inv (f b) _ x.1 in
      let z = first-inv (f c) _ y.1 in
      (x.0, y.0, z.0, (first-inv (f d) 0 z.1).0)

-- ---- what storing asks

module _ (text run : List ℕ) (m : ℕ) where
  pub fit-start : (n at room : ℕ) → RecordsFit text m (rows width taken run n 0) at room → RecordsFit text m (rows width taken run (n - 0) 0) at room
  fit-start n at room e = subst (λ (gs : List RecordRow). RecordsFit text m gs at room) (counted_start (given_at run) n) e

  module _ (n i at room : ℕ) (h : i < n) (e : RecordsFit text m (rows width taken run (n - i) i) at room) where
    none : (colour_fault text m (given_at run i) ≡ 0) × (faults (colour_fault text m) (rows width taken run (n - (i + 1)) (i + 1)) ≡ 0)
    unfolding faults
    none = first-inv _ _ (sym (ap (faults (colour_fault text m)) (counted-turn (given_at run) n i h)) ∙ e.sound)

    pub fit_next : RecordFits text m (given_at run i) at room
    fit_next =
        let t = sizes-turn run (size_within m) n i h in
        record { least = e.least; most = e.most; inside = omega (arith, e.inside); sound = none.0 }

    pub fit-rest : (q : ℕ) → q ≡ at + size_within m (given_at run i) → RecordsFit text m (rows width taken run (n - (i + 1)) (i + 1)) q room
    fit-rest q w =
        let t = sizes-turn run (size_within m) n i h in
        record { least = e.least; most = e.most; inside = omega (arith, e.inside); sound = none.1 }

-- ---- a fault that is handed on

pub fault-exit : (r : Result Unit Fault) (f : Fault) {n : ℕ} → IsErrAnd r (λ y. y ≡ f) → number_of f ≡ n → told_fault r ≡ n
fault-exit r f h rest = let p = err_from_is_err_and r h in rw (p.1, p.2) rest

pub some : (f : Fault) → number_of f ≡ 0 → ⊥
some fault.TooLong e = omega arith
some fault.Short e = omega arith
some fault.WrongTag e = omega arith
some fault.Unknown e = omega arith
some fault.OutOfRange e = omega arith
some fault.LeftOver e = omega arith
some fault.ListsDiffer e = omega arith
some fault.BadlyClosed e = omega arith
some fault.Unbalanced e = omega arith
some fault.TooDeep e = omega arith
some fault.NoRoom e = omega arith
some fault.NoRecord e = omega arith
some fault.WrongLength e = omega arith
some fault.NoCounterpart e = omega arith

pub fault-here : {A : Type 0} (g : A → ℕ) (a : A) (l : List A) (r : Result Unit Fault) (f : Fault) → IsErrAnd r (λ y. y ≡ f) → number_of f ≡ g a → told_fault r ≡ faults g (a ∷ l)
fault-here g a l r f h e = fault-exit r f h (found_here g a l (number_of f) e (some f))

-- no fault, where the judgement says so
pub told-fine : (r : Result Unit Fault) → true ≡ is_ok r → told_fault r ≡ 0
told-fine (Ok u) e = refl
told-fine (Err f) e = let z : ◌≡◌ {A = ℕ} 0 1 = cc in absurd (omega arith)
