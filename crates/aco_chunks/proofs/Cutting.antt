-- However a file is cut, the end answers what the whole-file reader answers, and the store holds the colours that sound_colours. Assumes nothing.
use Prim.Native.Nat.{ℕ, suc, ◌+◌, ◌-◌, ◌≤◌, ◌<◌}
use mathlib.Core.Path.{◌≡◌, refl, sym, ap, ◌∙◌, subst}
use mathlib.Core.List.{List, [], ◌∷◌, ◌++◌, append-nil}
use mathlib.Core.Bool.{Bool, true, false}
use lib.Dec.{leb, ltb, eqb}
use lib.ListN.{length, get_or, take, drop, length-append, take-append-drop, get_or-append, length-drop}
use lib.Seq.{get_or-drop, drop-drop, get_or-append_seam, length-take-le}
use borrow.Author.Tests.{leb-true, leb-false, le-leb, lt-ltb, le-ltb, eqb-true, eqb-false}
use native.Mathlib.Omega.{arith}
use native.Mathlib.Nat.{add-zero}
use native.Mathlib.Decide.{ℕ_discrete}
use Rattle.algebra.specs.Reader.{pick, refuse, limit}
use Rattle.aco.specs.Reading.{lists, aco}
use Rattle.algebra.specs.Table.{refused, verdict}
use Rattle.aco_judge.specs.Answer.{report}
use Rattle.aco_judge.proofs.Judging.{aco-long}
use Rattle.aco_chunks.specs.declared.Stage.{Stage}
use Rattle.aco_chunks.specs.declared.Stage.TheVariants as v
use Rattle.aco_chunks.specs.Chunks.{size, item, after, kept, Progress, is_fault, carried_further, unless_fault, limited, byte, chunk, chunks, begin, ending, answer}
use Rattle.aco_chunks.specs.Promise.{join, sound_colours, held, AnyCutting}
use Rattle.algebra.proofs.Alone.{Window}
use Rattle.aco_chunks.proofs.Items.{Left, item-whole, item-cut, item-limit}

-- ---- cutting: a chunk is its bytes one after the other, and so are chunks

pub chunk-append : (a b : List ℕ) (g : Progress) → chunk g (a ++ b) ≡ chunk (chunk g a) b
unfolding chunk
chunk-append [] b g = refl
chunk-append (x ∷ a) b g = chunk-append a b (byte g x)

pub chunks-join : (cs : List (List ℕ)) (g : Progress) → chunks g cs ≡ chunk g (join cs)
unfolding chunks join chunk
chunks-join [] g = refl
chunks-join (c ∷ cs) g = chunks-join cs (chunk g c) ∙ sym (chunk-append c (join cs) g)

-- ---- the bytes before place i of the file s

module _ (s st : List ℕ) (room : 40960 ≤ length st) where
  -- what has begun at `from` is not whole yet, and its bytes are carried
  pub record Stands (from : ℕ) (g : Progress) : Type 0 where
    pub total : g.total ≡ from + length g.carry
    pub short : length g.carry < size g.stage
    pub inside : from + length g.carry ≤ length s
    pub bytes : (k : ℕ) → k < length g.carry → get_or g.carry k 0 ≡ get_or s (from + k) 0
    pub left : Left s st room g.stage from g.store

  -- after i bytes
  abbrev pub Until : ℕ → Progress → Type 0
  Until i g = (from : ℕ) × Stands from g × (i ≡ from + length g.carry)

  fault-left : (g : Stage) → is_fault g ≡ true → (from to : ℕ) (store : List ℕ) → Left s st room g from store → Left s st room g to store
  fault-left v.First e from to store f = let w : ◌≡◌ {A = ℕ} 0 1 = cc in absurd (omega arith)
  fault-left (v.Colour n i) e from to store f = let w : ◌≡◌ {A = ℕ} 0 1 = cc in absurd (omega arith)
  fault-left (v.Second n) e from to store f = let w : ◌≡◌ {A = ℕ} 0 1 = cc in absurd (omega arith)
  fault-left (v.Entry n i) e from to store f = let w : ◌≡◌ {A = ℕ} 0 1 = cc in absurd (omega arith)
  fault-left (v.Unit n i at m z) e from to store f = let w : ◌≡◌ {A = ℕ} 0 1 = cc in absurd (omega arith)
  fault-left (v.End n) e from to store f = let w : ◌≡◌ {A = ℕ} 0 1 = cc in absurd (omega arith)
  fault-left (v.Fault x p r y) e from to store f = f

  fault-size : (g : Stage) → is_fault g ≡ true → size g ≡ 1
  fault-size v.First e = let w : ◌≡◌ {A = ℕ} 0 1 = cc in absurd (omega arith)
  fault-size (v.Colour n i) e = let w : ◌≡◌ {A = ℕ} 0 1 = cc in absurd (omega arith)
  fault-size (v.Second n) e = let w : ◌≡◌ {A = ℕ} 0 1 = cc in absurd (omega arith)
  fault-size (v.Entry n i) e = let w : ◌≡◌ {A = ℕ} 0 1 = cc in absurd (omega arith)
  fault-size (v.Unit n i at m z) e = let w : ◌≡◌ {A = ℕ} 0 1 = cc in absurd (omega arith)
  fault-size (v.End n) e = let w : ◌≡◌ {A = ℕ} 0 1 = cc in absurd (omega arith)
  fault-size (v.Fault x p r y) e = refl

  some_size : (g : Stage) → 0 < size g
  some_size v.First = omega arith
  some_size (v.Colour n i) = omega arith
  some_size (v.Second n) = omega arith
  some_size (v.Entry n i) = omega arith
  some_size (v.Unit n i at m z) = omega arith
  some_size (v.End n) = omega arith
  some_size (v.Fault x p r y) = omega arith

  module _ (from i : ℕ) (g : Progress) (h : Stands from g) (e : i ≡ from + length g.carry) (l : i < length s) where
    abbrev pub x : ℕ
    x = get_or s i 0

    abbrev more : List ℕ
    more = g.carry ++ (x ∷ [])

    length_more : length more ≡ length g.carry + 1
    length_more = length-append g.carry (x ∷ []) ∙ omega arith

    bytes-more : (k : ℕ) → k < length more → get_or more k 0 ≡ get_or s (from + k) 0
    bytes-more k d = elim (ℕ_discrete k (length g.carry)) [
      | yes y ↦ ap (λ (j : ℕ). get_or more j 0) y ∙ get_or-append_seam g.carry x [] 0 ∙ ap (λ (j : ℕ). get_or s j 0) (omega arith)
      | no y ↦ let z : k < length g.carry = omega (arith, length_more) in get_or-append g.carry (x ∷ []) 0 k z ∙ h.bytes k z
    ]

    joined-stands : is_fault g.stage ≡ false → (b : Bool) → eqb (length g.carry + 1) (size g.stage) ≡ b → Until (i + 1) (carried_further b g.stage (g.total + 1) more g.store)
    joined-stands n true w =
        let c : Window (size g.stage) s from more = record { inside = omega (arith, length_more); most = λ d. absurd (omega (arith, length_more, eqb-true (length g.carry + 1) (size g.stage) w)); bytes = bytes-more } in
        let f : g.total + 1 - length more ≡ from = omega (arith, length_more, h.total) in
        let t : from + length more ≡ i + 1 = omega (arith, length_more) in (
          from + length more,
          record {
            total = omega (arith, length_more, h.total);
            short = some_size (after g.stage (g.total + 1 - length more) (item g.store g.stage more 0));
            inside = omega arith;
            bytes = λ k d. absurd (omega arith);
            left = subst (λ (p : ℕ). Left s st room (after g.stage p (item g.store g.stage more 0)) (from + length more) (kept g.stage (item g.store g.stage more 0) more g.store)) (sym f)
                (item-whole s st room g.stage from more g.store n h.left (length_more ∙ eqb-true (length g.carry + 1) (size g.stage) w) c);
          },
          omega arith,
        )
    joined-stands n false w = (
      from,
      record {
        total = omega (arith, length_more, h.total);
        short = omega (arith, length_more, h.short, eqb-false (length g.carry + 1) (size g.stage) w);
        inside = omega (arith, length_more);
        bytes = bytes-more;
        left = h.left;
      },
      omega (arith, length_more),
    )

    counted-stands : (b : Bool) → is_fault g.stage ≡ b → Until (i + 1) (unless_fault b g x)
    counted-stands true n =
        let z : length g.carry ≡ 0 = omega (arith, h.short, fault-size g.stage n) in (
          from + 1,
          record {
            total = omega (arith, h.total);
            short = h.short;
            inside = omega arith;
            bytes = λ k d. absurd (omega arith);
            left = fault-left g.stage n from (from + 1) g.store h.left;
          },
          omega arith,
        )
    counted-stands false n = joined-stands n (eqb (length g.carry + 1) (size g.stage)) refl

    pub byte-stands : i < limit → Until (i + 1) (byte g x)
    unfolding byte
    byte-stands d = subst (λ (b : Bool). Until (i + 1) (limited b g x)) (sym (lt-ltb g.total limit (omega (arith, h.total)))) (counted-stands (is_fault g.stage) refl)

  -- bytes up to the limit
  pub run-stands : (b more : List ℕ) (i : ℕ) (g : Progress) → drop i s ≡ b ++ more → Until i g → i + length b ≤ limit → i ≤ length s → Until (i + length b) (chunk g b)
  unfolding chunk
  run-stands [] more i g e u l m = subst (λ (k : ℕ). Until k g) (sym (add-zero i)) u
  run-stands (y ∷ b) more i g e u l m =
      let n : suc (length (b ++ more)) ≡ length s - i = sym (ap length e) ∙ length-drop i s in
      let f : get_or s i 0 ≡ y = ap (λ (k : ℕ). get_or s k 0) (sym (add-zero i)) ∙ sym (get_or-drop i s 0 0) ∙ ap (λ (z : List ℕ). get_or z 0 0) e in
      let d : drop (i + 1) s ≡ b ++ more = sym (drop-drop 1 i s) ∙ ap (λ (z : List ℕ). drop 1 z) e in
      let k : i + 1 + length b ≡ i + suc (length b) = omega arith in
      let t = byte-stands u.0 i g u.1 u.2 (omega arith) (omega arith) in
      subst (λ (j : ℕ). Until j (chunk (byte g y) b)) k (run-stands b more (i + 1) (byte g y) d (subst (λ (z : ℕ). Until (i + 1) (byte g z)) f t) (omega arith) (omega arith))

  begins : Until 0 (begin st)
  begins = (0, record { total = refl; short = some_size v.First; inside = omega arith; bytes = λ k d. absurd (omega arith); left = (refl, refl) }, refl)

  -- a file within the limit
  within : length s ≤ limit → (answer (chunk (begin st) s) ≡ verdict report (aco s)) × ((chunk (begin st) s).store ≡ held (sound_colours s) s st)
  unfolding answer aco
  within l = go (run-stands s [] 0 (begin st) (sym (append-nil s)) begins (omega arith) (omega arith))
    where
      g : Progress
      g = chunk (begin st) s

      go : Until (0 + length s) g → (answer g ≡ verdict report (aco s)) × (g.store ≡ held (sound_colours s) s st)
      go u =
          let h = u.1 in
          let c : Window (size g.stage) s u.0 g.carry = record { inside = h.inside; most = λ d. omega (arith, u.2); bytes = h.bytes } in
          let r = item-cut s st room g.stage u.0 g.carry g.store h.left (omega (arith, u.2)) h.short c in
          let f : g.total - length g.carry ≡ u.0 = omega (arith, h.total) in (
            ap (λ (b : Bool). pick b (refused 1 0 0 0) (ending g.stage (g.total - length g.carry) g.carry g.store)) (le-ltb limit g.total (omega (arith, h.total, u.2)))
                ∙ ap (λ (p : ℕ). ending g.stage p g.carry g.store) f ∙ sym r.0 ∙ ap (λ (b : Bool). verdict report (pick b (lists s 0) (refuse 1 0 0 0))) (sym (le-leb (length s) limit l)),
            r.1,
          )

  -- past the limit
  past : (b : List ℕ) (g : Progress) → limit ≤ g.total → 0 < length b → ((chunk g b).store ≡ g.store) × (limit < (chunk g b).total)
  unfolding chunk byte
  past [] g l n = absurd (omega arith)
  past (y ∷ []) g l n = let e = le-ltb g.total limit l in (ap (λ (b : Bool). (limited b g y).store) e, subst (λ (b : Bool). limit < (limited b g y).total) (sym e) (omega arith))
  past (y ∷ z ∷ b) g l n =
      let e = le-ltb g.total limit l in
      let t : limit ≤ (limited (ltb g.total limit) g y).total = subst (λ (b : Bool). limit ≤ (limited b g y).total) (sym e) (omega arith) in
      let r = past (z ∷ b) (byte g y) t (omega arith) in
      (r.0 ∙ ap (λ (b : Bool). (limited b g y).store) e, r.1)

  -- the limit as a number that does not compute
  beyond : (L : ℕ) → L ≡ limit → L < length s → (answer (chunk (begin st) s) ≡ verdict report (aco s)) × ((chunk (begin st) s).store ≡ held (sound_colours s) s st)
  unfolding answer
  beyond L is l =
      let n : length (take L s) ≡ L = length-take-le L s (omega arith) in
      let m : length (drop L s) ≡ length s - L = length-drop L s in
      let u = run-stands (take L s) (drop L s) 0 (begin st) (sym (take-append-drop L s)) begins (omega arith) (omega arith) in
      let h = u.1 in
      let p = past (drop L s) (chunk (begin st) (take L s)) (omega (arith, h.total, u.2)) (omega arith) in
      let j : chunk (begin st) s ≡ chunk (chunk (begin st) (take L s)) (drop L s) = ap (chunk (begin st)) (sym (take-append-drop L s)) ∙ chunk-append (take L s) (drop L s) (begin st) in
      let t : limit < (chunk (begin st) s).total = subst (λ (z : Progress). limit < z.total) (sym j) p.1 in (
        ap (λ (b : Bool). pick b (refused 1 0 0 0) (ending (chunk (begin st) s).stage ((chunk (begin st) s).total - length (chunk (begin st) s).carry) (chunk (begin st) s).carry (chunk (begin st) s).store)) (lt-ltb limit (chunk (begin st) s).total t)
            ∙ sym (ap (verdict report) (aco-long s (omega arith))),
        ap (λ (z : Progress). z.store) j ∙ p.0 ∙ item-limit s st room (chunk (begin st) (take L s)).stage u.0 (length (chunk (begin st) (take L s)).carry) (chunk (begin st) (take L s)).store h.left h.short (omega (arith, u.2)),
      )

  pub whole-file : (answer (chunk (begin st) s) ≡ verdict report (aco s)) × ((chunk (begin st) s).store ≡ held (sound_colours s) s st)
  whole-file = go (leb (length s) limit) refl
    where
      go : (b : Bool) → leb (length s) limit ≡ b → (answer (chunk (begin st) s) ≡ verdict report (aco s)) × ((chunk (begin st) s).store ≡ held (sound_colours s) s st)
      go true e = within (leb-true (length s) limit e)
      go false e = beyond limit refl (leb-false (length s) limit e)

pub any-cutting : AnyCutting
any-cutting cs store room = let w = whole-file (join cs) store room in (ap answer (chunks-join cs (begin store)) ∙ w.0, ap (λ (g : Progress). g.store) (chunks-join cs (begin store)) ∙ w.1)
