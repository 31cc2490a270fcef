-- What reading gives where the bytes of an entry's fields stand: each field, and each kind. Assumes nothing.
use Prim.Native.Nat.{ℕ, zero, suc, ◌+◌, ◌-◌, ◌*◌, ◌^◌, ◌≤◌, ◌<◌}
use mathlib.Core.Path.{◌≡◌, refl, sym, ap, ap₂, ◌∙◌, subst}
use mathlib.Core.List.{List, [], ◌∷◌}
use mathlib.Core.Bool.{Bool, true, false}
use lib.Dec.{leb, eqb}
use lib.ListN.{length}
use lib.Ieee.{binary64, of_bits}
use lib.Ieee.Scale.{finite}
use native.Mathlib.Omega.{arith}
use native.Mathlib.Nat.{add-zero}
use Rattle.algebra.specs.Numbers.{be, nums, joined, At, Bytes, All}
use Rattle.algebra.specs.Reader.{Res, ok, refuse, Reader, then, pick, body, rule, judged, ◌>>=◌, each, done, number_of}
use Rattle.algebra.specs.Store.{part}
use Rattle.algebra.specs.Faults.{first_of, faults_from}
use Rattle.algebra.specs.Algebra.{Tells}
use Rattle.algebra.proofs.Laws.{body-in}
use Rattle.algebra.proofs.Places.{at_in, at_part, part-nums, nums-bes, nums-lt, length-nums}
use Rattle.algebra.proofs.Tells.{first-none, Outcome, good, bad, outcome, tells, each_tells, unless-tells}
use Rattle.descriptor.specs.Reading as count
use Rattle.descriptor.specs.Reading.{boolean, bits, unit, array_unit, passing, skip, id, shut, closing, unicode, flag, double, raw_bytes, is_unit, is_array_unit, unit_double, column}
use Rattle.descriptor_entry.specs.Pieces as p
use Rattle.descriptor_entry.specs.Pieces.{number, run, doubles, fault_of, bytes, Fit, Fits}
use Rattle.descriptor_entry.specs.Shapes.{id_length}
use Rattle.descriptor_entry.proofs.Laws.{part-inside}
use Rattle.descriptor_entry.proofs.Meeting as r
use Rattle.descriptor_entry.proofs.Meeting.{Meets, Reads, reads_then, reads-one, reads-passing, reads-judged, reads-field, reads-run}

-- numbers of a part of the text, where it stands in s
same-nums : (s text : List ℕ) → Bytes text → (w n at first k : ℕ) → k ≡ n * w → 0 < k → k ≤ length text - first → At s at (part text first k) → nums w n s at ≡ nums w n text first
same-nums s text b w n at first k e pos h stands =
    let vs : List ℕ = nums w n text first in
    let l : part text first k ≡ joined (be w) vs = part-nums w text b n first k e (omega (arith, e)) in
    ap (λ (m : ℕ). nums w m s at) (sym (length-nums w n text first)) ∙ nums-bes w s vs at 0 (nums-lt w text b n first 0) (subst (λ (x : List ℕ). At s at x) l stands)

-- the units of a string, behind a count at the place c
abbrev units_behind : (c n : ℕ) → Reader Unit
units_behind c n s at = then (body 2 n s at) (λ us end. rule (closing (shut us)) c (ok tt end))

module _ (s text : List ℕ) where
  -- ---- an ID

  pub reads-id : (n first : ℕ) → n < 256 ^ 4 → Fit text (run first (id_length n)) → Reads s text (number 4 n 0 ∷ run first (id_length n) ∷ []) id tt
  unfolding id
  reads-id n first small fit = reads_then s text (reads-field s text 4 n small) (λ n. skip (id_length n)) (reads-run s text first (id_length n) fit)

  pub reads_bytes : (n first : ℕ) → n < 256 ^ 4 → Fit text (run first n) → Reads s text (number 4 n 0 ∷ run first n ∷ []) raw_bytes tt
  unfolding raw_bytes
  reads_bytes n first small fit = reads_then s text (reads-field s text 4 n small) skip (reads-run s text first n fit)

  -- ---- a Unicode string

  reads-units : Bytes text → (c n first : ℕ) → Fit text (p.units first n) → Reads s text (p.units first n ∷ []) (units_behind c n) tt
  unfolding nums
  reads-units b c n first fit = reads-one s text (p.units first n) (units_behind c n) tt (λ at h. go n refl at h)
    where
      by : (t : Bool) (at end : ℕ) (x : ℕ) → x ≡ 0 → Meets {A = Unit {0}} (rule (closing t) c (ok tt end)) (first_of x (pick t 0 8)) end tt
      by true at end x z = r.good refl (first-none x 0 z)
      by false at end x z = subst (λ (k : ℕ). Meets {A = Unit {0}} (refuse 8 c 0 0) k end tt) (sym (first-none x 8 z)) (r.bad c 0 0 refl (omega arith))

      inside : (m : ℕ) → m ≡ n → (at : ℕ) → At s at (part text first (2 * n)) → nums 2 n s at ≡ nums 2 n text first
      inside zero e at h = subst (λ (k : ℕ). nums 2 k s at ≡ nums 2 k text first) e refl
      inside (suc m) e at h = same-nums s text b 2 n at first (2 * n) (omega arith) (omega arith) (part-inside text first (2 * n) fit) h

      go : (m : ℕ) → m ≡ n → (at : ℕ) → At s at (part text first (2 * n)) → Meets (units_behind c n s at) (fault_of text (p.units first n)) (at + length (part text first (2 * n))) tt
      go m e at h =
          let l : n * 2 ≤ length s - at = omega (arith, fit, at_in s at (part text first (2 * n)) h) in
          let k : at + n * 2 ≡ at + length (part text first (2 * n)) = omega (arith, fit) in
          let z : number_of (body 2 n text first) ≡ 0 = ap number_of (body-in 2 text first n (omega (arith, part-inside text first (2 * n) fit))) in
          let u : units_behind c n s at ≡ rule (closing (shut (nums 2 n text first))) c (ok tt (at + length (part text first (2 * n)))) =
          ap (λ (w : Res (List ℕ)). then w (λ us end. rule (closing (shut us)) c (ok tt end))) (body-in 2 s at n l) ∙ ap₂ (λ (us : List ℕ) (q : ℕ). rule (closing (shut us)) c (ok tt q)) (inside m e at h) k in
          subst (λ (w : Res Unit). Meets w (fault_of text (p.units first n)) (at + length (part text first (2 * n))) tt) (sym u) (by (shut (nums 2 n text first)) at (at + length (part text first (2 * n))) (number_of (body 2 n text first)) z)

  pub reads-unicode : Bytes text → (n first : ℕ) → n < 256 ^ 4 → Fit text (p.units first n) → Reads s text (number 4 n 0 ∷ p.units first n ∷ []) unicode tt
  unfolding unicode
  reads-unicode b n first small fit = record {
    meets = λ at h. (reads_then s text (reads-field s text 4 n small) (units_behind at) (reads-units b at n first fit)).meets at h;
  }

  -- ---- numbers that are judged

  pub reads-flag : (v : ℕ) → v < 256 ^ 1 → Reads s text (number 1 v (pick (leb v 1) 0 5) ∷ []) flag tt
  unfolding flag
  reads-flag v small = reads-passing s text (reads-judged s text 1 v boolean (leb v 1) 5 small refl (omega arith))

  pub reads-double : (v : ℕ) → v < 256 ^ 8 → Reads s text (number 8 v (pick (finite (of_bits binary64 v)) 0 5) ∷ []) double tt
  unfolding double
  reads-double v small = reads-passing s text (reads-judged s text 8 v bits (finite (of_bits binary64 v)) 5 small refl (omega arith))

  pub reads-unit-double : (u v : ℕ) → u < 256 ^ 4 → v < 256 ^ 8 → Reads s text (number 4 u (pick (is_unit u) 0 4) ∷ number 8 v (pick (finite (of_bits binary64 v)) 0 5) ∷ []) unit_double tt
  unfolding unit_double
  reads-unit-double u v small few = reads_then s text (reads-judged s text 4 u unit (is_unit u) 4 small refl (omega arith)) (λ u. double) (reads-double v few)

  -- ---- doubles

  outcome-done : {A : Type 0} (m : Res A) (x end : ℕ) → Outcome m x end → Meets (done m) x end tt
  outcome-done m x end (good a e z) = r.good (ap done e) z
  outcome-done m x end (bad q t g e h) = r.bad q t g (ap done e) h

done-outcome : {A : Type 0} (m : Res A) (x end : ℕ) → Outcome m x end → Outcome (done m) x end
done-outcome m x end (good a e z) = good tt (ap done e) z
done-outcome m x end (bad q t g e h) = bad q t g (ap done e) h

double-tells : (s : List ℕ) → Tells s double (λ v. v < 256 ^ 8) (be 8) (λ v. pick (finite (of_bits binary64 v)) 0 5)
unfolding double
double-tells s = tells (λ at v fit h. done-outcome _ _ _ (outcome (unless-tells s 8 (λ v. finite (of_bits binary64 v)) 5 (omega arith)) at v fit h))

module _ (s text : List ℕ) (b : Bytes text) where
  pub reads-doubles : (n first : ℕ) → Fit text (doubles first n) → Reads s text (doubles first n ∷ []) (passing (each n 0 (λ i. double))) tt
  unfolding each
  reads-doubles n first fit = reads-one s text (doubles first n) (passing (each n 0 (λ i. double))) tt (λ at h. go n refl at h)
    where
      go : (m : ℕ) → m ≡ n → (at : ℕ) → At s at (part text first (8 * n)) → Meets (done (each n 0 (λ i. double) s at)) (fault_of text (doubles first n)) (at + length (part text first (8 * n))) tt
      go zero e at h = subst (λ (k : ℕ). Meets (done (each k 0 (λ i. double) s at)) (number_of (each k 0 (λ i. double) text first)) (at + length (part text first (8 * k))) tt) e (r.good (ap (λ (k : ℕ). ok tt k) (sym (add-zero at))) refl)
      go (suc m) e at h =
          let vs : List ℕ = nums 8 n text first in
          let i = part-inside text first (8 * n) fit in
          let l : part text first (8 * n) ≡ joined (be 8) vs = part-nums 8 text b n first (8 * n) (omega arith) (omega (arith, i)) in
          let fits : (length vs ≡ n) × All (λ k v. v < 256 ^ 8) 0 vs = (length-nums 8 n text first, nums-lt 8 text b n first 0) in
          let here = outcome (each_tells {s = s} {p = λ i. double} {Fits = λ i v. v < 256 ^ 8} {ser = be 8} {f = λ i v. pick (finite (of_bits binary64 v)) 0 5} (λ i. double-tells s) n 0) at vs fits (subst (λ (x : List ℕ). At s at x) l h) in
          let there = (each_tells {s = text} {p = λ i. double} {Fits = λ i v. v < 256 ^ 8} {ser = be 8} {f = λ i v. pick (finite (of_bits binary64 v)) 0 5} (λ i. double-tells text) n 0).number first vs fits (subst (λ (x : List ℕ). At text first x) l (at_part text first (8 * n) (omega (arith, i)))) in
          subst (λ (x : ℕ). Meets (done (each n 0 (λ i. double) s at)) x (at + length (part text first (8 * n))) tt) (sym there)
          (subst (λ (x : List ℕ). Meets (done (each n 0 (λ i. double) s at)) (faults_from (λ i v. pick (finite (of_bits binary64 v)) 0 5) 0 vs) (at + length x) tt) (sym l) (outcome-done s text (each n 0 (λ i. double) s at) _ _ here))

  -- behind the unit: a count, which is m, else 5, and the doubles
  abbrev columnBehind : (m u : ℕ) → Reader Unit
  columnBehind m u = do
    n ← judged 4 (count.doubles m)
    passing (each n 0 (λ i. double))

  pub reads-column : (m u n first : ℕ) → u < 256 ^ 4 → n < 256 ^ 4 → Fit text (doubles first n)
      → Reads s text (number 4 u (pick (is_array_unit u) 0 4) ∷ number 4 n (pick (eqb n m) 0 5) ∷ doubles first n ∷ []) (column m) tt
  unfolding column
  reads-column m u n first small few fit =
      reads_then s text (reads-judged s text 4 u array_unit (is_array_unit u) 4 small refl (omega arith)) (columnBehind m)
      (reads_then s text (reads-judged s text 4 n (count.doubles m) (eqb n m) 5 few refl (omega arith)) (λ n. passing (each n 0 (λ i. double))) (reads-doubles n first fit))
