-- Of swatches that were written, the reader's number is their own first fault. Assumes nothing.
use Prim.Native.Nat.{ℕ, zero, suc, ◌+◌, ◌^◌, ◌≤◌, ◌<◌}
use mathlib.Core.Path.{◌≡◌, refl, sym, ap, ap₂, ◌∙◌, subst, subst₂}
use mathlib.Core.List.{List, [], ◌∷◌, ◌++◌, map, append-nil}
use lib.Dec.{leb}
use lib.ListN.{length, get_or, length-append}
use borrow.Author.Tests.{eq-eqb, ne_eqb}
use native.Mathlib.Omega.{arith}
use native.Mathlib.Nat.{zero-add}
use Rattle.algebra.specs.Numbers.{num, nums, be, joined, At, Bytes, All}
use Rattle.algebra.specs.Reader.{ok, then, pick, rule, Judged, judged, give, ◌>>=◌, each, ended}
use Rattle.algebra.specs.Text.{name, name_bytes}
use Rattle.algebra.specs.Faults.{first_of, faults, faults_from}
use Rattle.algebra.specs.Algebra.{Tells}
use Rattle.algebra.proofs.Laws.{field_in, judged-ok}
use Rattle.algebra.proofs.Places.{length-be, length-bes, at_in, at_left, at_after, num-be, nums-bes}
use Rattle.algebra.proofs.Inverse.{rule-inv, ok-value}
use Rattle.algebra.proofs.Exact.{all-at, all-by, length-map, map-id}
use Rattle.algebra.proofs.Tells.{Outcome, good, outcome-fault, outcome-then, outcome-rule, outcome, same-tells, Gives, exact-tells, exact-gives, unless-tells, unless-found, unless-sure, judged-gives, give-tells, bind-tells, each_tells, each-gives, name-tells, name-gives, first-zero, first-none, faults-from, faults-map}
use Rattle.colour.specs.declared.space.Colour.{Colour}
use Rattle.colour.specs.Spaces.{known, allowed}
use Rattle.aco.specs.Grammar.{Swatch, colour_bytes, entry_bytes, list_one, list_two, two_lists}
use Rattle.aco.specs.Reading.{space, sample, samples, colour, heading, entry, zero_colour, second, after, lists, version, first_count, second_count}
use Rattle.aco.specs.Faults.{sample_fault, fields_fault, colour_fault, name_fault, swatches_fault, palette_fault, Fits}
use Rattle.aco.proofs.Fine.{version-fine, second-fine}
use Rattle.aco.proofs.Raw.{colour-inv}
use Rattle.aco.proofs.Laws.{hue, sample_bytes, mix, label, named_entry, Sized, repeats-exact}
use Rattle.aco.proofs.Whole.{hues-bytes, hue-at, length_two}

-- the fault of a swatch's name as a value
abbrev pub own_name : Swatch → ℕ
own_name w = name_fault 0 w.name

-- ---- a colour

module _ (s : List ℕ) where
  rest-tells : (x : ℕ) → Tells s (samples x >>= (λ vs. give (mix x vs))) (λ (c : Colour). ((length c.samples ≡ 4) × All (λ k v. v < 256 ^ 2) 0 c.samples) × (c.space ≡ x)) (λ c. joined (be 2) c.samples) (λ c. faults_from (sample_fault c.space) 0 c.samples)
  unfolding samples
  rest-tells x =
      same-tells
      (bind-tells {k = λ vs. give (mix x vs)} {view = map (λ (v : ℕ). v)} {FitsD = λ (c : Colour). Unit {0}} {rest = λ c. []} {g = λ c. 0} (λ c. c.samples)
      (each_tells {p = λ k. judged 2 (sample x k)} {Fits = λ k v. v < 256 ^ 2} {f = sample_fault x} (λ k. unless-tells s 2 (allowed x k) 5 (omega arith)) 4 0)
      (each-gives {p = λ k. judged 2 (sample x k)} {Fits = λ k v. v < 256 ^ 2} (λ k. judged-gives s 2 (sample x k)) 4 0)
      (λ vs. same-tells (give-tells s (mix x vs)) (λ (c : Colour). Unit {0} × (c.samples ≡ map (λ (v : ℕ). v) vs)) (λ c. []) (λ c. 0) (λ c h. tt) (λ c h. refl) (λ c h. refl)))
      (λ c. ((length c.samples ≡ 4) × All (λ k v. v < 256 ^ 2) 0 c.samples) × (c.space ≡ x)) (λ c. joined (be 2) c.samples) (λ c. faults_from (sample_fault c.space) 0 c.samples)
      (λ c h. (h.0, tt)) (λ c h. append-nil (joined (be 2) c.samples))
      (λ c h. first-zero (faults_from (sample_fault x) 0 c.samples) ∙ ap (λ (y : ℕ). faults_from (sample_fault y) 0 c.samples) (sym h.1))

  colour-tells : Tells s colour Sized sample_bytes (λ c. fields_fault c.space c.samples)
  unfolding colour fields_fault
  colour-tells =
      same-tells (bind-tells {FitsD = λ c. (length c.samples ≡ 4) × All (λ k v. v < 256 ^ 2) 0 c.samples} (λ c. c.space) (unless-tells s 2 known 4 (omega arith)) (judged-gives s 2 space) rest-tells)
      Sized sample_bytes (λ c. fields_fault c.space c.samples) (λ c h. (h.small, (h.four, h.each_small))) (λ c h. refl) (λ c h. refl)

  colour-gives : Gives s colour (λ c. c) Sized sample_bytes
  colour-gives = record {
    gives = λ at c fit h a q e.
        let i = colour-inv s at e in
        let x : num 2 s at ≡ c.space = num-be s 2 at c.space fit.small (at_left s at (be 2 c.space) (joined (be 2) c.samples) h) in
        let y : nums 2 4 s (at + 2) ≡ c.samples =
        ap (λ (n : ℕ). nums 2 n s (at + 2)) (sym fit.four)
        ∙ nums-bes 2 s c.samples (at + 2) 0 fit.each_small (at_after s at (be 2 c.space) (joined (be 2) c.samples) (at + 2) (ap (λ (n : ℕ). at + n) (length-be 2 c.space)) h) in
        (sym i.0 ∙ ap₂ mix x y, omega (arith, i.1, length-append (be 2 c.space) (joined (be 2) c.samples), length-be 2 c.space, length-bes 2 c.samples, fit.four));
  }

  -- ---- a record of list 2

  module _ (bytes : Bytes s) where
    named-tells : (c : Colour) → Tells s (name 4 >>= (λ nm. give (named_entry c nm))) (λ (w : Swatch). (length w.name + 1 < 256 ^ 4) × All (λ k u. u < 256 ^ 2) 0 w.name) (λ w. name_bytes 4 w.name) own_name
    named-tells c =
        same-tells
        (bind-tells {k = λ nm. give (named_entry c nm)} {FitsD = λ (w : Swatch). Unit {0}} {rest = λ w. []} {g = λ w. 0} (λ w. w.name) (name-tells s 4) (name-gives s 4)
        (λ nm. same-tells (give-tells s (named_entry c nm)) (λ (w : Swatch). Unit {0} × (w.name ≡ nm.units)) (λ w. []) (λ w. 0) (λ w h. tt) (λ w h. refl) (λ w h. refl)))
        (λ w. (length w.name + 1 < 256 ^ 4) × All (λ k u. u < 256 ^ 2) 0 w.name) (λ w. name_bytes 4 w.name) own_name
        (λ w h. (h, tt)) (λ w h. append-nil (name_bytes 4 w.name)) (λ w h. first-zero (own_name w))

    entry-tells : (i : ℕ) (c : Colour) → Sized c → Tells s (entry i c) (λ w. (hue w ≡ c) × Fits w) entry_bytes own_name
    unfolding entry entry_bytes colour_bytes
    entry-tells i c fit =
        same-tells
        (bind-tells {k = λ vs. name 4 >>= (λ nm. give (named_entry c nm))} {FitsD = λ w. (length w.name + 1 < 256 ^ 4) × All (λ k u. u < 256 ^ 2) 0 w.name} (λ w. tt {0})
        (exact-tells (repeats-exact s bytes i c fit)) (exact-gives (repeats-exact s bytes i c fit))
        (λ vs. same-tells (named-tells c) (λ w. ((length w.name + 1 < 256 ^ 4) × All (λ k u. u < 256 ^ 2) 0 w.name) × (tt {0} ≡ tt)) (λ w. name_bytes 4 w.name) own_name (λ w h. h.0) (λ w h. refl) (λ w h. refl)))
        (λ w. (hue w ≡ c) × Fits w) entry_bytes own_name (λ w h. (tt, (h.1.counted, h.1.units)))
        (λ w h. ap (λ (y : Colour). sample_bytes y ++ name_bytes 4 w.name) (sym h.0)) (λ w h. first-none 0 (own_name w) refl)

-- ---- a whole file

sized-hue : (w : Swatch) → Fits w → Sized (hue w)
sized-hue w f = record { small = f.small; four = f.four; each_small = f.each_small }

zero-colour-sized : Sized zero_colour
zero-colour-sized = record { small = omega arith; four = refl; each_small = (omega arith, (omega arith, (omega arith, (omega arith, tt)))) }

sized-all : (i : ℕ) (ws : List Swatch) → All (λ k w. Fits w) i ws → All (λ k c. Sized c) i (map hue ws)
sized-all i [] h = tt
sized-all i (w ∷ ws) h = (sized-hue w h.0, sized-all (i + 1) ws h.1)

sized-at : (i : ℕ) (ws : List Swatch) → All (λ k w. Fits w) i ws → (k : ℕ) → Sized (get_or (map hue ws) k zero_colour)
sized-at i [] h k = zero-colour-sized
sized-at i (w ∷ ws) h zero = sized-hue w h.0
sized-at i (w ∷ ws) h (suc k) = sized-at (i + 1) ws h.1 k

-- a heading with its version right: its count is judged
heading-passes : (s : List ℕ) (v n : ℕ) → v < 256 ^ 2 → n < 256 ^ 2 → (count : ℕ → Judged) (at : ℕ) (more : List ℕ) → At s at (be 2 v ++ (be 2 n ++ more))
    → (heading v count s at ≡ rule (count n) (at + 2) (ok n (at + 4))) × At s (at + 4) more
unfolding heading
heading-passes s v n lv ln count at more h =
    let h2 : At s (at + 2) (be 2 n ++ more) = at_after s at (be 2 v) (be 2 n ++ more) (at + 2) (ap (λ (k : ℕ). at + k) (length-be 2 v)) h in
    let two : at + 2 + length (be 2 n) ≡ at + 4 = omega (arith, length-be 2 n) in
    let room : at + 4 ≤ length s = omega (arith, at_in s (at + 2) (be 2 n ++ more) h2, length-append (be 2 n) more, length-be 2 n) in
    let x : judged 2 (version v) s at ≡ ok v (at + 2) =
    judged-ok 2 s at (version v) (sym (field_in 2 s at (omega arith) ∙ ap (λ (k : ℕ). ok k (at + 2)) (num-be s 2 at v lv (at_left s at (be 2 v) (be 2 n ++ more) h)))) (version-fine v) in
    let four : at + 2 + 2 ≡ at + 4 = omega arith in
    (rw x (rw (field_in 2 s (at + 2) (omega arith)) (rw (num-be s 2 (at + 2) n ln (at_left s (at + 2) (be 2 n) more h2)) (rw four))), at_after s (at + 2) (be 2 n) more (at + 4) two h2)

module _ (s : List ℕ) (bytes : Bytes s) (ws : List Swatch) (few : length ws < 256 ^ 2) (fits : All (λ k w. Fits w) 0 ws) where
  second-outcome : (q : ℕ) → At s q (list_two ws) → q + length (list_two ws) ≡ length s → Outcome (second (map hue ws) s q) (faults own_name ws) (length s)
  unfolding second list_two ended
  second-outcome q h end =
      let n : ℕ = length ws in
      let cs : List Colour = map hue ws in
      let l : List ℕ = joined entry_bytes ws in
      let len : length cs ≡ n = length-map hue ws in
      let j : ℕ → Judged = second_count (length cs) in
      let x = heading-passes s 2 n (omega arith) few j q l h in
      let hd : heading 2 j s q ≡ ok n (q + 4) = x.0 ∙ ap (λ (j : Judged). rule j (q + 2) (ok n (q + 4))) (second-fine (length cs) n (sym len)) in
      let Ok : ℕ → Swatch → Type 0 = λ i w. (hue w ≡ get_or cs i zero_colour) × Fits w in
      let fit : All Ok 0 ws =
      all-by Ok (label zero_colour []) 0 ws (λ k g. (sym (hue-at ws k) ∙ ap (λ (i : ℕ). get_or cs i zero_colour) (sym (zero-add k)), all-at (λ k w. Fits w) (label zero_colour []) 0 ws fits k g)) in
      let z : q + 4 + length l ≡ length s = omega (arith, length-append (be 2 2) (be 2 n ++ l), length-append (be 2 n) l, length-be 2 2, length-be 2 n) in
      let y = outcome (each_tells {p = λ i. entry i (get_or cs i zero_colour)} {Fits = Ok} {f = λ i. own_name} (λ i. entry-tells s bytes i (get_or cs i zero_colour) (sized-at 0 ws fits i)) (length cs) 0) (q + 4) ws (sym len, fit) x.1 in
      let y2 : Outcome (each (length cs) 0 (λ i. entry i (get_or cs i zero_colour)) s (q + 4)) (faults own_name ws) (length s) = subst₂ (λ (a b : ℕ). Outcome (each (length cs) 0 (λ i. entry i (get_or cs i zero_colour)) s (q + 4)) a b) (faults-from own_name 0 ws) z y in
      rw hd (outcome-fault _ _ _ (length s) (first-zero (faults own_name ws)) (outcome-then _ _ (faults own_name ws) 0 (length s) (length s) y2 (λ es e. rw (eq-eqb (length s) (length s) refl) (good (record { lists = 2; records = es }) refl refl))))

  after-outcome : (q : ℕ) → At s q (list_two ws) → q + length (list_two ws) ≡ length s → Outcome (after (map hue ws) s q) (faults own_name ws) (length s)
  unfolding after
  after-outcome q h end = let ne : q ≡ length s → ⊥ = λ z. omega (arith, length_two ws) in rw (ne_eqb q (length s) ne) (second-outcome q h end)

  -- the colours that are read from the swatches' bytes, and their first fault
  colours-outcome : (at : ℕ) → At s at (joined colour_bytes ws) → Outcome (each (length ws) 0 (λ i. colour) s at) (faults colour_fault ws) (at + length (joined colour_bytes ws))
  colours-outcome at h =
      let m = each (length ws) 0 (λ i. colour) s at in
      let h2 : At s at (joined sample_bytes (map hue ws)) = subst (λ (l : List ℕ). At s at l) (sym (hues-bytes ws)) h in
      let y = outcome (each_tells {p = λ i. colour} {Fits = λ k c. Sized c} {f = λ k c. fields_fault c.space c.samples} (λ i. colour-tells s) (length ws) 0) at (map hue ws) (length-map hue ws, sized-all 0 ws fits) h2 in
      subst₂ (λ (a b : ℕ). Outcome (each (length ws) 0 (λ i. colour) s at) a b)
      (faults-from (λ c. fields_fault c.space c.samples) 0 (map hue ws) ∙ faults-map (λ c. fields_fault c.space c.samples) hue ws) (ap (λ (l : List ℕ). at + length l) (hues-bytes ws)) y

  colours-read : (at : ℕ) → At s at (joined colour_bytes ws) → (cs : List Colour) (q : ℕ) → each (length ws) 0 (λ i. colour) s at ≡ ok cs q → cs ≡ map hue ws
  colours-read at h cs q e =
      let h2 : At s at (joined sample_bytes (map hue ws)) = subst (λ (l : List ℕ). At s at l) (sym (hues-bytes ws)) h in
      sym (map-id cs) ∙ ((each-gives {p = λ i. colour} {Fits = λ k c. Sized c} (λ i. colour-gives s) (length ws) 0).gives at (map hue ws) (length-map hue ws, sized-all 0 ws fits) h2 cs q e).0

  -- the first fault is the count's, then the colours', then the names'
  pub lists-outcome : At s 0 (two_lists ws) → length (two_lists ws) ≡ length s → Outcome (lists s 0) (palette_fault ws) (length s)
  unfolding lists two_lists list_one swatches_fault
  lists-outcome h len =
      let n : ℕ = length ws in
      let l : List ℕ = joined colour_bytes ws in
      let j : ℕ → Judged = first_count in
      let first : List ℕ = be 2 1 ++ (be 2 n ++ l) in
      let x = heading-passes s 1 n (omega arith) few j 0 l (at_left s 0 first (list_two ws) h) in
      let q : ℕ = 4 + length l in
      let ql : q ≡ length first = omega (arith, length-append (be 2 1) (be 2 n ++ l), length-append (be 2 n) l, length-be 2 1, length-be 2 n) in
      let end : q + length (list_two ws) ≡ length s = omega (arith, length-append first (list_two ws)) in
      let h2 : At s q (list_two ws) = at_after s 0 first (list_two ws) q (zero-add (length first) ∙ sym ql) h in
      let hd : Outcome (heading 1 j s 0) (pick (leb n 4096) 0 5) 4 = rw x.0 (outcome-fault _ _ _ 4 (unless-found (leb n 4096) 5) (outcome-rule (j n) 2 n 4 (unless-sure (leb n 4096) 5 (omega arith)))) in
      outcome-then (heading 1 j s 0) (λ m at. then (each m 0 (λ i. colour) s at) (λ cs r. after cs s r)) (pick (leb n 4096) 0 5) (first_of (faults colour_fault ws) (faults own_name ws)) 4 (length s) hd (λ m e.
      let same : n ≡ m = ok-value (rule-inv (j n) 2 (ok n 4) (sym x.0 ∙ e)).1 in
      subst (λ (m : ℕ). Outcome (then (each m 0 (λ i. colour) s 4) (λ cs r. after cs s r)) (first_of (faults colour_fault ws) (faults own_name ws)) (length s)) same
      (outcome-then (each n 0 (λ i. colour) s 4) (λ cs r. after cs s r) (faults colour_fault ws) (faults own_name ws) q (length s) (colours-outcome 4 x.1) (λ cs e2.
      subst (λ (z : List Colour). Outcome (after z s q) (faults own_name ws) (length s)) (sym (colours-read 4 x.1 cs q e2)) (after-outcome q h2 end))))
