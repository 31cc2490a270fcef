-- A file that ends inside a byte string of a set is refused by 2 at the first field that is not whole: each combinator. Assumes nothing.
use Prim.Native.Nat.{ℕ, zero, suc, ◌+◌, ◌*◌}
use mathlib.Core.Path.{◌≡◌, sym, ap, ◌∙◌}
use mathlib.Core.List.{List, [], ◌∷◌}
use lib.ListN.{length}
use native.Mathlib.Omega.{arith}
use native.Mathlib.Nat.{mul-one, add-zero}
use Rattle.algebra.specs.Numbers.{be, Bytes}
use Rattle.algebra.specs.Reader.{ok, refuse, Reader, field, body, Judged, judged, ◌>>=◌, each, done}
use Rattle.algebra.specs.Sets.{Field, Size, Number, number, Seq, seq, Prefixed, prefixed, Run}
use Rattle.algebra.specs.Cut.{total, not_whole, Stub}
use Rattle.algebra.specs.Wide.{Wide, one_wide, seq_wide, counted_wide, run_wide}
use Rattle.algebra.proofs.Laws.{body-short}
use Rattle.algebra.proofs.Places.{length-be}
use Rattle.algebra.proofs.Sets.{Reads}
use Rattle.algebra.proofs.Sequence.{field-exact}
use Rattle.algebra.proofs.Cuts.{whole_here, step_cut, seq-spans, judged-cuts, field-cuts, number-spans}

-- what `Cuts` is for values, of the byte strings of a set
pub record Cutting {A : Type 0} (X : Field) (w : Wide X) (s : List ℕ) (p : Reader A) : Type 0 where
  pub span : (b : List ℕ) (x : X b) → total (w b x) ≡ length b
  pub cut : (at : ℕ) (b : List ℕ) (x : X b) → Stub s at b → p s at ≡ refuse 2 (not_whole (w b x) at (length s)) 0 0

-- n bytes
pub size-cutting : (s : List ℕ) (n : ℕ) → Cutting (Size n) (one_wide (Size n)) s (body 1 n)
unfolding total
size-cutting s n = record {
  span = λ b x. add-zero (length b);
  cut = λ at b x h.
      let e : n * 1 ≡ n = mul-one n in
      let l : length b ≡ n = x in
      body-short 1 s at n (omega (arith, h.short, h.inside)) ∙ ap (λ (k : ℕ). refuse 2 k 0 0) (sym (whole_here (length b) [] at (length s) h.short));
}

-- a number of w bytes
pub number-cutting : (s : List ℕ) (w : ℕ) (P : ℕ → Type 0) (j : ℕ → Judged) → Cutting (Number w P) (one_wide (Number w P)) s (judged w j)
unfolding total
number-cutting s w P j = record {
  span = λ b x. add-zero (length b);
  cut = cut;
}
  where
    cut : (at : ℕ) (b : List ℕ) (x : Number w P b) → Stub s at b → judged w j s at ≡ refuse 2 (not_whole (length b ∷ []) at (length s)) 0 0
    cut at b (number n small p) h = (judged-cuts s w {Ok = λ v. Unit} j).cut at n tt h ∙ ap (λ (k : ℕ). refuse 2 (not_whole (k ∷ []) at (length s)) 0 0) (sym (length-be w n))

-- only where it ends
pub done-cutting : {A : Type 0} {X : Field} {w : Wide X} {s : List ℕ} {p : Reader A} → Cutting X w s p → Cutting X w s (λ s at. done (p s at))
done-cutting c = record { span = c.span; cut = λ at b x h. ap done (c.cut at b x h) }

-- one, and then another
pub seq-cutting : {A B : Type 0} {X Y : Field} {v : Wide X} {w : Wide Y} {s : List ℕ} {p : Reader A} {q : Reader B} → Reads X s p → Cutting X v s p → Cutting Y w s q → Cutting (Seq X Y) (seq_wide X Y v w) s (p >>= (λ a. q))
seq-cutting {A} {B} {X} {Y} {v} {w} {s} {p} {q} r c d = record { span = span; cut = cut }
  where
    span : (b : List ℕ) (x : Seq X Y b) → total (seq_wide X Y v w b x) ≡ length b
    span b (seq {x} {y} m n) = seq-spans x y (v x m) (w y n) (c.span x m) (d.span y n)

    cut : (at : ℕ) (b : List ℕ) (x : Seq X Y b) → Stub s at b → (p >>= (λ a. q)) s at ≡ refuse 2 (not_whole (seq_wide X Y v w b x) at (length s)) 0 0
    cut at b (seq {x} {y} m n) h =
        step_cut s at (p s at) _ x y (v x m) (w y n) (c.span x m) (c.cut at x m) (λ f g. let u = r.complete at x m f in rw u.1 (d.cut (at + length x) y n g)) h

-- a count of 32 bits, and then what it says
pub counted-cutting : {A : Type 0} {Y : ℕ → Field} {w : (n : ℕ) → Wide (Y n)} {s : List ℕ} {q : ℕ → Reader A} → Bytes s → ((n : ℕ) → Cutting (Y n) (w n) s (q n)) → Cutting (Prefixed Y) (counted_wide Y w) s (field 4 >>= q)
counted-cutting {A} {Y} {w} {s} {q} bytes d = record { span = span; cut = cut }
  where
    span : (b : List ℕ) (x : Prefixed Y b) → total (counted_wide Y w b x) ≡ length b
    span b (prefixed n {y} small m) = seq-spans (be 4 n) y (4 ∷ []) (w n y m) ((number-spans 4 {Ok = λ v. Unit}).span n tt) ((d n).span y m)

    cut : (at : ℕ) (b : List ℕ) (x : Prefixed Y b) → Stub s at b → (field 4 >>= q) s at ≡ refuse 2 (not_whole (counted_wide Y w b x) at (length s)) 0 0
    cut at b (prefixed n {y} small m) h =
        step_cut s at (field 4 s at) _ (be 4 n) y (4 ∷ []) (w n y m) ((number-spans 4 {Ok = λ v. Unit}).span n tt) ((field-cuts s 4 {Ok = λ v. Unit}).cut at n tt)
        (λ f g. let u = (field-exact s bytes 4).reads at n small f in rw (u.1 ∙ ap (λ (k : ℕ). ok k (at + length (be 4 n))) u.2) ((d n).cut (at + length (be 4 n)) y m g)) h

-- n of one, one after the other
pub run-cutting : {A : Type 0} {X : Field} {w : Wide X} {s : List ℕ} {p : Reader A} → Reads X s p → Cutting X w s p → (n i : ℕ) → Cutting (Run X n) (run_wide X w n) s (each n i (λ i. p))
unfolding total each
run-cutting {A} {X} {w} {s} {p} r c n i = record { span = span n; cut = cut n i }
  where
    span : (n : ℕ) (b : List ℕ) (x : Run X n b) → total (run_wide X w n b x) ≡ length b
    span zero b x = sym x
    span (suc n) b (seq {x} {y} m k) = seq-spans x y (w x m) (run_wide X w n y k) (c.span x m) (span n y k)

    cut : (n i at : ℕ) (b : List ℕ) (x : Run X n b) → Stub s at b → each n i (λ i. p) s at ≡ refuse 2 (not_whole (run_wide X w n b x) at (length s)) 0 0
    cut zero i at b x h = absurd (omega (arith, h.inside, h.short, x))
    cut (suc n) i at b (seq {x} {y} m k) h =
        step_cut s at (p s at) _ x y (w x m) (run_wide X w n y k) (c.span x m) (c.cut at x m) (λ f g. let u = r.complete at x m f in rw u.1 (rw (cut n (i + 1) (at + length x) y k g))) h
