-- Streams by their numbers and back, and what a call on the stream says of a call on the numbers. Assumes nothing.
use Prim.Native.Nat.{ℕ, ◌<◌}
use mathlib.Core.Path.{◌≡◌, refl, sym, ap, ap₂, ◌∙◌, subst}
use mathlib.Core.List.{List}
use mathlib.Core.Bool.{Bool, true, false}
use lib.Dec.{ltb}
use native.Mathlib.Omega.{arith}
use Rattle.algebra.specs.Reader.{pick}
use Rattle.aco_chunks.specs.declared.Stage.{Stage}
use Rattle.aco_chunks.specs.declared.Stage.TheVariants as v
use Rattle.aco_chunks.specs.Chunks.{FileVerdict, size}
use Rattle.aco_stream.specs.declared.Stream.{Stream}
use Rattle.aco_stream.specs.Answer.{usable, roomy, Feeds, FeedsBy, Finishes, FinishesBy}
use Rattle.khuyurek.specs.declared.swatches.AcoAnswer.{AcoAnswer}
use Rattle.khuyurek.specs.declared.stream.AcoStream.{AcoStream}
use Rattle.khuyurek.specs.declared.stream.AcoFinished.{AcoFinished}
use Rattle.khuyurek.specs.Aco.{answer_of}
use Rattle.khuyurek.specs.Stream.{is_set, is_ended, stream_of, ended_numbers, finished_by, finished_of}
use Rattle.khuyurek.specs.scaffold.StreamParts.{flag_of, plain_of}

-- ---- to numbers and back

flag-set : (b : Bool) → is_set (flag_of b) ≡ b
flag-set true = refl
flag-set false = refl

flag-ended : (k : ℕ) (b : Bool) → ltb 6 k ≡ false → is_ended (flag_of b) k ≡ b
flag-ended k true h = refl
flag-ended k false h = h

-- numbers that give the stage, and all else as it was
back : (s : Stream) (g : Stage) (k : ℕ) → ltb 6 k ≡ false → s.stage ≡ g → record { stage = g; total = s.total; got = s.got; carry = s.carry; ended = is_ended (flag_of s.ended) k } ≡ s
back s g k l h = ap₂ (λ (g : Stage) (e : Bool). record { stage = g; total = s.total; got = s.got; carry = s.carry; ended = e }) (sym h) (flag-ended k s.ended l)

module _ (s : Stream) (x : AcoStream) where
  pub first_back : x ≡ plain_of s 0 0 0 → s.stage ≡ v.First → stream_of x ≡ s
  first_back e h = ap stream_of e ∙ back s v.First 0 refl h

  pub colour-back : (n i : ℕ) → x ≡ plain_of s 1 n i → s.stage ≡ v.Colour n i → stream_of x ≡ s
  colour-back n i e h = ap stream_of e ∙ back s (v.Colour n i) 1 refl h

  pub second_back : (n : ℕ) → x ≡ plain_of s 2 n 0 → s.stage ≡ v.Second n → stream_of x ≡ s
  second_back n e h = ap stream_of e ∙ back s (v.Second n) 2 refl h

  pub entry-back : (n i : ℕ) → x ≡ plain_of s 3 n i → s.stage ≡ v.Entry n i → stream_of x ≡ s
  entry-back n i e h = ap stream_of e ∙ back s (v.Entry n i) 3 refl h

  pub end_back : (n : ℕ) → x ≡ plain_of s 5 n 0 → s.stage ≡ v.End n → stream_of x ≡ s
  end_back n e h = ap stream_of e ∙ back s (v.End n) 5 refl h

-- the numbers of a name beside those of a plain stage
abbrev pub in_name : AcoStream → ℕ → ℕ → ℕ → AcoStream
in_name x at m f =
    record { total = x.total; got = x.got; place = x.place; stage = x.stage; ended = x.ended; number = x.number; at = at; left = m; zero = f; count = x.count; index = x.index; rec = x.rec; field = x.field; carry = x.carry }

abbrev pub in_fault : AcoStream → ℕ → ℕ → ℕ → ℕ → AcoStream
in_fault x number p r f =
    record { total = x.total; got = x.got; place = p; stage = x.stage; ended = x.ended; number = number; at = x.at; left = x.left; zero = x.zero; count = x.count; index = x.index; rec = r; field = f; carry = x.carry }

pub unit-back : (s : Stream) (x : AcoStream) (n i at m : ℕ) (z : Bool) (f : ℕ) → x ≡ plain_of s 4 n i → f ≡ flag_of z → s.stage ≡ v.Unit n i at m z → stream_of (in_name x at m f) ≡ s
unit-back s x n i at m z f e l h =
    ap₂ (λ (y : AcoStream) (f : ℕ). stream_of (in_name y at m f)) e l
    ∙ back s (v.Unit n i at m (is_set (flag_of z))) 4 refl (h ∙ ap (λ (b : Bool). v.Unit n i at m b) (sym (flag-set z)))

pub fault-back : (s : Stream) (x : AcoStream) (number p r f : ℕ) → x ≡ plain_of s 6 0 0 → s.stage ≡ v.Fault number p r f → stream_of (in_fault x number p r f) ≡ s
fault-back s x number p r f e h = ap (λ (y : AcoStream). stream_of (in_fault y number p r f)) e ∙ back s (v.Fault number p r f) 6 refl h

-- ---- a chunk

module _ (x : AcoStream) (s t : Stream) (n : ℕ) (store bytes after : List ℕ) where
  pub fed-taken : (y : AcoStream) → s ≡ stream_of x → stream_of y ≡ t → n ≡ 0 → Feeds s store bytes t n after → Feeds (stream_of x) store bytes (stream_of y) 0 after × (0 < 0 → y ≡ x)
  fed-taken y e h z f = (
    subst (λ (s : Stream). Feeds s store bytes (stream_of y) 0 after) e (subst (λ (t : Stream). Feeds s store bytes t 0 after) (sym h) (subst (λ (n : ℕ). Feeds s store bytes t n after) z f)),
    λ l. absurd (omega (arith, l)),
  )

  pub fed-refused : s ≡ stream_of x → (n ≡ 0 → ⊥) → Feeds s store bytes t n after → Feeds (stream_of x) store bytes (stream_of x) n after × (0 < n → x ≡ x)
  fed-refused e z f = (subst (λ (s : Stream). Feeds s store bytes s n after) e (go (usable s) (roomy store) f), λ l. refl)
    where
      go : (u b : Bool) → FeedsBy u b s store bytes t n after → FeedsBy u b s store bytes s n after
      go true true f = absurd (z f.0)
      go true false f = (f.0, refl, f.2)
      go false b f = (f.0, refl, f.2)

-- ---- the end

module _ (x : AcoStream) (store : List ℕ) (t : Stream) (w : FileVerdict) (a : AcoAnswer) (answers : a ≡ answer_of w) (f : Finishes (stream_of x) store t w) where
  given_back : (u b : Bool) → u ≡ false → FinishesBy u b (stream_of x) store t w → record { answer = a; stream = x } ≡ finished_by u b x store
  given_back true b e f = let z : ◌≡◌ {A = ℕ} 0 1 = cc in absurd (omega arith)
  given_back false b e f = ap (λ (a : AcoAnswer). record { answer = a; stream = x }) (answers ∙ ap answer_of f.0)

  pub ended-before : (stream_of x).ended ≡ true → record { answer = a; stream = x } ≡ finished_of x store
  ended-before e = given_back (usable (stream_of x)) (roomy store) (ap (λ (b : Bool). pick b false (ltb x.got (size (stream_of x).stage))) e) f

  pub ended-now : (stream_of x).ended ≡ false → t.ended ≡ true → record { answer = a; stream = ended_numbers x } ≡ finished_of x store
  ended-now e k = go (usable (stream_of x)) (roomy store) f
    where
      other : t ≡ stream_of x → (z : AcoFinished) → record { answer = a; stream = ended_numbers x } ≡ z
      other h z = let q = sym k ∙ ap (λ (s : Stream). s.ended) h ∙ e in let z : ◌≡◌ {A = ℕ} 0 1 = cc in absurd (omega arith)

      go : (u b : Bool) → FinishesBy u b (stream_of x) store t w → record { answer = a; stream = ended_numbers x } ≡ finished_by u b x store
      go true true f = ap (λ (a : AcoAnswer). record { answer = a; stream = ended_numbers x }) (answers ∙ ap answer_of f.0)
      go true false f = other f.1 _
      go false b f = other f.1 _

  pub not-ended : t.ended ≡ false → record { answer = a; stream = x } ≡ finished_of x store
  not-ended k = go (usable (stream_of x)) (roomy store) f
    where
      go : (u b : Bool) → FinishesBy u b (stream_of x) store t w → record { answer = a; stream = x } ≡ finished_by u b x store
      go true true f = let q = sym k ∙ ap (λ (s : Stream). s.ended) f.1 in let z : ◌≡◌ {A = ℕ} 0 1 = cc in absurd (omega arith)
      go true false f = ap (λ (a : AcoAnswer). record { answer = a; stream = x }) (answers ∙ ap answer_of f.0)
      go false b f = given_back false b refl f
