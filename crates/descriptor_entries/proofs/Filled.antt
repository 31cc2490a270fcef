-- Fields put into an entry: its numbers have 32 bits, and it is as long as it was. Assumes nothing.
use Prim.Native.Nat.{ℕ, zero, suc, ◌+◌, ◌^◌, ◌≤◌, ◌<◌}
use mathlib.Core.Path.{◌≡◌, refl, ◌∙◌}
use mathlib.Core.List.{List, [], ◌∷◌}
use lib.ListN.{length, set, length-set}
use native.Mathlib.Omega.{arith}
use Rattle.algebra.specs.Numbers.{num, Bytes}
use Rattle.algebra.proofs.Places.{num-lt}
use Rattle.descriptor_entry.specs.Shapes.{Entry}
use Rattle.descriptor_entry.specs.Entries.{Words}
use Rattle.descriptor_entry.specs.declared.Field.{Field}
use Rattle.descriptor_entry.specs.declared.Field.TheVariants as f
use Rattle.descriptor_entries.specs.Taken.{put, span, put_all}
use Rattle.descriptor_entries.specs.scaffold.Spans.{end_of}
use Rattle.descriptor_entries.proofs.Held.{end_later}
use Rattle.descriptor_entries.proofs.Shaped.{keyed}

data Small : List ℕ → Type 0 where
  none : Small []
  some : {v : ℕ} {l : List ℕ} → v < 256 ^ 4 → Small l → Small (v ∷ l)

small-words : {l : List ℕ} → Small l → Words l
small-words none k = omega arith
small-words (some h w) zero = h
small-words (some h w) (suc k) = small-words w k

nil : {l : List ℕ} → Small l → Small (0 ∷ l)
nil w = some {v = 0} (omega arith) w

pub keyed-words : (kind n place : ℕ) → kind < 256 ^ 4 → n < 256 ^ 4 → place < 256 ^ 4 → Words (keyed kind n place)
keyed-words kind n place a b c =
    let w : Small (keyed kind n place) = some a (some b (some c (nil (nil (nil (nil (nil (nil (nil (nil (nil (nil (nil (nil (nil none))))))))))))))) in
    small-words w

pub words-set : (e : Entry) (i v : ℕ) → Words e → v < 256 ^ 4 → Words (set e i v)
words-set [] i v w l k = w k
words-set (x ∷ e) zero v w l zero = l
words-set (x ∷ e) zero v w l (suc k) = w (suc k)
words-set (x ∷ e) (suc i) v w l zero = w 0
words-set (x ∷ e) (suc i) v w l (suc k) = words-set e i v (λ j. w (suc j)) l k

module _ (s : List ℕ) (b : Bytes s) where
  pub put-words : (at : ℕ) (x : Field) (e : Entry) → at ≤ 16777216 → Words e → Words (put s at x e)
  put-words at f.Nothing e l w = w
  put-words at (f.Word i) e l w = words-set e i _ w (num-lt s b 4 at)
  put-words at f.Measure e l w = words-set e 11 _ w (num-lt s b 4 at)
  put-words at f.ArrayMeasure e l w = words-set e 11 _ w (num-lt s b 4 at)
  put-words at f.Flag e l w = words-set e 13 _ w (omega (arith, num-lt s b 1 at))
  put-words at f.Wide e l w = words-set (set e 12 (num 4 s at)) 13 _ (words-set e 12 _ w (num-lt s b 4 at)) (num-lt s b 4 (at + 4))
  put-words at f.Double e l w = words-set (set e 12 (num 4 s at)) 13 _ (words-set e 12 _ w (num-lt s b 4 at)) (num-lt s b 4 (at + 4))
  put-words at (f.Id i) e l w = words-set (set e i (num 4 s at)) (i + 1) _ (words-set e i _ w (num-lt s b 4 at)) (omega (arith, l))
  put-words at (f.Text i) e l w = words-set (set e i (num 4 s at)) (i + 1) _ (words-set e i _ w (num-lt s b 4 at)) (omega (arith, l))
  put-words at (f.Run i) e l w = words-set (set e i (num 4 s at)) (i + 1) _ (words-set e i _ w (num-lt s b 4 at)) (omega (arith, l))
  put-words at (f.Doubles i) e l w = words-set (set e i (num 4 s at)) (i + 1) _ (words-set e i _ w (num-lt s b 4 at)) (omega (arith, l))

  pub all_words : (xs : List Field) (at : ℕ) (e : Entry) → end_of s at xs ≤ 16777216 → Words e → Words (put_all s at xs e)
  unfolding put_all
  all_words [] at e l w = w
  all_words (x ∷ xs) at e l w = all_words xs (at + span s at x) (put s at x e) l (put-words at x e (omega (arith, l, end_later s xs (at + span s at x))) w)

-- ---- and the entry is as long as it was

pub put-length : (s : List ℕ) (at : ℕ) (x : Field) (e : Entry) → length (put s at x e) ≡ length e
put-length s at f.Nothing e = refl
put-length s at (f.Word i) e = length-set e i _
put-length s at f.Measure e = length-set e 11 _
put-length s at f.ArrayMeasure e = length-set e 11 _
put-length s at f.Flag e = length-set e 13 _
put-length s at f.Wide e = length-set (set e 12 _) 13 _ ∙ length-set e 12 _
put-length s at f.Double e = length-set (set e 12 _) 13 _ ∙ length-set e 12 _
put-length s at (f.Id i) e = length-set (set e i _) (i + 1) _ ∙ length-set e i _
put-length s at (f.Text i) e = length-set (set e i _) (i + 1) _ ∙ length-set e i _
put-length s at (f.Run i) e = length-set (set e i _) (i + 1) _ ∙ length-set e i _
put-length s at (f.Doubles i) e = length-set (set e i _) (i + 1) _ ∙ length-set e i _

pub all-length : (s : List ℕ) (xs : List Field) (at : ℕ) (e : Entry) → length (put_all s at xs e) ≡ length e
unfolding put_all
all-length s [] at e = refl
all-length s (x ∷ xs) at e = all-length s xs (at + span s at x) (put s at x e) ∙ put-length s at x e
