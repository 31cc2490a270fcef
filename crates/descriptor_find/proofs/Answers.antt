-- The call, by what the check of the table answers. Assumes nothing.
use Prim.Native.Nat.{ℕ}
use mathlib.Core.Path.{◌≡◌, refl, sym, ap, ◌∙◌}
use mathlib.Core.List.{List}
use mathlib.Core.Bool.{Bool, true, false}
use lib.ListN.{length}
use native.Mathlib.Omega.{arith}
use Rattle.algebra.specs.Reader.{Res, ok, refuse, pick}
use Rattle.descriptor.specs.Reading.{Row, descriptor}
use Rattle.descriptor_columns.specs.Columns.{Columns, columns_of}
use Rattle.descriptor_check.specs.Check as C
use Rattle.descriptor_check.specs.Check.{begins, begins_all, checked}
use Rattle.descriptor_check.proofs.Begun.{both}
use Rattle.descriptor_find.specs.Find.{keys_of, Answered, refused, answering, found}
use Rattle.descriptor_find.specs.scaffold.Finding.{Lent, rows_in}

module _ (s a b c d e keys out : List ℕ) where
  pub file-refused : (x p : ℕ) → C.refused x p ≡ checked (descriptor s) a b c d e → ◌≡◌ {A = Answered × List ℕ} (refused x p, out) (found s (descriptor s) a b c d e keys out)
  file-refused x p h = go (descriptor s) h
    where
      chosen : (y : Bool) (n : ℕ) → C.refused x p ≡ pick y (C.same n) C.differs → ⊥
      chosen true n h = let z : ◌≡◌ {A = ℕ} 0 1 = cc in omega arith
      chosen false n h = let z : ◌≡◌ {A = ℕ} 0 1 = cc in omega arith

      go : (m : Res (List Row)) → C.refused x p ≡ checked m a b c d e → ◌≡◌ {A = Answered × List ℕ} (refused x p, out) (found s m a b c d e keys out)
      go (ok rs q) h = absurd (chosen (begins_all (columns_of rs) a b c d e) (length rs) h)
      go (refuse y q r f) h = cc

  pub table-refused : C.differs ≡ checked (descriptor s) a b c d e → ◌≡◌ {A = Answered × List ℕ} (refused 5 0, out) (found s (descriptor s) a b c d e keys out)
  table-refused h = go (descriptor s) h
    where
      chosen : (rs : List Row) (y : Bool) → C.differs ≡ pick y (C.same (length rs)) C.differs → ◌≡◌ {A = Answered × List ℕ} (refused 5 0, out) (pick y (answering s rs (keys_of keys) out) (refused 5 0, out))
      chosen rs true h = let z : ◌≡◌ {A = ℕ} 0 1 = cc in absurd (omega arith)
      chosen rs false h = refl

      go : (m : Res (List Row)) → C.differs ≡ checked m a b c d e → ◌≡◌ {A = Answered × List ℕ} (refused 5 0, out) (found s m a b c d e keys out)
      go (ok rs q) h = chosen rs (begins_all (columns_of rs) a b c d e) h
      go (refuse y q r f) h = let z : ◌≡◌ {A = ℕ} 0 1 = cc in absurd (omega arith)

  -- the table is the file's
  record Own (n : ℕ) : Type 0 where
    rs : List Row
    q : ℕ
    reads : descriptor s ≡ ok rs q
    count : length rs ≡ n
    begun : begins_all (columns_of rs) a b c d e ≡ true

  own : (n : ℕ) → C.same n ≡ checked (descriptor s) a b c d e → Own n
  own n h = go (descriptor s) refl h
    where
      count_of : (k : ℕ) → C.same n ≡ C.same k → k ≡ n
      count_of k h = cc

      chosen : (rs : List Row) (q : ℕ) → descriptor s ≡ ok rs q → (y : Bool) → begins_all (columns_of rs) a b c d e ≡ y → C.same n ≡ pick y (C.same (length rs)) C.differs → Own n
      chosen rs q i true w h = record { rs = rs; q = q; reads = i; count = count_of (length rs) h; begun = w }
      chosen rs q i false w h = let z : ◌≡◌ {A = ℕ} 0 1 = cc in absurd (omega arith)

      go : (m : Res (List Row)) → descriptor s ≡ m → C.same n ≡ checked m a b c d e → Own n
      go (ok rs q) i h = chosen rs q i (begins_all (columns_of rs) a b c d e) refl h
      go (refuse y q r f) i h = let z : ◌≡◌ {A = ℕ} 0 1 = cc in absurd (omega arith)

  pub table-lent : (n : ℕ) → C.same n ≡ checked (descriptor s) a b c d e → Lent s a c n
  table-lent n h =
      let o = own n h in
      let k : Columns = columns_of o.rs in
      let x1 = both (begins k.firsts a) _ o.begun in
      let x2 = both (begins k.lengths b) _ x1.1 in
      let x3 = both (begins k.nexts c) _ x2.1 in
      record { rs = o.rs; q = o.q; reads = o.reads; count = o.count; firsts = x1.0; nexts = x3.0 }

  pub table-answered : (n : ℕ) → C.same n ≡ checked (descriptor s) a b c d e → answering s (rows_in (descriptor s)) (keys_of keys) out ≡ found s (descriptor s) a b c d e keys out
  table-answered n h =
      let o = own n h in
      ap (λ (m : Res (List Row)). answering s (rows_in m) (keys_of keys) out) o.reads
      ∙ sym (ap (λ (m : Res (List Row)). found s m a b c d e keys out) o.reads ∙ ap (λ (y : Bool). pick {A = Answered × List ℕ} y (answering s o.rs (keys_of keys) out) (refused 5 0, out)) o.begun)
