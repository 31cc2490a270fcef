-- The call, by what the check of the table answers. Assumes nothing.
use Prim.Native.Nat.{ℕ}
use mathlib.Core.Path.{◌≡◌, refl, sym, ap, ◌∙◌, subst}
use mathlib.Core.List.{List, ◌++◌}
use mathlib.Core.Bool.{Bool, true, false}
use lib.Dec.{leb}
use lib.ListN.{length, drop}
use borrow.Author.Tests.{ne_eqb}
use native.Mathlib.Omega.{arith}
use Rattle.algebra.specs.Reader.{Res, ok, refuse, pick}
use Rattle.algebra.specs.Refusal.{Of, among}
use Rattle.descriptor.specs.Refusals.{refusals}
use Rattle.descriptor.proofs.Placed.{refused-placed}
use Rattle.algebra.specs.Writing.{Outcome, bytes, refused, writes}
use Rattle.descriptor.specs.Reading.{Row, descriptor}
use Rattle.descriptor_columns.specs.Columns.{Columns, columns_of}
use Rattle.descriptor_read.specs.Values.{row_at, row_in}
use Rattle.descriptor_check.specs.Check as C
use Rattle.descriptor_check.specs.Check.{begins, begins_all, checked}
use Rattle.descriptor_check.proofs.Begun.{both}
use Rattle.descriptor_replace.specs.Replace.{new_file, row_fault, fault}
use Rattle.descriptor_replace.specs.scaffold.Replacing.{Owned}
use Rattle.descriptor_replace.specs.declared.Replacement.{Replacement}

module _ (s a b c d e : List ℕ) (i : ℕ) (v : Replacement) (out : List ℕ) where
  abbrev new : List ℕ
  new = new_file s (row_in i (descriptor s)) v

  refusing : (x : ℕ) (f : List ℕ) → (x ≡ 0 → ⊥) → ◌≡◌ {A = Outcome × List ℕ} (refused x 0, out) (writes x (length s) f out)
  refusing x f h = sym (ap (λ (y : Bool). pick {A = Outcome × List ℕ} y (pick (leb (length s) (length out)) (bytes (length s), f ++ drop (length s) out) (refused 11 0, out)) (refused x 0, out)) (ne_eqb x 0 h))

  pub table-refused : C.differs ≡ checked (descriptor s) a b c d e → ◌≡◌ {A = Outcome × List ℕ} (refused 5 0, out) (writes (fault (descriptor s) a b c d e i v) (length s) (new_file s (row_in i (descriptor s)) v) out)
  table-refused h = refusing 5 new (λ z. absurd (omega (arith, z))) ∙ ap (λ (x : ℕ). writes x (length s) (new_file s (row_in i (descriptor s)) v) out) (go (descriptor s) h)
    where
      chosen : (rs : List Row) (y : Bool) → C.differs ≡ pick y (C.same (length rs)) C.differs → 5 ≡ pick y (row_fault (row_at i rs) v) 5
      chosen rs true h = let z : ◌≡◌ {A = ℕ} 0 1 = cc in absurd (omega arith)
      chosen rs false h = refl

      go : (m : Res (List Row)) → C.differs ≡ checked m a b c d e → 5 ≡ fault m a b c d e i v
      go (ok rs q) h = chosen rs (begins_all (columns_of rs) a b c d e) h
      go (refuse y q r f) h = let z : ◌≡◌ {A = ℕ} 0 1 = cc in absurd (omega arith)

  record Own (n : ℕ) : Type 0 where
    rs : List Row
    q : ℕ
    reads : descriptor s ≡ ok rs q
    count : length rs ≡ n
    begun : begins_all (columns_of rs) a b c d e ≡ true

  own : (n : ℕ) → C.same n ≡ checked (descriptor s) a b c d e → Own n
  own n h = go (descriptor s) refl h
    where
      count_of : (k : ℕ) → C.same n ≡ C.same k → k ≡ n
      count_of k h = cc

      chosen : (rs : List Row) (q : ℕ) → descriptor s ≡ ok rs q → (y : Bool) → begins_all (columns_of rs) a b c d e ≡ y → C.same n ≡ pick y (C.same (length rs)) C.differs → Own n
      chosen rs q j true w h = record { rs = rs; q = q; reads = j; count = count_of (length rs) h; begun = w }
      chosen rs q j false w h = let z : ◌≡◌ {A = ℕ} 0 1 = cc in absurd (omega arith)

      go : (m : Res (List Row)) → descriptor s ≡ m → C.same n ≡ checked m a b c d e → Own n
      go (ok rs q) j h = chosen rs q j (begins_all (columns_of rs) a b c d e) refl h
      go (refuse y q r f) j h = let z : ◌≡◌ {A = ℕ} 0 1 = cc in absurd (omega arith)

  pub owned : (n : ℕ) → C.same n ≡ checked (descriptor s) a b c d e → Owned s a b e n
  owned n h =
      let o = own n h in
      let k : Columns = columns_of o.rs in
      let x1 = both (begins k.firsts a) _ o.begun in
      let x2 = both (begins k.lengths b) _ x1.1 in
      let x3 = both (begins k.nexts c) _ x2.1 in
      let x4 = both (begins k.depths d) _ x3.1 in
      record { rs = o.rs; q = o.q; reads = o.reads; count = o.count; firsts = x1.0; lengths = x2.0; kinds = x4.1 }

  pub table-owned : (n : ℕ) → C.same n ≡ checked (descriptor s) a b c d e
      → writes (row_fault (row_in i (descriptor s)) v) (length s) (new_file s (row_in i (descriptor s)) v) out ≡ writes (fault (descriptor s) a b c d e i v) (length s) (new_file s (row_in i (descriptor s)) v) out
  table-owned n h =
      let o = own n h in
      ap (λ (x : ℕ). writes x (length s) (new_file s (row_in i (descriptor s)) v) out)
      (
      ap (λ (m : Res (List Row)). row_fault (row_in i m) v) o.reads
      ∙ sym (ap (λ (m : Res (List Row)). fault m a b c d e i v) o.reads ∙ ap (λ (y : Bool). pick {A = ℕ} y (row_fault (row_at i o.rs) v) 5) o.begun)
      )

  -- a file's own refusal is no 0
  pub file-refused : (x p : ℕ) → C.refused x p ≡ checked (descriptor s) a b c d e → ◌≡◌ {A = Outcome × List ℕ} (refused x 0, out) (writes (fault (descriptor s) a b c d e i v) (length s) (new_file s (row_in i (descriptor s)) v) out)
  file-refused x p h = refusing x new (some (descriptor s) refl h) ∙ ap (λ (y : ℕ). writes y (length s) (new_file s (row_in i (descriptor s)) v) out) (go (descriptor s) h)
    where
      chosen : (y : Bool) (n : ℕ) → C.refused x p ≡ pick y (C.same n) C.differs → ⊥
      chosen true n h = let z : ◌≡◌ {A = ℕ} 0 1 = cc in omega arith
      chosen false n h = let z : ◌≡◌ {A = ℕ} 0 1 = cc in omega arith

      number : (y q : ℕ) → C.refused x p ≡ C.refused y q → x ≡ y
      number y q h = cc

      go : (m : Res (List Row)) → C.refused x p ≡ checked m a b c d e → x ≡ fault m a b c d e i v
      go (ok rs q) h = absurd (chosen (begins_all (columns_of rs) a b c d e) (length rs) h)
      go (refuse y q r f) h = number y q h

      zero-free : Of refusals 0 → ⊥
      zero-free (among e) = let z : ◌≡◌ {A = ℕ} 0 1 = cc in omega arith

      some : (m : Res (List Row)) → descriptor s ≡ m → C.refused x p ≡ checked m a b c d e → x ≡ 0 → ⊥
      some (ok rs q) j h z = chosen (begins_all (columns_of rs) a b c d e) (length rs) h
      some (refuse y q r f) j h z = zero-free (subst (Of refusals) (sym (number y q h) ∙ z) (refused-placed s j).0)
