-- The entries of a whole file in a run, and what the call answers. Assumes nothing.
use Prim.Native.Nat.{ℕ, suc, ◌+◌, ◌*◌, ◌/◌, ◌≤◌, ◌<◌}
use mathlib.Core.Path.{◌≡◌, refl, sym, ap, ap₂, ◌∙◌, subst}
use mathlib.Core.List.{List, [], ◌∷◌, ◌++◌}
use mathlib.Core.Bool.{Bool, true, false}
use lib.Dec.{leb}
use lib.ListN.{length, drop}
use lib.Seq.{sets, sets-eq}
use borrow.Author.Tests.{le-leb, lt-leb}
use native.Mathlib.Omega.{arith}
use native.Mathlib.Nat.{zero-add}
use Rattle.algebra.specs.Numbers.{Bytes, joined}
use Rattle.algebra.specs.Reader.{Res, ok, pick, until}
use Rattle.algebra.proofs.Stores.{sets-append}
use Rattle.std.specs.Prelude.{Result}
use Rattle.std.specs.Result.{IsErrAnd}
use Rattle.std.proofs.lemmas.Result.{err_from_is_err_and}
use Rattle.fault.specs.Fault.{number_of}
use Rattle.fault.specs.declared.Refusal.{Refusal}
use Rattle.descriptor_judge.specs.Answer.{Verdict}
use Rattle.descriptor_judge.specs.Answer as A
use Rattle.descriptor_heads.specs.Heads.{Due, items, Head, Opened, Stack, over, next_head, settled, after, root_head}
use Rattle.descriptor_raw.specs.Raw.{due_of, Sees}
use Rattle.descriptor_raw.specs.declared.RawHead.{RawHead}
use Rattle.descriptor_columns.specs.Filled.{onto}
use Rattle.descriptor_columns.specs.scaffold.Filling.{Rooted}
use Rattle.descriptor_columns.proofs.Reading.{Parts, parts}
use Rattle.descriptor_entry.specs.Shapes.{Entry, shape_of, fields_of}
use Rattle.descriptor_entry.specs.declared.Shape.{Shape}
use Rattle.descriptor_entries.specs.Taken.{entry_of, members_of, entries_of}
use Rattle.descriptor_entries.specs.Answered.{numbers, answered, entered}
use Rattle.descriptor_entries.specs.scaffold.Spans.{end_of}
use Rattle.descriptor_entries_read.specs.scaffold.Filling.{Inside, head_with, waiting, behind, Begun, rest}
use Rattle.descriptor_entries.proofs.Built.{root-read, object-is, taken-length}
use Rattle.descriptor_entries_read.proofs.Turns.{entry_length, same-entry}

-- what is told where a `?` hands a refusal on
pub refused-exit : (r : Result ℕ Refusal) (e : Refusal) → IsErrAnd r (λ y. y ≡ e) → (run : List ℕ) → ◌≡◌ {A = Verdict × List ℕ} (A.told r, run) (A.refused (number_of e.0) e.1, run)
refused-exit r e h run = let p = err_from_is_err_and r h in rw (p.1, p.2) refl

module _ (s : List ℕ) where
  module _ (n : ℕ) (r : Rooted s n) where
    -- with too little room
    pub short : (run : List ℕ) → length run / 16 < n → ◌≡◌ {A = Verdict × List ℕ} (A.refused 11 0, run) (entered s run)
    short run l =
        let all = r.all in
        let f : leb (16 * length all) (length run) ≡ false = lt-leb (16 * length all) (length run) (omega (arith, l, r.count)) in
        sym (ap (λ (m : Res (List Opened)). answered s m run) r.reads ∙ ap (λ (b : Bool). pick b (A.accepted (length all), onto (numbers (entries_of s all)) run) (A.refused 11 0, run)) f)

    -- with room
    pub enough : Bytes s → (run run' : List ℕ) → n ≤ length run / 16 → run' ≡ sets run 0 (numbers (entries_of s r.all)) → ◌≡◌ {A = Verdict × List ℕ} (A.accepted n, run') (entered s run)
    enough b run run' l e =
        let all = r.all in
        let ns : List ℕ = numbers (entries_of s all) in
        let size : length ns ≡ 16 * length all = taken-length s b all (length s) r.reads in
        let f : leb (16 * length all) (length run) ≡ true = le-leb (16 * length all) (length run) (omega (arith, l, r.count)) in
        let is : run' ≡ onto ns run = e ∙ sets-eq ns run 0 (omega (arith, size, l, r.count)) ∙ ap (λ (k : ℕ). ns ++ drop k run) (zero-add (length ns)) in
        sym (ap (λ (m : Res (List Opened)). answered s m run) r.reads ∙ ap (λ (b : Bool). pick b (A.accepted (length all), onto ns run) (A.refused 11 0, run)) f
        ∙ ap (λ (k : ℕ). (A.accepted k, onto ns run)) r.count ∙ ap (λ (x : List ℕ). (A.accepted n, x)) (sym is))

    module _ (u : RawHead) (h : Sees (λ d. root_head s 0) u) where
      -- the root's key and fields lie in the file
      pub root-inside : Inside s (due_of 0 0) 0 u.kind u.value
      root-inside =
          let t = parts s r.all (length s) r.reads in
          let x = h.sees 0 t.o t.q t.root in
          let g = root-read s t.o t.q t.root in
          let k : u.kind ≡ _ = x.0 ∙ ap (λ (y : Head). y.kind) g.head in
          let v : u.value ≡ 4 = x.4 ∙ ap (λ (y : Head). y.value) g.head in
          let z : end_of s 4 (fields_of (shape_of items u.kind)) ≡ t.q = ap (λ (y : ℕ). end_of s 4 (fields_of (shape_of items y))) k ∙ ap (λ (y : Shape). end_of s 4 (fields_of y)) object-is ∙ g.end in
          record {
            key = omega arith;
            fields = subst (λ (y : ℕ). end_of s y (fields_of (shape_of items u.kind)) ≤ length s) (sym v) (omega (arith, z, t.inside));
            size = t.size;
          }

      -- what is due behind it
      waits : (t : Parts s r.all (length s)) → waiting s u.what u.objects u.count u.end ≡ ok t.os (length s)
      waits t =
          let x = h.sees 0 t.o t.q t.root in
          ap (λ (q : ℕ). waiting s u.what u.objects u.count q) x.3
          ∙ ap (λ (d : Due). until over after next_head (suc (length s)) (settled ((d, u.count) ∷ [])) s t.q) x.1
          ∙ ap (λ (n : ℕ). until over after next_head (suc (length s)) (settled ((t.o.below, n) ∷ [])) s t.q) x.2
          ∙ t.reads

      pub begun : Begun s u.what u.objects u.count u.end n
      begun =
          let t = parts s r.all (length s) r.reads in
          let x = h.sees 0 t.o t.q t.root in
          let m : length r.all ≡ suc (length t.os) = ap length t.is in
          record {
            os = t.os;
            reads = waits t;
            size = t.size;
            inside = omega (arith, t.inside, x.3);
            count = omega (arith, m, r.count);
            few = r.few;
          }

      -- the root's entry, and all that follow
      pub entered-whole : (run run₁ run' : List ℕ) → run₁ ≡ sets run 0 (entry_of s (due_of 0 0) (head_with u.kind 0 u.value)) → run' ≡ sets run₁ 16 (numbers (rest s u.what u.objects u.count u.end))
          → run' ≡ sets run 0 (numbers (entries_of s r.all))
      unfolding entries_of joined
      entered-whole run run₁ run' a b =
          let t = parts s r.all (length s) r.reads in
          let x = h.sees 0 t.o t.q t.root in
          let e : Entry = entry_of s items t.o.head in
          let same : entry_of s items (head_with u.kind 0 u.value) ≡ e = same-entry s items t.o.head u.kind 0 u.value x.0 t.lies.first x.4 in
          let st : Stack = settled ((t.o.below, t.o.count) ∷ []) in
          let es : List Entry = members_of s st t.os in
          let left : rest s u.what u.objects u.count u.end ≡ es =
          ap (λ (y : Stack). members_of s y (behind (waiting s u.what u.objects u.count u.end))) (ap₂ (λ (d : Due) (m : ℕ). settled ((d, m) ∷ [])) x.1 x.2) ∙ ap (λ (m : Res (List Opened)). members_of s st (behind m)) (waits t) in
          let sixteen : 0 + length e ≡ 16 = omega (arith, entry_length s items t.o.head) in
          b ∙ ap₂ (λ (y : List ℕ) (l : List Entry). sets y 16 (numbers l)) (a ∙ ap (sets run 0) same) left
          ∙ ap (λ (i : ℕ). sets (sets run 0 e) i (numbers es)) (sym sixteen)
          ∙ sym (sets-append e (numbers es) run 0)
          ∙ ap (λ (l : List Opened). sets run 0 (numbers (entries_of s l))) (sym t.is)
