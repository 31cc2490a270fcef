-- The call, by the row and what the table says of it. Assumes nothing.
use Prim.Native.Nat.{ℕ, zero, suc, ◌+◌, ◌≤◌, ◌<◌}
use mathlib.Core.Path.{◌≡◌, refl, sym, ap, ap₂, ◌∙◌, subst}
use mathlib.Core.List.{List, [], ◌∷◌, ◌++◌, append_assoc}
use mathlib.Core.Bool.{Bool, true, false}
use lib.Dec.{leb}
use lib.ListN.{length, get_or, take, drop, length-append}
use lib.Seq.{sets, sets-eq, take-append-le, drop-append-le}
use borrow.Author.Tests.{ne_eqb, le-leb, lt-leb}
use native.Mathlib.Omega.{arith}
use Rattle.algebra.specs.Reader.{pick}
use Rattle.algebra.specs.Refusal.{Of}
use Rattle.algebra.specs.Store.{stored}
use Rattle.algebra.specs.Writing.{Outcome, bytes, refused, writes}
use Rattle.algebra.proofs.Stores.{stored-in}
use Rattle.descriptor.specs.Reading.{Row, descriptor}
use Rattle.descriptor.proofs.Rows.{of-root, rows-laid}
use Rattle.descriptor_heads.specs.Changed.{scalars, OneOf, here, later}
use Rattle.descriptor_columns.specs.Columns.{columns_of}
use Rattle.descriptor_columns.proofs.Theorem.{get_d_map, map-length}
use Rattle.descriptor_read.specs.Values.{RowAnswer, found, missing, row_at, row_in}
use Rattle.descriptor_check.specs.Check as C
use Rattle.descriptor_check.specs.Check.{begins_all, checked}
use Rattle.descriptor_check.proofs.Begun.{onto-begins, begins-length}
use Rattle.descriptor_changed.proofs.Nested.{each-one, found-one, Within, within}
use Rattle.descriptor_changed.proofs.Singles.{width_of, Singles, singles}
use Rattle.descriptor_replace.specs.Replace.{is_kind, fault_of, bytes_of, new_file, row_fault}
use Rattle.descriptor_replace.specs.scaffold.Replacing.{Owned}
use Rattle.descriptor_replace.specs.declared.Replacement.{Replacement}
use Rattle.descriptor_replace.proofs.Values.{kind-scalar}

spare : Row
spare = record { kind = 0; parent = 0; first = 0; size = 0; depth = 0; value = 0 }

row_here : (rs : List Row) (i : ℕ) → i < length rs → row_at i rs ≡ found (get_or rs i spare)
row_here [] i l = absurd (omega arith)
row_here (r ∷ rs) zero l = refl
row_here (r ∷ rs) (suc i) l = row_here rs i (omega arith)

row-past : (rs : List Row) (i : ℕ) → length rs ≤ i → row_at i rs ≡ missing 12 0
row-past [] i l = refl
row-past (r ∷ rs) zero l = absurd (omega arith)
row-past (r ∷ rs) (suc i) l = row-past rs i (omega arith)

pub one_single : (e : ℕ) (rs : List Row) {r : Row} → Singles e rs → OneOf r rs → Of scalars r.kind → r.value + width_of r.kind ≡ r.first + r.size
one_single e (x ∷ rs) {r} g (here h) k = subst (λ (z : Row). z.value + width_of z.kind ≡ z.first + z.size) h (g.0 (subst (Of scalars) (ap (λ (z : Row). z.kind) (sym h)) k)).0
one_single e (x ∷ rs) g (later h) k = one_single e rs g.1 h k
one_single e [] {r = r} g x3 k = elim x3 [ ]

get_d-begins : (column run : List ℕ) → C.begins column run ≡ true → (j : ℕ) → j < length column → get_or run j 0 ≡ get_or column j 0
get_d-begins column run h j l = ap (λ (x : List ℕ). get_or x j 0) (sym (onto-begins column run h)) ∙ left column (drop (length column) run) j l
  where
    left : (xs ys : List ℕ) (j : ℕ) → j < length xs → get_or (xs ++ ys) j 0 ≡ get_or xs j 0
    left [] ys j l = absurd (omega arith)
    left (x ∷ xs) ys zero l = refl
    left (x ∷ xs) ys (suc j) l = left xs ys j (omega arith)

-- a value stored over a file that was copied
over : (s out b : List ℕ) (v : ℕ) → length s ≤ length out → v + length b ≤ length s → sets (stored out 0 s) v b ≡ (take v s ++ (b ++ drop (v + length b) s)) ++ drop (length s) out
over s out b v l m =
    let d : List ℕ = drop (length s) out in
    let z : 0 + length s ≡ length s = omega arith in
    let n = length-append s d in
    ap (λ (x : List ℕ). sets x v b) (stored-in out 0 s (omega (arith, l)) ∙ sets-eq s out 0 (omega (arith, l)) ∙ ap (λ (k : ℕ). s ++ drop k out) z)
    ∙ sets-eq b (s ++ d) v (omega (arith, m, n))
    ∙ append_assoc (take v (s ++ d)) b (drop (v + length b) (s ++ d))
    ∙ ap₂ (λ (x y : List ℕ). x ++ (b ++ y)) (take-append-le v s d (omega (arith, m))) (drop-append-le (v + length b) s d m)
    ∙ ap (λ (x : List ℕ). take v s ++ x) (sym (append_assoc b (drop (v + length b) s) d))
    ∙ sym (append_assoc (take v s) (b ++ drop (v + length b) s) d)

module _ (s a b e : List ℕ) (n : ℕ) (t : Owned s a b e n) (i : ℕ) (v : Replacement) (out : List ℕ) where
  row-of : row_in i (descriptor s) ≡ row_at i t.rs
  row-of = ap (row_in i) t.reads

  abbrev wrote : Outcome × List ℕ
  wrote = writes (row_fault (row_in i (descriptor s)) v) (length s) (new_file s (row_in i (descriptor s)) v) out

  said : (m : RowAnswer) → row_in i (descriptor s) ≡ m → writes (row_fault m v) (length s) (new_file s m v) out ≡ writes (row_fault (row_in i (descriptor s)) v) (length s) (new_file s (row_in i (descriptor s)) v) out
  said m h = ap (λ (x : RowAnswer). writes (row_fault x v) (length s) (new_file s x v) out) (sym h)

  -- a number that is not 0 refuses
  refusing : (x : ℕ) (f : List ℕ) → (x ≡ 0 → ⊥) → ◌≡◌ {A = Outcome × List ℕ} (refused x 0, out) (writes x (length s) f out)
  refusing x f h = sym (ap (λ (y : Bool). pick {A = Outcome × List ℕ} y (pick (leb (length s) (length out)) (bytes (length s), f ++ drop (length s) out) (refused 11 0, out)) (refused x 0, out)) (ne_eqb x 0 h))

  pub no_row : n ≤ i → ◌≡◌ {A = Outcome × List ℕ} (refused 12 0, out) (writes (row_fault (row_in i (descriptor s)) v) (length s) (new_file s (row_in i (descriptor s)) v) out)
  no_row l = refusing 12 s (λ z. absurd (omega (arith, z))) ∙ said (missing 12 0) (row-of ∙ row-past t.rs i (omega (arith, l, t.count)))

  pub room : (n ≤ length a) × (n ≤ length b) × (n ≤ length e) × (n ≤ 16777216)
  room =
      let o = of-root s t.rs t.q t.reads in
      let l = rows-laid s t.rs t.q t.reads in (
        omega (arith, begins-length (columns_of t.rs).firsts a t.firsts, map-length (λ (r : Row). r.first) t.rs, t.count),
        omega (arith, begins-length (columns_of t.rs).lengths b t.lengths, map-length (λ (r : Row). r.size) t.rs, t.count),
        omega (arith, begins-length (columns_of t.rs).kinds e t.kinds, map-length (λ (r : Row). r.kind) t.rs, t.count),
        omega (arith, l.count, o.0, t.count),
      )

  module _ (l : i < n) where
    pub r : Row
    r = get_or t.rs i spare

    here-is : row_in i (descriptor s) ≡ found r
    unfolding r
    here-is = row-of ∙ row_here t.rs i (omega (arith, l, t.count))

    among-rows : OneOf r t.rs
    unfolding r
    among-rows = found-one t.rs i (row_here t.rs i (omega (arith, l, t.count)))

    first-is : get_or a i 0 ≡ r.first
    unfolding r
    first-is = get_d-begins (columns_of t.rs).firsts a t.firsts i (omega (arith, l, t.count, map-length (λ (r : Row). r.first) t.rs)) ∙ get_d_map (λ (r : Row). r.first) t.rs i spare (omega (arith, l, t.count))

    size_is : get_or b i 0 ≡ r.size
    unfolding r
    size_is = get_d-begins (columns_of t.rs).lengths b t.lengths i (omega (arith, l, t.count, map-length (λ (r : Row). r.size) t.rs)) ∙ get_d_map (λ (r : Row). r.size) t.rs i spare (omega (arith, l, t.count))

    kind-is : get_or e i 0 ≡ r.kind
    unfolding r
    kind-is = get_d-begins (columns_of t.rs).kinds e t.kinds i (omega (arith, l, t.count, map-length (λ (r : Row). r.kind) t.rs)) ∙ get_d_map (λ (r : Row). r.kind) t.rs i spare (omega (arith, l, t.count))

    judged : (y : Bool) → y ≡ is_kind (get_or e i 0) v → (f : List ℕ) → writes (pick y (fault_of v) 14) (length s) (new_file s (found r) v) out ≡ writes (row_fault (row_in i (descriptor s)) v) (length s) (new_file s (row_in i (descriptor s)) v) out
    judged y h f = ap (λ (x : Bool). writes (pick x (fault_of v) 14) (length s) (new_file s (found r) v) out) (h ∙ ap (λ (x : ℕ). is_kind x v) kind-is) ∙ said (found r) here-is

    pub other-kind : false ≡ is_kind (get_or e i 0) v → ◌≡◌ {A = Outcome × List ℕ} (refused 14 0, out) (writes (row_fault (row_in i (descriptor s)) v) (length s) (new_file s (row_in i (descriptor s)) v) out)
    other-kind h = refusing 14 (new_file s (found r) v) (λ z. absurd (omega (arith, z))) ∙ judged false h []

    module _ (h : true ≡ is_kind (get_or e i 0) v) where
      pub faulty : (x : ℕ) → x ≡ fault_of v → (x ≡ 0 → ⊥) → ◌≡◌ {A = Outcome × List ℕ} (refused x 0, out) (writes (row_fault (row_in i (descriptor s)) v) (length s) (new_file s (row_in i (descriptor s)) v) out)
      faulty x f z = refusing x (new_file s (found r) v) z ∙ ap (λ (y : ℕ). writes y (length s) (new_file s (found r) v) out) f ∙ judged true h []

      module _ (f : 0 ≡ fault_of v) where
        sound : (g : List ℕ) → writes 0 (length s) g out ≡ pick (leb (length s) (length out)) (bytes (length s), g ++ drop (length s) out) (refused 11 0, out)
        sound g = refl

        pub short : length out < length s → ◌≡◌ {A = Outcome × List ℕ} (refused 11 0, out) (writes (row_fault (row_in i (descriptor s)) v) (length s) (new_file s (row_in i (descriptor s)) v) out)
        short w =
            sym (ap (λ (y : Bool). pick {A = Outcome × List ℕ} y (bytes (length s), new_file s (found r) v ++ drop (length s) out) (refused 11 0, out)) (lt-leb (length s) (length out) w))
            ∙ ap (λ (y : ℕ). writes y (length s) (new_file s (found r) v) out) f ∙ judged true h []

        -- where the value lies
        pub place : (r.value + length (bytes_of v) ≡ get_or a i 0 + get_or b i 0) × (r.value + length (bytes_of v) ≤ length s)
        place =
            let k = kind-scalar r.kind v (ap (λ (x : ℕ). is_kind x v) (sym kind-is) ∙ sym h) in
            let g = one_single (length s) t.rs (singles s t.rs t.q t.reads) among-rows k.0 in
            let w = each-one (Within 0 (length s)) (within (rows-laid s t.rs t.q t.reads).tiled) among-rows in
            (omega (arith, g, k.1, first-is, size_is), omega (arith, g, k.1, w.1))

        pub replaced : length s ≤ length out → (at : ℕ) {o p : List ℕ} → at ≡ r.value → o ≡ stored out 0 s → p ≡ sets o at (bytes_of v)
            → ◌≡◌ {A = Outcome × List ℕ} (bytes (length s), p) (writes (row_fault (row_in i (descriptor s)) v) (length s) (new_file s (row_in i (descriptor s)) v) out)
        replaced w at {o} {p} x y z =
            let q : p ≡ new_file s (found r) v ++ drop (length s) out = z ∙ ap₂ (λ (m : List ℕ) (k : ℕ). sets m k (bytes_of v)) y x ∙ over s out (bytes_of v) r.value w place.1 in
            ap (λ (m : List ℕ). (bytes (length s), m)) q
            ∙ sym (ap (λ (y : Bool). pick {A = Outcome × List ℕ} y (bytes (length s), new_file s (found r) v ++ drop (length s) out) (refused 11 0, out)) (le-leb (length s) (length out) w))
            ∙ ap (λ (y : ℕ). writes y (length s) (new_file s (found r) v) out) f ∙ judged true h []
