-- What is promised of the rows of a descriptor file, for every allowed tree and any lent runs. Assumes nothing.
use Prim.Native.Nat.{◌+◌, ℕ, zero, suc, ◌/◌, ◌≤◌, ◌<◌}
use mathlib.Core.Path.{◌≡◌, refl, sym, subst, ap, ◌∙◌}
use mathlib.Core.Bool.{Bool, true, false}
use mathlib.Core.List.{List, [], ◌∷◌, ◌++◌}
use lib.ListN.{length, get_or, take, drop, length-append}
use lib.Seq.{take-append_seam, drop-append_seam}
use native.Mathlib.Omega.{arith}
use Rattle.algebra.specs.Numbers.{be}
use Rattle.algebra.specs.Reader.{Res, pick}
use Rattle.descriptor.specs.Reading.{Row, descriptor}
use Rattle.descriptor.specs.Tiles.{heads, sum}
use Rattle.descriptor.proofs.Tiling.{heads-sum, heads-length, five-each, five-heads, in_order}
use Rattle.descriptor_judge.specs.Answer.{Verdict, accepted, refused, verdict}
use Rattle.descriptor_columns.specs.Columns.{nexts_from, depths_of, columns_of, parents_of}
use Rattle.descriptor_columns.specs.Filled.{fits, answered, onto, filled, Read}
use Rattle.descriptor_columns.proofs.Room.{room-on}
use Rattle.descriptor_columns.proofs.Theorem.{get_d_map, map-length, parents-are}
use Rattle.descriptor_tree.specs.Tree.{Descriptor, count, root_head, file_heads, file_rows, row_count, File}
use Rattle.descriptor_tree.specs.Promise.{Promise}
use Rattle.descriptor_tree.proofs.Nexts.{file-nexts}
use Rattle.descriptor_tree.proofs.Sizes.{class-size}
use Rattle.descriptor_tree.proofs.Tiling.{By, file-tiled}
use Rattle.descriptor_tree.proofs.Whole.{file-inv, length-root}
use Rattle.descriptor_tree.proofs.RoundTrip.{allowed-reads}

-- judging reports the number of the tree's rows
pub count-promised : {t : Descriptor} {s : List ℕ} → File t s → verdict (descriptor s) ≡ accepted (row_count t)
count-promised f = ap verdict (allowed-reads f)

-- ---- a run

get_d-left : (xs ys : List ℕ) (i : ℕ) → i < length xs → get_or (xs ++ ys) i 0 ≡ get_or xs i 0
get_d-left [] ys i l = absurd (omega arith)
get_d-left (x ∷ xs) ys zero l = refl
get_d-left (x ∷ xs) ys (suc i) l = get_d-left xs ys i (omega arith)

-- a run with a column of n numbers at its beginning
onto-number : (col run : List ℕ) (n i : ℕ) → length col ≡ n → i < n → get_or (onto col run) i 0 ≡ get_or col i 0
onto-number col run n i e l = get_d-left col (drop (length col) run) i (omega (arith, e, l))

onto-past : (col run : List ℕ) (n : ℕ) → length col ≡ n → drop n (onto col run) ≡ drop n run
onto-past col run n e = ap (λ (k : ℕ). drop k (onto col run)) (sym e) ∙ drop-append_seam col (drop (length col) run) ∙ ap (λ (k : ℕ). drop k run) e

onto-take : (col run : List ℕ) (n : ℕ) → length col ≡ n → take n (onto col run) ≡ col
onto-take col run n e = ap (λ (k : ℕ). take k (onto col run)) (sym e) ∙ take-append_seam col (drop (length col) run)

nexts-length : (n k : ℕ) (ds : List ℕ) → length (nexts_from n k ds) ≡ length ds
unfolding nexts_from
nexts-length n k [] = refl
nexts-length n k (d ∷ ds) = ap suc (nexts-length n (k + 1) ds)

-- for every allowed tree and its bytes, and any five lent runs
pub rows-promised : {t : Descriptor} {s : List ℕ} → File t s → (a b c d e : List ℕ) (v : Verdict) (a' b' c' d' e' : List ℕ) → v ≡ answered (descriptor s) (a ∷ b ∷ c ∷ d ∷ e ∷ []) → Read s a b c d e a' b' c' d' e'
    → Promise t s a b c d e v a' b' c' d' e'
rows-promised {t} {s} g a b c d e v a' b' c' d' e' said left =
    let f = file-inv g in
    let rs : List Row = file_rows t in
    let n : ℕ = length rs in
    let cs : List (List ℕ) = a ∷ b ∷ c ∷ d ∷ e ∷ [] in
    let five : 5 ≤ length (root_head t) = omega (arith, length-root t, length-append t.class (be 4 (count t.pairs)), class-size f.class) in
    let x : By 0 0 0 0 (length s) rs (file_heads t) = subst (λ (n : ℕ). By 0 0 0 0 n rs (file_heads t)) (sym (ap length f.is)) (file-tiled t five f.allowed) in
    let read = allowed-reads g in
    let few : n ≤ length s / 5 = omega (arith, five-each x.0) in
    let told : (y : Bool) → fits n cs ≡ y → v ≡ pick y (accepted n) (refused 11 0) = λ y h. said ∙ ap (λ (m : Res (List Row)). answered m cs) read ∙ ap (λ (z : Bool). pick z (accepted n) (refused 11 0)) h in
    let holds : (col : List Row → List ℕ) (run run' : List ℕ) → run' ≡ filled col (descriptor s) cs run → (y : Bool) → fits n cs ≡ y → run' ≡ pick y (onto (col rs) run) run =
    λ col run run' w y h. w ∙ ap (λ (m : Res (List Row)). filled col m cs run) read ∙ ap (λ (z : Bool). pick z (onto (col rs) run) run) h in
    let fa = holds (λ rs. (columns_of rs).firsts) a a' left.firsts in
    let fb = holds (λ rs. (columns_of rs).lengths) b b' left.lengths in
    let fc = holds (λ rs. (columns_of rs).nexts) c c' left.nexts in
    let fd = holds (λ rs. (columns_of rs).depths) d d' left.depths in
    let fe = holds (λ rs. (columns_of rs).kinds) e e' left.kinds in
    let la : length (columns_of rs).firsts ≡ n = map-length (λ (r : Row). r.first) rs in
    let lb : length (columns_of rs).lengths ≡ n = map-length (λ (r : Row). r.size) rs in
    let ld : length (columns_of rs).depths ≡ n = map-length (λ (r : Row). r.depth) rs in
    let lc : length (columns_of rs).nexts ≡ n = nexts-length n 0 (depths_of rs) ∙ ld in
    let le : length (columns_of rs).kinds ≡ n = map-length (λ (r : Row). r.kind) rs in
    record {
      reads = read;
      short = λ h. (told false h, fa false h, fb false h, fc false h, fd false h, fe false h);
      room = λ h. told true h;
      first = λ h i l r. ap (λ (z : List ℕ). get_or z i 0) (fa true h) ∙ onto-number (columns_of rs).firsts a n i la l ∙ get_d_map (λ (r : Row). r.first) rs i r l;
      size = λ h i l r. ap (λ (z : List ℕ). get_or z i 0) (fb true h) ∙ onto-number (columns_of rs).lengths b n i lb l ∙ get_d_map (λ (r : Row). r.size) rs i r l;
      next = λ h i l. ap (λ (z : List ℕ). get_or z i 0) (fc true h) ∙ onto-number (columns_of rs).nexts c n i lc l ∙ ap (λ (z : List ℕ). get_or z i 0) (file-nexts t);
      depth = λ h i l r. ap (λ (z : List ℕ). get_or z i 0) (fd true h) ∙ onto-number (columns_of rs).depths d n i ld l ∙ get_d_map (λ (r : Row). r.depth) rs i r l;
      kind = λ h i l r. ap (λ (z : List ℕ). get_or z i 0) (fe true h) ∙ onto-number (columns_of rs).kinds e n i le l ∙ get_d_map (λ (r : Row). r.kind) rs i r l;
      parent = λ h i l r. ap (λ (z : List ℕ). get_or (parents_of (take n z)) i 0) (fd true h) ∙ ap (λ (z : List ℕ). get_or (parents_of z) i 0) (onto-take (columns_of rs).depths d n ld)
          ∙ ap (λ (z : List ℕ). get_or z i 0) (sym (parents-are s rs (length s) read)) ∙ get_d_map (λ (r : Row). r.parent) rs i r l;
      past = λ h. (
        ap (drop n) (fa true h) ∙ onto-past (columns_of rs).firsts a n la,
        ap (drop n) (fb true h) ∙ onto-past (columns_of rs).lengths b n lb,
        ap (drop n) (fc true h) ∙ onto-past (columns_of rs).nexts c n lc,
        ap (drop n) (fd true h) ∙ onto-past (columns_of rs).depths d n ld,
        ap (drop n) (fe true h) ∙ onto-past (columns_of rs).kinds e n le,
      );
      laid = record {
        tiled = x.0;
        order = in_order x.0;
        all = heads-length x.0;
        five = five-heads x.0;
        filled = omega (arith, heads-sum x.0);
        count = few;
      };
      heads_are = x.1;
      filled = let z : sum (heads x.0) ≡ length s = omega (arith, heads-sum x.0) in ap sum (sym x.1) ∙ z;
      few = few;
      enough = λ ha hb hc hd he. told true (sym (room-on n a (b ∷ c ∷ d ∷ e ∷ []) true (omega (arith, few, ha)) (room-on n b (c ∷ d ∷ e ∷ []) true (omega (arith, few, hb)) (room-on n c (d ∷ e ∷ []) true (omega (arith, few, hc)) (room-on n d (e ∷ []) true (omega (arith, few, hd)) (room-on n e [] true (omega (arith, few, he)) refl))))));
    }
