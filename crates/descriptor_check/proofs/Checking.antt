-- What is answered for a whole file. Assumes nothing.
use Prim.Native.Nat.{ℕ, suc, ◌+◌, ◌≤◌}
use mathlib.Core.Path.{◌≡◌, refl, sym, ap, ◌∙◌}
use mathlib.Core.List.{List, [], ◌∷◌}
use mathlib.Core.Bool.{Bool, true, false}
use lib.ListN.{length, get_or, set}
use lib.Seq.{get_or-set_same}
use native.Mathlib.Omega.{arith}
use Rattle.algebra.specs.Reader.{Res, ok, refuse, pick}
use Rattle.descriptor.specs.Reading.{Row, descriptor}
use Rattle.descriptor_judge.specs.Answer.{verdict}
use Rattle.descriptor_judge.specs.Answer as A
use Rattle.descriptor_heads.specs.Heads.{Head, root_head}
use Rattle.descriptor_raw.specs.Raw.{Sees}
use Rattle.descriptor_raw.specs.declared.RawHead.{RawHead}
use Rattle.descriptor_columns.specs.Columns.{Columns, nexts_from, depths_of, columns_of}
use Rattle.descriptor_columns.specs.Filled.{fits, onto, filled}
use Rattle.descriptor_columns.specs.scaffold.Filling.{Entry, first_in, length_in, next_in, depth_in, kind_in, puts, whole, mark, rest, Rooted, Whole}
use Rattle.descriptor_columns.proofs.Reading as R
use Rattle.descriptor_columns.proofs.Room.{room-on}
use Rattle.descriptor_columns.proofs.Theorem.{map-length}
use Rattle.descriptor_check.specs.Check.{begins, begins_all, same, differs, refused, checked}
use Rattle.descriptor_check.proofs.Begun.{both, begins-onto, onto-begins, begins-length}
use Rattle.descriptor_check.proofs.Turns.{puts-keep, kept, Stays}

-- ---- from the root's head on

abbrev pub behind_root : List ℕ → RawHead → List Head
behind_root s u = rest s u.what u.objects u.count u.end

module _ (s : List ℕ) (rows : ℕ) (r : Rooted s rows) (u : RawHead) (h : Sees (λ d. root_head s 0) u) (a b c d e : List ℕ) where
  -- what storing all rows leaves
  all : Whole s a b c d e (puts first_in 1 (behind_root s u) (set a 0 0)) (whole (length_in (length s)) 1 (behind_root s u) ((0, mark 0 0) ∷ []) b) (whole (next_in rows) 1 (behind_root s u) ((0, mark 0 0) ∷ []) c) (puts depth_in 1 (behind_root s u) (set d 0 0)) (puts kind_in 1 (behind_root s u) (set e 0 u.kind))
  all = R.finished s rows r u h refl refl refl (record { firsts = refl; lengths = refl; nexts = refl; depths = refl; kinds = refl })

  root-stood : (g : Entry) (c : List ℕ) (v : ℕ) {t : List ℕ} → 1 ≤ length c → puts g 1 (behind_root s u) (set c 0 v) ≡ t → c ≡ t → get_or c 0 0 ≡ v
  root-stood g c v l e f = ap (λ (x : List ℕ). get_or x 0 0) (f ∙ sym e) ∙ puts-keep g 1 0 (behind_root s u) (set c 0 v) (omega arith) ∙ get_or-set_same c 0 v 0 (omega (arith, l))

  -- the root's numbers are there where all are
  pub root_told : 1 ≤ length a → 1 ≤ length d → 1 ≤ length e → Whole s a b c d e a b c d e → (get_or a 0 0 ≡ 0) × (get_or d 0 0 ≡ 0) × (get_or e 0 0 ≡ u.kind)
  root_told la ld le w = (root-stood first_in a 0 la all.firsts w.firsts, root-stood depth_in d 0 ld all.depths w.depths, root-stood kind_in e u.kind le all.kinds w.kinds)

  module _ (y : (get_or a 0 0 ≡ 0) × (get_or d 0 0 ≡ 0) × (get_or e 0 0 ≡ u.kind)) where
    pub root-turn : Stays s rows (behind_root s u) a b c d e → Whole s a b c d e a b c d e
    root-turn g = R.finished s rows r u h (kept a 0 0 y.0) (kept d 0 0 y.1) (kept e 0 u.kind y.2) g

    pub rest-told : Whole s a b c d e a b c d e → Stays s rows (behind_root s u) a b c d e
    rest-told w = record {
      firsts = w.firsts ∙ sym all.firsts ∙ ap (puts first_in 1 (behind_root s u)) (sym (kept a 0 0 y.0));
      lengths = w.lengths ∙ sym all.lengths;
      nexts = w.nexts ∙ sym all.nexts;
      depths = w.depths ∙ sym all.depths ∙ ap (puts depth_in 1 (behind_root s u)) (sym (kept d 0 0 y.1));
      kinds = w.kinds ∙ sym all.kinds ∙ ap (puts kind_in 1 (behind_root s u)) (sym (kept e 0 u.kind y.2));
    }

-- ---- the answer

nexts-length : (n k : ℕ) (ds : List ℕ) → length (nexts_from n k ds) ≡ length ds
unfolding nexts_from
nexts-length n k [] = refl
nexts-length n k (d ∷ ds) = ap suc (nexts-length n (k + 1) ds)

all_both : (c : Columns) (a b n d e : List ℕ) → begins c.firsts a ≡ true → begins c.lengths b ≡ true → begins c.nexts n ≡ true → begins c.depths d ≡ true → begins c.kinds e ≡ true → begins_all c a b n d e ≡ true
all_both c a b n d e f g h i j = rw (f, g, h, i, j)

-- runs that begin with the columns of rows have room for them
begun-fits : (rs : List Row) (a b n d e : List ℕ) → begins_all (columns_of rs) a b n d e ≡ true → true ≡ fits (length rs) (a ∷ b ∷ n ∷ d ∷ e ∷ [])
begun-fits rs a b n d e h =
    let c : Columns = columns_of rs in
    let x1 = both (begins c.firsts a) _ h in
    let x2 = both (begins c.lengths b) _ x1.1 in
    let x3 = both (begins c.nexts n) _ x2.1 in
    let x4 = both (begins c.depths d) _ x3.1 in
    let m : length (depths_of rs) ≡ length rs = map-length (λ (r : Row). r.depth) rs in
    room-on (length rs) a (b ∷ n ∷ d ∷ e ∷ []) true (omega (arith, begins-length c.firsts a x1.0, map-length (λ (r : Row). r.first) rs))
    (room-on (length rs) b (n ∷ d ∷ e ∷ []) true (omega (arith, begins-length c.lengths b x2.0, map-length (λ (r : Row). r.size) rs))
    (room-on (length rs) n (d ∷ e ∷ []) true (omega (arith, begins-length c.nexts n x3.0, nexts-length (length rs) 0 (depths_of rs), m))
    (room-on (length rs) d (e ∷ []) true (omega (arith, begins-length c.depths d x4.0, m))
    (room-on (length rs) e [] true (omega (arith, begins-length c.kinds e x4.1, map-length (λ (r : Row). r.kind) rs)) refl))))

not-true : (b : Bool) → (b ≡ true → ⊥) → b ≡ false
not-true true h = absurd (h refl)
not-true false h = refl

module _ (s a b c d e : List ℕ) where
  -- what judging refuses
  pub refuses : (x p : ℕ) → A.refused x p ≡ verdict (descriptor s) → refused x p ≡ checked (descriptor s) a b c d e
  refuses x p v = go (descriptor s) v
    where
      go : (m : Res (List Row)) → A.refused x p ≡ verdict m → refused x p ≡ checked m a b c d e
      go (ok rs q) v = let z : ◌≡◌ {A = ℕ} 0 1 = cc in absurd (omega arith)
      go (refuse y q r f) v = cc

  module _ (n : ℕ) (v : A.accepted n ≡ verdict (descriptor s)) where
    -- the rows
    rows_of : (rs : List Row) × (q : ℕ) × (descriptor s ≡ ok rs q) × (length rs ≡ n)
    rows_of = go (descriptor s) refl v
      where
        count : (rs : List Row) → A.accepted n ≡ A.accepted (length rs) → length rs ≡ n
        count rs e = cc

        go : (m : Res (List Row)) → descriptor s ≡ m → A.accepted n ≡ verdict m → (rs : List Row) × (q : ℕ) × (descriptor s ≡ ok rs q) × (length rs ≡ n)
        go (ok rs q) e v = (rs, q, e, count rs v)
        go (refuse x p r f) e v = let z : ◌≡◌ {A = ℕ} 0 1 = cc in absurd (omega arith)

    -- a run in which a column was stored
    onto-of : (rs : List Row) (q : ℕ) → descriptor s ≡ ok rs q → length rs ≡ n → true ≡ fits n (a ∷ b ∷ c ∷ d ∷ e ∷ []) → (col : List Row → List ℕ) (x : List ℕ) → filled col (descriptor s) (a ∷ b ∷ c ∷ d ∷ e ∷ []) x ≡ onto (col rs) x
    onto-of rs q i l f col x =
        ap (λ (m : Res (List Row)). filled col m (a ∷ b ∷ c ∷ d ∷ e ∷ []) x) i
        ∙ ap (λ (y : Bool). pick y (onto (col rs) x) x) (ap (λ (k : ℕ). fits k (a ∷ b ∷ c ∷ d ∷ e ∷ [])) l ∙ sym f)

    differs-of : (rs : List Row) (q : ℕ) → descriptor s ≡ ok rs q → (begins_all (columns_of rs) a b c d e ≡ true → ⊥) → differs ≡ checked (descriptor s) a b c d e
    differs-of rs q i h = sym (ap (λ (m : Res (List Row)). checked m a b c d e) i ∙ ap (λ (y : Bool). pick y (same (length rs)) differs) (not-true (begins_all (columns_of rs) a b c d e) h))

    -- too short
    pub short : false ≡ fits n (a ∷ b ∷ c ∷ d ∷ e ∷ []) → differs ≡ checked (descriptor s) a b c d e
    short f =
        let r = rows_of in
        differs-of r.0 r.1 r.2 (λ h. clash (begun-fits r.0 a b c d e h ∙ ap (λ (k : ℕ). fits k (a ∷ b ∷ c ∷ d ∷ e ∷ [])) r.3 ∙ sym f))
      where
        clash : true ≡ false → ⊥
        clash h = let z : ◌≡◌ {A = ℕ} 0 1 = cc in omega arith

    module _ (f : true ≡ fits n (a ∷ b ∷ c ∷ d ∷ e ∷ [])) (la : n ≤ length a) (lb : n ≤ length b) (lc : n ≤ length c) (ld : n ≤ length d) (le : n ≤ length e) where
      -- all rows are there
      pub stays : Whole s a b c d e a b c d e → same n ≡ checked (descriptor s) a b c d e
      stays w =
          let r = rows_of in
          let t = (R.enough s n (R.accepts s n v) f la lb lc ld le w).1 in
          let at = onto-of r.0 r.1 r.2 r.3 f in
          let k : Columns = columns_of r.0 in
          let h = all_both k a b c d e
          (begins-onto k.firsts a (sym (t.firsts ∙ at (λ rs. (columns_of rs).firsts) a)))
          (begins-onto k.lengths b (sym (t.lengths ∙ at (λ rs. (columns_of rs).lengths) b)))
          (begins-onto k.nexts c (sym (t.nexts ∙ at (λ rs. (columns_of rs).nexts) c)))
          (begins-onto k.depths d (sym (t.depths ∙ at (λ rs. (columns_of rs).depths) d)))
          (begins-onto k.kinds e (sym (t.kinds ∙ at (λ rs. (columns_of rs).kinds) e))) in
          sym (ap (λ (m : Res (List Row)). checked m a b c d e) r.2 ∙ ap (λ (y : Bool). pick y (same (length r.0)) differs) h ∙ ap same r.3)

      -- not all
      pub changes : (Whole s a b c d e a b c d e → ⊥) → differs ≡ checked (descriptor s) a b c d e
      changes bad =
          let r = rows_of in
          differs-of r.0 r.1 r.2 (λ h. bad (back r.0 r.1 r.2 r.3 h))
        where
          back : (rs : List Row) (q : ℕ) → descriptor s ≡ ok rs q → length rs ≡ n → begins_all (columns_of rs) a b c d e ≡ true → Whole s a b c d e a b c d e
          back rs q i l h =
              let k : Columns = columns_of rs in
              let x1 = both (begins k.firsts a) _ h in
              let x2 = both (begins k.lengths b) _ x1.1 in
              let x3 = both (begins k.nexts c) _ x2.1 in
              let x4 = both (begins k.depths d) _ x3.1 in
              let t = (R.enough s n (R.accepts s n v) f la lb lc ld le (record { firsts = refl; lengths = refl; nexts = refl; depths = refl; kinds = refl })).1 in
              let at = onto-of rs q i l f in record {
                firsts = sym (t.firsts ∙ at (λ rs. (columns_of rs).firsts) a ∙ onto-begins k.firsts a x1.0);
                lengths = sym (t.lengths ∙ at (λ rs. (columns_of rs).lengths) b ∙ onto-begins k.lengths b x2.0);
                nexts = sym (t.nexts ∙ at (λ rs. (columns_of rs).nexts) c ∙ onto-begins k.nexts c x3.0);
                depths = sym (t.depths ∙ at (λ rs. (columns_of rs).depths) d ∙ onto-begins k.depths d x4.0);
                kinds = sym (t.kinds ∙ at (λ rs. (columns_of rs).kinds) e ∙ onto-begins k.kinds e x4.1);
              }
