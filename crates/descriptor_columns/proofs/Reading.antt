-- The columns of a whole file, and what reading answers. Assumes nothing.
use Prim.Native.Nat.{ℕ, suc, ◌≤◌}
use mathlib.Core.Path.{◌≡◌, refl, sym, ap, ◌∙◌}
use mathlib.Core.List.{List, [], ◌∷◌}
use mathlib.Core.Bool.{Bool, true, false}
use lib.Dec.{leb}
use lib.ListN.{length, set}
use borrow.Author.Tests.{leb-true}
use native.Mathlib.Omega.{arith}
use Rattle.algebra.specs.Reader.{Res, ok, refuse, pick, field, judged, until, map_res, limit}
use Rattle.algebra.proofs.Inverse.{then-inv, pick_inv, ended-inv, judged-inv, ok-value}
use Rattle.descriptor.specs.Reading.{Row, class, version, descriptor}
use Rattle.descriptor.proofs.Ends.{accepted}
use Rattle.descriptor.proofs.Rows.{rows-laid}
use Rattle.descriptor_judge.specs.Answer.{Verdict, verdict}
use Rattle.descriptor_judge.specs.Answer as A
use Rattle.descriptor_heads.specs.Heads.{Due, Head, Opened, over, next_head, settled, after, root_head, whole_heads, file_heads}
use Rattle.descriptor_heads.specs.Rows.{heads_of, rows_of}
use Rattle.descriptor_heads.proofs.Past.{root-past}
use Rattle.descriptor_heads.proofs.Theorem.{rows_are}
use Rattle.descriptor_raw.specs.Raw.{due_of, Sees}
use Rattle.descriptor_raw.specs.declared.RawHead.{RawHead}
use Rattle.descriptor_columns.specs.Columns.{columns_of, values_of}
use Rattle.descriptor_columns.specs.Filled.{fits, answered, onto, filled, Read, valued}
use Rattle.descriptor_columns.specs.scaffold.Filling.{Entry, first_in, length_in, next_in, depth_in, kind_in, value_in, mark, puts, shuts, whole, column, heads_in, Begun, behind, rest, Done, Rooted, stored, Whole}
use Rattle.descriptor_columns.proofs.Stores.{puts-column}
use Rattle.descriptor_columns.proofs.Given.{count-given, firsts-given, lengths-given, depths-given, kinds-given, values-given, nexts-given}

heads-length : (os : List Opened) → length (heads_of os) ≡ length os
heads-length [] = refl
heads-length (o ∷ os) = ap suc (heads-length os)

-- ---- the root

-- its head is the file's first
pub record Rootly (s : List ℕ) (o : Opened) : Type 0 where
  pub first : o.head.first ≡ 0
  pub depth : o.head.depth ≡ 0
  pub value : o.head.value ≡ 4

rootly : (s : List ℕ) (o : Opened) (q : ℕ) → root_head s 0 ≡ ok o q → Rootly s o
unfolding root_head
rootly s o q e =
    let i = then-inv (judged 4 version s 0) _ e in
    let j = judged-inv 4 s 0 version i.2 in
    let t = then-inv (class s i.1) _ i.3 in
    let u = then-inv (field 4 s t.1) _ t.3 in
    let x = ok-value u.3 in
    let v : i.1 ≡ o.head.value = ap (λ (y : Opened). y.head.value) x in
    record { first = sym (ap (λ (y : Opened). y.head.first) x); depth = sym (ap (λ (y : Opened). y.head.depth) x); value = omega (arith, j.2, v) }

-- the parts of an accepted file
pub record Parts (s : List ℕ) (all : List Opened) (e : ℕ) : Type 0 where
  pub o : Opened
  pub q : ℕ
  pub os : List Opened
  pub root : root_head s 0 ≡ ok o q
  pub reads : until over after next_head (suc (length s)) (settled ((o.below, o.count) ∷ [])) s q ≡ ok os (length s)
  pub is : all ≡ o ∷ os
  pub ends : e ≡ length s
  pub size : length s ≤ 16777216
  pub inside : q ≤ length s
  pub lies : Rootly s o

pub parts : (s : List ℕ) (all : List Opened) (e : ℕ) → file_heads s ≡ ok all e → Parts s all e
unfolding file_heads whole_heads
parts s all e h =
    let i = pick_inv (leb (length s) limit) (whole_heads s 0) 1 0 0 0 h in
    let t = then-inv (root_head s 0) _ i.1 in
    let u = then-inv (until over after next_head (suc (length s)) (settled ((t.0.below, t.0.count) ∷ [])) s t.1) _ t.3 in
    let v = ended-inv (t.0 ∷ u.0) s u.1 u.3 in
    record {
      o = t.0;
      q = t.1;
      os = u.0;
      root = t.2;
      reads = u.2 ∙ ap (λ (x : ℕ). ok u.0 x) v.0;
      is = sym v.1;
      ends = sym v.2 ∙ v.0;
      size = leb-true (length s) limit i.0;
      inside = (accepted (root-past s) t.0 t.1 t.2).high;
      lies = rootly s t.0 t.1 t.2;
    }

module _ (s : List ℕ) (rows : ℕ) (r : Rooted s rows) where
  pub some : 1 ≤ rows
  some = let t = parts s r.all (length s) r.reads in let n : length r.all ≡ suc (length t.os) = ap length t.is in omega (arith, n, r.count)

  module _ (u : RawHead) (h : Sees (λ d. root_head s 0) u) where
    -- what is due behind the root's head
    waiting : (t : Parts s r.all (length s)) → heads_in (suc (length s)) (settled ((due_of u.what u.objects, u.count) ∷ [])) s u.end ≡ ok (heads_of t.os) (length s)
    waiting t =
        let x = h.sees 0 t.o t.q t.root in
        ap (λ (q : ℕ). heads_in (suc (length s)) (settled ((due_of u.what u.objects, u.count) ∷ [])) s q) x.3
        ∙ ap (λ (d : Due). heads_in (suc (length s)) (settled ((d, u.count) ∷ [])) s t.q) x.1
        ∙ ap (λ (n : ℕ). heads_in (suc (length s)) (settled ((t.o.below, n) ∷ [])) s t.q) x.2
        ∙ ap (map_res heads_of) t.reads

    pub begun : Begun s u.what u.objects u.count u.end rows
    begun =
        let t = parts s r.all (length s) r.reads in
        let x = h.sees 0 t.o t.q t.root in
        let n : length r.all ≡ suc (length t.os) = ap length t.is in
        record {
          hs = heads_of t.os;
          reads = waiting t;
          size = t.size;
          inside = omega (arith, t.inside, x.3);
          count = omega (arith, n, r.count, heads-length t.os);
          few = r.few;
        }

    -- a column stored from the root's head on
    module _ (t : Parts s r.all (length s)) where
      pub rest-is : rest s u.what u.objects u.count u.end ≡ heads_of t.os
      rest-is = ap behind (waiting t)

      from-root : (g : ℕ → ℕ → Entry) (c : List ℕ) → puts (g (length s) rows) 0 (t.o.head ∷ heads_of t.os) c ≡ stored g s (file_heads s) c
      from-root g c =
          ap (λ (n : ℕ). puts (g (length s) n) 0 (t.o.head ∷ heads_of t.os) c) (sym r.count)
          ∙ ap (λ (os : List Opened). puts (g (length s) (length r.all)) 0 (heads_of os) c) (sym t.is)
          ∙ ap (λ (m : Res (List Opened)). stored g s m c) (sym r.reads)

      -- one that heads tell
      headed : (g : Entry) (c : List ℕ) {c₁ c' : List ℕ} {v : ℕ} → g t.o.head 1 (heads_of t.os) ≡ v → c₁ ≡ set c 0 v → c' ≡ puts g 1 (rest s u.what u.objects u.count u.end) c₁ → c' ≡ stored (λ e n. g) s (file_heads s) c
      unfolding puts
      headed g c {c₁} v x y =
          y ∙ ap (λ (hs : List Head). puts g 1 hs c₁) rest-is ∙ ap (puts g 1 (heads_of t.os)) (x ∙ ap (set c 0) (sym v)) ∙ from-root (λ e n. g) c

      -- one that ends tell
      shutting : (g : ℕ → ℕ → Entry) (c : List ℕ) {c' : List ℕ} → g (length s) rows (mark 0 0) 1 (heads_of t.os) ≡ g (length s) rows t.o.head 1 (heads_of t.os)
          → c' ≡ whole (g (length s) rows) 1 (rest s u.what u.objects u.count u.end) ((0, mark 0 0) ∷ []) c → c' ≡ stored g s (file_heads s) c
      unfolding puts shuts
      shutting g c v y =
          y ∙ ap (λ (hs : List Head). whole (g (length s) rows) 1 hs ((0, mark 0 0) ∷ []) c) rest-is
          ∙ ap (λ (n : ℕ). puts (g (length s) rows) 1 (heads_of t.os) (set c 0 n)) v
          ∙ from-root g c

    -- the root's head and all that follows
    pub finished : {a b c d e a₁ d₁ e₁ a' b' c' d' e' : List ℕ} → a₁ ≡ set a 0 0 → d₁ ≡ set d 0 0 → e₁ ≡ set e 0 u.kind
        → Done s rows (rest s u.what u.objects u.count u.end) a₁ b c d₁ e₁ a' b' c' d' e' → Whole s a b c d e a' b' c' d' e'
    finished {a} {b} {c} {d} {e} xa xd xe g =
        let t = parts s r.all (length s) r.reads in
        let hd : Head = t.o.head in
        let kd : u.kind ≡ hd.kind = (h.sees 0 t.o t.q t.root).0 in
        let hs : List Head = heads_of t.os in
        record {
          firsts = headed t first_in a t.lies.first xa g.firsts;
          lengths = shutting t (λ e n. length_in e) b (ap (λ (y : ℕ). length_in (length s) (mark y 0) 1 hs) (sym t.lies.depth) ∙ ap (λ (y : ℕ). length_in (length s) (mark hd.depth y) 1 hs) (sym t.lies.first)) g.lengths;
          nexts = shutting t (λ e n. next_in n) c (ap (λ (y : ℕ). next_in rows (mark y 0) 1 hs) (sym t.lies.depth)) g.nexts;
          depths = headed t depth_in d t.lies.depth xd g.depths;
          kinds = headed t kind_in e (sym kd) xe g.kinds;
        }

    pub valued-whole : (f : List ℕ) {f₁ f' : List ℕ} → f₁ ≡ set f 0 4 → f' ≡ puts value_in 1 (rest s u.what u.objects u.count u.end) f₁ → f' ≡ stored (λ e n. value_in) s (file_heads s) f
    valued-whole f x g = let t = parts s r.all (length s) r.reads in headed t value_in f t.lies.value x g

-- ---- the answer

module _ (s : List ℕ) where
  -- what judging accepts has those heads
  pub accepts : (n : ℕ) → A.accepted n ≡ verdict (descriptor s) → Rooted s n
  accepts n e = go (file_heads s) refl (e ∙ ap verdict (rows_are s))
    where
      count_of : (rs : List Row) → A.accepted n ≡ A.accepted (length rs) → n ≡ length rs
      count_of rs e = cc

      go : (m : Res (List Opened)) → file_heads s ≡ m → A.accepted n ≡ verdict (map_res (rows_of (length s)) m) → Rooted s n
      go (ok os q) d v =
          let t = parts s os q d in
          let rs : List Row = rows_of (length s) os in
          let l = (rows-laid s rs q (rows_are s ∙ ap (map_res (rows_of (length s))) d)).count in
          let c : n ≡ length rs = count_of rs v in
          let k : length rs ≡ length os = count-given (length s) 0 (λ j. 0) (heads_of os) ∙ heads-length os in
          record { all = os; reads = d ∙ ap (λ (x : ℕ). ok os x) t.ends; count = omega (arith, c, k); few = omega (arith, c, l, t.size) }
      go (refuse x p r f) d v = let z : ◌≡◌ {A = ℕ} 0 1 = cc in absurd (omega (arith, z))

  -- what it refuses is refused, whatever the runs
  pub refused_all : (x p : ℕ) → A.refused x p ≡ verdict (descriptor s) → (cs : List (List ℕ)) → (A.refused x p ≡ answered (descriptor s) cs) × ((g : List Row → List ℕ) (c : List ℕ) → c ≡ filled g (descriptor s) cs c)
  refused_all x p v cs = go (descriptor s) v
    where
      go : (m : Res (List Row)) → A.refused x p ≡ verdict m → (A.refused x p ≡ answered m cs) × ((g : List Row → List ℕ) (c : List ℕ) → c ≡ filled g m cs c)
      go (ok rs q) v = let z : ◌≡◌ {A = ℕ} 0 1 = cc in absurd (omega (arith, z))
      go (refuse y q r f) v = (v, λ g c. refl)

  pub refuses : (x p : ℕ) → A.refused x p ≡ verdict (descriptor s) → {a b c d e : List ℕ} → (A.refused x p ≡ answered (descriptor s) (a ∷ b ∷ c ∷ d ∷ e ∷ [])) × Read s a b c d e a b c d e
  refuses x p v {a} {b} {c} {d} {e} =
      let i = refused_all x p v (a ∷ b ∷ c ∷ d ∷ e ∷ []) in (
        i.0,
        record {
          firsts = i.1 (λ rs. (columns_of rs).firsts) a;
          lengths = i.1 (λ rs. (columns_of rs).lengths) b;
          nexts = i.1 (λ rs. (columns_of rs).nexts) c;
          depths = i.1 (λ rs. (columns_of rs).depths) d;
          kinds = i.1 (λ rs. (columns_of rs).kinds) e;
        },
      )

  pub refuses-values : (x p : ℕ) → A.refused x p ≡ verdict (descriptor s) → (f : List ℕ) → ◌≡◌ {A = Verdict × List ℕ} (A.refused x p, f) (valued s f)
  refuses-values x p v f = let i = refused_all x p v (f ∷ []) in ap (λ (y : Verdict). (y, f)) i.0 ∙ ap (λ (y : List ℕ). (answered (descriptor s) (f ∷ []), y)) (i.1 values_of f)

  module _ (n : ℕ) (r : Rooted s n) where
    rs : List Row
    rs = rows_of (length s) r.all

    reads : descriptor s ≡ ok rs (length s)
    unfolding rs
    reads = rows_are s ∙ ap (map_res (rows_of (length s))) r.reads

    same : length (heads_of r.all) ≡ n
    same = heads-length r.all ∙ r.count

    count : length rs ≡ n
    unfolding rs
    count = count-given (length s) 0 (λ j. 0) (heads_of r.all) ∙ same

    -- with too little room
    pub short-all : (cs : List (List ℕ)) → false ≡ fits n cs → (A.refused 11 0 ≡ answered (descriptor s) cs) × ((g : List Row → List ℕ) (c : List ℕ) → c ≡ filled g (descriptor s) cs c)
    short-all cs h =
        let f : fits (length rs) cs ≡ false = ap (λ (j : ℕ). fits j cs) count ∙ sym h in (
          sym (ap (λ (m : Res (List Row)). answered m cs) reads ∙ ap (λ (y : Bool). pick y (A.accepted (length rs)) (A.refused 11 0)) f),
          λ g c. sym (ap (λ (m : Res (List Row)). filled g m cs c) reads ∙ ap (λ (y : Bool). pick y (onto (g rs) c) c) f),
        )

    -- with room
    enough-all : (cs : List (List ℕ)) → true ≡ fits n cs → (A.accepted n ≡ answered (descriptor s) cs) × ((g : List Row → List ℕ) (c : List ℕ) → onto (g rs) c ≡ filled g (descriptor s) cs c)
    enough-all cs h =
        let f : fits (length rs) cs ≡ true = ap (λ (j : ℕ). fits j cs) count ∙ sym h in (
          sym (ap (λ (m : Res (List Row)). answered m cs) reads ∙ ap (λ (y : Bool). pick y (A.accepted (length rs)) (A.refused 11 0)) f ∙ ap A.accepted count),
          λ g c. sym (ap (λ (m : Res (List Row)). filled g m cs c) reads ∙ ap (λ (y : Bool). pick y (onto (g rs) c) c) f),
        )

    -- a stored column is the rows'
    as-column : (g : ℕ → ℕ → Entry) (col : List Row → List ℕ) (c : List ℕ) → n ≤ length c → column (g (length s) n) 0 (heads_of r.all) ≡ col rs → stored g s (file_heads s) c ≡ onto (col rs) c
    as-column g col c l e =
        ap (λ (m : Res (List Opened)). stored g s m c) r.reads
        ∙ ap (λ (j : ℕ). puts (g (length s) j) 0 (heads_of r.all) c) r.count
        ∙ puts-column (g (length s) n) (heads_of r.all) c (omega (arith, l, same))
        ∙ ap (λ (x : List ℕ). onto x c) e

    pub short : {a b c d e : List ℕ} → false ≡ fits n (a ∷ b ∷ c ∷ d ∷ e ∷ []) → (A.refused 11 0 ≡ answered (descriptor s) (a ∷ b ∷ c ∷ d ∷ e ∷ [])) × Read s a b c d e a b c d e
    short {a} {b} {c} {d} {e} h =
        let i = short-all (a ∷ b ∷ c ∷ d ∷ e ∷ []) h in (
          i.0,
          record {
            firsts = i.1 (λ rs. (columns_of rs).firsts) a;
            lengths = i.1 (λ rs. (columns_of rs).lengths) b;
            nexts = i.1 (λ rs. (columns_of rs).nexts) c;
            depths = i.1 (λ rs. (columns_of rs).depths) d;
            kinds = i.1 (λ rs. (columns_of rs).kinds) e;
          },
        )

    pub enough : {a b c d e a' b' c' d' e' : List ℕ} → true ≡ fits n (a ∷ b ∷ c ∷ d ∷ e ∷ []) → n ≤ length a → n ≤ length b → n ≤ length c → n ≤ length d → n ≤ length e
        → Whole s a b c d e a' b' c' d' e' → (A.accepted n ≡ answered (descriptor s) (a ∷ b ∷ c ∷ d ∷ e ∷ [])) × Read s a b c d e a' b' c' d' e'
    unfolding rs
    enough {a} {b} {c} {d} {e} h la lb lc ld le w =
        let i = enough-all (a ∷ b ∷ c ∷ d ∷ e ∷ []) h in
        let hs : List Head = heads_of r.all in (
          i.0,
          record {
            firsts = w.firsts ∙ as-column (λ e n. first_in) (λ rs. (columns_of rs).firsts) a la (firsts-given (length s) 0 (λ j. 0) hs) ∙ i.1 (λ rs. (columns_of rs).firsts) a;
            lengths = w.lengths ∙ as-column (λ e n. length_in e) (λ rs. (columns_of rs).lengths) b lb (lengths-given (length s) 0 (λ j. 0) hs) ∙ i.1 (λ rs. (columns_of rs).lengths) b;
            nexts =
                w.nexts ∙ as-column (λ e n. next_in n) (λ rs. (columns_of rs).nexts) c lc (ap (λ (j : ℕ). column (next_in j) 0 hs) (sym count) ∙ nexts-given (length s) (length rs) 0 (λ j. 0) hs) ∙ i.1 (λ rs. (columns_of rs).nexts) c;
            depths = w.depths ∙ as-column (λ e n. depth_in) (λ rs. (columns_of rs).depths) d ld (depths-given (length s) 0 (λ j. 0) hs) ∙ i.1 (λ rs. (columns_of rs).depths) d;
            kinds = w.kinds ∙ as-column (λ e n. kind_in) (λ rs. (columns_of rs).kinds) e le (kinds-given (length s) 0 (λ j. 0) hs) ∙ i.1 (λ rs. (columns_of rs).kinds) e;
          },
        )

    pub short-values : (f : List ℕ) → false ≡ fits n (f ∷ []) → ◌≡◌ {A = Verdict × List ℕ} (A.refused 11 0, f) (valued s f)
    short-values f h = let i = short-all (f ∷ []) h in ap (λ (y : Verdict). (y, f)) i.0 ∙ ap (λ (y : List ℕ). (answered (descriptor s) (f ∷ []), y)) (i.1 values_of f)

    pub enough-values : (f : List ℕ) {f' : List ℕ} → true ≡ fits n (f ∷ []) → n ≤ length f → f' ≡ stored (λ e n. value_in) s (file_heads s) f → ◌≡◌ {A = Verdict × List ℕ} (A.accepted n, f') (valued s f)
    unfolding rs
    enough-values f {f'} h l w =
        let i = enough-all (f ∷ []) h in
        ap (λ (y : Verdict). (y, f')) i.0
        ∙ ap (λ (y : List ℕ). (answered (descriptor s) (f ∷ []), y)) (w ∙ as-column (λ e n. value_in) values_of f l (values-given (length s) 0 (λ j. 0) (heads_of r.all)) ∙ i.1 values_of f)
