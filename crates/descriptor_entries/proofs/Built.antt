-- The theorem: the entries of an accepted file, with the file as their text, are built into that file. Assumes nothing.
use Prim.Native.Nat.{ℕ, zero, suc, ◌+◌, ◌*◌, ◌≤◌}
use mathlib.Core.Path.{◌≡◌, refl, sym, ap, ap₂, ◌∙◌, subst}
use mathlib.Core.List.{List, [], ◌∷◌, ◌++◌, map}
use lib.Dec.{leb, eqb}
use lib.ListN.{length, length-append}
use native.Mathlib.Omega.{arith}
use borrow.Author.Tests.{leb-true, eqb-true}
use Rattle.algebra.specs.Chars.{chars}
use Rattle.algebra.specs.Numbers.{num, joined, Bytes, All}
use Rattle.algebra.specs.Reader as rd
use Rattle.algebra.specs.Reader.{Res, ok, refuse, then, pick, field, judged, many, map_res, number_of, limit}
use Rattle.algebra.proofs.Inverse.{clash, ok-value, ok-place, then-inv, pick_inv, unless-fine, field-inv, judged-inv, ended-inv}
use Rattle.algebra.proofs.Places.{at_all}
use Rattle.algebra.proofs.Table.{whole_back}
use Rattle.algebra.proofs.Exact.{length-map}
use Rattle.descriptor.specs.Reading.{Row, descriptor, class, version}
use Rattle.descriptor.proofs.Ends.{accepted}
use Rattle.descriptor_heads.specs.Heads.{Due, items, pairs, Opened, Stack, over, next_head, settled, after, root_head, whole_heads, file_heads}
use Rattle.descriptor_heads.specs.Rows.{rows_of, heads_of}
use Rattle.descriptor_columns.proofs.Given.{count-given}
use Rattle.descriptor_heads.proofs.Past.{root-past}
use Rattle.descriptor_heads.proofs.Theorem.{rows_are}
use Rattle.descriptor_entry.specs.Pieces.{Piece, size, bytes}
use Rattle.descriptor_entry.specs.Shapes as sh
use Rattle.descriptor_entry.specs.Shapes.{width, Entry, number_in, kind_of, count_of, item_shape, fields_of}
use Rattle.descriptor_entry.specs.Entries.{Words, Rooted, given, root_pieces, member_pieces, root_stack, ending, pieces, ended, build_fault, made}
use Rattle.descriptor_entry.proofs.Laws.{size-append, bytes-length}
use Rattle.descriptor_entry.proofs.Meeting.{meets-number}
use Rattle.descriptor_entry.proofs.Whole.{file-meets}
use Rattle.descriptor_entry.proofs.Faultless.{AllWords}
use Rattle.descriptor_entries.specs.Taken.{put_all, blank, entry_of, members_of, entries_of, entries_in, entries}
use Rattle.descriptor_entries.specs.Answered.{numbers}
use Rattle.descriptor_entries.specs.Promise.{Builds}
use Rattle.descriptor_entries.specs.scaffold.Spans.{end_of}
use Rattle.descriptor_entries.proofs.Held.{HoldsAll, Stands, stands-append}
use Rattle.descriptor_entries.proofs.Shaped.{object-made, class-end}
use Rattle.descriptor_entries.proofs.Filled.{all_words, all-length, keyed-words}
use Rattle.descriptor_entries.proofs.Headed.{begun}
use Rattle.descriptor_entries.proofs.Members.{Sixteen, Under, under}

-- ---- the root

-- what was read of it
pub record Root (s : List ℕ) (o : Opened) (q : ℕ) : Type 0 where
  pub version : 16 ≡ num 4 s 0
  pub head : o.head ≡ record { kind = chars "Objc"; first = 0; depth = 0; value = 4 }
  pub below : o.below ≡ pairs
  pub count : o.count ≡ num 4 s (end_of s 4 ((sh.object).first ∷ (sh.object).second ∷ []))
  pub end : end_of s 4 (fields_of sh.object) ≡ q

pub root-read : (s : List ℕ) (o : Opened) (q : ℕ) → root_head s 0 ≡ ok o q → Root s o q
unfolding root_head
root-read s o q e =
    let i = then-inv (judged 4 version s 0) _ e in
    let j = judged-inv 4 s 0 version i.2 in
    let t = then-inv (class s i.1) _ i.3 in
    let u = then-inv (field 4 s t.1) _ t.3 in
    let k = field-inv 4 s t.1 u.2 in
    let p : i.1 ≡ 4 = omega (arith, j.2) in
    let c : end_of s 4 ((sh.object).first ∷ (sh.object).second ∷ []) ≡ t.1 = class-end s 4 t.1 (ap (class s) (sym p) ∙ t.2) in
    let v : i.0 ≡ 16 = eqb-true i.0 16 (unless-fine (eqb i.0 16) 3 j.3) in
    record {
      version = sym (j.1 ∙ v);
      head = sym (ap (λ (x : Opened). x.head) (ok-value u.3)) ∙ ap (λ (x : ℕ). record { kind = chars "Objc"; first = 0; depth = 0; value = x }) p;
      below = sym (ap (λ (x : Opened). x.below) (ok-value u.3));
      count = sym (ap (λ (x : Opened). x.count) (ok-value u.3)) ∙ sym k.1 ∙ ap (num 4 s) (sym c);
      end = omega (arith, c, k.2, ok-place u.3);
    }

pub object-is : item_shape (chars "Objc") ≡ sh.object
unfolding item_shape
object-is = refl

module _ (s : List ℕ) (b : Bytes s) where
  record RootTaken (o : Opened) (q : ℕ) : Type 0 where
    pub kind : kind_of (entry_of s items o.head) ≡ chars "Objc"
    pub count : root_stack (entry_of s items o.head) ≡ settled ((o.below, o.count) ∷ [])
    pub stands : Stands s 0 (root_pieces (entry_of s items o.head))
    pub end : size (root_pieces (entry_of s items o.head)) ≡ q
    pub words : length s ≤ 16777216 → Words (entry_of s items o.head)
    pub wide : length (entry_of s items o.head) ≡ 16

  root-taken : (o : Opened) (q : ℕ) → q ≤ length s → Root s o q → RootTaken o q
  unfolding entry_of root_pieces
  root-taken o q l g =
      let xs = fields_of sh.object in
      let k : ℕ = chars "Objc" in
      let e : Entry = put_all s 4 xs (blank k) in
      let same : entry_of s items o.head ≡ e = ap (entry_of s items) g.head ∙ ap (λ (x : _). put_all s 4 (fields_of x) (blank k)) object-is in
      let kd : kind_of e ≡ k = object-made.kind s 4 k 0 0 in
      let holds : HoldsAll s 4 e xs = object-made.holds s 4 k 0 0 in
      let ct : count_of e ≡ o.count = holds.1.1.0 ∙ sym g.count in
      let r = begun s b 0 sh.object e 0 16 (pick (eqb (kind_of e) (chars "Objc")) 0 4) g.version holds (omega (arith, g.end, l)) in
      record {
        kind = ap kind_of same ∙ kd;
        count = ap root_stack same ∙ ap₂ (λ (c : Due) (n : ℕ). settled ((c, n) ∷ [])) (sym g.below) ct;
        stands = subst (λ (x : Entry). Stands s 0 (root_pieces x)) (sym same) r.0;
        end = subst (λ (x : Entry). size (root_pieces x) ≡ q) (sym same) (omega (arith, r.1, g.end));
        words = λ few. subst (λ (x : Entry). Words x) (sym same) (all_words s b xs 4 (blank k) (omega (arith, g.end, l, few)) (keyed-words k 0 0 (omega arith) (omega arith) (omega arith)));
        wide = ap length same ∙ all-length s xs 4 (blank k);
      }

  -- ---- the file

  record Whole (es : List Entry) (n : ℕ) : Type 0 where
    pub root : Rooted es
    pub stands : Stands s 0 (pieces es)
    pub end : size (pieces es) ≡ length s
    pub whole : ended es ≡ 0
    pub words : length s ≤ 16777216 → AllWords es
    pub wide : All Sixteen 0 es
    pub count : length es ≡ n

  whole : (o : Opened) (q : ℕ) (os : List Opened) → q ≤ length s → RootTaken o q → Under s b (settled ((o.below, o.count) ∷ [])) q (members_of s (settled ((o.below, o.count) ∷ [])) os) (length os)
      → Whole (entries_of s (o ∷ os)) (suc (length os))
  unfolding entries_of pieces ended
  whole o q os l r g =
      let e : Entry = entry_of s items o.head in
      let st : Stack = settled ((o.below, o.count) ∷ []) in
      let es : List Entry = members_of s st os in
      let mp : List Piece = member_pieces es (root_stack e) in
      let same : mp ≡ member_pieces es st = ap (member_pieces es) r.count in
      let rest : Stands s q mp = subst (λ (x : List Piece). Stands s q x) (sym same) g.stands in
      let long : q + size mp ≡ length s = subst (λ (x : List Piece). q + size x ≡ length s) (sym same) g.end in
      record {
        root = r.kind;
        stands = stands-append s 0 (root_pieces e) mp r.stands (subst (λ (x : ℕ). Stands s x mp) (omega (arith, r.end)) rest);
        end = omega (arith, size-append (root_pieces e) mp, r.end, long);
        whole = ap (λ (x : Stack). ending es x) r.count ∙ g.whole;
        words = λ few. (r.words few, g.words few);
        wide = (r.wide, g.wide 1);
        count = ap suc g.count;
      }

  -- an accepted file
  accepted-whole : (all : List Opened) (q : ℕ) → file_heads s ≡ ok all q → Whole (entries_of s all) (length all) × (length s ≤ 16777216)
  unfolding file_heads whole_heads
  accepted-whole all q e =
      let i = pick_inv (leb (length s) limit) (rd.then (root_head s 0) _) 1 0 0 0 e in
      let t = then-inv (root_head s 0) _ i.1 in
      let o : Opened = t.0 in
      let u = then-inv (many over after next_head (settled ((o.below, o.count) ∷ [])) s t.1) _ t.3 in
      let v = ended-inv (o ∷ u.0) s u.1 u.3 in
      let p = accepted (root-past s) o t.1 t.2 in
      let g = under s b (suc (length s)) (settled ((o.below, o.count) ∷ [])) t.1 u.0 p.high (omega arith) (u.2 ∙ ap (λ (k : ℕ). ok u.0 k) v.0) in
      (subst (λ (l : List Opened). Whole (entries_of s l) (length l)) v.1 (whole o t.1 u.0 p.high (root-taken o t.1 p.high (root-read s o t.1 t.2)) g), leb-true _ _ i.0)

numbers-length : (i : ℕ) (es : List Entry) → All Sixteen i es → length (numbers es) ≡ 16 * length es
unfolding joined
numbers-length i [] h = refl
numbers-length i (e ∷ es) h = let m = numbers-length (i + 1) es h.1 in omega (arith, h.0, m, length-append e (numbers es))

-- 16 numbers a head
pub taken-length : (s : List ℕ) → Bytes s → (all : List Opened) (q : ℕ) → file_heads s ≡ ok all q → length (numbers (entries_of s all)) ≡ 16 * length all
taken-length s b all q e =
    let g = (accepted-whole s b all q e).0 in
    numbers-length 0 (entries_of s all) g.wide ∙ ap (λ (n : ℕ). 16 * n) g.count

-- ---- theorems

map_same : (es : List Entry) → map (λ (e : Entry). e) es ≡ es
map_same [] = refl
map_same (e ∷ es) = ap (λ (l : List Entry). e ∷ l) (map_same es)

words_append : (k l : List ℕ) → Words k → Words l → Words (k ++ l)
words_append [] l a w i = w i
words_append (x ∷ k) l a w zero = a 0
words_append (x ∷ k) l a w (suc i) = words_append k l (λ j. a (suc j)) w i

joined_words : (es : List Entry) → AllWords es → Words (numbers es)
unfolding joined
joined_words [] w = λ k. omega arith
joined_words (e ∷ es) w = words_append e (numbers es) w.0 (joined_words es w.1)

heads-build : (s : List ℕ) → Bytes s → (all : List Opened) (q : ℕ) → file_heads s ≡ ok all q → Builds s (length all)
heads-build s b all q e =
    let w = accepted-whole s b all q e in
    let g = w.0 in
    let is : entries s ≡ entries_of s all = ap (entries_in s) e in
    let es : List Entry = entries_of s all in
    let l : length (bytes s (pieces es)) ≡ length s = bytes-length s (pieces es) g.stands.fits ∙ g.end in
    let same : made s es ≡ s = sym (at_all s (made s es) g.stands.stands l) in
    let m = file-meets s b es g.root g.stands.fits (λ z. absurd (omega (arith, z, g.whole))) in
    let zero-fault : build_fault s es ≡ 0 = sym (meets-number m) ∙ ap (λ (x : List ℕ). number_of (file_heads x)) same ∙ ap number_of e in
    let back : given (numbers es) ≡ es = whole_back width (λ e. e) (λ e. e) (λ e. e) (λ e. length e ≡ 16) (omega arith) (λ e h. h) (λ e h. refl) es g.wide ∙ map_same es in
    record {
      count = ap length is ∙ g.count;
      faultless = ap (build_fault s) is ∙ zero-fault;
      same = ap (made s) is ∙ same;
      back = subst (λ (x : List Entry). given (numbers x) ≡ x) (sym is) back;
      words = subst (λ (x : List Entry). Words (numbers x)) (sym is) (joined_words es (g.words w.1));
    }

mapped : {A B : Type 0} (f : A → B) (m : Res A) {r : B} {q : ℕ} → map_res f m ≡ ok r q → (a : A) × (m ≡ ok a q) × (f a ≡ r)
mapped f (ok a p) e = (a, ap (λ (x : ℕ). ok a x) (ok-place e), ok-value e)
mapped f (refuse x p r g) e = clash e

-- the entries of an accepted file build it again
pub entries-build : (s : List ℕ) → Bytes s → (rs : List Row) (q : ℕ) → descriptor s ≡ ok rs q → Builds s (length rs)
entries-build s b rs q e =
    let i = mapped (rows_of (length s)) (file_heads s) (sym (rows_are s) ∙ e) in
    let n : length i.0 ≡ length rs = sym (length-map (λ (o : Opened). o.head) i.0) ∙ sym (count-given (length s) 0 (λ j. 0) (heads_of i.0)) ∙ ap length i.2 in
    subst (λ (k : ℕ). Builds s k) n (heads-build s b i.0 q i.1)
