-- What is refused of image resource sections, over the grammar. Assumes nothing.
use Prim.Native.Nat.{ℕ, suc, ◌+◌, ◌-◌, ◌%◌, ◌^◌, ◌≤◌, ◌<◌}
use mathlib.Core.Path.{◌≡◌, refl, sym, ap, ◌∙◌, subst}
use mathlib.Core.List.{List, [], ◌∷◌, ◌++◌}
use lib.ListN.{length, take, length-append}
use lib.Seq.{length-take-le}
use borrow.Author.Tests.{le-leb, lt-leb, ne_eqb}
use native.Mathlib.Omega.{arith}
use native.Mathlib.Nat.{zero-add}
use Rattle.algebra.specs.Chars.{chars}
use Rattle.algebra.specs.Numbers.{be, At, Bytes, All}
use Rattle.algebra.specs.Reader.{Reader, ok, refuse, field, give, ◌>>=◌, at_end}
use Rattle.algebra.specs.Cut.{total, not_whole, Stub, Cuts, Spans}
use Rattle.algebra.proofs.Places.{length-be, at-whole, bytes-append}
use Rattle.algebra.proofs.Cuts.{bytes_take, step_cut, judged-cuts, field-cuts, number-spans, mark-cuts, whole_here}
use Rattle.algebra.proofs.Laws.{body-short}
use Rattle.algebra.proofs.Sequence.{field-exact}
use Rattle.algebra.proofs.Tails.{Tail, tail-left, tail-after}
use Rattle.algebra.proofs.Until.{until-stops, end-going}
use Rattle.resource.specs.Grammar.{Block, name_bytes, block_bytes, section_bytes, Allowed, Section, section}
use Rattle.resource.specs.Reading.{Part, Entry, block_of, block_part, zeroed, padded_part, sized_part, block, blocks, resources}
use Rattle.resource.specs.Widths.{block_widths}
use Rattle.resource.specs.Damaged.{DamagedBlock, signature_cut, wrong_signature, id_cut, wrong_name, wrong_payload, Damaged, wrong_block}
use Rattle.resource.proofs.Laws.{Counted, counted_bytes, length-counted, block-parts, bytes-block, bytes-section, run-exact, counted-exact}
use Rattle.resource.proofs.Whole.{same, in-allowed, block-some, few-blocks, item}
use Rattle.resource.proofs.Turns.{block-stops}

-- a section that is longer than the limit is 1 at 0, whatever stands in it
pub long-refused : (s : List ℕ) → 16777216 < length s → resources s ≡ refuse 1 0 0 0
unfolding resources
long-refused s more = simp (lt-leb (length s) 16777216 more)

-- ---- allowed blocks, and then one that is refused

module _ (s : List ℕ) (bytes : Bytes s) (bs : List Block) (x : List ℕ) (fit : All (λ i b. Allowed b) 0 bs) (t : Tail s 0 (section_bytes bs ++ x)) (some : 0 < length x) where
  next-refused : {z p : ℕ} → block s (length (section_bytes bs)) ≡ refuse z p 0 0 → blocks s 0 ≡ refuse z p 0 0
  next-refused {z} {p} e =
      let l = length-append (section_bytes bs) x in
      let more : 0 + length (section_bytes bs) ≡ length (section_bytes bs) = zero-add (length (section_bytes bs)) in
      until-stops at_end same same block_of (λ u e. refl) {p = λ u. block} {Ok = λ u. Allowed} (item s bytes) (suc (length s)) tt 0 bs (omega (arith, few-blocks bs, t.ends, l)) (in-allowed 0 bs fit)
      (end-going same block_bytes (λ u. Allowed) block-some s tt 0 bs (in-allowed 0 bs fit) (omega (arith, t.ends, l))) (ne_eqb (0 + length (section_bytes bs)) (length s) (λ z. omega (arith, t.ends, l)))
      (tail-left s 0 (section_bytes bs) x t) (ap (block s) more ∙ e)

damaged-some : {x : List ℕ} {z p : ℕ} → DamagedBlock x z p → 0 < length x
damaged-some (signature_cut x some few) = some
damaged-some (wrong_signature v x small other) = omega (arith, length-append (be 4 v) x, length-be 4 v)
damaged-some (id_cut x few) = omega (arith, length-append (be 4 (chars "8BIM")) x, length-be 4 (chars "8BIM"))
damaged-some (wrong_name i x z p small d) = omega (arith, length-append (be 4 (chars "8BIM")) (be 2 i ++ x), length-be 4 (chars "8BIM"))
damaged-some (wrong_payload i us x z p small letters b d) = omega (arith, length-append (be 4 (chars "8BIM")) (be 2 i ++ (name_bytes us ++ x)), length-be 4 (chars "8BIM"))

-- every damaged section is refused by its number, at its place
pub damaged-refused : {b : List ℕ} {z p : ℕ} → Damaged b z p → Bytes b → length b ≤ 16777216 → resources b ≡ refuse z p 0 0
unfolding resources
damaged-refused (wrong_block bs x z p fit d) bytes short =
    let s : List ℕ = section_bytes bs ++ x in
    let t : Tail s 0 s = record { stands = at-whole s; ends = sym (zero-add (length s)) } in
    simp (le-leb (length s) 16777216 short) (next-refused s bytes bs x fit t (damaged-some d) (block-stops s bytes (length (section_bytes bs)) d (tail-after s 0 (section_bytes bs) x (length (section_bytes bs)) (zero-add (length (section_bytes bs))) t)))

-- ---- a section that is cut

module _ (s : List ℕ) (bytes : Bytes s) where
  field-reads : (w at v : ℕ) → v < 256 ^ w → At s at (be w v) → field w s at ≡ ok v (at + length (be w v))
  field-reads w at v small h = let r = (field-exact s bytes w).reads at v small h in r.1 ∙ ap (λ (k : ℕ). ok k (at + length (be w v))) r.2

  run-cut : (at : ℕ) (l : List ℕ) → Stub s at l → block_part (length l) s at ≡ refuse 2 (not_whole (length l ∷ []) at (length s)) 0 0
  unfolding block_part
  run-cut at l h = rw (body-short 1 s at (length l) (omega (arith, h.short, h.inside))) (ap (λ (k : ℕ). refuse 2 k 0 0) (sym (whole_here (length l) [] at (length s) h.short)))

  abbrev countedWidths : ℕ → ℕ → List ℕ → List ℕ
  countedWidths w k l = w ∷ length l ∷ (k + length l) % 2 ∷ []

  followed-cut : (k at : ℕ) (l : List ℕ) → Bytes l → Stub s at (l ++ be ((k + length l) % 2) 0) → padded_part k (length l) s at ≡ refuse 2 (not_whole (length l ∷ (k + length l) % 2 ∷ []) at (length s)) 0 0
  unfolding padded_part total
  followed-cut k at l b h =
      let z : ℕ = (k + length l) % 2 in
      step_cut s at (block_part (length l) s at) _ l (be z 0) (length l ∷ []) (z ∷ []) (omega arith) (run-cut at l)
      (λ x y. rw ((run-exact s bytes (length l)).reads at l (refl, b) x).1 (rw ((judged-cuts s z {Ok = λ v. Unit {0}} zeroed).cut (at + length l) 0 tt y))) h

  counted-cuts : (w k : ℕ) → Cuts s (sized_part w k) (Counted w) (counted_bytes w k) (countedWidths w k)
  counted-cuts w k = record {
    cut = λ at l fit h.
        let n : ℕ = length l in
        let z : ℕ = (k + n) % 2 in
        step_cut s at (field w s at) _ (be w n) (l ++ be z 0) (w ∷ []) (n ∷ z ∷ []) ((number-spans w {Ok = λ v. Unit {0}}).span n tt) ((field-cuts s w {Ok = λ v. Unit {0}}).cut at n tt)
        (λ x y. rw (field-reads w at n fit.0 x) (followed-cut k (at + length (be w n)) l fit.1 y)) h;
  }

  counted-spans : (w k : ℕ) → Spans (Counted w) (counted_bytes w k) (countedWidths w k)
  unfolding total
  counted-spans w k = record { span = λ l fit. omega (arith, length-counted w k l) }

  -- a block behind its name, behind its ID, behind its signature
  abbrev last_of : ℕ → Part → Reader Entry
  last_of i nm = sized_part 4 0 >>= (λ l. give {A = Entry} (record { id = i; name = nm; payload = l }))

  abbrev middle_of : ℕ → Reader Entry
  middle_of i = sized_part 1 1 >>= last_of i

  abbrev head_of : Reader Entry
  head_of = field 2 >>= middle_of

  last-cuts : (i : ℕ) (nm : Part) → Cuts s (last_of i nm) Allowed (λ b. counted_bytes 4 0 b.payload) (λ b. countedWidths 4 0 b.payload)
  last-cuts i nm = record { cut = λ at b fit h. rw ((counted-cuts 4 0).cut at b.payload (fit.size, fit.payload) h) }

  middle-cuts : (i : ℕ) → Cuts s (middle_of i) Allowed (λ b. counted_bytes 1 1 b.name ++ counted_bytes 4 0 b.payload) (λ b. countedWidths 1 1 b.name ++ countedWidths 4 0 b.payload)
  middle-cuts i = record {
    cut = λ at b fit h.
        let x : List ℕ = counted_bytes 1 1 b.name in
        let y : List ℕ = counted_bytes 4 0 b.payload in
        step_cut s at (sized_part 1 1 s at) (λ nm q. last_of i nm s q) x y (countedWidths 1 1 b.name) (countedWidths 4 0 b.payload) ((counted-spans 1 1).span b.name (fit.letters, fit.name)) ((counted-cuts 1 1).cut at b.name (fit.letters, fit.name))
        (λ u v. let r = (counted-exact s bytes 1 1).reads at b.name (fit.letters, fit.name) u in rw r.1 ((last-cuts i r.0).cut (at + length x) b fit v)) h;
  }

  head-cuts : Cuts s head_of Allowed (λ b. be 2 b.id ++ (counted_bytes 1 1 b.name ++ counted_bytes 4 0 b.payload)) (λ b. 2 ∷ (countedWidths 1 1 b.name ++ countedWidths 4 0 b.payload))
  head-cuts = record {
    cut = λ at b fit h.
        let i : ℕ = b.id in
        step_cut s at (field 2 s at) (λ i q. middle_of i s q) (be 2 i) (counted_bytes 1 1 b.name ++ counted_bytes 4 0 b.payload) (2 ∷ []) (countedWidths 1 1 b.name ++ countedWidths 4 0 b.payload) ((number-spans 2 {Ok = λ v. Unit {0}}).span i tt) ((field-cuts s 2 {Ok = λ v. Unit {0}}).cut at i tt)
        (λ u v. rw (field-reads 2 at i fit.id u) ((middle-cuts i).cut (at + length (be 2 i)) b fit v)) h;
  }

  block_cut : (at : ℕ) (b : Block) → Allowed b → Stub s at (block_bytes b) → block s at ≡ refuse 2 (not_whole (block_widths b) at (length s)) 0 0
  unfolding block
  block_cut at b fit h =
      let n : ℕ = length b.payload in
      let e : countedWidths 4 0 b.payload ≡ 4 ∷ n ∷ n % 2 ∷ [] = ap (λ (k : ℕ). 4 ∷ n ∷ k % 2 ∷ []) (zero-add n) in
      (mark-cuts s bytes 4 (chars "8BIM") (omega arith) head-cuts).cut at b fit (subst (λ (l : List ℕ). Stub s at l) (block-parts b) h)
      ∙ ap (λ (l : List ℕ). refuse 2 (not_whole (4 ∷ 2 ∷ (countedWidths 1 1 b.name ++ l)) at (length s)) 0 0) e

-- a section cut inside a block is 2 at the first of the block's fields that is not whole; cut behind a block, it is a section
pub cut-refused : {bs : List Block} {l : List ℕ} → Section bs l → (b : Block) → Allowed b → (c : ℕ) → 0 < c → c < length (block_bytes b) → length l + c ≤ 16777216
    → resources (l ++ take c (block_bytes b)) ≡ refuse 2 (not_whole (block_widths b) (length l) (length l + c)) 0 0
unfolding resources
cut-refused (section {bs} fit short) b allowed c some few fits =
    let l : List ℕ = section_bytes bs in
    let x : List ℕ = take c (block_bytes b) in
    let s : List ℕ = l ++ x in
    let lx : length x ≡ c = length-take-le c (block_bytes b) (omega arith) in
    let ls : length s ≡ length l + c = omega (arith, length-append l x) in
    let bytes : Bytes s = bytes-append l x (bytes-section 0 bs fit) (bytes_take c (block_bytes b) (bytes-block b allowed)) in
    let t : Tail s 0 s = record { stands = at-whole s; ends = sym (zero-add (length s)) } in
    let u : Tail s (length l) x = tail-after s 0 l x (length l) (zero-add (length l)) t in
    let m : length s - length l ≡ c = omega arith in
    let h : Stub s (length l) (block_bytes b) = record { inside = omega arith; short = omega arith; begun = subst (λ (k : ℕ). At s (length l) (take k (block_bytes b))) (sym m) u.stands } in
    simp (le-leb (length s) 16777216 (omega arith)) (next-refused s bytes bs x fit t (omega arith) (block_cut s bytes (length l) b allowed h) ∙ ap (λ (k : ℕ). refuse 2 (not_whole (block_widths b) (length l) k) 0 0) ls)
