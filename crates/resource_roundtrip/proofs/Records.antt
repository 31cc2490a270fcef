-- The records of a section that was read: where their bytes lie, and what a writer makes of them. Assumes nothing.
use Prim.Native.Nat.{ℕ, zero, suc, ◌+◌, ◌*◌, ◌/◌, ◌%◌, ◌≤◌}
use mathlib.Core.Path.{◌≡◌, refl, sym, ap, ap₂, ◌∙◌, subst}
use mathlib.Core.List.{List, [], ◌∷◌, ◌++◌, map}
use lib.Dec.{leb}
use lib.ListN.{length, take}
use lib.Seq.{drop_at}
use native.Mathlib.Omega.{arith}
use Rattle.algebra.specs.Chars.{chars}
use Rattle.algebra.specs.Numbers.{joined, counted, be, At, Bytes, All}
use Rattle.algebra.specs.Reader.{ok, at_end, until, limit}
use Rattle.algebra.specs.Store.{part}
use Rattle.algebra.specs.Table.{row_at}
use Rattle.algebra.proofs.Places.{at_left, at_right, at_after, at_in, at_take, length-be}
use Rattle.algebra.proofs.Inverse.{pick_inv}
use Rattle.algebra.proofs.Rows.{rows_back, length-rows, all_fit}
use Rattle.algebra.proofs.Until.{Went, stopped, spent, went, until-inv}
use Rattle.resource.specs.Grammar.{Block}
use Rattle.resource.specs.Reading.{Entry, block_of, block, blocks, resources}
use Rattle.resource.specs.Rows.{to_record, width, taken}
use Rattle.resource.specs.Tiling.{size_of}
use Rattle.resource.specs.Tiling as tiling
use Rattle.resource.proofs.Laws.{counted_bytes, length-counted, block-parts, block-exact}
use Rattle.resource.proofs.Lies.{block-lies}
use Rattle.resource.proofs.Whole.{same, block-moves}
use Rattle.resource_read.specs.Table.{entry_row}
use Rattle.resource_writing.specs.Writing.{given, block_by_row, sizes}
use Rattle.resource_roundtrip.specs.Tie.{tabled, Fitting}

-- ---- the table gives the records back

row_back : (p : List ℕ) (k : ℕ) (e : Entry) (more : List ℕ) → length p ≡ width * k → Unit {0} → taken (row_at width (p ++ (entry_row e ++ more)) k) ≡ to_record e
row_back p k e more l u = ap (λ (x : List ℕ). taken (take width x)) (drop_at p (entry_row e ++ more) (width * k) l)

pub given-rows : (es : List Entry) → given (joined entry_row es) ≡ tabled es
given-rows es =
    let n : length (joined entry_row es) ≡ width * length es = length-rows width entry_row (λ run k. taken (row_at width run k)) to_record (λ e. Unit {0}) (λ e u. refl) row_back es (all_fit 0 es) in
    let q : length (joined entry_row es) / width ≡ length es = omega arith in
    ap (λ (k : ℕ). counted (λ i. taken (row_at width (joined entry_row es) i)) k 0) q
    ∙ rows_back width entry_row (λ run k. taken (row_at width run k)) to_record (λ e. Unit {0}) (λ e u. refl) row_back es (all_fit 0 es)

-- ---- one block that was read

pub record Read (s : List ℕ) (e : Entry) : Type 0 where
  pub fits : Fitting s (to_record e)
  pub is : block_by_row s (to_record e) ≡ block_of e

block_read : (s : List ℕ) → Bytes s → (at : ℕ) → at ≤ length s → {e : Entry} {q : ℕ} → block s at ≡ ok e q → Read s e
block_read s bytes at le {e} {q} h =
    let w = (block-exact s bytes).writes at le e q h in
    let l = block-lies s at h in
    let fit = w.0 in
    let us : List ℕ = e.name.bytes in
    let ds : List ℕ = e.payload.bytes in
    let x : List ℕ = counted_bytes 1 1 us in
    let y : List ℕ = counted_bytes 4 0 ds in
    let all : At s at (be 4 (chars "8BIM") ++ (be 2 e.id ++ (x ++ y))) = subst (λ (b : List ℕ). At s at b) (block-parts (block_of e)) w.1 in
    let a4 = at_after s at (be 4 (chars "8BIM")) (be 2 e.id ++ (x ++ y)) (at + 4) (ap (λ (k : ℕ). at + k) (length-be 4 (chars "8BIM"))) all in
    let six : at + 4 + length (be 2 e.id) ≡ at + 6 = omega (arith, length-be 2 e.id) in
    let a6 = at_after s (at + 4) (be 2 e.id) (x ++ y) (at + 6) six a4 in
    let un = part-there s (at + 6) 1 1 us e.name.first (l.0.name ∙ omega arith) (at_left s (at + 6) x y a6) in
    let dn = part-there s (at + 6 + length x) 4 0 ds e.payload.first (l.0.payload ∙ where-payload x us refl) (at_right s (at + 6) x y a6) in record {
      fits = record { id = fit.id; letters = fit.letters; name = λ z. at_in s e.name.first us un.0; payload = λ z. at_in s e.payload.first ds dn.0 };
      is = ap₂ (λ (a b : List ℕ). record { id = e.id; name = a; payload = b }) un.1 dn.1;
    }
  where
    part-there : (s : List ℕ) (at w k : ℕ) (l : List ℕ) (first : ℕ) → first ≡ at + w → At s at (counted_bytes w k l) → At s first l × (part s first (length l) ≡ l)
    part-there s at w k l first e h =
        let z : List ℕ = be ((k + length l) % 2) 0 in
        let a : At s first l = at_left s first l z (at_after s at (be w (length l)) (l ++ z) first (ap (λ (n : ℕ). at + n) (length-be w (length l)) ∙ sym e) h) in
        (a, at_take s first l a)

    where-payload : (x us : List ℕ) → x ≡ counted_bytes 1 1 us → at + 6 + tiling.even (1 + length us) + 4 ≡ at + 6 + length x + 4
    where-payload x us e = omega (arith, ap length e, length-counted 1 1 us)

-- ---- each block of a section

each_read : (s : List ℕ) → Bytes s → (n at : ℕ) → at ≤ length s → (i : ℕ) (es : List Entry) (q : ℕ) → until at_end same (λ u. block) n tt s at ≡ ok es q → All (λ k e. Read s e) i es
each_read s bytes zero at le i es q e = none (until-inv at_end same (λ u. block) s zero tt at e)
  where
    none : Went at_end same (λ u. block) s zero tt at es q → All (λ k e. Read s e) i es
    none (stopped t x y) = subst (λ (l : List Entry). All (λ k e. Read s e) i l) x tt
    none (spent z x y) = subst (λ (l : List Entry). All (λ k e. Read s e) i l) x tt
    none (went m a r more small t x y z) = absurd (omega arith)
each_read s bytes (suc n) at le i es q e = go (until-inv at_end same (λ u. block) s (suc n) tt at e) (λ r w more x. each_read s bytes n r w (i + 1) more q x)
  where
    go : Went at_end same (λ u. block) s (suc n) tt at es q → ((r : ℕ) → r ≤ length s → (more : List Entry) → until at_end same (λ u. block) n tt s r ≡ ok more q → All (λ k e. Read s e) (i + 1) more) → All (λ k e. Read s e) i es
    go (stopped t x y) rec = subst (λ (l : List Entry). All (λ k e. Read s e) i l) x tt
    go (spent z x y) rec = subst (λ (l : List Entry). All (λ k e. Read s e) i l) x tt
    go (went m a r more small t x y z) rec =
        let k : m ≡ n = omega arith in
        subst (λ (l : List Entry). All (λ k e. Read s e) i l) z (block_read s bytes at le x, rec r (block-moves s at a r le x).1 more (subst (λ (j : ℕ). until at_end same (λ u. block) j tt s r ≡ ok more q) k y))

pub all_read : (s : List ℕ) → Bytes s → {es : List Entry} {q : ℕ} → resources s ≡ ok es q → All (λ k e. Read s e) 0 es
unfolding resources
all_read s bytes {es} {q} e = let i = pick_inv (leb (length s) limit) (blocks s 0) 1 0 0 0 e in each_read s bytes (suc (length s)) 0 (omega arith) 0 es q i.1

-- ---- what the writer makes of them

pub fits_all : (s : List ℕ) (i : ℕ) (es : List Entry) → All (λ k e. Read s e) i es → All (λ k r. Fitting s r) i (tabled es)
fits_all s i [] h = tt
fits_all s i (e ∷ es) h = (h.0.fits, fits_all s (i + 1) es h.1)

pub blocks-all : (s : List ℕ) (i : ℕ) (es : List Entry) → All (λ k e. Read s e) i es → map (block_by_row s) (tabled es) ≡ map block_of es
blocks-all s i [] h = refl
blocks-all s i (e ∷ es) h = ap₂ (λ (b : Block) (bs : List Block). b ∷ bs) h.0.is (blocks-all s (i + 1) es h.1)

pub sizes-all : (es : List Entry) → sizes (tabled es) ≡ tiling.sizes es
unfolding sizes tiling.sizes
sizes-all [] = refl
sizes-all (e ∷ es) = ap (λ (k : ℕ). size_of e + k) (sizes-all es)
