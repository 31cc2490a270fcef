-- The value of a row is what stands behind its member's type or form. Assumes nothing.
use Prim.Native.Nat.{ℕ, zero, suc, ◌+◌, ◌-◌, ◌≤◌, ◌<◌}
use mathlib.Core.Path.{◌≡◌, refl, sym, ap, ◌∙◌}
use mathlib.Core.List.{List, [], ◌∷◌, ◌++◌}
use lib.ListN.{length, get_or, length-append}
use native.Mathlib.Omega.{arith}
use Rattle.algebra.specs.Numbers.{be, At}
use Rattle.algebra.specs.Reader.{Res}
use Rattle.algebra.specs.Store.{part}
use Rattle.algebra.proofs.Places.{length-be, at_left, at_right, at_after, at_next, at_take}
use Rattle.descriptor.specs.Reading.{Row, descriptor}
use Rattle.descriptor_read.specs.Values.{missing, row_at, row_in, value_in}
use Rattle.descriptor_tree.specs.Tree.{Members, none, one, Descriptor, count, head, bytes, rows, member_values, root_head, file_bytes, file_rows, row_count, file_values, File}
use Rattle.descriptor_tree.proofs.Sizes.{length-head}
use Rattle.descriptor_tree.proofs.Tiling.{length-file}
use Rattle.descriptor_tree.proofs.Whole.{file-inv, file-parts, length-root}
use Rattle.descriptor_tree.proofs.RoundTrip.{allowed-reads}

-- a value for each row, of which P holds
abbrev pub Paired : (Row → List ℕ → Type 0) → List Row → List (List ℕ) → Type 0
Paired P [] [] = Unit
Paired P [] (v ∷ vs) = ⊥
Paired P (r ∷ rs) [] = ⊥
Paired P (r ∷ rs) (v ∷ vs) = P r v × Paired P rs vs

pub paired-append : (P : Row → List ℕ → Type 0) (rs qs : List Row) (vs ws : List (List ℕ)) → Paired P rs vs → Paired P qs ws → Paired P (rs ++ qs) (vs ++ ws)
paired-append P [] qs [] ws h g = g
paired-append P [] qs (v ∷ vs) ws h g = absurd h
paired-append P (r ∷ rs) qs [] ws h g = absurd h
paired-append P (r ∷ rs) qs (v ∷ vs) ws h g = (h.0, paired-append P rs qs vs ws h.1 g)

-- it stands in s from where the row says that its value begins to the row's end
abbrev pub Lies : List ℕ → Row → List ℕ → Type 0
Lies s r v = At s r.value v × (r.value + length v ≡ r.first + r.size)

module _ (s : List ℕ) where
  forest-values : (m : Members) (d p k lo : ℕ) → At s lo (bytes m) → Paired (Lies s) (rows d p k lo m) (member_values m)
  unfolding rows member_values bytes
  forest-values none d p k lo h = tt
  forest-values (one key kind fields children rest) d p k lo h =
      let hd : List ℕ = head key kind fields in
      let cs : List ℕ = bytes children in
      let n : ℕ = length hd + length cs in
      let below : List Row = rows (d + 1) k (k + 1) (lo + length hd) children in
      let hk = at_left s lo hd (cs ++ bytes rest) h in
      let hr = at_right s lo hd (cs ++ bytes rest) h in
      let hc = at_left s (lo + length hd) cs (bytes rest) hr in
      let v : ℕ = lo + length key + 4 in
      let typed = at_right s lo key (be 4 kind ++ fields) hk in
      let stands : At s v fields = at_after s (lo + length key) (be 4 kind) fields v (ap (λ (z : ℕ). lo + length key + z) (length-be 4 kind)) typed in
      let ends : v + length fields ≡ lo + length hd = omega (arith, length-head key kind fields) in
      let size : v + length (fields ++ cs) ≡ lo + n = omega (arith, length-append fields cs, length-head key kind fields) in
      let next : lo + length hd + length cs ≡ lo + n = omega arith in (
        (at_next s v fields cs (lo + length hd) ends stands hc, size),
        paired-append (Lies s) below (rows d p (k + 1 + length below) (lo + n) rest) (member_values children) (member_values rest)
            (forest-values children (d + 1) k (k + 1) (lo + length hd) hc)
            (forest-values rest d p (k + 1 + length below) (lo + n) (at_after s (lo + length hd) cs (bytes rest) (lo + n) next hr)),
      )

pub file-values : (t : Descriptor) (s : List ℕ) → s ≡ file_bytes t → Paired (Lies s) (file_rows t) (file_values t)
unfolding file_rows file_values
file-values t s e =
    let g = file-parts t s e in
    let c : List ℕ = t.class ++ be 4 (count t.pairs) in
    let m : List ℕ = bytes t.pairs in (
      (at_next s 4 c m (length (root_head t)) (sym (length-root t)) g.head g.pairs, omega (arith, length-append c m, length-root t, length-file t)),
      forest-values s t.pairs 1 0 1 (length (root_head t)) g.pairs,
    )

valued-at : (s : List ℕ) (rs : List Row) (vs : List (List ℕ)) → Paired (Lies s) rs vs → (i : ℕ) → i < length rs → value_in s (row_at i rs) ≡ get_or vs i []
valued-at s [] vs h i l = absurd (omega arith)
valued-at s (r ∷ rs) [] h i l = absurd h
valued-at s (r ∷ rs) (v ∷ vs) h zero l =
    let e : r.first + r.size - r.value ≡ length v = omega (arith, h.0.1) in
    ap (λ (n : ℕ). part s r.value n) e ∙ at_take s r.value v h.0.0
valued-at s (r ∷ rs) (v ∷ vs) h (suc i) l = valued-at s rs vs h.1 i (omega arith)

past-rows : (rs : List Row) (i : ℕ) → length rs ≤ i → row_at i rs ≡ missing 12 0
past-rows [] i h = refl
past-rows (r ∷ rs) zero h = absurd (omega arith)
past-rows (r ∷ rs) (suc i) h = past-rows rs i (omega arith)

-- the value of row i of a file is the tree's
pub value-promised : {t : Descriptor} {s : List ℕ} → File t s → (i : ℕ) → i < row_count t → value_in s (row_in i (descriptor s)) ≡ get_or (file_values t) i []
value-promised {t} {s} f i h = ap (λ (m : Res (List Row)). value_in s (row_in i m)) (allowed-reads f) ∙ valued-at s (file_rows t) (file_values t) (file-values t s (file-inv f).is) i h

-- and past the last row there is none
pub none-past : {t : Descriptor} {s : List ℕ} → File t s → (i : ℕ) → row_count t ≤ i → row_in i (descriptor s) ≡ missing 12 0
none-past {t} f i h = ap (λ (m : Res (List Row)). row_in i m) (allowed-reads f) ∙ past-rows (file_rows t) i h
