-- Members are read as the rows of a tree exactly where the bytes of the tree stand. Assumes nothing.
use Prim.Native.Nat.{ℕ, zero, suc, ◌+◌, ◌-◌, ◌≤◌}
use mathlib.Core.Path.{◌≡◌, refl, sym, ap, ap₂, ◌∙◌, subst}
use mathlib.Core.List.{List, [], ◌∷◌, ◌++◌}
use lib.ListN.{length}
use native.Mathlib.Omega.{arith}
use native.Mathlib.Nat.{add-zero}
use Rattle.algebra.specs.Numbers.{At, Bytes}
use Rattle.algebra.specs.Reader.{Reader, ok, refuse}
use Rattle.algebra.proofs.Places.{at_in, at_left, at_right, at_next}
use Rattle.algebra.proofs.Inverse.{clash, then-inv, ok-value, ok-place}
use Rattle.descriptor.specs.Reading.{Row, siblings, item}
use Rattle.descriptor.proofs.Refused.{deep-item-refused, deep-pair-refused, deep-form-refused, deep-column-refused}
use Rattle.descriptor_tree.specs.Tree.{Members, none, one, count, head, bytes, rows, Place, Member, Allowed}
use Rattle.descriptor_tree.proofs.Tiling.{bytes_one}
use Rattle.descriptor_tree.proofs.Heads.{reader, row_of}
use Rattle.descriptor_tree.proofs.Member.{one-whole, one-sound}

-- ---- one member, and those after it

pub siblings-step : (f : ℕ → Reader (List Row)) (s : List ℕ) (n k lo e end : ℕ) (rs qs : List Row) → f k s lo ≡ ok rs e → siblings f n (k + length rs) s e ≡ ok qs end → siblings f (suc n) k s lo ≡ ok (rs ++ qs) end
unfolding siblings
siblings-step f s n k lo e end rs qs h g = rw h (rw g)

pub siblings-inv : (f : ℕ → Reader (List Row)) (s : List ℕ) (n k lo : ℕ) {rs : List Row} {end : ℕ} → siblings f (suc n) k s lo ≡ ok rs end
    → (xs : List Row) × (e : ℕ) × (ys : List Row) × (f k s lo ≡ ok xs e) × (siblings f n (k + length xs) s e ≡ ok ys end) × (xs ++ ys ≡ rs)
unfolding siblings
siblings-inv f s n k lo h =
    let t = then-inv (f k s lo) _ h in
    let u = then-inv (siblings f n (k + length t.0) s t.1) _ t.3 in
    (t.0, t.1, u.0, t.2, u.2 ∙ ap (λ (z : ℕ). ok u.0 z) (ok-place u.3), ok-value u.3)

-- the row as it is read, and as the tree has it
pub row_same : (kind left d p lo n v e : ℕ) → suc left + d ≡ 33 → lo + n ≡ e → row_of kind left p lo v e ≡ record { kind = kind; parent = p; first = lo; size = n; depth = d; value = v }
row_same kind left d p lo n v e h q =
    let a : e - lo ≡ n = omega arith in
    let b : 32 - left ≡ d = omega arith in
    rw (a, b)

-- ---- the bytes of a tree are read as its rows

module _ (s : List ℕ) (octets : Bytes s) where
  pub forest-whole : (m : Members) (c : Place) (left d p k lo : ℕ) → left + d ≡ 33 → Allowed c d m → At s lo (bytes m)
      → siblings (reader c left p) (count m) k s lo ≡ ok (rows d p k lo m) (lo + length (bytes m))
  unfolding siblings rows bytes
  forest-whole none c left d p k lo h a t = ap (λ (z : ℕ). ok [] z) (sym (add-zero lo))
  forest-whole (one key kind fields children rest) c zero d p k lo h a t = absurd (omega (arith, a.1))
  forest-whole (one key kind fields children rest) c (suc left) d p k lo h a t =
      let hd : List ℕ = head key kind fields in
      let n : ℕ = length hd + length (bytes children) in
      let below : List Row = rows (d + 1) k (k + 1) (lo + length hd) children in
      let row : Row = record { kind = kind; parent = p; first = lo; size = n; depth = d; value = lo + length key + 4 } in
      let mid : lo + length hd + length (bytes children) ≡ lo + n = omega arith in
      let tr = at_right s lo hd (bytes children ++ bytes rest) t in
      let x = forest-whole children a.0 left (d + 1) k (k + 1) (lo + length hd) (omega arith) a.3 (at_left s (lo + length hd) (bytes children) (bytes rest) tr) in
      let y = one-whole s octets left k p lo a.2 (ok below (lo + n)) (at_left s lo hd (bytes children ++ bytes rest) t) (x ∙ ap (λ (z : ℕ). ok below z) mid) in
      let y' : reader c (suc left) p k s lo ≡ ok (row ∷ below) (lo + n) = y ∙ ap (λ (r : Row). ok (r ∷ below) (lo + n)) (row_same kind left d p lo n (lo + length key + 4) (lo + n) h refl) in
      let next : k + 1 + length below ≡ k + length (row ∷ below) = omega arith in
      let v = forest-whole rest c (suc left) d p (k + 1 + length below) (lo + n) h a.4 (subst (λ (z : ℕ). At s z (bytes rest)) mid (at_right s (lo + length hd) (bytes children) (bytes rest) tr)) in
      let more : List Row = rows d p (k + 1 + length below) (lo + n) rest in
      let end : lo + n + length (bytes rest) ≡ lo + length (bytes (one key kind fields children rest)) = omega (arith, bytes_one key kind fields children rest) in
      siblings-step (reader c (suc left) p) s (count rest) k lo (lo + n) (lo + n + length (bytes rest)) (row ∷ below) more y'
      (ap (λ (z : ℕ). siblings (reader c (suc left) p) (count rest) z s (lo + n)) (sym next) ∙ v)
      ∙ ap (λ (z : ℕ). ok (row ∷ (below ++ more)) z) end

-- ---- and back

-- a tree of n members that stands from lo to e, and its rows
pub record Found (s : List ℕ) (c : Place) (d p n k lo e : ℕ) (rs : List Row) : Type 0 where
  pub tree : Members
  pub allowed : Allowed c d tree
  pub number : count tree ≡ n
  pub stands : At s lo (bytes tree)
  pub ends : lo + length (bytes tree) ≡ e
  pub reads : rows d p k lo tree ≡ rs

abbrev Finds : List ℕ → ℕ → Type 0
Finds s left = (c : Place) (d p n k lo e : ℕ) (rs : List Row) → left + d ≡ 33 → lo ≤ length s → siblings (reader c left p) n k s lo ≡ ok rs e → Found s c d p n k lo e rs

nothing : (s : List ℕ) (c : Place) (left d p k lo e : ℕ) (rs : List Row) → lo ≤ length s → siblings (reader c left p) 0 k s lo ≡ ok rs e → Found s c d p 0 k lo e rs
unfolding siblings rows bytes At
nothing s c left d p k lo e rs le h = record { tree = none; allowed = tt; number = refl; stands = le; ends = add-zero lo ∙ ok-place h; reads = ok-value h }

-- rows that are the same, and those after them
then_same : (d p k i j : ℕ) (xs ys : List Row) (m : Members) → xs ≡ ys → i ≡ j → xs ++ rows d p (k + length xs) i m ≡ ys ++ rows d p (k + length ys) j m
then_same d p k i j xs ys m h g = rw (h, g)

module _ (s : List ℕ) (octets : Bytes s) (left : ℕ) (deeper : Finds s left) (c : Place) (d p : ℕ) (level : suc left + d ≡ 33) where
  level-finds : (n k lo e : ℕ) (rs : List Row) → lo ≤ length s → siblings (reader c (suc left) p) n k s lo ≡ ok rs e → Found s c d p n k lo e rs
  unfolding rows bytes
  level-finds zero k lo e rs le h = nothing s c (suc left) d p k lo e rs le h
  level-finds (suc n) k lo e rs le h =
      let u = siblings-inv (reader c (suc left) p) s n k lo h in
      let mid : ℕ = u.1 in
      let r = one-sound s octets left k p lo c mid u.0 le u.3 in
      let hd : List ℕ = head r.key r.kind r.fields in
      let x = deeper r.below (d + 1) k r.number (k + 1) (lo + length hd) mid r.kids (omega (arith, level)) (at_in s lo hd r.stands) r.children in
      let kb : List ℕ = bytes x.tree in
      let y = level-finds n (k + length u.0) mid e u.2 (omega (arith, at_in s (lo + length hd) kb x.stands, x.ends)) u.4 in
      let rb : List ℕ = bytes y.tree in
      let size : ℕ = length hd + length kb in
      let v : ℕ = lo + length r.key + 4 in
      let row : Row = record { kind = r.kind; parent = p; first = lo; size = size; depth = d; value = v } in
      let below : List Row = rows (d + 1) k (k + 1) (lo + length hd) x.tree in
      let w : row_of r.kind left p lo v mid ≡ row = row_same r.kind left d p lo size v mid level (omega (arith, x.ends)) in
      let g : row ∷ below ≡ u.0 = ap₂ (λ (a : Row) (l : List Row). a ∷ l) (sym w) x.reads ∙ r.rows in
      let next : k + 1 + length below ≡ k + length (row ∷ below) = omega arith in
      record {
        tree = one r.key r.kind r.fields x.tree y.tree;
        allowed = (r.below, omega (arith, level), subst (λ (i : ℕ). Member c r.key r.kind r.below i r.fields) (sym x.number) r.may, x.allowed, y.allowed);
        number = ap suc y.number;
        stands = at_next s lo hd (kb ++ rb) (lo + length hd) refl r.stands (at_next s (lo + length hd) kb rb mid x.ends x.stands y.stands);
        ends = omega (arith, bytes_one r.key r.kind r.fields x.tree y.tree, x.ends, y.ends);
        reads = ap (λ (i : ℕ). (row ∷ below) ++ rows d p i (lo + size) y.tree) next ∙ then_same d p k (lo + size) mid (row ∷ below) u.0 y.tree g (omega (arith, x.ends)) ∙ ap (λ (l : List Row). u.0 ++ l) y.reads ∙ u.5;
      }

-- with no level left
pub too_deep : (s : List ℕ) (c : Place) (p k lo : ℕ) → reader c 0 p k s lo ≡ refuse 10 lo 0 0
too_deep s Place.items p k lo = deep-item-refused s lo p k lo
too_deep s Place.pairs p k lo = deep-pair-refused s lo (item 0) p k
too_deep s Place.forms p k lo = deep-form-refused s lo p k
too_deep s Place.nowhere p k lo = refl
too_deep s (Place.columns m) p k lo = deep-column-refused s lo m p k

pub forest-sound : (s : List ℕ) → Bytes s → (left : ℕ) → Finds s left
forest-sound s octets zero c d p zero k lo e rs h le q = nothing s c 0 d p k lo e rs le q
forest-sound s octets zero c d p (suc n) k lo e rs h le q =
    let u = siblings-inv (reader c 0 p) s n k lo q in
    clash (sym (too_deep s c p k lo) ∙ u.3)
forest-sound s octets (suc left) c d p n k lo e rs h le q = level-finds s octets left (forest-sound s octets left) c d p h n k lo e rs le q
