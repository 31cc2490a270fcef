-- The entries of members that are due: their pieces stand to the end of the file, and none is missing or left over. Assumes nothing.
use Prim.Native.Nat.{ℕ, zero, suc, ◌+◌, ◌-◌, ◌≤◌, ◌<◌}
use mathlib.Core.Path.{◌≡◌, refl, sym, ap, ◌∙◌, subst}
use mathlib.Core.List.{List, [], ◌∷◌, ◌++◌}
use mathlib.Core.Bool.{Bool, true}
use lib.Dec.{leb}
use lib.ListN.{length}
use native.Mathlib.Omega.{arith}
use native.Mathlib.Nat.{add-zero}
use borrow.Author.Tests.{le-leb}
use Rattle.algebra.specs.Numbers.{Bytes, All}
use Rattle.algebra.specs.Reader.{ok, pick, until}
use Rattle.algebra.proofs.Inverse.{ok-value, ok-place, then-inv}
use Rattle.descriptor.proofs.Ends.{accepted}
use Rattle.descriptor_heads.specs.Heads.{Due, Opened, Stack, over, next_head, after, deepest, head_at, member_head}
use Rattle.descriptor_heads.proofs.Past.{head-past, head-inv}
use Rattle.descriptor_entry.specs.Pieces.{Piece, size}
use Rattle.descriptor_entry.specs.Shapes.{Entry}
use Rattle.descriptor_entry.specs.Entries.{head_pieces, next, member_pieces, ending}
use Rattle.descriptor_entry.proofs.Laws.{size-append}
use Rattle.descriptor_entry.proofs.Faultless.{AllWords}
use Rattle.descriptor_entries.specs.Taken.{entry_of, members_of}
use Rattle.descriptor_entries.proofs.Held.{Stands, stands-none, stands-append}
use Rattle.descriptor_entries.proofs.Headed.{taken, head_read, asks-same}

abbrev pub Sixteen : ℕ → Entry → Type 0
Sixteen j e = length e ≡ 16

module _ (s : List ℕ) (b : Bytes s) where
  pub record Under (st : Stack) (at : ℕ) (es : List Entry) (n : ℕ) : Type 0 where
    pub stands : Stands s at (member_pieces es st)
    pub end : at + size (member_pieces es st) ≡ length s
    pub whole : ending es st ≡ 0
    pub words : length s ≤ 16777216 → AllWords es
    pub wide : (i : ℕ) → All Sixteen i es
    pub count : length es ≡ n

  nothing : (at n : ℕ) (st : Stack) → st ≡ [] → at ≡ length s → n ≡ 0 → Under st at [] n
  unfolding member_pieces ending size
  nothing at n st z e c = record {
    stands = stands-none s at (omega (arith, e));
    end = add-zero at ∙ e;
    whole = ap (ending []) z;
    words = λ l. tt;
    wide = λ i. tt;
    count = sym c;
  }

  -- one before the others
  one : (x : Due × ℕ) (st : Stack) (at : ℕ) (o : Opened) (q : ℕ) (es : List Entry) (n : ℕ) → suc (length st) ≤ deepest → member_head (suc (length st)) x.0 s at ≡ ok o q → q ≤ length s
      → Under (after (x ∷ st) o) q es n → Under (x ∷ st) at (entry_of s x.0 o.head ∷ es) (suc n)
  unfolding member_pieces ending
  one x st at o q es n shallow e l g =
      let t = taken s b x.0 at o.head q l (head_read s x.0 (suc (length st)) at o q e) in
      let a : Entry = entry_of s x.0 o.head in
      let z : next (x ∷ st) a ≡ after (x ∷ st) o = asks-same s b x.0 (suc (length st)) at o q e t st x.1 in
      let y : leb (suc (length st)) deepest ≡ true = le-leb (suc (length st)) deepest shallow in
      let mp : List Piece = member_pieces es (next (x ∷ st) a) in
      let ps : head_pieces x.0 a ++ mp ≡ member_pieces (a ∷ es) (x ∷ st) = sym (ap (λ (u : Bool). pick u (head_pieces x.0 a ++ mp) []) y) in
      let rest : Stands s q mp = subst (λ (u : Stack). Stands s q (member_pieces es u)) (sym z) g.stands in
      let long : q + size mp ≡ length s = subst (λ (u : Stack). q + size (member_pieces es u) ≡ length s) (sym z) g.end in
      record {
        stands = subst (λ (l : List Piece). Stands s at l) ps (stands-append s at (head_pieces x.0 a) mp t.stands (subst (λ (k : ℕ). Stands s k mp) (sym t.end) rest));
        end = subst (λ (l : List Piece). at + size l ≡ length s) ps (omega (arith, size-append (head_pieces x.0 a) mp, t.end, long));
        whole = ap (λ (u : Bool). pick u (ending es (next (x ∷ st) a)) 10) y ∙ ap (ending es) z ∙ g.whole;
        words = λ few. (t.words few, g.words few);
        wide = λ i. (t.wide, g.wide (i + 1));
        count = ap suc g.count;
      }

  pub under : (fuel : ℕ) (st : Stack) (at : ℕ) (os : List Opened) → at ≤ length s → length s - at < fuel → until over after next_head fuel st s at ≡ ok os (length s) → Under st at (members_of s st os) (length os)
  unfolding until members_of
  under zero st at os l f e = absurd (omega (arith, f))
  under (suc fuel) [] at os l f e =
      let z = ok-value e in
      subst (λ (u : List Opened). Under [] at (members_of s [] u) (length u)) z (nothing at 0 [] refl (ok-place e) refl)
  under (suc fuel) (x ∷ st) at os l f e =
      let t = then-inv (head_at (suc (length st)) x.0 s at) _ e in
      let u = then-inv (until over after next_head fuel (after (x ∷ st) t.0) s t.1) _ t.3 in
      let i = head-inv s (suc (length st)) x.0 at t.0 t.1 t.2 in
      let p = accepted (head-past s (suc (length st)) x.0 at l) t.0 t.1 t.2 in
      let more = under fuel (after (x ∷ st) t.0) t.1 u.0 p.high (omega (arith, p.low, p.high, f)) (u.2 ∙ ap (λ (k : ℕ). ok u.0 k) (ok-place u.3)) in
      subst (λ (v : List Opened). Under (x ∷ st) at (members_of s (x ∷ st) v) (length v)) (ok-value u.3) (one x st at t.0 t.1 (members_of s (after (x ∷ st) t.0) u.0) (length u.0) i.0 i.1 p.high more)
