-- The file made of entries, as it is read. Assumes nothing.
use Prim.Native.Nat.{ℕ, suc, ◌+◌}
use mathlib.Core.Path.{◌≡◌, refl, sym, ap, ◌∙◌, subst, subst₂}
use mathlib.Core.List.{List, [], ◌∷◌, ◌++◌}
use mathlib.Core.Bool.{Bool, true, false}
use lib.Dec.{leb, eqb}
use lib.ListN.{length, length-append}
use borrow.Author.Tests.{eq-eqb}
use native.Mathlib.Omega.{arith}
use native.Mathlib.Nat.{zero-add}
use Rattle.algebra.specs.Chars.{chars}
use Rattle.algebra.specs.Numbers.{At, Bytes, joined}
use Rattle.algebra.specs.Reader as rd
use Rattle.algebra.specs.Reader.{Res, ok, refuse, then, pick, field, judged, many, limit}
use Rattle.algebra.specs.Faults.{first_of, faults}
use Rattle.algebra.proofs.Places.{at_left, at_right, at-whole}
use Rattle.algebra.proofs.Tells.{first-zero}
use Rattle.descriptor.specs.Reading.{object, class, version}
use Rattle.descriptor_heads.specs.Heads.{Due, pairs, Opened, over, next_head, settled, after, opens, root_head, whole_heads, file_heads}
use Rattle.descriptor_entry.specs.Pieces.{Piece, number, size, bytes, fault, fault_of, Fits}
use Rattle.descriptor_entry.specs.Shapes as sh
use Rattle.descriptor_entry.specs.Shapes.{Entry, kind_of, count_of}
use Rattle.descriptor_entry.specs.Entries.{field_pieces, root_pieces, asks, member_pieces, ending, asked, root_stack, pieces, asked_heads, ended, build_fault, made, Rooted}
use Rattle.descriptor_entry.proofs.Laws.{first-assoc, bytes-append, faults-append, fits-left, fits-right, bytes-length}
use Rattle.descriptor_entry.proofs.Meeting.{Meets, good, bad, meets-then, begins}
use Rattle.descriptor_entry.proofs.Suited.{object-suits}
use Rattle.descriptor_entry.proofs.Headed.{meets-made}
use Rattle.descriptor_entry.proofs.Members.{members-meet}

module _ (s text : List ℕ) (b : Bytes text) where
  root-made : (v : ℕ) → (Due × ℕ) → Opened
  root-made v o = record { head = record { kind = chars "Objc"; first = 0; depth = 0; value = v }; below = pairs; count = o.1 }

  -- the root's head is what opens an object, behind the version
  root-opens : root_head s 0 ≡ then (judged 4 version s 0) (λ u v. then (opens object s v) (λ o q. ok (root-made v o) q))
  unfolding root_head root-made
  root-opens = outer (judged 4 version s 0)
    where
      inner : (v : ℕ) (m : Res ℕ) → then m (λ n q. ok (root-made v (pairs, n)) q) ≡ then (then {B = Due × ℕ} m (λ n q. ok (pairs, n) q)) (λ o q. ok (root-made v o) q)
      inner v (ok n q) = refl
      inner v (refuse x p r f) = refl

      middle : (v : ℕ) (m : Res Unit) → then m (λ c p. then (field 4 s p) (λ n q. ok (root-made v (pairs, n)) q)) ≡ then (then {B = Due × ℕ} m (λ c p. then {B = Due × ℕ} (field 4 s p) (λ n q. ok (pairs, n) q))) (λ o q. ok (root-made v o) q)
      middle v (ok c p) = inner v (field 4 s p)
      middle v (refuse x p r f) = refl

      outer : (m : Res ℕ) → then m (λ u e. then (class s e) (λ c p. then (field 4 s p) (λ n q. ok (root-made e (pairs, n)) q))) ≡ then m (λ u v. then (opens object s v) (λ o q. ok (root-made v o) q))
      outer (ok u e) = middle e (class s e)
      outer (refuse x p r f) = refl

  root-meets : (e : Entry) → kind_of e ≡ chars "Objc" → Fits text (root_pieces e) → At s 0 (bytes text (root_pieces e))
      → Meets (root_head s 0) (fault text (root_pieces e)) (length (bytes text (root_pieces e))) (asks sh.object 0 0 4 e)
  unfolding root_pieces faults root-made
  root-meets e k fit stands =
      let x : ℕ = pick (eqb (kind_of e) (chars "Objc")) 0 4 in
      let ps : List Piece = field_pieces 0 sh.object e in
      let z : x ≡ 0 = ap (λ (t : Bool). pick t 0 4) (eq-eqb (kind_of e) (chars "Objc") k) in
      let g = begins s text 16 x ps 0 fit.0 stands in
      let v : judged 4 version s 0 ≡ ok 16 4 = ap (λ (m : Res ℕ). then m (λ v n. rd.rule (version v) 0 (ok v n))) g.number_is in
      let l : 4 + length (bytes text ps) ≡ length (bytes text (number 4 16 x ∷ ps)) = omega (arith, g.length-is) in
      let m = meets-made (((object-suits s text b).reads e fit.1).meets 4 g.behind) (root-made 4) in
      let kind : root-made 4 (pairs, count_of e) ≡ asks sh.object 0 0 4 e = ap (λ (t : ℕ). record { head = record { kind = t; first = 0; depth = 0; value = 4 }; below = pairs; count = count_of e }) (sym k) in
      subst (λ (w : Res Opened). Meets w (first_of x (fault text ps)) (length (bytes text (number 4 16 x ∷ ps))) (asks sh.object 0 0 4 e)) (sym (root-opens ∙ ap (λ (m : Res ℕ). then m (λ u v. then (opens object s v) (λ o q. ok (root-made v o) q))) v))
      (subst₂ (λ (n : ℕ) (o : Opened). Meets (then (opens object s 4) (λ o q. ok (root-made 4 o) q)) (first_of n (fault text ps)) (length (bytes text (number 4 16 x ∷ ps))) o) (sym z) kind
      (subst (λ (n : ℕ). Meets (then (opens object s 4) (λ o q. ok (root-made 4 o) q)) (fault text ps) n (root-made 4 (pairs, count_of e))) l m))

  ended_here : {A : Type 0} (a : A) → rd.ended a s (length s) ≡ ok a (length s)
  unfolding rd.ended
  ended_here a = rw (eq-eqb (length s) (length s) refl)

  whole_meets : (e : Entry) (es : List Entry) → s ≡ made text (e ∷ es) → kind_of e ≡ chars "Objc" → Fits text (pieces (e ∷ es)) → (ended (e ∷ es) ≡ 6 → ⊥)
      → Meets (whole_heads s 0) (first_of (fault text (pieces (e ∷ es))) (ended (e ∷ es))) (length s) (asked_heads (e ∷ es))
  unfolding whole_heads pieces ended asked_heads
  whole_meets e es is k fit over6 =
      let rp : List Piece = root_pieces e in
      let mp : List Piece = member_pieces es (root_stack e) in
      let j : s ≡ bytes text rp ++ bytes text mp = is ∙ bytes-append text rp mp in
      let g : At s 0 (bytes text rp ++ bytes text mp) = subst (λ (l : List ℕ). At s 0 l) j (at-whole s) in
      let w : length s ≡ length (bytes text rp) + length (bytes text mp) = ap length j ∙ length-append (bytes text rp) (bytes text mp) in
      let n : length (bytes text rp) ≡ size rp = bytes-length text rp (fits-left text rp mp fit) in
      let one = root-meets e k (fits-left text rp mp fit) (at_left s 0 (bytes text rp) (bytes text mp) g) in
      let q : ℕ = length (bytes text rp) in
      let right : At s q (bytes text mp) = subst (λ (z : ℕ). At s z (bytes text mp)) (zero-add q) (at_right s 0 (bytes text rp) (bytes text mp) g) in
      let two = members-meet s text b es (suc (length s)) (root_stack e) q (fits-right text rp mp fit) right (omega (arith, w)) (omega (arith, w)) over6 in
      let o : Opened = asks sh.object 0 0 4 e in
      let three : Meets (then (many over after next_head (root_stack e) s q) (λ os e. rd.ended (o ∷ os) s e)) (first_of (first_of (fault text mp) (ending es (root_stack e))) 0) (length s) (o ∷ asked es (root_stack e) q) =
      meets-then two (λ os e. rd.ended (o ∷ os) s e) (good (ended_here (o ∷ asked es (root_stack e) q)) refl) in
      let all = meets-then one (λ o q. then (many over after next_head (settled ((o.below, o.count) ∷ [])) s q) (λ os e. rd.ended (o ∷ os) s e)) three in
      let a : first_of (fault text rp) (first_of (first_of (fault text mp) (ending es (root_stack e))) 0) ≡ first_of (fault text (rp ++ mp)) (ending es (root_stack e)) =
      ap (λ (z : ℕ). first_of (fault text rp) z) (first-zero (first_of (fault text mp) (ending es (root_stack e)))) ∙ first-assoc (fault text rp) (fault text mp) (ending es (root_stack e))
      ∙ ap (λ (z : ℕ). first_of z (ending es (root_stack e))) (sym (faults-append (fault_of text) rp mp)) in
      subst₂ (λ (y : ℕ) (z : ℕ). Meets (whole_heads s 0) y (length s) (o ∷ asked es (root_stack e) z)) a n all

pub file-meets : (text : List ℕ) → Bytes text → (es : List Entry) → Rooted es → Fits text (pieces es) → (ended es ≡ 6 → ⊥) → Meets (file_heads (made text es)) (build_fault text es) (length (made text es)) (asked_heads es)
unfolding file_heads build_fault whole_heads root_head field size pieces faults ended joined
file-meets text b es root fit over6 = go es root fit over6
  where
    nothing : Meets (file_heads []) (build_fault text []) 0 (asked_heads [])
    nothing = bad 0 0 0 refl (omega arith)

    limited : (e : Entry) (es : List Entry) (t : Bool) → kind_of e ≡ chars "Objc" → Fits text (pieces (e ∷ es)) → (ended (e ∷ es) ≡ 6 → ⊥)
        → Meets (pick t (whole_heads (made text (e ∷ es)) 0) (refuse 1 0 0 0)) (pick t (first_of (fault text (pieces (e ∷ es))) (ended (e ∷ es))) 1) (length (made text (e ∷ es))) (asked_heads (e ∷ es))
    limited e es true k f o = whole_meets (made text (e ∷ es)) text b e es refl k f o
    limited e es false k f o = bad 0 0 0 refl (omega arith)

    go : (es : List Entry) → Rooted es → Fits text (pieces es) → (ended es ≡ 6 → ⊥) → Meets (file_heads (made text es)) (build_fault text es) (length (made text es)) (asked_heads es)
    go [] r f o = nothing
    go (e ∷ es) r f o =
        subst (λ (n : ℕ). Meets (pick (leb (length (made text (e ∷ es))) limit) (whole_heads (made text (e ∷ es)) 0) (refuse 1 0 0 0)) (pick (leb n limit) (first_of (fault text (pieces (e ∷ es))) (ended (e ∷ es))) 1) (length (made text (e ∷ es))) (asked_heads (e ∷ es)))
        (bytes-length text (pieces (e ∷ es)) f) (limited e es (leb (length (made text (e ∷ es))) limit) r f o)
