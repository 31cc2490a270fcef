-- The first 65,537 bytes of an input say what is listed of all of it. Assumes nothing.
use Prim.Native.Nat.{ℕ, ◌+◌, ◌-◌, ◌*◌, ◌≤◌, ◌<◌}
use mathlib.Core.Path.{◌≡◌, refl, sym, ap, ap₂, ◌∙◌}
use mathlib.Core.List.{List}
use mathlib.Core.Bool.{Bool, true, false}
use lib.Dec.{leb, eqb}
use lib.ListN.{length, get_or, take}
use lib.Seq.{get_or-take, length-take-le, take_all}
use borrow.Author.Tests.{lt-leb, leb-true, leb-false}
use native.Mathlib.Omega.{arith}
use Rattle.algebra.specs.Chars.{chars}
use Rattle.algebra.specs.Numbers.{num, nums}
use Rattle.algebra.specs.Reader.{Res, ok, refuse, then, pick, field, body, Judged, judged, rule, unless, or_zero, limit}
use Rattle.algebra.specs.Store.{part}
use Rattle.algebra.specs.Table.{Verdict, accepted, refused, verdict}
use Rattle.algebra.proofs.Laws.{field_in, field-short, body-in, body-short, then-then}
use Rattle.algebra.proofs.Inverse.{then-inv, field-inv, judged-inv, body-inv}
use Rattle.algebra.proofs.Places.{num-cong, nums-cong}
use Rattle.resource.specs.Reading.{resources}
use Rattle.resource_document.specs.Reading.{fixed_number, reserved, start, image, colours, resources_in, document}
use Rattle.resource_list.specs.Listing.{section, most, is_document, reached, section_of, listed, listing}
use Rattle.resource_list.proofs.Listed.{nums-part, section-ends}

then_same : {A B : Type 0} (m n : Res A) (k l : A → ℕ → Res B) → m ≡ n → ((a : A) (q : ℕ) → n ≡ ok a q → k a q ≡ l a q) → then m k ≡ then n l
then_same m n k l e h = ap (λ (x : Res _). then x k) e ∙ go n refl
  where
    go : (x : Res _) → n ≡ x → then x k ≡ then x l
    go (ok a q) f = h a q f
    go (refuse x p r g) f = refl

-- t is the beginning of s, and longer than what is listed
module _ (s t : List ℕ) (longer : most < length t) (beginning : length t ≤ length s) (same : (k : ℕ) → k < length t → get_or t k 0 ≡ get_or s k 0) where
  -- ---- what lies in t is read alike

  field-same : (w at : ℕ) → at + w ≤ length t → field w t at ≡ field w s at
  field-same w at h = field_in w t at (omega arith) ∙ ap (λ (v : ℕ). ok v (at + w)) (num-cong s t w at (λ k l. same (at + k) (omega arith))) ∙ sym (field_in w s at (omega arith))

  judged-same : (w : ℕ) (j : ℕ → Judged) (at : ℕ) → at + w ≤ length t → judged w j t at ≡ judged w j s at
  judged-same w j at h = ap (λ (m : Res ℕ). then m (λ v n. rule (j v) at (ok v n))) (field-same w at h)

  nums-same : (n at : ℕ) → at + n ≤ length t → nums 1 n t at ≡ nums 1 n s at
  nums-same n at h = nums-cong 1 s t n at (λ k l. same (at + k) (omega arith))

  body_same : (n at : ℕ) → at + n ≤ length t → body 1 n t at ≡ body 1 n s at
  body_same n at h = body-in 1 t at n (omega arith) ∙ ap (λ (v : List ℕ). ok v (at + n * 1)) (nums-same n at h) ∙ sym (body-in 1 s at n (omega arith))

  part_same : (p n : ℕ) → p + n ≤ length t → part t p n ≡ part s p n
  part_same p n h = sym (nums-part t n p h) ∙ nums-same n p h ∙ nums-part s n p (omega arith)

  start-same : start t 0 ≡ start s 0
  unfolding start
  start-same =
      then_same (judged 4 (fixed_number (chars "8BPS")) t 0) (judged 4 (fixed_number (chars "8BPS")) s 0) _ _ (judged-same 4 (fixed_number (chars "8BPS")) 0 (omega arith))
      (λ x q e. then_same (judged 2 (fixed_number 1) t q) (judged 2 (fixed_number 1) s q) _ _ (judged-same 2 (fixed_number 1) q (omega (arith, (judged-inv 4 s 0 (fixed_number (chars "8BPS")) e).2)))
      (λ v r f. judged-same 6 reserved r (omega (arith, (judged-inv 4 s 0 (fixed_number (chars "8BPS")) e).2, (judged-inv 2 s q (fixed_number 1) f).2))))

  start-end : {x p : ℕ} → start s 0 ≡ ok x p → p ≡ 12
  unfolding start
  start-end e =
      let a = then-inv (judged 4 (fixed_number (chars "8BPS")) s 0) _ e in
      let b = then-inv (judged 2 (fixed_number 1) s a.1) _ a.3 in
      omega (arith, (judged-inv 4 s 0 (fixed_number (chars "8BPS")) a.2).2, (judged-inv 2 s a.1 (fixed_number 1) b.2).2, (judged-inv 6 s b.1 reserved b.3).2)

  image-same : (p : ℕ) → p ≡ 12 → image t p ≡ image s p
  unfolding image
  image-same p z =
      then_same (field 2 t p) (field 2 s p) _ _ (field-same 2 p (omega arith))
      (λ v a e. let x = (field-inv 2 s p e).2 in then_same (field 4 t a) (field 4 s a) _ _ (field-same 4 a (omega arith))
      (λ v b f. let y = (field-inv 4 s a f).2 in then_same (field 4 t b) (field 4 s b) _ _ (field-same 4 b (omega arith))
      (λ v c g. let u = (field-inv 4 s b g).2 in then_same (field 2 t c) (field 2 s c) _ _ (field-same 2 c (omega arith))
      (λ v d h. let w = (field-inv 2 s c h).2 in field-same 2 d (omega arith)))))

  image-end : (p : ℕ) {y q : ℕ} → image s p ≡ ok y q → q ≡ p + 14
  unfolding image
  image-end p e =
      let a = then-inv (field 2 s p) _ e in
      let b = then-inv (field 4 s a.1) _ a.3 in
      let c = then-inv (field 4 s b.1) _ b.3 in
      let d = then-inv (field 2 s c.1) _ c.3 in
      omega (arith, (field-inv 2 s p a.2).2, (field-inv 4 s a.1 b.2).2, (field-inv 4 s b.1 c.2).2, (field-inv 2 s c.1 d.2).2, (field-inv 2 s d.1 d.3).2)

  -- ---- where the section lies is answered alike

  abbrev ofPart : Res (ℕ × ℕ) → Verdict (ℕ × ℕ)
  ofPart m = reached (length t) (verdict (λ v. v) m)

  abbrev of_all : Res (ℕ × ℕ) → Verdict (ℕ × ℕ)
  of_all m = reached (length s) (verdict (λ v. v) m)

  meet : (m : Res (ℕ × ℕ)) → ofPart m ≡ of_all m
  meet (ok v q) = refl
  meet (refuse x p r f) = rw (lt-leb (length t) most longer, lt-leb (length s) most (omega arith))

  then-meet : {A : Type 0} (m n : Res A) (k l : A → ℕ → Res (ℕ × ℕ)) → m ≡ n → ((a : A) (q : ℕ) → n ≡ ok a q → ofPart (k a q) ≡ of_all (l a q)) → ofPart (then m k) ≡ of_all (then n l)
  then-meet m n k l e h = ap (λ (x : Res _). ofPart (then x k)) e ∙ go n refl
    where
      go : (x : Res _) → n ≡ x → ofPart (then x k) ≡ of_all (then x l)
      go (ok a q) f = h a q f
      go (refuse x p r g) f = meet (refuse x p r g)

  cut-part : (p : ℕ) → ofPart (refuse 2 p 0 0) ≡ refused 1 0 0 0
  cut-part p = rw (lt-leb (length t) most longer)

  cut_all : (p : ℕ) → of_all (refuse 2 p 0 0) ≡ refused 1 0 0 0
  cut_all p = rw (lt-leb (length s) most (omega arith))

  -- n bytes that end past what is listed
  body-past : (n q : ℕ) (k : List ℕ → ℕ → Res (ℕ × ℕ)) → ((l : List ℕ) → of_all (k l (q + n * 1)) ≡ refused 1 0 0 0) → of_all (then (body 1 n s q) k) ≡ refused 1 0 0 0
  unfolding body
  body-past n q k h = go (leb (n * 1) (length s - q))
    where
      go : (b : Bool) → of_all (then (pick b (ok (nums 1 n s q) (q + n * 1)) (refuse 2 q 0 0)) k) ≡ refused 1 0 0 0
      go true = h (nums 1 n s q)
      go false = cut_all q

  lies-past : (q n r : ℕ) → most < q + n → of_all (ok (q, n) r) ≡ refused 1 0 0 0
  lies-past q n r h = rw (lt-leb (q + n) most h)

  -- a section whose length ends past what is listed
  section-past : (p : ℕ) → most < p + 4 → of_all (resources_in s p) ≡ refused 1 0 0 0
  unfolding resources_in field
  section-past p h = go (leb 4 (length s - p))
    where
      long : (n : ℕ) (b : Bool) → of_all (rule (unless b 1) 0 (then (body 1 n s (p + 4)) (λ l r. ok (p + 4, n) r))) ≡ refused 1 0 0 0
      long n true = body-past n (p + 4) (λ l r. ok (p + 4, n) r) (λ l. lies-past (p + 4) n (p + 4 + n * 1) (omega arith))
      long n false = rw (lt-leb (length s) most (omega arith))

      go : (b : Bool) → of_all (then (pick b (ok (num 4 s p) (p + 4)) (refuse 2 p 0 0)) (λ n q. rule (unless (leb n limit) 1) 0 (then (body 1 n s q) (λ l r. ok (q, n) r)))) ≡ refused 1 0 0 0
      go true = long (num 4 s p) (leb (num 4 s p) limit)
      go false = cut_all p

  -- the section's bytes, behind its length
  held : (n q : ℕ) (b : Bool) → q ≤ length t → ofPart (rule (unless b 1) 0 (then (body 1 n t q) (λ l r. ok (q, n) r))) ≡ of_all (rule (unless b 1) 0 (then (body 1 n s q) (λ l r. ok (q, n) r)))
  held n q false le = meet (refuse 1 0 0 0)
  held n q true le = go (leb (q + n) (length t)) refl
    where
      go : (b : Bool) → leb (q + n) (length t) ≡ b → ofPart (then (body 1 n t q) (λ l r. ok (q, n) r)) ≡ of_all (then (body 1 n s q) (λ l r. ok (q, n) r))
      go true e = then-meet (body 1 n t q) (body 1 n s q) _ _ (body_same n q (leb-true _ _ e)) (λ l r f. meet (ok (q, n) r))
      go false e =
          let far = leb-false (q + n) (length t) e in
          ap (λ (m : Res (List ℕ)). ofPart (then m (λ l r. ok (q, n) r))) (body-short 1 t q n (omega arith)) ∙ cut-part q
          ∙ sym (body-past n q (λ l r. ok (q, n) r) (λ l. lies-past q n (q + n * 1) (omega arith)))

  section-meet : (p : ℕ) → p ≤ length t → ofPart (resources_in t p) ≡ of_all (resources_in s p)
  unfolding resources_in
  section-meet p le = go (leb (p + 4) (length t)) refl
    where
      go : (b : Bool) → leb (p + 4) (length t) ≡ b → ofPart (resources_in t p) ≡ of_all (resources_in s p)
      go true e =
          then-meet (field 4 t p) (field 4 s p) _ _ (field-same 4 p (leb-true _ _ e))
          (λ n q f. held n q (leb n limit) (omega (arith, (field-inv 4 s p f).2, leb-true (p + 4) (length t) e)))
      go false e =
          let far = leb-false (p + 4) (length t) e in
          ap (λ (m : Res ℕ). ofPart (then m (λ n q. rule (unless (leb n limit) 1) 0 (then (body 1 n t q) (λ l r. ok (q, n) r))))) (field-short 4 t p (omega arith)) ∙ cut-part p
          ∙ sym (section-past p (omega arith))

  -- the colour mode data, behind its length
  body-meet : (n r : ℕ) → r ≤ length t → ofPart (then (body 1 n t r) (λ z p. resources_in t p)) ≡ of_all (then (body 1 n s r) (λ z p. resources_in s p))
  body-meet n r le = go (leb (r + n) (length t)) refl
    where
      go : (b : Bool) → leb (r + n) (length t) ≡ b → ofPart (then (body 1 n t r) (λ z p. resources_in t p)) ≡ of_all (then (body 1 n s r) (λ z p. resources_in s p))
      go true e =
          then-meet (body 1 n t r) (body 1 n s r) _ _ (body_same n r (leb-true _ _ e))
          (λ z p f. section-meet p (omega (arith, (body-inv 1 s r n f).2, leb-true (r + n) (length t) e)))
      go false e =
          let far = leb-false (r + n) (length t) e in
          ap (λ (m : Res (List ℕ)). ofPart (then m (λ z p. resources_in t p))) (body-short 1 t r n (omega arith)) ∙ cut-part r
          ∙ sym (body-past n r (λ z p. resources_in s p) (λ l. section-past (r + n * 1) (omega arith)))

  colours-meet : (q : ℕ) → q ≡ 26 → ofPart (then (colours t q) (λ z r. resources_in t r)) ≡ of_all (then (colours s q) (λ z r. resources_in s r))
  unfolding colours
  colours-meet q z =
      ap ofPart (then-then (field 4 t q) (λ n r. body 1 n t r) (λ z r. resources_in t r))
      ∙ then-meet (field 4 t q) (field 4 s q) _ _ (field-same 4 q (omega arith)) (λ n r e. body-meet n r (omega (arith, (field-inv 4 s q e).2)))
      ∙ ap of_all (sym (then-then (field 4 s q) (λ n r. body 1 n s r) (λ z r. resources_in s r)))

  document-meet : ofPart (document t) ≡ of_all (document s)
  unfolding document
  document-meet =
      then-meet (start t 0) (start s 0) _ _ start-same
      (λ x p e. then-meet (image t p) (image s p) _ _ (image-same p (start-end e))
      (λ y q f. colours-meet q (omega (arith, start-end e, image-end p f))))

  -- ---- and so the input is listed alike

  abbrev whole : List ℕ → Verdict (ℕ × ℕ)
  whole u = pick (leb (length u) most) (accepted (0, length u)) (refused 1 0 0 0)

  section-same : section_of t ≡ section_of s
  section-same =
      let d : is_document t ≡ is_document s = ap (λ (m : Res ℕ). eqb (or_zero m) (chars "8BPS")) (field-same 4 0 (omega arith)) in
      let long : whole t ≡ whole s = rw (lt-leb (length t) most longer, lt-leb (length s) most (omega arith)) in
      ap (λ (b : Bool). pick b (ofPart (document t)) (whole t)) d ∙ ap₂ (λ (x y : Verdict (ℕ × ℕ)). pick (is_document s) x y) document-meet long

  listing-same : listing t ≡ listing s
  listing-same = ap (listed t) section-same ∙ go (section_of s) refl
    where
      go : (v : Verdict (ℕ × ℕ)) → section_of s ≡ v → listed t v ≡ listed s v
      go (accepted v) e = ap (λ (l : List ℕ). section v.0 (resources l)) (part_same v.0 v.1 (omega (arith, (section-ends s {p = v.0} {k = v.1} (sym e)).1)))
      go (refused x p r f) e = refl

-- an input cut anywhere past the byte 65,536 has the listing of the whole: a program may take 65,537 bytes and no more
pub enough : (s : List ℕ) (c : ℕ) → most < c → listing (take c s) ≡ listing s
enough s c h = go (leb (length s) c) refl
  where
    go : (b : Bool) → leb (length s) c ≡ b → listing (take c s) ≡ listing s
    go true e = ap listing (take_all c s (leb-true _ _ e))
    go false e =
        let far = leb-false (length s) c e in
        let len : length (take c s) ≡ c = length-take-le c s (omega arith) in
        listing-same s (take c s) (omega arith) (omega arith) (λ k l. get_or-take c s k 0 (omega arith))
