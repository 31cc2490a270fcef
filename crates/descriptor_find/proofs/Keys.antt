-- Keys: one after another, counted and compared. Assumes nothing.
use Prim.Native.Nat.{ℕ, zero, suc, ◌+◌, ◌-◌, ◌*◌, ◌≤◌, ◌<◌}
use mathlib.Core.Path.{◌≡◌, refl, sym, ap, ap₂, ◌∙◌}
use mathlib.Core.List.{List, [], ◌∷◌, ◌++◌, map}
use mathlib.Core.Bool.{Bool, true, false}
use lib.Dec.{eqb}
use lib.ListN.{length, get_or, set, drop, length-set}
use lib.Seq.{sets, sets-eq}
use borrow.Author.Tests.{eqb-true, eqb-false, eq-eqb, ne_eqb, le-leb, lt-leb}
use native.Mathlib.Omega.{arith}
use Rattle.algebra.specs.Numbers.{num, nums, Bytes}
use Rattle.algebra.specs.Reader.{Res, ok, refuse, then, pick, field, body, done, or_zero, at_end, until}
use Rattle.algebra.proofs.Inverse.{clash, then-inv, field-inv, body-inv, ok-value, ok-place}
use Rattle.algebra.proofs.Laws.{num-1, field_in, body-in, body-short}
use Rattle.algebra.proofs.Until.{until_stop, until-turn, Went, stopped, spent, went, until-inv}
use Rattle.descriptor.specs.Reading.{id, Row}
use Rattle.descriptor_columns.specs.Filled.{onto}
use Rattle.descriptor_find.specs.Find.{Key, body_size, key, keys_of, equal_bytes, has_key, row_of, Answered, answered, refused, among_keys, answering}
use Rattle.descriptor_find.specs.scaffold.Finding.{keys, refusal, counted, Keyed, answers_in}

-- ---- one key

-- a key ends where its ID ends
pub key-id : (s : List ℕ) (at : ℕ) → id s at ≡ done (key s at)
unfolding id key
key-id s at = outer (field 4 s at)
  where
    inner : (n : ℕ) (m : Res (List ℕ)) → done m ≡ done {A = Key} (then m (λ b q. ok (n, b) q))
    inner n (ok b q) = refl
    inner n (refuse x p r f) = refl

    outer : (m : Res ℕ) → then m (λ n p. done (body 1 (body_size n) s p)) ≡ done {A = Key} (then m (λ n p. then (body 1 (body_size n) s p) (λ b q. ok (n, b) q)))
    outer (ok n p) = inner n (body 1 (body_size n) s p)
    outer (refuse x p r f) = refl

-- what a key that was read is, and where it ends
pub key-inv : (s : List ℕ) (at : ℕ) (k : Key) (q : ℕ) → key s at ≡ ok k q
    → (4 ≤ length s - at) × (at + 4 + body_size (num 4 s at) ≤ length s) × (k ≡ (num 4 s at, nums 1 (body_size (num 4 s at)) s (at + 4))) × (q ≡ at + 4 + body_size (num 4 s at)) × (or_zero (field 4 s at) ≡ num 4 s at)
unfolding key
key-inv s at k q e =
    let a = then-inv (field 4 s at) _ e in
    let b = then-inv (body 1 (body_size a.0) s a.1) _ a.3 in
    let i = field-inv 4 s at a.2 in
    let j = body-inv 1 s a.1 (body_size a.0) b.2 in
    let n : a.0 ≡ num 4 s at = sym i.1 in
    let m : body_size a.0 ≡ body_size (num 4 s at) = ap body_size n in (
      i.0,
      omega (arith, i.0, i.2, j.0, m),
      sym (ok-value b.3) ∙ ap (λ (y : List ℕ). (a.0, y)) (sym j.1) ∙ ap₂ (λ (x p : ℕ). (x, nums 1 (body_size x) s p)) n (sym i.2),
      sym (ok-place b.3) ∙ omega (arith, j.2, i.2, m),
      ap or_zero a.2 ∙ n,
    )

-- ---- a key compared

-- too short
pub key-short : (s : List ℕ) (at tag : ℕ) (b : List ℕ) → length s < at + 4 + body_size tag → false ≡ has_key (key s at) (tag, b)
unfolding key
key-short s at tag b l = go (field 4 s at) refl
  where
    tagged : (n p : ℕ) (m : Res (List ℕ)) → (n ≡ tag → m ≡ refuse 2 p 0 0) → false ≡ has_key (then m (λ c q. ok (n, c) q)) (tag, b)
    tagged n p (ok c q) h = other (eqb n tag) refl
      where
        other : (x : Bool) → eqb n tag ≡ x → false ≡ pick x (equal_bytes c b) false
        other true e = clash (sym (h (eqb-true n tag e)))
        other false e = refl
    tagged n p (refuse x y r f) h = refl

    go : (m : Res ℕ) → field 4 s at ≡ m → false ≡ has_key (then m (λ n p. then (body 1 (body_size n) s p) (λ c q. ok (n, c) q))) (tag, b)
    go (ok n p) e =
        let i = field-inv 4 s at e in
        tagged n p (body 1 (body_size n) s p) (λ h. body-short 1 s p (body_size n) (omega (arith, l, i.2, ap body_size h)))
    go (refuse x p r f) e = refl

-- whole
pub key-whole : (s : List ℕ) (at tag : ℕ) (b : List ℕ) → at + 4 + body_size tag ≤ length s → (x : Bool) → (num 4 s at ≡ tag → x ≡ equal_bytes (nums 1 (body_size tag) s (at + 4)) b) → ((num 4 s at ≡ tag → ⊥) → x ≡ false)
    → x ≡ has_key (key s at) (tag, b)
unfolding key
key-whole s at tag b l x h g = sym (ap (λ (m : Res ℕ). has_key (then m (λ n p. then (body 1 (body_size n) s p) (λ c q. ok (n, c) q))) (tag, b)) (field_in 4 s at (omega (arith, l)))) ∙' go (eqb (num 4 s at) tag) refl
  where
    infixl 5 ◌∙'◌
    ◌∙'◌ : {a b c : Bool} → b ≡ a → c ≡ b → c ≡ a
    p ∙' q = q ∙ p

    n : ℕ
    n = num 4 s at

    same : (m : Res (List ℕ)) → (y : Bool) → eqb (num 4 s at) tag ≡ y → (y ≡ true → m ≡ ok (nums 1 (body_size (num 4 s at)) s (at + 4)) (at + 4 + body_size (num 4 s at) * 1)) → x ≡ has_key (then m (λ c q. ok (num 4 s at, c) q)) (tag, b)
    same m true e f =
        let w = eqb-true (num 4 s at) tag e in
        h w ∙ ap (λ (z : ℕ). equal_bytes (nums 1 (body_size z) s (at + 4)) b) (sym w) ∙ sym (ap (λ (z : Res (List ℕ)). has_key (then z (λ c q. ok (num 4 s at, c) q)) (tag, b)) (f refl) ∙ ap (λ (z : Bool). pick z (equal_bytes (nums 1 (body_size (num 4 s at)) s (at + 4)) b) false) e)
    same (ok c q) false e f = g (eqb-false (num 4 s at) tag e) ∙ sym (ap (λ (z : Bool). pick z (equal_bytes c b) false) e)
    same (refuse y p r k) false e f = g (eqb-false (num 4 s at) tag e)

    go : (y : Bool) → eqb (num 4 s at) tag ≡ y → x ≡ has_key (then (body 1 (body_size (num 4 s at)) s (at + 4)) (λ c q. ok (num 4 s at, c) q)) (tag, b)
    go y e = same (body 1 (body_size (num 4 s at)) s (at + 4)) y e (λ z. body-in 1 s (at + 4) (body_size (num 4 s at)) (omega (arith, l, ap body_size (eqb-true (num 4 s at) tag (e ∙ z)))))

-- byte by byte
pub bytes-turn : (f k : List ℕ) (a b n i : ℕ) → i < n
    → equal_bytes (nums 1 (n - i) f (a + i)) (nums 1 (n - i) k (b + i)) ≡ pick (eqb (get_or f (a + i) 0) (get_or k (b + i) 0)) (equal_bytes (nums 1 (n - (i + 1)) f (a + (i + 1))) (nums 1 (n - (i + 1)) k (b + (i + 1)))) false
unfolding equal_bytes nums
bytes-turn f k a b n i l =
    let e : n - i ≡ suc (n - (i + 1)) = omega (arith, l) in
    let x : a + i + 1 ≡ a + (i + 1) = omega arith in
    let y : b + i + 1 ≡ b + (i + 1) = omega arith in
    ap (λ (m : ℕ). equal_bytes (nums 1 m f (a + i)) (nums 1 m k (b + i))) e
    ∙ ap₂ (λ (p q : ℕ). pick (eqb (num 1 f (a + i)) (num 1 k (b + i))) (equal_bytes (nums 1 (n - (i + 1)) f p) (nums 1 (n - (i + 1)) k q)) false) x y
    ∙ ap₂ (λ (p q : ℕ). pick (eqb p q) (equal_bytes (nums 1 (n - (i + 1)) f (a + (i + 1))) (nums 1 (n - (i + 1)) k (b + (i + 1)))) false) (num-1 f (a + i)) (num-1 k (b + i))

pub bytes-start : (f k : List ℕ) (a b n : ℕ) → equal_bytes (nums 1 n f a) (nums 1 n k b) ≡ equal_bytes (nums 1 (n - 0) f (a + 0)) (nums 1 (n - 0) k (b + 0))
bytes-start f k a b n =
    let e : n ≡ n - 0 = omega arith in
    let x : a ≡ a + 0 = omega arith in
    let y : b ≡ b + 0 = omega arith in
    ap (λ (m : ℕ). equal_bytes (nums 1 m f a) (nums 1 m k b)) e ∙ ap₂ (λ (p q : ℕ). equal_bytes (nums 1 (n - 0) f p) (nums 1 (n - 0) k q)) x y

pub bytes-end : (f k : List ℕ) (a b n i : ℕ) → n ≤ i → equal_bytes (nums 1 (n - i) f a) (nums 1 (n - i) k b) ≡ true
unfolding equal_bytes nums
bytes-end f k a b n i l = let e : n - i ≡ 0 = omega (arith, l) in ap (λ (m : ℕ). equal_bytes (nums 1 m f a) (nums 1 m k b)) e

-- ---- eight bytes at a time

pick_assoc : (c x y : Bool) → pick c (pick x y false) false ≡ pick (pick c x false) y false
pick_assoc true x y = refl
pick_assoc false x y = refl

-- some bytes and those behind them
bytes-split : (f k : List ℕ) (m n a b : ℕ) → equal_bytes (nums 1 (m + n) f a) (nums 1 (m + n) k b) ≡ pick (equal_bytes (nums 1 m f a) (nums 1 m k b)) (equal_bytes (nums 1 n f (a + m)) (nums 1 n k (b + m))) false
unfolding equal_bytes nums
bytes-split f k zero n a b =
    let e : zero + n ≡ n = omega arith in
    let x : a ≡ a + 0 = omega arith in
    let y : b ≡ b + 0 = omega arith in
    ap (λ (m : ℕ). equal_bytes (nums 1 m f a) (nums 1 m k b)) e ∙ ap₂ (λ (p q : ℕ). equal_bytes (nums 1 n f p) (nums 1 n k q)) x y
bytes-split f k (suc m) n a b =
    let e : suc m + n ≡ suc (m + n) = omega arith in
    let x : a + 1 + m ≡ a + suc m = omega arith in
    let y : b + 1 + m ≡ b + suc m = omega arith in
    let c : Bool = eqb (num 1 f a) (num 1 k b) in
    ap (λ (j : ℕ). equal_bytes (nums 1 j f a) (nums 1 j k b)) e
    ∙ ap (λ (z : Bool). pick c z false) (bytes-split f k m n (a + 1) (b + 1))
    ∙ ap₂ (λ (p q : ℕ). pick c (pick (equal_bytes (nums 1 m f (a + 1)) (nums 1 m k (b + 1))) (equal_bytes (nums 1 n f p) (nums 1 n k q)) false) false) x y
    ∙ pick_assoc c (equal_bytes (nums 1 m f (a + 1)) (nums 1 m k (b + 1))) (equal_bytes (nums 1 n f (a + suc m)) (nums 1 n k (b + suc m)))

one_byte : (f k : List ℕ) (a b : ℕ) → equal_bytes (nums 1 1 f a) (nums 1 1 k b) ≡ eqb (get_or f a 0) (get_or k b 0)
unfolding equal_bytes nums
one_byte f k a b = alone (eqb (num 1 f a) (num 1 k b)) ∙ ap₂ (λ (p q : ℕ). eqb p q) (num-1 f a) (num-1 k b)
  where
    alone : (c : Bool) → pick c true false ≡ c
    alone true = refl
    alone false = refl

glued : (x y c d : ℕ) → c < 256 → d < 256 → pick (eqb x y) (eqb c d) false ≡ eqb (x * 256 + c) (y * 256 + d)
glued x y c d l m = go (eqb x y) refl (eqb c d) refl
  where
    go : (p : Bool) → eqb x y ≡ p → (q : Bool) → eqb c d ≡ q → pick p q false ≡ eqb (x * 256 + c) (y * 256 + d)
    go true e true g = sym (eq-eqb (x * 256 + c) (y * 256 + d) (omega (arith, eqb-true x y e, eqb-true c d g)))
    go true e false g = let n = eqb-false c d g in sym (ne_eqb (x * 256 + c) (y * 256 + d) (λ z. n (omega (arith, z, l, m))))
    go false e q g = let n = eqb-false x y e in sym (ne_eqb (x * 256 + c) (y * 256 + d) (λ z. n (omega (arith, z, l, m))))

-- bytes are the same where the number that they make is
word_same : (f k : List ℕ) → Bytes f → Bytes k → (w a b : ℕ) → equal_bytes (nums 1 w f a) (nums 1 w k b) ≡ eqb (num w f a) (num w k b)
unfolding equal_bytes nums num
word_same f k x y zero a b = refl
word_same f k x y (suc w) a b =
    let e : suc w ≡ w + 1 = omega arith in
    ap (λ (m : ℕ). equal_bytes (nums 1 m f a) (nums 1 m k b)) e
    ∙ bytes-split f k w 1 a b
    ∙ ap₂ (λ (p q : Bool). pick p q false) (word_same f k x y w a b) (one_byte f k (a + w) (b + w))
    ∙ glued (num w f a) (num w k b) (get_or f (a + w) 0) (get_or k (b + w) 0) (x (a + w)) (y (b + w))

module _ (f k : List ℕ) (a b n : ℕ) where
  pub words-start : equal_bytes (nums 1 (8 * n) f a) (nums 1 (8 * n) k b) ≡ equal_bytes (nums 1 (8 * (n - 0)) f (a + 8 * 0)) (nums 1 (8 * (n - 0)) k (b + 8 * 0))
  words-start =
      let e : 8 * n ≡ 8 * (n - 0) = omega arith in
      let x : a ≡ a + 8 * 0 = omega arith in
      let y : b ≡ b + 8 * 0 = omega arith in
      ap (λ (m : ℕ). equal_bytes (nums 1 m f a) (nums 1 m k b)) e ∙ ap₂ (λ (p q : ℕ). equal_bytes (nums 1 (8 * (n - 0)) f p) (nums 1 (8 * (n - 0)) k q)) x y

  pub words-turn : Bytes f → Bytes k → (i : ℕ) → i < n
      → equal_bytes (nums 1 (8 * (n - i)) f (a + 8 * i)) (nums 1 (8 * (n - i)) k (b + 8 * i))
      ≡ pick (eqb (num 8 f (a + 8 * i)) (num 8 k (b + 8 * i))) (equal_bytes (nums 1 (8 * (n - (i + 1))) f (a + 8 * (i + 1))) (nums 1 (8 * (n - (i + 1))) k (b + 8 * (i + 1)))) false
  words-turn u v i l =
      let e : 8 * (n - i) ≡ 8 + 8 * (n - (i + 1)) = omega (arith, l) in
      let x : a + 8 * i + 8 ≡ a + 8 * (i + 1) = omega arith in
      let y : b + 8 * i + 8 ≡ b + 8 * (i + 1) = omega arith in
      ap (λ (m : ℕ). equal_bytes (nums 1 m f (a + 8 * i)) (nums 1 m k (b + 8 * i))) e
      ∙ bytes-split f k 8 (8 * (n - (i + 1))) (a + 8 * i) (b + 8 * i)
      ∙ ap (λ (c : Bool). pick c (equal_bytes (nums 1 (8 * (n - (i + 1))) f (a + 8 * i + 8)) (nums 1 (8 * (n - (i + 1))) k (b + 8 * i + 8))) false) (word_same f k u v 8 (a + 8 * i) (b + 8 * i))
      ∙ ap₂ (λ (p q : ℕ). pick (eqb (num 8 f (a + 8 * i)) (num 8 k (b + 8 * i))) (equal_bytes (nums 1 (8 * (n - (i + 1))) f p) (nums 1 (8 * (n - (i + 1))) k q)) false) x y

  pub words-end : (i : ℕ) → n ≤ i → equal_bytes (nums 1 (8 * (n - i)) f (a + 8 * i)) (nums 1 (8 * (n - i)) k (b + 8 * i)) ≡ true
  unfolding equal_bytes nums
  words-end i l = let e : 8 * (n - i) ≡ 0 = omega (arith, l) in ap (λ (m : ℕ). equal_bytes (nums 1 m f (a + 8 * i)) (nums 1 m k (b + 8 * i))) e

  -- words, and what is left
  pub words-first : (w : ℕ) → 8 * w ≤ n → equal_bytes (nums 1 n f a) (nums 1 n k b) ≡ pick (equal_bytes (nums 1 (8 * w) f a) (nums 1 (8 * w) k b)) (equal_bytes (nums 1 (n - 8 * w) f (a + 8 * w)) (nums 1 (n - 8 * w) k (b + 8 * w))) false
  words-first w l =
      let e : n ≡ 8 * w + (n - 8 * w) = omega (arith, l) in
      ap (λ (m : ℕ). equal_bytes (nums 1 m f a) (nums 1 m k b)) e ∙ bytes-split f k (8 * w) (n - 8 * w) a b

-- a word at a place
pub word_at : (s : List ℕ) (at x : ℕ) → at + 8 ≤ length s → x ≡ or_zero (field 8 s at) → x ≡ num 8 s at
word_at s at x l e = e ∙ ap or_zero (field_in 8 s at (omega (arith, l)))

-- ---- keys one after another

abbrev reads : List ℕ → ℕ → ℕ → Res (List Key)
reads b fuel at = until at_end (λ (u : Unit {0}) k. u) (λ u. key) fuel tt b at

counted-more : (i : ℕ) (k : Key) (m : Res (List Key)) → counted i (then m (λ more end. ok (k ∷ more) end)) ≡ counted (i + 1) m
counted-more i k (ok ks q) = let e : i + suc (length ks) ≡ i + 1 + length ks = omega arith in ap keys e
counted-more i k (refuse x p r f) = refl

-- before each turn of counting
pub record Counting (b : List ℕ) (at n : ℕ) : Type 0 where
  pub fuel : ℕ
  pub enough : length b - at < fuel
  pub inside : at ≤ length b
  pub few : n ≤ at
  pub left : counted 0 (keys_of b) ≡ counted n (reads b fuel at)

pub count-start : (b : List ℕ) → Counting b 0 0
unfolding keys_of
count-start b = record { fuel = suc (length b); enough = omega arith; inside = omega arith; few = omega arith; left = refl }

not_end : (b : List ℕ) (at : ℕ) → at < length b → eqb at (length b) ≡ false
not_end b at l = ne_eqb at (length b) (λ e. absurd (omega (arith, e, l)))

count_turn : (b : List ℕ) (at n : ℕ) (fuel : ℕ) → length b - at < fuel → at < length b
    → (m : ℕ) × (fuel ≡ suc m) × (counted n (reads b fuel at) ≡ counted n (then (key b at) (λ k q. then (reads b m q) (λ more end. ok (k ∷ more) end))))
count_turn b at n zero w l = absurd (omega (arith, w))
count_turn b at n (suc m) w l = (m, refl, ap (counted n) (until-turn at_end (λ (u : Unit {0}) k. u) (λ u. key) b m tt at (not_end b at l)))

pub count_next : (b : List ℕ) (at n q : ℕ) → Counting b at n → at < length b → ok tt q ≡ id b at → Counting b q (n + 1) × (at < q)
count_next b at n q g l e = go (key b at) refl (sym (key-id b at) ∙ sym e)
  where
    go : (m : Res Key) → key b at ≡ m → done m ≡ ok tt q → Counting b q (n + 1) × (at < q)
    go (ok k r) i d =
        let t = count_turn b at n g.fuel g.enough l in
        let j = key-inv b at k r i in
        let rq : r ≡ q = ok-place d in (
          record {
            fuel = t.0;
            enough = omega (arith, g.enough, t.1, j.3, rq, j.1);
            inside = omega (arith, j.1, j.3, rq);
            few = omega (arith, g.few, j.3, rq);
            left = g.left ∙ t.2 ∙ ap (λ (m : Res Key). counted n (then m (λ k q. then (reads b t.0 q) (λ more end. ok (k ∷ more) end)))) i ∙ counted-more n k (reads b t.0 r) ∙ ap (λ (z : ℕ). counted (n + 1) (reads b t.0 z)) rq;
          },
          omega (arith, j.3, rq),
        )
    go (refuse x p r f) i d = clash d

pub count-refused : (b : List ℕ) (at n x p : ℕ) → Counting b at n → at < length b → refuse x p 0 0 ≡ id b at → refusal x p ≡ counted 0 (keys_of b)
count-refused b at n x p g l e = go (key b at) refl (sym (key-id b at) ∙ sym e)
  where
    go : (m : Res Key) → key b at ≡ m → done m ≡ refuse x p 0 0 → refusal x p ≡ counted 0 (keys_of b)
    go (ok k r) i d = clash (sym d)
    go (refuse y q r f) i d =
        let t = count_turn b at n g.fuel g.enough l in
        same y q r f d ∙ sym (g.left ∙ t.2 ∙ ap (λ (m : Res Key). counted n (then m (λ k q. then (reads b t.0 q) (λ more end. ok (k ∷ more) end)))) i)
      where
        same : (y q r f : ℕ) → ◌≡◌ {A = Res (Unit {0})} (refuse y q r f) (refuse x p 0 0) → refusal x p ≡ refusal y q
        same y q r f e = cc

pub count-end : (b : List ℕ) (at n : ℕ) → Counting b at n → length b ≤ at → keys n ≡ counted 0 (keys_of b)
count-end b at n g l =
    let z : n ≡ n + 0 = omega arith in
    ap keys z ∙ sym (g.left ∙ ap (counted n) (until_stop at_end (λ (u : Unit {0}) k. u) (λ u. key) b g.fuel tt at (eq-eqb at (length b) (omega (arith, l, g.inside)))))

-- ---- the answers

-- before each turn: the run at the start and as it is, and what is left of the keys
pub record Filling (b out₀ out : List ℕ) (f : Key → ℕ) (all : List Key) (at i : ℕ) : Type 0 where
  pub fuel : ℕ
  pub ks : List Key
  pub q : ℕ
  pub enough : length b - at < fuel
  pub inside : at ≤ length b
  pub keyed : reads b fuel at ≡ ok ks q
  pub room : i + length ks ≤ length out₀
  pub size : length out ≡ length out₀
  pub left : sets out₀ 0 (map f all) ≡ sets out i (map f ks)

pub fill_start : (b out : List ℕ) (f : Key → ℕ) (g : Keyed b (length out)) → Filling b out out f g.ks 0 0
unfolding keys_of
fill_start b out f g = record { fuel = suc (length b); ks = g.ks; q = g.q; enough = omega arith; inside = omega arith; keyed = g.reads; room = omega (arith, g.fits); size = refl; left = refl }

-- the key at `at`
pub record Next (b out₀ out : List ℕ) (f : Key → ℕ) (all : List Key) (at i tag size : ℕ) : Type 0 where
  pub inside : at + 4 + size ≤ length b
  pub room : i < length out
  pub next : (out' : List ℕ) → out' ≡ set out i (f (tag, nums 1 size b (at + 4))) → Filling b out₀ out' f all (at + 4 + size) (i + 1)

pub fill-next : (b out₀ out : List ℕ) (f : Key → ℕ) (all : List Key) (at i : ℕ) → Filling b out₀ out f all at i → at < length b → (tag size : ℕ) → tag ≡ or_zero (field 4 b at) → size ≡ body_size tag → Next b out₀ out f all at i tag size
fill-next b out₀ out f all at i g l tag size t z = go (until-inv at_end (λ (u : Unit {0}) k. u) (λ u. key) b g.fuel tt at g.keyed)
  where
    go : Went at_end (λ (u : Unit {0}) k. u) (λ u. key) b g.fuel tt at g.ks g.q → Next b out₀ out f all at i tag size
    go (stopped e n p) = absurd (eqb-false at (length b) (not_end b at l) (eqb-true at (length b) e))
    go (spent e n p) = absurd (omega (arith, e, g.enough))
    go (went m k r more e s h rest is) =
        let j = key-inv b at k r h in
        let tg : tag ≡ num 4 b at = t ∙ j.4 in
        let sz : size ≡ body_size (num 4 b at) = z ∙ ap body_size tg in
        let kk : k ≡ (tag, nums 1 size b (at + 4)) = j.2 ∙ ap₂ (λ (x y : ℕ). (x, nums 1 y b (at + 4))) (sym tg) (sym sz) in
        let end : at + 4 + size ≡ r = omega (arith, j.3, sz) in
        let n : suc (length more) ≡ length g.ks = ap length is in
        record {
          inside = omega (arith, j.1, sz);
          room = omega (arith, g.room, g.size, n);
          next = λ out' x. record {
            fuel = m;
            ks = more;
            q = g.q;
            enough = omega (arith, g.enough, e, j.1, sz, end);
            inside = omega (arith, j.1, sz);
            keyed = ap (reads b m) end ∙ rest;
            room = omega (arith, g.room, n);
            size = ap length x ∙ length-set out i (f (tag, nums 1 size b (at + 4))) ∙ g.size;
            left = g.left ∙ ap (λ (y : List Key). sets out i (map f y)) (sym is) ∙ step k kk more out' x;
          };
        }
      where
        step : (k : Key) → k ≡ (tag, nums 1 size b (at + 4)) → (more : List Key) (out' : List ℕ) → out' ≡ set out i (f (tag, nums 1 size b (at + 4))) → sets out i (f k ∷ map f more) ≡ sets out' (i + 1) (map f more)
        step k kk more out' x =
            let w : suc i ≡ i + 1 = omega arith in
            ap (λ (y : Key). sets (set out i (f y)) (suc i) (map f more)) kk ∙ ap₂ (λ (y : List ℕ) (v : ℕ). sets y v (map f more)) (sym x) w

map-length : (f : Key → ℕ) (ks : List Key) → length (map f ks) ≡ length ks
map-length f [] = refl
map-length f (k ∷ ks) = ap suc (map-length f ks)

pub fill_end : (s b out₀ out : List ℕ) (rs : List Row) (g : Keyed b (length out₀)) (at i : ℕ) → Filling b out₀ out (row_of s rs) g.ks at i → length b ≤ at → out ≡ answers_in s rs (keys_of b) out₀
fill_end s b out₀ out rs g at i w l =
    let f : Key → ℕ = row_of s rs in
    let stop = until_stop at_end (λ (u : Unit {0}) k. u) (λ u. key) b w.fuel tt at (eq-eqb at (length b) (omega (arith, l, w.inside))) in
    let none : w.ks ≡ [] = sym (ok-value (sym stop ∙ w.keyed)) in
    let z : 0 + length (map f g.ks) ≡ length (map f g.ks) = omega arith in
    sym (w.left ∙ ap (λ (y : List Key). sets out i (map f y)) none)
    ∙ sets-eq (map f g.ks) out₀ 0 (omega (arith, g.fits, map-length f g.ks))
    ∙ ap (λ (n : ℕ). onto' (map f g.ks) n) z
    ∙ sym (ap (λ (m : Res (List Key)). answers_in s rs m out₀) g.reads)
  where
    onto' : List ℕ → ℕ → List ℕ
    onto' vs n = vs ++ drop n out₀

-- ---- the call

module _ (s : List ℕ) (rs : List Row) (b out : List ℕ) where
  pub keys-refused : (x p : ℕ) → refusal x p ≡ counted 0 (keys_of b) → ◌≡◌ {A = Answered × List ℕ} (among_keys x p, out) (answering s rs (keys_of b) out)
  keys-refused x p e = go (keys_of b) e
    where
      go : (m : Res (List Key)) → refusal x p ≡ counted 0 m → ◌≡◌ {A = Answered × List ℕ} (among_keys x p, out) (answering s rs m out)
      go (ok ks q) e = let z : ◌≡◌ {A = ℕ} 0 1 = cc in absurd (omega arith)
      go (refuse y q r f) e = cc

  keys-are : (n : ℕ) → keys n ≡ counted 0 (keys_of b) → (ks : List Key) × (q : ℕ) × (keys_of b ≡ ok ks q) × (length ks ≡ n)
  keys-are n e = go (keys_of b) refl e
    where
      same : (ks : List Key) → keys n ≡ keys (0 + length ks) → 0 + length ks ≡ n
      same ks e = cc

      go : (m : Res (List Key)) → keys_of b ≡ m → keys n ≡ counted 0 m → (ks : List Key) × (q : ℕ) × (keys_of b ≡ ok ks q) × (length ks ≡ n)
      go (ok ks q) i e = (ks, q, i, omega (arith, same ks e))
      go (refuse x p r f) i e = let z : ◌≡◌ {A = ℕ} 0 1 = cc in absurd (omega arith)

  pub keys-fit : (n : ℕ) → keys n ≡ counted 0 (keys_of b) → n ≤ length out → Keyed b (length out)
  keys-fit n e l = let k = keys-are n e in record { ks = k.0; q = k.1; reads = k.2; fits = omega (arith, k.3, l) }

  pub keys-room : (n : ℕ) → keys n ≡ counted 0 (keys_of b) → length out < n → ◌≡◌ {A = Answered × List ℕ} (refused 11 0, out) (answering s rs (keys_of b) out)
  keys-room n e l =
      let k = keys-are n e in
      sym (ap (λ (m : Res (List Key)). answering s rs m out) k.2
      ∙ ap (λ (y : Bool). pick {A = Answered × List ℕ} y (answered (length k.0), onto (map (row_of s rs) k.0) out) (refused 11 0, out)) (lt-leb (length k.0) (length out) (omega (arith, k.3, l))))

  pub keys-answered : (n : ℕ) → keys n ≡ counted 0 (keys_of b) → n ≤ length out → {out' : List ℕ} → out' ≡ answers_in s rs (keys_of b) out → ◌≡◌ {A = Answered × List ℕ} (answered n, out') (answering s rs (keys_of b) out)
  keys-answered n e l {out'} x =
      let k = keys-are n e in
      let y : out' ≡ onto (map (row_of s rs) k.0) out = x ∙ ap (λ (m : Res (List Key)). answers_in s rs m out) k.2 in
      ap₂ (λ (m : ℕ) (z : List ℕ). (answered m, z)) (sym k.3) y
      ∙ sym (ap (λ (m : Res (List Key)). answering s rs m out) k.2
      ∙ ap (λ (y : Bool). pick {A = Answered × List ℕ} y (answered (length k.0), onto (map (row_of s rs) k.0) out) (refused 11 0, out)) (le-leb (length k.0) (length out) (omega (arith, k.3, l))))

-- ---- a key of a file against one with this length field and body

module _ (s : List ℕ) (at tag size : ℕ) (b : List ℕ) (z : size ≡ body_size tag) where
  pub compared-short : length s < at + 4 + size → false ≡ has_key (key s at) (tag, b)
  compared-short l = key-short s at tag b (omega (arith, l, z))

  module _ (l : at + 4 + size ≤ length s) {v : ℕ} (e : v ≡ or_zero (field 4 s at)) where
    loaded : v ≡ num 4 s at
    loaded = e ∙ ap or_zero (field_in 4 s at (omega (arith, l)))

    pub compared-other : (v ≡ tag → ⊥) → false ≡ has_key (key s at) (tag, b)
    compared-other h = key-whole s at tag b (omega (arith, l, z)) false (λ w. absurd (h (loaded ∙ w))) (λ w. refl)

    pub compared-body : v ≡ tag → (x : Bool) → x ≡ equal_bytes (nums 1 size s (at + 4)) b → x ≡ has_key (key s at) (tag, b)
    compared-body h x y = key-whole s at tag b (omega (arith, l, z)) x (λ w. y ∙ ap (λ (n : ℕ). equal_bytes (nums 1 n s (at + 4)) b) z) (λ w. absurd (w (sym loaded ∙ h)))
