-- Laws of several units in one word: its marks tell a zero lane, whatever the number of lanes. Assumes nothing.
use Prim.Native.Nat.{ℕ, zero, suc, ◌+◌, ◌*◌, ◌-◌, ◌/◌, ◌%◌, ◌^◌, ◌≤◌, ◌<◌, min, max}
use mathlib.Core.Path.{◌≡◌, refl, sym, ap, ap₂, ◌∙◌}
use mathlib.Core.List.{List}
use mathlib.Core.Bool.{Bool, true, false, not, true≢false}
use lib.Dec.{eqb}
use lib.Arith.{bin_ind}
use lib.Bits.{bit_and, bit_or, and_step, or_step, and_block, and_high, and_shr, and_mod, or_shr, and_zero_r, or_add_and, and_le_l, and_le_r, or_shifted_r}
use borrow.Author.Tests.{eq-eqb, ne_eqb}
use native.Mathlib.Omega.{arith}
use native.Mathlib.Nat.{div-add-mod', mul_assoc, pow-suc, mod-eq_of_lt, add-zero, zero-add, sub-zero}
use native.Mathlib.Decide.{ℕ_discrete}
use lib.ListN.{get_or}
use Rattle.algebra.specs.Numbers.{num, nums}
use Rattle.algebra.specs.Reader.{pick}
use Rattle.algebra.specs.Text.{any_zero}
use Rattle.algebra.specs.Lanes.{lanes, every, any_high_bit}
use Rattle.algebra.proofs.Texts.{swapped-zero}

-- ---- one lane

-- of two numbers that make 65534 one has no highest bit
top_apart : (v w : ℕ) → v + w ≡ 65534 → bit_and (bit_and v w) 32768 ≡ 0
top_apart v w e =
    let apart : bit_and (v / 32768) (w / 32768) ≡ 0 = elim (ℕ_discrete (v / 32768) 0) [
      | yes h ↦ ap (λ (z : ℕ). bit_and z (w / 32768)) h
      | no h ↦ let k : w / 32768 ≡ 0 = omega arith in ap (λ (z : ℕ). bit_and (v / 32768) z) k ∙ and_zero_r (v / 32768)
    ] in
    and_high (bit_and v w) 1 15 ∙ ap (λ (z : ℕ). z % 2 * 32768) (and_shr v w 15 ∙ apart)

-- a sum is zero where both are
eqb-sum : (a b : ℕ) → not (eqb (a * 65536 + b) 0) ≡ pick (not (eqb b 0)) true (not (eqb a 0))
eqb-sum a b = elim (ℕ_discrete b 0) [
  | yes h ↦ elim (ℕ_discrete a 0) [
    | yes g ↦ let e : a * 65536 + b ≡ 0 = omega arith in rw (eq-eqb _ _ e, eq-eqb _ _ h, eq-eqb _ _ g)
    | no g ↦ let e : a * 65536 + b ≡ 0 → ⊥ = λ z. g (omega arith) in rw (ne_eqb _ _ e, eq-eqb _ _ h, ne_eqb _ _ g)
  ]
  | no h ↦ let e : a * 65536 + b ≡ 0 → ⊥ = λ z. h (omega arith) in rw (ne_eqb _ _ e, ne_eqb _ _ h)
]

either : (x y z : Bool) → pick x true (pick y true z) ≡ pick (pick x true y) true z
either true y z = refl
either false y z = refl

neither : (x y : Bool) → pick x true y ≡ false → (x ≡ false) × (y ≡ false)
neither true y e = absurd (true≢false e)
neither false y e = (refl, e)

pub not-false : (x : Bool) → not x ≡ false → x ≡ true
not-false true e = refl
not-false false e = absurd (true≢false e)

-- ---- the marks of a word, lane by lane from the lowest

-- the word is marked in its lowest lane or in the others
marked-low : (k m : ℕ) → any_high_bit (suc k) m ≡ pick (not (eqb (bit_and (m % 65536) 32768) 0)) true (any_high_bit k (m / 65536))
unfolding any_high_bit every
marked-low k m =
    ap (λ (z : ℕ). not (eqb (bit_and z (every k 32768 * 65536 + 32768)) 0)) (sym (div-add-mod' m 65536))
    ∙ ap (λ (z : ℕ). not (eqb z 0)) (and_block 16 (m / 65536) (every k 32768) (m % 65536) 32768 (omega arith) (omega arith))
    ∙ eqb-sum (bit_and (m / 65536) (every k 32768)) (bit_and (m % 65536) 32768)

-- the lowest lane of a word, less one, and of its complement: marked where it is zero, and the others borrow nothing where it is not
module _ (x y n E B M : ℕ) (less : y + (E * 65536 + 1) ≡ x + B * 65536) (rest : n + x + 1 ≡ M * 65536) where
  low-zero : x % 65536 ≡ 0 → not (eqb (bit_and (bit_and (y % 65536) (n % 65536)) 32768) 0) ≡ true
  low-zero h =
      let v : y % 65536 ≡ 65535 = omega arith in
      let w : n % 65536 ≡ 65535 = omega arith in
      rw (v, w)

  low-else : (x % 65536 ≡ 0 → ⊥) → not (eqb (bit_and (bit_and (y % 65536) (n % 65536)) 32768) 0) ≡ false
  low-else h = let vw : y % 65536 + n % 65536 ≡ 65534 = omega arith in rw (top_apart (y % 65536) (n % 65536) vw)

  high-less : (x % 65536 ≡ 0 → ⊥) → y / 65536 + E ≡ x / 65536 + B
  high-less h = omega arith

  high-rest : n / 65536 + x / 65536 + 1 ≡ M
  high-rest = omega arith

-- the lowest lane by itself, of a word less one in each lane
lane-less : (k x y b : ℕ) → y + every (suc k) 1 ≡ x + b * 65536 ^ suc k → y + (every k 1 * 65536 + 1) ≡ x + b * 65536 ^ k * 65536
unfolding every
lane-less k x y b less = less ∙ ap (λ (z : ℕ). x + z) (ap (λ (z : ℕ). b * z) (pow-suc 65536 k) ∙ sym (mul_assoc b (65536 ^ k) 65536))

-- a word less one in each lane (with what it borrows), and its complement: both have some lane's highest bit exactly where a lane is zero
pub zero-marked : (k x y n b : ℕ) → y + every k 1 ≡ x + b * 65536 ^ k → n + x + 1 ≡ 65536 ^ k → any_high_bit k (bit_and y n) ≡ any_zero (lanes k x)
unfolding any_high_bit every lanes any_zero
zero-marked zero x y n b less rest = ap (λ (z : ℕ). not (eqb z 0)) (and_zero_r (bit_and y n))
zero-marked (suc k) x y n b less rest =
    let l = lane-less k x y b less in
    let r : n + x + 1 ≡ 65536 ^ k * 65536 = rest ∙ pow-suc 65536 k in
    marked-low k (bit_and y n)
    ∙ ap₂ (λ (u v : ℕ). pick (not (eqb (bit_and u 32768) 0)) true (any_high_bit k v)) (and_mod y n 16) (and_shr y n 16)
    ∙ elim (ℕ_discrete (x % 65536) 0) [
      | yes h ↦ rw (low-zero x y n _ _ _ l r h, eq-eqb _ _ h)
      | no h ↦ rw (low-else x y n _ _ _ l r h, ne_eqb _ _ h) (zero-marked k (x / 65536) (y / 65536) (n / 65536) b (high-less x y n _ _ _ l r h) (high-rest x y n _ _ _ l r))
    ]

-- where a word less one in each lane is not marked, no lane is zero
pub none-marked : (k x y b : ℕ) → y + every k 1 ≡ x + b * 65536 ^ k → any_high_bit k y ≡ false → any_zero (lanes k x) ≡ false
unfolding every lanes any_zero
none-marked zero x y b less clear = refl
none-marked (suc k) x y b less clear =
    let l = lane-less k x y b less in
    let c : pick (not (eqb (bit_and (y % 65536) 32768) 0)) true (any_high_bit k (y / 65536)) ≡ false = sym (marked-low k y) ∙ clear in
    elim (ℕ_discrete (x % 65536) 0) [
      | yes h ↦ let v : y % 65536 ≡ 65535 = omega arith in absurd (true≢false (sym (ap (λ (z : ℕ). pick (not (eqb (bit_and z 32768) 0)) true (any_high_bit k (y / 65536))) v) ∙ c))
      | no h ↦
          let g : y / 65536 + every k 1 ≡ x / 65536 + b * 65536 ^ k = omega arith in
          rw (ne_eqb _ _ h) (none-marked k (x / 65536) (y / 65536) b g (neither (not (eqb (bit_and (y % 65536) 32768) 0)) (any_high_bit k (y / 65536)) c).1)
    ]

-- ---- words kept by `or`

digit : (p q r : ℕ) → min (max p q) r ≡ max (min p r) (min q r)
digit p q r = omega arith

and-odd : (a b : ℕ) → bit_and a b % 2 ≡ min (a % 2) (b % 2)
and-odd a b = let e = and_step a b in omega arith

or-odd : (a b : ℕ) → bit_or a b % 2 ≡ max (a % 2) (b % 2)
or-odd a b = let e = or_step a b in omega arith

-- a mask goes into both sides of `or`
pub and-or : (a b m : ℕ) → bit_and (bit_or a b) m ≡ bit_or (bit_and a m) (bit_and b m)
and-or a =
    bin_ind (λ (n : ℕ). (b m : ℕ) → bit_and (bit_or n b) m ≡ bit_or (bit_and n m) (bit_and b m)) (λ b m. refl)
    (λ n ih b m.
    and_step (bit_or n b) m
    ∙ ap₂ (λ (h l : ℕ). bit_and h (m / 2) * 2 + min l (m % 2)) (or_shr n b 1) (or-odd n b)
    ∙ ap₂ (λ (h l : ℕ). h * 2 + l) (ih (b / 2) (m / 2)) (digit (n % 2) (b % 2) (m % 2))
    ∙ sym (or_step (bit_and n m) (bit_and b m)
    ∙ ap₂ (λ (h l : ℕ). bit_or h (bit_and b m / 2) * 2 + max l (bit_and b m % 2)) (and_shr n m 1) (and-odd n m)
    ∙ ap₂ (λ (h l : ℕ). bit_or (bit_and (n / 2) (m / 2)) h * 2 + max (min (n % 2) (m % 2)) l) (and_shr b m 1) (and-odd b m))) a

or-none : (p q : ℕ) → not (eqb (bit_or p q) 0) ≡ pick (not (eqb p 0)) true (not (eqb q 0))
or-none p q =
    let e = or_add_and p q in
    let l = and_le_l p q in
    let r = and_le_r p q in
    elim (ℕ_discrete p 0) [
      | yes h ↦ rw (h)
      | no h ↦ let z : bit_or p q ≡ 0 → ⊥ = λ o. h (omega arith) in rw (ne_eqb _ _ z, ne_eqb _ _ h)
    ]

-- words kept by `or` are marked where one of them is
pub marked-or : (k a b : ℕ) → any_high_bit k (bit_or a b) ≡ pick (any_high_bit k a) true (any_high_bit k b)
unfolding any_high_bit
marked-or k a b = ap (λ (z : ℕ). not (eqb z 0)) (and-or a b (every k 32768)) ∙ or-none (bit_and a (every k 32768)) (bit_and b (every k 32768))

-- ---- four lanes

-- x less one in each of four lanes, modulo 2^64, and the complement of x, are both marked exactly where one of the four is zero
pub four-marked : (x y : ℕ) → x < 2 ^ 64 → (y + 0x0001_0001_0001_0001) % 2 ^ 64 ≡ x → any_high_bit 4 (bit_and y (0xFFFF_FFFF_FFFF_FFFF - x)) ≡ any_zero (lanes 4 x)
unfolding every
four-marked x y h less =
    let l : y + 0x0001_0001_0001_0001 ≡ x + (y + 0x0001_0001_0001_0001) / 2 ^ 64 * 2 ^ 64 = omega arith in
    let r : 0xFFFF_FFFF_FFFF_FFFF - x + x + 1 ≡ 2 ^ 64 = omega arith in
    zero-marked 4 x y _ _ l r

pub four-clear : (x y : ℕ) → (y + 0x0001_0001_0001_0001) % 2 ^ 64 ≡ x → any_high_bit 4 y ≡ false → any_zero (lanes 4 x) ≡ false
unfolding every
four-clear x y less =
    let l : y + 0x0001_0001_0001_0001 ≡ x + (y + 0x0001_0001_0001_0001) / 2 ^ 64 * 2 ^ 64 = omega arith in
    none-marked 4 x y _ l

-- the next byte of a word, above the k bits that are there
abbrev next : ℕ → ℕ → ℕ → ℕ
next k w b = bit_or w ((b * 2 ^ k) % 2 ^ 64)

next-is : (k w v b : ℕ) → w ≡ v → v < 2 ^ k → b * 2 ^ k < 2 ^ 64 → next k w b ≡ b * 2 ^ k + v
next-is k w v b e hv hb = ap₂ bit_or e (mod-eq_of_lt hb) ∙ or_shifted_r b k v hv

-- one of the bytes of a word, as it is loaded
abbrev Loaded : List ℕ → ℕ → ℕ → Type 0
Loaded s p b = (b ≡ get_or s p 0) × (b < 256)

-- a lane that holds a unit's bytes swapped is zero where the unit is
lane-unit : (s : List ℕ) (p q r a b : ℕ) → p ≡ q → p + 1 ≡ r → Loaded s q a → Loaded s r b → eqb (b * 256 + a) 0 ≡ eqb (num 2 s p) 0
unfolding num
lane-unit s p q r a b e f ha hb =
    let high : get_or s (p + 0) 0 ≡ a = ap (λ (k : ℕ). get_or s k 0) (add-zero p ∙ e) ∙ sym ha.0 in
    let low : get_or s (p + 1) 0 ≡ b = ap (λ (k : ℕ). get_or s k 0) f ∙ sym hb.0 in
    let ka = ha.1 in
    let kb = hb.1 in
    let z : 256 * ((b * 256 + a) % 256) + (b * 256 + a) / 256 ≡ num 2 s p = omega arith in
    swapped-zero (b * 256 + a) (num 2 s p) z

-- and the lanes above it where the units behind it are
lane-more : (k x : ℕ) (s : List ℕ) (p q r a b : ℕ) → p ≡ q → p + 1 ≡ r → Loaded s q a → Loaded s r b → any_zero (lanes k x) ≡ any_zero (nums 2 k s (p + 2)) → any_zero (lanes (suc k) (x * 65536 + (b * 256 + a))) ≡ any_zero (nums 2 (suc k) s p)
unfolding lanes nums any_zero
lane-more k x s p q r a b e f la lb more =
    let ha = la.1 in
    let hb = lb.1 in
    let m : (x * 65536 + (b * 256 + a)) % 65536 ≡ b * 256 + a = omega arith in
    let d : (x * 65536 + (b * 256 + a)) / 65536 ≡ x = omega arith in
    rw (m, d, lane-unit s p q r a b e f la lb, more)

module _ (s : List ℕ) (at a b c d e f g h : ℕ)
    (la : Loaded s at a) (lb : Loaded s (at + 1) b) (lc : Loaded s (at + 2) c) (ld : Loaded s (at + 3) d)
    (le : Loaded s (at + 4) e) (lf : Loaded s (at + 5) f) (lg : Loaded s (at + 6) g) (lh : Loaded s (at + 7) h) where
  word : next 56 (next 48 (next 40 (next 32 (next 24 (next 16 (next 8 a b) c) d) e) f) g) h ≡ (((0 * 65536 + (h * 256 + g)) * 65536 + (f * 256 + e)) * 65536 + (d * 256 + c)) * 65536 + (b * 256 + a)
  word =
      let ha = la.1 in
      let hb = lb.1 in
      let hc = lc.1 in
      let hd = ld.1 in
      let he = le.1 in
      let hf = lf.1 in
      let hg = lg.1 in
      let hh = lh.1 in
      let n1 = next-is 8 a a b refl ha (omega arith) in
      let n2 = next-is 16 _ (b * 2 ^ 8 + a) c n1 (omega arith) (omega arith) in
      let n3 = next-is 24 _ (c * 2 ^ 16 + (b * 2 ^ 8 + a)) d n2 (omega arith) (omega arith) in
      let n4 = next-is 32 _ (d * 2 ^ 24 + (c * 2 ^ 16 + (b * 2 ^ 8 + a))) e n3 (omega arith) (omega arith) in
      let n5 = next-is 40 _ (e * 2 ^ 32 + (d * 2 ^ 24 + (c * 2 ^ 16 + (b * 2 ^ 8 + a)))) f n4 (omega arith) (omega arith) in
      let n6 = next-is 48 _ (f * 2 ^ 40 + (e * 2 ^ 32 + (d * 2 ^ 24 + (c * 2 ^ 16 + (b * 2 ^ 8 + a))))) g n5 (omega arith) (omega arith) in
      let n7 = next-is 56 _ (g * 2 ^ 48 + (f * 2 ^ 40 + (e * 2 ^ 32 + (d * 2 ^ 24 + (c * 2 ^ 16 + (b * 2 ^ 8 + a)))))) h n6 (omega arith) (omega arith) in
      let sum : h * 2 ^ 56 + (g * 2 ^ 48 + (f * 2 ^ 40 + (e * 2 ^ 32 + (d * 2 ^ 24 + (c * 2 ^ 16 + (b * 2 ^ 8 + a)))))) ≡ (((0 * 65536 + (h * 256 + g)) * 65536 + (f * 256 + e)) * 65536 + (d * 256 + c)) * 65536 + (b * 256 + a) = omega arith in
      n7 ∙ sum

  -- a zero is in one of the four lanes where it is in one of the four units
  pub four-loaded : any_zero (lanes 4 (next 56 (next 48 (next 40 (next 32 (next 24 (next 16 (next 8 a b) c) d) e) f) g) h)) ≡ any_zero (nums 2 4 s at)
  unfolding lanes nums any_zero
  four-loaded =
      ap (λ (w : ℕ). any_zero (lanes 4 w)) word
      ∙ lane-more 3 _ s at _ _ a b refl refl la lb
      (lane-more 2 _ s (at + 2) _ _ c d refl (omega arith) lc ld
      (lane-more 1 _ s (at + 2 + 2) (at + 4) (at + 5) e f (omega arith) (omega arith) le lf
      (lane-more 0 0 s (at + 2 + 2 + 2) (at + 6) (at + 7) g h (omega arith) (omega arith) lg lh refl)))

-- ---- a loop that looks at four units at a time: what is marked, or what is left to look at

-- a zero is among the first a units, or among the b behind them
pub any-split : (a b : ℕ) (s : List ℕ) (at : ℕ) → any_zero (nums 2 (a + b) s at) ≡ pick (any_zero (nums 2 a s at)) true (any_zero (nums 2 b s (at + 2 * a)))
unfolding nums any_zero
any-split zero b s at = ap₂ (λ (k p : ℕ). any_zero (nums 2 k s p)) (zero-add b) (sym (add-zero at))
any-split (suc a) b s at =
    let k : suc a + b ≡ suc (a + b) = omega arith in
    let p : at + 2 + 2 * a ≡ at + 2 * suc a = omega arith in
    ap (λ (n : ℕ). any_zero (nums 2 n s at)) k
    ∙ ap (λ (x : Bool). pick (eqb (num 2 s at) 0) true x) (any-split a b s (at + 2) ∙ ap (λ (q : ℕ). pick (any_zero (nums 2 a s (at + 2))) true (any_zero (nums 2 b s q))) p)
    ∙ either (eqb (num 2 s at) 0) (any_zero (nums 2 a s (at + 2))) (any_zero (nums 2 b s (at + 2 * suc a)))

module _ (s : List ℕ) (at k : ℕ) where
  pub fours-start : any_zero (nums 2 (4 * k) s at) ≡ pick (any_high_bit 4 0) true (any_zero (nums 2 (4 * (k - 0)) s (at + 0)))
  unfolding any_high_bit every
  fours-start = rw (sub-zero, add-zero)

  module _ (all : Bool) (found i : ℕ) (inv : all ≡ pick (any_high_bit 4 found) true (any_zero (nums 2 (4 * (k - i)) s (at + 8 * i)))) where
    pub fours-on : (m : ℕ) → i < k → any_high_bit 4 m ≡ any_zero (nums 2 4 s (at + 8 * i)) → all ≡ pick (any_high_bit 4 (bit_or found m)) true (any_zero (nums 2 (4 * (k - (i + 1))) s (at + 8 * (i + 1))))
    fours-on m h e =
        let n : 4 * (k - i) ≡ 4 + 4 * (k - (i + 1)) = omega arith in
        let p : at + 8 * i + 2 * 4 ≡ at + 8 * (i + 1) = omega arith in
        inv
        ∙ ap (λ (x : Bool). pick (any_high_bit 4 found) true x)
        (ap (λ (j : ℕ). any_zero (nums 2 j s (at + 8 * i))) n ∙ any-split 4 (4 * (k - (i + 1))) s (at + 8 * i)
        ∙ ap₂ (λ (x : Bool) (q : ℕ). pick x true (any_zero (nums 2 (4 * (k - (i + 1))) s q))) (sym e) p)
        ∙ either (any_high_bit 4 found) (any_high_bit 4 m) (any_zero (nums 2 (4 * (k - (i + 1))) s (at + 8 * (i + 1))))
        ∙ ap (λ (x : Bool). pick x true (any_zero (nums 2 (4 * (k - (i + 1))) s (at + 8 * (i + 1))))) (sym (marked-or 4 found m))

    pub fours-end : k ≤ i → all ≡ any_high_bit 4 found
    unfolding nums any_zero
    fours-end h = inv ∙ ap (λ (j : ℕ). pick (any_high_bit 4 found) true (any_zero (nums 2 j s (at + 8 * i)))) (let m : 4 * (k - i) ≡ 0 = omega arith in m) ∙ go (any_high_bit 4 found)
      where
        go : (x : Bool) → pick x true false ≡ x
        go true = refl
        go false = refl

-- the fours of n units, and the one to three that are left
module _ (s : List ℕ) (at n : ℕ) where
  split : any_zero (nums 2 n s at) ≡ pick (any_zero (nums 2 (4 * (n / 4)) s at)) true (any_zero (nums 2 (n % 4) s (at + 8 * (n / 4))))
  split =
      let m : n ≡ 4 * (n / 4) + n % 4 = omega arith in
      let p : at + 2 * (4 * (n / 4)) ≡ at + 8 * (n / 4) = omega arith in
      ap (λ (k : ℕ). any_zero (nums 2 k s at)) m ∙ any-split (4 * (n / 4)) (n % 4) s at
      ∙ ap (λ (q : ℕ). pick (any_zero (nums 2 (4 * (n / 4)) s at)) true (any_zero (nums 2 (n % 4) s q))) p

  pub four-found : any_zero (nums 2 (4 * (n / 4)) s at) ≡ true → any_zero (nums 2 n s at) ≡ true
  four-found e = split ∙ rw e

  pub tail-left : any_zero (nums 2 (4 * (n / 4)) s at) ≡ false → any_zero (nums 2 n s at) ≡ any_zero (nums 2 (n % 4) s (at + 8 * (n / 4)))
  tail-left e = split ∙ rw e

-- ---- long names: what is clear at a glance, and what is left

module _ (s : List ℕ) (at : ℕ) where
  pub clear-start : any_zero (nums 2 (4 * 0) s at) ≡ false
  unfolding nums any_zero
  clear-start = refl

  -- units that are clear, and those behind them
  pub clear-more : (a b : ℕ) → any_zero (nums 2 a s at) ≡ false → any_zero (nums 2 b s (at + 2 * a)) ≡ false → any_zero (nums 2 (a + b) s at) ≡ false
  clear-more a b e f = any-split a b s at ∙ rw (e, f)

  pub glance-on : (found m i : ℕ) → (any_high_bit 4 found ≡ false → any_zero (nums 2 (4 * i) s at) ≡ false) → (any_high_bit 4 m ≡ false → any_zero (nums 2 4 s (at + 8 * i)) ≡ false)
      → any_high_bit 4 (bit_or found m) ≡ false → any_zero (nums 2 (4 * (i + 1)) s at) ≡ false
  glance-on found m i inv one e =
      let both = neither (any_high_bit 4 found) (any_high_bit 4 m) (sym (marked-or 4 found m) ∙ e) in
      let n : 4 * (i + 1) ≡ 4 * i + 4 = omega arith in
      let p : at + 2 * (4 * i) ≡ at + 8 * i = omega arith in
      ap (λ (k : ℕ). any_zero (nums 2 k s at)) n
      ∙ clear-more (4 * i) 4 (inv both.0) (ap (λ (q : ℕ). any_zero (nums 2 4 s q)) p ∙ one both.1)

  pub glance-end : (found i : ℕ) → i ≤ 32 → 32 ≤ i → (any_high_bit 4 found ≡ false → any_zero (nums 2 (4 * i) s at) ≡ false) → eqb (bit_and found 0x8000_8000_8000_8000) 0 ≡ true → any_zero (nums 2 128 s at) ≡ false
  unfolding any_high_bit every
  glance-end found i h g inv e = let n : 128 ≡ 4 * i = omega arith in ap (λ (k : ℕ). any_zero (nums 2 k s at)) n ∙ inv (ap not e)

  pub clear-join : (i j : ℕ) → any_zero (nums 2 (4 * i) s at) ≡ false → any_zero (nums 2 (4 * j) s (at + 8 * i)) ≡ false → any_zero (nums 2 (4 * (i + j)) s at) ≡ false
  clear-join i j e f =
      let n : 4 * (i + j) ≡ 4 * i + 4 * j = omega arith in
      let p : at + 2 * (4 * i) ≡ at + 8 * i = omega arith in
      ap (λ (k : ℕ). any_zero (nums 2 k s at)) n ∙ clear-more (4 * i) (4 * j) e (ap (λ (q : ℕ). any_zero (nums 2 (4 * j) s q)) p ∙ f)

  -- what is left behind clear units
  pub clear-left : (n k : ℕ) → k ≤ n / 4 → any_zero (nums 2 (4 * k) s at) ≡ false → any_zero (nums 2 n s at) ≡ any_zero (nums 2 (n - 4 * k) s (at + 8 * k))
  clear-left n k h e =
      let m : n ≡ 4 * k + (n - 4 * k) = omega arith in
      let p : at + 2 * (4 * k) ≡ at + 8 * k = omega arith in
      ap (λ (j : ℕ). any_zero (nums 2 j s at)) m ∙ any-split (4 * k) (n - 4 * k) s at ∙ rw (e, p)
