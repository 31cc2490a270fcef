-- Rows that tile are the rows of their heads: a row ends where the next one begins that is no deeper, and its parent is the last row before it of one depth less. Assumes nothing.
use Prim.Native.Nat.{ℕ, suc, ◌+◌, ◌-◌, ◌≤◌, ◌<◌}
use mathlib.Core.Path.{◌≡◌, refl, sym, ap, ◌∙◌}
use mathlib.Core.List.{List, [], ◌∷◌, ◌++◌, append-nil, append_assoc, map}
use mathlib.Core.Bool.{Bool}
use lib.ListN.{length, length-append}
use borrow.Author.Tests.{le-leb, lt-leb, ne_eqb, eq-eqb}
use native.Mathlib.Omega.{arith}
use Rattle.algebra.specs.Reader.{pick}
use Rattle.descriptor.specs.Reading.{Row}
use Rattle.descriptor.specs.Tiles.{Tiled, none, one}
use Rattle.descriptor_heads.specs.Heads.{Head}
use Rattle.descriptor_heads.specs.Rows.{row_end, now_under, rows_from, head_of}

-- the heads of some rows, and more behind them
abbrev pub behind : List Row → List Head → List Head
behind [] more = more
behind (r ∷ rs) more = head_of r ∷ behind rs more

pub behind-append : (rs qs : List Row) (more : List Head) → behind (rs ++ qs) more ≡ behind rs (behind qs more)
behind-append [] qs more = refl
behind-append (r ∷ rs) qs more = ap (λ (l : List Head). head_of r ∷ l) (behind-append rs qs more)

pub behind-none : (rs : List Row) → behind rs [] ≡ map head_of rs
behind-none [] = refl
behind-none (r ∷ rs) = ap (λ (l : List Head). head_of r ∷ l) (behind-none rs)

-- a deeper head is passed by
pub end-deeper : (d : ℕ) (h : Head) (hs : List Head) (e : ℕ) → d < h.depth → row_end d (h ∷ hs) e ≡ row_end d hs e
unfolding row_end
end-deeper d h hs e l = ap (λ (b : Bool). pick b h.first (row_end d hs e)) (lt-leb h.depth d l)

-- any other is the end
pub end-here : (d : ℕ) (h : Head) (hs : List Head) (e : ℕ) → h.depth ≤ d → row_end d (h ∷ hs) e ≡ h.first
unfolding row_end
end-here d h hs e l = ap (λ (b : Bool). pick b h.first (row_end d hs e)) (le-leb h.depth d l)

-- rows at a greater depth are passed by
pub past-tiles : {d p k lo hi : ℕ} {rs : List Row} → Tiled d p k lo hi rs → (j : ℕ) → j < d → (more : List Head) (e : ℕ) → row_end j (behind rs more) e ≡ row_end j more e
past-tiles none j l more e = refl
past-tiles {d} (one r cs qs head a b c h v z t u) j l more e =
    end-deeper j (head_of r) (behind (cs ++ qs) more) e (omega (arith, b))
    ∙ ap (λ (x : List Head). row_end j x e) (behind-append cs qs more)
    ∙ past-tiles t j (omega arith) (behind qs more) e
    ∙ past-tiles u j l more e

-- rows at this depth or less begin where they begin
pub front-tiles : {d p k lo hi : ℕ} {rs : List Row} → Tiled d p k lo hi rs → (j : ℕ) → d ≤ j → (more : List Head) (e : ℕ) → row_end j more e ≡ hi → row_end j (behind rs more) e ≡ lo
front-tiles none j l more e w = w
front-tiles (one r cs qs head a b c h v z t u) j l more e w = end-here j (head_of r) (behind (cs ++ qs) more) e (omega (arith, b)) ∙ c

-- the parents of rows at d and above, after rows that all are at d or deeper
pub record Kept (d : ℕ) (old new : ℕ → ℕ) : Type 0 where
  pub same : (j : ℕ) → j ≤ d → new j ≡ old j

module _ (e : ℕ) where
  -- the rows, and then the rows of what is behind
  tiles-rows : {d p k lo hi : ℕ} {rs : List Row} → Tiled d p k lo hi rs → (up : ℕ → ℕ) → up d ≡ p → (more : List Head) → ((j : ℕ) → d ≤ j → row_end j more e ≡ hi)
      → (new : ℕ → ℕ) × Kept d up new × (rows_from e k up (behind rs more) ≡ rs ++ rows_from e (k + length rs) new more)
  unfolding rows_from
  tiles-rows {k = k} none up x more w = let z : k ≡ k + 0 = omega arith in (up, record { same = λ j l. refl }, ap (λ (n : ℕ). rows_from e n up more) z)
  tiles-rows {d} {p} {k} {lo} {hi} (one r cs qs head a b c h v z t u) up x more w =
      let up' : ℕ → ℕ = now_under up (d + 1) k in
      let f : (j : ℕ) → d + 1 ≤ j → row_end j (behind qs more) e ≡ lo + r.size = λ j l. front-tiles u j (omega arith) more e (w j (omega arith)) in
      let i = tiles-rows t up' (ap (λ (y : Bool). pick y k (up (d + 1))) (eq-eqb (d + 1) (d + 1) refl)) (behind qs more) f in
      let new : ℕ → ℕ = i.0 in
      let low : (j : ℕ) → j ≤ d → new j ≡ up j = λ j l. i.1.same j (omega arith) ∙ ap (λ (y : Bool). pick y k (up j)) (ne_eqb j (d + 1) (λ q. absurd (omega (arith, q, l)))) in
      let i' = tiles-rows u new (low d (omega arith) ∙ x) more w in
      let end : row_end r.depth (behind (cs ++ qs) more) e ≡ lo + r.size =
      ap (λ (y : ℕ). row_end y (behind (cs ++ qs) more) e) b ∙ ap (λ (y : List Head). row_end d y e) (behind-append cs qs more) ∙ past-tiles t d (omega arith) (behind qs more) e ∙ front-tiles u d (omega arith) more e (w d (omega arith)) in
      let size : row_end r.depth (behind (cs ++ qs) more) e - r.first ≡ r.size = omega (arith, end, c) in
      let par : up r.depth ≡ r.parent = ap up b ∙ x ∙ sym a in
      let num : k + 1 + length cs + length qs ≡ k + suc (length (cs ++ qs)) = omega (arith, length-append cs qs) in (
        i'.0,
        record { same = λ j l. i'.1.same j l ∙ low j l },
        ap (λ (y : ℕ). record { kind = r.kind; parent = y; first = r.first; size = row_end r.depth (behind (cs ++ qs) more) e - r.first; depth = r.depth; value = r.value } ∷ rows_from e (k + 1) (now_under up (r.depth + 1) k) (behind (cs ++ qs) more)) par
            ∙ ap (λ (y : ℕ). record { kind = r.kind; parent = r.parent; first = r.first; size = y; depth = r.depth; value = r.value } ∷ rows_from e (k + 1) (now_under up (r.depth + 1) k) (behind (cs ++ qs) more)) size
            ∙ ap (λ (l : List Row). r ∷ l) (
            ap (λ (y : ℕ). rows_from e (k + 1) (now_under up (y + 1) k) (behind (cs ++ qs) more)) b
            ∙ ap (λ (y : List Head). rows_from e (k + 1) up' y) (behind-append cs qs more)
            ∙ i.2
            ∙ ap (λ (l : List Row). cs ++ l) i'.2
            ∙ ap (λ (y : ℕ). cs ++ (qs ++ rows_from e y i'.0 more)) num
            ∙ sym (append_assoc cs qs (rows_from e (k + suc (length (cs ++ qs))) i'.0 more))
            ),
      )

  -- rows that fill a file are the rows of their heads
  pub tiled-rows : {rs : List Row} → Tiled 0 0 0 0 e rs → rows_from e 0 (λ j. 0) (map head_of rs) ≡ rs
  unfolding row_end rows_from
  tiled-rows {rs} t = go (tiles-rows t (λ j. 0) refl [] (λ j l. nothing j))
    where
      nothing : (j : ℕ) → row_end j [] e ≡ e
      nothing j = refl

      go : (new : ℕ → ℕ) × Kept 0 (λ j. 0) new × (rows_from e 0 (λ j. 0) (behind rs []) ≡ rs ++ rows_from e (0 + length rs) new []) → rows_from e 0 (λ j. 0) (map head_of rs) ≡ rs
      go i = ap (rows_from e 0 (λ j. 0)) (sym (behind-none rs)) ∙ i.2 ∙ append-nil rs
