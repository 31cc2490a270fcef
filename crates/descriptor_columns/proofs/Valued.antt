-- The turns of the loop that stores where values begin. Assumes nothing.
use Prim.Native.Nat.{ℕ, suc, ◌+◌, ◌-◌, ◌≤◌, ◌<◌}
use mathlib.Core.Path.{◌≡◌, refl, sym, ap, ◌∙◌, subst}
use mathlib.Core.List.{List, [], ◌∷◌}
use lib.ListN.{length, set, get_or, length-set}
use native.Mathlib.Omega.{arith}
use Rattle.descriptor_heads.specs.Heads.{Head, member_head}
use Rattle.descriptor_raw.specs.Raw.{due_of, Sees}
use Rattle.descriptor_raw.specs.declared.RawHead.{RawHead}
use Rattle.descriptor_columns.specs.scaffold.Filling.{value_in, dues, puts, Begun, rest}
use Rattle.descriptor_columns.specs.declared.Level.{Level}
use Rattle.descriptor_columns.proofs.Levels.{level, nothing, levels, levels-length, levels-push, levels-pop, dues-length}
use Rattle.descriptor_columns.proofs.Stores.{put-head, put-none}
use Rattle.descriptor_columns.proofs.Walking.{Walking, Headed, walk_start, walk-close, walk_end, walk-head}

-- what is due at a level
abbrev pub due : ℕ → ℕ → ℕ → Level
due what objects left = level what objects left 0 0

pub record Loop (s : List ℕ) (rows : ℕ) (hs₀ : List Head) (f f' : List ℕ) (saved : List Level) (n : ℕ) (l : Level) (k at : ℕ) : Type 0 where
  pub hs : List Head
  pub walking : Walking s rows (dues (l ∷ levels saved n)) k at hs
  pub values : puts value_in k hs f' ≡ puts value_in 1 hs₀ f
  pub size : length f' ≡ length f
  pub room : length saved ≡ 33

pub start : (s : List ℕ) (what objects left at rows : ℕ) (f : List ℕ) (saved : List Level) → length saved ≡ 33 → Begun s what objects left at rows
    → Loop s rows (rest s what objects left at) f f saved 0 (due what objects left) 1 at
start s what objects left at rows f saved r g = record { hs = rest s what objects left at; walking = walk_start s what objects left at rows g; values = refl; size = refl; room = r }

module _ (s : List ℕ) (rows : ℕ) (hs₀ : List Head) (f : List ℕ) where
  module _ {f' : List ℕ} {saved : List Level} {n k at : ℕ} (l : Level) (g : Loop s rows hs₀ f f' saved n l k at) where
    abbrev pub ls : List Level
    ls = levels saved n

    many : length (dues ls) ≡ n
    many = dues-length ls ∙ levels-length saved n

    pub facts : (k ≤ rows) × (at ≤ 16777216) × (rows ≤ 16777216) × (n ≤ 32) × (at ≤ length s)
    facts = let w = g.walking in (omega (arith, w.count), omega (arith, w.inside, w.size), w.few, omega (arith, w.deep, many), w.inside)

    pub turn-close : l.left ≡ 0 → (n ≡ 0 → ⊥) → Loop s rows hs₀ f f' saved (n - 1) (due (get_or saved (n - 1) nothing).what (get_or saved (n - 1) nothing).objects (get_or saved (n - 1) nothing).left) k at
    turn-close z w = record {
      hs = g.hs;
      walking = subst (λ (x : List Level). Walking s rows (dues x) k at g.hs) (levels-pop saved n w) (walk-close z g.walking);
      values = g.values;
      size = g.size;
      room = g.room;
    }

    pub turn_end : l.left ≡ 0 → n ≡ 0 → f' ≡ puts value_in 1 hs₀ f
    turn_end z w =
        let none : ls ≡ [] = ap (levels saved) w in
        let walk = subst (λ (x : List Level). Walking s rows (dues x) k at g.hs) none (walk-close z g.walking) in
        put-none value_in k f' (walk_end walk).0 g.values

    module _ (r : RawHead) (z : l.left ≡ 0 → ⊥) (h : at ≤ 16777216 → Sees (λ d. member_head d (due_of l.what l.objects) s at) r) where
      ahead : Headed s rows (due_of l.what l.objects) l.left (dues ls) k at g.hs r
      ahead = walk-head z g.walking r (h facts.1)

      pub seen : (k < rows) × (at + 5 ≤ r.end) × (r.end ≤ length s) × (r.value ≤ 16777216) × (n ≤ 31)
      seen =
          let t = ahead in
          let w : length g.hs ≡ suc (length t.more) = ap length t.is in
          (omega (arith, g.walking.count, w), t.low, t.high, omega (arith, t.valued, t.high, g.walking.size), omega (arith, t.shallow, many))

      -- with no children
      pub turn-leaf : {f'' : List ℕ} → r.count ≡ 0 → f'' ≡ set f' k r.value → Loop s rows hs₀ f f'' saved n (due l.what l.objects (l.left - 1)) (k + 1) r.end
      turn-leaf zr x =
          let t = ahead in
          record {
            hs = t.more;
            walking = walk-close zr t.next;
            values = put-head value_in k f' t.is t.value x g.values;
            size = ap length x ∙ length-set f' k r.value ∙ g.size;
            room = g.room;
          }

      pub turn-head : {f'' : List ℕ} → f'' ≡ set f' k r.value
          → Loop s rows hs₀ f f'' (set saved n (due l.what l.objects (l.left - 1))) (n + 1) (due r.what r.objects r.count) (k + 1) r.end
      turn-head x =
          let t = ahead in
          let old : Level = due l.what l.objects (l.left - 1) in
          let push : old ∷ ls ≡ levels (set saved n old) (n + 1) = sym (levels-push saved n old (omega (arith, facts.3, g.room))) in
          record {
            hs = t.more;
            walking = subst (λ (y : List Level). Walking s rows (dues (due r.what r.objects r.count ∷ y)) (k + 1) r.end t.more) push t.next;
            values = put-head value_in k f' t.is t.value x g.values;
            size = ap length x ∙ length-set f' k r.value ∙ g.size;
            room = length-set saved n old ∙ g.room;
          }
