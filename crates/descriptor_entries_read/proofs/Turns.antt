-- The turns of the loop that stores entries: what holds before each head of an accepted file, and each kind of turn. Assumes nothing.
use Prim.Native.Nat.{ℕ, zero, suc, ◌+◌, ◌-◌, ◌*◌, ◌≤◌, ◌<◌}
use mathlib.Core.Path.{◌≡◌, refl, sym, ap, ◌∙◌, subst}
use mathlib.Core.List.{List, [], ◌∷◌}
use lib.ListN.{length, set, get_or, length-set}
use lib.Seq.{sets, length-sets}
use native.Mathlib.Omega.{arith}
use Rattle.algebra.specs.Numbers.{joined}
use Rattle.algebra.specs.Reader.{ok, until}
use Rattle.algebra.proofs.Inverse.{then-inv, ok-value, ok-place}
use Rattle.algebra.proofs.Stores.{sets-append}
use Rattle.descriptor.proofs.Ends.{accepted}
use Rattle.descriptor_heads.specs.Heads.{Due, Head, Opened, Stack, over, next_head, settled, after, head_at, member_head}
use Rattle.descriptor_heads.proofs.Past.{head-past, head-inv}
use Rattle.descriptor_raw.specs.Raw.{due_of, Sees}
use Rattle.descriptor_raw.specs.declared.RawHead.{RawHead}
use Rattle.descriptor_columns.specs.scaffold.Filling.{dues}
use Rattle.descriptor_columns.specs.declared.Level.{Level}
use Rattle.descriptor_columns.proofs.Levels.{level, nothing, levels, levels-length, levels-push, levels-pop, dues-length}
use Rattle.descriptor_entry.specs.Shapes.{Entry, shape_of, fields_of}
use Rattle.descriptor_entries.specs.Taken.{blank, put_key, entry_of, members_of}
use Rattle.descriptor_entries.specs.Answered.{numbers}
use Rattle.descriptor_entries_read.specs.scaffold.Filling.{Inside, head_with, waiting, behind, Begun, rest}
use Rattle.descriptor_entries.proofs.Held.{end_later}
use Rattle.descriptor_entries.proofs.Filled.{all-length}
use Rattle.descriptor_entries.proofs.Headed.{head_read}
use Rattle.descriptor_entries_read.proofs.Stored.{key-length}

-- ---- entries

pub entry_length : (s : List ℕ) (c : Due) (h : Head) → length (entry_of s c h) ≡ 16
unfolding entry_of
entry_length s c h = all-length s (fields_of (shape_of c h.kind)) h.value (put_key s h.first c (blank h.kind)) ∙ key-length s h.first c (blank h.kind)

-- the number of objects does not matter
pub any_entry : (s : List ℕ) (what m : ℕ) (h : Head) → entry_of s (due_of what m) h ≡ entry_of s (due_of what 0) h
unfolding entry_of
any_entry s zero m h = refl
any_entry s (suc zero) m h = refl
any_entry s (suc (suc zero)) m h = refl
any_entry s (suc (suc (suc n))) m h = refl

any-inside : (s : List ℕ) (what m at kind value : ℕ) → Inside s (due_of what m) at kind value → Inside s (due_of what 0) at kind value
any-inside s zero m at kind value g = g
any-inside s (suc zero) m at kind value g = g
any-inside s (suc (suc zero)) m at kind value g = g
any-inside s (suc (suc (suc n))) m at kind value g = record { key = g.key; fields = g.fields; size = g.size }

-- depth says nothing of an entry
pub same-entry : (s : List ℕ) (c : Due) (h : Head) (kind at value : ℕ) → kind ≡ h.kind → h.first ≡ at → value ≡ h.value → entry_of s c (head_with kind at value) ≡ entry_of s c h
unfolding entry_of
same-entry s c h kind at value a b d =
    ap (λ (x : ℕ). entry_of s c (head_with x at value)) a ∙ ap (λ (x : ℕ). entry_of s c (head_with h.kind x value)) (sym b) ∙ ap (λ (x : ℕ). entry_of s c (head_with h.kind h.first x)) d

-- ---- before a head

settled-left : (c : Due) (n : ℕ) (st : Stack) → (n ≡ 0 → ⊥) → settled ((c, n) ∷ st) ≡ (c, n) ∷ st
settled-left c zero st z = absurd (z refl)
settled-left c (suc n) st z = refl

settled-over : (c : Due) (n : ℕ) (st : Stack) → n ≡ 0 → settled ((c, n) ∷ st) ≡ settled st
settled-over c n st z = ap (λ (x : ℕ). settled ((c, x) ∷ st)) z

-- under these levels, the innermost first, the heads os are left, from the row k and the place `at` on, of a file of so many rows
pub record Going (s : List ℕ) (rows : ℕ) (st : Stack) (k at : ℕ) (os : List Opened) : Type 0 where
  pub fuel : ℕ
  pub reads : until over after next_head fuel (settled st) s at ≡ ok os (length s)
  pub enough : length s - at < fuel
  pub inside : at ≤ length s
  pub size : length s ≤ 16777216
  pub count : k + length os ≡ rows
  pub few : rows ≤ 16777216
  pub deep : length st ≤ 33

-- one head: what the reader r saw of it, its entry, and what is left behind it
pub record Ahead (s : List ℕ) (rows : ℕ) (c : Due) (n : ℕ) (st : Stack) (k at : ℕ) (os : List Opened) (r : RawHead) : Type 0 where
  pub o : Opened
  pub more : List Opened
  pub is : os ≡ o ∷ more
  pub entry : entry_of s c (head_with r.kind at r.value) ≡ entry_of s c o.head
  pub within : Inside s c at r.kind r.value
  pub low : at + 5 ≤ r.end
  pub high : r.end ≤ length s
  pub shallow : suc (length st) ≤ 32
  pub then-due : after ((c, n) ∷ st) o ≡ settled ((due_of r.what r.objects, r.count) ∷ (c, n - 1) ∷ st)
  pub next : Going s rows ((due_of r.what r.objects, r.count) ∷ (c, n - 1) ∷ st) (k + 1) r.end more

module _ {s : List ℕ} {rows k at : ℕ} {os : List Opened} where
  -- a level that is over ends
  pub go-close : {c : Due} {n : ℕ} {st : Stack} → n ≡ 0 → Going s rows ((c, n) ∷ st) k at os → Going s rows st k at os
  go-close {c} {n} {st} z g = record {
    fuel = g.fuel;
    reads = ap (λ (x : Stack). until over after next_head g.fuel x s at) (sym (settled-over c n st z)) ∙ g.reads;
    enough = g.enough;
    inside = g.inside;
    size = g.size;
    count = g.count;
    few = g.few;
    deep = omega (arith, g.deep);
  }

  -- with no level left there is no head
  pub go-end : Going s rows [] k at os → os ≡ []
  unfolding until
  go-end g = none g.fuel g.reads
    where
      none : (f : ℕ) → until over after next_head f [] s at ≡ ok os (length s) → os ≡ []
      none zero e = sym (ok-value e)
      none (suc f) e = sym (ok-value e)

  -- a member is left: its head
  pub go-head : {c : Due} {n : ℕ} {st : Stack} → (n ≡ 0 → ⊥) → Going s rows ((c, n) ∷ st) k at os → (r : RawHead) → Sees (λ d. member_head d c s at) r → Ahead s rows c n st k at os r
  unfolding until
  go-head {c} {n} {st} z g r saw = step g.fuel g.enough (ap (λ (x : Stack). until over after next_head g.fuel x s at) (sym (settled-left c n st z)) ∙ g.reads)
    where
      step : (f : ℕ) → length s - at < f → until over after next_head f ((c, n) ∷ st) s at ≡ ok os (length s) → Ahead s rows c n st k at os r
      step zero w e = absurd (omega (arith, w))
      step (suc f) w e =
          let t = then-inv (head_at (suc (length st)) c s at) _ e in
          let o : Opened = t.0 in
          let around : Stack = (c, n - 1) ∷ st in
          let u = then-inv (until over after next_head f (after ((c, n) ∷ st) o) s t.1) _ t.3 in
          let i = head-inv s (suc (length st)) c at o t.1 t.2 in
          let p = accepted (head-past s (suc (length st)) c at g.inside) o t.1 t.2 in
          let rd = head_read s c (suc (length st)) at o t.1 i.1 in
          let x = saw.sees (suc (length st)) o t.1 i.1 in
          let ends : t.1 ≡ r.end = sym x.3 in
          let due : after ((c, n) ∷ st) o ≡ settled ((due_of r.what r.objects, r.count) ∷ around) =
          ap (λ (d : Due). settled ((d, o.count) ∷ around)) (sym x.1) ∙ ap (λ (m : ℕ). settled ((due_of r.what r.objects, m) ∷ around)) (sym x.2) in
          let later = end_later s (fields_of (shape_of c o.head.kind)) o.head.value in
          let ln : length os ≡ suc (length u.0) = ap length (sym (ok-value u.3)) in
          let lies : Inside s c at o.head.kind o.head.value = record { key = omega (arith, rd.key, rd.value, later, rd.end, p.high); fields = omega (arith, rd.end, p.high); size = g.size } in
          record {
            o = o;
            more = u.0;
            is = sym (ok-value u.3);
            entry = same-entry s c o.head r.kind at r.value x.0 i.2 x.4;
            within = subst (λ (v : ℕ). Inside s c at r.kind v) (sym x.4) (subst (λ (y : ℕ). Inside s c at y o.head.value) (sym x.0) lies);
            low = omega (arith, p.low, ends);
            high = omega (arith, p.high, ends);
            shallow = i.0;
            then-due = due;
            next = record {
              fuel = f;
              reads =
                  ap (λ (q : ℕ). until over after next_head f (settled ((due_of r.what r.objects, r.count) ∷ around)) s q) (sym ends)
                  ∙ ap (λ (y : Stack). until over after next_head f y s t.1) (sym due)
                  ∙ u.2 ∙ ap (λ (q : ℕ). ok u.0 q) (ok-place u.3);
              enough = omega (arith, p.low, p.high, w, ends);
              inside = omega (arith, p.high, ends);
              size = g.size;
              count = omega (arith, g.count, ln);
              few = g.few;
              deep = omega (arith, i.0);
            };
          }

-- ---- the loop

-- what is due at a level
abbrev pub due : ℕ → ℕ → ℕ → Level
due what objects left = level what objects left 0 0

-- the whole run is what is stored, with the entries that are left
pub record Loop (s : List ℕ) (rows : ℕ) (all run run' : List ℕ) (saved : List Level) (n : ℕ) (l : Level) (k at : ℕ) : Type 0 where
  pub os : List Opened
  pub going : Going s rows (dues (l ∷ levels saved n)) k at os
  pub stored : all ≡ sets run' (16 * k) (numbers (members_of s (settled (dues (l ∷ levels saved n))) os))
  pub size : length run' ≡ length run
  pub room : length saved ≡ 33

pub start : (s : List ℕ) (what objects left at rows : ℕ) (run : List ℕ) (saved : List Level) → length saved ≡ 33 → Begun s what objects left at rows
    → Loop s rows (sets run 16 (numbers (rest s what objects left at))) run run saved 0 (due what objects left) 1 at
start s what objects left at rows run saved r g =
    let os : List Opened = behind (waiting s what objects left at) in
    let x : os ≡ g.os = ap behind g.reads in
    let n : length os ≡ length g.os = ap length x in
    record {
      os = os;
      going = record {
        fuel = suc (length s);
        reads = g.reads ∙ ap (λ (l : List Opened). ok l (length s)) (sym x);
        enough = omega arith;
        inside = g.inside;
        size = g.size;
        count = omega (arith, n, g.count);
        few = g.few;
        deep = omega arith;
      };
      stored = refl;
      size = refl;
      room = r;
    }

-- one entry more is stored
entry-stored : (all run run' : List ℕ) (k : ℕ) (e : Entry) (es : List Entry) → length e ≡ 16 → all ≡ sets run (16 * k) (numbers (e ∷ es)) → run' ≡ sets run (16 * k) e → all ≡ sets run' (16 * (k + 1)) (numbers es)
unfolding joined
entry-stored all run run' k e es l h w =
    let p : 16 * k + length e ≡ 16 * (k + 1) = omega (arith, l) in
    h ∙ sets-append e (numbers es) run (16 * k) ∙ ap (λ (i : ℕ). sets (sets run (16 * k) e) i (numbers es)) p ∙ ap (λ (x : List ℕ). sets x (16 * (k + 1)) (numbers es)) (sym w)

module _ (s : List ℕ) (rows : ℕ) (all run : List ℕ) where
  module _ {run' : List ℕ} {saved : List Level} {n k at : ℕ} (l : Level) (g : Loop s rows all run run' saved n l k at) where
    abbrev pub ls : List Level
    ls = levels saved n

    many : length (dues ls) ≡ n
    many = dues-length ls ∙ levels-length saved n

    pub facts : (k ≤ rows) × (at ≤ 16777216) × (rows ≤ 16777216) × (n ≤ 32) × (at ≤ length s)
    facts = let w = g.going in (omega (arith, w.count), omega (arith, w.inside, w.size), w.few, omega (arith, w.deep, many), w.inside)

    pub turn-close : l.left ≡ 0 → (n ≡ 0 → ⊥) → Loop s rows all run run' saved (n - 1) (due (get_or saved (n - 1) nothing).what (get_or saved (n - 1) nothing).objects (get_or saved (n - 1) nothing).left) k at
    turn-close z w =
        let popped = levels-pop saved n w in
        record {
          os = g.os;
          going = subst (λ (x : List Level). Going s rows (dues x) k at g.os) popped (go-close z g.going);
          stored = g.stored ∙ ap (λ (x : Stack). sets run' (16 * k) (numbers (members_of s x g.os))) (settled-over (due_of l.what l.objects) l.left (dues ls) z ∙ ap (λ (x : List Level). settled (dues x)) popped);
          size = g.size;
          room = g.room;
        }

    pub turn_end : l.left ≡ 0 → n ≡ 0 → run' ≡ all
    unfolding members_of joined
    turn_end z w =
        let none : ls ≡ [] = ap (levels saved) w in
        let over' : Going s rows [] k at g.os = subst (λ (x : List Level). Going s rows (dues x) k at g.os) none (go-close z g.going) in
        sym (g.stored ∙ ap (λ (x : List Opened). sets run' (16 * k) (numbers (members_of s (settled (dues (l ∷ ls))) x))) (go-end over'))

    module _ (r : RawHead) (z : l.left ≡ 0 → ⊥) (h : at ≤ 16777216 → Sees (λ d. member_head d (due_of l.what l.objects) s at) r) where
      ahead : Ahead s rows (due_of l.what l.objects) l.left (dues ls) k at g.os r
      ahead = go-head z g.going r (h facts.1)

      pub seen : (k < rows) × (at + 5 ≤ r.end) × (r.end ≤ length s) × (n ≤ 31)
      seen =
          let t = ahead in
          let w : length g.os ≡ suc (length t.more) = ap length t.is in
          (omega (arith, g.going.count, w), t.low, t.high, omega (arith, t.shallow, many))

      pub inside : Inside s (due_of l.what 0) at r.kind r.value
      inside = any-inside s l.what l.objects at r.kind r.value ahead.within

      -- the entry that is stored, and those behind it
      put : {run'' : List ℕ} → run'' ≡ sets run' (16 * k) (entry_of s (due_of l.what 0) (head_with r.kind at r.value))
          → all ≡ sets run'' (16 * (k + 1)) (numbers (members_of s (settled ((due_of r.what r.objects, r.count) ∷ (due_of l.what l.objects, l.left - 1) ∷ dues ls)) ahead.more))
      unfolding members_of
      put {run''} x =
          let t = ahead in
          let c : Due = due_of l.what l.objects in
          let e : Entry = entry_of s c t.o.head in
          let same : entry_of s (due_of l.what 0) (head_with r.kind at r.value) ≡ e = sym (any_entry s l.what l.objects (head_with r.kind at r.value)) ∙ t.entry in
          let st : Stack = settled ((due_of r.what r.objects, r.count) ∷ (c, l.left - 1) ∷ dues ls) in
          let now : all ≡ sets run' (16 * k) (numbers (e ∷ members_of s st t.more)) =
          g.stored ∙ ap (λ (y : Stack). sets run' (16 * k) (numbers (members_of s y g.os))) (settled-left c l.left (dues ls) z)
          ∙ ap (λ (y : List Opened). sets run' (16 * k) (numbers (members_of s ((c, l.left) ∷ dues ls) y))) t.is
          ∙ ap (λ (y : Stack). sets run' (16 * k) (numbers (e ∷ members_of s y t.more))) t.then-due in
          entry-stored all run' run'' k e (members_of s st t.more) (entry_length s c t.o.head) now (x ∙ ap (sets run' (16 * k)) same)

      kept : {run'' : List ℕ} → run'' ≡ sets run' (16 * k) (entry_of s (due_of l.what 0) (head_with r.kind at r.value)) → length run'' ≡ length run
      kept x = ap length x ∙ length-sets run' (16 * k) (entry_of s (due_of l.what 0) (head_with r.kind at r.value)) ∙ g.size

      -- with no children
      pub turn-leaf : {run'' : List ℕ} → r.count ≡ 0 → run'' ≡ sets run' (16 * k) (entry_of s (due_of l.what 0) (head_with r.kind at r.value))
          → Loop s rows all run run'' saved n (due l.what l.objects (l.left - 1)) (k + 1) r.end
      turn-leaf {run''} zr x =
          let t = ahead in
          record {
            os = t.more;
            going = go-close zr t.next;
            stored = put x ∙ ap (λ (y : Stack). sets run'' (16 * (k + 1)) (numbers (members_of s y t.more))) (settled-over (due_of r.what r.objects) r.count ((due_of l.what l.objects, l.left - 1) ∷ dues ls) zr);
            size = kept x;
            room = g.room;
          }

      pub turn-head : {run'' : List ℕ} → run'' ≡ sets run' (16 * k) (entry_of s (due_of l.what 0) (head_with r.kind at r.value))
          → Loop s rows all run run'' (set saved n (due l.what l.objects (l.left - 1))) (n + 1) (due r.what r.objects r.count) (k + 1) r.end
      turn-head {run''} x =
          let t = ahead in
          let old : Level = due l.what l.objects (l.left - 1) in
          let new : Level = due r.what r.objects r.count in
          let push : old ∷ ls ≡ levels (set saved n old) (n + 1) = sym (levels-push saved n old (omega (arith, facts.3, g.room))) in
          record {
            os = t.more;
            going = subst (λ (y : List Level). Going s rows (dues (new ∷ y)) (k + 1) r.end t.more) push t.next;
            stored = put x ∙ ap (λ (y : List Level). sets run'' (16 * (k + 1)) (numbers (members_of s (settled (dues (new ∷ y))) t.more))) push;
            size = kept x;
            room = length-set saved n old ∙ g.room;
          }
