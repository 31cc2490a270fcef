use Prim.Native.Nat.{ℕ}
use mathlib.Core.Path.{◌≡◌, sym, ap, subst}
use mathlib.Core.Bool.{Bool, false, not}
use lib.Dec.{T}
use lib.Ieee.{Float, binary64, to_bits, eq, ne}
use lib.Ieee.Compare.{differs_from_itself}
use Rattle.colour.proofs.Kept.{equal_no_nan}
use Rattle.khuyurek.proofs.descriptors.bits_of.Goals as goal

unequal-nan : (x : Float) → eq x x ≡ false → ◌≡◌ {A = ℕ} 0x7ff8_0000_0000_0000 (to_bits binary64 x)
unfolding to_bits
unequal-nan x e = sym (ap (to_bits binary64) (differs_from_itself x (unfold ne in subst (λ (t : Bool). T (not t)) (sym e) tt)))

pub float_to_bits-result : goal.float_to_bits-result
float_to_bits-result c = equal_no_nan c.args.x c.if-x.true

pub returns : goal.returns
returns c = unequal-nan c.args.x c.if-x.false
