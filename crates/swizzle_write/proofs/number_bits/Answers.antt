-- `swizzle_write::number_bits` meets its contract.
use mathlib.Core.Path.{ap}
use Prim.Native.Nat.{ℕ}
use native.Mathlib.Omega.{arith}
use lib.ListN.{length}
use native.Mathlib.Nat.{sub-zero}
use Rattle.rules.specs.Value.{from_uint}
use Rattle.swizzle_write.proofs.Numbers.{uint_turn, uint_end}
use Rattle.swizzle_write.proofs.number_bits.Goals as goal

pub loop-bit-init : goal.loop-bit-init
loop-bit-init c = ap (λ (k : ℕ). from_uint k c.args.x) (sub-zero (length c.args.out.now))

pub loop-bit-preserved : goal.loop-bit-preserved
loop-bit-preserved c =
    let l = c.loop-bit in
    uint_turn l.out (length c.args.out.now) l.bit-index l.left c.args.x l.invariant (omega (arith, c.loop-bit-test.true)) l.auto.out

pub returns : goal.returns
returns c =
    let l = c.loop-bit in
    uint_end l.out (length c.args.out.now) l.bit-index l.left c.args.x l.invariant (omega (arith, c.loop-bit-test.false)) l.auto.out
