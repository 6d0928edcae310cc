-- `swizzle_read_trits::put_trits` meets its contract.
use Prim.Native.Nat.{◌+◌, ◌-◌}
use native.Mathlib.Omega.{arith}
use Rattle.swizzle_read_trits.proofs.Puts.{put_by}
use Rattle.swizzle_read_trits.proofs.put_trits.Goals as goal

pub returns : goal.returns
returns c =
    let v = c.args in
    put_by v.p v.entries.now v.v.now v.at v.size v.to.now _ (v.at + v.size - v.at) (omega arith) c.requires c.trit_columns.ensures c.trit_columns.auto.to
