-- `log_entries::store_trits` meets its contract.
use mathlib.Core.Path.{refl}
use Prim.Native.Nat.{◌+◌}
use mathlib.Core.List.{◌++◌}
use lib.ListN.{length}
use Rattle.lists.proofs.Stores.{sets_then}
use Rattle.log_entries.proofs.store_trits.Goals as goal

pub returns : goal.returns
returns c =
    let v = c.args in
    let s1 = c.copy_u8_to_u32 in
    let s2 = c.copy_u8_to_u32-2 in
    let s3 = c.copy_u8_to_u32-3 in
    sets_then v.log.now s1.new.to s3.new.to v.at (v.at + length v.f.clear.now) v.f.clear.now (v.f.reset.now ++ v.f.init.now) s1.ensures
    (sets_then s1.new.to s2.new.to s3.new.to (v.at + length v.f.clear.now) (v.at + length v.f.clear.now + length v.f.reset.now) v.f.reset.now v.f.init.now s2.ensures s3.ensures refl) refl
