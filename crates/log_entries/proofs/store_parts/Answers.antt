-- `log_entries::store_parts` meets its contract.
use mathlib.Core.Path.{refl}
use Prim.Native.Nat.{◌+◌}
use native.Mathlib.Omega.{arith}
use mathlib.Core.List.{◌++◌}
use lib.ListN.{length}
use Rattle.lists.proofs.Stores.{sets_then}
use Rattle.log_entries.proofs.store_parts.Goals as goal

pub returns : goal.returns
returns c =
    let k = c in
    let v = k.args in
    let s1 = c.copy in
    let s2 = c.copy-2 in
    let s3 = c.copy-3 in
    let s4 = c.copy-4 in
    sets_then v.log.now s1.new.to s4.new.to v.at (v.at + 4) v.head (v.x.now ++ (v.a.now ++ v.b.now)) s1.ensures
    (sets_then s1.new.to s2.new.to s4.new.to (v.at + 4) (v.at + 4 + length v.x.now) v.x.now (v.a.now ++ v.b.now) s2.ensures
    (sets_then s2.new.to s3.new.to s4.new.to (v.at + 4 + length v.x.now) (v.at + 4 + length v.x.now + length v.a.now) v.a.now v.b.now s3.ensures s4.ensures refl) refl)
    (omega (arith, k.well_formed.1.1.0))
