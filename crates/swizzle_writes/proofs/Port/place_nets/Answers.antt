-- `swizzle_writes::Port::place_nets` meets its contract.
use mathlib.Core.Path.{◌≡◌}
use Prim.Native.Nat.{ℕ, ◌+◌, ◌-◌}
use native.Mathlib.Omega.{arith}
use mathlib.Core.List.{List, ◌++◌}
use lib.ListN.{length, take, drop}
use Rattle.log_entries.specs.View.{lent_of}
use borrow.Rule.Slice.PartMut.{same_len_mid}
use Rattle.swizzle_writes.proofs.Steps.{data_back, mask_back, nets_gave}
use Rattle.swizzle_writes.proofs.Port.place_nets.Goals as goal

pub slice_bounds-write_masks-end : goal.slice_bounds-write_masks-end
slice_bounds-write_masks-end c =
    let v = c.args in
    omega (arith, c.requires, same_len_mid v.from (v.from + v.size - v.from) v.to.now c.data_columns.new.to c.data_columns.auto.to)

pub returns : goal.returns
returns c =
    let v = c.args in
    let d = c.data_columns in
    let w = c.write_masks in
    let n : ℕ = v.from + v.size - v.from in
    let k : ℕ = v.from + v.size + v.size - (v.from + v.size) in
    let en : n ≡ v.size = omega arith in
    let ek : k ≡ v.size = omega arith in
    let r1 : List ℕ = take v.from v.to.now ++ (d.new.to ++ drop n (drop v.from v.to.now)) in
    let e1 = data_back v.self.wide v.self.entries.now v.self.bits.now v.from v.size n v.to.now d.new.to en c.requires d.auto.to d.ensures in
    let l1 : length r1 ≡ length v.to.now = same_len_mid v.from n v.to.now d.new.to d.auto.to in
    nets_gave v.self.wide v.self.mux.now v.self.entries.now v.self.bits.now v.self.mask.now v.from v.size k v.to.now r1 _ w.new.to (lent_of v.log.now) (lent_of w.new.log) ek e1 (record { ran = w.ensures.log_after; value = w.ensures.to_after }) (mask_back (v.from + v.size) v.size k r1 w.new.to ek (omega (arith, c.requires, l1)) w.auto.to)
