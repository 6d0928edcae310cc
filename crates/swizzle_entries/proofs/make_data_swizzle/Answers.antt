-- `swizzle_entries::make_data_swizzle` meets its contract.
use Rattle.net_memory.specs.Given.{given_of}
use Rattle.swizzle_entries.proofs.Answered.{entries_ok}
use Rattle.swizzle_entries.proofs.make_data_swizzle.Goals as goal

pub returns : goal.returns
returns c =
    let v = c.args in
    let e = c.put_entries.ensures in
    entries_ok v.out.now (given_of v.given.memory v.given.nets.now v.given.trits.now) v.granularities.now _ _ c.in_ok-entries_refusal.ensures e.value e.out_after
