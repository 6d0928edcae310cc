-- `c_swizzle::tablegoose_swizzle_and_patch` meets its contract.
use Rattle.image_patches.specs.Calls.{calls_of}
use Rattle.swizzle_patches.specs.Joined as joined
use Rattle.c_swizzle.proofs.Told.{told_both, told_kept, told_patches}
use Rattle.c_swizzle.proofs.tablegoose_swizzle_and_patch.Goals as goal

pub returns : goal.returns
returns c =
    let v = c.args in
    let d = c.swizzle_and_patch-answer in
    let g = c.given_by in
    let w = g.result in
    let r = c.patches_struct in
    rw (← g.ensures.1, ← g.ensures.2) (record { joined = told_both v.m w.memory g.ensures.0 w.nets.now w.trits.now v.output.now v.s v.entries.now v.writes.now v.reads.now v.st v.log.now v.image.now v.nets_to.now v.trits_to.now v.scratch.now d.new.log d.new.image d.new.nets_to d.new.trits_to d.new.scratch v.numbers.now d.new.numbers (calls_of v.calls.now v.rows.now) (joined.told_patches v.st d.result) r.result r.ensures d.ensures.joined; kept = told_kept v.m w.memory g.ensures.0 w.nets.now w.trits.now v.output.now v.s v.entries.now v.writes.now v.reads.now v.st v.log.now v.image.now v.nets_to.now v.trits_to.now v.scratch.now d.new.log d.new.image d.new.nets_to d.new.trits_to d.new.scratch v.numbers.now d.new.numbers (calls_of v.calls.now v.rows.now) (joined.told_patches v.st d.result) r.result r.ensures d.ensures.joined d.ensures.kept; value = told_patches v.m w.memory g.ensures.0 w.nets.now w.trits.now v.output.now v.s v.entries.now v.writes.now v.reads.now v.st v.log.now v.image.now v.nets_to.now v.trits_to.now v.scratch.now d.new.log d.new.image d.new.nets_to d.new.trits_to d.new.scratch v.numbers.now d.new.numbers (calls_of v.calls.now v.rows.now) (joined.told_patches v.st d.result) r.result r.ensures d.ensures.joined })
