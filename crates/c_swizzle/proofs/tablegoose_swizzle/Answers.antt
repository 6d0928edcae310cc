-- `c_swizzle::tablegoose_swizzle` meets its contract.
use Rattle.swizzle_call.specs.Told.{told}
use Rattle.c_swizzle.proofs.Told.{told_call, told_fields, told_struct}
use Rattle.c_swizzle.proofs.tablegoose_swizzle.Goals as goal

pub returns : goal.returns
returns c =
    let v = c.args in
    let d = c.swizzle-answer in
    let g = c.given_by in
    let w = g.result in
    let r = c.swizzled_struct in
    rw (← g.ensures.1, ← g.ensures.2) (record { scratch_after = told_call v.m w.memory g.ensures.0 w.nets.now w.trits.now v.output.now v.s v.entries.now v.writes.now v.reads.now v.st v.log.now v.image.now v.nets_to.now v.trits_to.now v.scratch.now d.new.log d.new.image d.new.nets_to d.new.trits_to d.new.scratch (told v.st d.result) r.result r.ensures d.ensures.scratch_after; swizzles = told_fields v.m w.memory g.ensures.0 w.nets.now w.trits.now v.output.now v.s v.entries.now v.writes.now v.reads.now v.st v.log.now v.image.now v.nets_to.now v.trits_to.now v.scratch.now d.new.log d.new.image d.new.nets_to d.new.trits_to d.new.scratch (told v.st d.result) r.result r.ensures d.ensures.scratch_after d.ensures.swizzles; value = told_struct v.m w.memory g.ensures.0 w.nets.now w.trits.now v.output.now v.s v.entries.now v.writes.now v.reads.now v.st v.log.now v.image.now v.nets_to.now v.trits_to.now v.scratch.now d.new.log d.new.image d.new.nets_to d.new.trits_to d.new.scratch (told v.st d.result) r.result r.ensures d.ensures.scratch_after })
