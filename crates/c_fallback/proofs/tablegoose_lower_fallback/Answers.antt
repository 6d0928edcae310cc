-- `c_fallback::tablegoose_lower_fallback` meets its contract.
use Rattle.c_fallback.proofs.Told.{told_call, told_fields}
use Rattle.c_fallback.proofs.tablegoose_lower_fallback.Goals as goal

pub returns : goal.returns
returns c =
    let v = c.args in
    let d = c.lower_fallback-x in
    let g = c.given_by-given in
    let r = c.answer_struct in
    let q = rw (g.ensures.0, g.ensures.1, g.ensures.2) at d.ensures.scratch_after in
    let l = rw (g.ensures.0, g.ensures.1, g.ensures.2) at d.ensures.lowers in
    record {
      scratch_after = told_call v.st d.result r.result r.ensures _ v.log.now v.scratch.now d.new.log d.new.scratch _ v.output.now q;
      lowers = told_fields v.st d.result r.result r.ensures _ v.nets.now v.trits.now v.output.now v.log.now v.scratch.now d.new.log d.new.scratch l;
    }
