-- `c_port::tablegoose_unmap_read_dff` meets its contract.
use mathlib.Core.Path.{◌∙◌}
use Rattle.c_port.proofs.Drives.{said, new_memory}
use Rattle.c_port.proofs.tablegoose_unmap_read_dff.Goals as goal

pub returns : goal.returns
returns c =
    let v = c.args in
    let d = c.unmap_read_dff in
    let g = c.given_by-given in
    let q = rw (g.ensures.0, g.ensures.1, g.ensures.2) at d.ensures.log_after in
    let s = rw (g.ensures.0) at d.ensures.new_struct in
    rw (c.driven_struct.ensures) (record {
      log_after = said v.m v.st d.result v.nets.now v.trits.now d.new.output d.new.log ∙ q;
      new_memory = new_memory v.m v.st v.port d.result s;
    })
