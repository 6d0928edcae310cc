-- `c_port::tablegoose_unmap_read_init_reset_transparency` meets its contract.
use mathlib.Core.Path.{◌∙◌}
use Rattle.c_port.proofs.Drives.{said, new_trits}
use Rattle.c_port.proofs.tablegoose_unmap_read_init_reset_transparency.Goals as goal

pub returns : goal.returns
returns c =
    let v = c.args in
    let d = c.unmap_read_init_reset_transparency in
    let g = c.from-given in
    let q = rw (g.ensures) at d.ensures.log_after in
    let s = rw (g.ensures) at d.ensures.reset_struct in
    rw (c.driven_struct.ensures) (record {
      log_after = said v.m v.st d.result v.nets.now d.new.trits d.new.output d.new.log ∙ q;
      new_trits = new_trits v.m v.st v.port v.include_transparency v.trits.now d.new.trits d.result s;
    })
