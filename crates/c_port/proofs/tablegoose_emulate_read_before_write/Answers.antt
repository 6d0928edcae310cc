-- `c_port::tablegoose_emulate_read_before_write` meets its contract.
use mathlib.Core.Path.{◌∙◌}
use mathlib.Core.List.{[]}
use Rattle.c_port.proofs.Drives.{said, new_nets}
use Rattle.c_port.proofs.tablegoose_emulate_read_before_write.Goals as goal

pub returns : goal.returns
returns c =
    let v = c.args in
    let d = c.emulate_read_before_write in
    let g = c.from-given in
    let q = rw (g.ensures) at d.ensures.log_after in
    let s = rw (g.ensures) at d.ensures.emulated in
    rw (c.driven_struct.ensures) (record {
      log_after = said v.m v.st d.result d.new.nets v.trits.now [] d.new.log ∙ q;
      new_nets = new_nets v.m v.st v.nets.now d.new.nets d.result s;
    })
