-- `c_memory::tablegoose_extract_read_ports` meets its contract.
use Rattle.c_memory.proofs.Extracts.{answered, newly}
use Rattle.c_memory.proofs.tablegoose_extract_read_ports.Goals as goal

pub returns : goal.returns
returns c =
    let v = c.args in
    let e = c.extract_read_ports in
    let g = c.given_by in
    let w = g.result in
    rw (← g.ensures.1, ← g.ensures.2) (record {
      room_output_after = answered v.m w.memory g.ensures.0 e.result c.extracted_struct.result c.extracted_struct.ensures v.room_nets.now v.room_trits.now v.room_output.now _ _ _ w.nets.now w.trits.now v.list.now v.output.now e.ensures.room_output_after;
      new_memory = newly v.m w.memory g.ensures.0 e.result c.extracted_struct.result c.extracted_struct.ensures w.nets.now w.trits.now v.list.now v.output.now e.ensures.new_struct;
    })
