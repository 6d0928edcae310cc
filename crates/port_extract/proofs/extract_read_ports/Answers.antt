-- `port_extract::extract_read_ports` meets its contract.
use mathlib.Core.Path.{sym}
use lib.ListN.{length}
use Rattle.net_memory.proofs.Sized.{reads_length, read_ports_8}
use Rattle.port_extract.proofs.Refused.{good}
use Rattle.port_extract.proofs.Answered.{refused, accepted, newly}
use Rattle.std.proofs.lemmas.Result.{err_from_is_err_and}
use Rattle.port_extract.proofs.extract_read_ports.Goals as goal

pub returns-in_err-extract_refusal-clause-room_output_after : goal.returns-in_err-extract_refusal-clause-room_output_after
returns-in_err-extract_refusal-clause-room_output_after c =
    let v = c.args in
    let e = err_from_is_err_and c.from_residual.result c.from_residual.ensures.1 in
    rw (e.1, e.2) (refused v.room_nets.now v.room_trits.now v.room_output.now v.given.memory v.given.nets.now v.given.trits.now v.list.now v.output.now _ c.in_err-extract_refusal.ensures)

pub invariant_of-extraction : goal.invariant_of-extraction
invariant_of-extraction c =
    let y = c in
    let v = y.args in
    record { few = (good v.given.memory v.given.nets.now v.given.trits.now v.list.now v.output.now (record { nets = length v.room_nets.now; trits = length v.room_trits.now; output = length v.room_output.now }) (reads_length v.given.memory _ y.well_formed.1.1.1.0.1.1.0 v.given.nets.now v.given.trits.now) (sym c.in_ok-extract_refusal.ensures)).ready_is.listed.few }

pub pick_ports-requires : goal.pick_ports-requires
pick_ports-requires c =
    let y = c in
    let v = y.args in
    (good v.given.memory v.given.nets.now v.given.trits.now v.list.now v.output.now (record { nets = length v.room_nets.now; trits = length v.room_trits.now; output = length v.room_output.now }) (reads_length v.given.memory _ y.well_formed.1.1.1.0.1.1.0 v.given.nets.now v.given.trits.now) (sym c.in_ok-extract_refusal.ensures)).ready_is.listed

pub returns : goal.returns
returns c =
    let y = c in
    let v = y.args in
    let g = good v.given.memory v.given.nets.now v.given.trits.now v.list.now v.output.now (record { nets = length v.room_nets.now; trits = length v.room_trits.now; output = length v.room_output.now }) (reads_length v.given.memory _ y.well_formed.1.1.1.0.1.1.0 v.given.nets.now v.given.trits.now) (sym c.in_ok-extract_refusal.ensures) in
    let eight = read_ports_8 v.given.memory _ y.well_formed.1.1.1.0.1.1.0 in
    record {
      room_output_after = accepted v.room_nets.now v.room_trits.now v.room_output.now v.given.memory v.given.nets.now v.given.trits.now v.list.now v.output.now eight g _ _ _ _ c.in_ok-extract_refusal.ensures c.pick_ports.ensures c.put_nets.ensures.room_after c.put_trits.ensures.room_after (c.put_outputs.ensures.by_index_2 v.given.nets.now v.given.trits.now);
      new_struct = newly v.room_nets.now v.room_trits.now v.room_output.now v.given.memory v.given.nets.now v.given.trits.now v.list.now v.output.now eight g _ c.pick_ports.ensures;
    }
