-- `swizzle_write::Masked::write_pieces` meets its contract.
use Rattle.log_entries.specs.View.{lent_of}
use Rattle.swizzle_columns.specs.Wide.{port_starts}
use Rattle.swizzle_write.proofs.Going.{going_starts, turn, going_ends, masks_end, job_same}
use Rattle.swizzle_write.proofs.Masked.write_pieces.Goals as goal

pub loop-x-init : goal.loop-x-init
loop-x-init c =
    let m = c.args.self in
    going_starts m.port.mems m.port.rows m.port.unit m.per_row (port_starts m.port m.per_row) m.mux.now m.row.now m.port.pieces c.args.to.now (lent_of c.args.log.now)

pub write_piece-requires : goal.write_piece-requires
write_piece-requires c =
    let m = c.args.self in
    let h = c.loop-x.auto in
    record {
      job = job_same m h.piece h.to c.requires;
      x_lt_pieces = c.loop-x-test.true;
    }

pub loop-x-preserved : goal.loop-x-preserved
loop-x-preserved c =
    let m = c.args.self in
    let h = c.loop-x in
    let p = c.write_piece in
    turn m.port.mems m.port.rows m.port.unit m.per_row (port_starts m.port m.per_row) m.mux.now m.row.now m.port.pieces c.args.to.now h.to p.new.to p.new.piece (lent_of c.args.log.now) (lent_of h.log) (lent_of p.new.log) h.x h.invariant c.loop-x-test.true p.ensures.log_after p.ensures.piece_after p.ensures.to_after

pub returns : goal.returns
returns c =
    let m = c.args.self in
    let h = c.loop-x in
    record {
      log_after = going_ends m.port.mems m.port.rows m.port.unit m.per_row (port_starts m.port m.per_row) m.mux.now m.row.now m.port.pieces c.args.to.now h.to (lent_of c.args.log.now) (lent_of h.log) h.x h.invariant c.loop-x-test.false;
      to_after = masks_end m.port.mems m.port.rows m.port.unit m.per_row (port_starts m.port m.per_row) m.mux.now m.row.now m.port.pieces c.args.to.now h.to (lent_of c.args.log.now) (lent_of h.log) h.x h.invariant c.loop-x-test.false;
    }
