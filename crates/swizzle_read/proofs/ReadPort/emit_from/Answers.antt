-- `swizzle_read::ReadPort::emit_from` meets its contract.
use mathlib.Core.Path.{refl, ap, ◌∙◌}
use Prim.Native.Nat.{◌*◌}
use lib.ListN.{drop}
use Rattle.log_entries.specs.View.{lent_of}
use Rattle.swizzle_read.proofs.Steps.{read_run}
use Rattle.swizzle_read.proofs.ReadPort.emit_from.Goals as goal

pub returns : goal.returns
returns c =
    let p = c.args.self in
    let x = c.emit_voids in
    let y = c.mux_addr in
    let z = c.load in
    let t = c.emit_tree in
    record {
      log_after = read_run p.pieces p.voids p.flip_flop p.mux.now p.entries.now p.output.now p.width c.args.scratch.now z.new.scratch t.new.pieces _ y.new.room (lent_of c.args.log.now) (lent_of x.new.log) (lent_of y.new.log) (lent_of t.new.log) (lent_of c.emit_replace.new.self) c.requires refl x.ensures y.ensures z.ensures z.auto.scratch t.ensures c.emit_replace.ensures;
      scratch_after = t.ensures.kept ∙ ap (drop (p.pieces.count * p.width)) z.ensures;
    }
