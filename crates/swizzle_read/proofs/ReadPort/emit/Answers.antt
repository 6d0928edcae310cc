-- `swizzle_read::ReadPort::emit` meets its contract.
use mathlib.Core.Path.{sym, ap, ◌∙◌}
use Prim.Native.Nat.{◌*◌}
use lib.ListN.{drop}
use Rattle.log_entries.specs.View.{lent_of}
use Rattle.swizzle_read.proofs.Steps.{nothing_read, nothing_loaded, read_all, load_all, ready_all}
use Rattle.swizzle_read.proofs.ReadPort.emit.Goals as goal

pub returns-then-not-can_read : goal.returns-then-not-can_read
returns-then-not-can_read c =
    let p = c.args.self in
    let e = sym c.can_read.ensures ∙ c.if-not-can_read.true in
    record {
      log_after = nothing_read p.pieces p.voids p.flip_flop p.mux.now p.entries.now p.output.now p.width c.args.scratch.now (lent_of c.args.log.now) e;
      scratch_after = ap (drop (p.pieces.count * p.width)) (nothing_loaded p.pieces p.voids p.flip_flop p.mux.now p.entries.now p.output.now p.width c.args.scratch.now c.args.log.now.state.next e);
    }

pub emit_from-requires : goal.emit_from-requires
emit_from-requires c =
    let p = c.args.self in
    let e = sym c.can_read.ensures ∙ c.if-not-can_read.false in
    ready_all p.pieces p.voids p.flip_flop p.mux.now p.entries.now p.output.now p.width c.args.scratch.now c.args.log.now.state.next e

pub returns : goal.returns
returns c =
    let p = c.args.self in
    let e = sym c.can_read.ensures ∙ c.if-not-can_read.false in
    let r = c.emit_from in
    record {
      log_after = read_all p.pieces p.voids p.flip_flop p.mux.now p.entries.now p.output.now p.width c.args.scratch.now (lent_of c.args.log.now) (lent_of r.new.log) e r.ensures.log_after;
      scratch_after = r.ensures.scratch_after ∙ ap (drop (p.pieces.count * p.width)) (load_all p.pieces p.voids p.flip_flop p.mux.now p.entries.now p.output.now p.width c.args.scratch.now c.args.log.now.state.next e);
    }
