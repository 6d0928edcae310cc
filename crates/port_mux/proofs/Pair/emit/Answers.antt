-- `port_mux::Pair::emit` meets its contract.
use mathlib.Core.Path.{ap, ◌∙◌}
use native.Mathlib.Omega.{arith}
use lib.Seq.{sets}
use Rattle.std.specs.Prelude.{is_some}
use Rattle.rules.specs.Cell.{read_at_of}
use Rattle.log_entries.specs.View.{lent_of}
use Rattle.net_memory.specs.Given.{mem_of}
use Rattle.port_overlay.proofs.Laid.{width_is}
use Rattle.port_mux.specs.Call.{given_mask}
use Rattle.port_mux.proofs.Numbers.{none_is, some_is}
use Rattle.port_mux.proofs.Passed.{gave_plain, gave_masked}
use Rattle.port_mux.proofs.Pair.emit.Goals as goal

pub returns-in-None : goal.returns-in-None
returns-in-None c =
    let v = c.args in
    let g = v.self.given in
    let q = c.emit_pair in
    let r = c.reading-r.ensures (mem_of g) (read_at_of (mem_of g) v.self.i) (width_is g.memory g.nets.now g.trits.now) c.read_port.ensures.port in
    gave_plain g.memory g.nets.now g.trits.now v.self.i v.self.j (is_some v.self.asked.mask) v.self.asked.bits.now (given_mask v.self.asked.mask) c.requires _ _ _ r.0.0 r.0.1 r.1 v.overlay.now.under c.copy.new.to q.new.overlay.under (lent_of v.log.now) (lent_of q.new.log)
    c.copy.ensures (omega arith) v.over.now (none_is v.self.asked.mask c.in-None.is) (q.ensures g.trits.now)

pub returns-in-Some : goal.returns-in-Some
returns-in-Some c =
    let v = c.args in
    let g = v.self.given in
    let q = c.emit_pair-in-Some in
    let s = some_is v.self.asked.mask c.in-Some.mask c.in-Some.is in
    let r = c.reading-r.ensures (mem_of g) (read_at_of (mem_of g) v.self.i) (width_is g.memory g.nets.now g.trits.now) c.read_port.ensures.port in
    gave_masked g.memory g.nets.now g.trits.now v.self.i v.self.j (is_some v.self.asked.mask) v.self.asked.bits.now (given_mask v.self.asked.mask) c.requires _ _ _ r.0.0 r.0.1 r.1 v.overlay.now.under c.copy.new.to q.new.overlay.under (lent_of v.log.now) (lent_of q.new.log)
    c.copy.ensures (omega arith) v.over.now c.copy-in-Some.new.to q.new.over s.0 (c.copy-in-Some.ensures ∙ ap (sets v.over.now 0) s.1) (omega arith) (q.ensures g.trits.now)
