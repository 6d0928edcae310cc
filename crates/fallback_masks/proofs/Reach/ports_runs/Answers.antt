-- `fallback_masks::Reach::ports_runs` meets its contract.
use native.Mathlib.Omega.{arith}
use Rattle.net_memory.specs.View.{writes_of}
use Rattle.net_memory.proofs.Ports.{no_write_of}
use Rattle.net_memory.proofs.Sized.{writes_length}
use Rattle.fallback_masks.specs.Steps.{runs_by_of}
use Rattle.fallback_masks.proofs.Numbers.{summing_turn, summing_end, port_at_lem}
use Rattle.fallback_masks.proofs.Reach.ports_runs.Goals as goal

pub loop-i-init : goal.loop-i-init
loop-i-init c = (omega arith, omega arith)

pub loop-i-preserved : goal.loop-i-preserved
loop-i-preserved c =
    let v = c.args in
    let g = v.given in
    let l = c.loop-i in
    let f = runs_by_of v.self.depth v.self.width v.self.rows in
    let n = writes_length g.memory _ c.well_formed.1.0.1.1.0 g.nets.now in
    let r = port_at_lem g.memory g.nets.now g.trits.now f l.i _ _ c.write_port.ensures.port c.port_runs-runs.ensures.0 in
    (omega arith, summing_turn f (writes_of g.memory g.nets.now) l.runs l.i _ no_write_of (omega (arith, n)) l.invariant.1 r)

pub returns : goal.returns
returns c =
    let v = c.args in
    let g = v.given in
    let l = c.loop-i in
    let n = writes_length g.memory _ c.well_formed.1.0.1.1.0 g.nets.now in
    (summing_end (runs_by_of v.self.depth v.self.width v.self.rows) (writes_of g.memory g.nets.now) l.runs l.i (omega (arith, n)) l.invariant.1, omega arith)
