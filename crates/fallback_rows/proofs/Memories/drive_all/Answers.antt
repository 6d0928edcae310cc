-- `fallback_rows::Memories::drive_all` meets its contract.
use mathlib.Core.Path.{ap, ◌∙◌}
use Prim.Native.Nat.{ℕ}
use native.Mathlib.Omega.{arith}
use lib.ListN.{take}
use Rattle.log_entries.specs.Emission.{run}
use Rattle.log_entries.specs.View.{lent_of}
use Rattle.lists.specs.Lists.{up_from}
use Rattle.std.proofs.lemmas.List.{get_or-take}
use Rattle.swizzle_parts.specs.Parts.{no_read_of}
use Rattle.fallback_rows.specs.Rows.{drives}
use Rattle.fallback_rows.proofs.Rows.{product_small, driving_turn, driving_start, driving_end}
use Rattle.fallback_rows.proofs.Memories.drive_all.Goals as goal

pub overflow_mul-before : goal.overflow_mul-before
overflow_mul-before c = omega (arith, product_small c.args.n c.args.self.now.g.unit c.requires c.args.self.now.narrow)

pub loop-port-init : goal.loop-port-init
loop-port-init c =
    let v = c.args in
    driving_start v.self.now.g v.n (take v.self.now.g.unit v.room.now.held) c.ports_used-count.result (lent_of v.log.now)

pub drive_at-requires : goal.drive_at-requires
drive_at-requires c = product_small c.args.n c.args.self.now.g.unit c.requires c.args.self.now.narrow

pub loop-port-preserved : goal.loop-port-preserved
loop-port-preserved c =
    let v = c.args in
    let h = c.loop-port in
    let p = c.drive_at in
    let e = get_or-take c.ports_used-count.result v.self.now.g.read_ports h.port-index no_read_of (omega arith) in
    driving_turn v.self.now.g v.n (take v.self.now.g.unit v.room.now.held) c.ports_used-count.result (lent_of v.log.now) h.port-index (lent_of h.log) (lent_of p.new.log) (omega arith) h.invariant (rw e at p.ensures)

pub returns : goal.returns
returns c =
    let v = c.args in
    let h = c.loop-port in
    driving_end v.self.now.g v.n (take v.self.now.g.unit v.room.now.held) c.ports_used-count.result (lent_of v.log.now) h.port-index (lent_of h.log) (omega arith) h.invariant
    ∙ ap (λ (k : ℕ). run (drives v.self.now.g v.n (take v.self.now.g.unit v.room.now.held) (up_from 0 k)) (lent_of v.log.now)) c.ports_used-count.ensures.0
