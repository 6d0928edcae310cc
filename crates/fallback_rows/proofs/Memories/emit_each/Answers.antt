-- `fallback_rows::Memories::emit_each` meets its contract.
use native.Mathlib.Omega.{arith}
use Rattle.log_entries.specs.View.{lent_of}
use Rattle.fallback_rows.proofs.Rows.{lowering_turn, lowering_start, lowering_end}
use Rattle.fallback_rows.proofs.Memories.emit_each.Goals as goal

pub loop-n-init : goal.loop-n-init
loop-n-init c =
    let v = c.args in
    lowering_start v.self.now.g v.self.now.nets.now v.self.now.image.now v.self.now.g.mems (lent_of v.log.now)

pub emit_row-requires : goal.emit_row-requires
emit_row-requires c = omega (arith, c.loop-n-test.true, c.args.self.now.few)

pub loop-n-preserved : goal.loop-n-preserved
loop-n-preserved c =
    let v = c.args in
    let h = c.loop-n in
    let p = c.emit_row in
    lowering_turn v.self.now.g v.self.now.nets.now v.self.now.image.now v.self.now.g.mems (lent_of v.log.now) h.n (lent_of h.log) (lent_of p.new.log) c.loop-n-test.true h.invariant p.ensures

pub returns : goal.returns
returns c =
    let v = c.args in
    let h = c.loop-n in
    lowering_end v.self.now.g v.self.now.nets.now v.self.now.image.now v.self.now.g.mems (lent_of v.log.now) h.n (lent_of h.log) c.loop-n-test.false h.invariant
