-- `fallback_rows::Memories::row_nets` meets its contract.
use native.Mathlib.Omega.{arith}
use lib.ListN.{take}
use Rattle.log_entries.specs.View.{lent_of}
use Rattle.swizzle_parts.specs.Parts.{memory_at}
use Rattle.fallback_rows.proofs.Rows.{row_const, row_register}
use Rattle.fallback_rows.proofs.Memories.row_nets.Goals as goal

pub returns-then-self-eq0 : goal.returns-then-self-eq0
returns-then-self-eq0 c =
    let v = c.args in
    λ trits image. row_const v.self.now.g (memory_at v.self.now.g v.self.now.nets.now trits image v.n).memory v.init.now (lent_of v.log.now) v.room.now.held c.const_row.new.row c.if-self-eq0.true c.const_row.ensures c.requires (omega (arith, v.self.now.narrow, c.const_row.auto.row))

pub returns : goal.returns
returns c =
    let v = c.args in
    let p = c.register in
    λ trits image. row_register v.self.now.g (memory_at v.self.now.g v.self.now.nets.now trits image v.n).memory v.init.now (lent_of v.log.now) (lent_of p.new.log) (take v.self.now.g.unit p.new.room.held) c.if-self-eq0.false (p.ensures trits image)
