-- `fallback_rows::Memories::over_all` meets its contract.
use mathlib.Core.Path.{subst}
use Prim.Native.Nat.{ℕ}
use lib.ListN.{take}
use Rattle.lists.specs.Lists.{up_from}
use Rattle.log_entries.specs.View.{lent_of}
use Rattle.port_transparency.specs.Gave.{Gave}
use Rattle.swizzle_parts.specs.Parts.{memory_at}
use Rattle.fallback_rows.specs.Rows.{writes_by}
use Rattle.fallback_rows.proofs.Rows.{going_turn, going_start, going_end}
use Rattle.fallback_rows.proofs.Memories.over_all.Goals as goal

pub loop-j-init : goal.loop-j-init
loop-j-init c =
    let v = c.args in
    λ trits image. going_start v.self.now.g.unit (memory_at v.self.now.g v.self.now.nets.now trits image v.n).memory c.ports_used-count.result (take v.self.now.g.unit v.row.now.nets) (lent_of v.log.now)

pub loop-j-preserved : goal.loop-j-preserved
loop-j-preserved c =
    let v = c.args in
    let h = c.loop-j in
    let p = c.emit_over in
    λ trits image. going_turn v.self.now.g.unit (memory_at v.self.now.g v.self.now.nets.now trits image v.n).memory c.ports_used-count.result (take v.self.now.g.unit v.row.now.nets) (lent_of v.log.now) h.j (take v.self.now.g.unit h.row.nets) (take v.self.now.g.unit p.new.row.nets) _ _ (lent_of h.log) (lent_of p.new.log) c.loop-j-test.true (h.invariant trits image) (c.write_mask-mask.ensures trits image) (c.write_data-bits.ensures trits image) p.ensures

pub returns : goal.returns
returns c =
    let v = c.args in
    let h = c.loop-j in
    λ trits image. subst (λ (k : ℕ). Gave (writes_by v.self.now.g.unit (memory_at v.self.now.g v.self.now.nets.now trits image v.n).memory (up_from 0 k) (take v.self.now.g.unit v.row.now.nets)) (lent_of v.log.now) (lent_of h.log) (take v.self.now.g.unit h.row.nets)) c.ports_used-count.ensures.0
    (going_end v.self.now.g.unit (memory_at v.self.now.g v.self.now.nets.now trits image v.n).memory c.ports_used-count.result (take v.self.now.g.unit v.row.now.nets) (lent_of v.log.now) h.j (take v.self.now.g.unit h.row.nets) (lent_of h.log) c.loop-j-test.false (h.invariant trits image))
