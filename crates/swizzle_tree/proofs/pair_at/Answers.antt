-- `swizzle_tree::pair_at` meets its contract.
use mathlib.Core.Path.{sym, ◌∙◌}
use Rattle.log_entries.specs.View.{lent_of}
use Rattle.swizzle_tree.proofs.Pairing.{pair_kept, pair_stored}
use Rattle.swizzle_tree.proofs.pair_at.Goals as goal

pub returns-then-is_over : goal.returns-then-is_over
returns-then-is_over c =
    let v = c.args in
    let r = c.emit_pair in
    record { log_after = r.ensures; pieces_after = pair_kept v.bit v.width v.from v.to v.pieces.now (lent_of v.log.now) (lent_of r.new.log) c.requires r.ensures (sym c.is_over.ensures ∙ c.if-is_over.true) }

pub returns : goal.returns
returns c =
    let k = c in
    let v = k.args in
    let r = c.emit_pair in
    record { log_after = r.ensures; pieces_after = pair_stored v.bit v.width v.from v.to v.pieces.now (lent_of v.log.now) (lent_of r.new.log) k.requires r.ensures _ (sym c.is_over.ensures ∙ c.if-is_over.false) c.store_run.ensures }
