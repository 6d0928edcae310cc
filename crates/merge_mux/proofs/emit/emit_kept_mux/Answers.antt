-- `merge_mux::emit::emit_kept_mux` meets its contract.
use mathlib.Core.Path.{◌∙◌}
use Rattle.merge_mux.proofs.Mux.{mux_results}
use Rattle.log_entries.specs.View.{lent_of}
use Rattle.net_value.specs.View.{control_of}
use Rattle.merge_mux.proofs.emit.emit_kept_mux.Goals as goal

pub returns : goal.returns
returns c =
    let v = c.args in
    let p = c.emit_mux in
    record { log_after = p.ensures; out_after = c.spread_results.ensures ∙ mux_results (control_of v.select) v.kept.x.now v.kept.y.now v.kept.at.now v.out.now v.to (lent_of v.log.now) (lent_of p.new.self) p.ensures }
