-- `port_empty::emit_unknown` meets its contract.
use mathlib.Core.Path.{sym, ap, ◌∙◌}
use lib.ListN.{take}
use lib.Seq.{length-take-le}
use Rattle.rules.specs.Value.{Value}
use Rattle.rules.specs.Log.{replace_value_of}
use Rattle.log_entries.specs.Emission.{run}
use Rattle.log_entries.specs.View.{lent_of}
use Rattle.rules.specs.Limits.{max_outputs}
use Rattle.port_empty.proofs.Empty.{unknown_is}
use Rattle.port_empty.proofs.emit_unknown.Goals as goal

pub slice_bounds-emit_replace-end : goal.slice_bounds-emit_replace-end
slice_bounds-emit_replace-end c = sym (length-take-le _ _ c.requires.0)

pub returns : goal.returns
returns c =
    let v = c.args in
    c.emit_replace.ensures ∙ ap (λ (x : Value). run (replace_value_of (take v.n v.after.now) x) (lent_of v.log.now)) (unknown_is v.n max_outputs c.requires.1)
