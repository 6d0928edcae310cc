-- `log_entries::dry_refusal` meets its contract.
use mathlib.Core.Path.{sym, ◌∙◌}
use Rattle.log_entries.proofs.Emission.{dry_over, dry_room}
use Rattle.log_entries.specs.View.{state_of}
use Rattle.log_entries.proofs.LogState.dry_refusal.Goals as goal

pub returns-then-is_over : goal.returns-then-is_over
returns-then-is_over c = dry_over c.args.room (state_of c.args.self) (state_of c.args.dry) (sym c.is_over.ensures ∙ c.if-is_over.true)

pub returns : goal.returns
returns c =
    let v = c.args in
    c.room_refusal.ensures ∙ dry_room v.room (state_of v.self) (state_of v.dry) _ _ (sym c.is_over.ensures ∙ c.if-is_over.false) c.dry_start-start.ensures c.saturating_sub-nets.ensures
