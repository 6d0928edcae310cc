-- `log_requests::emit_remap` meets its contract.
use mathlib.Core.Path.{sym, ap, ◌∙◌}
use Rattle.log_entries.specs.View.{lent_of}
use Rattle.net_flip_flop.specs.View.{controls_of}
use Rattle.log_requests.proofs.Remap.{remap_set, remap_flag, remap_gated}
use Rattle.lists.proofs.Choice.{or_left, or_right, or_both}
use Rattle.rules.specs.Log.{Trace}
use Rattle.rules.specs.Cell.{Controls}
use Rattle.log_entries.specs.Emission.{run}
use mathlib.Core.Bool.{true, ◌||◌}
use mathlib.Core.Path.{◌≡◌}
use Rattle.rules.specs.Value.{is_always}
use Rattle.log_requests.proofs.emit_remap.Goals as goal
use Rattle.log_requests.proofs.emit_remap.Goals.{then-is_always-via-then-is_always, then-is_always-via-else-is_always+then-is_always-2}

pub returns-then-c : goal.returns-then-c
returns-then-c c =
    let v = c.args in
    let r = remap_set (controls_of v.c) (lent_of v.log.now) c.if-c.true in
    record { log_after = r.0; controls_value = λ o. r.1 }

-- one of the two constants that settle it
settled : (c : goal.After-with_reset) → (is_always 0 (controls_of c.args.c).reset || is_always 1 (controls_of c.args.c).enable) ≡ true
settled c =
    elim c.then-is_always.branch [
      | then-is_always-via-then-is_always w ↦ or_left _ (sym c.is_always.ensures ∙ w.if-is_always.true)
      | then-is_always-via-else-is_always+then-is_always-2 w ↦ or_right (sym c.is_always.ensures ∙ w.if-is_always.false) (sym w.is_always-else-is_always.ensures ∙ w.if-is_always-2.true)
    ]

pub returns-then-is_always : goal.returns-then-is_always
returns-then-is_always c =
    let v = c.args in
    let r = remap_flag (controls_of v.c) (lent_of v.log.now) c.if-c.false (settled c) in
    record { log_after = r.0; controls_value = λ o. c.with_reset.ensures ∙ r.1 }

pub returns : goal.returns
returns c =
    let v = c.args in
    let k = controls_of v.c in
    let p = c.emit_gated in
    let e = sym (remap_gated k c.if-c.false (or_both (sym c.is_always.ensures ∙ c.if-is_always.false) (sym c.is_always-else-is_always.ensures ∙ c.if-is_always-2.false))) in
    record { log_after = p.ensures.log_after ∙ ap (λ (t : Trace Controls). run t (lent_of v.log.now)) e; controls_value = λ o. p.ensures.controls_value o ∙ ap (λ (t : Trace Controls). (t v.log.now.state.next).value) e }
