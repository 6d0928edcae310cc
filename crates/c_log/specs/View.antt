-- What a caller's controls are in terms of the rules, the structs of the rules' answers, and what a request or a merge leaves.
use Rattle.std.specs.Prelude.{ℕ, List, get_or, Result, Ok, Err}
use Rattle.rules.specs.Value.{Value}
use Rattle.rules.specs.Cell as cell
use Rattle.rules.specs.Log as log
use Rattle.rules.specs.Answers as answers
use Rattle.log_entries.specs.declared.LogState.{LogState}
use Rattle.log_entries.specs.View.{state_of}
use Rattle.rules.specs.Refusal as refusal
use Rattle.rules.specs.declared.numbers.Refusal.{Refusal}
use Rattle.c_net.specs.declared.Control.{Control}
use Rattle.c_net.specs.View.{flag_code, is_set, given_control, flagged_control, control_struct}
use Rattle.c_log.specs.declared.Controls.{Controls}
use Rattle.c_log.specs.declared.Logged.{Logged}
use Rattle.c_log.specs.declared.NetLogged.{NetLogged}
use Rattle.c_log.specs.declared.ControlsLogged.{ControlsLogged}

-- ---- controls
-- a reset_over_enable above 1 makes the reset Neg(0), which is no control
unfoldable pub given_controls : Controls → cell.Controls
given_controls c = record {
  clock = given_control c.clock;
  clear = given_control c.clear;
  reset = flagged_control c.reset c.reset_over_enable;
  enable = given_control c.enable;
  reset_over_enable = is_set c.reset_over_enable;
}

abbrev pub controls_struct : cell.Controls → Controls
controls_struct c = record {
  clock = control_struct c.clock;
  clear = control_struct c.clear;
  reset = control_struct c.reset;
  enable = control_struct c.enable;
  reset_over_enable = flag_code c.reset_over_enable;
}

-- the fields of a refused answer
abbrev pub no_control : Control
no_control = record { polarity = 0; net = 0 }

abbrev pub no_controls : Controls
no_controls = record { clock = no_control; clear = no_control; reset = no_control; enable = no_control; reset_over_enable = 0 }

-- ---- answers; a refused call gives back the state that it was given
abbrev pub state_struct : log.LogState → LogState
state_struct s = record { used = s.used; next = s.next }

-- of a machine's answer (what a refused call leaves is said once for each record that says it: here, in fallback's Left and in swizzle_call's Told, which
-- have other fields, and in port_unmap, where it is a memory)
abbrev pub logged_struct : LogState → Result LogState Refusal → Logged
logged_struct st (Err e) = record { number = refusal.number e; state = st }
logged_struct st (Ok s) = record { number = 0; state = s }

-- into_pos gives one net
abbrev pub net_struct : LogState → answers.Answer (answers.After Value) → NetLogged
net_struct st (answers.Refused n) = record { number = n; net = 0; state = st }
net_struct st (answers.Accepted a) = record { number = 0; net = get_or a.value 0 0; state = state_struct a.state }

-- remap_reset_over_enable gives controls
abbrev pub new_controls_struct : LogState → answers.Answer (answers.After cell.Controls) → ControlsLogged
new_controls_struct st (answers.Refused n) = record { number = n; controls = no_controls; state = st }
new_controls_struct st (answers.Accepted a) = record { number = 0; controls = controls_struct a.value; state = state_struct a.state }

-- ---- what a request leaves, by its struct and the log: v is what an accepted one gives
module _ {A : Type 0} where
  abbrev pub left_by : A → Logged → List ℕ → answers.Returned A
  left_by v r log = record { answer = answers.answer_of r.number v; state = state_of r.state; log = log }

-- a merge leaves its result nets in lent room
abbrev pub merge_left_by : Value → Logged → List ℕ → List ℕ → answers.ReturnedMerge
merge_left_by v r log out = record { returned = left_by v r log; out = out }
