-- What a machine's net, cell and control, and the answers with one, are in terms of the rules.
use Rattle.std.specs.Prelude.{ℕ, Bool, true, false, eqb, Result}
use Rattle.std.specs.Prelude as std
use Rattle.net_logic.specs.declared.Trit as machine
use Rattle.std.proofs.Math.Option.{Option, none, some}
use Rattle.rules.specs.Limits.{X}
use Rattle.rules.specs.Logic.{Trit}
use Rattle.rules.specs.Value as rules
use Rattle.rules.specs.Answers as answers
use Rattle.rules.specs.Refusal.{answer_by}
use Rattle.rules.specs.declared.numbers.Refusal.{Refusal}
use Rattle.net_value.specs.declared.Net.{Net}
use Rattle.net_logic.specs.View.{trit_view}
use Rattle.net_value.specs.declared.ControlNet.{ControlNet}
use Rattle.net_value.specs.declared.ControlNet.TheVariants.{Pos, Neg}
use Rattle.net_value.specs.declared.Driver.{Driver}
use Rattle.net_value.specs.declared.Driver.TheVariants.{Constant, Cell}

abbrev pub control_of : ControlNet → rules.Control
control_of (Pos n) = rules.Pos n.0
control_of (Neg n) = rules.Neg n.0

abbrev pub driver_view : Driver → rules.Driver
driver_view (Constant t) = rules.Constant (trit_view t)
driver_view (Cell c) = rules.CellNumber c.0

abbrev pub net_answer : Result Net Refusal → answers.Answer ℕ
net_answer = answer_by (λ n. n.0)

abbrev pub control_answer : Result ControlNet Refusal → answers.Answer rules.Control
control_answer = answer_by control_of

-- a net is a constant, and which
abbrev pub is_const : rules.Driver → Bool
is_const (rules.Constant t) = true
is_const (rules.CellNumber c) = false

abbrev pub as_const : rules.Driver → Option Trit
as_const (rules.Constant t) = some t
as_const (rules.CellNumber c) = none

abbrev pub const_view : std.Option machine.Trit → Option Trit
const_view std.None = none
const_view (std.Some t) = some (trit_view t)

-- the constant net of a flag
abbrev pub bool_net : Bool → ℕ
bool_net false = 0
bool_net true = 1

abbrev pub is_x : ℕ → Bool
is_x n = eqb n X
