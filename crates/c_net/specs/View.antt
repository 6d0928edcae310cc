-- What a caller's structs are in terms of the rules, and the structs of the rules' answers.
use Rattle.std.specs.Prelude.{ℕ, Bool, true, false, eqb, ltb}
use Rattle.std.proofs.Math.Option.{Option, none, some}
use Rattle.lists.specs.Choice.{when◌then◌else◌}
use Rattle.rules.specs.Logic.{Trit, code_of}
use Rattle.rules.specs.Value as rules
use Rattle.rules.specs.Answers as answers
use Rattle.c_net.specs.declared.Constant.{Constant}
use Rattle.c_net.specs.declared.Control.{Control}
use Rattle.c_net.specs.declared.ControlResult.{ControlResult}
use Rattle.c_net.specs.declared.Count.{Count}
use Rattle.c_net.specs.declared.Driver.{Driver}
use Rattle.c_net.specs.declared.Result.{Result}

-- a flag of an answer
abbrev pub flag_code : Bool → ℕ
flag_code true = 1
flag_code false = 0

-- the answer of a test; a refused answer has the value 0
abbrev pub flag_result : answers.Answer Bool → Result
flag_result (answers.Refused n) = record { number = n; value = 0 }
flag_result (answers.Accepted b) = record { number = 0; value = flag_code b }

-- the answer with a number: a net or a trit's code
abbrev pub value_result : answers.Answer ℕ → Result
value_result (answers.Refused n) = record { number = n; value = 0 }
value_result (answers.Accepted v) = record { number = 0; value = v }

-- how many elements were stored
abbrev pub count_struct : answers.Answer ℕ → Count
count_struct (answers.Refused n) = record { number = n; count = 0 }
count_struct (answers.Accepted k) = record { number = 0; count = k }

-- what drives a net
abbrev pub driver_struct : rules.Driver → Driver
driver_struct (rules.Constant t) = record { is_cell = 0; value = code_of t }
driver_struct (rules.CellNumber c) = record { is_cell = 1; value = c }

-- the constant that a net is, where it is one
abbrev pub constant_struct : Option Trit → Constant
constant_struct none = record { known = 0; trit = 0 }
constant_struct (some t) = record { known = 1; trit = code_of t }

-- a flag that is given: 1 is true
abbrev pub is_set : ℕ → Bool
is_set flag = eqb flag 1

-- a polarity above 1 gives what is no control
unfoldable pub given_control : Control → rules.Control
given_control c = when eqb c.polarity 0 then rules.Pos c.net else when eqb c.polarity 1 then rules.Neg c.net else rules.Neg 0

-- a control beside a flag; a flag above 1 makes it none
unfoldable pub flagged_control : Control → ℕ → rules.Control
flagged_control c flag = when ltb 1 flag then rules.Neg 0 else given_control c

-- a control that is given back
abbrev pub control_struct : rules.Control → Control
control_struct (rules.Pos n) = record { polarity = 0; net = n }
control_struct (rules.Neg n) = record { polarity = 1; net = n }

-- the answer with a control
abbrev pub control_result : answers.Answer rules.Control → ControlResult
control_result (answers.Refused n) = record { number = n; control = record { polarity = 0; net = 0 } }
control_result (answers.Accepted c) = record { number = 0; control = control_struct c }
