-- Controls and trits of which one may be bad.
use Rattle.std.specs.Prelude.{ℕ, Bool, true, false, List, eqb, set}
use Rattle.lists.specs.Choice.{when◌then◌else◌}
use Rattle.net_value.specs.declared.ControlNet.{ControlNet}
use Rattle.net_value.specs.declared.ControlNet.TheVariants.{Pos, Neg}
use Rattle.net_flip_flop.specs.declared.Controls.{Controls}
use Rattle.try_kit.specs.declared.spoilt.Bad.{Bad}
use Rattle.try_kit.specs.declared.spoilt.Bad.TheVariants.{Nothing, First, Second, Control, Trit, Room}
use Rattle.try_kit.specs.Paint.{pattern_of, trit_at_of}
use Rattle.try_kit.specs.Nets.{select_of}

-- the select or a control is what is bad
abbrev pub is_control : Bad → Bool
is_control Nothing = false
is_control First = false
is_control Second = false
is_control Control = true
is_control Trit = false
is_control Room = false

-- Neg of a constant is no control
abbrev pub no_control : ControlNet
no_control = Neg (record { 0 = 0 })

abbrev pub select_in : Bool → Bool → ControlNet
select_in neg bad = when bad then no_control else select_of neg

abbrev pub controls_in : Bool → ℕ → Controls
controls_in over bad = record {
  clock = when eqb bad 0 then no_control else Pos (record { 0 = 2 });
  clear = when eqb bad 1 then no_control else Pos (record { 0 = 0 });
  reset = when eqb bad 2 then no_control else Neg (record { 0 = 2 });
  enable = when eqb bad 3 then no_control else Pos (record { 0 = 1 });
  reset_over_enable = over;
}

abbrev pub trits_in : ℕ → Bool → ℕ → List ℕ
trits_in n bad place = when bad then set (pattern_of trit_at_of n) place 3 else pattern_of trit_at_of n
