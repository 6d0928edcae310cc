-- value.rs: nets, values and control nets. A value is a list of nets: 0, 1, X, and from 2 on the nets of cells.
use Rattle.std.specs.Prelude.{ℕ, zero, suc, ◌+◌, ◌-◌, ◌/◌, ◌%◌, Bool, false, ◌&&◌, ◌||◌, List, [], ◌∷◌, ◌++◌, map, length, replicate, eqb, ltb, leb}
use Rattle.rules.specs.Limits.{max_nets, X, trit_x}
use Rattle.lists.specs.Choice.{when◌then◌else◌}
use Rattle.lists.specs.Lists.{all}
use Rattle.rules.specs.Logic.{Const, Trit, trit_of, Undef}

abbrev pub Value : Type 0
Value = List ℕ

-- net numbers and cell numbers stand two apart
abbrev pub first_cell : ℕ
first_cell = 2

unfoldable pub net_of_cell : ℕ → ℕ
net_of_cell c = first_cell + c

-- what a net is: a constant, or the cell of a number
pub data Driver : Type 0 where
  Constant : Trit → Driver
  CellNumber : ℕ → Driver

unfoldable pub driver_of : ℕ → Driver
driver_of n = when eqb n X then Constant Undef else when ltb n first_cell then Constant (trit_of n) else CellNumber (n - first_cell)

-- the net of a trit, and the value of a constant
unfoldable pub net_of_trit : ℕ → ℕ
net_of_trit t = when eqb t trit_x then X else t

unfoldable pub of_const : Const → Value
of_const c = map net_of_trit c

-- the low n bits of a number as constant nets, lowest first
unfoldable pub from_uint : ℕ → ℕ → Value
from_uint zero x = []
from_uint (suc n) x = x % 2 ∷ from_uint n (x / 2)

unfoldable pub x_nets : ℕ → Value
x_nets n = replicate n X

-- a value filled up with net 0 to n nets
unfoldable pub zext : Value → ℕ → Value
zext v n = v ++ replicate (n - length v) 0

-- a net that is no constant, below the next free net and its limit
unfoldable pub is_cell_net : ℕ → ℕ → Bool
is_cell_net next n = leb first_cell n && (ltb n next && ltb n max_nets)

unfoldable pub good_net : ℕ → ℕ → Bool
good_net next n = ltb n first_cell || (eqb n X || is_cell_net next n)

unfoldable pub good_value : ℕ → Value → Bool
good_value next v = all (good_net next) v

-- a control: a net, or its inverse
pub data Control : Type 0 where
  Pos Neg : ℕ → Control

-- the inverse; of a constant it is the other constant
unfoldable pub inverse : Control → Control
inverse (Pos n) = when eqb n 0 then Pos 1 else when eqb n 1 then Pos 0 else Neg n
inverse (Neg n) = Pos n

unfoldable pub same_control : Control → Control → Bool
same_control (Pos m) (Pos n) = eqb m n
same_control (Pos m) (Neg n) = false
same_control (Neg m) (Pos n) = false
same_control (Neg m) (Neg n) = eqb m n

-- 0 or 1 for ever
unfoldable pub is_always : ℕ → Control → Bool
is_always v c = same_control c (Pos v)

unfoldable pub good_control : ℕ → Control → Bool
good_control next (Pos n) = ltb n first_cell || is_cell_net next n
good_control next (Neg n) = is_cell_net next n

-- a mux select may also be X
unfoldable pub good_select : ℕ → Control → Bool
good_select next (Pos n) = good_net next n
good_select next (Neg n) = is_cell_net next n

-- as two words: 0 Pos or 1 Neg, and the net
unfoldable pub control_words : Control → List ℕ
control_words (Pos n) = 0 ∷ n ∷ []
control_words (Neg n) = 1 ∷ n ∷ []
