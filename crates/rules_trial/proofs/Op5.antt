-- Calls 5 of the call format, which the rules answer as the Rust does. Made by scripts/sample.py.
use Prim.Native.Nat.{ℕ}
use mathlib.Core.Path.{◌≡◌, refl}
use mathlib.Core.Bool.{true}
use mathlib.Core.List.{List, [], ◌∷◌}
use Rattle.rules.specs.Conditions.{bad_control}
use Rattle.rules.specs.Log.{◌>>=◌, ◌>>◌}
use Rattle.rules.specs.Refusals.{control_refusal}
use Rattle.rules.specs.Value.{is_cell_net, inverse, good_control, control_words}
use Rattle.rules_trial.specs.Read.{give, word, control}
use Rattle.rules_trial.specs.Wire.{reply, op5, agrees, agree, Case, case}

abbrev pub cases : List Case
cases =
    case (5 ∷ 2 ∷ 0 ∷ 0 ∷ []) (0 ∷ 2 ∷ 0 ∷ 1 ∷ [])
    ∷
    case (5 ∷ 2 ∷ 0 ∷ 1 ∷ []) (0 ∷ 2 ∷ 0 ∷ 0 ∷ [])
    ∷
    case (5 ∷ 2 ∷ 0 ∷ 2 ∷ []) (0 ∷ 2 ∷ 1 ∷ 2 ∷ [])
    ∷
    case (5 ∷ 2 ∷ 1 ∷ 2 ∷ []) (0 ∷ 2 ∷ 0 ∷ 2 ∷ [])
    ∷
    case (5 ∷ 2 ∷ 0 ∷ 3 ∷ []) (0 ∷ 2 ∷ 1 ∷ 3 ∷ [])
    ∷
    case (5 ∷ 2 ∷ 1 ∷ 3 ∷ []) (0 ∷ 2 ∷ 0 ∷ 3 ∷ [])
    ∷
    case (5 ∷ 2 ∷ 0 ∷ 16777215 ∷ []) (0 ∷ 2 ∷ 1 ∷ 16777215 ∷ [])
    ∷
    case (5 ∷ 2 ∷ 1 ∷ 16777215 ∷ []) (0 ∷ 2 ∷ 0 ∷ 16777215 ∷ [])
    ∷
    case (5 ∷ 2 ∷ 1 ∷ 16777209 ∷ []) (0 ∷ 2 ∷ 0 ∷ 16777209 ∷ [])
    ∷
    case (5 ∷ 2 ∷ 1 ∷ 16777083 ∷ []) (0 ∷ 2 ∷ 0 ∷ 16777083 ∷ [])
    ∷
    case (5 ∷ 2 ∷ 0 ∷ 9 ∷ []) (0 ∷ 2 ∷ 1 ∷ 9 ∷ [])
    ∷
    case (5 ∷ 2 ∷ 1 ∷ 21 ∷ []) (0 ∷ 2 ∷ 0 ∷ 21 ∷ [])
    ∷
    case (5 ∷ 2 ∷ 1 ∷ 50 ∷ []) (0 ∷ 2 ∷ 0 ∷ 50 ∷ [])
    ∷
    case (5 ∷ 2 ∷ 0 ∷ 52 ∷ []) (0 ∷ 2 ∷ 1 ∷ 52 ∷ [])
    ∷
    case (5 ∷ 2 ∷ 0 ∷ 14 ∷ []) (0 ∷ 2 ∷ 1 ∷ 14 ∷ [])
    ∷
    case (5 ∷ 2 ∷ 1 ∷ 111 ∷ []) (0 ∷ 2 ∷ 0 ∷ 111 ∷ [])
    ∷
    case (5 ∷ 2 ∷ 1 ∷ 0 ∷ []) (4 ∷ 0 ∷ [])
    ∷
    case (5 ∷ 2 ∷ 1 ∷ 1 ∷ []) (4 ∷ 0 ∷ [])
    ∷
    []

pub agreed : agree op5 cases ≡ true
unfolding bad_control ◌>>=◌ ◌>>◌ control_refusal is_cell_net inverse good_control control_words give word control reply op5 agrees agree Rattle.rules_trial.specs.Read.◌>>=◌
agreed = refl
