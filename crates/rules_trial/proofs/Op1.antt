-- Calls 1 of the call format, which the rules answer as the Rust does. Made by scripts/sample.py.
use Prim.Native.Nat.{ℕ}
use mathlib.Core.Path.{◌≡◌, refl}
use mathlib.Core.Bool.{true}
use mathlib.Core.List.{List, [], ◌∷◌}
use Rattle.rules.specs.Conditions.{bad_trits, no_room_of}
use Rattle.rules.specs.Log.{◌>>=◌, ◌>>◌}
use Rattle.rules.specs.Logic.{trit_of, code_of, trit_not, const_not, are_trits}
use Rattle.rules.specs.Refusals.{const_not_refusal}
use Rattle.rules_trial.specs.Read.{give, word, words_of, list}
use Rattle.rules_trial.specs.Wire.{reply, as_list, op1, agrees, agree, Case, case}

abbrev pub cases : List Case
cases =
    case (1 ∷ 2 ∷ 0 ∷ 0 ∷ []) (0 ∷ 1 ∷ 0 ∷ [])
    ∷
    case (1 ∷ 3 ∷ 1 ∷ 1 ∷ 0 ∷ []) (0 ∷ 2 ∷ 1 ∷ 1 ∷ [])
    ∷
    case (1 ∷ 5 ∷ 3 ∷ 3 ∷ 0 ∷ 0 ∷ 0 ∷ []) (0 ∷ 4 ∷ 3 ∷ 1 ∷ 1 ∷ 1 ∷ [])
    ∷
    case (1 ∷ 3 ∷ 1 ∷ 1 ∷ 1 ∷ []) (0 ∷ 2 ∷ 1 ∷ 0 ∷ [])
    ∷
    case (1 ∷ 3 ∷ 1 ∷ 1 ∷ 2 ∷ []) (0 ∷ 2 ∷ 1 ∷ 2 ∷ [])
    ∷
    case (1 ∷ 4 ∷ 2 ∷ 2 ∷ 0 ∷ 0 ∷ []) (0 ∷ 3 ∷ 2 ∷ 1 ∷ 1 ∷ [])
    ∷
    case (1 ∷ 4 ∷ 2 ∷ 2 ∷ 0 ∷ 1 ∷ []) (0 ∷ 3 ∷ 2 ∷ 1 ∷ 0 ∷ [])
    ∷
    case (1 ∷ 4 ∷ 2 ∷ 2 ∷ 0 ∷ 2 ∷ []) (0 ∷ 3 ∷ 2 ∷ 1 ∷ 2 ∷ [])
    ∷
    case (1 ∷ 4 ∷ 2 ∷ 2 ∷ 1 ∷ 0 ∷ []) (0 ∷ 3 ∷ 2 ∷ 0 ∷ 1 ∷ [])
    ∷
    case (1 ∷ 4 ∷ 2 ∷ 2 ∷ 1 ∷ 1 ∷ []) (0 ∷ 3 ∷ 2 ∷ 0 ∷ 0 ∷ [])
    ∷
    case (1 ∷ 4 ∷ 2 ∷ 2 ∷ 1 ∷ 2 ∷ []) (0 ∷ 3 ∷ 2 ∷ 0 ∷ 2 ∷ [])
    ∷
    case (1 ∷ 4 ∷ 2 ∷ 2 ∷ 2 ∷ 0 ∷ []) (0 ∷ 3 ∷ 2 ∷ 2 ∷ 1 ∷ [])
    ∷
    case (1 ∷ 4 ∷ 2 ∷ 2 ∷ 2 ∷ 1 ∷ []) (0 ∷ 3 ∷ 2 ∷ 2 ∷ 0 ∷ [])
    ∷
    case (1 ∷ 4 ∷ 2 ∷ 2 ∷ 2 ∷ 2 ∷ []) (0 ∷ 3 ∷ 2 ∷ 2 ∷ 2 ∷ [])
    ∷
    case (1 ∷ 5 ∷ 3 ∷ 3 ∷ 0 ∷ 0 ∷ 1 ∷ []) (0 ∷ 4 ∷ 3 ∷ 1 ∷ 1 ∷ 0 ∷ [])
    ∷
    case (1 ∷ 5 ∷ 3 ∷ 3 ∷ 0 ∷ 0 ∷ 2 ∷ []) (0 ∷ 4 ∷ 3 ∷ 1 ∷ 1 ∷ 2 ∷ [])
    ∷
    case (1 ∷ 4 ∷ 9 ∷ 2 ∷ 0 ∷ 3 ∷ []) (4 ∷ 0 ∷ [])
    ∷
    case (1 ∷ 3 ∷ 0 ∷ 1 ∷ 255 ∷ []) (4 ∷ 0 ∷ [])
    ∷
    case (1 ∷ 4 ∷ 1 ∷ 2 ∷ 0 ∷ 1 ∷ []) (20 ∷ 0 ∷ [])
    ∷
    case (1 ∷ 8 ∷ 5 ∷ 6 ∷ 2 ∷ 2 ∷ 2 ∷ 2 ∷ 2 ∷ 2 ∷ []) (20 ∷ 0 ∷ [])
    ∷
    case (1 ∷ 5 ∷ 3 ∷ 3 ∷ 0 ∷ 1 ∷ 2 ∷ []) (0 ∷ 4 ∷ 3 ∷ 1 ∷ 0 ∷ 2 ∷ [])
    ∷
    []

pub agreed : agree op1 cases ≡ true
unfolding bad_trits no_room_of ◌>>=◌ ◌>>◌ trit_of code_of trit_not const_not are_trits const_not_refusal give word words_of list reply as_list op1 agrees agree Rattle.rules_trial.specs.Read.◌>>=◌
agreed = refl
