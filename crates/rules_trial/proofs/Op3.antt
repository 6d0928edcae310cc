-- Calls 3 of the call format, which the rules answer as the Rust does. Made by scripts/sample.py.
use Prim.Native.Nat.{ℕ}
use mathlib.Core.Path.{◌≡◌, refl}
use mathlib.Core.Bool.{true}
use mathlib.Core.List.{List, [], ◌∷◌}
use Rattle.rules.specs.Conditions.{unequal, bad_trits, no_room_of}
use Rattle.rules.specs.Log.{◌>>=◌, ◌>>◌}
use Rattle.rules.specs.Logic.{trit_of, code_of, trit_or, tritwise, const_or, are_trits}
use Rattle.rules.specs.Refusals.{const_pair_refusal}
use Rattle.rules_trial.specs.Read.{give, word, words_of, list}
use Rattle.rules_trial.specs.Wire.{reply, as_list, op3, agrees, agree, Case, case}

abbrev pub cases : List Case
cases =
    case (3 ∷ 3 ∷ 4294967295 ∷ 0 ∷ 0 ∷ []) (0 ∷ 1 ∷ 0 ∷ [])
    ∷
    case (3 ∷ 5 ∷ 4294967295 ∷ 1 ∷ 0 ∷ 1 ∷ 0 ∷ []) (0 ∷ 2 ∷ 1 ∷ 0 ∷ [])
    ∷
    case (3 ∷ 9 ∷ 7 ∷ 3 ∷ 1 ∷ 1 ∷ 1 ∷ 3 ∷ 0 ∷ 0 ∷ 0 ∷ []) (0 ∷ 4 ∷ 3 ∷ 1 ∷ 1 ∷ 1 ∷ [])
    ∷
    case (3 ∷ 5 ∷ 4294967295 ∷ 1 ∷ 0 ∷ 1 ∷ 1 ∷ []) (0 ∷ 2 ∷ 1 ∷ 1 ∷ [])
    ∷
    case (3 ∷ 5 ∷ 4294967295 ∷ 1 ∷ 0 ∷ 1 ∷ 2 ∷ []) (0 ∷ 2 ∷ 1 ∷ 2 ∷ [])
    ∷
    case (3 ∷ 7 ∷ 4294967295 ∷ 2 ∷ 0 ∷ 0 ∷ 2 ∷ 0 ∷ 0 ∷ []) (0 ∷ 3 ∷ 2 ∷ 0 ∷ 0 ∷ [])
    ∷
    case (3 ∷ 7 ∷ 4294967295 ∷ 2 ∷ 0 ∷ 0 ∷ 2 ∷ 0 ∷ 1 ∷ []) (0 ∷ 3 ∷ 2 ∷ 0 ∷ 1 ∷ [])
    ∷
    case (3 ∷ 7 ∷ 4294967295 ∷ 2 ∷ 0 ∷ 0 ∷ 2 ∷ 0 ∷ 2 ∷ []) (0 ∷ 3 ∷ 2 ∷ 0 ∷ 2 ∷ [])
    ∷
    case (3 ∷ 7 ∷ 4294967295 ∷ 2 ∷ 0 ∷ 0 ∷ 2 ∷ 1 ∷ 0 ∷ []) (0 ∷ 3 ∷ 2 ∷ 1 ∷ 0 ∷ [])
    ∷
    case (3 ∷ 7 ∷ 4294967295 ∷ 2 ∷ 0 ∷ 0 ∷ 2 ∷ 1 ∷ 1 ∷ []) (0 ∷ 3 ∷ 2 ∷ 1 ∷ 1 ∷ [])
    ∷
    case (3 ∷ 7 ∷ 4294967295 ∷ 2 ∷ 0 ∷ 0 ∷ 2 ∷ 1 ∷ 2 ∷ []) (0 ∷ 3 ∷ 2 ∷ 1 ∷ 2 ∷ [])
    ∷
    case (3 ∷ 7 ∷ 4294967295 ∷ 2 ∷ 0 ∷ 0 ∷ 2 ∷ 2 ∷ 0 ∷ []) (0 ∷ 3 ∷ 2 ∷ 2 ∷ 0 ∷ [])
    ∷
    case (3 ∷ 7 ∷ 4294967295 ∷ 2 ∷ 0 ∷ 0 ∷ 2 ∷ 2 ∷ 1 ∷ []) (0 ∷ 3 ∷ 2 ∷ 2 ∷ 1 ∷ [])
    ∷
    case (3 ∷ 7 ∷ 4294967295 ∷ 2 ∷ 0 ∷ 0 ∷ 2 ∷ 2 ∷ 2 ∷ []) (0 ∷ 3 ∷ 2 ∷ 2 ∷ 2 ∷ [])
    ∷
    case (3 ∷ 9 ∷ 3 ∷ 3 ∷ 2 ∷ 2 ∷ 2 ∷ 3 ∷ 2 ∷ 1 ∷ 2 ∷ []) (0 ∷ 4 ∷ 3 ∷ 2 ∷ 1 ∷ 2 ∷ [])
    ∷
    case (3 ∷ 9 ∷ 3 ∷ 3 ∷ 2 ∷ 2 ∷ 2 ∷ 3 ∷ 0 ∷ 1 ∷ 1 ∷ []) (0 ∷ 4 ∷ 3 ∷ 2 ∷ 1 ∷ 1 ∷ [])
    ∷
    case (3 ∷ 4 ∷ 9 ∷ 1 ∷ 0 ∷ 0 ∷ []) (2 ∷ 0 ∷ [])
    ∷
    case (3 ∷ 6 ∷ 0 ∷ 1 ∷ 3 ∷ 2 ∷ 0 ∷ 1 ∷ []) (2 ∷ 0 ∷ [])
    ∷
    case (3 ∷ 7 ∷ 9 ∷ 2 ∷ 0 ∷ 3 ∷ 2 ∷ 0 ∷ 0 ∷ []) (4 ∷ 0 ∷ [])
    ∷
    case (3 ∷ 5 ∷ 0 ∷ 1 ∷ 0 ∷ 1 ∷ 4 ∷ []) (4 ∷ 0 ∷ [])
    ∷
    case (3 ∷ 7 ∷ 1 ∷ 2 ∷ 0 ∷ 1 ∷ 2 ∷ 1 ∷ 1 ∷ []) (20 ∷ 0 ∷ [])
    ∷
    case (3 ∷ 15 ∷ 0 ∷ 6 ∷ 2 ∷ 1 ∷ 2 ∷ 2 ∷ 1 ∷ 0 ∷ 6 ∷ 2 ∷ 0 ∷ 1 ∷ 2 ∷ 1 ∷ 1 ∷ []) (20 ∷ 0 ∷ [])
    ∷
    case (3 ∷ 21 ∷ 9 ∷ 9 ∷ 0 ∷ 0 ∷ 0 ∷ 1 ∷ 1 ∷ 1 ∷ 2 ∷ 2 ∷ 2 ∷ 9 ∷ 0 ∷ 1 ∷ 2 ∷ 0 ∷ 1 ∷ 2 ∷ 0 ∷ 1 ∷ 2 ∷ []) (0 ∷ 10 ∷ 9 ∷ 0 ∷ 1 ∷ 2 ∷ 1 ∷ 1 ∷ 1 ∷ 2 ∷ 1 ∷ 2 ∷ [])
    ∷
    []

pub agreed : agree op3 cases ≡ true
unfolding unequal bad_trits no_room_of ◌>>=◌ ◌>>◌ trit_of code_of trit_or tritwise const_or are_trits const_pair_refusal give word words_of list reply as_list op3 agrees agree Rattle.rules_trial.specs.Read.◌>>=◌
agreed = refl
