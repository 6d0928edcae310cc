-- Calls 4 of the call format, which the rules answer as the Rust does. Made by scripts/sample.py.
use Prim.Native.Nat.{ℕ}
use mathlib.Core.Path.{◌≡◌, refl}
use mathlib.Core.Bool.{true}
use mathlib.Core.List.{List, [], ◌∷◌, ◌++◌}
use lib.ListN.{replicate}
use Rattle.rules.specs.Conditions.{bad_trits}
use Rattle.rules.specs.Log.{flag, ◌>>=◌, ◌>>◌}
use Rattle.rules.specs.Logic.{is_undef, are_trits}
use Rattle.rules.specs.Refusals.{is_undef_refusal}
use Rattle.rules_trial.specs.Read.{give, word, words_of, list}
use Rattle.rules_trial.specs.Wire.{reply, op4, agrees, agree, Case, case}

abbrev pub cases : List Case
cases =
    case (4 ∷ 1 ∷ 0 ∷ []) (0 ∷ 1 ∷ 1 ∷ [])
    ∷
    case (4 ∷ 2 ∷ 1 ∷ 0 ∷ []) (0 ∷ 1 ∷ 0 ∷ [])
    ∷
    case (4 ∷ 2 ∷ 1 ∷ 1 ∷ []) (0 ∷ 1 ∷ 0 ∷ [])
    ∷
    case (4 ∷ 2 ∷ 1 ∷ 2 ∷ []) (0 ∷ 1 ∷ 1 ∷ [])
    ∷
    case (4 ∷ 3 ∷ 2 ∷ 0 ∷ 0 ∷ []) (0 ∷ 1 ∷ 0 ∷ [])
    ∷
    case (4 ∷ 3 ∷ 2 ∷ 2 ∷ 2 ∷ []) (0 ∷ 1 ∷ 1 ∷ [])
    ∷
    case (4 ∷ 3 ∷ 2 ∷ 0 ∷ 1 ∷ []) (0 ∷ 1 ∷ 0 ∷ [])
    ∷
    case (4 ∷ 4 ∷ 3 ∷ 2 ∷ 2 ∷ 2 ∷ []) (0 ∷ 1 ∷ 1 ∷ [])
    ∷
    case (4 ∷ 3 ∷ 2 ∷ 0 ∷ 2 ∷ []) (0 ∷ 1 ∷ 0 ∷ [])
    ∷
    case (4 ∷ 5 ∷ 4 ∷ 2 ∷ 2 ∷ 2 ∷ 2 ∷ []) (0 ∷ 1 ∷ 1 ∷ [])
    ∷
    case (4 ∷ 3 ∷ 2 ∷ 1 ∷ 0 ∷ []) (0 ∷ 1 ∷ 0 ∷ [])
    ∷
    case (4 ∷ 7 ∷ 6 ∷ 2 ∷ 2 ∷ 2 ∷ 2 ∷ 2 ∷ 2 ∷ []) (0 ∷ 1 ∷ 1 ∷ [])
    ∷
    case (4 ∷ 3 ∷ 2 ∷ 1 ∷ 1 ∷ []) (0 ∷ 1 ∷ 0 ∷ [])
    ∷
    case (4 ∷ 10 ∷ 9 ∷ 2 ∷ 2 ∷ 2 ∷ 2 ∷ 2 ∷ 2 ∷ 2 ∷ 2 ∷ 2 ∷ []) (0 ∷ 1 ∷ 1 ∷ [])
    ∷
    case (4 ∷ 3 ∷ 2 ∷ 1 ∷ 2 ∷ []) (0 ∷ 1 ∷ 0 ∷ [])
    ∷
    case (4 ∷ 18 ∷ 17 ∷ replicate 17 2 ++ []) (0 ∷ 1 ∷ 1 ∷ [])
    ∷
    case (4 ∷ 3 ∷ 2 ∷ 2 ∷ 3 ∷ []) (4 ∷ 0 ∷ [])
    ∷
    case (4 ∷ 18 ∷ 17 ∷ 2 ∷ 2 ∷ 128 ∷ 2 ∷ 2 ∷ 2 ∷ 2 ∷ 2 ∷ 2 ∷ 2 ∷ 0 ∷ 2 ∷ 2 ∷ 2 ∷ 2 ∷ 2 ∷ 2 ∷ []) (4 ∷ 0 ∷ [])
    ∷
    []

pub agreed : agree op4 cases ≡ true
unfolding bad_trits flag ◌>>=◌ ◌>>◌ is_undef are_trits is_undef_refusal give word words_of list reply op4 agrees agree Rattle.rules_trial.specs.Read.◌>>=◌
agreed = refl
