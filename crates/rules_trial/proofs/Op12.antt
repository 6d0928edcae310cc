-- Calls 12 of the call format, which the rules answer as the Rust does. Made by scripts/sample.py.
use Prim.Native.Nat.{ℕ}
use mathlib.Core.Path.{◌≡◌, refl}
use mathlib.Core.Bool.{true}
use mathlib.Core.List.{List, [], ◌∷◌, ◌++◌}
use lib.ListN.{replicate}
use Rattle.lists.specs.Choice.{◌or_else◌}
use Rattle.rules.specs.Conditions.{long_value, unequal, bad_value, log_full, no_room_of, nets_full}
use Rattle.rules.specs.Log.{entry, flag, dff_operands, encode, words, ◌>>=◌, ◌>>◌, done, request, mux_by, add_mux_of, start_net, added, state_after}
use Rattle.rules.specs.Merge.{spread, add_dedup_mux_of, longer, runs, mux_runs, add_bitwise_mux_of}
use Rattle.rules.specs.Refusals.{room_refusal, log_refusal, result_refusal, bitwise_lens_number, bitwise_number, add_bitwise_mux_refusal}
use Rattle.rules.specs.Value.{is_cell_net, good_net, good_value, control_words}
use Rattle.rules_trial.specs.Read.{give, word, words_of, list, test, control, log, controls}
use Rattle.rules_trial.specs.Wire.{reply, as_list, log_out, merge_answer, op12, agrees, agree, Case, case}

abbrev pub cases : List Case
cases =
    case (12 ∷ 12 ∷ 2000 ∷ 0 ∷ 200 ∷ 2 ∷ 0 ∷ 5 ∷ 2 ∷ 8 ∷ 9 ∷ 2 ∷ 8 ∷ 9 ∷ []) (0 ∷ 20 ∷ 14 ∷ 202 ∷ 14 ∷ 5 ∷ 1 ∷ 200 ∷ 3 ∷ 0 ∷ 8 ∷ 8 ∷ 5 ∷ 1 ∷ 201 ∷ 3 ∷ 5 ∷ 9 ∷ 9 ∷ 2 ∷ 200 ∷ 201 ∷ [])
    ∷
    case (12 ∷ 6 ∷ 2000 ∷ 0 ∷ 200 ∷ 0 ∷ 0 ∷ 0 ∷ []) (0 ∷ 4 ∷ 0 ∷ 200 ∷ 0 ∷ 0 ∷ [])
    ∷
    case (12 ∷ 6 ∷ 10 ∷ 0 ∷ 891667 ∷ 0 ∷ 0 ∷ 0 ∷ []) (0 ∷ 4 ∷ 0 ∷ 891667 ∷ 0 ∷ 0 ∷ [])
    ∷
    case (12 ∷ 6 ∷ 6 ∷ 1 ∷ 199 ∷ 0 ∷ 0 ∷ 0 ∷ []) (0 ∷ 4 ∷ 1 ∷ 199 ∷ 0 ∷ 0 ∷ [])
    ∷
    case (12 ∷ 6 ∷ 0 ∷ 0 ∷ 16776958 ∷ 0 ∷ 0 ∷ 0 ∷ []) (0 ∷ 4 ∷ 0 ∷ 16776958 ∷ 0 ∷ 0 ∷ [])
    ∷
    case (12 ∷ 6 ∷ 0 ∷ 0 ∷ 138 ∷ 0 ∷ 0 ∷ 0 ∷ []) (0 ∷ 4 ∷ 0 ∷ 138 ∷ 0 ∷ 0 ∷ [])
    ∷
    case (12 ∷ 6 ∷ 0 ∷ 0 ∷ 5 ∷ 0 ∷ 0 ∷ 0 ∷ []) (0 ∷ 4 ∷ 0 ∷ 5 ∷ 0 ∷ 0 ∷ [])
    ∷
    case (12 ∷ 6 ∷ 17 ∷ 17 ∷ 16777216 ∷ 0 ∷ 0 ∷ 0 ∷ []) (0 ∷ 4 ∷ 17 ∷ 16777216 ∷ 0 ∷ 0 ∷ [])
    ∷
    case (12 ∷ 6 ∷ 1 ∷ 1 ∷ 9476160 ∷ 0 ∷ 0 ∷ 0 ∷ []) (0 ∷ 4 ∷ 1 ∷ 9476160 ∷ 0 ∷ 0 ∷ [])
    ∷
    case (12 ∷ 6 ∷ 0 ∷ 0 ∷ 14911699 ∷ 0 ∷ 0 ∷ 0 ∷ []) (0 ∷ 4 ∷ 0 ∷ 14911699 ∷ 0 ∷ 0 ∷ [])
    ∷
    case (12 ∷ 6 ∷ 0 ∷ 0 ∷ 251 ∷ 0 ∷ 0 ∷ 0 ∷ []) (0 ∷ 4 ∷ 0 ∷ 251 ∷ 0 ∷ 0 ∷ [])
    ∷
    case (12 ∷ 6 ∷ 15 ∷ 0 ∷ 16776994 ∷ 0 ∷ 0 ∷ 0 ∷ []) (0 ∷ 4 ∷ 0 ∷ 16776994 ∷ 0 ∷ 0 ∷ [])
    ∷
    case (12 ∷ 6 ∷ 0 ∷ 0 ∷ 16777126 ∷ 0 ∷ 0 ∷ 0 ∷ []) (0 ∷ 4 ∷ 0 ∷ 16777126 ∷ 0 ∷ 0 ∷ [])
    ∷
    case (12 ∷ 6 ∷ 18 ∷ 0 ∷ 238 ∷ 0 ∷ 0 ∷ 0 ∷ []) (0 ∷ 4 ∷ 0 ∷ 238 ∷ 0 ∷ 0 ∷ [])
    ∷
    case (12 ∷ 6 ∷ 0 ∷ 0 ∷ 80 ∷ 0 ∷ 0 ∷ 0 ∷ []) (0 ∷ 4 ∷ 0 ∷ 80 ∷ 0 ∷ 0 ∷ [])
    ∷
    case (12 ∷ 6 ∷ 0 ∷ 0 ∷ 2 ∷ 0 ∷ 0 ∷ 0 ∷ []) (0 ∷ 4 ∷ 0 ∷ 2 ∷ 0 ∷ 0 ∷ [])
    ∷
    case (12 ∷ 8 ∷ 2000 ∷ 0 ∷ 200 ∷ 1 ∷ 7 ∷ 1 ∷ 8 ∷ 0 ∷ []) (2 ∷ 0 ∷ [])
    ∷
    case (12 ∷ 32 ∷ 9 ∷ 0 ∷ 274 ∷ 9 ∷ 102 ∷ 103 ∷ 104 ∷ 105 ∷ 106 ∷ 107 ∷ 108 ∷ 109 ∷ 110 ∷ 8 ∷ 198 ∷ 110 ∷ 198 ∷ 87 ∷ 110 ∷ 198 ∷ 110 ∷ 110 ∷ 9 ∷ 216 ∷ 150 ∷ 216 ∷ 216 ∷ 129 ∷ 129 ∷ 216 ∷ 150 ∷ 129 ∷ []) (2 ∷ 0 ∷ [])
    ∷
    case (12 ∷ 9 ∷ 2000 ∷ 0 ∷ 200 ∷ 1 ∷ 200 ∷ 1 ∷ 8 ∷ 1 ∷ 9 ∷ []) (4 ∷ 0 ∷ [])
    ∷
    case (12 ∷ 18 ∷ 10 ∷ 1 ∷ 30 ∷ 4 ∷ 12 ∷ 13 ∷ 14 ∷ 15 ∷ 4 ∷ 10 ∷ 30 ∷ 10 ∷ 10 ∷ 4 ∷ 15 ∷ 16 ∷ 17 ∷ 18 ∷ []) (4 ∷ 0 ∷ [])
    ∷
    case (12 ∷ 9 ∷ 6 ∷ 0 ∷ 200 ∷ 1 ∷ 7 ∷ 1 ∷ 8 ∷ 1 ∷ 9 ∷ []) (20 ∷ 0 ∷ [])
    ∷
    case (12 ∷ 9 ∷ 7 ∷ 1 ∷ 200 ∷ 1 ∷ 7 ∷ 1 ∷ 8 ∷ 1 ∷ 9 ∷ []) (20 ∷ 0 ∷ [])
    ∷
    case (12 ∷ 9 ∷ 7 ∷ 0 ∷ 16777216 ∷ 1 ∷ 7 ∷ 1 ∷ 8 ∷ 1 ∷ 9 ∷ []) (21 ∷ 0 ∷ [])
    ∷
    case (12 ∷ 9 ∷ 24 ∷ 0 ∷ 16777216 ∷ 1 ∷ 16777214 ∷ 1 ∷ 1 ∷ 1 ∷ 16777213 ∷ []) (21 ∷ 0 ∷ [])
    ∷
    case (12 ∷ 4103 ∷ 2000 ∷ 0 ∷ 200 ∷ 0 ∷ 0 ∷ 4097 ∷ replicate 4097 0 ++ []) (1 ∷ 0 ∷ [])
    ∷
    case (12 ∷ 12294 ∷ 100 ∷ 0 ∷ 3 ∷ 4096 ∷ replicate 4096 2 ++ 4096 ∷ replicate 4096 0 ++ 4096 ∷ replicate 4096 1 ++ []) (0 ∷ 4107 ∷ 7 ∷ 4 ∷ 7 ∷ 5 ∷ 1 ∷ 3 ∷ 3 ∷ 2 ∷ 0 ∷ 1 ∷ 4096 ∷ replicate 4096 3 ++ [])
    ∷
    case (12 ∷ 12297 ∷ 100 ∷ 0 ∷ 3 ∷ 4097 ∷ replicate 4097 2 ++ 4097 ∷ replicate 4097 0 ++ 4097 ∷ replicate 4097 1 ++ []) (1 ∷ 0 ∷ [])
    ∷
    case (12 ∷ 7 ∷ 100 ∷ 0 ∷ 3 ∷ 1 ∷ 3 ∷ 0 ∷ 0 ∷ []) (2 ∷ 0 ∷ [])
    ∷
    []

pub agreed : agree op12 cases ≡ true
unfolding ◌or_else◌ long_value unequal bad_value log_full no_room_of nets_full entry flag dff_operands encode words ◌>>=◌ ◌>>◌ done request mux_by add_mux_of start_net added state_after spread add_dedup_mux_of longer runs mux_runs add_bitwise_mux_of room_refusal log_refusal result_refusal bitwise_lens_number bitwise_number add_bitwise_mux_refusal is_cell_net good_net good_value control_words give word words_of list test control log controls reply as_list log_out merge_answer op12 agrees agree Rattle.rules_trial.specs.Read.◌>>=◌
agreed = refl
