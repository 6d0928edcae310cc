-- Calls 6 of the call format, which the rules answer as the Rust does. Made by scripts/sample.py.
use Prim.Native.Nat.{ℕ}
use mathlib.Core.Path.{◌≡◌, refl}
use mathlib.Core.Bool.{true}
use mathlib.Core.List.{List, [], ◌∷◌}
use Rattle.lists.specs.Choice.{◌or_else◌}
use Rattle.rules.specs.Conditions.{bad_control, log_full, nets_full}
use Rattle.rules.specs.Geometry.{soft_bits, soft, row_len_of, full_depth_of, full_chunks, part_depth_of, all_chunks, full_mems, all_mems}
use Rattle.rules.specs.Image.{rows_before, mem_start, trits}
use Rattle.rules.specs.Log.{entry, flag, dff_operands, encode, words, ◌>>=◌, ◌>>◌, done, request, add_not_of, add_and_of, into_pos_of, with_reset, remap_reset_over_enable_of, start_net, added, state_after}
use Rattle.rules.specs.Numbers.{ceil_div, softs}
use Rattle.rules.specs.Refusals.{room_refusal, log_refusal, remap_number, remap_reset_over_enable_refusal}
use Rattle.rules.specs.Value.{is_cell_net, same_control, is_always, good_control, control_words}
use Rattle.rules_trial.specs.Read.{give, word, test, control, log, controls}
use Rattle.rules_trial.specs.Wire.{reply, as_list, log_out, remap_answer, op6, agrees, agree, Case, case}

abbrev pub cases : List Case
cases =
    case (6 ∷ 8 ∷ 2000 ∷ 0 ∷ 200 ∷ 1 ∷ 5 ∷ 1 ∷ 5 ∷ 0 ∷ []) (0 ∷ 24 ∷ 16 ∷ 203 ∷ 16 ∷ 2 ∷ 1 ∷ 200 ∷ 1 ∷ 5 ∷ 2 ∷ 1 ∷ 201 ∷ 1 ∷ 5 ∷ 3 ∷ 1 ∷ 202 ∷ 2 ∷ 200 ∷ 201 ∷ 0 ∷ 202 ∷ 1 ∷ 5 ∷ 1 ∷ [])
    ∷
    case (6 ∷ 8 ∷ 2000 ∷ 0 ∷ 200 ∷ 0 ∷ 1 ∷ 0 ∷ 0 ∷ 0 ∷ []) (0 ∷ 14 ∷ 6 ∷ 201 ∷ 6 ∷ 3 ∷ 1 ∷ 200 ∷ 2 ∷ 1 ∷ 0 ∷ 0 ∷ 200 ∷ 0 ∷ 0 ∷ 1 ∷ [])
    ∷
    case (6 ∷ 8 ∷ 2000 ∷ 0 ∷ 200 ∷ 0 ∷ 0 ∷ 0 ∷ 0 ∷ 0 ∷ []) (0 ∷ 8 ∷ 0 ∷ 200 ∷ 0 ∷ 0 ∷ 0 ∷ 0 ∷ 0 ∷ 1 ∷ [])
    ∷
    case (6 ∷ 8 ∷ 2000 ∷ 0 ∷ 200 ∷ 1 ∷ 5 ∷ 1 ∷ 6 ∷ 0 ∷ []) (0 ∷ 24 ∷ 16 ∷ 203 ∷ 16 ∷ 2 ∷ 1 ∷ 200 ∷ 1 ∷ 5 ∷ 2 ∷ 1 ∷ 201 ∷ 1 ∷ 6 ∷ 3 ∷ 1 ∷ 202 ∷ 2 ∷ 200 ∷ 201 ∷ 0 ∷ 202 ∷ 1 ∷ 6 ∷ 1 ∷ [])
    ∷
    case (6 ∷ 8 ∷ 2000 ∷ 0 ∷ 200 ∷ 0 ∷ 1 ∷ 0 ∷ 5 ∷ 0 ∷ []) (0 ∷ 14 ∷ 6 ∷ 201 ∷ 6 ∷ 3 ∷ 1 ∷ 200 ∷ 2 ∷ 1 ∷ 5 ∷ 0 ∷ 200 ∷ 0 ∷ 5 ∷ 1 ∷ [])
    ∷
    case (6 ∷ 8 ∷ 2000 ∷ 0 ∷ 200 ∷ 0 ∷ 0 ∷ 0 ∷ 0 ∷ 1 ∷ []) (0 ∷ 8 ∷ 0 ∷ 200 ∷ 0 ∷ 0 ∷ 0 ∷ 0 ∷ 0 ∷ 1 ∷ [])
    ∷
    case (6 ∷ 8 ∷ 2000 ∷ 0 ∷ 200 ∷ 1 ∷ 6 ∷ 1 ∷ 5 ∷ 0 ∷ []) (0 ∷ 24 ∷ 16 ∷ 203 ∷ 16 ∷ 2 ∷ 1 ∷ 200 ∷ 1 ∷ 6 ∷ 2 ∷ 1 ∷ 201 ∷ 1 ∷ 5 ∷ 3 ∷ 1 ∷ 202 ∷ 2 ∷ 200 ∷ 201 ∷ 0 ∷ 202 ∷ 1 ∷ 5 ∷ 1 ∷ [])
    ∷
    case (6 ∷ 8 ∷ 2000 ∷ 0 ∷ 200 ∷ 0 ∷ 1 ∷ 0 ∷ 6 ∷ 0 ∷ []) (0 ∷ 14 ∷ 6 ∷ 201 ∷ 6 ∷ 3 ∷ 1 ∷ 200 ∷ 2 ∷ 1 ∷ 6 ∷ 0 ∷ 200 ∷ 0 ∷ 6 ∷ 1 ∷ [])
    ∷
    case (6 ∷ 8 ∷ 2000 ∷ 0 ∷ 200 ∷ 0 ∷ 0 ∷ 0 ∷ 1 ∷ 0 ∷ []) (0 ∷ 8 ∷ 0 ∷ 200 ∷ 0 ∷ 0 ∷ 0 ∷ 0 ∷ 1 ∷ 1 ∷ [])
    ∷
    case (6 ∷ 8 ∷ 2000 ∷ 0 ∷ 200 ∷ 1 ∷ 6 ∷ 1 ∷ 6 ∷ 0 ∷ []) (0 ∷ 24 ∷ 16 ∷ 203 ∷ 16 ∷ 2 ∷ 1 ∷ 200 ∷ 1 ∷ 6 ∷ 2 ∷ 1 ∷ 201 ∷ 1 ∷ 6 ∷ 3 ∷ 1 ∷ 202 ∷ 2 ∷ 200 ∷ 201 ∷ 0 ∷ 202 ∷ 1 ∷ 6 ∷ 1 ∷ [])
    ∷
    case (6 ∷ 8 ∷ 2000 ∷ 0 ∷ 200 ∷ 0 ∷ 5 ∷ 0 ∷ 0 ∷ 0 ∷ []) (0 ∷ 14 ∷ 6 ∷ 201 ∷ 6 ∷ 3 ∷ 1 ∷ 200 ∷ 2 ∷ 5 ∷ 0 ∷ 0 ∷ 200 ∷ 0 ∷ 0 ∷ 1 ∷ [])
    ∷
    case (6 ∷ 8 ∷ 2000 ∷ 0 ∷ 200 ∷ 0 ∷ 0 ∷ 0 ∷ 1 ∷ 1 ∷ []) (0 ∷ 8 ∷ 0 ∷ 200 ∷ 0 ∷ 0 ∷ 0 ∷ 0 ∷ 1 ∷ 1 ∷ [])
    ∷
    case (6 ∷ 8 ∷ 16 ∷ 0 ∷ 67 ∷ 1 ∷ 31 ∷ 1 ∷ 15 ∷ 0 ∷ []) (0 ∷ 24 ∷ 16 ∷ 70 ∷ 16 ∷ 2 ∷ 1 ∷ 67 ∷ 1 ∷ 31 ∷ 2 ∷ 1 ∷ 68 ∷ 1 ∷ 15 ∷ 3 ∷ 1 ∷ 69 ∷ 2 ∷ 67 ∷ 68 ∷ 0 ∷ 69 ∷ 1 ∷ 15 ∷ 1 ∷ [])
    ∷
    case (6 ∷ 8 ∷ 2000 ∷ 0 ∷ 200 ∷ 0 ∷ 5 ∷ 0 ∷ 5 ∷ 0 ∷ []) (0 ∷ 14 ∷ 6 ∷ 201 ∷ 6 ∷ 3 ∷ 1 ∷ 200 ∷ 2 ∷ 5 ∷ 5 ∷ 0 ∷ 200 ∷ 0 ∷ 5 ∷ 1 ∷ [])
    ∷
    case (6 ∷ 8 ∷ 2000 ∷ 0 ∷ 200 ∷ 0 ∷ 0 ∷ 0 ∷ 5 ∷ 0 ∷ []) (0 ∷ 8 ∷ 0 ∷ 200 ∷ 0 ∷ 0 ∷ 0 ∷ 0 ∷ 5 ∷ 1 ∷ [])
    ∷
    case (6 ∷ 8 ∷ 16 ∷ 0 ∷ 16776944 ∷ 1 ∷ 96 ∷ 1 ∷ 80 ∷ 0 ∷ []) (0 ∷ 24 ∷ 16 ∷ 16776947 ∷ 16 ∷ 2 ∷ 1 ∷ 16776944 ∷ 1 ∷ 96 ∷ 2 ∷ 1 ∷ 16776945 ∷ 1 ∷ 80 ∷ 3 ∷ 1 ∷ 16776946 ∷ 2 ∷ 16776944 ∷ 16776945 ∷ 0 ∷ 16776946 ∷ 1 ∷ 80 ∷ 1 ∷ [])
    ∷
    case (6 ∷ 8 ∷ 2000 ∷ 0 ∷ 200 ∷ 1 ∷ 0 ∷ 0 ∷ 7 ∷ 1 ∷ []) (4 ∷ 0 ∷ [])
    ∷
    case (6 ∷ 8 ∷ 2000 ∷ 0 ∷ 200 ∷ 1 ∷ 1 ∷ 0 ∷ 7 ∷ 1 ∷ []) (4 ∷ 0 ∷ [])
    ∷
    case (6 ∷ 8 ∷ 10 ∷ 0 ∷ 200 ∷ 0 ∷ 7 ∷ 1 ∷ 8 ∷ 0 ∷ []) (20 ∷ 0 ∷ [])
    ∷
    case (6 ∷ 8 ∷ 11 ∷ 1 ∷ 200 ∷ 0 ∷ 7 ∷ 1 ∷ 8 ∷ 0 ∷ []) (20 ∷ 0 ∷ [])
    ∷
    case (6 ∷ 8 ∷ 11 ∷ 0 ∷ 16777215 ∷ 0 ∷ 7 ∷ 1 ∷ 8 ∷ 0 ∷ []) (21 ∷ 0 ∷ [])
    ∷
    case (6 ∷ 8 ∷ 13 ∷ 0 ∷ 16777217 ∷ 0 ∷ 0 ∷ 1 ∷ 20 ∷ 0 ∷ []) (21 ∷ 0 ∷ [])
    ∷
    case (6 ∷ 8 ∷ 100000 ∷ 0 ∷ 100 ∷ 0 ∷ 5 ∷ 0 ∷ 1 ∷ 0 ∷ []) (0 ∷ 8 ∷ 0 ∷ 100 ∷ 0 ∷ 0 ∷ 5 ∷ 0 ∷ 1 ∷ 1 ∷ [])
    ∷
    case (6 ∷ 8 ∷ 100000 ∷ 0 ∷ 100 ∷ 1 ∷ 5 ∷ 1 ∷ 6 ∷ 0 ∷ []) (0 ∷ 24 ∷ 16 ∷ 103 ∷ 16 ∷ 2 ∷ 1 ∷ 100 ∷ 1 ∷ 5 ∷ 2 ∷ 1 ∷ 101 ∷ 1 ∷ 6 ∷ 3 ∷ 1 ∷ 102 ∷ 2 ∷ 100 ∷ 101 ∷ 0 ∷ 102 ∷ 1 ∷ 6 ∷ 1 ∷ [])
    ∷
    case (6 ∷ 8 ∷ 100000 ∷ 0 ∷ 100 ∷ 0 ∷ 1 ∷ 0 ∷ 0 ∷ 0 ∷ []) (0 ∷ 14 ∷ 6 ∷ 101 ∷ 6 ∷ 3 ∷ 1 ∷ 100 ∷ 2 ∷ 1 ∷ 0 ∷ 0 ∷ 100 ∷ 0 ∷ 0 ∷ 1 ∷ [])
    ∷
    case (6 ∷ 8 ∷ 100000 ∷ 0 ∷ 100 ∷ 0 ∷ 0 ∷ 1 ∷ 7 ∷ 1 ∷ []) (0 ∷ 8 ∷ 0 ∷ 100 ∷ 0 ∷ 0 ∷ 0 ∷ 1 ∷ 7 ∷ 1 ∷ [])
    ∷
    case (6 ∷ 8 ∷ 0 ∷ 0 ∷ 16777216 ∷ 0 ∷ 5 ∷ 0 ∷ 1 ∷ 0 ∷ []) (0 ∷ 8 ∷ 0 ∷ 16777216 ∷ 0 ∷ 0 ∷ 5 ∷ 0 ∷ 1 ∷ 1 ∷ [])
    ∷
    case (6 ∷ 8 ∷ 0 ∷ 1 ∷ 1 ∷ 0 ∷ 0 ∷ 0 ∷ 1 ∷ 1 ∷ []) (20 ∷ 0 ∷ [])
    ∷
    case (6 ∷ 8 ∷ 0 ∷ 0 ∷ 1 ∷ 0 ∷ 0 ∷ 0 ∷ 1 ∷ 1 ∷ []) (21 ∷ 0 ∷ [])
    ∷
    case (6 ∷ 8 ∷ 9 ∷ 0 ∷ 16777215 ∷ 0 ∷ 5 ∷ 0 ∷ 6 ∷ 0 ∷ []) (0 ∷ 14 ∷ 6 ∷ 16777216 ∷ 6 ∷ 3 ∷ 1 ∷ 16777215 ∷ 2 ∷ 5 ∷ 6 ∷ 0 ∷ 16777215 ∷ 0 ∷ 6 ∷ 1 ∷ [])
    ∷
    case (6 ∷ 8 ∷ 6 ∷ 0 ∷ 16777215 ∷ 0 ∷ 5 ∷ 0 ∷ 6 ∷ 0 ∷ []) (0 ∷ 14 ∷ 6 ∷ 16777216 ∷ 6 ∷ 3 ∷ 1 ∷ 16777215 ∷ 2 ∷ 5 ∷ 6 ∷ 0 ∷ 16777215 ∷ 0 ∷ 6 ∷ 1 ∷ [])
    ∷
    case (6 ∷ 8 ∷ 5 ∷ 0 ∷ 16777215 ∷ 0 ∷ 5 ∷ 0 ∷ 6 ∷ 0 ∷ []) (20 ∷ 0 ∷ [])
    ∷
    case (6 ∷ 8 ∷ 6 ∷ 0 ∷ 16777216 ∷ 0 ∷ 5 ∷ 0 ∷ 6 ∷ 0 ∷ []) (21 ∷ 0 ∷ [])
    ∷
    []

pub agreed : agree op6 cases ≡ true
unfolding ◌or_else◌ bad_control log_full nets_full soft_bits soft row_len_of full_depth_of full_chunks part_depth_of all_chunks full_mems all_mems rows_before mem_start trits entry flag dff_operands encode words ◌>>=◌ ◌>>◌ done request add_not_of add_and_of into_pos_of with_reset remap_reset_over_enable_of start_net added state_after ceil_div softs room_refusal log_refusal remap_number remap_reset_over_enable_refusal is_cell_net same_control is_always good_control control_words give word test control log controls reply as_list log_out remap_answer op6 agrees agree Rattle.rules_trial.specs.Read.◌>>=◌
agreed = refl
