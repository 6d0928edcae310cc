-- Calls 31 of the call format, which the rules answer as the Rust does. Made by scripts/sample.py.
use Prim.Native.Nat.{ℕ}
use mathlib.Core.Path.{◌≡◌, refl}
use mathlib.Core.Bool.{true}
use mathlib.Core.List.{List, [], ◌∷◌, ◌++◌}
use lib.ListN.{replicate}
use Rattle.rules.specs.Conditions.{bad_trits, is_power, bad_unit, unlike, bad_depths, bad_sizes, no_room_of}
use Rattle.rules.specs.Geometry.{soft_bits, soft, full_depth_of, part_depth_of}
use Rattle.rules.specs.Log.{◌>>=◌, ◌>>◌}
use Rattle.rules.specs.Logic.{are_trits}
use Rattle.rules.specs.Numbers.{ceil_div, softs}
use Rattle.rules.specs.Record.{size_mems, size_trits, record_image, word16, byte_of, pack_bits, array_bytes, known_bit, value_bit, record_head, encode_record, record_bytes}
use Rattle.rules.specs.Refusals.{write_record_refusal}
use Rattle.rules_trial.specs.Read.{give, word, words_of, list, sizes}
use Rattle.rules_trial.specs.Wire.{reply, as_list, op31, agrees, agree, Case, case}

abbrev pub cases : List Case
cases =
    case (31 ∷ 13 ∷ 14 ∷ 2 ∷ 1 ∷ 2 ∷ 1 ∷ 1 ∷ 6 ∷ 1 ∷ 0 ∷ 2 ∷ 1 ∷ 0 ∷ 0 ∷ []) (0 ∷ 15 ∷ 14 ∷ 5 ∷ 0 ∷ 2 ∷ 0 ∷ 1 ∷ 0 ∷ 2 ∷ 0 ∷ 1 ∷ 0 ∷ 1 ∷ 0 ∷ 59 ∷ 9 ∷ [])
    ∷
    case (31 ∷ 7 ∷ 99 ∷ 1 ∷ 0 ∷ 0 ∷ 0 ∷ 0 ∷ 0 ∷ []) (0 ∷ 13 ∷ 12 ∷ 5 ∷ 0 ∷ 1 ∷ 0 ∷ 0 ∷ 0 ∷ 0 ∷ 0 ∷ 0 ∷ 0 ∷ 0 ∷ 0 ∷ [])
    ∷
    case (31 ∷ 16 ∷ 99 ∷ 3 ∷ 0 ∷ 0 ∷ 1 ∷ 3 ∷ 9 ∷ 1 ∷ 0 ∷ 2 ∷ 1 ∷ 0 ∷ 2 ∷ 1 ∷ 0 ∷ 2 ∷ []) (0 ∷ 17 ∷ 16 ∷ 5 ∷ 0 ∷ 3 ∷ 0 ∷ 0 ∷ 0 ∷ 0 ∷ 0 ∷ 1 ∷ 0 ∷ 3 ∷ 0 ∷ 219 ∷ 0 ∷ 73 ∷ 0 ∷ [])
    ∷
    case (31 ∷ 82 ∷ 32 ∷ 5 ∷ 1 ∷ 8 ∷ 1 ∷ 7 ∷ 75 ∷ replicate 75 2 ++ []) (0 ∷ 33 ∷ 32 ∷ 5 ∷ 0 ∷ 5 ∷ 0 ∷ 1 ∷ 0 ∷ 8 ∷ 0 ∷ 1 ∷ 0 ∷ 7 ∷ replicate 21 0 ++ [])
    ∷
    case (31 ∷ 7 ∷ 99 ∷ 3 ∷ 0 ∷ 0 ∷ 0 ∷ 0 ∷ 0 ∷ []) (0 ∷ 13 ∷ 12 ∷ 5 ∷ 0 ∷ 3 ∷ 0 ∷ 0 ∷ 0 ∷ 0 ∷ 0 ∷ 0 ∷ 0 ∷ 0 ∷ 0 ∷ [])
    ∷
    case (31 ∷ 16 ∷ 99 ∷ 3 ∷ 1 ∷ 2 ∷ 1 ∷ 1 ∷ 9 ∷ 1 ∷ 0 ∷ 2 ∷ 1 ∷ 0 ∷ 2 ∷ 1 ∷ 0 ∷ 2 ∷ []) (0 ∷ 17 ∷ 16 ∷ 5 ∷ 0 ∷ 3 ∷ 0 ∷ 1 ∷ 0 ∷ 2 ∷ 0 ∷ 1 ∷ 0 ∷ 1 ∷ 0 ∷ 219 ∷ 0 ∷ 73 ∷ 0 ∷ [])
    ∷
    case (31 ∷ 83 ∷ 32 ∷ 2 ∷ 3 ∷ 8 ∷ 2 ∷ 7 ∷ 76 ∷ replicate 76 2 ++ []) (0 ∷ 33 ∷ 32 ∷ 5 ∷ 0 ∷ 2 ∷ 0 ∷ 3 ∷ 0 ∷ 8 ∷ 0 ∷ 2 ∷ 0 ∷ 7 ∷ replicate 21 0 ++ [])
    ∷
    case (31 ∷ 7 ∷ 12 ∷ 2 ∷ 0 ∷ 0 ∷ 0 ∷ 0 ∷ 0 ∷ []) (0 ∷ 13 ∷ 12 ∷ 5 ∷ 0 ∷ 2 ∷ 0 ∷ 0 ∷ 0 ∷ 0 ∷ 0 ∷ 0 ∷ 0 ∷ 0 ∷ 0 ∷ [])
    ∷
    case (31 ∷ 16 ∷ 34 ∷ 1 ∷ 2 ∷ 4 ∷ 1 ∷ 1 ∷ 9 ∷ 2 ∷ 2 ∷ 2 ∷ 2 ∷ 2 ∷ 2 ∷ 2 ∷ 2 ∷ 2 ∷ []) (0 ∷ 17 ∷ 16 ∷ 5 ∷ 0 ∷ 1 ∷ 0 ∷ 2 ∷ 0 ∷ 4 ∷ 0 ∷ 1 ∷ 0 ∷ 1 ∷ 0 ∷ 0 ∷ 0 ∷ 0 ∷ 0 ∷ [])
    ∷
    case (31 ∷ 85 ∷ 35 ∷ 13 ∷ 1 ∷ 4 ∷ 1 ∷ 2 ∷ 78 ∷ replicate 78 2 ++ []) (0 ∷ 33 ∷ 32 ∷ 5 ∷ 0 ∷ 13 ∷ 0 ∷ 1 ∷ 0 ∷ 4 ∷ 0 ∷ 1 ∷ 0 ∷ 2 ∷ replicate 21 0 ++ [])
    ∷
    case (31 ∷ 7 ∷ 27 ∷ 1 ∷ 0 ∷ 0 ∷ 0 ∷ 0 ∷ 0 ∷ []) (0 ∷ 13 ∷ 12 ∷ 5 ∷ 0 ∷ 1 ∷ 0 ∷ 0 ∷ 0 ∷ 0 ∷ 0 ∷ 0 ∷ 0 ∷ 0 ∷ 0 ∷ [])
    ∷
    case (31 ∷ 16 ∷ 16 ∷ 3 ∷ 0 ∷ 0 ∷ 1 ∷ 3 ∷ 9 ∷ 1 ∷ 2 ∷ 2 ∷ 0 ∷ 0 ∷ 1 ∷ 0 ∷ 0 ∷ 1 ∷ []) (0 ∷ 17 ∷ 16 ∷ 5 ∷ 0 ∷ 3 ∷ 0 ∷ 0 ∷ 0 ∷ 0 ∷ 0 ∷ 1 ∷ 0 ∷ 3 ∷ 0 ∷ 249 ∷ 1 ∷ 33 ∷ 1 ∷ [])
    ∷
    case (31 ∷ 85 ∷ 32 ∷ 13 ∷ 3 ∷ 2 ∷ 0 ∷ 0 ∷ 78 ∷ replicate 78 0 ++ []) (0 ∷ 33 ∷ 32 ∷ 5 ∷ 0 ∷ 13 ∷ 0 ∷ 3 ∷ 0 ∷ 2 ∷ 0 ∷ 0 ∷ 0 ∷ 0 ∷ 0 ∷ 255 ∷ 255 ∷ 255 ∷ 255 ∷ 255 ∷ 255 ∷ 255 ∷ 255 ∷ 255 ∷ 63 ∷ 0 ∷ 0 ∷ 0 ∷ 0 ∷ 0 ∷ 0 ∷ 0 ∷ 0 ∷ 0 ∷ 0 ∷ [])
    ∷
    case (31 ∷ 7 ∷ 18 ∷ 13 ∷ 0 ∷ 0 ∷ 0 ∷ 0 ∷ 0 ∷ []) (0 ∷ 13 ∷ 12 ∷ 5 ∷ 0 ∷ 13 ∷ 0 ∷ 0 ∷ 0 ∷ 0 ∷ 0 ∷ 0 ∷ 0 ∷ 0 ∷ 0 ∷ [])
    ∷
    case (31 ∷ 16 ∷ 16 ∷ 3 ∷ 3 ∷ 1 ∷ 0 ∷ 0 ∷ 9 ∷ 2 ∷ 2 ∷ 1 ∷ 2 ∷ 2 ∷ 2 ∷ 2 ∷ 2 ∷ 1 ∷ []) (0 ∷ 17 ∷ 16 ∷ 5 ∷ 0 ∷ 3 ∷ 0 ∷ 3 ∷ 0 ∷ 1 ∷ 0 ∷ 0 ∷ 0 ∷ 0 ∷ 0 ∷ 4 ∷ 1 ∷ 4 ∷ 1 ∷ [])
    ∷
    case (31 ∷ 85 ∷ 44 ∷ 13 ∷ 1 ∷ 4 ∷ 1 ∷ 2 ∷ 78 ∷ 2 ∷ 2 ∷ 2 ∷ 2 ∷ 1 ∷ 0 ∷ 0 ∷ 2 ∷ 0 ∷ 2 ∷ 0 ∷ 2 ∷ 1 ∷ 2 ∷ 1 ∷ 0 ∷ 0 ∷ 1 ∷ 2 ∷ 1 ∷ 0 ∷ 0 ∷ 2 ∷ 1 ∷ 1 ∷ 0 ∷ 0 ∷ 0 ∷ 1 ∷ 1 ∷ 1 ∷ 2 ∷ 2 ∷ 1 ∷ 1 ∷ 2 ∷ 2 ∷ 2 ∷ 1 ∷ 0 ∷ 0 ∷ 2 ∷ 2 ∷ 1 ∷ 2 ∷ 0 ∷ 0 ∷ 2 ∷ 0 ∷ 0 ∷ 2 ∷ 1 ∷ 0 ∷ 0 ∷ 0 ∷ 1 ∷ 2 ∷ 1 ∷ 1 ∷ 0 ∷ 0 ∷ 2 ∷ 1 ∷ 1 ∷ 2 ∷ 2 ∷ 2 ∷ 2 ∷ 0 ∷ 1 ∷ 2 ∷ 0 ∷ 1 ∷ 2 ∷ 0 ∷ 1 ∷ 0 ∷ 1 ∷ []) (0 ∷ 33 ∷ 32 ∷ 5 ∷ 0 ∷ 13 ∷ 0 ∷ 1 ∷ 0 ∷ 4 ∷ 0 ∷ 1 ∷ 0 ∷ 2 ∷ 0 ∷ 112 ∷ 213 ∷ 187 ∷ 127 ∷ 198 ∷ 105 ∷ 251 ∷ 222 ∷ 176 ∷ 61 ∷ 16 ∷ 80 ∷ 138 ∷ 113 ∷ 70 ∷ 8 ∷ 136 ∷ 198 ∷ 32 ∷ 41 ∷ [])
    ∷
    case (31 ∷ 7 ∷ 12 ∷ 3 ∷ 0 ∷ 0 ∷ 0 ∷ 0 ∷ 0 ∷ []) (0 ∷ 13 ∷ 12 ∷ 5 ∷ 0 ∷ 3 ∷ 0 ∷ 0 ∷ 0 ∷ 0 ∷ 0 ∷ 0 ∷ 0 ∷ 0 ∷ 0 ∷ [])
    ∷
    case (31 ∷ 10 ∷ 99 ∷ 1 ∷ 1 ∷ 2 ∷ 1 ∷ 1 ∷ 3 ∷ 1 ∷ 2 ∷ 3 ∷ []) (4 ∷ 0 ∷ [])
    ∷
    case (31 ∷ 11 ∷ 14 ∷ 1 ∷ 2 ∷ 2 ∷ 0 ∷ 0 ∷ 4 ∷ 2 ∷ 2 ∷ 4 ∷ 1 ∷ []) (4 ∷ 0 ∷ [])
    ∷
    case (31 ∷ 7 ∷ 99 ∷ 0 ∷ 1 ∷ 2 ∷ 1 ∷ 1 ∷ 0 ∷ []) (17 ∷ 0 ∷ [])
    ∷
    case (31 ∷ 7 ∷ 99 ∷ 1 ∷ 1 ∷ 3 ∷ 1 ∷ 1 ∷ 0 ∷ []) (17 ∷ 0 ∷ [])
    ∷
    case (31 ∷ 9 ∷ 99 ∷ 1 ∷ 1 ∷ 2 ∷ 1 ∷ 1 ∷ 2 ∷ 1 ∷ 2 ∷ []) (20 ∷ 0 ∷ [])
    ∷
    case (31 ∷ 10 ∷ 13 ∷ 1 ∷ 1 ∷ 2 ∷ 1 ∷ 1 ∷ 3 ∷ 1 ∷ 2 ∷ 0 ∷ []) (20 ∷ 0 ∷ [])
    ∷
    case (31 ∷ 10 ∷ 14 ∷ 1 ∷ 1 ∷ 3 ∷ 0 ∷ 0 ∷ 3 ∷ 3 ∷ 0 ∷ 0 ∷ []) (4 ∷ 0 ∷ [])
    ∷
    case (31 ∷ 7 ∷ 14 ∷ 1 ∷ 0 ∷ 0 ∷ 1 ∷ 32767 ∷ 0 ∷ []) (20 ∷ 0 ∷ [])
    ∷
    case (31 ∷ 7 ∷ 14 ∷ 1 ∷ 0 ∷ 0 ∷ 1 ∷ 32768 ∷ 0 ∷ []) (17 ∷ 0 ∷ [])
    ∷
    []

pub agreed : agree op31 cases ≡ true
unfolding bad_trits is_power bad_unit unlike bad_depths bad_sizes no_room_of soft_bits soft full_depth_of part_depth_of ◌>>=◌ ◌>>◌ are_trits ceil_div softs size_mems size_trits record_image word16 byte_of pack_bits array_bytes known_bit value_bit record_head encode_record record_bytes write_record_refusal give word words_of list sizes reply as_list op31 agrees agree Rattle.rules_trial.specs.Read.◌>>=◌
agreed = refl
