-- Calls 33 of the call format, which the rules answer as the Rust does. Made by scripts/sample.py.
use Prim.Native.Nat.{ℕ}
use mathlib.Core.Path.{◌≡◌, refl}
use mathlib.Core.Bool.{true}
use mathlib.Core.List.{List, [], ◌∷◌, ◌++◌}
use lib.ListN.{replicate}
use Rattle.lists.specs.Choice.{◌or_else◌}
use Rattle.rules.specs.Answers.{after}
use Rattle.rules.specs.Conditions.{bad_head, is_power, bad_unit, unlike, bad_depths, bad_sizes, spare_bits, bad_bits}
use Rattle.rules.specs.Geometry.{full_depth_of}
use Rattle.rules.specs.Image.{depth_at, rows_before}
use Rattle.rules.specs.Lister.{size_depth, size_start, mem_trits, summary_of, summaries, is_blank, digits_from, decimal, memories_text, trits_text, blank_text, load_text, refused_text, head_line, memory_line, refused_line, listed, lister}
use Rattle.rules.specs.Log.{entry, flag, dff_operands, encode, words, ◌>>=◌, ◌>>◌, added, state_after}
use Rattle.rules.specs.Logic.{ones}
use Rattle.rules.specs.Numbers.{ceil_div}
use Rattle.rules.specs.Record.{size_mems, size_trits, word_at, bits_of, array_bytes, known_bit, value_bit, trit_by, head_sizes, record_bytes, known_bits, value_bits, bit_pairs, decode_image}
use Rattle.rules.specs.Refusals.{header_refusal, record_number}
use Rattle.rules.specs.Value.{from_uint, control_words}
use Rattle.rules_trial.specs.Read.{give, word, words_of, list, test, control, controls}
use Rattle.rules_trial.specs.Wire.{reply, as_list, op33, agrees, agree, Case, case}

abbrev pub cases : List Case
cases =
    case (33 ∷ 15 ∷ 14 ∷ 5 ∷ 0 ∷ 2 ∷ 0 ∷ 1 ∷ 0 ∷ 2 ∷ 0 ∷ 1 ∷ 0 ∷ 1 ∷ 0 ∷ 59 ∷ 9 ∷ []) (0 ∷ 47 ∷ 46 ∷ 109 ∷ 101 ∷ 109 ∷ 111 ∷ 114 ∷ 105 ∷ 101 ∷ 115 ∷ 32 ∷ 50 ∷ 32 ∷ 116 ∷ 114 ∷ 105 ∷ 116 ∷ 115 ∷ 32 ∷ 54 ∷ 10 ∷ 48 ∷ 32 ∷ 50 ∷ 32 ∷ 51 ∷ 32 ∷ 50 ∷ 32 ∷ 108 ∷ 111 ∷ 97 ∷ 100 ∷ 10 ∷ 49 ∷ 32 ∷ 49 ∷ 32 ∷ 50 ∷ 32 ∷ 48 ∷ 32 ∷ 98 ∷ 108 ∷ 97 ∷ 110 ∷ 107 ∷ 10 ∷ [])
    ∷
    case (33 ∷ 14 ∷ 13 ∷ 5 ∷ 0 ∷ 2 ∷ 0 ∷ 1 ∷ 0 ∷ 2 ∷ 0 ∷ 1 ∷ 0 ∷ 1 ∷ 0 ∷ 59 ∷ []) (0 ∷ 12 ∷ 11 ∷ 114 ∷ 101 ∷ 102 ∷ 117 ∷ 115 ∷ 101 ∷ 100 ∷ 32 ∷ 49 ∷ 54 ∷ 10 ∷ [])
    ∷
    case (33 ∷ 1 ∷ 0 ∷ []) (0 ∷ 12 ∷ 11 ∷ 114 ∷ 101 ∷ 102 ∷ 117 ∷ 115 ∷ 101 ∷ 100 ∷ 32 ∷ 49 ∷ 54 ∷ 10 ∷ [])
    ∷
    case (33 ∷ 13 ∷ 12 ∷ 5 ∷ 0 ∷ 1 ∷ 0 ∷ 0 ∷ 0 ∷ 0 ∷ 0 ∷ 0 ∷ 0 ∷ 0 ∷ 0 ∷ []) (0 ∷ 20 ∷ 19 ∷ 109 ∷ 101 ∷ 109 ∷ 111 ∷ 114 ∷ 105 ∷ 101 ∷ 115 ∷ 32 ∷ 48 ∷ 32 ∷ 116 ∷ 114 ∷ 105 ∷ 116 ∷ 115 ∷ 32 ∷ 48 ∷ 10 ∷ [])
    ∷
    case (33 ∷ 13 ∷ 12 ∷ 5 ∷ 0 ∷ 0 ∷ 0 ∷ 0 ∷ 0 ∷ 0 ∷ 0 ∷ 0 ∷ 0 ∷ 0 ∷ 0 ∷ []) (0 ∷ 12 ∷ 11 ∷ 114 ∷ 101 ∷ 102 ∷ 117 ∷ 115 ∷ 101 ∷ 100 ∷ 32 ∷ 49 ∷ 55 ∷ 10 ∷ [])
    ∷
    case (33 ∷ 15 ∷ 14 ∷ 5 ∷ 0 ∷ 1 ∷ 0 ∷ 1 ∷ 0 ∷ 2 ∷ 0 ∷ 1 ∷ 0 ∷ 1 ∷ 0 ∷ 13 ∷ 1 ∷ []) (0 ∷ 12 ∷ 11 ∷ 114 ∷ 101 ∷ 102 ∷ 117 ∷ 115 ∷ 101 ∷ 100 ∷ 32 ∷ 49 ∷ 56 ∷ 10 ∷ [])
    ∷
    case (33 ∷ 15 ∷ 14 ∷ 5 ∷ 0 ∷ 1 ∷ 0 ∷ 0 ∷ 0 ∷ 0 ∷ 0 ∷ 1 ∷ 0 ∷ 1 ∷ 0 ∷ 1 ∷ 1 ∷ []) (0 ∷ 33 ∷ 32 ∷ 109 ∷ 101 ∷ 109 ∷ 111 ∷ 114 ∷ 105 ∷ 101 ∷ 115 ∷ 32 ∷ 49 ∷ 32 ∷ 116 ∷ 114 ∷ 105 ∷ 116 ∷ 115 ∷ 32 ∷ 49 ∷ 10 ∷ 48 ∷ 32 ∷ 49 ∷ 32 ∷ 49 ∷ 32 ∷ 49 ∷ 32 ∷ 108 ∷ 111 ∷ 97 ∷ 100 ∷ 10 ∷ [])
    ∷
    case (33 ∷ 21 ∷ 20 ∷ 5 ∷ 0 ∷ 5 ∷ 0 ∷ 3 ∷ 0 ∷ 2 ∷ 0 ∷ 0 ∷ 0 ∷ 0 ∷ 0 ∷ 255 ∷ 255 ∷ 255 ∷ 63 ∷ 255 ∷ 255 ∷ 255 ∷ 63 ∷ []) (0 ∷ 66 ∷ 65 ∷ 109 ∷ 101 ∷ 109 ∷ 111 ∷ 114 ∷ 105 ∷ 101 ∷ 115 ∷ 32 ∷ 51 ∷ 32 ∷ 116 ∷ 114 ∷ 105 ∷ 116 ∷ 115 ∷ 32 ∷ 51 ∷ 48 ∷ 10 ∷ 48 ∷ 32 ∷ 50 ∷ 32 ∷ 49 ∷ 48 ∷ 32 ∷ 49 ∷ 48 ∷ 32 ∷ 108 ∷ 111 ∷ 97 ∷ 100 ∷ 10 ∷ 49 ∷ 32 ∷ 50 ∷ 32 ∷ 49 ∷ 48 ∷ 32 ∷ 49 ∷ 48 ∷ 32 ∷ 108 ∷ 111 ∷ 97 ∷ 100 ∷ 10 ∷ 50 ∷ 32 ∷ 50 ∷ 32 ∷ 49 ∷ 48 ∷ 32 ∷ 49 ∷ 48 ∷ 32 ∷ 108 ∷ 111 ∷ 97 ∷ 100 ∷ 10 ∷ [])
    ∷
    case (33 ∷ 17 ∷ 16 ∷ 5 ∷ 0 ∷ 1 ∷ 0 ∷ 7 ∷ 0 ∷ 2 ∷ 0 ∷ 1 ∷ 0 ∷ 1 ∷ 0 ∷ 128 ∷ 24 ∷ 0 ∷ 8 ∷ []) (0 ∷ 132 ∷ 131 ∷ 109 ∷ 101 ∷ 109 ∷ 111 ∷ 114 ∷ 105 ∷ 101 ∷ 115 ∷ 32 ∷ 56 ∷ 32 ∷ 116 ∷ 114 ∷ 105 ∷ 116 ∷ 115 ∷ 32 ∷ 49 ∷ 53 ∷ 10 ∷ 48 ∷ 32 ∷ 50 ∷ 32 ∷ 48 ∷ 32 ∷ 48 ∷ 32 ∷ 98 ∷ 108 ∷ 97 ∷ 110 ∷ 107 ∷ 10 ∷ 49 ∷ 32 ∷ 50 ∷ 32 ∷ 48 ∷ 32 ∷ 48 ∷ 32 ∷ 98 ∷ 108 ∷ 97 ∷ 110 ∷ 107 ∷ 10 ∷ 50 ∷ 32 ∷ 50 ∷ 32 ∷ 48 ∷ 32 ∷ 48 ∷ 32 ∷ 98 ∷ 108 ∷ 97 ∷ 110 ∷ 107 ∷ 10 ∷ 51 ∷ 32 ∷ 50 ∷ 32 ∷ 49 ∷ 32 ∷ 48 ∷ 32 ∷ 98 ∷ 108 ∷ 97 ∷ 110 ∷ 107 ∷ 10 ∷ 52 ∷ 32 ∷ 50 ∷ 32 ∷ 48 ∷ 32 ∷ 48 ∷ 32 ∷ 98 ∷ 108 ∷ 97 ∷ 110 ∷ 107 ∷ 10 ∷ 53 ∷ 32 ∷ 50 ∷ 32 ∷ 49 ∷ 32 ∷ 49 ∷ 32 ∷ 108 ∷ 111 ∷ 97 ∷ 100 ∷ 10 ∷ 54 ∷ 32 ∷ 50 ∷ 32 ∷ 49 ∷ 32 ∷ 48 ∷ 32 ∷ 98 ∷ 108 ∷ 97 ∷ 110 ∷ 107 ∷ 10 ∷ 55 ∷ 32 ∷ 49 ∷ 32 ∷ 48 ∷ 32 ∷ 48 ∷ 32 ∷ 98 ∷ 108 ∷ 97 ∷ 110 ∷ 107 ∷ 10 ∷ [])
    ∷
    case (33 ∷ 2 ∷ 1 ∷ 5 ∷ []) (0 ∷ 12 ∷ 11 ∷ 114 ∷ 101 ∷ 102 ∷ 117 ∷ 115 ∷ 101 ∷ 100 ∷ 32 ∷ 49 ∷ 54 ∷ 10 ∷ [])
    ∷
    case (33 ∷ 13 ∷ 12 ∷ 5 ∷ 0 ∷ 3 ∷ 0 ∷ 0 ∷ 0 ∷ 0 ∷ 0 ∷ 0 ∷ 0 ∷ 0 ∷ 0 ∷ []) (0 ∷ 20 ∷ 19 ∷ 109 ∷ 101 ∷ 109 ∷ 111 ∷ 114 ∷ 105 ∷ 101 ∷ 115 ∷ 32 ∷ 48 ∷ 32 ∷ 116 ∷ 114 ∷ 105 ∷ 116 ∷ 115 ∷ 32 ∷ 48 ∷ 10 ∷ [])
    ∷
    case (33 ∷ 13 ∷ 12 ∷ 5 ∷ 0 ∷ 0 ∷ 0 ∷ 0 ∷ 0 ∷ 0 ∷ 0 ∷ 1 ∷ 0 ∷ 0 ∷ 0 ∷ []) (0 ∷ 12 ∷ 11 ∷ 114 ∷ 101 ∷ 102 ∷ 117 ∷ 115 ∷ 101 ∷ 100 ∷ 32 ∷ 49 ∷ 55 ∷ 10 ∷ [])
    ∷
    case (33 ∷ 15 ∷ 14 ∷ 5 ∷ 0 ∷ 1 ∷ 0 ∷ 1 ∷ 0 ∷ 2 ∷ 0 ∷ 1 ∷ 0 ∷ 1 ∷ 0 ∷ 5 ∷ 2 ∷ []) (0 ∷ 12 ∷ 11 ∷ 114 ∷ 101 ∷ 102 ∷ 117 ∷ 115 ∷ 101 ∷ 100 ∷ 32 ∷ 49 ∷ 56 ∷ 10 ∷ [])
    ∷
    case (33 ∷ 15 ∷ 14 ∷ 5 ∷ 0 ∷ 1 ∷ 0 ∷ 0 ∷ 0 ∷ 0 ∷ 0 ∷ 1 ∷ 0 ∷ 2 ∷ 0 ∷ 3 ∷ 1 ∷ []) (0 ∷ 33 ∷ 32 ∷ 109 ∷ 101 ∷ 109 ∷ 111 ∷ 114 ∷ 105 ∷ 101 ∷ 115 ∷ 32 ∷ 49 ∷ 32 ∷ 116 ∷ 114 ∷ 105 ∷ 116 ∷ 115 ∷ 32 ∷ 50 ∷ 10 ∷ 48 ∷ 32 ∷ 50 ∷ 32 ∷ 50 ∷ 32 ∷ 49 ∷ 32 ∷ 108 ∷ 111 ∷ 97 ∷ 100 ∷ 10 ∷ [])
    ∷
    case (33 ∷ 15 ∷ 14 ∷ 5 ∷ 0 ∷ 1 ∷ 0 ∷ 2 ∷ 0 ∷ 2 ∷ 0 ∷ 2 ∷ 0 ∷ 1 ∷ 0 ∷ 51 ∷ 49 ∷ []) (0 ∷ 73 ∷ 72 ∷ 109 ∷ 101 ∷ 109 ∷ 111 ∷ 114 ∷ 105 ∷ 101 ∷ 115 ∷ 32 ∷ 52 ∷ 32 ∷ 116 ∷ 114 ∷ 105 ∷ 116 ∷ 115 ∷ 32 ∷ 54 ∷ 10 ∷ 48 ∷ 32 ∷ 50 ∷ 32 ∷ 50 ∷ 32 ∷ 49 ∷ 32 ∷ 108 ∷ 111 ∷ 97 ∷ 100 ∷ 10 ∷ 49 ∷ 32 ∷ 50 ∷ 32 ∷ 48 ∷ 32 ∷ 48 ∷ 32 ∷ 98 ∷ 108 ∷ 97 ∷ 110 ∷ 107 ∷ 10 ∷ 50 ∷ 32 ∷ 49 ∷ 32 ∷ 49 ∷ 32 ∷ 49 ∷ 32 ∷ 108 ∷ 111 ∷ 97 ∷ 100 ∷ 10 ∷ 51 ∷ 32 ∷ 49 ∷ 32 ∷ 49 ∷ 32 ∷ 49 ∷ 32 ∷ 108 ∷ 111 ∷ 97 ∷ 100 ∷ 10 ∷ [])
    ∷
    case (33 ∷ 25 ∷ 24 ∷ 5 ∷ 0 ∷ 3 ∷ 0 ∷ 7 ∷ 0 ∷ 2 ∷ 0 ∷ 1 ∷ 0 ∷ 1 ∷ 0 ∷ 255 ∷ 255 ∷ 255 ∷ 255 ∷ 255 ∷ 31 ∷ 0 ∷ 0 ∷ 0 ∷ 0 ∷ 0 ∷ 0 ∷ []) (0 ∷ 133 ∷ 132 ∷ 109 ∷ 101 ∷ 109 ∷ 111 ∷ 114 ∷ 105 ∷ 101 ∷ 115 ∷ 32 ∷ 56 ∷ 32 ∷ 116 ∷ 114 ∷ 105 ∷ 116 ∷ 115 ∷ 32 ∷ 52 ∷ 53 ∷ 10 ∷ 48 ∷ 32 ∷ 50 ∷ 32 ∷ 54 ∷ 32 ∷ 48 ∷ 32 ∷ 98 ∷ 108 ∷ 97 ∷ 110 ∷ 107 ∷ 10 ∷ 49 ∷ 32 ∷ 50 ∷ 32 ∷ 54 ∷ 32 ∷ 48 ∷ 32 ∷ 98 ∷ 108 ∷ 97 ∷ 110 ∷ 107 ∷ 10 ∷ 50 ∷ 32 ∷ 50 ∷ 32 ∷ 54 ∷ 32 ∷ 48 ∷ 32 ∷ 98 ∷ 108 ∷ 97 ∷ 110 ∷ 107 ∷ 10 ∷ 51 ∷ 32 ∷ 50 ∷ 32 ∷ 54 ∷ 32 ∷ 48 ∷ 32 ∷ 98 ∷ 108 ∷ 97 ∷ 110 ∷ 107 ∷ 10 ∷ 52 ∷ 32 ∷ 50 ∷ 32 ∷ 54 ∷ 32 ∷ 48 ∷ 32 ∷ 98 ∷ 108 ∷ 97 ∷ 110 ∷ 107 ∷ 10 ∷ 53 ∷ 32 ∷ 50 ∷ 32 ∷ 54 ∷ 32 ∷ 48 ∷ 32 ∷ 98 ∷ 108 ∷ 97 ∷ 110 ∷ 107 ∷ 10 ∷ 54 ∷ 32 ∷ 50 ∷ 32 ∷ 54 ∷ 32 ∷ 48 ∷ 32 ∷ 98 ∷ 108 ∷ 97 ∷ 110 ∷ 107 ∷ 10 ∷ 55 ∷ 32 ∷ 49 ∷ 32 ∷ 51 ∷ 32 ∷ 48 ∷ 32 ∷ 98 ∷ 108 ∷ 97 ∷ 110 ∷ 107 ∷ 10 ∷ [])
    ∷
    case (33 ∷ 3 ∷ 2 ∷ 5 ∷ 0 ∷ []) (0 ∷ 12 ∷ 11 ∷ 114 ∷ 101 ∷ 102 ∷ 117 ∷ 115 ∷ 101 ∷ 100 ∷ 32 ∷ 49 ∷ 54 ∷ 10 ∷ [])
    ∷
    case (33 ∷ 13 ∷ 12 ∷ 5 ∷ 0 ∷ 5 ∷ 0 ∷ 0 ∷ 0 ∷ 0 ∷ 0 ∷ 0 ∷ 0 ∷ 0 ∷ 0 ∷ []) (0 ∷ 20 ∷ 19 ∷ 109 ∷ 101 ∷ 109 ∷ 111 ∷ 114 ∷ 105 ∷ 101 ∷ 115 ∷ 32 ∷ 48 ∷ 32 ∷ 116 ∷ 114 ∷ 105 ∷ 116 ∷ 115 ∷ 32 ∷ 48 ∷ 10 ∷ [])
    ∷
    case (33 ∷ 2513 ∷ 2512 ∷ 5 ∷ 0 ∷ 1 ∷ 0 ∷ 0 ∷ 0 ∷ 0 ∷ 0 ∷ 1 ∷ 0 ∷ 16 ∷ 39 ∷ replicate 2500 255 ++ []) (0 ∷ 49 ∷ 48 ∷ 109 ∷ 101 ∷ 109 ∷ 111 ∷ 114 ∷ 105 ∷ 101 ∷ 115 ∷ 32 ∷ 49 ∷ 32 ∷ 116 ∷ 114 ∷ 105 ∷ 116 ∷ 115 ∷ 32 ∷ 49 ∷ 48 ∷ 48 ∷ 48 ∷ 48 ∷ 10 ∷ 48 ∷ 32 ∷ 49 ∷ 48 ∷ 48 ∷ 48 ∷ 48 ∷ 32 ∷ 49 ∷ 48 ∷ 48 ∷ 48 ∷ 48 ∷ 32 ∷ 49 ∷ 48 ∷ 48 ∷ 48 ∷ 48 ∷ 32 ∷ 108 ∷ 111 ∷ 97 ∷ 100 ∷ 10 ∷ [])
    ∷
    []

pub agreed : agree op33 cases ≡ true
unfolding ◌or_else◌ after bad_head is_power bad_unit unlike bad_depths bad_sizes spare_bits bad_bits full_depth_of depth_at rows_before size_depth size_start mem_trits summary_of summaries is_blank digits_from decimal memories_text trits_text blank_text load_text refused_text head_line memory_line refused_line listed lister entry flag dff_operands encode words ◌>>=◌ ◌>>◌ added state_after ones ceil_div size_mems size_trits word_at bits_of array_bytes known_bit value_bit trit_by head_sizes record_bytes known_bits value_bits bit_pairs decode_image header_refusal record_number from_uint control_words give word words_of list test control controls reply as_list op33 agrees agree Rattle.rules_trial.specs.Read.◌>>=◌
agreed = refl
