-- Calls 30 of the call format, which the rules answer as the Rust does. Made by scripts/sample.py.
use Prim.Native.Nat.{ℕ}
use mathlib.Core.Path.{◌≡◌, refl}
use mathlib.Core.Bool.{true}
use mathlib.Core.List.{List, [], ◌∷◌, ◌++◌}
use lib.ListN.{replicate}
use Rattle.lists.specs.Choice.{◌or_else◌}
use Rattle.rules.specs.Cell.{plain_controls, new_flip_flop, with_init, with_enable, flip_flop_of, wide_log2, write_wide_log2, read_wide_log2, write_at, read_at_of, output_len, output_start, output_slice, with_output, with_reads, with_flip_flop, held, is_transparent, transparent_from, transparent_ports}
use Rattle.rules.specs.Conditions.{too_large, plan_too_large, unequal, bad_data_len, bad_addr_len, bad_write_shape, bad_trit_lens, bad_flip_flop_shape, bad_read_shape, bad_shape, bad_output_len, indivisible, bad_depth, bad_value, bad_control, bad_trits, bad_controls, bad_write_nets, bad_relation, bad_flip_flop_nets, bad_read_nets, bad_nets, times, bad_entry, bad_names, bad_entries, bad_soft_mask, bad_wide, bad_writes, bad_reads, all_reads, result_too_large, image_too_large, write_clocks_differ, too_few_bits, short_pair, short_port, short_ports, not_below, log_full, no_room_of, nets_full}
use Rattle.rules.specs.Fallback.{can_lower_fallback, max_wide_log2, fallback_plan, write_muxes, row_flip_flop, row_value, drive_outputs, lower_rows, lower_fallback, fallback_scratch}
use Rattle.rules.specs.Geometry.{layout_of, soft_bits, soft, row_len_of, full_depth_of, full_chunks, part_depth_of, all_chunks, full_mems, all_mems, columns, to_chunk, hard_left, under, walk}
use Rattle.rules.specs.Image.{spot_of, column, place_of, depth_at, rows_before, mem_start, trits, image_size, flat_at, flat, index_of, put, put_row, write_row, row_of, write_rows, layout, image_of}
use Rattle.rules.specs.Log.{entry, flag, dff_operands, encode, words, ◌>>=◌, ◌>>◌, done, request, add_void_of, add_or_of, mux_by, add_mux_of, add_eq_of, add_shl_of, add_ushr_of, add_dff_of, replace_value_of, start_net, added}
use Rattle.rules.specs.Logic.{undef, are_trits}
use Rattle.rules.specs.Merge.{spread, add_dedup_mux_of, longer, runs, mux_runs, add_bitwise_mux_of}
use Rattle.rules.specs.Numbers.{ceil_div, softs, top_bits, bits_for, largest}
use Rattle.rules.specs.Patch.{patched_by, lent_to, called, called_all, patched}
use Rattle.rules.specs.Ports.{narrower_select, seen_wider, seen_narrower, seen, overlaid_mask, transparency_mux, transparencies, unmap_dff, unmap_read_dff_of, unmap_read_dff, unmap_each, unmap_all, is_empty}
use Rattle.rules.specs.Refusals.{room_refusal, log_refusal, mem_number, driving_number, plan_number, wide_number, image_number, whole_plan, swizzle_plan_number, swizzle_number, image_refusal, results_refusal, swizzle_refusal, lower_fallback_number, lower_fallback_refusal, patch_refusal_by, patch_refusal_of, patch_refusal}
use Rattle.rules.specs.Swizzle.{role_of, is_chunk, is_row, doubles, wide_after, rows_after, roles, low_roles, row_nets, mux_nets, mux_roles, spot_by, count_doubles, split_by, split_addr, piece_start, old_rows, new_rows, sources, arrange, repeating, restore, store_rows, store_piece, store_each, load_piece, mem_part, blank, piece_mask, mask_pieces, swizzle_write, swizzle_writes, write_part, pair_up, mux_tree, add_voids, clocked_addr, const_columns, wide_flip_flop, swizzle_read, swizzle_reads, flip_flop_part, read_part, mem_depth, result_mem, swizzle_rows, swizzle_empty, swizzle, swizzle_image, swizzle_laid, shared_write, shared_nets, shared_read, shared_trits, piece_nets, swizzle_scratch}
use Rattle.rules.specs.Value.{net_of_trit, of_const, from_uint, x_nets, zext, is_cell_net, good_net, good_value, same_control, good_control, control_words}
use Rattle.rules_trial.specs.Read.{give, many, word, words_of, list, test, control, option, log, controls, flip_flop, write_port, read_flip_flop, read_port, memory, plan, patch}
use Rattle.rules_trial.specs.Wire.{reply, as_list, swizzle_step, fallback_step, patch_step, step, steps, op30, agrees, agree, Case, case}

abbrev pub cases : List Case
cases =
    case (30 ∷ 117 ∷ 9 ∷ 1 ∷ 36 ∷ 139 ∷ 0 ∷ 226 ∷ 8 ∷ 2 ∷ 16 ∷ replicate 17 2 ++ 1 ∷ 2 ∷ 222 ∷ 225 ∷ 2 ∷ 223 ∷ 224 ∷ 2 ∷ 223 ∷ 223 ∷ 0 ∷ 223 ∷ 1 ∷ 221 ∷ 2 ∷ 219 ∷ 221 ∷ 2 ∷ 223 ∷ 224 ∷ 1 ∷ 222 ∷ 1 ∷ 224 ∷ 2 ∷ 0 ∷ 2 ∷ 222 ∷ 224 ∷ 4 ∷ 4294967295 ∷ 4294967295 ∷ 0 ∷ 1 ∷ 6 ∷ 2 ∷ 0 ∷ 0 ∷ 1 ∷ 0 ∷ 0 ∷ 6 ∷ 3 ∷ 36 ∷ 4 ∷ 2 ∷ 2 ∷ 2 ∷ 3 ∷ 37 ∷ 0 ∷ 3 ∷ 2 ∷ 2 ∷ 0 ∷ 3 ∷ 36 ∷ 1 ∷ 2 ∷ 1 ∷ 2 ∷ 3 ∷ 35 ∷ 0 ∷ 2 ∷ 0 ∷ 0 ∷ 3 ∷ 36 ∷ 8 ∷ 2 ∷ 2 ∷ 2 ∷ 3 ∷ 36 ∷ 8 ∷ 2 ∷ 0 ∷ 2 ∷ 3 ∷ 36 ∷ 4 ∷ 2 ∷ 2 ∷ 0 ∷ 3 ∷ 36 ∷ 5 ∷ 2 ∷ 2 ∷ 2 ∷ []) (0 ∷ 47 ∷ 9 ∷ 0 ∷ 0 ∷ 4 ∷ 0 ∷ 20 ∷ 15 ∷ 15 ∷ 0 ∷ 0 ∷ 36 ∷ 2 ∷ 2 ∷ 2 ∷ 2 ∷ 2 ∷ 2 ∷ 1 ∷ 2 ∷ 2 ∷ 2 ∷ 2 ∷ 2 ∷ 2 ∷ 2 ∷ 2 ∷ 2 ∷ 2 ∷ 2 ∷ 2 ∷ 0 ∷ replicate 16 2 ++ [])
    ∷
    case (30 ∷ 55 ∷ 6 ∷ 3 ∷ 2 ∷ 0 ∷ 1 ∷ 0 ∷ 1 ∷ 0 ∷ 14 ∷ 1 ∷ 16777217 ∷ 3 ∷ 0 ∷ 0 ∷ 1 ∷ 1 ∷ 2 ∷ 1 ∷ 45 ∷ 0 ∷ 0 ∷ 0 ∷ 1 ∷ 0 ∷ 0 ∷ 0 ∷ 0 ∷ 3 ∷ 4294967295 ∷ 4294967295 ∷ 4294967295 ∷ 0 ∷ 1 ∷ 0 ∷ 1 ∷ 0 ∷ 0 ∷ 4 ∷ 3 ∷ 0 ∷ 1 ∷ 0 ∷ 3 ∷ 0 ∷ 2 ∷ 0 ∷ 3 ∷ 0 ∷ 0 ∷ 0 ∷ 3 ∷ 38 ∷ 1 ∷ 1 ∷ 0 ∷ []) (0 ∷ 8 ∷ 6 ∷ 23 ∷ 21 ∷ 23 ∷ 23 ∷ 23 ∷ 23 ∷ 0 ∷ [])
    ∷
    case (30 ∷ 98 ∷ 4 ∷ 1 ∷ 25 ∷ 9 ∷ 0 ∷ 16777217 ∷ 2 ∷ 1 ∷ 2 ∷ 2 ∷ 2 ∷ 2 ∷ 1 ∷ 3 ∷ 16777213 ∷ 16777214 ∷ 16777215 ∷ 1 ∷ 0 ∷ 1 ∷ 16777213 ∷ 0 ∷ 0 ∷ 2 ∷ 16777215 ∷ 16777215 ∷ 1 ∷ 16777213 ∷ 1 ∷ 16777215 ∷ 0 ∷ 16777215 ∷ 2 ∷ 16777214 ∷ 16777215 ∷ 1 ∷ 1 ∷ 0 ∷ 1 ∷ 0 ∷ 16777213 ∷ 0 ∷ 0 ∷ 1 ∷ 16777214 ∷ 1 ∷ 1 ∷ 2 ∷ 1 ∷ 2 ∷ 1 ∷ 2 ∷ 2 ∷ 0 ∷ 0 ∷ 1 ∷ 16777214 ∷ 1 ∷ 0 ∷ 0 ∷ 2 ∷ 0 ∷ 0 ∷ 1 ∷ 3 ∷ 15 ∷ 2 ∷ 3 ∷ 44 ∷ 0 ∷ 1 ∷ 0 ∷ 1 ∷ 9 ∷ 28 ∷ 0 ∷ 67 ∷ 2 ∷ 1 ∷ 2 ∷ 2 ∷ 0 ∷ 0 ∷ 0 ∷ 1 ∷ 0 ∷ 1 ∷ 0 ∷ 1 ∷ 0 ∷ 0 ∷ 0 ∷ 3 ∷ 3 ∷ 2 ∷ 0 ∷ 1 ∷ 255 ∷ []) (0 ∷ 6 ∷ 4 ∷ 20 ∷ 23 ∷ 2 ∷ 23 ∷ 0 ∷ [])
    ∷
    case (30 ∷ 94 ∷ 9 ∷ 1 ∷ 20 ∷ 54 ∷ 0 ∷ 3726238 ∷ 4 ∷ 2 ∷ 8 ∷ 2 ∷ 2 ∷ 2 ∷ 2 ∷ 2 ∷ 2 ∷ 2 ∷ 2 ∷ 1 ∷ 0 ∷ 3 ∷ 76 ∷ 84 ∷ 76 ∷ 2 ∷ 11 ∷ 11 ∷ 2 ∷ 157 ∷ 128 ∷ 0 ∷ 0 ∷ 0 ∷ 5 ∷ 4294967295 ∷ 1 ∷ 4294967295 ∷ 4294967295 ∷ 0 ∷ 2 ∷ 1 ∷ 0 ∷ 0 ∷ 1 ∷ 10 ∷ 3 ∷ 19 ∷ 1 ∷ 3 ∷ 1 ∷ 1 ∷ 0 ∷ 3 ∷ 19 ∷ 2 ∷ 2 ∷ 2 ∷ 2 ∷ 3 ∷ 12 ∷ 1 ∷ 2 ∷ 2 ∷ 2 ∷ 3 ∷ 20 ∷ 1 ∷ 2 ∷ 2 ∷ 2 ∷ 3 ∷ 19 ∷ 0 ∷ 3 ∷ 0 ∷ 2 ∷ 0 ∷ 3 ∷ 20 ∷ 0 ∷ 2 ∷ 2 ∷ 2 ∷ 3 ∷ 20 ∷ 3 ∷ 2 ∷ 1 ∷ 2 ∷ 3 ∷ 40 ∷ 2 ∷ 2 ∷ 2 ∷ 2 ∷ []) (0 ∷ 31 ∷ 9 ∷ 0 ∷ 4 ∷ 20 ∷ 20 ∷ 0 ∷ 4 ∷ 0 ∷ 0 ∷ 0 ∷ 20 ∷ replicate 19 2 ++ 1 ∷ [])
    ∷
    case (30 ∷ 60 ∷ 4 ∷ 1 ∷ 0 ∷ 57 ∷ 17 ∷ 93 ∷ 0 ∷ 1 ∷ 0 ∷ 0 ∷ 2 ∷ 2 ∷ 0 ∷ 36 ∷ 8 ∷ 0 ∷ 0 ∷ 1 ∷ 0 ∷ 9 ∷ 46 ∷ 38 ∷ 87 ∷ 44 ∷ 35 ∷ 57 ∷ 55 ∷ 42 ∷ 51 ∷ 8 ∷ 4294967295 ∷ 4294967295 ∷ 4294967295 ∷ 0 ∷ 4294967295 ∷ 4294967295 ∷ 4294967295 ∷ 4294967295 ∷ 4294967295 ∷ 0 ∷ 2 ∷ 0 ∷ 0 ∷ 1 ∷ 8 ∷ 3 ∷ 25 ∷ 0 ∷ 1 ∷ 0 ∷ 3 ∷ 0 ∷ 0 ∷ 1 ∷ 255 ∷ 3 ∷ 25 ∷ 0 ∷ 1 ∷ 2 ∷ []) (0 ∷ 6 ∷ 4 ∷ 0 ∷ 15 ∷ 4 ∷ 15 ∷ 0 ∷ [])
    ∷
    case (30 ∷ 73 ∷ 3 ∷ 3 ∷ 2 ∷ 1 ∷ 1 ∷ 0 ∷ 1 ∷ 9 ∷ 26 ∷ 17 ∷ 35 ∷ 8 ∷ 1 ∷ 8 ∷ 2 ∷ 2 ∷ 2 ∷ 2 ∷ 2 ∷ 2 ∷ 2 ∷ 2 ∷ 1 ∷ 1 ∷ 1 ∷ 33 ∷ 1 ∷ 34 ∷ 1 ∷ 34 ∷ 1 ∷ 33 ∷ 3 ∷ 32 ∷ 32 ∷ 32 ∷ 1 ∷ 1 ∷ 1 ∷ 33 ∷ 0 ∷ 34 ∷ 0 ∷ 32 ∷ 0 ∷ 1 ∷ 1 ∷ 1 ∷ 2 ∷ 1 ∷ 0 ∷ 1 ∷ 1 ∷ 1 ∷ 0 ∷ 1 ∷ 33 ∷ 3 ∷ 0 ∷ 4294967295 ∷ 4294967295 ∷ 2 ∷ 1 ∷ 1 ∷ 1 ∷ 0 ∷ 1 ∷ 257 ∷ 3 ∷ 24 ∷ 1 ∷ 1 ∷ 2 ∷ []) (0 ∷ 5 ∷ 3 ∷ 23 ∷ 1 ∷ 23 ∷ 0 ∷ [])
    ∷
    case (30 ∷ 73 ∷ 4 ∷ 3 ∷ 2 ∷ 2 ∷ 1 ∷ 2 ∷ 3 ∷ 2 ∷ 1 ∷ 1 ∷ 0 ∷ 1 ∷ 8 ∷ 326 ∷ 300 ∷ 9259960 ∷ 1 ∷ 1 ∷ 1 ∷ 0 ∷ 1 ∷ 2 ∷ 2 ∷ 9259940 ∷ 9259941 ∷ 1 ∷ 9259953 ∷ 1 ∷ 9259940 ∷ 0 ∷ 9259944 ∷ 0 ∷ 1 ∷ 0 ∷ 0 ∷ 1 ∷ 1 ∷ 0 ∷ 9259951 ∷ 0 ∷ 0 ∷ 0 ∷ 1 ∷ 0 ∷ 1 ∷ 0 ∷ 1 ∷ 2 ∷ 1 ∷ 2 ∷ 1 ∷ 2 ∷ 1 ∷ 0 ∷ 2 ∷ 9259945 ∷ 9259946 ∷ 3 ∷ 0 ∷ 4294967295 ∷ 4294967295 ∷ 2 ∷ 1 ∷ 1 ∷ 2 ∷ 0 ∷ 0 ∷ 1 ∷ 14 ∷ 3 ∷ 14 ∷ 0 ∷ 0 ∷ []) (0 ∷ 6 ∷ 4 ∷ 23 ∷ 23 ∷ 8 ∷ 23 ∷ 0 ∷ [])
    ∷
    case (30 ∷ 95 ∷ 3 ∷ 1 ∷ 6 ∷ 26 ∷ 0 ∷ 16777212 ∷ 2 ∷ 1 ∷ 2 ∷ 0 ∷ 2 ∷ 1 ∷ 0 ∷ 1 ∷ 16776912 ∷ 1 ∷ 16776915 ∷ 1 ∷ 16776913 ∷ 1 ∷ 16776911 ∷ 0 ∷ 1 ∷ 0 ∷ 1 ∷ 1 ∷ 0 ∷ 0 ∷ 1 ∷ 6 ∷ 2 ∷ 17 ∷ 17 ∷ 16777217 ∷ 6 ∷ 1 ∷ 6 ∷ 2 ∷ 2 ∷ 2 ∷ 2 ∷ 2 ∷ 2 ∷ 2 ∷ 1 ∷ 3 ∷ 4294967295 ∷ 4294967295 ∷ 4294967295 ∷ 1 ∷ 46 ∷ 1 ∷ 0 ∷ 1 ∷ 46 ∷ 3 ∷ 16 ∷ 9 ∷ 16 ∷ 1 ∷ 46 ∷ 1 ∷ 35 ∷ 1 ∷ 18 ∷ 2 ∷ 61 ∷ 21 ∷ 1 ∷ 1 ∷ 1 ∷ 61 ∷ 0 ∷ 0 ∷ 0 ∷ 0 ∷ 0 ∷ 47 ∷ 1 ∷ 1 ∷ 0 ∷ 1 ∷ 2 ∷ 1 ∷ 1 ∷ 2 ∷ 0 ∷ 2 ∷ 1 ∷ 1 ∷ 3 ∷ 6 ∷ 0 ∷ 1 ∷ 1 ∷ []) (0 ∷ 11 ∷ 3 ∷ 0 ∷ 11 ∷ 0 ∷ 6 ∷ 1 ∷ 2 ∷ 2 ∷ 2 ∷ 2 ∷ 2 ∷ [])
    ∷
    case (30 ∷ 116 ∷ 3 ∷ 2 ∷ 10 ∷ 1 ∷ 213 ∷ 4 ∷ 1 ∷ 4 ∷ 0 ∷ 2 ∷ 1 ∷ 0 ∷ 2 ∷ 1 ∷ 3 ∷ 4 ∷ 4 ∷ 4 ∷ 2 ∷ 2 ∷ 2 ∷ 2 ∷ 2 ∷ 3 ∷ 0 ∷ 1 ∷ 2 ∷ 4294967295 ∷ 4294967295 ∷ 1 ∷ 4 ∷ 1 ∷ 2 ∷ 0 ∷ 1 ∷ 0 ∷ 1 ∷ 1 ∷ 0 ∷ 1 ∷ 1 ∷ 4 ∷ 0 ∷ 0 ∷ 1 ∷ 4 ∷ 1 ∷ 1 ∷ 2 ∷ 1 ∷ 0 ∷ 1 ∷ 1 ∷ 2 ∷ 2 ∷ 0 ∷ 1 ∷ 4 ∷ 3 ∷ 2 ∷ 0 ∷ 1 ∷ 1 ∷ 1 ∷ 29 ∷ 19 ∷ 0 ∷ 16777216 ∷ 8 ∷ 1 ∷ 8 ∷ 2 ∷ 128 ∷ 2 ∷ 2 ∷ 2 ∷ 2 ∷ 2 ∷ 2 ∷ 0 ∷ 1 ∷ 2 ∷ 105 ∷ 110 ∷ 2 ∷ 1 ∷ 1 ∷ 121 ∷ 0 ∷ 0 ∷ 0 ∷ 109 ∷ 0 ∷ 1 ∷ 1 ∷ 2 ∷ 2 ∷ 2 ∷ 2 ∷ 0 ∷ 2 ∷ 2 ∷ 2 ∷ 2 ∷ 0 ∷ 2 ∷ 122 ∷ 118 ∷ 1 ∷ 0 ∷ 4 ∷ 0 ∷ 1 ∷ 4 ∷ 15 ∷ 1 ∷ []) (0 ∷ 5 ∷ 3 ∷ 14 ∷ 23 ∷ 4 ∷ 0 ∷ [])
    ∷
    case (30 ∷ 23 ∷ 3 ∷ 3 ∷ 3 ∷ 1 ∷ 1 ∷ 0 ∷ 2 ∷ 2000 ∷ 0 ∷ 200 ∷ 2 ∷ 1 ∷ 2 ∷ 1 ∷ 0 ∷ 0 ∷ 0 ∷ 0 ∷ 3 ∷ 3 ∷ 1 ∷ 1 ∷ 0 ∷ []) (0 ∷ 5 ∷ 3 ∷ 23 ∷ 0 ∷ 23 ∷ 0 ∷ [])
    ∷
    case (30 ∷ 25 ∷ 1 ∷ 1 ∷ 9 ∷ 9 ∷ 0 ∷ 204 ∷ 0 ∷ 2 ∷ 0 ∷ 0 ∷ 0 ∷ 0 ∷ 7 ∷ 4294967295 ∷ 4294967295 ∷ 0 ∷ 0 ∷ 4294967295 ∷ 1 ∷ 4294967295 ∷ 6 ∷ 0 ∷ 0 ∷ 1 ∷ 9 ∷ []) (0 ∷ 3 ∷ 1 ∷ 7 ∷ 0 ∷ [])
    ∷
    case (30 ∷ 32 ∷ 2 ∷ 1 ∷ 11 ∷ 9 ∷ 0 ∷ 3 ∷ 1 ∷ 0 ∷ 0 ∷ 1 ∷ 1 ∷ 0 ∷ 0 ∷ 0 ∷ 0 ∷ 2 ∷ 0 ∷ 0 ∷ 0 ∷ 0 ∷ 0 ∷ 0 ∷ 1 ∷ 0 ∷ 1 ∷ 2 ∷ 1 ∷ 2 ∷ 3 ∷ 0 ∷ 0 ∷ 0 ∷ []) (0 ∷ 4 ∷ 2 ∷ 9 ∷ 23 ∷ 0 ∷ [])
    ∷
    case (30 ∷ 89 ∷ 4 ∷ 2 ∷ 26 ∷ 17 ∷ 1 ∷ 11 ∷ 1 ∷ 11 ∷ 2 ∷ 2 ∷ 2 ∷ 2 ∷ 2 ∷ 2 ∷ 2 ∷ 2 ∷ 2 ∷ 2 ∷ 0 ∷ 1 ∷ 2 ∷ 4 ∷ 0 ∷ 0 ∷ 0 ∷ 0 ∷ 2 ∷ 0 ∷ 0 ∷ 2 ∷ 0 ∷ 0 ∷ 0 ∷ 0 ∷ 6 ∷ 0 ∷ 1 ∷ 1 ∷ 0 ∷ 0 ∷ 1 ∷ 2 ∷ 1 ∷ 0 ∷ 0 ∷ 0 ∷ 0 ∷ 0 ∷ 0 ∷ 0 ∷ 1 ∷ 0 ∷ 2 ∷ 1 ∷ 1 ∷ 2 ∷ 0 ∷ 0 ∷ 2 ∷ 0 ∷ 2 ∷ 1 ∷ 0 ∷ 3 ∷ 0 ∷ 0 ∷ 0 ∷ 2 ∷ 0 ∷ 4 ∷ 0 ∷ 0 ∷ 0 ∷ 0 ∷ 3 ∷ 2 ∷ 0 ∷ 1 ∷ 2 ∷ 3 ∷ 2 ∷ 1 ∷ 1 ∷ 0 ∷ 3 ∷ 0 ∷ 0 ∷ 1 ∷ 0 ∷ []) (0 ∷ 6 ∷ 4 ∷ 3 ∷ 23 ∷ 23 ∷ 23 ∷ 0 ∷ [])
    ∷
    case (30 ∷ 27 ∷ 2 ∷ 3 ∷ 3 ∷ 1 ∷ 1 ∷ 0 ∷ 1 ∷ 0 ∷ 0 ∷ 0 ∷ 2 ∷ 3 ∷ 1 ∷ 3 ∷ 1 ∷ 0 ∷ 2 ∷ 0 ∷ 0 ∷ 0 ∷ 1 ∷ 0 ∷ 0 ∷ 0 ∷ 0 ∷ 0 ∷ 1 ∷ []) (0 ∷ 4 ∷ 2 ∷ 23 ∷ 20 ∷ 0 ∷ [])
    ∷
    case (30 ∷ 31 ∷ 3 ∷ 1 ∷ 9 ∷ 0 ∷ 0 ∷ 2 ∷ 2 ∷ 1 ∷ 2 ∷ 1 ∷ 0 ∷ 0 ∷ 0 ∷ 0 ∷ 1 ∷ 0 ∷ 0 ∷ 0 ∷ 0 ∷ 1 ∷ 1 ∷ 3 ∷ 9 ∷ 2 ∷ 1 ∷ 3 ∷ 3 ∷ 9 ∷ 2 ∷ 1 ∷ 3 ∷ []) (0 ∷ 7 ∷ 3 ∷ 0 ∷ 4 ∷ 4 ∷ 2 ∷ 1 ∷ 0 ∷ [])
    ∷
    case (30 ∷ 32 ∷ 3 ∷ 1 ∷ 9 ∷ 0 ∷ 0 ∷ 2 ∷ 3 ∷ 1 ∷ 3 ∷ 1 ∷ 0 ∷ 2 ∷ 0 ∷ 0 ∷ 0 ∷ 1 ∷ 0 ∷ 0 ∷ 0 ∷ 0 ∷ 1 ∷ 1 ∷ 3 ∷ 2 ∷ 0 ∷ 1 ∷ 2 ∷ 3 ∷ 9 ∷ 2 ∷ 1 ∷ 3 ∷ []) (0 ∷ 8 ∷ 3 ∷ 0 ∷ 20 ∷ 4 ∷ 3 ∷ 1 ∷ 0 ∷ 2 ∷ [])
    ∷
    []

pub agreed : agree op30 cases ≡ true
unfolding ◌or_else◌ plain_controls new_flip_flop with_init with_enable flip_flop_of wide_log2 write_wide_log2 read_wide_log2 write_at read_at_of output_len output_start output_slice with_output with_reads with_flip_flop held is_transparent transparent_from transparent_ports too_large plan_too_large unequal bad_data_len bad_addr_len bad_write_shape bad_trit_lens bad_flip_flop_shape bad_read_shape bad_shape bad_output_len indivisible bad_depth bad_value bad_control bad_trits bad_controls bad_write_nets bad_relation bad_flip_flop_nets bad_read_nets bad_nets times bad_entry bad_names bad_entries bad_soft_mask bad_wide bad_writes bad_reads all_reads result_too_large image_too_large write_clocks_differ too_few_bits short_pair short_port short_ports not_below log_full no_room_of nets_full can_lower_fallback max_wide_log2 fallback_plan write_muxes row_flip_flop row_value drive_outputs lower_rows lower_fallback fallback_scratch layout_of soft_bits soft row_len_of full_depth_of full_chunks part_depth_of all_chunks full_mems all_mems columns to_chunk hard_left under walk spot_of column place_of depth_at rows_before mem_start trits image_size flat_at flat index_of put put_row write_row row_of write_rows layout image_of entry flag dff_operands encode words ◌>>=◌ ◌>>◌ done request add_void_of add_or_of mux_by add_mux_of add_eq_of add_shl_of add_ushr_of add_dff_of replace_value_of start_net added undef are_trits spread add_dedup_mux_of longer runs mux_runs add_bitwise_mux_of ceil_div softs top_bits bits_for largest patched_by lent_to called called_all patched narrower_select seen_wider seen_narrower seen overlaid_mask transparency_mux transparencies unmap_dff unmap_read_dff_of unmap_read_dff unmap_each unmap_all is_empty room_refusal log_refusal mem_number driving_number plan_number wide_number image_number whole_plan swizzle_plan_number swizzle_number image_refusal results_refusal swizzle_refusal lower_fallback_number lower_fallback_refusal patch_refusal_by patch_refusal_of patch_refusal role_of is_chunk is_row doubles wide_after rows_after roles low_roles row_nets mux_nets mux_roles spot_by count_doubles split_by split_addr piece_start old_rows new_rows sources arrange repeating restore store_rows store_piece store_each load_piece mem_part blank piece_mask mask_pieces swizzle_write swizzle_writes write_part pair_up mux_tree add_voids clocked_addr const_columns wide_flip_flop swizzle_read swizzle_reads flip_flop_part read_part mem_depth result_mem swizzle_rows swizzle_empty swizzle swizzle_image swizzle_laid shared_write shared_nets shared_read shared_trits piece_nets swizzle_scratch net_of_trit of_const from_uint x_nets zext is_cell_net good_net good_value same_control good_control control_words give many word words_of list test control option log controls flip_flop write_port read_flip_flop read_port memory plan patch reply as_list swizzle_step fallback_step patch_step step steps op30 agrees agree Rattle.rules_trial.specs.Read.◌>>=◌
agreed = refl
