-- Calls 29 of the call format, which the rules answer as the Rust does. Made by scripts/sample.py.
use Prim.Native.Nat.{ℕ}
use mathlib.Core.Path.{◌≡◌, refl}
use mathlib.Core.Bool.{true}
use mathlib.Core.List.{List, [], ◌∷◌}
use Rattle.lists.specs.Choice.{◌or_else◌}
use Rattle.rules.specs.Cell.{plain_controls, new_flip_flop, with_init, with_enable, flip_flop_of, wide_log2, write_wide_log2, read_wide_log2, write_at, read_at_of, output_len, output_start, output_slice, with_output, with_reads, with_flip_flop, held, is_transparent, transparent_from, transparent_ports}
use Rattle.rules.specs.Conditions.{too_large, unequal, bad_data_len, bad_addr_len, bad_write_shape, bad_trit_lens, bad_flip_flop_shape, bad_read_shape, bad_shape, bad_output_len, indivisible, bad_depth, bad_value, bad_control, bad_trits, bad_controls, bad_write_nets, bad_relation, bad_flip_flop_nets, bad_read_nets, bad_nets, write_clocks_differ, too_few_bits, short_pair, short_port, short_ports, log_full, no_room_of, nets_full}
use Rattle.rules.specs.Fallback.{can_lower_fallback, max_wide_log2, fallback_plan, write_muxes, row_flip_flop, row_value, drive_outputs, lower_rows, lower_fallback, fallback_scratch}
use Rattle.rules.specs.Geometry.{layout_of, soft_bits, soft, row_len_of, full_depth_of, full_chunks, part_depth_of, all_chunks, full_mems, all_mems, columns, to_chunk, hard_left, under, walk}
use Rattle.rules.specs.Image.{spot_of, column, place_of, depth_at, rows_before, mem_start, trits, image_size, flat_at, flat, index_of, put, put_row, write_row, row_of, write_rows, layout, image_of}
use Rattle.rules.specs.Log.{entry, flag, dff_operands, encode, words, ◌>>=◌, ◌>>◌, done, request, add_void_of, add_or_of, mux_by, add_mux_of, add_eq_of, add_shl_of, add_ushr_of, add_dff_of, replace_value_of, start_net, added, state_after}
use Rattle.rules.specs.Logic.{undef, are_trits}
use Rattle.rules.specs.Merge.{spread, add_dedup_mux_of, longer, runs, mux_runs, add_bitwise_mux_of}
use Rattle.rules.specs.Numbers.{ceil_div, softs, top_bits, bits_for, largest}
use Rattle.rules.specs.Ports.{narrower_select, seen_wider, seen_narrower, seen, overlaid_mask, transparency_mux, transparencies, unmap_dff, unmap_read_dff_of, unmap_read_dff, unmap_each, unmap_all, is_empty}
use Rattle.rules.specs.Refusals.{room_refusal, log_refusal, mem_number, driving_number, lower_fallback_number, lower_fallback_refusal}
use Rattle.rules.specs.Swizzle.{role_of, is_chunk, is_row, doubles, wide_after, rows_after, roles, low_roles, row_nets, mux_nets, mux_roles, spot_by, count_doubles, split_by, split_addr, piece_start, old_rows, new_rows, sources, arrange, repeating, restore, store_rows, store_piece, store_each, load_piece, mem_part, blank, piece_mask, mask_pieces, swizzle_write, swizzle_writes, write_part, pair_up, mux_tree, add_voids, clocked_addr, const_columns, wide_flip_flop, swizzle_read, swizzle_reads, flip_flop_part, read_part, mem_depth, result_mem, swizzle_rows, swizzle_empty, swizzle}
use Rattle.rules.specs.Value.{net_of_trit, of_const, from_uint, x_nets, zext, is_cell_net, good_net, good_value, same_control, good_control, control_words}
use Rattle.rules_trial.specs.Read.{give, many, word, words_of, list, test, control, option, log, controls, flip_flop, write_port, read_flip_flop, read_port, memory}
use Rattle.rules_trial.specs.Wire.{reply, as_list, log_out, op29, agrees, agree, Case, case}

abbrev pub cases : List Case
cases =
    case (29 ∷ 61 ∷ 150 ∷ 0 ∷ 76 ∷ 1 ∷ 1 ∷ 1 ∷ 2 ∷ 3 ∷ 2 ∷ 0 ∷ 1 ∷ 54 ∷ 1 ∷ 4294967295 ∷ 0 ∷ 15 ∷ 3 ∷ 45 ∷ 46 ∷ 47 ∷ 1 ∷ 10 ∷ 1 ∷ 1 ∷ 0 ∷ 15 ∷ 0 ∷ 1 ∷ 47 ∷ 1 ∷ 36 ∷ 0 ∷ 15 ∷ 0 ∷ 1 ∷ 1 ∷ 0 ∷ 15 ∷ 0 ∷ 40 ∷ 0 ∷ 0 ∷ 0 ∷ 1 ∷ 1 ∷ 1 ∷ 2 ∷ 1 ∷ 0 ∷ 1 ∷ 0 ∷ 3 ∷ 0 ∷ 1 ∷ 2 ∷ 0 ∷ 1 ∷ 0 ∷ 2 ∷ 37 ∷ 38 ∷ []) (0 ∷ 153 ∷ 150 ∷ 92 ∷ 150 ∷ 1 ∷ 1 ∷ 76 ∷ 0 ∷ 6 ∷ 1 ∷ 77 ∷ 0 ∷ 5 ∷ 1 ∷ 78 ∷ 3 ∷ 77 ∷ 36 ∷ 0 ∷ 5 ∷ 1 ∷ 79 ∷ 3 ∷ 78 ∷ 47 ∷ 76 ∷ 9 ∷ 1 ∷ 80 ∷ 13 ∷ 79 ∷ 0 ∷ 15 ∷ 0 ∷ 40 ∷ 0 ∷ 0 ∷ 0 ∷ 1 ∷ 1 ∷ 2 ∷ 0 ∷ 0 ∷ 10 ∷ 0 ∷ 0 ∷ 2 ∷ 37 ∷ 80 ∷ 6 ∷ 1 ∷ 81 ∷ 0 ∷ 6 ∷ 1 ∷ 82 ∷ 6 ∷ 45 ∷ 46 ∷ 47 ∷ 0 ∷ 0 ∷ 0 ∷ 5 ∷ 1 ∷ 83 ∷ 3 ∷ 82 ∷ 1 ∷ 0 ∷ 6 ∷ 1 ∷ 84 ∷ 0 ∷ 1 ∷ 1 ∷ 85 ∷ 0 ∷ 10 ∷ 0 ∷ 0 ∷ 2 ∷ 76 ∷ 85 ∷ 1 ∷ 1 ∷ 86 ∷ 0 ∷ 10 ∷ 0 ∷ 0 ∷ 2 ∷ 38 ∷ 86 ∷ 1 ∷ 1 ∷ 87 ∷ 0 ∷ 5 ∷ 1 ∷ 88 ∷ 3 ∷ 4294967295 ∷ 54 ∷ 87 ∷ 5 ∷ 1 ∷ 89 ∷ 3 ∷ 83 ∷ 10 ∷ 88 ∷ 5 ∷ 1 ∷ 90 ∷ 3 ∷ 36 ∷ 47 ∷ 89 ∷ 9 ∷ 1 ∷ 91 ∷ 13 ∷ 90 ∷ 0 ∷ 15 ∷ 0 ∷ 0 ∷ 0 ∷ 0 ∷ 0 ∷ 1 ∷ 0 ∷ 2 ∷ 2 ∷ 2 ∷ 10 ∷ 0 ∷ 0 ∷ 2 ∷ 87 ∷ 91 ∷ 10 ∷ 0 ∷ 0 ∷ 2 ∷ 85 ∷ 87 ∷ 10 ∷ 0 ∷ 0 ∷ 2 ∷ 86 ∷ 87 ∷ [])
    ∷
    case (29 ∷ 46 ∷ 291 ∷ 0 ∷ 4 ∷ 4 ∷ 1 ∷ 4 ∷ 1 ∷ 0 ∷ 0 ∷ 1 ∷ 1 ∷ 1 ∷ 1 ∷ 2 ∷ 2 ∷ 2 ∷ 3 ∷ 2 ∷ 2 ∷ 3 ∷ 0 ∷ 2 ∷ 2 ∷ 2 ∷ 3 ∷ 1 ∷ 1 ∷ 0 ∷ 2 ∷ 1 ∷ 2 ∷ 1 ∷ 3 ∷ 1 ∷ 3 ∷ 1 ∷ 1 ∷ 1 ∷ 1 ∷ 0 ∷ 1 ∷ 2 ∷ 1 ∷ 2 ∷ 1 ∷ 3 ∷ []) (0 ∷ 289 ∷ 286 ∷ 38 ∷ 286 ∷ 1 ∷ 1 ∷ 4 ∷ 0 ∷ 8 ∷ 2 ∷ 5 ∷ 5 ∷ 1 ∷ 1 ∷ 2 ∷ 2 ∷ 3 ∷ 8 ∷ 2 ∷ 7 ∷ 5 ∷ 1 ∷ 1 ∷ 2 ∷ 2 ∷ 3 ∷ 6 ∷ 1 ∷ 9 ∷ 2 ∷ 3 ∷ 2 ∷ 5 ∷ 1 ∷ 10 ∷ 3 ∷ 9 ∷ 7 ∷ 0 ∷ 5 ∷ 1 ∷ 11 ∷ 3 ∷ 10 ∷ 5 ∷ 4 ∷ 9 ∷ 1 ∷ 12 ∷ 13 ∷ 11 ∷ 0 ∷ 2 ∷ 1 ∷ 2 ∷ 1 ∷ 3 ∷ 1 ∷ 3 ∷ 1 ∷ 1 ∷ 0 ∷ 2 ∷ 10 ∷ 0 ∷ 0 ∷ 2 ∷ 3 ∷ 12 ∷ 6 ∷ 1 ∷ 13 ∷ 2 ∷ 2 ∷ 0 ∷ 5 ∷ 2 ∷ 14 ∷ 5 ∷ 13 ∷ 2 ∷ 3 ∷ 0 ∷ 0 ∷ 6 ∷ 1 ∷ 16 ∷ 2 ∷ 2 ∷ 1 ∷ 5 ∷ 2 ∷ 17 ∷ 5 ∷ 16 ∷ 2 ∷ 3 ∷ 0 ∷ 0 ∷ 1 ∷ 4 ∷ 19 ∷ 0 ∷ 5 ∷ 1 ∷ 23 ∷ 3 ∷ 2 ∷ 20 ∷ 19 ∷ 5 ∷ 1 ∷ 24 ∷ 3 ∷ 2 ∷ 22 ∷ 21 ∷ 5 ∷ 1 ∷ 25 ∷ 3 ∷ 3 ∷ 24 ∷ 23 ∷ 10 ∷ 0 ∷ 0 ∷ 2 ∷ 4 ∷ 25 ∷ 1 ∷ 1 ∷ 26 ∷ 0 ∷ 5 ∷ 1 ∷ 27 ∷ 3 ∷ 14 ∷ 2 ∷ 26 ∷ 9 ∷ 1 ∷ 28 ∷ 13 ∷ 27 ∷ 0 ∷ 2 ∷ 0 ∷ 0 ∷ 0 ∷ 0 ∷ 0 ∷ 1 ∷ 0 ∷ 1 ∷ 1 ∷ 1 ∷ 10 ∷ 0 ∷ 0 ∷ 2 ∷ 26 ∷ 28 ∷ 10 ∷ 0 ∷ 0 ∷ 2 ∷ 19 ∷ 26 ∷ 1 ∷ 1 ∷ 29 ∷ 0 ∷ 5 ∷ 1 ∷ 30 ∷ 3 ∷ 15 ∷ 3 ∷ 29 ∷ 9 ∷ 1 ∷ 31 ∷ 13 ∷ 30 ∷ 0 ∷ 2 ∷ 0 ∷ 0 ∷ 0 ∷ 0 ∷ 0 ∷ 1 ∷ 0 ∷ 0 ∷ 0 ∷ 0 ∷ 10 ∷ 0 ∷ 0 ∷ 2 ∷ 29 ∷ 31 ∷ 10 ∷ 0 ∷ 0 ∷ 2 ∷ 20 ∷ 29 ∷ 1 ∷ 1 ∷ 32 ∷ 0 ∷ 5 ∷ 1 ∷ 33 ∷ 3 ∷ 17 ∷ 2 ∷ 32 ∷ 9 ∷ 1 ∷ 34 ∷ 13 ∷ 33 ∷ 0 ∷ 2 ∷ 0 ∷ 0 ∷ 0 ∷ 0 ∷ 0 ∷ 1 ∷ 0 ∷ 0 ∷ 0 ∷ 0 ∷ 10 ∷ 0 ∷ 0 ∷ 2 ∷ 32 ∷ 34 ∷ 10 ∷ 0 ∷ 0 ∷ 2 ∷ 21 ∷ 32 ∷ 1 ∷ 1 ∷ 35 ∷ 0 ∷ 5 ∷ 1 ∷ 36 ∷ 3 ∷ 18 ∷ 3 ∷ 35 ∷ 9 ∷ 1 ∷ 37 ∷ 13 ∷ 36 ∷ 0 ∷ 2 ∷ 0 ∷ 0 ∷ 0 ∷ 0 ∷ 0 ∷ 1 ∷ 0 ∷ 1 ∷ 1 ∷ 1 ∷ 10 ∷ 0 ∷ 0 ∷ 2 ∷ 35 ∷ 37 ∷ 10 ∷ 0 ∷ 0 ∷ 2 ∷ 22 ∷ 35 ∷ [])
    ∷
    case (29 ∷ 9 ∷ 2000 ∷ 0 ∷ 200 ∷ 0 ∷ 0 ∷ 0 ∷ 0 ∷ 0 ∷ 0 ∷ []) (0 ∷ 3 ∷ 0 ∷ 200 ∷ 0 ∷ [])
    ∷
    case (29 ∷ 34 ∷ 22 ∷ 1 ∷ 15340400 ∷ 4 ∷ 0 ∷ 0 ∷ 1 ∷ 1 ∷ 2 ∷ 2 ∷ 3 ∷ 0 ∷ 0 ∷ 0 ∷ 9 ∷ 1 ∷ 7 ∷ 0 ∷ 1 ∷ 0 ∷ 9 ∷ 0 ∷ 8 ∷ 0 ∷ 0 ∷ 0 ∷ 1 ∷ 0 ∷ 0 ∷ 0 ∷ 0 ∷ 1 ∷ 0 ∷ 0 ∷ []) (0 ∷ 24 ∷ 22 ∷ 15340400 ∷ 21 ∷ 1 ∷ 0 ∷ 15340400 ∷ 0 ∷ 9 ∷ 0 ∷ 15340400 ∷ 9 ∷ 0 ∷ 9 ∷ 0 ∷ 8 ∷ 0 ∷ 0 ∷ 0 ∷ 1 ∷ 0 ∷ 10 ∷ 0 ∷ 0 ∷ 0 ∷ [])
    ∷
    case (29 ∷ 44 ∷ 197 ∷ 0 ∷ 187 ∷ 2 ∷ 1 ∷ 2 ∷ 1 ∷ 1 ∷ 1 ∷ 1 ∷ 1 ∷ 4294967295 ∷ 1 ∷ 4 ∷ 1 ∷ 3 ∷ 0 ∷ 2 ∷ 0 ∷ 2 ∷ 1 ∷ 0 ∷ 2 ∷ 0 ∷ 0 ∷ 0 ∷ 1 ∷ 1 ∷ 4 ∷ 0 ∷ 2 ∷ 1 ∷ 0 ∷ 2 ∷ 1 ∷ 2 ∷ 2 ∷ 2 ∷ 2 ∷ 1 ∷ 2 ∷ 2 ∷ 2 ∷ 2 ∷ []) (0 ∷ 199 ∷ 196 ∷ 212 ∷ 196 ∷ 1 ∷ 2 ∷ 187 ∷ 0 ∷ 7 ∷ 2 ∷ 189 ∷ 5 ∷ 1 ∷ 1 ∷ 4294967295 ∷ 4 ∷ 0 ∷ 7 ∷ 2 ∷ 191 ∷ 5 ∷ 1 ∷ 1 ∷ 4294967295 ∷ 3 ∷ 0 ∷ 6 ∷ 1 ∷ 193 ∷ 0 ∷ 5 ∷ 2 ∷ 194 ∷ 5 ∷ 193 ∷ 191 ∷ 192 ∷ 0 ∷ 0 ∷ 5 ∷ 1 ∷ 196 ∷ 3 ∷ 194 ∷ 189 ∷ 187 ∷ 5 ∷ 1 ∷ 197 ∷ 3 ∷ 195 ∷ 190 ∷ 188 ∷ 9 ∷ 2 ∷ 198 ∷ 17 ∷ 196 ∷ 197 ∷ 0 ∷ 2 ∷ 0 ∷ 0 ∷ 0 ∷ 1 ∷ 1 ∷ 4 ∷ 0 ∷ 1 ∷ 0 ∷ 1 ∷ 2 ∷ 2 ∷ 2 ∷ 10 ∷ 0 ∷ 0 ∷ 4 ∷ 2 ∷ 2 ∷ 198 ∷ 199 ∷ 6 ∷ 1 ∷ 200 ∷ 2 ∷ 4294967295 ∷ 0 ∷ 5 ∷ 1 ∷ 201 ∷ 3 ∷ 200 ∷ 3 ∷ 0 ∷ 6 ∷ 1 ∷ 202 ∷ 2 ∷ 4294967295 ∷ 1 ∷ 5 ∷ 1 ∷ 203 ∷ 3 ∷ 202 ∷ 3 ∷ 0 ∷ 1 ∷ 2 ∷ 204 ∷ 0 ∷ 10 ∷ 0 ∷ 0 ∷ 4 ∷ 187 ∷ 188 ∷ 204 ∷ 205 ∷ 1 ∷ 1 ∷ 206 ∷ 0 ∷ 5 ∷ 1 ∷ 207 ∷ 3 ∷ 201 ∷ 4 ∷ 206 ∷ 9 ∷ 1 ∷ 208 ∷ 13 ∷ 207 ∷ 0 ∷ 2 ∷ 0 ∷ 0 ∷ 0 ∷ 0 ∷ 0 ∷ 1 ∷ 0 ∷ 1 ∷ 1 ∷ 1 ∷ 10 ∷ 0 ∷ 0 ∷ 2 ∷ 206 ∷ 208 ∷ 10 ∷ 0 ∷ 0 ∷ 2 ∷ 204 ∷ 206 ∷ 1 ∷ 1 ∷ 209 ∷ 0 ∷ 5 ∷ 1 ∷ 210 ∷ 3 ∷ 203 ∷ 4 ∷ 209 ∷ 9 ∷ 1 ∷ 211 ∷ 13 ∷ 210 ∷ 0 ∷ 2 ∷ 0 ∷ 0 ∷ 0 ∷ 0 ∷ 0 ∷ 1 ∷ 0 ∷ 1 ∷ 1 ∷ 1 ∷ 10 ∷ 0 ∷ 0 ∷ 2 ∷ 209 ∷ 211 ∷ 10 ∷ 0 ∷ 0 ∷ 2 ∷ 205 ∷ 209 ∷ [])
    ∷
    case (29 ∷ 9 ∷ 2000 ∷ 0 ∷ 200 ∷ 0 ∷ 1 ∷ 0 ∷ 0 ∷ 0 ∷ 0 ∷ []) (0 ∷ 7 ∷ 4 ∷ 200 ∷ 4 ∷ 10 ∷ 0 ∷ 0 ∷ 0 ∷ [])
    ∷
    case (29 ∷ 17 ∷ 61 ∷ 17 ∷ 51 ∷ 1 ∷ 1 ∷ 1 ∷ 2 ∷ 1 ∷ 0 ∷ 0 ∷ 1 ∷ 39 ∷ 1 ∷ 4294967295 ∷ 0 ∷ 1 ∷ 0 ∷ []) (0 ∷ 41 ∷ 55 ∷ 55 ∷ 38 ∷ 6 ∷ 1 ∷ 51 ∷ 0 ∷ 1 ∷ 1 ∷ 52 ∷ 0 ∷ 5 ∷ 1 ∷ 53 ∷ 3 ∷ 4294967295 ∷ 39 ∷ 52 ∷ 9 ∷ 1 ∷ 54 ∷ 13 ∷ 53 ∷ 0 ∷ 1 ∷ 0 ∷ 0 ∷ 0 ∷ 0 ∷ 0 ∷ 1 ∷ 0 ∷ 2 ∷ 2 ∷ 2 ∷ 10 ∷ 0 ∷ 0 ∷ 2 ∷ 52 ∷ 54 ∷ [])
    ∷
    case (29 ∷ 46 ∷ 85 ∷ 0 ∷ 152 ∷ 4 ∷ 1 ∷ 4 ∷ 2 ∷ 2 ∷ 2 ∷ 2 ∷ 0 ∷ 1 ∷ 1 ∷ 13 ∷ 4 ∷ 1 ∷ 0 ∷ 16 ∷ 0 ∷ 15 ∷ 0 ∷ 0 ∷ 0 ∷ 1 ∷ 0 ∷ 4 ∷ 2 ∷ 0 ∷ 2 ∷ 0 ∷ 4 ∷ 1 ∷ 1 ∷ 0 ∷ 0 ∷ 4 ∷ 1 ∷ 0 ∷ 2 ∷ 2 ∷ 0 ∷ 4 ∷ 2 ∷ 20 ∷ 2 ∷ 20 ∷ []) (0 ∷ 88 ∷ 85 ∷ 164 ∷ 85 ∷ 1 ∷ 4 ∷ 152 ∷ 0 ∷ 9 ∷ 4 ∷ 156 ∷ 25 ∷ 152 ∷ 153 ∷ 154 ∷ 155 ∷ 0 ∷ 16 ∷ 0 ∷ 15 ∷ 0 ∷ 0 ∷ 0 ∷ 1 ∷ 0 ∷ 2 ∷ 0 ∷ 2 ∷ 0 ∷ 1 ∷ 1 ∷ 0 ∷ 0 ∷ 1 ∷ 0 ∷ 2 ∷ 2 ∷ 10 ∷ 0 ∷ 0 ∷ 8 ∷ 2 ∷ 20 ∷ 2 ∷ 20 ∷ 156 ∷ 157 ∷ 158 ∷ 159 ∷ 1 ∷ 4 ∷ 160 ∷ 0 ∷ 10 ∷ 0 ∷ 0 ∷ 8 ∷ 152 ∷ 153 ∷ 154 ∷ 155 ∷ 160 ∷ 161 ∷ 162 ∷ 163 ∷ 10 ∷ 0 ∷ 0 ∷ 2 ∷ 160 ∷ 4294967295 ∷ 10 ∷ 0 ∷ 0 ∷ 2 ∷ 161 ∷ 4294967295 ∷ 10 ∷ 0 ∷ 0 ∷ 2 ∷ 162 ∷ 4294967295 ∷ 10 ∷ 0 ∷ 0 ∷ 2 ∷ 163 ∷ 4294967295 ∷ [])
    ∷
    case (29 ∷ 9 ∷ 0 ∷ 0 ∷ 30 ∷ 2 ∷ 0 ∷ 0 ∷ 0 ∷ 0 ∷ 0 ∷ []) (0 ∷ 3 ∷ 0 ∷ 30 ∷ 0 ∷ [])
    ∷
    case (29 ∷ 9 ∷ 0 ∷ 0 ∷ 6 ∷ 6 ∷ 0 ∷ 0 ∷ 0 ∷ 0 ∷ 0 ∷ []) (0 ∷ 3 ∷ 0 ∷ 6 ∷ 0 ∷ [])
    ∷
    case (29 ∷ 9 ∷ 1 ∷ 1 ∷ 5 ∷ 8 ∷ 0 ∷ 0 ∷ 0 ∷ 0 ∷ 0 ∷ []) (0 ∷ 3 ∷ 1 ∷ 5 ∷ 0 ∷ [])
    ∷
    case (29 ∷ 11 ∷ 0 ∷ 0 ∷ 101 ∷ 2 ∷ 1 ∷ 2 ∷ 1 ∷ 2 ∷ 0 ∷ 0 ∷ 0 ∷ []) (0 ∷ 3 ∷ 0 ∷ 101 ∷ 0 ∷ [])
    ∷
    case (29 ∷ 11 ∷ 19 ∷ 0 ∷ 7 ∷ 2 ∷ 1 ∷ 2 ∷ 0 ∷ 2 ∷ 0 ∷ 0 ∷ 0 ∷ []) (0 ∷ 3 ∷ 0 ∷ 7 ∷ 0 ∷ [])
    ∷
    case (29 ∷ 12 ∷ 35 ∷ 17 ∷ 66 ∷ 1 ∷ 0 ∷ 0 ∷ 0 ∷ 1 ∷ 0 ∷ 0 ∷ 0 ∷ 0 ∷ []) (0 ∷ 3 ∷ 17 ∷ 66 ∷ 0 ∷ [])
    ∷
    case (29 ∷ 13 ∷ 5 ∷ 0 ∷ 2669469 ∷ 4 ∷ 1 ∷ 4 ∷ 2 ∷ 1 ∷ 2 ∷ 1 ∷ 0 ∷ 0 ∷ 0 ∷ []) (0 ∷ 3 ∷ 0 ∷ 2669469 ∷ 0 ∷ [])
    ∷
    case (29 ∷ 13 ∷ 17 ∷ 17 ∷ 15293447 ∷ 4 ∷ 1 ∷ 4 ∷ 1 ∷ 1 ∷ 1 ∷ 2 ∷ 0 ∷ 0 ∷ 0 ∷ []) (0 ∷ 3 ∷ 17 ∷ 15293447 ∷ 0 ∷ [])
    ∷
    case (29 ∷ 39 ∷ 2000 ∷ 0 ∷ 200 ∷ 32769 ∷ 1 ∷ 0 ∷ 1 ∷ 1 ∷ 1 ∷ 10 ∷ 1 ∷ 20 ∷ 1 ∷ 40 ∷ 0 ∷ 5 ∷ 1 ∷ 60 ∷ 1 ∷ 1 ∷ 0 ∷ 5 ∷ 0 ∷ 0 ∷ 0 ∷ 0 ∷ 0 ∷ 1 ∷ 0 ∷ 1 ∷ 2 ∷ 1 ∷ 2 ∷ 1 ∷ 2 ∷ 1 ∷ 2 ∷ 1 ∷ 80 ∷ []) (1 ∷ 0 ∷ [])
    ∷
    case (29 ∷ 39 ∷ 2000 ∷ 0 ∷ 200 ∷ 2 ∷ 129 ∷ 0 ∷ 1 ∷ 1 ∷ 1 ∷ 10 ∷ 1 ∷ 20 ∷ 1 ∷ 40 ∷ 0 ∷ 5 ∷ 1 ∷ 60 ∷ 1 ∷ 1 ∷ 0 ∷ 5 ∷ 0 ∷ 0 ∷ 0 ∷ 0 ∷ 0 ∷ 1 ∷ 0 ∷ 1 ∷ 2 ∷ 1 ∷ 2 ∷ 1 ∷ 2 ∷ 1 ∷ 2 ∷ 1 ∷ 80 ∷ []) (1 ∷ 0 ∷ [])
    ∷
    case (29 ∷ 40 ∷ 2000 ∷ 0 ∷ 200 ∷ 2 ∷ 1 ∷ 1 ∷ 1 ∷ 1 ∷ 1 ∷ 1 ∷ 10 ∷ 1 ∷ 20 ∷ 1 ∷ 40 ∷ 0 ∷ 5 ∷ 1 ∷ 60 ∷ 1 ∷ 1 ∷ 0 ∷ 5 ∷ 0 ∷ 0 ∷ 0 ∷ 0 ∷ 0 ∷ 1 ∷ 0 ∷ 1 ∷ 2 ∷ 1 ∷ 2 ∷ 1 ∷ 2 ∷ 1 ∷ 2 ∷ 1 ∷ 80 ∷ []) (2 ∷ 0 ∷ [])
    ∷
    case (29 ∷ 42 ∷ 2000 ∷ 0 ∷ 200 ∷ 2 ∷ 1 ∷ 2 ∷ 1 ∷ 0 ∷ 1 ∷ 1 ∷ 1 ∷ 10 ∷ 2 ∷ 20 ∷ 20 ∷ 1 ∷ 40 ∷ 0 ∷ 5 ∷ 1 ∷ 60 ∷ 1 ∷ 1 ∷ 0 ∷ 5 ∷ 0 ∷ 0 ∷ 0 ∷ 0 ∷ 0 ∷ 1 ∷ 0 ∷ 1 ∷ 2 ∷ 1 ∷ 2 ∷ 1 ∷ 2 ∷ 1 ∷ 2 ∷ 1 ∷ 80 ∷ []) (2 ∷ 0 ∷ [])
    ∷
    case (29 ∷ 47 ∷ 2000 ∷ 0 ∷ 200 ∷ 2 ∷ 1 ∷ 2 ∷ 1 ∷ 0 ∷ 1 ∷ 1 ∷ 1 ∷ 10 ∷ 4 ∷ 20 ∷ 20 ∷ 20 ∷ 20 ∷ 4 ∷ 40 ∷ 40 ∷ 40 ∷ 40 ∷ 0 ∷ 5 ∷ 1 ∷ 60 ∷ 1 ∷ 1 ∷ 0 ∷ 5 ∷ 0 ∷ 0 ∷ 0 ∷ 0 ∷ 0 ∷ 1 ∷ 0 ∷ 1 ∷ 2 ∷ 1 ∷ 2 ∷ 1 ∷ 2 ∷ 1 ∷ 2 ∷ 1 ∷ 80 ∷ []) (3 ∷ 0 ∷ [])
    ∷
    case (29 ∷ 46 ∷ 2000 ∷ 0 ∷ 200 ∷ 1 ∷ 1 ∷ 1 ∷ 1 ∷ 1 ∷ 2 ∷ 0 ∷ 2 ∷ 20 ∷ 21 ∷ 2 ∷ 40 ∷ 41 ∷ 0 ∷ 5 ∷ 1 ∷ 60 ∷ 1 ∷ 1 ∷ 0 ∷ 5 ∷ 0 ∷ 0 ∷ 0 ∷ 0 ∷ 0 ∷ 1 ∷ 0 ∷ 1 ∷ 2 ∷ 1 ∷ 2 ∷ 1 ∷ 2 ∷ 1 ∷ 2 ∷ 0 ∷ 2 ∷ 0 ∷ 3 ∷ 80 ∷ 81 ∷ 82 ∷ []) (3 ∷ 0 ∷ [])
    ∷
    case (29 ∷ 41 ∷ 2000 ∷ 0 ∷ 200 ∷ 2 ∷ 1 ∷ 2 ∷ 1 ∷ 3 ∷ 1 ∷ 1 ∷ 1 ∷ 10 ∷ 1 ∷ 20 ∷ 1 ∷ 40 ∷ 0 ∷ 5 ∷ 1 ∷ 60 ∷ 1 ∷ 1 ∷ 0 ∷ 5 ∷ 0 ∷ 0 ∷ 0 ∷ 0 ∷ 0 ∷ 1 ∷ 0 ∷ 1 ∷ 2 ∷ 1 ∷ 2 ∷ 1 ∷ 2 ∷ 1 ∷ 2 ∷ 1 ∷ 80 ∷ []) (4 ∷ 0 ∷ [])
    ∷
    case (29 ∷ 41 ∷ 2000 ∷ 0 ∷ 200 ∷ 2 ∷ 1 ∷ 2 ∷ 1 ∷ 0 ∷ 1 ∷ 1 ∷ 1 ∷ 10 ∷ 1 ∷ 20 ∷ 1 ∷ 16777216 ∷ 0 ∷ 5 ∷ 1 ∷ 60 ∷ 1 ∷ 1 ∷ 0 ∷ 5 ∷ 0 ∷ 0 ∷ 0 ∷ 0 ∷ 0 ∷ 1 ∷ 0 ∷ 1 ∷ 2 ∷ 1 ∷ 2 ∷ 1 ∷ 2 ∷ 1 ∷ 2 ∷ 1 ∷ 80 ∷ []) (4 ∷ 0 ∷ [])
    ∷
    case (29 ∷ 27 ∷ 2000 ∷ 0 ∷ 200 ∷ 2 ∷ 1 ∷ 2 ∷ 1 ∷ 0 ∷ 2 ∷ 0 ∷ 1 ∷ 10 ∷ 1 ∷ 20 ∷ 1 ∷ 40 ∷ 0 ∷ 5 ∷ 1 ∷ 12 ∷ 1 ∷ 23 ∷ 1 ∷ 41 ∷ 1 ∷ 5 ∷ 0 ∷ []) (11 ∷ 0 ∷ [])
    ∷
    case (29 ∷ 25 ∷ 2000 ∷ 0 ∷ 200 ∷ 1 ∷ 1 ∷ 1 ∷ 1 ∷ 2 ∷ 0 ∷ 0 ∷ 1 ∷ 20 ∷ 1 ∷ 40 ∷ 0 ∷ 0 ∷ 1 ∷ 12 ∷ 1 ∷ 23 ∷ 1 ∷ 41 ∷ 0 ∷ 1 ∷ 0 ∷ []) (11 ∷ 0 ∷ [])
    ∷
    case (29 ∷ 43 ∷ 2000 ∷ 0 ∷ 200 ∷ 2 ∷ 1 ∷ 2 ∷ 1 ∷ 0 ∷ 1 ∷ 1 ∷ 0 ∷ 1 ∷ 20 ∷ 1 ∷ 40 ∷ 0 ∷ 5 ∷ 0 ∷ 2 ∷ 1 ∷ 0 ∷ 5 ∷ 0 ∷ 0 ∷ 0 ∷ 0 ∷ 0 ∷ 1 ∷ 0 ∷ 2 ∷ 2 ∷ 2 ∷ 2 ∷ 2 ∷ 2 ∷ 2 ∷ 2 ∷ 2 ∷ 1 ∷ 2 ∷ 2 ∷ 80 ∷ 81 ∷ []) (14 ∷ 0 ∷ [])
    ∷
    case (29 ∷ 41 ∷ 2000 ∷ 0 ∷ 200 ∷ 2 ∷ 1 ∷ 2 ∷ 1 ∷ 0 ∷ 1 ∷ 1 ∷ 0 ∷ 2 ∷ 20 ∷ 21 ∷ 2 ∷ 40 ∷ 41 ∷ 0 ∷ 5 ∷ 0 ∷ 1 ∷ 1 ∷ 0 ∷ 5 ∷ 0 ∷ 0 ∷ 0 ∷ 0 ∷ 0 ∷ 1 ∷ 0 ∷ 1 ∷ 2 ∷ 1 ∷ 2 ∷ 1 ∷ 2 ∷ 1 ∷ 2 ∷ 1 ∷ 80 ∷ []) (14 ∷ 0 ∷ [])
    ∷
    case (29 ∷ 41 ∷ 169 ∷ 0 ∷ 200 ∷ 2 ∷ 1 ∷ 2 ∷ 1 ∷ 0 ∷ 1 ∷ 1 ∷ 1 ∷ 10 ∷ 1 ∷ 20 ∷ 1 ∷ 40 ∷ 0 ∷ 5 ∷ 1 ∷ 60 ∷ 1 ∷ 1 ∷ 0 ∷ 5 ∷ 0 ∷ 0 ∷ 0 ∷ 0 ∷ 0 ∷ 1 ∷ 0 ∷ 1 ∷ 2 ∷ 1 ∷ 2 ∷ 1 ∷ 2 ∷ 1 ∷ 2 ∷ 1 ∷ 80 ∷ []) (20 ∷ 0 ∷ [])
    ∷
    case (29 ∷ 41 ∷ 170 ∷ 1 ∷ 200 ∷ 2 ∷ 1 ∷ 2 ∷ 1 ∷ 0 ∷ 1 ∷ 1 ∷ 1 ∷ 10 ∷ 1 ∷ 20 ∷ 1 ∷ 40 ∷ 0 ∷ 5 ∷ 1 ∷ 60 ∷ 1 ∷ 1 ∷ 0 ∷ 5 ∷ 0 ∷ 0 ∷ 0 ∷ 0 ∷ 0 ∷ 1 ∷ 0 ∷ 1 ∷ 2 ∷ 1 ∷ 2 ∷ 1 ∷ 2 ∷ 1 ∷ 2 ∷ 1 ∷ 80 ∷ []) (20 ∷ 0 ∷ [])
    ∷
    case (29 ∷ 41 ∷ 170 ∷ 0 ∷ 16777199 ∷ 2 ∷ 1 ∷ 2 ∷ 1 ∷ 0 ∷ 1 ∷ 1 ∷ 1 ∷ 10 ∷ 1 ∷ 20 ∷ 1 ∷ 40 ∷ 0 ∷ 5 ∷ 1 ∷ 60 ∷ 1 ∷ 1 ∷ 0 ∷ 5 ∷ 0 ∷ 0 ∷ 0 ∷ 0 ∷ 0 ∷ 1 ∷ 0 ∷ 1 ∷ 2 ∷ 1 ∷ 2 ∷ 1 ∷ 2 ∷ 1 ∷ 2 ∷ 1 ∷ 80 ∷ []) (21 ∷ 0 ∷ [])
    ∷
    case (29 ∷ 9 ∷ 0 ∷ 0 ∷ 1 ∷ 1 ∷ 0 ∷ 0 ∷ 0 ∷ 0 ∷ 0 ∷ []) (21 ∷ 0 ∷ [])
    ∷
    case (29 ∷ 43 ∷ 100000 ∷ 0 ∷ 100 ∷ 2 ∷ 1 ∷ 2 ∷ 2 ∷ 2 ∷ 1 ∷ 1 ∷ 0 ∷ 1 ∷ 5 ∷ 1 ∷ 6 ∷ 0 ∷ 2 ∷ 0 ∷ 2 ∷ 1 ∷ 0 ∷ 2 ∷ 0 ∷ 0 ∷ 0 ∷ 0 ∷ 0 ∷ 1 ∷ 0 ∷ 2 ∷ 2 ∷ 2 ∷ 2 ∷ 2 ∷ 2 ∷ 2 ∷ 1 ∷ 0 ∷ 1 ∷ 2 ∷ 2 ∷ 40 ∷ 41 ∷ []) (14 ∷ 0 ∷ [])
    ∷
    case (29 ∷ 51 ∷ 100000 ∷ 0 ∷ 100 ∷ 2 ∷ 1 ∷ 2 ∷ 2 ∷ 2 ∷ 2 ∷ 1 ∷ 0 ∷ 1 ∷ 5 ∷ 1 ∷ 6 ∷ 0 ∷ 2 ∷ 0 ∷ 1 ∷ 5 ∷ 1 ∷ 6 ∷ 1 ∷ 2 ∷ 0 ∷ 2 ∷ 1 ∷ 0 ∷ 2 ∷ 0 ∷ 0 ∷ 0 ∷ 0 ∷ 0 ∷ 1 ∷ 0 ∷ 2 ∷ 2 ∷ 2 ∷ 2 ∷ 2 ∷ 2 ∷ 2 ∷ 2 ∷ 2 ∷ 2 ∷ 2 ∷ 0 ∷ 2 ∷ 40 ∷ 41 ∷ []) (11 ∷ 0 ∷ [])
    ∷
    []

pub agreed : agree op29 cases ≡ true
unfolding ◌or_else◌ plain_controls new_flip_flop with_init with_enable flip_flop_of wide_log2 write_wide_log2 read_wide_log2 write_at read_at_of output_len output_start output_slice with_output with_reads with_flip_flop held is_transparent transparent_from transparent_ports too_large unequal bad_data_len bad_addr_len bad_write_shape bad_trit_lens bad_flip_flop_shape bad_read_shape bad_shape bad_output_len indivisible bad_depth bad_value bad_control bad_trits bad_controls bad_write_nets bad_relation bad_flip_flop_nets bad_read_nets bad_nets write_clocks_differ too_few_bits short_pair short_port short_ports log_full no_room_of nets_full can_lower_fallback max_wide_log2 fallback_plan write_muxes row_flip_flop row_value drive_outputs lower_rows lower_fallback fallback_scratch layout_of soft_bits soft row_len_of full_depth_of full_chunks part_depth_of all_chunks full_mems all_mems columns to_chunk hard_left under walk spot_of column place_of depth_at rows_before mem_start trits image_size flat_at flat index_of put put_row write_row row_of write_rows layout image_of entry flag dff_operands encode words ◌>>=◌ ◌>>◌ done request add_void_of add_or_of mux_by add_mux_of add_eq_of add_shl_of add_ushr_of add_dff_of replace_value_of start_net added state_after undef are_trits spread add_dedup_mux_of longer runs mux_runs add_bitwise_mux_of ceil_div softs top_bits bits_for largest narrower_select seen_wider seen_narrower seen overlaid_mask transparency_mux transparencies unmap_dff unmap_read_dff_of unmap_read_dff unmap_each unmap_all is_empty room_refusal log_refusal mem_number driving_number lower_fallback_number lower_fallback_refusal role_of is_chunk is_row doubles wide_after rows_after roles low_roles row_nets mux_nets mux_roles spot_by count_doubles split_by split_addr piece_start old_rows new_rows sources arrange repeating restore store_rows store_piece store_each load_piece mem_part blank piece_mask mask_pieces swizzle_write swizzle_writes write_part pair_up mux_tree add_voids clocked_addr const_columns wide_flip_flop swizzle_read swizzle_reads flip_flop_part read_part mem_depth result_mem swizzle_rows swizzle_empty swizzle net_of_trit of_const from_uint x_nets zext is_cell_net good_net good_value same_control good_control control_words give many word words_of list test control option log controls flip_flop write_port read_flip_flop read_port memory reply as_list log_out op29 agrees agree Rattle.rules_trial.specs.Read.◌>>=◌
agreed = refl
