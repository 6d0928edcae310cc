-- The starred examples hold, all of them: one sentence, which antt computes. Made by scripts/sample.py.
use mathlib.Core.Path.{◌≡◌, refl}
use mathlib.Core.Bool.{true}
use Rattle.lists.specs.Choice.{◌or_else◌}
use Rattle.rules.specs.Cell.{plain_controls, new_flip_flop, with_enable, flip_flop_of, wide_log2, write_wide_log2, read_wide_log2, write_at, read_at_of, output_len, output_start, output_slice, with_output, with_reads, with_flip_flop, held, is_transparent, transparent_from, transparent_ports}
use Rattle.rules.specs.Conditions.{too_large, plan_too_large, long_list, unequal, bad_data_len, bad_addr_len, bad_write_shape, bad_trit_lens, bad_flip_flop_shape, bad_read_shape, bad_shape, bad_output_len, indivisible, bad_depth, bad_value, bad_control, bad_trits, bad_controls, bad_write_nets, bad_relation, bad_flip_flop_nets, bad_read_nets, bad_nets, bad_granularities, row_too_long, times, bad_entry, bad_names, bad_entries, bad_soft_mask, bad_wide, bad_writes, bad_reads, all_reads, result_too_large, image_too_large, too_few_bits, short_pair, short_port, short_ports, not_below, bad_port, log_full, no_room_of, nets_full}
use Rattle.rules.specs.Examples.{depths_of, mux_bits_of, swizzle_of, holds, all_hold, starred}
use Rattle.rules.specs.Geometry.{mask_slice, changing, aligned, padding, padded, swizzle_from, make_data_swizzle, layout_of, soft_bits, soft, row_len_of, full_depth_of, full_chunks, part_depth_of, all_chunks, full_mems, all_mems, columns, swizzle_depths, chunk_mux_bits, to_chunk, hard_left, under, walk}
use Rattle.rules.specs.Image.{spot_of, column, place_of, depth_at, rows_before, mem_start, trits, image_size, flat_at, flat, index_of, put, put_row, write_row, row_of, write_rows, layout, image_of}
use Rattle.rules.specs.Log.{entry, flag, dff_operands, encode, words, ◌>>=◌, ◌>>◌, done, request, add_void_of, add_or_of, mux_by, add_mux_of, add_eq_of, add_shl_of, add_ushr_of, add_dff_of, replace_value_of, start_net, added}
use Rattle.rules.specs.Logic.{undef, are_trits}
use Rattle.rules.specs.Merge.{spread, add_dedup_mux_of, longer, runs, mux_runs, add_bitwise_mux_of}
use Rattle.rules.specs.Numbers.{ceil_div, softs, top_bits, bits_for, largest}
use Rattle.rules.specs.Ports.{narrower_select, seen_wider, seen_narrower, seen, overlaid_mask, transparency_mux, transparencies, unmap_dff, unmap_read_dff_of, unmap_read_dff, unmap_each, unmap_all, is_empty}
use Rattle.rules.specs.Refusals.{room_refusal, log_refusal, mem_number, mem_refusal, driving_number, make_data_swizzle_refusal, plan_number, wide_number, image_number, whole_plan, planned_number, swizzle_depths_refusal, swizzle_mux_bits_refusal, swizzle_plan_number, swizzle_number, image_refusal, results_refusal, swizzle_refusal}
use Rattle.rules.specs.Swizzle.{role_of, is_chunk, is_row, doubles, wide_after, rows_after, roles, low_roles, row_nets, mux_nets, mux_roles, spot_by, count_doubles, split_by, split_addr, piece_start, old_rows, new_rows, sources, arrange, repeating, restore, store_rows, store_piece, store_each, load_piece, mem_part, blank, piece_mask, mask_pieces, swizzle_write, swizzle_writes, write_part, pair_up, mux_tree, add_voids, clocked_addr, const_columns, wide_flip_flop, swizzle_read, swizzle_reads, flip_flop_part, read_part, mem_depth, result_mem, swizzle_rows, swizzle_empty, swizzle, shared_write, shared_nets, shared_read, shared_trits, piece_nets, swizzle_scratch}
use Rattle.rules.specs.Value.{from_uint, x_nets, zext, is_cell_net, good_net, good_value, good_control, control_words}

pub starred_hold : all_hold starred ≡ true
unfolding ◌or_else◌ plain_controls new_flip_flop with_enable flip_flop_of wide_log2 write_wide_log2 read_wide_log2 write_at read_at_of output_len output_start output_slice with_output with_reads with_flip_flop held is_transparent transparent_from transparent_ports too_large plan_too_large long_list unequal bad_data_len bad_addr_len bad_write_shape bad_trit_lens bad_flip_flop_shape bad_read_shape bad_shape bad_output_len indivisible bad_depth bad_value bad_control bad_trits bad_controls bad_write_nets bad_relation bad_flip_flop_nets bad_read_nets bad_nets bad_granularities row_too_long times bad_entry bad_names bad_entries bad_soft_mask bad_wide bad_writes bad_reads all_reads result_too_large image_too_large too_few_bits short_pair short_port short_ports not_below bad_port log_full no_room_of nets_full depths_of mux_bits_of swizzle_of holds mask_slice changing aligned padding padded swizzle_from make_data_swizzle layout_of soft_bits soft row_len_of full_depth_of full_chunks part_depth_of all_chunks full_mems all_mems columns swizzle_depths chunk_mux_bits to_chunk hard_left under walk spot_of column place_of depth_at rows_before mem_start trits image_size flat_at flat index_of put put_row write_row row_of write_rows layout image_of entry flag dff_operands encode words ◌>>=◌ ◌>>◌ done request add_void_of add_or_of mux_by add_mux_of add_eq_of add_shl_of add_ushr_of add_dff_of replace_value_of start_net added undef are_trits spread add_dedup_mux_of longer runs mux_runs add_bitwise_mux_of ceil_div softs top_bits bits_for largest narrower_select seen_wider seen_narrower seen overlaid_mask transparency_mux transparencies unmap_dff unmap_read_dff_of unmap_read_dff unmap_each unmap_all is_empty room_refusal log_refusal mem_number mem_refusal driving_number make_data_swizzle_refusal plan_number wide_number image_number whole_plan planned_number swizzle_depths_refusal swizzle_mux_bits_refusal swizzle_plan_number swizzle_number image_refusal results_refusal swizzle_refusal role_of is_chunk is_row doubles wide_after rows_after roles low_roles row_nets mux_nets mux_roles spot_by count_doubles split_by split_addr piece_start old_rows new_rows sources arrange repeating restore store_rows store_piece store_each load_piece mem_part blank piece_mask mask_pieces swizzle_write swizzle_writes write_part pair_up mux_tree add_voids clocked_addr const_columns wide_flip_flop swizzle_read swizzle_reads flip_flop_part read_part mem_depth result_mem swizzle_rows swizzle_empty swizzle shared_write shared_nets shared_read shared_trits piece_nets swizzle_scratch from_uint x_nets zext is_cell_net good_net good_value good_control control_words all_hold starred
starred_hold = refl
