-- The conditions of document 01's numbers, in their order. `next` is the next free net; a call without the log state takes its limit.
use Rattle.std.specs.Prelude.{ℕ, suc, ◌+◌, ◌-◌, ◌*◌, ◌%◌, ◌^◌, min, Bool, false, ◌&&◌, ◌||◌, not, List, [], ◌∷◌, ◌++◌, length, drop, eqb, ltb, leb}
use Rattle.rules.specs.Limits.{max_depth, max_width, max_bits, max_ports, max_wide, addr_bits, max_row, max_unit, max_hard, max_mask, max_granularity, max_merge, max_columns, max_image, max_nets, max_partial, None, record_mark, head_bytes, max_words}
use Rattle.lists.specs.Choice.{when◌then◌else◌}
use Rattle.lists.specs.Lists.{any, sum_by, pairs, up_from}
use Rattle.rules.specs.Numbers.{softs, top_bits}
use Rattle.rules.specs.Logic.{Const, are_trits}
use Rattle.rules.specs.Value.{Value, first_cell, good_value, Control, same_control, good_control}
use Rattle.rules.specs.Cell.{Controls, Relation, Transparent, WritePort, ReadFlipFlop, ReadPort, Mem, Plan, wide_log2, write_wide_log2, read_wide_log2, write_at, read_at_of, output_len, is_some, held, flip_flops, is_transparent, is_read_before_write, transparent_ports}
use Rattle.rules.specs.Log.{flag, LogState}
use Rattle.rules.specs.Ports.{relates_to}
use Rattle.rules.specs.Geometry.{make_data_swizzle, Layout, row_len_of, columns}
use Rattle.rules.specs.Image.{trits}
use Rattle.rules.specs.Fallback.{can_lower_fallback}
use Rattle.rules.specs.Record.{Sizes, size_mems, size_trits, word_at, head_sizes, record_bytes, known_bits, value_bits, bit_pairs}

-- ---- 1 a size or a list
unfoldable pub too_large : Mem → Bool
too_large m =
    ltb max_depth m.depth
    || (ltb max_width m.width
    || (ltb max_bits (m.depth * m.width)
    || (ltb max_ports (length m.writes)
    || ltb max_ports (length m.reads))))

unfoldable pub plan_too_large : Plan → Bool
plan_too_large p =
    ltb max_row (length p.entries)
    || (eqb p.unit 0
    || (ltb max_unit p.unit
    || (ltb max_hard p.hard
    || (any (ltb max_wide) p.write_wide
    || (any (ltb max_wide) p.read_wide_of
    || ltb max_mask p.soft_mask)))))

unfoldable pub long_list : List ℕ → Bool
long_list l = ltb max_ports (length l)

unfoldable pub long_value : Value → Bool
long_value v = ltb max_merge (length v)

-- ---- 2 a shape
unfoldable pub unequal : List ℕ → List ℕ → Bool
unequal a b = not (eqb (length a) (length b))

-- data of this size is not width × 2^k with k to 4
unfoldable pub bad_data_len : ℕ → ℕ → Bool
bad_data_len width size = not (eqb size (width * 2 ^ wide_log2 width size)) || ltb max_wide (wide_log2 width size)

unfoldable pub bad_addr_len : Value → ℕ → Bool
bad_addr_len addr k = ltb addr_bits (length addr + k)

unfoldable pub bad_write_shape : Mem → WritePort → Bool
bad_write_shape m p = bad_data_len m.width (length p.bits) || (unequal p.mask p.bits || bad_addr_len p.addr (write_wide_log2 m p))

unfoldable pub bad_trit_lens : ℕ → Const → Const → Const → Bool
bad_trit_lens n a b c = not (eqb (length a) n) || (not (eqb (length b) n) || not (eqb (length c) n))

unfoldable pub bad_flip_flop_shape : Mem → ℕ → ReadFlipFlop → Bool
bad_flip_flop_shape m n f =
    bad_trit_lens n f.clear_value f.reset_value f.init_value || not (eqb (length f.relations) (length m.writes))

unfoldable pub bad_read_shape : Mem → ReadPort → Bool
bad_read_shape m p =
    bad_data_len m.width p.data_len || (bad_addr_len p.addr (read_wide_log2 m p) || any (bad_flip_flop_shape m p.data_len) (held p.flip_flop))

unfoldable pub bad_shape : Mem → Bool
bad_shape m =
    not (eqb (length m.init) (m.depth * m.width)) || (any (bad_write_shape m) m.writes || any (bad_read_shape m) m.reads)

unfoldable pub bad_output_len : Mem → Value → Bool
bad_output_len m output = not (eqb (length output) (output_len m))

-- ---- 3 the depth against a port's 2^k
unfoldable pub indivisible : ℕ → ℕ → Bool
indivisible depth k = not (eqb (depth % 2 ^ k) 0)

unfoldable pub bad_depth : Mem → Bool
bad_depth m =
    any (λ p. indivisible m.depth (write_wide_log2 m p)) m.writes || any (λ p. indivisible m.depth (read_wide_log2 m p)) m.reads

-- ---- 4 a net, a control or a trit code
unfoldable pub bad_value : ℕ → Value → Bool
bad_value next v = not (good_value next v)

unfoldable pub bad_control : ℕ → Control → Bool
bad_control next c = not (good_control next c)

unfoldable pub bad_trits : Const → Bool
bad_trits t = not (are_trits t)

unfoldable pub bad_controls : ℕ → Controls → Bool
bad_controls next c = bad_control next c.clock || (bad_control next c.clear || (bad_control next c.reset || bad_control next c.enable))

unfoldable pub bad_write_nets : ℕ → WritePort → Bool
bad_write_nets next p = bad_value next p.addr || (bad_value next p.bits || (bad_value next p.mask || bad_control next p.clock))

-- a relation's code
unfoldable pub bad_relation : Relation → Bool
bad_relation r = ltb Transparent r

unfoldable pub bad_flip_flop_nets : ℕ → ReadFlipFlop → Bool
bad_flip_flop_nets next f =
    bad_controls next f.controls
    || (bad_trits f.clear_value || (bad_trits f.reset_value || (bad_trits f.init_value || any bad_relation f.relations)))

unfoldable pub bad_read_nets : ℕ → ReadPort → Bool
bad_read_nets next p = bad_value next p.addr || any (bad_flip_flop_nets next) (held p.flip_flop)

unfoldable pub bad_nets : ℕ → Mem → Bool
bad_nets next m = bad_trits m.init || (any (bad_write_nets next) m.writes || any (bad_read_nets next) m.reads)

-- ---- 5 granularities
unfoldable pub bad_granularities : Mem → List ℕ → Bool
bad_granularities m gs = not (eqb (length gs) (length m.writes)) || any (λ g. eqb g 0 || ltb max_granularity g) gs

-- ---- 6 the padded row
unfoldable pub row_too_long : Mem → List ℕ → Bool
row_too_long m gs = ltb max_row (length (make_data_swizzle m gs))

-- ---- 7 entries: a bit not below the width, or a bit not named exactly once
unfoldable pub times : ℕ → List ℕ → ℕ
times b es = sum_by (λ e. flag (eqb e b)) es

unfoldable pub bad_entry : ℕ → ℕ → Bool
bad_entry width e = not (eqb e None) && leb width e

unfoldable pub bad_names : ℕ → List ℕ → Bool
bad_names width es = any (bad_entry width) es

unfoldable pub bad_entries : ℕ → List ℕ → Bool
bad_entries width es = bad_names width es || any (λ b. not (eqb (times b es) 1)) (up_from 0 width)

-- ---- 8 the depth against the top soft bit; mask 0 never
unfoldable pub bad_soft_mask : Mem → Plan → Bool
bad_soft_mask m p = indivisible m.depth (top_bits addr_bits p.soft_mask)

-- ---- 9 new wide logs
-- above the hard bits, or below the non-soft bits under the old k
unfoldable pub bad_wide : Plan → ℕ → ℕ → Bool
bad_wide p old new = ltb p.hard new || ltb new (old - softs old p.soft_mask)

unfoldable pub bad_writes : Mem → Plan → Bool
bad_writes m p =
    not (eqb (length p.write_wide) (length m.writes)) || any (λ x. bad_wide p (write_wide_log2 m x.0) x.1) (pairs m.writes p.write_wide)

-- of the read ports in a list; one that is out of range has no old k
unfoldable pub bad_reads : Mem → List ℕ → Plan → Bool
bad_reads m ports p =
    not (eqb (length p.read_wide_of) (length ports)) || any (λ x. bad_wide p (read_wide_log2 m (read_at_of m x.0)) x.1) (pairs ports p.read_wide_of)

unfoldable pub all_reads : Mem → List ℕ
all_reads m = up_from 0 (length m.reads)

-- ---- 10 the result
unfoldable pub result_too_large : Layout → Bool
result_too_large q = ltb max_columns (columns q) || ltb max_image (trits q)

-- of a swizzle: a memory of width 0 gives no memories, so nothing that is too large
unfoldable pub image_too_large : Layout → Bool
image_too_large q = not (eqb q.width 0) && result_too_large q

-- ---- 11 write clocks
unfoldable pub write_clocks_differ : Mem → Bool
write_clocks_differ m = not (can_lower_fallback m)

-- ---- 12 read flip-flop clocks, among the ports that have one
unfoldable pub clocks_differ : List ReadFlipFlop → Bool
clocks_differ [] = false
clocks_differ (f ∷ fs) = any (λ g. not (same_control g.controls.clock f.controls.clock)) fs

unfoldable pub read_clocks_differ : Mem → Bool
read_clocks_differ m = clocks_differ (flip_flops m.reads)

-- ---- 13 both relations to one write port
unfoldable pub mixed_relations : Mem → Bool
mixed_relations m = any (λ j. relates_to is_read_before_write m j && relates_to is_transparent m j) (up_from 0 (length m.writes))

-- ---- 14 the narrower port of a pair has too few address bits
unfoldable pub too_few_bits : ℕ → ℕ → Value → Value → Bool
too_few_bits kw kr waddr raddr = ltb (length waddr) (kr - kw) || ltb (length raddr) (kw - kr)

unfoldable pub short_pair : Mem → ReadPort → ℕ → Bool
short_pair m r j = too_few_bits (write_wide_log2 m (write_at m j)) (read_wide_log2 m r) (write_at m j).addr r.addr

-- of a port's transparent pairs; a port that is out of range has none
unfoldable pub short_port : Mem → ReadPort → Bool
short_port m r = any (λ f. any (short_pair m r) (transparent_ports f)) (held r.flip_flop)

unfoldable pub short_ports : Mem → Bool
short_ports m = any (short_port m) m.reads

-- ---- 15 a port or a row
unfoldable pub not_below : ℕ → ℕ → Bool
not_below n i = leb n i

unfoldable pub bad_port : Mem → ℕ → Bool
bad_port m i = not_below (length m.reads) i

-- ---- 16 a record's first word, or its length: of a record that starts with these bytes and is `total` bytes long
unfoldable pub bad_head : List ℕ → ℕ → Bool
bad_head first total =
    ltb (length first) head_bytes || (not (eqb (word_at first 0) record_mark) || not (eqb total (record_bytes (head_sizes first))))

-- ---- 17 a record's sizes
unfoldable pub is_power : ℕ → Bool
is_power n = any (λ e. eqb n (2 ^ e)) (up_from 0 (suc max_hard))

unfoldable pub bad_unit : Sizes → Bool
bad_unit s = eqb s.unit 0 || ltb max_unit s.unit

-- a depth is 0 exactly when its count is
unfoldable pub unlike : ℕ → ℕ → Bool
unlike count depth = not (when eqb count 0 then eqb depth 0 else ltb 0 depth)

unfoldable pub bad_depths : Sizes → Bool
bad_depths s =
    unlike s.full s.full_depth_of
    || (unlike s.partial s.partial_depth
    || (not (eqb s.full 0) && not (is_power s.full_depth_of)
    || (ltb max_depth s.full_depth_of
    || (ltb max_partial s.partial_depth
    || not (eqb s.full 0) && (not (eqb s.partial 0) && leb s.full_depth_of s.partial_depth)))))

unfoldable pub bad_sizes : Sizes → Bool
bad_sizes s = bad_unit s || (bad_depths s || (ltb max_columns (size_mems s * s.unit) || ltb max_image (size_trits s)))

-- ---- 18 a value bit without its known bit, or a spare bit
-- the spare bits of both arrays
unfoldable pub spare_bits : List ℕ → List ℕ
spare_bits bytes = drop (size_trits (head_sizes bytes)) (known_bits bytes) ++ drop (size_trits (head_sizes bytes)) (value_bits bytes)

unfoldable pub bad_bits : List ℕ → Bool
bad_bits bytes = any (λ p. ltb p.0 p.1) (bit_pairs bytes) || any (eqb 1) (spare_bits bytes)

-- ---- 20 so many words of the log, or another result, do not fit the lent room
unfoldable pub log_full : ℕ → LogState → ℕ → Bool
log_full room s words = ltb (min room max_words) (s.used + words)

unfoldable pub no_room_of : ℕ → ℕ → Bool
no_room_of room need = ltb room need

-- ---- 21 the next free net, before and after so many nets
unfoldable pub nets_full : LogState → ℕ → Bool
nets_full s nets = ltb s.next first_cell || ltb max_nets (s.next + nets)

-- ---- 22 a flip-flop is needed
unfoldable pub unclocked : ReadPort → Bool
unclocked p = not (is_some p.flip_flop)

-- ---- 23 no swizzle was accepted yet: the laid-out state is none, or a layout that no accepted swizzle has
-- 1, of what a layout holds
unfoldable pub bad_layout_sizes : ℕ → ℕ → ℕ → ℕ → ℕ → Bool
bad_layout_sizes depth width len unit hard =
    ltb max_depth depth
    || (ltb max_width width
    || (ltb max_bits (depth * width)
    || (ltb max_row len || (eqb unit 0 || (ltb max_unit unit || ltb max_hard hard)))))

-- 1, 7, 8 and 10 of a swizzle with this layout
unfoldable pub bad_layout : Layout → Bool
bad_layout q =
    bad_layout_sizes q.depth q.width (row_len_of q) q.unit q.hard
    || (bad_entries q.width q.entries
    || (indivisible q.depth (top_bits addr_bits q.soft_mask)
    || (image_too_large q || ltb max_mask q.soft_mask)))
