-- For each call the number that refuses it, 0 where none does: the conditions in document 01's order.
-- A name that ends in `Number` gives numbers for the input alone (1 to 18), one that ends in `Refusal` all that concern its call or its part, those for
-- the state (20 to 23) among them. Numbers for the input come first, then 22, 20 and 21; a patch tries 23 before all others.
use Rattle.std.specs.Prelude.{ℕ, ◌-◌, ◌≡◌, Bool, false, ◌&&◌, ◌||◌, not, List, [], ◌∷◌, length, eqb, ltb, leb}
use Rattle.std.proofs.Math.Option.{none, some}
use Rattle.lists.specs.Choice.{when◌then◌else◌, ◌or_else◌}
use Rattle.lists.specs.Lists.{any}
use Rattle.rules.specs.Limits.{max_nets}
use Rattle.rules.specs.Logic.{Const}
use Rattle.rules.specs.Value.{Value, net_of_cell, Control, good_select}
use Rattle.rules.specs.Cell.{Controls, FlipFlop, ReadPort, Mem, Given, Plan, read_at_of, held, flat_nets, flat_trits}
use Rattle.rules.specs.Log.{Trace, start_net, added, add_void_of, add_not_of, add_mux_of, add_dff_of, into_pos_of, remap_reset_over_enable_of, LogState}
use Rattle.rules.specs.Merge.{add_dedup_mux_of, add_dedup_dff_of, add_bitwise_mux_of}
use Rattle.rules.specs.Ports.{Overlay, transparency_mux, Driving, extract_read_ports, unmap_read_dff, unmap_read_init_reset_transparency, emulate_read_before_write}
use Rattle.rules.specs.Geometry.{make_data_swizzle, Layout, layout_of, all_mems}
use Rattle.rules.specs.Image.{image_size, Laid, Patch}
use Rattle.rules.specs.Swizzle.{swizzle, shared_nets, shared_trits, swizzle_scratch}
use Rattle.rules.specs.Fallback.{lower_fallback, fallback_scratch}
use Rattle.rules.specs.Record.{Sizes, size_mems, size_trits, record_image, encode_record, head_sizes, record_bytes, decode_image}
use Rattle.rules.specs.Conditions.{too_large, plan_too_large, long_list, long_value, unequal, bad_data_len, bad_trit_lens, bad_shape, bad_output_len, bad_depth, bad_value, bad_control, bad_trits, bad_controls, bad_nets, bad_granularities, row_too_long, bad_entries, bad_soft_mask, bad_writes, bad_reads, all_reads, result_too_large, image_too_large, write_clocks_differ, read_clocks_differ, mixed_relations, too_few_bits, short_pair, short_port, short_ports, not_below, bad_port, bad_head, bad_sizes, bad_bits, log_full, no_room_of, nets_full, unclocked}

-- ---- leaves
unfoldable pub trit_refusal : ℕ → ℕ
trit_refusal code = when bad_trits (code ∷ []) then 4 else 0

unfoldable pub const_not_refusal : ℕ → Const → ℕ
const_not_refusal room a = when bad_trits a then 4 else when no_room_of room (length a) then 20 else 0

-- const_and and const_or
unfoldable pub const_pair_refusal : ℕ → Const → Const → ℕ
const_pair_refusal room a b =
    when unequal a b then 2 else when bad_trits a || bad_trits b then 4 else when no_room_of room (length a) then 20 else 0

unfoldable pub is_undef_refusal : Const → ℕ
is_undef_refusal a = when bad_trits a then 4 else 0

-- a control without the log state: its inverse, is_always
unfoldable pub control_refusal : Control → ℕ
control_refusal c = when bad_control max_nets c then 4 else 0

unfoldable pub wide_log2_refusal : ℕ → ℕ → ℕ
wide_log2_refusal width size = when bad_data_len width size then 2 else 0

-- const_slice and value_slice
unfoldable pub slice_refusal : ℕ → ℕ → ℕ → ℕ
slice_refusal start end size = when ltb end start || ltb size end then 15 else 0

-- a value's nets without the log state: its undef test
unfoldable pub value_refusal : Value → ℕ
value_refusal v = when bad_value max_nets v then 4 else 0

-- zext to n nets
unfoldable pub zext_refusal : ℕ → Value → ℕ → ℕ
zext_refusal room v n = when ltb n (length v) then 2 else when bad_value max_nets v then 4 else when no_room_of room n then 20 else 0

unfoldable pub net_of_cell_refusal : ℕ → ℕ
net_of_cell_refusal c = when leb max_nets (net_of_cell c) then 4 else 0

unfoldable pub narrower_select_refusal : ℕ → ℕ → Value → Value → ℕ
narrower_select_refusal kw kr waddr raddr = when too_few_bits kw kr waddr raddr then 14 else 0

-- ---- the log: 20 and 21, last of all
unfoldable pub room_refusal : ℕ → LogState → ℕ → ℕ → ℕ
room_refusal room s words nets = when log_full room s words then 20 else when nets_full s nets then 21 else 0

module _ {A : Type 0} where
  -- for the words and nets that a trace gives
  unfoldable pub log_refusal : ℕ → LogState → Trace A → ℕ
  log_refusal room s t = room_refusal room s (length (added (t (start_net s)))) ((t (start_net s)).next - start_net s)

-- ---- requests
unfoldable pub add_void_refusal : ℕ → LogState → ℕ → ℕ
add_void_refusal room s width = log_refusal room s (add_void_of width)

unfoldable pub value_number : ℕ → Value → ℕ
value_number next a = when bad_value next a then 4 else 0

unfoldable pub add_not_refusal : ℕ → LogState → Value → ℕ
add_not_refusal room s a = value_number s.next a or_else log_refusal room s (add_not_of a)

-- and, or, eq and replace
unfoldable pub pair_number : ℕ → Value → Value → ℕ
pair_number next a b = when unequal a b then 2 else when bad_value next a || bad_value next b then 4 else 0

unfoldable pub add_pair_refusal : {A : Type 0} → (Value → Value → Trace A) → ℕ → LogState → Value → Value → ℕ
add_pair_refusal add room s a b = pair_number s.next a b or_else log_refusal room s (add a b)

-- shl and ushr
unfoldable pub shift_number : ℕ → Value → Value → ℕ
shift_number next select a = when bad_value next select || bad_value next a then 4 else 0

unfoldable pub add_shift_refusal : (ℕ → Value → Value → Trace Value) → ℕ → LogState → ℕ → Value → Value → ℕ
add_shift_refusal add room s stride select a = shift_number s.next select a or_else log_refusal room s (add stride select a)

-- mux, and its merging kind
unfoldable pub mux_number : ℕ → Control → Value → Value → ℕ
mux_number next c a b =
    when long_value a || long_value b then 1
    else when unequal a b then 2
    else when not (good_select next c) || (bad_value next a || bad_value next b) then 4
    else 0

unfoldable pub add_mux_refusal : ℕ → LogState → Control → Value → Value → ℕ
add_mux_refusal room s c a b = mux_number s.next c a b or_else log_refusal room s (add_mux_of c a b)

unfoldable pub bad_flip_flop_lens : FlipFlop → Bool
bad_flip_flop_lens f = bad_trit_lens (length f.bits) f.clear_value f.reset_value f.init_value

unfoldable pub bad_flip_flop : ℕ → FlipFlop → Bool
bad_flip_flop next f =
    bad_value next f.bits || (bad_controls next f.controls || (bad_trits f.clear_value || (bad_trits f.reset_value || bad_trits f.init_value)))

unfoldable pub dff_number : ℕ → FlipFlop → ℕ
dff_number next f = when bad_flip_flop_lens f then 2 else when bad_flip_flop next f then 4 else 0

unfoldable pub add_dff_refusal : ℕ → LogState → FlipFlop → ℕ
add_dff_refusal room s f = dff_number s.next f or_else log_refusal room s (add_dff_of f)

-- ---- lent room for another result
-- 20 for so many elements
abbrev pub lent_refusal : ℕ → ℕ → ℕ
lent_refusal room need = when no_room_of room need then 20 else 0

-- ---- merges: the result's nets are lent room too
unfoldable pub result_refusal : ℕ → Value → ℕ
result_refusal out a = lent_refusal out (length a)

unfoldable pub add_dedup_mux_refusal : ℕ → ℕ → LogState → Control → Value → Value → ℕ
add_dedup_mux_refusal out room s c a b =
    mux_number s.next c a b or_else result_refusal out a or_else log_refusal room s (add_dedup_mux_of c a b)

unfoldable pub merge_dff_number : ℕ → FlipFlop → ℕ
merge_dff_number next f = when long_value f.bits then 1 else dff_number next f

unfoldable pub add_dedup_dff_refusal : ℕ → ℕ → LogState → FlipFlop → ℕ
add_dedup_dff_refusal out room s f =
    merge_dff_number s.next f or_else result_refusal out f.bits or_else log_refusal room s (add_dedup_dff_of f)

-- 1 and 2 of a bitwise mux, by the lengths of its values alone
unfoldable pub bitwise_lens_number : Value → Value → Value → ℕ
bitwise_lens_number c a b = when long_value c || (long_value a || long_value b) then 1 else when unequal c a || unequal c b then 2 else 0

unfoldable pub bitwise_number : ℕ → Value → Value → Value → ℕ
bitwise_number next c a b = bitwise_lens_number c a b or_else (when bad_value next c || (bad_value next a || bad_value next b) then 4 else 0)

unfoldable pub add_bitwise_mux_refusal : ℕ → ℕ → LogState → Value → Value → Value → ℕ
add_bitwise_mux_refusal out room s c a b =
    bitwise_number s.next c a b or_else result_refusal out a or_else log_refusal room s (add_bitwise_mux_of c a b)

-- ---- what the records ask for
unfoldable pub control_number : ℕ → Control → ℕ
control_number next c = when bad_control next c then 4 else 0

unfoldable pub into_pos_refusal : ℕ → LogState → Control → ℕ
into_pos_refusal room s c = control_number s.next c or_else log_refusal room s (into_pos_of c)

unfoldable pub remap_number : ℕ → Controls → ℕ
remap_number next c = when bad_control next c.reset || bad_control next c.enable then 4 else 0

unfoldable pub remap_reset_over_enable_refusal : ℕ → LogState → Controls → ℕ
remap_reset_over_enable_refusal room s c = remap_number s.next c or_else log_refusal room s (remap_reset_over_enable_of c)

-- ---- rooms for a memory
-- rooms for a memory, in two arrays, and for the outputs that it drives
pub record Rooms : Type 0 where
  pub nets : ℕ
  pub trits : ℕ
  pub output : ℕ

unfoldable pub no_rooms : Rooms → Driving → Bool
no_rooms r d =
    no_room_of r.nets (length (flat_nets d.memory)) || (no_room_of r.trits (length (flat_trits d.memory)) || no_room_of r.output (length d.output))

unfoldable pub driving_refusal : Rooms → Driving → ℕ
driving_refusal r d = when no_rooms r d then 20 else 0

-- ---- a memory: 1 to 4, each with what else of the call breaks it
-- 2, 3 or 4 by their tests
abbrev pub number_by_of : Bool → Bool → Bool → ℕ
number_by_of shape depth nets = when shape then 2 else when depth then 3 else when nets then 4 else 0

unfoldable pub mem_number : Bool → Bool → Bool → ℕ → Given → ℕ
mem_number one two four next g =
    when too_large g.mem || (g.extra_ports || one) then 1
    else number_by_of (bad_shape g.mem || (g.wrong_lens || two)) (bad_depth g.mem) (bad_nets next g.mem || four)

-- a call that has only the memory
unfoldable pub mem_refusal : Given → ℕ
mem_refusal g = mem_number false false false max_nets g

-- the memory and the nets that its outputs drive, with what else of the call breaks 1
unfoldable pub driving_number : Bool → ℕ → Given → Value → ℕ
driving_number one next g output = mem_number one (bad_output_len g.mem output) (bad_value next output) next g

unfoldable pub port_number : Mem → ℕ → ℕ
port_number m i = when bad_port m i then 15 else 0

-- output_len is memRefusal's; read_port_output_slice
unfoldable pub output_slice_refusal : Given → ℕ → ℕ
output_slice_refusal g i = mem_refusal g or_else port_number g.mem i

-- ---- calls on ports
-- the values of an overlay
unfoldable pub overlay_values : Overlay → List Value
overlay_values o = o.bits ∷ held o.mask

-- one is not as long as the port's data; a port out of range is 15's
unfoldable pub bad_overlay_lens : Mem → ℕ → Overlay → Bool
bad_overlay_lens m i o = not (bad_port m i) && any (λ v. not (eqb (length v) (read_at_of m i).data_len)) (overlay_values o)

unfoldable pub no_pair : Mem → ℕ → ℕ → Bool
no_pair m i j = bad_port m i || not_below (length m.writes) j

unfoldable pub pair_ports_number : Mem → ℕ → ℕ → ℕ
pair_ports_number m i j = when not (no_pair m i j) && short_pair m (read_at_of m i) j then 14 else when no_pair m i j then 15 else 0

unfoldable pub transparency_mux_number : ℕ → Given → ℕ → ℕ → Overlay → ℕ
transparency_mux_number next g i j o =
    mem_number (any long_value (overlay_values o)) (bad_overlay_lens g.mem i o) (any (bad_value next) (overlay_values o)) next g
    or_else pair_ports_number g.mem i j

-- rooms for the data and for the mask after, which are as long as the port's data
pub record OverlayRooms : Type 0 where
  pub bits : ℕ
  pub mask : ℕ

unfoldable pub overlay_refusal : OverlayRooms → ℕ → Overlay → ℕ
overlay_refusal r n o = when no_room_of r.bits n || any (λ k. no_room_of r.mask n) (held o.mask) then 20 else 0

unfoldable pub transparency_mux_refusal : OverlayRooms → ℕ → LogState → Given → ℕ → ℕ → Overlay → ℕ
transparency_mux_refusal r room s g i j o =
    transparency_mux_number s.next g i j o
    or_else overlay_refusal r (read_at_of g.mem i).data_len o
    or_else log_refusal room s (transparency_mux g.mem i j o)

unfoldable pub extract_read_ports_refusal : Rooms → Given → List ℕ → Value → ℕ
extract_read_ports_refusal r g ports output =
    driving_number (long_list ports) max_nets g output
    or_else (when any (bad_port g.mem) ports then 15 else driving_refusal r (extract_read_ports g.mem ports output))

-- 20 and 21 of a call that changes a memory and its outputs: the room for them, and the log
unfoldable pub driven_refusal : Rooms → ℕ → LogState → Trace Driving → ℕ
driven_refusal r room s t = driving_refusal r (t (start_net s)).value or_else log_refusal room s t

-- 22
unfoldable pub flip_flop_refusal : ReadPort → ℕ
flip_flop_refusal p = when unclocked p then 22 else 0

unfoldable pub unmap_read_dff_number : ℕ → Given → ℕ → Value → ℕ
unmap_read_dff_number next g i output =
    driving_number false next g output or_else (when short_port g.mem (read_at_of g.mem i) then 14 else port_number g.mem i)

unfoldable pub unmap_read_dff_refusal : Rooms → ℕ → LogState → Given → ℕ → Value → ℕ
unmap_read_dff_refusal r room s g i output =
    unmap_read_dff_number s.next g i output or_else driven_refusal r room s (unmap_read_dff g.mem i output)

unfoldable pub unmap_reset_number : ℕ → Given → ℕ → Bool → Value → ℕ
unmap_reset_number next g i incl output =
    driving_number false next g output or_else (when incl && short_port g.mem (read_at_of g.mem i) then 14 else port_number g.mem i)

unfoldable pub unmap_read_init_reset_transparency_refusal : Rooms → ℕ → LogState → Given → ℕ → Bool → Value → ℕ
unmap_read_init_reset_transparency_refusal r room s g i incl output =
    unmap_reset_number s.next g i incl output
    or_else flip_flop_refusal (read_at_of g.mem i)
    or_else driven_refusal r room s (unmap_read_init_reset_transparency g.mem i incl output)

unfoldable pub emulate_number : ℕ → Given → ℕ
emulate_number next g =
    mem_number false false false next g or_else (when read_clocks_differ g.mem then 12 else when mixed_relations g.mem then 13 else 0)

-- a memory that changes without its outputs
unfoldable pub alone : Mem → Driving
alone m = record { memory = m; output = [] }

unfoldable pub emulate_read_before_write_refusal : Rooms → ℕ → LogState → Given → ℕ
emulate_read_before_write_refusal r room s g =
    emulate_number s.next g
    or_else (when any unclocked g.mem.reads then 22 else 0)
    or_else driving_refusal r (alone (emulate_read_before_write g.mem (start_net s)).value)
    or_else log_refusal room s (emulate_read_before_write g.mem)

-- ---- calls with a plan
unfoldable pub make_data_swizzle_refusal : ℕ → Given → List ℕ → ℕ
make_data_swizzle_refusal room g gs =
    mem_refusal g
    or_else (when bad_granularities g.mem gs then 5
    else when row_too_long g.mem gs then 6
    else lent_refusal room (length (make_data_swizzle g.mem gs)))

-- 7 and 8
unfoldable pub plan_number : Mem → Plan → ℕ
plan_number m p = when bad_entries m.width p.entries then 7 else when bad_soft_mask m p then 8 else 0

-- 9, of the write ports and the read ports in a list
unfoldable pub wide_number : Mem → List ℕ → Plan → ℕ
wide_number m ports p = when bad_writes m p || bad_reads m ports p then 9 else 0

-- 10 of a swizzle
unfoldable pub image_number : Mem → Plan → ℕ
image_number m p = when image_too_large (layout_of m p) then 10 else 0

-- 7 to 10, as a swizzle tries them
unfoldable pub whole_plan : Mem → Plan → ℕ
whole_plan m p = plan_number m p or_else wide_number m (all_reads m) p or_else image_number m p

-- 1 to 4, 7 and 8 of a call that only looks, with what else of the call breaks 1
unfoldable pub planned_number : Bool → Given → Plan → ℕ
planned_number long g p = mem_number (plan_too_large p || long) false false max_nets g or_else plan_number g.mem p

unfoldable pub swizzle_depths_refusal : ℕ → Given → Plan → ℕ
swizzle_depths_refusal room g p =
    planned_number false g p
    or_else (when result_too_large (layout_of g.mem p) then 10 else lent_refusal room (all_mems (layout_of g.mem p)))

unfoldable pub swizzle_mux_bits_refusal : Given → List ℕ → Plan → ℕ
swizzle_mux_bits_refusal g ports p =
    planned_number (long_list ports) g p
    or_else wide_number g.mem ports p
    or_else (when any (bad_port g.mem) ports then 15 else 0)

-- 1 to 4 and 7 to 10 of a swizzle
unfoldable pub swizzle_plan_number : ℕ → Given → Value → Plan → ℕ
swizzle_plan_number next g output p = driving_number (plan_too_large p) next g output or_else whole_plan g.mem p

-- depth 0 unmaps the flip-flops
unfoldable pub swizzle_number : ℕ → Given → Value → Plan → ℕ
swizzle_number next g output p =
    swizzle_plan_number next g output p or_else (when eqb g.mem.depth 0 && short_ports g.mem then 14 else 0)

-- what a swizzle is lent: room for the image, for the nets and the trits of the resulting memories, and scratch
pub record SwizzleRooms : Type 0 where
  pub image : ℕ
  pub nets : ℕ
  pub trits : ℕ
  pub scratch : ℕ

unfoldable pub image_refusal : ℕ → Layout → ℕ
image_refusal room q = lent_refusal room (image_size q)

-- the resulting memories
unfoldable pub results_refusal : SwizzleRooms → Mem → List Driving → ℕ
results_refusal r m ds = when no_room_of r.nets (length (shared_nets m ds)) || no_room_of r.trits (length (shared_trits m ds)) then 20 else 0

unfoldable pub swizzle_refusal : SwizzleRooms → ℕ → LogState → Given → Value → Plan → ℕ
swizzle_refusal r room s g output p =
    swizzle_number s.next g output p
    or_else image_refusal r.image (layout_of g.mem p)
    or_else results_refusal r g.mem (swizzle g.mem output p (start_net s)).value
    or_else lent_refusal r.scratch (swizzle_scratch g.mem p)
    or_else log_refusal room s (swizzle g.mem output p)

-- ---- fallback
unfoldable pub can_lower_fallback_refusal : Given → ℕ
can_lower_fallback_refusal g = mem_refusal g

unfoldable pub lower_fallback_number : ℕ → Given → Value → ℕ
lower_fallback_number next g output =
    driving_number false next g output or_else (when write_clocks_differ g.mem then 11 else when short_ports g.mem then 14 else 0)

unfoldable pub lower_fallback_refusal : ℕ → ℕ → LogState → Given → Value → ℕ
lower_fallback_refusal scratch room s g output =
    lower_fallback_number s.next g output
    or_else lent_refusal scratch (fallback_scratch g.mem)
    or_else log_refusal room s (lower_fallback g.mem output)

-- ---- patches: 23 before all others
-- by the width, the depth and the image's trits of a layout: of this row, these trits and this room
unfoldable pub patch_refusal_by : ℕ → ℕ → ℕ → ℕ → Const → ℕ → ℕ
patch_refusal_by width depth size row trits room =
    when not (eqb (length trits) width) || bad_trits trits then 4
    else when not_below depth row then 15
    else lent_refusal room size

unfoldable pub patch_refusal_of : Layout → Patch → ℕ
patch_refusal_of q c = patch_refusal_by q.width q.depth (image_size q) c.row c.trits c.room

unfoldable pub patch_refusal : Laid → Patch → ℕ
patch_refusal none c = 23
patch_refusal (some q) c = patch_refusal_of q c

-- ---- records
-- 16 and 17, of a record that starts with these bytes and is `total` bytes long
unfoldable pub header_refusal : List ℕ → ℕ → ℕ
header_refusal first total = when bad_head first total then 16 else when bad_sizes (head_sizes first) then 17 else 0

-- 16, 17 and 18: what a reader refuses whatever its room
unfoldable pub record_number : List ℕ → ℕ
record_number bytes = header_refusal bytes (length bytes) or_else (when bad_bits bytes then 18 else 0)

-- the image is the first trits of the lent array, as many as the sizes say
unfoldable pub write_record_refusal : ℕ → Sizes → Const → ℕ
write_record_refusal room z image =
    when bad_trits (record_image z image) then 4
    else when bad_sizes z then 17
    else when no_room_of (length image) (size_trits z) || no_room_of room (record_bytes z) then 20
    else 0

unfoldable pub summary_refusal : Sizes → Const → ℕ → ℕ
summary_refusal z image i =
    when bad_trits (record_image z image) then 4
    else when not_below (size_mems z) i then 15
    else when bad_sizes z then 17
    else lent_refusal (length image) (size_trits z)

unfoldable pub read_record_refusal : ℕ → List ℕ → ℕ
read_record_refusal room bytes = record_number bytes or_else lent_refusal room (size_trits (head_sizes bytes))

-- ---- the two round trips of records, as statements
-- what is written is read back
unfoldable pub ReadsBack : Sizes → Const → Type 0
ReadsBack s image = (record_number (encode_record s image) ≡ 0) × (head_sizes (encode_record s image) ≡ s) × (decode_image (encode_record s image) ≡ image)

-- what is read is written again
unfoldable pub WritesBack : List ℕ → Type 0
WritesBack bytes = encode_record (head_sizes bytes) (decode_image bytes) ≡ bytes
