-- For each call its whole answer: the number that refuses it or the values that it gives, and what it leaves in what it was lent.
-- A call's promise cites the definition here; how a machine's enum reads as an answer is said in the crate that has the enum.
use Rattle.std.specs.Prelude.{ℕ, ◌-◌, Bool, List, [], ◌∷◌, length, drop, eqb}
use Rattle.std.proofs.Math.Option.{none, some}
use Rattle.std.proofs.lemmas.List.Edits.{sets}
use Rattle.lists.specs.Choice.{when◌then◌else◌, leaves}
use Rattle.lists.specs.Lists.{all, part}
use Rattle.rules.specs.Limits.{X}
use Rattle.rules.specs.Logic.{Const, Trit, trit_of, const_not, const_and, const_or, is_undef}
use Rattle.rules.specs.Value.{Value, net_of_cell, zext, Control, inverse, is_always}
use Rattle.rules.specs.Cell.{Controls, FlipFlop, Mem, Given, Plan, wide_log2, output_len, output_start, read_at_of, or_empty, flat_nets, flat_trits}
use Rattle.rules.specs.Log.{Trace, ◌>>=◌, done, LogState, state_after, log_after, add_void_of, add_not_of, add_mux_of, add_dff_of, into_pos_of, remap_reset_over_enable_of}
use Rattle.rules.specs.Merge.{add_dedup_mux_of, add_dedup_dff_of, add_bitwise_mux_of}
use Rattle.rules.specs.Ports.{narrower_select, Overlay, transparency_mux, Driving, extract_read_ports, unmap_read_dff, unmap_read_init_reset_transparency, emulate_read_before_write}
use Rattle.rules.specs.Geometry.{make_data_swizzle, layout_of, swizzle_depths, write_mux_bits, read_mux_bits}
use Rattle.rules.specs.Image.{Laid, Patch}
use Rattle.rules.specs.Swizzle.{swizzle, swizzle_laid, shared_nets, shared_trits, swizzle_scratch}
use Rattle.rules.specs.Fallback.{can_lower_fallback, lower_fallback, fallback_scratch}
use Rattle.rules.specs.Record.{Sizes, sizes_of, encode_record, head_sizes, decode_image, record_image}
use Rattle.rules.specs.Refusals.{Rooms, SwizzleRooms, alone, trit_refusal, const_not_refusal, const_pair_refusal, is_undef_refusal, control_refusal, wide_log2_refusal, slice_refusal, value_refusal, zext_refusal, net_of_cell_refusal, narrower_select_refusal, add_void_refusal, add_not_refusal, add_pair_refusal, add_shift_refusal, add_mux_refusal, add_dff_refusal, add_dedup_mux_refusal, add_dedup_dff_refusal, add_bitwise_mux_refusal, into_pos_refusal, remap_reset_over_enable_refusal, mem_refusal, output_slice_refusal, transparency_mux_refusal, extract_read_ports_refusal, unmap_read_dff_refusal, unmap_read_init_reset_transparency_refusal, emulate_read_before_write_refusal, make_data_swizzle_refusal, swizzle_depths_refusal, swizzle_mux_bits_refusal, swizzle_refusal, can_lower_fallback_refusal, lower_fallback_refusal, patch_refusal, write_record_refusal, read_record_refusal, summary_refusal, header_refusal, lent_refusal}
use Rattle.rules.specs.Patch.{patched_one, lent_to, patched, laid_out}
use Rattle.rules.specs.Lister.{Summary, summary_of, lister}

pub data Answer (A : Type 0) : Type 0 where
  Refused : ℕ → Answer A
  Accepted : A → Answer A

module _ {A : Type 0} where
  -- the values, unless a number refuses the call
  unfoldable pub answer_of : ℕ → A → Answer A
  answer_of n a = when eqb n 0 then Accepted a else Refused n

-- ---- leaves
unfoldable pub trit_from_code : ℕ → Answer Trit
trit_from_code code = answer_of (trit_refusal code) (trit_of code)

unfoldable pub const_is_undef_call : Const → Answer Bool
const_is_undef_call a = answer_of (is_undef_refusal a) (is_undef a)

-- a part of a constant or of a value
unfoldable pub slice_call : ℕ → ℕ → List ℕ → Answer (List ℕ)
slice_call start end l = answer_of (slice_refusal start end (length l)) (part start (end - start) l)

-- a result list of a call, and the lent room after it: the list from its start on, the rest as it was
pub record Filled : Type 0 where
  pub number : ℕ
  pub out : List ℕ

-- a number, 0 where the call is accepted, and the lent room after it
abbrev pub filled_with : ℕ → List ℕ → Filled
filled_with n out = record { number = n; out = out }

unfoldable pub filled : ℕ → List ℕ → List ℕ → Filled
filled n out l = record { number = n; out = leaves n out (sets out 0 l) }

unfoldable pub const_not_call : List ℕ → Const → Filled
const_not_call out a = filled (const_not_refusal (length out) a) out (const_not a)

unfoldable pub const_and_call : List ℕ → Const → Const → Filled
const_and_call out a b = filled (const_pair_refusal (length out) a b) out (const_and a b)

unfoldable pub const_or_call : List ℕ → Const → Const → Filled
const_or_call out a b = filled (const_pair_refusal (length out) a b) out (const_or a b)

unfoldable pub net_of_cell_call : ℕ → Answer ℕ
net_of_cell_call c = answer_of (net_of_cell_refusal c) (net_of_cell c)

unfoldable pub inverse_call : Control → Answer Control
inverse_call c = answer_of (control_refusal c) (inverse c)

unfoldable pub is_always_call : ℕ → Control → Answer Bool
is_always_call v c = answer_of (control_refusal c) (is_always v c)

-- every net is X
unfoldable pub value_is_undef_call : Value → Answer Bool
value_is_undef_call v = answer_of (value_refusal v) (all (λ n. eqb n X) v)

unfoldable pub zext_call : List ℕ → Value → ℕ → Filled
zext_call out v n = filled (zext_refusal (length out) v n) out (zext v n)

unfoldable pub narrower_select_call : ℕ → ℕ → Value → Value → Answer Value
narrower_select_call kw kr waddr raddr = answer_of (narrower_select_refusal kw kr waddr raddr) (narrower_select kw kr waddr raddr)

unfoldable pub wide_log2_call : ℕ → ℕ → Answer ℕ
wide_log2_call width size = answer_of (wide_log2_refusal width size) (wide_log2 width size)

-- ---- requests
-- a value and the log state after it
pub record After (A : Type 0) : Type 0 where
  pub value : A
  pub state : LogState

-- the answer of a call that adds a trace, and the lent log after it
pub record Logged (A : Type 0) : Type 0 where
  pub answer : Answer (After A)
  pub log : List ℕ

module _ {A : Type 0} where
  unfoldable pub after : LogState → Trace A → After A
  after s t = record { value = (t s.next).value; state = state_after s (t s.next) }

  unfoldable pub logged : ℕ → List ℕ → LogState → Trace A → Logged A
  logged n log s t = record { answer = answer_of n (after s t); log = leaves n log (log_after log s (t s.next)) }

unfoldable pub add_void_call : List ℕ → LogState → ℕ → Logged Value
add_void_call log s width = logged (add_void_refusal (length log) s width) log s (add_void_of width)

unfoldable pub add_not_call : List ℕ → LogState → Value → Logged Value
add_not_call log s a = logged (add_not_refusal (length log) s a) log s (add_not_of a)

-- and, or and eq, and replace
unfoldable pub add_pair_call : {A : Type 0} → (Value → Value → Trace A) → List ℕ → LogState → Value → Value → Logged A
add_pair_call add log s a b = logged (add_pair_refusal add (length log) s a b) log s (add a b)

-- shl and ushr
unfoldable pub add_shift_call : (ℕ → Value → Value → Trace Value) → List ℕ → LogState → ℕ → Value → Value → Logged Value
add_shift_call add log s stride select a = logged (add_shift_refusal add (length log) s stride select a) log s (add stride select a)

unfoldable pub add_mux_call : List ℕ → LogState → Control → Value → Value → Logged Value
add_mux_call log s c a b = logged (add_mux_refusal (length log) s c a b) log s (add_mux_of c a b)

unfoldable pub add_dff_call : List ℕ → LogState → FlipFlop → Logged Value
add_dff_call log s f = logged (add_dff_refusal (length log) s f) log s (add_dff_of f)

unfoldable pub into_pos_call : List ℕ → LogState → Control → Logged Value
into_pos_call log s c = logged (into_pos_refusal (length log) s c) log s (into_pos_of c)

unfoldable pub remap_call : List ℕ → LogState → Controls → Logged Controls
remap_call log s c = logged (remap_reset_over_enable_refusal (length log) s c) log s (remap_reset_over_enable_of c)

-- ---- merges, whose result nets go into lent room
pub record Merged : Type 0 where
  pub logged : Logged Value
  pub out : List ℕ

unfoldable pub merged : ℕ → List ℕ → List ℕ → LogState → Trace Value → Merged
merged n out log s t = record { logged = logged n log s t; out = leaves n out (sets out 0 (t s.next).value) }

unfoldable pub add_dedup_mux_call : List ℕ → List ℕ → LogState → Control → Value → Value → Merged
add_dedup_mux_call out log s c a b = merged (add_dedup_mux_refusal (length out) (length log) s c a b) out log s (add_dedup_mux_of c a b)

unfoldable pub add_dedup_dff_call : List ℕ → List ℕ → LogState → FlipFlop → Merged
add_dedup_dff_call out log s f = merged (add_dedup_dff_refusal (length out) (length log) s f) out log s (add_dedup_dff_of f)

unfoldable pub add_bitwise_mux_call : List ℕ → List ℕ → LogState → Value → Value → Value → Merged
add_bitwise_mux_call out log s c a b = merged (add_bitwise_mux_refusal (length out) (length log) s c a b) out log s (add_bitwise_mux_of c a b)

-- ---- the same on a lent log state: the value, and what state, log and room hold afterwards
pub record Returned (A : Type 0) : Type 0 where
  pub answer : Answer A
  pub state : LogState
  pub log : List ℕ

module _ {A : Type 0} where
  abbrev pub value_of : Answer (After A) → Answer A
  value_of (Refused n) = Refused n
  value_of (Accepted a) = Accepted a.value

  -- a refused call leaves the state s as it was
  abbrev pub state_left : LogState → Answer (After A) → LogState
  state_left s (Refused n) = s
  state_left s (Accepted a) = a.state

  abbrev pub lent_call : LogState → Logged A → Returned A
  lent_call s l = record { answer = value_of l.answer; state = state_left s l.answer; log = l.log }

pub record ReturnedMerge : Type 0 where
  pub returned : Returned Value
  pub out : List ℕ

abbrev pub lent_merge : LogState → Merged → ReturnedMerge
lent_merge s m = record { returned = lent_call s m.logged; out = m.out }

-- ---- calls on a memory, as it is given
unfoldable pub output_len_call : Given → Answer ℕ
output_len_call g = answer_of (mem_refusal g) (output_len g.mem)

-- the start and the length of a port's part of the outputs
unfoldable pub output_slice_call : Given → ℕ → Answer (ℕ × ℕ)
output_slice_call g i = answer_of (output_slice_refusal g i) (output_start g.mem i, (read_at_of g.mem i).data_len)

unfoldable pub can_lower_fallback_call : Given → Answer Bool
can_lower_fallback_call g = answer_of (can_lower_fallback_refusal g) (can_lower_fallback g.mem)

-- a memory and its outputs in lent room, and the rooms after the call
pub record Extracted : Type 0 where
  pub answer : Answer Driving
  pub nets : List ℕ
  pub trits : List ℕ
  pub output : List ℕ

unfoldable pub extract_read_ports_call : List ℕ → List ℕ → List ℕ → Given → List ℕ → Value → Extracted
extract_read_ports_call nets trits out g ports output =
    let n = extract_read_ports_refusal (record { nets = length nets; trits = length trits; output = length out }) g ports output in
    let d = extract_read_ports g.mem ports output in
    record {
      answer = answer_of n d;
      nets = leaves n nets (sets nets 0 (flat_nets d.memory));
      trits = leaves n trits (sets trits 0 (flat_trits d.memory));
      output = leaves n out (sets out 0 d.output);
    }

-- data and mask in lent room, and the rooms after the call; without a mask its room stays
pub record Overlaid : Type 0 where
  pub logged : Logged Overlay
  pub bits : List ℕ
  pub mask : List ℕ

unfoldable pub transparency_mux_call : List ℕ → List ℕ → List ℕ → LogState → Given → ℕ → ℕ → Overlay → Overlaid
transparency_mux_call bits mask log s g i j o =
    let n = transparency_mux_refusal (record { bits = length bits; mask = length mask }) (length log) s g i j o in
    let t = transparency_mux g.mem i j o in
    record {
      logged = logged n log s t;
      bits = leaves n bits (sets bits 0 (t s.next).value.bits);
      mask = leaves n mask (sets mask 0 (or_empty (t s.next).value.mask));
    }

-- a call that changes a memory and the outputs in place: the state after it or the number, and what log, memory and outputs hold afterwards
pub record Driven : Type 0 where
  pub answer : Answer LogState
  pub log : List ℕ
  pub memory : Mem
  pub output : Value

unfoldable pub driven : ℕ → List ℕ → LogState → Driving → Trace Driving → Driven
driven n log s d t =
    let x = t s.next in
    record {
      answer = answer_of n (state_after s x);
      log = leaves n log (log_after log s x);
      memory = leaves n d.memory x.value.memory;
      output = leaves n d.output x.value.output;
    }

-- `r` are the lengths of the arrays that the memory and the outputs are lent in
unfoldable pub unmap_read_dff_call : Rooms → List ℕ → LogState → Given → ℕ → Value → Driven
unmap_read_dff_call r log s g i output =
    driven (unmap_read_dff_refusal r (length log) s g i output) log s (record { memory = g.mem; output = output }) (unmap_read_dff g.mem i output)

unfoldable pub unmap_reset_call : Rooms → List ℕ → LogState → Given → ℕ → Bool → Value → Driven
unmap_reset_call r log s g i incl output =
    driven (unmap_read_init_reset_transparency_refusal r (length log) s g i incl output) log s (record { memory = g.mem; output = output })
    (unmap_read_init_reset_transparency g.mem i incl output)

-- the outputs play no part
unfoldable pub emulate_call : Rooms → List ℕ → LogState → Given → Driven
emulate_call r log s g =
    driven (emulate_read_before_write_refusal r (length log) s g) log s (alone g.mem) (emulate_read_before_write g.mem >>= λ m. done (alone m))

-- ---- calls with a plan
-- how many elements a result list has, and the lent room after the call
pub record Listed : Type 0 where
  pub answer : Answer ℕ
  pub out : List ℕ

abbrev pub listed_in : ℕ → List ℕ → List ℕ → Listed
listed_in n out l = record { answer = answer_of n (length l); out = leaves n out (sets out 0 l) }

unfoldable pub make_data_swizzle_call : List ℕ → Given → List ℕ → Listed
make_data_swizzle_call out g gs = listed_in (make_data_swizzle_refusal (length out) g gs) out (make_data_swizzle g.mem gs)

unfoldable pub swizzle_depths_call : List ℕ → Given → Plan → Filled
swizzle_depths_call out g p = filled (swizzle_depths_refusal (length out) g p) out (swizzle_depths (layout_of g.mem p))

-- the mux bits of the write ports and of the listed read ports
unfoldable pub swizzle_mux_bits_call : Given → List ℕ → Plan → Answer (List ℕ × List ℕ)
swizzle_mux_bits_call g ports p = answer_of (swizzle_mux_bits_refusal g ports p) (write_mux_bits g.mem p, read_mux_bits g.mem ports p)

-- the arrays that a swizzle is lent
pub record SwizzleLent : Type 0 where
  pub image : List ℕ
  pub nets : List ℕ
  pub trits : List ℕ
  pub scratch : List ℕ

-- what a swizzle gives beside the log: the lent arrays after it, the state that patches go by, and the record's sizes. Of the scratch only what lies past
-- its need is kept by an accepted call; the memory and the outputs that it is given are never changed
pub record Swizzled : Type 0 where
  pub logged : Logged (List Driving)
  pub image : List ℕ
  pub nets : List ℕ
  pub trits : List ℕ
  pub scratch_kept_of : List ℕ
  pub laid : Answer Laid
  pub sizes : Answer Sizes

unfoldable pub rooms_of : SwizzleLent → SwizzleRooms
rooms_of l = record { image = length l.image; nets = length l.nets; trits = length l.trits; scratch = length l.scratch }

unfoldable pub swizzle_call : SwizzleLent → List ℕ → LogState → Given → Value → Plan → Swizzled
swizzle_call l log s g output p =
    let n = swizzle_refusal (rooms_of l) (length log) s g output p in
    let ds = (swizzle g.mem output p s.next).value in
    record {
      logged = logged n log s (swizzle g.mem output p);
      image = leaves n l.image (laid_out (layout_of g.mem p) g.mem.init l.image);
      nets = leaves n l.nets (sets l.nets 0 (shared_nets g.mem ds));
      trits = leaves n l.trits (sets l.trits 0 (shared_trits g.mem ds));
      scratch_kept_of = leaves n l.scratch (drop (swizzle_scratch g.mem p) l.scratch);
      laid = answer_of n (swizzle_laid g.mem p);
      sizes = answer_of n (sizes_of (layout_of g.mem p));
    }

-- what a fallback leaves: the log and the scratch past its need
pub record Lowered : Type 0 where
  pub logged : Logged Unit
  pub scratch_kept_of : List ℕ

unfoldable pub lower_fallback_call : List ℕ → List ℕ → LogState → Given → Value → Lowered
lower_fallback_call scratch log s g output =
    let n = lower_fallback_refusal (length scratch) (length log) s g output in
    record {
      logged = logged n log s (lower_fallback g.mem output);
      scratch_kept_of = leaves n scratch (drop (fallback_scratch g.mem) scratch);
    }

-- ---- patches and records
unfoldable pub patch_call : Laid → Patch → List ℕ → Filled
patch_call laid c image = record { number = patch_refusal laid c; out = patched_one laid c image }

-- one call of a list on one buffer, of which it is lent the first trits: its number, and the buffer after it
unfoldable pub call_on : Laid → Patch → List ℕ → Filled
call_on laid c buffer = record { number = patch_refusal laid (lent_to (length buffer) c); out = patched laid (c ∷ []) buffer }

-- the calls of a list on one buffer: each one's number
unfoldable pub patch_numbers : Laid → ℕ → List Patch → List ℕ
patch_numbers laid size [] = []
patch_numbers laid size (c ∷ cs) = patch_refusal laid (lent_to size c) ∷ patch_numbers laid size cs

-- a number for the list, and the room for the calls' numbers and the buffer after it
pub record Patched : Type 0 where
  pub number : ℕ
  pub numbers : List ℕ
  pub image : List ℕ

-- the calls are made on the buffer `begun`, which is as long as the one that was lent
unfoldable pub patched_with : ℕ → List ℕ → Laid → List Patch → List ℕ → List ℕ → Patched
patched_with n numbers laid cs buffer begun = record {
  number = n;
  numbers = leaves n numbers (sets numbers 0 (patch_numbers laid (length buffer) cs));
  image = leaves n buffer (patched laid cs begun);
}

-- 20 where the room for the numbers is short; no call is made then
unfoldable pub patches_call : List ℕ → Laid → List Patch → List ℕ → Patched
patches_call numbers laid cs buffer = patched_with (lent_refusal (length numbers) (length cs)) numbers laid cs buffer buffer

-- the record's sizes for the images of the last accepted swizzle
unfoldable pub sizes_call : Laid → Answer Sizes
sizes_call none = Refused 23
sizes_call (some q) = Accepted (sizes_of q)

unfoldable pub write_record_call : List ℕ → Sizes → Const → Filled
write_record_call out z image = filled (write_record_refusal (length out) z image) out (encode_record z (record_image z image))

-- the sizes of a record, and the lent image after it is read
pub record Decoded : Type 0 where
  pub answer : Answer Sizes
  pub image : List ℕ

unfoldable pub read_record_call : List ℕ → List ℕ → Decoded
read_record_call image bytes =
    let n = read_record_refusal (length image) bytes in
    record { answer = answer_of n (head_sizes bytes); image = leaves n image (sets image 0 (decode_image bytes)) }

unfoldable pub summary_call : Sizes → Const → ℕ → Answer Summary
summary_call z image i = answer_of (summary_refusal z image i) (summary_of z image i)

-- a record's sizes from its first bytes and its length
unfoldable pub header_call : List ℕ → ℕ → Answer Sizes
header_call first total = answer_of (header_refusal first total) (head_sizes first)

-- the lister's text for a record in lent room
unfoldable pub list_record_call : List ℕ → List ℕ → Listed
list_record_call out bytes = listed_in (lent_refusal (length out) (length (lister bytes))) out (lister bytes)
