-- The answer to a case of the call format, as the rules give it: the number, the length and, where the number is 0, the payload.
use Rattle.std.specs.Prelude.{ℕ, zero, suc, Bool, List, [], ◌∷◌, ◌++◌, map, length, drop, eqb}
use Rattle.std.proofs.Math.Option.{Option, none, some}
use Rattle.lists.specs.Choice.{when◌then◌else◌}
use Rattle.lists.specs.Lists.{all, concat_map, same_list}
use Rattle.rules.specs.Limits.{X}
use Rattle.rules.specs.Logic.{const_not, const_and, const_or, is_undef}
use Rattle.rules.specs.Value.{Value, inverse, control_words, Pos}
use Rattle.rules.specs.Cell.{Controls, WritePort, ReadFlipFlop, ReadPort, Mem, given}
use Rattle.rules.specs.Log.{flag, Made, remap_reset_over_enable_of, LogState, added, state_after}
use Rattle.rules.specs.Merge.{add_dedup_mux_of, add_dedup_dff_of, add_bitwise_mux_of}
use Rattle.rules.specs.Ports.{Overlay, transparency_mux, Driving, extract_read_ports, unmap_read_dff, unmap_read_init_reset_transparency, emulate_read_before_write}
use Rattle.rules.specs.Geometry.{make_data_swizzle, layout_of, swizzle_depths, write_mux_bits, read_mux_bits}
use Rattle.rules.specs.Image.{Laid}
use Rattle.rules.specs.Swizzle.{swizzle, swizzle_image, swizzle_laid}
use Rattle.rules.specs.Fallback.{can_lower_fallback, lower_fallback}
use Rattle.rules.specs.Record.{record_image, encode_record, head_sizes, decode_image}
use Rattle.rules.specs.Refusals.{Rooms, OverlayRooms, SwizzleRooms, const_not_refusal, const_pair_refusal, is_undef_refusal, control_refusal, add_dedup_mux_refusal, add_dedup_dff_refusal, add_bitwise_mux_refusal, remap_reset_over_enable_refusal, transparency_mux_refusal, extract_read_ports_refusal, unmap_read_dff_refusal, unmap_read_init_reset_transparency_refusal, emulate_read_before_write_refusal, make_data_swizzle_refusal, swizzle_depths_refusal, swizzle_mux_bits_refusal, swizzle_refusal, can_lower_fallback_refusal, lower_fallback_refusal, patch_refusal, write_record_refusal, read_record_refusal}
use Rattle.rules.specs.Beside.Decode.{controls_words}
use Rattle.rules.specs.Patch.{patched}
use Rattle.rules.specs.Lister.{lister}
use Rattle.rules_trial.specs.Read.{Reader, ◌>>=◌, give, many, word, list, test, control, option, log, controls, flip_flop, memory, plan, patch, sizes}

-- ---- the answer's words
unfoldable pub reply : ℕ → List ℕ → List ℕ
reply n payload = n ∷ (when eqb n 0 then length payload ∷ payload else 0 ∷ [])

unfoldable pub as_list : List ℕ → List ℕ
as_list l = length l ∷ l

unfoldable pub log_out : {A : Type 0} → LogState → Made A → List ℕ
log_out s t = (state_after s t).used ∷ (state_after s t).next ∷ as_list (added t)

unfoldable pub write_words : WritePort → List ℕ
write_words p = as_list p.addr ++ as_list p.bits ++ as_list p.mask ++ control_words p.clock

unfoldable pub flip_flop_words : Option ReadFlipFlop → List ℕ
flip_flop_words none = 0 ∷ []
flip_flop_words (some f) =
    1 ∷ controls_words f.controls ++ as_list f.clear_value ++ as_list f.reset_value ++ as_list f.init_value ++ as_list f.relations

unfoldable pub read_words : ReadPort → List ℕ
read_words p = as_list p.addr ++ (p.data_len ∷ flip_flop_words p.flip_flop)

unfoldable pub mem_words : Mem → List ℕ
mem_words m =
    m.depth ∷ m.width ∷ as_list m.init ++ (length m.writes ∷ length m.reads ∷ [])
    ++ concat_map write_words m.writes ++ concat_map read_words m.reads

unfoldable pub driving_words : Driving → List ℕ
driving_words d = mem_words d.memory ++ as_list d.output

unfoldable pub drivings : List Driving → List ℕ
drivings ds = length ds ∷ concat_map driving_words ds

unfoldable pub option_words : Option Value → List ℕ
option_words none = 0 ∷ []
option_words (some v) = 1 ∷ as_list v

-- ---- rooms that every result fits
abbrev pub rooms : Rooms
rooms = record { nets = X; trits = X; output = X }

abbrev pub overlay_rooms : OverlayRooms
overlay_rooms = record { bits = X; mask = X }

-- the format says the image's room alone
abbrev pub swizzle_rooms : ℕ → SwizzleRooms
swizzle_rooms image = record { image = image; nets = X; trits = X; scratch = X }

-- ---- the calls
unfoldable pub op1 : Reader (List ℕ)
op1 = do
  room ← word
  a ← list
  give (reply (const_not_refusal room a) (as_list (const_not a)))

unfoldable pub op2 : Reader (List ℕ)
op2 = do
  room ← word
  a ← list
  b ← list
  give (reply (const_pair_refusal room a b) (as_list (const_and a b)))

unfoldable pub op3 : Reader (List ℕ)
op3 = do
  room ← word
  a ← list
  b ← list
  give (reply (const_pair_refusal room a b) (as_list (const_or a b)))

unfoldable pub op4 : Reader (List ℕ)
op4 = do
  a ← list
  give (reply (is_undef_refusal a) (flag (is_undef a) ∷ []))

unfoldable pub op5 : Reader (List ℕ)
op5 = do
  c ← control
  give (reply (control_refusal c) (control_words (inverse c)))

-- its clock and clear play no part
unfoldable pub remap_answer : ℕ → LogState → Controls → List ℕ
remap_answer room s c =
    let t = remap_reset_over_enable_of c s.next in
    reply (remap_reset_over_enable_refusal room s c)
    (log_out s t ++ control_words t.value.reset ++ control_words t.value.enable ++ (flag t.value.reset_over_enable ∷ []))

unfoldable pub op6 : Reader (List ℕ)
op6 = do
  l ← log
  r ← control
  e ← control
  f ← test
  give (remap_answer l.room l.state (record { clock = Pos 0; clear = Pos 0; reset = r; enable = e; reset_over_enable = f }))

-- a merge's result nets are lent as much room as they need
unfoldable pub merge_answer : ℕ → LogState → Made Value → List ℕ
merge_answer n s t = reply n (log_out s t ++ as_list t.value)

unfoldable pub op10 : Reader (List ℕ)
op10 = do
  l ← log
  c ← control
  a ← list
  b ← list
  give (merge_answer (add_dedup_mux_refusal X l.room l.state c a b) l.state (add_dedup_mux_of c a b l.state.next))

unfoldable pub op11 : Reader (List ℕ)
op11 = do
  l ← log
  f ← flip_flop
  give (merge_answer (add_dedup_dff_refusal X l.room l.state f) l.state (add_dedup_dff_of f l.state.next))

unfoldable pub op12 : Reader (List ℕ)
op12 = do
  l ← log
  c ← list
  a ← list
  b ← list
  give (merge_answer (add_bitwise_mux_refusal X l.room l.state c a b) l.state (add_bitwise_mux_of c a b l.state.next))

unfoldable pub overlay_answer : ℕ → LogState → Made Overlay → List ℕ
overlay_answer n s t = reply n (log_out s t ++ as_list t.value.bits ++ option_words t.value.mask)

unfoldable pub op13 : Reader (List ℕ)
op13 = do
  l ← log
  m ← memory
  i ← word
  j ← word
  v ← list
  k ← option list
  give (overlay_answer (transparency_mux_refusal overlay_rooms l.room l.state (given m) i j (record { bits = v; mask = k })) l.state (transparency_mux m i j (record { bits = v; mask = k }) l.state.next))

unfoldable pub op20 : Reader (List ℕ)
op20 = do
  m ← memory
  ports ← list
  output ← list
  give (reply (extract_read_ports_refusal rooms (given m) ports output) (driving_words (extract_read_ports m ports output)))

unfoldable pub driving_answer : ℕ → LogState → Made Driving → List ℕ
driving_answer n s t = reply n (log_out s t ++ driving_words t.value)

unfoldable pub op21 : Reader (List ℕ)
op21 = do
  l ← log
  m ← memory
  i ← word
  output ← list
  give (driving_answer (unmap_read_dff_refusal rooms l.room l.state (given m) i output) l.state (unmap_read_dff m i output l.state.next))

unfoldable pub op22 : Reader (List ℕ)
op22 = do
  l ← log
  m ← memory
  i ← word
  incl ← test
  output ← list
  give (driving_answer (unmap_read_init_reset_transparency_refusal rooms l.room l.state (given m) i incl output) l.state (unmap_read_init_reset_transparency m i incl output l.state.next))

unfoldable pub mem_answer : ℕ → LogState → Made Mem → List ℕ
mem_answer n s t = reply n (log_out s t ++ mem_words t.value)

unfoldable pub op23 : Reader (List ℕ)
op23 = do
  l ← log
  m ← memory
  give (mem_answer (emulate_read_before_write_refusal rooms l.room l.state (given m)) l.state (emulate_read_before_write m l.state.next))

unfoldable pub op24 : Reader (List ℕ)
op24 = do
  room ← word
  m ← memory
  gs ← list
  give (reply (make_data_swizzle_refusal room (given m) gs) (as_list (make_data_swizzle m gs)))

unfoldable pub op25 : Reader (List ℕ)
op25 = do
  room ← word
  m ← memory
  p ← plan
  give (reply (swizzle_depths_refusal room (given m) p) (as_list (swizzle_depths (layout_of m p))))

unfoldable pub op26 : Reader (List ℕ)
op26 = do
  m ← memory
  ports ← list
  p ← plan
  give (reply (swizzle_mux_bits_refusal (given m) ports p) (as_list (write_mux_bits m p) ++ as_list (read_mux_bits m ports p)))

unfoldable pub op27 : Reader (List ℕ)
op27 = do
  image_room ← word
  l ← log
  m ← memory
  output ← list
  p ← plan
  n ← word
  cs ← many patch n
  give (
      let t = swizzle m output p l.state.next in
      reply (swizzle_refusal (swizzle_rooms image_room) l.room l.state (given m) output p)
      (log_out l.state t ++ drivings t.value ++ as_list (map (patch_refusal (swizzle_laid m p)) cs)
      ++ as_list (patched (swizzle_laid m p) cs (swizzle_image m p))))

unfoldable pub op28 : Reader (List ℕ)
op28 = do
  m ← memory
  give (reply (can_lower_fallback_refusal (given m)) (flag (can_lower_fallback m) ∷ []))

unfoldable pub op29 : Reader (List ℕ)
op29 = do
  l ← log
  m ← memory
  output ← list
  give (reply (lower_fallback_refusal X l.room l.state (given m) output) (log_out l.state (lower_fallback m output l.state.next)))

-- ---- a history: one laid-out state and its image through all steps
pub record Held : Type 0 where
  pub laid : Laid
  pub image : List ℕ

-- a step's number, and what is held after it
pub record Stepped : Type 0 where
  pub number : ℕ
  pub held : Held

unfoldable pub swizzle_step : Held → Reader Stepped
swizzle_step h = do
  image_room ← word
  l ← log
  m ← memory
  output ← list
  p ← plan
  give (
      let n = swizzle_refusal (swizzle_rooms image_room) l.room l.state (given m) output p in
      record { number = n; held = when eqb n 0 then record { laid = swizzle_laid m p; image = swizzle_image m p } else h })

unfoldable pub fallback_step : Held → Reader Stepped
fallback_step h = do
  l ← log
  m ← memory
  output ← list
  give (record { number = lower_fallback_refusal X l.room l.state (given m) output; held = h })

unfoldable pub patch_step : Held → Reader Stepped
patch_step h = do
  c ← patch
  give (record { number = patch_refusal h.laid c; held = record { laid = h.laid; image = patched h.laid (c ∷ []) h.image } })

unfoldable pub step : Held → Reader Stepped
step h = do
  kind ← word
  when eqb kind 1 then swizzle_step h else when eqb kind 2 then fallback_step h else patch_step h

-- the numbers of the steps, and what is held after them
pub record Steps : Type 0 where
  pub numbers : List ℕ
  pub held : Held

unfoldable pub steps : ℕ → Held → Reader Steps
steps zero h = give (record { numbers = []; held = h })
steps (suc n) h = do
  x ← step h
  y ← steps n x.held
  give (record { numbers = x.number ∷ y.numbers; held = y.held })

unfoldable pub op30 : Reader (List ℕ)
op30 = do
  n ← word
  x ← steps n (record { laid = none; image = [] })
  give (reply 0 (as_list x.numbers ++ as_list x.held.image))

unfoldable pub op31 : Reader (List ℕ)
op31 = do
  room ← word
  z ← sizes
  image ← list
  give (reply (write_record_refusal room z image) (as_list (encode_record z (record_image z image))))

unfoldable pub op32 : Reader (List ℕ)
op32 = do
  room ← word
  bytes ← list
  give (
      let z = head_sizes bytes in
      reply (read_record_refusal room bytes)
      (z.unit ∷ z.full ∷ z.full_depth_of ∷ z.partial ∷ z.partial_depth ∷ as_list (decode_image bytes)))

unfoldable pub op33 : Reader (List ℕ)
op33 = do
  bytes ← list
  give (reply 0 (as_list (lister bytes)))

-- ---- a case and its answer, with the number of the call
pub record Case : Type 0 where
  pub given : List ℕ
  pub answer : List ℕ

-- by a call's reader: the payload starts after the call's number and the length
unfoldable pub agrees : Reader (List ℕ) → Case → Bool
agrees op c = same_list (op (drop 2 c.given)).value c.answer

unfoldable pub agree : Reader (List ℕ) → List Case → Bool
agree op cs = all (agrees op) cs

abbrev pub case : List ℕ → List ℕ → Case
case given answer = record { given = given; answer = answer }
