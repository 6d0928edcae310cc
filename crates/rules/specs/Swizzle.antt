-- `swizzle`: the address split, the write ports, the read ports with their mux tree, and the resulting memories.
use Rattle.std.specs.Prelude.{ℕ, zero, suc, ◌+◌, ◌-◌, ◌*◌, ◌/◌, ◌%◌, ◌^◌, Bool, true, false, List, [], ◌∷◌, ◌++◌, map, length, get_or, set, take, drop, replicate, eqb, ltb}
use Rattle.std.proofs.Math.Option.{Option, none, some}
use Rattle.std.proofs.lemmas.List.Edits.{sets}
use Rattle.rules.specs.Limits.{X, trit_x, None}
use Rattle.lists.specs.Choice.{when◌then◌else◌}
use Rattle.lists.specs.Lists.{sum_by, part, pairs, up_from, concat_map}
use Rattle.rules.specs.Numbers.{softs, bits_for, largest}
use Rattle.rules.specs.Logic.{Const}
use Rattle.rules.specs.Value.{Value, from_uint, x_nets, zext, Pos}
use Rattle.rules.specs.Cell.{WritePort, ReadFlipFlop, ReadPort, Mem, Plan, new_flip_flop, with_enable, write_wide_log2, read_wide_log2, write_at, read_at_of, held}
use Rattle.rules.specs.Log.{flag, Trace, ◌>>=◌, ◌>>◌, done, add_void_of, add_mux_of, add_eq_of, add_dff_of, replace_value_of}
use Rattle.rules.specs.Merge.{add_dedup_mux_of}
use Rattle.rules.specs.Ports.{Driving, unmap_all, is_empty}
use Rattle.rules.specs.Geometry.{Layout, layout_of, row_len_of, full_depth_of, part_depth_of, all_chunks, full_mems, all_mems, columns, Spot, under}
use Rattle.rules.specs.Image.{depth_at, layout, image_of, Laid}

-- ---- an address bit is soft, selects a row of a wide port, is an address bit of the result, or lies above those
pub data Role : Type 0 where
  Soft Wide Row High : Role

unfoldable pub role_of : ℕ → ℕ → ℕ → Role
role_of mask wide rows = when eqb (mask % 2) 1 then Soft else when ltb 0 wide then Wide else when ltb 0 rows then Row else High

unfoldable pub is_chunk : Role → Bool
is_chunk Soft = true
is_chunk Wide = false
is_chunk Row = false
is_chunk High = true

unfoldable pub is_row : Role → Bool
is_row Soft = false
is_row Wide = false
is_row Row = true
is_row High = false

-- the bit doubles the pieces of a port
unfoldable pub doubles : Role → Bool
doubles Soft = true
doubles Wide = true
doubles Row = false
doubles High = false

-- what is left of the wide bits and the row bits after a bit
unfoldable pub wide_after : Role → ℕ → ℕ
wide_after Soft n = n
wide_after Wide n = n - 1
wide_after Row n = n
wide_after High n = n

unfoldable pub rows_after : Role → ℕ → ℕ
rows_after Soft n = n
rows_after Wide n = n
rows_after Row n = n - 1
rows_after High n = n

-- the roles of the next bits of an address, lowest first
unfoldable pub roles : ℕ → ℕ → ℕ → Value → List Role
roles mask wide rows [] = []
roles mask wide rows (a ∷ more) =
    let r = role_of mask wide rows in
    r ∷ roles (mask / 2) (wide_after r wide) (rows_after r rows) more

-- the roles of the k bits that a wide port leaves out of its address
unfoldable pub low_roles : ℕ → ℕ → List Role
low_roles zero mask = []
low_roles (suc k) mask = (when eqb (mask % 2) 1 then Soft else Wide) ∷ low_roles k (mask / 2)

-- of bits and their roles: the result's address, and the mux address with its roles
unfoldable pub row_nets : List Role → Value → Value
row_nets [] v = []
row_nets (r ∷ rs) [] = []
row_nets (r ∷ rs) (a ∷ more) = when is_row r then a ∷ row_nets rs more else row_nets rs more

unfoldable pub mux_nets : List Role → Value → Value
mux_nets [] v = []
mux_nets (r ∷ rs) [] = []
mux_nets (r ∷ rs) (a ∷ more) = when is_row r then mux_nets rs more else a ∷ mux_nets rs more

unfoldable pub mux_roles : List Role → List Role
mux_roles [] = []
mux_roles (r ∷ rs) = when is_row r then mux_roles rs else r ∷ mux_roles rs

-- the chunk and the row of a wide port that the bits of a number select, by their roles: for Wide Soft High the number 6, lowest bit first 0 1 1, is
-- row 0 and chunk 3 (proofs/Worked.antt computes this and the examples below)
unfoldable pub spot_by : List Role → ℕ → Spot
spot_by [] x = record { chunk = 0; row = 0 }
spot_by (r ∷ rs) x = under (is_chunk r) (x % 2) (spot_by rs (x / 2))

-- ---- the split of a port with old wide log `old` and new wide log `new`
-- Mask 2, hard 1, depth 8, address nets 10 11 12: net 10 is the result's address, 11 is soft, 12 lies above the hard bits. So the mux address is 11 12 and
-- there are four pieces.
pub record Split : Type 0 where
  pub old : ℕ
  pub new : ℕ
  pub addr : Value
  pub mux_addr : Value
  -- of each bit that tells pieces apart: the old wide bits, then those of the mux address; what is past its end are chunk bits. In the example: Soft High,
  -- then High for each bit that four pieces take
  pub piece_roles : List Role
  pub pieces : ℕ

unfoldable pub count_doubles : List Role → ℕ
count_doubles rs = sum_by (λ r. flag (doubles r)) rs

unfoldable pub split_by : List Role → Layout → ℕ → ℕ → Value → Split
split_by rs q old new addr =
    let pieces = all_chunks q * 2 ^ count_doubles rs in
    let useful = bits_for pieces in
    record {
      old = old;
      new = new;
      addr = zext (row_nets rs addr) (q.hard - new);
      mux_addr = zext (mux_nets rs addr) useful;
      piece_roles = low_roles old q.soft_mask ++ mux_roles rs ++ replicate useful High;
      pieces = pieces;
    }

unfoldable pub split_addr : Layout → ℕ → ℕ → Value → Split
split_addr q old new addr =
    split_by (roles (q.soft_mask / 2 ^ old) (new - (old - softs old q.soft_mask)) (q.hard - new) addr) q old new addr

-- where piece x of old row j starts among the columns of the 2^new rows, row after row. With an old and a new wide log of 1, two entries and eight columns
-- to a row, piece 1 of old row 1 is number 3 by Wide Soft High: row 1, chunk 1, so it starts at 8 + 2
unfoldable pub piece_start : Layout → Split → ℕ → ℕ → ℕ
piece_start q s x j =
    let p = spot_by s.piece_roles (j + 2 ^ s.old * x) in
    p.row * columns q + p.chunk * row_len_of q

-- the old rows of a port, and the new
unfoldable pub old_rows : Split → List ℕ
old_rows s = up_from 0 (2 ^ s.old)

unfoldable pub new_rows : Split → List ℕ
new_rows s = up_from 0 (2 ^ s.new)

-- ---- the entries applied to a port's data
-- for each old row of the port and each entry, the bit of the data that it names
unfoldable pub sources : Layout → Split → List ℕ
sources q s = concat_map (λ j. map (λ e. when eqb e None then None else j * q.width + e) q.entries) (old_rows s)

module _ {A : Type 0} where
  -- a None is blank
  unfoldable pub arrange : A → List ℕ → List A → List A
  arrange blank es v = map (λ e. when eqb e None then blank else get_or v e blank) es

-- a None repeats what is before it
unfoldable pub repeating : ℕ → List ℕ → List ℕ → List ℕ
repeating last [] v = []
repeating last (e ∷ es) v =
    let n = (when eqb e None then last else get_or v e X) in
    n ∷ repeating n es v

-- back: each arranged bit to the place that its entry names. Entries 1 None 0 bring 20 21 22 to 22 20
unfoldable pub restore : List ℕ → List ℕ → List ℕ → List ℕ
restore [] v acc = acc
restore (e ∷ es) [] acc = acc
restore (e ∷ es) (a ∷ more) acc = restore es more (when eqb e None then acc else set acc e a)

-- ---- pieces among the columns
-- piece x of these old rows stored: the arranged bits are cut into rows of entries, each goes to where its old row's piece starts. In the example above
-- piece 1 of bits 20 21 22 23 stores 20 21 from column 2 on and 22 23 from column 10 on
unfoldable pub store_rows : Layout → Split → ℕ → List ℕ → List ℕ → List ℕ → List ℕ
store_rows q s x [] v cols = cols
store_rows q s x (j ∷ js) v cols = store_rows q s x js (drop (row_len_of q) v) (sets cols (piece_start q s x j) (take (row_len_of q) v))

unfoldable pub store_piece : Layout → Split → ℕ → List ℕ → List ℕ → List ℕ
store_piece q s x v cols = store_rows q s x (old_rows s) v cols

-- the same arranged bits stored as each of these pieces
unfoldable pub store_each : Layout → Split → List ℕ → List ℕ → List ℕ → List ℕ
store_each q s [] v cols = cols
store_each q s (x ∷ xs) v cols = store_each q s xs v (store_piece q s x v cols)

-- piece x read from the columns, in the order of the data
unfoldable pub load_piece : Layout → Split → ℕ → Value → Value
load_piece q s x cols =
    restore (sources q s) (concat_map (λ j. part (piece_start q s x j) (row_len_of q) cols) (old_rows s)) (x_nets (2 ^ s.old * q.width))

-- memory n's part of the columns of each new row
unfoldable pub mem_part : Layout → Split → ℕ → List ℕ → List ℕ
mem_part q s n cols = concat_map (λ r. part (r * columns q + n * q.unit) q.unit cols) (new_rows s)

-- as many of one kind as all new rows have columns
unfoldable pub blank : Layout → Split → ℕ → List ℕ
blank q s t = replicate (2 ^ s.new * columns q) t

-- ---- write ports
-- the port of all memories together
pub record WideWrite : Type 0 where
  pub split : Split
  pub port : WritePort

-- the mask of piece x: the whole mux address is compared; an empty one still makes the request
unfoldable pub piece_mask : Split → Value → ℕ → Trace Value
piece_mask s mask x = do
  e ← add_eq_of s.mux_addr (from_uint (length s.mux_addr) x)
  when is_empty s.mux_addr then done mask else add_dedup_mux_of (Pos e) mask (replicate (length mask) 0)

-- the mask's columns after these pieces
unfoldable pub mask_pieces : Layout → Split → Value → List ℕ → Value → Trace Value
mask_pieces q s mask [] cols = done cols
mask_pieces q s mask (x ∷ xs) cols = do
  k ← piece_mask s mask x
  mask_pieces q s mask xs (store_piece q s x k cols)

unfoldable pub swizzle_write : Layout → Split → WritePort → Trace WideWrite
swizzle_write q s p = do
  k ← mask_pieces q s (repeating X (sources q s) p.mask) (up_from 0 s.pieces) (blank q s 0)
  done (record {
    split = s;
    port = record {
      addr = s.addr;
      bits = store_each q s (up_from 0 s.pieces) (arrange X (sources q s) p.bits) (blank q s X);
      mask = k;
      clock = p.clock;
    };
  })

unfoldable pub swizzle_writes : Mem → Layout → List WritePort → List ℕ → Trace (List WideWrite)
swizzle_writes m q [] ns = done []
swizzle_writes m q (p ∷ ps) [] = done []
swizzle_writes m q (p ∷ ps) (n ∷ ns) = do
  w ← swizzle_write q (split_addr q (write_wide_log2 m p) n p.addr) p
  ws ← swizzle_writes m q ps ns
  done (w ∷ ws)

unfoldable pub write_part : Layout → ℕ → WideWrite → WritePort
write_part q n w = record {
  addr = w.port.addr;
  bits = mem_part q w.split n w.port.bits;
  mask = mem_part q w.split n w.port.mask;
  clock = w.port.clock;
}

-- ---- read ports
-- pieces paired by one bit; a last piece alone passes without a mux
unfoldable pub pair_up : ℕ → List Value → Trace (List Value)
pair_up bit [] = done []
pair_up bit (a ∷ []) = done (a ∷ [])
pair_up bit (a ∷ b ∷ l) = do
  v ← add_mux_of (Pos bit) b a
  vs ← pair_up bit l
  done (v ∷ vs)

-- the tree over the pieces: paired by the lowest bit, then the tree over half as many, rounded up
unfoldable pub mux_tree : Value → List Value → Trace Value
mux_tree [] l = done (get_or l 0 [])
mux_tree (bit ∷ bits) l = do
  half ← pair_up bit l
  mux_tree bits half

-- n voids of so many nets, as one value
unfoldable pub add_voids : ℕ → ℕ → Trace Value
add_voids zero width = done []
add_voids (suc n) width = do
  v ← add_void_of width
  vs ← add_voids n width
  done (v ++ vs)

-- the mux address of a clocked read passes a flip-flop, even when it is empty
unfoldable pub clocked_addr : Option ReadFlipFlop → Value → Trace Value
clocked_addr none a = done a
clocked_addr (some f) a = add_dff_of (with_enable (new_flip_flop a f.controls.clock) f.controls.enable)

unfoldable pub const_columns : Layout → Split → Const → Const
const_columns q s t = store_each q s (up_from 0 s.pieces) (arrange trit_x (sources q s) t) (blank q s trit_x)

unfoldable pub wide_flip_flop : Layout → Split → Option ReadFlipFlop → Option ReadFlipFlop
wide_flip_flop q s none = none
wide_flip_flop q s (some f) = some (record {
  controls = f.controls;
  clear_value = const_columns q s f.clear_value;
  reset_value = const_columns q s f.reset_value;
  init_value = const_columns q s f.init_value;
  relations = f.relations;
})

-- the port of all memories together, and the nets of all its columns
pub record WideRead : Type 0 where
  pub split : Split
  pub flip_flop : Option ReadFlipFlop
  pub output : Value

unfoldable pub swizzle_read : Layout → Split → ReadPort → Value → Trace WideRead
swizzle_read q s p output = do
  v ← add_voids (2 ^ s.new) (columns q)
  a ← clocked_addr p.flip_flop s.mux_addr
  t ← mux_tree a (map (λ x. load_piece q s x v) (up_from 0 s.pieces))
  replace_value_of output t
  done (record { split = s; flip_flop = wide_flip_flop q s p.flip_flop; output = v })

-- the outputs that are left go to the ports that are left
unfoldable pub swizzle_reads : Mem → Layout → List ReadPort → List ℕ → Value → Trace (List WideRead)
swizzle_reads m q [] ns output = done []
swizzle_reads m q (p ∷ ps) [] output = done []
swizzle_reads m q (p ∷ ps) (n ∷ ns) output = do
  r ← swizzle_read q (split_addr q (read_wide_log2 m p) n p.addr) p (take p.data_len output)
  rs ← swizzle_reads m q ps ns (drop p.data_len output)
  done (r ∷ rs)

unfoldable pub flip_flop_part : Layout → Split → ℕ → Option ReadFlipFlop → Option ReadFlipFlop
flip_flop_part q s n none = none
flip_flop_part q s n (some f) = some (record {
  controls = f.controls;
  clear_value = mem_part q s n f.clear_value;
  reset_value = mem_part q s n f.reset_value;
  init_value = mem_part q s n f.init_value;
  relations = f.relations;
})

unfoldable pub read_part : Layout → ℕ → WideRead → ReadPort
read_part q n r = record {
  addr = r.split.addr;
  data_len = q.unit * 2 ^ r.split.new;
  flip_flop = flip_flop_part q r.split n r.flip_flop;
}

-- ---- the resulting memories
unfoldable pub mem_depth : Layout → ℕ → ℕ
mem_depth q n = depth_at (full_mems q) (full_depth_of q) (part_depth_of q) n

unfoldable pub result_mem : Layout → List ℕ → List WideWrite → List WideRead → ℕ → Driving
result_mem q image ws rs n = record {
  memory = record {
    depth = mem_depth q n;
    width = q.unit;
    init = image_of q image n;
    writes = map (write_part q n) ws;
    reads = map (read_part q n) rs;
  };
  output = concat_map (λ r. mem_part q r.split n r.output) rs;
}

unfoldable pub swizzle_rows : Mem → Value → Plan → Trace (List Driving)
swizzle_rows m output p =
    let q = layout_of m p in
    do
      ws ← swizzle_writes m q m.writes p.write_wide
      rs ← swizzle_reads m q m.reads p.read_wide_of output
      done (map (result_mem q (layout q m.init) ws rs) (up_from 0 (all_mems q)))

-- depth 0: the flip-flops are unmapped and the outputs replaced by X
unfoldable pub swizzle_empty : Mem → Value → Trace (List Driving)
swizzle_empty m output = do
  x ← unmap_all m output
  replace_value_of x.output (x_nets (length x.output))
  done []

-- width 0 gives no memories, and asks for nothing
unfoldable pub swizzle : Mem → Value → Plan → Trace (List Driving)
swizzle m output p =
    when eqb m.width 0 then done []
    else when eqb m.depth 0 then swizzle_empty m output
    else swizzle_rows m output p

-- the image and the laid-out state that an accepted swizzle hands on
unfoldable pub swizzle_image : Mem → Plan → List ℕ
swizzle_image m p = layout (layout_of m p) m.init

unfoldable pub swizzle_laid : Mem → Plan → Laid
swizzle_laid m p = some (layout_of m p)

-- ---- the lent room of a result
-- the memories share ports: for each write port its address once, then the data and then the mask of all memories, memory after memory; then for
-- each read port its address
unfoldable pub shared_write : List Driving → ℕ → Value
shared_write ds j =
    get_or (map (λ d. (write_at d.memory j).addr) ds) 0 []
    ++ (concat_map (λ d. (write_at d.memory j).bits) ds ++ concat_map (λ d. (write_at d.memory j).mask) ds)

unfoldable pub shared_nets : Mem → List Driving → Value
shared_nets m ds =
    concat_map (shared_write ds) (up_from 0 (length m.writes))
    ++ concat_map (λ i. get_or (map (λ d. (read_at_of d.memory i).addr) ds) 0 []) (up_from 0 (length m.reads))

-- for each clocked read port the trits of clear of all memories, then those of reset and of init
unfoldable pub shared_read : List Driving → ℕ → Const
shared_read ds i =
    let fs = concat_map (λ d. held (read_at_of d.memory i).flip_flop) ds in
    concat_map (λ f. f.clear_value) fs ++ (concat_map (λ f. f.reset_value) fs ++ concat_map (λ f. f.init_value) fs)

unfoldable pub shared_trits : Mem → List Driving → Const
shared_trits m ds = concat_map (shared_read ds) (up_from 0 (length m.reads))

-- the nets of scratch that a call is lent: the pieces of one read port
unfoldable pub piece_nets : Mem → Plan → ReadPort × ℕ → ℕ
piece_nets m p x = (split_addr (layout_of m p) (read_wide_log2 m x.0) x.1 x.0.addr).pieces * x.0.data_len

unfoldable pub swizzle_scratch : Mem → Plan → ℕ
swizzle_scratch m p =
    when eqb m.width 0 then 0 else when eqb m.depth 0 then 0 else largest (map (piece_nets m p) (pairs m.reads p.read_wide_of))
