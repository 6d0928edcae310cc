-- What ports of a swizzle ask for, by the numbers of a split: a port, and all.
use Rattle.std.specs.Prelude.{◌≡◌, ℕ, ◌+◌, ◌-◌, ◌*◌, ◌^◌, ◌≤◌, ◌<◌, max, min, Bool, true, false, List, [], ◌∷◌, map, length, get_or, eqb}
use Rattle.lists.specs.Choice.{when◌then◌else◌}
use Rattle.lists.specs.Lists.{up_from}
use Rattle.lists.specs.Distinct.{kept}
use Rattle.rules.specs.Limits.{X, addr_bits, max_ports, max_wide, max_width, max_row, max_hard, max_columns, max_merge}
use Rattle.rules.specs.Value.{Value}
use Rattle.rules.specs.Cell.{wide_log2}
use Rattle.rules.specs.Swizzle.{Split, split_addr, repeating}
use Rattle.net_memory.specs.declared.Memory.{Memory}
use Rattle.net_memory.specs.FlipFlop.{MemoryReadFlipFlop}
use Rattle.std.specs.Prelude.{None, Some}
use Rattle.net_memory.specs.View.{read_port, read_nets, write_port, write_nets, write_by}
use Rattle.image_geometry.specs.declared.Params.{Params}
use Rattle.image_geometry.specs.View.{layout_by}
use Rattle.swizzle_split.specs.declared.Split as machine
use Rattle.swizzle_split.specs.Steps.{can_split}
use Rattle.swizzle_columns.specs.declared.WidePort.{WidePort}
use Rattle.swizzle_columns.specs.Rows.{all_sources}
use Rattle.swizzle_columns.specs.Wide.{rows_fit}
use Rattle.swizzle_counts.specs.declared.Needs.{Needs}

-- ---- sums
abbrev pub no_needs : Needs
no_needs = record { words = 0; nets = 0; room = 0; trits = 0; scratch = 0 }

-- scratch serves one port after the other
abbrev pub plus_needs : Needs → Needs → Needs
plus_needs a b = record {
  words = a.words + b.words;
  nets = a.nets + b.nets;
  room = a.room + b.room;
  trits = a.trits + b.trits;
  scratch = max a.scratch b.scratch;
}

unfoldable pub all_needs : List Needs → Needs
all_needs [] = no_needs
all_needs (n ∷ ns) = plus_needs n (all_needs ns)

-- no number is larger
pub record Most (k : ℕ) (n : Needs) : Type 0 where
  pub words_max : n.words ≤ k
  pub nets_max : n.nets ≤ k
  pub room_max : n.room ≤ k
  pub trits_max : n.trits ≤ k

-- more than one port asks for
abbrev pub port_most : ℕ
port_most = 137438953472

-- ---- the split of an address, in which the entries of a row have no part
abbrev pub split_of : Params → ℕ → ℕ → Value → Split
split_of p old new addr = split_addr (layout_by p []) old new addr

pub record Lengths (s : Split) (r : machine.Split) : Type 0 where
  pub hw_len : r.hw_len ≡ length s.addr
  pub mux_len : r.mux_len ≡ length s.mux_addr
  pub pieces_are : r.pieces ≡ s.pieces

-- it can be made, and its numbers are within the limits of a plan
pub record PortFits (p : Params) (columns old new : ℕ) (addr : Value) : Type 0 where
  pub can : can_split (layout_by p []) old new (length addr) ≡ true
  pub pieces_some : 0 < (split_of p old new addr).pieces
  pub pieces_max : (split_of p old new addr).pieces ≤ 524288
  pub mux_max : length (split_of p old new addr).mux_addr ≤ addr_bits
  pub addr_max : length (split_of p old new addr).addr ≤ max_hard
  pub new_max : new ≤ max_wide
  pub columns_max : columns ≤ max_columns

-- ---- a port by its numbers: the pieces, the nets of the mux address and of the result's address, the new rows, the columns of each, and
-- the bits of a read port's data, or the nets of a write port's mask that differ
pub record Ranges (n m hw rows columns len : ℕ) : Type 0 where
  pub pieces_some : 0 < n
  pub pieces_max : n ≤ 524288
  pub mux_max : m ≤ addr_bits
  pub addr_max : hw ≤ max_hard
  pub rows_max : rows ≤ 16
  pub columns_max : columns ≤ max_columns
  pub len_max : len ≤ 4096

abbrev pub read_from : ℕ → ℕ → ℕ → ℕ → ℕ → ℕ → Bool → Needs
read_from n m hw rows columns len false = record {
  words = rows * 4 + ((n - 1) * (5 + 2 * len) + (4 + 2 * len));
  nets = rows * columns + (n - 1) * len;
  room = hw;
  trits = 0;
  scratch = n * len;
}
read_from n m hw rows columns len true = record {
  words = rows * 4 + (13 + 4 * m + ((n - 1) * (5 + 2 * len) + (4 + 2 * len)));
  nets = rows * columns + (m + (n - 1) * len);
  room = hw;
  trits = 3 * (rows * columns);
  scratch = n * len;
}

-- an empty mux address makes no mux
abbrev pub mux_words : ℕ → ℕ → ℕ
mux_words m kept = when eqb m 0 then 0 else 5 + 2 * kept

abbrev pub mux_nets : ℕ → ℕ → ℕ
mux_nets m kept = when eqb m 0 then 0 else kept

abbrev pub write_from : ℕ → ℕ → ℕ → ℕ → ℕ → ℕ → Needs
write_from n m hw rows columns kept = record {
  words = n * (4 + 2 * m + mux_words m kept);
  nets = n * (1 + mux_nets m kept);
  room = hw + 2 * (rows * columns);
  trits = 0;
  scratch = 0;
}

-- ---- read port i
abbrev pub is_clocked : MemoryReadFlipFlop → Bool
is_clocked None = false
is_clocked (Some f) = true

abbrev pub read_log : Memory → ℕ → ℕ
read_log m i = wide_log2 m.width (read_port m i).data_len

abbrev pub read_needs : Memory → List ℕ → Params → ℕ → ℕ → ℕ → Needs
read_needs m nets p columns new i =
    let s = split_of p (read_log m i) new (read_nets m nets i) in
    read_from s.pieces (length s.mux_addr) (length s.addr) (2 ^ new) columns (read_port m i).data_len (is_clocked (read_port m i).flip_flop)

pub record ReadFits (m : Memory) (nets : List ℕ) (p : Params) (columns new i : ℕ) : Type 0 where
  pub there : i < min max_ports m.read_count
  pub split : PortFits p columns (read_log m i) new (read_nets m nets i)
  pub len_max : (read_port m i).data_len ≤ 4096

pub record ReadsFit (m : Memory) (nets : List ℕ) (p : Params) (columns : ℕ) (reads : List ℕ) : Type 0 where
  pub few : length reads ≤ max_ports
  pub each : (i : ℕ) → i < length reads → ReadFits m nets p columns (get_or reads i 0) i

unfoldable pub reads_needs : Memory → List ℕ → Params → ℕ → List ℕ → Needs
reads_needs m nets p columns reads = all_needs (map (λ i. read_needs m nets p columns (get_or reads i 0) i) (up_from 0 (length reads)))

-- ---- write port i
-- the nets of a row's mask that differ
abbrev pub kept_nets : ℕ → ℕ → List ℕ → Value → ℕ
kept_nets olds width es mask = length (kept eqb (repeating X (all_sources olds width es) mask))

-- a row of n nets, which a merge takes
pub record MaskFits (w : WidePort) (len n : ℕ) : Type 0 where
  pub fits : rows_fit w len ≡ true
  pub count : n ≡ w.olds * len
  pub few : n ≤ max_merge

abbrev pub write_log : Memory → List ℕ → ℕ → ℕ
write_log m nets i = wide_log2 m.width (length (write_by (write_port m i) (write_nets m nets i) []).bits)

abbrev pub write_addr : Memory → List ℕ → ℕ → Value
write_addr m nets i = (write_by (write_port m i) (write_nets m nets i) []).addr

abbrev pub write_mask : Memory → List ℕ → ℕ → Value
write_mask m nets i = (write_by (write_port m i) (write_nets m nets i) []).mask

abbrev pub write_needs : Memory → List ℕ → Params → ℕ → List ℕ → ℕ → ℕ → Needs
write_needs m nets p columns es new i =
    let s = split_of p (write_log m nets i) new (write_addr m nets i) in
    write_from s.pieces (length s.mux_addr) (length s.addr) (2 ^ new) columns (kept_nets (2 ^ write_log m nets i) m.width es (write_mask m nets i))

pub record WriteFits (m : Memory) (nets : List ℕ) (p : Params) (columns : ℕ) (es : List ℕ) (new i : ℕ) : Type 0 where
  pub there : i < min max_ports m.write_count
  pub split : PortFits p columns (write_log m nets i) new (write_addr m nets i)
  pub old_max : write_log m nets i ≤ max_wide
  pub width_max : m.width ≤ max_width
  pub len_max : length es ≤ max_row

pub record WritesFit (m : Memory) (nets : List ℕ) (p : Params) (columns : ℕ) (es writes : List ℕ) : Type 0 where
  pub few : length writes ≤ max_ports
  pub each : (i : ℕ) → i < length writes → WriteFits m nets p columns es (get_or writes i 0) i

unfoldable pub writes_needs : Memory → List ℕ → Params → ℕ → List ℕ → List ℕ → Needs
writes_needs m nets p columns es writes = all_needs (map (λ i. write_needs m nets p columns es (get_or writes i 0) i) (up_from 0 (length writes)))
