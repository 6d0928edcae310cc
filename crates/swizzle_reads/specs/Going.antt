-- What the read ports of a swizzle leave, one after the other: the log, the nets and trits in lent room, and the struct of the memories.
use Rattle.std.specs.Prelude.{◌≡◌, ℕ, suc, ◌+◌, ◌*◌, ◌^◌, ◌≤◌, max, Bool, not, ◌&&◌, List, [], ◌∷◌, length, take, drop, get_or, set, eqb, leb, ltb}
use Rattle.std.specs.Borrow.{GName}
use Rattle.std.proofs.Math.Option.{Option, none, some}
use Rattle.std.proofs.lemmas.List.Edits.{sets}
use Rattle.lists.specs.Choice.{when◌then◌else◌}
use Rattle.lists.specs.Views.{views}
use Rattle.rules.specs.Limits.{X}
use Rattle.rules.specs.Value.{Value}
use Rattle.rules.specs.Cell as rules
use Rattle.rules.specs.Cell.{wide_log2}
use Rattle.rules.specs.Conditions.{bad_layout}
use Rattle.rules.specs.Geometry.{Layout, columns}
use Rattle.rules.specs.Swizzle as swizzle
use Rattle.rules.specs.Swizzle.{split_addr, wide_flip_flop, swizzle_read}
use Rattle.log_entries.specs.Emission.{Lent, run}
use Rattle.log_entries.specs.declared.Log.{Log}
use Rattle.log_entries.specs.View.{lent_of}
use Rattle.net_memory.specs.declared.MemoryReadPort.{MemoryReadPort}
use Rattle.net_memory.specs.declared.Memory.{Memory}
use Rattle.net_memory.specs.View.{addr_size, trit_size, read_by, read_ports_of, reads_start, read_port, read_nets, read_trits}
use Rattle.swizzle_split.specs.Steps.{can_split}
use Rattle.swizzle_result.specs.declared.WideReadPort.{WideReadPort}
use Rattle.swizzle_result.specs.declared.WideMemory.{WideMemory}
use Rattle.swizzle_result.specs.Held.{clock_trits}
use Rattle.swizzle_reads.specs.declared.Reads.{Reads}

-- the log, the nets' room with where the next address goes, the trits' room with where the next trits go, and the struct; with the names by which the
-- lenders know both rooms again
pub record Going : Type 0 where
  pub lent : Lent
  pub nets : List ℕ
  pub nets_name : GName
  pub trits : List ℕ
  pub trits_name : GName
  pub nets_at_of : ℕ
  pub trits_at_of : ℕ
  pub memory : WideMemory

-- what a log and the machine's rooms hold
abbrev pub going_of : Log → Reads → Going
going_of log g = record { lent = lent_of log; nets = g.nets.now; nets_name = g.nets.ghost_name; trits = g.trits.now; trits_name = g.trits.ghost_name; nets_at_of = g.nets_at; trits_at_of = g.trits_at; memory = g.memory }

-- a struct with read port i exchanged
abbrev pub with_read_port : WideMemory → ℕ → WideReadPort → WideMemory
with_read_port g i p = record {
  full = g.full;
  mems = g.mems;
  full_depth = g.full_depth;
  part_depth = g.part_depth;
  unit = g.unit;
  write_count = g.write_count;
  read_count = g.read_count;
  write_ports = g.write_ports;
  read_ports = set g.read_ports i p;
}

-- the port of all memories, whose output nets start at the next free net
abbrev pub wide_of : swizzle.Split → MemoryReadPort → ℕ → WideReadPort
wide_of s r next = record {
  addr_len = length s.addr;
  wide = s.new;
  first = next;
  relations_len = r.relations_len;
  relations = r.relations;
  flip_flop = r.flip_flop;
}

-- a port's trits of all memories
abbrev pub port_trits : Layout → swizzle.Split → rules.ReadPort → List ℕ
port_trits q s p = clock_trits q s (wide_flip_flop q s p.flip_flop)

-- ---- one port: its struct, and the port of the rules
pub record InPort : Type 0 where
  pub struct : MemoryReadPort
  pub port : rules.ReadPort

abbrev pub in_port : MemoryReadPort → List ℕ → List ℕ → InPort
in_port r x y = record { struct = r; port = read_by r x y }

-- its old wide log, and its split
abbrev pub old_of : Layout → rules.ReadPort → ℕ
old_of q p = wide_log2 q.width p.data_len

abbrev pub split_of : Layout → rules.ReadPort → ℕ → swizzle.Split
split_of q p new = split_addr q (old_of q p) new p.addr

-- how many trits a port has
abbrev pub trits_if : Option rules.ReadFlipFlop → ℕ → ℕ
trits_if none n = 0
trits_if (some f) n = n + (n + n)

-- what is left by a port: what the rules log, its address, its trits and its struct
abbrev pub port_done : Layout → swizzle.Split → ℕ → InPort → Value → Going → Going
port_done q s i x out g = record {
  lent = run (swizzle_read q s x.port out) g.lent;
  nets = sets g.nets g.nets_at_of s.addr;
  nets_name = g.nets_name;
  trits = sets g.trits g.trits_at_of (port_trits q s x.port);
  trits_name = g.trits_name;
  nets_at_of = g.nets_at_of + length s.addr;
  trits_at_of = g.trits_at_of + length (port_trits q s x.port);
  memory = with_read_port g.memory i (wide_of s x.struct g.lent.state.next);
}

-- there are pieces, which the scratch holds, and the port's nets are below X
unfoldable pub pieces_fit : ℕ → ℕ → ℕ → ℕ → ℕ → Bool
pieces_fit pieces w room next size = ltb 0 pieces && (leb (pieces * w) room && leb (next + size) X)

-- there are columns, and the rooms hold the port's nets and trits
unfoldable pub rooms_fit : ℕ → ℕ → ℕ → ℕ → ℕ → ℕ → ℕ → Bool
rooms_fit size nets nets_at_of addr trits trits_at_of kinds = ltb 0 size && (leb (nets_at_of + addr) nets && leb (trits_at_of + kinds) trits)

-- a port is within the limits
unfoldable pub port_fits : Layout → swizzle.Split → rules.ReadPort → ℕ → Going → Bool
port_fits q s p room g =
    can_split q s.old s.new (length p.addr)
    && (pieces_fit s.pieces (2 ^ s.old * q.width) room g.lent.state.next (2 ^ s.new * columns q)
    && rooms_fit (2 ^ s.new * columns q) (length g.nets) g.nets_at_of (length s.addr) (length g.trits) g.trits_at_of (trits_if p.flip_flop (2 ^ s.new * columns q)))

-- the port with this new wide log; nothing where it passes the limits
unfoldable pub port_if : Layout → ℕ → ℕ → InPort → ℕ → Value → Going → Going
port_if q room i x new out g =
    let s = split_of q x.port new in
    when port_fits q s x.port room g then port_done q s i x out g else g

-- these ports, from number i on; the outputs that are left go to the ports that are left
unfoldable pub ports_from : Layout → ℕ → ℕ → List InPort → List ℕ → Value → Going → Going
ports_from q room i [] ns output g = g
ports_from q room i (x ∷ xs) ns output g =
    ports_from q room (suc i) xs (drop 1 ns) (drop x.port.data_len output) (port_if q room i x (get_or ns 0 0) (take x.port.data_len output) g)

-- the read ports of a memory by its struct and arrays
abbrev pub in_ports : Memory → List ℕ → List ℕ → List InPort
in_ports m nets trits = views addr_size trit_size in_port (read_ports_of m) (drop (reads_start m) nets) (drop m.init_len trits)

-- port i of them
abbrev pub port_of : Memory → List ℕ → List ℕ → ℕ → InPort
port_of m nets trits i = in_port (read_port m i) (read_nets m nets i) (read_trits m trits i)

-- ---- the scratch past the pieces is kept
abbrev pub need_of : Layout → InPort → ℕ → ℕ
need_of q x new = (split_of q x.port new).pieces * (2 ^ old_of q x.port * q.width)

abbrev pub ScratchKept : Layout → InPort → ℕ → List ℕ → List ℕ → Type 0
ScratchKept q x new before after = (k : ℕ) → need_of q x new ≤ k → drop k after ≡ drop k before

-- the most that one of these ports needs
unfoldable pub most_need : Layout → List InPort → List ℕ → ℕ
most_need q [] ns = 0
most_need q (x ∷ xs) ns = max (need_of q x (get_or ns 0 0)) (most_need q xs (drop 1 ns))

abbrev pub AllKept : Layout → List InPort → List ℕ → List ℕ → List ℕ → Type 0
AllKept q xs ns before after = (k : ℕ) → most_need q xs ns ≤ k → drop k after ≡ drop k before

-- a layout that an accepted swizzle has, with rows to a memory
unfoldable pub has_rows : Layout → Bool
has_rows q = not (bad_layout q) && not (eqb q.width 0)

-- all read ports; nothing where the layout is not such
unfoldable pub reads_if : Layout → ℕ → List InPort → List ℕ → Value → Going → Going
reads_if q room xs ns output g = when has_rows q then ports_from q room 0 xs ns output g else g
