-- What the code leaves of a read port, by the machine's numbers.
use Rattle.std.specs.Prelude.{ℕ, ◌+◌, ◌*◌, ◌^◌, Bool, ◌&&◌, List, length}
use Rattle.std.proofs.lemmas.List.Edits.{sets}
use Rattle.lists.specs.Lists.{part}
use Rattle.rules.specs.Value.{Value}
use Rattle.log_entries.specs.Emission.{Lent, run}
use Rattle.net_memory.specs.FlipFlop.{MemoryReadFlipFlop}
use Rattle.std.specs.Prelude.{None, Some}
use Rattle.net_memory.specs.declared.MemoryReadPort.{MemoryReadPort}
use Rattle.image_geometry.specs.declared.Params.{Params}
use Rattle.swizzle_pieces.specs.declared.Pieces.{Pieces}
use Rattle.swizzle_split.specs.declared.Split.{Split}
use Rattle.swizzle_read.specs.Port.{read_of}
use Rattle.swizzle_result.specs.declared.WideReadPort.{WideReadPort}
use Rattle.swizzle_columns.specs.declared.WidePort.{WidePort}
use Rattle.swizzle_read_trits.specs.Trits.{three_trits}
use Rattle.swizzle_reads.specs.declared.Sizes.{Sizes}
use Rattle.swizzle_reads.specs.Going.{Going, with_read_port, pieces_fit, rooms_fit}

-- a port's numbers for its pieces, and for its columns
abbrev pub numbers_of : Params → Sizes → Split → Pieces
numbers_of p z s = record { first = 0; width = p.width; columns = z.columns; mask = s.mask; rows = 2 ^ s.old; count = s.pieces }

abbrev pub wide_by_of : Params → Sizes → Split → WidePort
wide_by_of p z s = record { mems = z.mems; unit = p.unit; rows = 2 ^ s.new; olds = 2 ^ s.old; width = p.width; chunks = s.mask; pieces = s.pieces }

-- the columns of all its new rows, and the nets of a piece
abbrev pub size_by : Sizes → Split → ℕ
size_by z s = 2 ^ s.new * z.columns

abbrev pub piece_by : Params → Split → ℕ
piece_by p s = 2 ^ s.old * p.width

abbrev pub read_by' : Params → Sizes → Split → MemoryReadFlipFlop → Value → List ℕ → Value → List ℕ → Lent → Lent
read_by' p z s f mux es out scratch l =
    run (read_of (numbers_of p z s) (2 ^ s.new) f mux es out (piece_by p s) scratch) l

-- its trits, and how many they are
abbrev pub trits_by : MemoryReadFlipFlop → Params → Sizes → Split → MemoryReadPort → List ℕ → List ℕ → ℕ → List ℕ → List ℕ
trits_by None p z s r y es at room = room
trits_by (Some f) p z s r y es at room =
    three_trits (wide_by_of p z s) es (part 0 r.clear_len y) (part r.clear_len r.reset_len y) (part (r.clear_len + r.reset_len) r.init_len y) at (size_by z s) room

abbrev pub need_by : MemoryReadFlipFlop → ℕ → ℕ
need_by None n = 0
need_by (Some f) n = n + (n + n)

-- the port of all memories
abbrev pub port_by : Split → MemoryReadPort → ℕ → WideReadPort
port_by s r next = record {
  addr_len = s.hw_len;
  wide = s.new;
  first = next;
  relations_len = r.relations_len;
  relations = r.relations;
  flip_flop = r.flip_flop;
}

-- all of it
unfoldable pub port_raw : Params → Sizes → Split → ℕ → MemoryReadPort → List ℕ → Value → Value → List ℕ → Value → List ℕ → Going → Going
port_raw p z s i r y hw mux es out scratch g = record {
  lent = read_by' p z s r.flip_flop mux es out scratch g.lent;
  nets = sets g.nets g.nets_at_of hw;
  nets_name = g.nets_name;
  trits = trits_by r.flip_flop p z s r y es g.trits_at_of g.trits;
  trits_name = g.trits_name;
  nets_at_of = g.nets_at_of + length hw;
  trits_at_of = g.trits_at_of + need_by r.flip_flop (size_by z s);
  memory = with_read_port g.memory i (port_by s r g.lent.state.next);
}

-- the limits
unfoldable pub raw_fits : Params → Sizes → Split → MemoryReadFlipFlop → ℕ → ℕ → ℕ → ℕ → ℕ → ℕ → Bool
raw_fits p z s f room next nets nets_at_of trits trits_at_of =
    pieces_fit s.pieces (piece_by p s) room next (size_by z s) && rooms_fit (size_by z s) nets nets_at_of s.hw_len trits trits_at_of (need_by f (size_by z s))
