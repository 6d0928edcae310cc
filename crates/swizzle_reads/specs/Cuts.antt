-- What a port's split by a layout leaves, by the machine's struct of both.
use Rattle.std.specs.Prelude.{ℕ, ◌+◌, ◌*◌, ◌≤◌, Bool, List, length}
use Rattle.rules.specs.Value.{Value}
use Rattle.log_entries.specs.Emission.{Lent}
use Rattle.net_memory.specs.FlipFlop.{MemoryReadFlipFlop}
use Rattle.net_memory.specs.declared.MemoryReadPort.{MemoryReadPort}
use Rattle.swizzle_read.specs.Port.{scratch_of}
use Rattle.swizzle_reads.specs.declared.Reads.{Reads}
use Rattle.swizzle_reads.specs.declared.rows.Cut.{Cut}
use Rattle.swizzle_reads.specs.Going.{Going}
use Rattle.swizzle_reads.specs.Raw.{numbers_of, size_by, piece_by, read_by', trits_by, need_by, port_raw, raw_fits}

-- the nets of a piece, the columns of all new rows, and the nets of all pieces
abbrev pub piece_of : Cut → ℕ
piece_of x = piece_by x.rows.layout.params x.split

abbrev pub size_of : Cut → ℕ
size_of x = size_by x.rows.sizes x.split

abbrev pub nets_of : Cut → ℕ
nets_of x = x.split.pieces * piece_of x

-- what is logged, and what is loaded into the scratch
abbrev pub logged : Cut → MemoryReadFlipFlop → Value → Value → List ℕ → Lent → Lent
logged x f mux out scratch l = read_by' x.rows.layout.params x.rows.sizes x.split f mux x.rows.layout.entries.now out scratch l

abbrev pub loaded : Cut → Value → List ℕ → ℕ → List ℕ
loaded x mux scratch next = scratch_of (numbers_of x.rows.layout.params x.rows.sizes x.split) mux x.rows.layout.entries.now (piece_of x) scratch next

-- a port's trits in a room, where it has a flip-flop
abbrev pub clocked : Cut → MemoryReadPort → List ℕ → ℕ → List ℕ → List ℕ
clocked x r y at room = trits_by r.flip_flop x.rows.layout.params x.rows.sizes x.split r y x.rows.layout.entries.now at room

-- the limits, with a scratch of so many nets
abbrev pub fits_in : Cut → MemoryReadFlipFlop → ℕ → ℕ → Reads → Bool
fits_in x f room next g = raw_fits x.rows.layout.params x.rows.sizes x.split f room next (length g.nets.now) g.nets_at (length g.trits.now) g.trits_at

-- all of it
abbrev pub all_of : Cut → ℕ → MemoryReadPort → List ℕ → Value → Value → Value → List ℕ → Going → Going
all_of x i r y hw mux out scratch g = port_raw x.rows.layout.params x.rows.sizes x.split i r y hw mux x.rows.layout.entries.now out scratch g

-- the rooms hold the port's nets and trits
pub record Holding (x : Cut) (f : MemoryReadFlipFlop) (addr : ℕ) (g : Reads) : Type 0 where
  pub nets_hold : g.nets_at + addr ≤ length g.nets.now
  pub trits_hold : g.trits_at + need_by f (size_of x) ≤ length g.trits.now
