-- A write port in the nets of the result, for any numbers: its address, then the data and then the mask of all memories. A port that cannot be split,
-- or has no room, leaves nothing.
use Rattle.std.specs.Prelude.{ℕ, suc, ◌+◌, ◌-◌, ◌*◌, ◌^◌, Bool, ◌&&◌, List, [], ◌∷◌, length, get_or, set, replicate, leb}
use Rattle.std.proofs.lemmas.List.Edits.{sets}
use Rattle.lists.specs.Choice.{when◌then◌else◌}
use Rattle.lists.specs.Lists.{part}
use Rattle.rules.specs.Limits.{addr_bits, max_columns, max_ports}
use Rattle.rules.specs.Value.{Value}
use Rattle.rules.specs.Cell.{Mem, write_at, write_wide_log2}
use Rattle.rules.specs.Log.{Trace, ◌>>=◌, done}
use Rattle.rules.specs.Geometry.{Layout}
use Rattle.rules.specs.Swizzle.{split_addr}
use Rattle.net_value.specs.declared.ControlNet.TheVariants.{Pos}
use Rattle.net_memory.specs.declared.MemoryWritePort.{MemoryWritePort}
use Rattle.net_memory.specs.View.{no_write_port}
use Rattle.swizzle_split.specs.Rows.{rows_of}
use Rattle.swizzle_split.specs.Steps.{can_split, row_bits}
use Rattle.swizzle_columns.specs.declared.WidePort.{WidePort}
use Rattle.swizzle_columns.specs.Wide.{bits_of}
use Rattle.swizzle_write.specs.Wide.{masks_of}
use Rattle.swizzle_result.specs.declared.WideWritePort.{WideWritePort}

-- the numbers of a port among so many memories
abbrev pub wide_by_of : Layout → ℕ → ℕ → ℕ → Value → WidePort
wide_by_of q mems old new addr = record {
  mems = mems;
  unit = q.unit;
  rows = rows_of new;
  olds = rows_of old;
  width = q.width;
  chunks = 2 ^ addr_bits - 1 - row_bits q old new addr;
  pieces = (split_addr q old new addr).pieces;
}

-- data and mask from a place on, each of so many nets
unfoldable pub nets_of : WidePort → Value → List ℕ → Value → Value → ℕ → ℕ → List ℕ → Trace (List ℕ)
nets_of p mux es bits mask from size room =
    let r = sets room from (bits_of p es bits (part from size room)) in
    masks_of p mux es mask (part (from + size) size r) >>= λ k. done (sets r (from + size) k)

-- the nets after a port, where the next one starts, and the length of its address
pub record Placed : Type 0 where
  pub room : List ℕ
  pub next : ℕ
  pub addr_len_of : ℕ

abbrev pub size_of : WidePort → ℕ
size_of p = p.rows * (p.mems * p.unit)

-- the nets of an address that there is room for on the way
abbrev pub addr_room : ℕ
addr_room = 64

unfoldable pub roomy : WidePort → ℕ → ℕ → ℕ → Bool
roomy p len at room = leb len addr_room && (leb (p.mems * p.unit) max_columns && leb (at + len + (size_of p + size_of p)) room)

unfoldable pub placed : WidePort → Value → Value → List ℕ → Value → Value → ℕ → List ℕ → Trace Placed
placed p hw mux es bits mask at room =
    when roomy p (length hw) at (length room)
    then (nets_of p mux es bits mask (at + length hw) (size_of p) (sets room at hw) >>= λ r. done (record { room = r; next = at + length hw + (size_of p + size_of p); addr_len_of = length hw }))
    else done (record { room = room; next = at; addr_len_of = 0 })

-- the same from the port's address
unfoldable pub placed_if : Layout → ℕ → ℕ → ℕ → Value → Value → Value → ℕ → List ℕ → Trace Placed
placed_if q mems old new addr bits mask at room =
    when can_split q old new (length addr)
    then placed (wide_by_of q mems old new addr) (split_addr q old new addr).addr (split_addr q old new addr).mux_addr q.entries bits mask at room
    else done (record { room = room; next = at; addr_len_of = 0 })

-- write port j of a memory with this new wide log
unfoldable pub placed_at : Mem → Layout → ℕ → ℕ → ℕ → ℕ → List ℕ → Trace Placed
placed_at m q mems j new at room = placed_if q mems (write_wide_log2 m (write_at m j)) new (write_at m j).addr (write_at m j).bits (write_at m j).mask at room

-- the nets so far, where the next port starts, and the ports of the result
pub record Filled : Type 0 where
  pub room : List ℕ
  pub at : ℕ
  pub ports : List WideWritePort

abbrev pub port_by : List MemoryWritePort → ℕ → ℕ → ℕ → WideWritePort
port_by ps j new len = record { addr_len = len; wide = new; clock = (get_or ps j no_write_port).clock }

abbrev pub filled_by : List MemoryWritePort → ℕ → ℕ → Filled → Placed → Filled
filled_by ps j new f x = record { room = x.room; at = x.next; ports = set f.ports j (port_by ps j new x.addr_len_of) }

-- no ports yet
abbrev pub no_port : WideWritePort
no_port = record { addr_len = 0; wide = 0; clock = Pos (record { 0 = 0 }) }

abbrev pub none_filled : List ℕ → Filled
none_filled room = record { room = room; at = 0; ports = replicate max_ports no_port }

-- all of them, from write port j on
unfoldable pub placed_from : Mem → Layout → ℕ → List MemoryWritePort → ℕ → List ℕ → Filled → Trace Filled
placed_from m q mems ps j [] f = done f
placed_from m q mems ps j (n ∷ ns) f = do
  x ← placed_at m q mems j n f.at f.room
  placed_from m q mems ps (suc j) ns (filled_by ps j n f x)
