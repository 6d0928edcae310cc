-- cell/flip_flop.rs and cell/memory.rs: the records, a memory as a call is given it and in two arrays, wide_log2, and a port's part of the outputs.
use Rattle.std.specs.Prelude.{ℕ, suc, ◌-◌, ◌/◌, Bool, true, false, List, [], ◌∷◌, ◌++◌, eqb, length, get_or, set, take}
use Rattle.std.proofs.Math.Option.{Option, none, some}
use Rattle.std.proofs.lemmas.List.Edits.{sets}
use Rattle.rules.specs.Limits.{addr_bits}
use Rattle.lists.specs.Choice.{when◌then◌else◌}
use Rattle.lists.specs.Lists.{sum_by, part, concat_map}
use Rattle.rules.specs.Numbers.{top_bits}
use Rattle.rules.specs.Logic.{Const, undef}
use Rattle.rules.specs.Value.{Value, Control, Pos}

-- what a flip-flop and a clocked read port share
pub record Controls : Type 0 where
  pub clock : Control
  pub clear : Control
  pub reset : Control
  pub enable : Control
  pub reset_over_enable : Bool

-- `bits` is the Rust's `data`
pub record FlipFlop : Type 0 where
  pub bits : Value
  pub controls : Controls
  pub clear_value : Const
  pub reset_value : Const
  pub init_value : Const

-- a relation of a read port to a write port, by its code
abbrev pub Relation : Type 0
Relation = ℕ

abbrev pub Undefined : Relation
Undefined = 0

abbrev pub ReadBeforeWrite : Relation
ReadBeforeWrite = 1

abbrev pub Transparent : Relation
Transparent = 2

-- `bits` is the Rust's `data`
pub record WritePort : Type 0 where
  pub addr : Value
  pub bits : Value
  pub mask : Value
  pub clock : Control

pub record ReadFlipFlop : Type 0 where
  pub controls : Controls
  pub clear_value : Const
  pub reset_value : Const
  pub init_value : Const
  pub relations : List Relation

pub record ReadPort : Type 0 where
  pub addr : Value
  pub data_len : ℕ
  pub flip_flop : Option ReadFlipFlop

-- the initial trits are depth × width in number, row 0 and bit 0 first
pub record Mem : Type 0 where
  pub depth : ℕ
  pub width : ℕ
  pub init : Const
  pub writes : List WritePort
  pub reads : List ReadPort

-- a memory as a call is given it. The lists of a `Mem` do not show everything that a caller can get wrong: its record may say more ports than it has
-- place for, which breaks 1, or lengths that its arrays do not have, which breaks 2
pub record Given : Type 0 where
  pub mem : Mem
  pub extra_ports : Bool
  pub wrong_lens : Bool

-- a memory by its lists alone
abbrev pub given : Mem → Given
given m = record { mem = m; extra_ports = false; wrong_lens = false }

-- MemorySwizzle: each entry of a row names a bit or is None
pub record Plan : Type 0 where
  pub entries : List ℕ
  pub soft_mask : ℕ
  pub write_wide : List ℕ
  pub read_wide_of : List ℕ
  pub hard : ℕ
  pub unit : ℕ

-- FlipFlop::new: no clear, no reset, always enabled
unfoldable pub plain_controls : Control → Controls
plain_controls c = record { clock = c; clear = Pos 0; reset = Pos 0; enable = Pos 1; reset_over_enable = false }

unfoldable pub new_flip_flop : Value → Control → FlipFlop
new_flip_flop v c = record { bits = v; controls = plain_controls c; clear_value = undef (length v); reset_value = undef (length v); init_value = undef (length v) }

-- with_init: clear and reset to it too
unfoldable pub with_init : FlipFlop → Const → FlipFlop
with_init f t = record { bits = f.bits; controls = f.controls; clear_value = t; reset_value = t; init_value = t }

-- with_enable: which sets reset over enable
unfoldable pub with_enable : FlipFlop → Control → FlipFlop
with_enable f e = record {
  bits = f.bits;
  controls = record { clock = f.controls.clock; clear = f.controls.clear; reset = f.controls.reset; enable = e; reset_over_enable = true };
  clear_value = f.clear_value;
  reset_value = f.reset_value;
  init_value = f.init_value;
}

-- the flip-flop behind a clocked read port
unfoldable pub flip_flop_of : ReadFlipFlop → Value → FlipFlop
flip_flop_of f v = record { bits = v; controls = f.controls; clear_value = f.clear_value; reset_value = f.reset_value; init_value = f.init_value }

-- k, where a port's data is width × 2^k; 0 where the width is 0
unfoldable pub wide_log2 : ℕ → ℕ → ℕ
wide_log2 width size = top_bits addr_bits (size / width) - 1

unfoldable pub write_wide_log2 : Mem → WritePort → ℕ
write_wide_log2 m p = wide_log2 m.width (length p.bits)

unfoldable pub read_wide_log2 : Mem → ReadPort → ℕ
read_wide_log2 m p = wide_log2 m.width p.data_len

-- the ports of a number; where there is none, any
unfoldable pub write_at : Mem → ℕ → WritePort
write_at m i = get_or m.writes i (record { addr = []; bits = []; mask = []; clock = Pos 0 })

unfoldable pub read_at_of : Mem → ℕ → ReadPort
read_at_of m i = get_or m.reads i (record { addr = []; data_len = 0; flip_flop = none })

-- the outputs are the read ports' data, port after port
unfoldable pub output_len : Mem → ℕ
output_len m = sum_by (λ p. p.data_len) m.reads

unfoldable pub output_start : Mem → ℕ → ℕ
output_start m i = sum_by (λ p. p.data_len) (take i m.reads)

-- read_port_output_slice
unfoldable pub output_slice : Mem → ℕ → Value → Value
output_slice m i output = part (output_start m i) (read_at_of m i).data_len output

-- the outputs with port i's part exchanged
unfoldable pub with_output : Mem → ℕ → Value → Value → Value
with_output m i v output = sets output (output_start m i) v

-- the memory with other read ports, and with another flip-flop at port i
unfoldable pub with_reads : Mem → List ReadPort → Mem
with_reads m rs = record { depth = m.depth; width = m.width; init = m.init; writes = m.writes; reads = rs }

unfoldable pub with_flip_flop : Mem → ℕ → Option ReadFlipFlop → Mem
with_flip_flop m i f = with_reads m (set m.reads i (record { addr = (read_at_of m i).addr; data_len = (read_at_of m i).data_len; flip_flop = f }))

unfoldable pub is_some : {A : Type 0} → Option A → Bool
is_some none = false
is_some (some a) = true

-- the list that an option holds, or an empty one
unfoldable pub or_empty : {A : Type 0} → Option (List A) → List A
or_empty none = []
or_empty (some l) = l

-- a list with what an option holds
unfoldable pub held : {A : Type 0} → Option A → List A
held none = []
held (some a) = a ∷ []

-- a port's nets and trits, one list after the other
unfoldable pub port_nets : WritePort → Value
port_nets p = p.addr ++ (p.bits ++ p.mask)

unfoldable pub flip_flop_trits : ReadFlipFlop → Const
flip_flop_trits f = f.clear_value ++ (f.reset_value ++ f.init_value)

unfoldable pub port_trits : ReadPort → Const
port_trits p = concat_map flip_flop_trits (held p.flip_flop)

-- a memory in two arrays: the nets of each write port, then the address of each read port; the initial trits, then the trits of each read port
unfoldable pub flat_nets : Mem → Value
flat_nets m = concat_map port_nets m.writes ++ concat_map (λ p. p.addr) m.reads

unfoldable pub flat_trits : Mem → Const
flat_trits m = m.init ++ concat_map port_trits m.reads

-- the flip-flops of the clocked read ports, in order
unfoldable pub flip_flops : List ReadPort → List ReadFlipFlop
flip_flops [] = []
flip_flops (p ∷ ps) = held p.flip_flop ++ flip_flops ps

unfoldable pub is_transparent : Relation → Bool
is_transparent r = eqb r Transparent

unfoldable pub is_read_before_write : Relation → Bool
is_read_before_write r = eqb r ReadBeforeWrite

-- the numbers, from i on, of the write ports that a port is transparent to
unfoldable pub transparent_from : ℕ → List Relation → List ℕ
transparent_from i [] = []
transparent_from i (r ∷ rs) = when is_transparent r then i ∷ transparent_from (suc i) rs else transparent_from (suc i) rs

unfoldable pub transparent_ports : ReadFlipFlop → List ℕ
transparent_ports f = transparent_from 0 f.relations
