-- A struct that holds the wide ports of the rules, and the arrays that go with them.
use Rattle.std.specs.Prelude.{◌≡◌, ℕ, ◌*◌, ◌^◌, List, [], ◌++◌, map, length}
use Rattle.std.proofs.Math.Option.{Option, none, some}
use Rattle.lists.specs.Lists.{part, up_from, concat_map}
use Rattle.rules.specs.Cell as rules
use Rattle.rules.specs.Geometry.{Layout, all_mems, full_mems, full_depth_of, part_depth_of, columns}
use Rattle.rules.specs.Swizzle.{Split, WideWrite, WideRead}
use Rattle.net_value.specs.View.{control_of}
use Rattle.net_flip_flop.specs.View.{controls_of}
use Rattle.net_memory.specs.FlipFlop.{MemoryReadFlipFlop}
use Rattle.std.specs.Prelude.{None, Some}
use Rattle.swizzle_laws.specs.Order.{ordered}
use Rattle.swizzle_result.specs.declared.WideWritePort.{WideWritePort}
use Rattle.swizzle_result.specs.declared.WideReadPort.{WideReadPort}
use Rattle.swizzle_result.specs.declared.WideMemory.{WideMemory}
use Rattle.swizzle_result.specs.View.{write_ports_of, read_ports_of}

-- the sizes of a layout's memories
pub record Sized (g : WideMemory) (q : Layout) : Type 0 where
  pub mems_are : g.mems ≡ all_mems q
  pub full_are : g.full ≡ full_mems q
  pub full_depth : g.full_depth ≡ full_depth_of q
  pub part_depth : g.part_depth ≡ part_depth_of q
  pub unit_is : g.unit ≡ q.unit

-- as many as all new rows have columns
abbrev pub Columns : Layout → Split → List ℕ → Type 0
Columns q s cols = length cols ≡ 2 ^ s.new * columns q

-- a write port and the struct that stands for it
pub record HeldWrite (q : Layout) : Type 0 where
  pub struct : WideWritePort
  pub port : WideWrite
  pub addr_len : struct.addr_len ≡ length port.port.addr
  pub wide_is : struct.wide ≡ port.split.new
  pub clock_is : control_of struct.clock ≡ port.port.clock
  pub bits_whole : Columns q port.split port.port.bits
  pub mask_whole : Columns q port.split port.port.mask

-- its nets
unfoldable pub write_nets : (q : Layout) → HeldWrite q → List ℕ
write_nets q k = k.port.port.addr ++ (ordered q k.port.split k.port.port.bits ++ ordered q k.port.split k.port.port.mask)

-- a flip-flop and what stands for it, or neither
pub record HeldClock (c : rules.Controls) (relations : List ℕ) (q : Layout) (s : Split) (x : rules.ReadFlipFlop) : Type 0 where
  pub controls_are : c ≡ x.controls
  pub relations_are : relations ≡ x.relations
  pub clear_whole : Columns q s x.clear_value
  pub reset_whole : Columns q s x.reset_value
  pub init_whole : Columns q s x.init_value

abbrev pub HeldFlipFlop : MemoryReadFlipFlop → List ℕ → Layout → Split → Option rules.ReadFlipFlop → Type 0
HeldFlipFlop None relations q s none = Unit
HeldFlipFlop None relations q s (some x) = ⊥
HeldFlipFlop (Some f) relations q s none = ⊥
HeldFlipFlop (Some f) relations q s (some x) = HeldClock (controls_of f) relations q s x

pub record HeldRead (q : Layout) : Type 0 where
  pub struct : WideReadPort
  pub port : WideRead
  pub addr_len : struct.addr_len ≡ length port.split.addr
  pub wide_is : struct.wide ≡ port.split.new
  pub output_is : port.output ≡ up_from struct.first (2 ^ port.split.new * columns q)
  pub clocked : HeldFlipFlop struct.flip_flop (part 0 struct.relations_len struct.relations) q port.split port.flip_flop

abbrev pub clock_trits : Layout → Split → Option rules.ReadFlipFlop → List ℕ
clock_trits q s none = []
clock_trits q s (some x) = ordered q s x.clear_value ++ (ordered q s x.reset_value ++ ordered q s x.init_value)

unfoldable pub read_trits : (q : Layout) → HeldRead q → List ℕ
read_trits q k = clock_trits q k.port.split k.port.flip_flop

unfoldable pub read_nets : (q : Layout) → HeldRead q → List ℕ
read_nets q k = k.port.split.addr

-- the struct and the arrays hold these ports
pub record Holds (g : WideMemory) (q : Layout) (ws : List (HeldWrite q)) (rs : List (HeldRead q)) (nets trits : List ℕ) : Type 0 where
  pub sized : Sized g q
  pub writes_are : write_ports_of g ≡ map (λ (k : HeldWrite q). k.struct) ws
  pub reads_are : read_ports_of g ≡ map (λ (k : HeldRead q). k.struct) rs
  pub nets_are : nets ≡ concat_map (write_nets q) ws ++ concat_map (read_nets q) rs
  pub trits_are : trits ≡ concat_map (read_trits q) rs
