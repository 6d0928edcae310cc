-- A port without clear, reset and init, and without Transparent relations where these are to go: the struct and the trits of its memory.
use Rattle.std.specs.Prelude.{Bool, ℕ, List, map, replicate}
use Rattle.std.proofs.lemmas.List.Edits.{sets}
use Rattle.lists.specs.Choice.{when◌then◌else◌}
use Rattle.rules.specs.Limits.{trit_x}
use Rattle.rules.specs.Ports.{is_plain, no_transparent}
use Rattle.net_value.specs.declared.ControlNet.TheVariants.{Pos}
use Rattle.net_flip_flop.specs.declared.Controls.{Controls}
use Rattle.net_memory.specs.FlipFlop.{MemoryReadFlipFlop}
use Rattle.std.specs.Prelude.{None, Some}
use Rattle.net_memory.specs.declared.MemoryReadPort.{MemoryReadPort}
use Rattle.net_memory.specs.declared.Memory.{Memory}
use Rattle.net_memory.specs.View.{read_port, read_trits, clocked_by, trit_start, trit_size, with_read_port}

-- controls without clear and reset
abbrev pub unreset_controls : Controls → Controls
unreset_controls c = record {
  clock = c.clock;
  clear = Pos (record { 0 = 0 });
  reset = Pos (record { 0 = 0 });
  enable = c.enable;
  reset_over_enable = c.reset_over_enable;
}

-- the codes of relations without Transparent, where these are to go
abbrev pub kept_relations : Bool → List ℕ → List ℕ
kept_relations incl rels = when incl then map no_transparent rels else rels

-- a port with these controls, without clear and reset
abbrev pub unreset_port : MemoryReadPort → Controls → Bool → MemoryReadPort
unreset_port p c incl = record {
  addr_len = p.addr_len;
  data_len = p.data_len;
  clear_len = p.clear_len;
  reset_len = p.reset_len;
  init_len = p.init_len;
  relations_len = p.relations_len;
  relations = kept_relations incl p.relations;
  flip_flop = Some (unreset_controls c);
}

-- a memory whose port i is so, and the trits, of which that port's are X
abbrev pub unreset : Memory → ℕ → Controls → Bool → Memory
unreset m i c incl = with_read_port m i (unreset_port (read_port m i) c incl)

abbrev pub blanked : Memory → ℕ → List ℕ → List ℕ
blanked m i trits = sets trits (trit_start m i) (replicate (trit_size (read_port m i)) trit_x)

-- by the port's flip-flop: where there is nothing to unmap, both stay
abbrev pub struct_after : MemoryReadFlipFlop → Memory → List ℕ → ℕ → Bool → Memory
struct_after None m trits i incl = m
struct_after (Some c) m trits i incl = when is_plain incl (clocked_by c (read_port m i) (read_trits m trits i)) then m else unreset m i c incl

abbrev pub trits_after : MemoryReadFlipFlop → Memory → List ℕ → ℕ → Bool → List ℕ
trits_after None m trits i incl = trits
trits_after (Some c) m trits i incl = when is_plain incl (clocked_by c (read_port m i) (read_trits m trits i)) then trits else blanked m i trits
