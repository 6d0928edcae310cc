-- What numbers 1, 2, 14 and 15 leave true of a memory and its clocked port i, whose Transparent relations are to go where `incl` says so.
use Rattle.std.specs.Prelude.{◌≡◌, ℕ, ◌+◌, ◌≤◌, Bool, false, List, length}
use Rattle.lists.specs.Lists.{any}
use Rattle.rules.specs.Cell.{read_at_of}
use Rattle.rules.specs.Conditions.{bad_flip_flop_shape, short_pair}
use Rattle.rules.specs.Ports.{wanted}
use Rattle.net_flip_flop.specs.declared.Controls.{Controls}
use Rattle.net_memory.specs.declared.Memory.{Memory}
use Rattle.net_memory.specs.View.{memory_of, read_port, trit_start, trit_size}
use Rattle.port_unmap.specs.Ready.{own_flip_flop, PortShape}

pub record ResetReady (m : Memory) (nets trits : List ℕ) (i : ℕ) (c : Controls) (incl : Bool) : Type 0 where
  pub port : PortShape m nets trits i c
  pub own_good : bad_flip_flop_shape (memory_of m nets trits) (read_at_of (memory_of m nets trits) i).data_len (own_flip_flop m trits i c) ≡ false
  pub fits : trit_start m i + trit_size (read_port m i) ≤ length trits
  pub long : any (short_pair (memory_of m nets trits) (read_at_of (memory_of m nets trits) i)) (wanted incl (own_flip_flop m trits i c)) ≡ false
