-- What the new memory keeps of a port, by whether it has a flip-flop.
use mathlib.Core.Path.{◌≡◌, refl, ◌∙◌}
use Prim.Native.Nat.{ℕ}
use mathlib.Core.List.{List, [], append-nil}
use lib.ListN.{length}
use Rattle.lists.specs.Lists.{concat_map}
use Rattle.rules.specs.Cell.{held, port_nets, flip_flop_trits, port_trits}
use Rattle.net_memory.specs.FlipFlop.{MemoryReadFlipFlop}
use Rattle.std.specs.Prelude.{None, Some}
use Rattle.net_memory.specs.declared.MemoryWritePort.{MemoryWritePort}
use Rattle.net_memory.specs.declared.MemoryReadPort.{MemoryReadPort}
use Rattle.net_memory.specs.View.{write_size, trit_size, write_by, read_by, flip_flop_by}
use Rattle.port_extract.specs.Extract.{kept_list, kept_by_of, kept_port}
use Rattle.lists.proofs.Flat.{three_parts}

pub kept_nil : (f : MemoryReadFlipFlop) → kept_list f [] ≡ []
kept_nil None = refl
kept_nil (Some g) = refl

same_by : (f : MemoryReadFlipFlop) (p : MemoryReadPort) (y : List ℕ) → flip_flop_by f (kept_by_of f p) (kept_list f y) ≡ flip_flop_by f p y
same_by None p y = refl
same_by (Some g) p y = refl

long_by : (f : MemoryReadFlipFlop) (p : MemoryReadPort) (y : List ℕ) → length y ≡ trit_size p → length (kept_list f y) ≡ trit_size (kept_by_of f p)
long_by None p y e = refl
long_by (Some g) p y e = e

flat_by : (f : MemoryReadFlipFlop) (p : MemoryReadPort) (y : List ℕ) → length y ≡ trit_size p → concat_map flip_flop_trits (held (flip_flop_by f p y)) ≡ kept_list f y
unfolding flip_flop_trits held
flat_by None p y e = refl
flat_by (Some g) p y e = append-nil _ ∙ three_parts p.clear_len p.reset_len p.init_len y e

module _ (p : MemoryReadPort) (x y : List ℕ) where
  -- the port reads as before
  pub kept_same : read_by (kept_port p) x (kept_list p.flip_flop y) ≡ read_by p x y
  kept_same = λ i. record { addr = (read_by p x y).addr; data_len = (read_by p x y).data_len; flip_flop = same_by p.flip_flop p y i }

  module _ (e : length y ≡ trit_size p) where
    pub kept_long : length (kept_list p.flip_flop y) ≡ trit_size (kept_port p)
    kept_long = long_by p.flip_flop p y e

    -- its trits are those that the rules name
    pub kept-flat : port_trits (read_by p x y) ≡ kept_list p.flip_flop y
    unfolding port_trits
    kept-flat = flat_by p.flip_flop p y e

-- a write port's nets are those that the rules name
pub write_flat : (p : MemoryWritePort) (x y : List ℕ) → length x ≡ write_size p → port_nets (write_by p x y) ≡ x
unfolding port_nets
write_flat p x y e = three_parts p.addr_len p.data_len p.mask_len x e
