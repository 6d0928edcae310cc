-- What a memory's view holds fits the arrays that it is read from.
use Prim.Native.Nat.{ℕ, ◌+◌, ◌≤◌}
use native.Mathlib.Nat.{le_refl}
use native.Mathlib.Omega.{arith}
use mathlib.Core.List.{List, [], ◌∷◌, ◌++◌}
use lib.ListN.{length, take, drop, length-append, length-take, length-drop}
use Rattle.lists.specs.Lists.{sum_by, part, concat_map}
use Rattle.lists.specs.Views.{views}
use Rattle.rules.specs.Cell.{ReadPort, held, port_nets, flip_flop_trits, port_trits, flat_nets, flat_trits}
use Rattle.net_memory.specs.FlipFlop.{MemoryReadFlipFlop}
use Rattle.std.specs.Prelude.{None, Some}
use Rattle.net_memory.specs.declared.MemoryWritePort.{MemoryWritePort}
use Rattle.net_memory.specs.declared.MemoryReadPort.{MemoryReadPort}
use Rattle.net_memory.specs.declared.Memory.{Memory}
use Rattle.net_memory.specs.View.{write_ports_of, read_ports_of, write_size, addr_size, trit_size, no_trits, write_by, read_by, flip_flop_by, writes_of, reads_of, reads_start, memory_of}

-- ---- what is read of lists is no longer than they are
both_fit : (a b l : List ℕ) (k j : ℕ) → length a ≤ length (take k l) → length b ≤ length (take j (drop k l)) → length (a ++ b) ≤ length (take (k + j) l)
both_fit a b l k j x y =
    omega (arith, length-append a b, length-take k l, length-take j (drop k l), length-drop k l, length-take (k + j) l)

take_fits : (k : ℕ) (l : List ℕ) → length (take k l) ≤ length l
take_fits k l = omega (arith, length-take k l)

three_fit : (a b c : ℕ) (l : List ℕ) → length (part 0 a l ++ (part a b l ++ part (a + b) c l)) ≤ length l
three_fit a b c l =
    omega (
      arith,
      length-append (part 0 a l) (part a b l ++ part (a + b) c l),
      length-append (part a b l) (part (a + b) c l),
      length-take a l,
      length-take b (drop a l),
      length-drop a l,
      length-take c (drop (a + b) l),
      length-drop (a + b) l,
    )

module _ {P R : Type 0} (s t : P → ℕ) (read : P → List ℕ → List ℕ → R) (f : R → List ℕ) where
  first_fits : ((p : P) (x y : List ℕ) → length (f (read p x y)) ≤ length x) → (ps : List P) (l m : List ℕ)
      → length (concat_map f (views s t read ps l m)) ≤ length (take (sum_by s ps) l)
  first_fits h [] l m = omega arith
  first_fits h (p ∷ ps) l m =
      both_fit (f (read p (take (s p) l) (take (t p) m))) (concat_map f (views s t read ps (drop (s p) l) (drop (t p) m))) l (s p) (sum_by s ps)
      (h p (take (s p) l) (take (t p) m)) (first_fits h ps (drop (s p) l) (drop (t p) m))

  second_fits : ((p : P) (x y : List ℕ) → length (f (read p x y)) ≤ length y) → (ps : List P) (l m : List ℕ)
      → length (concat_map f (views s t read ps l m)) ≤ length (take (sum_by t ps) m)
  second_fits h [] l m = omega arith
  second_fits h (p ∷ ps) l m =
      both_fit (f (read p (take (s p) l) (take (t p) m))) (concat_map f (views s t read ps (drop (s p) l) (drop (t p) m))) m (t p) (sum_by t ps)
      (h p (take (s p) l) (take (t p) m)) (second_fits h ps (drop (s p) l) (drop (t p) m))

-- ---- so are a port's nets and trits
write_fits : (p : MemoryWritePort) (x y : List ℕ) → length (port_nets (write_by p x y)) ≤ length x
unfolding port_nets
write_fits p x y = three_fit p.addr_len p.data_len p.mask_len x

read_fits : (p : MemoryReadPort) (x y : List ℕ) → length (read_by p x y).addr ≤ length x
read_fits p x y = take_fits p.addr_len x

one_fits : (z l : List ℕ) → length z ≤ length l → length (z ++ []) ≤ length l
one_fits z l h = omega (arith, length-append z [])

trits_by_lem : (f : MemoryReadFlipFlop) (p : MemoryReadPort) (y : List ℕ) → length (concat_map flip_flop_trits (held (flip_flop_by f p y))) ≤ length y
unfolding flip_flop_trits held
trits_by_lem None p y = omega arith
trits_by_lem (Some g) p y =
    one_fits (part 0 p.clear_len y ++ (part p.clear_len p.reset_len y ++ part (p.clear_len + p.reset_len) p.init_len y)) y
    (three_fit p.clear_len p.reset_len p.init_len y)

values_fit : (p : MemoryReadPort) (x y : List ℕ) → length (port_trits (read_by p x y)) ≤ length y
unfolding port_trits
values_fit p x y = trits_by_lem p.flip_flop p y

-- ---- and the memory's
within : (a b l : List ℕ) (k j : ℕ) → length a ≤ length (take k l) → length b ≤ length (take j (drop k l)) → length (a ++ b) ≤ length l
within a b l k j x y = omega (arith, both_fit a b l k j x y, length-take (k + j) l)

pub nets_fit : (m : Memory) (nets trits : List ℕ) → length (flat_nets (memory_of m nets trits)) ≤ length nets
unfolding flat_nets memory_of
nets_fit m nets trits =
    within (concat_map port_nets (writes_of m nets)) (concat_map (λ (p : ReadPort). p.addr) (reads_of m nets trits)) nets (reads_start m) (sum_by addr_size (read_ports_of m))
    (first_fits write_size no_trits write_by port_nets write_fits (write_ports_of m) nets [])
    (first_fits addr_size trit_size read_by (λ (p : ReadPort). p.addr) read_fits (read_ports_of m) (drop (reads_start m) nets) (drop m.init_len trits))

pub trits_fit : (m : Memory) (nets trits : List ℕ) → length (flat_trits (memory_of m nets trits)) ≤ length trits
unfolding flat_trits memory_of
trits_fit m nets trits =
    within (part 0 m.init_len trits) (concat_map port_trits (reads_of m nets trits)) trits m.init_len (sum_by trit_size (read_ports_of m)) (le_refl (length (part 0 m.init_len trits)))
    (second_fits addr_size trit_size read_by port_trits values_fit (read_ports_of m) (drop (reads_start m) nets) (drop m.init_len trits))
