-- Where the view finds the parts of each port.
use mathlib.Core.Path.{◌≡◌, refl, ◌∙◌}
use Prim.Native.Nat.{ℕ, ◌<◌, ◌≤◌, min}
use native.Mathlib.Omega.{arith}
use mathlib.Core.List.{List, []}
use lib.ListN.{take, drop, get_or, length-take, get_or-eq_default}
use lib.Seq.{take-take, drop-drop, get_or-take}
use Rattle.lists.specs.Lists.{sum_by, part}
use Rattle.lists.specs.Views.{views}
use Rattle.lists.proofs.Views.{length_views, get_d_views}
use Rattle.rules.specs.Limits.{max_ports}
use Rattle.rules.specs.Cell.{WritePort, ReadPort, write_at, read_at_of}
use Rattle.net_memory.specs.View.{no_write_port, no_read_port, write_ports_of, read_ports_of, write_size, addr_size, trit_size, no_trits, write_by, read_by, writes_of, reads_of, reads_start, write_port, write_start, read_port, read_start, trit_start, memory_of, write_nets, read_nets, read_trits}
use Rattle.net_memory.specs.declared.MemoryWritePort.{MemoryWritePort}
use Rattle.net_memory.specs.declared.MemoryReadPort.{MemoryReadPort}
use Rattle.net_memory.specs.declared.Memory.{Memory}

-- what stands where there is no port
abbrev pub no_write_of : WritePort
no_write_of = write_by no_write_port [] []

abbrev pub no_read_of : ReadPort
no_read_of = read_by no_read_port [] []

module _ (m : Memory) (nets trits : List ℕ) (i : ℕ) where
  -- the port that the rules name
  pub write_of_view : write_at (memory_of m nets trits) i ≡ get_or (writes_of m nets) i no_write_of
  unfolding write_at memory_of
  write_of_view = refl

  pub read_of_view : read_at_of (memory_of m nets trits) i ≡ get_or (reads_of m nets trits) i no_read_of
  unfolding read_at_of memory_of
  read_of_view = refl

-- of the write ports, whatever is read of each
module _ {R : Type 0} (m : Memory) (read : MemoryWritePort → List ℕ → List ℕ → R) (nets : List ℕ) (i : ℕ) where
  write_part_none : min max_ports m.write_count ≤ i → get_or (views write_size no_trits read (write_ports_of m) nets []) i (read no_write_port [] []) ≡ read no_write_port [] []
  write_part_none h =
      get_or-eq_default (views write_size no_trits read (write_ports_of m) nets []) (read no_write_port [] [])
      (omega (arith, length_views write_size no_trits read (write_ports_of m) nets [], length-take (min max_ports m.write_count) m.write_ports))

  write_part_at : i < min max_ports m.write_count
      → get_or (views write_size no_trits read (write_ports_of m) nets []) i (read no_write_port [] []) ≡ read (write_port m i) (part (write_start m i) (write_size (write_port m i)) nets) []
  write_part_at h =
      get_d_views write_size no_trits read no_write_port refl refl (write_ports_of m) i nets []
      ∙ rw (get_or-take (min max_ports m.write_count) m.write_ports i no_write_port h, take-take i (min max_ports m.write_count) m.write_ports (omega arith))

module _ (m : Memory) (nets : List ℕ) (i : ℕ) where
  pub writes_none : min max_ports m.write_count ≤ i → get_or (writes_of m nets) i no_write_of ≡ no_write_of
  writes_none h = write_part_none m write_by nets i h

  pub writes_at : i < min max_ports m.write_count → get_or (writes_of m nets) i no_write_of ≡ write_by (write_port m i) (part (write_start m i) (write_size (write_port m i)) nets) []
  writes_at h = write_part_at m write_by nets i h

  pub write_nets_none : min max_ports m.write_count ≤ i → write_nets m nets i ≡ []
  write_nets_none h = write_part_none m (λ p x y. x) nets i h

  pub write_nets_at : i < min max_ports m.write_count → write_nets m nets i ≡ part (write_start m i) (write_size (write_port m i)) nets
  write_nets_at h = write_part_at m (λ p x y. x) nets i h

-- of the read ports, whatever is read of each
module _ {R : Type 0} (m : Memory) (read : MemoryReadPort → List ℕ → List ℕ → R) (nets trits : List ℕ) (i : ℕ) where
  pub part_none : min max_ports m.read_count ≤ i → get_or (views addr_size trit_size read (read_ports_of m) nets trits) i (read no_read_port [] []) ≡ read no_read_port [] []
  part_none h =
      get_or-eq_default (views addr_size trit_size read (read_ports_of m) nets trits) (read no_read_port [] [])
      (omega (arith, length_views addr_size trit_size read (read_ports_of m) nets trits, length-take (min max_ports m.read_count) m.read_ports))

  pub part_at : i < min max_ports m.read_count
      → get_or (views addr_size trit_size read (read_ports_of m) nets trits) i (read no_read_port [] [])
      ≡ read (read_port m i) (part (sum_by addr_size (take i m.read_ports)) (addr_size (read_port m i)) nets) (part (sum_by trit_size (take i m.read_ports)) (trit_size (read_port m i)) trits)
  part_at h =
      get_d_views addr_size trit_size read no_read_port refl refl (read_ports_of m) i nets trits
      ∙ rw (get_or-take (min max_ports m.read_count) m.read_ports i no_read_port h, take-take i (min max_ports m.read_count) m.read_ports (omega arith))

module _ (m : Memory) (nets trits : List ℕ) (i : ℕ) where
  pub reads_none : min max_ports m.read_count ≤ i → get_or (reads_of m nets trits) i no_read_of ≡ no_read_of
  reads_none h = part_none m read_by (drop (reads_start m) nets) (drop m.init_len trits) i h

  pub reads_at : i < min max_ports m.read_count
      → get_or (reads_of m nets trits) i no_read_of ≡ read_by (read_port m i) (part (read_start m i) (addr_size (read_port m i)) nets) (part (trit_start m i) (trit_size (read_port m i)) trits)
  reads_at h =
      part_at m read_by (drop (reads_start m) nets) (drop m.init_len trits) i h
      ∙ rw (drop-drop (sum_by addr_size (take i m.read_ports)) (reads_start m) nets, drop-drop (sum_by trit_size (take i m.read_ports)) m.init_len trits)

  pub nets_none : min max_ports m.read_count ≤ i → read_nets m nets i ≡ []
  nets_none h = part_none m (λ p x y. x) (drop (reads_start m) nets) [] i h

  pub nets_at : i < min max_ports m.read_count → read_nets m nets i ≡ part (read_start m i) (addr_size (read_port m i)) nets
  nets_at h = part_at m (λ p x y. x) (drop (reads_start m) nets) [] i h ∙ rw (drop-drop (sum_by addr_size (take i m.read_ports)) (reads_start m) nets)

  pub trits_none : min max_ports m.read_count ≤ i → read_trits m trits i ≡ []
  trits_none h = part_none m (λ p x y. y) [] (drop m.init_len trits) i h

  pub trits_at : i < min max_ports m.read_count → read_trits m trits i ≡ part (trit_start m i) (trit_size (read_port m i)) trits
  trits_at h = part_at m (λ p x y. y) [] (drop m.init_len trits) i h ∙ rw (drop-drop (sum_by trit_size (take i m.read_ports)) m.init_len trits)
