-- A change of one port's struct and of its own nets and trits changes that port alone in the view.
use mathlib.Core.Path.{◌≡◌, refl, sym, ap, ◌∙◌}
use Prim.Native.Nat.{ℕ, ◌+◌, ◌<◌, ◌≤◌, min}
use native.Mathlib.Nat.{add_assoc, le_refl}
use native.Mathlib.Omega.{arith}
use mathlib.Core.List.{List, [], ◌++◌}
use lib.ListN.{length, take, drop, get_or, set, length-append}
use lib.Seq.{sets, take-take, drop-drop, get_or-take, take_at, drop_at, take_all, set-get_or}
use Rattle.lists.specs.Lists.{sum_by, part}
use Rattle.lists.specs.Views.{views}
use Rattle.lists.proofs.Parts.{same_front, same_middle, same_back, take_set}
use Rattle.lists.proofs.Store.{take_sets, drop_sets, part_sets}
use Rattle.lists.proofs.Sum.{sum_part, sum_set}
use Rattle.lists.proofs.Views.{views_set, views_front}
use Rattle.rules.specs.Limits.{max_ports}
use Rattle.rules.specs.Cell.{WritePort, ReadPort, Mem}
use Rattle.net_value.specs.View.{control_of}
use Rattle.net_memory.specs.View.{no_write_port, no_read_port, write_ports_of, read_ports_of, write_size, addr_size, trit_size, no_trits, write_by, read_by, writes_of, reads_of, reads_start, write_port, write_start, read_port, read_start, trit_start, memory_of, with_write_port, with_read_port}
use Rattle.net_memory.specs.declared.MemoryWritePort.{MemoryWritePort}
use Rattle.net_memory.specs.declared.MemoryReadPort.{MemoryReadPort}
use Rattle.net_memory.specs.declared.Memory.{Memory}

-- a memory with port i exchanged
abbrev pub with_write : Mem → ℕ → WritePort → Mem
with_write m i w = record { depth = m.depth; width = m.width; init = m.init; writes = set m.writes i w; reads = m.reads }

abbrev pub with_read : Mem → ℕ → ReadPort → Mem
with_read m i r = record { depth = m.depth; width = m.width; init = m.init; writes = m.writes; reads = set m.reads i r }

module _ (m : Memory) (i : ℕ) (p : MemoryWritePort) (nets nets' trits : List ℕ) (h : i < min max_ports m.write_count) (same : write_size p ≡ write_size (write_port m i))
    (front : take (write_start m i) nets' ≡ take (write_start m i) nets) (back : drop (write_start m i + write_size p) nets' ≡ drop (write_start m i + write_size p) nets) where
  at_i : get_or (write_ports_of m) i no_write_port ≡ write_port m i
  at_i = get_or-take (min max_ports m.write_count) m.write_ports i no_write_port h

  before_i : take i (write_ports_of m) ≡ take i m.write_ports
  before_i = take-take i (min max_ports m.write_count) m.write_ports (omega arith)

  ports : write_ports_of (with_write_port m i p) ≡ set (write_ports_of m) i p
  ports = take_set (min max_ports m.write_count) m.write_ports i p

  pub write_start-kept : reads_start (with_write_port m i p) ≡ reads_start m
  write_start-kept = ap (sum_by write_size) ports ∙ sum_set write_size no_write_port refl (write_ports_of m) i p (same ∙ sym (ap write_size at_i))

  pub write_end : write_start m i + write_size p ≤ reads_start m
  write_end = rw (same, ← at_i, ← before_i) (sum_part write_size no_write_port refl (write_ports_of m) i)

  writes_changed : writes_of (with_write_port m i p) nets' ≡ set (writes_of m nets) i (write_by p (part (write_start m i) (write_size p) nets') [])
  writes_changed =
      ap (λ (ps : List MemoryWritePort). views write_size no_trits write_by ps nets' []) ports
      ∙ rw (← before_i)
      (views_set write_size no_trits write_by no_write_port p (write_ports_of m) i nets nets' [] [] (same ∙ sym (ap write_size at_i)) refl (rw before_i front) (rw before_i back) refl refl)

  reads_kept : reads_of (with_write_port m i p) nets' trits ≡ reads_of m nets trits
  reads_kept = rw (write_start-kept, same_back (write_start m i + write_size p) (reads_start m) nets nets' write_end back)

  pub write_changed : memory_of (with_write_port m i p) nets' trits ≡ with_write (memory_of m nets trits) i (write_by p (part (write_start m i) (write_size p) nets') [])
  unfolding memory_of
  write_changed = λ k. record { depth = m.depth; width = m.width; init = part 0 m.init_len trits; writes = writes_changed k; reads = reads_kept k }

module _ (m : Memory) (i : ℕ) (p : MemoryReadPort) (nets nets' trits trits' : List ℕ) (h : i < min max_ports m.read_count)
    (same : addr_size p ≡ addr_size (read_port m i)) (same-trits : trit_size p ≡ trit_size (read_port m i))
    (front : take (read_start m i) nets' ≡ take (read_start m i) nets) (back : drop (read_start m i + addr_size p) nets' ≡ drop (read_start m i + addr_size p) nets)
    (tfront : take (trit_start m i) trits' ≡ take (trit_start m i) trits) (tback : drop (trit_start m i + trit_size p) trits' ≡ drop (trit_start m i + trit_size p) trits) where
  at_i' : get_or (read_ports_of m) i no_read_port ≡ read_port m i
  at_i' = get_or-take (min max_ports m.read_count) m.read_ports i no_read_port h

  before_i' : take i (read_ports_of m) ≡ take i m.read_ports
  before_i' = take-take i (min max_ports m.read_count) m.read_ports (omega arith)

  ports' : read_ports_of (with_read_port m i p) ≡ set (read_ports_of m) i p
  ports' = take_set (min max_ports m.read_count) m.read_ports i p

  writes_kept : writes_of m nets' ≡ writes_of m nets
  writes_kept = views_front write_size no_trits write_by (write_ports_of m) nets nets' [] [] (same_front (reads_start m) (sum_by addr_size (take i m.read_ports)) nets nets' front) refl

  init_kept : part 0 m.init_len trits' ≡ part 0 m.init_len trits
  init_kept = same_front m.init_len (sum_by trit_size (take i m.read_ports)) trits trits' tfront

  reads_changed : reads_of (with_read_port m i p) nets' trits'
      ≡ set (reads_of m nets trits) i (read_by p (part (read_start m i) (addr_size p) nets') (part (trit_start m i) (trit_size p) trits'))
  reads_changed =
      let R = reads_start m in
      let T = m.init_len in
      let x = sum_by addr_size (take i m.read_ports) in
      let y = sum_by trit_size (take i m.read_ports) in
      let b : drop (x + addr_size p) (drop R nets') ≡ drop (x + addr_size p) (drop R nets) = rw (drop-drop (x + addr_size p) R nets', drop-drop (x + addr_size p) R nets, ← add_assoc R x (addr_size p)) back in
      let f : drop (y + trit_size p) (drop T trits') ≡ drop (y + trit_size p) (drop T trits) = rw (drop-drop (y + trit_size p) T trits', drop-drop (y + trit_size p) T trits, ← add_assoc T y (trit_size p)) tback in
      ap (λ (ps : List MemoryReadPort). views addr_size trit_size read_by ps (drop R nets') (drop T trits')) ports'
      ∙ rw (← drop-drop x R nets', ← drop-drop y T trits', ← before_i')
      (views_set addr_size trit_size read_by no_read_port p (read_ports_of m) i (drop R nets) (drop R nets') (drop T trits) (drop T trits')
      (same ∙ sym (ap addr_size at_i')) (same-trits ∙ sym (ap trit_size at_i'))
      (rw before_i' (same_middle R x nets nets' front)) (rw before_i' b) (rw before_i' (same_middle T y trits trits' tfront)) (rw before_i' f))

  pub read_changed : memory_of (with_read_port m i p) nets' trits'
      ≡ with_read (memory_of m nets trits) i (read_by p (part (read_start m i) (addr_size p) nets') (part (trit_start m i) (trit_size p) trits'))
  unfolding memory_of
  read_changed = λ k. record { depth = m.depth; width = m.width; init = init_kept k; writes = writes_kept k; reads = reads_changed k }

-- the same where the nets are stored: the port has them then
module _ (m : Memory) (i : ℕ) (p : MemoryWritePort) (nets trits a d k : List ℕ) (h : i < min max_ports m.write_count) (same : write_size p ≡ write_size (write_port m i))
    (ea : length a ≡ p.addr_len) (ed : length d ≡ p.data_len) (ek : length k ≡ p.mask_len) (fits : write_start m i + write_size p ≤ length nets) where
  size : length (a ++ (d ++ k)) ≡ write_size p
  size = simp length-append (omega arith)

  stored : part (write_start m i) (write_size p) (sets nets (write_start m i) (a ++ (d ++ k))) ≡ a ++ (d ++ k)
  stored = rw (← size) (part_sets nets (write_start m i) (a ++ (d ++ k)) (omega (arith, size)))

  first : part 0 p.addr_len (a ++ (d ++ k)) ≡ a
  first = take_at a (d ++ k) p.addr_len ea

  second : part p.addr_len p.data_len (a ++ (d ++ k)) ≡ d
  second = rw (drop_at a (d ++ k) p.addr_len ea) (take_at d k p.data_len ed)

  third : part (p.addr_len + p.data_len) p.mask_len (a ++ (d ++ k)) ≡ k
  third = rw (← drop-drop p.data_len p.addr_len (a ++ (d ++ k)), drop_at a (d ++ k) p.addr_len ea, drop_at d k p.data_len ed) (take_all p.mask_len k (omega arith))

  pub write_stored : memory_of (with_write_port m i p) (sets nets (write_start m i) (a ++ (d ++ k))) trits
      ≡ with_write (memory_of m nets trits) i (record { addr = a; bits = d; mask = k; clock = control_of p.clock })
  write_stored =
      write_changed m i p nets (sets nets (write_start m i) (a ++ (d ++ k))) trits h same
      (take_sets (write_start m i) (a ++ (d ++ k)) nets (write_start m i) (le_refl (write_start m i)))
      (drop_sets (write_start m i + write_size p) (a ++ (d ++ k)) nets (write_start m i) (omega (arith, size)))
      ∙ ap (with_write (memory_of m nets trits) i) (λ j. record {
        addr = (ap (part 0 p.addr_len) stored ∙ first) j;
        bits = (ap (part p.addr_len p.data_len) stored ∙ second) j;
        mask = (ap (part (p.addr_len + p.data_len) p.mask_len) stored ∙ third) j;
        clock = control_of p.clock;
      })

pub with_write_same : (m : Memory) (i : ℕ) → with_write_port m i (write_port m i) ≡ m
with_write_same m i = ap (λ (ps : List MemoryWritePort). record { depth = m.depth; width = m.width; init_len = m.init_len; write_count = m.write_count; read_count = m.read_count; write_ports = ps; read_ports = m.read_ports }) (set-get_or m.write_ports i no_write_port)
