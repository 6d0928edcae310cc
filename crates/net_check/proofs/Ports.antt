-- The number of a port that is found by its place.
use mathlib.Core.Path.{◌≡◌, refl, sym, ap, ◌∙◌}
use Prim.Native.Nat.{ℕ, ◌<◌, min}
use mathlib.Core.List.{List, []}
use lib.ListN.{length, get_or}
use Rattle.lists.specs.Lists.{part}
use Rattle.rules.specs.Limits.{max_ports}
use Rattle.rules.specs.Cell.{Mem}
use Rattle.net_memory.specs.declared.Memory.{Memory}
use Rattle.net_memory.specs.View.{write_by, read_by, writes_of, reads_of, memory_of, write_size, addr_size, trit_size, write_port, read_port, write_start, read_start, trit_start}
use Rattle.net_memory.proofs.Ports.{no_write_of, writes_at, reads_at}
use Rattle.net_check.specs.Number.{write_number, read_number, no_read_of}

pub write_is : (m : Memory) (nets trits : List ℕ) (next i : ℕ) → i < min max_ports m.write_count → (r : ℕ) (x : List ℕ)
    → x ≡ part (write_start m i) (write_size (write_port m i)) nets
    → ((v : Mem) → v.depth ≡ m.depth → v.width ≡ m.width → r ≡ write_number next v (write_by (write_port m i) x []))
    → r ≡ write_number next (memory_of m nets trits) (get_or (writes_of m nets) i no_write_of)
unfolding memory_of
write_is m nets trits next i h r x e f =
    f (memory_of m nets trits) refl refl
    ∙ ap (write_number next (memory_of m nets trits)) (ap (λ (l : List ℕ). write_by (write_port m i) l []) e ∙ sym (writes_at m nets i h))

pub read_is : (m : Memory) (nets trits : List ℕ) (next i w : ℕ) → i < min max_ports m.read_count → length (writes_of m nets) ≡ w → (r : ℕ) (x y : List ℕ)
    → x ≡ part (read_start m i) (addr_size (read_port m i)) nets → y ≡ part (trit_start m i) (trit_size (read_port m i)) trits
    → ((v : Mem) → v.depth ≡ m.depth → v.width ≡ m.width → length v.writes ≡ w → r ≡ read_number next v (read_by (read_port m i) x y))
    → r ≡ read_number next (memory_of m nets trits) (get_or (reads_of m nets trits) i no_read_of)
unfolding memory_of
read_is m nets trits next i w h l r x y e f g =
    g (memory_of m nets trits) refl refl l
    ∙ ap (read_number next (memory_of m nets trits)) ((λ k. read_by (read_port m i) (e k) (f k)) ∙ sym (reads_at m nets trits i h))
