-- The view of a settled memory.
use mathlib.Core.Path.{◌≡◌, refl, ap, ◌∙◌}
use Prim.Native.Nat.{ℕ, zero, suc, ◌+◌, min}
use mathlib.Core.Bool.{Bool, true, false}
use mathlib.Core.Option.{some}
use mathlib.Core.List.{List, [], ◌∷◌, map}
use lib.ListN.{take, drop}
use Rattle.lists.specs.Choice.{when◌then◌else◌}
use Rattle.lists.specs.Lists.{sum_by, part}
use Rattle.lists.specs.Views.{views}
use Rattle.rules.specs.Limits.{max_ports}
use Rattle.rules.specs.Value.{Control, Pos, Neg, inverse}
use Rattle.rules.specs.Cell.{Mem, Undefined, ReadBeforeWrite, is_read_before_write}
use Rattle.rules.specs.Ports.{relates_to, settled, settled_flip_flop, settled_port}
use Rattle.net_value.specs.View.{control_of}
use Rattle.net_flip_flop.specs.View.{controls_of}
use Rattle.net_memory.specs.FlipFlop.{MemoryReadFlipFlop}
use Rattle.std.specs.Prelude.{None, Some}
use Rattle.net_memory.specs.declared.MemoryWritePort.{MemoryWritePort}
use Rattle.net_memory.specs.declared.MemoryReadPort.{MemoryReadPort}
use Rattle.net_memory.specs.declared.Memory.{Memory}
use Rattle.net_memory.specs.View.{write_size, addr_size, trit_size, no_trits, write_by, read_by, flip_flop_by, read_ports_of, reads_start, writes_of, memory_of}
use Rattle.port_relations.proofs.Clocks.{relates_are, before_is}
use Rattle.port_settle.specs.Settled.{is_read, reads_before, turned_by, turned_from, turned_mem, settled_mem, net_of, turned_port, undefined_if, first_changed, settled_by, turning, settling}

-- ---- a control to the machine's and back
net_view : (c : Control) → control_of (net_of c) ≡ c
net_view (Pos n) = refl
net_view (Neg n) = refl

-- ---- the write ports
turned_size : (b : Bool) (p : MemoryWritePort) → write_size (turned_port b p) ≡ write_size p
turned_size true p = refl
turned_size false p = refl

turned_view : (b : Bool) (p : MemoryWritePort) (x y : List ℕ) → write_by (turned_port b p) x y ≡ turned_by b (write_by p x y)
turned_view true p x y =
    ap (λ (c : Control). record { addr = part 0 p.addr_len x; bits = part p.addr_len p.data_len x; mask = part (p.addr_len + p.data_len) p.mask_len x; clock = c })
    (net_view (inverse (control_of p.clock)))
turned_view false p x y = refl

module _ (is : ℕ → Bool) where
  abbrev turns : ℕ → MemoryWritePort → MemoryWritePort
  turns j = turned_port (is j)

  turned_start : (ps : List MemoryWritePort) (s n : ℕ) → sum_by write_size (take n (first_changed turns s n ps)) ≡ sum_by write_size (take n ps)
  turned_start ps s zero = refl
  turned_start [] s (suc n) = refl
  turned_start (p ∷ ps) s (suc n) = λ k. turned_size (is s) p k + turned_start ps (suc s) n k

  turned_views : (ps : List MemoryWritePort) (s n : ℕ) (x y : List ℕ) → views write_size no_trits write_by (take n (first_changed turns s n ps)) x y ≡ turned_from is s (views write_size no_trits write_by (take n ps) x y)
  turned_views ps s zero x y = refl
  turned_views [] s (suc n) x y = refl
  turned_views (p ∷ ps) s (suc n) x y =
      (λ k. write_by (turns s p) (take (turned_size (is s) p k) x) (take 0 y) ∷ views write_size no_trits write_by (take n (first_changed turns (suc s) n ps)) (drop (turned_size (is s) p k) x) (drop 0 y))
      ∙ (λ k. turned_view (is s) p (take (write_size p) x) (take 0 y) k ∷ turned_views ps (suc s) n (drop (write_size p) x) (drop 0 y) k)

-- ---- the read ports
module _ (is : ℕ → Bool) (M : Mem) (e : (j : ℕ) → is j ≡ relates_to is_read_before_write M j) where
  relations_settled : (l : List ℕ) (s n : ℕ) → take n (first_changed (λ j. undefined_if (is j)) s n l) ≡ settled M s (take n l)
  unfolding settled
  relations_settled l s zero = refl
  relations_settled [] s (suc n) = refl
  relations_settled (r ∷ l) s (suc n) = λ k. (when e s k then Undefined else r) ∷ relations_settled l (suc s) n k

  flip_flop-settled : (f : MemoryReadFlipFlop) (p : MemoryReadPort) (y : List ℕ) → flip_flop_by f (settled_by is p) y ≡ settled_flip_flop M (flip_flop_by f p y)
  unfolding settled_flip_flop
  flip_flop-settled None p y = refl
  flip_flop-settled (Some c) p y = λ k. some (record {
    controls = controls_of c;
    clear_value = part 0 p.clear_len y;
    reset_value = part p.clear_len p.reset_len y;
    init_value = part (p.clear_len + p.reset_len) p.init_len y;
    relations = relations_settled p.relations 0 p.relations_len k;
  })

  port_settled : (p : MemoryReadPort) (x y : List ℕ) → read_by (settled_by is p) x y ≡ settled_port M (read_by p x y)
  unfolding settled_port
  port_settled p x y = λ k. record { addr = part 0 p.addr_len x; data_len = p.data_len; flip_flop = flip_flop-settled p.flip_flop p y k }

  settled-views : (ps : List MemoryReadPort) (s n : ℕ) (x y : List ℕ) → views addr_size trit_size read_by (take n (first_changed (λ _. settled_by is) s n ps)) x y ≡ map (settled_port M) (views addr_size trit_size read_by (take n ps) x y)
  settled-views ps s zero x y = refl
  settled-views [] s (suc n) x y = refl
  settled-views (p ∷ ps) s (suc n) x y =
      λ k. port_settled p (take (addr_size p) x) (take (trit_size p) y) k ∷ settled-views ps (suc s) n (drop (addr_size p) x) (drop (trit_size p) y) k

-- ---- which write ports are read before they write
pub before_are : (m : Memory) (nets trits : List ℕ) (n : ℕ) → n ≡ min max_ports m.read_count → (j : ℕ) → reads_before (take n m.read_ports) j ≡ is_read m nets trits j
before_are m nets trits n e j = ap (λ (k : ℕ). reads_before (take k m.read_ports) j) e ∙ relates_are m nets trits ReadBeforeWrite j

-- ---- the memory
module _ (m : Memory) (nets nets' trits : List ℕ) where
  abbrev is : ℕ → Bool
  is = is_read m nets trits

  turning_view : memory_of (turning is (min max_ports m.write_count) m) nets' trits ≡ turned_mem is (memory_of m nets' trits)
  unfolding memory_of
  turning_view = λ k. record {
    depth = m.depth;
    width = m.width;
    init = part 0 m.init_len trits;
    writes = turned_views is m.write_ports 0 (min max_ports m.write_count) nets' [] k;
    reads = views addr_size trit_size read_by (read_ports_of m) (drop (turned_start is m.write_ports 0 (min max_ports m.write_count) k) nets') (drop m.init_len trits);
  }

  pub view_turned : (r : Memory) → r ≡ turning is (min max_ports m.write_count) m → memory_of r nets' trits ≡ turned_mem is (memory_of m nets' trits)
  view_turned r e = ap (λ (x : Memory). memory_of x nets' trits) e ∙ turning_view

  settling_view : (v : Memory) → memory_of (settling is (min max_ports v.read_count) v) nets' trits ≡ settled_mem (memory_of m nets trits) (memory_of v nets' trits)
  unfolding memory_of
  settling_view v = λ k. record {
    depth = v.depth;
    width = v.width;
    init = part 0 v.init_len trits;
    writes = writes_of v nets';
    reads = settled-views is (memory_of m nets trits) (before_is m nets trits) v.read_ports 0 (min max_ports v.read_count) (drop (reads_start v) nets') (drop v.init_len trits) k;
  }

  pub view_settled : (v r : Memory) → r ≡ settling is (min max_ports v.read_count) v → memory_of r nets' trits ≡ settled_mem (memory_of m nets trits) (memory_of v nets' trits)
  view_settled v r e = ap (λ (x : Memory). memory_of x nets' trits) e ∙ settling_view v
