-- All read ports without flip-flops, and the memory of the rules.
use mathlib.Core.Path.{◌≡◌, refl, sym, ap, ◌∙◌}
use Prim.Native.Nat.{ℕ, zero, suc, ◌<◌, min}
use native.Mathlib.Omega.{arith}
use mathlib.Core.List.{List, [], ◌∷◌, map}
use lib.ListN.{length, length-map, get_or, take, drop}
use Rattle.std.proofs.lemmas.List.{ext_get_or, get_or-map}
use Rattle.lists.specs.Views.{views}
use Rattle.rules.specs.Limits.{max_ports}
use Rattle.rules.specs.Cell as rules
use Rattle.rules.specs.Cell.{with_reads}
use Rattle.net_memory.specs.declared.MemoryReadPort.{MemoryReadPort}
use Rattle.net_memory.specs.declared.Memory.{Memory}
use Rattle.net_memory.specs.View.{no_read_port, memory_of, read_ports_of, addr_size, trit_size, read_by, reads_start}
use Rattle.port_unmap.specs.Call.{without}
use Rattle.port_unmap_all.specs.All.{bare, all_bare}
use Rattle.fallback_bare.specs.Bare.{bare_of}

-- ---- an image that is known place by place
pub by_place : (xs ys : List MemoryReadPort) (n : ℕ) → length xs ≡ n → length ys ≡ n → ((i : ℕ) (d e : MemoryReadPort) → i < n → get_or ys i e ≡ without (get_or xs i d)) → ys ≡ map without xs
by_place xs ys n hx hy h =
    ext_get_or no_read_port ys (map without xs) (hy ∙ sym hx ∙ sym (length-map xs without))
    (λ i l. h i no_read_port no_read_port (omega (arith, l, hy)) ∙ sym (get_or-map without xs i no_read_port no_read_port (omega (arith, l, hx, hy))))

-- ---- the memory of the rules
map_take : {A B : Type 0} (f : A → B) (n : ℕ) (l : List A) → take n (map f l) ≡ map f (take n l)
map_take f zero l = refl
map_take f (suc n) [] = refl
map_take f (suc n) (a ∷ l) = ap (λ (x : List _). f a ∷ x) (map_take f n l)

views-bare : (ps : List MemoryReadPort) (l m : List ℕ) → views addr_size trit_size read_by (map without ps) l m ≡ map bare (views addr_size trit_size read_by ps l m)
views-bare [] l m = refl
views-bare (p ∷ ps) l m = ap (λ (x : List rules.ReadPort). bare (read_by p (take (addr_size p) l) (take (trit_size p) m)) ∷ x) (views-bare ps (drop (addr_size p) l) (drop (trit_size p) m))

pub memory-bare : (m : Memory) (nets trits : List ℕ) → memory_of (bare_of m) nets trits ≡ all_bare (memory_of m nets trits)
unfolding memory_of all_bare with_reads
memory-bare m nets trits = λ i. record {
  depth = m.depth;
  width = m.width;
  init = (memory_of m nets trits).init;
  writes = (memory_of m nets trits).writes;
  reads = (ap (λ (ps : List MemoryReadPort). views addr_size trit_size read_by ps (drop (reads_start m) nets) (drop m.init_len trits)) (map_take without (min max_ports m.read_count) m.read_ports) ∙ views-bare (read_ports_of m) (drop (reads_start m) nets) (drop m.init_len trits)) i;
}
