-- The listed ports' nets and trits, behind those of the write ports and the initial trits, are the extracted memory, also in rooms that are longer.
use mathlib.Core.Path.{◌≡◌, refl, sym, ap, ◌∙◌}
use Prim.Native.Nat.{ℕ, ◌+◌, ◌<◌, ◌≤◌, min}
use native.Mathlib.Omega.{arith}
use mathlib.Core.List.{List, [], ◌++◌, map, append_assoc}
use lib.ListN.{length, take, drop, get_or, set, length-drop, length-append, length-map, get_or-map}
use lib.Seq.{sets, sets-eq, take_all, take_at, drop_at, length-take-le, get_or-take}
use Rattle.lists.specs.Lists.{sum_by, part, concat_map}
use Rattle.lists.specs.Views.{views}
use Rattle.lists.proofs.Choice.{cases_le}
use Rattle.lists.proofs.Concat.{views_concat, concat_map_lem, length_concat}
use Rattle.lists.proofs.Parts.{length_part}
use Rattle.lists.proofs.Store.{sets_more}
use Rattle.lists.proofs.Sum.{sum_part}
use Rattle.lists.proofs.Views.{get_d_views, views_front}
use Rattle.rules.specs.Limits.{max_ports}
use Rattle.rules.specs.Cell.{ReadPort, read_at_of, with_reads, port_nets, port_trits, flat_nets, flat_trits}
use Rattle.rules.specs.Ports.{extract_read_ports}
use Rattle.net_flip_flop.specs.declared.Controls.{Controls}
use Rattle.std.specs.Prelude.{None, Some}
use Rattle.net_memory.specs.FlipFlop.{MemoryReadFlipFlop}
use Rattle.net_memory.specs.declared.MemoryReadPort.{MemoryReadPort}
use Rattle.net_memory.specs.declared.Memory.{Memory}
use Rattle.net_memory.specs.View.{no_read_port, write_ports_of, read_ports_of, write_size, addr_size, trit_size, no_trits, write_by, read_by, writes_of, reads_of, reads_start, read_port, memory_of, read_nets, read_trits, nets_total, trits_total}
use Rattle.net_memory.proofs.Ports.{no_read_of, trits_none}
use Rattle.port_extract.specs.Extract.{port_of, kept_list, kept_port, new_port, kept_trits, with_ports, new_nets, new_trits, extraction_of, ListedPorts}
use Rattle.lists.proofs.Flat.{views-flat}
use Rattle.port_extract.proofs.Kept.{kept_nil, kept_same, kept_long, kept-flat, write_flat}

pub port_is : (m : Memory) (k : ℕ) → k < min max_ports m.read_count → port_of m k ≡ read_port m k
port_is m k h = get_or-take (min max_ports m.read_count) m.read_ports k no_read_port h

-- the trits that are kept of a port: none where it is not there, or has no flip-flop
module _ (m : Memory) (trits : List ℕ) (k : ℕ) where
  kept_none : min max_ports m.read_count ≤ k → [] ≡ kept_trits m trits k
  kept_none h = sym (ap (kept_list (port_of m k).flip_flop) (trits_none m [] trits k h) ∙ kept_nil (port_of m k).flip_flop)

  kept_by : (f : MemoryReadFlipFlop) → k < min max_ports m.read_count → (read_port m k).flip_flop ≡ f → kept_list f (read_trits m trits k) ≡ kept_trits m trits k
  kept_by f h e = ap (λ (g : MemoryReadFlipFlop). kept_list g (read_trits m trits k)) (sym (ap (λ (p : MemoryReadPort). p.flip_flop) (port_is m k h) ∙ e))

  -- by the port that is read
  module _ (p : MemoryReadPort) (own : k < min max_ports m.read_count → p ≡ read_port m k) where
    pub kept_without : p.flip_flop ≡ None → [] ≡ kept_trits m trits k
    kept_without q = cases_le (min max_ports m.read_count) k kept_none (λ h. kept_by None h (ap (λ (r : MemoryReadPort). r.flip_flop) (sym (own h)) ∙ q))

    pub kept_with : (c : Controls) (y : List ℕ) → p.flip_flop ≡ Some c → y ≡ read_trits m trits k → y ≡ kept_trits m trits k
    kept_with c y q e =
        cases_le (min max_ports m.read_count) k
        (λ h. e ∙ trits_none m [] trits k h ∙ kept_none h)
        (λ h. e ∙ kept_by (Some c) h (ap (λ (r : MemoryReadPort). r.flip_flop) (sym (own h)) ∙ q))

-- a turn of the loop that stores the listed ports
pub ports_turn : (m : Memory) (list : List ℕ) (j k : ℕ) (p : MemoryReadPort) → j < length list → k ≡ get_or list j 0 → ListedPorts m list → p ≡ kept_port (read_port m k)
    → set (sets m.read_ports 0 (take j (map (new_port m) list))) j p ≡ sets m.read_ports 0 (take (j + 1) (map (new_port m) list))
ports_turn m list j k p h e l kept =
    let n : k < min max_ports m.read_count = omega (arith, l.there j h) in
    let q : p ≡ get_or (map (new_port m) list) j (new_port m 0) = kept ∙ ap kept_port (sym (port_is m k n)) ∙ ap (new_port m) e ∙ sym (get_or-map (new_port m) list j 0) in
    let z : 0 + j ≡ j = omega arith in
    ap (set (sets m.read_ports 0 (take j (map (new_port m) list))) j) q
    ∙ ap (λ (i : ℕ). set (sets m.read_ports 0 (take j (map (new_port m) list))) i (get_or (map (new_port m) list) j (new_port m 0))) (sym z)
    ∙ sets_more m.read_ports 0 (map (new_port m) list) j (new_port m 0) (omega (arith, length-map list (new_port m)))

module _ (m : Memory) (nets trits : List ℕ) (nets_exact : length nets ≡ nets_total m) (trits_exact : length trits ≡ trits_total m) where
  nets_by_lem : length nets ≡ reads_start m + sum_by addr_size (read_ports_of m)
  unfolding nets_total
  nets_by_lem = nets_exact

  trits_by_lem : length trits ≡ m.init_len + sum_by trit_size (read_ports_of m)
  unfolding trits_total
  trits_by_lem = trits_exact

  module _ (k : ℕ) where
    abbrev x0 : ℕ
    x0 = sum_by addr_size (take k (read_ports_of m))

    abbrev y0 : ℕ
    y0 = sum_by trit_size (take k (read_ports_of m))

    addr_is : read_nets m nets k ≡ part x0 (addr_size (port_of m k)) (drop (reads_start m) nets)
    addr_is = get_d_views {B = ℕ} addr_size trit_size (λ p x y. x) no_read_port refl refl (read_ports_of m) k (drop (reads_start m) nets) []

    values_is : read_trits m trits k ≡ part y0 (trit_size (port_of m k)) (drop m.init_len trits)
    values_is = get_d_views {A = ℕ} addr_size trit_size (λ p x y. y) no_read_port refl refl (read_ports_of m) k [] (drop m.init_len trits)

    addr_long : length (read_nets m nets k) ≡ addr_size (port_of m k)
    addr_long =
        ap length addr_is
        ∙ length_part x0 (addr_size (port_of m k)) (drop (reads_start m) nets)
        (omega (arith, sum_part addr_size no_read_port refl (read_ports_of m) k, length-drop (reads_start m) nets, nets_by_lem))

    values_long : length (read_trits m trits k) ≡ trit_size (port_of m k)
    values_long =
        ap length values_is
        ∙ length_part y0 (trit_size (port_of m k)) (drop m.init_len trits)
        (omega (arith, sum_part trit_size no_read_port refl (read_ports_of m) k, length-drop m.init_len trits, trits_by_lem))

    kept_values_long : length (kept_trits m trits k) ≡ trit_size (new_port m k)
    kept_values_long = kept_long (port_of m k) [] (read_trits m trits k) values_long

    same_port : read_by (port_of m k) (read_nets m nets k) (read_trits m trits k) ≡ get_or (reads_of m nets trits) k no_read_of
    same_port =
        (λ i. read_by (port_of m k) (addr_is i) (values_is i))
        ∙ sym (get_d_views addr_size trit_size read_by no_read_port refl refl (read_ports_of m) k (drop (reads_start m) nets) (drop m.init_len trits))

    same_new : read_by (new_port m k) (read_nets m nets k) (kept_trits m trits k) ≡ get_or (reads_of m nets trits) k no_read_of
    same_new = kept_same (port_of m k) (read_nets m nets k) (read_trits m trits k) ∙ same_port

    addr_flat : read_nets m nets k ≡ (get_or (reads_of m nets trits) k no_read_of).addr
    addr_flat = sym (take_all (addr_size (port_of m k)) (read_nets m nets k) (omega (arith, addr_long))) ∙ ap (λ (p : ReadPort). p.addr) same_port

    trits-flat : kept_trits m trits k ≡ port_trits (get_or (reads_of m nets trits) k no_read_of)
    trits-flat = sym (kept-flat (port_of m k) (read_nets m nets k) (read_trits m trits k) values_long) ∙ ap port_trits same_port

  module _ (list output : List ℕ) where
    abbrev addrs : List ℕ
    addrs = concat_map (read_nets m nets) list

    abbrev values : List ℕ
    values = concat_map (kept_trits m trits) list

    -- what is stored is what the rules name
    flat_front : part 0 (reads_start m) nets ≡ concat_map port_nets (writes_of m nets)
    flat_front = sym (views-flat write_size no_trits write_by port_nets write_flat (write_ports_of m) nets [] (omega (arith, nets_by_lem)))

    flat_addrs : addrs ≡ concat_map (λ (p : ReadPort). p.addr) (map (λ k. get_or (reads_of m nets trits) k no_read_of) list)
    flat_addrs = (λ i. concat_map (λ k. addr_flat k i) list) ∙ sym (concat_map_lem (λ (p : ReadPort). p.addr) (λ k. get_or (reads_of m nets trits) k no_read_of) list)

    flat_values : values ≡ concat_map port_trits (map (λ k. get_or (reads_of m nets trits) k no_read_of) list)
    flat_values = (λ i. concat_map (λ k. trits-flat k i) list) ∙ sym (concat_map_lem port_trits (λ k. get_or (reads_of m nets trits) k no_read_of) list)

    pub nets_flat : new_nets m nets list ≡ flat_nets (extraction_of m nets trits list output).memory
    unfolding flat_nets memory_of extract_read_ports with_reads read_at_of
    nets_flat = λ i. flat_front i ++ flat_addrs i

    pub trits-flat_is : new_trits m trits list ≡ flat_trits (extraction_of m nets trits list output).memory
    unfolding flat_trits memory_of extract_read_ports with_reads read_at_of
    trits-flat_is = λ i. part 0 m.init_len trits ++ flat_values i

    long_nets : length (part 0 (reads_start m) nets) ≡ reads_start m
    long_nets = length-take-le (reads_start m) nets (omega (arith, nets_by_lem))

    long_trits : length (part 0 m.init_len trits) ≡ m.init_len
    long_trits = length-take-le m.init_len trits (omega (arith, trits_by_lem))

    module _ (eight : length m.read_ports ≡ 8) (listed : ListedPorts m list) where
      ports : read_ports_of (with_ports m list) ≡ map (new_port m) list
      ports =
          let n : length (map (new_port m) list) ≡ min max_ports (length list) = omega (arith, length-map list (new_port m), listed.few) in
          ap (take (min max_ports (length list))) (sets-eq (map (new_port m) list) m.read_ports 0 (omega (arith, length-map list (new_port m), listed.few, eight)))
          ∙ take_at (map (new_port m) list) (drop (0 + length (map (new_port m) list)) m.read_ports) (min max_ports (length list)) n

      -- whatever lies behind the new nets and the new trits
      module _ (a b : List ℕ) where
        nets_behind : new_nets m nets list ++ a ≡ part 0 (reads_start m) nets ++ (addrs ++ a)
        nets_behind = append_assoc (part 0 (reads_start m) nets) addrs a

        trits-behind : new_trits m trits list ++ b ≡ part 0 m.init_len trits ++ (values ++ b)
        trits-behind = append_assoc (part 0 m.init_len trits) values b

        writes_same : writes_of m (new_nets m nets list ++ a) ≡ writes_of m nets
        writes_same =
            views_front write_size no_trits write_by (write_ports_of m) nets (new_nets m nets list ++ a) [] []
            (ap (take (reads_start m)) nets_behind ∙ take_at (part 0 (reads_start m) nets) (addrs ++ a) (reads_start m) long_nets) refl

        init_same : part 0 m.init_len (new_trits m trits list ++ b) ≡ part 0 m.init_len trits
        init_same = ap (take m.init_len) trits-behind ∙ take_at (part 0 m.init_len trits) (values ++ b) m.init_len long_trits

        reads_same : reads_of (with_ports m list) (new_nets m nets list ++ a) (new_trits m trits list ++ b) ≡ map (λ k. get_or (reads_of m nets trits) k no_read_of) list
        reads_same =
            (λ i. views addr_size trit_size read_by (ports i)
            ((ap (drop (reads_start m)) nets_behind ∙ drop_at (part 0 (reads_start m) nets) (addrs ++ a) (reads_start m) long_nets) i)
            ((ap (drop m.init_len) trits-behind ∙ drop_at (part 0 m.init_len trits) (values ++ b) m.init_len long_trits) i))
            ∙ views_concat addr_size trit_size read_by (new_port m) (read_nets m nets) (kept_trits m trits) addr_long kept_values_long list a b
            ∙ (λ i. map (λ k. same_new k i) list)

        -- the view of the new memory
        pub extract_view : memory_of (with_ports m list) (new_nets m nets list ++ a) (new_trits m trits list ++ b) ≡ (extraction_of m nets trits list output).memory
        unfolding memory_of extract_read_ports with_reads read_at_of
        extract_view = λ i. record { depth = m.depth; width = m.width; init = init_same i; writes = writes_same i; reads = reads_same i }

      -- the new arrays are as long as the new struct says
      pub extract_nets : nets_total (with_ports m list) ≡ length (new_nets m nets list)
      unfolding nets_total
      extract_nets =
          sym (length-append (part 0 (reads_start m) nets) addrs
          ∙ (λ i. long_nets i + (length_concat (read_nets m nets) (new_port m) addr_size addr_long list ∙ sym (ap (sum_by addr_size) ports)) i))

      pub extract_trits : trits_total (with_ports m list) ≡ length (new_trits m trits list)
      unfolding trits_total
      extract_trits =
          sym (length-append (part 0 m.init_len trits) values
          ∙ (λ i. long_trits i + (length_concat (kept_trits m trits) (new_port m) trit_size kept_values_long list ∙ sym (ap (sum_by trit_size) ports)) i))
