-- What the code counts for each port is what the rules count.
use mathlib.Core.Path.{◌≡◌, refl, sym, ap, ◌∙◌, subst}
use Prim.Native.Nat.{ℕ, ◌+◌, ◌-◌, ◌*◌, ◌^◌, ◌≤◌, ◌<◌, min}
use native.Mathlib.Nat.{zero-add, add-zero}
use native.Mathlib.Omega.{arith}
use mathlib.Core.Bool.{Bool, true, false}
use mathlib.Core.Option.{Option, none, some}
use mathlib.Core.List.{List, [], ◌∷◌}
use lib.ListN.{length, take, drop, length-take}
use lib.Seq.{take_all}
use lib.Dec.{eqb, eqb-suc-zero}
use Rattle.lists.specs.Choice.{when◌then◌else◌}
use Rattle.lists.specs.Lists.{part}
use Rattle.lists.specs.Distinct.{kept}
use Rattle.rules.specs.Limits.{X, max_ports}
use Rattle.rules.specs.Value.{Value}
use Rattle.rules.specs.Cell.{WritePort, ReadFlipFlop, ReadPort, Mem, wide_log2, write_wide_log2, read_wide_log2, write_at, read_at_of, is_some}
use Rattle.rules.specs.Ports.{is_empty}
use Rattle.rules.specs.Geometry.{Layout, soft_bits, soft, full_depth_of, full_chunks, part_depth_of, all_chunks, columns}
use Rattle.rules.specs.Swizzle.{Split, split_by, split_addr, repeating}
use Rattle.rules.specs.Beside.Counts.{plus, nothing, times_count, mux_count_of, dff_count, eq_count, void_count, replace_count, mask_nets, write_count_of, clocked_count, read_count_of}
use Rattle.net_memory.specs.declared.Memory.{Memory}
use Rattle.net_memory.specs.declared.MemoryReadPort.{MemoryReadPort}
use Rattle.net_memory.specs.FlipFlop.{MemoryReadFlipFlop}
use Rattle.std.specs.Prelude.{None, Some}
use Rattle.net_memory.specs.View as view
use Rattle.net_memory.specs.View.{memory_of, read_port, read_nets, write_port, write_nets, write_by, flip_flop_by, addr_size, trit_size, read_start, trit_start, write_start, write_size}
use Rattle.net_memory.proofs.Ports.{read_of_view, reads_at, nets_at, write_of_view, writes_at, write_nets_at}
use Rattle.image_geometry.specs.declared.Params.{Params}
use Rattle.image_geometry.specs.View.{layout_by}
use Rattle.swizzle_split.specs.Steps.{can_split}
use Rattle.swizzle_columns.proofs.Rules.{sources_are}
use Rattle.swizzle_facts.specs.Passed.{LayoutPassed, PortPassed, SplitPassed, WritePassed, ReadPassed}
use Rattle.swizzle_facts.proofs.Splits.{split_passed, split_can}
use Rattle.swizzle_counts.specs.declared.Needs.{Needs}
use Rattle.swizzle_counts.specs.Rooms.{write_room, read_room, trits_by, trit_room}
use Rattle.swizzle_counts.specs.Needs.{PortFits, read_from, is_clocked, read_log, read_needs, mux_words, mux_nets, write_from, kept_nets, write_log, write_addr, write_needs}

-- ---- the entries of a row have no part in a split
module _ (p : Params) (es : List ℕ) (old new : ℕ) where
  split_any : (addr : Value) → split_addr (layout_by p []) old new addr ≡ split_addr (layout_by p es) old new addr
  unfolding split_addr split_by all_chunks full_chunks part_depth_of full_depth_of soft soft_bits
  split_any addr = refl

  can_any : (len : ℕ) → can_split (layout_by p []) old new len ≡ can_split (layout_by p es) old new len
  unfolding can_split all_chunks full_chunks part_depth_of full_depth_of soft soft_bits
  can_any len = refl

-- a port that passes fits
pub port_fits_lem : (p : Params) (es : List ℕ) (old new : ℕ) (addr : Value) (size : ℕ) → LayoutPassed (layout_by p es) → PortPassed (layout_by p es) old new addr size
    → PortFits p (columns (layout_by p es)) old new addr
port_fits_lem p es old new addr size l o =
    let q = layout_by p es in
    let s = split_passed q old new addr size l o in
    let e = sym (split_any p es old new addr) in
    record {
      can = can_any p es old new (length addr) ∙ split_can q old new addr size l o;
      pieces_some = subst (λ (x : Split). 0 < x.pieces) e s.pieces_some;
      pieces_max = subst (λ (x : Split). x.pieces ≤ 524288) e s.pieces_max;
      mux_max = subst (λ (x : Split). length x.mux_addr ≤ 32) e s.mux_max;
      addr_max = subst (λ (x : Split). length x.addr ≤ 15) e (omega (arith, s.addr_len, l.small.hard_max));
      new_max = o.new_max;
      columns_max = l.columns_max;
    }

-- ---- read port i of the struct
take_twice : (n : ℕ) (l : List ℕ) → take n (take n l) ≡ take n l
take_twice n l = take_all n (take n l) (omega (arith, length-take n l))

some_clock : (f : MemoryReadFlipFlop) (p : MemoryReadPort) (y : List ℕ) → is_some (flip_flop_by f p y) ≡ is_clocked f
unfolding is_some
some_clock None p y = refl
some_clock (Some c) p y = refl

module _ (m : Memory) (nets trits : List ℕ) (i : ℕ) (h : i < min max_ports m.read_count) where
  abbrev r : ReadPort
  r = read_at_of (memory_of m nets trits) i

  read_view : r ≡ view.read_by (read_port m i) (part (read_start m i) (addr_size (read_port m i)) nets) (part (trit_start m i) (trit_size (read_port m i)) trits)
  read_view = read_of_view m nets trits i ∙ reads_at m nets trits i h

  pub read_addr_lem : r.addr ≡ read_nets m nets i
  read_addr_lem = ap (λ (x : ReadPort). x.addr) read_view ∙ take_twice (addr_size (read_port m i)) (drop (read_start m i) nets) ∙ sym (nets_at m nets trits i h)

  pub read_len : r.data_len ≡ (read_port m i).data_len
  read_len = ap (λ (x : ReadPort). x.data_len) read_view

  read_clock : is_some r.flip_flop ≡ is_clocked (read_port m i).flip_flop
  read_clock = ap (λ (x : ReadPort). is_some x.flip_flop) read_view ∙ some_clock (read_port m i).flip_flop (read_port m i) _

  pub read_log_lem : read_wide_log2 (memory_of m nets trits) r ≡ read_log m i
  unfolding read_wide_log2 memory_of
  read_log_lem = ap (wide_log2 m.width) read_len

  -- its needs, by the port of the rules
  pub read_rules : (p : Params) (es : List ℕ) (n : ℕ)
      → let s = split_addr (layout_by p es) (read_wide_log2 (memory_of m nets trits) r) n r.addr in
      read_needs m nets p (columns (layout_by p es)) n i ≡ read_from s.pieces (length s.mux_addr) (length s.addr) (2 ^ n) (columns (layout_by p es)) r.data_len (is_some r.flip_flop)
  read_rules p es n =
      let e = split_any p es (read_log m i) n (read_nets m nets i) ∙ (λ k. split_addr (layout_by p es) (sym read_log_lem k) n (sym read_addr_lem k)) in
      λ k. read_from (e k).pieces (length (e k).mux_addr) (length (e k).addr) (2 ^ n) (columns (layout_by p es)) (sym read_len k) (sym read_clock k)

-- ---- write port i of the struct
module _ (m : Memory) (nets trits : List ℕ) (i : ℕ) (h : i < min max_ports m.write_count) where
  abbrev w : WritePort
  w = write_at (memory_of m nets trits) i

  pub write_view : w ≡ write_by (write_port m i) (write_nets m nets i) []
  write_view = write_of_view m nets trits i ∙ writes_at m nets i h ∙ ap (λ (x : List ℕ). write_by (write_port m i) x []) (sym (write_nets_at m nets i h))

  pub write_log_lem : write_wide_log2 (memory_of m nets trits) w ≡ write_log m nets i
  unfolding write_wide_log2 memory_of
  write_log_lem = ap (λ (x : WritePort). wide_log2 m.width (length x.bits)) write_view

  pub write_addr_lem : w.addr ≡ write_addr m nets i
  write_addr_lem = ap (λ (x : WritePort). x.addr) write_view

  pub write_rules : (p : Params) (es : List ℕ) (n : ℕ)
      → let s = split_addr (layout_by p es) (write_wide_log2 (memory_of m nets trits) w) n w.addr in
      write_needs m nets p (columns (layout_by p es)) es n i
      ≡ write_from s.pieces (length s.mux_addr) (length s.addr) (2 ^ n) (columns (layout_by p es)) (kept_nets (2 ^ write_wide_log2 (memory_of m nets trits) w) m.width es w.mask)
  write_rules p es n =
      let e = split_any p es (write_log m nets i) n (write_addr m nets i) ∙ (λ k. split_addr (layout_by p es) (sym write_log_lem k) n (sym write_addr_lem k)) in
      λ k. write_from (e k).pieces (length (e k).mux_addr) (length (e k).addr) (2 ^ n) (columns (layout_by p es)) (kept_nets (2 ^ sym write_log_lem k) m.width es (sym write_view k).mask)

-- ---- the rules' counts
abbrev pub read_of : Mem → Layout → ReadPort × ℕ → Needs
read_of m q x =
    let s = split_addr q (read_wide_log2 m x.0) x.1 x.0.addr in
    record { words = (read_count_of q s x.0).words; nets = (read_count_of q s x.0).nets; room = read_room q x.1; trits = trit_room q x; scratch = s.pieces * x.0.data_len }

abbrev pub write_of : Mem → Layout → WritePort × ℕ → Needs
write_of m q x =
    let s = split_addr q (write_wide_log2 m x.0) x.1 x.0.addr in
    record { words = (write_count_of q s x.0).words; nets = (write_count_of q s x.0).nets; room = write_room q x.1; trits = 0; scratch = 0 }

module _ (m : Mem) (q : Layout) (l : LayoutPassed q) (p : ReadPort) (n : ℕ) (o : ReadPassed m q p n) where
  abbrev sr : Split
  sr = split_addr q (read_wide_log2 m p) n p.addr

  facts : SplitPassed q (read_wide_log2 m p) n sr
  facts = split_passed q (read_wide_log2 m p) n p.addr p.data_len l o

  count_words : (f : Option ReadFlipFlop) → p.flip_flop ≡ f
      → (read_from sr.pieces (length sr.mux_addr) (length sr.addr) (2 ^ sr.new) (columns q) p.data_len (is_some f)).words ≡ (read_count_of q sr p).words
  unfolding read_count_of plus times_count void_count clocked_count mux_count_of replace_count dff_count nothing is_some read_wide_log2
  count_words none e = rw e (ap (λ (k : ℕ). 2 ^ sr.new * 4 + k) (sym (zero-add ((sr.pieces - 1) * (5 + 2 * p.data_len) + (4 + 2 * p.data_len)))))
  count_words (some f) e = rw e

  count_nets : (f : Option ReadFlipFlop) → p.flip_flop ≡ f
      → (read_from sr.pieces (length sr.mux_addr) (length sr.addr) (2 ^ sr.new) (columns q) p.data_len (is_some f)).nets ≡ (read_count_of q sr p).nets
  unfolding read_count_of plus times_count void_count clocked_count mux_count_of replace_count dff_count nothing is_some read_wide_log2
  count_nets none e = rw e (ap (λ (k : ℕ). 2 ^ sr.new * columns q + k) (sym (zero-add ((sr.pieces - 1) * p.data_len + 0) ∙ add-zero ((sr.pieces - 1) * p.data_len))))
  count_nets (some f) e = rw e (ap (λ (k : ℕ). 2 ^ sr.new * columns q + (length sr.mux_addr + k)) (sym (add-zero ((sr.pieces - 1) * p.data_len))))

  count_trits : (f : Option ReadFlipFlop) → p.flip_flop ≡ f
      → (read_from sr.pieces (length sr.mux_addr) (length sr.addr) (2 ^ n) (columns q) p.data_len (is_some f)).trits ≡ trits_by q p.flip_flop n
  unfolding is_some
  count_trits none e = rw e
  count_trits (some f) e = rw e

  others : (f : Bool) → ((read_from sr.pieces (length sr.mux_addr) (length sr.addr) (2 ^ n) (columns q) p.data_len f).room ≡ length sr.addr)
      × ((read_from sr.pieces (length sr.mux_addr) (length sr.addr) (2 ^ n) (columns q) p.data_len f).scratch ≡ sr.pieces * p.data_len)
  others true = (refl, refl)
  others false = (refl, refl)

  pub read_one : read_from sr.pieces (length sr.mux_addr) (length sr.addr) (2 ^ n) (columns q) p.data_len (is_some p.flip_flop) ≡ read_of m q (p, n)
  read_one =
      let b = is_some p.flip_flop in
      let at : ℕ → Needs = λ (k : ℕ). read_from sr.pieces (length sr.mux_addr) (length sr.addr) (2 ^ k) (columns q) p.data_len b in
      let e = facts.new_is in
      λ i. record {
        words = (ap (λ (k : ℕ). (at k).words) (sym e) ∙ count_words p.flip_flop refl) i;
        nets = (ap (λ (k : ℕ). (at k).nets) (sym e) ∙ count_nets p.flip_flop refl) i;
        room = ((others b).0 ∙ facts.addr_len) i;
        trits = count_trits p.flip_flop refl i;
        scratch = (others b).1 i;
      }

mux_count : (v : Value) (k : ℕ) → ((when is_empty v then nothing else mux_count_of k).words ≡ mux_words (length v) k) × ((when is_empty v then nothing else mux_count_of k).nets ≡ mux_nets (length v) k)
unfolding is_empty nothing mux_count_of
mux_count [] k = (refl, refl)
mux_count (x ∷ v) k = (sym (rw (eqb-suc-zero (length v))), sym (rw (eqb-suc-zero (length v))))

module _ (m : Mem) (q : Layout) (l : LayoutPassed q) (p : WritePort) (n : ℕ) (o : WritePassed m q p n) where
  abbrev sw : Split
  sw = split_addr q (write_wide_log2 m p) n p.addr

  facts_w : SplitPassed q (write_wide_log2 m p) n sw
  facts_w = split_passed q (write_wide_log2 m p) n p.addr (length p.bits) l o.0

  kept_is : kept_nets (2 ^ write_wide_log2 m p) q.width q.entries p.mask ≡ mask_nets q sw p
  unfolding mask_nets
  kept_is =
      ap (λ (k : ℕ). kept_nets (2 ^ k) q.width q.entries p.mask) (sym facts_w.old_is)
      ∙ ap (λ (x : List ℕ). length (kept eqb (repeating X x p.mask))) (sources_are q sw)

  pub write_one : write_from sw.pieces (length sw.mux_addr) (length sw.addr) (2 ^ n) (columns q) (kept_nets (2 ^ write_wide_log2 m p) q.width q.entries p.mask) ≡ write_of m q (p, n)
  unfolding write_count_of times_count plus eq_count
  write_one =
      let c = mux_count sw.mux_addr (mask_nets q sw p) in
      λ i. record {
        words = (ap (λ (k : ℕ). sw.pieces * (4 + 2 * length sw.mux_addr + mux_words (length sw.mux_addr) k)) kept_is ∙ ap (λ (k : ℕ). sw.pieces * (4 + 2 * length sw.mux_addr + k)) (sym c.0)) i;
        nets = (ap (λ (k : ℕ). sw.pieces * (1 + mux_nets (length sw.mux_addr) k)) kept_is ∙ ap (λ (k : ℕ). sw.pieces * (1 + k)) (sym c.1)) i;
        room = facts_w.addr_len i + 2 * (2 ^ n * columns q);
        trits = 0;
        scratch = 0;
      }
