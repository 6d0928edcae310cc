-- The values that the code reads of port i are the view's, and its trace is the rules'.
use mathlib.Core.Path.{◌≡◌, refl, sym, ap, ◌∙◌}
use Prim.Native.Nat.{ℕ, ◌+◌, ◌^◌, ◌<◌, ◌≤◌}
use native.Mathlib.Nat.{mul-le-mul, le_refl}
use lib.Seq.{take-take, take_all}
use Rattle.std.specs.Borrow.{GName}
use Rattle.log_entries.proofs.Emission.{named, unnamed}
use Rattle.port_unmap.specs.Trace.{related, port_trace}
use native.Mathlib.Omega.{arith}
use lib.Pow.{pow_mono}
use mathlib.Core.Bool.{false}
use mathlib.Core.Option.{some}
use mathlib.Core.List.{List, []}
use lib.ListN.{length, drop, get_or-eq_default}
use borrow.Author.Tests.{le-ltb}
use Rattle.lists.specs.Lists.{any, part}
use Rattle.lists.proofs.All.{any_at}
use Rattle.lists.proofs.Choice.{cases_le}
use Rattle.rules.specs.Limits.{max_merge, X}
use Rattle.rules.specs.Value.{Value, Pos}
use Rattle.rules.specs.Cell.{FlipFlop, ReadFlipFlop, ReadPort, Mem, read_at_of, write_at, wide_log2, read_wide_log2, flip_flop_of, output_slice, output_start, transparent_from, transparent_ports}
use Rattle.rules.specs.Log.{LogState, start_net}
use Rattle.rules.specs.Conditions.{short_pair, bad_write_shape}
use Rattle.rules.specs.Ports.{Overlay, transparencies, unmap_dff}
use Rattle.rules.proofs.Counted.{start_le}
use Rattle.net_flip_flop.specs.declared.Controls.{Controls}
use Rattle.net_flip_flop.specs.View.{flip_flop}
use Rattle.log_entries.specs.Emission.{Lent, run}
use Rattle.net_memory.specs.declared.Memory.{Memory}
use Rattle.net_memory.specs.View.{memory_of, read_port, read_start, trit_start, addr_size, trit_size, read_nets, read_trits, read_by, flip_flop_by}
use Rattle.net_memory.proofs.Ports.{reads_at, read_of_view, nets_at, trits_at}
use Rattle.port_transparency.specs.Pairs.{reading}
use Rattle.port_overlay.specs.Laid.{laid_from, unmapped, unmapped_if}
use Rattle.port_overlay.proofs.Fits.{Shaped, Reads, writes_shaped, reads_shaped, from_is}
use Rattle.port_overlay.proofs.Bounds.{Small, most_unmap, unmap_runs}
use Rattle.port_unmap.specs.Ready.{own_flip_flop, PortShape, Ready}

size_few : (width size k : ℕ) → width ≤ 128 → Shaped width size k → size ≤ 2048
size_few width size k h s = rw s.size_is (mul-le-mul {n₁ = width} {m₁ = 2 ^ k} {n₂ = 128} {m₂ = 16} h (pow_mono {i = k} {j = 4} s.few))

wide_by : (m : Mem) (r : ReadPort) → wide_log2 m.width r.data_len ≡ read_wide_log2 m r
unfolding read_wide_log2
wide_by m r = refl

width_of : (m : Memory) (nets trits : List ℕ) → (memory_of m nets trits).width ≡ m.width
unfolding memory_of
width_of m nets trits = refl

behind_is : (f : ReadFlipFlop) → (λ (b : Value). flip_flop f.controls b f.clear_value f.reset_value f.init_value) ≡ flip_flop_of f
unfolding flip_flop_of
behind_is f = refl

few_is : (m : Mem) (kr : ℕ) (r : ReadPort) (n : ℕ) (xs : List ℕ) (f : Value → FlipFlop) (from : Value) (l : Lent) → n ≤ max_merge → run (unmapped_if m kr r n xs f from) l ≡ run (unmapped m kr r n xs f from) l
unfolding unmapped_if
few_is m kr r n xs f from l h = rw (le-ltb max_merge n h)

no_write : (m : Mem) (j : ℕ) → length m.writes ≤ j → write_at m j ≡ record { addr = []; bits = []; mask = []; clock = Pos 0 }
unfolding write_at
no_write m j h = get_or-eq_default m.writes _ h

at_shaped : (m : Mem) (j : ℕ) → any (bad_write_shape m) m.writes ≡ false → j < length m.writes → bad_write_shape m (write_at m j) ≡ false
unfolding write_at
at_shaped m j e h = any_at (bad_write_shape m) m.writes e j _ h

-- ---- a port that 1, 2 and 15 pass
module _ (m : Memory) (nets trits : List ℕ) (i : ℕ) (c : Controls) (g : PortShape m nets trits i c) where
  abbrev M : Mem
  M = memory_of m nets trits

  abbrev F : ReadFlipFlop
  F = own_flip_flop m trits i c

  -- the view's port i
  pub port_is : read_at_of M i ≡ record { addr = read_nets m nets i; data_len = (read_port m i).data_len; flip_flop = some F }
  port_is =
      let p = read_port m i in
      let a : read_at_of M i ≡ read_by p (part (read_start m i) (addr_size p) nets) (part (trit_start m i) (trit_size p) trits) = read_of_view m nets trits i ∙ reads_at m nets trits i g.there in
      let b : part (trit_start m i) (trit_size p) trits ≡ read_trits m trits i = sym (trits_at m nets trits i g.there) in
      let d : part (read_start m i) (addr_size p) nets ≡ read_nets m nets i = sym (nets_at m nets trits i g.there) in
      a ∙ (λ k. record { addr = (own_addr ∙ d) k; data_len = p.data_len; flip_flop = flip_flop_by (g.clocked k) p (b k) })
    where
      own_addr : part 0 (addr_size (read_port m i)) (part (read_start m i) (addr_size (read_port m i)) nets) ≡ part (read_start m i) (addr_size (read_port m i)) nets
      own_addr = take-take (addr_size (read_port m i)) (addr_size (read_port m i)) (drop (read_start m i) nets) (le_refl (addr_size (read_port m i)))

  reads_of_lem : Reads M (read_at_of M i)
  reads_of_lem = reads_shaped M (read_at_of M i) g.read_good

  thin_of : M.width ≤ 128
  thin_of = rw (width_of m nets trits) g.thin

  pub read_few : (read_at_of M i).data_len ≤ 2048
  read_few = size_few M.width _ _ thin_of reads_of_lem.shape

  pub small : (j : ℕ) → Small (write_at M j) (read_at_of M i).data_len
  small j = cases_le (length M.writes) j none_at some_at
    where
      none_at : length M.writes ≤ j → Small (write_at M j) (read_at_of M i).data_len
      none_at h = let e = no_write M j h in record { in_bits = rw e (omega arith); in_mask = rw e (omega arith); in_read = read_few }

      some_at : j < length M.writes → Small (write_at M j) (read_at_of M i).data_len
      some_at h =
          let s = writes_shaped M (write_at M j) (at_shaped M j g.writes_good h) in
          let q = size_few M.width _ _ thin_of s.shape in
          record { in_bits = q; in_mask = omega (arith, s.masked); in_read = read_few }

  -- the write ports of relations that have long enough addresses
  pub laid_all : (xs : List ℕ) (o : Overlay) → length xs ≤ length M.writes → any (short_pair M (read_at_of M i)) (transparent_from 0 xs) ≡ false
      → laid_from M (read_wide_log2 M (read_at_of M i)) (reading (read_at_of M i).addr (read_at_of M i).data_len) 0 xs o ≡ transparencies M i (transparent_from 0 xs) o
  laid_all xs o h e = from_is M i g.writes_good reads_of_lem thin_of 0 xs o (omega arith) e

  pub data_is : (read_at_of M i).data_len ≡ (read_port m i).data_len
  data_is = ap (λ (r : ReadPort). r.data_len) port_is

  pub data_few : (read_port m i).data_len ≤ max_merge
  data_few = omega (arith, data_is, read_few)

  pub slice_is : (output : Value) → part (output_start M i) (read_port m i).data_len output ≡ output_slice M i output
  unfolding output_slice
  slice_is output = ap (λ (n : ℕ). part (output_start M i) n output) (sym data_is)

  -- its data and address as the struct has them
  pub addr_is : (read_at_of M i).addr ≡ read_nets m nets i
  addr_is = ap (λ (r : ReadPort). r.addr) port_is

  pub wide_is : wide_log2 m.width (read_port m i).data_len ≡ read_wide_log2 M (read_at_of M i)
  wide_is = (λ j. wide_log2 (sym (width_of m nets trits) j) (sym data_is j)) ∙ wide_by M (read_at_of M i)

-- ---- one that 14 passes too
module _ (m : Memory) (nets trits : List ℕ) (i : ℕ) (c : Controls) (g : Ready m nets trits i c) where
  abbrev Mv : Mem
  Mv = memory_of m nets trits

  abbrev own-flip : ReadFlipFlop
  own-flip = own_flip_flop m trits i c

  -- few nets, and in sequence
  pub unmap_below : (output : Value) (s : LogState) → (unmap_dff Mv i output own-flip (start_net s)).next < X
  unmap_below output s = omega (arith, most_unmap Mv i (small m nets trits i c g.port) output own-flip (omega (arith, g.port.related, g.port.few)) (read_few m nets trits i c g.port) (start_net s), start_le s)

  long_of : any (short_pair Mv (read_at_of Mv i)) (transparent_from 0 own-flip.relations) ≡ false
  unfolding transparent_ports
  long_of = g.long

  laid_own : (o : Overlay) → laid_from Mv (read_wide_log2 Mv (read_at_of Mv i)) (reading (read_at_of Mv i).addr (read_at_of Mv i).data_len) 0 own-flip.relations o ≡ transparencies Mv i (transparent_from 0 own-flip.relations) o
  laid_own o = laid_all m nets trits i c g.port own-flip.relations o (omega (arith, g.port.related)) long_of

  -- the entries as port_overlay gives them
  pub own_run : (output : Value) (l : Lent) → run (port_trace Mv i output own-flip) l ≡ run (unmap_dff Mv i output own-flip) l
  own_run output l =
      let r = read_at_of Mv i in
      let e : related own-flip ≡ own-flip.relations = take_all 8 own-flip.relations (omega (arith, g.port.related, g.port.few)) in
      (λ j. run (unmapped_if Mv (read_wide_log2 Mv r) (reading r.addr r.data_len) r.data_len (e j) (flip_flop_of own-flip) (output_slice Mv i output)) l)
      ∙ few_is Mv (read_wide_log2 Mv r) (reading r.addr r.data_len) r.data_len own-flip.relations (flip_flop_of own-flip) (output_slice Mv i output) l (omega (arith, read_few m nets trits i c g.port))
      ∙ unmap_runs Mv i (read_wide_log2 Mv r) (reading r.addr r.data_len) output own-flip l laid_own

  -- and so what the code leaves, by the name of its words
  pub own_ran : (n : GName) (output : Value) (l l1 : Lent) → l1 ≡ run (port_trace Mv i output own-flip) l → named n l1 ≡ run (unmap_dff Mv i output own-flip) (named n l)
  own_ran n output l l1 e = unnamed (unmap_dff Mv i output own-flip) n l l1 (e ∙ own_run output l)

  -- its few nets
  pub port_few : (A : Type 0) (last next : ℕ) → ((read_at_of Mv i).data_len ≤ max_merge → A → last ≡ next + (read_at_of Mv i).data_len) → A → last ≡ next + (read_port m i).data_len
  port_few A last next h a = h (omega (arith, read_few m nets trits i c g.port)) a ∙ ap (λ (n : ℕ). next + n) (data_is m nets trits i c g.port)
