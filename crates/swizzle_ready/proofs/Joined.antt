-- The write ports and then the read ports of a swizzle that no number refuses: the log, the lent rooms and the struct hold the swizzle of the rules.
use mathlib.Core.Path.{◌≡◌, refl, sym, ap, ◌∙◌, subst}
use mathlib.Core.Logic.{◌≢◌}
use Prim.Native.Nat.{ℕ, ◌+◌, ◌-◌, ◌≤◌, min}
use native.Mathlib.Nat.{zero-add}
use native.Mathlib.Omega.{arith}
use mathlib.Core.List.{List, ◌++◌, map}
use lib.ListN.{length, take, replicate, length-append, length-map, length-replicate}
use lib.Seq.{sets, length-sets, take_all}
use Rattle.std.specs.Borrow.{GName}
use Rattle.lists.specs.Lists.{up_from, concat_map}
use Rattle.lists.proofs.Stores.{take_stored}
use Rattle.rules.specs.Limits.{max_ports}
use Rattle.rules.specs.Value.{Value}
use Rattle.rules.specs.Cell.{Mem, Given, Plan}
use Rattle.rules.specs.Log.{Trace, LogState}
use Rattle.rules.specs.Ports.{Driving}
use Rattle.rules.specs.Geometry.{Layout, layout_of, all_mems}
use Rattle.rules.specs.Image.{layout}
use Rattle.rules.specs.Swizzle.{WideWrite, swizzle_writes, WideRead, swizzle_reads, result_mem, swizzle_rows, shared_nets, shared_trits}
use Rattle.rules.specs.Refusals.{SwizzleRooms, swizzle_number, swizzle_refusal}
use Rattle.log_entries.specs.Emission.{Lent, is_over, run}
use Rattle.port_transparency.specs.Gave.{Gave}
use Rattle.net_memory.specs.declared.Memory.{Memory}
use Rattle.net_memory.specs.View.{memory_of}
use Rattle.net_memory.specs.Given.{given_of}
use Rattle.swizzle_facts.specs.Passed.{LayoutPassed, WritePassed, ReadPassed, EachPair}
use Rattle.swizzle_facts.proofs.Ports as ports
use Rattle.swizzle_counts.proofs.Shared.{rows_value}
use Rattle.swizzle_result.specs.declared.WideWritePort.{WideWritePort}
use Rattle.swizzle_result.specs.declared.WideReadPort.{WideReadPort}
use Rattle.swizzle_result.specs.declared.WideMemory.{WideMemory}
use Rattle.swizzle_result.specs.View.{results_of, read_ports_of}
use Rattle.swizzle_result.specs.Held.{Sized, HeldWrite, HeldRead, Holds}
use Rattle.swizzle_result.proofs.Results.{results-held}
use Rattle.swizzle_writes.specs.Placed.{Filled, placed_from, none_filled, no_port}
use Rattle.swizzle_writes.specs.Planned.{total_nets, WritePlanned, wide_nets, ports_by, filled_with}
use Rattle.swizzle_writes.proofs.Whole.{writes_planned}
use Rattle.swizzle_reads.specs.Going.{Going, in_ports, reads_if}
use Rattle.swizzle_reads.specs.Planned.{addrs_of, ReadPlanned}
use Rattle.swizzle_reads.proofs.Whole.{with_read_ports}
use Rattle.swizzle_reads.proofs.Planned.{ReadsDone, held_reads, reads_planned}
use Rattle.swizzle_ready.proofs.Planned.{number_0, layout_facts, write_pairs, read_pairs, nets_enough, write_planned, layout_planned, read_planned}
use Rattle.swizzle_ready.proofs.Runs.{writes_next, writes_used, writes_held, reads_start_lem, rows_split}
use Rattle.swizzle_ready.proofs.Shares as shares
use Rattle.swizzle_ready.proofs.HeldWrites as held
use Rattle.swizzle_ready.proofs.HeldWrites.{writes_most, held_writes}

-- what both halves leave, from this log and these rooms for nets and trits
pub record RowsDone (m : Mem) (output : Value) (p : Plan) (l : Lent) (to kinds : List ℕ) (g : Going) : Type 0 where
  pub log_is : g.lent ≡ run (swizzle_rows m output p) l
  pub nets_are : g.nets ≡ sets to 0 (shared_nets m (swizzle_rows m output p l.state.next).value)
  pub trits_are : g.trits ≡ sets kinds 0 (shared_trits m (swizzle_rows m output p l.state.next).value)
  pub nets_end : g.nets_at_of ≡ length (shared_nets m (swizzle_rows m output p l.state.next).value)
  pub trits_end : g.trits_at_of ≡ length (shared_trits m (swizzle_rows m output p l.state.next).value)
  pub results_are : results_of g.memory (shared_nets m (swizzle_rows m output p l.state.next).value) (shared_trits m (swizzle_rows m output p l.state.next).value) (layout (layout_of m p) m.init)
      ≡ (swizzle_rows m output p l.state.next).value

-- the struct before the read ports: the sizes, the counts and the write ports
pub record Begun (m : Mem) (q : Layout) (ws : List WideWritePort) (g : WideMemory) : Type 0 where
  pub sized : Sized g q
  pub write_count : min max_ports g.write_count ≡ length m.writes
  pub read_count : min max_ports g.read_count ≡ length m.reads
  pub ports_are : g.write_ports ≡ ws
  pub reads_8 : length g.read_ports ≡ max_ports

-- the parts of what the write ports leave
module _ (m : Mem) (q : Layout) (mem : Memory) (ns to : List ℕ) (xs : List WideWrite) where
  abbrev all : Filled
  all = filled_with m q mem.write_ports 0 m.writes ns (none_filled to) xs

  filled-room : all.room ≡ sets to 0 (concat_map (wide_nets q) xs)
  unfolding filled_with
  filled-room = refl

  filled_at : all.at ≡ total_nets m q m.writes ns
  unfolding filled_with
  filled_at = zero-add _

  filled_ports : all.ports ≡ ports_by m q mem.write_ports 0 m.writes ns (replicate max_ports no_port)
  unfolding filled_with
  filled_ports = refl

module _ (r : SwizzleRooms) (room : ℕ) (s : LogState) (mem : Memory) (nets trits : List ℕ) (output : Value) (p : Plan) (e : swizzle_refusal r room s (given_of mem nets trits) output p ≡ 0)
    (w : (memory_of mem nets trits).width ≢ 0) (d : (memory_of mem nets trits).depth ≢ 0) (log to kinds : List ℕ) (name : GName) (nets_room : length to ≡ r.nets) (trits-room : length kinds ≡ r.trits) where
  abbrev M : Mem
  M = memory_of mem nets trits

  abbrev g0 : Given
  g0 = given_of mem nets trits

  abbrev q : Layout
  q = layout_of M p

  abbrev l : Lent
  l = record { log = log; state = s; name = name }

  abbrev tw : Trace (List WideWrite)
  tw = swizzle_writes M q M.writes p.write_wide

  abbrev tr : Trace (List WideRead)
  tr = swizzle_reads M q M.reads p.read_wide_of output

  abbrev rows : List Driving
  rows = (swizzle_rows M output p s.next).value

  lf : LayoutPassed q
  lf = layout_facts r room s g0 output p e w d

  ew : EachPair (WritePassed M q) M.writes p.write_wide
  ew = write_pairs r room s g0 output p e w d

  er : EachPair (ReadPassed M q) M.reads p.read_wide_of
  er = read_pairs r room s g0 output p e w d

  number : swizzle_number s.next g0 output p ≡ 0
  number = number_0 r room s g0 output p e w d

  -- the code goes over as many new wide logs as there are ports: all
  pub wides_all : take (min max_ports mem.write_count) p.write_wide ≡ p.write_wide
  wides_all = take_all (min max_ports mem.write_count) p.write_wide (omega (arith, ports.writes_long s.next g0 output p number, writes_most mem nets trits))

  -- what the write ports left
  module _ (l1 : Lent) (v : Filled) (given : Gave (placed_from M q (all_mems q) mem.write_ports 0 (take (min max_ports mem.write_count) p.write_wide) (none_filled to)) l l1 v) where
    planned : WritePlanned M q p.write_wide (length to)
    planned = subst (WritePlanned M q p.write_wide) (sym nets_room) (write_planned r room s g0 output p e w d)

    given-all : Gave (placed_from M q (all_mems q) mem.write_ports 0 p.write_wide (none_filled to)) l l1 v
    given-all = subst (λ (ns : List ℕ). Gave (placed_from M q (all_mems q) mem.write_ports 0 ns (none_filled to)) l l1 v) wides_all given

    pub writes_ran : l1 ≡ run tw l
    writes_ran = (writes_planned M q mem.write_ports p.write_wide to planned l l1 v given-all).0

    pub writes_value : v ≡ filled_with M q mem.write_ports 0 M.writes p.write_wide (none_filled to) (tw s.next).value
    writes_value =
        (writes_planned M q mem.write_ports p.write_wide to planned l l1 v given-all).1
        (ap (λ (x : Lent). is_over x.state) writes_ran ∙ writes_held r room s g0 output p e w d log name)

    room_is : v.room ≡ sets to 0 (concat_map (wide_nets q) (tw s.next).value)
    room_is = ap (λ (x : Filled). x.room) writes_value ∙ filled-room M q mem p.write_wide to (tw s.next).value

    at_is : v.at ≡ total_nets M q M.writes p.write_wide
    at_is = ap (λ (x : Filled). x.at) writes_value ∙ filled_at M q mem p.write_wide to (tw s.next).value

    ports_are : v.ports ≡ ports_by M q mem.write_ports 0 M.writes p.write_wide (replicate max_ports no_port)
    ports_are = ap (λ (x : Filled). x.ports) writes_value ∙ filled_ports M q mem p.write_wide to (tw s.next).value

    room_size : length v.room ≡ r.nets
    room_size = ap length room_is ∙ length-sets to 0 (concat_map (wide_nets q) (tw s.next).value) ∙ nets_room

    pub reads_next : l1.state.next ≡ (tw s.next).next
    reads_next = ap (λ (x : Lent). x.state.next) writes_ran ∙ reads_start_lem r room s g0 output p e w d log name

    -- the read ports go on from there
    module _ (wide : WideMemory) (begun : Begun M q v.ports wide) (nets_name trits_name : GName) where
      abbrev pub start : Going
      start = record { lent = l1; nets = v.room; nets_name = nets_name; trits = kinds; trits_name = trits_name; nets_at_of = v.at; trits_at_of = 0; memory = wide }

      pub nets_in : v.at ≤ length v.room
      nets_in = omega (arith, at_is, room_size, nets_enough r room s g0 output p e w d)

      pub reads_plan : ReadPlanned M q M.reads p.read_wide_of output r.scratch l1.state (length v.room - v.at) (length kinds - 0)
      reads_plan =
          read_planned r room s g0 output p e w d l1.state (length v.room - v.at) (length kinds - 0)
          (ap (λ (x : Lent). x.state.next) writes_ran ∙ writes_next r room s g0 output p e w d log name)
          (ap (λ (x : Lent). x.state.used) writes_ran ∙ writes_used r room s g0 output p e w d log name)
          (omega (arith, at_is, room_size)) (omega (arith, trits-room))

      abbrev pub after : Going
      after = reads_if q r.scratch (in_ports mem nets trits) p.read_wide_of output start

      abbrev pub hr : List (HeldRead q)
      hr = held_reads mem nets trits q p.read_wide_of output r.scratch start (layout_planned r room s g0 output p e w d) nets_in (omega arith) reads_plan

      done : ReadsDone M q p.read_wide_of output start after hr
      done = reads_planned mem nets trits q p.read_wide_of output r.scratch start (layout_planned r room s g0 output p e w d) nets_in (omega arith) reads_plan

      abbrev pub hw : List (HeldWrite q)
      hw = held_writes mem nets trits q M.writes p.write_wide 0 s.next refl

      abbrev pub structs : List WideReadPort
      structs = map (λ (k : HeldRead q). k.struct) hr

      -- the ports of the rules
      pub reads_held : map (λ (k : HeldRead q). k.port) hr ≡ (tr (tw s.next).next).value
      reads_held = done.ports_held ∙ ap (λ (k : ℕ). (tr k).value) reads_next

      pub ports_held : map (λ (k : HeldWrite q). k.port) hw ≡ (tw s.next).value
      ports_held = held.writes_held mem nets trits q M.writes p.write_wide 0 s.next refl

      reads_count : length structs ≡ length M.reads
      reads_count =
          length-map hr (λ (k : HeldRead q). k.struct) ∙ sym (length-map hr (λ (k : HeldRead q). k.port)) ∙ ap length reads_held ∙ shares.reads_long M output p lf ew er s.next

      writes_count : length (map (λ (k : HeldWrite q). k.struct) hw) ≡ length M.writes
      writes_count =
          length-map hw (λ (k : HeldWrite q). k.struct) ∙ sym (length-map hw (λ (k : HeldWrite q). k.port)) ∙ ap length ports_held ∙ shares.writes_long M output p lf ew er s.next

      writes_few : length M.writes ≤ max_ports
      writes_few = ports.writes_few s.next g0 output p number

      write_ports_are : take (min max_ports wide.write_count) wide.write_ports ≡ map (λ (k : HeldWrite q). k.struct) hw
      write_ports_are =
          take_stored (replicate max_ports no_port) wide.write_ports (map (λ (k : HeldWrite q). k.struct) hw) (min max_ports wide.write_count)
          (begun.ports_are ∙ ports_are ∙ held.structs_held mem nets trits q M.writes p.write_wide 0 s.next refl (replicate max_ports no_port))
          (omega (arith, begun.write_count, writes_count, writes_few)) (omega (arith, length-replicate max_ports no_port))

      read_ports_are : read_ports_of (with_read_ports wide 0 structs) ≡ structs
      read_ports_are =
          take_stored wide.read_ports (sets wide.read_ports 0 structs) structs (min max_ports wide.read_count) refl
          (begun.read_count ∙ sym reads_count) (omega (arith, begun.reads_8))

      -- the struct and the shared arrays hold the ports
      pub rows_hold : Holds (with_read_ports wide 0 structs) q hw hr (shared_nets M rows) (shared_trits M rows)
      rows_hold = record {
        sized = record {
          mems_are = begun.sized.mems_are;
          full_are = begun.sized.full_are;
          full_depth = begun.sized.full_depth;
          part_depth = begun.sized.part_depth;
          unit_is = begun.sized.unit_is;
        };
        writes_are = write_ports_are;
        reads_are = read_ports_are;
        nets_are = shares.nets_shared M output p lf ew er s.next
            ∙ (λ i. sym (held.nets_held mem nets trits q M.writes p.write_wide 0 s.next refl) i ++ sym done.addrs_held i);
        trits_are = shares.trits_shared M output p lf ew er s.next ∙ sym done.kinds_held;
      }

      pub nets_name_is : after.nets_name ≡ nets_name
      nets_name_is = done.nets_name_is

      pub trits_name_is : after.trits_name ≡ trits_name
      trits_name_is = done.trits_name_is

      pub memory-held : after.memory ≡ with_read_ports wide 0 structs
      memory-held = done.memory_is

      results : results_of after.memory (shared_nets M rows) (shared_trits M rows) (layout q M.init) ≡ rows
      results =
          ap (λ (x : WideMemory). results_of x (shared_nets M rows) (shared_trits M rows) (layout q M.init)) done.memory_is
          ∙ results-held (with_read_ports wide 0 structs) q hw hr (shared_nets M rows) (shared_trits M rows) (layout q M.init) rows_hold
          ∙ (λ i. map (result_mem q (layout q M.init) (ports_held i) (reads_held i)) (up_from 0 (all_mems q)))
          ∙ sym (rows_value M output p lf ew er s.next)

      log-all : after.lent ≡ run (swizzle_rows M output p) l
      log-all = done.log_is ∙ ap (run tr) writes_ran ∙ sym (rows_split M output p l)

      nets_all : after.nets ≡ sets to 0 (shared_nets M rows)
      nets_all =
          done.nets_are ∙ ap (λ (x : List ℕ). sets x v.at (addrs_of M q M.reads p.read_wide_of)) room_is
          ∙ shares.nets_stored M output p lf ew er s.next to v.at at_is

      nets_last : after.nets_at_of ≡ length (shared_nets M rows)
      nets_last =
          let a = concat_map (wide_nets q) (tw s.next).value in
          let b = addrs_of M q M.reads p.read_wide_of in
          done.nets_end ∙ ap (λ (k : ℕ). k + length b) (at_is ∙ sym (shares.writes_size M output p lf ew er s.next)) ∙ sym (length-append a b)
          ∙ ap length (sym (shares.nets_shared M output p lf ew er s.next))

      -- both halves together are the swizzle of the rules
      pub rows_done : RowsDone M output p l to kinds after
      rows_done = record {
        log_is = log-all;
        nets_are = nets_all;
        trits_are = done.trits_are ∙ ap (sets kinds 0) (sym (shares.trits_shared M output p lf ew er s.next));
        nets_end = nets_last;
        trits_end = done.trits_end ∙ zero-add _ ∙ ap length (sym (shares.trits_shared M output p lf ew er s.next));
        results_are = results;
      }
