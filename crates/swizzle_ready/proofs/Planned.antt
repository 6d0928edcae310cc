-- A swizzle that no number refuses gives what its write ports and its read ports ask for.
use mathlib.Core.Path.{◌≡◌, refl, sym, ap, ◌∙◌}
use mathlib.Core.Logic.{◌≢◌}
use Prim.Native.Nat.{ℕ, ◌+◌, ◌*◌, ◌≤◌, ◌<◌}
use native.Mathlib.Omega.{arith}
use mathlib.Core.List.{List, [], ◌∷◌, map}
use lib.ListN.{length, get_or, length-map, get_or-map}
use borrow.Author.Tests.{ne_eqb}
use Rattle.lists.specs.Lists.{sum_by, pairs}
use Rattle.lists.proofs.Pairs.{pairs_size, pairs_at}
use Rattle.lists.proofs.Parts.{get_d_any}
use Rattle.rules.specs.Numbers.{largest}
use Rattle.rules.specs.Value.{Value}
use Rattle.rules.specs.Cell.{WritePort, ReadPort, Mem, Given, Plan, write_wide_log2, read_wide_log2, read_at_of, output_len}
use Rattle.rules.specs.Log.{LogState, start_net}
use Rattle.rules.specs.Geometry.{Layout, layout_of}
use Rattle.rules.specs.Swizzle.{split_addr, piece_nets}
use Rattle.rules.specs.Refusals.{SwizzleRooms, swizzle_refusal, swizzle_number}
use Rattle.rules.proofs.Accepts.{layout_good}
use Rattle.log_entries.proofs.Rooms.{Fits, room_fits}
use Rattle.swizzle_laws.proofs.ReadsCounts.{reads_count_of}
use Rattle.swizzle_laws.proofs.WritesCounts.{writes_count_of}
use Rattle.swizzle_facts.specs.Passed.{LayoutPassed, WritePassed, ReadPassed, EachPair}
use Rattle.swizzle_facts.proofs.Layouts.{layout_passed}
use Rattle.swizzle_facts.proofs.Splits.{split_passed}
use Rattle.swizzle_facts.proofs.Ports.{writes_passed, reads_passed, reads_long, output_len_lem, read_passed}
use Rattle.swizzle_facts.proofs.Counting.{rows_by_counts}
use Rattle.swizzle_counts.proofs.Shared.{nets_need, trits_need}
use Rattle.swizzle_writes.specs.Planned as writes
use Rattle.swizzle_writes.specs.Planned.{total_nets, PortsPlanned, WritePlanned}
use Rattle.swizzle_reads.specs.Planned as reads
use Rattle.swizzle_reads.specs.Planned.{ReadPlanned, no_port, addrs_of, trits_of}
use Rattle.swizzle_ready.proofs.Tests.{Accepted, accepted}
use Rattle.swizzle_ready.proofs.Sizes.{largest_at, writes_nets, reads_nets, reads_trits}

-- ---- the write ports
write_layout : (q : Layout) → LayoutPassed q → writes.LayoutPlanned q
write_layout q l = record {
  unit_pos = l.small.unit_pos;
  some = l.columns_some;
  columns_max = l.columns_max;
  row_max = l.small.len_max;
  width_max = l.small.width_max;
  hard_max = omega (arith, l.small.hard_max);
  chunks_max = l.chunks_max;
}

module _ (m : Mem) (q : Layout) (l : LayoutPassed q) where
  write_port_lem : (w : WritePort) (n : ℕ) → WritePassed m q w n → writes.PortPlanned q (write_wide_log2 m w) n w.addr
  write_port_lem w n o =
      let x = split_passed q (write_wide_log2 m w) n w.addr (length w.bits) l o.0 in
      record {
        old_max = o.0.old_max;
        new_max = o.0.new_max;
        new_hard = o.0.new_hard;
        enough = o.0.enough;
        short = o.0.short;
        pieces_max = omega (arith, x.pieces_max);
      }

  pub write_ports_lem : (ws : List WritePort) (ns : List ℕ) → EachPair (WritePassed m q) ws ns → PortsPlanned m q ws ns
  unfolding EachPair PortsPlanned
  write_ports_lem [] [] e = tt
  write_ports_lem [] (n ∷ ns) e = absurd e
  write_ports_lem (w ∷ ws) [] e = absurd e
  write_ports_lem (w ∷ ws) (n ∷ ns) e = (write_port_lem w n e.0, write_ports_lem ws ns e.1)

-- ---- the scratch of read port i
piece_nets_lem : (m : Mem) (p : Plan) (r : ReadPort) (n : ℕ) → piece_nets m p (r, n) ≡ (split_addr (layout_of m p) (read_wide_log2 m r) n r.addr).pieces * r.data_len
unfolding piece_nets
piece_nets_lem m p r n = refl

pieces_hold : (m : Mem) (p : Plan) (room i : ℕ) → length p.read_wide_of ≡ length m.reads → i < length m.reads → largest (map (piece_nets m p) (pairs m.reads p.read_wide_of)) ≤ room
    → piece_nets m p (get_or m.reads i no_port, get_or p.read_wide_of i 0) ≤ room
pieces_hold m p room i e h g =
    let ps = pairs m.reads p.read_wide_of in
    let size : i < length ps = omega (arith, pairs_size m.reads p.read_wide_of) in
    let a = largest_at (map (piece_nets m p) ps) i (omega (arith, length-map ps (piece_nets m p))) in
    let b : get_or (map (piece_nets m p) ps) i 0 ≡ piece_nets m p (get_or m.reads i no_port, get_or p.read_wide_of i 0) =
    get_d_any (map (piece_nets m p) ps) i 0 (piece_nets m p (no_port, 0)) (omega (arith, length-map ps (piece_nets m p))) ∙ get_or-map (piece_nets m p) ps i (no_port, 0)
    ∙ ap (piece_nets m p) (pairs_at m.reads p.read_wide_of i no_port 0 h (omega arith)) in
    omega (arith, a, b, g)

module _ (r : SwizzleRooms) (room : ℕ) (s : LogState) (g : Given) (output : Value) (p : Plan) (e : swizzle_refusal r room s g output p ≡ 0) (w : g.mem.width ≢ 0) (d : g.mem.depth ≢ 0) where
  abbrev m : Mem
  m = g.mem

  abbrev q : Layout
  q = layout_of m p

  pub taken : Accepted r room s g output p
  taken = accepted r room s g output p e w d

  pub number_0 : swizzle_number s.next g output p ≡ 0
  number_0 = taken.number

  pub layout_facts : LayoutPassed q
  layout_facts = layout_passed s.next g output p number_0 w d

  pub write_pairs : EachPair (WritePassed m q) m.writes p.write_wide
  write_pairs = writes_passed s.next g output p number_0

  pub read_pairs : EachPair (ReadPassed m q) m.reads p.read_wide_of
  read_pairs = reads_passed s.next g output p number_0

  -- the nets of the write ports, and after them of the read ports
  pub nets_enough : total_nets m q m.writes p.write_wide + length (addrs_of m q m.reads p.read_wide_of) ≤ r.nets
  nets_enough =
      omega (
        arith,
        taken.nets,
        nets_need m output p layout_facts write_pairs read_pairs (start_net s),
        writes_nets m q layout_facts m.writes p.write_wide write_pairs,
        reads_nets m q layout_facts m.reads p.read_wide_of read_pairs,
      )

  pub trits_enough : length (trits_of m q m.reads p.read_wide_of) ≤ r.trits
  trits_enough =
      omega (arith, taken.trits, trits_need m output p layout_facts write_pairs read_pairs (start_net s), reads_trits m q layout_facts m.reads p.read_wide_of read_pairs)

  pub write_planned : WritePlanned m q p.write_wide r.nets
  write_planned = record {
    layout = write_layout q layout_facts;
    ports = write_ports_lem m q layout_facts m.writes p.write_wide write_pairs;
    enough = omega (arith, nets_enough);
  }

  -- ---- the read ports
  same_width : m.width ≡ q.width
  unfolding layout_of
  same_width = refl

  pub layout_planned : reads.LayoutPlanned m q
  layout_planned = record {
    width_is = same_width;
    layout_good = layout_good s.next g output p number_0;
    width_some = ne_eqb q.width 0 (λ z. w (same_width ∙ z));
    few = layout_facts.chunks_max;
    some = layout_facts.chunks_some;
    columns_some = layout_facts.columns_some;
  }

  read_at : (i : ℕ) → i < length m.reads → ReadPassed m q (get_or m.reads i no_port) (get_or p.read_wide_of i 0)
  unfolding read_at_of
  read_at i h = read_passed s.next g output p number_0 i h

  wides : length p.read_wide_of ≡ length m.reads
  wides = reads_long s.next g output p number_0

  read_port_lem : (i : ℕ) → i < length m.reads → reads.PortPlanned q (read_wide_log2 m (get_or m.reads i no_port)) (get_or p.read_wide_of i 0) (get_or m.reads i no_port) r.scratch
  read_port_lem i h =
      let o = read_at i h in
      record {
        old_max = o.old_max;
        new_max = o.new_max;
        new_hard = o.new_hard;
        enough = o.enough;
        short = o.short;
        data_is = o.size_is;
        holds = omega (arith, pieces_hold m p r.scratch i wides h taken.scratch, piece_nets_lem m p (get_or m.reads i no_port) (get_or p.read_wide_of i 0));
      }

  outputs : length output ≡ sum_by (λ (x : ReadPort). x.data_len) m.reads
  unfolding output_len
  outputs = output_len_lem s.next g output p number_0

  -- the words and nets of both halves
  pub log_fits : Fits room s ((writes_count_of m q m.writes p.write_wide).words + (reads_count_of m q m.reads p.read_wide_of).words) ((writes_count_of m q m.writes p.write_wide).nets + (reads_count_of m q m.reads p.read_wide_of).nets)
  log_fits = room_fits room s _ _ (sym (rows_by_counts s.next g output p number_0 w d room s) ∙ taken.log)

  -- for the state after the write ports, and what they leave of the rooms
  pub read_planned : (st : LogState) (nets trits : ℕ) → st.next ≡ s.next + (writes_count_of m q m.writes p.write_wide).nets → st.used ≡ s.used + (writes_count_of m q m.writes p.write_wide).words
      → r.nets ≤ total_nets m q m.writes p.write_wide + nets → r.trits ≤ trits → ReadPlanned m q m.reads p.read_wide_of output r.scratch st nets trits
  read_planned st nets trits en eu hn ht = record {
    wides = wides;
    each = read_port_lem;
    outputs = outputs;
    nets_room = omega (arith, nets_enough, hn);
    trits-room = omega (arith, trits_enough, ht);
    nets_low = omega (arith, log_fits.high, en);
    words_low = omega (arith, log_fits.short, eu);
  }
