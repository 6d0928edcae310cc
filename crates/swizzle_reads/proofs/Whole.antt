-- Under the plan's facts all read ports are those of the rules: what they log, their addresses and trits in the lent rooms, and their structs.
use mathlib.Core.Path.{◌≡◌, refl, sym, ap, ◌∙◌}
use Prim.Native.Nat.{ℕ, suc, ◌+◌, ◌-◌, ◌*◌, ◌^◌, ◌<◌, ◌≤◌}
use native.Mathlib.Nat.{add-zero, add_assoc, mul-le-mul}
use native.Mathlib.Omega.{arith}
use lib.Pow.{pow_pos}
use mathlib.Core.Bool.{true}
use mathlib.Core.List.{List, [], ◌∷◌, map}
use lib.ListN.{length, take, drop, length-append, length-drop}
use lib.Seq.{sets, length-sets, length-take-le}
use borrow.Author.Tests.{le-leb, lt-ltb}
use Rattle.lists.proofs.Store.{sets_append}
use Rattle.rules.specs.Limits.{X, addr_bits, max_wide}
use Rattle.rules.specs.Value.{Value}
use Rattle.rules.specs.Cell.{ReadPort, Mem, wide_log2, read_wide_log2}
use Rattle.rules.specs.Log.{Trace, ◌>>=◌, done, LogState, state_after}
use Rattle.rules.specs.Geometry.{Layout, all_chunks, columns}
use Rattle.rules.specs.Swizzle.{Split, split_by, split_addr, WideRead, swizzle_read, swizzle_reads}
use Rattle.rules.specs.Beside.Counts.{plus, times_count, void_count, sum_counts, read_count_of}
use Rattle.rules.proofs.Counted.{Counted}
use Rattle.log_entries.specs.Emission.{Lent, run}
use Rattle.log_entries.proofs.Emission.{ran, run_fits, run_then, run_same, run-done}
use Rattle.swizzle_laws.proofs.ReadCounts.{Readable, counted_read, split_enough}
use Rattle.swizzle_laws.proofs.ReadsCounts.{read_split_of, reads_count_of}
use Rattle.swizzle_split.specs.Steps.{Fits, can_split}
use Rattle.swizzle_result.specs.declared.WideReadPort.{WideReadPort}
use Rattle.swizzle_result.specs.declared.WideMemory.{WideMemory}
use Rattle.swizzle_reads.specs.Going.{Going, InPort, wide_of, port_trits, old_of, split_of, trits_if, port_done, pieces_fit, rooms_fit, port_fits, port_if, ports_from}
use Rattle.swizzle_reads.specs.Planned.{addrs_of, trits_of, PortPlanned, LayoutPlanned, ReadPlanned}
use Rattle.swizzle_split.proofs.Lengths.{pieces_few}
use Rattle.swizzle_reads.proofs.Lengths.{trits_length}
use Rattle.swizzle_reads.proofs.Layouts.{rows_are}

-- ---- a split of a planned port
fits_can : (q : Layout) (old new len : ℕ) → Fits q old new len → can_split q old new len ≡ true
unfolding can_split
fits_can q old new len f =
    rw (le-leb old max_wide f.old_max, le-leb new max_wide f.new_max, le-leb new q.hard f.new_hard, le-leb q.hard addr_bits f.hard_max)
    (rw (le-leb _ new f.enough, le-leb (old + len) addr_bits f.short, le-leb _ _ f.few))

positive : (a b : ℕ) → 0 < a → 0 < b → 0 < a * b
positive a b h g = omega (arith, mul-le-mul {n₁ = 1} {m₁ = 1} {n₂ = a} {m₂ = b} h g)

module _ (m : Mem) (q : Layout) (lp : LayoutPlanned m q) (p : ReadPort) (n : ℕ) (room : ℕ) (pp : PortPlanned q (read_wide_log2 m p) n p room) where
  abbrev old : ℕ
  old = read_wide_log2 m p

  abbrev s : Split
  s = read_split_of m q p n

  pub fits : Fits q old n (length p.addr)
  fits = record {
    old_max = pp.old_max;
    new_max = pp.new_max;
    new_hard = pp.new_hard;
    hard_max = omega (arith, (rows_are q lp.layout_good lp.width_some).hard_max);
    enough = pp.enough;
    short = pp.short;
    few = lp.few;
  }

  old_is : s.old ≡ old
  unfolding split_addr split_by
  old_is = refl

  new_is : s.new ≡ n
  unfolding split_addr split_by
  new_is = refl

  pieces_some : 0 < s.pieces
  unfolding split_addr split_by
  pieces_some = positive (all_chunks q) _ lp.some (pow_pos _)

  enough_bits : s.pieces ≤ 2 ^ length s.mux_addr
  unfolding split_addr
  enough_bits = split_enough _ q old n p.addr (omega (arith, pieces_few q old n p.addr fits))

  same_old : old_of q p ≡ old
  unfolding read_wide_log2
  same_old = ap (λ (w : ℕ). wide_log2 w p.data_len) (sym lp.width_is)

  pub same_split : split_of q p n ≡ s
  same_split = ap (λ (k : ℕ). split_addr q k n p.addr) same_old

  readable : (output : Value) → length output ≡ p.data_len → Readable q s p output
  readable output e = record { rows = pp.data_is ∙ ap (λ (k : ℕ). 2 ^ k * q.width) (sym old_is); outputs = e; some = pieces_some; few = enough_bits }

  -- its words and nets
  pub counted : (output : Value) → length output ≡ p.data_len → Counted (swizzle_read q s p output) (read_count_of q s p).words (read_count_of q s p).nets
  counted output e = counted_read q s p output (readable output e)

  nets_most : 2 ^ s.new * columns q ≤ (read_count_of q s p).nets
  unfolding read_count_of plus times_count void_count
  nets_most = omega arith

  -- it is within the limits
  module _ (g : Going) (low : g.lent.state.next + (read_count_of q s p).nets < X) (nets : g.nets_at_of + length s.addr ≤ length g.nets)
      (trits : g.trits_at_of + length (port_trits q s p) ≤ length g.trits) where
    need_is : s.pieces * (2 ^ s.old * q.width) ≡ s.pieces * p.data_len
    need_is = ap (λ (k : ℕ). s.pieces * k) (ap (λ (k : ℕ). 2 ^ k * q.width) old_is ∙ sym pp.data_is)

    size_some : 0 < 2 ^ s.new * columns q
    size_some = positive (2 ^ s.new) (columns q) (pow_pos s.new) lp.columns_some

    pieces_fit_lem : pieces_fit s.pieces (2 ^ s.old * q.width) room g.lent.state.next (2 ^ s.new * columns q) ≡ true
    unfolding pieces_fit
    pieces_fit_lem =
        rw (lt-ltb 0 s.pieces pieces_some, le-leb (s.pieces * (2 ^ s.old * q.width)) room (omega (arith, need_is, pp.holds)), le-leb (g.lent.state.next + 2 ^ s.new * columns q) X (omega (arith, nets_most)))

    rooms_fit_lem : rooms_fit (2 ^ s.new * columns q) (length g.nets) g.nets_at_of (length s.addr) (length g.trits) g.trits_at_of (trits_if p.flip_flop (2 ^ s.new * columns q)) ≡ true
    unfolding rooms_fit
    rooms_fit_lem = rw (lt-ltb 0 (2 ^ s.new * columns q) size_some, le-leb (g.nets_at_of + length s.addr) (length g.nets) nets, le-leb (g.trits_at_of + trits_if p.flip_flop (2 ^ s.new * columns q)) (length g.trits) (omega (arith, trits, trits_length q s p.flip_flop)))

    can : can_split q s.old s.new (length p.addr) ≡ true
    can = (λ i. can_split q (old_is i) (new_is i) (length p.addr)) ∙ fits_can q old n (length p.addr) fits

    port_fits_lem : port_fits q s p room g ≡ true
    unfolding port_fits
    port_fits_lem = rw (can, pieces_fit_lem, rooms_fit_lem)

    by_fits : (i : ℕ) (x : InPort) (out : Value) → port_fits q (split_of q x.port n) x.port room g ≡ true → port_if q room i x n out g ≡ port_done q (split_of q x.port n) i x out g
    unfolding port_if
    by_fits i x out e = rw e

    pub port_is : (i : ℕ) (x : InPort) (out : Value) → x.port ≡ p → port_if q room i x n out g ≡ port_done q s i x out g
    port_is i x out e =
        let t : split_of q x.port n ≡ s = ap (λ (r : ReadPort). split_of q r n) e ∙ same_split in
        by_fits i x out ((λ k. port_fits q (t k) (e k) room g) ∙ port_fits_lem) ∙ ap (λ (u : Split). port_done q u i x out g) t

-- ---- one port after the other
-- the structs of these ports: the nets of each start where those of the one before end
unfoldable pub structs_of : Mem → Layout → List InPort → List ℕ → ℕ → List WideReadPort
structs_of m q [] ns next = []
structs_of m q (x ∷ xs) [] next = []
structs_of m q (x ∷ xs) (n ∷ ns) next =
    wide_of (read_split_of m q x.port n) x.struct next ∷ structs_of m q xs ns (next + (read_count_of q (read_split_of m q x.port n) x.port).nets)

abbrev pub ports_of : List InPort → List ReadPort
ports_of xs = map (λ (x : InPort). x.port) xs

-- a struct with these read ports from i on
abbrev pub with_read_ports : WideMemory → ℕ → List WideReadPort → WideMemory
with_read_ports g i ps = record {
  full = g.full;
  mems = g.mems;
  full_depth = g.full_depth;
  part_depth = g.part_depth;
  unit = g.unit;
  write_count = g.write_count;
  read_count = g.read_count;
  write_ports = g.write_ports;
  read_ports = sets g.read_ports i ps;
}

-- what all ports leave
abbrev pub all_done : Mem → Layout → ℕ → List InPort → List ℕ → Value → Going → Going
all_done m q i xs ns output g = record {
  lent = run (swizzle_reads m q (ports_of xs) ns output) g.lent;
  nets = sets g.nets g.nets_at_of (addrs_of m q (ports_of xs) ns);
  nets_name = g.nets_name;
  trits = sets g.trits g.trits_at_of (trits_of m q (ports_of xs) ns);
  trits_name = g.trits_name;
  nets_at_of = g.nets_at_of + length (addrs_of m q (ports_of xs) ns);
  trits_at_of = g.trits_at_of + length (trits_of m q (ports_of xs) ns);
  memory = with_read_ports g.memory i (structs_of m q xs ns g.lent.state.next);
}

module _ (m : Mem) (q : Layout) (lp : LayoutPlanned m q) (room : ℕ) where
  -- the plan's facts of what is left, for rooms of these places
  abbrev pub Left : List InPort → List ℕ → Value → Going → Type 0
  Left xs ns output g =
      ReadPlanned m q (ports_of xs) ns output room g.lent.state (length g.nets - g.nets_at_of) (length g.trits - g.trits_at_of)
      × (g.nets_at_of ≤ length g.nets) × (g.trits_at_of ≤ length g.trits)

  module _ (x : InPort) (xs : List InPort) (n : ℕ) (ns : List ℕ) (output : Value) (i : ℕ) (g : Going) (h : Left (x ∷ xs) (n ∷ ns) output g) where
    abbrev p : ReadPort
    p = x.port

    abbrev t : Split
    t = read_split_of m q p n

    abbrev out : Value
    out = take p.data_len output

    abbrev rest : Value
    rest = drop p.data_len output

    planned : PortPlanned q (read_wide_log2 m p) n p room
    planned = h.0.each 0 (omega arith)

    out_length : length out ≡ p.data_len
    out_length = length-take-le p.data_len output (omega (arith, h.0.outputs))

    count_nets : (reads_count_of m q (p ∷ ports_of xs) (n ∷ ns)).nets ≡ (read_count_of q t p).nets + (reads_count_of m q (ports_of xs) ns).nets
    unfolding sum_counts plus
    count_nets = refl

    count_words : (reads_count_of m q (p ∷ ports_of xs) (n ∷ ns)).words ≡ (read_count_of q t p).words + (reads_count_of m q (ports_of xs) ns).words
    unfolding sum_counts plus
    count_words = refl

    pub counts : Counted (swizzle_read q t p out) (read_count_of q t p).words (read_count_of q t p).nets
    counts = counted m q lp p n room planned out out_length

    addrs_length : length (addrs_of m q (p ∷ ports_of xs) (n ∷ ns)) ≡ length t.addr + length (addrs_of m q (ports_of xs) ns)
    addrs_length = length-append t.addr (addrs_of m q (ports_of xs) ns)

    kinds_length : length (trits_of m q (p ∷ ports_of xs) (n ∷ ns)) ≡ length (port_trits q t p) + length (trits_of m q (ports_of xs) ns)
    kinds_length = length-append (port_trits q t p) (trits_of m q (ports_of xs) ns)

    abbrev g1 : Going
    g1 = port_done q t i x out g

    step_is : port_if q room i x n out g ≡ g1
    step_is =
        port_is m q lp p n room planned g (omega (arith, h.0.nets_low, count_nets)) (omega (arith, h.0.nets_room, h.1, addrs_length)) (omega (arith, h.0.trits-room, h.2, kinds_length))
        i x out refl

    -- the state after it
    lent_is : run (swizzle_read q t p out) g.lent ≡ ran (swizzle_read q t p out) g.lent
    lent_is =
        run_fits (swizzle_read q t p out) g.lent counts.chain (omega (arith, counts.words g.lent.state.next, h.0.words_low, count_words))
        (omega (arith, counts.nets g.lent.state.next, h.0.nets_low, count_nets))

    next_after : (s : LogState) → (state_after s (swizzle_read q t p out s.next)).next ≡ s.next + (read_count_of q t p).nets
    unfolding state_after
    next_after s = counts.nets s.next

    used_after : (s : LogState) → (state_after s (swizzle_read q t p out s.next)).used ≡ s.used + (read_count_of q t p).words
    unfolding state_after
    used_after s = ap (λ (k : ℕ). s.used + k) (counts.words s.next)

    pub next_is : (run (swizzle_read q t p out) g.lent).state.next ≡ g.lent.state.next + (read_count_of q t p).nets
    next_is = ap (λ (l : Lent). l.state.next) lent_is ∙ next_after g.lent.state

    used_is : (run (swizzle_read q t p out) g.lent).state.used ≡ g.lent.state.used + (read_count_of q t p).words
    used_is = ap (λ (l : Lent). l.state.used) lent_is ∙ used_after g.lent.state

    pub left_after : Left xs ns rest g1
    left_after = (
      record {
        wides = omega (arith, h.0.wides);
        each = λ j l. h.0.each (suc j) (omega arith);
        outputs = omega (arith, length-drop p.data_len output, h.0.outputs);
        nets_room = omega (arith, length-sets g.nets g.nets_at_of t.addr, h.0.nets_room, h.1, addrs_length);
        trits-room = omega (arith, length-sets g.trits g.trits_at_of (port_trits q t p), h.0.trits-room, h.2, kinds_length);
        nets_low = omega (arith, next_is, h.0.nets_low, count_nets);
        words_low = omega (arith, used_is, h.0.words_low, count_words);
      },
      omega (arith, length-sets g.nets g.nets_at_of t.addr, h.0.nets_room, h.1, addrs_length),
      omega (arith, length-sets g.trits g.trits_at_of (port_trits q t p), h.0.trits-room, h.2, kinds_length),
    )

    reads_cons : swizzle_reads m q (p ∷ ports_of xs) (n ∷ ns) output ≡ (swizzle_read q t p out >>= λ r. (swizzle_reads m q (ports_of xs) ns rest >>= λ rs. done (r ∷ rs)))
    unfolding swizzle_reads
    reads_cons = refl

    join_lent : run (swizzle_reads m q (ports_of xs) ns rest) (run (swizzle_read q t p out) g.lent) ≡ run (swizzle_reads m q (p ∷ ports_of xs) (n ∷ ns) output) g.lent
    join_lent =
        let l1 = run (swizzle_read q t p out) g.lent in
        let v = (swizzle_read q t p out g.lent.state.next).value in
        sym (run_same (swizzle_reads m q (ports_of xs) ns rest) (λ rs. v ∷ rs) l1)
        ∙ run_then g.lent l1 (run (swizzle_reads m q (ports_of xs) ns rest >>= λ rs. done (v ∷ rs)) l1) (swizzle_read q t p out) (λ r. (swizzle_reads m q (ports_of xs) ns rest >>= λ rs. done (r ∷ rs))) v
        counts.chain refl (λ o. refl) refl
        ∙ ap (λ (u : Trace (List WideRead)). run u g.lent) (sym reads_cons)

    join_structs : with_read_ports g1.memory (suc i) (structs_of m q xs ns g1.lent.state.next) ≡ with_read_ports g.memory i (structs_of m q (x ∷ xs) (n ∷ ns) g.lent.state.next)
    unfolding structs_of
    join_structs = ap (λ (k : ℕ). with_read_ports g1.memory (suc i) (structs_of m q xs ns k)) next_is

    join : all_done m q (suc i) xs ns rest g1 ≡ all_done m q i (x ∷ xs) (n ∷ ns) output g
    join =
        let a = addrs_of m q (ports_of xs) ns in
        let b = trits_of m q (ports_of xs) ns in
        λ k. record {
          lent = join_lent k;
          nets = sets_append t.addr a g.nets g.nets_at_of k;
          nets_name = g.nets_name;
          trits = sets_append (port_trits q t p) b g.trits g.trits_at_of k;
          trits_name = g.trits_name;
          nets_at_of = (add_assoc g.nets_at_of (length t.addr) (length a) ∙ ap (λ (c : ℕ). g.nets_at_of + c) (sym addrs_length)) k;
          trits_at_of = (add_assoc g.trits_at_of (length (port_trits q t p)) (length b) ∙ ap (λ (c : ℕ). g.trits_at_of + c) (sym kinds_length)) k;
          memory = join_structs k;
        }

    from_cons : ports_from q room i (x ∷ xs) (n ∷ ns) output g ≡ ports_from q room (suc i) xs ns rest (port_if q room i x n out g)
    unfolding ports_from
    from_cons = refl

  from_nil : (ns : List ℕ) (output : Value) (i : ℕ) (g : Going) → ports_from q room i [] ns output g ≡ g
  unfolding ports_from
  from_nil ns output i g = refl

  reads_nil : (ns : List ℕ) (output : Value) → swizzle_reads m q [] ns output ≡ done []
  unfolding swizzle_reads
  reads_nil ns output = refl

  done_nil : (ns : List ℕ) (output : Value) (i : ℕ) (g : Going) → g ≡ all_done m q i [] ns output g
  unfolding structs_of
  done_nil ns output i g = λ k. record {
    lent = (sym (run-done [] g.lent) ∙ ap (λ (u : Trace (List WideRead)). run u g.lent) (sym (reads_nil ns output))) k;
    nets = g.nets;
    nets_name = g.nets_name;
    trits = g.trits;
    trits_name = g.trits_name;
    nets_at_of = sym (add-zero g.nets_at_of) k;
    trits_at_of = sym (add-zero g.trits_at_of) k;
    memory = g.memory;
  }

  pub reads_done : (xs : List InPort) (ns : List ℕ) (output : Value) (i : ℕ) (g : Going) → Left xs ns output g → ports_from q room i xs ns output g ≡ all_done m q i xs ns output g
  reads_done [] ns output i g h = from_nil ns output i g ∙ done_nil ns output i g
  reads_done (x ∷ xs) [] output i g h = absurd (omega (arith, h.0.wides))
  reads_done (x ∷ xs) (n ∷ ns) output i g h =
      from_cons x xs n ns output i g h
      ∙ ap (ports_from q room (suc i) xs ns (drop x.port.data_len output)) (step_is x xs n ns output i g h)
      ∙ reads_done xs ns (drop x.port.data_len output) (suc i) (g1 x xs n ns output i g h) (left_after x xs n ns output i g h)
      ∙ join x xs n ns output i g h
