-- Every port of a swizzle that no number 1 to 10 refuses, by its index and in its list.
use mathlib.Core.Path.{◌≡◌, refl, sym, ap, ◌∙◌}
use Prim.Native.Nat.{ℕ, suc, ◌+◌, ◌-◌, ◌*◌, ◌^◌, ◌≤◌, ◌<◌}
use native.Mathlib.Nat.{zero-add, mul_comm}
use native.Mathlib.Omega.{arith}
use mathlib.Core.Bool.{false, not, ◌||◌}
use mathlib.Core.List.{List, [], ◌∷◌}
use lib.ListN.{length, get_or}
use lib.Dec.{eqb, ltb}
use borrow.Author.Tests.{eqb-true, ltb-false, not-false}
use Rattle.lists.specs.Lists.{any, pairs, up_from}
use Rattle.lists.proofs.Choice.{or_false, else_zero, if_zero}
use Rattle.lists.proofs.All.{any_at}
use Rattle.lists.proofs.Pairs.{pairs_size, pairs_at}
use Rattle.lists.proofs.UpFrom.{length_up, up_at}
use Rattle.rules.specs.Limits.{addr_bits, max_ports, max_wide, max_depth, max_width, max_bits, max_row, max_unit, max_hard}
use Rattle.rules.specs.Numbers.{softs}
use Rattle.rules.specs.Value.{Value, Pos}
use Rattle.rules.specs.Cell.{WritePort, ReadPort, Mem, Given, Plan, wide_log2, write_wide_log2, read_wide_log2, read_at_of, output_len, held}
use Rattle.rules.specs.Geometry.{Layout, layout_of}
use Rattle.rules.specs.Conditions.{too_large, plan_too_large, bad_data_len, bad_addr_len, unequal, bad_write_shape, bad_read_shape, bad_flip_flop_shape, bad_shape, bad_output_len, bad_wide, bad_writes, bad_reads, all_reads}
use Rattle.rules.specs.Refusals.{swizzle_number, swizzle_plan_number, driving_number, whole_plan, plan_number, wide_number}
use Rattle.rules.proofs.Accepts.{passed}
use Rattle.swizzle_facts.specs.Passed.{PortPassed, WritePassed, ReadPassed, EachPair}

-- ---- from an index to the list
module _ {A : Type 0} (P : A → ℕ → Type 0) (d : A) where
  pub each_pair : (l : List A) (ns : List ℕ) → length ns ≡ length l → ((i : ℕ) → i < length l → P (get_or l i d) (get_or ns i 0)) → EachPair P l ns
  unfolding EachPair
  each_pair [] [] e f = tt
  each_pair [] (n ∷ ns) e f = omega arith
  each_pair (a ∷ l) [] e f = omega arith
  each_pair (a ∷ l) (n ∷ ns) e f = (f 0 (omega arith), each_pair l ns (omega arith) (λ i h. f (suc i) (omega arith)))

-- data of a good length
data_len_lem : (width size : ℕ) → bad_data_len width size ≡ false → (size ≡ width * 2 ^ wide_log2 width size) × (wide_log2 width size ≤ max_wide)
unfolding bad_data_len
data_len_lem width size e =
    let a = or_false (not (eqb size (width * 2 ^ wide_log2 width size))) _ e in
    (eqb-true _ _ (not-false _ a.0), ltb-false max_wide (wide_log2 width size) a.1)

addr_len : (addr : Value) (k : ℕ) → bad_addr_len addr k ≡ false → k + length addr ≤ addr_bits
unfolding bad_addr_len
addr_len addr k e = omega (arith, ltb-false addr_bits (length addr + k) e)

same_len : (a b : List ℕ) → unequal a b ≡ false → length a ≡ length b
unfolding unequal
same_len a b e = eqb-true _ _ (not-false _ e)

wide_ok : (p : Plan) (old new : ℕ) → bad_wide p old new ≡ false → (new ≤ p.hard) × (old - softs old p.soft_mask ≤ new)
unfolding bad_wide
wide_ok p old new e =
    let a = or_false (ltb p.hard new) _ e in
    (ltb-false p.hard new a.0, ltb-false new (old - softs old p.soft_mask) a.1)

module _ (next : ℕ) (g : Given) (output : Value) (p : Plan) (e : swizzle_number next g output p ≡ 0) where
  abbrev m : Mem
  m = g.mem

  abbrev q : Layout
  q = layout_of m p

  -- ---- sizes
  mem_fits : too_large m ≡ false
  mem_fits = (or_false (too_large m) _ (passed next g output p e).sizes).0

  plan_fits : plan_too_large p ≡ false
  plan_fits = (or_false g.extra_ports _ (or_false (too_large m) _ (passed next g output p e).sizes).1).1

  few : (length m.writes ≤ max_ports) × (length m.reads ≤ max_ports)
  unfolding too_large
  few =
      let d = or_false (ltb max_depth m.depth) _ mem_fits in
      let w = or_false (ltb max_width m.width) _ d.1 in
      let b = or_false (ltb max_bits (m.depth * m.width)) _ w.1 in
      let n = or_false (ltb max_ports (length m.writes)) _ b.1 in
      (ltb-false max_ports (length m.writes) n.0, ltb-false max_ports (length m.reads) n.1)

  pub writes_few : length m.writes ≤ max_ports
  writes_few = few.0

  pub reads_few : length m.reads ≤ max_ports
  reads_few = few.1

  wide_logs : (any (ltb max_wide) p.write_wide ≡ false) × (any (ltb max_wide) p.read_wide_of ≡ false)
  unfolding plan_too_large
  wide_logs =
      let l = or_false (ltb max_row (length p.entries)) _ plan_fits in
      let u = or_false (eqb p.unit 0) _ l.1 in
      let v = or_false (ltb max_unit p.unit) _ u.1 in
      let h = or_false (ltb max_hard p.hard) _ v.1 in
      let x = or_false (any (ltb max_wide) p.write_wide) _ h.1 in
      let y = or_false (any (ltb max_wide) p.read_wide_of) _ x.1 in
      (x.0, y.0)

  -- ---- shapes
  shape_good : (bad_shape m ≡ false) × (bad_output_len m output ≡ false)
  shape_good =
      let a = or_false (bad_shape m) _ (passed next g output p e).shape in
      (a.0, (or_false g.wrong_lens _ a.1).1)

  pub output_len_lem : length output ≡ output_len m
  unfolding bad_output_len
  output_len_lem = eqb-true _ _ (not-false _ shape_good.1)

  ports_shape : (any (bad_write_shape m) m.writes ≡ false) × (any (bad_read_shape m) m.reads ≡ false)
  unfolding bad_shape
  ports_shape = or_false (any (bad_write_shape m) m.writes) _ (or_false (not (eqb (length m.init) (m.depth * m.width))) _ shape_good.0).1

  -- ---- number 9
  wide_good : (bad_writes m p ≡ false) × (bad_reads m (all_reads m) p ≡ false)
  unfolding swizzle_number swizzle_plan_number whole_plan wide_number
  wide_good =
      let n = else_zero (swizzle_plan_number next g output p) _ e in
      let i = else_zero (driving_number (plan_too_large p) next g output) _ n.0 in
      let s = else_zero (plan_number m p) _ i.1 in
      let w = else_zero (wide_number m (all_reads m) p) _ s.1 in
      or_false (bad_writes m p) _ (if_zero (bad_writes m p || bad_reads m (all_reads m) p) 8 0 w.0).0

  writes_wide : (length p.write_wide ≡ length m.writes) × (any (λ (x : WritePort × ℕ). bad_wide p (write_wide_log2 m x.0) x.1) (pairs m.writes p.write_wide) ≡ false)
  unfolding bad_writes
  writes_wide =
      let a = or_false (not (eqb (length p.write_wide) (length m.writes))) _ wide_good.0 in
      (eqb-true _ _ (not-false _ a.0), a.1)

  reads_wide : (length p.read_wide_of ≡ length m.reads) × (any (λ (x : ℕ × ℕ). bad_wide p (read_wide_log2 m (read_at_of m x.0)) x.1) (pairs (up_from 0 (length m.reads)) p.read_wide_of) ≡ false)
  unfolding bad_reads all_reads
  reads_wide =
      let a = or_false (not (eqb (length p.read_wide_of) (length (up_from 0 (length m.reads))))) _ wide_good.1 in
      (eqb-true _ _ (not-false _ a.0) ∙ length_up 0 (length m.reads), a.1)

  pub writes_long : length p.write_wide ≡ length m.writes
  writes_long = writes_wide.0

  pub reads_long : length p.read_wide_of ≡ length m.reads
  reads_long = reads_wide.0

  port_by_lem : (size old new : ℕ) (addr : Value) → old ≡ wide_log2 m.width size → bad_data_len m.width size ≡ false → bad_addr_len addr old ≡ false → bad_wide p old new ≡ false → new ≤ max_wide → PortPassed q old new addr size
  unfolding layout_of
  port_by_lem size old new addr o a b c h =
      let x = data_len_lem m.width size a in
      let y = wide_ok p old new c in
      record {
        old_max = omega (arith, o, x.1);
        new_max = h;
        new_hard = y.0;
        enough = y.1;
        short = addr_len addr old b;
        size_is = x.0 ∙ mul_comm m.width (2 ^ wide_log2 m.width size) ∙ ap (λ (k : ℕ). 2 ^ k * m.width) (sym o);
      }

  -- ---- the write port at i
  module _ (i : ℕ) (d : WritePort) (h : i < length m.writes) where
    abbrev w : WritePort
    w = get_or m.writes i d

    abbrev wn : ℕ
    wn = get_or p.write_wide i 0

    write_shape : (bad_data_len m.width (length w.bits) ≡ false) × (unequal w.mask w.bits ≡ false) × (bad_addr_len w.addr (write_wide_log2 m w) ≡ false)
    unfolding bad_write_shape
    write_shape =
        let a = or_false (bad_data_len m.width (length w.bits)) _ (any_at (bad_write_shape m) m.writes ports_shape.0 i d h) in
        let b = or_false (unequal w.mask w.bits) _ a.1 in
        (a.0, b.0, b.1)

    write_wide_lem : bad_wide p (write_wide_log2 m w) wn ≡ false
    write_wide_lem =
        let f = any_at (λ (x : WritePort × ℕ). bad_wide p (write_wide_log2 m x.0) x.1) (pairs m.writes p.write_wide) writes_wide.1 i (d, 0) (omega (arith, pairs_size m.writes p.write_wide, writes_long)) in
        ap (λ (x : WritePort × ℕ). bad_wide p (write_wide_log2 m x.0) x.1) (sym (pairs_at m.writes p.write_wide i d 0 h (omega (arith, writes_long)))) ∙ f

    write_log_lem : write_wide_log2 m w ≡ wide_log2 m.width (length w.bits)
    unfolding write_wide_log2
    write_log_lem = refl

    pub write_passed : WritePassed m q w wn
    write_passed = (
      port_by_lem (length w.bits) (write_wide_log2 m w) wn w.addr write_log_lem write_shape.0 write_shape.2 write_wide_lem
          (ltb-false max_wide wn (any_at (ltb max_wide) p.write_wide wide_logs.0 i 0 (omega (arith, writes_long)))),
      same_len w.mask w.bits write_shape.1,
    )

  -- ---- the read port at i
  module _ (i : ℕ) (h : i < length m.reads) where
    abbrev r : ReadPort
    r = read_at_of m i

    abbrev rn : ℕ
    rn = get_or p.read_wide_of i 0

    read_good : bad_read_shape m r ≡ false
    unfolding read_at_of
    read_good = any_at (bad_read_shape m) m.reads ports_shape.1 i _ h

    read_shape : (bad_data_len m.width r.data_len ≡ false) × (bad_addr_len r.addr (read_wide_log2 m r) ≡ false) × (any (bad_flip_flop_shape m r.data_len) (held r.flip_flop) ≡ false)
    unfolding bad_read_shape
    read_shape =
        let a = or_false (bad_data_len m.width r.data_len) _ read_good in
        let b = or_false (bad_addr_len r.addr (read_wide_log2 m r)) _ a.1 in
        (a.0, b.0, b.1)

    read_wide : bad_wide p (read_wide_log2 m r) rn ≡ false
    read_wide =
        let us = up_from 0 (length m.reads) in
        let u = length_up 0 (length m.reads) in
        let f = any_at (λ (x : ℕ × ℕ). bad_wide p (read_wide_log2 m (read_at_of m x.0)) x.1) (pairs us p.read_wide_of) reads_wide.1 i (0, 0) (omega (arith, pairs_size us p.read_wide_of, reads_long, u)) in
        let k : get_or us i 0 ≡ i = up_at 0 (length m.reads) i 0 h ∙ zero-add i in
        ap (λ (j : ℕ). bad_wide p (read_wide_log2 m (read_at_of m j)) rn) (sym k)
        ∙ ap (λ (x : ℕ × ℕ). bad_wide p (read_wide_log2 m (read_at_of m x.0)) x.1) (sym (pairs_at us p.read_wide_of i 0 0 (omega (arith, u)) (omega (arith, reads_long)))) ∙ f

    read_log_lem : read_wide_log2 m r ≡ wide_log2 m.width r.data_len
    unfolding read_wide_log2
    read_log_lem = refl

    pub read_passed : ReadPassed m q r rn
    read_passed =
        port_by_lem r.data_len (read_wide_log2 m r) rn r.addr read_log_lem read_shape.0 read_shape.1 read_wide
        (ltb-false max_wide rn (any_at (ltb max_wide) p.read_wide_of wide_logs.1 i 0 (omega (arith, reads_long))))

  -- ---- in their lists
  abbrev no_write_of : WritePort
  no_write_of = record { addr = []; bits = []; mask = []; clock = Pos 0 }

  pub writes_passed : EachPair (WritePassed m q) m.writes p.write_wide
  writes_passed = each_pair (WritePassed m q) no_write_of m.writes p.write_wide writes_long (λ i h. write_passed i no_write_of h)

  pub reads_passed : EachPair (ReadPassed m q) m.reads p.read_wide_of
  unfolding read_at_of
  reads_passed = each_pair (ReadPassed m q) _ m.reads p.read_wide_of reads_long (λ i h. read_passed i h)
