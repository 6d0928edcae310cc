-- What the code leaves of a read port within the limits is what the rules give.
use mathlib.Core.Path.{◌≡◌, refl, sym, ap, ◌∙◌}
use Prim.Native.Nat.{ℕ, ◌+◌, ◌*◌, ◌^◌, ◌<◌, ◌≤◌}
use native.Mathlib.Omega.{arith}
use mathlib.Core.Bool.{true}
use mathlib.Core.List.{List}
use lib.ListN.{length, drop}
use lib.Seq.{sets}
use borrow.Author.Tests.{le-leb, lt-ltb}
use Rattle.rules.specs.Limits.{X, addr_bits}
use Rattle.rules.specs.Value.{Value}
use Rattle.rules.specs.Geometry.{Layout, all_mems, columns}
use Rattle.rules.specs.Swizzle as swizzle
use Rattle.rules.specs.Swizzle.{split_addr, split_by, clocked_addr, wide_flip_flop, swizzle_read}
use Rattle.log_entries.specs.Emission.{Lent, run}
use Rattle.std.specs.Prelude as flips
use Rattle.net_memory.specs.FlipFlop.{MemoryReadFlipFlop}
use Rattle.net_memory.specs.declared.MemoryReadPort.{MemoryReadPort}
use Rattle.net_memory.specs.View.{read_by, clocked_by, flip_flop_by}
use Rattle.image_geometry.specs.declared.Params.{Params}
use Rattle.image_geometry.specs.View.{layout_by}
use Rattle.swizzle_laws.proofs.Places.{Splittable}
use Rattle.swizzle_pieces.specs.declared.Pieces.{Pieces}
use Rattle.swizzle_split.specs.declared.Split.{Split}
use Rattle.swizzle_columns.proofs.Fits.{bounded}
use Rattle.swizzle_laws.specs.Rooms.{mux_room}
use Rattle.swizzle_read.specs.Port.{addr_by, scratch_of, can_read, with_first}
use Rattle.swizzle_read.proofs.Meant.{Meant, addr_none, addr_some, read_rules, scratch_kept}
use Rattle.swizzle_read.proofs.Ported.{Ports, port_meant}
use Rattle.swizzle_result.specs.Held.{clock_trits}
use Rattle.swizzle_columns.specs.Wide.{PortFits}
use Rattle.swizzle_columns.proofs.Meaning.{Means}
use Rattle.swizzle_read_trits.proofs.Rules.{three_rules, three_length}
use Rattle.swizzle_reads.specs.declared.Sizes.{Sizes}
use Rattle.swizzle_reads.specs.Going.{Going, with_read_port, wide_of, in_port, port_done}
use Rattle.swizzle_reads.specs.Able.{Measures, Same}
use Rattle.swizzle_reads.specs.Raw.{numbers_of, wide_by_of, size_by, piece_by, read_by', trits_by, need_by, port_by, port_raw}
use Rattle.swizzle_split.proofs.Lengths.{mux_low, pieces_few, old_few, new_few}

can_all : (n : Pieces) (mux : Value) (w : ℕ) (scratch : List ℕ) → length mux ≤ addr_bits → 0 < n.count → n.count * w ≤ length scratch → can_read n mux w scratch ≡ true
unfolding can_read
can_all n mux w scratch h g k = rw (le-leb (length mux) mux_room (omega arith), lt-ltb 0 n.count g, le-leb (n.count * w) (length scratch) k)

-- the mux address passes a flip-flop where the port of the rules has one
addr_clocked : (f : MemoryReadFlipFlop) (r : MemoryReadPort) (y : List ℕ) (a : Value) → addr_by f a ≡ clocked_addr (flip_flop_by f r y) a
addr_clocked flips.None r y a = addr_none a
addr_clocked (flips.Some c) r y a = addr_some c (clocked_by c r y) a refl

module _ (p : Params) (z : Sizes) (es : List ℕ) (old new : ℕ) (addr hw mux : Value) (s : Split)
    (me : Measures (layout_by p es) z) (sa : Same (layout_by p es) old new addr hw mux s) where
  abbrev q : Layout
  q = layout_by p es

  abbrev t : swizzle.Split
  t = split_addr q old new addr

  new_is : t.new ≡ new
  unfolding split_addr split_by
  new_is = refl

  old_is : t.old ≡ old
  unfolding split_addr split_by
  old_is = refl

  pub splittable : Splittable q old new addr
  splittable = record { enough = sa.fits.enough; short = sa.fits.short; unit = me.rows.unit_some }

  pub size_is : size_by z s ≡ 2 ^ t.new * columns q
  size_is = λ i. 2 ^ (sa.new_is ∙ sym new_is) i * me.columns_are i

  pub piece_is : piece_by p s ≡ 2 ^ t.old * q.width
  piece_is = λ i. 2 ^ (sa.old_is ∙ sym old_is) i * q.width

  few : 2 ^ old * t.pieces ≤ 4294967296
  few = omega (arith, bounded (2 ^ old) t.pieces 16 524288 (old_few q old new addr sa.fits) (pieces_few q old new addr sa.fits))

  narrow : 2 ^ old * q.width ≤ 2048
  narrow = omega (arith, bounded (2 ^ old) q.width 16 128 (old_few q old new addr sa.fits) me.rows.width_max)

  w_is : piece_by p s ≡ 2 ^ old * q.width
  w_is = λ i. 2 ^ sa.old_is i * q.width

  short : s.pieces * piece_by p s ≤ 4294967296
  short =
      omega (arith, bounded s.pieces (piece_by p s) 524288 2048 (omega (arith, sa.pieces_are, pieces_few q old new addr sa.fits)) (omega (arith, w_is, narrow)))

  -- ---- the log
  module _ (r : MemoryReadPort) (x y : List ℕ) (out : Value) (scratch : List ℕ) (l : Lent)
      (pos : 0 < s.pieces) (holds : s.pieces * piece_by p s ≤ length scratch) (below : l.state.next + size_by z s ≤ X) where
    abbrev n : Pieces
    n = with_first (numbers_of p z s) l.state.next

    ports : Ports q old new addr splittable n
    ports = record {
      width = refl;
      columns_are = me.columns_are;
      mask = sa.mask_is;
      rows = ap (λ (k : ℕ). 2 ^ k) sa.old_is;
      count = sa.pieces_are;
      few = few;
      fewer = omega (arith, pieces_few q old new addr sa.fits);
      below = omega (arith, below, size_is, ap (λ (k : ℕ). 2 ^ k * columns q) new_is);
      names = me.rows.names;
      narrow = omega (arith, narrow);
    }

    meant : Meant q t (read_by r x y) n (2 ^ s.new) r.flip_flop (piece_by p s) scratch l.state.next
    meant =
        port_meant q old new addr splittable (read_by r x y) n (2 ^ s.new) r.flip_flop (piece_by p s) scratch l.state.next
        ports (ap (λ (k : ℕ). 2 ^ k) sa.new_is) refl w_is holds short (omega (arith, me.rows.row_max)) (addr_clocked r.flip_flop r y t.mux_addr)

    can : can_read (numbers_of p z s) t.mux_addr (piece_by p s) scratch ≡ true
    can = can_all (numbers_of p z s) t.mux_addr (piece_by p s) scratch (mux_low q old new addr sa.fits) pos holds

    pub raw_log : read_by' p z s r.flip_flop mux es out scratch l ≡ run (swizzle_read q t (read_by r x y) out) l
    raw_log =
        ap (λ (v : Value). read_by' p z s r.flip_flop v es out scratch l) sa.mux_is
        ∙ read_rules q t (read_by r x y) (numbers_of p z s) (2 ^ s.new) r.flip_flop out (piece_by p s) scratch l can meant

    pub raw_kept : drop (s.pieces * piece_by p s) (scratch_of (numbers_of p z s) mux es (piece_by p s) scratch l.state.next) ≡ drop (s.pieces * piece_by p s) scratch
    raw_kept =
        ap (λ (v : Value). drop (s.pieces * piece_by p s) (scratch_of (numbers_of p z s) v es (piece_by p s) scratch l.state.next)) sa.mux_is
        ∙ scratch_kept q t (read_by r x y) (numbers_of p z s) (2 ^ s.new) r.flip_flop out (piece_by p s) scratch l can meant

  -- ---- the trits
  wide_means : Means q old new addr splittable (wide_by_of p z s)
  wide_means = record {
    mems_are = me.mems_are;
    unit_is = refl;
    rows_are = ap (λ (k : ℕ). 2 ^ k) sa.new_is;
    olds_are = ap (λ (k : ℕ). 2 ^ k) sa.old_is;
    width_is = refl;
    chunks_are = sa.mask_is;
    pieces_are = sa.pieces_are;
    few = few;
    fewer = omega (arith, pieces_few q old new addr sa.fits);
  }

  columns_unfold : columns q ≡ all_mems q * q.unit
  unfolding columns
  columns_unfold = refl

  module _ (some : 0 < size_by z s) where
    wide_fits : PortFits (wide_by_of p z s) (length es) (size_by z s)
    wide_fits = record {
      rows_max = omega (arith, ap (λ (k : ℕ). 2 ^ k) sa.new_is, new_few q old new addr sa.fits);
      columns_max = omega (arith, ap (λ (k : ℕ). k * q.unit) me.mems_are, columns_unfold, me.rows.columns_max);
      some = some;
      size_is = (λ i. 2 ^ s.new * (me.columns_are ∙ columns_unfold ∙ ap (λ (k : ℕ). k * q.unit) (sym me.mems_are)) i);
      len_max = me.rows.row_max;
      olds_max = omega (arith, ap (λ (k : ℕ). 2 ^ k) sa.old_is, old_few q old new addr sa.fits);
      width_max = me.rows.width_max;
      pieces_max = omega (arith, sa.pieces_are, pieces_few q old new addr sa.fits);
    }

    trits_unfold : (f : MemoryReadFlipFlop) (r : MemoryReadPort) (y : List ℕ) (at : ℕ) (room : List ℕ) → at + need_by f (size_by z s) ≤ length room
        → trits_by f p z s r y es at room ≡ sets room at (clock_trits q t (wide_flip_flop q t (flip_flop_by f r y)))
    unfolding wide_flip_flop
    trits_unfold flips.None r y at room h = refl
    trits_unfold (flips.Some f) r y at room h =
        three_rules q old new addr splittable (wide_by_of p z s) wide_means (size_by z s) wide_fits _ _ _ room at h

    need_is : (f : MemoryReadFlipFlop) (r : MemoryReadPort) (y : List ℕ) → need_by f (size_by z s) ≡ length (clock_trits q t (wide_flip_flop q t (flip_flop_by f r y)))
    unfolding wide_flip_flop
    need_is flips.None r y = refl
    need_is (flips.Some f) r y = sym (three_length q old new addr splittable (wide_by_of p z s) wide_means (size_by z s) wide_fits _ _ _)

    -- ---- the whole port
    module _ (r : MemoryReadPort) (x y : List ℕ) (out : Value) (scratch : List ℕ) (i : ℕ) (g : Going)
        (pos : 0 < s.pieces) (holds : s.pieces * piece_by p s ≤ length scratch) (below : g.lent.state.next + size_by z s ≤ X)
        (kinds : g.trits_at_of + need_by r.flip_flop (size_by z s) ≤ length g.trits) where
      port_is : port_by s r g.lent.state.next ≡ wide_of t r g.lent.state.next
      port_is = λ k. record {
        addr_len = sa.hw_len k;
        wide = (sa.new_is ∙ sym new_is) k;
        first = g.lent.state.next;
        relations_len = r.relations_len;
        relations = r.relations;
        flip_flop = r.flip_flop;
      }

      pub raw_done : port_raw p z s i r y hw mux es out scratch g ≡ port_done q t i (in_port r x y) out g
      unfolding port_raw
      raw_done = λ k. record {
        lent = raw_log r x y out scratch g.lent pos holds below k;
        nets = sets g.nets g.nets_at_of (sa.hw_is k);
        nets_name = g.nets_name;
        trits = trits_unfold r.flip_flop r y g.trits_at_of g.trits kinds k;
        trits_name = g.trits_name;
        nets_at_of = g.nets_at_of + length (sa.hw_is k);
        trits_at_of = g.trits_at_of + need_is r.flip_flop r y k;
        memory = with_read_port g.memory i (port_is k);
      }
