-- The code's test of a port is that of the definitions, and what follows from it.
use mathlib.Core.Path.{◌≡◌, refl, sym, ap, ◌∙◌, subst}
use Prim.Native.Nat.{ℕ, ◌+◌, ◌*◌, ◌^◌, ◌<◌, ◌≤◌}
use native.Mathlib.Omega.{arith}
use mathlib.Core.Bool.{Bool, true, false, ◌&&◌}
use mathlib.Core.List.{List}
use lib.ListN.{length, take, drop, replicate, length-replicate}
use lib.Dec.{leb, ltb}
use borrow.Author.Tests.{ltb-true, leb-true}
use Rattle.lists.specs.Lists.{part}
use Rattle.lists.proofs.Choice.{and_true}
use Rattle.lists.proofs.Stores.{take_stored}
use Rattle.lists.proofs.Parts.{same_back}
use Rattle.rules.specs.Limits.{X, addr_bits, max_wide}
use Rattle.rules.specs.Value.{Value}
use Rattle.rules.specs.Cell.{wide_log2}
use Rattle.rules.specs.Geometry.{Layout, columns}
use Rattle.rules.specs.Swizzle as swizzle
use Rattle.rules.specs.Swizzle.{split_addr, split_by}
use Rattle.std.specs.Prelude as flips
use Rattle.net_memory.specs.FlipFlop.{MemoryReadFlipFlop}
use Rattle.net_memory.specs.declared.MemoryReadPort.{MemoryReadPort}
use Rattle.net_memory.specs.View.{read_by, flip_flop_by}
use Rattle.image_geometry.specs.declared.Params.{Params}
use Rattle.image_geometry.specs.View.{layout_by}
use Rattle.swizzle_split.specs.declared.Split.{Split}
use Rattle.swizzle_split.specs.Steps.{can_split, Gives, Answers}
use Rattle.swizzle_split.proofs.Limits.{can_fits}
use Rattle.swizzle_read.specs.Port.{scratch_of}
use Rattle.swizzle_reads.specs.declared.Sizes.{Sizes}
use Rattle.swizzle_reads.specs.Going.{Going, in_port, split_of, trits_if, port_done, pieces_fit, rooms_fit, port_fits, port_if, ScratchKept}
use Rattle.swizzle_reads.specs.Able.{Measures, Same}
use Rattle.swizzle_reads.specs.Raw.{numbers_of, size_by, piece_by, need_by, port_raw, raw_fits}
use Rattle.swizzle_split.proofs.Lengths.{addr_low, mux_low}
use Rattle.swizzle_reads.proofs.Ported.{size_is, piece_is, raw_done, raw_kept}

-- what the test says
pub record Passes (pieces w room next size nets nets_at_of addr trits trits_at_of kinds : ℕ) : Type 0 where
  pub pos : 0 < pieces
  pub holds : pieces * w ≤ room
  pub below : next + size ≤ X
  pub some : 0 < size
  pub nets_hold : nets_at_of + addr ≤ nets
  pub trits_hold : trits_at_of + kinds ≤ trits

passes : (pieces w room next size nets nets_at_of addr trits trits_at_of kinds : ℕ) → (pieces_fit pieces w room next size && rooms_fit size nets nets_at_of addr trits trits_at_of kinds) ≡ true
    → Passes pieces w room next size nets nets_at_of addr trits trits_at_of kinds
unfolding pieces_fit rooms_fit
passes pieces w room next size nets nets_at_of addr trits trits_at_of kinds e =
    let a = and_true (ltb 0 pieces && (leb (pieces * w) room && leb (next + size) X)) _ e in
    let b = and_true (ltb 0 pieces) _ a.0 in
    let c = and_true (leb (pieces * w) room) _ b.1 in
    let d = and_true (ltb 0 size) _ a.1 in
    let f = and_true (leb (nets_at_of + addr) nets) _ d.1 in
    record {
      pos = ltb-true _ _ b.0;
      holds = leb-true _ _ c.0;
      below = leb-true _ _ c.1;
      some = ltb-true _ _ d.0;
      nets_hold = leb-true _ _ f.0;
      trits_hold = leb-true _ _ f.1;
    }

need_same : (f : MemoryReadFlipFlop) (r : MemoryReadPort) (y : List ℕ) (n : ℕ) → need_by f n ≡ trits_if (flip_flop_by f r y) n
need_same flips.None r y n = refl
need_same (flips.Some f) r y n = refl

if_not : (q : Layout) (room i new : ℕ) (r : MemoryReadPort) (x y : List ℕ) (out : Value) (g : Going) → port_fits q (split_of q (read_by r x y) new) (read_by r x y) room g ≡ false
    → g ≡ port_if q room i (in_port r x y) new out g
unfolding port_if
if_not q room i new r x y out g e = rw e

if_done : (q : Layout) (room i new : ℕ) (r : MemoryReadPort) (x y : List ℕ) (out : Value) (g : Going) → port_fits q (split_of q (read_by r x y) new) (read_by r x y) room g ≡ true
    → port_done q (split_of q (read_by r x y) new) i (in_port r x y) out g ≡ port_if q room i (in_port r x y) new out g
unfolding port_if
if_done q room i new r x y out g e = rw e

module _ (p : Params) (es : List ℕ) (new : ℕ) (r : MemoryReadPort) (x y : List ℕ) (room i : ℕ) (out : Value) (g : Going) where
  abbrev q : Layout
  q = layout_by p es

  abbrev addr : Value
  addr = part 0 r.addr_len x

  abbrev old : ℕ
  old = wide_log2 p.width r.data_len

  abbrev t : swizzle.Split
  t = split_addr q old new addr

  old_is : t.old ≡ old
  unfolding split_addr split_by
  old_is = refl

  new_is : t.new ≡ new
  unfolding split_addr split_by
  new_is = refl

  can_is : can_split q t.old t.new (length addr) ≡ can_split q old new (length addr)
  can_is = λ k. can_split q (old_is k) (new_is k) (length addr)

  no_fits : can_split q t.old t.new (length addr) ≡ false → port_fits q t (read_by r x y) room g ≡ false
  unfolding port_fits
  no_fits e = rw e

  -- a split that is refused
  pub port_refused : can_split q old new (length addr) ≡ false → g ≡ port_if q room i (in_port r x y) new out g
  port_refused e = if_not q room i new r x y out g (no_fits (can_is ∙ e))

  module _ (z : Sizes) (hw mux : Value) (s : Split) (me : Measures q z) (sa : Same q old new addr hw mux s) (can : can_split q old new (length addr) ≡ true) where
    abbrev test : Bool
    test = raw_fits p z s r.flip_flop room g.lent.state.next (length g.nets) g.nets_at_of (length g.trits) g.trits_at_of

    by_can : (b : Bool)
        → (pieces_fit t.pieces (2 ^ t.old * q.width) room g.lent.state.next (2 ^ t.new * columns q)
        && rooms_fit (2 ^ t.new * columns q) (length g.nets) g.nets_at_of (length t.addr) (length g.trits) g.trits_at_of (trits_if (read_by r x y).flip_flop (2 ^ t.new * columns q))) ≡ b
        → port_fits q t (read_by r x y) room g ≡ b
    unfolding port_fits
    by_can b e = rw (can_is ∙ can) e

    test_is : test
        ≡ (pieces_fit t.pieces (2 ^ t.old * q.width) room g.lent.state.next (2 ^ t.new * columns q)
        && rooms_fit (2 ^ t.new * columns q) (length g.nets) g.nets_at_of (length t.addr) (length g.trits) g.trits_at_of (trits_if (read_by r x y).flip_flop (2 ^ t.new * columns q)))
    unfolding raw_fits
    test_is =
        let size = size_is p z es old new addr hw mux s me sa in
        let need : need_by r.flip_flop (size_by z s) ≡ trits_if (flip_flop_by r.flip_flop r y) (2 ^ t.new * columns q) =
        need_same r.flip_flop r y (size_by z s) ∙ ap (trits_if (flip_flop_by r.flip_flop r y)) size in
        λ k. (pieces_fit (sa.pieces_are k) (piece_is p z es old new addr hw mux s me sa k) room g.lent.state.next (size k)
        && rooms_fit (size k) (length g.nets) g.nets_at_of (sa.hw_len k) (length g.trits) g.trits_at_of (need k))

    fits_is : (b : Bool) → test ≡ b → port_fits q t (read_by r x y) room g ≡ b
    fits_is b e = by_can b (sym test_is ∙ e)

    pub port_not : test ≡ false → g ≡ port_if q room i (in_port r x y) new out g
    port_not e = if_not q room i new r x y out g (fits_is false e)

    module _ (e : test ≡ true) where
      facts : Passes s.pieces (piece_by p s) room g.lent.state.next (size_by z s) (length g.nets) g.nets_at_of s.hw_len (length g.trits) g.trits_at_of (need_by r.flip_flop (size_by z s))
      unfolding raw_fits
      facts = passes _ _ _ _ _ _ _ _ _ _ _ e

      pub nets_hold : g.nets_at_of + length hw ≤ length g.nets
      nets_hold = omega (arith, facts.nets_hold, sa.hw_len, ap length sa.hw_is)

      pub trits_hold : g.trits_at_of + need_by r.flip_flop (size_by z s) ≤ length g.trits
      trits_hold = facts.trits_hold

      module _ (scratch : List ℕ) (sized : length scratch ≡ room) where
        holds-all : s.pieces * piece_by p s ≤ length scratch
        holds-all = omega (arith, facts.holds, sized)

        pub port_done_lem : (g' : Going) → g' ≡ port_raw p z s i r y hw mux es out scratch g → g' ≡ port_if q room i (in_port r x y) new out g
        port_done_lem g' f =
            f ∙ raw_done p z es old new addr hw mux s me sa facts.some r x y out scratch i g facts.pos holds-all facts.below facts.trits_hold
            ∙ if_done q room i new r x y out g (fits_is true e)

        pub port_kept : (after : List ℕ)
            → drop (s.pieces * piece_by p s) after ≡ drop (s.pieces * piece_by p s) (scratch_of (numbers_of p z s) mux es (piece_by p s) scratch g.lent.state.next)
            → ScratchKept q (in_port r x y) new scratch after
        port_kept after f k h =
            let need : s.pieces * piece_by p s ≡ t.pieces * (2 ^ old * q.width) = (λ j. sa.pieces_are j * (2 ^ sa.old_is j * q.width)) in
            same_back (s.pieces * piece_by p s) k scratch after (omega (arith, need))
            (f ∙ raw_kept p z es old new addr hw mux s me sa r x y out scratch g.lent facts.pos holds-all facts.below)

-- ---- what `split_addr` answers for a port, by its own address and lengths, from rooms of zeros
abbrev zeros : List ℕ
zeros = replicate addr_bits 0

-- where it splits: the limits, and the two parts of the address
pub record Cuts (p : Params) (es : List ℕ) (new : ℕ) (r : MemoryReadPort) (x : List ℕ) (hw mux : Value) (s : Split) : Type 0 where
  pub can : can_split (layout_by p es) (wide_log2 p.width r.data_len) new (length (part 0 r.addr_len x)) ≡ true
  pub old_low : s.old ≤ max_wide
  pub new_low : s.new ≤ max_wide
  pub same : Same (layout_by p es) (wide_log2 p.width r.data_len) new (part 0 r.addr_len x) hw mux s

module _ (p : Params) (es : List ℕ) (new : ℕ) (r : MemoryReadPort) (x : List ℕ) (o : flips.Option Split) (old : ℕ) (addr hw mux : Value) (ea : addr ≡ part 0 r.addr_len x)
    (eo : old ≡ wide_log2 p.width r.data_len) (a : Answers (layout_by p es) old new addr zeros hw zeros mux o) where
  own : (o' : flips.Option Split) → o ≡ o' → Answers (layout_by p es) (wide_log2 p.width r.data_len) new (part 0 r.addr_len x) zeros hw zeros mux o'
  own o' e = subst (λ (t : Type 0). t) (λ i. Answers (layout_by p es) (eo i) new (ea i) zeros hw zeros mux (e i)) a

  pub refused_port : o ≡ flips.None → can_split (layout_by p es) (wide_log2 p.width r.data_len) new (length (part 0 r.addr_len x)) ≡ false
  refused_port e = (own flips.None e).cannot

  pub cut_port : (s : Split) → o ≡ flips.Some s → (h m : Value) → h ≡ take s.hw_len hw → m ≡ take s.mux_len mux → Cuts p es new r x h m s
  cut_port s e h m eh em =
      let g : Gives (layout_by p es) (wide_log2 p.width r.data_len) new (part 0 r.addr_len x) zeros hw zeros mux s = own (flips.Some s) e in
      let f = can_fits (layout_by p es) (wide_log2 p.width r.data_len) new (length (part 0 r.addr_len x)) g.can in
      let v = g.splits in
      let n : length zeros ≡ addr_bits = length-replicate {A = ℕ} addr_bits 0 in
      record {
        can = g.can;
        old_low = omega (arith, v.old_is, f.old_max);
        new_low = omega (arith, v.new_is, f.new_max);
        same = record {
          fits = f;
          old_is = v.old_is;
          new_is = v.new_is;
          hw_is = eh ∙ take_stored zeros hw _ s.hw_len v.hw_is v.hw_len (omega (arith, v.hw_len, n, addr_low (layout_by p es) _ new _ f));
          hw_len = v.hw_len;
          mux_is = em ∙ take_stored zeros mux _ s.mux_len v.mux_is v.mux_len (omega (arith, v.mux_len, n, mux_low (layout_by p es) _ new _ f));
          pieces_are = v.pieces_are;
          mask_is = v.mask_is;
        };
      }
