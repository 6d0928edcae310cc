-- What is known of a pair that numbers 1 to 4, 14 and 15 pass, and its trace as the code has it.
use mathlib.Core.Path.{◌≡◌, refl, sym, ap, ◌∙◌, subst}
use Prim.Native.Nat.{ℕ, ◌*◌, ◌<◌, ◌≤◌, min}
use native.Mathlib.Omega.{arith}
use mathlib.Core.Bool.{Bool, true, false, not, ◌&&◌, ◌||◌}
use mathlib.Core.List.{List}
use lib.ListN.{length, take}
use lib.Seq.{sets}
use lib.Dec.{eqb, ltb}
use borrow.Author.Tests.{leb-false, ltb-false, eqb-true, not-false}
use Rattle.lists.specs.Choice.{when◌then◌else◌}
use Rattle.lists.specs.Lists.{any}
use Rattle.lists.proofs.Choice.{or_false, refused_not, else_zero}
use Rattle.lists.proofs.All.{any_at}
use Rattle.lists.proofs.Stores.{take_stored}
use Rattle.rules.specs.Limits.{max_ports, X}
use Rattle.rules.specs.Value.{Value}
use Rattle.rules.specs.Cell.{Mem, read_wide_log2, write_at, read_at_of, held, or_empty}
use Rattle.rules.specs.Log.{LogState, start_net}
use Rattle.rules.specs.Conditions.{bad_write_shape, bad_read_shape, bad_shape, bad_port, not_below, short_pair, no_room_of, long_value, bad_value}
use Rattle.rules.specs.Ports.{Overlay, transparency_mux}
use Rattle.rules.specs.Refusals.{mem_number, overlay_values, bad_overlay_lens, no_pair, pair_ports_number, transparency_mux_number, overlay_refusal}
use Rattle.rules.proofs.Counted.{start_le}
use Rattle.log_entries.specs.Emission.{Lent}
use Rattle.net_memory.specs.declared.Memory.{Memory}
use Rattle.net_memory.specs.View.{memory_of, reads_of, read_port}
use Rattle.net_memory.specs.Given.{given_of}
use Rattle.net_check.proofs.Accept.{Valid, valid, sizes}
use Rattle.port_transparency.specs.Gave.{Gave}
use Rattle.port_transparency.specs.Pairs.{reading, plain, with_mask}
use Rattle.port_overlay.specs.Laid.{laid_by}
use Rattle.port_overlay.proofs.Laid.{width_is}
use Rattle.port_overlay.proofs.Fits.{Reads, Writes, writes_shaped, reads_shaped, size_few, laid_is}
use Rattle.port_overlay.proofs.Bounds.{Small, FewMask, most_mux}
use Rattle.port_mux.specs.Call.{overlay_of, Paired}
use Rattle.port_mux.proofs.Numbers.{data_at}

-- ---- what the numbers tell
and_false : (a b : Bool) → (not a && b) ≡ false → a ≡ false → b ≡ false
and_false a b e h = sym (ap (λ (t : Bool). not t && b) h) ∙ e

module _ (f : Value → Bool) (b k : Value) (masked : Bool) (e : any f (overlay_values (overlay_of masked b k)) ≡ false) where
  both : (f b ≡ false) × (any f (held (overlay_of masked b k).mask) ≡ false)
  unfolding overlay_values
  both = or_false (f b) _ e

  of_bits : f b ≡ false
  of_bits = both.0

  of_mask : masked ≡ true → f k ≡ false
  unfolding held
  of_mask q = (or_false (f k) false (ap (λ (t : Bool). any f (held (overlay_of t b k).mask)) (sym q) ∙ both.1)).0

module _ (next : ℕ) (m : Memory) (nets trits : List ℕ) (i j : ℕ) (masked : Bool) (bits mask : List ℕ)
    (z : transparency_mux_number next (given_of m nets trits) i j (overlay_of masked bits mask) ≡ 0)
    (rl : length (reads_of m nets trits) ≡ min max_ports m.read_count) where
  abbrev M : Mem
  M = memory_of m nets trits

  abbrev o : Overlay
  o = overlay_of masked bits mask

  numbers : (mem_number (any long_value (overlay_values o)) (bad_overlay_lens M i o) (any (bad_value next) (overlay_values o)) next (given_of m nets trits) ≡ 0) × (pair_ports_number M i j ≡ 0)
  unfolding transparency_mux_number
  numbers = else_zero _ _ z

  good : Valid (any long_value (overlay_values o)) (bad_overlay_lens M i o) (any (bad_value next) (overlay_values o)) next m nets trits
  good = valid _ _ _ next m nets trits numbers.0

  abbrev last : ℕ
  last = when no_pair M i j then 15 else 0

  pair_not : ((not (no_pair M i j) && short_pair M (read_at_of M i) j) ≡ false) × (last ≡ 0)
  unfolding pair_ports_number
  pair_not = refused_not (not (no_pair M i j) && short_pair M (read_at_of M i) j) 14 last (omega arith) numbers.1

  paired : no_pair M i j ≡ false
  paired = (refused_not (no_pair M i j) 15 0 (omega arith) pair_not.1).0

  ports : (bad_port M i ≡ false) × (not_below (length M.writes) j ≡ false)
  unfolding no_pair
  ports = or_false (bad_port M i) _ paired

  reads_are : length M.reads ≡ min max_ports m.read_count
  unfolding memory_of
  reads_are = rl

  read_below : i < length M.reads
  unfolding bad_port not_below
  read_below = leb-false (length M.reads) i ports.0

  write_below : j < length M.writes
  unfolding not_below
  write_below = leb-false (length M.writes) j ports.1

  pub is_there_lem : i < min max_ports m.read_count
  is_there_lem = omega (arith, read_below, reads_are)

  shapes : (any (bad_write_shape M) M.writes ≡ false) × (any (bad_read_shape M) M.reads ≡ false)
  unfolding bad_shape
  shapes = or_false (any (bad_write_shape M) M.writes) (any (bad_read_shape M) M.reads) (or_false (not (eqb (length M.init) (M.depth * M.width))) _ good.shape_not).1

  read_shape : bad_read_shape M (read_at_of M i) ≡ false
  unfolding read_at_of
  read_shape = any_at (bad_read_shape M) M.reads shapes.1 i _ read_below

  alike : any (λ v. not (eqb (length v) (read_at_of M i).data_len)) (overlay_values o) ≡ false
  unfolding bad_overlay_lens
  alike = and_false (bad_port M i) _ good.two_not ports.0

  len_of : (v : Value) → not (eqb (length v) (read_at_of M i).data_len) ≡ false → length v ≡ (read_port m i).data_len
  len_of v e = eqb-true _ _ (not-false _ e) ∙ data_at m nets trits i is_there_lem

  pub passed : Paired m nets trits i j masked bits mask
  passed = record {
    there = is_there_lem;
    written = write_below;
    thin = (sizes good).width_ok;
    writes_good = shapes.0;
    read_good = read_shape;
    enough = and_false (no_pair M i j) _ pair_not.0 paired;
    bits_like = len_of bits (of_bits (λ v. not (eqb (length v) (read_at_of M i).data_len)) bits mask masked alike);
    mask_like = λ q. len_of mask (of_mask (λ v. not (eqb (length v) (read_at_of M i).data_len)) bits mask masked alike q);
  }

-- ---- the rooms
module _ (bits mask n : ℕ) (masked : Bool) (b k : Value) (z : overlay_refusal (record { bits = bits; mask = mask }) n (overlay_of masked b k) ≡ 0) where
  fits : (ltb bits n ≡ false) × (any (λ x. ltb mask n) (held (overlay_of masked b k).mask) ≡ false)
  unfolding overlay_refusal no_room_of
  fits = or_false (ltb bits n) (any (λ x. ltb mask n) (held (overlay_of masked b k).mask)) (refused_not (ltb bits n || any (λ x. ltb mask n) (held (overlay_of masked b k).mask)) 20 0 (omega arith) z).0

  pub bits_fit : n ≤ bits
  bits_fit = ltb-false bits n fits.0

  pub mask_fit : masked ≡ true → n ≤ mask
  unfolding held
  mask_fit q = ltb-false mask n (or_false (ltb mask n) false (ap (λ (t : Bool). any (λ x. ltb mask n) (held (overlay_of t b k).mask)) (sym q) ∙ fits.1)).0

-- ---- the trace
at_shaped : (m : Mem) (j : ℕ) → any (bad_write_shape m) m.writes ≡ false → j < length m.writes → bad_write_shape m (write_at m j) ≡ false
unfolding write_at
at_shaped m j e h = any_at (bad_write_shape m) m.writes e j _ h

few_of : (masked : Bool) (bits mask : Value) → (masked ≡ true → length mask ≤ 2048) → FewMask (overlay_of masked bits mask)
unfolding or_empty
few_of true bits mask h = h refl
few_of false bits mask h = omega arith

module _ (m : Memory) (nets trits : List ℕ) (i j : ℕ) (masked : Bool) (bits mask : List ℕ) (g : Paired m nets trits i j masked bits mask) where
  abbrev W : Mem
  W = memory_of m nets trits

  reads_of_lem : Reads W (read_at_of W i)
  reads_of_lem = reads_shaped W (read_at_of W i) g.read_good

  writes_of_lem : Writes W (write_at W j)
  writes_of_lem = writes_shaped W (write_at W j) (at_shaped W j g.writes_good g.written)

  thin_of : W.width ≤ 128
  thin_of = rw (sym (width_is m nets trits)) g.thin

  read_few : (read_at_of W i).data_len ≤ 2048
  read_few = size_few W.width _ _ thin_of reads_of_lem.shape

  pub data_few : (read_port m i).data_len ≤ 2048
  data_few = omega (arith, read_few, data_at m nets trits i g.there)

  pub len_is : length bits ≡ (read_at_of W i).data_len
  len_is = g.bits_like ∙ sym (data_at m nets trits i g.there)

  small : Small (write_at W j) (read_at_of W i).data_len
  small = let q = size_few W.width _ _ thin_of writes_of_lem.shape in record { in_bits = q; in_mask = omega (arith, writes_of_lem.masked); in_read = read_few }

  -- few nets, so that a run without a log never reaches X
  pub mux_below : (s : LogState) → (transparency_mux W i j (overlay_of masked bits mask) (start_net s)).next < X
  mux_below s = omega (arith, most_mux W i j (overlay_of masked bits mask) small (few_of masked bits mask mask_few) (start_net s), start_le s)
    where
      mask_few : masked ≡ true → length mask ≤ 2048
      mask_few q = omega (arith, g.mask_like q, data_few)

  -- the pair as the code has it
  module _ (kr n : ℕ) (raddr : List ℕ) (ek : kr ≡ read_wide_log2 W (read_at_of W i)) (ea : raddr ≡ (read_at_of W i).addr) (en : n ≡ (read_at_of W i).data_len) where
    pair_is : (x : Overlay) → laid_by W kr (reading raddr n) j x ≡ transparency_mux W i j x
    pair_is x = (λ q. laid_by W (ek q) (reading (ea q) (en q)) j x) ∙ laid_is W i g.writes_good reads_of_lem thin_of j x g.written g.enough

    n_is : n ≡ length bits
    n_is = en ∙ sym len_is

    module _ (under under1 under2 : List ℕ) (l l1 : Lent) (eu : under1 ≡ sets under 0 bits) (ru : 4096 ≤ length under) where
      bits_are : take n under1 ≡ bits
      bits_are = take_stored under under1 bits n eu n_is (omega (arith, n_is, g.bits_like, data_few))

      pub gave_plain : (over2 : List ℕ) → masked ≡ false → Gave (laid_by W kr (reading raddr n) j (plain (take n under1))) l l1 (plain (take n under2))
          → Gave (transparency_mux W i j (overlay_of masked bits mask)) l l1 (overlay_of masked (take (length bits) under2) (take (length bits) over2))
      gave_plain over2 q h =
          subst (λ (k : ℕ). Gave (transparency_mux W i j (overlay_of masked bits mask)) l l1 (overlay_of masked (take k under2) (take k over2))) n_is
          (subst (λ (b : Bool). Gave (transparency_mux W i j (overlay_of b bits mask)) l l1 (overlay_of b (take n under2) (take n over2))) (sym q)
          (subst (λ (v : Value). Gave (transparency_mux W i j (plain v)) l l1 (plain (take n under2))) bits_are
          (rw (pair_is (plain (take n under1))) at h)))

      pub gave_masked : (over over1 over2 : List ℕ) → masked ≡ true → over1 ≡ sets over 0 mask → 4096 ≤ length over
          → Gave (laid_by W kr (reading raddr n) j (with_mask (take n under1) (take n over1))) l l1 (with_mask (take n under2) (take n over2))
          → Gave (transparency_mux W i j (overlay_of masked bits mask)) l l1 (overlay_of masked (take (length bits) under2) (take (length bits) over2))
      gave_masked over over1 over2 q eo ro h =
          let b = take_stored over over1 mask n eo (n_is ∙ g.bits_like ∙ sym (g.mask_like q)) (omega (arith, n_is, g.bits_like, data_few)) in
          subst (λ (k : ℕ). Gave (transparency_mux W i j (overlay_of masked bits mask)) l l1 (overlay_of masked (take k under2) (take k over2))) n_is
          (subst (λ (t : Bool). Gave (transparency_mux W i j (overlay_of t bits mask)) l l1 (overlay_of t (take n under2) (take n over2))) (sym q)
          (subst (λ (v : Value). Gave (transparency_mux W i j (with_mask bits v)) l l1 (with_mask (take n under2) (take n over2))) b
          (subst (λ (v : Value). Gave (transparency_mux W i j (with_mask v (take n over1))) l l1 (with_mask (take n under2) (take n over2))) bits_are
          (rw (pair_is (with_mask (take n under1) (take n over1))) at h))))
