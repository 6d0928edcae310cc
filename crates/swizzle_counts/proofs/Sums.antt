-- What the code counts for all ports is what the rules count.
use mathlib.Core.Path.{◌≡◌, refl, sym, ap, ◌∙◌, subst}
use mathlib.Core.Logic.{◌≢◌}
use Prim.Native.Nat.{ℕ, suc, ◌+◌, ◌≤◌, ◌<◌, max, min}
use native.Mathlib.Nat.{zero-add, add-zero, add-suc, suc-add}
use native.Mathlib.Omega.{arith}
use mathlib.Core.List.{List, [], ◌∷◌, map}
use lib.ListN.{length, get_or}
use Rattle.lists.specs.Lists.{sum_by, pairs, up_from}
use Rattle.rules.specs.Limits.{max_ports}
use Rattle.rules.specs.Numbers.{largest}
use Rattle.rules.specs.Value.{Value}
use Rattle.rules.specs.Cell.{WritePort, ReadPort, Mem, Plan, write_at, read_at_of}
use Rattle.rules.specs.Geometry.{Layout, layout_of, row_len_of, columns}
use Rattle.rules.specs.Swizzle.{piece_nets}
use Rattle.rules.specs.Refusals.{swizzle_number}
use Rattle.rules.specs.Beside.Counts.{plus, nothing, sum_counts}
use Rattle.net_memory.specs.declared.Memory.{Memory}
use Rattle.net_memory.specs.View.{memory_of, writes_of, reads_of, read_port, read_nets}
use Rattle.net_memory.specs.Given.{given_of}
use Rattle.image_geometry.specs.declared.Params.{Params}
use Rattle.image_geometry.specs.View.{layout_by}
use Rattle.swizzle_plan.specs.declared.MemorySwizzle.{MemorySwizzle}
use Rattle.swizzle_plan.specs.Calls.{plan_of, params_by}
use Rattle.swizzle_laws.proofs.ReadsCounts.{reads_count_of}
use Rattle.swizzle_laws.proofs.WritesCounts.{writes_count_of}
use Rattle.swizzle_facts.specs.Passed.{LayoutPassed, PortPassed, WritePassed, ReadPassed}
use Rattle.swizzle_facts.proofs.Layouts.{layout_passed}
use Rattle.swizzle_facts.proofs.Splits.{split_passed}
use Rattle.swizzle_facts.proofs.Ports.{writes_few, reads_few, writes_long, reads_long, write_passed, read_passed}
use Rattle.swizzle_counts.specs.declared.Needs.{Needs}
use Rattle.swizzle_counts.specs.Rooms.{write_room, read_room, trit_room}
use Rattle.swizzle_counts.specs.Needs.{all_needs, read_log, read_needs, ReadFits, ReadsFit, reads_needs, write_log, write_addr, write_needs, WriteFits, WritesFit, writes_needs}
use Rattle.swizzle_counts.proofs.Meant.{port_fits_lem, read_addr_lem, read_len, read_log_lem, read_rules, read_one, read_of, write_log_lem, write_addr_lem, write_rules, write_one, write_of}

-- ---- ports by index, and in pairs with their new wide logs
module _ {A : Type 0} (d : A) (f : ℕ → Needs) (g : A × ℕ → Needs) where
  index_from_lem : (l : List A) (ns : List ℕ) (a : ℕ) → length ns ≡ length l → ((j : ℕ) → j < length l → f (a + j) ≡ g (get_or l j d, get_or ns j 0)) → map f (up_from a (length ns)) ≡ map g (pairs l ns)
  index_from_lem [] [] a e h = refl
  index_from_lem [] (n ∷ ns) a e h = absurd (omega arith)
  index_from_lem (x ∷ l) [] a e h = absurd (omega arith)
  index_from_lem (x ∷ l) (n ∷ ns) a e h =
      λ i. (ap f (sym (add-zero a)) ∙ h 0 (omega arith)) i ∷ index_from_lem l ns (suc a) (omega arith) (λ j k. ap f (suc-add a j ∙ sym (add-suc a j)) ∙ h (suc j) (omega arith)) i

  by_index : (l : List A) (ns : List ℕ) → length ns ≡ length l → ((j : ℕ) → j < length l → f j ≡ g (get_or l j d, get_or ns j 0)) → all_needs (map f (up_from 0 (length ns))) ≡ all_needs (map g (pairs l ns))
  by_index l ns e h = ap all_needs (index_from_lem l ns 0 e (λ j k. ap f (zero-add j) ∙ h j k))

-- ---- the sums of the rules
pub record ReadSums (m : Mem) (p : Plan) (l : List ReadPort) (ns : List ℕ) : Type 0 where
  pub words_are : (all_needs (map (read_of m (layout_of m p)) (pairs l ns))).words ≡ (reads_count_of m (layout_of m p) l ns).words
  pub nets_are : (all_needs (map (read_of m (layout_of m p)) (pairs l ns))).nets ≡ (reads_count_of m (layout_of m p) l ns).nets
  pub room_is : (all_needs (map (read_of m (layout_of m p)) (pairs l ns))).room ≡ sum_by (read_room (layout_of m p)) ns
  pub trits_are : (all_needs (map (read_of m (layout_of m p)) (pairs l ns))).trits ≡ sum_by (trit_room (layout_of m p)) (pairs l ns)
  pub scratch_is : (all_needs (map (read_of m (layout_of m p)) (pairs l ns))).scratch ≡ largest (map (piece_nets m p) (pairs l ns))

pub read_sums : (m : Mem) (p : Plan) (l : List ReadPort) (ns : List ℕ) → length ns ≡ length l → ReadSums m p l ns
unfolding all_needs sum_counts plus nothing largest piece_nets
read_sums m p [] [] e = record { words_are = refl; nets_are = refl; room_is = refl; trits_are = refl; scratch_is = refl }
read_sums m p [] (n ∷ ns) e = absurd (omega arith)
read_sums m p (x ∷ l) [] e = absurd (omega arith)
read_sums m p (x ∷ l) (n ∷ ns) e =
    let r = read_sums m p l ns (omega arith) in
    let o = read_of m (layout_of m p) (x, n) in
    record {
      words_are = ap (λ (k : ℕ). o.words + k) r.words_are;
      nets_are = ap (λ (k : ℕ). o.nets + k) r.nets_are;
      room_is = ap (λ (k : ℕ). o.room + k) r.room_is;
      trits_are = ap (λ (k : ℕ). o.trits + k) r.trits_are;
      scratch_is = ap (λ (k : ℕ). max o.scratch k) r.scratch_is;
    }

pub record WriteSums (m : Mem) (q : Layout) (l : List WritePort) (ns : List ℕ) : Type 0 where
  pub words_are : (all_needs (map (write_of m q) (pairs l ns))).words ≡ (writes_count_of m q l ns).words
  pub nets_are : (all_needs (map (write_of m q) (pairs l ns))).nets ≡ (writes_count_of m q l ns).nets
  pub room_is : (all_needs (map (write_of m q) (pairs l ns))).room ≡ sum_by (write_room q) ns
  pub trits_are : (all_needs (map (write_of m q) (pairs l ns))).trits ≡ 0
  pub scratch_is : (all_needs (map (write_of m q) (pairs l ns))).scratch ≡ 0

pub write_sums : (m : Mem) (q : Layout) (l : List WritePort) (ns : List ℕ) → length ns ≡ length l → WriteSums m q l ns
unfolding all_needs sum_counts plus nothing
write_sums m q [] [] e = record { words_are = refl; nets_are = refl; room_is = refl; trits_are = refl; scratch_is = refl }
write_sums m q [] (n ∷ ns) e = absurd (omega arith)
write_sums m q (x ∷ l) [] e = absurd (omega arith)
write_sums m q (x ∷ l) (n ∷ ns) e =
    let r = write_sums m q l ns (omega arith) in
    let o = write_of m q (x, n) in
    record {
      words_are = ap (λ (k : ℕ). o.words + k) r.words_are;
      nets_are = ap (λ (k : ℕ). o.nets + k) r.nets_are;
      room_is = ap (λ (k : ℕ). o.room + k) r.room_is;
      trits_are = ap (λ (k : ℕ). 0 + k) r.trits_are;
      scratch_is = ap (λ (k : ℕ). max 0 k) r.scratch_is;
    }

-- ---- of a swizzle that passes
module _ (m : Memory) (nets trits : List ℕ) (s : MemorySwizzle) (es ws rs : List ℕ) (next : ℕ) (output : Value)
    (e : swizzle_number next (given_of m nets trits) output (plan_of s es ws rs) ≡ 0) (w : m.width ≢ 0) (d : m.depth ≢ 0)
    (wl : length (writes_of m nets) ≡ min max_ports m.write_count) (rl : length (reads_of m nets trits) ≡ min max_ports m.read_count) where
  abbrev M : Mem
  M = memory_of m nets trits

  abbrev P : Plan
  P = plan_of s es ws rs

  abbrev p : Params
  p = params_by m s

  abbrev q : Layout
  q = layout_by p es

  pub layout_is : q ≡ layout_of M P
  unfolding layout_of memory_of
  layout_is = refl

  writes_are : length M.writes ≡ min max_ports m.write_count
  unfolding memory_of
  writes_are = wl

  reads_are : length M.reads ≡ min max_ports m.read_count
  unfolding memory_of
  reads_are = rl

  width_is : M.width ≢ 0
  unfolding memory_of
  width_is = w

  depth_is : M.depth ≢ 0
  unfolding memory_of
  depth_is = d

  pub passed : LayoutPassed (layout_of M P)
  passed = layout_passed next (given_of m nets trits) output P e width_is depth_is

  layout : LayoutPassed q
  layout = subst LayoutPassed (sym layout_is) passed

  row_max : length es ≤ 256
  unfolding row_len_of
  row_max = layout.small.len_max

  pub long_reads : length rs ≡ length M.reads
  long_reads = reads_long next (given_of m nets trits) output P e

  pub long_writes : length ws ≡ length M.writes
  long_writes = writes_long next (given_of m nets trits) output P e

  module _ (i : ℕ) (h : i < length rs) where
    read_at : ReadPassed M q (read_at_of M i) (get_or rs i 0)
    read_at = subst (λ (x : Layout). ReadPassed M x (read_at_of M i) (get_or rs i 0)) (sym layout_is) (read_passed next (given_of m nets trits) output P e i (omega (arith, long_reads)))

    in_reads : i < min max_ports m.read_count
    in_reads = omega (arith, long_reads, reads_are)

    read_passes : PortPassed q (read_log m i) (get_or rs i 0) (read_nets m nets i) (read_port m i).data_len
    read_passes =
        subst (λ (k : ℕ). PortPassed q (read_log m i) (get_or rs i 0) (read_nets m nets i) k) (read_len m nets trits i in_reads)
        (subst (λ (a : Value). PortPassed q (read_log m i) (get_or rs i 0) a (read_at_of M i).data_len) (read_addr_lem m nets trits i in_reads)
        (subst (λ (k : ℕ). PortPassed q k (get_or rs i 0) (read_at_of M i).addr (read_at_of M i).data_len) (read_log_lem m nets trits i in_reads) read_at))

    read_fits : ReadFits m nets p (columns q) (get_or rs i 0) i
    read_fits =
        let x = split_passed q (read_log m i) (get_or rs i 0) (read_nets m nets i) (read_port m i).data_len layout read_passes in
        record {
          there = omega (arith, in_reads);
          split = port_fits_lem p es (read_log m i) (get_or rs i 0) (read_nets m nets i) (read_port m i).data_len layout read_passes;
          len_max = omega (arith, x.size_max, read_passes.size_is);
        }

    read_counts : read_needs m nets p (columns q) (get_or rs i 0) i ≡ read_of M q (read_at_of M i, get_or rs i 0)
    read_counts = read_rules m nets trits i in_reads p es (get_or rs i 0) ∙ read_one M q layout (read_at_of M i) (get_or rs i 0) read_at

  pub reads_fit : ReadsFit m nets p (columns q) rs
  reads_fit = record { few = omega (arith, long_reads, reads_few next (given_of m nets trits) output P e); each = read_fits }

  pub reads_count : reads_needs m nets p (columns q) rs ≡ all_needs (map (read_of M (layout_of M P)) (pairs M.reads rs))
  unfolding reads_needs read_at_of
  reads_count =
      by_index _ (λ i. read_needs m nets p (columns q) (get_or rs i 0) i) (read_of M q) M.reads rs long_reads (λ i h. read_counts i (omega (arith, long_reads)))
      ∙ ap (λ (x : Layout). all_needs (map (read_of M x) (pairs M.reads rs))) layout_is

  module _ (i : ℕ) (h : i < length ws) where
    write_at_lem : WritePassed M q (write_at M i) (get_or ws i 0)
    unfolding write_at
    write_at_lem = subst (λ (x : Layout). WritePassed M x (write_at M i) (get_or ws i 0)) (sym layout_is) (write_passed next (given_of m nets trits) output P e i _ (omega (arith, long_writes)))

    in_writes : i < min max_ports m.write_count
    in_writes = omega (arith, long_writes, writes_are)

    write_passes : PortPassed q (write_log m nets i) (get_or ws i 0) (write_addr m nets i) (length (write_at M i).bits)
    write_passes =
        subst (λ (a : Value). PortPassed q (write_log m nets i) (get_or ws i 0) a (length (write_at M i).bits)) (write_addr_lem m nets trits i in_writes)
        (subst (λ (k : ℕ). PortPassed q k (get_or ws i 0) (write_at M i).addr (length (write_at M i).bits)) (write_log_lem m nets trits i in_writes) write_at_lem.0)

    write_fits : WriteFits m nets p (columns q) es (get_or ws i 0) i
    write_fits = record {
      there = omega (arith, in_writes);
      split = port_fits_lem p es (write_log m nets i) (get_or ws i 0) (write_addr m nets i) (length (write_at M i).bits) layout write_passes;
      old_max = write_passes.old_max;
      width_max = layout.small.width_max;
      len_max = row_max;
    }

    write_counts : write_needs m nets p (columns q) es (get_or ws i 0) i ≡ write_of M q (write_at M i, get_or ws i 0)
    write_counts = write_rules m nets trits i in_writes p es (get_or ws i 0) ∙ write_one M q layout (write_at M i) (get_or ws i 0) write_at_lem

  pub writes_fit : WritesFit m nets p (columns q) es ws
  writes_fit = record { few = omega (arith, long_writes, writes_few next (given_of m nets trits) output P e); each = write_fits }

  pub writes_count : writes_needs m nets p (columns q) es ws ≡ all_needs (map (write_of M (layout_of M P)) (pairs M.writes ws))
  unfolding writes_needs write_at
  writes_count =
      by_index _ (λ i. write_needs m nets p (columns q) es (get_or ws i 0) i) (write_of M q) M.writes ws long_writes (λ i h. write_counts i (omega (arith, long_writes)))
      ∙ ap (λ (x : Layout). all_needs (map (write_of M x) (pairs M.writes ws))) layout_is
