-- The nets and trits of the ports of a swizzle that passes, as both halves of its code count them.
use mathlib.Core.Path.{◌≡◌, refl, ap, ◌∙◌}
use Prim.Native.Nat.{ℕ, zero, suc, ◌+◌, ◌*◌, ◌^◌, ◌≤◌, ◌<◌}
use native.Mathlib.Omega.{arith}
use mathlib.Core.Option.{Option, none, some}
use mathlib.Core.List.{List, [], ◌∷◌}
use lib.ListN.{length, get_or, length-append}
use Rattle.lists.specs.Lists.{sum_by, pairs}
use Rattle.rules.specs.Numbers.{largest}
use Rattle.rules.specs.Cell.{WritePort, ReadFlipFlop, ReadPort, Mem, write_wide_log2, read_wide_log2}
use Rattle.rules.specs.Geometry.{Layout, columns}
use Rattle.swizzle_laws.proofs.ReadsCounts.{read_split_of}
use Rattle.swizzle_facts.specs.Passed.{LayoutPassed, SplitPassed, WritePassed, ReadPassed, EachPair}
use Rattle.swizzle_facts.proofs.Splits.{split_passed}
use Rattle.swizzle_counts.specs.Rooms.{wide_of, write_room, read_room, trits_by, trit_room}
use Rattle.swizzle_writes.specs.Planned.{port_nets, total_nets}
use Rattle.swizzle_reads.specs.Going.{trits_if, port_trits}
use Rattle.swizzle_reads.specs.Planned.{addrs_of, trits_of}
use Rattle.swizzle_reads.proofs.Lengths.{trits_length}

-- the largest of some numbers is none below another of them
pub largest_at : (l : List ℕ) (i : ℕ) → i < length l → get_or l i 0 ≤ largest l
unfolding largest
largest_at [] i h = omega arith
largest_at (a ∷ l) zero h = omega arith
largest_at (a ∷ l) (suc i) h = omega (arith, largest_at l i (omega arith))

kinds : (f : Option ReadFlipFlop) (q : Layout) (n k : ℕ) → k ≡ wide_of q n → trits_if f k ≡ trits_by q f n
kinds none q n k e = refl
kinds (some f) q n k e = omega arith

add_twice : (a b c : ℕ) → a ≡ b → a + (c + c) ≡ b + 2 * c
add_twice a b c e = omega arith

module _ (m : Mem) (q : Layout) (l : LayoutPassed q) where
  write_nets_lem : (w : WritePort) (n : ℕ) → WritePassed m q w n → port_nets m q w n ≡ write_room q n
  unfolding port_nets
  write_nets_lem w n o = add_twice _ _ (wide_of q n) (split_passed q (write_wide_log2 m w) n w.addr (length w.bits) l o.0).addr_len

  -- of all write ports
  pub writes_nets : (ws : List WritePort) (ns : List ℕ) → EachPair (WritePassed m q) ws ns → total_nets m q ws ns ≡ sum_by (write_room q) ns
  unfolding EachPair total_nets
  writes_nets [] [] e = refl
  writes_nets [] (n ∷ ns) e = absurd e
  writes_nets (w ∷ ws) [] e = absurd e
  writes_nets (w ∷ ws) (n ∷ ns) e = λ i. write_nets_lem w n e.0 i + writes_nets ws ns e.1 i

  passed : (r : ReadPort) (n : ℕ) → ReadPassed m q r n → SplitPassed q (read_wide_log2 m r) n (read_split_of m q r n)
  passed r n o = split_passed q (read_wide_log2 m r) n r.addr r.data_len l o

  -- of all read ports
  pub reads_nets : (rs : List ReadPort) (ns : List ℕ) → EachPair (ReadPassed m q) rs ns → length (addrs_of m q rs ns) ≡ sum_by (read_room q) ns
  unfolding EachPair
  reads_nets [] [] e = refl
  reads_nets [] (n ∷ ns) e = absurd e
  reads_nets (r ∷ rs) [] e = absurd e
  reads_nets (r ∷ rs) (n ∷ ns) e = length-append (read_split_of m q r n).addr (addrs_of m q rs ns) ∙ (λ i. (passed r n e.0).addr_len i + reads_nets rs ns e.1 i)

  port_trits_lem : (r : ReadPort) (n : ℕ) → ReadPassed m q r n → length (port_trits q (read_split_of m q r n) r) ≡ trit_room q (r, n)
  port_trits_lem r n o = trits_length q (read_split_of m q r n) r.flip_flop ∙ kinds r.flip_flop q n _ (ap (λ (k : ℕ). 2 ^ k * columns q) (passed r n o).new_is)

  pub reads_trits : (rs : List ReadPort) (ns : List ℕ) → EachPair (ReadPassed m q) rs ns → length (trits_of m q rs ns) ≡ sum_by (trit_room q) (pairs rs ns)
  unfolding EachPair
  reads_trits [] [] e = refl
  reads_trits [] (n ∷ ns) e = absurd e
  reads_trits (r ∷ rs) [] e = absurd e
  reads_trits (r ∷ rs) (n ∷ ns) e = length-append (port_trits q (read_split_of m q r n) r) (trits_of m q rs ns) ∙ (λ i. port_trits_lem r n e.0 i + reads_trits rs ns e.1 i)
