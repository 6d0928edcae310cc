-- Laws of the outputs, of a port's number and of the clocks.
use mathlib.Core.Path.{◌≡◌, refl, sym, ap, ◌∙◌}
use Prim.Native.Nat.{ℕ, ◌<◌, ◌≤◌, min}
use native.Mathlib.Omega.{arith}
use mathlib.Core.Bool.{Bool, true, false}
use mathlib.Core.List.{List}
use lib.ListN.{length, get_or}
use lib.Seq.{take_all}
use lib.Dec.{leb}
use borrow.Author.Tests.{le-leb, lt-leb}
use Rattle.lists.specs.Choice.{when◌then◌else◌}
use Rattle.lists.specs.Lists.{all, any, sum_by}
use Rattle.lists.proofs.Choice.{else_rest}
use Rattle.rules.specs.Limits.{max_ports}
use Rattle.rules.specs.Value.{same_control}
use Rattle.rules.specs.Cell.{WritePort, ReadPort, output_start, output_len, write_at}
use Rattle.rules.specs.Conditions.{not_below, bad_port}
use Rattle.rules.specs.Refusals.{port_number, mem_refusal, output_slice_refusal}
use Rattle.rules.specs.Fallback.{can_lower_fallback}
use Rattle.net_value.specs.View.{control_of}
use Rattle.net_memory.specs.declared.Memory.{Memory}
use Rattle.net_memory.specs.View.{memory_of, writes_of, reads_of, write_port}
use Rattle.net_memory.specs.Given.{given_of}
use Rattle.net_memory.proofs.Ports.{no_write_of, writes_at, write_of_view}

-- the start past the last port is the length of all
pub all_outputs : (m : Memory) (nets trits : List ℕ) → length (reads_of m nets trits) ≤ 8 → output_start (memory_of m nets trits) 8 ≡ output_len (memory_of m nets trits)
unfolding output_start output_len memory_of
all_outputs m nets trits h = ap (sum_by (λ (p : ReadPort). p.data_len)) (take_all 8 (reads_of m nets trits) h)

module _ (m : Memory) (nets trits : List ℕ) (i : ℕ) (reads : length (reads_of m nets trits) ≡ min max_ports m.read_count) (z : mem_refusal (given_of m nets trits) ≡ 0) where
  pub port_out : min max_ports m.read_count ≤ i → 15 ≡ output_slice_refusal (given_of m nets trits) i
  unfolding output_slice_refusal port_number bad_port not_below memory_of
  port_out h =
      let e : leb (length (reads_of m nets trits)) i ≡ true = ap (λ (n : ℕ). leb n i) reads ∙ le-leb _ _ h in
      sym (else_rest (mem_refusal (given_of m nets trits)) _ z ∙ ap (λ (t : Bool). when t then 15 else 0) e)

  pub port_in : i < min max_ports m.read_count → 0 ≡ output_slice_refusal (given_of m nets trits) i
  unfolding output_slice_refusal port_number bad_port not_below memory_of
  port_in h =
      let e : leb (length (reads_of m nets trits)) i ≡ false = ap (λ (n : ℕ). leb n i) reads ∙ lt-leb _ _ h in
      sym (else_rest (mem_refusal (given_of m nets trits)) _ z ∙ ap (λ (t : Bool). when t then 15 else 0) e)

-- ---- the clocks
module _ (m : Memory) (nets trits : List ℕ) where
  abbrev pub like_first : WritePort → Bool
  like_first p = same_control p.clock (write_at (memory_of m nets trits) 0).clock

  pub can_by : all like_first (writes_of m nets) ≡ can_lower_fallback (memory_of m nets trits)
  unfolding can_lower_fallback memory_of
  can_by = refl

  -- the test of port i by the structs' clocks
  pub clock_at : (i : ℕ) → i < min max_ports m.write_count
      → same_control (control_of (write_port m i).clock) (control_of (write_port m 0).clock) ≡ like_first (get_or (writes_of m nets) i no_write_of)
  clock_at i h =
      let a = writes_at m nets i h in
      let b = write_of_view m nets trits 0 ∙ writes_at m nets 0 (omega arith) in
      λ k. same_control (sym a k).clock (sym b k).clock

-- a port is missing where it is not below the number of ports
pub missing_by : (m : Memory) (nets trits list : List ℕ) (n : ℕ) → n ≡ length (reads_of m nets trits) → any (λ (k : ℕ). leb n k) list ≡ any (bad_port (memory_of m nets trits)) list
unfolding bad_port not_below memory_of
missing_by m nets trits list n e = ap (λ (i : ℕ). any (λ (k : ℕ). leb i k) list) e
