-- As many outputs are extracted as the extracted ports have data bits.
use mathlib.Core.Path.{◌≡◌, refl, sym}
use Prim.Native.Nat.{ℕ, ◌+◌, ◌≤◌}
use native.Mathlib.Omega.{arith}
use mathlib.Core.List.{List, []}
use mathlib.Core.Option.{none}
use lib.ListN.{length, take, get_or}
use Rattle.lists.specs.Lists.{sum_by}
use Rattle.lists.proofs.Parts.{length_part}
use Rattle.lists.proofs.Sum.{sum_part}
use Rattle.rules.specs.Cell.{Mem, ReadPort, read_at_of, output_len, output_start, output_slice, with_reads}
use Rattle.rules.specs.Ports.{extract_read_ports}
use Rattle.lists.proofs.Concat.{length_concat}

abbrev no_port : ReadPort
no_port = record { addr = []; data_len = 0; flip_flop = none }

within : (rs : List ReadPort) (k n : ℕ) → n ≡ sum_by (λ p. p.data_len) rs → sum_by (λ p. p.data_len) (take k rs) + (get_or rs k no_port).data_len ≤ n
within rs k n e = omega (arith, sum_part (λ (p : ReadPort). p.data_len) no_port refl rs k)

module _ (v : Mem) (output : List ℕ) (size : length output ≡ output_len v) where
  slice_long : (k : ℕ) → length (output_slice v k output) ≡ (read_at_of v k).data_len
  unfolding output_slice output_start output_len read_at_of
  slice_long k = length_part (output_start v k) (read_at_of v k).data_len output (within v.reads k (length output) size)

  pub output_long : (list : List ℕ) → output_len (extract_read_ports v list output).memory ≡ length (extract_read_ports v list output).output
  unfolding extract_read_ports output_len with_reads
  output_long list = sym (length_concat (λ k. output_slice v k output) (read_at_of v) (λ p. p.data_len) slice_long list)
