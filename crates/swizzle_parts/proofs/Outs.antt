-- The output nets of a memory's read port: rows of its columns.
use mathlib.Core.Path.{◌≡◌, refl, sym, ap, ◌∙◌}
use Prim.Native.Nat.{ℕ, zero, suc, ◌+◌, ◌*◌, ◌/◌, ◌%◌, ◌^◌, ◌<◌, ◌≤◌, min}
use native.Mathlib.Nat.{zero-add, add-zero, suc-add, add-suc, zero-mul, suc-mul, mul_comm, mod-lt, div-add-mod', div-lt_iff_lt-mul}
use native.Mathlib.Omega.{arith}
use mathlib.Core.Bool.{true, false}
use mathlib.Core.List.{List, [], ◌∷◌, ◌++◌}
use lib.ListN.{length, take, drop, get_or, length-append, length-take, get_or-append, get_or-eq_default}
use lib.Seq.{drop-drop, get_or-take, take_at, drop_at}
use Rattle.lists.specs.Lists.{sum_by, part, up_from, concat_map}
use Rattle.lists.proofs.UpFrom.{length_up, up_at}
use Rattle.rules.specs.Limits.{max_ports, max_wide}
use Rattle.rules.specs.Cell.{ReadPort, output_start, output_slice}
use Rattle.rules.specs.Ports.{Driving}
use Rattle.net_memory.proofs.Outputs.{sum_views}
use Rattle.swizzle_result.specs.declared.WideReadPort.{WideReadPort}
use Rattle.swizzle_result.specs.declared.WideMemory.{WideMemory}
use Rattle.swizzle_result.specs.View.{own, read_ports_of, addr_size, trit_size, read_by, reads_start, output_by, result_of}
use Rattle.swizzle_parts.specs.Parts.{There, no_read_of, read_port, has_read, memory_at}
use Rattle.swizzle_parts.proofs.Powers.{NetFits, net_fits}
use Rattle.swizzle_parts.proofs.Found.{found, read_there, read_known, read_found, no_read}

-- the lists of each element, cut at one
module _ {P : Type 0} (s : P → ℕ) (f : P → List ℕ) (d : P) (e : (p : P) → length (f p) ≡ s p) where
  concat_at : (ps : List P) (i : ℕ) → i < length ps → part (sum_by s (take i ps)) (s (get_or ps i d)) (concat_map f ps) ≡ f (get_or ps i d)
  concat_at [] i h = absurd (omega arith)
  concat_at (p ∷ ps) zero h = take_at (f p) (concat_map f ps) (s p) (e p)
  concat_at (p ∷ ps) (suc i) h =
      ap (take (s (get_or ps i d))) (sym (drop-drop (sum_by s (take i ps)) (s p) (f p ++ concat_map f ps)) ∙ ap (drop (sum_by s (take i ps))) (drop_at (f p) (concat_map f ps) (s p) (e p)))
      ∙ concat_at ps i (omega arith)

get_d_after : (a b : List ℕ) (k : ℕ) → get_or (a ++ b) (length a + k) 0 ≡ get_or b k 0
get_d_after [] b k = ap (λ (i : ℕ). get_or b i 0) (zero-add k)
get_d_after (x ∷ a) b k = ap (λ (i : ℕ). get_or (x ∷ (a ++ b)) i 0) (suc-add (length a) k) ∙ get_d_after a b k

-- rows of u numbers, one after the other
module _ (u : ℕ) (h : ℕ → ℕ) where
  abbrev rows : ℕ → ℕ → List ℕ
  rows a K = concat_map (λ r. up_from (h r) u) (up_from a K)

  length_rows : (a K : ℕ) → length (rows a K) ≡ K * u
  length_rows a zero = sym (zero-mul u)
  length_rows a (suc K) = omega (arith, length-append (up_from (h a) u) (rows (suc a) K), length_up (h a) u, length_rows (suc a) K, suc-mul K u)

  rows_at : (a K q c : ℕ) → q < K → c < u → get_or (rows a K) (q * u + c) 0 ≡ h (a + q) + c
  rows_at a zero q c l m = absurd (omega arith)
  rows_at a (suc K) zero c l m =
      let z : 0 * u + c ≡ c = omega (arith, zero-mul u) in
      ap (λ (i : ℕ). get_or (rows a (suc K)) i 0) z
      ∙ get_or-append (up_from (h a) u) (rows (suc a) K) 0 c (omega (arith, length_up (h a) u))
      ∙ up_at (h a) u c 0 m
      ∙ ap (λ (i : ℕ). h i + c) (sym (add-zero a))
  rows_at a (suc K) (suc q) c l m =
      let z : suc q * u + c ≡ length (up_from (h a) u) + (q * u + c) = omega (arith, suc-mul q u, length_up (h a) u) in
      ap (λ (i : ℕ). get_or (rows a (suc K)) i 0) z
      ∙ get_d_after (up_from (h a) u) (rows (suc a) K) (q * u + c)
      ∙ rows_at (suc a) K q c (omega arith) m
      ∙ ap (λ (i : ℕ). h i + c) (suc-add a q ∙ sym (add-suc a q))

-- there is a row of this bit
pub row_below : (bit u K : ℕ) → bit < K * u → (0 < u) × (bit / u < K)
row_below bit zero K h = absurd (omega (arith, mul_comm K 0, zero-mul K))
row_below bit (suc u) K h = (omega arith, (div-lt_iff_lt-mul {k = suc u} {x = bit} {y = K} (omega arith)).1 h)

module _ (g : WideMemory) (n : ℕ) (p : WideReadPort) where
  length_output : length (output_by g n p) ≡ own g p.wide
  length_output = length_rows g.unit (λ r. p.first + (r * (g.mems * g.unit) + n * g.unit)) 0 (2 ^ p.wide)

  data_long : length (output_by g n p) ≡ g.unit * 2 ^ p.wide
  data_long = length_output ∙ mul_comm (2 ^ p.wide) g.unit

  -- the net of a bit, and past the last none
  pub net_is : (bit : ℕ) → bit < own g p.wide → p.first + (bit / g.unit * (g.mems * g.unit) + n * g.unit) + bit % g.unit ≡ get_or (output_by g n p) bit 0
  net_is bit l =
      let r = row_below bit g.unit (2 ^ p.wide) l in
      let h : ℕ → ℕ = λ r. p.first + (r * (g.mems * g.unit) + n * g.unit) in
      ap (λ (q : ℕ). h q + bit % g.unit) (sym (zero-add (bit / g.unit)))
      ∙ sym (rows_at g.unit h 0 (2 ^ p.wide) (bit / g.unit) (bit % g.unit) r.1 (mod-lt bit r.0))
      ∙ ap (λ (i : ℕ). get_or (output_by g n p) i 0) (div-add-mod' bit g.unit)

  pub net_past : (bit : ℕ) → own g p.wide ≤ bit → 0 ≡ get_or (output_by g n p) bit 0
  net_past bit l = sym (get_or-eq_default (output_by g n p) 0 (omega (arith, length_output)))

-- ---- the outputs of a port, as the rules cut them
abbrev data_of : WideMemory → WideReadPort → ℕ
data_of g p = g.unit * 2 ^ p.wide

module _ (g : WideMemory) (n i : ℕ) (nets trits image : List ℕ) where
  start_of : i < min max_ports g.read_count → output_start (result_of g nets trits image n).memory i ≡ sum_by (data_of g) (take i (read_ports_of g))
  unfolding output_start
  start_of h =
      sum_views addr_size (trit_size g) (read_by g n) (λ p. p.data_len) (data_of g) (λ p x y. refl) i (read_ports_of g) (drop (reads_start g) nets) trits

  cut : length g.read_ports ≡ max_ports → i < min max_ports g.read_count → output_slice (result_of g nets trits image n).memory i (result_of g nets trits image n).output ≡ output_by g n (read_port g i)
  unfolding output_slice
  cut z h =
      let e : get_or (read_ports_of g) i no_read_of ≡ read_port g i = get_or-take (min max_ports g.read_count) g.read_ports i no_read_of h in
      (λ k. part (start_of h k) (read_found g n nets trits image i z h k).data_len (concat_map (output_by g n) (read_ports_of g)))
      ∙ ap (λ (p : WideReadPort). part (sum_by (data_of g) (take i (read_ports_of g))) (data_of g p) (concat_map (output_by g n) (read_ports_of g))) (sym e)
      ∙ concat_at (data_of g) (output_by g n) no_read_of (data_long g n) (read_ports_of g) i (omega (arith, z, length-take (min max_ports g.read_count) g.read_ports))
      ∙ ap (output_by g n) e

  pub slice_is : has_read g n i ≡ true → length g.read_ports ≡ max_ports
      → output_slice (memory_at g nets trits image n).memory i (memory_at g nets trits image n).output ≡ output_by g n (read_port g i)
  slice_is e z =
      ap (λ (d : Driving). output_slice d.memory i d.output) (found g n nets trits image (read_there g n i e)) ∙ cut z (read_known g n i e).1

  pub no_slice : has_read g n i ≡ false → output_slice (memory_at g nets trits image n).memory i (memory_at g nets trits image n).output ≡ []
  unfolding output_slice
  no_slice e = ap (λ (p : ReadPort). part (output_start (memory_at g nets trits image n).memory i) p.data_len (memory_at g nets trits image n).output) (no_read g n i nets trits image e)

-- the products of an output net's place
pub net_room : (g : WideMemory) (n wide bit : ℕ) → There g n → wide ≤ max_wide → bit < own g wide → NetFits g.unit g.mems n (bit / g.unit) bit
net_room g n wide bit t w h = net_fits g.unit g.mems n bit wide t.small.unit_small t.small.mems_small t.below w (row_below bit g.unit (2 ^ wide) h)
