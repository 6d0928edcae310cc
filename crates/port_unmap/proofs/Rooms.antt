-- A memory and its outputs after an unmapping fit the arrays that they were lent in.
use mathlib.Core.Path.{◌≡◌, sym, ◌∙◌, subst}
use Prim.Native.Nat.{ℕ, ◌<◌, ◌≤◌, min}
use native.Mathlib.Nat.{le_refl}
use native.Mathlib.Omega.{arith}
use mathlib.Core.Option.{Option, none, some}
use mathlib.Core.List.{List}
use lib.ListN.{length}
use lib.Seq.{sets, length-sets}
use borrow.Author.Tests.{le-ltb}
use Rattle.lists.specs.Lists.{up_from}
use Rattle.lists.proofs.Choice.{or_both, if_false}
use Rattle.rules.specs.Limits.{max_ports}
use Rattle.rules.specs.Value.{Value}
use Rattle.rules.specs.Cell.{ReadFlipFlop, Mem, read_at_of, output_start, flat_nets, flat_trits}
use Rattle.rules.specs.Conditions.{no_room_of}
use Rattle.rules.specs.Log.{done}
use Rattle.rules.specs.Ports.{Driving, unmap_dff, unmap_read_dff_of, unmap_read_dff}
use Rattle.rules.specs.Refusals.{Rooms, no_rooms, driving_refusal}
use Rattle.net_memory.specs.declared.Memory.{Memory}
use Rattle.net_memory.specs.View.{memory_of}
use Rattle.port_unmap.specs.Call.{unclocking, rooms_of}
use Rattle.port_unmap.proofs.Act.{unmap_memory, unmap_output, unclock_view}
use Rattle.net_memory.proofs.Fits.{nets_fit, trits_fit}

-- ---- the rooms are enough
pub enough : (r : Rooms) (d : Driving) → length (flat_nets d.memory) ≤ r.nets → length (flat_trits d.memory) ≤ r.trits → length d.output ≤ r.output → driving_refusal r d ≡ 0
unfolding driving_refusal no_rooms no_room_of
enough r d a b c = if_false _ 20 0 (or_both (le-ltb r.nets _ a) (or_both (le-ltb r.trits _ b) (le-ltb r.output _ c)))

same_long : (l : List ℕ) (i : ℕ) (v : List ℕ) → length (sets l i v) ≤ length l
same_long l i v = omega (arith, length-sets l i v)

module _ (m : Memory) (nets trits output : List ℕ) (i : ℕ) (h : i < min max_ports m.read_count) where
  abbrev M : Mem
  M = memory_of m nets trits

  clocked_fits : (f : ReadFlipFlop) (k : ℕ) → driving_refusal (rooms_of nets trits output) (unmap_dff M i output f k).value ≡ 0
  clocked_fits f k =
      let e : memory_of (unclocking m i) nets trits ≡ (unmap_dff M i output f k).value.memory = unclock_view m nets trits i h ∙ sym (unmap_memory M i output f k) in
      enough (rooms_of nets trits output) (unmap_dff M i output f k).value
      (subst (λ (v : Mem). length (flat_nets v) ≤ length nets) e (nets_fit (unclocking m i) nets trits))
      (subst (λ (v : Mem). length (flat_trits v) ≤ length trits) e (trits_fit (unclocking m i) nets trits))
      (subst (λ (v : Value). length v ≤ length output) (sym (unmap_output M i output f k)) (same_long output (output_start M i) (up_from k (read_at_of M i).data_len)))

  by_flip_flop : (o : Option ReadFlipFlop) (k : ℕ) → driving_refusal (rooms_of nets trits output) (unmap_read_dff_of o M i output k).value ≡ 0
  unfolding unmap_read_dff_of done
  by_flip_flop none k = enough (rooms_of nets trits output) (record { memory = M; output = output }) (nets_fit m nets trits) (trits_fit m nets trits) (le_refl (length output))
  by_flip_flop (some f) k = clocked_fits f k

  pub unmap_fits : (k : ℕ) → driving_refusal (rooms_of nets trits output) (unmap_read_dff M i output k).value ≡ 0
  unfolding unmap_read_dff
  unmap_fits k = by_flip_flop (read_at_of M i).flip_flop k
