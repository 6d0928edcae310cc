-- The void nets of one clocked port take its place in the room.
use mathlib.Core.Path.{◌≡◌, refl, sym, ap, ◌∙◌}
use Prim.Native.Nat.{ℕ, ◌+◌, ◌-◌, ◌<◌, ◌≤◌}
use native.Mathlib.Omega.{arith}
use mathlib.Core.Bool.{false}
use mathlib.Core.Option.{none, some}
use mathlib.Core.List.{append-nil}
use lib.Seq.{sets}
use borrow.Author.Tests.{le-ltb, lt-ltb}
use Rattle.lists.specs.Lists.{up_from}
use Rattle.rules.specs.Limits.{max_merge}
use Rattle.rules.specs.Value.{Value}
use Rattle.rules.specs.Cell.{ReadFlipFlop, Mem, read_at_of, read_wide_log2, flip_flop_of, output_start, output_slice}
use Rattle.rules.specs.Log.{◌>>=◌, ◌>>◌, done, request, add_void_of}
use Rattle.log_entries.specs.Emission.{Lent, is_over, emit, run}
use Rattle.port_transparency.specs.Gave.{Gave}
use Rattle.port_transparency.specs.Pairs.{reading}
use Rattle.port_transparency.proofs.Gave.{gave_done}
use Rattle.port_overlay.specs.Laid.{unmapped, unmapped_if}
use Rattle.port_unmap.specs.Trace.{related, port_trace}
use Rattle.port_unmap_all.specs.All.{unmapped_to, unmapped_of, unmapped_at}

-- ---- the void nets in the room
module _ (m : Mem) (i : ℕ) (output : Value) (f : ReadFlipFlop) (room : Value) where
  to_entries : (k : ℕ) → (unmapped_to m i output f room k).entries ≡ (unmapped m (read_wide_log2 m (read_at_of m i)) (reading (read_at_of m i).addr (read_at_of m i).data_len) (read_at_of m i).data_len (related f) (flip_flop_of f) (output_slice m i output) k).entries
  unfolding unmapped_to unmapped ◌>>=◌ ◌>>◌ done
  to_entries k = rw append-nil

  to_value : (k : ℕ) → (unmapped_to m i output f room k).value ≡ sets room (output_start m i) (up_from k (read_at_of m i).data_len)
  unfolding unmapped_to ◌>>=◌ ◌>>◌ done add_void_of request
  to_value k = refl

  to_run : (l : Lent) → (read_at_of m i).data_len ≤ max_merge → run (port_trace m i output f) l ≡ run (unmapped_to m i output f room) l
  unfolding run unmapped_if
  to_run l h = rw (le-ltb max_merge (read_at_of m i).data_len h) (ap (emit l) (sym (to_entries l.state.next)))

  of_many : (l : Lent) → max_merge < (read_at_of m i).data_len → Gave (unmapped_of (some f) m i output room) l l room
  unfolding unmapped_of
  of_many l h = rw (lt-ltb max_merge (read_at_of m i).data_len h) (gave_done room l)

  of_few : (l l1 : Lent) (v : Value) → (read_at_of m i).data_len ≤ max_merge → Gave (unmapped_to m i output f room) l l1 v → Gave (unmapped_of (some f) m i output room) l l1 v
  unfolding unmapped_of
  of_few l l1 v h g = rw (le-ltb max_merge (read_at_of m i).data_len h) g

  pub clocked-many : (n : ℕ) (l : Lent) → n ≡ (read_at_of m i).data_len → max_merge < n → Gave (unmapped_of (some f) m i output room) l l room
  clocked-many n l e h = of_many l (omega arith)

  pub clocked_few : (n last start : ℕ) (l l1 : Lent) (room' : Value) → n ≡ (read_at_of m i).data_len → n ≤ max_merge → l1 ≡ run (port_trace m i output f) l
      → (is_over l1.state ≡ false → last ≡ l.state.next + n) → start ≡ output_start m i → room' ≡ sets room start (up_from l.state.next (last - l.state.next))
      → Gave (unmapped_of (some f) m i output room) l l1 room'
  clocked_few n last start l l1 room' e h q z es er =
      let b : (read_at_of m i).data_len ≤ max_merge = omega arith in
      of_few l l1 room' b (record {
        ran = q ∙ to_run l b;
        value = λ o.
            let d : last - l.state.next ≡ (read_at_of m i).data_len = omega (arith, z o) in
            er ∙ (λ k. sets room (es k) (up_from l.state.next (d k))) ∙ sym (to_value l.state.next);
      })

  -- by what the view has of it
  pub at_some : (l l1 : Lent) (v : Value) → (read_at_of m i).flip_flop ≡ some f → Gave (unmapped_of (some f) m i output room) l l1 v → Gave (unmapped_at m i output room) l l1 v
  unfolding unmapped_at
  at_some l l1 v e g = rw e g

pub at_none : (m : Mem) (i : ℕ) (output room : Value) (l : Lent) → (read_at_of m i).flip_flop ≡ none → Gave (unmapped_at m i output room) l l room
unfolding unmapped_at unmapped_of
at_none m i output room l e = rw e (gave_done room l)
