-- How the number, the struct, the trits, the outputs, the log and the state join to the answer of a port that is unmapped.
use mathlib.Core.Path.{◌≡◌, refl, sym, ap, ◌∙◌, subst}
use Prim.Native.Nat.{ℕ, ◌-◌, ◌≤◌}
use native.Mathlib.Omega.{arith}
use mathlib.Core.Bool.{Bool, false}
use mathlib.Core.Option.{some}
use mathlib.Core.List.{List}
use lib.ListN.{length}
use lib.Seq.{sets, length-sets}
use Rattle.lists.specs.Lists.{up_from}
use Rattle.rules.specs.Value.{Value}
use Rattle.rules.specs.Cell.{ReadFlipFlop, Mem, read_at_of, output_start, with_flip_flop, with_output, flat_nets, flat_trits}
use Rattle.rules.specs.Log.{Trace, ◌>>=◌, ◌>>◌, done}
use Rattle.rules.specs.Ports.{Driving, unmapped_reset, unmap_reset}
use Rattle.rules.specs.Refusals.{log_refusal, driving_refusal}
use Rattle.rules.specs.Answers.{driven}
use Rattle.rules.specs.Refusal.{number}
use Rattle.rules.specs.declared.numbers.Refusal.{Refusal}
use Rattle.std.specs.Prelude.{Ok, Err}
use Rattle.net_flip_flop.specs.declared.Controls.{Controls}
use Rattle.log_entries.specs.Emission.{Lent, is_over, run}
use Rattle.log_entries.specs.View.{state_of, lent}
use Rattle.log_entries.specs.declared.LogState as machine
use Rattle.log_entries.proofs.Emission.{accepted_run, accepted_held}
use Rattle.net_memory.specs.declared.Memory.{Memory}
use Rattle.net_memory.specs.View.{memory_of}
use Rattle.net_memory.proofs.Fits.{nets_fit, trits_fit}
use Rattle.port_unmap.proofs.Rooms.{enough}
use Rattle.port_unmap.specs.Ready.{own_flip_flop}
use Rattle.port_unmap.specs.Call.{driving, rooms_of, driven_of}
use Rattle.port_unmap.proofs.Act.{driven_err, driven_ok}
use Rattle.port_reset.specs.Ready.{ResetReady}
use Rattle.port_unreset.specs.Struct.{unreset, blanked}
use Rattle.port_reset.proofs.Bounds.{chains_reset}
use Rattle.port_unreset.proofs.View.{reset_view, blank_length}

-- ---- the values of an unmapping
reset_memory : (v : Mem) (i : ℕ) (incl : Bool) (output : Value) (f : ReadFlipFlop) (k : ℕ) → (unmap_reset v i incl output f k).value.memory ≡ with_flip_flop v i (some (unmapped_reset incl (read_at_of v i).data_len f))
unfolding unmap_reset ◌>>=◌ ◌>>◌ done
reset_memory v i incl output f k = refl

out_is : (v : Mem) (i : ℕ) (w output : Value) → sets output (output_start v i) w ≡ with_output v i w output
unfolding with_output
out_is v i w output = refl

long_out : (v : Mem) (i : ℕ) (w output : Value) → length (with_output v i w output) ≤ length output
unfolding with_output
long_out v i w output = omega (arith, length-sets output (output_start v i) w)

out_long : (v : Mem) (i : ℕ) (incl : Bool) (output : Value) (f : ReadFlipFlop) (k : ℕ) → length (unmap_reset v i incl output f k).value.output ≤ length output
unfolding unmap_reset ◌>>=◌ ◌>>◌ done
out_long v i incl output f k = long_out v i _ output

module _ (m : Memory) (nets trits : List ℕ) (i : ℕ) (c : Controls) (incl : Bool) (g : ResetReady m nets trits i c incl) (output : List ℕ) where
  abbrev M : Mem
  M = memory_of m nets trits

  abbrev T : Trace Driving
  T = unmap_reset M i incl output (own_flip_flop m trits i c)

  after_is : (k : ℕ) → memory_of (unreset m i c incl) nets (blanked m i trits) ≡ (T k).value.memory
  after_is k = reset_view m nets trits i c incl g.port.there g.own_good g.fits ∙ sym (reset_memory M i incl output (own_flip_flop m trits i c) k)

  -- the rooms are enough
  pub reset_fits : (k : ℕ) → driving_refusal (rooms_of nets trits output) (T k).value ≡ 0
  reset_fits k =
      enough (rooms_of nets trits output) (T k).value
      (subst (λ (v : Mem). length (flat_nets v) ≤ length nets) (after_is k) (nets_fit (unreset m i c incl) nets (blanked m i trits)))
      (subst (λ (v : Mem). length (flat_trits v) ≤ length trits) (after_is k) (both _ (trits_fit (unreset m i c incl) nets (blanked m i trits)) (blank_length m i trits)))
      (out_long M i incl output (own_flip_flop m trits i c) k)
    where
      both : (a : ℕ) {b d : ℕ} → a ≤ b → b ≤ d → a ≤ d
      both a p q = omega arith

  module _ (log : List ℕ) (st : machine.LogState) where
    pub clocked_err : (e : Refusal) → number e ≡ log_refusal (length log) (state_of st) T
        → driven_of m (Err e) nets trits output log ≡ driven (log_refusal (length log) (state_of st) T) log (state_of st) (driving m nets trits output) T
    clocked_err e h = driven_err _ M output log (state_of st) T e h

    pub clocked_ok : (first last start : ℕ) (m' : Memory) (st' : machine.LogState) (trits' output' log' : List ℕ) → 0 ≡ log_refusal (length log) (state_of st) T
        → lent st' log' ≡ run T (lent st log) → (is_over (state_of st') ≡ false → with_output M i (up_from first (last - first)) output ≡ (T st.next).value.output) → start ≡ output_start M i
        → output' ≡ sets output start (up_from first (last - first)) → trits' ≡ blanked m i trits → m' ≡ unreset m i c incl
        → driven_of m (Ok (record { memory = m'; state = st' })) nets trits' output' log' ≡ driven (log_refusal (length log) (state_of st) T) log (state_of st) (driving m nets trits output) T
    clocked_ok first last start m' st' trits' output' log' e r l es eo et em =
        let y = sym e in
        let ch = chains_reset M i incl output (own_flip_flop m trits i c) in
        let q = r ∙ accepted_run T (length log) (state_of st) log ch y in
        let o = ap (λ (x : Lent). is_over x.state) r ∙ accepted_held T (length log) (state_of st) log ch y in
        driven_ok _ M output log (state_of st) T (memory_of m' nets trits') output' log' (state_of st') e
        ((λ k. memory_of (em k) nets (et k)) ∙ after_is st.next)
        (eo ∙ (λ k. sets output (es k) (up_from first (last - first))) ∙ out_is M i (up_from first (last - first)) output ∙ l o)
        (ap (λ (x : Lent). x.log) q)
        (ap (λ (x : Lent). x.state) q)
