-- How the number, the struct, the outputs, the log and the state join to the whole answer.
use mathlib.Core.Path.{◌≡◌, refl, sym, ap, ◌∙◌}
use Prim.Native.Nat.{ℕ, ◌+◌, ◌-◌, ◌<◌, min}
use native.Mathlib.Omega.{arith}
use mathlib.Core.Bool.{false}
use mathlib.Core.Option.{none}
use mathlib.Core.List.{List}
use lib.ListN.{length}
use lib.Seq.{sets}
use Rattle.lists.specs.Lists.{part, up_from}
use Rattle.rules.specs.Limits.{max_ports}
use Rattle.rules.specs.Value.{Value}
use Rattle.rules.specs.Cell.{ReadFlipFlop, ReadPort, Mem, read_at_of, output_start, with_reads, with_flip_flop, with_output}
use Rattle.rules.specs.Log.{Made, Trace, ◌>>=◌, ◌>>◌, done, request, add_void_of, LogState, state_after, log_after}
use Rattle.rules.specs.Ports.{Driving, unmap_dff}
use Rattle.rules.specs.Refusals.{log_refusal}
use Rattle.rules.specs.Answers as rules
use Rattle.rules.specs.Answers.{Refused, Accepted, driven}
use Rattle.rules.specs.Refusal.{number}
use Rattle.rules.specs.declared.numbers.Refusal.{Refusal}
use Rattle.rules.proofs.Answers.{answer_err, answer_ok, left_err, left_ok}
use Rattle.std.specs.Prelude.{Ok, Err}
use Rattle.net_flip_flop.specs.declared.Controls.{Controls}
use Rattle.log_entries.specs.Emission.{Lent, is_over, run}
use Rattle.log_entries.specs.View.{state_of, lent}
use Rattle.log_entries.specs.declared.LogState as machine
use Rattle.log_entries.proofs.Emission.{accepted_run, accepted_held}
use Rattle.net_memory.specs.declared.Memory.{Memory}
use Rattle.net_memory.specs.View.{memory_of, read_port, read_by, read_start, trit_start, addr_size, trit_size}
use Rattle.net_memory.proofs.Ports.{read_of_view, reads_at}
use Rattle.net_memory.proofs.Changes.{with_read, read_changed}
use Rattle.port_overlay.proofs.Bounds.{chains_unmap}
use Rattle.port_unmap.specs.Ready.{own_flip_flop, Ready}
use Rattle.port_unmap.specs.Call.{without, unclocking, driving, driven_of}
use Rattle.port_unmap.proofs.Port.{data_is}

-- ---- the two ways an answer is made
module _ (N : ℕ) (before : Mem) (output log : List ℕ) (s : LogState) (t : Trace Driving) where
  abbrev x : Made Driving
  x = t s.next

  abbrev whole : rules.Driven
  whole = driven N log s (record { memory = before; output = output }) t

  pub driven_err : (e : Refusal) → number e ≡ N → record { answer = Refused (number e); log = log; memory = before; output = output } ≡ whole
  unfolding driven
  driven_err e h =
      λ i. record {
        answer = answer_err e N (state_after s x) h i;
        log = left_err e N log (log_after log s x) h i;
        memory = left_err e N before x.value.memory h i;
        output = left_err e N output x.value.output h i;
      }

  pub driven_ok : (after : Mem) (output' log' : List ℕ) (s' : LogState) → 0 ≡ N → after ≡ x.value.memory → output' ≡ x.value.output
      → log' ≡ log_after log s x → s' ≡ state_after s x
      → record { answer = Accepted s'; log = log'; memory = after; output = output' } ≡ whole
  unfolding driven
  driven_ok after output' log' s' z em eo el es =
      λ i. record {
        answer = answer_ok N (state_after s x) s' z es i;
        log = (el ∙ left_ok N log (log_after log s x) z) i;
        memory = (em ∙ left_ok N before x.value.memory z) i;
        output = (eo ∙ left_ok N output x.value.output z) i;
      }

-- ---- the values of an unmapping
pub unmap_memory : (m : Mem) (i : ℕ) (output : Value) (f : ReadFlipFlop) (k : ℕ) → (unmap_dff m i output f k).value.memory ≡ with_flip_flop m i none
unfolding unmap_dff ◌>>=◌ ◌>>◌ done
unmap_memory m i output f k = refl

pub unmap_output : (m : Mem) (i : ℕ) (output : Value) (f : ReadFlipFlop) (k : ℕ) → (unmap_dff m i output f k).value.output ≡ sets output (output_start m i) (up_from k (read_at_of m i).data_len)
unfolding unmap_dff ◌>>=◌ ◌>>◌ done add_void_of request with_output
unmap_output m i output f k = refl

with_is : (v : Mem) (i : ℕ) (r : ReadPort) → r ≡ record { addr = (read_at_of v i).addr; data_len = (read_at_of v i).data_len; flip_flop = none } → with_read v i r ≡ with_flip_flop v i none
unfolding with_flip_flop with_reads
with_is v i r e = ap (with_read v i) e

-- the view of the struct without the flip-flop
pub unclock_view : (m : Memory) (nets trits : List ℕ) (i : ℕ) → i < min max_ports m.read_count → memory_of (unclocking m i) nets trits ≡ with_flip_flop (memory_of m nets trits) i none
unclock_view m nets trits i h =
    let p = read_port m i in
    let M = memory_of m nets trits in
    let a : read_at_of M i ≡ read_by p (part (read_start m i) (addr_size p) nets) (part (trit_start m i) (trit_size p) trits) = read_of_view m nets trits i ∙ reads_at m nets trits i h in
    read_changed m i (without p) nets nets trits trits h refl refl refl refl refl refl
    ∙ with_is M i (read_by (without p) (part (read_start m i) (addr_size p) nets) (part (trit_start m i) (trit_size p) trits))
    (λ k. record { addr = (sym a k).addr; data_len = (sym a k).data_len; flip_flop = none })

-- ---- the whole
module _ (m : Memory) (nets trits : List ℕ) (i : ℕ) (c : Controls) (g : Ready m nets trits i c) (output : List ℕ) (log : List ℕ) (st : machine.LogState) where
  abbrev M : Mem
  M = memory_of m nets trits

  abbrev T : Trace Driving
  T = unmap_dff M i output (own_flip_flop m trits i c)

  pub clocked_err : (e : Refusal) → number e ≡ log_refusal (length log) (state_of st) T
      → driven_of m (Err e) nets trits output log ≡ driven (log_refusal (length log) (state_of st) T) log (state_of st) (driving m nets trits output) T
  clocked_err e h = driven_err _ M output log (state_of st) T e h

  pub clocked_ok : (last start : ℕ) (m' : Memory) (st' : machine.LogState) (output' log' : List ℕ) → 0 ≡ log_refusal (length log) (state_of st) T
      → lent st' log' ≡ run T (lent st log) → (is_over (state_of st') ≡ false → last ≡ st.next + (read_port m i).data_len) → start ≡ output_start M i
      → output' ≡ sets output start (up_from st.next (last - st.next)) → m' ≡ unclocking m i
      → driven_of m (Ok (record { memory = m'; state = st' })) nets trits output' log' ≡ driven (log_refusal (length log) (state_of st) T) log (state_of st) (driving m nets trits output) T
  clocked_ok last start m' st' output' log' e r l es eo em =
      let y = sym e in
      let ch = chains_unmap M i output (own_flip_flop m trits i c) in
      let q = r ∙ accepted_run T (length log) (state_of st) log ch y in
      let o = ap (λ (x : Lent). is_over x.state) r ∙ accepted_held T (length log) (state_of st) log ch y in
      let d : last - st.next ≡ (read_at_of M i).data_len = omega (arith, l o, data_is m nets trits i c g.port) in
      driven_ok _ M output log (state_of st) T (memory_of m' nets trits) output' log' (state_of st') e
      ((λ k. memory_of (em k) nets trits) ∙ unclock_view m nets trits i g.port.there ∙ sym (unmap_memory M i output (own_flip_flop m trits i c) st.next))
      (eo ∙ (λ k. sets output (es k) (up_from st.next (d k))) ∙ sym (unmap_output M i output (own_flip_flop m trits i c) st.next))
      (ap (λ (x : Lent). x.log) q)
      (ap (λ (x : Lent). x.state) q)
