-- The struct of an answer that changes a memory says what the library's answer says.
use mathlib.Core.Path.{◌≡◌, refl, sym, ap, ◌∙◌}
use mathlib.Core.Bool.{Bool}
use Prim.Native.Nat.{ℕ}
use mathlib.Core.List.{List}
use lib.ListN.{length}
use Rattle.std.specs.Prelude.{Result, Ok, Err}
use Rattle.lists.proofs.Choice.{leaves_refused, leaves_accepted}
use Rattle.rules.specs.declared.numbers.Refusal.{Refusal}
use Rattle.rules.specs.Refusal.{number}
use Rattle.rules.proofs.Answers.{number_nonzero, answer_refused, answer_accepted}
use Rattle.log_entries.specs.declared.LogState.{LogState}
use Rattle.log_entries.specs.View.{state_of}
use Rattle.net_memory.specs.declared.Memory.{Memory as MachineMemory}
use Rattle.net_memory.specs.View.{memory_of}
use Rattle.port_unmap.specs.declared.Driven.{Driven as MachineDriven}
use Rattle.port_unmap.specs.Call.{unclocking, driven_of, NewStruct}
use Rattle.port_reset.specs.Call.{ResetStruct}
use Rattle.port_emulate.specs.Delays.{Emulated}
use Rattle.c_memory.specs.declared.Memory.{Memory}
use Rattle.c_memory.specs.View.{given_memory, memory_struct}
use Rattle.c_memory.proofs.Back.{memory_back}
use Rattle.c_port.specs.View.{driven_struct, driven_by, NewMemory, NewTrits, NewNets}

-- of a call on m and st
module _ (m : Memory) (st : LogState) where
  pub said : (a : Result MachineDriven Refusal) (nets trits output log : List ℕ)
      → driven_by (driven_struct m st a) nets trits output log ≡ driven_of (given_memory m) a nets trits output log
  said (Ok d) nets trits output log =
      λ i. record { answer = answer_accepted 0 (state_of d.state) refl i; log = log; memory = memory_of (memory_back d.memory i) nets trits; output = output }
  said (Err e) nets trits output log =
      λ i. record { answer = answer_refused (number e) (state_of st) (number_nonzero e) i; log = log; memory = memory_of (given_memory m) nets trits; output = output }

  new_ok : (w : MachineMemory) (d : MachineDriven) → d.memory ≡ w → NewMemory m st w (driven_struct m st (Ok d))
  new_ok w d e = record { struct_is = ap memory_struct e ∙ sym (leaves_accepted 0 m (memory_struct w) refl); state_kept = λ z. absurd (z refl) }

  new_err : (w : MachineMemory) (e : Refusal) → NewMemory m st w (driven_struct m st (Err e))
  new_err w e = record { struct_is = sym (leaves_refused (number e) m (memory_struct w) (number_nonzero e)); state_kept = λ z. refl }

  -- a port without its flip-flop
  pub new_memory : (i : ℕ) (a : Result MachineDriven Refusal) → NewStruct (given_memory m) i a → NewMemory m st (unclocking (given_memory m) i) (driven_struct m st a)
  new_memory i (Ok d) s = new_ok _ d s
  new_memory i (Err e) s = new_err _ e

  -- reset, clear and initial value of a port unmapped
  pub new_trits : (i : ℕ) (incl : Bool) (trits trits' : List ℕ) (a : Result MachineDriven Refusal) → ResetStruct (given_memory m) i incl a trits trits'
      → NewTrits m st i incl trits trits' (driven_struct m st a)
  new_trits i incl trits trits' (Ok d) s = record { memory_is = new_ok _ d s.0; trits_are = s.1 ∙ sym (leaves_accepted 0 trits _ refl) }
  new_trits i incl trits trits' (Err e) s = record { memory_is = new_err _ e; trits_are = s ∙ sym (leaves_refused (number e) trits _ (number_nonzero e)) }

  -- an emulation
  pub new_nets : (nets nets' : List ℕ) (a : Result MachineDriven Refusal) → Emulated (given_memory m) nets nets' a → NewNets m st nets nets' (driven_struct m st a)
  new_nets nets nets' (Ok d) s = record { memory_is = λ x y. new_ok _ d (s.0 x y); nets_kept = λ z. absurd (z refl); size = s.1 }
  new_nets nets nets' (Err e) s = record { memory_is = λ x y. new_err _ e; nets_kept = λ z. s; size = ap length s }
