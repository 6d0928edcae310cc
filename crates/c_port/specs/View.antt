-- The struct of a library's answer, what a struct says of a call, and the memory after it.
use Rattle.std.specs.Prelude.{◌≡◌, ◌≢◌, ℕ, Bool, List, length, Result, Ok, Err}
use Rattle.lists.specs.Choice.{leaves}
use Rattle.rules.specs.Answers as rules
use Rattle.rules.specs.Refusal.{number}
use Rattle.rules.specs.declared.numbers.Refusal.{Refusal}
use Rattle.log_entries.specs.declared.LogState.{LogState}
use Rattle.log_entries.specs.View.{state_of}
use Rattle.net_memory.specs.declared.Memory.{Memory as MachineMemory}
use Rattle.net_memory.specs.View.{read_port, memory_of}
use Rattle.port_unmap.specs.declared.Driven.{Driven as MachineDriven}
use Rattle.port_unreset.specs.Struct.{struct_after, trits_after}
use Rattle.port_settle.specs.Settled.{is_read, settled_memory}
use Rattle.c_memory.specs.declared.Memory.{Memory}
use Rattle.c_memory.specs.View.{given_memory, memory_struct}
use Rattle.c_port.specs.declared.Driven.{Driven}

-- the struct of an answer to a call on m and st, which a refused call gives back
abbrev pub driven_struct : Memory → LogState → Result MachineDriven Refusal → Driven
driven_struct m st (Ok d) = record { number = 0; memory = memory_struct d.memory; state = d.state }
driven_struct m st (Err e) = record { number = number e; memory = m; state = st }

-- what a struct says, and what the call left of the memory: the arrays are those after the call
abbrev pub driven_by : Driven → List ℕ → List ℕ → List ℕ → List ℕ → rules.Driven
driven_by r nets trits output log = record {
  answer = rules.answer_of r.number (state_of r.state);
  log = log;
  memory = memory_of (given_memory r.memory) nets trits;
  output = output;
}

-- the struct itself: that of the library's memory w; a refused call gives memory and state back as they were
pub record NewMemory (m : Memory) (st : LogState) (w : MachineMemory) (r : Driven) : Type 0 where
  pub struct_is : r.memory ≡ leaves r.number m (memory_struct w)
  pub state_kept : r.number ≢ 0 → r.state ≡ st

-- after reset, clear and initial value of port i are unmapped: the struct, and the trits themselves, which a refused call leaves as they were
pub record NewTrits (m : Memory) (st : LogState) (i : ℕ) (incl : Bool) (trits trits' : List ℕ) (r : Driven) : Type 0 where
  pub memory_is : NewMemory m st (struct_after (read_port (given_memory m) i).flip_flop (given_memory m) trits i incl) r
  pub trits_are : trits' ≡ leaves r.number trits (trits_after (read_port (given_memory m) i).flip_flop (given_memory m) trits i incl)

-- after an emulation: the struct, and the nets themselves, which a refused call leaves as they were
pub record NewNets (m : Memory) (st : LogState) (nets nets' : List ℕ) (r : Driven) : Type 0 where
  pub memory_is : (x y : List ℕ) → NewMemory m st (settled_memory (is_read (given_memory m) x y) (given_memory m)) r
  pub nets_kept : r.number ≢ 0 → nets' ≡ nets
  pub size : length nets' ≡ length nets
