-- The structs of the rules' answers, and the memory after an extraction.
use Rattle.std.specs.Prelude.{◌≡◌, ℕ, List, length, Result, Ok, Err}
use Rattle.lists.specs.Choice.{leaves}
use Rattle.rules.specs.Cell.{flat_nets, flat_trits}
use Rattle.rules.specs.Answers as answers
use Rattle.net_memory.specs.View.{nets_total, trits_total}
use Rattle.rules.specs.declared.numbers.Refusal.{Refusal}
use Rattle.rules.specs.Refusal.{number}
use Rattle.net_memory.specs.declared.Memory.{Memory as MachineMemory}
use Rattle.port_extract.specs.Extract.{driving_of, with_ports, extraction_of}
use Rattle.c_memory.specs.declared.Memory.{Memory}
use Rattle.c_memory.specs.declared.Slice.{Slice}
use Rattle.c_memory.specs.declared.Extracted.{Extracted}
use Rattle.c_memory.specs.View.{given_memory, memory_struct, zero_memory}

-- a start and a length: 0 where the call is refused
abbrev pub slice_result : answers.Answer (ℕ × ℕ) → Slice
slice_result (answers.Refused n) = record { number = n; start = 0; size = 0 }
slice_result (answers.Accepted x) = record { number = 0; start = x.0; size = x.1 }

-- the struct of an extraction: all 0 where it is refused
abbrev pub extracted_struct : Result MachineMemory Refusal → Extracted
extracted_struct (Ok w) = record { number = 0; memory = memory_struct w }
extracted_struct (Err e) = record { number = number e; memory = zero_memory }

-- the answer that a struct and the rooms after the call are
abbrev pub extracted_of : Extracted → List ℕ → List ℕ → List ℕ → answers.Extracted
extracted_of r nets trits output = record {
  answer = answers.answer_of r.number (driving_of (given_memory r.memory) nets trits output);
  nets = nets;
  trits = trits;
  output = output;
}

-- the struct after the call, and how many places of the rooms its nets and trits take
pub record NewMemory (m : Memory) (nets trits list output : List ℕ) (r : Extracted) : Type 0 where
  pub struct_is : r.memory ≡ leaves r.number zero_memory (memory_struct (with_ports (given_memory m) list))
  pub nets_long : r.number ≡ 0 → nets_total (given_memory r.memory) ≡ length (flat_nets (extraction_of (given_memory m) nets trits list output).memory)
  pub trits_long : r.number ≡ 0 → trits_total (given_memory r.memory) ≡ length (flat_trits (extraction_of (given_memory m) nets trits list output).memory)
