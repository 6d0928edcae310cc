-- `unmap_read_dff` on a machine's memory: the struct after it, and its whole answer as the rules have it.
use Rattle.std.specs.Prelude.{◌≡◌, ℕ, List, length, None, Result, Ok, Err, ⊤}
use Rattle.rules.specs.Ports.{Driving}
use Rattle.rules.specs.Refusals.{Rooms}
use Rattle.rules.specs.Refusal.{answer_by}
use Rattle.rules.specs.declared.numbers.Refusal.{Refusal}
use Rattle.rules.specs.Answers as rules
use Rattle.log_entries.specs.View.{state_of}
use Rattle.net_memory.specs.declared.MemoryReadPort.{MemoryReadPort}
use Rattle.net_memory.specs.declared.Memory.{Memory}
use Rattle.net_memory.specs.View.{memory_of, read_port, with_read_port}
use Rattle.port_unmap.specs.declared.Driven.{Driven}

-- a port without its flip-flop, and a memory whose port i is so
abbrev pub without : MemoryReadPort → MemoryReadPort
without p = record {
  addr_len = p.addr_len;
  data_len = p.data_len;
  clear_len = p.clear_len;
  reset_len = p.reset_len;
  init_len = p.init_len;
  relations_len = p.relations_len;
  relations = p.relations;
  flip_flop = None;
}

abbrev pub unclocking : Memory → ℕ → Memory
unclocking m i = with_read_port m i (without (read_port m i))

-- a memory and the outputs that it drives, before the call
abbrev pub driving : Memory → List ℕ → List ℕ → List ℕ → Driving
driving m nets trits output = record { memory = memory_of m nets trits; output = output }

-- memory and outputs change in the arrays that they are lent in
abbrev pub rooms_of : List ℕ → List ℕ → List ℕ → Rooms
rooms_of nets trits output = record { nets = length nets; trits = length trits; output = length output }

-- the struct after a call: a refused one leaves it as it was
abbrev pub memory_left : Memory → Result Driven Refusal → Memory
memory_left m (Ok d) = d.memory
memory_left m (Err e) = m

-- the machine's answer, and what it left of a memory: the arrays are those after the call
abbrev pub driven_of : Memory → Result Driven Refusal → List ℕ → List ℕ → List ℕ → List ℕ → rules.Driven
driven_of m r nets trits output log = record {
  answer = answer_by (λ (d : Driven). state_of d.state) r;
  log = log;
  memory = memory_of (memory_left m r) nets trits;
  output = output;
}

-- the struct of an accepted call: nothing but the port's flip-flop is gone
abbrev pub NewStruct : Memory → ℕ → Result Driven Refusal → Type 0
NewStruct m i (Ok d) = d.memory ≡ unclocking m i
NewStruct m i (Err e) = ⊤
