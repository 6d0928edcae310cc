-- The write ports delayed one after the other, by the test of each and by whether the image is all X.
use Rattle.std.specs.Prelude.{◌≡◌, ℕ, suc, ◌<◌, ◌≤◌, min, Bool, List, [], ◌∷◌, length, get_or, set, Result, Ok, Err}
use Rattle.lists.specs.Choice.{when◌then◌else◌, ◌or_else◌}
use Rattle.lists.specs.Lists.{any}
use Rattle.rules.specs.Limits.{max_ports}
use Rattle.rules.specs.Cell.{WritePort}
use Rattle.rules.specs.Log.{Trace, ◌>>=◌, done}
use Rattle.rules.specs.Ports.{delayed}
use Rattle.rules.specs.Conditions.{unclocked}
use Rattle.rules.specs.Refusals.{Rooms, emulate_number}
use Rattle.rules.specs.declared.numbers.Refusal.{Refusal}
use Rattle.net_memory.specs.declared.MemoryWritePort.{MemoryWritePort}
use Rattle.net_memory.specs.declared.Memory.{Memory}
use Rattle.net_memory.specs.Given.{given_of}
use Rattle.net_memory.specs.View.{no_write_port, write_port, write_start, reads_start, writes_of, memory_of, write_by}
use Rattle.log_entries.specs.Emission.{Lent}
use Rattle.port_transparency.specs.Gave.{Gave}
use Rattle.port_delay.specs.Delay.{cut, delayed_if, Delayable}
use Rattle.port_settle.specs.Settled.{is_read, turned_by, turned_from, settled_memory}
use Rattle.port_unmap.specs.declared.Driven.{Driven}

-- one port by this test; q is what its scratch holds
abbrev pub delayed_by : Bool → Bool → WritePort → WritePort → Trace WritePort
delayed_by b allX p q = when b then delayed_if allX p q else done p

abbrev pub cut_by : Bool → WritePort → List ℕ → List ℕ → List ℕ → WritePort
cut_by b p a d k = when b then cut p a d k else p

-- all of them, from port j on
unfoldable pub delays : (ℕ → Bool) → Bool → ℕ → List WritePort → Trace (List WritePort)
delays is allX j [] = done []
delays is allX j (p ∷ ps) = do
  q ← (when is j then delayed allX p else done p)
  qs ← delays is allX (suc j) ps
  done (q ∷ qs)

-- what stands past the last write port
abbrev pub no_write_of : WritePort
no_write_of = write_by no_write_port [] []

-- the nets of each port fit the scratch
abbrev pub Fitting : List WritePort → Type 0
Fitting ws = (i : ℕ) → i < length ws → Delayable (length (get_or ws i no_write_of).addr) (length (get_or ws i no_write_of).bits) (length (get_or ws i no_write_of).mask)

-- the arrays that a memory is lent in
abbrev pub rooms_of : List ℕ → List ℕ → Rooms
rooms_of nets trits = record { nets = length nets; trits = length trits; output = 0 }

-- ---- the nets in place
-- write port j of a memory
abbrev pub port_at : Memory → List ℕ → ℕ → WritePort
port_at m nets j = get_or (writes_of m nets) j no_write_of

-- a write port that is there, and fits
pub record PortReady (m : Memory) (nets : List ℕ) (j at : ℕ) (p : MemoryWritePort) : Type 0 where
  pub there : j < min max_ports m.write_count
  pub port_is : p ≡ write_port m j
  pub at_is : at ≡ write_start m j
  pub low : at ≤ 0x1800000000
  pub room : reads_start m ≤ length nets
  pub fit : Delayable (length (port_at m nets j).addr) (length (port_at m nets j).bits) (length (port_at m nets j).mask)

-- port j is delayed where a read port reads before it writes: its entries in the log, and its nets among the others, which stay
pub record PortDone (m : Memory) (allX : Bool) (j : ℕ) (nets nets' : List ℕ) (l l1 : Lent) : Type 0 where
  pub gave : (x y : List ℕ) → Gave (when is_read m x y j then delayed allX (port_at m nets j) else done (port_at m nets j)) l l1 (turned_by (is_read m x y j) (port_at m nets' j))
  pub kept : (trits : List ℕ)
      → memory_of m nets' trits
      ≡ record { depth = (memory_of m nets trits).depth; width = (memory_of m nets trits).width; init = (memory_of m nets trits).init; writes = set (memory_of m nets trits).writes j (port_at m nets' j); reads = (memory_of m nets trits).reads }
  pub size : length nets' ≡ length nets

-- all ports in turn; the read ports stay
pub record PortsDone (m : Memory) (allX : Bool) (nets nets' : List ℕ) (l l1 : Lent) : Type 0 where
  pub gave : (x y : List ℕ) → Gave (delays (is_read m x y) allX 0 (writes_of m nets)) l l1 (turned_from (is_read m x y) 0 (writes_of m nets'))
  pub kept : (trits : List ℕ) → (memory_of m nets' trits).reads ≡ (memory_of m nets trits).reads
  pub size : length nets' ≡ length nets

-- ---- the call
-- 1 to 4, 12, 13 and 22
abbrev pub input_number : ℕ → Memory → List ℕ → List ℕ → ℕ
input_number next m nets trits = emulate_number next (given_of m nets trits) or_else (when any unclocked (memory_of m nets trits).reads then 22 else 0)

-- the struct of an accepted call, and the nets themselves; a refused call leaves the nets as they were
abbrev pub Emulated : Memory → List ℕ → List ℕ → Result Driven Refusal → Type 0
Emulated m nets nets' (Ok d) = ((x y : List ℕ) → d.memory ≡ settled_memory (is_read m x y) m) × (length nets' ≡ length nets)
Emulated m nets nets' (Err e) = nets' ≡ nets
