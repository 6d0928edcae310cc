-- `transparency_mux` on a machine's memory: the overlay, the whole answer as the rules have it, and what numbers 1 to 4, 14 and 15 leave true.
use Rattle.std.specs.Prelude.{◌≡◌, ℕ, ◌<◌, ◌≤◌, min, Bool, true, false, List, [], length, take, Result, Option, None, Some, is_some}
use Rattle.std.specs.Borrow.{Bor}
use Rattle.std.proofs.Math.Option.{none, some}
use Rattle.std.proofs.lemmas.List.Edits.{sets}
use Rattle.lists.specs.Choice.{when◌then◌else◌, leaves}
use Rattle.lists.specs.Lists.{any}
use Rattle.rules.specs.Limits.{max_ports}
use Rattle.rules.specs.Value.{Value}
use Rattle.rules.specs.Cell.{read_at_of, or_empty}
use Rattle.rules.specs.Log.{Trace, LogState}
use Rattle.rules.specs.Conditions.{bad_write_shape, bad_read_shape, short_pair}
use Rattle.rules.specs.Ports.{Overlay}
use Rattle.rules.specs.Answers.{Overlaid, logged}
use Rattle.rules.specs.declared.numbers.Refusal.{Refusal}
use Rattle.log_entries.specs.declared.LogState as machine
use Rattle.log_requests.specs.Answers.{logged_of}
use Rattle.net_memory.specs.declared.Memory.{Memory}
use Rattle.net_memory.specs.View.{memory_of, read_port}
use Rattle.port_mux.specs.declared.Asked.{Asked}
use Rattle.port_mux.specs.declared.Pair.{Pair}

-- data, and a mask where one is wanted
abbrev pub overlay_of : Bool → Value → Value → Overlay
overlay_of masked bits mask = record { bits = bits; mask = when masked then some mask else none }

-- the mask that is handed
abbrev pub given_mask : Option (Bor Value) → Value
given_mask None = []
given_mask (Some k) = k.now

-- data and mask as they are handed
abbrev pub asked_of : Asked → Overlay
asked_of o = overlay_of (is_some o.mask) o.bits.now (given_mask o.mask)

-- a value where it is wanted
abbrev pub wanted_of : Bool → Value → Value
wanted_of wanted v = when wanted then v else []

-- the machine's answer: the first n nets of the rooms are the overlay after
abbrev pub overlaid_of : Bool → ℕ → Result machine.LogState Refusal → List ℕ → List ℕ → List ℕ → Overlaid
overlaid_of masked n r log bits mask = record { logged = logged_of (overlay_of masked (take n bits) (take n mask)) r log; bits = bits; mask = mask }

-- the answer of a call by its number and its trace
unfoldable pub overlaid : ℕ → List ℕ → List ℕ → List ℕ → LogState → Trace Overlay → Overlaid
overlaid n bits mask log s t = record {
  logged = logged n log s t;
  bits = leaves n bits (sets bits 0 (t s.next).value.bits);
  mask = leaves n mask (sets mask 0 (or_empty (t s.next).value.mask));
}

pub record Paired (m : Memory) (nets trits : List ℕ) (i j : ℕ) (masked : Bool) (bits mask : List ℕ) : Type 0 where
  pub there : i < min max_ports m.read_count
  pub written : j < length (memory_of m nets trits).writes
  pub thin : m.width ≤ 128
  pub writes_good : any (bad_write_shape (memory_of m nets trits)) (memory_of m nets trits).writes ≡ false
  pub read_good : bad_read_shape (memory_of m nets trits) (read_at_of (memory_of m nets trits) i) ≡ false
  pub enough : short_pair (memory_of m nets trits) (read_at_of (memory_of m nets trits) i) j ≡ false
  pub bits_like : length bits ≡ (read_port m i).data_len
  pub mask_like : masked ≡ true → length mask ≡ (read_port m i).data_len

-- the same of the struct that holds them
abbrev pub PairedIn : Pair → Type 0
PairedIn p = Paired p.given.memory p.given.nets.now p.given.trits.now p.i p.j (is_some p.asked.mask) p.asked.bits.now (given_mask p.asked.mask)
