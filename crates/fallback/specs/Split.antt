-- What the split of a fallback's memory is given, and what it leaves.
use Rattle.std.specs.Prelude.{◌≡◌, ◌≢◌, ℕ, ◌≤◌, true, List, [], length, take}
use Rattle.std.proofs.lemmas.List.Edits.{sets}
use Rattle.rules.specs.Limits.{max_bits, max_ports}
use Rattle.rules.specs.Value.{Value, good_value}
use Rattle.rules.specs.Cell.{Mem, Plan, output_len}
use Rattle.rules.specs.Geometry.{layout_of}
use Rattle.rules.specs.Image.{image_size}
use Rattle.rules.specs.Swizzle.{swizzle, shared_nets}
use Rattle.rules.specs.Log.{Trace, ◌>>=◌}
use Rattle.rules.specs.Fallback.{fallback_plan, lower_rows}
use Rattle.rules.specs.Refusals as rules
use Rattle.rules.specs.Refusals.{swizzle_refusal, lower_fallback_number}
use Rattle.log_entries.specs.declared.LogState.{LogState}
use Rattle.log_entries.specs.Emission.{run}
use Rattle.log_entries.specs.View.{state_of, lent}
use Rattle.net_memory.specs.declared.Memory.{Memory}
use Rattle.net_memory.specs.View.{memory_of}
use Rattle.net_memory.specs.Given.{given_of}
use Rattle.swizzle_result.specs.declared.WideMemory.{WideMemory}
use Rattle.swizzle_result.specs.View.{results_of}
use Rattle.swizzle_call.specs.Told.{Told}
use Rattle.swizzle_call.specs.Acted.{HoldsPorts}
use Rattle.fallback_bare.specs.Bare.{bare_of}
use Rattle.fallback_rows.proofs.Whole.{Flat}

-- the split of a memory without flip-flops, and each resulting memory as a register
unfoldable pub split_lowered : Mem → Value → Trace Unit
split_lowered b outs = swizzle b outs (fallback_plan b) >>= lower_rows

-- the rooms: an image and pieces of as many bits as a memory has, the lent tables, and no trits
abbrev pub rooms : List ℕ → rules.SwizzleRooms
rooms tables = record { image = max_bits; nets = length tables; trits = 0; scratch = max_bits }

-- no number refuses the split
abbrev pub Passes : Memory → List ℕ → List ℕ → List ℕ → LogState → List ℕ → List ℕ → Type 0
Passes b nets trits outs st log tables =
    swizzle_refusal (rooms tables) (length log) (state_of st) (given_of b nets trits) outs (fallback_plan (memory_of b nets trits)) ≡ 0

-- the log, the tables, and the memories that struct, tables and image hold
pub record SplitDone (b : Mem) (outs : Value) (p : Plan) (st : LogState) (log tables : List ℕ) (x : Told) (log' tables' image' : List ℕ) : Type 0 where
  pub passed : x.refusal ≡ 0
  pub log_is : lent x.made.state log' ≡ run (swizzle b outs p) (lent st log)
  pub tables_are : tables' ≡ sets tables 0 (shared_nets b (swizzle b outs p st.next).value)
  pub results_are : results_of x.made.memory (take x.made.nets_at tables') [] (take (image_size (layout_of b p)) image') ≡ (swizzle b outs p st.next).value
  pub ports_held : HoldsPorts b outs p st.next x.made.memory

-- a struct without memories, or of memories with one row each
pub data Prepared (g : WideMemory) (nets image : List ℕ) : Type 0 where
  Empty : g.mems ≡ 0 → Prepared g nets image
  Rows : (length g.write_ports ≡ max_ports → length g.read_ports ≡ max_ports → Flat g nets image) → Prepared g nets image

-- the memory passes the numbers of a fallback, for outputs and a next free net of its own, and the bare one those of the split
pub record Ready (m : Memory) (nets trits outs : List ℕ) (st : LogState) (log tables : List ℕ) : Type 0 where
  pub next : ℕ
  pub output : Value
  pub number : lower_fallback_number next (given_of m nets trits) output ≡ 0
  pub later : next ≤ st.next
  pub width_some : m.width ≢ 0
  pub outs_long : length outs ≡ output_len (memory_of m nets trits)
  pub outs_good : good_value st.next outs ≡ true
  pub passes : Passes (bare_of m) nets trits outs st log tables
