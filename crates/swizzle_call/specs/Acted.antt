-- What a swizzle that no number refuses leaves, by its trace.
use Rattle.std.specs.Prelude.{◌≡◌, ◌≢◌, ℕ, List, map, length}
use Rattle.std.proofs.lemmas.List.Edits.{sets}
use Rattle.rules.specs.Value.{Value}
use Rattle.rules.specs.Cell.{Mem, Plan}
use Rattle.rules.specs.Log.{Trace}
use Rattle.rules.specs.Ports.{Driving}
use Rattle.rules.specs.Geometry.{Layout, layout_of}
use Rattle.rules.specs.Image.{layout}
use Rattle.rules.specs.Swizzle.{swizzle_writes, swizzle_reads, swizzle, shared_nets, shared_trits}
use Rattle.rules.specs.Refusals.{swizzle_refusal}
use Rattle.log_entries.specs.declared.LogState.{LogState}
use Rattle.log_entries.specs.View.{state_of}
use Rattle.log_entries.specs.Emission.{run}
use Rattle.net_memory.specs.declared.Memory.{Memory}
use Rattle.net_memory.specs.Given.{given_of}
use Rattle.swizzle_plan.specs.declared.MemorySwizzle.{MemorySwizzle}
use Rattle.swizzle_plan.specs.Calls.{plan_of}
use Rattle.swizzle_result.specs.declared.WideMemory.{WideMemory}
use Rattle.swizzle_result.specs.View.{results_of}
use Rattle.swizzle_result.specs.Held.{HeldWrite, HeldRead, Holds}
use Rattle.swizzle_reads.specs.declared.Reads.{Reads}
use Rattle.swizzle_reads.specs.Going.{Going}
use Rattle.swizzle_rows.specs.Rows.{no_memories}

-- no number refuses it, with these rooms and an image room of some length
pub record Passed (m : Memory) (nets trits output : List ℕ) (s : MemorySwizzle) (es ws rs : List ℕ) (st : LogState) (log to kinds scratch : List ℕ) : Type 0 where
  pub image : ℕ
  pub zero : swizzle_refusal (record { image = image; nets = length to; trits = length kinds; scratch = length scratch }) (length log) (state_of st) (given_of m nets trits) output (plan_of s es ws rs) ≡ 0

-- no part of the rooms is used yet, and there are no memories
pub record NoneYet (r : Reads) : Type 0 where
  pub nets_start : r.nets_at ≡ 0
  pub trits_start : r.trits_at ≡ 0
  pub memory_is : r.memory ≡ no_memories

-- the log, the rooms and how much of them is used, and the memories that the struct and the rooms hold; the rooms are the same lent ones
pub record Acted (m : Mem) (q : Layout) (t : Trace (List Driving)) (before after : Going) : Type 0 where
  pub log_is : after.lent ≡ run t before.lent
  pub nets_are : after.nets ≡ sets before.nets 0 (shared_nets m (t before.lent.state.next).value)
  pub nets_name_is : after.nets_name ≡ before.nets_name
  pub trits_are : after.trits ≡ sets before.trits 0 (shared_trits m (t before.lent.state.next).value)
  pub trits_name_is : after.trits_name ≡ before.trits_name
  pub nets_end : after.nets_at_of ≡ length (shared_nets m (t before.lent.state.next).value)
  pub trits_end : after.trits_at_of ≡ length (shared_trits m (t before.lent.state.next).value)
  pub results_are : results_of after.memory (shared_nets m (t before.lent.state.next).value) (shared_trits m (t before.lent.state.next).value) (layout q m.init) ≡ (t before.lent.state.next).value

-- the ports of the rules, from this next free net on, that a struct stands for: with the arrays it holds them
pub record PortsHeld (m : Mem) (output : Value) (p : Plan) (n : ℕ) (g : WideMemory) : Type 0 where
  pub writes : List (HeldWrite (layout_of m p))
  pub reads : List (HeldRead (layout_of m p))
  pub writes_are : map (λ k. k.port) writes ≡ (swizzle_writes m (layout_of m p) m.writes p.write_wide n).value
  pub reads_are : map (λ k. k.port) reads ≡ (swizzle_reads m (layout_of m p) m.reads p.read_wide_of output (swizzle_writes m (layout_of m p) m.writes p.write_wide n).next).value
  pub holds : Holds g (layout_of m p) writes reads (shared_nets m (swizzle m output p n).value) (shared_trits m (swizzle m output p n).value)

-- where there are rows
abbrev pub HoldsPorts : Mem → Value → Plan → ℕ → WideMemory → Type 0
HoldsPorts m output p n g = m.width ≢ 0 → m.depth ≢ 0 → PortsHeld m output p n g
