-- The plan that a struct and its lent arrays hold, and the sizes of a memory and a plan.
use Rattle.std.specs.Prelude.{ℕ, List}
use Rattle.rules.specs.Cell as rules
use Rattle.net_memory.specs.declared.Memory.{Memory}
use Rattle.image_geometry.specs.declared.Params.{Params}
use Rattle.swizzle_plan.specs.declared.MemorySwizzle.{MemorySwizzle}
use Rattle.swizzle_plan.specs.declared.Plan.{Plan}

-- the plan that a struct and its lent arrays hold
abbrev pub plan_of : MemorySwizzle → List ℕ → List ℕ → List ℕ → rules.Plan
plan_of s entries write_wide read_wide_of = record {
  entries = entries;
  soft_mask = s.soft_addr_bits_mask;
  write_wide = write_wide;
  read_wide_of = read_wide_of;
  hard = s.hard_addr_bits;
  unit = s.data_width_unit;
}

-- the same of the struct that holds all four
abbrev pub view_plan : Plan → rules.Plan
view_plan p = plan_of p.swizzle p.entries.now p.writes.now p.reads.now

-- the sizes of the memory and the plan
abbrev pub params_by : Memory → MemorySwizzle → Params
params_by m s = record { depth = m.depth; width = m.width; soft_mask = s.soft_addr_bits_mask; hard = s.hard_addr_bits; unit = s.data_width_unit }
