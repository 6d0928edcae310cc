-- The refusal of a swizzle by what it asks for, without making its entries.
use Rattle.std.specs.Prelude.{◌≡◌, ℕ, false, not, ◌&&◌, ◌||◌, List, eqb, length}
use Rattle.lists.specs.Choice.{when◌then◌else◌, ◌or_else◌}
use Rattle.rules.specs.Value.{Value}
use Rattle.rules.specs.Cell.{Given, Plan}
use Rattle.rules.specs.Log.{LogState}
use Rattle.rules.specs.Geometry.{columns}
use Rattle.rules.specs.Image.{image_size}
use Rattle.rules.specs.Conditions.{no_room_of, bad_layout_sizes}
use Rattle.rules.specs.Refusals as rules
use Rattle.rules.specs.Refusals.{room_refusal, lent_refusal, swizzle_plan_number, swizzle_refusal}
use Rattle.net_memory.specs.declared.Memory.{Memory}
use Rattle.net_memory.specs.declared.Given.{Given as LentGiven}
use Rattle.image_geometry.specs.View.{layout_by}
use Rattle.swizzle_plan.specs.declared.MemorySwizzle.{MemorySwizzle}
use Rattle.swizzle_plan.specs.declared.Plan.{Plan as LentPlan}
use Rattle.swizzle_plan.specs.Calls.{params_by}
use Rattle.swizzle_counts.specs.declared.SwizzleRooms.{SwizzleRooms}
use Rattle.swizzle_counts.specs.declared.Needs.{Needs}
use Rattle.swizzle_counts.specs.Needs.{plus_needs, ReadsFit, reads_needs, WritesFit, writes_needs}

abbrev pub rooms_of : SwizzleRooms → rules.SwizzleRooms
rooms_of r = record { image = r.image; nets = r.nets; trits = r.trits; scratch = r.scratch }

-- 20 and 21 of a swizzle that asks for this, and has an image of so many trits
unfoldable pub needs_refusal : rules.SwizzleRooms → ℕ → LogState → Needs → ℕ → ℕ
needs_refusal r room s n image =
    lent_refusal r.image image
    or_else (when no_room_of r.nets n.room || no_room_of r.trits n.trits then 20 else 0)
    or_else lent_refusal r.scratch n.scratch
    or_else room_refusal room s n.words n.nets

-- what a swizzle of rows asks for, and the trits of its image
abbrev pub asked_needs : LentGiven → LentPlan → Needs
asked_needs g p =
    let q = params_by g.memory p.swizzle in
    let n = columns (layout_by q p.entries.now) in
    plus_needs (writes_needs g.memory g.nets.now q n p.entries.now p.writes.now) (reads_needs g.memory g.nets.now q n p.reads.now)

abbrev pub asked_image : LentGiven → LentPlan → ℕ
asked_image g p = image_size (layout_by (params_by g.memory p.swizzle) p.entries.now)

-- the whole refusal, but of depth 0, whose flip-flops are unmapped, only what comes before 14
unfoldable pub rows_refusal : rules.SwizzleRooms → ℕ → LogState → Given → Value → Plan → ℕ
rows_refusal r room s g output p =
    when not (eqb g.mem.width 0) && eqb g.mem.depth 0 then swizzle_plan_number s.next g output p else swizzle_refusal r room s g output p

-- a plan that passes, for a memory whose width and depth are not 0
pub record RowsFit (m : Memory) (nets : List ℕ) (s : MemorySwizzle) (es ws rs : List ℕ) : Type 0 where
  pub small : bad_layout_sizes m.depth m.width (length es) s.data_width_unit s.hard_addr_bits ≡ false
  pub writes : WritesFit m nets (params_by m s) (columns (layout_by (params_by m s) es)) es ws
  pub reads : ReadsFit m nets (params_by m s) (columns (layout_by (params_by m s) es)) rs
