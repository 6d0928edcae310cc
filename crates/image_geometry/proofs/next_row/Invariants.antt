-- The invariants of `image_geometry::next_row`.
use mathlib.Core.Path.{◌≡◌}
use Prim.Native.Nat.{◌-◌, ◌/◌, ◌^◌, ◌<◌}
use Rattle.rules.specs.Limits.{addr_bits}
use Rattle.rules.specs.Geometry.{walk}
use Rattle.image_geometry.proofs.Carrying.{Ones, Small, Carrying, held}
use Rattle.image_geometry.proofs.next_row.Given as goal

abbrev pub invariant-loop : goal.invariant-loop
invariant-loop l =
    let rest = l.row / 2 ^ l.counter in
    Ones rest (l.end - l.counter) × Small l.w rest × (l.row < 4294967295 → held l.initial.w ≡ walk addr_bits l.mask l.hard l.row → Carrying l.mask l.hard l.row l.w l.soft rest)
