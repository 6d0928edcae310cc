-- `record_listing::put_memory` meets its contract.
use Rattle.rules.specs.Lister.{memory_line, blank_text, load_text}
use Rattle.lists.specs.Choice.{when◌then◌else◌}
use Rattle.record_listing.proofs.Puts.{added_then, added_as}
use mathlib.Core.Path.{ap}
use mathlib.Core.Bool.{Bool}
use native.Mathlib.Omega.{arith}
use mathlib.Core.List.{◌∷◌}
use Rattle.record_listing.proofs.put_memory.Goals as goal

pub returns : goal.returns
unfolding memory_line
returns c =
    let n = c.put_number.ensures (omega arith) in
    let d = c.put_field.ensures in
    let k = c.put_field-2.ensures in
    let o = c.put_field-3.ensures in
    let e = added_as _ (ap (λ (u : Bool). 32 ∷ (when u then blank_text else load_text)) c.is_blank.ensures) c.put_kind.ensures.0 in
    let x = c.put.ensures (omega (arith, c.put_kind.ensures.1, o.1, k.1, d.1, n.1)) in
    (added_then (added_then (added_then (added_then (added_then n.0 d.0) k.0) o.0) e) x, omega (arith, x.put.place, c.put_kind.ensures.1, o.1, k.1, d.1, n.1))
