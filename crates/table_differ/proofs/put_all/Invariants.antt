-- The invariants of `table_differ::put_all`.
use Rattle.table_differ.proofs.Lines.{Left}
use mathlib.Core.Path.{◌≡◌}
use Prim.Native.Nat.{◌*◌, ◌≤◌}
use Rattle.table_differ.proofs.put_all.Given as goal

abbrev pub invariant-loop-row : goal.invariant-loop-row
invariant-loop-row l =
    let before = l.initial.text in
    let text = l.text in
    (text.out.ghost_name ≡ before.out.ghost_name) × (l.from ≡ l.row * l.size.width) × (text.at ≤ 274 * l.row) × (l.count ≤ l.row)
    × Left l.size.width l.a l.b before.out.now text.out.now text.at l.count l.size.depth l.row
