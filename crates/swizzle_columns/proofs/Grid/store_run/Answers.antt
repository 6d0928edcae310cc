-- `swizzle_columns::Grid::store_run` meets its contract.
use mathlib.Core.Path.{◌≡◌, sym, ap, ◌∙◌}
use Prim.Native.Nat.{ℕ, ◌-◌, min}
use lib.ListN.{length}
use Rattle.swizzle_columns.proofs.Cursors.{run_none}
use Rattle.swizzle_columns.proofs.Grid.store_run.Goals as goal

pub returns-then-n-eq0 : goal.returns-then-n-eq0
returns-then-n-eq0 g c =
    let k = c in
    let v = k.args in
    let e : 0 ≡ min (length v.v.now) (length v.to.now - v.start) = sym c.if-n-eq0.true ∙ c.min-n.ensures ∙ ap (λ (k : ℕ). min (length v.v.now) k) c.saturating_sub.ensures in
    run_none v.self (length v.to.now) v.start v.to.now v.v.now k.requires e
