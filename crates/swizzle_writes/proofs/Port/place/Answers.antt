-- `swizzle_writes::Port::place` meets its contract.
use mathlib.Core.Path.{sym, ap, ◌∙◌}
use Prim.Native.Nat.{ℕ, ◌*◌}
use Rattle.log_entries.specs.View.{lent_of}
use Rattle.swizzle_writes.proofs.Steps.{placed_not, placed_gave}
use Rattle.swizzle_writes.proofs.Port.place.Goals as goal

pub returns-then-not-is_roomy : goal.returns-then-not-is_roomy
returns-then-not-is_roomy c =
    let x = c.args.self in
    placed_not x.wide x.hw.now x.mux.now x.entries.now x.bits.now x.mask.now c.args.at c.args.to.now (lent_of c.args.log.now) (sym c.is_roomy.ensures ∙ c.if-not-is_roomy.true)

pub returns : goal.returns
returns c =
    let x = c.args.self in
    placed_gave x.wide x.hw.now x.mux.now x.entries.now x.bits.now x.mask.now c.args.at c.args.to.now (lent_of c.args.log.now) _ _ c.copy.new.to _ (ap (λ (n : ℕ). x.wide.rows * n) c.columns.ensures) (sym c.is_roomy.ensures ∙ c.if-not-is_roomy.false) c.copy.ensures c.place_nets.ensures
