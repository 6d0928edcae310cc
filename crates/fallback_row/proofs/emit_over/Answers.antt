-- `fallback_row::emit_over` meets its contract.
use mathlib.Core.Path.{◌≡◌}
use mathlib.Core.Bool.{true}
use lib.ListN.{take}
use Rattle.log_entries.specs.View.{lent_of}
use Rattle.fallback_row.specs.Row.{unfit}
use Rattle.fallback_row.proofs.Register.{unfit-many, unfit_mask, unfit_bits, fit, over_not, over_does}
use Rattle.fallback_row.proofs.emit_over.Goals.{then-w-gt-MAX_MERGE-via-then-w-gt-MAX_MERGE, then-w-gt-MAX_MERGE-via-else-w-gt-MAX_MERGE+then-mask-w, then-w-gt-MAX_MERGE-via-else-w-gt-MAX_MERGE+else-mask-w+then-bits-w}
use Rattle.fallback_row.proofs.emit_over.Goals as goal

-- what makes the port unfit
why : (c : goal.Joined-then-w-gt-MAX_MERGE) → unfit c.args.w c.args.mask.now c.args.bits.now ≡ true
why c =
    let v = c.args in
    elim c.then-w-gt-MAX_MERGE.branch [
      | then-w-gt-MAX_MERGE-via-then-w-gt-MAX_MERGE w ↦ unfit-many v.w v.mask.now v.bits.now w.if-w-gt-MAX_MERGE.true
      | then-w-gt-MAX_MERGE-via-else-w-gt-MAX_MERGE+then-mask-w w ↦ unfit_mask v.w v.mask.now v.bits.now w.if-w-gt-MAX_MERGE.false w.if-mask-w.true
      | then-w-gt-MAX_MERGE-via-else-w-gt-MAX_MERGE+else-mask-w+then-bits-w w ↦ unfit_bits v.w v.mask.now v.bits.now w.if-w-gt-MAX_MERGE.false w.if-mask-w.false w.if-bits-w.true
    ]

pub returns-then-w-gt-MAX_MERGE : goal.returns-then-w-gt-MAX_MERGE
returns-then-w-gt-MAX_MERGE c = let v = c.args in over_not v.w v.mask.now v.bits.now (take v.w v.row.now.nets) (lent_of v.log.now) (why c)

pub returns : goal.returns
returns c =
    let v = c.args in
    let p = c.over_row in
    over_does v.w v.mask.now v.bits.now (take v.w v.row.now.nets) (take v.w p.new.row.nets) (lent_of v.log.now) (lent_of p.new.log) (fit v.w v.mask.now v.bits.now c.if-w-gt-MAX_MERGE.false c.if-mask-w.false c.if-bits-w.false) p.ensures
