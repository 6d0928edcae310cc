-- `fallback_masks::mask_runs` meets its contract.
use mathlib.Core.Path.{refl}
use native.Mathlib.Omega.{arith}
use Rattle.fallback_masks.proofs.Numbers.{count_start, count_turn, count_end, runs_long, runs_short}
use Rattle.fallback_masks.proofs.mask_runs.Goals as goal

pub loop-net-init : goal.loop-net-init
loop-net-init c = (omega arith, count_start c.args.width c.args.mask.now)

pub loop-net-preserved : goal.loop-net-preserved
loop-net-preserved c =
    let v = c.args in
    let l = c.loop-net in
    (omega arith, count_turn v.width v.mask.now l.left l.last l.runs l.net-index _ _ _ _ (omega arith) l.invariant.1 refl c.starts_run-runs.ensures.0 refl c.left_after-left.ensures)

pub returns-then-mask-gt-MAX_MASK_NETS : goal.returns-then-mask-gt-MAX_MASK_NETS
returns-then-mask-gt-MAX_MASK_NETS c = (runs_long c.args.width c.args.mask.now (omega arith), omega arith)

pub returns : goal.returns
returns c =
    let v = c.args in
    let l = c.loop-net in
    (runs_short v.width v.mask.now l.runs (omega arith) (count_end v.width v.mask.now l.left l.last l.runs l.net-index (omega arith) l.invariant.1), omega arith)
