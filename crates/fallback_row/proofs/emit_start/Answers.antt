-- `fallback_row::emit_start` meets its contract.
use mathlib.Core.Path.{sym}
use native.Mathlib.Omega.{arith}
use lib.ListN.{take}
use lib.Seq.{length-take-le}
use Rattle.lists.proofs.Stores.{take_stored}
use Rattle.log_entries.specs.View.{lent_of}
use Rattle.fallback_row.proofs.Register.{start_many, start_few}
use Rattle.fallback_row.proofs.emit_start.Goals as goal

pub returns-then-w-gt-MAX_MERGE : goal.returns-then-w-gt-MAX_MERGE
returns-then-w-gt-MAX_MERGE c =
    let v = c.args in
    record {
      nets = start_many v.w (take v.w v.out.now) (lent_of v.log.now) (omega (arith, c.if-w-gt-MAX_MERGE.true));
      row = λ h. absurd (omega (arith, h, c.if-w-gt-MAX_MERGE.true));
    }

pub returns : goal.returns
returns c =
    let v = c.args in
    let p = c.void_into in
    record {
      nets = start_few v.w (take v.w v.out.now) (lent_of v.log.now) (lent_of p.new.log) (take v.w p.new.out) (omega (arith, c.if-w-gt-MAX_MERGE.false)) (p.ensures (omega (arith, c.if-w-gt-MAX_MERGE.false)));
      row = λ h. take_stored v.row.now.nets c.copy.new.to (take v.w p.new.out) v.w c.copy.ensures (sym (length-take-le v.w p.new.out (omega (arith, h, p.auto.out)))) (omega (arith, h));
    }
