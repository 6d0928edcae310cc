-- `swizzle_counts::needs_of` meets its contract.
use Rattle.std.proofs.Common.{length, get_or, arith}
use Rattle.swizzle_counts.proofs.Numbers.{none_is, needs_start, needs_turn, needs_end, most-more, most_up}
use Rattle.swizzle_counts.proofs.needs_of.Goals as goal

pub loop-i-init : goal.loop-i-init
loop-i-init g c =
    let v = c.args in
    rw (none_is c.default-total.result c.default-total.ensures) (record {
      most = record { words_max = omega arith; nets_max = omega arith; room_max = omega arith; trits_max = omega arith };
      sum = λ f e. needs_start (λ j. f j (get_or v.wides.now j 0)) (length v.wides.now);
    })

pub loop-i-preserved : goal.loop-i-preserved
loop-i-preserved g c =
    let v = c.args in
    let l = c.loop-i in
    record {
      most = rw c.plus-total.ensures (most-more l.i l.total _ l.invariant.most (c.requires.small _ _ _ c.needs.ensures));
      sum = λ f e. rw c.plus-total.ensures (needs_turn (λ j. f j (get_or v.wides.now j 0)) l.i (length v.wides.now) l.total _ c.loop-i-test.true (e _ _ _ c.needs.ensures) (l.invariant.sum f e));
    }

pub returns : goal.returns
returns g c =
    let v = c.args in
    let l = c.loop-i in
    record {
      sum = λ f e. needs_end (λ j. f j (get_or v.wides.now j 0)) l.i (length v.wides.now) l.total (omega arith) (l.invariant.sum f e);
      most = most_up _ _ l.total (omega (arith, c.requires.few)) l.invariant.most;
    }
