-- `swizzle_split::Taking::take_all` meets its contract.
use Rattle.swizzle_split.proofs.Takes.{on_turn, on_ends}
use Rattle.swizzle_split.proofs.Taking.take_all.Goals as goal

pub loop-net-preserved : goal.loop-net-preserved
loop-net-preserved c =
    let l = c.loop-net in
    let r = c.take-t in
    on_turn c.args.addr.now c.args.hw.now c.args.mux.now c.args.self l.hw l.mux l.t l.net-index l.invariant c.requires.short c.loop-net-test.true r.new.hw r.new.mux r.result r.ensures.value r.ensures.hw_after r.ensures.mux_after

pub returns : goal.returns
returns c =
    let l = c.loop-net in
    on_ends c.args.addr.now c.args.hw.now c.args.mux.now c.args.self l.hw l.mux l.t l.net-index l.invariant c.requires.short c.loop-net-test.false
