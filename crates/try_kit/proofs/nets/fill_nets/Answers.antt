-- `try_kit::nets::fill_nets` meets its contract.
use mathlib.Core.Path.{refl, sym, ◌∙◌}
use native.Mathlib.Omega.{arith}
use lib.ListN.{length, length-set}
use Rattle.try_kit.specs.Nets.{net_at_of}
use Rattle.try_kit.proofs.Turns.{fill_all, fill_turn, fill_end}
use Rattle.try_kit.proofs.nets.fill_nets.Goals as goal

pub loop-i-init : goal.loop-i-init
loop-i-init c =
    let a = c.args in
    (refl, fill_all (λ k. net_at_of a.next k a.turn) a.s.now)

pub loop-i-preserved : goal.loop-i-preserved
loop-i-preserved c =
    let l = c.loop-i in
    let a = c.args in
    let n = length a.s.now in
    (simp length-set (omega arith), fill_turn (λ k. net_at_of a.next k a.turn) l.s n l.i c.net_at.result (omega arith) c.net_at.ensures ∙ l.invariant.1)

pub shape_of-s : goal.shape_of-s
shape_of-s c = c.loop-i.invariant.0

pub returns : goal.returns
returns c =
    let l = c.loop-i in
    let a = c.args in
    sym (fill_end (λ k. net_at_of a.next k a.turn) l.s (length a.s.now) l.i (omega arith)) ∙ l.invariant.1
