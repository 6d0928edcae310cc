-- `record_bits::Group::is_bad` meets its contract.
use Rattle.record_bits.proofs.Groups.{bad_turn, bad_end}
use Rattle.record_bits.specs.Groups.{bad_group}
use Rattle.lists.proofs.Choice.{or_stop, or_skip}
use mathlib.Core.Path.{◌≡◌, refl, sym, ◌∙◌}
use Prim.Native.Nat.{◌-◌}
use native.Mathlib.Omega.{arith}
use Rattle.record_bits.proofs.Group.is_bad.Goals as goal

pub loop-i-init : goal.loop-i-init
unfolding bad_group
loop-i-init c =
    let y : c.args.count - 0 ≡ c.args.count = omega arith in
    rw y

pub returns-then-is_bad_pair : goal.returns-then-is_bad_pair
returns-then-is_bad_pair c =
    let l = c.loop-i in
    let a = c.args in
    or_stop _ (sym c.is_bad_pair.ensures ∙ c.if-is_bad_pair.true) ∙ sym (bad_turn a.count l.known l.value l.i (omega arith)) ∙ l.invariant

pub loop-i-preserved : goal.loop-i-preserved
loop-i-preserved c =
    let l = c.loop-i in
    let a = c.args in
    or_skip (sym c.is_bad_pair.ensures ∙ c.if-is_bad_pair.false) refl ∙ sym (bad_turn a.count l.known l.value l.i (omega arith)) ∙ l.invariant

pub returns : goal.returns
returns c =
    let l = c.loop-i in
    let a = c.args in
    sym (bad_end a.count l.known l.value l.i (omega arith)) ∙ l.invariant
