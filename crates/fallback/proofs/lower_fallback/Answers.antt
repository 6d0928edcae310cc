-- `fallback::lower_fallback` meets its contract.
use mathlib.Core.Path.{◌≡◌, refl, sym, subst}
use native.Mathlib.Omega.{arith}
use lib.ListN.{length}
use Rattle.std.specs.Prelude.{Result, Err}
use Rattle.std.proofs.Common.{rules}
use Rattle.rules.specs.declared.numbers.Refusal.{Refusal}
use Rattle.rules.specs.declared.numbers.Refusal.TheVariants.{NoRoom}
use Rattle.log_entries.specs.declared.LogState.{LogState}
use Rattle.net_memory.proofs.Sized.{writes_length}
use Rattle.fallback_pass.proofs.Number as pass
use Rattle.fallback.specs.Answer.{left_by, Lowers}
use Rattle.fallback.proofs.Numbers.{need_is}
use Rattle.fallback.proofs.Answer.{whole_scratch, kept, kept_input, promises}
use Rattle.fallback.proofs.lower_fallback.Goals as goal

pub returns-in_err-lower_refusal : goal.returns-in_err-lower_refusal
returns-in_err-lower_refusal c =
    let v = c.args in
    let e = c.in_err-lower_refusal.field-0.0 in
    let q : c.from_residual.result ≡ Err e = search rules in
    let whole = promises (subst (λ (r : Result LogState Refusal). Lowers v.given.memory v.given.nets.now v.given.trits.now v.output.now v.st v.log.now v.scratch.now (left_by v.st r) v.log.now v.scratch.now) (sym q)
    (kept_input v.given.memory v.given.nets.now v.given.trits.now v.output.now v.st v.log.now v.scratch.now e c.in_err-lower_refusal.ensures)) in
    record { scratch_after = whole.0; lowers = whole.1 }

pub scratch_need-requires : goal.scratch_need-requires
scratch_need-requires c =
    let v = c.args in
    (pass.sized v.st.next v.given.memory v.given.nets.now v.given.trits.now v.output.now (sym c.in_ok-lower_refusal.ensures)).bits_ok

pub returns-then-scratch-scratch_need : goal.returns-then-scratch-scratch_need
returns-then-scratch-scratch_need c =
    let v = c.args in
    let n = need_is v.given.memory v.given.nets.now v.given.trits.now c.scratch_need.result (writes_length v.given.memory _ c.well_formed.1.1.1.0.1.1.0 v.given.nets.now) c.scratch_need.ensures in
    let whole = promises (kept v.given.memory v.given.nets.now v.given.trits.now v.output.now v.st v.log.now v.scratch.now NoRoom (whole_scratch v.given.memory v.given.nets.now v.given.trits.now v.output.now v.st (length v.log.now) (length v.scratch.now) (sym c.in_ok-lower_refusal.ensures) (omega (arith, n, c.if-scratch-scratch_need.true)))) in
    record { scratch_after = whole.0; lowers = whole.1 }

pub invariant_of-lowering : goal.invariant_of-lowering
invariant_of-lowering c =
    let v = c.args in
    let n = need_is v.given.memory v.given.nets.now v.given.trits.now c.scratch_need.result (writes_length v.given.memory _ c.well_formed.1.1.1.0.1.1.0 v.given.nets.now) c.scratch_need.ensures in
    record { asked = record { number = sym c.in_ok-lower_refusal.ensures; room = omega (arith, n, c.if-scratch-scratch_need.false) } }

pub lower-requires : goal.lower-requires
lower-requires c = refl

pub returns : goal.returns
returns c =
    let whole = promises c.lower.ensures in
    record { scratch_after = whole.0; lowers = whole.1 }
