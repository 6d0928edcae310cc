-- `swizzle_call::swizzle` meets its contract.
use mathlib.Core.Path.{refl, sym, ap, ◌∙◌}
use lib.ListN.{length}
use Rattle.rules.specs.Answers.{Filled}
use Rattle.std.proofs.Common.{rules}
use Rattle.rules.specs.Geometry.{layout_of}
use Rattle.rules.specs.Swizzle.{swizzle}
use Rattle.log_entries.specs.View.{lent}
use Rattle.log_entries.proofs.Emission.{run_name}
use Rattle.net_memory.specs.View.{memory_of}
use Rattle.image_geometry.specs.View.{layout_by}
use Rattle.image_state.specs.View.{laid_of}
use Rattle.swizzle_plan.specs.Calls.{plan_of}
use Rattle.swizzle_call.specs.Made.{made_of}
use Rattle.swizzle_call.proofs.Cases.{made_acted, rooms_of}
use Rattle.swizzle_call.proofs.Fronts.{results_read}
use Rattle.swizzle_call.proofs.Answer.{promises}
use Rattle.swizzle_call.proofs.Logs.{log-after}
use Rattle.swizzle_call.proofs.Images.{handed, image_laid, sizes_told, sizes_never, fill_never}
use Rattle.swizzle_call.proofs.swizzle.Goals as goal

pub returns-in_err-sizes : goal.returns-in_err-sizes
returns-in_err-sizes c =
    let v = c.args in
    let q = c.layout.result in
    absurd
    (sizes_never (rooms_of (length v.image.now) v.nets_to.now v.trits_to.now v.scratch.now) (length v.log.now) v.st v.asked.given.memory v.asked.given.nets.now v.asked.given.trits.now v.asked.output.now (plan_of v.asked.plan.swizzle v.asked.plan.entries.now v.asked.plan.writes.now v.asked.plan.reads.now) (sym c.in_ok-swizzle_refusal.ensures)
    (laid_of c.laid_out-laid.result) (layout_by q.params q.entries.now) c.laid_out-laid.ensures.result_value c.layout.ensures.layout _ c.in_err-sizes.ensures.result_value)

pub returns-in_err-fill_init : goal.returns-in_err-fill_init
returns-in_err-fill_init c =
    let v = c.args in
    let q = c.layout.result in
    absurd
    (fill_never (rooms_of (length v.image.now) v.nets_to.now v.trits_to.now v.scratch.now) (length v.log.now) v.st v.asked.given.memory v.asked.given.nets.now v.asked.given.trits.now v.asked.output.now (plan_of v.asked.plan.swizzle v.asked.plan.entries.now v.asked.plan.writes.now v.asked.plan.reads.now) (sym c.in_ok-swizzle_refusal.ensures)
    (laid_of c.laid_out-laid.result) (layout_by q.params q.entries.now) c.laid_out-laid.ensures.result_value c.layout.ensures.layout _ v.image.now _ refl c.in_err-fill_init.ensures)

pub make-made-requires : goal.make-made-requires
make-made-requires c = record { image = length c.args.image.now; zero = sym c.in_ok-swizzle_refusal.ensures }

pub returns : goal.returns
returns c =
    let v = c.args in
    let z = sym c.in_ok-swizzle_refusal.ensures in
    let a = c.make-made in
    let log = c.make-made.new.log in
    let p = plan_of v.asked.plan.swizzle v.asked.plan.entries.now v.asked.plan.writes.now v.asked.plan.reads.now in
    let rooms = rooms_of (length v.image.now) v.nets_to.now v.trits_to.now v.scratch.now in
    let q = c.layout.result in
    let x = layout_by q.params q.entries.now in
    let l = laid_of c.laid_out-laid.result in
    let is-handed = handed rooms (length v.log.now) v.st v.asked.given.memory v.asked.given.nets.now v.asked.given.trits.now v.asked.output.now p z l x c.laid_out-laid.ensures.result_value c.layout.ensures.layout in
    let is-laid = image_laid rooms (length v.log.now) v.st v.asked.given.memory v.asked.given.nets.now v.asked.given.trits.now v.asked.output.now p z l x c.laid_out-laid.ensures.result_value c.layout.ensures.layout v.image.now c.fill_init.new.image refl (ap (λ (y : Filled). y.out) c.in_ok-fill_init.ensures) in
    let t = swizzle (memory_of v.asked.given.memory v.asked.given.nets.now v.asked.given.trits.now) v.asked.output.now p in
    let n = run_name t _ _ a.ensures.acted.log_is in
    let acted = made_acted (memory_of v.asked.given.memory v.asked.given.nets.now v.asked.given.trits.now) (layout_of (memory_of v.asked.given.memory v.asked.given.nets.now v.asked.given.trits.now) p) t v.st v.log.now _ v.nets_to.now v.trits_to.now log a.result a.new.nets_to a.new.trits_to a.ensures.state a.ensures.acted in
    let after = log-after rooms (length v.log.now) v.st v.asked.given.memory v.asked.given.nets.now v.asked.given.trits.now v.asked.output.now p z v.log.now (lent a.result.state log.words.now) acted.log_is in
    let whole = promises (record {
      number = sym z;
      refused = λ h. absurd (h refl);
      accepted = λ h. record {
        acted = acted;
        log_is = after.0;
        state_is = after.1;
        image_is = is-laid;
        results-held = results_read rooms (length v.log.now) v.st v.asked.given.memory v.asked.given.nets.now v.asked.given.trits.now v.asked.output.now p z v.log.now v.nets_to.now v.trits_to.now v.image.now c.fill_init.new.image (made_of a.result log.words.now a.new.nets_to a.new.trits_to) refl refl acted is-laid;
        ports_held = a.ensures.holds_ports;
        scratch_kept = a.ensures.scratch_unchanged;
        laid_is = is-handed;
        sizes_are = c.in_ok-sizes.ensures.result_value ∙ sizes_told rooms (length v.log.now) v.st v.asked.given.memory v.asked.given.nets.now v.asked.given.trits.now v.asked.output.now p z l x c.laid_out-laid.ensures.result_value c.layout.ensures.layout;
      };
    }) in
    search rules
