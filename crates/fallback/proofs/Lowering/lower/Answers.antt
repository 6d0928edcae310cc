-- `fallback::Lowering::lower` meets its contract.
use mathlib.Core.Path.{◌≡◌, refl, sym, subst}
use lib.ListN.{length}
use Rattle.std.specs.Prelude.{Result, Err}
use Rattle.std.proofs.Common.{rules}
use Rattle.rules.specs.Fallback.{lower_fallback}
use Rattle.rules.specs.declared.numbers.Refusal.{Refusal}
use Rattle.log_entries.specs.declared.LogState.{LogState}
use Rattle.net_memory.specs.View.{memory_of}
use Rattle.log_entries.proofs.Emission.{unnamed, run_name}
use Rattle.fallback.specs.Answer.{left_by, Lowers}
use Rattle.fallback.proofs.Answer.{whole-log, kept_log}
use Rattle.fallback.proofs.Lowering.lower.Goals as goal

pub returns-in_err-log_refusal : goal.returns-in_err-log_refusal
returns-in_err-log_refusal c =
    let v = c.args in
    let e = c.in_err-log_refusal.field-0.0 in
    let q : c.from_residual.result ≡ Err e = search rules in
    subst (λ (r : Result LogState Refusal). Lowers v.self.now.given.memory v.self.now.given.nets.now v.self.now.given.trits.now v.self.now.output.now v.self.now.st v.log.now v.tables.now (left_by v.self.now.st r) v.log.now v.tables.now) (sym q)
    (kept_log v.self.now.given.memory v.self.now.given.nets.now v.self.now.given.trits.now v.self.now.output.now v.self.now.st v.log.now v.tables.now e (rw c.requires v.self.now.asked) c.in_err-log_refusal.ensures)

pub act-requires : goal.act-requires
act-requires c =
    let v = c.args in
    sym (whole-log v.self.now.given.memory v.self.now.given.nets.now v.self.now.given.trits.now v.self.now.output.now v.self.now.st (length v.log.now) (length v.tables.now) v.self.now.asked.number (rw c.requires v.self.now.asked.room) 0 c.in_ok-log_refusal.ensures)

pub returns : goal.returns
returns c =
    let v = c.args in
    let z = whole-log v.self.now.given.memory v.self.now.given.nets.now v.self.now.given.trits.now v.self.now.output.now v.self.now.st (length v.log.now) (length v.tables.now) v.self.now.asked.number (rw c.requires v.self.now.asked.room) 0 c.in_ok-log_refusal.ensures in
    record {
      number = z;
      refused = λ h. absurd (h refl);
      accepted = λ h.
          let t = lower_fallback (memory_of v.self.now.given.memory v.self.now.given.nets.now v.self.now.given.trits.now) v.self.now.output.now in
          let n = run_name t _ _ c.act.ensures.log_after in
          let e = unnamed t 0 _ _ c.act.ensures.log_after in
          record { log_is = search rules; scratch_kept = c.act.ensures.tables_unchanged };
    }
