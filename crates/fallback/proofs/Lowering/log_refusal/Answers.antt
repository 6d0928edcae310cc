-- `fallback::Lowering::log_refusal` meets its contract.
use mathlib.Core.Path.{refl, sym, ◌∙◌}
use Rattle.rules.specs.Refusal.{number_of}
use Rattle.log_entries.specs.View.{state_of}
use Rattle.fallback.proofs.Numbers.{dry_full, flat_number, wide_number_lem}
use Rattle.fallback.proofs.Lowering.log_refusal.Goals as goal

pub returns-then-is_over : goal.returns-then-is_over
returns-then-is_over c =
    let v = c.args in
    dry_full v.self.now.given.memory v.self.now.given.nets.now v.self.now.given.trits.now v.self.now.output.now v.self.now.st v.self.now.tables v.self.now.asked (state_of v.dry) c.requires v.room (sym c.is_over.ensures ∙ c.if-is_over.true)

pub returns-then-self-eq0 : goal.returns-then-self-eq0
returns-then-self-eq0 c =
    let v = c.args in
    flat_number v.self.now.given.memory v.self.now.given.nets.now v.self.now.given.trits.now v.self.now.output.now v.self.now.st v.self.now.tables v.self.now.asked (state_of v.dry) c.requires v.room (sym c.is_over.ensures ∙ c.if-is_over.false) (state_of c.dry_start-start.result) c.dry_start-start.ensures c.saturating_sub-unmapped.result c.rows_size-rows.result.words c.rows_size-rows.result.nets _ _ c.saturating_sub-unmapped.ensures (c.rows_size-rows.ensures.size v.self.now.given.trits.now).0 (c.rows_size-rows.ensures.size v.self.now.given.trits.now).1 refl refl c.if-self-eq0.true (number_of c.room_refusal.result) c.room_refusal.ensures

pub returns : goal.returns
returns c =
    let v = c.args in
    wide_number_lem v.self.now.given.memory v.self.now.given.nets.now v.self.now.given.trits.now v.self.now.output.now v.self.now.st v.self.now.tables v.self.now.asked (state_of v.dry) c.requires v.room (sym c.is_over.ensures ∙ c.if-is_over.false) (state_of c.dry_start-start.result) c.dry_start-start.ensures c.saturating_sub-unmapped.result c.rows_size-rows.result.words c.rows_size-rows.result.nets _ _ c.saturating_sub-unmapped.ensures (c.rows_size-rows.ensures.size v.self.now.given.trits.now).0 (c.rows_size-rows.ensures.size v.self.now.given.trits.now).1 refl refl c.if-self-eq0.false (number_of c.split_refusal.result) c.split_refusal.ensures
