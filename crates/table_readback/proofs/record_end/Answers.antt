-- `table_readback::record_end` meets its contract.
use Rattle.std.proofs.lemmas.Result.{err_from_is_err_and}
use Rattle.std.proofs.Common.{Result, Err, refl, sym, ap, ◌∙◌}
use Rattle.table_readback.proofs.Mapped.{passed, failed}
use Rattle.table_readback.specs.declared.Refused.{Refused}
use Rattle.table_readback.specs.declared.Refused.TheVariants as refusals
use Rattle.table_readback.specs.View.{end_as}
use Rattle.rules.proofs.Answers.{number_nonzero}
use Rattle.rules.specs.Refusal.{number, number_of}
use Rattle.rules.specs.declared.numbers.Refusal.{Refusal}
use Rattle.table_readback.proofs.Ends.{by_record, end_refused, end_rows}
use Rattle.rules.specs.Answers.{Filled, filled_with}
use Rattle.image_geometry.specs.View.{layout_of}
use Rattle.record_sizes.specs.View.{view_sizes}
use mathlib.Core.List.{[]}
use lib.ListN.{length, take, drop}
use Rattle.table_readback.proofs.record_end.Goals as goal

pub returns-in_err-map_err : goal.returns-in_err-map_err
returns-in_err-map_err c =
    let a = c.args in
    let q = layout_of a.layout in
    let n = c.record_bytes-n.result in
    let p = err_from_is_err_and c.from_residual.result c.from_residual.ensures.1 in
    let x = failed refusals.Call c.record_rows.result c.in_err-map_err.field-0.0 c.in_err-map_err.ensures.cases in
    let f : Filled = filled_with (number x.0) c.record_rows.new.room in
    let g = ap (λ (r : Result (Unit {0}) Refusal). filled_with (number_of r) c.record_rows.new.room) (sym x.1.0) ∙ c.record_rows.ensures in
    rw (p.1, p.2) (ap (λ (e : Refused). end_as (Err e) a.out.now) x.1.1
    ∙ by_record a.out.now a.line.now a.after.now q (view_sizes a.sizes) n _ f (take (length a.after.now) (drop n a.after.now)) _ (c.record_bytes-n.ensures c.requires) c.part.ensures.part refl g (end_refused a.out.now a.line.now [] q.depth q.width f _ _ refl (number_nonzero x.0)))

pub returns : goal.returns
returns c =
    let a = c.args in
    let q = layout_of a.layout in
    let n = c.record_bytes-n.result in
    let f : Filled = filled_with 0 c.record_rows.new.room in
    let g = ap (λ (r : Result (Unit {0}) Refusal). filled_with (number_of r) c.record_rows.new.room) (sym (passed c.record_rows.result _ c.in_ok-map_err.ensures.cases)) ∙ c.record_rows.ensures in
    by_record a.out.now a.line.now a.after.now q (view_sizes a.sizes) n _ f _ _ (c.record_bytes-n.ensures c.requires) c.part.ensures.part c.part-2.ensures.part g (c.behind_end.ensures ∙ end_rows a.out.now a.line.now [] q.depth q.width f _ _ refl c.part-trits.ensures.part)
