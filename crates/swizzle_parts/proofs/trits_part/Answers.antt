-- `swizzle_parts::trits_part` meets its contract.
use Rattle.std.proofs.Common.{◌+◌, ◌*◌, ap, sym, ◌∙◌}
use Rattle.lists.specs.Lists.{part}
use Rattle.swizzle_result.specs.declared.WideMemory.{WideMemory}
use Rattle.swizzle_result.specs.View.{own, whole}
use Rattle.swizzle_parts.specs.Parts.{read_port, trit_start, kind_before}
use Rattle.swizzle_parts.proofs.Sized.{read_ports_8}
use Rattle.swizzle_parts.proofs.Found.{no_kind_at, unclocked_at}
use Rattle.swizzle_parts.proofs.Cuts.{kind_cut}
use Rattle.swizzle_parts.proofs.trits_part.Goals as goal

pub returns-in_default : goal.returns-in_default
returns-in_default c =
    let v = c.args in
    λ nets trits image. (λ x. part (c.default.ensures.0 x) (c.default.ensures.1 x) trits) ∙ sym (no_kind_at v.kind v.g v.n v.i nets trits image c.in_default.ensures)

pub returns-then-is_none : goal.returns-then-is_none
returns-then-is_none c =
    let v = c.args in
    λ nets trits image. (λ x. part (c.default-then-is_none.ensures.0 x) (c.default-then-is_none.ensures.1 x) trits) ∙ sym (unclocked_at v.kind v.g v.n v.i nets trits image c.in-Some.ensures.0 (read_ports_8 v.g _ c.well_formed.0) c.if-is_none.ensures)

pub returns : goal.returns
returns c =
    let v = c.args in
    let p = read_port v.g v.i in
    λ nets trits image.
    (λ x. part (c.trit_start.ensures.0 x + (c.before-before.ensures.0 x * c.whole.ensures.0 x + v.n * c.own-size.ensures.0 x)) (c.own-size.ensures.0 x) trits)
    ∙ ap (λ (g : WideMemory). part (trit_start g v.i + (kind_before v.kind * whole g p.wide + v.n * own g p.wide)) (own g p.wide) trits) c.in-Some.ensures.1
    ∙ kind_cut v.g v.n v.i nets trits image v.kind c.in-Some.ensures.0 (read_ports_8 v.g _ c.well_formed.0) c.if-is_none.ensures
