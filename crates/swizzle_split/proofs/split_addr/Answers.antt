-- `swizzle_split::split_addr` meets its contract.
use Rattle.std.proofs.Common.{length, sym, ◌∙◌}
use Rattle.image_geometry.specs.View.{layout_by}
use Rattle.swizzle_split.proofs.Limits.{can_fits}
use Rattle.swizzle_split.proofs.split_addr.Goals as goal

pub split-requires : goal.split-requires
split-requires c =
    let v = c.args in
    λ es. can_fits (layout_by v.p es) v.old v.new (length v.addr.now) (sym (c.can_split.ensures es) ∙ c.if-not-can_split.false)

pub returns : goal.returns
returns c = λ es. record { can = sym (c.can_split.ensures es) ∙ c.if-not-can_split.false; splits = c.split.ensures es }
