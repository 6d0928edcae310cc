-- `swizzle_parts::depth_of` meets its contract.
use Rattle.std.proofs.Common.{ap, sym, ◌∙◌}
use Rattle.rules.specs.Ports.{Driving}
use Rattle.swizzle_parts.proofs.Found.{gone, depth_is}
use Rattle.swizzle_parts.proofs.Depths.{in_full, in_part}
use Rattle.swizzle_parts.proofs.depth_of.Goals as goal

pub returns-then-not-is_there : goal.returns-then-not-is_there
returns-then-not-is_there c =
    λ nets trits image. sym (ap (λ (d : Driving). d.memory.depth) (gone c.args.g c.args.n nets trits image (sym c.is_there.ensures ∙ c.if-not-is_there.true)))

pub returns-then-n-g : goal.returns-then-n-g
returns-then-n-g c =
    λ nets trits image. sym (depth_is c.args.g c.args.n 0 nets trits image (sym c.is_there.ensures ∙ c.if-not-is_there.false) ∙ in_full c.args.g c.args.n c.if-n-g.true)

pub returns : goal.returns
returns c =
    λ nets trits image. sym (depth_is c.args.g c.args.n 0 nets trits image (sym c.is_there.ensures ∙ c.if-not-is_there.false) ∙ in_part c.args.g c.args.n c.if-n-g.false)
