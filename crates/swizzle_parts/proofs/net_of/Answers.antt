-- `swizzle_parts::net_of` meets its contract.
use Rattle.std.proofs.Common.{sym, ◌∙◌, arith}
use native.Mathlib.Nat.{add_assoc}
use Rattle.swizzle_parts.proofs.Outs.{net_is, net_room}
use Rattle.swizzle_parts.proofs.net_of.Goals as goal

pub overflow_cast-result : goal.overflow_cast-result
overflow_cast-result c =
    let v = c.args in
    let f = net_room v.g v.n v.p.wide v.bit c.requires.0 c.requires.1 c.requires.3 in
    omega (arith, f.row_fits, f.own_fits, f.rest_fits)

pub overflow_add-result-2 : goal.overflow_add-result-2
overflow_add-result-2 c =
    let v = c.args in
    let f = net_room v.g v.n v.p.wide v.bit c.requires.0 c.requires.1 c.requires.3 in
    omega (arith, f.row_fits, f.own_fits, f.rest_fits, c.requires.2)

pub returns : goal.returns
returns c =
    let v = c.args in
    sym (add_assoc v.p.first _ _) ∙ net_is v.g v.n v.p v.bit c.requires.3
