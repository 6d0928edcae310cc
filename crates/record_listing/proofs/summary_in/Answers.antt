-- `record_listing::summary_in` meets its contract.
use Rattle.record_listing.proofs.Memories.{known_room, value_room, known_sum, value_sum, end_is, summary_is}
use mathlib.Core.Path.{◌∙◌}
use Prim.Native.Nat.{ℕ, ◌<◌}
use native.Mathlib.Omega.{arith}
use lib.ListN.{get_or}
use Rattle.record_listing.proofs.summary_in.Goals as goal

pub overflow_mul-size : goal.overflow_mul-size
overflow_mul-size c =
    let e = end_is c.args.bytes.now c.args.s c.args.index c.args.from c.requires c.depth_of-depth.result c.depth_of-depth.ensures in
    omega (arith, e.0, e.1)

pub ones_in-requires : goal.ones_in-requires
ones_in-requires c =
    let e = end_is c.args.bytes.now c.args.s c.args.index c.args.from c.requires c.depth_of-depth.result c.depth_of-depth.ensures in
    let r = known_room c.args.bytes.now c.requires.good c.known_array.result.now c.known_array.ensures.0 in
    (omega (arith, e.0), omega (arith, e.0, e.1))

pub ones_in-requires-2 : goal.ones_in-requires-2
ones_in-requires-2 c =
    let e = end_is c.args.bytes.now c.args.s c.args.index c.args.from c.requires c.depth_of-depth.result c.depth_of-depth.ensures in
    let r = value_room c.args.bytes.now c.requires.good c.value_array.result.now c.value_array.ensures in
    (omega (arith, e.0), omega (arith, e.0, e.1))

pub returns : goal.returns
returns c =
    let bs = c.args.bytes.now in
    let e = end_is bs c.args.s c.args.index c.args.from c.requires c.depth_of-depth.result c.depth_of-depth.ensures in
    let small : (i : ℕ) → get_or bs i 0 < 256 = λ i. omega (arith, c.type_inv.bytes i) in
    summary_is bs c.args.s c.args.index c.args.from c.requires c.depth_of-depth.result c.ones_in.result c.ones_in-2.result c.depth_of-depth.ensures
    (c.ones_in.ensures ∙ known_sum bs c.requires.good small c.known_array.result.now c.known_array.ensures.0 c.args.from _ e.0)
    (c.ones_in-2.ensures ∙ value_sum bs c.requires.good small c.value_array.result.now c.value_array.ensures c.args.from _ e.0)
