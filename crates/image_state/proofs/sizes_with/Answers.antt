-- `image_state::sizes_with` meets its contract.
use Rattle.image_state.proofs.sizes_with.Goals as goal

pub returns : goal.returns
returns c =
    let a = c.args in
    λ i. record { unit = a.unit; full = a.full; full_depth_of = c.depth_if.ensures i; partial = a.partial; partial_depth = c.depth_if-2.ensures i }
