-- `merge_keys::merge` meets its contract.
use Rattle.std.proofs.Common.{◌≡◌, ◌∙◌}
use Rattle.merge_keys.specs.Columns.{keys_in}
use Rattle.merge_keys.specs.Keys.{merging}
use Rattle.merge_keys.proofs.Whole.{merging_is}
use Rattle.merge_keys.proofs.merge.Goals as goal

pub returns : goal.returns
returns c =
    let v = c.args in
    let q = c.merge_all.ensures in
    let n = c.min-2.ensures ∙ rw (c.min-room.ensures, c.min.ensures) in
    let e : keys_in c.first.result ≡ merging v.given.x.now v.given.y.now v.kx.now v.ky.now v.at.now =
    c.first.ensures ∙ rw n (merging_is v.given.x.now v.given.y.now v.kx.now v.ky.now v.at.now) in
    record { value = rw e at q.value; kx_after = rw e at q.kx_after; ky_after = rw e at q.ky_after; at_after = rw e at q.at_after }
