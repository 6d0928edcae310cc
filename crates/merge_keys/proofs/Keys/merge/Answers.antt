-- `merge_keys::Keys::merge` meets its contract.
use Rattle.std.proofs.Common.{arith, ◌∙◌}
use Rattle.merge_keys.proofs.Whole.{few_kept, Large, found}
use Rattle.merge_keys.proofs.Keys.merge.Goals as goal

pub shared_ref_as_front-result : goal.shared_ref_as_front-result
shared_ref_as_front-result c =
    let v = c.args in
    omega (arith, c.merge-k.ensures.value, few_kept v.given.x.now v.given.y.now v.self.now.x v.self.now.y v.self.now.at)

pub returns : goal.returns
returns c =
    let v = c.args in
    let q = c.merge-k.ensures in
    let l : Large v.self.now.x v.self.now.y v.self.now.at = record { in_kx = omega arith; in_ky = omega arith; in_at = omega arith } in
    let n = c.min-n.ensures ∙ rw c.len.ensures.value in
    let f = found v.given.x.now v.given.y.now l n q.value q.kx_after q.ky_after q.at_after in
    record { kept_x = f.kept_x; kept_y = f.kept_y; placed = f.placed }
