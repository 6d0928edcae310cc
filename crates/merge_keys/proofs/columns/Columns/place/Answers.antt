-- `merge_keys::columns::Columns::place` meets its contract.
use mathlib.Core.Path.{◌∙◌}
use Rattle.lists.proofs.Zips.{zip_pairs, found_place}
use Rattle.rules.specs.Merge.{same2}
use Rattle.merge_keys.specs.Columns.{key_of, keys_in}
use Rattle.merge_keys.proofs.columns.Columns.place.Goals as goal

pub returns : goal.returns
returns c =
    let v = c.args in
    c.unwrap_or.ensures ∙ rw (c.find.ensures, c.len.ensures.value, zip_pairs v.self.x.now v.self.y.now) (found_place same2 (key_of v.key) (keys_in v.self))
