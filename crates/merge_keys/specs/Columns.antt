-- The keys of two columns.
use Rattle.std.specs.Prelude.{List}
use Rattle.lists.specs.Lists.{pairs}
use Rattle.rules.specs.Merge.{Key2}
use Rattle.merge_keys.specs.declared.columns.Columns.{Columns}
use Rattle.merge_keys.specs.declared.columns.Key.{Key}

abbrev pub key_of : Key → Key2
key_of k = (k.x, k.y)

abbrev pub keys_in : Columns → List Key2
keys_in c = pairs c.x.now c.y.now
