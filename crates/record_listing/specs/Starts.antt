-- A memory of a record that no number refuses: its sizes are the record's, and so many trits stand before it.
use Rattle.std.specs.Prelude.{ℕ, ◌<◌, ◌≡◌, List}
use Rattle.rules.specs.Record.{size_mems, head_sizes}
use Rattle.rules.specs.Refusals.{record_number}
use Rattle.rules.specs.Lister.{size_start}
use Rattle.record_sizes.specs.View.{view_sizes}
use Rattle.record_sizes.specs.declared.Sizes.{Sizes}

pub record Accepted (bytes : List ℕ) (s : Sizes) : Type 0 where
  pub good : record_number bytes ≡ 0
  pub sizes : view_sizes s ≡ head_sizes bytes

pub record Starts (bytes : List ℕ) (s : Sizes) (index from : ℕ) : Type 0 where
  pub good : record_number bytes ≡ 0
  pub sizes : view_sizes s ≡ head_sizes bytes
  pub below : index < size_mems (view_sizes s)
  pub start : from ≡ size_start (view_sizes s) index
