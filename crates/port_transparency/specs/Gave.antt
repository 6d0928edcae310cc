-- What a run leaves, and the value that it gives unless it overflowed.
use Rattle.std.specs.Prelude.{◌≡◌, false}
use Rattle.rules.specs.Log.{Trace}
use Rattle.log_entries.specs.Emission.{Lent, is_over, run}

pub record Gave {A : Type 0} (t : Trace A) (l l' : Lent) (v : A) : Type 0 where
  pub ran : l' ≡ run t l
  pub value : is_over l'.state ≡ false → v ≡ (t l.state.next).value
