-- The invariants of `merge_mux::emit::spread_nets`.
use mathlib.Core.Path.{◌≡◌}
use lib.ListN.{take}
use Rattle.lists.specs.Lists.{up_from}
use Rattle.rules.specs.Merge.{spread}
use lib.Seq.{sets}
use Rattle.merge_mux.proofs.emit.spread_nets.Given as goal

abbrev pub invariant-loop-i : goal.invariant-loop-i
invariant-loop-i l = l.out ≡ sets l.initial.out l.start (take l.i (spread l.at (up_from l.first l.width)))
