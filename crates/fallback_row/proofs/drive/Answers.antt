-- `fallback_row::drive` meets its contract.
use mathlib.Core.Path.{ap, ◌∙◌}
use native.Mathlib.Omega.{arith}
use mathlib.Core.List.{List}
use Prim.Native.Nat.{ℕ}
use lib.ListN.{take}
use Rattle.rules.specs.Log.{replace_value_of}
use Rattle.log_entries.specs.Emission.{run}
use Rattle.log_entries.specs.View.{lent_of}
use Rattle.fallback_row.proofs.Register.{fresh_taken}
use Rattle.fallback_row.proofs.drive.Goals as goal

pub returns : goal.returns
returns c =
    let v = c.args in
    c.emit_replace.ensures
    ∙ ap (λ (x : List ℕ). run (replace_value_of x (take v.w v.q.now)) (lent_of v.log.now)) (fresh_taken v.spare.now c.store_run.new.to v.first v.w c.store_run.ensures (omega (arith, c.requires.0, c.requires.2)))
