-- `table_read::entries_of` meets its contract.
use Rattle.table_read.proofs.Tables.{plain_entries, given_entries}
use lib.ListN.{replicate}
use native.Mathlib.Omega.{arith}
use mathlib.Core.Path.{refl}
use Rattle.table_read.proofs.entries_of.Goals as goal

pub returns-then-count-eq5 : goal.returns-then-count-eq5
returns-then-count-eq5 c =
    let a = c.args in (plain_entries (replicate 256 0) a.words.now _ a.count refl a.width c.if-count-eq5.true c.requires.1 c.requires.2 c.store_run.ensures, omega (arith, c.requires))

pub returns : goal.returns
returns c =
    let a = c.args in (given_entries (replicate 256 0) a.words.now _ a.count refl _ _ c.if-count-eq5.false (omega (arith, c.well_formed)) c.requires.0 c.saturating_sub-len.ensures refl (cc), omega (arith, c.requires, c.saturating_sub-len.ensures))
