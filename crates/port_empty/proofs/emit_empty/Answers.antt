-- `port_empty::emit_empty` meets its contract.
use mathlib.Core.Path.{◌≡◌, refl}
use lib.ListN.{length}
use Rattle.log_entries.specs.View.{lent_of}
use Rattle.net_memory.specs.View.{memory_of}
use Rattle.rules.specs.Limits.{max_outputs}
use Rattle.port_empty.proofs.Empty.{empty_many, empty_ran}
use borrow.Author.Rules.{rules}
use Rattle.port_empty.proofs.emit_empty.Goals as goal

pub returns-then-n-gt-MAX_OUTPUTS : goal.returns-then-n-gt-MAX_OUTPUTS
returns-then-n-gt-MAX_OUTPUTS c =
    let v = c.args in
    empty_many (memory_of v.given.memory v.given.nets.now v.given.trits.now) v.output.now (lent_of v.log.now) c.if-n-gt-MAX_OUTPUTS.true

pub returns : goal.returns
returns c =
    let v = c.args in
    let a = c.emit_unmap_all in
    let u = c.emit_unknown in
    empty_ran (memory_of v.given.memory v.given.nets.now v.given.trits.now) v.output.now (lent_of v.log.now) _ a.new.after (lent_of a.new.log) (lent_of u.new.log) (length v.output.now) refl c.if-n-gt-MAX_OUTPUTS.false (search rules) a.auto.after a.ensures u.ensures
