-- `log_entries::Log::emit_parts` meets its contract.
use Rattle.lists.proofs.Stores.{length_three}
use mathlib.Core.Path.{sym, ◌∙◌}
use Prim.Native.Nat.{◌+◌}
use mathlib.Core.List.{◌++◌}
use lib.ListN.{length}
use borrow.Author.Tests.{not-true, not-false}
use Rattle.log_entries.specs.View.{lent_of, kind_word}
use Rattle.log_entries.proofs.Emission.{entry-over, entry_stored}
use mathlib.Core.Path.{ap}
use mathlib.Core.Bool.{not}
use Rattle.log_entries.proofs.Log.emit_parts.Goals as goal

pub returns-then-not-can_count : goal.returns-then-not-can_count
returns-then-not-can_count c =
    let v = c.args in
    let ops = v.x.now ++ (v.a.now ++ v.b.now) in
    let n = length v.x.now + (length v.a.now + length v.b.now) in
    entry-over (lent_of v.self.now) (kind_word v.kind) v.width v.first n ops (length_three v.x.now v.a.now v.b.now) _ (sym c.can_count.ensures ∙ not-true _ (ap not c.if-not-can_count.true)) c.overflow-self.ensures

pub returns : goal.returns
returns c =
    let v = c.args in
    let ops = v.x.now ++ (v.a.now ++ v.b.now) in
    let n = length v.x.now + (length v.a.now + length v.b.now) in
    entry_stored (lent_of v.self.now) (kind_word v.kind) v.width v.first n ops (length_three v.x.now v.a.now v.b.now) _ (sym c.can_count.ensures ∙ not-false _ (ap not c.if-not-can_count.false)) (rw c.word.ensures at c.store_parts.ensures)
