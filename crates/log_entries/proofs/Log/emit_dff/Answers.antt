-- `log_entries::Log::emit_dff` meets its contract.
use Rattle.log_entries.proofs.Dff.{dff_over, dff_emitted}
use mathlib.Core.Path.{sym, ◌∙◌}
use borrow.Author.Tests.{not-true, not-false}
use Rattle.log_entries.specs.View.{lent_of}
use Rattle.net_flip_flop.specs.View.{flip_flop_of}
use mathlib.Core.Path.{ap}
use mathlib.Core.Bool.{not}
use Rattle.log_entries.proofs.Log.emit_dff.Goals as goal

pub returns-then-not-can_count : goal.returns-then-not-can_count
returns-then-not-can_count c =
    let v = c.args in
    let f = flip_flop_of v.f in
    let l = lent_of v.self.now in
    let r = c.trit_words in
    dff_over l f r.result r.ensures _ (sym c.can_count.ensures ∙ not-true _ (ap not c.if-not-can_count.true)) c.overflow-self.ensures

pub returns : goal.returns
returns c =
    let v = c.args in
    let f = flip_flop_of v.f in
    let l = lent_of v.self.now in
    let r = c.trit_words in
    dff_emitted l f r.result r.ensures _ (sym c.can_count.ensures ∙ not-false _ (ap not c.if-not-can_count.false)) c.store_dff.ensures
