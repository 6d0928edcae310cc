-- `swizzle_entries::granularities_bad` meets its contract.
use Rattle.std.proofs.Common.{Bool, length, not, ◌||◌, ap, sym, ◌∙◌, rules, tests}
use Rattle.std.proofs.lemmas.Iterator.{YieldsList-from_slice}
use Rattle.std.proofs.lemmas.Iterator.Search.{any_from_yields_List}
use borrow.Author.Tests.{eq-eqb, ne_eqb}
use Rattle.lists.specs.Lists.{any}
use Rattle.net_memory.proofs.Sized.{writes_length}
use Rattle.swizzle_entries.proofs.Entries.{out_of_limits, granularities_by}
use Rattle.swizzle_entries.proofs.granularities_bad.Goals as goal

pub returns-then-gs-ports_used : goal.returns-then-gs-ports_used
returns-then-gs-ports_used c =
    let v = c.args in
    let nets = v.given.nets.now in
    let trits = v.given.trits.now in
    let q = ne_eqb (length v.gs.now) c.ports_used.result c.if-gs-ports_used.true in
    ap not q ∙ sym (ap (λ (t : Bool). not t || any out_of_limits v.gs.now) q) ∙ granularities_by v.given.memory nets trits v.gs.now _ (writes_length v.given.memory _ c.well_formed.0.1.1.0 nets ∙ sym c.ports_used.ensures.0)

pub returns-else-gs-ports_used : goal.returns-else-gs-ports_used
returns-else-gs-ports_used c =
    let v = c.args in
    let nets = v.given.nets.now in
    let trits = v.given.trits.now in
    any_from_yields_List out_of_limits c.any.new.self _ c.any.result c.any.ensures.ran (YieldsList-from_slice v.gs.now cc) (λ x b q k. search (rules, tests))
    ∙ sym (ap (λ (t : Bool). not t || any out_of_limits v.gs.now) (eq-eqb _ _ c.if-gs-ports_used.false))
    ∙ granularities_by v.given.memory nets trits v.gs.now _ (writes_length v.given.memory _ c.well_formed.0.1.1.0 nets ∙ sym c.ports_used.ensures.0)
