-- `record_reader::Reader::put_rest` meets its contract.
use Rattle.record_reader.proofs.Arrays.{tests, no_trits_lem, past_last, goes_on, inside, alike, stored, nothing_there, take_most}
use mathlib.Core.Path.{◌≡◌, sym, ◌∙◌}
use mathlib.Core.Bool.{true}
use native.Mathlib.Omega.{arith}
use borrow.Author.Tests.{not-true, not-false}
use Rattle.record_reader.specs.Reading.{has_trits}
use mathlib.Core.Path.{ap}
use mathlib.Core.Bool.{not}
use Rattle.record_reader.proofs.Reader.put_rest.Goals as goal

pub returns-then-not-has_trits : goal.returns-then-not-has_trits
returns-then-not-has_trits c =
    let a = c.args in
    nothing_there a.count a.self.bytes.now a.self.at a.image.now (no_trits_lem a.count a.self.bytes.now a.self.at (sym c.has_trits.ensures ∙ not-true _ (ap not c.if-not-has_trits.true)))

pub overflow_sub-from : goal.overflow_sub-from
overflow_sub-from c =
    let a = c.args in
    let e : has_trits a.count a.self.bytes.now a.self.at ≡ true = sym c.has_trits.ensures ∙ not-false _ (ap not c.if-not-has_trits.false) in
    (tests a.count a.self.bytes.now a.self.at e).0

pub returns-then-count-from : goal.returns-then-count-from
returns-then-count-from c =
    let a = c.args in
    let e : has_trits a.count a.self.bytes.now a.self.at ≡ true = sym c.has_trits.ensures ∙ not-false _ (ap not c.if-not-has_trits.false) in
    nothing_there a.count a.self.bytes.now a.self.at a.image.now (past_last a.count a.self.bytes.now a.self.at e c.if-count-from.true)

pub slice_bounds-put_groups-count : goal.slice_bounds-put_groups-count
slice_bounds-put_groups-count c =
    let a = c.args in
    let e : has_trits a.count a.self.bytes.now a.self.at ≡ true = sym c.has_trits.ensures ∙ not-false _ (ap not c.if-not-has_trits.false) in
    let i = inside a.count a.self.bytes.now a.self.at e c.if-count-from.false c.array_bytes-middle.result c.array_bytes-middle.ensures.0 in
    i.0

pub slice_bounds-put_groups-start : goal.slice_bounds-put_groups-start
slice_bounds-put_groups-start c =
    let a = c.args in
    let e : has_trits a.count a.self.bytes.now a.self.at ≡ true = sym c.has_trits.ensures ∙ not-false _ (ap not c.if-not-has_trits.false) in
    let i = inside a.count a.self.bytes.now a.self.at e c.if-count-from.false c.array_bytes-middle.result c.array_bytes-middle.ensures.0 in
    i.0

pub slice_bounds-put_groups-end : goal.slice_bounds-put_groups-end
slice_bounds-put_groups-end c =
    let a = c.args in
    let e : has_trits a.count a.self.bytes.now a.self.at ≡ true = sym c.has_trits.ensures ∙ not-false _ (ap not c.if-not-has_trits.false) in
    let i = inside a.count a.self.bytes.now a.self.at e c.if-count-from.false c.array_bytes-middle.result c.array_bytes-middle.ensures.0 in
    i.1

pub slice_bounds-put_groups-count-2 : goal.slice_bounds-put_groups-count-2
slice_bounds-put_groups-count-2 c =
    let a = c.args in
    let e : has_trits a.count a.self.bytes.now a.self.at ≡ true = sym c.has_trits.ensures ∙ not-false _ (ap not c.if-not-has_trits.false) in
    let i = inside a.count a.self.bytes.now a.self.at e c.if-count-from.false c.array_bytes-middle.result c.array_bytes-middle.ensures.0 in
    i.2

pub slice_bounds-put_groups-start-2 : goal.slice_bounds-put_groups-start-2
slice_bounds-put_groups-start-2 c =
    let a = c.args in
    let e : has_trits a.count a.self.bytes.now a.self.at ≡ true = sym c.has_trits.ensures ∙ not-false _ (ap not c.if-not-has_trits.false) in
    let i = inside a.count a.self.bytes.now a.self.at e c.if-count-from.false c.array_bytes-middle.result c.array_bytes-middle.ensures.0 in
    i.2

pub put_groups-requires : goal.put_groups-requires
put_groups-requires c =
    let a = c.args in
    let e : has_trits a.count a.self.bytes.now a.self.at ≡ true = sym c.has_trits.ensures ∙ not-false _ (ap not c.if-not-has_trits.false) in
    let l = alike a.count a.self.bytes.now a.self.at e c.if-count-from.false c.array_bytes-middle.result c.array_bytes-middle.ensures.0 in
    (l, take_most _ _ _ _ c.array_bytes-middle.ensures.1)

pub overflow_add-result : goal.overflow_add-result
overflow_add-result c =
    let a = c.args in
    let e : has_trits a.count a.self.bytes.now a.self.at ≡ true = sym c.has_trits.ensures ∙ not-false _ (ap not c.if-not-has_trits.false) in
    record { fits = omega (arith, (tests a.count a.self.bytes.now a.self.at e).3) }

pub returns : goal.returns
returns c =
    let a = c.args in
    let e : has_trits a.count a.self.bytes.now a.self.at ≡ true = sym c.has_trits.ensures ∙ not-false _ (ap not c.if-not-has_trits.false) in
    (c.put_groups.ensures ∙ stored a.count a.self.bytes.now a.self.at e c.if-count-from.false c.array_bytes-middle.result c.array_bytes-middle.ensures.0 a.image.now, goes_on a.count a.self.bytes.now a.self.at e c.if-count-from.false)
