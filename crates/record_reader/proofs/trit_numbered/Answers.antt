-- `record_reader::trit_numbered` meets its contract.
use Rattle.record_reader.proofs.Places.{past_trits, past_bytes, taken}
use mathlib.Core.Path.{refl}
use native.Mathlib.Omega.{arith}
use Rattle.record_reader.proofs.trit_numbered.Goals as goal

pub returns-then-count-at-clause-value : goal.returns-then-count-at-clause-value
returns-then-count-at-clause-value c =
    let a = c.args in
    past_trits a.bytes.now a.at c.head_trits-count.result _ c.head_trits-count.ensures.0 refl c.if-count-at.true

pub overflow_add-value : goal.overflow_add-value
overflow_add-value c = omega (arith, c.array_bytes.ensures.1, c.head_trits-count.ensures.1)

pub returns-then-bytes-value-clause-value : goal.returns-then-bytes-value-clause-value
returns-then-bytes-value-clause-value c =
    let a = c.args in
    past_bytes a.bytes.now a.at c.head_trits-count.result _ c.head_trits-count.ensures.0 c.array_bytes.ensures.0 c.if-bytes-value.true c.if-count-at.false

pub returns-clause-value : goal.returns-clause-value
returns-clause-value c =
    let a = c.args in
    taken a.bytes.now a.at c.head_trits-count.result _ c.head_trits-count.ensures.0 c.array_bytes.ensures.0 c.if-count-at.false c.if-bytes-value.false c.bit_at-k.result c.bit_at-v.result c.trit_by.result c.bit_at-k.ensures c.bit_at-v.ensures c.trit_by.ensures
