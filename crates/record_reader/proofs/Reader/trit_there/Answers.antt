-- `record_reader::Reader::trit_there` meets its contract.
use mathlib.Core.Path.{◌∙◌}
use Rattle.record_reader.proofs.Places.{before-trits, behind_head}
use Rattle.record_reader.proofs.Reader.trit_there.Goals as goal

pub returns-then-self-lt-HEAD_BYTES-clause-value : goal.returns-then-self-lt-HEAD_BYTES-clause-value
returns-then-self-lt-HEAD_BYTES-clause-value c = before-trits _ _ c.if-self-lt-HEAD_BYTES.true

pub returns-clause-value : goal.returns-clause-value
returns-clause-value c = c.trit_numbered.ensures.value ∙ behind_head _ _ c.if-self-lt-HEAD_BYTES.false
