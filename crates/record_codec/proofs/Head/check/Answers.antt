-- `record_codec::Head::check` meets its contract.
use Rattle.rules.specs.Conditions.{bad_sizes}
use Rattle.rules.specs.Refusals.{header_refusal}
use Rattle.record_reader.proofs.Runs.{head_words_lem}
use Rattle.record_codec.proofs.Reading.{head_there}
use Rattle.lists.proofs.Choice.{hit, miss}
use mathlib.Core.Path.{refl, sym, ap, ◌∙◌}
use Rattle.record_codec.proofs.Head.check.Goals as goal

pub returns-then-is_bad : goal.returns-then-is_bad
unfolding header_refusal
returns-then-is_bad c = hit 16 _ (sym c.is_bad.ensures ∙ c.if-is_bad.true)

pub returns-then-is_bad-2 : goal.returns-then-is_bad-2
unfolding header_refusal
returns-then-is_bad-2 c =
    let b = c.args.self.now.bytes.now in
    let g = sym c.is_bad.ensures ∙ c.if-is_bad.false in
    let z = c.sizes.ensures.0 ∙ head_words_lem b (head_there b c.args.total g) c.args.self.now.words c.args.self.now.read in
    miss 16 _ 17 g (hit 17 0 (sym (c.is_bad-2.ensures ∙ ap bad_sizes z) ∙ c.if-is_bad-2.true))

pub returns : goal.returns
unfolding header_refusal
returns c =
    let b = c.args.self.now.bytes.now in
    let g = sym c.is_bad.ensures ∙ c.if-is_bad.false in
    let z = c.sizes.ensures.0 ∙ head_words_lem b (head_there b c.args.total g) c.args.self.now.words c.args.self.now.read in
    miss 16 _ 0 g (miss 17 0 0 (sym (c.is_bad-2.ensures ∙ ap bad_sizes z) ∙ c.if-is_bad-2.false) refl)
