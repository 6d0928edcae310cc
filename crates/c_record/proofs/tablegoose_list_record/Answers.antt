-- `c_record::tablegoose_list_record` meets its contract.
use mathlib.Core.Path.{◌∙◌, ap}
use Rattle.rules.specs.Answers.{Listed}
use Rattle.c_net.specs.View.{count_struct}
use Rattle.c_record.proofs.tablegoose_list_record.Goals as goal

pub returns : goal.returns
returns c =
    let e = c.list_record.ensures in
    (c.count_result.ensures ∙ ap count_struct (ap (λ (l : Listed). l.answer) e), ap (λ (l : Listed). l.out) e)
