-- `table_read::head_table` meets its contract.
use Rattle.table_read.proofs.Tables.{count_small, width_read, wide_refused, good_read, head_refused}
use Rattle.table_read.specs.View.{parsed_of}
use Rattle.table_text.specs.View.{head_of}
use Rattle.std.proofs.Common.{[], ◌∙◌, refl, arith}
use Rattle.table_read.proofs.head_table.Goals as goal

pub returns-then-is_bad_head : goal.returns-then-is_bad_head
unfolding parsed_of
returns-then-is_bad_head c =
    rw c.in_header.ensures (head_refused _ _ (rw c.if-is_bad_head.true at c.is_bad_head.ensures) (λ e. absurd (omega arith)))

pub returns-then-params-gt-MAX_WIDTH : goal.returns-then-params-gt-MAX_WIDTH
unfolding parsed_of
returns-then-params-gt-MAX_WIDTH c =
    rw c.in_header-then-params-gt-MAX_WIDTH.ensures (wide_refused _ _ (rw c.if-is_bad_head.false at c.is_bad_head.ensures) _ refl c.params_of-params.ensures c.if-params-gt-MAX_WIDTH.true)

pub entries_of-entries-requires : goal.entries_of-entries-requires
entries_of-entries-requires c =
    let a = c.args in
    let i = rw c.if-is_bad_head.false at c.is_bad_head.ensures in
    (count_small (record { state = head_of a.end.head; words = a.words.now; rest = [] }) 0 i refl, width_read c.params_of-params.result a.words.now a.end.head.count c.params_of-params.ensures, c.if-params-gt-MAX_WIDTH.false)

pub returns : goal.returns
returns c =
    let i = rw c.if-is_bad_head.false at c.is_bad_head.ensures in
    c.table.ensures ∙ good_read _ _ i _ _ refl c.params_of-params.ensures c.entries_of-entries.ensures.0
