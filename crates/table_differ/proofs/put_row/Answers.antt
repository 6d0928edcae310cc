-- `table_differ::put_row` meets its contract.
use Rattle.table_differ.proofs.Lines.{pointwise_same, no_line, a_line, no_count, a_count, nothing}
use Rattle.table_differ.specs.Differ.{diff_of}
use Rattle.record_listing.proofs.Puts.{added_as}
use mathlib.Core.Path.{refl, ◌∙◌}
use native.Mathlib.Omega.{arith}
use Rattle.table_differ.proofs.put_row.Goals as goal

pub returns-then-eq : goal.returns-then-eq
returns-then-eq c =
    let a = c.args in
    let e = c.if-eq.ensures ∙ pointwise_same a.x.now a.y.now in (
      added_as (diff_of a.size.width a.row a.x.now a.y.now) (no_line a.size.width a.row a.x.now a.y.now e) (record { put = nothing a.text.now.out.now a.text.now.at; name = refl }),
      omega (arith, no_count a.x.now a.y.now e),
      omega arith,
      omega arith,
    )

pub returns : goal.returns
returns c =
    let a = c.args in
    let e = c.if-eq.ensures ∙ pointwise_same a.x.now a.y.now in
    (added_as (diff_of a.size.width a.row a.x.now a.y.now) (a_line a.size.width a.row a.x.now a.y.now e) c.put_line.ensures.0, omega (arith, a_count a.x.now a.y.now e), c.put_line.ensures.1, omega arith)
