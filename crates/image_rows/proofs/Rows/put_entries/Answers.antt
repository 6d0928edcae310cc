-- `image_rows::Rows::put_entries` meets its contract.
use mathlib.Core.Path.{refl, sym, ◌∙◌, subst}
use native.Mathlib.Omega.{arith}
use native.Mathlib.Nat.{le_of_lt}
use Rattle.rules.proofs.Writes.{row_end}
use Rattle.image_rows.specs.Steps.{Low, index_from}
use Rattle.image_rows.specs.declared.Cursor.{Cursor}
use Rattle.image_rows.proofs.Sizing.{few}
use Rattle.image_rows.proofs.Cursors.{after_zero}
use Rattle.image_rows.proofs.Runs.{run_next, follows_to}
use Rattle.image_rows.proofs.Rows.put_entries.Goals as goal

pub loop-i-init : goal.loop-i-init
loop-i-init c = (omega arith, refl, after_zero _ _, refl)

pub run_length-count-requires : goal.run_length-count-requires
run_length-count-requires c =
    let low : Low c.loop-i.c c.args.self.steps = subst (λ (x : Cursor). Low x c.args.self.steps) (sym c.loop-i.invariant.2) (c.requires.lows.each c.loop-i.i (le_of_lt c.loop-i-test.true)) in
    (low.bit_under, omega (arith, c.loop-i-test.true))

pub overflow_add-to : goal.overflow_add-to
overflow_add-to c = omega (arith, c.run_length-count.ensures.1, c.loop-i-test.true, few c.args.self.ready)

pub overflow_add-c : goal.overflow_add-c
overflow_add-c c =
    let low : Low c.loop-i.c c.args.self.steps = subst (λ (x : Cursor). Low x c.args.self.steps) (sym c.loop-i.invariant.2) (c.requires.lows.each c.loop-i.i (le_of_lt c.loop-i-test.true)) in
    omega (arith, low.start_max, low.bit_under, low.unit_max)

pub put_run-requires : goal.put_run-requires
put_run-requires c =
    let low : Low c.loop-i.c c.args.self.steps = subst (λ (x : Cursor). Low x c.args.self.steps) (sym c.loop-i.invariant.2) (c.requires.lows.each c.loop-i.i (le_of_lt c.loop-i-test.true)) in
    record {
      run_of = record {
        place_max = omega (arith, low.start_max, low.bit_under, low.unit_max);
        forward = omega arith;
        within = omega (arith, c.run_length-count.ensures.1, c.loop-i-test.true);
        short = few c.args.self.ready;
      };
    }

pub after_run-c-requires : goal.after_run-c-requires
after_run-c-requires c =
    let low : Low c.loop-i.c c.args.self.steps = subst (λ (x : Cursor). Low x c.args.self.steps) (sym c.loop-i.invariant.2) (c.requires.lows.each c.loop-i.i (le_of_lt c.loop-i-test.true)) in
    (low, c.run_length-count.ensures.0, c.run_length-count.ensures.2)

pub loop-i-preserved : goal.loop-i-preserved
loop-i-preserved c =
    let a = c.args in
    let l = c.loop-i in
    let r = c.run_length-count.ensures in (
      omega (arith, r.1, c.loop-i-test.true),
      c.put_run.auto.image ∙ l.invariant.1,
      c.after_run-c.ensures ∙ run_next a.self.steps a.first l.c l.i _ l.invariant.2 r.2 r.0,
      c.put_run.ensures (index_from a.self.steps a.first) (follows_to a.self.steps a.first l.c l.i _ l.invariant.2 r.2) ∙ l.invariant.3,
    )

pub shape_of-image : goal.shape_of-image
shape_of-image c = c.loop-i.invariant.1

pub returns : goal.returns
returns c =
    let l = c.loop-i in
    sym (row_end _ _ c.args.self.layout.entries.now l.i l.image c.loop-i-test.false) ∙ l.invariant.3
