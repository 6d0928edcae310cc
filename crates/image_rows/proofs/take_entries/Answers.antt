-- `image_rows::take_entries` meets its contract.
use mathlib.Core.Path.{refl, sym, ap, ◌∙◌, subst}
use Prim.Native.Nat.{◌+◌}
use native.Mathlib.Nat.{le_of_lt}
use lib.Dec.{eqb}
use lib.ListN.{get_or}
use Rattle.rules.specs.Limits.{None, trit_x}
use Rattle.rules.specs.Image.{put}
use Rattle.image_rows.specs.Steps.{Low, index_from, next_of}
use Rattle.image_rows.specs.declared.Cursor.{Cursor}
use Rattle.image_rows.proofs.Cursors.{after_suc, after_zero}
use Rattle.image_rows.proofs.Taking.{take_again, take_end}
use native.Mathlib.Omega.{arith}
use Rattle.image_rows.proofs.take_entries.Goals as goal

pub loop-entry-init : goal.loop-entry-init
loop-entry-init c = (after_zero _ _, refl)

pub overflow_add-c : goal.overflow_add-c
overflow_add-c c =
    let low : Low c.loop-entry.c c.args.g = subst (λ (x : Cursor). Low x c.args.g) (sym c.loop-entry.invariant.0) (c.requires.each c.loop-entry.entry-index (le_of_lt c.loop-entry-test.true)) in
    omega (arith, low.start_max, low.bit_under, low.unit_max)

pub next-c-requires : goal.next-c-requires
next-c-requires c =
    let low : Low c.loop-entry.c c.args.g = subst (λ (x : Cursor). Low x c.args.g) (sym c.loop-entry.invariant.0) (c.requires.each c.loop-entry.entry-index (le_of_lt c.loop-entry-test.true)) in
    low

pub loop-entry-preserved : goal.loop-entry-preserved
loop-entry-preserved c =
    let a = c.args in
    let l = c.loop-entry in (
      c.next-c.ensures ∙ ap (next_of a.g) l.invariant.0 ∙ after_suc a.g a.first l.entry-index,
      take_again (index_from a.g a.first) a.image.now a.entries.now l.entry-index l.room _ _ c.loop-entry-test.true
          (c.take_trit.ensures ∙ ap (λ (x : Cursor). put (eqb (get_or a.entries.now l.entry-index 0) None) (get_or a.entries.now l.entry-index 0) (get_or a.image.now (x.start + x.bit) trit_x) l.room) l.invariant.0) l.invariant.1,
    )

pub returns : goal.returns
returns c =
    let l = c.loop-entry in
    sym (take_end _ _ c.args.entries.now l.entry-index l.room c.loop-entry-test.false) ∙ l.invariant.1
