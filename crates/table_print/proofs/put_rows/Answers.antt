-- `table_print::put_rows` meets its contract.
use Rattle.table_print.proofs.Putting.{shown_deep, shown_wide, shown_all, length_rows}
use lib.Seq.{sets}
use lib.ListN.{length}
use Prim.Native.Nat.{ℕ}
use mathlib.Core.List.{List}
use mathlib.Core.Logic.{⊎_elim}
use mathlib.Core.Path.{sym, ap, ◌∙◌}
use Rattle.table_print.proofs.put_rows.Goals as goal

pub returns-then-depth-gt-MAX_DEPTH : goal.returns-then-depth-gt-MAX_DEPTH
returns-then-depth-gt-MAX_DEPTH c =
    let a = c.args in
    let e = ⊎_elim (λ d. shown_deep a.depth a.width a.rows.now d) (λ w. shown_wide a.depth a.width a.rows.now w.0 w.1) c.then-depth-gt-MAX_DEPTH.either in
    (ap (λ (l : List ℕ). sets a.out.now 0 l) e, ap (λ (l : List ℕ). length l) e)

pub returns : goal.returns
returns c =
    let a = c.args in let e = shown_all a.depth a.width a.rows.now c.if-depth-gt-MAX_DEPTH.false c.if-width-gt-MAX_WIDTH.false in (c.put_all.ensures.0 ∙ ap (λ (l : List ℕ). sets a.out.now 0 l) e, c.put_all.ensures.1 ∙ sym (length_rows a.width a.rows.now 0 a.depth) ∙ ap (λ (l : List ℕ). length l) e)
