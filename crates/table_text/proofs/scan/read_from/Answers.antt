-- `table_text::scan::read_from` meets its contract.
use Rattle.table_text.proofs.Closed.{step_reads}
use Rattle.table_text.proofs.Runs.{scan_turn, scan_end, length_scan_stored}
use Rattle.table_text.specs.Scan.{Scan, scan_step_of, scan_run}
use Rattle.table_text.specs.View.{scan_of}
use lib.Dec.{eqb}
use lib.ListN.{length, drop}
use native.Mathlib.Omega.{arith}
use Prim.Native.Nat.{ℕ, ◌+◌}
use mathlib.Core.List.{List, [], ◌∷◌, ◌++◌}
use mathlib.Core.Path.{refl, sym, ap, ◌∙◌}
use Rattle.table_text.proofs.scan.read_from.Goals as goal

pub loop-i-init : goal.loop-i-init
loop-i-init c =
    let a = c.args in (refl, ap (λ (s : Scan). eqb s.kind 8) c.new-scan.ensures, ap (λ (s : Scan). scan_run a.size.depth a.size.width s a.rows.now (drop a.from (a.text.now ++ (10 ∷ [])))) c.new-scan.ensures)

pub step-scan-requires : goal.step-scan-requires
step-scan-requires c = c.loop-i.invariant.1

pub loop-i-preserved : goal.loop-i-preserved
loop-i-preserved c =
    let l = c.loop-i in
    let a = c.args in
    let t = a.text.now in
    let b = c.byte_at-b.result in (
      ap length c.store.ensures ∙ length_scan_stored a.size.depth a.size.width (scan_of l.scan) b l.rows ∙ l.invariant.0,
      ap (λ (s : Scan). eqb s.kind 8) c.step-scan.ensures ∙ step_reads a.size.depth a.size.width (scan_of l.scan) b l.invariant.1,
      ap (λ (s : Scan). scan_run a.size.depth a.size.width s c.store.new.rows (drop (l.i + 1) (t ++ (10 ∷ [])))) c.step-scan.ensures
          ∙ ap (λ (rs : List ℕ). scan_run a.size.depth a.size.width (scan_step_of a.size.depth a.size.width (scan_of l.scan) b) rs (drop (l.i + 1) (t ++ (10 ∷ [])))) c.store.ensures
          ∙ scan_turn a.size.depth a.size.width (scan_of l.scan) l.rows t l.i b (omega arith) c.byte_at-b.ensures ∙ l.invariant.2,
    )

pub shape_of-rows : goal.shape_of-rows
shape_of-rows c = c.loop-i.invariant.0

pub returns : goal.returns
returns c =
    let l = c.loop-i in let a = c.args in sym l.invariant.2 ∙ scan_end a.size.depth a.size.width (scan_of l.scan) l.rows a.text.now l.i (omega arith)
