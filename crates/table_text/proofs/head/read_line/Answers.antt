-- `table_text::head::read_line` meets its contract.
use Rattle.table_text.proofs.Runs.{head_turn, head_stop, head_end_lem, length_head_stored}
use Rattle.table_text.specs.Head.{Head, head_step_of, head_run}
use Rattle.table_text.specs.View.{head_of}
use lib.ListN.{length, drop}
use native.Mathlib.Omega.{arith}
use Prim.Native.Nat.{ℕ, ◌+◌}
use mathlib.Core.List.{List, [], ◌∷◌, ◌++◌}
use mathlib.Core.Path.{◌≡◌, refl, sym, ap, ◌∙◌}
use Rattle.table_text.proofs.head.read_line.Goals as goal

pub loop-at-init : goal.loop-at-init
loop-at-init c =
    let a = c.args in (refl, ap (λ (h : Head). head_run h a.words.now (a.text.now ++ (10 ∷ []))) c.new-head.ensures)

pub shape_of-words-then-is_read : goal.shape_of-words-then-is_read
shape_of-words-then-is_read c = c.loop-at.invariant.0

pub returns-then-is_read : goal.returns-then-is_read
returns-then-is_read c = let l = c.loop-at in sym l.invariant.1 ∙ head_stop (head_of l.head) l.words _ (sym c.is_read.ensures ∙ c.if-is_read.true)

pub loop-at-preserved : goal.loop-at-preserved
loop-at-preserved c =
    let l = c.loop-at in
    let t = c.args.text.now in
    let b = c.byte_at-b.result in (
      ap length c.store.ensures ∙ length_head_stored (head_of l.head) b l.words ∙ l.invariant.0,
      ap (λ (h : Head). head_run h c.store.new.words (drop (l.at + 1) (t ++ (10 ∷ [])))) c.step-head.ensures
          ∙ ap (λ (ws : List ℕ). head_run (head_step_of (head_of l.head) b) ws (drop (l.at + 1) (t ++ (10 ∷ [])))) c.store.ensures
          ∙ head_turn (head_of l.head) l.words t l.at b (omega arith) c.byte_at-b.ensures (sym c.is_read.ensures ∙ c.if-is_read.false) ∙ l.invariant.1,
    )

pub shape_of-words : goal.shape_of-words
shape_of-words c = c.loop-at.invariant.0

pub returns : goal.returns
returns c =
    let l = c.loop-at in
    let t = c.args.text.now in
    let z : l.at ≡ length t + 1 = omega arith in
    sym l.invariant.1 ∙ head_end_lem (head_of l.head) l.words t l.at (omega arith)
    ∙ ap (λ (n : ℕ). record { state = head_of l.head; words = l.words; rest = drop n (t ++ (10 ∷ [])) }) z
