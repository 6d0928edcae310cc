-- The entry of a flip-flop from the parts that are stored, and its words where they are counted only up to more than a log has.
use mathlib.Core.Path.{◌≡◌, sym, ap, ◌∙◌}
use Prim.Native.Nat.{ℕ, ◌+◌, min}
use native.Mathlib.Omega.{arith}
use mathlib.Core.Bool.{true, false}
use mathlib.Core.List.{List, [], ◌∷◌, ◌++◌, append_assoc, append-nil}
use lib.ListN.{length, length-append}
use lib.Seq.{sets}
use Rattle.lists.proofs.Choice.{cases_le}
use Rattle.lists.proofs.Stores.{sets_then}
use Rattle.rules.specs.Limits.{max_words}
use Rattle.rules.specs.Cell.{FlipFlop}
use Rattle.rules.specs.Log.{entry, dff_operands, add_dff_of, LogState}
use Rattle.rules.specs.Beside.Decode.{controls_words}
use Rattle.rules.proofs.Entries.{length_operands}
use Rattle.rules.proofs.Decode.{operands_right, length_controls}
use Rattle.log_entries.specs.Emission.{Lent, counts, advanced, overflowed, run}
use Rattle.log_entries.proofs.Emission.{count_words, counted, entry_is, entry-over, entry_stored}
use Rattle.log_entries.proofs.Runs.{run_dff}

module _ (f : FlipFlop) where
  -- how many operands
  abbrev pub operands : ℕ
  operands = length f.bits + (9 + (length f.clear_value + (length f.reset_value + length f.init_value)))

  pub operands_are : operands ≡ length (dff_operands f)
  operands_are = omega (arith, length_operands f)

  -- head, data and controls, then the trits
  pub dff_stored : (l l1 l2 nine : List ℕ) (at first n : ℕ) → n ≡ operands → nine ≡ controls_words f.controls
      → l1 ≡ sets l at ((9 ∷ length f.bits ∷ first ∷ n ∷ []) ++ (f.bits ++ (nine ++ [])))
      → l2 ≡ sets l1 (at + (13 + length f.bits)) (f.clear_value ++ (f.reset_value ++ f.init_value))
      → l2 ≡ sets l at (entry 9 (length f.bits) first (dff_operands f))
  unfolding entry
  dff_stored l l1 l2 nine at first n e g p q =
      let h : List ℕ = 9 ∷ length f.bits ∷ first ∷ n ∷ [] in
      let t = f.clear_value ++ (f.reset_value ++ f.init_value) in
      let w = f.bits ++ (nine ++ []) in
      let size : at + (13 + length f.bits) ≡ at + length (h ++ w) = omega (arith, sizes nine g) in
      sets_then l l1 l2 at (at + (13 + length f.bits)) (h ++ w) t p q size
      ∙ ap (λ (x : List ℕ). sets l at (9 ∷ length f.bits ∷ first ∷ x)) (tail nine n e g)
    where
      sizes : (m : List ℕ) → m ≡ controls_words f.controls → length (f.bits ++ (m ++ [])) ≡ length f.bits + 9
      sizes m y = rw (y, append-nil) (length-append f.bits (controls_words f.controls) ∙ ap (λ (k : ℕ). length f.bits + k) (length_controls f.controls))

      tail : (m : List ℕ) (k : ℕ) → k ≡ operands → m ≡ controls_words f.controls
          → k ∷ ((f.bits ++ (m ++ [])) ++ (f.clear_value ++ (f.reset_value ++ f.init_value))) ≡ length (dff_operands f) ∷ dff_operands f
      tail m k x y =
          let w : (f.bits ++ (m ++ [])) ++ (f.clear_value ++ (f.reset_value ++ f.init_value)) ≡ dff_operands f =
          rw (y, append-nil) (append_assoc f.bits (controls_words f.controls) (f.clear_value ++ (f.reset_value ++ f.init_value)) ∙ sym (operands_right f)) in
          ap (λ (j : ℕ). j ∷ ((f.bits ++ (m ++ [])) ++ (f.clear_value ++ (f.reset_value ++ f.init_value)))) (x ∙ operands_are) ∙ ap (λ (r : List ℕ). length (dff_operands f) ∷ r) w

-- the same is counted where a sum is cut above what can be
pub counts-cut : (s : LogState) (d t k : ℕ) → counts s (4 + (d + (9 + min t (max_words + 1)))) k ≡ counts s (4 + (d + (9 + t))) k
counts-cut s d t k =
    cases_le t (max_words + 1) (λ h. let e : min t (max_words + 1) ≡ t = omega arith in rw e)
    (λ h. sym (count_words s _ k (omega arith)) ∙ count_words s _ k (omega arith))

pub cut_none : (s : LogState) (d t k : ℕ) → counts s (4 + (d + (9 + min t (max_words + 1)))) k ≡ true → min t (max_words + 1) ≡ t
cut_none s d t k e = let h = counted s _ k e in omega arith

-- ---- the request
module _ (l : Lent) (f : FlipFlop) (trits : ℕ) (e : trits ≡ min (length f.clear_value + (length f.reset_value + length f.init_value)) (max_words + 1)) where
  abbrev size : ℕ
  size = length f.bits

  dff_counts : counts l.state (4 + (size + (9 + trits))) size ≡ counts l.state (4 + operands f) size
  dff_counts = rw e (counts-cut l.state size _ size)

  pub dff_over : (s : LogState) → counts l.state (4 + (size + (9 + trits))) size ≡ false → s ≡ overflowed l.state
      → record { log = l.log; state = s; name = l.name } ≡ run (add_dff_of f) l
  dff_over s c h = run_dff l f (entry-over l 9 size l.state.next (operands f) (dff_operands f) (operands_are f) s (sym dff_counts ∙ c) h)

  -- nothing was cut
  pub dff_whole : counts l.state (4 + (size + (9 + trits))) size ≡ true → trits ≡ length f.clear_value + (length f.reset_value + length f.init_value)
  dff_whole c = e ∙ cut_none l.state size _ size (rw e at c)

  pub dff_emitted : (log : List ℕ) → counts l.state (4 + (size + (9 + trits))) size ≡ true → log ≡ sets l.log l.state.used (entry 9 size l.state.next (dff_operands f))
      → record { log = log; state = advanced l.state (4 + (size + (9 + trits))) size; name = l.name } ≡ run (add_dff_of f) l
  dff_emitted log c h =
      ap (λ (m : ℕ). record { log = log; state = advanced l.state (4 + (size + (9 + m))) size; name = l.name }) (dff_whole c)
      ∙ run_dff l f (entry_stored l 9 size l.state.next (operands f) (dff_operands f) (operands_are f) log (sym dff_counts ∙ c)
      (h ∙ ap (sets l.log l.state.used) (sym (entry_is l 9 size l.state.next (operands f) (dff_operands f) (operands_are f)))))
