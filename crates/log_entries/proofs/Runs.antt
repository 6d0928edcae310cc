-- What each request runs to: what the words of its entry leave.
use mathlib.Core.Path.{◌≡◌, ap, ◌∙◌}
use Prim.Native.Nat.{ℕ}
use mathlib.Core.List.{List, [], ◌∷◌, ◌++◌, append-nil}
use lib.ListN.{length}
use Rattle.rules.specs.Value.{Value}
use Rattle.rules.specs.Cell.{FlipFlop}
use Rattle.rules.specs.Log.{entry, encode, dff_operands, request, add_void_of, add_not_of, add_and_of, add_or_of, mux_by, add_eq_of, add_shl_of, add_ushr_of, add_dff_of, replace_value_of}
use Rattle.rules.specs.Beside.Chain.{result_width}
use Rattle.log_entries.specs.Emission.{Lent, emit_words, emit, run}

module _ (l : Lent) where
  pub run_void : (w : ℕ) → {x : Lent} → x ≡ emit_words l (entry 1 w l.state.next []) w → x ≡ run (add_void_of w) l
  unfolding run emit add_void_of request encode result_width
  run_void w e = e

  -- with nothing after the value
  pub run_not : (a : Value) → {x : Lent} → x ≡ emit_words l (entry 2 (length a) l.state.next (a ++ [])) (length a) → x ≡ run (add_not_of a) l
  unfolding run emit add_not_of request encode result_width
  run_not a e = e ∙ ap (λ (ops : List ℕ). emit_words l (entry 2 (length a) l.state.next ops) (length a)) (append-nil a)

  pub run_and : (a b : Value) → {x : Lent} → x ≡ emit_words l (entry 3 (length a) l.state.next (a ++ b)) (length a) → x ≡ run (add_and_of a b) l
  unfolding run emit add_and_of request encode result_width
  run_and a b e = e

  pub run_or : (a b : Value) → {x : Lent} → x ≡ emit_words l (entry 4 (length a) l.state.next (a ++ b)) (length a) → x ≡ run (add_or_of a b) l
  unfolding run emit add_or_of request encode result_width
  run_or a b e = e

  pub run_mux : (s : ℕ) (a b : Value) → {x : Lent} → x ≡ emit_words l (entry 5 (length a) l.state.next (s ∷ a ++ b)) (length a) → x ≡ run (mux_by s a b) l
  unfolding run emit mux_by request encode result_width
  run_mux s a b e = e

  pub run_eq : (a b : Value) → {x : Lent} → x ≡ emit_words l (entry 6 1 l.state.next (a ++ b)) 1 → x ≡ run (add_eq_of a b) l
  unfolding run emit add_eq_of request encode result_width
  run_eq a b e = e

  pub run_shl : (stride : ℕ) (s a : Value) → {x : Lent} → x ≡ emit_words l (entry 7 (length a) l.state.next (stride ∷ length s ∷ s ++ a)) (length a) → x ≡ run (add_shl_of stride s a) l
  unfolding run emit add_shl_of request encode result_width
  run_shl stride s a e = e

  pub run_ushr : (stride : ℕ) (s a : Value) → {x : Lent} → x ≡ emit_words l (entry 8 (length a) l.state.next (stride ∷ length s ∷ s ++ a)) (length a) → x ≡ run (add_ushr_of stride s a) l
  unfolding run emit add_ushr_of request encode result_width
  run_ushr stride s a e = e

  pub run_dff : (f : FlipFlop) → {x : Lent} → x ≡ emit_words l (entry 9 (length f.bits) l.state.next (dff_operands f)) (length f.bits) → x ≡ run (add_dff_of f) l
  unfolding run emit add_dff_of request encode result_width
  run_dff f e = e

  pub run_replace : (from to : Value) → {x : Lent} → x ≡ emit_words l (entry 10 0 0 (from ++ to)) 0 → x ≡ run (replace_value_of from to) l
  unfolding run emit replace_value_of request encode result_width
  run_replace from to e = e
