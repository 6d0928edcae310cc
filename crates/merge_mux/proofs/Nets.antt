-- The result nets of a trace are those up to its next free net, and so what a run leaves in the room for them.
use mathlib.Core.Path.{◌≡◌, refl, sym, ap, ◌∙◌}
use Prim.Native.Nat.{ℕ, ◌+◌, ◌-◌}
use native.Mathlib.Omega.{arith}
use mathlib.Core.List.{List}
use Rattle.lists.specs.Lists.{up_from}
use Rattle.rules.specs.Value.{Value}
use Rattle.rules.specs.Log.{Entry, Trace, request}
use Rattle.rules.specs.Beside.Chain.{Chains}
use Rattle.rules.specs.Merge.{spread}
use Rattle.log_entries.specs.Emission.{Lent, is_over, run}
use Rattle.log_entries.proofs.Emission.{run_next}
use Rattle.merge_mux.specs.Results.{results}
use Rattle.merge_mux.proofs.Spread.{results_same}

up_less : (n k m : ℕ) → m ≡ n + k → up_from n (m - n) ≡ up_from n k
up_less n k m e = let q : m - n ≡ k = omega arith in rw q

pub request_nets : (e : ℕ → Entry) (k n : ℕ) → up_from n ((request e k n).next - n) ≡ (request e k n).value
unfolding request
request_nets e k n = up_less n k (n + k) refl

module _ (t : Trace Value) (c : Chains t) (nets : (n : ℕ) → up_from n ((t n).next - n) ≡ (t n).value) (at out : List ℕ) (to : ℕ) (l l1 : Lent) (e : l1 ≡ run t l) where
  pub trace_results : results (is_over l1.state) out to (spread at (up_from l.state.next (l1.state.next - l.state.next)))
      ≡ results (is_over l1.state) out to (spread at (t l.state.next).value)
  trace_results =
      results_same (is_over l1.state) out to _ _ (λ o.
      let q : l1.state.next ≡ (t l.state.next).next =
      ap (λ (x : Lent). x.state.next) e ∙ run_next t l c (sym (ap (λ (x : Lent). is_over x.state) e) ∙ o) in
      ap (spread at) (ap (λ (m : ℕ). up_from l.state.next (m - l.state.next)) q ∙ nets l.state.next))
