-- A merging mux is a mux of the kept bits whose result nets are spread.
use mathlib.Core.Path.{◌≡◌, refl, sym, ap, ◌∙◌}
use Prim.Native.Nat.{ℕ, ◌-◌}
use mathlib.Core.List.{List}
use lib.ListN.{length, take}
use Rattle.lists.specs.Lists.{pairs, up_from}
use Rattle.lists.specs.Distinct.{kept, places}
use Rattle.rules.specs.Limits.{max_merge}
use Rattle.rules.specs.Value.{Value, Control, Pos, Neg}
use Rattle.rules.specs.Log.{Mux, ◌>>=◌, done, mux_by, add_mux_of}
use Rattle.rules.specs.Merge.{Key2, same2, spread, add_dedup_mux_of}
use Rattle.rules.proofs.Chain.{chains_mux}
use Rattle.log_entries.specs.Emission.{Lent, is_over, run}
use Rattle.log_entries.proofs.Emission.{run_same}
use Rattle.merge_keys.specs.declared.Kept.{Kept}
use Rattle.merge_keys.specs.Keys.{firsts, seconds, MergeOf}
use Rattle.merge_mux.specs.Results.{limited, results}
use Rattle.merge_mux.proofs.Limited.{limited_pairs}
use Rattle.merge_mux.proofs.Nets.{request_nets, trace_results}

-- the nets that a mux gives are those up to its next free net
mux_nets_lem : (c : Control) (a b : Value) (n : ℕ) → up_from n ((add_mux_of c a b n).next - n) ≡ (add_mux_of c a b n).value
unfolding add_mux_of mux_by
mux_nets_lem (Pos s) a b n = request_nets (λ first. Mux first s a b) (length a) n
mux_nets_lem (Neg s) a b n = request_nets (λ first. Mux first s b a) (length b) n

-- ---- a mux of kept bits
module _ (c : Control) (a b at out : List ℕ) (to : ℕ) (l l1 : Lent) (e : l1 ≡ run (add_mux_of c a b) l) where
  pub mux_results : results (is_over l1.state) out to (spread at (up_from l.state.next (l1.state.next - l.state.next)))
      ≡ results (is_over l1.state) out to (spread at (add_mux_of c a b l.state.next).value)
  mux_results = trace_results (add_mux_of c a b) (chains_mux c a b) (mux_nets_lem c a b) at out to l l1 e

-- ---- a merging mux
module _ (c : Control) (a b : Value) where
  abbrev ks : List Key2
  ks = kept same2 (pairs a b)

  dedup_run : (l : Lent) → run (add_mux_of c (firsts ks) (seconds ks)) l ≡ run (add_dedup_mux_of c a b) l
  unfolding add_dedup_mux_of
  dedup_run l = sym (run_same (add_mux_of c (firsts ks) (seconds ks)) (spread (places same2 (pairs a b))) l)

  dedup_value : (n : ℕ) → spread (places same2 (pairs a b)) (add_mux_of c (firsts ks) (seconds ks) n).value ≡ (add_dedup_mux_of c a b n).value
  unfolding add_dedup_mux_of ◌>>=◌ done
  dedup_value n = refl

module _ (c : Control) (a b out out' : List ℕ) (to : ℕ) (k : Kept) (f : MergeOf (take max_merge (pairs a b)) k) (l l1 : Lent)
    (e : l1 ≡ run (add_mux_of c k.x.now k.y.now) l) (g : out' ≡ results (is_over l1.state) out to (spread k.at.now (add_mux_of c k.x.now k.y.now l.state.next).value)) where
  pub merged-run : l1 ≡ run (add_dedup_mux_of c (limited a) (limited b)) l
  merged-run = (rw (f.kept_x, f.kept_y, limited_pairs a b) at e) ∙ dedup_run c (limited a) (limited b) l

  pub merged-results : out' ≡ results (is_over l1.state) out to (add_dedup_mux_of c (limited a) (limited b) l.state.next).value
  merged-results = (rw (f.kept_x, f.kept_y, f.placed, limited_pairs a b) at g) ∙ ap (results (is_over l1.state) out to) (dedup_value c (limited a) (limited b) l.state.next)
