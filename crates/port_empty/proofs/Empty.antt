-- The outputs after replaced by X; and that the whole is the rules' swizzle of depth 0.
use mathlib.Core.Path.{◌≡◌, sym, ap, ◌∙◌}
use Prim.Native.Nat.{ℕ, ◌*◌, ◌<◌, ◌≤◌}
use native.Mathlib.Omega.{arith}
use mathlib.Core.Bool.{Bool, false}
use mathlib.Core.List.{List, [], ◌∷◌, ◌++◌}
use lib.ListN.{length, take, replicate, length-replicate}
use lib.Seq.{sets, length-take-le}
use lib.Dec.{ltb}
use borrow.Author.Tests.{lt-ltb, le-ltb, eqb-true, not-false}
use Rattle.lists.specs.Choice.{when◌then◌else◌}
use Rattle.lists.specs.Lists.{any, sum_by}
use Rattle.lists.proofs.Choice.{or_false}
use Rattle.lists.proofs.Parts.{part_replicate}
use Rattle.rules.specs.Limits.{X, max_outputs}
use Rattle.rules.specs.Value.{Value, x_nets}
use Rattle.rules.specs.Cell.{ReadPort, Mem, output_len}
use Rattle.rules.specs.Conditions.{bad_read_shape, bad_output_len}
use Rattle.rules.specs.Log.{Trace, ◌>>=◌, ◌>>◌, done, replace_value_of, LogState}
use Rattle.rules.specs.Beside.Chain.{Chains}
use Rattle.rules.specs.Ports.{Driving, unmap_all}
use Rattle.rules.specs.Swizzle.{swizzle_empty}
use Rattle.rules.specs.Refusals.{log_refusal}
use Rattle.rules.proofs.Chain.{chains_replace, chains_bind, chains_then, chains_done, chains_if}
use Rattle.log_entries.specs.Emission.{Lent, run}
use Rattle.log_entries.proofs.Emission.{run-done, run_then, run_same}
use Rattle.port_transparency.specs.Gave.{Gave}
use Rattle.port_overlay.proofs.Fits.{reads_shaped}
use Rattle.port_unmap_all.specs.All.{unmapped_all, all_bare, AllReady}
use Rattle.port_unmap_all.proofs.Fold.{Like}
use Rattle.port_unmap_all.proofs.Walk.{chains_unmapped}
use Rattle.port_unmap_all.proofs.Rules.{size_few, room_gave, rules_like}
use Rattle.port_empty.specs.Empty.{emptied, emptied_if}

-- ---- the X nets
pub unknown_is : (n s : ℕ) → n ≤ s → take n (replicate s X) ≡ x_nets n
unfolding x_nets
unknown_is n s h = part_replicate 0 n s X (omega arith)

-- ---- in sequence
pub chains_empty : (m : Mem) (output : Value) → Chains (emptied_if m output)
unfolding emptied_if emptied
chains_empty m output =
    chains_if (ltb max_outputs (length output)) _ _ (chains_done [])
    (chains_bind _ _ (chains_unmapped m output output) (λ v. chains_then _ _ (chains_replace v (x_nets (length v))) (chains_done [])))

-- ---- the code's run
module _ (m : Mem) (output : Value) (l : Lent) where
  pub empty_many : max_outputs < length output → l ≡ run (emptied_if m output) l
  unfolding emptied_if
  empty_many h = sym (ap (λ (b : Bool). run (when b then done [] else emptied m output) l) (lt-ltb max_outputs (length output) h) ∙ run-done [] l)

  empty_few : (l2 : Lent) → length output ≤ max_outputs → l2 ≡ run (emptied m output) l → l2 ≡ run (emptied_if m output) l
  unfolding emptied_if
  empty_few l2 h e = e ∙ sym (ap (λ (b : Bool). run (when b then done [] else emptied m output) l) (le-ltb max_outputs (length output) h))

  then_none : (v : Value) (l1 : Lent) → run (replace_value_of v (x_nets (length v))) l1 ≡ run (replace_value_of v (x_nets (length v)) >> done {A = List Driving} []) l1
  unfolding ◌>>◌
  then_none v l1 = sym (run_same (replace_value_of v (x_nets (length v))) (λ x. []) l1)

  replaced : (v : Value) (l1 l2 : Lent) → Gave (unmapped_all m output output) l l1 v → l2 ≡ run (replace_value_of v (x_nets (length v))) l1 → l2 ≡ run (emptied m output) l
  unfolding emptied
  replaced v l1 l2 g e = run_then l l1 l2 (unmapped_all m output output) _ v (chains_unmapped m output output) g.ran g.value (e ∙ then_none v l1)

  pub empty_ran : (room after : Value) (l1 l2 : Lent) (n : ℕ) → n ≡ length output → n ≤ max_outputs → length room ≡ max_outputs → length after ≡ length room
      → Gave (unmapped_all m output (sets room 0 output)) l l1 after → l2 ≡ run (replace_value_of (take n after) (x_nets n)) l1 → l2 ≡ run (emptied_if m output) l
  empty_ran room after l1 l2 n en h er ea g e =
      let k : length (take n after) ≡ n = length-take-le n after (omega arith) in
      let q : take n after ≡ take (length output) after = ap (λ (j : ℕ). take j after) en in
      empty_few l2 (omega arith)
      (replaced (take (length output) after) l1 l2 (room_gave m output room l l1 after (omega arith) g)
      (e ∙ ap (λ (j : ℕ). run (replace_value_of (take n after) (x_nets j)) l1) (sym k) ∙ ap (λ (v : Value). run (replace_value_of v (x_nets (length v))) l1) q))

-- ---- the rules'
abbrev rest : Value → Trace (List Driving)
rest v = replace_value_of v (x_nets (length v)) >> done []

module _ (m : Mem) (a : AllReady m) (output : Value) where
  by_like : (k : ℕ) → Like (all_bare m) (unmap_all m output k) (unmapped_all m output output k) → emptied m output k ≡ swizzle_empty m output k
  unfolding emptied swizzle_empty ◌>>=◌
  by_like k c = λ j. record {
    value = (rest (sym c.output_is j) (sym c.next_is j)).value;
    entries = sym c.entries_is j ++ (rest (sym c.output_is j) (sym c.next_is j)).entries;
    next = (rest (sym c.output_is j) (sym c.next_is j)).next;
  }

  is_empty_lem : emptied m output ≡ swizzle_empty m output
  is_empty_lem = λ j. λ k. by_like k (rules_like m a output k) j

  -- where numbers 1, 2 and 14 pass and the outputs are as many as the ports have, the code's trace is the rules'
  sum_few : (rs : List ReadPort) → any (bad_read_shape m) rs ≡ false → sum_by (λ (p : ReadPort). p.data_len) rs ≤ length rs * 2048
  sum_few [] e = omega arith
  sum_few (p ∷ rs) e =
      let x = or_false (bad_read_shape m p) (any (bad_read_shape m) rs) e in
      omega (arith, size_few m.width _ _ a.thin (reads_shaped m p x.0).shape, sum_few rs x.1)

  pub outputs_few : bad_output_len m output ≡ false → length output ≤ max_outputs
  unfolding bad_output_len output_len
  outputs_few e = omega (arith, eqb-true (length output) _ (not-false _ e), sum_few m.reads a.reads_good, a.reads_few)

  pub rules_empty : bad_output_len m output ≡ false → emptied_if m output ≡ swizzle_empty m output
  unfolding emptied_if
  rules_empty e = ap (λ (b : Bool). when b then done [] else emptied m output) (le-ltb max_outputs (length output) (outputs_few e)) ∙ is_empty_lem

  -- so are the log and the state, and 20 and 21
  pub rules_run : bad_output_len m output ≡ false → (l : Lent) → run (emptied_if m output) l ≡ run (swizzle_empty m output) l
  rules_run e l = ap (λ (t : Trace (List Driving)). run t l) (rules_empty e)

  pub rules_number : bad_output_len m output ≡ false → (room : ℕ) (s : LogState) → log_refusal room s (emptied_if m output) ≡ log_refusal room s (swizzle_empty m output)
  rules_number e room s = ap (log_refusal room s) (rules_empty e)
