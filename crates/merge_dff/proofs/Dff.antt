-- A flip-flop of kept bits, and the merge over packed keys as the rules have it.
use mathlib.Core.Path.{◌≡◌, refl, sym, ap, ◌∙◌}
use Prim.Native.Nat.{ℕ, zero, suc, ◌-◌, ◌≤◌, min}
use native.Mathlib.Omega.{arith}
use mathlib.Core.List.{List, [], ◌∷◌, map}
use lib.ListN.{length, take, length-map, length-take}
use lib.Seq.{sets, take_all}
use Rattle.lists.specs.Lists.{pairs, up_from}
use Rattle.lists.specs.Distinct.{kept, places}
use Rattle.lists.proofs.Choice.{cases_le}
use Rattle.lists.proofs.Distinct.{length_kept}
use Rattle.lists.proofs.Store.{sets_room}
use Rattle.lists.proofs.Stores.{take_stored}
use Rattle.rules.specs.Limits.{max_merge}
use Rattle.rules.specs.Cell.{Controls, FlipFlop}
use Rattle.rules.specs.Log.{Dff, ◌>>=◌, done, add_dff_of}
use Rattle.rules.specs.Merge.{Key2, same2, spread, add_dedup_dff_of}
use Rattle.rules.proofs.Chain.{chains_dff}
use Rattle.log_entries.specs.Emission.{Lent, is_over, run}
use Rattle.log_entries.proofs.Emission.{run_same}
use Rattle.merge_keys.specs.declared.Kept.{Kept}
use Rattle.merge_keys.specs.Keys.{firsts, seconds, MergeOf}
use Rattle.net_flip_flop.specs.View.{flip_flop}
use Rattle.merge_mux.specs.Results.{limited, results}
use Rattle.merge_mux.proofs.Limited.{limited_pairs}
use Rattle.merge_mux.proofs.Nets.{request_nets, trace_results}
use Rattle.merge_dff.specs.Packs.{packed_byte, packs, unpacked, merge_packed, Bytes}
use Rattle.merge_dff.proofs.Keys.{merged_keys, merged-places}

-- ---- a flip-flop of kept bits
-- a part of each word, in the scratch it was stored in
pub part-kept : (to₀ to ps : List ℕ) (by n : ℕ) → to ≡ sets to₀ 0 (map (packed_byte by) ps) → n ≡ length ps → n ≤ length to₀ → take n to ≡ map (packed_byte by) ps
part-kept to₀ to ps by n e f h = take_stored to₀ to (map (packed_byte by) ps) n e (f ∙ sym (length-map ps (packed_byte by))) h

dff_nets : (f : FlipFlop) (n : ℕ) → up_from n ((add_dff_of f n).next - n) ≡ (add_dff_of f n).value
unfolding add_dff_of
dff_nets f n = request_nets (λ first. Dff first f) (length f.bits) n

module _ (x : Controls) (bits ps at out clear reset init : List ℕ) (l l1 : Lent) (ec : clear ≡ map (packed_byte 256) ps) (er : reset ≡ map (packed_byte 1) ps)
    (ei : init ≡ map (packed_byte 65536) ps) (e : l1 ≡ run (add_dff_of (flip_flop x bits clear reset init)) l) where
  pub kept_run : l1 ≡ run (add_dff_of (unpacked x bits ps)) l
  unfolding unpacked
  kept_run = rw (ec, er, ei) at e

  pub kept-results : results (is_over l1.state) out 0 (spread at (up_from l.state.next (l1.state.next - l.state.next)))
      ≡ results (is_over l1.state) out 0 (spread at (add_dff_of (unpacked x bits ps) l.state.next).value)
  kept-results = trace_results (add_dff_of (unpacked x bits ps)) (chains_dff (unpacked x bits ps)) (dff_nets (unpacked x bits ps)) at out 0 l l1 kept_run

-- ---- the merge of packed keys
module _ (x : Controls) (bits ps : List ℕ) where
  abbrev ks : List Key2
  ks = kept same2 (pairs bits ps)

  packed_run : (l : Lent) → run (add_dff_of (unpacked x (firsts ks) (seconds ks))) l ≡ run (merge_packed x bits ps) l
  unfolding merge_packed
  packed_run l = sym (run_same (add_dff_of (unpacked x (firsts ks) (seconds ks))) (spread (places same2 (pairs bits ps))) l)

  packed_value : (n : ℕ) → spread (places same2 (pairs bits ps)) (add_dff_of (unpacked x (firsts ks) (seconds ks)) n).value ≡ (merge_packed x bits ps n).value
  unfolding merge_packed ◌>>=◌ done
  packed_value n = refl

module _ (bits ps : List ℕ) (k : Kept) (f : MergeOf (take max_merge (pairs bits ps)) k) where
  pub kept_few : length k.y.now ≤ max_merge
  kept_few =
      let ks : List Key2 = take max_merge (pairs bits ps) in
      omega (arith, ap length f.kept_y, length-map (kept same2 ks) (λ q. q.1), length_kept same2 [] ks, length-take max_merge (pairs bits ps))

  module _ (x : Controls) (out out' : List ℕ) (l l1 : Lent) (e : l1 ≡ run (add_dff_of (unpacked x k.x.now k.y.now)) l)
      (g : out' ≡ results (is_over l1.state) out 0 (spread k.at.now (add_dff_of (unpacked x k.x.now k.y.now) l.state.next).value)) where
    pub merged-run : l1 ≡ run (merge_packed x (limited bits) (limited ps)) l
    merged-run = (rw (f.kept_x, f.kept_y, limited_pairs bits ps) at e) ∙ packed_run x (limited bits) (limited ps) l

    pub merged-results : out' ≡ results (is_over l1.state) out 0 (merge_packed x (limited bits) (limited ps) l.state.next).value
    merged-results =
        (rw (f.kept_x, f.kept_y, f.placed, limited_pairs bits ps) at g)
        ∙ ap (results (is_over l1.state) out 0) (packed_value x (limited bits) (limited ps) l.state.next)

-- ---- as the rules have it
pairs_left : {A B : Type 0} (n : ℕ) (a : List A) (b : List B) → length a ≤ n → pairs a (take n b) ≡ pairs a b
pairs_left n [] b h = refl
pairs_left zero (x ∷ a) b h = absurd (omega arith)
pairs_left (suc n) (x ∷ a) [] h = refl
pairs_left {A} {B} (suc n) (x ∷ a) (y ∷ b) h = ap (λ (r : List (A × B)). (x, y) ∷ r) (pairs_left n a b (omega arith))

-- the packed column in scratch
pub column : (col col' ps : List ℕ) (n : ℕ) → col' ≡ sets col 0 ps → length col ≡ max_merge → n ≡ min (length col) (length ps) → take n col' ≡ limited ps
unfolding limited
column col col' ps n e s h =
    take_stored col col' (take max_merge ps) n (e ∙ sym whole) (omega (arith, length-take max_merge ps)) (omega arith)
  where
    whole : sets col 0 (take max_merge ps) ≡ sets col 0 ps
    whole = cases_le (length ps) max_merge (λ q. ap (sets col 0) (take_all max_merge ps q)) (λ q. sets_room col 0 max_merge ps (omega arith) (omega arith))

limited_keys : (bits ps : List ℕ) → pairs (limited bits) (limited (limited ps)) ≡ pairs (limited bits) ps
unfolding limited
limited_keys bits ps =
    let h : length (take max_merge bits) ≤ max_merge = omega (arith, length-take max_merge bits) in
    pairs_left max_merge (take max_merge bits) (take max_merge ps) h ∙ pairs_left max_merge (take max_merge bits) ps h

module _ (x : Controls) (bits clear reset init ps : List ℕ) (s : Bytes reset clear init) (p : ps ≡ limited (packs reset clear init)) where
  pub rules_merge : merge_packed x (limited bits) (limited ps) ≡ add_dedup_dff_of (flip_flop x (limited bits) clear reset init)
  unfolding merge_packed add_dedup_dff_of
  rules_merge =
      let b = limited bits in
      let q : pairs b (limited ps) ≡ pairs b (packs reset clear init) = rw p (limited_keys bits (packs reset clear init)) in
      rw (q, merged_keys x b reset clear init s, merged-places x b reset clear init s)
