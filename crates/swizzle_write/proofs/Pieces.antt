-- A piece: the comparison, and the mux of the kept mask nets.
use mathlib.Core.Path.{◌≡◌, refl, sym, ap, ◌∙◌}
use mathlib.Core.Bool.{Bool, true, false}
use Prim.Native.Nat.{ℕ, ◌+◌, ◌<◌}
use native.Mathlib.Omega.{arith}
use mathlib.Core.List.{List, [], ◌∷◌}
use lib.ListN.{length, replicate, length-replicate}
use lib.Seq.{sets}
use Rattle.lists.specs.Choice.{when◌then◌else◌}
use Rattle.lists.specs.Lists.{pairs}
use Rattle.lists.specs.Distinct.{kept, places}
use Rattle.lists.proofs.Pairs.{length_pairs}
use Rattle.lists.proofs.Distinct.{length_places}
use Rattle.rules.specs.Value.{Value, from_uint, Pos}
use Rattle.rules.specs.Log.{Trace, ◌>>=◌, done, add_eq_of, add_mux_of}
use Rattle.rules.specs.Merge.{Key2, same2, spread, add_dedup_mux_of}
use Rattle.rules.specs.Ports.{is_empty}
use Rattle.rules.proofs.Done.{done_value}
use Rattle.rules.proofs.Traces.{bind_value}
use Rattle.rules.specs.Beside.Chain.{Chains}
use Rattle.rules.proofs.Chain.{chains_eq, chains_done, chains_if, chains_bind, chains_dedup_mux}
use Rattle.rules.proofs.Entries.{next_eq}
use Rattle.log_entries.specs.Emission.{Lent, is_over, run}
use Rattle.log_entries.proofs.Emission.{run-done, run_then, run_same, run_next, run-held}
use Rattle.merge_keys.specs.declared.Kept.{Kept}
use Rattle.merge_keys.specs.Keys.{firsts, seconds, MergeOf}
use Rattle.merge_mux.specs.Results.{results}
use Rattle.merge_mux.proofs.Spread.{length_spread, results_are}
use Rattle.swizzle_laws.specs.Stores.{piece_by}
use Rattle.swizzle_write.specs.Jobs.{with_zeros}

empty_is : (v : Value) → length v ≡ 0 → is_empty v ≡ true
unfolding is_empty
empty_is [] e = refl
empty_is (a ∷ v) e = absurd (omega arith)

some_is : (v : Value) → 0 < length v → is_empty v ≡ false
unfolding is_empty
some_is [] h = absurd (omega arith)
some_is (a ∷ v) h = refl

-- what follows the comparison
rest : Value → Value → ℕ → Trace Value
rest mux mask e = when is_empty mux then done mask else add_dedup_mux_of (Pos e) mask (replicate (length mask) 0)

piece_is : (mux mask : Value) (x : ℕ) → piece_by mux mask x ≡ (add_eq_of mux (from_uint (length mux) x) >>= rest mux mask)
unfolding piece_by rest
piece_is mux mask x = refl

eq_value : (a b : Value) (n : ℕ) → (add_eq_of a b n).value ≡ n
unfolding add_eq_of
eq_value a b n = refl

module _ (mux mask number : Value) (x : ℕ) (l l1 : Lent) (en : number ≡ from_uint (length mux) x) (e : l1 ≡ run (add_eq_of mux number) l) where
  abbrev first : Trace ℕ
  first = add_eq_of mux (from_uint (length mux) x)

  compared : l1 ≡ run first l
  compared = e ∙ ap (λ (b : Value). run (add_eq_of mux b) l) en

  -- the whole, from what follows
  joined : (l2 : Lent) → l2 ≡ run (rest mux mask l.state.next) l1 → l2 ≡ run (piece_by mux mask x) l
  joined l2 h =
      run_then l l1 l2 first (rest mux mask) l.state.next (chains_eq mux (from_uint (length mux) x)) compared (λ o. sym (eq_value mux (from_uint (length mux) x) l.state.next)) h
      ∙ ap (λ (t : Trace Value). run t l) (sym (piece_is mux mask x))

  value : (piece_by mux mask x l.state.next).value ≡ (rest mux mask l.state.next (l.state.next + 1)).value
  value =
      ap (λ (t : Trace Value). (t l.state.next).value) (piece_is mux mask x)
      ∙ bind_value first (rest mux mask) l.state.next
      ∙ ap (λ (k : ℕ). (rest mux mask k (first l.state.next).next).value) (eq_value mux (from_uint (length mux) x) l.state.next)
      ∙ ap (λ (k : ℕ). (rest mux mask l.state.next k).value) (next_eq mux (from_uint (length mux) x) l.state.next)

  module _ (z : length mux ≡ 0) where
    rest_none : (k : ℕ) → rest mux mask k ≡ done mask
    unfolding rest
    rest_none k = rw (empty_is mux z)

    pub alone-run : l1 ≡ run (piece_by mux mask x) l
    alone-run = joined l1 (sym (ap (λ (t : Trace Value). run t l1) (rest_none l.state.next) ∙ run-done mask l1))

    pub alone_value : (piece piece' : List ℕ) → piece' ≡ sets piece 0 mask → piece' ≡ sets piece 0 (piece_by mux mask x l.state.next).value
    alone_value piece piece' p =
        p ∙ ap (sets piece 0) (sym (value ∙ ap (λ (t : Trace Value). (t (l.state.next + 1)).value) (rest_none l.state.next) ∙ done_value mask (l.state.next + 1)))

  module _ (s : 0 < length mux) (w : Kept) (k : MergeOf (with_zeros mask) w) (l2 : Lent) (f : l2 ≡ run (add_mux_of (Pos l.state.next) w.x.now w.y.now) l1) where
    abbrev zeros : Value
    zeros = replicate (length mask) 0

    abbrev ks : List Key2
    ks = kept same2 (pairs mask zeros)

    abbrev n : ℕ
    n = l.state.next

    rest_some : (j : ℕ) → rest mux mask j ≡ add_dedup_mux_of (Pos j) mask zeros
    unfolding rest
    rest_some j = rw (some_is mux s)

    dedup_run : run (add_mux_of (Pos n) (firsts ks) (seconds ks)) l1 ≡ run (add_dedup_mux_of (Pos n) mask zeros) l1
    unfolding add_dedup_mux_of
    dedup_run = sym (run_same (add_mux_of (Pos n) (firsts ks) (seconds ks)) (spread (places same2 (pairs mask zeros))) l1)

    dedup_value : (m : ℕ) → spread (places same2 (pairs mask zeros)) (add_mux_of (Pos n) (firsts ks) (seconds ks) m).value ≡ (add_dedup_mux_of (Pos n) mask zeros m).value
    unfolding add_dedup_mux_of ◌>>=◌ done
    dedup_value m = refl

    mux_run : l2 ≡ run (rest mux mask n) l1
    mux_run =
        f ∙ ap (λ (a : List ℕ). run (add_mux_of (Pos n) a w.y.now) l1) k.kept_x ∙ ap (λ (b : List ℕ). run (add_mux_of (Pos n) (firsts ks) b) l1) k.kept_y
        ∙ dedup_run ∙ ap (λ (t : Trace Value). run t l1) (sym (rest_some n))

    pub muxed_run : l2 ≡ run (piece_by mux mask x) l
    muxed_run = joined l2 mux_run

    pub muxed_value : (piece piece' : List ℕ) → piece' ≡ results (is_over l2.state) piece 0 (spread w.at.now (add_mux_of (Pos n) w.x.now w.y.now l1.state.next).value)
        → is_over l2.state ≡ false → piece' ≡ sets piece 0 (piece_by mux mask x n).value
    muxed_value piece piece' p o =
        let o1 : is_over l1.state ≡ false = run-held (rest mux mask n) l1 (sym (ap (λ (y : Lent). is_over y.state) mux_run) ∙ o) in
        let q : l1.state.next ≡ n + 1 =
        ap (λ (y : Lent). y.state.next) compared
        ∙ run_next first l (chains_eq mux (from_uint (length mux) x)) (sym (ap (λ (y : Lent). is_over y.state) compared) ∙ o1)
        ∙ next_eq mux (from_uint (length mux) x) n in
        let v : spread w.at.now (add_mux_of (Pos n) w.x.now w.y.now l1.state.next).value ≡ (piece_by mux mask x n).value =
        ap (λ (a : List ℕ). spread a (add_mux_of (Pos n) w.x.now w.y.now l1.state.next).value) k.placed
        ∙ ap (λ (a : List ℕ). spread (places same2 (pairs mask zeros)) (add_mux_of (Pos n) a w.y.now l1.state.next).value) k.kept_x
        ∙ ap (λ (a : List ℕ). spread (places same2 (pairs mask zeros)) (add_mux_of (Pos n) (firsts ks) a l1.state.next).value) k.kept_y
        ∙ ap (λ (m : ℕ). spread (places same2 (pairs mask zeros)) (add_mux_of (Pos n) (firsts ks) (seconds ks) m).value) q
        ∙ dedup_value (n + 1)
        ∙ ap (λ (t : Trace Value). (t (n + 1)).value) (sym (rest_some n))
        ∙ sym value in
        p ∙ results_are (is_over l2.state) piece 0 (spread w.at.now (add_mux_of (Pos n) w.x.now w.y.now l1.state.next).value) o ∙ ap (sets piece 0) v

-- ---- a piece has as many nets as the row's mask
muxed_length : (e : ℕ) (mask : Value) (n : ℕ) → length (add_dedup_mux_of (Pos e) mask (replicate (length mask) 0) n).value ≡ length mask
unfolding add_dedup_mux_of ◌>>=◌ done
muxed_length e mask n =
    length_spread (places same2 (pairs mask (replicate (length mask) 0))) _ ∙ length_places same2 [] (pairs mask (replicate (length mask) 0))
    ∙ length_pairs mask (replicate (length mask) 0) (sym (length-replicate (length mask) 0))

rest_length : (b : Bool) (e : ℕ) (mask : Value) (n : ℕ) → length ((when b then done mask else add_dedup_mux_of (Pos e) mask (replicate (length mask) 0)) n).value ≡ length mask
rest_length true e mask n = ap length (done_value mask n)
rest_length false e mask n = muxed_length e mask n

pub piece_length : (mux mask : Value) (x n : ℕ) → length (piece_by mux mask x n).value ≡ length mask
unfolding rest
piece_length mux mask x n =
    ap (λ (t : Trace Value). length (t n).value) (piece_is mux mask x)
    ∙ ap length (bind_value (add_eq_of mux (from_uint (length mux) x)) (rest mux mask) n)
    ∙ rest_length (is_empty mux) _ mask _

pub chains_piece : (mux mask : Value) (x : ℕ) → Chains (piece_by mux mask x)
unfolding piece_by
chains_piece mux mask x =
    chains_bind _ _ (chains_eq mux (from_uint (length mux) x)) (λ e. chains_if (is_empty mux) _ _ (chains_done mask) (chains_dedup_mux (Pos e) mask (replicate (length mask) 0)))
