-- The pieces in turn: what is left from piece x on gives the whole.
use mathlib.Core.Path.{◌≡◌, refl, sym, ap, ◌∙◌}
use mathlib.Core.Bool.{false}
use Prim.Native.Nat.{ℕ, ◌+◌, ◌-◌, ◌<◌, ◌≤◌}
use native.Mathlib.Nat.{sub-zero}
use mathlib.Core.List.{List, [], ◌∷◌}
use Rattle.lists.specs.Lists.{up_from}
use Rattle.lists.proofs.UpFrom.{count_step, count_end}
use Rattle.rules.specs.Value.{Value}
use Rattle.rules.specs.Log.{Trace, ◌>>=◌, done}
use Rattle.rules.proofs.Done.{done_value}
use Rattle.rules.proofs.Traces.{bind_value}
use Rattle.log_entries.specs.Emission.{Lent, is_over, run}
use Rattle.log_entries.proofs.Emission.{run-done, run_then, run_next, run-held}
use Rattle.swizzle_laws.specs.Stores.{spill_at, piece_by, spill_masks}
use Rattle.swizzle_write.specs.declared.Masked.{Masked}
use Rattle.swizzle_write.specs.Jobs.{Job}
use Rattle.swizzle_write.proofs.Pieces.{chains_piece}

module _ (M R U L : ℕ) (starts : ℕ → List ℕ) (mux mask : List ℕ) where
  masks_cons : (x : ℕ) (xs l : List ℕ) → spill_masks M R U L starts mux mask (x ∷ xs) l ≡ (piece_by mux mask x >>= λ k. spill_masks M R U L starts mux mask xs (spill_at M R U L (starts x) k l))
  unfolding spill_masks
  masks_cons x xs l = refl

  masks_none : (l : List ℕ) → spill_masks M R U L starts mux mask [] l ≡ done l
  unfolding spill_masks
  masks_none l = refl

  module _ (N : ℕ) where
    -- what is left from piece x on
    abbrev pub left : ℕ → List ℕ → Trace (List ℕ)
    left x l = spill_masks M R U L starts mux mask (up_from x (N - x)) l

    pub record Going (m₀ m : List ℕ) (l₀ l : Lent) (x : ℕ) : Type 0 where
      pub whole : run (left x m) l ≡ run (spill_masks M R U L starts mux mask (up_from 0 N) m₀) l₀
      pub value : is_over (run (left x m) l).state ≡ false → (left x m l.state.next).value ≡ (spill_masks M R U L starts mux mask (up_from 0 N) m₀ l₀.state.next).value

    pub going_starts : (m : List ℕ) (l : Lent) → Going m m l l 0
    going_starts m l = record {
      whole = ap (λ (k : ℕ). run (spill_masks M R U L starts mux mask (up_from 0 k) m) l) (sub-zero N);
      value = λ o. ap (λ (k : ℕ). (spill_masks M R U L starts mux mask (up_from 0 k) m l.state.next).value) (sub-zero N);
    }

    module _ (m₀ m m1 k : List ℕ) (l₀ l l1 : Lent) (x : ℕ) (g : Going m₀ m l₀ l x) (h : x < N) (e1 : l1 ≡ run (piece_by mux mask x) l)
        (ek : is_over l1.state ≡ false → k ≡ (piece_by mux mask x l.state.next).value) (em : m1 ≡ spill_at M R U L (starts x) k m) where
      abbrev t : Trace Value
      t = piece_by mux mask x

      abbrev f : Value → Trace (List ℕ)
      f v = left (x + 1) (spill_at M R U L (starts x) v m)

      left_more : left x m ≡ (t >>= f)
      left_more = ap (λ (xs : List ℕ). spill_masks M R U L starts mux mask xs m) (count_step x N h) ∙ masks_cons x (up_from (x + 1) (N - (x + 1))) m

      step : run (left (x + 1) m1) l1 ≡ run (left x m) l
      step =
          run_then l l1 (run (left (x + 1) m1) l1) t f k (chains_piece mux mask x) e1 ek (ap (λ (y : List ℕ). run (left (x + 1) y) l1) em)
          ∙ ap (λ (u : Trace (List ℕ)). run u l) (sym left_more)

      values : is_over l1.state ≡ false → (left (x + 1) m1 l1.state.next).value ≡ (left x m l.state.next).value
      values o =
          let n = l.state.next in
          let q : l1.state.next ≡ (t n).next =
          ap (λ (y : Lent). y.state.next) e1 ∙ run_next t l (chains_piece mux mask x) (sym (ap (λ (y : Lent). is_over y.state) e1) ∙ o) in
          ap (λ (y : List ℕ). (left (x + 1) y l1.state.next).value) em
          ∙ ap (λ (v : List ℕ). (f v l1.state.next).value) (ek o)
          ∙ ap (λ (j : ℕ). (f (t n).value j).value) q
          ∙ sym (ap (λ (u : Trace (List ℕ)). (u n).value) left_more ∙ bind_value t f n)

      pub turn : Going m₀ m1 l₀ l1 (x + 1)
      turn = record {
        whole = step ∙ g.whole;
        value = λ o. values (run-held (left (x + 1) m1) l1 o) ∙ g.value (sym (ap (λ (y : Lent). is_over y.state) step) ∙ o);
      }

    module _ (m₀ m : List ℕ) (l₀ l : Lent) (x : ℕ) (g : Going m₀ m l₀ l x) (h : N ≤ x) where
      left_none : left x m ≡ done m
      left_none = ap (λ (xs : List ℕ). spill_masks M R U L starts mux mask xs m) (count_end x N h) ∙ masks_none m

      nothing : run (left x m) l ≡ l
      nothing = ap (λ (t : Trace (List ℕ)). run t l) left_none ∙ run-done m l

      pub going_ends : l ≡ run (spill_masks M R U L starts mux mask (up_from 0 N) m₀) l₀
      going_ends = sym nothing ∙ g.whole

      pub masks_end : is_over l.state ≡ false → m ≡ (spill_masks M R U L starts mux mask (up_from 0 N) m₀ l₀.state.next).value
      masks_end o =
          sym (ap (λ (t : Trace (List ℕ)). (t l.state.next).value) left_none ∙ done_value m l.state.next)
          ∙ g.value (ap (λ (y : Lent). is_over y.state) nothing ∙ o)

-- arrays of the same lengths
pub job_same : (m : Masked) {pl tl pl' tl' : ℕ} → pl' ≡ pl → tl' ≡ tl → Job m pl tl → Job m pl' tl'
job_same m b c j = rw (b, c) j
