-- What holds where no number before the log's refuses.
use mathlib.Core.Path.{◌≡◌}
use Prim.Native.Nat.{ℕ, ◌+◌, ◌*◌, ◌≤◌}
use native.Mathlib.Omega.{arith}
use mathlib.Core.Bool.{not, ◌||◌}
use lib.ListN.{length}
use lib.Dec.{ltb, eqb}
use borrow.Author.Tests.{eqb-true, not-false, ltb-false}
use Rattle.lists.proofs.Choice.{refused_not, or_false}
use Rattle.rules.specs.Limits.{max_merge}
use Rattle.rules.specs.Value.{Value, Control}
use Rattle.rules.specs.Cell.{FlipFlop}
use Rattle.rules.specs.Log.{add_dff_of}
use Rattle.rules.specs.Conditions.{unequal, long_value, bad_trit_lens}
use Rattle.rules.specs.Refusals.{mux_number, bad_flip_flop_lens, dff_number}
use Rattle.rules.proofs.Counted.{Counted, counted_dff}

module _ (next : ℕ) (c : Control) (a b : Value) where
  -- no number: the values are equally long, and short enough
  pub mux_lens : mux_number next c a b ≡ 0 → (length a ≡ length b) × (length a ≤ max_merge)
  unfolding mux_number long_value unequal
  mux_lens e =
      let x = refused_not (ltb max_merge (length a) || ltb max_merge (length b)) 1 _ (omega arith) e in
      let y = refused_not (not (eqb (length a) (length b))) 2 _ (omega arith) x.1 in
      (eqb-true (length a) (length b) (not-false _ y.0), ltb-false max_merge (length a) (or_false _ _ x.0).0)

module _ (next : ℕ) (f : FlipFlop) where
  -- no number: as many trits as bits
  pub dff_lens : dff_number next f ≡ 0 → (length f.clear_value ≡ length f.bits) × (length f.reset_value ≡ length f.bits) × (length f.init_value ≡ length f.bits)
  unfolding dff_number bad_flip_flop_lens bad_trit_lens
  dff_lens e =
      let n = length f.bits in
      let x = refused_not _ 2 _ (omega arith) e in
      let y = or_false (not (eqb (length f.clear_value) n)) (not (eqb (length f.reset_value) n) || not (eqb (length f.init_value) n)) x.0 in
      let z = or_false (not (eqb (length f.reset_value) n)) (not (eqb (length f.init_value) n)) y.1 in
      (eqb-true _ n (not-false _ y.0), eqb-true _ n (not-false _ z.0), eqb-true _ n (not-false _ z.1))

  pub counted_dff_4 : dff_number next f ≡ 0 → Counted (add_dff_of f) (13 + 4 * length f.bits) (length f.bits)
  counted_dff_4 e =
      let l = dff_lens e in
      let w : 13 + (length f.bits + length f.clear_value + length f.reset_value + length f.init_value) ≡ 13 + 4 * length f.bits = omega arith in
      rw w at (counted_dff f)
