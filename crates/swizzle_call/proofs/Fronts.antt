-- The memories of an accepted swizzle, read from the fronts of the lent arrays.
use mathlib.Core.Path.{◌≡◌, refl, sym, ap, ◌∙◌}
use Prim.Native.Nat.{ℕ, ◌-◌, ◌≤◌}
use native.Mathlib.Omega.{arith}
use mathlib.Core.Bool.{◌||◌}
use mathlib.Core.List.{List, [], ◌∷◌, ◌++◌}
use lib.ListN.{length, take, drop}
use lib.Dec.{ltb}
use borrow.Author.Tests.{ltb-false}
use Rattle.lists.proofs.Choice.{else_zero, or_false, if_zero}
use Rattle.lists.proofs.Stores.{take_stored}
use Rattle.rules.specs.Cell.{Mem, Plan}
use Rattle.rules.specs.Log.{start_net, added}
use Rattle.rules.specs.Ports.{Driving}
use Rattle.rules.specs.Geometry.{Layout, layout_of}
use Rattle.rules.specs.Image.{layout, image_size}
use Rattle.rules.specs.Patch.{laid_out}
use Rattle.rules.specs.Swizzle.{swizzle, shared_nets, shared_trits}
use Rattle.rules.specs.Conditions.{no_room_of}
use Rattle.rules.specs.Refusals as rules
use Rattle.rules.specs.Refusals.{log_refusal, image_refusal, results_refusal, swizzle_number, swizzle_refusal}
use Rattle.rules.proofs.Demand.{length_layout}
use Rattle.rules.proofs.Traces.{start_same}
use Rattle.log_entries.specs.declared.LogState.{LogState}
use Rattle.log_entries.specs.View.{state_of}
use Rattle.log_entries.proofs.Rooms.{Fits, room_fits}
use Rattle.net_memory.specs.declared.Memory.{Memory}
use Rattle.net_memory.specs.View.{memory_of}
use Rattle.net_memory.specs.Given.{given_of}
use Rattle.swizzle_result.specs.View.{results_of}
use Rattle.swizzle_reads.specs.Going.{Going}
use Rattle.swizzle_call.specs.Acted.{Acted}
use Rattle.swizzle_call.specs.Made.{made_of, none_yet_of}
use Rattle.swizzle_call.proofs.Logs.{log_0}

take_front : (xs ys : List ℕ) → take (length xs) (xs ++ ys) ≡ xs
take_front [] ys = refl
take_front (a ∷ xs) ys = ap (λ (l : List ℕ). a ∷ l) (take_front xs ys)

image_front : (q : Layout) (rows image : List ℕ) → take (image_size q) (laid_out q rows image) ≡ layout q rows
unfolding laid_out
image_front q rows image =
    ap (λ (k : ℕ). take k (layout q rows ++ drop (image_size q) image)) (sym (length_layout q rows)) ∙ take_front (layout q rows) (drop (image_size q) image)

results_enough : (r : rules.SwizzleRooms) (m : Mem) (ds : List Driving) → results_refusal r m ds ≡ 0 → (length (shared_nets m ds) ≤ r.nets) × (length (shared_trits m ds) ≤ r.trits)
unfolding results_refusal no_room_of
results_enough r m ds e =
    let a = or_false (ltb r.nets (length (shared_nets m ds))) _ (if_zero (ltb r.nets (length (shared_nets m ds)) || ltb r.trits (length (shared_trits m ds))) 19 0 e).0 in
    (ltb-false r.nets _ a.0, ltb-false r.trits _ a.1)

module _ (r : rules.SwizzleRooms) (room : ℕ) (st : LogState) (m : Memory) (nets trits output : List ℕ) (p : Plan) (z : swizzle_refusal r room (state_of st) (given_of m nets trits) output p ≡ 0) where
  abbrev M : Mem
  M = memory_of m nets trits

  abbrev R : List Driving
  R = (swizzle M output p st.next).value

  start_is : start_net (state_of st) ≡ st.next
  unfolding log_refusal
  start_is =
      let f : Fits room (state_of st) (length (added (swizzle M output p (start_net (state_of st))))) ((swizzle M output p (start_net (state_of st))).next - start_net (state_of st)) =
      room_fits room (state_of st) _ _ (log_0 r room st m nets trits output p z) in
      start_same (state_of st) f.low (omega (arith, f.high))

  room_0 : results_refusal r M (swizzle M output p (start_net (state_of st))).value ≡ 0
  unfolding swizzle_refusal
  room_0 =
      let a = (else_zero (swizzle_number st.next (given_of m nets trits) output p) _ z).1 in
      let b = (else_zero (image_refusal r.image (layout_of M p)) _ a).1 in
      (else_zero (results_refusal r M (swizzle M output p (start_net (state_of st))).value) _ b).0

  enough : (length (shared_nets M R) ≤ r.nets) × (length (shared_trits M R) ≤ r.trits)
  enough = results_enough r M R (ap (λ (k : ℕ). results_refusal r M (swizzle M output p k).value) (sym start_is) ∙ room_0)

  pub results_read : (log to kinds image image' : List ℕ) (g : Going) → length to ≡ r.nets → length kinds ≡ r.trits
      → Acted M (layout_of M p) (swizzle M output p) (made_of (none_yet_of st) log to kinds) g
      → image' ≡ laid_out (layout_of M p) M.init image
      → results_of g.memory (take g.nets_at_of g.nets) (take g.trits_at_of g.trits) (take (image_size (layout_of M p)) image') ≡ R
  results_read log to kinds image image' g en ek a e =
      (λ i. results_of g.memory (take_stored to g.nets (shared_nets M R) g.nets_at_of a.nets_are a.nets_end (omega (arith, a.nets_end, enough, en)) i)
      (take_stored kinds g.trits (shared_trits M R) g.trits_at_of a.trits_are a.trits_end (omega (arith, a.trits_end, enough, ek)) i)
      ((ap (take (image_size (layout_of M p))) e ∙ image_front (layout_of M p) M.init image) i))
      ∙ a.results_are
