-- Refusal 0 of a swizzle of rows, test by test.
use mathlib.Core.Path.{◌≡◌, sym, ap, ◌∙◌}
use mathlib.Core.Logic.{◌≢◌}
use Prim.Native.Nat.{ℕ, ◌≤◌}
use mathlib.Core.Bool.{◌||◌}
use mathlib.Core.List.{List, map}
use lib.ListN.{length}
use lib.Dec.{ltb}
use borrow.Author.Tests.{ne_eqb, ltb-false}
use Rattle.lists.specs.Lists.{pairs}
use Rattle.lists.proofs.Choice.{or_false, else_zero, if_zero}
use Rattle.rules.specs.Numbers.{largest}
use Rattle.rules.specs.Value.{Value}
use Rattle.rules.specs.Cell.{Mem, Given, Plan}
use Rattle.rules.specs.Log.{Trace, LogState, start_net}
use Rattle.rules.specs.Ports.{Driving}
use Rattle.rules.specs.Geometry.{Layout, layout_of}
use Rattle.rules.specs.Image.{image_size}
use Rattle.rules.specs.Swizzle.{swizzle, swizzle_rows, shared_nets, shared_trits, swizzle_scratch, piece_nets}
use Rattle.rules.specs.Conditions.{no_room_of}
use Rattle.rules.specs.Refusals.{SwizzleRooms, log_refusal, lent_refusal, image_refusal, results_refusal, swizzle_number, swizzle_refusal}

-- what no number says of the rooms, the scratch and the log
pub record Accepted (r : SwizzleRooms) (room : ℕ) (s : LogState) (g : Given) (output : Value) (p : Plan) : Type 0 where
  pub number : swizzle_number s.next g output p ≡ 0
  pub image : image_size (layout_of g.mem p) ≤ r.image
  pub nets : length (shared_nets g.mem (swizzle_rows g.mem output p (start_net s)).value) ≤ r.nets
  pub trits : length (shared_trits g.mem (swizzle_rows g.mem output p (start_net s)).value) ≤ r.trits
  pub scratch : largest (map (piece_nets g.mem p) (pairs g.mem.reads p.read_wide_of)) ≤ r.scratch
  pub log : log_refusal room s (swizzle_rows g.mem output p) ≡ 0

-- lent room that is enough
lent_enough : (room need : ℕ) → lent_refusal room need ≡ 0 → need ≤ room
unfolding no_room_of
lent_enough room need e = ltb-false room need (if_zero (ltb room need) 19 0 e).0

image_enough : (room : ℕ) (q : Layout) → image_refusal room q ≡ 0 → image_size q ≤ room
unfolding image_refusal
image_enough room q e = lent_enough room (image_size q) e

results_enough : (r : SwizzleRooms) (m : Mem) (ds : List Driving) → results_refusal r m ds ≡ 0 → (length (shared_nets m ds) ≤ r.nets) × (length (shared_trits m ds) ≤ r.trits)
unfolding results_refusal no_room_of
results_enough r m ds e =
    let a = or_false (ltb r.nets (length (shared_nets m ds))) _ (if_zero (ltb r.nets (length (shared_nets m ds)) || ltb r.trits (length (shared_trits m ds))) 19 0 e).0 in
    (ltb-false r.nets _ a.0, ltb-false r.trits _ a.1)

module _ (r : SwizzleRooms) (room : ℕ) (s : LogState) (g : Given) (output : Value) (p : Plan) (e : swizzle_refusal r room s g output p ≡ 0) (w : g.mem.width ≢ 0) (d : g.mem.depth ≢ 0) where
  abbrev m : Mem
  m = g.mem

  -- a swizzle with a width and a depth is one of rows
  pub rows_trace : swizzle m output p ≡ swizzle_rows m output p
  unfolding swizzle
  rows_trace = rw (ne_eqb m.width 0 w, ne_eqb m.depth 0 d)

  pub rows_scratch : swizzle_scratch m p ≡ largest (map (piece_nets m p) (pairs m.reads p.read_wide_of))
  unfolding swizzle_scratch
  rows_scratch = rw (ne_eqb m.width 0 w, ne_eqb m.depth 0 d)

  tests : (swizzle_number s.next g output p ≡ 0) × (image_refusal r.image (layout_of m p) ≡ 0) × (results_refusal r m (swizzle m output p (start_net s)).value ≡ 0)
      × (lent_refusal r.scratch (swizzle_scratch m p) ≡ 0) × (log_refusal room s (swizzle m output p) ≡ 0)
  unfolding swizzle_refusal
  tests =
      let a = else_zero (swizzle_number s.next g output p) _ e in
      let b = else_zero (image_refusal r.image (layout_of m p)) _ a.1 in
      let c = else_zero (results_refusal r m (swizzle m output p (start_net s)).value) _ b.1 in
      let f = else_zero (lent_refusal r.scratch (swizzle_scratch m p)) _ c.1 in
      (a.0, b.0, c.0, f.0, f.1)

  results : results_refusal r m (swizzle_rows m output p (start_net s)).value ≡ 0
  results = ap (λ (t : Trace (List Driving)). results_refusal r m (t (start_net s)).value) (sym rows_trace) ∙ tests.2

  pub accepted : Accepted r room s g output p
  accepted = record {
    number = tests.0;
    image = image_enough r.image (layout_of m p) tests.1;
    nets = (results_enough r m (swizzle_rows m output p (start_net s)).value results).0;
    trits = (results_enough r m (swizzle_rows m output p (start_net s)).value results).1;
    scratch = lent_enough r.scratch _ (ap (lent_refusal r.scratch) (sym rows_scratch) ∙ tests.3);
    log = ap (log_refusal room s) (sym rows_trace) ∙ tests.4;
  }
