-- The whole refusal of a swizzle from that of its rows: depth 0 unmaps the flip-flops, and asks for no room.
use mathlib.Core.Path.{◌≡◌, refl, sym, ap, ◌∙◌}
use mathlib.Core.Logic.{◌≢◌, ⊎_elim}
use Prim.Native.Nat.{ℕ, ◌+◌, ◌-◌, ◌*◌, ◌/◌, ◌%◌, ◌^◌, ◌<◌, min}
use native.Mathlib.Nat.{zero-div, zero-mod, mul-zero, zero-mul, div-zero, div-eq_of_lt, eq-zero-or-pos}
use native.Mathlib.Omega.{arith}
use mathlib.Core.Bool.{Bool, true, false, not, ◌&&◌, ◌||◌}
use mathlib.Core.List.{List, []}
use lib.ListN.{length}
use lib.Dec.{eqb}
use borrow.Author.Tests.{eq-eqb, ne_eqb}
use Rattle.lists.specs.Choice.{when◌then◌else◌, ◌or_else◌}
use Rattle.lists.proofs.Choice.{else_first, else_rest}
use Rattle.rules.specs.Numbers.{ceil_div}
use Rattle.rules.specs.Value.{Value}
use Rattle.rules.specs.Cell.{Mem, Given, Plan}
use Rattle.rules.specs.Log.{Trace, ◌>>=◌, ◌>>◌, done, LogState, start_net}
use Rattle.rules.specs.Ports.{Driving}
use Rattle.rules.specs.Geometry.{Layout, layout_of, soft, row_len_of, full_depth_of, full_chunks, part_depth_of, all_chunks, full_mems, all_mems}
use Rattle.rules.specs.Image.{rows_before, mem_start, trits, image_size}
use Rattle.rules.specs.Swizzle.{swizzle, swizzle_empty, shared_nets, shared_trits, swizzle_scratch}
use Rattle.rules.specs.Conditions.{no_room_of, short_ports}
use Rattle.rules.specs.Refusals as rules
use Rattle.rules.specs.Refusals.{log_refusal, lent_refusal, image_refusal, results_refusal, swizzle_plan_number, swizzle_number, swizzle_refusal}
use Rattle.swizzle_counts.specs.Refusal.{rows_refusal}
use Rattle.swizzle_counts.proofs.Refusing.{no_nets_lem, no_trits_lem, no_need}

-- ---- a layout of no rows has no memories
ceil_none : (a u : ℕ) → a ≡ 0 → ceil_div a u ≡ 0
unfolding ceil_div
ceil_none a u e =
    ap (λ (k : ℕ). (k + (u - 1)) / u) e
    ∙ ⊎_elim (λ z. ap (λ (k : ℕ). (0 + (u - 1)) / k) z ∙ div-zero (0 + (u - 1))) (λ h. div-eq_of_lt (low u h)) (eq-zero-or-pos u)
  where
    low : (u : ℕ) → 0 < u → 0 + (u - 1) < u
    low u h = omega arith

module _ (q : Layout) (d : q.depth ≡ 0) where
  base_none : q.depth / 2 ^ soft q ≡ 0
  base_none = ap (λ (k : ℕ). k / 2 ^ soft q) d ∙ zero-div (2 ^ soft q)

  full_none : full_chunks q ≡ 0
  unfolding full_chunks
  full_none = ap (λ (k : ℕ). k / full_depth_of q) base_none ∙ zero-div (full_depth_of q)

  part_none : part_depth_of q ≡ 0
  unfolding part_depth_of
  part_none = ap (λ (k : ℕ). k % full_depth_of q) base_none ∙ zero-mod (full_depth_of q)

  chunks_none : all_chunks q ≡ 0
  unfolding all_chunks
  chunks_none = ap (λ (t : Bool). when t then full_chunks q else full_chunks q + 1) (eq-eqb (part_depth_of q) 0 part_none) ∙ full_none

  mems_none : all_mems q ≡ 0
  unfolding all_mems
  mems_none = ceil_none _ q.unit (ap (λ (k : ℕ). row_len_of q * 2 ^ soft q * k) chunks_none ∙ mul-zero (row_len_of q * 2 ^ soft q))

  trits_none : trits q ≡ 0
  unfolding trits mem_start rows_before
  trits_none = ap (λ (k : ℕ). (min k (full_mems q) * full_depth_of q + (k - full_mems q) * part_depth_of q) * q.unit) mems_none ∙ none (full_mems q) (full_depth_of q) (part_depth_of q) q.unit
    where
      none : (f h p u : ℕ) → (min 0 f * h + (0 - f) * p) * u ≡ 0
      none f h p u =
          let a : min 0 f ≡ 0 = omega arith in
          let b : 0 - f ≡ 0 = omega arith in
          (λ i. (a i * h + b i * p) * u) ∙ (λ i. (zero-mul h i + zero-mul p i) * u) ∙ zero-mul u

  image_none : image_size q ≡ 0
  unfolding image_size
  image_none = ap (λ (k : ℕ). when eqb q.width 0 then 0 else k) trits_none ∙ on (eqb q.width 0)
    where
      on : (t : Bool) → ◌≡◌ {A = ℕ} (when t then 0 else 0) 0
      on true = refl
      on false = refl

module _ (r : rules.SwizzleRooms) (room : ℕ) (st : LogState) (g : Given) (output : Value) (p : Plan) where
  abbrev m : Mem
  m = g.mem

  abbrev number : ℕ
  number = swizzle_plan_number st.next g output p

  abbrev short : ℕ
  short = when short_ports m then 14 else 0

  -- a number of the plan refuses
  pub whole-plan : (n : ℕ) → n ≡ number → n ≢ 0 → n ≡ swizzle_refusal r room st g output p
  unfolding swizzle_refusal swizzle_number
  whole-plan n e h =
      let a = else_first number (when eqb m.depth 0 && short_ports m then 14 else 0) (λ z. h (e ∙ z)) in
      e ∙ sym (else_first (number or_else (when eqb m.depth 0 && short_ports m then 14 else 0)) _ (λ z. h (e ∙ sym a ∙ z)) ∙ a)

  -- width 0, or rows
  pub whole_rows : (not (eqb m.width 0) && eqb m.depth 0) ≡ false → rows_refusal r room st g output p ≡ swizzle_refusal r room st g output p
  unfolding rows_refusal
  whole_rows e = ap (λ (t : Bool). when t then number else swizzle_refusal r room st g output p) e

  -- depth 0
  module _ (w : m.width ≢ 0) (d : m.depth ≡ 0) where
    pub empty_number : rows_refusal r room st g output p ≡ number
    unfolding rows_refusal
    empty_number = λ i. when not (ne_eqb m.width 0 w i) && eq-eqb m.depth 0 d i then number else swizzle_refusal r room st g output p

    module _ (z : number ≡ 0) where
      number_is : swizzle_number st.next g output p ≡ short
      unfolding swizzle_number
      number_is = else_rest number _ z ∙ ap (λ (t : Bool). when t && short_ports m then 14 else 0) (eq-eqb m.depth 0 d)

      empty_trace : swizzle m output p ≡ swizzle_empty m output
      unfolding swizzle
      empty_trace = rw (ne_eqb m.width 0 w, eq-eqb m.depth 0 d)

      empty_value : (n : ℕ) → (swizzle_empty m output n).value ≡ []
      unfolding swizzle_empty ◌>>=◌ ◌>>◌ done
      empty_value n = refl

      lent_none : (a b : ℕ) → b ≡ 0 → lent_refusal a b ≡ 0
      lent_none a b e = ap (λ (t : Bool). when t then 20 else 0) (no_need a b e)

      empty_image : image_refusal r.image (layout_of m p) ≡ 0
      unfolding image_refusal layout_of
      empty_image = lent_none r.image _ (image_none (layout_of m p) d)

      empty_results : results_refusal r m (swizzle m output p (start_net st)).value ≡ 0
      unfolding results_refusal
      empty_results =
          ap (λ (ds : List Driving). when no_room_of r.nets (length (shared_nets m ds)) || no_room_of r.trits (length (shared_trits m ds)) then 20 else 0) (ap (λ (t : Trace (List Driving)). (t (start_net st)).value) empty_trace ∙ empty_value (start_net st))
          ∙ (λ i. when no_need r.nets _ (no_nets_lem m) i || no_need r.trits _ (no_trits_lem m) i then 20 else 0)

      empty_scratch : swizzle_scratch m p ≡ 0
      unfolding swizzle_scratch
      empty_scratch = rw (ne_eqb m.width 0 w, eq-eqb m.depth 0 d)

      -- 14, then 20 and 21 of the unmapping
      pub whole_empty : swizzle_refusal r room st g output p ≡ (short or_else log_refusal room st (swizzle_empty m output))
      unfolding swizzle_refusal
      whole_empty =
          (λ i. number_is i or_else (else_rest (image_refusal r.image (layout_of m p)) _ empty_image ∙ else_rest (results_refusal r m (swizzle m output p (start_net st)).value) _ empty_results
          ∙ else_rest (lent_refusal r.scratch (swizzle_scratch m p)) _ (lent_none r.scratch _ empty_scratch) ∙ ap (log_refusal room st) empty_trace) i)
