-- The image, the state for patches and the record's sizes of a swizzle that no number refuses.
use mathlib.Core.Path.{◌≡◌, refl, sym, ap, ◌∙◌}
use Prim.Native.Nat.{ℕ, ◌*◌}
use mathlib.Core.Bool.{false, not}
use mathlib.Core.Option.{some}
use mathlib.Core.List.{List}
use lib.ListN.{length}
use lib.Dec.{eqb}
use Rattle.lists.specs.Choice.{when◌then◌else◌}
use Rattle.lists.specs.Lists.{part}
use Rattle.lists.proofs.Choice.{else_zero, or_false, leaves_accepted}
use Rattle.rules.specs.Cell.{Mem, Plan}
use Rattle.rules.specs.Geometry.{Layout, layout_of}
use Rattle.rules.specs.Image.{image_size, Laid}
use Rattle.rules.specs.Patch.{laid_out}
use Rattle.rules.specs.Record.{sizes_of}
use Rattle.rules.specs.Conditions.{plan_too_large, bad_shape, bad_nets, bad_trits, bad_output_len, bad_value}
use Rattle.rules.specs.Refusals as rules
use Rattle.rules.specs.Refusals.{lent_refusal, image_refusal, driving_number, swizzle_number, swizzle_refusal}
use Rattle.rules.specs.Answers.{Refused, Accepted, Filled, filled_with, sizes_call}
use Rattle.rules.specs.Refusal as numbers
use Rattle.rules.specs.declared.numbers.Refusal.{Refusal}
use Rattle.rules.proofs.Answers.{tells_refused, answer_accepted, number_nonzero}
use Rattle.rules.specs.Beside.Shape.{handed_on}
use Rattle.rules.specs.Beside.Layouts.{fill_refusal_by, fill_refusal_of, fill_refusal, filled_by, fill_call}
use Rattle.rules.proofs.Accepts.{layout_good}
use Rattle.rules.proofs.GoodLayouts.{handed_some}
use Rattle.log_entries.specs.declared.LogState.{LogState}
use Rattle.log_entries.specs.View.{state_of}
use Rattle.net_memory.specs.declared.Memory.{Memory}
use Rattle.net_memory.specs.View.{memory_of}
use Rattle.net_memory.specs.Given.{given_of}
use Rattle.net_check.proofs.Accept.{Valid, valid}
use Rattle.swizzle_call.proofs.Cases.{number, driving}

init_is : (m : Memory) (nets trits : List ℕ) → part 0 m.init_len trits ≡ (memory_of m nets trits).init
unfolding memory_of
init_is m nets trits = refl

sizes_some : (q : Layout) → sizes_call (some q) ≡ Accepted (sizes_of q)
unfolding sizes_call
sizes_some q = refl

module _ (r : rules.SwizzleRooms) (room : ℕ) (st : LogState) (m : Memory) (nets trits output : List ℕ) (p : Plan) (z : swizzle_refusal r room (state_of st) (given_of m nets trits) output p ≡ 0) where
  abbrev M : Mem
  M = memory_of m nets trits

  abbrev q : Layout
  q = layout_of M p

  facts : Valid (plan_too_large p) (bad_output_len M output) (bad_value st.next output) st.next m nets trits
  unfolding driving_number
  facts = valid (plan_too_large p) (bad_output_len M output) (bad_value st.next output) st.next m nets trits (driving r room st m nets trits output p z)

  init_long : not (eqb (length M.init) (M.depth * M.width)) ≡ false
  unfolding bad_shape
  init_long = (or_false (not (eqb (length M.init) (M.depth * M.width))) _ facts.shape_not).0

  init_good : bad_trits M.init ≡ false
  unfolding bad_nets
  init_good = (or_false (bad_trits M.init) _ facts.nets_not).0

  image_room_lem : lent_refusal r.image (image_size q) ≡ 0
  unfolding swizzle_refusal image_refusal
  image_room_lem = (else_zero (lent_refusal r.image (image_size q)) _ (else_zero (swizzle_number st.next (given_of m nets trits) output p) _ z).1).0

  fill_0 : fill_refusal_of q r.image M.init ≡ 0
  unfolding fill_refusal_of fill_refusal_by layout_of
  fill_0 = λ i. when init_long i then 2 else when init_good i then 4 else image_room_lem i

  filled_out : (image : List ℕ) → length image ≡ r.image → (fill_call (some q) M.init image).out ≡ laid_out q M.init image
  unfolding fill_call fill_refusal filled_by
  filled_out image e =
      leaves_accepted (fill_refusal_of q (length image) M.init) image (laid_out q M.init image) (ap (λ (k : ℕ). fill_refusal_of q k M.init) e ∙ fill_0)

  fill_number : (image : List ℕ) → length image ≡ r.image → (fill_call (some q) M.init image).number ≡ 0
  unfolding fill_call fill_refusal filled_by
  fill_number image e = ap (λ (k : ℕ). fill_refusal_of q k M.init) e ∙ fill_0

  -- x is the layout, and l what is handed on of it
  module _ (l : Laid) (x : Layout) (e : l ≡ handed_on x) (f : x ≡ q) where
    pub handed : l ≡ some q
    handed = e ∙ ap handed_on f ∙ handed_some q (layout_good st.next (given_of m nets trits) output p (number r room st m nets trits output p z))

    pub sizes_told : sizes_call l ≡ Accepted (sizes_of q)
    sizes_told = ap sizes_call handed ∙ sizes_some q

    pub image_laid : (image after : List ℕ) → length image ≡ r.image → after ≡ (fill_call l (part 0 m.init_len trits) image).out → after ≡ laid_out q M.init image
    image_laid image after g h = h ∙ (λ i. (fill_call (handed i) (init_is m nets trits i) image).out) ∙ filled_out image g

    -- neither the sizes nor the image refuse it
    pub sizes_never : (n : ℕ) → Refused n ≡ sizes_call l → ⊥
    sizes_never n h = (tells_refused 0 n (sizes_of q) (h ∙ sizes_told ∙ sym (answer_accepted 0 (sizes_of q) refl))).1 refl

    pub fill_never : (k : Refusal) (image after : List ℕ) → length image ≡ r.image → filled_with (numbers.number k) after ≡ fill_call l (part 0 m.init_len trits) image → ⊥
    fill_never k image after g h =
        number_nonzero k
        (ap (λ (y : Filled). y.number) h ∙ (λ i. (fill_call (handed i) (init_is m nets trits i) image).number) ∙ fill_number image g)
