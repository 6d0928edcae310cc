-- A layout and the calls after it: the whole answer, and demand 3. And that the state which an accepted swizzle hands on is laid out.
use Prim.Native.Nat.{ℕ}
use mathlib.Core.Path.{◌≡◌, refl, sym, ap, ◌∙◌, subst}
use mathlib.Core.Logic.{◌≢◌}
use mathlib.Core.Bool.{Bool, true, false}
use mathlib.Core.Option.{some}
use mathlib.Core.List.{List}
use lib.ListN.{length}
use lib.Seq.{sets}
use Rattle.lists.specs.Choice.{leaves}
use Rattle.lists.proofs.Choice.{else_first, else_rest, else_zero, leaves_refused, leaves_accepted}
use Rattle.rules.specs.Value.{Value}
use Rattle.rules.specs.Cell.{Given, Plan}
use Rattle.rules.specs.Log.{LogState}
use Rattle.rules.specs.Geometry.{Layout, layout_of}
use Rattle.rules.specs.Image.{Patch, Laid}
use Rattle.rules.specs.Conditions.{bad_layout}
use Rattle.rules.specs.Refusals.{lent_refusal}
use Rattle.rules.specs.Patch.{patched, called_all, laid_out, Demand, Demanded}
use Rattle.rules.specs.Beside.Shape.{handed_on}
use Rattle.rules.specs.Beside.Layouts.{fill_refusal_of, fill_refusal, filled_by, fill_call, fill_and_patch_refusal, fill_and_patch_call}
use Rattle.rules.specs.Answers.{Accepted, Filled, Patched, patch_numbers, patched_with, SwizzleLent, swizzle_call}
use Rattle.rules.proofs.Demand.{demand_3}
use Rattle.rules.proofs.GoodLayouts.{good_accepted, handed_none, handed_some}
use Rattle.rules.proofs.Accepts.{swizzle_then_patches}
use Rattle.image_state.specs.declared.Laid as images
use Rattle.image_state.specs.View.{laid_of}
use Rattle.image_rows.proofs.Filling.{fills}
use Rattle.image_patches.specs.Calls.{patched_to}
use Rattle.image_patches.proofs.Calling.{with_refused, with_done}

-- ---- the whole answer
module _ (numbers : List ℕ) (l : Laid) (rows buffer : List ℕ) (cs : List Patch) where
  number_of : (n : ℕ) (mid : List ℕ) → record { number = n; out = mid } ≡ fill_call l rows buffer → n ≡ fill_refusal l (length buffer) rows
  unfolding fill_call
  number_of n mid e = ap (λ (f : Filled). f.number) e

  left_of_lem : (n : ℕ) (mid : List ℕ) → record { number = n; out = mid } ≡ fill_call l rows buffer → mid ≡ leaves (fill_refusal l (length buffer) rows) buffer (filled_by l rows buffer)
  unfolding fill_call
  left_of_lem n mid e = ap (λ (f : Filled). f.out) e

  -- a number of the rows
  pub rows_refused : (n : ℕ) → n ≡ fill_refusal l (length buffer) rows → n ≢ 0 → patched_to n numbers buffer ≡ fill_and_patch_call numbers l rows cs buffer
  unfolding fill_and_patch_call fill_and_patch_refusal
  rows_refused n e h = with_refused numbers l cs buffer (filled_by l rows buffer) n _ (e ∙ sym (else_first _ _ (λ z. h (e ∙ z)))) h

  -- where nothing is laid out
  pub both_refused : (n : ℕ) (mid : List ℕ) → record { number = n; out = mid } ≡ fill_call l rows buffer → n ≢ 0 → patched_to n numbers mid ≡ fill_and_patch_call numbers l rows cs buffer
  both_refused n mid e h =
      let f = number_of n mid e in
      ap (patched_to n numbers) (left_of_lem n mid e ∙ leaves_refused _ buffer (filled_by l rows buffer) (λ z. h (f ∙ z))) ∙ rows_refused n f h

  -- the room for the numbers
  pub room_refused : (n k : ℕ) → n ≡ lent_refusal (length numbers) (length cs) → n ≢ 0 → k ≡ fill_refusal l (length buffer) rows → k ≡ 0 → patched_to n numbers buffer ≡ fill_and_patch_call numbers l rows cs buffer
  unfolding fill_and_patch_call fill_and_patch_refusal
  room_refused n k e h f z = with_refused numbers l cs buffer (filled_by l rows buffer) n _ (e ∙ sym (else_rest _ _ (sym f ∙ z))) h

  -- rows that are accepted, and the calls
  pub both_done : (n k : ℕ) (mid stored after : List ℕ) → n ≡ lent_refusal (length numbers) (length cs) → n ≡ 0 → record { number = k; out = mid } ≡ fill_call l rows buffer → k ≡ 0
      → length mid ≡ length buffer → stored ≡ sets numbers 0 (patch_numbers l (length mid) cs) → after ≡ patched l cs mid
      → patched_to 0 stored after ≡ fill_and_patch_call numbers l rows cs buffer
  unfolding fill_and_patch_call fill_and_patch_refusal
  both_done n k mid stored after r z e h s f a =
      let g : fill_refusal l (length buffer) rows ≡ 0 = sym (number_of k mid e) ∙ h in
      with_done numbers l cs buffer (filled_by l rows buffer) _ stored after (else_rest _ _ g ∙ sym r ∙ z)
      (f ∙ ap (λ (x : ℕ). sets numbers 0 (patch_numbers l x cs)) s) (a ∙ ap (patched l cs) (left_of_lem k mid e ∙ leaves_accepted _ buffer (filled_by l rows buffer) g))

-- ---- demand 3
some_out : (q : Layout) (numbers stored rows buffer after : List ℕ) (cs : List Patch) → patched_to 0 stored after ≡ fill_and_patch_call numbers (some q) rows cs buffer
    → (fill_refusal_of q (length buffer) rows ≡ 0) × (after ≡ called_all q cs (laid_out q rows buffer))
unfolding fill_and_patch_call fill_and_patch_refusal patched_with fill_refusal filled_by patched
some_out q numbers stored rows buffer after cs e =
    let f = sym (ap (λ (f : Patched). f.number) e) in
    ((else_zero (fill_refusal_of q (length buffer) rows) _ f).0, ap (λ (f : Patched). f.image) e ∙ leaves_accepted _ buffer (called_all q cs (laid_out q rows buffer)) f)

pub demanded : (q : Layout) (numbers stored rows buffer after : List ℕ) (cs : List Patch)
    → patched_to 0 stored after ≡ fill_and_patch_call numbers (handed_on q) rows cs buffer → Demanded (handed_on q) rows buffer cs after
demanded q numbers stored rows buffer after cs e = on (bad_layout q) refl
  where
    on : (t : Bool) → bad_layout q ≡ t → Demanded (handed_on q) rows buffer cs after
    on true h = subst (λ (l : Laid). Demanded l rows buffer cs after) (sym (handed_none q h)) tt
    on false h =
        let s = some_out q numbers stored rows buffer after cs (e ∙ ap (λ (l : Laid). fill_and_patch_call numbers l rows cs buffer) (handed_some q h)) in
        let f = fills q (length buffer) rows s.0 in
        subst (λ (l : Laid). Demanded l rows buffer cs after) (sym (handed_some q h))
        (subst (λ (x : List ℕ). Demand q rows buffer cs x) (sym s.1) (demand_3 q (good_accepted q h) rows buffer f.0 f.1 cs))

-- ---- the state of an accepted swizzle
module _ (a : SwizzleLent) (log : List ℕ) (s : LogState) (g : Given) (output : Value) (p : Plan) where
  -- every list of calls by a struct that holds the state which the swizzle hands on, from the image that it leaves
  pub swizzled : (l : images.Laid) → (swizzle_call a log s g output p).laid ≡ Accepted (laid_of l) → (cs : List Patch)
      → Demand (layout_of g.mem p) g.mem.init a.image cs (patched (laid_of l) cs (swizzle_call a log s g output p).image)
  swizzled l e cs = swizzle_then_patches a log s g output p (laid_of l) e cs
