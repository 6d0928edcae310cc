-- A patch: its numbers after 23, and what it leaves, by the state.
use Prim.Native.Nat.{ℕ}
use mathlib.Core.Path.{◌≡◌, sym, ap, ◌∙◌}
use mathlib.Core.Logic.{◌≢◌}
use mathlib.Core.Bool.{Bool}
use mathlib.Core.Option.{none, some}
use mathlib.Core.List.{List}
use borrow.Author.Tests.{eq-eqb, ne_eqb}
use Rattle.lists.specs.Choice.{when◌then◌else◌}
use Rattle.rules.specs.Geometry.{Layout}
use Rattle.rules.specs.Image.{image_size, write_row, Patch, Laid}
use Rattle.rules.specs.Refusals.{patch_refusal_of, patch_refusal, patch_refusal_by}
use Rattle.rules.specs.Patch.{patched_by, patched_one}
use Rattle.rules.specs.Answers.{Filled, patch_call}

-- the rules' own number
pub number_is : (q : Layout) (size row : ℕ) (trits : List ℕ) (room : ℕ) → size ≡ image_size q
    → patch_refusal_by q.width q.depth size row trits room ≡ patch_refusal_of q (record { row = row; trits = trits; room = room })
unfolding patch_refusal_of
number_is q size row trits room e = ap (λ (n : ℕ). patch_refusal_by q.width q.depth n row trits room) e

-- ---- what is left of the image
kept_by : (q : Layout) (c : Patch) (image : List ℕ) → patch_refusal_of q c ≢ 0 → image ≡ patched_by q c image
unfolding patched_by
kept_by q c image n = sym (ap (λ (t : Bool). when t then write_row q c.row c.trits image else image) (ne_eqb _ 0 n))

written_by : (q : Layout) (c : Patch) (image : List ℕ) → patch_refusal_of q c ≡ 0 → write_row q c.row c.trits image ≡ patched_by q c image
unfolding patched_by
written_by q c image n = sym (ap (λ (t : Bool). when t then write_row q c.row c.trits image else image) (eq-eqb _ 0 n))

-- ---- the whole answer
module _ (l : Laid) (c : Patch) (image : List ℕ) where
  pub patch_unset : l ≡ none → ◌≡◌ {A = Filled} (record { number = 23; out = image }) (patch_call l c image)
  unfolding patch_call patch_refusal patched_one
  patch_unset e = sym (ap (λ (x : Laid). patch_call x c image) e)

  module _ (q : Layout) (e : l ≡ some q) where
    call_is : patch_call l c image ≡ record { number = patch_refusal_of q c; out = patched_by q c image }
    unfolding patch_call patch_refusal patched_one
    call_is = ap (λ (x : Laid). patch_call x c image) e

    pub patch_refused : (n : ℕ) → n ≡ patch_refusal_of q c → n ≢ 0 → ◌≡◌ {A = Filled} (record { number = n; out = image }) (patch_call l c image)
    patch_refused n f h = (λ i. record { number = f i; out = left i }) ∙ sym call_is
      where
        left : image ≡ patched_by q c image
        left = kept_by q c image (λ z. h (f ∙ z))

    pub patch-done : (after : List ℕ) → patch_refusal_of q c ≡ 0 → after ≡ write_row q c.row c.trits image → ◌≡◌ {A = Filled} (record { number = 0; out = after }) (patch_call l c image)
    patch-done after f h = (λ i. record { number = sym f i; out = (h ∙ written_by q c image f) i }) ∙ sym call_is
