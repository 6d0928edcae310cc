-- The state as a layout: unset, made from a layout, and taken apart.
use Prim.Native.Nat.{ℕ, ◌*◌, ◌≤◌, ◌<◌, min}
use mathlib.Core.Path.{◌≡◌, refl, sym, ap, ◌∙◌}
use mathlib.Core.Option.{none, some}
use mathlib.Core.Bool.{Bool}
use mathlib.Core.Logic.{⊎_elim}
use mathlib.Core.List.{List}
use native.Mathlib.Omega.{arith}
use lib.Dec.{ltb}
use lib.ListN.{length, take, replicate, length-replicate}
use lib.Seq.{sets}
use borrow.Author.Tests.{lt-ltb, le-ltb, eq-eqb}
use Rattle.lists.specs.Choice.{when◌then◌else◌}
use Rattle.lists.proofs.Choice.{or_later, or_left}
use Rattle.lists.proofs.Store.{part_sets}
use Rattle.rules.specs.Limits.{max_depth, max_width, max_bits, max_row}
use Rattle.rules.specs.Value.{Value}
use Rattle.rules.specs.Cell.{Given, Plan}
use Rattle.rules.specs.Refusals.{swizzle_number}
use Rattle.rules.proofs.Accepts.{layout_good}
use Rattle.rules.proofs.Walks.{lt_or_le}
use Rattle.rules.specs.Geometry.{layout_of, row_len_of}
use Rattle.rules.specs.Conditions.{bad_layout_sizes, bad_layout}
use Rattle.rules.specs.Beside.Shape.{handed_on}
use Rattle.rules.proofs.GoodLayouts.{bad_1, handed_none, handed_some}
use Rattle.image_geometry.specs.declared.Params.{Params}
use Rattle.image_geometry.specs.View.{layout_by}
use Rattle.image_state.specs.declared.Laid.{Laid}
use Rattle.image_state.specs.View.{view_of, lent_params, laid_of, unset_laid, laid_by}

pub unset_none : laid_of unset_laid ≡ none
unfolding laid_of handed_on bad_layout bad_layout_sizes row_len_of
unset_none = refl

-- a row that is too long
pub long_none : (p : Params) (es : List ℕ) → max_row < length es → handed_on (layout_by p es) ≡ none
unfolding bad_layout_sizes row_len_of
long_none p es l =
    handed_none (layout_by p es) (bad_1 (layout_by p es)
    (or_later (ltb max_depth p.depth) (or_later (ltb max_width p.width) (or_later (ltb max_bits (p.depth * p.width)) (or_left _ (lt-ltb max_row (length es) l))))))

module _ (l : Laid) where
  pub laid_long : max_row < l.len → laid_of l ≡ none
  unfolding laid_of
  laid_long h = rw (lt-ltb max_row l.len h)

  pub laid_short : l.len ≤ max_row → laid_of l ≡ handed_on (view_of l)
  unfolding laid_of
  laid_short h = rw (le-ltb max_row l.len h)

-- ---- the state made from a layout
pub made_long : (p : Params) (es : List ℕ) → max_row < length es → unset_laid ≡ laid_by p es
unfolding laid_by
made_long p es l = sym (ap (λ (t : Bool). when t then unset_laid else full p es) (lt-ltb max_row (length es) l))
  where
    full : Params → List ℕ → Laid
    full p es = record { depth = p.depth; width = p.width; soft_mask = p.soft_mask; hard = p.hard; unit = p.unit; len = length es; entries = sets (replicate max_row 0) 0 es }

pub made_short : (p : Params) (es kept : List ℕ) → length es ≤ max_row → kept ≡ sets (replicate max_row 0) 0 es
    → ◌≡◌ {A = Laid} (record { depth = p.depth; width = p.width; soft_mask = p.soft_mask; hard = p.hard; unit = p.unit; len = length es; entries = kept }) (laid_by p es)
unfolding laid_by
made_short p es kept h e =
    ap (with_entries p es) e ∙ sym (ap (λ (t : Bool). when t then unset_laid else with_entries p es (sets (replicate max_row 0) 0 es)) (le-ltb max_row (length es) h))
  where
    with_entries : Params → List ℕ → List ℕ → Laid
    with_entries p es kept = record { depth = p.depth; width = p.width; soft_mask = p.soft_mask; hard = p.hard; unit = p.unit; len = length es; entries = kept }

-- the entries that are kept
pub kept_is : (es kept : List ℕ) → length es ≤ max_row → kept ≡ sets (replicate max_row 0) 0 es → take (length es) kept ≡ es
kept_is es kept h e =
    ap (take (length es)) e ∙ part_sets (replicate max_row 0) 0 es (omega (arith, length-replicate {A = ℕ} max_row 0))

pub laid_made : (p : Params) (es kept : List ℕ) → length es ≤ max_row → kept ≡ sets (replicate max_row 0) 0 es
    → laid_of (record { depth = p.depth; width = p.width; soft_mask = p.soft_mask; hard = p.hard; unit = p.unit; len = length es; entries = kept }) ≡ handed_on (layout_by p es)
laid_made p es kept h e = laid_short _ h ∙ ap (λ (l : List ℕ). handed_on (layout_by p l)) (kept_is es kept h e)

-- ---- the state's numbers and entries, as the code lends them
-- a unit of 0
unit_none : (p : Params) (es : List ℕ) → p.unit ≡ 0 → handed_on (layout_by p es) ≡ none
unfolding bad_layout_sizes row_len_of
unit_none p es e =
    handed_none (layout_by p es) (bad_1 (layout_by p es)
    (or_later (ltb max_depth p.depth) (or_later (ltb max_width p.width) (or_later (ltb max_bits (p.depth * p.width)) (or_later (ltb max_row (length es)) (or_left _ (eq-eqb p.unit 0 e)))))))

abbrev with_unit : Laid → ℕ → Params
with_unit l u = record { depth = l.depth; width = l.width; soft_mask = l.soft_mask; hard = l.hard; unit = u }

lent_is : (l : Laid) → handed_on (layout_by (lent_params l) (take (min max_row l.len) l.entries)) ≡ laid_of l
lent_is l =
    ⊎_elim
    (λ h. unit_none (lent_params l) _ (ap (λ (t : Bool). when t then 0 else l.unit) (lt-ltb max_row l.len h)) ∙ sym (laid_long l h))
    (λ h. let e : min max_row l.len ≡ l.len = omega arith in
    (λ i. handed_on (layout_by (with_unit l (ap (λ (t : Bool). when t then 0 else l.unit) (le-ltb max_row l.len h) i)) (take (e i) l.entries))) ∙ sym (laid_short l h))
    (lt_or_le max_row l.len)

pub laid_lent : (l : Laid) (p : Params) (n : ℕ) → p ≡ lent_params l → n ≡ min max_row l.len → handed_on (layout_by p (take n l.entries)) ≡ laid_of l
laid_lent l p n e f = (λ i. handed_on (layout_by (e i) (take (f i) l.entries))) ∙ lent_is l

-- ---- the state of an accepted swizzle is laid out
pub handed_on_lem : (next : ℕ) (g : Given) (output : Value) (p : Plan) → swizzle_number next g output p ≡ 0
    → (l : Laid) → laid_of l ≡ handed_on (layout_of g.mem p) → laid_of l ≡ some (layout_of g.mem p)
handed_on_lem next g output p e l h = h ∙ handed_some (layout_of g.mem p) (layout_good next g output p e)
