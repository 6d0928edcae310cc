-- Marks made entry by entry, and what they say at the end.
use Prim.Native.Nat.{ℕ, zero, suc, ◌+◌, ◌-◌, ◌*◌, ◌≤◌, ◌<◌, min}
use mathlib.Core.Path.{◌≡◌, sym, ap, ◌∙◌}
use mathlib.Core.Logic.{◌≢◌}
use mathlib.Core.Bool.{Bool, true, false, not, ◌||◌}
use mathlib.Core.List.{List, ◌∷◌}
use native.Mathlib.Omega.{arith}
use native.Mathlib.Numerals.{add-one}
use native.Mathlib.Decide.{ℕ_discrete}
use lib.Dec.{eqb, ltb, leb}
use lib.ListN.{length, get_or, set, drop, replicate, get_or-replicate, length-set}
use lib.Seq.{drop-cons, drop-length, get_or-set_same, get_or-set_other}
use borrow.Author.Tests.{lt-ltb, le-ltb, le-leb, lt-leb, eq-eqb, ne_eqb}
use Rattle.std.specs.List.{range_with_len}
use Rattle.lists.specs.Choice.{when◌then◌else◌}
use Rattle.lists.specs.Lists.{any, up_from}
use Rattle.lists.proofs.Choice.{or_left, or_right, or_both, cases_le}
use Rattle.lists.proofs.UpFrom.{any_same, any_up}
use Rattle.rules.specs.Conditions.{times}
use Rattle.rules.proofs.Named.{times_hit, times_miss, times_none}
use Rattle.image_check.specs.Marks.{more, bumped, not_once, Marked}
use Rattle.rules.specs.Limits.{max_width}

module _ (base e : ℕ) (marks : List ℕ) where
  kept : (ltb e base || leb max_width (e - base)) ≡ true → marks ≡ bumped base e marks
  unfolding bumped
  kept h = sym (ap (λ (t : Bool). when t then marks else set marks (e - base) (more (get_or marks (e - base) 0))) h)

  marked : (ltb e base || leb max_width (e - base)) ≡ false → set marks (e - base) (more (get_or marks (e - base) 0)) ≡ bumped base e marks
  unfolding bumped
  marked h = sym (ap (λ (t : Bool). when t then marks else set marks (e - base) (more (get_or marks (e - base) 0))) h)

  pub bump_low : e < base → marks ≡ bumped base e marks
  bump_low l = kept (or_left _ (lt-ltb e base l))

  pub bump_far : base ≤ e → max_width ≤ e - base → marks ≡ bumped base e marks
  bump_far l h = kept (or_right (le-ltb e base l) (le-leb max_width (e - base) h))

  pub bump_in : base ≤ e → e - base < max_width → set marks (e - base) (more (get_or marks (e - base) 0)) ≡ bumped base e marks
  bump_in l h = marked (or_both (le-ltb e base l) (lt-leb max_width (e - base) h))

  pub bump_first : base ≤ e → e - base < max_width → get_or marks (e - base) 0 ≡ 0 → set marks (e - base) 1 ≡ bumped base e marks
  bump_first l h z = ap (λ (t : Bool). set marks (e - base) (when t then 1 else 2)) (sym (eq-eqb _ 0 z)) ∙ bump_in l h

  pub bump_again : base ≤ e → e - base < max_width → get_or marks (e - base) 0 ≢ 0 → set marks (e - base) 2 ≡ bumped base e marks
  bump_again l h z = ap (λ (t : Bool). set marks (e - base) (when t then 1 else 2)) (sym (ne_eqb _ 0 z)) ∙ bump_in l h

  -- ---- the mark of bit base + j
  pub hit : (j : ℕ) → j < max_width → length marks ≡ max_width → e ≡ base + j → get_or (bumped base e marks) j 0 ≡ more (get_or marks j 0)
  hit j l n q =
      let s : e - base ≡ j = omega arith in
      ap (λ (m : List ℕ). get_or m j 0) (sym (bump_in (omega arith) (omega arith)) ∙ ap (λ (k : ℕ). set marks k (more (get_or marks k 0))) s)
      ∙ get_or-set_same marks j (more (get_or marks j 0)) 0 (omega arith)

  pub miss : (j : ℕ) → (e ≡ base + j → ⊥) → get_or (bumped base e marks) j 0 ≡ get_or marks j 0
  miss j q =
      cases_le base e
      (λ l. cases_le max_width (e - base)
      (λ h. ap (λ (m : List ℕ). get_or m j 0) (sym (bump_far l h)))
      (λ h. ap (λ (m : List ℕ). get_or m j 0) (sym (bump_in l h)) ∙ get_or-set_other marks (e - base) j _ 0 (λ s. q (omega arith))))
      (λ l. ap (λ (m : List ℕ). get_or m j 0) (sym (bump_low l)))

pub length_bumped : (base e : ℕ) (marks : List ℕ) → length (bumped base e marks) ≡ length marks
length_bumped base e marks =
    cases_le base e
    (λ l. cases_le max_width (e - base)
    (λ h. ap length (sym (bump_far base e marks l h)))
    (λ h. ap length (sym (bump_in base e marks l h)) ∙ length-set marks (e - base) _))
    (λ l. ap length (sym (bump_low base e marks l)))

-- ---- the loop
-- what is marked and what the entries from i on still name
pub record Marking (base : ℕ) (es marks : List ℕ) (i : ℕ) : Type 0 where
  pub within : i ≤ length es
  pub long : length marks ≡ max_width
  pub each : (j : ℕ) → j < max_width → min 2 (get_or marks j 0 + times (base + j) (drop i es)) ≡ min 2 (times (base + j) es)

more_is : (m t : ℕ) → min 2 (more m + t) ≡ min 2 (m + suc t)
more_is zero t = omega arith
more_is (suc m) t = rw (ne_eqb (suc m) 0 (λ z. omega arith)) (omega arith)

pub marking_starts : (base : ℕ) (es marks : List ℕ) → marks ≡ replicate max_width 0 → Marking base es marks 0
marking_starts base es marks e = record {
  within = omega arith;
  long = ap length e;
  each = λ j l. ap (λ (m : ℕ). min 2 (m + times (base + j) es)) (ap (λ (x : List ℕ). get_or x j 0) e ∙ get_or-replicate max_width j 0 0 l) ∙ ap (min 2) (omega arith);
}

module _ (base : ℕ) (es marks : List ℕ) (i : ℕ) (h : Marking base es marks i) where
  pub marking_turn : (marks' : List ℕ) → i < length es → marks' ≡ bumped base (get_or es i 0) marks → Marking base es marks' (i + 1)
  marking_turn marks' l e = record {
    within = omega arith;
    long = ap length e ∙ length_bumped base (get_or es i 0) marks ∙ h.long;
    each = next;
  }
    where
      rest : drop i es ≡ get_or es i 0 ∷ drop (i + 1) es
      rest = drop-cons es i 0 l ∙ ap (λ (n : ℕ). get_or es i 0 ∷ drop n es) (sym (add-one i))

      on : (j : ℕ) → j < max_width → Dec (get_or es i 0 ≡ base + j) → min 2 (get_or marks' j 0 + times (base + j) (drop (i + 1) es)) ≡ min 2 (times (base + j) es)
      on j k (yes q) =
          ap (λ (m : ℕ). min 2 (m + times (base + j) (drop (i + 1) es))) (ap (λ (x : List ℕ). get_or x j 0) e ∙ hit base (get_or es i 0) marks j k h.long q)
          ∙ more_is (get_or marks j 0) (times (base + j) (drop (i + 1) es))
          ∙ ap (λ (m : ℕ). min 2 (get_or marks j 0 + m)) (sym (ap (times (base + j)) rest ∙ times_hit (base + j) (get_or es i 0) (drop (i + 1) es) q))
          ∙ h.each j k
      on j k (no q) =
          ap (λ (m : ℕ). min 2 (m + times (base + j) (drop (i + 1) es))) (ap (λ (x : List ℕ). get_or x j 0) e ∙ miss base (get_or es i 0) marks j q)
          ∙ ap (λ (m : ℕ). min 2 (get_or marks j 0 + m)) (sym (ap (times (base + j)) rest ∙ times_miss (base + j) (get_or es i 0) (drop (i + 1) es) q))
          ∙ h.each j k

      next : (j : ℕ) → j < max_width → min 2 (get_or marks' j 0 + times (base + j) (drop (i + 1) es)) ≡ min 2 (times (base + j) es)
      next j k = on j k (ℕ_discrete (get_or es i 0) (base + j))

  pub marking_ends : length es ≤ i → Marked base es marks
  marking_ends l = record { each = λ j k. sym (none j) ∙ h.each j k }
    where
      none : (j : ℕ) → min 2 (get_or marks j 0 + times (base + j) (drop i es)) ≡ min 2 (get_or marks j 0)
      none j =
          let z : i ≡ length es = omega (arith, h.within) in
          ap (λ (l : List ℕ). min 2 (get_or marks j 0 + times (base + j) l)) (ap (λ (n : ℕ). drop n es) z ∙ drop-length es)
          ∙ ap (min 2) (omega (arith, times_none (base + j)))

-- ---- a block of bits
once_same : (a b : ℕ) → min 2 a ≡ min 2 b → eqb a 1 ≡ eqb b 1
once_same a b e = on (ℕ_discrete a 1)
  where
    on : Dec (a ≡ 1) → eqb a 1 ≡ eqb b 1
    on (yes q) = eq-eqb a 1 q ∙ sym (eq-eqb b 1 (omega arith))
    on (no q) = ne_eqb a 1 q ∙ sym (ne_eqb b 1 (λ r. q (omega arith)))

pub block_is : (base : ℕ) (es marks : List ℕ) (count : ℕ) → Marked base es marks → count ≤ max_width
    → any (λ j. not (eqb (get_or marks j 0) 1)) (up_from 0 count) ≡ any (not_once es) (up_from base count)
block_is base es marks count h l =
    any_same _ _ 0 base count
    (λ j k. ap not (ap (λ (n : ℕ). eqb (get_or marks n 0) 1) (omega arith) ∙ once_same (get_or marks j 0) (times (base + j) es) (h.each j (omega arith))))

-- ---- all blocks
blocks_any : (f : ℕ → Bool) (width n b : ℕ) → width ≤ (b + n) * max_width
    → any (λ k. any f (up_from (k * max_width) (min (width - k * max_width) max_width))) (range_with_len b n) ≡ any f (up_from (b * max_width) (width - b * max_width))
blocks_any f width zero b h = let z : width - b * max_width ≡ 0 = omega arith in sym (ap (λ (k : ℕ). any f (up_from (b * max_width) k)) z)
blocks_any f width (suc n) b h =
    let g : ℕ → Bool = λ k. any f (up_from (k * max_width) (min (width - k * max_width) max_width)) in
    let base = b * max_width in
    let m = min (width - base) max_width in
    let s : width - base ≡ m + (width - (b + 1) * max_width) = omega arith in
    ap (λ (t : Bool). g b || t) (blocks_any f width n (b + 1) (omega arith))
    ∙ cases_le width ((b + 1) * max_width)
    (λ l.
    let z : width - (b + 1) * max_width ≡ 0 = omega arith in
    ap (λ (k : ℕ). g b || any f (up_from ((b + 1) * max_width) k)) z ∙ sym (ap (λ (k : ℕ). g b || any f (up_from (base + m) k)) z))
    (λ l. let y : (b + 1) * max_width ≡ base + m = omega arith in ap (λ (k : ℕ). g b || any f (up_from k (width - (b + 1) * max_width))) y)
    ∙ sym (ap (λ (k : ℕ). any f (up_from base k)) s ∙ any_up f base m (width - (b + 1) * max_width))

pub all_blocks : (f : ℕ → Bool) (width n : ℕ) → width ≤ n * max_width
    → any (λ k. any f (up_from (k * max_width) (min (width - k * max_width) max_width))) (range_with_len 0 n) ≡ any f (up_from 0 width)
all_blocks f width n h =
    let y : 0 * max_width ≡ 0 = omega arith in
    let z : width - 0 ≡ width = omega arith in
    blocks_any f width n 0 (omega arith) ∙ ap (λ (k : ℕ). any f (up_from k (width - k))) y ∙ ap (λ (k : ℕ). any f (up_from 0 k)) z
