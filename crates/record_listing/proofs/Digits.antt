-- The decimal digits of a number, from the last one on.
use mathlib.Core.Path.{◌≡◌, refl, sym, ap, ◌∙◌}
use Prim.Native.Nat.{ℕ, zero, suc, ◌+◌, ◌-◌, ◌/◌, ◌%◌, ◌<◌, ◌≤◌}
use native.Mathlib.Omega.{arith}
use mathlib.Core.List.{List, [], ◌∷◌}
use lib.ListN.{length, drop, set, length-set, drop_of_length-le}
use lib.Seq.{drop-cons, drop-set-lt, get_or-set_same}
use borrow.Author.Tests.{lt-ltb, le-ltb}
use Rattle.lists.proofs.Choice.{cases_le}
use Rattle.rules.specs.Lister.{digits_from, decimal}

drop_stored : (d : List ℕ) (i x : ℕ) → 0 < i → i ≤ length d → drop (i - 1) (set d (i - 1) x) ≡ x ∷ drop i d
drop_stored d i x h g =
    let e : suc (i - 1) ≡ i = omega arith in
    drop-cons (set d (i - 1) x) (i - 1) 0 (omega (arith, length-set d (i - 1) x))
    ∙ (rw (get_or-set_same d (i - 1) x 0 (omega arith), drop-set-lt (suc (i - 1)) d (i - 1) x (omega arith), e))

last_step : (m n : ℕ) (after : List ℕ) → n < 10 → digits_from (suc m) n after ≡ (48 + n) ∷ after
unfolding digits_from
last_step m n after h = rw (lt-ltb n 10 h, digits_from)

more-step : (m n : ℕ) (after : List ℕ) → 10 ≤ n → digits_from (suc m) n after ≡ digits_from m (n / 10) ((48 + n % 10) ∷ after)
unfolding digits_from
more-step m n after h = rw (le-ltb n 10 h, digits_from)

pub no_step : (n : ℕ) (after : List ℕ) → digits_from 0 n after ≡ after
unfolding digits_from
no_step n after = refl

module _ (d : List ℕ) (i left : ℕ) (h : 0 < i) (g : i ≤ length d) where
  same : i ≡ suc (i - 1)
  same = omega arith

  pub digit_last : left < 10 → drop (i - 1) (set d (i - 1) (48 + left % 10)) ≡ digits_from i left (drop i d)
  digit_last l =
      let q : left % 10 ≡ left = omega arith in
      drop_stored d i (48 + left % 10) h g
      ∙ ap (λ (n : ℕ). (48 + n) ∷ drop i d) q
      ∙ sym (ap (λ (n : ℕ). digits_from n left (drop i d)) same ∙ last_step (i - 1) left (drop i d) l)

  pub digit_more : 10 ≤ left → digits_from (i - 1) (left / 10) (drop (i - 1) (set d (i - 1) (48 + left % 10))) ≡ digits_from i left (drop i d)
  digit_more l =
      ap (digits_from (i - 1) (left / 10)) (drop_stored d i (48 + left % 10) h g)
      ∙ sym (ap (λ (n : ℕ). digits_from n left (drop i d)) same ∙ more-step (i - 1) left (drop i d) l)

-- ---- how many there are
pub length_digits : (more n : ℕ) (after : List ℕ) → length (digits_from more n after) ≤ more + length after
length_digits zero n after = omega (arith, ap length (no_step n after))
length_digits (suc more) n after =
    cases_le 10 n
    (λ h. omega (arith, ap length (more-step more n after h), length_digits more (n / 10) ((48 + n % 10) ∷ after)))
    (λ h. omega (arith, ap length (last_step more n after h)))

pub length_decimal : (n : ℕ) → length (decimal n) ≤ 10
unfolding decimal
length_decimal n = omega (arith, length_digits 10 n [])

-- all of ten digits are dropped at the start
pub ten_digits : (d : List ℕ) (n : ℕ) → length d ≡ 10 → digits_from 10 n (drop 10 d) ≡ decimal n
unfolding decimal
ten_digits d n e = ap (digits_from 10 n) (drop_of_length-le d {i = 10} (omega arith))

pub digits_end : (d : List ℕ) (i left : ℕ) → i ≡ 0 → drop i d ≡ digits_from i left (drop i d)
digits_end d i left e = rw e (sym (no_step left d))
