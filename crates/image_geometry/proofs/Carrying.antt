-- The spot of the next row by carrying: what is left of the row number and of the next one, each laid onto the same weights.
use Prim.Native.Nat.{ℕ, zero, suc, ◌+◌, ◌-◌, ◌*◌, ◌/◌, ◌%◌, ◌^◌, ◌≤◌, ◌<◌}
use mathlib.Core.Path.{◌≡◌, refl, sym, ap, ◌∙◌, subst}
use mathlib.Core.Bool.{Bool, true, false}
use native.Mathlib.Omega.{arith}
use native.Mathlib.Nat.{pow-succ', mul-add, mul_assoc, mul_left_comm, mul-le-mul_left, mul-one, le_trans}
use lib.Count as count
use lib.Count.{count_trailing_zeros}
use Rattle.rules.specs.Limits.{addr_bits}
use Rattle.rules.specs.Geometry.{Spot, to_chunk, hard_left, under, walk}
use Rattle.rules.proofs.Walks.{walk_pos, walk_le, pow_pos_suc}
use Rattle.image_geometry.specs.declared.Walk.{Walk}
use Rattle.image_geometry.specs.Steps.{Roomy, stepped, taken_away}
use Rattle.image_geometry.proofs.Walking.{left_pos}

-- a spot at the weights
abbrev pub scaled : Walk → Spot → Spot
scaled w s = record { chunk = w.cb * s.chunk; row = w.rb * s.row }

-- what the walk holds
abbrev pub held : Walk → Spot
held w = record { chunk = w.chunk; row = w.row }

zero_bit : (k x : ℕ) → k * (0 + 2 * x) ≡ 2 * k * x
zero_bit k x = omega (arith, mul-add k 0 (2 * x), mul_left_comm k 2 x, mul_assoc 2 k x)

one_bit : (k x : ℕ) → k * (1 + 2 * x) ≡ k + 2 * k * x
one_bit k x = omega (arith, mul-add k 1 (2 * x), mul-one k, mul_left_comm k 2 x, mul_assoc 2 k x)

zero_scaled : (t : Bool) (w : Walk) (s : Spot) → scaled w (under t 0 s) ≡ scaled (taken_away t w) s
unfolding under
zero_scaled true w s = λ i. record { chunk = zero_bit w.cb s.chunk i; row = w.rb * s.row }
zero_scaled false w s = λ i. record { chunk = w.cb * s.chunk; row = zero_bit w.rb s.row i }

away : (c k x : ℕ) → c ≡ k * (1 + 2 * x) → c - k ≡ 2 * k * x
away c k x e = omega (arith, one_bit k x)

-- a bit that was 1 is taken away
one_held : (t : Bool) (w : Walk) (s : Spot) → held w ≡ scaled w (under t 1 s) → held (taken_away t w) ≡ scaled (taken_away t w) s
unfolding under
one_held true w s e = λ i. record { chunk = away w.chunk w.cb s.chunk (ap (λ (x : Spot). x.chunk) e) i; row = (e i).row }
one_held false w s e = λ i. record { chunk = (e i).chunk; row = away w.row w.rb s.row (ap (λ (x : Spot). x.row) e) i }

more : (c k x : ℕ) → c ≡ k * (0 + 2 * x) → c + 1 * k ≡ k * (1 + 2 * x)
more c k x e = omega (arith, one_bit k x, zero_bit k x)

-- a bit that was 0 is added
zero_held : (t : Bool) (w : Walk) (s : Spot) → held w ≡ scaled w (under t 0 s) → held (stepped t 1 w) ≡ scaled w (under t 1 s)
unfolding under
zero_held true w s e = λ i. record { chunk = more w.chunk w.cb s.chunk (ap (λ (x : Spot). x.chunk) e) i; row = (e i).row }
zero_held false w s e = λ i. record { chunk = (e i).chunk; row = more w.row w.rb s.row (ap (λ (x : Spot). x.row) e) i }

hard_away : (t : Bool) (w : Walk) → (taken_away t w).hard ≡ hard_left t w.hard
unfolding hard_left
hard_away true w = refl
hard_away false w = refl

-- the loop: `rest` and `soft` are what is left of the row number and the mask, `left` the bits that are left
pub record Carrying (mask hard row : ℕ) (w : Walk) (soft rest : ℕ) : Type 0 where
  pub left : ℕ
  pub rest_fits : rest + 1 < 2 ^ left
  pub this : held w ≡ scaled w (walk left soft w.hard rest)
  pub next : walk addr_bits mask hard (row + 1) ≡ scaled w (walk left soft w.hard (rest + 1))

same_spot : (s : Spot) → s ≡ record { chunk = 1 * s.chunk; row = 1 * s.row }
same_spot s = λ i. record { chunk = one s.chunk i; row = one s.row i }
  where
    one : (x : ℕ) → x ≡ 1 * x
    one x = omega arith

pub carry_starts : (mask hard row : ℕ) (w : Walk) (s : Spot) → row < 4294967295 → s ≡ walk addr_bits mask hard row
    → w ≡ record { chunk = s.chunk; cb = 1; row = s.row; rb = 1; hard = hard } → Carrying mask hard row w mask row
carry_starts mask hard row w s h e f = subst (λ (v : Walk). Carrying mask hard row v mask row) (sym f) (record {
  left = addr_bits;
  rest_fits = fits;
  this = e ∙ same_spot (walk addr_bits mask hard row);
  next = same_spot (walk addr_bits mask hard (row + 1));
})
  where
    fits : row + 1 < 4294967296
    fits = omega arith

half_carries : (n r : ℕ) → 0 < n → r % 2 ≡ 1 → r + 1 < 2 ^ n → r / 2 + 1 < 2 ^ (n - 1)
half_carries n r l o h = omega (arith, pow_pos_suc n l)

module _ (mask hard row : ℕ) (w : Walk) (soft rest : ℕ) (h : Carrying mask hard row w soft rest) where
  n : 0 < h.left
  n = left_pos h.left (rest + 1) h.rest_fits (omega arith)

  -- the walk of the bits that are left, of any number
  first : (r : ℕ) → walk h.left soft w.hard r ≡ under (to_chunk soft w.hard) (r % 2) (walk (h.left - 1) (soft / 2) (hard_left (to_chunk soft w.hard) w.hard) (r / 2))
  first r = walk_pos h.left soft w.hard r n

  bit_of_lem : (r b k : ℕ) → r % 2 ≡ b → r / 2 ≡ k
      → walk h.left soft w.hard r ≡ under (to_chunk soft w.hard) b (walk (h.left - 1) (soft / 2) (hard_left (to_chunk soft w.hard) w.hard) k)
  bit_of_lem r b k e f = first r ∙ λ i. under (to_chunk soft w.hard) (e i) (walk (h.left - 1) (soft / 2) (hard_left (to_chunk soft w.hard) w.hard) (f i))

  pub carry_turn : (w' : Walk) → rest % 2 ≡ 1 → w' ≡ taken_away (to_chunk soft w.hard) w → Carrying mask hard row w' (soft / 2) (rest / 2)
  carry_turn w' o e = subst (λ (v : Walk). Carrying mask hard row v (soft / 2) (rest / 2)) (sym e) made
    where
      t : Bool
      t = to_chunk soft w.hard

      rename : (r : ℕ) → walk (h.left - 1) (soft / 2) (hard_left t w.hard) r ≡ walk (h.left - 1) (soft / 2) (taken_away t w).hard r
      rename r = ap (λ (k : ℕ). walk (h.left - 1) (soft / 2) k r) (sym (hard_away t w))

      made : Carrying mask hard row (taken_away t w) (soft / 2) (rest / 2)
      made = record {
        left = h.left - 1;
        rest_fits = half_carries h.left rest n o h.rest_fits;
        this = one_held t w _ (h.this ∙ ap (scaled w) (bit_of_lem rest 1 (rest / 2) o refl)) ∙ ap (scaled (taken_away t w)) (rename (rest / 2));
        next = h.next ∙ ap (scaled w) (bit_of_lem (rest + 1) 0 (rest / 2 + 1) (omega arith) (omega arith)) ∙ zero_scaled t w _ ∙ ap (scaled (taken_away t w)) (rename (rest / 2 + 1));
      }

  pub carry_ends : (w' : Walk) → rest % 2 ≡ 0 → w' ≡ stepped (to_chunk soft w.hard) 1 w → held w' ≡ walk addr_bits mask hard (row + 1)
  carry_ends w' o e =
      ap held e ∙ zero_held (to_chunk soft w.hard) w _ (h.this ∙ ap (scaled w) (bit_of_lem rest 0 (rest / 2) o refl))
      ∙ sym (h.next ∙ ap (scaled w) (bit_of_lem (rest + 1) 1 (rest / 2) (omega arith) (omega arith)))

-- ---- the weights, whatever the spot is
pub record Small (w : Walk) (rest : ℕ) : Type 0 where
  pub chunk_small : w.chunk < 4294967296
  pub row_small : w.row < 4294967296
  pub chunk_bit : w.cb * (rest + 1) ≤ 4294967296
  pub row_bit : w.rb * (rest + 1) ≤ 4294967296

bit_max : (k r : ℕ) → k * (r + 1) ≤ 4294967296 → k ≤ 4294967296
bit_max k r h = omega (arith, mul-add k r 1, mul-one k)

pub roomy : (w : Walk) (rest : ℕ) → Small w rest → Roomy w 1
roomy w rest h = record {
  bit_max = omega arith;
  chunk_max = omega (arith, h.chunk_small);
  row_max = omega (arith, h.row_small);
  chunk_bit_max = bit_max w.cb rest h.chunk_bit;
  row_bit_max = bit_max w.rb rest h.row_bit;
}

doubled : (k r : ℕ) → r % 2 ≡ 1 → k * (r + 1) ≤ 4294967296 → 2 * k * (r / 2 + 1) ≤ 4294967296
doubled k r o h =
    let e : r + 1 ≡ 2 * (r / 2 + 1) = omega arith in
    let f : k * (r + 1) ≡ 2 * k * (r / 2 + 1) = ap (λ (x : ℕ). k * x) e ∙ mul_left_comm k 2 (r / 2 + 1) ∙ sym (mul_assoc 2 k (r / 2 + 1)) in
    omega arith

kept : (k r : ℕ) → k * (r + 1) ≤ 4294967296 → k * (r / 2 + 1) ≤ 4294967296
kept k r h = le_trans (mul-le-mul_left k (omega arith)) h

small_step : (t : Bool) (w : Walk) (rest : ℕ) → rest % 2 ≡ 1 → Small w rest → Small (taken_away t w) (rest / 2)
small_step true w rest o h = record {
  chunk_small = omega (arith, h.chunk_small);
  row_small = h.row_small;
  chunk_bit = doubled w.cb rest o h.chunk_bit;
  row_bit = kept w.rb rest h.row_bit;
}
small_step false w rest o h = record {
  chunk_small = h.chunk_small;
  row_small = omega (arith, h.row_small);
  chunk_bit = kept w.cb rest h.chunk_bit;
  row_bit = doubled w.rb rest o h.row_bit;
}

pub small_turn : (t : Bool) (w w' : Walk) (rest : ℕ) → rest % 2 ≡ 1 → w' ≡ taken_away t w → Small w rest → Small w' (rest / 2)
small_turn t w w' rest o e h = subst (λ (v : Walk). Small v (rest / 2)) (sym e) (small_step t w rest o h)

pub small_starts : (c r hard row : ℕ) (w : Walk) → c < 4294967296 → r < 4294967296 → row < 4294967296
    → w ≡ record { chunk = c; cb = 1; row = r; rb = 1; hard = hard } → Small w row
small_starts c r hard row w h k l e = subst (λ (v : Walk). Small v row) (sym e) (record { chunk_small = h; row_small = k; chunk_bit = omega arith; row_bit = omega arith })

-- the answer's words
pub words-held : (a b : ℕ) (w : Walk) (s : Spot) → held w ≡ s → s.chunk < 4294967296 → s.row < 4294967296
    → (w.chunk < 4294967296 → a ≡ w.chunk) → (w.row < 4294967296 → b ≡ w.row) → ◌≡◌ {A = Spot} (record { chunk = a; row = b }) s
words-held a b w s e h k f g = (λ i. record { chunk = f (omega (arith, ap (λ (x : Spot). x.chunk) e)) i; row = g (omega (arith, ap (λ (x : Spot). x.row) e)) i }) ∙ e

pub next_words : (mask hard row : ℕ) → row < 4294967295 → ((walk addr_bits mask hard (row + 1)).chunk < 4294967296) × ((walk addr_bits mask hard (row + 1)).row < 4294967296)
next_words mask hard row h = omega (arith, walk_le addr_bits mask hard (row + 1))

-- the walk as the code starts it
pub whole : (w : Walk) (c r hard : ℕ) → w ≡ record { chunk = c; cb = 1; row = r; rb = 1; hard = hard } → w ≡ record { chunk = w.chunk; cb = 1; row = w.row; rb = 1; hard = hard }
whole w c r hard e = λ i. record { chunk = w.chunk; cb = (e i).cb; row = w.row; rb = (e i).rb; hard = (e i).hard }

pub told : (w : Walk) (c r hard : ℕ) {x y : ℕ} → w ≡ record { chunk = c; cb = 1; row = r; rb = 1; hard = hard } → c ≡ x → r ≡ y → held w ≡ record { chunk = x; row = y }
told w c r hard e f g = ap held e ∙ λ i. record { chunk = f i; row = g i }

-- ---- the ones at the end of a row number: so many of the lowest bits that are left
pub record Ones (rest ones : ℕ) : Type 0 where
  pub left : ℕ
  pub rest_fits : rest < 2 ^ left
  pub ones_are : ones ≡ count_trailing_zeros left (2 ^ left - 1 - rest)

other_bit : (n r : ℕ) → r < 2 ^ suc n → (2 ^ suc n - 1 - r) % 2 ≡ 1 - r % 2
other_bit n r l = omega (arith, pow-succ' 2 n)

other_half : (n r : ℕ) → r < 2 ^ suc n → (2 ^ suc n - 1 - r) / 2 ≡ 2 ^ n - 1 - r / 2
other_half n r l = omega (arith, pow-succ' 2 n)

ones_more : (n r : ℕ) → r < 2 ^ suc n → count_trailing_zeros (suc n) (2 ^ suc n - 1 - r) ≡ count.under (1 - r % 2) (count_trailing_zeros n (2 ^ n - 1 - r / 2))
unfolding count_trailing_zeros
ones_more n r l = λ i. count.under (other_bit n r l i) (count_trailing_zeros n (other_half n r l i))

no_bits : (m : ℕ) → count_trailing_zeros 0 m ≡ 0
unfolding count_trailing_zeros
no_bits m = refl

none_first : (b t : ℕ) → 0 < b → count.under b t ≡ 0
none_first zero t l = absurd (omega arith)
none_first (suc b) t l = refl

one_first : (b t : ℕ) → b ≡ 0 → count.under b t ≡ suc t
one_first zero t e = refl
one_first (suc b) t e = absurd (omega arith)

ones_turn_lem : (n r t : ℕ) → r < 2 ^ n → t ≡ count_trailing_zeros n (2 ^ n - 1 - r) → 0 < t → (r % 2 ≡ 1) × Ones (r / 2) (t - 1)
ones_turn_lem zero r t h e l = absurd (omega (arith, no_bits (2 ^ 0 - 1 - r)))
ones_turn_lem (suc n) r t h e l = on (r % 2) refl
  where
    on : (b : ℕ) → r % 2 ≡ b → (r % 2 ≡ 1) × Ones (r / 2) (t - 1)
    on zero f = absurd (omega (arith, e, ones_more n r h, none_first (1 - r % 2) (count_trailing_zeros n (2 ^ n - 1 - r / 2)) (omega arith)))
    on (suc b) f = (
      omega arith,
      record {
        left = n;
        rest_fits = omega (arith, pow-succ' 2 n);
        ones_are = omega (arith, e, ones_more n r h, one_first (1 - r % 2) (count_trailing_zeros n (2 ^ n - 1 - r / 2)) (omega arith));
      },
    )

ones_end_lem : (n r t : ℕ) → r < 2 ^ n → t ≡ count_trailing_zeros n (2 ^ n - 1 - r) → t ≡ 0 → r % 2 ≡ 0
ones_end_lem zero r t h e z = omega arith
ones_end_lem (suc n) r t h e z = on (r % 2) refl
  where
    on : (b : ℕ) → r % 2 ≡ b → r % 2 ≡ 0
    on zero f = f
    on (suc b) f = absurd (omega (arith, e, ones_more n r h, one_first (1 - r % 2) (count_trailing_zeros n (2 ^ n - 1 - r / 2)) (omega arith)))

pub ones_start : (row : ℕ) → row < 4294967296 → Ones row (count_trailing_zeros 32 (4294967295 - row))
ones_start row h = record { left = 32; rest_fits = h; ones_are = refl }

module _ (rest ones : ℕ) (h : Ones rest ones) where
  pub ones_turn : 0 < ones → (rest % 2 ≡ 1) × Ones (rest / 2) (ones - 1)
  ones_turn l = ones_turn_lem h.left rest ones h.rest_fits h.ones_are l

  pub ones_end : ones ≡ 0 → rest % 2 ≡ 0
  ones_end z = ones_end_lem h.left rest ones h.rest_fits h.ones_are z
