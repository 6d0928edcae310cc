-- The walk as the loop makes it: what the bits so far give, and the walk of the bits that are left laid onto it.
use Prim.Native.Nat.{ℕ, zero, suc, ◌+◌, ◌-◌, ◌*◌, ◌/◌, ◌%◌, ◌^◌, ◌≤◌, ◌<◌}
use mathlib.Core.Path.{◌≡◌, refl, sym, ap, ◌∙◌, subst}
use mathlib.Core.Bool.{Bool, true, false}
use mathlib.Core.Logic.{◌⊎◌, ⊎_elim}
use native.Mathlib.Omega.{arith}
use native.Mathlib.Numerals.{add-one}
use native.Mathlib.Nat.{pow-suc, div-div-eq-div-mul, mul-add, mul_comm, mul_assoc, mul_left_comm, mul-le-mul_right, mul-le-mul_left, one-mul, mul-one, mul-zero, le_trans}
use lib.Pow.{pow_pos, pow_mono}
use Rattle.rules.specs.Limits.{addr_bits}
use Rattle.rules.specs.Numbers.{top_bits}
use Rattle.rules.specs.Geometry.{Spot, to_chunk, hard_left, under, walk}
use Rattle.rules.proofs.Walks.{tops_zero, tops_pos, tops_le, tops_more, walk_pos, walk_le, pow_pos_suc, soft_chunk, full_chunk}
use Rattle.image_geometry.specs.declared.Walk.{Walk}
use Rattle.image_geometry.specs.Steps.{Roomy, stepped}

-- a spot of the bits that are left
abbrev pub onto : Walk → Spot → Spot
onto w s = record { chunk = w.chunk + w.cb * s.chunk; row = w.row + w.rb * s.row }

spread : (c k b x : ℕ) → c + k * (b + 2 * x) ≡ c + b * k + 2 * k * x
spread c k b x = omega (arith, mul-add k b (2 * x), mul_comm k b, mul_left_comm k 2 x, mul_assoc 2 k x)

onto_step : (t : Bool) (b : ℕ) (w : Walk) (s : Spot) → onto w (under t b s) ≡ onto (stepped t b w) s
unfolding under
onto_step true b w s = λ i. record { chunk = spread w.chunk w.cb b s.chunk i; row = w.row + w.rb * s.row }
onto_step false b w s = λ i. record { chunk = w.chunk + w.cb * s.chunk; row = spread w.row w.rb b s.row i }

hard_step : (t : Bool) (b : ℕ) (w : Walk) → (stepped t b w).hard ≡ hard_left t w.hard
unfolding hard_left
hard_step true b w = refl
hard_step false b w = refl

-- one weight: it doubles, or stays
under_weight : (c k b : ℕ) → b ≤ 1 → c < k → c + b * k < 2 * k
under_weight c k b h l = omega (arith, mul-le-mul_right k h, one-mul k)

chunk_under : (t : Bool) (b : ℕ) (w : Walk) → b ≤ 1 → w.chunk < w.cb → (stepped t b w).chunk < (stepped t b w).cb
chunk_under true b w h l = under_weight w.chunk w.cb b h l
chunk_under false b w h l = l

row_under : (t : Bool) (b : ℕ) (w : Walk) → b ≤ 1 → w.row < w.rb → (stepped t b w).row < (stepped t b w).rb
row_under true b w h l = l
row_under false b w h l = under_weight w.row w.rb b h l

double : (k n : ℕ) → 0 < n → 2 * k * 2 ^ (n - 1) ≡ k * 2 ^ n
double k n l = mul_assoc 2 k (2 ^ (n - 1)) ∙ mul_left_comm 2 k (2 ^ (n - 1)) ∙ ap (λ (x : ℕ). k * x) (sym (pow_pos_suc n l))

keep : (k n m : ℕ) → 0 < n → k * 2 ^ n ≤ m → k * 2 ^ (n - 1) ≤ m
keep k n m l h = le_trans (mul-le-mul_left k (pow_mono (omega arith))) h

twice : (k n m : ℕ) → 0 < n → k * 2 ^ n ≤ m → 2 * k * 2 ^ (n - 1) ≤ m
twice k n m l h = subst (λ (x : ℕ). x ≤ m) (sym (double k n l)) h

chunk_room : (t : Bool) (b n m : ℕ) (w : Walk) → 0 < n → w.cb * 2 ^ n ≤ m → (stepped t b w).cb * 2 ^ (n - 1) ≤ m
chunk_room true b n m w l h = twice w.cb n m l h
chunk_room false b n m w l h = keep w.cb n m l h

row_room : (t : Bool) (b n m : ℕ) (w : Walk) → 0 < n → w.rb * 2 ^ n ≤ m → (stepped t b w).rb * 2 ^ (n - 1) ≤ m
row_room true b n m w l h = keep w.rb n m l h
row_room false b n m w l h = twice w.rb n m l h

-- the loop: `rest` and `soft` are what is left of the row number and the mask, `left` the bits that are left, `tops` of them up to the highest that is set
pub record Walking (mask hard row : ℕ) (w : Walk) (soft rest tops : ℕ) : Type 0 where
  pub left : ℕ
  pub tops_are : tops ≡ top_bits left rest
  pub rest_fits : rest < 2 ^ left
  pub chunk_low : w.chunk < w.cb
  pub row_low : w.row < w.rb
  pub chunk_fits : w.cb * 2 ^ left ≤ 4294967296
  pub row_fits : w.rb * 2 ^ left ≤ 4294967296
  pub whole : walk addr_bits mask hard row ≡ onto w (walk left soft w.hard rest)

pub starts : (mask hard row : ℕ) (w : Walk) (soft rest tops : ℕ) → row < 4294967296 → w ≡ record { chunk = 0; cb = 1; row = 0; rb = 1; hard = hard }
    → soft ≡ mask → rest ≡ row → tops ≡ top_bits addr_bits row → Walking mask hard row w soft rest tops
starts mask hard row w soft rest tops h e f g k = rw (e, f, g, k) (record {
  left = addr_bits;
  tops_are = refl;
  rest_fits = h;
  chunk_low = omega arith;
  row_low = omega arith;
  chunk_fits = omega arith;
  row_fits = omega arith;
  whole = λ i. record { chunk = same (walk addr_bits mask hard row).chunk i; row = same (walk addr_bits mask hard row).row i };
})
  where
    same : (x : ℕ) → x ≡ 0 + 1 * x
    same x = omega arith

weight_max : (k n m : ℕ) → k * 2 ^ n ≤ m → k ≤ m
weight_max k n m h = le_trans (subst (λ (x : ℕ). x ≤ k * 2 ^ n) (mul-one k) (mul-le-mul_left k (pow_pos n))) h

pub left_pos : (n r : ℕ) → r < 2 ^ n → 0 < r → 0 < n
left_pos zero r h l = absurd (omega arith)
left_pos (suc n) r h l = omega arith

half_fits : (n r : ℕ) → 0 < n → r < 2 ^ n → r / 2 < 2 ^ (n - 1)
half_fits n r l h = omega (arith, pow_pos_suc n l)

-- a bit that is set is left, and no more bits are
some_left : (n r t : ℕ) → t ≡ top_bits n r → 0 < t → (0 < n) × (0 < r)
some_left zero r t e l = absurd (omega (arith, tops_le 0 r))
some_left (suc n) zero t e l = absurd (omega (arith, tops_zero (suc n)))
some_left (suc n) (suc r) t e l = (omega arith, omega arith)

none_left : (n r t : ℕ) → t ≡ top_bits n r → t ≡ 0 → r < 2 ^ n → r ≡ 0
none_left zero r t e z h = omega arith
none_left (suc n) zero t e z h = refl
none_left (suc n) (suc r) t e z h = absurd (omega (arith, tops_pos n (suc r) (omega arith)))

module _ (mask hard row : ℕ) (w : Walk) (soft rest tops : ℕ) (h : Walking mask hard row w soft rest tops) where
  pub roomy : (b : ℕ) → b ≤ 1 → Roomy w b
  roomy b l = record {
    bit_max = l;
    chunk_max = omega (arith, h.chunk_low, weight_max _ _ _ h.chunk_fits);
    row_max = omega (arith, h.row_low, weight_max _ _ _ h.row_fits);
    chunk_bit_max = weight_max _ _ _ h.chunk_fits;
    row_bit_max = weight_max _ _ _ h.row_fits;
  }

  pub turn : (w' : Walk) (soft' rest' tops' : ℕ) → 0 < tops → w' ≡ stepped (to_chunk soft w.hard) (rest % 2) w → soft' ≡ soft / 2 → rest' ≡ rest / 2 → tops' ≡ tops - 1
      → Walking mask hard row w' soft' rest' tops'
  turn w' soft' rest' tops' l e f g k = rw (e, f, g) next
    where
      s : (0 < h.left) × (0 < rest)
      s = some_left h.left rest tops h.tops_are l

      n : 0 < h.left
      n = s.0

      one : rest % 2 ≤ 1
      one = omega arith

      next : Walking mask hard row (stepped (to_chunk soft w.hard) (rest % 2) w) (soft / 2) (rest / 2) tops'
      next = record {
        left = h.left - 1;
        tops_are = omega (arith, k, h.tops_are, tops_more h.left rest n s.1);
        rest_fits = half_fits h.left rest n h.rest_fits;
        chunk_low = chunk_under (to_chunk soft w.hard) (rest % 2) w one h.chunk_low;
        row_low = row_under (to_chunk soft w.hard) (rest % 2) w one h.row_low;
        chunk_fits = chunk_room (to_chunk soft w.hard) (rest % 2) h.left 4294967296 w n h.chunk_fits;
        row_fits = row_room (to_chunk soft w.hard) (rest % 2) h.left 4294967296 w n h.row_fits;
        whole = h.whole ∙ ap (onto w) (walk_pos h.left soft w.hard rest n) ∙ onto_step (to_chunk soft w.hard) (rest % 2) w _
            ∙ ap (λ (k : ℕ). onto (stepped (to_chunk soft w.hard) (rest % 2) w) (walk (h.left - 1) (soft / 2) k (rest / 2))) (sym (hard_step (to_chunk soft w.hard) (rest % 2) w));
      }

  pub chunk_word : w.chunk < 4294967296
  chunk_word = omega (arith, h.chunk_low, weight_max _ _ _ h.chunk_fits)

  pub row_word : w.row < 4294967296
  row_word = omega (arith, h.row_low, weight_max _ _ _ h.row_fits)

  nothing : (c k x : ℕ) → x ≤ rest → rest ≡ 0 → c + k * x ≡ c
  nothing c k x l e =
      let z : x ≡ 0 = omega arith in
      ap (λ (n : ℕ). c + k * n) z ∙ omega (arith, mul-zero k)

  -- the bits above the highest are 0
  pub ends : tops ≡ 0 → ◌≡◌ {A = Spot} (record { chunk = w.chunk; row = w.row }) (walk addr_bits mask hard row)
  ends z =
      let e = none_left h.left rest tops h.tops_are z h.rest_fits in
      let s = walk h.left soft w.hard rest in
      let l = walk_le h.left soft w.hard rest in
      sym (h.whole ∙ λ i. record { chunk = nothing w.chunk w.cb s.chunk l.0 e i; row = nothing w.row w.rb s.row l.1 e i })

-- where the code goes on with the chunk
pub goes_up : (mask hard : ℕ) → (mask % 2 ≡ 1) ⊎ ((mask % 2 ≡ 1 → ⊥) × (hard ≡ 0)) → to_chunk mask hard ≡ true
goes_up mask hard h = ⊎_elim (λ e. soft_chunk mask hard e) (λ e. full_chunk mask hard (even mask e.0) e.1) h
  where
    even : (m : ℕ) → (m % 2 ≡ 1 → ⊥) → m % 2 ≡ 0
    even m e = omega arith

-- what the spot of a walk holds, where its numbers are words
pub spots : (w : Walk) (a b : ℕ) → (w.chunk < 4294967296 → a ≡ w.chunk) → (w.row < 4294967296 → b ≡ w.row) → w.chunk < 4294967296 → w.row < 4294967296
    → ◌≡◌ {A = Spot} (record { chunk = a; row = b }) (record { chunk = w.chunk; row = w.row })
spots w a b f g h k = λ i. record { chunk = f h i; row = g k i }

-- one place more
pub halved : (m i : ℕ) → m / 2 ^ (i + 1) ≡ m / 2 ^ i / 2
halved m i = ap (λ (k : ℕ). m / k) (ap (λ (j : ℕ). 2 ^ j) (add-one i) ∙ pow-suc 2 i) ∙ sym (div-div-eq-div-mul m (2 ^ i) 2)
