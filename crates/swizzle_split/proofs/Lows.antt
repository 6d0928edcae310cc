-- The bits below an address, in tail form; chunks; padding.
use mathlib.Core.Path.{◌≡◌, refl, sym, ap, ◌∙◌}
use Prim.Native.Nat.{ℕ, zero, suc, ◌+◌, ◌-◌, ◌*◌, ◌/◌, ◌%◌, ◌^◌, ◌≤◌, min}
use native.Mathlib.Nat.{zero-add, pow-succ'}
use native.Mathlib.Omega.{arith}
use native.Mathlib.Numerals.{add-one}
use Rattle.std.proofs.lemmas.Nat.{mod-pow-add}
use borrow.Author.Tests.{eq-eqb, ne_eqb}
use Rattle.rules.specs.Log.{flag}
use Rattle.rules.specs.Numbers.{softs}
use Rattle.rules.specs.Geometry.{Layout, all_chunks, full_chunks, part_depth_of, full_depth_of, soft, soft_bits}
use Rattle.rules.specs.Limits.{addr_bits}
use Rattle.rules.specs.Swizzle.{is_chunk, low_roles}
use Rattle.rules.proofs.Walks.{softs_le}
use Rattle.lists.proofs.Powers.{two_to_is}
use Rattle.lists.proofs.Choice.{if_true, if_false}
use Rattle.swizzle_laws.specs.Masks.{rows_mask}
use Rattle.swizzle_split.specs.declared.Low.{Low}
use Rattle.swizzle_split.specs.Steps.{low_by}
use Rattle.swizzle_laws.proofs.Within.{bit_cases}

none_rows : (m : ℕ) → rows_mask (low_roles 0 m) ≡ 0
unfolding low_roles rows_mask
none_rows m = refl

-- the mask of the low bits, one bit fewer
rows_soft : (k mask : ℕ) → mask % 2 ≡ 1 → rows_mask (low_roles (suc k) mask) ≡ 2 * rows_mask (low_roles k (mask / 2))
unfolding low_roles rows_mask is_chunk flag
rows_soft k mask e = rw (eq-eqb (mask % 2) 1 e) (zero-add (2 * rows_mask (low_roles k (mask / 2))))

rows_wide : (k mask : ℕ) → mask % 2 ≡ 0 → rows_mask (low_roles (suc k) mask) ≡ 1 + 2 * rows_mask (low_roles k (mask / 2))
unfolding low_roles rows_mask is_chunk flag
rows_wide k mask e = rw (ne_eqb (mask % 2) 1 (λ z. absurd (omega arith)))

-- the bits of a number below a power of two: the lowest, and those of its half
low_more : (m k : ℕ) → m % 2 ^ suc k ≡ (m / 2 % 2 ^ k) * 2 + m % 2
low_more m k = rw add-one at (mod-pow-add m k 1)

-- those that select a row
pub low_rows : (k m : ℕ) → rows_mask (low_roles k m) + m % 2 ^ k + 1 ≡ 2 ^ k
low_rows zero m = omega (arith, none_rows m)
low_rows (suc k) m =
    bit_cases m
    (λ b. omega (arith, low_rows k (m / 2), rows_soft k m b, low_more m k, pow-succ' 2 k))
    (λ b. omega (arith, low_rows k (m / 2), rows_wide k m b, low_more m k, pow-succ' 2 k))

pub low_is : (old mask weight m n : ℕ) → old ≤ 32 → weight ≡ 2 ^ min old 32 → m ≡ mask → n ≡ softs old mask
    → ◌≡◌ {A = Low} (record { mask = m / weight; softs = n; weight = weight; row_mask = weight - 1 - m % weight }) (low_by old mask)
low_is old mask weight m n h e k g =
    let w : weight ≡ 2 ^ old = two_to_is old weight h e in
    let l : m % weight ≡ mask % 2 ^ old = λ i. k i % w i in
    let r : weight - 1 - m % weight ≡ rows_mask (low_roles old mask) = omega (arith, w, l, low_rows old mask) in
    λ i. record { mask = k i / w i; softs = g i; weight = w i; row_mask = r i }

-- ---- chunks
module _ (q : Layout) (base : ℕ) (e : base ≡ q.depth / 2 ^ soft q) where
  chunks_whole : (deep full : ℕ) → deep ≡ 2 ^ q.hard → full ≡ base / deep → base % deep ≡ 0 → full ≡ all_chunks q
  unfolding all_chunks full_chunks part_depth_of full_depth_of
  chunks_whole deep full d f z = f ∙ (λ i. e i / d i) ∙ sym (if_true _ _ _ (eq-eqb _ 0 (sym (λ i. e i % d i) ∙ z)))

  chunks_more : (deep full : ℕ) → deep ≡ 2 ^ q.hard → full ≡ base / deep → (base % deep ≡ 0 → ⊥) → full + 1 ≡ all_chunks q
  unfolding all_chunks full_chunks part_depth_of full_depth_of
  chunks_more deep full d f z = ap (λ (x : ℕ). x + 1) (f ∙ (λ i. e i / d i)) ∙ sym (if_false _ _ _ (ne_eqb _ 0 (λ p. z ((λ i. e i % d i) ∙ p))))

zero_or : {P : Type 0} (n : ℕ) → (n ≡ 0 → P) → ((n ≡ 0 → ⊥) → P) → P
zero_or zero f g = f refl
zero_or (suc n) f g = g (λ z. absurd (omega arith))

pub chunks_are : (q : Layout) (base deep r : ℕ) → base ≡ q.depth / 2 ^ soft q → deep ≡ 2 ^ q.hard → r ≡ base / deep + min 1 (base % deep) → r ≡ all_chunks q
chunks_are q base deep r e d k =
    zero_or (base % deep)
    (λ z. k ∙ ap (λ (n : ℕ). base / deep + min 1 n) z ∙ chunks_whole q base e deep (base / deep + 0) d (omega arith) z)
    (λ z. let m : min 1 (base % deep) ≡ 1 = omega arith in k ∙ ap (λ (n : ℕ). base / deep + n) m ∙ chunks_more q base e deep (base / deep) d refl z)

pub parts_are : (q : Layout) (r s : ℕ) → r ≡ 2 ^ min s 32 → s ≡ soft_bits q.soft_mask → r ≡ 2 ^ soft q
unfolding soft soft_bits
parts_are q r s e f =
    let m : min s 32 ≡ soft q = omega (arith, f, softs_le addr_bits q.soft_mask) in
    e ∙ ap (λ (n : ℕ). 2 ^ n) m
