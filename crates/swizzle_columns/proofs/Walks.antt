-- The walk over the bits of a piece's number, and the starts of a piece's rows.
use mathlib.Core.Path.{◌≡◌, refl, sym, ap, ◌∙◌}
use Prim.Native.Nat.{ℕ, ◌+◌, ◌*◌, ◌<◌, ◌≤◌}
use native.Mathlib.Nat.{zero-add, mul-add, mul-le-mul_left, mul-le-mul_right}
use native.Mathlib.Omega.{arith}
use mathlib.Core.List.{List}
use lib.ListN.{length, take, get_or, set, length-map}
use lib.Seq.{sets, length-sets, take_all}
use Rattle.lists.specs.Lists.{up_from}
use Rattle.lists.proofs.UpFrom.{length_up, up_at}
use Rattle.lists.proofs.Maps.{map_turn}
use Rattle.lists.proofs.Stores.{take_stored}
use Rattle.rules.specs.Limits.{addr_bits}
use Rattle.rules.specs.Geometry.{walk}
use Rattle.rules.proofs.Walks.{walk_le}
use Rattle.swizzle_columns.specs.Rows.{start_of, starts_by}
use Rattle.swizzle_columns.specs.Jobs.{Narrow}

-- ---- the start of one piece
pub start_is : (chunks C L n : ℕ) → start_of chunks C L n ≡ (walk addr_bits chunks addr_bits n).row * C + (walk addr_bits chunks addr_bits n).chunk * L
unfolding start_of
start_is chunks C L n = refl

-- its two parts can be counted
pub start_fits : (chunks C L n r c : ℕ) → r ≡ (walk addr_bits chunks addr_bits n).row → c ≡ (walk addr_bits chunks addr_bits n).chunk → n * (C + L) ≤ 4611686018427387904
    → r * C + c * L ≤ 4611686018427387904
start_fits chunks C L n r c e f h =
    let w = walk_le addr_bits chunks addr_bits n in
    let a : r * C ≤ n * C = mul-le-mul_right C (omega (arith, w)) in
    let b : c * L ≤ n * L = mul-le-mul_right L (omega (arith, w)) in
    omega (arith, mul-add n C L)

pub start_by_lem : (chunks C L n r c : ℕ) → r ≡ (walk addr_bits chunks addr_bits n).row → c ≡ (walk addr_bits chunks addr_bits n).chunk → r * C + c * L ≡ start_of chunks C L n
start_by_lem chunks C L n r c e f = (λ i. e i * C + f i * L) ∙ sym (start_is chunks C L n)

-- ---- the starts of a piece
pub length_starts : (chunks : ℕ) (C L olds x : ℕ) → length (starts_by chunks C L olds x) ≡ olds
unfolding starts_by
length_starts chunks C L olds x = length-map (up_from 0 olds) _ ∙ length_up 0 olds

module _ (chunks : ℕ) (C L olds x : ℕ) (out₀ out : List ℕ) (j : ℕ) (e : out ≡ sets out₀ 0 (take j (starts_by chunks C L olds x))) where
  pub starts_turn : (n : ℕ) → j < olds → n ≡ start_of chunks C L (j + olds * x) → set out j n ≡ sets out₀ 0 (take (j + 1) (starts_by chunks C L olds x))
  unfolding starts_by
  starts_turn n h p =
      let q : n ≡ start_of chunks C L (get_or (up_from 0 olds) j 0 + olds * x) = p ∙ ap (λ (k : ℕ). start_of chunks C L (k + olds * x)) (sym (up_at 0 olds j 0 h ∙ zero-add j)) in
      ap (set out j) q ∙ map_turn (λ k. start_of chunks C L (k + olds * x)) (up_from 0 olds) out₀ out 0 j e 0 j (sym (zero-add j)) (omega (arith, length_up 0 olds))

  pub starts_end : olds ≤ j → length out₀ ≡ olds → out ≡ starts_by chunks C L olds x
  starts_end h s =
      let m = length_starts chunks C L olds x in
      let a : out ≡ sets out₀ 0 (starts_by chunks C L olds x) = e ∙ ap (sets out₀ 0) (take_all j (starts_by chunks C L olds x) (omega arith)) in
      let b : length out ≡ olds = ap length a ∙ length-sets out₀ 0 (starts_by chunks C L olds x) ∙ s in
      sym (take_all olds out (omega arith)) ∙ take_stored out₀ out (starts_by chunks C L olds x) olds a (sym m) (omega arith)

pub narrow_at : (olds C L x j : ℕ) → Narrow olds C L x → j < olds → (j + olds * x) * (C + L) ≤ 4611686018427387904
narrow_at olds C L x j n h =
    let a : (j + olds * x) * (C + L) ≤ (olds + olds * x) * (C + L) = mul-le-mul_right (C + L) (omega arith) in
    omega (arith, n.sum)

-- fewer pieces
pub narrow_less : (olds olds' C L x N : ℕ) → olds' ≡ olds → x ≤ N → Narrow olds C L N → Narrow olds' C L x
narrow_less olds olds' C L x N e h n =
    rw e (let a : olds * x ≤ olds * N = mul-le-mul_left olds h in
    let b : (olds + olds * x) * (C + L) ≤ (olds + olds * N) * (C + L) = mul-le-mul_right (C + L) (omega arith) in
    record { sum = omega (arith, n.sum); numbers = omega (arith, n.numbers) })
