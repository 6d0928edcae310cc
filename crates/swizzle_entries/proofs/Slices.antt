-- Laws of a comparison of two rows of nets.
use mathlib.Core.Path.{◌≡◌, refl, ap, ◌∙◌}
use Prim.Native.Nat.{ℕ, zero, suc, ◌+◌, ◌*◌, ◌<◌, ◌≤◌}
use native.Mathlib.Numerals.{add-one}
use native.Mathlib.Nat.{mul-le-mul}
use native.Mathlib.Omega.{arith}
use mathlib.Core.Bool.{Bool, ◌&&◌}
use mathlib.Core.List.{map}
use lib.Dec.{eqb}
use Rattle.std.specs.List.{range_with_len}
use Rattle.lists.specs.Lists.{all, up_from, same_list}

-- places up to 2^32 rows of 2^32 fit a word
pub place_fits : (j w b : ℕ) → j < 4294967296 → w < 4294967296 → b < 4294967296 → j * w + b < 18446744073709551616
place_fits j w b h k l =
    let x : j ≤ 4294967295 = omega arith in
    let y : w ≤ 4294967295 = omega arith in
    let p : j * w ≤ 4294967295 * 4294967295 = mul-le-mul x y in
    omega (arith, p)

-- number after number
pub all_same : (f g : ℕ → ℕ) (n k : ℕ) → all (λ j. eqb (f j) (g j)) (range_with_len k n) ≡ same_list (map f (up_from k n)) (map g (up_from k n))
all_same f g zero k = refl
all_same f g (suc n) k =
    ap (λ (t : Bool). eqb (f k) (g k) && t) (all_same f g n (k + 1) ∙ ap (λ (a : ℕ). same_list (map f (up_from a n)) (map g (up_from a n))) (add-one k))
