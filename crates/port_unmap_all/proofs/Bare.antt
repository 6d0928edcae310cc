-- The read ports of which the first n have lost their flip-flops.
use mathlib.Core.Path.{◌≡◌, refl, ap}
use Prim.Native.Nat.{ℕ, zero, suc, ◌+◌, ◌<◌, ◌≤◌}
use native.Mathlib.Omega.{arith}
use mathlib.Core.Option.{none}
use mathlib.Core.List.{List, [], ◌∷◌, map}
use lib.ListN.{length, take, get_or, set}
use Rattle.lists.specs.Lists.{sum_by}
use Rattle.rules.specs.Cell.{ReadPort}
use Rattle.port_unmap_all.specs.All.{bare}

unfoldable pub bare_to : ℕ → List ReadPort → List ReadPort
bare_to zero rs = rs
bare_to (suc n) [] = []
bare_to (suc n) (p ∷ rs) = bare p ∷ bare_to n rs

-- those from n on are as they were
pub bare_at : (n : ℕ) (rs : List ReadPort) (i : ℕ) (d : ReadPort) → n ≤ i → get_or (bare_to n rs) i d ≡ get_or rs i d
unfolding bare_to
bare_at zero rs i d h = refl
bare_at (suc n) [] i d h = refl
bare_at (suc n) (p ∷ rs) zero d h = absurd (omega arith)
bare_at (suc n) (p ∷ rs) (suc i) d h = bare_at n rs i d (omega arith)

-- their data starts where it did
pub bare_sum : (j n : ℕ) (rs : List ReadPort) → sum_by (λ (p : ReadPort). p.data_len) (take j (bare_to n rs)) ≡ sum_by (λ (p : ReadPort). p.data_len) (take j rs)
unfolding bare_to
bare_sum j zero rs = refl
bare_sum j (suc n) [] = refl
bare_sum zero (suc n) (p ∷ rs) = refl
bare_sum (suc j) (suc n) (p ∷ rs) = ap (λ (k : ℕ). p.data_len + k) (bare_sum j n rs)

-- one more
pub bare_set : (n : ℕ) (rs : List ReadPort) (d : ReadPort) → n < length rs → set (bare_to n rs) n (bare (get_or rs n d)) ≡ bare_to (suc n) rs
unfolding bare_to
bare_set n [] d h = absurd (omega arith)
bare_set zero (p ∷ rs) d h = refl
bare_set (suc n) (p ∷ rs) d h = ap (λ (l : List ReadPort). bare p ∷ l) (bare_set n rs d (omega arith))

-- which had none
pub bare_none : (n : ℕ) (rs : List ReadPort) (d : ReadPort) → (get_or rs n d).flip_flop ≡ none → bare_to n rs ≡ bare_to (suc n) rs
unfolding bare_to
bare_none zero [] d e = refl
bare_none (suc n) [] d e = refl
bare_none zero (p ∷ rs) d e = λ k. record { addr = p.addr; data_len = p.data_len; flip_flop = e k } ∷ rs
bare_none (suc n) (p ∷ rs) d e = ap (λ (l : List ReadPort). bare p ∷ l) (bare_none n rs d e)

-- all
pub bare-all : (rs : List ReadPort) → bare_to (length rs) rs ≡ map bare rs
unfolding bare_to
bare-all [] = refl
bare-all (p ∷ rs) = ap (λ (l : List ReadPort). bare p ∷ l) (bare-all rs)
