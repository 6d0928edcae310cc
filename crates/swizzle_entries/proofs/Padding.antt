-- The padding to a multiple of each granularity is the first number of None that brings one, or one past the row's limit.
use mathlib.Core.Path.{◌≡◌, refl, sym, ap, ◌∙◌}
use Prim.Native.Nat.{ℕ, zero, suc, ◌+◌, ◌≤◌}
use native.Mathlib.Omega.{arith}
use mathlib.Core.Bool.{Bool, true, false}
use mathlib.Core.List.{List}
use lib.ListN.{length}
use Rattle.std.specs.List.{position, range_with_len}
use Rattle.std.specs.Option.{unwrap_or}
use Rattle.std.proofs.lemmas.List.FromFn.{length-range_with_len}
use Rattle.lists.specs.Distinct.{place_in}
use Rattle.lists.proofs.Distinct.{place_le}
use Rattle.lists.proofs.Zips.{found_place}
use Rattle.rules.specs.Geometry.{aligned, padding, padded}

hit : (k n : ℕ) (gs : List ℕ) → aligned gs n ≡ true → padding (suc k) gs n ≡ 0
unfolding padding
hit k n gs e = rw (padding, e)

miss : (k n : ℕ) (gs : List ℕ) → aligned gs n ≡ false → padding (suc k) gs n ≡ suc (padding k gs (suc n))
unfolding padding
miss k n gs e = rw (padding, e)

module _ (gs : List ℕ) (n : ℕ) where
  abbrev fits : ℕ → ℕ → Bool
  fits k m = aligned gs (m + k)

  place_pad : (k a : ℕ) → place_in fits n (range_with_len a k) ≡ padding k gs (n + a)
  unfolding padding
  place_pad zero a = refl
  place_pad (suc k) a = on (aligned gs (n + a)) refl (place_pad k (a + 1) ∙ ap (padding k gs) (omega arith))
    where
      on : (t : Bool) → aligned gs (n + a) ≡ t → place_in fits n (range_with_len (a + 1) k) ≡ padding k gs (suc (n + a))
          → place_in fits n (range_with_len a (suc k)) ≡ padding (suc k) gs (n + a)
      on true e m =
          let p : place_in fits n (range_with_len a (suc k)) ≡ 0 = rw e refl in
          p ∙ sym (hit k (n + a) gs e)
      on false e m =
          let p : place_in fits n (range_with_len a (suc k)) ≡ suc (padding k gs (suc (n + a))) = rw e (ap suc m) in
          p ∙ sym (miss k (n + a) gs e)

  first_size : length (range_with_len 0 257) ≡ 257
  first_size = length-range_with_len 0 257

  whole : place_in fits n (range_with_len 0 257) ≡ padded gs n
  unfolding padded
  whole =
      let e : n + 0 ≡ n = omega arith in
      place_pad 257 0 ∙ ap (padding 257 gs) e

  pub first_padded : unwrap_or (position (λ k. aligned gs (n + k)) (range_with_len 0 257)) 257 ≡ padded gs n
  first_padded = ap (unwrap_or (position (λ k. aligned gs (n + k)) (range_with_len 0 257))) (sym first_size) ∙ found_place fits n (range_with_len 0 257) ∙ whole

  pub padded_most : padded gs n ≤ 257
  padded_most = omega (arith, place_le fits n (range_with_len 0 257), first_size, whole)
