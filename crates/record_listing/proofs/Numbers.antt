-- A summary's numbers in their order, and what an accepted call knows.
use mathlib.Core.Path.{◌≡◌, refl}
use mathlib.Core.Bool.{true, false}
use Prim.Native.Nat.{ℕ, ◌<◌, ◌≤◌}
use mathlib.Core.List.{List}
use lib.ListN.{length}
use borrow.Author.Tests.{lt-ltb, le-ltb, le-leb, lt-leb, ltb-false, leb-false}
use Rattle.lists.proofs.Choice.{if_zero, hit, miss}
use Rattle.rules.specs.Record.{Sizes, size_mems, size_trits, record_image}
use Rattle.rules.specs.Conditions.{bad_trits, not_below, bad_sizes, no_room_of}
use Rattle.rules.specs.Refusals.{summary_refusal}

module _ (z : Sizes) (image : List ℕ) (i : ℕ) where
  pub summary_4 : bad_trits (record_image z image) ≡ true → 4 ≡ summary_refusal z image i
  unfolding summary_refusal
  summary_4 e = hit 4 _ e

  module _ (t : bad_trits (record_image z image) ≡ false) where
    pub summary_15 : size_mems z ≤ i → 15 ≡ summary_refusal z image i
    unfolding summary_refusal not_below
    summary_15 h = miss 4 _ 15 t (hit 15 _ (le-leb _ _ h))

    module _ (b : i < size_mems z) where
      pub summary_17 : bad_sizes z ≡ true → 17 ≡ summary_refusal z image i
      unfolding summary_refusal not_below
      summary_17 e = miss 4 _ 17 t (miss 15 _ 17 (lt-leb _ _ b) (hit 17 _ e))

      module _ (g : bad_sizes z ≡ false) where
        pub summary_20 : length image < size_trits z → 20 ≡ summary_refusal z image i
        unfolding summary_refusal not_below no_room_of
        summary_20 h = miss 4 _ 20 t (miss 15 _ 20 (lt-leb _ _ b) (miss 17 _ 20 g (hit 20 0 (lt-ltb _ _ h))))

        pub summary_0 : size_trits z ≤ length image → 0 ≡ summary_refusal z image i
        unfolding summary_refusal not_below no_room_of
        summary_0 h = miss 4 _ 0 t (miss 15 _ 0 (lt-leb _ _ b) (miss 17 _ 0 g (miss 20 0 0 (le-ltb _ _ h) refl)))

  pub record Known : Type 0 where
    pub below : i < size_mems z
    pub sizes : bad_sizes z ≡ false
    pub whole : size_trits z ≤ length image

  pub known : summary_refusal z image i ≡ 0 → Known
  unfolding summary_refusal not_below no_room_of
  known e =
      let a = if_zero (bad_trits (record_image z image)) 3 _ e in
      let b = if_zero (not_below (size_mems z) i) 14 _ a.1 in
      let c = if_zero (bad_sizes z) 16 _ b.1 in
      let d = if_zero (no_room_of (length image) (size_trits z)) 19 0 c.1 in
      record { below = leb-false (size_mems z) i b.0; sizes = c.0; whole = ltb-false (length image) (size_trits z) d.0 }
