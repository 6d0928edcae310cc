-- Laws of the entries: a bit more, the end, and the refusal by its tests.
use mathlib.Core.Path.{◌≡◌, refl, sym, ap, ◌∙◌}
use Rattle.rules.specs.declared.numbers.Refusal.{Refusal}
use Rattle.rules.specs.Refusal.{number}
use Rattle.rules.proofs.Answers.{else_err, else_ok}
use Prim.Native.Nat.{ℕ, suc, ◌+◌, ◌-◌, ◌<◌, ◌≤◌}
use native.Mathlib.Numerals.{add-one}
use native.Mathlib.Omega.{arith}
use mathlib.Core.Bool.{Bool, true, false, not, ◌||◌}
use mathlib.Core.List.{List, [], ◌∷◌, ◌++◌, append_assoc}
use lib.ListN.{length, replicate, length-append, length-replicate}
use lib.Seq.{sets}
use lib.Dec.{eqb, ltb}
use borrow.Author.Tests.{lt-ltb, le-ltb}
use Rattle.lists.specs.Lists.{any}
use Rattle.lists.proofs.Choice.{hit, miss}
use Rattle.lists.proofs.Store.{sets_at}
use Rattle.rules.specs.Limits.{None, max_granularity}
use Rattle.rules.specs.Cell.{Mem}
use Rattle.rules.specs.Geometry.{changing, padded, swizzle_from, make_data_swizzle}
use Rattle.rules.specs.Conditions.{bad_granularities, row_too_long, no_room_of}
use Rattle.net_memory.specs.declared.Memory.{Memory}
use Rattle.rules.specs.Refusals.{mem_refusal, make_data_swizzle_refusal}
use Rattle.net_memory.specs.Given.{given_of}
use Rattle.net_memory.specs.View.{memory_of, writes_of}

module _ (m : Memory) (nets trits gs : List ℕ) where
  abbrev v : Mem
  v = memory_of m nets trits

  pub width_is : v.width ≡ m.width
  unfolding memory_of
  width_is = refl

  -- the entries after the first n, from bit b on
  abbrev pub left : ℕ → ℕ → List ℕ
  left n b = swizzle_from v gs n b (m.width - b)

  pub start : left 0 0 ≡ make_data_swizzle v gs
  unfolding make_data_swizzle memory_of
  start =
      let e : m.width - 0 ≡ m.width = omega arith in
      ap (swizzle_from v gs 0 0) e

  module _ (n b p r : ℕ) (h : b < m.width) (e : p ≡ padded (changing v b (writes_of m nets) gs) n) (q : r ≡ n + p + 1) where
    one : left n b ≡ (replicate p None ++ (b ∷ [])) ++ left r (b + 1)
    unfolding swizzle_from memory_of
    one =
        let k : m.width - b ≡ suc (m.width - (b + 1)) = omega arith in
        ap (swizzle_from v gs n b) k
        ∙ (λ i. replicate (sym e i) None ++ (b ∷ swizzle_from v gs (n + sym e i + 1) (sym (add-one b) i) (m.width - (b + 1))))
        ∙ ap (λ (j : ℕ). replicate p None ++ (b ∷ swizzle_from v gs j (b + 1) (m.width - (b + 1)))) (sym q)
        ∙ sym (append_assoc (replicate p None) (b ∷ []) (left r (b + 1)))

    size : length (replicate p None ++ (b ∷ [])) ≡ p + 1
    size = length-append (replicate p None) (b ∷ []) ∙ ap (λ (j : ℕ). j + 1) (length-replicate p None)

    pub turn_length : (total : ℕ) → n + length (left n b) ≡ total → r + length (left r (b + 1)) ≡ total
    turn_length total z = omega (arith, ap length one, length-append (replicate p None ++ (b ∷ [])) (left r (b + 1)), size)

    pub turn_store : (out out' all : List ℕ) → out' ≡ sets out n (replicate p None ++ (b ∷ [])) → sets out n (left n b) ≡ all → sets out' r (left r (b + 1)) ≡ all
    turn_store out out' all o z =
        ap (λ (l : List ℕ). sets l r (left r (b + 1))) o
        ∙ sets_at out n r (replicate p None ++ (b ∷ [])) (left r (b + 1)) (omega (arith, size))
        ∙ sym (ap (sets out n) one)
        ∙ z

  -- past the last bit
  pub last : (n b : ℕ) → m.width ≤ b → left n b ≡ replicate (padded gs n) None
  unfolding swizzle_from
  last n b h =
      let k : m.width - b ≡ 0 = omega arith in
      ap (swizzle_from v gs n b) k

  -- ---- the refusal
  module _ (room : ℕ) where
    pub memory_err : (e : Refusal) → number e ≡ mem_refusal (given_of m nets trits) → number e ≡ make_data_swizzle_refusal room (given_of m nets trits) gs
    unfolding make_data_swizzle_refusal
    memory_err e h = else_err e (mem_refusal (given_of m nets trits)) _ h

    module _ (z : 0 ≡ mem_refusal (given_of m nets trits)) where
      pub by_five : bad_granularities v gs ≡ true → 5 ≡ make_data_swizzle_refusal room (given_of m nets trits) gs
      unfolding make_data_swizzle_refusal
      by_five a = else_ok (mem_refusal (given_of m nets trits)) _ 5 z (hit 5 _ a)

      module _ (a : bad_granularities v gs ≡ false) (k : ℕ) (e : k ≡ length (make_data_swizzle v gs)) where
        pub by_six : 256 < k → 6 ≡ make_data_swizzle_refusal room (given_of m nets trits) gs
        unfolding make_data_swizzle_refusal row_too_long
        by_six h = else_ok (mem_refusal (given_of m nets trits)) _ 6 z (miss 5 _ 6 a (hit 6 _ (ap (ltb 256) (sym e) ∙ lt-ltb 256 k h)))

        pub by_room : k ≤ 256 → room < k → 20 ≡ make_data_swizzle_refusal room (given_of m nets trits) gs
        unfolding make_data_swizzle_refusal row_too_long no_room_of
        by_room h l =
            else_ok (mem_refusal (given_of m nets trits)) _ 20 z
            (miss 5 _ 20 a (miss 6 _ 20 (ap (ltb 256) (sym e) ∙ le-ltb 256 k h) (hit 20 _ (ap (ltb room) (sym e) ∙ lt-ltb room k l))))

        pub by_none : k ≤ 256 → k ≤ room → 0 ≡ make_data_swizzle_refusal room (given_of m nets trits) gs
        unfolding make_data_swizzle_refusal row_too_long no_room_of
        by_none h l =
            else_ok (mem_refusal (given_of m nets trits)) _ 0 z
            (miss 5 _ 0 a (miss 6 _ 0 (ap (ltb 256) (sym e) ∙ le-ltb 256 k h) (miss 20 _ 0 (ap (ltb room) (sym e) ∙ le-ltb room k l) refl)))

-- ---- number 5
abbrev pub out_of_limits : ℕ → Bool
out_of_limits g = eqb g 0 || ltb max_granularity g

pub granularities_by : (m : Memory) (nets trits gs : List ℕ) (n : ℕ) → length (writes_of m nets) ≡ n → not (eqb (length gs) n) || any out_of_limits gs ≡ bad_granularities (memory_of m nets trits) gs
unfolding bad_granularities memory_of
granularities_by m nets trits gs n e = ap (λ (k : ℕ). not (eqb (length gs) k) || any out_of_limits gs) (sym e)
