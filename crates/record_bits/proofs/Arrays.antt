-- Whole arrays, one byte of each: the trits and the errors of the first bytes, and those of the rest.
use mathlib.Core.Path.{◌≡◌, refl, sym, ap, ◌∙◌}
use mathlib.Core.Bool.{Bool, true, false, ◌||◌}
use Prim.Native.Nat.{ℕ, suc, ◌+◌, ◌-◌, ◌/◌, ◌%◌, ◌<◌}
use mathlib.Core.List.{List, [], ◌∷◌, ◌++◌}
use lib.ListN.{length, take, drop, get_or, get_or-append}
use lib.Seq.{get_or-append-add}
use native.Mathlib.Omega.{arith}
use Rattle.lists.proofs.Choice.{cases_le}
use lib.Dec.{eqb, ltb}
use Rattle.lists.specs.Lists.{any, pairs}
use Rattle.lists.proofs.Joined.{take_joined, drop_joined, any-joined, pairs-joined, map_joined}
use Rattle.lists.proofs.Pairs.{length_pairs}
use Rattle.rules.specs.Value.{from_uint}
use Rattle.rules.specs.Record.{bits_of, trit_by}
use Rattle.record_bits.specs.Groups.{trits_by, bad_by, group_trits, bad_group}
use Rattle.rules.proofs.Written.{length_uint}

taken : (t k v : ℕ) (ks vs : List ℕ) → take t (pairs (from_uint 8 k ++ ks) (from_uint 8 v ++ vs)) ≡ take t (pairs (from_uint 8 k) (from_uint 8 v)) ++ take (t - 8) (pairs ks vs)
taken t k v ks vs =
    let e : length (from_uint 8 k) ≡ length (from_uint 8 v) = length_uint 8 k ∙ sym (length_uint 8 v) in
    rw (pairs-joined (from_uint 8 k) ks (from_uint 8 v) vs e, take_joined t (pairs (from_uint 8 k) (from_uint 8 v)) (pairs ks vs), length_pairs (from_uint 8 k) (from_uint 8 v) e, length_uint 8 k)

dropped : (t x : ℕ) (xs : List ℕ) → drop t (from_uint 8 x ++ xs) ≡ drop t (from_uint 8 x) ++ drop (t - 8) xs
dropped t x xs = rw (drop_joined t (from_uint 8 x) xs, length_uint 8 x)

or_split : (a b x y z w : Bool) → ((a || b) || ((x || y) || (z || w))) ≡ ((a || (x || z)) || (b || (y || w)))
or_split true b x y z w = refl
or_split false true true y z w = refl
or_split false true false y true w = refl
or_split false true false y false w = refl
or_split false false true y z w = refl
or_split false false false true true w = refl
or_split false false false true false w = refl
or_split false false false false z w = refl

bad_joined : (t k v : ℕ) (ks vs : List ℕ) → bad_by t (from_uint 8 k ++ ks) (from_uint 8 v ++ vs) ≡ (bad_by t (from_uint 8 k) (from_uint 8 v) || bad_by (t - 8) ks vs)
bad_joined t k v ks vs =
    let f : ℕ × ℕ → Bool = λ p. ltb p.0 p.1 in
    let K = from_uint 8 k in
    let W = from_uint 8 v in
    rw (taken t k v ks vs, dropped t k ks, dropped t v vs, any-joined f (take t (pairs K W)) (take (t - 8) (pairs ks vs)), any-joined (eqb 1) (drop t K ++ drop (t - 8) ks) (drop t W ++ drop (t - 8) vs), any-joined (eqb 1) (drop t K) (drop (t - 8) ks), any-joined (eqb 1) (drop t W) (drop (t - 8) vs), any-joined (eqb 1) (drop t K) (drop t W), any-joined (eqb 1) (drop (t - 8) ks) (drop (t - 8) vs))
    (or_split (any f (take t (pairs K W))) (any f (take (t - 8) (pairs ks vs))) (any (eqb 1) (drop t K)) (any (eqb 1) (drop (t - 8) ks)) (any (eqb 1) (drop t W)) (any (eqb 1) (drop (t - 8) vs)))

trits-joined : (t k v : ℕ) (ks vs : List ℕ) → trits_by t (from_uint 8 k ++ ks) (from_uint 8 v ++ vs) ≡ trits_by t (from_uint 8 k) (from_uint 8 v) ++ trits_by (t - 8) ks vs
trits-joined t k v ks vs =
    let f : ℕ × ℕ → ℕ = λ p. trit_by p.0 p.1 in
    rw (taken t k v ks vs) (map_joined f (take t (pairs (from_uint 8 k) (from_uint 8 v))) (take (t - 8) (pairs ks vs)))

-- ---- arrays of bytes
module _ (t k v : ℕ) (ks vs : List ℕ) where
  pub trits_byte : trits_by t (bits_of (k ∷ ks)) (bits_of (v ∷ vs)) ≡ group_trits t k v ++ trits_by (t - 8) (bits_of ks) (bits_of vs)
  unfolding group_trits bits_of
  trits_byte = trits-joined t k v (bits_of ks) (bits_of vs)

  pub bad_byte : bad_by t (bits_of (k ∷ ks)) (bits_of (v ∷ vs)) ≡ (bad_group t k v || bad_by (t - 8) (bits_of ks) (bits_of vs))
  unfolding bad_group bits_of
  bad_byte = bad_joined t k v (bits_of ks) (bits_of vs)

-- ---- one bit of an array
pub bits_at : (ks : List ℕ) (i : ℕ) → i / 8 < length ks → get_or (bits_of ks) i 0 ≡ get_or (from_uint 8 (get_or ks (i / 8) 0)) (i % 8) 0
unfolding bits_of
bits_at [] i h = absurd (omega arith)
bits_at (k ∷ ks) i h = cases_le 8 i
    (λ g.
    let n : i ≡ length (from_uint 8 k) + (i - 8) = omega (arith, length_uint 8 k) in
    let d : i / 8 ≡ suc ((i - 8) / 8) = omega arith in
    let r : i % 8 ≡ (i - 8) % 8 = omega arith in
    ap (λ (x : ℕ). get_or (from_uint 8 k ++ bits_of ks) x 0) n
    ∙ get_or-append-add (from_uint 8 k) (bits_of ks) (i - 8) 0
    ∙ bits_at ks (i - 8) (omega arith)
    ∙ (rw (d, r)))
    (λ g.
    let d : i / 8 ≡ 0 = omega arith in
    let r : i % 8 ≡ i = omega arith in
    get_or-append (from_uint 8 k) (bits_of ks) 0 i (omega (arith, length_uint 8 k)) ∙ (rw (d, r)))
