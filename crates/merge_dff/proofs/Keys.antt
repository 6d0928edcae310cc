-- A flip-flop's keys with the trits packed: they are kept as the keys are, at the same places, and their bytes are the trits.
use mathlib.Core.Path.{◌≡◌, refl, ap, ◌∙◌}
use Prim.Native.Nat.{ℕ, ◌<◌}
use native.Mathlib.Omega.{arith}
use mathlib.Core.Bool.{Bool, true, false, ◌&&◌}
use mathlib.Core.List.{List, [], ◌∷◌, map}
use lib.Dec.{eqb}
use lib.ListN.{length, get_or}
use borrow.Author.Tests.{eq-eqb, ne_eqb, eqb-true, eqb-false}
use Rattle.lists.specs.Lists.{pairs}
use Rattle.lists.specs.Distinct.{kept, places}
use Rattle.lists.proofs.Pairs.{pairs_size, pairs_at}
use Rattle.lists.proofs.DistinctMap.{Each, each_of, each_kept, kept_map, places_map}
use Rattle.rules.specs.Cell.{Controls}
use Rattle.rules.specs.Merge.{Key2, same2, Key4, same4, dff_keys, dff_of}
use Rattle.merge_keys.specs.Keys.{firsts, seconds}
use Rattle.net_flip_flop.specs.View.{flip_flop}
use Rattle.merge_dff.specs.Packs.{pack_of, packed_byte, packs, unpacked, Bytes}

-- a key of two words
abbrev pub pack_key : Key4 → Key2
pack_key k = (k.0.0, pack_of k.0.1 k.1.0 k.1.1)

-- its trits are bytes
pub record Small (k : Key4) : Type 0 where
  pub reset : k.0.1 < 256
  pub clear : k.1.0 < 256
  pub init : k.1.1 < 256

-- ---- one key
module _ (r c i : ℕ) (hr : r < 256) (hc : c < 256) (hi : i < 256) where
  -- the bytes of a word
  reset_byte : packed_byte 1 (pack_of r c i) ≡ r
  reset_byte = omega arith

  clear_byte : packed_byte 256 (pack_of r c i) ≡ c
  clear_byte = omega arith

  init_byte : packed_byte 65536 (pack_of r c i) ≡ i
  init_byte = omega arith

  -- bytes are told apart by the word that holds them
  module _ (r' c' i' : ℕ) (gr : r' < 256) (gc : c' < 256) (gi : i' < 256) where
    pack_by : (x y z : Bool) → eqb r r' ≡ x → eqb c c' ≡ y → eqb i i' ≡ z → eqb (pack_of r c i) (pack_of r' c' i') ≡ x && (y && z)
    pack_by true true true e f g =
        let a = eqb-true r r' e in
        let b = eqb-true c c' f in
        let d = eqb-true i i' g in
        eq-eqb (pack_of r c i) (pack_of r' c' i') (omega arith)
    pack_by true true false e f g = let d = eqb-false i i' g in ne_eqb (pack_of r c i) (pack_of r' c' i') (λ q. d (omega arith))
    pack_by true false z e f g = let d = eqb-false c c' f in ne_eqb (pack_of r c i) (pack_of r' c' i') (λ q. d (omega arith))
    pack_by false y z e f g = let d = eqb-false r r' e in ne_eqb (pack_of r c i) (pack_of r' c' i') (λ q. d (omega arith))

    pack_same : eqb (pack_of r c i) (pack_of r' c' i') ≡ eqb r r' && (eqb c c' && eqb i i')
    pack_same = pack_by (eqb r r') (eqb c c') (eqb i i') refl refl refl

and_assoc : (a b c : Bool) → a && (b && c) ≡ (a && b) && c
and_assoc true b c = refl
and_assoc false b c = refl

-- packed keys are the same where the keys are
agree : (p q : Key4) → Small p → Small q → same2 (pack_key p) (pack_key q) ≡ same4 p q
agree p q s t =
    ap (λ (x : Bool). eqb p.0.0 q.0.0 && x)
    (pack_same p.0.1 p.1.0 p.1.1 s.reset s.clear s.init q.0.1 q.1.0 q.1.1 t.reset t.clear t.init)
    ∙ and_assoc (eqb p.0.0 q.0.0) (eqb p.0.1 q.0.1) (eqb p.1.0 q.1.0 && eqb p.1.1 q.1.1)

-- ---- the keys of a flip-flop
keys_packed : (b r c i : List ℕ) → pairs b (packs r c i) ≡ map pack_key (pairs (pairs b r) (pairs c i))
unfolding packs
keys_packed [] r c i = refl
keys_packed (x ∷ b) [] c i = refl
keys_packed (x ∷ b) (y ∷ r) [] i = refl
keys_packed (x ∷ b) (y ∷ r) (z ∷ c) [] = refl
keys_packed (x ∷ b) (y ∷ r) (z ∷ c) (w ∷ i) = ap (λ (l : List Key2). (x, pack_of y z w) ∷ l) (keys_packed b r c i)

module _ (b r c i : List ℕ) where
  key_at : (k : ℕ) → k < length (pairs (pairs b r) (pairs c i))
      → get_or (pairs (pairs b r) (pairs c i)) k ((0, 0), (0, 0)) ≡ ((get_or b k 0, get_or r k 0), (get_or c k 0, get_or i k 0))
  key_at k h =
      let n = pairs_size (pairs b r) (pairs c i) in
      let x = pairs_size b r in
      let y = pairs_size c i in
      pairs_at (pairs b r) (pairs c i) k (0, 0) (0, 0) (omega arith) (omega arith)
      ∙ ap (λ (p : Key2). (p, get_or (pairs c i) k (0, 0))) (pairs_at b r k 0 0 (omega arith) (omega arith))
      ∙ ap (λ (p : Key2). ((get_or b k 0, get_or r k 0), p)) (pairs_at c i k 0 0 (omega arith) (omega arith))

  small_keys : Bytes r c i → Each Small (pairs (pairs b r) (pairs c i))
  small_keys s =
      each_of Small (pairs (pairs b r) (pairs c i)) ((0, 0), (0, 0)) (λ k h.
      rw (key_at k h) (record { reset = s.resets k; clear = s.clears k; init = s.inits k }))

-- a byte of each word
bytes_of : (by : ℕ) (g : Key4 → ℕ) → ((k : Key4) → Small k → packed_byte by (pack_of k.0.1 k.1.0 k.1.1) ≡ g k) → (l : List Key4) → Each Small l
    → map (packed_byte by) (seconds (map pack_key l)) ≡ map g l
bytes_of by g f [] s = refl
bytes_of by g f (k ∷ l) s = ap (λ (n : ℕ). n ∷ map (packed_byte by) (seconds (map pack_key l))) (f k s.0) ∙ ap (λ (m : List ℕ). g k ∷ m) (bytes_of by g f l s.1)

data_of : (l : List Key4) → firsts (map pack_key l) ≡ map (λ (k : Key4). k.0.0) l
data_of [] = refl
data_of (k ∷ l) = ap (λ (m : List ℕ). k.0.0 ∷ m) (data_of l)

unpacked_keys : (x : Controls) (l : List Key4) → Each Small l → unpacked x (firsts (map pack_key l)) (seconds (map pack_key l)) ≡ dff_of x l
unfolding unpacked dff_of
unpacked_keys x l s =
    let b = data_of l in
    let c = bytes_of 256 (λ (k : Key4). k.1.0) (λ k t. clear_byte k.0.1 k.1.0 k.1.1 t.reset t.clear t.init) l s in
    let r = bytes_of 1 (λ (k : Key4). k.0.1) (λ k t. reset_byte k.0.1 k.1.0 k.1.1 t.reset t.clear t.init) l s in
    let i = bytes_of 65536 (λ (k : Key4). k.1.1) (λ k t. init_byte k.0.1 k.1.0 k.1.1 t.reset t.clear t.init) l s in
    λ j. record { bits = b j; controls = x; clear_value = c j; reset_value = r j; init_value = i j }

-- ---- the merge over packed keys
module _ (x : Controls) (b r c i : List ℕ) (s : Bytes r c i) where
  abbrev ks : List Key4
  ks = pairs (pairs b r) (pairs c i)

  kept_packed : kept same2 (pairs b (packs r c i)) ≡ map pack_key (kept same4 ks)
  kept_packed = ap (kept same2) (keys_packed b r c i) ∙ kept_map Small same4 same2 pack_key agree ks (small_keys b r c i s)

  -- the kept keys, unpacked, are those of the rules
  pub merged_keys : unpacked x (firsts (kept same2 (pairs b (packs r c i)))) (seconds (kept same2 (pairs b (packs r c i)))) ≡ dff_of x (kept same4 (dff_keys (flip_flop x b c r i)))
  unfolding dff_keys
  merged_keys =
      ap (λ (l : List Key2). unpacked x (firsts l) (seconds l)) kept_packed
      ∙ unpacked_keys x (kept same4 ks) (each_kept Small same4 [] ks tt (small_keys b r c i s))

  pub merged-places : places same2 (pairs b (packs r c i)) ≡ places same4 (dff_keys (flip_flop x b c r i))
  unfolding dff_keys
  merged-places = ap (places same2) (keys_packed b r c i) ∙ places_map Small same4 same2 pack_key agree ks (small_keys b r c i s)
