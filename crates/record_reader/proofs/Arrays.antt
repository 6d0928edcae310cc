-- The trits of a record's two arrays: a byte of each at a time, and all that are left from a byte on.
use mathlib.Core.Path.{◌≡◌, refl, sym, ap, ◌∙◌}
use mathlib.Core.Bool.{Bool, true, false}
use Prim.Native.Nat.{ℕ, zero, suc, ◌+◌, ◌-◌, ◌*◌, ◌/◌, ◌%◌, ◌<◌, ◌≤◌}
use native.Mathlib.Omega.{arith}
use mathlib.Core.List.{List, [], ◌∷◌, ◌++◌, map, append-nil}
use lib.Dec.{eqb, leb}
use lib.ListN.{length, take, drop, length-take, length-drop, length-map, drop_of_length-le}
use lib.Seq.{sets, drop-drop, length-take-le, take_all, take-nil, drop-nil}
use borrow.Author.Tests.{le-leb, eq-eqb, eqb-true, leb-true}
use Rattle.lists.specs.Lists.{pairs}
use Rattle.lists.proofs.Choice.{and_true, cases_le}
use Rattle.lists.proofs.Joined.{drop_joined, map_drop}
use Rattle.lists.proofs.Pairs.{length_pairs}
use Rattle.lists.proofs.Parts.{drop_take}
use Rattle.lists.proofs.Store.{sets_at}
use Rattle.rules.specs.Numbers.{ceil_div}
use Rattle.rules.specs.Value.{from_uint}
use Rattle.rules.specs.Record.{size_trits, head_sizes, bits_of, array_bytes, trit_by, known_bits, value_bits, bit_pairs, decode_image, next_trits, after_trits}
use Rattle.rules.proofs.Written.{length_uint, length_bits}
use Rattle.record_bits.specs.Groups.{trits_by, group_trits}
use Rattle.record_bits.proofs.Arrays.{trits_byte}
use Rattle.record_reader.specs.Reading.{reader_at, image_of, many_trits, has_trits, trits_there, place_after_trits}

-- ---- the trits of a byte each, stored eight places apart
length_group : (t k v : ℕ) → 8 ≤ t → length (group_trits t k v) ≡ 8
unfolding group_trits
length_group t k v h =
    let e : length (pairs (from_uint 8 k) (from_uint 8 v)) ≡ 8 = length_pairs (from_uint 8 k) (from_uint 8 v) (length_uint 8 k ∙ sym (length_uint 8 v)) ∙ length_uint 8 k in
    length-map (take t (pairs (from_uint 8 k) (from_uint 8 v))) (λ p. trit_by p.0 p.1) ∙ ap length (take_all t (pairs (from_uint 8 k) (from_uint 8 v)) (omega arith)) ∙ e

pub put_next : (l : List ℕ) (t j k v : ℕ) (ks vs : List ℕ)
    → sets (sets l (8 * j) (group_trits t k v)) (8 * (j + 1)) (trits_by (t - 8) ks vs) ≡ sets l (8 * j) (group_trits t k v ++ trits_by (t - 8) ks vs)
put_next l t j k v ks vs =
    cases_le 8 t
    (λ h. sets_at l (8 * j) (8 * (j + 1)) (group_trits t k v) (trits_by (t - 8) ks vs) (omega (arith, length_group t k v h)))
    (λ h. let z : t - 8 ≡ 0 = omega arith in rw (z, append-nil (group_trits t k v)))

-- the trits of what is left of two arrays, to be stored from byte j on
abbrev pub left : (image : List ℕ) (count j : ℕ) (ks vs : List ℕ) → List ℕ
left image count j ks vs = sets image (8 * j) (trits_by (count - 8 * j) (bits_of ks) (bits_of vs))

pub left_start : (image : List ℕ) (count j : ℕ) (ks vs ks' vs' : List ℕ) → j ≡ 0 → ks' ≡ ks → vs' ≡ vs → left image count j ks' vs' ≡ sets image 0 (trits_by count (bits_of ks) (bits_of vs))
left_start image count j ks vs ks' vs' e p q = let z : count - 0 ≡ count = omega arith in rw (e, p, q, z)

pub left_turn : (image image' : List ℕ) (count j n k v : ℕ) (ks vs ks' vs' : List ℕ) → n ≡ count - 8 * j → ks ≡ k ∷ ks' → vs ≡ v ∷ vs' → image' ≡ sets image (8 * j) (group_trits n k v)
    → left image' count (j + 1) ks' vs' ≡ left image count j ks vs
left_turn image image' count j n k v ks vs ks' vs' b p q e =
    let u : count - 8 * (j + 1) ≡ count - 8 * j - 8 = omega arith in
    rw (e, b, p, q, u, trits_byte (count - 8 * j) k v ks' vs') (put_next image (count - 8 * j) j k v (bits_of ks') (bits_of vs'))

pub left_none : (image : List ℕ) (count j : ℕ) (ks vs : List ℕ) → length ks ≡ 0 → image ≡ left image count j ks vs
unfolding bits_of
left_none image count j [] vs h = rw (take-nil {A = ℕ × ℕ} (count - 8 * j))
left_none image count j (k ∷ ks) vs h = absurd (omega arith)

-- ---- what is left of the arrays from a byte on
pairs_none : (a : List ℕ) → pairs {A = ℕ} {B = ℕ} a [] ≡ []
pairs_none [] = refl
pairs_none (x ∷ a) = refl

drop_pairs : (m : ℕ) (a b : List ℕ) → drop m (pairs a b) ≡ pairs (drop m a) (drop m b)
drop_pairs zero a b = refl
drop_pairs (suc m) [] b = refl
drop_pairs (suc m) (x ∷ a) [] = sym (pairs_none (drop m a))
drop_pairs (suc m) (x ∷ a) (y ∷ b) = drop_pairs m a b

drop_some : {A : Type 0} (m t : ℕ) (l : List A) → m ≤ t → drop m (take t l) ≡ take (t - m) (drop m l)
drop_some m t l h =
    let q : t ≡ m + (t - m) = omega arith in
    ap (λ (x : ℕ). drop m (take x l)) q ∙ drop_take m (t - m) l

drop_bits : (k m : ℕ) (ks : List ℕ) → m ≡ 8 * k → drop m (bits_of ks) ≡ bits_of (drop k ks)
unfolding bits_of
drop_bits zero m ks e = ap (λ (x : ℕ). drop x (bits_of ks)) e
drop_bits (suc k) m [] e = drop-nil {A = ℕ} m
drop_bits (suc k) m (b ∷ ks) e =
    let h : length (from_uint 8 b) ≤ m = omega (arith, length_uint 8 b) in
    let z : drop m (from_uint 8 b) ≡ [] = drop_of_length-le (from_uint 8 b) h in
    let l : m - length (from_uint 8 b) ≡ 8 * k = omega (arith, length_uint 8 b) in
    drop_joined m (from_uint 8 b) (bits_of ks) ∙ ap (λ (x : List ℕ). x ++ drop (m - length (from_uint 8 b)) (bits_of ks)) z ∙ drop_bits k _ ks l

module _ (count : ℕ) (bytes : List ℕ) (whole : length bytes ≡ 12 + 2 * array_bytes count) where
  abbrev n : ℕ
  n = array_bytes count

  abbrev ks : List ℕ
  ks = take n (drop 12 bytes)

  abbrev vs : List ℕ
  vs = drop (12 + n) bytes

  pub length_ks : length ks ≡ n
  length_ks = length-take-le n (drop 12 bytes) (omega (arith, length-drop 12 bytes, whole))

  pub length_vs : length vs ≡ n
  length_vs = length-drop (12 + n) bytes ∙ omega (arith, whole)

  enough : count ≤ 8 * n
  unfolding array_bytes ceil_div
  enough = omega arith

  abbrev P : List (ℕ × ℕ)
  P = pairs (bits_of ks) (bits_of vs)

  long : count ≤ length P
  long =
      let a : length (bits_of ks) ≡ 8 * n = length_bits ks ∙ ap (λ (k : ℕ). 8 * k) length_ks in
      let b : length (bits_of vs) ≡ 8 * n = length_bits vs ∙ ap (λ (k : ℕ). 8 * k) length_vs in
      omega (arith, length_pairs (bits_of ks) (bits_of vs) (a ∙ sym b), a, enough)

  pub length_image : length (image_of count bytes) ≡ count
  length_image = length-map (take count P) (λ p. trit_by p.0 p.1) ∙ length-take-le count P long

  module _ (from : ℕ) (e : from % 8 ≡ 0) (h : from ≤ count) where
    pub rest_trits : drop from (image_of count bytes) ≡ trits_by (count - from) (bits_of (take (n - from / 8) (drop (12 + from / 8) bytes))) (bits_of (drop (12 + n + from / 8) bytes))
    rest_trits =
        let k = from / 8 in
        let f : ℕ × ℕ → ℕ = λ p. trit_by p.0 p.1 in
        let m : from ≡ 8 * (from / 8) = omega arith in
        let s : from / 8 ≤ n = omega (arith, enough) in
        let a : drop k ks ≡ take (n - k) (drop (12 + k) bytes) = drop_some k n (drop 12 bytes) s ∙ ap (take (n - k)) (drop-drop k 12 bytes) in
        let b : drop k vs ≡ drop (12 + n + k) bytes = drop-drop k (12 + n) bytes in
        sym (map_drop f from (take count P))
        ∙ ap (map f) (drop_some from count P h)
        ∙ ap (λ (l : List (ℕ × ℕ)). map f (take (count - from) l)) (drop_pairs from (bits_of ks) (bits_of vs))
        ∙ ap (λ (l : List ℕ). map f (take (count - from) (pairs l (drop from (bits_of vs))))) (drop_bits k from ks m ∙ ap bits_of a)
        ∙ ap (λ (l : List ℕ). map f (take (count - from) (pairs (bits_of (take (n - k) (drop (12 + k) bytes))) l))) (drop_bits k from vs m ∙ ap bits_of b)

-- ---- what the reader takes
module _ (count : ℕ) (bytes : List ℕ) (at : ℕ) where
  pub no_trits_lem : has_trits count bytes at ≡ false → trits_there count bytes at ≡ []
  unfolding trits_there
  no_trits_lem e = rw e

  pub stays : trits_there count bytes at ≡ [] → at ≡ place_after_trits count bytes at
  unfolding place_after_trits after_trits
  stays e = rw e (omega arith)

  -- the tests
  pub tests : has_trits count bytes at ≡ true → (12 ≤ at) × ((at - 12) % 8 ≡ 0) × (length bytes ≡ 12 + 2 * array_bytes count) × (count ≤ many_trits)
  tests e =
      let a = and_true (leb 12 at) _ e in
      let b = and_true (eqb ((at - 12) % 8) 0) _ a.1 in
      let d = and_true (leb count many_trits) _ b.1 in
      (leb-true 12 at a.0, eqb-true ((at - 12) % 8) 0 b.0, eqb-true (length bytes) (12 + 2 * array_bytes count) d.1, leb-true count many_trits d.0)

  module _ (e : has_trits count bytes at ≡ true) where
    pub has_some : trits_there count bytes at ≡ drop (at - 12) (image_of count bytes)
    unfolding trits_there
    has_some = rw e

    pub past_last : count ≤ at - 12 → trits_there count bytes at ≡ []
    past_last h =
        let g : length (image_of count bytes) ≤ at - 12 = omega (arith, length_image count bytes (tests e).2) in
        has_some ∙ drop_of_length-le (image_of count bytes) g

    module _ (h : at - 12 < count) where
      pub takes : trits_there count bytes at ≡ trits_by (count - (at - 12)) (bits_of (take (array_bytes count - (at - 12) / 8) (drop (12 + (at - 12) / 8) bytes))) (bits_of (drop (12 + array_bytes count + (at - 12) / 8) bytes))
      takes = has_some ∙ rest_trits count bytes (tests e).2 (at - 12) (tests e).1 (omega arith)

      pub goes_on : 12 + count ≡ place_after_trits count bytes at
      unfolding place_after_trits after_trits
      goes_on =
          let l : length (trits_there count bytes at) ≡ count - (at - 12) = ap length has_some ∙ length-drop (at - 12) (image_of count bytes) ∙ ap (λ (x : ℕ). x - (at - 12)) (length_image count bytes (tests e).2) in
          omega (arith, l, (tests e).0)

      -- the parts of the bytes that the code takes, with its own count of the arrays' bytes
      module _ (n : ℕ) (q : n ≡ array_bytes count) where
        pub inside : (12 + (at - 12) / 8 ≤ 12 + n) × (12 + n ≤ length bytes) × (12 + n + (at - 12) / 8 ≤ length bytes)
        inside =
            let w : length bytes ≡ 12 + 2 * array_bytes count = (tests e).2 in
            let g : count ≤ 8 * array_bytes count = enough count bytes w in
            (omega arith, omega arith, omega arith)

        -- `&bytes[value..]` is all that lies behind
        behind : take (length bytes - (12 + n + (at - 12) / 8)) (drop (12 + n + (at - 12) / 8) bytes) ≡ drop (12 + n + (at - 12) / 8) bytes
        behind = take_all (length bytes - (12 + n + (at - 12) / 8)) (drop (12 + n + (at - 12) / 8) bytes) (omega (arith, length-drop (12 + n + (at - 12) / 8) bytes))

        pub alike : length (take (12 + n - (12 + (at - 12) / 8)) (drop (12 + (at - 12) / 8) bytes)) ≡ length (take (length bytes - (12 + n + (at - 12) / 8)) (drop (12 + n + (at - 12) / 8) bytes))
        alike =
            let w : length bytes ≡ 12 + 2 * array_bytes count = (tests e).2 in
            let g : count ≤ 8 * array_bytes count = enough count bytes w in
            length-take-le (12 + n - (12 + (at - 12) / 8)) (drop (12 + (at - 12) / 8) bytes) (omega (arith, length-drop (12 + (at - 12) / 8) bytes))
            ∙ sym (ap length behind ∙ length-drop (12 + n + (at - 12) / 8) bytes ∙ omega arith)

        pub stored : (image : List ℕ) → sets image 0 (trits_by (count - (at - 12)) (bits_of (take (12 + n - (12 + (at - 12) / 8)) (drop (12 + (at - 12) / 8) bytes))) (bits_of (take (length bytes - (12 + n + (at - 12) / 8)) (drop (12 + n + (at - 12) / 8) bytes)))) ≡ sets image 0 (trits_there count bytes at)
        stored image =
            let k = (at - 12) / 8 in
            let m : 12 + n - (12 + k) ≡ array_bytes count - k = omega arith in
            ap (sets image 0) (ap (λ (x : ℕ). trits_by (count - (at - 12)) (bits_of (take x (drop (12 + k) bytes))) (bits_of (take (length bytes - (12 + n + k)) (drop (12 + n + k) bytes)))) m
            ∙ ap (λ (l : List ℕ). trits_by (count - (at - 12)) (bits_of (take (array_bytes count - k) (drop (12 + k) bytes))) (bits_of l)) behind
            ∙ ap (λ (x : ℕ). trits_by (count - (at - 12)) (bits_of (take (array_bytes count - k) (drop (12 + k) bytes))) (bits_of (drop (12 + x + k) bytes))) q
            ∙ sym takes)

  -- nothing is stored, and the place stays
  pub nothing_there : (image : List ℕ) → trits_there count bytes at ≡ [] → (image ≡ sets image 0 (trits_there count bytes at)) × (at ≡ place_after_trits count bytes at)
  nothing_there image e = (sym (ap (sets image 0) e), stays e)

pub take_most : (n k b : ℕ) (l : List ℕ) → n ≤ b → length (take (12 + n - (12 + k)) l) ≤ b
take_most n k b l h = omega (arith, length-take (12 + n - (12 + k)) l)

-- ---- with the count of the record's own head they are the rules'
module _ (bytes : List ℕ) where
  pub image_whole : decode_image bytes ≡ image_of (size_trits (head_sizes bytes)) bytes
  unfolding decode_image bit_pairs known_bits value_bits
  image_whole = refl

  pub is_next : (at : ℕ) → has_trits (size_trits (head_sizes bytes)) bytes at ≡ true → trits_there (size_trits (head_sizes bytes)) bytes at ≡ next_trits (size_trits (head_sizes bytes)) (reader_at bytes at)
  unfolding next_trits
  is_next at e =
      let t = size_trits (head_sizes bytes) in
      let l : length (drop (at - 12) (image_of t bytes)) ≤ t = omega (arith, length-drop (at - 12) (image_of t bytes), length_image t bytes (tests t bytes at e).2) in
      has_some t bytes at e ∙ sym (take_all t (drop (at - 12) (image_of t bytes)) l) ∙ ap (λ (x : List ℕ). take t (drop (at - 12) x)) (sym image_whole)

  -- from the head's end on they are the image
  pub all-trits : length bytes ≡ 12 + 2 * array_bytes (size_trits (head_sizes bytes)) → size_trits (head_sizes bytes) ≤ many_trits → trits_there (size_trits (head_sizes bytes)) bytes 12 ≡ decode_image bytes
  all-trits w h =
      let t = size_trits (head_sizes bytes) in
      let e : has_trits t bytes 12 ≡ true = rw (le-leb t many_trits h, eq-eqb (length bytes) (12 + 2 * array_bytes t) w) in
      has_some t bytes 12 e ∙ sym image_whole

-- a record of no trits
pub none_there : (bytes : List ℕ) (at : ℕ) → trits_there 0 bytes at ≡ []
none_there bytes at = by_test (has_trits 0 bytes at) refl
  where
    by_test : (b : Bool) → has_trits 0 bytes at ≡ b → trits_there 0 bytes at ≡ []
    by_test true e = has_some 0 bytes at e ∙ drop-nil {A = ℕ} (at - 12)
    by_test false e = no_trits_lem 0 bytes at e
