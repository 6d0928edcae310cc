-- Columns row after row and memory after memory: the place of each in the other order, the part of a memory, and a store in both orders.
use mathlib.Core.Path.{◌≡◌, refl, sym, ap, ◌∙◌}
use mathlib.Core.Bool.{Bool, true, false}
use Prim.Native.Nat.{ℕ, zero, suc, ◌+◌, ◌-◌, ◌*◌, ◌/◌, ◌%◌, ◌<◌, ◌≤◌, min}
use native.Mathlib.Nat.{zero-add, add-zero, suc-add, add-suc, zero-mul, suc-mul, add-mul, mul_assoc, mul_comm, mul_left_comm, mul-le-mul_right, mod-lt, div-add-mod', div-lt_iff_lt-mul}
use native.Mathlib.Omega.{arith}
use mathlib.Core.List.{List, [], ◌∷◌, ◌++◌}
use lib.Arith.{digits_lt, digits_div, digits_mod}
use lib.Dec.{eqb}
use borrow.Author.Tests.{eqb-true, eqb-false}
use lib.ListN.{length, take, drop, get_or, set, replicate, length-append, length-replicate, get_or-replicate, length-set, get_or-append}
use lib.Seq.{sets, take_at, drop-append-add, get_or-append-add, get_or-take, get_or-drop, get_or-set_same, get_or-set_other, ext_get_or, length-take-le}
use Rattle.lists.specs.Lists.{part, up_from, concat_map}
use Rattle.lists.proofs.Parts.{length_part}
use Rattle.lists.proofs.Choice.{cases_le}
use Rattle.lists.proofs.Store.{sets_fit, sets_out}
use Rattle.swizzle_laws.specs.Order.{flip, home, gather, by_memory, spill}

-- ---- lists of one length, one after the other
module _ {A : Type 0} (f : ℕ → List A) (S B : ℕ) (len : (k : ℕ) → k < B → length (f k) ≡ S) where
  pub length_rows : (a K : ℕ) → a + K ≤ B → length (concat_map f (up_from a K)) ≡ K * S
  length_rows a zero h = sym (zero-mul S)
  length_rows a (suc K) h =
      length-append (f a) (concat_map f (up_from (suc a) K)) ∙ omega (arith, len a (omega arith), length_rows (suc a) K (omega arith), suc-mul K S)

  pub get_d_rows : (a K k t : ℕ) (d : A) → a + K ≤ B → k < K → t < S → get_or (concat_map f (up_from a K)) (k * S + t) d ≡ get_or (f (a + k)) t d
  get_d_rows a zero k t d h l g = absurd (omega arith)
  get_d_rows a (suc K) zero t d h l g =
      let e : 0 * S + t ≡ t = omega (arith, zero-mul S) in
      let m : t < length (f a) = omega (arith, len a (omega arith)) in
      rw (e, add-zero) (get_or-append (f a) (concat_map f (up_from (suc a) K)) d t m)
  get_d_rows a (suc K) (suc k) t d h l g =
      let e : suc k * S + t ≡ length (f a) + (k * S + t) = omega (arith, suc-mul k S, len a (omega arith)) in
      ap (λ (m : ℕ). get_or (f a ++ concat_map f (up_from (suc a) K)) m d) e
      ∙ get_or-append-add (f a) (concat_map f (up_from (suc a) K)) (k * S + t) d
      ∙ get_d_rows (suc a) K k t d (omega arith) (omega arith) g
      ∙ ap (λ (m : ℕ). get_or (f m) t d) (suc-add a k ∙ sym (add-suc a k))

  pub part_rows : (a K k : ℕ) → a + K ≤ B → k < K → part (k * S) S (concat_map f (up_from a K)) ≡ f (a + k)
  part_rows a zero k h l = absurd (omega arith)
  part_rows a (suc K) zero h l =
      rw (zero-mul S, add-zero) (take_at (f a) (concat_map f (up_from (suc a) K)) S (len a (omega arith)))
  part_rows a (suc K) (suc k) h l =
      let e : suc k * S ≡ length (f a) + k * S = omega (arith, suc-mul k S, len a (omega arith)) in
      ap (λ (m : ℕ). take S (drop m (f a ++ concat_map f (up_from (suc a) K)))) e
      ∙ ap (take S) (drop-append-add (f a) (concat_map f (up_from (suc a) K)) (k * S))
      ∙ part_rows (suc a) K k (omega arith) (omega arith)
      ∙ ap f (suc-add a k ∙ sym (add-suc a k))

-- ---- places
pos_left : (a b k : ℕ) → k < a * b → 0 < a
pos_left zero b k h = absurd (omega (arith, zero-mul b))
pos_left (suc a) b k h = omega arith

module _ (M R : ℕ) where
  quot_lt : (k : ℕ) → k < M * R → k / M < R
  quot_lt k h = (div-lt_iff_lt-mul (pos_left M R k h)).1 (omega (arith, mul_comm M R))

  pub flip_lt : (k : ℕ) → k < M * R → flip M R k < M * R
  unfolding flip
  flip_lt k h = digits_lt (mod-lt k (pos_left M R k h)) (quot_lt k h)

  pub flip_back : (k : ℕ) → k < M * R → flip R M (flip M R k) ≡ k
  unfolding flip
  flip_back k h =
      let a = digits_mod (k % M) (quot_lt k h) in
      let b = digits_div (k % M) (quot_lt k h) in
      (λ i. a i * M + b i) ∙ div-add-mod' k M

module _ (M R U : ℕ) where
  pub home_lt : (i : ℕ) → i < M * R * U → home M R U i < M * R * U
  unfolding home
  home_lt i h =
      let p = pos_left U (M * R) i (omega (arith, mul_comm (M * R) U)) in
      digits_lt (flip_lt M R (i / U) ((div-lt_iff_lt-mul p).1 h)) (mod-lt i p)

  pub home_back : (i : ℕ) → i < M * R * U → home R M U (home M R U i) ≡ i
  unfolding home
  home_back i h =
      let p = pos_left U (M * R) i (omega (arith, mul_comm (M * R) U)) in
      let a = digits_div (flip M R (i / U)) (mod-lt i p) in
      let b = digits_mod (flip M R (i / U)) (mod-lt i p) in
      (λ j. flip R M (a j) * U + b j) ∙ ap (λ (k : ℕ). k * U + i % U) (flip_back M R (i / U) ((div-lt_iff_lt-mul p).1 h)) ∙ div-add-mod' i U

  pub turned : M * R * U ≡ R * (M * U)
  turned = mul_assoc M R U ∙ mul_left_comm M R U

-- ---- the columns of each memory
module _ {A : Type 0} (M R U : ℕ) (cols : List A) (sized : length cols ≡ R * (M * U)) where
  block_in : (r n : ℕ) → r < R → n < M → r * (M * U) + n * U + U ≤ length cols
  block_in r n h g =
      let a : (n + 1) * U ≤ M * U = mul-le-mul_right U (omega arith) in
      let b : (r + 1) * (M * U) ≤ R * (M * U) = mul-le-mul_right (M * U) (omega arith) in
      rw sized (sum a b)
    where
      sum : (n + 1) * U ≤ M * U → (r + 1) * (M * U) ≤ R * (M * U) → r * (M * U) + n * U + U ≤ R * (M * U)
      sum a b = omega (arith, add-mul n 1 U, add-mul r 1 (M * U))

  length_block : (n : ℕ) → n < M → (r : ℕ) → r < R → length (part (r * (M * U) + n * U) U cols) ≡ U
  length_block n g r h = length_part (r * (M * U) + n * U) U cols (block_in r n h g)

  pub length_gather : (n : ℕ) → n < M → length (gather M R U cols n) ≡ R * U
  unfolding gather
  length_gather n g = length_rows (λ r. part (r * (M * U) + n * U) U cols) U R (length_block n g) 0 R (omega arith)

  get_d_gather : (n r b : ℕ) (d : A) → n < M → r < R → b < U → get_or (gather M R U cols n) (r * U + b) d ≡ get_or cols (r * (M * U) + n * U + b) d
  unfolding gather
  get_d_gather n r b d g h l =
      get_d_rows (λ r. part (r * (M * U) + n * U) U cols) U R (length_block n g) 0 R r b d (omega arith) h l
      ∙ ap (λ (k : ℕ). get_or (part (k * (M * U) + n * U) U cols) b d) (zero-add r)
      ∙ get_or-take U (drop (r * (M * U) + n * U) cols) b d l
      ∙ get_or-drop (r * (M * U) + n * U) cols b d

  pub length_by_memory : length (by_memory M R U cols) ≡ M * (R * U)
  unfolding by_memory
  length_by_memory = length_rows (gather M R U cols) (R * U) M length_gather 0 M (omega arith)

  get_d_by : (n r b : ℕ) (d : A) → n < M → r < R → b < U → get_or (by_memory M R U cols) (n * (R * U) + (r * U + b)) d ≡ get_or cols (r * (M * U) + n * U + b) d
  unfolding by_memory
  get_d_by n r b d g h l =
      get_d_rows (gather M R U cols) (R * U) M length_gather 0 M n (r * U + b) d (omega arith) g (digits_lt h l)
      ∙ ap (λ (k : ℕ). get_or (gather M R U cols k) (r * U + b) d) (zero-add n)
      ∙ get_d_gather n r b d g h l

  -- a memory's part is one slice
  pub part_by_memory : (n : ℕ) → n < M → part (n * (R * U)) (R * U) (by_memory M R U cols) ≡ gather M R U cols n
  unfolding by_memory
  part_by_memory n g = part_rows (gather M R U cols) (R * U) M length_gather 0 M n (omega arith) g ∙ ap (gather M R U cols) (zero-add n)

  -- what stands at m memory after memory is what stands at its place row after row
  pub get_d_by_memory : (m : ℕ) (d : A) → m < M * R * U → get_or (by_memory M R U cols) m d ≡ get_or cols (home R M U m) d
  unfolding home flip
  get_d_by_memory m d h =
      let p : 0 < U = pos_left U (M * R) m (omega (arith, mul_comm (M * R) U)) in
      let k = m / U in
      let kl : k < M * R = (div-lt_iff_lt-mul p).1 h in
      let rp : 0 < R = pos_left R M k (omega (arith, mul_comm M R)) in
      let nl : k / R < M = (div-lt_iff_lt-mul rp).1 kl in
      let e : m ≡ k / R * (R * U) + (k % R * U + m % U) = split m k (k / R) (k % R) (m % U) (sym (div-add-mod' m U)) (sym (div-add-mod' k R)) in
      let f : k % R * (M * U) + k / R * U + m % U ≡ (k % R * M + k / R) * U + m % U = join (k % R) (k / R) (m % U) in
      ap (λ (x : ℕ). get_or (by_memory M R U cols) x d) e ∙ get_d_by (k / R) (k % R) (m % U) d nl (mod-lt k rp) (mod-lt m p) ∙ ap (λ (x : ℕ). get_or cols x d) f
    where
      split : (m k n r b : ℕ) → m ≡ k * U + b → k ≡ n * R + r → m ≡ n * (R * U) + (r * U + b)
      split m k n r b e f = e ∙ ap (λ (x : ℕ). x * U + b) f ∙ omega (arith, add-mul (n * R) r U, mul_assoc n R U)

      join : (r n b : ℕ) → r * (M * U) + n * U + b ≡ (r * M + n) * U + b
      join r n b = omega (arith, add-mul (r * M) n U, mul_assoc r M U)

-- ---- stores
module _ {A : Type 0} (M R U : ℕ) where
  size : (cols : List A) → length cols ≡ R * (M * U) → length (by_memory M R U cols) ≡ M * R * U
  size cols s = length_by_memory M R U cols s ∙ sym (mul_assoc M R U)

  -- a store
  pub by_memory_set : (cols : List A) (i : ℕ) (v : A) → length cols ≡ R * (M * U) → i < M * R * U
      → by_memory M R U (set cols i v) ≡ set (by_memory M R U cols) (home M R U i) v
  by_memory_set cols i v s h =
      let t : length (set cols i v) ≡ R * (M * U) = length-set cols i v ∙ s in
      let o = home M R U i in
      ext_get_or v (by_memory M R U (set cols i v)) (set (by_memory M R U cols) o v)
      (size (set cols i v) t ∙ sym (length-set (by_memory M R U cols) o v ∙ size cols s))
      (λ m l. on t m (rw (size (set cols i v) t) at l) (eqb m o) refl)
    where
      on : length (set cols i v) ≡ R * (M * U) → (m : ℕ) → m < M * R * U → (b : Bool) → eqb m (home M R U i) ≡ b
          → get_or (by_memory M R U (set cols i v)) m v ≡ get_or (set (by_memory M R U cols) (home M R U i) v) m v
      on t m l true e =
          let q : m ≡ home M R U i = eqb-true m (home M R U i) e in
          let x : home R M U m ≡ i = ap (home R M U) q ∙ home_back M R U i h in
          get_d_by_memory M R U (set cols i v) t m v l
          ∙ ap (λ (k : ℕ). get_or (set cols i v) k v) x
          ∙ get_or-set_same cols i v v (rw (s, ← turned M R U) h)
          ∙ sym (ap (λ (k : ℕ). get_or (set (by_memory M R U cols) (home M R U i) v) k v) q
          ∙ get_or-set_same (by_memory M R U cols) (home M R U i) v v (rw (size cols s) (home_lt M R U i h)))
      on t m l false e =
          get_d_by_memory M R U (set cols i v) t m v l
          ∙ get_or-set_other cols i (home R M U m) v v (λ x. eqb-false m (home M R U i) e (sym (home_back R M U m (rw (mul_comm R M) l)) ∙ ap (home M R U) x))
          ∙ sym (get_d_by_memory M R U cols s m v l)
          ∙ sym (get_or-set_other (by_memory M R U cols) (home M R U i) m v v (eqb-false m (home M R U i) e))

  -- a run of stores
  pub by_memory_sets : (ws cols : List A) (i : ℕ) → length cols ≡ R * (M * U) → i + length ws ≤ M * R * U
      → by_memory M R U (sets cols i ws) ≡ spill M R U (by_memory M R U cols) i ws
  unfolding spill
  by_memory_sets [] cols i s h = refl
  by_memory_sets (w ∷ ws) cols i s h =
      by_memory_sets ws (set cols i w) (suc i) (length-set cols i w ∙ s) (omega arith)
      ∙ ap (λ (l : List A). spill M R U l (suc i) ws) (by_memory_set cols i w s (omega arith))

  spill_none : (l : List A) (i : ℕ) → l ≡ spill M R U l i []
  unfolding spill
  spill_none l i = refl

  -- a run that may pass the end
  pub by_memory_fit : (ws cols : List A) (i : ℕ) → length cols ≡ R * (M * U)
      → by_memory M R U (sets cols i ws) ≡ spill M R U (by_memory M R U cols) i (take (min (length ws) (R * (M * U) - i)) ws)
  by_memory_fit ws cols i s =
      let n = min (length ws) (R * (M * U) - i) in
      let r : take (min (length ws) (length cols - i)) ws ≡ take n ws = ap (λ (k : ℕ). take (min (length ws) (k - i)) ws) s in
      let l : length (take n ws) ≡ n = length-take-le n ws (omega arith) in
      cases_le i (R * (M * U))
      (λ h. ap (by_memory M R U) (sym (sets_fit cols i ws) ∙ ap (sets cols i) r) ∙ by_memory_sets (take n ws) cols i s (within l h))
      (λ h.
      let z : n ≡ 0 = omega arith in
      ap (by_memory M R U) (sets_out ws cols i (omega arith)) ∙ spill_none (by_memory M R U cols) i ∙ ap (λ (k : ℕ). spill M R U (by_memory M R U cols) i (take k ws)) (sym z))
    where
      within : length (take (min (length ws) (R * (M * U) - i)) ws) ≡ min (length ws) (R * (M * U) - i) → i ≤ R * (M * U)
          → i + length (take (min (length ws) (R * (M * U) - i)) ws) ≤ M * R * U
      within e h = omega (arith, turned M R U)

  -- columns that are all one
  pub by_memory-blank : (v : A) → by_memory M R U (replicate (R * (M * U)) v) ≡ replicate (R * (M * U)) v
  by_memory-blank v =
      let n = R * (M * U) in
      let s : length (replicate n v) ≡ n = length-replicate n v in
      ext_get_or v (by_memory M R U (replicate n v)) (replicate n v)
      (size (replicate n v) s ∙ turned M R U ∙ sym s)
      (λ m l.
      let h : m < M * R * U = rw (size (replicate n v) s) at l in
      get_d_by_memory M R U (replicate n v) s m v h
      ∙ get_or-replicate n (home R M U m) v v (rw (← turned M R U, mul_comm M R) (home_lt R M U m (rw (mul_comm R M) h)))
      ∙ sym (get_or-replicate n m v v (rw (← turned M R U) h)))
