-- Laws of runs of stores into a list: `sets` ignores what lies past the end, so nothing is asked of the room.
use mathlib.Core.Path.{◌≡◌, refl, sym, ap, ◌∙◌}
use Prim.Native.Nat.{ℕ, zero, suc, ◌+◌, ◌-◌, ◌<◌, ◌≤◌, min}
use native.Mathlib.Nat.{add-zero, add-suc, suc-add}
use native.Mathlib.Numerals.{add-one}
use native.Mathlib.Omega.{arith}
use mathlib.Core.List.{List, [], ◌∷◌, ◌++◌, append_assoc}
use lib.ListN.{length, take, drop, get_or, set, replicate, length-replicate, take-append-drop}
use lib.Seq.{sets, length-sets, sets-eq, set_out, set_comm, take_all, take-suc, take-set-le, drop-set-lt, length-take-le, take_at, drop_at}
use Rattle.lists.proofs.Choice.{cases_le}

module _ {ℓ} {A : Type ℓ} where
  -- two runs of stores, the second where the first ends, are one
  pub sets_append : (vs ws l : List A) (i : ℕ) → sets (sets l i vs) (i + length vs) ws ≡ sets l i (vs ++ ws)
  sets_append [] ws l i = rw add-zero
  sets_append (v ∷ vs) ws l i = rw (add-suc, ← suc-add) (sets_append vs ws (set l i v) (suc i))

  -- the same, with the second's place given by an equation
  pub sets_at : (l : List A) (i j : ℕ) (vs ws : List A) → j ≡ i + length vs → sets (sets l i vs) j ws ≡ sets l i (vs ++ ws)
  sets_at l i j vs ws e = rw e (sets_append vs ws l i)

  pub sets_nil : (i : ℕ) (ws : List A) → sets [] i ws ≡ []
  sets_nil i [] = refl
  sets_nil i (w ∷ ws) = sets_nil (suc i) ws

  -- what stands before a run of stores, and after it, stays
  pub take_sets : (n : ℕ) (ws l : List A) (i : ℕ) → n ≤ i → take n (sets l i ws) ≡ take n l
  take_sets n [] l i h = refl
  take_sets n (w ∷ ws) l i h = take_sets n ws (set l i w) (suc i) (omega arith) ∙ take-set-le n l i w h

  pub drop_sets : (n : ℕ) (ws l : List A) (i : ℕ) → i + length ws ≤ n → drop n (sets l i ws) ≡ drop n l
  drop_sets n [] l i h = refl
  drop_sets n (w ∷ ws) l i h = drop_sets n ws (set l i w) (suc i) (omega arith) ∙ drop-set-lt n l i w (omega arith)

  -- a turn of the loop that copies s: nothing is asked of the room, since a store past the end leaves the list as it is
  pub sets_more : (l : List A) (i : ℕ) (s : List A) (k : ℕ) (d : A) → k < length s
      → set (sets l i (take k s)) (i + k) (get_or s k d) ≡ sets l i (take (k + 1) s)
  sets_more l i s k d h =
      rw (add-one k, take-suc s k d h)
      (sets_at l i (i + k) (take k s) (get_or s k d ∷ []) (ap (λ (n : ℕ). i + n) (sym (length-take-le k s (omega arith)))))

  -- what was stored
  pub part_sets : (l : List A) (i : ℕ) (ws : List A) → i + length ws ≤ length l → take (length ws) (drop i (sets l i ws)) ≡ ws
  part_sets l i ws h =
      rw (sets-eq ws l i h, append_assoc (take i l) ws (drop (i + length ws) l), drop_at (take i l) (ws ++ drop (i + length ws) l) i (length-take-le i l (omega arith)))
      (take_at ws (drop (i + length ws) l) (length ws) refl)

  replicate_more : (k : ℕ) (v : A) → replicate k v ++ (v ∷ []) ≡ replicate (suc k) v
  replicate_more zero v = refl
  replicate_more (suc k) v = ap (λ (r : List A). v ∷ r) (replicate_more k v)

  -- a turn of the loop that fills
  pub sets_fill : (l : List A) (i k : ℕ) (v : A) → set (sets l i (replicate k v)) (i + k) v ≡ sets l i (replicate (k + 1) v)
  sets_fill l i k v =
      rw add-one (sets_at l i (i + k) (replicate k v) (v ∷ []) (ap (λ (n : ℕ). i + n) (sym (length-replicate k v))) ∙ ap (sets l i) (replicate_more k v))

  -- what lies past the end is not stored
  pub sets_out : (ws l : List A) (i : ℕ) → length l ≤ i → sets l i ws ≡ l
  sets_out [] l i h = refl
  sets_out (w ∷ ws) l i h = ap (λ (m : List A). sets m (suc i) ws) (set_out l i w h) ∙ sets_out ws l (suc i) (omega arith)

  -- as many as the room holds are enough
  pub sets_room : (l : List A) (i n : ℕ) (ws : List A) → n ≤ length ws → length l ≤ i + n → sets l i (take n ws) ≡ sets l i ws
  sets_room l i n ws g h =
      let e : n ≡ length (take n ws) = sym (length-take-le n ws g) in
      sym (sets_out (drop n ws) (sets l i (take n ws)) (i + n) (rw (length-sets l i (take n ws)) h))
      ∙ sets_at l i (i + n) (take n ws) (drop n ws) (ap (λ (k : ℕ). i + k) e)
      ∙ ap (sets l i) (take-append-drop n ws)

  pub sets_fit : (l : List A) (i : ℕ) (ws : List A) → sets l i (take (min (length ws) (length l - i)) ws) ≡ sets l i ws
  sets_fit l i ws =
      cases_le (length ws) (length l - i)
      (λ h. ap (sets l i) (take_all (min (length ws) (length l - i)) ws (omega arith)))
      (λ h. sets_room l i (min (length ws) (length l - i)) ws (omega arith) (omega arith))

  pub take_replicate : (n k : ℕ) (v : A) → n ≤ k → take n (replicate k v) ≡ replicate n v
  take_replicate zero k v h = refl
  take_replicate (suc n) zero v h = absurd (omega arith)
  take_replicate (suc n) (suc k) v h = ap (λ (r : List A). v ∷ r) (take_replicate n k v (omega arith))

  pub fill_fit : (l : List A) (i k : ℕ) (v : A) → sets l i (replicate (min k (length l - i)) v) ≡ sets l i (replicate k v)
  fill_fit l i k v =
      let n = min k (length l - i) in
      let e : take (min (length (replicate k v)) (length l - i)) (replicate k v) ≡ replicate n v =
      ap (λ (m : ℕ). take (min m (length l - i)) (replicate k v)) (length-replicate k v) ∙ take_replicate n k v (omega arith) in
      ap (sets l i) (sym e) ∙ sets_fit l i (replicate k v)

  -- the copying loop: `to` is what `to₀` became after i stores
  module _ (to₀ to : List A) (at i : ℕ) where
    module _ (from : List A) (e : to ≡ sets to₀ at (take i from)) where
      pub copy_turn : (d : A) → i < length from → set to (at + i) (get_or from i d) ≡ sets to₀ at (take (i + 1) from)
      copy_turn d h = ap (λ (l : List A). set l (at + i) (get_or from i d)) e ∙ sets_more to₀ at from i d h

      pub copy_done : i ≡ min (length from) (length to₀ - at) → to ≡ sets to₀ at from
      copy_done h = e ∙ ap (λ (n : ℕ). sets to₀ at (take n from)) h ∙ sets_fit to₀ at from

    module _ (v : A) (e : to ≡ sets to₀ at (replicate i v)) where
      pub fill_turn : set to (at + i) v ≡ sets to₀ at (replicate (i + 1) v)
      fill_turn = ap (λ (l : List A). set l (at + i) v) e ∙ sets_fill to₀ at i v

      pub fill_done : (count : ℕ) → i ≡ min count (length to₀ - at) → to ≡ sets to₀ at (replicate count v)
      fill_done count h = e ∙ ap (λ (n : ℕ). sets to₀ at (replicate n v)) h ∙ fill_fit to₀ at count v

module _ {ℓ} {A : Type ℓ} where
  -- a store past a run of stores may come first
  pub sets_set : (ws l : List A) (i j : ℕ) (v : A) → i + length ws ≤ j → sets (set l j v) i ws ≡ set (sets l i ws) j v
  sets_set [] l i j v h = refl
  sets_set (w ∷ ws) l i j v h =
      ap (λ (m : List A). sets m (suc i) ws) (set_comm l j i v w (λ e. absurd (omega arith))) ∙ sets_set ws (set l i w) (suc i) j v (omega arith)
